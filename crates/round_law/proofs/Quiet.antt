-- Why a minute at a quiet host is one of its connection, and leaves the way to the peer.
use Rattle.host.proofs.Late.{expired-few}
use Rattle.std.proofs.Common.{◌≡◌, ◌≢◌, ◌+◌, ◌^◌, ◌<◌, nat_lt, true, false, List, ◌∷◌, Option, Some, None, is_some, arith, refl, sym, ◌∙◌, ap, subst, filter, length, [], ◌≤◌}
use Rattle.std.specs.List.{AllByRecursion}
use Rattle.std.proofs.lemmas.Bool.{lt-ltb}
use Rattle.clock.specs.declared.moment.Moment.{Moment}
use Rattle.ether.specs.declared.mac.Mac.{Mac}
use Rattle.ipv4.specs.declared.addr.Addr.{Addr}
use Rattle.ipv4.specs.Addresses.{same_addr}
use Rattle.arp.specs.Cache.{Cache, after_age}
use Rattle.arp.proofs.Kept.{aging_hides_nothing}
use Rattle.reassembly.specs.Places.{expired}
use Rattle.interface.specs.declared.reply.Waiting.{Waiting}
use Rattle.interface.specs.InterfaceView.{InterfaceView}
use Rattle.interface.specs.Routing.{next_hop}
use Rattle.interface.specs.declared.way.Way.TheVariants.{To}
use Rattle.interface.specs.Ways.{mac_of, hop_mac, way_by_mac, way_over, way}
use Rattle.interface.specs.Timing.{stays, after_tick as interface_after_tick}
use Rattle.tcp_halves.proofs.Choices.{either, clash}
use Rattle.tcp_state.specs.View.{View, is_closed}
use Rattle.tcp_state.specs.Congestion.{KeepsCongestion}
use Rattle.tcp_state.specs.Timing.{KeepsTime, after_tick as after_tick_of}
use Rattle.sockets.specs.declared.entry.Entry.{Entry}
use Rattle.sockets.specs.declared.entry.SocketId.{SocketId}
use Rattle.sockets.specs.Order.{LiesAt}
use Rattle.sockets.specs.SocketsView.{SocketsView, later_moment}
use Rattle.sockets.specs.Steps.{connected}
use Rattle.sockets.specs.Timing.{KeepsTimeIn}
use Rattle.sockets.proofs.Ends.{same_addr-same}
use Rattle.sockets.proofs.Led.{reached_ordered}
use Rattle.host.specs.HostView.{HostView}
use Rattle.host.specs.Ticks.{all_reported}
use Rattle.round_law.specs.Alone.{IsKept, IsAlone}
use Rattle.round_law.specs.Exchange.{minute_past, after_minute}
use Rattle.round_law.specs.Progress.{IsQuiet}
use Rattle.round_law.proofs.Edge.{EndsAtNumber, windows_end}
use Rattle.round_law.proofs.Found.{alone_there, none_waits}
use Rattle.round_law.proofs.Reports.{IsReport, HasReported, reported_so, fewer}
use Rattle.round_law.proofs.Retained.{all_back}
use Rattle.round_law.proofs.Ticked.{ticked_alone}

-- What a host keeps holds of its connection.

own : (h : HostView) (id : SocketId) (c : View) (P : Entry → Type 0) → IsAlone h id c → AllByRecursion P h.sockets.entries → P (connected id c None)
own h id c P alone all = (all_back P alone.before (connected id c None ∷ alone.behind) (subst (λ (l : List Entry). AllByRecursion P l) alone.entries all)).0

pub own_time : (h : HostView) (id : SocketId) (c : View) → IsKept h → IsAlone h id c → KeepsTime c × KeepsCongestion c
own_time h id c kept alone = own h id c (λ (e : Entry). KeepsTimeIn e.role) alone kept.time

-- its window ends at a number
pub own_edge : (h : HostView) (id : SocketId) (c : View) → IsKept h → IsAlone h id c → c.receiving.edge < 2 ^ 32
own_edge h id c kept alone = own h id c (λ (e : Entry). EndsAtNumber e.role) alone (windows_end h.sockets kept.reached)

lies : (h : HostView) (id : SocketId) (c : View) → IsKept h → IsAlone h id c → (c.local.addr ≡ h.sockets.addr) × (same_addr c.peer.addr h.sockets.addr ≡ false)
lies h id c kept alone = own h id c (λ (e : Entry). LiesAt h.sockets.addr e.role) alone (reached_ordered h.sockets kept.reached).own

pub own_end : (h : HostView) (id : SocketId) (c : View) → IsKept h → IsAlone h id c → c.local.addr ≡ h.sockets.addr
own_end h id c kept alone = (lies h id c kept alone).0

pub other_end : (h : HostView) (id : SocketId) (c : View) → IsKept h → IsAlone h id c → h.interface.addr ≢ c.peer.addr
other_end h id c kept alone same = clash (same_addr c.peer.addr h.sockets.addr) (same_addr-same c.peer.addr h.sockets.addr (sym same ∙ kept.sound.own)) (lies h id c kept alone).1

-- The minute.

minute_is : (now : Moment) → now.0 < 2 ^ 63 → (let later = minute_past now in later.0) ≡ now.0 + 60000
minute_is now early = omega (arith, early)

minute_later : (t : SocketsView) → t.kept.0 < 2 ^ 63 → later_moment t (minute_past t.kept) ≡ minute_past t.kept
minute_later t early =
    let later = minute_past t.kept in
    let after : nat_lt t.kept.0 later.0 ≡ true = lt-ltb t.kept.0 later.0 (omega (arith, minute_is t.kept early)) in
    either Moment (λ m. m ≡ later) (nat_lt t.kept.0 later.0) later t.kept (λ before. refl) (λ not_before. clash (nat_lt t.kept.0 later.0) after not_before)

-- The way.

aged_mac : (now : Moment) (cache : Cache) (hop : Option Addr) → mac_of now (after_age now cache) hop ≡ mac_of now cache hop
aged_mac now cache None = refl
aged_mac now cache (Some hop) = aging_hides_nothing cache now now hop (omega arith)

way_known : (now : Moment) (cache : Cache) (hop : Option Addr) (mac : Mac) → mac_of now cache hop ≡ Some mac → way_over now cache hop ≡ To mac
way_known now cache None mac known = cc
way_known now cache (Some hop) mac known = ap (way_by_mac now cache.asked hop) known

module _ (h : HostView) (id : SocketId) (c : View) (mac : Mac) (quiet : IsQuiet h id c mac) where
  abbrev later : Moment
  later = minute_past h.sockets.kept

  at : later_moment h.sockets later ≡ later
  at = minute_later h.sockets quiet.early

  pub minute_kept : (let g = after_minute h in g.sockets.kept) ≡ later
  minute_kept = ap (later_moment h.sockets) at ∙ at

  -- what is reported waits then, and else the frame side is that after a tick
  pub minute_reports : HasReported c.peer.addr 16 (interface_after_tick h.interface later) (let g = after_minute h in g.interface)
  minute_reports =
      let i = interface_after_tick h.interface later in
      let none : i.replies ≡ [] = ap (λ (l : List Waiting). filter (stays h.interface later) l) (none_waits h id c mac quiet) in
      let most : 0 + length (expired later h.pool) ≤ 16 = let sound = quiet.kept.sound in omega (arith, expired-few later h.pool.places, sound.pool) in
      subst (HasReported c.peer.addr 16 i) (sym (ap (λ (m : Moment). all_reported m (interface_after_tick h.interface m) (expired m h.pool)) at))
      (fewer 16 most (reported_so later c.peer.addr 0 (expired later h.pool) i quiet.reports (subst (λ (l : List Waiting). AllByRecursion (IsReport c.peer.addr) l) (sym none) tt) (let len : length i.replies ≡ 0 = ap length none in omega (arith, len))))

  pub minute_way : (let g = after_minute h in way g.interface g.sockets.kept c.peer.addr) ≡ To mac
  minute_way =
      let g = after_minute h in
      ap (λ (m : Moment). way g.interface m c.peer.addr) minute_kept
      ∙ (ap (λ (i : InterfaceView). way i later c.peer.addr) minute_reports.same
      ∙ way_known later (after_age later h.interface.cache) (next_hop h.interface.routes c.peer.addr) mac (aged_mac later h.interface.cache (next_hop h.interface.routes c.peer.addr) ∙ quiet.way))

  pub minute_alone : is_closed (after_tick_of c later).state ≡ false → IsAlone (after_minute h) id (after_tick_of c later)
  minute_alone lives =
      subst (λ (m : Moment). IsAlone (after_minute h) id (after_tick_of c m)) at
      (ticked_alone h id c later quiet.kept (alone_there h id c mac quiet)
      (ap (λ (m : Moment). is_some (hop_mac h.interface m c.peer.addr)) at ∙ ap (λ (o : Option Mac). is_some o) quiet.way)
      (ap (λ (m : Moment). is_closed (after_tick_of c m).state) at ∙ lives))
