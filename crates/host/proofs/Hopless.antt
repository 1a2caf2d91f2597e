-- How the wait of a connection for its hop ends at a host, and that the deadline names its end.
use Rattle.std.proofs.Common.{◌≡◌, ◌≤◌, ◌<◌, ◌&&◌, ◌||◌, Bool, true, false, Contains, cond, Option, Some, None, sym, ◌∙◌, ap, subst}
use Rattle.std.specs.List.{list_any}
use Rattle.clock.specs.declared.moment.Moment.{Moment}
use Rattle.clock.specs.Moments.{after, has_come}
use Rattle.clock.proofs.Comings.{sooner-has_come}
use Rattle.interface.specs.Timing.{least_deadline as reply_deadline}
use Rattle.reassembly.specs.Places.{next_deadline as pool_deadline}
use Rattle.tcp_state.specs.declared.calls.Refusal.TheVariants.{ETIMEDOUT}
use Rattle.tcp_state.specs.Said.{IsClosedBy}
use Rattle.tcp_state.specs.Timing.{gives_up}
use Rattle.tcp_state.specs.View.{View, is_syn_received}
use Rattle.sockets.specs.declared.entry.Entry.{Entry}
use Rattle.sockets.specs.declared.entry.SocketId.{SocketId}
use Rattle.sockets.specs.declared.role.Role.TheVariants.{Connected}
use Rattle.sockets.specs.Causes as table
use Rattle.sockets.specs.Closing.{entry_of}
use Rattle.sockets.specs.Entries.{dues_of}
use Rattle.sockets.specs.Lost.{give_up_at, waits_until}
use Rattle.sockets.specs.SocketsView.{later_moment}
use Rattle.sockets.specs.Steps.{connected, connection_left}
use Rattle.sockets.specs.Ticks.{least_deadline as timer_deadline}
use Rattle.sockets.proofs.HopEnds.{known_at_tick, early_at_tick, half_open_early_at_tick, told_at_tick, left_at_tick, half_open_at_tick}
use Rattle.host.specs.ComesUp.{IsWokenBy}
use Rattle.host.specs.HostView.{HostView}
use Rattle.host.specs.Runs.{HasRun}
use Rattle.host.specs.Sound.{IsSoundHost}
use Rattle.host.specs.Ticks.{after_tick, hop_deadline, lacks_hop, request_deadline}
use Rattle.host.proofs.AskedAgain.{or-left, or-right, same-comes, any-of}
use Rattle.host.proofs.ComesUp.{woken}
use Rattle.host.proofs.Ran.{keeps-ordered, keeps-timed}
use Rattle.host.proofs.Waiting.{deadline-come, later-twice}

module _ (h : HostView) (now : Moment) (id : SocketId) (c : View) (listener : Option SocketId) (sound : IsSoundHost h) (run : HasRun h) (is : entry_of h.sockets id ≡ Some (connected id c listener)) where
  abbrev moment : Moment
  moment = later_moment h.sockets now

  twice : later_moment h.sockets moment ≡ moment
  twice = later-twice h.sockets now

  pub hop-known : lacks_hop h (later_moment h.sockets now) c.peer.addr ≡ false
      → (let left = after_tick h now in entry_of left.sockets id) ≡ connection_left h.sockets (table.Ticks (later_moment h.sockets now)) id c listener
  hop-known reached = known_at_tick h.sockets (lacks_hop h moment) moment id c listener (keeps-ordered h run) is sound.table (keeps-timed h run) reached

  module _ (since : Moment) (waits : c.unheard ≡ Some since) where
    pub hop-told : lacks_hop h (later_moment h.sockets now) c.peer.addr ≡ true → (c.passive && is_syn_received c.state) ≡ false → c.released ≡ false
        → (let end = after since 483000 in end.0) ≤ (let at = later_moment h.sockets now in at.0)
        → (let left = after_tick h now in (d : View) × (entry_of left.sockets id ≡ Some (connected id d listener)) × IsClosedBy ETIMEDOUT d)
    hop-told unreached past held over =
        told_at_tick h.sockets (lacks_hop h moment) moment id c listener (keeps-ordered h run) is sound.table (keeps-timed h run) since waits unreached past held (subst (λ (m : Moment). (let end = after since 483000 in end.0) ≤ m.0) (sym twice) over)

    pub hop-left : lacks_hop h (later_moment h.sockets now) c.peer.addr ≡ true → (c.passive && is_syn_received c.state) ≡ false → c.released ≡ true
        → (let end = after since 483000 in end.0) ≤ (let at = later_moment h.sockets now in at.0) → (let left = after_tick h now in entry_of left.sockets id) ≡ None
    hop-left unreached past gone over =
        left_at_tick h.sockets (lacks_hop h moment) moment id c listener (keeps-ordered h run) is sound.table (keeps-timed h run) since waits unreached past gone (subst (λ (m : Moment). (let end = after since 483000 in end.0) ≤ m.0) (sym twice) over)

    pub hop-half_open : lacks_hop h (later_moment h.sockets now) c.peer.addr ≡ true → (c.passive && is_syn_received c.state) ≡ true
        → (let end = after since 3000 in end.0) ≤ (let at = later_moment h.sockets now in at.0) → (let left = after_tick h now in entry_of left.sockets id) ≡ None
    hop-half_open unreached opens over =
        half_open_at_tick h.sockets (lacks_hop h moment) moment id c listener (keeps-ordered h run) is sound.table (keeps-timed h run) since waits unreached opens (subst (λ (m : Moment). (let end = after since 3000 in end.0) ≤ m.0) (sym twice) over)

    pub hop-early : (c.passive && is_syn_received c.state) ≡ false → gives_up c (later_moment h.sockets now) ≡ false → (let at = later_moment h.sockets now in at.0) < (let end = after since 483000 in end.0)
        → (let left = after_tick h now in entry_of left.sockets id) ≡ connection_left h.sockets (table.Ticks (later_moment h.sockets now)) id c listener
    hop-early past lives early =
        early_at_tick h.sockets (lacks_hop h moment) moment id c listener (keeps-ordered h run) is sound.table (keeps-timed h run) since waits past (ap (gives_up c) twice ∙ lives)
        (subst (λ (m : Moment). m.0 < (let end = after since 483000 in end.0)) (sym twice) early)

    pub hop-half_open_early : (c.passive && is_syn_received c.state) ≡ true → gives_up c (later_moment h.sockets now) ≡ false → (let at = later_moment h.sockets now in at.0) < (let end = after since 3000 in end.0)
        → (let left = after_tick h now in entry_of left.sockets id) ≡ connection_left h.sockets (table.Ticks (later_moment h.sockets now)) id c listener
    hop-half_open_early opens lives early =
        half_open_early_at_tick h.sockets (lacks_hop h moment) moment id c listener (keeps-ordered h run) is sound.table (keeps-timed h run) since waits opens (ap (gives_up c) twice ∙ lives)
        (subst (λ (m : Moment). m.0 < (let end = after since 3000 in end.0)) (sym twice) early)

-- While its hop isn't known, the host is woken by the end of the wait.
pub hop-wakes : (h : HostView) (e : Entry) (c : View) (listener : Option SocketId) (until : Moment) → Contains h.sockets.entries e → e.role ≡ Connected c listener → lacks_hop h h.sockets.kept c.peer.addr ≡ true → waits_until c ≡ Some until
    → IsWokenBy h until
hop-wakes h e c listener until at is unreached waits =
    let gives : Option Moment = give_up_at (lacks_hop h h.sockets.kept) e.role in
    let asks : Option Moment = request_deadline h (dues_of e.role) in
    let own : gives ≡ Some until =
    ap (give_up_at (lacks_hop h h.sockets.kept)) is ∙ ap (λ (b : Bool). cond b (waits_until c) None) unreached ∙ waits in
    let come : has_come (hop_deadline h e) until ≡ true =
    sooner-has_come gives asks until ∙ or-left (has_come gives until) (has_come asks until) (ap (λ (o : Option Moment). has_come o until) own ∙ same-comes until) in
    woken h until (deadline-come h until
    ∙ or-right (has_come (timer_deadline h.sockets) until || has_come (reply_deadline h.interface h.sockets.kept) until || has_come (pool_deadline h.pool) until) (list_any (λ x. has_come (hop_deadline h x) until) h.sockets.entries)
    (any-of (λ (x : Entry). has_come (hop_deadline h x) until) h.sockets.entries e at come))
