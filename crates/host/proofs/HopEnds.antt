-- That no connection waits for its hop for ever, at a host that ticks at its deadlines: by what `duties::waits_for_hops_end` says of its ends.
use Rattle.std.proofs.Common.{◌≡◌, inl, inr, ◌≤◌, ◌<◌, ◌&&◌, not, Bool, true, false, cond, if◌then◌else◌, List, [], ◌∷◌, Contains, take, Option, Some, refl, sym, ◌∙◌, ap, subst, arith}
use Rattle.std.proofs.lemmas.Bool.Decides.{nat_tests}
use Rattle.ipv4.specs.declared.addr.Addr.{Addr}
use Rattle.clock.specs.declared.moment.Moment.{Moment}
use Rattle.clock.specs.Moments.{after, has_come}
use Rattle.tcp_state.specs.Hop.{end_of_hop_wait, hop_wait}
use Rattle.tcp_state.specs.View.{View, is_syn_received}
use Rattle.interface.specs.declared.reply.Reply.{Reply}
use Rattle.interface.specs.declared.reply.Reply.TheVariants.{Error}
use Rattle.interface.specs.InterfaceView.{InterfaceView}
use Rattle.interface.specs.Replies.{is_full, owed, queued}
use Rattle.interface.specs.Timing.{after_tick as interface_after_tick}
use Rattle.interface.specs.Ways.{is_routed, knows_hop}
use Rattle.interface.proofs.Waits.{aging_hides_no_hop}
use Rattle.icmp.specs.declared.error.Reason.TheVariants.{ReassemblyTimeExceeded}
use Rattle.reassembly.specs.declared.expired.Expired.{Expired}
use Rattle.reassembly.specs.Places.{expired}
use Rattle.sockets.specs.declared.entry.Entry.{Entry}
use Rattle.sockets.specs.declared.entry.SocketId.{SocketId}
use Rattle.sockets.specs.declared.role.Role.TheVariants.{Connected}
use Rattle.sockets.specs.Closing.{entry_of}
use Rattle.sockets.specs.Lost.{waits_until}
use Rattle.sockets.specs.Sound.{IsSoundRole}
use Rattle.sockets.specs.SocketsView.{later_moment}
use Rattle.sockets.specs.Steps.{connected}
use Rattle.sockets.specs.Timing.{KeepsTimeIn}
use Rattle.sockets.proofs.Followed.{by_test}
use Rattle.sockets.proofs.HopEnds.{unowing}
use Rattle.sockets.proofs.HopOver.{none_waits_at_tick}
use Rattle.host.specs.ComesUp.{HasEnded, IsWokenBy, WaitsSince, most_wait}
use Rattle.host.specs.HostView.{HostView}
use Rattle.host.specs.Runs.{HasRun}
use Rattle.host.specs.Sound.{IsSoundHost}
use Rattle.host.specs.Ticks.{after_tick, all_reported, lacks_hop, least_deadline, reported}
use Rattle.host.proofs.AskedAgain.{all-of}
use Rattle.host.proofs.Hopless.{hop-told, hop-left, hop-half_open, hop-wakes}
use Rattle.host.proofs.Ran.{keeps-timed}
use Rattle.host.proofs.Waiting.{later-twice}

-- Until the deadline has come none has waited so long.
pub hop-in_time : (h : HostView) (now : Moment) (e : Entry) (c : View) (listener : Option SocketId) (since : Moment) → IsSoundHost h → HasRun h → Contains h.sockets.entries e → e.role ≡ Connected c listener
    → WaitsSince h h.sockets.kept c since → has_come (least_deadline h) now ≡ false → now.0 < (let end = after since (most_wait c) in end.0)
hop-in_time h now e c listener since sound run at is waits early =
    let solid : IsSoundRole (Connected c listener) = subst IsSoundRole is (all-of (λ (x : Entry). IsSoundRole x.role) h.sockets.entries e sound.table.entries at) in
    let timed : KeepsTimeIn (Connected c listener) = subst KeepsTimeIn is (all-of (λ (x : Entry). KeepsTimeIn x.role) h.sockets.entries e (keeps-timed h run) at) in
    let until : waits_until c ≡ Some (after since (most_wait c)) =
    rw (unowing c since solid.sound timed.0 waits.due) (ap (λ (o : Option Moment). end_of_hop_wait o (hop_wait c)) waits.due) in
    let woken : IsWokenBy h (after since (most_wait c)) = hop-wakes h e c listener (after since (most_wait c)) at is waits.unknown until in
    before woken.0 (after since (most_wait c)) (ap (λ (o : Option Moment). has_come o now) (sym woken.1) ∙ early) woken.2
  where
    before : (deadline end : Moment) → has_come (Some deadline) now ≡ false → deadline.0 ≤ end.0 → now.0 < end.0
    before deadline end early order = grind (arith, nat_tests, early, order)

-- A tick ends each that has.
pub hop-ends : (h : HostView) (now : Moment) (id : SocketId) (c : View) (listener : Option SocketId) (since : Moment) → IsSoundHost h → HasRun h → entry_of h.sockets id ≡ Some (connected id c listener)
    → WaitsSince h (later_moment h.sockets now) c since → (let end = after since (most_wait c) in end.0) ≤ (let at = later_moment h.sockets now in at.0) → HasEnded (after_tick h now) id listener
hop-ends h now id c listener since sound run is waits over =
    by_test (c.passive && is_syn_received c.state)
    (λ opens. inl (hop-half_open h now id c listener sound run is since waits.due waits.unknown opens (by_wait true opens)))
    (λ past. by_test c.released
    (λ gone. inl (hop-left h now id c listener sound run is since waits.due waits.unknown past gone (by_wait false past)))
    (λ held. inr (hop-told h now id c listener sound run is since waits.due waits.unknown past held (by_wait false past))))
  where
    by_wait : (b : Bool) → (c.passive && is_syn_received c.state) ≡ b → (let end = after since (if b then 3000 else 483000) in end.0) ≤ (let at = later_moment h.sockets now in at.0)
    by_wait b is_so = subst (λ (x : Bool). (let end = after since (if x then 3000 else 483000) in end.0) ≤ (let at = later_moment h.sockets now in at.0)) is_so over

-- What a tick reports hides no hop, and makes none known.

owed-known : (is_owed : Bool) (moment : Moment) (r : Reply) (i : InterfaceView) (to : Addr) → knows_hop (owed is_owed moment r i) moment to ≡ knows_hop i moment to
owed-known is_owed moment r i to = by_room (is_owed && not (is_full i))
  where
    by_room : (b : Bool) → knows_hop (cond b (queued moment r i) i) moment to ≡ knows_hop i moment to
    by_room true = refl
    by_room false = refl

all-known : (moment : Moment) (datagrams : List Expired) (i : InterfaceView) (to : Addr) → knows_hop (all_reported moment i datagrams) moment to ≡ knows_hop i moment to
all-known moment [] i to = refl
all-known moment (d ∷ ds) i to = all-known moment ds (reported moment i d) to ∙ owed-known (is_routed i d.key.source) moment (Error d.key.source ReassemblyTimeExceeded (take 68 d.quote)) i to

left-known : (h : HostView) (now : Moment) (to : Addr) → (let left = after_tick h now in lacks_hop left left.sockets.kept to) ≡ lacks_hop h (later_moment h.sockets now) to
left-known h now to =
    let moment : Moment = later_moment h.sockets now in
    let left : HostView = after_tick h now in
    ap (λ (m : Moment). lacks_hop left m to) (later-twice h.sockets now)
    ∙ ap (λ (b : Bool). not b) (all-known moment (expired moment h.pool) (interface_after_tick h.interface moment) to ∙ aging_hides_no_hop h.interface moment to)

-- So none is left that has.
pub hop-none_left : (h : HostView) (now : Moment) (e : Entry) (c : View) (listener : Option SocketId) (since : Moment) → IsSoundHost h → HasRun h → (let left = after_tick h now in
    Contains left.sockets.entries e → e.role ≡ Connected c listener → WaitsSince left left.sockets.kept c since → left.sockets.kept.0 < (let end = after since (most_wait c) in end.0))
hop-none_left h now e c listener since sound run at is waits =
    let moment : Moment = later_moment h.sockets now in
    let left : HostView = after_tick h now in
    all-of
    (λ (x : Entry). (d : View) (listener : Option SocketId) (since : Moment) → x.role ≡ Connected d listener → d.unheard ≡ Some since → lacks_hop h moment d.peer.addr ≡ true
    → (let m = later_moment h.sockets moment in m.0) < (let end = after since (if d.passive && is_syn_received d.state then 3000 else 483000) in end.0))
    left.sockets.entries e (none_waits_at_tick h.sockets (lacks_hop h moment) moment sound.table (keeps-timed h run)) at c listener since is waits.due (sym (left-known h now c.peer.addr) ∙ waits.unknown)
