-- Where no frame can go out and there is no deadline, nothing waits: what a connection has to send has a timer, or waits for its hop, and that wait has an end.
use Rattle.std.proofs.Common.{◌≡◌, ℕ, ◌+◌, ◌<◌, ◌&&◌, ◌||◌, not, nat_lt, nat_le, if◌then◌else◌, Bool, true, false, cond, List, ◌∷◌, [], Contains, length, drop, Option, Some, None, is_some, refl, sym, ◌∙◌, ap, subst, arith}
use Rattle.std.specs.List.{find}
use Rattle.std.proofs.lemmas.Bool.Decides.{nat_tests}
use Rattle.std.proofs.lemmas.List.{length-drop, length-take}
use Rattle.ipv4.specs.declared.addr.Addr.{Addr}
use Rattle.ipv4.specs.declared.addr.Endpoint.{Endpoint}
use Rattle.clock.specs.declared.moment.Moment.{Moment}
use Rattle.clock.specs.Moments.{sooner}
use Rattle.tcp_segment.specs.Segment.{span_of}
use Rattle.tcp_halves.specs.Stream.{outstanding}
use Rattle.tcp_state.specs.declared.emission.Due.{Due}
use Rattle.tcp_state.specs.declared.emission.Due.TheVariants.{Rst, Syn, Text, Probe, Ack, KeepAlive}
use Rattle.tcp_state.specs.declared.emission.Stretch.{Stretch}
use Rattle.tcp_state.specs.Congestion.{KeepsCongestion}
use Rattle.tcp_state.specs.Due.{MayGoOut, IsHeld as IsHeldStretch, first_due, octets_of_stretch, probe_stretch}
use Rattle.tcp_state.specs.Hop.{end_of_hop_wait, hop_wait, unheard_until}
use Rattle.tcp_state.specs.Positions.{HasToSend, takes_numbers}
use Rattle.tcp_state.specs.Said.{segment_of}
use Rattle.tcp_state.specs.Timing.{KeepsTime, deadline, probes, retransmits}
use Rattle.tcp_state.specs.View.{View, IsSound, ends_at, reset_since}
use Rattle.tcp_state.specs.Alive.{alive_at}
use Rattle.tcp_state.proofs.GoesOut.{due-may}
use Rattle.tcp_state.proofs.Hopless.{stands_where_due}
use Rattle.tcp_state.proofs.Waiting.{goes_out as timed_or_due}
use Rattle.interface.specs.Replies.{goes_out}
use Rattle.interface.specs.Routing.{next_hop}
use Rattle.interface.specs.Ways.{way}
use Rattle.sockets.specs.declared.emission.Outgoing.{Outgoing}
use Rattle.sockets.specs.declared.emission.Outgoing.TheVariants.{Segment}
use Rattle.sockets.specs.declared.entry.Entry.{Entry}
use Rattle.sockets.specs.declared.entry.SocketId.{SocketId}
use Rattle.sockets.specs.declared.role.Role.TheVariants.{Connected}
use Rattle.sockets.specs.Entries.{deadline_of as timer_of, dues_of, segment_due}
use Rattle.sockets.specs.Lost.{waits_until}
use Rattle.sockets.specs.Sound.{IsSoundRole}
use Rattle.sockets.specs.Timing.{KeepsTimeIn, EachKeepsTime}
use Rattle.host.specs.ComesUp.{IsQuiet}
use Rattle.host.specs.HostView.{HostView}
use Rattle.host.specs.Places.{EntryOf, can_go_out, places}
use Rattle.host.specs.Runs.{HasRun}
use Rattle.host.specs.Sound.{IsSoundHost}
use Rattle.host.specs.Ticks.{least_deadline}
use Rattle.host.proofs.AskedAgain.{all-of}
use Rattle.host.proofs.ComesUp.{IsHeld, held-by, held-place, unknown-is, unwoken, unrouted-place, no-reply, no-datagram, entry-due, timer-wakes}
use Rattle.host.proofs.FrameSide.{run-side}
use Rattle.host.proofs.Hopless.{hop-wakes}
use Rattle.host.proofs.Tables.{run-timed}
use Rattle.tcp_state.specs.Tail.{tail_at}

-- How many numbers what is due takes.

stretch-spans : (v : View) (stretch : Stretch) → IsHeldStretch v stretch → 0 < length (octets_of_stretch v stretch) + 0 + (if stretch.fin then 1 else 0)
stretch-spans v stretch h =
    omega (arith, h.some, h.held, length-take stretch.count (drop stretch.offset v.sending.held), length-drop stretch.offset v.sending.held)

spans : (v : View) (due : Due) → MayGoOut v due → takes_numbers (Some due) ≡ true → 0 < span_of (segment_of v due)
spans v Rst may takes = cc
spans v Syn may takes = omega arith
spans v (Text stretch) may takes = stretch-spans v stretch may
spans v Probe may takes = stretch-spans v (probe_stretch v) may
spans v Ack may takes = cc
spans v KeepAlive may takes = cc

-- Where none of its timers runs, it waits for its hop.

neither : (a b : Option Moment) → sooner a b ≡ None → (a ≡ None) × (b ≡ None)
neither None b e = (refl, e)
neither (Some a) None e = absurd cc
neither (Some a) (Some b) e = by_test (nat_le a.0 b.0) e
  where
    by_test : (t : Bool) → cond t (Some a) (Some b) ≡ None → (◌≡◌ {A = Option Moment} (Some a) None) × (◌≡◌ {A = Option Moment} (Some b) None)
    by_test true is = absurd cc
    by_test false is = absurd cc

nothing-out : (n : ℕ) (b : Bool) → b ≡ false → (nat_lt 0 n && not b) ≡ false → n ≡ 0
nothing-out n true unprobed e = cc
nothing-out n false unprobed e = grind (arith, nat_tests, e)

which : (o : Option Due) → takes_numbers o ≡ true → (due : Due) × (o ≡ Some due) × (takes_numbers (Some due) ≡ true)
which None e = cc
which (Some due) e = (due, refl, e)

-- the first segment, and since when it waits
record WaitsFirst (c : View) : Type 0 where
  due : Due
  first : first_due c ≡ Some due
  waits : is_some (waits_until c) ≡ true

waits-first : (c : View) → IsSound c → KeepsTime c → KeepsCongestion c → HasToSend c → deadline c ≡ None → WaitsFirst c
waits-first c sound keeps network has none =
    let t = c.timers in
    let sending : Option Moment = sooner t.retransmission t.probe in
    let receiving : Option Moment = sooner t.delayed_ack t.overriding in
    let all = neither (sooner (sooner sending receiving) (ends_at c)) (sooner (alive_at c) (tail_at c)) none in
    let ends = neither (sooner sending receiving) (ends_at c) all.0 in
    let pairs = neither sending receiving ends.0 in
    let still = neither t.retransmission t.probe pairs.0 in
    let unsent : retransmits c ≡ false = sym keeps.retransmission ∙ ap (λ (o : Option Moment). is_some o) still.0 in
    let unprobed : probes c ≡ false = sym keeps.probe ∙ ap (λ (o : Option Moment). is_some o) still.1 in
    let idle : outstanding c.sending ≡ 0 = nothing-out (outstanding c.sending) (probes c) unprobed unsent in
    let numbers : takes_numbers (first_due c) ≡ true = or_false (takes_numbers (first_due c)) (deadline c) none (timed_or_due c sound keeps network has) in
    let due = which (first_due c) numbers in
    let some : is_some c.unheard ≡ true =
    (stands_where_due c sound keeps).1 (omega (arith, idle, sound.una, sound.nxt), (due.0, due.1, spans c due.0 (due-may c due.0 sound due.1) due.2)) in
    record { due = due.0; first = due.1; waits = by_unheard c.unheard refl some }
  where
    or_false : (b : Bool) (o : Option Moment) → o ≡ None → (b || is_some o) ≡ true → b ≡ true
    or_false true o n e = refl
    or_false false None n e = cc
    or_false false (Some m) n e = cc

    by_reset : (o : Option Moment) → reset_since c ≡ o → is_some (unheard_until c) ≡ true → is_some (waits_until c) ≡ true
    by_reset None e some = rw e some
    by_reset (Some since) e some = rw e refl

    by_unheard : (o : Option Moment) → c.unheard ≡ o → is_some o ≡ true → is_some (waits_until c) ≡ true
    by_unheard None e some = cc
    by_unheard (Some since) e some = by_reset (reset_since c) refl (ap (λ (u : Option Moment). is_some (end_of_hop_wait u (hop_wait c))) e)

-- So it has a deadline.

pub nothing-to-send : (h : HostView) → IsSoundHost h → EachKeepsTime h.sockets → find (can_go_out h h.sockets.kept) (places h) ≡ None → least_deadline h ≡ None
    → (e : Entry) (c : View) (l : Option SocketId) → Contains h.sockets.entries e → e.role ≡ Connected c l → is_some (next_hop h.interface.routes c.peer.addr) ≡ true → HasToSend c → ⊥
nothing-to-send h sound timed none quiet e c l at is routed has = by_deadline (deadline c) refl
  where
    solid : IsSoundRole (Connected c l)
    solid = subst IsSoundRole is (all-of (λ (x : Entry). IsSoundRole x.role) h.sockets.entries e sound.table.entries at)

    keeps : KeepsTimeIn (Connected c l)
    keeps = subst KeepsTimeIn is (all-of (λ (x : Entry). KeepsTimeIn x.role) h.sockets.entries e timed at)

    by_wait : (hop : Addr) → IsHeld h h.sockets.kept c.peer.addr hop → (o : Option Moment) → waits_until c ≡ o → is_some o ≡ true → ⊥
    by_wait hop held None waits some = cc
    by_wait hop held (Some until) waits some = unwoken h until quiet (hop-wakes h e c l until at is (ap not (unknown-is h h.sockets.kept c.peer.addr hop held)) waits)

    held : WaitsFirst c → ⊥
    held waits =
        let here : dues_of e.role ≡ (c.peer, Segment waits.due) ∷ [] = ap dues_of is ∙ ap (segment_due c.peer) waits.first in
        let among : Contains (dues_of e.role) (c.peer, Segment waits.due) = subst (λ (ds : List (Endpoint × Outgoing)). Contains ds (c.peer, Segment waits.due)) (sym here) (0, omega arith, refl) in
        let stays : goes_out (way h.interface h.sockets.kept c.peer.addr) ≡ false = held-place h (EntryOf e c.peer (Segment waits.due)) none (entry-due h e c.peer (Segment waits.due) at among) in
        let by = held-by h h.sockets.kept c.peer.addr routed stays in
        by_wait by.0 by.1 (waits_until c) refl waits.waits

    by_deadline : (o : Option Moment) → deadline c ≡ o → ⊥
    by_deadline None ends = held (waits-first c solid.sound keeps.0 keeps.1 has ends)
    by_deadline (Some m) ends = unwoken h m quiet (timer-wakes h e m at (ap timer_of is ∙ ends))

pub quiet-of-run : (h : HostView) → IsSoundHost h → HasRun h → find (can_go_out h h.sockets.kept) (places h) ≡ None → least_deadline h ≡ None → IsQuiet h
quiet-of-run h sound run none quiet =
    let keeps = run-side run.config run.events h run.runs in
    record {
      replies = no-reply h run.config.routes run.config.sizes.neighbours run.config.sizes.replies keeps none quiet;
      due = unrouted-place h keeps.few none quiet;
      datagrams = no-datagram h keeps.few none quiet;
      connections = λ e c l at is routed waits. nothing-to-send h sound (run-timed run.config run.events h run.runs) none quiet e c l at is routed waits;
    }
