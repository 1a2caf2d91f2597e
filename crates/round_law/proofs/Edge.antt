-- Why the window of each connection of a table that was reached ends at a number of 32 bits.
use Rattle.std.proofs.Common.{◌≡◌, ℕ, ◌+◌, ◌%◌, ◌^◌, ◌<◌, ◌==◌, ◌||◌, not, nat_le, List, [], ◌∷◌, length, Option, Some, None, arith, refl, sym, subst}
use Rattle.std.specs.List.{AllByRecursion}
use Rattle.clock.specs.declared.moment.Moment.{Moment}
use Rattle.tcp_segment.specs.Segment.{Segment}
use Rattle.tcp_halves.specs.Halves.{Receiving}
use Rattle.tcp_segment.specs.declared.TheConstants.{MSS}
use Rattle.tcp_halves.specs.Stream.{receive_window}
use Rattle.tcp_halves.specs.Windows.{receive_room, has_grown, whole_units, syn_window}
use Rattle.tcp_halves.proofs.Choices.{either}
use Rattle.tcp_state.specs.declared.emission.Due.{Due}
use Rattle.tcp_state.specs.declared.emission.Due.TheVariants.{Rst, Syn, Text, Probe, Ack, KeepAlive}
use Rattle.tcp_state.specs.View.{View, is_syn_received}
use Rattle.tcp_state.specs.Arrival.{is_receiving, after_ack, after_window, after_text, after_heard}
use Rattle.tcp_state.specs.Due.{first_due, after_ack_paid, after_syn_ack_paid, after_syn_out, after_stretch, after_probe, after_emitted}
use Rattle.tcp_state.specs.Edges.{after_first, after_event}
use Rattle.tcp_state.specs.Edges as edge
use Rattle.tcp_state.proofs.Clocked.{ticks_keep, syn_out}
use Rattle.tcp_state.proofs.Emissions.{numbers_receive, stretch_receives, probe_receives}
use Rattle.tcp_state.proofs.Events.{by_event}
use Rattle.tcp_state.proofs.Segments.{by_ack, by_fin, by_hearing}
use Rattle.sockets.specs.declared.entry.Entry.{Entry}
use Rattle.sockets.specs.declared.role.Role.{Role}
use Rattle.sockets.specs.declared.role.Role.TheVariants.{Idle, Listener, Connected, Datagrams}
use Rattle.sockets.specs.Causes.{Event, after_event as table_after_event}
use Rattle.sockets.specs.Offered.{IsReached}
use Rattle.sockets.specs.SocketsView.{SocketsView, new_sockets}
use Rattle.sockets.specs.Traffic.{after_events}
use Rattle.sockets.proofs.Followed.{all_followed, all_joined}
use Rattle.sockets.proofs.Steps.{IsStepOf, stays, moves, binds, listens, opens, accepted, requeues, binds_datagrams, IsJoining, made, made_datagrams, called, IsStepped, followed, joined, stepped}

-- One connection.

abbrev Keeps : View → View → Type 0
Keeps v w = v.receiving.edge < 2 ^ 32 → w.receiving.edge < 2 ^ 32

acked : (v : View) (ack : ℕ) → Keeps v (after_ack v ack)
acked v ack = by_ack (Keeps v) v ack (record { old = λ small. small; beyond = λ small. small; opens = λ received new small. small; octets = λ new small. small; fin = λ new fin small. small })

windowed : (v : View) (s : Segment) → Keeps v (after_window (after_ack v s.acknowledgement) s)
windowed v s = acked v s.acknowledgement

texted : (v : View) (s : Segment) → Keeps v (after_text (after_window (after_ack v s.acknowledgement) s) s)
texted v s =
    let w = after_window (after_ack v s.acknowledgement) s in
    either View (Keeps v) ((length s.octets == 0) || not (is_receiving w.state)) w _ (λ none. windowed v s) (λ some. windowed v s)

heard : (v : View) (s : Segment) → Keeps v (after_heard v s)
heard v s =
    let text = after_text (after_window (after_ack v s.acknowledgement) s) s in
    by_hearing (Keeps v) v s (windowed v s) (record {
      dropped = λ small. small;
      drawn = λ small. small;
      reset = λ acts small. small;
      crossed = λ waits small. omega arith;
      opened = λ waits right small. omega arith;
      acknowledged = λ taken. acked v s.acknowledgement;
      read = λ on. by_fin (Keeps v) text s (λ counts. texted v s) (texted v s) (texted v s);
    })

paid : (v w : View) → w.receiving ≡ v.receiving → Keeps v (after_ack_paid w)
paid v w same small =
    let r = w.receiving in
    either Receiving (λ t. t.edge < 2 ^ 32) (has_grown r) (record r { edge = (r.rnext + whole_units r.unit (receive_room r)) % 2 ^ 32 }) r (λ grown. omega arith) (λ told. subst (λ (t : Receiving). t.edge < 2 ^ 32) (sym same) small)

paid_by_syn : (v w : View) → w.receiving ≡ v.receiving → Keeps v (after_syn_ack_paid w)
paid_by_syn v w same small =
    let r = w.receiving in
    either Receiving (λ t. t.edge < 2 ^ 32) (nat_le (receive_window r + MSS) (syn_window r)) (record r { edge = (r.rnext + syn_window r) % 2 ^ 32 }) r (λ grown. omega arith)
    (λ told. subst (λ (t : Receiving). t.edge < 2 ^ 32) (sym same) small)

went_out : (v : View) (due : Due) (now : Moment) → Keeps v (after_emitted v due now)
went_out v Rst now small = small
went_out v Syn now small =
    let sent = after_syn_out v now in
    let receives : sent.receiving ≡ v.receiving = syn_out v now (λ w. w.receiving ≡ v.receiving) (numbers_receive v 0 1 now) (numbers_receive v 0 1 now) in
    either View (λ w. w.receiving.edge < 2 ^ 32) (is_syn_received v.state) (after_syn_ack_paid sent) sent (λ received. paid_by_syn v sent receives small) (λ first. subst (λ (t : Receiving). t.edge < 2 ^ 32) (sym receives) small)
went_out v (Text stretch) now small = paid v (after_stretch v stretch now) (stretch_receives v stretch now) small
went_out v Probe now small = paid v (after_probe v) (probe_receives v) small
went_out v Ack now small = paid v v refl small
went_out v KeepAlive now small = paid v v refl small

emitted : (v : View) (o : Option Due) (now : Moment) → Keeps v (after_first v o now)
emitted v None now small = small
emitted v (Some due) now small = went_out v due now small

edge_kept : (v : View) (e : edge.Event) → Keeps v (after_event v e)
edge_kept v e = by_event (λ e w. Keeps v w) v (record {
  same = λ e small. small;
  asks = λ e alive small. small;
  silent = λ now small. small;
  heard = λ s now lives. heard v s;
  over = λ now ends small. small;
  given_up = λ now waits expired small. small;
  acts = λ now small. subst (λ (w : View). w.receiving.edge < 2 ^ 32) (sym (ticks_keep v now)) small;
  emits = λ now. emitted v (first_due v) now;
  sends = λ octets taken now opened small. small;
  reads = λ len small. small;
  shuts = λ now small. small;
  delays = λ on now small. small;
  leaves = λ now lives small. small;
  aborts = λ e now at cause lives small. small;
  refused = λ number hit small. small;
  hopless = λ now over small. small;
}) e

-- Each of a table.

abbrev pub EndsAtNumber : Role → Type 0
EndsAtNumber (Connected c listener) = c.receiving.edge < 2 ^ 32
EndsAtNumber (Listener local backlog) = Unit {0}
EndsAtNumber (Idle buffers bound) = Unit {0}
EndsAtNumber (Datagrams bound socket) = Unit {0}

abbrev pub EachEndsAtNumber : SocketsView → Type 0
EachEndsAtNumber h = AllByRecursion (λ (e : Entry). EndsAtNumber e.role) h.entries

step_kept : (h : SocketsView) (e : Event) → (x y : Entry) → IsStepOf h e x (Some y) → EndsAtNumber x.role → EndsAtNumber y.role
step_kept h e x _ stays small = small
step_kept h e _ _ (moves ev id c l meets kept) small = edge_kept c ev small
step_kept h _ _ _ (binds named asked id buffers bound local names) small = tt
step_kept h _ _ _ (listens named backlog id buffers local names) small = tt
step_kept h _ _ _ (opens now isn named peer routed id buffers bound local names) small = omega arith
step_kept h _ _ _ (accepted named id c l next) small = small
step_kept h e _ _ (requeues id bound before after) small = tt
step_kept h e _ _ (binds_datagrams id bound local before after takes) small = tt

joining_kept : (h : SocketsView) (e : Event) → (x : Entry) → IsJoining h e x → EndsAtNumber x.role
joining_kept h _ _ (made buffers) = tt
joining_kept h _ _ made_datagrams = tt
joining_kept h _ _ (called now isn source s listener call) = omega arith

each_kept : (h : SocketsView) (e : Event) → EachEndsAtNumber h → EachEndsAtNumber (table_after_event h e)
each_kept h e all = by_step (table_after_event h e) (stepped h e)
  where
    by_step : (w : SocketsView) → IsStepped h e w → EachEndsAtNumber w
    by_step w (followed f) = all_followed (IsStepOf h e) (λ (x : Entry). EndsAtNumber x.role) (step_kept h e) h.entries w.entries f.entries all
    by_step _ (joined {x = x} j) = all_joined (λ (y : Entry). EndsAtNumber y.role) h.entries x all (joining_kept h e x j)

over_all : (events : List Event) (h : SocketsView) → EachEndsAtNumber h → EachEndsAtNumber (after_events h events)
over_all [] h all = all
over_all (e ∷ rest) h all = over_all rest (table_after_event h e) (each_kept h e all)

pub windows_end : (h : SocketsView) → IsReached h → EachEndsAtNumber h
windows_end h reached = subst EachEndsAtNumber reached.is (over_all reached.events (new_sockets reached.addr reached.manner reached.sizes) tt)
