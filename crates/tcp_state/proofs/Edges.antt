-- Why one event keeps to the table of edges.
use Rattle.std.proofs.Common.{◌≡◌, ℕ, ◌==◌, ◌||◌, ◌&&◌, not, true, length, Option, inl, inr, refl, sym, ap, subst}
use Rattle.tcp_segment.specs.Segment.{Segment}
use Rattle.clock.specs.declared.moment.Moment.{Moment}
use Rattle.tcp_state.specs.declared.emission.Due.{Due}
use Rattle.tcp_state.specs.declared.state.State.{State}
use Rattle.tcp_state.specs.declared.state.State.TheVariants.{Closed, Listen, SynSent, SynReceived, Established, FinWait1, FinWait2, CloseWait, Closing, LastAck}
use Rattle.tcp_state.specs.View.{View, is_syn_sent, is_syn_received, awaits_fin_ack}
use Rattle.tcp_state.specs.Alive.{after_silence}
use Rattle.tcp_state.specs.Calls.{beyond_shutdown}
use Rattle.tcp_state.specs.Arrival.{owing_ack, is_receiving, beyond_fin, beyond_end, after_new_ack, after_ack, after_window, after_text, after_fin, after_heard}
use Rattle.tcp_state.specs.Due.{first_due}
use Rattle.tcp_state.specs.Edges.{IsEdge, Event, after_first, after_event, fate_by, is_removed, left_by, state_after}
use Rattle.tcp_state.proofs.Clocked.{timers_keep, emission_keeps}
pub use Rattle.tcp_halves.proofs.Choices.{and_left, and_right}
use Rattle.tcp_halves.proofs.Choices.{either}
use Rattle.tcp_state.proofs.Segments.{by_fin, by_ack, by_hearing}
use Rattle.tcp_state.proofs.Events.{by_event}

-- any state may end
closes : (t : State) → IsEdge t Closed
closes Closed = inl refl
closes _ = inr refl

goes_back : (t : State) → is_syn_received t ≡ true → IsEdge t Listen
goes_back SynReceived e = inr refl
goes_back _ e = cc

opens : (t : State) → is_syn_sent t ≡ true → IsEdge t Established
opens SynSent e = inr refl
opens _ e = cc

meets : (t : State) → is_syn_sent t ≡ true → IsEdge t SynReceived
meets SynSent e = inr refl
meets _ e = cc

shuts : (t : State) → IsEdge t (beyond_shutdown t)
shuts Established = inr refl
shuts CloseWait = inr refl
shuts _ = inl refl

ends : (t : State) → is_receiving t ≡ true → IsEdge t (beyond_end t)
ends Established e = inr refl
ends FinWait1 e = inr refl
ends FinWait2 e = inr refl
ends _ e = cc

-- a segment may acknowledge our SYN or FIN and bring the peer's FIN: what it leads to by its acknowledgement, and by its FIN then
record Reaches (before : State) (w : View) : Type 0 where
  pub here : IsEdge before w.state
  pub beyond : is_receiving w.state ≡ true → IsEdge before (beyond_end w.state)

stays : (v w : View) → w.state ≡ v.state → Reaches v.state w
stays v w same = record {
  here = inl (sym same);
  beyond = λ on. subst (λ t. is_receiving t ≡ true → IsEdge v.state (beyond_end t)) (sym same) (ends v.state) on;
}

reached_established : (t : State) → is_syn_received t ≡ true → IsEdge t Established × IsEdge t CloseWait
reached_established SynReceived e = (inr refl, inr refl)
reached_established _ e = cc

reached_fin : (t : State) → awaits_fin_ack t ≡ true → IsEdge t (beyond_fin t) × (is_receiving (beyond_fin t) ≡ true → IsEdge t (beyond_end (beyond_fin t)))
reached_fin FinWait1 e = (inr refl, λ on. inr refl)
reached_fin Closing e = (inr refl, λ on. cc)
reached_fin LastAck e = (inr refl, λ on. cc)
reached_fin _ e = cc

acked : (v : View) (ack : ℕ) → Reaches v.state (after_ack v ack)
acked v ack = by_ack (Reaches v.state) v ack (record {
  old = stays v v refl;
  beyond = stays v (owing_ack v) refl;
  opens = λ received new. let r = reached_established v.state received in record { here = r.0; beyond = λ on. r.1 };
  octets = λ new. stays v (after_new_ack v ack) refl;
  fin = λ new fin. let r = reached_fin v.state (and_left (awaits_fin_ack v.state) _ fin) in record { here = r.0; beyond = r.1 };
})

texted : (t : State) (w : View) (s : Segment) → Reaches t w → Reaches t (after_text w s)
texted t w s r =
    either View (λ x. Reaches t x) ((length s.octets == 0) || not (is_receiving w.state)) w _
    (λ none. r)
    (λ some. record { here = r.here; beyond = r.beyond })

finned : (t : State) (w : View) (s : Segment) → Reaches t w → IsEdge t (after_fin w s).state
finned t w s r =
    by_fin (λ x. IsEdge t x.state) w s
    (λ counts. r.beyond (and_right s.flags.fin (is_receiving w.state) (and_left (s.flags.fin && is_receiving w.state) _ counts)))
    r.here r.here

pub heard-edge : (v : View) (s : Segment) → IsEdge v.state (after_heard v s).state
heard-edge v s =
    let a = acked v s.acknowledgement in
    let told = after_window (after_ack v s.acknowledgement) s in
    by_hearing (λ w. IsEdge v.state w.state) v s (closes v.state) (record {
      dropped = inl refl;
      drawn = inl refl;
      reset = λ acts. closes v.state;
      crossed = λ waits. meets v.state waits;
      opened = λ waits right. opens v.state waits;
      acknowledged = λ taken. a.here;
      read = λ on. finned v.state (after_text told s) s (texted v.state told s (record { here = a.here; beyond = a.beyond }));
    })

-- what goes out changes no state
pub emitted-state : (v : View) (due : Option Due) (now : Moment) → (after_first v due now).state ≡ v.state
emitted-state v due now = ap (λ (w : View). w.state) (emission_keeps v due now)

left-edge : (v : View) → IsEdge v.state (left_by v)
left-edge v =
    either State (λ t. IsEdge v.state t) (v.passive && is_syn_received v.state) Listen Closed
    (λ back. goes_back v.state (and_right v.passive (is_syn_received v.state) back))
    (λ gone. closes v.state)

event-edge : (v : View) (e : Event) → IsEdge v.state (after_event v e).state
event-edge v = by_event (λ e w. IsEdge v.state w.state) v (record {
  same = λ e. inl refl;
  asks = λ e alive. inl refl;
  silent = λ now. inl refl;
  heard = λ s now lives. heard-edge v s;
  over = λ now ends. closes v.state;
  given_up = λ now waits expired. closes v.state;
  acts = λ now. inl (sym (ap (λ (w : View). w.state) (timers_keep (after_silence v now) now)));
  emits = λ now. inl (sym (emitted-state v (first_due v) now));
  sends = λ octets taken now opened. inl refl;
  reads = λ len. inl refl;
  shuts = λ now. shuts v.state;
  delays = λ on now. inl refl;
  leaves = λ now lives. shuts v.state;
  aborts = λ e now at cause lives. closes v.state;
  refused = λ number hit. closes v.state;
  hopless = λ now over. closes v.state;
})

pub edges_hold : (v : View) (e : Event) → IsEdge v.state (state_after v e)
edges_hold v e = either State (λ t. IsEdge v.state t) (is_removed (fate_by v e)) (left_by v) (after_event v e).state (λ removed. left-edge v) (λ stays. event-edge v e)
