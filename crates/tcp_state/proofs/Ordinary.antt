-- Why a segment without RST and FIN ends nothing, and any leaves an end of what is held and all that can be read.
use Rattle.std.proofs.Common.{◌≡◌, ℕ, ◌==◌, ◌||◌, ◌&&◌, ◌⊎◌, not, true, false, List, [], ◌∷◌, ◌++◌, length, drop, inl, inr, refl, sym, ◌∙◌, subst}
use Rattle.std.proofs.lemmas.List.{append-nil}
use Rattle.tcp_segment.specs.Wire.{past}
use Rattle.tcp_segment.specs.Segment.{Segment}
use Rattle.clock.specs.declared.moment.Moment.{Moment}
use Rattle.tcp_halves.specs.Halves.{Sending}
use Rattle.tcp_halves.specs.Stream.{octets_gained}
use Rattle.tcp_halves.specs.Windows.{updates_window}
use Rattle.tcp_state.specs.View.{View, is_opening, is_syn_sent, is_syn_received, awaits_fin_ack}
use Rattle.tcp_state.specs.Arrival.{is_receiving, beyond_fin, after_ack, after_window, after_text, is_read, is_lost, after_lost, after_segment, after_segment_at}
use Rattle.tcp_halves.proofs.Choices.{either, clash, and_left}
use Rattle.tcp_state.proofs.Segments.{after_reading, by_fin, by_ack, reading_sends, by_segment, by_hearing, by_clock}
use Rattle.tcp_state.proofs.Freed.{opened}
use Rattle.tcp_state.proofs.Gains.{gains_alone}

-- The state.

-- it is as it was, or our FIN is acknowledged
abbrev Stays : View → View → Type 0
Stays v w = (w.state ≡ v.state) ⊎ ((awaits_fin_ack v.state ≡ true) × (w.state ≡ beyond_fin v.state))

acked : (v : View) (ack : ℕ) → is_syn_received v.state ≡ false → Stays v (after_ack v ack)
acked v ack established = by_ack (Stays v) v ack (record {
  old = inl refl;
  beyond = inl refl;
  opens = λ received new. clash (is_syn_received v.state) received established;
  octets = λ new. inl refl;
  fin = λ new fin. inr (and_left (awaits_fin_ack v.state) _ fin, refl);
})

read_on : (v : View) (s : Segment) → is_syn_received v.state ≡ false → s.flags.fin ≡ false → Stays v (after_reading v s)
read_on v s established no_fin =
    let told = after_window (after_ack v s.acknowledgement) s in
    let first : Stays v told = acked v s.acknowledgement established in
    let text : Stays v (after_text told s) = either View (Stays v) ((length s.octets == 0) || not (is_receiving told.state)) told _ (λ none. first) (λ some. first) in
    let w = after_text told s in
    by_fin (Stays v) w s (λ counts. clash s.flags.fin (and_left s.flags.fin (is_receiving w.state) (and_left (s.flags.fin && is_receiving w.state) _ counts)) no_fin) text text

pub ends_nothing : (v : View) (s : Segment) (now : Moment) → is_opening v.state ≡ false → v.released ≡ false → s.flags.rst ≡ false → s.flags.fin ≡ false → Stays v (after_segment_at v s now)
ends_nothing v s now past kept no_rst no_fin =
    let states = opened v.state past in
    by_clock (Stays v) v s now (inl refl)
    (λ lives. either View (Stays v) (is_lost v s) (after_lost v s) (after_segment v s)
    (λ lost. clash v.released (and_left v.released (is_receiving v.state) (and_left (v.released && is_receiving v.state) (is_read v s) (and_left (v.released && is_receiving v.state && is_read v s) _ lost))) kept)
    (λ stays. by_segment (Stays v) v s (record {
      dropped = inl refl;
      drawn = inl refl;
      reset = λ acts. clash s.flags.rst (and_left s.flags.rst _ acts.acts) no_rst;
      crossed = λ waits. clash (is_syn_sent v.state) waits states.0;
      opened = λ waits right. clash (is_syn_sent v.state) waits states.0;
      acknowledged = λ taken. acked v s.acknowledgement states.1;
      read = λ on. read_on v s states.1 no_fin;
    })))

-- What is held.

abbrev IsEnd : List ℕ → Sending → Type 0
IsEnd octets t = (count : ℕ) × (t.held ≡ drop count octets)

all_dropped : (octets : List ℕ) → [] ≡ drop (length octets) octets
all_dropped [] = refl
all_dropped (x ∷ octets) = all_dropped octets

ack_leaves_end : (v : View) (ack : ℕ) → IsEnd v.sending.held (after_ack v ack).sending
ack_leaves_end v ack = by_ack (λ w. IsEnd v.sending.held w.sending) v ack (record {
  old = (0, refl);
  beyond = (0, refl);
  opens = λ received new. (0, refl);
  octets = λ new. (past ack v.sending.una, refl);
  fin = λ new fin. (past ack v.sending.una, refl);
})

reading_leaves_end : (v : View) (s : Segment) → IsEnd v.sending.held (after_reading v s).sending
reading_leaves_end v s =
    let w = after_ack v s.acknowledgement in
    let first = ack_leaves_end v s.acknowledgement in
    subst (IsEnd v.sending.held) (sym (reading_sends v s))
    (either Sending (IsEnd v.sending.held) (updates_window w.sending s.number s.acknowledgement) _ w.sending (λ tells. first) (λ none. first))

pub leaves_end : (v : View) (s : Segment) (now : Moment) → IsEnd v.sending.held (after_segment_at v s now).sending
leaves_end v s now =
    let P : View → Type 0 = λ w. IsEnd v.sending.held w.sending in
    let none : IsEnd v.sending.held (record v.sending { held = [] }) = (length v.sending.held, all_dropped v.sending.held) in
    by_clock P v s now (0, refl) (λ lives. by_hearing P v s none (record {
      dropped = (0, refl);
      drawn = (0, refl);
      reset = λ acts. none;
      crossed = λ waits. (0, refl);
      opened = λ waits right. (0, refl);
      acknowledged = λ taken. ack_leaves_end v s.acknowledgement;
      read = λ on. reading_leaves_end v s;
    }))

-- What can be read.

pub leaves_front : (v : View) (s : Segment) (now : Moment) → (more : List ℕ) × ((after_segment_at v s now).receiving.readable ≡ v.receiving.readable ++ more)
leaves_front v s now = elim (gains_alone v s now) [
  | inl same ↦ ([], same ∙ sym (append-nil v.receiving.readable))
  | inr gains ↦ (octets_gained v.receiving s.number s.octets, gains)
]
