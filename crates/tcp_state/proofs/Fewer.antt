-- Why an acknowledgement of what is outstanding leaves fewer octets held.
use Rattle.std.proofs.Common.{◌≡◌, ℕ, ◌+◌, ◌-◌, ◌<◌, ◌≤◌, ◌==◌, ◌||◌, not, if◌then◌else◌, Bool, true, false, length, drop, arith, refl, sym, ◌∙◌, ap}
use Rattle.std.proofs.lemmas.List.{length-drop}
use Rattle.tcp_segment.specs.Wire.{wire}
use Rattle.tcp_segment.specs.Segment.{Segment}
use Rattle.clock.specs.declared.moment.Moment.{Moment}
use Rattle.tcp_state.specs.declared.state.State.{State}
use Rattle.tcp_state.specs.declared.state.State.TheVariants.{SynSent, SynReceived, Closed, FinWait2, TimeWait}
use Rattle.tcp_halves.specs.Stream.{outstanding}
use Rattle.tcp_state.specs.View.{View, IsSound, is_opening, is_syn_sent, is_closed, is_write_finished}
use Rattle.tcp_state.specs.Arrival.{after_ack, after_window, after_text, is_receiving, after_segment_at}
use Rattle.tcp_state.specs.Duties.{acknowledges}
use Rattle.tcp_halves.proofs.Choices.{either, by, clash, neither}
use Rattle.tcp_state.proofs.Segments.{after_reading, by_fin, by_ack, by_hearing, by_clock}
use Rattle.tcp_state.proofs.ResetAges.{live}
use Rattle.tcp_state.proofs.Freed.{frees_named}

-- Octets are held in these states alone.

pub record MayHold (state : State) : Type 0 where
  pub opened : is_opening state ≡ false
  pub goes_on : is_write_finished state ≡ false
  pub lives : is_closed state ≡ false
  pub past : is_syn_sent state ≡ false

may_hold : (state : State) → is_opening state ≡ false → is_write_finished state ≡ false → MayHold state
may_hold SynSent o f = cc
may_hold SynReceived o f = cc
may_hold FinWait2 o f = cc
may_hold TimeWait o f = cc
may_hold Closed o f = cc
may_hold _ o f = record { opened = refl; goes_on = refl; lives = refl; past = refl }

at_most_none : (none : Bool) (count most : ℕ) → none ≡ true → count ≤ (if none then 0 else most) → count ≤ 0
at_most_none true count most e few = few
at_most_none false count most e few = cc

pub holds_where : (v : View) → IsSound v → 0 < length v.sending.held → MayHold v.state
holds_where v sound some =
    let none = is_opening v.state || is_write_finished v.state in
    by (MayHold v.state) none
    (λ is. let few = at_most_none none (length v.sending.held) _ is sound.held in absurd (omega (arith, few, some)))
    (λ holds. let two = neither (is_opening v.state) (is_write_finished v.state) holds in may_hold v.state two.0 two.1)

-- A segment makes a reset owed only where nothing is held any longer.

ack_owes : (v : View) (ack : ℕ) → (after_ack v ack).owes_reset ≡ v.owes_reset
ack_owes v ack = by_ack (λ w. w.owes_reset ≡ v.owes_reset) v ack (record { old = refl; beyond = refl; opens = λ received new. refl; octets = λ new. refl; fin = λ new fin. refl })

reading_owes : (v : View) (s : Segment) → (after_reading v s).owes_reset ≡ v.owes_reset
reading_owes v s =
    let P : View → Type 0 = λ w. w.owes_reset ≡ v.owes_reset in
    let told = after_window (after_ack v s.acknowledgement) s in
    let acked : P told = ack_owes v s.acknowledgement in
    let text : P (after_text told s) = either View P ((length s.octets == 0) || not (is_receiving told.state)) told _ (λ none. acked) (λ some. acked) in
    by_fin P (after_text told s) s (λ counts. text) text text

resets_hold_none : (v : View) (s : Segment) (now : Moment) → v.owes_reset ≡ false → (after_segment_at v s now).owes_reset ≡ true → length (after_segment_at v s now).sending.held ≡ 0
resets_hold_none v s now none =
    let P : View → Type 0 = λ w. w.owes_reset ≡ true → length w.sending.held ≡ 0 in
    let same : P v = λ owes. clash v.owes_reset owes none in
    by_clock P v s now same (λ lives. by_hearing P v s (λ owes. refl) (record {
      dropped = same;
      drawn = λ owes. clash v.owes_reset owes none;
      reset = λ acts owes. refl;
      crossed = λ waits owes. clash v.owes_reset owes none;
      opened = λ waits right owes. clash v.owes_reset owes none;
      acknowledged = λ taken owes. clash v.owes_reset (sym (ack_owes v s.acknowledgement) ∙ owes) none;
      read = λ on owes. clash v.owes_reset (sym (reading_owes v s) ∙ owes) none;
    }))

pub fewer_held : (v : View) (s : Segment) (now : Moment) (own una ack : ℕ) → IsSound v → 0 < length v.sending.held → acknowledges v s ≡ true → v.sending.una ≡ wire own una → s.acknowledgement ≡ wire own ack
    → una < ack → ack ≤ una + outstanding v.sending → length (after_segment_at v s now).sending.held < length v.sending.held
fewer_held v s now own una ack sound some says first last above within =
    let holds = holds_where v sound some in
    by (length (after_segment_at v s now).sending.held < length v.sending.held) (after_segment_at v s now).owes_reset
    (λ owes. let none = resets_hold_none v s now (live v sound holds.lives) owes in omega (arith, none, some))
    (λ kept.
    let freed = frees_named v s now own una ack sound (ap (λ b. b || is_closed v.state) holds.past ∙ holds.lives) says first last above within kept in
    let count : length (after_segment_at v s now).sending.held ≡ length (drop (ack - una) v.sending.held) = ap length freed.held in
    omega (arith, count, length-drop (ack - una) v.sending.held, above, some))
