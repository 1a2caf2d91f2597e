-- What acknowledgements report is kept, and which of it they report.
use Rattle.std.proofs.Common.{◌≡◌, ◌≢◌, ℕ, ◌<◌, ◌≤◌, ◌^◌, ◌==◌, ◌||◌, not, if◌then◌else◌, Bool, true, false, inl, inr, List, [], ◌∷◌, length, sym, ◌∙◌, ap, subst, arith}
use Rattle.std.proofs.lemmas.Bool.{eqb-true}
use Rattle.clock.specs.declared.moment.Moment.{Moment}
use Rattle.stream_buf.specs.Receiving.{ranges}
use Rattle.tcp_segment.specs.declared.blocks.Block.{Block}
use Rattle.tcp_segment.specs.Segment.{Segment, blocks_of as blocks_in}
use Rattle.tcp_segment.specs.declared.seq.Seq.{Seq}
use Rattle.tcp_halves.specs.Numbers.{is_before}
use Rattle.tcp_halves.specs.Halves.{Receiving}
use Rattle.tcp_halves.specs.Blocks.{reported}
use Rattle.tcp_halves.specs.Reports.{IsKept, IsOf, IsOfOne}
use Rattle.tcp_halves.proofs.Choices.{either, clash, or_else, not_true}
use Rattle.tcp_halves.proofs.Reports.{reported_is_kept, kept_is_reported, latest_is_first}
use Rattle.tcp_state.specs.declared.reporting.Reporting.{Reporting}
use Rattle.tcp_state.specs.declared.emission.Due.{Due}
use Rattle.tcp_state.specs.declared.emission.Due.TheVariants.{Rst, Syn, Text, Probe, Ack, KeepAlive}
use Rattle.tcp_state.specs.View.{View, IsSound}
use Rattle.tcp_state.specs.Reporting.{blocks_of}
use Rattle.tcp_state.specs.Arrival.{is_receiving, is_read, after_ack, after_window, after_text, after_segment_at}
use Rattle.tcp_state.specs.Said.{segment_of}
use Rattle.tcp_state.proofs.BlocksTold.{blocks_seen}
use Rattle.tcp_state.proofs.Segments.{by_fin}
use Rattle.tcp_state.proofs.Gains.{receiving_after, told_receives, where_read}

few_kept : (v : View) → IsSound v → length v.receiving.kept ≤ 2 ^ 30
few_kept v sound = omega (arith, sound.buffer.places, sound.terms.capacity)

none_of_none : {A : Type 0} (number : ℕ) → IsOfOne [] number → A
none_of_none number (k, b, below, is, of) = absurd (omega (arith, below))

named : (v : View) (due : Due) (number : ℕ) → IsSound v → number < 2 ^ 32 → IsOfOne (blocks_of v due) number → IsKept v.receiving number
named v Ack number sound small =
    either (List Block) (λ l. IsOfOne l number → IsKept v.receiving number) v.reporting.sacks (reported v.receiving v.reporting.latest.0) []
    (λ reports of. reported_is_kept v.receiving v.reporting.latest.0 number (few_kept v sound) sound.rnext small of) (λ none of. none_of_none number of)
named v Rst number sound small = none_of_none number
named v Syn number sound small = none_of_none number
named v (Text stretch) number sound small = none_of_none number
named v Probe number sound small = none_of_none number
named v KeepAlive number sound small = none_of_none number

pub told_is_kept : (v : View) (due : Due) (number : ℕ) → IsSound v → number < 2 ^ 32 → IsOfOne (blocks_in (segment_of v due)) number → IsKept v.receiving number
told_is_kept v due number sound small of = named v due number sound small (subst (λ l. IsOfOne l number) (blocks_seen v due) of)

-- where reports are made, this one is
reports : (v : View) → v.reporting.sacks ≡ true → reported v.receiving v.reporting.latest.0 ≡ blocks_in (segment_of v Ack)
reports v sacks = ap (λ b. if b then reported v.receiving v.reporting.latest.0 else []) (sym sacks) ∙ sym (blocks_seen v Ack)

pub kept_is_told : (v : View) (number : ℕ) → IsSound v → v.reporting.sacks ≡ true → number < 2 ^ 32 → ranges v.receiving.kept ≤ 4 → IsKept v.receiving number → IsOfOne (blocks_in (segment_of v Ack)) number
kept_is_told v number sound sacks small few kept =
    subst (λ l. IsOfOne l number) (reports v sacks) (kept_is_reported v.receiving v.reporting.latest.0 number (few_kept v sound) sound.rnext small few kept)

pub latest_is_told_first : (v : View) → IsSound v → v.reporting.sacks ≡ true → v.reporting.latest.0 < 2 ^ 32 → IsKept v.receiving v.reporting.latest.0
    → (first : Block) × (others : List Block) × (blocks_in (segment_of v Ack) ≡ first ∷ others) × IsOf first v.reporting.latest.0
latest_is_told_first v sound sacks small kept =
    subst (λ l. (first : Block) × (others : List Block) × (l ≡ first ∷ others) × IsOf first v.reporting.latest.0) (reports v sacks)
    (latest_is_first v.receiving v.reporting.latest.0 (few_kept v sound) sound.rnext small kept)

pub told_alone : (v : View) (due : Due) → due ≢ Ack → blocks_in (segment_of v due) ≡ []
told_alone v Ack other = absurd (other (cc))
told_alone v Rst other = blocks_seen v Rst
told_alone v Syn other = blocks_seen v Syn
told_alone v (Text stretch) other = blocks_seen v (Text stretch)
told_alone v Probe other = blocks_seen v Probe
told_alone v KeepAlive other = blocks_seen v KeepAlive

untold : (v : View) (due : Due) → v.reporting.sacks ≡ false → blocks_of v due ≡ []
untold v Ack none = ap (λ b. if b then reported v.receiving v.reporting.latest.0 else []) none
untold v Rst none = cc
untold v Syn none = cc
untold v (Text stretch) none = cc
untold v Probe none = cc
untold v KeepAlive none = cc

pub told_by_none : (v : View) (due : Due) → v.reporting.sacks ≡ false → blocks_in (segment_of v due) ≡ []
told_by_none v due none = blocks_seen v due ∙ untold v due none

-- the latest segment
abbrev latest_of : Reporting → ℕ → Bool → ℕ
latest_of p number ahead = let latest : Seq = if ahead then record { 0 = number } else p.latest in latest.0

pub latest_is_noted : (v : View) (s : Segment) (now : Moment) → v.released ≡ false → is_receiving v.state ≡ true → is_read v s ≡ true → 0 < length s.octets
    → is_before v.receiving.rnext s.number ≡ true → (after_segment_at v s now).reporting.latest.0 ≡ s.number
latest_is_noted v s now kept receiving read some ahead =
    let told = after_window (after_ack v s.acknowledgement) s in
    let P : View → Type 0 = λ w. w.reporting.latest.0 ≡ s.number in
    let before_it : is_before told.receiving.rnext s.number ≡ true = ap (λ (r : Receiving). is_before r.rnext s.number) (told_receives v s) ∙ ahead in
    let text : P (after_text told s) = either View P ((length s.octets == 0) || not (is_receiving told.state)) told _
    (λ none. elim (or_else (length s.octets == 0) (not (is_receiving told.state)) none) [
      | inl empty ↦ absurd (omega (arith, some, eqb-true (length s.octets) 0 empty))
      | inr deaf ↦ clash (is_receiving told.state) (receiving_after v s.acknowledgement receiving) (not_true (is_receiving told.state) deaf)
    ])
    (λ comes. ap (latest_of told.reporting s.number) before_it) in
    where_read P v s now kept receiving read (λ w noted. noted) (by_fin P (after_text told s) s (λ counts. text) text text)
