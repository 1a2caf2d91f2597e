-- Why a segment that begins at RCV.NXT or before it, and fits the window, brings something to read, or draws an acknowledgement.
use Rattle.std.proofs.Common.{◌≡◌, ℕ, suc, ◌+◌, ◌-◌, ◌%◌, ◌^◌, ◌<◌, ◌≤◌, ◌==◌, ◌||◌, ◌&&◌, not, nat_le, nat_lt, if◌then◌else◌, Bool, true, false, List, [], ◌∷◌, ◌++◌, length, get_or, map, Some, None, inl, inr, arith, refl, sym, ◌∙◌, ap, ap₂, subst, length-append}
use Rattle.std.specs.List.{slice_get}
use Rattle.std.specs.Option.{option_or}
use Rattle.std.proofs.lemmas.Option.{slice_get-get_or}
use Rattle.std.proofs.lemmas.Bool.{lt-ltb, le-leb, lt-leb}
use Rattle.std.proofs.lemmas.Bool.Decides.{eqb_tells, leb_tells}
use Rattle.stream_buf.specs.Receiving.{ranges, IsReceiving}
use Rattle.tcp_segment.specs.Wire.{wire}
use Rattle.tcp_segment.specs.Segment.{Segment, bit, span_of}
use Rattle.clock.specs.declared.moment.Moment.{Moment}
use Rattle.tcp_halves.specs.Halves.{Receiving}
use Rattle.tcp_halves.specs.Stream.{outstanding, buffer_of, is_in_window, octets_gained, after_octets}
use Rattle.tcp_state.specs.declared.state.State.{State}
use Rattle.tcp_state.specs.declared.state.State.TheVariants.{Established, FinWait1, FinWait2}
use Rattle.tcp_state.specs.View.{View, IsSound, is_opening, is_syn_received, is_closed, is_over}
use Rattle.tcp_state.specs.Arrival.{is_acceptable_to, is_receiving, is_read, brings_more, is_lost, ends_by_syn, is_opening_syn, holds_back, is_silenced, after_segment_at}
use Rattle.tcp_state.specs.Edges.{Hears, is_last_ack, is_reset_by, ends_by, ends_by_ack, is_removed, fate_by}
use Rattle.tcp_state.specs.Positions.{ReceivesAt, IsNear, known_at, places_after}
use Rattle.tcp_state.specs.Duties.{acknowledges, Places, StandsAt, is_unacceptable, is_challenged, is_another_syn, is_astray, is_aged, is_out_of_reach, is_in_reach, is_used, may_bring, brings_text, hurries, draws, is_asking}
use Rattle.tcp_state.specs.Progress.{IsOrdinary}
use Rattle.tcp_halves.proofs.Choices.{by, clash, and_left, and_right, and_false, both, or_left, or_right, or_else, of_false}
use Rattle.tcp_state.proofs.Positions.{window_at, in_window, accepted_filled}
use Rattle.tcp_state.proofs.Placing.{each_known, none_at_next, first_taken}
use Rattle.tcp_state.proofs.Gains.{receiving_lives, gains_where_read}
use Rattle.tcp_state.proofs.Standing.{inside_accepted}
use Rattle.tcp_state.proofs.Used.{read_as_used, more_as_new}
use Rattle.tcp_state.proofs.Causes.{ends_caused}
use Rattle.tcp_state.proofs.Drawn.{owed_as_drawn}
use Rattle.tcp_state.proofs.DrawTests.{drawn_at}

-- It is acceptable.

flag_span : (b : Bool) → bit b 1 ≤ 1
flag_span true = omega arith
flag_span false = omega arith

-- the numbers of a segment without SYN
span_few : (s : Segment) → s.flags.syn ≡ false → (length s.octets ≤ span_of s) × (span_of s ≤ length s.octets + 1)
span_few s no_syn =
    let none : bit s.flags.syn 1 ≡ 0 = ap (λ b. bit b 1) no_syn in
    (omega (arith), omega (arith, none, flag_span s.flags.fin))

accepted : (at : Places) (v : View) (s : Segment) → StandsAt at v s → s.flags.syn ≡ false → at.first ≤ at.next → at.next + length s.octets ≤ at.edge → at.next < at.first + length s.octets → is_acceptable_to v s ≡ true
accepted at v s stands no_syn begins room new =
    let span = span_of s in
    let few = span_few s no_syn in
    let receives = stands.receives in
    elim (eqb_tells at.first at.next) [
      | inl same ↦ inside_accepted v.receiving s.number span (ap (is_in_window v.receiving) stands.first_number
          ∙ in_window at.peer at.next at.edge at.first v.receiving receives stands.first_near.behind (omega (arith, same.1)) (omega (arith, same.1)) (omega (arith, same.1, room, new)))
      | inr other ↦
          let before : at.first < at.next = strictly at.first at.next begins other.1 in
          let near : IsNear at.next at.first span = record { behind = stands.first_near.behind; ahead = omega (arith, few.1, before, room, receives.near) } in
          (accepted_filled at.peer at.next at.edge at.first v s receives stands.first_number near (omega (arith, few.0, new, begins))).1 (record {
            common = (at.next, begins, omega (arith, few.0, new), omega arith, omega (arith, new, begins, room));
            within = inr (omega (arith, few.1, before, room));
          })
    ]
  where
    strictly : (a b : ℕ) → a ≤ b → (a ≡ b → ⊥) → a < b
    strictly a b least other = elim (leb_tells b a) [ inl t ↦ absurd (other (omega (arith, t.1, least))) | inr t ↦ t.1 ]

-- What it brings can be read.

-- the octet at RCV.NXT stands there afterwards, and so can be read
first_gained : (initial next edge first : ℕ) (r : Receiving) (octets : List ℕ) → ReceivesAt initial next edge r → IsReceiving (buffer_of r) → edge ≤ next + length r.kept → first ≤ next → next < first + 2 ^ 31 → next < edge → next < first + length octets
    → 0 < length (octets_gained r (wire initial first) octets)
first_gained initial next edge first r octets at is room begins near open_yet new = gained (octets_gained r (wire initial first) octets) refl
  where
    number : ℕ
    number = wire initial first

    octet : ℕ
    octet = get_or octets (next - first) 0

    known : known_at next (places_after r number octets) next ≡ Some octet
    known = each_known initial next edge first next r octets at room (record { one = omega (arith, begins); other = near }) (first_taken initial next edge first r octets at begins near) (omega arith)
        ∙ ap (λ o. option_or o (known_at next r.kept next))
        (ap (λ b. if b then slice_get octets (next - first) else None) (both (nat_le first next) (nat_lt next edge) (le-leb first next begins) (lt-ltb next edge open_yet))
        ∙ slice_get-get_or octets (next - first) 0 (omega (arith, begins, new)))

    gained : (octets_in_front : List ℕ) → octets_gained r number octets ≡ octets_in_front → 0 < length (octets_gained r number octets)
    gained [] e =
        let here : next - next ≡ 0 = omega arith in
        let none : known_at next (places_after r number octets) next ≡ None =
        ap (λ (xs : List ℕ). get_or (map (λ x. Some x) xs ++ (after_octets r number octets).kept) (next - next) None) e
        ∙ (ap (λ n. get_or (after_octets r number octets).kept n None) here ∙ none_at_next r number octets is) in
        let bad : Some octet ≡ None = sym known ∙ none in cc
    gained (x ∷ xs) e = let long : length (octets_gained r number octets) ≡ length (x ∷ xs) = ap length e in omega (arith, long)

says : (v : View) (s : Segment) → IsOrdinary s → is_acceptable_to v s ≡ true → acknowledges v s ≡ true
says v s plain acceptable =
    let plain_one = not s.flags.rst && is_acceptable_to v s in
    both (plain_one && not s.flags.syn) s.flags.ack
    (both plain_one (not s.flags.syn) (both (not s.flags.rst) (is_acceptable_to v s) (of_false s.flags.rst plain.no_rst) acceptable) (of_false s.flags.syn plain.no_syn)) plain.ack

read : (at : Places) (v : View) (s : Segment) → IsSound v → StandsAt at v s → is_receiving v.state ≡ true → IsOrdinary s → at.ack ≤ at.una + outstanding v.sending → is_aged at v ≡ false → is_acceptable_to v s ≡ true → is_used at v s ≡ true
read at v s sound stands receives plain sent young acceptable =
    let within = is_in_reach at v in
    both (acknowledges v s && within) (not (is_syn_received v.state) || nat_lt at.una at.ack)
    (both (acknowledges v s) within (says v s plain acceptable) (both (nat_le at.ack (at.una + outstanding v.sending)) (not (is_aged at v)) (le-leb at.ack (at.una + outstanding v.sending) sent) (of_false (is_aged at v) young)))
    (or_left (not (is_syn_received v.state)) (nat_lt at.una at.ack) (of_false (is_syn_received v.state) (receiving_lives v.state receives).2))

pub more_read : (at : Places) (v : View) (s : Segment) (now : Moment) → IsSound v → StandsAt at v s → v.released ≡ false → is_receiving v.state ≡ true → IsOrdinary s → at.ack ≤ at.una + outstanding v.sending → is_aged at v ≡ false
    → at.first ≤ at.next → at.next + length s.octets ≤ at.edge → at.next < at.first + length s.octets
    → length v.receiving.readable < length (after_segment_at v s now).receiving.readable
more_read at v s now sound stands kept receives plain sent young begins room new =
    let r = v.receiving in
    let gained = octets_gained r s.number s.octets in
    let acceptable = accepted at v s stands plain.no_syn begins room new in
    let used = read at v s sound stands receives plain sent young acceptable in
    let all = gains_where_read v s now sound kept receives (read_as_used at v s sound stands ∙ used) in
    let window = window_at at.peer at.next at.edge r stands.receives in
    let places : at.edge ≤ at.next + length r.kept = omega (arith, window, sound.window, sound.buffer.places) in
    let some : 0 < length gained = subst (λ n. 0 < length (octets_gained r n s.octets)) (sym stands.first_number)
    (first_gained at.peer at.next at.edge at.first r s.octets stands.receives sound.buffer places begins stands.first_near.behind (omega (arith, begins, room, new)) new) in
    let long : length (after_segment_at v s now).receiving.readable ≡ length (r.readable ++ gained) = ap length all in
    omega (arith, long, length-append r.readable gained, some)

-- What came before is acknowledged.

-- such a segment ends nothing
goes_on : (v : View) (s : Segment) (now : Moment) → is_receiving v.state ≡ true → s.flags.rst ≡ false → is_lost v s ≡ false → is_closed (after_segment_at v s now).state ≡ false
goes_on v s now receives no_rst kept = by (is_closed (after_segment_at v s now).state ≡ false) (is_closed (after_segment_at v s now).state)
    (λ closed.
    let states = receiving_lives v.state receives in
    let unfinished : is_over v ≡ false = ap (λ b. b && v.released && not v.owes_reset) states.0 in
    let ended : ends_by v (Hears s now) ≡ true = or_right (is_removed (fate_by v (Hears s now))) (not (is_closed v.state) && is_closed (after_segment_at v s now).state)
    (both (not (is_closed v.state)) (is_closed (after_segment_at v s now).state) (of_false (is_closed v.state) states.0) closed) in
    let causes = ends_caused v (Hears s now) unfinished ended in
    absurd (none_caused v s receives no_rst kept causes))
    (λ lives. lives)
  where
    not_last : (state : State) → is_receiving state ≡ true → is_last_ack state ≡ false
    not_last Established e = refl
    not_last FinWait1 e = refl
    not_last FinWait2 e = refl
    not_last _ e = cc

    none_caused : (v : View) (s : Segment) → is_receiving v.state ≡ true → s.flags.rst ≡ false → is_lost v s ≡ false → (is_reset_by v s || (not s.flags.rst && ends_by_syn v s) || is_lost v s || ends_by_ack v s) ≡ true → ⊥
    none_caused v s receives no_rst kept causes =
        let states = receiving_lives v.state receives in
        elim (or_else (is_reset_by v s || (not s.flags.rst && ends_by_syn v s) || is_lost v s) (ends_by_ack v s) causes) [
          | inr last ↦ clash (is_last_ack v.state) (and_left (is_last_ack v.state) (is_read v s) (and_left (is_last_ack v.state && is_read v s) _ (and_left (is_last_ack v.state && is_read v s && _) _ last))) (not_last v.state receives)
          | inl three ↦ elim (or_else (is_reset_by v s || (not s.flags.rst && ends_by_syn v s)) (is_lost v s) three) [
            | inr lost ↦ clash (is_lost v s) lost kept
            | inl two ↦ elim (or_else (is_reset_by v s) (not s.flags.rst && ends_by_syn v s) two) [
              | inl reset ↦ clash s.flags.rst (and_left s.flags.rst _ reset) no_rst
              | inr syn ↦ clash (is_syn_received v.state) (and_right (is_acceptable_to v s && s.flags.syn && v.passive) (is_syn_received v.state) (and_right (not s.flags.rst) (ends_by_syn v s) syn)) states.2
            ]
          ]
        ]

-- octets that came before are none that would be lost
old_kept : (at : Places) (v : View) (s : Segment) → StandsAt at v s → at.first + length s.octets ≤ at.next → is_lost v s ≡ false
old_kept at v s stands old =
    let none : brings_more v s ≡ false = more_as_new at v s stands ∙ (ap (λ b. not (length s.octets == 0) && b) (lt-leb (suc at.next) (at.first + length s.octets) (omega (arith, old))) ∙ and_false (not (length s.octets == 0))) in
    ap (λ b. v.released && is_receiving v.state && is_read v s && b) none ∙ and_false (v.released && is_receiving v.state && is_read v s)

opened : (state : State) → is_receiving state ≡ true → is_opening state ≡ false
opened Established e = refl
opened FinWait1 e = refl
opened FinWait2 e = refl
opened _ e = cc

drawn_by_kind : (at : Places) (v : View) (s : Segment) → IsSound v → StandsAt at v s → is_receiving v.state ≡ true → IsOrdinary s → at.ack ≤ at.una + outstanding v.sending → 0 < length s.octets → at.first + length s.octets ≤ at.next → drawn_at at v s ≡ true
drawn_by_kind at v s sound stands receives plain sent some old =
    let text = brings_text at v s && (s.flags.fin || hurries at v s) in
    by (drawn_at at v s ≡ true) (is_acceptable_to v s)
    (λ acceptable. by (drawn_at at v s ≡ true) (is_aged at v)
    (λ aged.
    let astray : is_astray at v s ≡ true = both (acknowledges v s && not (is_opening v.state)) (is_out_of_reach at v)
    (both (acknowledges v s) (not (is_opening v.state)) (says v s plain acceptable) (of_false (is_opening v.state) (opened v.state receives)))
    (or_right (nat_lt (at.una + outstanding v.sending) at.ack) (is_aged at v) aged) in
    or_left (is_unacceptable v s || is_challenged at s || is_another_syn v s || is_astray at v s) text
    (or_right (is_unacceptable v s || is_challenged at s || is_another_syn v s) (is_astray at v s) astray))
    (λ young.
    let used = read at v s sound stands receives plain sent young acceptable in
    let apart : (at.first == at.next) ≡ false = elim (eqb_tells at.first at.next) [ inl t ↦ absurd (omega (arith, t.1, some, old)) | inr t ↦ t.0 ] in
    let filled : (length s.octets == 0) ≡ false = elim (eqb_tells (length s.octets) 0) [ inl t ↦ absurd (omega (arith, t.1, some)) | inr t ↦ t.0 ] in
    let hurry : hurries at v s ≡ true = both (not (length s.octets == 0)) (not (at.first == at.next) || not (ranges v.receiving.kept == 0) || v.delays_ack) (of_false (length s.octets == 0) filled)
    (or_left (not (at.first == at.next) || not (ranges v.receiving.kept == 0)) v.delays_ack (or_left (not (at.first == at.next)) (not (ranges v.receiving.kept == 0)) (of_false (at.first == at.next) apart))) in
    or_right (is_unacceptable v s || is_challenged at s || is_another_syn v s || is_astray at v s) text
    (both (brings_text at v s) (s.flags.fin || hurries at v s) (both (is_used at v s) (may_bring v.state) used (brings v.state receives)) (or_right s.flags.fin (hurries at v s) hurry))))
    (λ refused.
    let unacceptable : is_unacceptable v s ≡ true = both (not s.flags.rst) (not (is_acceptable_to v s)) (of_false s.flags.rst plain.no_rst) (of_false (is_acceptable_to v s) refused) in
    or_left (is_unacceptable v s || is_challenged at s || is_another_syn v s || is_astray at v s) text
    (or_left (is_unacceptable v s || is_challenged at s || is_another_syn v s) (is_astray at v s)
    (or_left (is_unacceptable v s || is_challenged at s) (is_another_syn v s) (or_left (is_unacceptable v s) (is_challenged at s) unacceptable))))
  where
    brings : (state : State) → is_receiving state ≡ true → may_bring state ≡ true
    brings Established e = refl
    brings FinWait1 e = refl
    brings FinWait2 e = refl
    brings _ e = cc

drawn : (at : Places) (v : View) (s : Segment) → IsSound v → StandsAt at v s → is_receiving v.state ≡ true → IsOrdinary s → at.ack ≤ at.una + outstanding v.sending → 0 < length s.octets → at.first + length s.octets ≤ at.next → draws at v s ≡ true
drawn at v s sound stands receives plain sent some old = or_left (drawn_at at v s) (is_asking at v s) (drawn_by_kind at v s sound stands receives plain sent some old)

pub answered_at_once : (at : Places) (v : View) (s : Segment) (now : Moment) → IsSound v → StandsAt at v s → is_receiving v.state ≡ true → IsOrdinary s → at.ack ≤ at.una + outstanding v.sending
    → 0 < length s.octets → at.first + length s.octets ≤ at.next → holds_back v s now ≡ false → (after_segment_at v s now).owes_ack ≡ true
answered_at_once at v s now sound stands receives plain sent some old free =
    let lives = receiving_lives v.state receives in
    let again : is_opening_syn v s ≡ false =
    ap (λ b. v.passive && is_syn_received v.state && b && not s.flags.ack && not s.flags.rst && not (is_acceptable_to v s) && ((s.number + 1) % 2 ^ 32 == v.receiving.rnext)) plain.no_syn
    ∙ ap (λ b. b && not s.flags.ack && not s.flags.rst && not (is_acceptable_to v s) && ((s.number + 1) % 2 ^ 32 == v.receiving.rnext)) (and_false (v.passive && is_syn_received v.state)) in
    let loud : is_silenced v s now ≡ false = ap₂ (λ a b. a || b) free (ap (λ b. v.guard.on && b) again ∙ and_false v.guard.on) in
    owed_as_drawn at v s now sound lives.1 stands (goes_on v s now receives plain.no_rst (old_kept at v s stands old))
    ∙ ap₂ (λ a b. a && not b) (or_right v.owes_ack (draws at v s) (drawn at v s sound stands receives plain sent some old)) loud
