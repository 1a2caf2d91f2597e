-- Why a segment draws an acknowledgement exactly where it asks for one, and delays one exactly from octets on.
use Rattle.std.proofs.Common.{◌≡◌, ◌+◌, ◌==◌, ◌||◌, ◌&&◌, ◌%◌, ◌^◌, not, nat_lt, if◌then◌else◌, Bool, true, false, length, inl, inr, arith, refl, sym, ◌∙◌, ap, ap₂, subst}
use Rattle.std.proofs.lemmas.Bool.{eq-eqb, ne_eqb}
use Rattle.std.proofs.lemmas.Bool.Decides.{eqb_tells}
use Rattle.tcp_segment.specs.Segment.{Segment, span_of}
use Rattle.clock.specs.declared.moment.Moment.{Moment}
use Rattle.tcp_segment.specs.Wire.{past}
use Rattle.tcp_halves.specs.Stream.{is_in_window}
use Rattle.tcp_state.specs.declared.state.State.{State}
use Rattle.tcp_state.specs.declared.state.State.TheVariants.{SynReceived}
use Rattle.tcp_state.specs.View.{View, IsSound, is_opening, is_syn_sent, is_syn_received, is_closed, after_reset}
use Rattle.tcp_state.specs.Arrival.{owing_ack, reset_error, after_rst_in_syn_sent, after_rst, is_simultaneous_syn, after_simultaneous_syn, after_syn_ack, is_acceptable_to, ends_by_syn, is_acting_reset, ends_by_reset, after_ack, is_read_on, after_acknowledging_segment, after_acceptable_segment, after_segment, is_lost, after_lost, after_heard, is_rejected, asks, is_unused, draws_one, is_opening_syn, is_silenced, owes_answer, is_held_back, before, timed_by, after_segment_at}
use Rattle.tcp_state.specs.Guard.{is_spent}
use Rattle.tcp_state.specs.Duties.{Places, StandsAt, is_out_of_reach, is_in_reach, may_bring, brings_text, hurries, is_asking, draws}
use Rattle.tcp_halves.proofs.Choices.{either, by, clash, and_right, and_false, or_else}
use Rattle.tcp_state.proofs.Segments.{after_reading}
use Rattle.tcp_state.proofs.Unchanged.{IsUnsent, unsent, unsent_leaves}
use Rattle.tcp_state.proofs.Bare.{leaves, asking_tells}
use Rattle.tcp_state.proofs.Guarded.{heard_guard, opening_asks_none}
use Rattle.tcp_state.proofs.Unused.{unsent_used}
use Rattle.tcp_state.proofs.Standing.{inside_accepted, ack_stands, number_stands}
use Rattle.tcp_state.proofs.DrawTests.{by_rst, refused, by_syn, no_ack_drawn, by_ack_drawn, by_ack_brought, rst_says_none, refused_says_none, syn_says_none, no_ack_says_none, Answered, none_drawn, one_drawn, quiet, drawn_at}
use Rattle.tcp_state.proofs.AckAnswers.{unused_answered, used_answered}

-- Every segment.

next_none : (inside next : Bool) → next ≡ true → (inside && not next) ≡ false
next_none true true e = refl
next_none false next e = refl
next_none true false e = cc

inside_one : (accepted inside next : Bool) → (accepted && next) ≡ false → inside ≡ true → accepted ≡ true → (inside && not next) ≡ true
inside_one true true false a i c = refl
inside_one true true true a i c = cc
inside_one true false next a i c = cc
inside_one false inside next a i c = cc

outside_none : (inside next : Bool) → inside ≡ false → (inside && not next) ≡ false
outside_none false next e = refl
outside_none true next e = cc

bars_tells : (accepted syn passive received : Bool) → accepted ≡ true → syn ≡ true → (passive && received) ≡ (accepted && syn && passive && received)
bars_tells true true true received a s = refl
bars_tells true true false received a s = refl
bars_tells false syn passive received a s = cc
bars_tells true false passive received a s = cc

-- a reset
rst_answered : (at : Places) (v : View) (s : Segment) → StandsAt at v s → s.flags.rst ≡ true → is_closed (after_rst v s).state ≡ false → Answered at v s (after_rst v s)
rst_answered at v s stands rst =
    let n = number_stands at v s stands in
    let accepted = is_acceptable_to v s in
    let inside = is_in_window v.receiving s.number in
    let next = s.number == v.receiving.rnext in
    let d : drawn_at at v s ≡ (inside && not next) =
    by_rst s.flags.rst accepted s.flags.syn s.flags.ack (nat_lt at.next at.first) (nat_lt at.first at.edge) (v.passive && is_syn_received v.state) (is_opening v.state) (is_out_of_reach at v)
    (is_in_reach at v) (not (is_syn_received v.state) || nat_lt at.una at.ack) (may_bring v.state) (s.flags.fin || hurries at v s) rst ∙ n.challenged in
    let q = quiet at v s (rst_says_none s.flags.rst accepted s.flags.syn s.flags.ack rst) in
    let P : View → Type 0 = λ w. is_closed w.state ≡ false → Answered at v s w in
    either View P (is_acting_reset v s) (if ends_by_reset v s then v else after_reset v (reset_error v.state)) (if inside then owing_ack v else v)
    (λ acts. either View P (ends_by_reset v s) v (after_reset v (reset_error v.state))
    (λ removed lives. none_drawn at v s (d ∙ next_none inside next (and_right accepted next acts)) q)
    (λ stays closed. let bad : true ≡ false = closed in cc))
    (λ elsewhere. either View P inside (owing_ack v) v
    (λ within lives. one_drawn at v s (d ∙ inside_one accepted inside next elsewhere within (inside_accepted v.receiving s.number (span_of s) within)) q)
    (λ outside lives. none_drawn at v s (d ∙ outside_none inside next outside) q))

-- one that is acceptable
accepted_answered : (at : Places) (v : View) (s : Segment) → IsSound v → is_syn_sent v.state ≡ false → StandsAt at v s → s.flags.rst ≡ false → is_acceptable_to v s ≡ true
    → is_closed (after_acceptable_segment v s).state ≡ false → Answered at v s (after_acceptable_segment v s)
accepted_answered at v s sound past stands no_rst accepted =
    let P : View → Type 0 = λ w. is_closed w.state ≡ false → Answered at v s w in
    let bars = v.passive && is_syn_received v.state in
    let last = s.flags.fin || hurries at v s in
    let right = not (is_syn_received v.state) || nat_lt at.una at.ack in
    let within = is_in_reach at v in
    let beyond = is_out_of_reach at v in
    let says = is_acceptable_to v s in
    either View P s.flags.syn (if ends_by_syn v s then v else owing_ack v) (if s.flags.ack then after_acknowledging_segment v s else v)
    (λ syn.
    let d : drawn_at at v s ≡ not (ends_by_syn v s) =
    by_syn s.flags.rst says s.flags.syn s.flags.ack (nat_lt at.next at.first) (nat_lt at.first at.edge) bars (is_opening v.state) beyond within right (may_bring v.state) last no_rst accepted syn
    ∙ ap not (bars_tells says s.flags.syn v.passive (is_syn_received v.state) accepted syn) in
    let q = quiet at v s (syn_says_none s.flags.rst says s.flags.syn s.flags.ack syn) in
    either View P (ends_by_syn v s) v (owing_ack v) (λ removed lives. none_drawn at v s (d ∙ ap not removed) q) (λ stays lives. one_drawn at v s (d ∙ ap not stays) q))
    (λ no_syn. either View P s.flags.ack (after_acknowledging_segment v s) v
    (λ ack.
    let d = by_ack_drawn s.flags.rst says s.flags.syn s.flags.ack (nat_lt at.next at.first) (nat_lt at.first at.edge) bars (is_opening v.state) beyond within right (may_bring v.state) last no_rst accepted no_syn ack in
    let t = by_ack_brought s.flags.rst says s.flags.syn s.flags.ack within right (may_bring v.state) (not (length s.octets == 0)) no_rst accepted no_syn ack in
    let order = ack_stands at v s sound stands ack in
    either View P (is_read_on v s.acknowledgement) (after_reading v s) (after_ack v s.acknowledgement)
    (λ on. used_answered at v s order (number_stands at v s stands).stands d t on)
    (λ off lives. unused_answered at v s past order d t off))
    (λ no_ack lives. none_drawn at v s
    (no_ack_drawn s.flags.rst says s.flags.syn s.flags.ack (nat_lt at.next at.first) (nat_lt at.first at.edge) bars (is_opening v.state) beyond within right (may_bring v.state) last no_rst accepted no_syn no_ack)
    (quiet at v s (no_ack_says_none s.flags.rst says s.flags.syn s.flags.ack no_ack))))

-- one without RST
abbrev without_rst : View → Segment → View
without_rst v s =
    if is_syn_sent v.state then (if is_simultaneous_syn v s then after_simultaneous_syn v s else after_syn_ack v s)
    else if is_acceptable_to v s then after_acceptable_segment v s
    else owing_ack v

segment_answered : (at : Places) (v : View) (s : Segment) → IsSound v → is_syn_sent v.state ≡ false → StandsAt at v s → is_closed (after_segment v s).state ≡ false → Answered at v s (after_segment v s)
segment_answered at v s sound past stands =
    let P : View → Type 0 = λ w. is_closed w.state ≡ false → Answered at v s w in
    either View P (is_closed v.state) v (if s.flags.rst then (if is_syn_sent v.state then after_rst_in_syn_sent v s else after_rst v s) else without_rst v s)
    (λ closed lives. clash (is_closed v.state) closed lives)
    (λ open_yet. either View P s.flags.rst (if is_syn_sent v.state then after_rst_in_syn_sent v s else after_rst v s) (without_rst v s)
    (λ rst. either View P (is_syn_sent v.state) (after_rst_in_syn_sent v s) (after_rst v s) (λ waits. clash (is_syn_sent v.state) waits past) (λ past_it. rst_answered at v s stands rst))
    (λ no_rst. either View P (is_syn_sent v.state) (if is_simultaneous_syn v s then after_simultaneous_syn v s else after_syn_ack v s) (if is_acceptable_to v s then after_acceptable_segment v s else owing_ack v)
    (λ waits. clash (is_syn_sent v.state) waits past)
    (λ past_it. either View P (is_acceptable_to v s) (after_acceptable_segment v s) (owing_ack v)
    (λ accepted. accepted_answered at v s sound past stands no_rst accepted)
    (λ refuses lives. one_drawn at v s
    (refused s.flags.rst (is_acceptable_to v s) s.flags.syn s.flags.ack (nat_lt at.next at.first) (nat_lt at.first at.edge) (v.passive && is_syn_received v.state) (is_opening v.state) (is_out_of_reach at v)
    (is_in_reach at v) (not (is_syn_received v.state) || nat_lt at.una at.ack) (may_bring v.state) (s.flags.fin || hurries at v s) no_rst refuses)
    (quiet at v s (refused_says_none s.flags.rst (is_acceptable_to v s) s.flags.syn s.flags.ack refuses))))))

-- With the clock.

heard_answered : (at : Places) (v : View) (s : Segment) → IsSound v → is_syn_sent v.state ≡ false → StandsAt at v s → is_closed (after_heard v s).state ≡ false → Answered at v s (after_heard v s)
heard_answered at v s sound past stands =
    either View (λ w. is_closed w.state ≡ false → Answered at v s w) (is_lost v s) (after_lost v s) (after_segment v s) (λ lost closed. let bad : true ≡ false = closed in cc) (λ kept. segment_answered at v s sound past stands)

-- What is owed at its moment: on guard it may be held back, or our SYN goes out again in its place.

-- where it asks for one, by number and by position
received_opens : (t : State) → is_syn_received t ≡ true → is_opening t ≡ true
received_opens SynReceived e = refl
received_opens _ e = cc

asks_stand : (at : Places) (v : View) (s : Segment) → StandsAt at v s → asks v s ≡ is_asking at v s
asks_stand at v s stands =
    let one = not s.flags.rst && not (is_opening v.state) && (span_of s == 0) in
    let r = stands.receives in
    let near = stands.first_near in
    ap (λ b. one && b) (elim (eqb_tells (at.first + 1) at.next) [
      | inl same ↦ eq-eqb (past v.receiving.rnext s.number) 1 (omega (arith, r.next_number, stands.first_number, same.1)) ∙ sym same.0
      | inr other ↦ ne_eqb (past v.receiving.rnext s.number) 1 (λ is. other.1 (omega (arith, r.next_number, stands.first_number, is, near.behind, near.ahead))) ∙ sym other.0
    ])

answer_is : (at : Places) (v : View) (s : Segment) → StandsAt at v s → is_closed (after_heard v s).state ≡ false → owes_answer (before v s) (after_heard v s) ≡ ((after_heard v s).owes_ack || is_asking at v s)
answer_is at v s stands lives =
    let w = after_heard v s in
    by (owes_answer (before v s) w ≡ (w.owes_ack || is_asking at v s)) (asks v s)
    (λ is.
    let a = asking_tells v s is in
    let l = leaves v s a.opened a.none in
    ap (λ b. w.owes_ack || (b && not (is_syn_sent w.state || is_closed w.state))) is
    ∙ (ap₂ (λ b c. w.owes_ack || not (b || c)) l.past lives ∙ ap (λ b. w.owes_ack || b) (sym is ∙ asks_stand at v s stands)))
    (λ none. ap (λ b. w.owes_ack || (b && not (is_syn_sent w.state || is_closed w.state))) none ∙ ap (λ b. w.owes_ack || b) (sym none ∙ asks_stand at v s stands))

with_none : (owes draws asking : Bool) → asking ≡ false → (owes || (draws || asking)) ≡ (owes || draws)
with_none true draws asking e = refl
with_none false true asking e = refl
with_none false false asking e = e

either_order : (a b c : Bool) → ((a || b) || c) ≡ (a || (b || c))
either_order true b c = refl
either_order false b c = refl

-- a segment that is rejected draws none
unsent_draws : (v : View) (s : Segment) (now : Moment) → is_syn_sent v.state ≡ false → IsUnsent v s → is_silenced v s now ≡ false
unsent_draws v s now past u =
    let r = u.received past in
    let one = v.guard.on && not v.owes_ack && not (is_syn_sent v.state) in
    let silent : draws_one v s ≡ false = ap₂ (λ b c. one && (b || c)) (unsent_used v s past u) (opening_asks_none v s (received_opens v.state r.0)) ∙ and_false one in
    let again : is_opening_syn v s ≡ false =
    ap (λ b. v.passive && is_syn_received v.state && b && not s.flags.ack && not s.flags.rst && not (is_acceptable_to v s) && ((s.number + 1) % 2 ^ 32 == v.receiving.rnext)) r.2
    ∙ ap (λ b. b && not s.flags.ack && not s.flags.rst && not (is_acceptable_to v s) && ((s.number + 1) % 2 ^ 32 == v.receiving.rnext)) (and_false (v.passive && is_syn_received v.state)) in
    ap₂ (λ a b. (a && is_spent v.guard now) || b) silent (ap (λ b. v.guard.on && b) again ∙ and_false v.guard.on)

kept_or_none : (silent owes : Bool) → (if silent then false else owes) ≡ (owes && not silent)
kept_or_none true owes = sym (and_false owes)
kept_or_none false true = refl
kept_or_none false false = refl

abbrev AnsweredAt : Places → View → Segment → Moment → View → Type 0
AnsweredAt at v s now w = (w.owes_ack ≡ ((v.owes_ack || draws at v s) && not (is_silenced v s now))) × (w.delays_ack ≡ (v.delays_ack || (brings_text at v s && not (length s.octets == 0))))

answered : (at : Places) (v : View) (s : Segment) (now : Moment) → IsSound v → is_syn_sent v.state ≡ false → StandsAt at v s → is_closed (after_segment_at v s now).state ≡ false → AnsweredAt at v s now (after_segment_at v s now)
answered at v s now sound past stands =
    let b = before v s in
    let w = after_heard v s in
    let silent = is_silenced v s now in
    either View (λ x. is_closed x.state ≡ false → AnsweredAt at v s now x) (is_closed v.state || is_rejected v s) v (timed_by b w now)
    (λ unheard lives. elim (or_else (is_closed v.state) (is_rejected v s) unheard) [
      | inl closed ↦ clash (is_closed v.state) closed lives
      | inr rejected ↦
          let u = unsent v s rejected in
          let same : after_segment v s ≡ v = unsent_leaves v s u in
          let a = subst (Answered at v s) same (segment_answered at v s sound past stands (ap (λ (x : View). is_closed x.state) same ∙ lives)) in
          let r = u.received past in
          let unasked : is_asking at v s ≡ false = sym (asks_stand at v s stands) ∙ opening_asks_none v s (received_opens v.state r.0) in
          (a.owes ∙ (sym (with_none v.owes_ack (drawn_at at v s) (is_asking at v s) unasked) ∙ kept_or_none false (v.owes_ack || draws at v s) ∙ ap (λ b. (v.owes_ack || draws at v s) && not b) (sym (unsent_draws v s now past u))), a.delays)
    ])
    (λ heard lives.
    let a = heard_answered at v s sound past stands lives in
    let kept : silent ≡ (is_held_back b w now || b.asks_again) = ap (λ g. (draws_one v s && is_spent g now) || (v.guard.on && is_opening_syn v s)) (sym (heard_guard v s)) in
    let owed : owes_answer b w ≡ (v.owes_ack || draws at v s) = answer_is at v s stands lives
    ∙ (ap (λ x. x || is_asking at v s) a.owes ∙ either_order v.owes_ack (drawn_at at v s) (is_asking at v s)) in
    (ap (λ x. if x then false else owes_answer b w) (sym kept) ∙ (kept_or_none silent (owes_answer b w) ∙ ap (λ x. x && not silent) owed), a.delays))

pub owed_as_drawn : (at : Places) (v : View) (s : Segment) (now : Moment) → IsSound v → is_syn_sent v.state ≡ false → StandsAt at v s → is_closed (after_segment_at v s now).state ≡ false
    → (after_segment_at v s now).owes_ack ≡ ((v.owes_ack || draws at v s) && not (is_silenced v s now))
owed_as_drawn at v s now sound past stands lives = (answered at v s now sound past stands lives).0

-- without guards
pub owed_unguarded : (at : Places) (v : View) (s : Segment) (now : Moment) → IsSound v → v.guard.on ≡ false → is_syn_sent v.state ≡ false → StandsAt at v s → is_closed (after_segment_at v s now).state ≡ false
    → (after_segment_at v s now).owes_ack ≡ (v.owes_ack || draws at v s)
owed_unguarded at v s now sound off past stands lives =
    let owed = v.owes_ack || draws at v s in
    let loud : is_silenced v s now ≡ false = ap (λ on. (on && not v.owes_ack && not (is_syn_sent v.state) && (is_unused v s || asks v s) && is_spent v.guard now) || (on && is_opening_syn v s)) off in
    owed_as_drawn at v s now sound past stands lives ∙ (ap (λ b. owed && not b) loud ∙ sym (kept_or_none false owed))

pub delayed_as_brought : (at : Places) (v : View) (s : Segment) (now : Moment) → IsSound v → is_syn_sent v.state ≡ false → StandsAt at v s → is_closed (after_segment_at v s now).state ≡ false
    → (after_segment_at v s now).delays_ack ≡ (v.delays_ack || (brings_text at v s && not (length s.octets == 0)))
delayed_as_brought at v s now sound past stands lives = (answered at v s now sound past stands lives).1
