-- Why ten segments at most that aren't used draw an acknowledgement in a second, and what is known of the peer's windows.
use Rattle.std.proofs.Common.{◌≡◌, ◌≢◌, ℕ, ◌+◌, ◌-◌, ◌<◌, ◌≤◌, ◌⊎◌, ◌==◌, ◌&&◌, ◌||◌, not, nat_lt, nat_le, true, false, if◌then◌else◌, List, [], ◌∷◌, Some, is_some, inl, inr, arith, refl, sym, ◌∙◌, ap, ap₂, subst}
use Rattle.std.proofs.lemmas.Bool.{leb-true, lt-ltb, le-leb, le-ltb}
use Rattle.std.proofs.lemmas.Bool.Decides.{leb_tells}
use Rattle.clock.specs.declared.moment.Moment.{Moment}
use Rattle.tcp_segment.specs.Segment.{Segment}
use Rattle.tcp_halves.specs.Stream.{outstanding}
use Rattle.tcp_halves.proofs.Choices.{either, by, clash, both, or_left, or_right, and_left, and_right, and_false, neither, not_true, unowed}
use Rattle.tcp_state.specs.declared.guard.Guard.{Guard}
use Rattle.tcp_state.specs.declared.emission.Due.TheVariants.{Rst, Syn}
use Rattle.tcp_state.specs.Guard.{counting_at, is_spent, guard_after}
use Rattle.tcp_state.specs.Resend.{mark_past}
use Rattle.tcp_state.specs.View.{View, IsSound, is_opening, is_syn_sent, is_closed}
use Rattle.tcp_state.specs.Alive.{after_silence}
use Rattle.tcp_state.specs.Arrival.{owing_ack, is_rejected, asks, draws_one, is_opening_syn, holds_back, owes_answer, is_held_back, resend_left, before, timed_by, after_heard, after_segment_at}
use Rattle.std.specs.Option.{option_or}
use Rattle.tcp_state.specs.Due.{first_due, ack_due, again_from, new_due}
use Rattle.tcp_state.specs.Duties.{Places, StandsAt, acknowledges, is_aged, is_in_reach, is_used}
use Rattle.tcp_state.specs.Edges.{Event, Hears, Ticks, Emits, Sends, Receives, Shuts, SetsNoDelay, SetsKeepAlive, Closes, Aborts, Unreachable, LosesHop, after_event}
use Rattle.tcp_state.specs.Drawn.{is_answered, answered_among, IsWithin, EachWithin}
use Rattle.tcp_state.proofs.Clocked.{timers_keep, emission_keeps, comes_to}
use Rattle.tcp_state.proofs.Events.{by_event}
use Rattle.tcp_state.proofs.Bare.{leaves, asking_tells}
use Rattle.tcp_state.proofs.Guarded.{heard_guard}
use Rattle.tcp_state.proofs.Unused.{drawing_tells, unused_owes, asking_owes, rejected_draws_none}
use Rattle.tcp_state.proofs.EndInOrder.{unused_stays}
use Rattle.tcp_state.proofs.SynAnswers.{goes_at_once}

-- What guards a connection moves with its segments alone.

abbrev Same : View → View → Type 0
Same v w = w.guard ≡ v.guard

abbrev Guards : View → Event → View → Type 0
Guards v e w = (w.guard ≡ v.guard) ⊎ ((s : Segment) × (now : Moment) × (e ≡ Hears s now))

pub guard_stays : (v : View) (e : Event) → Guards v e (after_event v e)
guard_stays v = by_event (Guards v) v (record {
  same = λ e. inl refl;
  asks = λ e alive. inl refl;
  silent = λ now. inl refl;
  heard = λ s now lives. inr (s, now, refl);
  over = λ now ends. inl refl;
  given_up = λ now waits expired. inl refl;
  acts = λ now. inl (ap (λ (w : View). w.guard) (timers_keep (after_silence v now) now));
  emits = λ now. inl (ap (λ (w : View). w.guard) (emission_keeps v (first_due v) now));
  sends = λ octets taken now opened. inl refl;
  reads = λ len. inl refl;
  shuts = λ now. inl refl;
  delays = λ on now. inl refl;
  leaves = λ now lives. inl refl;
  aborts = λ e now at cause lives. inl refl;
  refused = λ number hit. inl refl;
  hopless = λ now over. inl refl;
})

-- what a segment leaves of it
heard_leaves : (v : View) (s : Segment) (now : Moment) → is_closed v.state ≡ false → is_rejected v s ≡ false → (after_segment_at v s now).guard ≡ guard_after v.guard (draws_one v s) now
heard_leaves v s now lives taken = ap (λ (x : View). x.guard) (comes_to v s now lives taken) ∙ ap (λ g. guard_after g (draws_one v s) now) (heard_guard v s)

-- Octets.

pub taken_in_reach : (at : Places) (v : View) (s : Segment) (now : Moment) → IsSound v → v.guard.on ≡ true → is_syn_sent v.state ≡ false → StandsAt at v s → is_closed (after_segment_at v s now).state ≡ false
    → (after_segment_at v s now).receiving ≢ v.receiving → (at.una ≤ at.ack + v.sending.max_window) × (at.ack ≤ at.una + outstanding v.sending)
taken_in_reach at v s now sound on past stands lives moves = by ((at.una ≤ at.ack + v.sending.max_window) × (at.ack ≤ at.una + outstanding v.sending)) (is_used at v s)
    (λ used.
    let says = acknowledges v s in
    let near = and_right says (is_in_reach at v) (and_left (says && is_in_reach at v) _ used) in
    let young : is_aged at v ≡ false = not_true (is_aged at v) (and_right (nat_le at.ack (at.una + outstanding v.sending)) (not (is_aged at v)) near) in
    let sent = leb-true at.ack (at.una + outstanding v.sending) (and_left (nat_le at.ack (at.una + outstanding v.sending)) (not (is_aged at v)) near) in
    (not_below (at.ack + v.sending.max_window) at.una (sym (ap (λ b. b && nat_lt (at.ack + v.sending.max_window) at.una) on) ∙ young), sent))
    (λ unused. absurd (moves (unused_stays at v s now sound past stands unused lives).1))
  where
    not_below : (a b : ℕ) → nat_lt a b ≡ false → b ≤ a
    not_below a b none = elim (leb_tells (a + 1) b) [ inl t ↦ clash (nat_lt a b) (lt-ltb a b (omega (arith, t.1))) none | inr t ↦ omega (arith, t.1) ]

-- In a second.

-- those that were drawn from a moment on
base : Moment → Guard → ℕ
base from g = if nat_le from.0 g.latest.0 then g.drawn else 0

base_counts : (from now : Moment) (g : Guard) → now.0 < from.0 + 1000 → base from g ≤ counting_at g now
unfolding base
base_counts from now g near = either ℕ (λ n. n ≤ counting_at g now) (nat_le from.0 g.latest.0) g.drawn 0
    (λ since.
    let behind = leb-true from.0 g.latest.0 since in
    either ℕ (λ n. g.drawn ≤ n) (nat_lt (now.0 - g.latest.0) 1000) g.drawn 0 (λ recent. omega arith)
    (λ old. clash (nat_lt (now.0 - g.latest.0) 1000) (lt-ltb (now.0 - g.latest.0) 1000 (omega (arith, behind, near))) old))
    (λ before. omega arith)

-- one that is answered counts among ten, and any other event leaves what counts
record Step (v : View) (e : Event) (from : Moment) : Type 0 where
  pub more : is_answered v e ≡ true → (base from v.guard < 10) × (base from v.guard < base from (after_event v e).guard)
  pub same : is_answered v e ≡ false → base from (after_event v e).guard ≡ base from v.guard

kept_base : (from : Moment) (g h : Guard) → h.drawn ≡ g.drawn → h.latest ≡ g.latest → base from h ≡ base from g
unfolding base
kept_base from g h d l = ap₂ (λ n (m : Moment). if nat_le from.0 m.0 then n else 0) d l

one_more : (from now : Moment) (g h : Guard) → from.0 ≤ now.0 → now.0 < from.0 + 1000 → is_spent g now ≡ false → h.drawn ≡ counting_at g now + 1 → h.latest ≡ now → (base from g < 10) × (base from g < base from h)
unfolding base
one_more from now g h since near free d l =
    let counts = base_counts from now g near in
    let few : counting_at g now < 10 = elim (leb_tells 10 (counting_at g now)) [ inl t ↦ clash (is_spent g now) t.0 free | inr t ↦ t.1 ] in
    let is : base from h ≡ counting_at g now + 1 =
    ap₂ (λ n (m : Moment). if nat_le from.0 m.0 then n else 0) d l ∙ ap (λ b. if b then counting_at g now + 1 else 0) (le-leb from.0 now.0 since) in
    (omega (arith, counts, few), omega (arith, counts, is))

still : (v : View) (e : Event) (from : Moment) → is_answered v e ≡ false → (after_event v e).guard ≡ v.guard → Step v e from
still v e from none same = record { more = λ is. clash (is_answered v e) is none; same = λ not. ap (base from) same }

heard_steps : (v : View) (s : Segment) (now from : Moment) → IsWithin from (Hears s now) → Step v (Hears s now) from
heard_steps v s now from within = by (Step v (Hears s now) from) (is_closed v.state || is_rejected v s)
    (λ unheard. still v (Hears s now) from (none v s now unheard) (ap (λ b. (if b then v else timed_by (before v s) (after_heard v s) now).guard) unheard))
    (λ hears.
    let both = neither (is_closed v.state) (is_rejected v s) hears in
    let left = heard_leaves v s now both.0 both.1 in
    let counts = draws_one v s && not (is_spent v.guard now) in
    let answers : is_answered v (Hears s now) ≡ counts = ap (λ c. not c && draws_one v s && not (is_spent v.guard now)) both.0 in
    record {
      more = λ is.
          let c : counts ≡ true = sym answers ∙ is in
          one_more from now v.guard (after_event v (Hears s now)).guard within.0 within.1 (not_true (is_spent v.guard now) (and_right (draws_one v s) (not (is_spent v.guard now)) c))
          (ap (λ (g : Guard). g.drawn) left ∙ ap (λ b. if b then counting_at v.guard now + 1 else v.guard.drawn) c) (ap (λ (g : Guard). g.latest) left ∙ ap (λ b. if b then now else v.guard.latest) c);
      same = λ not_it.
          let c : counts ≡ false = sym answers ∙ not_it in
          kept_base from v.guard (after_event v (Hears s now)).guard (ap (λ (g : Guard). g.drawn) left ∙ ap (λ b. if b then counting_at v.guard now + 1 else v.guard.drawn) c)
          (ap (λ (g : Guard). g.latest) left ∙ ap (λ b. if b then now else v.guard.latest) c);
    })
  where
    none : (v : View) (s : Segment) (now : Moment) → (is_closed v.state || is_rejected v s) ≡ true → is_answered v (Hears s now) ≡ false
    none v s now unheard = by (is_answered v (Hears s now) ≡ false) (is_closed v.state)
        (λ closed. ap (λ c. not c && draws_one v s && not (is_spent v.guard now)) closed)
        (λ lives.
        let rejected : is_rejected v s ≡ true = sym (ap (λ c. c || is_rejected v s) lives) ∙ unheard in
        ap (λ d. not (is_closed v.state) && d && not (is_spent v.guard now)) (rejected_draws_none v s rejected) ∙ ap (λ b. b && not (is_spent v.guard now)) (and_false (not (is_closed v.state))))

other_stays : (v : View) (e : Event) (from : Moment) → is_answered v e ≡ false → ((s : Segment) (now : Moment) → e ≡ Hears s now → ⊥) → Step v e from
other_stays v e from none other = elim (guard_stays v e) [ inl same ↦ still v e from none same | inr hears ↦ absurd (other hears.0 hears.1 hears.2) ]

steps : (v : View) (e : Event) (from : Moment) → IsWithin from e → Step v e from
steps v (Hears s now) from within = heard_steps v s now from within
steps v (Ticks now) from within = other_stays v (Ticks now) from refl (λ s at e. cc)
steps v (Emits now) from within = other_stays v (Emits now) from refl (λ s at e. cc)
steps v (Sends octets now) from within = other_stays v (Sends octets now) from refl (λ s at e. cc)
steps v (Receives len) from within = other_stays v (Receives len) from refl (λ s at e. cc)
steps v (Shuts now) from within = other_stays v (Shuts now) from refl (λ s at e. cc)
steps v (SetsNoDelay on now) from within = other_stays v (SetsNoDelay on now) from refl (λ s at e. cc)
steps v (SetsKeepAlive every now) from within = other_stays v (SetsKeepAlive every now) from refl (λ s at e. cc)
steps v (Closes now) from within = other_stays v (Closes now) from refl (λ s at e. cc)
steps v (Aborts now) from within = other_stays v (Aborts now) from refl (λ s at e. cc)
steps v (Unreachable number) from within = other_stays v (Unreachable number) from refl (λ s at e. cc)
steps v (LosesHop now) from within = other_stays v (LosesHop now) from refl (λ s at e. cc)

few_from : (v : View) (events : List Event) (from : Moment) → EachWithin from events → answered_among v events ≤ 10 - base from v.guard
unfolding answered_among EachWithin
few_from v [] from each = omega arith
few_from v (e ∷ rest) from each =
    let step = steps v e from each.0 in
    let left = few_from (after_event v e) rest from each.1 in
    either ℕ (λ n. n + answered_among (after_event v e) rest ≤ 10 - base from v.guard) (is_answered v e) 1 0
    (λ is. let m = step.more is in omega (arith, left, m.0, m.1))
    (λ none. omega (arith, left, step.same none))

pub few_in_a_second : (v : View) (events : List Event) (from : Moment) → EachWithin from events → answered_among v events ≤ 10
few_in_a_second v events from each = let few = few_from v events from each in omega (arith, few)

-- Held back, and later.

drawn_taken : (v : View) (s : Segment) → draws_one v s ≡ true → is_rejected v s ≡ false
drawn_taken v s draws = by (is_rejected v s ≡ false) (is_rejected v s) (λ rejected. clash (draws_one v s) draws (rejected_draws_none v s rejected)) (λ none. none)

heard_so : (v : View) (s : Segment) (now : Moment) → is_closed v.state ≡ false → draws_one v s ≡ true → after_segment_at v s now ≡ timed_by (before v s) (after_heard v s) now
heard_so v s now lives draws = comes_to v s now lives (drawn_taken v s draws)

-- what draws one is owed it, unless it ends the connection
owed_one : (v : View) (s : Segment) → is_closed v.state ≡ false → draws_one v s ≡ true → is_closed (after_heard v s).state ≡ false → owes_answer (before v s) (after_heard v s) ≡ true
owed_one v s lives draws alive =
    let d = drawing_tells v s draws in
    let w = after_heard v s in
    elim d.unused [
      | inl unused ↦ or_left w.owes_ack (asks v s && not (is_syn_sent w.state || is_closed w.state)) (ap (λ (x : View). x.owes_ack) (unused_owes v s lives d.past unused))
      | inr is ↦
          let a = asking_tells v s is in
          let l = leaves v s a.opened a.none in
          or_right w.owes_ack (asks v s && not (is_syn_sent w.state || is_closed w.state))
          (both (asks v s) (not (is_syn_sent w.state || is_closed w.state)) is (ap₂ (λ b c. not (b || c)) l.past alive))
    ]

pub held_counts_none : (v : View) (s : Segment) (now : Moment) → is_closed v.state ≡ false → holds_back v s now ≡ true
    → (let w = after_segment_at v s now in (w.owes_ack ≡ false) × (w.guard.drawn ≡ v.guard.drawn) × (w.guard.latest ≡ v.guard.latest))
held_counts_none v s now lives holds =
    let draws = and_left (draws_one v s) (is_spent v.guard now) holds in
    let spent = and_right (draws_one v s) (is_spent v.guard now) holds in
    let at = heard_so v s now lives draws in
    let b = before v s in
    let w = after_heard v s in
    let held : is_held_back b w now ≡ true = ap (λ g. draws_one v s && is_spent g now) (heard_guard v s) ∙ holds in
    let left = heard_leaves v s now lives (drawn_taken v s draws) in
    let none : (draws_one v s && not (is_spent v.guard now)) ≡ false = ap (λ u. draws_one v s && not u) spent ∙ and_false (draws_one v s) in (
      ap (λ (x : View). x.owes_ack) at ∙ ap (λ h. if h || b.asks_again then false else owes_answer b w) held,
      ap (λ (g : Guard). g.drawn) left ∙ ap (λ c. if c then counting_at v.guard now + 1 else v.guard.drawn) none,
      ap (λ (g : Guard). g.latest) left ∙ ap (λ c. if c then now else v.guard.latest) none,
    )

pub drawn_later : (v : View) (s : Segment) (now : Moment) → is_closed v.state ≡ false → draws_one v s ≡ true → v.guard.latest.0 + 1000 ≤ now.0 → is_opening_syn v s ≡ false
    → is_closed (after_segment_at v s now).state ≡ false → (after_segment_at v s now).owes_ack ≡ true
drawn_later v s now lives draws over plain alive =
    let b = before v s in
    let free : is_spent v.guard now ≡ false = ap (λ c. nat_le 10 (if c then v.guard.drawn else 0)) (le-ltb (now.0 - v.guard.latest.0) 1000 (omega (arith, over))) in
    let loose : (draws_one v s && is_spent v.guard now) ≡ false = ap (λ u. draws_one v s && u) free ∙ and_false (draws_one v s) in
    let quiet : b.asks_again ≡ false = ap (λ p. v.guard.on && p) plain ∙ and_false v.guard.on in
    let w = after_heard v s in
    let at = heard_so v s now lives draws in
    let held : is_held_back b w now ≡ false = ap (λ g. draws_one v s && is_spent g now) (heard_guard v s) ∙ loose in
    ap (λ (x : View). x.owes_ack) at ∙ (ap₂ (λ h a. if h || a then false else owes_answer b w) held quiet ∙ owed_one v s lives draws (sym (ap (λ (x : View). is_closed x.state) at) ∙ alive))

-- The SYN again.

pub syn_draws_syn_ack : (v : View) (s : Segment) (now : Moment) → IsSound v → v.guard.on ≡ true → is_opening_syn v s ≡ true → holds_back v s now ≡ false
    → (let w = after_segment_at v s now in (w.owes_ack ≡ false) × (first_due w ≡ Some Syn))
syn_draws_syn_ack v s now sound on asks free =
    let a = asking_owes v s asks in
    let b = before v s in
    let w = owing_ack v in
    let x = timed_by b w now in
    let at : after_segment_at v s now ≡ x = comes_to v s now a.lives a.taken ∙ ap (λ y. timed_by b y now) a.heard in
    let again : b.asks_again ≡ true = ap (λ o. o && is_opening_syn v s) on ∙ asks in
    let silent : x.owes_ack ≡ false = ap₂ (λ h y. if h || y then false else owes_answer b w) free again in
    let mark : x.resend.mark ≡ mark_past 0 (outstanding v.sending) = ap₂ (λ y h. if y && not h then mark_past 0 (outstanding v.sending) else (resend_left b w now).mark) again free in
    let quiet : v.owes_reset ≡ false = unowed v.owes_reset (is_closed v.state) v.released a.lives sound.reset in
    let due : first_due x ≡ Some Syn =
    ap (λ o. if o then Some Rst else if is_opening v.state then (if (outstanding v.sending == 0) || is_some x.resend.mark then Some Syn else ack_due x) else option_or (again_from x x.resend.mark) (new_due x)) quiet
    ∙ (ap (λ o. if o then (if (outstanding v.sending == 0) || is_some x.resend.mark then Some Syn else ack_due x) else option_or (again_from x x.resend.mark) (new_due x)) a.opens
    ∙ (ap (λ m. if (outstanding v.sending == 0) || is_some m then Some Syn else ack_due x) mark ∙ ap (λ o. if o then Some Syn else ack_due x) (goes_at_once (outstanding v.sending)))) in
    subst (λ y. (y.owes_ack ≡ false) × (first_due y ≡ Some Syn)) (sym at) (silent, due)
