-- What is put together is one that was accepted.
use Rattle.std.proofs.Common.{◌≡◌, ◌≢◌, ℕ, ◌<◌, ◌≤◌, List, [], ◌∷◌, ◌++◌, length, get_or, Option, Some, inl, inr, refl, sym, ◌∙◌, ap, subst, All}
use Rattle.std.proofs.lemmas.Bool.{cases_lt}
use Rattle.std.proofs.lemmas.List.Elements.{All-push, All-weaker}
use Rattle.clock.specs.declared.moment.Moment.{Moment}
use Rattle.ipv4.specs.Datagram.{Datagram}
use Rattle.udp.specs.Datagram.{spelling}
use Rattle.reassembly.specs.declared.key.Key.{Key}
use Rattle.reassembly.specs.declared.assembled.Loss.TheVariants.{GivenUp}
use Rattle.reassembly.specs.declared.assembled.Assembled.{Assembled}
use Rattle.reassembly.specs.declared.assembled.Assembled.TheVariants.{Whole, Dropped}
use Rattle.reassembly.specs.declared.assembled.Whole as wholes
use Rattle.reassembly.specs.Events.{Event, after_events, gathered}
use Rattle.reassembly.specs.Fragments.{end_of, key_of}
use Rattle.reassembly.specs.Parts.{IsPartOf, ArePartsOf}
use Rattle.reassembly.specs.Places.{AnswersAt, AnswersTake, outcome_at, place_for}
use Rattle.reassembly.specs.Reassembly.{PoolView, Outcome, Answers}
use Rattle.reassembly.specs.Reassembly.Outcome.{Completes, GivesUp}
use Rattle.reassembly.proofs.OverEvents.{octets_after, refused, right_for}
use Rattle.datagram_law.specs.Accepted.{Accepted, AreInTurn, AreFew, datagram_of}
use Rattle.datagram_law.specs.Carried.{IsOf, IsOfOne, IsWholeOfOne}
use Rattle.datagram_law.specs.Pools.{TakesOfOne, IsPoolOf}
use Rattle.datagram_law.proofs.InTurn.{same_one}
use Rattle.datagram_law.proofs.Gathering.{IsFor, gathered_are}

-- fragments of one key are parts of one
parts_of : (accepted : List Accepted) (k : ℕ) (a : Accepted) (d : Datagram) → AreInTurn accepted → AreFew accepted → k < length accepted
    → get_or accepted k a ≡ a → IsOf a d → (e : Datagram) → IsFor accepted (key_of d) e → IsPartOf (spelling (datagram_of a)) e
parts_of accepted k a d turn few within there of e ((j, b, within', there', of'), key) =
    let number : e.identification ≡ d.identification = ap (λ (x : Key). x.identification) key in
    let same : b ≡ a = same_one accepted j k b a turn few within' there' within there (sym of'.identification ∙ number ∙ of.identification) in
    subst (λ (x : Accepted). IsPartOf (spelling (datagram_of x)) e) same of'.part

all_parts : (accepted : List Accepted) (number octets : ℕ) (events : List Event) (k : ℕ) (a : Accepted) (d : Datagram) → AreInTurn accepted → AreFew accepted
    → All (TakesOfOne accepted) events → k < length accepted → get_or accepted k a ≡ a → IsOf a d
    → ArePartsOf (spelling (datagram_of a)) (gathered number octets (key_of d) events ++ d ∷ [])
all_parts accepted number octets events k a d turn few taken within there of =
    let part = IsPartOf (spelling (datagram_of a)) in
    All-push part (gathered number octets (key_of d) events) d
    (All-weaker (IsFor accepted (key_of d)) part (parts_of accepted k a d turn few within there of) (gathered number octets (key_of d) events)
    (gathered_are accepted number octets (key_of d) events taken))
    of.part

-- a fragment by which a datagram is put together ends within the room of a place
ends_there : (number octets : ℕ) (events : List Event) (now : Moment) (d : Datagram) (whole : wholes.Whole)
    → AnswersTake now d (after_events number octets events) (Whole whole) → end_of d ≤ octets
ends_there number octets events now d whole answers =
    elim (cases_lt octets (end_of d)) [
      | inl long ↦
          let past : (after_events number octets events).octets < end_of d = subst (λ room. room < end_of d) (sym (octets_after number octets events)) long in
          let gone = refused now d (after_events number octets events) (Whole whole) past answers in
          cc
      | inr short ↦ short
    ]

pub answered : (accepted : List Accepted) (number octets : ℕ) (events : List Event) (now : Moment) (d : Datagram) (whole : wholes.Whole)
    → AreInTurn accepted → AreFew accepted → All (TakesOfOne accepted) events → IsOfOne accepted d
    → AnswersTake now d (after_events number octets events) (Whole whole) → IsWholeOfOne accepted d whole.octets.now
answered accepted number octets events now d whole turn few taken (k, a, within, there, of) answers =
    let short : end_of d ≤ octets = ends_there number octets events now d whole answers in
    let parts = all_parts accepted number octets events k a d turn few taken within there of in
    (k, a, within, there, (of, right_for number octets events now d (Whole whole) (spelling (datagram_of a)) short answers parts))

-- the outcome in a place, as it is answered
answers_at : (pool : PoolView) (now : Moment) (d : Datagram) (place : ℕ) (outcome : Outcome) (taken : Assembled)
    → place_for d pool ≡ Some place → outcome_at now d pool place ≡ outcome → Answers outcome taken → AnswersTake now d pool taken
answers_at pool now d place outcome taken found is answers =
    subst (λ (o : Option ℕ). AnswersAt now d pool o taken) (sym found) (subst (λ (o : Outcome). Answers o taken) (sym is) answers)

pub completed : (accepted : List Accepted) (pool : PoolView) (now : Moment) (d : Datagram) (place : ℕ) (payload quote : List ℕ)
    → AreInTurn accepted → AreFew accepted → IsPoolOf accepted pool → IsOfOne accepted d → place_for d pool ≡ Some place
    → outcome_at now d pool place ≡ Completes payload quote → IsWholeOfOne accepted d payload
completed accepted pool now d place payload quote turn few made of found is =
    let whole : wholes.Whole = record { octets = record { ref_ptr = (0, 0); now = payload }; quote = record { ref_ptr = (0, 0); now = quote } } in
    let answers : AnswersTake now d pool (Whole whole) = answers_at pool now d place (Completes payload quote) (Whole whole) found is (refl, refl) in
    answered accepted made.number pool.octets made.events now d whole turn few made.taken of
    (subst (λ (p : PoolView). AnswersTake now d p (Whole whole)) (sym made.after) answers)

pub kept : (accepted : List Accepted) (pool : PoolView) (now : Moment) (d : Datagram) (place : ℕ)
    → AreInTurn accepted → AreFew accepted → IsPoolOf accepted pool → IsOfOne accepted d → end_of d ≤ pool.octets → place_for d pool ≡ Some place
    → outcome_at now d pool place ≢ GivesUp
kept accepted pool now d place turn few made (k, a, within, there, of) short found is =
    let answers : AnswersTake now d pool (Dropped GivenUp) = answers_at pool now d place GivesUp (Dropped GivenUp) found is refl in
    right_for made.number pool.octets made.events now d (Dropped GivenUp) (spelling (datagram_of a)) short
    (subst (λ (p : PoolView). AnswersTake now d p (Dropped GivenUp)) (sym made.after) answers)
    (all_parts accepted made.number pool.octets made.events k a d turn few made.taken within there of)
