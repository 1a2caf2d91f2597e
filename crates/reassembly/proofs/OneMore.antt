-- What becomes of a datagram with one fragment more.
use Rattle.std.proofs.Common.{◌≡◌, ℕ, true, false, List, [], ◌∷◌, ◌++◌, Option, Some, None, refl, sym, ◌∙◌, ap}
use Rattle.std.proofs.lemmas.List.Sums.{fold-append}
use Rattle.ipv4.specs.Datagram.{Datagram}
use Rattle.clock.specs.declared.moment.Moment.{Moment}
use Rattle.reassembly.specs.Fragments.{is_contradictory, latest_quote, IsPayload}
use Rattle.reassembly.specs.Octets.{whole_of}
use Rattle.reassembly.specs.Reassembly.{Reassembly, begun, after_fragments, with_fragment, outcome, quoted}
use Rattle.reassembly.specs.Reassembly.Outcome.{Waits, Completes, GivesUp}
use Rattle.reassembly.proofs.Contradictions.{given_up}
use Rattle.reassembly.proofs.Outcomes.{outcome_given_up, outcome_completes, outcome_waits}
use Rattle.reassembly.proofs.Quotes.{quoted as latest_is_quoted}
use Rattle.reassembly.proofs.Together.{whole_is_payload, payload_is_whole}

-- one behind the others comes last
pub after_one_more : (r : Reassembly) (fragments : List Datagram) (d : Datagram)
    → after_fragments r (fragments ++ d ∷ []) ≡ with_fragment (after_fragments r fragments) d
after_one_more r fragments d = fold-append with_fragment r fragments (d ∷ [])

pub gives_up : (now : Moment) (first : Datagram) (fragments : List Datagram) (d : Datagram) → is_contradictory fragments ≡ false
    → is_contradictory (fragments ++ d ∷ []) ≡ true → outcome d (after_fragments (begun now first) fragments) ≡ GivesUp
gives_up now first fragments d h contrary =
    outcome_given_up d (after_fragments (begun now first) fragments) (given_up now first fragments d h ∙ contrary)

pub completes : (now : Moment) (first : Datagram) (fragments : List Datagram) (d : Datagram) (payload quote : List ℕ) → is_contradictory fragments ≡ false
    → is_contradictory (fragments ++ d ∷ []) ≡ false → IsPayload (fragments ++ d ∷ []) payload → latest_quote (fragments ++ d ∷ []) ≡ Some quote
    → outcome d (after_fragments (begun now first) fragments) ≡ Completes payload quote
completes now first fragments d payload quote h agree p q =
    outcome_completes d (after_fragments (begun now first) fragments) payload (given_up now first fragments d h ∙ agree)
    (ap (λ (r : Reassembly). whole_of r.end r.octets) (sym (after_one_more (begun now first) fragments d))
    ∙ payload_is_whole now first (fragments ++ d ∷ []) payload p)
    ∙ ap (λ (r : Reassembly). Completes payload (quoted r.quote)) (sym (after_one_more (begun now first) fragments d))
    ∙ ap (λ (o : Option (List ℕ)). Completes payload (quoted o)) (latest_is_quoted now first (fragments ++ d ∷ []) ∙ q)

pub waits : (now : Moment) (first : Datagram) (fragments : List Datagram) (d : Datagram) → is_contradictory fragments ≡ false
    → is_contradictory (fragments ++ d ∷ []) ≡ false → ((payload : List ℕ) → IsPayload (fragments ++ d ∷ []) payload → ⊥)
    → outcome d (after_fragments (begun now first) fragments) ≡ Waits (after_fragments (begun now first) (fragments ++ d ∷ []))
waits now first fragments d h agree none = by_whole (whole_of next.end next.octets) refl
  where
    before : Reassembly
    before = after_fragments (begun now first) fragments

    next : Reassembly
    next = with_fragment before d

    by_whole : (found : Option (List ℕ)) → whole_of next.end next.octets ≡ found
        → outcome d before ≡ Waits (after_fragments (begun now first) (fragments ++ d ∷ []))
    by_whole None e =
        outcome_waits d before (given_up now first fragments d h ∙ agree) e ∙ ap (λ (r : Reassembly). Waits r) (sym (after_one_more (begun now first) fragments d))
    by_whole (Some payload) e =
        absurd (none payload (whole_is_payload now first (fragments ++ d ∷ []) payload
        (ap (λ (r : Reassembly). whole_of r.end r.octets) (after_one_more (begun now first) fragments d) ∙ e)))
