-- One fragment alone.
use Rattle.std.proofs.Common.{◌≡◌, ℕ, ◌==◌, ◌||◌, not, Bool, true, false, cond, List, [], ◌∷◌, length, Option, Some, None, option_map, refl, sym, ◌∙◌}
use Rattle.std.specs.Option.{option_map_or}
use Rattle.std.proofs.lemmas.Bool.{eqb-true}
use Rattle.clock.specs.declared.moment.Moment.{Moment}
use Rattle.ipv4.specs.Datagram.{Datagram}
use Rattle.reassembly.specs.Fragments.{end_of, IsPayload}
use Rattle.reassembly.specs.Octets.{whole_of}
use Rattle.reassembly.specs.Reassembly.{Reassembly, begun, conflicts, outcome, quoted, with_fragment}
use Rattle.reassembly.specs.Reassembly.Outcome.{Waits, Completes, GivesUp}
use Rattle.reassembly.proofs.Found.{quoted_where, wholes_are_quoted}
use Rattle.reassembly.proofs.Together.{whole_is_payload}

pub completes_so : (d : Datagram) (r : Reassembly) (payload quote : List ℕ) → outcome d r ≡ Completes payload quote
    → whole_of (with_fragment r d).end (with_fragment r d).octets ≡ Some payload
unfolding outcome
completes_so d r payload quote = by_conflict (conflicts d r.end (length r.octets))
  where
    next : Reassembly
    next = with_fragment r d

    by_whole : (o : Option (List ℕ)) → whole_of next.end next.octets ≡ o
        → option_map_or (λ made. Completes made (quoted next.quote)) o (Waits next) ≡ Completes payload quote → whole_of next.end next.octets ≡ Some payload
    by_whole None e f = cc
    by_whole (Some made) e f = let same : made ≡ payload = cc in cc

    by_conflict : (b : Bool)
        → cond b GivesUp (option_map_or (λ made. Completes made (quoted next.quote)) (whole_of next.end next.octets) (Waits next)) ≡ Completes payload quote
        → whole_of next.end next.octets ≡ Some payload
    by_conflict true f = cc
    by_conflict false f = by_whole (whole_of next.end next.octets) refl f

-- it is the last where its payload is whole
is_last_one : (d : Datagram) (more : Bool) (n : ℕ) → option_map end_of (cond (not more) (Some d) None) ≡ Some n → more ≡ false
is_last_one d true n e = cc
is_last_one d false n e = refl

alone_zero : (a : Bool) → (a || false) ≡ true → a ≡ true
alone_zero true e = refl
alone_zero false e = cc

pub alone_is_whole : (now : Moment) (d : Datagram) (payload quote : List ℕ) → outcome d (begun now d) ≡ Completes payload quote
    → (d.more_fragments ≡ false) × (d.offset ≡ 0)
alone_is_whole now d payload quote e =
    let whole = completes_so d (begun now d) payload quote e in
    let made : IsPayload (d ∷ []) payload = whole_is_payload now d (d ∷ []) payload whole in
    let zero : ((d.offset == 0) || false) ≡ true = sym (quoted_where (d ∷ [])) ∙ wholes_are_quoted (d ∷ []) payload made in (
      is_last_one d d.more_fragments (length payload) made.ends,
      eqb-true d.offset 0 (alone_zero (d.offset == 0) zero),
    )
