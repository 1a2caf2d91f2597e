-- What fragments laid one after another leave of each: the quote of the last fragment zero, and the time and the key of the first.
use Rattle.std.proofs.Common.{◌≡◌, ℕ, ◌==◌, Bool, true, false, cond, List, [], ◌∷◌, reverse, find, Option, Some, None, option_map, refl, sym, ◌∙◌, ap}
use Rattle.std.specs.Option.{option_or}
use Rattle.std.proofs.lemmas.List.{reverse-append}
use Rattle.std.proofs.lemmas.List.Folds.{find-append}
use Rattle.ipv4.specs.Datagram.{Datagram}
use Rattle.clock.specs.declared.moment.Moment.{Moment}
use Rattle.reassembly.specs.Fragments.{quote_of, latest_quote}
use Rattle.reassembly.specs.Reassembly.{Reassembly, begun, with_fragment, after_fragments}

or_assoc : {X : Type 0} (a b c : Option X) → option_or (option_or a b) c ≡ option_or a (option_or b c)
or_assoc None b c = refl
or_assoc (Some x) b c = refl

or_none : {X : Type 0} (o : Option X) → option_or o None ≡ o
or_none None = refl
or_none (Some x) = refl

-- one before the others is quoted where none of them is
quote_of_more : (d : Datagram) (fragments : List Datagram)
    → latest_quote (d ∷ fragments) ≡ option_or (latest_quote fragments) (cond (d.offset == 0) (Some (quote_of d)) None)
quote_of_more d fragments =
    ap (λ (ds : List Datagram). option_map quote_of (find (λ e. e.offset == 0) ds)) (reverse-append (d ∷ []) fragments)
    ∙ ap (option_map quote_of) (find-append (λ e. e.offset == 0) (reverse fragments) (d ∷ []))
    ∙ mapped (find (λ e. e.offset == 0) (reverse fragments)) (cond (d.offset == 0) (Some d) None)
    ∙ ap (option_or (latest_quote fragments)) (alone (d.offset == 0))
  where
    mapped : (a b : Option Datagram) → option_map quote_of (option_or a b) ≡ option_or (option_map quote_of a) (option_map quote_of b)
    mapped None b = refl
    mapped (Some x) b = refl

    alone : (b : Bool) → option_map quote_of (cond b (Some d) None) ≡ cond b (Some (quote_of d)) None
    alone true = refl
    alone false = refl

quote_folded : (r : Reassembly) (fragments : List Datagram) → (after_fragments r fragments).quote ≡ option_or (latest_quote fragments) r.quote
quote_folded r [] = refl
quote_folded r (d ∷ fragments) =
    quote_folded (with_fragment r d) fragments
    ∙ ap (option_or (latest_quote fragments)) (either (d.offset == 0))
    ∙ sym (or_assoc (latest_quote fragments) (cond (d.offset == 0) (Some (quote_of d)) None) r.quote)
    ∙ ap (λ (o : Option (List ℕ)). option_or o r.quote) (sym (quote_of_more d fragments))
  where
    either : (b : Bool) → cond b (Some (quote_of d)) r.quote ≡ option_or (cond b (Some (quote_of d)) None) r.quote
    either true = refl
    either false = refl

pub quoted : (now : Moment) (first : Datagram) (fragments : List Datagram) → (after_fragments (begun now first) fragments).quote ≡ latest_quote fragments
quoted now first fragments = quote_folded (begun now first) fragments ∙ or_none (latest_quote fragments)

pub since_folded : (r : Reassembly) (fragments : List Datagram) → (after_fragments r fragments).since ≡ r.since
since_folded r [] = refl
since_folded r (d ∷ fragments) = since_folded (with_fragment r d) fragments

pub key_folded : (r : Reassembly) (fragments : List Datagram) → (after_fragments r fragments).key ≡ r.key
key_folded r [] = refl
key_folded r (d ∷ fragments) = key_folded (with_fragment r d) fragments
