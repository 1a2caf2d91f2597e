-- What is shown of a layer, from what is shown of the layers above it.
use Rattle.std.proofs.Common.{◌≡◌, ◌++◌, List, ℕ, Option, Some, None, refl, sym, ap, ◌∙◌, append_assoc, append-nil}
use Rattle.decode.specs.declared.unreadable.Unreadable.{Unreadable}
use Rattle.decode.specs.Layers.{Shown, Shows, nothing, dropped, above}

-- where nothing is shown, the text stays as it was
pub shows-nothing : (text : List ℕ) → Shows nothing None text text
shows-nothing text = record { why = refl; grown = sym (append-nil text) }

pub shows-drop : (cause : Unreadable) (text : List ℕ) → Shows (dropped cause) (Some cause) text text
shows-drop cause text = record { why = refl; grown = sym (append-nil text) }

-- a line goes before what is shown of the layers above
pub shows-above : (rest : Shown) (cause : Option Unreadable) (line old mid new : List ℕ) → mid ≡ old ++ line →
    Shows rest cause mid new → Shows (above line rest) cause old new
shows-above rest cause line old mid new lined shown = record {
  why = shown.why;
  grown = shown.grown ∙ ap (λ text. text ++ rest.lines) lined ∙ append_assoc old line rest.lines;
}
