-- One that doesn't stay is removed: what is kept of the whole stays the same, and so do those behind it.
use Rattle.std.proofs.Common.{◌≡◌, ℕ, suc, ◌-◌, ◌<◌, Bool, false, List, length, get_or, drop, filter, sym, ◌∙◌, ap, arith}
use Rattle.std.proofs.lemmas.List.Edits.{length-remove}
use Rattle.interface.specs.declared.reply.Waiting.{Waiting}
use Rattle.interface.proofs.Rooms.{drop_removed, filter_removed}
use Rattle.interface.proofs.timing.drop_over.Invariants.{stays_over}
use Rattle.interface.proofs.timing.drop_over.Goals as goal

pub loop-place-preserved-then-not-stays : goal.loop-place-preserved-then-not-stays
loop-place-preserved-then-not-stays c =
    let p : Waiting → Bool = stays_over c.args.routes.now c.args.cache.now c.args.now in
    let xs : List Waiting = c.loop-place.replies.replies in
    let k : ℕ = c.loop-place.place - 1 in
    let inv = c.loop-place.invariant in
    let next : suc k ≡ c.loop-place.place = omega (arith, c.loop-place-test.true) in
    let within : k < length xs = omega (arith, inv.0, c.loop-place-test.true) in
    let w : Waiting = c.index-as_slice-place.result in
    let at : w ≡ get_or xs k w = c.index-as_slice-place.is ∙ ap (λ ys. get_or ys k w) c.as_slice.ensures in
    let out : p (get_or xs k w) ≡ false = ap p (sym at) ∙ sym c.stays.ensures ∙ c.if-not-stays.true in
    let left : c.remove.new.self.replies ≡ _ = c.remove.ensures.replies in (
      omega (arith, inv.0, ap length left, length-remove xs k within),
      ap (filter p) left ∙ filter_removed p xs k w within out ∙ inv.1,
      ap (λ l. filter p (drop k l)) left ∙ ap (filter p) (drop_removed xs k) ∙ ap (λ n. filter p (drop n xs)) next ∙ inv.2
          ∙ ap (λ n. drop n xs) (sym next) ∙ sym (drop_removed xs k) ∙ ap (drop k) (sym left),
      c.remove.ensures.most ∙ inv.3,
    )
