use Rattle.std.proofs.Common.{◌≡◌, ◌+◌, ◌≤◌, [], ◌∷◌, ◌++◌, length, arith, sym, ◌∙◌, ap}
use Rattle.marks.specs.Bits.{has}
use Rattle.marks.specs.Marked.{marked}
use Rattle.marks.proofs.Counted.{few_marked, at_most_one, counted_push}
use Rattle.marks.proofs.Kept.{written, stored_again}
use Rattle.marks.proofs.Stored.{length_marked, marked_push}
use Rattle.marks.proofs.flags.Marks.push.Goals as goal

pub put-requires-clause-within : goal.put-requires-clause-within
put-requires-clause-within c =
    let long : length c.args.self.now.items ≡ c.self.inside.len = sym (ap (λ v. length v.items) c.self.view_is) ∙ length_marked _ _ in
    let most : c.self.inside.most ≡ c.args.self.now.most = ap (λ v. v.most) c.self.view_is in
    omega arith

pub overflow_add-self-2 : goal.overflow_add-self-2
overflow_add-self-2 c =
    let m = c.self.inside in
    let some : m.count ≤ m.len = few_marked m.words.items m.len m.count c.self.invariant.1 in
    let most : c.count_of.result ≤ 1 = at_most_one c.args.is_marked c.count_of.result c.count_of.ensures in
    omega (arith, c.self.invariant.0.fits, c.self.invariant.0.bounded)

pub invariant_of-self : goal.invariant_of-self
invariant_of-self c =
    let m = c.self.inside in
    let long : length c.args.self.now.items ≡ m.len = sym (ap (λ v. length v.items) c.self.view_is) ∙ length_marked _ _ in
    let most : m.most ≡ c.args.self.now.most = ap (λ v. v.most) c.self.view_is in
    let words : length c.put.new.words ≡ m.words.len = omega arith in
    let summary : length c.put.new.summary ≡ m.summary.len = omega arith in
    let joined : marked _ (m.len + 1) ≡ marked m.words.items m.len ++ c.args.is_marked ∷ [] =
    ap (λ ws. marked ws (m.len + 1)) (written c.put.new.words m.words.items _ words)
    ∙ marked_push c.put.new.words m.words.items m.len c.args.is_marked c.put.ensures.same
    (λ k other. c.put.ensures.others k other ∙ ap (λ ws. has ws k) c.as_mut_slice.ensures.value)
    in (
      stored_again m.words.items m.summary.items m.len m.most c.self.invariant.0 c.put.new.words c.put.new.summary _ _ (m.len + 1)
          (written _ _ _ words) (written _ _ _ summary) (omega arith) (omega arith) (omega arith)
          (λ k behind. c.put.ensures.others k (omega arith) ∙ ap (λ ws. has ws k) c.as_mut_slice.ensures.value ∙ c.self.invariant.0.clear k (omega arith))
          c.put.ensures.summary,
      counted_push m.words.items m.len m.count c.self.invariant.1 c.args.is_marked c.count_of.result _ c.count_of.ensures joined,
    )

pub returns-clause-items : goal.returns-clause-items
returns-clause-items c =
    let m = c.self.inside in
    let words : length c.put.new.words ≡ m.words.len = omega arith in
    ap (λ ws. marked ws (m.len + 1)) (written _ _ _ words)
    ∙ marked_push c.put.new.words m.words.items m.len c.args.is_marked c.put.ensures.same
    (λ k other. c.put.ensures.others k other ∙ ap (λ ws. has ws k) c.as_mut_slice.ensures.value)
    ∙ ap (λ v. v.items ++ c.args.is_marked ∷ []) c.self.view_is
