use Rattle.std.proofs.Common.{◌≡◌, ◌≤◌, length, set, arith, sym, ◌∙◌, ap}
use Rattle.marks.specs.Bits.{has}
use Rattle.marks.specs.Marked.{marked}
use Rattle.marks.proofs.Counted.{few_marked, at_most_one, may_set, counted_set}
use Rattle.marks.proofs.Kept.{written, stored_again}
use Rattle.marks.proofs.Stored.{length_marked, marked_set}
use Rattle.marks.proofs.flags.Marks.set.Goals as goal

pub put-requires-clause-within : goal.put-requires-clause-within
put-requires-clause-within c =
    let long : length c.args.self.now.items ≡ c.self.inside.len = sym (ap (λ v. length v.items) c.self.view_is) ∙ length_marked _ _ in
    omega arith

pub has-was_marked-requires : goal.has-was_marked-requires
has-was_marked-requires c =
    let long : length c.args.self.now.items ≡ c.self.inside.len = sym (ap (λ v. length v.items) c.self.view_is) ∙ length_marked _ _ in
    omega arith

pub overflow_add-self : goal.overflow_add-self
overflow_add-self c =
    let m = c.self.inside in
    let some : m.count ≤ m.len = few_marked m.words.items m.len m.count c.self.invariant.1 in
    let most : c.count_of.result ≤ 1 = at_most_one c.args.is_marked c.count_of.result c.count_of.ensures in
    omega (arith, c.self.invariant.0.fits, c.self.invariant.0.bounded)

pub overflow_sub-self : goal.overflow_sub-self
overflow_sub-self c =
    let m = c.self.inside in
    let long : length c.args.self.now.items ≡ m.len = sym (ap (λ v. length v.items) c.self.view_is) ∙ length_marked _ _ in
    may_set m.words.items m.len m.count c.self.invariant.1 c.args.place c.count_of-2.result c.has-was_marked.result (omega arith)
    (c.has-was_marked.ensures ∙ ap (λ ws. has ws c.args.place) c.as_slice.ensures.value) c.count_of-2.ensures c.args.is_marked c.count_of.result c.count_of.ensures

pub invariant_of-self : goal.invariant_of-self
invariant_of-self c =
    let m = c.self.inside in
    let long : length c.args.self.now.items ≡ m.len = sym (ap (λ v. length v.items) c.self.view_is) ∙ length_marked _ _ in
    let words : length c.put.new.words ≡ m.words.len = omega arith in
    let summary : length c.put.new.summary ≡ m.summary.len = omega arith in
    let set_there : marked _ m.len ≡ set (marked m.words.items m.len) c.args.place c.args.is_marked =
    ap (λ ws. marked ws m.len) (written c.put.new.words m.words.items _ words)
    ∙ marked_set c.put.new.words m.words.items m.len c.args.place c.args.is_marked (omega arith) c.put.ensures.same
    (λ k other. c.put.ensures.others k other ∙ ap (λ ws. has ws k) c.as_mut_slice.ensures.value)
    in (
      stored_again m.words.items m.summary.items m.len m.most c.self.invariant.0 c.put.new.words c.put.new.summary _ _ m.len
          (written _ _ _ words) (written _ _ _ summary) c.self.invariant.0.fits (omega arith) (omega arith)
          (λ k behind. c.put.ensures.others k (omega arith) ∙ ap (λ ws. has ws k) c.as_mut_slice.ensures.value ∙ c.self.invariant.0.clear k behind)
          c.put.ensures.summary,
      counted_set m.words.items m.len m.count c.self.invariant.1 c.args.place c.count_of-2.result c.has-was_marked.result (omega arith)
          (c.has-was_marked.ensures ∙ ap (λ ws. has ws c.args.place) c.as_slice.ensures.value) c.count_of-2.ensures c.args.is_marked c.count_of.result c.count_of.ensures _ set_there,
    )

pub returns-clause-items : goal.returns-clause-items
returns-clause-items c =
    let m = c.self.inside in
    let long : length c.args.self.now.items ≡ m.len = sym (ap (λ v. length v.items) c.self.view_is) ∙ length_marked _ _ in
    let words : length c.put.new.words ≡ m.words.len = omega arith in
    ap (λ ws. marked ws m.len) (written _ _ _ words)
    ∙ marked_set c.put.new.words m.words.items m.len c.args.place c.args.is_marked (omega arith) c.put.ensures.same
    (λ k other. c.put.ensures.others k other ∙ ap (λ ws. has ws k) c.as_mut_slice.ensures.value)
    ∙ ap (λ v. set v.items c.args.place c.args.is_marked) c.self.view_is
