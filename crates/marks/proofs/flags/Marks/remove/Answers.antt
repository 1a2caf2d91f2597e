use Rattle.std.proofs.Common.{◌≡◌, ◌+◌, ◌-◌, ◌≤◌, length, arith, sym, ◌∙◌, ap}
use Rattle.std.specs.List.{remove}
use Rattle.marks.specs.Bits.{has}
use Rattle.marks.specs.Marked.{marked}
use Rattle.marks.proofs.Counted.{may_remove, counted_remove}
use Rattle.marks.proofs.Kept.{written, stored_again}
use Rattle.marks.proofs.Stored.{length_marked, marked_remove}
use Rattle.marks.proofs.flags.Marks.remove.Goals as goal

pub take_out-requires-clause-within : goal.take_out-requires-clause-within
take_out-requires-clause-within c =
    let long : length c.args.self.now.items ≡ c.self.inside.len = sym (ap (λ v. length v.items) c.self.view_is) ∙ length_marked _ _ in
    omega arith

pub has-was_marked-requires : goal.has-was_marked-requires
has-was_marked-requires c =
    let long : length c.args.self.now.items ≡ c.self.inside.len = sym (ap (λ v. length v.items) c.self.view_is) ∙ length_marked _ _ in
    omega arith

pub overflow_sub-self : goal.overflow_sub-self
overflow_sub-self c =
    let m = c.self.inside in
    let long : length c.args.self.now.items ≡ m.len = sym (ap (λ v. length v.items) c.self.view_is) ∙ length_marked _ _ in
    may_remove m.words.items m.len m.count c.self.invariant.1 c.args.place c.count_of.result c.has-was_marked.result (omega arith)
    (c.has-was_marked.ensures ∙ ap (λ ws. has ws c.args.place) c.as_slice.ensures.value) c.count_of.ensures

pub invariant_of-self : goal.invariant_of-self
invariant_of-self c =
    let m = c.self.inside in
    let long : length c.args.self.now.items ≡ m.len = sym (ap (λ v. length v.items) c.self.view_is) ∙ length_marked _ _ in
    let words : length c.take_out.new.words ≡ m.words.len = omega arith in
    let summary : length c.take_out.new.summary ≡ m.summary.len = omega arith in
    let fits : m.len ≤ m.most = c.self.invariant.0.fits in
    let left : marked _ (m.len - 1) ≡ remove (marked m.words.items m.len) c.args.place =
    ap (λ ws. marked ws (m.len - 1)) (written c.take_out.new.words m.words.items _ words)
    ∙ marked_remove c.take_out.new.words m.words.items m.len c.args.place (omega arith)
    (λ k before. c.take_out.ensures.before k before ∙ ap (λ ws. has ws k) c.as_mut_slice.ensures.value)
    (λ k behind. c.take_out.ensures.behind k behind ∙ ap (λ ws. has ws (k + 1)) c.as_mut_slice.ensures.value)
    in (
      stored_again m.words.items m.summary.items m.len m.most c.self.invariant.0 c.take_out.new.words c.take_out.new.summary _ _ (m.len - 1)
          (written _ _ _ words) (written _ _ _ summary) (omega arith) (omega arith) (omega arith)
          (λ k behind. c.take_out.ensures.behind k (omega arith) ∙ ap (λ ws. has ws (k + 1)) c.as_mut_slice.ensures.value ∙ c.self.invariant.0.clear (k + 1) (omega arith))
          c.take_out.ensures.summary,
      counted_remove m.words.items m.len m.count c.self.invariant.1 c.args.place c.count_of.result c.has-was_marked.result (omega arith)
          (c.has-was_marked.ensures ∙ ap (λ ws. has ws c.args.place) c.as_slice.ensures.value) c.count_of.ensures _ left,
    )

pub returns-clause-items : goal.returns-clause-items
returns-clause-items c =
    let m = c.self.inside in
    let long : length c.args.self.now.items ≡ m.len = sym (ap (λ v. length v.items) c.self.view_is) ∙ length_marked _ _ in
    let words : length c.take_out.new.words ≡ m.words.len = omega arith in
    ap (λ ws. marked ws (m.len - 1)) (written _ _ _ words)
    ∙ marked_remove c.take_out.new.words m.words.items m.len c.args.place (omega arith)
    (λ k before. c.take_out.ensures.before k before ∙ ap (λ ws. has ws k) c.as_mut_slice.ensures.value)
    (λ k behind. c.take_out.ensures.behind k behind ∙ ap (λ ws. has ws (k + 1)) c.as_mut_slice.ensures.value)
    ∙ ap (λ v. remove v.items c.args.place) c.self.view_is
