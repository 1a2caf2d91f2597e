use Rattle.std.proofs.Common.{◌≡◌, List, length, arith, ap, ◌∙◌}
use Rattle.std.specs.List.{count_by}
use Rattle.std.proofs.lemmas.List.Sums.{count_by-le-length}
use Rattle.stream_buf.specs.declared.ranges.Range.{Range}
use Rattle.stream_buf.specs.Ranges.{touches, with_range}
use Rattle.stream_buf.proofs.Joining.{touching_counted, length_with}
use Rattle.stream_buf.proofs.ranges.Ranges.len_with.Goals as goal

pub returns : goal.returns
returns c =
    let rs : List Range = c.self.inside.list.items in
    let counted : c.touching.result ≡ count_by (λ (r : Range). touches r c.args.new) rs =
    c.touching.ensures ∙ ap (λ (l : List Range). count_by (λ (r : Range). touches r c.args.new) l) c.deref.ensures.0 in
    let all = length_with rs 1 c.args.new c.self.invariant c.requires in
    let few = count_by-le-length (λ (r : Range). touches r c.args.new) rs in
    let same = touching_counted c.args.new rs in
    let seen = ap (λ (l : List Range). length (with_range l c.args.new)) c.self.view_is in
    omega (arith, counted, all, few, same, seen, c.len.ensures.value)
