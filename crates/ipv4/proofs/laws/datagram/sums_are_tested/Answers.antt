-- The header is the front of what spells the datagram.
use Rattle.std.proofs.Common.{◌≡◌, ◌+◌, ◌++◌, ℕ, List, [], append_assoc, length, take, sym, ◌∙◌, ap}
use Rattle.std.proofs.Math.Seq.{take-append_seam}
use Rattle.inet_sum.specs.Sum.{sum_of}
use Rattle.ipv4.specs.Datagram.{header_octets}
use Rattle.ipv4.proofs.Form.{read_spelled}
use Rattle.ipv4.proofs.laws.datagram.sums_are_tested.Goals as goal

pub returns : goal.returns
returns c = λ octets d spells.
    let form = spells.form in
    let header : List ℕ = header_octets d in
    let long : length header ≡ 20 + length d.options = (read_spelled d [] form.fields).4 in
    let front : take (20 + length d.options) octets ≡ header =
    ap (take (20 + length d.options)) (form.spelled ∙ append_assoc header d.payload form.padding) ∙ ap (λ n. take n (header ++ (d.payload ++ form.padding))) (sym long) ∙ take-append_seam header (d.payload ++ form.padding) in
    ap sum_of front ∙ spells.sum
