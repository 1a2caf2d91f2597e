use Rattle.std.proofs.Common.{◌≡◌, ◌+◌, ◌-◌, ◌++◌, List, ℕ, length, take, ◌∙◌, ap, arith}
use Rattle.std.proofs.lemmas.List.{take-append-drop}
use Rattle.stream_buf.specs.Ring.{overlaid}
use Rattle.stream_buf.proofs.Turning.{overlaid_across}
use Rattle.stream_buf.proofs.ring.put_across.Goals as goal

pub returns-clause-octets : goal.returns-clause-octets
returns-clause-octets c =
    let k : ℕ = length c.args.front.now - c.args.at in
    let first : List ℕ = c.split_at.result.0.now in
    let second : List ℕ = c.split_at.result.1.now in
    let whole : first ++ second ≡ c.args.octets.now =
    ap (λ (xs : List ℕ). xs ++ second) c.split_at.ensures.front ∙ ap (λ (xs : List ℕ). take k c.args.octets.now ++ xs) c.split_at.ensures.back
    ∙ take-append-drop k c.args.octets.now in
    let filled : c.args.at + length first ≡ length c.args.front.now = omega (arith, c.split_at.ensures.front_len, c.requires.at) in
    ap (λ (xs : List ℕ). xs ++ c.copy_to-2.new.octets) c.copy_to.ensures.octets
    ∙ ap (λ (xs : List ℕ). overlaid c.args.at first c.args.front.now ++ xs) c.copy_to-2.ensures.octets
    ∙ overlaid_across c.args.front.now c.args.back.now first second c.args.at filled
    ∙ ap (λ (xs : List ℕ). overlaid c.args.at xs (c.args.front.now ++ c.args.back.now)) whole
