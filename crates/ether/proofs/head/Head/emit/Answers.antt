use Rattle.std.proofs.Common.{◌≡◌, ◌+◌, ◌-◌, length, rules, arith, sym, refl, ◌∙◌, ap}
use Rattle.ether.specs.Frame.{head_octets, padding}
use Rattle.std.specs.List.{slice_range}
use Rattle.std.specs.Prelude.{replicate}
use Rattle.ether.proofs.Framing.{framed, slice_range-length}
use Rattle.ether.proofs.head.Head.emit.Goals as goal

pub returns-clause-octets : goal.returns-clause-octets
returns-clause-octets c =
    let n = c.args.payload_len in
    let h = c.args.self.now in
    let count : length c.fill.new.self ≡ 14 + c.max-end.result - (14 + n) = c.fill.ensures.len ∙ search rules in
    let room : length c.args.out.now ≡ 1514 = search rules in
    let len = slice_range-length c.args.out.now n (omega (arith, room, c.requires)) in
    let pad : 14 + c.max-end.result - (14 + n) ≡ 46 - length (slice_range c.args.out.now 14 (14 + n)) = omega (arith, len, c.max-end.ensures) in
    framed c.copy_from_slice.new.self (head_octets h.destination h.source h.kind) c.args.out.now c.fill.new.self (padding (slice_range c.args.out.now 14 (14 + n))) n (14 + c.max-end.result)
    (14 + c.max-end.result - (14 + n)) (search rules) (c.fill.ensures.after (λ y e. e) ∙ ap (λ k. replicate k 0) (sym c.fill.ensures.len ∙ (count ∙ pad))) (omega (arith, c.max-end.ensures)) (search rules) refl count
