use Rattle.std.proofs.Common.{ℕ, List, sym, ◌∙◌, ap, length, take, length-append, arith}
use Rattle.inet_sum.specs.Sum.{sum_of}
use Rattle.udp.specs.Waiting.{Line, first_octets}
use Rattle.udp.proofs.Storing.{first_octets_are, first_len}
use Rattle.udp.proofs.waiting.Queue.sum.Goals as goal

pub sum_of_two-requires : goal.sum_of_two-requires
sum_of_two-requires c =
    let told = first_len c.args.self.now.items c.in-Some.first (sym c.in-Some.ensures.first) in
    let stored = first_octets_are c.self.inside.entries.items c.self.inside.octets.items c.self.invariant.lens in
    let seen = ap (λ (line : Line). length (first_octets line.items)) c.self.view_is in
    omega (arith, told, seen, stored.0, ap length c.as_slices.ensures, length-append c.as_slices.result.0.now c.as_slices.result.1.now)

pub returns : goal.returns
returns c =
    let octets : List ℕ = c.self.inside.octets.items in
    let told = first_len c.args.self.now.items c.in-Some.first (sym c.in-Some.ensures.first) in
    let stored = first_octets_are c.self.inside.entries.items octets c.self.invariant.lens in
    let seen = ap (λ (line : Line). length (first_octets line.items)) c.self.view_is in
    c.sum_of_two.ensures ∙ ap (λ (xs : List ℕ). sum_of (take c.in-Some.first.len xs)) c.as_slices.ensures
    ∙ ap (λ (n : ℕ). sum_of (take n octets)) (told ∙ sym seen) ∙ ap sum_of (sym stored.1) ∙ ap (λ (line : Line). sum_of (first_octets line.items)) c.self.view_is
