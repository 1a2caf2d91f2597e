use Rattle.std.proofs.Common.{◌+◌, ◌≤◌, List, ℕ, length, slice_range, length-append, ◌∙◌, sym, ap, subst, arith}
use Rattle.udp.specs.Waiting.{Line, first_octets}
use Rattle.udp.proofs.Storing.{first_octets_stored}
use Rattle.udp.proofs.waiting.Queue.copy_at.Goals as goal

pub copy_of_two-requires : goal.copy_of_two-requires
copy_of_two-requires c =
    let required = subst (λ (line : Line). c.args.at + length c.args.out.now ≤ length (first_octets line.items)) (sym c.self.view_is) c.requires in
    let stored = first_octets_stored c.self.inside.entries.items c.self.inside.octets.items c.args.at (length c.args.out.now) c.self.invariant.lens required in
    omega (arith, stored.0, ap length c.as_slices.ensures, length-append c.as_slices.result.0.now c.as_slices.result.1.now)

pub returns : goal.returns
returns c =
    let n : ℕ = length c.args.out.now in
    let required = subst (λ (line : Line). c.args.at + n ≤ length (first_octets line.items)) (sym c.self.view_is) c.requires in
    let stored = first_octets_stored c.self.inside.entries.items c.self.inside.octets.items c.args.at n c.self.invariant.lens required in
    c.copy_of_two.ensures ∙ ap (λ (xs : List ℕ). slice_range xs c.args.at (c.args.at + n)) c.as_slices.ensures ∙ sym stored.1
    ∙ ap (λ (line : Line). slice_range (first_octets line.items) c.args.at (c.args.at + n)) c.self.view_is
