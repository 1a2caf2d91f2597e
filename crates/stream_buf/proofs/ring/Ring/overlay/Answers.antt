use Rattle.std.proofs.Common.{ℕ, ◌+◌, ◌≤◌, List, length, take, ◌∙◌, ap, arith}
use Rattle.std.proofs.lemmas.List.{length-take, with_items_is}
use Rattle.stream_buf.specs.Ring.{Buffer, buffer, turned, overlaid}
use Rattle.stream_buf.proofs.Turning.{length-turned, in_use_with}
use Rattle.stream_buf.proofs.ring.Ring.overlay.Goals as goal

pub overflow_add-end : goal.overflow_add-end
overflow_add-end c = omega (arith, c.requires.within, ap (λ (b : Buffer). b.capacity) c.self.view_is, c.self.ranges.1)

pub returns : goal.returns
returns c =
    let block : List ℕ = c.self.inside.block.items in
    let capacity : ℕ = c.self.inside.capacity in
    let start : ℕ = c.self.inside.start in
    let len : ℕ = c.self.inside.len in
    let at : ℕ = c.args.at in
    let octets : List ℕ = c.args.octets.now in
    let seen = ap (λ (b : Buffer). length b.items) c.self.view_is in
    let room = ap (λ (b : Buffer). b.capacity) c.self.view_is in
    let size = length-turned start block in
    let within : len ≤ length (turned start block) = omega (arith, size, c.self.invariant.0.fits) in
    let there : at ≤ len = omega (arith, seen, length-take len (turned start block), c.requires.there) in
    let fits : at + length octets ≤ length (turned start block) =
    omega (arith, size, room, c.requires.within, c.min.ensures, c.len.ensures, c.if-len-self.false, c.self.invariant.0.places, c.self.invariant.0.there) in
    let all : ℕ = c.max-self-inside.result in
    ap (λ (xs : List ℕ). buffer (take all (turned start xs)) capacity) (with_items_is c.self.inside.block c.put.new.block (c.put.ensures.len ∙ c.as_mut_slice.ensures.len))
    ∙ ap (λ (xs : List ℕ). buffer (take all xs) capacity) c.put.ensures.octets
    ∙ ap (λ (xs : List ℕ). buffer (take all (overlaid at octets (turned start xs))) capacity) c.as_mut_slice.ensures.value
    ∙ ap (λ (n : ℕ). buffer (take n (overlaid at octets (turned start block))) capacity) c.max-self-inside.ensures
    ∙ ap (λ (xs : List ℕ). buffer xs capacity) (in_use_with (turned start block) octets len at within there fits)
    ∙ ap (λ (b : Buffer). buffer (overlaid at octets b.items) b.capacity) c.self.view_is
