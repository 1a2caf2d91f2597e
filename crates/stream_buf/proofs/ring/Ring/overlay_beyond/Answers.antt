use Rattle.std.proofs.Common.{ℕ, ◌+◌, ◌≤◌, List, length, take, ◌∙◌, ap, arith}
use Rattle.std.proofs.lemmas.List.{length-take, with_items_is}
use Rattle.stream_buf.specs.Ring.{Buffer, buffer, turned, overlaid}
use Rattle.stream_buf.proofs.Turning.{length-turned, in_use_with}
use Rattle.stream_buf.proofs.Writing.{length-filled_to, written_before}
use Rattle.stream_buf.proofs.ring.Ring.overlay_beyond.Goals as goal

pub overflow_add-end : goal.overflow_add-end
overflow_add-end c = omega (arith, c.requires.within, ap (λ (b : Buffer). b.capacity) c.self.view_is, c.self.ranges.1)

pub returns : goal.returns
returns c =
    let block : List ℕ = c.self.inside.block.items in
    let written : List ℕ = c.write_before.new.block.items in
    let capacity : ℕ = c.self.inside.capacity in
    let start : ℕ = c.self.inside.start in
    let len : ℕ = c.self.inside.len in
    let at : ℕ = c.args.at in
    let octets : List ℕ = c.args.octets.now in
    let end : ℕ = start + c.min.result in
    let seen = ap (λ (b : Buffer). length b.items) c.self.view_is in
    let room = ap (λ (b : Buffer). b.capacity) c.self.view_is in
    let most : end ≤ capacity = omega (arith, c.min.ensures, c.self.invariant.0.there, c.self.invariant.0.places) in
    let longer = ap (λ (xs : List ℕ). length xs) c.write_before.ensures.items ∙ length-filled_to end block in
    let size = length-turned start written in
    let within : len ≤ length (turned start written) = omega (arith, size, longer, c.self.invariant.0.fits) in
    let there : at ≤ len = omega (arith, seen, length-take len (turned start block), c.requires.there) in
    let fits : at + length octets ≤ length (turned start written) = omega (arith, size, longer, room, c.requires.within, c.min.ensures) in
    let all : ℕ = c.max-self-inside.result in
    ap (λ (xs : List ℕ). buffer (take all (turned start xs)) capacity) (with_items_is c.write_before.new.block c.put.new.block (c.put.ensures.len ∙ c.as_mut_slice.ensures.len))
    ∙ ap (λ (xs : List ℕ). buffer (take all xs) capacity) c.put.ensures.octets
    ∙ ap (λ (xs : List ℕ). buffer (take all (overlaid at octets (turned start xs))) capacity) c.as_mut_slice.ensures.value
    ∙ ap (λ (n : ℕ). buffer (take n (overlaid at octets (turned start written))) capacity) c.max-self-inside.ensures
    ∙ ap (λ (xs : List ℕ). buffer xs capacity) (in_use_with (turned start written) octets len at within there fits)
    ∙ ap (λ (xs : List ℕ). buffer (overlaid at octets (take len (turned start xs))) capacity) c.write_before.ensures.items
    ∙ ap (λ (xs : List ℕ). buffer (overlaid at octets xs) capacity) (written_before block end capacity start len c.self.invariant.0 most)
    ∙ ap (λ (b : Buffer). buffer (overlaid at octets b.items) b.capacity) c.self.view_is
