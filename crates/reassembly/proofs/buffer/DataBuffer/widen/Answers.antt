use Rattle.std.proofs.Common.{◌≡◌, ℕ, ◌-◌, false, length, take, replicate, ◌∙◌, ap, arith}
use Rattle.std.specs.Vec.{with_items}
use Rattle.std.proofs.lemmas.List.{with_items_is}
use Rattle.reassembly.specs.Buffers.{BufferView, known, over}
use Rattle.reassembly.specs.Octets.{reaching}
use Rattle.reassembly.proofs.BufferSteps.{shown, view_length, widened, not_widened}
use Rattle.reassembly.proofs.buffer.DataBuffer.widen.Goals as goal

pub returns-then-self-end : goal.returns-then-self-end
returns-then-self-end c =
    let reach : ℕ = c.self.inside.reach in
    let written : (with_items c.self.inside.present c.mark.new.present).items ≡ over reach (replicate (c.args.end - reach) false) c.self.inside.present.items =
    with_items_is c.self.inside.present c.mark.new.present (omega arith)
    ∙ c.mark.ensures ∙ ap (over reach (replicate (c.args.end - reach) false)) c.deref_mut.ensures.value in
    let room : length c.self.inside.octets.items ≡ c.args.self.now.room = ap (λ (b : BufferView). b.room) c.self.view_is in
    shown (length c.self.inside.octets.items)
    (known (take c.args.end c.self.inside.octets.items) (take c.args.end (with_items c.self.inside.present c.mark.new.present).items))
    (reaching c.args.end c.args.self.now.octets) c.args.self.now room
    (ap (λ flags. known (take c.args.end c.self.inside.octets.items) (take c.args.end flags)) written
    ∙ widened c.self.inside.octets.items c.self.inside.present.items reach c.args.end (omega arith) (omega (arith, room)) (omega (arith, room))
    ∙ ap (λ (b : BufferView). reaching c.args.end b.octets) c.self.view_is)

pub returns-else-self-end : goal.returns-else-self-end
returns-else-self-end c =
    let long : length (known (take c.self.inside.reach c.self.inside.octets.items) (take c.self.inside.reach c.self.inside.present.items)) ≡ c.self.inside.reach =
    view_length c.self.inside.octets.items c.self.inside.present.items c.self.inside.reach (omega arith) (omega arith) in
    ap (λ octets. record c.args.self.now { octets = octets })
    (not_widened c.args.end c.args.self.now.octets (omega (arith, long, ap (λ (b : BufferView). length b.octets) c.self.view_is)))
