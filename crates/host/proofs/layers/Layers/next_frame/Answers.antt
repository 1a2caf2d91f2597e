use Rattle.std.proofs.Common.{◌≤◌, arith, sym, ◌∙◌}
use Rattle.interface.specs.Emission.{len_at}
use Rattle.interface.proofs.Waits.{first_goes}
use Rattle.host.proofs.layers.Layers.next_frame.Goals as goal

pub returns-in-Some-clause-bounds : goal.returns-in-Some-clause-bounds
returns-in-Some-clause-bounds c =
    let least : 60 ≤ len_at c.self.inside.interface c.later_moment-now.result c.in-Some.place =
    (first_goes c.self.inside.interface c.later_moment-now.result c.in-Some.place (sym c.first_reply.ensures ∙ c.in-Some.is)).1 in
    (omega (arith, c.emit_reply.ensures.len, least), omega (arith, c.emit_reply.ensures.most))
