use Rattle.std.proofs.Common.{◌++◌, List, ℕ, ◌∙◌, ap}
use Rattle.stream_buf.proofs.Turning.{overlaid_back}
use Rattle.stream_buf.proofs.ring.put_in_parts.Goals as goal

pub returns-then-front-at-clause-octets : goal.returns-then-front-at-clause-octets
returns-then-front-at-clause-octets c =
    ap (λ (xs : List ℕ). c.args.front.now ++ xs) c.copy_to.ensures.octets
    ∙ overlaid_back c.args.front.now c.args.back.now c.args.octets.now c.args.at c.if-front-at.true
