-- What gave way leaves room, so the pair of the segment is what it opens.
use Rattle.std.proofs.Common.{◌∙◌, ap}
use Rattle.host.specs.GiveWay.{foreseen_by_way}
use Rattle.host.specs.HostView.{HostView}
use Rattle.host.proofs.GivenWay.{seen}
use Rattle.host.proofs.host.Host.would_open_by_way.Goals as goal

pub returns : goal.returns
returns c =
    c.would_open_by_way.ensures
    ∙ ap (λ (h : HostView). foreseen_by_way h c.args.frame.now) c.self.view_is
    ∙ seen c.args.self.now c.args.frame.now c.sound.ensures.ordered c.sound.ensures.reached
