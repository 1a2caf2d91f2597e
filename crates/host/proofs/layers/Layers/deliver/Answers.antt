-- What is heard as a message fits into a frame.
use Rattle.host.proofs.Guarded.{heard_fits}
use Rattle.host.proofs.layers.Layers.deliver.Goals as goal

pub meet-requires : goal.meet-requires
meet-requires c = heard_fits c.args.self.now c.args.frame.now c.heard.result c.heard.ensures
