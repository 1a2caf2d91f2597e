-- What a frame is to the host is said by its caller.
use Rattle.std.proofs.Common.{rules, arith, ◌∙◌, sym, ap, subst, Result}
use Rattle.frames.specs.declared.drop.DropCause.{DropCause}
use Rattle.frames.specs.declared.meaning.Meaning.{Meaning}
use Rattle.frames.proofs.Layers.{all_octets}
use Rattle.sockets.specs.SocketsView.{later_moment}
use Rattle.host.specs.Arrival.{MeetsHeard, IsDelivered}
use Rattle.host.specs.Heard.{heard_by}
use Rattle.host.specs.HostView.{HostView}
use Rattle.host.specs.Runs.{Delivers}
use Rattle.host.proofs.Guarded.{heard_fits}
use Rattle.host.proofs.Ran.{ran}
use Rattle.host.proofs.host.Host.meet.Goals as goal

pub meet-requires : goal.meet-requires
meet-requires c = heard_fits c.args.self.now c.args.frame.now c.args.meaning.now c.requires

pub invariant_of-self : goal.invariant_of-self
invariant_of-self c =
    let old : HostView = c.self.inside.layers in
    let heard = c.requires ∙ ap (λ (h : HostView). heard_by h c.args.frame.now) (sym c.self.view_is) in
    let delivered : IsDelivered old c.args.now c.args.isn.0 c.args.frame.now c.meet.result c.meet.new.self =
    subst (λ (m : Result Meaning DropCause). MeetsHeard m old (later_moment old.sockets c.args.now) c.args.isn.0 c.meet.result c.meet.new.self) heard c.meet.ensures
    in
    ran (Delivers c.args.now c.args.isn.0 c.args.frame.now) c.meet.new.self c.self.view_is c.sound.ensures.sound c.self.invariant (search rules) (all_octets c.args.frame.now (λ i. omega (arith, c.type_inv.frame i))) (λ config. tt) (c.meet.result, delivered)
