-- What is planned goes out, and a request that may.
use Rattle.std.proofs.Common.{◌≡◌, true, sym, subst}
use Rattle.arp.specs.Cache.{may_ask}
use Rattle.host.specs.HostView.{HostView}
use Rattle.host.specs.Plans.{IsFirst}
use Rattle.host.proofs.layers.Layers.emit_planned.Goals as goal

pub emit_request-requires : goal.emit_request-requires
emit_request-requires c =
    subst (λ (g : HostView). may_ask c.args.now c.in-Ask.hop g.interface.cache.asked ≡ true) (sym c.self.view_is) (subst (IsFirst c.args.self.now c.args.now) c.in-Ask.is c.requires.first)
