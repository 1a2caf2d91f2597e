use Rattle.std.proofs.Common.{[], ◌∷◌, ◌++◌, refl, ap, ◌∙◌}
use Rattle.routes.specs.declared.route.Route.{Route}
use Rattle.routes.specs.declared.route.Hop.TheVariants.{Direct}
use Rattle.wire_sim.proofs.HostsAreSetUp.{link_is_prefix}
use Rattle.wire_sim.proofs.hosts.link.Goals as goal

pub unwrap-prefix-requires : goal.unwrap-prefix-requires
unwrap-prefix-requires c = c.new.ensures.valid.1 link_is_prefix

pub returns : goal.returns
returns c =
    let route : Route = record { prefix = c.unwrap-prefix.result; hop = Direct } in
    let value = rw c.unwrap-prefix.ensures at c.new.ensures.value in
    let added = rw c.unwrap.ensures at c.add.ensures.ok in
    (route, added ∙ ap (λ table. table ++ route ∷ []) c.new-routes.ensures, record { first = value.0; length = value.1; hop = refl })
