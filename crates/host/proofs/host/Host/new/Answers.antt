-- Nothing happened to its layers.
use Rattle.std.proofs.Common.{refl}
use Rattle.host.proofs.Begun.{run-made}
use Rattle.host.proofs.host.Host.new.Goals as goal

pub of-requires : goal.of-requires
of-requires c =
    let parts = c.into_parts-routes.ensures.parts in
    run-made c.args.config _ _ _ _ _ _ _ _ _ c.sound.ensures parts.0 parts.1 parts.2 parts.3 parts.4 refl c.new-interface.ensures c.new-sockets.ensures c.new-pool.ensures
