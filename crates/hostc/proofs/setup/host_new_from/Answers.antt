use Rattle.std.proofs.Common.{◌≡◌, ℤ, w64, to_z, of_z, arith, to_z-of_z, inr, refl, sym, subst}
use Rattle.hostc.specs.Setup.{Setup}
use Rattle.hostc.specs.declared.config.Config.{Config}
use Rattle.hostc.proofs.setup.host_new_from.Goals as goal

-- The octets are a config, and the handle is set up by what they say.
pub returns-in-Some-clause-made : goal.returns-in-Some-clause-made
returns-in-Some-clause-made c =
    let told : Setup c.in-Some.config c.args.routes.now c.args.handle.now.host c.set_up.result c.set_up.new.handle.host = c.set_up.ensures.made in
    let answered : to_z w64 (of_z w64 c.set_up.result) ≡ c.set_up.result = grind (arith, to_z-of_z, c.set_up.type_inv) in
    inr (
      c.in-Some.ensures.valid.0 refl,
      subst (λ (k : Config). Setup k c.args.routes.now c.args.handle.now.host (to_z w64 (of_z w64 c.set_up.result)) c.set_up.new.handle.host) c.in-Some.ensures.told
          (subst (λ (answer : ℤ). Setup c.in-Some.config c.args.routes.now c.args.handle.now.host answer c.set_up.new.handle.host) (sym answered) told),
    )
