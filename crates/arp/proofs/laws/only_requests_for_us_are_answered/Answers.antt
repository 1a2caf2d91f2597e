use Rattle.std.proofs.Common.{◌≡◌, Bool, true, false, ◌&&◌, List, ℕ, refl, ap, ◌∙◌}
use Rattle.ipv4.specs.declared.addr.Addr.{Addr}
use Rattle.ipv4.specs.Addresses.{same_addr}
use Rattle.arp.specs.declared.packet.Operation.{Operation}
use Rattle.arp.specs.declared.packet.Operation.TheVariants.{Request, Reply}
use Rattle.arp.specs.Cache.{is_request}
use Rattle.arp.proofs.History.{same_octets, same_addr-refl}
use Rattle.arp.proofs.laws.only_requests_for_us_are_answered.Goals as goal

abbrev made : List ℕ → Addr
made octets = record { 0 = octets }

both : (a b : Bool) → (a && b) ≡ true → (a ≡ true) × (b ≡ true)
both true b e = (refl, e)
both false b e = cc

asks : (operation : Operation) → is_request operation ≡ true → operation ≡ Request
asks Request e = refl
asks Reply e = cc

pub returns : goal.returns
returns c ours p = (
  λ answered. let parts = both _ _ answered in (asks p.operation parts.1, ap made (same_octets p.target_addr ours parts.0)),
  λ asked. ap (λ operation. same_addr p.target_addr ours && is_request operation) asked.0
      ∙ (ap (λ addr. same_addr p.target_addr addr && true) (back asked.1) ∙ ap (λ b. b && true) (same_addr-refl p.target_addr)),
)
  where
    back : {a b : Addr} → a ≡ b → b ≡ a
    back e = cc
