use Rattle.std.proofs.Common.{◌≡◌, All, List, ℕ, IsTrue, drop, sym, subst}
use Rattle.hostc.proofs.config.Config.read.Goals as goal

-- src/config.rt:69:13
pub returns-then-not-are_zero-clause-valid : goal.returns-then-not-are_zero-clause-valid
returns-then-not-are_zero-clause-valid c = (
  λ e. absurd cc,
  λ v. let rest = subst (λ (end : ℕ). All (λ octet. octet ≡ 0) (drop end c.args.octets.now)) (sym c.options_end.ensures.value) v.rest in
      let zero : IsTrue c.are_zero.result = c.are_zero.ensures.1 (subst (λ (octets : List ℕ). All (λ octet. octet ≡ 0) octets) (sym c.split_at.ensures.back) rest) in absurd cc,
)
