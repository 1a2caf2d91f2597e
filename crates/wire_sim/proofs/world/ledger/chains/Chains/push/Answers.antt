-- The place is put before the last one of its chain.
use Rattle.std.proofs.Common.{◌≡◌, ◌∙◌, ℕ, ◌+◌, List, [], ◌∷◌, ◌++◌, length, get_or, set, refl, ap, sym, subst}
use Rattle.std.proofs.lemmas.List.{get_or_read_under}
use Rattle.wire_sim.specs.Filing.{IsChained}
use Rattle.wire_sim.proofs.filing.ChainsInTurn.{IsChained-push}
use Rattle.wire_sim.proofs.world.ledger.chains.Chains.push.Goals as goal

pub invariant_of-self-clause-chained : goal.invariant_of-self-clause-chained
invariant_of-self-clause-chained c =
    let hs : List ℕ = c.args.self.now.heads.items in
    let ns : List ℕ = c.args.self.now.numbers.items in
    let bs : List ℕ = c.args.self.now.before.items in
    let chain : ℕ = c.chain-chain.result in
    let pushed = IsChained-push hs ns bs c.args.number chain c.chain-chain.ensures.bound c.chain-chain.ensures.chain c.args.self.now.chained in
    let place : c.len-place.result ≡ length ns = c.len-place.ensures ∙ c.args.self.now.numbers.ok.0 in
    let last : c.index.result.now ≡ get_or hs chain 0 = get_or_read_under hs chain (length hs) c.index.result.now 0 c.index.ensures c.chain-chain.ensures.bound refl in
    let befores : c.push_reserved.new.self.items ≡ bs ++ get_or hs chain 0 ∷ [] = c.push_reserved.ensures.items ∙ ap (λ (v : ℕ). bs ++ v ∷ []) last in
    subst (λ (v : ℕ). IsChained (set hs chain (v + 1)) c.push_reserved-2.new.self.items c.push_reserved.new.self.items) (sym place)
    (subst (λ (xs : List ℕ). IsChained (set hs chain (length ns + 1)) xs c.push_reserved.new.self.items) (sym c.push_reserved-2.ensures.items)
    (subst (λ (xs : List ℕ). IsChained (set hs chain (length ns + 1)) (ns ++ c.args.number ∷ []) xs) (sym befores) pushed))
