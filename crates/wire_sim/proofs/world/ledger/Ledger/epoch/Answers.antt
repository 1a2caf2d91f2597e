-- The walk begins at the last opening of the chain, and an opening of another pair is passed.
use Rattle.std.proofs.Common.{◌≡◌, ◌∙◌, ℕ, suc, ◌-◌, ◌%◌, ◌<◌, ◌≤◌, false, List, length, get_or, take, ap, sym, subst, arith}
use Rattle.wire_sim.specs.declared.event.Opening.{Opening}
use Rattle.wire_sim.specs.Openings.{epoch_of}
use Rattle.wire_sim.specs.Tallies.{same_pair}
use Rattle.wire_sim.specs.Filing.{EndsAt, chain_at, pair_number, by_pair}
use Rattle.wire_sim.proofs.filing.LastLooked.{epoch-next}
use Rattle.wire_sim.proofs.filing.Walks.{filed-len, epoch-start, epoch-skipped}
use Rattle.wire_sim.proofs.world.ledger.Ledger.epoch.Goals as goal

pub loop-front-init : goal.loop-front-init
loop-front-init c =
    let os : List Opening = c.args.self.now.openings.items in
    let numbers : List ℕ = c.args.self.now.pairs.numbers.items in
    let size : ℕ = length c.args.self.now.pairs.heads.items in
    let front : ℕ = c.front-front.result in
    let at : EndsAt (chain_at size numbers) (pair_number c.args.pair % size) (length numbers) front =
    subst (λ (v : ℕ). EndsAt (chain_at size numbers) (v % size) (length numbers) front) c.pair_number.ensures.value c.front-front.ensures
    in
    let len : length numbers ≡ length os = filed-len by_pair os numbers c.args.self.now.pairs_filed in
    let within : front ≤ length numbers = at.within in
    record {
      same = epoch-start os numbers c.args.pair size front c.args.self.now.pairs_filed at;
      within = omega (arith, len, within, c.args.self.now.openings.ok.0);
      last = at.last;
    }

pub loop-front-preserved : goal.loop-front-preserved
loop-front-preserved c =
    let os : List Opening = c.args.self.now.openings.items in
    let numbers : List ℕ = c.args.self.now.pairs.numbers.items in
    let size : ℕ = length c.args.self.now.pairs.heads.items in
    let place : ℕ = c.loop-front.front - 1 in
    let next : ℕ = c.before-front.result in
    let here : c.loop-front.front ≡ suc place = omega arith in
    let below : place < length os = omega (arith, c.loop-front.invariant.within, c.args.self.now.openings.ok.0) in
    let chain : chain_at size numbers place ≡ pair_number c.args.pair % size = c.loop-front.invariant.last place (omega arith) in
    let at : EndsAt (chain_at size numbers) (pair_number c.args.pair % size) place next =
    subst (λ (v : ℕ). EndsAt (chain_at size numbers) v place next) chain c.before-front.ensures
    in
    let within : next ≤ place = at.within in
    let o : Opening = c.index-opening.result.now in
    let other : same_pair o.pair c.args.pair ≡ false = sym c.eq.ensures ∙ c.if-eq.false in
    let passed : same_pair (get_or os place o).pair c.args.pair ≡ false = ap (λ (x : Opening). same_pair x.pair c.args.pair) (sym c.index-opening.ensures) ∙ other in
    record {
      same =
          c.loop-front.invariant.same
          ∙ ap (λ (k : ℕ). epoch_of (take k os) c.args.pair) here
          ∙ epoch-next os c.args.pair place o below passed
          ∙ epoch-skipped os numbers c.args.pair size place next c.args.self.now.pairs_filed (omega arith) at;
      within = omega (arith, within, c.loop-front.invariant.within);
      last = at.last;
    }
