-- The walk begins at the last opening of the chain, and another opening than the one that is looked for is passed.
use Rattle.std.proofs.Common.{◌≡◌, ◌∙◌, ℕ, suc, ◌-◌, ◌%◌, ◌<◌, ◌≤◌, false, List, length, get_or, take, ap, sym, subst, arith}
use Rattle.std.specs.List.{list_any}
use Rattle.wire_sim.specs.declared.event.Opening.{Opening}
use Rattle.wire_sim.specs.Tallies.{is_opening_of}
use Rattle.wire_sim.specs.Filing.{EndsAt, chain_at, epoch_number, by_epoch}
use Rattle.wire_sim.proofs.filing.LastLooked.{any-next}
use Rattle.wire_sim.proofs.filing.Walks.{filed-len, any-start, any-skipped}
use Rattle.wire_sim.proofs.world.ledger.Ledger.has.Goals as goal

pub loop-front-init : goal.loop-front-init
loop-front-init c =
    let os : List Opening = c.args.self.now.openings.items in
    let numbers : List ℕ = c.args.self.now.connections.numbers.items in
    let size : ℕ = length c.args.self.now.connections.heads.items in
    let front : ℕ = c.front-front.result in
    let at : EndsAt (chain_at size numbers) (epoch_number c.args.pair c.args.epoch % size) (length numbers) front =
    subst (λ (v : ℕ). EndsAt (chain_at size numbers) (v % size) (length numbers) front) c.connection_number.ensures c.front-front.ensures
    in
    let len : length numbers ≡ length os = filed-len by_epoch os numbers c.args.self.now.connections_filed in
    let within : front ≤ length numbers = at.within in
    record {
      same = any-start os numbers c.args.side c.args.pair c.args.epoch size front c.args.self.now.connections_filed at;
      within = omega (arith, len, within, c.args.self.now.openings.ok.0);
      last = at.last;
    }

pub loop-front-preserved : goal.loop-front-preserved
loop-front-preserved c =
    let os : List Opening = c.args.self.now.openings.items in
    let numbers : List ℕ = c.args.self.now.connections.numbers.items in
    let size : ℕ = length c.args.self.now.connections.heads.items in
    let place : ℕ = c.loop-front.front - 1 in
    let next : ℕ = c.before-front.result in
    let here : c.loop-front.front ≡ suc place = omega arith in
    let below : place < length os = omega (arith, c.loop-front.invariant.within, c.args.self.now.openings.ok.0) in
    let chain : chain_at size numbers place ≡ epoch_number c.args.pair c.args.epoch % size = c.loop-front.invariant.last place (omega arith) in
    let at : EndsAt (chain_at size numbers) (epoch_number c.args.pair c.args.epoch % size) place next =
    subst (λ (v : ℕ). EndsAt (chain_at size numbers) v place next) chain c.before-front.ensures
    in
    let within : next ≤ place = at.within in
    let o : Opening = c.index.result.now in
    let other : is_opening_of c.args.side c.args.pair c.args.epoch o ≡ false = sym c.is_of.ensures ∙ c.if-is_of.false in
    let passed : is_opening_of c.args.side c.args.pair c.args.epoch (get_or os place o) ≡ false = ap (is_opening_of c.args.side c.args.pair c.args.epoch) (sym c.index.ensures) ∙ other in
    record {
      same =
          c.loop-front.invariant.same
          ∙ ap (λ (k : ℕ). list_any (is_opening_of c.args.side c.args.pair c.args.epoch) (take k os)) here
          ∙ any-next (is_opening_of c.args.side c.args.pair c.args.epoch) os place o below passed
          ∙ any-skipped os numbers c.args.side c.args.pair c.args.epoch size place next c.args.self.now.connections_filed (omega arith) at;
      within = omega (arith, within, c.loop-front.invariant.within);
      last = at.last;
    }
