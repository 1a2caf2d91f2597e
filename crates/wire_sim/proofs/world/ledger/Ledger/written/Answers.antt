-- The walk begins at the last opening of the chain, and the count beside one that is looked for replaces what was found before.
use Rattle.std.proofs.Common.{◌≡◌, ◌∙◌, ℕ, suc, ◌-◌, ◌%◌, ◌<◌, ◌≤◌, List, length, get_or, take, refl, ap, sym, subst, arith}
use Rattle.std.proofs.lemmas.List.{get_or_read_under}
use Rattle.wire_sim.specs.declared.event.Opening.{Opening}
use Rattle.wire_sim.specs.Tallies.{is_opening_of}
use Rattle.wire_sim.specs.Filing.{EndsAt, chain_at, epoch_number, by_epoch}
use Rattle.wire_sim.proofs.counts.CountFound.{written_or, written-here, written-next}
use Rattle.wire_sim.proofs.filing.Walks.{filed-len, written-start, written-skipped}
use Rattle.wire_sim.proofs.world.ledger.Ledger.written.Goals as goal
use Rattle.wire_sim.proofs.world.ledger.Ledger.written.Goals.{then-is_of, else-is_of}

pub loop-front-init : goal.loop-front-init
loop-front-init c =
    let os : List Opening = c.args.self.now.openings.items in
    let numbers : List ℕ = c.args.self.now.connections.numbers.items in
    let size : ℕ = length c.args.self.now.connections.heads.items in
    let front : ℕ = c.front-front.result in
    let at : EndsAt (chain_at size numbers) (epoch_number c.args.pair c.args.epoch % size) (length numbers) front =
    subst (λ (v : ℕ). EndsAt (chain_at size numbers) (v % size) (length numbers) front) c.connection_number.ensures c.front-front.ensures
    in
    let len : length numbers ≡ length os = filed-len by_epoch os numbers c.args.self.now.connections_filed in
    let within : front ≤ length numbers = at.within in
    record {
      same = written-start os c.args.self.now.written.items numbers c.args.side c.args.pair c.args.epoch size front c.args.self.now.connections_filed at;
      within = omega (arith, len, within, c.args.self.now.openings.ok.0);
      last = at.last;
    }

pub loop-front-preserved : goal.loop-front-preserved
loop-front-preserved c =
    let os : List Opening = c.args.self.now.openings.items in
    let ws : List ℕ = c.args.self.now.written.items in
    let numbers : List ℕ = c.args.self.now.connections.numbers.items in
    let size : ℕ = length c.args.self.now.connections.heads.items in
    let place : ℕ = c.loop-front.front - 1 in
    let next : ℕ = c.before-front.result in
    let here : c.loop-front.front ≡ suc place = omega arith in
    let below : place < length os = omega (arith, c.loop-front.invariant.within, c.args.self.now.openings.ok.0) in
    let beside : place < length ws = omega (arith, below, c.args.self.now.counted, c.args.self.now.openings.ok.0, c.args.self.now.written.ok.0) in
    let chain : chain_at size numbers place ≡ epoch_number c.args.pair c.args.epoch % size = c.loop-front.invariant.last place (omega arith) in
    let at : EndsAt (chain_at size numbers) (epoch_number c.args.pair c.args.epoch % size) place next =
    subst (λ (v : ℕ). EndsAt (chain_at size numbers) v place next) chain c.before-front.ensures
    in
    let within : next ≤ place = at.within in
    let o : Opening = c.index.result.now in
    let read : is_opening_of c.args.side c.args.pair c.args.epoch (get_or os place o) ≡ c.is_of.result = ap (is_opening_of c.args.side c.args.pair c.args.epoch) (sym c.index.ensures) ∙ sym c.is_of.ensures in
    let step : written_or (take (suc place) os) ws c.args.side c.args.pair c.args.epoch c.loop-front.octets ≡ written_or (take place os) ws c.args.side c.args.pair c.args.epoch c.if-is_of.octets =
    elim c.if-is_of.branch [
      | then-is_of w ↦
          written-here os ws c.args.side c.args.pair c.args.epoch place c.loop-front.octets o below beside (read ∙ w.if-is_of.true)
          ∙ ap (written_or (take place os) ws c.args.side c.args.pair c.args.epoch)
          (sym (w.octets-is ∙ get_or_read_under ws place (length ws) w.index-octets.result.now 0 w.index-octets.ensures beside refl))
      | else-is_of w ↦
          written-next os ws c.args.side c.args.pair c.args.epoch c.loop-front.octets place o below (read ∙ w.if-is_of.false)
          ∙ ap (written_or (take place os) ws c.args.side c.args.pair c.args.epoch) (sym w.octets-is)
    ]
    in
    record {
      same =
          c.loop-front.invariant.same
          ∙ ap (λ (k : ℕ). written_or (take k os) ws c.args.side c.args.pair c.args.epoch c.loop-front.octets) here
          ∙ step
          ∙ written-skipped os ws numbers c.args.side c.args.pair c.args.epoch c.if-is_of.octets size place next c.args.self.now.connections_filed (omega arith) at;
      within = omega (arith, within, c.loop-front.invariant.within);
      last = at.last;
    }
