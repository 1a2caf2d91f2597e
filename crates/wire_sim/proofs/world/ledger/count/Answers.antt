-- The walk begins at the last opening of the chain; the count at hand is as it was, and grows where its opening is one of the socket.
use Rattle.std.proofs.Common.{◌≡◌, ◌≢◌, ◌∙◌, ℕ, suc, ◌-◌, ◌%◌, ◌<◌, ◌≤◌, List, length, get_or, set, take, ap, sym, subst, arith}
use Rattle.std.proofs.lemmas.List.{length-set, get_or-set_other}
use Rattle.wire_sim.specs.declared.event.Opening.{Opening}
use Rattle.wire_sim.specs.Tallies.{counts_after}
use Rattle.wire_sim.specs.Filing.{EndsAt, chain_at, by_socket}
use Rattle.wire_sim.proofs.counts.CountsInTurn.{counted-here, counted-next}
use Rattle.wire_sim.proofs.filing.Walks.{filed-len, counted-start, counted-skipped}
use Rattle.wire_sim.proofs.world.ledger.count.Goals as goal
use Rattle.wire_sim.proofs.world.ledger.count.Goals.{then-is_at, else-is_at}

pub loop-front-init : goal.loop-front-init
loop-front-init c =
    let os : List Opening = c.args.openings.now in
    let numbers : List ℕ = c.args.sockets.now.numbers.items in
    let size : ℕ = length c.args.sockets.now.heads.items in
    let front : ℕ = c.front-front.result in
    let at : EndsAt (chain_at size numbers) (c.args.id.0 % size) (length numbers) front = c.front-front.ensures in
    let len : length numbers ≡ length os = filed-len by_socket os numbers c.requires.filed in
    let within : front ≤ length numbers = at.within in
    record {
      same = sym (counted-start os c.args.written.now numbers c.args.side c.args.id c.args.octets size front c.requires.filed at);
      len = c.requires.counted;
      within = omega (arith, len, within);
      below = λ i lower. c.requires.below i;
      last = at.last;
    }

pub loop-front-preserved : goal.loop-front-preserved
loop-front-preserved c =
    let os : List Opening = c.args.openings.now in
    let ws : List ℕ = c.loop-front.written in
    let numbers : List ℕ = c.args.sockets.now.numbers.items in
    let size : ℕ = length c.args.sockets.now.heads.items in
    let place : ℕ = c.loop-front.front - 1 in
    let next : ℕ = c.before-front.result in
    let here : c.loop-front.front ≡ suc place = omega arith in
    let below : place < length os = omega (arith, c.loop-front.invariant.within) in
    let beside : place < length ws = omega (arith, c.loop-front.invariant.len) in
    let chain : chain_at size numbers place ≡ c.args.id.0 % size = c.loop-front.invariant.last place (omega arith) in
    let at : EndsAt (chain_at size numbers) (c.args.id.0 % size) place next =
    subst (λ (v : ℕ). EndsAt (chain_at size numbers) v place next) chain c.before-front.ensures
    in
    let within : next ≤ place = at.within in
    let step : counts_after (take place os) c.if-is_at.written c.args.side c.args.id c.args.octets ≡ counts_after (take (suc place) os) ws c.args.side c.args.id c.args.octets =
    elim c.if-is_at.branch [
      | then-is_at w ↦
          ap (λ (vs : List ℕ). counts_after (take place os) vs c.args.side c.args.id c.args.octets) (w.written-is ∙ ap (set ws place) w.grown.ensures)
          ∙ sym (counted-here os ws c.args.side c.args.id c.args.octets place _ below beside (sym c.is_at.ensures ∙ w.if-is_at.true))
      | else-is_at w ↦
          ap (λ (vs : List ℕ). counts_after (take place os) vs c.args.side c.args.id c.args.octets) w.written-is
          ∙ sym (counted-next os ws c.args.side c.args.id c.args.octets place _ below (sym c.is_at.ensures ∙ w.if-is_at.false))
    ]
    in
    let len : length c.if-is_at.written ≡ length ws =
    elim c.if-is_at.branch [
      | then-is_at w ↦ ap length w.written-is ∙ length-set ws place w.grown.result
      | else-is_at w ↦ ap length w.written-is
    ]
    in
    let kept : (i : ℕ) → i < place → get_or c.if-is_at.written i 0 ≡ get_or ws i 0 =
    λ i lower. elim c.if-is_at.branch [
      | then-is_at w ↦
          let other : i ≢ place = λ e. omega arith in
          ap (λ (vs : List ℕ). get_or vs i 0) w.written-is ∙ get_or-set_other ws place i w.grown.result 0 other
      | else-is_at w ↦ ap (λ (vs : List ℕ). get_or vs i 0) w.written-is
    ]
    in
    record {
      same =
          sym (counted-skipped os c.if-is_at.written numbers c.args.side c.args.id c.args.octets size place next c.requires.filed (omega arith) at)
          ∙ step
          ∙ ap (λ (k : ℕ). counts_after (take k os) ws c.args.side c.args.id c.args.octets) (sym here)
          ∙ c.loop-front.invariant.same;
      len = len ∙ c.loop-front.invariant.len;
      within = omega (arith, within, c.loop-front.invariant.within);
      below = λ i lower. omega (arith, kept i (omega arith), c.loop-front.invariant.below i (omega arith));
      last = at.last;
    }
