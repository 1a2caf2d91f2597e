use Rattle.std.proofs.Common.{refl, ap}
use Rattle.copier.specs.Copying.{is_end}
use Rattle.copier.proofs.Passing.{brings-of}
use Rattle.copier.proofs.Turning.{turns_err, left-feeding, left-carrying, left-draining, turn-moved, turn-ended, under-left, under-later, not_end}
use Rattle.copier.proofs.turns.Copier.turn.Goals as goal

pub returns-in_err-fed-clause-turns : goal.returns-in_err-fed-clause-turns
returns-in_err-fed-clause-turns g c = λ gave had told longer is_old is_new fair under.
    turns_err c.from_residual.result gave had _ _ _ _ longer c.from_residual.ensures.0 (λ fault. left-feeding fault gave had _ _ _ _ _ c.args.self.now told c.in_err-fed.ensures.left under)

pub returns-in_err-carried-clause-turns : goal.returns-in_err-carried-clause-turns
returns-in_err-carried-clause-turns g c = λ gave had told longer is_old is_new fair under.
    turns_err c.from_residual-in_err-carried.result gave had _ _ _ _ longer c.from_residual-in_err-carried.ensures.0
    (λ fault. left-carrying fault gave had _ _ _ _ _ c.args.self.now c.feed.new.self c.feed.new.ends told c.in_ok-fed.ensures.fed under)

pub returns-in_err-drain-clause-turns : goal.returns-in_err-drain-clause-turns
returns-in_err-drain-clause-turns g c = λ gave had told longer is_old is_new fair under.
    turns_err c.from_residual-in_err-drain.result gave had _ _ _ _ longer c.from_residual-in_err-drain.ensures.0
    (λ fault. left-draining fault gave had _ _ _ _ _ _ c.args.self.now c.feed.new.self c.feed.new.ends c.carry.new.self told longer c.in_ok-fed.ensures.fed
    (brings-of _ _ c.feed.new.ends c.carry.new.self told longer c.in_ok-carried.ensures.carries is_old is_new fair) c.in_err-drain.ensures.left under)

pub returns-in-End-clause-turns : goal.returns-in-End-clause-turns
returns-in-End-clause-turns g c = λ gave had told longer is_old is_new fair under.
    turn-ended gave had _ _ _ _ _ _ c.args.self.now c.drain.new.self c.feed.new.self c.feed.new.ends c.carry.new.self told longer c.in_ok-fed.ensures.fed
    (brings-of _ _ c.feed.new.ends c.carry.new.self told longer c.in_ok-carried.ensures.carries is_old is_new fair) (rw c.in-End.is at c.in_ok-drain.ensures.drains) under

pub returns-in_default-clause-turns : goal.returns-in_default-clause-turns
returns-in_default-clause-turns g c = λ gave had told longer is_old is_new fair under.
    turn-moved gave had _ _ _ _ _ _ c.args.self.now c.drain.new.self c.feed.new.self c.feed.new.ends c.carry.new.self told longer c.in_ok-drain.field-0 c.in_ok-fed.ensures.fed
    (brings-of _ _ c.feed.new.ends c.carry.new.self told longer c.in_ok-carried.ensures.carries is_old is_new fair) c.in_ok-drain.ensures.drains (not_end c.in_ok-drain.field-0 c.in_default.not-End) c.in_ok-drain.ensures.feed under

pub returns-in_ok-advance-in-Still-clause-turns : goal.returns-in_ok-advance-in-Still-clause-turns
returns-in_ok-advance-in-Still-clause-turns g c = λ gave had told longer is_old is_new fair under.
    under-later gave had _ _ _ c.drain.new.self _ longer c.in_ok-advance-in-Still.ensures.course refl refl
    (turn-moved gave had _ _ _ _ _ _ c.args.self.now c.drain.new.self c.feed.new.self c.feed.new.ends c.carry.new.self told longer c.in_ok-drain.field-0 c.in_ok-fed.ensures.fed
    (brings-of _ _ c.feed.new.ends c.carry.new.self told longer c.in_ok-carried.ensures.carries is_old is_new fair) c.in_ok-drain.ensures.drains (ap is_end c.in-Still.is) c.in_ok-drain.ensures.feed under)

pub returns-in_err-advance-in-Still-clause-turns : goal.returns-in_err-advance-in-Still-clause-turns
returns-in_err-advance-in-Still-clause-turns g c = λ gave had told longer is_old is_new fair under.
    turns_err c.from_residual-in_err-advance-in-Still.result gave had _ _ _ _ longer c.from_residual-in_err-advance-in-Still.ensures.0
    (λ fault. under-left fault gave had _ _ _ c.drain.new.self longer
    (turn-moved gave had _ _ _ _ _ _ c.args.self.now c.drain.new.self c.feed.new.self c.feed.new.ends c.carry.new.self told longer c.in_ok-drain.field-0 c.in_ok-fed.ensures.fed
    (brings-of _ _ c.feed.new.ends c.carry.new.self told longer c.in_ok-carried.ensures.carries is_old is_new fair) c.in_ok-drain.ensures.drains (ap is_end c.in-Still.is) c.in_ok-drain.ensures.feed under))

pub returns-in_default-2-clause-turns : goal.returns-in_default-2-clause-turns
returns-in_default-2-clause-turns g c = λ gave had told longer is_old is_new fair under.
    turn-moved gave had _ _ _ _ _ _ c.args.self.now c.drain.new.self c.feed.new.self c.feed.new.ends c.carry.new.self told longer c.in_ok-drain.field-0 c.in_ok-fed.ensures.fed
    (brings-of _ _ c.feed.new.ends c.carry.new.self told longer c.in_ok-carried.ensures.carries is_old is_new fair) c.in_ok-drain.ensures.drains (ap is_end c.in-Still.is) c.in_ok-drain.ensures.feed under

pub returns-in_default-3-clause-turns : goal.returns-in_default-3-clause-turns
returns-in_default-3-clause-turns g c = λ gave had told longer is_old is_new fair under.
    turn-moved gave had _ _ _ _ _ _ c.args.self.now c.drain.new.self c.feed.new.self c.feed.new.ends c.carry.new.self told longer c.in_ok-drain.field-0 c.in_ok-fed.ensures.fed
    (brings-of _ _ c.feed.new.ends c.carry.new.self told longer c.in_ok-carried.ensures.carries is_old is_new fair) c.in_ok-drain.ensures.drains (not_end c.in_ok-drain.field-0 c.in_default.not-End) c.in_ok-drain.ensures.feed under
