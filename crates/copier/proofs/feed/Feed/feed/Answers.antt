use Rattle.copier.proofs.Passing.{on_err}
use Rattle.copier.proofs.Feeding.{leaves-kept, leaves-after, fed-then}
use Rattle.copier.proofs.feed.Feed.feed.Goals as goal

pub returns-in_err-read-clause-left : goal.returns-in_err-read-clause-left
returns-in_err-read-clause-left g c = on_err c.from_residual.result (leaves-kept _ _ _ c.args.self.now c.args.ends.now c.in_err-read.ensures.kept)

pub returns-in_err-sent-clause-left : goal.returns-in_err-sent-clause-left
returns-in_err-sent-clause-left g c = on_err c.from_residual-in_err-sent.result (leaves-after _ _ _ _ c.args.self.now c.refill.new.self c.args.ends.now c.args.ends.now (c.in_ok-read.ensures.fed c.args.ends.now))

pub returns-in_err-closed-clause-left : goal.returns-in_err-closed-clause-left
returns-in_err-closed-clause-left g c = on_err c.from_residual-in_err-closed.result (leaves-after _ _ _ _ c.args.self.now c.send.new.self c.args.ends.now c.send.new.ends
    (fed-then _ _ _ _ _ _ c.args.self.now c.refill.new.self c.send.new.self c.args.ends.now c.args.ends.now c.send.new.ends (c.in_ok-read.ensures.fed c.args.ends.now)
    (c.in_ok-sent.ensures.fed (g.R.Source.given c.refill.new.src) (g.R.Source.remaining c.refill.new.src))))
