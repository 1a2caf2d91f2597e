-- What is noted of the others is true still, each in its place.
use Rattle.sockets.proofs.Outlooks.{outlook_removed}
use Rattle.sockets.proofs.outlook.Outlook.remove.Goals as goal

pub returns : goal.returns
returns c = λ most entries inside known.
    outlook_removed c.args.self.now _ most entries c.args.place inside known c.at_without-self.ensures c.remove.ensures.items c.remove.ensures.most c.remove-2.ensures.items c.remove-2.ensures.most c.remove-3.ensures.items c.remove-3.ensures.most
