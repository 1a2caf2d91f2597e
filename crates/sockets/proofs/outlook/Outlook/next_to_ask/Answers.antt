-- The entry at hand, where it isn't behind; else the first that is noted.
use Rattle.std.proofs.Common.{sym, subst, arith}
use Rattle.sockets.proofs.Quiet.{IsTold, told_behind, told_beside, told_none_at_hand}
use Rattle.sockets.proofs.outlook.Outlook.next_to_ask.Goals as goal

pub returns-in-Some : goal.returns-in-Some
returns-in-Some c = λ most entries known.
    subst (λ o. IsTold entries c.args.from o) (sym c.first_of.ensures)
    (told_beside c.args.self.now most entries known c.args.from c.first_from-noted.result c.first_from-noted.ensures c.in-Some.place c.in-Some.is c.if-from-place.true)

pub returns-in_default : goal.returns-in_default
returns-in_default c = λ most entries known.
    told_behind c.args.self.now most entries known c.args.from c.first_from-noted.result c.first_from-noted.ensures c.in-Some.place c.in-Some.is (omega (arith, c.if-from-place.false))

pub returns-in_default-2 : goal.returns-in_default-2
returns-in_default-2 c = λ most entries known.
    told_none_at_hand c.args.self.now most entries known c.args.from c.first_from-noted.result c.first_from-noted.ensures c.in_default.is
