use Rattle.std.proofs.Common.{refl}
use Rattle.interface.specs.declared.reply.Reply.TheVariants.{Reset, Echo, Error}
use Rattle.interface.proofs.Waits.{over_dropped}
use Rattle.interface.proofs.laws.nothing_waits_for_ever.Goals as goal

pub returns-clause-reset : goal.returns-clause-reset
returns-clause-reset c = λ h now since to head. over_dropped h now (record { since = since; reply = Reset to head }) to refl

pub returns-clause-echo : goal.returns-clause-echo
returns-clause-echo c =
    λ h now since to identifier number octets. over_dropped h now (record { since = since; reply = Echo to identifier number octets }) to refl

pub returns-clause-error : goal.returns-clause-error
returns-clause-error c = λ h now since to reason quoted. over_dropped h now (record { since = since; reply = Error to reason quoted }) to refl
