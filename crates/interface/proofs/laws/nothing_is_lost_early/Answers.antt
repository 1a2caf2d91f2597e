use Rattle.std.proofs.Common.{refl}
use Rattle.interface.specs.declared.reply.Reply.TheVariants.{Reset, Echo, Error}
use Rattle.interface.proofs.Waits.{early}
use Rattle.interface.proofs.Waits.{known_kept}
use Rattle.interface.proofs.Waits.{packet_kept}
use Rattle.interface.proofs.laws.nothing_is_lost_early.Goals as goal

pub returns-clause-early : goal.returns-clause-early
returns-clause-early c = early

pub returns-clause-packet : goal.returns-clause-packet
returns-clause-packet c = packet_kept

pub returns-clause-known : goal.returns-clause-known
returns-clause-known c = λ h now since to head. known_kept h now (record { since = since; reply = Reset to head }) to refl

pub returns-clause-known_echo : goal.returns-clause-known_echo
returns-clause-known_echo c =
    λ h now since to identifier number octets. known_kept h now (record { since = since; reply = Echo to identifier number octets }) to refl

pub returns-clause-known_error : goal.returns-clause-known_error
returns-clause-known_error c = λ h now since to reason quoted. known_kept h now (record { since = since; reply = Error to reason quoted }) to refl
