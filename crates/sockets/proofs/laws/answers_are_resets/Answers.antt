use Rattle.sockets.proofs.Answered.{answers_reset, answers_sendable}
use Rattle.sockets.proofs.laws.answers_are_resets.Goals as goal

pub returns : goal.returns
returns c = record { reset = answers_reset; sendable = answers_sendable }
