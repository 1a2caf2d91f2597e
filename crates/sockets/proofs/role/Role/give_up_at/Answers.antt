-- A UDP socket gives something up when its queues do.
use Rattle.std.proofs.Common.{◌∙◌, sym, ap}
use Rattle.sockets.specs.declared.role.Role.{Role}
use Rattle.sockets.specs.Lost.{give_up_at}
use Rattle.sockets.proofs.role.Role.give_up_at.Goals as goal

pub returns-in-Datagrams : goal.returns-in-Datagrams
returns-in-Datagrams g c = λ test computes. c.deadline.ensures test computes ∙ sym (ap (λ (r : Role). give_up_at test r) c.in-Datagrams.is)
