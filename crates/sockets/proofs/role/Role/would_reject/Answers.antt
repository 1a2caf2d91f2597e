-- A connection would reject what its fate says.
use Rattle.std.proofs.Common.{◌∙◌, sym, ap}
use Rattle.tcp_state.specs.Asking.{is_rejection}
use Rattle.sockets.specs.declared.role.Role.{Role}
use Rattle.sockets.specs.Entries.{fate_of}
use Rattle.sockets.proofs.role.Role.would_reject.Goals as goal

pub returns-in-Connected : goal.returns-in-Connected
returns-in-Connected c = c.would_reject.ensures ∙ sym (ap (λ (r : Role). is_rejection (fate_of c.args.segment.now r)) c.in-Connected.is)
