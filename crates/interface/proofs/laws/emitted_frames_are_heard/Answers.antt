use Rattle.interface.proofs.Heard.{echo_heard}
use Rattle.interface.proofs.Heard.{error_heard}
use Rattle.interface.proofs.Heard.{packet_heard}
use Rattle.interface.proofs.Heard.{request_heard}
use Rattle.interface.proofs.Heard.{reset_heard}
use Rattle.interface.proofs.Heard.{segment_heard}
use Rattle.interface.proofs.Heard.{user_heard}
use Rattle.interface.proofs.Heard.{fragment_heard}
use Rattle.interface.proofs.laws.emitted_frames_are_heard.Goals as goal

pub returns-clause-packet : goal.returns-clause-packet
returns-clause-packet c = packet_heard

pub returns-clause-reset : goal.returns-clause-reset
returns-clause-reset c = reset_heard

pub returns-clause-echo : goal.returns-clause-echo
returns-clause-echo c = echo_heard

pub returns-clause-error : goal.returns-clause-error
returns-clause-error c = error_heard

pub returns-clause-request : goal.returns-clause-request
returns-clause-request c = request_heard

pub returns-clause-segment : goal.returns-clause-segment
returns-clause-segment c = segment_heard

pub returns-clause-user : goal.returns-clause-user
returns-clause-user c = user_heard

pub returns-clause-fragment : goal.returns-clause-fragment
returns-clause-fragment c = fragment_heard
