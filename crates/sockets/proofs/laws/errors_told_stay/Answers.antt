use Rattle.sockets.proofs.Telling.{tells_on, tells_led, socket_tells}
use Rattle.sockets.proofs.laws.errors_told_stay.Goals as goal

pub returns : goal.returns
returns c = record { event = tells_on; over = tells_led; socket = socket_tells }
