use Rattle.sockets.proofs.SoundTicks.{tick_sound}
use Rattle.sockets.proofs.laws.ticks_leave_tables_sound.Goals as goal

pub returns : goal.returns
returns c = tick_sound
