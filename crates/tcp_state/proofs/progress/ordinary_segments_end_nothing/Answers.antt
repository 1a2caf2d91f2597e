use Rattle.tcp_state.proofs.Ordinary.{ends_nothing, leaves_end, leaves_front}
use Rattle.tcp_state.proofs.progress.ordinary_segments_end_nothing.Goals as goal

pub returns : goal.returns
returns c = record { state = ends_nothing; held = leaves_end; readable = leaves_front }
