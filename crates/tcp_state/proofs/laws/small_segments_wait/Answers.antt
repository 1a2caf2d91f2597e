use Rattle.tcp_state.proofs.Clocks.{overrides, override_begins}
use Rattle.tcp_state.proofs.SmallSegments.{small_waits}
use Rattle.tcp_state.proofs.laws.small_segments_wait.Goals as goal

pub returns : goal.returns
returns c = record { waits = small_waits; overridden = overrides; begins = override_begins }
