use Rattle.tcp_state.proofs.Minute.{oldest_brought, leaves_streams}
use Rattle.tcp_state.proofs.progress.a_minute_brings_the_oldest_octet.Goals as goal

pub returns : goal.returns
returns c = record { brings = oldest_brought; stays = leaves_streams }
