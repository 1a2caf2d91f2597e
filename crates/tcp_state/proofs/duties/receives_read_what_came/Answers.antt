use Rattle.tcp_state.proofs.MovedOctets.{recv_reads, recv_ends, recv_waits}
use Rattle.tcp_state.proofs.duties.receives_read_what_came.Goals as goal

pub returns : goal.returns
returns c = record { reads = recv_reads; ended = recv_ends; waits = recv_waits }
