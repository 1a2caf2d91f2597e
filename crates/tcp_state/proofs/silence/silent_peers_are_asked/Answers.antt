use Rattle.std.proofs.Common.{refl}
use Rattle.tcp_state.proofs.SilentPeers.{unasked, busy_unasked, early, waits_on, asks, asks_again, ends, hears}
use Rattle.tcp_state.proofs.AliveBy.{wanted_by}
use Rattle.tcp_state.proofs.ProbesOfSilence.{rest}
use Rattle.tcp_state.proofs.silence.silent_peers_are_asked.Goals as goal

pub returns : goal.returns
returns c = record {
  rest = rest;
  unasked = unasked;
  busy = busy_unasked;
  early = early;
  asks = asks;
  awaits = waits_on;
  again = asks_again;
  ends = ends;
  heard = hears;
  set = λ v every now. refl;
  opened = λ room local peer isn now. refl;
  accepted = λ room local peer isn syn now. refl;
  others = wanted_by;
}
