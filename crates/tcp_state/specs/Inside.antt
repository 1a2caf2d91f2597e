-- How a connection's fields are seen.
use Rattle.tcp_state.specs.declared.connection.Connection.TheInside.{Inside}
use Rattle.tcp_state.specs.View.{View}

abbrev pub view_of : Inside → View
view_of c = record {
  local = c.local;
  peer = c.peer;
  state = c.state;
  passive = c.is_passive;
  scales = c.scales;
  sending = c.sender;
  receiving = c.receiver;
  owes_ack = c.owes_ack;
  delays_ack = c.delays_ack;
  spoke = c.has_spoken;
  resend = c.resend;
  timers = c.timers;
  congestion = c.congestion;
  pending_error = c.pending_error;
  released = c.is_released;
  owes_reset = c.owes_reset;
  since = c.since;
  unheard = c.unheard;
  nodelay = c.is_undelayed;
  minshall = c.minshall;
  alive = c.alive;
  reporting = c.reporting;
  guard = c.guard;
}
