-- What is told of a connection: each field is that of its view.
use Rattle.std.specs.Prelude.{length}
use Rattle.stream_buf.specs.Receiving.{kept_count}
use Rattle.tcp_halves.specs.Stream.{outstanding, receive_window}
use Rattle.tcp_halves.specs.Windows.{unsent}
use Rattle.tcp_state.specs.declared.info.Info.{Info}
use Rattle.tcp_state.specs.View.{View, ends_at}

abbrev pub info_of : View → Info
info_of v = record {
  state = v.state;
  in_flight = outstanding v.sending;
  held = length v.sending.held;
  unsent = unsent v.sending;
  readable = length v.receiving.readable;
  kept = kept_count v.receiving.kept;
  peer_window = v.sending.window;
  own_window = receive_window v.receiving;
  smss = v.sending.smss;
  cwnd = v.congestion.cwnd;
  ssthresh = v.congestion.ssthresh;
  estimate = v.resend.timeout.estimate;
  rto = v.resend.timeout.rto;
  expiries = v.resend.expiries;
  resent = v.resend.resent;
  error = v.pending_error;
  timers = v.timers;
  ends_at = ends_at v;
}
