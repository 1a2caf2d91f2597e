-- How the fields of a connection's retransmission state are seen.
use Rattle.tcp_state.specs.declared.resend.Resend.TheInside.{Inside}
use Rattle.tcp_state.specs.Resend.{Resend}

abbrev pub resend_view : Inside → Resend
resend_view p = record {
  mark = p.mark;
  once = p.once;
  timeout = p.timeout;
  timed = p.timed;
  expiries = p.expiries;
  interval = p.interval;
  owes_probe = p.owes_probe;
  overridden = p.overridden;
  syn_resent = p.syn_resent;
  resent = p.resent;
  small = p.small;
  recover = p.recover;
  tail = p.tail;
  reach = p.reach;
  since_loss = p.since_loss;
  excused = p.excused;
  reported = p.reported;
}
