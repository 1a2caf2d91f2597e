-- Whatever is known of a peer that says nothing, a connection is as sound, and keeps its time and its congestion window.
use Rattle.tcp_state.specs.declared.alive.KeepAlive.{KeepAlive}
use Rattle.tcp_state.specs.View.{View, IsSound}
use Rattle.tcp_state.specs.Timing.{KeepsTime}
use Rattle.tcp_state.specs.Congestion.{KeepsCongestion}

pub asked_sound : (v : View) (alive : KeepAlive) → IsSound v → IsSound (record v { alive = alive })
asked_sound v alive k = record {
  una = k.una;
  nxt = k.nxt;
  rnext = k.rnext;
  held = k.held;
  readable = k.readable;
  window = k.window;
  untold = k.untold;
  unsettled = k.unsettled;
  buffer = k.buffer;
  kept = k.kept;
  flight = k.flight;
  mark = k.mark;
  small = k.small;
  probed = k.probed;
  recover = k.recover;
  tail = k.tail;
  resend = k.resend;
  connection = k.connection;
  segment = k.segment;
  segment_least = k.segment_least;
  ack = k.ack;
  error = k.error;
  reset = k.reset;
  release = k.release;
  terms = k.terms;
}

pub asked_timed : (v : View) (alive : KeepAlive) → KeepsTime v → KeepsTime (record v { alive = alive })
asked_timed v alive k =
    record { retransmission = k.retransmission; probe = k.probe; delayed_ack = k.delayed_ack; overriding = k.overriding; interval = k.interval; owed = k.owed; closed = k.closed; unheard = k.unheard }

pub asked_congestion : (v : View) (alive : KeepAlive) → KeepsCongestion v → KeepsCongestion (record v { alive = alive })
asked_congestion v alive k = record { sound = k.sound; segment = k.segment }
