-- The resets that answer segments (RFC 9293 sections 3.5.2 and 3.10.7.1).
use Rattle.std.specs.Prelude.{◌+◌, ◌%◌, ◌^◌, true, false, if◌then◌else◌, [], Option, Some, None}
use Rattle.tcp_segment.specs.declared.head.Head.{Head}
use Rattle.tcp_segment.specs.Segment.{Segment, span_of}

-- <SEQ=SEG.ACK><CTL=RST>, from the port that the segment came for to the one that it came from
abbrev pub reset_at_ack : Segment → Head
reset_at_ack s = record {
  source = s.destination;
  destination = s.source;
  number = record { 0 = s.acknowledgement };
  acknowledgement = record { 0 = 0 };
  flags = record { fin = false; syn = false; rst = true; psh = false; ack = false; urg = false };
  window = 0;
  scales = false;
  sacks = false;
  blocks = [];
}

-- <SEQ=0><ACK=SEG.SEQ+SEG.LEN><CTL=RST,ACK>, where the segment's length counts its SYN and its FIN
abbrev pub reset_past : Segment → Head
reset_past s = record {
  source = s.destination;
  destination = s.source;
  number = record { 0 = 0 };
  acknowledgement = record { 0 = (s.number + span_of s) % 2 ^ 32 };
  flags = record { fin = false; syn = false; rst = true; psh = false; ack = true; urg = false };
  window = 0;
  scales = false;
  sacks = false;
  blocks = [];
}

-- what answers a segment for no connection and no listener: nothing answers a reset (section 3.10.7.1)
abbrev pub answer_to : Segment → Option Head
answer_to s = if s.flags.rst then None else Some (if s.flags.ack then reset_at_ack s else reset_past s)

-- what answers a segment for a listener that opens no connection there (section 3.10.7.2)
abbrev pub answer_at_listener : Segment → Option Head
answer_at_listener s = if s.flags.rst then None else if s.flags.ack then Some (reset_at_ack s) else None
