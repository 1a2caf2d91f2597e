-- The frames that go out for what waits, and what is left then.
use Rattle.std.specs.Prelude.{ℕ, ◌+◌, ◌*◌, max, List, [], length, remove, Option, Some, None}
use Rattle.std.specs.List.{slice_get}
use Rattle.ether.specs.declared.mac.Mac.{Mac}
use Rattle.ipv4.specs.declared.addr.Addr.{Addr}
use Rattle.clock.specs.declared.moment.Moment.{Moment}
use Rattle.arp.specs.Cache.{after_ask, requests_left}
use Rattle.arp.specs.Packet.{request_of}
use Rattle.icmp.specs.Message.{spelling}
use Rattle.icmp.specs.Sent.{echo_reply, error_for}
use Rattle.tcp_segment.specs.Sent.{sent_offset, sent_octets}
use Rattle.udp.specs.declared.cutting.Part.{Part}
use Rattle.frames.specs.declared.emission.FrameHead.{FrameHead}
use Rattle.frames.specs.Sent.{segment_frame, message_frame, part_frame, packet_frame}
use Rattle.interface.specs.declared.reply.Reply.{Reply}
use Rattle.interface.specs.declared.reply.Reply.TheVariants.{Arp, Reset, Echo, Error}
use Rattle.interface.specs.declared.reply.Waiting.{Waiting}
use Rattle.interface.specs.declared.way.Way.{Way}
use Rattle.interface.specs.declared.way.Way.TheVariants.{To, Ask, Waits}
use Rattle.interface.specs.InterfaceView.{InterfaceView}
use Rattle.interface.specs.Replies.{way_of}

-- what stands before a segment, a message or a part of a UDP datagram for this address in a frame for this interface
abbrev pub head_to : InterfaceView → Mac → Addr → FrameHead
head_to h mac to = record { destination = mac; source = h.mac; from = h.addr; to = to }

-- the frame of a segment
unfoldable pub segment_frame_to : InterfaceView → Mac → Addr → List ℕ → List ℕ
segment_frame_to h mac to segment = segment_frame (head_to h mac to) segment

-- the frame of an ICMP message
unfoldable pub message_frame_to : InterfaceView → Mac → Addr → List ℕ → List ℕ
message_frame_to h mac to message = message_frame (head_to h mac to) message

-- the frame of a part of a UDP datagram
unfoldable pub part_frame_to : InterfaceView → Mac → Addr → Part → List ℕ → List ℕ
part_frame_to h mac to part octets = part_frame (head_to h mac to) part octets

-- the frame of a request for the MAC of a neighbour (RFC 826)
unfoldable pub request_frame : InterfaceView → Addr → List ℕ
request_frame h hop = packet_frame (request_of h.mac h.addr hop)

-- the frame of a reply for this interface: a reset has no octets (RFC 9293 section 3.5.2), and what an error quotes was cut when it
-- was queued (RFC 792)
unfoldable pub reply_frame : InterfaceView → Mac → Reply → List ℕ
reply_frame h mac (Arp packet) = packet_frame packet
reply_frame h mac (Reset to head) = segment_frame_to h mac to (sent_octets h.addr to head [])
reply_frame h mac (Echo to identifier number octets) = message_frame_to h mac to (spelling (echo_reply identifier number octets))
reply_frame h mac (Error to reason quoted) = message_frame_to h mac to (spelling (error_for reason quoted []))

-- its length, in octets: 34 for the heads of frame and datagram, 8 for that of a message, and 60 at least (RFC 894)
abbrev pub reply_len : Reply → ℕ
reply_len (Arp packet) = 60
reply_len (Reset to head) = max (34 + 4 * sent_offset head) 60
reply_len (Echo to identifier number octets) = max (34 + (8 + length octets)) 60
reply_len (Error to reason quoted) = max (34 + (8 + length quoted)) 60

-- the request for a neighbour is noted
abbrev pub asked : InterfaceView → Moment → Addr → InterfaceView
asked h now hop = record h { cache = after_ask now hop h.cache }

-- the frame that goes out for a reply by this way, its length, and what is left: a reply that has gone out waits no longer, and one
-- whose hop is asked for goes on waiting
abbrev pub frame_by : InterfaceView → Reply → Way → List ℕ
frame_by h reply (To mac) = reply_frame h mac reply
frame_by h reply (Ask hop) = request_frame h hop
frame_by h reply Waits = []

abbrev pub len_by : Reply → Way → ℕ
len_by reply (To mac) = reply_len reply
len_by reply (Ask hop) = 60
len_by reply Waits = 0

abbrev pub left_by : InterfaceView → Moment → ℕ → Way → InterfaceView
left_by h now place (To mac) = record h { replies = remove h.replies place }
left_by h now place (Ask hop) = asked h now hop
left_by h now place Waits = h

-- the way of the reply at a place
abbrev pub way_of_one : InterfaceView → Moment → Option Waiting → Way
way_of_one h now None = Waits
way_of_one h now (Some waiting) = way_of h now waiting.reply

abbrev pub way_at : InterfaceView → Moment → ℕ → Way
way_at h now place = way_of_one h now (slice_get h.replies place)

-- what goes out for the reply at a place
abbrev pub frame_of_one : InterfaceView → Moment → Option Waiting → List ℕ
frame_of_one h now None = []
frame_of_one h now (Some waiting) = frame_by h waiting.reply (way_of h now waiting.reply)

abbrev pub frame_at : InterfaceView → Moment → ℕ → List ℕ
frame_at h now place = frame_of_one h now (slice_get h.replies place)

-- its length
abbrev pub len_of_one : InterfaceView → Moment → Option Waiting → ℕ
len_of_one h now None = 0
len_of_one h now (Some waiting) = len_by waiting.reply (way_of h now waiting.reply)

abbrev pub len_at : InterfaceView → Moment → ℕ → ℕ
len_at h now place = len_of_one h now (slice_get h.replies place)

-- what is left where it has gone out
abbrev pub after_emission : InterfaceView → Moment → ℕ → InterfaceView
after_emission h now place = left_by h now place (way_at h now place)

-- how many frames may still go out at a moment, where nothing is heard and nothing begins to wait: one for each reply, and each request that may
-- be sent, whatever it is for
abbrev pub frames_left : InterfaceView → Moment → ℕ
frames_left h now = length h.replies + requests_left now h.cache.asked
