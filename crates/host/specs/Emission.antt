-- What goes out: for the first control reply for which a frame can, and where there is none for the first of what the entries have due, in the order of
-- their turns, segments and datagrams, for which one can. Where the MAC of the next hop isn't known, the request for it goes out in that place (RFC 1122 section
-- 2.3.2.2).
use Rattle.std.specs.Prelude.{ℕ, ◌+◌, max, Bool, List, [], ◌++◌, drop, position, Option, Some, None, option_map}
use Rattle.ether.specs.declared.mac.Mac.{Mac}
use Rattle.ipv4.specs.declared.addr.Addr.{Addr}
use Rattle.ipv4.specs.declared.addr.Endpoint.{Endpoint}
use Rattle.clock.specs.declared.moment.Moment.{Moment}
use Rattle.interface.specs.declared.way.Way.{Way}
use Rattle.interface.specs.declared.way.Way.TheVariants.{To, Ask, Waits}
use Rattle.interface.specs.Ways.{way}
use Rattle.interface.specs.Replies.{is_due, goes_out}
use Rattle.interface.specs.InterfaceView.{InterfaceView}
use Rattle.interface.specs.Emission.{segment_frame_to, part_frame_to, request_frame, asked, len_at, frame_at, after_emission as after_reply}
use Rattle.sockets.specs.declared.emission.Emitted.{Emitted}
use Rattle.sockets.specs.declared.emission.Emitted.TheVariants.{Segment, Datagram}
use Rattle.sockets.specs.SocketsView.{later_moment}
use Rattle.sockets.specs.Emission.{next_out, emitted, emitted_octets, after_segment_sent}
use Rattle.host.specs.HostView.{HostView, with_interface, with_sockets}

-- a frame can go out for what is due to this address: it, or the request for its hop
abbrev pub goes_out_from : HostView → Moment → Addr → Bool
goes_out_from h moment to = goes_out (way h.interface moment to)

-- What goes out: the frame for the reply in this place, that is the reply or the request for its hop; the first of what is due for which a frame can,
-- in one to this MAC and for this address; in its place the request for this hop; or nothing.
pub data Emission : Type 0 where
  Replies : ℕ → Emission
  Sends : Mac → Addr → Emission
  Asks : Addr → Emission
  Nothing : Emission

-- for what is due to this address
abbrev pub emission_by : Addr → Way → Emission
emission_by to (To mac) = Sends mac to
emission_by to (Ask hop) = Asks hop
emission_by to Waits = Nothing

-- for what is due to this peer
abbrev pub emission_to : HostView → Moment → Option Endpoint → Emission
emission_to h moment None = Nothing
emission_to h moment (Some peer) = emission_by peer.addr (way h.interface moment peer.addr)

-- for the first of what the entries have due
abbrev pub table_emission : HostView → Moment → Emission
table_emission h moment = emission_to h moment (option_map (λ next. next.peer) (next_out h.sockets (goes_out_from h moment)))

-- for the first reply, where there is one
abbrev pub emission_at : HostView → Moment → Option ℕ → Emission
emission_at h moment (Some place) = Replies place
emission_at h moment None = table_emission h moment

abbrev pub emission : HostView → Moment → Emission
emission h moment = emission_at h moment (position (is_due h.interface moment) h.interface.replies)

-- the length of a frame with so many octets behind the heads of frame and datagram: 60 at least
abbrev pub framed_len : ℕ → ℕ
framed_len octets = max (34 + octets) 60

-- what a table gives out is a segment, or a part of a datagram
abbrev pub emitted_len : Emitted → ℕ
emitted_len (Segment len) = framed_len len
emitted_len (Datagram part) = framed_len part.fragment.len

-- its octets in a frame to this MAC and for this address
abbrev pub emitted_frame : InterfaceView → Mac → Addr → Option Emitted → List ℕ → List ℕ
emitted_frame i mac to None octets = []
emitted_frame i mac to (Some (Segment len)) octets = segment_frame_to i mac to octets
emitted_frame i mac to (Some (Datagram part)) octets = part_frame_to i mac to part octets

-- the length of what goes out, its octets, and what is left of the host
abbrev pub len_of : HostView → Moment → Emission → Option ℕ
len_of h moment (Replies place) = Some (len_at h.interface moment place)
len_of h moment (Sends mac to) = option_map emitted_len (emitted h.sockets (goes_out_from h moment))
len_of h moment (Asks hop) = Some 60
len_of h moment Nothing = None

abbrev pub octets_of : HostView → Moment → Emission → List ℕ
octets_of h moment (Replies place) = frame_at h.interface moment place
octets_of h moment (Sends mac to) =
    emitted_frame h.interface mac to (emitted h.sockets (goes_out_from h moment)) (emitted_octets h.sockets (goes_out_from h moment))
octets_of h moment (Asks hop) = request_frame h.interface hop
octets_of h moment Nothing = []

abbrev pub left_by : HostView → Moment → Emission → HostView
left_by h moment (Replies place) = with_interface h (after_reply h.interface moment place)
left_by h moment (Sends mac to) = with_sockets h (after_segment_sent h.sockets (goes_out_from h moment) moment)
left_by h moment (Asks hop) = with_interface h (asked h.interface moment hop)
left_by h moment Nothing = h

-- at the later of the moment and the kept one
abbrev pub emission_len : HostView → Moment → Option ℕ
emission_len h now = let moment = later_moment h.sockets now in len_of h moment (emission h moment)

abbrev pub emission_octets : HostView → Moment → List ℕ
emission_octets h now = let moment = later_moment h.sockets now in octets_of h moment (emission h moment)

abbrev pub after_emission : HostView → Moment → HostView
after_emission h now = let moment = later_moment h.sockets now in left_by h moment (emission h moment)

-- the octets are at the front of what was there
abbrev pub front_of : List ℕ → List ℕ → Option ℕ → List ℕ
front_of octets out None = out
front_of octets out (Some len) = octets ++ drop len out

abbrev pub emission_front : HostView → Moment → List ℕ → List ℕ
emission_front h now out = front_of (emission_octets h now) out (emission_len h now)
