-- What is due at a host, as one list of places: the control replies, in the order in which they wait, and then what the entries have due, each datagram
-- of a UDP socket in a place of its own: in order of id, or of their turns. `laws::the_first_place_goes_out` says that what goes out is for the first
-- place in turn for which a frame can.
use Rattle.std.specs.Prelude.{Bool, not, List, ◌++◌, map, filter}
use Rattle.std.specs.List.{flat_map}
use Rattle.ipv4.specs.declared.addr.Endpoint.{Endpoint}
use Rattle.clock.specs.declared.moment.Moment.{Moment}
use Rattle.interface.specs.declared.reply.Waiting.{Waiting}
use Rattle.interface.specs.declared.way.Way.{Way}
use Rattle.interface.specs.Replies.{way_of, goes_out}
use Rattle.interface.specs.Ways.{way}
use Rattle.sockets.specs.declared.emission.Outgoing.{Outgoing}
use Rattle.sockets.specs.declared.entry.Entry.{Entry}
use Rattle.sockets.specs.Emission.{is_behind}
use Rattle.sockets.specs.Entries.{dues_of}
use Rattle.sockets.specs.SocketsView.{SocketsView}
use Rattle.host.specs.HostView.{HostView}

pub data Place : Type 0 where
  ReplyOf : Waiting → Place
  EntryOf : Entry → Endpoint → Outgoing → Place

-- of an entry: for each of what it has to send, and to whom
abbrev pub places_of : Entry → List Place
places_of e = map (λ due. EntryOf e due.0 due.1) (dues_of e.role)

abbrev pub places : HostView → List Place
places h = map ReplyOf h.interface.replies ++ flat_map places_of h.sockets.entries

-- the entries in the order of their turns: those behind the one that sent last, and then the others
abbrev pub turns : SocketsView → List Entry
turns t = filter (is_behind t) t.entries ++ filter (λ e. not (is_behind t e)) t.entries

abbrev pub places_in_turn : HostView → List Place
places_in_turn h = map ReplyOf h.interface.replies ++ flat_map places_of (turns h.sockets)

-- what can be done for a place
abbrev pub way_of_place : HostView → Moment → Place → Way
way_of_place h moment (ReplyOf waiting) = way_of h.interface moment waiting.reply
way_of_place h moment (EntryOf e peer what) = way h.interface moment peer.addr

abbrev pub can_go_out : HostView → Moment → Place → Bool
can_go_out h moment place = goes_out (way_of_place h moment place)
