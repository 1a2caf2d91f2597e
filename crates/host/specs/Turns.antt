-- In which order the entries of a host send: whose frame goes out, and who waits.
use Rattle.std.specs.Prelude.{◌≡◌, ◌≢◌, Option, Some, None}
use Rattle.clock.specs.declared.moment.Moment.{Moment}
use Rattle.sockets.specs.declared.entry.SocketId.{SocketId}
use Rattle.sockets.specs.SocketsView.{later_moment}
use Rattle.sockets.specs.Turns.{HasSegment, emission_of}
use Rattle.sockets.specs.Turns as table
use Rattle.host.specs.Emission.{Emission, Replies, Sends, Asks, Nothing, emission, goes_out_from, after_emission}
use Rattle.host.specs.HostView.{HostView}
use Rattle.host.specs.Runs.{Event, Calls, Ticks, Delivers, Emits, IsNumbered, Makes, HasRun}
use Rattle.host.specs.Sound.{IsSoundHost}

-- The entry whose segment, or part of a datagram, goes out; none where a control reply does, the request for a hop, or nothing.
abbrev pub sender_by : HostView → Moment → Emission → Option SocketId
sender_by h moment (Replies place) = None
sender_by h moment (Sends mac to) = table.sender h.sockets (goes_out_from h moment)
sender_by h moment (Asks hop) = None
sender_by h moment Nothing = None

abbrev pub sender : HostView → Moment → Option SocketId
sender h now = let moment = later_moment h.sockets now in sender_by h moment (emission h moment)

-- the entry of this id has something to send for which a frame can go out
abbrev pub HasFrame : SocketId → HostView → Moment → Type 0
HasFrame id h now = HasSegment id h.sockets (goes_out_from h (later_moment h.sockets now))

-- an event passes the entry over: of an emission, a frame could go out for it, and none of its own does; and no call is an emission
abbrev pub PassesOver : SocketId → HostView → Event → Type 0
PassesOver id h (Calls call) = emission_of call ≡ None
PassesOver id h (Ticks now) = Unit {0}
PassesOver id h (Delivers now isn octets) = Unit {0}
PassesOver id h (Emits now) = HasFrame id h now × (sender h now ≢ Some id)

-- A host that is come to from one where the first entry sent, by events each of which passes over the one that waits.
pub data HasWaited (first waiting : SocketId) : HostView → Type 0 where
  Sent : (old : HostView) (now : Moment) → HasRun old → sender old now ≡ Some first → HasWaited first waiting (after_emission old now)
  GoesOn : (event : Event) (old new : HostView) → HasWaited first waiting old → HasRun old → IsSoundHost old → IsNumbered event → Makes event old new → PassesOver waiting old event → HasWaited first waiting new
