-- How many frames may still go out of a host at a moment, where nothing but that happens to it, and the frames that do.
use Rattle.std.specs.Prelude.{◌≡◌, ℕ, ◌+◌, ◌-◌, max, Bool, if◌then◌else◌, List, [], ◌∷◌, length, Some}
use Rattle.std.specs.List.{sum_by}
use Rattle.ipv4.specs.declared.addr.Addr.{Addr}
use Rattle.clock.specs.declared.moment.Moment.{Moment}
use Rattle.udp.specs.Fragments.{count_of}
use Rattle.udp_socket.specs.SocketView.{Outgoing}
use Rattle.tcp_state.specs.Most.{most_due}
use Rattle.interface.specs.Emission.{frames_left}
use Rattle.interface.specs.Ways.{knows_hop}
use Rattle.sockets.specs.declared.role.Role.{Role}
use Rattle.sockets.specs.declared.role.Role.TheVariants.{Idle, Listener, Connected, Datagrams}
use Rattle.sockets.specs.SocketsView.{later_moment}
use Rattle.host.specs.Emission.{after_emission, emission_len}
use Rattle.host.specs.HostView.{HostView}
use Rattle.host.specs.Sound.{IsSoundHost}

-- how many fragments are left of a datagram of which so many have gone out: one at least, since it is gone with its last (RFC 791 section 3.2)
abbrev pub fragments_left : ℕ → Outgoing → ℕ
fragments_left parts o = max 1 (count_of (8 + length o.octets) - parts)

-- Those of the datagrams that wait for addresses whose next hop is known; so many of the first have gone out. To no other address a datagram goes out
-- at this moment, since nothing is heard at it.
abbrev pub datagrams_left : (Addr → Bool) → ℕ → List Outgoing → ℕ
datagrams_left known parts [] = 0
datagrams_left known parts (o ∷ rest) = (if known o.peer.addr then fragments_left parts o else 0) + datagrams_left known 0 rest

-- the frames of an entry, of a connection at most as many as it has segments left
abbrev pub most_of : (Addr → Bool) → Role → ℕ
most_of known (Connected c listener) = most_due c
most_of known (Datagrams bound socket) = datagrams_left known socket.parts socket.outbox
most_of known (Listener local backlog) = 0
most_of known (Idle buffers bound) = 0

-- the control replies that wait, the requests that may still be sent, and the frames of each entry
abbrev pub most_at : HostView → Moment → ℕ
most_at h moment = frames_left h.interface moment + sum_by (λ e. most_of (knows_hop h.interface moment) e.role) h.sockets.entries

-- at the later of the moment and the kept one
abbrev pub most_frames : HostView → Moment → ℕ
most_frames h now = most_at h (later_moment h.sockets now)

-- So many frames are asked for at a moment, one after the other with nothing between them, and go out: the first host becomes the second. Each finds the host sound, as
-- every host is by `Host::sound`.
pub data GivesOut (now : Moment) : ℕ → HostView → HostView → Type 0 where
  NoFrame : (h : HostView) → GivesOut now 0 h h
  OneMore : (frames len : ℕ) (first h : HostView) → GivesOut now frames first h → IsSoundHost h → emission_len h now ≡ Some len → GivesOut now (frames + 1) first (after_emission h now)
