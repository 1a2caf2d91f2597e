-- What goes out: of the entries that have something due to an address that passes the test `goes`, that of the one whose turn it is, and of this entry
-- the first that does. `laws::turns_go_round` says that nobody is passed over.
use Rattle.std.specs.Prelude.{◌≡◌, ◌≤◌, ℕ, nat_lt, ◌&&◌, ◌||◌, not, Bool, List, [], Option, Some, None, option_map, option_and_then, find, position}
use Rattle.std.specs.List.{list_any}
use Rattle.ipv4.specs.Datagram.{HasPlace}
use Rattle.ipv4.specs.declared.addr.Addr.{Addr}
use Rattle.ipv4.specs.declared.addr.Endpoint.{Endpoint}
use Rattle.clock.specs.declared.moment.Moment.{Moment}
use Rattle.tcp_state.specs.declared.emission.TheConstants.{MOST_SEGMENT}
use Rattle.udp.specs.declared.cutting.TheConstants.{MOST_IN_FRAGMENT}
use Rattle.sockets.specs.declared.entry.Entry.{Entry}
use Rattle.sockets.specs.declared.emission.Emitted.{Emitted}
use Rattle.sockets.specs.declared.emission.Emitted.TheVariants.{Segment, Datagram}
use Rattle.sockets.specs.declared.emission.Outgoing.{Outgoing}
use Rattle.sockets.specs.Entries.{sends, due_to, due_emitted, due_octets, due_front, role_after_emission, emission_fate_of, entries_after_step}
use Rattle.sockets.specs.SocketsView.{SocketsView, later_moment}

-- what goes out next: of this entry, to this peer, this
pub record Next : Type 0 where
  pub entry : Entry
  pub peer : Endpoint
  pub what : Outgoing

-- of an entry the first that may
abbrev pub next_of : (Addr → Bool) → Entry → Option Next
next_of goes e = option_map (λ due. record { entry = e; peer = due.0; what = due.1 }) (due_to goes e.role)

-- it stands behind the entry that sent last
abbrev pub is_behind : SocketsView → Entry → Bool
is_behind h e = nat_lt h.turn.0 e.id.0

-- Of the entries that pass a test the turn comes to those behind the one that sent last, and where there is none to the others.
unfoldable pub in_turn : SocketsView → (Entry → Bool) → Entry → Bool
in_turn h test e = test e && (is_behind h e || not (list_any (λ x. is_behind h x && test x) h.entries))

-- and of the table that of the first entry to which the turn comes of those of which something may
abbrev pub next_out : SocketsView → (Addr → Bool) → Option Next
next_out h goes = option_and_then (next_of goes) (find (in_turn h (sends goes)) h.entries)

-- that entry is in this place, and has this to send
abbrev pub IsNextAt : SocketsView → (Addr → Bool) → ℕ → Outgoing → Type 0
IsNextAt h goes place what = (position (in_turn h (sends goes)) h.entries ≡ Some place) × (option_map (λ next. next.what) (next_out h goes) ≡ Some what)

-- what is told of it: a segment's length in octets, or what the header of IPv4 says of a part of a datagram
abbrev pub emitted : SocketsView → (Addr → Bool) → Option Emitted
emitted h goes = option_and_then (λ next. due_emitted next.what next.entry.role) (next_out h goes)

-- a segment is no longer than one can be, and a part of a datagram has its place in a payload of IPv4 (RFC 791 section 3.2)
abbrev pub IsWithin : Emitted → Type 0
IsWithin (Segment len) = len ≤ MOST_SEGMENT
IsWithin (Datagram part) = (part.fragment.len ≤ MOST_IN_FRAGMENT) × HasPlace part.fragment.more_fragments part.fragment.offset part.fragment.len

-- its octets
abbrev pub emitted_octets : SocketsView → (Addr → Bool) → List ℕ
emitted_octets h goes = of_next (next_out h goes)
  where
    of_next : Option Next → List ℕ
    of_next None = []
    of_next (Some next) = due_octets h.addr next.what next.entry.role

-- its octets stand at the front of what was there
abbrev pub emitted_front : SocketsView → (Addr → Bool) → List ℕ → List ℕ
emitted_front h goes out = of_next (next_out h goes)
  where
    of_next : Option Next → List ℕ
    of_next None = out
    of_next (Some next) = due_front h.addr next.what next.entry.role out

-- The entry makes of itself what the emission does, at the later of the moment and the kept one, and is taken out where it is
-- over then. It is the one that sent last now, and nothing else changes.
abbrev pub after_segment_sent : SocketsView → (Addr → Bool) → Moment → SocketsView
after_segment_sent h goes now = of_next (next_out h goes)
  where
    of_next : Option Next → SocketsView
    of_next None = h
    of_next (Some next) =
        record h {
          turn = next.entry.id;
          entries = entries_after_step (emission_fate_of (role_after_emission (later_moment h now) next.what next.entry.role)) (in_turn h (sends goes)) (role_after_emission (later_moment h now) next.what) h.entries;
        }
