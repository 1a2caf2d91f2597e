-- The halves of a connection by positions in their streams (RFC 9293 sections 3.4, 3.8.6 and 3.10.7.4): what the tests by sequence number stand
-- for. A position is a whole number without bound, and `wire initial position` is its sequence number.
use Rattle.std.specs.Prelude.{◌≡◌, ℕ, ◌+◌, ◌-◌, ◌<◌, ◌≤◌, ◌^◌, ◌⊎◌, ◌&&◌, nat_le, nat_lt, Bool, false, true, if◌then◌else◌, List, ◌++◌, length, map, slice_get, slice_index_or, Option, Some, None, ⊤}
use Rattle.stream_buf.specs.Receiving.{laid, is_taken}
use Rattle.tcp_segment.specs.Segment.{Segment}
use Rattle.tcp_segment.specs.Wire.{wire, past}
use Rattle.tcp_state.specs.declared.emission.Due.{Due}
use Rattle.tcp_state.specs.declared.emission.Due.TheVariants.{Syn, Text, Probe}
use Rattle.tcp_halves.specs.Halves.{Receiving}
use Rattle.tcp_halves.specs.Stream.{bare_number, buffer_of, distance_of, octets_within, octets_gained, after_octets}
use Rattle.tcp_state.specs.View.{View, is_opening, is_syn_sent, is_closed, awaits_fin_ack}
use Rattle.tcp_state.specs.Edges.{Event, Hears}

-- RCV.NXT is the number of one position, and the window that is advertised reaches up to another
pub record ReceivesAt (initial next edge : ℕ) (r : Receiving) : Type 0 where
  pub next_number : r.rnext ≡ wire initial next
  pub edge_number : r.edge ≡ wire initial edge
  pub order : next ≤ edge
  pub near : edge < next + 2 ^ 31

-- so many positions from the first on are less than 2^31 away from `next`, so that their numbers tell their order
pub record IsNear (next first len : ℕ) : Type 0 where
  pub behind : next < first + 2 ^ 31
  pub ahead : first + len < next + 2 ^ 31

-- One of so many positions from the first on lies in the window, from RCV.NXT up to the edge, and they do not reach out of it at both ends: the
-- table of section 3.10.7.4 asks for the first of them or for the last.
pub record MeetsWindow (next edge first len : ℕ) : Type 0 where
  pub common : (p : ℕ) × (first ≤ p) × (p < first + len) × (next ≤ p) × (p < edge)
  pub within : (next ≤ first) ⊎ (first + len ≤ edge)

-- two positions are less than 2^31 apart, so that their numbers tell their order
pub record AreNear (p q : ℕ) : Type 0 where
  pub one : p < q + 2 ^ 31
  pub other : q < p + 2 ^ 31

-- those of a segment's octets that lie below the edge, by position, where the segment's first has this one
abbrev pub brought : ℕ → ℕ → List ℕ → ℕ → Option ℕ
brought first edge octets position = if nat_le first position && nat_lt position edge then slice_get octets (position - first) else None

-- what such places have for a position, the first of them for RCV.NXT
abbrev pub known_at : ℕ → List (Option ℕ) → ℕ → Option ℕ
known_at next places position = slice_index_or places (position - next) None

-- after the octets of a segment, what came from the old RCV.NXT on: what became readable, and behind it what is kept
abbrev pub places_after : Receiving → ℕ → List ℕ → List (Option ℕ)
places_after r number octets = map (λ octet. Some octet) (octets_gained r number octets) ++ (after_octets r number octets).kept

-- the octets of a segment come into the buffer
abbrev pub takes_octets : Receiving → ℕ → List ℕ → Bool
takes_octets r number octets = is_taken (buffer_of r) (distance_of r number) (octets_within r number octets)

-- what would have to be kept with the octets of a segment, or read
abbrev pub kept_with : Receiving → ℕ → List ℕ → List (Option ℕ)
kept_with r number octets = laid r.kept (distance_of r number) (octets_within r number octets)

-- none of these places keeps an octet
abbrev pub AreFree : List (Option ℕ) → Type 0
AreFree places = (distance : ℕ) → slice_index_or places distance None ≡ None

-- A segment leaves the peer's window where it ends: what it acknowledges comes off it, but for our SYN, which takes no room in it. Of what is CLOSED no window is left.
abbrev pub LeavesWindow : View → Segment → View → Type 0
LeavesWindow v s w =
    ((w.sending.window ≡ v.sending.window) × ((w.sending.una ≡ v.sending.una) ⊎ ((is_opening v.state ≡ true) ⊎ (is_closed w.state ≡ true))))
    ⊎ ((w.sending.window ≡ v.sending.window - past s.acknowledgement v.sending.una) × ((w.sending.una ≡ s.acknowledgement) ⊎ (is_closed w.state ≡ true)))

-- at whatever position the one number stands, the other stands there or less than 2^31 further on
abbrev pub GoesOn : ℕ → ℕ → Type 0
GoesOn before after = (initial position : ℕ) → before ≡ wire initial position → (further : ℕ) × (further < 2 ^ 31) × (after ≡ wire initial (position + further))

-- No number that the halves keep of their streams goes back. Those of the peer's stream begin with its SYN, which the connection that its caller opened
-- has not heard in SYN-SENT.
pub record NeverBack (v w : View) : Type 0 where
  pub una : GoesOn v.sending.una w.sending.una
  pub nxt : GoesOn v.sending.nxt w.sending.nxt
  pub bare : GoesOn (bare_number v.sending) (bare_number w.sending)
  pub rnext : is_syn_sent v.state ≡ false → GoesOn v.receiving.rnext w.receiving.rnext
  pub edge : is_syn_sent v.state ≡ false → GoesOn v.receiving.edge w.receiving.edge

-- the acknowledgement field of a segment that comes has 32 bits
abbrev pub HasNumber : Event → Type 0
HasNumber (Hears s now) = s.acknowledgement < 2 ^ 32
HasNumber _ = ⊤

-- something of the stream waits to be acknowledged: the SYN, octets that are held, or the FIN of a closed side
abbrev pub HasToSend : View → Type 0
HasToSend v = (is_opening v.state ≡ true) ⊎ ((0 < length v.sending.held) ⊎ (awaits_fin_ack v.state ≡ true))

-- a SYN, octets or a FIN are due, and not a reset or an acknowledgement alone
abbrev pub takes_numbers : Option Due → Bool
takes_numbers (Some Syn) = true
takes_numbers (Some (Text stretch)) = true
takes_numbers (Some Probe) = true
takes_numbers _ = false
