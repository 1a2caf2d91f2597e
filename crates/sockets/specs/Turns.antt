-- In which order the entries send: the turn goes round, so none is passed over.
use Rattle.std.specs.Prelude.{◌≡◌, ◌≢◌, ◌≤◌, ℕ, Bool, true, false, List, [], ◌∷◌, length, Contains, Option, Some, None, IfSome, option_map}
use Rattle.std.specs.List.{AllWithin}
use Rattle.ipv4.specs.declared.addr.Addr.{Addr}
use Rattle.sockets.specs.declared.entry.SocketId.{SocketId}
use Rattle.sockets.specs.declared.entry.Entry.{Entry}
use Rattle.sockets.specs.Causes.{Event, Emits, after_event}
use Rattle.sockets.specs.Emission.{is_behind, next_out}
use Rattle.sockets.specs.Entries.{sends}
use Rattle.sockets.specs.SocketsView.{SocketsView}

-- the entries from this place on are those behind the one that sent last
pub record IsTurnPlace (h : SocketsView) (place : ℕ) : Type 0 where
  pub within : place ≤ length h.entries
  pub before : AllWithin (λ (e : Entry). is_behind h e ≡ false) h.entries 0 place
  pub behind : AllWithin (λ (e : Entry). is_behind h e ≡ true) h.entries place (length h.entries)

-- whose turn it is
abbrev pub sender : SocketsView → (Addr → Bool) → Option SocketId
sender h goes = option_map (λ next. next.entry.id) (next_out h goes)

-- the entry of this id has something to send that may go out
abbrev pub HasSegment : SocketId → SocketsView → (Addr → Bool) → Type 0
HasSegment id h goes = (e : Entry) × Contains h.entries e × (e.id ≡ id) × (sends goes e ≡ true)

-- an emission, by what may go out in it
abbrev pub emission_of : Event → Option (Addr → Bool)
emission_of (Emits goes now) = Some goes
emission_of _ = None

-- each emission of these events passes the entry of this id over: it has something to send that may go out, and another one sends
abbrev pub IsPassedOver : SocketId → SocketsView → List Event → Type 0
IsPassedOver id h [] = Unit {0}
IsPassedOver id h (e ∷ rest) = IfSome (emission_of e) (λ goes. HasSegment id h goes × (sender h goes ≢ Some id)) × IsPassedOver id (after_event h e) rest

-- the entry of this id sends in none of these events
abbrev pub KeepsStill : SocketId → SocketsView → List Event → Type 0
KeepsStill id h [] = Unit {0}
KeepsStill id h (e ∷ rest) = IfSome (emission_of e) (λ goes. sender h goes ≢ Some id) × KeepsStill id (after_event h e) rest
