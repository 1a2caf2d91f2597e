-- Why no connection of a table is made for more octets than the table's size says.
use Rattle.std.proofs.Common.{◌≤◌, ℕ, Bool, true, false, if◌then◌else◌, min, Some, subst, sym, arith}
use Rattle.std.specs.List.{AllByRecursion}
use Rattle.ipv4.specs.declared.addr.Addr.{Addr}
use Rattle.tcp_halves.specs.declared.buffers.Manner.{Manner}
use Rattle.tcp_halves.specs.declared.buffers.TheConstants.{CAPACITY}
use Rattle.tcp_halves.specs.Halves.{Room}
use Rattle.tcp_state.proofs.PeerSizes.{places_stay as capacity_stays}
use Rattle.sockets.specs.declared.entry.Entry.{Entry}
use Rattle.sockets.specs.declared.sizes.Sizes.{Sizes}
use Rattle.sockets.specs.Arrival.{manner_with}
use Rattle.sockets.specs.Causes.{Event, after_event}
use Rattle.sockets.specs.Offered.{IsReached}
use Rattle.sockets.specs.Order.{IsAllowed}
use Rattle.sockets.specs.Rooms.{HasRoomFor, KeepsToItsSize}
use Rattle.sockets.specs.SocketsView.{SocketsView, new_sockets, room_of}
use Rattle.sockets.proofs.Followed.{all_followed, all_joined}
use Rattle.sockets.proofs.Led.{kept_to}
use Rattle.sockets.proofs.Steps.{IsStepOf, stays, moves, binds, opens, accepted, IsJoining, made, made_datagrams, called, IsStepped, followed, joined, stepped}

pub room_within : (buffer : ℕ) (manner : Manner) → (let room = room_of buffer manner in room.capacity) ≤ buffer
room_within buffer manner = by_scales manner.scales
  where
    by_scales : (scales : Bool) → (if scales then buffer else min buffer CAPACITY) ≤ buffer
    by_scales true = omega arith
    by_scales false = omega arith

module _ (most : ℕ) where
  step_keeps : (h : SocketsView) (e : Event) (x y : Entry) → IsStepOf h e x (Some y) → HasRoomFor most x.role → HasRoomFor most y.role
  step_keeps h e x _ stays room = room
  step_keeps h e _ _ (moves ev id c l meets kept) room = subst (λ (n : ℕ). n ≤ most) (sym (capacity_stays c ev)) room
  step_keeps h _ _ _ (binds named asked id buffers bound local names) room = room
  step_keeps h _ _ _ (opens now isn named peer routed id buffers bound local names) room = room
  step_keeps h _ _ _ (accepted named id c l next) room = room
  step_keeps h e _ _ _ room = tt

joining_keeps : (h : SocketsView) (e : Event) → IsAllowed h e → (x : Entry) → IsJoining h e x → HasRoomFor h.sizes.buffer x.role
joining_keeps h _ allowed _ (made buffers) = subst (λ (r : Room). r.capacity ≤ h.sizes.buffer) (sym allowed.1) (room_within h.sizes.buffer h.manner)
joining_keeps h _ allowed _ made_datagrams = tt
joining_keeps h _ allowed _ (called now isn source s listener call) = room_within h.sizes.buffer (manner_with h s)

pub size_kept : (h : SocketsView) (e : Event) → IsAllowed h e → KeepsToItsSize h → KeepsToItsSize (after_event h e)
size_kept h e allowed all = by_step (after_event h e) (stepped h e)
  where
    by_step : (w : SocketsView) → IsStepped h e w → KeepsToItsSize w
    by_step w (followed f) =
        subst (λ (s : Sizes). AllByRecursion (λ (x : Entry). HasRoomFor s.buffer x.role) w.entries) (sym f.sizes)
        (all_followed (IsStepOf h e) (λ (x : Entry). HasRoomFor h.sizes.buffer x.role) (step_keeps h.sizes.buffer h e) h.entries w.entries f.entries all)
    by_step _ (joined {x = x} j) = all_joined (λ (y : Entry). HasRoomFor h.sizes.buffer y.role) h.entries x all (joining_keeps h e allowed x j)

pub fresh_size : (addr : Addr) (manner : Manner) (sizes : Sizes) → KeepsToItsSize (new_sockets addr manner sizes)
fresh_size addr manner sizes = tt

pub reached_size : (h : SocketsView) → IsReached h → KeepsToItsSize h
reached_size h r = kept_to KeepsToItsSize size_kept (new_sockets r.addr r.manner r.sizes) h (r.events, r.allowed, r.is) (fresh_size r.addr r.manner r.sizes)
