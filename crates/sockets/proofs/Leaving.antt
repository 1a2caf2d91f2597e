-- Why every connection of the table leaves its peer a window.
use Rattle.std.proofs.Common.{◌≡◌, ◌*◌, ◌≤◌, ◌||◌, ℕ, min, Bool, true, false, if◌then◌else◌, [], Option, Some, None, option_map, refl, subst, arith}
use Rattle.std.specs.List.{find}
use Rattle.ipv4.specs.declared.addr.Addr.{Addr}
use Rattle.tcp_halves.specs.declared.buffers.Manner.{Manner}
use Rattle.tcp_segment.specs.declared.TheConstants.{MSS}
use Rattle.tcp_halves.specs.declared.buffers.TheConstants.{CAPACITY}
use Rattle.tcp_halves.specs.Stream.{size_in, size_of, receive_window}
use Rattle.tcp_state.specs.View.{View, is_opening, is_closed}
use Rattle.tcp_state.specs.Due.{first_due}
use Rattle.tcp_state.specs.Edges as edge
use Rattle.tcp_state.specs.Progress as progress
use Rattle.tcp_state.proofs.LeftWindows.{active_leaves, passive_leaves, event_leaves, quiet_leaves}
use Rattle.sockets.specs.declared.sizes.Sizes.{Sizes}
use Rattle.sockets.specs.declared.entry.Entry.{Entry}
use Rattle.sockets.specs.declared.entry.SocketId.{SocketId}
use Rattle.sockets.specs.declared.role.Role.TheVariants.{Connected}
use Rattle.sockets.specs.Arrival.{manner_with, room_for, local_end, peer_end}
use Rattle.sockets.specs.Causes.{Event, after_event}
use Rattle.sockets.specs.Entries.{is_socket}
use Rattle.sockets.specs.Leaving.{LeavesAWindowIn, EachLeavesAWindow, IsSized}
use Rattle.sockets.specs.Sound.{IsSoundRole, IsSoundTable}
use Rattle.sockets.specs.SocketsView.{SocketsView, new_sockets, room_of, role_of, later_moment}
use Rattle.sockets.specs.Timing.{IsNumbered}
use Rattle.sockets.proofs.Followed.{all_joined}
use Rattle.sockets.proofs.OfferCounts.{all-found}
use Rattle.sockets.proofs.Steps.{IsEventOf, comes_to_it, IsStepOf, stays, moves, binds, opens, accepted, IsJoining, made, made_datagrams, called, IsStepped, followed, joined, stepped}
use Rattle.sockets.proofs.Timed.{all_left}

-- buffers have room for three segments where a table's size has
pub room_wide : (buffer : ℕ) (manner : Manner) → 3 * MSS ≤ buffer → 3 * MSS ≤ size_of (room_of buffer manner)
room_wide buffer manner holds = wide manner.scales
  where
    wide : (scales : Bool) → 3 * MSS ≤ size_in scales (if scales then buffer else min buffer CAPACITY)
    wide true = holds
    wide false = omega (arith, holds)

-- an event of a connection brings no more octets than that of the table
sized_of : (h : SocketsView) (x : Entry) (e : Event) (ev : edge.Event) → IsEventOf h x e ev → IsSized e → progress.IsSized ev
sized_of h x _ _ (comes_to_it now isn source s between) sized = sized
sized_of h x _ _ _ sized = tt

step_leaves : (h : SocketsView) (e : Event) → IsSized e → (x y : Entry) → IsStepOf h e x (Some y) → IsSoundRole x.role → LeavesAWindowIn x.role → LeavesAWindowIn y.role
step_leaves h e sized x _ stays sound leaves = leaves
step_leaves h e sized _ _ (moves ev id c l meets kept) sound leaves = event_leaves c ev sound.sound (sized_of h _ e ev meets sized) leaves
step_leaves h _ sized _ _ (binds named asked id buffers bound local names) sound leaves = leaves
step_leaves h _ sized _ _ (opens now isn named peer routed id buffers bound local names) sound leaves = active_leaves buffers local peer isn (later_moment h now) leaves
step_leaves h _ sized _ _ (accepted named id c l next) sound leaves = leaves
step_leaves h e sized _ _ _ sound leaves = tt

joining_leaves : (h : SocketsView) (e : Event) → 3 * MSS ≤ h.sizes.buffer → IsNumbered e → IsSized e → (x : Entry) → IsJoining h e x → LeavesAWindowIn x.role
joining_leaves h _ holds small sized _ (made buffers) = sized
joining_leaves h _ holds small sized _ made_datagrams = tt
joining_leaves h _ holds small sized _ (called now isn source s listener call) = passive_leaves (room_for h s) (local_end h s) (peer_end source s) isn s (later_moment h now) small (room_wide h.sizes.buffer (manner_with h s) holds)

pub each_leaves : (h : SocketsView) (e : Event) → IsSoundTable h → 3 * MSS ≤ h.sizes.buffer → IsNumbered e → IsSized e → EachLeavesAWindow h → EachLeavesAWindow (after_event h e)
each_leaves h e sound holds small sized all = by_step (after_event h e) (stepped h e)
  where
    by_step : (w : SocketsView) → IsStepped h e w → EachLeavesAWindow w
    by_step w (followed f) = all_left (IsStepOf h e) (λ (x : Entry). IsSoundRole x.role) (λ (x : Entry). LeavesAWindowIn x.role) (step_leaves h e sized) h.entries w.entries f.entries sound.entries all
    by_step _ (joined {x = x} j) = all_joined (λ (y : Entry). LeavesAWindowIn y.role) h.entries x all (joining_leaves h e holds small sized x j)

pub fresh_leaves : (addr : Addr) (manner : Manner) (sizes : Sizes) → EachLeavesAWindow (new_sockets addr manner sizes)
fresh_leaves addr manner sizes = tt

-- a socket's connection is one of the table
pub socket_leaves : (h : SocketsView) (id : SocketId) (c : View) (listener : Option SocketId) → EachLeavesAWindow h → role_of h id ≡ Some (Connected c listener)
    → (is_opening c.state || is_closed c.state) ≡ false → first_due c ≡ None → c.receiving.readable ≡ [] → MSS ≤ receive_window c.receiving
socket_leaves h id c listener all is opened none read = by_entry (find (is_socket id) h.entries) refl is
  where
    by_entry : (o : Option Entry) → find (is_socket id) h.entries ≡ o → option_map (λ (e : Entry). e.role) o ≡ Some (Connected c listener) → MSS ≤ receive_window c.receiving
    by_entry None found at = cc
    by_entry (Some x) found at =
        let role : x.role ≡ Connected c listener = cc in
        let leaves : LeavesAWindowIn x.role = all-found (λ (y : Entry). LeavesAWindowIn y.role) (is_socket id) h.entries x all found in
        quiet_leaves c (subst LeavesAWindowIn role leaves) opened none read
