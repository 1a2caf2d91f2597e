-- In a table whose segments go out to addresses of one kind alone, whatever connection has sent one is to an address of that kind.
use Rattle.std.proofs.Common.{◌≡◌, ◌⊎◌, inl, inr, Bool, Option, Some, refl, sym, subst}
use Rattle.std.specs.List.{find, AllByRecursion}
use Rattle.ipv4.specs.declared.addr.Addr.{Addr}
use Rattle.ipv4.specs.declared.addr.Endpoint.{Endpoint}
use Rattle.clock.specs.declared.moment.Moment.{Moment}
use Rattle.tcp_state.specs.View.{View, IsSound}
use Rattle.tcp_state.specs.Edges as edge
use Rattle.sockets.specs.declared.entry.Entry.{Entry}
use Rattle.sockets.specs.declared.entry.SocketId.{SocketId}
use Rattle.sockets.specs.declared.role.Role.{Role}
use Rattle.sockets.specs.declared.role.Role.TheVariants.{Idle, Listener, Connected, Datagrams}
use Rattle.sockets.specs.Causes.{Event, Emits, after_event}
use Rattle.sockets.specs.Emission.{in_turn}
use Rattle.sockets.specs.Entries.{sends}
use Rattle.sockets.specs.Sound.{IsSoundRole, IsSoundTable}
use Rattle.sockets.specs.SocketsView.{SocketsView, later_moment}
use Rattle.sockets.proofs.Followed.{all_joined}
use Rattle.sockets.proofs.KeptEnds.{keeps-event}
use Rattle.sockets.proofs.Steps.{IsEventOf, sends_it, reads_it, shuts_it, delays_it, asks_it, closes_it, resets_it, aborts_it, ticks_it, comes_to_it, goes_out, tells_it, loses_it, IsStepOf, stays, moves, opens, accepted, IsJoining, made, made_datagrams, called, IsStepped, entry, followed, joined, stepped}
use Rattle.sockets.proofs.Timed.{all_left}
use Rattle.wire_sim.proofs.hops.UnsentStaysSilent.{IsSilent, silent-on}

-- a connection has sent nothing, or is CLOSED, or is to an address of a kind
abbrev pub HasHopIn : (Addr → Type 0) → Role → Type 0
HasHopIn leads (Connected c listener) = IsSilent c ⊎ leads c.peer.addr
HasHopIn leads (Listener local backlog) = Unit {0}
HasHopIn leads (Idle buffers bound) = Unit {0}
HasHopIn leads (Datagrams bound socket) = Unit {0}

abbrev pub EachHasHop : (Addr → Type 0) → SocketsView → Type 0
EachHasHop leads h = AllByRecursion (λ (x : Entry). HasHopIn leads x.role) h.entries

-- what an event of a table sends goes out to such an address
abbrev pub GoesWhere : (Addr → Type 0) → SocketsView → Event → Type 0
GoesWhere leads h e = (goes : Addr → Bool) (now : Moment) (id : SocketId) (c : View) (l : Option SocketId) → e ≡ Emits goes now → find (in_turn h (sends goes)) h.entries ≡ Some (entry id (Connected c l)) → leads c.peer.addr

-- its address stays
hop-kept : (leads : Addr → Type 0) (c : View) (ev : edge.Event) → leads c.peer.addr → leads (let d = edge.after_event c ev in d.peer.addr)
hop-kept leads c ev known = let kept = keeps-event c ev in subst (λ (p : Endpoint). leads p.addr) (sym kept.peer) known

-- what has sent nothing goes on so, or something goes out of it now
silent-moved : (leads : Addr → Type 0) (h : SocketsView) (e : Event) (ev : edge.Event) (id : SocketId) (c : View) (l : Option SocketId) → GoesWhere leads h e → IsSound c → IsSilent c → IsEventOf h (entry id (Connected c l)) e ev
    → IsSilent (edge.after_event c ev) ⊎ leads c.peer.addr
silent-moved leads h _ _ id c l where_to sound silent (sends_it named octets is) = inl (silent-on c (edge.Sends octets h.kept) sound (λ now out. cc) silent)
silent-moved leads h _ _ id c l where_to sound silent (reads_it named len is) = inl (silent-on c (edge.Receives len) sound (λ now out. cc) silent)
silent-moved leads h _ _ id c l where_to sound silent (shuts_it named is) = inl (silent-on c (edge.Shuts h.kept) sound (λ now out. cc) silent)
silent-moved leads h _ _ id c l where_to sound silent (delays_it named on is) = inl (silent-on c (edge.SetsNoDelay on h.kept) sound (λ now out. cc) silent)
silent-moved leads h _ _ id c l where_to sound silent (asks_it named every is) = inl (silent-on c (edge.SetsKeepAlive every h.kept) sound (λ now out. cc) silent)
silent-moved leads h _ _ id c l where_to sound silent (closes_it how named is so) = inl (silent-on c (edge.Closes h.kept) sound (λ now out. cc) silent)
silent-moved leads h _ _ id c l where_to sound silent (resets_it how named is so) = inl (silent-on c (edge.Aborts h.kept) sound (λ now out. cc) silent)
silent-moved leads h _ _ id c l where_to sound silent (aborts_it how named is) = inl (silent-on c (edge.Aborts h.kept) sound (λ now out. cc) silent)
silent-moved leads h _ _ id c l where_to sound silent (ticks_it moment) = inl (silent-on c (edge.Ticks (later_moment h moment)) sound (λ now out. cc) silent)
silent-moved leads h _ _ id c l where_to sound silent (comes_to_it moment isn source s between) = inl (silent-on c (edge.Hears s (later_moment h moment)) sound (λ now out. cc) silent)
silent-moved leads h _ _ id c l where_to sound silent (goes_out goes moment found) = inr (where_to goes moment id c l refl found)
silent-moved leads h _ _ id c l where_to sound silent (tells_it local peer number between) = inl (silent-on c (edge.Unreachable number) sound (λ now out. cc) silent)
silent-moved leads h _ _ id c l where_to sound silent (loses_it lost moment hopless) = inl (silent-on c (edge.LosesHop (later_moment h moment)) sound (λ now out. cc) silent)

moved-hop : (leads : Addr → Type 0) (h : SocketsView) (e : Event) (ev : edge.Event) (id : SocketId) (c : View) (l : Option SocketId) → GoesWhere leads h e → IsSound c → IsEventOf h (entry id (Connected c l)) e ev
    → IsSilent c ⊎ leads c.peer.addr → IsSilent (edge.after_event c ev) ⊎ leads (let d = edge.after_event c ev in d.peer.addr)
moved-hop leads h e ev id c l where_to sound meets (inr known) = inr (hop-kept leads c ev known)
moved-hop leads h e ev id c l where_to sound meets (inl silent) = elim (silent-moved leads h e ev id c l where_to sound silent meets) [
  | inl still ↦ inl still
  | inr known ↦ inr (hop-kept leads c ev known)
]

step-hop : (leads : Addr → Type 0) (h : SocketsView) (e : Event) → GoesWhere leads h e → (x y : Entry) → IsStepOf h e x (Some y) → IsSoundRole x.role → HasHopIn leads x.role → HasHopIn leads y.role
step-hop leads h e where_to x _ stays sound known = known
step-hop leads h e where_to _ _ (moves ev id c l meets is) sound known = moved-hop leads h e ev id c l where_to sound.sound meets known
step-hop leads h _ where_to _ _ (opens now isn named peer routed id buffers bound local names) sound known = inl (inl (refl, refl))
step-hop leads h _ where_to _ _ (accepted named id c l next) sound known = known
step-hop leads h e where_to _ _ _ sound known = tt

joining-hop : (leads : Addr → Type 0) (h : SocketsView) (e : Event) (x : Entry) → IsJoining h e x → HasHopIn leads x.role
joining-hop leads h _ _ (made buffers) = tt
joining-hop leads h _ _ made_datagrams = tt
joining-hop leads h _ _ (called now isn source s listener call) = inl (inl (refl, refl))

pub each-hop : (leads : Addr → Type 0) (h : SocketsView) (e : Event) → IsSoundTable h → GoesWhere leads h e → EachHasHop leads h → EachHasHop leads (after_event h e)
each-hop leads h e sound where_to known = by_step (after_event h e) (stepped h e)
  where
    by_step : (w : SocketsView) → IsStepped h e w → EachHasHop leads w
    by_step w (followed f) = all_left (IsStepOf h e) (λ (x : Entry). IsSoundRole x.role) (λ (x : Entry). HasHopIn leads x.role) (step-hop leads h e where_to) h.entries w.entries f.entries sound.entries known
    by_step _ (joined {x = x} j) = all_joined (λ (y : Entry). HasHopIn leads y.role) h.entries x known (joining-hop leads h e x j)
