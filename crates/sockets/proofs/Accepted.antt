-- Why no socket is in SYN-RECEIVED that a listener opened.
use Rattle.std.proofs.Common.{◌≡◌, ℕ, ◌==◌, ◌||◌, ◌≤◌, not, true, false, cond, List, [], ◌∷◌, length, Some, None, refl, sym, ◌∙◌, ap, subst, arith}
use Rattle.std.proofs.lemmas.Bool.{eqb-true}
use Rattle.std.proofs.lemmas.Grind.{common_steps}
use Rattle.std.specs.List.{AllByRecursion, find}
use Rattle.tcp_segment.specs.Segment.{Segment}
use Rattle.tcp_halves.proofs.Choices.{either}
use Rattle.tcp_state.specs.declared.state.State.{State}
use Rattle.tcp_state.specs.declared.state.State.TheVariants.{SynSent, SynReceived}
use Rattle.tcp_state.specs.Arrival.{beyond_fin, beyond_end, is_receiving, after_ack, after_window, after_text, after_heard}
use Rattle.tcp_state.specs.Calls.{beyond_shutdown}
use Rattle.tcp_state.specs.Due.{first_due}
use Rattle.tcp_state.specs.Edges as edge
use Rattle.tcp_state.specs.View.{View, is_opening, is_syn_sent, is_syn_received}
use Rattle.tcp_state.proofs.Clocked.{ticks_keep, emission_keeps}
use Rattle.tcp_state.proofs.Edges.{and_left, and_right}
use Rattle.tcp_state.proofs.Events.{by_event}
use Rattle.tcp_state.proofs.Segments.{by_ack, by_fin, by_hearing}
use Rattle.sockets.specs.declared.entry.Entry.{Entry}
use Rattle.sockets.specs.declared.entry.SocketId.{SocketId}
use Rattle.sockets.specs.declared.role.Role.{Role}
use Rattle.sockets.specs.declared.role.Role.TheVariants.{Connected}
use Rattle.sockets.specs.Calls.{next_offered, is_next_at}
use Rattle.sockets.specs.Causes.{Event, after_event}
use Rattle.sockets.specs.Entries.{has_socket, is_half_open, is_socket, is_waiting_as}
use Rattle.sockets.specs.Ids.{AreAscending}
use Rattle.sockets.specs.Offered.{AreAllowed, IsReached, is_ready}
use Rattle.sockets.specs.SocketsView.{SocketsView, new_sockets, role_of}
use Rattle.sockets.specs.Traffic.{after_events}
use Rattle.sockets.proofs.Followed.{by_test, all_joined}
use Rattle.sockets.proofs.OfferCounts.{by_option, all-found, all-mapped}
use Rattle.sockets.proofs.OfferHeld.{IsPlainEntry, Holds, next-ready, fresh-holds, event-holds}
use Rattle.sockets.proofs.Opened.{found_passes}
use Rattle.sockets.proofs.Steps.{IsStepOf, stays, moves, opens, accepted, IsJoining, made, made_datagrams, called, IsStepped, followed, joined, stepped}
use Rattle.sockets.proofs.Telling.{role_found}
use Rattle.sockets.proofs.Timed.{all_left}

-- One connection: who opened it stays, and what is past its opening stays past it.

record Past (v w : View) : Type 0 where
  passive : w.passive ≡ v.passive
  past : is_opening v.state ≡ false → is_opening w.state ≡ false

as_before : (v w : View) → w.passive ≡ v.passive → w.state ≡ v.state → Past v w
as_before v w passive state = record { passive = passive; past = λ past. ap is_opening state ∙ past }

beyond : (t : State) → is_opening t ≡ false → (is_opening (beyond_fin t) ≡ false) × (is_opening (beyond_end t) ≡ false) × (is_opening (beyond_shutdown t) ≡ false)
beyond t past = (grind (arith, common_steps), grind (arith, common_steps), grind (arith, common_steps))

unopened : (t : State) → is_syn_sent t ≡ true → is_opening t ≡ true
unopened SynSent e = refl
unopened _ e = cc

unestablished : (t : State) → is_syn_received t ≡ true → is_opening t ≡ true
unestablished SynReceived e = refl
unestablished _ e = cc

heard_past : (v : View) (s : Segment) → Past v (after_heard v s)
heard_past v s =
    by_hearing (Past v) v s (record { passive = acked.passive; past = λ past. refl })
    (record {
      dropped = as_before v v refl refl;
      drawn = record { passive = refl; past = λ past. past };
      reset = λ acts. record { passive = refl; past = λ past. refl };
      crossed = λ waits. record { passive = refl; past = λ past. let bad : true ≡ false = sym (unopened v.state waits) ∙ past in cc };
      opened = λ waits right. record { passive = refl; past = λ past. refl };
      acknowledged = λ taken. acked;
      read = λ reads. by_fin (Past v) (after_text told s) s (λ counts. record { passive = texted.passive; past = λ past. (beyond (let w = after_text told s in w.state) (texted.past past)).1 })
          (record { passive = texted.passive; past = texted.past }) texted;
    })
  where
    told : View
    told = after_window (after_ack v s.acknowledgement) s

    acked : Past v (after_ack v s.acknowledgement)
    acked = by_ack (Past v) v s.acknowledgement (record {
      old = as_before v v refl refl;
      beyond = record { passive = refl; past = λ past. past };
      opens = λ received new. record { passive = refl; past = λ past. refl };
      octets = λ new. record { passive = refl; past = λ past. past };
      fin = λ new fin. record { passive = refl; past = λ past. (beyond v.state past).0 };
    })

    texted : Past v (after_text told s)
    texted = either View (Past v) ((length s.octets == 0) || not (is_receiving told.state)) told _ (λ none. record { passive = acked.passive; past = acked.past }) (λ some. record { passive = acked.passive; past = acked.past })

event_past : (v : View) (e : edge.Event) → Past v (edge.after_event v e)
event_past v =
    by_event (λ e w. Past v w) v
    (record {
      same = λ e. as_before v v refl refl;
      asks = λ e alive. as_before v _ refl refl;
      silent = λ now. as_before v _ refl refl;
      heard = λ s now lives. let p = heard_past v s in record { passive = p.passive; past = p.past };
      over = λ now ends. record { passive = refl; past = λ past. refl };
      given_up = λ now waits gives. record { passive = refl; past = λ past. refl };
      acts = λ now. as_before v _ (ap (λ (w : View). w.passive) (ticks_keep v now)) (ap (λ (w : View). w.state) (ticks_keep v now));
      emits = λ now. as_before v _ (ap (λ (w : View). w.passive) (emission_keeps v (first_due v) now)) (ap (λ (w : View). w.state) (emission_keeps v (first_due v) now));
      sends = λ octets taken now open_. record { passive = refl; past = λ past. past };
      reads = λ len. record { passive = refl; past = λ past. past };
      shuts = λ now. record { passive = refl; past = λ past. (beyond v.state past).2 };
      delays = λ on now. record { passive = refl; past = λ past. past };
      leaves = λ now lives. record { passive = refl; past = λ past. (beyond v.state past).2 };
      aborts = λ e now moment cause lives. record { passive = refl; past = λ past. refl };
      refused = λ number hit. record { passive = refl; past = λ past. refl };
      hopless = λ now over. record { passive = refl; past = λ past. refl };
    })

-- The table: a connection that waits at no listener is past its opening, where a listener opened it.

abbrev IsPast : Role → Type 0
IsPast (Connected c None) = c.passive ≡ true → is_opening c.state ≡ false
IsPast _ = Unit {0}

-- what is accepted next is ready
abbrev IsNextReady : SocketsView → Entry → Type 0
IsNextReady h x = (id : SocketId) → is_next_at h id x ≡ true → is_ready x.role ≡ true

-- of entries in order of id the one that is found is the only one of its id
module _ (listener id : SocketId) (e : Entry) (last : ℕ) where
  abbrev IsAlone : Entry → Type 0
  IsAlone x = is_waiting_as listener id x ≡ true → x ≡ e

  above : (m : ℕ) (xs : List Entry) → id.0 ≤ m → AreAscending m last xs → AllByRecursion IsAlone xs
  above m [] higher ids = tt
  above m (x ∷ xs) higher ids = (λ it. absurd (omega (arith, eqb-true x.id.0 id.0 (and_left _ _ it), higher, ids.0)), above x.id.0 xs (omega (arith, higher, ids.0)) ids.1)

  alone : (before : ℕ) (xs : List Entry) → AreAscending before last xs → find (is_waiting_as listener id) xs ≡ Some e → AllByRecursion IsAlone xs
  alone before [] ids found = tt
  alone before (x ∷ xs) ids found =
      by_test (is_waiting_as listener id x)
      (λ here.
      let same : x ≡ e = (let one : Some x ≡ Some e = ap (λ b. cond b (Some x) (find (is_waiting_as listener id) xs)) (sym here) ∙ found in cc) in
      (λ it. same, above x.id.0 xs (omega (arith, eqb-true x.id.0 id.0 (and_left _ _ here))) ids.1))
      (λ there. (
        λ it. let bad : true ≡ false = sym it ∙ there in cc,
        alone x.id.0 xs ids.1 (ap (λ b. cond b (Some x) (find (is_waiting_as listener id) xs)) (sym there) ∙ found),
      ))

next_at : (h : SocketsView) → Holds h → (id : SocketId) → AllByRecursion (λ (x : Entry). is_next_at h id x ≡ true → is_ready x.role ≡ true) h.entries
next_at h holds id =
    by_option (next_offered h id)
    (λ none. none_next h.entries none)
    (λ n is.
    let next = next-ready h holds id n is in
    all-mapped (IsAlone id n next.e h.last_id) (λ (x : Entry). is_next_at h id x ≡ true → is_ready x.role ≡ true)
    (λ x only it. let waits : is_waiting_as id n x ≡ true = rw is at it in ap (λ (y : Entry). is_ready y.role) (only waits) ∙ next.ready) h.entries (alone id n next.e h.last_id 0 h.entries holds.ids next.found))
  where
    none_next : (xs : List Entry) → next_offered h id ≡ None → AllByRecursion (λ (x : Entry). is_next_at h id x ≡ true → is_ready x.role ≡ true) xs
    none_next [] none = tt
    none_next (x ∷ xs) none = (λ it. let bad : is_next_at h id x ≡ false = rw none refl in let no : true ≡ false = sym it ∙ bad in cc, none_next xs none)

each_next : (h : SocketsView) → Holds h → AllByRecursion (IsNextReady h) h.entries
each_next h holds = swapped h.entries (next_at h holds)
  where
    swapped : (xs : List Entry) → ((id : SocketId) → AllByRecursion (λ (x : Entry). is_next_at h id x ≡ true → is_ready x.role ≡ true) xs) → AllByRecursion (IsNextReady h) xs
    swapped [] all = tt
    swapped (x ∷ xs) all = (λ id. (all id).0, swapped xs (λ id. (all id).1))

abbrev Keeps : SocketsView → Entry → Type 0
Keeps h x = IsPlainEntry x × IsNextReady h x

both : (h : SocketsView) (xs : List Entry) → AllByRecursion IsPlainEntry xs → AllByRecursion (IsNextReady h) xs → AllByRecursion (Keeps h) xs
both h [] plain next = tt
both h (x ∷ xs) plain next = ((plain.0, next.0), both h xs plain.1 next.1)

ready_past : (c : View) (l : SocketId) → is_syn_sent c.state ≡ false → is_ready (Connected c (Some l)) ≡ true → is_opening c.state ≡ false
ready_past c l sent ready = by_state c.state sent (and_right (not c.released) (not (is_syn_received c.state)) ready)
  where
    by_state : (t : State) → is_syn_sent t ≡ false → not (is_syn_received t) ≡ true → is_opening t ≡ false
    by_state SynSent e f = cc
    by_state SynReceived e f = cc
    by_state _ e f = refl

step_past : (h : SocketsView) (e : Event) (x y : Entry) → IsStepOf h e x (Some y) → Keeps h x → IsPast x.role → IsPast y.role
step_past h e x _ stays keeps past = past
step_past h e _ _ (moves ev id c None meets kept) keeps past = let p = event_past c ev in λ passive. p.past (past (sym p.passive ∙ passive))
step_past h e _ _ (moves ev id c (Some l) meets kept) keeps past = tt
step_past h _ _ _ (opens now isn named peer routed id buffers bound local names) keeps past = λ passive. cc
step_past h _ _ _ (accepted named id c None next) keeps past = past
step_past h _ _ _ (accepted named id c (Some l) next) keeps past = λ passive. ready_past c l keeps.0.sent (keeps.1 named next)
step_past h e _ _ _ keeps past = tt

joining_past : (h : SocketsView) (e : Event) (x : Entry) → IsJoining h e x → IsPast x.role
joining_past h _ _ (made buffers) = tt
joining_past h _ _ made_datagrams = tt
joining_past h _ _ (called now isn source s listener call) = tt

event_all : (h : SocketsView) (e : Event) → Holds h → AllByRecursion (λ (x : Entry). IsPast x.role) h.entries → (let w = after_event h e in AllByRecursion (λ (x : Entry). IsPast x.role) w.entries)
event_all h e holds all = by_step (after_event h e) (stepped h e)
  where
    by_step : (w : SocketsView) → IsStepped h e w → AllByRecursion (λ (x : Entry). IsPast x.role) w.entries
    by_step w (followed f) = all_left (IsStepOf h e) (Keeps h) (λ (x : Entry). IsPast x.role) (step_past h e) h.entries w.entries f.entries (both h h.entries holds.plain (each_next h holds)) all
    by_step _ (joined {x = x} j) = all_joined (λ (y : Entry). IsPast y.role) h.entries x all (joining_past h e x j)

events_all : (h : SocketsView) (events : List Event) → AreAllowed h events → Holds h → AllByRecursion (λ (x : Entry). IsPast x.role) h.entries → (let w = after_events h events in AllByRecursion (λ (x : Entry). IsPast x.role) w.entries)
events_all h [] allowed holds all = all
events_all h (e ∷ rest) allowed holds all = events_all (after_event h e) rest allowed.1 (event-holds h e allowed.0 holds) (event_all h e holds all)

reached_all : (h : SocketsView) → IsReached h → AllByRecursion (λ (x : Entry). IsPast x.role) h.entries
reached_all h r = subst (λ (w : SocketsView). AllByRecursion (λ (x : Entry). IsPast x.role) w.entries) r.is (events_all (new_sockets r.addr r.manner r.sizes) r.events r.allowed (fresh-holds r.addr r.manner r.sizes) tt)

-- so no socket is half open
pub socket_past : (h : SocketsView) → IsReached h → (id : SocketId) (role : Role) → role_of h id ≡ Some role → is_half_open role ≡ false
socket_past h r id role is =
    let found = role_found h id role is in
    let past = all-found (λ (x : Entry). IsPast x.role) (is_socket id) h.entries found.0 (reached_all h r) found.1 in
    let held : has_socket found.0.role ≡ true = and_right _ _ (found_passes (is_socket id) h.entries found.0 found.1) in
    ap is_half_open (sym found.2) ∙ by_role found.0.role past held
  where
    by_role : (r : Role) → IsPast r → has_socket r ≡ true → is_half_open r ≡ false
    by_role (Connected c None) past held =
        by_test c.passive
        (λ passive. by_test (is_syn_received c.state) (λ received. let bad : true ≡ false = sym (unestablished c.state received) ∙ past passive in cc) (λ other. rw (passive, other) refl))
        (λ active. rw active refl)
    by_role (Connected c (Some l)) past held = cc
    by_role _ past held = refl
