-- Why an entry of the table ends only by a cause.
use Rattle.std.proofs.Common.{◌≡◌, inl, inr, ◌&&◌, ◌||◌, not, Bool, true, false, if◌then◌else◌, [], ◌∷◌, Option, Some, None, is_some, refl, sym, ◌∙◌, ap, subst, arith}
use Rattle.std.proofs.lemmas.Grind.{common_steps}
use Rattle.std.specs.List.{find}
use Rattle.std.proofs.lemmas.Bool.{and_from}
use Rattle.ipv4.specs.declared.addr.Addr.{Addr}
use Rattle.ipv4.specs.declared.addr.Endpoint.{Endpoint}
use Rattle.clock.specs.declared.moment.Moment.{Moment}
use Rattle.tcp_state.specs.declared.connection.Fate.{Fate}
use Rattle.tcp_state.specs.declared.connection.Fate.TheVariants.{Stays, Removed}
use Rattle.tcp_state.specs.declared.emission.Due.{Due}
use Rattle.tcp_state.specs.declared.emission.Due.TheVariants.{Rst}
use Rattle.tcp_state.specs.View.{View, IsSound, is_closed, is_over, is_at_end}
use Rattle.tcp_state.specs.Timing.{gives_up, tick_fate}
use Rattle.tcp_state.specs.declared.calls.Refusal.{Refusal as Error}
use Rattle.tcp_state.specs.Due.{first_due}
use Rattle.clock.specs.Moments.{has_come}
use Rattle.tcp_state.specs.Hop.{unheard_until, hopless_fate}
use Rattle.tcp_state.specs.Edges as edge
use Rattle.tcp_state.proofs.Edges.{and_left, and_right, edges_hold}
use Rattle.tcp_state.proofs.Causes.{both, or_left, or_right, not_true, ends_caused}
use Rattle.tcp_state.proofs.Errors.{errors_caused}
use Rattle.tcp_state.proofs.Unchanged.{closed_owes}
use Rattle.sockets.specs.declared.state.SocketState.{SocketState}
use Rattle.sockets.specs.declared.state.SocketState.TheVariants.{Datagram, Stream}
use Rattle.sockets.specs.declared.entry.SocketId.{SocketId}
use Rattle.sockets.specs.declared.entry.Entry.{Entry}
use Rattle.sockets.specs.declared.role.Leave.{Leave}
use Rattle.sockets.specs.declared.role.Role.{Role}
use Rattle.sockets.specs.declared.role.Role.TheVariants.{Connected}
use Rattle.sockets.specs.Emission.{in_turn}
use Rattle.sockets.specs.Entries.{in_connection, is_closed_by, is_socket, is_between, sends, has_socket, shown_state, is_kept}
use Rattle.sockets.specs.SocketsView.{SocketsView, later_moment}
use Rattle.sockets.specs.Arrival.{local_end, peer_end}
use Rattle.sockets.specs.Lost.{is_given_up}
use Rattle.sockets.specs.Sound.{IsSoundConnection, IsSoundRole, IsSoundTable}
use Rattle.sockets.specs.Causes.{Event, after_event, is_leaving_cause, is_cause_for, is_closed_state, IsEdge, reports_to, is_next_out, IsAdded, IsStep, Follows}
use Rattle.sockets.proofs.Ends.{eqb-same, same_end-same}
use Rattle.sockets.proofs.Emitting.{found_sends, segment_sends}
use Rattle.sockets.proofs.Followed.{IsNothing, by_test, joined_by, follows_map}
use Rattle.sockets.proofs.Steps.{IsEventOf, closes_it, resets_it, aborts_it, ticks_it, comes_to_it, goes_out, tells_it, loses_it, entry, IsStepOf, stays, moves, ends, binds, listens, opens, accepted, requeues, binds_datagrams, closed, given_up, gave_way, IsJoining, made, made_datagrams, called, IsStepped, followed, joined, stepped}

-- One connection.

not_over : (c : View) → is_closed c.state ≡ false → is_over c ≡ false
not_over c live = rw live

closes_caused : (c : View) (e : edge.Event) → (not (is_closed c.state) && is_closed (let d = edge.after_event c e in d.state)) ≡ true → edge.is_cause c e ≡ true
closes_caused c e closes =
    let live : is_closed c.state ≡ false = not_true _ (and_left _ _ closes) in
    ends_caused c e (not_over c live) (or_right (edge.is_removed (edge.fate_by c e)) _ closes)

removed_caused : (c : View) (e : edge.Event) → is_over c ≡ false → edge.fate_by c e ≡ Removed → edge.is_cause c e ≡ true
removed_caused c e over removed = ends_caused c e over (or_left _ _ (ap edge.is_removed removed))

-- what keeps its place goes along an edge of the table of states
not_removed : (r : Fate) → is_kept r ≡ true → edge.is_removed r ≡ false
not_removed r kept = grind arith

kept_edge : (c : View) (e : edge.Event) → is_kept (edge.fate_by c e) ≡ true → edge.IsEdge c.state (let d = edge.after_event c e in d.state)
kept_edge c e kept =
    let P : Bool → Type 0 = λ b. edge.IsEdge c.state (if b then edge.left_by c else (let d = edge.after_event c e in d.state)) in
    subst P (not_removed (edge.fate_by c e) kept) (edges_hold c e)

never : (b : Bool) → (not b && b) ≡ false
never true = refl
never false = refl

false_from : (b : Bool) → (b ≡ true → false ≡ true) → b ≡ false
false_from true f = sym (f refl)
false_from false f = refl

-- a connection whose caller has not closed it is not over
held_not_over : (c : View) (l : Option SocketId) → has_socket (Connected c l) ≡ true → is_over c ≡ false
held_not_over c l held = grind (arith, common_steps)

-- .. nor one that has a segment due
due_not_over : (c : View) → IsSound c → is_some (first_due c) ≡ true → is_over c ≡ false
due_not_over c sound due =
    false_from (is_over c) (λ over.
    let owes : first_due c ≡ (if c.owes_reset then Some Rst else None) = closed_owes c sound (and_left _ _ (and_left _ _ over)) in
    let none : c.owes_reset ≡ false = not_true _ (and_right _ _ over) in
    let nothing : first_due c ≡ None = owes ∙ ap (λ (b : Bool). if b then Some Rst else None) none in
    let bad : is_some (first_due c) ≡ false = ap (λ (o : Option Due). is_some o) nothing in sym bad ∙ due)

-- a tick takes out only what is at the end of its wait, or is given up
tick_caused : (c : View) (now : Moment) → tick_fate c now ≡ Removed → (is_at_end c now || gives_up c now) ≡ true
tick_caused c now removed =
    by_test (is_at_end c now) (λ over. or_left _ _ over)
    (λ waits. by_test (gives_up c now) (λ over. or_right _ _ over) (λ lives. let kept : tick_fate c now ≡ Stays = rw (waits, lives) in cc))

-- the loss of its hop takes out only what has waited for it as long as it may
hop_caused : (c : View) (now : Moment) → hopless_fate c now ≡ Removed → has_come (unheard_until c) now ≡ true
hop_caused c now removed = by_test (has_come (unheard_until c) now) (λ over. over) (λ waits. let kept : hopless_fate c now ≡ Stays = rw waits in cc)

-- What causes an end of a connection, or an error, is a cause for its entry.

-- the first that sends is what goes out
comes_next : (h : SocketsView) (goes : Addr → Bool) (x : Entry) → find (in_turn h (sends goes)) h.entries ≡ Some x → is_next_out h goes x ≡ true
comes_next h goes x found = rw found (eqb-same x.id.0)

module _ (h : SocketsView) (id : SocketId) (c : View) (l : Option SocketId) where
  -- its caller's leaving is a close or an abort
  left_by : (how : Leave) (b : Bool) → is_closed_by how c ≡ b → edge.is_cause c (if b then edge.Closes h.kept else edge.Aborts h.kept) ≡ true → is_leaving_cause how h.kept (Connected c l) ≡ true
  left_by how b so cause = ap (λ (t : Bool). edge.is_cause c (if t then edge.Closes h.kept else edge.Aborts h.kept)) so ∙ cause

  cause_for : (e : Event) (ev : edge.Event) → IsEventOf h (entry id (Connected c l)) e ev → edge.is_cause c ev ≡ true → is_cause_for h e (entry id (Connected c l)) ≡ true
  cause_for _ _ (closes_it how named socket so) cause = or_left _ _ (both _ _ socket (left_by how true so cause))
  cause_for _ _ (resets_it how named socket so) cause = or_left _ _ (both _ _ socket (left_by how false so cause))
  cause_for _ _ (aborts_it how named waits) cause = or_right (is_socket named (entry id (Connected c l)) && is_leaving_cause how h.kept (Connected c l)) _ waits
  cause_for _ _ (ticks_it now) cause = cause
  cause_for _ _ (comes_to_it now isn source s between) cause = both _ _ between cause
  cause_for _ _ (goes_out goes now found) cause = both _ _ (comes_next h goes (entry id (Connected c l)) found) cause
  cause_for _ _ (tells_it local peer number between) cause = both _ _ between cause
  cause_for _ _ (loses_it lost now hopless) cause = or_right (is_given_up lost (later_moment h now) (Connected c l)) _ (both _ _ hopless cause)
  cause_for _ _ _ cause = cc

  removal_for : (e : Event) (ev : edge.Event) → IsSoundConnection c → IsEventOf h (entry id (Connected c l)) e ev → edge.fate_by c ev ≡ Removed → is_cause_for h e (entry id (Connected c l)) ≡ true
  removal_for e ev sound meets removed = cause_for e ev meets (caused e ev meets removed)
    where
      live : (local peer : Endpoint) → is_between local peer (entry id (Connected c l)) ≡ true → is_over c ≡ false
      live local peer between = not_over c (not_true _ (and_left _ _ between))

      caused : (e : Event) (ev : edge.Event) → IsEventOf h (entry id (Connected c l)) e ev → edge.fate_by c ev ≡ Removed → edge.is_cause c ev ≡ true
      caused _ _ (closes_it how named socket so) removed = removed_caused c (edge.Closes h.kept) (held_not_over c l (and_right _ _ socket)) removed
      caused _ _ (resets_it how named socket so) removed = refl
      caused _ _ (aborts_it how named waits) removed = refl
      caused _ _ (ticks_it now) removed = tick_caused c (later_moment h now) removed
      caused _ _ (comes_to_it now isn source s between) removed = removed_caused c (edge.Hears s (later_moment h now)) (live (local_end h s) (peer_end source s) between) removed
      caused _ _ (goes_out goes now found) removed = removed_caused c (edge.Emits (later_moment h now)) (due_not_over c sound.sound (segment_sends goes c l (found_sends h goes (entry id (Connected c l)) found))) removed
      caused _ _ (tells_it local peer number between) removed = removed_caused c (edge.Unreachable number) (live local peer between) removed
      caused _ _ (loses_it lost now hopless) removed = hop_caused c (later_moment h now) removed
      caused _ _ _ removed = cc

  report_for : (e : Event) (ev : edge.Event) (error : Error) → IsEventOf h (entry id (Connected c l)) e ev → edge.may_raise c ev error ≡ true → reports_to h e error (entry id (Connected c l)) ≡ true
  report_for _ _ error (ticks_it now) raises = raises
  report_for _ _ error (comes_to_it now isn source s between) raises = both _ _ between raises
  report_for _ _ error (tells_it local peer number between) raises = both _ _ between raises
  report_for _ _ error (loses_it lost now hopless) raises = both _ _ hopless raises
  report_for _ _ error _ raises = cc

-- a socket without a connection is gone once its caller leaves it
alone_caused : (how : Leave) (now : Moment) (role : Role) → in_connection true (λ c. false) role ≡ true → is_leaving_cause how now role ≡ true
alone_caused how now (Connected c l) alone = cc
alone_caused how now _ alone = refl

-- Each step has its causes.

same_edge : (state : SocketState) → IsEdge state state
same_edge Datagram = tt
same_edge (Stream state) = inl refl

same_step : (h : SocketsView) (e : Event) (x : Entry) → IsStep h e x (Some x)
same_step h e x = (refl, same_edge (shown_state x.role), λ closes. let none = never (is_closed_state (shown_state x.role)) in cc, λ error told. inl told)

step_caused : (h : SocketsView) (e : Event) (x : Entry) (o : Option Entry) → IsSoundRole x.role → IsStepOf h e x o → IsStep h e x o
step_caused h e x _ sound stays = same_step h e x
step_caused h e _ _ sound (moves ev id c l meets kept) = (
  refl,
  kept_edge c ev kept,
  λ closes. cause_for h id c l e ev meets (closes_caused c ev closes),
  λ error told. elim (errors_caused c ev error told) [ inl before ↦ inl before | inr raises ↦ inr (report_for h id c l e ev error meets raises) ],
)
step_caused h e _ _ sound (ends ev id c l meets removed) = removal_for h id c l e ev sound meets removed
step_caused h _ _ _ sound (binds named asked id buffers bound local socket) = (refl, inl refl, λ closes. cc, λ error told. inl told)
step_caused h _ _ _ sound (listens named backlog id buffers local socket) = (refl, inr refl, λ closes. cc, λ error told. inl told)
step_caused h _ _ _ sound (opens now isn named peer routed id buffers bound local socket) = (refl, inr refl, λ closes. cc, λ error told. inl told)
step_caused h _ _ _ sound (accepted named id c l next) = (refl, inl refl, λ closes. let none = never (is_closed c.state) in cc, λ error told. inl told)
step_caused h e _ _ sound (requeues id bound before after) = (refl, tt, λ closes. cc, λ error told. inl told)
step_caused h e _ _ sound (binds_datagrams id bound local before after takes) = (refl, tt, λ closes. cc, λ error told. inl told)
step_caused h _ _ _ sound (closed how named id role socket alone) = or_left _ _ (both _ _ socket (alone_caused how h.kept role alone))
step_caused h _ _ _ sound (given_up lost now x gone) = or_left _ _ gone
step_caused h _ _ _ sound (gave_way meant x next) = next

-- what is added is what an event may add
pub joining_added : (h : SocketsView) (e : Event) (x : Entry) → IsJoining h e x → IsAdded h e (x ∷ [])
joining_added h _ _ (made buffers) = refl
joining_added h _ _ made_datagrams = refl
joining_added h _ _ (called now isn source s listener call) = inr (
  _,
  refl,
  record {
    opens = call.opens;
    id = refl;
    between = and_from _ _ (same_end-same (local_end h s)) (same_end-same (peer_end source s));
    state = refl;
    told = refl;
    listener = listener;
    listens = call.found;
    waits = eqb-same listener.id.0;
  },
)

pub ends_followed : (h : SocketsView) (e : Event) → IsSoundTable h → Follows (IsStep h e) (IsAdded h e) h.entries (let after = after_event h e in after.entries)
ends_followed h e sound = by_step (after_event h e) (stepped h e)
  where
    by_step : (w : SocketsView) → IsStepped h e w → Follows (IsStep h e) (IsAdded h e) h.entries w.entries
    by_step w (followed f) =
        follows_map (IsStepOf h e) (IsStep h e) IsNothing (IsAdded h e) (λ x. IsSoundRole x.role) (λ ys none. subst (IsAdded h e) (sym none) f.added) (λ x o sound step. step_caused h e x o sound step) h.entries w.entries sound.entries f.entries
    by_step _ (joined {x = x} j) = joined_by (IsStep h e) (IsAdded h e) (same_step h e) h.entries (x ∷ []) (joining_added h e x j)
