-- A socket that is closed or aborted is moves of the pairing of its opening, if it has one, and of those of the connections that wait at it.
use Rattle.std.proofs.Common.{◌≡◌, ℕ, ◌≤◌, ◌==◌, ◌||◌, inl, inr, Bool, true, false, not, cond, if◌then◌else◌, List, [], ◌∷◌, ◌++◌, length, Option, Some, None, arith, refl, sym, ◌∙◌, subst}
use Rattle.std.specs.List.{find}
use Rattle.ipv4.specs.declared.addr.Addr.{Addr}
use Rattle.ipv4.specs.declared.addr.Pair.{Pair}
use Rattle.tcp_state.specs.Edges as edge
use Rattle.tcp_state.specs.declared.connection.Fate.TheVariants.{Stays, Removed}
use Rattle.clock.specs.declared.moment.Moment.{Moment}
use Rattle.tcp_state.specs.declared.state.State.{State}
use Rattle.tcp_state.specs.declared.state.State.TheVariants as state
use Rattle.tcp_state.specs.View.{View, IsSound, is_opening, is_syn_sent, is_syn_received, is_closed}
use Rattle.tcp_state.specs.Calls as connection_calls
use Rattle.sides.specs.declared.side.Side.{Side}
use Rattle.wire_sim.specs.declared.event.Answer.TheVariants as reply
use Rattle.wire_sim.specs.declared.event.Opening.{Opening}
use Rattle.wire_sim.specs.declared.event.Happening.{Happening}
use Rattle.sockets.specs.declared.entry.SocketId.{SocketId}
use Rattle.sockets.specs.declared.entry.Entry.{Entry}
use Rattle.sockets.specs.declared.role.Leave.{Leave}
use Rattle.sockets.specs.declared.role.Leave.TheVariants.{Close, Abort}
use Rattle.sockets.specs.declared.role.Role.{Role}
use Rattle.sockets.specs.declared.role.Role.TheVariants.{Idle, Listener, Connected, Datagrams}
use Rattle.sockets.specs.declared.refusal.Refusal.TheVariants.{EBADF}
use Rattle.sockets.specs.Calls.{close_refusal, after_socket_left, after_leaving}
use Rattle.sockets.specs.Entries.{is_socket, is_kept, waits_at, leaving_event, role_after_leaving, leaving_fate_of, role_after_abort, abort_fate_of, role_after_listener_close, listener_close_fate_of, entries_after_step}
use Rattle.sockets.specs.SocketsView.{SocketsView}
use Rattle.sockets.specs.GiveWay.{gives_way, after_giving_way}
use Rattle.sockets.specs.Sound.{IsSoundTable}
use Rattle.stream_law.specs.ChannelViews.{SameStream}
use Rattle.stream_law.specs.Pairing.{Pairing, Present, Departed}
use Rattle.window_law.specs.Windows.{Talks}
use Rattle.window_law.proofs.Quiet.{release_keeps, closes, rests, stops, leaves}
use Rattle.stream_law.proofs.PairingEndings.{stops-left}
use Rattle.sides.specs.Sides.{other_side}
use Rattle.wire_sim.specs.Tallies.{is_opening_of, is_opening_at}
use Rattle.wire_sim.proofs.tables.CallsOnTable.{found_socket}
use Rattle.wire_sim.proofs.tables.EntryChanges.{SameBut, SameTold, by_test, table-becomes, end-another, opened-kept}
use Rattle.wire_sim.proofs.pairing.EndMoves.{pairing, EndGoes, moved, end-stays}
use Rattle.wire_sim.proofs.lists.FoundAfterChange.{find-passes, find-missed}
use Rattle.sockets.proofs.KeptEnds.{keeps-event}
use Rattle.sockets.proofs.GivenRoom.{unremoved}
use Rattle.tcp_state.proofs.Causes.{or_right}
use Rattle.wire_sim.proofs.tables.EntryIsMade.{its_id}
use Rattle.wire_sim.proofs.openings.OpeningIsFound.{opening-of_parts}
use Rattle.wire_sim.proofs.pairing.WorldAsPairings.{told, Bag, Projects, projects-turned}
use Rattle.wire_sim.proofs.pairing.CallsAreMoves.{projects-moved, projects-alike, sound_socket}
use Rattle.wire_sim.proofs.pairing.TickIsMoves.{projects-settled}
use Rattle.wire_sim.proofs.tables.TableById.{Account, role_at, found-role, Becomes, becomes-settled, settle, presence_in, end_with, end_at, IsOpened, IsNoted, MayOpen, IsTable, same_id}
use Rattle.wire_sim.proofs.told.TraceAndOneMore.{answered}
use Rattle.wire_sim.proofs.told.AccountAndOneMore.{leaving_call, account_left, told-other, leaves-told}

-- A step of an entry that opened nothing is no move of any pairing.
projects-unopened : (limit : ℕ) (hs ts : Side) (a b : Addr) (own own' other : SocketsView) (bag : Bag) (openings : List Opening) (trace trace' : List Happening) (id : SocketId) → own'.addr ≡ own.addr → own'.last_id ≡ own.last_id
    → Becomes own.entries own'.entries id.0 None → id.0 ≤ own.last_id → find (is_opening_at hs id) openings ≡ None → SameBut id (told hs trace) (told hs trace') → SameTold (told ts trace) (told ts trace')
    → Projects limit hs ts a b own other bag openings trace → Projects limit hs ts a b own' other bag openings trace'
projects-unopened limit hs ts a b own own' other bag openings trace trace' id addr last becomes within none same theirs h =
    projects-turned limit hs ts a b own own' other bag openings trace trace' h (record {
      addr = addr;
      table = subst (λ n. IsTable hs a n own'.entries openings (told hs trace')) (sym last)
          (table-becomes hs a own.last_id own.entries own'.entries openings (told hs trace) (told hs trace') id None becomes (λ role is. let bad : None ≡ Some role = is in cc) same (λ unopened may. absurd (gone may)) h.own_table);
      other_told = theirs;
      talks = λ pair epoch.
          subst (λ e. Talks limit (pairing e (end_at ts openings other.entries (told ts trace) pair epoch) (bag.out pair epoch) (bag.arrived pair epoch)))
          (sym (end-another hs openings id pair epoch own.entries own'.entries (told hs trace) (told hs trace') becomes.others same (elsewhere pair epoch))) (h.talks pair epoch);
    })
  where
    gone : MayOpen own.last_id own'.entries id → ⊥
    gone (inl above) = omega (arith, above, within)
    gone (inr at) = let bad : None ≡ Some at.0 = sym becomes.here ∙ at.1 in cc

    elsewhere : (pair : Pair) (epoch : ℕ) (o : Opening) → find (is_opening_of hs pair epoch) openings ≡ Some o → (id.0 == o.id.0) ≡ false
    elsewhere pair epoch o found = by_test (id.0 == o.id.0)
        (λ is.
        let parts = opening-of_parts hs pair epoch o (find-passes (is_opening_of hs pair epoch) openings o found) in
        absurd (find-missed (is_opening_of hs pair epoch) (is_opening_at hs id) openings o found (subst (λ i. is_opening_at hs i o ≡ true) (sym (same_id id o.id is)) (its_id hs o parts.0)) none))
        (λ apart. apart)

-- What closing makes of the end of a connection.

same-released : (c : View) (now : Moment) → SameStream (connection_calls.after_shutdown c now) (connection_calls.after_release c now)
same-released c now = record { state = refl; held = refl; una = refl; nxt = refl; readable = refl; kept = refl; rnext = refl; pending_error = refl; released = λ e. let bad : true ≡ false = e in cc }

closing : (limit : ℕ) (c : View) (l : Option SocketId) (now : Moment) (t : Account) → IsSound c
    → EndGoes limit (end_with (Present c) t) (end_with (presence_in (settle (connection_calls.close_fate c) (role_after_leaving Close now) (Connected c l))) (record t { closed = true }))
closing limit c l now t sound there out arrived = first (connection_calls.is_removed_by_close c) refl
  where
    t' : Account
    t' = record t { closed = true }

    was : Pairing
    was = pairing (end_with (Present c) t) there out arrived

    opened : (s : State) → (is_closed s || is_syn_sent s) ≡ false → is_syn_received s ≡ false → is_opening s ≡ false
    opened state.SynSent e f = let bad : true ≡ false = e in cc
    opened state.SynReceived e f = let bad : true ≡ false = f in cc
    opened state.Closed e f = refl
    opened state.Listen e f = refl
    opened state.Established e f = refl
    opened state.FinWait1 e f = refl
    opened state.FinWait2 e f = refl
    opened state.CloseWait e f = refl
    opened state.Closing e f = refl
    opened state.LastAck e f = refl
    opened state.TimeWait e f = refl

    not_first : (a b : Bool) → (a || b) ≡ false → a ≡ false
    not_first true b e = cc
    not_first false b e = refl

    second : connection_calls.is_removed_by_close c ≡ false → (b : Bool) → connection_calls.is_aborted_by_close c ≡ b → Talks limit was
        → Talks limit (pairing (end_with (Present (if b then connection_calls.aborted_at c now else connection_calls.after_release c now)) t') there out arrived)
    second stays true is met = moved limit was (pairing (end_with (Present (connection_calls.aborted_at c now)) t') there out arrived) (stops limit was c (connection_calls.aborted_at c now) true refl (stops-left c (connection_calls.aborted_at c now) refl refl) (λ e. refl)) met
    second stays false is met =
        let shut = pairing (end_with (Present (connection_calls.after_shutdown c now)) t') there out arrived in
        moved limit shut (pairing (end_with (Present (connection_calls.after_release c now)) t') there out arrived) (rests limit shut (connection_calls.after_shutdown c now) (connection_calls.after_release c now) refl (same-released c now) (release_keeps c now))
        (moved limit was shut (closes limit was c now refl sound (opened c.state stays (not_first (is_syn_received c.state) (not (length c.receiving.readable == 0)) is))) met)

    first : (b : Bool) → connection_calls.is_removed_by_close c ≡ b → Talks limit was
        → Talks limit (pairing (end_with (presence_in (cond (is_kept (if b then Removed else Stays)) (Some (Connected (if b then c else (if connection_calls.is_aborted_by_close c then connection_calls.aborted_at c now else connection_calls.after_release c now)) l)) None)) t') there out arrived)
    first true is met = moved limit was (pairing (end_with Departed t') there out arrived) (leaves limit was c true refl (λ e. refl)) met
    first false is met = second is (connection_calls.is_aborted_by_close c) refl met

-- What aborting makes of it.
aborting : (limit : ℕ) (c : View) (l : Option SocketId) (now : Moment) (t : Account) → EndGoes limit (end_with (Present c) t) (end_with (presence_in (settle (connection_calls.abort_fate c) (role_after_abort now) (Connected c l))) t)
aborting limit c l now t there out arrived met = by_state (is_closed c.state) met
  where
    was : Pairing
    was = pairing (end_with (Present c) t) there out arrived

    by_state : (b : Bool) → Talks limit was → Talks limit (pairing (end_with (presence_in (cond (is_kept (if b then Removed else Stays)) (Some (Connected (if b then c else connection_calls.aborted_at c now) l)) None)) t) there out arrived)
    by_state true met = moved limit was (pairing (end_with Departed t) there out arrived) (leaves limit was c t.closed refl (λ e. e)) met
    by_state false met = moved limit was (pairing (end_with (Present (connection_calls.aborted_at c now)) t) there out arrived) (stops limit was c (connection_calls.aborted_at c now) t.closed refl (stops-left c (connection_calls.aborted_at c now) refl refl) (λ e. e)) met

-- What its caller's leaving makes of it.
leaving : (limit : ℕ) (how : Leave) (c : View) (l : Option SocketId) (now : Moment) (t : Account) → IsSound c
    → EndGoes limit (end_with (Present c) t) (end_with (presence_in (settle (edge.fate_by c (leaving_event how now c)) (role_after_leaving how now) (Connected c l))) (account_left how t))
leaving limit Close c l now t sound = closing limit c l now t sound
leaving limit Abort c l now t sound =
    let event : Bool → edge.Event = λ b. if b then edge.Closes now else edge.Aborts now in
    let P : Bool → Type 0 = λ b. EndGoes limit (end_with (Present c) t) (end_with (presence_in (cond (is_kept (edge.fate_by c (event b))) (Some (Connected (edge.after_event c (event b)) l)) None)) t) in
    by_test (is_syn_sent c.state) (λ sent. subst P (sym sent) (unsent sent)) (λ past. subst P (sym past) (aborting limit c l now t))
  where
    -- where its SYN went unanswered, nothing is left
    unsent : is_syn_sent c.state ≡ true → EndGoes limit (end_with (Present c) t) (end_with (presence_in (cond (is_kept (edge.fate_by c (edge.Closes now))) (Some (Connected (edge.after_event c (edge.Closes now)) l)) None)) t)
    unsent sent there out arrived met =
        let was = pairing (end_with (Present c) t) there out arrived in
        let removed : connection_calls.is_removed_by_close c ≡ true = or_right (is_closed c.state) (is_syn_sent c.state) sent in
        rw removed (moved limit was (pairing (end_with Departed t) there out arrived) (leaves limit was c t.closed refl (λ e. e)) met)

-- What is made of a connection that waits at a listener which is left.
forsaking : (limit : ℕ) (now : Moment) (id : SocketId) (t : Account) (r : Role) → EndGoes limit (end_with (presence_in (Some r)) t) (end_with (presence_in (settle (listener_close_fate_of id r) (role_after_listener_close now id) r)) t)
forsaking limit now id t r there out arrived = waiting (waits_at id r)
  where
    abort_of : (r : Role) → Talks limit (pairing (end_with (presence_in (Some r)) t) there out arrived) → Talks limit (pairing (end_with (presence_in (settle (abort_fate_of r) (role_after_abort now) r)) t) there out arrived)
    abort_of (Connected c l) met = aborting limit c l now t there out arrived met
    abort_of (Listener b n) met = met
    abort_of (Idle b n) met = met
    abort_of (Datagrams b s) met = met

    waiting : (b : Bool) → Talks limit (pairing (end_with (presence_in (Some r)) t) there out arrived)
        → Talks limit (pairing (end_with (presence_in (settle (if b then abort_fate_of r else Stays) (λ q. if b then role_after_abort now q else q) r)) t) there out arrived)
    waiting true met = abort_of r met
    waiting false met = met

-- Leaving a socket.

-- the socket that is left
pub record LeavesOn (h : SocketsView) (how : Leave) (id : SocketId) : Type 0 where
  pub role : Role
  pub found : find (is_socket id) h.entries ≡ Some (record { id = id; role = role })
  pub leaves : after_socket_left h how id ≡ record h { entries = entries_after_step (leaving_fate_of how h.kept role) (is_socket id) (role_after_leaving how h.kept) h.entries }

pub leaves-on : (h : SocketsView) (how : Leave) (id : SocketId) → close_refusal h id ≡ None → LeavesOn h how id
leaves-on h how id none = by_entry (find (is_socket id) h.entries) refl
  where
    by_entry : (o : Option Entry) → find (is_socket id) h.entries ≡ o → LeavesOn h how id
    by_entry None at = let refused : close_refusal h id ≡ Some EBADF = rw at in cc
    by_entry (Some e) at = record { role = e.role; found = found_socket h.entries id e e.role at refl; leaves = rw at }

-- its own entry
own-left : (limit : ℕ) (hs ts : Side) (a b : Addr) (own other : SocketsView) (bag : Bag) (openings : List Opening) (trace : List Happening) (how : Leave) (id : SocketId) (r : Role) → IsSoundTable own → ts ≡ other_side hs
    → find (is_socket id) own.entries ≡ Some (record { id = id; role = r }) → Projects limit hs ts a b own other bag openings trace
    → Projects limit hs ts a b (record own { entries = entries_after_step (leaving_fate_of how own.kept r) (is_socket id) (role_after_leaving how own.kept) own.entries }) other bag openings (trace ++ answered hs (leaving_call how id) reply.Done ∷ [])
own-left limit hs ts a b own other bag openings trace how id (Connected c l) sound opposite found h =
    let ev = leaving_event how own.kept c in
    let trace' = trace ++ answered hs (leaving_call how id) reply.Done ∷ [] in
    let t = leaves-told how hs trace id in
    let x : Entry = record { id = id; role = Connected c l } in
    let before : role_at own.entries id.0 ≡ Some (Connected c l) = found-role (is_socket id) own.entries x h.own_table.sole found in
    let k : IsOpened hs a openings id c = h.own_table.noted id (Connected c l) before in
    let solid = sound_socket own id c l sound found in
    let one = told hs trace id in
    projects-moved limit hs ts a b own (record own { entries = entries_after_step (edge.fate_by c ev) (is_socket id) (role_after_leaving how own.kept) own.entries }) other bag openings trace trace' id (settle (edge.fate_by c ev) (role_after_leaving how own.kept) (Connected c l)) refl refl
    (becomes-settled (edge.fate_by c ev) (is_socket id) (role_after_leaving how own.kept) own.entries x h.own_table.sole found)
    (λ role is. (subst (λ q. IsNoted hs a openings id q) (kept (is_kept (edge.fate_by c ev)) role is) (opened-kept hs a openings id c (edge.after_event c ev) (keeps-event c ev) k), h.own_table.bound id (Connected c l) before))
    t.1 (λ none may. let bad : None ≡ Some k.opening = sym none ∙ k.at in cc) (told-other hs ts trace (leaving_call how id) reply.Done opposite)
    (subst (λ r. EndGoes limit (end_with (presence_in r) one) (end_with (presence_in (settle (edge.fate_by c ev) (role_after_leaving how own.kept) (Connected c l))) (told hs trace' id))) (sym before)
    (subst (λ y. EndGoes limit (end_with (Present c) one) (end_with (presence_in (settle (edge.fate_by c ev) (role_after_leaving how own.kept) (Connected c l))) y)) (sym t.0) (leaving limit how c l own.kept one solid.sound))) h
  where
    kept : (b : Bool) (role : Role) → cond b (Some (Connected (edge.after_event c (leaving_event how own.kept c)) l)) None ≡ Some role → Connected (edge.after_event c (leaving_event how own.kept c)) l ≡ role
    kept true role e = cc
    kept false role e = cc
own-left limit hs ts a b own other bag openings trace how id (Listener local backlog) sound opposite found h =
    let x : Entry = record { id = id; role = Listener local backlog } in
    let before : role_at own.entries id.0 ≡ Some (Listener local backlog) = found-role (is_socket id) own.entries x h.own_table.sole found in
    projects-unopened limit hs ts a b own (record own { entries = entries_after_step Removed (is_socket id) (role_after_leaving how own.kept) own.entries }) other bag openings trace (trace ++ answered hs (leaving_call how id) reply.Done ∷ []) id refl refl
    (becomes-settled Removed (is_socket id) (role_after_leaving how own.kept) own.entries x h.own_table.sole found) (h.own_table.bound id (Listener local backlog) before) (h.own_table.noted id (Listener local backlog) before)
    (leaves-told how hs trace id).1 (told-other hs ts trace (leaving_call how id) reply.Done opposite) h
own-left limit hs ts a b own other bag openings trace how id (Idle buffers bound) sound opposite found h =
    let x : Entry = record { id = id; role = Idle buffers bound } in
    let before : role_at own.entries id.0 ≡ Some (Idle buffers bound) = found-role (is_socket id) own.entries x h.own_table.sole found in
    projects-unopened limit hs ts a b own (record own { entries = entries_after_step Removed (is_socket id) (role_after_leaving how own.kept) own.entries }) other bag openings trace (trace ++ answered hs (leaving_call how id) reply.Done ∷ []) id refl refl
    (becomes-settled Removed (is_socket id) (role_after_leaving how own.kept) own.entries x h.own_table.sole found) (h.own_table.bound id (Idle buffers bound) before) (h.own_table.noted id (Idle buffers bound) before)
    (leaves-told how hs trace id).1 (told-other hs ts trace (leaving_call how id) reply.Done opposite) h
own-left limit hs ts a b own other bag openings trace how id (Datagrams bound socket) sound opposite found h =
    let x : Entry = record { id = id; role = Datagrams bound socket } in
    let before : role_at own.entries id.0 ≡ Some (Datagrams bound socket) = found-role (is_socket id) own.entries x h.own_table.sole found in
    projects-unopened limit hs ts a b own (record own { entries = entries_after_step Removed (is_socket id) (role_after_leaving how own.kept) own.entries }) other bag openings trace (trace ++ answered hs (leaving_call how id) reply.Done ∷ []) id refl refl
    (becomes-settled Removed (is_socket id) (role_after_leaving how own.kept) own.entries x h.own_table.sole found) (h.own_table.bound id (Datagrams bound socket) before) (h.own_table.noted id (Datagrams bound socket) before)
    (leaves-told how hs trace id).1 (told-other hs ts trace (leaving_call how id) reply.Done opposite) h

pub call-leaves : (limit : ℕ) (hs ts : Side) (a b : Addr) (own other : SocketsView) (bag : Bag) (openings : List Opening) (trace : List Happening) (how : Leave) (id : SocketId) → IsSoundTable own → ts ≡ other_side hs → close_refusal own id ≡ None
    → Projects limit hs ts a b own other bag openings trace → Projects limit hs ts a b (after_leaving own how id) other bag openings (trace ++ answered hs (leaving_call how id) reply.Done ∷ [])
call-leaves limit hs ts a b own other bag openings trace how id sound opposite accepted h =
    let k = leaves-on own how id accepted in
    let e = answered hs (leaving_call how id) reply.Done in
    let first = own-left limit hs ts a b own other bag openings trace how id k.role sound opposite k.found h in
    (projects-settled limit hs ts a b (after_socket_left own how id) (after_leaving own how id) other bag openings (trace ++ e ∷ []) (listener_close_fate_of id) (role_after_listener_close own.kept id) refl refl refl noted (forsaking limit own.kept id)
    (subst (λ w. Projects limit hs ts a b w other bag openings (trace ++ e ∷ [])) (sym k.leaves) first))
  where
    aborts : (i : SocketId) (r : Role) → IsNoted hs a openings i r → IsNoted hs a openings i (role_after_abort own.kept r)
    aborts i (Connected c l) m = opened-kept hs a openings i c (connection_calls.after_abort c own.kept) (keeps-event c (edge.Aborts own.kept)) m
    aborts i (Listener local backlog) m = m
    aborts i (Idle buffers bound) m = m
    aborts i (Datagrams bound socket) m = m

    noted : (i : SocketId) (r : Role) → IsNoted hs a openings i r → IsNoted hs a openings i (role_after_listener_close own.kept id r)
    noted i r m = by_waiting (waits_at id r)
      where
        by_waiting : (test : Bool) → IsNoted hs a openings i (if test then role_after_abort own.kept r else r)
        by_waiting true = aborts i r m
        by_waiting false = m

-- What gives way, if anything does, leaves its pairing.

gone-connection : (limit : ℕ) (t : Account) (r : Role) → EndGoes limit (end_with (presence_in (Some r)) t) (end_with Departed t)
gone-connection limit t (Connected c l) there out arrived = let was = pairing (end_with (Present c) t) there out arrived in moved limit was (pairing (end_with Departed t) there out arrived) (leaves limit was c t.closed refl (λ e. e))
gone-connection limit t (Listener local backlog) there out arrived = end-stays limit (end_with Departed t) (end_with Departed t) refl there out arrived
gone-connection limit t (Idle buffers bound) there out arrived = end-stays limit (end_with Departed t) (end_with Departed t) refl there out arrived
gone-connection limit t (Datagrams bound socket) there out arrived = end-stays limit (end_with Departed t) (end_with Departed t) refl there out arrived

pub projects-giving_way : (limit : ℕ) (hs ts : Side) (a b : Addr) (own other : SocketsView) (bag : Bag) (openings : List Opening) (trace : List Happening) (meant : Entry → Bool)
    → Projects limit hs ts a b own other bag openings trace → Projects limit hs ts a b (after_giving_way own meant) other bag openings trace
projects-giving_way limit hs ts a b own other bag openings trace meant h = by_found (find (gives_way meant) own.entries) refl
  where
    by_found : (o : Option Entry) → find (gives_way meant) own.entries ≡ o → Projects limit hs ts a b (after_giving_way own meant) other bag openings trace
    by_found None none = projects-alike limit hs ts a b own (after_giving_way own meant) other bag openings trace refl refl (unremoved (gives_way meant) own.entries none) h
    by_found (Some x) found =
        let before : role_at own.entries x.id.0 ≡ Some x.role = found-role (gives_way meant) own.entries x h.own_table.sole found in
        projects-moved limit hs ts a b own (after_giving_way own meant) other bag openings trace trace x.id None refl refl
        (becomes-settled Removed (gives_way meant) (λ r. r) own.entries x h.own_table.sole found)
        (λ role is. let bad : None ≡ Some role = is in cc) (λ i apart. refl) (λ none may. h.own_table.silent x.id none (inr (x.role, before))) (λ i. refl)
        (subst (λ r. EndGoes limit (end_with (presence_in r) (told hs trace x.id)) (end_with Departed (told hs trace x.id))) (sym before) (gone-connection limit (told hs trace x.id) x.role)) h
