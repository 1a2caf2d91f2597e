-- What each answered call makes of the pairings: a move of one of them, or of none.
use Rattle.std.proofs.Common.{◌≡◌, ℕ, ◌≤◌, ◌==◌, ◌⊎◌, inl, inr, Bool, true, false, List, [], ◌∷◌, ◌++◌, length, take, Option, Some, None, is_some, Result, Ok, Err, arith, refl, sym, ◌∙◌, ap, subst}
use Rattle.std.specs.List.{find}
use Rattle.std.specs.Global.{Vec}
use Rattle.ipv4.specs.declared.addr.Addr.{Addr}
use Rattle.ipv4.specs.declared.addr.Endpoint.{Endpoint}
use Rattle.tcp_state.specs.Edges as edge
use Rattle.tcp_state.specs.declared.calls.Received.{Received}
use Rattle.tcp_state.specs.declared.calls.Received.TheVariants as received
use Rattle.tcp_state.specs.View.{View, is_opening}
use Rattle.tcp_state.specs.Calls as connection_calls
use Rattle.sides.specs.declared.side.Side.{Side}
use Rattle.wire_sim.specs.declared.event.Call.{Call}
use Rattle.wire_sim.specs.declared.event.Call.TheVariants as call
use Rattle.wire_sim.specs.declared.event.Answer.{Answer}
use Rattle.wire_sim.specs.declared.event.Answer.TheVariants as reply
use Rattle.wire_sim.specs.declared.event.Opening.{Opening}
use Rattle.wire_sim.specs.declared.event.Happening.{Happening}
use Rattle.sockets.specs.declared.entry.Kind.{Kind}
use Rattle.sockets.specs.declared.entry.SocketId.{SocketId}
use Rattle.sockets.specs.declared.entry.Entry.{Entry}
use Rattle.sockets.specs.declared.role.Role.{Role}
use Rattle.sockets.specs.declared.role.Role.TheVariants.{Connected}
use Rattle.sockets.specs.declared.refusal.Refusal.{Refusal}
use Rattle.sockets.specs.declared.refusal.Refusal.TheVariants as refusal
use Rattle.sockets.specs.Calls.{IsMade, port_bound, last_port_bound, after_bind, is_next_at, after_accept, send_answer, after_send, recv_answer, after_recv, shutdown_refusal, after_shutdown}
use Rattle.sockets.specs.Datagrams.{after_recvfrom}
use Rattle.sockets.specs.Entries.{is_socket, role_after_bind, role_after_accept, role_after_send, role_after_recv as received_role, role_after_shutdown, with_role}
use Rattle.sockets.specs.SocketsView.{SocketsView, with_socket}
use Rattle.sockets.specs.Lists.{change_first}
use Rattle.stream_law.specs.Pairing.{Present}
use Rattle.window_law.specs.Windows.{Talks}
use Rattle.window_law.proofs.Quiet.{takes, closes, gives, ends}
use Rattle.sockets.specs.Sound.{IsSoundConnection, IsSoundRole, IsSoundTable}
use Rattle.sides.specs.Sides.{other_side}
use Rattle.wire_sim.specs.Steps.{MeetsSocket, MeetsReceived, MeetsReceivedFrom}
use Rattle.wire_sim.specs.Tallies.{is_opening_at}
use Rattle.wire_sim.proofs.tables.CallsOnTable.{sends-on, reads-on, octets_told, end_told, received-connected, readable_on-connected, socket-kept, shuts-on}
use Rattle.wire_sim.proofs.tables.EntryChanges.{SameBut, SameTold, table-becomes, table-told, end-told, talks-moved, opened-kept}
use Rattle.wire_sim.proofs.pairing.EndMoves.{pairing, EndGoes, moved, end-stays}
use Rattle.wire_sim.proofs.lists.FoundAfterChange.{All-find, change-none}
use Rattle.sockets.proofs.KeptEnds.{KeepsEnds, keeps-nothing, keeps-shutdown, keeps-event}
use Rattle.wire_sim.proofs.pairing.WorldAsPairings.{told, Bag, Projects, projects-turned}
use Rattle.wire_sim.proofs.tables.UnseenRoles.{IsQuiet as IsQuietChange, quiet_bound_to, quiet_accepted}
use Rattle.wire_sim.proofs.tables.TableById.{Account, untold, role_at, found-role, Becomes, becomes-changed, presence_in, end_with, end_at, IsOpened, IsNoted, MayOpen, IsTable}
use Rattle.wire_sim.proofs.told.TraceAndOneMore.{answered, IsQuiet}
use Rattle.wire_sim.proofs.told.AccountAndOneMore.{told-quiet, told-other, sends-told, receives-told, closes-told, ends-told}

-- What happens and tells nothing of any socket's octets.

abbrev pub IsSilent : Happening → Type 0
IsSilent e = (s : Side) (i : SocketId) → IsQuiet s i e

pub projects-silent : (limit : ℕ) (hs ts : Side) (a b : Addr) (own other : SocketsView) (bag : Bag) (openings : List Opening) (trace : List Happening) (e : Happening) → IsSilent e
    → Projects limit hs ts a b own other bag openings trace → Projects limit hs ts a b own other bag openings (trace ++ e ∷ [])
projects-silent limit hs ts a b own other bag openings trace e quiet h = projects-turned limit hs ts a b own own other bag openings trace (trace ++ e ∷ []) h (record {
  addr = refl;
  table = table-told hs a own.last_id own.entries openings (told hs trace) (told hs (trace ++ e ∷ [])) same h.own_table;
  other_told = λ i. told-quiet ts trace e i (quiet ts i);
  talks = λ pair epoch.
      subst (λ v. Talks limit (pairing v (end_at ts openings other.entries (told ts trace) pair epoch) (bag.out pair epoch) (bag.arrived pair epoch)))
      (sym (end-told hs openings own.entries (told hs trace) (told hs (trace ++ e ∷ [])) pair epoch same)) (h.talks pair epoch);
})
  where
    same : SameTold (told hs trace) (told hs (trace ++ e ∷ []))
    same i = told-quiet hs trace e i (quiet hs i)

-- One id's entry became another, or is gone, and that is a move of its end.
pub projects-moved : (limit : ℕ) (hs ts : Side) (a b : Addr) (own own' other : SocketsView) (bag : Bag) (openings : List Opening) (trace trace' : List Happening) (id : SocketId) (r : Option Role)
    → own'.addr ≡ own.addr → own'.last_id ≡ own.last_id → Becomes own.entries own'.entries id.0 r → ((role : Role) → r ≡ Some role → IsNoted hs a openings id role × (id.0 ≤ own.last_id))
    → SameBut id (told hs trace) (told hs trace') → (find (is_opening_at hs id) openings ≡ None → MayOpen own.last_id own'.entries id → told hs trace' id ≡ untold) → SameTold (told ts trace) (told ts trace')
    → EndGoes limit (end_with (presence_in (role_at own.entries id.0)) (told hs trace id)) (end_with (presence_in r) (told hs trace' id))
    → Projects limit hs ts a b own other bag openings trace → Projects limit hs ts a b own' other bag openings trace'
projects-moved limit hs ts a b own own' other bag openings trace trace' id r addr last becomes new same quiet theirs goes h =
    projects-turned limit hs ts a b own own' other bag openings trace trace' h (record {
      addr = addr;
      table = subst (λ n. IsTable hs a n own'.entries openings (told hs trace')) (sym last)
          (table-becomes hs a own.last_id own.entries own'.entries openings (told hs trace) (told hs trace') id r becomes new same quiet h.own_table);
      other_told = theirs;
      talks = talks-moved limit hs openings id own.entries own'.entries (told hs trace) (told hs trace') (λ pair epoch. end_at ts openings other.entries (told ts trace) pair epoch) bag.out bag.arrived becomes.others same
          (subst (λ x. EndGoes limit (end_with (presence_in (role_at own.entries id.0)) (told hs trace id)) (end_with (presence_in x) (told hs trace' id))) (sym becomes.here) goes) h.talks;
    })

-- a table that shows the same
pub projects-alike : (limit : ℕ) (hs ts : Side) (a b : Addr) (own own' other : SocketsView) (bag : Bag) (openings : List Opening) (trace : List Happening) → own'.addr ≡ own.addr → own'.last_id ≡ own.last_id → own'.entries ≡ own.entries
    → Projects limit hs ts a b own other bag openings trace → Projects limit hs ts a b own' other bag openings trace
projects-alike limit hs ts a b own own' other bag openings trace addr last entries h = projects-turned limit hs ts a b own own' other bag openings trace trace h (record {
  addr = addr;
  table = subst (λ xs. IsTable hs a own'.last_id xs openings (told hs trace)) (sym entries) (subst (λ n. IsTable hs a n own.entries openings (told hs trace)) (sym last) h.own_table);
  other_told = λ i. refl;
  talks = λ pair epoch.
      subst (λ xs. Talks limit (pairing (end_at hs openings xs (told hs trace) pair epoch) (end_at ts openings other.entries (told ts trace) pair epoch) (bag.out pair epoch) (bag.arrived pair epoch))) (sym entries) (h.talks pair epoch);
})

-- one entry changed to what shows the same
pub projects-quiet_at : (limit : ℕ) (hs ts : Side) (a b : Addr) (own other : SocketsView) (bag : Bag) (openings : List Opening) (trace : List Happening) (test : Entry → Bool) (g : Role → Role) (x : Entry) → find test own.entries ≡ Some x
    → presence_in (Some (g x.role)) ≡ presence_in (Some x.role) → (IsNoted hs a openings x.id x.role → IsNoted hs a openings x.id (g x.role))
    → Projects limit hs ts a b own other bag openings trace → Projects limit hs ts a b (record own { entries = change_first test (with_role g) own.entries }) other bag openings trace
projects-quiet_at limit hs ts a b own other bag openings trace test g x at seen noted h =
    let next : SocketsView = record own { entries = change_first test (with_role g) own.entries } in
    let before = found-role test own.entries x h.own_table.sole at in
    projects-moved limit hs ts a b own next other bag openings trace trace x.id (Some (g x.role)) refl refl (becomes-changed test g own.entries x h.own_table.sole at)
    (λ role is. let same : g x.role ≡ role = cc in (subst (λ r. IsNoted hs a openings x.id r) same (noted (h.own_table.noted x.id x.role before)), h.own_table.bound x.id x.role before))
    (λ i apart. refl) (λ none may. h.own_table.silent x.id none (inr (x.role, before))) (λ i. refl)
    (end-stays limit (end_with (presence_in (role_at own.entries x.id.0)) (told hs trace x.id)) (end_with (presence_in (Some (g x.role))) (told hs trace x.id))
    (ap (λ p. end_with p (told hs trace x.id)) (seen ∙ sym (ap presence_in before)))) h

-- a change of our host that no connection sees
pub projects-quiet : (limit : ℕ) (hs ts : Side) (a b : Addr) (own other : SocketsView) (bag : Bag) (openings : List Opening) (trace : List Happening) (test : Entry → Bool) (g : Role → Role) → IsQuietChange g
    → Projects limit hs ts a b own other bag openings trace → Projects limit hs ts a b (record own { entries = change_first test (with_role g) own.entries }) other bag openings trace
projects-quiet limit hs ts a b own other bag openings trace test g quiet h = by_found (find test own.entries) refl
  where
    next : SocketsView
    next = record own { entries = change_first test (with_role g) own.entries }

    by_found : (o : Option Entry) → find test own.entries ≡ o → Projects limit hs ts a b next other bag openings trace
    by_found None at = subst (λ xs. Projects limit hs ts a b (record own { entries = xs }) other bag openings trace) (sym (change-none test (with_role g) own.entries at)) h
    by_found (Some x) at = projects-quiet_at limit hs ts a b own other bag openings trace test g x at (quiet.seen x.role) (quiet.noted hs a openings x.id x.role) h

-- What a socket call shows, by its answer.

pub socket_outcome : (kind : Kind) (h : SocketsView) (answer : Answer) (new : SocketsView) → MeetsSocket kind h answer new → IsMade kind h new ⊎ (new ≡ h)
socket_outcome kind h (reply.Socket id) new m = inl m.2
socket_outcome kind h reply.Done new m = absurd m
socket_outcome kind h (reply.Accepted i p) new m = absurd m
socket_outcome kind h reply.Started new m = absurd m
socket_outcome kind h (reply.Sent n) new m = absurd m
socket_outcome kind h (reply.Octets o) new m = absurd m
socket_outcome kind h (reply.Datagram o f) new m = absurd m
socket_outcome kind h reply.EndOfStream new m = absurd m
socket_outcome kind h (reply.State s) new m = absurd m
socket_outcome kind h (reply.Ready s) new m = absurd m
socket_outcome kind h (reply.Info s) new m = absurd m
socket_outcome kind h (reply.Endpoint y) new m = absurd m
socket_outcome kind h (reply.Frame i l) new m = absurd m
socket_outcome kind h reply.NoFrame new m = absurd m
socket_outcome kind h reply.Taken new m = absurd m
socket_outcome kind h (reply.Dropped c) new m = absurd m
socket_outcome kind h (reply.Refused refusal.EBADF) new m = absurd m
socket_outcome kind h (reply.Refused refusal.EINVAL) new m = absurd m
socket_outcome kind h (reply.Refused refusal.EADDRINUSE) new m = absurd m
socket_outcome kind h (reply.Refused refusal.EADDRNOTAVAIL) new m = absurd m
socket_outcome kind h (reply.Refused refusal.EISCONN) new m = absurd m
socket_outcome kind h (reply.Refused refusal.ENOTCONN) new m = absurd m
socket_outcome kind h (reply.Refused refusal.EALREADY) new m = absurd m
socket_outcome kind h (reply.Refused refusal.EAGAIN) new m = absurd m
socket_outcome kind h (reply.Refused refusal.ENETUNREACH) new m = absurd m
socket_outcome kind h (reply.Refused refusal.EPIPE) new m = absurd m
socket_outcome kind h (reply.Refused refusal.ECONNREFUSED) new m = absurd m
socket_outcome kind h (reply.Refused refusal.ECONNRESET) new m = absurd m
socket_outcome kind h (reply.Refused refusal.ETIMEDOUT) new m = absurd m
socket_outcome kind h (reply.Refused refusal.EMFILE) new m = inr m.1
socket_outcome kind h (reply.Refused refusal.ENOMEM) new m = inr m.1
socket_outcome kind h (reply.Refused refusal.EOPNOTSUPP) new m = absurd m
socket_outcome kind h (reply.Refused refusal.EDESTADDRREQ) new m = absurd m
socket_outcome kind h (reply.Refused refusal.EMSGSIZE) new m = absurd m

-- What a receive shows: octets, or that nothing changed.
pub record ReadsOctets (h : SocketsView) (id : SocketId) (len : ℕ) (answer : Answer) (new : SocketsView) : Type 0 where
  pub c : View
  pub l : Option SocketId
  pub found : find (is_socket id) h.entries ≡ Some (record { id = id; role = Connected c l })
  pub untold : is_some c.pending_error ≡ false
  pub opened : Rattle.tcp_state.specs.View.is_opening c.state ≡ false
  pub some : (len == 0) ≡ false
  pub octets : Vec ℕ
  pub is_answer : answer ≡ reply.Octets octets
  pub are_first : octets.items ≡ take (connection_calls.recv_count c len) c.receiving.readable
  pub becomes : new ≡ after_recv h id len

-- What a receive shows that was told the end.
pub record ReadsEnd (h : SocketsView) (id : SocketId) (len : ℕ) (answer : Answer) (new : SocketsView) : Type 0 where
  pub c : View
  pub l : Option SocketId
  pub found : find (is_socket id) h.entries ≡ Some (record { id = id; role = Connected c l })
  pub some : (len == 0) ≡ false
  pub told : connection_calls.recv_answer c len ≡ Ok received.EndOfStream
  pub is_answer : answer ≡ reply.EndOfStream
  pub becomes : new ≡ after_recv h id len

pub recv_outcome : (h : SocketsView) (id : SocketId) (len : ℕ) (answer : Answer) (new : SocketsView) → MeetsReceived h id len (recv_answer h id len) answer new
    → ReadsOctets h id len answer new ⊎ (ReadsEnd h id len answer new ⊎ ((e : Refusal) × (answer ≡ reply.Refused e) × (new ≡ h)))
recv_outcome h id len answer new = by_outcome (recv_answer h id len) refl answer
  where
    by_outcome : (r : Result Received Refusal) → recv_answer h id len ≡ r → (answer : Answer) → MeetsReceived h id len r answer new
        → ReadsOctets h id len answer new ⊎ (ReadsEnd h id len answer new ⊎ ((e : Refusal) × (answer ≡ reply.Refused e) × (new ≡ h)))
    by_outcome (Ok (received.Octets count)) is (reply.Socket id) m = absurd m
    by_outcome (Ok (received.Octets count)) is reply.Done m = absurd m
    by_outcome (Ok (received.Octets count)) is (reply.Accepted i p) m = absurd m
    by_outcome (Ok (received.Octets count)) is reply.Started m = absurd m
    by_outcome (Ok (received.Octets count)) is (reply.Sent n) m = absurd m
    by_outcome (Ok (received.Octets count)) is (reply.Octets o) m =
        let r = reads-on h id len (received.Octets count) is in
        let t = octets_told r.c len count r.told in
        let same : count ≡ connection_calls.recv_count r.c len = t.2 in
        inl (record { c = r.c; l = r.l; found = r.found; untold = t.0; opened = t.1; some = r.some; octets = o; is_answer = refl; are_first = m.0 ∙ (readable_on-connected h id count r.c r.l r.found ∙ ap (λ i. take i r.c.receiving.readable) same); becomes = m.1 })
    by_outcome (Ok (received.Octets count)) is reply.EndOfStream m = absurd m
    by_outcome (Ok (received.Octets count)) is (reply.Datagram o f) m = absurd m
    by_outcome (Ok (received.Octets count)) is (reply.State s) m = absurd m
    by_outcome (Ok (received.Octets count)) is (reply.Ready s) m = absurd m
    by_outcome (Ok (received.Octets count)) is (reply.Info s) m = absurd m
    by_outcome (Ok (received.Octets count)) is (reply.Endpoint y) m = absurd m
    by_outcome (Ok (received.Octets count)) is (reply.Frame i l) m = absurd m
    by_outcome (Ok (received.Octets count)) is reply.NoFrame m = absurd m
    by_outcome (Ok (received.Octets count)) is reply.Taken m = absurd m
    by_outcome (Ok (received.Octets count)) is (reply.Dropped c) m = absurd m
    by_outcome (Ok (received.Octets count)) is (reply.Refused e) m = absurd m
    by_outcome (Ok received.EndOfStream) is (reply.Socket id) m = absurd m
    by_outcome (Ok received.EndOfStream) is reply.Done m = absurd m
    by_outcome (Ok received.EndOfStream) is (reply.Accepted i p) m = absurd m
    by_outcome (Ok received.EndOfStream) is reply.Started m = absurd m
    by_outcome (Ok received.EndOfStream) is (reply.Sent n) m = absurd m
    by_outcome (Ok received.EndOfStream) is (reply.Octets o) m = absurd m
    by_outcome (Ok received.EndOfStream) is reply.EndOfStream m = let r = reads-on h id len received.EndOfStream is in inr (inl (record { c = r.c; l = r.l; found = r.found; some = r.some; told = r.told; is_answer = refl; becomes = m }))
    by_outcome (Ok received.EndOfStream) is (reply.Datagram o f) m = absurd m
    by_outcome (Ok received.EndOfStream) is (reply.State s) m = absurd m
    by_outcome (Ok received.EndOfStream) is (reply.Ready s) m = absurd m
    by_outcome (Ok received.EndOfStream) is (reply.Info s) m = absurd m
    by_outcome (Ok received.EndOfStream) is (reply.Endpoint y) m = absurd m
    by_outcome (Ok received.EndOfStream) is (reply.Frame i l) m = absurd m
    by_outcome (Ok received.EndOfStream) is reply.NoFrame m = absurd m
    by_outcome (Ok received.EndOfStream) is reply.Taken m = absurd m
    by_outcome (Ok received.EndOfStream) is (reply.Dropped c) m = absurd m
    by_outcome (Ok received.EndOfStream) is (reply.Refused e) m = absurd m
    by_outcome (Err x) is (reply.Socket id) m = absurd m
    by_outcome (Err x) is reply.Done m = absurd m
    by_outcome (Err x) is (reply.Accepted i p) m = absurd m
    by_outcome (Err x) is reply.Started m = absurd m
    by_outcome (Err x) is (reply.Sent n) m = absurd m
    by_outcome (Err x) is (reply.Octets o) m = absurd m
    by_outcome (Err x) is reply.EndOfStream m = absurd m
    by_outcome (Err x) is (reply.Datagram o f) m = absurd m
    by_outcome (Err x) is (reply.State s) m = absurd m
    by_outcome (Err x) is (reply.Ready s) m = absurd m
    by_outcome (Err x) is (reply.Info s) m = absurd m
    by_outcome (Err x) is (reply.Endpoint y) m = absurd m
    by_outcome (Err x) is (reply.Frame i l) m = absurd m
    by_outcome (Err x) is reply.NoFrame m = absurd m
    by_outcome (Err x) is reply.Taken m = absurd m
    by_outcome (Err x) is (reply.Dropped c) m = absurd m
    by_outcome (Err x) is (reply.Refused e) m = inr (inr (e, refl, m.1))

-- What the receipt of a datagram shows: the datagram, or that nothing changed.
pub recvfrom_outcome : (h : SocketsView) (id : SocketId) (r : Result (ℕ × Endpoint) Refusal) (answer : Answer) (new : SocketsView) → MeetsReceivedFrom h id r answer new
    → (new ≡ after_recvfrom h id) ⊎ (new ≡ h)
recvfrom_outcome h id (Ok (n, f)) (reply.Socket i) new m = absurd m
recvfrom_outcome h id (Ok (n, f)) reply.Done new m = absurd m
recvfrom_outcome h id (Ok (n, f)) (reply.Accepted i p) new m = absurd m
recvfrom_outcome h id (Ok (n, f)) reply.Started new m = absurd m
recvfrom_outcome h id (Ok (n, f)) (reply.Sent k) new m = absurd m
recvfrom_outcome h id (Ok (n, f)) (reply.Octets o) new m = absurd m
recvfrom_outcome h id (Ok (n, f)) (reply.Datagram o g) new m = inl m.2
recvfrom_outcome h id (Ok (n, f)) reply.EndOfStream new m = absurd m
recvfrom_outcome h id (Ok (n, f)) (reply.State s) new m = absurd m
recvfrom_outcome h id (Ok (n, f)) (reply.Ready s) new m = absurd m
recvfrom_outcome h id (Ok (n, f)) (reply.Info s) new m = absurd m
recvfrom_outcome h id (Ok (n, f)) (reply.Endpoint y) new m = absurd m
recvfrom_outcome h id (Ok (n, f)) (reply.Frame i l) new m = absurd m
recvfrom_outcome h id (Ok (n, f)) reply.NoFrame new m = absurd m
recvfrom_outcome h id (Ok (n, f)) reply.Taken new m = absurd m
recvfrom_outcome h id (Ok (n, f)) (reply.Dropped c) new m = absurd m
recvfrom_outcome h id (Ok (n, f)) (reply.Refused e) new m = absurd m
recvfrom_outcome h id (Err x) (reply.Socket i) new m = absurd m
recvfrom_outcome h id (Err x) reply.Done new m = absurd m
recvfrom_outcome h id (Err x) (reply.Accepted i p) new m = absurd m
recvfrom_outcome h id (Err x) reply.Started new m = absurd m
recvfrom_outcome h id (Err x) (reply.Sent n) new m = absurd m
recvfrom_outcome h id (Err x) (reply.Octets o) new m = absurd m
recvfrom_outcome h id (Err x) (reply.Datagram o f) new m = absurd m
recvfrom_outcome h id (Err x) reply.EndOfStream new m = absurd m
recvfrom_outcome h id (Err x) (reply.State s) new m = absurd m
recvfrom_outcome h id (Err x) (reply.Ready s) new m = absurd m
recvfrom_outcome h id (Err x) (reply.Info s) new m = absurd m
recvfrom_outcome h id (Err x) (reply.Endpoint y) new m = absurd m
recvfrom_outcome h id (Err x) (reply.Frame i l) new m = absurd m
recvfrom_outcome h id (Err x) reply.NoFrame new m = absurd m
recvfrom_outcome h id (Err x) reply.Taken new m = absurd m
recvfrom_outcome h id (Err x) (reply.Dropped c) new m = absurd m
recvfrom_outcome h id (Err x) (reply.Refused e) new m = inr m.1

-- Calls that change no connection.

-- the table is one of which this is known
pub kept : (limit : ℕ) (hs ts : Side) (a b : Addr) (own own' other : SocketsView) (bag : Bag) (openings : List Opening) (trace : List Happening) → own' ≡ own → Projects limit hs ts a b own other bag openings trace
    → Projects limit hs ts a b own' other bag openings trace
kept limit hs ts a b own own' other bag openings trace same h = subst (λ w. Projects limit hs ts a b w other bag openings trace) (sym same) h

-- the entries are those after a change that no connection sees, or those before
pub changed : (limit : ℕ) (hs ts : Side) (a b : Addr) (own own' other : SocketsView) (bag : Bag) (openings : List Opening) (trace : List Happening) (test : Entry → Bool) (g : Role → Role) → IsQuietChange g
    → own' ≡ record own { entries = change_first test (with_role g) own.entries } → Projects limit hs ts a b own other bag openings trace → Projects limit hs ts a b own' other bag openings trace
changed limit hs ts a b own own' other bag openings trace test g quiet becomes h =
    kept limit hs ts a b (record own { entries = change_first test (with_role g) own.entries }) own' other bag openings trace becomes (projects-quiet limit hs ts a b own other bag openings trace test g quiet h)

-- a bind gives a port, or nothing changes
pub projects-bound : (limit : ℕ) (hs ts : Side) (a b : Addr) (own other : SocketsView) (bag : Bag) (openings : List Opening) (trace : List Happening) (id : SocketId) (local : Endpoint)
    → Projects limit hs ts a b own other bag openings trace → Projects limit hs ts a b (after_bind own id local) other bag openings trace
projects-bound limit hs ts a b own other bag openings trace id local h = by_port (port_bound own id local) refl
  where
    next : SocketsView
    next = after_bind own id local

    by_port : (r : Result ℕ Refusal) → port_bound own id local ≡ r → Projects limit hs ts a b next other bag openings trace
    by_port (Err e) is = let same : next ≡ own = rw is in kept limit hs ts a b own next other bag openings trace same h
    by_port (Ok port) is =
        let end : Endpoint = record { addr = local.addr; port = port } in
        let given : SocketsView = record own { last_port = last_port_bound own local port } in
        let same : next ≡ with_socket given id (role_after_bind end) = rw is in
        changed limit hs ts a b given next other bag openings trace (is_socket id) (role_after_bind end) (quiet_bound_to end) same
        (projects-alike limit hs ts a b own given other bag openings trace refl refl refl h)

-- a connection that is accepted goes on as it was
pub projects-accepted : (limit : ℕ) (hs ts : Side) (a b : Addr) (own other : SocketsView) (bag : Bag) (openings : List Opening) (trace : List Happening) (id : SocketId)
    → Projects limit hs ts a b own other bag openings trace → Projects limit hs ts a b (after_accept own id) other bag openings trace
projects-accepted limit hs ts a b own other bag openings trace id h =
    let next : SocketsView = record own { entries = change_first (is_next_at own id) (with_role role_after_accept) own.entries } in
    projects-alike limit hs ts a b next (after_accept own id) other bag openings trace refl refl refl
    (projects-quiet limit hs ts a b own other bag openings trace (is_next_at own id) role_after_accept quiet_accepted h)

-- Send, receive and close.

-- what a call on one connection made of it, and of what is told of its socket
projects-socket : (limit : ℕ) (hs ts : Side) (a b : Addr) (own other : SocketsView) (bag : Bag) (openings : List Opening) (trace : List Happening) (c : Call) (answer : Answer) (id : SocketId) (v w : View) (l l' : Option SocketId) (g : Role → Role)
    → ts ≡ other_side hs → find (is_socket id) own.entries ≡ Some (record { id = id; role = Connected v l }) → g (Connected v l) ≡ Connected w l' → KeepsEnds v w
    → SameBut id (told hs trace) (told hs (trace ++ answered hs c answer ∷ []))
    → EndGoes limit (end_with (Present v) (told hs trace id)) (end_with (Present w) (told hs (trace ++ answered hs c answer ∷ []) id))
    → Projects limit hs ts a b own other bag openings trace
    → Projects limit hs ts a b (record own { entries = change_first (is_socket id) (with_role g) own.entries }) other bag openings (trace ++ answered hs c answer ∷ [])
projects-socket limit hs ts a b own other bag openings trace c answer id v w l l' g opposite found becomes keeps same goes h =
    let trace' = trace ++ answered hs c answer ∷ [] in
    let x : Entry = record { id = id; role = Connected v l } in
    let before : role_at own.entries id.0 ≡ Some (Connected v l) = found-role (is_socket id) own.entries x h.own_table.sole found in
    let k : IsOpened hs a openings id v = h.own_table.noted id (Connected v l) before in
    projects-moved limit hs ts a b own (record own { entries = change_first (is_socket id) (with_role g) own.entries }) other bag openings trace trace' id (Some (Connected w l')) refl refl
    (subst (λ r. Becomes own.entries (change_first (is_socket id) (with_role g) own.entries) id.0 (Some r)) becomes (becomes-changed (is_socket id) g own.entries x h.own_table.sole found))
    (λ role is. let one : Connected w l' ≡ role = cc in (subst (λ r. IsNoted hs a openings id r) one (opened-kept hs a openings id v w keeps k), h.own_table.bound id (Connected v l) before))
    same (λ none may. let bad : None ≡ Some k.opening = sym none ∙ k.at in cc) (told-other hs ts trace c answer opposite)
    (subst (λ r. EndGoes limit (end_with (presence_in r) (told hs trace id)) (end_with (Present w) (told hs trace' id))) (sym before) goes) h

pub sound_socket : (own : SocketsView) (id : SocketId) (c : View) (l : Option SocketId) → IsSoundTable own → find (is_socket id) own.entries ≡ Some (record { id = id; role = Connected c l }) → IsSoundConnection c
sound_socket own id c l sound found = All-find (λ (e : Entry). IsSoundRole e.role) (is_socket id) own.entries (record { id = id; role = Connected c l }) sound.entries found

taken_fits : (c : View) (octets : List ℕ) → connection_calls.send_count c octets ≤ length octets
taken_fits c octets = omega arith

-- no more octets are taken than were given
pub taken-fit : (own : SocketsView) (id : SocketId) (octets : List ℕ) (count : ℕ) → send_answer own id octets ≡ Ok count → count ≤ length octets
taken-fit own id octets count answers = let k = sends-on own id octets count answers in subst (λ i. i ≤ length octets) (sym k.takes) (taken_fits k.c octets)

pub call-sends : (limit : ℕ) (hs ts : Side) (a b : Addr) (own other : SocketsView) (bag : Bag) (openings : List Opening) (trace : List Happening) (id : SocketId) (octets : Vec ℕ) (count : ℕ) → IsSoundTable own → ts ≡ other_side hs → send_answer own id octets.items ≡ Ok count
    → Projects limit hs ts a b own other bag openings trace → Projects limit hs ts a b (after_send own id octets.items) other bag openings (trace ++ answered hs (call.Send id octets) (reply.Sent count) ∷ [])
call-sends limit hs ts a b own other bag openings trace id octets count sound opposite answers h =
    let k = sends-on own id octets.items count answers in
    let solid = sound_socket own id k.c k.l sound k.found in
    let t = sends-told hs trace id octets count in
    let one = told hs trace id in
    let more : Account = record one { gave = one.gave ++ take (connection_calls.send_count k.c octets.items) octets.items } in
    let same : told hs (trace ++ answered hs (call.Send id octets) (reply.Sent count) ∷ []) id ≡ more =
    t.0 ∙ ap (λ i. let x : Account = record one { gave = one.gave ++ take i octets.items } in x) k.takes in
    (projects-socket limit hs ts a b own other bag openings trace (call.Send id octets) (reply.Sent count) id k.c (connection_calls.after_send k.c octets.items own.kept) k.l k.l (role_after_send own.kept octets.items) opposite k.found refl (keeps-event k.c (edge.Sends octets.items own.kept)) t.1
    (subst (λ x. EndGoes limit (end_with (Present k.c) one) (end_with (Present (connection_calls.after_send k.c octets.items own.kept)) x)) (sym same)
    (λ there out arrived. moved limit (pairing (end_with (Present k.c) one) there out arrived) (pairing (end_with (Present (connection_calls.after_send k.c octets.items own.kept)) more) there out arrived) (takes limit (pairing (end_with (Present k.c) one) there out arrived) k.c octets.items own.kept refl solid.sound k.untold k.opened k.unclosed))) h)

pub call-receives : (limit : ℕ) (hs ts : Side) (a b : Addr) (own other : SocketsView) (bag : Bag) (openings : List Opening) (trace : List Happening) (id : SocketId) (len : ℕ) (octets : Vec ℕ) (m : ℕ) (c : View) (l : Option SocketId) → IsSoundTable own → ts ≡ other_side hs
    → find (is_socket id) own.entries ≡ Some (record { id = id; role = Connected c l }) → is_some c.pending_error ≡ false → is_opening c.state ≡ false → (m == 0) ≡ false → octets.items ≡ take (connection_calls.recv_count c m) c.receiving.readable
    → Projects limit hs ts a b own other bag openings trace → Projects limit hs ts a b (after_recv own id m) other bag openings (trace ++ answered hs (call.Recv id len) (reply.Octets octets) ∷ [])
call-receives limit hs ts a b own other bag openings trace id len octets m c l sound opposite found untold_yet opened some are_first h =
    let solid = sound_socket own id c l sound found in
    let t = receives-told hs trace id len octets in
    let one = told hs trace id in
    let more : Account = record one { got = one.got ++ take (connection_calls.recv_count c m) c.receiving.readable } in
    let same : told hs (trace ++ answered hs (call.Recv id len) (reply.Octets octets) ∷ []) id ≡ more =
    t.0 ∙ ap (λ i. let x : Account = record one { got = one.got ++ i } in x) are_first in
    (projects-socket limit hs ts a b own other bag openings trace (call.Recv id len) (reply.Octets octets) id c (connection_calls.after_recv c m) l l (received_role m) opposite found (received-connected c l m some) (keeps-event c (edge.Receives m)) t.1
    (subst (λ x. EndGoes limit (end_with (Present c) one) (end_with (Present (connection_calls.after_recv c m)) x)) (sym same)
    (λ there out arrived. moved limit (pairing (end_with (Present c) one) there out arrived) (pairing (end_with (Present (connection_calls.after_recv c m)) more) there out arrived) (gives limit (pairing (end_with (Present c) one) there out arrived) c m refl solid.sound untold_yet (socket-kept own.entries id c l found) opened))) h)

pub call-ends : (limit : ℕ) (hs ts : Side) (a b : Addr) (own other : SocketsView) (bag : Bag) (openings : List Opening) (trace : List Happening) (id : SocketId) (len m : ℕ) (c : View) (l : Option SocketId) → ts ≡ other_side hs
    → find (is_socket id) own.entries ≡ Some (record { id = id; role = Connected c l }) → (m == 0) ≡ false → connection_calls.recv_answer c m ≡ Ok received.EndOfStream
    → Projects limit hs ts a b own other bag openings trace → Projects limit hs ts a b (after_recv own id m) other bag openings (trace ++ answered hs (call.Recv id len) reply.EndOfStream ∷ [])
call-ends limit hs ts a b own other bag openings trace id len m c l opposite found some ended h =
    let t = ends-told hs trace id len in
    let one = told hs trace id in
    let still : connection_calls.after_recv c m ≡ c = end_told c m ended in
    (projects-socket limit hs ts a b own other bag openings trace (call.Recv id len) reply.EndOfStream id c c l l (received_role m) opposite found (received-connected c l m some ∙ ap (λ v. Connected v l) still) (keeps-nothing c) t.1
    (subst (λ x. EndGoes limit (end_with (Present c) one) (end_with (Present c) x)) (sym t.0)
    (λ there out arrived. moved limit (pairing (end_with (Present c) one) there out arrived) (pairing (end_with (Present c) (record one { ended = true })) there out arrived) (ends limit (pairing (end_with (Present c) one) there out arrived) c m refl (socket-kept own.entries id c l found) ended))) h)

pub call-closes : (limit : ℕ) (hs ts : Side) (a b : Addr) (own other : SocketsView) (bag : Bag) (openings : List Opening) (trace : List Happening) (id : SocketId) → IsSoundTable own → ts ≡ other_side hs → shutdown_refusal own id ≡ None
    → Projects limit hs ts a b own other bag openings trace → Projects limit hs ts a b (after_shutdown own id) other bag openings (trace ++ answered hs (call.Shutdown id) reply.Done ∷ [])
call-closes limit hs ts a b own other bag openings trace id sound opposite accepted h =
    let k = shuts-on own id accepted in
    let solid = sound_socket own id k.c k.l sound k.found in
    let t = closes-told hs trace id in
    let one = told hs trace id in
    (projects-socket limit hs ts a b own other bag openings trace (call.Shutdown id) reply.Done id k.c (connection_calls.after_shutdown k.c own.kept) k.l k.l (role_after_shutdown own.kept) opposite k.found (k.shuts own.kept) (keeps-shutdown k.c own.kept) t.1
    (subst (λ x. EndGoes limit (end_with (Present k.c) one) (end_with (Present (connection_calls.after_shutdown k.c own.kept)) x)) (sym t.0)
    (λ there out arrived. moved limit (pairing (end_with (Present k.c) one) there out arrived) (pairing (end_with (Present (connection_calls.after_shutdown k.c own.kept)) (record one { closed = true })) there out arrived) (closes limit (pairing (end_with (Present k.c) one) there out arrived) k.c own.kept refl solid.sound k.opened))) h)
