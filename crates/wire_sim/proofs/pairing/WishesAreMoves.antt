-- A wish about a connection, as that for no delay, is a move of the one pairing whose socket it is, at which nothing changes of the stream, or changes nothing.
use Rattle.std.proofs.Common.{◌≡◌, ℕ, inr, Bool, false, List, Option, Some, None, refl, sym, ◌∙◌, ap, subst}
use Rattle.std.specs.List.{find}
use Rattle.ipv4.specs.declared.addr.Addr.{Addr}
use Rattle.tcp_state.specs.Alive.{after_set_keepalive}
use Rattle.tcp_state.specs.Calls.{told_nodelay, after_set_nodelay}
use Rattle.tcp_state.specs.Edges as edge
use Rattle.tcp_state.specs.View.{View}
use Rattle.sockets.specs.declared.entry.SocketId.{SocketId}
use Rattle.sockets.specs.declared.entry.Entry.{Entry}
use Rattle.sockets.specs.declared.role.Role.{Role}
use Rattle.sockets.specs.declared.role.Role.TheVariants.{Idle, Listener, Connected, Datagrams}
use Rattle.sockets.specs.Calls.{after_nodelay, after_keepalive}
use Rattle.sockets.specs.Entries.{is_socket, on_connection, with_role}
use Rattle.sockets.specs.SocketsView.{SocketsView, with_socket}
use Rattle.sockets.proofs.KeptEnds.{KeepsEnds, keeps-event}
use Rattle.stream_law.specs.ChannelViews.{SameStream}
use Rattle.stream_law.specs.Pairing.{Present}
use Rattle.window_law.specs.Windows.{KeepsWindows}
use Rattle.window_law.proofs.Quiet.{unmoved, rests}
use Rattle.stream_law.proofs.Clock.{same-clocked}
use Rattle.sides.specs.declared.side.Side.{Side}
use Rattle.wire_sim.specs.declared.event.Opening.{Opening}
use Rattle.wire_sim.specs.declared.event.Happening.{Happening}
use Rattle.wire_sim.proofs.lists.FoundAfterChange.{change-none}
use Rattle.wire_sim.proofs.tables.EntryChanges.{opened-kept}
use Rattle.wire_sim.proofs.tables.TableById.{Account, role_at, found-role, becomes-changed, presence_in, end_with, IsOpened, IsNoted, entry_with}
use Rattle.wire_sim.proofs.pairing.CallsAreMoves.{projects-moved, projects-quiet_at}
use Rattle.wire_sim.proofs.pairing.EndMoves.{pairing, EndGoes, moved}
use Rattle.wire_sim.proofs.pairing.WorldAsPairings.{told, Bag, Projects}

-- The streams and the windows don't know of a wish, and the ends stay.
record IsWish (wish : View → View) : Type 0 where
  same : (c : View) → SameStream c (wish c)
  windows : (c : View) → KeepsWindows c (wish c)
  ends : (c : View) → KeepsEnds c (wish c)

wishes : (limit : ℕ) (wish : View → View) → IsWish wish → (c : View) (t : Account) → EndGoes limit (end_with (Present c) t) (end_with (Present (wish c)) t)
wishes limit wish is c t there out arrived =
    let was = pairing (end_with (Present c) t) there out arrived in
    moved limit was (pairing (end_with (Present (wish c)) t) there out arrived) (rests limit was c (wish c) refl (is.same c) (is.windows c))

projects-wished : (limit : ℕ) (hs ts : Side) (a b : Addr) (own other : SocketsView) (bag : Bag) (openings : List Opening) (trace : List Happening) (id : SocketId) (wish : View → View) → IsWish wish
    → Projects limit hs ts a b own other bag openings trace → Projects limit hs ts a b (with_socket own id (on_connection wish)) other bag openings trace
projects-wished limit hs ts a b own other bag openings trace id wish wanted h = by_found (find test own.entries) refl
  where
    test : Entry → Bool
    test = is_socket id

    change : Role → Role
    change = on_connection wish

    next : SocketsView
    next = with_socket own id change

    of_connection : (c : View) (l : Option SocketId) (i : SocketId) → find test own.entries ≡ Some (record { id = i; role = Connected c l }) → Projects limit hs ts a b next other bag openings trace
    of_connection c l i found =
        let x : Entry = record { id = i; role = Connected c l } in
        let w : View = wish c in
        let before : role_at own.entries i.0 ≡ Some (Connected c l) = found-role test own.entries x h.own_table.sole found in
        let k : IsOpened hs a openings i c = h.own_table.noted i (Connected c l) before in
        let account = told hs trace i in
        projects-moved limit hs ts a b own next other bag openings trace trace i (Some (Connected w l)) refl refl (becomes-changed test change own.entries x h.own_table.sole found)
        (λ role is. let same : Connected w l ≡ role = cc in (subst (λ r. IsNoted hs a openings i r) same (opened-kept hs a openings i c w (wanted.ends c) k), h.own_table.bound i (Connected c l) before))
        (λ j apart. refl) (λ none may. h.own_table.silent i none (inr (Connected c l, before))) (λ j. refl)
        (subst (λ r. EndGoes limit (end_with (presence_in r) account) (end_with (Present w) account)) (sym before) (wishes limit wish wanted c account)) h

    -- what has no connection stays as it was
    stays : (e : Entry) → find test own.entries ≡ Some e → change e.role ≡ e.role → Projects limit hs ts a b next other bag openings trace
    stays e found same = projects-quiet_at limit hs ts a b own other bag openings trace test change e found (ap (λ r. presence_in (Some r)) same) (λ k. subst (λ r. IsNoted hs a openings e.id r) (sym same) k) h

    of_role : (e : Entry) → find test own.entries ≡ Some e → (r : Role) → e.role ≡ r → Projects limit hs ts a b next other bag openings trace
    of_role e found (Connected c l) role = of_connection c l e.id (found ∙ ap Some (entry_with e (Connected c l) role))
    of_role e found (Listener bound backlog) role = stays e found (rw role refl)
    of_role e found (Idle buffers bound) role = stays e found (rw role refl)
    of_role e found (Datagrams bound socket) role = stays e found (rw role refl)

    by_found : (o : Option Entry) → find test own.entries ≡ o → Projects limit hs ts a b next other bag openings trace
    by_found None none = subst (λ xs. Projects limit hs ts a b (record own { entries = xs }) other bag openings trace) (sym (change-none test (with_role change) own.entries none)) h
    by_found (Some e) found = of_role e found e.role refl

pub projects-delayed : (limit : ℕ) (hs ts : Side) (a b : Addr) (own other : SocketsView) (bag : Bag) (openings : List Opening) (trace : List Happening) (id : SocketId) (on : Bool)
    → Projects limit hs ts a b own other bag openings trace → Projects limit hs ts a b (after_nodelay own id on) other bag openings trace
projects-delayed limit hs ts a b own other bag openings trace id on h = projects-wished limit hs ts a b own other bag openings trace id (λ c. after_set_nodelay c on own.kept) (record {
  same = λ c. same-clocked c (told_nodelay c on) false own.kept (record { state = refl; held = refl; una = refl; nxt = refl; readable = refl; kept = refl; rnext = refl; pending_error = refl; released = λ e. e });
  windows = λ c. unmoved c (after_set_nodelay c on own.kept) refl refl refl refl;
  ends = λ c. keeps-event c (edge.SetsNoDelay on own.kept);
}) h

pub projects-asked : (limit : ℕ) (hs ts : Side) (a b : Addr) (own other : SocketsView) (bag : Bag) (openings : List Opening) (trace : List Happening) (id : SocketId) (every : Option ℕ)
    → Projects limit hs ts a b own other bag openings trace → Projects limit hs ts a b (after_keepalive own id every) other bag openings trace
projects-asked limit hs ts a b own other bag openings trace id every h = projects-wished limit hs ts a b own other bag openings trace id (λ c. after_set_keepalive c every own.kept) (record {
  same = λ c. record { state = refl; held = refl; una = refl; nxt = refl; readable = refl; kept = refl; rnext = refl; pending_error = refl; released = λ e. e };
  windows = λ c. unmoved c (after_set_keepalive c every own.kept) refl refl refl refl;
  ends = λ c. keeps-event c (edge.SetsKeepAlive every own.kept);
}) h
