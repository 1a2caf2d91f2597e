-- A hard error that a host is told of is a move of the one pairing whose SYN it tells of, which stops there, or changes nothing.
use Rattle.std.proofs.Common.{◌≡◌, ℕ, inr, Bool, true, false, cond, if◌then◌else◌, List, Option, Some, None, refl, sym, ◌∙◌, ap, subst}
use Rattle.std.specs.List.{find}
use Rattle.ipv4.specs.declared.addr.Addr.{Addr}
use Rattle.ipv4.specs.declared.addr.Endpoint.{Endpoint}
use Rattle.tcp_state.specs.Edges as edge
use Rattle.tcp_state.specs.declared.connection.Fate.TheVariants.{Stays, Removed}
use Rattle.tcp_state.specs.View.{View, is_over}
use Rattle.tcp_state.specs.Unreachable.{is_unreachable, after_unreachable, unreachable_fate}
use Rattle.sockets.specs.declared.entry.SocketId.{SocketId}
use Rattle.sockets.specs.declared.entry.Entry.{Entry}
use Rattle.sockets.specs.declared.role.Role.{Role}
use Rattle.sockets.specs.declared.role.Role.TheVariants.{Idle, Listener, Connected, Datagrams}
use Rattle.sockets.specs.Entries.{is_between, is_live_between, is_kept, role_after_unreachable, entries_after_step}
use Rattle.sockets.specs.SocketsView.{SocketsView}
use Rattle.sockets.specs.Unreachable as table_errors
use Rattle.sockets.proofs.KeptEnds.{keeps-event}
use Rattle.stream_law.specs.Pairing.{Pairing, Present, Departed}
use Rattle.window_law.specs.Windows.{Talks}
use Rattle.window_law.proofs.Quiet.{stops, leaves}
use Rattle.stream_law.proofs.PairingEndings.{stops-unreachable}
use Rattle.sides.specs.declared.side.Side.{Side}
use Rattle.wire_sim.specs.declared.event.Opening.{Opening}
use Rattle.wire_sim.specs.declared.event.Happening.{Happening}
use Rattle.wire_sim.proofs.lists.FoundAfterChange.{find-passes}
use Rattle.wire_sim.proofs.tables.EntryChanges.{opened-kept}
use Rattle.wire_sim.proofs.tables.TableById.{Account, role_at, found-role, becomes-settled, settle, presence_in, end_with, IsOpened, IsNoted, entry_with}
use Rattle.wire_sim.proofs.pairing.CallsAreMoves.{projects-moved}
use Rattle.wire_sim.proofs.pairing.EndMoves.{pairing, EndGoes, moved}
use Rattle.wire_sim.proofs.pairing.WorldAsPairings.{told, Bag, Projects}

-- what is left of the connection that is told of it
errs : (limit : ℕ) (number : ℕ) (c : View) (l : Option SocketId) (t : Account) → EndGoes limit (end_with (Present c) t) (end_with (presence_in (settle (unreachable_fate c number) (role_after_unreachable number) (Connected c l))) t)
errs limit number c l t there out arrived = by_fate (is_over (after_unreachable c number))
  where
    was : Pairing
    was = pairing (end_with (Present c) t) there out arrived

    by_number : (b : Bool) → is_unreachable c number ≡ b → Talks limit was → Talks limit (pairing (end_with (Present (after_unreachable c number)) t) there out arrived)
    by_number true hit met = moved limit was (pairing (end_with (Present (after_unreachable c number)) t) there out arrived) (stops limit was c (after_unreachable c number) t.closed refl (stops-unreachable c number hit) (λ e. e)) met
    by_number false miss met = let same : after_unreachable c number ≡ c = rw miss in subst (λ w. Talks limit (pairing (end_with (Present w) t) there out arrived)) (sym same) met

    by_fate : (b : Bool) → Talks limit was → Talks limit (pairing (end_with (presence_in (cond (is_kept (if b then Removed else Stays)) (Some (Connected (after_unreachable c number) l)) None)) t) there out arrived)
    by_fate true met = moved limit was (pairing (end_with Departed t) there out arrived) (leaves limit was c t.closed refl (λ e. e)) met
    by_fate false met = by_number (is_unreachable c number) refl met

-- Whatever the two ends and the number are that an error tells of.
pub projects-told : (limit : ℕ) (hs ts : Side) (a b : Addr) (own other : SocketsView) (bag : Bag) (openings : List Opening) (trace : List Happening) (local peer : Endpoint) (number : ℕ)
    → Projects limit hs ts a b own other bag openings trace → Projects limit hs ts a b (table_errors.after_unreachable own local peer number) other bag openings trace
projects-told limit hs ts a b own other bag openings trace local peer number h = by_found (find test own.entries) refl
  where
    test : Entry → Bool
    test = is_between local peer

    Shown : Type 0
    Shown = Projects limit hs ts a b (table_errors.after_unreachable own local peer number) other bag openings trace

    kept : (b : Bool) (q role : Role) → cond b (Some q) None ≡ Some role → q ≡ role
    kept true q role e = cc
    kept false q role e = cc

    of_connection : (c : View) (l : Option SocketId) (id : SocketId) → find test own.entries ≡ Some (record { id = id; role = Connected c l }) → Shown
    of_connection c l id found =
        let x : Entry = record { id = id; role = Connected c l } in
        let fate = unreachable_fate c number in
        let next : SocketsView = record own { entries = entries_after_step fate test (role_after_unreachable number) own.entries } in
        let becomes : table_errors.after_unreachable own local peer number ≡ next = rw found in
        let before : role_at own.entries id.0 ≡ Some (Connected c l) = found-role test own.entries x h.own_table.sole found in
        let k : IsOpened hs a openings id c = h.own_table.noted id (Connected c l) before in
        let account = told hs trace id in
        subst (λ w. Projects limit hs ts a b w other bag openings trace) (sym becomes)
        (projects-moved limit hs ts a b own next other bag openings trace trace id (settle fate (role_after_unreachable number) (Connected c l)) refl refl
        (becomes-settled fate test (role_after_unreachable number) own.entries x h.own_table.sole found)
        (λ role is. (subst (λ q. IsNoted hs a openings id q) (kept (is_kept fate) (Connected (after_unreachable c number) l) role is) (opened-kept hs a openings id c (after_unreachable c number) (keeps-event c (edge.Unreachable number)) k), h.own_table.bound id (Connected c l) before))
        (λ i apart. refl) (λ none may. h.own_table.silent id none (inr (Connected c l, before))) (λ i. refl)
        (subst (λ r. EndGoes limit (end_with (presence_in r) account) (end_with (presence_in (settle fate (role_after_unreachable number) (Connected c l))) account)) (sym before) (errs limit number c l account)) h)

    -- only a connection lies between two ends
    of_role : (e : Entry) → find test own.entries ≡ Some e → (r : Role) → e.role ≡ r → Shown
    of_role e found (Connected c l) role = of_connection c l e.id (found ∙ ap Some (entry_with e (Connected c l) role))
    of_role e found (Listener bound backlog) role = let bad : false ≡ true = sym (ap (is_live_between local peer) role) ∙ find-passes test own.entries e found in cc
    of_role e found (Idle buffers bound) role = let bad : false ≡ true = sym (ap (is_live_between local peer) role) ∙ find-passes test own.entries e found in cc
    of_role e found (Datagrams bound socket) role = let bad : false ≡ true = sym (ap (is_live_between local peer) role) ∙ find-passes test own.entries e found in cc

    by_found : (o : Option Entry) → find test own.entries ≡ o → Shown
    by_found None none = let same : table_errors.after_unreachable own local peer number ≡ own = rw none in subst (λ w. Projects limit hs ts a b w other bag openings trace) (sym same) h
    by_found (Some e) found = of_role e found e.role refl
