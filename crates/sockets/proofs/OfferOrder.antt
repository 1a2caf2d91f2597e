-- In which order connections are offered and accepted.
use Rattle.std.proofs.Common.{◌≡◌, ◌≤◌, ◌==◌, Bool, true, false, List, [], ◌∷◌, ◌++◌, count_by, Option, Some, Ok, refl, sym, ◌∙◌, ap, subst, arith}
use Rattle.std.specs.List.{find, list_any}
use Rattle.std.proofs.lemmas.Bool.{ne_eqb, and_parts, and_from, and_left}
use Rattle.std.proofs.lemmas.Bool.Decides.{nat_tests}
use Rattle.tcp_halves.proofs.Choices.{clash}
use Rattle.ipv4.specs.declared.addr.Endpoint.{Endpoint}
use Rattle.sockets.specs.declared.entry.SocketId.{SocketId}
use Rattle.sockets.specs.declared.entry.Entry.{Entry}
use Rattle.sockets.specs.declared.role.Role.{Role}
use Rattle.sockets.specs.declared.role.Role.TheVariants.{Listener}
use Rattle.sockets.specs.Entries.{waits_at, is_waiting_as, is_waiting_id, peer_of}
use Rattle.sockets.specs.SocketsView.{SocketsView, role_of}
use Rattle.sockets.specs.Calls.{next_offered, is_next_at, accept_answer}
use Rattle.sockets.specs.Causes.{Event, Follows, after_event}
use Rattle.sockets.specs.Traffic.{after_events}
use Rattle.sockets.specs.Order.{IsAllowed}
use Rattle.sockets.specs.Ids.{has_id}
use Rattle.sockets.specs.Offered.{AreAllowed, IsReached, is_ready, is_ready_as, is_ready_id, is_ready_at, is_id}
use Rattle.sockets.proofs.Offered.{next-test, next-none}
use Rattle.sockets.proofs.Followed.{IsNothing, by_test}
use Rattle.sockets.proofs.Opened.{found_passes}
use Rattle.sockets.proofs.OfferCounts.{by_option, one-true, one-false, count-cons, count-joined, count-found, count-any, count-no, any-counted, any-found, fewer, IsPart, Empty, Keeps, Skips, count-part, same-id}
use Rattle.sockets.proofs.OfferRoles.{is_waking}
use Rattle.sockets.proofs.OfferSteps.{IsCarried, IsJoined, Outcome, outcome}
use Rattle.sockets.proofs.OfferHeld.{IsPlainEntry, Holds, own-found, with-plain, is_waking_as, ready-or-waking, by-steps, Turns, Fewer, Last, turns, event-holds, all-hold, reached-holds}

-- One that passes SYN-RECEIVED stands last.

joins-last : (h w : SocketsView) → Holds h → Holds w → Turns h w → (id : SocketId) → is_ready_id h.entries id ≡ false → is_ready_id w.entries id ≡ true → w.offered ≡ h.offered ++ id ∷ []
joins-last h w held after (Fewer part) id before ready = absurd (omega (arith, held.each id, after.each id, count-part (is_id id) part, count-no (is_ready_as id) h.entries before, count-any (is_ready_as id) w.entries ready))
joins-last h w held after (Last new waking joined) id before ready =
    by_test (is_id id new)
    (λ it. joined ∙ ap (λ (i : SocketId). h.offered ++ i ∷ []) (same-id new id it))
    (λ other. absurd (omega (
      arith,
      held.each id,
      after.each id,
      ap (λ (ids : List SocketId). count_by (is_id id) ids) joined,
      count-joined (is_id id) h.offered new,
      one-false (is_id id new) other,
      count-no (is_ready_as id) h.entries before,
      count-any (is_ready_as id) w.entries ready,
    )))

pub joins-at-end : (h : SocketsView) (e : Event) (id : SocketId) → IsReached h → IsAllowed h e → is_ready_id h.entries id ≡ false → (let after = after_event h e in is_ready_id after.entries id ≡ true → after.offered ≡ h.offered ++ id ∷ [])
joins-at-end h e id reached allowed before ready =
    let holds = reached-holds h reached in
    let w : SocketsView = after_event h e in
    joins-last h w holds (event-holds h e allowed holds) (turns h w holds (outcome h e allowed)) id before ready

-- An order that stays.

-- behind each `y` of the list stands no `x`
abbrev IsBehind : SocketId → SocketId → List SocketId → Type 0
IsBehind x y [] = Unit {0}
IsBehind x y (z ∷ rest) = (is_id y z ≡ true → count_by (is_id x) rest ≡ 0) × IsBehind x y rest

-- it is so where there is no `y` ..
behind-none : (x y : SocketId) (ids : List SocketId) → count_by (is_id y) ids ≡ 0 → IsBehind x y ids
behind-none x y [] none = tt
behind-none x y (z ∷ rest) none = (λ it. absurd (omega (arith, count-cons (is_id y) z rest, one-true (is_id y z) it)), behind-none x y rest (omega (arith, count-cons (is_id y) z rest)))

-- .. stays so where some go ..
behind-part : (x y : SocketId) {ys xs : List SocketId} → IsPart ys xs → IsBehind x y xs → IsBehind x y ys
behind-part x y Empty behind = tt
behind-part x y (Keeps p) behind = (λ it. omega (arith, count-part (is_id x) p, behind.0 it), behind-part x y p behind.1)
behind-part x y (Skips p) behind = behind-part x y p behind.1

-- .. and where another joins
behind-joined : (x y : SocketId) (ids : List SocketId) (z : SocketId) → is_id x z ≡ false → IsBehind x y ids → IsBehind x y (ids ++ z ∷ [])
behind-joined x y [] z other behind = (λ it. refl, tt)
behind-joined x y (i ∷ rest) z other behind = (λ it. omega (arith, behind.0 it, count-joined (is_id x) rest z, one-false (is_id x z) other), behind-joined x y rest z other behind.1)

-- of two that pass, the first in the list is found
not-found : (s : SocketId → Bool) (x y : SocketId) (ids : List SocketId) → is_id x y ≡ false → s x ≡ true → 1 ≤ count_by (is_id x) ids → IsBehind x y ids → find s ids ≡ Some y → ⊥
not-found s x y [] apart passes some behind found = cc
not-found s x y (z ∷ rest) apart passes some behind found = grind (arith, nat_tests, count-cons (is_id x) z rest, one-false (is_id x z), same-id z x, behind.0, not-found s x y rest apart passes)

-- One that has passed SYN-RECEIVED is not in it again.

-- no entry of this id is in SYN-RECEIVED, nor comes to be
record IsAwake (x : SocketId) (h : SocketsView) : Type 0 where
  none : count_by (is_waking_as x) h.entries ≡ 0
  given : x.0 ≤ h.last_id

-- that stays
awake : (x : SocketId) (h w : SocketsView) → Holds h → Outcome h w → IsAwake x h → IsAwake x w
awake x h w = by-steps (IsAwake x) carried joined h w
  where
    carried : (h w : SocketsView) → Holds h → w.last_id ≡ h.last_id → Follows IsCarried IsNothing h.entries w.entries → IsAwake x h → IsAwake x w
    carried h w held last f up = record {
      none = omega (
        arith,
        up.none,
        fewer (λ a o. IsPlainEntry a × IsCarried a o) (is_waking_as x)
            (λ a b s wakes. let parts = and_parts (has_id x b) (is_waking b.role) wakes in and_from _ _ (ap (λ (i : SocketId). i.0 == x.0) (sym s.1.0) ∙ parts.0) ((s.1.1 s.0).waking parts.1)) h.entries w.entries
            (with-plain IsCarried h.entries w.entries held.plain f),
      );
      given = omega (arith, up.given, last);
    }

    joined : (h w : SocketsView) → IsJoined h w → IsAwake x h → IsAwake x w
    joined h w j up = record {
      none = rw j.entries (omega (arith, up.none, count-joined (is_waking_as x) h.entries j.new, one-false (is_waking_as x j.new) (and_left _ (is_waking j.new.role) (ne_eqb j.new.id.0 x.0 (λ is. omega (arith, up.given, j.id))))));
      given = omega (arith, up.given, j.last);
    }

-- it is so of one that is ready
ready-awake : (x : SocketId) (h : SocketsView) → Holds h → is_ready_id h.entries x ≡ true → IsAwake x h
ready-awake x h held ready =
    let some = count-any (is_ready_as x) h.entries ready in
    let there = any-found (is_ready_as x) h.entries some in
    let e : Entry = there.0 in
    let is : e.id ≡ x = same-id e.id x (and_parts (has_id x e) (is_ready e.role) (found_passes (is_ready_as x) h.entries e there.1)).0 in
    record { none = omega (arith, ready-or-waking h held x); given = subst (λ (i : SocketId). i.0 ≤ h.last_id) is (own-found h held (is_ready_as x) e there.1).1 }

-- So one that joins later stands behind one that has passed before.
order-kept : (x y : SocketId) (h w : SocketsView) → Turns h w → IsAwake x h → IsBehind x y h.offered → IsBehind x y w.offered
order-kept x y h w (Fewer part) up behind = behind-part x y part behind
order-kept x y h w (Last id waking joined) up behind =
    rw joined (behind-joined x y h.offered id (by_test (is_id x id)
    (λ it. absurd (omega (arith, waking, up.none, ap (λ (i : SocketId). count_by (is_waking_as i) h.entries) (same-id id x it)))) (λ other. other)) behind)

all-kept-order : (x y : SocketId) (h : SocketsView) (events : List Event) → AreAllowed h events → Holds h → IsAwake x h → IsBehind x y h.offered → (let w = after_events h events in IsBehind x y w.offered)
all-kept-order x y h [] allowed held up behind = behind
all-kept-order x y h (e ∷ rest) allowed held up behind =
    let w : SocketsView = after_event h e in
    let o = outcome h e allowed.0 in
    all-kept-order x y w rest allowed.1 (event-holds h e allowed.0 held) (awake x h w held o up) (order-kept x y h w (turns h w held o) up behind)

-- Accepting.

-- an accept answers what is offered next
pub accepted-next : (w : SocketsView) (l y : SocketId) (peer : Endpoint) → accept_answer w l ≡ Ok (y, peer) → next_offered w l ≡ Some y
accepted-next w l y peer answers = by_role (role_of w l) refl
  where
    by_next : (e : Entry) → find (is_next_at w l) w.entries ≡ Some e → e.id ≡ y → next_offered w l ≡ Some y
    by_next e found same =
        by_option (next_offered w l) (λ none. let nobody = next-none w l none in cc)
        (λ z next.
        let passes : is_waiting_as l z e ≡ true = ap (λ (t : Entry → Bool). t e) (sym (next-test w l z next)) ∙ found_passes (is_next_at w l) w.entries e found in
        next ∙ ap (λ (i : SocketId). Some i) (sym (same-id e.id z (and_parts (has_id z e) (waits_at l e.role) passes).0) ∙ same))

    by_role : (o : Option Role) → role_of w l ≡ o → next_offered w l ≡ Some y
    by_role (Some (Listener b n)) is =
        by_option (find (is_next_at w l) w.entries) (λ none. let bad = (rw (is, none) at answers) in cc)
        (λ e found. by_option (peer_of e.role) (λ none. let bad = (rw (is, found, none) at answers) in cc)
        (λ p is_peer.
        let given = (rw (is, found, is_peer) at answers) in
        let pair : ◌≡◌ {A = SocketId × Endpoint} (e.id, p) (y, peer) = cc in
        by_next e found (ap (λ (v : SocketId × Endpoint). v.0) pair)))
    by_role o is = let bad = (rw is at answers) in cc

-- one that is ready at a listener is offered, and waits there
pub waits-offered : (h : SocketsView) → Holds h → (listener x : SocketId) → list_any (is_ready_at listener x) h.entries ≡ true → (is_waiting_id h.entries listener x ≡ true) × (1 ≤ count_by (is_id x) h.offered)
waits-offered h held listener x ready =
    let there = any-found (is_ready_at listener x) h.entries (count-any (is_ready_at listener x) h.entries ready) in
    let e : Entry = there.0 in
    let parts = and_parts (is_ready_as x e) (waits_at listener e.role) (found_passes (is_ready_at listener x) h.entries e there.1) in (
      any-counted (is_waiting_as listener x) h.entries (count-found (is_ready_at listener x) (is_waiting_as listener x) h.entries e there.1 (and_from _ _ (and_parts (has_id x e) (is_ready e.role) parts.0).0 parts.1)),
      omega (arith, held.each x, count-found (is_ready_at listener x) (is_ready_as x) h.entries e there.1 parts.0),
    )

pub accepted-in-order : (h : SocketsView) (events : List Event) (listener x y : SocketId) (peer : Endpoint) → IsReached h → AreAllowed h events → is_ready_id h.entries x ≡ true → is_ready_id h.entries y ≡ false
    → (let later = after_events h events in accept_answer later listener ≡ Ok (y, peer) → list_any (is_ready_at listener x) later.entries ≡ false)
accepted-in-order h events listener x y peer reached allowed ready unready accepts = by_test (list_any (is_ready_at listener x) w.entries) (λ still. absurd (earlier still)) (λ e. e)
  where
    w : SocketsView
    w = after_events h events

    held : Holds h
    held = reached-holds h reached

    apart : is_id x y ≡ false
    apart = by_test (is_id x y) (λ it. clash (is_ready_id h.entries y) (ap (is_ready_id h.entries) (same-id y x it) ∙ ready) unready) (λ e. e)

    behind : IsBehind x y w.offered
    behind = all-kept-order x y h events allowed held (ready-awake x h held ready) (behind-none x y h.offered (held.each y ∙ count-no (is_ready_as y) h.entries unready))

    earlier : list_any (is_ready_at listener x) w.entries ≡ true → ⊥
    earlier still =
        let there = waits-offered w (all-hold h events allowed held) listener x still in
        not-found (is_waiting_id w.entries listener) x y w.offered apart there.0 there.1 behind (accepted-next w listener y peer accepts)
