-- What gives way leaves room.
use Rattle.std.proofs.Common.{◌≡◌, ◌≢◌, ◌⊎◌, inl, inr, ℕ, ◌+◌, ◌^◌, ◌<◌, ◌≤◌, ◌==◌, not, nat_le, Bool, true, false, List, [], ◌∷◌, length, count_by, Option, Some, None, refl, sym, ◌∙◌, ap, subst, arith}
use Rattle.std.specs.List.{find}
use Rattle.std.proofs.lemmas.Bool.{eqb-true, leb-true}
use Rattle.ipv4.specs.declared.addr.Addr.{Addr}
use Rattle.ipv4.specs.Addresses.{pair_of}
use Rattle.tcp_segment.specs.Segment.{Segment}
use Rattle.tcp_segment.specs.declared.head.Head.{Head}
use Rattle.tcp_state.specs.Asking.{is_rejection}
use Rattle.tcp_halves.proofs.Choices.{and_left, and_right}
use Rattle.sockets.specs.declared.entry.SocketId.{SocketId}
use Rattle.sockets.specs.declared.entry.Entry.{Entry}
use Rattle.sockets.specs.declared.role.Role.{Role}
use Rattle.sockets.specs.declared.role.Role.TheVariants.{Connected, Listener, Idle, Datagrams}
use Rattle.sockets.specs.declared.needs.Need.{Need}
use Rattle.sockets.specs.declared.needs.Need.TheVariants.{Backlog, Table, Memory, Reply}
use Rattle.sockets.specs.Arrival.{is_opening, local_end, peer_end, pair_opened}
use Rattle.sockets.specs.Calls.{is_table_full}
use Rattle.sockets.specs.Entries.{is_between, is_listening_at, is_waiting_at, backlog_of, fate_of}
use Rattle.sockets.specs.GiveWay.{may_give_way, gives_way, after_giving_way, gives_places, way_for, way_for_socket, IsOpenedAnew, IsForPlace, IsGivenFor}
use Rattle.sockets.specs.Ids.{has_id}
use Rattle.sockets.specs.Lists.{remove_first}
use Rattle.sockets.specs.Needs.{is_backlog_full, need, need_alone, need_at, need_of_answer}
use Rattle.sockets.specs.Replies.{answer_to, answer_at_listener}
use Rattle.sockets.specs.Offered.{IsReached, KeepsBacklogs, OffersReady}
use Rattle.sockets.specs.Order.{IsOrdered}
use Rattle.sockets.specs.SocketsView.{SocketsView}
use Rattle.sockets.proofs.Ends.{eqb-same}
use Rattle.sockets.proofs.Followed.{by_test}
use Rattle.sockets.proofs.GivenWay.{found_by_id, meant_by_id, longest_may, segment_given, socket_given}
use Rattle.sockets.proofs.OfferCounts.{one, one-true, by_option, count-removed, count-found, all-found}
use Rattle.sockets.proofs.OfferHeld.{backlogs-kept, ready-offered}
use Rattle.sockets.proofs.OneEvent.{ids_once}
use Rattle.sockets.proofs.Opened.{found_passes}
use Rattle.sockets.proofs.Ordering.{count_unfound}
use Rattle.sockets.proofs.OthersReady.{find_removed}
use Rattle.sockets.proofs.Steps.{entry}

-- where none is counted, none is found
uncounted : (test : Entry → Bool) (xs : List Entry) → count_by test xs ≡ 0 → find test xs ≡ None
uncounted test xs none = by_option (find test xs) (λ no. no) (λ x found. absurd (omega (arith, count-found test test xs x found (found_passes test xs x found), none)))

length_removed : (test : Entry → Bool) (xs : List Entry) (x : Entry) → find test xs ≡ Some x → length xs ≡ length (remove_first test xs) + 1
length_removed test [] x found = cc
length_removed test (y ∷ ys) x found =
    by_test (test y)
    (λ here. rw here (omega arith))
    (λ there. let later : find test ys ≡ Some x = rw there at found in let rest : length ys ≡ length (remove_first test ys) + 1 = length_removed test ys x later in rw there (omega (arith, rest)))

-- what may give way listens at no port
listens_nowhere : (port : ℕ) (x : Entry) → may_give_way x ≡ true → is_listening_at port x ≡ false
listens_nowhere port x may = by_role x.id x.role may
  where
    by_role : (id : SocketId) (r : Role) → may_give_way (entry id r) ≡ true → is_listening_at port (entry id r) ≡ false
    by_role id (Connected c l) may = refl
    by_role id (Listener local backlog) may = cc
    by_role id (Idle buffers bound) may = cc
    by_role id (Datagrams bound socket) may = cc

not_less : (a b : ℕ) → b < a → nat_le a b ≡ false
not_less a b less = by_test (nat_le a b) (λ yes. absurd (omega (arith, leb-true a b yes, less))) (λ no. no)

unequal : (a b : ℕ) → a < b → (a == b) ≡ false
unequal a b less = by_test (a == b) (λ same. absurd (omega (arith, eqb-true a b same, less))) (λ no. no)

module _ (h : SocketsView) (o : IsOrdered h) (x : Entry) (there : find (has_id x.id) h.entries ≡ Some x) (may : may_give_way x ≡ true) where
  abbrev pub left : SocketsView
  left = after_giving_way h (has_id x.id)

  found : find (gives_way (has_id x.id)) h.entries ≡ Some x
  found = meant_by_id h.entries x there may 0 h.last_id o.ids

  counted : (test : Entry → Bool) → count_by test h.entries ≡ count_by test left.entries + one (test x)
  counted test = count-removed test (gives_way (has_id x.id)) h.entries x found

  pub gone : find (has_id x.id) left.entries ≡ None
  gone =
      let only : count_by (has_id x.id) h.entries ≤ 1 = ids_once x.id.0 (has_id x.id) (λ y named. eqb-true y.id.0 x.id.0 named) 0 h.last_id h.entries o.ids in
      uncounted (has_id x.id) left.entries (omega (arith, only, counted (has_id x.id), one-true (has_id x.id x) (eqb-same x.id.0)))

  fewer : length h.entries ≡ length left.entries + 1
  fewer = length_removed (gives_way (has_id x.id)) h.entries x found

  listener_stays : (port : ℕ) → find (is_listening_at port) left.entries ≡ find (is_listening_at port) h.entries
  listener_stays port = find_removed (gives_way (has_id x.id)) (is_listening_at port) h.entries x found (listens_nowhere port x may)

  pub place_left : length h.entries ≤ h.sizes.entries → (h.last_id + 1 == 2 ^ 64) ≡ false → is_table_full left ≡ false
  place_left few id =
      let less : (length left.entries == left.sizes.entries) ≡ false = unequal (length left.entries) left.sizes.entries (omega (arith, few, fewer)) in rw (less, id) refl

  module _ (few : length h.entries ≤ h.sizes.entries) (id : (h.last_id + 1 == 2 ^ 64) ≡ false) (source : Addr) (s : Segment) (opens : is_opening s.flags ≡ true) (listener : Entry) (listens : find (is_listening_at s.destination) h.entries ≡ Some listener) where
    roomy : find (is_between (local_end h s) (peer_end source s)) left.entries ≡ None → count_by (is_waiting_at listener.id) left.entries < backlog_of listener.role → need left source s ≡ Some Memory
    roomy none less =
        let at : find (is_listening_at s.destination) left.entries ≡ Some listener = listener_stays s.destination ∙ listens in
        let backlog : is_backlog_full left listener ≡ false = not_less (backlog_of listener.role) (count_by (is_waiting_at listener.id) left.entries) less in
        let table : is_table_full left ≡ false = place_left few id in
        rw (none, at, opens, backlog, table) refl

    pub anew : IsOpenedAnew h source s listener x → need left source s ≡ Some Memory
    anew it =
        let P = is_between (local_end h s) (peer_end source s) in
        let only : count_by P h.entries ≤ 1 = o.ends (local_end h s) (peer_end source s) in
        let none : find P left.entries ≡ None = uncounted P left.entries (omega (arith, only, counted P, one-true (P x) (found_passes P h.entries x it.between))) in
        roomy none (omega (arith, it.backlog, counted (is_waiting_at listener.id)))

    pub placed : KeepsBacklogs h → find (is_between (local_end h s) (peer_end source s)) h.entries ≡ None → IsForPlace h listener x → need left source s ≡ Some Memory
    placed keeps none it =
        let P = is_between (local_end h s) (peer_end source s) in
        let still : find P left.entries ≡ None = uncounted P left.entries (omega (arith, count_unfound P h.entries none, counted P)) in
        elim it.which [
          | inl oldest ↦
              let within : count_by (is_waiting_at listener.id) h.entries ≤ backlog_of listener.role = all-found (λ (e : Entry). count_by (is_waiting_at e.id) h.entries ≤ backlog_of e.role) (is_listening_at s.destination) h.entries listener keeps listens in
              let waits : is_waiting_at listener.id x ≡ true = and_left (is_waiting_at listener.id x) _ oldest.waits in
              roomy still (omega (arith, within, counted (is_waiting_at listener.id), one-true (is_waiting_at listener.id x) waits))
          | inr longest ↦ roomy still (omega (arith, longest.1, counted (is_waiting_at listener.id)))
        ]

-- an id is left
id_left : (h : SocketsView) → gives_places h ≡ true → (h.last_id + 1 == 2 ^ 64) ≡ false
id_left h gives = by_test (h.last_id + 1 == 2 ^ 64) (λ last. let bad : false ≡ true = rw last at (and_right h.manner.guards (not (h.last_id + 1 == 2 ^ 64)) gives) in cc) (λ no. no)

gives_to : (h : SocketsView) (source : Addr) (s : Segment) (id : SocketId) → way_for h source s ≡ Some id → gives_places h ≡ true
gives_to h source s id way = by_test (gives_places h) (λ yes. yes) (λ no. let bad : None ≡ Some id = rw no at way in cc)

gives_to_socket : (h : SocketsView) (id : SocketId) → way_for_socket h ≡ Some id → gives_places h ≡ true
gives_to_socket h id way = by_test (gives_places h) (λ yes. yes) (λ no. let bad : None ≡ Some id = rw no at way in cc)

pub unremoved : (test : Entry → Bool) (xs : List Entry) → find test xs ≡ None → remove_first test xs ≡ xs
unremoved test [] none = refl
unremoved test (y ∷ ys) none =
    by_test (test y)
    (λ yes. let bad : Some y ≡ None = rw yes at none in cc)
    (λ no. let later : find test ys ≡ None = rw no at none in rw no (ap (λ zs. y ∷ zs) (unremoved test ys later)))

pub others_stay : (h : SocketsView) (id other : SocketId) → other.0 ≢ id.0 → find (has_id other) (let w = after_giving_way h (has_id id) in w.entries) ≡ find (has_id other) h.entries
others_stay h id other apart =
    by_option (find (gives_way (has_id id)) h.entries)
    (λ none. ap (find (has_id other)) (unremoved (gives_way (has_id id)) h.entries none))
    (λ x found. find_removed (gives_way (has_id id)) (has_id other) h.entries x found
    (by_test (x.id.0 == other.0) (λ same. let named : x.id.0 ≡ id.0 = eqb-true x.id.0 id.0 (and_left (has_id id x) (may_give_way x) (found_passes (gives_way (has_id id)) h.entries x found)) in absurd (apart (sym (eqb-true x.id.0 other.0 same) ∙ named))) (λ no. no)))

-- one that may not stays
pub other_stays : (h : SocketsView) (x : Entry) → IsOrdered h → find (has_id x.id) h.entries ≡ Some x → may_give_way x ≡ false → after_giving_way h (has_id x.id) ≡ h
other_stays h x o there may =
    by_option (find Q h.entries)
    (λ none. ap (λ (es : List Entry). let w : SocketsView = record h { entries = es } in w) (unremoved Q h.entries none))
    (λ y found.
    let passes : Q y ≡ true = found_passes Q h.entries y found in
    let named : y.id.0 ≡ x.id.0 = eqb-true y.id.0 x.id.0 (and_left (has_id x.id y) (may_give_way y) passes) in
    let its : find (has_id y.id) h.entries ≡ Some y = found_by_id Q 0 h.last_id h.entries y o.ids found in
    let same : ◌≡◌ {A = Option Entry} (Some y) (Some x) = sym its ∙ (ap (λ (n : ℕ). find (λ (e : Entry). e.id.0 == n) h.entries) named ∙ there) in
    let is : y ≡ x = cc in
    let bad : true ≡ false = sym (and_right (has_id x.id y) (may_give_way y) passes) ∙ (ap may_give_way is ∙ may) in
    cc)
  where
    Q : Entry → Bool
    Q = gives_way (has_id x.id)

pub segment_placed : (h : SocketsView) (source : Addr) (s : Segment) (id : SocketId) → IsOrdered h → IsReached h → way_for h source s ≡ Some id → need (after_giving_way h (has_id id)) source s ≡ Some Memory
segment_placed h source s id o reached way =
    let keeps : KeepsBacklogs h = backlogs-kept h reached in
    let offers : OffersReady h = ready-offered h reached in
    let few : length h.entries ≤ h.sizes.entries = offers.few in
    let it = segment_given h source s id o way in
    let left_id = id_left h (gives_to h source s id way) in
    let g = it.2 in
    subst (λ (i : SocketId). need (after_giving_way h (has_id i)) source s ≡ Some Memory) it.1 (by_way keeps few it.0 g left_id g.which)
  where
    by_way : KeepsBacklogs h → length h.entries ≤ h.sizes.entries → (x : Entry) (g : IsGivenFor h source s x) → (h.last_id + 1 == 2 ^ 64) ≡ false → IsOpenedAnew h source s g.listener x ⊎ ((find (is_between (local_end h s) (peer_end source s)) h.entries ≡ None) × IsForPlace h g.listener x) → need (after_giving_way h (has_id x.id)) source s ≡ Some Memory
    by_way keeps few x g left_id (inr (none, place)) = placed h o x g.there g.may few left_id source s g.opens g.listener g.listens keeps none place
    by_way keeps few x g left_id (inl again) = anew h o x g.there g.may few left_id source s g.opens g.listener g.listens again

pub socket_placed : (h : SocketsView) (id : SocketId) → IsOrdered h → way_for_socket h ≡ Some id → is_table_full (after_giving_way h (has_id id)) ≡ false
socket_placed h id o way =
    let it = socket_given h id o way in
    let g = it.2 in
    subst (λ (i : SocketId). is_table_full (after_giving_way h (has_id i)) ≡ false) it.1 (place_left h o it.0 g.there (longest_may h it.0 g.longest) (omega (arith, g.full)) (id_left h (gives_to_socket h id way)))

-- A segment opens the pair of its two ends where all that it needs is memory.

pub opened_by_need : (h : SocketsView) (source : Addr) (s : Segment) → need h source s ≡ Some Memory → pair_opened h source s ≡ Some (pair_of (local_end h s) (peer_end source s))
opened_by_need h source s needs = by_entry (find (is_between (local_end h s) (peer_end source s)) h.entries) refl
  where
    Opens : Type 0
    Opens = pair_opened h source s ≡ Some (pair_of (local_end h s) (peer_end source s))

    no_reply : (answer : Option Head) → need_of_answer answer ≡ Some Memory → Opens
    no_reply None is = cc
    no_reply (Some head) is = cc

    at_listener : find (is_between (local_end h s) (peer_end source s)) h.entries ≡ None → (listener : Entry) → find (is_listening_at s.destination) h.entries ≡ Some listener → is_opening s.flags ≡ true → need_at h listener ≡ Memory → Opens
    at_listener none listener listens opens memory =
        by_test (is_backlog_full h listener)
        (λ full. let bad : Backlog ≡ Memory = rw full at memory in cc)
        (λ place.
        by_test (is_table_full h)
        (λ full. let bad : Table ≡ Memory = rw (place, full) at memory in cc)
        (λ room. rw (none, opens, listens, place, room) refl))

    by_listener : find (is_between (local_end h s) (peer_end source s)) h.entries ≡ None → (o : Option Entry) → find (is_listening_at s.destination) h.entries ≡ o → need_alone h s ≡ Some Memory → Opens
    by_listener none None no_listener needs = no_reply (answer_to s) (rw no_listener at needs)
    by_listener none (Some listener) listens needs =
        by_test (is_opening s.flags)
        (λ opens. let its : ◌≡◌ {A = Option Need} (Some (need_at h listener)) (Some Memory) = rw (listens, opens) at needs in at_listener none listener listens opens cc)
        (λ other. no_reply (answer_at_listener s) (rw (listens, other) at needs))

    by_entry : (o : Option Entry) → find (is_between (local_end h s) (peer_end source s)) h.entries ≡ o → Opens
    by_entry None none = by_listener none (find (is_listening_at s.destination) h.entries) refl (rw none at needs)
    by_entry (Some e) found =
        by_test (is_rejection (fate_of s e.role))
        (λ rejects. let bad : Some Reply ≡ Some Memory = rw (found, rejects) at needs in cc)
        (λ takes. let bad : None ≡ Some Memory = rw (found, takes) at needs in cc)
