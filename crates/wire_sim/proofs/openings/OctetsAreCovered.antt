-- The law of the stream covers every connection, and every octet that went through a socket.
use Rattle.std.proofs.Common.{◌≡◌, ℕ, zero, suc, ◌==◌, ◌&&◌, ◌||◌, inl, inr, Bool, true, false, cond, List, [], ◌∷◌, ◌++◌, length, take, Option, Some, None, refl, sym, ◌∙◌, ap, subst}
use Rattle.std.specs.List.{find, slice_get}
use Rattle.std.proofs.lemmas.Bool.{and_parts}
use Rattle.std.proofs.lemmas.List.{append-nil}
use Rattle.tcp_state.specs.View.{View}
use Rattle.clock.specs.declared.moment.Moment.{Moment}
use Rattle.sockets.specs.declared.entry.SocketId.{SocketId}
use Rattle.sockets.specs.declared.entry.Entry.{Entry}
use Rattle.sockets.specs.declared.role.Role.TheVariants.{Connected}
use Rattle.sockets.specs.Calls.{send_answer, after_send}
use Rattle.sockets.specs.Entries.{is_socket}
use Rattle.sockets.specs.SocketsView.{SocketsView}
use Rattle.ipv4.specs.declared.addr.Addr.{Addr}
use Rattle.interface.specs.Ways.{is_routed}
use Rattle.host.specs.HostView.{HostView}
use Rattle.sides.specs.declared.side.Side.{Side}
use Rattle.sides.specs.declared.side.Side.TheVariants.{A, B}
use Rattle.wire_sim.specs.declared.event.Call.{Call}
use Rattle.wire_sim.specs.declared.event.Call.TheVariants as call
use Rattle.wire_sim.specs.declared.event.Event.{Event}
use Rattle.wire_sim.specs.declared.event.Event.TheVariants as event
use Rattle.wire_sim.specs.declared.event.Answer.{Answer}
use Rattle.wire_sim.specs.declared.event.Answer.TheVariants as reply
use Rattle.wire_sim.specs.declared.event.Opening.{Opening}
use Rattle.wire_sim.specs.declared.event.Happening.{Happening}
use Rattle.wire_sim.specs.declared.world.bag.Frame.{Frame}
use Rattle.wire_sim.specs.declared.world.bag.Note.{Note}
use Rattle.wire_sim.specs.Coverage.{IsListed, EveryConnectionIsListed, AtMostOne, EveryOpeningIsUnique, IsCovered, EveryOctetIsCovered}
use Rattle.wire_sim.specs.Openings.{opened_by_connect, opened_by_frame}
use Rattle.wire_sim.specs.Runs.{IsReached}
use Rattle.wire_sim.specs.Runs as runs
use Rattle.sides.specs.Sides.{same_side, other_side}
use Rattle.wire_sim.specs.Steps.{with_station, with_host, with_opening, after_call, after_delivery, station_after_tick, recv_len, MeetsCall, MeetsEmission, DeliversFrame, Steps}
use Rattle.wire_sim.specs.Tallies.{is_opening_of, is_opening_at, same_pair}
use Rattle.wire_sim.specs.Trace.{sent_on, read_on, closed_on, ended_on, of_opening}
use Rattle.wire_sim.specs.WorldView.{NetworkView, WorldView, station_of, host_of, table_of}
use Rattle.wire_sim.proofs.tables.CallsOnTable.{outcome, sends-on}
use Rattle.wire_sim.proofs.lists.FoundAfterChange.{IsSole, find-passes, found-sole}
use Rattle.wire_sim.proofs.tables.PairOfPorts.{same_pair-same}
use Rattle.wire_sim.proofs.pairing.CallsAreMoves.{recv_outcome}
use Rattle.wire_sim.proofs.tables.TableById.{has_id, found-role, eqb-same, same_id, IsOpened, IsLedger}
use Rattle.wire_sim.proofs.told.TraceAndOneMore.{answered, sent_on-added, read_on-added, ended_on-added, sent_by-send, read_by-recv, ended_by-recv, other-quiet, sent_of, read_of, ended_of}
use Rattle.wire_sim.proofs.runs.RunsAreLawful.{IsOrderly, orderly, orderly-swapped, openings-with}

-- Lists.

-- what stands in a list and passes is not missed
not-missed-at : {X : Type 0} (t : X → Bool) (xs : List X) (i : ℕ) (x : X) → slice_get xs i ≡ Some x → t x ≡ true → find t xs ≡ None → ⊥
not-missed-at {X} t xs i x = go xs i
  where
    here : (y : X) (o : Option X) (b : Bool) → t y ≡ b → y ≡ x → t x ≡ true → cond b (Some y) o ≡ None → ⊥
    here y o true is same passes none = cc
    here y o false is same passes none = let bad : true ≡ false = sym passes ∙ (ap t (sym same) ∙ is) in cc

    there : (y : X) (o : Option X) → (o ≡ None → ⊥) → (b : Bool) → cond b (Some y) o ≡ None → ⊥
    there y o more true none = cc
    there y o more false none = more none

    go : (xs : List X) (i : ℕ) → slice_get xs i ≡ Some x → t x ≡ true → find t xs ≡ None → ⊥
    go [] i at passes none = cc
    go (y ∷ ys) zero at passes none = let same : y ≡ x = cc in here y (find t ys) (t y) refl same passes none
    go (y ∷ ys) (suc i) at passes none = there y (find t ys) (λ n. go ys i at passes n) (t y) none

-- where one passes at most, it is the one that is found
found-at : {X : Type 0} (t : X → Bool) (xs : List X) (i : ℕ) (x : X) → IsSole t xs → slice_get xs i ≡ Some x → t x ≡ true → find t xs ≡ Some x
found-at {X} t xs i x = go xs i
  where
    step : (y : X) (ys : List X) → (find t ys ≡ None → ⊥) → find t ys ≡ Some x → (b : Bool) → (b ≡ true → find t ys ≡ None) → cond b (Some y) (find t ys) ≡ Some x
    step y ys there rest true sole = absurd (there (sole refl))
    step y ys there rest false sole = rest

    go : (xs : List X) (i : ℕ) → IsSole t xs → slice_get xs i ≡ Some x → t x ≡ true → find t xs ≡ Some x
    go [] i sole at passes = cc
    go (y ∷ ys) zero sole at passes = let same : y ≡ x = cc in ap (λ b. cond b (Some y) (find t ys)) (ap t same ∙ passes) ∙ ap Some same
    go (y ∷ ys) (suc i) sole at passes = step y ys (not-missed-at t ys i x at passes) (go ys i sole.1 at passes) (t y) sole.0

-- and two that pass stand at one place
one-place : (t : Opening → Bool) (xs : List Opening) → IsSole t xs → AtMostOne t xs
one-place t [] sole i j o p at_i at_j passes_o passes_p = cc
one-place t (x ∷ xs) sole zero zero o p at_i at_j passes_o passes_p = refl
one-place t (x ∷ xs) sole zero (suc j) o p at_i at_j passes_o passes_p = let same : x ≡ o = cc in absurd (not-missed-at t xs j p at_j passes_p (sole.0 (ap t same ∙ passes_o)))
one-place t (x ∷ xs) sole (suc i) zero o p at_i at_j passes_o passes_p = let same : x ≡ p = cc in absurd (not-missed-at t xs i o at_i passes_o (sole.0 (ap t same ∙ passes_p)))
one-place t (x ∷ xs) sole (suc i) (suc j) o p at_i at_j passes_o passes_p = ap suc (one-place t xs sole.1 i j o p at_i at_j passes_o passes_p)

-- what is not found in a longer list is not in a shorter one
not-before : {X : Type 0} (t : X → Bool) (xs ys : List X) → find t (xs ++ ys) ≡ None → find t xs ≡ None
not-before {X} t xs ys = go xs
  where
    step : (x : X) (o p : Option X) → (o ≡ None → p ≡ None) → (b : Bool) → cond b (Some x) o ≡ None → cond b (Some x) p ≡ None
    step x o p more true none = cc
    step x o p more false none = more none

    go : (xs : List X) → find t (xs ++ ys) ≡ None → find t xs ≡ None
    go [] none = refl
    go (x ∷ xs) none = step x (find t (xs ++ ys)) (find t xs) (go xs) (t x) none

-- The openings of a world that was reached.

-- an opening that is found by its socket is found by its pair and epoch
pub both-ways : (side : Side) (os : List Opening) (id : SocketId) (o : Opening) → IsLedger os → find (is_opening_at side id) os ≡ Some o → find (is_opening_of side o.pair o.epoch) os ≡ Some o
both-ways side os id o ledger found =
    let at = and_parts (same_side o.side side) (o.id.0 == id.0) (find-passes (is_opening_at side id) os o found) in
    found-sole (is_opening_at side id) (is_opening_of side o.pair o.epoch) os o found
    (ap (λ b. b && same_pair o.pair o.pair && (o.epoch == o.epoch)) at.0 ∙ (ap (λ b. b && (o.epoch == o.epoch)) (same_pair-same o.pair) ∙ eqb-same o.epoch)) (ledger.by_epoch side o.pair o.epoch)

-- a connection in a table is listed
listed : (limit : ℕ) (hs ts : Side) (n : NetworkView) (trace : List Happening) → IsOrderly limit hs ts n trace → (place : ℕ) (id : SocketId) (c : View) (l : Option SocketId)
    → slice_get (let h = table_of n hs in h.entries) place ≡ Some (record { id = id; role = Connected c l }) → IsListed hs n.openings id c
listed limit hs ts n trace w place id c l at =
    let h = table_of n hs in
    let e : Entry = record { id = id; role = Connected c l } in
    let table = w.projects.own_table in
    let found = found-at (has_id id.0) h.entries place e (table.sole id.0) at (eqb-same id.0) in
    let opened : IsOpened hs w.a n.openings id c = table.noted id (Connected c l) (found-role (has_id id.0) h.entries e table.sole found) in
    record { opening = opened.opening; by_id = opened.at; pair = opened.pair; by_epoch = both-ways hs n.openings id opened.opening w.projects.ledger opened.at }

pub connections-listed : EveryConnectionIsListed
connections-listed limit w reached A place id c l at = listed limit A B w.network w.trace (orderly limit w reached) place id c l at
connections-listed limit w reached B place id c l at = listed limit B A w.network w.trace (orderly-swapped limit A B w.network w.trace (orderly limit w reached)) place id c l at

pub openings-unique : EveryOpeningIsUnique
openings-unique limit w reached side =
    let o = orderly limit w reached in
    (λ id. one-place (is_opening_at side id) w.network.openings (o.projects.ledger.by_id side id), λ pair epoch. one-place (is_opening_of side pair epoch) w.network.openings (o.projects.ledger.by_epoch side pair epoch))

-- What a network's openings grow by.

pub record Grows (n m : NetworkView) : Type 0 where
  pub more : List Opening
  pub openings : m.openings ≡ n.openings ++ more

grows-not : (n m : NetworkView) → m.openings ≡ n.openings → Grows n m
grows-not n m same = record { more = []; openings = same ∙ sym (append-nil n.openings) }

-- one opening, or none
abbrev pub as_list : Option Opening → List Opening
as_list None = []
as_list (Some o) = o ∷ []

pub opens : (n : NetworkView) (o : Option Opening) → (let m = with_opening n o in m.openings) ≡ n.openings ++ as_list o
opens n None = sym (append-nil n.openings)
opens n (Some o) = refl

grows-host : (n : NetworkView) (side : Side) (h : HostView) → Grows n (with_host n side h)
grows-host n side h = grows-not n (with_host n side h) (openings-with n side (let s = station_of n side in record s { host = h }))

grows-opened : (n : NetworkView) (side : Side) (h : HostView) (o : Option Opening) → Grows n (with_opening (with_host n side h) o)
grows-opened n side h o = record { more = as_list o; openings = opens (with_host n side h) o ∙ ap (λ l. l ++ as_list o) (openings-with n side (let s = station_of n side in record s { host = h })) }

grows-called : (side : Side) (c : Call) (answer : Answer) (place : ℕ) (n : NetworkView) (h : HostView) → Grows n (after_call side c answer place n h)
grows-called side (call.Connect isn id peer) reply.Started place n h = grows-opened n side h (opened_by_connect n.openings side id place h.sockets (table_of n (other_side side)))
grows-called side (call.Send id octets) (reply.Sent count) place n h = grows-not n (after_call side (call.Send id octets) (reply.Sent count) place n h) (openings-with n side (let s = station_of n side in record s { host = h }))
grows-called side _ _ place n h = grows-host n side h

grows-delivered : (side : Side) (place : ℕ) (note : Option Note) (n : NetworkView) (h : HostView) → Grows n (after_delivery side place note n h)
grows-delivered side place None n h = grows-host n side h
grows-delivered side place (Some note) n h = grows-opened n side h (opened_by_frame n.openings side place note.pair (table_of n side) h.sockets)

grows-same : (n m k : NetworkView) → m ≡ k → Grows n k → Grows n m
grows-same n m k same g = subst (Grows n) (sym same) g

grows : (happens : Event) (place : ℕ) (answer : Answer) (old new : NetworkView) → Steps happens place answer old new → Grows old new
grows (event.Call side c) place answer old new step = grows-same old new _ step.1 (grows-called side c answer place old (host_of new side))
grows (event.Tick side moment) place answer old new step = grows-same old new _ step.1 (grows-not old (with_station old side (station_after_tick (station_of old side) moment)) (openings-with old side (station_after_tick (station_of old side) moment)))
grows (event.Emit side) place answer old new step = by_answer answer step
  where
    by_answer : (answer : Answer) → MeetsEmission side answer old new → Grows old new
    by_answer (reply.Frame index len) step = grows-not old new (ap (λ (m : NetworkView). m.openings) step.after ∙ openings-with old side _)
    by_answer reply.NoFrame step = grows-not old new (ap (λ (m : NetworkView). m.openings) step.after)
    by_answer _ step = absurd step
grows (event.Deliver side index isn) place answer old new step = by_frame (slice_get old.frames index) step
  where
    by_frame : (o : Option Frame) → DeliversFrame side isn.0 place answer old new o → Grows old new
    by_frame None step = absurd step
    by_frame (Some f) step = grows-same old new _ step.1 (grows-delivered side place f.note old (host_of new side))

-- What is told of a socket that has no opening.

-- no octet, and no end
abbrev IsUnread : Side → SocketId → Happening → Type 0
IsUnread side id h = (sent_of side id h ≡ []) × (read_of side id h ≡ []) × (ended_of side id h ≡ false)

-- a connection that a call finds has an opening
socket-opened : (limit : ℕ) (hs ts : Side) (n : NetworkView) (trace : List Happening) → IsOrderly limit hs ts n trace → (id i : SocketId) (c : View) (l : Option SocketId)
    → find (is_socket i) (let h = table_of n hs in h.entries) ≡ Some (record { id = i; role = Connected c l }) → find (is_opening_at hs id) n.openings ≡ None → (id.0 == i.0) ≡ false
socket-opened limit hs ts n trace w id i c l found none = decide (id.0 == i.0) refl
  where
    decide : (b : Bool) → (id.0 == i.0) ≡ b → b ≡ false
    decide false is = refl
    decide true is =
        let h = table_of n hs in
        let e : Entry = record { id = i; role = Connected c l } in
        let table = w.projects.own_table in
        let opened : IsOpened hs w.a n.openings i c = table.noted i (Connected c l) (found-role (is_socket i) h.entries e table.sole found) in
        let bad : Some opened.opening ≡ None = sym opened.at ∙ (ap (λ x. find (is_opening_at hs x) n.openings) (sym (same_id id i is)) ∙ none) in
        cc

unread-call : (limit : ℕ) (hs ts : Side) (n : NetworkView) (trace : List Happening) → IsOrderly limit hs ts n trace → (routed : Addr → Bool) (now : Moment) (c : Call) (answer : Answer) (new : SocketsView) → MeetsCall routed now c (table_of n hs) answer new
    → (id : SocketId) → find (is_opening_at hs id) n.openings ≡ None → IsUnread hs id (answered hs c answer)
unread-call limit hs ts n trace w routed now (call.Send i octets) answer new m id none =
    elim (outcome (send_answer (table_of n hs) i octets.items) (λ count. reply.Sent count) (after_send (table_of n hs) i octets.items) (table_of n hs) answer new m) [
      | inl k ↦
          let s = sends-on (table_of n hs) i octets.items k.0 k.1 in
          let apart = socket-opened limit hs ts n trace w id i s.c s.l s.found none in
          subst (λ a. IsUnread hs id (answered hs (call.Send i octets) a)) (sym k.2) (sent_by-send hs i id octets k.0 ∙ ap (λ b. cond b (take k.0 octets.items) []) apart, refl, refl)
      | inr k ↦ subst (λ a. IsUnread hs id (answered hs (call.Send i octets) a)) (sym k.2) (refl, refl, refl)
    ]
unread-call limit hs ts n trace w routed now (call.Recv i len) answer new m id none =
    elim (recv_outcome (table_of n hs) i (recv_len len) answer new m) [
      | inl k ↦
          let apart = socket-opened limit hs ts n trace w id i k.c k.l k.found none in
          subst (λ a. IsUnread hs id (answered hs (call.Recv i len) a)) (sym k.is_answer) (refl, read_by-recv hs i id len k.octets ∙ ap (λ b. cond b k.octets.items []) apart, refl)
      | inr (inl k) ↦
          let apart = socket-opened limit hs ts n trace w id i k.c k.l k.found none in
          subst (λ a. IsUnread hs id (answered hs (call.Recv i len) a)) (sym k.is_answer) (refl, refl, ended_by-recv hs i id len ∙ apart)
      | inr (inr k) ↦ subst (λ a. IsUnread hs id (answered hs (call.Recv i len) a)) (sym k.1) (refl, refl, refl)
    ]
unread-call limit hs ts n trace w routed now _ answer new m id none = (refl, refl, refl)

-- a call of the other side
unread-other : (side : Side) (c : Call) (a : Answer) (i : SocketId) → IsUnread (other_side side) i (answered side c a)
unread-other side c a i = let q = other-quiet side c a i in (q.0, q.2, q.3)

unread-step : (limit : ℕ) (old new : WorldView) (happens : Event) (answer : Answer) → IsReached limit old → Steps happens (length old.trace) answer old.network new.network → (side : Side) (id : SocketId)
    → find (is_opening_at side id) old.network.openings ≡ None → IsUnread side id (record { event = happens; answer = answer })
unread-step limit old new (event.Call A c) answer reached step A id none = unread-call limit A B old.network old.trace (orderly limit old reached) (is_routed (host_of old.network A).interface) _ c answer (table_of new.network A) step.0.table id none
unread-step limit old new (event.Call A c) answer reached step B id none = unread-other A c answer id
unread-step limit old new (event.Call B c) answer reached step A id none = unread-other B c answer id
unread-step limit old new (event.Call B c) answer reached step B id none =
    unread-call limit B A old.network old.trace (orderly-swapped limit A B old.network old.trace (orderly limit old reached)) (is_routed (host_of old.network B).interface) _ c answer (table_of new.network B) step.0.table id none
unread-step limit old new (event.Tick s moment) answer reached step side id none = (refl, refl, refl)
unread-step limit old new (event.Emit s) answer reached step side id none = (refl, refl, refl)
unread-step limit old new (event.Deliver s index isn) answer reached step side id none = (refl, refl, refl)

-- and so of the whole trace
uncovered : (limit : ℕ) (w : WorldView) → IsReached limit w → (side : Side) (id : SocketId) → find (is_opening_at side id) w.network.openings ≡ None → IsCovered w side id None
uncovered limit _ (runs.begins a b a_is b_is distinct small) side id none = (refl, refl, refl)
uncovered limit _ (runs.goes_on w v happens answer reached step) side id none =
    let e : Happening = record { event = happens; answer = answer } in
    let g = grows happens _ answer w.network v.network step.network in
    let before : find (is_opening_at side id) w.network.openings ≡ None = not-before (is_opening_at side id) w.network.openings g.more (ap (find (is_opening_at side id)) (sym g.openings) ∙ none) in
    let had = uncovered limit w reached side id before in
    let last = unread-step limit w v happens answer reached step.network side id before in
    subst (λ t. (sent_on side id t ≡ []) × (read_on side id t ≡ []) × (ended_on side id t ≡ false)) (sym step.trace) (
      sent_on-added side id w.trace e ∙ (ap (λ l. l ++ sent_of side id e) had.0 ∙ last.0),
      read_on-added side id w.trace e ∙ (ap (λ l. l ++ read_of side id e) had.1 ∙ last.1),
      ended_on-added side id w.trace e ∙ (ap (λ b. b || ended_of side id e) had.2 ∙ last.2),
    )

-- what is read by an opening is read of its socket
covered : (limit : ℕ) (w : WorldView) → IsReached limit w → (side : Side) (id : SocketId) (o : Opening) → find (is_opening_at side id) w.network.openings ≡ Some o → IsCovered w side id (Some o)
covered limit w reached side id o found =
    let world = orderly limit w reached in
    let again = both-ways side w.network.openings id o world.projects.ledger found in
    let at = and_parts (same_side o.side side) (o.id.0 == id.0) (find-passes (is_opening_at side id) w.network.openings o found) in
    let its : o.id ≡ id = same_id o.id id at.1 in (
      ap (of_opening [] (λ o. sent_on side o.id w.trace)) again ∙ ap (λ i. sent_on side i w.trace) its,
      ap (of_opening [] (λ o. read_on side o.id w.trace)) again ∙ ap (λ i. read_on side i w.trace) its,
      ap (of_opening false (λ o. closed_on side o.id w.trace)) again ∙ ap (λ i. closed_on side i w.trace) its,
      ap (of_opening false (λ o. ended_on side o.id w.trace)) again ∙ ap (λ i. ended_on side i w.trace) its,
    )

pub octets-covered : EveryOctetIsCovered
octets-covered limit w reached side id = by_found (find (is_opening_at side id) w.network.openings) refl
  where
    by_found : (o : Option Opening) → find (is_opening_at side id) w.network.openings ≡ o → IsCovered w side id o
    by_found None is = uncovered limit w reached side id is
    by_found (Some o) is = covered limit w reached side id o is
