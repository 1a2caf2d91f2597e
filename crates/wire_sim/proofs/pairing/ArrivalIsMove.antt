-- A segment that arrives at a table is a move of the one pairing to which it belongs, or changes nothing.
use Rattle.std.proofs.Common.{◌≡◌, ℕ, ◌+◌, ◌<◌, ◌^◌, ◌==◌, ◌&&◌, ◌||◌, ◌⊎◌, if◌then◌else◌, inl, inr, arith, not, Bool, true, false, cond, List, [], ◌∷◌, ◌++◌, Option, Some, None, option_map, refl, sym, ◌∙◌, ap, subst}
use Rattle.std.specs.List.{find}
use Rattle.std.proofs.lemmas.Bool.{and_parts}
use Rattle.ipv4.specs.declared.addr.Addr.{Addr}
use Rattle.ipv4.specs.declared.addr.Endpoint.{Endpoint}
use Rattle.ipv4.specs.declared.addr.Pair.{Pair}
use Rattle.ipv4.specs.Addresses.{pair_of, same_addr, same_end}
use Rattle.tcp_segment.specs.Segment.{Segment}
use Rattle.tcp_state.specs.Edges as edge
use Rattle.tcp_state.specs.declared.connection.Fate.{Fate}
use Rattle.tcp_state.specs.declared.connection.Fate.TheVariants.{Stays, Removed, Rejected}
use Rattle.clock.specs.declared.moment.Moment.{Moment}
use Rattle.tcp_state.specs.View.{View, is_closed}
use Rattle.tcp_state.specs.Arrival.{opened_passively, after_segment, is_lost, after_lost, after_heard, is_rejected, before, timed_by, after_segment_at, fate}
use Rattle.sides.specs.declared.side.Side.{Side}
use Rattle.wire_sim.specs.declared.event.Opening.{Opening}
use Rattle.wire_sim.specs.declared.event.Happening.{Happening}
use Rattle.sockets.specs.declared.entry.SocketId.{SocketId}
use Rattle.sockets.specs.declared.entry.Entry.{Entry}
use Rattle.sockets.specs.declared.role.Role.{Role}
use Rattle.sockets.specs.declared.role.Role.TheVariants.{Connected}
use Rattle.stream_law.specs.Channel.{IsAmong}
use Rattle.stream_law.proofs.Clock.{same-timed}
use Rattle.stream_law.proofs.PairingEndings.{stops-left}
use Rattle.sockets.specs.Arrival.{is_opening, room_for}
use Rattle.sockets.specs.Entries.{is_between, is_of_pair, is_kept, role_after_segment, entries_after_step, new_waiting}
use Rattle.sockets.specs.SocketsView.{SocketsView, later_moment, holder_id}
use Rattle.wire_sim.specs.Openings.{epoch_of, held_anew, opened_by_frame}
use Rattle.stream_law.specs.Pairing.{Presence, Present, Departed, End, Emission, Pairing, IsTimely, remains, nothing_yet}
use Rattle.window_law.specs.Windows.{Talk, Talks, accepts, hears, here_talks}
use Rattle.window_law.proofs.Quiet.{timed_keeps, resets, rests, stops, leaves}
use Rattle.sockets.specs.Sound.{IsSoundConnection, IsSoundRole, IsSoundTable}
use Rattle.wire_sim.specs.Tallies.{is_opening_of, is_opening_at}
use Rattle.wire_sim.specs.Trace.{sent_on}
use Rattle.wire_sim.proofs.tables.CallsOnTable.{not_true}
use Rattle.wire_sim.proofs.tables.EntryChanges.{Its, Another, Whose, whose, end-its, end-another, table-becomes, opened-kept}
use Rattle.wire_sim.proofs.tables.SegmentArrived.{Arrived, Ignored, Heard, Began}
use Rattle.wire_sim.proofs.pairing.EndMoves.{pairing, Goes, moved}
use Rattle.wire_sim.proofs.lists.FoundAfterChange.{All-find, find-passes, find-added}
use Rattle.sockets.proofs.KeptEnds.{keeps-event}
use Rattle.wire_sim.proofs.tables.EntryIsMade.{Makes, free-later, end-unmade}
use Rattle.wire_sim.proofs.openings.OpeningIsFound.{opening-found, opening-only, opening-at_parts}
use Rattle.sockets.proofs.Ends.{same_end-true}
use Rattle.sockets.proofs.Held.{joins_own}
use Rattle.wire_sim.proofs.tables.PairOfPorts.{unheld-between, unheld-closed}
use Rattle.wire_sim.proofs.pairing.WorldAsPairings.{told, Bag, Projects, projects-turned}
use Rattle.wire_sim.proofs.pairing.ConnectIsMove.{table-ours}
use Rattle.wire_sim.proofs.pairing.OpeningIsMove.{projects-made}
use Rattle.wire_sim.proofs.tables.TableById.{Account, untold, role_at, found-role, Becomes, becomes-settled, becomes-added, settle, presence_in, end_with, end_at, IsOpened, IsNoted}

-- What is shown of the world after a step that may open one pair.
pub data Opens (limit : ℕ) (here there : Side) (a b : Addr) (own other : SocketsView) (bag : Bag) (openings : List Opening) (new : Option Opening) (trace : List Happening) : Type 0 where
  OpensNone : new ≡ None → Projects limit here there a b own other bag openings trace → Opens limit here there a b own other bag openings new trace
  OpensOne : (o : Opening) → new ≡ Some o → sent_on o.side o.id trace ≡ [] → Projects limit here there a b own other bag (openings ++ o ∷ []) trace → Opens limit here there a b own other bag openings new trace

pub held-still : (openings : List Opening) (side : Side) (place : ℕ) (pair : Pair) (before after : Option SocketId) → after ≡ before → held_anew openings side place pair before after ≡ None
held-still openings side place pair None after same = ap (held_anew openings side place pair None) same
held-still openings side place pair (Some held) after same = refl

-- A move of one id's end is a move of the pairing of its opening.
talks-moved_at : (limit : ℕ) (hs ts : Side) (a b : Addr) (own other : SocketsView) (bag : Bag) (openings : List Opening) (trace : List Happening) (ys : List Entry) (id : SocketId) (o : Opening) (was now : Presence)
    → (h : Projects limit hs ts a b own other bag openings trace) → find (is_opening_at hs id) openings ≡ Some o → presence_in (role_at own.entries id.0) ≡ was → presence_in (role_at ys id.0) ≡ now
    → ((j : ℕ) → (id.0 == j) ≡ false → role_at ys j ≡ role_at own.entries j)
    → Goes limit (pairing (end_with was (told hs trace id)) (end_at ts openings other.entries (told ts trace) o.pair o.epoch) (bag.out o.pair o.epoch) (bag.arrived o.pair o.epoch))
    (pairing (end_with now (told hs trace id)) (end_at ts openings other.entries (told ts trace) o.pair o.epoch) (bag.out o.pair o.epoch) (bag.arrived o.pair o.epoch))
    → (pair : Pair) (epoch : ℕ) → Talks limit (pairing (end_at hs openings ys (told hs trace) pair epoch) (end_at ts openings other.entries (told ts trace) pair epoch) (bag.out pair epoch) (bag.arrived pair epoch))
talks-moved_at limit hs ts a b own other bag openings trace ys id o was now h at is_was is_now others move pair epoch = of (whose hs openings id pair epoch)
  where
    of : Whose hs openings id pair epoch → Talks limit (pairing (end_at hs openings ys (told hs trace) pair epoch) (end_at ts openings other.entries (told ts trace) pair epoch) (bag.out pair epoch) (bag.arrived pair epoch))
    of (Another apart) =
        subst (λ e. Talks limit (pairing e (end_at ts openings other.entries (told ts trace) pair epoch) (bag.out pair epoch) (bag.arrived pair epoch)))
        (sym (end-another hs openings id pair epoch own.entries ys (told hs trace) (told hs trace) others (λ j same. refl) apart)) (h.talks pair epoch)
    of (Its x found same) =
        let two = opening-only openings hs id o x pair epoch h.ledger at found same in
        let there = end_at ts openings other.entries (told ts trace) pair epoch in
        subst (λ e. Talks limit (pairing e there (bag.out pair epoch) (bag.arrived pair epoch))) (sym (end-its hs openings id pair epoch ys (told hs trace) x found same ∙ ap (λ p. end_with p (told hs trace id)) is_now))
        (subst (λ i. Goes limit (pairing (end_with was (told hs trace id)) (end_at ts openings other.entries (told ts trace) pair i) (bag.out pair i) (bag.arrived pair i)) (pairing (end_with now (told hs trace id)) (end_at ts openings other.entries (told ts trace) pair i) (bag.out pair i) (bag.arrived pair i))) two.1
        (subst (λ p. Goes limit (pairing (end_with was (told hs trace id)) (end_at ts openings other.entries (told ts trace) p o.epoch) (bag.out p o.epoch) (bag.arrived p o.epoch)) (pairing (end_with now (told hs trace id)) (end_at ts openings other.entries (told ts trace) p o.epoch) (bag.out p o.epoch) (bag.arrived p o.epoch))) two.0 move)
        (subst (λ e. Talks limit (pairing e there (bag.out pair epoch) (bag.arrived pair epoch))) (end-its hs openings id pair epoch own.entries (told hs trace) x found same ∙ ap (λ p. end_with p (told hs trace id)) is_was) (h.talks pair epoch)))

-- A segment that the other end of a pair sent in the pair's present epoch, and that came in time.
pub record Comes (limit : ℕ) (hs ts : Side) (own other : SocketsView) (bag : Bag) (openings : List Opening) (trace : List Happening) (pair : Pair) (s : Segment) : Type 0 where
  pub emission : Emission
  pub among : IsAmong emission (bag.arrived pair (epoch_of openings pair))
  pub segment : emission.segment ≡ s
  pub timely : IsTimely limit (pairing (end_at hs openings own.entries (told hs trace) pair (epoch_of openings pair)) (end_at ts openings other.entries (told ts trace) pair (epoch_of openings pair)) (bag.out pair (epoch_of openings pair)) (bag.arrived pair (epoch_of openings pair))) emission

-- what may arrive: a reset, whoever sent it, or such a segment
abbrev pub MayCome : ℕ → Side → Side → SocketsView → SocketsView → Bag → List Opening → List Happening → Pair → Segment → Type 0
MayCome limit hs ts own other bag openings trace pair s = (s.flags.rst ≡ true) ⊎ Comes limit hs ts own other bag openings trace pair s

-- an entry that lies between two ends has them, and is not CLOSED
between-parts : (local peer : Endpoint) (c : View) (l : Option SocketId) (id : SocketId) → is_between local peer (record { id = id; role = Connected c l }) ≡ true → (is_closed c.state ≡ false) × (c.local ≡ local) × (c.peer ≡ peer)
between-parts local peer c l id e =
    let parts = and_parts (not (is_closed c.state)) (same_end c.local local && same_end c.peer peer) e in
    let ends = and_parts (same_end c.local local) (same_end c.peer peer) parts.1 in
    (not_true (is_closed c.state) parts.0, same_end-true c.local local ends.0, same_end-true c.peer peer ends.1)

-- What a segment that arrives makes of one end.

-- where it changes nothing, the connection stays or is taken out
unheard : (limit : ℕ) (c : View) (l : Option SocketId) (t : Account) (there : End) (out arrivals : List Emission) (x : Fate)
    → Goes limit (pairing (end_with (Present c) t) there out arrivals) (pairing (end_with (presence_in (settle x (λ r. Connected c l) (Connected c l))) t) there out arrivals)
unheard limit c l t there out arrivals Removed met =
    let was = pairing (end_with (Present c) t) there out arrivals in
    moved limit was (pairing (end_with Departed t) there out arrivals) (leaves limit was c t.closed refl (λ e. e)) met
unheard limit c l t there out arrivals Stays met = met
unheard limit c l t there out arrivals Rejected met = met

-- what a segment that is not rejected makes of the connection
abbrev timed : View → Segment → Moment → View → View
timed c s now w = timed_by (before c s) w now

-- where no octets are lost, the segment is heard, and then the clock acts
not-lost : (limit : ℕ) (c : View) (s : Segment) (now : Moment) (t : Account) (there : End) (out arrivals : List Emission) → (x : Fate) → Talks limit (pairing (end_with (remains x (after_segment c s)) t) there out arrivals)
    → (l : Option SocketId) → Talks limit (pairing (end_with (presence_in (settle x (λ r. Connected (timed c s now (after_segment c s)) l) (Connected c l))) t) there out arrivals)
not-lost limit c s now t there out arrivals Removed met l = met
not-lost limit c s now t there out arrivals Stays met l =
    let was = pairing (end_with (Present (after_segment c s)) t) there out arrivals in
    moved limit was (pairing (end_with (Present (timed c s now (after_segment c s))) t) there out arrivals) (rests limit was (after_segment c s) (timed c s now (after_segment c s)) refl (same-timed c (after_segment c s) s now) (timed_keeps c (after_segment c s) s now)) met
not-lost limit c s now t there out arrivals Rejected met l =
    let was = pairing (end_with (Present (after_segment c s)) t) there out arrivals in
    moved limit was (pairing (end_with (Present (timed c s now (after_segment c s))) t) there out arrivals) (rests limit was (after_segment c s) (timed c s now (after_segment c s)) refl (same-timed c (after_segment c s) s now) (timed_keeps c (after_segment c s) s now)) met

-- a segment that is rejected changes nothing, one whose octets are lost aborts the connection, and any other is heard
arriving : (limit : ℕ) (c : View) (l : Option SocketId) (s : Segment) (now : Moment) (t : Account) (there : End) (out arrivals : List Emission) → is_closed c.state ≡ false
    → Talk limit (pairing (end_with (Present c) t) there out arrivals) (pairing (end_with (remains (fate c s) (after_segment c s)) t) there out arrivals)
    → Goes limit (pairing (end_with (Present c) t) there out arrivals) (pairing (end_with (presence_in (settle (fate c s) (role_after_segment now s) (Connected c l))) t) there out arrivals)
arriving limit c l s now t there out arrivals lives move met = by_rejected (is_rejected c s) refl
  where
    was : Pairing
    was = pairing (end_with (Present c) t) there out arrivals

    -- the entry as the segment leaves it
    left : Bool → Role
    left unheard = Connected (if unheard then c else timed c s now (after_heard c s)) l

    Shown : Role → Type 0
    Shown r = Talks limit (pairing (end_with (presence_in (settle (fate c s) (λ _. r) (Connected c l))) t) there out arrivals)

    by_lost : (b : Bool) → is_lost c s ≡ b → Shown (Connected (timed c s now (after_heard c s)) l)
    by_lost true lost =
        let w : View = timed c s now (after_lost c s) in
        let stays : fate c s ≡ Stays = rw (lives, lost) in
        let becomes : Connected (timed c s now (after_heard c s)) l ≡ Connected w l = ap (λ b. Connected (timed c s now (if b then after_lost c s else after_segment c s)) l) lost in
        subst (λ x. Talks limit (pairing (end_with (presence_in (settle x (λ _. Connected (timed c s now (after_heard c s)) l) (Connected c l))) t) there out arrivals)) (sym stays)
        (subst (λ r. Talks limit (pairing (end_with (presence_in (Some r)) t) there out arrivals)) (sym becomes)
        (moved limit was (pairing (end_with (Present w) t) there out arrivals) (stops limit was c w t.closed refl (stops-left c w refl refl) (λ e. e)) met))
    by_lost false kept =
        let becomes : Connected (timed c s now (after_heard c s)) l ≡ Connected (timed c s now (after_segment c s)) l = ap (λ b. Connected (timed c s now (if b then after_lost c s else after_segment c s)) l) kept in
        subst Shown (sym becomes)
        (not-lost limit c s now t there out arrivals (fate c s) (here_talks was (pairing (end_with (remains (fate c s) (after_segment c s)) t) there out arrivals) met move) l)

    by_rejected : (b : Bool) → is_rejected c s ≡ b → Shown (role_after_segment now s (Connected c l))
    by_rejected true rejected = subst Shown (sym (ap left (ap (λ b. b || is_rejected c s) lives ∙ rejected))) (unheard limit c l t there out arrivals (fate c s) met)
    by_rejected false read = subst Shown (sym (ap left (ap (λ b. b || is_rejected c s) lives ∙ read))) (by_lost (is_lost c s) refl)

-- what is kept of an entry
kept-role : (x : Fate) (q role : Role) → cond (is_kept x) (Some q) None ≡ Some role → q ≡ role
kept-role x q role = step (is_kept x)
  where
    step : (b : Bool) → cond b (Some q) None ≡ Some role → q ≡ role
    step true e = cc
    step false e = cc

-- a segment that a connection hears
projects-heard : (limit : ℕ) (hs ts : Side) (a b : Addr) (own own' other : SocketsView) (bag : Bag) (openings : List Opening) (trace : List Happening) (now : Moment) (place : ℕ) (local peer : Endpoint) (s : Segment) (c : View) (l : Option SocketId) (id : SocketId) (offered : List SocketId)
    → IsSoundTable own → Projects limit hs ts a b own other bag openings trace → MayCome limit hs ts own other bag openings trace (pair_of local peer) s
    → find (is_between local peer) own.entries ≡ Some (record { id = id; role = Connected c l })
    → own' ≡ record own { entries = entries_after_step (fate c s) (is_between local peer) (role_after_segment now s) own.entries; offered = offered }
    → Opens limit hs ts a b own' other bag openings (opened_by_frame openings hs place (pair_of local peer) own own') trace
projects-heard limit hs ts a b own own' other bag openings trace now place local peer s c l id offered sound h may found becomes =
    let test = is_between local peer in
    let x : Entry = record { id = id; role = Connected c l } in
    let before : role_at own.entries id.0 ≡ Some (Connected c l) = found-role test own.entries x h.own_table.sole found in
    let noted : IsOpened hs a openings id c = h.own_table.noted id (Connected c l) before in
    let solid : IsSoundConnection c = All-find (λ (e : Entry). IsSoundRole e.role) test own.entries x sound.entries found in
    let parts = between-parts local peer c l id (find-passes test own.entries x found) in
    let o = noted.opening in
    let its_pair = pair_of local peer in
    let its_epoch = epoch_of openings its_pair in
    let of_pair : pair_of c.local c.peer ≡ its_pair = ap (λ e. pair_of e c.peer) parts.1 ∙ ap (pair_of local) parts.2 in
    let pair : o.pair ≡ its_pair = noted.pair ∙ of_pair in
    let epoch : o.epoch ≡ its_epoch = noted.present parts.0 ∙ ap (epoch_of openings) pair in
    let account = told hs trace id in
    let ys = entries_after_step (fate c s) test (role_after_segment now s) own.entries in
    let z : Becomes own.entries ys id.0 (settle (fate c s) (role_after_segment now s) (Connected c l)) = becomes-settled (fate c s) test (role_after_segment now s) own.entries x h.own_table.sole found in
    let next : SocketsView = record own { entries = ys; offered = offered } in
    let there = end_at ts openings other.entries (told ts trace) o.pair o.epoch in
    let was = pairing (end_with (Present c) account) there (bag.out o.pair o.epoch) (bag.arrived o.pair o.epoch) in
    let at_found : find (is_opening_of hs o.pair o.epoch) openings ≡ Some o = opening-found openings hs id o h.ledger noted.at in
    let own_end : end_at hs openings own.entries (told hs trace) o.pair o.epoch ≡ end_with (Present c) account =
    end-its hs openings id o.pair o.epoch own.entries (told hs trace) o at_found (opening-at_parts hs id o (find-passes (is_opening_at hs id) openings o noted.at)).1 ∙ ap (λ r. end_with (presence_in r) account) before in
    let move : Talk limit was (pairing (end_with (remains (fate c s) (after_segment c s)) account) there (bag.out o.pair o.epoch) (bag.arrived o.pair o.epoch)) =
    elim may [
      | inl reset ↦ resets limit was c s refl reset
      | inr y ↦
          let among : IsAmong y.emission (bag.arrived o.pair o.epoch) = subst (λ p. IsAmong y.emission (bag.arrived p o.epoch)) (sym pair) (subst (λ i. IsAmong y.emission (bag.arrived its_pair i)) (sym epoch) y.among) in
          let recent : IsTimely limit was y.emission =
          subst (λ e. IsTimely limit (pairing e there (bag.out o.pair o.epoch) (bag.arrived o.pair o.epoch)) y.emission) own_end
          (subst (λ p. IsTimely limit (pairing (end_at hs openings own.entries (told hs trace) p o.epoch) (end_at ts openings other.entries (told ts trace) p o.epoch) (bag.out p o.epoch) (bag.arrived p o.epoch)) y.emission) (sym pair)
          (subst (λ i. IsTimely limit (pairing (end_at hs openings own.entries (told hs trace) its_pair i) (end_at ts openings other.entries (told ts trace) its_pair i) (bag.out its_pair i) (bag.arrived its_pair i)) y.emission) (sym epoch) y.timely)) in
          subst (λ x. Talk limit was (pairing (end_with (remains (fate c x) (after_segment c x)) account) there (bag.out o.pair o.epoch) (bag.arrived o.pair o.epoch))) y.segment (hears was c y.emission refl solid.sound among recent)
    ] in
    let turned : Projects limit hs ts a b next other bag openings trace =
    projects-turned limit hs ts a b own next other bag openings trace trace h (record {
      addr = refl;
      table = table-becomes hs a own.last_id own.entries ys openings (told hs trace) (told hs trace) id (settle (fate c s) (role_after_segment now s) (Connected c l)) z
          (λ role is. (subst (λ q. IsNoted hs a openings id q) (kept-role (fate c s) (role_after_segment now s (Connected c l)) role is) (opened-kept hs a openings id c (after_segment_at c s now) (keeps-event c (edge.Hears s now)) noted), h.own_table.bound id (Connected c l) before))
          (λ i apart. refl) (λ none may. h.own_table.silent id none (inr (Connected c l, before))) h.own_table;
      other_told = λ i. refl;
      talks = talks-moved_at limit hs ts a b own other bag openings trace ys id o (Present c) (presence_in (settle (fate c s) (role_after_segment now s) (Connected c l))) h noted.at (ap presence_in before) (ap presence_in z.here) z.others
          (arriving limit c l s now account there (bag.out o.pair o.epoch) (bag.arrived o.pair o.epoch) parts.0 move);
    }) in
    OpensNone (held-already openings hs place its_pair own (holder_id own' its_pair) c l id parts.0 before of_pair)
    (subst (λ w. Projects limit hs ts a b w other bag openings trace) (sym becomes) turned)
  where
    -- the table holds the pair already
    held-already : (openings : List Opening) (side : Side) (place : ℕ) (pair : Pair) (own : SocketsView) (after : Option SocketId) (c : View) (l : Option SocketId) (id : SocketId) → is_closed c.state ≡ false → role_at own.entries id.0 ≡ Some (Connected c l)
        → pair_of c.local c.peer ≡ pair → held_anew openings side place pair (holder_id own pair) after ≡ None
    held-already openings side place pair own after c l id live at same = by_holder (find (is_of_pair pair) own.entries) refl
      where
        by_holder : (o : Option Entry) → find (is_of_pair pair) own.entries ≡ o → held_anew openings side place pair (option_map (λ (e : Entry). e.id) o) after ≡ None
        by_holder None none = let bad : true ≡ false = sym (unheld-closed own.entries pair id.0 c l none at same) ∙ live in cc
        by_holder (Some e) found = refl

-- a SYN that opens a connection at a listener
projects-began : (limit : ℕ) (hs ts : Side) (a b : Addr) (own own' other : SocketsView) (bag : Bag) (openings : List Opening) (trace : List Happening) (isn place : ℕ) (local peer : Endpoint) (s : Segment) (now : Moment) (listener : Entry) → isn < 2 ^ 32
    → Projects limit hs ts a b own other bag openings trace → local.addr ≡ own.addr → same_addr own.addr peer.addr ≡ false → MayCome limit hs ts own other bag openings trace (pair_of local peer) s
    → find (is_opening_of hs (pair_of local peer) (epoch_of openings (pair_of local peer))) openings ≡ None → find (is_between local peer) own.entries ≡ None → is_opening s.flags ≡ true
    → own' ≡ record own { last_id = own.last_id + 1; entries = own.entries ++ new_waiting (record { 0 = own.last_id + 1 }) listener.id (opened_passively (room_for own s) local peer isn s now) ∷ [] }
    → Opens limit hs ts a b own' other bag openings (opened_by_frame openings hs place (pair_of local peer) own own') trace
projects-began limit hs ts a b own own' other bag openings trace isn place local peer s now listener small_isn h is_local is_apart may first none opens becomes =
    let id : SocketId = record { 0 = own.last_id + 1 } in
    let c = opened_passively (room_for own s) local peer isn s now in
    let x : Entry = record { id = id; role = Connected c (Some listener.id) } in
    let next : SocketsView = record own { last_id = own.last_id + 1; entries = own.entries ++ x ∷ [] } in
    let pair = pair_of local peer in
    let epoch = epoch_of openings pair in
    let o : Opening = record { side = hs; pair = pair; epoch = epoch; id = id; place = place } in
    let above : own.last_id < id.0 = omega arith in
    let becomes_added : Becomes own.entries next.entries id.0 (Some (Connected c (Some listener.id))) =
    becomes-added own.entries x h.own_table.sole (free-later hs a own.last_id openings own.entries (told hs trace) id above h.own_table) in
    let free : find (is_of_pair pair) own.entries ≡ None =
    unheld-between local peer own.entries (ap (λ y. same_addr y peer.addr) is_local ∙ is_apart) h.own_table.sole (table-ours hs a local.addr own.last_id own.entries openings (told hs trace) (is_local ∙ h.own_addr) h.own_table) none in
    let unopened = h.own_table.later id above in
    let m : Makes hs a openings o own.entries next.entries c (Some listener.id) = record {
      becomes = becomes_added;
      at_side = refl;
      pair = refl;
      local = is_local ∙ h.own_addr;
      next = record { by_id = unopened; by_epoch = first; epoch = omega arith };
      rises = inl refl;
    } in
    let flags = opening_flags s.flags.syn s.flags.rst s.flags.ack opens in
    let there = end_at ts openings other.entries (told ts trace) pair epoch in
    let was = pairing nothing_yet there (bag.out pair epoch) (bag.arrived pair epoch) in
    let own_end : end_at hs openings own.entries (told hs trace) pair epoch ≡ nothing_yet = end-unmade hs openings o own.entries (told hs trace) refl m.next in
    let move : Talk limit was (pairing (end_with (Present c) untold) there (bag.out pair epoch) (bag.arrived pair epoch)) =
    elim may [
      | inl reset ↦ let bad : true ≡ false = sym reset ∙ flags.1 in cc
      | inr y ↦
          let recent : IsTimely limit was y.emission = subst (λ e. IsTimely limit (pairing e there (bag.out pair epoch) (bag.arrived pair epoch)) y.emission) own_end y.timely in
          subst (λ x. Talk limit was (pairing (end_with (Present (opened_passively (room_for own s) local peer isn x now)) untold) there (bag.out pair epoch) (bag.arrived pair epoch))) y.segment
          (accepts was (room_for own s) local peer isn y.emission now refl small_isn y.among recent (ap (λ (x : Segment). x.flags.syn) y.segment ∙ flags.0))
    ] in
    let was_free : holder_id own pair ≡ None = ap (option_map (λ (e : Entry). e.id)) free in
    let holds : holder_id own' pair ≡ Some id =
    ap (λ w. holder_id w pair) becomes ∙ ap (option_map (λ (e : Entry). e.id)) (find-added (is_of_pair pair) own.entries x free (joins_own c (Some listener.id) refl)) in
    let noted : opened_by_frame openings hs place pair own own' ≡ Some o =
    ap (λ w. held_anew openings hs place pair w (holder_id own' pair)) was_free ∙ ap (held_anew openings hs place pair None) holds in
    let unsent : sent_on hs id trace ≡ [] = ap (λ (a : Account). a.gave) (h.own_table.silent id unopened (inl above)) in
    OpensOne o noted unsent
    (subst (λ w. Projects limit hs ts a b w other bag (openings ++ o ∷ []) trace) (sym becomes)
    (projects-made limit hs ts a b own next other bag openings trace o c (Some listener.id) refl (omega arith) (omega arith) m (inl above) (inl refl) h move))
  where
    opening_flags : (syn rst ack : Bool) → (syn && not rst && not ack) ≡ true → (syn ≡ true) × (rst ≡ false)
    opening_flags true false ack e = (refl, refl)
    opening_flags true true ack e = cc
    opening_flags false rst ack e = cc

-- a segment arrives, from another address than our own
pub projects-arrived : (limit : ℕ) (hs ts : Side) (a b : Addr) (own own' other : SocketsView) (bag : Bag) (openings : List Opening) (trace : List Happening) (now : Moment) (isn place : ℕ) (local peer : Endpoint) (s : Segment) (opened : Option Pair) → IsSoundTable own → isn < 2 ^ 32
    → Projects limit hs ts a b own other bag openings trace → local.addr ≡ own.addr → same_addr own.addr peer.addr ≡ false → MayCome limit hs ts own other bag openings trace (pair_of local peer) s
    → (opened ≡ Some (pair_of local peer) → find (is_opening_of hs (pair_of local peer) (epoch_of openings (pair_of local peer))) openings ≡ None)
    → Arrived own now isn local peer s opened own'
    → Opens limit hs ts a b own' other bag openings (opened_by_frame openings hs place (pair_of local peer) own own') trace
projects-arrived limit hs ts a b own own' other bag openings trace now isn place local peer s opened sound small_isn h is_local is_apart may once (Ignored same) =
    OpensNone (held-still openings hs place (pair_of local peer) (holder_id own (pair_of local peer)) (holder_id own' (pair_of local peer)) (ap (λ w. holder_id w (pair_of local peer)) same))
    (subst (λ w. Projects limit hs ts a b w other bag openings trace) (sym same) h)
projects-arrived limit hs ts a b own own' other bag openings trace now isn place local peer s opened sound small_isn h is_local is_apart may once (Heard c l id offered found becomes) =
    projects-heard limit hs ts a b own own' other bag openings trace (later_moment own now) place local peer s c l id offered sound h may found becomes
projects-arrived limit hs ts a b own own' other bag openings trace now isn place local peer s opened sound small_isn h is_local is_apart may once (Began listener none opens foreseen becomes) =
    projects-began limit hs ts a b own own' other bag openings trace isn place local peer s (later_moment own now) listener small_isn h is_local is_apart may (once foreseen) none opens becomes
