-- A segment that goes out of a table is a move of the one pairing to which it belongs; a reset is none of any pairing. Which of the segments that
-- are due goes out is free.
use Rattle.std.proofs.Common.{◌≡◌, ℕ, ◌==◌, ◌&&◌, not, if◌then◌else◌, inl, inr, Bool, true, false, List, [], ◌∷◌, length, Option, Some, None, refl, sym, ◌∙◌, ap, subst}
use Rattle.std.specs.List.{find}
use Rattle.std.proofs.lemmas.Bool.{eqb-true, and_parts, and_from}
use Rattle.ipv4.specs.declared.addr.Addr.{Addr}
use Rattle.ipv4.specs.declared.addr.Pair.{Pair}
use Rattle.ipv4.specs.Addresses.{pair_of}
use Rattle.tcp_segment.specs.Segment.{Segment}
use Rattle.tcp_segment.specs.Sent.{sent_segment}
use Rattle.tcp_state.specs.declared.connection.Fate.TheVariants.{Stays, Removed}
use Rattle.tcp_state.specs.declared.emission.Due.{Due}
use Rattle.tcp_state.specs.declared.emission.Due.TheVariants.{Rst}
use Rattle.clock.specs.declared.moment.Moment.{Moment}
use Rattle.tcp_state.specs.View.{View, IsSound, is_closed, is_over}
use Rattle.tcp_state.specs.Due.{flags_of, head_of, octets_of, after_emitted}
use Rattle.tcp_state.proofs.GoesOut.{due-may}
use Rattle.sides.specs.declared.side.Side.{Side}
use Rattle.wire_sim.specs.declared.event.Opening.{Opening}
use Rattle.wire_sim.specs.declared.event.Happening.{Happening}
use Rattle.sockets.specs.declared.emission.Outgoing.{Outgoing}
use Rattle.sockets.specs.declared.entry.SocketId.{SocketId}
use Rattle.sockets.specs.declared.entry.Entry.{Entry}
use Rattle.sockets.specs.declared.role.Role.TheVariants.{Connected}
use Rattle.sockets.specs.Entries.{role_after_emission, emission_fate_of, entries_after_step, with_role}
use Rattle.sockets.specs.SocketsView.{SocketsView}
use Rattle.sockets.specs.Lists.{change_first, remove_first}
use Rattle.sockets.specs.Sound.{IsSoundConnection, IsSoundRole, IsSoundTable}
use Rattle.sockets.proofs.KeptEnds.{keeps-first}
use Rattle.stream_law.specs.Channel.{IsAmong, here, there}
use Rattle.stream_law.specs.Pairing.{End, Emission, Present, Departed}
use Rattle.window_law.specs.Windows.{sends, Talks, here_talks}
use Rattle.window_law.proofs.Quiet.{leaves}
use Rattle.stream_law.proofs.PairingEmission.{unclosed_goes}
use Rattle.wire_sim.specs.Openings.{epoch_of}
use Rattle.wire_sim.specs.Tallies.{is_opening_of, is_opening_at, same_pair}
use Rattle.wire_sim.specs.Trace.{sent_on, of_opening, written}
use Rattle.wire_sim.proofs.tables.EntryChanges.{by_test, end-its, end-another, table-becomes, opened-kept}
use Rattle.wire_sim.proofs.pairing.EndMoves.{pairing, EndGoes, moved}
use Rattle.wire_sim.proofs.lists.FoundAfterChange.{All-find, find-passes}
use Rattle.wire_sim.proofs.emission.SegmentsGoOut.{due-kind, due-width, emitted-state, Emits, emitted_at-connected}
use Rattle.wire_sim.proofs.openings.OpeningIsFound.{opening-found, opening-only, opening-at_parts}
use Rattle.wire_sim.proofs.tables.PairOfPorts.{same_pair-same, same_pair-true}
use Rattle.wire_sim.proofs.pairing.WorldAsPairings.{told, Sent, Bag, Projects}
use Rattle.wire_sim.proofs.pairing.CallsAreMoves.{projects-moved}
use Rattle.wire_sim.proofs.tables.TableById.{Becomes, becomes-changed, becomes-removed, role_at, found-role, presence_in, end_with, end_of, end_at, IsOpened, IsNoted, eqb-same, same_id, entry_with}

-- what was written for a pair in an epoch is what its end tells
pub written-end : (side : Side) (trace : List Happening) (os : List Opening) (xs : List Entry) (pair : Pair) (epoch : ℕ) → written trace os side pair epoch ≡ (end_at side os xs (told side trace) pair epoch).written
written-end side trace os xs pair epoch = by_found (find (is_opening_of side pair epoch) os)
  where
    by_found : (o : Option Opening) → of_opening [] (λ o. sent_on side o.id trace) o ≡ (end_of xs (told side trace) o).written
    by_found None = refl
    by_found (Some o) = refl

-- a pair in an epoch is this one
abbrev pub is_at : Pair → ℕ → Pair → ℕ → Bool
is_at pair epoch p e = same_pair pair p && (epoch == e)

pub at-itself : (pair : Pair) (epoch : ℕ) → is_at pair epoch pair epoch ≡ true
at-itself pair epoch = and_from (same_pair pair pair) (epoch == epoch) (same_pair-same pair) (eqb-same epoch)

pub at-true : (pair : Pair) (epoch : ℕ) (p : Pair) (e : ℕ) → is_at pair epoch p e ≡ true → (pair ≡ p) × (epoch ≡ e)
at-true pair epoch p e is = let parts = and_parts (same_pair pair p) (epoch == e) is in (same_pair-true pair p parts.0, eqb-true epoch e parts.1)

-- one emission more between the ends of a pair in an epoch
abbrev pub with_emission : Pair → ℕ → Emission → Sent → Sent
with_emission pair epoch new out p e = if is_at pair epoch p e then new ∷ out p e else out p e

abbrev pub bag_with : Pair → ℕ → Emission → Bag → Bag
bag_with pair epoch new bag = record { out = with_emission pair epoch new bag.out; arrived = bag.arrived }

-- those that were there still are ..
pub among-more : (pair : Pair) (epoch : ℕ) (new x : Emission) (out : Sent) (p : Pair) (e : ℕ) → IsAmong x (out p e) → IsAmong x (with_emission pair epoch new out p e)
among-more pair epoch new x out p e among = step (is_at pair epoch p e)
  where
    step : (b : Bool) → IsAmong x (if b then new ∷ out p e else out p e)
    step true = there x new (out p e) among
    step false = among

-- .. and so is the new one
pub among-new : (pair : Pair) (epoch : ℕ) (new : Emission) (out : Sent) → IsAmong new (with_emission pair epoch new out pair epoch)
among-new pair epoch new out = subst (λ l. IsAmong new l) (sym (ap (λ b. if b then new ∷ out pair epoch else out pair epoch) (at-itself pair epoch))) (here new (out pair epoch))

-- a connection's segment as it goes out: with what was written so far at both ends
abbrev pub emission_of : Side → Side → List Opening → List Happening → View → Due → Emission
emission_of hs ts openings trace c due =
    let pair = pair_of c.local c.peer in
    let epoch = epoch_of openings pair in
    record {
      segment = sent_segment (head_of c due) (octets_of c due);
      own_written = length (written trace openings hs pair epoch);
      other_written = length (written trace openings ts pair epoch);
    }

abbrev pub bag_after : Side → Side → List Opening → List Happening → View → Due → Bag → Bag
bag_after hs ts openings trace c due bag =
    let pair = pair_of c.local c.peer in
    bag_with pair (epoch_of openings pair) (emission_of hs ts openings trace c due) bag

-- a segment of a connection goes out
projects-sent : (limit : ℕ) (hs ts : Side) (a b : Addr) (own other : SocketsView) (bag : Bag) (openings : List Opening) (trace : List Happening) (now : Moment) (what : Outgoing) (goes : Entry → Bool) (e : Entry) (c : View) (l : Option SocketId) (due : Due)
    → Emits own.entries goes e c l due → (let x = flags_of c due in x.rst) ≡ false → IsSoundTable own
    → Projects limit hs ts a b own other bag openings trace
    → Projects limit hs ts a b (record own { entries = change_first goes (with_role (role_after_emission now what)) own.entries }) other (bag_after hs ts openings trace c due bag) openings trace
projects-sent limit hs ts a b own other bag openings trace now what goes e c l due m unreset sound h =
    let entry : Entry = record { id = e.id; role = Connected c l } in
    let found : find goes own.entries ≡ Some entry = m.found ∙ ap Some (entry_with e (Connected c l) m.role) in
    let solid : IsSoundConnection c = subst IsSoundRole m.role (All-find (λ (e : Entry). IsSoundRole e.role) goes own.entries e sound.entries m.found) in
    let before : role_at own.entries e.id.0 ≡ Some (Connected c l) = found-role goes own.entries entry h.own_table.sole found in
    let k : IsOpened hs a openings e.id c = h.own_table.noted e.id (Connected c l) before in
    let may = due-may c due solid.sound m.first in
    let w = after_emitted c due now in
    let ys = change_first goes (with_role (role_after_emission now what)) own.entries in
    let becomes : Becomes own.entries ys e.id.0 (Some (Connected w l)) =
    subst (λ r. Becomes own.entries ys e.id.0 (Some r)) (emitted_at-connected now what c l due m.first) (becomes-changed goes (role_after_emission now what) own.entries entry h.own_table.sole found) in
    let o = k.opening in
    let pair = pair_of c.local c.peer in
    let epoch = epoch_of openings pair in
    let one : o.epoch ≡ epoch = k.present (unclosed_goes c due solid.sound may unreset) ∙ ap (epoch_of openings) k.pair in
    let at : find (is_opening_of hs pair epoch) openings ≡ Some o =
    subst (λ p. find (is_opening_of hs p epoch) openings ≡ Some o) k.pair (subst (λ i. find (is_opening_of hs o.pair i) openings ≡ Some o) one (opening-found openings hs e.id o h.ledger k.at)) in
    let its : o.id ≡ e.id = (opening-at_parts hs e.id o (find-passes (is_opening_at hs e.id) openings o k.at)).1 in
    let there_end = end_at ts openings other.entries (told ts trace) pair epoch in
    let account = told hs trace e.id in
    let new = emission_of hs ts openings trace c due in
    let own_end : end_at hs openings own.entries (told hs trace) pair epoch ≡ end_with (Present c) account = end-its hs openings e.id pair epoch own.entries (told hs trace) o at its ∙ ap (λ r. end_with (presence_in r) account) before in
    let own_told : length (written trace openings hs pair epoch) ≡ length account.gave = ap length (written-end hs trace openings own.entries pair epoch) ∙ ap (λ (v : End). length v.written) own_end in
    let other_told : length (written trace openings ts pair epoch) ≡ length there_end.written = ap length (written-end ts trace openings other.entries pair epoch) in
    let now_end : end_at hs openings ys (told hs trace) pair epoch ≡ end_with (Present w) account = end-its hs openings e.id pair epoch ys (told hs trace) o at its ∙ ap (λ r. end_with (presence_in r) account) becomes.here in
    let first_meets : Talks limit (pairing (end_at hs openings ys (told hs trace) pair epoch) there_end (new ∷ bag.out pair epoch) (bag.arrived pair epoch)) =
    subst (λ v. Talks limit (pairing v there_end (new ∷ bag.out pair epoch) (bag.arrived pair epoch))) (sym now_end)
    (subst (λ x. Talks limit (pairing (end_with (Present w) account) there_end (x ∷ bag.out pair epoch) (bag.arrived pair epoch))) (sym (same_emission new.segment (length (written trace openings hs pair epoch)) (length account.gave) (length (written trace openings ts pair epoch)) (length there_end.written) own_told other_told))
    (here_talks (pairing (end_with (Present c) account) there_end (bag.out pair epoch) (bag.arrived pair epoch))
    (pairing (end_with (Present w) account) there_end (record { segment = new.segment; own_written = length account.gave; other_written = length there_end.written } ∷ bag.out pair epoch) (bag.arrived pair epoch))
    (subst (λ v. Talks limit (pairing v there_end (bag.out pair epoch) (bag.arrived pair epoch))) own_end (h.talks pair epoch))
    (sends (pairing (end_with (Present c) account) there_end (bag.out pair epoch) (bag.arrived pair epoch)) c due now refl solid.sound m.first unreset (due-width c due solid may)))) in
    record {
      opposite = h.opposite;
      back = h.back;
      small = h.small;
      distinct = h.distinct;
      distinct_back = h.distinct_back;
      own_addr = h.own_addr;
      other_addr = h.other_addr;
      ledger = h.ledger;
      own_table = table-becomes hs a own.last_id own.entries ys openings (told hs trace) (told hs trace) e.id (Some (Connected w l)) becomes
          (λ role is. let same : Connected w l ≡ role = cc in (subst (λ r. IsNoted hs a openings e.id r) same (opened-kept hs a openings e.id c w (keeps-first c (Some due) now) k), h.own_table.bound e.id (Connected c l) before))
          (λ i apart. refl) (λ none may. h.own_table.silent e.id none (inr (Connected c l, before))) h.own_table;
      other_table = h.other_table;
      talks = λ p i. by_test (is_at pair epoch p i)
          (λ is.
          let two = at-true pair epoch p i is in
          subst (λ l. Talks limit (pairing (end_at hs openings ys (told hs trace) p i) (end_at ts openings other.entries (told ts trace) p i) l (bag.arrived p i))) (sym (ap (λ b. if b then new ∷ bag.out p i else bag.out p i) is))
          (subst (λ j. Talks limit (pairing (end_at hs openings ys (told hs trace) p j) (end_at ts openings other.entries (told ts trace) p j) (new ∷ bag.out p j) (bag.arrived p j))) two.1
          (subst (λ q. Talks limit (pairing (end_at hs openings ys (told hs trace) q epoch) (end_at ts openings other.entries (told ts trace) q epoch) (new ∷ bag.out q epoch) (bag.arrived q epoch))) two.0 first_meets)))
          (λ is.
          subst (λ l. Talks limit (pairing (end_at hs openings ys (told hs trace) p i) (end_at ts openings other.entries (told ts trace) p i) l (bag.arrived p i))) (sym (ap (λ b. if b then new ∷ bag.out p i else bag.out p i) is))
          (subst (λ v. Talks limit (pairing v (end_at ts openings other.entries (told ts trace) p i) (bag.out p i) (bag.arrived p i)))
          (sym (end-another hs openings e.id p i own.entries ys (told hs trace) (told hs trace) becomes.others (λ j apart. refl) (elsewhere o pair epoch p i e.id k.at k.pair one is))) (h.talks p i)));
    }
  where
    same_emission : (s : Segment) (m m' n n' : ℕ) → m ≡ m' → n ≡ n' → ◌≡◌ {A = Emission} (record { segment = s; own_written = m; other_written = n }) (record { segment = s; own_written = m'; other_written = n' })
    same_emission s m m' n n' same_m same_n = cc

    -- another pair, or the same in another epoch, is of another opening
    elsewhere : (x : Opening) (pair : Pair) (epoch : ℕ) (p : Pair) (i : ℕ) (id : SocketId) → find (is_opening_at hs id) openings ≡ Some x → x.pair ≡ pair → x.epoch ≡ epoch → is_at pair epoch p i ≡ false
        → (o : Opening) → find (is_opening_of hs p i) openings ≡ Some o → (id.0 == o.id.0) ≡ false
    elsewhere x pair epoch p i id at is_pair is_epoch apart o found = by_test (id.0 == o.id.0)
        (λ is.
        let two = opening-only openings hs id x o p i h.ledger at found (sym (same_id id o.id is)) in
        let same_pair : pair ≡ p = sym is_pair ∙ two.0 in
        let same_epoch : epoch ≡ i = sym is_epoch ∙ two.1 in
        let bad : true ≡ false = sym (ap (λ q. is_at pair epoch q epoch) (sym same_pair) ∙ at-itself pair epoch) ∙ (ap (is_at pair epoch p) same_epoch ∙ apart) in
        cc)
        (λ fails. fails)

-- the reset of an abort goes out, and the entry is over
projects-reset : (limit : ℕ) (hs ts : Side) (a b : Addr) (own other : SocketsView) (bag : Bag) (openings : List Opening) (trace : List Happening) (goes : Entry → Bool) (e : Entry) (c : View) (l : Option SocketId)
    → Emits own.entries goes e c l Rst → Projects limit hs ts a b own other bag openings trace
    → Projects limit hs ts a b (record own { entries = remove_first goes own.entries }) other bag openings trace
projects-reset limit hs ts a b own other bag openings trace goes e c l m h =
    let entry : Entry = record { id = e.id; role = Connected c l } in
    let found : find goes own.entries ≡ Some entry = m.found ∙ ap Some (entry_with e (Connected c l) m.role) in
    let before : role_at own.entries e.id.0 ≡ Some (Connected c l) = found-role goes own.entries entry h.own_table.sole found in
    let next : SocketsView = record own { entries = remove_first goes own.entries } in
    let account = told hs trace e.id in
    projects-moved limit hs ts a b own next other bag openings trace trace e.id None refl refl (becomes-removed goes own.entries entry h.own_table.sole found)
    (λ role is. let bad : None ≡ Some role = is in cc) (λ i apart. refl) (λ none may. h.own_table.silent e.id none (inr (Connected c l, before))) (λ i. refl)
    (subst (λ r. EndGoes limit (end_with (presence_in r) account) (end_with Departed account)) (sym before)
    (λ there out arrived. moved limit (pairing (end_with (Present c) account) there out arrived) (pairing (end_with Departed account) there out arrived) (leaves limit (pairing (end_with (Present c) account) there out arrived) c account.closed refl (λ e. e)))) h

-- what is owed a reset is over once it went out
over : (c : View) → IsSound c → c.owes_reset ≡ true → is_over (record c { owes_reset = false }) ≡ true
over c sound owes = both (is_closed c.state) c.released (owed c.owes_reset (not (is_closed c.state && c.released)) owes sound.reset)
  where
    owed : (owes none : Bool) → owes ≡ true → (owes && none) ≡ false → none ≡ false
    owed true none e f = f
    owed false none e f = cc

    both : (closed left : Bool) → not (closed && left) ≡ false → (closed && left && true) ≡ true
    both true true e = refl
    both true false e = cc
    both false left e = cc

-- What went out: a reset, and then no more is in the bag, or a segment of its pairing.
pub data GoesOut (limit : ℕ) (hs ts : Side) (a b : Addr) (own' other : SocketsView) (bag : Bag) (openings : List Opening) (trace : List Happening) (c : View) (due : Due) : Type 0 where
  GoesReset : due ≡ Rst → Projects limit hs ts a b own' other bag openings trace → GoesOut limit hs ts a b own' other bag openings trace c due
  GoesOn : (let x = flags_of c due in x.rst) ≡ false → Projects limit hs ts a b own' other (bag_after hs ts openings trace c due bag) openings trace → GoesOut limit hs ts a b own' other bag openings trace c due

-- the segment of the first entry that passes a test goes out, where it has one due
pub projects-emitted : (limit : ℕ) (hs ts : Side) (a b : Addr) (own other : SocketsView) (bag : Bag) (openings : List Opening) (trace : List Happening) (now : Moment) (what : Outgoing) (goes : Entry → Bool) (e : Entry) (c : View) (l : Option SocketId) (due : Due)
    → Emits own.entries goes e c l due → IsSoundTable own → Projects limit hs ts a b own other bag openings trace
    → GoesOut limit hs ts a b (record own { entries = entries_after_step (emission_fate_of (role_after_emission now what e.role)) goes (role_after_emission now what) own.entries }) other bag openings trace c due
projects-emitted limit hs ts a b own other bag openings trace now what goes e c l due m sound h =
    let solid : IsSoundConnection c = subst IsSoundRole m.role (All-find (λ (e : Entry). IsSoundRole e.role) goes own.entries e sound.entries m.found) in
    let may = due-may c due solid.sound m.first in
    let role : role_after_emission now what e.role ≡ Connected (after_emitted c due now) l = ap (role_after_emission now what) m.role ∙ emitted_at-connected now what c l due m.first in
    let fate : emission_fate_of (role_after_emission now what e.role) ≡ (if is_over (after_emitted c due now) then Removed else Stays) = ap emission_fate_of role in
    elim (due-kind c due) [
      | inl is_reset ↦
          let r : Emits own.entries goes e c l Rst = record { found = m.found; role = m.role; first = m.first ∙ ap Some is_reset } in
          let ended : is_over (after_emitted c due now) ≡ true = ap (λ d. is_over (after_emitted c d now)) is_reset ∙ over c solid.sound (due-may c Rst solid.sound r.first) in
          subst (λ x. GoesOut limit hs ts a b (record own { entries = entries_after_step x goes (role_after_emission now what) own.entries }) other bag openings trace c due) (sym (fate ∙ ap (λ t. if t then Removed else Stays) ended))
          (GoesReset is_reset (projects-reset limit hs ts a b own other bag openings trace goes e c l r h))
      | inr unreset ↦
          let lives : is_closed (let w = after_emitted c due now in w.state) ≡ false = ap is_closed (emitted-state c due now) ∙ unclosed_goes c due solid.sound may unreset in
          let going : is_over (after_emitted c due now) ≡ false = ap (λ t. t && (let w = after_emitted c due now in w.released) && not (let w = after_emitted c due now in w.owes_reset)) lives in
          subst (λ x. GoesOut limit hs ts a b (record own { entries = entries_after_step x goes (role_after_emission now what) own.entries }) other bag openings trace c due) (sym (fate ∙ ap (λ t. if t then Removed else Stays) going))
          (GoesOn unreset (projects-sent limit hs ts a b own other bag openings trace now what goes e c l due m unreset sound h))
    ]
