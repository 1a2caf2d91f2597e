-- A segment that takes numbers and goes out is what a connection has due.
use Rattle.std.proofs.Common.{◌≡◌, inl, inr, ℕ, ◌+◌, ◌≤◌, ◌<◌, ◌==◌, Bool, true, false, List, [], ◌∷◌, drop, length, slice_get, Option, Some, None, option_map, option_and_then, Ok, refl, sym, ◌∙◌, ap, subst, arith, length-take}
use Rattle.std.proofs.lemmas.Bool.{eqb-true}
use Rattle.std.specs.List.{find, position}
use Rattle.clock.specs.declared.moment.Moment.{Moment}
use Rattle.ether.specs.declared.mac.Mac.{Mac}
use Rattle.ipv4.specs.declared.addr.Addr.{Addr}
use Rattle.ipv4.specs.declared.addr.Endpoint.{Endpoint}
use Rattle.tcp_segment.specs.Segment.{Segment}
use Rattle.tcp_segment.specs.Sent.{sent_segment}
use Rattle.frames.specs.declared.meaning.Meaning.TheVariants.{Tcp}
use Rattle.frames.specs.declared.meaning.ReceivedSegment.{ReceivedSegment}
use Rattle.frames.specs.Meaning.{heard}
use Rattle.interface.specs.declared.reply.Reply.{Reply}
use Rattle.interface.specs.declared.reply.Reply.TheVariants.{Arp, Reset, Echo, Error}
use Rattle.interface.specs.declared.reply.Waiting.{Waiting}
use Rattle.interface.specs.declared.way.Way.{Way}
use Rattle.interface.specs.declared.way.Way.TheVariants.{To, Ask, Waits}
use Rattle.interface.specs.Replies.{is_due, way_of}
use Rattle.interface.specs.Ways.{way}
use Rattle.tcp_state.specs.declared.emission.Due.{Due}
use Rattle.tcp_state.specs.declared.emission.Due.TheVariants.{Rst, Syn, Text, Probe, Ack, KeepAlive}
use Rattle.tcp_state.specs.declared.emission.Stretch.{Stretch}
use Rattle.tcp_state.specs.declared.state.State.{State}
use Rattle.tcp_state.specs.declared.state.State.TheVariants.{Closed}
use Rattle.tcp_state.specs.Due.{first_due, head_of, octets_of, octets_of_stretch, probe_stretch, IsHeld, MayGoOut}
use Rattle.tcp_state.specs.View.{View, IsSound, is_opening, is_closed, awaits_fin_ack}
use Rattle.tcp_state.proofs.GoesOut.{due-may}
use Rattle.sockets.specs.declared.entry.Entry.{Entry}
use Rattle.sockets.specs.declared.entry.SocketId.{SocketId}
use Rattle.sockets.specs.declared.emission.Outgoing.{Outgoing}
use Rattle.sockets.specs.declared.role.Role.{Role}
use Rattle.sockets.specs.declared.role.Role.TheVariants.{Idle, Listener, Connected, Datagrams}
use Rattle.sockets.specs.Closing.{entry_of}
use Rattle.sockets.specs.Emission.{in_turn}
use Rattle.sockets.specs.Entries.{due_to, sends}
use Rattle.sockets.specs.Ids.{has_id, AreAscending}
use Rattle.sockets.specs.Order.{IsOrdered, LiesAt}
use Rattle.sockets.specs.Sound.{IsSoundRole, IsSoundConnection}
use Rattle.sockets.specs.SocketsView.{later_moment}
use Rattle.sockets.proofs.ByIds.{found_above, found_behind, found_first}
use Rattle.sockets.proofs.Emitting.{first_segment, found_due}
use Rattle.sockets.proofs.Ends.{eqb-same}
use Rattle.sockets.proofs.Followed.{by_test}
use Rattle.host.specs.Carried.{Carried, carried_by, carried_for, carried_reply, due_segment}
use Rattle.host.specs.ConfigView.{ConfigView}
use Rattle.host.specs.Emission.{Emission, Replies, Sends, Asks, Nothing, emission, emission_at, emission_by, emission_octets, goes_out_from, table_emission}
use Rattle.host.specs.HostView.{HostView}
use Rattle.host.specs.Sound.{IsSoundHost}
use Rattle.host.proofs.Carriage.{at-all, found-all, carried-hearer}
use Rattle.host.proofs.Emitting.{table_from}
use Rattle.host_law.specs.History.{connection_of}
use Rattle.host_law.proofs.Befalls.{IsDueOf}
use Rattle.host_law.specs.Going.{TakesNumbers}
use Rattle.host_law.proofs.LedReplies.{AreBare, TakesNone}

-- An entry stands under its id.
pub found_by_id : (test : Entry → Bool) (before last : ℕ) (xs : List Entry) (x : Entry) → AreAscending before last xs → find test xs ≡ Some x → find (has_id x.id) xs ≡ Some x
found_by_id test before last [] x ids found = cc
found_by_id test before last (y ∷ ys) x ids found =
    by_test (test y)
    (λ here.
    let same : y ≡ x = found_first test y x ys here found in
    let at : has_id x.id y ≡ true = ap (λ (e : Entry). e.id.0 == x.id.0) same ∙ eqb-same x.id.0 in
    let first : find (has_id x.id) (y ∷ ys) ≡ Some y = rw at refl in first ∙ ap (λ (e : Entry). Some e) same)
    (λ there.
    let later : find test ys ≡ Some x = found_behind test y ys (Some x) there found in
    let above : y.id.0 < x.id.0 = found_above test y.id.0 last ys x ids.1 later in
    let other : has_id x.id y ≡ false = by_test (y.id.0 == x.id.0) (λ yes. absurd (omega (arith, eqb-true y.id.0 x.id.0 yes, above))) (λ n. n) in
    let behind : find (has_id x.id) (y ∷ ys) ≡ find (has_id x.id) ys = rw other refl in behind ∙ found_by_id test y.id.0 last ys x ids.1 later)

-- What is CLOSED has neither octets nor a FIN due.

closed_is : (t : State) → is_closed t ≡ true → t ≡ Closed
closed_is Closed is = refl
closed_is _ is = cc

closed_holds_none : (v : View) → IsSound v → is_closed v.state ≡ true → length v.sending.held ≡ 0
closed_holds_none v sound closed =
    let state = closed_is v.state closed in
    let most : length v.sending.held ≤ 0 = rw state at sound.held in
    omega (arith, most)

no_fin_held : (v : View) (stretch : Stretch) → is_closed v.state ≡ true → IsHeld v stretch → stretch.fin ≡ true → ⊥
no_fin_held v stretch closed held fin =
    let state = closed_is v.state closed in
    let waits : awaits_fin_ack v.state ≡ true = (held.fin fin).0 in
    let none : awaits_fin_ack v.state ≡ false = ap awaits_fin_ack state in
    let bad : true ≡ false = sym waits ∙ none in cc

no_octets_held : (v : View) (stretch : Stretch) → IsSound v → is_closed v.state ≡ true → IsHeld v stretch → 0 < length (octets_of_stretch v stretch) → ⊥
no_octets_held v stretch sound closed held some =
    let none = closed_holds_none v sound closed in
    let fits : stretch.offset + stretch.count ≤ length v.sending.held = held.held in
    omega (arith, none, fits, some, length-take stretch.count (drop stretch.offset v.sending.held))

closed_opens : {C : Type 0} (t : State) → is_closed t ≡ true → is_opening t ≡ true → C
closed_opens Closed closed opens = cc
closed_opens _ closed opens = cc

closed_brings_none : (v : View) (due : Due) → IsSound v → is_closed v.state ≡ true → MayGoOut v due → TakesNumbers (sent_segment (head_of v due) (octets_of v due)) → ⊥
closed_brings_none v Rst sound closed may (inl some) = omega (arith, some)
closed_brings_none v Rst sound closed may (inr (inl fin)) = cc
closed_brings_none v Rst sound closed may (inr (inr syn)) = cc
closed_brings_none v Syn sound closed may (inl some) = omega (arith, some)
closed_brings_none v Syn sound closed may (inr (inl fin)) = cc
closed_brings_none v Syn sound closed may (inr (inr syn)) = closed_opens v.state closed may
closed_brings_none v (Text stretch) sound closed may (inl some) = no_octets_held v stretch sound closed may some
closed_brings_none v (Text stretch) sound closed may (inr (inl fin)) = no_fin_held v stretch closed may fin
closed_brings_none v (Text stretch) sound closed may (inr (inr syn)) = cc
closed_brings_none v Probe sound closed may (inl some) = no_octets_held v (probe_stretch v) sound closed may some
closed_brings_none v Probe sound closed may (inr (inl fin)) = no_fin_held v (probe_stretch v) closed may fin
closed_brings_none v Probe sound closed may (inr (inr syn)) = cc
closed_brings_none v Ack sound closed may (inl some) = omega (arith, some)
closed_brings_none v Ack sound closed may (inr (inl fin)) = cc
closed_brings_none v Ack sound closed may (inr (inr syn)) = cc
closed_brings_none v KeepAlive sound closed may (inl some) = omega (arith, some)
closed_brings_none v KeepAlive sound closed may (inr (inl fin)) = cc
closed_brings_none v KeepAlive sound closed may (inr (inr syn)) = cc

module _ (c : ConfigView) (h : HostView) (sound : IsSoundHost h) (o : IsOrdered h.sockets) (own : (let t = h.sockets in t.addr) ≡ c.addr) (bare : AreBare h.interface) (to : Addr) (s : Segment) (brings : TakesNumbers s) where
  abbrev Is : Carried → Type 0
  Is k = (k.to ≡ to) × (k.segment ≡ s)

  -- no control reply brings any
  by_reply : (waiting : Waiting) (r : Reply) (w : Way) (k : Carried) → TakesNone r → carried_reply r w ≡ Some k → Is k → IsDueOf c h to s
  by_reply waiting (Reset there head) (To mac) k plain is same =
      let one : k.segment ≡ sent_segment head [] = (let both : ◌≡◌ {A = Option Carried} (Some (record { mac = mac; to = there; segment = sent_segment head [] })) (Some k) = is in cc) in
      absurd (neither (subst TakesNumbers (sym same.1 ∙ one) brings))
    where
      neither : TakesNumbers (sent_segment head []) → ⊥
      neither (inl some) = omega (arith, some)
      neither (inr (inl fin)) = let bad : true ≡ false = sym fin ∙ plain.0 in cc
      neither (inr (inr syn)) = let bad : true ≡ false = sym syn ∙ plain.1 in cc
  by_reply waiting (Reset there head) (Ask hop) k plain is same = cc
  by_reply waiting (Reset there head) Waits k plain is same = cc
  by_reply waiting (Arp packet) w k plain is same = cc
  by_reply waiting (Echo there identifier number octets) w k plain is same = cc
  by_reply waiting (Error there reason quoted) w k plain is same = cc

  -- the connection that has it due
  of_connection : (moment : Moment) (e : Entry) (v : View) (l : Option SocketId) → find (in_turn h.sockets (sends (goes_out_from h moment))) (let t = h.sockets in t.entries) ≡ Some e → e.role ≡ Connected v l → v.peer.addr ≡ to
      → due_segment (Connected v l) ≡ Some s → IsDueOf c h to s
  of_connection moment e v l found role peer due = by_due (first_due v) refl due
    where
      solid : IsSoundConnection v
      solid = let table = sound.table in subst IsSoundRole role (found-all (λ (x : Entry). IsSoundRole x.role) (in_turn h.sockets (sends (goes_out_from h moment))) (let t = h.sockets in t.entries) e table.entries found)

      lies : LiesAt (let t = h.sockets in t.addr) (Connected v l)
      lies = subst (LiesAt (let t = h.sockets in t.addr)) role (found-all (λ (x : Entry). LiesAt (let t = h.sockets in t.addr) x.role) (in_turn h.sockets (sends (goes_out_from h moment))) (let t = h.sockets in t.entries) e o.own found)

      under : entry_of h.sockets e.id ≡ Some e
      under = found_by_id (in_turn h.sockets (sends (goes_out_from h moment))) 0 (let t = h.sockets in t.last_id) (let t = h.sockets in t.entries) e o.ids found

      sees : connection_of e.id h ≡ Some v
      sees = seen e.id e.role role under
        where
          seen : (i : SocketId) (r : Role) → r ≡ Connected v l → entry_of h.sockets i ≡ Some (record { id = i; role = r }) → connection_of i h ≡ Some v
          seen i r is there = let at : entry_of h.sockets i ≡ Some (record { id = i; role = Connected v l }) = there ∙ ap (λ (x : Role). let y : Entry = record { id = i; role = x } in Some y) is in rw at refl

      by_due : (d : Option Due) → first_due v ≡ d → option_map (λ due. sent_segment (head_of v due) (octets_of v due)) d ≡ Some s → IsDueOf c h to s
      by_due None first is = cc
      by_due (Some d) first is =
          let same : s ≡ sent_segment (head_of v d) (octets_of v d) = (let both : ◌≡◌ {A = Option Segment} (Some (sent_segment (head_of v d) (octets_of v d))) (Some s) = is in cc) in
          let may : MayGoOut v d = due-may v d solid.sound first in
          record {
            id = e.id;
            v = v;
            connection = sees;
            lives = by_test (is_closed v.state) (λ closed. absurd (closed_brings_none v d solid.sound closed may (subst TakesNumbers same brings))) (λ n. n);
            own = lies.0 ∙ own;
            peer = peer;
            due = d;
            first = first;
            is = same;
          }

  -- what goes out for the table is for its peer
  by_table : (moment : Moment) (mac : Mac) (there : Addr) (k : Carried) → emission h moment ≡ Sends mac there → carried_by h moment (Sends mac there) ≡ Some k → Is k → IsDueOf c h to s
  by_table moment mac there k is carries same = by_entry (find (in_turn h.sockets (sends goes)) (let t = h.sockets in t.entries)) refl
    where
      goes : Addr → Bool
      goes = goes_out_from h moment

      made : Segment → Carried
      made x = record { mac = mac; to = there; segment = x }

      from_table : (o : Option ℕ) → emission_at h moment o ≡ Sends mac there → table_emission h moment ≡ Sends mac there
      from_table (Some place) same = cc
      from_table None same = same

      by_way : (a : Addr) (w : Way) → emission_by a w ≡ Sends mac there → a ≡ there
      by_way a (To theirs) same = cc
      by_way a (Ask hop) same = cc
      by_way a Waits same = cc

      by_segment : (e : Entry) (v : View) (l : Option SocketId) → find (in_turn h.sockets (sends goes)) (let t = h.sockets in t.entries) ≡ Some e → e.role ≡ Connected v l → v.peer.addr ≡ there → (x : Option Segment) → due_segment (Connected v l) ≡ x → option_map made x ≡ Some k → IsDueOf c h to s
      by_segment e v l found role peer None due one = cc
      by_segment e v l found role peer (Some x) due one =
          let both : made x ≡ k = (let got : ◌≡◌ {A = Option Carried} (Some (made x)) (Some k) = one in cc) in
          of_connection moment e v l found role (peer ∙ ap (λ (y : Carried). y.to) both ∙ same.0) (due ∙ ap (λ (y : Carried). Some y.segment) both ∙ ap (λ (y : Segment). Some y) same.1)

      by_role : (e : Entry) (r : Role) → find (in_turn h.sockets (sends goes)) (let t = h.sockets in t.entries) ≡ Some e → e.role ≡ r → (due : Endpoint × Outgoing) → due_to goes e.role ≡ Some due → (let p = due.0 in p.addr) ≡ there → option_map made (due_segment r) ≡ Some k → IsDueOf c h to s
      by_role e (Connected v l) found role due its at one =
          let first = first_segment goes v l due (ap (due_to goes) (sym role) ∙ its) in
          by_segment e v l found role (ap (λ (d : Endpoint × Outgoing). let p = d.0 in p.addr) first.is ∙ at) (due_segment (Connected v l)) refl one
      by_role e (Idle buffers bound) found role due its at one = cc
      by_role e (Listener local backlog) found role due its at one = cc
      by_role e (Datagrams bound socket) found role due its at one = cc

      by_entry : (x : Option Entry) → find (in_turn h.sockets (sends goes)) (let t = h.sockets in t.entries) ≡ x → IsDueOf c h to s
      by_entry None found =
          let none : carried_by h moment (Sends mac there) ≡ None = ap (λ (x : Option Entry). option_map made (option_and_then (λ (e : Entry). due_segment e.role) x)) found in
          let bad : ◌≡◌ {A = Option Carried} None (Some k) = sym none ∙ carries in cc
      by_entry (Some e) found =
          let due = found_due h.sockets goes e found in
          let peer : Addr = (let d = due.0 in let p = d.0 in p.addr) in
          let at : peer ≡ there = by_way peer (way h.interface moment peer) (sym (table_from h moment e due.0 found due.1) ∙ from_table (position (is_due h.interface moment) (let i = h.interface in i.replies)) is) in
          by_role e e.role found refl due.0 due.1 at (sym (ap (λ (x : Option Entry). option_map made (option_and_then (λ (y : Entry). due_segment y.role) x)) found) ∙ carries)

  by_emission : (moment : Moment) (x : Emission) (k : Carried) → emission h moment ≡ x → carried_by h moment x ≡ Some k → Is k → IsDueOf c h to s
  by_emission moment (Replies place) k is carries same = by_place (slice_get (let i = h.interface in i.replies) place) refl carries
    where
      by_place : (w : Option Waiting) → slice_get (let i = h.interface in i.replies) place ≡ w → carried_for h moment w ≡ Some k → IsDueOf c h to s
      by_place None at carries = cc
      by_place (Some waiting) at carries = by_reply waiting waiting.reply (way_of h.interface moment waiting.reply) k (at-all (λ (w : Waiting). TakesNone w.reply) (let i = h.interface in i.replies) place waiting bare at) carries same
  by_emission moment (Sends mac there) k is carries same = by_table moment mac there k is carries same
  by_emission moment (Asks hop) k is carries same = cc
  by_emission moment Nothing k is carries same = cc

  pub out_due : (now : Moment) (mac : Mac) (source : Addr) → heard mac to (emission_octets h now) ≡ Ok (Tcp (record { source = source; segment = s })) → IsDueOf c h to s
  out_due now mac source means =
      let heard_it : ReceivedSegment = record { source = source; segment = s } in
      let k = carried-hearer h now mac to (record { source = source; segment = s }) sound o means in
      let moment : Moment = later_moment h.sockets now in
      by_emission moment (emission h moment) k.0 refl k.1 (sym k.2, sym (ap (λ (r : ReceivedSegment). r.segment) k.3))

-- .. and is from its host
pub out_from : (c : ConfigView) (h : HostView) → IsSoundHost h → IsOrdered h.sockets → (let i = h.interface in i.addr) ≡ c.addr → (now : Moment) (mac : Mac) (source to : Addr) (s : Segment)
    → heard mac to (emission_octets h now) ≡ Ok (Tcp (record { source = source; segment = s })) → source ≡ c.addr
out_from c h sound o face now mac source to s means =
    let k = carried-hearer h now mac to (record { source = source; segment = s }) sound o means in ap (λ (r : ReceivedSegment). r.source) k.3 ∙ face
