-- Where the connections of two sockets that are each other's ends stand in the streams between them, read off the law of the stream.
use Rattle.std.proofs.Common.{◌≡◌, ◌⊎◌, inl, inr, ℕ, ◌+◌, ◌-◌, ◌<◌, ◌≤◌, ◌==◌, not, if◌then◌else◌, Bool, true, false, List, [], ◌++◌, length, length-append, Option, Some, None, option_map, arith, refl, sym, ◌∙◌, ap, subst}
use Rattle.std.specs.List.{find}
use Rattle.std.proofs.lemmas.Bool.{and_parts}
use Rattle.ipv4.specs.declared.addr.Pair.{Pair}
use Rattle.ipv4.specs.Addresses.{pair_of}
use Rattle.ipv4.proofs.Pairs.{pair_of-swapped}
use Rattle.tcp_segment.specs.Wire.{wire, past}
use Rattle.tcp_segment.proofs.StreamPositions.{past-wire}
use Rattle.tcp_halves.specs.Stream.{outstanding}
use Rattle.tcp_state.specs.declared.state.State.{State}
use Rattle.tcp_state.specs.declared.state.State.TheVariants.{Established, FinWait2, CloseWait}
use Rattle.tcp_state.specs.View.{View, is_closed, is_opening, is_read_closed, is_syn_sent, is_write_closed, is_write_finished}
use Rattle.sockets.specs.declared.entry.Entry.{Entry}
use Rattle.sockets.specs.declared.entry.SocketId.{SocketId}
use Rattle.sockets.specs.declared.role.Role.{Role}
use Rattle.sockets.specs.declared.role.Role.TheVariants.{Connected}
use Rattle.sockets.specs.Entries.{is_socket}
use Rattle.sockets.specs.SocketsView.{role_of}
use Rattle.stream_law.specs.Channel.{Channel, Sending, Receiving, Waiting, Synchronised, number_of}
use Rattle.stream_law.specs.ChannelViews.{SendsInto, sender_of, receiver_of}
use Rattle.stream_law.specs.Pairing.{Emission, Present}
use Rattle.window_law.specs.Windows.{Talks}
use Rattle.window_law.proofs.Run.{meets as talks_meet}
use Rattle.stream_law.proofs.ChannelLaw.{holds}
use Rattle.stream_law.proofs.Invariant.{Holds, SenderFits, SendingFits, ReceiverFits, ReceivingFits}
use Rattle.stream_law.proofs.PairingInvariant.{Connected as Attached, Shown, open_tells}
use Rattle.stream_law.proofs.PairingLaw.{shown}
use Rattle.stream_law.proofs.Sizes.{most_held}
use Rattle.round_law.specs.Progress.{Meet}
use Rattle.sides.specs.declared.side.Side.{Side}
use Rattle.sides.specs.Sides.{same_side}
use Rattle.wire_sim.specs.declared.event.Happening.{Happening}
use Rattle.wire_sim.specs.declared.event.Opening.{Opening}
use Rattle.wire_sim.specs.Openings.{epoch_of}
use Rattle.wire_sim.specs.Tallies.{is_opening_of, is_opening_at}
use Rattle.wire_sim.specs.Trace.{sent_on, read_on}
use Rattle.wire_sim.specs.WorldView.{NetworkView, table_of}
use Rattle.wire_sim.proofs.lists.FoundAfterChange.{find-passes}
use Rattle.wire_sim.proofs.openings.OctetsAreCovered.{both-ways}
use Rattle.wire_sim.proofs.pairing.EndMoves.{pairing}
use Rattle.wire_sim.proofs.pairing.WorldAsPairings.{told}
use Rattle.stream_law.proofs.SomeLimit.{some-limit}
use Rattle.wire_sim.proofs.runs.RunsAreLawful.{IsOrderly}
use Rattle.wire_sim.proofs.tables.CallsOnTable.{found_socket}
use Rattle.wire_sim.proofs.tables.TableById.{IsOpened, presence_in, end_with, end_of, end_at, found-role, role_at, same_id}

-- The end of a connection.

-- the entry of a socket's connection
pub socket-entry : (xs : List Entry) (id : SocketId) (r : Role) (o : Option Entry) → find (is_socket id) xs ≡ o → option_map (λ (e : Entry). e.role) o ≡ Some r → find (is_socket id) xs ≡ Some (record { id = id; role = r })
socket-entry xs id r None at is = cc
socket-entry xs id r (Some e) at is = let role : e.role ≡ r = cc in found_socket xs id e r at role

-- of the pair of its ends, in the pair's present epoch, a connection is the end at its side
pub stands_at : (limit : ℕ) (hs ts : Side) (n : NetworkView) (trace : List Happening) → IsOrderly limit hs ts n trace → (id : SocketId) (c : View) (l : Option SocketId) → (let h = table_of n hs in role_at h.entries id.0) ≡ Some (Connected c l)
    → is_closed c.state ≡ false → (pair : Pair) → pair_of c.local c.peer ≡ pair → (let h = table_of n hs in end_at hs n.openings h.entries (told hs trace) pair (epoch_of n.openings pair)) ≡ end_with (Present c) (told hs trace id)
stands_at limit hs ts n trace w id c l here lives pair ends =
    ap (end_of xs (told hs trace)) (ap (λ (p : Pair). find (is_opening_of hs p (epoch_of os p)) os) (sym same) ∙ ap (λ (e : ℕ). find (is_opening_of hs o.pair e) os) (sym (opened.present lives)) ∙ both-ways hs os id o w.projects.ledger opened.at)
    ∙ (ap (λ (i : SocketId). end_with (presence_in (role_at xs i.0)) (told hs trace i)) its ∙ ap (λ (r : Option Role). end_with (presence_in r) (told hs trace id)) here)
  where
    xs : List Entry
    xs = let h = table_of n hs in h.entries

    os : List Opening
    os = n.openings

    opened : IsOpened hs w.a os id c
    opened = w.projects.own_table.noted id (Connected c l) here

    o : Opening
    o = opened.opening

    same : o.pair ≡ pair
    same = opened.pair ∙ ends

    its : o.id ≡ id
    its = same_id o.id id (and_parts (same_side o.side hs) (o.id.0 == id.0) (find-passes (is_opening_at hs id) os o opened.at)).1

stands : (limit : ℕ) (hs ts : Side) (n : NetworkView) (trace : List Happening) → IsOrderly limit hs ts n trace → (id : SocketId) (c : View) → role_of (table_of n hs) id ≡ Some (Connected c None) → is_closed c.state ≡ false
    → (pair : Pair) → pair_of c.local c.peer ≡ pair → (let h = table_of n hs in end_at hs n.openings h.entries (told hs trace) pair (epoch_of n.openings pair)) ≡ end_with (Present c) (told hs trace id)
stands limit hs ts n trace w id c named lives pair ends =
    let xs : List Entry = (let h = table_of n hs in h.entries) in
    stands_at limit hs ts n trace w id c None (found-role (is_socket id) xs (record { id = id; role = Connected c None }) w.projects.own_table.sole (socket-entry xs id (Connected c None) (find (is_socket id) xs) refl named)) lives pair ends

-- its own address is that of its host's table
pub own-end : (limit : ℕ) (hs ts : Side) (n : NetworkView) (trace : List Happening) → IsOrderly limit hs ts n trace → (id : SocketId) (c : View) → role_of (table_of n hs) id ≡ Some (Connected c None) → c.local.addr ≡ (let h = table_of n hs in h.addr)
own-end limit hs ts n trace w id c named =
    let xs : List Entry = (let h = table_of n hs in h.entries) in
    let here = found-role (is_socket id) xs (record { id = id; role = Connected c None }) w.projects.own_table.sole (socket-entry xs id (Connected c None) (find (is_socket id) xs) refl named) in
    let opened : IsOpened hs w.a n.openings id c = w.projects.own_table.noted id (Connected c None) here in
    opened.local ∙ sym w.projects.own_addr

-- Positions in a channel.

at-most-one : (b : Bool) → number_of b ≤ 1
at-most-one true = omega arith
at-most-one false = omega arith

-- what is outstanding of a sender
under-way : (c : Channel) (v : View) (h : Holds most_held c) → SenderFits most_held h.isn c.written c.closed (sender_of v) h.u h.n → outstanding v.sending ≡ h.n - h.u
under-way c v h fits =
    let order = h.order in
    let closed = at-most-one c.closed in
    ap (λ (a : ℕ). past a v.sending.una) fits.nxt
    ∙ (ap (λ (b : ℕ). past (wire h.isn h.n) b) fits.una
    ∙ past-wire h.isn h.u h.n (omega (arith, order.received, order.sent)) (omega (arith, order.written_first, order.within, closed)))

-- The connection `v` sends into a channel, and `d` receives from it.
record Joins (v d : View) (c : Channel) : Type 0 where
  held : Holds most_held c
  sender : SenderFits most_held held.isn c.written c.closed (sender_of v) held.u held.n
  receiver : ReceiverFits held.isn c.written (c.read ++ c.readable) c.end_seen (receiver_of d.receiving) held.r held.n
  closed : c.closed ≡ is_write_closed v.state
  readable : c.readable ≡ d.receiving.readable
  end_seen : c.end_seen ≡ is_read_closed d.state

joins : (limit : ℕ) (v d : View) (c other : Channel) → Holds most_held c → is_closed v.state ≡ false → is_closed d.state ≡ false → is_syn_sent d.state ≡ false → Attached v c other → Attached d other c → Joins v d c
joins limit v d c other h lives_v lives_d synchronised own peer =
    let sends : SendsInto v c = own.sends lives_v in
    let receives : c.receiving ≡ Synchronised (receiver_of d.receiving) = peer.receiving lives_d ∙ ap (λ (b : Bool). if b then Waiting else Synchronised (receiver_of d.receiving)) synchronised in
    record {
      held = h;
      sender = subst (λ (s : Sending). SendingFits most_held h.isn c.written c.closed c.frames s h.u h.n) sends.sending h.sending;
      receiver = subst (λ (y : Receiving). ReceivingFits h.isn c.written (c.read ++ c.readable) c.end_seen y h.r h.n) receives h.receiving;
      closed = sends.closed;
      readable = peer.readable (open_tells d lives_d);
      end_seen = peer.end_seen (open_tells d lives_d);
    }

-- Two connections.

-- in these states the one sends, and the other receives
abbrev pub Sends : State → Type 0
Sends s = (s ≡ Established) ⊎ (s ≡ CloseWait)

abbrev pub Receives : State → Type 0
Receives s = (s ≡ Established) ⊎ (s ≡ FinWait2)

pub sender-open : (s : State) → Sends s → (is_closed s ≡ false) × (is_opening s ≡ false) × (is_syn_sent s ≡ false) × (is_write_finished s ≡ false)
sender-open s (inl is) = (ap is_closed is, ap is_opening is, ap is_syn_sent is, ap is_write_finished is)
sender-open s (inr is) = (ap is_closed is, ap is_opening is, ap is_syn_sent is, ap is_write_finished is)

pub receiver-open : (s : State) → Receives s → (is_closed s ≡ false) × (is_opening s ≡ false) × (is_syn_sent s ≡ false) × (is_read_closed s ≡ false) × (is_write_finished s ≡ is_write_closed s)
receiver-open s (inl is) = (ap is_closed is, ap is_opening is, ap is_syn_sent is, ap is_read_closed is, ap is_write_finished is ∙ sym (ap is_write_closed is))
receiver-open s (inr is) = (ap is_closed is, ap is_opening is, ap is_syn_sent is, ap is_read_closed is, ap is_write_finished is ∙ sym (ap is_write_closed is))

-- What a world shows of them: octets may be written while something is under way; they meet in both streams; and where nothing of what was sent can be read, some is held.
pub record AreMet (limit : ℕ) (v d : View) (written read : List ℕ) : Type 0 where
  pub some : 0 < limit
  pub meet : Meet v d
  pub held : length read < length written → d.receiving.readable ≡ [] → 0 < length v.sending.held

module _ (limit : ℕ) (v d : View) (sends : Sends v.state) (receives : Receives d.state) (acknowledged : d.sending.held ≡ []) where
  -- of the reader's own stream all came and is acknowledged
  answered : (c : Channel) → Joins d v c → v.receiving.rnext ≡ d.sending.nxt
  answered c j =
      let h = j.held in
      let order = h.order in
      let own = receiver-open d.state receives in
      let fits = j.sender in
      let taken : length c.written ≡ length fits.taken + 0 = ap length fits.text ∙ (length-append fits.taken d.sending.held ∙ ap (λ (l : List ℕ). length fits.taken + length l) acknowledged) in
      let synced : number_of (not (is_opening d.state)) ≡ 1 = ap (λ (b : Bool). number_of (not b)) own.1 in
      let fin : number_of (is_write_finished d.state) ≡ number_of c.closed = ap number_of (own.4 ∙ sym j.closed) in
      let last : h.r ≡ h.n = omega (arith, order.received, order.sent, order.written_first, fits.position, taken, synced, fin) in
      j.receiver.rnext ∙ (ap (wire h.isn) last ∙ sym fits.nxt)

  meets : (c other : Channel) → Joins v d c → Joins d v other → Meet v d
  meets c other j back =
      let h = j.held in
      let order = h.order in
      let out = under-way c v h j.sender in
      record {
        initial = h.isn;
        una = h.u;
        next = h.r;
        una_number = j.sender.una;
        next_number = j.receiver.rnext;
        behind = order.received;
        sent = omega (arith, out, order.received, order.sent);
        held = acknowledged;
        answered = answered other back;
      }

  -- what was written and not read is held, where nothing can be read
  some-held : (c : Channel) → Joins v d c → length c.read < length c.written → d.receiving.readable ≡ [] → 0 < length v.sending.held
  some-held c j fewer none =
      let h = j.held in
      let fits = j.sender in
      let own = sender-open v.state sends in
      let peer = receiver-open d.state receives in
      let written : length c.written ≡ length fits.taken + length v.sending.held = ap length fits.text ∙ length-append fits.taken v.sending.held in
      let got : length (c.read ++ c.readable) ≡ length c.read + 0 = length-append c.read c.readable ∙ ap (λ (l : List ℕ). length c.read + length l) (j.readable ∙ none) in
      let synced : number_of (not (is_opening v.state)) ≡ 1 = ap (λ (b : Bool). number_of (not b)) own.1 in
      let fin : number_of (is_write_finished v.state) ≡ 0 = ap number_of own.3 in
      let seen : number_of c.end_seen ≡ 0 = ap number_of (j.end_seen ∙ peer.3) in
      omega (arith, fewer, written, got, synced, fin, seen, fits.position, j.receiver.position, h.order.received)

  pub are-met : (hs ts : Side) (n : NetworkView) (trace : List Happening) → IsOrderly limit hs ts n trace → (writer_id reader_id : SocketId) → role_of (table_of n hs) writer_id ≡ Some (Connected v None)
      → role_of (table_of n ts) reader_id ≡ Some (Connected d None) → IsOrderly limit ts hs n trace → v.local ≡ d.peer → v.peer ≡ d.local → AreMet limit v d (sent_on hs writer_id trace) (read_on ts reader_id trace)
  are-met hs ts n trace w writer_id reader_id writer reader back local peer = record {
    some = some-limit most_held limit h.into (sender_of v) h.runs_into (own.sends lives_v).sending (ap not (sender-open v.state sends).1);
    meet = meets h.into h.from there answer;
    held = λ fewer none. some-held h.into there (subst (λ (l : List ℕ). length l < length h.into.written) (sym h.other.read) (subst (λ (l : List ℕ). length (read_on ts reader_id trace) < length l) (sym h.own.written) fewer)) none;
  }
    where
      pair : Pair
      pair = pair_of v.local v.peer

      epoch : ℕ
      epoch = epoch_of n.openings pair

      lives_v : is_closed v.state ≡ false
      lives_v = (sender-open v.state sends).0

      lives_d : is_closed d.state ≡ false
      lives_d = (receiver-open d.state receives).0

      ends : pair_of d.local d.peer ≡ pair
      ends = pair_of-swapped d.local d.peer ∙ (ap (λ x. pair_of x d.local) (sym local) ∙ ap (λ x. pair_of v.local x) (sym peer))

      out : List Emission
      out = w.bag.out pair epoch

      arrived : List Emission
      arrived = w.bag.arrived pair epoch

      met : Talks limit (pairing (end_with (Present v) (told hs trace writer_id)) (end_with (Present d) (told ts trace reader_id)) out arrived)
      met =
          subst (λ e. Talks limit (pairing e (end_with (Present d) (told ts trace reader_id)) out arrived)) (stands limit hs ts n trace w writer_id v writer lives_v pair refl)
          (subst (λ e. Talks limit (pairing (let t = table_of n hs in end_at hs n.openings t.entries (told hs trace) pair epoch) e out arrived)) (stands limit ts hs n trace back reader_id d reader lives_d pair ends)
          (w.projects.talks pair epoch))

      h : Shown most_held limit (pairing (end_with (Present v) (told hs trace writer_id)) (end_with (Present d) (told ts trace reader_id)) out arrived)
      h = shown limit _ (talks_meet limit _ met)

      own : Attached v h.into h.from
      own = h.own.connection

      other : Attached d h.from h.into
      other = h.other.connection

      there : Joins v d h.into
      there = joins limit v d h.into h.from (holds most_held limit (record { buffer = omega arith; recency = w.projects.small }) h.into h.runs_into) lives_v lives_d (receiver-open d.state receives).2 own other

      answer : Joins d v h.from
      answer = joins limit d v h.from h.into (holds most_held limit (record { buffer = omega arith; recency = w.projects.small }) h.from h.runs_from) lives_d lives_v (sender-open v.state sends).2 other own
