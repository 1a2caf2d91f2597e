-- Why an exchange moves data.
use Rattle.std.proofs.Common.{◌≡◌, ◌≢◌, ℕ, ◌+◌, ◌<◌, ◌≤◌, ◌||◌, if◌then◌else◌, true, false, List, length, drop, Some, inl, inr, arith, refl, sym, ◌∙◌, ap, subst, ◌&&◌}
use Rattle.std.specs.List.{AllByRecursion}
use Rattle.std.proofs.lemmas.List.{length-drop}
use Rattle.clock.specs.declared.moment.Moment.{Moment}
use Rattle.ether.specs.declared.mac.Mac.{Mac}
use Rattle.ipv4.specs.declared.addr.Addr.{Addr}
use Rattle.ipv4.specs.declared.addr.Endpoint.{Endpoint}
use Rattle.tcp_segment.specs.Segment.{Segment}
use Rattle.frames.specs.Meaning.{heard}
use Rattle.interface.specs.Strangers.{is_no_host}
use Rattle.interface.specs.InterfaceView.{InterfaceView}
use Rattle.interface.specs.declared.way.Way.TheVariants.{To}
use Rattle.interface.specs.Ways.{way}
use Rattle.tcp_halves.specs.Halves.{Sending, Receiving}
use Rattle.tcp_halves.specs.Stream.{outstanding, receive_window}
use Rattle.tcp_halves.proofs.Choices.{and_false}
use Rattle.tcp_state.specs.declared.emission.Due.{Due}
use Rattle.tcp_state.specs.View.{View, IsSound, is_opening, is_closed, awaits_fin_ack, takes_flag_number}
use Rattle.tcp_state.specs.Guard.{is_spent}
use Rattle.tcp_state.specs.Arrival.{draws_one, holds_back}
use Rattle.tcp_state.specs.Due.{first_due}
use Rattle.tcp_state.specs.Edges.{Event, after_event}
use Rattle.tcp_state.specs.Progress.{BringsOldest}
use Rattle.tcp_state.specs.Said.{segment_of}
use Rattle.tcp_state.proofs.Minute.{oldest_brought}
use Rattle.tcp_state.proofs.Ordinary.{leaves_end}
use Rattle.tcp_state.proofs.OwedAlone.{owed_alone}
use Rattle.sockets.specs.declared.entry.SocketId.{SocketId}
use Rattle.sockets.specs.SocketsView.{later_moment}
use Rattle.tcp_halves.specs.declared.buffers.Manner.{Manner}
use Rattle.host.specs.Heard.{shuts_out}
use Rattle.host.specs.HostView.{HostView}
use Rattle.round_law.specs.Exchange.{Hosts, IsExchange, after_minute, minute_past}
use Rattle.round_law.specs.Progress.{Meet, Fits, MayMove, HasMoved}
use Rattle.round_law.proofs.Begun.{minute_rests, minute_leaves, meet_later, view_later, Begins, begins}
use Rattle.interface.specs.declared.reply.Waiting.{Waiting}
use Rattle.round_law.proofs.First.{Ends, first_comes}
use Rattle.round_law.proofs.Fitting.{first_fits}
use Rattle.round_law.proofs.Reports.{IsReport}
use Rattle.round_law.proofs.Found.{alone_there, named_there}
use Rattle.round_law.proofs.Plain.{IsPlain}
use Rattle.round_law.proofs.Quiet.{own_time, own_edge}
use Rattle.round_law.proofs.Reader.{Receives, receiver, Sends, sender, HasCome, StandsStill, stands_still, has_come_on, oldest_comes, frees}
use Rattle.round_law.proofs.Says.{Says, Brings, own_sound, IsSender, sends_first, out_says, plain_due, all_out}
use Rattle.round_law.proofs.Staying.{kept_later}
use Rattle.round_law.proofs.Taking.{IsTaker, takes_first, takes_on, all_taken}

-- where octets are outstanding and no flag is, some are held
held_some : (v : View) → IsSound v → is_opening v.state ≡ false → awaits_fin_ack v.state ≡ false → 0 < outstanding v.sending → 0 < length v.sending.held
held_some v sound past unshut some =
    let flag : takes_flag_number v.state ≡ false = ap (λ b. b || awaits_fin_ack v.state) past ∙ unshut in
    let few : outstanding v.sending ≤ length v.sending.held + 0 = subst (λ b. outstanding v.sending ≤ length v.sending.held + (if b then 1 else 0)) flag sound.flight in
    omega (arith, few, some)

module _ (old new : Hosts) (writer_id reader_id : SocketId) (v d : View) (may : MayMove old writer_id reader_id v d) (exchange : IsExchange old new) where
  abbrev h : HostView
  h = after_minute old.writer

  abbrev g : HostView
  g = after_minute old.reader

  abbrev w : View
  w = view_later old.writer v

  abbrev e : View
  e = view_later old.reader d

  abbrev mac_of_writer : Mac
  mac_of_writer = old.writer.interface.mac

  abbrev mac_of_reader : Mac
  mac_of_reader = old.reader.interface.mac

  sends : Sends v.state
  sends = sender v.state may.sends

  receives : Receives d.state
  receives = receiver d.state may.receives

  at_rest : Sends d.state
  at_rest = record { past = receives.past; unshut = receives.unshut; goes_on = receives.goes_on }

  writer : Begins old.writer writer_id v mac_of_reader
  writer = begins old.writer writer_id v mac_of_reader may.writer (minute_leaves old.writer writer_id v mac_of_reader may.writer sends may.patient.0 may.few)

  reader : Begins old.reader reader_id d mac_of_writer
  reader = begins old.reader reader_id d mac_of_writer may.reader (minute_rests old.reader reader_id d mac_of_writer may.reader at_rest may.patient.1 may.meet.held)

  meet : Meet w e
  meet = meet_later v d w e may.meet writer.streams.0 writer.streams.1 reader.streams.0 reader.streams.1

  state : Receives e.state
  state = subst Receives (sym reader.streams.2) receives

  past : is_opening w.state ≡ false
  past = ap is_opening writer.streams.2 ∙ sends.past

  unshut : awaits_fin_ack w.state ≡ false
  unshut = ap awaits_fin_ack writer.streams.2 ∙ sends.unshut

  local : e.local ≡ w.peer
  local = reader.local ∙ (sym may.peer ∙ sym writer.peer)

  peer : e.peer ≡ w.local
  peer = reader.peer ∙ (sym may.local ∙ sym writer.local)

  -- The writer's frames.

  abbrev frames : List (List ℕ)
  frames = exchange.bringing.frames

  abbrev first_sender : IsSender h w writer_id h w
  first_sender = sends_first h w writer_id writer.alone writer.reports

  sent : AllByRecursion (Brings mac_of_reader w.peer.addr h.interface.addr (IsPlain w)) frames × ((c : View) × IsSender h w writer_id exchange.between.writer c)
  sent = all_out h w writer_id mac_of_reader writer.leads writer.other past unshut frames h w exchange.between.writer first_sender exchange.bringing.out

  at_reader : w.peer.addr ≡ g.interface.addr
  at_reader = ap (λ (p : Endpoint). p.addr) (sym local) ∙ (reader.own ∙ sym reader.same)

  at_writer : w.local.addr ≡ h.interface.addr
  at_writer = writer.own ∙ sym writer.same

  lets : shuts_out g h.interface.addr ≡ false
  lets = ap (shuts_out g) (sym at_writer ∙ ap (λ (p : Endpoint). p.addr) (sym peer)) ∙ reader.lets

  said : AllByRecursion (Brings g.interface.mac g.interface.addr h.interface.addr (IsPlain w)) frames
  said =
      subst (λ (a : Addr). AllByRecursion (Brings g.interface.mac a h.interface.addr (IsPlain w)) frames) at_reader
      (subst (λ (m : Mac). AllByRecursion (Brings m w.peer.addr h.interface.addr (IsPlain w)) frames) (sym reader.own_mac) sent.0)

  -- The reader hears them.

  abbrev Q : View → Type 0
  Q c = StandsStill e c × HasCome e meet.una meet.next c

  keeps : (c : View) (s : Segment) (now : Moment) → IsSound c → c.released ≡ false → c.state ≡ e.state → (after_event c (Event.Hears s now)).state ≡ e.state → IsPlain w s → Q c → Q (after_event c (Event.Hears s now))
  keeps c s now sound called before after plain q =
      let past_it = ap is_opening before ∙ state.past in
      let lives = ap is_closed after ∙ reader.alone.lives in (
        stands_still e meet.una meet.next c s now sound called past_it plain.ordinary.no_rst plain.no_fin lives q.0,
        has_come_on e meet.una meet.next c s now sound called past_it plain.ordinary.no_rst plain.no_fin lives q.1,
      )

  abbrev Read : Type 0
  Read = (c : View) × IsTaker g e reader_id exchange.between.reader c × Q c

  abbrev first_taker : IsTaker g e reader_id g e
  first_taker = takes_first g e reader_id reader.alone

  fits : Fits w.sending e.receiving
  fits = subst (λ (t : Sending). Fits t e.receiving) (sym writer.streams.0) (subst (λ (r : Receiving). Fits v.sending r) (sym reader.streams.1) may.fits)

  -- with the oldest octet first
  oldest_first : 0 < receive_window d.receiving → (due : Due) → first_due w ≡ Some due → BringsOldest w (segment_of w due) → Read
  oldest_first room due first brings =
      let x = first_comes h w writer_id mac_of_reader writer.leads writer.other past unshut g e reader_id reader.own at_writer local peer state.past state.unshut lets (sym reader.own_mac) at_reader due first frames h g exchange.between.writer exchange.between.reader 0 first_sender first_taker
      (omega (arith, writer.few)) said exchange.bringing.out exchange.bringing.brought (subst (λ n. Ends n exchange.between.writer) (omega arith) exchange.bringing.ends) in
      let s = segment_of w due in
      let now = later_moment x.to.sockets x.to.sockets.kept in
      let plain = plain_due h w writer_id mac_of_reader writer.leads writer.other past unshut x.from w x.octets x.sent x.sender x.idle x.out due first in
      let heard_there = out_says h w writer_id mac_of_reader writer.leads writer.other past unshut x.from w x.octets x.sent x.sender x.idle x.out due first in
      let heard_here = ap (λ (a : Addr). heard g.interface.mac a x.octets) (sym at_reader) ∙ (ap (λ (m : Mac). heard m w.peer.addr x.octets) reader.own_mac ∙ heard_there) in
      let it : Says g.interface.mac g.interface.addr h.interface.addr (IsPlain w) x.octets = (s, heard_here, plain) in
      let taker = takes_on g e reader_id w h.interface.addr reader.own at_writer local peer state.past state.unshut lets x.to e x.octets x.taken x.taker x.brought it in
      let sound = own_sound x.to reader_id e x.brought.0 x.taker.alone in
      let lives = taker.alone.lives in
      let sound_writer = own_sound x.from writer_id w x.out.kept x.sender.alone in
      let room_then : 0 < receive_window e.receiving = subst (λ (r : Receiving). 0 < receive_window r) (sym reader.streams.1) room in
      let still = stands_still e meet.una meet.next e s now sound reader.alone.called state.past plain.ordinary.no_rst plain.no_fin lives (meet.held, refl) in
      let shown : now ≡ g.sockets.kept = kept_later x.to.sockets ∙ x.taker.host.moment in
      let free : holds_back e s now ≡ false = ap (λ m. draws_one e s && is_spent e.guard m) shown ∙ (ap (λ u. draws_one e s && u) reader.rested ∙ and_false (draws_one e s)) in
      let come = oldest_comes w e s now meet sound_writer sound reader.alone.called state brings plain.no_fin (own_edge x.to reader_id e x.brought.0 x.taker.alone) (first_fits w e meet fits sound_writer writer.alone.lives room_then due first) free lives in
      all_taken g e reader_id w h.interface.addr reader.own at_writer local peer state.past state.unshut lets Q keeps x.rest x.taken (after_event e (Event.Hears s now)) exchange.between.reader x.all taker (still, come) x.more

  read : Read
  read = elim may.some [
    | inl some ↦
        let readable : length e.receiving.readable ≡ length d.receiving.readable = ap (λ (r : Receiving). length r.readable) reader.streams.1 in
        all_taken g e reader_id w h.interface.addr reader.own at_writer local peer state.past state.unshut lets Q keeps frames g e exchange.between.reader said first_taker ((meet.held, refl), inl (omega (arith, readable, some))) exchange.bringing.brought
    | inr held ↦
        let time = own_time old.writer writer_id v may.writer.kept (alone_there old.writer writer_id v mac_of_reader may.writer) in
        let oldest = oldest_brought v (minute_past old.writer.sockets.kept) (own_sound old.writer writer_id v may.writer.kept (alone_there old.writer writer_id v mac_of_reader may.writer)) time.0 time.1 held.0 may.writer.come may.few in
        oldest_first held.1 oldest.0 oldest.1 oldest.2
  ]

  -- The reader's frames.

  abbrev c : View
  c = read.0

  abbrev b : View
  b = sent.1.0

  taker : IsTaker g e reader_id exchange.between.reader c
  taker = read.1

  sender_then : IsSender h w writer_id exchange.between.writer b
  sender_then = sent.1.1

  past_reader : is_opening c.state ≡ false
  past_reader = ap is_opening taker.state ∙ state.past

  unshut_reader : awaits_fin_ack c.state ≡ false
  unshut_reader = ap awaits_fin_ack taker.state ∙ state.unshut

  leads_back : (let at = exchange.between.reader in way at.interface at.sockets.kept c.peer.addr) ≡ To mac_of_writer
  leads_back =
      let at = exchange.between.reader in
      ap (λ (i : InterfaceView). way i at.sockets.kept c.peer.addr) taker.host.interface
      ∙ (ap (λ (m : Moment). way g.interface m c.peer.addr) taker.host.moment ∙ (ap (λ (p : Endpoint). way g.interface g.sockets.kept p.addr) taker.peer ∙ reader.leads))

  other_back : exchange.between.reader.interface.addr ≢ c.peer.addr
  other_back same = reader.other (sym (ap (λ (i : InterfaceView). i.addr) taker.host.interface) ∙ (same ∙ ap (λ (p : Endpoint). p.addr) taker.peer))

  reports_then : AllByRecursion (IsReport c.peer.addr) exchange.between.reader.interface.replies
  reports_then = subst (λ (l : List Waiting). AllByRecursion (IsReport c.peer.addr) l) (sym taker.waits) (subst (λ (p : Endpoint). AllByRecursion (IsReport p.addr) g.interface.replies) (sym taker.peer) reader.reports)

  abbrev first_answerer : IsSender exchange.between.reader c reader_id exchange.between.reader c
  first_answerer = sends_first exchange.between.reader c reader_id taker.alone reports_then

  abbrev answers : List (List ℕ)
  answers = exchange.answering.frames

  answered : AllByRecursion (Brings mac_of_writer c.peer.addr exchange.between.reader.interface.addr (IsPlain c)) answers × ((z : View) × IsSender exchange.between.reader c reader_id new.reader z)
  answered = all_out exchange.between.reader c reader_id mac_of_writer leads_back other_back past_reader unshut_reader answers exchange.between.reader c new.reader first_answerer exchange.answering.out

  -- The writer hears them.

  own_back : b.local.addr ≡ exchange.between.writer.sockets.addr
  own_back = ap (λ (p : Endpoint). p.addr) sender_then.local ∙ (writer.own ∙ sym sender_then.host.addr)

  theirs_back : c.local.addr ≡ exchange.between.reader.interface.addr
  theirs_back = ap (λ (p : Endpoint). p.addr) taker.local ∙ (reader.own ∙ (sym reader.same ∙ ap (λ (i : InterfaceView). i.addr) (sym taker.host.interface)))

  local_back : b.local ≡ c.peer
  local_back = sender_then.local ∙ (sym peer ∙ sym taker.peer)

  peer_back : b.peer ≡ c.local
  peer_back = sender_then.peer ∙ (sym local ∙ sym taker.local)

  past_back : is_opening b.state ≡ false
  past_back = ap is_opening sender_then.state ∙ past

  unshut_back : awaits_fin_ack b.state ≡ false
  unshut_back = ap awaits_fin_ack sender_then.state ∙ unshut

  at_writer_back : c.peer.addr ≡ exchange.between.writer.interface.addr
  at_writer_back =
      ap (λ (p : Endpoint). p.addr) (sym local_back) ∙ (own_back ∙ (sender_then.host.addr ∙ (sym writer.same ∙ ap (λ (i : InterfaceView). i.addr) (sym sender_then.host.interface))))

  lets_back : shuts_out exchange.between.writer exchange.between.reader.interface.addr ≡ false
  lets_back =
      let to = exchange.between.writer in
      let from = exchange.between.reader.interface.addr in
      ap (λ (m : Manner). m.guards && is_no_host to.interface from) sender_then.host.manner
      ∙ ap (λ (i : InterfaceView). h.sockets.manner.guards && is_no_host i from) sender_then.host.interface
      ∙ ap (shuts_out h) (sym theirs_back ∙ ap (λ (p : Endpoint). p.addr) (sym peer_back ∙ sender_then.peer))
      ∙ writer.lets

  mac_back : mac_of_writer ≡ exchange.between.writer.interface.mac
  mac_back = sym (ap (λ (i : InterfaceView). i.mac) sender_then.host.interface ∙ writer.own_mac)

  said_back : AllByRecursion (Brings exchange.between.writer.interface.mac exchange.between.writer.interface.addr exchange.between.reader.interface.addr (IsPlain c)) answers
  said_back =
      subst (λ (a : Addr). AllByRecursion (Brings exchange.between.writer.interface.mac a exchange.between.reader.interface.addr (IsPlain c)) answers) at_writer_back
      (subst (λ (m : Mac). AllByRecursion (Brings m c.peer.addr exchange.between.reader.interface.addr (IsPlain c)) answers) mac_back answered.0)

  abbrev Written : (View → Type 0) → Type 0
  Written R = (y : View) × IsTaker exchange.between.writer b writer_id new.writer y × R y

  abbrev first_hearer : IsTaker exchange.between.writer b writer_id exchange.between.writer b
  first_hearer = takes_first exchange.between.writer b writer_id sender_then.alone

  abbrev HoldsLess : View → Type 0
  HoldsLess y = length y.sending.held < length v.sending.held

  less_still : (y : View) (s : Segment) (now : Moment) → IsSound y → y.released ≡ false → y.state ≡ b.state → (after_event y (Event.Hears s now)).state ≡ b.state → IsPlain c s → HoldsLess y → HoldsLess (after_event y (Event.Hears s now))
  less_still y s now sound called before after plain less =
      let left = leaves_end y s now in
      let long : length (after_event y (Event.Hears s now)).sending.held ≡ length (drop left.0 y.sending.held) = ap length left.1 in
      omega (arith, long, length-drop left.0 y.sending.held, less)

  -- with the acknowledgement first
  ack_first : c.owes_ack ≡ true → c.receiving.rnext ≡ e.receiving.rnext → meet.una < meet.next → Written HoldsLess
  ack_first owes number more =
      let from = exchange.between.reader in
      let to = exchange.between.writer in
      let alone = owed_alone c (own_sound from reader_id c exchange.answering.kept taker.alone) past_reader unshut_reader read.2.0.0 owes in
      let waits : length from.interface.replies ≡ length g.interface.replies = ap length taker.waits in
      let x = first_comes from c reader_id mac_of_writer leads_back other_back past_reader unshut_reader to b writer_id own_back theirs_back local_back peer_back past_back unshut_back lets_back mac_back at_writer_back Due.Ack alone.0 answers from to new.reader new.writer 0 first_answerer first_hearer
      (omega (arith, waits, reader.few)) said_back exchange.answering.out exchange.answering.brought (subst (λ n. Ends n new.reader) (omega arith) exchange.answering.ends) in
      let s = segment_of c Due.Ack in
      let now = later_moment x.to.sockets x.to.sockets.kept in
      let plain = plain_due from c reader_id mac_of_writer leads_back other_back past_reader unshut_reader x.from c x.octets x.sent x.sender x.idle x.out Due.Ack alone.0 in
      let heard_there = out_says from c reader_id mac_of_writer leads_back other_back past_reader unshut_reader x.from c x.octets x.sent x.sender x.idle x.out Due.Ack alone.0 in
      let heard_here = ap (λ (a : Addr). heard to.interface.mac a x.octets) (sym at_writer_back) ∙ (ap (λ (m : Mac). heard m c.peer.addr x.octets) (sym mac_back) ∙ heard_there) in
      let it : Says to.interface.mac to.interface.addr from.interface.addr (IsPlain c) x.octets = (s, heard_here, plain) in
      let hearer = takes_on to b writer_id c from.interface.addr own_back theirs_back local_back peer_back past_back unshut_back lets_back x.to b x.octets x.taken x.taker x.brought it in
      let sound_writer = own_sound x.to writer_id b x.brought.0 x.taker.alone in
      let within : meet.next ≤ meet.una + outstanding b.sending = omega (arith, meet.sent, sender_then.grown) in
      let some = held_some b sound_writer past_back unshut_back (omega (arith, more, within)) in
      let number_then : s.number ≡ b.receiving.rnext = alone.1.number ∙ (read.2.0.1 ∙ (sym meet.answered ∙ sym sender_then.next)) in
      let freed = frees b s now meet.initial meet.una meet.next sound_writer some alone.1.ordinary alone.1.octets alone.1.no_fin number_then (sender_then.una ∙ meet.una_number) (alone.1.acknowledgement ∙ (number ∙ meet.next_number)) more within in
      let held : length b.sending.held ≡ length v.sending.held = ap length sender_then.held ∙ ap (λ (t : Sending). length t.held) writer.streams.0 in
      all_taken to b writer_id c from.interface.addr own_back theirs_back local_back peer_back past_back unshut_back lets_back HoldsLess less_still x.rest x.taken (after_event b (Event.Hears s now)) new.writer x.all hearer (omega (arith, freed, held)) x.more

  abbrev z : View
  z = answered.1.0

  last : IsSender exchange.between.reader c reader_id new.reader z
  last = answered.1.1

  state_then : b.state ≡ v.state
  state_then = sender_then.state ∙ writer.streams.2

  last_state : z.state ≡ d.state
  last_state = last.state ∙ (taker.state ∙ reader.streams.2)

  pub moves : HasMoved new writer_id reader_id v d
  moves = elim read.2.1 [
    | inl some ↦
        let written : Written (λ y. Unit {0}) = all_taken exchange.between.writer b writer_id c exchange.between.reader.interface.addr own_back theirs_back local_back peer_back past_back unshut_back lets_back (λ y. Unit {0}) (λ y s now sound called before after plain t. tt)
        answers exchange.between.writer b new.writer said_back first_hearer tt exchange.answering.brought in
        let readable : length z.receiving.readable ≡ length c.receiving.readable = ap length last.readable in
        record { written = written.0; read = z; writer = named_there new.writer writer_id written.0 written.1.alone; reader = named_there new.reader reader_id z last.alone; states = (written.1.state ∙ state_then, last_state); moved = inl (omega (arith, readable, some)) }
    | inr owed ↦
        let written = ack_first owed.0 owed.1 owed.2 in
        record { written = written.0; read = z; writer = named_there new.writer writer_id written.0 written.1.alone; reader = named_there new.reader reader_id z last.alone; states = (written.1.state ∙ state_then, last_state); moved = inr written.2 }
  ]
