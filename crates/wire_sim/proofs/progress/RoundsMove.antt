-- Why a round moves data: it is an exchange that moves some, and then the reader reads.
use Rattle.std.proofs.Common.{◌≡◌, ◌⊎◌, inl, inr, ℕ, ◌+◌, ◌<◌, ◌||◌, false, List, [], ◌∷◌, length, Option, Some, None, arith, refl, sym, ◌∙◌, ap, subst}
use Rattle.std.specs.List.{find}
use Rattle.ether.specs.declared.mac.Mac.{Mac}
use Rattle.ipv4.specs.declared.addr.Endpoint.{Endpoint}
use Rattle.tcp_halves.specs.Stream.{receive_window}
use Rattle.tcp_state.specs.declared.emission.Due.{Due}
use Rattle.tcp_state.specs.Due.{first_due}
use Rattle.tcp_state.specs.View.{View, is_closed, is_opening}
use Rattle.sockets.specs.declared.entry.SocketId.{SocketId}
use Rattle.sockets.specs.declared.role.Role.TheVariants.{Connected}
use Rattle.sockets.specs.Entries.{segment_due, is_socket}
use Rattle.sockets.specs.SocketsView.{role_of}
use Rattle.sockets.specs.Steps.{connected}
use Rattle.sockets.proofs.ByIds.{socket_found}
use Rattle.host.specs.HostView.{HostView}
use Rattle.host.specs.Sound.{IsSoundHost}
use Rattle.round_law.specs.Exchange.{IsExchange}
use Rattle.round_law.specs.Progress as law
use Rattle.round_law.proofs.Found.{nothing_to_send}
use Rattle.round_law.proofs.Moves as exchange
use Rattle.sides.specs.declared.side.Side.{Side}
use Rattle.sides.specs.declared.side.Side.TheVariants.{A, B}
use Rattle.sides.specs.Sides.{other_side}
use Rattle.wire_sim.specs.Duties.{Has}
use Rattle.wire_sim.specs.Exchanges.{hosts_from}
use Rattle.wire_sim.specs.Passage.{addr_at, mac_at}
use Rattle.wire_sim.specs.Progress.{MayMove, HasMoved, EveryRoundMovesData}
use Rattle.wire_sim.specs.Rounds.{IsRound}
use Rattle.wire_sim.specs.Runs.{IsReached}
use Rattle.wire_sim.specs.HostRuns.{IsKept}
use Rattle.wire_sim.specs.Trace.{read_on, sent_on}
use Rattle.wire_sim.specs.TwoEnds.{KnowsTheOther}
use Rattle.wire_sim.specs.WorldView.{WorldView, host_of, table_of, clock_of}
use Rattle.wire_sim.proofs.HostsRun.{sound-at, tables-kept}
use Rattle.wire_sim.proofs.openings.OpeningIsFound.{other-twice}
use Rattle.wire_sim.proofs.progress.EndsMeet.{AreMet, are-met, own-end, receiver-open, sender-open, socket-entry}
use Rattle.wire_sim.proofs.progress.QuietHosts.{quiet-host}
use Rattle.wire_sim.proofs.progress.ReadsTold.{HasLeft, none-exchanged, reads-left, reads-told}
use Rattle.wire_sim.proofs.progress.QuietWindows.{buffers_hold, quiet-leave}
use Rattle.wire_sim.proofs.rounds.ReadersRead.{readers-read}
use Rattle.wire_sim.proofs.rounds.RoundsAreExchanges.{round-exchange}
use Rattle.wire_sim.proofs.runs.RunsAreLawful.{IsOrderly, orderly, orderly-swapped}
use Rattle.wire_sim.proofs.two_ends.Joined.{knows}

-- nothing is due of a connection that has nothing to send
none-due : (to : Endpoint) (o : Option Due) → segment_due to o ≡ [] → o ≡ None
none-due to None none = refl
none-due to (Some due) none = cc

module _ (limit : ℕ) (writer : Side) (writer_id reader_id : SocketId) (count : ℕ) (v d : View) (old new : WorldView) (run : IsReached limit old) (may : MayMove writer writer_id reader_id v d old)
    (round : IsRound writer reader_id count old new) where
  abbrev reader : Side
  reader = other_side writer

  sound : (side : Side) → IsSoundHost (host_of old.network side)
  sound side = sound-at old round.later round.minute_of_writer side

  there : IsOrderly limit writer reader old.network old.trace
  there = by_side writer
    where
      by_side : (s : Side) → IsOrderly limit s (other_side s) old.network old.trace
      by_side A = orderly limit old run
      by_side B = orderly-swapped limit A B old.network old.trace (orderly limit old run)

  back : IsOrderly limit reader writer old.network old.trace
  back = orderly-swapped limit writer reader old.network old.trace there

  met : AreMet limit v d (sent_on writer writer_id old.trace) (read_on reader reader_id old.trace)
  met = are-met limit v d may.sends may.receives may.acknowledged writer reader old.network old.trace there writer_id reader_id may.writes.socket may.reads.socket back may.local may.peer

  at_reader : v.peer.addr ≡ addr_at old.network reader
  at_reader = let host = sound reader in ap (λ (p : Endpoint). p.addr) may.peer ∙ (own-end limit reader writer old.network old.trace back reader_id d may.reads.socket ∙ sym host.own)

  at_writer : d.peer.addr ≡ addr_at old.network writer
  at_writer = let host = sound writer in ap (λ (p : Endpoint). p.addr) (sym may.local) ∙ (own-end limit writer reader old.network old.trace there writer_id v may.writes.socket ∙ sym host.own)

  past : is_opening d.state ≡ false
  past = (receiver-open d.state may.receives).1

  lives : is_closed d.state ≡ false
  lives = (receiver-open d.state may.receives).0

  quiet_writer : law.IsQuiet (host_of old.network writer) writer_id v (mac_at old.network reader)
  quiet_writer = let own = sender-open v.state may.sends in quiet-host limit old run writer writer_id v (sound writer) may.writes own.1 own.0 at_reader

  quiet_reader : law.IsQuiet (host_of old.network reader) reader_id d (mac_at old.network writer)
  quiet_reader =
      subst (λ (m : Mac). law.IsQuiet (host_of old.network reader) reader_id d m) (ap (mac_at old.network) (sym (other-twice writer)))
      (quiet-host limit old run reader reader_id d (sound reader) may.reads past lives (at_writer ∙ ap (addr_at old.network) (other-twice writer)))

  open_writer : (is_opening v.state || is_closed v.state) ≡ false
  open_writer = let own = sender-open v.state may.sends in ap (λ b. b || is_closed v.state) own.1 ∙ own.0

  open_reader : (is_opening d.state || is_closed d.state) ≡ false
  open_reader = ap (λ b. b || is_closed d.state) past ∙ lives

  -- a socket's connection is that of the entry which has its id
  has : (side : Side) (id : SocketId) (c : View) → role_of (table_of old.network side) id ≡ Some (Connected c None) → Has old side id None c
  has side id c named =
      let t = table_of old.network side in
      let kept : IsKept (clock_of old.network side) t = tables-kept limit old run side in
      socket_found id 0 t.last_id t.entries (connected id c None) kept.ordered.ids (socket-entry t.entries id (Connected c None) (find (is_socket id) t.entries) refl named)

  -- so the writer knows no more of the reader's window than is so
  knows_it : KnowsTheOther v d
  knows_it = knows limit old run writer writer_id reader_id v d (record {
    listener = None;
    other_listener = None;
    here = has writer writer_id v may.writes.socket;
    there = has reader reader_id d may.reads.socket;
    ends = record { local = sym may.peer; peer = sym may.local };
    opened = open_writer;
    other_opened = open_reader;
  })

  -- some octets can be read, or are held while the reader's window is open
  some_data : (0 < length d.receiving.readable) ⊎ ((0 < length v.sending.held) × (0 < receive_window d.receiving))
  some_data = by_readable d.receiving.readable refl
    where
      by_readable : (octets : List ℕ) → d.receiving.readable ≡ octets → (0 < length octets) ⊎ ((0 < length v.sending.held) × (0 < receive_window d.receiving))
      by_readable (x ∷ xs) is = inl (omega arith)
      by_readable [] is =
          let none = none-due d.peer (first_due d) (nothing_to_send (host_of old.network reader) reader_id (Connected d None) may.reads.nothing may.reads.socket) in
          let left = quiet-leave limit old run reader reader_id d None may.reads.socket open_reader none is in
          let least = buffers_hold limit old run reader in
          inr (met.held may.unread is, omega (arith, left, least))

  asked : law.MayMove (hosts_from writer old) writer_id reader_id v d
  asked = record {
    writer = quiet_writer;
    reader = quiet_reader;
    local = may.local;
    peer = may.peer;
    sends = may.sends;
    receives = may.receives;
    meet = met.meet;
    fits = record { window = knows_it.window; sent = knows_it.sent };
    few = may.few;
    patient = may.patient;
    some = some_data;
  }

  exchanged : IsExchange (hosts_from writer old) (hosts_from writer round.answered)
  exchanged = (round-exchange limit writer reader_id count old new met.some run round).1

  moved : law.HasMoved (hosts_from writer round.answered) writer_id reader_id v d
  moved = exchange.moves (hosts_from writer old) (hosts_from writer round.answered) writer_id reader_id v d asked exchanged

  left : HasLeft reader reader_id moved.read round.answered new
  left = reads-left reader reader_id moved.read count round.answered new moved.reader round.reading

  -- the reads change nothing at the writer
  writer_stays : host_of new.network writer ≡ host_of round.answered.network writer
  writer_stays = subst (λ (s : Side). host_of new.network s ≡ host_of round.answered.network s) (sym (other-twice writer)) left.other

  grown : length (read_on reader reader_id new.trace) ≡ length (read_on reader reader_id old.trace) + count
  grown = reads-told reader reader_id count round.answered new round.reading ∙ ap (λ (l : List ℕ). length l + count) (none-exchanged reader reader_id writer reader_id count old new round)

  pub round-moves : HasMoved writer writer_id reader_id v d old new
  round-moves = record {
    written = moved.written;
    read = left.left;
    writes = ap (λ (h : HostView). role_of h.sockets writer_id) writer_stays ∙ moved.writer;
    reads = left.socket;
    states = (moved.states.0, left.state ∙ moved.states.1);
    moved = elim moved.moved [
      | inl some ↦
          let count_some : 0 < count = readers-read reader reader_id count moved.read round.answered new moved.reader (ap is_opening moved.states.1 ∙ past) (ap is_closed moved.states.1 ∙ lives) some round.reading in
          let more = grown in
          inl (omega (arith, count_some, more))
      | inr less ↦ inr less
    ];
  }

pub rounds-move : EveryRoundMovesData
rounds-move limit writer writer_id reader_id count v d old new run may round = round-moves limit writer writer_id reader_id count v d old new run may round
