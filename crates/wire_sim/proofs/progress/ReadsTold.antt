-- What the trace tells of a reader over a round, and what its reads leave of its connection.
use Rattle.std.proofs.Common.{◌≡◌, inl, inr, ℕ, ◌+◌, ◌==◌, ◌||◌, not, if◌then◌else◌, Bool, true, false, cond, List, [], ◌∷◌, ◌++◌, append-nil, length, length-append, Option, Some, None, is_some, option_map, Result, Ok, Err, arith, refl, sym, ◌∙◌, ap}
use Rattle.std.specs.List.{find}
use Rattle.std.specs.Global.{Vec}
use Rattle.std.proofs.lemmas.Bool.{and_parts}
use Rattle.tcp_halves.specs.Stream.{after_read}
use Rattle.tcp_state.specs.declared.calls.Received.{Received}
use Rattle.tcp_state.specs.declared.calls.Received.TheVariants as received
use Rattle.tcp_state.specs.Calls as connection_calls
use Rattle.tcp_state.specs.Calls.{recv_count}
use Rattle.tcp_state.specs.View.{View, is_opening}
use Rattle.sockets.specs.declared.entry.Entry.{Entry}
use Rattle.sockets.specs.declared.entry.SocketId.{SocketId}
use Rattle.sockets.specs.declared.refusal.Refusal.{Refusal}
use Rattle.sockets.specs.declared.role.Role.{Role}
use Rattle.sockets.specs.declared.role.Role.TheVariants.{Connected}
use Rattle.sockets.specs.Calls.{after_recv, recv_answer}
use Rattle.sockets.specs.Entries.{has_socket, is_socket, role_after_recv}
use Rattle.sockets.specs.SocketsView.{SocketsView, role_of}
use Rattle.sockets.proofs.Opened.{socket_changed}
use Rattle.sides.specs.declared.side.Side.{Side}
use Rattle.sides.specs.Sides.{other_side}
use Rattle.wire_sim.specs.declared.event.Answer.{Answer}
use Rattle.wire_sim.specs.declared.event.Answer.TheVariants as reply
use Rattle.wire_sim.specs.declared.event.Call.TheVariants as call
use Rattle.wire_sim.specs.declared.event.Event.{Event}
use Rattle.wire_sim.specs.declared.event.Event.TheVariants as event
use Rattle.wire_sim.specs.Rounds.{minute_past, most_frames, isn_of_round, read_at_once, Sends, Emits, IsBrought, Brings, Carries, Receives, none, one_more, EndsReading, Reads, IsRound}
use Rattle.wire_sim.specs.Runs.{IsStep}
use Rattle.wire_sim.specs.Steps.{recv_len, MeetsReceived}
use Rattle.wire_sim.specs.Trace.{read_by, read_on}
use Rattle.wire_sim.specs.WorldView.{WorldView, host_of, table_of, clock_of}
use Rattle.wire_sim.proofs.lists.FoundAfterChange.{find-passes}
use Rattle.wire_sim.proofs.openings.HoldingsAreNoted.{other-stays}
use Rattle.wire_sim.proofs.tables.TableById.{eqb-same}
use Rattle.wire_sim.proofs.told.TraceAndOneMore.{read_on-added, read_by-recv}

-- What is read before the reads.

module _ (side : Side) (id : SocketId) where
  -- nothing is read on the socket between two worlds
  abbrev NoneRead : WorldView → WorldView → Type 0
  NoneRead w v = read_on side id v.trace ≡ read_on side id w.trace

  step-read : (happens : Event) (told : Answer) (w v : WorldView) → IsStep happens told w v → read_on side id v.trace ≡ read_on side id w.trace ++ read_by side id happens told
  step-read happens told w v step = ap (read_on side id) step.trace ∙ read_on-added side id w.trace (record { event = happens; answer = told })

  none-by : (happens : Event) (told : Answer) (w v : WorldView) → IsStep happens told w v → read_by side id happens told ≡ [] → NoneRead w v
  none-by happens told w v step nothing = step-read happens told w v step ∙ (ap (λ l. read_on side id w.trace ++ l) nothing ∙ append-nil (read_on side id w.trace))

  none-sent : (at : Side) (frames : List ℕ) (w v : WorldView) → Sends at frames w v → NoneRead w v
  none-sent at [] w v sends = ap (λ (x : WorldView). read_on side id x.trace) sends
  none-sent at (index ∷ rest) w v sends = none-sent at rest sends.1 v sends.3 ∙ none-by (event.Emit at) (reply.Frame index sends.0) w sends.1 sends.2 refl

  none-emitted : (at : Side) (frames : List ℕ) (w v : WorldView) → Emits most_frames at frames w v → NoneRead w v
  none-emitted at frames w v emits = elim emits.ends [
    | inl last ↦ none-by (event.Emit at) reply.NoFrame emits.sent v last.1 refl ∙ none-sent at frames w emits.sent emits.out
    | inr all ↦ ap (λ (x : WorldView). read_on side id x.trace) all.1 ∙ none-sent at frames w emits.sent emits.out
  ]

  none-came : (to : Side) (index : ℕ) (w v : WorldView) → IsBrought to index w v → NoneRead w v
  none-came to index w v (inl told) = none-by (event.Deliver to index isn_of_round) told.0 w v told.1 refl
  none-came to index w v (inr broken) = ap (λ (x : WorldView). read_on side id x.trace) broken.2

  none-brought : (to : Side) (frames : List ℕ) (w v : WorldView) → Brings to frames w v → NoneRead w v
  none-brought to [] w v brings = ap (λ (x : WorldView). read_on side id x.trace) brings
  none-brought to (index ∷ rest) w v brings = none-brought to rest brings.0 v brings.2 ∙ none-came to index w brings.0 brings.1

  none-carried : (at : Side) (w v : WorldView) → Carries at w v → NoneRead w v
  none-carried at w v c = none-brought (other_side at) c.frames c.out v c.bringing ∙ none-emitted at c.frames w c.out c.emission

  pub none-exchanged : (writer : Side) (reader_id : SocketId) (count : ℕ) (old new : WorldView) (round : IsRound writer reader_id count old new) → NoneRead old round.answered
  none-exchanged writer reader_id count old new round =
      none-carried (other_side writer) round.brought round.answered round.answering
      ∙ (none-carried writer round.ticked round.brought round.bringing
      ∙ (none-by (event.Tick (other_side writer) (minute_past (clock_of round.later.network (other_side writer)))) reply.Done round.later round.ticked round.minute_of_reader refl
      ∙ none-by (event.Tick writer (minute_past (clock_of old.network writer))) reply.Done old round.later round.minute_of_writer refl))

  -- The reads.

  -- what a receive that answers octets adds
  more-read : (octets : Vec ℕ) (w v : WorldView) → IsStep (event.Call side (call.Recv id read_at_once)) (reply.Octets octets) w v → length (read_on side id v.trace) ≡ length (read_on side id w.trace) + length octets.items
  more-read octets w v step =
      ap (length {A = ℕ}) (step-read (event.Call side (call.Recv id read_at_once)) (reply.Octets octets) w v step)
      ∙ (length-append (read_on side id w.trace) (read_by side id (event.Call side (call.Recv id read_at_once)) (reply.Octets octets))
      ∙ ap (λ l. length (read_on side id w.trace) + length l) (read_by-recv side id id read_at_once octets ∙ ap (λ b. cond b octets.items []) (eqb-same id.0)))

  all-read : (count : ℕ) (w v : WorldView) → Receives side id count w v → length (read_on side id v.trace) ≡ length (read_on side id w.trace) + count
  all-read _ w _ (none x) = omega arith
  all-read _ w _ (one_more count octets old m new so_far step) = let before = all-read count w m so_far in let last = more-read octets m new step in omega (arith, before, last)

  last-read : (told : Answer) (w v : WorldView) → EndsReading told → IsStep (event.Call side (call.Recv id read_at_once)) told w v → NoneRead w v
  last-read (reply.Refused refusal) w v ends step = none-by (event.Call side (call.Recv id read_at_once)) (reply.Refused refusal) w v step refl
  last-read reply.EndOfStream w v ends step = none-by (event.Call side (call.Recv id read_at_once)) reply.EndOfStream w v step refl
  last-read _ w v ends step = absurd ends

  -- so many octets more are read
  pub reads-told : (count : ℕ) (w v : WorldView) → Reads side id count w v → length (read_on side id v.trace) ≡ length (read_on side id w.trace) + count
  reads-told count w v reads = ap (length {A = ℕ}) (last-read reads.told reads.read v reads.last reads.ends) ∙ all-read count w reads.read reads.octets

  -- What the reads leave.

  -- the socket has a connection in this state yet, and the other host is as it was
  pub record HasLeft (c : View) (w v : WorldView) : Type 0 where
    pub left : View
    pub socket : role_of (table_of v.network side) id ≡ Some (Connected left None)
    pub state : left.state ≡ c.state
    pub other : host_of v.network (other_side side) ≡ host_of w.network (other_side side)

  -- a receive leaves the state of a connection, and whether its caller closed it
  same-state : (c : View) (len : ℕ) → ((connection_calls.after_recv c len).state ≡ c.state) × ((connection_calls.after_recv c len).released ≡ c.released)
  same-state c len = by_test (is_some c.pending_error || is_opening c.state || (length c.receiving.readable == 0))
    where
      by_test : (b : Bool) → ((if b then c else record c { receiving = after_read c.receiving (recv_count c len) }).state ≡ c.state) × ((if b then c else record c { receiving = after_read c.receiving (recv_count c len) }).released ≡ c.released)
      by_test true = (refl, refl)
      by_test false = (refl, refl)

  named : (h : SocketsView) (role : Role) (o : Option Entry) → find (is_socket id) h.entries ≡ o → option_map (λ (e : Entry). e.role) o ≡ Some role → has_socket role ≡ true
  named h role None at is = cc
  named h role (Some e) at is = let same : e.role ≡ role = cc in ap has_socket (sym same) ∙ (and_parts (e.id.0 == id.0) (has_socket e.role) (find-passes (is_socket id) h.entries e at)).1

  -- on a table
  table-left : (h : SocketsView) (c : View) (len : ℕ) → role_of h id ≡ Some (Connected c None) → (x : View) × (role_of (after_recv h id len) id ≡ Some (Connected x None)) × (x.state ≡ c.state)
  table-left h c len is = by_len (len == 0) refl
    where
      x : View
      x = connection_calls.after_recv c len

      socket : has_socket (Connected c None) ≡ true
      socket = named h (Connected c None) (find (is_socket id) h.entries) refl is

      by_len : (b : Bool) → (len == 0) ≡ b → (y : View) × (role_of (after_recv h id len) id ≡ Some (Connected y None)) × (y.state ≡ c.state)
      by_len true empty =
          let becomes : role_after_recv len (Connected c None) ≡ Connected c None = ap (λ b. Connected (if b then c else x) None) empty in
          (c, socket_changed h id (role_after_recv len) (Connected c None) is (ap has_socket becomes ∙ socket) ∙ ap Some becomes, refl)
      by_len false room =
          let becomes : role_after_recv len (Connected c None) ≡ Connected x None = ap (λ b. Connected (if b then c else x) None) room in
          let kept : has_socket (Connected x None) ≡ has_socket (Connected c None) = ap not (same-state c len).1 in
          (x, socket_changed h id (role_after_recv len) (Connected c None) is (ap has_socket becomes ∙ (kept ∙ socket)) ∙ ap Some becomes, (same-state c len).0)

  one-left : (c : View) (told : Answer) (w v : WorldView) → role_of (table_of w.network side) id ≡ Some (Connected c None) → IsStep (event.Call side (call.Recv id read_at_once)) told w v → HasLeft c w v
  one-left c told w v is step = by_answer (recv_answer h id len) told step.network.0.table
    where
      h : SocketsView
      h = table_of w.network side

      len : ℕ
      len = recv_len read_at_once

      other : host_of v.network (other_side side) ≡ host_of w.network (other_side side)
      other = other-stays (event.Call side (call.Recv id read_at_once)) (length w.trace) told w.network v.network (other_side side) refl step.network

      after : table_of v.network side ≡ after_recv h id len → HasLeft c w v
      after becomes = let t = table-left h c len is in record { left = t.0; socket = ap (λ (k : SocketsView). role_of k id) becomes ∙ t.1; state = t.2; other = other }

      by_answer : (r : Result Received Refusal) (told : Answer) → MeetsReceived h id len r told (table_of v.network side) → HasLeft c w v
      by_answer (Ok (received.Octets count)) (reply.Octets octets) meets = after meets.1
      by_answer (Ok received.EndOfStream) reply.EndOfStream meets = after meets
      by_answer (Err refusal) (reply.Refused e) meets = record { left = c; socket = ap (λ (k : SocketsView). role_of k id) meets.1 ∙ is; state = refl; other = other }
      by_answer _ _ meets = absurd meets

  then-left : (c : View) (u w v : WorldView) (before : HasLeft c u w) → HasLeft before.left w v → HasLeft c u v
  then-left c u w v before after = record { left = after.left; socket = after.socket; state = after.state ∙ before.state; other = after.other ∙ before.other }

  all-left : (c : View) (count : ℕ) (w v : WorldView) → role_of (table_of w.network side) id ≡ Some (Connected c None) → Receives side id count w v → HasLeft c w v
  all-left c _ w _ is (none x) = record { left = c; socket = is; state = refl; other = refl }
  all-left c _ w _ is (one_more count octets old m new so_far step) =
      let before = all-left c count w m is so_far in
      then-left c w m new before (one-left before.left (reply.Octets octets) m new before.socket step)

  pub reads-left : (c : View) (count : ℕ) (w v : WorldView) → role_of (table_of w.network side) id ≡ Some (Connected c None) → Reads side id count w v → HasLeft c w v
  reads-left c count w v is reads =
      let before = all-left c count w reads.read is reads.octets in
      then-left c w reads.read v before (one-left before.left reads.told reads.read v before.socket reads.ends)
