-- What an event makes of the receiving half of a connection.
use Rattle.std.proofs.Common.{◌≡◌, ℕ, ◌+◌, ◌<◌, ◌≤◌, ◌^◌, ◌%◌, ◌==◌, ◌||◌, ◌&&◌, not, nat_lt, Bool, true, false, List, [], ◌++◌, length, take, Option, Some, None, is_some, inl, arith, refl, sym, ◌∙◌, ap, subst, append-nil}
use Rattle.std.specs.List.{slice_get}
use Rattle.std.proofs.lemmas.Bool.{eqb-true, ltb-true}
use Rattle.clock.specs.declared.moment.Moment.{Moment}
use Rattle.clock.specs.Moments.{has_come}
use Rattle.tcp_segment.specs.Segment.{Segment}
use Rattle.tcp_segment.specs.Wire.{past}
use Rattle.tcp_halves.specs.Halves.{Receiving}
use Rattle.tcp_halves.specs.Stream.{octets_gained, after_octets, stands_next, receive_window}
use Rattle.tcp_halves.proofs.Choices.{either, by, clash, and_left, and_right, neither, of_false}
use Rattle.tcp_state.specs.declared.state.State.{State}
use Rattle.tcp_state.specs.declared.state.State.TheVariants.{SynSent, SynReceived, Established, FinWait1, FinWait2, CloseWait, Closing, LastAck, TimeWait, Closed, Listen}
use Rattle.tcp_state.specs.Arrival.{reset_error, owing_ack, beyond_fin, beyond_end, is_receiving, after_ack, after_window, after_text, after_fin, is_read, after_segment_at, after_heard, after_lost, before, timed_by}
use Rattle.tcp_state.specs.Alive.{after_silence}
use Rattle.tcp_state.specs.Calls.{send_count, after_send, after_shutdown, beyond_shutdown, after_close, after_release, is_removed_by_close, is_aborted_by_close}
use Rattle.tcp_state.specs.Due.{first_due}
use Rattle.tcp_state.specs.Edges.{Event, after_first, after_event}
use Rattle.tcp_state.specs.View.{View, IsSound, is_opening, is_closed, is_listening, is_syn_sent, is_syn_received, is_read_closed, is_write_closed, end_of_wait, is_at_end, after_stop}
use Rattle.tcp_state.proofs.Clocked.{timers_keep, emission_keeps}
use Rattle.tcp_state.proofs.Events.{by_event}
use Rattle.tcp_state.proofs.StillStreams.{emissions_leave}
use Rattle.tcp_state.proofs.Segments.{after_reading, by_ack, by_fin, by_hearing, by_clock, ack_receives, read_tells}
use Rattle.stream_law.specs.Channel.{number_of}
use Rattle.stream_law.specs.ChannelViews.{kept_at, reports}
use Rattle.stream_law.proofs.Kept.{at_free}
use Rattle.stream_law.proofs.Sizes.{window-fits}
use Rattle.host_law.specs.Coming.{MayBeUsed}
use Rattle.host_law.proofs.Befalls.{IsQuiet, Quietly, stays, moves}
use Rattle.host_law.proofs.Brought.{IsKnown, gained_known, kept_known, all_readable, gained_within}

-- The octets stay, and what is told: a connection that becomes CLOSED, and tells no error, had seen the end.
pub record Rests (v w : View) : Type 0 where
  pub readable : w.receiving.readable ≡ v.receiving.readable
  pub kept : w.receiving.kept ≡ v.receiving.kept
  pub rnext : w.receiving.rnext ≡ v.receiving.rnext
  pub lives : is_closed w.state ≡ false → (is_closed v.state ≡ false) × (is_read_closed w.state ≡ is_read_closed v.state)
  pub shut : is_read_closed v.state ≡ true → is_read_closed w.state ≡ true
  pub end : reports w ≡ true → is_read_closed w.state ≡ true → (reports v ≡ true) × (is_read_closed v.state ≡ true)

-- The peer's SYN comes, before which nothing did.
pub record Synchronises (v w : View) : Type 0 where
  pub waits : is_syn_sent v.state ≡ true
  pub readable : w.receiving.readable ≡ v.receiving.readable
  pub kept : w.receiving.kept ≡ v.receiving.kept
  pub lives : is_closed w.state ≡ false
  pub unended : is_read_closed w.state ≡ false

-- A segment that may be used brings what becomes readable, or is kept; and with it the FIN, or not.
pub record Takes (v : View) (s : Segment) (w : View) : Type 0 where
  pub used : MayBeUsed v s
  pub lived : is_closed v.state ≡ false
  pub unended : is_read_closed v.state ≡ false
  pub gained : List ℕ
  pub fin : Bool
  pub readable : w.receiving.readable ≡ v.receiving.readable ++ gained
  pub moved : past w.receiving.rnext v.receiving.rnext ≡ length gained + number_of fin
  pub gained_from : (i o : ℕ) → slice_get gained i ≡ Some o → IsKnown v.receiving s i o
  pub kept_from : (i o : ℕ) → kept_at w.receiving.kept i ≡ Some o → IsKnown v.receiving s (length gained + number_of fin + i) o
  pub end : fin ≡ true → (s.flags.fin ≡ true) × (past (s.number + length s.octets) v.receiving.rnext ≡ length gained) × (length gained < receive_window v.receiving)
  pub lives : is_closed w.state ≡ false
  pub shut : is_read_closed w.state ≡ fin

pub data Comes (v : View) (s : Segment) (w : View) : Type 0 where
  rests : Rests v w → Comes v s w
  synchronises : Synchronises v w → Comes v s w
  takes : Takes v s w → Comes v s w

-- States.

receiving_open : (t : State) → is_receiving t ≡ true → (is_read_closed t ≡ false) × (is_closed t ≡ false)
receiving_open Established e = (refl, refl)
receiving_open FinWait1 e = (refl, refl)
receiving_open FinWait2 e = (refl, refl)
receiving_open _ e = cc

ended_shut : (t : State) → is_receiving t ≡ true → (is_read_closed (beyond_end t) ≡ true) × (is_closed (beyond_end t) ≡ false)
ended_shut Established e = (refl, refl)
ended_shut FinWait1 e = (refl, refl)
ended_shut FinWait2 e = (refl, refl)
ended_shut _ e = cc

fin_shut : (t : State) → is_read_closed (beyond_fin t) ≡ is_read_closed t
fin_shut FinWait1 = refl
fin_shut Closing = refl
fin_shut LastAck = refl
fin_shut _ = refl

closed_shut : (t : State) → is_closed t ≡ true → is_read_closed t ≡ true
closed_shut Closed e = refl
closed_shut _ e = cc

received_shut : (t : State) → is_syn_received t ≡ true → is_read_closed t ≡ false
received_shut SynReceived e = refl
received_shut _ e = cc

live_reports : (v : View) → is_closed v.state ≡ false → reports v ≡ true
live_reports v lives = ap (λ b. not (b && (is_some v.pending_error || v.released))) lives

-- Nothing comes.

-- of a connection that lives, the state sees as much of the end
pub as_open : (v w : View) → is_closed v.state ≡ false → w.receiving.readable ≡ v.receiving.readable → w.receiving.kept ≡ v.receiving.kept → w.receiving.rnext ≡ v.receiving.rnext → is_read_closed w.state ≡ is_read_closed v.state → Rests v w
as_open v w lives readable kept rnext shut = record {
  readable = readable;
  kept = kept;
  rnext = rnext;
  lives = λ e. (lives, shut);
  shut = λ e. shut ∙ e;
  end = λ tells e. (live_reports v lives, sym shut ∙ e);
}

pub same : (v w : View) → w.receiving ≡ v.receiving → w.state ≡ v.state → w.pending_error ≡ v.pending_error → w.released ≡ v.released → Rests v w
same v w receiving state error released = record {
  readable = ap (λ (r : Receiving). r.readable) receiving;
  kept = ap (λ (r : Receiving). r.kept) receiving;
  rnext = ap (λ (r : Receiving). r.rnext) receiving;
  lives = λ e. (sym (ap is_closed state) ∙ e, ap is_read_closed state);
  shut = λ e. ap is_read_closed state ∙ e;
  end = λ tells e. (sym (ap (λ t. not (is_closed t && (is_some w.pending_error || w.released))) state ∙ ap (λ o. not (is_closed v.state && (is_some o || w.released))) error ∙ ap (λ b. not (is_closed v.state && (is_some v.pending_error || b))) released) ∙ tells, sym (ap is_read_closed state) ∙ e);
}

-- what becomes CLOSED tells its error, or is left, or had seen the end
pub ends : (v w : View) → is_closed v.state ≡ false → w.receiving ≡ v.receiving → is_closed w.state ≡ true → (reports w ≡ true → is_read_closed v.state ≡ true) → Rests v w
ends v w lived receiving closed seen = record {
  readable = ap (λ (r : Receiving). r.readable) receiving;
  kept = ap (λ (r : Receiving). r.kept) receiving;
  rnext = ap (λ (r : Receiving). r.rnext) receiving;
  lives = λ e. clash (is_closed w.state) closed e;
  shut = λ e. closed_shut w.state closed;
  end = λ tells e. (live_reports v lived, seen tells);
}

pub rests_on : (u v w : View) → Rests u v → Rests v w → Rests u w
rests_on u v w a b = record {
  readable = b.readable ∙ a.readable;
  kept = b.kept ∙ a.kept;
  rnext = b.rnext ∙ a.rnext;
  lives = λ e. let l = b.lives e in let m = a.lives l.0 in (m.0, l.1 ∙ m.1);
  shut = λ e. b.shut (a.shut e);
  end = λ tells e. let l = b.end tells e in a.end l.0 l.1;
}

stops : (v w : View) → w.receiving ≡ v.receiving → is_closed w.state ≡ true → (reports w ≡ true → (reports v ≡ true) × (is_read_closed v.state ≡ true)) → Rests v w
stops v w receiving closed seen = record {
  readable = ap (λ (r : Receiving). r.readable) receiving;
  kept = ap (λ (r : Receiving). r.kept) receiving;
  rnext = ap (λ (r : Receiving). r.rnext) receiving;
  lives = λ e. clash (is_closed w.state) closed e;
  shut = λ e. closed_shut w.state closed;
  end = λ tells e. seen tells;
}

-- what its caller left is told nothing once it is CLOSED
left_tells : {C : Type 0} (error : Bool) → not (true && (error || true)) ≡ true → C
left_tells true tells = cc
left_tells false tells = cc

-- The clock, wishes, errors, aborts.

wait_over : (t : State) (left : Bool) (since now : Moment) → has_come (end_of_wait t left since) now ≡ true → left ≡ false → (is_read_closed t ≡ true) × (is_closed t ≡ false)
wait_over TimeWait left since now e f = (refl, refl)
wait_over FinWait2 true since now e f = cc
wait_over FinWait2 false since now e f = cc
wait_over _ left since now e f = cc

unreleased : (error left : Bool) → not (true && (error || left)) ≡ true → left ≡ false
unreleased true left e = cc
unreleased false true e = cc
unreleased false false e = refl

waited : (v : View) (now : Moment) → is_at_end v now ≡ true → Rests v (after_stop v)
waited v now over = stops v (after_stop v) refl refl (λ tells.
    let found = wait_over v.state v.released v.since now over (unreleased (is_some v.pending_error) v.released tells) in (live_reports v found.1, found.0))

pub quiet : (v : View) (e : Event) → IsQuiet e → Rests v (after_event v e)
quiet v e = by_event (λ e w. IsQuiet e → Rests v w) v (record {
  same = λ e is. same v v refl refl refl refl;
  asks = λ e alive is. same v _ refl refl refl refl;
  silent = λ now is. same v _ refl refl refl refl;
  heard = λ s now lives is. absurd is;
  over = λ now over is. waited v now over;
  given_up = λ now waits expired is. stops v _ refl refl (λ tells. cc);
  acts = λ now is. let kept = timers_keep (after_silence v now) now in
      same v _ (ap (λ (w : View). w.receiving) kept) (ap (λ (w : View). w.state) kept) (ap (λ (w : View). w.pending_error) kept) (ap (λ (w : View). w.released) kept);
  emits = λ now is. absurd is;
  sends = λ octets taken now opened is. absurd is;
  reads = λ len is. absurd is;
  shuts = λ now is. absurd is;
  delays = λ on now is. same v _ refl refl refl refl;
  leaves = λ now lives is. absurd is;
  aborts = λ e now at cause lives is. stops v _ refl refl (λ tells. left_tells (is_some v.pending_error) tells);
  refused = λ number hit is. stops v _ refl refl (λ tells. cc);
  hopless = λ now over is. stops v _ refl refl (λ tells. cc);
}) e

pub quietly : (v w : View) → Quietly v w → Rests v w
quietly v _ (stays _) = same v v refl refl refl refl
quietly v w (moves _ _ e is rest) = rests_on v (after_event v e) w (quiet v e is) (quietly (after_event v e) w rest)

-- What goes out, and what the caller gives or closes.

pub emitted : (v : View) (now : Moment) → Rests v (after_first v (first_due v) now)
emitted v now =
    let left = emissions_leave v now in
    let kept = emission_keeps v (first_due v) now in
    let w = after_first v (first_due v) now in
    record {
      readable = ap (λ (r : Receiving). r.readable) left.1;
      kept = ap (λ (r : Receiving). r.kept) left.1;
      rnext = ap (λ (r : Receiving). r.rnext) left.1;
      lives = λ e. (sym (ap is_closed left.2) ∙ e, ap is_read_closed left.2);
      shut = λ e. ap is_read_closed left.2 ∙ e;
      end = λ tells e. (sym (ap (λ t. not (is_closed t && (is_some w.pending_error || w.released))) left.2 ∙ ap (λ (x : View). not (is_closed v.state && (is_some x.pending_error || x.released))) kept) ∙ tells, sym (ap is_read_closed left.2) ∙ e);
    }

shut_on : (t : State) → (is_closed (beyond_shutdown t) ≡ is_closed t) × (is_read_closed (beyond_shutdown t) ≡ is_read_closed t)
shut_on Established = (refl, refl)
shut_on CloseWait = (refl, refl)
shut_on _ = (refl, refl)

-- our side closes
closing : (v w : View) → w.receiving ≡ v.receiving → w.state ≡ beyond_shutdown v.state → w.pending_error ≡ v.pending_error → (w.released ≡ false → v.released ≡ false) → Rests v w
closing v w receiving state error released =
    let on = shut_on v.state in
    record {
      readable = ap (λ (r : Receiving). r.readable) receiving;
      kept = ap (λ (r : Receiving). r.kept) receiving;
      rnext = ap (λ (r : Receiving). r.rnext) receiving;
      lives = λ e. (sym (ap is_closed state ∙ on.0) ∙ e, ap is_read_closed state ∙ on.1);
      shut = λ e. ap is_read_closed state ∙ on.1 ∙ e;
      end = λ tells e. (still (is_closed v.state) (is_some v.pending_error) w.released v.released released (sym (ap (λ b. not (b && (is_some w.pending_error || w.released))) (ap is_closed state ∙ on.0) ∙ ap (λ o. not (is_closed v.state && (is_some o || w.released))) error) ∙ tells), sym (ap is_read_closed state ∙ on.1) ∙ e);
    }
  where
    still : (closed error left left_before : Bool) → (left ≡ false → left_before ≡ false) → not (closed && (error || left)) ≡ true → not (closed && (error || left_before)) ≡ true
    still false error left left_before kept e = refl
    still true true left left_before kept e = e
    still true false true left_before kept e = cc
    still true false false left_before kept e = ap not (kept refl)

pub shut : (v : View) (now : Moment) → Rests v (after_shutdown v now)
shut v now = closing v (after_shutdown v now) refl refl refl (λ e. e)

pub sent : (v : View) (octets : List ℕ) (now : Moment) → Rests v (after_send v octets now)
sent v octets now =
    either View (Rests v) (is_some v.pending_error || is_opening v.state || is_write_closed v.state) v _ (λ refused. same v v refl refl refl refl)
    (λ takes. either View (Rests v) (length (take (send_count v octets) octets) == 0) v _ (λ none. same v v refl refl refl refl) (λ some. same v _ refl refl refl refl))

pub closed : (v : View) (now : Moment) → Rests v (after_close v now)
closed v now =
    either View (Rests v) (is_removed_by_close v) v _ (λ removed. same v v refl refl refl refl)
    (λ stays. either View (Rests v) (is_aborted_by_close v) _ _ (λ aborts. stops v _ refl refl (λ tells. left_tells (is_some v.pending_error) tells))
    (λ leaves. closing v (after_release v now) refl refl refl (λ e. cc)))

-- A segment.

-- what an acknowledgement leaves of the receiving half
record Acked (v w : View) : Type 0 where
  pub receiving : w.receiving ≡ v.receiving
  pub shut : is_read_closed w.state ≡ is_read_closed v.state
  pub heard : is_receiving w.state ≡ true → is_syn_sent v.state ≡ false

receiving_heard : (t : State) → is_receiving t ≡ true → is_syn_sent t ≡ false
receiving_heard SynSent e = cc
receiving_heard _ e = refl

received_heard : (t : State) → is_syn_received t ≡ true → is_syn_sent t ≡ false
received_heard SynReceived e = refl
received_heard _ e = cc

beyond_heard : (t : State) → is_receiving (beyond_fin t) ≡ true → is_syn_sent t ≡ false
beyond_heard SynSent e = cc
beyond_heard _ e = refl

acked : (v : View) (ack : ℕ) → Acked v (after_ack v ack)
acked v ack = by_ack (Acked v) v ack (record {
  old = record { receiving = refl; shut = refl; heard = receiving_heard v.state };
  beyond = record { receiving = refl; shut = refl; heard = receiving_heard v.state };
  opens = λ received new. record { receiving = refl; shut = sym (received_shut v.state received); heard = λ e. received_heard v.state received };
  octets = λ new. record { receiving = refl; shut = refl; heard = receiving_heard v.state };
  fin = λ new fin. record { receiving = refl; shut = fin_shut v.state; heard = beyond_heard v.state };
})

-- the octets are laid over what is kept
record Laid (v : View) (s : Segment) (t x : View) : Type 0 where
  pub gained : List ℕ
  pub state : x.state ≡ t.state
  pub readable : x.receiving.readable ≡ v.receiving.readable ++ gained
  pub rnext : x.receiving.rnext ≡ (v.receiving.rnext + length gained) % 2 ^ 32
  pub edge : x.receiving.edge ≡ v.receiving.edge
  pub within : length gained ≤ receive_window v.receiving
  pub gained_from : (i o : ℕ) → slice_get gained i ≡ Some o → IsKnown v.receiving s i o
  pub kept_from : (i o : ℕ) → kept_at x.receiving.kept i ≡ Some o → IsKnown v.receiving s (length gained + i) o

module _ (v : View) (s : Segment) (sound : IsSound v) (short : length s.octets < 2 ^ 16) (number : s.number < 2 ^ 32) where
  unlaid : (t x : View) → x.state ≡ t.state → x.receiving ≡ v.receiving → Laid v s t x
  unlaid t x state receiving = record {
    gained = [];
    state = state;
    readable = ap (λ (r : Receiving). r.readable) receiving ∙ sym (append-nil v.receiving.readable);
    rnext = ap (λ (r : Receiving). r.rnext) receiving ∙ omega (arith, sound.rnext);
    edge = ap (λ (r : Receiving). r.edge) receiving;
    within = omega arith;
    gained_from = λ i o e. let bad : slice_get [] i ≡ Some o = e in cc;
    kept_from = λ i o e. subst (λ d. IsKnown v.receiving s d o) (omega arith) (inl (ap (λ (r : Receiving). kept_at r.kept i) (sym receiving) ∙ e));
  }

  laid : (t : View) → t.receiving ≡ v.receiving → Laid v s t (after_text t s)
  laid t receiving =
      either View (Laid v s t) ((length s.octets == 0) || not (is_receiving t.state)) t _ (λ none. unlaid t t refl receiving)
      (λ some.
      let same : after_octets t.receiving s.number s.octets ≡ after_octets v.receiving s.number s.octets = ap (λ r. after_octets r s.number s.octets) receiving in
      record {
        gained = octets_gained v.receiving s.number s.octets;
        state = refl;
        readable = ap (λ (r : Receiving). r.readable) same ∙ all_readable v s sound short number;
        rnext = ap (λ (r : Receiving). r.rnext) same;
        edge = ap (λ (r : Receiving). r.edge) same;
        within = gained_within v s sound short number;
        gained_from = gained_known v s sound short number;
        kept_from = λ i o e. kept_known v s sound short number i o (ap (λ (r : Receiving). kept_at r.kept i) (sym same) ∙ e);
      })

  taken : (t x : View) → is_closed v.state ≡ false → is_read v s ≡ true → Acked v t → is_receiving t.state ≡ true → Laid v s t x → Comes v s (after_fin x s)
  taken t x lived read a receiving l =
      let is = read_tells v s read in
      let used : MayBeUsed v s = record { synchronised = a.heard receiving; acceptable = is.accepted; ack = is.ack; no_rst = is.no_rst; no_syn = is.no_syn } in
      let plain = receiving_open t.state receiving in
      let unended : is_read_closed v.state ≡ false = sym a.shut ∙ plain.0 in
      let small = window-fits v sound in
      let within = l.within in
      let rnext = sound.rnext in
      let moved : past x.receiving.rnext v.receiving.rnext ≡ length l.gained = ap (λ n. past n v.receiving.rnext) l.rnext ∙ omega (arith, small, within, rnext) in
      let alone : (w : View) → w.receiving ≡ x.receiving → w.state ≡ x.state → Comes v s w = λ w receives states. takes (record {
        used = used;
        lived = lived;
        unended = unended;
        gained = l.gained;
        fin = false;
        readable = ap (λ (r : Receiving). r.readable) receives ∙ l.readable;
        moved = ap (λ (r : Receiving). past r.rnext v.receiving.rnext) receives ∙ moved ∙ omega arith;
        gained_from = l.gained_from;
        kept_from = λ i o e. subst (λ d. IsKnown v.receiving s d o) (omega arith) (l.kept_from i o (ap (λ (r : Receiving). kept_at r.kept i) (sym receives) ∙ e));
        end = λ e. cc;
        lives = ap is_closed (states ∙ l.state) ∙ plain.1;
        shut = ap is_read_closed (states ∙ l.state) ∙ plain.0;
      }) in
      by_fin (Comes v s) x s
      (λ counts.
      let flag = and_left s.flags.fin (is_receiving x.state) (and_left (s.flags.fin && is_receiving x.state) _ counts) in
      let next = and_right (s.flags.fin && is_receiving x.state) (stands_next x.receiving ((s.number + length s.octets) % 2 ^ 32)) counts in
      let at : (s.number + length s.octets) % 2 ^ 32 ≡ x.receiving.rnext = eqb-true ((s.number + length s.octets) % 2 ^ 32) x.receiving.rnext (and_left ((s.number + length s.octets) % 2 ^ 32 == x.receiving.rnext) (nat_lt 0 (receive_window x.receiving)) next) in
      let room : 0 < receive_window x.receiving = ltb-true 0 (receive_window x.receiving) (and_right ((s.number + length s.octets) % 2 ^ 32 == x.receiving.rnext) (nat_lt 0 (receive_window x.receiving)) next) in
      let here : receive_window x.receiving ≡ past v.receiving.edge ((v.receiving.rnext + length l.gained) % 2 ^ 32) = ap (λ n. past n x.receiving.rnext) l.edge ∙ ap (λ n. past v.receiving.edge n) l.rnext in
      let last : length l.gained < receive_window v.receiving = omega (arith, room, here, within, small, rnext) in
      let place : past (s.number + length s.octets) v.receiving.rnext ≡ length l.gained = omega (arith, at ∙ l.rnext, within, small, rnext) in
      let beyond = ended_shut x.state (ap is_receiving l.state ∙ receiving) in
      takes (record {
        used = used;
        lived = lived;
        unended = unended;
        gained = l.gained;
        fin = true;
        readable = l.readable;
        moved = ap (λ n. past ((n + 1) % 2 ^ 32) v.receiving.rnext) l.rnext ∙ omega (arith, small, within, rnext);
        gained_from = l.gained_from;
        kept_from = λ i o e. let nothing : Option ℕ = None in let bad : nothing ≡ Some o = sym (at_free (length x.receiving.kept) i) ∙ e in cc;
        end = λ e. (flag, place, last);
        lives = beyond.1;
        shut = beyond.0;
      }))
      (alone (owing_ack x) refl refl)
      (alone x refl refl)

  read : is_closed v.state ≡ false → is_read v s ≡ true → Comes v s (after_reading v s)
  read lived on =
      let t = after_window (after_ack v s.acknowledgement) s in
      let k = acked v s.acknowledgement in
      let a : Acked v t = record { receiving = k.receiving; shut = k.shut; heard = k.heard } in
      by Comes-goal (is_receiving t.state) (λ receiving. taken t (after_text t s) lived on a receiving (laid t a.receiving))
      (λ deaf.
      let quiet_text : after_text t s ≡ t = deaf_text t deaf in
      subst (λ x. Comes v s (after_fin x s)) (sym quiet_text)
      (by_fin (Comes v s) t s (λ counts. clash (is_receiving t.state) (and_right s.flags.fin (is_receiving t.state) (and_left (s.flags.fin && is_receiving t.state) _ counts)) deaf)
      (rests (as_open v (owing_ack t) lived (ap (λ (r : Receiving). r.readable) a.receiving) (ap (λ (r : Receiving). r.kept) a.receiving) (ap (λ (r : Receiving). r.rnext) a.receiving) a.shut))
      (rests (as_open v t lived (ap (λ (r : Receiving). r.readable) a.receiving) (ap (λ (r : Receiving). r.kept) a.receiving) (ap (λ (r : Receiving). r.rnext) a.receiving) a.shut))))
    where
      Comes-goal : Type 0
      Comes-goal = Comes v s (after_reading v s)

      deaf_text : (t : View) → is_receiving t.state ≡ false → after_text t s ≡ t
      deaf_text t deaf = either View (λ x. x ≡ t) ((length s.octets == 0) || not (is_receiving t.state)) t _ (λ none. refl)
          (λ some. clash (not (is_receiving t.state)) (of_false (is_receiving t.state) deaf) (neither (length s.octets == 0) (not (is_receiving t.state)) some).1)

  seen_at_reset : (t : State) (left : Bool) → is_closed t ≡ false → is_listening t ≡ false → not (true && (is_some (reset_error t) || left)) ≡ true → is_read_closed t ≡ true
  seen_at_reset LastAck left c l e = refl
  seen_at_reset TimeWait left c l e = refl
  seen_at_reset Closing left c l e = refl
  seen_at_reset Closed left c l e = cc
  seen_at_reset Listen left c l e = cc
  seen_at_reset _ left c l e = cc

  -- the clock changes nothing of it
  on_clock : (w x : View) → x.receiving ≡ w.receiving → x.state ≡ w.state → x.pending_error ≡ w.pending_error → x.released ≡ w.released → Comes v s w → Comes v s x
  on_clock w x receiving state error released (rests r) = rests (rests_on v w x r (same w x receiving state error released))
  on_clock w x receiving state error released (synchronises k) = synchronises (record {
    waits = k.waits;
    readable = ap (λ (r : Receiving). r.readable) receiving ∙ k.readable;
    kept = ap (λ (r : Receiving). r.kept) receiving ∙ k.kept;
    lives = ap is_closed state ∙ k.lives;
    unended = ap is_read_closed state ∙ k.unended;
  })
  on_clock w x receiving state error released (takes k) = takes (record {
    used = k.used;
    lived = k.lived;
    unended = k.unended;
    gained = k.gained;
    fin = k.fin;
    readable = ap (λ (r : Receiving). r.readable) receiving ∙ k.readable;
    moved = ap (λ (r : Receiving). past r.rnext v.receiving.rnext) receiving ∙ k.moved;
    gained_from = k.gained_from;
    kept_from = λ i o e. k.kept_from i o (ap (λ (r : Receiving). kept_at r.kept i) (sym receiving) ∙ e);
    end = k.end;
    lives = ap is_closed state ∙ k.lives;
    shut = ap is_read_closed state ∙ k.shut;
  })

  pub heard : (now : Moment) → Comes v s (after_segment_at v s now)
  heard now = by_clock (Comes v s) v s now (rests (same v v refl refl refl refl)) (λ lives.
      on_clock (after_heard v s) (timed_by (before v s) (after_heard v s) now) refl refl refl refl
      (by_hearing (Comes v s) v s (rests (stops v (after_lost v s) (ack_receives v s.acknowledgement) refl (λ tells. left_tells _ tells))) (record {
        dropped = rests (same v v refl refl refl refl);
        drawn = rests (same v (owing_ack v) refl refl refl refl);
        reset = λ is. rests (stops v _ refl refl (λ tells. (live_reports v lives, seen_at_reset v.state v.released lives sound.connection tells)));
        crossed = λ waits. synchronises (record { waits = waits; readable = refl; kept = refl; lives = refl; unended = refl });
        opened = λ waits right. synchronises (record { waits = waits; readable = refl; kept = refl; lives = refl; unended = refl });
        acknowledged = λ taken. let a = acked v s.acknowledgement in
            rests (as_open v _ lives (ap (λ (r : Receiving). r.readable) a.receiving) (ap (λ (r : Receiving). r.kept) a.receiving) (ap (λ (r : Receiving). r.rnext) a.receiving) a.shut);
        read = read lives;
      })))
