-- What an arriving segment makes of a connection, step by step (RFC 9293 section 3.10.7).
use Rattle.std.specs.Prelude.{ℕ, ◌+◌, ◌-◌, ◌%◌, ◌^◌, ◌==◌, ◌&&◌, ◌||◌, not, nat_lt, min, Bool, true, false, if◌then◌else◌, List, [], ◌∷◌, length, Option, Some, None, is_some}
use Rattle.tcp_state.specs.declared.calls.Refusal.{Refusal}
use Rattle.tcp_state.specs.declared.calls.Refusal.TheVariants.{ECONNREFUSED, ECONNRESET}
use Rattle.ipv4.specs.declared.addr.Endpoint.{Endpoint}
use Rattle.tcp_segment.specs.declared.blocks.Block.{Block}
use Rattle.tcp_segment.specs.Segment.{Segment, smss_of, scale_option_of, shift_of, span_of, blocks_of}
use Rattle.tcp_halves.specs.Numbers.{is_before}
use Rattle.tcp_state.specs.declared.connection.Fate.{Fate}
use Rattle.tcp_state.specs.declared.connection.Fate.TheVariants.{Stays, Removed, Rejected}
use Rattle.clock.specs.declared.moment.Moment.{Moment}
use Rattle.tcp_state.specs.declared.state.State.{State}
use Rattle.tcp_state.specs.declared.state.State.TheVariants.{SynSent, SynReceived, Established, FinWait1, FinWait2, CloseWait, Closing, LastAck, TimeWait, Closed}
use Rattle.tcp_halves.specs.Halves.{Room}
use Rattle.tcp_halves.specs.Stream.{outstanding, is_new_ack, sending_settled, receiving_settled, after_syn_acknowledged, after_acknowledged, is_in_window, stands_before, is_acceptable, after_syn, after_octets, stands_next, after_end}
use Rattle.tcp_halves.specs.Windows.{window_in, after_syn_heard, after_window_update, syn_window}
use Rattle.tcp_state.specs.View.{View, opened_actively, is_opening, is_syn_sent, is_syn_received, is_closed, is_fin_wait_2, is_time_wait, awaits_fin_ack, after_reset, is_over}
use Rattle.tcp_state.specs.Resend.{Resend, stopped, mark_past, mark_moved, unmarked, resend_acknowledged, resend_first, resend_lost, resend_ends, excused_by, gives_back}
use Rattle.congestion.specs.Control.{repairs, is_selective}
use Rattle.congestion.specs.Window.{Window, is_recovering, goes_on, third_is_next}
use Rattle.congestion.specs.Events.{Event, after_event}
use Rattle.congestion.specs.Events.Event.{NewAck, PartialAck, Duplicate, Loss, Undo}
use Rattle.tcp_state.specs.Congestion.{Signal, after_signal}
use Rattle.tcp_state.specs.Congestion.Signal.{Begins, Counts, Both, Nothing}
use Rattle.tcp_state.specs.Timing.{probes, clocked}
use Rattle.retransmit.specs.Deadlines.{no_timers}
use Rattle.stream_buf.specs.declared.ranges.Range.{Range}
use Rattle.stream_buf.specs.Ranges.{covered}
use Rattle.stream_buf.specs.Receiving.{ranges}
use Rattle.tcp_segment.specs.Wire.{past}
use Rattle.tcp_state.specs.declared.arrival.Before.{Before}
use Rattle.tcp_state.specs.Calls.{aborted}
use Rattle.tcp_state.specs.Alive.{heard_now}
use Rattle.tcp_state.specs.Reporting.{settled, noted}
use Rattle.tcp_state.specs.Guard.{is_spent, guard_after}
use Rattle.tcp_state.specs.Selective.{selects, with_blocks, is_usual, loss_end}

abbrev pub owing_ack : View → View
owing_ack v = record v { owes_ack = true }

-- Windows are scaled where both sides' SYNs have the option (RFC 7323 section 2.2): a peer's that ours doesn't offer is ignored.
abbrev pub scales_with : View → Segment → Bool
scales_with v s = v.scales && is_some (scale_option_of s)

-- the peer's SYN is taken, while this window is advertised to it: it settles whether windows are scaled, and whether what is kept ahead of a gap is reported
abbrev pub after_first_syn : View → Segment → ℕ → View
after_first_syn v s advertised = let scales = scales_with v s in record v {
  state = SynReceived;
  scales = scales;
  sending = after_syn_heard (sending_settled v.sending scales (shift_of s)) s.number s.window (smss_of s);
  receiving = after_syn (receiving_settled v.receiving scales) s.number advertised;
  reporting = settled v.reporting s;
}

-- a connection that a SYN opens at a listener at this moment (section 3.10.7.2), in buffers that were made for this: no window is advertised yet
abbrev pub opened_passively : Room → Endpoint → Endpoint → ℕ → Segment → Moment → View
opened_passively room local peer isn syn now = record (after_first_syn (opened_actively room local peer isn now) syn 0) { passive = true }

-- Why a reset ends the connection, by the state that it ends: refused while it opens, reset while octets may still come or go; else both sides were closed
abbrev pub reset_error : State → Option Refusal
reset_error SynSent = Some ECONNREFUSED
reset_error SynReceived = Some ECONNREFUSED
reset_error Established = Some ECONNRESET
reset_error FinWait1 = Some ECONNRESET
reset_error FinWait2 = Some ECONNRESET
reset_error CloseWait = Some ECONNRESET
reset_error _ = None

-- in SYN-SENT a reset acts that acknowledges our SYN, and any other is dropped (section 3.10.7.3, second)
abbrev pub after_rst_in_syn_sent : View → Segment → View
after_rst_in_syn_sent v s =
    if s.flags.ack && is_new_ack v.sending s.acknowledgement then after_reset v (reset_error v.state) else v

-- in SYN-SENT a SYN is taken that acknowledges ours, which ends the opening (section 3.10.7.3, fourth); our SYN advertised as much of the room as one can
abbrev pub is_right_syn_ack : View → Segment → Bool
is_right_syn_ack v s = s.flags.syn && s.flags.ack && is_new_ack v.sending s.acknowledgement

abbrev pub after_syn_ack : View → Segment → View
after_syn_ack v s =
    if is_right_syn_ack v s then (let heard = after_first_syn v s (syn_window v.receiving) in record heard {
      state = Established;
      sending = after_syn_acknowledged heard.sending;
      owes_ack = true;
      resend = unmarked v.resend;
    }) else v

-- .. or one without ACK, of a peer that opens at the same time (section 3.5, figure 7): a SYN-ACK is due, with the number of our SYN. That had advertised its
-- window, if it went out.
abbrev pub is_simultaneous_syn : View → Segment → Bool
is_simultaneous_syn v s = s.flags.syn && not s.flags.ack

abbrev pub after_simultaneous_syn : View → Segment → View
after_simultaneous_syn v s = record (after_first_syn v s (if outstanding v.sending == 0 then 0 else syn_window v.receiving)) {
  resend = record v.resend { mark = mark_past 0 (outstanding v.sending) };
}

-- the acceptability test, in every state but SYN-SENT (section 3.10.7.4, first)
abbrev pub is_acceptable_to : View → Segment → Bool
is_acceptable_to v s = is_acceptable v.receiving s.number (span_of s)

-- an acceptable segment with SYN ends what a listener opened and is not established (section 3.10.7.4, fourth)
abbrev pub ends_by_syn : View → Segment → Bool
ends_by_syn v s = is_acceptable_to v s && s.flags.syn && v.passive && is_syn_received v.state

-- a reset at RCV.NXT acts (section 3.10.7.4, second) ..
abbrev pub is_acting_reset : View → Segment → Bool
is_acting_reset v s = is_acceptable_to v s && (s.number == v.receiving.rnext)

-- .. and ends what a listener opened and is not established
abbrev pub ends_by_reset : View → Segment → Bool
ends_by_reset v s = is_acting_reset v s && v.passive && is_syn_received v.state

-- its number elsewhere in the window, it draws an acknowledgement; outside it is dropped, whatever octets it has
abbrev pub after_rst : View → Segment → View
after_rst v s =
    if is_acting_reset v s then (if ends_by_reset v s then v else after_reset v (reset_error v.state))
    else if is_in_window v.receiving s.number then owing_ack v
    else v

-- our SYN is acknowledged
abbrev pub after_establishment : View → View
after_establishment v = record v { state = Established; sending = after_syn_acknowledged v.sending; resend = unmarked v.resend }

-- an acknowledgement past all that is held is of our FIN (section 3.10.7.4, fifth)
abbrev pub is_of_fin : View → ℕ → Bool
is_of_fin v ack = awaits_fin_ack v.state && nat_lt (length v.sending.held) (past ack v.sending.una)

abbrev pub beyond_fin : State → State
beyond_fin FinWait1 = FinWait2
beyond_fin Closing = TimeWait
beyond_fin LastAck = Closed
beyond_fin state = state

-- nothing is owed once all is closed
abbrev pub fin_acknowledged : View → View
fin_acknowledged v = let closed = is_closed (beyond_fin v.state) in record v {
  state = beyond_fin v.state;
  owes_ack = v.owes_ack && not closed;
  delays_ack = v.delays_ack && not closed;
  resend = if closed then stopped v.resend else v.resend;
  timers = if closed then no_timers else v.timers;
}

-- numbers that were outstanding are acknowledged
abbrev pub after_new_ack : View → ℕ → View
after_new_ack v ack = let sending = after_acknowledged v.sending ack in
    record v { sending = sending; resend = mark_moved v.resend (past ack v.sending.una) (outstanding sending) }

-- On guard an acknowledgement may be as old as the largest window that the peer ever told is wide, and no older (RFC 5961 section 5.2).
abbrev pub is_too_old : View → ℕ → Bool
is_too_old v ack = v.guard.on && nat_lt v.sending.max_window (past v.sending.una ack)

-- it is of what was not sent, or too old
abbrev pub is_off : View → ℕ → Bool
is_off v ack = is_before v.sending.nxt ack || is_too_old v ack

-- the acknowledgement field (section 3.10.7.4, fifth): what it makes of the connection ..
abbrev pub after_ack : View → ℕ → View
after_ack v ack =
    if is_syn_received v.state then (if is_new_ack v.sending ack then after_establishment v else v)
    else if is_new_ack v.sending ack then (if is_of_fin v ack then fin_acknowledged (after_new_ack v ack) else after_new_ack v ack)
    else if is_off v ack then owing_ack v
    else v

-- .. and whether the rest of the segment is read
abbrev pub is_read_on : View → ℕ → Bool
is_read_on v ack = if is_syn_received v.state then is_new_ack v.sending ack else is_new_ack v.sending ack || not (is_off v ack)

abbrev pub after_window : View → Segment → View
after_window v s = record v { sending = after_window_update v.sending s.number s.acknowledgement (window_in v.sending s.window) }

-- the peer's side is not closed, as far as we know
abbrev pub is_receiving : State → Bool
is_receiving Established = true
is_receiving FinWait1 = true
is_receiving FinWait2 = true
is_receiving _ = false

-- Octets that stand next in order, and nothing is kept ahead of a gap: their acknowledgement may wait for a second segment (section 3.8.6.3)
abbrev pub may_delay : View → Segment → Bool
may_delay v s = (s.number == v.receiving.rnext) && (ranges v.receiving.kept == 0)

-- The octets (section 3.10.7.4, seventh): those in order can be read, and those ahead of a gap are kept. An acknowledgement tells the peer how far they are in order: at once, where they come
-- ahead of a gap or into one, or come again, and for the second segment; else it is delayed.
abbrev pub after_text : View → Segment → View
after_text v s =
    if (length s.octets == 0) || not (is_receiving v.state) then v
    else record v {
      receiving = after_octets v.receiving s.number s.octets;
      owes_ack = v.owes_ack || v.delays_ack || not (may_delay v s);
      delays_ack = true;
      reporting = noted v.reporting v.receiving.rnext s.number;
    }

-- The FIN (section 3.10.7.4, eighth) counts where every octet before it is in place and it was not cut. One that doesn't count isn't kept: the peer sends it again.
abbrev pub counts_fin : View → Segment → Bool
counts_fin v s = s.flags.fin && is_receiving v.state && stands_next v.receiving ((s.number + length s.octets) % 2 ^ 32)

abbrev pub beyond_end : State → State
beyond_end Established = CloseWait
beyond_end FinWait1 = Closing
beyond_end FinWait2 = TimeWait
beyond_end state = state

-- it draws an acknowledgement, whether it counts or stands ahead of a gap
abbrev pub after_fin : View → Segment → View
after_fin v s =
    if counts_fin v s then record v { state = beyond_end v.state; receiving = after_end v.receiving; owes_ack = true }
    else if s.flags.fin && is_receiving v.state then owing_ack v
    else v

-- an acceptable segment with ACK and without SYN
abbrev pub after_acknowledging_segment : View → Segment → View
after_acknowledging_segment v s =
    if is_read_on v s.acknowledgement then after_fin (after_text (after_window (after_ack v s.acknowledgement) s) s) s
    else after_ack v s.acknowledgement

-- an acceptable segment: a SYN draws an acknowledgement, and what acknowledges nothing is dropped
abbrev pub after_acceptable_segment : View → Segment → View
after_acceptable_segment v s =
    if s.flags.syn then (if ends_by_syn v s then v else owing_ack v)
    else if s.flags.ack then after_acknowledging_segment v s
    else v

abbrev pub after_segment : View → Segment → View
after_segment v s =
    if is_closed v.state then v
    else if s.flags.rst then (if is_syn_sent v.state then after_rst_in_syn_sent v s else after_rst v s)
    else if is_syn_sent v.state then (if is_simultaneous_syn v s then after_simultaneous_syn v s else after_syn_ack v s)
    else if is_acceptable_to v s then after_acceptable_segment v s
    else owing_ack v

-- Octets for a connection that its caller closed would be lost, and the peer is told so by a reset (section 3.6.1): an acceptable
-- segment has one at RCV.NXT or past it. Its acknowledgement and its window are used before, its FIN is not looked at.
abbrev pub brings_more : View → Segment → Bool
brings_more v s = not (length s.octets == 0) && is_before v.receiving.rnext ((s.number + length s.octets) % 2 ^ 32)

abbrev pub is_read : View → Segment → Bool
is_read v s = not s.flags.rst && is_acceptable_to v s && not s.flags.syn && s.flags.ack && is_read_on v s.acknowledgement

abbrev pub is_lost : View → Segment → Bool
is_lost v s = v.released && is_receiving v.state && is_read v s && brings_more v s

abbrev pub after_lost : View → Segment → View
after_lost v s = aborted (after_window (after_ack v s.acknowledgement) s)

-- What the segment makes of the connection without the clock.
abbrev pub after_heard : View → Segment → View
after_heard v s = if is_lost v s then after_lost v s else after_segment v s

-- While the connection opens, an acknowledgement of what was not sent is rejected: it is answered by a reset at its number
-- (section 3.10.7.3, first, and section 3.10.7.4, fifth), and changes nothing.
abbrev pub acknowledges_unsent : View → Segment → Bool
acknowledges_unsent v s = not s.flags.rst && s.flags.ack && not (is_new_ack v.sending s.acknowledgement)

abbrev pub is_rejected : View → Segment → Bool
is_rejected v s = acknowledges_unsent v s && (is_syn_sent v.state || (is_syn_received v.state && is_acceptable_to v s && not s.flags.syn))

-- The clock. A wait is counted from the segment that leads to TIME-WAIT or to FIN-WAIT-2 ..
abbrev pub begins_wait : State → State → Bool
begins_wait before TimeWait = not (is_time_wait before)
begins_wait before FinWait2 = not (is_fin_wait_2 before)
begins_wait before _ = false

-- .. and in TIME-WAIT again from one that brings the peer's FIN once more (section 3.10.7.4, eighth)
abbrev pub repeats_fin : View → Segment → Bool
repeats_fin v s = is_time_wait v.state && not s.flags.rst && not (is_acceptable_to v s) && s.flags.fin && ((s.number + span_of s) % 2 ^ 32 == v.receiving.rnext)

-- Past the opening, a segment that takes no number stands one before RCV.NXT. Its peer asks whether this side is there (section 3.8.4), or doesn't know yet that the probe of a closed window was taken: what it acknowledges and its window are used,
-- and it draws an acknowledgement at once.
abbrev pub asks : View → Segment → Bool
asks v s = not s.flags.rst && not (is_opening v.state) && (span_of s == 0) && stands_before v.receiving s.number

-- While its window is closed, a peer that acknowledges is there, whatever it acknowledges: that is progress (section 3.8.6.1).
abbrev pub answers_probe : View → Segment → Bool
answers_probe v s = not (is_opening v.state) && (v.sending.window == 0) && is_acceptable_to v s && s.flags.ack && not s.flags.rst

-- past the opening, how many octets are outstanding: the FIN behind all that are held is none
abbrev pub octets_outstanding : View → ℕ
octets_outstanding v = min (length v.sending.held) (outstanding v.sending)

-- A duplicate ACK (RFC 5681 section 2): octets are outstanding, and the segment brings none, nor a SYN or a FIN, and doesn't ask for an acknowledgement; it acknowledges what is acknowledged and tells the window that is known.
abbrev pub is_duplicate : View → Segment → Bool
is_duplicate v s =
    not (is_opening v.state) && is_read v s && nat_lt 0 (octets_outstanding v)
    && (length s.octets == 0) && not s.flags.fin
    && (s.acknowledgement == v.sending.una) && (window_in v.sending s.window == v.sending.window) && not (stands_before v.receiving s.number)

-- Where losses are repaired, it counts in a recovery, and where all is acknowledged that was outstanding when the last one began or the timer expired (RFC 6582 section 3.2, steps 2 and 4); not while the peer's closed window is
-- probed, for it answers each probe with one; nor where reports are taken, which count instead.
abbrev pub counts_duplicates : View → Bool
counts_duplicates v = not (repairs v.congestion.control) || ((is_recovering v.congestion || (v.resend.recover == 0)) && not (probes v) && not (selects v))

abbrev pub is_counted_duplicate : View → Segment → Bool
is_counted_duplicate v s = is_duplicate v s && counts_duplicates v

-- What a segment reports that is read, past the opening. Outside a recovery it counts as a duplicate ACK does there.
abbrev pub blocks_told : View → Segment → List Block
blocks_told v s = if selects v && not (is_opening v.state) && is_read v s then blocks_of s else []

abbrev pub counts_reports : View → Bool
counts_reports v = not (is_recovering v.congestion) && (v.resend.recover == 0) && not (probes v)

-- The first block of a segment tells of octets that came twice (RFC 2883 section 4): it ends at the number that the segment acknowledges, or before, or it lies in the second block.
abbrev pub lies_in_first : Block → List Block → Bool
lies_in_first block [] = false
lies_in_first block (other ∷ rest) = not (is_before block.left.0 other.left.0) && not (is_before other.right.0 block.right.0)

abbrev pub came_twice : ℕ → List Block → Bool
came_twice acknowledgement [] = false
came_twice acknowledgement (block ∷ rest) = not (is_before acknowledgement block.right.0) || lies_in_first block rest

-- .. past what stood at SND.UNA when a segment last counted as lost
abbrev pub is_since_loss : View → List Block → Bool
is_since_loss v [] = false
is_since_loss v (block ∷ rest) = is_before v.sending.una block.right.0 || nat_lt (past v.sending.una block.right.0) v.resend.since_loss

-- So octets of it went out again that needn't have, but by a probe (RFC 3708 section 2).
unfoldable pub tells_needless : View → Segment → Bool
tells_needless v s = let blocks = blocks_told v s in came_twice s.acknowledgement blocks && is_since_loss v blocks && (v.resend.tail == 0) && not (probes v)

-- A segment that isn't used, and draws an acknowledgement: a reset off RCV.NXT in the window; one that is unacceptable; an acceptable SYN; or an acknowledgement of what was not sent, or too old (section 3.10.7.4, first to
-- fifth, RFC 5961 section 7).
abbrev pub is_unused : View → Segment → Bool
is_unused v s =
    if s.flags.rst then not (is_acting_reset v s) && is_in_window v.receiving s.number
    else if not (is_acceptable_to v s) then true
    else if s.flags.syn then not (ends_by_syn v s)
    else s.flags.ack && not (is_syn_received v.state) && not (is_read_on v s.acknowledgement)

-- on guard it draws one that isn't owed already, or asks for one
abbrev pub draws_one : View → Segment → Bool
draws_one v s = v.guard.on && not v.owes_ack && not (is_syn_sent v.state) && (is_unused v s || asks v s)

-- the SYN that opened it at a listener comes again
abbrev pub is_opening_syn : View → Segment → Bool
is_opening_syn v s =
    v.passive && is_syn_received v.state && s.flags.syn && not s.flags.ack && not s.flags.rst && not (is_acceptable_to v s) && ((s.number + 1) % 2 ^ 32 == v.receiving.rnext)

-- on guard it draws none, since ten went out in a second; or our SYN again in place of one
abbrev pub holds_back : View → Segment → Moment → Bool
holds_back v s now = draws_one v s && is_spent v.guard now

abbrev pub is_silenced : View → Segment → Moment → Bool
is_silenced v s now = holds_back v s now || (v.guard.on && is_opening_syn v s)

-- what the clock and the congestion window have to know of a connection before a segment and of the segment
abbrev pub before : View → Segment → Before
before v s = record {
  state = v.state;
  una = record { 0 = v.sending.una };
  owes_reset = v.owes_reset;
  repeats_fin = repeats_fin v s;
  answers_probe = answers_probe v s;
  is_duplicate = is_counted_duplicate v s;
  counts_reports = counts_reports v;
  blocks = blocks_told v s;
  held = length v.sending.held;
  tail = v.resend.tail;
  needless = tells_needless v s;
  asks = asks v s;
  draws_one = draws_one v s;
  asks_again = v.guard.on && is_opening_syn v s;
}

abbrev pub since_after : Before → View → Moment → Moment
since_after b w now = if b.repeats_fin || begins_wait b.state w.state || (w.owes_reset && not b.owes_reset) then now else w.since

-- the segment moved SND.UNA
abbrev pub is_moved : Before → View → Bool
is_moved b w = not (b.una.0 == w.sending.una)

-- The window is open, and the number before SND.NXT went out in probes of a closed one alone, which the peer may have refused: where losses are repaired, the segment at SND.UNA goes out again before what is new, that alone; it is not lost, so nothing is paid for it.
abbrev pub reopens : View → Bool
reopens w = w.sending.probed && repairs w.congestion.control && nat_lt 0 w.sending.window

-- a segment by which it does
abbrev pub reopens_by : View → Segment → Bool
reopens_by v s = answers_probe v s && reopens (after_heard v s)

abbrev pub resend_answered : View → Resend
resend_answered w = record w.resend { mark = if reopens w then mark_past 0 (outstanding w.sending) else w.resend.mark; once = reopens w || w.resend.once; expiries = 0 }

abbrev pub resend_heard : Before → View → Moment → Resend
resend_heard b w now =
    if is_moved b w then resend_acknowledged w.resend w.sending.una (is_opening b.state) now
    else if b.answers_probe then resend_answered w
    else w.resend

-- What the segment reports joins what was reported, of what is outstanding still. Octets that nothing reported before make it a duplicate ACK, whatever else it brings (RFC 6675 section 2).
abbrev pub reported_by : Before → View → List Range
reported_by b w = with_blocks w.resend.reported w.sending b.blocks

abbrev pub told : Before → View → View
told b w = record w { resend = record w.resend { reported = reported_by b w } }

abbrev pub resend_told : Before → View → Moment → Resend
resend_told b w now = record (resend_heard b w now) { reported = reported_by b w }

abbrev pub reports_more : Before → View → Bool
reports_more b w = b.counts_reports && nat_lt (covered w.resend.reported) (covered (reported_by b w))

-- A partial ACK comes where a recovery goes on, and some of what was outstanding at its beginning still is (RFC 6582 section 3.2, step 3). In a recovery that reports rule that is nothing to the window: what is in the
-- network is counted by reports (RFC 6675 section 5).
abbrev pub is_partial : View → Bool
is_partial w = goes_on w.congestion && nat_lt 0 w.resend.recover

-- The third report that counts tells a loss where no more than usual is tolerated, or one by which what is at SND.UNA is lost (RFC 6675 section 5, steps 1 and 2).
abbrev pub tells_loss : View → Bool
tells_loss w = (third_is_next w.congestion && is_usual w) || nat_lt 0 (loss_end w)

abbrev pub report_event : View → Event
report_event w = if tells_loss w then Loss (outstanding w.sending) else Duplicate (outstanding w.sending)

-- Where more is tolerated, the third and those behind it are nothing to the window until one tells a loss.
abbrev pub report_signal : View → Signal
report_signal w = if third_is_next w.congestion && not (tells_loss w) then Nothing else Counts (report_event w)

-- An ACK of so many new octets that is no partial one. Where it is a report which counts, too, that counts behind it.
abbrev pub behind_ack : View → ℕ → View
behind_ack w octets = record w { congestion = after_event w.congestion (NewAck octets (outstanding w.sending)) }

-- An ACK of all that was outstanding at a probe of the tail, in no recovery: that probe brought what was lost, unless the first block of the ACK tells that its octets came twice (RFC 8985 section 7.4.2, RFC 2883). The window pays for that loss as for any other, by what was in flight then.
abbrev pub ends_tail : Before → View → Bool
ends_tail b w = selects w && nat_lt 0 b.tail && (w.resend.tail == 0) && not (is_recovering w.congestion) && not (came_twice w.sending.una b.blocks)

abbrev pub whole_signal : Before → View → ℕ → Bool → Signal
whole_signal b w octets more =
    let ack = NewAck octets (outstanding w.sending) in
    if more then Both ack (report_event (behind_ack w octets))
    else if ends_tail b w then Both (Loss b.tail) ack
    else Counts ack

abbrev pub acknowledged_signal : Before → View → ℕ → Bool → Signal
acknowledged_signal b w octets more = if is_partial w then (if selects w then Nothing else Counts (PartialAck octets)) else whole_signal b w octets more

-- What a segment that was heard is to the congestion window: its beginning, where it acknowledges our SYN; an ACK of new octets; or a duplicate one or a report that counts, which an ACK of new octets may be, too. To what is CLOSED it is nothing.
abbrev pub signal_of : Before → View → Bool → Signal
signal_of b w more =
    if is_closed w.state then Nothing
    else if is_moved b w then (if is_opening b.state then Begins else acknowledged_signal b w (b.held - length w.sending.held) more)
    else if b.is_duplicate then Counts (Duplicate (outstanding w.sending))
    else if more then report_signal w
    else Nothing

abbrev pub congestion_event_of : Before → View → Signal
congestion_event_of b w = signal_of b (told b w) (reports_more b w)

-- a segment that is a report which counts; and one that tells a loss, behind the ACK of new octets that it may be, too
abbrev pub is_report : View → Segment → Bool
is_report v s = reports_more (before v s) (after_heard v s)

-- an ACK that ends a probe of the tail, and is paid for
abbrev pub repairs_tail : View → Segment → Bool
repairs_tail v s = ends_tail (before v s) (after_heard v s)

abbrev pub told_behind : Before → View → View
told_behind b w = if is_moved b w then behind_ack (told b w) (b.held - length w.sending.held) else told b w

abbrev pub reports_loss : View → Segment → Bool
reports_loss v s = is_report v s && tells_loss (told_behind (before v s) (after_heard v s))

-- The third duplicate ACK in a row tells that the segment at SND.UNA is lost (RFC 5681 section 3.2), and a partial ACK that the next one is, too (RFC 6582 section 3.2, step 3): it goes out again. So it does
-- where reports tell that it is lost; and behind it what else they tell of, up to the end of that recovery (RFC 6675 section 5). A loss that is repaired already sends nothing again.
abbrev pub resend_counted : Resend → Event → Window → ℕ → Resend
resend_counted p (Duplicate flight) window outstanding = if third_is_next window then resend_lost p (repairs window.control) outstanding else p
resend_counted p (Loss flight) window outstanding = resend_lost p true outstanding
resend_counted p (PartialAck octets) window outstanding = resend_first p outstanding
resend_counted p (NewAck octets flight) window outstanding = if is_selective window.control && is_recovering window then resend_ends p else p
resend_counted p _ window outstanding = p

abbrev pub resend_signalled : Resend → Signal → Window → ℕ → Resend
resend_signalled p (Counts event) window outstanding = resend_counted p event window outstanding
resend_signalled p (Both (Loss flight) behind) window outstanding = p
resend_signalled p (Both first behind) window outstanding = resend_counted (resend_counted p first window outstanding) behind (after_event window first) outstanding
resend_signalled p _ window outstanding = p

abbrev pub resend_after : Before → View → Moment → Resend
resend_after b w now = resend_signalled (resend_told b w now) (congestion_event_of b w) w.congestion (outstanding w.sending)

abbrev pub congestion_after : Before → View → Window
congestion_after b w = after_signal w.congestion (congestion_event_of b w) w.sending.smss w.resend.syn_resent

-- .. and where it tells that the last of what went out again needn't have, the window gets back what the loss took (RFC 3708 section 3)
abbrev pub given_back : Bool → Window → Window
given_back back c = let whole = after_event c Undo in record c { cwnd = if back then whole.cwnd else c.cwnd; ssthresh = if back then whole.ssthresh else c.ssthresh }

abbrev pub resend_left : Before → View → Moment → Resend
resend_left b w now = excused_by b.needless (resend_after b w now)

abbrev pub congestion_left : Before → View → Moment → Window
congestion_left b w now = given_back (gives_back b.needless (resend_left b w now)) (congestion_after b w)

-- one is owed to a segment that asks for it, where any may be
abbrev pub owes_answer : Before → View → Bool
owes_answer b w = w.owes_ack || (b.asks && not (is_syn_sent w.state || is_closed w.state))

-- Of the acknowledgements that segments draw on guard which aren't used or ask for one, ten go out in a second, and those behind them are held back (RFC 5961 section 7) ..
abbrev pub is_held_back : Before → View → Moment → Bool
is_held_back b w now = b.draws_one && is_spent w.guard now

-- .. and the SYN that opened it draws the SYN-ACK again in place of one
abbrev pub answers_again : Before → View → Moment → Bool
answers_again b w now = b.asks_again && not (is_held_back b w now)

abbrev pub guarded : Before → View → Moment → View
guarded b w now = record w {
  owes_ack = if is_held_back b w now || b.asks_again then false else owes_answer b w;
  resend = record w.resend { mark = if answers_again b w now then mark_past 0 (outstanding w.sending) else w.resend.mark };
  guard = guard_after w.guard b.draws_one now;
}

-- what a segment that was heard is to all this
abbrev pub noted_by : Before → View → Moment → View
noted_by b w now = guarded b (record w { since = since_after b w now; resend = resend_left b w now; congestion = congestion_left b w now; alive = heard_now w.alive now }) now

-- what the clock makes of the connection then
abbrev pub timed_by : Before → View → Moment → View
timed_by b w now = clocked (is_moved b w) (noted_by b w now) now

-- a segment that is rejected, or comes to what is CLOSED, changes nothing
abbrev pub after_segment_at : View → Segment → Moment → View
after_segment_at v s now = if is_closed v.state || is_rejected v s then v else timed_by (before v s) (after_heard v s) now

-- a reset or a SYN takes out what a listener opened and is not established
abbrev pub ends_opening : View → Segment → Bool
ends_opening v s = not (is_syn_sent v.state) && (if s.flags.rst then ends_by_reset v s else ends_by_syn v s)

-- what becomes of its place: taken out is also what its caller closed and what is over then
abbrev pub fate : View → Segment → Fate
fate v s =
    if is_closed v.state || is_lost v s then Stays
    else if is_over (after_segment v s) then Removed
    else if is_rejected v s then Rejected
    else if ends_opening v s then Removed
    else Stays
