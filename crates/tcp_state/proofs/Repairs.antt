-- Why what is reported is not sent again, and what reports let go out.
use Rattle.std.proofs.Common.{◌≡◌, ℕ, ◌+◌, ◌-◌, ◌<◌, ◌≤◌, ◌==◌, ◌&&◌, ◌||◌, not, nat_lt, nat_le, min, true, false, if◌then◌else◌, List, [], ◌∷◌, length, Some, arith, refl, sym, ◌∙◌, ap, ap₂, subst, ◌⊎◌, inl, inr, Bool, None, ◌≢◌, max}
use Rattle.std.proofs.lemmas.Bool.{leb-true, eqb-true, ltb-true, lt-ltb, le-ltb}
use Rattle.std.proofs.lemmas.Bool.Decides.{leb_tells}
use Rattle.stream_buf.specs.declared.ranges.Range.{Range}
use Rattle.stream_buf.specs.Ranges.{AreApart, covered, with_range}
use Rattle.stream_buf.specs.declared.receive.TheConstants.{MOST_RANGES}
use Rattle.stream_buf.specs.Scoreboard.{with_report, is_taken, is_reported, is_lost, unreported, lost_end, reported_end, passed}
use Rattle.stream_buf.proofs.Reports.{gap_unreported, len_unreported, lost_before}
use Rattle.congestion.specs.Control.{repairs, is_selective}
use Rattle.congestion.specs.Window.{Window, is_recovering, goes_on, third_is_next, allowed, after_duplicate, after_third}
use Rattle.congestion.specs.Events.{Event as WindowEvent, after_event as after_window_event}
use Rattle.congestion.specs.Events.Event.{NewAck, PartialAck, Duplicate, Loss, Expiry}
use Rattle.clock.specs.declared.moment.Moment.{Moment}
use Rattle.tcp_segment.specs.declared.blocks.Block.{Block}
use Rattle.tcp_segment.specs.Segment.{Segment}
use Rattle.tcp_segment.specs.Wire.{past}
use Rattle.tcp_halves.specs.Halves.{Sending}
use Rattle.tcp_halves.specs.Stream.{outstanding}
use Rattle.tcp_halves.proofs.Choices.{either, by, clash, both, and_left, and_right, and_false, or_left, or_right, not_true, unowed}
use Rattle.tcp_state.specs.declared.arrival.Before.{Before}
use Rattle.tcp_state.specs.declared.emission.Due.TheVariants.{Text}
use Rattle.tcp_state.specs.declared.emission.Stretch.{Stretch}
use Rattle.tcp_state.specs.Resend.{Resend, resend_lost, resend_ends, once_more}
use Rattle.tcp_state.specs.View.{View, IsSound, is_opening, is_closed, is_at_end}
use Rattle.tcp_state.specs.Congestion.{Signal, after_signal}
use Rattle.tcp_state.specs.Congestion.Signal.{Begins, Counts, Both, Nothing}
use Rattle.tcp_state.specs.New.{sends_new, sends_fin}
use Rattle.tcp_state.specs.Selective.{selects, repairs_gaps, counts_pipe, tolerance, loss_end, pipe, allowance, place_of, with_blocks, repaired_end, is_usual, tolerance_of}
use Rattle.tcp_state.specs.Due.{first_due, again, again_at, is_missing, goes_by_reports, goes_by_windows, goes_again, new_octets, fin_alone, end_of, numbers_of}
use Rattle.tcp_state.specs.Arrival.{after_heard, before, is_moved, is_rejected, is_counted_duplicate, counts_reports, reported_by, reports_more, told, told_behind, behind_ack, is_partial, came_twice, tells_loss, report_event, whole_signal, is_report, reports_loss, acknowledged_signal, congestion_event_of, resend_signalled, resend_told, resend_after, timed_by, is_duplicate, counts_duplicates, report_signal}
use Rattle.tcp_state.specs.Edges.{Event, Hears, after_event, Ticks, Emits, Sends, Receives, Shuts, SetsNoDelay, SetsKeepAlive, Closes, Aborts, Unreachable, LosesHop, congestion_event_by}
use Rattle.clock.specs.Moments.{has_come}
use Rattle.tcp_state.specs.Alive.{after_silence}
use Rattle.tcp_state.specs.Timing.{KeepsTime, probes, clocked, retransmission_expired, probe_expired, after_timers, after_tick, gives_up}
use Rattle.tcp_state.proofs.Guarded.{kept_mark}
use Rattle.tcp_state.proofs.Losses.{past_opening}
use Rattle.tcp_state.proofs.Recount.{heard_counts}
use Rattle.tcp_state.proofs.Clocked.{by_others, heard_paced, after_paced, told_moved, told_still, signalled, reports_none}
use Rattle.tcp_state.proofs.Congestion.{window_kept}
use Rattle.tcp_state.proofs.Places.{first_at_una}
use Rattle.tcp_state.proofs.Scores.{blocks_score, heard_scores}
use Rattle.tcp_state.proofs.Expiries.{goes_again_all}
use Rattle.tcp_state.proofs.Recovering.{first_left, goes_after}
use Rattle.tcp_state.proofs.Emissions.{by_due}
use Rattle.tcp_state.proofs.Events.{by_event}
use Rattle.tcp_state.proofs.NewNumbers.{keeps_window, keeps_cwnd}
use Rattle.tcp_state.proofs.TailProbes.{nothing_lost}
use Rattle.tcp_state.proofs.Selects.{silent_unselected, more_counts, more_opened, counted_selects_none}
use Rattle.tcp_state.proofs.Signals.{event_is, window_by, heard_is, heard_selects, opened_tells}
use Rattle.tcp_state.proofs.Scores.{heard_leaves}

-- No octet that goes out again is reported.

abbrev Unreported : View → Stretch → Type 0
Unreported v t = t.offset < outstanding v.sending → (place : ℕ) → t.offset ≤ place → place < t.offset + t.count → is_reported v.resend.reported place ≡ false

again_unreported : (v : View) (mark place : ℕ) → IsSound v → again_at v mark ≡ place → Unreported v (again v place)
again_unreported v mark place sound at within d from below =
    let apart = sound.resend.reported.apart in
    let first : is_reported v.resend.reported place ≡ false = subst (λ p. is_reported v.resend.reported p ≡ false) at (gap_unreported v.resend.reported 1 mark apart) in
    let most = min (min (length v.sending.held) (outstanding v.sending) - place) v.sending.smss in
    let same : place + (d - place) ≡ d = omega (arith, from) in
    subst (λ p. is_reported v.resend.reported p ≡ false) same (len_unreported v.resend.reported 1 place most (d - place) apart first (omega (arith, from, below)))

pub resent_unreported : (v : View) (stretch : Stretch) (place : ℕ) → IsSound v → first_due v ≡ Some (Text stretch) → stretch.offset < outstanding v.sending → stretch.offset ≤ place → place < stretch.offset + stretch.count
    → is_reported v.resend.reported place ≡ false
resent_unreported v stretch place sound first within from below = by_due (λ o. (t : Stretch) → o ≡ Some (Text t) → Unreported v t) v (record {
  nothing = λ quiet heard t e. cc;
  rst = λ owes t e. cc;
  syn = λ opening goes t e. cc;
  once_more = λ opened p is goes t e. let same : again v p ≡ t = cc in subst (Unreported v) same (again_unreported v is.mark p sound is.at);
  octets = λ opened sends t e. let same : new_octets v ≡ t = cc in subst (Unreported v) same (λ out. absurd (omega (arith, out)));
  fin = λ opened sends t e. let same : fin_alone v ≡ t = cc in subst (Unreported v) same (λ out. absurd (omega (arith, out)));
  probe = λ opened owes goes t e. cc;
  ack = λ owes t e. cc;
  asks = λ quiet owes t e. cc;
}) stretch first within place from below

-- Where reports aren't taken, none is.

heard_none : (v : View) (s : Segment) → v.resend.reported ≡ [] → (let w = after_heard v s in w.resend.reported) ≡ []
heard_none v s none = heard_leaves (λ rs. rs ≡ []) v s refl none (ap (passed (past s.acknowledgement v.sending.una)) none)

timed_none : (v : View) (s : Segment) (now : Moment) → selects v ≡ false → v.resend.reported ≡ [] → (let w = timed_by (before v s) (after_heard v s) now in w.resend.reported) ≡ []
timed_none v s now unasked none =
    let x = after_heard v s in
    let same : with_blocks x.resend.reported x.sending (let b = before v s in b.blocks) ≡ [] = ap (with_blocks x.resend.reported x.sending) (silent_unselected v s unasked) ∙ heard_none v s none in
    after_paced (before v s) x now (λ p. p.reported ≡ []) same same (λ r. same) same

pub unasked_none : (v : View) (e : Event) → selects v ≡ false → v.resend.reported ≡ [] → (after_event v e).resend.reported ≡ []
unasked_none v e unasked none =
    by_event (λ e w. w.resend.reported ≡ []) v (record {
      same = λ e. none;
      asks = λ e asked. none;
      silent = λ now. none;
      heard = λ s now lives. timed_none v s now unasked none;
      over = λ now ends. refl;
      given_up = λ now waits expired. refl;
      acts = λ now. acts_none (after_silence v now) now none;
      emits = λ now. (first_left v (first_due v) now).1 ∙ none;
      sends = λ octets taken now takes. none;
      reads = λ len. none;
      shuts = λ now. none;
      delays = λ on now. none;
      leaves = λ now lives. none;
      aborts = λ e now at cause lives. refl;
      refused = λ number hit. refl;
      hopless = λ now gone. refl;
    }) e
  where
    acts_none : (v : View) (now : Moment) → v.resend.reported ≡ [] → (let w = clocked false (after_timers v now) now in w.resend.reported) ≡ []
    acts_none v now none =
        let P : View → Type 0 = λ w. w.resend.reported ≡ [] in
        by_others P v now
        (either View P (has_come v.timers.retransmission now) (retransmission_expired v) _ (λ comes. refl) (λ late. either View P (has_come v.timers.probe now) (probe_expired v now) v (λ probes. none) (λ rests. none)))
        (λ w owes left. left) (λ w left. left)

-- .. and no loss is told, nor do two things count at once
abbrev LosesNone : Signal → Type 0
LosesNone g = ((flight : ℕ) → g ≢ Counts (Loss flight)) × ((first behind : WindowEvent) → g ≢ Both first behind)

abbrev nothing : LosesNone Nothing
nothing = (λ flight e. cc, λ first behind e. cc)

pub none_lost : (v : View) (e : Event) → selects v ≡ false → LosesNone (congestion_event_by v e)
none_lost v (Hears s now) unasked =
    let b = before v s in
    let x = after_heard v s in
    let known = covered x.resend.reported in
    let same : with_blocks x.resend.reported x.sending b.blocks ≡ x.resend.reported = ap (with_blocks x.resend.reported x.sending) (silent_unselected v s unasked) in
    let none : reports_more b x ≡ false =
    ap (λ r. b.counts_reports && nat_lt known (covered r)) same ∙ ap (λ t. b.counts_reports && t) (le-ltb known known (omega arith)) ∙ and_false b.counts_reports in
    let fresh = selects x && nat_lt 0 b.tail && (x.resend.tail == 0) in
    either Signal LosesNone (is_closed v.state || is_rejected v s) Nothing (congestion_event_of b x) (λ unheard. nothing)
    (λ hears. signalled b x LosesNone nothing (λ flight e. cc, λ first behind e. cc) (λ moves opened whole. (λ flight e. cc, λ first behind e. cc)) (λ moves opened goes. (λ flight e. cc, λ first behind e. cc)) (λ stays twice. (λ flight e. cc, λ first behind e. cc))
    (λ stays more counts. clash (reports_more b x) more none) (λ moves opened more. clash (reports_more b x) more none)
    (λ moves opened whole ends.
    let asked = and_left (selects x) (nat_lt 0 b.tail) (and_left (selects x && nat_lt 0 b.tail) (x.resend.tail == 0) (and_left fresh (not (is_recovering x.congestion)) (and_left (fresh && not (is_recovering x.congestion)) (not (came_twice x.sending.una b.blocks)) ends))) in
    clash (selects x) asked (heard_selects v s (opened_tells v.state opened).0 ∙ unasked)))
none_lost v (Ticks now) unasked =
    either Signal LosesNone (is_at_end v now || gives_up v now) Nothing _ (λ ends. nothing)
    (λ goes. either Signal LosesNone (has_come v.timers.retransmission now) (Counts (Expiry (outstanding v.sending))) Nothing (λ comes. (λ flight e. cc, λ first behind e. cc)) (λ early. nothing))
none_lost v (Emits now) unasked = nothing
none_lost v (Sends taken now) unasked = nothing
none_lost v (Receives len) unasked = nothing
none_lost v (Shuts now) unasked = nothing
none_lost v (SetsNoDelay on now) unasked = nothing
none_lost v (SetsKeepAlive every now) unasked = nothing
none_lost v (Closes now) unasked = nothing
none_lost v (Aborts now) unasked = nothing
none_lost v (Unreachable number) unasked = nothing
none_lost v (LosesHop now) unasked = nothing

pub expiry_forgets : (v : View) (now : Moment) → IsSound v → KeepsTime v → has_come v.timers.retransmission now ≡ true → is_closed (after_tick v now).state ≡ false → (after_tick v now).resend.reported ≡ []
expiry_forgets v now sound keeps comes lives = (goes_again_all v now sound keeps comes lives).reported

-- A report that tells a loss.

-- what joins what is reported is outstanding
none_joins : (reported : List Range) (s : Sending) (blocks : List Block) → outstanding s ≡ 0 → with_blocks reported s blocks ≡ reported
none_joins reported s [] none = refl
none_joins reported s (block ∷ rest) none = ap (λ rs. with_blocks rs s rest) (untaken (place_of s block)) ∙ none_joins reported s rest none
  where
    untaken : (new : Range) → with_report reported (outstanding s) new ≡ reported
    untaken new =
        let starts = nat_lt 0 new.start in
        let some = nat_lt new.start new.end in
        let ends = nat_le new.end (outstanding s) in
        either (List Range) (λ rs. rs ≡ reported) (is_taken reported (outstanding s) new) (with_range reported new) reported
        (λ taken.
        let within = and_left (starts && some && ends) (nat_le (length (with_range reported new)) MOST_RANGES) taken in
        let few = leb-true new.end (outstanding s) (and_right (starts && some) ends within) in
        let long = ltb-true new.start new.end (and_right starts some (and_left (starts && some) ends within)) in
        absurd (omega (arith, none, few, long)))
        (λ left. refl)

more_flies : (b : Before) (x : View) → reports_more b x ≡ true → 0 < outstanding x.sending
more_flies b x more = elim (leb_tells 1 (outstanding x.sending)) [
  | inl some ↦ some.1
  | inr none ↦
      let zero : outstanding x.sending ≡ 0 = omega (arith, none.1) in
      let grown = ltb-true (covered x.resend.reported) (covered (reported_by b x)) (and_right b.counts_reports (nat_lt (covered x.resend.reported) (covered (reported_by b x))) more) in
      let same : covered (reported_by b x) ≡ covered x.resend.reported = ap (λ (rs : List Range). covered rs) (none_joins x.resend.reported x.sending b.blocks zero) in
      absurd (omega (arith, grown, same))
]

-- it is a loss to the window, alone or behind an ACK of new octets
abbrev LossEvent : View → Segment → Signal → Type 0
LossEvent v s g =
    let x = after_heard v s in
    (g ≡ Counts (Loss (outstanding x.sending))) ⊎ (g ≡ Both (NewAck (length v.sending.held - length x.sending.held) (outstanding x.sending)) (Loss (outstanding x.sending)))

-- .. by what a report that counts is: alone, or behind an ACK of new octets
abbrev counts_behind : View → Segment → Signal
counts_behind v s = let b = before v s in let x = after_heard v s in let n = length v.sending.held - length x.sending.held in Both (NewAck n (outstanding x.sending)) (report_event (behind_ack (told b x) n))

report_comes : (v : View) (s : Segment) → is_report v s ≡ true → is_counted_duplicate v s ≡ false → is_closed (after_heard v s).state ≡ false
    → (let b = before v s in let x = after_heard v s in congestion_event_of b x ≡ (if is_moved b x then counts_behind v s else report_signal (told b x)))
report_comes v s more other lives =
    let b = before v s in
    let x = after_heard v s in
    let n = length v.sending.held - length x.sending.held in
    let flight = outstanding x.sending in
    let behind : Signal = counts_behind v s in
    let alone : Signal = report_signal (told b x) in
    let tells : Signal = if reports_more b x then alone else Nothing in
    let repeats : Signal = if is_counted_duplicate v s then Counts (Duplicate flight) else tells in
    let acks : Signal = acknowledged_signal b (told b x) n (reports_more b x) in
    let acked : Signal = if is_opening v.state then Begins else acks in
    let part : is_partial x ≡ false = ap (λ c. goes_on c && nat_lt 0 x.resend.recover) (window_kept v s)
    ∙ ap (λ t. repairs v.congestion.control && t && nat_lt 0 x.resend.recover) (more_counts v s x more).runs ∙ ap (λ t. t && nat_lt 0 x.resend.recover) (and_false (repairs v.congestion.control)) in
    let comes : congestion_event_of b x ≡ (if is_moved b x then acked else repeats) = ap (λ t. if t then Nothing else if is_moved b x then acked else repeats) lives in
    by (congestion_event_of b x ≡ (if is_moved b x then behind else alone)) (is_moved b x)
    (λ moves.
    comes
    ∙ ap (λ t. if t then acked else repeats) moves
    ∙ ap (λ t. if t then Begins else acks) (more_opened v s x more)
    ∙ ap (λ t. if t then (if selects x then Nothing else Counts (PartialAck n)) else whole_signal b (told b x) n (reports_more b x)) part
    ∙ ap (whole_signal b (told b x) n) more
    ∙ sym (ap (λ t. if t then behind else alone) moves))
    (λ stays.
    comes
    ∙ ap (λ t. if t then acked else repeats) stays
    ∙ ap (λ t. if t then Counts (Duplicate flight) else tells) other
    ∙ ap (λ t. if t then alone else Nothing) more
    ∙ sym (ap (λ t. if t then behind else alone) stays))

loss_event : (v : View) (s : Segment) → reports_loss v s ≡ true → is_counted_duplicate v s ≡ false → is_closed (after_heard v s).state ≡ false → LossEvent v s (congestion_event_of (before v s) (after_heard v s))
loss_event v s is other lives =
    let b = before v s in
    let x = after_heard v s in
    let n = length v.sending.held - length x.sending.held in
    let flight = outstanding x.sending in
    let loss = and_right (is_report v s) (tells_loss (told_behind b x)) is in
    let behind : Signal = counts_behind v s in
    let alone : Signal = report_signal (told b x) in
    let comes = report_comes v s (and_left (is_report v s) (tells_loss (told_behind b x)) is) other lives in
    by (LossEvent v s (congestion_event_of b x)) (is_moved b x)
    (λ moves. inr (comes ∙ ap (λ t. if t then behind else alone) moves ∙ ap (λ t. Both (NewAck n flight) (if t then Loss flight else Duplicate flight)) (ap tells_loss (sym (told_moved b x moves)) ∙ loss)))
    (λ stays. inl (
    comes ∙ ap (λ t. if t then behind else alone) stays
    ∙ ap (λ t. if third_is_next x.congestion && not t then Nothing else Counts (if t then Loss flight else Duplicate flight)) (ap tells_loss (sym (told_still b x stays)) ∙ loss)
    ∙ ap (λ t. if t then Nothing else Counts (Loss flight)) (and_false (third_is_next x.congestion))))

-- what it makes of what goes out again
loss_marks : (v : View) (s : Segment) (now : Moment) → reports_loss v s ≡ true → is_counted_duplicate v s ≡ false → is_closed (after_heard v s).state ≡ false
    → (let x = after_heard v s in resend_after (before v s) x now ≡ resend_lost (resend_told (before v s) x now) true (outstanding x.sending))
loss_marks v s now is other lives =
    let b = before v s in
    let x = after_heard v s in
    let flight = outstanding x.sending in
    let p = resend_told b x now in
    elim (loss_event v s is other lives) [
      | inl alone ↦ ap (λ g. resend_signalled p g x.congestion flight) alone
      | inr behind ↦ ap (λ g. resend_signalled p g x.congestion flight) behind
          ∙ either Resend (λ q. resend_lost q true flight ≡ resend_lost p true flight) (is_selective x.congestion.control && is_recovering x.congestion) (resend_ends p) p (λ ends. refl) (λ stays. refl)
    ]

-- .. and what is counted since a loss begins anew
pub loss_counts_anew : (v : View) (s : Segment) (now : Moment) → IsSound v → reports_loss v s ≡ true → is_counted_duplicate v s ≡ false → (is_closed v.state || is_rejected v s) ≡ false → is_closed (after_event v (Hears s now)).state ≡ false
    → let w = after_event v (Hears s now) in (w.resend.since_loss ≡ 0) × (w.resend.excused ≡ v.resend.resent)
loss_counts_anew v s now sound is other hears alive =
    let b = before v s in
    let x = after_heard v s in
    let at = heard_is v s now hears in
    let lives : is_closed x.state ≡ false = sym (ap (λ (y : View). is_closed y.state) at) ∙ alive in
    let lost = loss_marks v s now is other lives in
    let since : (resend_after b x now).since_loss ≡ 0 = ap (λ (p : Resend). p.since_loss) lost in
    let told : (resend_told b x now).resent ≡ x.resend.resent = heard_paced b x now (λ p. p.resent ≡ x.resend.resent) refl refl refl in
    let again : (resend_after b x now).excused ≡ v.resend.resent = ap (λ (p : Resend). p.excused) lost ∙ told ∙ (heard_counts v s).0 in (
      ap (λ (y : View). y.resend.since_loss) at ∙ since,
      ap (λ (y : View). y.resend.excused) at
          ∙ ap (λ n. if b.needless && nat_lt 0 n then once_more (resend_after b x now).excused else (resend_after b x now).excused) since
          ∙ ap (λ t. if t then once_more (resend_after b x now).excused else (resend_after b x now).excused) (and_false b.needless)
          ∙ again,
    )

pub loss_resends : (v : View) (s : Segment) (now : Moment) → IsSound v → reports_loss v s ≡ true → is_counted_duplicate v s ≡ false → (is_closed v.state || is_rejected v s) ≡ false → is_closed (after_event v (Hears s now)).state ≡ false
    → let w = after_event v (Hears s now) in (first_due w ≡ Some (Text (again w 0))) × (w.resend.recover ≡ outstanding w.sending) × (w.resend.once ≡ true) × (is_recovering w.congestion ≡ true)
loss_resends v s now sound is other hears alive =
    let b = before v s in
    let x = after_heard v s in
    let w = after_event v (Hears s now) in
    let u = timed_by b x now in
    let flight = outstanding x.sending in
    let at : w ≡ u = heard_is v s now hears in
    let lives : is_closed x.state ≡ false = sym (ap (λ (y : View). is_closed y.state) at) ∙ alive in
    let more = and_left (is_report v s) (tells_loss (told_behind b x)) is in
    let flies = more_flies b x more in
    let event = loss_event v s is other lives in
    let resend = loss_marks v s now is other lives in
    let recovers : is_recovering w.congestion ≡ true = elim event [
      | inl alone ↦ ap is_recovering (window_by v (Hears s now) (Counts (Loss flight)) (event_is v s now hears ∙ alone))
      | inr behind ↦ ap is_recovering (window_by v (Hears s now) (Both (NewAck (length v.sending.held - length x.sending.held) flight) (Loss flight)) (event_is v s now hears ∙ behind))
    ] in
    let k = goes_after v s sound (more_opened v s x more) lives in
    let mark : u.resend.mark ≡ Some 0 = kept_mark v s x now (inl (past_opening v.state (more_opened v s x more)).1) ∙ ap (λ (p : Resend). p.mark) resend ∙ ap (λ t. if t then Some 0 else None) (lt-ltb 0 flight flies) in
    let owes : u.owes_reset ≡ false = k.reset ∙ unowed v.owes_reset (is_closed v.state) v.released (neither (is_closed v.state) (is_rejected v s) hears) sound.reset in
    let once : u.resend.once ≡ true = ap (λ (p : Resend). p.once) resend in
    let scores = blocks_score x.resend.reported x.sending b.blocks (heard_scores v s sound) in
    let due : first_due u ≡ Some (Text (again u 0)) = first_at_una u owes k.opened mark once (subst (AreApart 1) (sym (ap (λ (p : Resend). p.reported) resend)) scores.apart) flies in (
      subst (λ y. first_due y ≡ Some (Text (again y 0))) (sym at) due,
      ap (λ (y : View). y.resend.recover) at ∙ ap (λ (p : Resend). p.recover) resend ∙ sym (ap (λ (y : View). outstanding y.sending) at),
      ap (λ (y : View). y.resend.once) at ∙ once,
      recovers,
    )
  where
    neither : (a b : Bool) → (a || b) ≡ false → a ≡ false
    neither true b e = cc
    neither false b e = refl

-- One that tells none.

counted : (c : Window) (flight : ℕ) → is_recovering c ≡ false → 0 < (after_duplicate c flight).duplicates
counted c flight runs =
    let P : Window → Type 0 = λ x. 0 < x.duplicates in
    either Window P (is_recovering c) _ _ (λ recovers. clash (is_recovering c) recovers runs)
    (λ goes. either Window P (third_is_next c) (after_third c flight) (record c { duplicates = c.duplicates + 1 }) (λ third. omega arith) (λ other. omega arith))

report_counted : (c : Window) (w : View) → is_recovering c ≡ false → 0 < (after_window_event c (report_event w)).duplicates
report_counted c w runs =
    either WindowEvent (λ e. 0 < (after_window_event c e).duplicates) (tells_loss w) (Loss (outstanding w.sending)) (Duplicate (outstanding w.sending)) (λ loss. omega arith) (λ early. counted c (outstanding w.sending) runs)

reported_now : (v : View) (s : Segment) (now : Moment) → (is_closed v.state || is_rejected v s) ≡ false → (let w = after_event v (Hears s now) in w.resend.reported) ≡ reported_by (before v s) (after_heard v s)
reported_now v s now hears =
    let b = before v s in
    let x = after_heard v s in
    ap (λ (y : View). y.resend.reported) (heard_is v s now hears) ∙ after_paced b x now (λ p. p.reported ≡ reported_by b x) refl refl (λ r. refl) refl

grown_more : (v : View) (s : Segment) (now : Moment) → (is_closed v.state || is_rejected v s) ≡ false → is_recovering v.congestion ≡ false → v.resend.recover ≡ 0 → probes v ≡ false
    → covered (let x = after_heard v s in x.resend.reported) < covered (let w = after_event v (Hears s now) in w.resend.reported) → reports_more (before v s) (after_heard v s) ≡ true
grown_more v s now hears runs all unprobed grown =
    let b = before v s in
    let x = after_heard v s in
    both (counts_reports v) (nat_lt (covered x.resend.reported) (covered (reported_by b x))) (ap₂ (λ r n. not r && (n == 0) && not (probes v)) runs all ∙ ap not unprobed)
    (lt-ltb (covered x.resend.reported) (covered (reported_by b x)) (subst (λ rs. covered x.resend.reported < covered rs) (reported_now v s now hears) grown))

pub reports_are_counted : (v : View) (s : Segment) (now : Moment) → (is_closed v.state || is_rejected v s) ≡ false → is_recovering v.congestion ≡ false → v.resend.recover ≡ 0 → probes v ≡ false
    → let w = after_event v (Hears s now) in is_closed w.state ≡ false → covered (let x = after_heard v s in x.resend.reported) < covered w.resend.reported → 0 < w.congestion.duplicates
reports_are_counted v s now hears runs all unprobed alive grown =
    let b = before v s in
    let x = after_heard v s in
    let w = after_event v (Hears s now) in
    let n = length v.sending.held - length x.sending.held in
    let at : w ≡ timed_by b x now = heard_is v s now hears in
    let lives : is_closed x.state ≡ false = sym (ap (λ (y : View). is_closed y.state) at) ∙ alive in
    let more = grown_more v s now hears runs all unprobed grown in
    let kept : is_recovering x.congestion ≡ false = ap is_recovering (window_kept v s) ∙ runs in
    let Q : Signal → Type 0 = λ g. 0 < (after_signal v.congestion g w.sending.smss w.resend.syn_resent).duplicates in
    let ack = NewAck n (outstanding x.sending) in
    let done : Q (congestion_event_of b x) =
    either Signal Q (is_closed x.state) Nothing _ (λ closed. clash (is_closed x.state) closed lives)
    (λ on. either Signal Q (is_moved b x) (if is_opening v.state then Begins else acknowledged_signal b (told b x) n (reports_more b x)) _
    (λ moves. either Signal Q (is_opening v.state) Begins (acknowledged_signal b (told b x) n (reports_more b x)) (λ opens. clash (is_opening v.state) opens (more_opened v s x more))
    (λ opened. either Signal Q (is_partial x) _ (whole_signal b (told b x) n (reports_more b x))
    (λ goes. clash (is_recovering x.congestion) (and_right (repairs x.congestion.control) (is_recovering x.congestion) (and_left (goes_on x.congestion) (nat_lt 0 x.resend.recover) goes)) kept)
    (λ whole. either Signal Q (reports_more b x) (Both ack (report_event (behind_ack (told b x) n))) _ (λ is. report_counted (after_window_event v.congestion ack) (behind_ack (told b x) n) refl) (λ none. clash (reports_more b x) more none))))
    (λ stays. either Signal Q (is_counted_duplicate v s) (Counts (Duplicate (outstanding x.sending))) _ (λ twice. counted v.congestion (outstanding x.sending) runs)
    (λ other. either Signal Q (reports_more b x) (report_signal (told b x)) Nothing
    (λ is. either Signal Q (third_is_next x.congestion && not (tells_loss (told b x))) Nothing (Counts (report_event (told b x)))
    (λ waits. let two = eqb-true x.congestion.duplicates 2 (and_left (third_is_next x.congestion) (not (tells_loss (told b x))) waits) in let kept = ap (λ (c : Window). c.duplicates) (window_kept v s) in omega (arith, two, kept)) (λ counts. report_counted v.congestion (told b x) runs))
    (λ none. clash (reports_more b x) more none)))) in
    subst (λ (c : Window). 0 < c.duplicates) (sym (window_by v (Hears s now) (congestion_event_of b x) (event_is v s now hears))) done

-- what is lost goes by these alone
abbrev end_by : ℕ → ℕ → ℕ → List Range → ℕ
end_by smss reach tail reported = max (lost_end (tolerance_of smss reach) reported) (min tail (reported_end reported))

-- it rules no duplicate ACK, and by what is lost behind it tells a loss
pub reports_lose : (v : View) (s : Segment) (now : Moment) → IsSound v → (is_closed v.state || is_rejected v s) ≡ false → is_recovering v.congestion ≡ false → v.resend.recover ≡ 0 → probes v ≡ false
    → let w = after_event v (Hears s now) in is_closed w.state ≡ false → covered (let x = after_heard v s in x.resend.reported) < covered w.resend.reported → 0 < loss_end w → (first_due w ≡ Some (Text (again w 0))) × (is_recovering w.congestion ≡ true)
reports_lose v s now sound hears runs all unprobed alive grown lost =
    let b = before v s in
    let x = after_heard v s in
    let w = after_event v (Hears s now) in
    let more = grown_more v s now hears runs all unprobed grown in
    let other : is_counted_duplicate v s ≡ false = by (is_counted_duplicate v s ≡ false) (is_counted_duplicate v s)
    (λ twice. clash (reports_more b x) more (reports_none b x (silent_unselected v s (counted_selects_none v (and_right (is_duplicate v s) (counts_duplicates v) twice)))))
    (λ none. none) in
    let y = told_behind b x in
    let at = heard_is v s now hears in
    let probed = heard_paced b x now (λ p. p.tail ≡ x.resend.tail) refl refl refl in
    let tail : w.resend.tail ≡ x.resend.tail = ap (λ (z : View). z.resend.tail) at ∙ after_paced b x now (λ p. p.tail ≡ x.resend.tail) probed probed (λ r. probed) probed in
    let late = heard_paced b x now (λ p. p.reach ≡ x.resend.reach) refl refl refl in
    let reach : w.resend.reach ≡ x.resend.reach = ap (λ (z : View). z.resend.reach) at ∙ after_paced b x now (λ p. p.reach ≡ x.resend.reach) late late (λ r. late) late in
    let behind : loss_end y ≡ loss_end (told b x) = either View (λ z. loss_end z ≡ loss_end (told b x)) (is_moved b x) (behind_ack (told b x) (length v.sending.held - length x.sending.held)) (told b x) (λ moves. refl) (λ stays. refl) in
    let same : loss_end w ≡ loss_end (told b x) = ap (λ (z : View). end_by z.sending.smss w.resend.reach w.resend.tail w.resend.reported) at
    ∙ ap (λ n. end_by x.sending.smss n w.resend.tail w.resend.reported) reach
    ∙ ap₂ (end_by x.sending.smss x.resend.reach) tail (reported_now v s now hears) in
    let tells : tells_loss y ≡ true = or_right (third_is_next y.congestion && is_usual y) (nat_lt 0 (loss_end y)) (lt-ltb 0 (loss_end y) (omega (arith, lost, same, behind))) in
    let k = loss_resends v s now sound (both (is_report v s) (tells_loss y) more tells) other hears alive in
    (k.0, k.3)

-- The network has room.

abbrev HasRoom : View → Stretch → Type 0
HasRoom v t = t.offset < outstanding v.sending → (is_missing v t.offset ≡ true) × (pipe v + v.sending.smss ≤ v.congestion.cwnd)

again_room : (v : View) (place : ℕ) → repairs_gaps v ≡ true → v.resend.once ≡ false → goes_again v place ≡ true → HasRoom v (again v place)
again_room v place rules all goes within =
    let by_rule = if repairs_gaps v && not v.resend.once then goes_by_reports v place else goes_by_windows v place in
    let goes_so : goes_by_reports v place ≡ true =
    sym (ap₂ (λ a b. if a && not b then goes_by_reports v place else goes_by_windows v place) rules all) ∙ and_right (nat_lt place (outstanding v.sending)) by_rule goes in
    let one = is_missing v place && nat_lt place v.sending.window in
    let room = nat_le (pipe v + v.sending.smss) v.congestion.cwnd in
    (and_left (is_missing v place) (nat_lt place v.sending.window) (and_left one room goes_so), leb-true (pipe v + v.sending.smss) v.congestion.cwnd (and_right one room goes_so))

pub resent_room : (v : View) (stretch : Stretch) → repairs_gaps v ≡ true → v.resend.once ≡ false → first_due v ≡ Some (Text stretch) → stretch.offset < outstanding v.sending
    → (is_missing v stretch.offset ≡ true) × (pipe v + v.sending.smss ≤ v.congestion.cwnd)
resent_room v stretch rules all first within = by_due (λ o. (t : Stretch) → o ≡ Some (Text t) → HasRoom v t) v (record {
  nothing = λ quiet heard t e. cc;
  rst = λ owes t e. cc;
  syn = λ opening goes t e. cc;
  once_more = λ opened p is goes t e. let same : again v p ≡ t = cc in subst (HasRoom v) same (again_room v p rules all goes);
  octets = λ opened sends t e. let same : new_octets v ≡ t = cc in subst (HasRoom v) same (λ out. absurd (omega (arith, out)));
  fin = λ opened sends t e. let same : fin_alone v ≡ t = cc in subst (HasRoom v) same (λ out. absurd (omega (arith, out)));
  probe = λ opened owes goes t e. cc;
  ack = λ owes t e. cc;
  asks = λ quiet owes t e. cc;
}) stretch first within

pub new_room : (v : View) (stretch : Stretch) → IsSound v → counts_pipe v ≡ true → first_due v ≡ Some (Text stretch) → outstanding v.sending ≤ stretch.offset → 0 < stretch.count → pipe v + numbers_of stretch ≤ v.congestion.cwnd
new_room v stretch sound counts first new some =
    let at = (keeps_window v stretch sound first new).0 in
    let few : end_of stretch ≤ v.congestion.cwnd + outstanding v.sending - pipe v =
    subst (λ n. end_of stretch ≤ n) (ap (λ b. if b then v.congestion.cwnd + outstanding v.sending - pipe v else allowed v.congestion) counts) (keeps_cwnd v stretch sound first new some) in
    omega (arith, at, few, some)

pub lost_missing : (v : View) (place : ℕ) → IsSound v → is_reported v.resend.reported place ≡ false → is_lost (tolerance v) v.resend.reported place ≡ true → is_missing v place ≡ true
lost_missing v place sound unreported_place lost =
    or_left (nat_lt place (loss_end v)) (nat_lt place (reported_end v.resend.reported) && not (sends_new v || sends_fin v))
    (let before = ltb-true place (lost_end (tolerance v) v.resend.reported) lost_by in lt-ltb place (loss_end v) (omega (arith, before)))
  where
    lost_by : nat_lt place (lost_end (tolerance v) v.resend.reported) ≡ true
    lost_by = lost_before (tolerance v) v.resend.reported 1 place sound.resend.reported.apart unreported_place ∙ lost

pub pipe_unreported : (v : View) → v.resend.reported ≡ [] → is_recovering v.congestion ≡ false → pipe v ≡ outstanding v.sending
pipe_unreported v none runs =
    let left : (place : ℕ) → unreported v.resend.reported place ≡ place = λ place. ap (λ rs. unreported rs place) none in
    let lost = nothing_lost v none in
    let again : repaired_end v ≡ 0 = either ℕ (λ n. n ≡ 0) (is_recovering v.congestion) _ 0 (λ on. clash (is_recovering v.congestion) on runs) (λ off. refl) in
    omega (arith, left (outstanding v.sending), left (loss_end v), left (repaired_end v), lost, again)

pub allowance_unreported : (v : View) → v.resend.reported ≡ [] → is_recovering v.congestion ≡ false → counts_pipe v ≡ true → allowance v ≡ v.congestion.cwnd
allowance_unreported v none runs counts =
    let flight = pipe_unreported v none runs in
    ap (λ b. if b then v.congestion.cwnd + outstanding v.sending - pipe v else allowed v.congestion) counts ∙ omega (arith, flight)

-- .. by its length
pub allowance_whole : (v : View) → (length v.resend.reported == 0 && not (is_recovering v.congestion)) ≡ true → counts_pipe v ≡ true → v.congestion.cwnd ≡ allowance v
allowance_whole v whole counts =
    let none = length v.resend.reported == 0 in
    sym (allowance_unreported v (no_ranges v.resend.reported (eqb-true (length v.resend.reported) 0 (and_left none (not (is_recovering v.congestion)) whole)))
    (not_true (is_recovering v.congestion) (and_right none (not (is_recovering v.congestion)) whole)) counts)
  where
    no_ranges : (rs : List Range) → length rs ≡ 0 → rs ≡ []
    no_ranges [] e = refl
    no_ranges (r ∷ rs) e = absurd (omega (arith, e))
