-- When a probe of the tail goes out, and how long its end is known.
use Rattle.std.proofs.Common.{◌≡◌, ◌≢◌, ◌+◌, ◌-◌, ◌/◌, ◌<◌, ◌≤◌, ◌==◌, ◌&&◌, ◌||◌, ◌⊎◌, not, nat_lt, min, max, Bool, true, false, if◌then◌else◌, length, List, [], ◌∷◌, Option, Some, None, is_some, inl, inr, arith, refl, sym, ◌∙◌, ap, ap₂, subst}
use Rattle.std.specs.Option.{option_or}
use Rattle.std.proofs.lemmas.Bool.{lt-ltb, eqb-true}
use Rattle.tcp_segment.specs.declared.blocks.Block.{Block}
use Rattle.tcp_segment.specs.Segment.{Segment, blocks_of}
use Rattle.tcp_segment.specs.Wire.{past}
use Rattle.clock.specs.declared.moment.Moment.{Moment}
use Rattle.clock.specs.Moments.{has_come}
use Rattle.stream_buf.specs.Scoreboard.{first_gap}
use Rattle.retransmit.specs.declared.rto.Estimate.{Estimate}
use Rattle.congestion.specs.Control.{repairs}
use Rattle.congestion.specs.Window.{Window, is_recovering, goes_on, after_new_ack, after_loss}
use Rattle.tcp_halves.specs.Halves.{Sending}
use Rattle.tcp_halves.specs.Stream.{outstanding}
use Rattle.tcp_halves.specs.Numbers.{is_before}
use Rattle.tcp_halves.specs.Windows.{open_window}
use Rattle.tcp_halves.proofs.Choices.{either, by, clash, neither, or_right, and_false, unowed}
use Rattle.tcp_state.specs.declared.emission.Due.TheVariants.{Rst, Syn, Text}
use Rattle.tcp_state.specs.Resend.{Resend}
use Rattle.tcp_state.specs.View.{View, IsSound, is_opening, is_closed}
use Rattle.tcp_state.specs.Tail.{awaits_tail, tail_wait_by, tail_wait, tail_by, tail_at, is_tail_due}
use Rattle.tcp_state.specs.Alive.{after_silence}
use Rattle.tcp_state.specs.Timing.{clocked, expires, retransmission_expired, probe_expired, after_timers, after_tick}
use Rattle.tcp_state.specs.Arrival.{is_read, blocks_told, after_heard, before, resend_told, is_report, came_twice, lies_in_first, repairs_tail}
use Rattle.tcp_state.specs.Selective.{selects, repairs_gaps}
use Rattle.tcp_state.specs.Due.{ack_due, again, again_at, again_from, goes_again, new_due, first_due}
use Rattle.tcp_state.specs.Edges.{Event, Hears, Ticks, Emits, after_event}
use Rattle.tcp_state.proofs.Clocked.{by_others, heard_paced, after_paced, reports_none}
use Rattle.tcp_state.proofs.Deadlines.{none_comes}
use Rattle.tcp_state.proofs.Events.{by_event}
use Rattle.tcp_state.proofs.Minute.{by_live_tick}
use Rattle.tcp_state.proofs.Places.{goes_plainly}
use Rattle.tcp_state.proofs.Recovering.{TailLeft, tail_there, stops, heard_left, first_left}
use Rattle.tcp_state.proofs.Congestion.{window_kept}
use Rattle.tcp_state.proofs.Signals.{opened_tells, heard_is, heard_selects, moved_hears, counts_tail, counts_octets, none_back, tail_needed}
use Rattle.tcp_state.proofs.StillStreams.{emissions_leave}
use Rattle.tcp_state.proofs.TailProbes.{awaits, due_awaits, tail_rests}

-- Its end is known.

abbrev pub Known : View → Event → View → Type 0
Known v e w =
    TailLeft v w ⊎ ((now : Moment) × (e ≡ Ticks now) × (((is_tail_due v now ≡ true) × (w.resend.tail ≡ outstanding v.sending)) ⊎ ((has_come v.timers.retransmission now ≡ true) × (w.resend.tail ≡ 0))))

silent_known : (v : View) (now : Moment) → IsSound v → Known v (Ticks now) (after_silence v now)
silent_known v now sound =
    by (Known v (Ticks now) (after_silence v now)) (is_tail_due v now)
    (λ due. inr (now, refl, inl (due, ap (λ b. if b then outstanding v.sending else v.resend.tail) due)))
    (λ rests. inl (ap (λ (p : Resend). p.tail) (tail_rests v now rests) ∙ tail_there v sound))

acts_known : (v : View) (now : Moment) → IsSound v → Known v (Ticks now) (clocked false (after_timers (after_silence v now) now) now)
acts_known v now sound =
    let quiet = after_silence v now in
    let still = silent_known v now sound in
    by_others (Known v (Ticks now)) quiet now
    (either View (Known v (Ticks now)) (has_come v.timers.retransmission now) (retransmission_expired quiet) _ (λ comes. inr (now, refl, inr (comes, refl)))
    (λ late. either View (Known v (Ticks now)) (has_come v.timers.probe now) (probe_expired quiet now) quiet (λ probes. still) (λ rests. still)))
    (λ w owes known. known) (λ w known. known)

pub tail_stays : (v : View) (e : Event) → IsSound v → Known v e (after_event v e)
tail_stays v e sound =
    let here = tail_there v sound in
    let over = stops v v.resend.tail v.sending.nxt sound.tail refl in
    by_event (Known v) v (record {
      same = λ e. inl here;
      asks = λ e alive. inl here;
      silent = λ now. silent_known v now sound;
      heard = λ s now lives.
          let b = before v s in
          let x = after_heard v s in
          let P : Resend → Type 0 = λ p. p.tail ≡ x.resend.tail in
          let kept : P (resend_told b x now) = heard_paced b x now P refl refl refl in
          inl (after_paced b x now P kept kept (λ r. kept) kept ∙ (heard_left v s sound).2);
      over = λ now ends. inl over;
      given_up = λ now waits expired. inl over;
      acts = λ now. acts_known v now sound;
      emits = λ now.
          let w = after_event v (Emits now) in
          let una : w.sending.una ≡ v.sending.una = ap (λ (t : Sending). t.una) (emissions_leave v now).0 in
          inl ((first_left v (first_due v) now).2 ∙ here ∙ ap (λ n. v.resend.tail - past n v.sending.una) (sym una));
      sends = λ octets taken now takes. inl here;
      reads = λ len. inl here;
      shuts = λ now. inl here;
      delays = λ on now. inl here;
      leaves = λ now lives. inl here;
      aborts = λ e now at cause lives. inl over;
      refused = λ number hit. inl over;
      hopless = λ now gone. inl over;
    }) e

-- an expiry forgets it
expiry_forgets : (v : View) (now : Moment) → has_come v.timers.retransmission now ≡ true → (clocked false (after_timers v now) now).resend.tail ≡ 0
expiry_forgets v now comes =
    let P : View → Type 0 = λ w. w.resend.tail ≡ 0 in
    by_others P v now
    (either View P (has_come v.timers.retransmission now) (retransmission_expired v) _ (λ expires. refl) (λ early. clash (has_come v.timers.retransmission now) comes early))
    (λ w owes gone. gone) (λ w gone. gone)

pub forgotten_at_expiry : (v : View) (now : Moment) → has_come v.timers.retransmission now ≡ true → is_closed (after_event v (Ticks now)).state ≡ false → (after_event v (Ticks now)).resend.tail ≡ 0
forgotten_at_expiry v now comes alive =
    by_live_tick (λ w. w.resend.tail ≡ 0) v now alive (expiry_forgets (after_silence v now) now comes) (λ early. clash (has_come v.timers.retransmission now) comes (none_comes v now early))

-- It goes out.

record Marked (v w : View) : Type 0 where
  pub mark : w.resend.mark ≡ Some (outstanding v.sending - v.sending.smss)
  pub once : w.resend.once ≡ true
  pub tail : w.resend.tail ≡ outstanding v.sending
  pub reported : w.resend.reported ≡ []
  pub congestion : w.congestion ≡ v.congestion
  pub sending : w.sending ≡ v.sending
  pub state : w.state ≡ v.state
  pub reset : w.owes_reset ≡ v.owes_reset

tick_marks : (v : View) (now : Moment) → is_tail_due v now ≡ true → expires v now ≡ false → is_closed (after_tick v now).state ≡ false → Marked v (after_tick v now)
tick_marks v now due none lives =
    let quiet = after_silence v now in
    let early = neither (has_come v.timers.retransmission now) (has_come v.timers.probe now) none in
    let marked : Marked v quiet = record {
      mark = ap (λ b. if b then Some (outstanding v.sending - v.sending.smss) else v.resend.mark) due;
      once = ap (λ b. b || v.resend.once) due;
      tail = ap (λ b. if b then outstanding v.sending else v.resend.tail) due;
      reported = (due_awaits v now due).reported;
      congestion = refl;
      sending = refl;
      state = refl;
      reset = refl;
    } in
    let keeps : (w x : View) → x.resend.mark ≡ w.resend.mark → x.resend.once ≡ w.resend.once → x.resend.tail ≡ w.resend.tail → x.resend.reported ≡ w.resend.reported → x.congestion ≡ w.congestion → x.sending ≡ w.sending → x.state ≡ w.state
    → x.owes_reset ≡ w.owes_reset → Marked v w → Marked v x = λ w x a b c d e f g h m. record {
      mark = a ∙ m.mark;
      once = b ∙ m.once;
      tail = c ∙ m.tail;
      reported = d ∙ m.reported;
      congestion = e ∙ m.congestion;
      sending = f ∙ m.sending;
      state = g ∙ m.state;
      reset = h ∙ m.reset;
    } in
    let acted : Marked v (after_timers quiet now) =
    by_others (Marked v) quiet now
    (either View (Marked v) (has_come v.timers.retransmission now) (retransmission_expired quiet) _ (λ comes. clash (has_come v.timers.retransmission now) comes early.0)
    (λ late. either View (Marked v) (has_come v.timers.probe now) (probe_expired quiet now) quiet (λ comes. clash (has_come v.timers.probe now) comes early.1) (λ rests. marked)))
    (λ w owes m. keeps w (record w { owes_ack = owes }) refl refl refl refl refl refl refl refl m) (λ w m. keeps w _ refl refl refl refl refl refl refl refl m) in
    by_live_tick (Marked v) v now lives (keeps (after_timers quiet now) (clocked false (after_timers quiet now) now) refl refl refl refl refl refl refl refl acted) (λ not_come. marked)

pub tail_goes_out : (v : View) (now : Moment) → IsSound v → is_tail_due v now ≡ true → expires v now ≡ false → is_closed (after_event v (Ticks now)).state ≡ false
    → let w = after_event v (Ticks now) in (first_due w ≡ Some (Text (again w (outstanding v.sending - v.sending.smss)))) × (w.resend.once ≡ true) × (w.resend.tail ≡ outstanding v.sending) × (w.congestion ≡ v.congestion)
tail_goes_out v now sound due none lives =
    let w = after_event v (Ticks now) in
    let m = tick_marks v now due none lives in
    let a = due_awaits v now due in
    let place = outstanding v.sending - v.sending.smss in
    let alive : is_closed v.state ≡ false = sym (ap is_closed m.state) ∙ lives in
    let owes : w.owes_reset ≡ false = m.reset ∙ unowed v.owes_reset (is_closed v.state) v.released alive sound.reset in
    let opened : is_opening w.state ≡ false = ap is_opening m.state ∙ a.opened in
    let gap : again_at w place ≡ place = ap (λ rs. first_gap rs place) m.reported in
    let large = a.large in
    let some = sound.segment_least in
    let within : place < outstanding w.sending = subst (λ (t : Sending). place < outstanding t) (sym m.sending) (omega (arith, large, some)) in
    let fits : nat_lt place (open_window w.sending w.congestion.cwnd) ≡ true = ap₂ (λ (t : Sending) (c : Window). nat_lt place (open_window t c.cwnd)) m.sending m.congestion ∙ lt-ltb place (open_window v.sending v.congestion.cwnd) a.fits in
    let plain : (repairs_gaps w && not w.resend.once) ≡ false = ap (λ b. repairs_gaps w && not b) m.once ∙ and_false (repairs_gaps w) in
    let goes : goes_again w place ≡ true = goes_plainly w place plain within (or_right (place == 0) (nat_lt place (open_window w.sending w.congestion.cwnd)) fits) in
    let from : again_from w (Some place) ≡ Some (Text (again w place)) = ap (λ n. if goes_again w n then Some (Text (again w n)) else None) gap ∙ ap (λ b. if b then Some (Text (again w place)) else None) goes in (
      ap (λ t. if t then Some Rst else if is_opening w.state then (if (outstanding w.sending == 0) || is_some w.resend.mark then Some Syn else ack_due w) else option_or (again_from w w.resend.mark) (new_due w)) owes
          ∙ ap (λ t. if t then (if (outstanding w.sending == 0) || is_some w.resend.mark then Some Syn else ack_due w) else option_or (again_from w w.resend.mark) (new_due w)) opened
          ∙ ap (λ o. option_or (again_from w o) (new_due w)) m.mark
          ∙ ap (λ o. option_or o (new_due w)) from,
      m.once,
      m.tail,
      m.congestion,
    )

-- When it is due.

pub none_awaited : (v : View) → awaits_tail v ≡ false → tail_at v ≡ None
none_awaited v off = at v.timers.retransmission
  where
    at : (deadline : Option Moment) → tail_by v deadline ≡ None
    at None = refl
    at (Some deadline) = ap (λ b. if b then Some (let m : Moment = record { 0 = deadline.0 - (v.resend.timeout.rto - tail_wait v.resend.timeout) } in m) else None) off

pub unasked_rests : (v : View) → selects v ≡ false → tail_at v ≡ None
unasked_rests v unasked =
    none_awaited v (ap (λ b. b && not (is_opening v.state) && not (is_recovering v.congestion) && (v.resend.recover == 0) && (v.resend.tail == 0) && (length v.resend.reported == 0) && not (is_some v.resend.mark) && nat_lt v.sending.smss (outstanding v.sending)
    && nat_lt (outstanding v.sending - v.sending.smss) (open_window v.sending v.congestion.cwnd)) unasked)

pub once_alone : (v : View) → 0 < v.resend.tail → tail_at v ≡ None
once_alone v out =
    none_awaited v (by (awaits_tail v ≡ false) (awaits_tail v) (λ on. let none = eqb-true v.resend.tail 0 (awaits v on).tail in absurd (omega (arith, out, none))) (λ off. off))

-- two smoothed round trips after the retransmission timer began
pub waits_for : (v : View) (deadline at : Moment) (estimate : Estimate) → IsSound v → v.timers.retransmission ≡ Some deadline → v.resend.timeout.estimate ≡ Some estimate → v.resend.timeout.rto ≤ deadline.0 → tail_at v ≡ Some at
    → at.0 + v.resend.timeout.rto ≡ deadline.0 + min v.resend.timeout.rto (max 10 (estimate.s8 / 4))
waits_for v deadline at estimate sound runs measured late is =
    let rto = v.resend.timeout.rto in
    let wait = tail_wait v.resend.timeout in
    let waits : wait ≡ min rto (max 10 (estimate.s8 / 4)) = ap (λ e. tail_wait_by e rto) measured in
    let from : (if awaits_tail v then Some (let m : Moment = record { 0 = deadline.0 - (rto - wait) } in m) else None) ≡ Some at = sym (ap (tail_by v) runs) ∙ is in
    let told : at.0 ≡ deadline.0 - (rto - wait) =
    either (Option Moment) (λ o. o ≡ Some at → at.0 ≡ deadline.0 - (rto - wait)) (awaits_tail v) (Some (let m : Moment = record { 0 = deadline.0 - (rto - wait) } in m)) None (λ on same. cc) (λ off same. cc) from in
    omega (arith, waits, late, told)

-- What it costs.

-- an ACK of all that was outstanding at it, outside a recovery, ends it
ended : (v : View) (s : Segment) (now : Moment) (twice : Bool) → is_opening v.state ≡ false → selects v ≡ true → 0 < v.resend.tail → is_recovering v.congestion ≡ false
    → (let w = after_event v (Hears s now) in w.sending.una ≢ v.sending.una) → (let w = after_event v (Hears s now) in w.resend.tail ≡ 0) → came_twice (after_heard v s).sending.una (blocks_told v s) ≡ twice → repairs_tail v s ≡ not twice
ended v s now twice opened takes some runs moved gone told =
    let b = before v s in
    let x = after_heard v s in
    let asked : selects x ≡ true = heard_selects v s (opened_tells v.state opened).0 ∙ takes in
    let P : Resend → Type 0 = λ p. p.tail ≡ x.resend.tail in
    let kept : P (resend_told b x now) = heard_paced b x now P refl refl refl in
    let left : x.resend.tail ≡ 0 = sym (ap (λ (y : View). y.resend.tail) (heard_is v s now (moved_hears v s now moved)) ∙ after_paced b x now P kept kept (λ r. kept) kept) ∙ gone in
    let rests : is_recovering x.congestion ≡ false = ap is_recovering (window_kept v s) ∙ runs in
    ap (λ t. t && nat_lt 0 v.resend.tail && (x.resend.tail == 0) && not (is_recovering x.congestion) && not (came_twice x.sending.una (blocks_told v s))) asked
    ∙ ap (λ t. t && (x.resend.tail == 0) && not (is_recovering x.congestion) && not (came_twice x.sending.una (blocks_told v s))) (lt-ltb 0 v.resend.tail some)
    ∙ ap (λ n. (n == 0) && not (is_recovering x.congestion) && not (came_twice x.sending.una (blocks_told v s))) left
    ∙ ap (λ t. not t && not (came_twice x.sending.una (blocks_told v s))) rests
    ∙ ap not told

pub repaired_pays : (v : View) (s : Segment) (now : Moment) → is_opening v.state ≡ false → selects v ≡ true → 0 < v.resend.tail → is_recovering v.congestion ≡ false → (after_event v (Hears s now)).sending.una ≢ v.sending.una
    → (after_event v (Hears s now)).resend.tail ≡ 0 → is_closed (after_event v (Hears s now)).state ≡ false → blocks_of s ≡ []
    → (after_event v (Hears s now)).congestion ≡ after_new_ack (after_loss v.congestion v.resend.tail) (min (past (after_event v (Hears s now)).sending.una v.sending.una) (length v.sending.held)) (outstanding (after_event v (Hears s now)).sending)
repaired_pays v s now opened takes some runs moved gone alive silent =
    let none : blocks_told v s ≡ [] = either (List Block) (λ bs. bs ≡ []) (selects v && not (is_opening v.state) && is_read v s) (blocks_of s) [] (λ read. silent) (λ unread. refl) in
    counts_tail v s now opened moved alive (reports_none (before v s) (after_heard v s) none) (ended v s now false opened takes some runs moved gone (ap (came_twice (after_heard v s).sending.una) none))

pub repeated_is_free : (v : View) (s : Segment) (now : Moment) (block : Block) (rest : List Block) → is_opening v.state ≡ false → selects v ≡ true → 0 < v.resend.tail → is_recovering v.congestion ≡ false → (after_event v (Hears s now)).sending.una ≢ v.sending.una
    → (after_event v (Hears s now)).resend.tail ≡ 0 → is_closed (after_event v (Hears s now)).state ≡ false → is_report v s ≡ false → is_read v s ≡ true → blocks_of s ≡ block ∷ rest → is_before (after_event v (Hears s now)).sending.una block.right.0 ≡ false
    → (after_event v (Hears s now)).congestion ≡ after_new_ack v.congestion (min (past (after_event v (Hears s now)).sending.una v.sending.una) (length v.sending.held)) (outstanding (after_event v (Hears s now)).sending)
repeated_is_free v s now block rest opened takes some runs moved gone alive quiet read tells below =
    let x = after_heard v s in
    let w = after_event v (Hears s now) in
    let told : blocks_told v s ≡ block ∷ rest = ap (λ t. if t then blocks_of s else []) (ap₂ (λ a b. a && not b && is_read v s) takes opened ∙ read) ∙ tells in
    let una : w.sending.una ≡ x.sending.una = ap (λ (y : View). y.sending.una) (heard_is v s now (moved_hears v s now moved)) in
    let twice : came_twice x.sending.una (blocks_told v s) ≡ true = ap (came_twice x.sending.una) told ∙ ap (λ t. not t || lies_in_first block rest) (ap (λ n. is_before n block.right.0) (sym una) ∙ below) in
    let on : (goes_on v.congestion && nat_lt 0 w.resend.recover) ≡ false = ap (λ t. repairs v.congestion.control && t && nat_lt 0 w.resend.recover) runs ∙ ap (λ t. t && nat_lt 0 w.resend.recover) (and_false (repairs v.congestion.control)) in
    counts_octets v s now opened moved alive quiet (ended v s now true opened takes some runs moved gone twice) on
    ∙ none_back v s now w (after_new_ack v.congestion (min (past w.sending.una v.sending.una) (length v.sending.held)) (outstanding w.sending)) (tail_needed v s (lt-ltb 0 v.resend.tail some))
