-- Why a tick by which every timer has come leaves the oldest octet to go out first.
use Rattle.std.proofs.Common.{◌≡◌, ℕ, zero, suc, ◌+◌, ◌^◌, ◌<◌, ◌≤◌, ◌==◌, ◌||◌, ◌&&◌, not, nat_le, nat_lt, if◌then◌else◌, Bool, true, false, List, [], ◌∷◌, length, take, drop, Option, Some, None, is_some, inl, inr, arith, refl, sym, ◌∙◌, ap, ap₂, subst}
use Rattle.std.specs.Option.{option_or}
use Rattle.std.proofs.lemmas.Bool.{lt-ltb, lt-leb, le-leb, ltb-true, eqb-true}
use Rattle.std.proofs.lemmas.Bool.Decides.{eqb_tells}
use Rattle.std.proofs.lemmas.List.{length-take}
use Rattle.clock.specs.declared.moment.Moment.{Moment}
use Rattle.clock.specs.Moments.{has_come}
use Rattle.retransmit.specs.Deadlines.{next_of}
use Rattle.retransmit.specs.declared.timers.TimerKind.TheVariants.{Retransmission, Override}
use Rattle.retransmit.specs.declared.timers.TimerKind.{TimerKind}
use Rattle.tcp_state.specs.Selective.{repairs_gaps, allowance}
use Rattle.tcp_state.specs.declared.calls.Refusal.TheVariants.{ETIMEDOUT}
use Rattle.tcp_state.specs.declared.resend.TheConstants.{MOST_EXPIRIES}
use Rattle.tcp_state.specs.declared.state.State.{State}
use Rattle.tcp_state.specs.declared.state.State.TheVariants.{FinWait2, TimeWait, Closed}
use Rattle.tcp_state.specs.declared.emission.Due.{Due}
use Rattle.tcp_state.specs.declared.emission.Due.TheVariants.{Rst, Syn, Text, Probe}
use Rattle.tcp_state.specs.declared.emission.Stretch.{Stretch}
use Rattle.tcp_halves.specs.Halves.{Sending}
use Rattle.tcp_halves.specs.Stream.{outstanding}
use Rattle.tcp_halves.specs.Windows.{sendable, takes_enough, is_worth_sending}
use Rattle.tcp_state.specs.Resend.{Resend}
use Rattle.tcp_state.specs.View.{View, IsSound, is_opening, is_closed, is_write_finished, awaits_fin_ack, takes_flag_number, end_of_wait, is_at_end, after_stop, after_reset}
use Rattle.tcp_state.specs.Congestion.{KeepsCongestion}
use Rattle.tcp_state.specs.Tail.{is_tail_due}
use Rattle.tcp_state.specs.Alive.{may_rest, is_silent, after_silence}
use Rattle.tcp_state.specs.Timing.{KeepsTime, has_unacknowledged, probes, clocked, expires, expires_for_good, is_silent_for_good, gives_up, retransmission_expired, probe_expired, after_expiry, delayed_ack_expired, override_expired, after_timers, after_tick}
use Rattle.tcp_state.specs.New.{passes_full, sends_new, sends_fin, waits_no_longer}
use Rattle.tcp_state.specs.Due.{probe_stretch, ack_due, again, again_at, goes_again, again_from, new_octets, fin_alone, new_due, first_due}
use Rattle.tcp_state.specs.Said.{segment_of}
use Rattle.tcp_state.specs.Progress.{AllCome, BringsOldest}
use Rattle.tcp_halves.proofs.Choices.{either, by, clash, and_left, and_right, and_false, both, or_left, or_right, or_else, neither, of_false}
use Rattle.stream_buf.specs.Ranges.{AreApart}
use Rattle.tcp_state.proofs.Allowance.{allowance_some}
use Rattle.tcp_state.proofs.Again.{again_within}
use Rattle.tcp_state.proofs.Places.{goes_within, again_few, again_some, at_una_goes, unruled}
use Rattle.tcp_state.proofs.Unchanged.{none_below}
use Rattle.tcp_state.proofs.GoesOut.{without_fin}
use Rattle.tcp_state.proofs.ResetAges.{live}
use Rattle.tcp_state.proofs.Clocked.{timers_keep}
use Rattle.tcp_state.proofs.Deadlines.{timers_come, busy}
use Rattle.tcp_state.proofs.Expiries.{goes_again_all, probes_again}
use Rattle.tcp_state.proofs.StillStreams.{ticks_leave}
use Rattle.tcp_state.proofs.TailProbes.{tail_rests, few_rest, allowance_silent, passes_silent}
use Rattle.tcp_state.proofs.Fewer.{holds_where}

-- The tick ends nothing.

-- no wait ends a connection that may hold octets
waits_none : (state : State) (released : Bool) (since now : Moment) → is_write_finished state ≡ false → has_come (end_of_wait state released since) now ≡ false
waits_none FinWait2 released since now e = cc
waits_none TimeWait released since now e = cc
waits_none Closed released since now e = cc
waits_none _ released since now e = refl

-- and no silence, where octets are held
no_silence : (v : View) (now : Moment) → 0 < length v.sending.held → is_silent v now ≡ false
no_silence v now some =
    let filled : (length v.sending.held == 0) ≡ false = elim (eqb_tells (length v.sending.held) 0) [ inl t ↦ absurd (omega (arith, t.1, some)) | inr t ↦ t.0 ] in
    busy v now (ap (λ b. may_rest v.state && b) filled ∙ and_false (may_rest v.state))

stays_up : (v : View) (now : Moment) → IsSound v → 0 < length v.sending.held → v.resend.expiries < 12 → is_closed (after_tick v now).state ≡ false
stays_up v now sound some few =
    let P : View → Type 0 = λ w. is_closed w.state ≡ false in
    let holds = holds_where v sound some in
    let quiet = after_silence v now in
    either View P (is_at_end v now) (after_stop v) _ (λ over. clash (is_at_end v now) over (waits_none v.state v.released v.since now holds.goes_on))
    (λ remains. either View P (gives_up v now) (after_reset v (Some ETIMEDOUT)) _
    (λ given_up. elim (or_else (expires_for_good v now) (is_silent_for_good v now) given_up) [
      | inl expired ↦ clash (nat_le MOST_EXPIRIES v.resend.expiries) (and_right (expires v now) (nat_le MOST_EXPIRIES v.resend.expiries) expired) (lt-leb MOST_EXPIRIES v.resend.expiries few)
      | inr silent ↦ clash (is_silent v now) (and_left (is_silent v now) (nat_le MOST_EXPIRIES v.alive.unanswered) silent) (no_silence v now some)
    ])
    (λ goes_on. either View P (has_come (next_of v.timers) now) (clocked false (after_timers quiet now) now) quiet
    (λ comes. ap (λ (w : View). is_closed w.state) (timers_keep quiet now) ∙ holds.lives) (λ early. holds.lives)))

-- so the timers act, or none has come
pub by_live_tick : (P : View → Type 0) (v : View) (now : Moment) → is_closed (after_tick v now).state ≡ false → P (clocked false (after_timers (after_silence v now) now) now) → (has_come (next_of v.timers) now ≡ false → P (after_silence v now)) → P (after_tick v now)
by_live_tick P v now lives acts rests =
    let Q : View → Type 0 = λ w. is_closed w.state ≡ false → P w in
    let quiet = after_silence v now in
    either View Q (is_at_end v now) (after_stop v) _ (λ over living. cc)
    (λ remains. either View Q (gives_up v now) (after_reset v (Some ETIMEDOUT)) _ (λ given_up living. cc)
    (λ goes_on. either View Q (has_come (next_of v.timers) now) (clocked false (after_timers quiet now) now) quiet (λ comes living. acts) (λ early living. rests early))) lives

pub leaves_streams : (v : View) (now : Moment) → IsSound v → 0 < length v.sending.held → v.resend.expiries < 12
    → ((after_tick v now).sending ≡ v.sending) × ((after_tick v now).receiving ≡ v.receiving) × ((after_tick v now).state ≡ v.state)
leaves_streams v now sound some few = ticks_leave v now (stays_up v now sound some few)

-- What brings the oldest octet.

front_is_front : (count : ℕ) (octets : List ℕ) → take count octets ≡ take (length (take count octets)) octets
front_is_front zero octets = refl
front_is_front (suc count) [] = refl
front_is_front (suc count) (x ∷ octets) = ap (λ (xs : List ℕ). x ∷ xs) (front_is_front count octets)

stretch_brings : (w : View) (stretch : Stretch) → w.sending.una < 2 ^ 32 → 0 < length w.sending.held → stretch.offset ≡ 0 → 0 < stretch.count → stretch.count ≤ w.sending.smss → (awaits_fin_ack w.state ≡ false → stretch.fin ≡ false)
    → BringsOldest w (segment_of w (Text stretch))
stretch_brings w stretch small some first count size no_fin =
    let held = w.sending.held in
    let all : take stretch.count (drop stretch.offset held) ≡ take stretch.count held = ap (λ n. take stretch.count (drop n held)) first in
    let long : length (take stretch.count (drop stretch.offset held)) ≡ length (take stretch.count held) = ap length all in
    record {
      number = omega (arith, first, small);
      some = omega (arith, long, length-take stretch.count held, some, count);
      size = omega (arith, long, length-take stretch.count held, size);
      octets = all ∙ (front_is_front stretch.count held ∙ ap (λ n. take n held) (sym long));
      acknowledgement = refl;
      no_fin = no_fin;
      ordinary = record { ack = refl; no_rst = refl; no_syn = refl };
    }

probe_brings : (w : View) → 0 < length w.sending.held → 0 < w.sending.smss → BringsOldest w (segment_of w Probe)
probe_brings w some size =
    let held = w.sending.held in
    let filled : (length held == 0) ≡ false = elim (eqb_tells (length held) 0) [ inl t ↦ absurd (omega (arith, t.1, some)) | inr t ↦ t.0 ] in
    let stretch : probe_stretch w ≡ record { offset = 0; count = 1; fin = false } = ap (λ b. if b then record { offset = 0; count = 0; fin = true } else record { offset = 0; count = 1; fin = false }) filled in
    let all : take (probe_stretch w).count (drop (probe_stretch w).offset held) ≡ take 1 held = ap (λ (t : Stretch). take t.count (drop t.offset held)) stretch in
    let long : length (take (probe_stretch w).count (drop (probe_stretch w).offset held)) ≡ length (take 1 held) = ap length all in
    record {
      number = refl;
      some = omega (arith, long, length-take 1 held, some);
      size = omega (arith, long, length-take 1 held, size);
      octets = all ∙ (front_is_front 1 held ∙ ap (λ n. take n held) (sym long));
      acknowledgement = refl;
      no_fin = λ none. ap (λ (t : Stretch). t.fin) stretch;
      ordinary = record { ack = refl; no_rst = refl; no_syn = refl };
    }

-- What is due first.

abbrev Brings : View → Option Due → Type 0
Brings w o = (due : Due) × (o ≡ Some due) × BringsOldest w (segment_of w due)

-- a connection that may send the octet at SND.UNA
record Sends (w : View) : Type 0 where
  pub small : w.sending.una < 2 ^ 32
  pub some : 0 < length w.sending.held
  pub size : 0 < w.sending.smss
  pub no_reset : w.owes_reset ≡ false
  pub opened : is_opening w.state ≡ false
  pub octets : awaits_fin_ack w.state ≡ false → outstanding w.sending ≤ length w.sending.held

-- what goes out again has the FIN only where that is outstanding
again_fin : (w : View) (mark : ℕ) → Sends w → awaits_fin_ack w.state ≡ false → (let t = again w mark in t.fin ≡ false)
again_fin w mark s none =
    let held = length w.sending.held in
    let within = s.octets none in
    let t = again w mark in
    ap (λ b. (mark + t.count == held) && b) (lt-leb (suc held) (outstanding w.sending) (omega (arith, within))) ∙ and_false (mark + t.count == held)

once_open : (w : View) → Sends w → first_due w ≡ option_or (again_from w w.resend.mark) (new_due w)
once_open w s =
    ap (λ b. if b then Some Rst else if is_opening w.state then (if (outstanding w.sending == 0) || is_some w.resend.mark then Some Syn else ack_due w) else option_or (again_from w w.resend.mark) (new_due w)) s.no_reset
    ∙ ap (λ b. if b then (if (outstanding w.sending == 0) || is_some w.resend.mark then Some Syn else ack_due w) else option_or (again_from w w.resend.mark) (new_due w)) s.opened

-- what is outstanding goes out again from SND.UNA on
marked_brings : (w : View) → Sends w → 0 < outstanding w.sending → w.resend.mark ≡ Some 0 → AreApart 1 w.resend.reported → (repairs_gaps w && not w.resend.once) ≡ false → Brings w (first_due w)
marked_brings w s out mark apart plain = (
  Text (again w 0),
  once_open w s ∙ ap (λ m. option_or (again_from w m) (new_due w)) mark ∙ ap (λ o. option_or o (new_due w)) (at_una_goes w apart plain out),
  stretch_brings w (again w 0) s.small s.some refl (again_some w 0 (omega (arith, out, s.some, s.size))) (let few = again_few w 0 in omega (arith, few)) (again_fin w 0 s),
)

-- a closed window takes nothing else again, and nothing new but the probe
probe_is_new : (w : View) → w.sending.window ≡ 0 → w.resend.owes_probe ≡ true → probes w ≡ true → new_due w ≡ Some Probe
probe_is_new w shut owes goes =
    let none : sendable w.sending (allowance w) ≡ 0 = omega (arith, shut) in
    let no_room : nat_lt (outstanding w.sending) w.sending.window ≡ false = lt-leb (suc (outstanding w.sending)) w.sending.window (omega (arith, shut)) in
    let all = awaits_fin_ack w.state && (outstanding w.sending == length w.sending.held) in
    let no_fin : sends_fin w ≡ false = ap (λ b. all && b) no_room ∙ and_false all in
    ap (λ n. if nat_lt 0 n && is_worth_sending w.sending (allowance w) (waits_no_longer w) then Some (Text (new_octets w)) else if sends_fin w then Some (Text (fin_alone w)) else if w.resend.owes_probe && probes w then Some Probe else ack_due w) none
    ∙ (ap (λ b. if b then Some (Text (fin_alone w)) else if w.resend.owes_probe && probes w then Some Probe else ack_due w) no_fin
    ∙ ap (λ b. if b then Some Probe else ack_due w) (both w.resend.owes_probe (probes w) owes goes))

probed_brings : (w : View) → Sends w → w.sending.window ≡ 0 → w.resend.owes_probe ≡ true → probes w ≡ true → Brings w (first_due w)
probed_brings w s shut owes goes = subst (Brings w) (sym (once_open w s)) (marked w.resend.mark refl)
  where
    new : new_due w ≡ Some Probe
    new = probe_is_new w shut owes goes

    marked : (mark : Option ℕ) → w.resend.mark ≡ mark → Brings w (option_or (again_from w mark) (new_due w))
    marked None is = (Probe, new, probe_brings w s.some s.size)
    marked (Some mark) is =
        let place = again_at w mark in
        either (Option Due) (λ o. Brings w (option_or o (new_due w))) (goes_again w place) (Some (Text (again w place))) None
        (λ goes_it.
        let below = goes_within w place goes_it in
        let first : place ≡ 0 = elim (again_within w place goes_it below) [
          | inl at_una ↦ at_una
          | inr room ↦ let inside = room.0 in absurd (omega (arith, inside, shut))
        ] in
        (Text (again w place), refl, stretch_brings w (again w place) s.small s.some first (again_some w place (omega (arith, first, below, s.some, s.size))) (let few = again_few w place in omega (arith, few)) (again_fin w place s)))
        (λ waits. (Probe, new, probe_brings w s.some s.size))

-- nothing is outstanding: new octets begin there
new_brings : (w : View) → Sends w → outstanding w.sending ≡ 0 → w.resend.mark ≡ None → sends_new w ≡ true → Brings w (first_due w)
new_brings w s idle unmarked sends =
    let some : 0 < sendable w.sending (allowance w) = ltb-true 0 (sendable w.sending (allowance w)) (and_left (nat_lt 0 (sendable w.sending (allowance w))) (is_worth_sending w.sending (allowance w) (waits_no_longer w)) sends) in (
      Text (new_octets w),
      once_open w s ∙ (ap (λ m. option_or (again_from w m) (new_due w)) unmarked
          ∙ ap (λ b. if b then Some (Text (new_octets w)) else if sends_fin w then Some (Text (fin_alone w)) else if w.resend.owes_probe && probes w then Some Probe else ack_due w) sends),
      stretch_brings w (new_octets w) s.small s.some idle (omega (arith, some, s.size)) (omega arith) (λ none. without_fin w (outstanding w.sending + (new_octets w).count) none),
    )

-- The timers.

comes : (o : Option Moment) (now : Moment) → is_some o ≡ true → ((deadline : Moment) → o ≡ Some deadline → deadline.0 ≤ now.0) → has_come o now ≡ true
comes None now runs by_now = cc
comes (Some deadline) now runs by_now = le-leb deadline.0 now.0 (by_now deadline refl)

pub runs_not : (o : Option Moment) (now : Moment) → is_some o ≡ false → has_come o now ≡ false
runs_not None now e = refl
runs_not (Some deadline) now e = cc

-- what a tick leaves where nothing is outstanding and nothing probed: the wait for more is over where its timer has come
record Idles (v : View) (now : Moment) (w : View) : Type 0 where
  pub mark : w.resend.mark ≡ v.resend.mark
  pub congestion : w.congestion ≡ v.congestion
  pub still : v.resend.overridden ≡ true → w.resend.overridden ≡ true
  pub over : has_come v.timers.overriding now ≡ true → w.resend.overridden ≡ true
  pub nodelay : w.nodelay ≡ v.nodelay
  pub passes : passes_full w ≡ passes_full v
  pub room : allowance w ≡ allowance v

override_idles : (v : View) (owes : Bool) (now : Moment) → Idles v now (override_expired (record v { owes_ack = owes }) now)
override_idles v owes now =
    let x = record v { owes_ack = owes } in
    either View (Idles v now) (has_come v.timers.overriding now) _ x
    (λ is. record { mark = refl; congestion = refl; still = λ o. refl; over = λ o. refl; nodelay = refl; passes = refl; room = refl })
    (λ early. record { mark = refl; congestion = refl; still = λ o. o; over = λ is. clash (has_come v.timers.overriding now) is early; nodelay = refl; passes = refl; room = refl })

timers_idle : (v : View) (now : Moment) → expires v now ≡ false → Idles v now (after_timers v now)
timers_idle v now none =
    let two = neither (has_come v.timers.retransmission now) (has_come v.timers.probe now) none in
    let same : after_expiry v now ≡ v =
    ap (λ b. if b then retransmission_expired v else if has_come v.timers.probe now then probe_expired v now else v) two.0 ∙ ap (λ b. if b then probe_expired v now else v) two.1 in
    subst (λ x. Idles v now (override_expired (delayed_ack_expired x now) now)) (sym same)
    (either View (λ x. Idles v now (override_expired x now)) (has_come v.timers.delayed_ack now) (record v { owes_ack = v.owes_ack || v.delays_ack }) v
    (λ is. override_idles v (v.owes_ack || v.delays_ack) now) (λ early. override_idles v v.owes_ack now))

tick_idles : (v : View) (now : Moment) → is_closed (after_tick v now).state ≡ false → expires v now ≡ false → is_tail_due v now ≡ false → Idles v now (after_tick v now)
tick_idles v now lives none rests =
    let mark : (let q = after_silence v now in q.resend.mark) ≡ v.resend.mark = ap (λ (p : Resend). p.mark) (tail_rests v now rests) in
    by_live_tick (Idles v now) v now lives
    (let k = timers_idle (after_silence v now) now none in record { mark = k.mark ∙ mark; congestion = k.congestion; still = k.still; over = k.over; nodelay = k.nodelay; passes = k.passes ∙ passes_silent v now; room = k.room ∙ allowance_silent v now })
    (λ early. record {
      mark = mark;
      congestion = refl;
      still = λ o. o;
      over = λ is.
          let others = (neither (expires v now) (has_come v.timers.delayed_ack now || has_come v.timers.overriding now) (sym (timers_come v now) ∙ early)).1 in
          clash (has_come v.timers.overriding now) is (neither (has_come v.timers.delayed_ack now) (has_come v.timers.overriding now) others).1;
      nodelay = refl;
      passes = passes_silent v now;
      room = allowance_silent v now;
    })

-- Together.

-- octets that were worth it, or waited long enough, go out
worth_still : (full alone before after : Bool) → (before ≡ true → after ≡ true) → (full || alone || before) ≡ true → (full || alone || after) ≡ true
worth_still true alone before after e w = refl
worth_still false true before after e w = refl
worth_still false false before after e w = e w

-- what waited for no more does so still
over_still : (undelayed before after : Bool) → (before ≡ true → after ≡ true) → (undelayed || before) ≡ true → (undelayed || after) ≡ true
over_still true before after e w = refl
over_still false before after e w = e w

sends_where : (v w : View) → w.sending ≡ v.sending → allowance w ≡ allowance v → nat_lt 0 (sendable v.sending (allowance v)) ≡ true
    → is_worth_sending v.sending (allowance v) ((w.nodelay && takes_enough v.sending (allowance v)) || passes_full w || w.resend.overridden) ≡ true → sends_new w ≡ true
sends_where v w sending room goes worth =
    ap (λ (t : Sending). nat_lt 0 (sendable t (allowance w)) && is_worth_sending t (allowance w) ((w.nodelay && takes_enough t (allowance w)) || passes_full w || w.resend.overridden)) sending
    ∙ (ap (λ n. nat_lt 0 (sendable v.sending n) && is_worth_sending v.sending n ((w.nodelay && takes_enough v.sending n) || passes_full w || w.resend.overridden)) room
    ∙ both (nat_lt 0 (sendable v.sending (allowance v))) (is_worth_sending v.sending (allowance v) ((w.nodelay && takes_enough v.sending (allowance v)) || passes_full w || w.resend.overridden)) goes worth)

over_worth : (full alone over : Bool) → over ≡ true → (full || alone || over) ≡ true
over_worth true alone over e = refl
over_worth false true over e = refl
over_worth false false over e = e

-- the connection behind the tick may send as it could before
sends_after : (v : View) (now : Moment) → IsSound v → 0 < length v.sending.held → v.resend.expiries < 12 → Sends (after_tick v now)
sends_after v now sound some few =
    let w = after_tick v now in
    let k = leaves_streams v now sound some few in
    let holds = holds_where v sound some in
    let una : w.sending.una ≡ v.sending.una = ap (λ (t : Sending). t.una) k.0 in
    let held : length w.sending.held ≡ length v.sending.held = ap (λ (t : Sending). length t.held) k.0 in
    let smss : w.sending.smss ≡ v.sending.smss = ap (λ (t : Sending). t.smss) k.0 in
    let owes : w.owes_reset ≡ v.owes_reset = by_live_tick (λ x. x.owes_reset ≡ v.owes_reset) v now (stays_up v now sound some few) (ap (λ (x : View). x.owes_reset) (timers_keep (after_silence v now) now)) (λ early. refl) in
    record {
      small = omega (arith, una, sound.una);
      some = omega (arith, held, some);
      size = omega (arith, smss, sound.segment_least);
      no_reset = owes ∙ live v sound holds.lives;
      opened = ap is_opening k.2 ∙ holds.opened;
      octets = λ none.
          let flag : takes_flag_number v.state ≡ false = ap (λ b. b || awaits_fin_ack v.state) holds.opened ∙ (sym (ap awaits_fin_ack k.2) ∙ none) in
          let most : outstanding v.sending ≤ length v.sending.held + 0 = subst (λ b. outstanding v.sending ≤ length v.sending.held + (if b then 1 else 0)) flag sound.flight in
          let out : outstanding w.sending ≡ outstanding v.sending = ap outstanding k.0 in
          omega (arith, most, out, held);
    }

holds_unacknowledged : (v : View) → 0 < length v.sending.held → has_unacknowledged v ≡ true
holds_unacknowledged v some =
    or_left (not (length v.sending.held == 0)) (awaits_fin_ack v.state)
    (elim (eqb_tells (length v.sending.held) 0) [ inl t ↦ absurd (omega (arith, t.1, some)) | inr t ↦ of_false (length v.sending.held == 0) t.0 ])

probing : (v : View) → is_opening v.state ≡ false → 0 < length v.sending.held → (v.sending.window == 0) ≡ true → probes v ≡ true
probing v opened some shut =
    both (not (is_opening v.state) && (v.sending.window == 0)) (has_unacknowledged v) (both (not (is_opening v.state)) (v.sending.window == 0) (of_false (is_opening v.state) opened) shut) (holds_unacknowledged v some)

-- the window is closed
closed_brings : (v : View) (now : Moment) → IsSound v → KeepsTime v → 0 < length v.sending.held → AllCome v.timers now → v.resend.expiries < 12 → (v.sending.window == 0) ≡ true → Brings (after_tick v now) (first_due (after_tick v now))
closed_brings v now sound keeps some all few shut =
    let w = after_tick v now in
    let lives = stays_up v now sound some few in
    let k = leaves_streams v now sound some few in
    let s = sends_after v now sound some few in
    let come = comes v.timers.probe now (keeps.probe ∙ probing v (holds_where v sound some).opened some shut) (all TimerKind.Probe) in
    let window : w.sending.window ≡ 0 = ap (λ (t : Sending). t.window) k.0 ∙ eqb-true v.sending.window 0 shut in
    probed_brings w s window (probes_again v now keeps come lives).2 (probing w s.opened s.some (ap (λ (t : Sending). t.window == 0) k.0 ∙ shut))

-- it is open, and octets are outstanding
outstanding_brings : (v : View) (now : Moment) → IsSound v → KeepsTime v → 0 < length v.sending.held → AllCome v.timers now → v.resend.expiries < 12 → probes v ≡ false → 0 < outstanding v.sending
    → Brings (after_tick v now) (first_due (after_tick v now))
outstanding_brings v now sound keeps some all few unprobed more =
    let lives = stays_up v now sound some few in
    let out : outstanding (after_tick v now).sending ≡ outstanding v.sending = ap outstanding (leaves_streams v now sound some few).0 in
    let come = comes v.timers.retransmission now (keeps.retransmission ∙ both (nat_lt 0 (outstanding v.sending)) (not (probes v)) (lt-ltb 0 (outstanding v.sending) more) (of_false (probes v) unprobed)) (all Retransmission) in
    let again_all = goes_again_all v now sound keeps come lives in
    marked_brings (after_tick v now) (sends_after v now sound some few) (omega (arith, out, more)) again_all.mark (subst (AreApart 1) (sym again_all.reported) tt) (unruled (after_tick v now) again_all.runs)

-- it is open, and nothing is
idle_brings : (v : View) (now : Moment) → IsSound v → KeepsTime v → KeepsCongestion v → 0 < length v.sending.held → AllCome v.timers now → v.resend.expiries < 12 → probes v ≡ false → 0 < v.sending.window → outstanding v.sending ≡ 0
    → Brings (after_tick v now) (first_due (after_tick v now))
idle_brings v now sound keeps network some all few unprobed room idle =
    let w = after_tick v now in
    let sent = v.sending in
    let cwnd = allowance v in
    let k = leaves_streams v now sound some few in
    let opened = (holds_where v sound some).opened in
    let none : expires v now ≡ false =
    ap (λ b. b || has_come v.timers.probe now) (runs_not v.timers.retransmission now (keeps.retransmission ∙ ap (λ n. nat_lt 0 n && not (probes v)) idle)) ∙ runs_not v.timers.probe now (keeps.probe ∙ unprobed) in
    let i = tick_idles v now (stays_up v now sound some few) none (few_rest v now (omega (arith, idle))) in
    let some_network : 0 < cwnd = allowance_some v sound network idle in
    let may : nat_lt 0 (sendable sent cwnd) ≡ true = lt-ltb 0 (sendable sent cwnd) (omega (arith, room, some_network, idle, some)) in
    let full = nat_le sent.smss (sendable sent cwnd) in
    let alone = (outstanding sent == 0) && takes_enough sent cwnd in
    let before = waits_no_longer v in
    let after = (w.nodelay && takes_enough sent cwnd) || passes_full w || w.resend.overridden in
    let still : before ≡ true → after ≡ true = λ is.
    ap₂ (λ a b. (a && takes_enough sent cwnd) || b || w.resend.overridden) i.nodelay i.passes ∙ over_still ((v.nodelay && takes_enough sent cwnd) || passes_full v) v.resend.overridden w.resend.overridden i.still is in
    let worth : is_worth_sending sent cwnd after ≡ true = by (is_worth_sending sent cwnd after ≡ true) (is_worth_sending sent cwnd before)
    (λ is. worth_still full alone before after still is)
    (λ waits.
    let awaits = both (not (is_opening v.state)) (nat_lt 0 (sendable sent cwnd) && not (is_worth_sending sent cwnd before)) (of_false (is_opening v.state) opened)
    (both (nat_lt 0 (sendable sent cwnd)) (not (is_worth_sending sent cwnd before)) may (of_false (is_worth_sending sent cwnd before) waits)) in
    over_worth full alone after (or_right ((w.nodelay && takes_enough sent cwnd) || passes_full w) w.resend.overridden (i.over (comes v.timers.overriding now (keeps.overriding awaits) (all Override))))) in
    new_brings w (sends_after v now sound some few) (ap outstanding k.0 ∙ idle) (i.mark ∙ none_below v.resend.mark (outstanding sent) idle sound.mark) (sends_where v w k.0 i.room may worth)

pub oldest_brought : (v : View) (now : Moment) → IsSound v → KeepsTime v → KeepsCongestion v → 0 < length v.sending.held → AllCome v.timers now → v.resend.expiries < 12
    → (due : Due) × (first_due (after_tick v now) ≡ Some due) × BringsOldest (after_tick v now) (segment_of (after_tick v now) due)
oldest_brought v now sound keeps network some all few =
    let goal : Type 0 = Brings (after_tick v now) (first_due (after_tick v now)) in
    by goal (v.sending.window == 0) (closed_brings v now sound keeps some all few)
    (λ wide.
    let unprobed : probes v ≡ false = ap (λ b. not (is_opening v.state) && b && has_unacknowledged v) wide ∙ ap (λ b. b && has_unacknowledged v) (and_false (not (is_opening v.state))) in
    let room : 0 < v.sending.window = elim (eqb_tells v.sending.window 0) [ inl t ↦ clash (v.sending.window == 0) t.0 wide | inr t ↦ omega (arith, t.1) ] in
    elim (eqb_tells (outstanding v.sending) 0) [
      | inl idle ↦ idle_brings v now sound keeps network some all few unprobed room idle.1
      | inr more ↦ outstanding_brings v now sound keeps some all few unprobed (omega (arith, more.1))
    ])
