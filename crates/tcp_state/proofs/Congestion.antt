-- Why each event of a connection moves its congestion window as one event of that window, or two, or leaves it.
use Rattle.std.proofs.Common.{◌≡◌, ℕ, ◌+◌, ◌-◌, ◌^◌, ◌<◌, ◌≤◌, ◌==◌, ◌&&◌, ◌||◌, not, nat_lt, nat_le, if◌then◌else◌, Bool, true, false, length, take, Option, Some, None, is_some, inl, inr, arith, refl, sym, ◌∙◌, ap, subst, ◌*◌, ◌/◌, min, max}
use Rattle.std.proofs.lemmas.Bool.{leb-true, ltb-true}
use Rattle.std.proofs.lemmas.Bool.Decides.{eqb_tells}
use Rattle.ipv4.specs.declared.addr.Endpoint.{Endpoint}
use Rattle.tcp_segment.specs.Segment.{Segment, smss_of}
use Rattle.tcp_segment.specs.Wire.{past}
use Rattle.clock.specs.declared.moment.Moment.{Moment}
use Rattle.clock.specs.Moments.{has_come}
use Rattle.retransmit.specs.Deadlines.{next_of}
use Rattle.congestion.specs.Control.{repairs}
use Rattle.congestion.specs.Window.{Window, is_recovering, goes_on, most_growth, after_new_ack, after_loss, third_is_next}
use Rattle.congestion.specs.Events.{Event as WindowEvent, after_event as after_window_event}
use Rattle.congestion.specs.Events.Event.{NewAck, Expiry, Duplicate, Loss}
use Rattle.tcp_state.specs.declared.arrival.Before.{Before}
use Rattle.tcp_state.specs.declared.calls.Refusal.TheVariants.{ECONNREFUSED, ETIMEDOUT}
use Rattle.tcp_state.specs.declared.emission.Due.{Due}
use Rattle.tcp_state.specs.declared.emission.Due.TheVariants.{Rst, Syn, Text, Probe, Ack, KeepAlive}
use Rattle.tcp_state.specs.declared.state.State.{State}
use Rattle.tcp_state.specs.declared.state.State.TheVariants.{SynSent, SynReceived, Established, FinWait1, FinWait2, CloseWait}
use Rattle.tcp_halves.specs.Halves.{Room, Sending}
use Rattle.tcp_halves.specs.Stream.{outstanding, is_new_ack}
use Rattle.tcp_halves.specs.Windows.{updates_window}
use Rattle.tcp_state.specs.View.{View, IsSound, is_opening, is_syn_sent, is_syn_received, is_closed, is_write_closed, is_at_end, after_stop, after_reset, opened_actively}
use Rattle.tcp_state.specs.Congestion.{Signal, after_signal, KeepsCongestion}
use Rattle.tcp_state.specs.Congestion.Signal.{Begins, Counts, Both, Nothing}
use Rattle.tcp_state.specs.Timing.{clocked, gives_up, retransmission_expired, probe_expired, after_expiry, after_timers, after_tick}
use Rattle.tcp_state.specs.Alive.{after_silence}
use Rattle.tcp_state.specs.Calls.{send_count, beyond_shutdown, shutdown_refusal, after_shutdown, aborted_at, after_release, is_removed_by_close, is_aborted_by_close}
use Rattle.tcp_state.specs.Arrival.{opened_passively, is_receiving, beyond_fin, after_ack, after_window, after_text, after_fin, after_heard, is_rejected, before, is_moved, resend_heard, resend_after, congestion_event_of, whole_signal, acknowledged_signal, is_partial, reports_more, told, behind_ack, tells_loss, report_event, congestion_after, timed_by, after_segment_at, ends_tail, came_twice, report_signal, tells_needless, given_back, resend_left}
use Rattle.tcp_state.specs.Due.{after_syn_ack_paid, after_syn_out, after_going_out, first_due}
use Rattle.tcp_state.specs.Unreachable.{is_unreachable}
use Rattle.tcp_state.specs.Hop.{unheard_until}
use Rattle.tcp_state.specs.Resend.{gives_back}
use Rattle.tcp_state.specs.Edges.{Event, Hears, Ticks, Emits, Sends, Receives, Shuts, SetsNoDelay, SetsKeepAlive, Closes, Aborts, Unreachable, LosesHop, after_first, after_event, congestion_event_at, congestion_event_by, gives_back_by}
use Rattle.tcp_state.proofs.Clocked.{by_others, emission_keeps, heard_paced, after_paced, signalled}
use Rattle.tcp_halves.proofs.Choices.{either, by, clash, and_left, and_right, or_left, or_right}
use Rattle.tcp_state.proofs.Segments.{by_fin, by_ack, by_hearing, by_clock}
use Rattle.tcp_state.proofs.Deadlines.{none_comes}
use Rattle.tcp_state.proofs.TailProbes.{silent_sound, silent_congestion}
use Rattle.tcp_state.proofs.Emissions.{syn_sends, stretch_sends, probe_sends}
use Rattle.tcp_state.specs.Selective.{selects}
use Rattle.tcp_state.proofs.Growth.{IsSize, IsWindow, holds_segment, first_sound, new_ack_sound, partial_ack_sound, expiry_sound, duplicate_sound, loss_sound, duplicate_segment, new_ack_adds, duplicate_adds, duplicate_priors, given_sound}
use Rattle.tcp_state.proofs.Selects.{plain_selects_none}

-- Whether our SYN went out again.

-- what an acknowledgement tells of time leaves it
pub syn_kept : (b : Before) (w : View) (now : Moment) → (resend_heard b w now).syn_resent ≡ w.resend.syn_resent
syn_kept b w now = heard_paced b w now (λ p. p.syn_resent ≡ w.resend.syn_resent) refl refl refl

-- .. and so does the third duplicate ACK
syn_kept_after : (b : Before) (w : View) (now : Moment) → (resend_after b w now).syn_resent ≡ w.resend.syn_resent
syn_kept_after b w now = after_paced b w now (λ p. p.syn_resent ≡ w.resend.syn_resent) (syn_kept b w now) (syn_kept b w now) (λ r. syn_kept b w now) (syn_kept b w now)

-- What a segment leaves without the clock.

-- the window of a connection in this state has not begun, or is over
abbrev is_idle : State → Bool
is_idle state = is_opening state || is_closed state

-- the window stays, and the size of a segment but for the SYN that opens; what ends the opening moves SND.UNA
record Heard (v w : View) : Type 0 where
  congestion : w.congestion ≡ v.congestion
  segment : is_opening v.state ≡ false → w.sending.smss ≡ v.sending.smss
  size : IsSize v.sending.smss → IsSize w.sending.smss
  opens : v.sending.una < 2 ^ 32 → is_opening v.state ≡ true → is_idle w.state ≡ false → (v.sending.una == w.sending.una) ≡ false

leaves : (v w : View) → w.congestion ≡ v.congestion → w.sending.smss ≡ v.sending.smss → (is_opening v.state ≡ true → is_idle w.state ≡ true) → Heard v w
leaves v w congestion segment idle = record {
  congestion = congestion;
  segment = λ opened. segment;
  size = λ was. subst IsSize (sym segment) was;
  opens = λ fits opening begun. clash (is_idle w.state) (idle opening) begun;
}

-- an acknowledgement that is new is not SND.UNA, nor is SND.NXT
moves_una : (una nxt ack : ℕ) → una < 2 ^ 32 → (nat_lt 0 (past ack una) && nat_le (past ack una) (past nxt una)) ≡ true → (una == nxt) ≡ false
moves_una una nxt ack fits new = elim (eqb_tells una nxt) [
  | inl same ↦
      let some = ltb-true 0 (past ack una) (and_left (nat_lt 0 (past ack una)) (nat_le (past ack una) (past nxt una)) new) in
      let within = leb-true (past ack una) (past nxt una) (and_right (nat_lt 0 (past ack una)) (nat_le (past ack una) (past nxt una)) new) in
      absurd (omega (arith, fits, same.1, some, within))
  | inr other ↦ other.0
]

opening_stays : (t : State) → is_opening t ≡ true → is_idle (beyond_fin t) ≡ true
opening_stays SynSent e = refl
opening_stays SynReceived e = refl
opening_stays _ e = cc

ack_leaves : (v : View) (ack : ℕ) → Heard v (after_ack v ack)
ack_leaves v ack = by_ack (Heard v) v ack (record {
  old = leaves v v refl refl (or_left (is_opening v.state) (is_closed v.state));
  beyond = leaves v _ refl refl (or_left (is_opening v.state) (is_closed v.state));
  opens = λ received new. record { congestion = refl; segment = λ opened. refl; size = λ was. was; opens = λ fits opening begun. moves_una v.sending.una v.sending.nxt ack fits new };
  octets = λ new. leaves v _ refl refl (or_left (is_opening v.state) (is_closed v.state));
  fin = λ new fin. leaves v _ refl refl (opening_stays v.state);
})

window_leaves : (v w : View) (s : Segment) → Heard v w → Heard v (after_window w s)
window_leaves v w s k =
    either Sending (λ t. Heard v (record w { sending = t })) (updates_window w.sending s.number s.acknowledgement) _ w.sending
    (λ tells. record { congestion = k.congestion; segment = k.segment; size = k.size; opens = k.opens }) (λ none. k)

text_leaves : (v w : View) (s : Segment) → Heard v w → Heard v (after_text w s)
text_leaves v w s k =
    either View (Heard v) ((length s.octets == 0) || not (is_receiving w.state)) w _ (λ none. k)
    (λ some. record { congestion = k.congestion; segment = k.segment; size = k.size; opens = k.opens })

receiving_begun : (t : State) → is_receiving t ≡ true → is_idle t ≡ false
receiving_begun Established e = refl
receiving_begun FinWait1 e = refl
receiving_begun FinWait2 e = refl
receiving_begun _ e = cc

end_leaves : (v w : View) (s : Segment) → Heard v w → Heard v (after_fin w s)
end_leaves v w s k =
    by_fin (Heard v) w s
    (λ counts. record {
      congestion = k.congestion;
      segment = k.segment;
      size = k.size;
      opens = λ fits opening begun. k.opens fits opening (receiving_begun w.state (and_right s.flags.fin (is_receiving w.state) (and_left (s.flags.fin && is_receiving w.state) _ counts)));
    })
    (record { congestion = k.congestion; segment = k.segment; size = k.size; opens = k.opens }) k

syn_size : (s : Segment) → IsSize (smss_of s)
syn_size s = record { least = omega arith; most = omega arith }

sent_opens : (t : State) → is_syn_sent t ≡ true → is_opening t ≡ true
sent_opens SynSent e = refl
sent_opens _ e = cc

segment_leaves : (v : View) (s : Segment) → Heard v (after_heard v s)
segment_leaves v s =
    let acked = after_ack v s.acknowledgement in
    let told = after_window acked s in
    let k = window_leaves v acked s (ack_leaves v s.acknowledgement) in
    by_hearing (Heard v) v s (record { congestion = k.congestion; segment = k.segment; size = k.size; opens = λ fits opening begun. cc }) (record {
      dropped = leaves v v refl refl (or_left (is_opening v.state) (is_closed v.state));
      drawn = leaves v _ refl refl (or_left (is_opening v.state) (is_closed v.state));
      reset = λ acts. leaves v _ refl refl (λ opening. refl);
      crossed = λ waits. record {
        congestion = refl;
        segment = λ opened. clash (is_opening v.state) (sent_opens v.state waits) opened;
        size = λ was. syn_size s;
        opens = λ fits opening begun. cc;
      };
      opened = λ waits right. record {
        congestion = refl;
        segment = λ opened. clash (is_opening v.state) (sent_opens v.state waits) opened;
        size = λ was. syn_size s;
        opens = λ fits opening begun. moves_una v.sending.una v.sending.nxt s.acknowledgement fits (and_right (s.flags.syn && s.flags.ack) (is_new_ack v.sending s.acknowledgement) right);
      };
      acknowledged = λ taken. ack_leaves v s.acknowledgement;
      read = λ on. end_leaves v (after_text told s) s (text_leaves v told s k);
    })

-- so it leaves the window
pub window_kept : (v : View) (s : Segment) → (after_heard v s).congestion ≡ v.congestion
window_kept v s = (segment_leaves v s).congestion

-- What it is to the window.

-- so many numbers are outstanding
few : (w : View) → outstanding w.sending < 2 ^ 32
few w = omega arith

-- its window is one that events lead to
signal_sound : (b : Before) (w : View) → b.tail < 2 ^ 32 → IsSize w.sending.smss → IsWindow w.congestion → IsWindow (congestion_after b w)
signal_sound b w small size sound =
    signalled b w (λ g. IsWindow (after_signal w.congestion g w.sending.smss w.resend.syn_resent)) sound (first_sound w.congestion.control w.sending.smss w.resend.syn_resent size)
    (λ moves opened whole. new_ack_sound w.congestion (b.held - length w.sending.held) (outstanding w.sending) sound) (λ moves opened goes. partial_ack_sound w.congestion (b.held - length w.sending.held) sound) (λ stays twice. duplicate_sound w.congestion (outstanding w.sending) (few w) sound)
    (λ stays more counts. either WindowEvent (λ e. IsWindow (after_signal w.congestion (Counts e) w.sending.smss w.resend.syn_resent)) (tells_loss (told b w)) (Loss (outstanding w.sending)) (Duplicate (outstanding w.sending)) (λ loss. loss_sound w.congestion (outstanding w.sending) (few w) sound) (λ early. duplicate_sound w.congestion (outstanding w.sending) (few w) sound))
    (λ moves opened more.
    let n = b.held - length w.sending.held in
    let acked = after_new_ack w.congestion n (outstanding w.sending) in
    let acked_sound : IsWindow acked = new_ack_sound w.congestion n (outstanding w.sending) sound in
    either WindowEvent (λ e. IsWindow (after_window_event acked e)) (tells_loss (behind_ack (told b w) n)) (Loss (outstanding w.sending)) (Duplicate (outstanding w.sending)) (λ loss. loss_sound acked (outstanding w.sending) (few w) acked_sound) (λ early. duplicate_sound acked (outstanding w.sending) (few w) acked_sound))
    (λ moves opened whole ends. new_ack_sound (after_loss w.congestion b.tail) (b.held - length w.sending.held) (outstanding w.sending) (loss_sound w.congestion b.tail small sound))

-- it counts in segments of the peer's size, once it has begun
signal_segment : (v : View) (s : Segment) → v.sending.una < 2 ^ 32 → is_closed v.state ≡ false → KeepsCongestion v
    → is_idle (after_heard v s).state ≡ false → (let c = congestion_after (before v s) (after_heard v s) in c.smss) ≡ (after_heard v s).sending.smss
signal_segment v s fits lives keeps begun =
    let b = before v s in
    let w = after_heard v s in
    let k = segment_leaves v s in
    let P : Signal → Type 0 = λ g. (let c = after_signal w.congestion g w.sending.smss w.resend.syn_resent in c.smss) ≡ w.sending.smss in
    let kept : is_opening v.state ≡ false → w.congestion.smss ≡ w.sending.smss = λ opened.
    ap (λ (c : Window). c.smss) k.congestion ∙ keeps.segment (neither (is_opening v.state) (is_closed v.state) opened lives) ∙ sym (k.segment opened) in
    let still_open : is_moved b w ≡ false → is_opening v.state ≡ false = λ still.
    by (is_opening v.state ≡ false) (is_opening v.state) (λ opening. clash (is_moved b w) (ap not (k.opens fits opening begun)) still) (λ opened. opened) in
    either Signal P (is_closed w.state) Nothing _ (λ closed. clash (is_idle w.state) (or_right (is_opening w.state) (is_closed w.state) closed) begun)
    (λ on. either Signal P (is_moved b w) _ _
    (λ moved. either Signal P (is_opening b.state) Begins (acknowledged_signal b (told b w) (b.held - length w.sending.held) (reports_more b w)) (λ opens. refl)
    (λ opened. either Signal P (is_partial w) _ _ (λ goes. either Signal P (selects w) Nothing _ (λ rules. kept opened) (λ none. kept opened)) (λ whole. whole_kept b (told b w) (b.held - length w.sending.held) (reports_more b w) (kept opened))))
    (λ still. let twice_kept : P (Counts (Duplicate (outstanding w.sending))) = duplicate_segment w.congestion (outstanding w.sending) ∙ kept (still_open still) in
    either Signal P b.is_duplicate (Counts (Duplicate (outstanding w.sending))) _
    (λ twice. twice_kept) (λ other. either Signal P (reports_more b w) (report_signal (told b w)) Nothing
    (λ more. either Signal P (third_is_next w.congestion && not (tells_loss (told b w))) Nothing (Counts (report_event (told b w))) (λ waits. kept (still_open still)) (λ counts. either WindowEvent (λ e. P (Counts e)) (tells_loss (told b w)) (Loss (outstanding w.sending)) (Duplicate (outstanding w.sending)) (λ loss. kept (still_open still)) (λ early. twice_kept))) (λ none. kept (still_open still)))))
  where
    neither : (a b : Bool) → a ≡ false → b ≡ false → (a || b) ≡ false
    neither true b e f = cc
    neither false b e f = f

    whole_kept : (b : Before) (w : View) (octets : ℕ) (more : Bool) → w.congestion.smss ≡ w.sending.smss → (let c = after_signal w.congestion (whole_signal b w octets more) w.sending.smss w.resend.syn_resent in c.smss) ≡ w.sending.smss
    whole_kept b w octets more kept =
        let ack = NewAck octets (outstanding w.sending) in
        let P : Signal → Type 0 = λ g. (let c = after_signal w.congestion g w.sending.smss w.resend.syn_resent in c.smss) ≡ w.sending.smss in
        either Signal P more (Both ack (report_event (behind_ack w octets))) _
        (λ reports. either WindowEvent (λ e. P (Both ack e)) (tells_loss (behind_ack w octets)) (Loss (outstanding w.sending)) (Duplicate (outstanding w.sending)) (λ loss. kept)
        (λ early. duplicate_segment (after_window_event w.congestion ack) (outstanding w.sending) ∙ kept))
        (λ alone. either Signal P (ends_tail b w) (Both (Loss b.tail) ack) (Counts ack) (λ ends. kept) (λ other. kept))

-- Every event.

-- an event of a connection is this to its window, and the window is kept
record Moves (v : View) (back : Bool) (signal : Signal) (w : View) : Type 0 where
  pub window : w.congestion ≡ given_back back (after_signal v.congestion signal w.sending.smss w.resend.syn_resent)
  pub keeps : IsSound v → KeepsCongestion v → KeepsCongestion w

-- nothing else counts for it
keeps_on : (w x : View) → x.congestion ≡ w.congestion → x.sending.smss ≡ w.sending.smss → (is_idle x.state ≡ false → is_idle w.state ≡ false) → KeepsCongestion w → KeepsCongestion x
keeps_on w x congestion segment begun k = record {
  sound = subst IsWindow (sym congestion) k.sound;
  segment = λ on. ap (λ (c : Window). c.smss) congestion ∙ k.segment (begun on) ∙ sym segment;
}

still : (v w : View) → w.congestion ≡ v.congestion → w.sending.smss ≡ v.sending.smss → (is_idle w.state ≡ false → is_idle v.state ≡ false) → Moves v false Nothing w
still v w congestion segment begun = record { window = congestion; keeps = λ sound k. keeps_on v w congestion segment begun k }

heard_moves : (v : View) (s : Segment) (now : Moment) → is_closed v.state ≡ false → (let w = timed_by (before v s) (after_heard v s) now in Moves v (gives_back (tells_needless v s) w.resend) (congestion_event_of (before v s) (after_heard v s)) w)
heard_moves v s now lives =
    let b = before v s in
    let w = after_heard v s in
    let k = segment_leaves v s in
    let signal = congestion_event_of b w in
    let back = gives_back (tells_needless v s) (resend_left b w now) in
    record {
      window = ap (λ c. given_back back (after_signal c signal w.sending.smss w.resend.syn_resent)) k.congestion ∙ ap (λ r. given_back back (after_signal v.congestion signal w.sending.smss r)) (sym (syn_kept_after b w now));
      keeps = λ sound keeps.
          let size = k.size (record { least = sound.segment_least; most = sound.segment }) in
          record { sound = given_sound (congestion_after b w) back (signal_sound b w (omega (arith, sound.tail)) size (subst IsWindow (sym k.congestion) keeps.sound)); segment = signal_segment v s sound.una lives keeps };
    }

-- the retransmission timer expires
expiry_moves : (v : View) (now : Moment) → Moves v false (if has_come v.timers.retransmission now then Counts (Expiry (outstanding v.sending)) else Nothing) (after_expiry v now)
expiry_moves v now = chosen (has_come v.timers.retransmission now)
  where
    chosen : (comes : Bool) → Moves v false (if comes then Counts (Expiry (outstanding v.sending)) else Nothing) (if comes then retransmission_expired v else if has_come v.timers.probe now then probe_expired v now else v)
    chosen true = record {
      window = refl;
      keeps = λ sound k. record { sound = expiry_sound v.congestion (outstanding v.sending) (few v) k.sound; segment = k.segment };
    }
    chosen false = either View (Moves v false Nothing) (has_come v.timers.probe now) (probe_expired v now) v (λ probes. still v _ refl refl (λ begun. begun)) (λ other. still v v refl refl (λ begun. begun))

-- .. and no other timer counts
on_time : (v : View) (signal : Signal) (w x : View) → x.congestion ≡ w.congestion → x.sending ≡ w.sending → x.resend.syn_resent ≡ w.resend.syn_resent → x.state ≡ w.state → Moves v false signal w → Moves v false signal x
on_time v signal w x congestion sending syn state k =
    let segment = ap (λ (t : Sending). t.smss) sending in
    record {
      window = congestion ∙ k.window ∙ ap (λ n. after_signal v.congestion signal n w.resend.syn_resent) (sym segment) ∙ ap (after_signal v.congestion signal x.sending.smss) (sym syn);
      keeps = λ sound keeps. keeps_on w x congestion segment (λ begun. ap is_idle (sym state) ∙ begun) (k.keeps sound keeps);
    }

timers_move : (v : View) (now : Moment) → Moves v false (if has_come v.timers.retransmission now then Counts (Expiry (outstanding v.sending)) else Nothing) (clocked false (after_timers v now) now)
timers_move v now =
    let signal : Signal = if has_come v.timers.retransmission now then Counts (Expiry (outstanding v.sending)) else Nothing in
    on_time v signal (after_timers v now) (clocked false (after_timers v now) now) refl refl refl refl (by_others (Moves v false signal) v now (expiry_moves v now)
    (λ w owes k. on_time v signal w _ refl refl refl refl k) (λ w k. on_time v signal w _ refl refl refl refl k))

tick_moves : (v : View) (now : Moment) → Moves v false (congestion_event_at v now) (after_tick v now)
tick_moves v now = chosen (is_at_end v now) (gives_up v now)
  where
    signal : Signal
    signal = if has_come v.timers.retransmission now then Counts (Expiry (outstanding v.sending)) else Nothing

    asked : View
    asked = after_silence v now

    acts : View
    acts = if has_come (next_of v.timers) now then clocked false (after_timers asked now) now else asked

    chosen : (over gives : Bool) → Moves v false (if over || gives then Nothing else signal) (if over then after_stop v else if gives then after_reset v (Some ETIMEDOUT) else acts)
    chosen true gives = still v (after_stop v) refl refl (λ begun. cc)
    chosen false true = still v (after_reset v (Some ETIMEDOUT)) refl refl (λ begun. cc)
    chosen false false =
        either View (Moves v false signal) (has_come (next_of v.timers) now) (clocked false (after_timers asked now) now) asked
        (λ comes. let k = timers_move asked now in record { window = k.window; keeps = λ sound keeps. k.keeps (silent_sound v now sound) (silent_congestion v now keeps) })
        (λ early. subst (λ t. Moves v false (if t then Counts (Expiry (outstanding v.sending)) else Nothing) asked) (sym (none_comes v now early)) (still v asked refl refl (λ begun. begun)))

-- what goes out keeps the size of a segment
emission_segment : (v : View) (due : Due) (now : Moment) → (after_going_out v due now).sending.smss ≡ v.sending.smss
emission_segment v Rst now = refl
emission_segment v Syn now =
    let P : View → Type 0 = λ w. w.sending.smss ≡ v.sending.smss in
    let sent = after_syn_out v now in
    let k : P sent = ap (λ (t : Sending). t.smss) (syn_sends v now) in
    either View P (is_syn_received v.state) (after_syn_ack_paid sent) sent (λ received. k) (λ waits. k)
emission_segment v (Text stretch) now = ap (λ (t : Sending). t.smss) (stretch_sends v stretch now)
emission_segment v Probe now = ap (λ (t : Sending). t.smss) (probe_sends v)
emission_segment v Ack now = refl
emission_segment v KeepAlive now = refl

emission_moves : (v : View) (due : Option Due) (now : Moment) → Moves v false Nothing (after_first v due now)
emission_moves v None now = still v v refl refl (λ begun. begun)
emission_moves v (Some due) now =
    let kept = emission_keeps v (Some due) now in
    still v _ (ap (λ (w : View). w.congestion) kept) (emission_segment v due now) (λ begun. ap (λ (w : View). is_idle w.state) (sym kept) ∙ begun)

shut_begun : (t : State) → is_idle (beyond_shutdown t) ≡ false → is_idle t ≡ false
shut_begun Established e = refl
shut_begun CloseWait e = refl
shut_begun _ e = e

moves : (v : View) (e : Event) → Moves v (gives_back_by v e (after_event v e)) (congestion_event_by v e) (after_event v e)
moves v (Hears s now) = chosen (is_closed v.state) (is_rejected v s) refl
  where
    chosen : (closed rejected : Bool) → is_closed v.state ≡ closed
        → (let w = if closed || rejected then v else timed_by (before v s) (after_heard v s) now in Moves v (not (closed || rejected) && gives_back (tells_needless v s) w.resend) (if closed || rejected then Nothing else congestion_event_of (before v s) (after_heard v s)) w)
    chosen true rejected is = still v v refl refl (λ begun. begun)
    chosen false true is = still v v refl refl (λ begun. begun)
    chosen false false is = heard_moves v s now is
moves v (Ticks now) = tick_moves v now
moves v (Emits now) = emission_moves v (first_due v) now
moves v (Sends octets now) =
    either View (Moves v false Nothing) (is_some v.pending_error || is_opening v.state || is_write_closed v.state) v _ (λ refused. still v v refl refl (λ begun. begun))
    (λ taken. either View (Moves v false Nothing) (length (take (send_count v octets) octets) == 0) v _ (λ none. still v v refl refl (λ begun. begun)) (λ some. still v _ refl refl (λ begun. begun)))
moves v (Receives len) =
    either View (Moves v false Nothing) (is_some v.pending_error || is_opening v.state || (length v.receiving.readable == 0)) v _ (λ nothing. still v v refl refl (λ begun. begun)) (λ some. still v _ refl refl (λ begun. begun))
moves v (Shuts now) =
    either View (Moves v false Nothing) (is_some (shutdown_refusal v)) v (after_shutdown v now) (λ refused. still v v refl refl (λ begun. begun)) (λ shuts. still v _ refl refl (shut_begun v.state))
moves v (SetsNoDelay on now) = still v _ refl refl (λ begun. begun)
moves v (SetsKeepAlive every now) = still v _ refl refl (λ begun. begun)
moves v (Closes now) =
    either View (Moves v false Nothing) (is_removed_by_close v) v _ (λ removed. still v v refl refl (λ begun. begun))
    (λ stays. either View (Moves v false Nothing) (is_aborted_by_close v) (aborted_at v now) (after_release v now) (λ aborts. still v _ refl refl (λ begun. cc)) (λ leaves_it. still v _ refl refl (shut_begun v.state)))
moves v (Aborts now) = either View (Moves v false Nothing) (is_closed v.state) v (aborted_at v now) (λ closed. still v v refl refl (λ begun. begun)) (λ aborts. still v _ refl refl (λ begun. cc))
moves v (Unreachable number) =
    either View (Moves v false Nothing) (is_unreachable v number) (after_reset v (Some ECONNREFUSED)) v (λ refused. still v _ refl refl (λ begun. cc)) (λ other. still v v refl refl (λ begun. begun))
moves v (LosesHop now) =
    either View (Moves v false Nothing) (has_come (unheard_until v) now) (after_reset v (Some ETIMEDOUT)) v (λ over. still v _ refl refl (λ begun. cc)) (λ waits. still v v refl refl (λ begun. begun))

pub moves_by_events : (v : View) (e : Event) → (after_event v e).congestion ≡ given_back (gives_back_by v e (after_event v e)) (after_signal v.congestion (congestion_event_by v e) (after_event v e).sending.smss (after_event v e).resend.syn_resent)
moves_by_events v e = (moves v e).window

pub stays_kept : (v : View) (e : Event) → IsSound v → KeepsCongestion v → KeepsCongestion (after_event v e)
stays_kept v e = (moves v e).keeps

-- A connection that opens, and one that is open.

first_size : IsSize 536
first_size = record { least = omega arith; most = omega arith }

pub opened_kept : (room : Room) (local peer : Endpoint) (isn : ℕ) (now : Moment) → KeepsCongestion (opened_actively room local peer isn now)
opened_kept room local peer isn now = record { sound = first_sound room.manner.control 536 false first_size; segment = λ begun. cc }

pub accepted_kept : (room : Room) (local peer : Endpoint) (isn : ℕ) (syn : Segment) (now : Moment) → KeepsCongestion (opened_passively room local peer isn syn now)
accepted_kept room local peer isn syn now = record { sound = first_sound room.manner.control 536 false first_size; segment = λ begun. cc }

pub one_segment : (v : View) → KeepsCongestion v → is_idle v.state ≡ false → v.sending.smss ≤ v.congestion.cwnd
one_segment v keeps begun = subst (λ n. n ≤ v.congestion.cwnd) (keeps.segment begun) (holds_segment v.congestion keeps.sound)

-- One segment.

-- an ACK that pays for a loss takes the window to half of what was in flight within it
paid_adds : (c : Window) (flight octets left : ℕ) → IsWindow c → repairs c.control ≡ true → (let x = after_new_ack (after_loss c flight) octets left in x.cwnd) ≤ c.cwnd + most_growth c
paid_adds c flight octets left sound on =
    let half = max ((if repairs c.control then min flight c.cwnd else flight) / 2) (2 * c.smss) in
    let within : (if repairs c.control then min flight c.cwnd else flight) ≡ min flight c.cwnd = ap (λ b. if b then min flight c.cwnd else flight) on in
    let ending : (if repairs c.control then min half (max left c.smss + c.smss) else half) ≡ min half (max left c.smss + c.smss) = ap (λ b. if b then min half (max left c.smss + c.smss) else half) on in
    let grows : most_growth c ≡ 2 * c.smss = ap (λ b. if b then 2 * c.smss else c.smss) on in
    omega (arith, within, ending, grows)

paid_repairs : (b : Before) (w : View) (c : Window) → w.congestion ≡ c → ends_tail b w ≡ true → repairs c.control ≡ true
paid_repairs b w c same pays =
    by (repairs c.control ≡ true) (repairs c.control) (λ on. on)
    (λ off.
    let taken = and_left (selects w) (nat_lt 0 b.tail) (and_left (selects w && nat_lt 0 b.tail) (w.resend.tail == 0)
    (and_left (selects w && nat_lt 0 b.tail && (w.resend.tail == 0)) (not (is_recovering w.congestion)) (and_left (selects w && nat_lt 0 b.tail && (w.resend.tail == 0) && not (is_recovering w.congestion)) (not (came_twice w.sending.una b.blocks)) pays))) in
    clash (selects w) taken (plain_selects_none w (ap (λ (x : Window). repairs x.control) same ∙ off)))

-- no more than it was and grows by, nor than it was before it or before the last loss
abbrev Raised : Window → Window → Type 0
Raised c x = (x.cwnd ≤ c.cwnd + most_growth c) × (x.prior_cwnd ≤ max c.cwnd c.prior_cwnd)

signal_adds : (b : Before) (w : View) (c : Window) → w.congestion ≡ c → IsWindow c → is_opening b.state ≡ false → is_recovering c ≡ false
    → (let x = after_signal c (congestion_event_of b w) w.sending.smss w.resend.syn_resent in is_recovering x ≡ false → Raised c x)
signal_adds b w c same sound opened runs =
    let P : Signal → Type 0 = λ g. (let x = after_signal c g w.sending.smss w.resend.syn_resent in is_recovering x ≡ false → Raised c x) in
    let none : P Nothing = λ ends. (omega arith, omega arith) in
    either Signal P (is_closed w.state) Nothing _ (λ closed. none)
    (λ lives. either Signal P (is_moved b w) _ _
    (λ moved. either Signal P (is_opening b.state) Begins (acknowledged_signal b (told b w) (b.held - length w.sending.held) (reports_more b w)) (λ opens. clash (is_opening b.state) opens opened)
    (λ past_opening. either Signal P (is_partial w) _ _
    (λ goes. clash (is_recovering c) (ap is_recovering (sym same) ∙ and_right (repairs w.congestion.control) (is_recovering w.congestion) (and_left (goes_on w.congestion) (nat_lt 0 w.resend.recover) goes)) runs)
    (λ whole. let n = b.held - length w.sending.held in
    let ack = NewAck n (outstanding w.sending) in
    let acked : Raised c (after_new_ack c n (outstanding w.sending)) = (new_ack_adds c n (outstanding w.sending) sound runs, omega arith) in
    either Signal P (reports_more b w) (Both ack (report_event (behind_ack (told b w) n))) _
    (λ more. either WindowEvent (λ e. P (Both ack e)) (tells_loss (behind_ack (told b w) n)) (Loss (outstanding w.sending)) (Duplicate (outstanding w.sending)) (λ loss ends. cc) (λ early ends. acked))
    (λ alone. either Signal P (ends_tail b w) (Both (Loss b.tail) ack) (Counts ack) (λ pays ends. (paid_adds c b.tail n (outstanding w.sending) sound (paid_repairs b w c same pays), omega arith)) (λ other ends. acked)))))
    (λ unmoved. let twice_adds : P (Counts (Duplicate (outstanding w.sending))) = λ ends. (duplicate_adds c (outstanding w.sending) sound runs ends, duplicate_priors c (outstanding w.sending) ends) in
    either Signal P b.is_duplicate (Counts (Duplicate (outstanding w.sending))) _ (λ twice. twice_adds)
    (λ other. either Signal P (reports_more b w) (report_signal (told b w)) Nothing
    (λ more. either Signal P (third_is_next w.congestion && not (tells_loss (told b w))) Nothing (Counts (report_event (told b w))) (λ waits. none)
    (λ counts. either WindowEvent (λ e. P (Counts e)) (tells_loss (told b w)) (Loss (outstanding w.sending)) (Duplicate (outstanding w.sending)) (λ loss ends. cc) (λ early. twice_adds))) (λ quiet. none))))

raised_with : (v : View) (s : Segment) → KeepsCongestion v → is_opening v.state ≡ false → is_recovering v.congestion ≡ false
    → (let x = congestion_after (before v s) (after_heard v s) in is_recovering x ≡ false → Raised v.congestion x)
raised_with v s keeps opened runs =
    let w = after_heard v s in
    subst (λ c. let x = after_signal c (congestion_event_of (before v s) w) w.sending.smss w.resend.syn_resent in is_recovering x ≡ false → Raised v.congestion x) (sym (segment_leaves v s).congestion)
    (signal_adds (before v s) w v.congestion (segment_leaves v s).congestion keeps.sound opened runs)

pub raised_by_one : (v : View) (s : Segment) (now : Moment) → KeepsCongestion v → is_opening v.state ≡ false → is_recovering v.congestion ≡ false → tells_needless v s ≡ false
    → is_recovering (after_segment_at v s now).congestion ≡ false → (after_segment_at v s now).congestion.cwnd ≤ v.congestion.cwnd + most_growth v.congestion
raised_by_one v s now keeps opened runs needed =
    let P : Window → Type 0 = λ x. is_recovering x ≡ false → x.cwnd ≤ v.congestion.cwnd + most_growth v.congestion in
    let b = before v s in
    let w = after_heard v s in
    by_clock (λ x. P x.congestion) v s now (λ ends. omega arith)
    (λ lives. subst (λ t. P (given_back (gives_back t (resend_left b w now)) (congestion_after b w))) (sym needed) (λ ends. (raised_with v s keeps opened runs ends).0))

pub raised_back : (v : View) (s : Segment) (now : Moment) → KeepsCongestion v → is_opening v.state ≡ false → is_recovering v.congestion ≡ false
    → is_recovering (after_segment_at v s now).congestion ≡ false → (after_segment_at v s now).congestion.cwnd ≤ max (v.congestion.cwnd + most_growth v.congestion) v.congestion.prior_cwnd
raised_back v s now keeps opened runs =
    let c = v.congestion in
    let P : Window → Type 0 = λ x. is_recovering x ≡ false → x.cwnd ≤ max (c.cwnd + most_growth c) c.prior_cwnd in
    let b = before v s in
    let x = congestion_after b (after_heard v s) in
    let given : (back : Bool) → is_recovering x ≡ false → (given_back back x).cwnd ≤ max (c.cwnd + most_growth c) c.prior_cwnd = λ back ends.
    let most = raised_with v s keeps opened runs ends in
    either ℕ (λ n. n ≤ max (c.cwnd + most_growth c) c.prior_cwnd) back (max x.cwnd x.prior_cwnd) x.cwnd (λ gives. omega (arith, most.0, most.1)) (λ keeps_it. omega (arith, most.0)) in
    by_clock (λ w. P w.congestion) v s now (λ ends. omega arith) (λ lives. given (gives_back b.needless (resend_left b (after_heard v s) now)))
