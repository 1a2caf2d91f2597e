-- What events leave of the retransmission state and of the timers, before the clock is set.
use Rattle.std.proofs.Common.{◌≡◌, ℕ, ◌==◌, ◌||◌, ◌&&◌, ◌⊎◌, not, nat_lt, if◌then◌else◌, Bool, true, false, length, None, inl, inr, refl, sym, ◌∙◌, ap, subst}
use Rattle.tcp_segment.specs.Segment.{Segment}
use Rattle.clock.specs.declared.moment.Moment.{Moment}
use Rattle.retransmit.specs.declared.timers.Timers.{Timers}
use Rattle.retransmit.specs.Deadlines.{no_timers}
use Rattle.tcp_state.specs.declared.emission.Due.{Due}
use Rattle.tcp_state.specs.declared.emission.Due.TheVariants.{Rst, Syn, Text, Probe, Ack, KeepAlive}
use Rattle.tcp_state.specs.declared.emission.Stretch.{Stretch}
use Rattle.tcp_halves.specs.Halves.{Receiving}
use Rattle.tcp_halves.specs.Stream.{outstanding, after_probed}
use Rattle.tcp_halves.specs.Windows.{after_advertisement, after_syn_advertisement}
use Rattle.tcp_state.specs.Resend.{Resend, stopped, timing_of, resend_probed}
use Rattle.tcp_state.specs.View.{View, is_closed, is_syn_received}
use Rattle.tcp_state.specs.Arrival.{is_receiving, beyond_fin, fin_acknowledged, after_new_ack, after_ack, after_window, after_text, after_heard}
use Rattle.tcp_state.specs.Due.{probe_stretch, end_of, after_syn_ack_paid, after_resent, after_first_sent, after_numbers, after_new_octets, after_new_text, brings_new_octets, after_stretch, after_probe, after_syn_out, after_going_out}
use Rattle.tcp_state.proofs.Clocked.{syn_out}
use Rattle.tcp_halves.proofs.Choices.{either, clash, and_left, and_right}
use Rattle.tcp_state.proofs.Segments.{by_fin, by_ack, by_hearing}
use Rattle.tcp_state.proofs.Gains.{receiving_lives}

-- Segments.

-- the retransmission state stays but for the mark and the ends of the last small segment and of a recovery, and the timers run on ..
record Stays (v w : View) : Type 0 where
  pub resend : w.resend ≡ record v.resend { mark = w.resend.mark; small = w.resend.small; recover = w.resend.recover; tail = w.resend.tail; reach = w.resend.reach; since_loss = w.resend.since_loss; reported = w.resend.reported }
  pub timers : w.timers ≡ v.timers

-- .. or all stops, where it closes
record Stops (v w : View) : Type 0 where
  pub resend : w.resend ≡ stopped v.resend
  pub timers : w.timers ≡ no_timers
  pub closed : is_closed w.state ≡ true

abbrev Leaves : View → View → Type 0
Leaves v w = Stays v w ⊎ Stops v w

fin_leaves : (v : View) (ack : ℕ) → Leaves v (fin_acknowledged (after_new_ack v ack))
fin_leaves v ack = chosen (is_closed (beyond_fin v.state)) refl
  where
    chosen : (closed : Bool) → is_closed (beyond_fin v.state) ≡ closed → Leaves v (record (after_new_ack v ack) {
      state = beyond_fin v.state;
      owes_ack = v.owes_ack && not closed;
      delays_ack = v.delays_ack && not closed;
      resend = let p = after_new_ack v ack in if closed then stopped p.resend else p.resend;
      timers = if closed then no_timers else v.timers;
    })
    chosen true closed = inr (record { resend = refl; timers = refl; closed = closed })
    chosen false lives = inl (record { resend = refl; timers = refl })

ack_leaves : (v : View) (ack : ℕ) → Leaves v (after_ack v ack)
ack_leaves v ack = by_ack (Leaves v) v ack (record {
  old = inl (record { resend = refl; timers = refl });
  beyond = inl (record { resend = refl; timers = refl });
  opens = λ received new. inl (record { resend = refl; timers = refl });
  octets = λ new. inl (record { resend = refl; timers = refl });
  fin = λ new fin. fin_leaves v ack;
})

-- nothing else of a segment is of the retransmission state or the timers
on : (v w x : View) → x.resend ≡ w.resend → x.timers ≡ w.timers → (is_closed w.state ≡ true → is_closed x.state ≡ true) → Leaves v w → Leaves v x
on v w x resend timers closes leaves = elim leaves [
  | inl k ↦ inl (record { resend = subst (λ (p : Resend). p ≡ record v.resend { mark = p.mark; small = p.small; recover = p.recover; tail = p.tail; reach = p.reach; since_loss = p.since_loss; reported = p.reported }) (sym resend) k.resend; timers = timers ∙ k.timers })
  | inr k ↦ inr (record { resend = resend ∙ k.resend; timers = timers ∙ k.timers; closed = closes k.closed })
]

segment_leaves : (v : View) (s : Segment) → Leaves v (after_heard v s)
segment_leaves v s =
    let acked = after_ack v s.acknowledgement in
    let told = after_window acked s in
    let read = after_text told s in
    let k = ack_leaves v s.acknowledgement in
    let window : Leaves v told = on v acked told refl refl (λ closed. closed) k in
    let text : Leaves v read = either View (Leaves v) ((length s.octets == 0) || not (is_receiving told.state)) told _ (λ none. window) (λ some. on v told _ refl refl (λ closed. closed) window) in
    by_hearing (Leaves v) v s (inr (record { resend = elim k [ inl stays ↦ ap stopped stays.resend | inr stops ↦ ap stopped stops.resend ]; timers = refl; closed = refl })) (record {
      dropped = inl (record { resend = refl; timers = refl });
      drawn = inl (record { resend = refl; timers = refl });
      reset = λ acts. inr (record { resend = refl; timers = refl; closed = refl });
      crossed = λ waits. inl (record { resend = refl; timers = refl });
      opened = λ waits right. inl (record { resend = refl; timers = refl });
      acknowledged = λ taken. k;
      read = λ is_read. by_fin (Leaves v) read s
          (λ counts. on v read _ refl refl (λ closed. clash (is_closed read.state) closed (receiving_lives read.state (and_right s.flags.fin (is_receiving read.state) (and_left (s.flags.fin && is_receiving read.state) _ counts))).0) text)
          (on v read _ refl refl (λ closed. closed) text) text;
    })

-- what a segment leaves, one by one
pub record Hears (v w : View) : Type 0 where
  pub timeout : w.resend.timeout ≡ v.resend.timeout
  pub timed : (w.resend.timed ≡ v.resend.timed) ⊎ (w.resend.timed ≡ None)
  pub timers : (w.timers ≡ v.timers) ⊎ ((w.timers ≡ no_timers) × (is_closed w.state ≡ true))
  pub expiries : w.resend.expiries ≡ v.resend.expiries
  pub interval : (w.resend.interval ≡ v.resend.interval) ⊎ (is_closed w.state ≡ true)
  pub overridden : (w.resend.overridden ≡ v.resend.overridden) ⊎ (w.resend.overridden ≡ false)

pub segment_hears : (v : View) (s : Segment) → Hears v (after_heard v s)
segment_hears v s = elim (segment_leaves v s) [
  | inl k ↦ record {
    timeout = ap (λ (p : Resend). p.timeout) k.resend;
    timed = inl (ap (λ (p : Resend). p.timed) k.resend);
    timers = inl k.timers;
    expiries = ap (λ (p : Resend). p.expiries) k.resend;
    interval = inl (ap (λ (p : Resend). p.interval) k.resend);
    overridden = inl (ap (λ (p : Resend). p.overridden) k.resend);
  }
  | inr k ↦ record {
    timeout = ap (λ (p : Resend). p.timeout) k.resend;
    timed = inr (ap (λ (p : Resend). p.timed) k.resend);
    timers = inr (k.timers, k.closed);
    expiries = ap (λ (p : Resend). p.expiries) k.resend;
    interval = inr k.closed;
    overridden = inr (ap (λ (p : Resend). p.overridden) k.resend);
  }
]

-- Emissions.

-- the timeout stays; what is measured stays, or is given up, or begins to be where nothing was; and the timer of octets that wait for more may stop
pub record GoesOut (v : View) (now : Moment) (w : View) : Type 0 where
  pub timeout : w.resend.timeout ≡ v.resend.timeout
  pub timed : (w.resend.timed ≡ v.resend.timed) ⊎ ((w.resend.timed ≡ None) ⊎ (w.resend.timed ≡ timing_of v.resend.timed w.sending.nxt now))
  pub overriding : (w.timers.overriding ≡ v.timers.overriding) ⊎ (w.timers.overriding ≡ None)
  pub others : w.timers ≡ record v.timers { overriding = w.timers.overriding }
  pub expiries : w.resend.expiries ≡ v.resend.expiries
  pub interval : w.resend.interval ≡ v.resend.interval
  pub overridden : (w.resend.overridden ≡ v.resend.overridden) ⊎ (w.resend.overridden ≡ false)

numbers_out : (v : View) (offset end : ℕ) (now : Moment) → GoesOut v now (after_numbers v offset end now)
numbers_out v offset end now =
    either View (GoesOut v now) (nat_lt offset (outstanding v.sending)) (after_resent v end) (after_first_sent v end now)
    (λ again. record { timeout = refl; timed = inr (inl refl); overriding = inl refl; others = refl; expiries = refl; interval = refl; overridden = inl refl })
    (λ first. record { timeout = refl; timed = inr (inr refl); overriding = inl refl; others = refl; expiries = refl; interval = refl; overridden = inl refl })

-- octets that are new end their wait
new_out : (v w : View) (now : Moment) → GoesOut v now w → GoesOut v now (after_new_octets w)
new_out v w now k = record { timeout = k.timeout; timed = k.timed; overriding = inr refl; others = ap (λ (t : Timers). record t { overriding = None }) k.others; expiries = k.expiries; interval = k.interval; overridden = inr refl }

text_out : (v w : View) (stretch : Stretch) (now : Moment) → GoesOut v now w → GoesOut v now (after_new_text w stretch)
text_out v w stretch now k = record { timeout = k.timeout; timed = k.timed; overriding = inr refl; others = ap (λ (t : Timers). record t { overriding = None }) k.others; expiries = k.expiries; interval = k.interval; overridden = inr refl }

-- an acknowledgement goes out with them
paid_out : (v w : View) (now : Moment) (told : Receiving) (spoke : Bool) → GoesOut v now w → GoesOut v now (record w { receiving = told; owes_ack = false; delays_ack = false; spoke = spoke })
paid_out v w now told spoke k = record { timeout = k.timeout; timed = k.timed; overriding = k.overriding; others = k.others; expiries = k.expiries; interval = k.interval; overridden = k.overridden }

stretch_out : (v : View) (stretch : Stretch) (now : Moment) → GoesOut v now (after_stretch v stretch now)
stretch_out v stretch now =
    let sent = after_numbers v stretch.offset (end_of stretch) now in
    let k = numbers_out v stretch.offset (end_of stretch) now in
    either View (GoesOut v now) (brings_new_octets v stretch) (after_new_text sent stretch) sent (λ new. text_out v sent stretch now k) (λ old. k)

probe_out : (v : View) (now : Moment) → GoesOut v now (after_probe v)
probe_out v now =
    let sent = record v { sending = after_probed v.sending (end_of (probe_stretch v)); resend = resend_probed v.resend } in
    let k : GoesOut v now sent = record { timeout = refl; timed = inr (inl refl); overriding = inl refl; others = refl; expiries = refl; interval = refl; overridden = inl refl } in
    either View (GoesOut v now) (brings_new_octets v (probe_stretch v)) (after_new_octets sent) sent (λ new. new_out v sent now k) (λ old. k)

pub goes_out : (v : View) (due : Due) (now : Moment) → GoesOut v now (after_going_out v due now)
goes_out v Rst now = record { timeout = refl; timed = inl refl; overriding = inl refl; others = refl; expiries = refl; interval = refl; overridden = inl refl }
goes_out v Syn now =
    let sent = after_syn_out v now in
    let n = numbers_out v 0 1 now in
    let k = syn_out v now (GoesOut v now) n (record { timeout = n.timeout; timed = n.timed; overriding = n.overriding; others = n.others; expiries = n.expiries; interval = n.interval; overridden = n.overridden }) in
    either View (GoesOut v now) (is_syn_received v.state) (after_syn_ack_paid sent) sent (λ received. paid_out v sent now (after_syn_advertisement sent.receiving) sent.spoke k) (λ first. k)
goes_out v (Text stretch) now = paid_out v (after_stretch v stretch now) now (after_advertisement (after_stretch v stretch now).receiving) true (stretch_out v stretch now)
goes_out v Probe now = paid_out v (after_probe v) now (after_advertisement (after_probe v).receiving) true (probe_out v now)
goes_out v Ack now = record { timeout = refl; timed = inl refl; overriding = inl refl; others = refl; expiries = refl; interval = refl; overridden = inl refl }
goes_out v KeepAlive now = record { timeout = refl; timed = inl refl; overriding = inl refl; others = refl; expiries = refl; interval = refl; overridden = inl refl }
