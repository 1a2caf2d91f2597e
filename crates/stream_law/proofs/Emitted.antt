-- What goes out moves SND.NXT at most, and of the rest of both streams it changes nothing.
use Rattle.std.proofs.Common.{◌≡◌, ℕ, ◌+◌, if◌then◌else◌, not, Bool, true, false, nat_lt, nat_le, refl, sym, ◌∙◌, ap₂}
use Rattle.clock.specs.declared.moment.Moment.{Moment}
use Rattle.tcp_state.specs.declared.emission.Due.TheVariants.{Syn, Text, Probe, Ack, KeepAlive}
use Rattle.tcp_state.specs.declared.emission.Stretch.{Stretch}
use Rattle.tcp_state.specs.declared.state.State.{State}
use Rattle.tcp_state.specs.View.{View, is_opening, is_syn_sent, is_syn_received, is_write_finished}
use Rattle.tcp_segment.specs.declared.TheConstants.{MSS}
use Rattle.tcp_halves.specs.Halves.{Sending as SendingHalf, Receiving as ReceivingHalf}
use Rattle.tcp_halves.specs.Stream.{outstanding, after_sent, after_probed, receive_window}
use Rattle.tcp_halves.specs.Windows.{has_grown, after_advertisement, syn_window, after_syn_advertisement}
use Rattle.tcp_state.specs.Resend.{resend_probed}
use Rattle.tcp_state.specs.Timing.{clocked}
use Rattle.tcp_state.specs.Due.{probe_stretch, end_of, brings_new_octets, after_ack_paid, after_syn_ack_paid, after_resent, after_first_sent, after_numbers, after_new_octets, after_new_text, after_stretch, after_probe, after_syn_again, after_syn_out, after_going_out, after_emitted}
use Rattle.stream_law.specs.Channel.{Sender, Receiver, Waiting, Synchronised}
use Rattle.stream_law.specs.ChannelViews.{sender_of, receiver_of, receiving_of}
use Rattle.stream_law.proofs.ConnectionArrival.{either}

-- the sending half became this one, and of the rest of both streams nothing changed
pub record GoesOut (v w : View) (half : SendingHalf) : Type 0 where
  pub state : w.state ≡ v.state
  pub sending : w.sending ≡ half
  pub receiver : receiver_of w.receiving ≡ receiver_of v.receiving
  pub readable : w.receiving.readable ≡ v.receiving.readable

-- the window that is advertised is no part of a channel
abbrev IsSame : ReceivingHalf → ReceivingHalf → Type 0
IsSame r told = (receiver_of told ≡ receiver_of r) × (told.readable ≡ r.readable)

same_receiver : (r : ReceivingHalf) (tells : Bool) (edge : ℕ) → IsSame r (if tells then record r { edge = edge } else r)
same_receiver r true edge = (refl, refl)
same_receiver r false edge = (refl, refl)

told : (v w : View) (half : SendingHalf) (r : ReceivingHalf) (spoke : Bool) → IsSame w.receiving r → GoesOut v w half → GoesOut v (record w { receiving = r; owes_ack = false; delays_ack = false; spoke = spoke }) half
told v w half r spoke same g = record { state = g.state; sending = g.sending; receiver = same.0 ∙ g.receiver; readable = same.1 ∙ g.readable }

paid : (v w : View) (half : SendingHalf) (spoke : Bool) → GoesOut v w half → GoesOut v (record (after_ack_paid w) { spoke = spoke }) half
paid v w half spoke g = told v w half (after_advertisement w.receiving) spoke (same_receiver w.receiving (has_grown w.receiving) _) g

paid_by_syn : (v w : View) (half : SendingHalf) → GoesOut v w half → GoesOut v (after_syn_ack_paid w) half
paid_by_syn v w half g = let r = w.receiving in told v w half (after_syn_advertisement r) w.spoke (same_receiver r (nat_le (receive_window r + MSS) (syn_window r)) _) g

-- .. nor is the clock
timed : (v w : View) (half : SendingHalf) (now : Moment) → GoesOut v w half → GoesOut v (clocked false w now) half
timed v w half now g = record { state = g.state; sending = g.sending; receiver = g.receiver; readable = g.readable }

numbered : (v : View) (offset end : ℕ) (now : Moment) → GoesOut v (after_numbers v offset end now) (after_sent v.sending end)
numbered v offset end now =
    either (λ w. GoesOut v w (after_sent v.sending end)) (nat_lt offset (outstanding v.sending)) (after_resent v end) (after_first_sent v end now)
    (λ again. record { state = refl; sending = refl; receiver = refl; readable = refl })
    (λ first. record { state = refl; sending = refl; receiver = refl; readable = refl })

renewed : (v w : View) (half : SendingHalf) (new : Bool) → GoesOut v w half → GoesOut v (if new then after_new_octets w else w) half
renewed v w half true g = record { state = g.state; sending = g.sending; receiver = g.receiver; readable = g.readable }
renewed v w half false g = g

renewed_by : (v w : View) (stretch : Stretch) (half : SendingHalf) (new : Bool) → GoesOut v w half → GoesOut v (if new then after_new_text w stretch else w) half
renewed_by v w stretch half true g = record { state = g.state; sending = g.sending; receiver = g.receiver; readable = g.readable }
renewed_by v w stretch half false g = g

-- whether it is for the first time or not
syn_numbered : (v : View) (now : Moment) → GoesOut v (after_syn_out v now) (after_sent v.sending 1)
syn_numbered v now =
    let half = after_sent v.sending 1 in
    let sent = after_numbers v 0 1 now in
    let g = numbered v 0 1 now in
    either (λ w. GoesOut v w half) (nat_lt 0 (outstanding v.sending)) (after_syn_again sent) sent
    (λ again. record { state = g.state; sending = g.sending; receiver = g.receiver; readable = g.readable })
    (λ first. g)

pub syn-out : (v : View) (now : Moment) → GoesOut v (after_emitted v Syn now) (after_sent v.sending 1)
syn-out v now =
    let half = after_sent v.sending 1 in
    timed v (after_going_out v Syn now) half now
    (either (λ w. GoesOut v w half) (is_syn_received v.state) (after_syn_ack_paid (after_syn_out v now)) (after_syn_out v now)
    (λ reply. paid_by_syn v (after_syn_out v now) half (syn_numbered v now))
    (λ alone. syn_numbered v now))

pub stretch-out : (v : View) (stretch : Stretch) (now : Moment) → GoesOut v (after_emitted v (Text stretch) now) (after_sent v.sending (end_of stretch))
stretch-out v stretch now =
    let half = after_sent v.sending (end_of stretch) in
    let sent = after_numbers v stretch.offset (end_of stretch) now in
    timed v (after_going_out v (Text stretch) now) half now
    (paid v (after_stretch v stretch now) half true (renewed_by v sent stretch half (brings_new_octets v stretch) (numbered v stretch.offset (end_of stretch) now)))

pub probe-out : (v : View) (now : Moment) → GoesOut v (after_emitted v Probe now) (after_probed v.sending (end_of (probe_stretch v)))
probe-out v now =
    let half = after_probed v.sending (end_of (probe_stretch v)) in
    let sent : View = record v { sending = half; resend = resend_probed v.resend } in
    timed v (after_going_out v Probe now) half now
    (paid v (after_probe v) half true (renewed v sent half (brings_new_octets v (probe_stretch v)) (record { state = refl; sending = refl; receiver = refl; readable = refl })))

pub ack-out : (v : View) (now : Moment) → GoesOut v (after_emitted v Ack now) v.sending
ack-out v now = timed v (after_going_out v Ack now) v.sending now (paid v v v.sending true (record { state = refl; sending = refl; receiver = refl; readable = refl }))

pub asks-out : (v : View) (now : Moment) → GoesOut v (after_emitted v KeepAlive now) v.sending
asks-out v now =
    let same = same_receiver v.receiving (has_grown v.receiving) _ in
    timed v (after_going_out v KeepAlive now) v.sending now (record { state = refl; sending = refl; receiver = same.0; readable = same.1 })

-- what the channels see of it
pub sender-out : (v w : View) (half : SendingHalf) → GoesOut v w half
    → record { held = half.held; una = half.una; nxt = half.nxt; syn_acked = not (is_opening v.state); fin_acked = is_write_finished v.state } ≡ sender_of w
sender-out v w half g = ap₂ as_sender (sym g.state) (sym g.sending)
  where
    as_sender : State → SendingHalf → Sender
    as_sender t s = record { held = s.held; una = s.una; nxt = s.nxt; syn_acked = not (is_opening t); fin_acked = is_write_finished t }

pub receiving-out : (v w : View) (half : SendingHalf) → GoesOut v w half → receiving_of w ≡ receiving_of v
receiving-out v w half g = ap₂ (λ (t : State) (r : Receiver). if is_syn_sent t then Waiting else Synchronised r) g.state g.receiver
