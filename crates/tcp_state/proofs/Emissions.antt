-- What is due first, case by case, and what its going out makes of the two halves.
use Rattle.std.proofs.Common.{◌≡◌, ℕ, ◌==◌, ◌||◌, ◌&&◌, nat_lt, true, false, Option, Some, None, is_some, refl}
use Rattle.std.specs.Option.{option_or}
use Rattle.clock.specs.declared.moment.Moment.{Moment}
use Rattle.tcp_state.specs.declared.emission.Due.{Due}
use Rattle.tcp_state.specs.declared.emission.Due.TheVariants.{Rst, Syn, Text, Probe, Ack, KeepAlive}
use Rattle.tcp_state.specs.declared.emission.Stretch.{Stretch}
use Rattle.tcp_halves.specs.Stream.{outstanding, after_sent, after_probed}
use Rattle.tcp_state.specs.Resend.{resend_probed}
use Rattle.tcp_state.specs.View.{View, is_opening}
use Rattle.tcp_state.specs.Timing.{probes}
use Rattle.tcp_state.specs.Alive.{is_alive_due}
use Rattle.tcp_state.specs.New.{sends_new, sends_fin}
pub use Rattle.tcp_state.specs.Due.{is_ack_due}
use Rattle.tcp_state.specs.Due.{probe_stretch, end_of, after_resent, after_first_sent, after_numbers, after_new_octets, after_new_text, brings_new_octets, after_syn_out, after_stretch, after_probe, ack_due, again, again_at, goes_again, again_from, new_octets, fin_alone, new_due, first_due}
use Rattle.tcp_state.proofs.Clocked.{syn_out}
use Rattle.stream_buf.proofs.Reports.{gap_from}
use Rattle.tcp_state.proofs.Places.{IsMarked}
use Rattle.tcp_halves.proofs.Choices.{either, and_left, and_right}

-- what may be due first
pub record ByDue (P : Option Due → Type 0) (v : View) : Type 0 where
  pub nothing : is_ack_due v ≡ false → is_alive_due v ≡ false → P None
  pub rst : v.owes_reset ≡ true → P (Some Rst)
  pub syn : is_opening v.state ≡ true → ((outstanding v.sending == 0) || is_some v.resend.mark) ≡ true → P (Some Syn)
  pub once_more : is_opening v.state ≡ false → (place : ℕ) → IsMarked v place → goes_again v place ≡ true → P (Some (Text (again v place)))
  pub octets : is_opening v.state ≡ false → sends_new v ≡ true → P (Some (Text (new_octets v)))
  pub fin : is_opening v.state ≡ false → sends_fin v ≡ true → P (Some (Text (fin_alone v)))
  pub probe : is_opening v.state ≡ false → v.resend.owes_probe ≡ true → probes v ≡ true → P (Some Probe)
  pub ack : is_ack_due v ≡ true → P (Some Ack)
  pub asks : is_ack_due v ≡ false → is_alive_due v ≡ true → P (Some KeepAlive)

by_ack_due : (P : Option Due → Type 0) (v : View) → ByDue P v → P (ack_due v)
by_ack_due P v cases =
    either (Option Due) P (is_ack_due v) (Some Ack) _ cases.ack
    (λ quiet. either (Option Due) P (is_alive_due v) (Some KeepAlive) None (cases.asks quiet) (cases.nothing quiet))

by_new_due : (P : Option Due → Type 0) (v : View) → ByDue P v → is_opening v.state ≡ false → P (new_due v)
by_new_due P v cases opened =
    either (Option Due) P (sends_new v) (Some (Text (new_octets v))) _ (cases.octets opened)
    (λ no_octets. either (Option Due) P (sends_fin v) (Some (Text (fin_alone v))) _ (cases.fin opened)
    (λ no_fin. either (Option Due) P (v.resend.owes_probe && probes v) (Some Probe) (ack_due v) (λ owes. cases.probe opened (and_left v.resend.owes_probe (probes v) owes) (and_right v.resend.owes_probe (probes v) owes)) (λ none. by_ack_due P v cases)))

by_mark : (P : Option Due → Type 0) (v : View) → ByDue P v → is_opening v.state ≡ false → (mark : Option ℕ) → v.resend.mark ≡ mark → P (option_or (again_from v mark) (new_due v))
by_mark P v cases opened None is = by_new_due P v cases opened
by_mark P v cases opened (Some mark) is =
    let place = again_at v mark in
    either (Option Due) (λ o. P (option_or o (new_due v))) (goes_again v place) (Some (Text (again v place))) None (cases.once_more opened place (record { mark = mark; is = is; at = refl; from = gap_from v.resend.reported mark })) (λ waits. by_new_due P v cases opened)

pub by_due : (P : Option Due → Type 0) (v : View) → ByDue P v → P (first_due v)
by_due P v cases =
    either (Option Due) P v.owes_reset (Some Rst) _ cases.rst
    (λ no_reset. either (Option Due) P (is_opening v.state) _ _
    (λ opening. either (Option Due) P ((outstanding v.sending == 0) || is_some v.resend.mark) (Some Syn) (ack_due v) (cases.syn opening) (λ waits. by_ack_due P v cases))
    (λ opened. by_mark P v cases opened v.resend.mark refl))

-- The sending half: SND.NXT reaches the end of what went out.

pub numbers_send : (v : View) (offset end : ℕ) (now : Moment) → (after_numbers v offset end now).sending ≡ after_sent v.sending end
numbers_send v offset end now =
    either View (λ w. w.sending ≡ after_sent v.sending end) (nat_lt offset (outstanding v.sending)) (after_resent v end) (after_first_sent v end now) (λ again. refl) (λ first. refl)

pub syn_sends : (v : View) (now : Moment) → (after_syn_out v now).sending ≡ after_sent v.sending 1
syn_sends v now = let all = numbers_send v 0 1 now in syn_out v now (λ w. w.sending ≡ after_sent v.sending 1) all all

pub stretch_sends : (v : View) (stretch : Stretch) (now : Moment) → (after_stretch v stretch now).sending ≡ after_sent v.sending (end_of stretch)
stretch_sends v stretch now =
    let sent = after_numbers v stretch.offset (end_of stretch) now in
    let all = numbers_send v stretch.offset (end_of stretch) now in
    either View (λ w. w.sending ≡ after_sent v.sending (end_of stretch)) (brings_new_octets v stretch) (after_new_text sent stretch) sent (λ new. all) (λ old. all)

pub probe_sends : (v : View) → (after_probe v).sending ≡ after_probed v.sending (end_of (probe_stretch v))
probe_sends v =
    let sent = record v { sending = after_probed v.sending (end_of (probe_stretch v)); resend = resend_probed v.resend } in
    either View (λ w. w.sending ≡ after_probed v.sending (end_of (probe_stretch v))) (brings_new_octets v (probe_stretch v)) (after_new_octets sent) sent (λ new. refl) (λ old. refl)

-- The receiving half: it is as it was before the acknowledgement.

pub numbers_receive : (v : View) (offset end : ℕ) (now : Moment) → (after_numbers v offset end now).receiving ≡ v.receiving
numbers_receive v offset end now =
    either View (λ w. w.receiving ≡ v.receiving) (nat_lt offset (outstanding v.sending)) (after_resent v end) (after_first_sent v end now) (λ again. refl) (λ first. refl)

pub stretch_receives : (v : View) (stretch : Stretch) (now : Moment) → (after_stretch v stretch now).receiving ≡ v.receiving
stretch_receives v stretch now =
    let sent = after_numbers v stretch.offset (end_of stretch) now in
    let all = numbers_receive v stretch.offset (end_of stretch) now in
    either View (λ w. w.receiving ≡ v.receiving) (brings_new_octets v stretch) (after_new_text sent stretch) sent (λ new. all) (λ old. all)

pub probe_receives : (v : View) → (after_probe v).receiving ≡ v.receiving
probe_receives v =
    let sent = record v { sending = after_probed v.sending (end_of (probe_stretch v)); resend = resend_probed v.resend } in
    either View (λ w. w.receiving ≡ v.receiving) (brings_new_octets v (probe_stretch v)) (after_new_octets sent) sent (λ new. refl) (λ old. refl)
