-- Why new octets and the FIN go out within the peer's window, and new octets within the congestion window.
use Rattle.std.proofs.Common.{◌≡◌, ℕ, ◌+◌, ◌<◌, ◌≤◌, ◌==◌, ◌&&◌, nat_lt, if◌then◌else◌, length, Some, arith, refl, subst}
use Rattle.std.proofs.lemmas.Bool.{ltb-true}
use Rattle.tcp_state.specs.Selective.{allowance}
use Rattle.tcp_state.specs.declared.emission.Due.TheVariants.{Text}
use Rattle.tcp_state.specs.declared.emission.Stretch.{Stretch}
use Rattle.tcp_halves.specs.Stream.{outstanding}
use Rattle.tcp_halves.specs.Windows.{open_window, sendable, is_worth_sending}
use Rattle.tcp_state.specs.New.{waits_no_longer, takes_fin}
use Rattle.tcp_state.specs.View.{View, IsSound, awaits_fin_ack}
use Rattle.tcp_state.specs.Due.{first_due, end_of, again, new_octets, fin_alone}
use Rattle.tcp_halves.proofs.Choices.{either, and_left, and_right}
use Rattle.tcp_state.proofs.Places.{goes_within}
use Rattle.tcp_state.proofs.Emissions.{by_due}

-- the FIN goes with octets only where both windows take its number
fin_within : (v : View) (end : ℕ) → end ≤ open_window v.sending (allowance v) → end + (if takes_fin v end then 1 else 0) ≤ open_window v.sending (allowance v)
fin_within v end few =
    either ℕ (λ n. end + n ≤ open_window v.sending (allowance v)) (takes_fin v end) 1 0
    (λ goes. let below = ltb-true end (open_window v.sending (allowance v)) (and_right (v.minshall && awaits_fin_ack v.state && (end == length v.sending.held)) _ goes) in omega (arith, below))
    (λ alone. omega (arith, few))

-- a stretch with nothing that went out before begins at SND.NXT, and ends in the window
abbrev KeepsWindow : View → Stretch → Type 0
KeepsWindow v stretch = outstanding v.sending ≤ stretch.offset → (stretch.offset ≡ outstanding v.sending) × (end_of stretch ≤ v.sending.window)

pub keeps_window : (v : View) (stretch : Stretch) → IsSound v → first_due v ≡ Some (Text stretch) → outstanding v.sending ≤ stretch.offset
    → (stretch.offset ≡ outstanding v.sending) × (end_of stretch ≤ v.sending.window)
keeps_window v stretch sound first = by_due (λ o. (t : Stretch) → o ≡ Some (Text t) → KeepsWindow v t) v (record {
  nothing = λ quiet heard t e. cc;
  rst = λ owes t e. cc;
  syn = λ opening goes t e. cc;
  once_more = λ opened place is goes t e. let same : again v place ≡ t = cc in subst (KeepsWindow v) same (λ past. let within = goes_within v place goes in absurd (omega (arith, past, within)));
  octets = λ opened sends t e.
      let same : new_octets v ≡ t = cc in
      let some = ltb-true 0 (sendable v.sending (allowance v)) (and_left (nat_lt 0 (sendable v.sending (allowance v))) (is_worth_sending v.sending (allowance v) (waits_no_longer v)) sends) in
      subst (KeepsWindow v) same (λ past. (refl, let within = fin_within v (outstanding v.sending + (new_octets v).count) (omega (arith, some)) in omega (arith, within)));
  fin = λ opened sends t e.
      let same : fin_alone v ≡ t = cc in
      let room = ltb-true (outstanding v.sending) v.sending.window (and_right (awaits_fin_ack v.state && (outstanding v.sending == length v.sending.held)) _ sends) in
      subst (KeepsWindow v) same (λ past. (refl, omega (arith, room)));
  probe = λ opened owes goes t e. cc;
  ack = λ owes t e. cc;
  asks = λ quiet owes t e. cc;
}) stretch first

-- .. and in the congestion window, if it brings octets
abbrev KeepsCwnd : View → Stretch → Type 0
KeepsCwnd v stretch = outstanding v.sending ≤ stretch.offset → 0 < stretch.count → end_of stretch ≤ (allowance v)

pub keeps_cwnd : (v : View) (stretch : Stretch) → IsSound v → first_due v ≡ Some (Text stretch) → outstanding v.sending ≤ stretch.offset → 0 < stretch.count → end_of stretch ≤ (allowance v)
keeps_cwnd v stretch sound first = by_due (λ o. (t : Stretch) → o ≡ Some (Text t) → KeepsCwnd v t) v (record {
  nothing = λ quiet heard t e. cc;
  rst = λ owes t e. cc;
  syn = λ opening goes t e. cc;
  once_more = λ opened place is goes t e. let same : again v place ≡ t = cc in subst (KeepsCwnd v) same (λ past some. let within = goes_within v place goes in absurd (omega (arith, past, within)));
  octets = λ opened sends t e.
      let same : new_octets v ≡ t = cc in
      let some = ltb-true 0 (sendable v.sending (allowance v)) (and_left (nat_lt 0 (sendable v.sending (allowance v))) (is_worth_sending v.sending (allowance v) (waits_no_longer v)) sends) in
      subst (KeepsCwnd v) same (λ past more. let within = fin_within v (outstanding v.sending + (new_octets v).count) (omega (arith, some)) in omega (arith, within));
  fin = λ opened sends t e. let same : fin_alone v ≡ t = cc in subst (KeepsCwnd v) same (λ past more. absurd (omega (arith, more)));
  probe = λ opened owes goes t e. cc;
  ack = λ owes t e. cc;
  asks = λ quiet owes t e. cc;
}) stretch first
