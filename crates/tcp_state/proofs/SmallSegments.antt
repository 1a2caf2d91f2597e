-- Why a segment of new octets that isn't full goes out only where nothing is outstanding, or no small segment, or the override ran out.
use Rattle.std.proofs.Common.{◌≡◌, ◌+◌, ◌*◌, ◌<◌, ◌≤◌, ◌==◌, ◌&&◌, ◌||◌, ◌⊎◌, nat_le, nat_lt, true, false, length, Some, inl, inr, arith, ◌∙◌, ap, subst}
use Rattle.std.proofs.lemmas.Bool.{leb-true, ltb-true, eqb-true}
use Rattle.std.proofs.lemmas.Bool.Decides.{leb_tells}
use Rattle.tcp_state.specs.Selective.{allowance}
use Rattle.tcp_state.specs.declared.emission.Due.TheVariants.{Text}
use Rattle.tcp_state.specs.declared.emission.Stretch.{Stretch}
use Rattle.tcp_halves.specs.Stream.{outstanding}
use Rattle.tcp_halves.specs.Windows.{unsent, usable, sendable, next_count, takes_all, takes_enough, is_worth_sending}
use Rattle.tcp_state.specs.View.{View, IsSound, awaits_fin_ack}
use Rattle.tcp_state.specs.New.{takes_last, passes_full, sends_new, waits_no_longer}
use Rattle.tcp_state.specs.Due.{first_due, again, new_octets, fin_alone}
use Rattle.tcp_halves.proofs.Choices.{clash, and_left, and_right, or_else}
use Rattle.tcp_state.proofs.Places.{goes_within}
use Rattle.tcp_state.proofs.Emissions.{by_due}

-- what holds of each stretch of new octets that goes out holds of any that is due
by_new : (P : Stretch → Type 0) (v : View) → IsSound v → (sends_new v ≡ true → P (new_octets v)) → (stretch : Stretch) → first_due v ≡ Some (Text stretch) → outstanding v.sending ≤ stretch.offset → 0 < stretch.count → P stretch
by_new P v sound new stretch first = by_due (λ o. (t : Stretch) → o ≡ Some (Text t) → outstanding v.sending ≤ t.offset → 0 < t.count → P t) v (record {
  nothing = λ quiet heard t e. cc;
  rst = λ owes t e. cc;
  syn = λ opening goes t e. cc;
  once_more = λ opened place is goes t e. let same : again v place ≡ t = cc in subst (λ (u : Stretch). outstanding v.sending ≤ u.offset → 0 < u.count → P u) same (λ past. let within = goes_within v place goes in absurd (omega (arith, past, within)));
  octets = λ opened sends t e. let same : new_octets v ≡ t = cc in subst (λ (u : Stretch). outstanding v.sending ≤ u.offset → 0 < u.count → P u) same (λ past some. new sends);
  fin = λ opened sends t e. let same : fin_alone v ≡ t = cc in subst (λ (u : Stretch). outstanding v.sending ≤ u.offset → 0 < u.count → P u) same (λ past some. absurd (omega (arith, some)));
  probe = λ opened owes goes t e. cc;
  ack = λ owes t e. cc;
  asks = λ quiet owes t e. cc;
}) stretch first

-- all that is held, or half of the largest window
enough : (v : View) → takes_enough v.sending (allowance v) ≡ true → next_count v.sending (allowance v) < v.sending.smss → outstanding v.sending ≤ length v.sending.held
    → (outstanding v.sending + next_count v.sending (allowance v) ≡ length v.sending.held) ⊎ (v.sending.max_window ≤ 2 * next_count v.sending (allowance v))
enough v much small within =
    let n = sendable v.sending (allowance v) in
    let d = unsent v.sending in
    let u = usable v.sending (allowance v) in
    elim (or_else (takes_all v.sending (allowance v)) (nat_le v.sending.max_window (2 * n)) much) [
      | inl all ↦ let fits = leb-true d u all in inl (omega (arith, fits, small, within))
      | inr half ↦ let most = leb-true v.sending.max_window (2 * n) half in inr (omega (arith, most, small))
    ]

-- Why it is worth its way: nothing is outstanding, or it waits no longer.
worth : (v : View) → sends_new v ≡ true → next_count v.sending (allowance v) < v.sending.smss
    → ((outstanding v.sending ≡ 0) × (takes_enough v.sending (allowance v) ≡ true)) ⊎ (waits_no_longer v ≡ true)
worth v sends small =
    let n = sendable v.sending (allowance v) in
    let full = nat_le v.sending.smss n in
    let none = outstanding v.sending == 0 in
    let much = takes_enough v.sending (allowance v) in
    let short : full ≡ false = elim (leb_tells v.sending.smss n) [ inl t ↦ absurd (omega (arith, t.1, small)) | inr t ↦ t.0 ] in
    elim (or_else (full || (none && much)) (waits_no_longer v) (and_right (nat_lt 0 n) (is_worth_sending v.sending (allowance v) (waits_no_longer v)) sends)) [
      | inl goes ↦ elim (or_else full (none && much) goes) [
        | inl whole ↦ clash full whole short
        | inr idle ↦ inl (eqb-true (outstanding v.sending) 0 (and_left none much idle), and_right none much idle)
      ]
      | inr over ↦ inr over
    ]

-- some octets are held that have not gone out
some_unsent : (v : View) → sends_new v ≡ true → outstanding v.sending ≤ length v.sending.held
some_unsent v sends =
    let n = sendable v.sending (allowance v) in
    let some = ltb-true 0 n (and_left (nat_lt 0 n) (is_worth_sending v.sending (allowance v) (waits_no_longer v)) sends) in omega (arith, some)

-- without delay asked for, without the override and where large segments are waited for too, nothing is outstanding
abbrev Waits : View → Stretch → Type 0
Waits v t = t.count < v.sending.smss → v.resend.overridden ≡ false → v.nodelay ≡ false → v.minshall ≡ false
    → (outstanding v.sending ≡ 0) × ((t.count ≡ length v.sending.held) ⊎ (v.sending.max_window ≤ 2 * t.count))

new_octets_wait : (v : View) → sends_new v ≡ true → Waits v (new_octets v)
new_octets_wait v sends small quiet delays plain =
    let much = takes_enough v.sending (allowance v) in
    let waits : waits_no_longer v ≡ false = ap (λ b. (b && much) || passes_full v || v.resend.overridden) delays
    ∙ (ap (λ b. (b && much && ((v.resend.small == 0) || takes_last v)) || v.resend.overridden) plain ∙ quiet) in
    elim (worth v sends small) [
      | inl idle ↦
          let zero = idle.0 in
          elim (enough v idle.1 small (some_unsent v sends)) [
            | inl all ↦ (zero, inl (omega (arith, zero, all)))
            | inr half ↦ (zero, inr half)
          ]
      | inr over ↦ clash (waits_no_longer v) over waits
    ]

pub small_waits : (v : View) (stretch : Stretch) → IsSound v → first_due v ≡ Some (Text stretch) → outstanding v.sending ≤ stretch.offset → 0 < stretch.count → stretch.count < v.sending.smss → v.resend.overridden ≡ false → v.nodelay ≡ false
    → v.minshall ≡ false → (outstanding v.sending ≡ 0) × ((stretch.count ≡ length v.sending.held) ⊎ (v.sending.max_window ≤ 2 * stretch.count))
small_waits v stretch sound first = by_new (Waits v) v sound (new_octets_wait v) stretch first

-- where only small ones are, none of these is, or the octets are the last of a closed side
abbrev WaitsForSmall : View → Stretch → Type 0
WaitsForSmall v t = t.count < v.sending.smss → v.resend.overridden ≡ false → v.nodelay ≡ false
    → ((v.resend.small ≡ 0) × ((outstanding v.sending + t.count ≡ length v.sending.held) ⊎ (v.sending.max_window ≤ 2 * t.count))) ⊎ ((awaits_fin_ack v.state ≡ true) × (outstanding v.sending + t.count ≡ length v.sending.held))

new_octets_wait_for_small : (v : View) → IsSound v → sends_new v ≡ true → WaitsForSmall v (new_octets v)
new_octets_wait_for_small v sound sends small quiet delays =
    let n = sendable v.sending (allowance v) in
    let much = takes_enough v.sending (allowance v) in
    let none = v.resend.small == 0 in
    let within = some_unsent v sends in
    let told : waits_no_longer v ≡ true → passes_full v ≡ true = λ over. elim (or_else ((v.nodelay && much) || passes_full v) v.resend.overridden over) [
      | inl early ↦ elim (or_else (v.nodelay && much) (passes_full v) early) [
        | inl asked ↦ clash v.nodelay (and_left v.nodelay much asked) delays
        | inr passes ↦ passes
      ]
      | inr late ↦ clash v.resend.overridden late quiet
    ] in
    elim (worth v sends small) [
      | inl idle ↦ let zero = idle.0 in inl (omega (arith, zero, sound.small), enough v idle.1 small within)
      | inr over ↦
          let passes = told over in
          elim (or_else none (takes_last v) (and_right (v.minshall && much) (none || takes_last v) passes)) [
            | inl first ↦ inl (eqb-true v.resend.small 0 first, enough v (and_right v.minshall much (and_left (v.minshall && much) (none || takes_last v) passes)) small within)
            | inr last ↦
                let all = leb-true (unsent v.sending) (usable v.sending (allowance v)) (and_right (awaits_fin_ack v.state) (takes_all v.sending (allowance v)) last) in
                inr (and_left (awaits_fin_ack v.state) (takes_all v.sending (allowance v)) last, omega (arith, all, small, within))
          ]
    ]

pub small_waits_for_small : (v : View) (stretch : Stretch) → IsSound v → first_due v ≡ Some (Text stretch) → outstanding v.sending ≤ stretch.offset → 0 < stretch.count → stretch.count < v.sending.smss → v.resend.overridden ≡ false → v.nodelay ≡ false
    → ((v.resend.small ≡ 0) × ((outstanding v.sending + stretch.count ≡ length v.sending.held) ⊎ (v.sending.max_window ≤ 2 * stretch.count))) ⊎ ((awaits_fin_ack v.state ≡ true) × (outstanding v.sending + stretch.count ≡ length v.sending.held))
small_waits_for_small v stretch sound first = by_new (WaitsForSmall v) v sound (new_octets_wait_for_small v sound) stretch first
