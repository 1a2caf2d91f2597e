-- Why what goes out again ends at SND.NXT, or before it with a full segment.
use Rattle.std.proofs.Common.{◌≡◌, ℕ, suc, ◌+◌, ◌%◌, ◌^◌, ◌<◌, ◌≤◌, ◌==◌, ◌&&◌, ◌⊎◌, ◌-◌, min, not, nat_le, nat_lt, if◌then◌else◌, Bool, true, false, length, Some, None, inl, inr, arith, refl, sym, ◌∙◌, ap, subst}
use Rattle.std.proofs.lemmas.Bool.{leb-true, eqb-true, eq-eqb, ltb-true, lt-ltb}
use Rattle.std.proofs.lemmas.Bool.Decides.{leb_tells}
use Rattle.tcp_segment.specs.Wire.{past}
use Rattle.clock.specs.declared.moment.Moment.{Moment}
use Rattle.tcp_state.specs.declared.emission.Due.TheVariants.{Text}
use Rattle.tcp_state.specs.declared.emission.Stretch.{Stretch}
use Rattle.tcp_halves.specs.Numbers.{later_number}
use Rattle.tcp_halves.specs.Halves.{Sending}
use Rattle.tcp_halves.specs.Stream.{outstanding, after_sent}
use Rattle.tcp_halves.specs.Windows.{open_window}
use Rattle.tcp_state.specs.Resend.{mark_past}
use Rattle.tcp_state.specs.View.{View, IsSound, takes_flag_number}
use Rattle.tcp_state.specs.Due.{first_due, end_of, after_resent, after_first_sent, after_numbers, after_new_text, brings_new_octets, after_emitted, again, is_missing, goes_by_reports, goes_by_windows, goes_again, new_octets, fin_alone}
use Rattle.stream_buf.specs.Scoreboard.{is_reported}
use Rattle.stream_buf.proofs.Reports.{len_whole}
use Rattle.tcp_state.specs.Selective.{repairs_gaps, pipe}
use Rattle.tcp_state.proofs.Places.{again_few}
use Rattle.tcp_state.specs.Edges.{Emits, after_first, after_event}
use Rattle.tcp_halves.proofs.Choices.{either, by, clash, and_left, and_right, and_false, both, or_else}
use Rattle.tcp_state.proofs.Emissions.{by_due, stretch_sends}

-- a stretch that begins with what went out has one segment's octets, and ends with what went out, or before it where it is full
abbrev EndsSent : View → Stretch → Type 0
EndsSent v t = t.offset < outstanding v.sending → (t.count ≤ v.sending.smss) × (end_of t ≤ outstanding v.sending) × ((end_of t ≡ outstanding v.sending) ⊎ ((t.count ≡ v.sending.smss) ⊎ (is_reported v.resend.reported (t.offset + t.count) ≡ true)))

flag_number : (b : Bool) → (if b then 1 else 0) ≤ 1
flag_number true = omega arith
flag_number false = omega arith

-- a FIN beyond its octets goes out again with the last of them, where it had gone out
again_ends : (v : View) (place : ℕ) → IsSound v → EndsSent v (again v place)
again_ends v place sound within =
    let held = length v.sending.held in
    let o = outstanding v.sending in
    let t = again v place in
    let room = min (min held o - place) v.sending.smss in
    let few : t.count ≤ room = again_few v place in
    let most : o ≤ held + 1 = omega (arith, sound.flight, flag_number (takes_flag_number v.state)) in
    let number : ℕ = if t.fin then 1 else 0 in
    let one_at_most : number ≤ 1 = flag_number t.fin in
    let size : t.count ≤ v.sending.smss = omega (arith, few) in
    elim (leb_tells room t.count) [
      | inr cut ↦ (size, omega (arith, cut.1, within, one_at_most), inr (inr (len_whole v.resend.reported 1 place room sound.resend.reported.apart (omega (arith, cut.1)))))
      | inl whole ↦ elim (leb_tells (suc held) o) [
        | inl more ↦ by ((t.count ≤ v.sending.smss) × (end_of t ≤ o) × ((end_of t ≡ o) ⊎ ((t.count ≡ v.sending.smss) ⊎ (is_reported v.resend.reported (place + t.count) ≡ true)))) t.fin
            (λ ends.
            let one : number ≡ 1 = ap (λ b. if b then 1 else 0) ends in
            let last : place + t.count ≡ held = eqb-true (place + t.count) held (and_left (place + t.count == held) (nat_lt held o) ends) in
            (size, omega (arith, one, last, most, more.1), inl (omega (arith, one, last, most, more.1))))
            (λ goes_on.
            let zero : number ≡ 0 = ap (λ b. if b then 1 else 0) goes_on in
            (size, omega (arith, few, zero, within, most), inr (inl (full v place most within few whole.1 more.0 more.1 goes_on))))
        | inr all ↦
            let none : t.fin ≡ false = ap (λ b. (place + t.count == held) && b) all.0 ∙ and_false (place + t.count == held) in
            let zero : number ≡ 0 = ap (λ b. if b then 1 else 0) none in
            (size, omega (arith, few, zero, within, all.1), elim (leb_tells v.sending.smss t.count) [ inl many ↦ inr (inl (omega (arith, size, many.1))) | inr short ↦ inl (omega (arith, whole.1, few, zero, within, all.1, short.1)) ])
      ]
    ]
  where
    -- octets stay behind it
    full : (v : View) (place : ℕ) → outstanding v.sending ≤ length v.sending.held + 1 → place < outstanding v.sending
        → (let t = again v place in t.count) ≤ min (min (length v.sending.held) (outstanding v.sending) - place) v.sending.smss
        → min (min (length v.sending.held) (outstanding v.sending) - place) v.sending.smss ≤ (let t = again v place in t.count)
        → nat_lt (length v.sending.held) (outstanding v.sending) ≡ true → length v.sending.held < outstanding v.sending
        → (let t = again v place in t.fin ≡ false) → (let t = again v place in t.count ≡ v.sending.smss)
    full v place most within few whole sent more goes_on =
        let held = length v.sending.held in
        let t = again v place in
        elim (leb_tells v.sending.smss t.count) [
          | inl many ↦ omega (arith, few, many.1)
          | inr short ↦
              let last : place + t.count ≡ held = omega (arith, short.1, few, whole, within, most, more) in
              clash t.fin (both (place + t.count == held) (nat_lt held (outstanding v.sending)) (eq-eqb (place + t.count) held last) sent) goes_on
        ]

pub ends_sent : (v : View) (stretch : Stretch) → IsSound v → first_due v ≡ Some (Text stretch) → stretch.offset < outstanding v.sending
    → (stretch.count ≤ v.sending.smss) × (end_of stretch ≤ outstanding v.sending) × ((end_of stretch ≡ outstanding v.sending) ⊎ ((stretch.count ≡ v.sending.smss) ⊎ (is_reported v.resend.reported (stretch.offset + stretch.count) ≡ true)))
ends_sent v stretch sound first = by_due (λ o. (t : Stretch) → o ≡ Some (Text t) → EndsSent v t) v (record {
  nothing = λ quiet heard t e. cc;
  rst = λ owes t e. cc;
  syn = λ opening goes t e. cc;
  once_more = λ opened place is goes t e. let same : again v place ≡ t = cc in subst (EndsSent v) same (again_ends v place sound);
  octets = λ opened sends t e. let same : new_octets v ≡ t = cc in subst (EndsSent v) same (λ before. absurd (omega (arith, before)));
  fin = λ opened sends t e. let same : fin_alone v ≡ t = cc in subst (EndsSent v) same (λ before. absurd (omega (arith, before)));
  probe = λ opened owes goes t e. cc;
  ack = λ owes t e. cc;
  asks = λ quiet owes t e. cc;
}) stretch first

-- SND.NXT stays
next_stays : (una nxt end : ℕ) → una < 2 ^ 32 → nxt < 2 ^ 32 → end ≤ past nxt una → later_number una nxt ((una + end) % 2 ^ 32) ≡ nxt
next_stays una nxt end u n within =
    let b = (una + end) % 2 ^ 32 in
    either ℕ (λ m. m ≡ nxt) (nat_le (past nxt una) (past b una)) b nxt
    (λ reaches. let most : past nxt una ≤ past b una = leb-true (past nxt una) (past b una) reaches in omega (arith, u, n, within, most))
    (λ before. refl)

pub nothing_new : (v : View) (stretch : Stretch) (now : Moment) → IsSound v → first_due v ≡ Some (Text stretch) → stretch.offset < outstanding v.sending
    → (after_event v (Emits now)).sending.nxt ≡ v.sending.nxt
nothing_new v stretch now sound first before =
    let ends = ends_sent v stretch sound first before in
    ap (λ o. (after_first v o now).sending.nxt) first
    ∙ ap (λ (s : Sending). s.nxt) (stretch_sends v stretch now)
    ∙ next_stays v.sending.una v.sending.nxt (end_of stretch) sound.una sound.nxt ends.1

-- within both windows, but for what stands at SND.UNA; where reports rule, the network has room for a segment beside what is in it
abbrev Within : View → Stretch → Type 0
Within v t = t.offset < outstanding v.sending → (t.offset ≡ 0) ⊎ ((t.offset < v.sending.window) × ((t.offset < v.congestion.cwnd) ⊎ ((repairs_gaps v ≡ true) × (pipe v + v.sending.smss ≤ v.congestion.cwnd))))

windows_within : (v : View) (place : ℕ) → goes_by_windows v place ≡ true → Within v (again v place)
windows_within v place goes before = elim (or_else (place == 0) (nat_lt place (open_window v.sending v.congestion.cwnd)) goes) [
  | inl first ↦ inl (eqb-true place 0 first)
  | inr fits ↦ let below = ltb-true place (open_window v.sending v.congestion.cwnd) fits in inr (omega (arith, below), inl (omega (arith, below)))
]

reports_within : (v : View) (place : ℕ) → (repairs_gaps v && not v.resend.once) ≡ true → goes_by_reports v place ≡ true → Within v (again v place)
reports_within v place rules goes before =
    let one = is_missing v place && nat_lt place v.sending.window in
    let room = nat_le (pipe v + v.sending.smss) v.congestion.cwnd in
    inr (
      ltb-true place v.sending.window (and_right (is_missing v place) (nat_lt place v.sending.window) (and_left one room goes)),
      inr (and_left (repairs_gaps v) (not v.resend.once) rules, leb-true (pipe v + v.sending.smss) v.congestion.cwnd (and_right one room goes)),
    )

pub again_within : (v : View) (place : ℕ) → goes_again v place ≡ true → Within v (again v place)
again_within v place goes =
    let rules = repairs_gaps v && not v.resend.once in
    let by_rule = if rules then goes_by_reports v place else goes_by_windows v place in
    let goes_so : by_rule ≡ true = and_right (nat_lt place (outstanding v.sending)) by_rule goes in
    by (Within v (again v place)) rules
    (λ on. reports_within v place on (sym (ap (λ b. if b then goes_by_reports v place else goes_by_windows v place) on) ∙ goes_so))
    (λ off. windows_within v place (sym (ap (λ b. if b then goes_by_reports v place else goes_by_windows v place) off) ∙ goes_so))

pub keeps_within : (v : View) (stretch : Stretch) → first_due v ≡ Some (Text stretch) → stretch.offset < outstanding v.sending
    → (stretch.offset ≡ 0) ⊎ ((stretch.offset < v.sending.window) × ((stretch.offset < v.congestion.cwnd) ⊎ ((repairs_gaps v ≡ true) × (pipe v + v.sending.smss ≤ v.congestion.cwnd))))
keeps_within v stretch first = by_due (λ o. (t : Stretch) → o ≡ Some (Text t) → Within v t) v (record {
  nothing = λ quiet heard t e. cc;
  rst = λ owes t e. cc;
  syn = λ opening goes t e. cc;
  once_more = λ opened place is goes t e. let same : again v place ≡ t = cc in subst (Within v) same (again_within v place goes);
  octets = λ opened sends t e. let same : new_octets v ≡ t = cc in subst (Within v) same (λ before. absurd (omega (arith, before)));
  fin = λ opened sends t e. let same : fin_alone v ≡ t = cc in subst (Within v) same (λ before. absurd (omega (arith, before)));
  probe = λ opened owes goes t e. cc;
  ack = λ owes t e. cc;
  asks = λ quiet owes t e. cc;
}) stretch first

-- The mark moves on, and is gone where all that is outstanding went out again.

moved_on : (v : View) (stretch : Stretch) (now : Moment) → IsSound v → v.resend.once ≡ false → first_due v ≡ Some (Text stretch) → stretch.offset < outstanding v.sending
    → (after_emitted v (Text stretch) now).resend.mark ≡ (if nat_lt (end_of stretch) (outstanding v.sending) then Some (end_of stretch) else None)
moved_on v stretch now sound all first before =
    let o = outstanding v.sending in
    let end = end_of stretch in
    let ends = ends_sent v stretch sound first before in
    let P : View → Type 0 = λ w. w.resend.mark ≡ mark_past end o in
    let sent = after_numbers v stretch.offset end now in
    let same : outstanding (after_sent v.sending end) ≡ o = ap (λ n. past n v.sending.una) (next_stays v.sending.una v.sending.nxt end sound.una sound.nxt ends.1) in
    let marked : P sent = either View P (nat_lt stretch.offset o) (after_resent v end) (after_first_sent v end now)
    (λ again. ap (λ b. if b && (length v.resend.reported == 0) then None else mark_past end (outstanding (after_sent v.sending end))) all ∙ ap (mark_past end) same)
    (λ new. clash (nat_lt stretch.offset o) (lt-ltb stretch.offset o before) new) in
    either View P (brings_new_octets v stretch) (after_new_text sent stretch) sent (λ new. marked) (λ old. marked)

pub mark_moves_on : (v : View) (stretch : Stretch) (now : Moment) → IsSound v → v.resend.once ≡ false → first_due v ≡ Some (Text stretch) → stretch.offset < outstanding v.sending
    → (after_event v (Emits now)).resend.mark ≡ (if nat_lt (end_of stretch) (outstanding v.sending) then Some (end_of stretch) else None)
mark_moves_on v stretch now sound all first before = ap (λ o. (after_first v o now).resend.mark) first ∙ moved_on v stretch now sound all first before
