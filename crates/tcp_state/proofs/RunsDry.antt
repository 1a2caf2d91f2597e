-- Why what is due goes out in finitely many segments.
use Rattle.std.proofs.Common.{◌≡◌, ℕ, ◌+◌, ◌-◌, ◌%◌, ◌^◌, ◌<◌, ◌≤◌, ◌==◌, ◌&&◌, ◌||◌, not, nat_le, nat_lt, max, if◌then◌else◌, Bool, true, false, length, Option, Some, None, is_some, inl, inr, arith, refl, sym, ◌∙◌, ap, ap₂, subst}
use Rattle.std.proofs.lemmas.Bool.{ltb-true, lt-ltb, le-ltb, lt-leb}
use Rattle.std.proofs.lemmas.Bool.Decides.{leb_tells, eqb_tells}
use Rattle.clock.specs.declared.moment.Moment.{Moment}
use Rattle.tcp_state.specs.declared.alive.KeepAlive.{KeepAlive as Alive}
use Rattle.tcp_segment.specs.Wire.{past}
use Rattle.tcp_state.specs.declared.emission.Due.{Due}
use Rattle.tcp_state.specs.declared.emission.Due.TheVariants.{Rst, Syn, Text, Probe, Ack, KeepAlive}
use Rattle.tcp_state.specs.declared.emission.Stretch.{Stretch}
use Rattle.tcp_state.specs.declared.state.State.{State}
use Rattle.tcp_halves.specs.Halves.{Sending, Receiving}
use Rattle.tcp_halves.specs.Stream.{outstanding, after_sent, after_probed}
use Rattle.tcp_halves.specs.Windows.{receive_room, has_grown, whole_units, after_advertisement, after_syn_advertisement}
use Rattle.tcp_halves.proofs.Keeping.{IsKeeping, in_units}
use Rattle.tcp_state.proofs.Places.{IsMarked, goes_within}
use Rattle.tcp_state.proofs.Sound.{sound_keeping}
use Rattle.tcp_halves.proofs.Choices.{either, clash, and_left, neither}
use Rattle.tcp_state.specs.View.{View, IsSound, is_opening, is_syn_received, is_closed, is_write_finished, awaits_fin_ack, most_outstanding}
use Rattle.tcp_state.specs.Resend.{is_alone, mark_past, resend_probed}
use Rattle.tcp_state.specs.Timing.{probes, clocked}
use Rattle.tcp_state.specs.Alive.{rests}
use Rattle.tcp_state.specs.Due.{IsHeld, first_due, is_ack_due, again, new_octets, fin_alone, probe_stretch, end_of, after_ack_paid, after_syn_ack_paid, after_speaking, after_asking, after_resent, after_first_sent, after_numbers, after_new_octets, after_new_text, brings_new_octets, after_syn_again, after_syn_out, after_stretch, after_probe, after_emitted}
use Rattle.tcp_state.specs.Most.{one_if, left_from, numbers_left, most_due}
use Rattle.tcp_state.proofs.Clocked.{syn_out}
use Rattle.tcp_state.proofs.Emissions.{by_due}
use Rattle.tcp_state.proofs.GoesOut.{held_again, held_new, held_fin}

-- Numbers.

-- SND.NXT reaches the end of what went out, where it was not past it
out_after : (s : Sending) (end : ℕ) → s.una < 2 ^ 32 → s.nxt < 2 ^ 32 → end < 2 ^ 32 → outstanding (after_sent s end) ≡ max (outstanding s) end
out_after s end una nxt small =
    let behind : past ((s.una + end) % 2 ^ 32) s.una ≡ end = omega (arith, una, small) in
    either ℕ (λ n. past n s.una ≡ max (past s.nxt s.una) end) (nat_le (past s.nxt s.una) (past ((s.una + end) % 2 ^ 32) s.una)) ((s.una + end) % 2 ^ 32) s.nxt
    (λ later. elim (leb_tells (past s.nxt s.una) (past ((s.una + end) % 2 ^ 32) s.una)) [ inl t ↦ omega (arith, behind, t.1) | inr t ↦ clash _ later t.0 ])
    (λ earlier. elim (leb_tells (past s.nxt s.una) (past ((s.una + end) % 2 ^ 32) s.una)) [ inl t ↦ clash _ t.0 earlier | inr t ↦ omega (arith, behind, t.1) ])

held_few : (opening finished : Bool) (held size : ℕ) → size ≤ 1048576 → held ≤ (if opening || finished then 0 else size) → held ≤ 1048576
held_few true finished held size most few = omega (arith, few)
held_few false true held size most few = omega (arith, few)
held_few false false held size most few = omega (arith, most, few)

-- a window that was told has grown by nothing since
told_stays : (r : Receiving) → IsKeeping r → has_grown (after_advertisement r) ≡ false
told_stays r is =
    let told = whole_units r.unit (receive_room r) in
    let filled = in_units r.unit (receive_room r) is.some in
    either Receiving (λ t. has_grown t ≡ false) (has_grown r) _ r
    (λ grown. lt-leb (past ((r.rnext + told) % 2 ^ 32) r.rnext + 1460) (receive_room r) (short r.rnext told (receive_room r) r.unit is.small (omega (arith, is.sized, is.most)) is.few filled.0 filled.1))
    (λ same. same)
  where
    short : (rnext told room unit : ℕ) → rnext < 2 ^ 32 → room ≤ 1048576 → unit ≤ 1460 → told ≤ room → room < told + unit → room < past ((rnext + told) % 2 ^ 32) rnext + 1460
    short rnext told room unit small few unit_few within near = omega (arith, small, few, unit_few, within, near)

-- What goes out.

-- fewer numbers may follow, and what else may be due is as it was
record Sends (v y : View) : Type 0 where
  fewer : numbers_left y < numbers_left v
  reset : y.owes_reset ≡ v.owes_reset
  owes : y.owes_ack ≡ v.owes_ack
  spoke : y.spoke ≡ v.spoke
  state : y.state ≡ v.state
  receiving : y.receiving ≡ v.receiving
  alive : y.alive ≡ v.alive

asked : (v y : View) → Sends v y → one_if y.alive.owed ≡ one_if v.alive.owed
asked v y s = ap (λ (a : Alive). one_if a.owed) s.alive

one_at_most : (b : Bool) → one_if b ≤ 1
one_at_most true = omega arith
one_at_most false = omega arith

unpaid : (v y : View) → Sends v y → most_due y < most_due v
unpaid v y s =
    let reset : one_if y.owes_reset ≡ one_if v.owes_reset = ap one_if s.reset in
    let owes : one_if (is_ack_due y) ≡ one_if (is_ack_due v) =
    ap one_if (ap₂ (λ (b : Bool) (t : State). b || (not (is_opening t) && not (is_closed t) && y.spoke && has_grown y.receiving)) s.owes s.state
    ∙ ap₂ (λ (b : Bool) (r : Receiving). v.owes_ack || (not (is_opening v.state) && not (is_closed v.state) && b && has_grown r)) s.spoke s.receiving) in
    let fewer = s.fewer in omega (arith, reset, owes, fewer, asked v y s)

-- once it was told, no window has to be
none_to_pay : (y : View) (spoke : Bool) → IsKeeping y.receiving → is_ack_due (record (after_ack_paid y) { spoke = spoke }) ≡ false
none_to_pay y spoke is =
    ap (λ b. not (is_opening y.state) && not (is_closed y.state) && spoke && b) (told_stays y.receiving is) ∙ nothing (not (is_opening y.state) && not (is_closed y.state) && spoke)
  where
    nothing : (b : Bool) → (b && false) ≡ false
    nothing true = refl
    nothing false = refl

-- .. nor is an acknowledgement due where none was
none_but_to_ask : (v : View) → IsKeeping v.receiving → is_ack_due v ≡ false → is_ack_due (after_asking v) ≡ false
none_but_to_ask v is quiet = ap (λ b. b || (not (is_opening v.state) && not (is_closed v.state) && true && has_grown (after_advertisement v.receiving))) (neither v.owes_ack _ quiet).0 ∙ none_to_pay v true is

paid : (v y : View) (spoke : Bool) → IsKeeping v.receiving → Sends v y → most_due (record (after_ack_paid y) { spoke = spoke }) < most_due v
paid v y spoke is s =
    let reset : one_if y.owes_reset ≡ one_if v.owes_reset = ap one_if s.reset in
    let none : one_if (is_ack_due (record (after_ack_paid y) { spoke = spoke })) ≡ 0 = ap one_if (none_to_pay y spoke (subst IsKeeping (sym s.receiving) is)) in
    let fewer = s.fewer in omega (arith, reset, none, fewer, asked v y s)

-- while the connection opens, no window has to be told
paid_opening : (v y : View) → is_opening v.state ≡ true → Sends v y → most_due (after_syn_ack_paid y) < most_due v
paid_opening v y opening s =
    let reset : one_if y.owes_reset ≡ one_if v.owes_reset = ap one_if s.reset in
    let opens : is_opening y.state ≡ true = ap is_opening s.state ∙ opening in
    let none : one_if (is_ack_due (after_syn_ack_paid y)) ≡ 0 = ap (λ b. one_if (not b && not (is_closed y.state) && y.spoke && has_grown (after_syn_advertisement y.receiving))) opens in
    let fewer = s.fewer in omega (arith, reset, none, fewer, asked v y s)

-- the end of an event makes nothing due
at_its_end : (x : View) (moved : Bool) (now : Moment) → most_due (clocked moved x now) ≤ most_due x
at_its_end x moved now = let owed = fewer_owed x.resend.owes_probe (probes x) in omega (arith, owed)
  where
    fewer_owed : (a b : Bool) → one_if (a && b) ≤ one_if a
    fewer_owed true b = one_at_most b
    fewer_owed false b = omega arith

-- The sums. What goes out again from a mark on moves it on, or ends it ..
fall_again : (most out new mark end left was rest : ℕ) → new ≡ max out end → left ≤ most - end → was ≡ most - mark → mark < end → mark < out → out ≤ most → (most - new) + left + rest < (most - out) + was + rest
fall_again most out new mark end left was rest a b c d e f = omega (arith, a, b, c, d, e, f)

-- .. what goes out for the first time is outstanding from then on ..
fall_first : (most out new end left rest : ℕ) → new ≡ max out end → out < end → end ≤ most → (most - new) + left + rest < (most - out) + left + rest
fall_first most out new end left rest a b c = omega (arith, a, b, c)

-- .. and a probe is owed no longer
fall_probe : (most out new end left was : ℕ) → new ≡ max out end → was ≡ 1 → (most - new) + left + 0 < (most - out) + left + was
fall_probe most out new end left was a b = omega (arith, a, b)

left_past : (alone : Bool) (end out most : ℕ) → left_from (if alone then None else mark_past end out) most ≤ most - end
left_past true end out most = omega arith
left_past false end out most = either (Option ℕ) (λ o. left_from o most ≤ most - end) (nat_lt end out) (Some end) None (λ more. omega arith) (λ all. omega arith)

resent : (v : View) (mark end : ℕ) → IsSound v → v.resend.mark ≡ Some mark → mark < end → end < 2 ^ 32 → Sends v (after_resent v end)
resent v mark end sound is some small =
    let most = most_outstanding v in
    let sent = after_sent v.sending end in
    record {
      fewer = fall_again most (outstanding v.sending) (outstanding sent) mark end (left_from (if is_alone v.resend then None else mark_past end (outstanding sent)) most) (left_from v.resend.mark most) (one_if v.resend.owes_probe)
          (out_after v.sending end sound.una sound.nxt small) (left_past (is_alone v.resend) end (outstanding sent) most) (ap (λ o. left_from o most) is) some (sound.mark mark is) sound.flight;
      reset = refl;
      owes = refl;
      spoke = refl;
      state = refl;
      receiving = refl;
      alive = refl;
    }

first_sent : (v : View) (end : ℕ) (now : Moment) → IsSound v → outstanding v.sending < end → end ≤ most_outstanding v → end < 2 ^ 32 → Sends v (after_first_sent v end now)
first_sent v end now sound some within small = record {
  fewer = fall_first (most_outstanding v) (outstanding v.sending) (outstanding (after_sent v.sending end)) end (left_from v.resend.mark (most_outstanding v)) (one_if v.resend.owes_probe)
      (out_after v.sending end sound.una sound.nxt small) some within;
  reset = refl;
  owes = refl;
  spoke = refl;
  state = refl;
  receiving = refl;
  alive = refl;
}

-- new octets end their wait, and a SYN that goes out again is remembered: no number more or less
new_sends : (v y : View) → Sends v y → Sends v (after_new_octets y)
new_sends v y s = record { fewer = s.fewer; reset = s.reset; owes = s.owes; spoke = s.spoke; state = s.state; receiving = s.receiving; alive = s.alive }

text_sends : (v y : View) (stretch : Stretch) → Sends v y → Sends v (after_new_text y stretch)
text_sends v y stretch s = record { fewer = s.fewer; reset = s.reset; owes = s.owes; spoke = s.spoke; state = s.state; receiving = s.receiving; alive = s.alive }

again_sends : (v y : View) → Sends v y → Sends v (after_syn_again y)
again_sends v y s = record { fewer = s.fewer; reset = s.reset; owes = s.owes; spoke = s.spoke; state = s.state; receiving = s.receiving; alive = s.alive }

-- Stretches.

ends_within : (fin : Bool) (offset count held : ℕ) (opening awaits : Bool) → offset + count ≤ held → (fin ≡ true → awaits ≡ true) → offset + (count + one_if fin) ≤ held + one_if (opening || awaits)
ends_within true offset count held opening false few ends = let bad = ends refl in cc
ends_within true offset count held true true few ends = omega (arith, few)
ends_within true offset count held false true few ends = omega (arith, few)
ends_within false offset count held opening awaits few ends = omega (arith, few)

end_small : (v : View) (stretch : Stretch) → IsSound v → IsHeld v stretch → end_of stretch < 2 ^ 32
end_small v stretch sound h =
    let held = held_few (is_opening v.state) (is_write_finished v.state) (length v.sending.held) v.sending.size sound.terms.send_size sound.held in
    let one : one_if stretch.fin ≤ 1 = one_at_most stretch.fin in
    let within = h.held in omega (arith, held, one, within)

stretch_of : (v : View) (stretch : Stretch) (now : Moment) → Sends v (after_numbers v stretch.offset (end_of stretch) now) → Sends v (after_stretch v stretch now)
stretch_of v stretch now s =
    let sent = after_numbers v stretch.offset (end_of stretch) now in
    either View (Sends v) (brings_new_octets v stretch) (after_new_text sent stretch) sent (λ new. text_sends v sent stretch s) (λ old. s)

again_goes : (v : View) (place : ℕ) (now : Moment) → IsSound v → IsMarked v place → nat_lt place (outstanding v.sending) ≡ true → IsHeld v (again v place) → Sends v (after_stretch v (again v place) now)
again_goes v place now sound is goes h =
    let stretch = again v place in
    let some = h.some in
    let past_mark = is.from in
    stretch_of v stretch now (either View (Sends v) (nat_lt place (outstanding v.sending)) (after_resent v (end_of stretch)) (after_first_sent v (end_of stretch) now)
    (λ before. resent v is.mark (end_of stretch) sound is.is (omega (arith, some, past_mark)) (end_small v stretch sound h))
    (λ past. clash (nat_lt place (outstanding v.sending)) goes past))

new_goes : (v : View) (stretch : Stretch) (now : Moment) → IsSound v → stretch.offset ≡ outstanding v.sending → IsHeld v stretch → Sends v (after_stretch v stretch now)
new_goes v stretch now sound at h =
    let some = h.some in
    stretch_of v stretch now (either View (Sends v) (nat_lt stretch.offset (outstanding v.sending)) (after_resent v (end_of stretch)) (after_first_sent v (end_of stretch) now)
    (λ before. clash (nat_lt stretch.offset (outstanding v.sending)) before (le-ltb stretch.offset (outstanding v.sending) (omega (arith, at))))
    (λ past. first_sent v (end_of stretch) now sound (omega (arith, at, some))
    (ends_within stretch.fin stretch.offset stretch.count (length v.sending.held) (is_opening v.state) (awaits_fin_ack v.state) h.held (λ ends. (h.fin ends).0)) (end_small v stretch sound h)))

probe_goes : (v : View) → IsSound v → v.resend.owes_probe ≡ true → Sends v (after_probe v)
probe_goes v sound owes =
    let stretch = probe_stretch v in
    let end = end_of stretch in
    let small : end ≤ 1 = either Stretch (λ t. end_of t ≤ 1) (length v.sending.held == 0) (record { offset = 0; count = 0; fin = true }) (record { offset = 0; count = 1; fin = false }) (λ none. omega arith) (λ some. omega arith) in
    let sends : Sends v (sent (after_probed v.sending end)) = record {
      fewer = fall_probe (most_outstanding v) (outstanding v.sending) (outstanding (after_probed v.sending end)) end (left_from v.resend.mark (most_outstanding v)) (one_if v.resend.owes_probe)
          (out_after v.sending end sound.una sound.nxt (omega (arith, small))) (ap one_if owes);
      reset = refl;
      owes = refl;
      spoke = refl;
      state = refl;
      receiving = refl;
      alive = refl;
    } in
    either View (Sends v) (brings_new_octets v stretch) (after_new_octets (sent (after_probed v.sending end))) (sent (after_probed v.sending end)) (λ new. new_sends v (sent (after_probed v.sending end)) sends) (λ old. sends)
  where
    sent : Sending → View
    sent sending = record v { sending = sending; resend = resend_probed v.resend }

-- The SYN.

-- while the connection opens it is the one number that is outstanding
opening_few : (size : ℕ) (opening finished awaits : Bool) (held out : ℕ) → opening ≡ true → held ≤ (if opening || finished then 0 else size) → out ≤ held + one_if (opening || awaits) → (out ≤ 1) × (1 ≤ held + one_if (opening || awaits))
opening_few size true finished awaits held out e few most = (omega (arith, few, most), omega arith)
opening_few size false finished awaits held out e few most = cc

marked : (none : Bool) (o : Option ℕ) → none ≡ false → (none || is_some o) ≡ true → (mark : ℕ) × (o ≡ Some mark)
marked false (Some mark) e goes = (mark, refl)
marked false None e goes = cc
marked true o e goes = cc

syn_goes : (v : View) (now : Moment) → IsSound v → is_opening v.state ≡ true → ((outstanding v.sending == 0) || is_some v.resend.mark) ≡ true → Sends v (after_syn_out v now)
syn_goes v now sound opening goes =
    let out = outstanding v.sending in
    let few = opening_few v.sending.size (is_opening v.state) (is_write_finished v.state) (awaits_fin_ack v.state) (length v.sending.held) out opening sound.held sound.flight in
    let numbers : Sends v (after_numbers v 0 1 now) = either View (Sends v) (nat_lt 0 out) (after_resent v 1) (after_first_sent v 1 now)
    (λ before.
    let some : 0 < out = ltb-true 0 out before in
    let m = marked (out == 0) v.resend.mark (unequal out some) goes in
    let below = sound.mark m.0 m.1 in
    resent v m.0 1 sound m.1 (omega (arith, below, few.0)) (omega arith))
    (λ none. elim (leb_tells 1 out) [ inl t ↦ clash (nat_lt 0 out) t.0 none | inr t ↦ first_sent v 1 now sound (omega (arith, t.1)) few.1 (omega arith) ]) in
    syn_out v now (Sends v) numbers (again_sends v (after_numbers v 0 1 now) numbers)
  where
    unequal : (n : ℕ) → 0 < n → (n == 0) ≡ false
    unequal n some = elim (eqb_tells n 0) [ inl t ↦ absurd (omega (arith, some, t.1)) | inr t ↦ t.0 ]

-- Every segment.

pub runs_dry : (v : View) (due : Due) (now : Moment) → IsSound v → first_due v ≡ Some due → most_due (after_emitted v due now) < most_due v
runs_dry v due now sound first = by_due (λ o. (d : Due) → o ≡ Some d → Falls d) v (record {
  nothing = λ quiet heard d e. cc;
  rst = λ owes d e. let same : Rst ≡ d = cc in let one : one_if v.owes_reset ≡ 1 = ap one_if owes in subst Falls same (falls (record v { owes_reset = false }) (omega (arith, one)));
  syn = λ opening goes d e. let same : Syn ≡ d = cc in let s = syn_goes v now sound opening goes in
      subst Falls same (either View Less (is_syn_received v.state) (after_syn_ack_paid (after_syn_out v now)) (after_syn_out v now) (λ received. falls (after_syn_ack_paid (after_syn_out v now)) (paid_opening v (after_syn_out v now) opening s)) (λ waits. falls (after_syn_out v now) (unpaid v (after_syn_out v now) s)));
  once_more = λ opened place is goes d e. let same : Text (again v place) ≡ d = cc in
      subst Falls same (settles (after_stretch v (again v place) now) true (again_goes v place now sound is (lt-ltb place (outstanding v.sending) (goes_within v place goes)) (held_again v place sound opened (goes_within v place goes))));
  octets = λ opened sends d e. let same : Text (new_octets v) ≡ d = cc in subst Falls same (settles (after_stretch v (new_octets v) now) true (new_goes v (new_octets v) now sound refl (held_new v sound opened sends)));
  fin = λ opened sends d e. let same : Text (fin_alone v) ≡ d = cc in subst Falls same (settles (after_stretch v (fin_alone v) now) true (new_goes v (fin_alone v) now sound refl (held_fin v opened sends)));
  probe = λ opened owes goes d e. let same : Probe ≡ d = cc in subst Falls same (settles (after_probe v) true (probe_goes v sound owes));
  ack = λ owes d e. let same : Ack ≡ d = cc in
      let one : one_if (is_ack_due v) ≡ 1 = ap one_if owes in
      let none : one_if (is_ack_due (after_speaking v)) ≡ 0 = ap one_if (none_to_pay v true (sound_keeping v sound)) in
      subst Falls same (falls (after_speaking v) (omega (arith, one, none)));
  asks = λ quiet owes d e. let same : KeepAlive ≡ d = cc in
      let one : one_if v.alive.owed ≡ 1 = ap one_if (and_left v.alive.owed (rests v) owes) in
      let none : one_if (is_ack_due (after_asking v)) ≡ 0 = ap one_if (none_but_to_ask v (sound_keeping v sound) quiet) in
      subst Falls same (falls (after_asking v) (omega (arith, one, none)));
}) due first
  where
    Falls : Due → Type 0
    Falls d = most_due (after_emitted v d now) < most_due v

    Less : View → Type 0
    Less x = most_due (clocked false x now) < most_due v

    falls : (x : View) → most_due x < most_due v → Less x
    falls x less = let ends = at_its_end x false now in omega (arith, ends, less)

    settles : (y : View) (spoke : Bool) → Sends v y → Less (record (after_ack_paid y) { spoke = spoke })
    settles y spoke s = falls (record (after_ack_paid y) { spoke = spoke }) (paid v y spoke (sound_keeping v sound) s)
