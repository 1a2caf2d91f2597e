-- What goes out of an open end lowers what it lacks, or what it owes.
use Rattle.std.proofs.Common.{◌≡◌, ℕ, ◌+◌, ◌-◌, ◌%◌, ◌^◌, ◌<◌, ◌≤◌, ◌==◌, ◌&&◌, ◌||◌, ◌⊎◌, inl, inr, not, nat_le, nat_lt, min, max, if◌then◌else◌, Bool, true, false, length, drop, Option, Some, None, arith, refl, sym, ◌∙◌, ap, ap₂, subst}
use Rattle.std.proofs.lemmas.Bool.{lt-ltb, lt-leb, le-leb, eqb-true}
use Rattle.std.proofs.lemmas.Bool.Decides.{leb_tells, eqb_tells}
use Rattle.std.proofs.lemmas.List.{length-take, length-drop}
use Rattle.clock.specs.declared.moment.Moment.{Moment}
use Rattle.tcp_segment.specs.Wire.{past}
use Rattle.tcp_segment.specs.Segment.{Segment, bit, span_of}
use Rattle.tcp_halves.specs.Halves.{Sending, Receiving}
use Rattle.tcp_halves.specs.Stream.{outstanding, after_sent, after_probed}
use Rattle.tcp_halves.specs.Windows.{receive_room, has_grown, whole_units, after_advertisement}
use Rattle.tcp_halves.proofs.Choices.{either, clash, and_left, and_right, neither, unowed, and_false}
use Rattle.tcp_halves.proofs.Keeping.{IsKeeping, in_units}
use Rattle.tcp_state.specs.declared.emission.Due.{Due}
use Rattle.tcp_state.specs.declared.emission.Due.TheVariants.{Rst, Syn, Text, Probe, Ack, KeepAlive}
use Rattle.tcp_state.specs.declared.emission.Stretch.{Stretch}
use Rattle.tcp_state.specs.declared.alive.KeepAlive.{KeepAlive as Alive}
use Rattle.tcp_state.specs.declared.state.State.{State}
use Rattle.tcp_state.specs.declared.state.State.TheVariants.{Established, FinWait2, CloseWait}
use Rattle.tcp_state.specs.View.{View, IsSound, is_opening, is_closed, awaits_fin_ack}
use Rattle.tcp_state.specs.Resend.{is_alone, mark_past, resend_probed}
use Rattle.tcp_state.specs.Timing.{probes}
use Rattle.tcp_state.specs.Alive.{may_rest, rests}
use Rattle.tcp_state.specs.Due.{IsHeld, end_of, probe_stretch, octets_of_stretch, first_due, is_ack_due, again, new_octets, fin_alone, after_speaking, after_asking, after_resent, after_first_sent, after_numbers, after_new_octets, after_new_text, brings_new_octets, after_stretch, after_probe, after_emitted}
use Rattle.tcp_state.specs.Said.{segment_of}
use Rattle.tcp_state.specs.Most.{one_if, left_from}
use Rattle.tcp_state.proofs.AckNumbers.{probed_is_one}
use Rattle.tcp_state.proofs.Clocked.{equal}
use Rattle.tcp_state.proofs.Emissions.{by_due, stretch_sends, stretch_receives, probe_sends, probe_receives}
use Rattle.tcp_state.proofs.GoesOut.{due-may}
use Rattle.tcp_state.proofs.Onward.{few_outstanding}
use Rattle.tcp_state.proofs.Places.{IsMarked, goes_within}
use Rattle.tcp_state.proofs.Sound.{sound_keeping}
use Rattle.window_law.proofs.Sent.{opening_syn}
use Rattle.silence_law.proofs.Measure.{Stance, stance, is_light, is_short, left_of}

-- Numbers.

-- SND.NXT reaches the end of what went out, where it was not past it
out_after : (s : Sending) (end : ℕ) → s.una < 2 ^ 32 → s.nxt < 2 ^ 32 → end < 2 ^ 32 → outstanding (after_sent s end) ≡ max (outstanding s) end
out_after s end una nxt small =
    let behind : past ((s.una + end) % 2 ^ 32) s.una ≡ end = omega (arith, una, small) in
    either ℕ (λ n. past n s.una ≡ max (past s.nxt s.una) end) (nat_le (past s.nxt s.una) (past ((s.una + end) % 2 ^ 32) s.una)) ((s.una + end) % 2 ^ 32) s.nxt
    (λ later. elim (leb_tells (past s.nxt s.una) (past ((s.una + end) % 2 ^ 32) s.una)) [ inl t ↦ omega (arith, behind, t.1) | inr t ↦ clash _ later t.0 ])
    (λ earlier. elim (leb_tells (past s.nxt s.una) (past ((s.una + end) % 2 ^ 32) s.una)) [ inl t ↦ clash _ t.0 earlier | inr t ↦ omega (arith, behind, t.1) ])

-- what went out before leaves both of them
pub record Stays (s t : Sending) : Type 0 where
  pub nxt : t.nxt ≡ s.nxt
  pub probed : t.probed ≡ s.probed

and_true : (b : Bool) → (b && true) ≡ b
and_true true = refl
and_true false = refl

sent_stays : (s : Sending) (end : ℕ) → s.una < 2 ^ 32 → s.nxt < 2 ^ 32 → end ≤ outstanding s → Stays s (after_sent s end)
sent_stays s end una nxt within =
    let number = (s.una + end) % 2 ^ 32 in
    let behind : past number s.una ≡ end = omega (arith, una, nxt, within) in
    let less : nat_le (past number s.una) (past s.nxt s.una) ≡ true = le-leb (past number s.una) (past s.nxt s.una) (omega (arith, behind, within)) in
    record {
      nxt = either ℕ (λ n. n ≡ s.nxt) (nat_le (past s.nxt s.una) (past number s.una)) number s.nxt
          (λ reaches. elim (leb_tells (past s.nxt s.una) (past number s.una)) [ inl t ↦ let most = t.1 in omega (arith, behind, within, most, una, nxt) | inr t ↦ clash _ reaches t.0 ])
          (λ before. refl);
      probed = ap (λ b. s.probed && b) less ∙ and_true s.probed;
    }

-- a window that was told has grown by nothing since
told_stays : (r : Receiving) → IsKeeping r → has_grown (after_advertisement r) ≡ false
told_stays r is =
    let told = whole_units r.unit (receive_room r) in
    let filled = in_units r.unit (receive_room r) is.some in
    either Receiving (λ t. has_grown t ≡ false) (has_grown r) _ r
    (λ grown. lt-leb (past ((r.rnext + told) % 2 ^ 32) r.rnext + 1460) (receive_room r) (short r.rnext told (receive_room r) r.unit is.small (omega (arith, is.sized, is.most)) is.few filled.0 filled.1))
    (λ same. same)
  where
    short : (rnext told room unit : ℕ) → rnext < 2 ^ 32 → room ≤ 1048576 → unit ≤ 1460 → told ≤ room → room < told + unit → room < past ((rnext + told) % 2 ^ 32) rnext + 1460
    short rnext told room unit small few unit_few within near = omega (arith, small, few, unit_few, within, near)

-- once it was told, none has to be
none_to_pay : (y : View) → IsKeeping y.receiving → is_ack_due (after_speaking y) ≡ false
none_to_pay y is =
    let opened = not (is_opening y.state) && not (is_closed y.state) in
    ap (λ b. opened && true && b) (told_stays y.receiving is) ∙ and_false (opened && true)

none_but_to_ask : (v : View) → IsKeeping v.receiving → is_ack_due v ≡ false → is_ack_due (after_asking v) ≡ false
none_but_to_ask v is quiet =
    let opened = not (is_opening v.state) && not (is_closed v.state) in
    ap (λ b. b || (opened && true && has_grown (after_advertisement v.receiving))) (neither v.owes_ack _ quiet).0
    ∙ ap (λ b. opened && true && b) (told_stays v.receiving is) ∙ and_false (opened && true)

-- Which segments.

-- an open end sends no reset
pub no_rst : (v : View) → IsSound v → is_closed v.state ≡ false → first_due v ≡ Some Rst → ⊥
no_rst v sound lives first = by_due (λ o. o ≡ Some Rst → ⊥) v (record {
  nothing = λ quiet heard e. cc;
  rst = λ owes e. clash v.owes_reset owes (unowed v.owes_reset (is_closed v.state) v.released lives sound.reset);
  syn = λ opening goes e. cc;
  once_more = λ opened place is goes e. cc;
  octets = λ opened sends e. cc;
  fin = λ opened sends e. cc;
  probe = λ opened owes goes e. cc;
  ack = λ owes e. cc;
  asks = λ quiet owes e. cc;
}) first

-- a stretch begins where something goes out again, or behind all that went out
abbrev Begins : View → Stretch → Type 0
Begins v t = ((place : ℕ) × IsMarked v place × (place < outstanding v.sending) × (t.offset ≡ place)) ⊎ (outstanding v.sending ≤ t.offset)

text_begins : (v : View) (stretch : Stretch) → first_due v ≡ Some (Text stretch) → Begins v stretch
text_begins v stretch first = by_due (λ o. (t : Stretch) → o ≡ Some (Text t) → Begins v t) v (record {
  nothing = λ quiet heard t e. cc;
  rst = λ owes t e. cc;
  syn = λ opening goes t e. cc;
  once_more = λ opened place is goes t e. let same : again v place ≡ t = cc in inl (place, is, goes_within v place goes, ap (λ (x : Stretch). x.offset) (sym same));
  octets = λ opened sends t e. let same : new_octets v ≡ t = cc in subst (Begins v) same (inr (omega arith));
  fin = λ opened sends t e. let same : fin_alone v ≡ t = cc in subst (Begins v) same (inr (omega arith));
  probe = λ opened owes goes t e. cc;
  ack = λ owes t e. cc;
  asks = λ quiet owes t e. cc;
}) stretch first

probe_owed : (v : View) → first_due v ≡ Some Probe → v.resend.owes_probe ≡ true
probe_owed v first = by_due (λ o. o ≡ Some Probe → v.resend.owes_probe ≡ true) v (record {
  nothing = λ quiet heard e. cc;
  rst = λ owes e. cc;
  syn = λ opening goes e. cc;
  once_more = λ opened place is goes e. cc;
  octets = λ opened sends e. cc;
  fin = λ opened sends e. cc;
  probe = λ opened owes goes e. owes;
  ack = λ owes e. cc;
  asks = λ quiet owes e. cc;
}) first

ack_owed : (v : View) → first_due v ≡ Some Ack → is_ack_due v ≡ true
ack_owed v first = by_due (λ o. o ≡ Some Ack → is_ack_due v ≡ true) v (record {
  nothing = λ quiet heard e. cc;
  rst = λ owes e. cc;
  syn = λ opening goes e. cc;
  once_more = λ opened place is goes e. cc;
  octets = λ opened sends e. cc;
  fin = λ opened sends e. cc;
  probe = λ opened owes goes e. cc;
  ack = λ owes e. owes;
  asks = λ quiet owes e. cc;
}) first

question_owed : (v : View) → first_due v ≡ Some KeepAlive → (is_ack_due v ≡ false) × ((v.alive.owed && rests v) ≡ true)
question_owed v first = by_due (λ o. o ≡ Some KeepAlive → (is_ack_due v ≡ false) × ((v.alive.owed && rests v) ≡ true)) v (record {
  nothing = λ quiet heard e. cc;
  rst = λ owes e. cc;
  syn = λ opening goes e. cc;
  once_more = λ opened place is goes e. cc;
  octets = λ opened sends e. cc;
  fin = λ opened sends e. cc;
  probe = λ opened owes goes e. cc;
  ack = λ owes e. cc;
  asks = λ quiet owes e. (quiet, owes);
}) first

-- What goes out again.

pub one_at_most : (b : Bool) → one_if b ≤ 1
one_at_most true = omega arith
one_at_most false = omega arith

owed_less : (a b : Bool) → one_if (a && b) ≤ one_if a
owed_less true b = one_at_most b
owed_less false b = omega arith

left_past : (alone : Bool) (end out most : ℕ) → left_from (if alone then None else mark_past end out) most ≤ most - end
left_past true end out most = omega arith
left_past false end out most = either (Option ℕ) (λ o. left_from o most ≤ most - end) (nat_lt end out) (Some end) None (λ more. omega arith) (λ all. omega arith)

-- where a stretch leaves the mark, and what else is owed
record Left (v y : View) (end : ℕ) : Type 0 where
  mark : y.resend.mark ≡ (if is_alone v.resend then None else mark_past end (outstanding (after_sent v.sending end)))
  probe : y.resend.owes_probe ≡ v.resend.owes_probe
  alive : y.alive ≡ v.alive

again_left : (v : View) (stretch : Stretch) (now : Moment) → nat_lt stretch.offset (outstanding v.sending) ≡ true → Left v (after_stretch v stretch now) (end_of stretch)
again_left v stretch now before =
    let P : View → Type 0 = λ y. Left v y (end_of stretch) in
    let sent = after_numbers v stretch.offset (end_of stretch) now in
    let numbers : P sent = either View P (nat_lt stretch.offset (outstanding v.sending)) (after_resent v (end_of stretch)) (after_first_sent v (end_of stretch) now) (λ again. record { mark = refl; probe = refl; alive = refl }) (λ new. clash (nat_lt stretch.offset (outstanding v.sending)) before new) in
    either View P (brings_new_octets v stretch) (after_new_text sent stretch) sent (λ new. record { mark = numbers.mark; probe = numbers.probe; alive = numbers.alive }) (λ old. numbers)

-- What an end sends: more numbers, or none that are new, and then it owes less.
pub record SendsAgain (x y : View) (s : Segment) : Type 0 where
  pub left : left_of y < left_of x
  pub due : one_if (is_ack_due y) ≤ one_if (is_ack_due x)
  pub short : x.sending.probed ≡ true → is_short (stance x) s ≡ true

pub record SendsAnswer (x y : View) (s : Segment) : Type 0 where
  pub left : left_of y ≤ left_of x
  pub due : one_if (is_ack_due x) ≡ 1
  pub paid : one_if (is_ack_due y) ≡ 0
  pub light : is_light (stance x) s ≡ true

abbrev pub Sends : View → View → Segment → Type 0
Sends x y s = (outstanding x.sending < outstanding y.sending) ⊎ (Stays x.sending y.sending × (SendsAgain x y s ⊎ SendsAnswer x y s))

stretch_len : (v : View) (stretch : Stretch) → stretch.offset + stretch.count ≤ length v.sending.held → length (octets_of_stretch v stretch) ≡ stretch.count
stretch_len v stretch held =
    let l = v.sending.held in
    length-take stretch.count (drop stretch.offset l) ∙ (ap (min stretch.count) (length-drop stretch.offset l) ∙ omega (arith, held))

bit_is : (b : Bool) → bit b 1 ≡ (if b then 1 else 0)
bit_is true = refl
bit_is false = refl

-- a segment of one number, that at SND.UNA
short_so : (x : Stance) (s : Segment) → s.number ≡ x.una → s.acknowledgement ≡ x.rnext → span_of s ≡ 1 → is_short x s ≡ true
short_so x s number ack span =
    ap (λ n. (n == x.una) && (s.acknowledgement == x.rnext) && (span_of s == 1)) number
    ∙ ap (λ b. b && (s.acknowledgement == x.rnext) && (span_of s == 1)) (equal x.una)
    ∙ ap (λ n. (n == x.rnext) && (span_of s == 1)) ack
    ∙ ap (λ b. b && (span_of s == 1)) (equal x.rnext)
    ∙ ap (λ n. n == 1) span

text_short : (v : View) (stretch : Stretch) → IsSound v → is_closed v.state ≡ false → IsHeld v stretch → end_of stretch ≤ outstanding v.sending → v.sending.probed ≡ true → is_short (stance v) (segment_of v (Text stretch)) ≡ true
text_short v stretch sound lives held within probed =
    let out = probed_is_one v sound lives probed in
    let some = held.some in
    let zero : stretch.offset ≡ 0 = omega (arith, within, out, some) in
    let len = stretch_len v stretch held.held in
    let flag = bit_is stretch.fin in
    short_so (stance v) (segment_of v (Text stretch)) (ap (λ n. (v.sending.una + n) % 2 ^ 32) zero ∙ omega (arith, sound.una)) refl
    (omega (arith, len, flag, within, out, some, zero))

probe_one : (v : View) → end_of (probe_stretch v) ≡ 1
probe_one v = either Stretch (λ t. end_of t ≡ 1) (length v.sending.held == 0) (record { offset = 0; count = 0; fin = true }) (record { offset = 0; count = 1; fin = false }) (λ none. refl) (λ some. refl)

probe_short : (v : View) → IsHeld v (probe_stretch v) → is_short (stance v) (segment_of v Probe) ≡ true
probe_short v held =
    let t = probe_stretch v in
    let one = probe_one v in
    let zero : t.offset ≡ 0 = either Stretch (λ t. t.offset ≡ 0) (length v.sending.held == 0) (record { offset = 0; count = 0; fin = true }) (record { offset = 0; count = 1; fin = false }) (λ none. refl) (λ some. refl) in
    let len = stretch_len v t held.held in
    let flag = bit_is t.fin in
    short_so (stance v) (segment_of v Probe) refl refl (omega (arith, len, flag, one, zero))

sends_text : (v : View) (stretch : Stretch) (now : Moment) → IsSound v → is_closed v.state ≡ false → first_due v ≡ Some (Text stretch) → Sends v (after_emitted v (Text stretch) now) (segment_of v (Text stretch))
sends_text v stretch now sound lives first =
    let held : IsHeld v stretch = due-may v (Text stretch) sound first in
    let y = after_stretch v stretch now in
    let w = after_emitted v (Text stretch) now in
    let out = few_outstanding v sound in
    let end = end_of stretch in
    let sends : w.sending ≡ after_sent v.sending end = stretch_sends v stretch now in
    let some = held.some in
    elim (leb_tells end (outstanding v.sending)) [
      | inr beyond ↦
          let small : end < 2 ^ 32 = end_few v stretch sound held in
          let reach = out_after v.sending end sound.una sound.nxt small in
          let more = beyond.1 in
          inl (subst (λ (t : Sending). outstanding v.sending < outstanding t) (sym sends) (omega (arith, reach, more)))
      | inl before ↦
          let within = before.1 in
          let stays : Stays v.sending w.sending = subst (λ (t : Sending). Stays v.sending t) (sym sends) (sent_stays v.sending end sound.una sound.nxt within) in
          inr (
            stays,
            inl (elim (text_begins v stretch first) [
              | inr new ↦ absurd (omega (arith, within, new, some))
              | inl old ↦
                  let place = old.0 in
                  let is = old.1 in
                  let below = old.2 in
                  let at = old.3 in
                  let l = again_left v stretch now (lt-ltb stretch.offset (outstanding v.sending) (omega (arith, below, at))) in
                  let same : outstanding w.sending ≡ outstanding v.sending = ap₂ (λ n u. past n u) stays.nxt (ap (λ (t : Sending). t.una) sends) in
                  let left : left_from w.resend.mark (outstanding w.sending) ≤ outstanding w.sending - end = subst (λ m. left_from m (outstanding w.sending) ≤ outstanding w.sending - end) (sym l.mark) (left_past (is_alone v.resend) end (outstanding (after_sent v.sending end)) (outstanding w.sending)) in
                  let was : left_from v.resend.mark (outstanding v.sending) ≡ outstanding v.sending - is.mark = ap (λ m. left_from m (outstanding v.sending)) is.is in
                  let below_mark = sound.mark is.mark is.is in
                  let from = is.from in
                  let probe : one_if w.resend.owes_probe ≤ one_if v.resend.owes_probe = subst (λ b. one_if (y.resend.owes_probe && probes (after_speaking y)) ≤ one_if b) l.probe (owed_less y.resend.owes_probe (probes (after_speaking y))) in
                  let alive : one_if w.alive.owed ≡ one_if v.alive.owed = ap (λ (a : Alive). one_if a.owed) l.alive in
                  let none : one_if (is_ack_due w) ≡ 0 = ap one_if (none_to_pay y (subst IsKeeping (sym (stretch_receives v stretch now)) (sound_keeping v sound))) in
                  record {
                    left = omega (arith, left, was, same, probe, alive, from, at, some, below_mark, within);
                    due = omega (arith, none);
                    short = text_short v stretch sound lives held within;
                  }
            ]),
          )
    ]
  where
    end_few : (v : View) (stretch : Stretch) → IsSound v → IsHeld v stretch → end_of stretch < 2 ^ 32
    end_few v stretch sound held =
        let out = few_outstanding v sound in
        let joined = held.joined in
        let size = held.size in
        let one : (if stretch.fin then 1 else 0) ≤ 1 = one_at_most stretch.fin in
        omega (arith, out, joined, size, one)

sends_probe : (v : View) (now : Moment) → IsSound v → is_closed v.state ≡ false → first_due v ≡ Some Probe → Sends v (after_emitted v Probe now) (segment_of v Probe)
sends_probe v now sound lives first =
    let held : IsHeld v (probe_stretch v) = due-may v Probe sound first in
    let end = end_of (probe_stretch v) in
    let one : end ≡ 1 = probe_one v in
    let y = after_probe v in
    let w = after_emitted v Probe now in
    let sends : w.sending ≡ after_probed v.sending end = probe_sends v in
    let nxt : w.sending.nxt ≡ (after_sent v.sending end).nxt = ap (λ (t : Sending). t.nxt) sends in
    let una : w.sending.una ≡ v.sending.una = ap (λ (t : Sending). t.una) sends in
    let out : outstanding w.sending ≡ outstanding (after_sent v.sending end) = ap₂ (λ n u. past n u) nxt una in
    let reach = out_after v.sending end sound.una sound.nxt (omega (arith, one)) in
    elim (leb_tells end (outstanding v.sending)) [
      | inr beyond ↦ let more = beyond.1 in inl (omega (arith, out, reach, more))
      | inl before ↦
          let within = before.1 in
          let stays = sent_stays v.sending end sound.una sound.nxt within in
          let some : (outstanding v.sending == 0) ≡ false = elim (eqb_tells (outstanding v.sending) 0) [ inl none ↦ let zero = none.1 in absurd (omega (arith, within, one, zero)) | inr other ↦ other.0 ] in
          let probed : w.sending.probed ≡ v.sending.probed = ap (λ (t : Sending). t.probed) sends ∙ ap (λ b. (after_sent v.sending end).probed || b) some ∙ or_false (after_sent v.sending end).probed ∙ stays.probed in
          let kept : (y.resend.mark ≡ v.resend.mark) × (y.resend.owes_probe ≡ false) × (y.alive ≡ v.alive) = left v in
          let same : outstanding w.sending ≡ outstanding v.sending = omega (arith, out, reach, within) in
          let mark : left_from w.resend.mark (outstanding w.sending) ≡ left_from v.resend.mark (outstanding v.sending) = ap₂ left_from kept.0 same in
          let owed : one_if v.resend.owes_probe ≡ 1 = ap one_if (probe_owed v first) in
          let paid : one_if w.resend.owes_probe ≡ 0 = ap (λ b. one_if (b && probes (after_speaking y))) kept.1 in
          let alive : one_if w.alive.owed ≡ one_if v.alive.owed = ap (λ (a : Alive). one_if a.owed) kept.2 in
          let none : one_if (is_ack_due w) ≡ 0 = ap one_if (none_to_pay y (subst IsKeeping (sym (probe_receives v)) (sound_keeping v sound))) in
          inr (record { nxt = nxt ∙ stays.nxt; probed = probed }, inl (record { left = omega (arith, mark, owed, paid, alive); due = omega (arith, none); short = λ probed. probe_short v held }))
    ]
  where
    or_false : (b : Bool) → (b || false) ≡ b
    or_false true = refl
    or_false false = refl

    left : (v : View) → let y = after_probe v in (y.resend.mark ≡ v.resend.mark) × (y.resend.owes_probe ≡ false) × (y.alive ≡ v.alive)
    left v =
        let P : View → Type 0 = λ y. (y.resend.mark ≡ v.resend.mark) × (y.resend.owes_probe ≡ false) × (y.alive ≡ v.alive) in
        let sent : View = record v { sending = after_probed v.sending (end_of (probe_stretch v)); resend = resend_probed v.resend } in
        either View P (brings_new_octets v (probe_stretch v)) (after_new_octets sent) sent (λ new. (refl, refl, refl)) (λ old. (refl, refl, refl))

light_so : (v : View) → is_light (stance v) (segment_of v Ack) ≡ true
light_so v =
    let x = stance v in
    let s = segment_of v Ack in
    ap (λ b. b && (s.acknowledgement == x.rnext) && (span_of s == 0)) (equal s.number) ∙ ap (λ b. b && (span_of s == 0)) (equal x.rnext)

sends_ack : (v : View) (now : Moment) → IsSound v → first_due v ≡ Some Ack → Sends v (after_emitted v Ack now) (segment_of v Ack)
sends_ack v now sound first =
    let probe = owed_less v.resend.owes_probe (probes (after_speaking v)) in
    inr (
      record { nxt = refl; probed = refl },
      inr (record {
        left = omega (arith, probe);
        due = ap one_if (ack_owed v first);
        paid = ap one_if (none_to_pay v (sound_keeping v sound));
        light = light_so v;
      }),
    )

-- a silent peer is asked where nothing is held, and so not behind a probe of a closed window
none_at_rest : (opening : Bool) (t : State) (held out : ℕ) → opening ≡ false → may_rest t ≡ true → (held == 0) ≡ true → out ≤ held + (if opening || awaits_fin_ack t then 1 else 0) → out ≡ 0
none_at_rest false t held out o rest none few = by_state t rest (eqb-true held 0 none) few
  where
    by_state : (t : State) → may_rest t ≡ true → held ≡ 0 → out ≤ held + (if awaits_fin_ack t then 1 else 0) → out ≡ 0
    by_state Established rest zero few = omega (arith, zero, few)
    by_state CloseWait rest zero few = omega (arith, zero, few)
    by_state FinWait2 rest zero few = omega (arith, zero, few)
    by_state _ rest zero few = cc
none_at_rest true t held out o rest none few = cc

sends_question : (v : View) (now : Moment) → IsSound v → is_closed v.state ≡ false → is_opening v.state ≡ false → first_due v ≡ Some KeepAlive → Sends v (after_emitted v KeepAlive now) (segment_of v KeepAlive)
sends_question v now sound lives opened first =
    let owes = question_owed v first in
    let quiet = rests v in
    let one : one_if v.alive.owed ≡ 1 = ap one_if (and_left v.alive.owed quiet owes.1) in
    let resting = and_right v.alive.owed quiet owes.1 in
    let out = none_at_rest (is_opening v.state) v.state (length v.sending.held) (outstanding v.sending) opened (and_left (may_rest v.state) _ resting) (and_right (may_rest v.state) (length v.sending.held == 0) resting) sound.flight in
    let probe = owed_less v.resend.owes_probe (probes (after_asking v)) in
    let none : one_if (is_ack_due (after_emitted v KeepAlive now)) ≡ 0 = ap one_if (none_but_to_ask v (sound_keeping v sound) owes.0) in
    inr (
      record { nxt = refl; probed = refl },
      inl (record {
        left = omega (arith, one, probe);
        due = omega (arith, none);
        short = λ probed. let single = probed_is_one v sound lives probed in absurd (omega (arith, single, out));
      }),
    )

pub sends : (v : View) (due : Due) (now : Moment) → IsSound v → is_closed v.state ≡ false → is_opening v.state ≡ false → first_due v ≡ Some due → Sends v (after_emitted v due now) (segment_of v due)
sends v Rst now sound lives opened first = absurd (no_rst v sound lives first)
sends v Syn now sound lives opened first = clash (is_opening v.state) (opening_syn v first) opened
sends v (Text stretch) now sound lives opened first = sends_text v stretch now sound lives first
sends v Probe now sound lives opened first = sends_probe v now sound lives first
sends v Ack now sound lives opened first = sends_ack v now sound first
sends v KeepAlive now sound lives opened first = sends_question v now sound lives opened first

-- it has ACK, and neither RST nor SYN
pub record IsPlain (s : Segment) : Type 0 where
  pub no_rst : s.flags.rst ≡ false
  pub no_syn : s.flags.syn ≡ false
  pub ack : s.flags.ack ≡ true

pub plainly : (v : View) (due : Due) → IsSound v → is_closed v.state ≡ false → is_opening v.state ≡ false → first_due v ≡ Some due → IsPlain (segment_of v due)
plainly v Rst sound lives opened first = absurd (no_rst v sound lives first)
plainly v Syn sound lives opened first = clash (is_opening v.state) (opening_syn v first) opened
plainly v (Text stretch) sound lives opened first = record { no_rst = refl; no_syn = refl; ack = refl }
plainly v Probe sound lives opened first = record { no_rst = refl; no_syn = refl; ack = refl }
plainly v Ack sound lives opened first = record { no_rst = refl; no_syn = refl; ack = refl }
plainly v KeepAlive sound lives opened first = record { no_rst = refl; no_syn = refl; ack = refl }
