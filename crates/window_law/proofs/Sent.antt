-- What goes out ends within the window that is known, and tells no more than is advertised.
use Rattle.std.proofs.Common.{◌≡◌, ℕ, ◌+◌, ◌-◌, ◌%◌, ◌<◌, ◌≤◌, ◌==◌, ◌^◌, ◌&&◌, ◌||◌, ◌⊎◌, inl, inr, nat_le, Bool, true, false, if◌then◌else◌, Some, length, arith, refl, sym, ◌∙◌, ap, subst}
use Rattle.std.proofs.lemmas.Bool.{leb-true, le-leb}
use Rattle.std.proofs.lemmas.Bool.Decides.{leb_tells, eqb_tells}
use Rattle.clock.specs.declared.moment.Moment.{Moment}
use Rattle.tcp_segment.specs.Wire.{past}
use Rattle.tcp_halves.specs.Numbers.{later_number}
use Rattle.tcp_halves.specs.Halves.{Sending, Receiving}
use Rattle.tcp_halves.specs.Heard.{settled}
use Rattle.tcp_halves.specs.Stream.{outstanding, receive_window, after_sent, after_probed}
use Rattle.tcp_halves.specs.Windows.{has_grown, receive_room, whole_units, after_advertisement, syn_window, after_syn_advertisement}
use Rattle.tcp_halves.proofs.Choices.{either, clash, or_right}
use Rattle.tcp_halves.proofs.Keeping.{IsKeeping, in_units}
use Rattle.tcp_state.specs.declared.emission.Due.{Due}
use Rattle.tcp_state.specs.declared.emission.Due.TheVariants.{Rst, Syn, Text, Probe, Ack, KeepAlive}
use Rattle.tcp_state.specs.declared.emission.Stretch.{Stretch}
use Rattle.tcp_state.specs.declared.state.State.{State}
use Rattle.tcp_state.specs.declared.state.State.TheVariants.{SynSent, SynReceived}
use Rattle.tcp_state.specs.View.{View, IsSound, is_opening, is_syn_sent, is_syn_received}
use Rattle.tcp_state.specs.Due.{first_due, flags_of, end_of, probe_stretch, again, new_octets, fin_alone, after_syn_ack_paid, after_syn_out, after_emitted}
use Rattle.tcp_state.proofs.Again.{ends_sent}
use Rattle.tcp_state.proofs.Clocked.{syn_out}
use Rattle.tcp_state.proofs.Emissions.{by_due, numbers_receive, stretch_sends, stretch_receives, probe_sends, probe_receives}
use Rattle.tcp_state.proofs.NewNumbers.{keeps_window}
use Rattle.tcp_state.proofs.Onward.{few_outstanding}
use Rattle.tcp_state.proofs.Places.{goes_within, again_few}
use Rattle.tcp_state.proofs.Sound.{sound_keeping}

-- so many numbers from SND.UNA on went out: no more is settled than was, or just those, which are more than were outstanding
abbrev Ends : Sending → ℕ → Sending → Type 0
Ends s count t = (settled t ≤ settled s) ⊎ ((settled t ≤ count) × (outstanding s < count))

numbers_end : (una nxt count : ℕ) (probed : Bool) → una < 2 ^ 32 → nxt < 2 ^ 32 → count < 2 ^ 31 → past nxt una < 2 ^ 31
    → (let end = (una + count) % 2 ^ 32 in let t = later_number una nxt end in let p = probed && nat_le (past end una) (past nxt una) in
    ((past t una - (if p then 1 else 0)) ≤ (past nxt una - (if probed then 1 else 0))) ⊎ (((past t una - (if p then 1 else 0)) ≤ count) × (past nxt una < count)))
numbers_end una nxt count probed u n small near =
    let end = (una + count) % 2 ^ 32 in
    let at : past end una ≡ count = omega (arith, u, small) in
    elim (leb_tells count (past nxt una)) [
      | inl within ↦
          let stays : nat_le (past end una) (past nxt una) ≡ true = le-leb (past end una) (past nxt una) (omega (arith, at, within.1)) in
          let same : later_number una nxt end ≡ nxt = either ℕ (λ m. m ≡ nxt) (nat_le (past nxt una) (past end una)) end nxt
          (λ reaches. let most = leb-true (past nxt una) (past end una) reaches in omega (arith, u, n, at, within.1, most)) (λ before. refl) in
          inl (subst (λ b. (past (later_number una nxt end) una - (if b then 1 else 0)) ≤ (past nxt una - (if probed then 1 else 0))) (sym (ap (λ b. probed && b) stays ∙ and_true probed))
          (omega (arith, ap (λ m. past m una) same)))
      | inr beyond ↦
          let goes : later_number una nxt end ≡ end = ap (λ b. if b then end else nxt) (le-leb (past nxt una) (past end una) (omega (arith, at, beyond.1))) in
          let reach : past (later_number una nxt end) una ≡ count = ap (λ m. past m una) goes ∙ at in
          inr (omega (arith, reach), beyond.1)
    ]
  where
    and_true : (b : Bool) → (b && true) ≡ b
    and_true true = refl
    and_true false = refl

sent_ends : (v : View) (count : ℕ) → IsSound v → count < 2 ^ 31 → Ends v.sending count (after_sent v.sending count)
sent_ends v count sound small = let few = few_outstanding v sound in numbers_end v.sending.una v.sending.nxt count v.sending.probed sound.una sound.nxt small (omega (arith, few))

-- a flag takes a number at most
flag_few : (b : Bool) → (if b then 1 else 0) ≤ 1
flag_few true = omega arith
flag_few false = omega arith

few_end : (v : View) (stretch : Stretch) → IsSound v → first_due v ≡ Some (Text stretch) → end_of stretch < 2 ^ 21
few_end v stretch sound first =
    let few = few_outstanding v sound in
    by_due (λ o. (t : Stretch) → o ≡ Some (Text t) → end_of t < 2 ^ 21) v (record {
      nothing = λ quiet heard t e. cc;
      rst = λ owes t e. cc;
      syn = λ opening goes t e. cc;
      once_more = λ opened place is goes t e.
          let same : again v place ≡ t = cc in
          let within = goes_within v place goes in
          let octets = again_few v place in
          let flag = flag_few (let x = again v place in x.fin) in
          subst (λ (x : Stretch). end_of x < 2 ^ 21) same (omega (arith, octets, within, few, sound.segment, flag));
      octets = λ opened sends t e. let same : new_octets v ≡ t = cc in let flag = flag_few (let x = new_octets v in x.fin) in subst (λ (x : Stretch). end_of x < 2 ^ 21) same (omega (arith, few, sound.segment, flag));
      fin = λ opened sends t e. let same : fin_alone v ≡ t = cc in subst (λ (x : Stretch). end_of x < 2 ^ 21) same (omega (arith, few));
      probe = λ opened owes goes t e. cc;
      ack = λ owes t e. cc;
      asks = λ quiet owes t e. cc;
    }) stretch first

-- a SYN is due of an opening alone
pub opening_syn : (v : View) → first_due v ≡ Some Syn → is_opening v.state ≡ true
opening_syn v first = by_due (λ o. o ≡ Some Syn → is_opening v.state ≡ true) v (record {
  nothing = λ quiet heard e. cc;
  rst = λ owes e. cc;
  syn = λ opening goes e. opening;
  once_more = λ still place is goes e. cc;
  octets = λ still sends e. cc;
  fin = λ still sends e. cc;
  probe = λ still owes goes e. cc;
  ack = λ owes e. cc;
  asks = λ quiet owes e. cc;
}) first

no_syn : (v : View) → is_opening v.state ≡ false → first_due v ≡ Some Syn → ⊥
no_syn v opened first = clash (is_opening v.state) (opening_syn v first) opened

-- more is settled only up to the end of the window
abbrev pub Settles : View → View → Type 0
Settles v w = (settled w.sending ≤ settled v.sending) ⊎ (settled w.sending ≤ v.sending.window)

text_settles : (v : View) (stretch : Stretch) (now : Moment) → IsSound v → first_due v ≡ Some (Text stretch) → Settles v (after_emitted v (Text stretch) now)
text_settles v stretch now sound first =
    subst (λ t. (settled t ≤ settled v.sending) ⊎ (settled t ≤ v.sending.window)) (sym (stretch_sends v stretch now))
    (elim (sent_ends v (end_of stretch) sound (let few = few_end v stretch sound first in omega (arith, few))) [
      | inl no_more ↦ inl no_more
      | inr more ↦ elim (leb_tells (outstanding v.sending) stretch.offset) [
        | inl past_all ↦ let within = (keeps_window v stretch sound first past_all.1).1 in inr (let most = more.0 in omega (arith, most, within))
        | inr again_out ↦ let within = (ends_sent v stretch sound first again_out.1).1 in let beyond = more.1 in absurd (omega (arith, within, beyond))
      ]
    ])

probe_settles : (v : View) (now : Moment) → IsSound v → Settles v (after_emitted v Probe now)
probe_settles v now sound =
    let s = v.sending in
    let one : end_of (probe_stretch v) ≡ 1 = either Stretch (λ t. end_of t ≡ 1) (length s.held == 0) _ _ (λ none. refl) (λ some. refl) in
    let few = few_outstanding v sound in
    let sent = after_sent s 1 in
    subst (λ t. (settled t ≤ settled s) ⊎ (settled t ≤ s.window)) (sym (probe_sends v ∙ ap (after_probed s) one))
    (elim (eqb_tells (outstanding s) 0) [
      | inl idle ↦
          let none = idle.1 in
          let probed : (sent.probed || (outstanding s == 0)) ≡ true = or_right sent.probed (outstanding s == 0) idle.0 in
          let out : outstanding sent ≤ 1 = elim (numbers_end s.una s.nxt 1 false sound.una sound.nxt (omega arith) (omega (arith, few))) [ inl no_more ↦ omega (arith, no_more, none) | inr more ↦ let most = more.0 in omega (arith, most) ] in
          inl (subst (λ b. (outstanding sent - (if b then 1 else 0)) ≤ settled s) (sym probed) (omega (arith, out)))
      | inr busy ↦
          let same : (sent.probed || (outstanding s == 0)) ≡ sent.probed = ap (λ b. sent.probed || b) busy.0 ∙ or_false sent.probed in
          let some = busy.1 in
          subst (λ b. ((outstanding sent - (if b then 1 else 0)) ≤ settled s) ⊎ ((outstanding sent - (if b then 1 else 0)) ≤ s.window)) (sym same)
          (elim (sent_ends v 1 sound (omega arith)) [ inl no_more ↦ inl no_more | inr more ↦ let beyond = more.1 in absurd (some (omega (arith, beyond))) ])
    ])
  where
    or_false : (b : Bool) → (b || false) ≡ b
    or_false true = refl
    or_false false = refl

pub settles : (v : View) (due : Due) (now : Moment) → IsSound v → is_opening v.state ≡ false → first_due v ≡ Some due → (let f = flags_of v due in f.rst) ≡ false → Settles v (after_emitted v due now)
settles v Rst now sound opened first unreset = cc
settles v Syn now sound opened first unreset = absurd (no_syn v opened first)
settles v (Text stretch) now sound opened first unreset = text_settles v stretch now sound first
settles v Probe now sound opened first unreset = probe_settles v now sound
settles v Ack now sound opened first unreset = inl (omega arith)
settles v KeepAlive now sound opened first unreset = inl (omega arith)

-- The window that is advertised grows, or stays.
wider : (r : Receiving) → IsKeeping r → receive_window r ≤ receive_window (after_advertisement r)
wider r is =
    either Receiving (λ t. receive_window r ≤ receive_window t) (has_grown r) (record r { edge = (r.rnext + whole_units r.unit (receive_room r)) % 2 ^ 32 }) r
    (λ grows.
    let filled = in_units r.unit (receive_room r) is.some in
    let some = filled.0 in
    let rest = filled.1 in
    let more = leb-true (receive_window r + 1460) (receive_room r) grows in
    omega (arith, some, rest, more, is.few, is.small, is.sized, is.most))
    (λ keeps. omega arith)

syn_wider : (r : Receiving) → IsKeeping r → receive_window r ≤ receive_window (after_syn_advertisement r)
syn_wider r is =
    either Receiving (λ t. receive_window r ≤ receive_window t) (nat_le (receive_window r + 1460) (syn_window r)) (record r { edge = (r.rnext + syn_window r) % 2 ^ 32 }) r
    (λ grows. let more = leb-true (receive_window r + 1460) (syn_window r) grows in omega (arith, more, is.small))
    (λ keeps. omega arith)

pub widens : (v : View) (due : Due) (now : Moment) → IsSound v → first_due v ≡ Some due → (let f = flags_of v due in f.rst) ≡ false → receive_window v.receiving ≤ (let w = after_emitted v due now in receive_window w.receiving)
widens v Rst now sound first unreset = cc
widens v Syn now sound first unreset =
    let sent = after_syn_out v now in
    let P : View → Type 0 = λ w. receive_window v.receiving ≤ receive_window w.receiving in
    let receiving : sent.receiving ≡ v.receiving = syn_out v now (λ w. w.receiving ≡ v.receiving) (numbers_receive v 0 1 now) (numbers_receive v 0 1 now) in
    either View P (is_syn_received v.state) (after_syn_ack_paid sent) sent
    (λ received. subst (λ r. receive_window v.receiving ≤ receive_window (after_syn_advertisement r)) (sym receiving) (syn_wider v.receiving (sound_keeping v sound)))
    (λ alone. subst (λ r. receive_window v.receiving ≤ receive_window r) (sym receiving) (omega arith))
widens v (Text stretch) now sound first unreset = subst (λ r. receive_window v.receiving ≤ receive_window (after_advertisement r)) (sym (stretch_receives v stretch now)) (wider v.receiving (sound_keeping v sound))
widens v Probe now sound first unreset = subst (λ r. receive_window v.receiving ≤ receive_window (after_advertisement r)) (sym (probe_receives v)) (wider v.receiving (sound_keeping v sound))
widens v Ack now sound first unreset = wider v.receiving (sound_keeping v sound)
widens v KeepAlive now sound first unreset = wider v.receiving (sound_keeping v sound)

-- A SYN that is due acknowledges the peer's where that came, and only there; no other segment has SYN.
pub syn_acks : (v : View) (due : Due) → first_due v ≡ Some due → (let f = flags_of v due in f.syn) ≡ true → is_syn_sent v.state ≡ false → (let f = flags_of v due in f.ack) ≡ true
syn_acks v Rst first syn past = cc
syn_acks v Syn first syn past = received v.state (opening_syn v first) past
  where
    received : (t : State) → is_opening t ≡ true → is_syn_sent t ≡ false → is_syn_received t ≡ true
    received SynSent o e = cc
    received SynReceived o e = refl
    received _ o e = cc
syn_acks v (Text stretch) first syn past = cc
syn_acks v Probe first syn past = cc
syn_acks v Ack first syn past = cc
syn_acks v KeepAlive first syn past = cc

pub syn_alone : (v : View) (due : Due) → (let f = flags_of v due in f.syn) ≡ true → is_syn_sent v.state ≡ true → (let f = flags_of v due in f.ack) ≡ false
syn_alone v Rst syn waits = refl
syn_alone v Syn syn waits = none v.state waits
  where
    none : (t : State) → is_syn_sent t ≡ true → is_syn_received t ≡ false
    none SynSent e = refl
    none _ e = cc
syn_alone v (Text stretch) syn waits = cc
syn_alone v Probe syn waits = cc
syn_alone v Ack syn waits = cc
syn_alone v KeepAlive syn waits = cc
