-- Why what goes out first has no more octets than the reader takes, where that has all that was acknowledged and no more.
use Rattle.std.proofs.Common.{◌≡◌, ◌⊎◌, ℕ, ◌-◌, ◌<◌, ◌≤◌, ◌==◌, false, true, if◌then◌else◌, length, take, drop, Option, Some, inl, inr, arith, refl, ◌∙◌, ap, subst}
use Rattle.std.proofs.lemmas.List.{length-take}
use Rattle.tcp_segment.specs.Wire.{wire, past}
use Rattle.tcp_segment.proofs.StreamPositions.{past-wire}
use Rattle.tcp_halves.specs.Heard.{settled}
use Rattle.tcp_halves.specs.Stream.{outstanding, receive_window}
use Rattle.tcp_halves.proofs.Choices.{either, by}
use Rattle.tcp_state.specs.declared.emission.Due.{Due}
use Rattle.tcp_state.specs.declared.emission.Due.TheVariants.{Rst, Syn, Text, Probe, Ack, KeepAlive}
use Rattle.tcp_state.specs.declared.emission.Stretch.{Stretch}
use Rattle.tcp_state.specs.View.{View, IsSound, is_closed}
use Rattle.tcp_state.specs.Due.{again, new_octets, fin_alone, probe_stretch, first_due}
use Rattle.tcp_state.specs.Said.{segment_of}
use Rattle.tcp_state.proofs.AckNumbers.{probed_is_one}
use Rattle.tcp_state.proofs.Emissions.{by_due}
use Rattle.tcp_state.proofs.Places.{again_few}
use Rattle.round_law.specs.Progress.{Meet, Fits}

-- It is of what is outstanding, or within the peer's window, or an octet.

abbrev IsWithin : View → ℕ → Type 0
IsWithin w n = (n ≤ outstanding w.sending) ⊎ ((n ≤ w.sending.window) ⊎ (n ≤ 1))

abbrev HasFew : View → Option Due → Type 0
HasFew w o = (due : Due) → o ≡ Some due → IsWithin w (length (let s = segment_of w due in s.octets))

this_one : (w : View) (due : Due) → IsWithin w (length (let s = segment_of w due in s.octets)) → HasFew w (Some due)
this_one w due few other is = let same : due ≡ other = cc in subst (λ x. IsWithin w (length (let s = segment_of w x in s.octets))) same few

probes_few : (w : View) → (probe_stretch w).count ≤ 1
probes_few w = either Stretch (λ t. t.count ≤ 1) (length w.sending.held == 0) (record { offset = 0; count = 0; fin = true }) (record { offset = 0; count = 1; fin = false }) (λ none. omega arith) (λ some. omega arith)

at_most_one : (n : ℕ) → n ≡ 0 → n ≤ 1
at_most_one n none = omega (arith, none)

texts_few : (w : View) (t : Stretch) → length (take t.count (drop t.offset w.sending.held)) ≤ t.count
texts_few w t = omega (arith, length-take t.count (drop t.offset w.sending.held))

-- once more, or for the first time
repeats_within : (w : View) (place : ℕ) → length (let s = segment_of w (Text (again w place)) in s.octets) ≤ outstanding w.sending
repeats_within w place = most _ (texts_few w (again w place))
  where
    most : (n : ℕ) → n ≤ (let t = again w place in t.count) → n ≤ outstanding w.sending
    most n least = let few = again_few w place in omega (arith, few, least)

new_within : (w : View) → length (let s = segment_of w (Text (new_octets w)) in s.octets) ≤ w.sending.window
new_within w = most _ (texts_few w (new_octets w))
  where
    most : (n : ℕ) → n ≤ (let t = new_octets w in t.count) → n ≤ w.sending.window
    most n least = omega (arith, least)

probe_within : (w : View) → length (let s = segment_of w Probe in s.octets) ≤ 1
probe_within w = most _ (texts_few w (probe_stretch w))
  where
    most : (n : ℕ) → n ≤ (probe_stretch w).count → n ≤ 1
    most n least = let few = probes_few w in omega (arith, least, few)

goes_few : (w : View) → HasFew w (first_due w)
goes_few w = by_due (HasFew w) w (record {
  nothing = λ quiet heard due is. cc;
  rst = λ owes. this_one w Rst (inr (inr (at_most_one _ refl)));
  syn = λ opening goes. this_one w Syn (inr (inr (at_most_one _ refl)));
  once_more = λ opened place marked goes. this_one w (Text (again w place)) (inl (repeats_within w place));
  octets = λ opened sends. this_one w (Text (new_octets w)) (inr (inl (new_within w)));
  fin = λ opened sends. this_one w (Text (fin_alone w)) (inr (inr (at_most_one _ refl)));
  probe = λ opened owes goes. this_one w Probe (inr (inr (probe_within w)));
  ack = λ owes. this_one w Ack (inr (inr (at_most_one _ refl)));
  asks = λ quiet owes. this_one w KeepAlive (inr (inr (at_most_one _ refl)));
})

-- So the reader has room for it.
pub first_fits : (w e : View) (meet : Meet w e) → Fits w.sending e.receiving → IsSound w → is_closed w.state ≡ false → 0 < receive_window e.receiving → (due : Due) → first_due w ≡ Some due → meet.una ≡ meet.next
    → length (let s = segment_of w due in s.octets) ≤ receive_window e.receiving
first_fits w e meet fits sound lives room due first same =
    let from_una : past e.receiving.rnext w.sending.una ≡ meet.next - meet.una = ap (λ n. past n w.sending.una) meet.next_number
    ∙ (ap (λ n. past (wire meet.initial meet.next) n) meet.una_number ∙ past-wire meet.initial meet.una meet.next meet.behind (omega (arith, same))) in
    elim (goes_few w due first) [
      | inl again ↦ by (length (let s = segment_of w due in s.octets) ≤ receive_window e.receiving) w.sending.probed
          (λ probed. let one = probed_is_one w sound lives probed in omega (arith, one, again, room))
          (λ none.
          let all : settled w.sending ≡ outstanding w.sending = ap (λ b. outstanding w.sending - (if b then 1 else 0)) none ∙ omega arith in
          let sent = fits.sent in
          omega (arith, all, again, sent, from_una, same))
      | inr others ↦ elim others [
        | inl new ↦ let window = fits.window in omega (arith, new, window, from_una, same)
        | inr one ↦ omega (arith, one, room)
      ]
    ]
