-- Why a connection that its caller closed takes no octets.
use Rattle.std.proofs.Common.{◌≡◌, ℕ, ◌+◌, ◌-◌, ◌%◌, ◌^◌, ◌<◌, ◌≤◌, ◌==◌, ◌||◌, ◌&&◌, not, nat_le, Bool, true, false, List, length, take, drop, inl, inr, arith, refl, ◌∙◌, ap}
use Rattle.std.proofs.lemmas.List.{length-take, length-drop}
use Rattle.std.proofs.lemmas.Bool.{leb-true}
use Rattle.std.proofs.lemmas.Bool.Decides.{leb_tells}
use Rattle.tcp_segment.specs.Wire.{past}
use Rattle.tcp_segment.specs.Segment.{Segment}
use Rattle.clock.specs.declared.moment.Moment.{Moment}
use Rattle.tcp_state.specs.declared.state.State.{State}
use Rattle.tcp_state.specs.declared.state.State.TheVariants.{FinWait1, Closing, LastAck, SynReceived}
use Rattle.tcp_halves.specs.Numbers.{is_before}
use Rattle.tcp_halves.specs.Halves.{Receiving}
use Rattle.tcp_halves.specs.Stream.{octets_within, after_octets, receive_window}
use Rattle.tcp_state.specs.View.{View, IsSound, is_syn_received, is_write_closed}
use Rattle.tcp_state.specs.Arrival.{is_receiving, beyond_fin, after_ack, is_read, brings_more, after_window, after_text, after_fin, after_segment, is_lost, after_lost, after_heard, after_segment_at}
use Rattle.tcp_halves.proofs.Choices.{either, clash, both, of_false, and_not}
use Rattle.tcp_state.proofs.Segments.{after_reading, by_fin, by_ack, ack_receives, by_segment, by_clock}
use Rattle.tcp_halves.proofs.Keeping.{IsKeeping, none_within}
use Rattle.tcp_state.proofs.Sound.{sound_keeping}

-- where our side is closed, octets were taken before an acknowledgement if they are after it
received_before : (t : State) → is_receiving (beyond_fin t) ≡ true → is_receiving t ≡ true
received_before FinWait1 e = refl
received_before Closing e = cc
received_before LastAck e = cc
received_before _ e = e

opening_is_open : (t : State) → is_write_closed t ≡ true → is_syn_received t ≡ false
opening_is_open SynReceived e = cc
opening_is_open _ e = refl

receiving_before : (v : View) (ack : ℕ) → is_write_closed v.state ≡ true → is_receiving (after_ack v ack).state ≡ true → is_receiving v.state ≡ true
receiving_before v ack closed = by_ack (λ w. is_receiving w.state ≡ true → is_receiving v.state ≡ true) v ack (record {
  old = λ e. e;
  beyond = λ e. e;
  opens = λ received new. clash (is_syn_received v.state) received (opening_is_open v.state closed);
  octets = λ new e. e;
  fin = λ new fin. received_before v.state;
})

not_before : (a b : ℕ) → is_before a b ≡ false → past a b < 2 ^ 31
not_before a b e = elim (leb_tells (2 ^ 31) (past a b)) [ inl t ↦ clash (nat_le (2 ^ 31) (past a b)) t.0 e | inr t ↦ t.1 ]

-- octets that end at RCV.NXT or before it add nothing, nor do those that lie so far on that they end there again
known : (rnext number len : ℕ) → rnext < 2 ^ 32 → number < 2 ^ 32 → len < 2 ^ 16 → past rnext number < 2 ^ 31 → past rnext ((number + len) % 2 ^ 32) < 2 ^ 31 → len ≤ past rnext number
known rnext number len a b c d e = omega (arith, a, b, c, d, e)

far : (rnext number len : ℕ) → rnext < 2 ^ 32 → number < 2 ^ 32 → len < 2 ^ 16 → 2 ^ 31 ≤ past rnext number → past rnext ((number + len) % 2 ^ 32) < 2 ^ 31 → 2147418112 ≤ past number rnext
far rnext number len a b c d e = omega (arith, a, b, c, d, e)

none_new : (r : Receiving) (number : ℕ) (octets : List ℕ) → IsKeeping r → number < 2 ^ 32 → length octets < 2 ^ 16 → is_before r.rnext ((number + length octets) % 2 ^ 32) ≡ false
    → length (octets_within r number octets) ≡ 0
none_new r number octets is fits short ends =
    let ended = not_before r.rnext ((number + length octets) % 2 ^ 32) ends in
    let ahead_of : ℕ = receive_window r - past number r.rnext in
    either (List ℕ) (λ l. length l ≡ 0) (is_before r.rnext number) (take ahead_of octets) (take (receive_window r) (drop (past r.rnext number) octets))
    (λ ahead.
    let away = far r.rnext number (length octets) is.small fits short (leb-true (2 ^ 31) (past r.rnext number) ahead) ended in
    omega (arith, length-take ahead_of octets, away, is.fits, is.sized, is.most))
    (λ behind.
    let all : length octets ≤ past r.rnext number = known r.rnext number (length octets) is.small fits short (not_before r.rnext number behind) ended in
    omega (arith, length-take (receive_window r) (drop (past r.rnext number) octets), length-drop (past r.rnext number) octets, all))

-- a segment of which no octets are lost, though it is read, ends before RCV.NXT or has none
all_known : (v : View) (s : Segment) → v.released ≡ true → is_receiving v.state ≡ true → is_read v s ≡ true → is_lost v s ≡ false → (length s.octets == 0) ≡ false
    → is_before v.receiving.rnext ((s.number + length s.octets) % 2 ^ 32) ≡ false
all_known v s released receiving read kept some =
    last (not (length s.octets == 0)) _ (of_false (length s.octets == 0) some)
    (last (v.released && is_receiving v.state && is_read v s) (brings_more v s) (both (v.released && is_receiving v.state) (is_read v s) (both v.released (is_receiving v.state) released receiving) read) kept)
  where
    last : (a b : Bool) → a ≡ true → (a && b) ≡ false → b ≡ false
    last true b e f = f
    last false b e f = cc

or_false : (a b : Bool) → (a || not b) ≡ false → (a ≡ false) × (b ≡ true)
or_false true b e = cc
or_false false true e = (refl, refl)
or_false false false e = cc

pub readable_by_fin : (w : View) (s : Segment) → (after_fin w s).receiving.readable ≡ w.receiving.readable
readable_by_fin w s = by_fin (λ x. x.receiving.readable ≡ w.receiving.readable) w s (λ counts. refl) refl refl

-- what a segment has to be for its octets to matter
record IsKept (v : View) (s : Segment) : Type 0 where
  pub keeping : IsKeeping v.receiving
  pub fits : s.number < 2 ^ 32
  pub short : length s.octets < 2 ^ 16
  pub released : v.released ≡ true
  pub closed : is_write_closed v.state ≡ true
  pub kept : is_lost v s ≡ false

readable_by_reading : (v : View) (s : Segment) → IsKept v s → is_read v s ≡ true → (after_reading v s).receiving.readable ≡ v.receiving.readable
readable_by_reading v s k read =
    let told = after_window (after_ack v s.acknowledgement) s in
    let same : told.receiving ≡ v.receiving = ack_receives v s.acknowledgement in
    readable_by_fin (after_text told s) s
    ∙ either View (λ w. w.receiving.readable ≡ v.receiving.readable) ((length s.octets == 0) || not (is_receiving told.state)) told _
    (λ none. ap (λ (r : Receiving). r.readable) same)
    (λ some.
    let tests = or_false (length s.octets == 0) (is_receiving told.state) some in
    let ends = all_known v s k.released (receiving_before v s.acknowledgement k.closed tests.1) read k.kept tests.0 in
    ap (λ (r : Receiving). (after_octets r s.number s.octets).readable) same
    ∙ ap (λ (r : Receiving). r.readable) (none_within v.receiving s.number s.octets k.keeping (none_new v.receiving s.number s.octets k.keeping k.fits k.short ends)))

readable_by_segment : (v : View) (s : Segment) → IsKept v s → (after_segment v s).receiving.readable ≡ v.receiving.readable
readable_by_segment v s k = by_segment (λ w. w.receiving.readable ≡ v.receiving.readable) v s (record {
  dropped = refl;
  drawn = refl;
  reset = λ acts. refl;
  crossed = λ waits. refl;
  opened = λ waits right. refl;
  acknowledged = λ taken. ap (λ (r : Receiving). r.readable) (ack_receives v s.acknowledgement);
  read = readable_by_reading v s k;
})

readable_by_heard : (v : View) (s : Segment) → IsSound v → v.released ≡ true → s.number < 2 ^ 32 → length s.octets < 2 ^ 16 → (after_heard v s).receiving.readable ≡ v.receiving.readable
readable_by_heard v s sound released fits short =
    either View (λ w. w.receiving.readable ≡ v.receiving.readable) (is_lost v s) (after_lost v s) (after_segment v s)
    (λ lost. ap (λ (r : Receiving). r.readable) (ack_receives v s.acknowledgement))
    (λ kept. readable_by_segment v s (record {
      keeping = sound_keeping v sound;
      fits = fits;
      short = short;
      released = released;
      closed = and_not v.released (is_write_closed v.state) sound.release released;
      kept = kept;
    }))

pub released_takes_none : (v : View) (s : Segment) (now : Moment) → IsSound v → v.released ≡ true → s.number < 2 ^ 32 → length s.octets < 2 ^ 16
    → (after_segment_at v s now).receiving.readable ≡ v.receiving.readable
released_takes_none v s now sound released fits short =
    by_clock (λ w. w.receiving.readable ≡ v.receiving.readable) v s now refl (λ lives. readable_by_heard v s sound released fits short)
