-- Why each acknowledgement alone is heard.
use Rattle.std.proofs.Common.{◌≡◌, ℕ, ◌<◌, ◌≤◌, ◌^◌, ◌&&◌, ◌||◌, ◌⊎◌, inl, inr, not, nat_lt, nat_le, true, false, if◌then◌else◌, arith, ◌∙◌, ap, ap₂}
use Rattle.std.proofs.lemmas.Bool.{lt-ltb, le-ltb, le-leb, lt-leb}
use Rattle.std.proofs.lemmas.Bool.Decides.{leb_tells}
use Rattle.tcp_segment.specs.Wire.{past}
use Rattle.tcp_halves.specs.Numbers.{is_before}
use Rattle.tcp_halves.specs.Halves.{Sending}
use Rattle.tcp_halves.specs.Heard.{HaveMet}
use Rattle.tcp_halves.specs.Stream.{outstanding, is_new_ack}
use Rattle.tcp_halves.proofs.Choices.{both, or_left, or_right, of_false, clash, and_false, neither}
use Rattle.tcp_halves.proofs.HeardBare.{heard}
use Rattle.tcp_state.specs.declared.emission.Due.TheVariants.{Ack}
use Rattle.tcp_state.specs.View.{View, IsSound, is_opening, is_closed}
use Rattle.tcp_state.specs.Arrival.{is_acceptable_to, is_off, is_read_on, is_read, after_segment}
use Rattle.tcp_state.specs.Said.{segment_of}
use Rattle.tcp_state.proofs.AckNumbers.{probed_is_one}
use Rattle.tcp_state.proofs.Losses.{past_opening}
use Rattle.tcp_state.proofs.Onward.{few_outstanding}
use Rattle.tcp_state.proofs.Segments.{read_tells, reading_sends, reads}
use Rattle.stream_law.specs.Pairing.{Present, Pairing, from_other}
use Rattle.stream_law.proofs.PairingInvariant.{shown-from_other}
use Rattle.stream_law.proofs.PairingLaw.{shown}
use Rattle.stream_law.proofs.Sizes.{most_held}
use Rattle.window_law.specs.Windows.{Agree, IsOpen, Talks, HearsAcknowledgement}
use Rattle.window_law.proofs.Meeting.{At, stands, met, between, flight}
use Rattle.window_law.proofs.Heard.{told}
use Rattle.window_law.proofs.Run.{meets, agrees}

-- what is known as acknowledged is not off
known_on : (w : View) (ack : ℕ) → IsSound w → ack < 2 ^ 32 → past ack w.sending.una ≤ 0 → is_off w ack ≡ false
known_on w ack sound fits none =
    let few = few_outstanding w sound in
    let same : ack ≡ w.sending.una = omega (arith, none, fits, sound.una) in
    let early : is_before w.sending.nxt ack ≡ false = lt-leb (2 ^ 31) (past w.sending.nxt ack) (omega (arith, ap (λ n. past w.sending.nxt n) same, few)) in
    let old : nat_lt w.sending.max_window (past w.sending.una ack) ≡ false = le-ltb w.sending.max_window (past w.sending.una ack) (omega (arith, same, sound.una)) in
    ap₂ (λ a b. a || (w.guard.on && b)) early old ∙ and_false w.guard.on

-- all that the one end received is acknowledged by it, or known as acknowledged already
pub read_on : (w : View) (ack : ℕ) → is_opening w.state ≡ false → IsSound w → ack < 2 ^ 32 → past ack w.sending.una ≤ outstanding w.sending → is_read_on w ack ≡ true
read_on w ack opened sound fits within =
    let new = is_new_ack w.sending ack in
    ap (λ b. if b then new else new || not (is_off w ack)) (past_opening w.state opened).1
    ∙ elim (leb_tells (past ack w.sending.una) 0) [
      | inl none ↦ or_right new (not (is_off w ack)) (of_false (is_off w ack) (known_on w ack sound fits none.1))
      | inr some ↦ or_left new (not (is_off w ack)) (both (nat_lt 0 (past ack w.sending.una)) (nat_le (past ack w.sending.una) (outstanding w.sending)) (lt-ltb 0 (past ack w.sending.una) some.1) (le-leb (past ack w.sending.una) (outstanding w.sending) within))
    ]

-- and is known so then
pub knows : (w : View) (ack una : ℕ) → IsSound w → ack < 2 ^ 32 → past ack w.sending.una ≤ outstanding w.sending → ((is_new_ack w.sending ack ≡ false) × (una ≡ w.sending.una)) ⊎ ((is_new_ack w.sending ack ≡ true) × (una ≡ ack)) → una ≡ ack
knows w ack una sound fits within how = elim how [
  | inr moved ↦ moved.1
  | inl still ↦ elim (leb_tells (past ack w.sending.una) 0) [
    | inl none ↦ still.1 ∙ (let nothing = none.1 in omega (arith, nothing, fits, sound.una))
    | inr some ↦ clash (is_new_ack w.sending ack) (both (nat_lt 0 (past ack w.sending.una)) (nat_le (past ack w.sending.una) (outstanding w.sending)) (lt-ltb 0 (past ack w.sending.una) some.1) (le-leb (past ack w.sending.una) (outstanding w.sending) within)) still.0
  ]
]

hears_one : (limit : ℕ) (p : Pairing) (v w : View) → At limit p v w → At limit (from_other p) w v → Agree limit p v w → is_closed v.state ≡ false → is_closed w.state ≡ false → is_opening w.state ≡ false → IsSound v → IsSound w → HearsAcknowledgement v w
hears_one limit p v w at back a lives living opened sound other =
    let s = segment_of v Ack in
    let ack = v.receiving.rnext in
    let met_so : HaveMet v.sending w.receiving = record {
      una = sound.una;
      nxt = sound.nxt;
      rnext = other.rnext;
      probed = λ probed. probed_is_one v sound lives probed;
      between = let one = between limit p v w at in let all = flight limit p v w at in omega (arith, one, all, at.sent);
    } in
    let accepted : is_acceptable_to w s ≡ true = heard v.sending w.receiving met_so a.sent in
    let within : past ack w.sending.una ≤ outstanding w.sending = let one = between limit (from_other p) w v back in let all = flight limit (from_other p) w v back in omega (arith, one, all, back.sent) in
    let on = read_on w ack opened other sound.rnext within in
    let read : is_read w s ≡ true = ap₂ (λ x y. x && true && true && y) accepted on in
    let tells = told w s opened read in
    let una : (after_segment w s).sending.una ≡ ack =
    ap (λ (y : View). y.sending.una) (reads w s living (past_opening w.state opened).0 (read_tells w s read))
    ∙ ap (λ (t : Sending). t.una) (reading_sends w s)
    ∙ knows w ack _ other sound.rnext within (elim tells.acknowledges [ inl old ↦ inl (old.0, tells.una ∙ old.1) | inr new ↦ inr (new.0, tells.una ∙ new.1) ]) in
    (read, λ alive. una)

pub each_heard : (limit : ℕ) → limit ≤ 2 ^ 30 → (p : Pairing) → Talks limit p → (v w : View) → p.own.connection ≡ Present v → p.other.connection ≡ Present w → IsOpen v → IsOpen w → IsSound v → IsSound w → HearsAcknowledgement v w × HearsAcknowledgement w v
each_heard limit small p talks v w own other here there sound sound_there =
    let a = agrees limit small p talks in
    let h = shown limit p (meets limit p talks) in
    let o = neither (is_opening v.state) (is_closed v.state) here in
    let b = neither (is_opening w.state) (is_closed w.state) there in
    let at = met limit p (stands limit small p h) v w own other o.1 b.1 (past_opening w.state b.0).0 in
    let back = met limit (from_other p) (stands limit small (from_other p) (shown-from_other most_held limit p h)) w v other own b.1 o.1 (past_opening v.state o.0).0 in (
      hears_one limit p v w at back (a.0 v w own other here there) o.1 b.1 b.0 sound sound_there,
      hears_one limit (from_other p) w v back at (a.1 w v other own there here) b.1 o.1 o.0 sound_there sound,
    )
