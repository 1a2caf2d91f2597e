-- Why a window is believed only from a segment that is no older than the one that told the last.
use Rattle.std.proofs.Common.{◌≡◌, ℕ, ◌*◌, ◌-◌, ◌^◌, ◌<◌, ◌≤◌, ◌≢◌, ◌==◌, ◌||◌, ◌&&◌, ◌⊎◌, ◌↔◌, not, Bool, true, false, inl, inr, arith, refl, sym, ◌∙◌, ap, subst}
use Rattle.std.proofs.lemmas.Bool.Decides.{leb_tells, eqb_tells}
use Rattle.tcp_segment.specs.Wire.{wire, past}
use Rattle.tcp_segment.specs.Segment.{Segment}
use Rattle.clock.specs.declared.moment.Moment.{Moment}
use Rattle.tcp_halves.specs.Numbers.{is_before}
use Rattle.tcp_halves.specs.Halves.{Sending}
use Rattle.tcp_halves.specs.Windows.{window_in, updates_window}
use Rattle.tcp_state.specs.declared.state.State.{State}
use Rattle.tcp_state.specs.declared.state.State.TheVariants.{SynReceived}
use Rattle.tcp_state.specs.Positions.{AreNear, LeavesWindow}
use Rattle.tcp_state.specs.View.{View, is_opening, is_syn_sent, is_syn_received, is_closed}
use Rattle.tcp_state.specs.Arrival.{after_ack, after_window, after_lost, after_heard, after_segment_at}
use Rattle.tcp_halves.proofs.Choices.{either}
use Rattle.tcp_state.proofs.Segments.{after_reading, by_ack, reading_sends, by_hearing, by_clock}

-- the order of two numbers by their positions
before_tells : (initial p q : ℕ) → AreNear p q → ((is_before (wire initial p) (wire initial q) ≡ true) × (p < q)) ⊎ ((is_before (wire initial p) (wire initial q) ≡ false) × (q ≤ p))
before_tells initial p q near =
    elim (leb_tells (2 ^ 31) (past (wire initial p) (wire initial q))) [
      | inl t ↦ inl (t.0, omega (arith, near.one, near.other, t.1))
      | inr t ↦ inr (t.0, omega (arith, near.one, near.other, t.1))
    ]

same_tells : (initial p q : ℕ) → AreNear p q → (((wire initial p == wire initial q) ≡ true) × (p ≡ q)) ⊎ (((wire initial p == wire initial q) ≡ false) × (p ≢ q))
same_tells initial p q near =
    elim (eqb_tells (wire initial p) (wire initial q)) [
      | inl t ↦ inl (t.0, omega (arith, near.one, near.other, t.1))
      | inr t ↦ inr (t.0, λ same. t.1 (ap (wire initial) same))
    ]

where_true : {P Q : Type 0} → ((true ≡ true) × P) ⊎ ((true ≡ false) × Q) → P
where_true (inl t) = t.1
where_true (inr t) = let bad : true ≡ false = t.0 in cc

where_false : {P Q : Type 0} → ((false ≡ true) × P) ⊎ ((false ≡ false) × Q) → Q
where_false (inl t) = let bad : false ≡ true = t.0 in cc
where_false (inr t) = t.1

-- the four tests together, each with what it tells
believed : (below newer same older : Bool) (una ack last number latest : ℕ)
    → ((below ≡ true) × (ack < una)) ⊎ ((below ≡ false) × (una ≤ ack))
    → ((newer ≡ true) × (last < number)) ⊎ ((newer ≡ false) × (number ≤ last))
    → ((same ≡ true) × (last ≡ number)) ⊎ ((same ≡ false) × (last ≢ number))
    → ((older ≡ true) × (ack < latest)) ⊎ ((older ≡ false) × (latest ≤ ack))
    → ((not below && (newer || (same && not older))) ≡ true) ↔ ((una ≤ ack) × ((last < number) ⊎ ((last ≡ number) × (latest ≤ ack))))
believed true newer same older una ack last number latest b n s o =
    let behind = where_true b in
    (λ e. let bad : false ≡ true = e in cc, λ k. absurd (omega (arith, behind, k.0)))
believed false true same older una ack last number latest b n s o = (λ e. (where_false b, inl (where_true n)), λ k. refl)
believed false false true true una ack last number latest b n s o =
    let known = where_false n in
    let old = where_true o in
    (λ e. let bad : false ≡ true = e in cc, λ k. elim k.1 [ inl new ↦ absurd (omega (arith, known, new)) | inr again ↦ absurd (omega (arith, old, again.1)) ])
believed false false true false una ack last number latest b n s o = (λ e. (where_false b, inr (where_true s, where_false o)), λ k. refl)
believed false false false older una ack last number latest b n s o =
    let known = where_false n in
    let other = where_false s in
    (λ e. let bad : false ≡ true = e in cc, λ k. elim k.1 [ inl new ↦ absurd (omega (arith, known, new)) | inr again ↦ absurd (other again.0) ])

pub told_by_positions : (peer own una last latest number ack : ℕ) (s : Sending) → s.una ≡ wire own una → s.wl1 ≡ wire peer last → s.wl2 ≡ wire own latest → AreNear ack una → AreNear last number → AreNear ack latest
    → (updates_window s (wire peer number) (wire own ack) ≡ true) ↔ ((una ≤ ack) × ((last < number) ⊎ ((last ≡ number) × (latest ≤ ack))))
told_by_positions peer own una last latest number ack s is_una is_wl1 is_wl2 near_una near_last near_latest =
    let newest = (una ≤ ack) × ((last < number) ⊎ ((last ≡ number) × (latest ≤ ack))) in
    let test : ℕ → ℕ → ℕ → Bool = λ u w x. not (is_before (wire own ack) u) && (is_before w (wire peer number) || (w == wire peer number && not (is_before (wire own ack) x))) in
    let same : updates_window s (wire peer number) (wire own ack) ≡ test (wire own una) (wire peer last) (wire own latest) =
    ap (λ n. test n s.wl1 s.wl2) is_una ∙ (ap (λ n. test (wire own una) n s.wl2) is_wl1 ∙ ap (test (wire own una) (wire peer last)) is_wl2) in
    subst (λ b. (b ≡ true) ↔ newest) (sym same)
    (believed (is_before (wire own ack) (wire own una)) (is_before (wire peer last) (wire peer number)) (wire peer last == wire peer number) (is_before (wire own ack) (wire own latest)) una ack last number latest
    (before_tells own ack una near_una) (before_tells peer last number near_last) (same_tells peer last number near_last) (before_tells own ack latest near_latest))

-- What a segment makes of the window that is believed: it stays with the number that told it, less what is acknowledged, or it is the segment's, which is no older, in units of the peer's, or which opens
-- the connection.
abbrev Left : View → Segment → Sending → Type 0
Left v s x =
    ((x.window ≡ v.sending.window) × ((x.una ≡ v.sending.una) ⊎ (is_opening v.state ≡ true)))
    ⊎ ((x.window ≡ v.sending.window - past s.acknowledgement v.sending.una) × (x.una ≡ s.acknowledgement))

abbrev Takes : View → Segment → Sending → Type 0
Takes v s x =
    (x.wl1 ≡ s.number) × (((is_syn_sent v.state ≡ true) × (x.window ≡ s.window))
    ⊎ ((x.window ≡ window_in v.sending s.window) × (updates_window (after_ack v s.acknowledgement).sending s.number s.acknowledgement ≡ true) × (x.wl2 ≡ s.acknowledgement)))

abbrev Told : View → Segment → Sending → Type 0
Told v s x = ((x.wl1 ≡ v.sending.wl1) × Left v s x) ⊎ Takes v s x

abbrev Believes : View → Segment → View → Type 0
Believes v s w = ((w.sending.wl1 ≡ v.sending.wl1) × LeavesWindow v s w) ⊎ Takes v s w.sending

lives_on : (v : View) (s : Segment) (w : View) → Told v s w.sending → Believes v s w
lives_on v s w (inr takes) = inr takes
lives_on v s w (inl stays) = inl (
  stays.0,
  elim stays.1 [
    | inl same ↦ inl (same.0, elim same.1 [ inl una ↦ inl una | inr opening ↦ inr (inl opening) ])
    | inr less ↦ inr (less.0, inl less.1)
  ],
)

-- .. also where it ends the connection
ends_with : (v : View) (s : Segment) (x : Sending) (w : View) → is_closed w.state ≡ true → w.sending.window ≡ x.window → w.sending.wl1 ≡ x.wl1 → w.sending.wl2 ≡ x.wl2 → Told v s x → Believes v s w
ends_with v s x w closed window wl1 wl2 (inl stays) = inl (
  wl1 ∙ stays.0,
  elim stays.1 [
    | inl same ↦ inl (window ∙ same.0, inr (inr closed))
    | inr less ↦ inr (window ∙ less.0, inr closed)
  ],
)
ends_with v s x w closed window wl1 wl2 (inr takes) = inr (
  wl1 ∙ takes.0,
  elim takes.1 [
    | inl opens ↦ inl (opens.0, window ∙ opens.1)
    | inr told ↦ inr (window ∙ told.0, told.1, wl2 ∙ told.2)
  ],
)

-- an acknowledgement leaves the unit of the peer's windows
ack_unit : (v : View) (ack : ℕ) → (after_ack v ack).sending.unit ≡ v.sending.unit
ack_unit v ack = by_ack (λ w. w.sending.unit ≡ v.sending.unit) v ack (record { old = refl; beyond = refl; opens = λ received new. refl; octets = λ new. refl; fin = λ new fin. refl })

received_opens : (t : State) → is_syn_received t ≡ true → is_opening t ≡ true
received_opens SynReceived e = refl
received_opens _ e = cc

ack_believes : (v : View) (s : Segment) → ((after_ack v s.acknowledgement).sending.wl1 ≡ v.sending.wl1) × Left v s (after_ack v s.acknowledgement).sending
ack_believes v s =
    by_ack (λ w. (w.sending.wl1 ≡ v.sending.wl1) × Left v s w.sending) v s.acknowledgement
    (record {
      old = (refl, inl (refl, inl refl));
      beyond = (refl, inl (refl, inl refl));
      opens = λ received new. (refl, inl (refl, inr (received_opens v.state received)));
      octets = λ new. (refl, inr (refl, refl));
      fin = λ new fin. (refl, inr (refl, refl));
    })

window_believes : (v : View) (s : Segment) → Told v s (after_window (after_ack v s.acknowledgement) s).sending
window_believes v s =
    let acked = after_ack v s.acknowledgement in
    either Sending (λ t. Told v s t) (updates_window acked.sending s.number s.acknowledgement) _ acked.sending
    (λ tells. inr (refl, inr (ap (λ n. s.window * n) (ack_unit v s.acknowledgement), tells, refl))) (λ none. inl (ack_believes v s))

heard_believes : (v : View) (s : Segment) → Believes v s (after_heard v s)
heard_believes v s = by_hearing (λ w. Believes v s w) v s
    (ends_with v s (after_window (after_ack v s.acknowledgement) s).sending (after_lost v s) refl refl refl refl (window_believes v s)) (record {
      dropped = inl (refl, inl (refl, inl refl));
      drawn = inl (refl, inl (refl, inl refl));
      reset = λ acts. inl (refl, inl (refl, inr (inr refl)));
      crossed = λ waits. inr (refl, inl (waits, refl));
      opened = λ waits right. inr (refl, inl (waits, refl));
      acknowledged = λ taken. lives_on v s (after_ack v s.acknowledgement) (inl (ack_believes v s));
      read = λ on. lives_on v s (after_reading v s) (subst (λ x. Told v s x) (sym (reading_sends v s)) (window_believes v s));
    })

pub believes : (v : View) (s : Segment) (now : Moment)
    → (((after_segment_at v s now).sending.wl1 ≡ v.sending.wl1) × LeavesWindow v s (after_segment_at v s now))
    ⊎ (((after_segment_at v s now).sending.wl1 ≡ s.number) × (((is_syn_sent v.state ≡ true) × ((after_segment_at v s now).sending.window ≡ s.window))
    ⊎ (((after_segment_at v s now).sending.window ≡ window_in v.sending s.window)
    × (updates_window (after_ack v s.acknowledgement).sending s.number s.acknowledgement ≡ true) × ((after_segment_at v s now).sending.wl2 ≡ s.acknowledgement))))
believes v s now = by_clock (λ w. Believes v s w) v s now (inl (refl, inl (refl, inl refl))) (λ lives. heard_believes v s)
