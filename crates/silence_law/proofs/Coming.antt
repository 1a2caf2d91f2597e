-- What comes to an open end lowers what both lack, or what is owed and on its way.
use Rattle.std.proofs.Common.{◌≡◌, ℕ, ◌+◌, ◌-◌, ◌*◌, ◌%◌, ◌<◌, ◌≤◌, ◌^◌, ◌&&◌, ◌||◌, ◌⊎◌, inl, inr, not, nat_lt, Bool, true, false, List, ◌∷◌, if◌then◌else◌, arith, refl, sym, ◌∙◌, ap, ap₂, subst}
use Rattle.std.proofs.lemmas.Bool.{ltb-true, lt-ltb, eq-eqb}
use Rattle.std.proofs.lemmas.Bool.Decides.{eqb_tells}
use Rattle.clock.specs.declared.moment.Moment.{Moment}
use Rattle.tcp_segment.specs.Segment.{Segment}
use Rattle.tcp_segment.specs.Wire.{past}
use Rattle.tcp_halves.specs.Halves.{Sending}
use Rattle.tcp_halves.specs.Stream.{outstanding, receive_window}
use Rattle.tcp_halves.proofs.Choices.{by, clash, and_left, and_right, or_else, or_left, or_right, both}
use Rattle.tcp_state.specs.View.{View, IsSound, is_opening, is_closed, most_outstanding}
use Rattle.tcp_state.specs.Due.{is_ack_due}
use Rattle.tcp_state.specs.Most.{one_if}
use Rattle.tcp_state.specs.Arrival.{after_lost, after_segment, after_heard, reopens_by, reopens, after_segment_at, answers_probe}
use Rattle.tcp_state.proofs.Onward.{Advances, few_outstanding}
use Rattle.window_law.proofs.Heard.{heard}
use Rattle.silence_law.proofs.Measure.{Stance, stance, tells, may_reopen, is_light, is_short, weight, weights, again_weight, answer_weight, left_of, busy, lacks}
use Rattle.silence_law.proofs.Weighing.{one_before, Reopens, Answers, light_draws_less, short_draws_less, any_draws_less}
use Rattle.silence_law.proofs.Emitting.{IsPlain, one_at_most}
use Rattle.silence_law.proofs.Acknowledging.{Gains, gains}
use Rattle.silence_law.proofs.Repeating.{repeats, new_moves, reopens_probed}
use Rattle.silence_law.proofs.Owing.{owing}
use Rattle.silence_law.proofs.Standing.{Met}
use Rattle.silence_law.proofs.Along.{comes_open}
use Rattle.silence_law.proofs.Alone.{alone, alone_is_read, read_moves, alone_draws}
use Rattle.silence_law.proofs.Short.{brings_one, refused, reopens_none, taken, few_window}

-- A segment of x comes to y, and both are open before and after.
pub record Coming (x y : View) (s : Segment) (now : Moment) : Type 0 where
  pub met : Met x y
  pub back : Met y x
  pub sound : IsSound x
  pub other : IsSound y
  pub living : is_closed x.state ≡ false
  pub there : is_closed y.state ≡ false
  pub opened : is_opening y.state ≡ false
  pub plain : IsPlain s
  pub lives : is_closed (after_segment_at y s now).state ≡ false
  pub open_yet : is_opening (after_segment_at y s now).state ≡ false
  pub met_then : Met x (after_segment_at y s now)
  pub back_then : Met (after_segment_at y s now) x
  pub sound_then : IsSound (after_segment_at y s now)

-- Numbers.

out_falls : (una then_una nxt by : ℕ) → una < 2 ^ 32 → then_una < 2 ^ 32 → nxt < 2 ^ 32 → past then_una una ≡ by → by ≤ past nxt una → past nxt then_una + by ≡ past nxt una
out_falls una then_una nxt by a b c moved within = omega (arith, a, b, c, moved, within)

taken_falls : (una then_una rnext by out then_out : ℕ) → una < 2 ^ 32 → then_una < 2 ^ 32 → rnext < 2 ^ 32 → past then_una una ≡ by → past rnext una ≤ out → out ≤ 1048577 → then_out + by ≡ out → past rnext then_una ≤ then_out → past rnext then_una + by ≡ past rnext una
taken_falls una then_una rnext by out then_out a b c moved within few falls within_then = omega (arith, a, b, c, moved, within, few, falls, within_then)

taken_grows : (rnext then_rnext una by out window : ℕ) → una < 2 ^ 32 → rnext < 2 ^ 32 → then_rnext ≡ (rnext + by) % 2 ^ 32 → by ≤ window → window ≤ 1048576 → past rnext una ≤ out → out ≤ 1048577 → past then_rnext una ≡ past rnext una + by
taken_grows rnext then_rnext una by out window a b moved within few between small = omega (arith, a, b, moved, within, few, between, small)

abbrev sum_of : ℕ → ℕ → ℕ → ℕ → ℕ
sum_of most out taken duplicates = 4 * (most + 2 * (most - out) + (out - taken)) + (3 - duplicates)

acknowledged_falls : (most out taken d then_most then_out then_taken e by : ℕ) → then_most + by ≤ most → then_out + by ≡ out → then_taken + by ≡ taken → taken ≤ out → (by ≡ 0 → ⊥) → sum_of then_most then_out then_taken e < sum_of most out taken d
acknowledged_falls most out taken d then_most then_out then_taken e by a b c within some = elim (eqb_tells by 0) [ inl none ↦ absurd (some none.1) | inr more ↦ moved more.1 ]
  where
    moved : (by ≡ 0 → ⊥) → sum_of then_most then_out then_taken e < sum_of most out taken d
    moved not_none = omega (arith, a, b, c, within, not_none)

unmoved_stays : (most out taken d then_most then_out then_taken e by : ℕ) → then_most + by ≤ most → then_out + by ≡ out → then_taken + by ≡ taken → by ≡ 0 → 3 - e ≤ 3 - d → sum_of then_most then_out then_taken e ≤ sum_of most out taken d
unmoved_stays most out taken d then_most then_out then_taken e by a b c none fewer = omega (arith, a, b, c, none, fewer)

counted_falls : (most out taken d then_most then_out then_taken e by : ℕ) → then_most + by ≤ most → then_out + by ≡ out → then_taken + by ≡ taken → by ≡ 0 → 3 - e < 3 - d → sum_of then_most then_out then_taken e < sum_of most out taken d
counted_falls most out taken d then_most then_out then_taken e by a b c none fewer = omega (arith, a, b, c, none, fewer)

-- What became of both.

-- what moved: SND.UNA by so much, RCV.NXT by so much
record Moves (x y w : View) : Type 0 where
  gained : Gains y w
  advanced : Advances y.receiving w.receiving
  out : outstanding w.sending + gained.by ≡ outstanding y.sending
  taken : past x.receiving.rnext w.sending.una + gained.by ≡ past x.receiving.rnext y.sending.una
  brought : past w.receiving.rnext x.sending.una ≡ past y.receiving.rnext x.sending.una + advanced.by

advances : (x y : View) (s : Segment) (now : Moment) → Coming x y s now → Advances y.receiving (after_segment_at y s now).receiving
advances x y s now k =
    let c = comes_open y s now k.there k.opened k.lives in
    subst (λ (w : View). Advances y.receiving w.receiving) (sym c.0) (heard y s k.other k.opened c.2).receiving

moves : (x y : View) (s : Segment) (now : Moment) → Coming x y s now → Moves x y (after_segment_at y s now)
moves x y s now k =
    let w = after_segment_at y s now in
    let g = gains y s now k.other k.opened k.lives k.open_yet in
    let a = advances x y s now k in
    let out : outstanding w.sending + g.by ≡ outstanding y.sending =
    subst (λ n. past n w.sending.una + g.by ≡ outstanding y.sending) (sym g.nxt) (out_falls y.sending.una w.sending.una y.sending.nxt g.by k.other.una k.sound_then.una k.other.nxt g.una g.within) in
    record {
      gained = g;
      advanced = a;
      out = out;
      taken = taken_falls y.sending.una w.sending.una x.receiving.rnext g.by (outstanding y.sending) (outstanding w.sending) k.other.una k.sound_then.una k.sound.rnext g.una k.back.between (few_outstanding y k.other) out k.back_then.between;
      brought = taken_grows y.receiving.rnext w.receiving.rnext x.sending.una a.by (outstanding x.sending) (receive_window y.receiving) k.sound.una k.other.rnext a.rnext a.within (few_window y k.other) k.met.between (few_outstanding x k.sound);
    }

-- the other end lacks no more, and less where something was taken
other_lacks : (x y w : View) (m : Moves x y w) → Met x w → lacks x w ≤ lacks x y
other_lacks x y w m met = let b = m.brought in omega (arith, b)

other_lacks_less : (x y w : View) (m : Moves x y w) → Met x w → (m.advanced.by ≡ 0 → ⊥) → lacks x w < lacks x y
other_lacks_less x y w m met some = let b = m.brought in let within = met.between in let not_none = some in omega (arith, b, within, not_none)

-- Where nothing moved, what comes weighs more than what it draws.

same_stance : (una nxt : ℕ) (probed : Bool) (rnext window una' nxt' : ℕ) (probed' : Bool) (rnext' window' : ℕ) → una' ≡ una → nxt' ≡ nxt → probed' ≡ probed → rnext' ≡ rnext → window' ≡ window
    → (let s : Stance = record { una = una'; nxt = nxt'; probed = probed'; rnext = rnext'; window = window' } in s) ≡ (let s : Stance = record { una = una; nxt = nxt; probed = probed; rnext = rnext; window = window } in s)
same_stance una nxt probed rnext window una' nxt' probed' rnext' window' a b c d e = rw a (rw b (rw c (rw d (rw e refl))))

-- an end at which nothing moved
record Rests (y w : View) : Type 0 where
  una : w.sending.una ≡ y.sending.una
  rnext : w.receiving.rnext ≡ y.receiving.rnext
  window : receive_window w.receiving ≡ receive_window y.receiving
  stands : stance w ≡ stance y

rests : (x y : View) (s : Segment) (now : Moment) → (k : Coming x y s now) → (m : Moves x y (after_segment_at y s now)) → m.gained.by ≡ 0 → m.advanced.by ≡ 0 → Rests y (after_segment_at y s now)
rests x y s now k m none_gained none_taken =
    let w = after_segment_at y s now in
    let g = m.gained in
    let a = m.advanced in
    let una : w.sending.una ≡ y.sending.una = omega (arith, g.una, none_gained, k.other.una, k.sound_then.una) in
    let rnext : w.receiving.rnext ≡ y.receiving.rnext = omega (arith, a.rnext, none_taken, k.other.rnext) in
    let window : receive_window w.receiving ≡ receive_window y.receiving = ap₂ (λ e n. past e n) a.edge rnext in
    let c = comes_open y s now k.there k.opened k.lives in
    let z = after_segment y s in
    let same : w.sending ≡ z.sending = ap (λ (v : View). v.sending) c.0 in
    let z_una : z.sending.una ≡ y.sending.una = sym (ap (λ (t : Sending). t.una) same) ∙ una in
    let z_probed : z.sending.probed ≡ y.sending.probed = elim (heard y s k.other k.opened c.2).sending [
      | inl tells_so ↦ tells_so.probed ∙ elim tells_so.acknowledges [
        | inl old ↦ old.3
        | inr new ↦
            let at : s.acknowledgement ≡ y.sending.una = sym (tells_so.una ∙ new.1) ∙ z_una in
            absurd (new_moves y s.acknowledgement k.other new.0 at)
      ]
      | inr still ↦ ap (λ (t : Sending). t.probed) still
    ] in
    let probed : w.sending.probed ≡ y.sending.probed = ap (λ (t : Sending). t.probed) same ∙ z_probed in
    record {
      una = una;
      rnext = rnext;
      window = window;
      stands = same_stance y.sending.una y.sending.nxt y.sending.probed y.receiving.rnext (receive_window y.receiving) w.sending.una w.sending.nxt w.sending.probed w.receiving.rnext (receive_window w.receiving) una g.nxt probed rnext window;
    }

-- what only a probe took goes out again only where the other has it, or has room for it
reopens_so : (x y : View) (s : Segment) (now : Moment) → (k : Coming x y s now) → Rests y (after_segment_at y s now) → reopens_by y s ≡ true → may_reopen (stance y) (stance x) ≡ true
reopens_so x y s now k r again =
    let w = after_segment_at y s now in
    let c = comes_open y s now k.there k.opened k.lives in
    let h = after_heard y s in
    let same : after_segment y s ≡ h = sym (ap (λ t. if t then after_lost y s else after_segment y s) c.1) in
    let wide : 0 < h.sending.window = ltb-true 0 h.sending.window (and_right _ (nat_lt 0 h.sending.window) (and_right (answers_probe y s) (reopens h) again)) in
    let window : w.sending.window ≡ h.sending.window = ap (λ (v : View). v.sending.window) c.0 ∙ ap (λ (v : View). v.sending.window) same in
    let edge = k.back_then.window in
    let una : past x.receiving.rnext w.sending.una ≡ past x.receiving.rnext y.sending.una = ap (past x.receiving.rnext) r.una in
    let room : (tells (stance x) (stance y) || nat_lt 0 (receive_window x.receiving)) ≡ true = elim (eqb_tells x.receiving.rnext y.sending.una) [
      | inr apart ↦ or_left (tells (stance x) (stance y)) (nat_lt 0 (receive_window x.receiving)) (ap not apart.0)
      | inl at ↦
          let is = at.1 in
          or_right (tells (stance x) (stance y)) (nat_lt 0 (receive_window x.receiving)) (lt-ltb 0 (receive_window x.receiving) (omega (arith, wide, window, edge, una, is, k.other.una)))
    ] in
    both y.sending.probed (tells (stance x) (stance y) || nat_lt 0 (receive_window x.receiving)) (reopens_probed y s k.opened again) room

-- no more goes out again than that
left_so : (x y : View) (s : Segment) (now : Moment) → (k : Coming x y s now) → Rests y (after_segment_at y s now) → (left_of (after_segment_at y s now) ≤ left_of y) ⊎ ((reopens_by y s ≡ true) × (left_of (after_segment_at y s now) ≤ left_of y + 1))
    → Reopens (may_reopen (stance y) (stance x)) (left_of y) (left_of (after_segment_at y s now))
left_so x y s now k r left = elim left [ inl same ↦ inl same | inr again ↦ inr (reopens_so x y s now k r again.0, again.1) ]

few_due : (x y : View) (s : Segment) (now : Moment) → one_if (is_ack_due (after_segment_at y s now)) ≤ one_if (is_ack_due y) + 1
few_due x y s now = let one = one_at_most (is_ack_due (after_segment_at y s now)) in omega (arith, one)

-- an acknowledgement alone
light_lowers : (x y : View) (s : Segment) (now : Moment) → (k : Coming x y s now) → Rests y (after_segment_at y s now) → Reopens (may_reopen (stance y) (stance x)) (left_of y) (left_of (after_segment_at y s now)) → is_light (stance x) s ≡ true
    → (let w = after_segment_at y s now in
    again_weight (may_reopen (stance y) (stance x)) (left_of w) + answer_weight (tells (stance y) (stance x)) (one_if (is_ack_due w))
    < again_weight (may_reopen (stance y) (stance x)) (left_of y) + answer_weight (tells (stance y) (stance x)) (one_if (is_ack_due y)) + weight (stance x) (stance y) s)
light_lowers x y s now k r left light =
    let w = after_segment_at y s now in
    let news = tells (stance y) (stance x) in
    let says = alone x s light in
    let read = alone_is_read x y s k.met k.back k.sound k.other k.living k.opened k.plain says in
    let moved = read_moves x y s now k.back k.sound k.other k.there k.opened says.ack read k.lives in
    let known : x.receiving.rnext ≡ y.sending.una = sym moved ∙ r.una in
    let untold : tells (stance x) (stance y) ≡ false = ap not (eq-eqb x.receiving.rnext y.sending.una known) in
    let five : weight (stance x) (stance y) s ≡ 5 =
    ap (λ b. if b then (if tells (stance x) (stance y) then 0 else 5) else if is_short (stance x) s && may_reopen (stance x) (stance y) then 2 else 10) light ∙ ap (λ b. if b then 0 else 5) untold in
    let few = few_due x y s now in
    let answers : Answers news (one_if (is_ack_due y)) (one_if (is_ack_due w)) = elim (owing y s now k.there k.opened r.window) [
      | inr same ↦ inl same
      | inl owes ↦ elim (alone_draws x y s now k.met k.sound k.other k.living k.there k.opened says read k.lives owes) [
        | inl owed ↦
            let one : one_if (is_ack_due y) ≡ 1 = ap one_if (or_left y.owes_ack _ owed) in
            let most = one_at_most (is_ack_due w) in
            inl (omega (arith, one, most))
        | inr told ↦ inr (told, few)
      ]
    ] in
    light_draws_less (may_reopen (stance y) (stance x)) news (left_of y) (left_of w) (one_if (is_ack_due y)) (one_if (is_ack_due w)) (weight (stance x) (stance y) s) left answers (omega (arith, five))

-- the one number that only a probe took
short_lowers : (x y : View) (s : Segment) (now : Moment) → (k : Coming x y s now) → Rests y (after_segment_at y s now) → (left_of (after_segment_at y s now) ≤ left_of y) ⊎ ((reopens_by y s ≡ true) × (left_of (after_segment_at y s now) ≤ left_of y + 1))
    → is_light (stance x) s ≡ false → (is_short (stance x) s && may_reopen (stance x) (stance y)) ≡ true
    → (let w = after_segment_at y s now in
    again_weight (may_reopen (stance y) (stance x)) (left_of w) + answer_weight (tells (stance y) (stance x)) (one_if (is_ack_due w))
    < again_weight (may_reopen (stance y) (stance x)) (left_of y) + answer_weight (tells (stance y) (stance x)) (one_if (is_ack_due y)) + weight (stance x) (stance y) s)
short_lowers x y s now k r left heavy both_so =
    let w = after_segment_at y s now in
    let short = is_short (stance x) s in
    let may = may_reopen (stance x) (stance y) in
    let says = brings_one x s (and_left short may both_so) in
    let opens = and_right short may both_so in
    let news = tells (stance y) (stance x) in
    let probed = and_left x.sending.probed (news || nat_lt 0 (receive_window y.receiving)) opens in
    let two : weight (stance x) (stance y) s ≡ 2 = ap (λ b. if b then (if tells (stance x) (stance y) then 0 else 5) else if short && may then 2 else 10) heavy ∙ ap (λ b. if b then 2 else 10) both_so in
    let few = few_due x y s now in
    let again = may_reopen (stance y) (stance x) in
    by _ news
    (λ told.
    let off = refused x y s k.met k.sound k.other k.living probed told says in
    let no_more : left_of w ≤ left_of y = elim left [ inl same ↦ same | inr more ↦ clash (reopens_by y s) more.0 (reopens_none y s off) ] in
    let less = short_draws_less again (left_of y) (left_of w) (one_if (is_ack_due y)) (one_if (is_ack_due w)) no_more few in
    subst (λ t. again_weight again (left_of w) + answer_weight t (one_if (is_ack_due w)) < again_weight again (left_of y) + answer_weight t (one_if (is_ack_due y)) + weight (stance x) (stance y) s) (sym told)
    (subst (λ n. again_weight again (left_of w) + answer_weight true (one_if (is_ack_due w)) < again_weight again (left_of y) + answer_weight true (one_if (is_ack_due y)) + n) (sym two) less))
    (λ untold.
    let wide : 0 < receive_window y.receiving = elim (or_else news (nat_lt 0 (receive_window y.receiving)) (and_right x.sending.probed (news || nat_lt 0 (receive_window y.receiving)) opens)) [
      | inl told ↦ clash news told untold
      | inr room ↦ ltb-true 0 (receive_window y.receiving) room
    ] in
    absurd (taken x y s now k.met k.back k.sound k.other k.living k.there k.opened k.plain probed untold wide says k.lives r.rnext))

-- any other
other_lowers : (x y : View) (s : Segment) (now : Moment) → Reopens (may_reopen (stance y) (stance x)) (left_of y) (left_of (after_segment_at y s now)) → is_light (stance x) s ≡ false → (is_short (stance x) s && may_reopen (stance x) (stance y)) ≡ false
    → (let w = after_segment_at y s now in
    again_weight (may_reopen (stance y) (stance x)) (left_of w) + answer_weight (tells (stance y) (stance x)) (one_if (is_ack_due w))
    < again_weight (may_reopen (stance y) (stance x)) (left_of y) + answer_weight (tells (stance y) (stance x)) (one_if (is_ack_due y)) + weight (stance x) (stance y) s)
other_lowers x y s now left heavy long =
    let w = after_segment_at y s now in
    let ten : weight (stance x) (stance y) s ≡ 10 =
    ap (λ b. if b then (if tells (stance x) (stance y) then 0 else 5) else if is_short (stance x) s && may_reopen (stance x) (stance y) then 2 else 10) heavy ∙ ap (λ b. if b then 2 else 10) long in
    subst (λ n. again_weight (may_reopen (stance y) (stance x)) (left_of w) + answer_weight (tells (stance y) (stance x)) (one_if (is_ack_due w)) < again_weight (may_reopen (stance y) (stance x)) (left_of y) + answer_weight (tells (stance y) (stance x)) (one_if (is_ack_due y)) + n) (sym ten)
    (any_draws_less (may_reopen (stance y) (stance x)) (tells (stance y) (stance x)) (left_of y) (left_of w) (one_if (is_ack_due y)) (one_if (is_ack_due w)) left (few_due x y s now))

-- All of it.

-- both lack less; or no more, and less is owed and on its way
abbrev pub Lowers : View → View → View → Segment → List Segment → List Segment → Type 0
Lowers x y w s rest way = (lacks x w + lacks w x < lacks x y + lacks y x) ⊎ ((lacks x w + lacks w x ≤ lacks x y + lacks y x) × (busy x w rest + busy w x way < busy x y (s ∷ rest) + busy y x way))

stays_lower : (x y : View) (s : Segment) (rest way : List Segment) (now : Moment) → (k : Coming x y s now) → Rests y (after_segment_at y s now) → (left_of (after_segment_at y s now) ≤ left_of y) ⊎ ((reopens_by y s ≡ true) × (left_of (after_segment_at y s now) ≤ left_of y + 1))
    → (let w = after_segment_at y s now in busy x w rest + busy w x way < busy x y (s ∷ rest) + busy y x way)
stays_lower x y s rest way now k r left =
    let w = after_segment_at y s now in
    let X = stance x in
    let Y = stance y in
    let reopened = left_so x y s now k r left in
    let drawn : again_weight (may_reopen Y X) (left_of w) + answer_weight (tells Y X) (one_if (is_ack_due w)) < again_weight (may_reopen Y X) (left_of y) + answer_weight (tells Y X) (one_if (is_ack_due y)) + weight X Y s =
    by _ (is_light X s) (λ light. light_lowers x y s now k r reopened light)
    (λ heavy. by _ (is_short X s && may_reopen X Y) (λ short. short_lowers x y s now k r left heavy short) (λ long. other_lowers x y s now reopened heavy long)) in
    let there : busy x w rest ≡ again_weight (may_reopen X Y) (left_of x) + answer_weight (tells X Y) (one_if (is_ack_due x)) + weights X Y rest =
    ap (λ (t : Stance). again_weight (may_reopen X t) (left_of x) + answer_weight (tells X t) (one_if (is_ack_due x)) + weights X t rest) r.stands in
    let back : busy w x way ≡ again_weight (may_reopen Y X) (left_of w) + answer_weight (tells Y X) (one_if (is_ack_due w)) + weights Y X way =
    ap (λ (t : Stance). again_weight (may_reopen t X) (left_of w) + answer_weight (tells t X) (one_if (is_ack_due w)) + weights t X way) r.stands in
    let before : busy x y (s ∷ rest) ≡ again_weight (may_reopen X Y) (left_of x) + answer_weight (tells X Y) (one_if (is_ack_due x)) + (weight X Y s + weights X Y rest) =
    ap (λ n. again_weight (may_reopen X Y) (left_of x) + answer_weight (tells X Y) (one_if (is_ack_due x)) + n) (one_before X Y s rest) in
    sums (again_weight (may_reopen X Y) (left_of x) + answer_weight (tells X Y) (one_if (is_ack_due x))) (weights X Y rest) (weight X Y s) (again_weight (may_reopen Y X) (left_of w) + answer_weight (tells Y X) (one_if (is_ack_due w)))
    (again_weight (may_reopen Y X) (left_of y) + answer_weight (tells Y X) (one_if (is_ack_due y))) (weights Y X way) (busy x w rest) (busy w x way) (busy x y (s ∷ rest)) (busy y x way) there back before refl drawn
  where
    sums : (own on_way weighs after before ways a b c d : ℕ) → a ≡ own + on_way → b ≡ after + ways → c ≡ own + (weighs + on_way) → d ≡ before + ways → after < before + weighs → a + b < c + d
    sums own on_way weighs after before ways a b c d e f g h less = omega (arith, e, f, g, h, less)

pub comes_lowers : (x y : View) (s : Segment) (rest way : List Segment) (now : Moment) → Coming x y s now → Lowers x y (after_segment_at y s now) s rest way
comes_lowers x y s rest way now k =
    let w = after_segment_at y s now in
    let m = moves x y s now k in
    let g = m.gained in
    let there = other_lacks x y w m k.met_then in
    let within = k.back.between in
    elim (eqb_tells g.by 0) [
      | inr some ↦
          let own = acknowledged_falls (most_outstanding y) (outstanding y.sending) (past x.receiving.rnext y.sending.una) y.congestion.duplicates (most_outstanding w) (outstanding w.sending) (past x.receiving.rnext w.sending.una) w.congestion.duplicates g.by g.fewer m.out m.taken within some.1 in
          inl (omega (arith, own, there))
      | inl none ↦
          let una : w.sending.una ≡ y.sending.una = let zero = none.1 in omega (arith, g.una, zero, k.other.una, k.sound_then.una) in
          elim (repeats y s now k.other k.there k.opened k.lives una) [
            | inl counts ↦
                let own = counted_falls (most_outstanding y) (outstanding y.sending) (past x.receiving.rnext y.sending.una) y.congestion.duplicates (most_outstanding w) (outstanding w.sending) (past x.receiving.rnext w.sending.una) w.congestion.duplicates g.by g.fewer m.out m.taken none.1 counts in
                inl (omega (arith, own, there))
            | inr left ↦
                let same : 3 - w.congestion.duplicates ≤ 3 - y.congestion.duplicates = let d = left.0 in omega (arith, d) in
                let own = unmoved_stays (most_outstanding y) (outstanding y.sending) (past x.receiving.rnext y.sending.una) y.congestion.duplicates (most_outstanding w) (outstanding w.sending) (past x.receiving.rnext w.sending.una) w.congestion.duplicates g.by g.fewer m.out m.taken none.1 same in
                elim (eqb_tells m.advanced.by 0) [
                  | inr taken_some ↦ let less = other_lacks_less x y w m k.met_then taken_some.1 in inl (omega (arith, own, less))
                  | inl taken_none ↦ inr (omega (arith, own, there), stays_lower x y s rest way now k (rests x y s now k m none.1 taken_none.1) left.1)
                ]
          ]
    ]
