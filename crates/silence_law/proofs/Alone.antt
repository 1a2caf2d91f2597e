-- What an acknowledgement alone draws, as its sender would say it now.
use Rattle.std.proofs.Common.{◌≡◌, ℕ, ◌+◌, ◌==◌, ◌&&◌, ◌||◌, ◌⊎◌, inl, inr, not, Bool, true, false, length, if◌then◌else◌, arith, refl, sym, ◌∙◌, ap, ap₂, subst}
use Rattle.std.proofs.lemmas.Bool.{eqb-true, eq-eqb}
use Rattle.std.proofs.lemmas.Bool.Decides.{eqb_tells}
use Rattle.clock.specs.declared.moment.Moment.{Moment}
use Rattle.tcp_segment.specs.Segment.{Segment, bit, span_of}
use Rattle.tcp_segment.specs.Wire.{past}
use Rattle.tcp_halves.specs.Halves.{Sending}
use Rattle.tcp_halves.specs.Heard.{HaveMet}
use Rattle.tcp_halves.specs.Stream.{outstanding, is_new_ack, bare_number, number_before, is_acceptable, stands_before}
use Rattle.tcp_halves.proofs.Choices.{either, by, clash, and_left, and_right, both, or_else, of_false}
use Rattle.tcp_halves.proofs.HeardBare.{heard}
use Rattle.tcp_state.specs.View.{View, IsSound, is_opening, is_syn_sent, is_closed}
use Rattle.tcp_state.specs.Arrival.{is_receiving, counts_fin, owing_ack, after_ack, is_acceptable_to, is_read_on, is_read, after_window, after_text, after_segment, asks, before, is_held_back, timed_by, after_segment_at}
use Rattle.tcp_state.proofs.AckNumbers.{probed_is_one}
use Rattle.tcp_state.proofs.Losses.{past_opening}
use Rattle.tcp_state.proofs.Onward.{few_outstanding}
use Rattle.tcp_state.proofs.Segments.{after_reading, read_tells, reading_sends, reads}
use Rattle.window_law.proofs.Acknowledged.{read_on, knows}
use Rattle.window_law.proofs.Drawing.{ack_owes}
use Rattle.window_law.proofs.Heard.{told}
use Rattle.silence_law.proofs.Emitting.{IsPlain}
use Rattle.silence_law.proofs.Measure.{stance, tells, is_light}
use Rattle.silence_law.proofs.Standing.{Met}
use Rattle.silence_law.proofs.Along.{comes_open}

-- what it says
pub record SaysAlone (x : View) (s : Segment) : Type 0 where
  pub number : s.number ≡ bare_number x.sending
  pub ack : s.acknowledgement ≡ x.receiving.rnext
  pub span : span_of s ≡ 0

pub alone : (x : View) (s : Segment) → is_light (stance x) s ≡ true → SaysAlone x s
alone x s light =
    let number = s.number == bare_number x.sending in
    let ack = s.acknowledgement == x.receiving.rnext in
    let two = and_left (number && ack) (span_of s == 0) light in
    record {
      number = eqb-true s.number (bare_number x.sending) (and_left number ack two);
      ack = eqb-true s.acknowledgement x.receiving.rnext (and_right number ack two);
      span = eqb-true (span_of s) 0 (and_right (number && ack) (span_of s == 0) light);
    }

-- what is acceptable, and acknowledges all that was taken, is read
pub read_so : (x y : View) (s : Segment) → Met y x → IsSound x → IsSound y → is_opening y.state ≡ false → IsPlain s → s.acknowledgement ≡ x.receiving.rnext → is_acceptable_to y s ≡ true → is_read y s ≡ true
read_so x y s back sound other opened plain ack accepted =
    let on : is_read_on y s.acknowledgement ≡ true = subst (λ n. is_read_on y n ≡ true) (sym ack) (read_on y x.receiving.rnext opened other sound.rnext back.between) in
    let one = both (not s.flags.rst) (is_acceptable_to y s) (of_false s.flags.rst plain.no_rst) accepted in
    let two = both (not s.flags.rst && is_acceptable_to y s) (not s.flags.syn) one (of_false s.flags.syn plain.no_syn) in
    let three = both (not s.flags.rst && is_acceptable_to y s && not s.flags.syn) s.flags.ack two plain.ack in
    both (not s.flags.rst && is_acceptable_to y s && not s.flags.syn && s.flags.ack) (is_read_on y s.acknowledgement) three on

pub alone_is_read : (x y : View) (s : Segment) → Met x y → Met y x → IsSound x → IsSound y → is_closed x.state ≡ false → is_opening y.state ≡ false → IsPlain s → SaysAlone x s → is_read y s ≡ true
alone_is_read x y s met back sound other living opened plain says =
    let have : HaveMet x.sending y.receiving = record { una = sound.una; nxt = sound.nxt; rnext = other.rnext; probed = λ probed. probed_is_one x sound living probed; between = met.between } in
    let accepted : is_acceptable_to y s ≡ true = ap₂ (λ n span. is_acceptable y.receiving n span) says.number says.span ∙ heard x.sending y.receiving have met.sent in
    read_so x y s back sound other opened plain says.ack accepted

-- then all that its sender took is known as acknowledged
pub read_moves : (x y : View) (s : Segment) (now : Moment) → Met y x → IsSound x → IsSound y → is_closed y.state ≡ false → is_opening y.state ≡ false → s.acknowledgement ≡ x.receiving.rnext → is_read y s ≡ true
    → is_closed (after_segment_at y s now).state ≡ false → (after_segment_at y s now).sending.una ≡ x.receiving.rnext
read_moves x y s now back sound other living opened ack read lives =
    let c = comes_open y s now living opened lives in
    let t = told y s opened read in
    let a = x.receiving.rnext in
    let una : (after_segment y s).sending.una ≡ a =
    ap (λ (z : View). z.sending.una) (reads y s living (past_opening y.state opened).0 (read_tells y s read))
    ∙ ap (λ (z : Sending). z.una) (reading_sends y s)
    ∙ knows y a _ other sound.rnext back.between (elim t.acknowledges [
      | inl old ↦ inl (subst (λ n. is_new_ack y.sending n ≡ false) ack old.0, t.una ∙ old.1)
      | inr new ↦ inr (subst (λ n. is_new_ack y.sending n ≡ true) ack new.0, t.una ∙ new.1 ∙ ack)
    ]) in
    ap (λ (z : View). z.sending.una) c.0 ∙ una

-- without octets and FIN it owes no acknowledgement of itself
bit_none : (n : ℕ) (a b : Bool) → n + bit a 1 + bit b 1 ≡ 0 → (n ≡ 0) × (b ≡ false)
bit_none n a true e = absurd (omega (arith, e))
bit_none n a false e = (omega (arith, e), refl)

alone_owes : (y : View) (s : Segment) → is_closed y.state ≡ false → is_opening y.state ≡ false → is_read y s ≡ true → span_of s ≡ 0 → (after_segment y s).owes_ack ≡ true → y.owes_ack ≡ true
alone_owes y s living opened read span =
    let P : View → Type 0 = λ w. w.owes_ack ≡ true → y.owes_ack ≡ true in
    let r = read_tells y s read in
    let none = bit_none (length s.octets) s.flags.syn s.flags.fin span in
    let w = after_window (after_ack y s.acknowledgement) s in
    let empty : (length s.octets == 0) ≡ true = eq-eqb (length s.octets) 0 none.0 in
    let heard_so : P w = ack_owes y s.acknowledgement opened r.on in
    let text : P (after_text w s) = either View P ((length s.octets == 0) || not (is_receiving w.state)) w _ (λ no. heard_so)
    (λ some. let bad : true ≡ false = sym (ap (λ b. b || not (is_receiving w.state)) empty) ∙ some in cc) in
    let t = after_text w s in
    let all : P (after_reading y s) = either View P (counts_fin t s) _ _
    (λ counts. clash s.flags.fin (and_left s.flags.fin (is_receiving t.state) (and_left (s.flags.fin && is_receiving t.state) _ counts)) none.1)
    (λ other. either View P (s.flags.fin && is_receiving t.state) (owing_ack t) t (λ fin. clash s.flags.fin (and_left s.flags.fin (is_receiving t.state) fin) none.1) (λ no. text)) in
    subst P (sym (reads y s living (past_opening y.state opened).0 r)) all

-- it asks only for what a probe took, and the other tells that then
asks_news : (x y : View) (s : Segment) → Met x y → IsSound x → IsSound y → is_closed x.state ≡ false → s.number ≡ bare_number x.sending → asks y s ≡ true → tells (stance y) (stance x) ≡ true
asks_news x y s met sound other living number asked =
    let one : past y.receiving.rnext s.number ≡ 1 = eqb-true (past y.receiving.rnext s.number) 1 (and_right _ (stands_before y.receiving s.number) asked) in
    let few = few_outstanding x sound in
    let out : outstanding x.sending ≡ past x.sending.nxt x.sending.una = refl in
    elim (eqb_tells y.receiving.rnext x.sending.una) [
      | inr other_so ↦ ap not other_so.0
      | inl same ↦
          let at = same.1 in
          by (tells (stance y) (stance x) ≡ true) x.sending.probed
          (λ probed.
          let single = probed_is_one x sound living probed in
          let stands : s.number ≡ number_before x.sending.nxt = number ∙ ap (λ b. if b then number_before x.sending.nxt else x.sending.nxt) probed in
          let next : past y.receiving.rnext (number_before x.sending.nxt) ≡ 1 = sym (ap (past y.receiving.rnext) stands) ∙ one in
          absurd (omega (arith, next, single, at, sound.una, sound.nxt, few)))
          (λ unprobed.
          let stands : s.number ≡ x.sending.nxt = number ∙ ap (λ b. if b then number_before x.sending.nxt else x.sending.nxt) unprobed in
          let next : past y.receiving.rnext x.sending.nxt ≡ 1 = sym (ap (past y.receiving.rnext) stands) ∙ one in
          absurd (omega (arith, next, at, sound.una, sound.nxt, few, out)))
    ]

pub alone_draws : (x y : View) (s : Segment) (now : Moment) → Met x y → IsSound x → IsSound y → is_closed x.state ≡ false → is_closed y.state ≡ false → is_opening y.state ≡ false → SaysAlone x s → is_read y s ≡ true
    → is_closed (after_segment_at y s now).state ≡ false → (after_segment_at y s now).owes_ack ≡ true → (y.owes_ack ≡ true) ⊎ (tells (stance y) (stance x) ≡ true)
alone_draws x y s now met sound other living there opened says read lives owes =
    let b = before y s in
    let z = after_segment y s in
    let c = comes_open y s now there opened lives in
    let owed : (timed_by b z now).owes_ack ≡ true = ap (λ (w : View). w.owes_ack) (sym c.0) ∙ owes in
    let answers = z.owes_ack || (b.asks && not (is_syn_sent z.state || is_closed z.state)) in
    let test = is_held_back b z now || b.asks_again in
    let answered : answers ≡ true = unheld test answers owed in
    elim (or_else z.owes_ack (b.asks && not (is_syn_sent z.state || is_closed z.state)) answered) [
      | inl itself ↦ inl (alone_owes y s there opened read says.span itself)
      | inr asked ↦ inr (asks_news x y s met sound other living says.number (and_left b.asks _ asked))
    ]
  where
    unheld : (a b : Bool) → (if a then false else b) ≡ true → b ≡ true
    unheld true b e = cc
    unheld false b e = e
