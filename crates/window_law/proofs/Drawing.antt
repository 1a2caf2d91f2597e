-- Why an acknowledgement alone draws none, but for the one that tells what a probe took.
use Rattle.std.proofs.Common.{◌≡◌, ℕ, ◌-◌, ◌<◌, ◌≤◌, ◌^◌, ◌&&◌, ◌||◌, ◌⊎◌, inl, inr, not, nat_lt, nat_le, Bool, true, false, if◌then◌else◌, arith, sym, ◌∙◌, ap, ap₂, subst}
use Rattle.std.proofs.lemmas.Bool.{eqb-true, lt-ltb, le-leb}
use Rattle.clock.specs.declared.moment.Moment.{Moment}
use Rattle.tcp_segment.specs.Wire.{past}
use Rattle.tcp_halves.specs.Halves.{Sending}
use Rattle.tcp_halves.specs.Stream.{outstanding, is_new_ack, bare_number, number_before, stands_before}
use Rattle.tcp_halves.proofs.Choices.{either, by, clash, and_left, and_right, or_else, both, neither, and_false}
use Rattle.tcp_state.specs.declared.emission.Due.TheVariants.{Ack}
use Rattle.tcp_state.specs.View.{View, IsSound, is_opening, is_syn_sent, is_syn_received, is_closed}
use Rattle.tcp_state.specs.Arrival.{owing_ack, after_new_ack, is_of_fin, fin_acknowledged, is_off, after_ack, is_read_on, is_read, after_segment, is_lost, after_lost, after_heard, asks, before, is_held_back, timed_by, after_segment_at}
use Rattle.tcp_state.specs.Said.{segment_of}
use Rattle.tcp_state.proofs.AckNumbers.{probed_is_one}
use Rattle.tcp_state.proofs.Clocked.{comes_to}
use Rattle.tcp_state.proofs.Losses.{past_opening}
use Rattle.tcp_state.proofs.Segments.{read_tells, reading_sends, reads, not_rejected}
use Rattle.stream_law.specs.Pairing.{Present, Pairing, from_other}
use Rattle.stream_law.proofs.PairingInvariant.{shown-from_other}
use Rattle.stream_law.proofs.PairingLaw.{shown}
use Rattle.stream_law.proofs.Sizes.{most_held}
use Rattle.window_law.specs.Windows.{IsOpen, Talks, DrawsNone}
use Rattle.window_law.proofs.Meeting.{At, stands, met, between, flight}
use Rattle.window_law.proofs.Heard.{told}
use Rattle.window_law.proofs.Run.{meets}
use Rattle.window_law.proofs.Acknowledged.{each_heard}

-- what is read, and no more than an acknowledgement, owes none of itself
pub ack_owes : (w : View) (ack : ℕ) → is_opening w.state ≡ false → is_read_on w ack ≡ true → (after_ack w ack).owes_ack ≡ true → w.owes_ack ≡ true
ack_owes w ack opened on =
    let P : View → Type 0 = λ x. x.owes_ack ≡ true → w.owes_ack ≡ true in
    let past_syn = (past_opening w.state opened).1 in
    let new_one = after_new_ack w ack in
    let known : (is_new_ack w.sending ack || not (is_off w ack)) ≡ true = sym (ap (λ b. if b then is_new_ack w.sending ack else is_new_ack w.sending ack || not (is_off w ack)) past_syn) ∙ on in
    either View P (is_syn_received w.state) _ _ (λ received. clash (is_syn_received w.state) received past_syn)
    (λ past_it. either View P (is_new_ack w.sending ack) (if is_of_fin w ack then fin_acknowledged new_one else new_one) _
    (λ new. either View P (is_of_fin w ack) (fin_acknowledged new_one) new_one (λ fin owes. and_left w.owes_ack _ owes) (λ octets owes. owes))
    (λ old. either View P (is_off w ack) (owing_ack w) w
    (λ off. clash (is_new_ack w.sending ack || not (is_off w ack)) known (ap₂ (λ a b. a || not b) old off))
    (λ kept owes. owes)))

heard_owes : (v w : View) → is_closed w.state ≡ false → is_opening w.state ≡ false → is_read w (segment_of v Ack) ≡ true → (after_heard w (segment_of v Ack)).owes_ack ≡ true → w.owes_ack ≡ true
heard_owes v w lives opened read =
    let s = segment_of v Ack in
    let r = read_tells w s read in
    let P : View → Type 0 = λ x. x.owes_ack ≡ true → w.owes_ack ≡ true in
    let kept : is_lost w s ≡ false = and_false _ in
    either View P (is_lost w s) (after_lost w s) (after_segment w s) (λ lost. clash (is_lost w s) lost kept)
    (λ heard. subst P (sym (reads w s lives (past_opening w.state opened).0 r)) (ack_owes w s.acknowledgement opened r.on))

-- it asks only for what a probe took, which the other end alone knows
asks_only : (limit : ℕ) (p : Pairing) (v w : View) → At limit p v w → IsSound v → asks w (segment_of v Ack) ≡ true → (v.sending.probed ≡ true) × (w.receiving.rnext ≡ v.sending.nxt)
asks_only limit p v w at sound asked =
    let one : past w.receiving.rnext (bare_number v.sending) ≡ 1 = eqb-true (past w.receiving.rnext (bare_number v.sending)) 1 (and_right _ (stands_before w.receiving (bare_number v.sending)) asked) in
    let from_una = between limit p v w at in
    let flies = flight limit p v w at in
    let rnext = at.rnext in
    let nxt = at.nxt in
    by ((v.sending.probed ≡ true) × (w.receiving.rnext ≡ v.sending.nxt)) v.sending.probed
    (λ probed.
    let stands_so : bare_number v.sending ≡ number_before v.sending.nxt = ap (λ b. if b then number_before v.sending.nxt else v.sending.nxt) probed in
    let next : past w.receiving.rnext (number_before v.sending.nxt) ≡ 1 = sym (ap (past w.receiving.rnext) stands_so) ∙ one in
    (probed, omega (arith, next, sound.nxt, rnext)))
    (λ unprobed.
    let stands_so : bare_number v.sending ≡ v.sending.nxt = ap (λ b. if b then number_before v.sending.nxt else v.sending.nxt) unprobed in
    let next : past w.receiving.rnext v.sending.nxt ≡ 1 = sym (ap (past w.receiving.rnext) stands_so) ∙ one in
    absurd (omega (arith, next, from_una, flies, at.sent, at.received, at.near, sound.nxt, sound.una, rnext)))

draws_one : (limit : ℕ) (p : Pairing) (v w : View) (now : Moment) → At limit p v w → IsSound v → is_closed w.state ≡ false → is_opening w.state ≡ false → is_read w (segment_of v Ack) ≡ true
    → (after_segment_at w (segment_of v Ack) now).owes_ack ≡ true → (w.owes_ack ≡ true) ⊎ ((v.sending.probed ≡ true) × (w.receiving.rnext ≡ v.sending.nxt))
draws_one limit p v w now at sound lives opened read owes =
    let s = segment_of v Ack in
    let b = before w s in
    let x = after_heard w s in
    let gone = past_opening w.state opened in
    let timed : after_segment_at w s now ≡ timed_by b x now = comes_to w s now lives (not_rejected w s gone.0 gone.1) in
    let owed : (timed_by b x now).owes_ack ≡ true = ap (λ (y : View). y.owes_ack) (sym timed) ∙ owes in
    let answers = x.owes_ack || (b.asks && not (is_syn_sent x.state || is_closed x.state)) in
    let test = is_held_back b x now || b.asks_again in
    let answered : answers ≡ true = unheld test answers owed in
    elim (or_else x.owes_ack (b.asks && not (is_syn_sent x.state || is_closed x.state)) answered) [
      | inl itself ↦ inl (heard_owes v w lives opened read itself)
      | inr asked ↦ inr (asks_only limit p v w at sound (and_left b.asks _ asked))
    ]
  where
    unheld : (a b : Bool) → (if a then false else b) ≡ true → b ≡ true
    unheld true b e = cc
    unheld false b e = e

-- and the answer tells it
tells_taken : (v w : View) → is_closed v.state ≡ false → is_opening v.state ≡ false → IsSound v → is_read v (segment_of w Ack) ≡ true → w.receiving.rnext ≡ v.sending.nxt → 0 < outstanding v.sending
    → (let y = after_segment v (segment_of w Ack) in y.sending.probed) ≡ false
tells_taken v w lives opened sound read same some =
    let s = segment_of w Ack in
    let ack = s.acknowledgement in
    let gone = past_opening v.state opened in
    let tells = told v s opened read in
    let at : past ack v.sending.una ≡ outstanding v.sending = ap (λ n. past n v.sending.una) same in
    let new : is_new_ack v.sending ack ≡ true = both (nat_lt 0 (past ack v.sending.una)) (nat_le (past ack v.sending.una) (outstanding v.sending)) (lt-ltb 0 (past ack v.sending.una) (omega (arith, at, some))) (le-leb (past ack v.sending.una) (outstanding v.sending) (omega (arith, at))) in
    ap (λ (y : View). y.sending.probed) (reads v s lives gone.0 (read_tells v s read))
    ∙ ap (λ (t : Sending). t.probed) (reading_sends v s)
    ∙ tells.probed
    ∙ elim tells.acknowledges [ inl old ↦ clash (is_new_ack v.sending ack) new old.0 | inr moved ↦ moved.3 ]

pub draw_none : (limit : ℕ) → limit ≤ 2 ^ 30 → (p : Pairing) → Talks limit p → (v w : View) → p.own.connection ≡ Present v → p.other.connection ≡ Present w → IsOpen v → IsOpen w → IsSound v → IsSound w → (now : Moment) → DrawsNone v w now × DrawsNone w v now
draw_none limit small p talks v w own other here there sound sound_there now =
    let k = each_heard limit small p talks v w own other here there sound sound_there in
    let h = shown limit p (meets limit p talks) in
    let o = neither (is_opening v.state) (is_closed v.state) here in
    let b = neither (is_opening w.state) (is_closed w.state) there in
    let at = met limit p (stands limit small p h) v w own other o.1 b.1 (past_opening w.state b.0).0 in
    let back = met limit (from_other p) (stands limit small (from_other p) (shown-from_other most_held limit p h)) w v other own b.1 o.1 (past_opening v.state o.0).0 in (
      λ owes. one v w (draws_one limit p v w now at sound b.1 b.0 k.0.0 owes) o.1 o.0 sound k.1.0,
      λ owes. one w v (draws_one limit (from_other p) w v now back sound_there o.1 o.0 k.1.0 owes) b.1 b.0 sound_there k.0.0,
    )
  where
    one : (v w : View) → (w.owes_ack ≡ true) ⊎ ((v.sending.probed ≡ true) × (w.receiving.rnext ≡ v.sending.nxt)) → is_closed v.state ≡ false → is_opening v.state ≡ false → IsSound v → is_read v (segment_of w Ack) ≡ true
        → (w.owes_ack ≡ true) ⊎ ((v.sending.probed ≡ true) × ((let y = after_segment v (segment_of w Ack) in y.sending.probed) ≡ false))
    one v w how lives opened sound read = elim how [
      | inl owed ↦ inl owed
      | inr asked ↦ inr (asked.0, tells_taken v w lives opened sound read asked.1 (let single = probed_is_one v sound lives asked.0 in omega (arith, single)))
    ]
