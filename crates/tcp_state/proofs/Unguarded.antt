-- What guards leave of a segment that they neither refuse nor answer otherwise: all.
use Rattle.std.proofs.Common.{◌≡◌, ◌==◌, ◌&&◌, ◌||◌, not, nat_lt, Bool, true, false, if◌then◌else◌, List, [], length, refl, sym, ◌∙◌, ap, ap₂, subst}
use Rattle.clock.specs.declared.moment.Moment.{Moment}
use Rattle.tcp_segment.specs.declared.blocks.Block.{Block}
use Rattle.tcp_segment.specs.Segment.{Segment, blocks_of}
use Rattle.tcp_halves.specs.Numbers.{is_before}
use Rattle.tcp_halves.specs.Stream.{is_new_ack, is_in_window, outstanding, stands_before}
use Rattle.tcp_halves.specs.Windows.{window_in}
use Rattle.tcp_halves.proofs.Choices.{neither}
use Rattle.tcp_state.specs.declared.arrival.Before.{Before}
use Rattle.tcp_state.specs.Guard.{is_spent}
use Rattle.tcp_state.specs.Resend.{mark_past}
use Rattle.tcp_state.specs.Selective.{selects}
use Rattle.tcp_state.specs.Timing.{probes, clocked}
use Rattle.tcp_state.specs.View.{View, is_opening, is_syn_sent, is_syn_received, is_closed, after_reset}
use Rattle.tcp_state.specs.Arrival.{owing_ack, reset_error, after_rst_in_syn_sent, after_rst, is_simultaneous_syn, after_simultaneous_syn, is_right_syn_ack, after_syn_ack, is_acceptable_to, is_acting_reset, ends_by_reset, ends_by_syn, after_establishment, is_of_fin, fin_acknowledged, after_new_ack, is_too_old, is_off, after_ack, is_read_on, after_window, is_receiving, after_text, counts_fin, after_fin, after_acknowledging_segment, after_acceptable_segment, after_segment, brings_more, is_read, is_lost, after_lost, after_heard, is_rejected, octets_outstanding, counts_duplicates, is_counted_duplicate, blocks_told, came_twice, is_since_loss, tells_needless, draws_one, is_silenced, before, is_moved, is_held_back, noted_by, timed_by, after_segment_at, owes_answer}
use Rattle.tcp_state.specs.Calls.{aborted}
use Rattle.tcp_state.specs.Drawn.{unguarded}
use Rattle.tcp_state.proofs.Segments.{opened_by_syn_ack}
use Rattle.tcp_state.proofs.Guarded.{heard_guard}

branch : (b : Bool) (x y : View) {x' y' : View} → x' ≡ unguarded x → y' ≡ unguarded y → (if b then x' else y') ≡ unguarded (if b then x else y)
branch true x y e f = e
branch false x y e f = f

-- An acknowledgement that isn't too old.

module _ (v : View) (s : Segment) (young : is_too_old v s.acknowledgement ≡ false) where
  off_same : is_off v s.acknowledgement ≡ is_off (unguarded v) s.acknowledgement
  off_same = ap (λ b. is_before v.sending.nxt s.acknowledgement || b) young

  on_same : is_read_on (unguarded v) s.acknowledgement ≡ is_read_on v s.acknowledgement
  on_same = let new = is_new_ack v.sending s.acknowledgement in ap (λ b. if is_syn_received v.state then new else new || not b) (sym off_same)

  ack_same : after_ack (unguarded v) s.acknowledgement ≡ unguarded (after_ack v s.acknowledgement)
  ack_same =
      let ack = s.acknowledgement in
      let new = is_new_ack v.sending ack in
      let fin = is_of_fin v ack in
      branch (is_syn_received v.state) (if new then after_establishment v else v) (if new then (if fin then fin_acknowledged (after_new_ack v ack) else after_new_ack v ack) else if is_off v ack then owing_ack v else v)
      (branch new (after_establishment v) v refl refl)
      (branch new (if fin then fin_acknowledged (after_new_ack v ack) else after_new_ack v ack) (if is_off v ack then owing_ack v else v)
      (branch fin (fin_acknowledged (after_new_ack v ack)) (after_new_ack v ack) refl refl)
      (ap (λ b. if b then owing_ack (unguarded v) else unguarded v) (sym off_same) ∙ branch (is_off v ack) (owing_ack v) v refl refl))

  text_same : (w : View) → after_text (unguarded w) s ≡ unguarded (after_text w s)
  text_same w = branch ((length s.octets == 0) || not (is_receiving w.state)) w _ refl refl

  fin_same : (w : View) → after_fin (unguarded w) s ≡ unguarded (after_fin w s)
  fin_same w = branch (counts_fin w s) _ (if s.flags.fin && is_receiving w.state then owing_ack w else w) refl (branch (s.flags.fin && is_receiving w.state) (owing_ack w) w refl refl)

  read_same : after_acknowledging_segment (unguarded v) s ≡ unguarded (after_acknowledging_segment v s)
  read_same =
      let acked = after_ack v s.acknowledgement in
      let told = after_window acked s in
      let u = unguarded v in
      ap (λ b. if b then after_fin (after_text (after_window (after_ack u s.acknowledgement) s) s) s else after_ack u s.acknowledgement) on_same
      ∙ branch (is_read_on v s.acknowledgement) (after_fin (after_text told s) s) acked
      (ap (λ w. after_fin (after_text (after_window w s) s) s) ack_same ∙ (ap (λ w. after_fin w s) (text_same told) ∙ fin_same (after_text told s)))
      ack_same

  acceptable_same : after_acceptable_segment (unguarded v) s ≡ unguarded (after_acceptable_segment v s)
  acceptable_same =
      branch s.flags.syn (if ends_by_syn v s then v else owing_ack v) (if s.flags.ack then after_acknowledging_segment v s else v)
      (branch (ends_by_syn v s) v (owing_ack v) refl refl) (branch s.flags.ack (after_acknowledging_segment v s) v read_same refl)

  segment_same : after_segment (unguarded v) s ≡ unguarded (after_segment v s)
  segment_same =
      let reset = after_reset v (reset_error v.state) in
      let waits = is_syn_sent v.state in
      let syn = if is_simultaneous_syn v s then after_simultaneous_syn v s else after_syn_ack v s in
      let later = if is_acceptable_to v s then after_acceptable_segment v s else owing_ack v in
      branch (is_closed v.state) v (if s.flags.rst then (if waits then after_rst_in_syn_sent v s else after_rst v s) else if waits then syn else later) refl
      (branch s.flags.rst (if waits then after_rst_in_syn_sent v s else after_rst v s) (if waits then syn else later)
      (branch waits (after_rst_in_syn_sent v s) (after_rst v s)
      (branch (s.flags.ack && is_new_ack v.sending s.acknowledgement) reset v refl refl)
      (branch (is_acting_reset v s) (if ends_by_reset v s then v else reset) (if is_in_window v.receiving s.number then owing_ack v else v)
      (branch (ends_by_reset v s) v reset refl refl) (branch (is_in_window v.receiving s.number) (owing_ack v) v refl refl)))
      (branch waits syn later
      (branch (is_simultaneous_syn v s) (after_simultaneous_syn v s) (after_syn_ack v s) refl (branch (is_right_syn_ack v s) (opened_by_syn_ack v s) v refl refl))
      (branch (is_acceptable_to v s) (after_acceptable_segment v s) (owing_ack v) acceptable_same refl)))

  is_read_same : is_read (unguarded v) s ≡ is_read v s
  is_read_same = ap (λ b. not s.flags.rst && is_acceptable_to v s && not s.flags.syn && s.flags.ack && b) on_same

  lost_same : is_lost (unguarded v) s ≡ is_lost v s
  lost_same = ap (λ r. v.released && is_receiving v.state && r && brings_more v s) is_read_same

  heard_same : after_heard (unguarded v) s ≡ unguarded (after_heard v s)
  heard_same =
      ap (λ b. if b then after_lost (unguarded v) s else after_segment (unguarded v) s) lost_same
      ∙ branch (is_lost v s) (after_lost v s) (after_segment v s) (ap (λ w. aborted (after_window w s)) ack_same) segment_same

  -- What is known of it before.

  counted_same : is_counted_duplicate (unguarded v) s ≡ is_counted_duplicate v s
  counted_same =
      ap (λ r. not (is_opening v.state) && r && nat_lt 0 (octets_outstanding v) && (length s.octets == 0) && not s.flags.fin && (s.acknowledgement == v.sending.una)
      && (window_in v.sending s.window == v.sending.window) && not (stands_before v.receiving s.number) && counts_duplicates v) is_read_same

  blocks_same : blocks_told (unguarded v) s ≡ blocks_told v s
  blocks_same = ap (λ r. if selects v && not (is_opening v.state) && r then blocks_of s else []) is_read_same

  needless_same : tells_needless (unguarded v) s ≡ tells_needless v s
  unfolding tells_needless
  needless_same = ap (λ bs. came_twice s.acknowledgement bs && is_since_loss v bs && (v.resend.tail == 0) && not (probes v)) blocks_same

  before_same : before (unguarded v) s ≡ record (before v s) { draws_one = false; asks_again = false }
  before_same =
      let with : Bool → List Block → Bool → Before = λ d bs n. record (before v s) { is_duplicate = d; blocks = bs; needless = n; draws_one = false; asks_again = false } in
      ap (λ d. with d (blocks_told (unguarded v) s) (tells_needless (unguarded v) s)) counted_same
      ∙ (ap (λ bs. with (is_counted_duplicate v s) bs (tells_needless (unguarded v) s)) blocks_same
      ∙ ap (λ n. with (is_counted_duplicate v s) (blocks_told v s) n) needless_same)

  -- With the clock.

  quiet_same : (now : Moment) → is_silenced v s now ≡ false → (let b = before v s in let w = after_heard v s in let x = timed_by (record b { draws_one = false; asks_again = false }) (unguarded w) now in
      record (timed_by b w now) { guard = x.guard } ≡ x)
  quiet_same now loud =
      let b = before v s in
      let w = after_heard v s in
      let x = timed_by (record b { draws_one = false; asks_again = false }) (unguarded w) now in
      let parts = neither (draws_one v s && is_spent v.guard now) b.asks_again loud in
      let free : is_held_back b w now ≡ false = ap (λ g. draws_one v s && is_spent g now) (heard_guard v s) ∙ parts.0 in
      let n = noted_by b w now in
      let plain = (noted_by (record b { draws_one = false; asks_again = false }) w now).resend.mark in
      ap₂ (λ h a. record (clocked (is_moved b w) (record n {
        owes_ack = if h || a then false else owes_answer b w;
        resend = record n.resend { mark = if a && not h then mark_past 0 (outstanding w.sending) else plain };
      }) now) { guard = x.guard }) free parts.1

  pub guards_leave : (now : Moment) → is_silenced v s now ≡ false → (let w = after_segment_at (unguarded v) s now in record (after_segment_at v s now) { guard = w.guard } ≡ w)
  guards_leave now loud =
      let b = before v s in
      let w = after_heard v s in
      let out = is_closed v.state || is_rejected v s in
      let x = timed_by (record b { draws_one = false; asks_again = false }) (unguarded w) now in
      let heard : timed_by (before (unguarded v) s) (after_heard (unguarded v) s) now ≡ x = ap₂ (λ c y. timed_by c y now) before_same heard_same in
      subst (λ y. record (if out then v else timed_by b w now) { guard = (if out then unguarded v else y).guard } ≡ (if out then unguarded v else y)) (sym heard) (by_out out)
    where
      by_out : (out : Bool) → (let b = before v s in let w = after_heard v s in let x = timed_by (record b { draws_one = false; asks_again = false }) (unguarded w) now in
          record (if out then v else timed_by b w now) { guard = (if out then unguarded v else x).guard } ≡ (if out then unguarded v else x))
      by_out true = refl
      by_out false = quiet_same now loud
