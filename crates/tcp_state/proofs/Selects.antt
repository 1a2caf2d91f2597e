-- Where nothing is reported.
use Rattle.std.proofs.Common.{◌≡◌, ◌&&◌, ◌||◌, ◌==◌, not, nat_lt, Bool, true, false, if◌then◌else◌, [], refl, sym, ◌∙◌, ap}
use Rattle.congestion.specs.declared.control.Recovery.{Recovery}
use Rattle.congestion.specs.declared.control.Recovery.TheVariants.{Plain, NewReno, Selective}
use Rattle.congestion.specs.Control.{repairs, repairs_losses, is_selective, is_selective_recovery}
use Rattle.congestion.specs.Window.{Window, is_recovering, goes_on}
use Rattle.stream_buf.specs.Ranges.{covered}
use Rattle.tcp_segment.specs.Segment.{Segment, blocks_of}
use Rattle.tcp_halves.proofs.Choices.{by, clash, and_left, and_right, and_false, not_true}
use Rattle.tcp_state.proofs.Clocked.{reports_none}
use Rattle.tcp_state.specs.View.{View, is_opening}
use Rattle.tcp_state.specs.Selective.{selects}
use Rattle.tcp_state.specs.Timing.{probes}
use Rattle.tcp_state.specs.Arrival.{is_read, counts_duplicates, counts_reports, blocks_told, before, after_heard, reported_by, reports_more, is_report}

selective_repairs : (r : Recovery) → repairs_losses r ≡ false → is_selective_recovery r ≡ false
selective_repairs Plain plain = refl
selective_repairs NewReno plain = refl
selective_repairs Selective plain = cc

-- no recovery ends that doesn't go on
pub ends_none : (c : Window) → goes_on c ≡ false → (is_selective c.control && is_recovering c) ≡ false
ends_none c stands =
    by ((is_selective c.control && is_recovering c) ≡ false) (repairs c.control)
    (λ on. ap (λ b. is_selective c.control && b) (sym (ap (λ r. r && is_recovering c) on) ∙ stands) ∙ and_false (is_selective c.control))
    (λ plain. ap (λ b. b && is_recovering c) (selective_repairs c.control.recovery plain))

-- losses aren't repaired
pub plain_selects_none : (v : View) → repairs v.congestion.control ≡ false → selects v ≡ false
plain_selects_none v plain = ap (λ b. b && v.reporting.sacks) (selective_repairs v.congestion.control.recovery plain)

-- duplicate ACKs count
pub counted_selects_none : (v : View) → counts_duplicates v ≡ true → selects v ≡ false
counted_selects_none v counts =
    let goes = (is_recovering v.congestion || (v.resend.recover == 0)) && not (probes v) in
    by (selects v ≡ false) (repairs v.congestion.control)
    (λ on. not_true (selects v) (second goes (not (selects v)) (sym (ap (λ r. not r || (goes && not (selects v))) on) ∙ counts)))
    (plain_selects_none v)
  where
    second : (a b : Bool) → (a && b) ≡ true → b ≡ true
    second true b e = e
    second false b e = cc

-- a report that counts comes outside a recovery, where all is acknowledged that was outstanding at the last, and nothing is probed
pub record CountsReports (v : View) : Type 0 where
  pub runs : is_recovering v.congestion ≡ false
  pub all : (v.resend.recover == 0) ≡ true
  pub unprobed : probes v ≡ false

pub reports_count : (v : View) → counts_reports v ≡ true → CountsReports v
reports_count v counts =
    let outside = not (is_recovering v.congestion) in
    let all = v.resend.recover == 0 in record {
      runs = not_true (is_recovering v.congestion) (and_left outside all (and_left (outside && all) (not (probes v)) counts));
      all = and_right outside all (and_left (outside && all) (not (probes v)) counts);
      unprobed = not_true (probes v) (and_right (outside && all) (not (probes v)) counts);
    }

pub more_counts : (v : View) (s : Segment) (w : View) → reports_more (before v s) w ≡ true → CountsReports v
more_counts v s w more = reports_count v (and_left (counts_reports v) (nat_lt (covered w.resend.reported) (covered (reported_by (before v s) w))) more)

pub report_counts : (v : View) (s : Segment) → is_report v s ≡ true → CountsReports v
report_counts v s is = more_counts v s (after_heard v s) is

-- reports aren't taken
pub silent_unselected : (v : View) (s : Segment) → selects v ≡ false → blocks_told v s ≡ []
silent_unselected v s none = ap (λ b. if b && not (is_opening v.state) && is_read v s then blocks_of s else []) none

-- the connection opens
pub silent_opening : (v : View) (s : Segment) → is_opening v.state ≡ true → blocks_told v s ≡ []
silent_opening v s opens =
    ap (λ b. if selects v && not b && is_read v s then blocks_of s else []) opens ∙ ap (λ b. if b && is_read v s then blocks_of s else []) (and_false (selects v))

-- so a report that counts comes past the opening
pub more_opened : (v : View) (s : Segment) (w : View) → reports_more (before v s) w ≡ true → is_opening v.state ≡ false
more_opened v s w more =
    by (is_opening v.state ≡ false) (is_opening v.state)
    (λ opens. clash (reports_more (before v s) w) more (reports_none (before v s) w (silent_opening v s opens))) (λ opened. opened)

-- the segment isn't read
pub silent_unread : (v : View) (s : Segment) → is_read v s ≡ false → blocks_told v s ≡ []
silent_unread v s unread =
    let goes = selects v && not (is_opening v.state) in
    ap (λ b. if goes && b then blocks_of s else []) unread ∙ ap (λ b. if b then blocks_of s else []) (and_false goes)
