-- Where what goes out again stands, and how much of it there is.
use Rattle.std.proofs.Common.{◌≡◌, ℕ, ◌-◌, ◌<◌, ◌≤◌, ◌==◌, ◌&&◌, ◌||◌, not, nat_lt, min, max, true, false, if◌then◌else◌, length, List, [], ◌∷◌, Some, None, is_some, arith, refl, ◌∙◌, ap}
use Rattle.std.specs.Option.{option_or}
use Rattle.std.proofs.lemmas.Bool.{ltb-true, lt-ltb}
use Rattle.stream_buf.specs.declared.ranges.Range.{Range}
use Rattle.stream_buf.specs.Ranges.{AreApart}
use Rattle.stream_buf.specs.Scoreboard.{first_gap}
use Rattle.stream_buf.proofs.Reports.{len_most, len_some}
use Rattle.tcp_halves.specs.Stream.{outstanding}
use Rattle.tcp_halves.proofs.Choices.{and_left, and_false, both}
use Rattle.tcp_state.specs.View.{View, IsSound, is_opening}
use Rattle.congestion.specs.Window.{is_recovering}
use Rattle.tcp_state.specs.Selective.{selects, repairs_gaps}
use Rattle.tcp_state.specs.declared.emission.Due.TheVariants.{Rst, Syn, Text}
use Rattle.tcp_state.specs.Due.{ack_due, again, again_from, again_at, goes_by_reports, goes_by_windows, goes_again, new_due, first_due}

-- the first place from a resend mark on that isn't reported
pub record IsMarked (v : View) (place : ℕ) : Type 0 where
  pub mark : ℕ
  pub is : v.resend.mark ≡ Some mark
  pub at : again_at v mark ≡ place
  pub from : mark ≤ place

-- what goes out again is outstanding
pub goes_within : (v : View) (place : ℕ) → goes_again v place ≡ true → place < outstanding v.sending
goes_within v place goes =
    ltb-true place (outstanding v.sending) (and_left (nat_lt place (outstanding v.sending)) (if repairs_gaps v && not v.resend.once then goes_by_reports v place else goes_by_windows v place) goes)

-- where reports don't rule it, it goes within both windows
pub goes_plainly : (v : View) (place : ℕ) → (repairs_gaps v && not v.resend.once) ≡ false → place < outstanding v.sending → goes_by_windows v place ≡ true → goes_again v place ≡ true
goes_plainly v place plain within goes =
    both (nat_lt place (outstanding v.sending)) (if repairs_gaps v && not v.resend.once then goes_by_reports v place else goes_by_windows v place) (lt-ltb place (outstanding v.sending) within)
    (ap (λ b. if b then goes_by_reports v place else goes_by_windows v place) plain ∙ goes)

-- nothing is reported at SND.UNA
front_gap : (reported : List Range) → AreApart 1 reported → first_gap reported 0 ≡ 0
front_gap [] apart = refl
front_gap (r ∷ rs) apart = ap (λ b. if b then 0 else first_gap rs (max 0 r.end)) (lt-ltb 0 r.start apart.0)

pub gap_at_una : (v : View) → IsSound v → again_at v 0 ≡ 0
gap_at_una v sound = front_gap v.resend.reported sound.resend.reported.apart

-- no recovery runs
pub unruled : (v : View) → is_recovering v.congestion ≡ false → (repairs_gaps v && not v.resend.once) ≡ false
unruled v runs = ap (λ b. (selects v && b) && not v.resend.once) runs ∙ ap (λ b. b && not v.resend.once) (and_false (selects v))

-- what stands there goes out again, where reports don't rule it
pub at_una_goes : (v : View) → AreApart 1 v.resend.reported → (repairs_gaps v && not v.resend.once) ≡ false → 0 < outstanding v.sending → again_from v (Some 0) ≡ Some (Text (again v 0))
at_una_goes v apart plain some =
    ap (λ n. if goes_again v n then Some (Text (again v n)) else None) (front_gap v.resend.reported apart)
    ∙ ap (λ b. if b then Some (Text (again v 0)) else None) (goes_plainly v 0 plain some refl)

-- .. and first of all, where it goes out alone
pub first_at_una : (v : View) → v.owes_reset ≡ false → is_opening v.state ≡ false → v.resend.mark ≡ Some 0 → v.resend.once ≡ true → AreApart 1 v.resend.reported → 0 < outstanding v.sending → first_due v ≡ Some (Text (again v 0))
first_at_una v owes opened mark once apart some =
    ap (λ b. if b then Some Rst else if is_opening v.state then (if (outstanding v.sending == 0) || is_some v.resend.mark then Some Syn else ack_due v) else option_or (again_from v v.resend.mark) (new_due v)) owes
    ∙ ap (λ b. if b then (if (outstanding v.sending == 0) || is_some v.resend.mark then Some Syn else ack_due v) else option_or (again_from v v.resend.mark) (new_due v)) opened
    ∙ ap (λ m. option_or (again_from v m) (new_due v)) mark
    ∙ ap (λ o. option_or o (new_due v)) (at_una_goes v apart (ap (λ b. repairs_gaps v && not b) once ∙ and_false (repairs_gaps v)) some)

pub marked_at_una : (v : View) → IsSound v → v.resend.mark ≡ Some 0 → IsMarked v 0
marked_at_una v sound is = record { mark = 0; is = is; at = gap_at_una v sound; from = omega arith }

-- no more than a segment has, and some where there are
pub again_few : (v : View) (place : ℕ) → (let t = again v place in t.count) ≤ min (min (length v.sending.held) (outstanding v.sending) - place) v.sending.smss
again_few v place = len_most v.resend.reported place (min (min (length v.sending.held) (outstanding v.sending) - place) v.sending.smss)

pub again_some : (v : View) (place : ℕ) → 0 < min (min (length v.sending.held) (outstanding v.sending) - place) v.sending.smss → 0 < (let t = again v place in t.count)
again_some v place some = len_some v.resend.reported place (min (min (length v.sending.held) (outstanding v.sending) - place) v.sending.smss) some
