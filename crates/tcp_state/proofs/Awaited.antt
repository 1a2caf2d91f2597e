-- Where a segment that takes numbers is due while nothing is outstanding, and since when.
use Rattle.std.proofs.Common.{◌≡◌, ◌==◌, ◌&&◌, ◌||◌, not, nat_lt, Bool, true, false, if◌then◌else◌, length, Option, Some, None, is_some, arith, refl, ◌∙◌, ap}
use Rattle.clock.specs.declared.moment.Moment.{Moment}
use Rattle.tcp_halves.specs.Stream.{outstanding}
use Rattle.tcp_halves.specs.Windows.{sendable, is_worth_sending}
use Rattle.tcp_state.specs.Selective.{allowance}
use Rattle.tcp_state.specs.View.{View, is_opening, awaits_fin_ack}
use Rattle.tcp_state.specs.New.{sends_new, sends_fin, waits_no_longer}
use Rattle.tcp_state.specs.Timing.{probes, waiting_since, awaits_first}
use Rattle.tcp_halves.proofs.Choices.{and_false}

-- past the opening, where nothing is held and our side isn't closing, nothing waits
pub awaits_nothing : (v : View) → is_opening v.state ≡ false → length v.sending.held ≡ 0 → awaits_fin_ack v.state ≡ false → awaits_first v ≡ false
awaits_nothing v opened empty unfinished =
    let idle = outstanding v.sending == 0 in
    let worth = is_worth_sending v.sending (allowance v) (waits_no_longer v) in
    let all = outstanding v.sending == length v.sending.held in
    let fits = nat_lt (outstanding v.sending) v.sending.window in
    let owes = v.resend.owes_probe in
    let shut = v.sending.window == 0 in
    let none : sendable v.sending (allowance v) ≡ 0 = omega (arith, empty) in
    let silent : probes v ≡ false =
    ap (λ b. not b && shut && (not (length v.sending.held == 0) || awaits_fin_ack v.state)) opened
    ∙ (ap (λ n. shut && (not (n == 0) || awaits_fin_ack v.state)) empty ∙ (ap (λ b. shut && b) unfinished ∙ and_false shut)) in
    ap (λ b. idle && (b || sends_new v || sends_fin v || (owes && probes v))) opened
    ∙ (ap (λ n. idle && ((nat_lt 0 n && worth) || sends_fin v || (owes && probes v))) none
    ∙ (ap (λ b. idle && ((b && all && fits) || (owes && probes v))) unfinished
    ∙ (ap (λ b. idle && (owes && b)) silent ∙ (ap (λ b. idle && b) (and_false owes) ∙ and_false idle))))

-- a moment stands exactly where something waits
pub stands_where : (waits : Bool) (since : Moment) → is_some (if waits then Some since else None) ≡ waits
stands_where true since = refl
stands_where false since = refl

-- it stays where something waits on
pub waits_on : (waits : Bool) (since : Option Moment) (now : Moment) → is_some since ≡ waits → (if waits then Some (waiting_since since now) else None) ≡ since
waits_on true (Some since) now e = refl
waits_on true None now e = cc
waits_on false (Some since) now e = cc
waits_on false None now e = refl

and_again : (a b : Bool) → ((a && b) && b) ≡ (a && b)
and_again true true = refl
and_again true false = refl
and_again false b = refl

-- the end of an event leaves whether something waits as it is
pub awaits_still : (v : View) (idle fresh : Bool) → (idle && (fresh || ((v.resend.owes_probe && probes v) && probes v))) ≡ (idle && (fresh || (v.resend.owes_probe && probes v)))
awaits_still v idle fresh = ap (λ b. idle && (fresh || b)) (and_again v.resend.owes_probe (probes v))
