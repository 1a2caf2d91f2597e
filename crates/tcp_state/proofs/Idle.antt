-- Where nothing of ours is to go out or to be acknowledged, no timer runs for what is sent.
use Rattle.std.proofs.Common.{◌≡◌, ◌+◌, ◌==◌, ◌&&◌, ◌||◌, not, nat_lt, ℕ, Bool, true, false, if◌then◌else◌, length, Option, Some, None, is_some, arith, refl, sym, ◌∙◌, ap}
use Rattle.std.proofs.lemmas.Bool.{eqb-true, le-ltb}
use Rattle.std.specs.Option.{option_or}
use Rattle.clock.specs.declared.moment.Moment.{Moment}
use Rattle.tcp_state.specs.Selective.{allowance, repairs_gaps}
use Rattle.tcp_state.specs.declared.timing.TheConstants.{OVERRIDE_WAIT}
use Rattle.tcp_halves.specs.Stream.{outstanding}
use Rattle.tcp_halves.specs.Windows.{sendable, is_worth_sending}
use Rattle.tcp_state.specs.New.{waits_no_longer, sends_fin}
use Rattle.tcp_state.specs.declared.emission.Due.TheVariants.{Rst, Syn, Text, Probe}
use Rattle.tcp_state.specs.Due.{first_due, ack_due, again, again_at, again_from, goes_by_reports, goes_by_windows, new_octets, fin_alone, new_due}
use Rattle.tcp_halves.proofs.Choices.{and_false, neither, not_true}
use Rattle.tcp_state.specs.View.{View, IsSound, is_opening, awaits_fin_ack, most_outstanding}
use Rattle.tcp_state.specs.Timing.{has_unacknowledged, probes, retransmits, awaits_more, running, waiting_since, awaits_first, retransmission_timer, probe_timer, override_timer, interval_of, unheard_since}
use Rattle.tcp_state.proofs.Awaited.{awaits_nothing}

not_not : (b : Bool) → not b ≡ false → b ≡ true
not_not true e = refl
not_not false e = cc

-- by what waits
abbrev timed : Bool → View → Moment → Bool → Bool → Bool → Bool → Bool → View
timed moved v now probing owed resends more first = record v {
  resend = record v.resend { interval = if probing && is_some v.timers.probe then v.resend.interval else v.resend.timeout.rto; owes_probe = owed };
  timers = record v.timers {
    retransmission = if resends then running (if moved then None else v.timers.retransmission) now v.resend.timeout.rto else None;
    probe = if probing then running v.timers.probe now v.resend.timeout.rto else None;
    overriding = if more then running v.timers.overriding now OVERRIDE_WAIT else v.timers.overriding;
  };
  unheard = if first then Some (waiting_since v.unheard now) else None;
}

none_waits : (moved : Bool) (v : View) (now : Moment) → probes v ≡ false → retransmits v ≡ false → awaits_more v ≡ false → awaits_first v ≡ false
    → timed moved v now false false false false false ≡ timed moved v now (probes v) (v.resend.owes_probe && probes v) (retransmits v) (awaits_more v) (awaits_first v)
none_waits moved v now silent rests enough waits =
    let owed : (v.resend.owes_probe && probes v) ≡ false = ap (λ b. v.resend.owes_probe && b) silent ∙ and_false v.resend.owes_probe in
    sym (ap (λ b. timed moved v now b (v.resend.owes_probe && probes v) (retransmits v) (awaits_more v) (awaits_first v)) silent
    ∙ (ap (λ b. timed moved v now false b (retransmits v) (awaits_more v) (awaits_first v)) owed
    ∙ (ap (λ b. timed moved v now false false b (awaits_more v) (awaits_first v)) rests
    ∙ (ap (λ b. timed moved v now false false false b (awaits_first v)) enough
    ∙ ap (λ b. timed moved v now false false false false b) waits))))

-- past the opening nothing is held, our side isn't closing, and nothing is outstanding
record Rests (v : View) : Type 0 where
  opened : is_opening v.state ≡ false
  empty : length v.sending.held ≡ 0
  unfinished : awaits_fin_ack v.state ≡ false
  none : outstanding v.sending ≡ 0
  silent : probes v ≡ false
  unsent : sendable v.sending (allowance v) ≡ 0

rests_where : (v : View) → IsSound v → not (is_opening v.state || has_unacknowledged v) ≡ true → Rests v
rests_where v sound idle =
    let some = neither (is_opening v.state) (has_unacknowledged v) (not_true (is_opening v.state || has_unacknowledged v) idle) in
    let opened : is_opening v.state ≡ false = some.0 in
    let held = neither (not (length v.sending.held == 0)) (awaits_fin_ack v.state) some.1 in
    let empty : length v.sending.held ≡ 0 = eqb-true (length v.sending.held) 0 (not_not (length v.sending.held == 0) held.0) in
    let shut = v.sending.window == 0 in
    let most : most_outstanding v ≡ 0 = ap (λ n. n + (if is_opening v.state || awaits_fin_ack v.state then 1 else 0)) empty ∙ (ap (λ b. 0 + (if b || awaits_fin_ack v.state then 1 else 0)) opened ∙ ap (λ b. 0 + (if b then 1 else 0)) held.1) in
    record {
      opened = opened;
      empty = empty;
      unfinished = held.1;
      none = omega (arith, most, sound.flight);
      silent = ap (λ b. not (is_opening v.state) && shut && b) some.1 ∙ (ap (λ b. not b && shut && false) opened ∙ and_false shut);
      unsent = omega (arith, empty);
    }

pub idle_timers : (moved : Bool) (v : View) (now : Moment) → IsSound v → not (is_opening v.state || has_unacknowledged v) ≡ true
    → record v { resend = record v.resend { interval = v.resend.timeout.rto; owes_probe = false }; timers = record v.timers { retransmission = None; probe = None }; unheard = None }
    ≡ record v { resend = record v.resend { interval = interval_of v; owes_probe = v.resend.owes_probe && probes v }; timers = record v.timers { retransmission = retransmission_timer v moved now; probe = probe_timer v now; overriding = override_timer v now }; unheard = unheard_since v now }
idle_timers moved v now sound idle =
    let at_rest = rests_where v sound idle in
    let worth = is_worth_sending v.sending (allowance v) (waits_no_longer v) in
    let rests : retransmits v ≡ false = ap (λ n. nat_lt 0 n && not (probes v)) at_rest.none in
    let enough : awaits_more v ≡ false = ap (λ n. not (is_opening v.state) && (nat_lt 0 n && not worth)) at_rest.unsent ∙ and_false (not (is_opening v.state)) in
    none_waits moved v now at_rest.silent rests enough (awaits_nothing v at_rest.opened at_rest.empty at_rest.unfinished)

-- nothing goes out again where nothing is outstanding
none_again : (v : View) (mark : Option ℕ) → outstanding v.sending ≡ 0 → again_from v mark ≡ None
none_again v None none = refl
none_again v (Some mark) none =
    let place : ℕ = again_at v mark in
    let ruled = if repairs_gaps v && not v.resend.once then goes_by_reports v place else goes_by_windows v place in
    ap (λ b. if b && ruled then Some (Text (again v place)) else None) (le-ltb place (outstanding v.sending) (omega (arith, none)))

-- there an acknowledgement alone is due first, or a probe of a silent peer, if anything is
pub idle_due : (v : View) → IsSound v → not (is_opening v.state || has_unacknowledged v) ≡ true → v.owes_reset ≡ false → ack_due v ≡ first_due v
idle_due v sound idle unreset =
    let at_rest = rests_where v sound idle in
    let worth = is_worth_sending v.sending (allowance v) (waits_no_longer v) in
    let all = outstanding v.sending == length v.sending.held in
    let fits = nat_lt (outstanding v.sending) v.sending.window in
    let opening = if (outstanding v.sending == 0) || is_some v.resend.mark then Some Syn else ack_due v in
    let new : new_due v ≡ ack_due v =
    ap (λ n. if nat_lt 0 n && worth then Some (Text (new_octets v)) else if sends_fin v then Some (Text (fin_alone v)) else if v.resend.owes_probe && probes v then Some Probe else ack_due v) at_rest.unsent
    ∙ (ap (λ b. if b && all && fits then Some (Text (fin_alone v)) else if v.resend.owes_probe && probes v then Some Probe else ack_due v) at_rest.unfinished
    ∙ ap (λ b. if b then Some Probe else ack_due v) (ap (λ b. v.resend.owes_probe && b) at_rest.silent ∙ and_false v.resend.owes_probe)) in
    sym (ap (λ b. if b then Some Rst else if is_opening v.state then opening else option_or (again_from v v.resend.mark) (new_due v)) unreset
    ∙ (ap (λ b. if b then opening else option_or (again_from v v.resend.mark) (new_due v)) at_rest.opened
    ∙ (ap (λ d. option_or d (new_due v)) (none_again v v.resend.mark at_rest.none) ∙ new)))
