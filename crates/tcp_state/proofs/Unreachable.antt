-- Why an error that a segment can't be delivered ends the opening whose SYN that is, and nothing else.
use Rattle.std.proofs.Common.{◌≡◌, ◌≢◌, ℕ, ◌^◌, ◌<◌, ◌≤◌, ◌==◌, ◌&&◌, not, if◌then◌else◌, Bool, true, false, List, [], ◌∷◌, length, Option, Some, None, inl, inr, nat_lt, arith, refl, sym, ◌∙◌, ap, subst}
use Rattle.std.proofs.lemmas.Bool.Decides.{eqb_tells}
use Rattle.clock.specs.declared.moment.Moment.{Moment}
use Rattle.retransmit.specs.Deadlines.{no_timers}
use Rattle.tcp_segment.specs.Wire.{past}
use Rattle.tcp_state.specs.Selective.{allowance}
use Rattle.tcp_state.specs.declared.timing.TheConstants.{OVERRIDE_WAIT}
use Rattle.tcp_state.specs.declared.calls.Refusal.TheVariants.{ECONNREFUSED}
use Rattle.tcp_state.specs.declared.connection.Fate.TheVariants.{Stays, Removed}
use Rattle.tcp_state.specs.declared.emission.Due.TheVariants.{Rst, Text, KeepAlive}
use Rattle.tcp_state.specs.declared.state.State.{State}
use Rattle.tcp_state.specs.declared.state.State.TheVariants.{SynSent}
use Rattle.tcp_halves.specs.Stream.{outstanding}
use Rattle.tcp_halves.specs.Windows.{sendable, is_worth_sending}
use Rattle.tcp_state.specs.View.{View, IsSound, is_opening, is_syn_sent, is_closed, is_write_closed, after_stop, after_reset, is_over}
use Rattle.tcp_state.specs.Resend.{Resend, stopped}
use Rattle.tcp_state.specs.Timing.{probes, retransmits, awaits_more, running, retransmission_timer, probe_timer, override_timer, clocked}
use Rattle.tcp_state.specs.New.{sends_new, waits_no_longer}
use Rattle.tcp_state.specs.Due.{first_due, new_octets, new_due}
use Rattle.tcp_state.specs.Edges.{Unreachable, after_event, fate_by}
use Rattle.tcp_state.specs.Unreachable.{is_unreachable, after_unreachable, IsRefused}
use Rattle.tcp_halves.proofs.Choices.{both, of_false, unowed}

-- what the error doesn't hit stays
unhit : (v : View) (number : ℕ) → is_unreachable v number ≡ false → after_unreachable v number ≡ v
unhit v number other = ap (λ b. if b then after_reset v (Some ECONNREFUSED) else v) other

no_opening : (t : State) → t ≢ SynSent → is_syn_sent t ≡ false
no_opening SynSent past = absurd (past refl)
no_opening _ past = refl

pub and_no : (a b : Bool) → b ≡ false → (a && b) ≡ false
and_no true b e = e
and_no false b e = refl

pub past_opening_stays : (v : View) (number : ℕ) → v.state ≢ SynSent → after_event v (Unreachable number) ≡ v
past_opening_stays v number past = unhit v number (ap (λ b. b && not (outstanding v.sending == 0) && (v.sending.una == number)) (no_opening v.state past))

none_outstanding : (v : View) → IsSound v → v.sending.nxt ≡ v.sending.una → outstanding v.sending ≡ 0
none_outstanding v sound none = omega (arith, none, sound.una)

none_outstanding_at : (n : ℕ) → n < 2 ^ 32 → past n n ≡ 0
none_outstanding_at n fits = omega (arith, fits)

pub unsent_stays : (v : View) (number : ℕ) → IsSound v → v.sending.nxt ≡ v.sending.una → after_event v (Unreachable number) ≡ v
unsent_stays v number sound none =
    let unsent : not (outstanding v.sending == 0) ≡ false = ap (λ n. not (n == 0)) (none_outstanding v sound none) in
    unhit v number (ap (λ b. b && (v.sending.una == number)) (and_no (is_syn_sent v.state) (not (outstanding v.sending == 0)) unsent))

unequal : (a b : ℕ) → a ≢ b → (a == b) ≡ false
unequal a b differ = elim (eqb_tells a b) [ inl same ↦ absurd (differ same.1) | inr other ↦ other.0 ]

pub other_stays : (v : View) (number : ℕ) → v.sending.una ≢ number → after_event v (Unreachable number) ≡ v
other_stays v number differ = unhit v number (and_no (is_syn_sent v.state && not (outstanding v.sending == 0)) (v.sending.una == number) (unequal v.sending.una number differ))

pub none_listed : (xs : List ℕ) → length xs ≤ 0 → xs ≡ []
none_listed [] e = refl
none_listed (x ∷ xs) e = absurd (omega (arith, e))

-- a connection in SYN-SENT, as it is kept
pub record IsOpening (v : View) : Type 0 where
  pub waits : is_syn_sent v.state ≡ true
  pub kept : v.released ≡ false
  pub quiet : v.owes_reset ≡ false
  pub readable : v.receiving.readable ≡ []

unleft : (t : State) (left : Bool) → t ≡ SynSent → (left && not (is_write_closed t)) ≡ false → left ≡ false
unleft SynSent true e f = cc
unleft SynSent false e f = refl
unleft _ left e f = cc

pub opening : (v : View) → IsSound v → v.state ≡ SynSent → IsOpening v
opening v sound opens = record {
  waits = ap is_syn_sent opens;
  kept = unleft v.state v.released opens sound.release;
  quiet = unowed v.owes_reset (is_closed v.state) v.released (ap is_closed opens) sound.reset;
  readable = none_listed v.receiving.readable (subst (λ t. length v.receiving.readable ≤ (if is_opening t then 0 else v.receiving.size)) opens sound.readable);
}

hit : (v : View) → IsSound v → is_syn_sent v.state ≡ true → v.sending.nxt ≢ v.sending.una → is_unreachable v v.sending.una ≡ true
hit v sound waits sent =
    let some : (outstanding v.sending == 0) ≡ false = unequal (outstanding v.sending) 0 (λ none. sent (omega (arith, none, sound.una, sound.nxt))) in
    both (is_syn_sent v.state && not (outstanding v.sending == 0)) (v.sending.una == v.sending.una) (both (is_syn_sent v.state) (not (outstanding v.sending == 0)) waits (of_false (outstanding v.sending == 0) some)) (equal v.sending.una)
  where
    equal : (n : ℕ) → (n == n) ≡ true
    equal n = elim (eqb_tells n n) [ inl same ↦ same.0 | inr other ↦ absurd (other.1 refl) ]

-- of what is CLOSED and owes no reset nothing is due
pub silent : (v : View) (resend : Resend) → v.owes_reset ≡ false → resend.mark ≡ None → resend.owes_probe ≡ false → first_due (record (after_stop v) { resend = resend }) ≡ None
silent v resend quiet unmarked unprobed =
    let w = record (after_stop v) { resend = record resend { mark = None; owes_probe = false } } in
    let same : record (after_stop v) { resend = resend } ≡ w = rw unmarked (rw unprobed refl) in
    let least : sendable w.sending (allowance w) ≡ 0 = omega arith in
    let none_new : sends_new w ≡ false = ap (λ n. nat_lt 0 n && is_worth_sending w.sending (allowance w) (waits_no_longer w)) least in
    ap first_due same ∙ (ap (λ b. if b then Some Rst else new_due w) quiet
    ∙ (ap (λ b. if b then Some (Text (new_octets w)) else if v.alive.owed && false then Some KeepAlive else None) none_new ∙ ap (λ b. if b then Some KeepAlive else None) (and_no v.alive.owed false refl)))

none_run : (resending probe overriding : Option Moment) → resending ≡ None → probe ≡ None → overriding ≡ None
    → record { retransmission = resending; probe = probe; delayed_ack = None; overriding = overriding } ≡ no_timers
none_run resending probe overriding a b c = rw a (rw b (rw c refl))

-- no timer of it runs
pub at_rest : (v : View) (resend : Resend) (moved : Bool) (now : Moment) → v.sending.nxt < 2 ^ 32 → (clocked moved (record (after_stop v) { resend = resend }) now).timers ≡ no_timers
at_rest v resend moved now fits =
    let w = record (after_stop v) { resend = resend } in
    let idle : probes w ≡ false = and_no (v.sending.window == 0) false refl in
    let none_out : retransmits w ≡ false = ap (λ n. nat_lt 0 n && not (probes w)) (none_outstanding_at v.sending.nxt fits) in
    let least : sendable w.sending (allowance w) ≡ 0 = omega arith in
    let content : awaits_more w ≡ false = ap (λ n. nat_lt 0 n && not (is_worth_sending w.sending (allowance w) (waits_no_longer w))) least in
    none_run (retransmission_timer w moved now) (probe_timer w now) (override_timer w now)
    (ap (λ b. if b then running (if moved then None else None) now resend.timeout.rto else None) none_out)
    (ap (λ b. if b then running None now resend.timeout.rto else None) idle)
    (ap (λ b. if b then running None now OVERRIDE_WAIT else None) content)

refused : (v : View) → IsSound v → IsOpening v → IsRefused (after_reset v (Some ECONNREFUSED))
refused v sound o = record { closed = refl; send = λ octets. refl; recv = λ len. refl; held = refl; readable = o.readable; due = silent v (stopped v.resend) o.quiet refl refl; timer = refl }

pub opening_ends : (v : View) → IsSound v → v.state ≡ SynSent → v.sending.nxt ≢ v.sending.una
    → IsRefused (after_event v (Unreachable v.sending.una)) × (fate_by v (Unreachable v.sending.una) ≡ Stays)
opening_ends v sound opens sent =
    let o = opening v sound opens in
    let ends : after_unreachable v v.sending.una ≡ after_reset v (Some ECONNREFUSED) = ap (λ b. if b then after_reset v (Some ECONNREFUSED) else v) (hit v sound o.waits sent) in (
      subst IsRefused (sym ends) (refused v sound o),
      ap (λ w. if is_over w then Removed else Stays) ends ∙ ap (λ b. if b && not v.owes_reset then Removed else Stays) o.kept,
    )
