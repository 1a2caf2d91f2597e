-- Why an acknowledgement that is owed goes out alone where nothing else waits.
use Rattle.std.proofs.Common.{◌≡◌, ◌+◌, ◌≤◌, ◌==◌, ◌||◌, ◌&&◌, not, nat_lt, if◌then◌else◌, Bool, true, false, [], length, Some, None, is_some, arith, refl, ◌∙◌, ap, subst}
use Rattle.std.specs.Option.{option_or}
use Rattle.tcp_state.specs.Selective.{allowance}
use Rattle.tcp_state.specs.declared.emission.Due.TheVariants.{Rst, Syn, Text, Probe, Ack, KeepAlive}
use Rattle.tcp_halves.specs.Stream.{outstanding, bare_number}
use Rattle.tcp_halves.specs.Windows.{sendable, is_worth_sending}
use Rattle.tcp_state.specs.View.{View, IsSound, is_opening, is_closed, is_syn_sent, awaits_fin_ack, takes_flag_number}
use Rattle.tcp_state.specs.Timing.{probes}
use Rattle.tcp_state.specs.Alive.{is_alive_due}
use Rattle.tcp_state.specs.New.{sends_fin, waits_no_longer}
use Rattle.tcp_state.specs.Due.{is_ack_due, ack_due, again_from, new_octets, fin_alone, new_due, first_due}
use Rattle.tcp_state.specs.Said.{segment_of}
use Rattle.tcp_state.specs.Progress.{IsAckAlone}
use Rattle.tcp_halves.proofs.Choices.{and_false, or_left}
use Rattle.tcp_state.proofs.AckNumbers.{bare_at_rest}
use Rattle.tcp_state.proofs.Unchanged.{none_below}
use Rattle.tcp_state.proofs.ResetAges.{live}

-- nothing is outstanding where nothing is held, and neither our SYN nor our FIN is
pub none_out : (v : View) → IsSound v → is_opening v.state ≡ false → awaits_fin_ack v.state ≡ false → v.sending.held ≡ [] → outstanding v.sending ≡ 0
none_out v sound opened shut empty =
    let none : length v.sending.held ≡ 0 = ap length empty in
    let flag : takes_flag_number v.state ≡ false = ap (λ b. b || awaits_fin_ack v.state) opened ∙ shut in
    let few : outstanding v.sending ≤ length v.sending.held + 0 = subst (λ b. outstanding v.sending ≤ length v.sending.held + (if b then 1 else 0)) flag sound.flight in
    omega (arith, few, none)

-- and nothing is probed for
pub unprobed : (v : View) → awaits_fin_ack v.state ≡ false → v.sending.held ≡ [] → probes v ≡ false
unprobed v shut empty =
    let none : length v.sending.held ≡ 0 = ap length empty in
    ap (λ n. not (is_opening v.state) && (v.sending.window == 0) && (not (n == 0) || awaits_fin_ack v.state)) none
    ∙ (ap (λ b. not (is_opening v.state) && (v.sending.window == 0) && b) shut ∙ and_false (not (is_opening v.state) && (v.sending.window == 0)))

owing_lives : (sent closed owes delays : Bool) → ((sent || closed) && (owes || delays)) ≡ false → owes ≡ true → closed ≡ false
owing_lives sent false owes delays e o = refl
owing_lives true true true delays e o = cc
owing_lives false true true delays e o = cc
owing_lives sent true false delays e o = cc

-- and nothing but an acknowledgement, or a probe of a silent peer, is due
pub ack_or_probe : (v : View) → IsSound v → is_opening v.state ≡ false → awaits_fin_ack v.state ≡ false → v.sending.held ≡ [] → is_closed v.state ≡ false → first_due v ≡ ack_due v
ack_or_probe v sound opened shut empty lives =
    let none = none_out v sound opened shut empty in
    let held : length v.sending.held ≡ 0 = ap length empty in
    let few : sendable v.sending (allowance v) ≡ 0 = omega (arith, held) in
    let probed = unprobed v shut empty in
    ap (λ b. if b then Some Rst else if is_opening v.state then (if (outstanding v.sending == 0) || is_some v.resend.mark then Some Syn else ack_due v) else option_or (again_from v v.resend.mark) (new_due v)) (live v sound lives)
    ∙ (ap (λ b. if b then (if (outstanding v.sending == 0) || is_some v.resend.mark then Some Syn else ack_due v) else option_or (again_from v v.resend.mark) (new_due v)) opened
    ∙ (ap (λ m. option_or (again_from v m) (new_due v)) (none_below v.resend.mark (outstanding v.sending) none sound.mark)
    ∙ (ap (λ n. if nat_lt 0 n && is_worth_sending v.sending (allowance v) (waits_no_longer v) then Some (Text (new_octets v)) else if sends_fin v then Some (Text (fin_alone v)) else if v.resend.owes_probe && probes v then Some Probe else ack_due v) few
    ∙ (ap (λ b. if b && (outstanding v.sending == length v.sending.held) && nat_lt (outstanding v.sending) v.sending.window then Some (Text (fin_alone v)) else if v.resend.owes_probe && probes v then Some Probe else ack_due v) shut
    ∙ (ap (λ b. if v.resend.owes_probe && b then Some Probe else ack_due v) probed
    ∙ ap (λ b. if b then Some Probe else ack_due v) (and_false v.resend.owes_probe))))))

ack_first : (v : View) → IsSound v → is_opening v.state ≡ false → awaits_fin_ack v.state ≡ false → v.sending.held ≡ [] → v.owes_ack ≡ true → first_due v ≡ Some Ack
ack_first v sound opened shut empty owes =
    let lives : is_closed v.state ≡ false = owing_lives (is_syn_sent v.state) (is_closed v.state) v.owes_ack v.delays_ack sound.ack owes in
    let due : is_ack_due v ≡ true = or_left v.owes_ack _ owes in
    ack_or_probe v sound opened shut empty lives ∙ ap (λ b. if b then Some Ack else if is_alive_due v then Some KeepAlive else None) due

alone_at_next : (v : View) → IsSound v → is_opening v.state ≡ false → awaits_fin_ack v.state ≡ false → v.sending.held ≡ [] → v.owes_ack ≡ true → bare_number v.sending ≡ v.sending.nxt
alone_at_next v sound opened shut empty owes =
    bare_at_rest v sound (owing_lives (is_syn_sent v.state) (is_closed v.state) v.owes_ack v.delays_ack sound.ack owes) (none_out v sound opened shut empty)

pub owed_alone : (v : View) → IsSound v → is_opening v.state ≡ false → awaits_fin_ack v.state ≡ false → v.sending.held ≡ [] → v.owes_ack ≡ true
    → (first_due v ≡ Some Ack) × IsAckAlone v (segment_of v Ack)
owed_alone v sound opened shut empty owes = (
  ack_first v sound opened shut empty owes,
  record { number = alone_at_next v sound opened shut empty owes; acknowledgement = refl; octets = refl; no_fin = refl; ordinary = record { ack = refl; no_rst = refl; no_syn = refl } },
)
