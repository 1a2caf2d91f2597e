-- Why a segment that is rejected changes nothing, and what is CLOSED owes nothing but a reset.
use Rattle.std.proofs.Common.{◌≡◌, ◌+◌, ◌<◌, ◌≤◌, ◌==◌, ◌||◌, ◌&&◌, not, nat_lt, if◌then◌else◌, Bool, true, false, length, Option, Some, None, inl, inr, arith, refl, sym, ◌∙◌, ap, subst, is_some, ℕ}
use Rattle.std.specs.Option.{option_or}
use Rattle.tcp_segment.specs.Segment.{Segment}
use Rattle.clock.specs.declared.moment.Moment.{Moment}
use Rattle.tcp_state.specs.Selective.{allowance}
use Rattle.tcp_state.specs.declared.connection.Fate.TheVariants.{Stays, Removed, Rejected}
use Rattle.tcp_state.specs.declared.emission.Due.{Due}
use Rattle.tcp_state.specs.declared.emission.Due.TheVariants.{Rst, Syn, Text, Probe, Ack, KeepAlive}
use Rattle.tcp_state.specs.declared.state.State.{State}
use Rattle.tcp_state.specs.declared.state.State.TheVariants.{Closed}
use Rattle.tcp_halves.specs.Stream.{outstanding, is_new_ack}
use Rattle.tcp_halves.specs.Windows.{sendable, is_worth_sending, has_grown}
use Rattle.tcp_state.specs.View.{View, IsSound, is_opening, is_syn_sent, is_syn_received, is_closed, is_over, awaits_fin_ack, is_write_finished, takes_flag_number}
use Rattle.tcp_state.specs.Timing.{probes}
use Rattle.tcp_state.specs.Alive.{may_rest, rests}
use Rattle.tcp_state.specs.Arrival.{owing_ack, after_establishment, after_ack, is_off, is_read_on, after_acknowledging_segment, after_acceptable_segment, ends_opening, is_acceptable_to, is_right_syn_ack, after_syn_ack, is_simultaneous_syn, after_simultaneous_syn, after_segment, is_lost, after_lost, after_heard, acknowledges_unsent, is_rejected, before, timed_by, after_segment_at, fate}
use Rattle.tcp_state.specs.New.{sends_fin, waits_no_longer}
use Rattle.tcp_state.specs.Due.{first_due, again_from, new_due, ack_due, new_octets, fin_alone}
use Rattle.tcp_halves.proofs.Choices.{either, clash, and_left, and_right, and_false, or_right, or_else, not_true}

-- the tests of a fate that rejects
record Rejects (lost rejected : Bool) : Type 0 where
  pub kept : lost ≡ false
  pub answered : rejected ≡ true

rejects : (closed lost over rejected opening : Bool) → (if closed || lost then Stays else if over then Removed else if rejected then Rejected else if opening then Removed else Stays) ≡ Rejected
    → Rejects lost rejected
rejects true lost over rejected opening e = cc
rejects false true over rejected opening e = cc
rejects false false true refused opening e = cc
rejects false false false true opening e = record { kept = refl; answered = refl }
rejects false false false false true e = cc
rejects false false false false false e = cc

-- what a rejected segment is: no reset, with an acknowledgement that is not new, and in SYN-RECEIVED acceptable and no SYN
pub record IsUnsent (v : View) (s : Segment) : Type 0 where
  pub no_rst : s.flags.rst ≡ false
  pub ack : s.flags.ack ≡ true
  pub old : is_new_ack v.sending s.acknowledgement ≡ false
  pub received : is_syn_sent v.state ≡ false → (is_syn_received v.state ≡ true) × (is_acceptable_to v s ≡ true) × (s.flags.syn ≡ false)

pub unsent : (v : View) (s : Segment) → is_rejected v s ≡ true → IsUnsent v s
unsent v s e =
    let late = is_syn_received v.state && is_acceptable_to v s && not s.flags.syn in
    let old = and_left (acknowledges_unsent v s) (is_syn_sent v.state || late) e in
    let two = and_left (not s.flags.rst && s.flags.ack) (not (is_new_ack v.sending s.acknowledgement)) old in
    let waits = or_else (is_syn_sent v.state) late (and_right (acknowledges_unsent v s) (is_syn_sent v.state || late) e) in
    record {
      no_rst = not_true s.flags.rst (and_left (not s.flags.rst) s.flags.ack two);
      ack = and_right (not s.flags.rst) s.flags.ack two;
      old = not_true (is_new_ack v.sending s.acknowledgement) (and_right (not s.flags.rst && s.flags.ack) (not (is_new_ack v.sending s.acknowledgement)) old);
      received = λ past. elim waits [
        | inl sent ↦ let bad : true ≡ false = sym sent ∙ past in cc
        | inr l ↦ (
          and_left (is_syn_received v.state) (is_acceptable_to v s) (and_left (is_syn_received v.state && is_acceptable_to v s) (not s.flags.syn) l),
          and_right (is_syn_received v.state) (is_acceptable_to v s) (and_left (is_syn_received v.state && is_acceptable_to v s) (not s.flags.syn) l),
          not_true s.flags.syn (and_right (is_syn_received v.state && is_acceptable_to v s) (not s.flags.syn) l),
        )
      ];
    }

pub unsent_leaves : (v : View) (s : Segment) → IsUnsent v s → after_segment v s ≡ v
unsent_leaves v s u =
    let P : View → Type 0 = λ w. w ≡ v in
    let new = is_new_ack v.sending s.acknowledgement in
    either View P (is_closed v.state) v _
    (λ closed. refl)
    (λ lives. either View P s.flags.rst _ _
    (λ rst. clash s.flags.rst rst u.no_rst)
    (λ no_rst. either View P (is_syn_sent v.state) _ _
    (λ waits. either View P (is_simultaneous_syn v s) (after_simultaneous_syn v s) (after_syn_ack v s) (λ simultaneous. clash s.flags.ack u.ack (not_true s.flags.ack (and_right s.flags.syn (not s.flags.ack) simultaneous)))
    (λ answers. either View P (is_right_syn_ack v s) _ v (λ right. clash new (and_right (s.flags.syn && s.flags.ack) new right) u.old) (λ wrong. refl)))
    (λ past. let r = u.received past in either View P (is_acceptable_to v s) (after_acceptable_segment v s) (owing_ack v)
    (λ accepted. either View P s.flags.syn _ _
    (λ syn. clash s.flags.syn syn r.2)
    (λ no_syn. either View P s.flags.ack (after_acknowledging_segment v s) v
    (λ ack. either View P (is_read_on v s.acknowledgement) _ (after_ack v s.acknowledgement)
    (λ on. clash new (sym (ap (λ b. if b then new else (new || not (is_off v s.acknowledgement))) r.0) ∙ on) u.old)
    (λ off. either View P (is_syn_received v.state) _ _
    (λ received. either View P new (after_establishment v) v (λ is_new. clash new is_new u.old) (λ old. refl))
    (λ not_received. clash (is_syn_received v.state) r.0 not_received)))
    (λ no_ack. refl)))
    (λ refused. clash (is_acceptable_to v s) r.1 refused))))

-- without the clock
pub rejected_leaves : (v : View) (s : Segment) → fate v s ≡ Rejected → after_heard v s ≡ v
rejected_leaves v s e =
    let r = rejects (is_closed v.state) (is_lost v s) (is_over (after_segment v s)) (is_rejected v s) (ends_opening v s) e in
    ap (λ b. if b then after_lost v s else after_segment v s) r.kept ∙ unsent_leaves v s (unsent v s r.answered)

-- .. and with it
pub rejected_leaves_at : (v : View) (s : Segment) (now : Moment) → fate v s ≡ Rejected → after_segment_at v s now ≡ v
rejected_leaves_at v s now e =
    let r = rejects (is_closed v.state) (is_lost v s) (is_over (after_segment v s)) (is_rejected v s) (ends_opening v s) e in
    ap (λ b. if b then v else timed_by (before v s) (after_heard v s) now) (or_right (is_closed v.state) (is_rejected v s) r.answered)

-- What is CLOSED.

-- no test that makes something due holds but that of a reset
pub record IsQuiet (v : View) : Type 0 where
  pub opened : is_opening v.state ≡ false
  pub mark : v.resend.mark ≡ None
  pub octets : sendable v.sending (allowance v) ≡ 0
  pub fin : awaits_fin_ack v.state ≡ false
  pub probe : probes v ≡ false
  pub closed : is_closed v.state ≡ true
  pub ack : v.owes_ack ≡ false

none_new : (octets fin owed probe owes opened closed spoke grown asked rests : Bool) (text end : Due) → octets ≡ false → fin ≡ false → probe ≡ false → owes ≡ false → closed ≡ true → rests ≡ false
    → (if octets then Some text else if fin then Some end else if owed && probe then Some Probe else if owes || (opened && not closed && spoke && grown) then Some Ack else if asked && rests then Some KeepAlive else None) ≡ None
none_new false false true false false true true spoke grown true false text end o f p a c r = refl
none_new false false true false false true true spoke grown false false text end o f p a c r = refl
none_new false false true false false false true spoke grown true false text end o f p a c r = refl
none_new false false true false false false true spoke grown false false text end o f p a c r = refl
none_new false false false false false true true spoke grown true false text end o f p a c r = refl
none_new false false false false false true true spoke grown false false text end o f p a c r = refl
none_new false false false false false false true spoke grown true false text end o f p a c r = refl
none_new false false false false false false true spoke grown false false text end o f p a c r = refl
none_new true fin owed probe owes opened closed spoke grown asked rests text end o f p a c r = cc
none_new false true owed probe owes opened closed spoke grown asked rests text end o f p a c r = cc
none_new false false owed true owes opened closed spoke grown asked rests text end o f p a c r = cc
none_new false false owed false true opened closed spoke grown asked rests text end o f p a c r = cc
none_new false false owed false false opened false spoke grown asked rests text end o f p a c r = cc
none_new false false owed false false opened true spoke grown asked true text end o f p a c r = cc

-- what is closed waits for no peer
closed_rests_not : (t : State) (empty : Bool) → is_closed t ≡ true → (may_rest t && empty) ≡ false
closed_rests_not Closed empty e = refl
closed_rests_not _ empty e = cc

pub none_due : (v : View) → IsQuiet v → first_due v ≡ (if v.owes_reset then Some Rst else None)
none_due v quiet =
    let octets = ap (λ n. nat_lt 0 n && is_worth_sending v.sending (allowance v) (waits_no_longer v)) quiet.octets in
    let fin = ap (λ b. b && (outstanding v.sending == length v.sending.held) && nat_lt (outstanding v.sending) v.sending.window) quiet.fin in
    let new : new_due v ≡ None = none_new _ (sends_fin v) v.resend.owes_probe (probes v) v.owes_ack (not (is_opening v.state)) (is_closed v.state) v.spoke (has_grown v.receiving) v.alive.owed (rests v) (Text (new_octets v)) (Text (fin_alone v)) octets fin quiet.probe quiet.ack quiet.closed
    (closed_rests_not v.state (length v.sending.held == 0) quiet.closed) in
    ap (λ b. if v.owes_reset then Some Rst else if b then (if (outstanding v.sending == 0) || is_some v.resend.mark then Some Syn else ack_due v) else option_or (again_from v v.resend.mark) (new_due v)) quiet.opened
    ∙ ap (λ m. if v.owes_reset then Some Rst else option_or (again_from v m) (new_due v)) quiet.mark
    ∙ ap (λ d. if v.owes_reset then Some Rst else d) new

pub closed_plain : (t : State) → is_closed t ≡ true → (is_opening t ≡ false) × (awaits_fin_ack t ≡ false) × (is_write_finished t ≡ true) × (takes_flag_number t ≡ false)
closed_plain Closed e = (refl, refl, refl, refl)
closed_plain _ e = cc

-- nothing is held or outstanding where all is closed
pub closed_holds : (v : View) → IsSound v → is_closed v.state ≡ true → (length v.sending.held ≡ 0) × (outstanding v.sending ≡ 0)
closed_holds v sound closed =
    let plain = closed_plain v.state closed in
    let held : length v.sending.held ≤ 0 = subst (λ b. length v.sending.held ≤ (if b then 0 else v.sending.size)) (ap (λ b. b || is_write_finished v.state) plain.0 ∙ plain.2) sound.held in
    let flight : outstanding v.sending ≤ length v.sending.held + 0 = subst (λ b. outstanding v.sending ≤ length v.sending.held + (if b then 1 else 0)) plain.3 sound.flight in
    (omega (arith, held), omega (arith, held, flight))

pub none_below : (o : Option ℕ) (n : ℕ) → n ≡ 0 → ((distance : ℕ) → o ≡ Some distance → distance < n) → o ≡ None
none_below None n none below = refl
none_below (Some distance) n none below = let within = below distance refl in absurd (omega (arith, none, within))

owes_none : (sent closed owes delays : Bool) → closed ≡ true → ((sent || closed) && (owes || delays)) ≡ false → owes ≡ false
owes_none sent true false delays c e = refl
owes_none true true true delays c e = cc
owes_none false true true delays c e = cc
owes_none sent false owes delays c e = cc

pub closed_quiet : (v : View) → IsSound v → is_closed v.state ≡ true → IsQuiet v
closed_quiet v sound closed =
    let plain = closed_plain v.state closed in
    let holds = closed_holds v sound closed in
    let probe : probes v ≡ (not (is_opening v.state) && (v.sending.window == 0) && false) =
    ap (λ n. not (is_opening v.state) && (v.sending.window == 0) && (not (n == 0) || awaits_fin_ack v.state)) holds.0
    ∙ ap (λ b. not (is_opening v.state) && (v.sending.window == 0) && b) plain.1 in
    record {
      opened = plain.0;
      mark = none_below v.resend.mark (outstanding v.sending) holds.1 sound.mark;
      octets = omega (arith, holds.0);
      fin = plain.1;
      probe = probe ∙ and_false (not (is_opening v.state) && (v.sending.window == 0));
      closed = closed;
      ack = owes_none (is_syn_sent v.state) (is_closed v.state) v.owes_ack v.delays_ack closed sound.ack;
    }

pub closed_owes : (v : View) → IsSound v → is_closed v.state ≡ true → first_due v ≡ (if v.owes_reset then Some Rst else None)
closed_owes v sound closed = none_due v (closed_quiet v sound closed)
