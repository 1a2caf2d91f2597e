-- Why a SYN without ACK in SYN-SENT draws a SYN-ACK, and what a reset then does.
use Rattle.std.proofs.Common.{◌≡◌, ℕ, ◌^◌, ◌<◌, ◌≤◌, ◌==◌, ◌||◌, ◌&&◌, not, nat_le, nat_lt, if◌then◌else◌, Bool, true, false, length, Some, None, is_some, inl, inr, arith, refl, sym, ◌∙◌, ap, subst}
use Rattle.std.proofs.lemmas.Bool.{le-leb, lt-ltb, eq-eqb}
use Rattle.std.proofs.lemmas.Bool.Decides.{eqb_tells}
use Rattle.clock.specs.declared.moment.Moment.{Moment}
use Rattle.clock.specs.Moments.{sooner}
use Rattle.retransmit.specs.Deadlines.{next_of}
use Rattle.tcp_segment.specs.Segment.{Segment, span_of}
use Rattle.tcp_segment.specs.Wire.{wire, past}
use Rattle.tcp_state.specs.declared.calls.Refusal.TheVariants.{ECONNREFUSED}
use Rattle.tcp_state.specs.declared.connection.Fate.TheVariants.{Stays, Removed, Rejected}
use Rattle.tcp_state.specs.declared.emission.Due.TheVariants.{Rst, Syn}
use Rattle.tcp_state.specs.declared.state.State.{State}
use Rattle.tcp_state.specs.declared.state.State.TheVariants.{SynSent, SynReceived}
use Rattle.tcp_halves.specs.Numbers.{later_number}
use Rattle.tcp_halves.specs.Halves.{Sending}
use Rattle.tcp_halves.specs.Windows.{window_in}
use Rattle.tcp_halves.specs.Stream.{outstanding, is_new_ack, stands_before}
use Rattle.tcp_state.specs.View.{View, IsSound, is_opening, is_syn_sent, is_syn_received, is_closed, is_over, is_write_closed, after_reset}
use Rattle.tcp_state.specs.Tail.{tail_by}
use Rattle.tcp_state.specs.Resend.{mark_past}
use Rattle.tcp_state.specs.Guard.{guard_after}
use Rattle.tcp_state.specs.Timing.{probes, clocked}
use Rattle.tcp_state.specs.Alive.{heard_now}
use Rattle.tcp_state.proofs.Guarded.{sent_not_received, kept_mark, guarded_quiet, active_asks_none, opening_asks_none}
use Rattle.tcp_state.proofs.Selects.{silent_opening}
use Rattle.tcp_state.specs.Arrival.{reset_error, after_rst_in_syn_sent, after_rst, is_acting_reset, ends_by_reset, ends_by_syn, ends_opening, is_acceptable_to, is_simultaneous_syn, after_simultaneous_syn, after_syn_ack, after_segment, is_receiving, is_read, octets_outstanding, brings_more, is_lost, after_lost, after_heard, before, is_moved, timed_by, after_segment_at, is_rejected, fate, counts_duplicates, is_counted_duplicate, resend_left, since_after, congestion_left}
use Rattle.tcp_state.specs.Due.{first_due, ack_due}
use Rattle.tcp_state.specs.Edges.{after_first}
use Rattle.tcp_state.specs.Simultaneous.{AnswersSyn}
use Rattle.tcp_state.specs.Unreachable.{IsRefused}
use Rattle.tcp_state.proofs.Clocked.{silent_needed, comes_to, marks_kept, opening_answers_none, probes_kept}
use Rattle.tcp_halves.proofs.Choices.{either, clash, both, or_left, or_right, of_false, unowed}
use Rattle.tcp_state.proofs.Emissions.{syn_sends}
use Rattle.tcp_state.proofs.Resets.{one_out, next_accepted, rst_not_lost, rst_not_refused}
use Rattle.tcp_state.proofs.Unreachable.{none_listed, opening, silent, at_rest}

-- The SYN.

answered : (v : View) (s : Segment) → is_closed v.state ≡ false → is_syn_sent v.state ≡ true → s.flags.rst ≡ false → is_simultaneous_syn v s ≡ true → after_segment v s ≡ after_simultaneous_syn v s
answered v s lives waits no_rst syn =
    let P : View → Type 0 = λ w. w ≡ after_simultaneous_syn v s in
    either View P (is_closed v.state) v _
    (λ closed. clash (is_closed v.state) closed lives)
    (λ open_yet. either View P s.flags.rst _ _
    (λ rst. clash s.flags.rst rst no_rst)
    (λ plain. either View P (is_syn_sent v.state) _ _
    (λ opens. either View P (is_simultaneous_syn v s) (after_simultaneous_syn v s) (after_syn_ack v s) (λ is. refl) (λ other. clash (is_simultaneous_syn v s) syn other))
    (λ past_opening. clash (is_syn_sent v.state) waits past_opening)))

-- it is due where it has not gone out, and else goes out again
pub goes_at_once : (out : ℕ) → ((out == 0) || is_some (mark_past 0 out)) ≡ true
goes_at_once out = elim (eqb_tells out 0) [
  | inl none ↦ or_left (out == 0) (is_some (mark_past 0 out)) none.0
  | inr some ↦ or_right (out == 0) (is_some (mark_past 0 out)) (ap (λ b. is_some {T = ℕ} (if b then Some 0 else None)) (lt-ltb 0 out (omega (arith, some.1))))
]

-- SND.NXT is the number behind the SYN, whether that had gone out or goes out now
pub then_sent : (una nxt : ℕ) → una < 2 ^ 32 → nxt < 2 ^ 32 → past nxt una ≤ 1 → later_number una nxt (wire una 1) ≡ wire una 1
then_sent una nxt small fits few =
    either ℕ (λ n. n ≡ wire una 1) (nat_le (past nxt una) (past (wire una 1) una)) (wire una 1) nxt
    (λ le. refl) (λ gt. clash (nat_le (past nxt una) (past (wire una 1) una)) (le-leb (past nxt una) (past (wire una 1) una) (omega (arith, small, few))) gt)

-- while the connection opens, no segment is a duplicate ACK
repeats_none : (v : View) (s : Segment) → is_opening v.state ≡ true → is_counted_duplicate v s ≡ false
repeats_none v s opens =
    ap (λ b. not b && is_read v s && nat_lt 0 (octets_outstanding v) && (length s.octets == 0) && not s.flags.fin && (s.acknowledgement == v.sending.una) && (window_in v.sending s.window == v.sending.window) && not (stands_before v.receiving s.number) && counts_duplicates v) opens

answers : (v : View) (s : Segment) (now : Moment) → IsSound v → v.state ≡ SynSent → AnswersSyn v.sending.una s.number (timed_by (before v s) (after_simultaneous_syn v s) now)
answers v s now sound opens =
    let u = after_simultaneous_syn v s in
    let w = timed_by (before v s) u now in
    let out = outstanding v.sending in
    let o = opening v sound opens in
    let due : first_due w ≡ Some Syn =
    ap (λ b. if b then Some Rst else (if (out == 0) || is_some w.resend.mark then Some Syn else ack_due w)) o.quiet
    ∙ (ap (λ m. if (out == 0) || is_some m then Some Syn else ack_due w) (kept_mark v s u now (inl (sent_not_received v.state o.waits)) ∙ marks_kept (before v s) u now (inr (ap is_opening opens)) (opening_answers_none v s (ap is_opening opens)) (repeats_none v s (ap is_opening opens)) (silent_opening v s (ap is_opening opens))) ∙ ap (λ b. if b then Some Syn else ack_due w) (goes_at_once out)) in
    let few : out ≤ 1 = one_out v.sending.size v.state (length v.sending.held) out o.waits sound.held sound.flight in
    record {
      state = refl;
      due = due;
      syn = refl;
      ack = refl;
      number = refl;
      expects = refl;
      then_sent = λ later. ap (λ d. (after_first w d later).sending.nxt) due
          ∙ (ap (λ (t : Sending). t.nxt) (syn_sends w later)
          ∙ then_sent v.sending.una v.sending.nxt sound.una sound.nxt few);
    }

stays_where : (closed lost over refused opening : Bool) → over ≡ false → refused ≡ false → opening ≡ false
    → (if closed || lost then Stays else if over then Removed else if refused then Rejected else if opening then Removed else Stays) ≡ Stays
stays_where true lost over refused opening a b c = refl
stays_where false true over refused opening a b c = refl
stays_where false false false false false a b c = refl
stays_where false false true refused opening a b c = cc
stays_where false false false true opening a b c = cc
stays_where false false false false true a b c = cc

without_ack : (rst ack other more : Bool) → ack ≡ false → (not rst && ack && not other && more) ≡ false
without_ack true ack other more e = refl
without_ack false false other more e = refl
without_ack false true other more e = cc

pub syn_answered : (v : View) (s : Segment) (now : Moment) → IsSound v → v.state ≡ SynSent → s.flags.rst ≡ false → s.flags.syn ≡ true → s.flags.ack ≡ false
    → AnswersSyn v.sending.una s.number (after_segment_at v s now) × (fate v s ≡ Stays)
syn_answered v s now sound opens no_rst syn no_ack =
    let o = opening v sound opens in
    let lives : is_closed v.state ≡ false = ap is_closed opens in
    let is : is_simultaneous_syn v s ≡ true = both s.flags.syn (not s.flags.ack) syn (of_false s.flags.ack no_ack) in
    let same = answered v s lives o.waits no_rst is in
    let kept : is_lost v s ≡ false = ap (λ b. b && is_receiving v.state && is_read v s && brings_more v s) o.kept in
    let taken : is_rejected v s ≡ false = without_ack s.flags.rst s.flags.ack (is_new_ack v.sending s.acknowledgement) _ no_ack in
    let heard : after_heard v s ≡ after_simultaneous_syn v s = ap (λ b. if b then after_lost v s else after_segment v s) kept ∙ same in
    let at : after_segment_at v s now ≡ timed_by (before v s) (after_simultaneous_syn v s) now = comes_to v s now lives taken ∙ ap (λ w. timed_by (before v s) w now) heard in (
      subst (AnswersSyn v.sending.una s.number) (sym at) (answers v s now sound opens),
      stays_where (is_closed v.state) (is_lost v s) (is_over (after_segment v s)) (is_rejected v s) (ends_opening v s) (ap is_over same) taken
          (ap (λ b. not b && (if s.flags.rst then ends_by_reset v s else ends_by_syn v s)) o.waits),
    )

-- A reset.

record IsAnswering (v : View) : Type 0 where
  pub lives : is_closed v.state ≡ false
  pub past_opening : is_syn_sent v.state ≡ false
  pub quiet : v.owes_reset ≡ false

answering : (v : View) → IsSound v → v.state ≡ SynReceived → IsAnswering v
answering v sound is = record { lives = ap is_closed is; past_opening = ap is_syn_sent is; quiet = unowed v.owes_reset (is_closed v.state) v.released (ap is_closed is) sound.reset }

reset_leaves : (v : View) (s : Segment) → IsAnswering v → s.flags.rst ≡ true → is_acting_reset v s ≡ true → ends_by_reset v s ≡ false → after_segment v s ≡ after_reset v (reset_error v.state)
reset_leaves v s a rst acts kept =
    let P : View → Type 0 = λ w. w ≡ after_reset v (reset_error v.state) in
    either View P (is_closed v.state) v _
    (λ closed. clash (is_closed v.state) closed a.lives)
    (λ open_yet. either View P s.flags.rst _ _
    (λ is_rst. either View P (is_syn_sent v.state) (after_rst_in_syn_sent v s) (after_rst v s)
    (λ waits. clash (is_syn_sent v.state) waits a.past_opening)
    (λ past. either View P (is_acting_reset v s) _ _
    (λ acting. either View P (ends_by_reset v s) v (after_reset v (reset_error v.state)) (λ removed. clash (ends_by_reset v s) removed kept) (λ reset. refl))
    (λ elsewhere. clash (is_acting_reset v s) acts elsewhere)))
    (λ no_rst. clash s.flags.rst rst no_rst))

refused : (v : View) (s : Segment) (now : Moment) → IsSound v → v.state ≡ SynReceived → v.owes_reset ≡ false → v.passive ≡ false → IsRefused (timed_by (before v s) (after_reset v (Some ECONNREFUSED)) now)
refused v s now sound is quiet active =
    let needed = silent_needed v s (silent_opening v s (ap is_opening is)) in
    subst (λ t. IsRefused (timed_by (record (before v s) { needless = t }) (after_reset v (Some ECONNREFUSED)) now)) (sym needed)
    (let b = record (before v s) { needless = false } in
    let w = after_reset v (Some ECONNREFUSED) in
    let resend = resend_left b w now in
    let x = record w { since = since_after b w now; resend = resend; congestion = congestion_left b w now; alive = heard_now w.alive now } in
    let guard = guard_after v.guard b.draws_one now in
    let timed = clocked (is_moved b w) (record x { guard = guard }) now in
    subst (λ y. IsRefused (clocked (is_moved b w) y now)) (sym (guarded_quiet b x now (active_asks_none v s active) refl (opening_asks_none v s (ap is_opening is)))) (record {
      closed = refl;
      send = λ octets. refl;
      recv = λ len. refl;
      held = refl;
      readable = none_listed v.receiving.readable (subst (λ t. length v.receiving.readable ≤ (if is_opening t then 0 else v.receiving.size)) is sound.readable);
      due = silent (record v { alive = heard_now v.alive now; guard = guard }) timed.resend quiet (marks_kept b w now (inr (ap is_opening is)) (opening_answers_none v s (ap is_opening is)) (repeats_none v s (ap is_opening is)) (silent_opening v s (ap is_opening is))) (ap (λ b. b && probes (record w { resend = resend })) (probes_kept b w now));
      timer = ap (λ t. sooner (sooner (next_of t) None) (sooner None (tail_by timed t.retransmission))) (at_rest v resend (is_moved b w) now sound.nxt);
    }))

by_no_listener : (acts passive received : Bool) → passive ≡ false → (acts && passive && received) ≡ false
by_no_listener true true received e = cc
by_no_listener true false received e = refl
by_no_listener false passive received e = refl

pub reset_refuses : (v : View) (s : Segment) (now : Moment) → IsSound v → v.state ≡ SynReceived → v.passive ≡ false → s.flags.rst ≡ true → s.number ≡ v.receiving.rnext → span_of s ≡ 0
    → IsRefused (after_segment_at v s now) × (fate v s ≡ Stays)
reset_refuses v s now sound is active rst same none =
    let a = answering v sound is in
    let accepted : is_acceptable_to v s ≡ true = next_accepted v.receiving s.number (span_of s) sound.rnext same none in
    let acts : is_acting_reset v s ≡ true = both (is_acceptable_to v s) (s.number == v.receiving.rnext) accepted (eq-eqb s.number v.receiving.rnext same) in
    let kept : ends_by_reset v s ≡ false = by_no_listener (is_acting_reset v s) v.passive (is_syn_received v.state) active in
    let error : reset_error v.state ≡ Some ECONNREFUSED = ap reset_error is in
    let leaves : after_segment v s ≡ after_reset v (Some ECONNREFUSED) = reset_leaves v s a rst acts kept ∙ ap (after_reset v) error in
    let heard : after_heard v s ≡ after_reset v (Some ECONNREFUSED) = ap (λ b. if b then after_lost v s else after_segment v s) (rst_not_lost v s rst) ∙ leaves in
    let at : after_segment_at v s now ≡ timed_by (before v s) (after_reset v (Some ECONNREFUSED)) now = comes_to v s now a.lives (rst_not_refused v s rst) ∙ ap (λ w. timed_by (before v s) w now) heard in
    let left : v.released ≡ false = unleft v.state v.released is sound.release in (
      subst IsRefused (sym at) (refused v s now sound is a.quiet active),
      stays_where (is_closed v.state) (is_lost v s) (is_over (after_segment v s)) (is_rejected v s) (ends_opening v s)
          (ap is_over leaves ∙ ap (λ b. b && not v.owes_reset) left)
          (rst_not_refused v s rst)
          (ap (λ b. not b && (if s.flags.rst then ends_by_reset v s else ends_by_syn v s)) a.past_opening ∙ (ap (λ b. if b then ends_by_reset v s else ends_by_syn v s) rst ∙ kept)),
    )
  where
    unleft : (t : State) (left : Bool) → t ≡ SynReceived → (left && not (is_write_closed t)) ≡ false → left ≡ false
    unleft SynReceived true e f = cc
    unleft SynReceived false e f = refl
    unleft _ left e f = cc
