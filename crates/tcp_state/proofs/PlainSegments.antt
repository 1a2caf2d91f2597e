-- What a plain segment leaves: most steps that one is taken by change nothing then.
use Rattle.std.proofs.Common.{◌≡◌, ℕ, zero, suc, ◌+◌, ◌%◌, ◌^◌, ◌<◌, ◌==◌, ◌||◌, ◌&&◌, not, nat_lt, nat_le, if◌then◌else◌, Bool, true, false, List, [], ◌∷◌, length, inl, inr, arith, refl, sym, ◌∙◌, ap, ap₂}
use Rattle.std.proofs.lemmas.Bool.{lt-leb, le-leb}
use Rattle.std.proofs.lemmas.Bool.Decides.{eqb_tells}
use Rattle.clock.specs.declared.moment.Moment.{Moment}
use Rattle.tcp_segment.specs.declared.blocks.Block.{Block}
use Rattle.tcp_segment.specs.Segment.{Segment, blocks_of, span_of}
use Rattle.tcp_segment.specs.Wire.{past}
use Rattle.tcp_halves.specs.Halves.{Receiving}
use Rattle.tcp_halves.specs.Stream.{outstanding, is_new_ack, receive_window, is_in_window, is_acceptable, stands_before}
use Rattle.tcp_halves.specs.Windows.{window_in}
use Rattle.tcp_state.specs.declared.connection.Fate.TheVariants.{Stays, Removed, Rejected}
use Rattle.tcp_state.specs.declared.state.State.{State}
use Rattle.tcp_state.specs.declared.state.State.TheVariants.{Established}
use Rattle.tcp_state.specs.View.{View, IsSound, is_opening, is_syn_sent, is_syn_received, is_closed, is_time_wait, is_write_closed, is_over}
use Rattle.tcp_state.specs.Alive.{heard_now}
use Rattle.tcp_state.specs.Selective.{selects}
use Rattle.tcp_state.specs.Timing.{clocked}
use Rattle.tcp_state.specs.Resend.{mark_past}
use Rattle.tcp_state.specs.Guard.{is_spent, guard_after}
use Rattle.tcp_state.specs.declared.arrival.Before.{Before}
use Rattle.tcp_state.specs.declared.reporting.Reporting.{Reporting}
use Rattle.tcp_state.specs.Arrival.{is_receiving, is_acceptable_to, is_off, is_read_on, after_ack, is_of_fin, after_establishment, after_new_ack, fin_acknowledged, owing_ack, after_window, after_text, after_fin, counts_fin, is_read, brings_more, is_lost, after_lost, after_segment, is_rejected, ends_by_reset, ends_opening, fate, begins_wait, answers_probe, is_counted_duplicate, octets_outstanding, counts_duplicates, blocks_told, before, since_after, is_moved, guarded, timed_by, after_segment_at, owes_answer}
use Rattle.tcp_state.specs.Plain.{is_established, is_steady, has_ack_alone, reports_nothing, is_plain, brings_octets}
use Rattle.tcp_halves.proofs.Choices.{either, clash, and_left, and_right, and_false, or_left, or_else, not_true}
use Rattle.tcp_state.proofs.Segments.{IsRead, reads, not_rejected, fate_of_acknowledging}
use Rattle.tcp_state.proofs.Clocked.{equal, comes_to, starts_none, silent_needed, timed_unmoved}
use Rattle.tcp_state.proofs.Guarded.{in_reach, without_syn, read_draws_none, next_asks_none, no_answer}
use Rattle.tcp_state.proofs.Onward.{few_outstanding, told_una}

-- What is known of one.
pub record IsPlain (v : View) (s : Segment) : Type 0 where
  pub state : v.state ≡ Established
  pub kept : v.released ≡ false
  pub sends : (v.sending.window == 0) ≡ false
  pub room : nat_lt 0 (receive_window v.receiving) ≡ true
  pub ack : s.flags.ack ≡ true
  pub no_syn : s.flags.syn ≡ false
  pub no_fin : s.flags.fin ≡ false
  pub no_rst : s.flags.rst ≡ false
  pub number : s.number ≡ v.receiving.rnext
  pub silent : blocks_told v s ≡ []

is_it : (t : State) → is_established t ≡ true → t ≡ Established
is_it Established e = refl
is_it _ e = cc

pub same_number : (m n : ℕ) → (m == n) ≡ true → m ≡ n
same_number m n e = elim (eqb_tells m n) [ inl same ↦ same.1 | inr other ↦ clash (m == n) e other.0 ]

held_by_caller : (released : Bool) (t : State) → t ≡ Established → (released && not (is_write_closed t)) ≡ false → released ≡ false
held_by_caller true t is e = sym (ap (λ u. not (is_write_closed u)) is) ∙ e
held_by_caller false t is e = refl

nothing_in : (blocks : List Block) → (length blocks == 0) ≡ true → blocks ≡ []
nothing_in [] e = refl
nothing_in (block ∷ blocks) e = let none = same_number (length (block ∷ blocks)) 0 e in absurd (omega (arith, none))

told_nothing : (v : View) (s : Segment) → reports_nothing v s ≡ true → blocks_told v s ≡ []
told_nothing v s e = elim (or_else (not (selects v)) (length (blocks_of s) == 0) e) [
  | inl none ↦ ap (λ b. if b && not (is_opening v.state) && is_read v s then blocks_of s else []) (not_true (selects v) none)
  | inr empty ↦ either (List Block) (λ bs. bs ≡ []) (selects v && not (is_opening v.state) && is_read v s) (blocks_of s) [] (λ asked. nothing_in (blocks_of s) empty) (λ unasked. refl)
]

pub plain_tells : (v : View) (s : Segment) → IsSound v → is_plain v s ≡ true → IsPlain v s
plain_tells v s sound e =
    let alone = has_ack_alone s.flags in
    let at_next = s.number == v.receiving.rnext in
    let three = and_left (is_steady v && alone && at_next) (reports_nothing v s) e in
    let two = and_left (is_steady v && alone) at_next three in
    let steady = and_left (is_steady v) alone two in
    let bits = and_right (is_steady v) alone two in
    let opens = and_left (is_established v.state && not (v.sending.window == 0)) (nat_lt 0 (receive_window v.receiving)) steady in
    let f = s.flags in
    let first = and_left (f.ack && not f.syn && not f.fin) (not f.rst) bits in
    let second = and_left (f.ack && not f.syn) (not f.fin) first in
    let state = is_it v.state (and_left (is_established v.state) (not (v.sending.window == 0)) opens) in
    record {
      state = state;
      kept = held_by_caller v.released v.state state sound.release;
      sends = not_true (v.sending.window == 0) (and_right (is_established v.state) (not (v.sending.window == 0)) opens);
      room = and_right (is_established v.state && not (v.sending.window == 0)) (nat_lt 0 (receive_window v.receiving)) steady;
      ack = and_left f.ack (not f.syn) second;
      no_syn = not_true f.syn (and_right f.ack (not f.syn) second);
      no_fin = not_true f.fin (and_right (f.ack && not f.syn) (not f.fin) first);
      no_rst = not_true f.rst (and_right (f.ack && not f.syn && not f.fin) (not f.rst) bits);
      number = same_number s.number v.receiving.rnext (and_right (is_steady v && alone) at_next three);
      silent = told_nothing v s (and_right (is_steady v && alone && at_next) (reports_nothing v s) e);
    }

-- It is read.

pub past_itself : (n : ℕ) → n < 2 ^ 32 → past n n ≡ 0
past_itself n few = omega (arith, few)

-- whatever it brings, where it stands next and the window isn't closed
accepted_next : (r : Receiving) (span : ℕ) → r.rnext < 2 ^ 32 → nat_lt 0 (receive_window r) ≡ true → is_acceptable r r.rnext span ≡ true
accepted_next r span few room = accepts span (ap (λ d. nat_lt d (receive_window r)) (past_itself r.rnext few) ∙ room)
  where
    accepts : (n : ℕ) → is_in_window r r.rnext ≡ true → is_acceptable r r.rnext n ≡ true
    accepts zero inside = or_left (nat_le (past r.rnext r.rnext) (receive_window r)) (stands_before r r.rnext) (le-leb (past r.rnext r.rnext) (receive_window r) (omega (arith, past_itself r.rnext few)))
    accepts (suc more) inside = or_left (is_in_window r r.rnext) (is_in_window r ((r.rnext + more) % 2 ^ 32)) inside

pub plain_read : (v : View) (s : Segment) → IsSound v → IsPlain v s → is_read_on v s.acknowledgement ≡ true → IsRead v s
plain_read v s sound p on = record {
  no_rst = p.no_rst;
  accepted = ap (λ n. is_acceptable v.receiving n (span_of s)) p.number ∙ accepted_next v.receiving (span_of s) sound.rnext p.room;
  no_syn = p.no_syn;
  ack = p.ack;
  on = on;
}

pub none_lost : (v : View) (s : Segment) → IsPlain v s → is_lost v s ≡ false
none_lost v s p = ap (λ b. b && is_receiving v.state && is_read v s && brings_more v s) p.kept

no_fin_counts : (w : View) (s : Segment) → s.flags.fin ≡ false → after_fin w s ≡ w
no_fin_counts w s none =
    either View (λ x. x ≡ w) (counts_fin w s) _ _
    (λ counts. clash s.flags.fin (and_left s.flags.fin (is_receiving w.state) (and_left (s.flags.fin && is_receiving w.state) _ counts)) none)
    (λ other. either View (λ x. x ≡ w) (s.flags.fin && is_receiving w.state) (owing_ack w) w (λ fin. clash s.flags.fin (and_left s.flags.fin (is_receiving w.state) fin) none) (λ no_fin. refl))

-- its acknowledgement, its window and its octets are all that is heard of it
pub plain_segment : (v : View) (s : Segment) → IsPlain v s → IsRead v s → after_segment v s ≡ after_text (after_window (after_ack v s.acknowledgement) s) s
plain_segment v s p read =
    reads v s (ap is_closed p.state) (ap is_syn_sent p.state) read ∙ no_fin_counts (after_text (after_window (after_ack v s.acknowledgement) s) s) s p.no_fin

pub plain_comes : (v w : View) (s : Segment) (now : Moment) → IsPlain v s → after_segment v s ≡ w → after_segment_at v s now ≡ timed_by (before v s) w now
plain_comes v w s now p heard =
    comes_to v s now (ap is_closed p.state) (not_rejected v s (ap is_syn_sent p.state) (ap is_syn_received p.state))
    ∙ ap (λ b. timed_by (before v s) (if b then after_lost v s else after_segment v s) now) (none_lost v s p)
    ∙ ap (λ x. timed_by (before v s) x now) heard

-- .. and the connection keeps its place
pub plain_stays : (v w : View) (s : Segment) → IsPlain v s → IsRead v s → after_segment v s ≡ w → w.state ≡ v.state → fate v s ≡ Stays
plain_stays v w s p read heard same =
    let past_opening = ap is_syn_sent p.state in
    let established = ap is_syn_received p.state in
    let new = is_new_ack v.sending s.acknowledgement in
    let rest = if is_rejected v s then Rejected else if ends_opening v s then Removed else Stays in
    ap (λ b. if b || is_lost v s then Stays else if is_over (after_segment v s) then Removed else rest) (ap is_closed p.state)
    ∙ ap (λ b. if b then Stays else if is_over (after_segment v s) then Removed else rest) (none_lost v s p)
    ∙ ap (λ (x : View). if is_closed x.state && x.released && not x.owes_reset then Removed else rest) heard
    ∙ ap (λ t. if is_closed t && w.released && not w.owes_reset then Removed else rest) (same ∙ p.state)
    ∙ sym (fate_of_acknowledging s.flags.rst s.flags.syn s.flags.ack (is_acceptable_to v s) (is_syn_sent v.state) (is_syn_received v.state) new v.passive (ends_by_reset v s) p.no_rst p.no_syn p.ack read.accepted past_opening)
    ∙ ap (λ r. if r && not new then Rejected else Stays) established

-- It begins no wait, and nothing is kept of it on guard.

pub no_wait : (v w : View) (s : Segment) (now : Moment) → IsPlain v s → w.state ≡ v.state → w.owes_reset ≡ v.owes_reset → since_after (before v s) w now ≡ w.since
no_wait v w s now p state owes =
    ap (λ t. if is_time_wait t && not s.flags.rst && not (is_acceptable_to v s) && s.flags.fin && ((s.number + span_of s) % 2 ^ 32 == v.receiving.rnext) || begins_wait v.state w.state || (w.owes_reset && not v.owes_reset) then now else w.since) p.state
    ∙ ap (λ t. if begins_wait v.state t || (w.owes_reset && not v.owes_reset) then now else w.since) state
    ∙ ap (λ o. if begins_wait v.state v.state || (o && not v.owes_reset) then now else w.since) owes
    ∙ ap (λ b. if b then now else w.since) (starts_none v)

pub unguarded : (b : Before) (x : View) (now : Moment) → b.draws_one ≡ false → b.asks_again ≡ false → b.asks ≡ false → guarded b x now ≡ x
unguarded b x now none quiet unasked =
    ap₂ (λ d a. let held = d && is_spent x.guard now in record x {
      owes_ack = if held || a then false else owes_answer b x;
      resend = record x.resend { mark = if a && not held then mark_past 0 (outstanding x.sending) else x.resend.mark };
      guard = guard_after x.guard d now;
    }) none quiet
    ∙ ap (λ o. record x { owes_ack = o }) (no_answer b x unasked)

-- Octets that stand next.

pub record IsOctets (v : View) (s : Segment) : Type 0 where
  pub plain : IsPlain v s
  pub some : (length s.octets == 0) ≡ false
  pub same : s.acknowledgement ≡ v.sending.una

pub octets_tell : (v : View) (s : Segment) → IsSound v → is_plain v s ≡ true → brings_octets v s ≡ true → IsOctets v s
octets_tell v s sound plain e =
    let some = not (length s.octets == 0) in
    let same = s.acknowledgement == v.sending.una in
    record {
      plain = plain_tells v s sound plain;
      some = not_true (length s.octets == 0) (and_left some same e);
      same = same_number s.acknowledgement v.sending.una (and_right some same e);
    }

-- SND.UNA itself is no new acknowledgement, and in reach
pub not_new : (v : View) → IsSound v → is_new_ack v.sending v.sending.una ≡ false
not_new v sound = ap (λ d. nat_lt 0 d && nat_le d (outstanding v.sending)) (past_itself v.sending.una sound.una)

not_off : (v : View) → IsSound v → is_off v v.sending.una ≡ false
not_off v sound =
    let few = few_outstanding v sound in
    in_reach v v.sending.una (lt-leb (2 ^ 31) (past v.sending.nxt v.sending.una) (omega (arith, few))) (omega (arith, past_itself v.sending.una sound.una))

octets_on : (v : View) → IsSound v → v.state ≡ Established → is_read_on v v.sending.una ≡ true
octets_on v sound state =
    let new = is_new_ack v.sending v.sending.una in
    ap (λ t. if is_syn_received t then new else new || not (is_off v v.sending.una)) state
    ∙ ap (λ b. b || not (is_off v v.sending.una)) (not_new v sound) ∙ ap not (not_off v sound)

octets_acknowledge_none : (v : View) → IsSound v → v.state ≡ Established → after_ack v v.sending.una ≡ v
octets_acknowledge_none v sound state =
    let una = v.sending.una in
    let off = is_off v una in
    let new = is_new_ack v.sending una in
    let acked = if is_of_fin v una then fin_acknowledged (after_new_ack v una) else after_new_ack v una in
    ap (λ t. if is_syn_received t then (if new then after_establishment v else v) else if new then acked else if off then owing_ack v else v) state
    ∙ ap (λ b. if b then acked else if off then owing_ack v else v) (not_new v sound)
    ∙ ap (λ b. if b then owing_ack v else v) (not_off v sound)

octets_read : (v : View) (s : Segment) → IsSound v → IsOctets v s → IsRead v s
octets_read v s sound o = plain_read v s sound o.plain (ap (is_read_on v) o.same ∙ octets_on v sound o.plain.state)

octets_heard : (v : View) (s : Segment) → IsSound v → IsOctets v s → after_segment v s ≡ after_text (after_window v s) s
octets_heard v s sound o =
    plain_segment v s o.plain (octets_read v s sound o)
    ∙ ap (λ x. after_text (after_window x s) s) (ap (after_ack v) o.same ∙ octets_acknowledge_none v sound o.plain.state)

-- octets leave all but the receiving half, what is owed for them, and what is reported
pub by_text : (P : View → Type 0) (w : View) (s : Segment) → P w → ((r : Receiving) (owes : Bool) (p : Reporting) → P (record w { receiving = r; owes_ack = owes; delays_ack = true; reporting = p })) → P (after_text w s)
by_text P w s none some = either View P ((length s.octets == 0) || not (is_receiving w.state)) w _ (λ empty. none) (λ takes. some _ _ _)

pub octets_stay : (v : View) (s : Segment) → IsSound v → IsOctets v s → fate v s ≡ Stays
octets_stay v s sound o =
    plain_stays v (after_text (after_window v s) s) s o.plain (octets_read v s sound o) (octets_heard v s sound o) (by_text (λ x. x.state ≡ v.state) (after_window v s) s refl (λ r owes p. refl))

pub octets_taken : (v : View) (s : Segment) (now : Moment) → IsSound v → IsOctets v s
    → after_segment_at v s now ≡ clocked false (let w = after_text (after_window v s) s in record w { alive = heard_now w.alive now }) now
octets_taken v s now sound o =
    let b = before v s in
    let p = o.plain in
    let told = after_window v s in
    let w = after_text told s in
    let una : w.sending.una ≡ v.sending.una = by_text (λ x. x.sending.una ≡ told.sending.una) told s refl (λ r owes p. refl) ∙ told_una v.sending s.number s.acknowledgement (window_in v.sending s.window) in
    let state : w.state ≡ v.state = by_text (λ x. x.state ≡ v.state) told s refl (λ r owes p. refl) in
    let owes : w.owes_reset ≡ v.owes_reset = by_text (λ x. x.owes_reset ≡ v.owes_reset) told s refl (λ r owes p. refl) in
    let moved : is_moved b w ≡ false = ap (λ n. not (v.sending.una == n)) una ∙ ap not (equal v.sending.una) in
    let probe : answers_probe v s ≡ false = ap (λ c. not (is_opening v.state) && c && is_acceptable_to v s && s.flags.ack && not s.flags.rst) p.sends ∙ ap (λ c. c && is_acceptable_to v s && s.flags.ack && not s.flags.rst) (and_false (not (is_opening v.state))) in
    let before_octets = not (is_opening v.state) && is_read v s && nat_lt 0 (octets_outstanding v) in
    let duplicate : is_counted_duplicate v s ≡ false =
    ap (λ c. before_octets && c && not s.flags.fin && (s.acknowledgement == v.sending.una) && (window_in v.sending s.window == v.sending.window) && not (stands_before v.receiving s.number) && counts_duplicates v) o.some
    ∙ ap (λ c. c && not s.flags.fin && (s.acknowledgement == v.sending.una) && (window_in v.sending s.window == v.sending.window) && not (stands_before v.receiving s.number) && counts_duplicates v) (and_false before_octets) in
    let x = record w { since = since_after b w now; alive = heard_now w.alive now } in
    plain_comes v w s now p (octets_heard v s sound o)
    ∙ timed_unmoved b w now moved probe duplicate p.silent (silent_needed v s p.silent)
    ∙ ap (λ y. clocked false y now) (unguarded b x now (read_draws_none v s (octets_read v s sound o) (next_asks_none v s sound.rnext p.number)) (without_syn v s (inr p.no_syn)) (next_asks_none v s sound.rnext p.number))
    ∙ ap (λ at. clocked false (record w { since = at; alive = heard_now w.alive now }) now) (no_wait v w s now p state owes)
