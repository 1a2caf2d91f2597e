-- Why a reset acts only at RCV.NXT, and a segment that is not acceptable changes nothing.
use Rattle.std.proofs.Common.{◌≡◌, ℕ, ◌+◌, ◌%◌, ◌^◌, ◌<◌, ◌≤◌, ◌==◌, ◌||◌, ◌&&◌, not, nat_lt, if◌then◌else◌, Bool, true, false, Option, length, inl, inr, arith, refl, ◌∙◌, ap, nat_le}
use Rattle.std.proofs.lemmas.Bool.{eqb-true, ltb-true, leb-true, eq-eqb, le-leb}
use Rattle.tcp_segment.specs.Wire.{past}
use Rattle.tcp_segment.specs.Segment.{Segment, span_of}
use Rattle.clock.specs.declared.moment.Moment.{Moment}
use Rattle.tcp_state.specs.declared.connection.Fate.TheVariants.{Stays, Removed, Rejected}
use Rattle.tcp_state.specs.declared.state.State.{State}
use Rattle.tcp_state.specs.declared.state.State.TheVariants.{SynSent}
use Rattle.tcp_halves.specs.Halves.{Receiving}
use Rattle.tcp_halves.specs.Windows.{window_in}
use Rattle.tcp_halves.specs.Stream.{outstanding, is_new_ack, receive_window, is_acceptable, stands_before}
use Rattle.tcp_state.specs.View.{View, IsSound, is_opening, is_syn_sent, is_syn_received, is_closed, is_over, is_time_wait, is_write_finished, takes_flag_number, after_reset}
use Rattle.tcp_state.specs.Timing.{KeepsTime}
use Rattle.tcp_state.specs.Arrival.{is_opening_syn, is_acceptable_to, is_acting_reset, is_read, octets_outstanding, is_duplicate, is_lost, after_lost, ends_by_syn, ends_by_reset, ends_opening, acknowledges_unsent, is_rejected, reset_error, after_rst_in_syn_sent, after_rst, after_segment, is_of_fin, begins_wait, repeats_fin, answers_probe, after_segment_at, after_heard, counts_duplicates, is_counted_duplicate}
use Rattle.tcp_state.specs.Edges.{Hears, after_event, fate_by, is_removed, is_reset_by, ends_by, ends_by_ack}
use Rattle.tcp_state.proofs.Selects.{silent_unread}
use Rattle.tcp_state.proofs.Clocked.{Owing, OwingAt, owing_timed, owing_marks, starts_none, comes_to}
use Rattle.tcp_halves.proofs.Choices.{either, by, clash, and_left, and_right, and_false, both, or_left, or_right, or_else, not_true, of_false}
use Rattle.tcp_state.proofs.Segments.{is_taken, by_segment, by_clock, read_tells}
use Rattle.tcp_state.proofs.Causes.{segment-cause}

-- a segment that is read has no RST
pub read_is_no_rst : (v : View) (s : Segment) → is_read v s ≡ true → s.flags.rst ≡ false
read_is_no_rst v s e = (read_tells v s e).no_rst

pub read_is_accepted : (v : View) (s : Segment) → is_read v s ≡ true → is_acceptable_to v s ≡ true
read_is_accepted v s e = (read_tells v s e).accepted

-- nor has one that is taken
taken_is : (v : View) (s : Segment) → is_taken v s ≡ true → (s.flags.rst ≡ false) × (is_acceptable_to v s ≡ true)
taken_is v s e =
    let two = and_left (not s.flags.rst && is_acceptable_to v s) (not s.flags.syn) (and_left (not s.flags.rst && is_acceptable_to v s && not s.flags.syn) s.flags.ack e) in
    (not_true s.flags.rst (and_left (not s.flags.rst) (is_acceptable_to v s) two), and_right (not s.flags.rst) (is_acceptable_to v s) two)

pub lost_is_read : (v : View) (s : Segment) → is_lost v s ≡ true → is_read v s ≡ true
lost_is_read v s e = and_right _ (is_read v s) (and_left _ _ e)

-- a segment with RST that ends a connection is a reset that acts
reset_by : (v : View) (s : Segment) (now : Moment) → s.flags.rst ≡ true → ends_by v (Hears s now) ≡ true → is_reset_by v s ≡ true
reset_by v s now rst e =
    elim (or_else (is_reset_by v s || (not s.flags.rst && ends_by_syn v s) || is_lost v s) (ends_by_ack v s) (segment-cause v s now e)) [
      | inl three ↦ elim (or_else (is_reset_by v s || (not s.flags.rst && ends_by_syn v s)) (is_lost v s) three) [
        | inl two ↦ elim (or_else (is_reset_by v s) (not s.flags.rst && ends_by_syn v s) two) [
          | inl acts ↦ acts
          | inr syn ↦ clash s.flags.rst rst (not_true s.flags.rst (and_left (not s.flags.rst) (ends_by_syn v s) syn))
        ]
        | inr lost ↦ clash s.flags.rst rst (read_is_no_rst v s (lost_is_read v s lost))
      ]
      | inr ack ↦ clash s.flags.rst rst (read_is_no_rst v s (and_right _ (is_read v s) (and_left _ (is_new_ack v.sending s.acknowledgement) (and_left _ (is_of_fin v s.acknowledgement) ack))))
    ]

chosen_else : (t a b : Bool) → t ≡ false → (if t then a else b) ≡ true → b ≡ true
chosen_else true a b e f = cc
chosen_else false a b e f = f

chosen_then : (t a b : Bool) → t ≡ true → (if t then a else b) ≡ true → a ≡ true
chosen_then true a b e f = f
chosen_then false a b e f = cc

pub acts_at_rnext : (v : View) (s : Segment) (now : Moment) → is_syn_sent v.state ≡ false → s.flags.rst ≡ true → ends_by v (Hears s now) ≡ true → s.number ≡ v.receiving.rnext
acts_at_rnext v s now past_opening rst e =
    let chosen = and_right s.flags.rst _ (reset_by v s now rst e) in
    let acts : is_acting_reset v s ≡ true = chosen_else (is_syn_sent v.state) (s.flags.ack && is_new_ack v.sending s.acknowledgement) (is_acting_reset v s) past_opening chosen in
    eqb-true s.number v.receiving.rnext (and_right (is_acceptable_to v s) (s.number == v.receiving.rnext) acts)

-- while a connection opens, its SYN alone may be outstanding
pub one_out : (size : ℕ) (t : State) (held out : ℕ) → is_syn_sent t ≡ true → held ≤ (if is_opening t || is_write_finished t then 0 else size) → out ≤ held + (if takes_flag_number t then 1 else 0) → out ≤ 1
one_out size SynSent held out e few most = omega (arith, few, most)
one_out size _ held out e few most = cc

pub acts_at_nxt : (v : View) (s : Segment) (now : Moment) → IsSound v → s.acknowledgement < 2 ^ 32 → is_syn_sent v.state ≡ true → s.flags.rst ≡ true → ends_by v (Hears s now) ≡ true
    → (s.flags.ack ≡ true) × (s.acknowledgement ≡ v.sending.nxt)
acts_at_nxt v s now sound fits waits rst e =
    let chosen = and_right s.flags.rst _ (reset_by v s now rst e) in
    let acts = chosen_then (is_syn_sent v.state) (s.flags.ack && is_new_ack v.sending s.acknowledgement) (is_acting_reset v s) waits chosen in
    let new = and_right s.flags.ack (is_new_ack v.sending s.acknowledgement) acts in
    let one : outstanding v.sending ≤ 1 = one_out v.sending.size v.state (length v.sending.held) (outstanding v.sending) waits sound.held sound.flight in
    let some : 0 < past s.acknowledgement v.sending.una = ltb-true 0 (past s.acknowledgement v.sending.una) (and_left (nat_lt 0 (past s.acknowledgement v.sending.una)) _ new) in
    let most : past s.acknowledgement v.sending.una ≤ outstanding v.sending = leb-true (past s.acknowledgement v.sending.una) (outstanding v.sending) (and_right (nat_lt 0 (past s.acknowledgement v.sending.una)) _ new) in
    (and_left s.flags.ack (is_new_ack v.sending s.acknowledgement) acts, omega (arith, one, some, most, fits, sound.una, sound.nxt))

-- what leaves a connection past SYN-SENT as it is but for what is owed: neither does a reset act, nor is it taken
apart_segment : (v : View) (s : Segment) → is_syn_sent v.state ≡ false → (is_acting_reset v s ≡ true → s.flags.rst ≡ true → ⊥) → (is_taken v s ≡ true → ⊥) → Owing v (after_segment v s)
apart_segment v s past_opening acts_none untaken = by_segment (Owing v) v s (record {
  dropped = refl;
  drawn = refl;
  reset = λ r. absurd (acts_none
      (chosen_else (is_syn_sent v.state) (s.flags.ack && is_new_ack v.sending s.acknowledgement) (is_acting_reset v s) past_opening (and_right s.flags.rst _ r.acts)) (and_left s.flags.rst _ r.acts));
  crossed = λ waits. clash (is_syn_sent v.state) waits past_opening;
  opened = λ waits right. clash (is_syn_sent v.state) waits past_opening;
  acknowledged = λ taken. absurd (untaken taken);
  read = λ on. absurd (untaken (and_left (is_taken v s) _ on));
})

unaccepted_segment : (v : View) (s : Segment) → is_syn_sent v.state ≡ false → is_acceptable_to v s ≡ false → Owing v (after_segment v s)
unaccepted_segment v s past_opening refused = apart_segment v s past_opening
    (λ acts rst. clash (is_acceptable_to v s) (and_left (is_acceptable_to v s) (s.number == v.receiving.rnext) acts) refused) (λ taken. clash (is_acceptable_to v s) (taken_is v s taken).1 refused)

unaccepted_is_none : (v : View) (s : Segment) → is_acceptable_to v s ≡ false → answers_probe v s ≡ false
unaccepted_is_none v s refused = by (answers_probe v s ≡ false) (answers_probe v s)
    (λ answers. let acks = and_left (not (is_opening v.state) && (v.sending.window == 0) && is_acceptable_to v s) s.flags.ack (and_left (not (is_opening v.state) && (v.sending.window == 0) && is_acceptable_to v s && s.flags.ack) (not s.flags.rst) answers) in
    clash (is_acceptable_to v s) (and_right (not (is_opening v.state) && (v.sending.window == 0)) (is_acceptable_to v s) acks) refused)
    (λ none. none)

-- a duplicate ACK is read
duplicate_is_read : (v : View) (s : Segment) → is_duplicate v s ≡ true → is_read v s ≡ true
duplicate_is_read v s same =
    let opened = not (is_opening v.state) in
    let read = opened && is_read v s in
    let flies = read && nat_lt 0 (octets_outstanding v) in
    let bare = flies && (length s.octets == 0) in
    let goes_on = bare && not s.flags.fin in
    let at_una = goes_on && (s.acknowledgement == v.sending.una) in
    and_right opened (is_read v s) (and_left read (nat_lt 0 (octets_outstanding v)) (and_left flies (length s.octets == 0)
    (and_left bare (not s.flags.fin) (and_left goes_on (s.acknowledgement == v.sending.una) (and_left at_una (window_in v.sending s.window == v.sending.window)
    (and_left (at_una && (window_in v.sending s.window == v.sending.window)) (not (stands_before v.receiving s.number)) same))))))

unaccepted_repeats_none : (v : View) (s : Segment) → is_acceptable_to v s ≡ false → is_counted_duplicate v s ≡ false
unaccepted_repeats_none v s refused = by (is_counted_duplicate v s ≡ false) (is_duplicate v s) (λ same. clash (is_acceptable_to v s) (read_is_accepted v s (duplicate_is_read v s same)) refused) (λ none. ap (λ b. b && counts_duplicates v) none)

rst_repeats_none : (v : View) (s : Segment) → s.flags.rst ≡ true → is_counted_duplicate v s ≡ false
rst_repeats_none v s rst = by (is_counted_duplicate v s ≡ false) (is_duplicate v s) (λ same. clash s.flags.rst rst (read_is_no_rst v s (duplicate_is_read v s same))) (λ none. ap (λ b. b && counts_duplicates v) none)

pub unaccepted_changes : (v : View) (s : Segment) (now : Moment) → KeepsTime v → is_syn_sent v.state ≡ false → is_acceptable_to v s ≡ false
    → (let w = after_segment_at v s now in OwingAt v w × (v.guard.on ≡ false → w.resend.mark ≡ v.resend.mark))
unaccepted_changes v s now keeps past_opening refused =
    let quiet = unaccepted_is_none v s refused in
    let first = unaccepted_repeats_none v s refused in
    let silent = silent_unread v s (by (is_read v s ≡ false) (is_read v s) (λ read. clash (is_acceptable_to v s) (read_is_accepted v s read) refused) (λ unread. unread)) in
    let same : Owing v (after_heard v s) = either View (λ w. Owing v w) (is_lost v s) (after_lost v s) (after_segment v s)
    (λ lost. clash (is_acceptable_to v s) (read_is_accepted v s (lost_is_read v s lost)) refused)
    (λ kept. unaccepted_segment v s past_opening refused) in
    (owing_timed v s now keeps quiet first silent same, λ off. owing_marks v s now quiet first silent same (ap (λ on. on && is_opening_syn v s) off))

-- an RST whose number is not RCV.NXT
elsewhere_segment : (v : View) (s : Segment) → is_syn_sent v.state ≡ false → s.flags.rst ≡ true → (s.number == v.receiving.rnext) ≡ false → Owing v (after_segment v s)
elsewhere_segment v s past_opening rst elsewhere = apart_segment v s past_opening
    (λ acts is. clash (s.number == v.receiving.rnext) (and_right (is_acceptable_to v s) (s.number == v.receiving.rnext) acts) elsewhere) (λ taken. clash s.flags.rst rst (taken_is v s taken).0)

repeats_no_rst : (v : View) (s : Segment) → s.flags.rst ≡ true → repeats_fin v s ≡ false
repeats_no_rst v s rst =
    by (repeats_fin v s ≡ false) (repeats_fin v s)
    (λ repeats. clash s.flags.rst rst
    (not_true s.flags.rst (and_right (is_time_wait v.state) (not s.flags.rst) (and_left (is_time_wait v.state && not s.flags.rst) (not (is_acceptable_to v s)) (and_left (is_time_wait v.state && not s.flags.rst && not (is_acceptable_to v s)) s.flags.fin
    (and_left (is_time_wait v.state && not s.flags.rst && not (is_acceptable_to v s) && s.flags.fin) _ repeats))))))
    (λ none. none)

-- it begins no wait
no_wait : (v : View) (s : Segment) (now : Moment) → s.flags.rst ≡ true → Owing v (after_heard v s) → (after_segment_at v s now).since ≡ v.since
no_wait v s now rst same =
    let w = after_heard v s in
    let begins : (begins_wait v.state w.state || (w.owes_reset && not v.owes_reset)) ≡ false = ap (λ (x : View). begins_wait v.state x.state || (x.owes_reset && not v.owes_reset)) same ∙ starts_none v in
    let waits : (repeats_fin v s || begins_wait v.state w.state || (w.owes_reset && not v.owes_reset)) ≡ false =
    ap (λ b. b || begins_wait v.state w.state || (w.owes_reset && not v.owes_reset)) (repeats_no_rst v s rst) ∙ begins in
    by_clock (λ x. x.since ≡ v.since) v s now refl (λ lives. ap (λ b. if b then now else w.since) waits ∙ ap (λ (x : View). x.since) same)

rst_is_none : (v : View) (s : Segment) → s.flags.rst ≡ true → answers_probe v s ≡ false
rst_is_none v s rst = by (answers_probe v s ≡ false) (answers_probe v s)
    (λ answers. clash s.flags.rst rst (not_true s.flags.rst (and_right (not (is_opening v.state) && (v.sending.window == 0) && is_acceptable_to v s && s.flags.ack) (not s.flags.rst) answers)))
    (λ none. none)

pub elsewhere_changes : (v : View) (s : Segment) (now : Moment) → KeepsTime v → is_syn_sent v.state ≡ false → s.flags.rst ≡ true → (s.number == v.receiving.rnext) ≡ false
    → (let w = after_segment_at v s now in w ≡ record v { owes_ack = w.owes_ack; timers = record v.timers { delayed_ack = w.timers.delayed_ack }; alive = w.alive; guard = w.guard })
elsewhere_changes v s now keeps past_opening rst apart =
    let w = after_heard v s in
    let x = after_segment_at v s now in
    let quiet = rst_is_none v s rst in
    let first = rst_repeats_none v s rst in
    let silent = silent_unread v s (by (is_read v s ≡ false) (is_read v s) (λ read. clash s.flags.rst rst (read_is_no_rst v s read)) (λ unread. unread)) in
    let same : Owing v w = either View (λ y. Owing v y) (is_lost v s) (after_lost v s) (after_segment v s)
    (λ lost. clash s.flags.rst rst (read_is_no_rst v s (lost_is_read v s lost)))
    (λ kept. elsewhere_segment v s past_opening rst apart) in
    let plain : (v.guard.on && is_opening_syn v s) ≡ false = ap (λ r. v.guard.on && (v.passive && is_syn_received v.state && s.flags.syn && not s.flags.ack && not r && not (is_acceptable_to v s) && ((s.number + 1) % 2 ^ 32 == v.receiving.rnext))) rst
    ∙ none_asked v.guard.on (v.passive && is_syn_received v.state && s.flags.syn && not s.flags.ack) (not (is_acceptable_to v s)) ((s.number + 1) % 2 ^ 32 == v.receiving.rnext) in
    let at : OwingAt v x = owing_timed v s now keeps quiet first silent same in
    at
    ∙ (ap (λ (n : Moment). record v { owes_ack = x.owes_ack; since = n; resend = record v.resend { mark = x.resend.mark }; timers = record v.timers { delayed_ack = x.timers.delayed_ack }; alive = x.alive; guard = x.guard }) (no_wait v s now rst same)
    ∙ ap (λ (m : Option ℕ). record v { owes_ack = x.owes_ack; resend = record v.resend { mark = m }; timers = record v.timers { delayed_ack = x.timers.delayed_ack }; alive = x.alive; guard = x.guard }) (owing_marks v s now quiet first silent same plain))
  where
    none_asked : (on a b c : Bool) → (on && (a && false && b && c)) ≡ false
    none_asked on a b c = ap (λ x. on && (x && b && c)) (and_false a) ∙ and_false on

-- A reset at RCV.NXT that takes no numbers acts.

pub next_accepted : (r : Receiving) (number span : ℕ) → r.rnext < 2 ^ 32 → number ≡ r.rnext → span ≡ 0 → is_acceptable r number span ≡ true
next_accepted r number span small same none =
    ap (is_acceptable r number) none
    ∙ or_left (nat_le (past number r.rnext) (receive_window r)) (stands_before r number) (le-leb (past number r.rnext) (receive_window r) (omega (arith, small, same)))

taken_out : (closed lost over refused opening : Bool) → closed ≡ false → lost ≡ false → refused ≡ false → opening ≡ true
    → is_removed (if closed || lost then Stays else if over then Removed else if refused then Rejected else if opening then Removed else Stays) ≡ true
taken_out false false true refused opening a b c d = refl
taken_out false false false false true a b c d = refl
taken_out true lost over refused opening a b c d = cc
taken_out false true over refused opening a b c d = cc
taken_out false false false true opening a b c d = cc
taken_out false false false false false a b c d = cc

pub rst_not_lost : (v : View) (s : Segment) → s.flags.rst ≡ true → is_lost v s ≡ false
rst_not_lost v s rst = by (is_lost v s ≡ false) (is_lost v s) (λ lost. clash s.flags.rst rst (read_is_no_rst v s (lost_is_read v s lost))) (λ kept. kept)

pub rst_not_refused : (v : View) (s : Segment) → s.flags.rst ≡ true → is_rejected v s ≡ false
rst_not_refused v s rst =
    by (is_rejected v s ≡ false) (is_rejected v s)
    (λ refused. clash s.flags.rst rst
    (not_true s.flags.rst (and_left (not s.flags.rst) s.flags.ack (and_left (not s.flags.rst && s.flags.ack) (not (is_new_ack v.sending s.acknowledgement)) (and_left (acknowledges_unsent v s) _ refused)))))
    (λ none. none)

closed_by_reset : (v : View) (s : Segment) → is_closed v.state ≡ false → is_syn_sent v.state ≡ false → s.flags.rst ≡ true → is_acting_reset v s ≡ true → ends_by_reset v s ≡ false
    → is_closed (after_segment v s).state ≡ true
closed_by_reset v s lives past_opening rst acts kept =
    let P : View → Type 0 = λ w. is_closed w.state ≡ true in
    either View P (is_closed v.state) v _
    (λ closed. closed)
    (λ open_yet. either View P s.flags.rst _ _
    (λ is_rst. either View P (is_syn_sent v.state) (after_rst_in_syn_sent v s) (after_rst v s)
    (λ waits. clash (is_syn_sent v.state) waits past_opening)
    (λ past. either View P (is_acting_reset v s) _ _
    (λ acting. either View P (ends_by_reset v s) v (after_reset v (reset_error v.state)) (λ removed. clash (ends_by_reset v s) removed kept) (λ reset. refl))
    (λ stays. clash (is_acting_reset v s) acts stays)))
    (λ no_rst. clash s.flags.rst rst no_rst))

pub next_acts : (v : View) (s : Segment) (now : Moment) → IsSound v → is_syn_sent v.state ≡ false → is_closed v.state ≡ false → s.flags.rst ≡ true → s.number ≡ v.receiving.rnext → span_of s ≡ 0
    → ends_by v (Hears s now) ≡ true
next_acts v s now sound past_opening lives rst same none =
    let accepted : is_acceptable_to v s ≡ true = next_accepted v.receiving s.number (span_of s) sound.rnext same none in
    let acts : is_acting_reset v s ≡ true = both (is_acceptable_to v s) (s.number == v.receiving.rnext) accepted (eq-eqb s.number v.receiving.rnext same) in
    let kept = rst_not_lost v s rst in
    let out = is_removed (fate_by v (Hears s now)) in
    let closes = not (is_closed v.state) && is_closed (after_event v (Hears s now)).state in
    by (ends_by v (Hears s now) ≡ true) (ends_by_reset v s)
    (λ removes.
    let opening : ends_opening v s ≡ true = both (not (is_syn_sent v.state)) _ (of_false (is_syn_sent v.state) past_opening) (ap (λ b. if b then ends_by_reset v s else ends_by_syn v s) rst ∙ removes) in
    or_left out closes (taken_out (is_closed v.state) (is_lost v s) (is_over (after_segment v s)) (is_rejected v s) (ends_opening v s) lives kept (rst_not_refused v s rst) opening))
    (λ stays.
    let heard : (after_event v (Hears s now)).state ≡ (after_segment v s).state =
    ap (λ (w : View). w.state) (comes_to v s now lives (rst_not_refused v s rst)) ∙ ap (λ b. (if b then after_lost v s else after_segment v s).state) kept in
    or_right out closes (both (not (is_closed v.state)) _ (of_false (is_closed v.state) lives) (ap is_closed heard ∙ closed_by_reset v s lives past_opening rst acts stays)))
