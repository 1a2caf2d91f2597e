-- Why the segments of an opening that come lead both ends on.
use Rattle.std.proofs.Common.{◌≡◌, ◌≢◌, ℕ, ◌^◌, ◌<◌, ◌≤◌, ◌==◌, ◌||◌, ◌&&◌, not, nat_le, nat_lt, if◌then◌else◌, Bool, true, false, [], length, Option, Some, None, is_some, arith, refl, sym, ◌∙◌, ap, subst, inl, inr}
use Rattle.std.proofs.lemmas.Bool.{le-leb}
use Rattle.clock.specs.declared.moment.Moment.{Moment}
use Rattle.tcp_segment.specs.Segment.{Segment}
use Rattle.tcp_segment.specs.Wire.{past, wire}
use Rattle.tcp_halves.specs.Halves.{Receiving}
use Rattle.tcp_halves.specs.Stream.{outstanding, is_new_ack, is_acceptable, receive_window, stands_before, bare_number}
use Rattle.tcp_halves.proofs.Choices.{either, both, and_false, or_left}
use Rattle.tcp_state.specs.Selective.{allowance}
use Rattle.tcp_state.specs.declared.calls.Refusal.TheVariants.{ECONNREFUSED}
use Rattle.tcp_state.specs.declared.connection.Fate.TheVariants.{Stays, Removed, Rejected}
use Rattle.tcp_state.specs.declared.emission.Due.TheVariants.{Rst, Syn, Text, Probe, Ack, KeepAlive}
use Rattle.tcp_state.specs.declared.state.State.{State}
use Rattle.tcp_state.specs.declared.state.State.TheVariants.{SynSent, SynReceived}
use Rattle.tcp_state.specs.Arrival.{octets_outstanding, fate, is_lost, is_rejected, ends_opening, ends_by_reset, ends_by_syn, is_acceptable_to, is_receiving, is_read, brings_more, is_right_syn_ack, is_simultaneous_syn, after_simultaneous_syn, after_syn_ack, after_rst_in_syn_sent, after_rst, after_acceptable_segment, owing_ack, resend_after, after_segment, after_heard, after_lost, after_ack, after_window, after_text, after_segment_at, before, timed_by, counts_duplicates}
use Rattle.tcp_state.specs.Edges.{Hears, after_event}
use Rattle.tcp_state.specs.Said.{segment_of, IsClosedBy}
use Rattle.tcp_state.specs.View.{View, IsSound, is_opening, is_closed, is_over, is_syn_sent, is_syn_received, awaits_fin_ack, is_write_closed}
use Rattle.tcp_state.specs.Alive.{is_alive_due}
use Rattle.tcp_state.specs.New.{sends_new, sends_fin, waits_no_longer}
use Rattle.tcp_state.specs.Due.{first_due, new_octets, fin_alone as fin_alone_of, ack_due, again_from, new_due}
use Rattle.tcp_state.specs.Timing.{has_unacknowledged, probes}
use Rattle.tcp_halves.specs.Windows.{window_in, sendable, is_worth_sending, has_grown}
use Rattle.tcp_state.specs.declared.emission.Due.{Due}
use Rattle.std.specs.Option.{option_or}
use Rattle.tcp_state.proofs.Selects.{silent_opening}
use Rattle.tcp_state.proofs.Clocked.{comes_to, marks_kept, opening_answers_none}
use Rattle.tcp_state.proofs.Guarded.{kept_mark, sent_not_received, sent_owes}
use Rattle.tcp_state.proofs.ResetErrors.{refused_in_syn_sent}
use Rattle.tcp_state.proofs.Segments.{by_segment, by_ack, by_fin, opened_by_syn_ack}
use Rattle.tcp_state.proofs.ThreeSteps.{ack_confirms}
use Rattle.tcp_state.proofs.Unreachable.{none_listed, opening}
use Rattle.stream_law.proofs.Sizes.{opening-holds-nothing}
use Rattle.wire_sim.specs.Handshakes.{IsOut, IsAsking, IsAnswering, IsOpen}
use Rattle.tcp_state.proofs.AckNumbers.{bare_at_rest}

-- What a segment leaves of a connection whose caller has not left it.

-- no segment makes its caller leave, where none of its octets is lost
pub caller_stays : (v : View) (s : Segment) → (let w = after_segment v s in w.released) ≡ v.released
caller_stays v s =
    let Same : View → Type 0 = λ w. w.released ≡ v.released in
    let acked : Same (after_ack v s.acknowledgement) = by_ack Same v s.acknowledgement (record { old = refl; beyond = refl; opens = λ received new. refl; octets = λ new. refl; fin = λ new fin. refl }) in
    let told = after_window (after_ack v s.acknowledgement) s in
    let text : Same (after_text told s) = either View Same ((length s.octets == 0) || not (is_receiving told.state)) told _ (λ none. acked) (λ some. acked) in
    by_segment Same v s (record {
      dropped = refl;
      drawn = refl;
      reset = λ r. refl;
      crossed = λ waits. refl;
      opened = λ waits right. refl;
      acknowledged = λ taken. acked;
      read = λ on. by_fin Same (after_text told s) s (λ counts. text) text text;
    })

-- nor with the clock
caller_stays_at : (v : View) (s : Segment) (now : Moment) → v.released ≡ false → is_closed v.state ≡ false → is_rejected v s ≡ false → (let w = after_segment_at v s now in w.released) ≡ false
caller_stays_at v s now left lives taken =
    let kept : is_lost v s ≡ false = ap (λ b. b && is_receiving v.state && is_read v s && brings_more v s) left in
    let heard : after_heard v s ≡ after_segment v s = ap (λ b. if b then after_lost v s else after_segment v s) kept in
    ap (λ (w : View). w.released) (comes_to v s now lives taken) ∙ (ap (λ (w : View). w.released) heard ∙ (caller_stays v s ∙ left))

-- it keeps its place, unless it is rejected or back in LISTEN
pub keeps_place : (v : View) (s : Segment) → v.released ≡ false → is_rejected v s ≡ false → ends_opening v s ≡ false → fate v s ≡ Stays
keeps_place v s left taken stays =
    let kept : is_lost v s ≡ false = ap (λ b. b && is_receiving v.state && is_read v s && brings_more v s) left in
    let w = after_segment v s in
    let over : is_over w ≡ false = ap (λ b. is_closed w.state && b && not w.owes_reset) (caller_stays v s ∙ left) ∙ ap (λ b. b && not w.owes_reset) (and_false (is_closed w.state)) in
    chosen (is_closed v.state) (is_lost v s) (is_over w) (is_rejected v s) (ends_opening v s) kept over taken stays
  where
    chosen : (closed lost over refused ends : Bool) → lost ≡ false → over ≡ false → refused ≡ false → ends ≡ false
        → (if closed || lost then Stays else if over then Removed else if refused then Rejected else if ends then Removed else Stays) ≡ Stays
    chosen true lost over refused ends l o r e = refl
    chosen false lost over refused ends l o r e = rw (l, o, r, e) refl

-- A SYN that is out takes the one number that is outstanding.

pub one_out : (una nxt : ℕ) → una < 2 ^ 32 → nxt < 2 ^ 32 → nxt ≢ una → past nxt una ≤ 1 → nxt ≡ wire una 1
one_out una nxt small fits out few = omega (arith, small, fits, out, few)

opening_out : (v : View) → IsSound v → is_opening v.state ≡ true → IsOut v → v.sending.nxt ≡ wire v.sending.una 1
opening_out v sound opens out =
    one_out v.sending.una v.sending.nxt sound.una sound.nxt out (grind (arith, sound.flight, sound.held, opens))

-- What is due then.

-- nothing holds an acknowledgement back where nothing is held
pub ack_due_first : (w : View) → w.owes_reset ≡ false → is_opening w.state ≡ false → awaits_fin_ack w.state ≡ false → w.resend.mark ≡ None → w.sending.held ≡ [] → w.owes_ack ≡ true → first_due w ≡ Some Ack
ack_due_first w reset opened fin mark held owes =
    let least : sendable w.sending (allowance w) ≡ 0 = omega (arith, ap length held) in
    let none_new : sends_new w ≡ false = ap (λ n. nat_lt 0 n && is_worth_sending w.sending (allowance w) (waits_no_longer w)) least in
    let no_fin : sends_fin w ≡ false = ap (λ b. b && (outstanding w.sending == length w.sending.held) && nat_lt (outstanding w.sending) w.sending.window) fin in
    let none_left : has_unacknowledged w ≡ false = ap (λ n. not (n == 0) || awaits_fin_ack w.state) (ap length held) ∙ fin in
    let unprobed : (w.resend.owes_probe && probes w) ≡ false = ap (λ b. w.resend.owes_probe && (not (is_opening w.state) && (w.sending.window == 0) && b)) none_left ∙ never w.resend.owes_probe (not (is_opening w.state)) (w.sending.window == 0) in
    let acks : ack_due w ≡ Some Ack = ap (λ b. if b || (not (is_opening w.state) && not (is_closed w.state) && w.spoke && has_grown w.receiving) then Some Ack else if is_alive_due w then Some KeepAlive else None) owes in
    ap (λ b. if b then Some Rst else later (is_opening w.state) w.resend.mark) reset
    ∙ (ap (λ b. later b w.resend.mark) opened
    ∙ (ap (λ m. later false m) mark
    ∙ (ap (λ b. if b then Some (Text (new_octets w)) else if sends_fin w then Some (Text (fin_alone_of w)) else if w.resend.owes_probe && probes w then Some Probe else ack_due w) none_new
    ∙ (ap (λ b. if b then Some (Text (fin_alone_of w)) else if w.resend.owes_probe && probes w then Some Probe else ack_due w) no_fin
    ∙ (ap (λ b. if b then Some Probe else ack_due w) unprobed ∙ acks)))))
  where
    later : Bool → Option ℕ → Option Due
    later opens mark = if opens then (if (outstanding w.sending == 0) || is_some w.resend.mark then Some Syn else ack_due w) else option_or (again_from w mark) (new_due w)

    never : (a b c : Bool) → (a && (b && c && false)) ≡ false
    never true true true = refl
    never true true false = refl
    never true false c = refl
    never false b c = refl

-- The reset that answers our SYN.
pub refused_by : (ours : ℕ) (v : View) (r : Segment) (now : Moment) → IsSound v → IsAsking ours v → IsOut v → r.flags.rst ≡ true → r.flags.ack ≡ true → r.acknowledgement ≡ wire ours 1
    → IsClosedBy ECONNREFUSED (after_event v (Hears r now)) × (fate v r ≡ Stays) × ((let w = after_event v (Hears r now) in w.released) ≡ false)
refused_by ours v r now sound asks out rst ack all =
    let o = opening v sound asks.state in
    let sent : v.sending.nxt ≡ wire ours 1 = opening_out v sound (ap is_opening asks.state) out ∙ ap (λ n. wire n 1) asks.syn in
    let taken : is_rejected v r ≡ false = ap (λ b. (not b && r.flags.ack && not (is_new_ack v.sending r.acknowledgement)) && (is_syn_sent v.state || (is_syn_received v.state && is_acceptable_to v r && not r.flags.syn))) rst in
    let stays : ends_opening v r ≡ false = ap (λ b. not b && (if r.flags.rst then ends_by_reset v r else ends_by_syn v r)) o.waits in
    (refused_in_syn_sent v r now sound asks.state (record { rst = rst; ack = ack; sent = out; all = all ∙ sym sent }), keeps_place v r o.kept taken stays, caller_stays_at v r now o.kept (ap is_closed asks.state) taken)

-- The SYN-ACK that answers it.

pub one_past : (n : ℕ) → n < 2 ^ 32 → past (wire n 1) n ≡ 1
one_past n small = omega (arith, small)

-- the number behind our SYN acknowledges it
pub new_one : (v : View) (ours ack : ℕ) → IsSound v → v.sending.una ≡ ours → v.sending.nxt ≡ wire ours 1 → ack ≡ wire ours 1 → is_new_ack v.sending ack ≡ true
new_one v ours ack sound una nxt is =
    let small : ours < 2 ^ 32 = subst (λ n. n < 2 ^ 32) una sound.una in
    ap (λ n. nat_lt 0 (past n v.sending.una) && nat_le (past n v.sending.una) (past v.sending.nxt v.sending.una)) is
    ∙ (ap (λ n. nat_lt 0 (past (wire ours 1) n) && nat_le (past (wire ours 1) n) (past v.sending.nxt n)) una
    ∙ (ap (λ n. nat_lt 0 (past (wire ours 1) ours) && nat_le (past (wire ours 1) ours) (past n ours)) nxt ∙ ap (λ n. nat_lt 0 n && nat_le n n) (one_past ours small)))

pub unrejected : (v : View) (s : Segment) → is_new_ack v.sending s.acknowledgement ≡ true → is_rejected v s ≡ false
unrejected v s new = ap (λ b. b && (is_syn_sent v.state || (is_syn_received v.state && is_acceptable_to v s && not s.flags.syn))) (none (not s.flags.rst) s.flags.ack ∙ refl)
  where
    none : (a b : Bool) → (a && b && not (is_new_ack v.sending s.acknowledgement)) ≡ false
    none true true = ap not new
    none true false = refl
    none false b = refl

syn_ack_heard : (v : View) (s : Segment) → v.state ≡ SynSent → s.flags.rst ≡ false → s.flags.syn ≡ true → s.flags.ack ≡ true → is_new_ack v.sending s.acknowledgement ≡ true → after_segment v s ≡ opened_by_syn_ack v s
syn_ack_heard v s state no_rst syn ack new =
    let waits : is_syn_sent v.state ≡ true = ap is_syn_sent state in
    let lives : is_closed v.state ≡ false = ap is_closed state in
    let right : is_right_syn_ack v s ≡ true = both (s.flags.syn && s.flags.ack) (is_new_ack v.sending s.acknowledgement) (both s.flags.syn s.flags.ack syn ack) new in
    let single : is_simultaneous_syn v s ≡ false = ap (λ b. s.flags.syn && not b) ack ∙ and_false s.flags.syn in
    ap (λ b. if b then v else if s.flags.rst then (if is_syn_sent v.state then after_rst_in_syn_sent v s else after_rst v s) else unreset (is_syn_sent v.state)) lives
    ∙ (ap (λ b. if b then (if is_syn_sent v.state then after_rst_in_syn_sent v s else after_rst v s) else unreset (is_syn_sent v.state)) no_rst
    ∙ (ap unreset waits
    ∙ (ap (λ b. if b then after_simultaneous_syn v s else after_syn_ack v s) single
    ∙ ap (λ b. if b then opened_by_syn_ack v s else v) right)))
  where
    unreset : Bool → View
    unreset waits = if waits then (if is_simultaneous_syn v s then after_simultaneous_syn v s else after_syn_ack v s) else if is_acceptable_to v s then after_acceptable_segment v s else owing_ack v

none_held : (v : View) → IsSound v → is_opening v.state ≡ true → v.sending.held ≡ []
none_held v sound opens = none_listed v.sending.held (opening-holds-nothing v sound opens)

pub opened_by : (ours theirs : ℕ) (f v : View) (now : Moment) → IsAnswering theirs ours f → IsSound v → IsAsking ours v → IsOut v
    → (let e = after_event v (Hears (segment_of f Syn) now) in IsOpen ours theirs e × (first_due e ≡ Some Ack)) × (fate v (segment_of f Syn) ≡ Stays)
opened_by ours theirs f v now answers sound asks out =
    let s = segment_of f Syn in
    let o = opening v sound asks.state in
    let opens : is_opening v.state ≡ true = ap is_opening asks.state in
    let waits : is_syn_sent v.state ≡ true = ap is_syn_sent asks.state in
    let sent : v.sending.nxt ≡ wire ours 1 = opening_out v sound opens out ∙ ap (λ n. wire n 1) asks.syn in
    let ack : s.flags.ack ≡ true = ap is_syn_received answers.state in
    let acknowledges : s.acknowledgement ≡ wire ours 1 = ap (λ b. if b then f.receiving.rnext else 0) ack ∙ answers.expects in
    let new = new_one v ours s.acknowledgement sound asks.syn sent acknowledges in
    let taken : is_rejected v s ≡ false = unrejected v s new in
    let kept : is_lost v s ≡ false = ap (λ b. b && is_receiving v.state && is_read v s && brings_more v s) o.kept in
    let stays : ends_opening v s ≡ false = ap (λ b. not b && (if s.flags.rst then ends_by_reset v s else ends_by_syn v s)) o.waits in
    let heard : after_heard v s ≡ opened_by_syn_ack v s = ap (λ b. if b then after_lost v s else after_segment v s) kept ∙ syn_ack_heard v s asks.state refl refl ack new in
    let u = opened_by_syn_ack v s in
    let at : after_segment_at v s now ≡ timed_by (before v s) u now = comes_to v s now (ap is_closed asks.state) taken ∙ ap (λ w. timed_by (before v s) w now) heard in
    let mark : (resend_after (before v s) u now).mark ≡ None = marks_kept (before v s) u now (inr opens) (opening_answers_none v s opens) (ap (λ b. not b && is_read v s && nat_lt 0 (octets_outstanding v) && (length s.octets == 0) && not s.flags.fin && (s.acknowledgement == v.sending.una) && (window_in v.sending s.window == v.sending.window) && not (stands_before v.receiving s.number) && counts_duplicates v) opens) (silent_opening v s opens) in
    let w = timed_by (before v s) u now in
    let P : View → Type 0 = λ e. IsOpen ours theirs e × (first_due e ≡ Some Ack) in (
      subst P (sym at) (
        record { state = refl; acknowledged = sent; sent = sent; expects = ap (λ n. wire n 1) answers.syn },
        ack_due_first w o.quiet refl refl (kept_mark v s u now (inl (sent_not_received v.state waits)) ∙ mark) (none_held v sound opens) (sent_owes v s u now waits),
      ),
      keeps_place v s o.kept taken stays,
    )

-- The acknowledgement of that.

-- where all is acknowledged, an acknowledgement alone has the next number
pub ack_at_next : (v : View) (n : ℕ) → IsSound v → is_closed v.state ≡ false → v.sending.una ≡ n → v.sending.nxt ≡ n → bare_number v.sending ≡ n
ack_at_next v n sound lives una nxt =
    let none : outstanding v.sending ≡ 0 = omega (arith, nxt ∙ sym una, sound.una) in
    bare_at_rest v sound lives none ∙ nxt

-- one at RCV.NXT is acceptable, whatever the window
pub next_acceptable : (r : Receiving) (number : ℕ) → number ≡ r.rnext → r.rnext < 2 ^ 32 → is_acceptable r number 0 ≡ true
next_acceptable r number next small =
    or_left (nat_le (past number r.rnext) (receive_window r)) (stands_before r number) (le-leb (past number r.rnext) (receive_window r) (omega (arith, next, small)))

unleft : (t : State) (left : Bool) → t ≡ SynReceived → (left && not (is_write_closed t)) ≡ false → left ≡ false
unleft SynReceived true e f = cc
unleft SynReceived false e f = refl
unleft _ left e f = cc

pub confirmed_by : (ours theirs : ℕ) (e v : View) (now : Moment) → IsSound e → IsOpen theirs ours e → IsSound v → IsAnswering ours theirs v → IsOut v
    → IsOpen ours theirs (after_event v (Hears (segment_of e Ack) now)) × (fate v (segment_of e Ack) ≡ Stays) × ((let w = after_event v (Hears (segment_of e Ack) now) in w.released) ≡ false)
confirmed_by ours theirs e v now solid opened sound answers out =
    let s = segment_of e Ack in
    let opens : is_opening v.state ≡ true = ap is_opening answers.state in
    let sent : v.sending.nxt ≡ wire ours 1 = opening_out v sound opens out ∙ ap (λ n. wire n 1) answers.syn in
    let number : s.number ≡ wire theirs 1 = ack_at_next e (wire theirs 1) solid (ap is_closed opened.state) opened.acknowledged opened.sent in
    let accepted : is_acceptable_to v s ≡ true = next_acceptable v.receiving s.number (number ∙ sym answers.expects) sound.rnext in
    let left : v.released ≡ false = unleft v.state v.released answers.state sound.release in
    let new = new_one v ours s.acknowledgement sound answers.syn sent opened.expects in
    let waits : is_syn_sent v.state ≡ false = ap is_syn_sent answers.state in
    let stays : ends_opening v s ≡ false = nothing_ends (not (is_syn_sent v.state)) (is_acceptable_to v s) in
    let c = ack_confirms v s now sound answers.state out refl refl refl refl (opened.expects ∙ sym sent) refl accepted in (
      record { state = c.state; acknowledged = c.una ∙ sent; sent = c.nxt ∙ sent; expects = ap (λ (r : Receiving). r.rnext) c.receiving ∙ answers.expects },
      keeps_place v s left (unrejected v s new) stays,
      caller_stays_at v s now left (ap is_closed answers.state) (unrejected v s new),
    )
  where
    small : (n : ℕ) → wire n 1 < 2 ^ 32
    small n = omega arith

    nothing_ends : (a b : Bool) → (a && (b && false && v.passive && is_syn_received v.state)) ≡ false
    nothing_ends true true = refl
    nothing_ends true false = refl
    nothing_ends false b = refl
