-- Why a SYN draws a SYN-ACK from a listener, the SYN-ACK opens the connection that sent the SYN, and its acknowledgement the listener's.
use Rattle.std.proofs.Common.{◌≡◌, ◌≢◌, ℕ, ◌^◌, ◌<◌, ◌==◌, ◌||◌, ◌&&◌, not, nat_le, nat_lt, if◌then◌else◌, Bool, true, false, [], Some, None, arith, refl, sym, ◌∙◌, ap, subst}
use Rattle.std.proofs.lemmas.Bool.{le-leb, lt-ltb}
use Rattle.ipv4.specs.declared.addr.Endpoint.{Endpoint}
use Rattle.clock.specs.declared.moment.Moment.{Moment}
use Rattle.tcp_segment.specs.Segment.{Segment}
use Rattle.tcp_segment.specs.Wire.{past}
use Rattle.tcp_state.specs.declared.emission.Due.TheVariants.{Syn}
use Rattle.tcp_state.specs.declared.state.State.{State}
use Rattle.tcp_state.specs.declared.state.State.TheVariants.{SynSent, SynReceived}
use Rattle.tcp_halves.specs.Halves.{Room, Sending}
use Rattle.tcp_halves.specs.Stream.{outstanding, is_new_ack}
use Rattle.tcp_halves.specs.Windows.{updates_window}
use Rattle.tcp_state.specs.View.{View, IsSound, is_syn_sent, is_syn_received, is_closed, is_write_closed}
use Rattle.tcp_state.specs.Arrival.{opened_passively, is_acceptable_to, is_right_syn_ack, after_rst_in_syn_sent, after_rst, is_simultaneous_syn, after_simultaneous_syn, after_syn_ack, after_establishment, after_ack, after_window, after_text, after_fin, is_read_on, after_acceptable_segment, owing_ack, after_segment, is_receiving, is_read, brings_more, is_lost, after_lost, after_heard, before, timed_by, after_segment_at, is_rejected}
use Rattle.tcp_state.specs.Due.{first_due}
use Rattle.tcp_state.specs.Edges.{after_first}
use Rattle.tcp_state.specs.Simultaneous.{AnswersSyn}
use Rattle.tcp_state.specs.Opening.{OpenedBy, Confirmed}
use Rattle.tcp_state.proofs.Guarded.{sent_owes}
use Rattle.tcp_state.proofs.Clocked.{comes_to}
use Rattle.tcp_halves.proofs.Choices.{either, clash, both}
use Rattle.tcp_state.proofs.Segments.{opened_by_syn_ack, reads}
use Rattle.tcp_state.proofs.Emissions.{syn_sends}
use Rattle.tcp_state.proofs.SynAnswers.{then_sent}
use Rattle.tcp_state.proofs.Unreachable.{opening}

-- The listener's answer.

none_out : (n : ℕ) → n < 2 ^ 32 → past n n ≡ 0
none_out n fits = omega (arith, fits)

pub listener_answers : (room : Room) (local peer : Endpoint) (isn : ℕ) (syn : Segment) (at : Moment) → isn < 2 ^ 32 → AnswersSyn isn syn.number (opened_passively room local peer isn syn at)
listener_answers room local peer isn syn at fits =
    let v = opened_passively room local peer isn syn at in
    let due : first_due v ≡ Some Syn = ap (λ n. if (n == 0) || false then Some Syn else None) (none_out isn fits) in
    record {
      state = refl;
      due = due;
      syn = refl;
      ack = refl;
      number = refl;
      expects = refl;
      then_sent = λ now. ap (λ d. (after_first v d now).sending.nxt) due ∙ (ap (λ (t : Sending). t.nxt) (syn_sends v now) ∙ then_sent isn isn fits fits (omega (arith, fits)));
    }

-- The SYN-ACK.

-- an acknowledgement of all that was sent is new, where something was
acknowledges_all : (s : Sending) (ack : ℕ) → s.una < 2 ^ 32 → s.nxt < 2 ^ 32 → s.nxt ≢ s.una → ack ≡ s.nxt → is_new_ack s ack ≡ true
acknowledges_all s ack small fits sent same = subst (λ n. is_new_ack s n ≡ true) (sym same)
    (both (nat_lt 0 (past s.nxt s.una)) (nat_le (past s.nxt s.una) (outstanding s)) (lt-ltb 0 (past s.nxt s.una) (positive s.una s.nxt small fits sent)) (le-leb (past s.nxt s.una) (outstanding s) (omega arith)))
  where
    positive : (una nxt : ℕ) → una < 2 ^ 32 → nxt < 2 ^ 32 → nxt ≢ una → 0 < past nxt una
    positive una nxt small fits sent = omega (arith, small, fits, sent)

not_simultaneous : (syn ack : Bool) → ack ≡ true → (syn && not ack) ≡ false
not_simultaneous true true e = refl
not_simultaneous false true e = refl
not_simultaneous syn false e = cc

acknowledged : (v : View) (s : Segment) → is_closed v.state ≡ false → is_syn_sent v.state ≡ true → s.flags.rst ≡ false → s.flags.ack ≡ true → after_segment v s ≡ after_syn_ack v s
acknowledged v s lives waits no_rst ack =
    ap (λ b. if b then v else if s.flags.rst then (if is_syn_sent v.state then after_rst_in_syn_sent v s else after_rst v s) else unreset (is_syn_sent v.state)) lives
    ∙ ap (λ b. if b then (if is_syn_sent v.state then after_rst_in_syn_sent v s else after_rst v s) else unreset (is_syn_sent v.state)) no_rst
    ∙ ap unreset waits
    ∙ ap (λ b. if b then after_simultaneous_syn v s else after_syn_ack v s) (not_simultaneous s.flags.syn s.flags.ack ack)
  where
    unreset : Bool → View
    unreset waits = if waits then (if is_simultaneous_syn v s then after_simultaneous_syn v s else after_syn_ack v s) else if is_acceptable_to v s then after_acceptable_segment v s else owing_ack v

-- what acknowledges our SYN is not rejected
unrejected : (rst ack new more : Bool) → new ≡ true → (not rst && ack && not new && more) ≡ false
unrejected true ack true more e = refl
unrejected false true true more e = refl
unrejected false false true more e = refl
unrejected rst ack false more e = cc

opens_by : (v : View) (s : Segment) (now : Moment) → is_syn_sent v.state ≡ true → is_right_syn_ack v s ≡ true → OpenedBy s v (timed_by (before v s) (after_syn_ack v s) now)
opens_by v s now waits right =
    either View (λ w. OpenedBy s v (timed_by (before v s) w now)) (is_right_syn_ack v s) _ v
    (λ is. record { state = refl; una = refl; nxt = refl; expects = refl; window = refl; owes = sent_owes v s (opened_by_syn_ack v s) now waits })
    (λ other. clash (is_right_syn_ack v s) right other)

pub syn_ack_opens : (v : View) (s : Segment) (now : Moment) → IsSound v → v.state ≡ SynSent → v.sending.nxt ≢ v.sending.una → s.flags.rst ≡ false → s.flags.syn ≡ true → s.flags.ack ≡ true
    → s.acknowledgement ≡ v.sending.nxt → OpenedBy s v (after_segment_at v s now)
syn_ack_opens v s now sound opens sent no_rst syn ack same =
    let o = opening v sound opens in
    let lives : is_closed v.state ≡ false = ap is_closed opens in
    let new = acknowledges_all v.sending s.acknowledgement sound.una sound.nxt sent same in
    let right : is_right_syn_ack v s ≡ true = both (s.flags.syn && s.flags.ack) (is_new_ack v.sending s.acknowledgement) (both s.flags.syn s.flags.ack syn ack) new in
    let kept : is_lost v s ≡ false = ap (λ b. b && is_receiving v.state && is_read v s && brings_more v s) o.kept in
    let taken : is_rejected v s ≡ false = unrejected s.flags.rst s.flags.ack (is_new_ack v.sending s.acknowledgement) _ new in
    let heard : after_heard v s ≡ after_syn_ack v s = ap (λ b. if b then after_lost v s else after_segment v s) kept ∙ acknowledged v s lives o.waits no_rst ack in
    let at : after_segment_at v s now ≡ timed_by (before v s) (after_syn_ack v s) now = comes_to v s now lives taken ∙ ap (λ w. timed_by (before v s) w now) heard in
    subst (OpenedBy s v) (sym at) (opens_by v s now o.waits right)

-- The acknowledgement.

unleft : (t : State) (left : Bool) → t ≡ SynReceived → (left && not (is_write_closed t)) ≡ false → left ≡ false
unleft SynReceived true e f = cc
unleft SynReceived false e f = refl
unleft _ left e f = cc

-- it has no octets and no FIN
without_octets : (v : View) (s : Segment) → s.octets ≡ [] → after_text v s ≡ v
without_octets v s none = ap (λ octets. after_text v (record s { octets = octets })) none

without_fin : (v : View) (s : Segment) → s.flags.fin ≡ false → after_fin v s ≡ v
without_fin v s no_fin = ap (λ b. after_fin v (record s { flags = record s.flags { fin = b } })) no_fin

-- what an acceptable acknowledgement of our SYN makes of the connection, without the clock
abbrev read_to_its_end : Segment → View → View
read_to_its_end s w = after_fin (after_text (after_window w s) s) s

establishes : (v : View) (ack : ℕ) → is_syn_received v.state ≡ true → is_new_ack v.sending ack ≡ true → after_ack v ack ≡ after_establishment v
establishes v ack received new =
    let P : View → Type 0 = λ w. w ≡ after_establishment v in
    either View P (is_syn_received v.state) _ _
    (λ is. either View P (is_new_ack v.sending ack) (after_establishment v) v (λ it_is. refl) (λ other. clash (is_new_ack v.sending ack) new other))
    (λ past. clash (is_syn_received v.state) received past)

confirmed : (v : View) (s : Segment) → v.state ≡ SynReceived → s.flags.rst ≡ false → s.flags.syn ≡ false → s.flags.fin ≡ false → s.flags.ack ≡ true → s.octets ≡ [] → is_acceptable_to v s ≡ true
    → is_new_ack v.sending s.acknowledgement ≡ true → after_segment v s ≡ after_window (after_establishment v) s
confirmed v s is no_rst no_syn no_fin ack none accepted new =
    let e = after_window (after_establishment v) s in
    let received : is_syn_received v.state ≡ true = ap is_syn_received is in
    let read : is_read_on v s.acknowledgement ≡ true = either Bool (λ b. b ≡ true) (is_syn_received v.state) (is_new_ack v.sending s.acknowledgement) _ (λ it_is. new) (λ past. clash (is_syn_received v.state) received past) in
    reads v s (ap is_closed is) (ap is_syn_sent is) (record { no_rst = no_rst; accepted = accepted; no_syn = no_syn; ack = ack; on = read })
    ∙ (ap (read_to_its_end s) (establishes v s.acknowledgement received new) ∙ (ap (λ w. after_fin w s) (without_octets e s none) ∙ without_fin e s no_fin))

confirms_by : (v : View) (s : Segment) (now : Moment) → Confirmed v (timed_by (before v s) (after_window (after_establishment v) s) now)
confirms_by v s now =
    let e = after_establishment v in
    either Sending (λ t. Confirmed v (timed_by (before v s) (record e { sending = t }) now)) (updates_window e.sending s.number s.acknowledgement) _ e.sending
    (λ newer. record { state = refl; una = refl; nxt = refl; receiving = refl })
    (λ older. record { state = refl; una = refl; nxt = refl; receiving = refl })

pub ack_confirms : (v : View) (s : Segment) (now : Moment) → IsSound v → v.state ≡ SynReceived → v.sending.nxt ≢ v.sending.una → s.flags.rst ≡ false → s.flags.syn ≡ false → s.flags.fin ≡ false → s.flags.ack ≡ true
    → s.acknowledgement ≡ v.sending.nxt → s.octets ≡ [] → is_acceptable_to v s ≡ true → Confirmed v (after_segment_at v s now)
ack_confirms v s now sound is sent no_rst no_syn no_fin ack same none accepted =
    let new = acknowledges_all v.sending s.acknowledgement sound.una sound.nxt sent same in
    let left : v.released ≡ false = unleft v.state v.released is sound.release in
    let kept : is_lost v s ≡ false = ap (λ b. b && is_receiving v.state && is_read v s && brings_more v s) left in
    let taken : is_rejected v s ≡ false = unrejected s.flags.rst s.flags.ack (is_new_ack v.sending s.acknowledgement) _ new in
    let heard : after_heard v s ≡ after_window (after_establishment v) s =
    ap (λ b. if b then after_lost v s else after_segment v s) kept ∙ confirmed v s is no_rst no_syn no_fin ack none accepted new in
    let at : after_segment_at v s now ≡ timed_by (before v s) (after_window (after_establishment v) s) now = comes_to v s now (ap is_closed is) taken ∙ ap (λ w. timed_by (before v s) w now) heard in
    subst (Confirmed v) (sym at) (confirms_by v s now)
