-- What an end knows of the other's window from its opening on, and how each event keeps it so.
use Rattle.std.proofs.Common.{◌≡◌, ℕ, ◌+◌, ◌-◌, ◌*◌, ◌/◌, ◌≤◌, ◌⊎◌, inl, inr, min, Bool, true, false, if◌then◌else◌, List, ◌∷◌, Some, length, arith, refl, sym, ◌∙◌, ap, subst}
use Rattle.clock.specs.declared.moment.Moment.{Moment}
use Rattle.tcp_segment.specs.Segment.{Segment}
use Rattle.tcp_segment.specs.Wire.{wire, past}
use Rattle.tcp_segment.proofs.StreamPositions.{past-wire}
use Rattle.tcp_halves.specs.declared.buffers.TheConstants.{CAPACITY}
use Rattle.tcp_halves.specs.Halves.{Sending, Receiving}
use Rattle.tcp_halves.specs.Heard.{settled}
use Rattle.tcp_halves.specs.Stream.{receive_window}
use Rattle.tcp_halves.specs.Windows.{whole_units, syn_window}
use Rattle.tcp_halves.proofs.Choices.{by, clash}
use Rattle.tcp_halves.proofs.Keeping.{in_units}
use Rattle.tcp_state.specs.declared.emission.Due.{Due}
use Rattle.tcp_state.specs.declared.state.State.{State}
use Rattle.tcp_state.specs.declared.state.State.TheVariants.{SynSent}
use Rattle.tcp_state.specs.View.{View, IsSound, is_opening, is_syn_sent}
use Rattle.tcp_state.specs.Due.{first_due, flags_of, after_emitted}
use Rattle.tcp_state.specs.Edges.{after_first}
use Rattle.tcp_state.specs.Said.{segment_of}
use Rattle.tcp_state.proofs.GoesOut.{due-may}
use Rattle.tcp_state.proofs.Onward.{Advances}
use Rattle.tcp_state.proofs.Saying.{says_what_is_so}
use Rattle.tcp_state.proofs.StillStreams.{emissions_leave}
use Rattle.stream_law.specs.Channel.{IsAmong, here, there, number_of}
use Rattle.stream_law.specs.Pairing.{Emission, Pairing, IsTimely}
use Rattle.window_law.specs.Windows.{edge_from, KeepsWindows}
use Rattle.window_law.proofs.Meeting.{At, between}
use Rattle.window_law.proofs.Sent.{settles, widens, syn_acks, syn_alone}
use Rattle.window_law.proofs.Known.{edge_stays, few_wide}

-- The one end, v, and the window of the other, w: while w waits for our SYN, its own has told of no more than it will advertise with that; and a window that is told by a SYN counts from behind ours.
pub record Knows (limit : ℕ) (p : Pairing) (v w : View) : Type 0 where
  pub early : is_syn_sent w.state ≡ true → is_syn_sent v.state ≡ false → v.sending.window ≤ syn_window w.receiving
  pub window : is_syn_sent w.state ≡ false → is_syn_sent v.state ≡ false → number_of (is_opening v.state) + v.sending.window ≤ edge_from v.sending w.receiving
  pub sent : is_syn_sent w.state ≡ false → is_opening v.state ≡ false → settled v.sending ≤ edge_from v.sending w.receiving
  pub syns : is_syn_sent w.state ≡ false → is_syn_sent v.state ≡ true → (e : Emission) → IsAmong e p.received → e.segment.flags.syn ≡ true → e.segment.window ≤ receive_window w.receiving
  pub told : is_syn_sent w.state ≡ false → (e : Emission) → IsAmong e p.received → IsTimely limit p e → e.segment.flags.ack ≡ true → e.segment.flags.syn ≡ false
      → e.segment.window * w.receiving.unit ≤ past w.receiving.rnext e.segment.acknowledgement + receive_window w.receiving

pub waiting_opens : (t : State) → is_syn_sent t ≡ true → is_opening t ≡ true
waiting_opens SynSent e = refl
waiting_opens _ e = cc

-- what has been sent in time has been so before
abbrev pub Earlier : ℕ → Pairing → Pairing → Type 0
Earlier limit p q = (e : Emission) → IsTimely limit q e → IsTimely limit p e

-- What goes out leaves of both halves all but SND.NXT, what is a probe's alone, and the edge.
pub record Leaves (v x : View) : Type 0 where
  pub sending : x.sending ≡ record v.sending { nxt = x.sending.nxt; probed = x.sending.probed }
  pub receiving : x.receiving ≡ record v.receiving { edge = x.receiving.edge }
  pub state : x.state ≡ v.state

pub leaves : (v : View) (due : Due) (now : Moment) → first_due v ≡ Some due → Leaves v (after_emitted v due now)
leaves v due now first =
    let k = emissions_leave v now in
    subst (λ o. Leaves v (after_first v o now)) first (record { sending = k.0; receiving = k.1; state = k.2 })

-- one of a list with one more before it
pub one_of : (f e : Emission) (es : List Emission) → IsAmong f (e ∷ es) → (f ≡ e) ⊎ IsAmong f es
one_of _ e es (here _ _) = inl refl
one_of f e es (there _ _ _ among) = inr among

-- the window is known as it was, and the same is sent
pub same_sending : (limit : ℕ) (p q : Pairing) (v w x : View) → is_syn_sent x.state ≡ is_syn_sent v.state → is_opening x.state ≡ is_opening v.state → x.sending.una ≡ v.sending.una → x.sending.window ≡ v.sending.window
    → (is_syn_sent w.state ≡ false → is_opening v.state ≡ false → settled x.sending ≤ edge_from v.sending w.receiving) → q.received ≡ p.received → Earlier limit p q → Knows limit p v w → Knows limit q x w
same_sending limit p q v w x waits opens una window sent same earlier k =
    let r = w.receiving in
    let edge : edge_from x.sending r ≡ edge_from v.sending r = ap (λ n. past r.rnext n + receive_window r) una in
    record {
      early = λ there_waits past_it. let known = k.early there_waits (sym waits ∙ past_it) in omega (arith, known, window);
      window = λ there_on past_it. let known = k.window there_on (sym waits ∙ past_it) in let flag : number_of (is_opening x.state) ≡ number_of (is_opening v.state) = ap number_of opens in omega (arith, known, window, edge, flag);
      sent = λ there_on opened. let out = sent there_on (sym opens ∙ opened) in omega (arith, out, edge);
      syns = λ there_on still e among syn. k.syns there_on (sym waits ∙ still) e (subst (λ es. IsAmong e es) same among) syn;
      told = λ there_on e among timely acks plain. k.told there_on e (subst (λ es. IsAmong e es) same among) (earlier e timely) acks plain;
    }

-- The own end sends.
pub sends_into : (limit : ℕ) (p q : Pairing) (v w : View) (due : Due) (now : Moment) → IsSound v → first_due v ≡ Some due → (let f = flags_of v due in f.rst) ≡ false → q.received ≡ p.received → Earlier limit p q → Knows limit p v w → Knows limit q (after_emitted v due now) w
sends_into limit p q v w due now sound first unreset same earlier k =
    let x = after_emitted v due now in
    let l = leaves v due now first in
    same_sending limit p q v w x (ap is_syn_sent l.state) (ap is_opening l.state) (ap (λ (t : Sending). t.una) l.sending) (ap (λ (t : Sending). t.window) l.sending)
    (λ there_on opened.
    let known = k.sent there_on opened in
    let window = k.window there_on (not_waiting v.state opened) in
    elim (settles v due now sound opened first unreset) [ inl no_more ↦ omega (arith, no_more, known) | inr within ↦ omega (arith, within, window) ])
    same earlier k
  where
    not_waiting : (t : State) → is_opening t ≡ false → is_syn_sent t ≡ false
    not_waiting t opened = by (is_syn_sent t ≡ false) (is_syn_sent t) (λ waits. clash (is_opening t) (waiting_opens t waits) opened) (λ past_it. past_it)

-- .. and what the other knows of it
pub sends_from : (limit : ℕ) (p q : Pairing) (v w : View) (due : Due) (now : Moment) (e : Emission) → IsSound v → first_due v ≡ Some due → (let f = flags_of v due in f.rst) ≡ false → e.segment ≡ segment_of v due → q.received ≡ e ∷ p.received → Earlier limit p q
    → Knows limit p w v → Knows limit q w (after_emitted v due now)
sends_from limit p q v w due now e sound first unreset is same earlier k =
    let x = after_emitted v due now in
    let l = leaves v due now first in
    let r = x.receiving in
    let wide = widens v due now sound first unreset in
    let rnext : r.rnext ≡ v.receiving.rnext = ap (λ (t : Receiving). t.rnext) l.receiving in
    let unit : r.unit ≡ v.receiving.unit = ap (λ (t : Receiving). t.unit) l.receiving in
    let told_window : syn_window r ≡ syn_window v.receiving = ap syn_window l.receiving in
    let so = says_what_is_so v due now sound (due-may v due sound first) in
    let was : (b : Bool) → is_syn_sent x.state ≡ b → is_syn_sent v.state ≡ b = λ b at. sym (ap is_syn_sent l.state) ∙ at in
    let reach : receive_window r ≡ past r.edge v.receiving.rnext = ap (λ n. past r.edge n) rnext in
    record {
      early = λ waits past_it. let known = k.early (was true waits) past_it in omega (arith, known, told_window);
      window = λ on past_it. let known = k.window (was false on) past_it in subst (λ n. number_of (is_opening w.state) + w.sending.window ≤ past n w.sending.una + receive_window r) (sym rnext) (omega (arith, known, wide));
      sent = λ on opened. let known = k.sent (was false on) opened in subst (λ n. settled w.sending ≤ past n w.sending.una + receive_window r) (sym rnext) (omega (arith, known, wide));
      syns = λ on still f of syn. elim (one_of f e p.received (subst (λ fs. IsAmong f fs) same of)) [
        | inl new ↦
            let it : f.segment ≡ segment_of v due = ap (λ (y : Emission). y.segment) new ∙ is in
            let flag = sym (ap (λ (s : Segment). s.flags.syn) it) ∙ syn in
            let field = so.syn_window flag (syn_acks v due first flag (was false on)) in
            let window : f.segment.window ≡ min (past r.edge v.receiving.rnext) CAPACITY = ap (λ (s : Segment). s.window) it ∙ field in
            omega (arith, window, reach)
        | inr old ↦ let known = k.syns (was false on) still f old syn in omega (arith, known, wide)
      ];
      told = λ on f of soon acks plain. elim (one_of f e p.received (subst (λ fs. IsAmong f fs) same of)) [
        | inl new ↦
            let it : f.segment ≡ segment_of v due = ap (λ (y : Emission). y.segment) new ∙ is in
            let field = so.window (sym (ap (λ (s : Segment). s.flags.syn) it) ∙ plain) (sym (ap (λ (s : Segment). s.flags.ack) it) ∙ acks) in
            let ours : f.segment.window * r.unit ≡ whole_units v.receiving.unit (past r.edge v.receiving.rnext) = ap (λ (s : Segment). s.window * r.unit) it ∙ ap (λ n. n * r.unit) field ∙ ap (λ n. (past r.edge v.receiving.rnext / v.receiving.unit) * n) unit in
            let filled = in_units v.receiving.unit (past r.edge v.receiving.rnext) sound.terms.unit_some in
            let most = filled.0 in
            omega (arith, ours, most, reach)
        | inr old ↦
            let said = k.told (was false on) f old (earlier f soon) acks plain in
            subst (λ n. f.segment.window * n ≤ past r.rnext f.segment.acknowledgement + receive_window r) (sym unit) (subst (λ n. f.segment.window * v.receiving.unit ≤ past n f.segment.acknowledgement + receive_window r) (sym rnext) (omega (arith, said, wide)))
      ];
    }

-- our SYN tells of no more than it will advertise
pub sends_first : (v : View) (due : Due) (now : Moment) → IsSound v → first_due v ≡ Some due → is_syn_sent v.state ≡ true → (let f = flags_of v due in f.syn) ≡ true → (let s = segment_of v due in s.window) ≤ (let x = after_emitted v due now in syn_window x.receiving)
sends_first v due now sound first waits syn =
    let x = after_emitted v due now in
    let l = leaves v due now first in
    let so = says_what_is_so v due now sound (due-may v due sound first) in
    let field = so.first syn (syn_alone v due syn waits) in
    let told_window : syn_window x.receiving ≡ syn_window v.receiving = ap syn_window l.receiving in
    let empty : length v.receiving.readable ≤ 0 = subst (λ b. length v.receiving.readable ≤ (if b then 0 else v.receiving.size)) (waiting_opens v.state waits) sound.readable in
    omega (arith, field, told_window, empty)

-- The own end rests.
pub rests_into : (limit : ℕ) (p q : Pairing) (v w x : View) → KeepsWindows v x → q.received ≡ p.received → Earlier limit p q → Knows limit p v w → Knows limit q x w
rests_into limit p q v w x s same earlier k =
    let out : settled x.sending ≡ settled v.sending = ap settled s.sending in
    same_sending limit p q v w x s.waiting s.opening (ap (λ (t : Sending). t.una) s.sending) (ap (λ (t : Sending). t.window) s.sending) (λ there_on opened. let known = k.sent there_on opened in omega (arith, out, known)) same earlier k

-- .. and the other finds the same window, or one that reaches as far
pub same_receiving : (limit : ℕ) (p q : Pairing) (v w x : View) → is_syn_sent x.state ≡ is_syn_sent v.state → syn_window v.receiving ≤ syn_window x.receiving → x.receiving.unit ≡ v.receiving.unit
    → (is_syn_sent v.state ≡ false → past v.receiving.rnext w.sending.una + receive_window v.receiving ≤ edge_from w.sending x.receiving) → (is_syn_sent v.state ≡ false → is_syn_sent w.state ≡ true → receive_window v.receiving ≤ receive_window x.receiving)
    → (is_syn_sent v.state ≡ false → (e : Emission) → IsAmong e p.received → IsTimely limit p e → e.segment.flags.ack ≡ true
    → past v.receiving.rnext e.segment.acknowledgement + receive_window v.receiving ≤ past x.receiving.rnext e.segment.acknowledgement + receive_window x.receiving) → q.received ≡ p.received → Earlier limit p q
    → Knows limit p w v → Knows limit q w x
same_receiving limit p q v w x waits told_window unit edge wide edges same earlier k =
    let r = x.receiving in
    let was : (b : Bool) → is_syn_sent x.state ≡ b → is_syn_sent v.state ≡ b = λ b at. sym waits ∙ at in
    record {
      early = λ still past_it. let known = k.early (was true still) past_it in omega (arith, known, told_window);
      window = λ on past_it. let known = k.window (was false on) past_it in let reach = edge (was false on) in omega (arith, known, reach);
      sent = λ on opened. let known = k.sent (was false on) opened in let reach = edge (was false on) in omega (arith, known, reach);
      syns = λ on still e among syn. let known = k.syns (was false on) still e (subst (λ es. IsAmong e es) same among) syn in let reach = wide (was false on) still in omega (arith, known, reach);
      told = λ on e among timely acks plain.
          let there = subst (λ es. IsAmong e es) same among in
          let said = k.told (was false on) e there (earlier e timely) acks plain in
          let reach = edges (was false on) e there (earlier e timely) acks in
          subst (λ n. e.segment.window * n ≤ past r.rnext e.segment.acknowledgement + receive_window r) (sym unit) (omega (arith, said, reach));
    }

pub rests_from : (limit : ℕ) (p q : Pairing) (v w x : View) → KeepsWindows v x → q.received ≡ p.received → Earlier limit p q → Knows limit p w v → Knows limit q w x
rests_from limit p q v w x s same earlier k =
    let rnext : x.receiving.rnext ≡ v.receiving.rnext = ap (λ (t : Receiving). t.rnext) s.receiving in
    let wide : receive_window x.receiving ≡ receive_window v.receiving = ap receive_window s.receiving in
    let size : x.receiving.size ≡ v.receiving.size = ap (λ (t : Receiving). t.size) s.receiving in
    let from : (n : ℕ) → past v.receiving.rnext n + receive_window v.receiving ≤ past x.receiving.rnext n + receive_window x.receiving = λ n. let at : past x.receiving.rnext n ≡ past v.receiving.rnext n = ap (λ m. past m n) rnext in omega (arith, at, wide) in
    same_receiving limit p q v w x s.waiting (let read = s.read in omega (arith, size, read)) (ap (λ (t : Receiving). t.unit) s.receiving) (λ on. from w.sending.una) (λ on still. omega (arith, wide)) (λ on e among timely acks. from e.segment.acknowledgement) same earlier k

-- Segments: where RCV.NXT moves within the window, whose edge stays.
pub advances_from : (limit : ℕ) (p q : Pairing) (v w x : View) → (is_syn_sent v.state ≡ false → At limit p w v) → IsSound v → Advances v.receiving x.receiving → x.receiving.unit ≡ v.receiving.unit → is_syn_sent v.state ≡ false → is_syn_sent x.state ≡ false
    → (is_syn_sent w.state ≡ true → x.receiving ≡ v.receiving) → q.received ≡ p.received → Earlier limit p q → Knows limit p w v → Knows limit q w x
advances_from limit p q v w x stands sound a unit on still_on same_early same earlier k =
    let r = v.receiving in
    let at = stands on in
    let from_una = between limit p w v at in
    let wide = few_wide v sound in
    let reach = edge_stays r x.receiving w.sending.una sound.rnext wide (omega (arith, at.una)) (omega (arith, from_una, at.sent, at.near)) a in
    record {
      early = λ waits. clash (is_syn_sent x.state) waits still_on;
      window = λ there_on past_it. let known = k.window on past_it in omega (arith, known, reach);
      sent = λ there_on opened. let known = k.sent on opened in omega (arith, known, reach);
      syns = λ there_on waits e among syn. let known = k.syns on waits e (subst (λ es. IsAmong e es) same among) syn in let window : receive_window x.receiving ≡ receive_window r = ap receive_window (same_early waits) in omega (arith, known, window);
      told = λ there_on e among timely acks plain.
          let there = subst (λ es. IsAmong e es) same among in
          let said = k.told on e there (earlier e timely) acks plain in
          let p_at = at.acks e there (earlier e timely) acks in
          let ack = e.segment.acknowledgement in
          let from_ack : past r.rnext ack ≡ at.r - p_at.at = ap (λ n. past n ack) at.rnext ∙ ap (λ n. past (wire at.isn at.r) n) p_at.number ∙ past-wire at.isn p_at.at at.r p_at.order (omega (arith, p_at.near)) in
          let far = edge_stays r x.receiving ack sound.rnext wide (omega (arith, p_at.number)) (omega (arith, from_ack, p_at.near)) a in
          subst (λ n. e.segment.window * n ≤ past x.receiving.rnext ack + receive_window x.receiving) (sym unit) (omega (arith, said, far));
    }
