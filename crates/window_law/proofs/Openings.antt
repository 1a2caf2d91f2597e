-- What two ends know of one another's windows as they open.
use Rattle.std.proofs.Common.{◌≡◌, ℕ, ◌+◌, ◌-◌, ◌%◌, ◌<◌, ◌≤◌, ◌^◌, ◌&&◌, true, false, arith, ◌∙◌, ap, subst}
use Rattle.tcp_segment.specs.Wire.{wire, past}
use Rattle.tcp_segment.proofs.StreamPositions.{past-wire, past_itself}
use Rattle.tcp_halves.specs.Stream.{outstanding, receive_window}
use Rattle.tcp_halves.specs.Windows.{syn_window}
use Rattle.tcp_halves.proofs.Choices.{by, clash, and_left, and_right}
use Rattle.tcp_state.specs.View.{View, IsSound, is_closed, is_opening, is_syn_sent}
use Rattle.tcp_state.specs.Arrival.{is_right_syn_ack, after_simultaneous_syn}
use Rattle.tcp_state.proofs.Segments.{opened_by_syn_ack}
use Rattle.stream_law.specs.Channel.{IsAmong, number_of}
use Rattle.stream_law.specs.Pairing.{Absent, Present, Emission, Pairing, from_other, IsTimely}
use Rattle.window_law.specs.Windows.{edge_from}
use Rattle.window_law.proofs.Meeting.{Stands, opening_heard}
use Rattle.window_law.proofs.Knowing.{Knows, Earlier, waiting_opens}

-- What an end that isn't open for the other may count on, whatever became of it itself: the SYN of one that waits tells of no more than it will advertise.
abbrev pub TellsFirst : Pairing → View → Type 0
TellsFirst p w = is_syn_sent w.state ≡ true → (e : Emission) → IsAmong e p.received → e.segment.flags.syn ≡ true → e.segment.window ≤ syn_window w.receiving

-- While the own end has no connection the other waits.
pub waits_alone : (limit : ℕ) (p : Pairing) (w : View) → Stands limit p → p.own.connection ≡ Absent → p.other.connection ≡ Present w → is_closed w.state ≡ false → is_syn_sent w.state ≡ false → ⊥
waits_alone limit p w s none there living on =
    let n = s.absent none in
    let r = ((s.other w there living).synchronised on).1 in
    omega (arith, n, r, s.sent)

-- an end that is open was heard
pub open_is_heard : (limit : ℕ) (p : Pairing) (v w : View) → Stands limit p → p.own.connection ≡ Present v → p.other.connection ≡ Present w → is_closed v.state ≡ false → is_closed w.state ≡ false → is_opening v.state ≡ false → is_syn_sent w.state ≡ true → ⊥
open_is_heard limit p v w s own other lives living opened waits =
    let u = (s.own v own lives).opened opened in
    let r = (s.other w other living).waiting waits in
    omega (arith, u, r, s.received)

-- what waits acknowledges nothing
pub waiting_acks_none : (limit : ℕ) (p : Pairing) (w : View) (e : Emission) → Stands limit p → p.other.connection ≡ Present w → is_closed w.state ≡ false → is_syn_sent w.state ≡ true → IsAmong e p.received → IsTimely limit p e → e.segment.flags.ack ≡ true → ⊥
waiting_acks_none limit p w e s there living waits among timely acks =
    let a = s.acks e among timely acks in
    let r = (s.other w there living).waiting waits in
    omega (arith, a.some, a.order, r)

-- A caller opens.
pub connects_into : (limit : ℕ) (p q : Pairing) (v w : View) → Stands limit p → p.own.connection ≡ Absent → p.other.connection ≡ Present w → is_closed w.state ≡ false → is_syn_sent v.state ≡ true → Knows limit q v w
connects_into limit p q v w s none there living waits = record {
  early = λ still past_it. clash (is_syn_sent v.state) waits past_it;
  window = λ on past_it. clash (is_syn_sent v.state) waits past_it;
  sent = λ on opened. absurd (waits_alone limit p w s none there living on);
  syns = λ on still e among syn. absurd (waits_alone limit p w s none there living on);
  told = λ on e among timely acks plain. absurd (waits_alone limit p w s none there living on);
}

pub connects_from : (limit : ℕ) (p q : Pairing) (v w : View) → Stands limit p → p.own.connection ≡ Absent → p.other.connection ≡ Present w → is_closed w.state ≡ false → is_syn_sent v.state ≡ true → Knows limit q w v
connects_from limit p q v w s none there living waits = record {
  early = λ still past_it. absurd (waits_alone limit p w s none there living past_it);
  window = λ on past_it. clash (is_syn_sent v.state) waits on;
  sent = λ on opened. clash (is_syn_sent v.state) waits on;
  syns = λ on still e among syn. clash (is_syn_sent v.state) waits on;
  told = λ on e among timely acks plain. clash (is_syn_sent v.state) waits on;
}

-- A listener takes a SYN.
pub accepts_into : (limit : ℕ) (p q : Pairing) (v w : View) (e : Emission) → Stands limit p → p.own.connection ≡ Absent → p.other.connection ≡ Present w → is_closed w.state ≡ false → IsAmong e p.received → e.segment.flags.syn ≡ true → TellsFirst p w
    → v.sending.window ≡ e.segment.window → Knows limit q v w
accepts_into limit p q v w e s none there living among syn first window = record {
  early = λ still past_it. let told = first still e among syn in omega (arith, told, window);
  window = λ on past_it. absurd (waits_alone limit p w s none there living on);
  sent = λ on opened. absurd (waits_alone limit p w s none there living on);
  syns = λ on still f of flag. absurd (waits_alone limit p w s none there living on);
  told = λ on f of timely acks plain. absurd (waits_alone limit p w s none there living on);
}

pub accepts_from : (limit : ℕ) (p q : Pairing) (v w : View) → Stands limit p → p.own.connection ≡ Absent → p.other.connection ≡ Present w → is_closed w.state ≡ false → is_syn_sent v.state ≡ false → q.received ≡ p.sent → Knows limit q w v
accepts_from limit p q v w s none there living on same = record {
  early = λ still past_it. clash (is_syn_sent v.state) still on;
  window = λ still_on past_it. absurd (waits_alone limit p w s none there living past_it);
  sent = λ still_on opened. absurd (waits_alone limit p w s none there living (by (is_syn_sent w.state ≡ false) (is_syn_sent w.state) (λ waits. clash (is_opening w.state) (waiting_opens w.state waits) opened) (λ past_it. past_it)));
  syns = λ still_on still f of flag. absurd (s.silent none f (subst (λ fs. IsAmong f fs) same of));
  told = λ still_on f of timely acks plain. absurd (s.silent none f (subst (λ fs. IsAmong f fs) same of));
}

-- The SYN that was waited for comes: without an acknowledgement of ours, or with one.
pub crosses_into : (limit : ℕ) (p q : Pairing) (v w : View) (e : Emission) → Stands limit p → p.own.connection ≡ Present v → p.other.connection ≡ Present w → is_closed v.state ≡ false → is_closed w.state ≡ false → is_syn_sent v.state ≡ true
    → IsAmong e p.received → e.segment.flags.syn ≡ true → TellsFirst p w → q.received ≡ p.received → Earlier limit p q → Knows limit p v w → Knows limit q (after_simultaneous_syn v e.segment) w
crosses_into limit p q v w e s own other lives living waits among syn first same earlier k = record {
  early = λ still past_it. first still e among syn;
  window = λ on past_it.
      let told = k.syns on waits e among syn in
      let some = opening_heard limit p v w s own other lives living (waiting_opens v.state waits) on in
      omega (arith, told, some);
  sent = λ on opened. cc;
  syns = λ on still f of flag. cc;
  told = λ on f of timely acks plain. k.told on f (subst (λ fs. IsAmong f fs) same of) (earlier f timely) acks plain;
}

pub answers_into : (limit : ℕ) (p q : Pairing) (v w : View) (e : Emission) → Stands limit p → p.other.connection ≡ Present w → is_closed w.state ≡ false → IsSound v → is_syn_sent v.state ≡ true → IsAmong e p.received → IsTimely limit p e → is_right_syn_ack v e.segment ≡ true
    → q.received ≡ p.received → Earlier limit p q → Knows limit p v w → Knows limit q (opened_by_syn_ack v e.segment) w
answers_into limit p q v w e s other living sound waits among timely right same earlier k =
    let flags = and_left (e.segment.flags.syn && e.segment.flags.ack) _ right in
    let syn = and_left e.segment.flags.syn e.segment.flags.ack flags in
    let acks = and_right e.segment.flags.syn e.segment.flags.ack flags in
    record {
      early = λ still past_it. absurd (waiting_acks_none limit p w e s other living still among timely acks);
      window = λ on past_it. let told = k.syns on waits e among syn in omega (arith, told);
      sent = λ on opened. let none = past_itself v.sending.nxt sound.nxt in omega (arith, none);
      syns = λ on still f of flag. cc;
      told = λ on f of soon flag plain. k.told on f (subst (λ fs. IsAmong f fs) same of) (earlier f soon) flag plain;
    }

-- The other end finds the window that our SYN told, if that went out: in `back` the own end is the other, and it takes the SYN.
pub syn_taken_from : (limit : ℕ) (p q : Pairing) (v w x : View) (e : ℕ) (advertised : ℕ) → Stands limit p → Stands limit (from_other p) → Stands limit q → p.own.connection ≡ Present v → p.other.connection ≡ Present w → is_closed v.state ≡ false → is_closed w.state ≡ false
    → is_syn_sent v.state ≡ true → is_syn_sent x.state ≡ false → q.own.connection ≡ Present w → q.other.connection ≡ Present x → is_closed x.state ≡ false → x.receiving.rnext ≡ (e + 1) % 2 ^ 32 → x.receiving.edge ≡ (x.receiving.rnext + advertised) % 2 ^ 32 → advertised < 2 ^ 32
    → (0 < outstanding v.sending → advertised ≡ syn_window v.receiving) → IsSound v → q.received ≡ p.sent → Earlier limit (from_other p) q
    → ((f : Emission) → IsAmong f p.sent → f.segment.flags.syn ≡ true → f.segment.window ≤ syn_window v.receiving) → Knows limit (from_other p) w v → Knows limit q w x
syn_taken_from limit p q v w x e advertised s back t own other lives living waits on q_own q_other x_lives rnext edge small whole sound same earlier first k =
    let a = s.own v own lives in
    let opening = a.opening (waiting_opens v.state waits) in
    let none_before = (back.other v own lives).waiting waits in
    let told : receive_window x.receiving ≡ advertised = ap (λ n. past n x.receiving.rnext) edge ∙ omega (arith, rnext, small) in
    let sent_so : 1 ≤ s.n → advertised ≡ syn_window v.receiving = λ some.
    let flies : outstanding v.sending ≡ s.n - s.u = ap (λ n. past n v.sending.una) a.nxt ∙ ap (λ n. past (wire s.isn s.n) n) a.una ∙ past-wire s.isn s.u s.n (omega (arith, s.received, s.sent)) (omega (arith, s.near)) in
    let u = opening.0 in
    whole (omega (arith, flies, u, some)) in
    let heard : is_syn_sent w.state ≡ false → 1 ≤ s.n = λ past_it. let r = ((s.other w other living).synchronised past_it).1 in omega (arith, r, s.sent) in
    let unopened : is_opening w.state ≡ false → ⊥ = λ opened. let u = (back.own w other living).opened opened in omega (arith, u, none_before, back.received) in
    record {
      early = λ still. clash (is_syn_sent x.state) still on;
      window = λ still_on past_it. by (number_of (is_opening w.state) + w.sending.window ≤ edge_from w.sending x.receiving) (is_opening w.state)
          (λ opens.
          let known = k.early waits past_it in
          let whole_told = sent_so (heard past_it) in
          let some = opening_heard limit q w x t q_own q_other living x_lives opens on in
          let flag : number_of (is_opening w.state) ≡ 1 = ap number_of opens in
          omega (arith, known, whole_told, told, some, flag))
          (λ opened. absurd (unopened opened));
      sent = λ still_on opened. absurd (unopened opened);
      syns = λ still_on still f of flag.
          let mine = subst (λ fs. IsAmong f fs) same of in
          let known = first f mine flag in
          let whole_told = sent_so (s.syns f mine flag) in
          omega (arith, known, whole_told, told);
      told = λ still_on f of timely acks plain. absurd (waiting_acks_none limit (from_other p) v f back own lives waits (subst (λ fs. IsAmong f fs) same of) (earlier f timely) acks);
    }
