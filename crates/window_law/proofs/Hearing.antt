-- What two ends know of one another's windows as segments come, once the own end has the other's SYN.
use Rattle.std.proofs.Common.{◌≡◌, ℕ, ◌+◌, ◌*◌, ◌<◌, ◌≤◌, ◌^◌, inl, inr, Bool, true, false, arith, refl, sym, ◌∙◌, ap, subst}
use Rattle.tcp_segment.specs.Segment.{Segment}
use Rattle.tcp_segment.specs.Wire.{past}
use Rattle.tcp_halves.specs.Halves.{Sending}
use Rattle.tcp_halves.specs.Stream.{receive_window}
use Rattle.tcp_halves.specs.Windows.{window_in}
use Rattle.tcp_halves.proofs.Choices.{clash}
use Rattle.tcp_state.specs.View.{View, IsSound, is_closed, is_opening, is_syn_sent}
use Rattle.stream_law.specs.Channel.{IsAmong, number_of}
use Rattle.stream_law.specs.Pairing.{Present, Emission, Pairing, from_other, IsTimely}
use Rattle.window_law.specs.Windows.{edge_from}
use Rattle.window_law.proofs.Meeting.{Stands, met, opening_flight, opening_heard}
use Rattle.window_law.proofs.Heard.{Hears, Confirms}
use Rattle.window_law.proofs.Known.{Known, hears_known, establishes_known}
use Rattle.window_law.proofs.Knowing.{Knows, Earlier, same_sending, advances_from}
use Rattle.window_law.proofs.Openings.{open_is_heard, waiting_acks_none}

on_or : (C : Type 0) (b : Bool) → (b ≡ true → C) → (b ≡ false → C) → C
on_or C true t f = t refl
on_or C false t f = f refl

-- what is told, in the units in which it is read
read_as : (v w : View) (e : Emission) → v.sending.unit ≡ w.receiving.unit → e.segment.window * w.receiving.unit ≤ past w.receiving.rnext e.segment.acknowledgement + receive_window w.receiving
    → window_in v.sending e.segment.window ≤ past w.receiving.rnext e.segment.acknowledgement + receive_window w.receiving
read_as v w e unit told = subst (λ n. e.segment.window * n ≤ past w.receiving.rnext e.segment.acknowledgement + receive_window w.receiving) (sym unit) told

-- what is known of the window of one that has our SYN, by an end that has its own
known_so : (limit : ℕ) (p q : Pairing) (v w x : View) → is_syn_sent w.state ≡ false → is_syn_sent x.state ≡ false → is_opening x.state ≡ false → Known x.sending w.receiving → q.received ≡ p.received → Earlier limit p q → Knows limit p v w → Knows limit q x w
known_so limit p q v w x on past_it opened known same earlier k = record {
  early = λ still. clash (is_syn_sent w.state) still on;
  window = λ there_on here_on. let within = known.window in let flag : number_of (is_opening x.state) ≡ 0 = ap number_of opened in omega (arith, within, flag);
  sent = λ there_on here_opened. known.sent;
  syns = λ there_on still. clash (is_syn_sent x.state) still past_it;
  told = λ there_on f of timely acks plain. k.told on f (subst (λ fs. IsAmong f fs) same of) (earlier f timely) acks plain;
}

-- An open end hears.
pub hears_into : (limit : ℕ) (p q : Pairing) (v w x : View) (e : Emission) → Stands limit p → p.own.connection ≡ Present v → p.other.connection ≡ Present w → is_closed v.state ≡ false → is_closed w.state ≡ false → is_opening v.state ≡ false → is_syn_sent v.state ≡ false → is_syn_sent x.state ≡ false
    → IsAmong e p.received → IsTimely limit p e → IsSound v → (is_syn_sent w.state ≡ false → v.sending.unit ≡ w.receiving.unit) → Hears v e.segment x → q.received ≡ p.received → Earlier limit p q → Knows limit p v w → Knows limit q x w
hears_into limit p q v w x e s own other lives living opened past_it past_it_then among timely sound units h same earlier k =
    on_or (Knows limit q x w) (is_syn_sent w.state) (λ waits. absurd (open_is_heard limit p v w s own other lives living opened waits))
    (λ on.
    let at = met limit p s v w own other lives living on in
    let flag : number_of (is_opening v.state) ≡ 0 = ap number_of opened in
    let first = k.window on past_it in
    let window : v.sending.window ≤ edge_from v.sending w.receiving = omega (arith, first, flag) in
    let sent = k.sent on opened in
    let known : Known x.sending w.receiving = elim h.sending [
      | inr still ↦ subst (λ t. Known t w.receiving) (sym still) (record { window = window; sent = sent })
      | inl tells ↦ hears_known limit p v w x e at among timely sound lives tells (λ plain. read_as v w e (units on) (k.told on e among timely tells.acks plain)) window sent
    ] in
    known_so limit p q v w x on past_it_then h.opened known same earlier k)

pub hears_from : (limit : ℕ) (p q : Pairing) (v w x : View) (e : Segment) → Stands limit p → Stands limit (from_other p) → p.own.connection ≡ Present v → p.other.connection ≡ Present w → is_closed v.state ≡ false → is_closed w.state ≡ false → is_opening v.state ≡ false → is_syn_sent v.state ≡ false → is_syn_sent x.state ≡ false
    → IsSound v → Hears v e x → q.received ≡ p.sent → Earlier limit (from_other p) q → Knows limit (from_other p) w v → Knows limit q w x
hears_from limit p q v w x e s back own other lives living opened past_it past_it_then sound h same earlier k =
    advances_from limit (from_other p) q v w x (λ on. met limit (from_other p) back w v other own living lives on) sound h.receiving h.unit past_it past_it_then (λ waits. absurd (open_is_heard limit p v w s own other lives living opened waits)) same earlier k

-- One in SYN-RECEIVED does.
pub confirms_into : (limit : ℕ) (p q : Pairing) (v w x : View) (e : Emission) → Stands limit p → p.own.connection ≡ Present v → p.other.connection ≡ Present w → is_closed v.state ≡ false → is_closed w.state ≡ false → is_opening v.state ≡ true → is_syn_sent v.state ≡ false → IsAmong e p.received → IsTimely limit p e → IsSound v
    → (is_syn_sent w.state ≡ false → v.sending.unit ≡ w.receiving.unit) → Confirms v e.segment x → e.segment.acknowledgement < 2 ^ 32 → q.received ≡ p.received → Earlier limit p q → Knows limit p v w → Knows limit q x w
confirms_into limit p q v w x e s own other lives living opening past_it among timely sound units h fits same earlier k = elim h.how [
  | inl still ↦ same_sending limit p q v w x (h.synchronised ∙ sym past_it) (still.1 ∙ sym opening) (ap (λ (t : Sending). t.una) still.0) (ap (λ (t : Sending). t.window) still.0) (λ on opened. clash (is_opening v.state) opening opened) same earlier k
  | inr establishes ↦ on_or (Knows limit q x w) (is_syn_sent w.state) (λ waits. absurd (waiting_acks_none limit p w e s other living waits among timely establishes.acks))
      (λ on.
      let at = met limit p s v w own other lives living on in
      let flag : number_of (is_opening v.state) ≡ 1 = ap number_of opening in
      let told = k.window on past_it in
      let known = establishes_known limit p v w x e at sound establishes fits (λ plain. read_as v w e (units on) (k.told on e among timely establishes.acks plain)) (omega (arith, told, flag))
      (opening_flight limit p v s own lives opening) (opening_heard limit p v w s own other lives living opening on) in
      known_so limit p q v w x on h.synchronised establishes.opened known same earlier k)
]

pub confirms_from : (limit : ℕ) (p q : Pairing) (v w x : View) (e : Emission) → Stands limit p → Stands limit (from_other p) → p.own.connection ≡ Present v → p.other.connection ≡ Present w → is_closed v.state ≡ false → is_closed w.state ≡ false → is_syn_sent v.state ≡ false → IsAmong e p.received → IsTimely limit p e
    → IsSound v → Confirms v e.segment x → q.received ≡ p.sent → Earlier limit (from_other p) q → Knows limit (from_other p) w v → Knows limit q w x
confirms_from limit p q v w x e s back own other lives living past_it among timely sound h same earlier k =
    advances_from limit (from_other p) q v w x (λ on. met limit (from_other p) back w v other own living lives on) sound h.receiving h.unit past_it h.synchronised
    (λ waits. elim h.how [ inl still ↦ still.2 | inr establishes ↦ absurd (waiting_acks_none limit p w e s other living waits among timely establishes.acks) ]) same earlier k
