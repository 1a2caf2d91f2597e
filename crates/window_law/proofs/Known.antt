-- What an end knows of the other's window, when it hears.
use Rattle.std.proofs.Common.{◌≡◌, ℕ, ◌+◌, ◌-◌, ◌<◌, ◌≤◌, ◌^◌, ◌⊎◌, inl, inr, nat_lt, nat_le, false, if◌then◌else◌, arith, sym, ◌∙◌, ap, subst}
use Rattle.std.proofs.lemmas.Bool.{leb-false, leb-true, ltb-true}
use Rattle.std.proofs.lemmas.Bool.Decides.{leb_tells}
use Rattle.tcp_segment.specs.Wire.{wire, past}
use Rattle.tcp_segment.proofs.StreamPositions.{past-wire, past-wire_back, past_itself}
use Rattle.tcp_halves.specs.Halves.{Sending, Receiving}
use Rattle.tcp_halves.specs.Heard.{settled}
use Rattle.tcp_halves.specs.Stream.{outstanding, receive_window}
use Rattle.tcp_halves.specs.Windows.{window_in}
use Rattle.tcp_halves.proofs.Choices.{by, and_left, and_right}
use Rattle.tcp_state.specs.View.{View, IsSound, is_closed}
use Rattle.tcp_state.proofs.AckNumbers.{probed_is_one}
use Rattle.tcp_state.proofs.Onward.{Advances}
use Rattle.stream_law.specs.Channel.{IsAmong}
use Rattle.stream_law.specs.Pairing.{Emission, Pairing, IsTimely}
use Rattle.window_law.specs.Windows.{edge_from}
use Rattle.window_law.proofs.Meeting.{At, between, flight}
use Rattle.window_law.proofs.Heard.{Tells, Establishes}

-- A segment that acknowledges something new stands past SND.UNA, and one that isn't before SND.UNA, there or past it.
ahead : (isn u at : ℕ) → u < at + 2 ^ 31 → past (wire isn at) (wire isn u) < 2 ^ 31 → u ≤ at
ahead isn u at near few = elim (leb_tells u at) [
  | inl t ↦ t.1
  | inr t ↦ let back = past-wire_back isn at u t.1 (omega (arith, near)) in absurd (omega (arith, back, few, t.1, near))
]

-- The own end hears: what it knows of the other's window.
pub record Known (s : Sending) (r : Receiving) : Type 0 where
  pub window : s.window ≤ edge_from s r
  pub sent : settled s ≤ edge_from s r

-- where SND.UNA stays
known_still : (s t : Sending) (r : Receiving) → t.una ≡ s.una → t.nxt ≡ s.nxt → t.probed ≡ s.probed → t.window ≤ edge_from s r → settled s ≤ edge_from s r → Known t r
known_still s t r una nxt probed window sent = record {
  window = subst (λ n. t.window ≤ past r.rnext n + receive_window r) (sym una) window;
  sent =
      let same : settled t ≡ settled s = ap (λ n. past n t.una - (if t.probed then 1 else 0)) nxt ∙ ap (λ n. past s.nxt n - (if t.probed then 1 else 0)) una ∙ ap (λ b. outstanding s - (if b then 1 else 0)) probed in
      subst (λ n. settled t ≤ past r.rnext n + receive_window r) (sym una) (omega (arith, same, sent));
}

-- where it moves over what is acknowledged
known_moved : (v : View) (t : Sending) (r : Receiving) (ack u n rn at isn : ℕ) → IsSound v → is_closed v.state ≡ false → v.sending.una ≡ wire isn u → v.sending.nxt ≡ wire isn n → r.rnext ≡ wire isn rn → ack ≡ wire isn at
    → u < at → at ≤ rn → rn ≤ n → n < u + 2 ^ 31 → t.una ≡ ack → t.nxt ≡ v.sending.nxt → t.probed ≡ false
    → (t.window ≡ v.sending.window - past ack v.sending.una) ⊎ (t.window ≤ past r.rnext ack + receive_window r) → v.sending.window ≤ edge_from v.sending r → settled v.sending ≤ edge_from v.sending r → Known t r
known_moved v t r ack u n rn at isn sound lives una nxt rnext number above below within near moved next none window known sent =
    let s = v.sending in
    let from_una : past r.rnext s.una ≡ rn - u = ap (λ a. past a s.una) rnext ∙ ap (λ a. past (wire isn rn) a) una ∙ past-wire isn u rn (omega (arith, above, below)) (omega (arith, within, near)) in
    let from_ack : past r.rnext ack ≡ rn - at = ap (λ a. past a ack) rnext ∙ ap (λ a. past (wire isn rn) a) number ∙ past-wire isn at rn below (omega (arith, above, within, near)) in
    let gained : past ack s.una ≡ at - u = ap (λ a. past a s.una) number ∙ ap (λ a. past (wire isn at) a) una ∙ past-wire isn u at (omega (arith, above)) (omega (arith, below, within, near)) in
    let flies : outstanding s ≡ n - u = ap (λ a. past a s.una) nxt ∙ ap (λ a. past (wire isn n) a) una ∙ past-wire isn u n (omega (arith, above, below, within)) (omega (arith, near)) in
    let left : past s.nxt ack ≡ n - at = ap (λ a. past a ack) nxt ∙ ap (λ a. past (wire isn n) a) number ∙ past-wire isn at n (omega (arith, below, within)) (omega (arith, above, near)) in
    let out : settled t ≡ n - at = ap (λ b. outstanding t - (if b then 1 else 0)) none ∙ ap (λ a. past a t.una - 0) next ∙ ap (λ a. past s.nxt a - 0) moved ∙ omega (arith, left) in
    let edge : edge_from t r ≡ (rn - at) + receive_window r = ap (λ a. past r.rnext a + receive_window r) moved ∙ ap (λ a. a + receive_window r) from_ack in
    record {
      window = elim window [
        | inl less_by ↦ omega (arith, less_by, edge, gained, known, from_una, above, below)
        | inr told ↦ omega (arith, told, edge, from_ack)
      ];
      sent = by (settled t ≤ edge_from t r) s.probed
          (λ probed. let one = probed_is_one v sound lives probed in omega (arith, one, flies, out, above, below, within))
          (λ all. let whole : settled s ≡ outstanding s = ap (λ b. outstanding s - (if b then 1 else 0)) all ∙ omega arith in omega (arith, whole, flies, out, edge, sent, from_una, above, below, within));
    }

pub hears_known : (limit : ℕ) (p : Pairing) (v w x : View) (e : Emission) → At limit p v w → IsAmong e p.received → IsTimely limit p e → IsSound v → is_closed v.state ≡ false → Tells v.sending e.segment x.sending
    → (e.segment.flags.syn ≡ false → window_in v.sending e.segment.window ≤ past w.receiving.rnext e.segment.acknowledgement + receive_window w.receiving) → v.sending.window ≤ edge_from v.sending w.receiving → settled v.sending ≤ edge_from v.sending w.receiving
    → Known x.sending w.receiving
hears_known limit p v w x e at among timely sound lives tells told window sent =
    let s = v.sending in
    let t = x.sending in
    let r = w.receiving in
    let ack = e.segment.acknowledgement in
    elim tells.acknowledges [
      | inl old ↦
          let una : t.una ≡ s.una = tells.una ∙ old.1 in
          let probed : t.probed ≡ s.probed = tells.probed ∙ old.3 in
          known_still s t r una tells.nxt probed
          (elim tells.window [
            | inl kept ↦ let same_window : t.window ≡ s.window = kept ∙ old.2 in omega (arith, same_window, window)
            | inr believed ↦
                let said = told believed.2 in
                let p_at = at.acks e among timely tells.acks in
                let after : past (wire at.isn p_at.at) (wire at.isn at.u) < 2 ^ 31 =
                subst (λ n. past (wire at.isn p_at.at) n < 2 ^ 31) at.una (subst (λ n. past n s.una < 2 ^ 31) p_at.number
                (leb-false (2 ^ 31) (past ack s.una) (subst (λ n. nat_le (2 ^ 31) (past ack n) ≡ false) una believed.1))) in
                let above = ahead at.isn at.u p_at.at (omega (arith, at.received, p_at.near)) after in
                let from_ack : past r.rnext ack ≡ at.r - p_at.at = ap (λ n. past n ack) at.rnext ∙ ap (λ n. past (wire at.isn at.r) n) p_at.number ∙ past-wire at.isn p_at.at at.r p_at.order (omega (arith, p_at.near)) in
                let from_una = between limit p v w at in
                let window : t.window ≡ window_in s e.segment.window = believed.0 in
                omega (arith, window, said, from_ack, from_una, above, p_at.order)
          ])
          sent
      | inr new ↦
          let p_at = at.acks e among timely tells.acks in
          let gained : past ack s.una ≤ outstanding s = leb-true (past ack s.una) (outstanding s) (and_right (nat_lt 0 (past ack s.una)) (nat_le (past ack s.una) (outstanding s)) new.0) in
          let some : 0 < past ack s.una = ltb-true 0 (past ack s.una) (and_left (nat_lt 0 (past ack s.una)) (nat_le (past ack s.una) (outstanding s)) new.0) in
          let flies = flight limit p v w at in
          let far : past (wire at.isn p_at.at) (wire at.isn at.u) ≡ past ack s.una = sym (ap (λ n. past n s.una) p_at.number ∙ ap (λ n. past (wire at.isn p_at.at) n) at.una) in
          let above = ahead at.isn at.u p_at.at (omega (arith, at.received, p_at.near)) (omega (arith, far, gained, flies, at.near)) in
          let apart : at.u < p_at.at = elim (leb_tells p_at.at at.u) [
            | inl below ↦ let itself = past-wire at.isn at.u p_at.at above (omega (arith, below.1)) in absurd (omega (arith, itself, far, some, below.1))
            | inr over ↦ over.1
          ] in
          known_moved v t r ack at.u at.n at.r p_at.at at.isn sound lives at.una at.nxt at.rnext p_at.number apart p_at.order at.sent at.near (tells.una ∙ new.1) tells.nxt (tells.probed ∙ new.3)
          (elim tells.window [
            | inl kept ↦ inl (kept ∙ new.2)
            | inr believed ↦ let said = told believed.2 in let window : t.window ≡ window_in s e.segment.window = believed.0 in inr (omega (arith, window, said))
          ])
          window sent
    ]

-- The own end's RCV.NXT moves within its window, whose edge stays: counted from any number that is near, it lies no nearer.
pub edge_stays : (r t : Receiving) (from : ℕ) → r.rnext < 2 ^ 32 → receive_window r < 2 ^ 31 → from < 2 ^ 32 → past r.rnext from < 2 ^ 31 → Advances r t → past r.rnext from + receive_window r ≤ past t.rnext from + receive_window t
edge_stays r t from small few fits near a =
    let moved : past t.rnext from ≡ past r.rnext from + a.by = ap (λ n. past n from) a.rnext ∙ omega (arith, a.within, few, near, small, fits) in
    let left : receive_window t ≡ receive_window r - a.by = ap (λ n. past n t.rnext) a.edge ∙ ap (λ n. past r.edge n) a.rnext ∙ omega (arith, small, a.within) in
    omega (arith, moved, left, a.within)

-- so few octets can be taken at once
pub few_wide : (v : View) → IsSound v → receive_window v.receiving < 2 ^ 31
few_wide v sound = omega (arith, sound.window, sound.terms.places, sound.terms.capacity)

-- the end of an opening: all is acknowledged, which is our SYN
pub establishes_known : (limit : ℕ) (p : Pairing) (v w x : View) (e : Emission) → At limit p v w → IsSound v → Establishes v e.segment x → e.segment.acknowledgement < 2 ^ 32
    → (e.segment.flags.syn ≡ false → window_in v.sending e.segment.window ≤ past w.receiving.rnext e.segment.acknowledgement + receive_window w.receiving) → 1 + v.sending.window ≤ edge_from v.sending w.receiving → outstanding v.sending ≤ 1 → 1 ≤ past w.receiving.rnext v.sending.una
    → Known x.sending w.receiving
establishes_known limit p v w x e at sound k fits told window few some =
    let s = v.sending in
    let r = w.receiving in
    let ack = e.segment.acknowledgement in
    let from_una = between limit p v w at in
    let flies = flight limit p v w at in
    let gained : past ack s.una ≤ outstanding s = leb-true (past ack s.una) (outstanding s) (and_right (nat_lt 0 (past ack s.una)) (nat_le (past ack s.una) (outstanding s)) k.new) in
    let moved : 0 < past ack s.una = ltb-true 0 (past ack s.una) (and_left (nat_lt 0 (past ack s.una)) (nat_le (past ack s.una) (outstanding s)) k.new) in
    let all : ack ≡ s.nxt = omega (arith, gained, moved, few, fits, sound.una, sound.nxt) in
    let edge : edge_from x.sending r ≡ past r.rnext s.nxt + receive_window r = ap (λ n. past r.rnext n + receive_window r) k.una in
    let left : past r.rnext s.nxt ≡ at.r - at.n = ap (λ n. past n s.nxt) at.rnext ∙ ap (λ n. past (wire at.isn at.r) n) at.nxt ∙ past-wire at.isn at.n at.r (omega (arith, from_una, flies, some, few, at.received, at.sent)) (omega (arith, at.sent)) in
    record {
      window = elim k.window [
        | inl kept ↦ omega (arith, kept, window, edge, left, from_una, flies, few, at.received, at.sent, some)
        | inr believed ↦
            let said = told believed.1 in
            let same : x.sending.window ≡ window_in s e.segment.window = believed.0 in
            let from_ack : past r.rnext ack ≡ past r.rnext s.nxt = ap (past r.rnext) all in
            omega (arith, same, said, from_ack, edge)
      ];
      sent =
          let none : settled x.sending ≡ past x.sending.nxt x.sending.una - 0 = ap (λ b. outstanding x.sending - (if b then 1 else 0)) k.probed in
          let out : past x.sending.nxt x.sending.una ≡ 0 = ap (λ n. past n x.sending.una) k.nxt ∙ ap (past s.nxt) k.una ∙ past_itself s.nxt sound.nxt in
          omega (arith, none, out);
    }
