-- Why an acknowledgement of what is outstanding frees what it names, and no other segment anything.
use Rattle.std.proofs.Common.{◌≡◌, ◌≢◌, ℕ, zero, suc, ◌+◌, ◌-◌, ◌^◌, ◌<◌, ◌≤◌, ◌||◌, ◌&&◌, not, nat_lt, nat_le, if◌then◌else◌, Bool, true, false, List, [], ◌∷◌, length, drop, arith, refl, sym, ◌∙◌, ap, subst}
use Rattle.std.proofs.lemmas.Bool.{ltb-true, leb-true, lt-ltb, le-leb}
use Rattle.tcp_segment.specs.Wire.{wire, past}
use Rattle.tcp_segment.specs.Segment.{Segment}
use Rattle.clock.specs.declared.moment.Moment.{Moment}
use Rattle.tcp_state.specs.declared.state.State.{State}
use Rattle.tcp_state.specs.declared.state.State.TheVariants.{SynSent, SynReceived}
use Rattle.tcp_halves.specs.Halves.{Sending}
use Rattle.tcp_halves.specs.Stream.{outstanding, is_new_ack, after_acknowledged}
use Rattle.tcp_halves.specs.Windows.{window_in, updates_window, after_window_update}
use Rattle.tcp_state.specs.View.{View, IsSound, is_opening, is_syn_sent, is_syn_received, is_closed, is_write_finished, takes_flag_number}
use Rattle.tcp_state.specs.Arrival.{is_acceptable_to, after_establishment, after_new_ack, is_of_fin, fin_acknowledged, after_ack, is_off, is_read_on, after_window, is_lost, after_lost, after_segment, after_heard, is_rejected, before, timed_by, after_segment_at}
use Rattle.tcp_state.specs.Duties.{acknowledges, HoldsFrom}
use Rattle.tcp_halves.proofs.Choices.{either, by, clash, and_left, and_right, both, or_left, neither, not_true}
use Rattle.tcp_state.proofs.Segments.{after_reading, by_ack, reading_sends, is_taken, by_hearing, by_clock, reads}
use Rattle.tcp_state.proofs.Clocked.{comes_to}
use Rattle.tcp_state.proofs.Unchanged.{unsent}

-- Flags and states.

-- what it takes for an acknowledgement field to be looked at
pub record Acknowledging (v : View) (s : Segment) : Type 0 where
  pub accepted : is_acceptable_to v s ≡ true
  pub ack : s.flags.ack ≡ true
  pub no_rst : s.flags.rst ≡ false
  pub no_syn : s.flags.syn ≡ false

pub acknowledging : (v : View) (s : Segment) → acknowledges v s ≡ true → Acknowledging v s
acknowledging v s e =
    let three = and_left (not s.flags.rst && is_acceptable_to v s && not s.flags.syn) s.flags.ack e in
    let two = and_left (not s.flags.rst && is_acceptable_to v s) (not s.flags.syn) three in
    record {
      accepted = and_right (not s.flags.rst) (is_acceptable_to v s) two;
      ack = and_right (not s.flags.rst && is_acceptable_to v s && not s.flags.syn) s.flags.ack e;
      no_rst = not_true s.flags.rst (and_left (not s.flags.rst) (is_acceptable_to v s) two);
      no_syn = not_true s.flags.syn (and_right (not s.flags.rst && is_acceptable_to v s) (not s.flags.syn) three);
    }

pub opened : (t : State) → is_opening t ≡ false → (is_syn_sent t ≡ false) × (is_syn_received t ≡ false)
opened SynSent e = cc
opened SynReceived e = cc
opened _ e = (refl, refl)

-- The positions.

-- how far the acknowledgement is past SND.UNA
pub named_past : (own una ack most first last : ℕ) → first ≡ wire own una → last ≡ wire own ack → una < ack → ack ≤ una + most → most < 2 ^ 32 → past last first ≡ ack - una
named_past own una ack most first last f l above within small = omega (arith, f, l, above, within, small)

pub named_is_new : (t : Sending) (own una ack number : ℕ) → t.una ≡ wire own una → number ≡ wire own ack → una < ack → ack ≤ una + outstanding t → is_new_ack t number ≡ true
named_is_new t own una ack number f l above within =
    let distance : past number t.una ≡ ack - una = named_past own una ack (outstanding t) t.una number f l above within (omega arith) in
    both (nat_lt 0 (past number t.una)) (nat_le (past number t.una) (outstanding t)) (lt-ltb 0 (past number t.una) (omega (arith, distance, above))) (le-leb (past number t.una) (outstanding t) (omega (arith, distance, above, within)))

-- one that is new names such a position
pub new_is_named : (t : Sending) (own una number : ℕ) → t.una ≡ wire own una → number < 2 ^ 32 → is_new_ack t number ≡ true
    → (ack : ℕ) × (una < ack) × (ack ≤ una + outstanding t) × (number ≡ wire own ack)
new_is_named t own una number f fits new =
    let above : 0 < past number t.una = ltb-true 0 (past number t.una) (and_left (nat_lt 0 (past number t.una)) (nat_le (past number t.una) (outstanding t)) new) in
    let within : past number t.una ≤ outstanding t = leb-true (past number t.una) (outstanding t) (and_right (nat_lt 0 (past number t.una)) (nat_le (past number t.una) (outstanding t)) new) in
    (una + past number t.una, omega (arith, above), omega (arith, within), at own una number t.una f fits)
  where
    at : (own una number first : ℕ) → first ≡ wire own una → number < 2 ^ 32 → number ≡ wire own (una + past number first)
    at own una number first f fits = omega (arith, f, fits)

-- What is freed.

-- SND.UNA has this number, and what is held and SND.NXT are those of the other half
abbrev pub Held : ℕ → Sending → Sending → Type 0
Held number t u = (u.una ≡ number) × (u.held ≡ t.held) × (u.nxt ≡ t.nxt)

-- while our SYN is outstanding, nothing is held, and the SYN alone may be acknowledged
answering : (size : ℕ) (t : State) (held out : ℕ) → is_syn_received t ≡ true → held ≤ (if is_opening t || is_write_finished t then 0 else size) → out ≤ held + (if takes_flag_number t then 1 else 0) → (held ≡ 0) × (out ≤ 1)
answering size SynReceived held out e few most = (omega (arith, few), omega (arith, few, most))
answering size _ held out e few most = cc

syn_is_all : (own una ack first last nxt : ℕ) → first ≡ wire own una → last ≡ wire own ack → una < ack → ack ≤ una + past nxt first → past nxt first ≤ 1 → nxt < 2 ^ 32 → nxt ≡ last
syn_is_all own una ack first last nxt f l above within one fits = omega (arith, f, l, above, within, one, fits)

pub drop_none : (n : ℕ) (octets : List ℕ) → length octets ≡ 0 → octets ≡ drop n octets
drop_none zero octets e = refl
drop_none (suc n) [] e = refl
drop_none (suc n) (x ∷ octets) e = absurd (omega (arith, e))

ack_frees : (v : View) (ack : ℕ) → is_new_ack v.sending ack ≡ true → (is_syn_received v.state ≡ true → (v.sending.nxt ≡ ack) × (length v.sending.held ≡ 0))
    → Held ack (after_acknowledged v.sending ack) (after_ack v ack).sending
ack_frees v ack new received_all =
    let P : View → Type 0 = λ w. Held ack (after_acknowledged v.sending ack) w.sending in
    let new_is = is_new_ack v.sending ack in
    either View P (is_syn_received v.state) (if new_is then after_establishment v else v) _
    (λ received. either View P new_is (after_establishment v) v
    (λ is. let all = received_all received in (all.0, drop_none (past ack v.sending.una) v.sending.held all.1, refl))
    (λ old. clash new_is new old))
    (λ past_opening. either View P new_is _ _
    (λ is. either View P (is_of_fin v ack) (fin_acknowledged (after_new_ack v ack)) (after_new_ack v ack) (λ fin. (refl, refl, refl)) (λ octets. (refl, refl, refl)))
    (λ old. clash new_is new old))

-- the window leaves what is held
told_holds : (t : Sending) (number ack window : ℕ) → Held t.una t (after_window_update t number ack window)
told_holds t number ack window = either Sending (Held t.una t) (updates_window t number ack) _ t (λ tells. (refl, refl, refl)) (λ none. (refl, refl, refl))

-- a segment with such an acknowledgement is read
read_on : (received new before : Bool) → new ≡ true → (if received then new else new || not before) ≡ true
read_on true new before e = e
read_on false new before e = or_left new (not before) e

reading_frees : (v : View) (s : Segment) → is_new_ack v.sending s.acknowledgement ≡ true → (is_syn_received v.state ≡ true → (v.sending.nxt ≡ s.acknowledgement) × (length v.sending.held ≡ 0))
    → Held s.acknowledgement (after_acknowledged v.sending s.acknowledgement) (after_reading v s).sending
reading_frees v s new received_all =
    let w = after_ack v s.acknowledgement in
    let freed = ack_frees v s.acknowledgement new received_all in
    let told : Held w.sending.una w.sending (after_window w s).sending = told_holds w.sending s.number s.acknowledgement (window_in w.sending s.window) in
    subst (Held s.acknowledgement (after_acknowledged v.sending s.acknowledgement)) (sym (reading_sends v s)) (told.0 ∙ freed.0, told.1 ∙ freed.1, told.2 ∙ freed.2)

pub frees_named : (v : View) (s : Segment) (now : Moment) (own una ack : ℕ) → IsSound v → (is_syn_sent v.state || is_closed v.state) ≡ false → acknowledges v s ≡ true
    → v.sending.una ≡ wire own una → s.acknowledgement ≡ wire own ack → una < ack → ack ≤ una + outstanding v.sending → (after_segment_at v s now).owes_reset ≡ false
    → HoldsFrom s.acknowledgement (drop (ack - una) v.sending.held) v (after_segment_at v s now)
frees_named v s now own una ack sound open_yet acknowledged f l above within =
    let lives = neither (is_syn_sent v.state) (is_closed v.state) open_yet in
    let a = acknowledging v s acknowledged in
    let new = named_is_new v.sending own una ack s.acknowledgement f l above within in
    let distance : past s.acknowledgement v.sending.una ≡ ack - una = named_past own una ack (outstanding v.sending) v.sending.una s.acknowledgement f l above within (omega arith) in
    let P : View → Type 0 = λ w. w.owes_reset ≡ false → HoldsFrom s.acknowledgement (drop (ack - una) v.sending.held) v w in
    let read : after_segment v s ≡ after_reading v s = reads v s lives.1 lives.0 (record {
      no_rst = a.no_rst;
      accepted = a.accepted;
      no_syn = a.no_syn;
      ack = a.ack;
      on = read_on (is_syn_received v.state) (is_new_ack v.sending s.acknowledgement) (is_off v s.acknowledgement) new;
    }) in
    let taken : is_rejected v s ≡ false = by (is_rejected v s ≡ false) (is_rejected v s)
    (λ rejected. let u = unsent v s rejected in clash (is_new_ack v.sending s.acknowledgement) new u.old) (λ none. none) in
    let freed = reading_frees v s new (λ received.
    let only = answering v.sending.size v.state (length v.sending.held) (outstanding v.sending) received sound.held sound.flight in
    (syn_is_all own una ack v.sending.una s.acknowledgement v.sending.nxt f l above within only.1 sound.nxt, only.0)) in
    subst P (sym (comes_to v s now lives.1 taken))
    (either View (λ w. P (timed_by (before v s) w now)) (is_lost v s) (after_lost v s) (after_segment v s)
    (λ lost owes. let bad : true ≡ false = owes in cc)
    (λ kept. subst (λ w. P (timed_by (before v s) w now)) (sym read) (λ owes. record { una = freed.0; held = freed.1 ∙ ap (λ n. drop n v.sending.held) distance; nxt = freed.2 })))

-- What frees nothing.

-- an acknowledgement that names nothing that is outstanding
unnamed : (v : View) (ack : ℕ) → (is_new_ack v.sending ack ≡ true → ⊥) → (after_ack v ack).sending ≡ v.sending
unnamed v ack old = by_ack (λ w. w.sending ≡ v.sending) v ack (record {
  old = refl;
  beyond = refl;
  opens = λ received new. absurd (old new);
  octets = λ new. absurd (old new);
  fin = λ new fin. absurd (old new);
})

reading_frees_none : (v : View) (s : Segment) → (is_new_ack v.sending s.acknowledgement ≡ true → ⊥) → Held v.sending.una v.sending (after_reading v s).sending
reading_frees_none v s old =
    let w = after_ack v s.acknowledgement in
    let told : Held w.sending.una w.sending (after_window w s).sending = told_holds w.sending s.number s.acknowledgement (window_in w.sending s.window) in
    subst (Held v.sending.una v.sending) (sym (reading_sends v s)) (subst (λ t. Held t.una t (after_window w s).sending) (unnamed v s.acknowledgement old) told)

pub others_free_none : (v : View) (s : Segment) (now : Moment) (own una : ℕ) → IsSound v → is_syn_sent v.state ≡ false → v.sending.una ≡ wire own una → s.acknowledgement < 2 ^ 32
    → (acknowledges v s ≡ true → (ack : ℕ) → una < ack → ack ≤ una + outstanding v.sending → s.acknowledgement ≢ wire own ack) → is_closed (after_segment_at v s now).state ≡ false
    → HoldsFrom v.sending.una v.sending.held v (after_segment_at v s now)
others_free_none v s now own una sound past_opening f fits names_none =
    let P : View → Type 0 = λ w. is_closed w.state ≡ false → Held v.sending.una v.sending w.sending in
    let old : is_taken v s ≡ true → is_new_ack v.sending s.acknowledgement ≡ true → ⊥ = λ taken new.
    let named = new_is_named v.sending own una s.acknowledgement f fits new in
    names_none taken named.0 named.1 named.2 named.3 in
    let same : Held v.sending.una v.sending v.sending = (refl, refl, refl) in
    let heard : is_closed v.state ≡ false → P (after_heard v s) = λ lives. by_hearing P v s (λ closed. let bad : true ≡ false = closed in cc) (record {
      dropped = λ on. same;
      drawn = λ on. same;
      reset = λ acts closed. let bad : true ≡ false = closed in cc;
      crossed = λ waits. clash (is_syn_sent v.state) waits past_opening;
      opened = λ waits right. clash (is_syn_sent v.state) waits past_opening;
      acknowledged = λ taken on. subst (Held v.sending.una v.sending) (sym (unnamed v s.acknowledgement (old taken))) same;
      read = λ read on. reading_frees_none v s (old (and_left (is_taken v s) (is_read_on v s.acknowledgement) read));
    }) in
    λ open_still.
    let h : Held v.sending.una v.sending (after_segment_at v s now).sending = by_clock P v s now (λ on. same) heard open_still in
    record { una = h.0; held = h.1; nxt = h.2 }
