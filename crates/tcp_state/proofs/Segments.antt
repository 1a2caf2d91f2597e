-- What a segment makes of a connection, case by case.
use Rattle.std.proofs.Common.{◌≡◌, ℕ, ◌==◌, ◌||◌, ◌&&◌, not, Bool, true, false, if◌then◌else◌, length, arith, refl, ◌∙◌, ap}
use Rattle.std.proofs.lemmas.Grind.{common_steps}
use Rattle.tcp_segment.specs.Segment.{Segment}
use Rattle.clock.specs.declared.moment.Moment.{Moment}
use Rattle.tcp_state.specs.declared.connection.Fate.TheVariants.{Stays, Removed, Rejected}
use Rattle.tcp_state.specs.declared.state.State.{State}
use Rattle.tcp_state.specs.declared.state.State.TheVariants.{SynSent, Established}
use Rattle.tcp_halves.specs.Stream.{is_new_ack, is_in_window, after_end, after_syn_acknowledged}
use Rattle.tcp_halves.specs.Windows.{syn_window}
use Rattle.tcp_state.specs.Resend.{unmarked}
use Rattle.tcp_state.specs.View.{View, is_syn_sent, is_syn_received, is_closed, after_reset}
use Rattle.tcp_state.specs.Arrival.{owing_ack, reset_error, after_rst_in_syn_sent, after_rst, is_right_syn_ack, after_first_syn, after_syn_ack, is_simultaneous_syn, after_simultaneous_syn, is_acceptable_to, ends_by_syn, is_acting_reset, ends_by_reset, after_establishment, is_of_fin, fin_acknowledged, after_new_ack, after_ack, is_off, is_read_on, is_receiving, after_window, after_text, after_fin, after_acknowledging_segment, after_acceptable_segment, after_segment, is_read, is_lost, after_lost, after_heard, acknowledges_unsent, is_rejected, before, timed_by, after_segment_at}
use Rattle.tcp_state.specs.Arrival.{beyond_end, counts_fin}
use Rattle.tcp_state.specs.Edges.{is_reset_by}
use Rattle.tcp_halves.proofs.Choices.{either, and_left, and_right, and_false, both, neither, not_true, then_chosen, else_chosen}

-- what a FIN makes of a connection: it counts, or draws an acknowledgement, or there is none
pub by_fin : (P : View → Type 0) (w : View) (s : Segment) → (counts_fin w s ≡ true → P (record w { state = beyond_end w.state; receiving = after_end w.receiving; owes_ack = true }))
    → P (owing_ack w) → P w → P (after_fin w s)
by_fin P w s counted drawn none =
    either View P (counts_fin w s) _ _ counted (λ not_counted. either View P (s.flags.fin && is_receiving w.state) (owing_ack w) w (λ fin. drawn) (λ no_fin. none))

-- the SYN-ACK that ends an opening
abbrev pub opened_by_syn_ack : View → Segment → View
opened_by_syn_ack v s = let heard = after_first_syn v s (syn_window v.receiving) in record heard {
  state = Established;
  sending = after_syn_acknowledged heard.sending;
  owes_ack = true;
  resend = unmarked v.resend;
}

-- a segment is read: its acknowledgement, its window, its octets and its FIN
abbrev pub after_reading : View → Segment → View
after_reading v s = after_fin (after_text (after_window (after_ack v s.acknowledgement) s) s) s

-- what an acknowledgement may make of a connection
pub record ByAck (P : View → Type 0) (v : View) (ack : ℕ) : Type 0 where
  pub old : P v
  pub beyond : P (owing_ack v)
  pub opens : is_syn_received v.state ≡ true → is_new_ack v.sending ack ≡ true → P (after_establishment v)
  pub octets : is_new_ack v.sending ack ≡ true → P (after_new_ack v ack)
  pub fin : is_new_ack v.sending ack ≡ true → is_of_fin v ack ≡ true → P (fin_acknowledged (after_new_ack v ack))

pub by_ack : (P : View → Type 0) (v : View) (ack : ℕ) → ByAck P v ack → P (after_ack v ack)
by_ack P v ack cases =
    either View P (is_syn_received v.state) _ _
    (λ received. either View P (is_new_ack v.sending ack) (after_establishment v) v (cases.opens received) (λ old. cases.old))
    (λ past_opening. either View P (is_new_ack v.sending ack) _ _
    (λ new. either View P (is_of_fin v ack) (fin_acknowledged (after_new_ack v ack)) (after_new_ack v ack) (cases.fin new) (λ octets. cases.octets new))
    (λ old. either View P (is_off v ack) (owing_ack v) v (λ beyond. cases.beyond) (λ within. cases.old)))

-- it leaves the receiving half
pub ack_receives : (v : View) (ack : ℕ) → (after_ack v ack).receiving ≡ v.receiving
ack_receives v ack = by_ack (λ w. w.receiving ≡ v.receiving) v ack (record { old = refl; beyond = refl; opens = λ received new. refl; octets = λ new. refl; fin = λ new fin. refl })

-- octets and a FIN leave the sending half
pub reading_sends : (v : View) (s : Segment) → (after_reading v s).sending ≡ (after_window (after_ack v s.acknowledgement) s).sending
reading_sends v s =
    let told = after_window (after_ack v s.acknowledgement) s in
    let text = after_text told s in
    by_fin (λ w. w.sending ≡ text.sending) text s (λ counts. refl) refl refl
    ∙ either View (λ w. w.sending ≡ told.sending) ((length s.octets == 0) || not (is_receiving told.state)) told _ (λ none. refl) (λ some. refl)

-- a reset acts, and leaves the connection its place
pub record IsReset (v : View) (s : Segment) : Type 0 where
  pub lives : is_closed v.state ≡ false
  pub acts : is_reset_by v s ≡ true
  pub stays : ends_by_reset v s ≡ false

-- none takes out what is in SYN-SENT
sent_has_place : (t : State) (acts passive : Bool) → is_syn_sent t ≡ true → (acts && passive && is_syn_received t) ≡ false
sent_has_place SynSent acts passive e = and_false (acts && passive)
sent_has_place _ acts passive e = cc

-- an acceptable segment with ACK alone
abbrev pub is_taken : View → Segment → Bool
is_taken v s = not s.flags.rst && is_acceptable_to v s && not s.flags.syn && s.flags.ack

all_taken : (rst accepted syn ack : Bool) → rst ≡ false → accepted ≡ true → syn ≡ false → ack ≡ true → (not rst && accepted && not syn && ack) ≡ true
all_taken false true false true r a s k = refl
all_taken true accepted syn ack r a s k = cc
all_taken false false syn ack r a s k = cc
all_taken false true true ack r a s k = cc
all_taken false true false false r a s k = cc

-- what a segment may make of it
pub record BySegment (P : View → Type 0) (v : View) (s : Segment) : Type 0 where
  pub dropped : P v
  pub drawn : P (owing_ack v)
  pub reset : IsReset v s → P (after_reset v (reset_error v.state))
  pub crossed : is_syn_sent v.state ≡ true → P (after_simultaneous_syn v s)
  pub opened : is_syn_sent v.state ≡ true → is_right_syn_ack v s ≡ true → P (opened_by_syn_ack v s)
  pub acknowledged : is_taken v s ≡ true → P (after_ack v s.acknowledgement)
  pub read : is_read v s ≡ true → P (after_reading v s)

pub by_segment : (P : View → Type 0) (v : View) (s : Segment) → BySegment P v s → P (after_segment v s)
by_segment P v s cases =
    let confirms = s.flags.ack && is_new_ack v.sending s.acknowledgement in
    either View P (is_closed v.state) v _
    (λ closed. cases.dropped)
    (λ lives. either View P s.flags.rst _ _
    (λ rst. either View P (is_syn_sent v.state) (after_rst_in_syn_sent v s) (after_rst v s)
    (λ waits. either View P confirms (after_reset v (reset_error v.state)) v
    (λ acts. cases.reset (record { lives = lives; acts = both s.flags.rst _ rst (then_chosen (is_syn_sent v.state) confirms (is_acting_reset v s) waits acts); stays = sent_has_place v.state (is_acting_reset v s) v.passive waits }))
    (λ other. cases.dropped))
    (λ past_opening. either View P (is_acting_reset v s) _ _
    (λ acts. either View P (ends_by_reset v s) v (after_reset v (reset_error v.state)) (λ removed. cases.dropped)
    (λ stays. cases.reset (record { lives = lives; acts = both s.flags.rst _ rst (else_chosen (is_syn_sent v.state) confirms (is_acting_reset v s) past_opening acts); stays = stays })))
    (λ elsewhere. either View P (is_in_window v.receiving s.number) (owing_ack v) v (λ within. cases.drawn) (λ outside. cases.dropped))))
    (λ no_rst. either View P (is_syn_sent v.state) _ _
    (λ waits. either View P (is_simultaneous_syn v s) (after_simultaneous_syn v s) (after_syn_ack v s) (λ simultaneous. cases.crossed waits)
    (λ answers. either View P (is_right_syn_ack v s) (opened_by_syn_ack v s) v (cases.opened waits) (λ wrong. cases.dropped)))
    (λ past_opening. either View P (is_acceptable_to v s) (after_acceptable_segment v s) (owing_ack v)
    (λ accepted. either View P s.flags.syn _ _
    (λ syn. either View P (ends_by_syn v s) v (owing_ack v) (λ removed. cases.dropped) (λ stays. cases.drawn))
    (λ no_syn. either View P s.flags.ack (after_acknowledging_segment v s) v
    (λ ack. let taken = all_taken s.flags.rst (is_acceptable_to v s) s.flags.syn s.flags.ack no_rst accepted no_syn ack in
    either View P (is_read_on v s.acknowledgement) (after_reading v s) (after_ack v s.acknowledgement)
    (λ on. cases.read (both (is_taken v s) (is_read_on v s.acknowledgement) taken on)) (λ off. cases.acknowledged taken))
    (λ no_ack. cases.dropped)))
    (λ unacceptable. cases.drawn))))

-- octets for a connection that its caller closed end it, and else it is as the segment makes it
pub by_hearing : (P : View → Type 0) (v : View) (s : Segment) → P (after_lost v s) → BySegment P v s → P (after_heard v s)
by_hearing P v s lost cases = either View P (is_lost v s) (after_lost v s) (after_segment v s) (λ ends. lost) (λ kept. by_segment P v s cases)

-- with the clock
pub by_clock : (P : View → Type 0) (v : View) (s : Segment) (now : Moment) → P v → (is_closed v.state ≡ false → P (timed_by (before v s) (after_heard v s) now)) → P (after_segment_at v s now)
by_clock P v s now same heard =
    either View P (is_closed v.state || is_rejected v s) v (timed_by (before v s) (after_heard v s) now) (λ unheard. same) (λ hears. heard (neither (is_closed v.state) (is_rejected v s) hears).0)

-- what is read: an acceptable segment with ACK alone, past SYN-SENT
pub record IsRead (v : View) (s : Segment) : Type 0 where
  pub no_rst : s.flags.rst ≡ false
  pub accepted : is_acceptable_to v s ≡ true
  pub no_syn : s.flags.syn ≡ false
  pub ack : s.flags.ack ≡ true
  pub on : is_read_on v s.acknowledgement ≡ true

pub read_tells : (v : View) (s : Segment) → is_read v s ≡ true → IsRead v s
read_tells v s e =
    let taken = and_left (is_taken v s) (is_read_on v s.acknowledgement) e in
    let plain = not s.flags.rst && is_acceptable_to v s in
    let three = and_left (plain && not s.flags.syn) s.flags.ack taken in
    let two = and_left plain (not s.flags.syn) three in
    record {
      no_rst = not_true s.flags.rst (and_left (not s.flags.rst) (is_acceptable_to v s) two);
      accepted = and_right (not s.flags.rst) (is_acceptable_to v s) two;
      no_syn = not_true s.flags.syn (and_right plain (not s.flags.syn) three);
      ack = and_right (plain && not s.flags.syn) s.flags.ack taken;
      on = and_right (is_taken v s) (is_read_on v s.acknowledgement) e;
    }

-- what an acceptable segment without RST makes of it past SYN-SENT
arrives : (v : View) (s : Segment) → is_closed v.state ≡ false → s.flags.rst ≡ false → is_syn_sent v.state ≡ false → is_acceptable_to v s ≡ true → after_segment v s ≡ after_acceptable_segment v s
arrives v s lives no_rst past_opening accepted =
    ap (λ b. if b then v else if s.flags.rst then (if is_syn_sent v.state then after_rst_in_syn_sent v s else after_rst v s) else rest) lives
    ∙ ap (λ b. if b then (if is_syn_sent v.state then after_rst_in_syn_sent v s else after_rst v s) else rest) no_rst
    ∙ ap (λ b. if b then (if is_simultaneous_syn v s then after_simultaneous_syn v s else after_syn_ack v s) else if is_acceptable_to v s then after_acceptable_segment v s else owing_ack v) past_opening
    ∙ ap (λ b. if b then after_acceptable_segment v s else owing_ack v) accepted
  where
    rest : View
    rest = if is_syn_sent v.state then (if is_simultaneous_syn v s then after_simultaneous_syn v s else after_syn_ack v s) else if is_acceptable_to v s then after_acceptable_segment v s else owing_ack v

-- .. without SYN
accepts : (v : View) (s : Segment) → is_closed v.state ≡ false → s.flags.rst ≡ false → is_syn_sent v.state ≡ false → is_acceptable_to v s ≡ true → s.flags.syn ≡ false
    → after_segment v s ≡ (if s.flags.ack then after_acknowledging_segment v s else v)
accepts v s lives no_rst past_opening accepted no_syn =
    arrives v s lives no_rst past_opening accepted ∙ ap (λ b. if b then (if ends_by_syn v s then v else owing_ack v) else if s.flags.ack then after_acknowledging_segment v s else v) no_syn

-- .. with SYN: it ends what a listener opened and is not established, and else draws an acknowledgement
pub another_syn : (v : View) (s : Segment) → is_closed v.state ≡ false → s.flags.rst ≡ false → is_syn_sent v.state ≡ false → is_acceptable_to v s ≡ true → s.flags.syn ≡ true
    → after_segment v s ≡ (if v.passive && is_syn_received v.state then v else owing_ack v)
another_syn v s lives no_rst past_opening accepted syn =
    arrives v s lives no_rst past_opening accepted
    ∙ ap (λ b. if b then (if ends_by_syn v s then v else owing_ack v) else if s.flags.ack then after_acknowledging_segment v s else v) syn
    ∙ (ap (λ a. if a && s.flags.syn && v.passive && is_syn_received v.state then v else owing_ack v) accepted
    ∙ ap (λ b. if b && v.passive && is_syn_received v.state then v else owing_ack v) syn)

pub acknowledging : (v : View) (s : Segment) → is_closed v.state ≡ false → s.flags.rst ≡ false → is_syn_sent v.state ≡ false → is_acceptable_to v s ≡ true → s.flags.syn ≡ false → s.flags.ack ≡ true
    → after_segment v s ≡ after_acknowledging_segment v s
acknowledging v s lives no_rst past_opening accepted no_syn ack = accepts v s lives no_rst past_opening accepted no_syn ∙ ap (λ b. if b then after_acknowledging_segment v s else v) ack

pub unacknowledging : (v : View) (s : Segment) → is_closed v.state ≡ false → s.flags.rst ≡ false → is_syn_sent v.state ≡ false → is_acceptable_to v s ≡ true → s.flags.syn ≡ false → s.flags.ack ≡ false
    → after_segment v s ≡ v
unacknowledging v s lives no_rst past_opening accepted no_syn no_ack = accepts v s lives no_rst past_opening accepted no_syn ∙ ap (λ b. if b then after_acknowledging_segment v s else v) no_ack

-- .. and of its place
pub fate_of_acknowledging : (rst syn ack accepted waits received new passive resets : Bool) → rst ≡ false → syn ≡ false → ack ≡ true → accepted ≡ true → waits ≡ false
    → (if received && not new then Rejected else Stays)
    ≡ (if not rst && ack && not new && (waits || (received && accepted && not syn)) then Rejected else if not waits && (if rst then resets else accepted && syn && passive && received) then Removed else Stays)
fate_of_acknowledging false false true true false true true passive resets r s k a w = refl
fate_of_acknowledging false false true true false true false passive resets r s k a w = refl
fate_of_acknowledging false false true true false false true passive resets r s k a w = refl
fate_of_acknowledging false false true true false false false passive resets r s k a w = refl
fate_of_acknowledging true syn ack accepted waits received new passive resets r s k a w = cc
fate_of_acknowledging false true ack accepted waits received new passive resets r s k a w = cc
fate_of_acknowledging false false false accepted waits received new passive resets r s k a w = cc
fate_of_acknowledging false false true false waits received new passive resets r s k a w = cc
fate_of_acknowledging false false true true true received new passive resets r s k a w = cc

pub fate_of_syn : (rst syn ack accepted waits received new passive resets : Bool) → rst ≡ false → syn ≡ true → accepted ≡ true → waits ≡ false
    → (if passive && received then Removed else Stays)
    ≡ (if not rst && ack && not new && (waits || (received && accepted && not syn)) then Rejected else if not waits && (if rst then resets else accepted && syn && passive && received) then Removed else Stays)
fate_of_syn rst syn ack accepted waits received new passive resets r s a w = grind (arith, common_steps)

pub reads : (v : View) (s : Segment) → is_closed v.state ≡ false → is_syn_sent v.state ≡ false → IsRead v s → after_segment v s ≡ after_reading v s
reads v s lives past_opening read =
    acknowledging v s lives read.no_rst past_opening read.accepted read.no_syn read.ack ∙ ap (λ b. if b then after_reading v s else after_ack v s.acknowledgement) read.on

-- past the opening nothing is rejected
pub not_rejected : (v : View) (s : Segment) → is_syn_sent v.state ≡ false → is_syn_received v.state ≡ false → is_rejected v s ≡ false
not_rejected v s past_opening established =
    let unsent = acknowledges_unsent v s in
    let accepted = is_acceptable_to v s in
    ap (λ b. unsent && (b || (is_syn_received v.state && accepted && not s.flags.syn))) past_opening ∙ ap (λ b. unsent && (b && accepted && not s.flags.syn)) established ∙ and_false unsent
