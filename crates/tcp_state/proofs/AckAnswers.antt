-- What an acknowledgement that is read, and the octets and the FIN behind it, leave owed.
use Rattle.std.proofs.Common.{◌≡◌, ℕ, ◌==◌, ◌||◌, ◌&&◌, not, nat_lt, if◌then◌else◌, Bool, true, false, length, refl, sym, ◌∙◌, ap}
use Rattle.tcp_segment.specs.Segment.{Segment}
use Rattle.stream_buf.specs.Receiving.{ranges}
use Rattle.tcp_state.specs.declared.state.State.{State}
use Rattle.tcp_state.specs.declared.state.State.TheVariants.{SynSent, SynReceived, Established, FinWait1, FinWait2}
use Rattle.tcp_halves.specs.Stream.{is_new_ack}
use Rattle.tcp_state.specs.View.{View, is_opening, is_syn_sent, is_syn_received, is_closed}
use Rattle.tcp_state.specs.Arrival.{owing_ack, after_establishment, is_of_fin, beyond_fin, fin_acknowledged, after_new_ack, is_off, after_ack, is_read_on, after_window, is_receiving, may_delay, after_text, beyond_end, counts_fin, after_fin, before}
use Rattle.tcp_state.specs.Duties.{Places, is_out_of_reach, is_in_reach, may_bring, brings_text, hurries}
use Rattle.tcp_halves.proofs.Choices.{either, clash, and_right, or_right}
use Rattle.tcp_state.proofs.Segments.{after_reading, ack_receives}
use Rattle.tcp_state.proofs.Standing.{AckOrder}
use Rattle.tcp_state.proofs.DrawTests.{drawn_at, Answered, none_drawn, one_drawn}

-- An acknowledgement that is not read on.

pub opening_received : (t : State) → is_syn_received t ≡ true → is_opening t ≡ true
opening_received SynReceived e = refl
opening_received _ e = cc

past_opening_is : (t : State) → is_syn_sent t ≡ false → is_syn_received t ≡ false → is_opening t ≡ false
past_opening_is SynSent e f = cc
past_opening_is SynReceived e f = cc
past_opening_is _ e f = refl

wrong_is_none : (opening beyond within received above may last new : Bool) → opening ≡ true → received ≡ true → (within && above) ≡ new → new ≡ false
    → ((not opening && beyond) || (within && (not received || above) && may && last)) ≡ false
wrong_is_none true beyond false true above may last new o r f n = refl
wrong_is_none true beyond true true false may last new o r f n = refl
wrong_is_none true beyond true true true may last true o r f n = cc
wrong_is_none true beyond true true true may last false o r f n = cc
wrong_is_none false beyond within received above may last new o r f n = cc
wrong_is_none true beyond within false above may last new o r f n = cc

wrong_brings_none : (within received above may some new : Bool) → received ≡ true → (within && above) ≡ new → new ≡ false → (within && (not received || above) && may && some) ≡ false
wrong_brings_none false true above may some new r f n = refl
wrong_brings_none true true false may some new r f n = refl
wrong_brings_none true true true may some true r f n = cc
wrong_brings_none true true true may some false r f n = cc
wrong_brings_none within false above may some new r f n = cc

ahead_is_one : (opening beyond rest new before : Bool) → opening ≡ false → beyond ≡ (not new && before) → new ≡ false → before ≡ true → ((not opening && beyond) || rest) ≡ true
ahead_is_one false true rest false true o b n c = refl
ahead_is_one false false rest false true o b n c = cc
ahead_is_one true beyond rest new before o b n c = cc
ahead_is_one false beyond rest true before o b n c = cc
ahead_is_one false beyond rest false false o b n c = cc

ahead_brings_none : (within right may some new before : Bool) → within ≡ (new || not before) → new ≡ false → before ≡ true → (within && right && may && some) ≡ false
ahead_brings_none false right may some new before w n b = refl
ahead_brings_none true right may some false true w n b = cc
ahead_brings_none true right may some true before w n b = cc
ahead_brings_none true right may some false false w n b = cc

pub not_on : (received new before : Bool) → (if received then new else new || not before) ≡ false → (new ≡ false) × (received ≡ false → before ≡ true)
not_on true true before e = cc
not_on true false before e = (refl, λ bad. cc)
not_on false true before e = cc
not_on false false true e = (refl, λ is. refl)
not_on false false false e = cc

pub unused_answered : (at : Places) (v : View) (s : Segment) → is_syn_sent v.state ≡ false
    → AckOrder (is_out_of_reach at v) (is_in_reach at v) (nat_lt at.una at.ack) (is_new_ack v.sending s.acknowledgement) (is_off v s.acknowledgement)
    → drawn_at at v s ≡ ((not (is_opening v.state) && is_out_of_reach at v) || (is_in_reach at v && (not (is_syn_received v.state) || nat_lt at.una at.ack) && may_bring v.state && (s.flags.fin || hurries at v s)))
    → (brings_text at v s && not (length s.octets == 0)) ≡ (is_in_reach at v && (not (is_syn_received v.state) || nat_lt at.una at.ack) && may_bring v.state && not (length s.octets == 0))
    → is_read_on v s.acknowledgement ≡ false → Answered at v s (after_ack v s.acknowledgement)
unused_answered at v s past order d t off =
    let ack = s.acknowledgement in
    let beyond = is_out_of_reach at v in
    let within = is_in_reach at v in
    let above = nat_lt at.una at.ack in
    let new = is_new_ack v.sending ack in
    let told = not_on (is_syn_received v.state) new (is_off v ack) off in
    let P : View → Type 0 = Answered at v s in
    either View P (is_syn_received v.state) _ _
    (λ received. either View P new (after_establishment v) v
    (λ is. clash new is told.0)
    (λ wrong. none_drawn at v s
    (d ∙ wrong_is_none (is_opening v.state) beyond within (is_syn_received v.state) above (may_bring v.state) (s.flags.fin || hurries at v s) new (opening_received v.state received) received order.fresh wrong)
    (t ∙ wrong_brings_none within (is_syn_received v.state) above (may_bring v.state) (not (length s.octets == 0)) new received order.fresh wrong)))
    (λ established. either View P new _ _
    (λ is. clash new is told.0)
    (λ other. either View P (is_off v ack) (owing_ack v) v
    (λ before. one_drawn at v s
    (d ∙ ahead_is_one (is_opening v.state) beyond _ new (is_off v ack) (past_opening_is v.state past established) order.ahead other before)
    (t ∙ ahead_brings_none within (not (is_syn_received v.state) || above) (may_bring v.state) (not (length s.octets == 0)) new (is_off v ack) order.sent other before))
    (λ sent. clash (is_off v ack) (told.1 established) sent)))

-- One that is.

unclosed : (owes closed : Bool) → closed ≡ false → (owes && not closed) ≡ owes
unclosed true closed e = ap not e
unclosed false closed e = refl

-- it owes and delays what was, and comes to a state in which octets may come where they might
pub record Reaches (v w : View) : Type 0 where
  pub owes : w.owes_ack ≡ v.owes_ack
  pub delays : w.delays_ack ≡ v.delays_ack
  pub receives : is_receiving w.state ≡ may_bring v.state

brings_received : (t : State) → is_syn_received t ≡ true → true ≡ may_bring t
brings_received SynReceived e = refl
brings_received _ e = cc

brings_open : (t : State) → is_syn_received t ≡ false → is_receiving t ≡ may_bring t
brings_open SynReceived e = cc
brings_open _ e = refl

brings_beyond : (t : State) → is_syn_received t ≡ false → is_receiving (beyond_fin t) ≡ may_bring t
brings_beyond SynReceived e = cc
brings_beyond _ e = refl

on_tells : (received new before : Bool) → (if received then new else new || not before) ≡ true → received ≡ false → new ≡ false → before ≡ false
on_tells false false false e r n = refl
on_tells false false true e r n = cc
on_tells true new before e r n = cc
on_tells false true before e r n = cc

pub on_new : (received new before : Bool) → (if received then new else new || not before) ≡ true → received ≡ true → new ≡ true
on_new true true before e r = refl
on_new true false before e r = cc
on_new false new before e r = cc

pub reached : (v : View) (ack : ℕ) → is_read_on v ack ≡ true → is_closed (after_ack v ack).state ≡ false → Reaches v (after_ack v ack)
reached v ack on =
    let P : View → Type 0 = λ w. is_closed w.state ≡ false → Reaches v w in
    let new = is_new_ack v.sending ack in
    either View P (is_syn_received v.state) _ _
    (λ received. either View P new (after_establishment v) v
    (λ is lives. record { owes = refl; delays = refl; receives = brings_received v.state received })
    (λ wrong. clash new (on_new (is_syn_received v.state) new (is_off v ack) on received) wrong))
    (λ established. either View P new _ _
    (λ is. either View P (is_of_fin v ack) (fin_acknowledged (after_new_ack v ack)) (after_new_ack v ack)
    (λ fin lives. record { owes = unclosed v.owes_ack (is_closed (beyond_fin v.state)) lives; delays = unclosed v.delays_ack (is_closed (beyond_fin v.state)) lives; receives = brings_beyond v.state established })
    (λ octets lives. record { owes = refl; delays = refl; receives = brings_open v.state established }))
    (λ old. either View P (is_off v ack) (owing_ack v) v
    (λ before. clash (is_off v ack) before (on_tells (is_syn_received v.state) new (is_off v ack) on established old))
    (λ sent lives. record { owes = refl; delays = refl; receives = brings_open v.state established })))

-- octets, by their tests
pub text_owes : (w : View) (s : Segment) → ((after_text w s).owes_ack ≡ (w.owes_ack || (is_receiving w.state && not (length s.octets == 0) && (w.delays_ack || not (may_delay w s)))))
    × ((after_text w s).delays_ack ≡ (w.delays_ack || (is_receiving w.state && not (length s.octets == 0)))) × ((after_text w s).state ≡ w.state)
text_owes w s =
    let hurry = w.delays_ack || not (may_delay w s) in
    either View (λ x. (x.owes_ack ≡ (w.owes_ack || (is_receiving w.state && not (length s.octets == 0) && hurry))) × (x.delays_ack ≡ (w.delays_ack || (is_receiving w.state && not (length s.octets == 0)))) × (x.state ≡ w.state))
    ((length s.octets == 0) || not (is_receiving w.state)) w _
    (λ none. (deaf w.owes_ack (length s.octets == 0) (is_receiving w.state) hurry none, mute w.delays_ack (length s.octets == 0) (is_receiving w.state) none, refl))
    (λ some. (heard w.owes_ack w.delays_ack (length s.octets == 0) (is_receiving w.state) (not (may_delay w s)) some, told w.delays_ack (length s.octets == 0) (is_receiving w.state) some, refl))
  where
    deaf : (owes none receives hurry : Bool) → (none || not receives) ≡ true → owes ≡ (owes || (receives && not none && hurry))
    deaf true none receives hurry e = refl
    deaf false true true hurry e = refl
    deaf false none false hurry e = refl
    deaf false false true hurry e = cc

    mute : (delays none receives : Bool) → (none || not receives) ≡ true → delays ≡ (delays || (receives && not none))
    mute true none receives e = refl
    mute false true true e = refl
    mute false none false e = refl
    mute false false true e = cc

    heard : (owes delays none receives hurry : Bool) → (none || not receives) ≡ false → (owes || delays || hurry) ≡ (owes || (receives && not none && (delays || hurry)))
    heard true delays false true hurry e = refl
    heard false delays false true hurry e = refl
    heard owes delays true receives hurry e = cc
    heard owes delays false false hurry e = cc

    told : (delays none receives : Bool) → (none || not receives) ≡ false → true ≡ (delays || (receives && not none))
    told true none receives e = refl
    told false false true e = refl
    told false true receives e = cc
    told false false false e = cc

-- a FIN
pub fin_owes : (w : View) (s : Segment) → ((after_fin w s).owes_ack ≡ (w.owes_ack || (is_receiving w.state && s.flags.fin))) × ((after_fin w s).delays_ack ≡ w.delays_ack) × (is_closed (after_fin w s).state ≡ is_closed w.state)
fin_owes w s =
    let P : View → Type 0 = λ x. (x.owes_ack ≡ (w.owes_ack || (is_receiving w.state && s.flags.fin))) × (x.delays_ack ≡ w.delays_ack) × (is_closed x.state ≡ is_closed w.state) in
    either View P (counts_fin w s) _ _
    (λ counts. (ends w.owes_ack s.flags.fin (is_receiving w.state) _ counts, refl, goes_on w.state))
    (λ none. either View P (s.flags.fin && is_receiving w.state) (owing_ack w) w
    (λ ahead. (comes w.owes_ack s.flags.fin (is_receiving w.state) ahead, refl, refl))
    (λ quiet. (stays w.owes_ack s.flags.fin (is_receiving w.state) quiet, refl, refl)))
  where
    goes_on : (t : State) → is_closed (beyond_end t) ≡ is_closed t
    goes_on Established = refl
    goes_on FinWait1 = refl
    goes_on FinWait2 = refl
    goes_on _ = refl

    ends : (owes fin receives next : Bool) → (fin && receives && next) ≡ true → true ≡ (owes || (receives && fin))
    ends true fin receives next e = refl
    ends false true true next e = refl
    ends false false receives next e = cc
    ends false true false next e = cc

    comes : (owes fin receives : Bool) → (fin && receives) ≡ true → true ≡ (owes || (receives && fin))
    comes true fin receives e = refl
    comes false true true e = refl
    comes false false receives e = cc
    comes false true false e = cc

    stays : (owes fin receives : Bool) → (fin && receives) ≡ false → owes ≡ (owes || (receives && fin))
    stays true fin receives e = refl
    stays false false true e = refl
    stays false fin false e = refl
    stays false true true e = cc

-- together
joined_owes : (owes opening beyond within right may fin none delays next kept first : Bool) → (not opening && beyond) ≡ false → within ≡ true → right ≡ true → first ≡ next
    → (owes || (may && not none && (delays || not (next && kept))) || (may && fin)) ≡ (owes || ((not opening && beyond) || (within && right && may && (fin || (not none && (not first || not kept || delays))))))
joined_owes true opening beyond within right may fin none delays next kept first b w r f = refl
joined_owes false opening beyond within right may fin none delays next kept first b w r f =
    rest may fin none delays next kept
    ∙ (ap (λ n. may && (fin || (not none && (not n || not kept || delays)))) (sym f)
    ∙ sym (ap (λ x. x || (within && right && may && (fin || (not none && (not first || not kept || delays))))) b
    ∙ (ap (λ x. x && right && may && (fin || (not none && (not first || not kept || delays)))) w ∙ ap (λ x. x && may && (fin || (not none && (not first || not kept || delays)))) r)))
  where
    hurry : (delays next kept : Bool) → ((delays || not (next && kept)) || false) ≡ (not next || not kept || delays)
    hurry true true true = refl
    hurry true true false = refl
    hurry true false kept = refl
    hurry false true true = refl
    hurry false true false = refl
    hurry false false kept = refl

    rest : (may fin none delays next kept : Bool) → ((may && not none && (delays || not (next && kept))) || (may && fin)) ≡ (may && (fin || (not none && (not next || not kept || delays))))
    rest false fin none delays next kept = refl
    rest true true true delays next kept = refl
    rest true false true delays next kept = refl
    rest true true false delays next kept = or_right (true && (delays || not (next && kept))) true refl
    rest true false false delays next kept = hurry delays next kept

joined_delays : (delays within right may none : Bool) → within ≡ true → right ≡ true → (delays || (may && not none)) ≡ (delays || (within && right && may && not none))
joined_delays true within right may none w r = refl
joined_delays false true true may none w r = refl
joined_delays false false right may none w r = cc
joined_delays false true false may none w r = cc

-- what is read on, by positions
pub record OnTells (opening beyond within right : Bool) : Type 0 where
  pub none_ahead : (not opening && beyond) ≡ false
  pub within_is : within ≡ true
  pub right_is : right ≡ true

pub on_stands : (opening received beyond within above new before : Bool) → AckOrder beyond within above new before → (received ≡ true → opening ≡ true) → (if received then new else new || not before) ≡ true
    → OnTells opening beyond within (not received || above)
on_stands opening true beyond within above new before o opens on =
    let both_are : (within && above) ≡ true = o.fresh ∙ on in
    record { none_ahead = ap (λ b. not b && beyond) (opens refl); within_is = left within above both_are; right_is = and_right within above both_are }
  where
    left : (a b : Bool) → (a && b) ≡ true → a ≡ true
    left true b e = refl
    left false b e = cc
on_stands opening false beyond within above new before o opens on =
    record { none_ahead = ap (λ b. not opening && b) (o.ahead ∙ not_ahead new before on) ∙ last opening; within_is = o.sent ∙ on; right_is = refl }
  where
    not_ahead : (new before : Bool) → (new || not before) ≡ true → (not new && before) ≡ false
    not_ahead true before e = refl
    not_ahead false false e = refl
    not_ahead false true e = cc

    last : (b : Bool) → (not b && false) ≡ false
    last true = refl
    last false = refl

pub used_answered : (at : Places) (v : View) (s : Segment)
    → AckOrder (is_out_of_reach at v) (is_in_reach at v) (nat_lt at.una at.ack) (is_new_ack v.sending s.acknowledgement) (is_off v s.acknowledgement)
    → (at.first == at.next) ≡ (s.number == v.receiving.rnext)
    → drawn_at at v s ≡ ((not (is_opening v.state) && is_out_of_reach at v) || (is_in_reach at v && (not (is_syn_received v.state) || nat_lt at.una at.ack) && may_bring v.state && (s.flags.fin || hurries at v s)))
    → (brings_text at v s && not (length s.octets == 0)) ≡ (is_in_reach at v && (not (is_syn_received v.state) || nat_lt at.una at.ack) && may_bring v.state && not (length s.octets == 0))
    → is_read_on v s.acknowledgement ≡ true → is_closed (after_reading v s).state ≡ false → Answered at v s (after_reading v s)
used_answered at v s order same d t on lives =
    let told = after_window (after_ack v s.acknowledgement) s in
    let text = text_owes told s in
    let fin = fin_owes (after_text told s) s in
    let open_yet : is_closed (after_ack v s.acknowledgement).state ≡ false = ap is_closed (sym text.2) ∙ sym fin.2 ∙ lives in
    let r = reached v s.acknowledgement on open_yet in
    let o = on_stands (is_opening v.state) (is_syn_received v.state) (is_out_of_reach at v) (is_in_reach at v) (nat_lt at.una at.ack) (is_new_ack v.sending s.acknowledgement) (is_off v s.acknowledgement)
    order (opening_received v.state) on in
    let none = length s.octets == 0 in
    let kept = ranges v.receiving.kept == 0 in
    let next = s.number == v.receiving.rnext in
    let delay : may_delay told s ≡ (next && kept) = ap (λ r. (s.number == r.rnext) && (ranges r.kept == 0)) (ack_receives v s.acknowledgement) in
    let texted : (after_text told s).owes_ack ≡ (v.owes_ack || (may_bring v.state && not none && (v.delays_ack || not (next && kept)))) =
    text.0 ∙ (ap (λ b. b || (is_receiving told.state && not none && (told.delays_ack || not (may_delay told s)))) r.owes
    ∙ (ap (λ b. v.owes_ack || (b && not none && (told.delays_ack || not (may_delay told s)))) r.receives
    ∙ (ap (λ b. v.owes_ack || (may_bring v.state && not none && (b || not (may_delay told s)))) r.delays
    ∙ ap (λ b. v.owes_ack || (may_bring v.state && not none && (v.delays_ack || not b))) delay))) in
    let receives : is_receiving (after_text told s).state ≡ may_bring v.state = ap is_receiving text.2 ∙ r.receives in
    record {
      owes = fin.0 ∙ (ap (λ b. b || (is_receiving (after_text told s).state && s.flags.fin)) texted
          ∙ (ap (λ b. v.owes_ack || (may_bring v.state && not none && (v.delays_ack || not (next && kept))) || (b && s.flags.fin)) receives
          ∙ (joined_owes v.owes_ack (is_opening v.state) (is_out_of_reach at v) (is_in_reach at v) (not (is_syn_received v.state) || nat_lt at.una at.ack) (may_bring v.state)
          s.flags.fin none v.delays_ack next kept (at.first == at.next) o.none_ahead o.within_is o.right_is same
          ∙ sym (ap (λ b. v.owes_ack || b) d))));
      delays = fin.1 ∙ (text.1 ∙ (ap (λ b. b || (is_receiving told.state && not none)) r.delays ∙ (ap (λ b. v.delays_ack || (b && not none)) r.receives
          ∙ (joined_delays v.delays_ack (is_in_reach at v) (not (is_syn_received v.state) || nat_lt at.una at.ack) (may_bring v.state) none o.within_is o.right_is
          ∙ sym (ap (λ b. v.delays_ack || b) t)))));
    }
