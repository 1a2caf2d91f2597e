-- What a plain acknowledgement of octets leaves.
use Rattle.std.proofs.Common.{◌≡◌, ℕ, ◌-◌, ◌==◌, ◌||◌, ◌&&◌, not, nat_lt, if◌then◌else◌, true, false, length, inr, refl, sym, ◌∙◌, ap}
use Rattle.clock.specs.declared.moment.Moment.{Moment}
use Rattle.tcp_segment.specs.Segment.{Segment}
use Rattle.tcp_segment.specs.Wire.{past}
use Rattle.tcp_halves.specs.Stream.{outstanding, is_new_ack, after_acknowledged}
use Rattle.tcp_halves.specs.Windows.{window_in}
use Rattle.congestion.specs.Control.{repairs, is_selective}
use Rattle.congestion.specs.Window.{Window, is_recovering}
use Rattle.congestion.specs.Events.{after_event}
use Rattle.congestion.specs.Events.Event.{NewAck, PartialAck, Duplicate, Loss}
use Rattle.tcp_state.specs.declared.connection.Fate.TheVariants.{Stays}
use Rattle.tcp_state.specs.declared.state.State.TheVariants.{Established}
use Rattle.tcp_state.specs.View.{View, IsSound, is_opening, is_syn_received, is_closed, awaits_fin_ack}
use Rattle.tcp_state.specs.Alive.{heard_now}
use Rattle.tcp_state.specs.Congestion.{after_signal}
use Rattle.tcp_state.specs.Congestion.Signal.{Begins, Counts, Both, Nothing}
use Rattle.tcp_state.specs.Resend.{Resend, resend_acknowledged, resend_ends, excused_by, gives_back}
use Rattle.tcp_state.specs.Selective.{selects}
use Rattle.tcp_state.specs.Timing.{clocked}
use Rattle.tcp_state.specs.Arrival.{is_off, after_ack, after_establishment, after_new_ack, fin_acknowledged, owing_ack, after_window, after_text, after_segment, fate, came_twice, before, since_after, is_moved, told, reports_more, resend_told, report_event, behind_ack, ends_tail, whole_signal, acknowledged_signal, report_signal, congestion_event_of, resend_signalled, resend_after, congestion_after, resend_left, given_back, congestion_left, guarded, after_segment_at, resend_answered}
use Rattle.tcp_state.specs.Plain.{is_plain, acknowledges_octets}
use Rattle.tcp_halves.proofs.Choices.{by, clash, and_left, and_right, and_false, not_true}
use Rattle.tcp_state.proofs.Segments.{IsRead}
use Rattle.tcp_state.proofs.Clocked.{silent_needed, reports_none, told_none}
use Rattle.tcp_state.proofs.Guarded.{without_syn, read_draws_none, next_asks_none}
use Rattle.tcp_state.proofs.Onward.{told_una}
use Rattle.tcp_state.proofs.PlainSegments.{IsPlain, same_number, plain_tells, plain_read, plain_segment, plain_comes, plain_stays, by_text, no_wait, unguarded, not_new}

pub record IsAck (v : View) (s : Segment) : Type 0 where
  pub plain : IsPlain v s
  pub new : is_new_ack v.sending s.acknowledgement ≡ true
  pub whole : is_recovering v.congestion ≡ false
  pub tail : v.resend.tail ≡ 0

pub ack_tells : (v : View) (s : Segment) → IsSound v → is_plain v s ≡ true → acknowledges_octets v s ≡ true → IsAck v s
ack_tells v s sound plain e =
    let new = is_new_ack v.sending s.acknowledgement in
    let whole = not (is_recovering v.congestion) in
    let two = and_left (new && whole) (v.resend.tail == 0) e in
    record {
      plain = plain_tells v s sound plain;
      new = and_left new whole two;
      whole = not_true (is_recovering v.congestion) (and_right new whole two);
      tail = same_number v.resend.tail 0 (and_right (new && whole) (v.resend.tail == 0) e);
    }

ack_read : (v : View) (s : Segment) → IsSound v → IsAck v s → IsRead v s
ack_read v s sound a =
    let new = is_new_ack v.sending s.acknowledgement in
    let sent = not (is_off v s.acknowledgement) in
    plain_read v s sound a.plain (ap (λ t. if is_syn_received t then new else new || sent) a.plain.state ∙ ap (λ b. b || sent) a.new)

-- SND.UNA moves, and no FIN of ours is out
ack_moves : (v : View) (ack : ℕ) → v.state ≡ Established → is_new_ack v.sending ack ≡ true → after_ack v ack ≡ after_new_ack v ack
ack_moves v ack state new =
    let acked = after_new_ack v ack in
    let rest = if is_off v ack then owing_ack v else v in
    let past_held = nat_lt (length v.sending.held) (past ack v.sending.una) in
    let is_new = is_new_ack v.sending ack in
    let moved = if awaits_fin_ack v.state && past_held then fin_acknowledged acked else acked in
    ap (λ t. if is_syn_received t then (if is_new then after_establishment v else v) else if is_new then moved else rest) state
    ∙ ap (λ b. if b then moved else rest) new
    ∙ ap (λ t. if awaits_fin_ack t && past_held then fin_acknowledged acked else acked) state

abbrev pub acked : View → Segment → View
acked v s = after_text (after_window (after_new_ack v s.acknowledgement) s) s

ack_heard : (v : View) (s : Segment) → IsSound v → IsAck v s → after_segment v s ≡ acked v s
ack_heard v s sound a =
    plain_segment v s a.plain (ack_read v s sound a) ∙ ap (λ x. after_text (after_window x s) s) (ack_moves v s.acknowledgement a.plain.state a.new)

-- what it leaves as it was
ack_state : (v : View) (s : Segment) → (acked v s).state ≡ v.state
ack_state v s = by_text (λ x. x.state ≡ v.state) (after_window (after_new_ack v s.acknowledgement) s) s refl (λ r owes p. refl)

ack_owes : (v : View) (s : Segment) → (acked v s).owes_reset ≡ v.owes_reset
ack_owes v s = by_text (λ x. x.owes_reset ≡ v.owes_reset) (after_window (after_new_ack v s.acknowledgement) s) s refl (λ r owes p. refl)

ack_window : (v : View) (s : Segment) → (acked v s).congestion ≡ v.congestion
ack_window v s = by_text (λ x. x.congestion ≡ v.congestion) (after_window (after_new_ack v s.acknowledgement) s) s refl (λ r owes p. refl)

pub ack_stays : (v : View) (s : Segment) → IsSound v → IsAck v s → fate v s ≡ Stays
ack_stays v s sound a = plain_stays v (acked v s) s a.plain (ack_read v s sound a) (ack_heard v s sound a) (ack_state v s)

ack_una : (v : View) (s : Segment) → (acked v s).sending.una ≡ s.acknowledgement
ack_una v s =
    let sending = after_acknowledged v.sending s.acknowledgement in
    let told = after_window (after_new_ack v s.acknowledgement) s in
    by_text (λ x. x.sending.una ≡ told.sending.una) told s refl (λ r owes p. refl) ∙ told_una sending s.number s.acknowledgement (window_in sending s.window)

apart : (v : View) (ack : ℕ) → IsSound v → is_new_ack v.sending ack ≡ true → (v.sending.una == ack) ≡ false
apart v ack sound new =
    by ((v.sending.una == ack) ≡ false) (v.sending.una == ack)
    (λ e. clash (is_new_ack v.sending ack) new (ap (is_new_ack v.sending) (sym (same_number v.sending.una ack e)) ∙ not_new v sound))
    (λ other. other)

ack_moved : (v : View) (s : Segment) → IsSound v → IsAck v s → is_moved (before v s) (acked v s) ≡ true
ack_moved v s sound a = ap (λ n. not (v.sending.una == n)) (ack_una v s) ∙ ap not (apart v s.acknowledgement sound a.new)

-- To the congestion window it is an ACK of new octets, and nothing else.
abbrev pub octets_of : View → Segment → ℕ
octets_of v s = length v.sending.held - length (acked v s).sending.held

ack_signal : (v : View) (s : Segment) → IsSound v → IsAck v s → congestion_event_of (before v s) (acked v s) ≡ Counts (NewAck (octets_of v s) (outstanding (acked v s).sending))
ack_signal v s sound a =
    let b = before v s in
    let w = acked v s in
    let x = told b w in
    let n = octets_of v s in
    let more = reports_more b w in
    let ack = NewAck n (outstanding w.sending) in
    let still = if b.is_duplicate then Counts (Duplicate (outstanding w.sending)) else if more then report_signal x else Nothing in
    let partial = if selects x then Nothing else Counts (PartialAck n) in
    let pays = not (came_twice w.sending.una b.blocks) in
    let quiet = not (is_recovering w.congestion) in
    let goes = nat_lt 0 w.resend.recover in
    let whole : is_recovering w.congestion ≡ false = ap is_recovering (ack_window v s) ∙ a.whole in
    ap (λ t. if is_closed t then Nothing else if is_moved b w then (if is_opening b.state then Begins else acknowledged_signal b x n more) else still) (ack_state v s ∙ a.plain.state)
    ∙ ap (λ t. if t then (if is_opening b.state then Begins else acknowledged_signal b x n more) else still) (ack_moved v s sound a)
    ∙ ap (λ t. if is_opening t then Begins else acknowledged_signal b x n more) a.plain.state
    ∙ ap (λ r. if repairs w.congestion.control && r && goes then partial else whole_signal b x n more) whole
    ∙ ap (λ r. if r && goes then partial else whole_signal b x n more) (and_false (repairs w.congestion.control))
    ∙ ap (λ m. if m then Both ack (report_event (behind_ack x n)) else if ends_tail b x then Both (Loss b.tail) ack else Counts ack) (reports_none b w a.plain.silent)
    ∙ ap (λ m. if selects x && nat_lt 0 m && (w.resend.tail == 0) && quiet && pays then Both (Loss b.tail) ack else Counts ack) a.tail
    ∙ ap (λ m. if m && (w.resend.tail == 0) && quiet && pays then Both (Loss b.tail) ack else Counts ack) (and_false (selects x))

-- It is progress, and nothing goes out again by it.
ack_resend : (v : View) (s : Segment) (now : Moment) → IsSound v → IsAck v s
    → resend_left (before v s) (acked v s) now ≡ resend_acknowledged (acked v s).resend (acked v s).sending.una false now
ack_resend v s now sound a =
    let b = before v s in
    let w = acked v s in
    let p = resend_told b w now in
    let rules = is_selective w.congestion.control in
    let other = if b.answers_probe then resend_answered w else w.resend in
    ap (λ t. excused_by t (resend_after b w now)) (silent_needed v s a.plain.silent)
    ∙ ap (λ g. resend_signalled p g w.congestion (outstanding w.sending)) (ack_signal v s sound a)
    ∙ ap (λ r. if rules && r then resend_ends p else p) (ap is_recovering (ack_window v s) ∙ a.whole)
    ∙ ap (λ r. if r then resend_ends p else p) (and_false rules)
    ∙ told_none b w now a.plain.silent
    ∙ ap (λ t. if t then resend_acknowledged w.resend w.sending.una (is_opening b.state) now else other) (ack_moved v s sound a)
    ∙ ap (λ t. resend_acknowledged w.resend w.sending.una (is_opening t) now) a.plain.state

ack_congestion : (v : View) (s : Segment) (now : Moment) → IsSound v → IsAck v s
    → congestion_left (before v s) (acked v s) now ≡ after_event (acked v s).congestion (NewAck (octets_of v s) (outstanding (acked v s).sending))
ack_congestion v s now sound a =
    let b = before v s in
    let w = acked v s in
    ap (λ t. given_back (gives_back t (resend_left b w now)) (congestion_after b w)) (silent_needed v s a.plain.silent)
    ∙ ap (λ g. after_signal w.congestion g w.sending.smss w.resend.syn_resent) (ack_signal v s sound a)

-- what is counted of it
abbrev pub counted : View → ℕ → Moment → View
counted w held now = record w {
  resend = resend_acknowledged w.resend w.sending.una false now;
  congestion = after_event w.congestion (NewAck (held - length w.sending.held) (outstanding w.sending));
}

pub ack_taken : (v : View) (s : Segment) (now : Moment) → IsSound v → IsAck v s
    → after_segment_at v s now ≡ clocked true (let w = counted (acked v s) (length v.sending.held) now in record w { alive = heard_now w.alive now }) now
ack_taken v s now sound a =
    let b = before v s in
    let w = acked v s in
    let alive = heard_now w.alive now in
    let x = record w { since = since_after b w now; resend = resend_left b w now; congestion = congestion_left b w now; alive = alive } in
    plain_comes v w s now a.plain (ack_heard v s sound a)
    ∙ ap (λ t. clocked t (guarded b x now) now) (ack_moved v s sound a)
    ∙ ap (λ y. clocked true y now) (unguarded b x now (read_draws_none v s (ack_read v s sound a) (next_asks_none v s sound.rnext a.plain.number)) (without_syn v s (inr a.plain.no_syn)) (next_asks_none v s sound.rnext a.plain.number))
    ∙ ap (λ at. clocked true (record w { since = at; resend = resend_left b w now; congestion = congestion_left b w now; alive = alive }) now) (no_wait v w s now a.plain (ack_state v s) (ack_owes v s))
    ∙ ap (λ (p : Resend). clocked true (record w { resend = p; congestion = congestion_left b w now; alive = alive }) now) (ack_resend v s now sound a)
    ∙ ap (λ (g : Window). clocked true (record w { resend = resend_acknowledged w.resend w.sending.una false now; congestion = g; alive = alive }) now) (ack_congestion v s now sound a)
