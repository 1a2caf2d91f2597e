-- An arriving segment is steps of the two channels of the connection that takes it.
use Rattle.std.proofs.Common.{◌≡◌, ℕ, ◌+◌, ◌<◌, ◌≤◌, ◌^◌, ◌%◌, ◌||◌, ◌&&◌, ◌==◌, nat_lt, max, not, if◌then◌else◌, Bool, true, false, List, length, Option, arith, refl, sym, ◌∙◌, ap, subst}
use Rattle.std.proofs.lemmas.Bool.{eqb-true, ltb-true, ltb-false}
use Rattle.tcp_segment.specs.Wire.{past}
use Rattle.tcp_segment.specs.Segment.{Segment}
use Rattle.tcp_state.specs.declared.state.State.{State}
use Rattle.tcp_state.specs.declared.state.State.TheVariants.{SynSent, SynReceived, Established, FinWait1, FinWait2, Closing, LastAck}
use Rattle.tcp_state.specs.View.{View, IsSound, is_opening, is_syn_sent, is_syn_received, is_closed, is_write_closed, is_read_closed, is_write_finished, awaits_fin_ack}
use Rattle.tcp_halves.specs.Halves.{Receiving as ReceivingHalf}
use Rattle.tcp_halves.specs.Stream.{outstanding, is_new_ack, after_acknowledged, receive_window, after_octets, stands_next, after_end}
use Rattle.tcp_halves.specs.Windows.{window_in, updates_window}
use Rattle.tcp_state.specs.Arrival.{after_segment, is_simultaneous_syn, after_simultaneous_syn, after_syn_ack, is_right_syn_ack, is_of_fin, is_acceptable_to, after_acceptable_segment, after_acknowledging_segment, after_ack, is_read_on, after_window, after_text, owing_ack, after_establishment, ends_by_syn, fin_acknowledged, after_new_ack, beyond_fin, beyond_end, is_receiving, counts_fin, after_fin, is_off}
use Rattle.stream_law.specs.Channel.{Channel, Sending, Open, Receiving, Waiting, Synchronised, IsAmong, IsRecent, number_of}
use Rattle.stream_law.specs.ChannelSteps.{Step, nothing_kept}
use Rattle.stream_law.specs.ChannelViews.{frame_of, Leads, stays, goes, sender_of, kept_at, receiver_of, receiving_of, SendsInto, ReceivesFrom, Follows, IsOfWidth, CameFrom}
use Rattle.stream_law.proofs.Kept.{unkept}
use Rattle.stream_law.proofs.Sizes.{held-fits, opening-holds-nothing, window-fits, window-has-places}
use Rattle.stream_law.proofs.ConnectionHears.{HasRoom, bounds_of, hears-octets, hears-fin, hears-ack, hears-fin_ack, hears-syn_ack, hears-syn}

one_step : (cap limit : ℕ) (c d : Channel) → Step cap limit c d → Leads cap limit c d
one_step cap limit c d step = goes c d d step (stays d)

-- nothing happened to either stream
nothing : (cap limit : ℕ) (v w : View) (c d : Channel) → w.state ≡ v.state → sender_of w ≡ sender_of v → receiving_of w ≡ receiving_of v → w.receiving.readable ≡ v.receiving.readable
    → SendsInto v c → ReceivesFrom v d → Follows cap limit w c d
nothing cap limit v w c d same_state same_sender same_receiving same_readable into from = record {
  into = c.sending;
  readable = d.readable;
  end_seen = d.end_seen;
  from = d.receiving;
  leads_into = stays c;
  leads_from = stays d;
  sends = record { sending = into.sending ∙ ap (λ s. Open s) (sym same_sender); closed = into.closed ∙ ap is_write_closed (sym same_state) };
  receives = record { receiving = from.receiving ∙ sym same_receiving; readable = from.readable ∙ sym same_readable; end_seen = from.end_seen ∙ ap is_read_closed (sym same_state) };
}

-- one of two views by a test
pub either : (P : View → Type 0) (test : Bool) (v w : View) → (test ≡ true → P v) → (test ≡ false → P w) → P (if test then v else w)
either P true v w if_true if_false = if_true refl
either P false v w if_true if_false = if_false refl

true_is_not_false : true ≡ false → ⊥
true_is_not_false e = cc

pub and_left : (a b : Bool) → (a && b) ≡ true → a ≡ true
and_left true b e = refl
and_left false b e = cc

pub and_right : (a b : Bool) → (a && b) ≡ true → b ≡ true
and_right true b e = e
and_right false b e = cc

syn_sent_opens : (t : State) → is_syn_sent t ≡ true → is_opening t ≡ true
syn_sent_opens SynSent e = refl
syn_sent_opens SynReceived e = refl
syn_sent_opens _ e = cc

syn_received_opens : (t : State) → is_syn_received t ≡ true → is_opening t ≡ true
syn_received_opens SynSent e = refl
syn_received_opens SynReceived e = refl
syn_received_opens _ e = cc

past_opening : (t : State) → is_syn_sent t ≡ false → is_syn_received t ≡ false → is_opening t ≡ false
past_opening SynSent a b = cc
past_opening SynReceived a b = cc
past_opening _ a b = refl

opening_unfinished : (t : State) → is_opening t ≡ true → is_write_finished t ≡ false
opening_unfinished SynSent e = refl
opening_unfinished SynReceived e = refl
opening_unfinished _ e = cc

-- nothing is closed before the connection is opened
opening_plain : (t : State) → is_opening t ≡ true → (is_write_closed t ≡ false) × (is_read_closed t ≡ false)
opening_plain SynSent e = (refl, refl)
opening_plain SynReceived e = (refl, refl)
opening_plain _ e = cc

-- our FIN's acknowledgement leaves both sides as closed as they were
beyond_fin_closed : (t : State) → awaits_fin_ack t ≡ true → (is_write_closed (beyond_fin t) ≡ is_write_closed t) × (is_read_closed (beyond_fin t) ≡ is_read_closed t)
beyond_fin_closed FinWait1 e = (refl, refl)
beyond_fin_closed Closing e = (refl, refl)
beyond_fin_closed LastAck e = (refl, refl)
beyond_fin_closed _ e = cc

beyond_fin_acked : (t : State) → awaits_fin_ack t ≡ true → (is_write_finished (beyond_fin t) ≡ true) × (is_opening (beyond_fin t) ≡ is_opening t) × (is_syn_sent (beyond_fin t) ≡ false)
beyond_fin_acked FinWait1 e = (refl, refl, refl)
beyond_fin_acked Closing e = (refl, refl, refl)
beyond_fin_acked LastAck e = (refl, refl, refl)
beyond_fin_acked _ e = cc

-- the peer's FIN closes its side and leaves ours
beyond_end_closed : (t : State) → is_receiving t ≡ true → (is_write_closed (beyond_end t) ≡ is_write_closed t) × (is_read_closed (beyond_end t) ≡ true) × (is_read_closed t ≡ false) × (is_syn_sent (beyond_end t) ≡ false)
beyond_end_closed Established e = (refl, refl, refl, refl)
beyond_end_closed FinWait1 e = (refl, refl, refl, refl)
beyond_end_closed FinWait2 e = (refl, refl, refl, refl)
beyond_end_closed _ e = cc

beyond_end_acked : (t : State) → is_receiving t ≡ true → (is_write_finished (beyond_end t) ≡ is_write_finished t) × (is_opening (beyond_end t) ≡ is_opening t)
beyond_end_acked Established e = (refl, refl)
beyond_end_acked FinWait1 e = (refl, refl)
beyond_end_acked FinWait2 e = (refl, refl)
beyond_end_acked _ e = cc

-- in its opening a connection has at most its SYN outstanding, and past it no more than it holds and its FIN
opening_flight : (v : View) → IsSound v → is_opening v.state ≡ true → outstanding v.sending ≤ 1
opening_flight v sound opening =
    let none = opening-holds-nothing v sound opening in
    let most : outstanding v.sending ≤ length v.sending.held + 1 = subst (λ b. outstanding v.sending ≤ length v.sending.held + (if b || awaits_fin_ack v.state then 1 else 0)) opening sound.flight in
    omega (arith, none, most)

pub opened_flight : (v : View) → IsSound v → is_opening v.state ≡ false → outstanding v.sending ≤ length v.sending.held + number_of (awaits_fin_ack v.state)
opened_flight v sound opened = subst (λ b. outstanding v.sending ≤ length v.sending.held + (if b || awaits_fin_ack v.state then 1 else 0)) opened sound.flight

short_flight : (v : View) → IsSound v → is_opening v.state ≡ false → outstanding v.sending < 2 ^ 31
short_flight v sound opened = let held = held-fits v sound in let most = opened_flight v sound opened in let fin = one_at_most (awaits_fin_ack v.state) in omega (arith, held, most, fin)
  where
    one_at_most : (b : Bool) → number_of b ≤ 1
    one_at_most true = omega arith
    one_at_most false = omega arith

-- an acknowledgement of what is outstanding reaches past what is held only where it is of our FIN
within_held : (v : View) (ack : ℕ) → IsSound v → is_opening v.state ≡ false → is_new_ack v.sending ack ≡ true → is_of_fin v ack ≡ false → past ack v.sending.una ≤ length v.sending.held
within_held v ack sound opened new none =
    reaches (awaits_fin_ack v.state) (opened_flight v sound opened) none
  where
    reaches : (waits : Bool) → outstanding v.sending ≤ length v.sending.held + number_of waits → (waits && nat_lt (length v.sending.held) (past ack v.sending.una)) ≡ false → past ack v.sending.una ≤ length v.sending.held
    reaches true most e = ltb-false (length v.sending.held) (past ack v.sending.una) e
    reaches false most e = let bounds = bounds_of v.sending ack new in omega (arith, bounds.1, most)

-- no window is advertised in SYN-SENT, so that nothing is kept
unheard_keeps : (v : View) → IsSound v → is_syn_sent v.state ≡ true → kept_at v.receiving.kept ≡ nothing_kept
unheard_keeps v sound waiting =
    let shut : receive_window v.receiving ≡ 0 = eqb-true (receive_window v.receiving) 0 (not_not (receive_window v.receiving == 0) (sym (ap (λ b. b && not (receive_window v.receiving == 0)) waiting) ∙ sound.untold)) in
    unkept v.receiving.kept (λ i o e. let below = sound.kept i o e in omega (arith, shut, below))
  where
    not_not : (b : Bool) → not b ≡ false → b ≡ true
    not_not true e = refl
    not_not false e = cc

-- the peer's SYN with this number finds nothing kept
at_syn : (v : View) (number : ℕ) → IsSound v → is_syn_sent v.state ≡ true
    → Synchronised (record { rnext = (number + 1) % 2 ^ 32; kept = nothing_kept }) ≡ Synchronised (record { rnext = (number + 1) % 2 ^ 32; kept = kept_at v.receiving.kept })
at_syn v number sound waiting = ap (λ (kept : ℕ → Option ℕ). Synchronised (record { rnext = (number + 1) % 2 ^ 32; kept = kept })) (sym (unheard_keeps v sound waiting))

-- a SYN that acknowledges ours, in SYN-SENT
arrives-syn_ack : (cap limit : ℕ) (v : View) (s : Segment) (c d : Channel) → IsSound v → IsOfWidth s → is_syn_sent v.state ≡ true → SendsInto v c → ReceivesFrom v d → CameFrom limit s c d
    → Follows cap limit (after_syn_ack v s) c d
arrives-syn_ack cap limit v s c d sound fits waiting into from came =
    either (λ w. Follows cap limit w c d) (is_right_syn_ack v s) _ v
    (λ right.
    let flags = and_left (s.flags.syn && s.flags.ack) (is_new_ack v.sending s.acknowledgement) right in
    let syn = and_left s.flags.syn s.flags.ack flags in
    let ack = and_right s.flags.syn s.flags.ack flags in
    let new = and_right (s.flags.syn && s.flags.ack) (is_new_ack v.sending s.acknowledgement) right in
    let opening = syn_sent_opens v.state waiting in
    record {
      into = Open (record (sender_of v) { una = v.sending.nxt; syn_acked = true; fin_acked = false });
      readable = d.readable;
      end_seen = d.end_seen;
      from = Synchronised (record { rnext = (s.number + 1) % 2 ^ 32; kept = nothing_kept });
      leads_into = one_step cap limit c (record c { sending = Open (record (sender_of v) { una = v.sending.nxt; syn_acked = true; fin_acked = false }) })
          (hears-syn_ack cap limit v c s came.acked_at opening (opening_unfinished v.state opening) (opening_flight v sound opening) sound.una sound.nxt fits.acknowledgement new into (came.ack ack) came.ack_recent);
      leads_from = one_step cap limit d (record d { receiving = Synchronised (record { rnext = (s.number + 1) % 2 ^ 32; kept = nothing_kept }) })
          (hears-syn cap limit v d s came.sent_at waiting syn from came.frame);
      sends = record { sending = refl; closed = into.closed ∙ (opening_plain v.state opening).0 };
      receives = record { receiving = at_syn v s.number sound waiting; readable = from.readable; end_seen = from.end_seen ∙ (opening_plain v.state opening).1 };
    })
    (λ wrong. nothing cap limit v v c d refl refl refl refl into from)

-- the SYN of a peer that opens at the same time, in SYN-SENT: our own SYN stays as it was, sent or not, and waits to be acknowledged
arrives-simultaneous_syn : (cap limit : ℕ) (v : View) (s : Segment) (c d : Channel) → IsSound v → is_syn_sent v.state ≡ true → s.flags.syn ≡ true → SendsInto v c → ReceivesFrom v d → CameFrom limit s c d
    → Follows cap limit (after_simultaneous_syn v s) c d
arrives-simultaneous_syn cap limit v s c d sound waiting syn into from came =
    let opening = syn_sent_opens v.state waiting in
    record {
      into = c.sending;
      readable = d.readable;
      end_seen = d.end_seen;
      from = Synchronised (record { rnext = (s.number + 1) % 2 ^ 32; kept = nothing_kept });
      leads_into = stays c;
      leads_from = one_step cap limit d (record d { receiving = Synchronised (record { rnext = (s.number + 1) % 2 ^ 32; kept = nothing_kept }) })
          (hears-syn cap limit v d s came.sent_at waiting syn from came.frame);
      sends = record {
        sending = into.sending
            ∙ (ap (λ b. Open (record (sender_of v) { syn_acked = not b })) opening ∙ ap (λ b. Open (record (sender_of v) { syn_acked = false; fin_acked = b })) (opening_unfinished v.state opening));
        closed = into.closed ∙ (opening_plain v.state opening).0;
      };
      receives = record { receiving = at_syn v s.number sound waiting; readable = from.readable; end_seen = from.end_seen ∙ (opening_plain v.state opening).1 };
    }

-- the sending side of a connection after an acknowledgement
record Acknowledged (cap limit : ℕ) (v w : View) (c : Channel) : Type 0 where
  pub into : Sending
  pub leads : Leads cap limit c (record c { sending = into })
  pub sends : SendsInto w (record c { sending = into })
  pub receiving : w.receiving ≡ v.receiving
  pub synchronised : is_syn_sent w.state ≡ false
  pub end_seen : is_read_closed w.state ≡ is_read_closed v.state

unacknowledged : (cap limit : ℕ) (v w : View) (c : Channel) → w.state ≡ v.state → sender_of w ≡ sender_of v → w.receiving ≡ v.receiving → is_syn_sent w.state ≡ false → SendsInto v c → Acknowledged cap limit v w c
unacknowledged cap limit v w c same_state same_sender same_receiving synchronised into = record {
  into = c.sending;
  leads = stays c;
  sends = record { sending = into.sending ∙ ap (λ s. Open s) (sym same_sender); closed = into.closed ∙ ap is_write_closed (sym same_state) };
  receiving = same_receiving;
  synchronised = synchronised;
  end_seen = ap is_read_closed same_state;
}

arrives-ack : (cap limit : ℕ) (v : View) (s : Segment) (c d : Channel) → IsSound v → IsOfWidth s → is_syn_sent v.state ≡ false → s.flags.ack ≡ true → SendsInto v c → CameFrom limit s c d
    → Acknowledged cap limit v (after_ack v s.acknowledgement) c
arrives-ack cap limit v s c d sound fits past_syn ack into came =
    let P : View → Type 0 = λ w. Acknowledged cap limit v w c in
    let same = unacknowledged cap limit v v c refl refl refl past_syn into in
    let owes = unacknowledged cap limit v (owing_ack v) c refl refl refl past_syn into in
    either P (is_syn_received v.state) _ _
    (λ received. either P (is_new_ack v.sending s.acknowledgement) (after_establishment v) v
    (λ new. let opening = syn_received_opens v.state received in record {
      into = Open (record (sender_of v) { una = v.sending.nxt; syn_acked = true; fin_acked = false });
      leads = one_step cap limit c (record c { sending = Open (record (sender_of v) { una = v.sending.nxt; syn_acked = true; fin_acked = false }) })
          (hears-syn_ack cap limit v c s came.acked_at opening (opening_unfinished v.state opening) (opening_flight v sound opening) sound.una sound.nxt fits.acknowledgement new into (came.ack ack) came.ack_recent);
      sends = record { sending = refl; closed = into.closed ∙ (opening_plain v.state opening).0 };
      receiving = refl;
      synchronised = refl;
      end_seen = sym (opening_plain v.state opening).1;
    })
    (λ old. same))
    (λ unreceived. either P (is_new_ack v.sending s.acknowledgement) _ _
    (λ new. let opened = past_opening v.state past_syn unreceived in either P (is_of_fin v s.acknowledgement) (fin_acknowledged (after_new_ack v s.acknowledgement)) (after_new_ack v s.acknowledgement)
    (λ fin.
    let waits = and_left (awaits_fin_ack v.state) (nat_lt (length v.sending.held) (past s.acknowledgement v.sending.una)) fin in
    let reach = ltb-true (length v.sending.held) (past s.acknowledgement v.sending.una) (and_right (awaits_fin_ack v.state) (nat_lt (length v.sending.held) (past s.acknowledgement v.sending.una)) fin) in
    let beyond = beyond_fin_acked v.state waits in
    let plain = record (sender_of v) { held = (after_acknowledged v.sending s.acknowledgement).held; una = (after_acknowledged v.sending s.acknowledgement).una; fin_acked = true } in
    record {
      into = Open plain;
      leads = one_step cap limit c (record c { sending = Open plain })
          (hears-fin_ack cap limit v c s came.acked_at opened reach (short_flight v sound opened) new into (came.ack ack) came.ack_recent);
      sends = record {
        sending = ap (λ b. Open (record plain { syn_acked = not b })) (sym beyond.1) ∙ ap (λ b. Open (record plain { syn_acked = not (is_opening (beyond_fin v.state)); fin_acked = b })) (sym beyond.0);
        closed = into.closed ∙ sym (beyond_fin_closed v.state waits).0;
      };
      receiving = refl;
      synchronised = beyond.2;
      end_seen = (beyond_fin_closed v.state waits).1;
    })
    (λ octets. record {
      into = Open (record (sender_of v) { held = (after_acknowledged v.sending s.acknowledgement).held; una = (after_acknowledged v.sending s.acknowledgement).una });
      leads = one_step cap limit c (record c { sending = Open (record (sender_of v) { held = (after_acknowledged v.sending s.acknowledgement).held; una = (after_acknowledged v.sending s.acknowledgement).una }) })
          (hears-ack cap limit v c s came.acked_at opened (within_held v s.acknowledgement sound opened new octets) (held-fits v sound) new into (came.ack ack) came.ack_recent);
      sends = record { sending = refl; closed = into.closed };
      receiving = refl;
      synchronised = past_syn;
      end_seen = refl;
    }))
    (λ old. either P (is_off v s.acknowledgement) (owing_ack v) v (λ beyond. owes) (λ within. same)))

-- the receiving side of a connection after octets or the FIN
record Heard (cap limit : ℕ) (v w : View) (d : Channel) : Type 0 where
  pub readable : List ℕ
  pub end_seen : Bool
  pub from : Receiving
  pub leads : Leads cap limit d (record d { readable = readable; end_seen = end_seen; receiving = from })
  pub receives : ReceivesFrom w (record d { readable = readable; end_seen = end_seen; receiving = from })
  pub sender : sender_of w ≡ sender_of v
  pub closed : is_write_closed w.state ≡ is_write_closed v.state
  pub synchronised : is_syn_sent w.state ≡ false

receiving_past : (v : View) → is_syn_sent v.state ≡ false → receiving_of v ≡ Synchronised (receiver_of v.receiving)
receiving_past v past_syn = ap (λ b. if b then Waiting else Synchronised (receiver_of v.receiving)) past_syn

unheard : (cap limit : ℕ) (v : View) (d : Channel) → is_syn_sent v.state ≡ false → ReceivesFrom v d → Heard cap limit v v d
unheard cap limit v d past_syn from = record {
  readable = d.readable;
  end_seen = d.end_seen;
  from = d.receiving;
  leads = stays d;
  receives = from;
  sender = refl;
  closed = refl;
  synchronised = past_syn;
}

arrives-text : (cap limit : ℕ) (v : View) (s : Segment) (c d : Channel) → v.receiving.rnext < 2 ^ 32 → HasRoom v.receiving → IsOfWidth s → is_syn_sent v.state ≡ false → ReceivesFrom v d → CameFrom limit s c d
    → Heard cap limit v (after_text v s) d
arrives-text cap limit v s c d rnext room fits past_syn from came =
    let heard = after_octets v.receiving s.number s.octets in
    either (λ w. Heard cap limit v w d) ((length s.octets == 0) || not (is_receiving v.state)) v _
    (λ none. unheard cap limit v d past_syn from)
    (λ some. record {
      readable = heard.readable;
      end_seen = d.end_seen;
      from = Synchronised (receiver_of heard);
      leads = one_step cap limit d (record d { readable = heard.readable; receiving = Synchronised (receiver_of heard) })
          (hears-octets cap limit v d s came.sent_at past_syn (omega (arith, fits.octets)) fits.number rnext room from came.frame came.frame_recent);
      receives = record { receiving = sym (ap (λ b. if b then Waiting else Synchronised (receiver_of heard)) past_syn); readable = refl; end_seen = from.end_seen };
      sender = refl;
      closed = refl;
      synchronised = past_syn;
    })

arrives-fin : (cap limit : ℕ) (v : View) (s : Segment) (d : Channel) (sent_at : ℕ) → v.receiving.rnext < 2 ^ 32 → IsOfWidth s → is_syn_sent v.state ≡ false → ReceivesFrom v d
    → IsAmong (frame_of s sent_at) d.frames → IsRecent limit d.written sent_at → Heard cap limit v (after_fin v s) d
arrives-fin cap limit v s d sent_at rnext fits past_syn from among recent =
    let w = record v { state = beyond_end v.state; receiving = after_end v.receiving; owes_ack = true } in
    either (λ w. Heard cap limit v w d) (counts_fin v s) w _
    (λ counts.
    let first = and_left (s.flags.fin && is_receiving v.state) (stands_next v.receiving ((s.number + length s.octets) % 2 ^ 32)) counts in
    let next = and_right (s.flags.fin && is_receiving v.state) (stands_next v.receiving ((s.number + length s.octets) % 2 ^ 32)) counts in
    let fin = and_left s.flags.fin (is_receiving v.state) first in
    let takes = and_right s.flags.fin (is_receiving v.state) first in
    let closes = beyond_end_closed v.state takes in
    let acked = beyond_end_acked v.state takes in
    record {
      readable = d.readable;
      end_seen = true;
      from = Synchronised (receiver_of (after_end v.receiving));
      leads = one_step cap limit d (record d { end_seen = true; receiving = Synchronised (receiver_of (after_end v.receiving)) })
          (hears-fin cap limit v d s sent_at past_syn fin next fits.number rnext (from.end_seen ∙ closes.2) from among recent);
      receives = record { receiving = sym (receiving_past w closes.3); readable = from.readable; end_seen = sym closes.1 };
      sender = ap (λ b. record (sender_of v) { syn_acked = not b; fin_acked = is_write_finished (beyond_end v.state) }) acked.1 ∙ ap (λ b. record (sender_of v) { fin_acked = b }) acked.0;
      closed = closes.0;
      synchronised = closes.3;
    })
    (λ none. either (λ w. Heard cap limit v w d) (s.flags.fin && is_receiving v.state) (owing_ack v) v
    (λ ahead. owing (unheard cap limit v d past_syn from))
    (λ none. unheard cap limit v d past_syn from))
  where
    owing : Heard cap limit v v d → Heard cap limit v (owing_ack v) d
    owing h = record {
      readable = h.readable;
      end_seen = h.end_seen;
      from = h.from;
      leads = h.leads;
      receives = record { receiving = h.receives.receiving; readable = h.receives.readable; end_seen = h.receives.end_seen };
      sender = h.sender;
      closed = h.closed;
      synchronised = h.synchronised;
    }

leads_on : (cap limit : ℕ) (c d e : Channel) → Leads cap limit c d → Leads cap limit d e → Leads cap limit c e
leads_on cap limit _ _ e (stays c) more = more
leads_on cap limit _ _ e (goes c b d step first) more = goes c b e step (leads_on cap limit b d e first more)

-- the octets, and then the FIN
arrives-stream : (cap limit : ℕ) (v : View) (s : Segment) (c d : Channel) → v.receiving.rnext < 2 ^ 32 → HasRoom v.receiving → IsOfWidth s → is_syn_sent v.state ≡ false → ReceivesFrom v d → CameFrom limit s c d
    → Heard cap limit v (after_fin (after_text v s) s) d
arrives-stream cap limit v s c d rnext room fits past_syn from came =
    let t = arrives-text cap limit v s c d rnext room fits past_syn from came in
    let e = record d { readable = t.readable; end_seen = t.end_seen; receiving = t.from } in
    let f = arrives-fin cap limit (after_text v s) s e came.sent_at text_fits fits t.synchronised t.receives came.frame came.frame_recent in
    record {
      readable = f.readable;
      end_seen = f.end_seen;
      from = f.from;
      leads = leads_on cap limit d e (record d { readable = f.readable; end_seen = f.end_seen; receiving = f.from }) t.leads f.leads;
      receives = record { receiving = f.receives.receiving; readable = f.receives.readable; end_seen = f.receives.end_seen };
      sender = f.sender ∙ t.sender;
      closed = f.closed ∙ t.closed;
      synchronised = f.synchronised;
    }
  where
    text_fits : let w = after_text v s in w.receiving.rnext < 2 ^ 32
    text_fits = either (λ w. w.receiving.rnext < 2 ^ 32) ((length s.octets == 0) || not (is_receiving v.state)) v _ (λ none. rnext) (λ some. omega arith)

-- the window that is told is no part of a channel
window_told : (v : View) (s : Segment) → sender_of v ≡ sender_of (after_window v s)
window_told v s = told (updates_window v.sending s.number s.acknowledgement)
  where
    told : (tells : Bool) → sender_of v ≡ sender_of (record v { sending = if tells then record v.sending { window = window_in v.sending s.window; max_window = max v.sending.max_window (window_in v.sending s.window); wl1 = s.number; wl2 = s.acknowledgement } else v.sending })
    told true = refl
    told false = refl

-- the window advertised lies in the room of the buffer
room_of : (v : View) → IsSound v → HasRoom v.receiving
room_of v sound = record { window = window-fits v sound; places = window-has-places v sound }

-- an acceptable segment with ACK and without SYN
arrives-acceptable : (cap limit : ℕ) (v : View) (s : Segment) (c d : Channel) → IsSound v → IsOfWidth s → is_syn_sent v.state ≡ false → s.flags.ack ≡ true → SendsInto v c → ReceivesFrom v d
    → CameFrom limit s c d → Follows cap limit (after_acknowledging_segment v s) c d
arrives-acceptable cap limit v s c d sound fits past_syn ack into from came =
    let a = arrives-ack cap limit v s c d sound fits past_syn ack into came in
    let acked = after_ack v s.acknowledgement in
    let told = after_window acked s in
    let same_receiving : receiving_of acked ≡ receiving_of v =
    receiving_past acked a.synchronised ∙ (ap (λ (y : ReceivingHalf). Synchronised (receiver_of y)) a.receiving ∙ sym (receiving_past v past_syn)) in
    let same_readable : acked.receiving.readable ≡ v.receiving.readable = ap (λ (y : ReceivingHalf). y.readable) a.receiving in
    let from' : ReceivesFrom told d = record { receiving = from.receiving ∙ sym same_receiving; readable = from.readable ∙ sym same_readable; end_seen = from.end_seen ∙ sym a.end_seen } in
    let rnext : told.receiving.rnext < 2 ^ 32 = subst (λ (y : ReceivingHalf). y.rnext < 2 ^ 32) (sym a.receiving) sound.rnext in
    let room : HasRoom told.receiving = subst HasRoom (sym a.receiving) (room_of v sound) in
    either (λ w. Follows cap limit w c d) (is_read_on v s.acknowledgement) (after_fin (after_text told s) s) acked
    (λ on. let t = arrives-stream cap limit told s c d rnext room fits a.synchronised from' came in record {
      into = a.into;
      readable = t.readable;
      end_seen = t.end_seen;
      from = t.from;
      leads_into = a.leads;
      leads_from = t.leads;
      sends = record { sending = a.sends.sending ∙ ap (λ x. Open x) (window_told acked s ∙ sym t.sender); closed = a.sends.closed ∙ sym t.closed };
      receives = t.receives;
    })
    (λ off. record {
      into = a.into;
      readable = d.readable;
      end_seen = d.end_seen;
      from = d.receiving;
      leads_into = a.leads;
      leads_from = stays d;
      sends = a.sends;
      receives = record { receiving = from.receiving ∙ sym same_receiving; readable = from.readable ∙ sym same_readable; end_seen = from.end_seen ∙ sym a.end_seen };
    })

-- a segment, whatever it is
pub arrives : (cap limit : ℕ) (v : View) (s : Segment) (c d : Channel) → IsSound v → IsOfWidth s → s.flags.rst ≡ false → SendsInto v c → ReceivesFrom v d → CameFrom limit s c d → Follows cap limit (after_segment v s) c d
arrives cap limit v s c d sound fits unreset into from came =
    let P : View → Type 0 = λ w. Follows cap limit w c d in
    let same = nothing cap limit v v c d refl refl refl refl into from in
    let owes = nothing cap limit v (owing_ack v) c d refl refl refl refl into from in
    either P (is_closed v.state) v _
    (λ ignored. same)
    (λ read. either P s.flags.rst _ _
    (λ rst. let bad : true ≡ false = sym rst ∙ unreset in absurd (true_is_not_false bad))
    (λ no_rst. either P (is_syn_sent v.state) _ _
    (λ waiting. either P (is_simultaneous_syn v s) (after_simultaneous_syn v s) (after_syn_ack v s)
    (λ opens. arrives-simultaneous_syn cap limit v s c d sound waiting (and_left s.flags.syn (not s.flags.ack) opens) into from came)
    (λ other. arrives-syn_ack cap limit v s c d sound fits waiting into from came))
    (λ past_syn. either P (is_acceptable_to v s) (after_acceptable_segment v s) (owing_ack v)
    (λ accepted. either P s.flags.syn _ _
    (λ syn. either P (ends_by_syn v s) v (owing_ack v) (λ ends. same) (λ stays. owes))
    (λ no_syn. either P s.flags.ack (after_acknowledging_segment v s) v
    (λ ack. arrives-acceptable cap limit v s c d sound fits past_syn ack into from came)
    (λ no_ack. same)))
    (λ refused. owes))))
