-- A segment that arrives is steps of the two channels; where all is closed it is none.
use Rattle.std.proofs.Common.{◌≡◌, ℕ, ◌+◌, ◌<◌, ◌||◌, ◌&&◌, ◌==◌, not, Bool, true, false, length, refl, sym, ◌∙◌, subst}
use Rattle.tcp_segment.specs.Segment.{Segment}
use Rattle.tcp_state.specs.declared.state.State.{State}
use Rattle.tcp_state.specs.declared.state.State.TheVariants.{Established, FinWait1, FinWait2, Closing, LastAck}
use Rattle.tcp_state.specs.View.{View, IsSound, is_closed, is_listening, is_syn_sent, is_syn_received}
use Rattle.tcp_halves.specs.Stream.{is_new_ack}
use Rattle.tcp_state.specs.Arrival.{after_segment, fate, is_simultaneous_syn, after_simultaneous_syn, after_syn_ack, is_right_syn_ack, is_of_fin, is_acceptable_to, after_acceptable_segment, after_acknowledging_segment, after_ack, is_read_on, after_window, after_text, after_fin, counts_fin, is_receiving, owing_ack, after_establishment, ends_by_syn, fin_acknowledged, after_new_ack, beyond_fin, beyond_end, is_off}
use Rattle.stream_law.specs.Channel.{Channel, IsAmong}
use Rattle.stream_law.specs.ChannelViews.{CameFrom}
use Rattle.stream_law.specs.Pairing.{Present, Emission, Pairing, IsTimely, remains}
use Rattle.stream_law.proofs.ConnectionArrival.{arrives, either}
use Rattle.stream_law.proofs.PairingInvariant.{Connected, Shown, runs_on, other_stays, connected, living, receives, remains-fits}
use Rattle.stream_law.proofs.PairingEndings.{resting}

-- no segment makes a connection listen
unlistening : (v : View) (s : Segment) → is_listening v.state ≡ false → s.flags.rst ≡ false → is_listening (after_segment v s).state ≡ false
unlistening v s l unreset =
    let P : View → Type 0 = λ w. is_listening w.state ≡ false in
    either P (is_closed v.state) v _
    (λ ignored. l)
    (λ read. either P s.flags.rst _ _
    (λ rst. let bad : true ≡ false = sym rst ∙ unreset in cc)
    (λ no_rst. either P (is_syn_sent v.state) _ _
    (λ waiting. either P (is_simultaneous_syn v s) (after_simultaneous_syn v s) (after_syn_ack v s) (λ opens. refl) (λ other. either P (is_right_syn_ack v s) _ v (λ right. refl) (λ wrong. l)))
    (λ past_syn. either P (is_acceptable_to v s) (after_acceptable_segment v s) (owing_ack v)
    (λ accepted. either P s.flags.syn _ _
    (λ syn. either P (ends_by_syn v s) v (owing_ack v) (λ ends. l) (λ stays. l))
    (λ no_syn. either P s.flags.ack (after_acknowledging_segment v s) v (λ ack. acceptable) (λ no_ack. l)))
    (λ refused. l))))
  where
    beyond : (t : State) → is_listening t ≡ false → is_listening (beyond_fin t) ≡ false
    beyond FinWait1 e = refl
    beyond Closing e = refl
    beyond LastAck e = refl
    beyond _ e = e

    past_end : (t : State) → is_listening t ≡ false → is_listening (beyond_end t) ≡ false
    past_end Established e = refl
    past_end FinWait1 e = refl
    past_end FinWait2 e = refl
    past_end _ e = e

    acked : is_listening (after_ack v s.acknowledgement).state ≡ false
    acked =
        let P : View → Type 0 = λ w. is_listening w.state ≡ false in
        either P (is_syn_received v.state) _ _
        (λ received. either P (is_new_ack v.sending s.acknowledgement) (after_establishment v) v (λ new. refl) (λ old. l))
        (λ unreceived. either P (is_new_ack v.sending s.acknowledgement) _ _
        (λ new. either P (is_of_fin v s.acknowledgement) (fin_acknowledged (after_new_ack v s.acknowledgement)) (after_new_ack v s.acknowledgement) (λ fin. beyond v.state l) (λ octets. l))
        (λ old. either P (is_off v s.acknowledgement) (owing_ack v) v (λ beyond. l) (λ within. l)))

    with_end : (w : View) → is_listening w.state ≡ false → is_listening (after_fin (after_text w s) s).state ≡ false
    with_end w e =
        let P : View → Type 0 = λ w. is_listening w.state ≡ false in
        let texted : P (after_text w s) = either P ((length s.octets == 0) || not (is_receiving w.state)) w _ (λ none. e) (λ some. e) in
        either P (counts_fin (after_text w s) s) _ _ (λ counts. past_end (after_text w s).state texted)
        (λ none. either P (s.flags.fin && is_receiving (after_text w s).state) (owing_ack (after_text w s)) (after_text w s) (λ ahead. texted) (λ no_fin. texted))

    acceptable : is_listening (after_acknowledging_segment v s).state ≡ false
    acceptable =
        let P : View → Type 0 = λ w. is_listening w.state ≡ false in
        either P (is_read_on v s.acknowledgement) _ (after_ack v s.acknowledgement) (λ on. with_end (after_window (after_ack v s.acknowledgement) s) acked) (λ off. acked)

-- in a connection that is not CLOSED
hears-open : (cap limit : ℕ) (p : Pairing) (v : View) (e : Emission) → p.own.connection ≡ Present v → IsSound v → IsAmong e p.received → IsTimely limit p e → Shown cap limit p → is_closed v.state ≡ false
    → Shown cap limit (record p { own = record p.own { connection = remains (fate v e.segment) (after_segment v e.segment) } })
hears-open cap limit p v e is sound among timely h unclosed =
    let s = e.segment in
    let k = connected p.own.connection v h.into h.from is h.own.connection in
    let q = h.received e among in
    let came : CameFrom limit s h.into h.from = record {
      sent_at = e.own_written;
      acked_at = e.other_written;
      frame = q.frame;
      frame_recent = subst (λ l. length l < e.own_written + limit) (sym h.other.written) timely.other;
      ack = q.ack;
      ack_recent = subst (λ l. length l < e.other_written + limit) (sym h.own.written) timely.own;
    } in
    let f = arrives cap limit v s h.into h.from sound q.width q.unreset (k.sends unclosed) (receives v h.into h.from unclosed k) came in
    let into' : Channel = record h.into { sending = f.into } in
    let from' : Channel = record h.from { readable = f.readable; end_seen = f.end_seen; receiving = f.from } in
    record {
      into = into';
      from = from';
      runs_into = runs_on cap limit h.into into' h.runs_into f.leads_into;
      runs_from = runs_on cap limit h.from from' h.runs_from f.leads_from;
      own = record {
        written = h.own.written;
        closed = h.own.closed;
        read = h.own.read;
        ended = h.own.ended;
        connection = remains-fits (fate v s) (after_segment v s) into' from' (living (after_segment v s) into' from' (unlistening v s k.unlistening q.unreset) f.sends f.receives);
      };
      other = record {
        written = h.other.written;
        closed = h.other.closed;
        read = h.other.read;
        ended = h.other.ended;
        connection = other_stays p.other.connection h.from h.into from' into' refl refl refl refl refl refl h.other.connection;
      };
      sent = λ e among. let r = h.sent e among in record { frame = r.frame; ack = r.ack; width = r.width; unreset = r.unreset };
      received = λ e among. let r = h.received e among in record { frame = r.frame; ack = r.ack; width = r.width; unreset = r.unreset };
    }

pub moves-hears : (cap limit : ℕ) (p : Pairing) (v : View) (e : Emission) → p.own.connection ≡ Present v → IsSound v → IsAmong e p.received → IsTimely limit p e → Shown cap limit p
    → Shown cap limit (record p { own = record p.own { connection = remains (fate v e.segment) (after_segment v e.segment) } })
moves-hears cap limit p v e is sound among timely h =
    let k = connected p.own.connection v h.into h.from is h.own.connection in
    by_test (is_closed v.state)
    (λ closed. resting cap limit p (remains (fate v e.segment) (after_segment v e.segment)) h (remains-fits (fate v e.segment) (after_segment v e.segment) h.into h.from
    (either (λ w. Connected w h.into h.from) (is_closed v.state) v _ (λ ignored. k) (λ unclosed. let bad : true ≡ false = sym closed ∙ unclosed in cc))))
    (λ unclosed. hears-open cap limit p v e is sound among timely h unclosed)
  where
    by_test : {A : Type 0} (b : Bool) → (b ≡ true → A) → (b ≡ false → A) → A
    by_test true if_true if_false = if_true refl
    by_test false if_true if_false = if_false refl
