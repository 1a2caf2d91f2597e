-- A segment that goes out is steps of the two channels.
use Rattle.std.proofs.Common.{◌≡◌, ℕ, ◌+◌, ◌<◌, ◌≤◌, ◌||◌, not, if◌then◌else◌, Bool, true, false, List, ◌∷◌, length, arith, refl, sym, ◌∙◌, ap, subst}
use Rattle.tcp_segment.specs.Segment.{Segment}
use Rattle.tcp_segment.specs.Sent.{sent_segment}
use Rattle.tcp_state.specs.declared.emission.Due.{Due}
use Rattle.tcp_state.specs.declared.emission.Due.TheVariants.{Rst, Syn, Text, Probe, Ack as AckAlone, KeepAlive}
use Rattle.tcp_state.specs.declared.emission.Stretch.{Stretch}
use Rattle.clock.specs.declared.moment.Moment.{Moment}
use Rattle.tcp_state.specs.declared.state.State.{State}
use Rattle.tcp_state.specs.declared.state.State.TheVariants.{Closed, SynSent, SynReceived, Established, FinWait1, FinWait2, CloseWait, Closing, LastAck}
use Rattle.tcp_state.specs.View.{View, IsSound, is_opening, is_syn_sent, is_syn_received, is_closed, is_listening, is_write_closed, is_read_closed, is_write_finished, awaits_fin_ack}
use Rattle.tcp_halves.specs.Halves.{Sending as SendingHalf}
use Rattle.tcp_halves.specs.Stream.{outstanding, after_sent, after_probed}
use Rattle.tcp_state.specs.Alive.{may_rest}
use Rattle.tcp_state.specs.Due.{MayGoOut, IsHeld, probe_stretch, end_of, flags_of, head_of, octets_of, after_emitted}
use Rattle.stream_law.specs.Channel.{Channel, Ack, Open, IsAmong, here, there}
use Rattle.stream_law.specs.ChannelSteps.{Step, steps}
use Rattle.stream_law.specs.ChannelViews.{Leads, stays, goes, sender_of, receiving_of, SendsInto, ReceivesFrom, IsOfWidth, frame_of, ack_of}
use Rattle.stream_law.specs.Pairing.{Present, Emission, Pairing, with_connection}
use Rattle.stream_law.proofs.Sizes.{opening-holds-nothing, finished-holds-nothing}
use Rattle.stream_law.proofs.ConnectionSends.{emits-syn, emits-stretch, emits-probe, emits-alone, emits-asks, emits-ack}
use Rattle.stream_law.proofs.Emitted.{GoesOut, syn-out, stretch-out, probe-out, ack-out, asks-out, sender-out, receiving-out}
use Rattle.stream_law.proofs.PairingInvariant.{Shown, runs_on, other_stays, connected, living, receives}

-- the acknowledgement that a segment carries joins those of the channel from which the end receives
record Paid (cap limit : ℕ) (v : View) (from : Channel) (carries : Bool) (a : Ack) : Type 0 where
  pub acks : List Ack
  pub leads : Leads cap limit from (record from { acks = acks })
  pub among : carries ≡ true → IsAmong a acks
  pub more : (b : Ack) → IsAmong b from.acks → IsAmong b acks

pays : (cap limit : ℕ) (v : View) (from : Channel) (carries : Bool) (a : Ack) → (carries ≡ true → (is_syn_sent v.state ≡ false) × (a ≡ record { number = v.receiving.rnext; written_at = length from.written }))
    → ReceivesFrom v from → Paid cap limit v from carries a
pays cap limit v from true a can r =
    let k = can refl in
    let own : Ack = record { number = v.receiving.rnext; written_at = length from.written } in
    let from' : Channel = record from { acks = own ∷ from.acks } in
    record {
      acks = own ∷ from.acks;
      leads = goes from from' from' (emits-ack cap limit v from k.0 r) (stays from');
      among = λ e. subst (λ b. IsAmong b (own ∷ from.acks)) (sym k.1) (here own from.acks);
      more = λ b among. there b own from.acks among;
    }
pays cap limit v from false a can r = record {
  acks = from.acks;
  leads = stays from;
  among = λ e. let bad : false ≡ true = e in cc;
  more = λ b among. among;
}

syn_received_past : (t : State) → is_syn_received t ≡ true → is_syn_sent t ≡ false
syn_received_past SynSent e = cc
syn_received_past SynReceived e = refl
syn_received_past _ e = cc

opened_past : (t : State) → is_opening t ≡ false → is_syn_sent t ≡ false
opened_past SynSent e = cc
opened_past SynReceived e = cc
opened_past _ e = refl

-- what became of the sending half, when this view became that one and a segment went out
record Went (cap limit : ℕ) (v w : View) (into : Channel) (s : Segment) : Type 0 where
  pub step : Step cap limit into (record into { sending = Open (sender_of w); frames = frame_of s (length into.written) ∷ into.frames })
  pub receiving : receiving_of w ≡ receiving_of v
  pub readable : w.receiving.readable ≡ v.receiving.readable
  pub state : w.state ≡ v.state
  pub acknowledges : s.flags.ack ≡ true → (is_syn_sent v.state ≡ false) × (s.acknowledgement ≡ v.receiving.rnext)

-- the same seen from both ends
assembled : (cap limit : ℕ) (p : Pairing) (v w : View) (s : Segment) → IsOfWidth s → s.flags.rst ≡ false → is_closed v.state ≡ false → p.own.connection ≡ Present v → (h : Shown cap limit p) → Went cap limit v w h.into s
    → Shown cap limit (record (with_connection p w) { sent = record { segment = s; own_written = length p.own.written; other_written = length p.other.written } ∷ p.sent })
assembled cap limit p v w s width unreset unclosed is h went =
    let k = connected p.own.connection v h.into h.from is h.own.connection in
    let shows = k.sends unclosed in
    let hears = receives v h.into h.from unclosed k in
    let new : Emission = record { segment = s; own_written = length p.own.written; other_written = length p.other.written } in
    let own_at : length h.into.written ≡ length p.own.written = ap length h.own.written in
    let other_at : length p.other.written ≡ length h.from.written = sym (ap length h.other.written) in
    let f = frame_of s (length p.own.written) in
    let a = ack_of s (length p.other.written) in
    let into' : Channel = record h.into { sending = Open (sender_of w); frames = f ∷ h.into.frames } in
    let step : Step cap limit h.into into' =
    subst (λ n. Step cap limit h.into (record h.into { sending = Open (sender_of w); frames = frame_of s n ∷ h.into.frames })) own_at went.step in
    let paid = pays cap limit v h.from s.flags.ack a
    (λ e. let q = went.acknowledges e in (q.0, ap (λ n. record { number = n; written_at = length p.other.written }) q.1 ∙ ap (λ n. record { number = v.receiving.rnext; written_at = n }) other_at)) hears in
    let from' : Channel = record h.from { acks = paid.acks } in
    record {
      into = into';
      from = from';
      runs_into = steps h.into into' h.runs_into step;
      runs_from = runs_on cap limit h.from from' h.runs_from paid.leads;
      own = record {
        written = h.own.written;
        closed = h.own.closed;
        read = h.own.read;
        ended = h.own.ended;
        connection = living w into' from' (ap is_listening went.state ∙ k.unlistening) (record { sending = refl; closed = shows.closed ∙ ap is_write_closed (sym went.state) })
            (record { receiving = hears.receiving ∙ sym went.receiving; readable = hears.readable ∙ sym went.readable; end_seen = hears.end_seen ∙ ap is_read_closed (sym went.state) });
      };
      other = record {
        written = h.other.written;
        closed = h.other.closed;
        read = h.other.read;
        ended = h.other.ended;
        connection = other_stays p.other.connection h.from h.into from' into' refl refl refl refl refl refl h.other.connection;
      };
      sent = emissions new p.sent (record { frame = here f h.into.frames; ack = paid.among; width = width; unreset = unreset })
          (λ e among. let q = h.sent e among in record { frame = there (frame_of e.segment e.own_written) f h.into.frames q.frame; ack = λ t. paid.more (ack_of e.segment e.other_written) (q.ack t); width = q.width; unreset = q.unreset });
      received = λ e among. let q = h.received e among in record { frame = q.frame; ack = q.ack; width = q.width; unreset = q.unreset };
    }
  where
    emissions : {P : Emission → Type 0} (new : Emission) (old : List Emission) → P new → ((e : Emission) → IsAmong e old → P e) → (e : Emission) → IsAmong e (new ∷ old) → P e
    emissions _ _ first rest _ (here _ _) = first
    emissions _ _ first rest _ (there e _ _ among) = rest e among

-- this view became that one as its sending half did, and the half's step sent the segment
went-out : (cap limit : ℕ) (v w : View) (into : Channel) (s : Segment) (half : SendingHalf) → GoesOut v w half
    → Step cap limit into (record into {
      sending = Open (record { held = half.held; una = half.una; nxt = half.nxt; syn_acked = not (is_opening v.state); fin_acked = is_write_finished v.state });
      frames = frame_of s (length into.written) ∷ into.frames;
    })
    → (s.flags.ack ≡ true → (is_syn_sent v.state ≡ false) × (s.acknowledgement ≡ v.receiving.rnext)) → Went cap limit v w into s
went-out cap limit v w into s half out step acknowledges = record {
  step = subst (λ x. Step cap limit into (record into { sending = Open x; frames = frame_of s (length into.written) ∷ into.frames })) (sender-out v w half out) step;
  receiving = receiving-out v w half out;
  readable = out.readable;
  state = out.state;
  acknowledges = acknowledges;
}

-- the SYN alone is outstanding while a connection opens
syn_flight : (v : View) → IsSound v → is_opening v.state ≡ true → outstanding v.sending ≤ 1
syn_flight v sound opening =
    let none = opening-holds-nothing v sound opening in
    let most : outstanding v.sending ≤ length v.sending.held + 1 = subst (λ b. outstanding v.sending ≤ length v.sending.held + (if b || awaits_fin_ack v.state then 1 else 0)) opening sound.flight in
    omega (arith, none, most)

went-syn : (cap limit : ℕ) (v : View) (into : Channel) (now : Moment) → IsSound v → is_opening v.state ≡ true → SendsInto v into → Went cap limit v (after_emitted v Syn now) into (sent_segment (head_of v Syn) (octets_of v Syn))
went-syn cap limit v into now sound opening shows =
    went-out cap limit v (after_emitted v Syn now) into (sent_segment (head_of v Syn) (octets_of v Syn)) (after_sent v.sending 1) (syn-out v now)
    (emits-syn cap limit v into opening sound.una (syn_flight v sound opening) shows) (λ e. (syn_received_past v.state e, ap (λ b. if b then v.receiving.rnext else 0) e))

-- Nothing is held once our FIN is acknowledged, and no FIN is sent.
unfinished : (v : View) (stretch : Stretch) → IsSound v → IsHeld v stretch → is_write_finished v.state ≡ false
unfinished v stretch sound is = by_fin stretch.fin (λ e. awaiting v.state (is.fin e).0)
    (λ e. none_left (is_write_finished v.state) refl
    (let some : 0 < stretch.count + (if false then 1 else 0) = subst (λ b. 0 < stretch.count + (if b then 1 else 0)) e is.some in omega (arith, some, is.held)))
  where
    by_fin : (fin : Bool) → (fin ≡ true → is_write_finished v.state ≡ false) → (fin ≡ false → is_write_finished v.state ≡ false) → is_write_finished v.state ≡ false
    by_fin true if_fin if_none = if_fin refl
    by_fin false if_fin if_none = if_none refl

    awaiting : (t : State) → awaits_fin_ack t ≡ true → is_write_finished t ≡ false
    awaiting FinWait1 e = refl
    awaiting Closing e = refl
    awaiting LastAck e = refl
    awaiting _ e = cc

    none_left : (b : Bool) → is_write_finished v.state ≡ b → 0 < length v.sending.held → b ≡ false
    none_left true e some = let none = finished-holds-nothing v sound e in absurd (omega (arith, none, some))
    none_left false e some = refl

went-text : (cap limit : ℕ) (v : View) (into : Channel) (stretch : Stretch) (now : Moment) → IsSound v → IsHeld v stretch → SendsInto v into
    → Went cap limit v (after_emitted v (Text stretch) now) into (sent_segment (head_of v (Text stretch)) (octets_of v (Text stretch)))
went-text cap limit v into stretch now sound is shows =
    went-out cap limit v (after_emitted v (Text stretch) now) into (sent_segment (head_of v (Text stretch)) (octets_of v (Text stretch))) (after_sent v.sending (end_of stretch)) (stretch-out v stretch now)
    (emits-stretch cap limit v into stretch (unfinished v stretch sound is) is shows) (λ e. (opened_past v.state is.opened, refl))

went-probe : (cap limit : ℕ) (v : View) (into : Channel) (now : Moment) → IsSound v → IsHeld v (probe_stretch v) → SendsInto v into
    → Went cap limit v (after_emitted v Probe now) into (sent_segment (head_of v Probe) (octets_of v Probe))
went-probe cap limit v into now sound is shows =
    went-out cap limit v (after_emitted v Probe now) into (sent_segment (head_of v Probe) (octets_of v Probe)) (after_probed v.sending (end_of (probe_stretch v))) (probe-out v now)
    (emits-probe cap limit v into (unfinished v (probe_stretch v) sound is) sound.una is shows) (λ e. (opened_past v.state is.opened, refl))

went-ack : (cap limit : ℕ) (v : View) (into : Channel) (now : Moment) → IsSound v → is_syn_sent v.state ≡ false → is_closed v.state ≡ false → SendsInto v into
    → Went cap limit v (after_emitted v AckAlone now) into (sent_segment (head_of v AckAlone) (octets_of v AckAlone))
went-ack cap limit v into now sound past lives shows =
    went-out cap limit v (after_emitted v AckAlone now) into (sent_segment (head_of v AckAlone) (octets_of v AckAlone)) v.sending (ack-out v now)
    (emits-alone cap limit v into sound lives shows)
    (λ e. (past, refl))

resting_open : (t : State) → may_rest t ≡ true → (is_opening t ≡ false) × (is_closed t ≡ false)
resting_open Established e = (refl, refl)
resting_open CloseWait e = (refl, refl)
resting_open FinWait2 e = (refl, refl)
resting_open _ e = cc

went-asks : (cap limit : ℕ) (v : View) (into : Channel) (now : Moment) → is_opening v.state ≡ false → SendsInto v into
    → Went cap limit v (after_emitted v KeepAlive now) into (sent_segment (head_of v KeepAlive) (octets_of v KeepAlive))
went-asks cap limit v into now opened shows =
    went-out cap limit v (after_emitted v KeepAlive now) into (sent_segment (head_of v KeepAlive) (octets_of v KeepAlive)) v.sending (asks-out v now)
    (emits-asks cap limit v into opened shows)
    (λ e. (opened_past v.state opened, refl))

neither : (a b : Bool) → (a || b) ≡ false → (a ≡ false) × (b ≡ false)
neither true b e = cc
neither false b e = (refl, e)

unfinished_unclosed : (t : State) → is_write_finished t ≡ false → is_closed t ≡ false
unfinished_unclosed Closed e = cc
unfinished_unclosed _ e = refl

-- nothing goes out where all is closed
pub unclosed_goes : (v : View) (due : Due) → IsSound v → MayGoOut v due → (let f = flags_of v due in f.rst) ≡ false → is_closed v.state ≡ false
unclosed_goes v Rst sound may unreset = let bad : true ≡ false = unreset in cc
unclosed_goes v Syn sound may unreset = opening_unclosed v.state may
  where
    opening_unclosed : (t : State) → is_opening t ≡ true → is_closed t ≡ false
    opening_unclosed Closed e = cc
    opening_unclosed _ e = refl
unclosed_goes v (Text stretch) sound may unreset = unfinished_unclosed v.state (unfinished v stretch sound may)
unclosed_goes v Probe sound may unreset = unfinished_unclosed v.state (unfinished v (probe_stretch v) sound may)
unclosed_goes v AckAlone sound may unreset = (neither (is_syn_sent v.state) (is_closed v.state) may).1
unclosed_goes v KeepAlive sound may unreset = (resting_open v.state may).1

pub moves-emits : (cap limit : ℕ) (p : Pairing) (v : View) (due : Due) (now : Moment) → p.own.connection ≡ Present v → IsSound v → MayGoOut v due
    → (let f = flags_of v due in f.rst) ≡ false → IsOfWidth (sent_segment (head_of v due) (octets_of v due)) → Shown cap limit p
    → Shown cap limit (record (with_connection p (after_emitted v due now)) {
      sent = record { segment = sent_segment (head_of v due) (octets_of v due); own_written = length p.own.written; other_written = length p.other.written } ∷ p.sent;
    })
moves-emits cap limit p v due now is sound may unreset width h =
    let unclosed = unclosed_goes v due sound may unreset in
    let shows = (connected p.own.connection v h.into h.from is h.own.connection).sends unclosed in
    assembled cap limit p v (after_emitted v due now) (sent_segment (head_of v due) (octets_of v due)) width unreset unclosed is h (went due may unreset shows)
  where
    went : (due : Due) → MayGoOut v due → (let f = flags_of v due in f.rst) ≡ false → SendsInto v h.into → Went cap limit v (after_emitted v due now) h.into (sent_segment (head_of v due) (octets_of v due))
    went Rst may reset shows = let bad : true ≡ false = reset in cc
    went Syn may reset shows = went-syn cap limit v h.into now sound may shows
    went (Text stretch) may reset shows = went-text cap limit v h.into stretch now sound may shows
    went Probe may reset shows = went-probe cap limit v h.into now sound may shows
    went AckAlone may reset shows = let open_yet = neither (is_syn_sent v.state) (is_closed v.state) may in went-ack cap limit v h.into now sound open_yet.0 open_yet.1 shows
    went KeepAlive may reset shows = went-asks cap limit v h.into now (resting_open v.state may).0 shows
