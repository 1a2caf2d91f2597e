-- What ends a connection is no step of a channel, but that its caller may close its side: a reset, the clock, an abort, an error of the network, leaving the host's table.
use Rattle.std.proofs.Common.{◌≡◌, ℕ, ◌&&◌, ◌||◌, not, if◌then◌else◌, Bool, true, false, List, Option, Some, is_some, refl, sym, ◌∙◌, ap, subst, ap₂}
use Rattle.tcp_segment.specs.Segment.{Segment}
use Rattle.tcp_state.specs.declared.state.State.{State}
use Rattle.clock.specs.declared.moment.Moment.{Moment}
use Rattle.clock.specs.Moments.{has_come}
use Rattle.tcp_state.specs.declared.state.State.TheVariants.{Closed, Listen, FinWait2, Closing, LastAck, TimeWait}
use Rattle.tcp_state.specs.View.{View, is_syn_sent, is_closed, is_listening, is_write_closed, is_read_closed, end_of_wait, is_at_end, after_stop, after_reset}
use Rattle.tcp_halves.specs.Stream.{is_new_ack, is_in_window}
use Rattle.tcp_state.specs.declared.calls.Refusal.TheVariants.{ECONNREFUSED}
use Rattle.tcp_state.specs.Unreachable.{is_unreachable, after_unreachable}
use Rattle.tcp_state.specs.Arrival.{after_segment, after_rst_in_syn_sent, after_rst, reset_error, owing_ack, fate, is_acting_reset, ends_by_reset}
use Rattle.stream_law.specs.Channel.{Channel, Receiver, Open, Waiting, Synchronised}
use Rattle.stream_law.specs.ChannelSteps.{closes}
use Rattle.stream_law.specs.ChannelViews.{Leads, stays, goes, sender_of, kept_at, receiver_of, receiving_of, reports, SameStream, Stops}
use Rattle.stream_law.specs.Pairing.{Presence, Present, Departed, Pairing, remains}
use Rattle.stream_law.proofs.ConnectionArrival.{either}
use Rattle.stream_law.proofs.PairingInvariant.{Connected, ConnectionFits, Shown, runs_on, other_stays, connected, open_tells, remains-fits}

same-owing : (v : View) → SameStream v (owing_ack v)
same-owing v = record { state = refl; held = refl; una = refl; nxt = refl; readable = refl; kept = refl; rnext = refl; pending_error = refl; released = λ e. e }

-- nothing of the stream changed
pub rests-fits : (v w : View) (into from : Channel) → SameStream v w → Connected v into from → Connected w into from
rests-fits v w into from same k =
    let tells : reports w ≡ true → reports v ≡ true =
    λ e. still (is_closed v.state) (is_some v.pending_error) w.released v.released same.released (sym (ap (λ t. not (is_closed t && (is_some w.pending_error || w.released))) same.state ∙ ap (λ o. not (is_closed v.state && (is_some o || w.released))) same.pending_error) ∙ e) in
    let same_closed : is_closed w.state ≡ is_closed v.state = ap is_closed same.state in
    record {
      unlistening = ap is_listening same.state ∙ k.unlistening;
      sends = λ e. let s = k.sends (sym same_closed ∙ e) in record { sending = s.sending ∙ ap (λ x. Open x) same_sender; closed = s.closed ∙ ap is_write_closed (sym same.state) };
      receiving = λ e. k.receiving (sym same_closed ∙ e) ∙ same_receiving;
      readable = λ t. k.readable (tells t) ∙ sym same.readable;
      end_seen = λ t. k.end_seen (tells t) ∙ ap is_read_closed (sym same.state);
    }
  where
    still : (closed error left left_before : Bool) → (left ≡ false → left_before ≡ false) → not (closed && (error || left)) ≡ true → not (closed && (error || left_before)) ≡ true
    still false error left left_before kept e = refl
    still true true left left_before kept e = e
    still true false true left_before kept e = cc
    still true false false left_before kept e = ap not (kept refl)

    same_sender : sender_of v ≡ sender_of w
    same_sender = let a = same.state in let b = same.held in let c = same.una in let d = same.nxt in cc

    same_receiver : receiver_of v.receiving ≡ receiver_of w.receiving
    same_receiver = ap₂ (λ (n : ℕ) (places : List (Option ℕ)). record { rnext = n; kept = kept_at places }) (sym same.rnext) (sym same.kept)

    same_receiving : receiving_of v ≡ receiving_of w
    same_receiving = ap₂ (λ (t : State) (r : Receiver). if is_syn_sent t then Waiting else Synchronised r) (sym same.state) same_receiver

closed_plain : (t : State) → is_closed t ≡ true → (is_listening t ≡ false) × (is_read_closed t ≡ true)
closed_plain Closed e = (refl, refl)
closed_plain _ e = cc

absurd_closed : {A : Type 0} (b : Bool) → b ≡ true → b ≡ false → A
absurd_closed b e f = let bad : true ≡ false = sym e ∙ f in cc

-- it became CLOSED, whether its caller closed its side or not
stops-fits : (v w : View) (into from : Channel) (closed : Bool) → Stops v w → Connected v into from → Connected w (record into { closed = closed }) from
stops-fits v w into from closed over k =
    let plain = closed_plain w.state over.closed in
    record {
      unlistening = plain.0;
      sends = λ e. absurd_closed (is_closed w.state) over.closed e;
      receiving = λ e. absurd_closed (is_closed w.state) over.closed e;
      readable = λ t. let p = over.telling t in k.readable p.0 ∙ sym p.1;
      end_seen = λ t. let p = over.telling t in k.end_seen p.0 ∙ (p.2 ∙ sym plain.1);
    }

-- a reset ends what is not CLOSED; where it tells no error the end was seen
stops-reset : (v : View) → is_closed v.state ≡ false → is_listening v.state ≡ false → Stops v (after_reset v (reset_error v.state))
stops-reset v unclosed unlistening = record {
  closed = refl;
  telling = λ t. (open_tells v unclosed, refl, silent v.state v.released unlistening t);
}
  where
    silent : (t : State) (left : Bool) → is_listening t ≡ false → not (is_some (reset_error t) || left) ≡ true → is_read_closed t ≡ true
    silent Listen left e f = cc
    silent Closing left e f = refl
    silent LastAck left e f = refl
    silent TimeWait left e f = refl
    silent Closed left e f = refl
    silent _ left e f = cc

-- what its caller left and what is CLOSED tells nothing
pub stops-left : (v w : View) → is_closed w.state ≡ true → w.released ≡ true → Stops v w
stops-left v w closed left = record {
  closed = closed;
  telling = λ t. absurd_closed (reports w) t (ap (λ b. not (b && (is_some w.pending_error || w.released))) closed ∙ ap not (ap (λ b. is_some w.pending_error || b) left ∙ or_true (is_some w.pending_error)));
}
  where
    or_true : (b : Bool) → (b || true) ≡ true
    or_true true = refl
    or_true false = refl

-- what is CLOSED and tells an error tells nothing else
pub stops-told : (v w : View) → is_closed w.state ≡ true → is_some w.pending_error ≡ true → Stops v w
stops-told v w closed told = record {
  closed = closed;
  telling = λ t. absurd_closed (reports w) t (ap (λ b. not (b && (is_some w.pending_error || w.released))) closed ∙ ap (λ b. not (b || w.released)) told);
}

-- so does an opening that an error about its SYN ends
pub stops-unreachable : (v : View) (number : ℕ) → is_unreachable v number ≡ true → Stops v (after_unreachable v number)
stops-unreachable v number hit =
    subst (λ b. Stops v (if b then after_reset v (Some ECONNREFUSED) else v)) (sym hit) (stops-told v (after_reset v (Some ECONNREFUSED)) refl refl)

-- a wait that is over saw the end, where a caller is left
pub stops-at_end : (v : View) (now : Moment) → is_at_end v now ≡ true → Stops v (after_stop v)
stops-at_end v now over = record { closed = refl; telling = λ t. both v.state v.released over t }
  where
    both : (t : State) (left : Bool) → has_come (end_of_wait t left v.since) now ≡ true → not (is_some v.pending_error || left) ≡ true → (not (is_closed t && (is_some v.pending_error || left)) ≡ true) × (v.receiving.readable ≡ v.receiving.readable) × (is_read_closed t ≡ true)
    both TimeWait left e f = (refl, refl, refl)
    both FinWait2 true e f = absurd_closed (not (is_some v.pending_error || true)) f (ap not (or_true (is_some v.pending_error)))
      where
        or_true : (b : Bool) → (b || true) ≡ true
        or_true true = refl
        or_true false = refl
    both FinWait2 false e f = cc
    both _ left e f = cc

reset-fits : (v : View) (s : Segment) (into from : Channel) → s.flags.rst ≡ true → Connected v into from → Connected (after_segment v s) into from
reset-fits v s into from rst k =
    let P : View → Type 0 = λ w. Connected w into from in
    either P (is_closed v.state) v _
    (λ ignored. k)
    (λ unclosed.
    let reset : P (after_reset v (reset_error v.state)) = stops-fits v (after_reset v (reset_error v.state)) into from into.closed (stops-reset v unclosed k.unlistening) k in
    either P s.flags.rst _ _
    (λ is. either P (is_syn_sent v.state) (after_rst_in_syn_sent v s) (after_rst v s)
    (λ waiting. either P (s.flags.ack && is_new_ack v.sending s.acknowledgement) (after_reset v (reset_error v.state)) v (λ acts. reset) (λ dropped. k))
    (λ past_syn. either P (is_acting_reset v s) _ _
    (λ acts. either P (ends_by_reset v s) v (after_reset v (reset_error v.state)) (λ leaves. k) (λ closes. reset))
    (λ other. either P (is_in_window v.receiving s.number) (owing_ack v) v (λ within. rests-fits v (owing_ack v) into from (same-owing v) k) (λ outside. k))))
    (λ none. absurd_closed s.flags.rst rst none))

-- the connection changes, and neither channel
pub resting : (cap limit : ℕ) (p : Pairing) (o : Presence) (h : Shown cap limit p) → ConnectionFits o h.into h.from → Shown cap limit (record p { own = record p.own { connection = o } })
resting cap limit p o h fits = record {
  into = h.into;
  from = h.from;
  runs_into = h.runs_into;
  runs_from = h.runs_from;
  own = record { written = h.own.written; closed = h.own.closed; read = h.own.read; ended = h.own.ended; connection = fits };
  other = h.other;
  sent = h.sent;
  received = h.received;
}

-- the connection changes, and its caller closes its side or has no more to do with it
pub ending : (cap limit : ℕ) (p : Pairing) (o : Presence) (closed : Bool) → (p.own.closed ≡ true → closed ≡ true) → (h : Shown cap limit p) → ConnectionFits o (record h.into { closed = closed }) h.from
    → Shown cap limit (record p { own = record p.own { connection = o; closed = closed } })
ending cap limit p o closed keeps h fits =
    let into' : Channel = record h.into { closed = closed } in
    record {
      into = into';
      from = h.from;
      runs_into = runs_on cap limit h.into into' h.runs_into (shuts h.into closed (λ e. keeps (sym h.own.closed ∙ e)));
      runs_from = h.runs_from;
      own = record { written = h.own.written; closed = refl; read = h.own.read; ended = h.own.ended; connection = fits };
      other = record {
        written = h.other.written;
        closed = h.other.closed;
        read = h.other.read;
        ended = h.other.ended;
        connection = other_stays p.other.connection h.from h.into h.from into' refl refl refl refl refl refl h.other.connection;
      };
      sent = λ e among. let s = h.sent e among in record { frame = s.frame; ack = s.ack; width = s.width; unreset = s.unreset };
      received = λ e among. let s = h.received e among in record { frame = s.frame; ack = s.ack; width = s.width; unreset = s.unreset };
    }
  where
    unclosed : (b : Bool) → (b ≡ true → false ≡ true) → b ≡ false
    unclosed true e = let bad : false ≡ true = e refl in cc
    unclosed false e = refl

    shuts : (c : Channel) (closed : Bool) → (c.closed ≡ true → closed ≡ true) → Leads cap limit c (record c { closed = closed })
    shuts c true keeps = goes c (record c { closed = true }) (record c { closed = true }) (closes c) (stays (record c { closed = true }))
    shuts c false keeps = subst (λ b. Leads cap limit c (record c { closed = b })) (unclosed c.closed keeps) (stays c)

-- a reset arrives
pub moves-resets : (cap limit : ℕ) (p : Pairing) (v : View) (s : Segment) → p.own.connection ≡ Present v → s.flags.rst ≡ true → Shown cap limit p
    → Shown cap limit (record p { own = record p.own { connection = remains (fate v s) (after_segment v s) } })
moves-resets cap limit p v s is rst h =
    let k = connected p.own.connection v h.into h.from is h.own.connection in
    resting cap limit p (remains (fate v s) (after_segment v s)) h (remains-fits (fate v s) (after_segment v s) h.into h.from (reset-fits v s h.into h.from rst k))

-- the connection is over
pub moves-stops : (cap limit : ℕ) (p : Pairing) (v w : View) (closed : Bool) → p.own.connection ≡ Present v → Stops v w → (p.own.closed ≡ true → closed ≡ true) → Shown cap limit p
    → Shown cap limit (record p { own = record p.own { connection = Present w; closed = closed } })
moves-stops cap limit p v w closed is over keeps h =
    ending cap limit p (Present w) closed keeps h (stops-fits v w h.into h.from closed over (connected p.own.connection v h.into h.from is h.own.connection))

-- it leaves its host's table, and nothing is left to show
pub moves-leaves : (cap limit : ℕ) (p : Pairing) (closed : Bool) → (p.own.closed ≡ true → closed ≡ true) → Shown cap limit p
    → Shown cap limit (record p { own = record p.own { connection = Departed; closed = closed } })
moves-leaves cap limit p closed keeps h = ending cap limit p Departed closed keeps h tt
