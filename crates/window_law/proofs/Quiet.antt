-- What else happens at one end, as an event of a talk: of both windows nothing changes, or its connection is over.
use Rattle.std.proofs.Common.{◌≡◌, ℕ, ◌≤◌, ◌==◌, ◌&&◌, ◌||◌, Bool, true, false, if◌then◌else◌, List, ◌++◌, length, take, length-drop, Ok, is_some, arith, refl, sym, ◌∙◌, ap, subst}
use Rattle.clock.specs.declared.moment.Moment.{Moment}
use Rattle.tcp_segment.specs.Segment.{Segment}
use Rattle.tcp_halves.specs.Halves.{Sending, Receiving}
use Rattle.tcp_halves.specs.Stream.{is_new_ack, is_in_window, after_read}
use Rattle.tcp_halves.proofs.Choices.{either, clash}
use Rattle.tcp_state.specs.declared.calls.Received.TheVariants.{EndOfStream}
use Rattle.tcp_state.specs.declared.connection.Fate.{Fate}
use Rattle.tcp_state.specs.declared.connection.Fate.TheVariants.{Stays, Removed, Rejected}
use Rattle.tcp_state.specs.declared.state.State.{State}
use Rattle.tcp_state.specs.declared.state.State.TheVariants.{Established, CloseWait}
use Rattle.tcp_state.specs.View.{View, IsSound, is_opening, is_closed, is_syn_sent, is_write_closed, after_reset}
use Rattle.tcp_state.specs.Alive.{after_silence}
use Rattle.tcp_state.specs.Calls.{send_count, with_octets, after_send, recv_count, recv_answer, after_recv, beyond_shutdown, after_shutdown, after_release}
use Rattle.tcp_state.specs.Arrival.{after_segment, fate, reset_error, owing_ack, is_acting_reset, ends_by_reset, after_rst, after_rst_in_syn_sent, before, timed_by}
use Rattle.tcp_state.specs.Timing.{clocked, after_timers}
use Rattle.tcp_state.proofs.Clocked.{ticks_keep}
use Rattle.stream_law.specs.ChannelViews.{SameStream, Stops}
use Rattle.stream_law.specs.Pairing as pairing
use Rattle.stream_law.specs.Pairing.{Presence, Present, Departed, Pairing, with_connection, remains}
use Rattle.window_law.specs.Windows.{KeepsWindows, Rests, Talk, rests as still}

-- What keeps both windows.

keeps_all : (v : View) → KeepsWindows v v
keeps_all v = record { sending = refl; receiving = refl; read = omega arith; scales = refl; opening = refl; waiting = refl }

-- neither half changed, nor the state
pub unmoved : (v w : View) → w.sending ≡ v.sending → w.receiving ≡ v.receiving → w.scales ≡ v.scales → w.state ≡ v.state → KeepsWindows v w
unmoved v w sending receiving scales state = record {
  sending = sending ∙ ap (λ (s : Sending). record v.sending { held = s.held }) (sym sending);
  receiving = receiving ∙ ap (λ (r : Receiving). record v.receiving { readable = r.readable; kept = r.kept }) (sym receiving);
  read = let same : length w.receiving.readable ≡ length v.receiving.readable = ap (λ (r : Receiving). length r.readable) receiving in omega arith;
  scales = scales;
  opening = ap is_opening state;
  waiting = ap is_syn_sent state;
}

-- a tick, whether the moment of a timer has come or not
pub tick_keeps : (v : View) (come : Bool) (now : Moment) → KeepsWindows v (if come then clocked false (after_timers (after_silence v now) now) now else after_silence v now)
tick_keeps v true now =
    let kept = ticks_keep v now in
    unmoved v _ (ap (λ (w : View). w.sending) kept) (ap (λ (w : View). w.receiving) kept) (ap (λ (w : View). w.scales) kept) (ap (λ (w : View). w.state) kept)
tick_keeps v false now = unmoved v (after_silence v now) refl refl refl refl

-- what the clock makes of a connection that heard a segment
pub timed_keeps : (v w : View) (s : Segment) (now : Moment) → KeepsWindows w (timed_by (before v s) w now)
timed_keeps v w s now = unmoved w (timed_by (before v s) w now) refl refl refl refl

-- the state in which our side is closed
shut_opening : (t : State) → is_opening (beyond_shutdown t) ≡ is_opening t
shut_opening Established = refl
shut_opening CloseWait = refl
shut_opening _ = refl

shut_waiting : (t : State) → is_syn_sent (beyond_shutdown t) ≡ is_syn_sent t
shut_waiting Established = refl
shut_waiting CloseWait = refl
shut_waiting _ = refl

shut_closed : (t : State) → is_closed (beyond_shutdown t) ≡ is_closed t
shut_closed Established = refl
shut_closed CloseWait = refl
shut_closed _ = refl

shutdown_keeps : (v : View) (now : Moment) → KeepsWindows v (after_shutdown v now)
shutdown_keeps v now = record { sending = refl; receiving = refl; read = omega arith; scales = refl; opening = shut_opening v.state; waiting = shut_waiting v.state }

-- its caller leaves it behind that
pub release_keeps : (v : View) (now : Moment) → KeepsWindows (after_shutdown v now) (after_release v now)
release_keeps v now = unmoved (after_shutdown v now) (after_release v now) refl refl refl refl

-- both windows are kept, and what is closed was
record Kept (v w : View) : Type 0 where
  windows : KeepsWindows v w
  closed : is_closed w.state ≡ is_closed v.state

kept_as_it_is : (v : View) → Kept v v
kept_as_it_is v = record { windows = keeps_all v; closed = refl }

send_keeps : (v : View) (octets : List ℕ) (now : Moment) → Kept v (after_send v octets now)
send_keeps v octets now =
    let taken = take (send_count v octets) octets in
    either View (Kept v) (is_some v.pending_error || is_opening v.state || is_write_closed v.state) v (with_octets v taken now) (λ refused. kept_as_it_is v)
    (λ goes_on. either View (Kept v) _ v (clocked false (record v { sending = record v.sending { held = v.sending.held ++ taken } }) now) (λ none. kept_as_it_is v)
    (λ some. record { windows = record { sending = refl; receiving = refl; read = omega arith; scales = refl; opening = refl; waiting = refl }; closed = refl }))

recv_keeps : (v : View) (len : ℕ) → Kept v (after_recv v len)
recv_keeps v len =
    either View (Kept v) (is_some v.pending_error || is_opening v.state || (length v.receiving.readable == 0)) v (record v { receiving = after_read v.receiving (recv_count v len) }) (λ refused. kept_as_it_is v)
    (λ goes_on. record {
      windows = record {
        sending = refl;
        receiving = refl;
        read = let less = length-drop (recv_count v len) v.receiving.readable in omega (arith, less);
        scales = refl;
        opening = refl;
        waiting = refl;
      };
      closed = refl;
    })

-- a reset ends the connection, or keeps both windows
reset_keeps : (v : View) (s : Segment) → s.flags.rst ≡ true → is_closed (after_segment v s).state ≡ false → Kept v (after_segment v s)
reset_keeps v s rst =
    let P : View → Type 0 = λ w. is_closed w.state ≡ false → Kept v w in
    let left : P (after_rst_in_syn_sent v s) =
    either View P (s.flags.ack && is_new_ack v.sending s.acknowledgement) (after_reset v (reset_error v.state)) v (λ acts lives. cc) (λ drops lives. kept_as_it_is v) in
    let owing : Kept v (owing_ack v) = record { windows = unmoved v (owing_ack v) refl refl refl refl; closed = refl } in
    let read : P (after_rst v s) =
    either View P (is_acting_reset v s) _ _
    (λ acts. either View P (ends_by_reset v s) v (after_reset v (reset_error v.state)) (λ ends lives. kept_as_it_is v) (λ stops lives. cc))
    (λ off. either View P (is_in_window v.receiving s.number) (owing_ack v) v (λ draws lives. owing) (λ outside lives. kept_as_it_is v)) in
    either View P (is_closed v.state) v _ (λ closed lives. kept_as_it_is v)
    (λ alive. either View P s.flags.rst (if is_syn_sent v.state then after_rst_in_syn_sent v s else after_rst v s) _ (λ so. either View P (is_syn_sent v.state) (after_rst_in_syn_sent v s) (after_rst v s) (λ waits. left) (λ past. read)) (λ other. clash s.flags.rst rst other))

-- Each as an event of a talk.

same_there : (v w : View) → Present v ≡ Present w → v ≡ w
same_there v w e = cc

-- a connection that is kept
kept_talks : (limit : ℕ) (p q : Pairing) (v w : View) → p.own.connection ≡ Present v → q.own.connection ≡ Present w → q.sent ≡ p.sent → (is_closed w.state ≡ false → Kept v w) → pairing.Move limit p q → Talk limit p q
kept_talks limit p q v w was is sent kept move = still p q move (record {
  sent = sent;
  keeps = λ x at lives.
      let same = same_there w x (sym is ∙ at) in
      let k = kept (ap (λ (y : View). is_closed y.state) same ∙ lives) in
      (v, was, sym k.closed ∙ (ap (λ (y : View). is_closed y.state) same ∙ lives), subst (λ y. KeepsWindows v y) same k.windows);
})

pub takes : (limit : ℕ) (p : Pairing) (v : View) (octets : List ℕ) (now : Moment) → p.own.connection ≡ Present v → IsSound v → is_some v.pending_error ≡ false → is_opening v.state ≡ false → is_write_closed v.state ≡ false
    → Talk limit p (record p { own = record p.own { connection = Present (after_send v octets now); written = p.own.written ++ take (send_count v octets) octets } })
takes limit p v octets now is sound untold opened unclosed =
    kept_talks limit p _ v (after_send v octets now) is refl refl (λ lives. send_keeps v octets now) (pairing.takes p v octets now is sound untold opened unclosed)

pub closes : (limit : ℕ) (p : Pairing) (v : View) (now : Moment) → p.own.connection ≡ Present v → IsSound v → is_opening v.state ≡ false
    → Talk limit p (record p { own = record p.own { connection = Present (after_shutdown v now); closed = true } })
closes limit p v now is sound opened =
    kept_talks limit p _ v (after_shutdown v now) is refl refl (λ lives. record { windows = shutdown_keeps v now; closed = shut_closed v.state }) (pairing.closes p v now is sound opened)

pub gives : (limit : ℕ) (p : Pairing) (v : View) (len : ℕ) → p.own.connection ≡ Present v → IsSound v → is_some v.pending_error ≡ false → v.released ≡ false → is_opening v.state ≡ false
    → Talk limit p (record p { own = record p.own { connection = Present (after_recv v len); read = p.own.read ++ take (recv_count v len) v.receiving.readable } })
gives limit p v len is sound untold kept opened = kept_talks limit p _ v (after_recv v len) is refl refl (λ lives. recv_keeps v len) (pairing.gives p v len is sound untold kept opened)

pub ends : (limit : ℕ) (p : Pairing) (v : View) (len : ℕ) → p.own.connection ≡ Present v → v.released ≡ false → recv_answer v len ≡ Ok EndOfStream → Talk limit p (record p { own = record p.own { ended = true } })
ends limit p v len is kept told = kept_talks limit p _ v v is is refl (λ lives. kept_as_it_is v) (pairing.ends p v len is kept told)

pub rests : (limit : ℕ) (p : Pairing) (v w : View) → p.own.connection ≡ Present v → SameStream v w → KeepsWindows v w → Talk limit p (with_connection p w)
rests limit p v w is same windows = kept_talks limit p _ v w is refl refl (λ lives. record { windows = windows; closed = ap is_closed same.state }) (pairing.rests p v w is same)

-- nothing is left of it
gone : (limit : ℕ) (p q : Pairing) → q.own.connection ≡ Departed → q.sent ≡ p.sent → pairing.Move limit p q → Talk limit p q
gone limit p q left sent move = still p q move (record { sent = sent; keeps = λ w is lives. let bad : Departed ≡ Present w = sym left ∙ is in cc })

pub resets : (limit : ℕ) (p : Pairing) (v : View) (s : Segment) → p.own.connection ≡ Present v → s.flags.rst ≡ true
    → Talk limit p (record p { own = record p.own { connection = remains (fate v s) (after_segment v s) } })
resets limit p v s is rst = by_fate (fate v s) (pairing.resets p v s is rst)
  where
    w : View
    w = after_segment v s

    by_fate : (f : Fate) → pairing.Move limit p (record p { own = record p.own { connection = remains f w } }) → Talk limit p (record p { own = record p.own { connection = remains f w } })
    by_fate Stays move = kept_talks limit p _ v w is refl refl (reset_keeps v s rst) move
    by_fate Rejected move = kept_talks limit p _ v w is refl refl (reset_keeps v s rst) move
    by_fate Removed move = gone limit p _ refl refl move

pub stops : (limit : ℕ) (p : Pairing) (v w : View) (closed : Bool) → p.own.connection ≡ Present v → Stops v w → (p.own.closed ≡ true → closed ≡ true)
    → Talk limit p (record p { own = record p.own { connection = Present w; closed = closed } })
stops limit p v w closed is over keeps = kept_talks limit p _ v w is refl refl (λ lives. clash (is_closed w.state) over.closed lives) (pairing.stops p v w closed is over keeps)

pub leaves : (limit : ℕ) (p : Pairing) (v : View) (closed : Bool) → p.own.connection ≡ Present v → (p.own.closed ≡ true → closed ≡ true)
    → Talk limit p (record p { own = record p.own { connection = Departed; closed = closed } })
leaves limit p v closed is keeps = gone limit p _ refl refl (pairing.leaves p v closed is keeps)
