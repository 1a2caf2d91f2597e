-- Each move at an end is steps of the two channels: opening, octets from and to the caller, the clock.
use Rattle.std.proofs.Common.{◌≡◌, ℕ, ◌+◌, ◌<◌, ◌≤◌, ◌^◌, ◌%◌, ◌||◌, ◌&&◌, ◌==◌, not, if◌then◌else◌, Bool, true, false, List, [], ◌∷◌, ◌++◌, length, take, drop, Option, Some, None, is_some, Result, Ok, Err, arith, refl, sym, ◌∙◌, ap, ap₂}
use Rattle.std.proofs.lemmas.Bool.{eqb-true}
use Rattle.ipv4.specs.declared.addr.Endpoint.{Endpoint}
use Rattle.clock.specs.declared.moment.Moment.{Moment}
use Rattle.tcp_state.specs.declared.calls.Refusal.{Refusal}
use Rattle.tcp_state.specs.declared.calls.Refusal.TheVariants.{EAGAIN}
use Rattle.tcp_state.specs.declared.calls.Received.{Received}
use Rattle.tcp_state.specs.declared.calls.Received.TheVariants.{Octets, EndOfStream}
use Rattle.tcp_state.specs.declared.state.State.{State}
use Rattle.tcp_state.specs.declared.state.State.TheVariants.{Closed, Listen, SynSent, SynReceived, Established, FinWait1, FinWait2, CloseWait, Closing, LastAck, TimeWait}
use Rattle.tcp_state.specs.View.{View, IsSound, is_opening, is_syn_sent, is_closed, is_listening, is_write_closed, is_read_closed, is_write_finished, opened_actively}
use Rattle.tcp_halves.specs.Halves.{Receiving as ReceivingHalf, Room}
use Rattle.tcp_halves.specs.Stream.{after_read}
use Rattle.tcp_state.specs.Calls.{send_count, unless_pending, after_send, recv_count, recv_answer, after_recv, beyond_shutdown, after_shutdown}
use Rattle.tcp_state.specs.Arrival.{opened_passively}
use Rattle.stream_law.specs.Channel.{Channel, Open, Waiting, Synchronised, IsAmong}
use Rattle.stream_law.specs.ChannelSteps.{steps, opens, reads_end, synchronises, nothing_kept}
use Rattle.stream_law.specs.ChannelViews.{sender_of, receiver_of, receiving_of, SameStream, reports, frame_of}
use Rattle.stream_law.specs.Pairing.{Absent, Present, Emission, Pairing, with_connection}
use Rattle.stream_law.proofs.Kept.{keeps_nothing, keeps_same}
use Rattle.stream_law.proofs.ConnectionSends.{takes-octets, sends}
use Rattle.stream_law.proofs.ConnectionHears.{hands-over}
use Rattle.stream_law.proofs.Sizes.{most_held, room-fits}
use Rattle.stream_law.proofs.PairingInvariant.{Connected, Shown, other_stays, connected, unconnected, untold_tells, living, receives}
use Rattle.stream_law.proofs.PairingEndings.{rests-fits, resting, ending}

-- a caller opens
pub moves-connects : (cap limit : ℕ) (p : Pairing) (room : Room) (local peer : Endpoint) (isn : ℕ) (now : Moment) → p.own.connection ≡ Absent → isn < 2 ^ 32 → Shown cap limit p
    → Shown cap limit (with_connection p (opened_actively room local peer isn now))
moves-connects cap limit p room local peer isn now none fits h =
    let k = unconnected p.own.connection h.into h.from none h.own.connection in
    let v = opened_actively room local peer isn now in
    let into' : Channel = record h.into { sending = Open (sender_of v) } in
    record {
      into = into';
      from = h.from;
      runs_into = steps h.into into' h.runs_into (opens h.into isn k.sending fits);
      runs_from = h.runs_from;
      own = record {
        written = h.own.written;
        closed = h.own.closed;
        read = h.own.read;
        ended = h.own.ended;
        connection = living v into' h.from refl (record { sending = refl; closed = k.unclosed }) (record { receiving = k.receiving; readable = k.readable; end_seen = k.unended });
      };
      other = record {
        written = h.other.written;
        closed = h.other.closed;
        read = h.other.read;
        ended = h.other.ended;
        connection = other_stays p.other.connection h.from h.into h.from into' refl refl refl refl refl refl h.other.connection;
      };
      sent = λ e among. let s = h.sent e among in record { frame = s.frame; ack = s.ack; width = s.width; unreset = s.unreset };
      received = λ e among. let s = h.received e among in record { frame = s.frame; ack = s.ack; width = s.width; unreset = s.unreset };
    }

-- a SYN opens
pub moves-accepts : (cap limit : ℕ) (p : Pairing) (room : Room) (local peer : Endpoint) (isn : ℕ) (e : Emission) (now : Moment) → p.own.connection ≡ Absent → isn < 2 ^ 32 → IsAmong e p.received → e.segment.flags.syn ≡ true
    → Shown cap limit p → Shown cap limit (with_connection p (opened_passively room local peer isn e.segment now))
moves-accepts cap limit p room local peer isn e now none fits among syn h =
    let k = unconnected p.own.connection h.into h.from none h.own.connection in
    let v = opened_passively room local peer isn e.segment now in
    let into' : Channel = record h.into { sending = Open (sender_of v) } in
    let from' : Channel = record h.from { receiving = Synchronised (record { rnext = (e.segment.number + 1) % 2 ^ 32; kept = nothing_kept }) } in
    let opened : from'.receiving ≡ receiving_of v = ap (λ (kept : ℕ → Option ℕ). Synchronised (record { rnext = (e.segment.number + 1) % 2 ^ 32; kept = kept })) (sym (keeps_nothing room.capacity)) in
    record {
      into = into';
      from = from';
      runs_into = steps h.into into' h.runs_into (opens h.into isn k.sending fits);
      runs_from = steps h.from from' h.runs_from (synchronises h.from (frame_of e.segment e.own_written) k.receiving (h.received e among).frame syn);
      own = record {
        written = h.own.written;
        closed = h.own.closed;
        read = h.own.read;
        ended = h.own.ended;
        connection = living v into' from' refl (record { sending = refl; closed = k.unclosed }) (record { receiving = opened; readable = k.readable; end_seen = k.unended });
      };
      other = record {
        written = h.other.written;
        closed = h.other.closed;
        read = h.other.read;
        ended = h.other.ended;
        connection = other_stays p.other.connection h.from h.into from' into' refl refl refl refl refl refl h.other.connection;
      };
      sent = λ e among. let s = h.sent e among in record { frame = s.frame; ack = s.ack; width = s.width; unreset = s.unreset };
      received = λ e among. let s = h.received e among in record { frame = s.frame; ack = s.ack; width = s.width; unreset = s.unreset };
    }

-- the clock is no part of a channel
pub moves-rests : (cap limit : ℕ) (p : Pairing) (v w : View) → p.own.connection ≡ Present v → SameStream v w → Shown cap limit p → Shown cap limit (with_connection p w)
moves-rests cap limit p v w is same h =
    resting cap limit p (Present w) h (rests-fits v w h.into h.from same (connected p.own.connection v h.into h.from is h.own.connection))

-- the caller gives octets
pub moves-takes : (cap limit : ℕ) (p : Pairing) (v : View) (octets : List ℕ) (now : Moment) → most_held ≤ cap → p.own.connection ≡ Present v → IsSound v → is_some v.pending_error ≡ false → is_opening v.state ≡ false → is_write_closed v.state ≡ false → Shown cap limit p
    → Shown cap limit (record p { own = record p.own { connection = Present (after_send v octets now); written = p.own.written ++ take (send_count v octets) octets } })
moves-takes cap limit p v octets now wide is sound untold opened unclosed h =
    let k = connected p.own.connection v h.into h.from is h.own.connection in
    let shows = k.sends (writes_open v.state unclosed) in
    let hears = receives v h.into h.from (writes_open v.state unclosed) k in
    let more = take (send_count v octets) octets in
    let w = after_send v octets now in
    let taken = takes-octets v octets now untold opened unclosed in
    let same_receiving : receiving_of v ≡ receiving_of w = ap₂ (λ (t : State) (r : ReceivingHalf). if is_syn_sent t then Waiting else Synchronised (receiver_of r)) (sym taken.state) (sym taken.receiving) in
    let into' : Channel = record h.into { written = h.into.written ++ more; sending = Open (sender_of w) } in
    record {
      into = into';
      from = h.from;
      runs_into = steps h.into into' h.runs_into (sends cap limit v w h.into octets (omega (arith, wide, room-fits v sound)) unclosed taken shows);
      runs_from = h.runs_from;
      own = record {
        written = ap (λ l. l ++ more) h.own.written;
        closed = h.own.closed;
        read = h.own.read;
        ended = h.own.ended;
        connection = living w into' h.from (ap is_listening taken.state ∙ k.unlistening) (record { sending = refl; closed = shows.closed ∙ ap is_write_closed (sym taken.state) })
            (record { receiving = hears.receiving ∙ same_receiving; readable = hears.readable ∙ ap (λ (r : ReceivingHalf). r.readable) (sym taken.receiving); end_seen = hears.end_seen ∙ ap is_read_closed (sym taken.state) });
      };
      other = record {
        written = h.other.written;
        closed = h.other.closed;
        read = h.other.read;
        ended = h.other.ended;
        connection = other_stays p.other.connection h.from h.into h.from into' refl refl refl refl refl refl h.other.connection;
      };
      sent = λ e among. let s = h.sent e among in record { frame = s.frame; ack = s.ack; width = s.width; unreset = s.unreset };
      received = λ e among. let s = h.received e among in record { frame = s.frame; ack = s.ack; width = s.width; unreset = s.unreset };
    }
  where
    writes_open : (t : State) → is_write_closed t ≡ false → is_closed t ≡ false
    writes_open Closed e = cc
    writes_open _ e = refl

-- the caller closes its side
pub moves-closes : (cap limit : ℕ) (p : Pairing) (v : View) (now : Moment) → p.own.connection ≡ Present v → IsSound v → is_opening v.state ≡ false → Shown cap limit p
    → Shown cap limit (record p { own = record p.own { connection = Present (after_shutdown v now); closed = true } })
moves-closes cap limit p v now is sound opened h =
    let k = connected p.own.connection v h.into h.from is h.own.connection in
    let t = shut_shows v.state opened sound.connection in
    let same_closed : is_closed (beyond_shutdown v.state) ≡ is_closed v.state = t.5 in
    let tells : reports (after_shutdown v now) ≡ reports v = ap (λ b. not (b && (is_some v.pending_error || v.released))) same_closed in
    ending cap limit p (Present (after_shutdown v now)) true (λ e. refl) h (record {
      unlistening = t.6;
      sends = λ e. let s = k.sends (sym same_closed ∙ e) in record {
        sending = s.sending ∙ ap (λ b. Open (record (sender_of v) { syn_acked = not b })) (sym t.0) ∙ ap (λ b. Open (record (sender_of v) { syn_acked = not (is_opening (beyond_shutdown v.state)); fin_acked = b })) (sym t.1);
        closed = sym t.2;
      };
      receiving = λ e. k.receiving (sym same_closed ∙ e) ∙ ap (λ b. if b then Waiting else Synchronised (receiver_of v.receiving)) (sym t.3);
      readable = λ e. k.readable (sym tells ∙ e);
      end_seen = λ e. k.end_seen (sym tells ∙ e) ∙ sym t.4;
    })
  where
    shut_shows : (t : State) → is_opening t ≡ false → is_listening t ≡ false
        → (is_opening (beyond_shutdown t) ≡ is_opening t) × (is_write_finished (beyond_shutdown t) ≡ is_write_finished t) × (is_write_closed (beyond_shutdown t) ≡ true) × (is_syn_sent (beyond_shutdown t) ≡ is_syn_sent t) × (is_read_closed (beyond_shutdown t) ≡ is_read_closed t)
        × (is_closed (beyond_shutdown t) ≡ is_closed t) × (is_listening (beyond_shutdown t) ≡ false)
    shut_shows Established e f = (refl, refl, refl, refl, refl, refl, refl)
    shut_shows CloseWait e f = (refl, refl, refl, refl, refl, refl, refl)
    shut_shows FinWait1 e f = (refl, refl, refl, refl, refl, refl, refl)
    shut_shows FinWait2 e f = (refl, refl, refl, refl, refl, refl, refl)
    shut_shows Closing e f = (refl, refl, refl, refl, refl, refl, refl)
    shut_shows LastAck e f = (refl, refl, refl, refl, refl, refl, refl)
    shut_shows TimeWait e f = (refl, refl, refl, refl, refl, refl, refl)
    shut_shows Closed e f = (refl, refl, refl, refl, refl, refl, refl)
    shut_shows Listen e f = cc
    shut_shows SynSent e f = cc
    shut_shows SynReceived e f = cc

-- the caller is told the end
pub moves-ends : (cap limit : ℕ) (p : Pairing) (v : View) (len : ℕ) → p.own.connection ≡ Present v → v.released ≡ false → recv_answer v len ≡ Ok EndOfStream → Shown cap limit p
    → Shown cap limit (record p { own = record p.own { ended = true } })
moves-ends cap limit p v len is kept told h =
    let k = connected p.own.connection v h.into h.from is h.own.connection in
    let why = end_told v.pending_error (is_opening v.state) (length v.receiving.readable == 0) (is_read_closed v.state) told in
    let tells = untold_tells v why.2 kept in
    let from' : Channel = record h.from { ended = true } in
    record {
      into = h.into;
      from = from';
      runs_into = h.runs_into;
      runs_from = steps h.from from' h.runs_from (reads_end h.from (k.readable tells ∙ no_octets v.receiving.readable (eqb-true (length v.receiving.readable) 0 why.0)) (k.end_seen tells ∙ why.1));
      own = record {
        written = h.own.written;
        closed = h.own.closed;
        read = h.own.read;
        ended = refl;
        connection = other_stays p.own.connection h.into h.from h.into from' refl refl refl refl refl refl h.own.connection;
      };
      other = record {
        written = h.other.written;
        closed = h.other.closed;
        read = h.other.read;
        ended = h.other.ended;
        connection = other_stays p.other.connection h.from h.into from' h.into refl refl refl refl refl refl h.other.connection;
      };
      sent = λ e among. let s = h.sent e among in record { frame = s.frame; ack = s.ack; width = s.width; unreset = s.unreset };
      received = λ e among. let s = h.received e among in record { frame = s.frame; ack = s.ack; width = s.width; unreset = s.unreset };
    }
  where
    again : Result Received Refusal
    again = Err EAGAIN

    some : Result Received Refusal
    some = Ok (Octets (recv_count v len))

    end_told : (error : Option Refusal) (opening none seen : Bool) → unless_pending error (if opening then again else if not none then some else if seen then Ok EndOfStream else again) ≡ Ok EndOfStream → (none ≡ true) × (seen ≡ true) × (is_some error ≡ false)
    end_told (Some error) opening none seen e = cc
    end_told None true none seen e = let bad : again ≡ Ok EndOfStream = e in cc
    end_told None false false seen e = let bad : some ≡ Ok EndOfStream = e in cc
    end_told None false true true e = (refl, refl, refl)
    end_told None false true false e = let bad : again ≡ Ok EndOfStream = e in cc

    no_octets : (xs : List ℕ) → length xs ≡ 0 → xs ≡ []
    no_octets [] e = refl
    no_octets (x ∷ xs) e = cc

-- the caller reads
pub moves-gives : (cap limit : ℕ) (p : Pairing) (v : View) (len : ℕ) → p.own.connection ≡ Present v → is_some v.pending_error ≡ false → v.released ≡ false → is_opening v.state ≡ false → Shown cap limit p
    → Shown cap limit (record p { own = record p.own { connection = Present (after_recv v len); read = p.own.read ++ take (recv_count v len) v.receiving.readable } })
moves-gives cap limit p v len is untold kept opened h =
    let k = connected p.own.connection v h.into h.from is h.own.connection in
    let some = take (recv_count v len) v.receiving.readable in
    let rest = drop (recv_count v len) v.receiving.readable in
    let from' : Channel = record h.from { read = h.from.read ++ some; readable = rest } in
    record {
      into = h.into;
      from = from';
      runs_into = h.runs_into;
      runs_from = steps h.from from' h.runs_from (hands-over cap limit v h.from len (k.readable (untold_tells v untold kept)));
      own = record {
        written = h.own.written;
        closed = h.own.closed;
        read = ap (λ l. l ++ some) h.own.read;
        ended = h.own.ended;
        connection = still (is_some v.pending_error || is_opening v.state || (length v.receiving.readable == 0)) (λ e. none_left (or_right (is_some v.pending_error || is_opening v.state) (length v.receiving.readable == 0) (neither (is_some v.pending_error) (is_opening v.state) untold opened) e)) k;
      };
      other = record {
        written = h.other.written;
        closed = h.other.closed;
        read = h.other.read;
        ended = h.other.ended;
        connection = other_stays p.other.connection h.from h.into from' h.into refl refl refl refl refl refl h.other.connection;
      };
      sent = λ e among. let s = h.sent e among in record { frame = s.frame; ack = s.ack; width = s.width; unreset = s.unreset };
      received = λ e among. let s = h.received e among in record { frame = s.frame; ack = s.ack; width = s.width; unreset = s.unreset };
    }
  where
    after : View
    after = record v { receiving = after_read v.receiving (recv_count v len) }

    neither : (a b : Bool) → a ≡ false → b ≡ false → (a || b) ≡ false
    neither true b e f = e
    neither false b e f = f

    or_right : (a b : Bool) → a ≡ false → (a || b) ≡ true → b ≡ true
    or_right true b f e = let bad : true ≡ false = f in cc
    or_right false b f e = e

    none_left : (length v.receiving.readable == 0) ≡ true → drop (recv_count v len) v.receiving.readable ≡ v.receiving.readable
    none_left e =
        let empty : length v.receiving.readable ≡ 0 = eqb-true (length v.receiving.readable) 0 e in
        let none : recv_count v len ≡ 0 = omega (arith, empty) in
        ap (λ n. drop n v.receiving.readable) none

    still : (none : Bool) → (none ≡ true → drop (recv_count v len) v.receiving.readable ≡ v.receiving.readable) → Connected v h.into h.from
        → Connected (if none then v else after) h.into (record h.from { read = h.from.read ++ take (recv_count v len) v.receiving.readable; readable = drop (recv_count v len) v.receiving.readable })
    still true e k = record { unlistening = k.unlistening; sends = k.sends; receiving = k.receiving; readable = λ t. e refl; end_seen = k.end_seen }
    still false e k = record {
      unlistening = k.unlistening;
      sends = λ e. let s = k.sends e in record { sending = s.sending; closed = s.closed };
      receiving = λ e. k.receiving e ∙ ap (λ (kept : ℕ → Option ℕ). if is_syn_sent v.state then Waiting else Synchronised (record { rnext = v.receiving.rnext; kept = kept })) (sym (keeps_same v.receiving.kept (recv_count v len)));
      readable = λ t. refl;
      end_seen = k.end_seen;
    }
