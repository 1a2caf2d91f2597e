-- What two ends show of the two channels between them.
use Rattle.std.proofs.Common.{◌≡◌, ℕ, ◌&&◌, ◌||◌, not, Bool, true, false, [], is_some, refl, ◌∙◌, ap, subst}
use Rattle.tcp_state.specs.declared.connection.Fate.{Fate}
use Rattle.tcp_state.specs.declared.connection.Fate.TheVariants.{Stays, Removed, Rejected}
use Rattle.tcp_state.specs.View.{View, is_closed, is_listening, is_read_closed}
use Rattle.stream_law.specs.Channel.{Channel, Unopened, Waiting, IsAmong}
use Rattle.stream_law.specs.ChannelSteps.{Runs, starts, steps, fresh}
use Rattle.stream_law.specs.ChannelViews.{Leads, stays, goes, SendsInto, ReceivesFrom, receiving_of, reports, IsOfWidth, frame_of, ack_of}
use Rattle.stream_law.specs.Pairing.{Presence, Absent, Present, Departed, End, Emission, Pairing, remains, from_other, apart}

pub record Unconnected (into from : Channel) : Type 0 where
  pub sending : into.sending ≡ Unopened
  pub unwritten : into.written ≡ []
  pub receiving : from.receiving ≡ Waiting
  pub readable : from.readable ≡ []
  pub unclosed : into.closed ≡ false
  pub unended : from.end_seen ≡ false

-- What is CLOSED neither sends nor receives any more: its halves stay in their channels as they were, and of the rest only
-- what its caller is still told counts. None listens, so that a reset that tells no error finds the end seen.
pub record Connected (v : View) (into from : Channel) : Type 0 where
  pub unlistening : is_listening v.state ≡ false
  pub sends : is_closed v.state ≡ false → SendsInto v into
  pub receiving : is_closed v.state ≡ false → from.receiving ≡ receiving_of v
  pub readable : reports v ≡ true → from.readable ≡ v.receiving.readable
  pub end_seen : reports v ≡ true → from.end_seen ≡ is_read_closed v.state

abbrev pub ConnectionFits : Presence → Channel → Channel → Type 0
ConnectionFits Absent into from = Unconnected into from
ConnectionFits (Present v) into from = Connected v into from
ConnectionFits Departed into from = Unit {0}

pub record EndFits (e : End) (into from : Channel) : Type 0 where
  pub written : into.written ≡ e.written
  pub closed : into.closed ≡ e.closed
  pub read : from.read ≡ e.read
  pub ended : from.ended ≡ e.ended
  pub connection : ConnectionFits e.connection into from

pub record EmissionFits (e : Emission) (into from : Channel) : Type 0 where
  pub frame : IsAmong (frame_of e.segment e.own_written) into.frames
  pub ack : e.segment.flags.ack ≡ true → IsAmong (ack_of e.segment e.other_written) from.acks
  pub width : IsOfWidth e.segment
  pub unreset : e.segment.flags.rst ≡ false

-- the channel into which the own end sends, and the one from which it receives
pub record Shown (cap limit : ℕ) (p : Pairing) : Type 0 where
  pub into : Channel
  pub from : Channel
  pub runs_into : Runs cap limit into
  pub runs_from : Runs cap limit from
  pub own : EndFits p.own into from
  pub other : EndFits p.other from into
  pub sent : (e : Emission) → IsAmong e p.sent → EmissionFits e into from
  pub received : (e : Emission) → IsAmong e p.received → EmissionFits e from into

-- a run goes on
pub runs_on : (cap limit : ℕ) (c d : Channel) → Runs cap limit c → Leads cap limit c d → Runs cap limit d
runs_on cap limit _ _ run (stays c) = run
runs_on cap limit _ _ run (goes c d e step more) = runs_on cap limit d e (steps c d run step) more

pub shown-apart : (cap limit : ℕ) → Shown cap limit apart
shown-apart cap limit = record {
  into = fresh;
  from = fresh;
  runs_into = starts;
  runs_from = starts;
  own = at_rest;
  other = at_rest;
  sent = λ e among. elim among [ ];
  received = λ e among. elim among [ ];
}
  where
    at_rest : EndFits apart.own fresh fresh
    at_rest = record {
      written = refl;
      closed = refl;
      read = refl;
      ended = refl;
      connection = record { sending = refl; unwritten = refl; receiving = refl; readable = refl; unclosed = refl; unended = refl };
    }

pub shown-from_other : (cap limit : ℕ) (p : Pairing) → Shown cap limit p → Shown cap limit (from_other p)
shown-from_other cap limit p h = record {
  into = h.from;
  from = h.into;
  runs_into = h.runs_from;
  runs_from = h.runs_into;
  own = h.other;
  other = h.own;
  sent = h.received;
  received = h.sent;
}

-- what the other end shows does not change where its halves of the channels stay
pub other_stays : (o : Presence) (into from into' from' : Channel) → into'.sending ≡ into.sending → into'.written ≡ into.written → into'.closed ≡ into.closed → from'.receiving ≡ from.receiving
    → from'.readable ≡ from.readable → from'.end_seen ≡ from.end_seen → ConnectionFits o into from → ConnectionFits o into' from'
other_stays Absent into from into' from' sending written closed receiving readable end_seen k = record {
  sending = sending ∙ k.sending;
  unwritten = written ∙ k.unwritten;
  receiving = receiving ∙ k.receiving;
  readable = readable ∙ k.readable;
  unclosed = closed ∙ k.unclosed;
  unended = end_seen ∙ k.unended;
}
other_stays (Present v) into from into' from' sending written closed receiving readable end_seen k = record {
  unlistening = k.unlistening;
  sends = λ e. let s = k.sends e in record { sending = sending ∙ s.sending; closed = closed ∙ s.closed };
  receiving = λ e. receiving ∙ k.receiving e;
  readable = λ t. readable ∙ k.readable t;
  end_seen = λ t. end_seen ∙ k.end_seen t;
}
other_stays Departed into from into' from' sending written closed receiving readable end_seen k = tt

-- the connection of an end that has one, and of one that has none yet
pub connected : (o : Presence) (v : View) (into from : Channel) → o ≡ Present v → ConnectionFits o into from → Connected v into from
connected o v into from is k = subst (λ o. ConnectionFits o into from) is k

pub unconnected : (o : Presence) (into from : Channel) → o ≡ Absent → ConnectionFits o into from → Unconnected into from
unconnected o into from is k = subst (λ o. ConnectionFits o into from) is k

-- a connection that is not CLOSED tells, and so does one without an error that its caller keeps
pub open_tells : (v : View) → is_closed v.state ≡ false → reports v ≡ true
open_tells v e = ap (λ b. not (b && (is_some v.pending_error || v.released))) e

pub untold_tells : (v : View) → is_some v.pending_error ≡ false → v.released ≡ false → reports v ≡ true
untold_tells v untold kept = tells (is_closed v.state) (is_some v.pending_error || v.released) (ap (λ b. b || v.released) untold ∙ kept)
  where
    tells : (a b : Bool) → b ≡ false → not (a && b) ≡ true
    tells true b e = ap not e
    tells false b e = refl

-- a connection that is the end of both channels, as every one is that is not CLOSED
pub living : (v : View) (into from : Channel) → is_listening v.state ≡ false → SendsInto v into → ReceivesFrom v from → Connected v into from
living v into from unlistening s r = record { unlistening = unlistening; sends = λ e. s; receiving = λ e. r.receiving; readable = λ t. r.readable; end_seen = λ t. r.end_seen }

pub receives : (v : View) (into from : Channel) → is_closed v.state ≡ false → Connected v into from → ReceivesFrom v from
receives v into from unclosed k =
    let tells = open_tells v unclosed in
    record { receiving = k.receiving unclosed; readable = k.readable tells; end_seen = k.end_seen tells }

-- what is left of a connection fits as it did
pub remains-fits : (f : Fate) (v : View) (into from : Channel) → Connected v into from → ConnectionFits (remains f v) into from
remains-fits Stays v into from k = k
remains-fits Removed v into from k = tt
remains-fits Rejected v into from k = k
