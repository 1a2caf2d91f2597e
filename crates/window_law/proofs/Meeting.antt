-- Where two ends stand in one another's streams, by the law of the stream.
use Rattle.std.proofs.Common.{◌≡◌, ℕ, ◌+◌, ◌-◌, ◌<◌, ◌≤◌, ◌^◌, not, Bool, true, false, if◌then◌else◌, [], ◌++◌, length, arith, ◌∙◌, ap, subst}
use Rattle.tcp_segment.specs.Wire.{wire, past}
use Rattle.tcp_segment.proofs.StreamPositions.{past-wire}
use Rattle.tcp_halves.specs.Stream.{outstanding}
use Rattle.tcp_state.specs.View.{View, is_opening, is_syn_sent, is_closed, is_write_finished}
use Rattle.stream_law.specs.Channel.{Frame, Sending, Receiving, Waiting, Synchronised, Channel, IsAmong, number_of}
use Rattle.stream_law.specs.ChannelViews.{SendsInto, sender_of, receiver_of, receiving_of, frame_of}
use Rattle.stream_law.specs.Pairing.{Absent, Present, Emission, Pairing, IsTimely}
use Rattle.stream_law.proofs.Invariant.{SenderFits, SendingFits, ReceiverFits, ReceivingFits, Holds}
use Rattle.stream_law.proofs.ChannelLaw.{holds}
use Rattle.stream_law.proofs.PairingInvariant.{Shown, connected, unconnected}
use Rattle.stream_law.proofs.Sizes.{most_held}

-- the number that a segment of the other end acknowledges
pub record AcksAt (isn r : ℕ) (acknowledgement : ℕ) : Type 0 where
  pub at : ℕ
  pub number : acknowledgement ≡ wire isn at
  pub some : 1 ≤ at
  pub order : at ≤ r
  pub near : r < at + 2 ^ 31

-- SND.UNA and SND.NXT of an end: its SYN stands at 0
pub record SendsAt (isn u n : ℕ) (v : View) : Type 0 where
  pub una : v.sending.una ≡ wire isn u
  pub nxt : v.sending.nxt ≡ wire isn n
  pub opening : is_opening v.state ≡ true → (u ≡ 0) × (n ≤ 1)
  pub opened : is_opening v.state ≡ false → 1 ≤ u

-- RCV.NXT of the other, once it has the SYN
pub record TakesAt (isn r : ℕ) (w : View) : Type 0 where
  pub waiting : is_syn_sent w.state ≡ true → r ≡ 0
  pub synchronised : is_syn_sent w.state ≡ false → (w.receiving.rnext ≡ wire isn r) × (1 ≤ r)

-- The positions of the own end's numbers.
pub record Stands (limit : ℕ) (p : Pairing) : Type 0 where
  pub isn : ℕ
  pub u : ℕ
  pub r : ℕ
  pub n : ℕ
  pub received : u ≤ r
  pub sent : r ≤ n
  pub near : n < u + 2 ^ 31
  pub own : (v : View) → p.own.connection ≡ Present v → is_closed v.state ≡ false → SendsAt isn u n v
  pub other : (w : View) → p.other.connection ≡ Present w → is_closed w.state ≡ false → TakesAt isn r w
  pub absent : p.own.connection ≡ Absent → n ≡ 0
  pub silent : p.own.connection ≡ Absent → (e : Emission) → IsAmong e p.sent → ⊥
  pub syns : (e : Emission) → IsAmong e p.sent → e.segment.flags.syn ≡ true → 1 ≤ n
  pub acks : (e : Emission) → IsAmong e p.received → IsTimely limit p e → e.segment.flags.ack ≡ true → AcksAt isn r e.segment.acknowledgement

few : (b : Bool) → number_of b ≤ 1
few true = omega arith
few false = omega arith

not_among : (f : Frame) → IsAmong f [] → ⊥
not_among f among = elim among [ ]

sends_at : (v : View) (c : Channel) (k : Holds most_held c) → SendsInto v c → SendsAt k.isn k.u k.n v
sends_at v c k sends =
    let s : SenderFits most_held k.isn c.written c.closed (sender_of v) k.u k.n = subst (λ (x : Sending). SendingFits most_held k.isn c.written c.closed c.frames x k.u k.n) sends.sending k.sending in
    record {
      una = s.una;
      nxt = s.nxt;
      opening = λ opening.
          let unacked = s.syn (ap not opening) in
          let taken : length s.taken ≡ 0 = ap length unacked.0 in
          let fin : number_of (is_write_finished v.state) ≡ 0 = ap number_of unacked.2 in
          let syn : number_of (not (is_opening v.state)) ≡ 0 = ap (λ b. number_of (not b)) opening in
          (omega (arith, s.position, taken, fin, syn), unacked.1);
      opened = λ opened. let syn : number_of (not (is_opening v.state)) ≡ 1 = ap (λ b. number_of (not b)) opened in omega (arith, s.position, syn);
    }

takes_at : (w : View) (c : Channel) (k : Holds most_held c) → c.receiving ≡ receiving_of w → TakesAt k.isn k.r w
takes_at w c k hears =
    let P : Receiving → Type 0 = λ x. ReceivingFits k.isn c.written (c.read ++ c.readable) c.end_seen x k.r k.n in
    record {
      waiting = λ waits. let y : P Waiting = subst P (hears ∙ ap (λ b. if b then Waiting else Synchronised (receiver_of w.receiving)) waits) k.receiving in y.0;
      synchronised = λ opened.
          let y : ReceiverFits k.isn c.written (c.read ++ c.readable) c.end_seen (receiver_of w.receiving) k.r k.n = subst P (hears ∙ ap (λ b. if b then Waiting else Synchronised (receiver_of w.receiving)) opened) k.receiving in
          (y.rnext, omega (arith, y.position));
    }

pub stands : (limit : ℕ) → limit ≤ 2 ^ 30 → (p : Pairing) → Shown most_held limit p → Stands limit p
stands limit small p h =
    let c = h.into in
    let k = holds most_held limit (record { buffer = omega arith; recency = small }) c h.runs_into in
    let flag = few c.closed in
    let order = k.order in
    let written : length c.written ≡ length p.own.written = ap length h.own.written in
    let nothing : p.own.connection ≡ Absent → SendingFits most_held k.isn c.written c.closed c.frames c.sending k.u k.n → (k.n ≡ 0) × (c.frames ≡ []) = λ none fits.
    let unopened = (unconnected p.own.connection h.into h.from none h.own.connection).sending in
    let t = subst (λ (x : Sending). SendingFits most_held k.isn c.written c.closed c.frames x k.u k.n) unopened fits in (t.0, t.2) in
    record {
      isn = k.isn;
      u = k.u;
      r = k.r;
      n = k.n;
      received = order.received;
      sent = order.sent;
      near = omega (arith, order.written_first, order.within, flag);
      own = λ v is lives. sends_at v c k ((connected p.own.connection v h.into h.from is h.own.connection).sends lives);
      other = λ w is lives. takes_at w c k ((connected p.other.connection w h.from h.into is h.other.connection).receiving lives);
      absent = λ none. (nothing none k.sending).0;
      silent = λ none e among. not_among (frame_of e.segment e.own_written) (subst (λ fs. IsAmong (frame_of e.segment e.own_written) fs) (nothing none k.sending).1 (h.sent e among).frame);
      syns = λ e among syn.
          let f = k.frames _ (h.sent e among).frame in
          let one : number_of e.segment.flags.syn ≡ 1 = ap number_of syn in
          omega (arith, f.sent, one);
      acks = λ e among timely flags.
          let a = k.acks _ ((h.received e among).ack flags) in
          record { at = a.at; number = a.number; some = a.some; order = a.received; near = omega (arith, order.sent, order.written_first, flag, a.within, timely.own, written, small) };
    }

-- the positions of SND.UNA and SND.NXT of the one end, v, and of RCV.NXT of the other, w, once it has the SYN
pub record At (limit : ℕ) (p : Pairing) (v w : View) : Type 0 where
  pub isn : ℕ
  pub u : ℕ
  pub r : ℕ
  pub n : ℕ
  pub una : v.sending.una ≡ wire isn u
  pub nxt : v.sending.nxt ≡ wire isn n
  pub rnext : w.receiving.rnext ≡ wire isn r
  pub received : u ≤ r
  pub sent : r ≤ n
  pub near : n < u + 2 ^ 31
  pub acks : (e : Emission) → IsAmong e p.received → IsTimely limit p e → e.segment.flags.ack ≡ true → AcksAt isn r e.segment.acknowledgement

pub met : (limit : ℕ) (p : Pairing) → Stands limit p → (v w : View) → p.own.connection ≡ Present v → p.other.connection ≡ Present w → is_closed v.state ≡ false → is_closed w.state ≡ false → is_syn_sent w.state ≡ false → At limit p v w
met limit p s v w own other lives living opened =
    let a = s.own v own lives in
    let b = s.other w other living in
    record { isn = s.isn; u = s.u; r = s.r; n = s.n; una = a.una; nxt = a.nxt; rnext = (b.synchronised opened).0; received = s.received; sent = s.sent; near = s.near; acks = s.acks }

-- the same by distances: RCV.NXT there stands between SND.UNA and SND.NXT
pub between : (limit : ℕ) (p : Pairing) (v w : View) (at : At limit p v w) → past w.receiving.rnext v.sending.una ≡ at.r - at.u
between limit p v w at = ap (λ n. past n v.sending.una) at.rnext ∙ ap (λ n. past (wire at.isn at.r) n) at.una ∙ past-wire at.isn at.u at.r at.received (omega (arith, at.sent, at.near))

pub flight : (limit : ℕ) (p : Pairing) (v w : View) (at : At limit p v w) → outstanding v.sending ≡ at.n - at.u
flight limit p v w at = ap (λ n. past n v.sending.una) at.nxt ∙ ap (λ n. past (wire at.isn at.n) n) at.una ∙ past-wire at.isn at.u at.n (omega (arith, at.received, at.sent)) (omega (arith, at.near))

-- while the one end opens, its SYN alone is outstanding, and the other has it or waits for it
pub opening_flight : (limit : ℕ) (p : Pairing) (v : View) → Stands limit p → p.own.connection ≡ Present v → is_closed v.state ≡ false → is_opening v.state ≡ true → outstanding v.sending ≤ 1
opening_flight limit p v s own lives opening =
    let a = s.own v own lives in
    let first = a.opening opening in
    let u = first.0 in
    let n = first.1 in
    let flies : outstanding v.sending ≡ s.n - s.u = ap (λ m. past m v.sending.una) a.nxt ∙ ap (λ m. past (wire s.isn s.n) m) a.una ∙ past-wire s.isn s.u s.n (omega (arith, s.received, s.sent)) (omega (arith, s.near)) in
    omega (arith, flies, u, n)

pub opening_heard : (limit : ℕ) (p : Pairing) (v w : View) → Stands limit p → p.own.connection ≡ Present v → p.other.connection ≡ Present w → is_closed v.state ≡ false → is_closed w.state ≡ false → is_opening v.state ≡ true → is_syn_sent w.state ≡ false → 1 ≤ past w.receiving.rnext v.sending.una
opening_heard limit p v w s own other lives living opening on =
    let a = s.own v own lives in
    let u = (a.opening opening).0 in
    let b = (s.other w other living).synchronised on in
    let some = b.1 in
    let from_una : past w.receiving.rnext v.sending.una ≡ s.r - s.u = ap (λ m. past m v.sending.una) b.0 ∙ ap (λ m. past (wire s.isn s.r) m) a.una ∙ past-wire s.isn s.u s.r s.received (omega (arith, s.sent, s.near)) in
    omega (arith, from_una, u, some)
