-- What arrives, and what is given to the caller, keeps the invariant.
use Rattle.std.proofs.Common.{◌≡◌, ℕ, ◌+◌, ◌≤◌, ◌^◌, ◌%◌, true, List, [], ◌∷◌, ◌++◌, length, arith, sym, ◌∙◌, ap, subst, append_assoc}
use Rattle.stream_law.specs.Channel.{Frame, Ack, Receiver, Stopped, Waiting, Synchronised, Gone, Channel, IsAmong, here, there, number_of}
use Rattle.stream_law.specs.ChannelSteps.{nothing_kept}
use Rattle.stream_law.proofs.Invariant.{ReceiverFits, ReceivingFits, AckFits, Holds}

-- more is received
pub ack_received : (cap isn r r' : ℕ) (a : Ack) → r ≤ r' → AckFits cap isn r a → AckFits cap isn r' a
ack_received cap isn r r' a more k = record { at = k.at; number = k.number; some = k.some; received = omega (arith, k.received, more); within = k.within }

pub keeps-synchronises : (cap : ℕ) (c : Channel) (f : Frame) → c.receiving ≡ Waiting → IsAmong f c.frames → f.syn ≡ true → Holds cap c
    → Holds cap (record c { receiving = Synchronised (record { rnext = (f.number + 1) % 2 ^ 32; kept = nothing_kept }) })
keeps-synchronises cap c f is among syn h =
    let w : ReceivingFits h.isn c.written (c.read ++ c.readable) c.end_seen Waiting h.r h.n = subst (λ v. ReceivingFits h.isn c.written (c.read ++ c.readable) c.end_seen v h.r h.n) is h.receiving in
    let k = h.frames f among in
    let o = h.order in
    let at : k.at ≡ 0 = (k.syn syn).0 in
    let one : number_of f.syn ≡ 1 = ap number_of syn in
    let none : length (c.read ++ c.readable) ≡ 0 = ap length w.1 in
    let unseen : number_of c.end_seen ≡ 0 = ap number_of w.2 in
    record {
      isn = h.isn;
      u = h.u;
      r = 1;
      n = h.n;
      order = record { received = omega (arith, o.received, w.0); sent = omega (arith, k.sent, one); written_first = o.written_first; within = o.within };
      text = h.text;
      sending = h.sending;
      receiving = record { rnext = omega (arith, k.number, at); position = omega (arith, none, unseen); kept = λ i v e. cc };
      frames = h.frames;
      acks = λ a among. ack_received cap h.isn h.r 1 a (omega (arith, w.0)) (h.acks a among);
    }

pub keeps-emits_ack : (cap : ℕ) (c : Channel) (y : Receiver) → c.receiving ≡ Synchronised y → Holds cap c
    → Holds cap (record c { acks = record { number = y.rnext; written_at = length c.written } ∷ c.acks })
keeps-emits_ack cap c y is h =
    let w : ReceiverFits h.isn c.written (c.read ++ c.readable) c.end_seen y h.r h.n = subst (λ v. ReceivingFits h.isn c.written (c.read ++ c.readable) c.end_seen v h.r h.n) is h.receiving in
    let o = h.order in
    record {
      isn = h.isn;
      u = h.u;
      r = h.r;
      n = h.n;
      order = h.order;
      text = h.text;
      sending = h.sending;
      receiving = h.receiving;
      frames = h.frames;
      acks = acks_more (AckFits cap h.isn h.r) (record { number = y.rnext; written_at = length c.written }) c.acks
          (record { at = h.r; number = w.rnext; some = omega (arith, w.position); received = omega arith; within = omega (arith, o.within, o.received) }) h.acks;
    }
  where
    acks_more : (P : Ack → Type 0) (a : Ack) (rest : List Ack) → P a → ((b : Ack) → IsAmong b rest → P b) → (b : Ack) → IsAmong b (a ∷ rest) → P b
    acks_more P _ _ new old _ (here _ _) = new
    acks_more P _ _ new old _ (there b _ _ among) = old b among

pub keeps-reads : (cap : ℕ) (c : Channel) (octets rest : List ℕ) → c.readable ≡ octets ++ rest → Holds cap c → Holds cap (record c { read = c.read ++ octets; readable = rest })
keeps-reads cap c octets rest is h =
    let got : c.read ++ c.readable ≡ (c.read ++ octets) ++ rest = ap (λ l. c.read ++ l) is ∙ sym (append_assoc c.read octets rest) in
    record {
      isn = h.isn;
      u = h.u;
      r = h.r;
      n = h.n;
      order = h.order;
      text = record {
        rest = h.text.rest;
        text = h.text.text ∙ ap (λ l. l ++ h.text.rest) got;
        seen = h.text.seen;
        told = λ e. let k = h.text.told e in (k.0, behind_none octets rest (sym is ∙ k.1));
      };
      sending = h.sending;
      receiving = subst (λ l. ReceivingFits h.isn c.written l c.end_seen c.receiving h.r h.n) got h.receiving;
      frames = h.frames;
      acks = h.acks;
    }
  where
    behind_none : (xs ys : List ℕ) → xs ++ ys ≡ [] → ys ≡ []
    behind_none [] ys e = e
    behind_none (x ∷ xs) ys e = cc

pub keeps-reads_end : (cap : ℕ) (c : Channel) → c.readable ≡ [] → c.end_seen ≡ true → Holds cap c → Holds cap (record c { ended = true })
keeps-reads_end cap c none seen h = record {
  isn = h.isn;
  u = h.u;
  r = h.r;
  n = h.n;
  order = h.order;
  text = record { rest = h.text.rest; text = h.text.text; seen = h.text.seen; told = λ e. (seen, none) };
  sending = h.sending;
  receiving = h.receiving;
  frames = h.frames;
  acks = h.acks;
}

pub keeps-sending_stops : (cap : ℕ) (c : Channel) → Holds cap c → Holds cap (record c { sending = Stopped })
keeps-sending_stops cap c h = record {
  isn = h.isn;
  u = h.u;
  r = h.r;
  n = h.n;
  order = h.order;
  text = h.text;
  sending = tt;
  receiving = h.receiving;
  frames = h.frames;
  acks = h.acks;
}

pub keeps-receiving_stops : (cap : ℕ) (c : Channel) → Holds cap c → Holds cap (record c { receiving = Gone })
keeps-receiving_stops cap c h = record {
  isn = h.isn;
  u = h.u;
  r = h.r;
  n = h.n;
  order = h.order;
  text = h.text;
  sending = h.sending;
  receiving = tt;
  frames = h.frames;
  acks = h.acks;
}
