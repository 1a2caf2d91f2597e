-- Each step keeps the invariant: what a caller does, what a half does, and what goes out.
use Rattle.std.proofs.Common.{◌≡◌, ℕ, ◌+◌, ◌-◌, ◌<◌, ◌≤◌, ◌^◌, ◌%◌, Bool, true, false, List, [], ◌∷◌, ◌++◌, length, arith, refl, sym, ◌∙◌, ap, subst, append_assoc, length-append}
use Rattle.tcp_segment.specs.Wire.{wire}
use Rattle.stream_law.specs.Channel.{Frame, Sender, Sending, Unopened, Open, Stopped, Receiving, Waiting, Synchronised, Gone, Channel, IsAmong, here, there, number_of}
use Rattle.stream_law.specs.ChannelSteps.{fresh, sender_from}
use Rattle.stream_law.proofs.Invariant.{StandsAt, Text, SenderFits, SendingFits, ReceivingFits, FrameFits, Holds}
use Rattle.stream_law.proofs.Lists.{slice_get-append_left}

-- no frame is among none
pub none_among : {A : Type 0} (x : A) (xs : List A) → xs ≡ [] → IsAmong x xs → ⊥
none_among {A} x _ e (here _ ys) = let bad : x ∷ ys ≡ [] = e in cc
none_among {A} x _ e (there _ y ys h) = let bad : y ∷ ys ≡ [] = e in cc

pub holds-fresh : (cap : ℕ) → Holds cap fresh
holds-fresh cap = record {
  isn = 0;
  u = 0;
  r = 0;
  n = 0;
  order = record { received = omega arith; sent = omega arith; written_first = omega arith; within = omega arith };
  text = record { rest = []; text = refl; seen = λ e. cc; told = λ e. cc };
  sending = (refl, refl, refl);
  receiving = (refl, refl, refl);
  frames = λ f among. absurd (none_among f [] refl among);
  acks = λ a among. absurd (none_among a [] refl among);
}

-- before anything is sent the initial number is of no account
receiving_before : (isn isn' : ℕ) (written got : List ℕ) (end_seen : Bool) (v : Receiving) (r n : ℕ) → r ≡ 0
    → ReceivingFits isn written got end_seen v r n → ReceivingFits isn' written got end_seen v r n
receiving_before isn isn' written got end_seen Waiting r n none h = h
receiving_before isn isn' written got end_seen (Synchronised y) r n none h = let p = h.position in absurd (omega arith)
receiving_before isn isn' written got end_seen Gone r n none h = h

pub keeps-opens : (cap : ℕ) (c : Channel) (isn : ℕ) → c.sending ≡ Unopened → isn < 2 ^ 32 → Holds cap c → Holds cap (record c { sending = Open (sender_from isn) })
keeps-opens cap c isn unopened fits h =
    let s : SendingFits cap h.isn c.written c.closed c.frames Unopened h.u h.n = subst (λ v. SendingFits cap h.isn c.written c.closed c.frames v h.u h.n) unopened h.sending in
    let n : h.n ≡ 0 = s.0 in
    let o = h.order in
    let u : h.u ≡ 0 = omega (arith, n, o.received, o.sent) in
    let r : h.r ≡ 0 = omega (arith, n, o.sent) in
    record {
      isn = isn;
      u = h.u;
      r = h.r;
      n = h.n;
      order = h.order;
      text = h.text;
      sending = record {
        una = omega (arith, u, fits);
        nxt = omega (arith, n, fits);
        taken = [];
        text = s.1;
        room = omega arith;
        position = u;
        syn = λ _. (refl, omega (arith, n), refl);
        fin = λ e. cc;
      };
      receiving = receiving_before h.isn isn c.written (c.read ++ c.readable) c.end_seen c.receiving h.r h.n r h.receiving;
      frames = λ f among. absurd (none_among f c.frames s.2 among);
      acks = λ a among. let k = h.acks a among in absurd (omega (arith, r, k.some, k.received));
    }

-- more is written
text_more : (written read readable : List ℕ) (closed end_seen ended : Bool) (octets : List ℕ) → closed ≡ false → Text written read readable closed end_seen ended
    → Text (written ++ octets) read readable closed end_seen ended
text_more written read readable closed end_seen ended octets unclosed t = record {
  rest = t.rest ++ octets;
  text = ap (λ w. w ++ octets) t.text ∙ append_assoc (read ++ readable) t.rest octets;
  seen = λ e. let k = t.seen e in let bad : closed ≡ true = k.0 in cc;
  told = t.told;
}

stands_more : (written octets : List ℕ) (position octet : ℕ) → StandsAt written position octet → StandsAt (written ++ octets) position octet
stands_more written octets position octet h = slice_get-append_left (0 ∷ written) octets position octet h

receiving_more : (isn : ℕ) (written got : List ℕ) (end_seen : Bool) (v : Receiving) (r n : ℕ) (octets : List ℕ)
    → ReceivingFits isn written got end_seen v r n → ReceivingFits isn (written ++ octets) got end_seen v r n
receiving_more isn written got end_seen Waiting r n octets h = h
receiving_more isn written got end_seen (Synchronised y) r n octets h = record {
  rnext = h.rnext;
  position = h.position;
  kept = λ i o e. let k = h.kept i o e in (stands_more written octets (r + i) o k.0, k.1);
}
receiving_more isn written got end_seen Gone r n octets h = h

frame_more : (cap isn : ℕ) (written : List ℕ) (closed : Bool) (n : ℕ) (f : Frame) (octets : List ℕ) → closed ≡ false → FrameFits cap isn written closed n f
    → FrameFits cap isn (written ++ octets) closed n f
frame_more cap isn written closed n f octets unclosed k = record {
  at = k.at;
  number = k.number;
  text = λ j o e. stands_more written octets (k.at + j) o (k.text j o e);
  syn = k.syn;
  fin = λ e. let p = k.fin e in let bad : closed ≡ true = p.0 in cc;
  within = k.within;
  sent = k.sent;
}

pub keeps-writes : (cap : ℕ) (c : Channel) (s : Sender) (octets : List ℕ) → c.sending ≡ Open s → c.closed ≡ false → length (s.held ++ octets) ≤ cap → Holds cap c
    → Holds cap (record c { written = c.written ++ octets; sending = Open (record s { held = s.held ++ octets }) })
keeps-writes cap c s octets is unclosed room h =
    let k : SenderFits cap h.isn c.written c.closed s h.u h.n = subst (λ v. SendingFits cap h.isn c.written c.closed c.frames v h.u h.n) is h.sending in
    let o = h.order in
    let whole : c.written ++ octets ≡ k.taken ++ (s.held ++ octets) = ap (λ w. w ++ octets) k.text ∙ append_assoc k.taken s.held octets in
    let len : length (c.written ++ octets) ≡ length k.taken + length (s.held ++ octets) = ap length whole ∙ length-append k.taken (s.held ++ octets) in
    let more : length (c.written ++ octets) ≡ length c.written + length octets = length-append c.written octets in
    record {
      isn = h.isn;
      u = h.u;
      r = h.r;
      n = h.n;
      order = record {
        received = o.received;
        sent = o.sent;
        written_first = omega (arith, o.written_first, more);
        within = omega (arith, len, room, k.position);
      };
      text = text_more c.written c.read c.readable c.closed c.end_seen c.ended octets unclosed h.text;
      sending = record {
        una = k.una;
        nxt = k.nxt;
        taken = k.taken;
        text = whole;
        room = room;
        position = k.position;
        syn = k.syn;
        fin = λ e. let p = k.fin e in let bad : c.closed ≡ true = p.0 in cc;
      };
      receiving = receiving_more h.isn c.written (c.read ++ c.readable) c.end_seen c.receiving h.r h.n octets h.receiving;
      frames = λ f among. frame_more cap h.isn c.written c.closed h.n f octets unclosed (h.frames f among);
      acks = h.acks;
    }

-- a flag counts at most one
pub number_of-le : (flag : Bool) → number_of flag ≤ 1
number_of-le true = omega arith
number_of-le false = omega arith

pub keeps-closes : (cap : ℕ) (c : Channel) → Holds cap c → Holds cap (record c { closed = true })
keeps-closes cap c h =
    let o = h.order in
    record {
      isn = h.isn;
      u = h.u;
      r = h.r;
      n = h.n;
      order = record { received = o.received; sent = o.sent; written_first = omega (arith, o.written_first, number_of-le c.closed); within = o.within };
      text = record { rest = h.text.rest; text = h.text.text; seen = λ e. (refl, (h.text.seen e).1); told = h.text.told };
      sending = sending_closed cap h.isn c.written c.closed c.frames c.sending h.u h.n h.sending;
      receiving = h.receiving;
      frames = λ f among. let k = h.frames f among in record {
        at = k.at;
        number = k.number;
        text = k.text;
        syn = k.syn;
        fin = λ e. (refl, (k.fin e).1);
        within = k.within;
        sent = k.sent;
      };
      acks = h.acks;
    }
  where
    sending_closed : (cap isn : ℕ) (written : List ℕ) (closed : Bool) (frames : List Frame) (v : Sending) (u n : ℕ) → SendingFits cap isn written closed frames v u n
        → SendingFits cap isn written true frames v u n
    sending_closed cap isn written closed frames Unopened u n k = k
    sending_closed cap isn written closed frames (Open s) u n k = record {
      una = k.una;
      nxt = k.nxt;
      taken = k.taken;
      text = k.text;
      room = k.room;
      position = k.position;
      syn = k.syn;
      fin = λ e. (refl, (k.fin e).1);
    }
    sending_closed cap isn written closed frames Stopped u n k = k

-- more is sent
pub frame_sent : (cap isn : ℕ) (written : List ℕ) (closed : Bool) (n n' : ℕ) (f : Frame) → n ≤ n' → FrameFits cap isn written closed n f → FrameFits cap isn written closed n' f
frame_sent cap isn written closed n n' f more k = record {
  at = k.at;
  number = k.number;
  text = k.text;
  syn = k.syn;
  fin = k.fin;
  within = k.within;
  sent = omega (arith, k.sent, more);
}

pub receiving_sent : (isn : ℕ) (written got : List ℕ) (end_seen : Bool) (v : Receiving) (r n n' : ℕ) → n ≤ n' → ReceivingFits isn written got end_seen v r n
    → ReceivingFits isn written got end_seen v r n'
receiving_sent isn written got end_seen Waiting r n n' more k = k
receiving_sent isn written got end_seen (Synchronised y) r n n' more k = record {
  rnext = k.rnext;
  position = k.position;
  kept = λ i o e. let p = k.kept i o e in (p.0, omega (arith, p.1, more));
}
receiving_sent isn written got end_seen Gone r n n' more k = k

-- one more frame, and the others
pub frames_more : (P : Frame → Type 0) (f : Frame) (fs : List Frame) → P f → ((g : Frame) → IsAmong g fs → P g) → (g : Frame) → IsAmong g (f ∷ fs) → P g
frames_more P _ _ new old _ (here _ _) = new
frames_more P _ _ new old _ (there g _ _ among) = old g among

pub keeps-emits_syn : (cap : ℕ) (c : Channel) (s : Sender) → c.sending ≡ Open s → s.syn_acked ≡ false → Holds cap c
    → Holds cap (record c {
      sending = Open (record s { nxt = (s.una + 1) % 2 ^ 32 });
      frames = record { number = s.una; octets = []; syn = true; fin = false; written_at = length c.written } ∷ c.frames;
    })
keeps-emits_syn cap c s is unacked h =
    let k : SenderFits cap h.isn c.written c.closed s h.u h.n = subst (λ v. SendingFits cap h.isn c.written c.closed c.frames v h.u h.n) is h.sending in
    let o = h.order in
    let first = k.syn unacked in
    let none : length k.taken ≡ 0 = ap length first.0 in
    let no_syn : number_of s.syn_acked ≡ 0 = ap number_of unacked in
    let no_fin : number_of s.fin_acked ≡ 0 = ap number_of first.2 in
    let u : h.u ≡ 0 = omega (arith, k.position, none, no_syn, no_fin) in
    let n : h.n ≤ 1 = first.1 in
    record {
      isn = h.isn;
      u = h.u;
      r = h.r;
      n = 1;
      order = record { received = o.received; sent = omega (arith, o.sent, n); written_first = omega arith; within = o.within };
      text = h.text;
      sending = record {
        una = k.una;
        nxt = omega (arith, k.una, u);
        taken = k.taken;
        text = k.text;
        room = k.room;
        position = k.position;
        syn = λ e. (first.0, omega arith, first.2);
        fin = k.fin;
      };
      receiving = receiving_sent h.isn c.written (c.read ++ c.readable) c.end_seen c.receiving h.r h.n 1 n h.receiving;
      frames = frames_more (FrameFits cap h.isn c.written c.closed 1) (record { number = s.una; octets = []; syn = true; fin = false; written_at = length c.written }) c.frames
          (record {
            at = 0;
            number = omega (arith, k.una, u);
            text = λ j o e. cc;
            syn = λ _. (refl, refl);
            fin = λ e. cc;
            within = omega (arith, o.within, u);
            sent = omega arith;
          })
          (λ g among. frame_sent cap h.isn c.written c.closed h.n 1 g n (h.frames g among));
      acks = h.acks;
    }

-- a segment without octets, SYN or FIN, at a position of which all that was written is near
keeps-bare : (cap : ℕ) (c : Channel) (s : Sender) (number at : ℕ) → c.sending ≡ Open s → (h : Holds cap c) → number ≡ wire h.isn at → length c.written ≤ at + cap → at ≤ h.n
    → Holds cap (record c { frames = record { number = number; octets = []; syn = false; fin = false; written_at = length c.written } ∷ c.frames })
keeps-bare cap c s number at is h numbered near sent =
    let k : SenderFits cap h.isn c.written c.closed s h.u h.n = subst (λ v. SendingFits cap h.isn c.written c.closed c.frames v h.u h.n) is h.sending in
    let f : Frame = record { number = number; octets = []; syn = false; fin = false; written_at = length c.written } in
    record {
      isn = h.isn;
      u = h.u;
      r = h.r;
      n = h.n;
      order = h.order;
      text = h.text;
      sending = subst (λ v. SendingFits cap h.isn c.written c.closed (f ∷ c.frames) v h.u h.n) (sym is) k;
      receiving = h.receiving;
      frames = frames_more (FrameFits cap h.isn c.written c.closed h.n) f c.frames
          (record { at = at; number = numbered; text = λ j o e. cc; syn = λ e. cc; fin = λ e. cc; within = near; sent = omega (arith, sent) }) h.frames;
      acks = h.acks;
    }

pub keeps-emits_bare : (cap : ℕ) (c : Channel) (s : Sender) → c.sending ≡ Open s → Holds cap c
    → Holds cap (record c { frames = record { number = s.nxt; octets = []; syn = false; fin = false; written_at = length c.written } ∷ c.frames })
keeps-emits_bare cap c s is h =
    let k : SenderFits cap h.isn c.written c.closed s h.u h.n = subst (λ v. SendingFits cap h.isn c.written c.closed c.frames v h.u h.n) is h.sending in
    let o = h.order in
    keeps-bare cap c s s.nxt h.n is h k.nxt (omega (arith, o.within, o.received, o.sent)) (omega arith)

pub keeps-emits_before : (cap : ℕ) (c : Channel) (s : Sender) → c.sending ≡ Open s → s.syn_acked ≡ true → Holds cap c
    → Holds cap (record c { frames = record { number = (s.nxt + (2 ^ 32 - 1)) % 2 ^ 32; octets = []; syn = false; fin = false; written_at = length c.written } ∷ c.frames })
keeps-emits_before cap c s is acked h =
    let k : SenderFits cap h.isn c.written c.closed s h.u h.n = subst (λ v. SendingFits cap h.isn c.written c.closed c.frames v h.u h.n) is h.sending in
    let o = h.order in
    let one : number_of s.syn_acked ≡ 1 = ap number_of acked in
    let text : length c.written ≡ length k.taken + length s.held = ap length k.text ∙ length-append k.taken s.held in
    let some : 1 ≤ h.n = omega (arith, one, k.position, o.received, o.sent) in
    keeps-bare cap c s ((s.nxt + (2 ^ 32 - 1)) % 2 ^ 32) (h.n - 1) is h (omega (arith, k.nxt, some)) (omega (arith, one, text, k.room, k.position, o.received, o.sent)) (omega arith)
