-- Octets that go out, first or again, keep the invariant.
use Rattle.std.proofs.Common.{◌≡◌, ℕ, suc, ◌+◌, ◌-◌, ◌<◌, ◌≤◌, ◌^◌, ◌%◌, max, nat_le, if◌then◌else◌, inl, inr, Bool, true, false, List, [], ◌∷◌, ◌++◌, length, Some, arith, refl, sym, ◌∙◌, ap, subst, append_assoc, length-append}
use Rattle.std.specs.List.{slice_get}
use Rattle.std.proofs.lemmas.Bool.{cond-true, cond-false}
use Rattle.std.proofs.lemmas.Bool.Decides.{leb_tells}
use Rattle.tcp_segment.specs.Wire.{wire, past}
use Rattle.tcp_halves.specs.Numbers.{later_number}
use Rattle.stream_law.specs.Channel.{Sender, Open, Channel, number_of}
use Rattle.stream_law.specs.ChannelSteps.{span}
use Rattle.stream_law.proofs.Invariant.{StandsAt, SenderFits, SendingFits, FrameFits, Holds}
use Rattle.stream_law.proofs.Lists.{slice_get-append_left, slice_get-append_right}
use Rattle.stream_law.proofs.Keeping.{number_of-le, frame_sent, receiving_sent, frames_more}

-- a choice by a comparison
pub chosen : (x y a b c : ℕ) → (x ≤ y → b ≡ c) → (y < x → a ≡ c) → (if nat_le x y then b else a) ≡ c
chosen x y a b c if_le if_lt = elim (leb_tells x y) [ inl le ↦ cond-true (nat_le x y) b a le.0 ∙ if_le le.1 | inr lt ↦ cond-false (nat_le x y) b a lt.0 ∙ if_lt lt.1 ]

-- the later of two numbers is that of the later position
pub later-wire : (isn u n e : ℕ) → u ≤ n → n < u + 2 ^ 31 → e < 2 ^ 31 → later_number (wire isn u) (wire isn n) ((wire isn u + e) % 2 ^ 32) ≡ wire isn (max n (u + e))
later-wire isn u n e first near short =
    let p : past (wire isn n) (wire isn u) ≡ n - u = omega arith in
    let q : past ((wire isn u + e) % 2 ^ 32) (wire isn u) ≡ e = omega arith in
    chosen (past (wire isn n) (wire isn u)) (past ((wire isn u + e) % 2 ^ 32) (wire isn u)) (wire isn n) ((wire isn u + e) % 2 ^ 32) (wire isn (max n (u + e)))
    (λ le. let m : max n (u + e) ≡ u + e = omega (arith, p, q, le) in omega (arith, m))
    (λ lt. let m : max n (u + e) ≡ n = omega (arith, p, q, lt) in omega (arith, m))

-- what is held stands behind what is taken
pub stands_within : (taken before octets after : List ℕ) (j o p : ℕ) → p ≡ 1 + length taken + length before + j → slice_get octets j ≡ Some o
    → StandsAt (taken ++ ((before ++ octets) ++ after)) p o
stands_within taken before octets after j o p is e =
    let place : p ≡ suc (length taken + (length before + j)) = omega (arith, is) in
    let first = slice_get-append_right taken ((before ++ octets) ++ after) (length before + j) in
    let second = slice_get-append_right before (octets ++ after) j in
    let third = slice_get-append_left octets after j o e in
    ap (slice_get (0 ∷ (taken ++ ((before ++ octets) ++ after)))) place ∙ (first ∙ (ap (λ l. slice_get l (length before + j)) (append_assoc before octets after) ∙ (second ∙ third)))

-- a FIN counts only on a closed side
fin-le : (fin closed : Bool) → (fin ≡ true → closed ≡ true) → number_of fin ≤ number_of closed
fin-le true closed h = let e : number_of closed ≡ 1 = ap number_of (h refl) in omega (arith, e)
fin-le false closed h = omega arith

pub keeps-emits_text : (cap : ℕ) → cap + 2 ≤ 2 ^ 30 → (c : Channel) (s : Sender) (before octets after : List ℕ) (fin : Bool) → c.sending ≡ Open s → s.syn_acked ≡ true → s.fin_acked ≡ false
    → s.held ≡ (before ++ octets) ++ after → (fin ≡ true → (c.closed ≡ true) × (after ≡ [])) → Holds cap c
    → Holds cap (record c {
      sending = Open (record s { nxt = later_number s.una s.nxt ((s.una + (length before + span octets fin)) % 2 ^ 32) });
      frames = record { number = (s.una + length before) % 2 ^ 32; octets = octets; syn = false; fin = fin; written_at = length c.written } ∷ c.frames;
    })
keeps-emits_text cap small c s before octets after fin is acked unfinished held last h =
    let k : SenderFits cap h.isn c.written c.closed s h.u h.n = subst (λ v. SendingFits cap h.isn c.written c.closed c.frames v h.u h.n) is h.sending in
    let o = h.order in
    let syn : number_of s.syn_acked ≡ 1 = ap number_of acked in
    let no_fin : number_of s.fin_acked ≡ 0 = ap number_of unfinished in
    let u : h.u ≡ 1 + length k.taken = omega (arith, k.position, syn, no_fin) in
    let len_held : length s.held ≡ length before + length octets + length after = ap length held ∙ (length-append (before ++ octets) after ∙ ap (λ n. n + length after) (length-append before octets)) in
    let len : length c.written ≡ length k.taken + length s.held = ap length k.text ∙ length-append k.taken s.held in
    let whole : c.written ≡ k.taken ++ ((before ++ octets) ++ after) = k.text ∙ ap (λ l. k.taken ++ l) held in
    let one = number_of-le fin in
    let one' = number_of-le c.closed in
    let e = length before + span octets fin in
    let finned : number_of fin ≤ number_of c.closed = fin-le fin c.closed (λ t. (last t).0) in
    let first : h.u ≤ h.n = omega (arith, o.received, o.sent) in
    let near : h.n < h.u + 2 ^ 31 = omega (arith, o.written_first, o.within, small, one') in
    let short : e < 2 ^ 31 = omega (arith, len_held, k.room, small, one) in
    let n' = max h.n (h.u + e) in
    let more : h.n ≤ n' = omega arith in
    record {
      isn = h.isn;
      u = h.u;
      r = h.r;
      n = n';
      order = record { received = o.received; sent = omega (arith, o.sent, more); written_first = omega (arith, o.written_first, u, len, len_held, finned); within = o.within };
      text = h.text;
      sending = record {
        una = k.una;
        nxt = ap (λ v. later_number v s.nxt ((v + e) % 2 ^ 32)) k.una ∙ (ap (λ v. later_number (wire h.isn h.u) v ((wire h.isn h.u + e) % 2 ^ 32)) k.nxt ∙ later-wire h.isn h.u h.n e first near short);
        taken = k.taken;
        text = k.text;
        room = k.room;
        position = k.position;
        syn = λ t. let bad : s.syn_acked ≡ true = acked in cc;
        fin = k.fin;
      };
      receiving = receiving_sent h.isn c.written (c.read ++ c.readable) c.end_seen c.receiving h.r h.n n' more h.receiving;
      frames = frames_more (FrameFits cap h.isn c.written c.closed n') (record { number = (s.una + length before) % 2 ^ 32; octets = octets; syn = false; fin = fin; written_at = length c.written }) c.frames
          (record {
            at = h.u + length before;
            number = omega (arith, k.una);
            text = λ j v e. subst (λ w. StandsAt w (h.u + length before + j) v) (sym whole) (stands_within k.taken before octets after j v (h.u + length before + j) (omega (arith, u)) e);
            syn = λ t. cc;
            fin = λ t. let p = last t in let none : length after ≡ 0 = ap length p.1 in (p.0, omega (arith, u, len, len_held, none));
            within = omega (arith, o.within);
            sent = omega arith;
          })
          (λ g among. frame_sent cap h.isn c.written c.closed h.n n' g more (h.frames g among));
      acks = h.acks;
    }
