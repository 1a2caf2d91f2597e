-- Octets and acknowledgements that arrive keep the invariant.
use Rattle.std.proofs.Common.{◌≡◌, ℕ, suc, ◌+◌, ◌-◌, ◌<◌, ◌≤◌, ◌^◌, ◌%◌, ◌||◌, nat_lt, min, if◌then◌else◌, Bool, true, false, List, [], ◌∷◌, ◌++◌, length, take, drop, get_or, Option, Some, ◌⊎◌, inl, inr, arith, refl, sym, ◌∙◌, ap, subst, append_assoc, length-append, length-drop}
use Rattle.std.specs.List.{slice_get}
use Rattle.std.proofs.lemmas.Option.{slice_get_within, slice_get-get_or}
use Rattle.std.proofs.lemmas.List.{take-append-drop, length-take}
use Rattle.std.proofs.lemmas.Bool.{ltb-true}
use Rattle.std.proofs.lemmas.Bool.Decides.{leb_tells}
use Rattle.tcp_segment.specs.Wire.{wire, past}
use Rattle.stream_law.specs.Channel.{Frame, Ack, Sender, Receiver, Open, Synchronised, Channel, IsAmong, number_of, IsKnown, IsRecent}
use Rattle.stream_law.specs.ChannelSteps.{acknowledged, octets_up_to}
use Rattle.stream_law.proofs.Invariant.{StandsAt, Order, SenderFits, SendingFits, ReceiverFits, ReceivingFits, FrameFits, Holds}
use Rattle.stream_law.proofs.Lists.{slice_get-append_right, is_beginning}
use Rattle.stream_law.proofs.Keeping.{number_of-le}
use Rattle.stream_law.proofs.KeepingArrival.{ack_received}

-- two numbers whose positions are near tell the distance of their positions
pub distance-wire : (isn p r i : ℕ) → p < r + 2 ^ 31 → r < p + 2 ^ 31 → i < 2 ^ 31 → past (wire isn p) (wire isn r) ≡ i → p ≡ r + i
distance-wire isn p r i above below short e = omega arith

-- the same at a number that was added to
pub distance-wire_add : (isn p j r i : ℕ) → p + j < r + 2 ^ 31 → r < p + 2 ^ 31 → i < 2 ^ 31 → past (wire isn p + j) (wire isn r) ≡ i → p + j ≡ r + i
distance-wire_add isn p j r i above below short e = omega arith

-- what is behind RCV.NXT is behind what is in order
behind : (got rest : List ℕ) (seen : Bool) (r i o : ℕ) → (seen ≡ true → rest ≡ []) → r ≡ 1 + length got + number_of seen → StandsAt (got ++ rest) (r + i) o → slice_get rest i ≡ Some o
behind got rest true r i o none position stands =
    let empty : length rest ≡ 0 = ap length (none refl) in
    let within = slice_get_within (0 ∷ (got ++ rest)) (r + i) o stands in
    absurd (omega (arith, within, position, empty, length-append got rest))
behind got rest false r i o none position stands =
    let place : r + i ≡ suc (length got + i) = omega (arith, position) in
    sym (slice_get-append_right got rest i) ∙ (sym (ap (slice_get (0 ∷ (got ++ rest))) place) ∙ stands)

front_none : (xs ys : List ℕ) → xs ++ ys ≡ [] → xs ≡ []
front_none [] ys e = refl
front_none (x ∷ xs) ys e = cc

back_none : (xs ys : List ℕ) → xs ++ ys ≡ [] → ys ≡ []
back_none [] ys e = e
back_none (x ∷ xs) ys e = cc

none_long : (xs : List ℕ) → length xs ≡ 0 → xs ≡ []
none_long [] e = refl
none_long (x ∷ xs) e = absurd (omega arith)

-- the end is counted once
count-or : (a b : Bool) → (b ≡ true → a ≡ false) → number_of (a || b) ≡ number_of a + number_of b
count-or true true once = let bad : true ≡ false = once refl in cc
count-or true false once = omega arith
count-or false true once = omega arith
count-or false false once = omega arith

or_cases : (a b : Bool) → (a || b) ≡ true → (a ≡ true) ⊎ (b ≡ true)
or_cases true b e = inl refl
or_cases false b e = inr e

or-true_left : (a b : Bool) → a ≡ true → (a || b) ≡ true
or-true_left true b e = refl
or-true_left false b e = cc

pub record Near (cap limit : ℕ) : Type 0 where
  pub buffer : cap + 2 ≤ 2 ^ 30
  pub recency : limit ≤ 2 ^ 30

-- an octet that is known at a distance stands there
known : (cap limit : ℕ) → Near cap limit → (isn : ℕ) (written got : List ℕ) (closed end_seen : Bool) (u r n : ℕ) (y : Receiver) (f : Frame)
    → Order cap written closed u r n → ReceiverFits isn written got end_seen y r n → FrameFits cap isn written closed n f → IsRecent limit written f.written_at
    → (i o : ℕ) → IsKnown y f i o → StandsAt written (r + i) o × (r + i < n)
known cap limit small isn written got closed end_seen u r n y f o w k recent i v (inl e) = w.kept i v e
known cap limit small isn written got closed end_seen u r n y f o w k recent i v (inr e) =
    let within = slice_get_within f.octets e.0 v e.1 in
    let one = number_of-le closed in
    let above : k.at + e.0 < r + 2 ^ 31 = omega (arith, within, k.sent, o.written_first, o.within, o.received, small.buffer, one) in
    let below : r < k.at + 2 ^ 31 = omega (arith, o.sent, o.written_first, recent, k.within, small.buffer, small.recency, one) in
    let e' : past (wire isn k.at + e.0) (wire isn r) ≡ i = ap (λ a. past (a + e.0) (wire isn r)) (sym k.number) ∙ (ap (λ b. past (f.number + e.0) b) (sym w.rnext) ∙ e.2) in
    let same : k.at + e.0 ≡ r + i = distance-wire_add isn k.at e.0 r i above below e.3 e' in
    (subst (λ p. StandsAt written p v) same (k.text e.0 v e.1), omega (arith, same, within, k.sent))

pub keeps-delivers : (cap limit : ℕ) → Near cap limit → (c : Channel) (y : Receiver) (f : Frame) (gained : List ℕ) (kept : ℕ → Option ℕ) (fin : Bool)
    → c.receiving ≡ Synchronised y → IsAmong f c.frames → IsRecent limit c.written f.written_at
    → ((i o : ℕ) → slice_get gained i ≡ Some o → IsKnown y f i o)
    → ((i o : ℕ) → kept i ≡ Some o → IsKnown y f (length gained + number_of fin + i) o)
    → (fin ≡ true → (f.fin ≡ true) × (c.end_seen ≡ false) × (past (f.number + length f.octets) y.rnext ≡ length gained)) → Holds cap c
    → Holds cap (record c {
      readable = c.readable ++ gained;
      end_seen = c.end_seen || fin;
      receiving = Synchronised (record { rnext = (y.rnext + (length gained + number_of fin)) % 2 ^ 32; kept = kept });
    })
keeps-delivers cap limit small c y f gained kept fin is among recent gains keeps ends h =
    let got = c.read ++ c.readable in
    let w : ReceiverFits h.isn c.written got c.end_seen y h.r h.n = subst (λ v. ReceivingFits h.isn c.written got c.end_seen v h.r h.n) is h.receiving in
    let o = h.order in
    let t = h.text in
    let k = h.frames f among in
    let stands = known cap limit small h.isn c.written got c.closed c.end_seen h.u h.r h.n y f o w k recent in
    let in_rest : (i v : ℕ) → slice_get gained i ≡ Some v → slice_get t.rest i ≡ Some v =
    λ i v e. behind got t.rest c.end_seen h.r i v (λ s. (t.seen s).1) w.position (subst (λ l. StandsAt l (h.r + i) v) t.text (stands i v (gains i v e)).0) in
    let rest : t.rest ≡ gained ++ drop (length gained) t.rest = is_beginning gained t.rest in_rest in
    let left = drop (length gained) t.rest in
    let got' : c.read ++ (c.readable ++ gained) ≡ got ++ gained = sym (append_assoc c.read c.readable gained) in
    let text' : c.written ≡ (c.read ++ (c.readable ++ gained)) ++ left =
    t.text ∙ (ap (λ l. got ++ l) rest ∙ (sym (append_assoc got gained left) ∙ ap (λ l. l ++ left) (sym got'))) in
    let one = number_of-le c.closed in
    let len : length c.written ≡ length got + length t.rest = ap length t.text ∙ length-append got t.rest in
    let len_rest : length t.rest ≡ length gained + length left = ap length rest ∙ length-append gained left in
    let len_got : length (c.read ++ (c.readable ++ gained)) ≡ length got + length gained = ap length got' ∙ length-append got gained in
    let at_fin : fin ≡ true → (k.at + length f.octets ≡ h.r + length gained) × (k.at + length f.octets ≡ 1 + length c.written) × (c.closed ≡ true) × (number_of c.end_seen ≡ 0) × (number_of f.fin ≡ 1) = λ e.
    let p = ends e in
    let q = k.fin p.0 in
    let unseen : number_of c.end_seen ≡ 0 = ap number_of p.1 in
    let counted : number_of f.fin ≡ 1 = ap number_of p.0 in
    let above : k.at + length f.octets < h.r + 2 ^ 31 = omega (arith, q.1, o.within, o.received, small.buffer) in
    let below : h.r < k.at + 2 ^ 31 = omega (arith, o.sent, o.written_first, recent, k.within, small.buffer, small.recency, one) in
    let short : length gained < 2 ^ 31 = omega (arith, len, len_rest, w.position, o.within, o.received, small.buffer) in
    let e' : past (wire h.isn k.at + length f.octets) (wire h.isn h.r) ≡ length gained =
    ap (λ a. past (a + length f.octets) (wire h.isn h.r)) (sym k.number) ∙ (ap (λ b. past (f.number + length f.octets) b) (sym w.rnext) ∙ p.2) in
    (distance-wire_add h.isn k.at (length f.octets) h.r (length gained) above below short e', q.1, q.0, unseen, counted) in
    let reached : h.r + (length gained + number_of fin) ≤ h.n = reaches gained fin h.r h.n o.sent (λ i v e. (stands i v (gains i v e)).1) (λ e. let q = at_fin e in omega (arith, q.0, q.4, k.sent)) in
    record {
      isn = h.isn;
      u = h.u;
      r = h.r + (length gained + number_of fin);
      n = h.n;
      order = record { received = omega (arith, o.received); sent = reached; written_first = o.written_first; within = o.within };
      text = record {
        rest = left;
        text = text';
        seen = λ e. elim (or_cases c.end_seen fin e) [
          | inl s ↦ let q = t.seen s in (q.0, back_none gained left (sym rest ∙ q.1))
          | inr s ↦ let q = at_fin s in (q.2, none_long left (omega (arith, q.0, q.1, q.3, len, len_rest, w.position)))
        ];
        told = λ e. let q = t.told e in let none = front_none gained left (sym rest ∙ (t.seen q.0).1) in
            (or-true_left c.end_seen fin q.0, ap (λ l. l ++ gained) q.1 ∙ none);
      };
      sending = h.sending;
      receiving = record {
        rnext = omega (arith, w.rnext);
        position = omega (arith, w.position, len_got, count-or c.end_seen fin (λ e. (ends e).1));
        kept = λ i v e.
            let q = stands (length gained + number_of fin + i) v (keeps i v e) in
            let place : h.r + (length gained + number_of fin + i) ≡ h.r + (length gained + number_of fin) + i = omega arith in
            (subst (λ p. StandsAt c.written p v) place q.0, omega (arith, q.1));
      };
      frames = h.frames;
      acks = λ a among'. ack_received cap h.isn h.r (h.r + (length gained + number_of fin)) a (omega arith) (h.acks a among');
    }
  where
    reaches : (gained : List ℕ) (fin : Bool) (r n : ℕ) → r ≤ n → ((i v : ℕ) → slice_get gained i ≡ Some v → r + i < n) → (fin ≡ true → r + length gained + 1 ≤ n) → r + (length gained + number_of fin) ≤ n
    reaches gained true r n first each last = let e = last refl in omega (arith, e)
    reaches [] false r n first each last = omega (arith, first)
    reaches (x ∷ xs) false r n first each last =
        let e = each (length xs) (get_or (x ∷ xs) (length xs) 0) (slice_get-get_or (x ∷ xs) (length xs) 0 (omega arith)) in
        omega (arith, e)

pub keeps-acknowledges : (cap limit : ℕ) → Near cap limit → (c : Channel) (s : Sender) (a : Ack) → c.sending ≡ Open s → IsAmong a c.acks → IsRecent limit c.written a.written_at
    → 0 < past a.number s.una → past a.number s.una < 2 ^ 31 → Holds cap c → Holds cap (record c { sending = Open (acknowledged s a.number) })
keeps-acknowledges cap limit small c s a is among recent some short h =
    let k : SenderFits cap h.isn c.written c.closed s h.u h.n = subst (λ v. SendingFits cap h.isn c.written c.closed c.frames v h.u h.n) is h.sending in
    let o = h.order in
    let p = h.acks a among in
    let one = number_of-le c.closed in
    let above : p.at < h.u + 2 ^ 31 = omega (arith, p.received, o.sent, o.written_first, o.within, small.buffer, one) in
    let below : h.u < p.at + 2 ^ 31 = omega (arith, o.received, o.sent, o.written_first, recent, p.within, small.buffer, small.recency, one) in
    let count = past a.number s.una in
    let e : past (wire h.isn p.at) (wire h.isn h.u) ≡ count = ap (λ n. past n (wire h.isn h.u)) (sym p.number) ∙ ap (λ b. past a.number b) (sym k.una) in
    let same : p.at ≡ h.u + count = distance-wire h.isn p.at h.u count above below short e in
    let len : length c.written ≡ length k.taken + length s.held = ap length k.text ∙ length-append k.taken s.held in
    let octets = octets_up_to s a.number in
    let unfinished : s.fin_acked ≡ false = not_finished s.fin_acked (λ t.
    let q = k.fin t in
    let none : length s.held ≡ 0 = ap length q.1 in
    let counted : number_of s.fin_acked ≡ 1 = ap number_of t in
    let acked : number_of s.syn_acked ≡ 1 = syn_acked_first s.syn_acked (λ v. let r = k.syn v in let bad : s.fin_acked ≡ true = t in let bad' : s.fin_acked ≡ false = r.2 in cc) in
    omega (arith, same, some, p.received, o.sent, o.written_first, k.position, len, none, counted, acked, one)) in
    let no_fin : number_of s.fin_acked ≡ 0 = ap number_of unfinished in
    let counts : octets + 1 ≡ number_of s.syn_acked + count = numbers s.syn_acked count some in
    let reached : length k.taken + octets + 1 ≡ p.at = omega (arith, same, k.position, no_fin, counts) in
    let cut : take octets s.held ++ drop octets s.held ≡ s.held = take-append-drop octets s.held in
    let taken = k.taken ++ take octets s.held in
    let len_taken : length taken ≡ length k.taken + min octets (length s.held) = length-append k.taken (take octets s.held) ∙ ap (λ n. length k.taken + n) (length-take octets s.held) in
    let len_drop : length (drop octets s.held) ≡ length s.held - octets = length-drop octets s.held in
    let fin = s.fin_acked || nat_lt (length s.held) octets in
    let at_most : octets ≤ length s.held + number_of c.closed = omega (arith, reached, p.received, o.sent, o.written_first, len) in
    record {
      isn = h.isn;
      u = p.at;
      r = h.r;
      n = h.n;
      order = record { received = p.received; sent = o.sent; written_first = o.written_first; within = omega (arith, o.within, same) };
      text = h.text;
      sending = record {
        una = p.number;
        nxt = k.nxt;
        taken = taken;
        text = k.text ∙ (ap (λ l. k.taken ++ l) (sym cut) ∙ sym (append_assoc k.taken (take octets s.held) (drop octets s.held)));
        room = omega (arith, len_drop, k.room);
        position = place s.fin_acked (length s.held) octets (length k.taken) (length taken) p.at (number_of c.closed) unfinished one at_most reached len_taken;
        syn = λ e. cc;
        fin = λ e. let past_end = past_held s.fin_acked (length s.held) octets unfinished e in
            (is_closed c.closed (omega (arith, past_end, at_most)), none_long (drop octets s.held) (omega (arith, len_drop, past_end)));
      };
      receiving = h.receiving;
      frames = h.frames;
      acks = h.acks;
    }
  where
    not_finished : (flag : Bool) → (flag ≡ true → ⊥) → flag ≡ false
    not_finished true h = absurd (h refl)
    not_finished false h = refl

    syn_acked_first : (flag : Bool) → (flag ≡ false → ⊥) → number_of flag ≡ 1
    syn_acked_first true h = refl
    syn_acked_first false h = absurd (h refl)

    numbers : (flag : Bool) (count : ℕ) → 0 < count → (count - number_of (if flag then false else true)) + 1 ≡ number_of flag + count
    numbers true count some = omega arith
    numbers false count some = omega arith

    is_closed : (flag : Bool) → 1 ≤ number_of flag → flag ≡ true
    is_closed true h = refl
    is_closed false h = absurd (omega arith)

    past_held : (flag : Bool) (held octets : ℕ) → flag ≡ false → (flag || nat_lt held octets) ≡ true → held < octets
    past_held true held octets e h = cc
    past_held false held octets e h = ltb-true held octets h

    place : (flag : Bool) (held octets before taken at closed : ℕ) → flag ≡ false → closed ≤ 1 → octets ≤ held + closed → before + octets + 1 ≡ at → taken ≡ before + min octets held
        → at ≡ 1 + taken + number_of (flag || nat_lt held octets)
    place true held octets before taken at closed e one most reached len = cc
    place false held octets before taken at closed e one most reached len = elim (leb_tells (suc held) octets) [
      | inl t ↦ let counted : number_of (nat_lt held octets) ≡ 1 = ap number_of t.0 in omega (arith, t.1, counted)
      | inr t ↦ let counted : number_of (nat_lt held octets) ≡ 0 = ap number_of t.0 in omega (arith, t.1, counted)
    ]
