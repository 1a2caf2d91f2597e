-- What a connection hears, and what its caller reads, is a step of each of its two channels.
use Rattle.std.proofs.Common.{◌≡◌, ℕ, zero, suc, ◌+◌, ◌-◌, ◌<◌, ◌≤◌, ◌^◌, ◌%◌, ◌||◌, ◌&&◌, ◌==◌, nat_lt, nat_le, if◌then◌else◌, not, Bool, true, false, List, [], ◌∷◌, ◌++◌, length, take, drop, Option, Some, None, inl, inr, arith, refl, sym, ◌∙◌, ap, subst, append-nil}
use Rattle.std.specs.List.{slice_get}
use Rattle.std.proofs.lemmas.List.{take-append-drop, length-take}
use Rattle.std.proofs.lemmas.Option.{slice_get_within}
use Rattle.std.proofs.lemmas.Bool.{leb-true, eqb-true}
use Rattle.std.proofs.lemmas.Bool.Decides.{leb_tells}
use Rattle.stream_buf.specs.Receiving.{ReceiveView, front, behind_front, laid, is_taken}
use Rattle.tcp_segment.specs.Wire.{past}
use Rattle.tcp_segment.specs.Segment.{Segment}
use Rattle.tcp_halves.specs.Numbers.{is_before}
use Rattle.tcp_state.specs.View.{View, is_opening, is_syn_sent, is_write_finished}
use Rattle.tcp_halves.specs.Halves.{Sending as SendingHalf, Receiving as ReceivingHalf}
use Rattle.tcp_halves.specs.Stream.{outstanding, is_new_ack, after_acknowledged, buffer_of, distance_of, octets_within, octets_gained, after_octets, after_end, receive_window, stands_next}
use Rattle.tcp_state.specs.Calls.{recv_count}
use Rattle.stream_law.specs.Channel.{Open, Waiting, Synchronised, Channel, IsAmong, number_of, IsKnown, IsRecent}
use Rattle.stream_law.specs.ChannelSteps.{Step, synchronises, delivers, acknowledges, octets_up_to, reads, nothing_kept}
use Rattle.stream_law.specs.ChannelViews.{sender_of, kept_at, receiver_of, SendsInto, ReceivesFrom, frame_of, ack_of}
use Rattle.stream_law.proofs.Sizes.{most_held}
use Rattle.stream_law.proofs.Kept.{front_stands, behind_stands, laid_within, at_free}

-- a place of what is cut out of a list
slice_get-take : (n : ℕ) (xs : List ℕ) (i o : ℕ) → slice_get (take n xs) i ≡ Some o → slice_get xs i ≡ Some o
slice_get-take zero xs i o e = let bad : slice_get [] i ≡ Some o = e in cc
slice_get-take (suc n) [] i o e = e
slice_get-take (suc n) (x ∷ xs) zero o e = e
slice_get-take (suc n) (x ∷ xs) (suc i) o e = slice_get-take n xs i o e

slice_get-drop : (k : ℕ) (xs : List ℕ) (i o : ℕ) → slice_get (drop k xs) i ≡ Some o → slice_get xs (k + i) ≡ Some o
slice_get-drop zero xs i o e = subst (λ j. slice_get xs j ≡ Some o) (omega arith) e
slice_get-drop (suc k) [] i o e = let bad : slice_get [] i ≡ Some o = e in cc
slice_get-drop (suc k) (x ∷ xs) i o e =
    let place : suc (k + i) ≡ suc k + i = omega arith in
    subst (λ j. slice_get (x ∷ xs) j ≡ Some o) place (slice_get-drop k xs i o e)

-- the segment has this octet, at this distance past RCV.NXT
abbrev IsOfFrame : ReceivingHalf → Segment → ℕ → ℕ → Type 0
IsOfFrame y s distance octet = (j : ℕ) × (slice_get s.octets j ≡ Some octet) × (past (s.number + j) y.rnext ≡ distance) × (distance < 2 ^ 31)

-- those of its octets that lie in the window stand there one after another
within_known : (y : ReceivingHalf) (s : Segment) → length s.octets < 2 ^ 31 → s.number < 2 ^ 32 → y.rnext < 2 ^ 32 → receive_window y ≤ most_held
    → (k o : ℕ) → slice_get (octets_within y s.number s.octets) k ≡ Some o → IsOfFrame y s (distance_of y s.number + k) o
within_known y s short number rnext window k o e = of (is_before y.rnext s.number) e
  where
    of : (ahead : Bool)
        → slice_get (if ahead then take (receive_window y - past s.number y.rnext) s.octets else take (receive_window y) (drop (past y.rnext s.number) s.octets)) k ≡ Some o
        → IsOfFrame y s ((if ahead then past s.number y.rnext else 0) + k) o
    of true e =
        let cut = slice_get_within (take (receive_window y - past s.number y.rnext) s.octets) k o e in
        let size = length-take (receive_window y - past s.number y.rnext) s.octets in
        let below : past s.number y.rnext + k < 2 ^ 31 = omega (arith, cut, size, window) in
        (k, slice_get-take (receive_window y - past s.number y.rnext) s.octets k o e, omega (arith, below, number, rnext), below)
    of false e =
        let there = slice_get-drop (past y.rnext s.number) s.octets k o (slice_get-take (receive_window y) (drop (past y.rnext s.number) s.octets) k o e) in
        let within = slice_get_within s.octets (past y.rnext s.number + k) o there in
        (past y.rnext s.number + k, there, omega (arith, number, rnext, within, short), omega (arith, within, short))

-- what lies in the window has a place
within_places : (y : ReceivingHalf) (s : Segment) → receive_window y ≤ length y.kept → 0 < length (octets_within y s.number s.octets)
    → distance_of y s.number + length (octets_within y s.number s.octets) ≤ length y.kept
within_places y s room some = of (is_before y.rnext s.number) some
  where
    of : (ahead : Bool)
        → 0 < length (if ahead then take (receive_window y - past s.number y.rnext) s.octets else take (receive_window y) (drop (past y.rnext s.number) s.octets))
        → (if ahead then past s.number y.rnext else 0) + length (if ahead then take (receive_window y - past s.number y.rnext) s.octets else take (receive_window y) (drop (past y.rnext s.number) s.octets)) ≤ length y.kept
    of true some = omega (arith, some, length-take (receive_window y - past s.number y.rnext) s.octets, room)
    of false some = omega (arith, some, length-take (receive_window y) (drop (past y.rnext s.number) s.octets), room)

-- the window advertised is no longer than a buffer, and each octet that it has room for has a place
pub record HasRoom (y : ReceivingHalf) : Type 0 where
  pub window : receive_window y ≤ most_held
  pub places : receive_window y ≤ length y.kept

-- the places once the octets of a segment are laid over what is kept
abbrev laid_by : ReceivingHalf → Segment → List (Option ℕ)
laid_by y s = laid y.kept (distance_of y s.number) (octets_within y s.number s.octets)

-- an octet there is known, by what was kept or by the frame
laid_known : (y : ReceivingHalf) (s : Segment) (written_at : ℕ) → length s.octets < 2 ^ 31 → s.number < 2 ^ 32 → y.rnext < 2 ^ 32 → HasRoom y
    → (i o : ℕ) → kept_at (laid_by y s) i ≡ Some o → IsKnown (receiver_of y) (frame_of s written_at) i o
laid_known y s written_at short number rnext room i o e = elim (laid_within y.kept (distance_of y s.number) (octets_within y s.number s.octets) i o (within_places y s room.places) e) [
  | inl t ↦ inl t
  | inr t ↦
      let f = within_known y s short number rnext room.window t.0 o t.1 in
      inr (f.0, f.1, f.2 ∙ t.2, subst (λ (d : ℕ). d < 2 ^ 31) t.2 f.3)
]

-- what octets that arrive make of the receiving half: what becomes readable is known, and so is what is kept behind it
record Brought (y : ReceivingHalf) (s : Segment) (written_at : ℕ) : Type 0 where
  pub gained : (i o : ℕ) → slice_get (octets_gained y s.number s.octets) i ≡ Some o → IsKnown (receiver_of y) (frame_of s written_at) i o
  pub kept : (i o : ℕ) → kept_at (after_octets y s.number s.octets).kept i ≡ Some o → IsKnown (receiver_of y) (frame_of s written_at) (length (octets_gained y s.number s.octets) + number_of false + i) o
  pub readable : y.readable ++ octets_gained y s.number s.octets ≡ (after_octets y s.number s.octets).readable

brought : (y : ReceivingHalf) (s : Segment) (written_at : ℕ) → length s.octets < 2 ^ 31 → s.number < 2 ^ 32 → y.rnext < 2 ^ 32 → HasRoom y → Brought y s written_at
brought y s written_at short number rnext room =
    let taken = is_taken (buffer_of y) (distance_of y s.number) (octets_within y s.number s.octets) in
    record { gained = gained_known taken; kept = kept_known taken; readable = readable taken }
  where
    Known : ℕ → ℕ → Type 0
    Known i o = IsKnown (receiver_of y) (frame_of s written_at) i o

    buffer : Bool → ReceiveView
    buffer taken = if taken then record (buffer_of y) { readable = y.readable ++ front (laid_by y s); kept = behind_front (laid_by y s) } else buffer_of y

    known : (i o : ℕ) → kept_at (laid_by y s) i ≡ Some o → Known i o
    known = laid_known y s written_at short number rnext room

    gained_known : (taken : Bool) (i o : ℕ) → slice_get (if taken then front (laid_by y s) else []) i ≡ Some o → Known i o
    gained_known true i o e = known i o (front_stands (laid_by y s) i o e)
    gained_known false i o e = let bad : slice_get [] i ≡ Some o = e in cc

    kept_known : (taken : Bool) (i o : ℕ) → kept_at (buffer taken).kept i ≡ Some o → Known (length (if taken then front (laid_by y s) else []) + number_of false + i) o
    kept_known true i o e =
        let place : length (front (laid_by y s)) + i ≡ length (front (laid_by y s)) + number_of false + i = omega arith in
        known (length (front (laid_by y s)) + number_of false + i) o (ap (kept_at (laid_by y s)) (sym place) ∙ (sym (behind_stands (laid_by y s) i) ∙ e))
    kept_known false i o e =
        let place : 0 + number_of false + i ≡ i = omega arith in
        inl (ap (kept_at y.kept) place ∙ e)

    readable : (taken : Bool) → y.readable ++ (if taken then front (laid_by y s) else []) ≡ (buffer taken).readable
    readable true = refl
    readable false = append-nil y.readable

-- octets that arrive in a synchronised connection
pub hears-octets : (cap limit : ℕ) (v : View) (d : Channel) (s : Segment) (written_at : ℕ) → is_syn_sent v.state ≡ false → length s.octets < 2 ^ 31 → s.number < 2 ^ 32 → v.receiving.rnext < 2 ^ 32
    → HasRoom v.receiving → ReceivesFrom v d → IsAmong (frame_of s written_at) d.frames → IsRecent limit d.written written_at
    → Step cap limit d (record d {
      readable = (after_octets v.receiving s.number s.octets).readable;
      receiving = Synchronised (receiver_of (after_octets v.receiving s.number s.octets));
    })
hears-octets cap limit v d s written_at synchronised short number rnext room shows among recent =
    let y = receiver_of v.receiving in
    let new = octets_gained v.receiving s.number s.octets in
    let kept = kept_at (after_octets v.receiving s.number s.octets).kept in
    let b = brought v.receiving s written_at short number rnext room in
    let is : d.receiving ≡ Synchronised y = shows.receiving ∙ ap (λ b. if b then Waiting else Synchronised y) synchronised in
    let same_readable : d.readable ++ new ≡ (after_octets v.receiving s.number s.octets).readable = ap (λ l. l ++ new) shows.readable ∙ b.readable in
    let same_end : (d.end_seen || false) ≡ d.end_seen = or-false d.end_seen in
    let same_next : (y.rnext + (length new + number_of false)) % 2 ^ 32 ≡ (v.receiving.rnext + length new) % 2 ^ 32 = ap (λ n. (y.rnext + n) % 2 ^ 32) (omega arith) in
    let step = delivers d y (frame_of s written_at) new kept false is among recent b.gained b.kept (λ e. let bad : false ≡ true = e in cc) in
    subst (λ l. Step cap limit d (record d { readable = l; receiving = Synchronised (record { rnext = (v.receiving.rnext + length new) % 2 ^ 32; kept = kept }) })) same_readable
    (subst (λ e. Step cap limit d (record d { readable = d.readable ++ new; end_seen = e; receiving = Synchronised (record { rnext = (v.receiving.rnext + length new) % 2 ^ 32; kept = kept }) })) same_end
    (subst (λ n. Step cap limit d (record d { readable = d.readable ++ new; end_seen = d.end_seen || false; receiving = Synchronised (record { rnext = n; kept = kept }) })) same_next step))
  where
    or-false : (b : Bool) → (b || false) ≡ b
    or-false true = refl
    or-false false = refl

as_it_was : {a : Bool} (b : Bool) → a ≡ false → (b || a) ≡ b
as_it_was true e = refl
as_it_was false e = e

or_true : {a : Bool} (b : Bool) → a ≡ true → (b || a) ≡ true
or_true true e = refl
or_true false e = e

is_past : (a b : ℕ) → a < b → nat_lt a b ≡ true
is_past a b lt = elim (leb_tells (suc a) b) [ inl t ↦ t.0 | inr t ↦ absurd (omega (arith, t.1, lt)) ]

-- the peer's FIN, which stands next in order
pub hears-fin : (cap limit : ℕ) (v : View) (d : Channel) (s : Segment) (written_at : ℕ) → is_syn_sent v.state ≡ false → s.flags.fin ≡ true → stands_next v.receiving ((s.number + length s.octets) % 2 ^ 32) ≡ true
    → s.number < 2 ^ 32 → v.receiving.rnext < 2 ^ 32 → d.end_seen ≡ false
    → ReceivesFrom v d → IsAmong (frame_of s written_at) d.frames → IsRecent limit d.written written_at
    → Step cap limit d (record d { end_seen = true; receiving = Synchronised (receiver_of (after_end v.receiving)) })
hears-fin cap limit v d s written_at synchronised fin next number rnext unseen shows among recent =
    let y = receiver_of v.receiving in
    let none : List ℕ = [] in
    let kept = kept_at (after_end v.receiving).kept in
    let is : d.receiving ≡ Synchronised y = shows.receiving ∙ ap (λ b. if b then Waiting else Synchronised y) synchronised in
    let place : (s.number + length s.octets) % 2 ^ 32 ≡ v.receiving.rnext = eqb-true ((s.number + length s.octets) % 2 ^ 32) v.receiving.rnext (first_of ((s.number + length s.octets) % 2 ^ 32 == v.receiving.rnext) (nat_lt 0 (receive_window v.receiving)) next) in
    let reach : past (s.number + length s.octets) y.rnext ≡ 0 = at_hand s.number (length s.octets) v.receiving.rnext place rnext in
    let same_end : (d.end_seen || true) ≡ true = or_true d.end_seen refl in
    let step = delivers d y (frame_of s written_at) none kept true is among recent
    (λ i o e. let bad : slice_get none i ≡ Some o = e in cc)
    (λ i o e. let nothing : Option ℕ = None in let bad : nothing ≡ Some o = sym (at_free (length v.receiving.kept) i) ∙ e in cc)
    (λ e. (fin, unseen, reach)) in
    subst (λ l. Step cap limit d (record d { readable = l; end_seen = true; receiving = Synchronised (record { rnext = (v.receiving.rnext + 1) % 2 ^ 32; kept = kept }) })) (append-nil d.readable)
    (subst (λ b. Step cap limit d (record d { readable = d.readable ++ none; end_seen = b; receiving = Synchronised (record { rnext = (v.receiving.rnext + 1) % 2 ^ 32; kept = kept }) })) same_end step)
  where
    first_of : (a b : Bool) → (a && b) ≡ true → a ≡ true
    first_of true b e = refl
    first_of false b e = e

    at_hand : (number len rnext : ℕ) → (number + len) % 2 ^ 32 ≡ rnext → rnext < 2 ^ 32 → past (number + len) rnext ≡ 0
    at_hand number len rnext e fits = omega (arith, e, fits)

not_past : (a b : ℕ) → b ≤ a → nat_lt a b ≡ false
not_past a b le = elim (leb_tells (suc a) b) [ inl t ↦ absurd (omega (arith, t.1, le)) | inr t ↦ t.0 ]

-- what a new acknowledgement reaches
pub bounds_of : (h : SendingHalf) (ack : ℕ) → is_new_ack h ack ≡ true → (0 < past ack h.una) × (past ack h.una ≤ outstanding h)
bounds_of h ack e = elim (leb_tells (suc 0) (past ack h.una)) [
  | inl t ↦ (t.1, leb-true (past ack h.una) (outstanding h) (sym (ap (λ b. b && nat_le (past ack h.una) (outstanding h)) t.0) ∙ e))
  | inr t ↦ let bad : false ≡ true = sym (ap (λ b. b && nat_le (past ack h.una) (outstanding h)) t.0) ∙ e in cc
]

-- an acknowledgement of octets, with none of our FIN
pub hears-ack : (cap limit : ℕ) (v : View) (c : Channel) (s : Segment) (written_at : ℕ) → is_opening v.state ≡ false → past s.acknowledgement v.sending.una ≤ length v.sending.held → length v.sending.held ≤ most_held
    → is_new_ack v.sending s.acknowledgement ≡ true → SendsInto v c → IsAmong (ack_of s written_at) c.acks → IsRecent limit c.written written_at
    → Step cap limit c (record c { sending = Open (record (sender_of v) { held = (after_acknowledged v.sending s.acknowledgement).held; una = (after_acknowledged v.sending s.acknowledgement).una }) })
hears-ack cap limit v c s written_at opened within held new shows among recent =
    let w = sender_of v in
    let ack = s.acknowledgement in
    let acked : w.syn_acked ≡ true = ap not opened in
    let bounds = bounds_of v.sending ack new in
    let count : octets_up_to w ack ≡ past ack v.sending.una = ap (λ b. past ack v.sending.una - number_of (if b then false else true)) acked ∙ omega arith in
    let held' : drop (octets_up_to w ack) w.held ≡ drop (past ack v.sending.una) v.sending.held = ap (λ n. drop n w.held) count in
    let no_fin : (w.fin_acked || nat_lt (length w.held) (octets_up_to w ack)) ≡ w.fin_acked = as_it_was w.fin_acked (not_past (length w.held) (octets_up_to w ack) (omega (arith, count, within))) in
    let step = acknowledges c w (ack_of s written_at) shows.sending among recent bounds.0 (omega (arith, within, held)) in
    subst (λ l. Step cap limit c (record c { sending = Open (record w { held = l; una = ack }) })) held'
    (subst (λ b. Step cap limit c (record c { sending = Open (record w { held = drop (octets_up_to w ack) w.held; una = ack; syn_acked = b }) })) (sym acked)
    (subst (λ b. Step cap limit c (record c { sending = Open (record w { held = drop (octets_up_to w ack) w.held; una = ack; syn_acked = true; fin_acked = b }) })) no_fin step))

-- an acknowledgement past all that is held, of our FIN behind it
pub hears-fin_ack : (cap limit : ℕ) (v : View) (c : Channel) (s : Segment) (written_at : ℕ) → is_opening v.state ≡ false → length v.sending.held < past s.acknowledgement v.sending.una → outstanding v.sending < 2 ^ 31
    → is_new_ack v.sending s.acknowledgement ≡ true → SendsInto v c → IsAmong (ack_of s written_at) c.acks → IsRecent limit c.written written_at
    → Step cap limit c (record c { sending = Open (record (sender_of v) { held = (after_acknowledged v.sending s.acknowledgement).held; una = (after_acknowledged v.sending s.acknowledgement).una; fin_acked = true }) })
hears-fin_ack cap limit v c s written_at opened beyond flight new shows among recent =
    let w = sender_of v in
    let ack = s.acknowledgement in
    let acked : w.syn_acked ≡ true = ap not opened in
    let bounds = bounds_of v.sending ack new in
    let count : octets_up_to w ack ≡ past ack v.sending.una = ap (λ b. past ack v.sending.una - number_of (if b then false else true)) acked ∙ omega arith in
    let held' : drop (octets_up_to w ack) w.held ≡ drop (past ack v.sending.una) v.sending.held = ap (λ n. drop n w.held) count in
    let fin : (w.fin_acked || nat_lt (length w.held) (octets_up_to w ack)) ≡ true = or_true w.fin_acked (is_past (length w.held) (octets_up_to w ack) (omega (arith, count, beyond))) in
    let step = acknowledges c w (ack_of s written_at) shows.sending among recent bounds.0 (omega (arith, bounds.1, flight)) in
    subst (λ l. Step cap limit c (record c { sending = Open (record w { held = l; una = ack; fin_acked = true }) })) held'
    (subst (λ b. Step cap limit c (record c { sending = Open (record w { held = drop (octets_up_to w ack) w.held; una = ack; syn_acked = b; fin_acked = true }) })) (sym acked)
    (subst (λ b. Step cap limit c (record c { sending = Open (record w { held = drop (octets_up_to w ack) w.held; una = ack; syn_acked = true; fin_acked = b }) })) fin step))

-- our SYN is acknowledged, the one number that is outstanding
pub hears-syn_ack : (cap limit : ℕ) (v : View) (c : Channel) (s : Segment) (written_at : ℕ) → is_opening v.state ≡ true → is_write_finished v.state ≡ false → outstanding v.sending ≤ 1
    → v.sending.una < 2 ^ 32 → v.sending.nxt < 2 ^ 32 → s.acknowledgement < 2 ^ 32
    → is_new_ack v.sending s.acknowledgement ≡ true → SendsInto v c → IsAmong (ack_of s written_at) c.acks → IsRecent limit c.written written_at
    → Step cap limit c (record c { sending = Open (record (sender_of v) { una = v.sending.nxt; syn_acked = true; fin_acked = false }) })
hears-syn_ack cap limit v c s written_at opening unfinished flight una nxt ack_fits new shows among recent =
    let w = sender_of v in
    let ack = s.acknowledgement in
    let unacked : w.syn_acked ≡ false = ap not opening in
    let bounds = bounds_of v.sending ack new in
    let count : octets_up_to w ack ≡ 0 = ap (λ b. past ack v.sending.una - number_of (if b then false else true)) unacked ∙ omega (arith, bounds.1, flight) in
    let held' : drop (octets_up_to w ack) w.held ≡ v.sending.held = ap (λ n. drop n w.held) count in
    let una' : ack ≡ v.sending.nxt = omega (arith, bounds.0, bounds.1, flight, una, nxt, ack_fits) in
    let no_fin : (w.fin_acked || nat_lt (length w.held) (octets_up_to w ack)) ≡ false = as_it_was w.fin_acked (not_past (length w.held) (octets_up_to w ack) (omega (arith, count))) ∙ unfinished in
    let step = acknowledges c w (ack_of s written_at) shows.sending among recent bounds.0 (omega (arith, bounds.1, flight)) in
    subst (λ n. Step cap limit c (record c { sending = Open (record w { una = n; syn_acked = true; fin_acked = false }) })) una'
    (subst (λ l. Step cap limit c (record c { sending = Open (record w { held = l; una = ack; syn_acked = true; fin_acked = false }) })) held'
    (subst (λ b. Step cap limit c (record c { sending = Open (record w { held = drop (octets_up_to w ack) w.held; una = ack; syn_acked = true; fin_acked = b }) })) no_fin step))

-- the peer's SYN arrives where it is waited for
pub hears-syn : (cap limit : ℕ) (v : View) (d : Channel) (s : Segment) (written_at : ℕ) → is_syn_sent v.state ≡ true → s.flags.syn ≡ true → ReceivesFrom v d → IsAmong (frame_of s written_at) d.frames
    → Step cap limit d (record d { receiving = Synchronised (record { rnext = (s.number + 1) % 2 ^ 32; kept = nothing_kept }) })
hears-syn cap limit v d s written_at waiting syn shows among =
    synchronises d (frame_of s written_at) (shows.receiving ∙ ap (λ b. if b then Waiting else Synchronised (receiver_of v.receiving)) waiting) among syn

-- the caller reads the first octets of what is readable
pub hands-over : (cap limit : ℕ) (v : View) (d : Channel) (len : ℕ) → d.readable ≡ v.receiving.readable
    → Step cap limit d (record d { read = d.read ++ take (recv_count v len) v.receiving.readable; readable = drop (recv_count v len) v.receiving.readable })
hands-over cap limit v d len shows =
    reads d (take (recv_count v len) v.receiving.readable) (drop (recv_count v len) v.receiving.readable) (shows ∙ sym (take-append-drop (recv_count v len) v.receiving.readable))
