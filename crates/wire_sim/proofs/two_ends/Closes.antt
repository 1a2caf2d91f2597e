-- Why the segments of a close that come lead both ends on.
use Rattle.std.proofs.Common.{◌≡◌, ℕ, zero, suc, ◌-◌, ◌+◌, ◌%◌, ◌^◌, ◌<◌, ◌==◌, ◌||◌, ◌&&◌, not, nat_le, nat_lt, if◌then◌else◌, Bool, true, false, List, [], ◌∷◌, length, drop, Option, Some, None, arith, refl, sym, ◌∙◌, ap, ap₂, subst, inr}
use Rattle.std.proofs.lemmas.Bool.{lt-ltb}
use Rattle.std.specs.Option.{ForSome}
use Rattle.clock.specs.declared.moment.Moment.{Moment}
use Rattle.tcp_segment.specs.Segment.{Segment}
use Rattle.tcp_segment.specs.Wire.{past, wire}
use Rattle.tcp_halves.specs.Halves.{Sending, Receiving}
use Rattle.tcp_halves.specs.Numbers.{is_before}
use Rattle.tcp_halves.specs.Stream.{outstanding, is_new_ack, is_acceptable, is_in_window, receive_window, after_end}
use Rattle.tcp_halves.specs.Windows.{updates_window}
use Rattle.tcp_halves.proofs.Choices.{either, and_false, unowed}
use Rattle.tcp_state.specs.declared.connection.Fate.{Fate}
use Rattle.tcp_state.specs.declared.connection.Fate.TheVariants.{Stays, Removed, Rejected}
use Rattle.tcp_state.specs.declared.emission.Due.TheVariants.{Text, Ack}
use Rattle.tcp_state.specs.declared.state.State.{State}
use Rattle.tcp_state.specs.declared.state.State.TheVariants.{SynSent, SynReceived, Established, FinWait1, FinWait2, CloseWait, LastAck, TimeWait, Closed}
use Rattle.tcp_state.specs.Arrival.{fate, is_lost, is_rejected, ends_opening, ends_by_reset, ends_by_syn, is_acceptable_to, is_receiving, is_read, is_off, is_read_on, is_of_fin, beyond_fin, fin_acknowledged, after_new_ack, after_establishment, brings_more, beyond_end, counts_fin, owing_ack, resend_after, after_segment, after_lost, after_ack, after_window, after_text, after_fin, after_segment_at, before, timed_by}
use Rattle.tcp_state.specs.Edges.{Hears, after_event}
use Rattle.tcp_state.specs.Said.{segment_of}
use Rattle.tcp_state.specs.View.{View, IsSound, is_opening, is_closed, is_over, is_syn_sent, is_syn_received, awaits_fin_ack}
use Rattle.tcp_state.specs.Due.{first_due}
use Rattle.tcp_state.specs.Resend.{Resend, stopped, mark_left}
use Rattle.tcp_state.proofs.Clocked.{comes_to, unmarked_after}
use Rattle.tcp_state.proofs.Guarded.{in_reach, kept_mark, read_owes, filled_asks_none}
use Rattle.tcp_state.proofs.Segments.{IsRead, reads}
use Rattle.wire_sim.specs.Handshakes.{IsOut, IsAtRest, IsEnding, fin_alone}
use Rattle.wire_sim.proofs.two_ends.Opens.{one_past, one_out, new_one, ack_due_first, ack_at_next, next_acceptable}

-- An acknowledgement of what is acknowledged changes nothing.

pub same_numbers : (n : ℕ) → n < 2 ^ 32 → past n n ≡ 0
same_numbers n small = omega (arith, small)

not_before : (n : ℕ) → n < 2 ^ 32 → is_before n n ≡ false
not_before n small = grind (arith, small)

-- a number that is acknowledged, where nothing is outstanding
record IsOld (v : View) (ack : ℕ) : Type 0 where
  new : is_new_ack v.sending ack ≡ false
  beyond : is_off v ack ≡ false

old_ack : (v : View) (n ack : ℕ) → n < 2 ^ 32 → v.sending.una ≡ n → v.sending.nxt ≡ n → ack ≡ n → IsOld v ack
old_ack v n ack small una nxt is = record {
  new = ap (λ m. nat_lt 0 m && nat_le m (outstanding v.sending)) (ap (λ m. past m v.sending.una) is ∙ (ap (past n) una ∙ same_numbers n small));
  beyond = let near : past v.sending.una ack ≡ 0 = ap (past v.sending.una) is ∙ (ap (λ m. past m n) una ∙ same_numbers n small) in in_reach v ack (ap (λ m. is_before m ack) nxt ∙ (ap (is_before n) is ∙ not_before n small)) (omega (arith, near));
}

old_kept : (v : View) (ack : ℕ) → is_syn_received v.state ≡ false → IsOld v ack → after_ack v ack ≡ v
old_kept v ack past_opening old =
    ap (λ b. if b then (if is_new_ack v.sending ack then after_establishment v else v) else if is_new_ack v.sending ack then (if is_of_fin v ack then fin_acknowledged (after_new_ack v ack) else after_new_ack v ack) else if is_off v ack then owing_ack v else v) past_opening
    ∙ (ap (λ b. if b then (if is_of_fin v ack then fin_acknowledged (after_new_ack v ack) else after_new_ack v ack) else if is_off v ack then owing_ack v else v) old.new
    ∙ ap (λ b. if b then owing_ack v else v) old.beyond)

-- The acknowledgement of our FIN.

fin_taken : (v : View) (ours ack : ℕ) → IsSound v → is_syn_received v.state ≡ false → awaits_fin_ack v.state ≡ true → v.sending.una ≡ ours → v.sending.held ≡ [] → v.sending.nxt ≡ wire ours 1 → ack ≡ wire ours 1
    → after_ack v ack ≡ fin_acknowledged (after_new_ack v ack)
fin_taken v ours ack sound past_opening awaits una held nxt is =
    let small : ours < 2 ^ 32 = subst (λ n. n < 2 ^ 32) una sound.una in
    let one : past ack v.sending.una ≡ 1 = ap (λ n. past n v.sending.una) is ∙ (ap (past (wire ours 1)) una ∙ one_past ours small) in
    let fin : is_of_fin v ack ≡ true = ap (λ b. b && nat_lt (length v.sending.held) (past ack v.sending.una)) awaits ∙ (ap (λ xs. nat_lt (length xs) (past ack v.sending.una)) held ∙ ap (nat_lt 0) one) in
    ap (λ b. if b then (if is_new_ack v.sending ack then after_establishment v else v) else if is_new_ack v.sending ack then (if is_of_fin v ack then fin_acknowledged (after_new_ack v ack) else after_new_ack v ack) else if is_off v ack then owing_ack v else v) past_opening
    ∙ (ap (λ b. if b then (if is_of_fin v ack then fin_acknowledged (after_new_ack v ack) else after_new_ack v ack) else if is_off v ack then owing_ack v else v) (new_one v ours ack sound una nxt is)
    ∙ ap (λ b. if b then fin_acknowledged (after_new_ack v ack) else after_new_ack v ack) fin)

-- a FIN that is out takes the one number that is outstanding
ending_out : (v : View) → IsSound v → is_opening v.state ≡ false → awaits_fin_ack v.state ≡ true → v.sending.held ≡ [] → IsOut v → v.sending.nxt ≡ wire v.sending.una 1
ending_out v sound opened awaits held out = one_out v.sending.una v.sending.nxt sound.una sound.nxt out (grind (arith, sound.flight, opened, awaits, held))

-- The peer's FIN.

-- its FIN stands next
fin_counts : (x : View) (s : Segment) → s.flags.fin ≡ true → s.octets ≡ [] → is_receiving x.state ≡ true → s.number ≡ x.receiving.rnext → x.receiving.rnext < 2 ^ 32 → 0 < receive_window x.receiving
    → after_fin x s ≡ record x { state = beyond_end x.state; receiving = after_end x.receiving; owes_ack = true }
fin_counts x s fin none receiving next small room =
    let counts : counts_fin x s ≡ true = counted s.flags.fin (is_receiving x.state) ((s.number + length s.octets) % 2 ^ 32) x.receiving.rnext (receive_window x.receiving) fin receiving (behind s.number (length s.octets) x.receiving.rnext next (ap length none) small) room in
    ap (λ b. if b then record x { state = beyond_end x.state; receiving = after_end x.receiving; owes_ack = true } else if s.flags.fin && is_receiving x.state then owing_ack x else x) counts
  where
    behind : (number len rnext : ℕ) → number ≡ rnext → len ≡ 0 → rnext < 2 ^ 32 → (number + len) % 2 ^ 32 ≡ rnext
    behind number len rnext is none small = omega (arith, is, none, small)

    counted : (fin receiving : Bool) (end rnext window : ℕ) → fin ≡ true → receiving ≡ true → end ≡ rnext → 0 < window → (fin && receiving && ((end == rnext) && nat_lt 0 window)) ≡ true
    counted fin receiving end rnext window f r e w = rw (f, r) (grind (arith, e, w))

without_octets : (x : View) (s : Segment) → s.octets ≡ [] → after_text x s ≡ x
without_octets x s none = ap (λ octets. after_text x (record s { octets = octets })) none

without_fin : (x : View) (s : Segment) → s.flags.fin ≡ false → after_fin x s ≡ x
without_fin x s no_fin = ap (λ b. after_fin x (record s { flags = record s.flags { fin = b } })) no_fin

-- a FIN at RCV.NXT is acceptable where the window is open
fin_acceptable : (r : Receiving) (number : ℕ) → number ≡ r.rnext → r.rnext < 2 ^ 32 → 0 < receive_window r → is_acceptable r number 1 ≡ true
fin_acceptable r number next small room = ap (λ b. b || is_in_window r ((number + 0) % 2 ^ 32)) within
  where
    within : is_in_window r number ≡ true
    within = ap (λ n. nat_lt (past n r.rnext) (receive_window r)) next ∙ (ap (λ n. nat_lt n (receive_window r)) (same_numbers r.rnext small) ∙ lt-ltb 0 (receive_window r) room)

-- it keeps its place as long as it is not CLOSED
keeps_open : (v : View) (s : Segment) → is_closed (let w = after_segment v s in w.state) ≡ false → is_rejected v s ≡ false → ends_opening v s ≡ false → fate v s ≡ Stays
keeps_open v s opened taken stays =
    let w = after_segment v s in
    chosen (is_closed v.state || is_lost v s) (is_over w) (is_rejected v s) (ends_opening v s) (ap (λ b. b && w.released && not w.owes_reset) opened) taken stays
  where
    chosen : (unheard over refused ends : Bool) → over ≡ false → refused ≡ false → ends ≡ false → (if unheard then Stays else if over then Removed else if refused then Rejected else if ends then Removed else Stays) ≡ Stays
    chosen true over refused ends o r e = refl
    chosen false over refused ends o r e = rw (o, r, e) refl

-- what is read of a segment without octets
record IsHeard (v : View) (s : Segment) : Type 0 where
  lives : is_closed v.state ≡ false
  no_rst : s.flags.rst ≡ false
  no_syn : s.flags.syn ≡ false
  ack : s.flags.ack ≡ true
  none : s.octets ≡ []
  past_opening : is_opening v.state ≡ false
  accepted : is_acceptable_to v s ≡ true
  on : is_read_on v s.acknowledgement ≡ true

not_sent : (t : State) → is_opening t ≡ false → is_syn_sent t ≡ false
not_sent SynSent e = cc
not_sent _ e = refl

not_received : (t : State) → is_opening t ≡ false → is_syn_received t ≡ false
not_received SynReceived e = cc
not_received _ e = refl

module _ (v : View) (s : Segment) (now : Moment) (h : IsHeard v s) where
  unlost : is_lost v s ≡ false
  unlost = last v.released (is_receiving v.state) (is_read v s) (brings_more v s) (ap (λ octets. brings_more v (record s { octets = octets })) h.none)
    where
      last : (a b c d : Bool) → d ≡ false → (a && b && c && d) ≡ false
      last true true true d e = e
      last true true false d e = refl
      last true false c d e = refl
      last false b c d e = refl

  unrefused : is_rejected v s ≡ false
  unrefused =
      ap (λ b. (not s.flags.rst && s.flags.ack && not (is_new_ack v.sending s.acknowledgement)) && (b || (is_syn_received v.state && is_acceptable_to v s && not s.flags.syn))) (not_sent v.state h.past_opening)
      ∙ (ap (λ b. (not s.flags.rst && s.flags.ack && not (is_new_ack v.sending s.acknowledgement)) && (b && is_acceptable_to v s && not s.flags.syn)) (not_received v.state h.past_opening) ∙ and_false (not s.flags.rst && s.flags.ack && not (is_new_ack v.sending s.acknowledgement)))

  unended : ends_opening v s ≡ false
  unended =
      ap (λ b. not (is_syn_sent v.state) && (if b then ends_by_reset v s else ends_by_syn v s)) h.no_rst
      ∙ (ap (λ b. not (is_syn_sent v.state) && (is_acceptable_to v s && b && v.passive && is_syn_received v.state)) h.no_syn ∙ neither (not (is_syn_sent v.state)) (is_acceptable_to v s))
    where
      neither : (a b : Bool) → (a && (b && false && v.passive && is_syn_received v.state)) ≡ false
      neither true true = refl
      neither true false = refl
      neither false b = refl

  read : IsRead v s
  read = record { no_rst = h.no_rst; accepted = h.accepted; no_syn = h.no_syn; ack = h.ack; on = h.on }

  -- it is looked at for its acknowledgement, its window and its FIN
  is_heard : after_segment v s ≡ after_fin (after_window (after_ack v s.acknowledgement) s) s
  is_heard =
      reads v s h.lives (not_sent v.state h.past_opening) read
      ∙ ap (λ w. after_fin w s) (without_octets (after_window (after_ack v s.acknowledgement) s) s h.none)

  heard_at : after_segment_at v s now ≡ timed_by (before v s) (after_fin (after_window (after_ack v s.acknowledgement) s) s) now
  heard_at = comes_to v s now h.lives unrefused ∙ ap (λ w. timed_by (before v s) w now) (ap (λ b. if b then after_lost v s else after_segment v s) unlost ∙ is_heard)

-- The FIN alone, of a connection that holds nothing.
abbrev fin_of : View → Segment
fin_of c = segment_of c (Text fin_alone)

at_una : (n ours : ℕ) → n ≡ ours → n < 2 ^ 32 → (n + 0) % 2 ^ 32 ≡ ours
at_una n ours is small = omega (arith, is, small)

-- What a window tells leaves the numbers and what is held.
window_keeps : (P : Sending → Type 0) (v : View) (s : Segment) → ((t : Sending) → t.una ≡ v.sending.una → t.nxt ≡ v.sending.nxt → t.held ≡ v.sending.held → P t) → P (let w = after_window v s in w.sending)
window_keeps P v s all = either Sending P (updates_window v.sending s.number s.acknowledgement) _ v.sending (λ newer. all _ refl refl refl) (λ older. all v.sending refl refl refl)

-- no mark stands where nothing is outstanding
pub none_marked : (mark : Option ℕ) (out : ℕ) → ForSome mark (λ distance. distance < out) → out ≡ 0 → mark ≡ None
none_marked None out within none = refl
none_marked (Some distance) out within none = absurd (omega (arith, within distance refl, none))

-- The FIN of one end comes to the other, which waits in ESTABLISHED.
pub first_fin : (state : State) (ours theirs : ℕ) (c v : View) (now : Moment) → IsSound c → IsEnding state ours theirs c → IsSound v → IsAtRest Established theirs ours v → 0 < receive_window v.receiving
    → (let w = after_event v (Hears (fin_of c) now) in IsAtRest CloseWait theirs (wire ours 1) w × (first_due w ≡ Some Ack)) × (fate v (fin_of c) ≡ Stays)
first_fin state ours theirs c v now solid ends sound rests room =
    let s = fin_of c in
    let number : s.number ≡ ours = at_una c.sending.una ours ends.fin solid.una in
    let next : s.number ≡ v.receiving.rnext = number ∙ sym rests.expects in
    let accepted : is_acceptable_to v s ≡ true = fin_acceptable v.receiving s.number next sound.rnext room in
    let old : IsOld v s.acknowledgement = old_ack v theirs s.acknowledgement (subst (λ n. n < 2 ^ 32) rests.acknowledged sound.una) rests.acknowledged rests.sent ends.expects in
    let past_opening : is_opening v.state ≡ false = ap is_opening rests.in_state in
    let received : is_syn_received v.state ≡ false = ap is_syn_received rests.in_state in
    let on : is_read_on v s.acknowledgement ≡ true =
    ap (λ b. if b then is_new_ack v.sending s.acknowledgement else is_new_ack v.sending s.acknowledgement || not (is_off v s.acknowledgement)) received
    ∙ (ap (λ b. b || not (is_off v s.acknowledgement)) old.new ∙ ap not old.beyond) in
    let lives : is_closed v.state ≡ false = ap is_closed rests.in_state in
    let h : IsHeard v s = record { lives = lives; no_rst = refl; no_syn = refl; ack = refl; none = refl; past_opening = past_opening; accepted = accepted; on = on } in
    let x = after_window v s in
    let y : View = record x { state = beyond_end v.state; receiving = after_end v.receiving; owes_ack = true } in
    let heard : after_fin (after_window (after_ack v s.acknowledgement) s) s ≡ y =
    ap (λ w. after_fin (after_window w s) s) (old_kept v s.acknowledgement received old) ∙ fin_counts x s refl refl (ap is_receiving rests.in_state) next sound.rnext room in
    let w = timed_by (before v s) y now in
    let at : after_segment_at v s now ≡ w = heard_at v s now h ∙ ap (λ u. timed_by (before v s) u now) heard in
    let reset : v.owes_reset ≡ false = unowed v.owes_reset (is_closed v.state) v.released lives sound.reset in
    let state_is : y.state ≡ CloseWait = ap beyond_end rests.in_state in
    let idle : outstanding v.sending ≡ 0 = ap (λ n. past n v.sending.una) rests.sent ∙ (ap (past theirs) rests.acknowledged ∙ same_numbers theirs (subst (λ n. n < 2 ^ 32) rests.acknowledged sound.una)) in
    let unmarked : v.resend.mark ≡ None = none_marked v.resend.mark (outstanding v.sending) sound.mark idle in
    let mark : (resend_after (before v s) y now).mark ≡ None = unmarked_after (before v s) y now unmarked (window_keeps (λ t. outstanding t ≡ 0) v s (λ t una nxt held. ap₂ past nxt una ∙ idle)) in
    let held : x.sending.held ≡ [] = window_keeps (λ t. t.held ≡ []) v s (λ t una nxt held. held ∙ rests.held) in
    let P : View → Type 0 = λ u. IsAtRest CloseWait theirs (wire ours 1) u × (first_due u ≡ Some Ack) in (
      subst P (sym at) (
        record {
          in_state = state_is;
          acknowledged = window_keeps (λ t. t.una ≡ theirs) v s (λ t una nxt held. una ∙ rests.acknowledged);
          sent = window_keeps (λ t. t.nxt ≡ theirs) v s (λ t una nxt held. nxt ∙ rests.sent);
          held = held;
          expects = ap (λ n. wire n 1) rests.expects;
        },
        ack_due_first w reset (ap is_opening state_is) (ap awaits_fin_ack state_is) (kept_mark v s y now (inr refl) ∙ mark) held (read_owes v s y now (read v s now h) (filled_asks_none v s refl)),
      ),
      keeps_open v s (ap (λ (u : View). is_closed u.state) (is_heard v s now h ∙ heard) ∙ ap is_closed state_is) (unrefused v s now h) (unended v s now h),
    )

none_dropped : (n : ℕ) (xs : List ℕ) → xs ≡ [] → drop n xs ≡ []
none_dropped zero xs none = none
none_dropped (suc n) [] none = refl
none_dropped (suc n) (x ∷ xs) none = cc

-- The FIN of the other end, which acknowledges ours, comes to the first.
pub last_fin : (state : State) (ours theirs : ℕ) (c v : View) (now : Moment) → IsSound c → IsEnding state theirs (wire ours 1) c → IsSound v → IsEnding FinWait1 ours theirs v → IsOut v → 0 < receive_window v.receiving
    → (let w = after_event v (Hears (fin_of c) now) in IsAtRest TimeWait (wire ours 1) (wire theirs 1) w × (first_due w ≡ Some Ack)) × (fate v (fin_of c) ≡ Stays)
last_fin state ours theirs c v now solid ends sound waits out room =
    let s = fin_of c in
    let number : s.number ≡ theirs = at_una c.sending.una theirs ends.fin solid.una in
    let next : s.number ≡ v.receiving.rnext = number ∙ sym waits.expects in
    let accepted : is_acceptable_to v s ≡ true = fin_acceptable v.receiving s.number next sound.rnext room in
    let past_opening : is_opening v.state ≡ false = ap is_opening waits.in_state in
    let received : is_syn_received v.state ≡ false = ap is_syn_received waits.in_state in
    let sent : v.sending.nxt ≡ wire ours 1 = ending_out v sound past_opening (ap awaits_fin_ack waits.in_state) waits.held out ∙ ap (λ n. wire n 1) waits.fin in
    let new : is_new_ack v.sending s.acknowledgement ≡ true = new_one v ours s.acknowledgement sound waits.fin sent ends.expects in
    let on : is_read_on v s.acknowledgement ≡ true =
    ap (λ b. if b then is_new_ack v.sending s.acknowledgement else is_new_ack v.sending s.acknowledgement || not (is_off v s.acknowledgement)) received
    ∙ ap (λ b. b || not (is_off v s.acknowledgement)) new in
    let lives : is_closed v.state ≡ false = ap is_closed waits.in_state in
    let h : IsHeard v s = record { lives = lives; no_rst = refl; no_syn = refl; ack = refl; none = refl; past_opening = past_opening; accepted = accepted; on = on } in
    let u = fin_acknowledged (after_new_ack v s.acknowledgement) in
    let beyond : u.state ≡ FinWait2 = ap beyond_fin waits.in_state in
    let x = after_window u s in
    let y : View = record x { state = beyond_end u.state; receiving = after_end v.receiving; owes_ack = true } in
    let heard : after_fin (after_window (after_ack v s.acknowledgement) s) s ≡ y =
    ap (λ w. after_fin (after_window w s) s) (fin_taken v ours s.acknowledgement sound received (ap awaits_fin_ack waits.in_state) waits.fin waits.held sent ends.expects)
    ∙ fin_counts x s refl refl (ap is_receiving beyond) next sound.rnext room in
    let w = timed_by (before v s) y now in
    let at : after_segment_at v s now ≡ w = heard_at v s now h ∙ ap (λ u. timed_by (before v s) u now) heard in
    let reset : v.owes_reset ≡ false = unowed v.owes_reset (is_closed v.state) v.released lives sound.reset in
    let state_is : y.state ≡ TimeWait = ap beyond_end beyond in
    let all : past v.sending.nxt s.acknowledgement ≡ 0 = ap (past v.sending.nxt) ends.expects ∙ (ap (λ n. past n (wire ours 1)) sent ∙ same_numbers (wire ours 1) (omega arith)) in
    let unmarked : u.resend.mark ≡ None = ap (λ (r : Resend). r.mark) (ap (λ b. if b then stopped (after_new_ack v s.acknowledgement).resend else (after_new_ack v s.acknowledgement).resend) (ap is_closed beyond))
    ∙ mark_gone v.resend.mark (past s.acknowledgement v.sending.una) (past v.sending.nxt s.acknowledgement) all in
    let mark : (resend_after (before v s) y now).mark ≡ None = unmarked_after (before v s) y now unmarked (window_keeps (λ t. outstanding t ≡ 0) u s (λ t una nxt held. ap₂ past nxt una ∙ all)) in
    let none : u.sending.held ≡ [] = none_dropped (past s.acknowledgement v.sending.una) v.sending.held waits.held in
    let held : x.sending.held ≡ [] = window_keeps (λ t. t.held ≡ []) u s (λ t una nxt held. held ∙ none) in
    let P : View → Type 0 = λ u. IsAtRest TimeWait (wire ours 1) (wire theirs 1) u × (first_due u ≡ Some Ack) in (
      subst P (sym at) (
        record {
          in_state = state_is;
          acknowledged = window_keeps (λ t. t.una ≡ wire ours 1) u s (λ t una nxt held. una ∙ ends.expects);
          sent = window_keeps (λ t. t.nxt ≡ wire ours 1) u s (λ t una nxt held. nxt ∙ sent);
          held = held;
          expects = ap (λ n. wire n 1) waits.expects;
        },
        ack_due_first w reset (ap is_opening state_is) (ap awaits_fin_ack state_is) (kept_mark v s y now (inr refl) ∙ mark) held (read_owes v s y now (read v s now h) (filled_asks_none v s refl)),
      ),
      keeps_open v s (ap (λ (u : View). is_closed u.state) (is_heard v s now h ∙ heard) ∙ ap is_closed state_is) (unrefused v s now h) (unended v s now h),
    )
  where
    mark_gone : (mark : Option ℕ) (gained out : ℕ) → out ≡ 0 → mark_left mark gained out ≡ None
    mark_gone None gained out none = refl
    mark_gone (Some distance) gained out none = ap (λ n. if nat_lt (distance - gained) n then Some (distance - gained) else None) none ∙ ap (λ b. if b then Some (distance - gained) else None) (never (distance - gained))
      where
        never : (n : ℕ) → nat_lt n 0 ≡ false
        never n = grind arith

-- The acknowledgement of that FIN comes to the end that sent it.
pub last_ack : (ours theirs : ℕ) (e v : View) (now : Moment) → IsSound e → IsAtRest TimeWait (wire theirs 1) (wire ours 1) e → IsSound v → IsEnding LastAck ours (wire theirs 1) v → IsOut v
    → ((let w = after_event v (Hears (segment_of e Ack) now) in w.state) ≡ Closed) × (fate v (segment_of e Ack) ≡ (if v.released then Removed else Stays))
last_ack ours theirs e v now solid rests sound waits out =
    let s = segment_of e Ack in
    let past_opening : is_opening v.state ≡ false = ap is_opening waits.in_state in
    let received : is_syn_received v.state ≡ false = ap is_syn_received waits.in_state in
    let sent : v.sending.nxt ≡ wire ours 1 = ending_out v sound past_opening (ap awaits_fin_ack waits.in_state) waits.held out ∙ ap (λ n. wire n 1) waits.fin in
    let number : s.number ≡ wire theirs 1 = ack_at_next e (wire theirs 1) solid (ap is_closed rests.in_state) rests.acknowledged rests.sent in
    let accepted : is_acceptable_to v s ≡ true = next_acceptable v.receiving s.number (number ∙ sym waits.expects) sound.rnext in
    let new : is_new_ack v.sending s.acknowledgement ≡ true = new_one v ours s.acknowledgement sound waits.fin sent rests.expects in
    let on : is_read_on v s.acknowledgement ≡ true =
    ap (λ b. if b then is_new_ack v.sending s.acknowledgement else is_new_ack v.sending s.acknowledgement || not (is_off v s.acknowledgement)) received
    ∙ ap (λ b. b || not (is_off v s.acknowledgement)) new in
    let lives : is_closed v.state ≡ false = ap is_closed waits.in_state in
    let h : IsHeard v s = record { lives = lives; no_rst = refl; no_syn = refl; ack = refl; none = refl; past_opening = past_opening; accepted = accepted; on = on } in
    let u = fin_acknowledged (after_new_ack v s.acknowledgement) in
    let x = after_window u s in
    let heard : after_fin (after_window (after_ack v s.acknowledgement) s) s ≡ x =
    ap (λ w. after_fin (after_window w s) s) (fin_taken v ours s.acknowledgement sound received (ap awaits_fin_ack waits.in_state) waits.fin waits.held sent rests.expects) ∙ without_fin x s refl in
    let w = timed_by (before v s) x now in
    let at : after_segment_at v s now ≡ w = heard_at v s now h ∙ ap (λ u. timed_by (before v s) u now) heard in
    let state_is : x.state ≡ Closed = ap beyond_fin waits.in_state in
    let reset : v.owes_reset ≡ false = unowed v.owes_reset (is_closed v.state) v.released lives sound.reset in
    let over : is_over (after_segment v s) ≡ v.released = ap is_over (is_heard v s now h ∙ heard) ∙ (ap (λ t. is_closed t && v.released && not v.owes_reset) state_is ∙ (ap (λ b. v.released && not b) reset ∙ and_true v.released)) in (
      ap (λ (u : View). u.state) at ∙ state_is,
      ap (λ b. if b || is_lost v s then Stays else left b) lives
          ∙ (ap (λ b. if b then Stays else left false) (unlost v s now h)
          ∙ (ap (λ b. if b then Removed else if is_rejected v s then Rejected else if ends_opening v s then Removed else Stays) over
          ∙ (ap (λ b. if v.released then Removed else if b then Rejected else if ends_opening v s then Removed else Stays) (unrefused v s now h)
          ∙ ap (λ b. if v.released then Removed else if b then Removed else Stays) (unended v s now h)))),
    )
  where
    left : Bool → Fate
    left b = if is_over (after_segment v (segment_of e Ack)) then Removed else if is_rejected v (segment_of e Ack) then Rejected else if ends_opening v (segment_of e Ack) then Removed else Stays

    and_true : (b : Bool) → (b && true) ≡ b
    and_true true = refl
    and_true false = refl
