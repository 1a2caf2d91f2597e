-- Why an open connection of which nothing is due, and that has nothing to be read, leaves its peer a window of all that its buffer holds but a segment, as far as 16 bits can tell of it: one segment alone may come before it speaks.
use Rattle.std.proofs.Common.{◌≡◌, ℕ, zero, suc, ◌+◌, ◌-◌, ◌%◌, ◌^◌, ◌<◌, ◌≤◌, ◌==◌, ◌||◌, ◌&&◌, ◌⊎◌, not, nat_le, nat_lt, if◌then◌else◌, Bool, true, false, List, [], ◌∷◌, ◌++◌, length, take, drop, map, Option, Some, None, inl, inr, arith, refl, sym, ◌∙◌, ap, ap₂, subst, length-append}
use Rattle.std.proofs.lemmas.List.{length-take, length-drop}
use Rattle.std.proofs.lemmas.Bool.{eqb-true, ltb-true, leb-true}
use Rattle.std.proofs.lemmas.Bool.Decides.{leb_tells}
use Rattle.ipv4.specs.declared.addr.Endpoint.{Endpoint}
use Rattle.clock.specs.declared.moment.Moment.{Moment}
use Rattle.clock.specs.Moments.{has_come}
use Rattle.stream_buf.specs.Receiving.{front, ranges, laid, is_taken}
use Rattle.stream_buf.proofs.Inserting.{some}
use Rattle.stream_buf.proofs.Standing.{front_octets}
use Rattle.tcp_segment.specs.Wire.{past}
use Rattle.tcp_segment.specs.Segment.{Segment}
use Rattle.tcp_segment.specs.declared.TheConstants.{MSS}
use Rattle.tcp_segment.proofs.StreamPositions.{past_itself}
use Rattle.tcp_halves.specs.declared.buffers.TheConstants.{CAPACITY}
use Rattle.tcp_halves.specs.Halves.{Room, Sending, Receiving}
use Rattle.tcp_halves.specs.Numbers.{is_before}
use Rattle.tcp_halves.specs.Stream.{size_in, size_of, outstanding, is_new_ack, receive_window, buffer_of, distance_of, octets_within, octets_gained, after_octets}
use Rattle.tcp_halves.specs.Windows.{updates_window, has_grown, after_advertisement, syn_window, after_syn_advertisement}
use Rattle.tcp_halves.proofs.Choices.{either, by, clash, and_left, and_right, neither, or_left, or_else}
use Rattle.tcp_halves.proofs.Keeping.{IsKeeping, gained_fits}
use Rattle.tcp_state.specs.declared.emission.Due.TheVariants.{Syn}
use Rattle.tcp_state.specs.declared.state.State.{State}
use Rattle.tcp_state.specs.declared.state.State.TheVariants.{SynSent, Established, FinWait1, FinWait2, CloseWait, Closing, LastAck}
use Rattle.tcp_state.specs.View.{View, IsSound, opened_actively, is_opening, is_syn_sent, is_syn_received, is_closed}
use Rattle.tcp_state.specs.Alive.{after_silence}
use Rattle.tcp_state.specs.Timing.{clocked, retransmission_expired, probe_expired, after_expiry, delayed_ack_expired, after_timers}
use Rattle.tcp_state.specs.Calls.{beyond_shutdown}
use Rattle.tcp_state.specs.Arrival.{opened_passively, scales_with, after_simultaneous_syn, beyond_fin, after_ack, after_window, is_receiving, may_delay, after_text, beyond_end, after_fin, after_heard, draws_one, is_opening_syn, owes_answer, is_held_back, before, timed_by}
use Rattle.tcp_state.specs.Due.{after_syn_ack_paid, after_speaking, after_resent, after_first_sent, after_numbers, after_stretch, after_probe, after_syn_out, after_emitted, again, new_octets, fin_alone, first_due}
use Rattle.tcp_state.specs.Edges.{Event, after_first, after_event}
use Rattle.tcp_state.specs.Guard.{is_spent}
use Rattle.tcp_state.specs.Progress.{IsSized}
use Rattle.tcp_state.proofs.Segments.{by_ack, by_fin, ack_receives, by_hearing}
use Rattle.tcp_state.proofs.Events.{by_event}
use Rattle.tcp_state.proofs.Emissions.{by_due, stretch_receives, probe_receives}
use Rattle.tcp_state.proofs.Clocked.{syn_out}
use Rattle.tcp_state.proofs.Gains.{receiving_lives}
use Rattle.tcp_state.proofs.Sound.{sound_keeping}
use Rattle.tcp_state.proofs.Bare.{leaves, asking_tells}
use Rattle.tcp_state.proofs.Unused.{unused_owes, drawing_tells, asking_owes}
use Rattle.tcp_state.proofs.ToldRoom.{none_owed, whole_told}

-- Octets: where nothing is kept ahead of a gap, no more join what is readable than the segment has.

none_in_front : (n : ℕ) (places : List (Option ℕ)) → ranges places ≡ 0 → front (drop n places) ≡ []
none_in_front zero [] none = refl
none_in_front (suc n) [] none = refl
none_in_front zero (None ∷ places) none = refl
none_in_front (suc n) (None ∷ places) none = none_in_front n places none
none_in_front n (Some x ∷ places) none = cc

few_joined : (octets : List ℕ) (n : ℕ) (places : List (Option ℕ)) → ranges places ≡ 0 → length (front (map some octets ++ drop n places)) ≤ length octets
few_joined octets n places none =
    let rest : List (Option ℕ) = drop n places in
    let joined : length (front (map some octets ++ rest)) ≡ length (octets ++ front rest) = ap (λ (xs : List ℕ). length xs) (front_octets octets rest) in
    let empty : length (front rest) ≡ 0 = ap (λ (xs : List ℕ). length xs) (none_in_front n places none) in
    omega (arith, joined, length-append octets (front rest), empty)

few_laid : (places : List (Option ℕ)) (distance : ℕ) (octets : List ℕ) → ranges places ≡ 0 → length (front (laid places distance octets)) ≤ length octets
few_laid places zero octets none = few_joined octets (0 + length octets) places none
few_laid [] (suc distance) octets none = few_joined octets (suc distance + length octets) [] none
few_laid (None ∷ places) (suc distance) octets none = omega arith
few_laid (Some x ∷ places) (suc distance) octets none = cc

few_gained : (r : Receiving) (number : ℕ) (octets : List ℕ) → ranges r.kept ≡ 0 → length (octets_gained r number octets) ≤ length octets
few_gained r number octets none =
    let window : ℕ = receive_window r in
    let distance : ℕ = distance_of r number in
    let within : List ℕ = octets_within r number octets in
    let fewer : length within ≤ length octets = either (List ℕ) (λ l. length l ≤ length octets) (is_before r.rnext number) (take (window - past number r.rnext) octets) (take window (drop (past r.rnext number) octets))
    (λ ahead. omega (arith, length-take (window - past number r.rnext) octets))
    (λ behind. omega (arith, length-take window (drop (past r.rnext number) octets), length-drop (past r.rnext number) octets)) in
    either (List ℕ) (λ l. length l ≤ length octets) (is_taken (buffer_of r) distance within) (front (laid r.kept distance within)) []
    (λ taken. let few = few_laid r.kept distance within none in omega (arith, few, fewer)) (λ refused. omega arith)

-- the window shrinks by those
window_left : (r : Receiving) (number : ℕ) (octets : List ℕ) → IsKeeping r → receive_window (after_octets r number octets) + length (octets_gained r number octets) ≡ receive_window r
window_left r number octets is = shrunk r.edge r.rnext (length (octets_gained r number octets)) is.small (gained_fits r number octets is)
  where
    shrunk : (edge rnext count : ℕ) → rnext < 2 ^ 32 → count ≤ past edge rnext → past edge ((rnext + count) % 2 ^ 32) + count ≡ past edge rnext
    shrunk edge rnext count small few = omega (arith, small, few)

on_where : (b : Bool) → not b ≡ false → b ≡ true
on_where true e = refl
on_where false e = cc

-- the window of that and a segment; or of that alone, where one with octets came, and its acknowledgement waits
abbrev least_left : ℕ → Bool → ℕ
least_left left delays = if delays then left else left + MSS

-- Its buffer holds that and a segment. While it opens, and until it speaks, it has told a window as large, or none, with nothing out. Past the opening it leaves that, unless it owes an acknowledgement.
abbrev pub LeavesSome : ℕ → View → Type 0
LeavesSome left v =
    (left + MSS ≤ v.receiving.size)
    × (is_syn_received v.state ≡ true → v.spoke ≡ false → (left + MSS ≤ receive_window v.receiving) ⊎ ((outstanding v.sending ≡ 0) × (receive_window v.receiving ≡ 0)))
    × ((is_opening v.state || is_closed v.state) ≡ false → v.spoke ≡ false → v.owes_ack ≡ false → least_left left v.delays_ack ≤ receive_window v.receiving)

-- so many octets and a segment are no more than 16 bits can tell of
module _ (left : ℕ) (fits : left + MSS ≤ CAPACITY) where
  -- that and a segment are no less than what is left
  enough : (delays : Bool) (window : ℕ) → left + MSS ≤ window → least_left left delays ≤ window
  enough true window wide = omega (arith, wide)
  enough false window wide = wide

  that_left : (delays : Bool) (window : ℕ) → least_left left delays ≤ window → left ≤ window
  that_left true window least = least
  that_left false window least = omega (arith, least)

  -- where a number is out, a window was told
  told_out : (out window : ℕ) → (left + MSS ≤ window) ⊎ ((out ≡ 0) × (window ≡ 0)) → 0 < out → left + MSS ≤ window
  told_out out window (inl wide) some = wide
  told_out out window (inr none) some = absurd (omega (arith, none.0, some))

  text_leaves : (v : View) (s : Segment) → IsKeeping v.receiving → length s.octets ≤ MSS → LeavesSome left v → LeavesSome left (after_text v s)
  text_leaves v s is few p =
      either View (LeavesSome left) ((length s.octets == 0) || not (is_receiving v.state)) v _ (λ none. p)
      (λ some.
      let lives = receiving_lives v.state (on_where (is_receiving v.state) (neither (length s.octets == 0) (not (is_receiving v.state)) some).1) in (
        p.0,
        λ received silent. clash (is_syn_received v.state) received lives.2,
        λ opened silent free.
            let first = neither (v.owes_ack || v.delays_ack) (not (may_delay v s)) free in
            let unowed = neither v.owes_ack v.delays_ack first.0 in
            let none : ranges v.receiving.kept ≡ 0 = eqb-true (ranges v.receiving.kept) 0 (and_right (s.number == v.receiving.rnext) (ranges v.receiving.kept == 0) (on_where (may_delay v s) first.1)) in
            let wide : left + MSS ≤ receive_window v.receiving = subst (λ b. least_left left b ≤ receive_window v.receiving) unowed.1 (p.2 opened silent unowed.0) in
            omega (arith, wide, window_left v.receiving s.number s.octets is, few_gained v.receiving s.number s.octets none, few),
      ))

  -- A FIN draws an acknowledgement.

  ended_apart : (t : State) → is_receiving t ≡ true → is_syn_received (beyond_end t) ≡ false
  ended_apart Established e = refl
  ended_apart FinWait1 e = refl
  ended_apart FinWait2 e = refl
  ended_apart _ e = cc

  fin_leaves : (v : View) (s : Segment) → LeavesSome left v → LeavesSome left (after_fin v s)
  fin_leaves v s p =
      by_fin (LeavesSome left) v s
      (λ counts.
      let apart = ended_apart v.state (and_right s.flags.fin (is_receiving v.state) (and_left (s.flags.fin && is_receiving v.state) _ counts)) in
      (p.0, λ received silent. clash (is_syn_received (beyond_end v.state)) received apart, λ opened silent free. cc))
      (p.0, p.1, λ opened silent free. cc) p

  -- An acknowledgement.

  flies_where_new : (s : Sending) (ack : ℕ) → is_new_ack s ack ≡ true → 0 < outstanding s
  flies_where_new s ack new =
      let some = ltb-true 0 (past ack s.una) (and_left (nat_lt 0 (past ack s.una)) (nat_le (past ack s.una) (outstanding s)) new) in
      let sent = leb-true (past ack s.una) (outstanding s) (and_right (nat_lt 0 (past ack s.una)) (nat_le (past ack s.una) (outstanding s)) new) in
      omega (arith, some, sent)

  received_before : (t : State) → is_syn_received (beyond_fin t) ≡ true → is_syn_received t ≡ true
  received_before FinWait1 e = cc
  received_before Closing e = cc
  received_before LastAck e = cc
  received_before _ e = e

  opened_before : (t : State) → (is_opening (beyond_fin t) || is_closed (beyond_fin t)) ≡ false → ((is_opening t || is_closed t) ≡ false) × (is_closed (beyond_fin t) ≡ false)
  opened_before FinWait1 e = (refl, refl)
  opened_before Closing e = (refl, refl)
  opened_before LastAck e = cc
  opened_before t e = (e, (neither (is_opening t) (is_closed t) e).1)

  unclosed : (owes closed : Bool) → closed ≡ false → (owes && not closed) ≡ owes
  unclosed true closed e = ap not e
  unclosed false closed e = refl

  ack_leaves : (v : View) (ack : ℕ) → LeavesSome left v → LeavesSome left (after_ack v ack)
  ack_leaves v ack p = by_ack (LeavesSome left) v ack (record {
    old = p;
    beyond = (p.0, p.1, λ opened silent free. cc);
    opens = λ received new. (p.0, λ still silent. cc, λ opened silent free. enough v.delays_ack (receive_window v.receiving) (told_out (outstanding v.sending) (receive_window v.receiving) (p.1 received silent) (flies_where_new v.sending ack new)));
    octets = λ new. (p.0, λ received silent. inl (told_out (outstanding v.sending) (receive_window v.receiving) (p.1 received silent) (flies_where_new v.sending ack new)), p.2);
    fin = λ new fin. (
      p.0,
      λ received silent. inl (told_out (outstanding v.sending) (receive_window v.receiving) (p.1 (received_before v.state received) silent) (flies_where_new v.sending ack new)),
      λ opened silent free.
          let before = opened_before v.state opened in
          let closed = is_closed (beyond_fin v.state) in
          subst (λ b. least_left left b ≤ receive_window v.receiving) (sym (unclosed v.delays_ack closed before.1)) (p.2 before.0 silent (sym (unclosed v.owes_ack closed before.1) ∙ free)),
    );
  })

  window_leaves : (v : View) (s : Segment) → LeavesSome left v → LeavesSome left (after_window v s)
  window_leaves v s p = either Sending (λ t. LeavesSome left (record v { sending = t })) (updates_window v.sending s.number s.acknowledgement) _ v.sending (λ updates. p) (λ stays. p)

  -- The peer's SYN.

  settled_wide : (scales : Bool) (size : ℕ) → left + MSS ≤ size → left + MSS ≤ size_in scales size
  settled_wide true size wide = wide
  settled_wide false size wide = omega (arith, wide, fits)

  sent_opens : (t : State) → is_syn_sent t ≡ true → is_opening t ≡ true
  sent_opens SynSent e = refl
  sent_opens _ e = cc

  none_readable : (v : View) → IsSound v → is_opening v.state ≡ true → length v.receiving.readable ≡ 0
  none_readable v sound opening =
      let few : length v.receiving.readable ≤ 0 = subst (λ (b : Bool). length v.receiving.readable ≤ (if b then 0 else v.receiving.size)) opening sound.readable in
      omega (arith, few)

  -- a SYN tells of a buffer in which nothing stands as much as 16 bits hold
  syn_wide : (r : Receiving) → length r.readable ≡ 0 → left + MSS ≤ r.size → (left + MSS ≤ syn_window r) × (syn_window r < 2 ^ 32)
  syn_wide r empty wide = (omega (arith, empty, wide), omega arith)

  crossed_leaves : (v : View) (s : Segment) → IsSound v → is_syn_sent v.state ≡ true → LeavesSome left v → LeavesSome left (after_simultaneous_syn v s)
  crossed_leaves v s sound waits p =
      let wide = syn_wide v.receiving (none_readable v sound (sent_opens v.state waits)) p.0 in
      let rnext : ℕ = (s.number + 1) % 2 ^ 32 in (
        settled_wide (scales_with v s) v.receiving.size p.0,
        λ received silent. either ℕ (λ n. (left + MSS ≤ past ((rnext + n) % 2 ^ 32) rnext) ⊎ ((outstanding v.sending ≡ 0) × (past ((rnext + n) % 2 ^ 32) rnext ≡ 0))) (outstanding v.sending == 0) 0 (syn_window v.receiving)
            (λ none. inr (eqb-true (outstanding v.sending) 0 none, omega arith))
            (λ some. inl (omega (arith, wide.0, wide.1))),
        λ opened silent free. cc,
      )

  -- A segment.

  heard_leaves : (v : View) (s : Segment) → IsSound v → length s.octets ≤ MSS → LeavesSome left v → LeavesSome left (after_heard v s)
  heard_leaves v s sound few p =
      let acked : LeavesSome left (after_ack v s.acknowledgement) = ack_leaves v s.acknowledgement p in
      let told = after_window (after_ack v s.acknowledgement) s in
      let windowed : LeavesSome left told = window_leaves (after_ack v s.acknowledgement) s acked in
      let is : IsKeeping told.receiving = subst IsKeeping (sym (ack_receives v s.acknowledgement)) (sound_keeping v sound) in
      by_hearing (LeavesSome left) v s (windowed.0, λ received silent. cc, λ opened silent free. cc) (record {
        dropped = p;
        drawn = (p.0, p.1, λ opened silent free. cc);
        reset = λ acts. (p.0, λ received silent. cc, λ opened silent free. cc);
        crossed = λ waits. crossed_leaves v s sound waits p;
        opened = λ waits right. (settled_wide (scales_with v s) v.receiving.size p.0, λ received silent. cc, λ opened silent free. cc);
        acknowledged = λ taken. acked;
        read = λ on. fin_leaves (after_text told s) s (text_leaves told s is few windowed);
      })

  -- What goes out.

  -- a SYN-ACK tells as large a one
  syn_told_wide : (r : Receiving) → IsKeeping r → length r.readable ≡ 0 → left + MSS ≤ r.size → (left + MSS ≤ receive_window r) ⊎ (receive_window r ≡ 0) → left + MSS ≤ receive_window (after_syn_advertisement r)
  syn_told_wide r is empty wide before =
      let most = syn_wide r empty wide in
      either Receiving (λ t. left + MSS ≤ receive_window t) (nat_le (receive_window r + MSS) (syn_window r)) _ r
      (λ grows. let told = told_whole r.rnext (syn_window r) is.small most.1 in omega (arith, told, most.0))
      (λ stays. elim before [
        | inl some ↦ some
        | inr none ↦ elim (leb_tells (receive_window r + MSS) (syn_window r)) [ inl t ↦ clash (nat_le (receive_window r + MSS) (syn_window r)) t.0 stays | inr t ↦ absurd (omega (arith, t.1, most.0, none)) ]
      ])
    where
      told_whole : (rnext window : ℕ) → rnext < 2 ^ 32 → window < 2 ^ 32 → past ((rnext + window) % 2 ^ 32) rnext ≡ window
      told_whole rnext window small few = omega (arith, small, few)

  told_size : (r : Receiving) → (after_advertisement r).size ≡ r.size
  told_size r = either Receiving (λ t. t.size ≡ r.size) (has_grown r) _ r (λ grown. refl) (λ small. refl)

  syn_told_size : (r : Receiving) → (after_syn_advertisement r).size ≡ r.size
  syn_told_size r = either Receiving (λ t. t.size ≡ r.size) (nat_le (receive_window r + MSS) (syn_window r)) _ r (λ grown. refl) (λ small. refl)

  -- what speaks has spoken
  spoken : (v w : View) (now : Moment) → w.receiving ≡ v.receiving → LeavesSome left v → LeavesSome left (clocked false (after_speaking w) now)
  spoken v w now same p =
      let size : (after_advertisement w.receiving).size ≡ v.receiving.size = told_size w.receiving ∙ ap (λ (r : Receiving). r.size) same in
      (omega (arith, size, p.0), λ received silent. cc, λ opened silent free. cc)

  abbrev IsAsIt : View → View → Type 0
  IsAsIt v w = (w.receiving ≡ v.receiving) × (w.state ≡ v.state) × (w.spoke ≡ v.spoke)

  syn_as_it : (v : View) (now : Moment) → IsAsIt v (after_syn_out v now)
  syn_as_it v now =
      let numbers : IsAsIt v (after_numbers v 0 1 now) = either View (IsAsIt v) (nat_lt 0 (outstanding v.sending)) (after_resent v 1) (after_first_sent v 1 now) (λ again. (refl, refl, refl)) (λ first. (refl, refl, refl)) in
      syn_out v now (IsAsIt v) numbers numbers

  -- what was told before is as large, or nothing
  told_before : (v : View) → (left + MSS ≤ receive_window v.receiving) ⊎ ((outstanding v.sending ≡ 0) × (receive_window v.receiving ≡ 0)) → (left + MSS ≤ receive_window v.receiving) ⊎ (receive_window v.receiving ≡ 0)
  told_before v (inl wide) = inl wide
  told_before v (inr none) = inr none.1

  syn_leaves : (v : View) (now : Moment) → IsSound v → is_opening v.state ≡ true → LeavesSome left v → LeavesSome left (after_emitted v Syn now)
  syn_leaves v now sound opening p =
      let sent = after_syn_out v now in
      let same : IsAsIt v sent = syn_as_it v now in
      let size : sent.receiving.size ≡ v.receiving.size = ap (λ (r : Receiving). r.size) same.0 in
      either View (λ w. LeavesSome left (clocked false w now)) (is_syn_received v.state) (after_syn_ack_paid sent) sent
      (λ received. (
        omega (arith, syn_told_size sent.receiving, size, p.0),
        λ still silent. inl (subst (λ r. left + MSS ≤ receive_window (after_syn_advertisement r)) (sym same.0)
            (syn_told_wide v.receiving (sound_keeping v sound) (none_readable v sound opening) p.0 (told_before v (p.1 received (sym same.2 ∙ silent))))),
        λ opened silent free. not_yet sent.state same.1 opened,
      ))
      (λ waits. (omega (arith, size, p.0), λ received silent. clash (is_syn_received sent.state) received (ap is_syn_received same.1 ∙ waits), λ opened silent free. not_yet sent.state same.1 opened))
    where
      not_yet : {C : Type 0} (t : State) → t ≡ v.state → (is_opening t || is_closed t) ≡ false → C
      not_yet t is opened = clash (is_opening t) (ap is_opening is ∙ opening) (neither (is_opening t) (is_closed t) opened).0

  emission_leaves : (v : View) (now : Moment) → IsSound v → LeavesSome left v → LeavesSome left (after_first v (first_due v) now)
  emission_leaves v now sound p = by_due (λ o. LeavesSome left (after_first v o now)) v (record {
    nothing = λ quiet heard. p;
    rst = λ owes. p;
    syn = λ opening goes. syn_leaves v now sound opening p;
    once_more = λ opened place is goes. spoken v (after_stretch v (again v place) now) now (stretch_receives v (again v place) now) p;
    octets = λ opened sends. spoken v (after_stretch v (new_octets v) now) now (stretch_receives v (new_octets v) now) p;
    fin = λ opened sends. spoken v (after_stretch v (fin_alone v) now) now (stretch_receives v (fin_alone v) now) p;
    probe = λ opened owes goes. spoken v (after_probe v) now (probe_receives v) p;
    ack = λ owes. spoken v v now refl p;
    asks = λ quiet owes. let size = told_size v.receiving in (omega (arith, size, p.0), λ received silent. cc, λ opened silent free. cc);
  })

  -- The clock makes one owed, and ends no debt.

  timers_leave : (v : View) (now : Moment) → LeavesSome left v → LeavesSome left (after_timers v now)
  timers_leave v now p =
      let one = after_expiry v now in
      let two = delayed_ack_expired one now in
      let first : LeavesSome left one = either View (LeavesSome left) (has_come v.timers.retransmission now) (retransmission_expired v) _ (λ expired. p)
      (λ waits. either View (LeavesSome left) (has_come v.timers.probe now) (probe_expired v now) v (λ probes. p) (λ early. p)) in
      let second : LeavesSome left two = either View (LeavesSome left) (has_come one.timers.delayed_ack now) _ one (λ comes. (first.0, first.1, λ opened silent free. first.2 opened silent (neither one.owes_ack one.delays_ack free).0)) (λ early. first) in
      either View (LeavesSome left) (has_come two.timers.overriding now) _ two (λ comes. second) (λ early. second)

  -- Our side closes.

  received_open : (t : State) → is_syn_received (beyond_shutdown t) ≡ true → is_syn_received t ≡ true
  received_open Established e = cc
  received_open CloseWait e = cc
  received_open _ e = e

  opened_open : (t : State) → (is_opening (beyond_shutdown t) || is_closed (beyond_shutdown t)) ≡ false → (is_opening t || is_closed t) ≡ false
  opened_open Established e = refl
  opened_open CloseWait e = refl
  opened_open _ e = e

  -- An acknowledgement that is held back on guard leaves what was.

  -- as much is left as an acknowledgement needs
  abbrev LeftFor : View → Type 0
  LeftFor x = least_left left x.delays_ack ≤ receive_window x.receiving

  drawn_leaves : (v : View) (s : Segment) → is_closed v.state ≡ false → LeavesSome left v → draws_one v s ≡ true → (let w = after_heard v s in (is_opening w.state || is_closed w.state) ≡ false → w.spoke ≡ false → LeftFor w)
  drawn_leaves v s lives p draws opened silent =
      let d = drawing_tells v s draws in
      let w = after_heard v s in
      elim d.unused [
        | inl unused ↦
            let same = unused_owes v s lives d.past unused in
            subst LeftFor (sym same) (p.2 (sym (ap (λ (x : View). is_opening x.state || is_closed x.state) same) ∙ opened) (sym (ap (λ (x : View). x.spoke) same) ∙ silent) d.free)
        | inr is ↦
            let a = asking_tells v s is in
            let l = leaves v s a.opened a.none in
            let kept : LeftFor v = p.2 (ap₂ (λ b c. b || c) a.opened lives) (sym l.spoke ∙ silent) d.free in
            subst (λ b. least_left left b ≤ receive_window w.receiving) (sym (l.delays (neither (is_opening w.state) (is_closed w.state) opened).1))
            (subst (λ r. least_left left v.delays_ack ≤ receive_window r) (sym l.receiving) kept)
      ]

  asked_leaves : (v : View) (s : Segment) → is_opening_syn v s ≡ true → (let w = after_heard v s in (is_opening w.state || is_closed w.state) ≡ false → LeftFor w)
  asked_leaves v s asks opened =
      let a = asking_owes v s asks in
      clash (is_opening v.state || is_closed v.state) (or_left (is_opening v.state) (is_closed v.state) a.opens) (sym (ap (λ (x : View). is_opening x.state || is_closed x.state) a.heard) ∙ opened)

  timed_leaves : (v : View) (s : Segment) (now : Moment) → is_closed v.state ≡ false → LeavesSome left v → LeavesSome left (after_heard v s) → LeavesSome left (timed_by (before v s) (after_heard v s) now)
  timed_leaves v s now lives p q =
      let b = before v s in
      let w = after_heard v s in (
        q.0,
        q.1,
        λ opened silent free. by (LeftFor w) (is_held_back b w now || b.asks_again)
            (λ quiet. elim (or_else (is_held_back b w now) b.asks_again quiet) [
              | inl held ↦ drawn_leaves v s lives p (and_left b.draws_one (is_spent w.guard now) held) opened silent
              | inr asks ↦ asked_leaves v s (and_right v.guard.on (is_opening_syn v s) asks) opened
            ])
            (λ loud. q.2 opened silent (neither w.owes_ack _ (sym (ap (λ x. if x then false else owes_answer b w) loud) ∙ free)).0),
      )

  pub event_leaves : (v : View) (e : Event) → IsSound v → IsSized e → LeavesSome left v → LeavesSome left (after_event v e)
  event_leaves v e sound sized p = by_event (λ e w. IsSized e → LeavesSome left w) v (record {
    same = λ e few. p;
    asks = λ e alive few. p;
    silent = λ now few. p;
    heard = λ s now lives few. timed_leaves v s now lives p (heard_leaves v s sound few p);
    over = λ now ends few. (p.0, λ received silent. cc, λ opened silent free. cc);
    given_up = λ now waits expired few. (p.0, λ received silent. cc, λ opened silent free. cc);
    acts = λ now few. timers_leave (after_silence v now) now p;
    emits = λ now few. emission_leaves v now sound p;
    sends = λ octets taken now opened few. p;
    reads = λ len few. p;
    shuts = λ now few. (p.0, λ received. p.1 (received_open v.state received), λ opened. p.2 (opened_open v.state opened));
    delays = λ on now few. p;
    leaves = λ now lives few. (p.0, λ received. p.1 (received_open v.state received), λ opened. p.2 (opened_open v.state opened));
    aborts = λ e now at cause lives few. (p.0, λ received silent. cc, λ opened silent free. cc);
    refused = λ number hit few. (p.0, λ received silent. cc, λ opened silent free. cc);
    hopless = λ now over few. (p.0, λ received silent. cc, λ opened silent free. cc);
  }) e sized

  -- An opening.

  pub active_leaves : (room : Room) (local peer : Endpoint) (isn : ℕ) (now : Moment) → left + MSS ≤ size_of room → LeavesSome left (opened_actively room local peer isn now)
  active_leaves room local peer isn now wide = (wide, λ received silent. cc, λ opened silent free. cc)

  pub passive_leaves : (room : Room) (local peer : Endpoint) (isn : ℕ) (syn : Segment) (now : Moment) → isn < 2 ^ 32 → left + MSS ≤ size_of room → LeavesSome left (opened_passively room local peer isn syn now)
  passive_leaves room local peer isn syn now small wide = (
    settled_wide (scales_with (opened_actively room local peer isn now) syn) (size_of room) wide,
    λ received silent. inr (past_itself isn small, omega arith),
    λ opened silent free. cc,
  )

  -- What waits.

  pub quiet_leaves : (v : View) → LeavesSome left v → (is_opening v.state || is_closed v.state) ≡ false → first_due v ≡ None → v.receiving.readable ≡ [] → left ≤ receive_window v.receiving
  quiet_leaves v is opened none read =
      by (left ≤ receive_window v.receiving) v.spoke
      (λ spoke. let told = whole_told v opened spoke none read in omega (arith, told, is.0))
      (λ silent. that_left v.delays_ack (receive_window v.receiving) (is.2 opened silent (neither v.owes_ack _ (none_owed v none)).0))
