-- Why no number of a connection goes back.
use Rattle.std.proofs.Common.{◌≡◌, ℕ, ◌+◌, ◌-◌, ◌%◌, ◌^◌, ◌<◌, ◌≤◌, ◌==◌, ◌||◌, ◌&&◌, not, nat_lt, nat_le, if◌then◌else◌, Bool, true, false, List, length, Some, arith, refl, sym, ◌∙◌, ap, subst}
use Rattle.std.proofs.lemmas.Bool.{ltb-true, leb-true, leb-false, eqb-true}
use Rattle.tcp_segment.specs.Wire.{past}
use Rattle.tcp_segment.specs.Segment.{Segment}
use Rattle.clock.specs.declared.moment.Moment.{Moment}
use Rattle.tcp_state.specs.declared.emission.Due.TheVariants.{Syn, Text, Probe, Ack, KeepAlive}
use Rattle.tcp_state.specs.declared.emission.Stretch.{Stretch}
use Rattle.tcp_state.specs.declared.calls.Refusal.TheVariants.{ECONNREFUSED, ETIMEDOUT}
use Rattle.tcp_halves.specs.Halves.{Sending, Receiving}
use Rattle.tcp_halves.specs.Stream.{outstanding, is_new_ack, receive_window, octets_gained, after_octets, stands_next, after_end, after_sent, after_probed, number_before, bare_number}
use Rattle.tcp_halves.specs.Windows.{window_in, updates_window, after_window_update, after_advertisement, has_grown, receive_room, whole_units, syn_window, after_syn_advertisement}
use Rattle.tcp_state.specs.View.{View, IsSound, is_opening, is_syn_sent, is_syn_received, is_write_finished, takes_flag_number, after_stop, after_reset}
use Rattle.tcp_state.specs.Alive.{after_silence}
use Rattle.tcp_state.specs.Timing.{clocked, after_timers}
use Rattle.tcp_state.specs.Calls.{after_shutdown, aborted_at, after_release}
use Rattle.tcp_state.specs.Arrival.{reset_error, is_receiving, after_ack, after_window, after_text, after_fin, after_lost, after_heard}
use Rattle.tcp_state.specs.Due.{first_due, again, fin_alone, new_octets, probe_stretch, end_of, after_ack_paid, after_syn_ack_paid, after_stretch, after_probe, after_syn_out, after_going_out, after_emitted}
use Rattle.tcp_state.specs.Edges.{Event, after_first, after_event}
use Rattle.tcp_state.specs.Positions.{GoesOn, NeverBack, HasNumber}
use Rattle.tcp_state.proofs.Clocked.{timers_keep, syn_out}
use Rattle.tcp_halves.proofs.Choices.{either, by, clash, and_left, and_right, or_right}
use Rattle.tcp_state.proofs.Segments.{after_reading, by_fin, by_ack, ack_receives, reading_sends, by_hearing}
use Rattle.tcp_state.proofs.Events.{by_event}
use Rattle.tcp_halves.proofs.Keeping.{IsKeeping, gained_fits, in_units}
use Rattle.tcp_state.proofs.Sound.{sound_keeping}
use Rattle.tcp_state.proofs.Places.{goes_within, again_few}
use Rattle.tcp_state.proofs.Emissions.{by_due, numbers_send, numbers_receive, stretch_sends, stretch_receives, probe_sends, probe_receives}

-- One number.

rests : (n : ℕ) → GoesOn n n
rests n initial position is = (0, omega arith, omega (arith, is))

goes : (before after d : ℕ) → d < 2 ^ 31 → after ≡ (before + d) % 2 ^ 32 → GoesOn before after
goes before after d few is initial position at = (d, few, omega (arith, is, at))

-- one number reaches another that is so far past it
reaches : (before after : ℕ) → after < 2 ^ 32 → past after before < 2 ^ 31 → GoesOn before after
reaches before after fits near initial position at = (past after before, near, omega (arith, fits, near, at))

stays_at : (before after : ℕ) → after ≡ before → GoesOn before after
stays_at before after same = subst (λ n. GoesOn before n) (sym same) (rests before)

-- The number of an acknowledgement alone: with SND.NXT it stays, and is that itself once what only a probe took is acknowledged, or other numbers go out.
bare_stays : (s t : Sending) → t.nxt ≡ s.nxt → t.probed ≡ s.probed → GoesOn (bare_number s) (bare_number t)
bare_stays s t nxt probed =
    stays_at (bare_number s) (bare_number t) (ap (λ n. if t.probed then number_before n else n) nxt ∙ ap (λ b. if b then number_before s.nxt else s.nxt) probed)

before_next : (nxt : ℕ) → nxt < 2 ^ 32 → GoesOn (number_before nxt) nxt
before_next nxt fits = goes (number_before nxt) nxt 1 (omega arith) (omega (arith, fits))

bare_reaches : (s : Sending) → s.nxt < 2 ^ 32 → GoesOn (bare_number s) s.nxt
bare_reaches s fits = either ℕ (λ n. GoesOn n s.nxt) s.probed (number_before s.nxt) s.nxt (λ probed. before_next s.nxt fits) (λ none. rests s.nxt)

bare_freed : (s t : Sending) → s.nxt < 2 ^ 32 → t.nxt ≡ s.nxt → t.probed ≡ false → GoesOn (bare_number s) (bare_number t)
bare_freed s t fits nxt none = subst (λ n. GoesOn (bare_number s) n) (sym (ap (λ b. if b then number_before t.nxt else t.nxt) none ∙ nxt)) (bare_reaches s fits)

-- What stands in the way of a number that goes back.

-- few octets are held, so that few numbers are outstanding
pub few_held : (v : View) → IsSound v → length v.sending.held ≤ 1048576
few_held v sound = most (is_opening v.state || is_write_finished v.state) (length v.sending.held) sound.held
  where
    most : (b : Bool) (held : ℕ) → held ≤ (if b then 0 else v.sending.size) → held ≤ 1048576
    most true held e = omega (arith, e)
    most false held e = omega (arith, e, sound.terms.send_size)

pub few_outstanding : (v : View) → IsSound v → outstanding v.sending ≤ 1048577
few_outstanding v sound = most (takes_flag_number v.state) (length v.sending.held) (outstanding v.sending) (few_held v sound) sound.flight
  where
    most : (b : Bool) (held o : ℕ) → held ≤ 1048576 → o ≤ held + (if b then 1 else 0) → o ≤ 1048577
    most true held o h e = omega (arith, h, e)
    most false held o h e = omega (arith, h, e)

-- the two halves as they were, but for SND.UNA, which may have come to SND.NXT
still : (v w : View) → w.sending.una ≡ v.sending.una → w.sending.nxt ≡ v.sending.nxt → w.sending.probed ≡ v.sending.probed → w.receiving ≡ v.receiving → NeverBack v w
still v w una nxt probed receiving = record {
  una = stays_at v.sending.una w.sending.una una;
  nxt = stays_at v.sending.nxt w.sending.nxt nxt;
  bare = bare_stays v.sending w.sending nxt probed;
  rnext = λ past_opening. stays_at v.receiving.rnext w.receiving.rnext (ap (λ (r : Receiving). r.rnext) receiving);
  edge = λ past_opening. stays_at v.receiving.edge w.receiving.edge (ap (λ (r : Receiving). r.edge) receiving);
}

ended : (v w : View) → IsSound v → w.sending.una ≡ v.sending.nxt → w.sending.nxt ≡ v.sending.nxt → GoesOn (bare_number v.sending) (bare_number w.sending) → w.receiving ≡ v.receiving → NeverBack v w
ended v w sound una nxt bare receiving =
    let few = few_outstanding v sound in
    record {
      una = subst (λ n. GoesOn v.sending.una n) (sym una) (reaches v.sending.una v.sending.nxt sound.nxt (omega (arith, few)));
      nxt = stays_at v.sending.nxt w.sending.nxt nxt;
      bare = bare;
      rnext = λ past_opening. stays_at v.receiving.rnext w.receiving.rnext (ap (λ (r : Receiving). r.rnext) receiving);
      edge = λ past_opening. stays_at v.receiving.edge w.receiving.edge (ap (λ (r : Receiving). r.edge) receiving);
    }

-- a connection goes on from another whose halves are the same
alike : (v w x : View) → x.sending ≡ w.sending → x.receiving ≡ w.receiving → NeverBack v w → NeverBack v x
alike v w x sending receiving k = record {
  una = subst (λ t. GoesOn v.sending.una t.una) (sym sending) k.una;
  nxt = subst (λ t. GoesOn v.sending.nxt t.nxt) (sym sending) k.nxt;
  bare = subst (λ t. GoesOn (bare_number v.sending) (bare_number t)) (sym sending) k.bare;
  rnext = λ past_opening. subst (λ r. GoesOn v.receiving.rnext r.rnext) (sym receiving) (k.rnext past_opening);
  edge = λ past_opening. subst (λ r. GoesOn v.receiving.edge r.edge) (sym receiving) (k.edge past_opening);
}

-- Segments.

acknowledged : (v : View) (ack : ℕ) → IsSound v → ack < 2 ^ 32 → GoesOn v.sending.una (after_ack v ack).sending.una
acknowledged v ack sound fits =
    let few = few_outstanding v sound in
    let on : is_new_ack v.sending ack ≡ true → GoesOn v.sending.una ack = λ new.
    let most : past ack v.sending.una ≤ outstanding v.sending = leb-true (past ack v.sending.una) (outstanding v.sending) (and_right (nat_lt 0 (past ack v.sending.una)) _ new) in
    reaches v.sending.una ack fits (omega (arith, few, most)) in
    by_ack (λ w. GoesOn v.sending.una w.sending.una) v ack (record {
      old = rests v.sending.una;
      beyond = rests v.sending.una;
      opens = λ received new. reaches v.sending.una v.sending.nxt sound.nxt (omega (arith, few));
      octets = on;
      fin = λ new fin. on new;
    })

pub acknowledged_nxt : (v : View) (ack : ℕ) → (after_ack v ack).sending.nxt ≡ v.sending.nxt
acknowledged_nxt v ack = by_ack (λ w. w.sending.nxt ≡ v.sending.nxt) v ack (record { old = refl; beyond = refl; opens = λ received new. refl; octets = λ new. refl; fin = λ new fin. refl })

acknowledged_bare : (v : View) (ack : ℕ) → IsSound v → GoesOn (bare_number v.sending) (bare_number (after_ack v ack).sending)
acknowledged_bare v ack sound =
    by_ack (λ w. GoesOn (bare_number v.sending) (bare_number w.sending)) v ack (record {
      old = rests (bare_number v.sending);
      beyond = rests (bare_number v.sending);
      opens = λ received new. bare_reaches v.sending sound.nxt;
      octets = λ new. bare_reaches v.sending sound.nxt;
      fin = λ new fin. bare_reaches v.sending sound.nxt;
    })

told_bare : (s : Sending) (number ack window : ℕ) → bare_number (after_window_update s number ack window) ≡ bare_number s
told_bare s number ack window = either Sending (λ t. bare_number t ≡ bare_number s) (updates_window s number ack) _ s (λ tells. refl) (λ none. refl)

pub told_una : (s : Sending) (number ack window : ℕ) → (after_window_update s number ack window).una ≡ s.una
told_una s number ack window = either Sending (λ t. t.una ≡ s.una) (updates_window s number ack) _ s (λ tells. refl) (λ none. refl)

pub told_nxt : (s : Sending) (number ack window : ℕ) → (after_window_update s number ack window).nxt ≡ s.nxt
told_nxt s number ack window = either Sending (λ t. t.nxt ≡ s.nxt) (updates_window s number ack) _ s (λ tells. refl) (λ none. refl)

-- RCV.NXT moves within the window that is told, whose edge stays
pub record Advances (r t : Receiving) : Type 0 where
  pub by : ℕ
  pub within : by ≤ receive_window r
  pub rnext : t.rnext ≡ (r.rnext + by) % 2 ^ 32
  pub edge : t.edge ≡ r.edge

pub waits : (r : Receiving) → r.rnext < 2 ^ 32 → Advances r r
waits r small = record { by = 0; within = omega arith; rnext = omega (arith, small); edge = refl }

takes : (r : Receiving) (number : ℕ) (octets : List ℕ) → IsKeeping r → Advances r (after_octets r number octets)
takes r number octets is = record { by = length (octets_gained r number octets); within = gained_fits r number octets is; rnext = refl; edge = refl }

-- over the number of a FIN too
ends : (r t : Receiving) → r.rnext < 2 ^ 32 → Advances r t → 0 < receive_window t → Advances r (after_end t)
ends r t small a room =
    let e : receive_window t ≡ past r.edge ((r.rnext + a.by) % 2 ^ 32) = ap (λ n. past t.edge n) a.rnext ∙ ap (λ n. past n ((r.rnext + a.by) % 2 ^ 32)) a.edge in
    let space : 0 < past r.edge ((r.rnext + a.by) % 2 ^ 32) = subst (λ n. 0 < n) e room in
    record { by = a.by + 1; within = one_more r.rnext r.edge a.by small a.within space; rnext = omega (arith, a.rnext); edge = a.edge }
  where
    one_more : (rnext edge by : ℕ) → rnext < 2 ^ 32 → by ≤ past edge rnext → 0 < past edge ((rnext + by) % 2 ^ 32) → by + 1 ≤ past edge rnext
    one_more rnext edge by small within space = omega (arith, small, within, space)

pub advanced_text : (r : Receiving) (w : View) (s : Segment) → IsKeeping r → Advances r w.receiving → w.receiving ≡ r → Advances r (after_text w s).receiving
advanced_text r w s is a same =
    either View (λ x. Advances r x.receiving) ((length s.octets == 0) || not (is_receiving w.state)) w _
    (λ none. a) (λ some. subst (λ t. Advances r (after_octets t s.number s.octets)) (sym same) (takes r s.number s.octets is))

pub advanced_fin : (r : Receiving) (w : View) (s : Segment) → r.rnext < 2 ^ 32 → Advances r w.receiving → Advances r (after_fin w s).receiving
advanced_fin r w s small a =
    by_fin (λ x. Advances r x.receiving) w s
    (λ counts.
    let stands = and_right (s.flags.fin && is_receiving w.state) (stands_next w.receiving ((s.number + length s.octets) % 2 ^ 32)) counts in
    let room = ltb-true 0 (receive_window w.receiving) (and_right ((s.number + length s.octets) % 2 ^ 32 == w.receiving.rnext) _ stands) in
    ends r w.receiving small a room)
    a a

heard : (v w : View) → IsSound v → GoesOn v.sending.una w.sending.una → w.sending.nxt ≡ v.sending.nxt → GoesOn (bare_number v.sending) (bare_number w.sending) → Advances v.receiving w.receiving → NeverBack v w
heard v w sound una nxt bare a = record {
  una = una;
  nxt = stays_at v.sending.nxt w.sending.nxt nxt;
  bare = bare;
  rnext = λ past_opening. goes v.receiving.rnext w.receiving.rnext a.by (omega (arith, a.within, sound.window, sound.terms.places, sound.terms.capacity)) a.rnext;
  edge = λ past_opening. stays_at v.receiving.edge w.receiving.edge a.edge;
}

by_reading : (v : View) (s : Segment) → IsSound v → s.acknowledgement < 2 ^ 32 → NeverBack v (after_reading v s)
by_reading v s sound fits =
    let acked = after_ack v s.acknowledgement in
    let told = after_window acked s in
    let same : told.receiving ≡ v.receiving = ack_receives v s.acknowledgement in
    let una : (after_reading v s).sending.una ≡ acked.sending.una = ap (λ (x : Sending). x.una) (reading_sends v s) ∙ told_una acked.sending s.number s.acknowledgement (window_in acked.sending s.window) in
    let nxt : (after_reading v s).sending.nxt ≡ acked.sending.nxt = ap (λ (x : Sending). x.nxt) (reading_sends v s) ∙ told_nxt acked.sending s.number s.acknowledgement (window_in acked.sending s.window) in
    let bare : bare_number (after_reading v s).sending ≡ bare_number acked.sending = ap bare_number (reading_sends v s) ∙ told_bare acked.sending s.number s.acknowledgement (window_in acked.sending s.window) in
    heard v (after_reading v s) sound
    (subst (λ n. GoesOn v.sending.una n) (sym una) (acknowledged v s.acknowledgement sound fits))
    (nxt ∙ acknowledged_nxt v s.acknowledgement)
    (subst (λ n. GoesOn (bare_number v.sending) n) (sym bare) (acknowledged_bare v s.acknowledgement sound))
    (advanced_fin v.receiving (after_text told s) s sound.rnext (advanced_text v.receiving told s (sound_keeping v sound) (subst (λ r. Advances v.receiving r) (sym same) (waits v.receiving sound.rnext)) same))

by_acknowledgement : (v : View) (s : Segment) → IsSound v → s.acknowledgement < 2 ^ 32 → NeverBack v (after_ack v s.acknowledgement)
by_acknowledgement v s sound fits =
    let acked = after_ack v s.acknowledgement in
    heard v acked sound (acknowledged v s.acknowledgement sound fits) (acknowledged_nxt v s.acknowledgement) (acknowledged_bare v s.acknowledgement sound)
    (subst (λ r. Advances v.receiving r) (sym (ack_receives v s.acknowledgement)) (waits v.receiving sound.rnext))

-- the halves of the peer's stream begin with the SYN that is heard
opens : (v w : View) → is_syn_sent v.state ≡ true → GoesOn v.sending.una w.sending.una → GoesOn v.sending.nxt w.sending.nxt → GoesOn (bare_number v.sending) (bare_number w.sending) → NeverBack v w
opens v w opening una nxt bare = record {
  una = una;
  nxt = nxt;
  bare = bare;
  rnext = λ past_opening. clash (is_syn_sent v.state) opening past_opening;
  edge = λ past_opening. clash (is_syn_sent v.state) opening past_opening;
}

by_lost : (v : View) (s : Segment) → IsSound v → NeverBack v (after_lost v s)
by_lost v s sound =
    let acked = after_ack v s.acknowledgement in
    let nxt : (after_window acked s).sending.nxt ≡ v.sending.nxt = told_nxt acked.sending s.number s.acknowledgement (window_in acked.sending s.window) ∙ acknowledged_nxt v s.acknowledgement in
    let bare : bare_number (after_window acked s).sending ≡ bare_number acked.sending = told_bare acked.sending s.number s.acknowledgement (window_in acked.sending s.window) in
    ended v (after_lost v s) sound nxt nxt (subst (λ n. GoesOn (bare_number v.sending) n) (sym bare) (acknowledged_bare v s.acknowledgement sound)) (ack_receives v s.acknowledgement)

by_heard : (v : View) (s : Segment) → IsSound v → s.acknowledgement < 2 ^ 32 → NeverBack v (after_heard v s)
by_heard v s sound fits =
    let few = few_outstanding v sound in
    by_hearing (λ w. NeverBack v w) v s (by_lost v s sound) (record {
      dropped = still v v refl refl refl refl;
      drawn = still v _ refl refl refl refl;
      reset = λ acts. ended v (after_reset v (reset_error v.state)) sound refl refl (rests (bare_number v.sending)) refl;
      crossed = λ opening. opens v _ opening (rests v.sending.una) (rests v.sending.nxt) (rests (bare_number v.sending));
      opened = λ opening right. opens v _ opening (reaches v.sending.una v.sending.nxt sound.nxt (omega (arith, few))) (rests v.sending.nxt) (bare_reaches v.sending sound.nxt);
      acknowledged = λ taken. by_acknowledgement v s sound fits;
      read = λ on. by_reading v s sound fits;
    })

-- Emissions.

-- the later of two numbers
sent_on : (v : View) (count : ℕ) → IsSound v → count < 2 ^ 21 → GoesOn v.sending.nxt (after_sent v.sending count).nxt
sent_on v count sound few =
    let end = (v.sending.una + count) % 2 ^ 32 in
    let reach : past end v.sending.una ≡ count = omega (arith, sound.una, few) in
    either ℕ (λ n. GoesOn v.sending.nxt n) (nat_le (past v.sending.nxt v.sending.una) (past end v.sending.una)) end v.sending.nxt
    (λ le.
    let order = leb-true (past v.sending.nxt v.sending.una) (past end v.sending.una) le in
    reaches v.sending.nxt end (omega arith) (omega (arith, order, reach, sound.una, sound.nxt, few)))
    (λ lt. rests v.sending.nxt)

-- .. and the number of an acknowledgement alone
sent_bare : (v : View) (count : ℕ) → IsSound v → count < 2 ^ 21 → GoesOn (bare_number v.sending) (bare_number (after_sent v.sending count))
sent_bare v count sound few =
    let s = v.sending in
    let t = after_sent s count in
    let end = (s.una + count) % 2 ^ 32 in
    let reach : past end s.una ≡ count = omega (arith, sound.una, few) in
    let out = few_outstanding v sound in
    let within = nat_le (past end s.una) (outstanding s) in
    by (GoesOn (bare_number s) (bare_number t)) (s.probed && within)
    (λ keeps.
    let less = leb-true (past end s.una) (outstanding s) (and_right s.probed within keeps) in
    let nxt : t.nxt ≡ s.nxt = either ℕ (λ n. n ≡ s.nxt) (nat_le (past s.nxt s.una) (past end s.una)) end s.nxt
    (λ le. let order = leb-true (past s.nxt s.una) (past end s.una) le in omega (arith, order, less, reach, sound.una, sound.nxt)) (λ lt. refl) in
    bare_stays s t nxt (keeps ∙ sym (and_left s.probed within keeps)))
    (λ ends. subst (λ n. GoesOn (bare_number s) n) (sym (ap (λ b. if b then number_before t.nxt else t.nxt) ends))
    (either ℕ (λ n. GoesOn (bare_number s) n) (nat_le (past s.nxt s.una) (past end s.una)) end s.nxt
    (λ le.
    let order = leb-true (past s.nxt s.una) (past end s.una) le in
    either ℕ (λ n. GoesOn n end) s.probed (number_before s.nxt) s.nxt
    (λ probed. reaches (number_before s.nxt) end (omega arith) (omega (arith, order, reach, sound.una, sound.nxt, few)))
    (λ none. reaches s.nxt end (omega arith) (omega (arith, order, reach, sound.una, sound.nxt, few))))
    (λ lt. bare_reaches s sound.nxt)))

or_false : (b : Bool) → (b || false) ≡ b
or_false true = refl
or_false false = refl

-- a window's probe leaves it, or takes a number behind it
probed_bare : (v : View) (count : ℕ) → IsSound v → count ≡ 1 → GoesOn (bare_number v.sending) (bare_number (after_probed v.sending count))
probed_bare v count sound one =
    let s = v.sending in
    let t = after_sent s count in
    let u = after_probed s count in
    let first = outstanding s == 0 in
    by (GoesOn (bare_number s) (bare_number u)) first
    (λ none.
    let out = eqb-true (outstanding s) 0 none in
    let end = (s.una + count) % 2 ^ 32 in
    let next : s.una ≡ s.nxt = omega (arith, out, sound.una, sound.nxt) in
    let moved : t.nxt ≡ end = either ℕ (λ n. n ≡ end) (nat_le (past s.nxt s.una) (past end s.una)) end s.nxt (λ le. refl)
    (λ lt. absurd (let far = leb-false (past s.nxt s.una) (past end s.una) lt in omega (arith, far, out))) in
    let number : bare_number u ≡ s.nxt = ap (λ b. if b then number_before t.nxt else t.nxt) (or_right t.probed first none) ∙ (ap number_before moved ∙ omega (arith, next, one, sound.nxt)) in
    subst (λ n. GoesOn (bare_number s) n) (sym number) (bare_reaches s sound.nxt))
    (λ some. subst (λ n. GoesOn (bare_number s) n) (sym (ap (λ b. if b then number_before t.nxt else t.nxt) (ap (λ b. t.probed || b) some ∙ or_false t.probed)))
    (sent_bare v count sound (omega (arith, one))))

-- the edge moves up to the end of a wider window ..
wider : (r : Receiving) (window : ℕ) → IsKeeping r → receive_window r ≤ window → window ≤ 1048576 → GoesOn r.edge ((r.rnext + window) % 2 ^ 32)
wider r window is more few initial position at = (window - receive_window r, omega (arith, few), omega (arith, is.small, more, few, at))

few_left : (r : Receiving) → IsKeeping r → receive_room r ≤ 1048576
few_left r is = omega (arith, is.sized, is.most)

-- .. that of the room, as far as units fill it, or that of a SYN; or it stays
pub told_on : (r : Receiving) → IsKeeping r → GoesOn r.edge (after_advertisement r).edge
told_on r is = either Receiving (λ t. GoesOn r.edge t.edge) (has_grown r) _ r
    (λ grows.
    let filled = in_units r.unit (receive_room r) is.some in
    let more = leb-true (receive_window r + 1460) (receive_room r) grows in
    wider r (whole_units r.unit (receive_room r)) is (omega (arith, filled.1, more, is.few)) (omega (arith, filled.0, few_left r is)))
    (λ keeps. rests r.edge)

syn_told_on : (r : Receiving) → IsKeeping r → GoesOn r.edge (after_syn_advertisement r).edge
syn_told_on r is = either Receiving (λ t. GoesOn r.edge t.edge) (nat_le (receive_window r + 1460) (syn_window r)) _ r
    (λ grows. let more = leb-true (receive_window r + 1460) (syn_window r) grows in wider r (syn_window r) is (omega (arith, more)) (omega (arith, few_left r is)))
    (λ keeps. rests r.edge)

pub advertised : (r : Receiving) → (after_advertisement r).rnext ≡ r.rnext
advertised r = either Receiving (λ t. t.rnext ≡ r.rnext) (has_grown r) _ r (λ grows. refl) (λ keeps. refl)

syn_advertised : (r : Receiving) → (after_syn_advertisement r).rnext ≡ r.rnext
syn_advertised r = either Receiving (λ t. t.rnext ≡ r.rnext) (nat_le (receive_window r + 1460) (syn_window r)) _ r (λ grows. refl) (λ keeps. refl)

-- so many numbers from SND.UNA on went out
goes_out : (v w : View) (count : ℕ) → IsSound v → count < 2 ^ 21 → w.sending ≡ after_sent v.sending count → w.receiving ≡ v.receiving → NeverBack v w
goes_out v w count sound few sending receiving = record {
  una = stays_at v.sending.una w.sending.una (ap (λ (t : Sending). t.una) sending);
  nxt = subst (λ t. GoesOn v.sending.nxt t.nxt) (sym sending) (sent_on v count sound few);
  bare = subst (λ t. GoesOn (bare_number v.sending) (bare_number t)) (sym sending) (sent_bare v count sound few);
  rnext = λ past_opening. stays_at v.receiving.rnext w.receiving.rnext (ap (λ (r : Receiving). r.rnext) receiving);
  edge = λ past_opening. stays_at v.receiving.edge w.receiving.edge (ap (λ (r : Receiving). r.edge) receiving);
}

-- .. by a window's probe
probe_out : (v w : View) (count : ℕ) → IsSound v → count ≡ 1 → w.sending ≡ after_probed v.sending count → w.receiving ≡ v.receiving → NeverBack v w
probe_out v w count sound one sending receiving = record {
  una = stays_at v.sending.una w.sending.una (ap (λ (t : Sending). t.una) sending);
  nxt = subst (λ t. GoesOn v.sending.nxt t.nxt) (sym sending) (sent_on v count sound (omega (arith, one)));
  bare = subst (λ t. GoesOn (bare_number v.sending) (bare_number t)) (sym sending) (probed_bare v count sound one);
  rnext = λ past_opening. stays_at v.receiving.rnext w.receiving.rnext (ap (λ (r : Receiving). r.rnext) receiving);
  edge = λ past_opening. stays_at v.receiving.edge w.receiving.edge (ap (λ (r : Receiving). r.edge) receiving);
}

-- an acknowledgement goes out with them, or alone, and advertises a window
tells : (v w : View) (told : Receiving → Receiving) → (told v.receiving).rnext ≡ v.receiving.rnext → GoesOn v.receiving.edge (told v.receiving).edge → w.receiving ≡ v.receiving → NeverBack v w
    → NeverBack v (record w { receiving = told w.receiving; owes_ack = false; delays_ack = false })
tells v w told rnext edge same k = record {
  una = k.una;
  nxt = k.nxt;
  bare = k.bare;
  rnext = λ past_opening. subst (λ r. GoesOn v.receiving.rnext (told r).rnext) (sym same) (stays_at v.receiving.rnext (told v.receiving).rnext rnext);
  edge = λ past_opening. subst (λ r. GoesOn v.receiving.edge (told r).edge) (sym same) edge;
}

pays : (v w : View) → IsSound v → w.receiving ≡ v.receiving → NeverBack v w → NeverBack v (after_ack_paid w)
pays v w sound same k = tells v w after_advertisement (advertised v.receiving) (told_on v.receiving (sound_keeping v sound)) same k

pays_by_syn : (v w : View) → IsSound v → w.receiving ≡ v.receiving → NeverBack v w → NeverBack v (after_syn_ack_paid w)
pays_by_syn v w sound same k = tells v w after_syn_advertisement (syn_advertised v.receiving) (syn_told_on v.receiving (sound_keeping v sound)) same k

by_text : (v : View) (stretch : Stretch) (now : Moment) → IsSound v → end_of stretch < 2 ^ 21 → NeverBack v (after_ack_paid (after_stretch v stretch now))
by_text v stretch now sound few =
    let sent = after_stretch v stretch now in
    let receiving = stretch_receives v stretch now in
    pays v sent sound receiving (goes_out v sent (end_of stretch) sound few (stretch_sends v stretch now) receiving)

by_probe : (v : View) → IsSound v → NeverBack v (after_ack_paid (after_probe v))
by_probe v sound =
    let receiving = probe_receives v in
    let one = either Stretch (λ t. end_of t ≡ 1) (length v.sending.held == 0) _ _ (λ none. refl) (λ some. refl) in
    pays v (after_probe v) sound receiving (probe_out v (after_probe v) (end_of (probe_stretch v)) sound one (probe_sends v) receiving)

by_syn : (v : View) (now : Moment) → IsSound v → NeverBack v (after_going_out v Syn now)
by_syn v now sound =
    let sent = after_syn_out v now in
    let receiving = syn_out v now (λ w. w.receiving ≡ v.receiving) (numbers_receive v 0 1 now) (numbers_receive v 0 1 now) in
    let sending = syn_out v now (λ w. w.sending ≡ after_sent v.sending 1) (numbers_send v 0 1 now) (numbers_send v 0 1 now) in
    let on = goes_out v sent 1 sound (omega arith) sending receiving in
    either View (λ w. NeverBack v w) (is_syn_received v.state) (after_syn_ack_paid sent) sent (λ received. pays_by_syn v sent sound receiving on) (λ first. on)

-- a flag takes a number
flag_number : (b : Bool) (offset count most : ℕ) → offset + count ≤ most → offset + (count + (if b then 1 else 0)) ≤ most + 1
flag_number true offset count most e = omega (arith, e)
flag_number false offset count most e = omega (arith, e)

by_emission : (v : View) (now : Moment) → IsSound v → NeverBack v (after_first v (first_due v) now)
by_emission v now sound =
    let few = few_outstanding v sound in
    let text : (stretch : Stretch) → end_of stretch < 2 ^ 21 → NeverBack v (after_first v (Some (Text stretch)) now) = λ stretch small.
    alike v (after_ack_paid (after_stretch v stretch now)) (after_emitted v (Text stretch) now) refl refl (by_text v stretch now sound small) in
    by_due (λ o. NeverBack v (after_first v o now)) v (record {
      nothing = λ quiet heard. still v v refl refl refl refl;
      rst = λ owes. still v _ refl refl refl refl;
      syn = λ opening goes. let out = after_going_out v Syn now in alike v out (clocked false out now) refl refl (by_syn v now sound);
      once_more = λ opened place is goes.
          let within = goes_within v place goes in
          let octets = again_few v place in
          let stretch = again v place in
          let size : stretch.offset + stretch.count ≤ 1060000 = omega (arith, octets, within, few, sound.segment) in
          let end = flag_number stretch.fin stretch.offset stretch.count 1060000 size in
          text stretch (omega (arith, end));
      octets = λ opened sends.
          let stretch = new_octets v in
          let size : stretch.offset + stretch.count ≤ 1060000 = omega (arith, few, sound.segment) in
          let end = flag_number stretch.fin stretch.offset stretch.count 1060000 size in
          text stretch (omega (arith, end));
      fin = λ opened sends. text (fin_alone v) (omega (arith, few));
      probe = λ opened owes probes. alike v (after_ack_paid (after_probe v)) (after_emitted v Probe now) refl refl (by_probe v sound);
      ack = λ owes. alike v (after_ack_paid v) (after_emitted v Ack now) refl refl (pays v v sound refl (still v v refl refl refl refl));
      asks = λ quiet owes. alike v (after_ack_paid v) (after_emitted v KeepAlive now) refl refl (pays v v sound refl (still v v refl refl refl refl));
    })

-- Every event.

pub never_back : (v : View) (e : Event) → IsSound v → HasNumber e → NeverBack v (after_event v e)
never_back v e sound = by_event (λ e w. HasNumber e → NeverBack v w) v (record {
  same = λ e fits. still v v refl refl refl refl;
  asks = λ e alive fits. still v _ refl refl refl refl;
  silent = λ now fits. still v _ refl refl refl refl;
  heard = λ s now lives fits. alike v (after_heard v s) _ refl refl (by_heard v s sound fits);
  over = λ now ends fits. ended v (after_stop v) sound refl refl (rests (bare_number v.sending)) refl;
  given_up = λ now waits expired fits. ended v (after_reset v (Some ETIMEDOUT)) sound refl refl (rests (bare_number v.sending)) refl;
  acts = λ now fits. let asked = after_silence v now in let kept = timers_keep asked now in
      alike v v (clocked false (after_timers asked now) now) (ap (λ (w : View). w.sending) kept) (ap (λ (w : View). w.receiving) kept) (still v v refl refl refl refl);
  emits = λ now fits. by_emission v now sound;
  sends = λ octets taken now opened fits. still v _ refl refl refl refl;
  reads = λ len fits. record { una = rests v.sending.una; nxt = rests v.sending.nxt; bare = rests (bare_number v.sending); rnext = λ opened. rests v.receiving.rnext; edge = λ opened. rests v.receiving.edge };
  shuts = λ now fits. still v (after_shutdown v now) refl refl refl refl;
  delays = λ on now fits. still v _ refl refl refl refl;
  leaves = λ now lives fits. still v (after_release v now) refl refl refl refl;
  aborts = λ e now at cause lives fits. ended v (aborted_at v now) sound refl refl (rests (bare_number v.sending)) refl;
  refused = λ number hit fits. ended v (after_reset v (Some ECONNREFUSED)) sound refl refl (rests (bare_number v.sending)) refl;
  hopless = λ now over fits. ended v (after_reset v (Some ETIMEDOUT)) sound refl refl (rests (bare_number v.sending)) refl;
}) e
