-- Why the end of the last small segment is known as long as that is outstanding.
use Rattle.std.proofs.Common.{◌≡◌, ℕ, ◌-◌, ◌≤◌, ◌==◌, ◌&&◌, ◌||◌, ◌⊎◌, not, nat_lt, Bool, true, false, if◌then◌else◌, length, Option, Some, None, inl, inr, arith, refl, sym, ◌∙◌, ap, ap₂}
use Rattle.std.proofs.lemmas.Bool.{lt-ltb, le-ltb, ltb-true, ltb-false}
use Rattle.tcp_segment.specs.Segment.{Segment}
use Rattle.tcp_segment.specs.Wire.{past}
use Rattle.clock.specs.declared.moment.Moment.{Moment}
use Rattle.clock.specs.Moments.{has_come}
use Rattle.tcp_state.specs.declared.emission.Due.{Due}
use Rattle.tcp_state.specs.declared.emission.Due.TheVariants.{Rst, Syn, Text, Probe, Ack, KeepAlive}
use Rattle.tcp_state.specs.declared.emission.Stretch.{Stretch}
use Rattle.tcp_halves.specs.Halves.{Sending}
use Rattle.tcp_halves.specs.Stream.{outstanding, after_probed}
use Rattle.tcp_halves.specs.Windows.{updates_window}
use Rattle.tcp_halves.proofs.Choices.{either, by, both, and_left, and_right, not_true, of_false}
use Rattle.tcp_state.specs.Resend.{Resend, stopped, resend_probed}
use Rattle.tcp_state.specs.View.{View, IsSound, is_syn_received, is_closed, awaits_fin_ack, takes_flag_number}
use Rattle.tcp_state.specs.Alive.{after_silence}
use Rattle.tcp_state.specs.Timing.{clocked, retransmission_expired, probe_expired, after_timers}
use Rattle.tcp_state.specs.Arrival.{is_receiving, is_of_fin, beyond_fin, after_new_ack, after_ack, after_window, after_text, after_heard, before, timed_by}
use Rattle.tcp_state.specs.Due.{IsSmall, first_due, probe_stretch, end_of, after_resent, after_first_sent, after_numbers, after_new_octets, after_new_text, brings_new_octets, after_syn_ack_paid, after_syn_out, after_stretch, after_emitted}
use Rattle.tcp_state.specs.Edges.{Event, Emits, after_first, after_event}
use Rattle.tcp_state.proofs.Clocked.{by_others, heard_paced, after_paced, syn_out}
use Rattle.tcp_state.proofs.TailProbes.{silent_sound}
use Rattle.tcp_state.proofs.Events.{by_event}
use Rattle.tcp_state.proofs.Segments.{by_fin, by_ack, by_hearing}

-- it stands where it stood, or nearer to SND.UNA by as much as that moved
abbrev Left : View → View → Type 0
Left v w = w.resend.small ≡ v.resend.small - past w.sending.una v.sending.una

-- .. and SND.NXT stands where it stood
abbrev Kept : View → View → Type 0
Kept v w = Left v w × (w.sending.nxt ≡ v.sending.nxt)

there : (v : View) → IsSound v → Left v v
there v sound = omega (arith, sound.una)

-- nothing is outstanding any longer
stops : (v : View) → IsSound v → (nxt : ℕ) → nxt ≡ v.sending.nxt → 0 ≡ v.resend.small - past nxt v.sending.una
stops v sound nxt same =
    let few = sound.small in
    let all : past nxt v.sending.una ≡ outstanding v.sending = ap (λ n. past n v.sending.una) same in
    omega (arith, few, all)

-- A segment that comes.

-- where our FIN is acknowledged, nothing is outstanding
fin_takes_all : (v : View) (ack : ℕ) → IsSound v → is_of_fin v ack ≡ true → 0 ≡ v.resend.small - past ack v.sending.una
fin_takes_all v ack sound fin =
    let few = sound.small in
    let past_all = ltb-true (length v.sending.held) (past ack v.sending.una) (and_right (awaits_fin_ack v.state) (nat_lt (length v.sending.held) (past ack v.sending.una)) fin) in
    let one = one_number (takes_flag_number v.state) in
    let flight = sound.flight in
    omega (arith, few, past_all, one, flight)
  where
    one_number : (b : Bool) → (if b then 1 else 0) ≤ 1
    one_number true = omega arith
    one_number false = omega arith

heard_left : (v : View) (s : Segment) → IsSound v → Kept v (after_heard v s)
heard_left v s sound =
    let P : View → Type 0 = Kept v in
    let here : P v = (there v sound, refl) in
    let gone = after_new_ack v s.acknowledgement in
    let told = after_window (after_ack v s.acknowledgement) s in
    let acked : P (after_ack v s.acknowledgement) = by_ack P v s.acknowledgement (record {
      old = here;
      beyond = here;
      opens = λ received new. (stops v sound v.sending.nxt refl, refl);
      octets = λ new. (refl, refl);
      fin = λ new fin. (
        either Resend (λ p. p.small ≡ v.resend.small - past s.acknowledgement v.sending.una) (is_closed (beyond_fin v.state)) (stopped gone.resend) gone.resend
            (λ closed. fin_takes_all v s.acknowledgement sound fin) (λ alive. refl),
        refl,
      );
    }) in
    let heard : P told = either Sending (λ t. P (record (after_ack v s.acknowledgement) { sending = t })) (updates_window (after_ack v s.acknowledgement).sending s.number s.acknowledgement) _ (after_ack v s.acknowledgement).sending (λ newer. acked) (λ older. acked) in
    let text : P (after_text told s) = either View P ((length s.octets == 0) || not (is_receiving told.state)) told _ (λ none. heard) (λ some. heard) in
    by_hearing P v s (stops v sound told.sending.nxt heard.1, heard.1) (record {
      dropped = here;
      drawn = here;
      reset = λ acts. (stops v sound v.sending.nxt refl, refl);
      crossed = λ waits. here;
      opened = λ waits right. (stops v sound v.sending.nxt refl, refl);
      acknowledged = λ taken. acked;
      read = λ on. by_fin P (after_text told s) s (λ counts. text) text text;
    })

timed_left : (v : View) (s : Segment) (now : Moment) → IsSound v → Left v (timed_by (before v s) (after_heard v s) now)
timed_left v s now sound =
    let b = before v s in
    let x = after_heard v s in
    let kept = heard_paced b x now (λ p. p.small ≡ x.resend.small) refl refl refl in
    after_paced b x now (λ p. p.small ≡ x.resend.small) kept kept (λ r. kept) kept ∙ (heard_left v s sound).0

-- What goes out.

numbers_left : (v : View) (end : ℕ) (now : Moment) → IsSound v → (offset : ℕ) → Left v (after_numbers v offset end now)
numbers_left v end now sound offset = either View (Left v) (nat_lt offset (outstanding v.sending)) (after_resent v end) (after_first_sent v end now) (λ again. there v sound) (λ first. there v sound)

syn_left : (v : View) (now : Moment) → IsSound v → Left v (after_emitted v Syn now)
syn_left v now sound =
    let sent = numbers_left v 1 now sound 0 in
    let out : Left v (after_syn_out v now) = syn_out v now (Left v) sent sent in
    either View (Left v) (is_syn_received v.state) (after_syn_ack_paid (after_syn_out v now)) (after_syn_out v now) (λ received. out) (λ waits. out)

-- octets that went out before, or fill a segment
full_left : (v : View) (stretch : Stretch) (now : Moment) → IsSound v → (brings_new_octets v stretch ≡ true → nat_lt stretch.count v.sending.smss ≡ false) → Left v (after_stretch v stretch now)
full_left v stretch now sound full =
    let new = brings_new_octets v stretch in
    let end = end_of stretch in
    let case : (x : View) → x.resend.small ≡ v.resend.small → x.sending.smss ≡ v.sending.smss → x.sending.una ≡ v.sending.una → Left v (if new then after_new_text x stretch else x) = λ x small smss una.
    let same : v.resend.small ≡ v.resend.small - past x.sending.una v.sending.una = there v sound ∙ ap (λ n. v.resend.small - past n v.sending.una) (sym una) in
    either View (Left v) new (after_new_text x stretch) x
    (λ brings. ap₂ (λ n b. if b then end else n) small (ap (nat_lt stretch.count) smss ∙ full brings) ∙ same)
    (λ old. small ∙ same) in
    either View (λ x. Left v (if new then after_new_text x stretch else x)) (nat_lt stretch.offset (outstanding v.sending)) (after_resent v end) (after_first_sent v end now)
    (λ again. case (after_resent v end) refl refl refl) (λ first. case (after_first_sent v end now) refl refl refl)

-- a small segment of new octets
small_out : (v : View) (stretch : Stretch) (now : Moment) → IsSmall v stretch → (after_emitted v (Text stretch) now).resend.small ≡ end_of stretch
small_out v stretch now is =
    let end = end_of stretch in
    let new : brings_new_octets v stretch ≡ true = both (nat_lt 0 stretch.count) _ (lt-ltb 0 stretch.count is.some) (of_false (nat_lt stretch.offset (outstanding v.sending)) (le-ltb stretch.offset (outstanding v.sending) is.new)) in
    let few : nat_lt stretch.count v.sending.smss ≡ true = lt-ltb stretch.count v.sending.smss is.few in
    either View (λ x. (if brings_new_octets v stretch then after_new_text x stretch else x).resend.small ≡ end) (nat_lt stretch.offset (outstanding v.sending)) (after_resent v end) (after_first_sent v end now)
    (λ again. ap (λ b. (if b then after_new_text (after_resent v end) stretch else after_resent v end).resend.small) new ∙ ap (λ b. if b then end else v.resend.small) few)
    (λ first. ap (λ b. (if b then after_new_text (after_first_sent v end now) stretch else after_first_sent v end now).resend.small) new ∙ ap (λ b. if b then end else v.resend.small) few)

pub small_begins : (v : View) (stretch : Stretch) (now : Moment) → first_due v ≡ Some (Text stretch) → IsSmall v stretch → (after_event v (Emits now)).resend.small ≡ end_of stretch
small_begins v stretch now first is = ap (λ o. (after_first v o now).resend.small) first ∙ small_out v stretch now is

probe_left : (v : View) (now : Moment) → IsSound v → Left v (after_emitted v Probe now)
probe_left v now sound =
    let sent = record v { sending = after_probed v.sending (end_of (probe_stretch v)); resend = resend_probed v.resend } in
    either View (Left v) (brings_new_octets v (probe_stretch v)) (after_new_octets sent) sent (λ new. there v sound) (λ old. there v sound)

-- Every event.

abbrev Begins : View → Event → Type 0
Begins v e = (now : Moment) × (stretch : Stretch) × (e ≡ Emits now) × (first_due v ≡ Some (Text stretch)) × IsSmall v stretch

text_left : (v : View) (stretch : Stretch) (now : Moment) → IsSound v → first_due v ≡ Some (Text stretch) → Left v (after_emitted v (Text stretch) now) ⊎ Begins v (Emits now)
text_left v stretch now sound first =
    let some = nat_lt 0 stretch.count in
    let old = nat_lt stretch.offset (outstanding v.sending) in
    let few = nat_lt stretch.count v.sending.smss in
    by (Left v (after_emitted v (Text stretch) now) ⊎ Begins v (Emits now)) (brings_new_octets v stretch && few)
    (λ is.
    let new = and_left (brings_new_octets v stretch) few is in
    inr (
      now,
      stretch,
      refl,
      first,
      record {
        new = ltb-false stretch.offset (outstanding v.sending) (not_true old (and_right some (not old) new));
        some = ltb-true 0 stretch.count (and_left some (not old) new);
        few = ltb-true stretch.count v.sending.smss (and_right (brings_new_octets v stretch) few is);
      },
    ))
    (λ other. inl (full_left v stretch now sound (λ new. ap (λ b. b && few) (sym new) ∙ other)))

emitted : (v : View) (now : Moment) → IsSound v → Left v (after_first v (first_due v) now) ⊎ Begins v (Emits now)
emitted v now sound = sent (first_due v) refl
  where
    sent : (o : Option Due) → first_due v ≡ o → Left v (after_first v o now) ⊎ Begins v (Emits now)
    sent None first = inl (there v sound)
    sent (Some Rst) first = inl (there v sound)
    sent (Some Syn) first = inl (syn_left v now sound)
    sent (Some (Text stretch)) first = text_left v stretch now sound first
    sent (Some Probe) first = inl (probe_left v now sound)
    sent (Some Ack) first = inl (there v sound)
    sent (Some KeepAlive) first = inl (there v sound)

acts_left : (v : View) (now : Moment) → IsSound v → Left v (clocked false (after_timers v now) now)
acts_left v now sound =
    by_others (Left v) v now
    (either View (Left v) (has_come v.timers.retransmission now) (retransmission_expired v) _ (λ comes. there v sound)
    (λ late. either View (Left v) (has_come v.timers.probe now) (probe_expired v now) v (λ probes. there v sound) (λ rests. there v sound)))
    (λ w owes left. left) (λ w left. left)

pub small_stays : (v : View) (e : Event) → IsSound v → ((after_event v e).resend.small ≡ v.resend.small - past (after_event v e).sending.una v.sending.una)
    ⊎ ((now : Moment) × (stretch : Stretch) × (e ≡ Emits now) × (first_due v ≡ Some (Text stretch)) × IsSmall v stretch)
small_stays v e sound =
    let here = there v sound in
    let over = stops v sound v.sending.nxt refl in
    by_event (λ e w. Left v w ⊎ Begins v e) v (record {
      same = λ e. inl here;
      asks = λ e alive. inl here;
      silent = λ now. inl here;
      heard = λ s now lives. inl (timed_left v s now sound);
      over = λ now ends. inl over;
      given_up = λ now waits expired. inl over;
      acts = λ now. inl (acts_left (after_silence v now) now (silent_sound v now sound));
      emits = λ now. emitted v now sound;
      sends = λ octets taken now opened. inl here;
      reads = λ len. inl here;
      shuts = λ now. inl here;
      delays = λ on now. inl here;
      leaves = λ now lives. inl here;
      aborts = λ e now at cause lives. inl over;
      refused = λ number hit. inl over;
      hopless = λ now gone. inl over;
    }) e
