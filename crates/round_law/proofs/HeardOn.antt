-- What a segment without RST and FIN leaves of an open connection that its caller has not left.
use Rattle.std.proofs.Common.{◌≡◌, ℕ, ◌^◌, ◌<◌, ◌==◌, ◌||◌, ◌&&◌, ◌⊎◌, not, if◌then◌else◌, Bool, true, false, List, [], ◌∷◌, ◌++◌, length, inl, inr, arith, refl, sym, ◌∙◌, ap, ap₂}
use Rattle.clock.specs.declared.moment.Moment.{Moment}
use Rattle.tcp_segment.specs.Segment.{Segment}
use Rattle.tcp_halves.proofs.Keeping.{inserted_readable}
use Rattle.tcp_halves.specs.Halves.{Receiving}
use Rattle.tcp_halves.specs.Stream.{buffer_of, distance_of, octets_within, octets_gained, after_octets}
use Rattle.tcp_halves.specs.Windows.{updates_window}
use Rattle.tcp_halves.proofs.Choices.{either, clash, and_left, and_false, or_left}
use Rattle.tcp_state.specs.View.{View, is_opening, is_syn_sent, is_syn_received, is_closed}
use Rattle.tcp_state.specs.Arrival.{is_receiving, beyond_fin, may_delay, after_ack, after_window, after_text, after_fin, after_lost, after_segment, after_heard, after_segment_at, is_read, is_lost, asks, is_unused, draws_one, owes_answer, before, timed_by}
use Rattle.tcp_state.proofs.Freed.{opened}
use Rattle.tcp_state.proofs.Guarded.{without_syn}
use Rattle.tcp_state.proofs.Segments.{by_ack, by_fin, by_segment, by_clock, ack_receives}
use Rattle.tcp_state.specs.Guard.{is_spent}

-- An acknowledgement that is owed stays owed as long as it lives; SND.NXT stays; and octets came, or nothing did.
abbrev OwesOn : View → View → Type 0
OwesOn v w = v.owes_ack ≡ true → is_closed w.state ≡ false → w.owes_ack ≡ true

abbrev pub Gained : View → Segment → Receiving → Type 0
Gained v s r = (r ≡ v.receiving) ⊎ (r ≡ after_octets v.receiving s.number s.octets)

abbrev pub LeavesOn : View → Segment → View → Type 0
LeavesOn v s w = OwesOn v w × (w.sending.nxt ≡ v.sending.nxt) × Gained v s w.receiving

still_owes : (owes closed : Bool) → owes ≡ true → closed ≡ false → (owes && not closed) ≡ true
still_owes true true o c = cc
still_owes true false o c = refl
still_owes false closed o c = cc

acked : (v : View) (s : Segment) → is_syn_received v.state ≡ false → LeavesOn v s (after_ack v s.acknowledgement)
acked v s established = by_ack (LeavesOn v s) v s.acknowledgement (record {
  old = (λ owes lives. owes, refl, inl refl);
  beyond = (λ owes lives. refl, refl, inl refl);
  opens = λ received new. clash (is_syn_received v.state) received established;
  octets = λ new. (λ owes lives. owes, refl, inl refl);
  fin = λ new fin. (λ owes lives. still_owes v.owes_ack (is_closed (beyond_fin v.state)) owes lives, refl, inl refl);
})

told_on : (v w : View) (s : Segment) → LeavesOn v s w → LeavesOn v s (after_window w s)
told_on v w s on = (on.0, either _ (λ t. t.nxt ≡ v.sending.nxt) (updates_window w.sending s.number s.acknowledgement) _ w.sending (λ tells. on.1) (λ none. on.1), on.2)

read_on : (v w : View) (s : Segment) → w.receiving ≡ v.receiving → LeavesOn v s w → LeavesOn v s (after_text w s)
read_on v w s same on =
    either View (LeavesOn v s) ((length s.octets == 0) || not (is_receiving w.state)) w _ (λ none. on)
    (λ some. (λ owes lives. or_left (w.owes_ack || w.delays_ack) (not (may_delay w s)) (or_left w.owes_ack w.delays_ack (on.0 owes lives)), on.1, inr (ap (λ r. after_octets r s.number s.octets) same)))

fin_on : (v w : View) (s : Segment) → s.flags.fin ≡ false → LeavesOn v s w → LeavesOn v s (after_fin w s)
fin_on v w s no_fin on =
    by_fin (LeavesOn v s) w s (λ counts. clash s.flags.fin (and_left s.flags.fin (is_receiving w.state) (and_left (s.flags.fin && is_receiving w.state) _ counts)) no_fin) (λ owes lives. refl, on.1, on.2) on

-- what is owed isn't held back
timed_on : (v : View) (s : Segment) (now : Moment) → is_syn_received v.state ≡ false → LeavesOn v s (after_heard v s) → LeavesOn v s (timed_by (before v s) (after_heard v s) now)
timed_on v s now established on = (owes_on, on.1, on.2)
  where
    owes_on : OwesOn v (timed_by (before v s) (after_heard v s) now)
    owes_on owes lives =
        let b = before v s in
        let w = after_heard v s in
        let none : draws_one v s ≡ false =
        ap (λ o. v.guard.on && not o && not (is_syn_sent v.state) && (is_unused v s || asks v s)) owes
        ∙ ap (λ x. x && not (is_syn_sent v.state) && (is_unused v s || asks v s)) (and_false v.guard.on) in
        ap₂ (λ d a. if (d && is_spent w.guard now) || a then false else owes_answer b w) none (without_syn v s (inl established))
        ∙ or_left w.owes_ack (asks v s && not (is_syn_sent w.state || is_closed w.state)) (on.0 owes lives)

pub heard_leaves : (v : View) (s : Segment) (now : Moment) → is_opening v.state ≡ false → v.released ≡ false → s.flags.rst ≡ false → s.flags.fin ≡ false → LeavesOn v s (after_segment_at v s now)
heard_leaves v s now past kept no_rst no_fin =
    let states = opened v.state past in
    let same : LeavesOn v s v = (λ owes lives. owes, refl, inl refl) in
    by_clock (LeavesOn v s) v s now same
    (λ lives. timed_on v s now states.1 (either View (LeavesOn v s) (is_lost v s) (after_lost v s) (after_segment v s)
    (λ lost. clash v.released (and_left v.released (is_receiving v.state) (and_left (v.released && is_receiving v.state) (is_read v s) (and_left (v.released && is_receiving v.state && is_read v s) _ lost))) kept)
    (λ stays. by_segment (LeavesOn v s) v s (record {
      dropped = same;
      drawn = (λ owes alive. refl, refl, inl refl);
      reset = λ acts. clash s.flags.rst (and_left s.flags.rst _ acts.acts) no_rst;
      crossed = λ waits. clash (is_syn_sent v.state) waits states.0;
      opened = λ waits right. clash (is_syn_sent v.state) waits states.0;
      acknowledged = λ taken. acked v s states.1;
      read = λ on.
          let w = after_ack v s.acknowledgement in
          let told = after_window w s in
          fin_on v (after_text told s) s no_fin (read_on v told s (ack_receives v s.acknowledgement) (told_on v w s (acked v s states.1)));
    }))))

-- Where nothing can be read afterwards, nothing came.

none_joined : (xs ys : List ℕ) → xs ++ ys ≡ [] → ys ≡ []
none_joined [] ys none = none
none_joined (x ∷ xs) ys none = cc

pub none_came : (v : View) (s : Segment) (r : Receiving) → v.receiving.rnext < 2 ^ 32 → Gained v s r → r.readable ≡ [] → r.rnext ≡ v.receiving.rnext
none_came v s r small (inl same) none = ap (λ (t : Receiving). t.rnext) same
none_came v s r small (inr gained) none =
    let old = v.receiving in
    let all = sym (inserted_readable (buffer_of old) (distance_of old s.number) (octets_within old s.number s.octets)) ∙ (ap (λ (t : Receiving). t.readable) (sym gained) ∙ none) in
    let nothing = none_joined old.readable (octets_gained old s.number s.octets) all in
    let len : length (octets_gained old s.number s.octets) ≡ 0 = ap length nothing in
    ap (λ (t : Receiving). t.rnext) gained ∙ omega (arith, len, small)
