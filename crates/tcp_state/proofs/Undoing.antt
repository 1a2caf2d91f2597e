-- What went out again and needn't have, and what that gives back.
use Rattle.std.proofs.Common.{◌≡◌, ◌≢◌, ℕ, ◌+◌, ◌-◌, ◌^◌, ◌<◌, ◌≤◌, ◌==◌, ◌&&◌, ◌||◌, ◌⊎◌, not, nat_lt, min, max, Bool, true, false, if◌then◌else◌, List, [], ◌∷◌, inl, inr, refl, sym, ◌∙◌, ap, ap₂, subst}
use Rattle.std.proofs.lemmas.Bool.{lt-ltb, le-ltb, le-leb, lt-leb}
use Rattle.clock.specs.declared.moment.Moment.{Moment}
use Rattle.clock.specs.Moments.{has_come}
use Rattle.congestion.specs.Window.{third_is_next}
use Rattle.tcp_segment.specs.declared.blocks.Block.{Block}
use Rattle.tcp_segment.specs.Segment.{Segment, blocks_of}
use Rattle.tcp_segment.specs.Wire.{past}
use Rattle.tcp_halves.specs.Numbers.{is_before}
use Rattle.tcp_halves.specs.Stream.{is_new_ack}
use Rattle.tcp_halves.proofs.Choices.{either, by, clash, and_false, both}
use Rattle.tcp_state.specs.Resend.{Resend, once_more, gives_back, counted_on}
use Rattle.tcp_state.specs.View.{View, is_opening, is_closed}
use Rattle.tcp_state.specs.Alive.{after_silence}
use Rattle.tcp_state.specs.Timing.{probes, clocked, retransmission_expired, probe_expired, after_timers}
use Rattle.tcp_state.specs.Congestion.{after_signal}
use Rattle.tcp_state.specs.Selective.{selects}
use Rattle.tcp_state.specs.Arrival.{is_read, after_heard, is_rejected, is_counted_duplicate, blocks_told, lies_in_first, came_twice, is_since_loss, tells_needless, before, resend_told, resend_after, reports_more, tells_loss, told_behind, reports_loss, given_back, is_moved, timed_by}
use Rattle.tcp_state.specs.Due.{first_due}
use Rattle.tcp_state.specs.Edges.{Event, Hears, after_event, congestion_event_by, gives_back_by}
use Rattle.tcp_state.proofs.Clocked.{by_others, heard_paced, by_signal, silent_needed}
use Rattle.tcp_state.proofs.Congestion.{moves_by_events, window_kept}
use Rattle.tcp_state.proofs.Events.{by_event}
use Rattle.tcp_state.proofs.Lateness.{heard_tells}
use Rattle.tcp_state.proofs.Recovering.{first_left}
use Rattle.tcp_state.proofs.Recount.{heard_counts}
use Rattle.tcp_state.proofs.Selects.{silent_unselected}
use Rattle.tcp_state.proofs.Signals.{heard_is, moved_hears, is_moved_by, none_back, tail_needed}

-- What came twice.

-- by what it reports, if that is taken
by_blocks : (P : Bool → Type 0) (v : View) (s : Segment) (block : Block) (rest : List Block) → blocks_of s ≡ block ∷ rest → P false
    → P (came_twice s.acknowledgement (block ∷ rest) && is_since_loss v (block ∷ rest) && (v.resend.tail == 0) && not (probes v)) → P (tells_needless v s)
unfolding tells_needless
by_blocks P v s block rest tells none some =
    either (List Block) (λ bs. P (came_twice s.acknowledgement bs && is_since_loss v bs && (v.resend.tail == 0) && not (probes v))) (selects v && not (is_opening v.state) && is_read v s) (blocks_of s) []
    (λ read. subst (λ bs. P (came_twice s.acknowledgement bs && is_since_loss v bs && (v.resend.tail == 0) && not (probes v))) (sym tells) some) (λ unread. none)

pub report_needed : (v : View) (s : Segment) (block : Block) (rest : List Block) → blocks_of s ≡ block ∷ rest → is_before s.acknowledgement block.right.0 ≡ true → lies_in_first block rest ≡ false → tells_needless v s ≡ false
report_needed v s block rest tells ahead apart =
    by_blocks (λ t. t ≡ false) v s block rest tells refl
    (ap₂ (λ a b. (not a || b) && is_since_loss v (block ∷ rest) && (v.resend.tail == 0) && not (probes v)) ahead apart)

pub older_needed : (v : View) (s : Segment) (block : Block) (rest : List Block) → blocks_of s ≡ block ∷ rest → is_before v.sending.una block.right.0 ≡ false → v.resend.since_loss ≤ past v.sending.una block.right.0 → tells_needless v s ≡ false
older_needed v s block rest tells below far =
    let twice = came_twice s.acknowledgement (block ∷ rest) in
    by_blocks (λ t. t ≡ false) v s block rest tells refl
    (ap₂ (λ a b. twice && (a || b) && (v.resend.tail == 0) && not (probes v)) below (le-ltb (past v.sending.una block.right.0) v.resend.since_loss far)
    ∙ ap (λ t. t && (v.resend.tail == 0) && not (probes v)) (and_false twice))

pub unasked_needed : (v : View) (s : Segment) → selects v ≡ false → tells_needless v s ≡ false
unasked_needed v s plain = silent_needed v s (silent_unselected v s plain)

pub probed_needed : (v : View) (s : Segment) → 0 < v.resend.tail → tells_needless v s ≡ false
probed_needed v s out = tail_needed v s (lt-ltb 0 v.resend.tail out)

pub twice_needless : (v : View) (s : Segment) (block : Block) (rest : List Block) → selects v ≡ true → is_opening v.state ≡ false → is_read v s ≡ true → probes v ≡ false → v.resend.tail ≡ 0 → blocks_of s ≡ block ∷ rest
    → (is_before s.acknowledgement block.right.0 ≡ false) ⊎ (lies_in_first block rest ≡ true) → (is_before v.sending.una block.right.0 ≡ true) ⊎ (past v.sending.una block.right.0 < v.resend.since_loss) → tells_needless v s ≡ true
unfolding tells_needless
twice_needless v s block rest takes opened read unprobed none tells twice late =
    let told : blocks_told v s ≡ block ∷ rest = ap (λ t. if t then blocks_of s else []) (ap₂ (λ a b. a && not b && is_read v s) takes opened ∙ read) ∙ tells in
    let came : came_twice s.acknowledgement (block ∷ rest) ≡ true = elim twice [
      | inl below ↦ ap (λ t. not t || lies_in_first block rest) below
      | inr inside ↦ or_true (not (is_before s.acknowledgement block.right.0)) (lies_in_first block rest) inside
    ] in
    let since : is_since_loss v (block ∷ rest) ≡ true = elim late [
      | inl ahead ↦ ap (λ t. t || nat_lt (past v.sending.una block.right.0) v.resend.since_loss) ahead
      | inr near ↦ or_true (is_before v.sending.una block.right.0) (nat_lt (past v.sending.una block.right.0) v.resend.since_loss) (lt-ltb (past v.sending.una block.right.0) v.resend.since_loss near)
    ] in
    ap (λ bs. came_twice s.acknowledgement bs && is_since_loss v bs && (v.resend.tail == 0) && not (probes v)) told
    ∙ ap₂ (λ a b. a && b && (v.resend.tail == 0) && not (probes v)) came since
    ∙ ap₂ (λ n p. (n == 0) && not p) none unprobed
  where
    or_true : (a b : Bool) → b ≡ true → (a || b) ≡ true
    or_true true b e = refl
    or_true false b e = e

-- What it gives back.

pub few_give_none : (v : View) (s : Segment) (now : Moment) → (let w = after_event v (Hears s now) in w.resend.excused < w.resend.resent)
    → (let w = after_event v (Hears s now) in w.congestion ≡ after_signal v.congestion (congestion_event_by v (Hears s now)) w.sending.smss w.resend.syn_resent)
few_give_none v s now few =
    let w = after_event v (Hears s now) in
    let hears = not (is_closed v.state || is_rejected v s) in
    let some = tells_needless v s && nat_lt 0 w.resend.since_loss in
    let none : gives_back_by v (Hears s now) w ≡ false = ap (λ t. hears && (some && t)) (lt-leb w.resend.resent w.resend.excused few) ∙ ap (λ t. hears && t) (and_false some) ∙ and_false hears in
    moves_by_events v (Hears s now) ∙ ap (λ t. given_back t (after_signal v.congestion (congestion_event_by v (Hears s now)) w.sending.smss w.resend.syn_resent)) none

pub needed_give_none : (v : View) (s : Segment) (now : Moment) → tells_needless v s ≡ false
    → (let w = after_event v (Hears s now) in w.congestion ≡ after_signal v.congestion (congestion_event_by v (Hears s now)) w.sending.smss w.resend.syn_resent)
needed_give_none v s now needed =
    let w = after_event v (Hears s now) in
    moves_by_events v (Hears s now) ∙ none_back v s now w (after_signal v.congestion (congestion_event_by v (Hears s now)) w.sending.smss w.resend.syn_resent) needed

pub all_give_back : (v : View) (s : Segment) (now : Moment) → (is_closed v.state || is_rejected v s) ≡ false → tells_needless v s ≡ true
    → (let w = after_event v (Hears s now) in 0 < w.resend.since_loss → w.resend.resent ≤ w.resend.excused
    → let c = after_signal v.congestion (congestion_event_by v (Hears s now)) w.sending.smss w.resend.syn_resent in w.congestion ≡ record c { cwnd = max c.cwnd c.prior_cwnd; ssthresh = max c.ssthresh c.prior_ssthresh })
all_give_back v s now hears needless some all =
    let w = after_event v (Hears s now) in
    let gives : gives_back_by v (Hears s now) w ≡ true =
    ap₂ (λ a b. not a && gives_back b w.resend) hears needless
    ∙ ap₂ (λ a b. a && b) (lt-ltb 0 w.resend.since_loss some) (le-leb w.resend.resent w.resend.excused all) in
    moves_by_events v (Hears s now) ∙ ap (λ t. given_back t (after_signal v.congestion (congestion_event_by v (Hears s now)) w.sending.smss w.resend.syn_resent)) gives

-- What is counted.

-- a loss counts anew
abbrev Loses : View → Segment → Type 0
Loses v s = ((is_counted_duplicate v s ≡ true) × (third_is_next v.congestion ≡ true)) ⊎ (reports_loss v s ≡ true)

-- .. and else nothing does but what came twice
signal_counts : (v : View) (s : Segment) (now : Moment) → (let p = resend_after (before v s) (after_heard v s) now in (p.excused ≡ v.resend.excused) × (p.since_loss ≡ (after_heard v s).resend.since_loss)) ⊎ Loses v s
signal_counts v s now =
    let b = before v s in
    let x = after_heard v s in
    let G : Resend → Type 0 = λ p. ((p.excused ≡ v.resend.excused) × (p.since_loss ≡ x.resend.since_loss)) ⊎ Loses v s in
    let heard : (resend_told b x now).excused ≡ x.resend.excused = heard_paced b x now (λ p. p.excused ≡ x.resend.excused) refl refl refl in
    let since : (resend_told b x now).since_loss ≡ x.resend.since_loss = heard_paced b x now (λ p. p.since_loss ≡ x.resend.since_loss) refl refl refl in
    let same : G (resend_told b x now) = inl (heard ∙ (heard_counts v s).1, since) in
    by_signal b x (resend_told b x now) G same (λ moves opened. same) (λ moves opened goes. same)
    (λ r why. inr (elim why [
      | inl twice ↦ inl (twice.1, ap third_is_next (sym (window_kept v s)) ∙ twice.2)
      | inr more ↦ inr (both (reports_more b x) (tells_loss (told_behind b x)) more.0 more.1)
    ]))

pub counted_once : (v : View) (s : Segment) (now : Moment) → (is_closed v.state || is_rejected v s) ≡ false → tells_needless v s ≡ true → is_counted_duplicate v s ≡ false → reports_loss v s ≡ false
    → (let w = after_event v (Hears s now) in 0 < w.resend.since_loss → w.resend.excused ≡ min (2 ^ 64 - 1) (v.resend.excused + 1))
counted_once v s now hears needless other kept some =
    let b = before v s in
    let x = after_heard v s in
    let p = resend_after b x now in
    let at = heard_is v s now hears in
    let late : nat_lt 0 p.since_loss ≡ true = lt-ltb 0 p.since_loss (subst (λ (y : View). 0 < y.resend.since_loss) at some) in
    ap (λ (y : View). y.resend.excused) at
    ∙ ap₂ (λ a c. if a && c then once_more p.excused else p.excused) needless late
    ∙ ap once_more (elim (signal_counts v s now) [
      | inl same ↦ same.0
      | inr loses ↦ elim loses [ inl twice ↦ clash (is_counted_duplicate v s) twice.0 other | inr loss ↦ clash (reports_loss v s) loss kept ]
    ])

abbrev Counts : View → Event → View → Type 0
Counts v e w = (w.resend.excused ≡ v.resend.excused) ⊎ ((s : Segment) × (now : Moment) × (e ≡ Hears s now) × ((tells_needless v s ≡ true) ⊎ Loses v s))

heard_excuses : (v : View) (s : Segment) (now : Moment) → Counts v (Hears s now) (timed_by (before v s) (after_heard v s) now)
heard_excuses v s now =
    let p = resend_after (before v s) (after_heard v s) now in
    by (Counts v (Hears s now) (timed_by (before v s) (after_heard v s) now)) (tells_needless v s)
    (λ needless. inr (s, now, refl, inl needless))
    (λ needed. elim (signal_counts v s now) [
      | inl same ↦ inl (ap (λ t. if t && nat_lt 0 p.since_loss then once_more p.excused else p.excused) needed ∙ same.0)
      | inr loses ↦ inr (s, now, refl, inr loses)
    ])

acts_excuse : (v : View) (now : Moment) → (clocked false (after_timers (after_silence v now) now) now).resend.excused ≡ v.resend.excused
acts_excuse v now =
    let quiet = after_silence v now in
    let P : View → Type 0 = λ w. w.resend.excused ≡ v.resend.excused in
    by_others P quiet now
    (either View P (has_come v.timers.retransmission now) (retransmission_expired quiet) _ (λ comes. refl)
    (λ late. either View P (has_come v.timers.probe now) (probe_expired quiet now) quiet (λ probes. refl) (λ rests. refl)))
    (λ w owes same. same) (λ w same. same)

pub count_stays : (v : View) (e : Event) → Counts v e (after_event v e)
count_stays v e =
    by_event (Counts v) v (record {
      same = λ e. inl refl;
      asks = λ e asked. inl refl;
      silent = λ now. inl refl;
      heard = λ s now goes. heard_excuses v s now;
      over = λ now ends. inl refl;
      given_up = λ now waits expired. inl refl;
      acts = λ now. inl (acts_excuse v now);
      emits = λ now. inl (first_left v (first_due v) now).4;
      sends = λ octets taken now takes. inl refl;
      reads = λ len. inl refl;
      shuts = λ now. inl refl;
      delays = λ on now. inl refl;
      leaves = λ now goes. inl refl;
      aborts = λ e now at cause goes. inl refl;
      refused = λ number hit. inl refl;
      hopless = λ now gone. inl refl;
    }) e

-- What is acknowledged.

counts_on : (count gained : ℕ) → counted_on count gained ≡ min (2 ^ 32 - 1) (count + gained)
unfolding counted_on
counts_on count gained = refl

-- an ACK of new numbers that tells no loss
moved_counts : (v : View) (s : Segment) (now : Moment) → is_moved (before v s) (after_heard v s) ≡ true → reports_loss v s ≡ false → (resend_after (before v s) (after_heard v s) now).since_loss ≡ (after_heard v s).resend.since_loss
moved_counts v s now moves kept =
    let b = before v s in
    let x = after_heard v s in
    let P : Resend → Type 0 = λ p. p.since_loss ≡ x.resend.since_loss in
    let heard : P (resend_told b x now) = heard_paced b x now P refl refl refl in
    by_signal b x (resend_told b x now) P heard (λ still_moves opened. heard) (λ still_moves opened goes. heard)
    (λ r why. elim why [
      | inl twice ↦ clash (is_moved b x) moves twice.0
      | inr tells ↦ clash (reports_loss v s) (both (reports_more b x) (tells_loss (told_behind b x)) tells.0 tells.1) kept
    ])

pub acknowledged_counts : (v : View) (s : Segment) (now : Moment) → is_opening v.state ≡ false → reports_loss v s ≡ false → (after_event v (Hears s now)).sending.una ≢ v.sending.una → is_closed (after_event v (Hears s now)).state ≡ false
    → (let w = after_event v (Hears s now) in w.resend.since_loss ≡ min (2 ^ 32 - 1) (v.resend.since_loss + past w.sending.una v.sending.una))
acknowledged_counts v s now opened kept moved alive =
    let x = after_heard v s in
    let at = heard_is v s now (moved_hears v s now moved) in
    let una : (after_event v (Hears s now)).sending.una ≡ x.sending.una = ap (λ (y : View). y.sending.una) at in
    let stays : x.sending.una ≢ v.sending.una = λ same. moved (una ∙ same) in
    ap (λ (y : View). y.resend.since_loss) at
    ∙ moved_counts v s now (is_moved_by v s stays) kept
    ∙ elim (heard_tells v s (sym (ap (λ (y : View). is_closed y.state) at) ∙ alive)) [
      | inl tells ↦ tells.1 ∙ counts_on v.resend.since_loss (past x.sending.una v.sending.una) ∙ ap (λ n. min (2 ^ 32 - 1) (v.resend.since_loss + past n v.sending.una)) (sym una)
      | inr other ↦ elim other.2 [ inl same ↦ absurd (stays same) | inr opening ↦ clash (is_opening v.state) opening opened ]
    ]

abbrev Acknowledges : View → Event → View → Type 0
Acknowledges v e w = (w.resend.since_loss ≡ v.resend.since_loss) ⊎ ((s : Segment) × (now : Moment) × (e ≡ Hears s now) × ((is_new_ack v.sending s.acknowledgement ≡ true) ⊎ Loses v s))

heard_acknowledges : (v : View) (s : Segment) (now : Moment) → is_closed (after_heard v s).state ≡ false → Acknowledges v (Hears s now) (timed_by (before v s) (after_heard v s) now)
heard_acknowledges v s now lives =
    elim (signal_counts v s now) [
      | inl same ↦ elim (heard_tells v s lives) [
        | inl tells ↦ inr (s, now, refl, inl tells.2)
        | inr other ↦ inl (same.1 ∙ other.1)
      ]
      | inr loses ↦ inr (s, now, refl, inr loses)
    ]

acts_since : (v : View) (now : Moment) → (clocked false (after_timers (after_silence v now) now) now).resend.since_loss ≡ v.resend.since_loss
acts_since v now =
    let quiet = after_silence v now in
    let P : View → Type 0 = λ w. w.resend.since_loss ≡ v.resend.since_loss in
    by_others P quiet now
    (either View P (has_come v.timers.retransmission now) (retransmission_expired quiet) _ (λ comes. refl)
    (λ late. either View P (has_come v.timers.probe now) (probe_expired quiet now) quiet (λ probes. refl) (λ rests. refl)))
    (λ w owes same. same) (λ w same. same)

pub since_stays : (v : View) (e : Event) → is_closed (after_event v e).state ≡ false → Acknowledges v e (after_event v e)
since_stays v e =
    by_event (λ e w. is_closed w.state ≡ false → Acknowledges v e w) v (record {
      same = λ e lives. inl refl;
      asks = λ e asked lives. inl refl;
      silent = λ now lives. inl refl;
      heard = λ s now goes lives. heard_acknowledges v s now lives;
      over = λ now ends lives. cc;
      given_up = λ now waits expired lives. cc;
      acts = λ now lives. inl (acts_since v now);
      emits = λ now lives. inl (first_left v (first_due v) now).5;
      sends = λ octets taken now takes lives. inl refl;
      reads = λ len lives. inl refl;
      shuts = λ now lives. inl refl;
      delays = λ on now lives. inl refl;
      leaves = λ now goes lives. inl refl;
      aborts = λ e now at cause goes lives. cc;
      refused = λ number hit lives. cc;
      hopless = λ now gone lives. cc;
    }) e
