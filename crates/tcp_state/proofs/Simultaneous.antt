-- Why two connections that open to each other at the same time both open.
use Rattle.std.proofs.Common.{◌≡◌, ℕ, ◌+◌, ◌-◌, ◌*◌, ◌/◌, ◌%◌, ◌^◌, ◌<◌, ◌==◌, ◌||◌, ◌&&◌, not, min, max, nat_lt, nat_le, if◌then◌else◌, ◌⊎◌, ◌≤◌, Bool, true, false, List, [], ◌∷◌, Option, Some, None, is_some, unwrap_or, inl, inr, option_map, arith, refl, sym, ◌∙◌, ap, ap₂, subst}
use Rattle.std.specs.List.{list_any}
use Rattle.std.proofs.lemmas.Bool.{le-ltb, lt-leb, le-leb}
use Rattle.std.proofs.lemmas.Bool.Decides.{eqb_tells, leb_tells}
use Rattle.ipv4.specs.declared.addr.Endpoint.{Endpoint}
use Rattle.clock.specs.declared.moment.Moment.{Moment}
use Rattle.clock.specs.Moments.{after}
use Rattle.tcp_segment.specs.Options.{HeaderOption, NoOperation, MaximumSegmentSize, WindowScale, last_mss, last_scale, permits}
use Rattle.tcp_segment.specs.Segment.{Segment, scale_option_of, sack_permitted_of, shift_of, smss_of}
use Rattle.tcp_segment.specs.Sent.{permission, sent_segment}
use Rattle.tcp_segment.specs.Wire.{wire, past}
use Rattle.retransmit.specs.declared.timers.Timers.{Timers}
use Rattle.retransmit.specs.Deadlines.{no_timers}
use Rattle.congestion.specs.Control.{is_selective}
use Rattle.congestion.specs.Window.{initial_window}
use Rattle.tcp_state.specs.Selective.{allowance}
use Rattle.tcp_state.specs.declared.timing.TheConstants.{OVERRIDE_WAIT}
use Rattle.tcp_state.specs.declared.reporting.Reporting.{Reporting}
use Rattle.tcp_state.specs.declared.emission.Due.{Due}
use Rattle.tcp_state.specs.declared.emission.Due.TheVariants.{Syn, Text, Ack}
use Rattle.tcp_state.specs.declared.state.State.TheVariants.{SynReceived, Established}
use Rattle.tcp_halves.specs.Numbers.{is_before, later_number}
use Rattle.tcp_halves.specs.Halves.{Room, Receiving}
use Rattle.tcp_halves.specs.Stream.{size_in, own_unit, peer_unit, size_of, outstanding, sending_from, receiving_nothing, receive_window, is_in_window, is_acceptable, stands_before}
use Rattle.tcp_state.specs.New.{waits_no_longer}
use Rattle.tcp_halves.specs.Windows.{window_in, updates_window, is_worth_sending, receive_room, has_grown, whole_units, after_advertisement, window_field, syn_window, after_syn_advertisement}
use Rattle.tcp_state.specs.declared.arrival.Before.{Before}
use Rattle.tcp_state.specs.declared.guard.Guard.{Guard}
use Rattle.tcp_state.specs.declared.guard.TheConstants.{MOST_DRAWN, SECOND}
use Rattle.tcp_state.specs.Guard.{first_guard, counting_at, is_spent, guard_after}
use Rattle.tcp_state.specs.Resend.{Resend, first_resend, mark_past}
use Rattle.tcp_state.specs.Timing.{waiting_since, clocked}
use Rattle.tcp_state.specs.Alive.{asked}
use Rattle.tcp_state.specs.View.{View, first_congestion, opened_actively}
use Rattle.tcp_state.specs.Congestion.{after_signal}
use Rattle.tcp_state.specs.Congestion.Signal.{Begins, Nothing}
use Rattle.tcp_state.specs.Arrival.{owing_ack, after_establishment, after_window, after_text, after_fin, after_acceptable_segment, is_acceptable_to, acknowledges_unsent, answers_probe, draws_one, before, since_after, is_moved, resend_left, congestion_left, is_held_back, guarded, timed_by, after_heard, resend_signalled, owes_answer}
use Rattle.tcp_state.specs.Due.{first_due, ack_due, new_octets, head_of, octets_of, after_syn_ack_paid, after_resent, after_first_sent, after_syn_again}
use Rattle.tcp_state.specs.Edges.{Hears, Emits, after_first, after_event}
use Rattle.tcp_state.specs.Simultaneous.{first_segment, after_coming, Ends, crossed, AnswersSyn, CanBeMade, HasOpened, KnowsWindow}
use Rattle.tcp_state.proofs.Selects.{silent_opening}
use Rattle.tcp_state.proofs.Guarded.{fresh_unspent, no_answer, opening_asks_none}
use Rattle.tcp_state.proofs.Clocked.{comes_to, unmoved, timed_unmoved, silent_needed}
use Rattle.tcp_halves.proofs.Choices.{either, clash, both, or_left, and_false}
use Rattle.tcp_halves.proofs.Keeping.{in_units}
use Rattle.tcp_state.proofs.Scales.{settled_once}
use Rattle.tcp_state.proofs.Unreachable.{and_no}

-- What the two ends are.

-- what an end has: what its buffers are made for, how many octets each half holds once the SYNs crossed, and the windows that it tells, by its SYN and later
record Half : Type 0 where
  pub room : Room
  pub size : ℕ
  pub told : ℕ
  pub wide : ℕ

-- one end and the other: whether windows are scaled once the SYNs crossed, whether what is kept is reported, and the unit of both
record Meeting : Type 0 where
  pub scales : Bool
  pub sacks : Bool
  pub unit : ℕ
  pub mine : Half
  pub theirs : Half
  pub here : Endpoint
  pub there : Endpoint
  pub isn : ℕ
  pub other : ℕ

-- .. as the other sees it
abbrev mirror : Meeting → Meeting
mirror m = record { scales = m.scales; sacks = m.sacks; unit = m.unit; mine = m.theirs; theirs = m.mine; here = m.there; there = m.here; isn = m.other; other = m.isn }

-- an end, step by step

abbrev opening : Meeting → Moment → View
opening m at = opened_actively m.mine.room m.here m.there m.isn at

-- its SYN went out at this moment: its round trip is measured, and its timer runs
abbrev timed_from : ℕ → ℕ → Moment → Resend
timed_from least isn first = record (first_resend least) { timed = Some (record { end = record { 0 = wire isn 1 }; since = first }) }

abbrev runs_from : Moment → Timers
runs_from first = record no_timers { retransmission = Some (after first 1000) }

abbrev waiting : Meeting → Moment → View
waiting m first = record (opening m first) { sending = record (sending_from (size_of m.mine.room) m.isn) { nxt = wire m.isn 1 }; resend = timed_from m.mine.room.manner.least_timeout m.isn first; timers = runs_from first; unheard = None }

-- what the other's SYN settles
record Settled : Type 0 where
  pub scales : Bool
  pub sacks : Bool
  pub sends : ℕ
  pub peer : ℕ
  pub takes : ℕ
  pub own : ℕ
  pub smss : ℕ
  pub heard : ℕ
  pub told : ℕ

abbrev settled : Meeting → Settled
settled m = record { scales = m.scales; sacks = m.sacks; sends = m.mine.size; peer = m.unit; takes = m.mine.size; own = m.unit; smss = 1460; heard = m.theirs.told; told = m.mine.told }

-- nothing came ahead of a gap
abbrev reports : Bool → Reporting
reports sacks = record { sacks = sacks; latest = record { 0 = 0 } }

-- it has both SYNs, and heard the other at a last moment
abbrev receives : Meeting → ℕ → Receiving
receives m window = record { readable = []; kept = (receiving_nothing m.mine.room).kept; rnext = wire m.other 1; edge = (wire m.other 1 + window) % 2 ^ 32; size = m.mine.size; capacity = m.mine.room.capacity; unit = m.unit }

abbrev answering : Meeting → Guard → ℕ → Bool → Bool → Resend → Moment → Moment → View
answering m guard window owes spoke resend first last = record (opening m first) {
  state = SynReceived;
  scales = m.scales;
  sending = record { held = []; una = m.isn; nxt = wire m.isn 1; window = m.theirs.told; max_window = max 0 m.theirs.told; wl1 = m.other; wl2 = m.isn; smss = 1460; size = m.mine.size; unit = m.unit; probed = false };
  receiving = receives m window;
  owes_ack = owes;
  spoke = spoke;
  resend = resend;
  timers = runs_from first;
  unheard = None;
  alive = asked None last;
  reporting = reports m.sacks;
  guard = guard;
}

-- .. which settled this, of windows and sizes
abbrev taken : Meeting → Settled → ℕ → Option ℕ → Moment → View
taken m t out mark first = record (opening m first) {
  state = SynReceived;
  scales = t.scales;
  sending = record { held = []; una = m.isn; nxt = wire m.isn 1; window = t.heard; max_window = max 0 t.heard; wl1 = m.other; wl2 = m.isn; smss = t.smss; size = t.sends; unit = t.peer; probed = false };
  receiving = record { readable = []; kept = (receiving_nothing m.mine.room).kept; rnext = wire m.other 1; edge = (wire m.other 1 + (if out == 0 then 0 else t.told)) % 2 ^ 32; size = t.takes; capacity = m.mine.room.capacity; unit = t.own };
  resend = record (timed_from m.mine.room.manner.least_timeout m.isn first) { mark = mark };
  timers = runs_from first;
  unheard = None;
  reporting = reports t.sacks;
}

-- its SYN goes out again, with an acknowledgement ..
abbrev again_due : Meeting → Guard → Moment → View
again_due m guard first = answering m guard m.mine.told false false (record (timed_from m.mine.room.manner.least_timeout m.isn first) { mark = Some 0 }) first first

-- .. and went out twice, so that its round trip is not measured
abbrev resent_once : ℕ → Resend
resent_once least = record (first_resend least) { resent = 1 }

abbrev again_sent : Meeting → Guard → ℕ → Bool → Bool → Moment → Moment → View
again_sent m guard window owes spoke first last = answering m guard window owes spoke (resent_once m.mine.room.manner.least_timeout) first last

-- the other's window, in octets
abbrev known : Meeting → ℕ
known m = whole_units m.unit m.theirs.wide

-- it is open, and its congestion window begins
abbrev opened : Meeting → Guard → Moment → View
opened m guard last = record (opening m (record { 0 = 0 })) {
  state = Established;
  scales = m.scales;
  sending = record { held = []; una = wire m.isn 1; nxt = wire m.isn 1; window = known m; max_window = max (max 0 m.theirs.told) (known m); wl1 = wire m.other 1; wl2 = wire m.isn 1; smss = 1460; size = m.mine.size; unit = m.unit; probed = false };
  receiving = receives m m.mine.wide;
  spoke = true;
  resend = resent_once m.mine.room.manner.least_timeout;
  congestion = initial_window m.mine.room.manner.control 1460 false;
  unheard = None;
  alive = asked None last;
  reporting = reports m.sacks;
  guard = guard;
}

-- .. but for the clock
abbrev heard : Meeting → Guard → Moment → Moment → View
heard m guard first last = record (opened m guard last) { timers = runs_from first; congestion = first_congestion m.mine.room.manner.control }

-- the segments that each sends

abbrev syn_of : Meeting → Segment
syn_of m = sent_segment (head_of (opening m (record { 0 = 0 })) Syn) []

abbrev syn_ack_of : Meeting → Moment → Segment
syn_ack_of m first = sent_segment (head_of (again_due m (first_guard false) first) Syn) []

abbrev ack_of : Meeting → Segment
ack_of m = sent_segment (head_of (again_sent m (first_guard false) m.mine.told true false (record { 0 = 0 }) (record { 0 = 0 })) Ack) []

-- what is kept on guard after the other's SYN, and its SYN-ACK; fewer than ten acknowledgements were drawn
abbrev guard_at : Meeting → Moment → Guard
guard_at m now = guard_after (first_guard m.mine.room.manner.guards) (draws_one (waiting m now) (syn_of (mirror m))) now

abbrev guard_again : Meeting → Guard → Moment → Moment → Guard
guard_again m guard first now = guard_after guard (draws_one (again_sent m guard m.mine.told false false first first) (syn_ack_of (mirror m) first)) now

abbrev guard_open : Meeting → Guard → Moment → Moment → Moment → Guard
guard_open m guard first last now = guard_after guard (draws_one (again_sent m guard m.mine.wide false true first last) (ack_of (mirror m))) now

drawn_once : (g : Guard) (drew : Bool) (now : Moment) → (guard_after g drew now).drawn ≤ g.drawn + 1
drawn_once g drew now =
    either ℕ (λ n. n ≤ g.drawn + 1) (drew && not (is_spent g now)) (counting_at g now + 1) g.drawn
    (λ counts. either ℕ (λ n. n + 1 ≤ g.drawn + 1) (nat_lt (now.0 - g.latest.0) SECOND) g.drawn 0 (λ recent. omega arith) (λ old. omega arith))
    (λ none. omega arith)

-- so what is owed stays, and what goes out again
unguarded : (b : Before) (x : View) (now : Moment) → b.asks_again ≡ false → b.asks ≡ false → x.guard.drawn < MOST_DRAWN → guarded b x now ≡ record x { guard = guard_after x.guard b.draws_one now }
unguarded b x now quiet unasked few =
    let held : is_held_back b x now ≡ false = ap (λ u. b.draws_one && u) (fresh_unspent x.guard now few) ∙ and_false b.draws_one in
    ap₂ (λ h a. record x {
      owes_ack = if h || a then false else owes_answer b x;
      resend = record x.resend { mark = if a && not h then mark_past 0 (outstanding x.sending) else x.resend.mark };
      guard = guard_after x.guard b.draws_one now;
    }) held quiet ∙ ap (λ o. record x { owes_ack = o; guard = guard_after x.guard b.draws_one now }) (no_answer b x unasked)

-- What holds of them.

-- what an end tells: by its SYN what 16 bits can, of what it would hold, and later all but less than a segment
record Tells (unit : ℕ) (h : Half) : Type 0 where
  pub offers : syn_window (receiving_nothing h.room) ≡ h.told
  pub some : 1460 ≤ h.told
  pub few : h.told ≤ 65535
  pub again : min h.size 65535 ≡ h.told
  pub widens : (if nat_le (h.told + 1460) h.size then whole_units unit h.size else h.told) ≡ h.wide
  pub least : 0 < h.wide
  pub most : h.wide ≤ 1048576
  pub rest : h.size < h.wide + 1460

-- what the other's SYN settles, as it says it
abbrev read_of : Meeting → Settled
read_of m = let s = syn_of (mirror m) in let scales = m.mine.room.manner.scales && is_some (scale_option_of s) in record {
  scales = scales;
  sacks = is_selective m.mine.room.manner.control && sack_permitted_of s;
  sends = size_in scales (size_of m.mine.room);
  peer = peer_unit scales (shift_of s);
  takes = size_in scales (size_of m.mine.room);
  own = own_unit scales;
  smss = smss_of s;
  heard = s.window;
  told = syn_window (receiving_nothing m.mine.room);
}

record Fits (m : Meeting) : Type 0 where
  pub isn : m.isn < 2 ^ 32
  pub other : m.other < 2 ^ 32
  pub mine : Tells m.unit m.mine
  pub theirs : Tells m.unit m.theirs
  pub settles : read_of m ≡ settled m
  pub settles_there : read_of (mirror m) ≡ settled (mirror m)

abbrev mirrored : (m : Meeting) → Fits m → Fits (mirror m)
mirrored m f = record { isn = f.other; other = f.isn; mine = f.theirs; theirs = f.mine; settles = f.settles_there; settles_there = f.settles }

-- The numbers.

none_out : (n : ℕ) → n < 2 ^ 32 → past n n ≡ 0
none_out n fits = omega (arith, fits)

one_out : (n : ℕ) → n < 2 ^ 32 → past (wire n 1) n ≡ 1
one_out n fits = omega (arith, fits)

one_behind : (n : ℕ) → n < 2 ^ 32 → past n (wire n 1) ≡ 4294967295
one_behind n fits = omega (arith, fits)

-- the window is as wide as it was told
window_is : (m : Meeting) (window : ℕ) → window ≤ 1048576 → receive_window (receives m window) ≡ window
window_is m window few = reaches (wire m.other 1) window (omega arith) few
  where
    reaches : (next window : ℕ) → next < 2 ^ 32 → window ≤ 1048576 → past ((next + window) % 2 ^ 32) next ≡ window
    reaches next window fits few = omega (arith, fits, few)

-- its acknowledgement moves SND.UNA
moves : (n : ℕ) → n < 2 ^ 32 → not (n == wire n 1) ≡ true
moves n fits = elim (eqb_tells n (wire n 1)) [ inl same ↦ let one = one_out n fits in absurd (omega (arith, fits, same.1)) | inr other ↦ ap not other.0 ]

-- The windows.

-- what 16 bits can tell is told: a SYN-ACK tells the same once more
still_told : (m : Meeting) → Fits m → after_syn_advertisement (receives m m.mine.told) ≡ receives m m.mine.told
still_told m f =
    let r = receives m m.mine.told in
    let full : nat_le (receive_window r + 1460) (syn_window r) ≡ false = lt-leb (receive_window r + 1460) (syn_window r) (omega (arith, window_is m m.mine.told (omega (arith, f.mine.few)), f.mine.again)) in
    ap (λ b. if b then record r { edge = (r.rnext + syn_window r) % 2 ^ 32 } else r) full

-- the acknowledgement tells the whole room, where that is a step further
widened : (m : Meeting) → Fits m → after_advertisement (receives m m.mine.told) ≡ receives m m.mine.wide
widened m f =
    let told = window_is m m.mine.told (omega (arith, f.mine.few)) in
    ap (λ n. if nat_le (n + 1460) (m.mine.size - 0) then receives m (whole_units m.unit (m.mine.size - 0)) else receives m m.mine.told) told
    ∙ (ap (λ n. if nat_le (m.mine.told + 1460) n then receives m (whole_units m.unit n) else receives m m.mine.told) (less_none m.mine.size)
    ∙ (one_of (nat_le (m.mine.told + 1460) m.mine.size) (whole_units m.unit m.mine.size) m.mine.told ∙ ap (receives m) f.mine.widens))
  where
    less_none : (n : ℕ) → n - 0 ≡ n
    less_none n = omega arith

    one_of : (wide : Bool) (all some : ℕ) → (if wide then receives m all else receives m some) ≡ receives m (if wide then all else some)
    one_of true all some = refl
    one_of false all some = refl

-- .. and then it grows no more
full : (m : Meeting) → Fits m → has_grown (receives m m.mine.wide) ≡ false
full m f =
    let r = receives m m.mine.wide in
    lt-leb (receive_window r + 1460) (receive_room r) (omega (arith, window_is m m.mine.wide f.mine.most, f.mine.rest))

-- The SYN.

first_is_syn : (m : Meeting) (at : Moment) → Fits m → first_due (opening m at) ≡ Some Syn
first_is_syn m at f = ap (λ n. if (n == 0) || false then Some Syn else None) (none_out m.isn f.isn)

sent_first : (isn : ℕ) → isn < 2 ^ 32 → later_number isn isn (wire isn 1) ≡ wire isn 1
sent_first isn fits =
    either ℕ (λ n. n ≡ wire isn 1) (nat_le (past isn isn) (past (wire isn 1) isn)) (wire isn 1) isn
    (λ le. refl) (λ gt. clash (nat_le (past isn isn) (past (wire isn 1) isn)) (le-leb (past isn isn) (past (wire isn 1) isn) (omega (arith, fits))) gt)

-- the timer of the SYN runs while it is outstanding, and it waits where it is not
abbrev running_if : View → Option Moment → Moment → Moment → ℕ → View
running_if v was now first out = record v {
  timers = record no_timers { retransmission = if nat_lt 0 out && true then Some (after first 1000) else None };
  unheard = if (out == 0) && true then Some (waiting_since was now) else None;
}

-- it goes out, where so many numbers are outstanding
abbrev out_again : View → Moment → ℕ → View
out_again v now out = let sent = if nat_lt 0 out then after_resent v 1 else after_first_sent v 1 now in if nat_lt 0 out then after_syn_again sent else sent

syn_goes : (m : Meeting) (at now : Moment) → Fits m → after_event (opening m at) (Emits now) ≡ waiting m now
syn_goes m at now f =
    let v = opening m at in
    ap (λ d. after_first v d now) (first_is_syn m at f)
    ∙ (ap (λ n. clocked false (out_again v now n) now) (none_out m.isn f.isn)
    ∙ (ap (λ n. clocked false (record v { sending = record (sending_from (size_of m.mine.room) m.isn) { nxt = n }; resend = record (first_resend m.mine.room.manner.least_timeout) { timed = Some (record { end = record { 0 = n }; since = now }) } }) now) (sent_first m.isn f.isn)
    ∙ ap (running_if (waiting m now) (Some at) now now) (one_out m.isn f.isn)))

syn_comes : (m : Meeting) (now : Moment) → Fits m → after_event (waiting m now) (Hears (syn_of (mirror m)) now) ≡ again_due m (guard_at m now) now
syn_comes m now f =
    let v = waiting m now in
    let on = m.mine.room.manner.guards in
    let w = again_due m (first_guard on) now in
    let b = before v (syn_of (mirror m)) in
    ap (λ n. timed_by b (taken m (read_of m) n (mark_past 0 n) now) now) (one_out m.isn f.isn)
    ∙ (ap (λ t. timed_by b (taken m t 1 (Some 0) now) now) f.settles
    ∙ (timed_unmoved b w now (unmoved v) refl refl (silent_opening v (syn_of (mirror m)) refl) (silent_needed v (syn_of (mirror m)) (silent_opening v (syn_of (mirror m)) refl))
    ∙ (ap (λ x. clocked false x now) (unguarded b w now (and_false on) (opening_asks_none v (syn_of (mirror m)) refl) (omega arith)) ∙ ap (running_if (again_due m (guard_at m now) now) None now now) (one_out m.isn f.isn))))

-- The SYN-ACK.

sent_again : (isn : ℕ) → later_number isn (wire isn 1) (wire isn 1) ≡ wire isn 1
sent_again isn = either ℕ (λ n. n ≡ wire isn 1) (nat_le (past (wire isn 1) isn) (past (wire isn 1) isn)) (wire isn 1) (wire isn 1) (λ le. refl) (λ gt. refl)

first_is_syn_ack : (m : Meeting) (guard : Guard) (first : Moment) → Fits m → first_due (again_due m guard first) ≡ Some Syn
first_is_syn_ack m guard first f = ap (λ n. if (n == 0) || true then Some Syn else None) (one_out m.isn f.isn)

syn_ack_goes : (m : Meeting) (guard : Guard) (first now : Moment) → Fits m → after_event (again_due m guard first) (Emits now) ≡ again_sent m guard m.mine.told false false first first
syn_ack_goes m guard first now f =
    let v = again_due m guard first in
    let w = again_sent m guard m.mine.told false false first first in
    ap (λ d. after_first v d now) (first_is_syn_ack m guard first f)
    ∙ (ap (λ n. clocked false (after_syn_ack_paid (out_again v now n)) now) (one_out m.isn f.isn)
    ∙ (ap (λ n. clocked false (after_syn_ack_paid (record w { sending = record w.sending { nxt = n }; resend = record (resent_once m.mine.room.manner.least_timeout) { mark = mark_past 1 (past n m.isn) } })) now) (sent_again m.isn)
    ∙ (ap (λ n. clocked false (after_syn_ack_paid (record w { resend = record (resent_once m.mine.room.manner.least_timeout) { mark = mark_past 1 n } })) now) (one_out m.isn f.isn)
    ∙ (ap (λ r. clocked false (record w { receiving = r }) now) (still_told m f) ∙ ap (running_if w None now first) (one_out m.isn f.isn)))))

-- the other's SYN, once more, stands right before the window
outside : (m : Meeting) → Fits m → is_in_window (receives m m.mine.told) m.other ≡ false
outside m f =
    le-ltb (past m.other (wire m.other 1)) (receive_window (receives m m.mine.told)) (omega (arith, one_behind m.other f.other, window_is m m.mine.told (omega (arith, f.mine.few)), f.mine.few))

unacceptable : (m : Meeting) → Fits m → is_acceptable (receives m m.mine.told) m.other 1 ≡ false
unacceptable m f =
    let r = receives m m.mine.told in
    let same : (m.other + 0) % 2 ^ 32 ≡ m.other = kept m.other f.other in
    ap (λ b. b || is_in_window r ((m.other + 0) % 2 ^ 32)) (outside m f) ∙ (ap (is_in_window r) same ∙ outside m f)
  where
    kept : (n : ℕ) → n < 2 ^ 32 → (n + 0) % 2 ^ 32 ≡ n
    kept n fits = omega (arith, fits)

syn_ack_comes : (m : Meeting) (guard : Guard) (first now : Moment) → Fits m → guard.drawn < MOST_DRAWN
    → after_event (again_sent m guard m.mine.told false false first first) (Hears (syn_ack_of (mirror m) first) now) ≡ again_sent m (guard_again m guard first now) m.mine.told true false first now
syn_ack_comes m guard first now f few =
    let v = again_sent m guard m.mine.told false false first first in
    let w = again_sent m guard m.mine.told true false first now in
    let s = syn_ack_of (mirror m) first in
    let b = before v s in
    comes_to v s now refl (and_no (acknowledges_unsent v s) (is_acceptable_to v s && false) (and_no (is_acceptable_to v s) false refl))
    ∙ (ap (λ a. timed_by b (if a then after_acceptable_segment v s else owing_ack v) now) (unacceptable m f)
    ∙ (timed_unmoved b w now (unmoved v) refl refl (silent_opening v s refl) (silent_needed v s (silent_opening v s refl))
    ∙ (ap (λ x. clocked false x now) (unguarded b w now (and_false guard.on) (opening_asks_none v s refl) few) ∙ ap (running_if (again_sent m (guard_again m guard first now) m.mine.told true false first now) None now first) (one_out m.isn f.isn))))

-- The acknowledgement.

first_is_ack : (m : Meeting) (guard : Guard) (first last : Moment) → Fits m → first_due (again_sent m guard m.mine.told true false first last) ≡ Some Ack
first_is_ack m guard first last f = ap (λ n. if (n == 0) || false then Some Syn else Some Ack) (one_out m.isn f.isn)

ack_goes : (m : Meeting) (guard : Guard) (first last now : Moment) → Fits m → after_event (again_sent m guard m.mine.told true false first last) (Emits now) ≡ again_sent m guard m.mine.wide false true first last
ack_goes m guard first last now f =
    let v = again_sent m guard m.mine.told true false first last in
    let w = again_sent m guard m.mine.wide false true first last in
    ap (λ d. after_first v d now) (first_is_ack m guard first last f)
    ∙ (ap (λ r. clocked false (record w { receiving = r }) now) (widened m f) ∙ ap (running_if w None now first) (one_out m.isn f.isn))

in_order : (m : Meeting) → Fits m → is_acceptable (receives m m.mine.wide) (wire m.other 1) 0 ≡ true
in_order m f =
    let r = receives m m.mine.wide in
    let next = wire m.other 1 in
    or_left (nat_le (past next next) (receive_window r)) (stands_before r next) (le-leb (past next next) (receive_window r) (omega (arith, none_out next (omega arith))))

-- our SYN is acknowledged by a segment one further than the other's SYN
acknowledges : (isn : ℕ) → isn < 2 ^ 32 → (nat_lt 0 (past (wire isn 1) isn) && nat_le (past (wire isn 1) isn) (past (wire isn 1) isn)) ≡ true
acknowledges isn fits = ap (λ n. nat_lt 0 n && nat_le n n) (one_out isn fits)

later : (other : ℕ) → other < 2 ^ 32 → is_before other (wire other 1) ≡ true
later other fits = le-leb (2 ^ 31) (past other (wire other 1)) (omega (arith, one_behind other fits))

not_behind : (n : ℕ) → n < 2 ^ 32 → is_before n n ≡ false
not_behind n fits = lt-leb (2 ^ 31) (past n n) (omega (arith, none_out n fits))

updates : (m : Meeting) (guard : Guard) (first last : Moment) → Fits m → (let e = after_establishment (again_sent m guard m.mine.wide false true first last) in updates_window e.sending (wire m.other 1) (wire m.isn 1)) ≡ true
updates m guard first last f =
    let same = is_before (wire m.isn 1) (wire m.isn 1) in
    both (not same) (is_before m.other (wire m.other 1) || (m.other == wire m.other 1 && not same))
    (ap not (not_behind (wire m.isn 1) (omega arith))) (or_left (is_before m.other (wire m.other 1)) (m.other == wire m.other 1 && not same) (later m.other f.other))

-- what the acknowledgement makes of the connection without the clock
ack_heard : (m : Meeting) (guard : Guard) (first last : Moment) → Fits m → after_heard (again_sent m guard m.mine.wide false true first last) (ack_of (mirror m)) ≡ heard m guard first last
ack_heard m guard first last f =
    let v = again_sent m guard m.mine.wide false true first last in
    let s = ack_of (mirror m) in
    let w = heard m guard first last in
    let e = after_establishment v in
    let most = max 0 m.theirs.told in
    ap (λ b. if b then after_acceptable_segment v s else owing_ack v) (in_order m f)
    ∙ (ap (λ b. if b then after_fin (after_text (after_window (if b then e else v) s) s) s else (if b then e else v)) (acknowledges m.isn f.isn)
    ∙ (ap (λ b. record w { sending = if b then record w.sending { window = window_in e.sending s.window; max_window = max most (window_in e.sending s.window) } else e.sending }) (updates m guard first last f)
    ∙ (ap (λ r. record w { sending = record w.sending { window = window_field r * m.unit; max_window = max most (window_field r * m.unit) } }) (widened (mirror m) (mirrored m f))
    ∙ ap (λ n. record w { sending = record w.sending { window = n / m.unit * m.unit; max_window = max most (n / m.unit * m.unit) } }) (window_is (mirror m) m.theirs.wide f.theirs.most))))

-- the connection is open: no octets wait
none_waits : (out window : ℕ) → nat_lt 0 (min (0 - out) window) ≡ false
none_waits out window = le-ltb 0 (min (0 - out) window) (omega arith)

-- .. and no timer runs
at_rest : (m : Meeting) (guard : Guard) (first now : Moment) → clocked true (record (opened m guard now) { timers = runs_from first }) now ≡ opened m guard now
at_rest m guard first now =
    let w = opened m guard now in
    let n = outstanding w.sending in
    let open_window = min w.sending.window (allowance w) - n in
    let worth = is_worth_sending w.sending (allowance w) (waits_no_longer w) in
    ap (λ b. record w {
      resend = record w.resend { interval = if b && false then 1000 else 1000 };
      timers = record no_timers {
        retransmission = if nat_lt 0 n && not b then Some (after now 1000) else None;
        probe = if b then Some (after now 1000) else None;
        overriding = if nat_lt 0 (min (0 - n) open_window) && not worth then Some (after now OVERRIDE_WAIT) else None;
      };
      unheard = if (n == 0) && ((nat_lt 0 (min (0 - n) open_window) && worth) || false || false) then Some now else None;
    }) (and_no (w.sending.window == 0) false refl)
    ∙ (ap (λ b. record w {
      timers = record no_timers {
        retransmission = if nat_lt 0 n && true then Some (after now 1000) else None;
        overriding = if b && not worth then Some (after now OVERRIDE_WAIT) else None;
      };
      unheard = if (n == 0) && ((b && worth) || false || false) then Some now else None;
    }) (none_waits n open_window)
    ∙ ap (λ k. record w {
      timers = record no_timers { retransmission = if nat_lt 0 k && true then Some (after now 1000) else None };
      unheard = if (k == 0) && false then Some now else None;
    }) (none_out (wire m.isn 1) (omega arith)))

ack_comes : (m : Meeting) (guard : Guard) (first last now : Moment) → Fits m → guard.drawn < MOST_DRAWN
    → after_event (again_sent m guard m.mine.wide false true first last) (Hears (ack_of (mirror m)) now) ≡ opened m (guard_open m guard first last now) now
ack_comes m guard first last now f few =
    let v = again_sent m guard m.mine.wide false true first last in
    let s = ack_of (mirror m) in
    let b = before v s in
    let silent = record b { blocks = []; needless = false } in
    let w = heard m guard first last in
    let left = guard_open m guard first last now in
    let once = resent_once m.mine.room.manner.least_timeout in
    comes_to v s now refl (ap (λ a. not a && (is_acceptable_to v s && true)) (acknowledges m.isn f.isn))
    ∙ (ap (λ x. timed_by b x now) (ack_heard m guard first last f)
    ∙ (ap₂ (λ bs t. timed_by (record b { blocks = bs; needless = t }) w now) (silent_opening v s refl) (silent_needed v s (silent_opening v s refl))
    ∙ (ap (λ x. clocked (is_moved silent w) x now) (unguarded silent (record w { since = since_after silent w now; resend = resend_left silent w now; congestion = congestion_left silent w now; alive = asked None now }) now (and_false guard.on) (opening_asks_none v s refl) few)
    ∙ (ap (λ x. clocked x (record w {
      resend = let resend : Resend = record (if x then once else if answers_probe v s then once else once) { reported = [] } in resend_signalled resend (if x then Begins else Nothing) w.congestion (outstanding w.sending);
      congestion = after_signal w.congestion (if x then Begins else Nothing) 1460 false;
      alive = asked None now;
      guard = left;
    }) now) (moves m.isn f.isn)
    ∙ at_rest m left first now))))

none_left : (m : Meeting) (guard : Guard) (last : Moment) → Fits m → first_due (opened m guard last) ≡ None
none_left m guard last f =
    let v = opened m guard last in
    let n = outstanding v.sending in
    ap (λ b. if b && is_worth_sending v.sending (allowance v) (waits_no_longer v) then Some (Text (new_octets v)) else ack_due v) (none_waits n (min v.sending.window (allowance v) - n))
    ∙ ap (λ b. if b then Some Ack else None) (full m f)

-- Both together.

-- what is due first at each goes out, and comes to the other
crosses : (v w x : View) (s : Segment) (y : View) (now : Moment) → after_event v (Emits now) ≡ x → first_segment w ≡ Some s → after_event x (Hears s now) ≡ y
    → after_coming (after_event v (Emits now)) (first_segment w) now ≡ y
crosses v w x s y now goes is comes = ap (λ u. after_coming u (first_segment w) now) goes ∙ (ap (λ o. after_coming x o now) is ∙ comes)

segment_due : (v : View) (due : Due) → first_due v ≡ Some due → first_segment v ≡ Some (sent_segment (head_of v due) (octets_of v due))
segment_due v due is = ap (λ o. option_map (λ d. sent_segment (head_of v d) (octets_of v d)) o) is

syns_cross : (m : Meeting) (one two now : Moment) → Fits m → after_coming (after_event (opening m one) (Emits now)) (first_segment (opening (mirror m) two)) now ≡ again_due m (guard_at m now) now
syns_cross m one two now f =
    crosses (opening m one) (opening (mirror m) two) (waiting m now) (syn_of (mirror m)) (again_due m (guard_at m now) now) now
    (syn_goes m one now f) (segment_due (opening (mirror m) two) Syn (first_is_syn (mirror m) two (mirrored m f))) (syn_comes m now f)

syn_acks_cross : (m : Meeting) (guard other : Guard) (first now : Moment) → Fits m → guard.drawn < MOST_DRAWN
    → after_coming (after_event (again_due m guard first) (Emits now)) (first_segment (again_due (mirror m) other first)) now ≡ again_sent m (guard_again m guard first now) m.mine.told true false first now
syn_acks_cross m guard other first now f few =
    let w = again_due (mirror m) other first in
    crosses (again_due m guard first) w (again_sent m guard m.mine.told false false first first) (syn_ack_of (mirror m) first) (again_sent m (guard_again m guard first now) m.mine.told true false first now) now
    (syn_ack_goes m guard first now f) (segment_due w Syn (first_is_syn_ack (mirror m) other first (mirrored m f))) (syn_ack_comes m guard first now f few)

acks_cross : (m : Meeting) (guard other : Guard) (first last now : Moment) → Fits m → guard.drawn < MOST_DRAWN
    → after_coming (after_event (again_sent m guard m.mine.told true false first last) (Emits now)) (first_segment (again_sent (mirror m) other m.theirs.told true false first last)) now ≡ opened m (guard_open m guard first last now) now
acks_cross m guard other first last now f few =
    let w = again_sent (mirror m) other m.theirs.told true false first last in
    crosses (again_sent m guard m.mine.told true false first last) w (again_sent m guard m.mine.wide false true first last) (ack_of (mirror m)) (opened m (guard_open m guard first last now) now) now
    (ack_goes m guard first last now f) (segment_due w Ack (first_is_ack (mirror m) other first last (mirrored m f))) (ack_comes m guard first last now f few)

-- the two of a meeting
abbrev pair : (Meeting → View) → Meeting → Ends
pair end m = record { one = end m; other = end (mirror m) }

-- what becomes of each becomes of both
together : (m : Meeting) (v w : View) (end : Meeting → View) (now : Moment) → after_coming (after_event v (Emits now)) (first_segment w) now ≡ end m
    → after_coming (after_event w (Emits now)) (first_segment v) now ≡ end (mirror m) → crossed (record { one = v; other = w }) now ≡ pair end m
together m v w end now one other =
    ap (λ x. record { one = x; other = after_coming (after_event w (Emits now)) (first_segment v) now }) one ∙ ap (λ x. record { one = end m; other = x }) other

abbrev both_open : Meeting → Moment → Moment → Ends
both_open m one two = record { one = opening m one; other = opening (mirror m) two }

-- the two once the SYNs crossed, the SYN-ACKs, and the acknowledgements of these
abbrev once_crossed : Moment → Meeting → View
once_crossed first m = again_due m (guard_at m first) first

abbrev guard_twice : Meeting → Moment → Moment → Guard
guard_twice m first second = guard_again m (guard_at m first) first second

abbrev twice_crossed : Moment → Moment → Meeting → View
twice_crossed first second m = again_sent m (guard_twice m first second) m.mine.told true false first second

abbrev thrice_crossed : Moment → Moment → Moment → Meeting → View
thrice_crossed first second third m = opened m (guard_open m (guard_twice m first second) first second third) third

few_at : (m : Meeting) (first : Moment) → (guard_at m first).drawn < MOST_DRAWN
few_at m first = let one = drawn_once (first_guard m.mine.room.manner.guards) (draws_one (waiting m first) (syn_of (mirror m))) first in omega (arith, one)

few_twice : (m : Meeting) (first second : Moment) → (guard_twice m first second).drawn < MOST_DRAWN
few_twice m first second =
    let guard = guard_at m first in
    let one = drawn_once (first_guard m.mine.room.manner.guards) (draws_one (waiting m first) (syn_of (mirror m))) first in
    let two = drawn_once guard (draws_one (again_sent m guard m.mine.told false false first first) (syn_ack_of (mirror m) first)) second in
    omega (arith, one, two)

first_crossing : (m : Meeting) (one two now : Moment) → Fits m → crossed (both_open m one two) now ≡ pair (once_crossed now) m
first_crossing m one two now f = together m (opening m one) (opening (mirror m) two) (once_crossed now) now (syns_cross m one two now f) (syns_cross (mirror m) two one now (mirrored m f))

second_crossing : (m : Meeting) (first now : Moment) → Fits m → crossed (pair (once_crossed first) m) now ≡ pair (twice_crossed first now) m
second_crossing m first now f =
    let here = guard_at m first in
    let there = guard_at (mirror m) first in
    together m (once_crossed first m) (once_crossed first (mirror m)) (twice_crossed first now) now
    (syn_acks_cross m here there first now f (few_at m first)) (syn_acks_cross (mirror m) there here first now (mirrored m f) (few_at (mirror m) first))

third_crossing : (m : Meeting) (first last now : Moment) → Fits m → crossed (pair (twice_crossed first last) m) now ≡ pair (thrice_crossed first last now) m
third_crossing m first last now f =
    let here = guard_twice m first last in
    let there = guard_twice (mirror m) first last in
    together m (twice_crossed first last m) (twice_crossed first last (mirror m)) (thrice_crossed first last now) now
    (acks_cross m here there first last now f (few_twice m first last)) (acks_cross (mirror m) there here first last now (mirrored m f) (few_twice (mirror m) first last))

all_crossings : (m : Meeting) (one two first second third : Moment) → Fits m → crossed (crossed (crossed (both_open m one two) first) second) third ≡ pair (thrice_crossed first second third) m
all_crossings m one two first second third f =
    ap (λ ends. crossed (crossed ends second) third) (first_crossing m one two first f) ∙ (ap (λ ends. crossed ends third) (second_crossing m first second f) ∙ third_crossing m first second third f)

answers : (m : Meeting) (first : Moment) → Fits m → AnswersSyn m.isn m.other (once_crossed first m)
answers m first f = record {
  state = refl;
  due = first_is_syn_ack m (guard_at m first) first f;
  syn = refl;
  ack = refl;
  number = refl;
  expects = refl;
  then_sent = λ now. ap (λ (v : View). v.sending.nxt) (syn_ack_goes m (guard_at m first) first now f);
}

-- The rooms.

-- the options of a SYN
abbrev options_in : Bool → Bool → List HeaderOption
options_in scales sacks = MaximumSegmentSize 1460 ∷ (if scales then NoOperation ∷ WindowScale 5 ∷ permission sacks else permission sacks)

-- windows are scaled where both offer it ..
both_say : (mine theirs sacks : Bool) → (mine && is_some (last_scale None (options_in theirs sacks))) ≡ (mine && theirs)
both_say mine true true = refl
both_say mine true false = refl
both_say mine false true = refl
both_say mine false false = refl

-- .. and what is kept is reported where both take that
both_take : (mine theirs scales : Bool) → (mine && list_any permits (options_in scales theirs)) ≡ (mine && theirs)
both_take mine true true = refl
both_take mine true false = refl
both_take mine false true = refl
both_take mine false false = refl

both_say_too : (mine theirs : Bool) → (mine && theirs) ≡ (theirs && mine)
both_say_too true true = refl
both_say_too true false = refl
both_say_too false true = refl
both_say_too false false = refl

-- .. and then a unit is ours, since the shifts are the same
unit_read : (mine theirs both sacks : Bool) → (mine && theirs) ≡ both → peer_unit both (min (unwrap_or (last_scale None (options_in theirs sacks)) 0) 14) ≡ own_unit both
unit_read mine true both true same = refl
unit_read mine true both false same = refl
unit_read mine false true sacks same = let bad = sym (and_false mine) ∙ same in cc
unit_read mine false false true same = refl
unit_read mine false false false same = refl

size_read : (theirs sacks : Bool) → min (max (unwrap_or (last_mss None (options_in theirs sacks)) 536) 64) 1460 ≡ 1460
size_read true true = refl
size_read true false = refl
size_read false true = refl
size_read false false = refl

-- as many octets count as where windows had always been so
size_settled : (mine theirs both : Bool) (capacity : ℕ) → (mine && theirs) ≡ both → size_in both (size_in mine capacity) ≡ size_in both capacity
size_settled mine theirs both capacity same = subst (λ b. size_in b (size_in mine capacity) ≡ size_in b capacity) same (settled_once mine theirs capacity)

-- what 16 bits can tell of a buffer
told_of : (scales : Bool) (capacity : ℕ) → min (size_in scales capacity - 0) 65535 ≡ min capacity 65535
told_of true capacity = omega arith
told_of false capacity = omega arith

abbrev half_of : Bool → Room → Half
half_of both room = let size = size_in both room.capacity in let told = min room.capacity 65535 in
    record { room = room; size = size; told = told; wide = if nat_le (told + 1460) size then whole_units (own_unit both) size else told }

abbrev meeting : Bool → Bool → Room → Room → Endpoint → Endpoint → ℕ → ℕ → Meeting
meeting both sacks room facing here there isn other =
    record { scales = both; sacks = sacks; unit = own_unit both; mine = half_of both room; theirs = half_of both facing; here = here; there = there; isn = isn; other = other }

-- the first window that is told is a step further than none
syn_tells : (room : Room) → CanBeMade room → min (receive_window (after_syn_advertisement (receiving_nothing room))) 65535 ≡ min room.capacity 65535
syn_tells room made =
    let r = receiving_nothing room in
    let told = min room.capacity 65535 in
    ap (λ n. min (receive_window (if nat_le 1460 n then record r { edge = (0 + n) % 2 ^ 32 } else r)) 65535) (told_of room.manner.scales room.capacity)
    ∙ (ap (λ b. min (receive_window (if b then record r { edge = (0 + told) % 2 ^ 32 } else r)) 65535) (le-leb 1460 told (omega (arith, made.least))) ∙ omega arith)

alike : (t : Settled) (scales sacks : Bool) (sends peer takes own smss heard told : ℕ) → scales ≡ t.scales → sacks ≡ t.sacks → sends ≡ t.sends → peer ≡ t.peer → takes ≡ t.takes → own ≡ t.own → smss ≡ t.smss → heard ≡ t.heard → told ≡ t.told
    → record { scales = scales; sacks = sacks; sends = sends; peer = peer; takes = takes; own = own; smss = smss; heard = heard; told = told } ≡ t
alike t scales sacks sends peer takes own smss heard told a b c d e f g h i = rw a (rw b (rw c (rw d (rw e (rw f (rw g (rw h (rw i refl))))))))

settles : (both sacks : Bool) (room facing : Room) (here there : Endpoint) (isn other : ℕ) → CanBeMade facing → (room.manner.scales && facing.manner.scales) ≡ both
    → (is_selective room.manner.control && is_selective facing.manner.control) ≡ sacks → (let m = meeting both sacks room facing here there isn other in read_of m ≡ settled m)
settles both sacks room facing here there isn other made say take =
    let m = meeting both sacks room facing here there isn other in
    let t = read_of m in
    let theirs = is_selective facing.manner.control in
    let same : t.scales ≡ both = both_say room.manner.scales facing.manner.scales theirs ∙ say in
    let reports : t.sacks ≡ sacks = both_take (is_selective room.manner.control) theirs facing.manner.scales ∙ take in
    let size = ap (λ b. size_in b (size_of room)) same ∙ size_settled room.manner.scales facing.manner.scales both room.capacity say in
    alike (settled m) t.scales t.sacks t.sends t.peer t.takes t.own t.smss t.heard t.told
    same reports size (ap (λ b. peer_unit b (shift_of (syn_of (mirror m)))) same ∙ unit_read room.manner.scales facing.manner.scales both theirs say) size (ap own_unit same)
    (size_read facing.manner.scales theirs) (syn_tells facing made) (told_of room.manner.scales room.capacity)

units : (both : Bool) → (0 < own_unit both) × (own_unit both ≤ 1460)
units true = (omega arith, omega arith)
units false = (omega arith, omega arith)

-- a buffer is as large as was made, or as 16 bits can tell
sizes : (both : Bool) (capacity : ℕ) → 1460 ≤ capacity → (min (size_in both capacity) 65535 ≡ min capacity 65535) × (size_in both capacity ≤ capacity)
sizes true capacity least = (refl, omega arith)
sizes false capacity least = (omega arith, omega arith)

tells : (both : Bool) (room : Room) → CanBeMade room → Tells (own_unit both) (half_of both room)
tells both room made =
    let size = size_in both room.capacity in
    let told = min room.capacity 65535 in
    let whole = whole_units (own_unit both) size in
    let unit = units both in
    let filled = in_units (own_unit both) size unit.0 in
    let sized = sizes both room.capacity made.least in
    let wide : (let w = if nat_le (told + 1460) size then whole else told in (0 < w) × (w ≤ 1048576) × (size < w + 1460)) =
    elim (leb_tells (told + 1460) size) [
      | inl step ↦ subst (λ b. let w = if b then whole else told in (0 < w) × (w ≤ 1048576) × (size < w + 1460)) (sym step.0)
          (omega (arith, unit.1, filled.1, step.1), omega (arith, filled.0, sized.1, made.most), omega (arith, unit.1, filled.1))
      | inr none ↦ subst (λ b. let w = if b then whole else told in (0 < w) × (w ≤ 1048576) × (size < w + 1460)) (sym none.0)
          (omega (arith, made.least), omega arith, none.1)
    ] in
    record {
      offers = told_of room.manner.scales room.capacity;
      some = omega (arith, made.least);
      few = omega arith;
      again = sized.0;
      widens = refl;
      least = wide.0;
      most = wide.1;
      rest = wide.2;
    }

-- whether both ends' set-ups take reports
abbrev both_report : Room → Room → Bool
both_report room facing = is_selective room.manner.control && is_selective facing.manner.control

fits : (room facing : Room) (here there : Endpoint) (isn other : ℕ) → CanBeMade room → CanBeMade facing → isn < 2 ^ 32 → other < 2 ^ 32
    → Fits (meeting (room.manner.scales && facing.manner.scales) (both_report room facing) room facing here there isn other)
fits room facing here there isn other made made_there few other_few = let both = room.manner.scales && facing.manner.scales in let sacks = both_report room facing in record {
  isn = few;
  other = other_few;
  mine = tells both room made;
  theirs = tells both facing made_there;
  settles = settles both sacks room facing here there isn other made_there refl refl;
  settles_there = settles both sacks facing room there here other isn made (both_say_too facing.manner.scales room.manner.scales) (both_say_too (is_selective facing.manner.control) (is_selective room.manner.control));
}

-- a mebibyte is told whole, and what 16 bits can tell
all_told : (both : Bool) (told size : ℕ) → min size 65535 ≡ told → (size ≡ 65535) ⊎ ((size ≡ 1048576) × (both ≡ true)) → (if nat_le (told + 1460) size then whole_units (own_unit both) size else told) ≡ size
all_told both told size same (inl small) =
    ap (λ b. if b then whole_units (own_unit both) size else told) (lt-leb (told + 1460) size (omega (arith, same, small))) ∙ omega (arith, same, small)
all_told true told size same (inr large) =
    ap (λ b. if b then whole_units 32 size else told) (le-leb (told + 1460) size (omega (arith, same, large.0))) ∙ omega (arith, large.0)
all_told false told size same (inr large) = cc

has_opened : (both sacks : Bool) (room facing : Room) (here there : Endpoint) (isn other : ℕ) (guard : Guard) (last : Moment) → CanBeMade room
    → (let m = meeting both sacks room facing here there isn other in Fits m → HasOpened both room.capacity isn other (opened m guard last))
has_opened both sacks room facing here there isn other guard last made f =
    let m = meeting both sacks room facing here there isn other in
    let window = window_is m m.mine.wide f.mine.most in
    let sized = sizes both room.capacity made.least in
    record {
      state = refl;
      una = refl;
      nxt = refl;
      expects = refl;
      due = none_left m guard last f;
      scales = refl;
      sends = refl;
      takes = refl;
      told = omega (arith, window, f.mine.rest);
      whole = λ known. window ∙ all_told both m.mine.told m.mine.size sized.0 (elim known [ inl small ↦ inl small | inr large ↦ inr (large, where_large both room.capacity large) ]);
    }
  where
    where_large : (both : Bool) (capacity : ℕ) → size_in both capacity ≡ 1048576 → both ≡ true
    where_large true capacity large = refl
    where_large false capacity large = absurd (omega (arith, large))

knows : (m : Meeting) (first second third : Moment) → Fits m → KnowsWindow (thrice_crossed first second third m) (thrice_crossed first second third (mirror m))
knows m first second third f = record { unit = refl; window = ap (whole_units m.unit) (sym (window_is (mirror m) m.theirs.wide f.theirs.most)) }

pub both_answered : (here there : Endpoint) (room facing : Room) (isn other : ℕ) (one two first : Moment) → CanBeMade room → CanBeMade facing → isn < 2 ^ 32 → other < 2 ^ 32
    → (let ends = crossed (record { one = opened_actively room here there isn one; other = opened_actively facing there here other two }) first in
    let both = room.manner.scales && facing.manner.scales in AnswersSyn isn other ends.one × (ends.one.scales ≡ both) × AnswersSyn other isn ends.other × (ends.other.scales ≡ both))
both_answered here there room facing isn other one two first made made_there few other_few =
    let both = room.manner.scales && facing.manner.scales in
    let m = meeting both (both_report room facing) room facing here there isn other in
    let f = fits room facing here there isn other made made_there few other_few in
    subst (λ (ends : Ends). AnswersSyn isn other ends.one × (ends.one.scales ≡ both) × AnswersSyn other isn ends.other × (ends.other.scales ≡ both)) (sym (first_crossing m one two first f))
    (answers m first f, refl, answers (mirror m) first (mirrored m f), refl)

pub both_opened : (here there : Endpoint) (room facing : Room) (isn other : ℕ) (one two first second third : Moment) → CanBeMade room → CanBeMade facing → isn < 2 ^ 32 → other < 2 ^ 32
    → (let ends = crossed (crossed (crossed (record { one = opened_actively room here there isn one; other = opened_actively facing there here other two }) first) second) third in
    let both = room.manner.scales && facing.manner.scales in HasOpened both room.capacity isn other ends.one × HasOpened both facing.capacity other isn ends.other)
both_opened here there room facing isn other one two first second third made made_there few other_few =
    let both = room.manner.scales && facing.manner.scales in
    let m = meeting both (both_report room facing) room facing here there isn other in
    let f = fits room facing here there isn other made made_there few other_few in
    subst (λ (ends : Ends). HasOpened both room.capacity isn other ends.one × HasOpened both facing.capacity other isn ends.other) (sym (all_crossings m one two first second third f)) (
      has_opened both (both_report room facing) room facing here there isn other (guard_open m (guard_twice m first second) first second third) third made f,
      has_opened both (both_report room facing) facing room there here other isn (guard_open (mirror m) (guard_twice (mirror m) first second) first second third) third made_there (mirrored m f),
    )

pub both_know : (here there : Endpoint) (room facing : Room) (isn other : ℕ) (one two first second third : Moment) → CanBeMade room → CanBeMade facing → isn < 2 ^ 32 → other < 2 ^ 32
    → (let ends = crossed (crossed (crossed (record { one = opened_actively room here there isn one; other = opened_actively facing there here other two }) first) second) third in
    KnowsWindow ends.one ends.other × KnowsWindow ends.other ends.one)
both_know here there room facing isn other one two first second third made made_there few other_few =
    let m = meeting (room.manner.scales && facing.manner.scales) (both_report room facing) room facing here there isn other in
    let f = fits room facing here there isn other made made_there few other_few in
    subst (λ (ends : Ends). KnowsWindow ends.one ends.other × KnowsWindow ends.other ends.one) (sym (all_crossings m one two first second third f)) (knows m first second third f, knows (mirror m) first second third (mirrored m f))
