-- Why no timer of a connection lies more than a minute past the latest moment that the table was told.
use Rattle.std.proofs.Common.{◌≡◌, inl, inr, ℕ, ◌+◌, ◌≤◌, ◌==◌, ◌||◌, ◌⊎◌, not, nat_le, min, ◌∙◌, Bool, true, false, if◌then◌else◌, List, [], ◌∷◌, length, Option, Some, None, fold, refl, sym, ap, subst, arith, ◌-◌}
use Rattle.std.specs.List.{AllByRecursion}
use Rattle.ipv4.specs.declared.addr.Addr.{Addr}
use Rattle.tcp_halves.specs.declared.buffers.Manner.{Manner}
use Rattle.clock.specs.declared.moment.Moment.{Moment}
use Rattle.clock.specs.Moments.{after, sooner}
use Rattle.retransmit.specs.declared.timers.TimerKind.{TimerKind}
use Rattle.retransmit.specs.declared.timers.TimerKind.TheVariants.{Retransmission, Probe, DelayedAck, Override}
use Rattle.retransmit.specs.Deadlines.{deadline_of as timer_of, next_of}
use Rattle.tcp_segment.specs.Segment.{Segment}
use Rattle.tcp_halves.proofs.Choices.{either}
use Rattle.tcp_state.specs.declared.state.State.{State}
use Rattle.tcp_state.specs.declared.state.State.TheVariants.{FinWait2, TimeWait}
use Rattle.tcp_state.specs.declared.guard.Guard.{Guard}
use Rattle.tcp_state.specs.View.{View, IsSound, is_fin_wait_2, end_of_wait, ends_at}
use Rattle.tcp_state.specs.Calls.{latest}
use Rattle.tcp_state.specs.Alive.{wait_of, rests, end_of_silence, alive_at}
use Rattle.tcp_state.specs.Tail.{awaits_tail, tail_wait, tail_by, tail_at}
use Rattle.tcp_state.specs.Arrival.{is_receiving, after_ack, after_window, after_text, after_heard, before}
use Rattle.tcp_state.specs.Due.{first_due}
use Rattle.tcp_state.specs.Edges as edge
use Rattle.tcp_state.proofs.Clocked.{ticks_keep, emission_keeps}
use Rattle.tcp_state.proofs.AliveBy.{counted_since}
use Rattle.tcp_state.proofs.Events.{by_event}
use Rattle.tcp_state.proofs.Guarded.{heard_guard}
use Rattle.tcp_state.proofs.Segments.{by_ack, by_fin, by_hearing}
use Rattle.tcp_state.proofs.SetSoon.{soon, never}
use Rattle.sockets.specs.declared.sizes.Sizes.{Sizes}
use Rattle.sockets.specs.declared.entry.Entry.{Entry}
use Rattle.sockets.specs.declared.role.Role.{Role}
use Rattle.sockets.specs.declared.role.Role.TheVariants.{Idle, Listener, Connected, Datagrams}
use Rattle.sockets.specs.Entries.{deadline_of}
use Rattle.sockets.specs.Causes.{Event, after_event}
use Rattle.sockets.specs.Sound.{IsSoundRole, IsSoundTable}
use Rattle.sockets.specs.SocketsView.{SocketsView, new_sockets, later_moment}
use Rattle.sockets.specs.Ticks.{least_deadline}
use Rattle.sockets.specs.Timing.{AreSound, IsNear, IsNearIn, AreNear, AsksNone, NoneAsks, IsUpTo}
use Rattle.sockets.specs.Traffic.{after_events}
use Rattle.sockets.proofs.Followed.{by_test, all_joined}
use Rattle.sockets.proofs.Numbered.{moment_kept}
use Rattle.sockets.proofs.Steps.{IsEventOf, sends_it, reads_it, shuts_it, delays_it, asks_it, closes_it, resets_it, aborts_it, ticks_it, comes_to_it, goes_out, tells_it, loses_it, IsStepOf, stays, moves, opens, accepted, IsJoining, made, made_datagrams, called, IsStepped, followed, joined, stepped, later_up_to}
use Rattle.sockets.proofs.Timed.{all_left}
use Rattle.sockets.proofs.Unheard.{from_then, unheard_by}

-- One connection.

-- what a segment is heard as counts no wait
abbrev IsSince : View → View → Type 0
IsSince c d = d.since ≡ c.since

heard_since : (c : View) (s : Segment) → IsSince c (after_heard c s)
heard_since c s =
    by_hearing (IsSince c) c s acked
    (record { dropped = refl; drawn = refl; reset = λ acts. refl; crossed = λ waits. refl; opened = λ waits right. refl; acknowledged = λ taken. acked; read = λ reads. by_fin (IsSince c) (after_text told s) s (λ counts. texted) texted texted })
  where
    told : View
    told = after_window (after_ack c s.acknowledgement) s

    acked : IsSince c (after_ack c s.acknowledgement)
    acked = by_ack (IsSince c) c s.acknowledgement (record { old = refl; beyond = refl; opens = λ received new. refl; octets = λ new. refl; fin = λ new fin. refl })

    texted : IsSince c (after_text told s)
    texted = either View (IsSince c) ((length s.octets == 0) || not (is_receiving told.state)) told _ (λ none. acked) (λ some. acked)

-- a wait is counted from where it was, or from the moment of the event at the latest
abbrev SinceBy : Moment → View → edge.Event → View → Type 0
SinceBy last c e d = ((now : Moment) → edge.moment_of e ≡ Some now → now.0 ≤ last.0) → d.since.0 ≤ last.0

chosen : (b : Bool) (now since last : Moment) → now.0 ≤ last.0 → since.0 ≤ last.0 → (let m = if b then now else since in m.0 ≤ last.0)
chosen true now since last first second = first
chosen false now since last first second = second

later_of : (a b last : Moment) → a.0 ≤ last.0 → b.0 ≤ last.0 → (let m = latest a b in m.0 ≤ last.0)
later_of a b last first second = omega (arith, first, second)

since_by : (last : Moment) (c : View) → c.since.0 ≤ last.0 → (e : edge.Event) → SinceBy last c e (edge.after_event c e)
since_by last c old =
    by_event (SinceBy last c) c
    (record {
      same = λ e told. old;
      asks = λ e alive told. old;
      silent = λ now told. old;
      heard = λ s now lives told.
          let w = after_heard c s in
          let kept : w.since.0 ≤ last.0 = subst (λ (m : Moment). m.0 ≤ last.0) (sym (heard_since c s)) old in
          chosen _ now w.since last (told now refl) kept;
      over = λ now ends told. old;
      given_up = λ now waits gives told. old;
      acts = λ now told. subst (λ (m : Moment). m.0 ≤ last.0) (sym (ap (λ (d : View). d.since) (ticks_keep c now))) old;
      emits = λ now told. subst (λ (m : Moment). m.0 ≤ last.0) (sym (ap (λ (d : View). d.since) (emission_keeps c (first_due c) now))) old;
      sends = λ octets taken now open_ told. old;
      reads = λ len told. old;
      shuts = λ now told. old;
      delays = λ on now told. old;
      leaves = λ now lives told. chosen (is_fin_wait_2 c.state) (latest c.since now) c.since last (later_of c.since now last old (told now refl)) old;
      aborts = λ e now moment cause lives told. told now moment;
      refused = λ number hit told. old;
      hopless = λ now over told. old;
    })

-- .. and so is that for a silent peer
asked_by : (last : Moment) (c : View) → c.alive.since.0 ≤ last.0 → (e : edge.Event) → ((now : Moment) → edge.moment_of e ≡ Some now → now.0 ≤ last.0) → (let d = edge.after_event c e in d.alive.since.0 ≤ last.0)
asked_by last c old e told = elim (counted_since c e) [
  | inl same ↦ subst (λ (m : Moment). m.0 ≤ last.0) (sym same) old
  | inr began ↦ subst (λ (m : Moment). m.0 ≤ last.0) (sym began.2) (told began.0 began.1)
]

-- .. and so is what was drawn on guard
abbrev DrawnBy : Moment → View → edge.Event → View → Type 0
DrawnBy last c e d = ((now : Moment) → edge.moment_of e ≡ Some now → now.0 ≤ last.0) → d.guard.latest.0 ≤ last.0

drawn_by : (last : Moment) (c : View) → c.guard.latest.0 ≤ last.0 → (e : edge.Event) → DrawnBy last c e (edge.after_event c e)
drawn_by last c old =
    by_event (DrawnBy last c) c
    (record {
      same = λ e told. old;
      asks = λ e alive told. old;
      silent = λ now told. old;
      heard = λ s now lives told.
          let w = after_heard c s in
          let kept : w.guard.latest.0 ≤ last.0 = subst (λ (g : Guard). g.latest.0 ≤ last.0) (sym (heard_guard c s)) old in
          chosen _ now w.guard.latest last (told now refl) kept;
      over = λ now ends told. old;
      given_up = λ now waits gives told. old;
      acts = λ now told. subst (λ (g : Guard). g.latest.0 ≤ last.0) (sym (ap (λ (d : View). d.guard) (ticks_keep c now))) old;
      emits = λ now told. subst (λ (g : Guard). g.latest.0 ≤ last.0) (sym (ap (λ (d : View). d.guard) (emission_keeps c (first_due c) now))) old;
      sends = λ octets taken now open_ told. old;
      reads = λ len told. old;
      shuts = λ now told. old;
      delays = λ on now told. old;
      leaves = λ now lives told. old;
      aborts = λ e now moment cause lives told. old;
      refused = λ number hit told. old;
      hopless = λ now over told. old;
    })

event_near : (last : Moment) (c : View) (ev : edge.Event) → IsSound c → ((now : Moment) → edge.moment_of ev ≡ Some now → now.0 ≤ last.0) → IsNear last c → IsNear last (edge.after_event c ev)
event_near last c ev sound told near = record {
  since = since_by last c near.since ev told;
  unheard = unheard_by last c near.unheard ev told;
  timers = λ kind end set. by_moment kind end set (edge.moment_of ev) refl;
  asked = asked_by last c near.asked ev told;
  drawn = drawn_by last c near.drawn ev told;
}
  where
    by_moment : (kind : TimerKind) (end : Moment) → (let d = edge.after_event c ev in timer_of d.timers kind) ≡ Some end → (o : Option Moment) → edge.moment_of ev ≡ o → end.0 ≤ last.0 + 60000
    by_moment kind end set None is = near.timers kind end (never c ev end kind is set)
    by_moment kind end set (Some now) is = elim (soon c ev now end kind sound is set) [
      | inl was ↦ near.timers kind end was
      | inr later ↦ omega (arith, later, told now is)
    ]

none_near : (last : Moment) (kind : TimerKind) (end : Moment) → timer_of (record { retransmission = None; probe = None; delayed_ack = None; overriding = None }) kind ≡ Some end → end.0 ≤ last.0 + 60000
none_near last Retransmission end set = cc
none_near last Probe end set = cc
none_near last DelayedAck end set = cc
none_near last Override end set = cc

-- The table.

same_moment : (a now last : Moment) → a.0 ≤ last.0 → ◌≡◌ {A = Option Moment} (Some a) (Some now) → now.0 ≤ last.0
same_moment a now last before is = let same : a ≡ now = cc in subst (λ (m : Moment). m.0 ≤ last.0) same before

-- an event of the table tells its connections no later moment
told_by : (h : SocketsView) (last : Moment) → h.kept.0 ≤ last.0 → (x : Entry) (e : Event) (ev : edge.Event) → IsEventOf h x e ev → IsUpTo last e → (now : Moment) → edge.moment_of ev ≡ Some now → now.0 ≤ last.0
told_by h last kept x _ _ (sends_it id octets named) up now is = same_moment h.kept now last kept is
told_by h last kept x _ _ (reads_it id len named) up now is = cc
told_by h last kept x _ _ (shuts_it id named) up now is = same_moment h.kept now last kept is
told_by h last kept x _ _ (delays_it id on named) up now is = same_moment h.kept now last kept is
told_by h last kept x _ _ (asks_it id every named) up now is = same_moment h.kept now last kept is
told_by h last kept x _ _ (closes_it how id named so) up now is = same_moment h.kept now last kept is
told_by h last kept x _ _ (resets_it how id named so) up now is = same_moment h.kept now last kept is
told_by h last kept x _ _ (aborts_it how id waits) up now is = same_moment h.kept now last kept is
told_by h last kept x _ _ (ticks_it moment) up now is = same_moment (later_moment h moment) now last (later_up_to h moment last kept up) is
told_by h last kept x _ _ (comes_to_it moment isn source s between) up now is = same_moment (later_moment h moment) now last (later_up_to h moment last kept up) is
told_by h last kept x _ _ (goes_out goes moment found) up now is = same_moment (later_moment h moment) now last (later_up_to h moment last kept up) is
told_by h last kept x _ _ (tells_it local peer number between) up now is = cc
told_by h last kept x _ _ (loses_it lost moment hopless) up now is = same_moment (later_moment h moment) now last (later_up_to h moment last kept up) is

step_near : (h : SocketsView) (e : Event) (last : Moment) → h.kept.0 ≤ last.0 → IsUpTo last e → (x y : Entry) → IsStepOf h e x (Some y) → IsSoundRole x.role → IsNearIn last x.role → IsNearIn last y.role
step_near h e last kept up x _ stays sound near = near
step_near h e last kept up _ _ (moves ev id c l meets is) sound near = event_near last c ev sound.sound (told_by h last kept _ e ev meets up) near
step_near h _ last kept up _ _ (opens now isn named peer routed id buffers bound local names) sound near = record { since = omega arith; unheard = from_then last (later_moment h now) (later_up_to h now last kept up); timers = none_near last; asked = omega arith; drawn = omega arith }
step_near h _ last kept up _ _ (accepted named id c l next) sound near = near
step_near h e last kept up _ _ _ sound near = tt

joining_near : (h : SocketsView) (e : Event) (last : Moment) → h.kept.0 ≤ last.0 → IsUpTo last e → (x : Entry) → IsJoining h e x → IsNearIn last x.role
joining_near h _ last kept up _ (made buffers) = tt
joining_near h _ last kept up _ made_datagrams = tt
joining_near h _ last kept up _ (called now isn source s listener call) = record { since = omega arith; unheard = from_then last (later_moment h now) (later_up_to h now last kept up); timers = none_near last; asked = omega arith; drawn = omega arith }

moment_up_to : (h : SocketsView) (e : Event) (last : Moment) → h.kept.0 ≤ last.0 → IsUpTo last e → (let w = after_event h e in w.kept.0 ≤ last.0)
moment_up_to h e last before up = by_step (after_event h e) (stepped h e)
  where
    by_step : (w : SocketsView) → IsStepped h e w → w.kept.0 ≤ last.0
    by_step w (followed f) = f.up_to last before up
    by_step _ (joined j) = before

pub each_near : (h : SocketsView) (e : Event) (last : Moment) → IsSoundTable h → IsUpTo last e → AreNear last h → AreNear last (after_event h e)
each_near h e last sound up near = record { kept = moment_up_to h e last near.kept up; each = by_step (after_event h e) (stepped h e) }
  where
    by_step : (w : SocketsView) → IsStepped h e w → AllByRecursion (λ (x : Entry). IsNearIn last x.role) w.entries
    by_step w (followed f) = all_left (IsStepOf h e) (λ (x : Entry). IsSoundRole x.role) (λ (x : Entry). IsNearIn last x.role) (step_near h e last near.kept up) h.entries w.entries f.entries sound.entries near.each
    by_step _ (joined {x = x} j) = all_joined (λ (y : Entry). IsNearIn last y.role) h.entries x near.each (joining_near h e last near.kept up x j)

pub fresh_near : (addr : Addr) (manner : Manner) (sizes : Sizes) (last : Moment) → AreNear last (new_sockets addr manner sizes)
fresh_near addr manner sizes last = record { kept = omega arith; each = tt }

pub led_near : (h : SocketsView) (events : List Event) (last : Moment) → AreSound h events → AllByRecursion (IsUpTo last) events → AreNear last h → AreNear last (after_events h events)
led_near h [] last sound up near = near
led_near h (e ∷ rest) last sound up near = led_near (after_event h e) rest last sound.2 up.1 (each_near h e last sound.0 up.0 near)

-- a later moment does as well
further : (last new : Moment) → last.0 ≤ new.0 → (entries : List Entry) → AllByRecursion (λ (x : Entry). IsNearIn last x.role) entries → AllByRecursion (λ (x : Entry). IsNearIn new x.role) entries
further last new later [] all = tt
further last new later (x ∷ xs) all = (by_role x.role all.0, further last new later xs all.1)
  where
    by_role : (r : Role) → IsNearIn last r → IsNearIn new r
    by_role (Connected c l) near = record { since = omega (arith, near.since, later); unheard = λ since is. omega (arith, near.unheard since is, later); timers = λ kind end set. omega (arith, near.timers kind end set, later); asked = omega (arith, near.asked, later); drawn = omega (arith, near.drawn, later) }
    by_role (Idle buffers bound) near = tt
    by_role (Listener local backlog) near = tt
    by_role (Datagrams bound queues) near = tt

-- where an event names no moment that the table doesn't keep then
pub kept_near : (h : SocketsView) (e : Event) → IsSoundTable h → (let after = after_event h e in IsUpTo after.kept e → AreNear h.kept h → AreNear after.kept after)
kept_near h e sound up near =
    let new : Moment = (let after = after_event h e in after.kept) in
    let later : h.kept.0 ≤ new.0 = moment_kept h e in
    each_near h e new sound up (record { kept = later; each = further h.kept new later h.entries near.each })

-- Deadlines.

-- none but at a number at the most
abbrev IsWithin : ℕ → Option Moment → Type 0
IsWithin most o = (m : Moment) → o ≡ Some m → m.0 ≤ most

sooner_within : (most : ℕ) (a b : Option Moment) → IsWithin most a → IsWithin most b → IsWithin most (sooner a b)
sooner_within most None b first second = second
sooner_within most (Some a) None first second = first
sooner_within most (Some a) (Some b) first second = by_test (nat_le a.0 b.0) (λ yes. rw yes first) (λ no. rw no second)

ends : (last since : Moment) (milliseconds most : ℕ) → since.0 ≤ last.0 → milliseconds ≤ most → IsWithin (last.0 + most) (Some (after since milliseconds))
ends last since milliseconds most began few m is =
    let same : after since milliseconds ≡ m = cc in
    let at : (let end = after since milliseconds in end.0) ≡ m.0 = ap (λ (end : Moment). end.0) same in
    omega (arith, at, began, few)

wait_within : (last : Moment) (t : State) (released : Bool) (since : Moment) → since.0 ≤ last.0 → IsWithin (last.0 + 240000) (end_of_wait t released since)
wait_within last TimeWait released since began m is = ends last since 240000 240000 began (omega arith) m is
wait_within last FinWait2 true since began m is = ends last since 60000 240000 began (omega arith) m is
wait_within last FinWait2 false since began m is = cc
wait_within last _ released since began m is = cc

-- a silent peer is asked after a day at most, and not where its caller didn't want that
asked_within : (most : ℕ) (last : Moment) (c : View) → c.alive.since.0 ≤ last.0 → (c.alive.every ≡ None) ⊎ (86400000 ≤ most) → IsWithin (last.0 + most) (alive_at c)
asked_within most last c began why = either (Option Moment) (IsWithin (last.0 + most)) (rests c) (end_of_silence c.alive.every c.alive) None (λ waits. by_every c.alive.every refl) (λ busy m is. cc)
  where
    by_every : (every : Option ℕ) → c.alive.every ≡ every → IsWithin (last.0 + most) (end_of_silence every c.alive)
    by_every None is = λ m none. cc
    by_every (Some every) is = elim why [
      | inl unasked ↦ let bad : None ≡ Some every = sym unasked ∙ is in cc
      | inr long ↦ ends last c.alive.since (wait_of c.alive every) most began (by_count (c.alive.unanswered == 0) long)
    ]
      where
        by_count : (first : Bool) → 86400000 ≤ most → (if first then min 86400000 every else min 60000 c.alive.wait) ≤ most
        by_count true long = omega (arith, long)
        by_count false long = omega (arith, long)

-- a probe of the tail comes no later than the retransmission timer
tail_within : (top : ℕ) (c : View) (deadline : Option Moment) → IsWithin top deadline → IsWithin top (tail_by c deadline)
tail_within top c None within = λ m is. cc
tail_within top c (Some deadline) within =
    let sooner_end : Moment = record { 0 = deadline.0 - (c.resend.timeout.rto - tail_wait c.resend.timeout) } in
    either (Option Moment) (IsWithin top) (awaits_tail c) (Some sooner_end) None
    (λ on m is. let same : sooner_end ≡ m = cc in let at : sooner_end.0 ≡ m.0 = ap (λ (end : Moment). end.0) same in let few = within deadline refl in omega (arith, at, few)) (λ off m is. cc)

-- what is asked for of a role: that its connection's caller wanted no peer asked, or time enough for that
abbrev May : ℕ → Role → Type 0
May most role = (AsksNone role) ⊎ (86400000 ≤ most)

deadline_within : (most : ℕ) (last : Moment) (r : Role) → 240000 ≤ most → May most r → IsNearIn last r → IsWithin (last.0 + most) (deadline_of r)
deadline_within most last (Connected c l) enough may near =
    let timer : (kind : TimerKind) → IsWithin (last.0 + most) (timer_of c.timers kind) = λ kind m set. omega (arith, near.timers kind m set, enough) in
    let top : ℕ = last.0 + most in
    sooner_within top (sooner (next_of c.timers) (ends_at c)) (sooner (alive_at c) (tail_at c))
    (sooner_within top (next_of c.timers) (ends_at c)
    (sooner_within top (sooner c.timers.retransmission c.timers.probe) (sooner c.timers.delayed_ack c.timers.overriding)
    (sooner_within top c.timers.retransmission c.timers.probe (timer Retransmission) (timer Probe))
    (sooner_within top c.timers.delayed_ack c.timers.overriding (timer DelayedAck) (timer Override)))
    (λ m is. omega (arith, wait_within last c.state c.released c.since near.since m is, enough)))
    (sooner_within top (alive_at c) (tail_at c) (asked_within most last c near.asked may) (tail_within top c c.timers.retransmission (timer Retransmission)))
deadline_within most last (Idle buffers bound) enough may near = λ m is. cc
deadline_within most last (Listener local backlog) enough may near = λ m is. cc
deadline_within most last (Datagrams bound queues) enough may near = λ m is. cc

least_within : (most : ℕ) (last : Moment) (entries : List Entry) (o : Option Moment) → 240000 ≤ most → AllByRecursion (λ (x : Entry). May most x.role) entries → IsWithin (last.0 + most) o
    → AllByRecursion (λ (x : Entry). IsNearIn last x.role) entries → IsWithin (last.0 + most) (fold (λ least e. sooner least (deadline_of e.role)) o entries)
least_within most last [] o enough may within all = within
least_within most last (x ∷ xs) o enough may within all =
    least_within most last xs (sooner o (deadline_of x.role)) enough may.1 (sooner_within (last.0 + most) o (deadline_of x.role) within (deadline_within most last x.role enough may.0 all.0)) all.1

every_may : (most : ℕ) (P : Entry → Type 0) (entries : List Entry) → ((x : Entry) → P x → May most x.role) → AllByRecursion P entries → AllByRecursion (λ (x : Entry). May most x.role) entries
every_may most P [] may all = tt
every_may most P (x ∷ xs) may all = (may x all.0, every_may most P xs may all.1)

pub deadline_near : (h : SocketsView) (last moment : Moment) → AreNear last h → NoneAsks h → least_deadline h ≡ Some moment → moment.0 ≤ last.0 + 240000
deadline_near h last moment near none is = least_within 240000 last h.entries None (omega arith) (every_may 240000 (λ (x : Entry). AsksNone x.role) h.entries (λ x asks. inl asks) none) (λ m none. cc) near.each moment is

pub deadline_in_a_day : (h : SocketsView) (last moment : Moment) → AreNear last h → least_deadline h ≡ Some moment → moment.0 ≤ last.0 + 86400000
deadline_in_a_day h last moment near is =
    least_within 86400000 last h.entries None (omega arith) (every_may 86400000 (λ (x : Entry). IsNearIn last x.role) h.entries (λ x asks. inr (omega arith)) near.each) (λ m none. cc) near.each moment is
