-- Why no connection stays in the table that is over.
use Rattle.std.proofs.Common.{◌≡◌, ◌&&◌, ◌||◌, Bool, true, false, if◌then◌else◌, Some, refl, ◌∙◌, ap, arith}
use Rattle.std.proofs.lemmas.Grind.{common_steps}
use Rattle.tcp_segment.specs.Segment.{Segment}
use Rattle.tcp_state.specs.declared.state.State.{State}
use Rattle.tcp_state.specs.declared.connection.Fate.TheVariants.{Stays, Removed, Rejected}
use Rattle.tcp_state.specs.View.{View, is_closed, is_syn_received, is_over, after_reset}
use Rattle.tcp_state.specs.Calls.{beyond_shutdown}
use Rattle.tcp_state.specs.Arrival.{is_lost, after_segment, after_heard, is_rejected, ends_opening, fate}
use Rattle.tcp_state.specs.Due.{first_due}
use Rattle.tcp_state.specs.Edges as edge
use Rattle.tcp_state.specs.declared.calls.Refusal.TheVariants.{ECONNREFUSED}
use Rattle.tcp_state.proofs.Causes.{or_left, or_right}
use Rattle.tcp_state.proofs.Clocked.{ticks_keep}
use Rattle.tcp_state.proofs.Events.{by_event}
use Rattle.sockets.specs.declared.entry.Entry.{Entry}
use Rattle.sockets.specs.Entries.{is_kept}
use Rattle.sockets.specs.SocketsView.{SocketsView}
use Rattle.sockets.specs.Sound.{is_over_in, NoneIsOver}
use Rattle.sockets.specs.Causes.{Event, after_event}
use Rattle.sockets.proofs.Ticked.{tick-alone}
use Rattle.sockets.proofs.Followed.{by_test, all_followed, all_joined}
use Rattle.sockets.proofs.Steps.{IsStepOf, stays, moves, accepted, IsJoining, made, IsStepped, followed, joined, stepped}

-- One connection.

shut_closed : (state : State) → is_closed (beyond_shutdown state) ≡ is_closed state
shut_closed state = grind (arith, common_steps)

-- what a kept fate of a segment tells of its tests
kept_tests : (ended lost over refuses ends : Bool) → ended ≡ false → is_kept (if ended || lost then Stays else if over then Removed else if refuses then Rejected else if ends then Removed else Stays) ≡ true → lost ≡ false → over ≡ false
kept_tests ended lost over refuses ends live kept plain = grind (arith, common_steps)

heard_left : (c : View) (s : Segment) → is_closed c.state ≡ false → is_kept (fate c s) ≡ true → is_over (after_heard c s) ≡ false
heard_left c s live kept =
    by_test (is_lost c s) (λ lost. rw lost)
    (λ plain. let over : is_over (after_segment c s) ≡ false = kept_tests (is_closed c.state) (is_lost c s) (is_over (after_segment c s)) (is_rejected c s) (ends_opening c s) live kept plain in rw plain over)

-- taken out where it is over
unless_over : (d : View) → is_kept (if is_over d then Removed else Stays) ≡ true → is_over d ≡ false
unless_over d kept = by_test (is_over d) (λ over. let gone : is_kept (if is_over d then Removed else Stays) ≡ false = rw over in cc) (λ left. left)

-- what its caller closed is taken out with its hop
unreleased : (released opening : Bool) → is_kept (if released || opening then Removed else Stays) ≡ true → released ≡ false
unreleased released opening kept = grind (arith, common_steps)

-- what an event leaves in the table is not over
event_left : (c : View) (e : edge.Event) → is_kept (edge.fate_by c e) ≡ true → is_over c ≡ false → is_over (edge.after_event c e) ≡ false
event_left c e kept left =
    by_event (λ e w. is_kept (edge.fate_by c e) ≡ true → is_over w ≡ false) c
    (record {
      same = λ e kept. left;
      asks = λ e alive kept. left;
      silent = λ now kept. left;
      heard = λ s now live kept. heard_left c s live kept;
      over = λ now ends kept. let alone : c.released ≡ false = tick-alone c now kept (or_left _ _ ends) in rw alone;
      given_up = λ now waits gives kept. let alone : c.released ≡ false = tick-alone c now kept (or_right _ _ gives) in rw alone;
      acts = λ now kept. ap is_over (ticks_keep c now) ∙ left;
      emits = λ now kept. unless_over (edge.after_first c (first_due c) now) kept;
      sends = λ octets taken now writes kept. left;
      reads = λ len kept. left;
      shuts = λ now kept. rw (shut_closed c.state) left;
      delays = λ on now kept. left;
      leaves = λ now live kept. rw (shut_closed c.state, live);
      aborts = λ e now moment cause live kept. refl;
      refused = λ number hit kept. unless_over (after_reset c (Some ECONNREFUSED)) (rw hit at kept);
      hopless = λ now over kept. let alone : c.released ≡ false = unreleased c.released (c.passive && is_syn_received c.state) (rw over at kept) in rw alone;
    }) e kept

-- The table.

step_left : (h : SocketsView) (e : Event) (x y : Entry) → IsStepOf h e x (Some y) → is_over_in x.role ≡ false → is_over_in y.role ≡ false
step_left h e x _ stays left = left
step_left h e _ _ (moves ev id c l meets kept) left = event_left c ev kept left
step_left h _ _ _ (accepted named id c l next) left = left
step_left h _ _ _ _ left = refl

joining_left : (h : SocketsView) (e : Event) (x : Entry) → IsJoining h e x → is_over_in x.role ≡ false
joining_left h _ _ (made buffers) = refl
joining_left h _ _ _ = refl

pub none_over : (h : SocketsView) (e : Event) → NoneIsOver h → NoneIsOver (after_event h e)
none_over h e all = by_step (after_event h e) (stepped h e)
  where
    by_step : (w : SocketsView) → IsStepped h e w → NoneIsOver w
    by_step w (followed f) = all_followed (IsStepOf h e) (λ x. is_over_in x.role ≡ false) (step_left h e) h.entries w.entries f.entries all
    by_step _ (joined {x = x} j) = all_joined (λ (y : Entry). is_over_in y.role ≡ false) h.entries x all (joining_left h e x j)
