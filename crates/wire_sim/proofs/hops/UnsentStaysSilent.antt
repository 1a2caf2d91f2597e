-- An opening connection of which nothing has gone out goes on opening, or is CLOSED, until something does.
use Rattle.std.proofs.Common.{◌≡◌, ◌≢◌, ◌⊎◌, inl, inr, ◌==◌, ◌||◌, ◌&&◌, not, max, Bool, true, false, ℕ, length, arith, refl, sym, ◌∙◌, ap}
use Rattle.clock.specs.declared.moment.Moment.{Moment}
use Rattle.tcp_segment.specs.Segment.{Segment}
use Rattle.tcp_halves.specs.Halves.{Sending}
use Rattle.tcp_halves.specs.Stream.{after_end, is_new_ack}
use Rattle.tcp_halves.specs.Windows.{window_in, after_window_update, updates_window}
use Rattle.tcp_halves.proofs.Choices.{either, and_left, and_right}
use Rattle.tcp_state.specs.declared.state.State.{State}
use Rattle.tcp_state.specs.declared.state.State.TheVariants.{SynSent, SynReceived}
use Rattle.tcp_state.specs.View.{View, IsSound, is_opening, is_closed}
use Rattle.tcp_state.specs.Arrival.{after_ack, after_heard, after_text, after_window, beyond_end, counts_fin, is_receiving}
use Rattle.tcp_state.specs.Calls.{beyond_shutdown}
use Rattle.tcp_state.specs.Edges as edge
use Rattle.tcp_state.proofs.Clocked.{ticks_keep}
use Rattle.tcp_state.proofs.Events.{by_event}
use Rattle.tcp_state.proofs.Segments.{by_ack, by_fin, by_hearing}
use Rattle.sockets.proofs.KeptEnds.{keeps-event}
use Rattle.stream_law.proofs.ConnectionHears.{bounds_of}

-- it opens, and its SYN has not gone out
abbrev pub IsUnsent : View → Type 0
IsUnsent c = (is_opening c.state ≡ true) × (c.sending.nxt ≡ c.sending.una)

-- so it is, or it is CLOSED
abbrev pub IsSilent : View → Type 0
IsSilent c = IsUnsent c ⊎ (is_closed c.state ≡ true)

-- nothing of it is acknowledged
none-new : (c : View) (ack : ℕ) → IsSound c → IsUnsent c → is_new_ack c.sending ack ≡ true → ⊥
none-new c ack sound u new = let within = bounds_of c.sending ack new in omega (arith, within.0, within.1, u.1, sound.una)

-- A segment.

-- what opens receives nothing
opening-deaf : (t : State) → is_opening t ≡ true → is_receiving t ≡ false
opening-deaf SynSent opens = refl
opening-deaf SynReceived opens = refl
opening-deaf _ opens = cc

window-updated : (t : Sending) (number ack window : ℕ) → t.nxt ≡ t.una → (let u = after_window_update t number ack window in u.nxt ≡ u.una)
window-updated t number ack window is =
    either Sending (λ (u : Sending). u.nxt ≡ u.una) (updates_window t number ack) (record t { window = window; max_window = max t.max_window window; wl1 = number; wl2 = ack }) t (λ updates. is) (λ stays. is)

heard-silent : (c : View) (s : Segment) → IsSound c → IsUnsent c → IsSilent (after_heard c s)
heard-silent c s sound u =
    by_hearing IsSilent c s (inr refl)
    (record {
      dropped = inl u;
      drawn = inl u;
      reset = λ acts. inr refl;
      crossed = λ waits. inl (refl, u.1);
      opened = λ waits right. absurd (none-new c s.acknowledgement sound u (and_right (s.flags.syn && s.flags.ack) _ right));
      acknowledged = λ taken. inl acked;
      read = λ reads. inl (by_fin IsUnsent (after_text told s) s counted texted texted);
    })
  where
    told : View
    told = after_window (after_ack c s.acknowledgement) s

    acked : IsUnsent (after_ack c s.acknowledgement)
    acked = by_ack IsUnsent c s.acknowledgement (record {
      old = u;
      beyond = u;
      opens = λ received new. absurd (none-new c s.acknowledgement sound u new);
      octets = λ new. absurd (none-new c s.acknowledgement sound u new);
      fin = λ new fin. absurd (none-new c s.acknowledgement sound u new);
    })

    windowed : IsUnsent told
    windowed = let w = after_ack c s.acknowledgement in (acked.0, window-updated w.sending s.number s.acknowledgement (window_in w.sending s.window) acked.1)

    texted : IsUnsent (after_text told s)
    texted = either View IsUnsent ((length s.octets == 0) || not (is_receiving told.state)) told _ (λ none. windowed) (λ some. windowed)

    counted : counts_fin (after_text told s) s ≡ true → IsUnsent (record (after_text told s) { state = beyond_end (after_text told s).state; receiving = after_end (after_text told s).receiving; owes_ack = true })
    counted counts =
        let w = after_text told s in
        let hears : is_receiving w.state ≡ true = and_right s.flags.fin (is_receiving w.state) (and_left (s.flags.fin && is_receiving w.state) _ counts) in
        let bad : true ≡ false = sym hears ∙ opening-deaf w.state texted.0 in
        cc

-- Any event but the going out of something.

shut-opening : (t : State) → is_opening t ≡ true → is_opening (beyond_shutdown t) ≡ true
shut-opening SynSent opens = refl
shut-opening SynReceived opens = refl
shut-opening _ opens = cc

-- an event by which nothing goes out leaves it silent
abbrev LeavesSilent : edge.Event → View → Type 0
LeavesSilent e w = ((now : Moment) → e ≢ edge.Emits now) → IsSilent w

unsent-on : (c : View) → IsSound c → IsUnsent c → (e : edge.Event) → LeavesSilent e (edge.after_event c e)
unsent-on c sound u =
    by_event LeavesSilent c
    (record {
      same = λ e other. inl u;
      asks = λ e alive other. inl u;
      silent = λ now other. inl u;
      heard = λ s now lives other. heard-silent c s sound u;
      over = λ now ends other. inr refl;
      given_up = λ now waits gives other. inr refl;
      acts = λ now other.
          let state = ap (λ (w : View). w.state) (ticks_keep c now) in
          let sending = ap (λ (w : View). w.sending) (ticks_keep c now) in
          inl (ap is_opening state ∙ u.0, ap (λ (t : Sending). t.nxt) sending ∙ (u.1 ∙ sym (ap (λ (t : Sending). t.una) sending)));
      emits = λ now other. absurd (other now refl);
      sends = λ octets taken now open_ other. inl u;
      reads = λ len other. inl u;
      shuts = λ now other. inl (shut-opening c.state u.0, u.1);
      delays = λ on now other. inl u;
      leaves = λ now lives other. inl (shut-opening c.state u.0, u.1);
      aborts = λ e now moment cause lives other. inr refl;
      refused = λ number hit other. inr refl;
      hopless = λ now over other. inr refl;
    })

pub silent-on : (c : View) (e : edge.Event) → IsSound c → ((now : Moment) → e ≢ edge.Emits now) → IsSilent c → IsSilent (edge.after_event c e)
silent-on c e sound other (inl u) = unsent-on c sound u e other
silent-on c e sound other (inr closed) = by_state (is_closed (edge.after_event c e).state) refl
  where
    by_state : (b : Bool) → is_closed (edge.after_event c e).state ≡ b → IsSilent (edge.after_event c e)
    by_state true is = inr is
    by_state false is =
        let kept = keeps-event c e in
        let bad : true ≡ false = sym closed ∙ kept.live is in
        cc
