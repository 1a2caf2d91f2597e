-- Why the clock, and what goes out, leave the streams as they are.
use Rattle.std.proofs.Common.{◌≡◌, ℕ, ◌+◌, nat_le, Bool, true, false, [], Option, Some, None, refl, sym, ◌∙◌, ap, ap₂}
use Rattle.clock.specs.declared.moment.Moment.{Moment}
use Rattle.clock.specs.Moments.{has_come}
use Rattle.retransmit.specs.Deadlines.{next_of}
use Rattle.tcp_state.specs.declared.calls.Refusal.TheVariants.{ETIMEDOUT}
use Rattle.tcp_state.specs.declared.emission.Due.{Due}
use Rattle.tcp_state.specs.declared.emission.Due.TheVariants.{Rst, Syn, Text, Probe, Ack, KeepAlive}
use Rattle.tcp_halves.specs.Halves.{Sending, Receiving}
use Rattle.tcp_halves.specs.Windows.{has_grown, after_advertisement, syn_window, after_syn_advertisement}
use Rattle.tcp_halves.specs.Stream.{receive_window}
use Rattle.tcp_halves.proofs.Choices.{either, clash}
use Rattle.tcp_state.specs.View.{View, is_closed, is_syn_received, is_at_end, after_stop, after_reset}
use Rattle.tcp_state.specs.Alive.{after_silence}
use Rattle.tcp_state.specs.Timing.{clocked, gives_up, after_timers, after_tick}
use Rattle.tcp_state.specs.Due.{first_due, after_syn_ack_paid, after_syn_out, after_stretch, after_probe, after_emitted}
use Rattle.tcp_state.specs.Edges.{Ticks, Emits, after_first, after_event}
use Rattle.tcp_state.proofs.Clocked.{timers_keep, syn_out}
use Rattle.tcp_state.proofs.Edges.{emitted-state}
use Rattle.tcp_state.proofs.Emissions.{syn_sends, stretch_sends, probe_sends, numbers_receive, stretch_receives, probe_receives}

-- A tick.

pub by_tick : (P : View → Type 0) (v : View) (now : Moment) → P (after_stop v) → P (after_reset v (Some ETIMEDOUT)) → P (clocked false (after_timers (after_silence v now) now) now) → P (after_silence v now) → P (after_tick v now)
by_tick P v now over gives acts rests =
    let quiet = after_silence v now in
    either View P (is_at_end v now) (after_stop v) _ (λ ends. over)
    (λ waits. either View P (gives_up v now) (after_reset v (Some ETIMEDOUT)) _ (λ expired. gives)
    (λ goes_on. either View P (has_come (next_of v.timers) now) (clocked false (after_timers quiet now) now) quiet (λ comes. acts) (λ early. rests)))

pub ticks_leave : (v : View) (now : Moment) → is_closed (after_event v (Ticks now)).state ≡ false
    → ((after_event v (Ticks now)).sending ≡ v.sending) × ((after_event v (Ticks now)).receiving ≡ v.receiving) × ((after_event v (Ticks now)).state ≡ v.state)
ticks_leave v now =
    let kept = timers_keep (after_silence v now) now in
    by_tick (λ w. is_closed w.state ≡ false → (w.sending ≡ v.sending) × (w.receiving ≡ v.receiving) × (w.state ≡ v.state)) v now (λ alive. cc) (λ alive. cc)
    (λ alive. (ap (λ (w : View). w.sending) kept, ap (λ (w : View). w.receiving) kept, ap (λ (w : View). w.state) kept)) (λ alive. (refl, refl, refl))

pub ends_leave : (v : View) (now : Moment) → is_closed (after_event v (Ticks now)).state ≡ true → is_closed v.state ≡ false
    → ((after_event v (Ticks now)).receiving ≡ v.receiving) × ((after_event v (Ticks now)).sending.held ≡ [])
ends_leave v now =
    by_tick (λ w. is_closed w.state ≡ true → is_closed v.state ≡ false → (w.receiving ≡ v.receiving) × (w.sending.held ≡ [])) v now (λ closed lived. (refl, refl)) (λ closed lived. (refl, refl))
    (λ closed lived. clash (is_closed v.state) (sym (ap (λ (w : View). is_closed w.state) (timers_keep (after_silence v now) now)) ∙ closed) lived) (λ closed lived. clash (is_closed v.state) closed lived)

-- What goes out.

-- SND.NXT moves, with whether only a probe took the number before it, and the edge
abbrev Moves : View → View → Type 0
Moves v w = (w.sending ≡ record v.sending { nxt = w.sending.nxt; probed = w.sending.probed }) × (w.receiving ≡ record v.receiving { edge = w.receiving.edge })

sent_as : (s t : Sending) (n : ℕ) (b : Bool) → t ≡ record s { nxt = n; probed = b } → t ≡ record s { nxt = t.nxt; probed = t.probed }
sent_as s t n b is = is ∙ ap₂ (λ m c. record s { nxt = m; probed = c }) (sym (ap (λ (x : Sending). x.nxt) is)) (sym (ap (λ (x : Sending). x.probed) is))

advertised : (r : Receiving) → after_advertisement r ≡ record r { edge = (after_advertisement r).edge }
advertised r = either Receiving (λ t. t ≡ record r { edge = t.edge }) (has_grown r) _ r (λ grown. refl) (λ small. refl)

syn_advertised : (r : Receiving) → after_syn_advertisement r ≡ record r { edge = (after_syn_advertisement r).edge }
syn_advertised r = either Receiving (λ t. t ≡ record r { edge = t.edge }) (nat_le (receive_window r + 1460) (syn_window r)) _ r (λ grown. refl) (λ small. refl)

-- an acknowledgement goes with it, which advertises a window
paid : (v w : View) (n : ℕ) (b : Bool) (told : Receiving → Receiving) → ((r : Receiving) → told r ≡ record r { edge = (told r).edge }) → w.sending ≡ record v.sending { nxt = n; probed = b } → w.receiving ≡ v.receiving
    → Moves v (record w { receiving = told w.receiving; owes_ack = false; delays_ack = false })
paid v w n b told edge sends receives =
    (sent_as v.sending w.sending n b sends, ap told receives ∙ edge v.receiving ∙ ap (λ r. record v.receiving { edge = (told r).edge }) (sym receives))

moves : (v : View) (due : Due) (now : Moment) → Moves v (after_emitted v due now)
moves v Rst now = (refl, refl)
moves v Syn now =
    let sent = after_syn_out v now in
    let receives : sent.receiving ≡ v.receiving = syn_out v now (λ w. w.receiving ≡ v.receiving) (numbers_receive v 0 1 now) (numbers_receive v 0 1 now) in
    either View (Moves v) (is_syn_received v.state) (after_syn_ack_paid sent) sent (λ received. paid v sent _ _ after_syn_advertisement syn_advertised (syn_sends v now) receives)
    (λ first. (sent_as v.sending sent.sending _ _ (syn_sends v now), receives ∙ ap (λ (r : Receiving). record v.receiving { edge = r.edge }) (sym receives)))
moves v (Text stretch) now = paid v (after_stretch v stretch now) _ _ after_advertisement advertised (stretch_sends v stretch now) (stretch_receives v stretch now)
moves v Probe now = paid v (after_probe v) _ _ after_advertisement advertised (probe_sends v) (probe_receives v)
moves v Ack now = paid v v _ _ after_advertisement advertised refl refl
moves v KeepAlive now = (refl, advertised v.receiving)

moves_first : (v : View) (o : Option Due) (now : Moment) → Moves v (after_first v o now)
moves_first v None now = (refl, refl)
moves_first v (Some due) now = moves v due now

pub emissions_leave : (v : View) (now : Moment) → ((after_event v (Emits now)).sending ≡ record v.sending { nxt = (after_event v (Emits now)).sending.nxt; probed = (after_event v (Emits now)).sending.probed })
    × ((after_event v (Emits now)).receiving ≡ record v.receiving { edge = (after_event v (Emits now)).receiving.edge }) × ((after_event v (Emits now)).state ≡ v.state)
emissions_leave v now = let k = moves_first v (first_due v) now in (k.0, k.1, emitted-state v (first_due v) now)
