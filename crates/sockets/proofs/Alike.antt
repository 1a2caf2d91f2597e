-- What of a connection its timers, the clock and the going out of a segment leave as it was: its ends, its state, who opened it, whether its caller left it, and whether it owes a reset.
use Rattle.std.proofs.Common.{◌≡◌, if◌then◌else◌, Bool, true, false, inl, inr, refl, sym, subst}
use Rattle.tcp_segment.specs.Segment.{Segment}
use Rattle.clock.specs.declared.moment.Moment.{Moment}
use Rattle.tcp_state.specs.declared.emission.Due.{Due}
use Rattle.tcp_state.specs.declared.emission.Due.TheVariants.{Rst, Syn, Text, Probe, Ack, KeepAlive}
use Rattle.tcp_state.specs.declared.emission.Stretch.{Stretch}
use Rattle.tcp_state.specs.View.{View, is_at_end}
use Rattle.tcp_state.specs.Timing.{gives_up, after_tick}
use Rattle.tcp_state.specs.Arrival.{before, timed_by}
use Rattle.tcp_state.specs.Due.{after_emitted}
use Rattle.tcp_state.proofs.Clocked.{expiries_keep, emission}

pub record IsAlike (v w : View) : Type 0 where
  pub local : w.local ≡ v.local
  pub peer : w.peer ≡ v.peer
  pub state : w.state ≡ v.state
  pub passive : w.passive ≡ v.passive
  pub released : w.released ≡ v.released
  pub owes : w.owes_reset ≡ v.owes_reset

pub alike-same : (v : View) → IsAlike v v
alike-same v = record { local = refl; peer = refl; state = refl; passive = refl; released = refl; owes = refl }

alike-either : (v : View) (test : Bool) (w x : View) → IsAlike v w → IsAlike v x → IsAlike v (if test then w else x)
alike-either v true w x a b = a
alike-either v false w x a b = b

-- the clock takes note of a segment
pub alike-timed : (v : View) (s : Segment) (w : View) (now : Moment) → IsAlike w (timed_by (before v s) w now)
alike-timed v s w now = record { local = refl; peer = refl; state = refl; passive = refl; released = refl; owes = refl }

-- a tick that ends nothing
pub alike-tick : (v : View) (now : Moment) → is_at_end v now ≡ false → gives_up v now ≡ false → IsAlike v (after_tick v now)
alike-tick v now waits lives =
    rw (waits, lives) (subst (λ (w : View). IsAlike v w) (sym (expiries_keep v now)) (record { local = refl; peer = refl; state = refl; passive = refl; released = refl; owes = refl }))

-- a segment goes out, but the reset of an abort
alike-emitted : (v : View) (due : Due) (now : Moment) → (due ≡ Rst → ⊥) → IsAlike v (after_emitted v due now)
alike-emitted v due now other = elim (emission v due now) [
  | inl reset ↦ absurd (other reset)
  | inr out ↦ subst (λ (w : View). IsAlike v w) (sym out) (record { local = refl; peer = refl; state = refl; passive = refl; released = refl; owes = refl })
]

pub alike-syn : (v : View) (now : Moment) → IsAlike v (after_emitted v Syn now)
alike-syn v now = alike-emitted v Syn now (λ e. cc)

pub alike-text : (v : View) (stretch : Stretch) (now : Moment) → IsAlike v (after_emitted v (Text stretch) now)
alike-text v stretch now = alike-emitted v (Text stretch) now (λ e. cc)

pub alike-probe : (v : View) (now : Moment) → IsAlike v (after_emitted v Probe now)
alike-probe v now = alike-emitted v Probe now (λ e. cc)

pub alike-ack : (v : View) (now : Moment) → IsAlike v (after_emitted v Ack now)
alike-ack v now = alike-emitted v Ack now (λ e. cc)

pub alike-asks : (v : View) (now : Moment) → IsAlike v (after_emitted v KeepAlive now)
alike-asks v now = alike-emitted v KeepAlive now (λ e. cc)
