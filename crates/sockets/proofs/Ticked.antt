-- What a tick tells of a connection by what becomes of its place.
use Rattle.std.proofs.Common.{◌≡◌, ◌||◌, ◌&&◌, not, if◌then◌else◌, Bool, true, false, arith}
use Rattle.std.proofs.lemmas.Grind.{common_steps}
use Rattle.clock.specs.declared.moment.Moment.{Moment}
use Rattle.tcp_state.specs.declared.connection.Fate.TheVariants.{Stays, Removed}
use Rattle.tcp_state.specs.View.{View, is_syn_received, is_at_end}
use Rattle.tcp_state.specs.Timing.{gives_up, tick_fate}
use Rattle.sockets.specs.Entries.{is_kept}

-- kept is one that its caller has not left ..
pub tick-alone : (v : View) (now : Moment) → is_kept (tick_fate v now) ≡ true → (is_at_end v now || gives_up v now) ≡ true → v.released ≡ false
tick-alone v now kept ended = grind (arith, common_steps)

-- .. and where it is given up, it is not one that its listener opened and that is in SYN-RECEIVED
pub tick-passed : (v : View) (now : Moment) → is_kept (tick_fate v now) ≡ true → is_at_end v now ≡ false → gives_up v now ≡ true → v.passive ≡ true → is_syn_received v.state ≡ false
tick-passed v now kept waits given opened = grind (arith, common_steps)

-- taken out is one that is left, or in SYN-RECEIVED
pub tick-gone : (v : View) (now : Moment) → is_kept (tick_fate v now) ≡ false → (not v.released && not (is_syn_received v.state)) ≡ false
tick-gone v now gone = gone_by (is_at_end v now) (gives_up v now) v.released v.passive (is_syn_received v.state) gone
  where
    gone_by : (over gives left passive received : Bool) → is_kept (if over then (if left then Removed else Stays) else if gives then (if left || (passive && received) then Removed else Stays) else Stays) ≡ false → (not left && not received) ≡ false
    gone_by over gives left passive received e = grind (arith, common_steps)
