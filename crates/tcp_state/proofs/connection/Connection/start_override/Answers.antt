use Rattle.std.proofs.Common.{◌≡◌, ℕ, not, Bool, true, false, if◌then◌else◌, Option, Some, None, is_some, refl, sym, ◌∙◌, ap}
use Rattle.clock.specs.declared.moment.Moment.{Moment}
use Rattle.tcp_state.specs.View.{View}
use Rattle.tcp_state.specs.Timing.{awaits_more, running, override_timer}
use Rattle.tcp_state.specs.declared.timing.TheConstants.{OVERRIDE_WAIT}
use Rattle.tcp_state.proofs.connection.Connection.start_override.Goals as goal
use Rattle.tcp_state.proofs.connection.Connection.start_override.Goals.{else-is_none-via-then-is_none+else-awaits_more, else-is_none-via-else-is_none}

-- it runs already
runs_on : (waits : Bool) (o : Option Moment) (now : Moment) (milliseconds : ℕ) → is_some o ≡ true → (if waits then running o now milliseconds else o) ≡ o
runs_on true (Some deadline) now milliseconds runs = refl
runs_on true None now milliseconds runs = cc
runs_on false o now milliseconds runs = refl

-- or nothing waits for it
waits_not : (waits : Bool) (o : Option Moment) (now : Moment) (milliseconds : ℕ) → waits ≡ false → (if waits then running o now milliseconds else o) ≡ o
waits_not true o now milliseconds e = cc
waits_not false o now milliseconds e = refl

stays : (v : View) (now : Moment) → override_timer v now ≡ v.timers.overriding → v ≡ (let w : View = record v { timers = record v.timers { overriding = override_timer v now } } in w)
stays v now is = ap (λ t. let w : View = record v { timers = record v.timers { overriding = t } } in w) (sym is)

pub returns-else-is_none : goal.returns-else-is_none
returns-else-is_none c = stays c.args.self.now c.args.now (elim c.else-is_none.branch [
  | else-is_none-via-then-is_none+else-awaits_more w ↦ waits_not (awaits_more c.args.self.now) c.args.self.now.timers.overriding c.args.now OVERRIDE_WAIT (sym w.awaits_more.ensures ∙ w.if-awaits_more.false)
  | else-is_none-via-else-is_none w ↦ runs_on (awaits_more c.args.self.now) c.args.self.now.timers.overriding c.args.now OVERRIDE_WAIT (ap (λ (v : View). is_some v.timers.overriding) (sym c.self.view_is) ∙ c.is_none.ensures ∙ ap not w.if-is_none.false)
])
