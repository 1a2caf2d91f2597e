-- The tick is that of the host that the handle holds, and is counted beside it.
use Rattle.std.proofs.Common.{ap}
use Rattle.host.specs.Ticks.{after_tick}
use Rattle.hostc.specs.declared.counted.Counted.{Counted}
use Rattle.hostc.specs.Types.{moment_of}
use Rattle.hostc.proofs.Left.{always_left, tick_counted}
use Rattle.hostc.proofs.link.host_tick.Goals as goal

pub returns-clause-after : goal.returns-clause-after
returns-clause-after c =
    always_left c.args.handle.now.host c.put.new.self.host c.in-Some.kept.value.host c.deref_mut.result.now.host c.tick.new.self.host (λ h. after_tick h (moment_of c.args.now))
    c.in-Some.ensures.held (ap (λ (k : Counted). k.host) c.deref_mut.ensures.value) c.put.ensures.host c.tick.ensures.after

pub returns-clause-counters : goal.returns-clause-counters
returns-clause-counters c =
    tick_counted c.args.handle.now.host c.args.handle.now.counters c.put.new.self.counters c.in-Some.kept.value c.deref_mut.result.now c.tick.new.self.counters (moment_of c.args.now)
    c.in-Some.ensures.held c.in-Some.ensures.counted c.deref_mut.ensures.value c.put.ensures.counters c.tick.ensures.counted
