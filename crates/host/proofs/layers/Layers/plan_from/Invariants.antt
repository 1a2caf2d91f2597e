-- None of the entries that the loop has passed sends.
use Rattle.std.proofs.Common.{◌≡◌, ◌-◌, ◌≤◌, false, length}
use Rattle.std.specs.List.{AllWithin}
use Rattle.sockets.specs.declared.entry.Entry.{Entry}
use Rattle.sockets.specs.Entries.{sends}
use Rattle.host.specs.Emission.{goes_out_from}
use Rattle.host.proofs.layers.Layers.plan_from.Given as goal

abbrev pub invariant-loop-due : goal.invariant-loop-due
invariant-loop-due l = (l.fn.from ≤ l.from) × AllWithin (λ (e : Entry). sends (goes_out_from l.self l.now) e ≡ false) l.entries l.fn.from l.from

abbrev pub decreases-loop-due : goal.decreases-loop-due
decreases-loop-due l = length l.entries - l.from
