-- One entry more is sound, and at the end all are.
use Rattle.std.proofs.Common.{◌≡◌, ℕ, length, arith, subst}
use Rattle.std.proofs.lemmas.List.Elements.{at_read, AllWithin-more, AllWithin-none, All-from_all_within, recursion_from_All}
use Rattle.std.specs.List.{AllWithin}
use Rattle.sockets.specs.declared.entry.Entry.{Entry}
use Rattle.sockets.specs.Sound.{IsSoundRole}
use Rattle.sockets.proofs.table.sound.Goals as goal

abbrev IsSoundEntry : Entry → Type 0
IsSoundEntry e = IsSoundRole e.role

pub loop-entry-init : goal.loop-entry-init
loop-entry-init c = AllWithin-none IsSoundEntry c.args.entries.now 0

pub loop-entry-preserved : goal.loop-entry-preserved
loop-entry-preserved c =
    AllWithin-more IsSoundEntry c.args.entries.now 0 c.loop-entry.entry-index c.loop-entry.invariant
    (at_read c.args.entries.now IsSoundEntry c.loop-entry.entry-index c.entry-item.result (omega arith) c.entry-item.is c.sound.ensures)

pub returns : goal.returns
returns c =
    let all : c.loop-entry.entry-index ≡ length c.args.entries.now = omega arith in
    recursion_from_All IsSoundEntry c.args.entries.now
    (All-from_all_within IsSoundEntry c.args.entries.now (subst (λ (n : ℕ). AllWithin IsSoundEntry c.args.entries.now 0 n) all c.loop-entry.invariant))
