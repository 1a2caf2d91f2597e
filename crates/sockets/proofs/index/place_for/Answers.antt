-- In front of one that stands before it all do, and behind one that does not none does.
use Rattle.std.proofs.Common.{rules}
use Rattle.std.proofs.lemmas.List.Sorted.{IsPartitionPoint-from_clause}
use Rattle.sockets.specs.declared.index.Filed.{Filed}
use Rattle.sockets.specs.Index.{is_before}
use Rattle.sockets.proofs.Filed.{parted_by_place}
use Rattle.sockets.proofs.Belongs.{belongs}
use Rattle.sockets.proofs.index.place_for.Goals as goal

pub returns-then-belongs_at-clause-place : goal.returns-then-belongs_at-clause-place
returns-then-belongs_at-clause-place c =
    belongs c.args.filed c.args.index.now c.requires c.args.near (c.belongs_at.ensures.within c.if-belongs_at.true) (c.belongs_at.ensures.before c.if-belongs_at.true) (c.belongs_at.ensures.here c.if-belongs_at.true)

pub returns-clause-place : goal.returns-clause-place
returns-clause-place c =
    IsPartitionPoint-from_clause (λ (y : Filed). is_before y c.args.filed) c.args.index.now c.partition_point.result c.partition_point.ensures.partitioned
    (parted_by_place c.args.filed c.args.index.now c.requires) (λ a r f' called. search rules)
