-- The place behind all that stand before it is where it is filed.
use Rattle.std.proofs.Common.{rules, ◌≡◌, List, Option, Some, ◌∙◌, ap}
use Rattle.std.proofs.lemmas.List.Sorted.{IsPartitionPoint-from_clause}
use Rattle.sockets.specs.declared.index.Filed.{Filed}
use Rattle.sockets.specs.Index.{is_before, inserted, with_filed}
use Rattle.sockets.proofs.Filed.{unfiled_there}
use Rattle.sockets.proofs.index.unfile.Goals as goal

-- what is filed is filed as this
filed_so : (l rest : List Filed) (o : Option Filed) (x : Filed) → o ≡ Some x → l ≡ with_filed o rest → l ≡ inserted x rest
filed_so l rest o x some is = is ∙ ap (λ (p : Option Filed). with_filed p rest) some

pub remove-requires : goal.remove-requires
remove-requires c =
    (unfiled_there c.in-Some.filed c.args.index.now.items c.requires.0 _ c.partition_point-place.result c.requires.1 (filed_so _ _ _ _ c.in-Some.is c.requires.2) c.deref.ensures.0 c.partition_point-place.ensures.bound
    (λ parted. IsPartitionPoint-from_clause (λ (y : Filed). is_before y c.in-Some.filed) _ _ c.partition_point-place.ensures.partitioned parted (λ a r f' called. search rules))).0

pub returns-clause-items : goal.returns-clause-items
returns-clause-items c = λ rest sorted is.
    c.remove.ensures.items
    ∙ (unfiled_there c.in-Some.filed c.args.index.now.items rest _ c.partition_point-place.result sorted (filed_so _ _ _ _ c.in-Some.is is) c.deref.ensures.0 c.partition_point-place.ensures.bound
    (λ parted. IsPartitionPoint-from_clause (λ (y : Filed). is_before y c.in-Some.filed) _ _ c.partition_point-place.ensures.partitioned parted (λ a r f' called. search rules))).1
