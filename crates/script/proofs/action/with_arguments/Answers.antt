use Rattle.std.proofs.Common.{sym}
use Rattle.std.proofs.lemmas.List.{length-map}
use Rattle.script.proofs.ActionLemmas.{too_many_say_nothing}
use Rattle.script.proofs.action.with_arguments.Goals as goal

pub returns-in_default : goal.returns-in_default
returns-in_default c = sym (too_many_say_nothing c.args.keyword _ (rw length-map c.in_default.len_at_least))
