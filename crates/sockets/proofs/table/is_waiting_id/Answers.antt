-- There is a place exactly where an entry passes.
use Rattle.std.proofs.Common.{◌∙◌}
use Rattle.sockets.specs.Entries.{is_waiting_as}
use Rattle.sockets.proofs.Ascending.{is_some-position}
use Rattle.sockets.proofs.table.is_waiting_id.Goals as goal

pub returns : goal.returns
returns c = c.is_some.ensures ∙ is_some-position (is_waiting_as c.args.listener c.args.id) c.args.entries.now _ c.waiting_as.ensures
