use Rattle.window_law.proofs.Acknowledged.{each_heard}
use Rattle.window_law.proofs.laws.each_acknowledgement_is_heard.Goals as goal

pub returns : goal.returns
returns c = each_heard
