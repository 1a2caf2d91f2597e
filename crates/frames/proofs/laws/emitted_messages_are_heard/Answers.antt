use Rattle.frames.proofs.Carried.{messages_heard}
use Rattle.frames.proofs.laws.emitted_messages_are_heard.Goals as goal

pub returns : goal.returns
returns c = messages_heard
