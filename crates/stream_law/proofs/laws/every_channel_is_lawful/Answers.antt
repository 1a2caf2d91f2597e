use Rattle.stream_law.proofs.ChannelLaw.{lawful}
use Rattle.stream_law.proofs.laws.every_channel_is_lawful.Goals as goal

pub returns : goal.returns
returns c = lawful
