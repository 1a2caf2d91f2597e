use Rattle.tcp_halves.proofs.HeardBare.{heard}
use Rattle.tcp_halves.proofs.laws.what_brings_nothing_is_heard.Goals as goal

pub returns : goal.returns
returns c = heard
