use Rattle.stream_law.proofs.PairingLaw.{pairing_lawful}
use Rattle.stream_law.proofs.laws.every_pairing_is_lawful.Goals as goal

pub returns : goal.returns
returns c = pairing_lawful
