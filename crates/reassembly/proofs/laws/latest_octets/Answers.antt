use Rattle.reassembly.proofs.Together.{latest_octets}
use Rattle.reassembly.proofs.laws.latest_octets.Goals as goal

pub returns : goal.returns
returns c = latest_octets
