use Rattle.reassembly.proofs.PartsAgree.{agree, made, enough}
use Rattle.reassembly.proofs.laws.parts_of_one_payload.Goals as goal

pub returns-clause-agree : goal.returns-clause-agree
returns-clause-agree c = agree

pub returns-clause-made : goal.returns-clause-made
returns-clause-made c = made

pub returns-clause-enough : goal.returns-clause-enough
returns-clause-enough c = enough
