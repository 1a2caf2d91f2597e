use Rattle.ipv4.proofs.Octets.{each_octet}
use Rattle.udp.proofs.Plain.{fault_err, fault_ok, fault_parsed}
use Rattle.udp.proofs.laws.read_plainly.Goals as goal

pub returns-clause-ok : goal.returns-clause-ok
returns-clause-ok c = fault_ok

pub returns-clause-err : goal.returns-clause-err
returns-clause-err c = λ src dst octets fault each. fault_err src dst octets fault (each_octet octets each)

pub returns-clause-parsed : goal.returns-clause-parsed
returns-clause-parsed c = λ src dst octets each. fault_parsed src dst octets (each_octet octets each)
