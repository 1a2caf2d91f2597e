use Rattle.capture.proofs.Opening.{opened_spelled}
use Rattle.capture.proofs.Spelled.{all_octets, record_spelled}
use Rattle.capture.proofs.laws.read_is_spelled.Goals as goal

pub returns-clause-header : goal.returns-clause-header
returns-clause-header c = λ octets u each is. opened_spelled octets u (all_octets octets each) is

pub returns-clause-one_record : goal.returns-clause-one_record
returns-clause-one_record c = λ header octets r each is. record_spelled header octets r (all_octets octets each) is
