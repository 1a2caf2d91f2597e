use Rattle.reassembly.proofs.Together.{whole_is_payload, payload_is_whole}
use Rattle.reassembly.proofs.laws.whole_payload.Goals as goal

pub returns-clause-whole : goal.returns-clause-whole
returns-clause-whole c = whole_is_payload

pub returns-clause-known : goal.returns-clause-known
returns-clause-known c = payload_is_whole
