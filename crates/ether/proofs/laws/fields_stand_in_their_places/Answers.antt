use Rattle.ether.proofs.Fields.{destination_first, source_second, kind_third, payload_last}
use Rattle.ether.proofs.laws.fields_stand_in_their_places.Goals as goal

pub returns-clause-destination : goal.returns-clause-destination
returns-clause-destination c = destination_first

pub returns-clause-source : goal.returns-clause-source
returns-clause-source c = source_second

pub returns-clause-kind : goal.returns-clause-kind
returns-clause-kind c = kind_third

pub returns-clause-payload : goal.returns-clause-payload
returns-clause-payload c = payload_last
