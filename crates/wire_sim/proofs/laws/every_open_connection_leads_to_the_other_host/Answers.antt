use Rattle.wire_sim.proofs.hops.OpenConnectionsLead.{connections-lead}
use Rattle.wire_sim.proofs.laws.every_open_connection_leads_to_the_other_host.Goals as goal

pub returns : goal.returns
returns c = connections-lead
