use Rattle.std.proofs.Common.{ap, ◌∙◌}
use Rattle.host.specs.ConfigView.{ConfigView}
use Rattle.wire_sim.proofs.hosts.config.Goals as goal

pub returns : goal.returns
returns c =
    let value = rw c.unwrap.ensures at c.new.ensures.value in
    record {
      mac = ap (λ (x : ConfigView). x.mac) value ∙ c.mac.ensures;
      addr = ap (λ (x : ConfigView). x.addr) value ∙ c.address.ensures;
      route = c.link.ensures.0;
      link = c.link.ensures.2;
      routes = ap (λ (x : ConfigView). x.routes) value ∙ c.link.ensures.1;
      manner = ap (λ (x : ConfigView). x.manner) value;
      sizes = ap (λ (x : ConfigView). x.sizes) value;
    }
