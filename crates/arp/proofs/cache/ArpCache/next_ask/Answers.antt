use Rattle.std.proofs.Common.{rules}
use Rattle.arp.specs.Waits.{next_ask}
use Rattle.arp.proofs.WaitsOver.{next_is}
use Rattle.arp.proofs.cache.ArpCache.next_ask.Goals as goal

pub returns : goal.returns
unfolding next_ask
returns c = record {
  value = search rules;
  next = next_is c.args.addr c.args.self.now.asked c.following.result (search rules) (search rules);
}
