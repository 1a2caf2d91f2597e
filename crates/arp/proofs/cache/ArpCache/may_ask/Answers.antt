use Rattle.std.proofs.Common.{rules}
use Rattle.arp.proofs.WaitsOver.{may_yes, may_no}
use Rattle.arp.proofs.cache.ArpCache.may_ask.Goals as goal

pub returns-then-live_count-lt-REQUESTS : goal.returns-then-live_count-lt-REQUESTS
returns-then-live_count-lt-REQUESTS c =
    may_yes c.args.now c.args.addr c.args.self.now.asked c.live_count.result c.was_asked_lately.result (search rules) (search rules) (search rules)

pub returns-else-live_count-lt-REQUESTS : goal.returns-else-live_count-lt-REQUESTS
returns-else-live_count-lt-REQUESTS c = may_no c.args.now c.args.addr c.args.self.now.asked c.live_count.result (search rules) (search rules)
