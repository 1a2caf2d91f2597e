use Rattle.std.proofs.Common.{rules, ℕ, ap, ◌∙◌}
use Rattle.fixed_vec.proofs.Retained.{filter-from_retain}
use Rattle.arp.specs.Cache.{Cache, is_live_pair, after_age}
use Rattle.arp.proofs.cache.ArpCache.age.Goals as goal

pub returns : goal.returns
returns c =
    ap (λ (most : ℕ). let cache : Cache = record { most = most; pairs = c.retain.new.self.items; asked = c.self.inside.asked.items } in cache) c.retain.ensures.most
    ∙ ap (λ pairs. record { most = c.self.inside.pairs.most; pairs = pairs; asked = c.self.inside.asked.items })
    (filter-from_retain _ (is_live_pair c.args.now) _ (λ x b f' y called. search rules) _ _ c.retain.ensures.filtered)
    ∙ ap (after_age c.args.now) c.self.view_is
