use Rattle.std.proofs.Common.{rules, ◌∙◌, ap}
use Rattle.fixed_vec.proofs.Retained.{filter-from_retain}
use Rattle.arp.specs.Cache.{Cache, is_live_note, may_ask, after_ask}
use Rattle.arp.proofs.Asking.{noted, unnoted, answered}
use Rattle.arp.proofs.cache.ArpCache.ask.Goals as goal

pub returns-then-may_go_out-clause-cache : goal.returns-then-may_go_out-clause-cache
returns-then-may_go_out-clause-cache c =
    let kept = filter-from_retain _ (is_live_note c.args.now) _ (λ x b f' y called. search rules) _ _ c.retain.ensures.filtered in
    ap (λ notes. record { most = c.self.inside.pairs.most; pairs = c.self.inside.pairs.items; asked = notes })
    (noted c.args.now c.args.addr c.self.inside.asked.items c.retain.new.self.items c.push.new.self.items kept (search rules) c.push.ensures.items)
    ∙ ap (after_ask c.args.now c.args.addr) c.self.view_is

pub returns-then-may_go_out-clause-answer : goal.returns-then-may_go_out-clause-answer
returns-then-may_go_out-clause-answer c =
    let kept = filter-from_retain _ (is_live_note c.args.now) _ (λ x b f' y called. search rules) _ _ c.retain.ensures.filtered in
    answered c.args.now c.args.addr c.self.inside.asked.items c.retain.new.self.items _ kept (search rules)
    ∙ ap (λ (cache : Cache). may_ask c.args.now c.args.addr cache.asked) c.self.view_is

pub returns-else-may_go_out-clause-cache : goal.returns-else-may_go_out-clause-cache
returns-else-may_go_out-clause-cache c =
    let kept = filter-from_retain _ (is_live_note c.args.now) _ (λ x b f' y called. search rules) _ _ c.retain.ensures.filtered in
    ap (λ notes. record { most = c.self.inside.pairs.most; pairs = c.self.inside.pairs.items; asked = notes }) (unnoted c.args.now c.args.addr c.self.inside.asked.items c.retain.new.self.items kept (search rules))
    ∙ ap (after_ask c.args.now c.args.addr) c.self.view_is

pub returns-else-may_go_out-clause-answer : goal.returns-else-may_go_out-clause-answer
returns-else-may_go_out-clause-answer c =
    let kept = filter-from_retain _ (is_live_note c.args.now) _ (λ x b f' y called. search rules) _ _ c.retain.ensures.filtered in
    answered c.args.now c.args.addr c.self.inside.asked.items c.retain.new.self.items _ kept (search rules)
    ∙ ap (λ (cache : Cache). may_ask c.args.now c.args.addr cache.asked) c.self.view_is
