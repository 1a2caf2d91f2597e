-- A fragment without a place is dropped, and a late copy changes nothing; any other is laid into the pool, in which it has been given a place on guard.
use Rattle.std.proofs.Common.{◌≡◌, Bool, true, false, is_some, refl, sym, ◌∙◌, ap, subst}
use Rattle.reassembly.specs.Places.{place_for}
use Rattle.reassembly.specs.Reassembly.{PoolView}
use Rattle.host.specs.Arrival.{IsLaid, MeetsFragment, fragment_outcome, is_late_copy, pool_for}
use Rattle.host.specs.HostView.{HostView, with_pool}
use Rattle.host.proofs.Parts.{copy-meets, laid-meets, unplaced-meets}
use Rattle.host.proofs.layers.Layers.gather.Goals as goal

pub returns-then-not-finds_place : goal.returns-then-not-finds_place
returns-then-not-finds_place c = unplaced-meets c.args.self.now c.args.now c.args.fragment.now _ c.args.self.now (sym c.finds_place.ensures ∙ c.if-not-finds_place.true) refl refl

pub returns-then-is_late_copy : goal.returns-then-is_late_copy
returns-then-is_late_copy c =
    copy-meets c.args.self.now c.args.now c.args.fragment.now _ c.args.self.now (sym c.finds_place.ensures ∙ c.if-not-finds_place.false) (sym c.is_late_copy.ensures ∙ c.if-is_late_copy.true) refl refl

pub returns : goal.returns
returns c =
    let h : HostView = record { interface = c.self.inside.interface; sockets = c.self.inside.sockets; pool = c.self.inside.pool; lately = c.self.inside.lately } in
    let found : is_some (place_for c.args.fragment.now (pool_for h.sockets.manner.guards c.args.fragment.now h.pool)) ≡ true =
    ap (λ (g : HostView). is_some (place_for c.args.fragment.now (pool_for g.sockets.manner.guards c.args.fragment.now g.pool))) c.self.view_is ∙ sym c.finds_place.ensures ∙ c.if-not-finds_place.false in
    let late : is_late_copy h c.args.now c.args.fragment.now ≡ false =
    ap (λ (g : HostView). is_late_copy g c.args.now c.args.fragment.now) c.self.view_is ∙ sym c.is_late_copy.ensures ∙ c.if-is_late_copy.false in
    let room : c.make_room.new.pool ≡ pool_for h.sockets.manner.guards c.args.fragment.now h.pool =
    c.make_room.ensures ∙ ap (λ (b : Bool). pool_for b c.args.fragment.now h.pool) c.is_guarded.ensures in
    subst
    (λ (g : HostView). MeetsFragment (fragment_outcome c.args.now c.args.fragment.now (pool_for g.sockets.manner.guards c.args.fragment.now g.pool)) (is_late_copy g c.args.now c.args.fragment.now) g c.args.now c.args.fragment.now c.lay.result c.lay.new.self)
    c.self.view_is
    (laid-meets h c.args.now c.args.fragment.now c.lay.result c.lay.new.self found late
    (subst (λ (p : PoolView). IsLaid (fragment_outcome c.args.now c.args.fragment.now p) (with_pool h p) c.args.now c.args.fragment.now c.lay.result c.lay.new.self) room c.lay.ensures))
