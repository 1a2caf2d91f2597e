-- On guard the oldest gives way, where a place has room.
use Rattle.std.proofs.Common.{◌≡◌, ◌&&◌, Bool, true, false, is_some, sym, ◌∙◌, ap}
use Rattle.reassembly.specs.Places.{fits, place_for}
use Rattle.host.specs.HostView.{HostView}
use Rattle.host.proofs.Parts.{finds-place}
use Rattle.host.proofs.layers.Layers.finds_place.Goals as goal

pub returns-then-is_guarded : goal.returns-then-is_guarded
returns-then-is_guarded c =
    let h : HostView = c.args.self.now in
    let on : h.sockets.manner.guards ≡ true = sym (ap (λ (g : HostView). g.sockets.manner.guards) c.self.view_is) ∙ sym c.is_guarded.ensures ∙ c.if-is_guarded.true in
    let found : false ≡ is_some (place_for c.args.fragment.now h.pool) =
    sym c.if-has_place.false ∙ c.has_place.ensures ∙ ap (λ (g : HostView). is_some (place_for c.args.fragment.now g.pool)) c.self.view_is in
    let roomy : c.has_room_for.result ≡ fits h.pool c.args.fragment.now = c.has_room_for.ensures ∙ ap (λ (g : HostView). fits g.pool c.args.fragment.now) c.self.view_is in
    ap (λ (b : Bool). b && c.has_room_for.result) (sym on) ∙ finds-place h.sockets.manner.guards c.args.fragment.now h.pool false c.has_room_for.result found roomy
