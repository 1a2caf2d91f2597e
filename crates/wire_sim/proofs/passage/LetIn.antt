-- A host on its guard knows no neighbour whose address it shuts out.
use Rattle.std.proofs.Common.{◌≡◌, ℕ, ◌&&◌, Bool, false, List, find, Some, inl, inr, refl, sym, ◌∙◌, ap}
use Rattle.ipv4.specs.declared.addr.Addr.{Addr}
use Rattle.arp.specs.declared.entry.Neighbour.{Neighbour}
use Rattle.routes.specs.declared.route.Route.{Route}
use Rattle.routes.specs.Ends.{is_link_end}
use Rattle.tcp_halves.specs.declared.buffers.Manner.{Manner}
use Rattle.host.specs.ConfigView.{ConfigView}
use Rattle.host.specs.Heard.{shuts_out}
use Rattle.host.specs.HostView.{HostView}
use Rattle.host.specs.Runs.{Event as HostEvent}
use Rattle.host.proofs.Guarded.{packet_let_in}
use Rattle.host.proofs.Tables.{manner-kept}
use Rattle.sides.specs.declared.side.Side.{Side}
use Rattle.sides.specs.declared.side.Side.TheVariants.{A, B}
use Rattle.wire_sim.specs.Runs.{IsReached, begins, goes_on}
use Rattle.wire_sim.specs.WorldView.{WorldView, host_of, clock_of}
use Rattle.wire_sim.proofs.HostsRun.{AreBrought, IsMoved, moved, sound-at}
use Rattle.wire_sim.proofs.lists.FoundAfterChange.{All-find}
use Rattle.wire_sim.proofs.passage.FramesPass.{config_of, side_at, side-stays, hosts-stay}
use Rattle.wire_sim.proofs.passage.HostsStay.{IsSideOf, Teaches}

abbrev manner_at : WorldView → Side → Manner
manner_at w side = let h = host_of w.network side in h.sockets.manner

pub manners-stay : (limit : ℕ) (w : WorldView) (run : IsReached limit w) (side : Side) → manner_at w side ≡ (config_of limit w run side).manner
manners-stay limit w (begins a b a_is b_is apart few) A = refl
manners-stay limit w (begins a b a_is b_is apart few) B = refl
manners-stay limit _ (goes_on w v happens answer run step) side = by_move (manners-stay limit w run side) (moved w v happens answer step side)
  where
    by_move : manner_at w side ≡ (config_of limit w run side).manner → IsMoved w.network (clock_of v.network side) side happens (host_of w.network side) (host_of v.network side) → manner_at v side ≡ (config_of limit w run side).manner
    by_move stayed (inl same) = ap (λ (h : HostView). h.sockets.manner) same ∙ stayed
    by_move stayed (inr (e, numbered, makes, brings, up, own)) = manner-kept e (host_of w.network side) (host_of v.network side) (sound-at w v step side) numbered makes ∙ stayed

-- what such a host shuts out is by its set-up
shut-by : (limit : ℕ) (w : WorldView) (run : IsReached limit w) (side : Side) (source : Addr)
    → shuts_out (host_of w.network side) source ≡ (let c = config_of limit w run side in c.manner.guards && is_link_end c.routes source)
shut-by limit w run side source =
    let h = host_of w.network side in
    let c = config_of limit w run side in
    ap (λ (m : Manner). m.guards && is_link_end h.interface.routes source) (manners-stay limit w run side)
    ∙ ap (λ (rs : List Route). c.manner.guards && is_link_end rs source) (hosts-stay limit w run side).routes

abbrev IsLetIn : ConfigView → Neighbour → Type 0
IsLetIn c pair = (c.manner.guards && is_link_end c.routes pair.addr) ≡ false

known-let-in : (limit : ℕ) (w : WorldView) (run : IsReached limit w) (side : Side) → IsSideOf (config_of limit w run side) (IsLetIn (config_of limit w run side)) (side_at w.network side)
known-let-in limit w (begins a b a_is b_is apart few) A = record { mac = refl; addr = refl; routes = refl; replies = tt; neighbours = tt }
known-let-in limit w (begins a b a_is b_is apart few) B = record { mac = refl; addr = refl; routes = refl; replies = tt; neighbours = tt }
known-let-in limit _ (goes_on w v happens answer run step) side = side-stays (config_of limit w run side) w v happens answer step side teaches (known-let-in limit w run side)
  where
    teaches : (e : HostEvent) → AreBrought w.network side happens e → Teaches (IsLetIn (config_of limit w run side)) e (host_of w.network side)
    teaches e brings now isn octets packet is heard_so moment = sym (shut-by limit w run side packet.sender_addr) ∙ packet_let_in (host_of w.network side) octets packet heard_so

-- so no known neighbour is shut out
pub neighbours-let-in : (limit : ℕ) (w : WorldView) (run : IsReached limit w) (side : Side) (find_by : Neighbour → Bool) (pair : Neighbour) → (let h = host_of w.network side in find find_by h.interface.cache.pairs) ≡ Some pair
    → shuts_out (host_of w.network side) pair.addr ≡ false
neighbours-let-in limit w run side find_by pair found =
    let h = host_of w.network side in
    shut-by limit w run side pair.addr ∙ All-find (IsLetIn (config_of limit w run side)) find_by h.interface.cache.pairs pair (known-let-in limit w run side).neighbours found
