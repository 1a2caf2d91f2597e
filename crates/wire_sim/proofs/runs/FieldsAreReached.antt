-- A world's own fields stand for a run.
use Rattle.std.proofs.Common.{◌≡◌, ℕ, ◌≤◌, ◌^◌, ◌||◌, ◌↔◌, List, [], true, false, IfOk, IsOk, Result, Ok, Err, refl, sym, ◌∙◌, ap, subst}
use Rattle.ether.specs.declared.mac.Mac.{Mac}
use Rattle.ipv4.specs.declared.addr.Addr.{Addr}
use Rattle.ipv4.specs.Addresses.{same_addr}
use Rattle.frames.specs.Meaning.{same_mac}
use Rattle.host.specs.ConfigView.{ConfigView, IsConfig}
use Rattle.host.specs.HostView.{HostView, new_host}
use Rattle.wire_sim.specs.declared.event.Event.{Event}
use Rattle.wire_sim.specs.declared.event.Answer.{Answer}
use Rattle.wire_sim.specs.declared.event.Happening.{Happening}
use Rattle.wire_sim.specs.Runs.{IsStep, IsReached, begins, goes_on}
use Rattle.wire_sim.specs.Trace.{StreamLaw}
use Rattle.wire_sim.specs.WorldRoom.{RoomyWorld}
use Rattle.wire_sim.specs.WorldView.{NetworkView, WorldView, network_with, world_with, fresh_world, are_alike}
use Rattle.wire_sim.proofs.runs.RunsAreLawful.{orderly, run_lawful}

-- two hosts with no frames between them
pub reached-with : (limit : ℕ) (a b : HostView) (n : NetworkView) (t : List Happening) → IsReached limit (world_with a b limit) → n ≡ network_with a b limit → t ≡ [] → IsReached n.limit (record { network = n; trace = t })
reached-with limit a b n t reached is_n is_t =
    subst (λ t. IsReached n.limit (record { network = n; trace = t })) (sym is_t)
    (subst (λ (m : NetworkView). IsReached m.limit (record { network = m; trace = [] })) (sym is_n) reached)

-- those that were made for two set-ups are the beginning of every run
pub reached-made : {E : Type 0} (limit : ℕ) (a b : ConfigView) (first second : Result HostView E) → IsConfig a → IsConfig b → are_alike a b ≡ false → limit ≤ 2 ^ 30 → IfOk first (λ x. x ≡ new_host a) → IfOk second (λ y. y ≡ new_host b)
    → IfOk first (λ x. IfOk second (λ y. IsReached limit (world_with x y limit)))
reached-made limit a b (Ok x) (Ok y) a_is b_is apart small is_x is_y =
    let same : ◌≡◌ {A = WorldView} (fresh_world a b limit) (world_with x y limit) = cc in
    subst (IsReached limit) same (begins a b a_is b_is apart small)
reached-made limit a b (Ok x) (Err e) a_is b_is apart small is_x is_y = tt
reached-made limit a b (Err e) second a_is b_is apart small is_x is_y = tt

-- and where a world is had of them, nothing happened in it
pub fresh-made : {E F : Type 0} (limit : ℕ) (a b : ConfigView) (first second : Result HostView E) (made : Result RoomyWorld F) → IfOk first (λ x. x ≡ new_host a) → IfOk second (λ y. y ≡ new_host b)
    → IsOk made ↔ (IsOk first × IsOk second) → IfOk first (λ x. IfOk second (λ y. IfOk made (λ w. w.seen ≡ world_with x y limit))) → IfOk made (λ w. w.seen ≡ fresh_world a b limit)
fresh-made limit a b (Ok x) (Ok y) (Ok w) is_x is_y had seen =
    let same : ◌≡◌ {A = WorldView} (world_with x y limit) (fresh_world a b limit) = cc in
    seen ∙ same
fresh-made limit a b (Ok x) (Err e) (Ok w) is_x is_y had seen = let wrong : false ≡ true = (had.0 refl).1 in absurd cc
fresh-made limit a b (Err e) second (Ok w) is_x is_y had seen = let wrong : false ≡ true = (had.0 refl).0 in absurd cc
fresh-made limit a b first second (Err e) is_x is_y had seen = tt

-- two hosts whose addresses differ, and whose MACs do
pub unalike : (a b : ConfigView) (x y : Addr) (m k : Mac) → x ≡ a.addr → y ≡ b.addr → m ≡ a.mac → k ≡ b.mac → same_addr x y ≡ false → same_mac m k ≡ false → are_alike a b ≡ false
unalike a b x y m k is_x is_y is_m is_k addrs macs =
    let apart : same_addr a.addr b.addr ≡ false = ap (λ z. same_addr z b.addr) (sym is_x) ∙ (ap (same_addr x) (sym is_y) ∙ addrs) in
    ap (λ t. t || same_mac a.mac b.mac) apart ∙ (ap (λ z. same_mac z b.mac) (sym is_m) ∙ (ap (same_mac m) (sym is_k) ∙ macs))

-- one event more
pub reached-next : (old new : WorldView) (happens : Event) (answer : Answer) → IsReached old.network.limit old → IsStep happens answer old new → IsReached new.network.limit new
reached-next old new happens answer reached step =
    let run = goes_on old new happens answer reached step in
    let o = orderly old.network.limit new run in
    subst (λ l. IsReached l new) (sym o.is_limit) run

-- the same worlds were reached, whatever room they have
pub seen-is : {w v : RoomyWorld} → w ≡ v → w.seen ≡ v.seen
seen-is same = ap (λ (x : RoomyWorld). x.seen) same

-- a world by its parts
pub same-parts : (n m : NetworkView) (t u : List Happening) → n ≡ m → t ≡ u → ◌≡◌ {A = WorldView} (record { network = n; trace = t }) (record { network = m; trace = u })
same-parts n m t u same_n same_t = cc

-- the same world was reached
pub reached-again : (w v : WorldView) → v ≡ w → IsReached w.network.limit w → IsReached v.network.limit v
reached-again w v same reached = subst (λ (x : WorldView). IsReached x.network.limit x) (sym same) reached

-- whatever was reached keeps the law
pub lawful : (limit : ℕ) (w v : WorldView) → v ≡ w → IsReached limit w → StreamLaw v.trace v.network.openings
lawful limit w v same reached = subst (λ (x : WorldView). StreamLaw x.trace x.network.openings) (sym same) (run_lawful limit w reached)

-- a step from what is the same world
pub step_from : (happens : Event) (answer : Answer) (w v new : WorldView) → v ≡ w → IsStep happens answer w new → IsStep happens answer v new
step_from happens answer w v new same step = subst (λ (x : WorldView). IsStep happens answer x new) (sym same) step
