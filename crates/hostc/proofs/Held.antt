-- What a handle owns, by whether it holds a host. Assumes `Logic`.
use Rattle.std.proofs.Common.{◌≡◌, ℕ, List, [], ◌∷◌, refl}
use seplogic.Ra.Ura.{Ura}
use mir.Raw.{raw as bare}
use base.Logic.{ent, guard, via, fst∗, snd∗, never, never_e, guard_i}
use types.Logic.{Logic, sem}
use types.Kit.{Item, Goal, Seq, ‵, given, ◌$◌, by, keep, use1, learn, feq_l}
use contract.Monad.{fact_use}
use denote.Memory.{lone}
use denote.RawPtr.{Ptr, block_ptr, null_ptr, lies_at, in_a_block, Testable}
use base.Fraction.{full_share}
use Rattle.std.specs.Prelude.{Option, None, Some}
use Rattle.std.specs.declared.alloc.Global.{Global}
use Rattle.std.specs.contracts.impls.GlobalAllocator.TheImpl.{ghosts}
use Rattle.std.specs.Box.Ownership.{box_owns}
use Rattle.std.proofs.GlobalToken.{dealloc_token-Testable}
use Rattle.host.specs.HostView.{HostView}
use Rattle.counters.specs.declared.counters.Counters.{Counters}
use Rattle.hostc.specs.contracts.counted.Counted.{the_row}
use Rattle.hostc.specs.declared.counted.Counted.{Counted}
use Rattle.hostc.specs.Held.{held}

module _ {M : Type 1} {𝓤 : Ura M} (𝓛 : Logic 𝓤) (a : Global) (p : Ptr) (x : Counted) where
  abbrev boxed : base.Fml.Fml
  boxed = box_owns (ghosts.dealloc_token a) the_row p x

  -- the pointer to a box may be compared with null
  tested : ent 𝓤 (sem 𝓛 boxed) (guard 𝓤 (Testable p) (sem 𝓛 boxed))
  tested = fact_use 𝓤 (Testable p) (via 𝓤 _ (snd∗ 𝓤 (sem 𝓛 (lies_at the_row full_share p x)) (sem 𝓛 (ghosts.dealloc_token a (bare (lone (the_row).mir)) p))) (dealloc_token-Testable 𝓛 a (bare (lone (the_row).mir)) p)) (guard_i 𝓤 (Testable p) (sem 𝓛 boxed))

module _ {M : Type 1} {𝓤 : Ura M} {𝓛 : Logic 𝓤} {K : Type 0} {Γ : List (Item 𝓤)} {G : Goal 𝓤 𝓛.H} where
  pub either_held : K → (a : Global) (p : Ptr) (host : Option HostView) (counters : Option Counters) → (p ≡ null_ptr → host ≡ None → counters ≡ None → Seq K 𝓛 Γ G)
      → ((b o : ℕ) (x : Counted) → p ≡ block_ptr b o → host ≡ Some x.host → counters ≡ Some x.counters → Testable (block_ptr b o) → Seq K 𝓛 (‵ (box_owns (ghosts.dealloc_token a) the_row (block_ptr b o) x) ∷ Γ) G)
      → Seq K 𝓛 (‵ (held p host counters) ∷ Γ) G
  either_held t a p None None none one = feq_l t (λ e. none e refl refl)
  either_held t a p (Some h) (Some c) none one =
      let x : Counted = record { host = h; counters = c } in
      in_a_block t p (λ q. box_owns (ghosts.dealloc_token a) the_row q x) (fst∗ 𝓤 (never 𝓤) (sem 𝓛 (ghosts.dealloc_token a (bare (lone (the_row).mir)) null_ptr))) (λ b o e.
      let q : Ptr = block_ptr b o in let B = box_owns (ghosts.dealloc_token a) the_row q x in
      use1 𝓛 (given (Testable q) (‵ B)) (tested 𝓛 a q x) $ learn t (λ is. one b o x e refl refl is))
  either_held t a p (Some h) None none one = keep t (0 ∷ []) $ by t (never_e 𝓤 _)
  either_held t a p None (Some c) none one = keep t (0 ∷ []) $ by t (never_e 𝓤 _)
