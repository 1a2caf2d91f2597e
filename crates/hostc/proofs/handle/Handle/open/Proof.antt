-- `open` tests the pointer, and hands over what the handle owns. Assumes `Logic`.
use Rattle.std.proofs.Common.{◌≡◌, List, [], ◌∷◌, ◌++◌, refl, sym, ap, ◌∙◌, lit<}
use mir.Syntax.{Fn}
use mir.Val.{Val, vptr, vcons, vnil}
use base.Logic.{SProp, emp}
use base.Fml.{ftrue}
use contract.Monad.{fact, fact_i}
use contract.Running.{tables}
use types.Kit.{‵, raw, ◌⊛◌, prop, at_ret, ◌$◌, ◌∵◌, !, qed, by, move, keep, drop, use0, use1, split, regoal, fsplit, fjoin}
use types.Part.{agg, whole, sub}
use types.Run.{stop, fld, lit, of_opd, bin, no_more, and_then, first, branches, exec, returns, enter}
use types.ByLocal.{alloc_all, pass_all, free_all, look_at, get, get_in, sets, sets_last, env}
use types.Match.{live}
use prog.Wp.{Env, WpFn}
use denote.Exit.{yes}
use denote.RattleType.{RattleType, owns}
use denote.RawPtr.{Ptr, block_ptr, null_ptr, tests_null}
use denote.Signature.{types_at, type_at, plain}
use denote.Steps.{nothing}
use denote.Param.{layout}
use denote.Triple.Entry.{alive}
use denote.Triple.Walked.{Stays, stay_dropped, walk_of, Goes-dropped}
use Rattle.std.specs.Prelude.{None, Some, option_map}
use Rattle.std.specs.contracts.alloc.Global as heap
use Rattle.std.proofs.alloc.Global.TheLaws as heap_laws
use Rattle.std.specs.contracts.impls.GlobalAllocator.TheImpl.{ghosts}
use Rattle.std.proofs.alloc.Calls.{Goes-blank, handle_tells}
use Rattle.std.proofs.alloc.Shapes.{after}
use Rattle.std.proofs.option.Made.{Some-of, none_of}
use Rattle.std.proofs.ResultValues.{and_tt}
use Rattle.std.proofs.raw_atomic.Walks.{proved_at, leaves}
use Rattle.hostc.specs.contracts.counted.Counted as counted
use Rattle.hostc.proofs.Apart.{both, Apart, al, both_good, parts_in}
use Rattle.hostc.proofs.Held.{either_held}
use Rattle.hostc.proofs.Pointer.{Good, one_val, one_told, one_typed, ptr_typed}
use Rattle.hostc.specs.contracts.handle.Handle as handle
use Rattle.hostc.specs.contracts.handle.Handle.open.{ended, clauses}
use Rattle.hostc.specs.contracts.handle.Handle.open.Key.{name as #self}
use Rattle.hostc.proofs.handle.Handle.open.Statement.{statement}
use Rattle.hostc.proofs.handle.Handle.open.Code as compiled

pub open_spec : {M : Type 1} → statement M
open_spec 𝓤 𝓛 𝓜 𝓡 wired =
    let H = 𝓛.H in let c = clauses 𝓛 𝓜.mem 𝓡.returns in let 𝓣 = tables 𝓤 H 𝓜 𝓡 𝓡.env in let fn : Fn = compiled.function in
    let R : RattleType = counted.the_row in let Z : RattleType = heap.the_row in let LZ = heap_laws.the_row_laws in let Part : RattleType = Apart R Z LZ ghosts in
    let hs : Stays ended.signature.params ended.kept = (stay_dropped (plain (λ _. handle.the_row)) yes, (stay_dropped (plain (λ _. heap.the_row)) yes, tt)) in
    proved_at 𝓛 ended hs c 𝓜 𝓡 (Goes-blank 𝓛 0 (plain (λ _. handle.the_row)) yes (λ κs x f. tt), (Goes-dropped 𝓛 0 (plain (λ _. heap.the_row)) yes (λ κs x f. refl), tt)) #self fn (compiled.unfolded 𝓤 H 𝓜 𝓡 wired) (λ z are.
    let Post : Val → SProp 𝓤 = (walk_of 𝓛 ended hs c).post z in let Out : RattleType = type_at ended.signature.result z.0.0 in let x = z.0.3.0 in let a = z.0.3.1.0 in let told = one_told x.at z.0.4.0 are.0.0 in
    qed 𝓛 ((raw (alive 𝓛 ended.signature z.0.0 z.0.1) ⊛ ‵ (owns (types_at ended.signature.params z.0.0) z.0.3 z.0.4)) ∷ ‵ ftrue ∷ []) ∵ move ! (1 ∷ []) $ drop ! $ split ! $ move ! (1 ∷ []) $
    fsplit ! $ move ! (1 ∷ []) $ fsplit ! $ handle_tells (al R Z LZ ghosts) ! a z.0.4.1.0 (λ h ea fits. move ! (2 ∷ []) $ fsplit ! $ drop ! $
    -- [what the handle owns; the allocator; true; alive]
    either_held ! a x.at x.host x.counters
    (λ is none bare. let Said : Type 0 = (option_map (λ (q : Part.Denot). q.value.host) None ≡ x.host) × (option_map (λ (q : Part.Denot). q.value.counters) None ≡ x.counters) in let good : Good (layout Out) (live 0 vnil) = (tt, (record { fits = lit< tt }, tt)) in
    regoal ! (λ (us : List Val). prop (WpFn 𝓤 H 𝓣.C 𝓣.Λ fn us Post)) (λ i. (told ∙ ap (λ (p : Ptr). one_val p ∷ []) is) i ++ (ea i ++ [])) refl $
    enter ! 𝓣.C 𝓣.Λ fn (one_val null_ptr ∷ h ∷ []) Post $ alloc_all ! (λ l. pass_all ! refl (one_typed null_ptr, (fits, tt)) $ let En : Env 𝓤 𝓛.H = env fn.locals l in
    sets ! (of_opd ! (get_in ! (fld ! refl (stop !)) (sub ! 0 refl (whole !)))) refl (ptr_typed null_ptr) $ sets ! (bin ! (get ! refl) (lit ! tt) tt) refl (tt, tt) $ first ! $ branches ! (get ! refl)
    (λ _. sets_last ! (agg ! (and_then ! (lit ! tt) (no_more !))) refl good $ exec ! 𝓣.C 𝓣.Λ En (after 3 fn.body) (at_ret En Post) $
    sets ! (of_opd ! (get ! refl)) refl good $ returns ! (look_at ! 0 refl) $ free_all ! refl $
    use0 𝓛 (‵ (Out.own_val None (live 0 vnil ∷ []))) (none_of 𝓛 Part) $ use0 𝓛 (raw (fact 𝓤 Said)) (fact_i 𝓤 Said (emp 𝓤) (sym none, sym bare)) $
    nothing ! $ nothing ! $ fjoin ! $ nothing ! $ fjoin ! $ keep ! (5 ∷ 0 ∷ 2 ∷ 1 ∷ []) $ by ! (leaves 𝓛 ended hs c z (live 0 vnil) None (tt, (tt, tt)) (tt, (tt, tt))))
    (λ wrong. absurd wrong)))
    (λ b o v is some told_with t. let p : Ptr = block_ptr b o in let w : Val = both (vptr b o) h in let typed = both_good R Z LZ ghosts b o h fits in let w₁ : Val = live 1 (vcons w vnil) in
    let d : Part.Denot = record { ptr = p; alloc = a; value = v } in let Said : Type 0 = (option_map (λ (q : Part.Denot). q.value.host) (Some d) ≡ x.host) × (option_map (λ (q : Part.Denot). q.value.counters) (Some d) ≡ x.counters) in
    let good : Good (layout Out) w₁ = (and_tt _ typed.0, (record { fits = lit< tt }, (typed.1, tt))) in
    regoal ! (λ (us : List Val). prop (WpFn 𝓤 H 𝓣.C 𝓣.Λ fn us Post)) (λ i. (told ∙ ap (λ (q : Ptr). one_val q ∷ []) is) i ++ (ea i ++ [])) refl $
    enter ! 𝓣.C 𝓣.Λ fn (one_val p ∷ h ∷ []) Post $ alloc_all ! (λ l. pass_all ! refl (one_typed p, (fits, tt)) $ let En : Env 𝓤 𝓛.H = env fn.locals l in
    sets ! (of_opd ! (get_in ! (fld ! refl (stop !)) (sub ! 0 refl (whole !)))) refl (tt, tt) $ sets ! (bin ! (get ! refl) (lit ! tt) (tests_null p t)) refl (tt, tt) $ first ! $ branches ! (get ! refl)
    (λ wrong. absurd wrong)
    (λ _. sets ! (of_opd ! (get ! refl)) refl (tt, tt) $ sets ! (agg ! (and_then ! (get ! refl) (and_then ! (get ! refl) (no_more !)))) refl typed $
    sets_last ! (agg ! (and_then ! (lit ! tt) (and_then ! (get ! refl) (no_more !)))) refl good $ exec ! 𝓣.C 𝓣.Λ En (after 3 fn.body) (at_ret En Post) $
    sets ! (of_opd ! (get ! refl)) refl good $ returns ! (look_at ! 0 refl) $ free_all ! refl $ parts_in R Z LZ ghosts ! b o h a v $
    use1 𝓛 (‵ (Out.own_val (Some d) (w₁ ∷ []))) (Some-of 𝓛 Part d w) $ use0 𝓛 (raw (fact 𝓤 Said)) (fact_i 𝓤 Said (emp 𝓤) (sym some, sym told_with)) $
    nothing ! $ nothing ! $ fjoin ! $ nothing ! $ fjoin ! $ keep ! (4 ∷ 0 ∷ 2 ∷ 1 ∷ []) $ by ! (leaves 𝓛 ended hs c z w₁ (Some d) (tt, (tt, tt)) (tt, (tt, tt))))))))
