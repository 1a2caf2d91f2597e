-- `empty` owns nothing. Assumes `Logic`.
use Rattle.std.proofs.Common.{◌≡◌, [], ◌∷◌, refl}
use mir.Syntax.{Fn}
use mir.Val.{Val}
use base.Logic.{SProp, emp}
use base.Fml.{ftrue}
use contract.Monad.{fact, fact_i}
use contract.Running.{tables}
use types.Kit.{‵, raw, ◌⊛◌, ◌$◌, ◌∵◌, !, qed, by, move, keep, drop, use0, split, fjoin, feq_i}
use types.Part.{agg}
use types.Run.{lit, no_more, and_then, returns, enter}
use types.ByLocal.{alloc_all, pass_all, free_all, look_at, sets}
use denote.RattleType.{owns}
use denote.RawPtr.{Ptr, null_ptr}
use denote.Signature.{types_at}
use denote.Steps.{nothing}
use denote.Triple.Entry.{alive}
use denote.Triple.Walked.{walk_of}
use Rattle.std.specs.Prelude.{None}
use Rattle.std.proofs.raw_atomic.Walks.{proved_at, leaves}
use Rattle.hostc.proofs.Pointer.{one_val, one_own, one_made, one_typed}
use Rattle.hostc.specs.contracts.handle.Handle as handle
use Rattle.hostc.specs.contracts.handle.Handle.empty.{ended, clauses}
use Rattle.hostc.specs.contracts.handle.Handle.empty.Key.{name as #self}
use Rattle.hostc.proofs.handle.Handle.empty.Statement.{statement}
use Rattle.hostc.proofs.handle.Handle.empty.Code as compiled

pub empty_spec : {M : Type 1} → statement M
empty_spec 𝓤 𝓛 𝓜 𝓡 wired =
    let H = 𝓛.H in let c = clauses 𝓛 𝓜.mem 𝓡.returns in let 𝓣 = tables 𝓤 H 𝓜 𝓡 𝓡.env in let fn : Fn = compiled.function in
    proved_at 𝓛 ended tt c 𝓜 𝓡 tt #self fn (compiled.unfolded 𝓤 H 𝓜 𝓡 wired) (λ z are.
    let Post : Val → SProp 𝓤 = (walk_of 𝓛 ended tt c).post z in
    let d : (handle.the_row).Denot = record { at = null_ptr; host = None; counters = None } in let Said : Type 0 = (d.host ≡ None) × (d.counters ≡ None) in
    qed 𝓛 ((raw (alive 𝓛 ended.signature z.0.0 z.0.1) ⊛ ‵ (owns (types_at ended.signature.params z.0.0) z.0.3 z.0.4)) ∷ ‵ ftrue ∷ []) ∵ move ! (1 ∷ []) $ drop ! $ split ! $ keep ! (0 ∷ []) $
    enter ! 𝓣.C 𝓣.Λ fn [] Post $ alloc_all ! (λ l. pass_all ! refl tt $
    sets ! (agg ! (and_then ! (lit ! tt) (no_more !))) refl (one_typed null_ptr) $
    returns ! (look_at ! 0 refl) $ free_all ! refl $
    feq_i ! Ptr null_ptr null_ptr refl $ use0 𝓛 (‵ (one_own null_ptr (one_val null_ptr ∷ []))) (one_made 𝓛 null_ptr) $ fjoin ! $
    use0 𝓛 (raw (fact 𝓤 Said)) (fact_i 𝓤 Said (emp 𝓤) (refl, refl)) $ nothing ! $ move ! (3 ∷ 0 ∷ 2 ∷ 1 ∷ []) $
    by ! (leaves 𝓛 ended tt c z (one_val null_ptr) d tt tt)))
