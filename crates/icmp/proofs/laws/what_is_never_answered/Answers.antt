use Rattle.std.proofs.Common.{◌≡◌, Bool, true, false, refl, sym, subst}
use Rattle.icmp.specs.MayAnswer.{BeginsAsError}
use Rattle.icmp.proofs.laws.what_is_never_answered.Goals as goal

pub returns-clause-error : goal.returns-clause-error
returns-clause-error c d link_broadcast kind rest protocol begins is may =
    may.no_error (record { protocol = protocol; kind = subst BeginsAsError (sym begins) is })

pub returns-clause-broadcast : goal.returns-clause-broadcast
returns-clause-broadcast c d link_broadcast may = (unheard link_broadcast may.no_link_broadcast, may.no_broadcast)
  where
    unheard : (b : Bool) → (b ≡ true → ⊥) → b ≡ false
    unheard true never = absurd (never refl)
    unheard false never = refl

pub returns-clause-group : goal.returns-clause-group
returns-clause-group c d link_broadcast may least most = may.no_multicast (record { least = least; most = most })

pub returns-clause-fragment : goal.returns-clause-fragment
returns-clause-fragment c d link_broadcast may = may.first_fragment

pub returns-clause-source : goal.returns-clause-source
returns-clause-source c d link_broadcast may = may.single_source
