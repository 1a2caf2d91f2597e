use Rattle.tcp_halves.proofs.Reports.{reported_is_kept, kept_is_reported, latest_is_first}
use Rattle.tcp_halves.proofs.laws.reports_are_of_what_is_kept.Goals as goal

pub returns-clause-kept : goal.returns-clause-kept
returns-clause-kept c = λ r latest number receives few next small of. reported_is_kept r latest number few next small of

pub returns-clause-first : goal.returns-clause-first
returns-clause-first c = λ r latest few next small kept. latest_is_first r latest few next small kept

pub returns-clause-all : goal.returns-clause-all
returns-clause-all c = λ r latest number few next small least kept. kept_is_reported r latest number few next small least kept
