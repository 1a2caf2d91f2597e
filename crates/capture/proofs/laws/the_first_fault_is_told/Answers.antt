use Rattle.capture.proofs.Faults.{cut_told, few_told, link_type_told, magic_told, version_told}
use Rattle.capture.proofs.laws.the_first_fault_is_told.Goals as goal

pub returns-clause-cut_in_magic : goal.returns-clause-cut_in_magic
returns-clause-cut_in_magic c = few_told

pub returns-clause-no_magic : goal.returns-clause-no_magic
returns-clause-no_magic c = magic_told

pub returns-clause-cut : goal.returns-clause-cut
returns-clause-cut c = cut_told

pub returns-clause-version : goal.returns-clause-version
returns-clause-version c = version_told

pub returns-clause-link_type : goal.returns-clause-link_type
returns-clause-link_type c = link_type_told
