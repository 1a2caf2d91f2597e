-- Which device failed is a matter of the fault, whatever would have been answered else.
use Rattle.std.proofs.Common.{◌≡◌, refl, Err}
use Rattle.copier.specs.declared.fault.CopyFault.{CopyFault}
use Rattle.copier.specs.declared.fault.CopyFault.TheVariants.{Read, Write, Link, Host, NoMemory, Stalled}
use Rattle.copier.specs.Faults.{read_fails, write_fails, link_fails}

pub same_read : (T U : Type 0) (fault : CopyFault) → read_fails {T = T} (Err fault) ≡ read_fails {T = U} (Err fault)
same_read T U Read = refl
same_read T U Write = refl
same_read T U Link = refl
same_read T U (Host refusal) = refl
same_read T U NoMemory = refl
same_read T U Stalled = refl

pub same_write : (T U : Type 0) (fault : CopyFault) → write_fails {T = T} (Err fault) ≡ write_fails {T = U} (Err fault)
same_write T U Read = refl
same_write T U Write = refl
same_write T U Link = refl
same_write T U (Host refusal) = refl
same_write T U NoMemory = refl
same_write T U Stalled = refl

pub same_link : (T U : Type 0) (fault : CopyFault) → link_fails {T = T} (Err fault) ≡ link_fails {T = U} (Err fault)
same_link T U Read = refl
same_link T U Write = refl
same_link T U Link = refl
same_link T U (Host refusal) = refl
same_link T U NoMemory = refl
same_link T U Stalled = refl
