-- Which device a fault tells of, and which want of memory.
use Rattle.std.specs.Prelude.{◌≡◌, ◌≢◌, Bool, true, false, Result, Ok, Err, ⊤}
use Rattle.sockets.specs.declared.refusal.Refusal.TheVariants.{ENOMEM}
use Rattle.copier.specs.declared.fault.CopyFault.{CopyFault}
use Rattle.copier.specs.declared.fault.CopyFault.TheVariants.{Read, Write, Link, Host, NoMemory, Stalled}

-- the source failed
abbrev pub read_fails : {T : Type 0} → Result T CopyFault → Bool
read_fails (Err Read) = true
read_fails (Err Write) = false
read_fails (Err Link) = false
read_fails (Err (Host refusal)) = false
read_fails (Err NoMemory) = false
read_fails (Err Stalled) = false
read_fails (Ok value) = false

-- the sink failed
abbrev pub write_fails : {T : Type 0} → Result T CopyFault → Bool
write_fails (Err Write) = true
write_fails (Err Read) = false
write_fails (Err Link) = false
write_fails (Err (Host refusal)) = false
write_fails (Err NoMemory) = false
write_fails (Err Stalled) = false
write_fails (Ok value) = false

-- the link failed
abbrev pub link_fails : {T : Type 0} → Result T CopyFault → Bool
link_fails (Err Link) = true
link_fails (Err Read) = false
link_fails (Err Write) = false
link_fails (Err (Host refusal)) = false
link_fails (Err NoMemory) = false
link_fails (Err Stalled) = false
link_fails (Ok value) = false

-- memory was refused
abbrev pub WantsMemory : CopyFault → Type 0
WantsMemory (Host refusal) = refusal ≡ ENOMEM
WantsMemory NoMemory = ⊤
WantsMemory Read = ⊥
WantsMemory Write = ⊥
WantsMemory Link = ⊥
WantsMemory Stalled = ⊥

-- a host refused what makes a copy, which may want memory
abbrev pub IsOfBeginning : CopyFault → Type 0
IsOfBeginning Read = ⊥
IsOfBeginning Write = ⊥
IsOfBeginning Link = ⊥
IsOfBeginning (Host refusal) = ⊤
IsOfBeginning NoMemory = ⊥
IsOfBeginning Stalled = ⊥

-- no device failed, and no memory was refused
abbrev pub IsOfHosts : CopyFault → Type 0
IsOfHosts Read = ⊥
IsOfHosts Write = ⊥
IsOfHosts Link = ⊥
IsOfHosts (Host refusal) = refusal ≢ ENOMEM
IsOfHosts NoMemory = ⊥
IsOfHosts Stalled = ⊤

-- neither the sink nor the link failed, and no memory was refused
abbrev pub IsOfSource : CopyFault → Type 0
IsOfSource Read = ⊤
IsOfSource Write = ⊥
IsOfSource Link = ⊥
IsOfSource (Host refusal) = refusal ≢ ENOMEM
IsOfSource NoMemory = ⊥
IsOfSource Stalled = ⊤

-- neither the source nor the link failed, and no memory was refused
abbrev pub IsOfSink : CopyFault → Type 0
IsOfSink Read = ⊥
IsOfSink Write = ⊤
IsOfSink Link = ⊥
IsOfSink (Host refusal) = refusal ≢ ENOMEM
IsOfSink NoMemory = ⊥
IsOfSink Stalled = ⊤
