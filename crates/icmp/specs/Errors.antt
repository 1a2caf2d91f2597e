-- Messages that report an error (RFC 792, RFC 1122 section 3.2.2).
use Rattle.std.specs.Prelude.{◌≡◌, ◌⊎◌, ℕ}
use Rattle.icmp.specs.declared.error.Reason.{Reason}
use Rattle.icmp.specs.declared.error.Reason.TheVariants.{NetUnreachable, HostUnreachable, ProtocolUnreachable, PortUnreachable, FragmentationNeeded, SourceRouteFailed, TransitTimeExceeded, ReassemblyTimeExceeded}

-- The types of errors: destination unreachable, source quench, redirect, time exceeded, parameter problem. All others are
-- those of queries and their answers, or of nothing that is known (RFC 1122 section 3.2.2).
abbrev pub IsErrorKind : ℕ → Type 0
IsErrorKind kind = (kind ≡ 3) ⊎ (kind ≡ 4) ⊎ (kind ≡ 5) ⊎ (kind ≡ 11) ⊎ (kind ≡ 12)

-- the type of an error for this reason
abbrev pub kind_of : Reason → ℕ
kind_of NetUnreachable = 3
kind_of HostUnreachable = 3
kind_of ProtocolUnreachable = 3
kind_of PortUnreachable = 3
kind_of FragmentationNeeded = 3
kind_of SourceRouteFailed = 3
kind_of TransitTimeExceeded = 11
kind_of ReassemblyTimeExceeded = 11

-- its code
abbrev pub code_of : Reason → ℕ
code_of NetUnreachable = 0
code_of HostUnreachable = 1
code_of ProtocolUnreachable = 2
code_of PortUnreachable = 3
code_of FragmentationNeeded = 4
code_of SourceRouteFailed = 5
code_of TransitTimeExceeded = 0
code_of ReassemblyTimeExceeded = 1
