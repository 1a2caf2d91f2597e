-- When running a script ends in a fault, and in which.
use Rattle.std.specs.Prelude.{◌≡◌, ℕ, List, Option, Some, None, Result, Ok, Err, Bool, true, false, ⊤, ◌<◌, nat_lt, length, option_map, if◌then◌else◌}
use Rattle.script.specs.Script.{first_bad_line}
use Rattle.script.specs.declared.fault.ScriptFault.{ScriptFault}
use Rattle.script.specs.declared.fault.ScriptFault.TheVariants as script
use Rattle.commands.specs.declared.fault.TextFault.{TextFault}
use Rattle.commands.specs.declared.sim.Ends.{Ends}
use Rattle.commands.specs.declared.fault.TextFault.TheVariants.{Line, TooLong, NotHex, Header, Record, Read, Write, NoMemory}

-- why octets are not run as a script, by why they are none
abbrev pub fault_by : ScriptFault → TextFault
fault_by (script.Line n) = Line n
fault_by script.NoMemory = NoMemory

-- whether the source failed
abbrev pub read_fails : {A : Type 0} → Result A TextFault → Bool
read_fails (Err Read) = true
read_fails outcome = false

-- whether the sink failed
abbrev pub write_fails_in : {A : Type 0} → Result A TextFault → Bool
write_fails_in (Err Write) = true
write_fails_in outcome = false

-- what speaks against running a script: that it has too many octets, or else its first bad line
abbrev pub fault_of : List ℕ → Option TextFault
fault_of octets = if nat_lt 1000000 (length octets) then Some TooLong else option_map Line (first_bad_line octets)

-- the fault is what a script's octets ask for; a failing source and want of memory may come in its place
abbrev pub IsFaultDue : List ℕ → TextFault → Type 0
IsFaultDue octets (Line n) = fault_of octets ≡ Some (Line n)
IsFaultDue octets TooLong = fault_of octets ≡ Some TooLong
IsFaultDue octets NotHex = ⊥
IsFaultDue octets (Header fault) = ⊥
IsFaultDue octets (Record fault) = ⊥
IsFaultDue octets Write = fault_of octets ≡ None
IsFaultDue octets Read = ⊤
IsFaultDue octets NoMemory = ⊤

-- why a text of any length is not read whole: its source failed, or memory ran out
abbrev pub IsUnread : TextFault → Type 0
IsUnread (Line n) = ⊥
IsUnread TooLong = ⊥
IsUnread NotHex = ⊥
IsUnread (Header fault) = ⊥
IsUnread (Record fault) = ⊥
IsUnread Read = ⊤
IsUnread Write = ⊥
IsUnread NoMemory = ⊤

-- why a script is not read whole: it has too many octets, or what any text may have
abbrev pub IsScriptUnread : List ℕ → TextFault → Type 0
IsScriptUnread octets (Line n) = ⊥
IsScriptUnread octets TooLong = 1000000 < length octets
IsScriptUnread octets NotHex = ⊥
IsScriptUnread octets (Header fault) = ⊥
IsScriptUnread octets (Record fault) = ⊥
IsScriptUnread octets Read = ⊤
IsScriptUnread octets Write = ⊥
IsScriptUnread octets NoMemory = ⊤

-- the outcome is what a script's octets ask for
abbrev pub IsDue : {A : Type 0} → List ℕ → Result A TextFault → Type 0
IsDue octets (Ok value) = fault_of octets ≡ None
IsDue octets (Err fault) = IsFaultDue octets fault

-- whether a fault comes before anything is run
abbrev pub is_before_run : TextFault → Bool
is_before_run (Line n) = true
is_before_run TooLong = true
is_before_run NotHex = true
is_before_run (Header fault) = true
is_before_run (Record fault) = true
is_before_run Read = true
is_before_run Write = false
is_before_run NoMemory = false

-- how a run with a capture ended, and how its capture did, which was none where nothing was run
abbrev pub run_in_all : Result Ends TextFault → Result (Unit {0}) TextFault
run_in_all (Ok ends) = ends.run
run_in_all (Err fault) = Err fault

abbrev pub capture_in_all : Result Ends TextFault → Result (Unit {0}) TextFault
capture_in_all (Ok ends) = ends.capture
capture_in_all (Err fault) = Ok tt

-- the first fault of two outcomes
abbrev pub first_fault : Result (Unit {0}) TextFault → Result (Unit {0}) TextFault → Result (Unit {0}) TextFault
first_fault (Err fault) second = Err fault
first_fault (Ok done) second = second
