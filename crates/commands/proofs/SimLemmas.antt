-- Which outcomes of a script are due.
use Rattle.std.proofs.Common.{◌≡◌, ℕ, ◌≤◌, List, Option, Some, None, Result, Ok, Err, true, false, ◌⊎◌, inl, inr, length, refl, ap, ◌∙◌, arith, subst, sym, IfErr, IfSome, nat_lt, if◌then◌else◌, option_map}
use Rattle.std.specs.Result.{IsErrAnd}
use Rattle.std.specs.Option.{IsSomeAnd}
use Rattle.std.proofs.lemmas.Grind.{common_steps}
use Rattle.script.specs.Script.{first_bad_line}
use Rattle.script.specs.declared.fault.ScriptFault.{ScriptFault}
use Rattle.script.specs.declared.fault.ScriptFault.TheVariants as script
use Rattle.commands.specs.Sim.{fault_by, read_fails, write_fails_in, is_before_run, fault_of, IsDue, IsFaultDue}
use Rattle.commands.specs.declared.fault.TextFault.{TextFault}
use Rattle.commands.specs.declared.fault.TextFault.TheVariants.{Line, TooLong, NotHex, Header, Record, Read, Write, NoMemory}

-- the fault that a `?` passes on
pub passed_on : {A : Type 0} (r : Result A TextFault) (f : TextFault) → IsErrAnd r (λ e. e ≡ f) → r ≡ Err f
passed_on (Ok x) f is = absurd is
passed_on (Err e) f is = ap Err is

-- what holds of the error that a `?` passes on
pub err_passed : {T E : Type 0} (P : E → Type 0) (r : Result T E) (f : E) → IsErrAnd r (λ e. e ≡ f) → P f → IfErr r P
err_passed P (Ok x) f is holds = tt
err_passed P (Err e) f is holds = subst P (sym is) holds

-- what a bad script is reported as
pub passed_as : (fault : ScriptFault) (o : Option ℕ) → (fault ≡ script.NoMemory) ⊎ IsSomeAnd o (λ n. fault ≡ script.Line n) →
    (fault_by fault ≡ NoMemory) ⊎ IsSomeAnd o (λ n. fault_by fault ≡ Line n)
passed_as fault o (inl memory) = inl (ap fault_by memory)
passed_as fault None (inr bad) = absurd bad
passed_as fault (Some n) (inr bad) = inr (ap fault_by bad)

-- what speaks against octets that are not too many
fault_of_short : (octets : List ℕ) → length octets ≤ 1000000 → fault_of octets ≡ option_map Line (first_bad_line octets)
fault_of_short octets short =
    let few : nat_lt 1000000 (length octets) ≡ false = grind (arith, common_steps) in
    ap (λ b. if b then Some TooLong else option_map Line (first_bad_line octets)) few

-- a bad line
due_line : (octets : List ℕ) (fault : TextFault) (o : Option ℕ) → fault_of octets ≡ option_map Line o →
    IsSomeAnd o (λ n. fault ≡ Line n) → IsFaultDue octets fault
due_line octets fault None why bad = absurd bad
due_line octets fault (Some n) why bad = rw bad why

-- a bad script
pub due_bad : (told : Option (List ℕ)) (octets : List ℕ) (fault : TextFault) → IfSome told (λ t. octets ≡ t) →
    length octets ≤ 1000000 → (fault ≡ NoMemory) ⊎ IsSomeAnd (first_bad_line octets) (λ n. fault ≡ Line n) →
    IfSome told (λ t. IsFaultDue t fault)
due_bad None octets fault all short why = all
due_bad (Some t) octets fault all short (inl memory) = rw memory tt
due_bad (Some t) octets fault all short (inr bad) =
    rw (← all) (due_line octets fault (first_bad_line octets) (fault_of_short octets short) bad)

ran_due : {A : Type 0} (octets : List ℕ) (r : Result A TextFault) → fault_of octets ≡ None →
    IfErr r (λ fault. is_before_run fault ≡ false) → IsDue octets r
ran_due octets (Ok x) none faults = none
ran_due octets (Err (Line n)) none faults = cc
ran_due octets (Err TooLong) none faults = cc
ran_due octets (Err NotHex) none faults = cc
ran_due octets (Err (Header f)) none faults = cc
ran_due octets (Err (Record f)) none faults = cc
ran_due octets (Err Read) none faults = tt
ran_due octets (Err Write) none faults = none
ran_due octets (Err NoMemory) none faults = tt

-- a good script that ran
pub due_ran : {A : Type 0} (told : Option (List ℕ)) (octets : List ℕ) (r : Result A TextFault) → IfSome told (λ t. octets ≡ t) →
    length octets ≤ 1000000 → first_bad_line octets ≡ None → IfErr r (λ fault. is_before_run fault ≡ false) → IfSome told (λ t. IsDue t r)
due_ran None octets r all short good faults = all
due_ran (Some t) octets r all short good faults =
    rw (← all) (ran_due octets r (fault_of_short octets short ∙ ap (λ o. option_map Line o) good) faults)

line_is_no_device : (fault : TextFault) (o : Option ℕ) → IsSomeAnd o (λ n. fault ≡ Line n) →
    (read_fails {A = Unit {0}} (Err fault) ≡ false) × (write_fails_in {A = Unit {0}} (Err fault) ≡ false)
line_is_no_device fault None bad = absurd bad
line_is_no_device fault (Some n) bad = rw bad (refl, refl)

-- a fault of a bad script isn't that of a device
pub bad_is_no_device : (octets : List ℕ) (fault : TextFault) →
    (fault ≡ NoMemory) ⊎ IsSomeAnd (first_bad_line octets) (λ n. fault ≡ Line n) →
    (read_fails {A = Unit {0}} (Err fault) ≡ false) × (write_fails_in {A = Unit {0}} (Err fault) ≡ false)
bad_is_no_device octets fault (inl memory) = rw memory (refl, refl)
bad_is_no_device octets fault (inr bad) = line_is_no_device fault (first_bad_line octets) bad

pub ran_is_no_read : {A : Type 0} (r : Result A TextFault) → IfErr r (λ fault. is_before_run fault ≡ false) → read_fails r ≡ false
ran_is_no_read (Ok x) faults = refl
ran_is_no_read (Err (Line n)) faults = cc
ran_is_no_read (Err TooLong) faults = cc
ran_is_no_read (Err NotHex) faults = cc
ran_is_no_read (Err (Header f)) faults = cc
ran_is_no_read (Err (Record f)) faults = cc
ran_is_no_read (Err Read) faults = cc
ran_is_no_read (Err Write) faults = refl
ran_is_no_read (Err NoMemory) faults = refl

-- what ran before the end was silent only if nothing ran
pub not_silent : {A : Type 0} (P : Type 0) (r : Result A TextFault) → IfErr r (λ fault. is_before_run fault ≡ false) →
    IfErr r (λ fault. is_before_run fault ≡ true → P)
not_silent P (Ok x) faults = faults
not_silent P (Err fault) faults = λ before. cc
