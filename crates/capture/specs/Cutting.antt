-- What is read of a capture that was cut.
use Rattle.std.specs.Prelude.{ℕ, suc, ◌+◌, ◌-◌, ◌==◌, nat_lt, if◌then◌else◌, List, [], ◌∷◌, length, Option, Some, None}
use Rattle.capture.specs.declared.fault.RecordFault.{RecordFault}
use Rattle.capture.specs.declared.fault.RecordFault.TheVariants.{CutHead, CutOctets}
use Rattle.capture.specs.Capture.{Entry}

-- how many records stand whole in the first so many octets
abbrev pub whole_count : ℕ → List Entry → ℕ
whole_count n [] = 0
whole_count n (e ∷ es) =
    if nat_lt n (16 + length e.octets) then 0 else suc (whole_count (n - (16 + length e.octets)) es)

-- what the next record lacks in so many octets: nothing where they end with the record before, or with the last
abbrev pub lack_in : ℕ → List Entry → Option RecordFault
lack_in n [] = None
lack_in n (e ∷ es) =
    if n == 0 then None
    else if nat_lt n 16 then Some (CutHead (16 - n))
    else if nat_lt n (16 + length e.octets) then Some (CutOctets (16 + length e.octets - n))
    else lack_in (n - (16 + length e.octets)) es
