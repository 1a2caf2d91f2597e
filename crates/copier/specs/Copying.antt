-- What a copy does to its source, its sink and its link.
use Rattle.std.specs.Prelude.{◌≡◌, ℕ, ◌-◌, ◌^◌, min, Bool, true, false, List, [], ◌++◌, length, Option, Some, None, IfOk, Result, Ok, Err}
use Rattle.std.specs.Io.KnownBytes.{IsAtEnd}
use Rattle.devices.specs.Passages.{Passage, IsFairLink}
use Rattle.stream_law.specs.Begins.{Begins}
use Rattle.copy_law.specs.CopyView.{CopyView}
use Rattle.copy_law.specs.Course.{IsCourse}
use Rattle.copier.specs.declared.fault.CopyFault.{CopyFault}
use Rattle.copier.specs.declared.ends.Ends.{Ends}
use Rattle.copier.specs.declared.turns.Copier.{Copier}
use Rattle.copier.specs.declared.turns.Drained.{Drained}
use Rattle.copier.specs.declared.turns.Drained.TheVariants.{Still, Moved, End}
use Rattle.copier.specs.Moves.{copy_of}
use Rattle.copier.specs.Feeding.{IsFed}

-- a count that stops at the last value of 64 bits
abbrev pub count_of : List ℕ → ℕ
count_of octets = min (length octets) (2 ^ 64 - 1)

abbrev pub is_end : Drained → Bool
is_end Still = false
is_end Moved = false
is_end End = true

-- what was written, and counted, is what b gave
pub record IsDrained (before : List ℕ) (taken : Option (List ℕ)) (written : ℕ) (e : Ends) (told : List Passage) (sent : List ℕ) (closed ended : Bool) : Type 0 where
  pub read : List ℕ
  pub taken_is : taken ≡ Some (before ++ read)
  pub count : written ≡ count_of read
  pub course : IsCourse (copy_of e told sent read closed ended)

abbrev pub DrainsTo : Drained → Option (List ℕ) → Option (List ℕ) → Copier → Copier → Type 0
DrainsTo drained taken_old taken_new old new = (before : List ℕ) (told : List Passage) (sent : List ℕ) (closed : Bool) → IsDrained before taken_old old.written old.ends told sent closed false
    → IsDrained before taken_new new.written new.ends told sent closed (is_end drained)

-- what was written begins what a took
pub record BeginsSent (before : List ℕ) (taken : Option (List ℕ)) (sent : List ℕ) : Type 0 where
  pub written : List ℕ
  pub taken_is : taken ≡ Some (before ++ written)
  pub begins : Begins written sent

abbrev pub LeavesDrained : Option (List ℕ) → Option (List ℕ) → Copier → Type 0
LeavesDrained taken_old taken_new old = (before : List ℕ) (told : List Passage) (sent : List ℕ) (closed : Bool) → IsDrained before taken_old old.written old.ends told sent closed false
    → BeginsSent before taken_new sent

-- What a copy leaves, whatever it answers: what was written behind what the sink had before begins what the source gave behind what it had given
-- before. Where the copy answers a number, the source is at its end, all that it gave was written, and the number is how many octets that were.
pub record IsLeft (result : Result ℕ CopyFault) (had gave : List ℕ) (given remaining taken : Option (List ℕ)) : Type 0 where
  pub read : List ℕ
  pub written : List ℕ
  pub given_is : given ≡ Some (gave ++ read)
  pub taken_is : taken ≡ Some (had ++ written)
  pub begins : Begins written read
  pub whole : IfOk result (λ count. (written ≡ read) × IsAtEnd remaining × (count ≡ count_of written))

-- It came over: the sink took what the second of two hosts gave, whose connection with the first one has ended, and the link's passages are those of
-- their frames.
pub record CameOver (told : List Passage) (had : List ℕ) (taken : Option (List ℕ)) : Type 0 where
  pub copy : CopyView
  pub course : IsCourse copy
  pub told_is : copy.told ≡ told
  pub taken_is : taken ≡ Some (had ++ copy.read)
  pub ended : copy.ended ≡ true

-- so it is, and came over where a number is answered, where source, sink and link tell what they move, nothing passed through the link before, and the link is fair
abbrev pub Copies : Result ℕ CopyFault → Option (List ℕ) → Option (List ℕ) → Option (List ℕ) → Option (List ℕ) → Option (List ℕ) → Option (List Passage) → Option (List Passage) → Type 0
Copies result given_before given remaining taken_before taken told_before told =
    (gave had : List ℕ) (passed : List Passage) → given_before ≡ Some gave → taken_before ≡ Some had → told_before ≡ Some [] → told ≡ Some passed → IsFairLink passed
    → IsLeft result had gave given remaining taken × IfOk result (λ count. CameOver passed had taken)

-- A copy under way: the source gave what was sent and what waits to be sent, and the sink took what b gave.
pub record IsUnderWay (gave had : List ℕ) (given remaining taken : Option (List ℕ)) (c : Copier) (told : List Passage) : Type 0 where
  pub read : List ℕ
  pub fed : IsFed gave given remaining c.feed c.ends told read
  pub taken_is : taken ≡ Some (had ++ read)
  pub count : c.written ≡ count_of read

-- what a turn makes of a copy under way: it is under way, or it has come to its end or to a fault
abbrev pub TurnsTo : Result (Option ℕ) CopyFault → List ℕ → List ℕ → Option (List ℕ) → Option (List ℕ) → Option (List ℕ) → Copier → List Passage → Type 0
TurnsTo (Ok None) gave had given remaining taken c told = IsUnderWay gave had given remaining taken c told
TurnsTo (Ok (Some count)) gave had given remaining taken c told = IsLeft (Ok count) had gave given remaining taken × CameOver told had taken
TurnsTo (Err fault) gave had given remaining taken c told = IsLeft (Err fault) had gave given remaining taken

abbrev pub Turns : Result (Option ℕ) CopyFault → Option (List ℕ) → Option (List ℕ) → Option (List ℕ) → Option (List ℕ) → Option (List ℕ) → Option (List ℕ) → Option (List Passage) → Option (List Passage) → Copier → Copier → Type 0
Turns result given_old remaining_old given_new remaining_new taken_old taken_new told_old told_new old new = (gave had : List ℕ) (told longer : List Passage) → told_old ≡ Some told → told_new ≡ Some longer → IsFairLink longer
    → IsUnderWay gave had given_old remaining_old taken_old old told → TurnsTo result gave had given_new remaining_new taken_new new longer
