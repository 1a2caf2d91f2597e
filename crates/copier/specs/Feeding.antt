-- The octets between a source and a connection.
use Rattle.std.specs.Prelude.{◌≡◌, ℕ, true, false, List, [], ◌++◌, slice_range, Option, Some}
use Rattle.std.specs.Io.KnownBytes.{IsAtEnd}
use Rattle.devices.specs.Passages.{Passage}
use Rattle.stream_law.specs.Begins.{Begins}
use Rattle.copy_law.specs.Course.{IsCourse}
use Rattle.copier.specs.declared.ends.Ends.{Ends}
use Rattle.copier.specs.declared.feed.Feed.{Feed}
use Rattle.copier.specs.Moves.{copy_of}

-- what was read and is not sent yet
abbrev pub pending : Feed → List ℕ
pending f = slice_range f.octets f.from f.to

-- A copy whose source gave all that was sent, and what waits to be sent, behind what it gave before. It is at its end where it was found so, and
-- only then a's side is closed.
pub record IsFed (before : List ℕ) (given remaining : Option (List ℕ)) (f : Feed) (e : Ends) (told : List Passage) (read : List ℕ) : Type 0 where
  pub sent : List ℕ
  pub given_is : given ≡ Some (before ++ (sent ++ pending f))
  pub at_end : f.at_end ≡ true → IsAtEnd remaining × (pending f ≡ [])
  pub closed : f.closed ≡ true → f.at_end ≡ true
  pub course : IsCourse (copy_of e told sent read f.closed false)

-- what was read at the other side begins what a source gave
pub record IsBegun (before : List ℕ) (given : Option (List ℕ)) (read : List ℕ) : Type 0 where
  pub all : List ℕ
  pub given_is : given ≡ Some (before ++ all)
  pub begins : Begins read all

-- a step by which such a copy stays one, whatever was read at the other side
abbrev pub KeepsFed : Option (List ℕ) → Option (List ℕ) → Option (List ℕ) → Option (List ℕ) → Feed → Feed → Ends → Ends → Type 0
KeepsFed given_old remaining_old given_new remaining_new f g old new = (before : List ℕ) (told : List Passage) (read : List ℕ) → IsFed before given_old remaining_old f old told read
    → IsFed before given_new remaining_new g new told read

-- and one that ended with a fault
abbrev pub LeavesBegun : Option (List ℕ) → Option (List ℕ) → Option (List ℕ) → Feed → Ends → Type 0
LeavesBegun given_old remaining_old given_new f old = (before : List ℕ) (told : List Passage) (read : List ℕ) → IsFed before given_old remaining_old f old told read → IsBegun before given_new read
