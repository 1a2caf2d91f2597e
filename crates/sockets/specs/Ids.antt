-- The table stands in order of id.
use Rattle.std.specs.Prelude.{ℕ, ◌<◌, ◌≤◌, ◌==◌, Bool, List, [], ◌∷◌, length}
use Rattle.std.specs.List.{slice_index_or}
use Rattle.sockets.specs.declared.entry.SocketId.{SocketId}
use Rattle.sockets.specs.declared.entry.Entry.{Entry}

-- the entry of this id, a socket or not
abbrev pub has_id : SocketId → Entry → Bool
has_id id e = e.id.0 == id.0

-- each id is above the one before it, the first above this number, and none above the last one given
abbrev pub AreAscending : ℕ → ℕ → List Entry → Type 0
AreAscending before last [] = before ≤ last
AreAscending before last (e ∷ rest) = (before < e.id.0) × AreAscending e.id.0 last rest

-- each id is above those before it
abbrev pub AreInOrder : List Entry → Type 0
AreInOrder entries = (i j : ℕ) (d : Entry) → i < j → j < length entries → (slice_index_or entries i d).id.0 < (slice_index_or entries j d).id.0
