-- From when on a request may go out, as a function: `IsNextAsk` says what it tells.
use Rattle.std.specs.Prelude.{◌+◌, ◌-◌, ◌^◌, max, nat_lt, if◌then◌else◌, List, length, filter, fold, Option, Some, None}
use Rattle.clock.specs.declared.moment.Moment.{Moment}
use Rattle.clock.specs.Moments.{after, later, sooner}
use Rattle.ipv4.specs.declared.addr.Addr.{Addr}
use Rattle.arp.specs.declared.entry.Asked.{Asked}
use Rattle.arp.specs.Cache.{is_note_of}

-- the last moment at which a note is live
abbrev pub last_of : Asked → Moment
last_of note = let end = after note.at 1000 in record { 0 = max note.at.0 (end.0 - 1) }

-- the last moment of the note for an address that is over last
abbrev pub own_last : Addr → List Asked → Option Moment
own_last addr asked = fold (λ latest note. later latest (Some (last_of note))) None (filter (is_note_of addr) asked)

-- the last moment of the note that is over first
abbrev pub first_last : List Asked → Option Moment
first_last asked = fold (λ soonest note. sooner soonest (Some (last_of note))) None asked

-- where all 64 places are taken, none is free until the first note is over
abbrev pub room_last : List Asked → Option Moment
room_last asked = if nat_lt (length asked) 64 then None else first_last asked

-- the moment behind this one, which the last moment of the clock has not
abbrev pub following : Option Moment → Option Moment
following None = None
following (Some last) = if nat_lt last.0 (2 ^ 64 - 1) then Some (record { 0 = last.0 + 1 }) else None

-- once a place is free, and the notes for the address are over
unfoldable pub next_ask : Addr → List Asked → Option Moment
next_ask addr asked = following (later (room_last asked) (own_last addr asked))
