-- What the counters of a host make of what comes and goes out, and of its ticks.
use Rattle.std.specs.Prelude.{ℕ, ◌+◌, ◌-◌, ◌^◌, min, Option, Some, None, Result, Ok, Err}
use Rattle.frames.specs.declared.drop.DropCause.{DropCause}
use Rattle.frames.specs.declared.drop.DropCause.TheVariants.{Short, OtherMac, OtherType, IpHeader, IpSum, OtherAddress, UpperHeader, UpperSum, NoRoom, Fragment}
use Rattle.host.specs.declared.given_up.GivenUp.{GivenUp}
use Rattle.host.specs.declared.lack.Lack.{Lack}
use Rattle.host.specs.declared.lack.Lack.TheVariants.{Backlog, Table, Memory, Replies, Queue, Reassembly, Route}
use Rattle.counters.specs.declared.counters.Counters.{Counters}
use Rattle.counters.specs.declared.drops.Drops.{Drops}
use Rattle.counters.specs.declared.lacks.Lacks.{Lacks}

-- A frame of so many octets came, with this answer of the host, and this at which it finds no room; or one of so many octets went out; or a tick gave
-- up so much.
pub data Event : Type 0 where
  Came : ℕ → Result (Unit {0}) DropCause → Option Lack → Event
  Went : ℕ → Event
  Ticked : GivenUp → Event

-- 64 bits hold a count, and at its last value it stays
abbrev pub held : ℕ → ℕ
held number = min number (2 ^ 64 - 1)

-- a count after so many more
abbrev pub raised : ℕ → ℕ → ℕ
raised count more = held (count + more)

abbrev pub no_drops : Drops
no_drops = record { short = 0; other_mac = 0; other_type = 0; ip_header = 0; ip_sum = 0; other_address = 0; upper_header = 0; upper_sum = 0; fragment = 0 }

abbrev pub no_lacks : Lacks
no_lacks = record { backlog = 0; table = 0; memory = 0; replies = 0; queue = 0; reassembly = 0; route = 0 }

abbrev pub nothing_given_up : GivenUp
nothing_given_up = record { replies = 0; resets = 0; datagrams = 0 }

-- nothing came yet, and nothing went out
abbrev pub new_counters : Counters
new_counters = record { frames_in = 0; octets_in = 0; frames_out = 0; octets_out = 0; drops = no_drops; lacks = no_lacks; given_up = nothing_given_up }

-- each cause has its own count, but the want of room
abbrev pub after_drop : DropCause → Drops → Drops
after_drop Short d = record d { short = raised d.short 1 }
after_drop OtherMac d = record d { other_mac = raised d.other_mac 1 }
after_drop OtherType d = record d { other_type = raised d.other_type 1 }
after_drop IpHeader d = record d { ip_header = raised d.ip_header 1 }
after_drop IpSum d = record d { ip_sum = raised d.ip_sum 1 }
after_drop OtherAddress d = record d { other_address = raised d.other_address 1 }
after_drop UpperHeader d = record d { upper_header = raised d.upper_header 1 }
after_drop UpperSum d = record d { upper_sum = raised d.upper_sum 1 }
after_drop Fragment d = record d { fragment = raised d.fragment 1 }
after_drop NoRoom d = d

-- .. which is counted by what there was none of
abbrev pub after_lack : Option Lack → Lacks → Lacks
after_lack None l = l
after_lack (Some Backlog) l = record l { backlog = raised l.backlog 1 }
after_lack (Some Table) l = record l { table = raised l.table 1 }
after_lack (Some Memory) l = record l { memory = raised l.memory 1 }
after_lack (Some Replies) l = record l { replies = raised l.replies 1 }
after_lack (Some Queue) l = record l { queue = raised l.queue 1 }
after_lack (Some Reassembly) l = record l { reassembly = raised l.reassembly 1 }
after_lack (Some Route) l = record l { route = raised l.route 1 }

-- what a frame found no room at, where that is why it was dropped
abbrev pub lack_for : DropCause → Option Lack → Option Lack
lack_for NoRoom found = found
lack_for Short found = None
lack_for OtherMac found = None
lack_for OtherType found = None
lack_for IpHeader found = None
lack_for IpSum found = None
lack_for OtherAddress found = None
lack_for UpperHeader found = None
lack_for UpperSum found = None
lack_for Fragment found = None

-- a frame was dropped for this cause, and finds no room at this
abbrev pub after_refusal : DropCause → Option Lack → Counters → Counters
after_refusal cause found c = record c { drops = after_drop cause c.drops; lacks = after_lack (lack_for cause found) c.lacks }

abbrev pub after_answer : Result (Unit {0}) DropCause → Option Lack → Counters → Counters
after_answer (Ok done) found c = c
after_answer (Err cause) found c = after_refusal cause found c

-- so much more was given up
abbrev pub after_giving_up : GivenUp → GivenUp → GivenUp
after_giving_up more g = record { replies = raised g.replies more.replies; resets = raised g.resets more.resets; datagrams = raised g.datagrams more.datagrams }

-- each frame is counted with its octets, also one that is dropped
abbrev pub after_event : Counters → Event → Counters
after_event c (Came len answer found) = after_answer answer found (record c { frames_in = raised c.frames_in 1; octets_in = raised c.octets_in len })
after_event c (Went len) = record c { frames_out = raised c.frames_out 1; octets_out = raised c.octets_out len }
after_event c (Ticked more) = record c { given_up = after_giving_up more c.given_up }

-- a frame of this length went out, or none did
abbrev pub after_going : Counters → Option ℕ → Counters
after_going c None = c
after_going c (Some len) = after_event c (Went len)
