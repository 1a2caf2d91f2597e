-- How a queue of replies grows, and which of its replies hold one of the rooms that were made with it. No contract of a public call
-- rests on this page.
use Rattle.std.specs.Prelude.{ℕ, ◌==◌, Bool, true, false, if◌then◌else◌, List, [], ◌∷◌, ◌++◌, length, count_by, Result, Ok, Err}
use Rattle.clock.specs.declared.moment.Moment.{Moment}
use Rattle.interface.specs.declared.reply.Reply.{Reply}
use Rattle.interface.specs.declared.reply.Reply.TheVariants.{Arp, Reset, Echo, Error}
use Rattle.interface.specs.declared.reply.Waiting.{Waiting}
use Rattle.interface.specs.declared.reply.QueueFault.{QueueFault}
use Rattle.interface.specs.declared.reply.QueueFault.TheVariants.{NoRoom}

-- how many replies may wait, and those that wait, in order
pub record QueueView : Type 0 where
  pub most : ℕ
  pub replies : List Waiting

-- as many wait as may
abbrev pub has_no_place : QueueView → Bool
has_no_place q = length q.replies == q.most

-- a reply that begins to wait now stands behind the others, where there is room for it
abbrev pub joined : Moment → Reply → QueueView → QueueView
joined now reply q = if has_no_place q then q else record q { replies = q.replies ++ record { since = now; reply = reply } ∷ [] }

abbrev pub join_answer : QueueView → Result (Unit {0}) QueueFault
join_answer q = if has_no_place q then Err NoRoom else Ok tt

-- data or a quote stands in a room; an ARP packet and the header of a reset are of a fixed size, and need none
abbrev pub has_room : Reply → Bool
has_room (Arp packet) = false
has_room (Reset to head) = false
has_room (Echo to identifier number octets) = true
has_room (Error to reason quoted) = true

-- how many of these replies hold one
abbrev pub rooms_held : List Waiting → ℕ
rooms_held replies = count_by (λ (waiting : Waiting). has_room waiting.reply) replies
