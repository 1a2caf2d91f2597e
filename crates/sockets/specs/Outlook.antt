-- What is known of the entries without a walk over them: which are busy, which nobody has accepted, and their deadlines.
use Rattle.std.specs.Prelude.{◌≡◌, ℕ, ◌-◌, ◌<◌, ◌==◌, ◌||◌, nat_lt, nat_le, Bool, false, if◌then◌else◌, List, length, map, set, Option, Some, None, is_some, IfSome, slice_get}
use Rattle.std.specs.List.{AllWithin}
use Rattle.clock.specs.declared.moment.Moment.{Moment}
use Rattle.tcp_state.specs.Due.{first_due}
use Rattle.sockets.specs.declared.entry.Entry.{Entry}
use Rattle.sockets.specs.declared.outlook.Outlook.{Outlook}
use Rattle.sockets.specs.declared.role.Role.{Role}
use Rattle.sockets.specs.declared.role.Role.TheVariants.{Idle, Listener, Connected, Datagrams}
use Rattle.sockets.specs.Entries.{deadline_of, dues_of, is_pending}
use Rattle.sockets.specs.Lost.{waits_until}

-- it has something to send, or waits for the hop to its peer
abbrev pub is_busy : Role → Bool
is_busy (Connected c listener) = is_some (first_due c) || is_some (waits_until c)
is_busy (Datagrams bound socket) = nat_lt 0 (length socket.outbox)
is_busy (Listener local backlog) = false
is_busy (Idle buffers bound) = false

abbrev pub is_busy_entry : Entry → Bool
is_busy_entry e = is_busy e.role

-- none of the entries in these places is
abbrev pub AreQuiet : List Entry → ℕ → ℕ → Type 0
AreQuiet entries from to = AllWithin (λ (e : Entry). is_busy_entry e ≡ false) entries from to

-- it has something to send
abbrev pub has_due : Entry → Bool
has_due e = is_some (slice_get (dues_of e.role) 0)

abbrev pub is_pending_entry : Entry → Bool
is_pending_entry e = is_pending e.role

abbrev pub deadline_of_entry : Entry → Option Moment
deadline_of_entry e = deadline_of e.role

-- a list with this in the place that is at hand, where one is
abbrev pub with_at : {T : Type 0} → Option ℕ → T → List T → List T
with_at None x xs = xs
with_at (Some place) x xs = set xs place x

-- What is noted is true of each entry but the one at hand, of which nothing is.
pub record IsOutlook (o : Outlook) (most : ℕ) (entries : List Entry) : Type 0 where
  pub within : IfSome o.at_hand (λ place. place < length entries)
  pub busy : o.busy.items ≡ with_at o.at_hand false (map is_busy_entry entries)
  pub pending : o.pending.items ≡ with_at o.at_hand false (map is_pending_entry entries)
  pub deadlines : o.deadlines.items ≡ with_at o.at_hand None (map deadline_of_entry entries)
  pub busy_most : o.busy.most ≡ most
  pub pending_most : o.pending.most ≡ most
  pub deadlines_most : o.deadlines.most ≡ most

-- the first of two places, as far as there are any
abbrev pub first_of : Option ℕ → Option ℕ → Option ℕ
first_of None b = b
first_of (Some a) None = Some a
first_of (Some a) (Some b) = if nat_le a b then Some a else Some b

-- which place is at hand once the entry in this place is taken out, and those behind it moved down
abbrev pub at_without : Option ℕ → ℕ → Option ℕ
at_without None place = None
at_without (Some at) place = if at == place then None else if nat_lt place at then Some (at - 1) else Some at
