-- A datagram that is being put together, and one fragment more (RFC 791 section 3.2).
use Rattle.std.specs.Prelude.{◌≡◌, ℕ, ◌==◌, Bool, not, ◌&&◌, ◌||◌, nat_lt, nat_le, if◌then◌else◌, List, [], length, fold, replicate, Option, Some, None, unwrap_or}
use Rattle.std.specs.Option.{option_or, option_map_or}
use Rattle.ipv4.specs.Datagram.{Datagram}
use Rattle.reassembly.specs.declared.key.Key.{Key}
use Rattle.clock.specs.declared.moment.Moment.{Moment}
use Rattle.clock.specs.Moments.{after}
use Rattle.reassembly.specs.declared.assembled.Loss.TheVariants.{GivenUp}
use Rattle.reassembly.specs.declared.assembled.Assembled.{Assembled}
use Rattle.reassembly.specs.declared.assembled.Assembled.TheVariants.{Waiting, Whole, Dropped}
use Rattle.reassembly.specs.Fragments.{key_of, begin_of, end_of, ends_within, is_last, quote_of}
use Rattle.reassembly.specs.Octets.{laid, whole_of}

pub record Reassembly : Type 0 where
  -- what its fragments have in common
  pub key : Key
  -- when the first of them arrived
  pub since : Moment
  -- by its place the octet that came last, as far as any came
  pub octets : List (Option ℕ)
  -- where the payload ends, once a last fragment came
  pub end : Option ℕ
  -- what an error message quotes: that of the fragment zero that came last
  pub quote : Option (List ℕ)

-- the datagrams that are being put together
pub record PoolView : Type 0 where
  -- how many octets of payload a place has room for
  pub octets : ℕ
  -- the places, each free or with a datagram
  pub places : List (Option Reassembly)

-- so many places, all free, with room for so many octets each
abbrev pub new_pool : ℕ → ℕ → PoolView
new_pool places octets = record { octets = octets; places = replicate places None }

-- the time for it runs out sixty seconds after its first fragment arrived, or at the end of the clock
abbrev pub deadline_after : Moment → Moment
deadline_after since = after since 60000

abbrev pub deadline_of : Reassembly → Moment
deadline_of r = deadline_after r.since

-- it has run out
abbrev pub is_over_after : Moment → Moment → Bool
is_over_after since now = nat_le (deadline_after since).0 now.0

-- before its first fragment, which arrives now
abbrev pub begun : Moment → Datagram → Reassembly
begun now d = record { key = key_of d; since = now; octets = []; end = None; quote = None }

-- a fragment contradicts those that came before: it has an octet past the known end, or it tells another end, or one before
-- an octet that came
abbrev pub conflicts : Datagram → Option ℕ → ℕ → Bool
conflicts d None reach = is_last d && nat_lt (end_of d) reach
conflicts d (Some end) reach = nat_lt end (end_of d) || (is_last d && not (end_of d == end))

-- the end that was told first
abbrev pub end_after : Datagram → Option ℕ → Option ℕ
end_after d end = option_or end (if is_last d then Some (end_of d) else None)

abbrev pub quote_after : Datagram → Option (List ℕ) → Option (List ℕ)
quote_after d quote = if d.offset == 0 then Some (quote_of d) else quote

-- with this fragment laid over those that came before
abbrev pub with_fragment : Reassembly → Datagram → Reassembly
with_fragment r d = record r { octets = laid (begin_of d) d.payload r.octets; end = end_after d r.end; quote = quote_after d r.quote }

-- what becomes of a reassembly
pub data Outcome : Type 0 where
  -- it waits for further fragments
  Waits : Reassembly → Outcome
  -- its payload is whole, and it ends; beside the payload what an error message quotes of it
  Completes : List ℕ → List ℕ → Outcome
  -- it is given up
  GivesUp : Outcome

-- what an error message quotes of a whole datagram: a fragment zero is among its fragments, as they cover the beginning
abbrev pub quoted : Option (List ℕ) → List ℕ
quoted quote = unwrap_or quote []

unfoldable pub outcome : Datagram → Reassembly → Outcome
outcome d r =
    if conflicts d r.end (length r.octets) then GivesUp
    else let next = with_fragment r d in option_map_or (λ payload. Completes payload (quoted next.quote)) (whole_of next.end next.octets) (Waits next)

-- in a place with room for so many octets: where the fragment ends past them, it is given up as well
abbrev pub outcome_within : ℕ → Datagram → Reassembly → Outcome
outcome_within octets d r = if ends_within octets d then outcome d r else GivesUp

-- what stands in its place afterwards
abbrev pub left : Outcome → Option Reassembly
left (Waits r) = Some r
left (Completes payload quote) = None
left GivesUp = None

-- what is answered
abbrev pub Answers : Outcome → Assembled → Type 0
Answers (Waits r) taken = taken ≡ Waiting
Answers (Completes payload quote) (Whole whole) = (whole.octets.now ≡ payload) × (whole.quote.now ≡ quote)
Answers (Completes payload quote) Waiting = ⊥
Answers (Completes payload quote) (Dropped loss) = ⊥
Answers GivesUp taken = taken ≡ Dropped GivenUp

-- a reassembly that goes on, or else one that begins now
abbrev pub continued : Moment → Datagram → Option Reassembly → Reassembly
continued now d place = unwrap_or place (begun now d)

-- after these fragments, none of which ended it
abbrev pub after_fragments : Reassembly → List Datagram → Reassembly
after_fragments r fragments = fold with_fragment r fragments
