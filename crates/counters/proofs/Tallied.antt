-- Each count is the number of its events, as far as 64 bits hold it.
use Rattle.std.proofs.Common.{◌≡◌, ℕ, ◌+◌, ◌<◌, ◌^◌, ◌==◌, Bool, true, false, cond, List, [], ◌∷◌, fold, sum_by, Option, Some, None, Ok, Err, refl, sym, ◌∙◌, ap, arith}
use Rattle.std.proofs.lemmas.List.Sums.{sum_by-cons}
use Rattle.frames.specs.declared.drop.DropCause.{DropCause}
use Rattle.frames.specs.declared.drop.DropCause.TheVariants.{Short, OtherMac, OtherType, IpHeader, IpSum, OtherAddress, UpperHeader, UpperSum, NoRoom, Fragment}
use Rattle.frames.specs.Drops.{number_of}
use Rattle.host.specs.declared.lack.Lack.{Lack}
use Rattle.host.specs.declared.lack.Lack.TheVariants.{Backlog, Table, Memory, Replies, Queue, Reassembly, Route}
use Rattle.counters.specs.declared.counters.Counters.{Counters}
use Rattle.counters.specs.declared.drops.Drops.{Drops}
use Rattle.counters.specs.declared.lacks.Lacks.{Lacks}
use Rattle.counters.specs.Counting.{Event, Came, Went, Ticked, held, raised, after_drop, after_lack, lack_for, after_event, new_counters}
use Rattle.counters.specs.Tally.{IsTallyOf, is_coming, octets_coming, is_going, octets_going, is_dropped_for, is_dropped_at, is_this, place_of, given_up_at}

-- The numbers alone.

still : (n : ℕ) → n < 2 ^ 64 → n ≡ held (n + 0)
still n within = omega (arith, within)

once_or_not : (b : Bool) (n : ℕ) → n < 2 ^ 64 → cond b (raised n 1) n ≡ held (n + cond b 1 0)
once_or_not true n within = refl
once_or_not false n within = still n within

first : (a b c : ℕ) → a ≡ held (b + c) → a < 2 ^ 64
first a b c e = omega (arith, e)

together : (count one more last : ℕ) → last ≡ held (held (count + one) + more) → last ≡ held (count + (one + more))
together count one more last e = omega (arith, e)

-- A count that each event raises by its weight is the sum of the weights.
counted : (f : Counters → ℕ) (w : Event → ℕ) → ((c : Counters) (e : Event) → f c < 2 ^ 64 → f (after_event c e) ≡ held (f c + w e)) → (events : List Event) (c : Counters) → f c < 2 ^ 64
    → f (fold after_event c events) ≡ held (f c + sum_by w events)
counted f w step [] c within = still (f c) within
counted f w step (e ∷ rest) c within =
    let once = step c e within in
    let last = counted f w step rest (after_event c e) (first (f (after_event c e)) (f c) (w e) once) in
    let all : f (fold after_event (after_event c e) rest) ≡ held (held (f c + w e) + sum_by w rest) = last ∙ ap (λ n. held (n + sum_by w rest)) once in
    together (f c) (w e) (sum_by w rest) (f (fold after_event (after_event c e) rest)) all ∙ ap (λ n. held (f c + n)) (sym (sum_by-cons w e rest))

from_new : (f : Counters → ℕ) (w : Event → ℕ) → ((c : Counters) (e : Event) → f c < 2 ^ 64 → f (after_event c e) ≡ held (f c + w e)) → f new_counters ≡ 0 → (events : List Event)
    → f (fold after_event new_counters events) ≡ held (sum_by w events)
from_new f w step none events =
    let all = counted f w step events new_counters (omega (arith, none)) in
    omega (arith, all, none)

-- What one event raises.

frame_in : (c : Counters) (e : Event) → c.frames_in < 2 ^ 64 → (let after = after_event c e in after.frames_in) ≡ held (c.frames_in + cond (is_coming e) 1 0)
frame_in c (Came len (Ok done) found) within = refl
frame_in c (Came len (Err cause) found) within = refl
frame_in c (Went len) within = still c.frames_in within
frame_in c (Ticked more) within = still c.frames_in within

octets_in : (c : Counters) (e : Event) → c.octets_in < 2 ^ 64 → (let after = after_event c e in after.octets_in) ≡ held (c.octets_in + octets_coming e)
octets_in c (Came len (Ok done) found) within = refl
octets_in c (Came len (Err cause) found) within = refl
octets_in c (Went len) within = still c.octets_in within
octets_in c (Ticked more) within = still c.octets_in within

frame_out : (c : Counters) (e : Event) → c.frames_out < 2 ^ 64 → (let after = after_event c e in after.frames_out) ≡ held (c.frames_out + cond (is_going e) 1 0)
frame_out c (Came len (Ok done) found) within = still c.frames_out within
frame_out c (Came len (Err cause) found) within = still c.frames_out within
frame_out c (Went len) within = refl
frame_out c (Ticked more) within = still c.frames_out within

octets_out : (c : Counters) (e : Event) → c.octets_out < 2 ^ 64 → (let after = after_event c e in after.octets_out) ≡ held (c.octets_out + octets_going e)
octets_out c (Came len (Ok done) found) within = still c.octets_out within
octets_out c (Came len (Err cause) found) within = still c.octets_out within
octets_out c (Went len) within = refl
octets_out c (Ticked more) within = still c.octets_out within

-- The counts of drops, by the cause.

abbrev dropped : DropCause → Drops → ℕ
dropped Short d = d.short
dropped OtherMac d = d.other_mac
dropped OtherType d = d.other_type
dropped IpHeader d = d.ip_header
dropped IpSum d = d.ip_sum
dropped OtherAddress d = d.other_address
dropped UpperHeader d = d.upper_header
dropped UpperSum d = d.upper_sum
dropped Fragment d = d.fragment
dropped NoRoom d = 0

-- a cause that has a count of its own
abbrev IsCounted : DropCause → Type 0
IsCounted cause = (number_of cause == 9) ≡ false

own_drop : (cause other : DropCause) (d : Drops) → IsCounted cause → dropped cause (after_drop other d) ≡ cond (number_of other == number_of cause) (raised (dropped cause d) 1) (dropped cause d)
own_drop Short Short d own = refl
own_drop Short _ d own = refl
own_drop OtherMac OtherMac d own = refl
own_drop OtherMac _ d own = refl
own_drop OtherType OtherType d own = refl
own_drop OtherType _ d own = refl
own_drop IpHeader IpHeader d own = refl
own_drop IpHeader _ d own = refl
own_drop IpSum IpSum d own = refl
own_drop IpSum _ d own = refl
own_drop OtherAddress OtherAddress d own = refl
own_drop OtherAddress _ d own = refl
own_drop UpperHeader UpperHeader d own = refl
own_drop UpperHeader _ d own = refl
own_drop UpperSum UpperSum d own = refl
own_drop UpperSum _ d own = refl
own_drop Fragment Fragment d own = refl
own_drop Fragment _ d own = refl
own_drop NoRoom other d own = cc

drop_step : (cause : DropCause) → IsCounted cause → (c : Counters) (e : Event) → dropped cause c.drops < 2 ^ 64
    → dropped cause (let after = after_event c e in after.drops) ≡ held (dropped cause c.drops + cond (is_dropped_for cause e) 1 0)
drop_step cause own c (Came len (Ok done) found) within = still (dropped cause c.drops) within
drop_step cause own c (Came len (Err other) found) within = own_drop cause other c.drops own ∙ once_or_not (number_of other == number_of cause) (dropped cause c.drops) within
drop_step cause own c (Went len) within = still (dropped cause c.drops) within
drop_step cause own c (Ticked more) within = still (dropped cause c.drops) within

-- The counts of want of room, by what there was none of.

abbrev lacked : Lack → Lacks → ℕ
lacked Backlog l = l.backlog
lacked Table l = l.table
lacked Memory l = l.memory
lacked Replies l = l.replies
lacked Queue l = l.queue
lacked Reassembly l = l.reassembly
lacked Route l = l.route

own_lack : (what other : Lack) (l : Lacks) → lacked what (after_lack (Some other) l) ≡ cond (place_of other == place_of what) (raised (lacked what l) 1) (lacked what l)
own_lack Backlog Backlog l = refl
own_lack Backlog _ l = refl
own_lack Table Table l = refl
own_lack Table _ l = refl
own_lack Memory Memory l = refl
own_lack Memory _ l = refl
own_lack Replies Replies l = refl
own_lack Replies _ l = refl
own_lack Queue Queue l = refl
own_lack Queue _ l = refl
own_lack Reassembly Reassembly l = refl
own_lack Reassembly _ l = refl
own_lack Route Route l = refl
own_lack Route _ l = refl

any_lack : (what : Lack) (o : Option Lack) (l : Lacks) → lacked what l < 2 ^ 64 → lacked what (after_lack o l) ≡ held (lacked what l + cond (is_this what o) 1 0)
any_lack what None l within = still (lacked what l) within
any_lack what (Some other) l within = own_lack what other l ∙ once_or_not (place_of other == place_of what) (lacked what l) within

lack_step : (what : Lack) (c : Counters) (e : Event) → lacked what c.lacks < 2 ^ 64 → lacked what (let after = after_event c e in after.lacks) ≡ held (lacked what c.lacks + cond (is_dropped_at what e) 1 0)
lack_step what c (Came len (Ok done) found) within = still (lacked what c.lacks) within
lack_step what c (Came len (Err cause) found) within = any_lack what (lack_for cause found) c.lacks within
lack_step what c (Went len) within = still (lacked what c.lacks) within
lack_step what c (Ticked more) within = still (lacked what c.lacks) within

-- What was given up.

replies_step : (c : Counters) (e : Event) → c.given_up.replies < 2 ^ 64 → (let after = after_event c e in after.given_up.replies) ≡ held (c.given_up.replies + (given_up_at e).replies)
replies_step c (Ticked more) within = refl
replies_step c (Came len (Ok done) found) within = still c.given_up.replies within
replies_step c (Came len (Err cause) found) within = still c.given_up.replies within
replies_step c (Went len) within = still c.given_up.replies within

resets_step : (c : Counters) (e : Event) → c.given_up.resets < 2 ^ 64 → (let after = after_event c e in after.given_up.resets) ≡ held (c.given_up.resets + (given_up_at e).resets)
resets_step c (Ticked more) within = refl
resets_step c (Came len (Ok done) found) within = still c.given_up.resets within
resets_step c (Came len (Err cause) found) within = still c.given_up.resets within
resets_step c (Went len) within = still c.given_up.resets within

datagrams_step : (c : Counters) (e : Event) → c.given_up.datagrams < 2 ^ 64 → (let after = after_event c e in after.given_up.datagrams) ≡ held (c.given_up.datagrams + (given_up_at e).datagrams)
datagrams_step c (Ticked more) within = refl
datagrams_step c (Came len (Ok done) found) within = still c.given_up.datagrams within
datagrams_step c (Came len (Err cause) found) within = still c.given_up.datagrams within
datagrams_step c (Went len) within = still c.given_up.datagrams within

-- All of them.

drops_tallied : (cause : DropCause) → IsCounted cause → dropped cause (new_counters).drops ≡ 0 → (events : List Event)
    → dropped cause (let after = fold after_event new_counters events in after.drops) ≡ held (sum_by (λ e. cond (is_dropped_for cause e) 1 0) events)
drops_tallied cause own none events = from_new (λ c. dropped cause c.drops) (λ e. cond (is_dropped_for cause e) 1 0) (drop_step cause own) none events

lacks_tallied : (what : Lack) → lacked what (new_counters).lacks ≡ 0 → (events : List Event)
    → lacked what (let after = fold after_event new_counters events in after.lacks) ≡ held (sum_by (λ e. cond (is_dropped_at what e) 1 0) events)
lacks_tallied what none events = from_new (λ c. lacked what c.lacks) (λ e. cond (is_dropped_at what e) 1 0) (lack_step what) none events

pub tallied : (events : List Event) → IsTallyOf events (fold after_event new_counters events)
tallied events = record {
  frames_in = from_new (λ c. c.frames_in) (λ e. cond (is_coming e) 1 0) frame_in refl events;
  octets_in = from_new (λ c. c.octets_in) octets_coming octets_in refl events;
  frames_out = from_new (λ c. c.frames_out) (λ e. cond (is_going e) 1 0) frame_out refl events;
  octets_out = from_new (λ c. c.octets_out) octets_going octets_out refl events;
  short = drops_tallied Short refl refl events;
  other_mac = drops_tallied OtherMac refl refl events;
  other_type = drops_tallied OtherType refl refl events;
  ip_header = drops_tallied IpHeader refl refl events;
  ip_sum = drops_tallied IpSum refl refl events;
  other_address = drops_tallied OtherAddress refl refl events;
  upper_header = drops_tallied UpperHeader refl refl events;
  upper_sum = drops_tallied UpperSum refl refl events;
  fragment = drops_tallied Fragment refl refl events;
  backlog = lacks_tallied Backlog refl events;
  table = lacks_tallied Table refl events;
  memory = lacks_tallied Memory refl events;
  replies = lacks_tallied Replies refl events;
  queue = lacks_tallied Queue refl events;
  reassembly = lacks_tallied Reassembly refl events;
  route = lacks_tallied Route refl events;
  replies_given_up = from_new (λ c. c.given_up.replies) (λ e. (given_up_at e).replies) replies_step refl events;
  resets_given_up = from_new (λ c. c.given_up.resets) (λ e. (given_up_at e).resets) resets_step refl events;
  datagrams_given_up = from_new (λ c. c.given_up.datagrams) (λ e. (given_up_at e).datagrams) datagrams_step refl events;
}
