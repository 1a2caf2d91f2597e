-- Fragments at a host on its guard, and at one that isn't.
use Rattle.frames.specs.declared.drop.DropCause.TheVariants.{NoRoom}
use Rattle.std.proofs.Common.{◌≡◌, ◌↔◌, ℕ, ◌<◌, ◌&&◌, ◌||◌, not, Bool, true, false, cond, nat_lt, List, length, get_or, Option, Some, None, is_none, is_some, option_map, take, Result, Ok, Err, refl, sym, ◌∙◌, ap, subst, arith}
use Rattle.std.specs.List.{position}
use Rattle.std.specs.Option.{option_or}
use Rattle.std.proofs.lemmas.Bool.Decides.{nat_tests}
use Rattle.std.proofs.lemmas.List.Folds.{list_any_at}
use Rattle.std.proofs.lemmas.List.Quantifiers.{position-Some}
use Rattle.ipv4.specs.declared.addr.Addr.{Addr}
use Rattle.ipv4.specs.Datagram.{Datagram}
use Rattle.clock.specs.declared.moment.Moment.{Moment}
use Rattle.clock.specs.Moments.{after}
use Rattle.frames.specs.declared.drop.DropCause.{DropCause}
use Rattle.frames.specs.declared.meaning.Meaning.{Meaning}
use Rattle.frames.specs.declared.meaning.Meaning.TheVariants.{UdpFragment}
use Rattle.frames.specs.Heard.{IsWhole}
use Rattle.frames.proofs.Hearers.{fragments_are_parts}
use Rattle.reassembly.specs.Events.{has_place}
use Rattle.reassembly.specs.Fragments.{ends_within, key_of}
use Rattle.reassembly.specs.Lately.{noted, was_whole, with_room}
use Rattle.reassembly.specs.Places.{after_take, fits, is_of, outcome_at, place_for, without_oldest, LosesOldest}
use Rattle.reassembly.specs.Reassembly.{Outcome, PoolView, Reassembly, begun, continued, outcome_within}
use Rattle.reassembly.specs.Reassembly.Outcome.{Completes}
use Rattle.reassembly.proofs.Rooms.{alone_within}
use Rattle.reassembly.proofs.Late.{noted_is}
use Rattle.reassembly.proofs.Oldest.{oldest_gone, room_left}
use Rattle.reassembly.proofs.OverEvents.{none_at}
use Rattle.sockets.specs.declared.datagrams.Reception.{Reception}
use Rattle.sockets.specs.declared.datagrams.Reception.TheVariants as socket
use Rattle.sockets.specs.Datagrams.{reception}
use Rattle.sockets.specs.SocketsView.{later_moment}
use Rattle.udp.specs.declared.fault.UdpFault.{UdpFault}
use Rattle.udp.specs.Datagram.{UserDatagram}
use Rattle.udp.specs.Reading.{datagram_or_fault}
use Rattle.host.specs.declared.lack.Lack.TheVariants.{Reassembly as NoPlace}
use Rattle.host.specs.Arrival.{IsDelivered, IsLaid, MeetsFragment, MeetsHeard, after_outcome, after_payload, after_user_datagram, fragment_outcome, is_late_copy, pool_for, with_noted}
use Rattle.host.specs.Heard.{heard_by}
use Rattle.host.specs.HostView.{HostView, with_lately, with_pool}
use Rattle.host.specs.Lack.{lack, lack_of}
use Rattle.host.proofs.Guarded.{meant_by}

-- a fragment that is heard is a part of a datagram
pub is-part : (h : HostView) (octets : List ℕ) (d : Datagram) → heard_by h octets ≡ Ok (UdpFragment d) → IsWhole d → ⊥
is-part h octets d is = (fragments_are_parts h.interface.mac h.interface.addr octets d (meant_by h octets (UdpFragment d) is)).1

-- one that makes its datagram whole finds others of it
pub record FindsOthers (d : Datagram) (pool : PoolView) : Type 0 where
  pub own : has_place (key_of d) pool ≡ true
  pub placed : is_none (place_for d pool) ≡ false

none-is : (o : Option Reassembly) → is_none o ≡ true → o ≡ None
none-is None e = refl
none-is (Some r) e = cc

pub finds-others : (moment : Moment) (d : Datagram) (pool : PoolView) (payload quote : List ℕ) → (IsWhole d → ⊥) → fragment_outcome moment d pool ≡ Some (Completes payload quote) → FindsOthers d pool
finds-others moment d pool payload quote part comes = by_own (position (is_of (key_of d)) pool.places) refl
  where
    places : List (Option Reassembly)
    places = pool.places

    alone : (i : ℕ) → get_or places i None ≡ None → outcome_at moment d pool i ≡ Completes payload quote → FindsOthers d pool
    alone i free e =
        let begins : outcome_within pool.octets d (begun moment d) ≡ Completes payload quote = sym (ap (λ (o : Option Reassembly). outcome_within pool.octets d (continued moment d o)) free) ∙ e in
        absurd (part (alone_within pool.octets moment d payload quote begins))

    by_free : (o : Option ℕ) (fit : Bool) → position is_none places ≡ o → option_map (outcome_at moment d pool) (cond fit o None) ≡ Some (Completes payload quote) → FindsOthers d pool
    by_free None true e f = cc
    by_free o false e f = cc
    by_free (Some i) true e f =
        let is = position-Some is_none places i None e in
        let same : outcome_at moment d pool i ≡ Completes payload quote = cc in
        alone i (none-is (get_or places i None) is.1) same

    by_own : (o : Option ℕ) → position (is_of (key_of d)) places ≡ o → FindsOthers d pool
    by_own (Some i) e =
        let is = position-Some (is_of (key_of d)) places i None e in
        record {
          own = list_any_at (is_of (key_of d)) places i None is.0 is.1;
          placed = ap (λ (o : Option ℕ). is_none (option_or o (cond (ends_within pool.octets d) (position is_none places) None))) e;
        }
    by_own None e =
        by_free (position is_none places) (ends_within pool.octets d) refl
        (sym (ap (λ (o : Option ℕ). option_map (outcome_at moment d pool) (option_or o (cond (ends_within pool.octets d) (position is_none places) None))) e) ∙ comes)

-- a fragment that has a place leaves the others there ..
pub keeps-places : (guards : Bool) (d : Datagram) (pool : PoolView) → is_none (place_for d pool) ≡ false → pool_for guards d pool ≡ pool
keeps-places guards d pool placed = ap (λ (b : Bool). cond (guards && fits pool d && b) (without_oldest pool) pool) placed ∙ by_guards guards (fits pool d)
  where
    by_guards : (b fit : Bool) → cond (b && fit && false) (without_oldest pool) pool ≡ pool
    by_guards true true = refl
    by_guards true false = refl
    by_guards false fit = refl

-- .. and is no late copy where its datagram is being put together
pub no-copy : (h : HostView) (moment : Moment) (d : Datagram) → has_place (key_of d) h.pool ≡ true → is_late_copy h moment d ≡ false
no-copy h moment d own =
    ap (λ (b : Bool). h.sockets.manner.guards && not b && was_whole (key_of d) moment h.lately) own ∙ never h.sockets.manner.guards (was_whole (key_of d) moment h.lately)
  where
    never : (a b : Bool) → (a && false && b) ≡ false
    never true b = refl
    never false b = refl

-- so it is laid into the pool as it is
pub completes-there : (h : HostView) (moment : Moment) (d : Datagram) (payload quote : List ℕ) (answer : Result (Unit {0}) DropCause) (new : HostView) → FindsOthers d h.pool
    → fragment_outcome moment d h.pool ≡ Some (Completes payload quote)
    → MeetsFragment (fragment_outcome moment d (pool_for h.sockets.manner.guards d h.pool)) (is_late_copy h moment d) h moment d answer new
    → (answer ≡ Ok tt) × (new ≡ after_outcome (Completes payload quote) (with_pool h (after_take moment d h.pool)) moment d)
completes-there h moment d payload quote answer new others comes met =
    let same = keeps-places h.sockets.manner.guards d h.pool others.placed in
    let here : MeetsFragment (Some (Completes payload quote)) false h moment d answer new =
    subst (λ (b : Bool). MeetsFragment (Some (Completes payload quote)) b h moment d answer new) (no-copy h moment d others.own)
    (subst (λ (o : Option Outcome). MeetsFragment o (is_late_copy h moment d) h moment d answer new) (ap (fragment_outcome moment d) same ∙ comes) met) in
    (here.0, here.1 ∙ ap (λ (pool : PoolView). after_outcome (Completes payload quote) (with_pool h (after_take moment d pool)) moment d) same)

-- On guard each fragment finds a place ..
some-none : {X : Type 0} (o : Option X) → is_some o ≡ true → is_none o ≡ false
some-none None e = cc
some-none (Some x) e = refl

chosen : (guards : Bool) (d : Datagram) (pool : PoolView) (b : Bool) → guards ≡ true → fits pool d ≡ true → is_none (place_for d pool) ≡ b → pool_for guards d pool ≡ cond b (without_oldest pool) pool
chosen guards d pool b on fit placed =
    ap (λ (x : Bool). cond (x && fits pool d && is_none (place_for d pool)) (without_oldest pool) pool) on ∙ ap (λ (x : Bool). cond (true && x && is_none (place_for d pool)) (without_oldest pool) pool) fit
    ∙ ap (λ (x : Bool). cond x (without_oldest pool) pool) placed

pub always-placed : (guards : Bool) (d : Datagram) (pool : PoolView) → guards ≡ true → fits pool d ≡ true → is_none (place_for d (pool_for guards d pool)) ≡ false
always-placed guards d pool on some = by_test (is_none (place_for d pool)) refl
  where
    by_test : (b : Bool) → is_none (place_for d pool) ≡ b → is_none (place_for d (pool_for guards d pool)) ≡ false
    by_test true e =
        ap (λ (p : PoolView). is_none (place_for d p)) (chosen guards d pool true on some e) ∙ some-none (place_for d (without_oldest pool)) (room_left pool d some)
    by_test false e = ap (λ (p : PoolView). is_none (place_for d p)) (chosen guards d pool false on some e) ∙ e

-- .. since the oldest gives way to it
both_true : (a b : Bool) → (a && b) ≡ true → (a ≡ true) × (b ≡ true)
both_true true b e = (refl, e)
both_true false b e = cc

none-free : (a b : Option ℕ) → option_or a b ≡ None → b ≡ None
none-free None b e = e
none-free (Some x) b e = cc

pub oldest-goes : (guards : Bool) (d : Datagram) (pool : PoolView) → guards ≡ true → fits pool d ≡ true → place_for d pool ≡ None → LosesOldest pool.places (let left = pool_for guards d pool in left.places)
oldest-goes guards d pool on fit none =
    subst (λ (left : PoolView). LosesOldest places left.places) (sym (chosen guards d pool true on fit (ap (λ (o : Option ℕ). is_none o) none))) (by_first (get_or places 0 None) refl)
  where
    places : List (Option Reassembly)
    places = pool.places

    parts : (nat_lt 0 (length places) ≡ true) × (ends_within pool.octets d ≡ true)
    parts = both_true (nat_lt 0 (length places)) (ends_within pool.octets d) fit

    some : 0 < length places
    some = let is : nat_lt 0 (length places) ≡ true = parts.0 in grind (arith, nat_tests, is)

    none_free : position is_none places ≡ None
    none_free = none-free (position (is_of (key_of d)) places) (position is_none places) (ap (λ (b : Bool). option_or (position (is_of (key_of d)) places) (cond b (position is_none places) None)) (sym parts.1) ∙ none)

    by_first : (o : Option Reassembly) → get_or places 0 None ≡ o → LosesOldest places (without_oldest pool).places
    by_first (Some r) e = oldest_gone pool 0 r e
    by_first None e =
        let taken : is_none (get_or places 0 None) ≡ false = none_at is_none places None none_free 0 some in
        let free : is_none (get_or places 0 None) ≡ true = ap (λ (o : Option Reassembly). is_none o) e in
        let both : true ≡ false = sym free ∙ taken in cc

-- to a fragment that no place has room for none gives way
pub none-for-long : (guards : Bool) (d : Datagram) (pool : PoolView) → fits pool d ≡ false → pool_for guards d pool ≡ pool
none-for-long guards d pool long = ap (λ (b : Bool). cond (guards && b && is_none (place_for d pool)) (without_oldest pool) pool) long ∙ by_guards guards
  where
    by_guards : (b : Bool) → cond (b && false && is_none (place_for d pool)) (without_oldest pool) pool ≡ pool
    by_guards true = refl
    by_guards false = refl

pub none-goes : (guards : Bool) (d : Datagram) (pool : PoolView) (place : ℕ) → place_for d pool ≡ Some place → pool_for guards d pool ≡ pool
none-goes guards d pool place e = keeps-places guards d pool (ap (λ (o : Option ℕ). is_none o) e)

-- what is delivered is met as a fragment
fragment-met : (h : HostView) (now : Moment) (isn : ℕ) (octets : List ℕ) (d : Datagram) (answer : Result (Unit {0}) DropCause) (new : HostView) → heard_by h octets ≡ Ok (UdpFragment d) → IsDelivered h now isn octets answer new
    → MeetsHeard (Ok (UdpFragment d)) h (later_moment h.sockets now) isn answer new
fragment-met h now isn octets d answer new is delivered = subst (λ (m : Result Meaning DropCause). MeetsHeard m h (later_moment h.sockets now) isn answer new) is delivered

pub always-taken : (h : HostView) (now : Moment) (isn : ℕ) (octets : List ℕ) (d : Datagram) (answer : Result (Unit {0}) DropCause) (new : HostView) → h.sockets.manner.guards ≡ true → fits h.pool d ≡ true
    → heard_by h octets ≡ Ok (UdpFragment d) → IsDelivered h now isn octets answer new → answer ≡ Ok tt
always-taken h now isn octets d answer new on some is delivered =
    by_place (place_for d room) (is_late_copy h moment d) (always-placed h.sockets.manner.guards d h.pool on some) (fragment-met h now isn octets d answer new is delivered)
  where
    moment : Moment
    moment = later_moment h.sockets now

    room : PoolView
    room = pool_for h.sockets.manner.guards d h.pool

    by_place : (o : Option ℕ) (late : Bool) → is_none o ≡ false → MeetsFragment (option_map (outcome_at moment d room) o) late h moment d answer new → answer ≡ Ok tt
    by_place None late placed met = cc
    by_place (Some i) true placed met = met.0
    by_place (Some i) false placed met = met.0

-- a late copy changes nothing
pub copy-is-nothing : (h : HostView) (now : Moment) (isn : ℕ) (octets : List ℕ) (d : Datagram) (answer : Result (Unit {0}) DropCause) (new : HostView) → is_late_copy h (later_moment h.sockets now) d ≡ true
    → heard_by h octets ≡ Ok (UdpFragment d) → IsDelivered h now isn octets answer new → new ≡ h
copy-is-nothing h now isn octets d answer new late is delivered =
    by_place (place_for d room) (subst (λ (b : Bool). MeetsFragment (fragment_outcome moment d room) b h moment d answer new) late (fragment-met h now isn octets d answer new is delivered))
  where
    moment : Moment
    moment = later_moment h.sockets now

    room : PoolView
    room = pool_for h.sockets.manner.guards d h.pool

    by_place : (o : Option ℕ) → MeetsFragment (option_map (outcome_at moment d room) o) true h moment d answer new → new ≡ h
    by_place None met = met.1
    by_place (Some i) met = met.1

-- nothing is wanted for it
pub nothing-lacks : (h : HostView) (octets : List ℕ) (d : Datagram) → h.sockets.manner.guards ≡ true → fits h.pool d ≡ true → heard_by h octets ≡ Ok (UdpFragment d) → lack h octets ≡ None
nothing-lacks h octets d on some is =
    ap (lack_of h) is ∙ ap (λ (b : Bool). cond b (Some NoPlace) None) (always-placed h.sockets.manner.guards d h.pool on some)

-- and what it makes whole is known as whole
lately-user : (to : Reception) (g : HostView) (moment : Moment) (source : Addr) (u : UserDatagram) (quote : List ℕ) → (let after = after_user_datagram to g moment source u quote in after.lately) ≡ g.lately
lately-user socket.Queued g moment source u quote = refl
lately-user socket.NoRoom g moment source u quote = refl
lately-user socket.NoSocket g moment source u quote = refl

lately-payload : (read : Result UserDatagram UdpFault) (g : HostView) (moment : Moment) (source : Addr) (quote : List ℕ) → (let after = after_payload read g moment source quote in after.lately) ≡ g.lately
lately-payload (Ok u) g moment source quote = lately-user (reception g.sockets u) g moment source u (take 68 quote)
lately-payload (Err fault) g moment source quote = refl

pub whole-is-known : (h : HostView) (now later : Moment) (isn : ℕ) (octets : List ℕ) (d : Datagram) (payload quote : List ℕ) (answer : Result (Unit {0}) DropCause) (new : HostView) → h.sockets.manner.guards ≡ true
    → heard_by h octets ≡ Ok (UdpFragment d) → fragment_outcome (later_moment h.sockets now) d h.pool ≡ Some (Completes payload quote) → IsDelivered h now isn octets answer new
    → (let end = after (later_moment h.sockets now) 1000 in later.0 < end.0) → was_whole (key_of d) later new.lately ≡ true
whole-is-known h now later isn octets d payload quote answer new on is comes delivered soon =
    let others = finds-others moment d h.pool payload quote (is-part h octets d is) comes in
    let made = completes-there h moment d payload quote answer new others comes (fragment-met h now isn octets d answer new is delivered) in
    let noted_there : new.lately ≡ noted (key_of d) moment h.lately =
    ap (λ (g : HostView). g.lately) made.1
    ∙ lately-payload (datagram_or_fault d.source d.destination payload) (with_noted (with_pool h (after_take moment d h.pool)) moment d) moment d.source quote
    ∙ ap (λ (b : Bool). cond b (noted (key_of d) moment h.lately) h.lately) on in
    ap (was_whole (key_of d) later) noted_there ∙ noted_is h.lately (key_of d) moment later
    ∙ ap (λ (b : Bool). b || was_whole (key_of d) later (with_room h.lately)) (soon_so later.0 (let end = after moment 1000 in end.0) soon)
  where
    moment : Moment
    moment = later_moment h.sockets now

    soon_so : (a b : ℕ) → a < b → nat_lt a b ≡ true
    soon_so a b less = grind (arith, nat_tests)

-- Without guards all is as it was.
pub unguarded-pool : (guards : Bool) (d : Datagram) (pool : PoolView) → guards ≡ false → pool_for guards d pool ≡ pool
unguarded-pool guards d pool off = ap (λ (b : Bool). cond (b && fits pool d && is_none (place_for d pool)) (without_oldest pool) pool) off

pub unguarded-copy : (h : HostView) (moment : Moment) (d : Datagram) → h.sockets.manner.guards ≡ false → is_late_copy h moment d ≡ false
unguarded-copy h moment d off = ap (λ (b : Bool). b && not (has_place (key_of d) h.pool) && was_whole (key_of d) moment h.lately) off

pub unguarded-noted : (h : HostView) (moment : Moment) (d : Datagram) → h.sockets.manner.guards ≡ false → with_noted h moment d ≡ h
unguarded-noted h moment d off = ap (λ (b : Bool). with_lately h (cond b (noted (key_of d) moment h.lately) h.lately)) off

pub as-before : (h : HostView) (moment : Moment) (isn : ℕ) (d : Datagram) (answer : Result (Unit {0}) DropCause) (new : HostView) → h.sockets.manner.guards ≡ false
    → MeetsHeard (Ok (UdpFragment d)) h moment isn answer new ↔ IsLaid (fragment_outcome moment d h.pool) h moment d answer new
as-before h moment isn d answer new off =
    let pools = unguarded-pool h.sockets.manner.guards d h.pool off in
    let copy = unguarded-copy h moment d off in (
      λ met. there (fragment_outcome moment d h.pool)
          (subst (λ (b : Bool). MeetsFragment (fragment_outcome moment d h.pool) b h moment d answer new) copy
          (subst (λ (p : PoolView). MeetsFragment (fragment_outcome moment d p) (is_late_copy h moment d) h moment d answer new) pools met)),
      λ laid. subst (λ (p : PoolView). MeetsFragment (fragment_outcome moment d p) (is_late_copy h moment d) h moment d answer new) (sym pools)
          (subst (λ (b : Bool). MeetsFragment (fragment_outcome moment d h.pool) b h moment d answer new) (sym copy) (back (fragment_outcome moment d h.pool) laid)),
    )
  where
    there : (o : Option Outcome) → MeetsFragment o false h moment d answer new → IsLaid o h moment d answer new
    there None met = met
    there (Some o) met = (met.0, met.1 ∙ ap (λ (p : PoolView). after_outcome o (with_pool h (after_take moment d p)) moment d) (unguarded-pool h.sockets.manner.guards d h.pool off))

    back : (o : Option Outcome) → IsLaid o h moment d answer new → MeetsFragment o false h moment d answer new
    back None laid = laid
    back (Some o) laid = (laid.0, laid.1 ∙ ap (λ (p : PoolView). after_outcome o (with_pool h (after_take moment d p)) moment d) (sym (unguarded-pool h.sockets.manner.guards d h.pool off)))

-- What the code asks for.

-- a fragment that is told to have no place has none
pub no-place : (o : Option ℕ) → is_some o ≡ false → is_none o ≡ true
no-place None e = refl
no-place (Some i) e = cc

pub room_made : (guards : Bool) (d : Datagram) (pool : PoolView) → guards ≡ true → fits pool d ≡ true → is_some (place_for d pool) ≡ false → without_oldest pool ≡ pool_for guards d pool
room_made guards d pool on fit none = sym (chosen guards d pool true on fit (no-place (place_for d pool) none))

-- one is found where there is one, or on guard where a place has room
placed-some : (o : Option ℕ) → is_none o ≡ false → true ≡ is_some o
placed-some None e = cc
placed-some (Some i) e = refl

pub finds-place : (guards : Bool) (d : Datagram) (pool : PoolView) (found roomy : Bool) → found ≡ is_some (place_for d pool) → roomy ≡ fits pool d → (found || (guards && roomy)) ≡ is_some (place_for d (pool_for guards d pool))
finds-place guards d pool true roomy found room =
    let there : is_none (place_for d pool) ≡ false = some-none (place_for d pool) (sym found) in
    found ∙ ap (λ (p : PoolView). is_some (place_for d p)) (sym (keeps-places guards d pool there))
finds-place true d pool false true found room = placed-some (place_for d (pool_for true d pool)) (always-placed true d pool refl (sym room))
finds-place true d pool false false found room = found ∙ ap (λ (p : PoolView). is_some (place_for d p)) (sym (none-for-long true d pool (sym room)))
finds-place false d pool false roomy found room = found

-- where there is none it is dropped
pub unplaced-meets : (h : HostView) (moment : Moment) (d : Datagram) (answer : Result (Unit {0}) DropCause) (new : HostView) → is_some (place_for d (pool_for h.sockets.manner.guards d h.pool)) ≡ false → answer ≡ Err NoRoom → new ≡ h
    → MeetsFragment (fragment_outcome moment d (pool_for h.sockets.manner.guards d h.pool)) (is_late_copy h moment d) h moment d answer new
unplaced-meets h moment d answer new none dropped same = by_place (place_for d room) none
  where
    room : PoolView
    room = pool_for h.sockets.manner.guards d h.pool

    by_place : (o : Option ℕ) → is_some o ≡ false → MeetsFragment (option_map (outcome_at moment d room) o) (is_late_copy h moment d) h moment d answer new
    by_place None e = (dropped, same)
    by_place (Some i) e = cc

-- else a late copy is met by nothing
pub copy-meets : (h : HostView) (moment : Moment) (d : Datagram) (answer : Result (Unit {0}) DropCause) (new : HostView) → is_some (place_for d (pool_for h.sockets.manner.guards d h.pool)) ≡ true → is_late_copy h moment d ≡ true
    → answer ≡ Ok tt → new ≡ h → MeetsFragment (fragment_outcome moment d (pool_for h.sockets.manner.guards d h.pool)) (is_late_copy h moment d) h moment d answer new
copy-meets h moment d answer new some late is same =
    subst (λ (b : Bool). MeetsFragment (fragment_outcome moment d room) b h moment d answer new) (sym late) (by_place (place_for d room) some)
  where
    room : PoolView
    room = pool_for h.sockets.manner.guards d h.pool

    by_place : (o : Option ℕ) → is_some o ≡ true → MeetsFragment (option_map (outcome_at moment d room) o) true h moment d answer new
    by_place None placed = cc
    by_place (Some i) placed = (is, same)

-- and any other is met as it is laid there
pub laid-meets : (h : HostView) (moment : Moment) (d : Datagram) (answer : Result (Unit {0}) DropCause) (new : HostView) → is_some (place_for d (pool_for h.sockets.manner.guards d h.pool)) ≡ true → is_late_copy h moment d ≡ false
    → (let room = pool_for h.sockets.manner.guards d h.pool in IsLaid (fragment_outcome moment d room) (with_pool h room) moment d answer new)
    → MeetsFragment (fragment_outcome moment d (pool_for h.sockets.manner.guards d h.pool)) (is_late_copy h moment d) h moment d answer new
laid-meets h moment d answer new some late laid =
    subst (λ (b : Bool). MeetsFragment (fragment_outcome moment d room) b h moment d answer new) (sym late) (by_place (place_for d room) some laid)
  where
    room : PoolView
    room = pool_for h.sockets.manner.guards d h.pool

    by_place : (o : Option ℕ) → is_some o ≡ true → IsLaid (option_map (outcome_at moment d room) o) (with_pool h room) moment d answer new
        → MeetsFragment (option_map (outcome_at moment d room) o) false h moment d answer new
    by_place None e met = cc
    by_place (Some i) e met = met
