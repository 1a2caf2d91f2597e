-- What waits: until when, in which order, and what a request leaves.
use Rattle.std.proofs.Common.{◌≡◌, ◌≢◌, ℕ, zero, suc, ◌<◌, ◌≤◌, Bool, true, false, not, ◌&&◌, nat_le, cond, if◌then◌else◌, List, [], ◌∷◌, ◌++◌, length, get_or, find, filter, fold, remove, All, Contains, Option, Some, None, is_some, refl, sym, ◌∙◌, ap, arith, subst}
use Rattle.std.specs.List.{position, position_or_len, slice_get}
use Rattle.std.proofs.lemmas.Bool.{lt-leb, ltb-false}
use Rattle.std.proofs.lemmas.Bool.Decides.{nat_tests}
use Rattle.std.proofs.lemmas.List.Quantifiers.{position-Some}
use Rattle.std.proofs.lemmas.List.Folds.{find_at}
use Rattle.std.proofs.lemmas.Option.{slice_get-get_or, slice_get_past, get_or_from_slice_get}
use Rattle.ether.specs.declared.mac.Mac.{Mac}
use Rattle.ipv4.specs.declared.addr.Addr.{Addr}
use Rattle.clock.specs.declared.moment.Moment.{Moment}
use Rattle.arp.specs.declared.entry.Asked.{Asked}
use Rattle.arp.specs.declared.packet.ArpPacket.{ArpPacket}
use Rattle.arp.specs.Cache.{Cache, is_live, look, may_ask, after_age, after_ask}
use Rattle.arp.specs.Events.{Event, moment_of, after_event}
use Rattle.arp.proofs.Kept.{aging_hides_nothing, noted_while_live, noted_at_once}
use Rattle.interface.specs.declared.reply.Reply.{Reply}
use Rattle.interface.specs.declared.reply.Reply.TheVariants.{Arp, Reset, Echo, Error}
use Rattle.interface.specs.declared.reply.Waiting.{Waiting}
use Rattle.interface.specs.declared.way.Way.{Way}
use Rattle.interface.specs.declared.way.Way.TheVariants.{To, Ask, Waits}
use Rattle.interface.specs.InterfaceView.{InterfaceView}
use Rattle.interface.specs.Routing.{next_hop}
use Rattle.interface.specs.Ways.{mac_of, knows_hop, way_by_mac, way_over, way}
use Rattle.interface.specs.Replies.{way_of, goes_out, is_due}
use Rattle.interface.specs.Emission.{request_frame, frame_by, left_by, reply_len, len_by, way_of_one, way_at, frame_of_one, frame_at, len_of_one, len_at, after_emission}
use Rattle.interface.specs.Timing.{sought, is_unknown, end_of, is_over, lacks_hop, stays, after_tick}

-- A hop is known after ageing where it was known before.

aged_mac : (now : Moment) (cache : Cache) (hop : Option Addr) → mac_of now (after_age now cache) hop ≡ mac_of now cache hop
aged_mac now cache None = refl
aged_mac now cache (Some hop) = aging_hides_nothing cache now now hop (omega arith)

pub aging_hides_no_hop : (h : InterfaceView) (now : Moment) (to : Addr) → knows_hop (record h { cache = after_age now h.cache }) now to ≡ knows_hop h now to
aging_hides_no_hop h now to = ap (λ (o : Option Mac). is_some o) (aged_mac now h.cache (next_hop h.routes to))

-- What a filter keeps, and what it doesn't.

pub kept : {X : Type 0} (p : X → Bool) (xs : List X) (x : X) → p x ≡ true → Contains xs x → Contains (filter p xs) x
kept p [] x e at = absurd (omega (arith, at.1))
kept {X} p (y ∷ ys) x e at = by_test (λ rest. kept p ys x e rest) (p y) refl
  where
    behind : p y ≡ false → (k : ℕ) → k < length (y ∷ ys) → get_or (y ∷ ys) k x ≡ x → Contains ys x
    behind out zero within is = absurd (let same : p y ≡ true = ap p is ∙ e in cc)
    behind out (suc k) within is = (k, omega (arith, within), is)

    ahead : (Contains ys x → Contains (filter p ys) x) → (k : ℕ) → k < length (y ∷ ys) → get_or (y ∷ ys) k x ≡ x → Contains (y ∷ filter p ys) x
    ahead rest zero within is = (0, omega arith, is)
    ahead rest (suc k) within is =
        let more = rest (k, omega (arith, within), is) in (suc more.0, omega (arith, more.1), more.2)

    by_test : (Contains ys x → Contains (filter p ys) x) → (b : Bool) → p y ≡ b → Contains (cond b (y ∷ filter p ys) (filter p ys)) x
    by_test rest true e' = ahead rest at.0 at.1 at.2
    by_test rest false e' = rest (behind e' at.0 at.1 at.2)

pub dropped : {X : Type 0} (p : X → Bool) (xs : List X) (x : X) → p x ≡ false → ¬ Contains (filter p xs) x
dropped p [] x e = λ at. absurd (omega (arith, at.1))
dropped p (y ∷ ys) x e = by_test (dropped p ys x e) (p y) refl
  where
    first : (¬ Contains (filter p ys) x) → p y ≡ true → (k : ℕ) → k < length (y ∷ filter p ys) → get_or (y ∷ filter p ys) k x ≡ x → ⊥
    first rest in_it zero within is = absurd (let same : p y ≡ false = ap p is ∙ e in cc)
    first rest in_it (suc k) within is = rest (k, omega (arith, within), is)

    by_test : (¬ Contains (filter p ys) x) → (b : Bool) → p y ≡ b → ¬ Contains (cond b (y ∷ filter p ys) (filter p ys)) x
    by_test rest true e' = λ at. first rest e' at.0 at.1 at.2
    by_test rest false e' = rest

never_both : (b : Bool) → (b && false) ≡ false
never_both true = refl
never_both false = refl

pub early : (h : InterfaceView) (now : Moment) (w : Waiting) → Contains h.replies w → now.0 < (end_of w).0 → Contains (after_tick h now).replies w
early h now w here before =
    let end : Moment = end_of w in
    let less : now.0 < end.0 = before in
    let over : nat_le end.0 now.0 ≡ false = lt-leb end.0 now.0 less in
    let stays_so : stays h now w ≡ true = ap (λ b. not (lacks_hop h now w && b)) over ∙ ap not (never_both (lacks_hop h now w)) in
    kept (stays h now) h.replies w stays_so here

pub packet_kept : (h : InterfaceView) (now since : Moment) (packet : ArpPacket) → let w : Waiting = record { since = since; reply = Arp packet } in
    Contains h.replies w → Contains (after_tick h now).replies w
packet_kept h now since packet here = kept (stays h now) h.replies (record { since = since; reply = Arp packet }) refl here

-- whether a reply for this address stays
stays_by : (h : InterfaceView) (now : Moment) (w : Waiting) (to : Addr) (known : Bool) → sought w.reply ≡ Some to → knows_hop h now to ≡ known
    → stays h now w ≡ not (not known && is_over now w)
stays_by h now w to known seeks is =
    ap (λ o. not (is_unknown h.routes h.cache now o && is_over now w)) seeks ∙ ap (λ b. not (not b && is_over now w)) is

pub known_kept : (h : InterfaceView) (now : Moment) (w : Waiting) (to : Addr) → sought w.reply ≡ Some to → Contains h.replies w → knows_hop h now to ≡ true
    → Contains (after_tick h now).replies w
known_kept h now w to seeks here known = kept (stays h now) h.replies w (stays_by h now w to true seeks known) here

pub over_dropped : (h : InterfaceView) (now : Moment) (w : Waiting) (to : Addr) → sought w.reply ≡ Some to → knows_hop h now to ≡ false → (end_of w).0 ≤ now.0
    → ¬ Contains (after_tick h now).replies w
over_dropped h now w to seeks unknown past =
    let end : Moment = end_of w in
    let order : end.0 ≤ now.0 = past in
    let over : nat_le end.0 now.0 ≡ true = grind (arith, nat_tests, order) in
    dropped (stays h now) h.replies w (stays_by h now w to false seeks unknown ∙ ap not over)

-- What waits leaves in order.

waits_by : (way : Way) → goes_out way ≡ false → way ≡ Waits
waits_by (To mac) e = absurd cc
waits_by (Ask hop) e = absurd cc
waits_by Waits e = refl

one_waits : (h : InterfaceView) (now : Moment) (k : ℕ) → ((w : Waiting) → slice_get h.replies k ≡ Some w → is_due h now w ≡ false) → way_at h now k ≡ Waits
one_waits h now k not_due = by_one (slice_get h.replies k) refl
  where
    by_one : (o : Option Waiting) → slice_get h.replies k ≡ o → way_of_one h now o ≡ Waits
    by_one None e = refl
    by_one (Some w) e = waits_by (way_of h now w.reply) (not_due w e)

none_from_cond : {A : Type 0} (b : Bool) (x : A) → cond b (Some x) None ≡ None → b ≡ false
none_from_cond true x e = absurd cc
none_from_cond false x e = refl

none_found : {X : Type 0} (p : X → Bool) (xs : List X) → position p xs ≡ None → find p xs ≡ None
none_found p xs none =
    let past : length xs ≤ position_or_len p xs = ltb-false _ _ (none_from_cond _ _ none) in
    find_at p xs ∙ slice_get_past xs (position_or_len p xs) past

none_passes : {X : Type 0} (p : X → Bool) (xs : List X) → find p xs ≡ None → (k : ℕ) (x : X) → slice_get xs k ≡ Some x → p x ≡ false
none_passes p [] none k x e = absurd cc
none_passes {X} p (y ∷ ys) none k x e = by_test (p y) refl none (λ rest k' e'. none_passes p ys rest k' x e')
  where
    by_place : p y ≡ false → ((k' : ℕ) → slice_get ys k' ≡ Some x → p x ≡ false) → (i : ℕ) → slice_get (y ∷ ys) i ≡ Some x → p x ≡ false
    by_place first rest zero at = let same : y ≡ x = cc in ap p (sym same) ∙ first
    by_place first rest (suc i) at = rest i at

    by_test : (b : Bool) → p y ≡ b → cond b (Some y) (find p ys) ≡ None → (find p ys ≡ None → (k' : ℕ) → slice_get ys k' ≡ Some x → p x ≡ false) → p x ≡ false
    by_test true first found rest = absurd cc
    by_test false first found rest = by_place first (rest found) k e

pub first_waits : (h : InterfaceView) (now : Moment) (place k : ℕ) → position (is_due h now) h.replies ≡ Some place → k < place → way_at h now k ≡ Waits
first_waits h now place k at before = one_waits h now k not_due
  where
    not_due : (w : Waiting) → slice_get h.replies k ≡ Some w → is_due h now w ≡ false
    not_due w e =
        let first = position-Some (is_due h now) h.replies place w at in
        ap (is_due h now) (sym (get_or_from_slice_get h.replies k w w e)) ∙ first.2 k before

least_len : (reply : Reply) → 60 ≤ reply_len reply
least_len (Arp packet) = omega arith
least_len (Reset to head) = omega arith
least_len (Echo to identifier number octets) = omega arith
least_len (Error to reason quoted) = omega arith

least_by : (reply : Reply) (way : Way) → goes_out way ≡ true → 60 ≤ len_by reply way
least_by reply (To mac) e = least_len reply
least_by reply (Ask hop) e = omega arith
least_by reply Waits e = absurd cc

goes_at : (h : InterfaceView) (now : Moment) (ws : List Waiting) (place : ℕ) → position (is_due h now) ws ≡ Some place
    → (place < length ws) × (60 ≤ len_of_one h now (slice_get ws place))
goes_at h now [] place at = absurd cc
goes_at h now (first ∷ ws) place at =
    let found = position-Some (is_due h now) (first ∷ ws) place first at in
    let w : Waiting = get_or (first ∷ ws) place first in
    let here : slice_get (first ∷ ws) place ≡ Some w = slice_get-get_or (first ∷ ws) place first found.0 in
    (found.0, subst (λ (n : ℕ). 60 ≤ n) (sym (ap (len_of_one h now) here)) (least_by w.reply (way_of h now w.reply) found.1))

pub first_goes : (h : InterfaceView) (now : Moment) (place : ℕ) → position (is_due h now) h.replies ≡ Some place
    → (place < length h.replies) × (60 ≤ len_at h now place)
first_goes h now place at = goes_at h now h.replies place at

pub none_waits : (h : InterfaceView) (now : Moment) (k : ℕ) → position (is_due h now) h.replies ≡ None → way_at h now k ≡ Waits
none_waits h now k none = one_waits h now k (λ w e. none_passes (is_due h now) h.replies (none_found (is_due h now) h.replies none) k w e)

remove_between : {X : Type 0} (before : List X) (x : X) (after : List X) → remove (before ++ x ∷ after) (length before) ≡ before ++ after
remove_between [] x after = refl
remove_between (y ∷ before) x after = ap (λ ys. y ∷ ys) (remove_between before x after)

pub left_in_order : (h : InterfaceView) (now : Moment) (before after : List Waiting) (w : Waiting) (mac : Mac) → h.replies ≡ before ++ w ∷ after
    → way_at h now (length before) ≡ To mac → (after_emission h now (length before)).replies ≡ before ++ after
left_in_order h now before after w mac is goes =
    ap (λ (way : Way). (left_by h now (length before) way).replies) goes
    ∙ ap (λ (ws : List Waiting). remove ws (length before)) is ∙ remove_between before w after

-- A request stands in the place of a reply.

pub request_in_place : (h : InterfaceView) (now : Moment) (place : ℕ) (hop : Addr) → way_at h now place ≡ Ask hop → frame_at h now place ≡ request_frame h hop
request_in_place h now place hop asks = by_one (slice_get h.replies place) asks
  where
    by_one : (o : Option Waiting) → way_of_one h now o ≡ Ask hop → frame_of_one h now o ≡ request_frame h hop
    by_one None e = absurd cc
    by_one (Some w) e = ap (λ (way : Way). frame_by h w.reply way) e

pub request_noted : (h : InterfaceView) (now : Moment) (place : ℕ) (hop : Addr) → way_at h now place ≡ Ask hop
    → after_emission h now place ≡ record h { cache = record { most = h.cache.most; pairs = h.cache.pairs; asked = (after_ask now hop h.cache).asked } }
request_noted h now place hop asks = ap (λ (way : Way). left_by h now place way) asks

-- A neighbour is asked for only where a request may go out.

asks_by_mac : (now : Moment) (asked : List Asked) (neighbour hop : Addr) (mac : Option Mac) → way_by_mac now asked neighbour mac ≡ Ask hop → may_ask now hop asked ≡ true
asks_by_mac now asked neighbour hop (Some mac) e = absurd cc
asks_by_mac now asked neighbour hop None e = by_test (may_ask now neighbour asked) refl e
  where
    by_test : (b : Bool) → may_ask now neighbour asked ≡ b → (let w : Way = if b then Ask neighbour else Waits in w) ≡ Ask hop → may_ask now hop asked ≡ true
    by_test true may same = let is : neighbour ≡ hop = cc in subst (λ (a : Addr). may_ask now a asked ≡ true) is may
    by_test false may same = absurd cc

asks_over : (now : Moment) (cache : Cache) (neighbour : Option Addr) (hop : Addr) → way_over now cache neighbour ≡ Ask hop → may_ask now hop cache.asked ≡ true
asks_over now cache None hop e = absurd cc
asks_over now cache (Some neighbour) hop e = asks_by_mac now cache.asked neighbour hop (look now neighbour cache) e

pub asks : (h : InterfaceView) (now : Moment) (to hop : Addr) → way h now to ≡ Ask hop → may_ask now hop h.cache.asked ≡ true
asks h now to hop e = asks_over now h.cache (next_hop h.routes to) hop e

pub reply_asks : (h : InterfaceView) (now : Moment) (reply : Reply) (hop : Addr) → way_of h now reply ≡ Ask hop → may_ask now hop h.cache.asked ≡ true
reply_asks h now (Arp packet) hop e = absurd cc
reply_asks h now (Reset to head) hop e = asks h now to hop e
reply_asks h now (Echo to identifier number octets) hop e = asks h now to hop e
reply_asks h now (Error to reason quoted) hop e = asks h now to hop e

pub asked_once : (h : InterfaceView) (now later : Moment) (to hop : Addr) (between : List Event)
    → may_ask now hop h.cache.asked ≡ true → is_live 1000 later now ≡ true → All (λ event. (moment_of event).0 ≤ later.0) between
    → way (record h { cache = fold after_event (after_ask now hop h.cache) between }) later to ≢ Ask hop
asked_once h now later to hop between may live order e =
    let refused : may_ask later hop (fold after_event (after_ask now hop h.cache) between).asked ≡ false = noted_while_live h.cache now later hop between may live order in
    let allowed : may_ask later hop (fold after_event (after_ask now hop h.cache) between).asked ≡ true =
    asks (record h { cache = fold after_event (after_ask now hop h.cache) between }) later to hop e in
    absurd cc

pub asked_at_once : (h : InterfaceView) (now : Moment) (to hop : Addr) (between : List Event)
    → may_ask now hop h.cache.asked ≡ true → All (λ event. (moment_of event).0 ≤ now.0) between
    → way (record h { cache = fold after_event (after_ask now hop h.cache) between }) now to ≢ Ask hop
asked_at_once h now to hop between may order e =
    let refused : may_ask now hop (fold after_event (after_ask now hop h.cache) between).asked ≡ false = noted_at_once h.cache now hop between may order in
    let allowed : may_ask now hop (fold after_event (after_ask now hop h.cache) between).asked ≡ true =
    asks (record h { cache = fold after_event (after_ask now hop h.cache) between }) now to hop e in
    absurd cc

-- What goes out at a place, by the way of the reply there.

-- the reply at a place, its way, and what follows
pub record GoesBy (h : InterfaceView) (now : Moment) (place : ℕ) (reply : Reply) (way : Way) : Type 0 where
  pub way_is : way_at h now place ≡ way
  pub frame_is : frame_at h now place ≡ frame_by h reply way
  pub len_is : len_at h now place ≡ len_by reply way
  pub left_is : after_emission h now place ≡ left_by h now place way

pub at_place : (h : InterfaceView) (now : Moment) (place : ℕ) (w : Waiting) (way : Way) → place < length h.replies → w ≡ get_or h.replies place w → way_of h now w.reply ≡ way
    → GoesBy h now place w.reply way
at_place h now place w way within at by =
    let here : slice_get h.replies place ≡ Some w = slice_get-get_or h.replies place w within ∙ ap (λ (v : Waiting). Some v) (sym at) in
    let is : way_at h now place ≡ way = ap (λ (o : Option Waiting). way_of_one h now o) here ∙ by in
    record {
      way_is = is;
      frame_is = ap (λ (o : Option Waiting). frame_of_one h now o) here ∙ ap (λ (v : Way). frame_by h w.reply v) by;
      len_is = ap (λ (o : Option Waiting). len_of_one h now o) here ∙ ap (λ (v : Way). len_by w.reply v) by;
      left_is = ap (λ (v : Way). left_by h now place v) is;
    }
