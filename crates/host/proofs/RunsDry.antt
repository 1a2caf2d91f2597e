-- A host runs dry: each frame leaves fewer that may follow it.
use Rattle.std.proofs.Common.{◌≡◌, ◌≢◌, ℕ, ◌+◌, ◌-◌, ◌*◌, ◌/◌, max, ◌<◌, ◌≤◌, Bool, true, false, cond, nat_lt, List, [], ◌∷◌, ◌++◌, length, Option, Some, None, is_some, option_map, refl, sym, ◌∙◌, ap, subst, arith}
use Rattle.std.specs.List.{find, position, slice_get, sum_by, AllByRecursion}
use Rattle.std.proofs.lemmas.Bool.Decides.{nat_tests}
use Rattle.std.proofs.lemmas.List.Sums.{sum_by-cons}
use Rattle.ether.specs.declared.mac.Mac.{Mac}
use Rattle.ipv4.specs.declared.addr.Addr.{Addr}
use Rattle.ipv4.specs.declared.addr.Endpoint.{Endpoint}
use Rattle.clock.specs.declared.moment.Moment.{Moment}
use Rattle.arp.specs.declared.entry.Asked.{Asked}
use Rattle.arp.specs.Cache.{Cache, after_ask, look, may_ask}
use Rattle.udp.specs.Fragments.{count_of}
use Rattle.udp.specs.Waiting.{brought_forward}
use Rattle.udp.proofs.Forward.{IsSplit, brought_split}
use Rattle.udp_socket.specs.Emission.{after_part, brought}
use Rattle.udp_socket.proofs.FirstThat.{FailAll, IsFirst, found as first-split}
use Rattle.udp_socket.specs.SocketView.{Outgoing, SocketView}
use Rattle.tcp_state.specs.declared.emission.Due.{Due}
use Rattle.tcp_state.specs.Edges.{after_first}
use Rattle.tcp_state.specs.Most.{most_due}
use Rattle.tcp_state.proofs.RunsDry.{runs_dry}
use Rattle.tcp_state.specs.declared.connection.Fate.{Fate}
use Rattle.interface.specs.declared.reply.Waiting.{Waiting}
use Rattle.interface.specs.declared.way.Way.{Way}
use Rattle.interface.specs.declared.way.Way.TheVariants.{To, Ask, Waits}
use Rattle.interface.specs.InterfaceView.{InterfaceView}
use Rattle.interface.specs.Emission.{asked, frames_left, left_by as reply_left, len_at, len_by, len_of_one, way_at, way_of_one, after_emission as after_reply}
use Rattle.interface.specs.Replies.{goes_out, is_due as is_reply_due}
use Rattle.interface.specs.Routing.{next_hop}
use Rattle.interface.specs.Ways.{knows_hop, mac_of, way, way_by_mac, way_over}
use Rattle.interface.proofs.RunsOut.{fewer as frame_fewer, one_asked}
use Rattle.interface.proofs.Waits.{first_goes}
use Rattle.sockets.specs.declared.entry.Entry.{Entry}
use Rattle.sockets.specs.declared.role.Role.{Role}
use Rattle.sockets.specs.declared.role.Role.TheVariants.{Idle, Listener, Connected, Datagrams}
use Rattle.sockets.specs.declared.emission.Outgoing.{Outgoing as What}
use Rattle.sockets.specs.Entries.{due_to, place_of, sends, is_kept, with_role, role_after_emission, emission_fate_of, entries_after_step}
use Rattle.sockets.specs.Emission.{Next, after_segment_sent, in_turn}
use Rattle.sockets.specs.Lists.{change_first, remove_first}
use Rattle.sockets.specs.SocketsView.{SocketsView, later_moment}
use Rattle.sockets.specs.Sound.{IsSoundRole}
use Rattle.sockets.proofs.Emitting.{IsFirstDatagram, first_datagram, first_segment, found_due, next-found, next-none, segment_sent-found, segment_sent-none}
use Rattle.host.specs.Dry.{fragments_left, datagrams_left, most_of, most_at, most_frames, GivesOut, NoFrame, OneMore}
use Rattle.host.specs.Emission.{Emission, Replies, Sends, Asks, Nothing, emission, emission_at, emission_by, emission_to, goes_out_from, len_of, left_by, after_emission, emission_len, table_emission}
use Rattle.host.specs.HostView.{HostView}
use Rattle.host.specs.Sound.{IsSoundHost}

-- Sums over a list of which the first that passes a test changes, or is taken out.

change-less : {X : Type 0} (f : X → ℕ) (test : X → Bool) (change : X → X) (xs : List X) (x : X) → find test xs ≡ Some x → f (change x) < f x → sum_by f (change_first test change xs) < sum_by f xs
change-less f test change [] x e less = absurd cc
change-less {X} f test change (y ∷ ys) x e less = by_test (test y) (λ found. change-less f test change ys x found less) e
  where
    by_test : (b : Bool) → (find test ys ≡ Some x → sum_by f (change_first test change ys) < sum_by f ys) → cond b (Some y) (find test ys) ≡ Some x
        → sum_by f (cond b (change y ∷ ys) (y ∷ change_first test change ys)) < sum_by f (y ∷ ys)
    by_test true rest e =
        let same : y ≡ x = cc in
        let own : f (change y) < f y = subst (λ (z : X). f (change z) < f z) (sym same) less in
        omega (arith, sum_by-cons f (change y) ys, sum_by-cons f y ys, own)
    by_test false rest e = omega (arith, rest e, sum_by-cons f y (change_first test change ys), sum_by-cons f y ys)

remove-less : {X : Type 0} (f : X → ℕ) (test : X → Bool) (xs : List X) (x : X) → find test xs ≡ Some x → 0 < f x → sum_by f (remove_first test xs) < sum_by f xs
remove-less f test [] x e some = absurd cc
remove-less {X} f test (y ∷ ys) x e some = by_test (test y) (λ found. remove-less f test ys x found some) e
  where
    by_test : (b : Bool) → (find test ys ≡ Some x → sum_by f (remove_first test ys) < sum_by f ys) → cond b (Some y) (find test ys) ≡ Some x
        → sum_by f (cond b ys (y ∷ remove_first test ys)) < sum_by f (y ∷ ys)
    by_test true rest e =
        let same : y ≡ x = cc in
        let own : 0 < f y = subst (λ (z : X). 0 < f z) (sym same) some in
        omega (arith, sum_by-cons f y ys, own)
    by_test false rest e = omega (arith, rest e, sum_by-cons f y (remove_first test ys), sum_by-cons f y ys)

step-less : (f : Role → ℕ) (test : Entry → Bool) (fate : Fate) (change : Role → Role) (xs : List Entry) (e : Entry) → find test xs ≡ Some e → f (change e.role) < f e.role
    → sum_by (λ (x : Entry). f x.role) (entries_after_step fate test change xs) < sum_by (λ (x : Entry). f x.role) xs
step-less f test fate change xs e found less = by_fate (is_kept fate)
  where
    by_fate : (b : Bool) → sum_by (λ (x : Entry). f x.role) (cond b (change_first test (with_role change) xs) (remove_first test xs)) < sum_by (λ (x : Entry). f x.role) xs
    by_fate true = change-less (λ (x : Entry). f x.role) test (with_role change) xs e found less
    by_fate false = remove-less (λ (x : Entry). f x.role) test xs e found (omega (arith, less))

sum-same : {X : Type 0} (f g : X → ℕ) → ((x : X) → f x ≡ g x) → (xs : List X) → sum_by f xs ≡ sum_by g xs
sum-same f g same [] = refl
sum-same f g same (x ∷ xs) = omega (arith, sum_by-cons f x xs, sum_by-cons g x xs, same x, sum-same f g same xs)

pub all-found : {X : Type 0} (P : X → Type 0) (test : X → Bool) (xs : List X) (x : X) → AllByRecursion P xs → find test xs ≡ Some x → P x
all-found P test [] x all e = absurd cc
all-found {X} P test (y ∷ ys) x all e = by_test (test y) (λ found. all-found P test ys x all.1 found) e
  where
    by_test : (b : Bool) → (find test ys ≡ Some x → P x) → cond b (Some y) (find test ys) ≡ Some x → P x
    by_test true rest e = subst P (let same : y ≡ x = cc in same) all.0
    by_test false rest e = rest e

-- A datagram of which one fragment more has gone out, or the last.

more-left : (len parts : ℕ) → nat_lt (1480 * (parts + 1)) len ≡ true → max 1 (count_of len - (parts + 1)) < max 1 (count_of len - parts)
more-left len parts more =
    let less : 1480 * (parts + 1) < len = grind (arith, nat_tests, more) in
    let count : parts + 2 ≤ (len + 1479) / 1480 = omega (arith, less) in
    grind (arith, nat_tests, count)

datagram-less : (known : Addr → Bool) (o : Outgoing) (rest : List Outgoing) (s : SocketView) → s.outbox ≡ o ∷ rest → known o.peer.addr ≡ true
    → datagrams_left known (let t = after_part s in t.parts) (let t = after_part s in t.outbox) < datagrams_left known s.parts s.outbox
datagram-less known o rest s is knows = by_test (nat_lt (1480 * (s.parts + 1)) (8 + length o.octets)) refl
  where
    Falls : SocketView → Type 0
    Falls t = datagrams_left known t.parts t.outbox < datagrams_left known s.parts (o ∷ rest)

    here : (parts : ℕ) → datagrams_left known parts (o ∷ rest) ≡ fragments_left parts o + datagrams_left known 0 rest
    here parts = ap (λ (b : Bool). cond b (fragments_left parts o) 0 + datagrams_left known 0 rest) knows

    after : (b : Bool) → nat_lt (1480 * (s.parts + 1)) (8 + length o.octets) ≡ b → Falls (cond b (record s { parts = s.parts + 1; outbox = o ∷ rest }) (record s { outbox = rest; parts = 0 }))
    after true more = omega (arith, here s.parts, here (s.parts + 1), more-left (8 + length o.octets) s.parts more)
    after false last = let one : 0 < fragments_left s.parts o = grind (arith, nat_tests) in omega (arith, here s.parts, one)

    by_test : (b : Bool) → nat_lt (1480 * (s.parts + 1)) (8 + length o.octets) ≡ b → datagrams_left known (let t = after_part s in t.parts) (let t = after_part s in t.outbox) < datagrams_left known s.parts s.outbox
    by_test b e =
        let then : after_part s ≡ cond b (record s { parts = s.parts + 1; outbox = o ∷ rest }) (record s { outbox = rest; parts = 0 }) =
        ap (λ (out : List Outgoing). after_part (record s { outbox = out })) is ∙ ap (λ (c : Bool). cond c (record s { parts = s.parts + 1; outbox = o ∷ rest }) (record s { outbox = rest; parts = 0 })) e in
        let falls : Falls (after_part s) = subst Falls (sym then) (after b e) in
        subst (λ (out : List Outgoing). datagrams_left known (let t = after_part s in t.parts) (let t = after_part s in t.outbox) < datagrams_left known s.parts out) (sym is) falls

-- A datagram that goes before others whose hop isn't known: of those nothing was counted.

fails-on : (known goes : Addr → Bool) → ((to : Addr) → known to ≡ true → goes to ≡ true) → (os : List Outgoing) → FailAll goes os → FailAll known os
fails-on known goes may [] none = tt
fails-on known goes may (o ∷ os) none = (by_test (known o.peer.addr) refl, fails-on known goes may os none.1)
  where
    by_test : (b : Bool) → known o.peer.addr ≡ b → known o.peer.addr ≡ false
    by_test true knows = let no : true ≡ false = sym (may o.peer.addr knows) ∙ none.0 in cc
    by_test false unknown = unknown

unknown-before : (known : Addr → Bool) (front rest : List Outgoing) → FailAll known front → datagrams_left known 0 (front ++ rest) ≡ datagrams_left known 0 rest
unknown-before known [] rest none = refl
unknown-before known (o ∷ front) rest none =
    let first : datagrams_left known 0 (o ∷ (front ++ rest)) ≡ 0 + datagrams_left known 0 (front ++ rest) = ap (λ (b : Bool). cond b (fragments_left 0 o) 0 + datagrams_left known 0 (front ++ rest)) none.0 in
    omega (arith, first, unknown-before known front rest none.1)

-- the datagram that goes first then
record IsBrought (known : Addr → Bool) (s t : SocketView) (o : Outgoing) : Type 0 where
  others : List Outgoing
  outbox : t.outbox ≡ o ∷ others
  same : datagrams_left known t.parts t.outbox ≡ datagrams_left known s.parts s.outbox

brought-first : (known : Addr → Bool) (s : SocketView) (front back : List Outgoing) (o : Outgoing) → s.outbox ≡ front ++ o ∷ back → FailAll known front → IsBrought known s (brought (length front) s) o
brought-first known s [] back o is none = record { others = back; outbox = is; same = refl }
brought-first known s (x ∷ front) back o is none =
    let all : List Outgoing = x ∷ front in
    let moved : brought_forward (length all) s.outbox ≡ o ∷ (all ++ back) = ap (λ (os : List Outgoing). brought_forward (length all) os) is ∙ brought_split all back o in
    let first : datagrams_left known s.parts (x ∷ (front ++ o ∷ back)) ≡ 0 + datagrams_left known 0 (front ++ o ∷ back) =
    ap (λ (b : Bool). cond b (fragments_left s.parts x) 0 + datagrams_left known 0 (front ++ o ∷ back)) none.0 in
    let before : datagrams_left known s.parts s.outbox ≡ datagrams_left known 0 (o ∷ back) =
    ap (λ (os : List Outgoing). datagrams_left known s.parts os) is ∙ omega (arith, first, unknown-before known front (o ∷ back) none.1) in
    let after : datagrams_left known 0 (brought_forward (length all) s.outbox) ≡ datagrams_left known 0 (o ∷ back) =
    ap (λ (os : List Outgoing). datagrams_left known 0 os) moved
    ∙ ap (λ (n : ℕ). cond (known o.peer.addr) (fragments_left 0 o) 0 + n) (unknown-before known all back none) in
    record { others = all ++ back; outbox = moved; same = after ∙ sym before }

slice-front : {X : Type 0} (front back : List X) (x : X) → slice_get (front ++ x ∷ back) (length front) ≡ Some x
slice-front [] back x = refl
slice-front (y ∷ front) back x = slice-front front back x

-- An entry of which something has gone out.

pub role-less : (known goes : Addr → Bool) → ((to : Addr) → known to ≡ true → goes to ≡ true) → (now : Moment) (role : Role) (due : Endpoint × What) → IsSoundRole role
    → due_to goes role ≡ Some due → known due.0.addr ≡ true → most_of known (role_after_emission now due.1 role) < most_of known role
role-less known goes may now (Idle buffers bound) due sound is knows = cc
role-less known goes may now (Listener local backlog) due sound is knows = cc
role-less known goes may now (Connected c l) due sound is knows =
    let first = first_segment goes c l due is in
    subst (λ (o : Option Due). most_due (after_first c o now) < most_due c) (sym first.first) (runs_dry c first.segment now sound.sound first.first)
role-less known goes may now (Datagrams bound socket) due sound is knows = by_split (first-split goes socket.outbox first.place first.first)
  where
    first : IsFirstDatagram goes socket.outbox 0 due
    first = first_datagram goes bound socket due is

    Falls : SocketView → Type 0
    Falls t = datagrams_left known (let u = after_part t in u.parts) (let u = after_part t in u.outbox) < datagrams_left known socket.parts socket.outbox

    by_split : IsFirst goes socket.outbox first.place → Falls (brought (place_of due.1) socket)
    by_split split =
        let parts : IsSplit socket.outbox first.place split.item = split.parts in
        let there : slice_get socket.outbox first.place ≡ Some split.item =
        ap (λ (os : List Outgoing). slice_get os first.place) parts.is ∙ ap (slice_get (parts.front ++ split.item ∷ parts.back)) (sym parts.len) ∙ slice-front parts.front parts.back split.item in
        let peer : split.item.peer ≡ due.0 = (let told : ◌≡◌ {A = Option Endpoint} (Some split.item.peer) (Some due.0) = ap (λ (o : Option Outgoing). option_map (λ (x : Outgoing). x.peer) o) (sym there) ∙ first.peer in cc) in
        let place : place_of due.1 ≡ length parts.front = ap place_of first.what ∙ omega (arith, parts.len) in
        let brings = brought-first known socket parts.front parts.back split.item parts.is (fails-on known goes may parts.front split.before) in
        let less = datagram-less known split.item brings.others (brought (length parts.front) socket) brings.outbox (ap (λ (x : Endpoint). known x.addr) peer ∙ knows) in
        let own : Falls (brought (length parts.front) socket) =
        subst (λ (n : ℕ). datagrams_left known (let u = after_part (brought (length parts.front) socket) in u.parts) (let u = after_part (brought (length parts.front) socket) in u.outbox) < n) brings.same less in
        subst (λ (n : ℕ). Falls (brought n socket)) (sym place) own

-- What a known hop has to do with it.

datagrams-same : (p q : Addr → Bool) → ((to : Addr) → p to ≡ q to) → (parts : ℕ) (os : List Outgoing) → datagrams_left p parts os ≡ datagrams_left q parts os
datagrams-same p q same parts [] = refl
datagrams-same p q same parts (o ∷ rest) =
    ap (λ (b : Bool). cond b (fragments_left parts o) 0 + datagrams_left p 0 rest) (same o.peer.addr) ∙ ap (λ (n : ℕ). cond (q o.peer.addr) (fragments_left parts o) 0 + n) (datagrams-same p q same 0 rest)

role-same : (p q : Addr → Bool) → ((to : Addr) → p to ≡ q to) → (role : Role) → most_of p role ≡ most_of q role
role-same p q same (Idle buffers bound) = refl
role-same p q same (Listener local backlog) = refl
role-same p q same (Connected c l) = refl
role-same p q same (Datagrams bound socket) = datagrams-same p q same socket.parts socket.outbox

entries-same : (p q : Addr → Bool) → ((to : Addr) → p to ≡ q to) → (entries : List Entry)
    → sum_by (λ (e : Entry). most_of p e.role) entries ≡ sum_by (λ (e : Entry). most_of q e.role) entries
entries-same p q same entries = sum-same (λ (e : Entry). most_of p e.role) (λ (e : Entry). most_of q e.role) (λ e. role-same p q same e.role) entries

-- the pairs of the table say which hop is known
known-by : (now : Moment) (cache : Cache) (notes : List Asked) (hop : Option Addr) → is_some (mac_of now (record cache { asked = notes }) hop) ≡ is_some (mac_of now cache hop)
known-by now cache notes None = refl
known-by now cache notes (Some hop) = refl

known-left : (i : InterfaceView) (now : Moment) (place : ℕ) (w : Way) (to : Addr) → knows_hop (reply_left i now place w) now to ≡ knows_hop i now to
known-left i now place (To mac) to = refl
known-left i now place (Ask hop) to = known-by now i.cache (let c = after_ask now hop i.cache in c.asked) (next_hop i.routes to)
known-left i now place Waits to = refl

known-to : (i : InterfaceView) (now : Moment) (to : Addr) (mac : Mac) → way i now to ≡ To mac → knows_hop i now to ≡ true
known-to i now to mac goes = by_hop (next_hop i.routes to) goes
  where
    by_mac : (hop : Addr) (o : Option Mac) → way_by_mac now i.cache.asked hop o ≡ To mac → is_some o ≡ true
    by_mac hop (Some m) e = refl
    by_mac hop None e = by_test (may_ask now hop i.cache.asked) e
      where
        by_test : (b : Bool) → cond b (Ask hop) Waits ≡ To mac → false ≡ true
        by_test true is = absurd cc
        by_test false is = absurd cc

    by_hop : (o : Option Addr) → way_over now i.cache o ≡ To mac → is_some (mac_of now i.cache o) ≡ true
    by_hop None e = absurd cc
    by_hop (Some hop) e = by_mac hop (look now hop i.cache) e

known-goes : (i : InterfaceView) (now : Moment) (to : Addr) → knows_hop i now to ≡ true → goes_out (way i now to) ≡ true
known-goes i now to knows = by_hop (next_hop i.routes to) knows
  where
    by_mac : (hop : Addr) (o : Option Mac) → is_some o ≡ true → goes_out (way_by_mac now i.cache.asked hop o) ≡ true
    by_mac hop (Some m) e = refl
    by_mac hop None e = absurd cc

    by_hop : (o : Option Addr) → is_some (mac_of now i.cache o) ≡ true → goes_out (way_over now i.cache o) ≡ true
    by_hop None e = absurd cc
    by_hop (Some hop) e = by_mac hop (look now hop i.cache) e

-- The first reply for which a frame can go out doesn't wait.

pub reply-goes : (i : InterfaceView) (now : Moment) (place : ℕ) → position (is_reply_due i now) i.replies ≡ Some place → way_at i now place ≢ Waits
reply-goes i now place at waits =
    let long : 60 ≤ len_at i now place = (first_goes i now place at).1 in
    let short : len_at i now place ≡ 0 = by_one (slice_get i.replies place) waits in
    omega (arith, long, short)
  where
    by_one : (o : Option Waiting) → way_of_one i now o ≡ Waits → len_of_one i now o ≡ 0
    by_one None e = refl
    by_one (Some w) e = ap (len_by w.reply) e

-- What goes out, and what is left.

abbrev entry_frames : InterfaceView → Moment → List Entry → ℕ
entry_frames i moment entries = sum_by (λ (e : Entry). most_of (knows_hop i moment) e.role) entries

left-less : (h : HostView) (moment : Moment) (len : ℕ) → IsSoundHost h → len_of h moment (emission h moment) ≡ Some len
    → most_at (left_by h moment (emission h moment)) moment < most_at h moment
left-less h moment len sound goes = by_reply (position (is_reply_due h.interface moment) h.interface.replies) refl
  where
    Less : Emission → Type 0
    Less what = most_at (left_by h moment what) moment < most_at h moment

    reply : (place : ℕ) → position (is_reply_due h.interface moment) h.interface.replies ≡ Some place → Less (Replies place)
    reply place at =
        let i : InterfaceView = h.interface in
        let left : InterfaceView = after_reply i moment place in
        let one : frames_left left moment + 1 ≡ frames_left i moment = frame_fewer i moment place (reply-goes i moment place at) in
        let same : entry_frames left moment h.sockets.entries ≡ entry_frames i moment h.sockets.entries =
        entries-same (knows_hop left moment) (knows_hop i moment) (known-left i moment place (way_at i moment place)) h.sockets.entries in
        omega (arith, one, same)

    request : (to hop : Addr) → way h.interface moment to ≡ Ask hop → Less (Asks hop)
    request to hop goes =
        let i : InterfaceView = h.interface in
        let left : InterfaceView = asked i moment hop in
        let one = one_asked i moment to hop goes in
        let same : entry_frames left moment h.sockets.entries ≡ entry_frames i moment h.sockets.entries =
        entries-same (knows_hop left moment) (knows_hop i moment) (λ to. known-by moment i.cache (let c = after_ask moment hop i.cache in c.asked) (next_hop i.routes to)) h.sockets.entries in
        omega (arith, one.0, one.1, same)

    goes-to : Addr → Bool
    goes-to = goes_out_from h moment

    sent : (e : Entry) (due : Endpoint × What) (mac : Mac) → find (in_turn h.sockets (sends goes-to)) h.sockets.entries ≡ Some e → due_to goes-to e.role ≡ Some due → way h.interface moment due.0.addr ≡ To mac
        → Less (Sends mac due.0.addr)
    sent e due mac found is goes =
        let then : Moment = later_moment h.sockets moment in
        let known : Addr → Bool = knows_hop h.interface moment in
        let solid : IsSoundRole e.role = all-found (λ (x : Entry). IsSoundRole x.role) (in_turn h.sockets (sends goes-to)) h.sockets.entries e sound.table.entries found in
        let own : most_of known (role_after_emission then due.1 e.role) < most_of known e.role =
        role-less known goes-to (known-goes h.interface moment) then e.role due solid is (known-to h.interface moment due.0.addr mac goes) in
        let stepped : List Entry = entries_after_step (emission_fate_of (role_after_emission then due.1 e.role)) (in_turn h.sockets (sends goes-to)) (role_after_emission then due.1) h.sockets.entries in
        let entries : sum_by (λ (x : Entry). most_of known x.role) stepped < sum_by (λ (x : Entry). most_of known x.role) h.sockets.entries =
        step-less (most_of known) (in_turn h.sockets (sends goes-to)) (emission_fate_of (role_after_emission then due.1 e.role)) (role_after_emission then due.1) h.sockets.entries e found own in
        let left : (let t = after_segment_sent h.sockets goes-to moment in t.entries) ≡ stepped = ap (λ (t : SocketsView). t.entries) (segment_sent-found h.sockets goes-to moment e due found is) in
        let all : sum_by (λ (x : Entry). most_of known x.role) (let t = after_segment_sent h.sockets goes-to moment in t.entries)
        < sum_by (λ (x : Entry). most_of known x.role) h.sockets.entries =
        subst (λ (xs : List Entry). sum_by (λ (x : Entry). most_of known x.role) xs < sum_by (λ (x : Entry). most_of known x.role) h.sockets.entries) (sym left) entries in
        omega (arith, all)

    by_what : (what : Emission) → emission h moment ≡ what → (len_of h moment what ≡ Some len → Less what) → Less (emission h moment)
    by_what what is less = subst Less (sym is) (less (ap (len_of h moment) (sym is) ∙ goes))

    by_way : (e : Entry) (due : Endpoint × What) (w : Way) → find (in_turn h.sockets (sends goes-to)) h.sockets.entries ≡ Some e → due_to goes-to e.role ≡ Some due → way h.interface moment due.0.addr ≡ w
        → emission h moment ≡ emission_by due.0.addr w → Less (emission h moment)
    by_way e due (To mac) found is goes so = by_what (Sends mac due.0.addr) so (λ len. sent e due mac found is goes)
    by_way e due (Ask hop) found is goes so = by_what (Asks hop) so (λ len. request due.0.addr hop goes)
    by_way e due Waits found is goes so = by_what Nothing so (λ len. absurd cc)

    by_entry : (o : Option Entry) → find (in_turn h.sockets (sends goes-to)) h.sockets.entries ≡ o → emission h moment ≡ table_emission h moment → Less (emission h moment)
    by_entry None found so =
        by_what Nothing (so ∙ ap (λ (n : Option Next). emission_to h moment (option_map (λ (x : Next). x.peer) n)) (next-none h.sockets goes-to found)) (λ len. absurd cc)
    by_entry (Some e) found so =
        let due = found_due h.sockets goes-to e found in
        by_way e due.0 (way h.interface moment due.0.0.addr) found due.1 refl
        (so ∙ ap (λ (n : Option Next). emission_to h moment (option_map (λ (x : Next). x.peer) n)) (next-found h.sockets goes-to e due.0 found due.1))

    by_reply : (o : Option ℕ) → position (is_reply_due h.interface moment) h.interface.replies ≡ o → Less (emission h moment)
    by_reply (Some place) at = by_what (Replies place) (ap (emission_at h moment) at) (λ len. reply place at)
    by_reply None at = by_entry (find (in_turn h.sockets (sends goes-to)) h.sockets.entries) refl (ap (emission_at h moment) at)

-- the kept moment stays

kept-sent : (s : SocketsView) (goes : Addr → Bool) (now : Moment) → (let t = after_segment_sent s goes now in t.kept) ≡ s.kept
kept-sent s goes now = by_entry (find (in_turn s (sends goes)) s.entries) refl
  where
    by_entry : (o : Option Entry) → find (in_turn s (sends goes)) s.entries ≡ o → (let t = after_segment_sent s goes now in t.kept) ≡ s.kept
    by_entry None found = ap (λ (t : SocketsView). t.kept) (segment_sent-none s goes now found)
    by_entry (Some e) found = let due = found_due s goes e found in ap (λ (t : SocketsView). t.kept) (segment_sent-found s goes now e due.0 found due.1)

kept-left : (h : HostView) (moment : Moment) (what : Emission) → (let g = left_by h moment what in g.sockets.kept) ≡ h.sockets.kept
kept-left h moment (Replies place) = refl
kept-left h moment (Sends mac to) = kept-sent h.sockets (goes_out_from h moment) moment
kept-left h moment (Asks hop) = refl
kept-left h moment Nothing = refl

moment-left : (h : HostView) (now : Moment) → (let g = after_emission h now in later_moment g.sockets now) ≡ later_moment h.sockets now
moment-left h now = ap (λ (k : Moment). cond (nat_lt k.0 now.0) now k) (let moment = later_moment h.sockets now in kept-left h moment (emission h moment))

pub fewer : (h : HostView) (now : Moment) (len : ℕ) → IsSoundHost h → emission_len h now ≡ Some len → most_frames (after_emission h now) now < most_frames h now
fewer h now len sound goes =
    subst (λ (m : Moment). most_at (after_emission h now) m < most_frames h now) (sym (moment-left h now)) (left-less h (later_moment h.sockets now) len sound goes)

pub most : (now : Moment) (frames : ℕ) (first last : HostView) → GivesOut now frames first last → frames + most_frames last now ≤ most_frames first now
most now frames first last (NoFrame h) = omega arith
most now frames first last (OneMore n len f h before sound goes) =
    omega (arith, most now n f h before, fewer h now len sound goes)

dry : (h : HostView) (now : Moment) → IsSoundHost h → most_frames h now ≡ 0 → emission_len h now ≡ None
dry h now sound none = by_len (emission_len h now) refl
  where
    by_len : (o : Option ℕ) → emission_len h now ≡ o → o ≡ None
    by_len None is = refl
    by_len (Some len) is = absurd (omega (arith, fewer h now len sound is, none))

pub none-left : (now : Moment) (frames : ℕ) (first last : HostView) → GivesOut now frames first last → IsSoundHost last → most_frames first now ≤ frames → emission_len last now ≡ None
none-left now frames first last gives sound all = dry last now sound (omega (arith, most now frames first last gives, all))
