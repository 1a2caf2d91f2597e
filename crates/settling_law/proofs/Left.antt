-- What a host has left to send at a moment, but for what its connections have, as a weight: a reply weighs more than nothing, since it goes out; what may draw a reply weighs two more, for that is on its way then, and draws one.
use Rattle.std.proofs.Common.{◌≡◌, ◌≢◌, ℕ, zero, suc, ◌+◌, ◌*◌, ◌≤◌, Bool, true, false, cond, if◌then◌else◌, List, [], ◌∷◌, remove, Option, Some, None, option_map, refl, sym, ◌∙◌, ap, subst, arith}
use Rattle.std.specs.List.{find, position, slice_get, sum_by}
use Rattle.std.proofs.lemmas.List.Sums.{sum_by-cons}
use Rattle.ether.specs.declared.mac.Mac.{Mac}
use Rattle.ipv4.specs.declared.addr.Addr.{Addr}
use Rattle.ipv4.specs.declared.addr.Endpoint.{Endpoint}
use Rattle.clock.specs.declared.moment.Moment.{Moment}
use Rattle.arp.specs.Cache.{is_request, requests_left}
use Rattle.tcp_state.specs.declared.connection.Fate.{Fate}
use Rattle.tcp_state.specs.declared.emission.Due.{Due}
use Rattle.tcp_state.specs.Due.{first_due}
use Rattle.tcp_state.specs.View.{View}
use Rattle.interface.specs.declared.reply.Reply.{Reply}
use Rattle.interface.specs.declared.reply.Reply.TheVariants.{Arp, Reset, Echo, Error}
use Rattle.interface.specs.declared.reply.Waiting.{Waiting}
use Rattle.interface.specs.declared.way.Way.{Way}
use Rattle.interface.specs.declared.way.Way.TheVariants.{To, Ask, Waits}
use Rattle.interface.specs.Emission.{way_at, way_of_one, left_by as reply_left, after_emission as after_reply}
use Rattle.interface.specs.InterfaceView.{InterfaceView}
use Rattle.interface.specs.Replies.{goes_out, is_due as is_reply_due, way_of}
use Rattle.interface.specs.Ways.{way}
use Rattle.interface.proofs.RunsOut.{one_asked, one_request}
use Rattle.sockets.specs.declared.emission.Outgoing.{Outgoing as What}
use Rattle.sockets.specs.declared.entry.Entry.{Entry}
use Rattle.sockets.specs.declared.entry.SocketId.{SocketId}
use Rattle.sockets.specs.declared.role.Role.{Role}
use Rattle.sockets.specs.declared.role.Role.TheVariants.{Idle, Listener, Connected, Datagrams}
use Rattle.sockets.specs.Emission.{Next, after_segment_sent, in_turn}
use Rattle.sockets.specs.Entries.{due_to, sends, is_kept, with_role, role_after_emission, emission_fate_of, entries_after_step}
use Rattle.sockets.specs.Lists.{change_first, remove_first}
use Rattle.sockets.specs.Sound.{IsSoundRole}
use Rattle.sockets.specs.SocketsView.{SocketsView, later_moment}
use Rattle.sockets.proofs.Emitting.{first_segment, found_due, next-found, next-none, segment_sent-found}
use Rattle.host.specs.Dry.{datagrams_left}
use Rattle.host.specs.Emission.{Emission, Replies, Sends, Asks, Nothing, emission, emission_at, emission_by, emission_to, goes_out_from, len_of, left_by, table_emission}
use Rattle.host.specs.HostView.{HostView}
use Rattle.host.specs.Sound.{IsSoundHost}
use Rattle.host.proofs.RunsDry.{role-less, all-found, reply-goes}

-- a reply that waits: an ARP packet that asks would draw another
abbrev pub weight_of : Reply → ℕ
weight_of (Arp packet) = if is_request packet.operation then 4 else 1
weight_of (Reset to head) = 1
weight_of (Echo to identifier number octets) = 1
weight_of (Error to reason quoted) = 1

abbrev pub replies_weigh : List Waiting → ℕ
replies_weigh replies = sum_by (λ (w : Waiting). weight_of w.reply) replies

-- the fragments that an entry's datagrams still go out in, of those for addresses that may be reached
abbrev pub parts_of : (Addr → Bool) → Role → ℕ
parts_of known (Datagrams bound socket) = datagrams_left known socket.parts socket.outbox
parts_of known (Connected c listener) = 0
parts_of known (Listener local backlog) = 0
parts_of known (Idle buffers bound) = 0

abbrev pub parts_in : (Addr → Bool) → List Entry → ℕ
parts_in known entries = sum_by (λ (e : Entry). parts_of known e.role) entries

-- all of it
abbrev pub weighs : (Addr → Bool) → HostView → Moment → ℕ
weighs known h moment = replies_weigh h.interface.replies + 3 * requests_left moment h.interface.cache.asked + 3 * parts_in known h.sockets.entries

-- Sums over a list of which the first that passes a test changes, or is taken out.

changed : {X : Type 0} (f : X → ℕ) (n : ℕ) (test : X → Bool) (change : X → X) (xs : List X) (x : X) → find test xs ≡ Some x → f (change x) + n ≤ f x → sum_by f (change_first test change xs) + n ≤ sum_by f xs
changed f n test change [] x e less = absurd cc
changed {X} f n test change (y ∷ ys) x e less = by_test (test y) (λ found. changed f n test change ys x found less) e
  where
    by_test : (b : Bool) → (find test ys ≡ Some x → sum_by f (change_first test change ys) + n ≤ sum_by f ys) → cond b (Some y) (find test ys) ≡ Some x
        → sum_by f (cond b (change y ∷ ys) (y ∷ change_first test change ys)) + n ≤ sum_by f (y ∷ ys)
    by_test true rest e =
        let same : y ≡ x = cc in
        let own : f (change y) + n ≤ f y = subst (λ (z : X). f (change z) + n ≤ f z) (sym same) less in
        omega (arith, sum_by-cons f (change y) ys, sum_by-cons f y ys, own)
    by_test false rest e = omega (arith, rest e, sum_by-cons f y (change_first test change ys), sum_by-cons f y ys)

taken_out : {X : Type 0} (f : X → ℕ) (n : ℕ) (test : X → Bool) (xs : List X) (x : X) → find test xs ≡ Some x → n ≤ f x → sum_by f (remove_first test xs) + n ≤ sum_by f xs
taken_out f n test [] x e some = absurd cc
taken_out {X} f n test (y ∷ ys) x e some = by_test (test y) (λ found. taken_out f n test ys x found some) e
  where
    by_test : (b : Bool) → (find test ys ≡ Some x → sum_by f (remove_first test ys) + n ≤ sum_by f ys) → cond b (Some y) (find test ys) ≡ Some x
        → sum_by f (cond b ys (y ∷ remove_first test ys)) + n ≤ sum_by f (y ∷ ys)
    by_test true rest e =
        let same : y ≡ x = cc in
        let own : n ≤ f y = subst (λ (z : X). n ≤ f z) (sym same) some in
        omega (arith, sum_by-cons f y ys, own)
    by_test false rest e = omega (arith, rest e, sum_by-cons f y (remove_first test ys), sum_by-cons f y ys)

pub stepped : (known : Addr → Bool) (n : ℕ) (fate : Fate) (test : Entry → Bool) (change : Role → Role) (xs : List Entry) (e : Entry) → find test xs ≡ Some e → parts_of known (change e.role) + n ≤ parts_of known e.role
    → parts_in known (entries_after_step fate test change xs) + n ≤ parts_in known xs
stepped known n fate test change xs e found less = by_fate (is_kept fate)
  where
    by_fate : (b : Bool) → parts_in known (cond b (change_first test (with_role change) xs) (remove_first test xs)) + n ≤ parts_in known xs
    by_fate true = changed (λ (x : Entry). parts_of known x.role) n test (with_role change) xs e found less
    by_fate false = taken_out (λ (x : Entry). parts_of known x.role) n test xs e found (omega (arith, less))

one_out : {X : Type 0} (f : X → ℕ) (xs : List X) (place : ℕ) (x : X) → slice_get xs place ≡ Some x → sum_by f (remove xs place) + f x ≡ sum_by f xs
one_out f [] place x is = absurd cc
one_out {X} f (y ∷ ys) zero x is = (let same : y ≡ x = cc in omega (arith, sum_by-cons f y ys, ap f same))
one_out {X} f (y ∷ ys) (suc place) x is = omega (arith, one_out f ys place x is, sum_by-cons f y ys, sum_by-cons f y (remove ys place))

-- A frame goes out: a reply itself; or a request, or a part of a datagram; or a segment of a connection.
pub data Goes (known : Addr → Bool) (h : HostView) (moment : Moment) (left : HostView) : Type 0 where
  answers : (place : ℕ) (w : Waiting) (mac : Mac) → emission h moment ≡ Replies place → slice_get h.interface.replies place ≡ Some w → way_of h.interface moment w.reply ≡ To mac → weighs known left moment + weight_of w.reply ≤ weighs known h moment → Goes known h moment left
  spends : weighs known left moment + 3 ≤ weighs known h moment → Goes known h moment left
  speaks_for : (e : Entry) (c : View) (listener : Option SocketId) (due : Due) (mac : Mac) (to : Addr) → emission h moment ≡ Sends mac to → find (in_turn h.sockets (sends (goes_out_from h moment))) h.sockets.entries ≡ Some e → e.role ≡ Connected c listener
      → first_due c ≡ Some due → to ≡ c.peer.addr → weighs known left moment ≤ weighs known h moment → Goes known h moment left

-- whatever goes to a MAC that is known is for an address that may be reached, and then what is for another such goes out
abbrev pub Reaches : (Addr → Bool) → InterfaceView → Moment → Type 0
Reaches known i moment = (to : Addr) (mac : Mac) → way i moment to ≡ To mac → (known to ≡ true) × ((x : Addr) → known x ≡ true → goes_out (way i moment x) ≡ true)

module _ (known : Addr → Bool) (h : HostView) (moment : Moment) (len : ℕ) (sound : IsSoundHost h) (reaches : Reaches known h.interface moment) where
  abbrev Out : Emission → Type 0
  Out what = Goes known h moment (left_by h moment what)

  abbrev goes_to : Addr → Bool
  goes_to = goes_out_from h moment

  abbrev i : InterfaceView
  i = h.interface

  reply : (place : ℕ) → emission h moment ≡ Replies place → way_at i moment place ≢ Waits → Out (Replies place)
  reply place at goes = by_place (slice_get i.replies place) refl goes
    where
      left : InterfaceView
      left = after_reply i moment place

      of_way : (w : Waiting) → slice_get i.replies place ≡ Some w → (x : Way) → way_of i moment w.reply ≡ x → x ≢ Waits → Out (Replies place)
      of_way w is (To mac) leads goes =
          let it : way_at i moment place ≡ To mac = ap (way_of_one i moment) is ∙ leads in
          let replies : left.replies ≡ remove i.replies place = ap (λ (x : Way). (reply_left i moment place x).replies) it in
          let notes : requests_left moment left.cache.asked ≡ requests_left moment i.cache.asked = ap (λ (x : Way). requests_left moment (reply_left i moment place x).cache.asked) it in
          let out : replies_weigh (remove i.replies place) + weight_of w.reply ≡ replies_weigh i.replies = one_out (λ (x : Waiting). weight_of x.reply) i.replies place w is in
          answers place w mac at is leads (omega (arith, ap replies_weigh replies, notes, out))
      of_way w is (Ask hop) leads goes =
          let it : way_at i moment place ≡ Ask hop = ap (way_of_one i moment) is ∙ leads in
          let replies : left.replies ≡ i.replies = ap (λ (x : Way). (reply_left i moment place x).replies) it in
          spends (omega (arith, ap replies_weigh replies, (one_request i moment place hop it).1))
      of_way w is Waits leads goes = absurd (goes refl)

      by_place : (o : Option Waiting) → slice_get i.replies place ≡ o → way_of_one i moment (slice_get i.replies place) ≢ Waits → Out (Replies place)
      by_place None is goes = absurd (goes (ap (way_of_one i moment) is))
      by_place (Some w) is goes = of_way w is (way_of i moment w.reply) refl (λ waits. goes (ap (way_of_one i moment) is ∙ waits))

  request : (to hop : Addr) → way i moment to ≡ Ask hop → Out (Asks hop)
  request to hop goes = spends (omega (arith, (one_asked i moment to hop goes).1))

  sent : (e : Entry) (due : Endpoint × What) (mac : Mac) → emission h moment ≡ Sends mac due.0.addr → find (in_turn h.sockets (sends goes_to)) h.sockets.entries ≡ Some e → due_to goes_to e.role ≡ Some due → way i moment due.0.addr ≡ To mac → Out (Sends mac due.0.addr)
  sent e due mac so found is goes = by_role e.role refl
    where
      at_last : Moment
      at_last = later_moment h.sockets moment

      may : (known due.0.addr ≡ true) × ((x : Addr) → known x ≡ true → goes_to x ≡ true)
      may = reaches due.0.addr mac goes

      solid : IsSoundRole e.role
      solid = let t = sound.table in all-found (λ (x : Entry). IsSoundRole x.role) (in_turn h.sockets (sends goes_to)) h.sockets.entries e t.entries found

      left : (let t = after_segment_sent h.sockets goes_to moment in t.entries)
          ≡ entries_after_step (emission_fate_of (role_after_emission at_last due.1 e.role)) (in_turn h.sockets (sends goes_to)) (role_after_emission at_last due.1) h.sockets.entries
      left = ap (λ (t : SocketsView). t.entries) (segment_sent-found h.sockets goes_to moment e due found is)

      fewer : (n : ℕ) → parts_of known (role_after_emission at_last due.1 e.role) + n ≤ parts_of known e.role → parts_in known (let t = after_segment_sent h.sockets goes_to moment in t.entries) + n ≤ parts_in known h.sockets.entries
      fewer n less =
          subst (λ (xs : List Entry). parts_in known xs + n ≤ parts_in known h.sockets.entries) (sym left)
          (stepped known n (emission_fate_of (role_after_emission at_last due.1 e.role)) (in_turn h.sockets (sends goes_to)) (role_after_emission at_last due.1) h.sockets.entries e found less)

      by_role : (role : Role) → e.role ≡ role → Out (Sends mac due.0.addr)
      by_role (Connected c listener) at =
          let first = first_segment goes_to c listener due (ap (due_to goes_to) (sym at) ∙ is) in
          speaks_for e c listener first.segment mac due.0.addr so found at first.first (ap (λ (x : Endpoint × What). x.0.addr) (sym first.is))
          (omega (arith, fewer 0 (subst (λ (r : Role). parts_of known (role_after_emission at_last due.1 r) + 0 ≤ parts_of known r) (sym at) (omega arith))))
      by_role (Datagrams bound socket) at =
          let less = role-less known goes_to may.1 at_last (Datagrams bound socket) due (subst IsSoundRole at solid) (ap (due_to goes_to) (sym at) ∙ is) may.0 in
          spends (omega (arith, fewer 1 (subst (λ (r : Role). parts_of known (role_after_emission at_last due.1 r) + 1 ≤ parts_of known r) (sym at) (omega (arith, less)))))
      by_role (Listener local backlog) at = (let none : None ≡ Some due = ap (due_to goes_to) (sym at) ∙ is in cc)
      by_role (Idle buffers bound) at = (let none : None ≡ Some due = ap (due_to goes_to) (sym at) ∙ is in cc)

  by_what : (what : Emission) → emission h moment ≡ what → (emission h moment ≡ what → len_of h moment what ≡ Some len → Out what) → len_of h moment (emission h moment) ≡ Some len → Out (emission h moment)
  by_what what is out goes = subst Out (sym is) (out is (ap (len_of h moment) (sym is) ∙ goes))

  by_way : (e : Entry) (due : Endpoint × What) (w : Way) → find (in_turn h.sockets (sends goes_to)) h.sockets.entries ≡ Some e → due_to goes_to e.role ≡ Some due → way i moment due.0.addr ≡ w → emission h moment ≡ emission_by due.0.addr w
      → len_of h moment (emission h moment) ≡ Some len → Out (emission h moment)
  by_way e due (To mac) found is goes so = by_what (Sends mac due.0.addr) so (λ at len. sent e due mac at found is goes)
  by_way e due (Ask hop) found is goes so = by_what (Asks hop) so (λ at len. request due.0.addr hop goes)
  by_way e due Waits found is goes so = by_what Nothing so (λ at len. absurd cc)

  by_entry : (o : Option Entry) → find (in_turn h.sockets (sends goes_to)) h.sockets.entries ≡ o → emission h moment ≡ table_emission h moment → len_of h moment (emission h moment) ≡ Some len → Out (emission h moment)
  by_entry None found so = by_what Nothing (so ∙ ap (λ (n : Option Next). emission_to h moment (option_map (λ (x : Next). x.peer) n)) (next-none h.sockets goes_to found)) (λ at len. absurd cc)
  by_entry (Some e) found so =
      let due = found_due h.sockets goes_to e found in
      by_way e due.0 (way i moment due.0.0.addr) found due.1 refl (so ∙ ap (λ (n : Option Next). emission_to h moment (option_map (λ (x : Next). x.peer) n)) (next-found h.sockets goes_to e due.0 found due.1))

  by_reply : (o : Option ℕ) → position (is_reply_due i moment) i.replies ≡ o → len_of h moment (emission h moment) ≡ Some len → Out (emission h moment)
  by_reply (Some place) at = by_what (Replies place) (ap (emission_at h moment) at) (λ so len. reply place so (reply-goes i moment place at))
  by_reply None at = by_entry (find (in_turn h.sockets (sends goes_to)) h.sockets.entries) refl (ap (emission_at h moment) at)

  pub goes : len_of h moment (emission h moment) ≡ Some len → Goes known h moment (left_by h moment (emission h moment))
  goes = by_reply (position (is_reply_due i moment) i.replies) refl
