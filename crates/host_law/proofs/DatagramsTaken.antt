-- Whatever happens to a host, what waits in its UDP sockets to go out was taken by a `sendto` before.
use Rattle.std.proofs.Common.{◌≡◌, inl, inr, ℕ, ◌+◌, ◌%◌, ◌<◌, ◌≤◌, ◌^◌, ◌==◌, nat_lt, Bool, true, false, List, [], ◌∷◌, ◌++◌, length, Option, Some, None, option_map, Result, Ok, Err, is_ok, refl, sym, ◌∙◌, ap, subst, arith}
use Rattle.std.specs.List.{find, AllByRecursion}
use Rattle.std.proofs.lemmas.Bool.{and_parts, eqb-true}
use Rattle.std.proofs.lemmas.Bool.Decides.{nat_tests}
use Rattle.clock.specs.declared.moment.Moment.{Moment}
use Rattle.ipv4.specs.declared.addr.Addr.{Addr}
use Rattle.ipv4.specs.declared.addr.Endpoint.{Endpoint}
use Rattle.ipv4.specs.Datagram.{Datagram}
use Rattle.tcp_segment.specs.Segment.{Segment}
use Rattle.udp.specs.declared.fault.UdpFault.{UdpFault}
use Rattle.udp.specs.Datagram.{UserDatagram}
use Rattle.udp.specs.Reading.{datagram_or_fault}
use Rattle.udp_socket.specs.declared.socket.TheConstants.{MOST_OCTETS}
use Rattle.udp_socket.specs.SocketView.{Outgoing, SocketView as Queues, with_sent}
use Rattle.frames.specs.declared.drop.DropCause.{DropCause}
use Rattle.frames.specs.declared.meaning.Control.{Control}
use Rattle.frames.specs.declared.meaning.Meaning.{Meaning}
use Rattle.frames.specs.declared.meaning.Meaning.TheVariants.{Arp, Tcp, Icmp, Udp, Other, UdpFragment}
use Rattle.interface.specs.Ways.{is_routed}
use Rattle.reassembly.specs.Places.{after_take}
use Rattle.reassembly.specs.Reassembly.{Outcome}
use Rattle.reassembly.specs.Reassembly.Outcome.{Waits, Completes, GivesUp}
use Rattle.sockets.specs.declared.datagrams.Reception.{Reception}
use Rattle.sockets.specs.declared.datagrams.Reception.TheVariants as socket
use Rattle.sockets.specs.declared.entry.SocketId.{SocketId}
use Rattle.sockets.specs.declared.entry.Entry.{Entry}
use Rattle.sockets.specs.declared.refusal.Refusal.{Refusal}
use Rattle.sockets.specs.declared.refusal.Refusal.TheVariants.{EMSGSIZE}
use Rattle.sockets.specs.declared.role.Role.{Role}
use Rattle.sockets.specs.declared.role.Role.TheVariants.{Idle, Listener, Connected, Datagrams}
use Rattle.sockets.specs.Arrival.{Arrival, Becomes, Opens, NoRoom as NoRoomInTable, Answers, arrival}
use Rattle.sockets.specs.Causes.{after_arrival, after_event}
use Rattle.sockets.specs.Causes as table
use Rattle.sockets.specs.Datagrams.{after_sendto, end_sent_from, reception, sending_end, sendto_answer}
use Rattle.sockets.specs.Entries.{has_socket, is_socket, role_after_sendto, with_role}
use Rattle.sockets.specs.Ports.{first_port, is_free_datagram_port}
use Rattle.sockets.specs.Sound.{IsEndpoint}
use Rattle.sockets.specs.SocketsView.{SocketsView, later_moment, role_of}
use Rattle.sockets.specs.Traffic.{datagrams_taken}
use Rattle.sockets.proofs.Drawn.{counted, sent_behind}
use Rattle.sockets.proofs.FirstPorts.{given_dynamic}
use Rattle.sockets.proofs.Followed.{by_test}
use Rattle.sockets.proofs.Opened.{found_passes}
use Rattle.sockets.proofs.Queues.{IsSentFrom, sendto-given, sent-from}
use Rattle.host.specs.Arrival.{MeetsFragment, MeetsHeard, MeetsMessage, MeetsSegment, after_outcome, after_payload, after_user_datagram, arrival_by_route, fragment_outcome, is_late_copy, pool_for, segment_arrival, with_noted}
use Rattle.host.specs.ConfigView.{ConfigView}
use Rattle.host.specs.Heard.{heard_by}
use Rattle.host.specs.HostView.{HostView, with_pool, with_sockets}
use Rattle.host.specs.Messages.{Told, Asks as AsksForEcho, Refuses, Nothing as TellsNothing, told_by}
use Rattle.host.specs.Runs.{Calls, Ticks, Delivers, IsAsked, Makes}
use Rattle.host.specs.Ticks.{lacks_hop}
use Rattle.host_law.specs.DatagramsOut.{GoesBehind, IsSendto, NamesEndpoint, Sent, TakenDatagram, count_taken, taken_at}
use Rattle.host_law.specs.History.{Once, Step}
use Rattle.host_law.proofs.DatagramsOutboxes.{AllHold, EachWaits, HasPartsLeft, Holds, IsBoundWithin, IsOther, Numbered, all-pushed, all-weaker, each-more, first-holds, other-holds, outs-pushed, turn-pushed}

-- a datagram as it was taken on a socket that is bound to this endpoint
abbrev pub taken_of : Endpoint → Numbered → TakenDatagram
taken_of local z = let o : Outgoing = z.o in record { peer = o.peer; port = local.port; number = z.number; octets = o.octets }

-- So it was, in these steps, under its identification, and is no longer than IPv4 can carry; and it goes behind all of these that went out before.
pub record IsFrom (steps : List Step) (out : List (Option Sent)) (id : SocketId) (bound : Option Endpoint) (z : Numbered) : Type 0 where
  pub local : Endpoint
  pub is : bound ≡ Some local
  pub taken : Once (IsSendto id (taken_of local z)) steps
  pub identification : z.o.identification ≡ z.number % 2 ^ 16
  pub short : length z.o.octets ≤ 65507
  pub behind : AllByRecursion (GoesBehind id (taken_of local z)) out

unbound : (steps : List Step) (out : List (Option Sent)) (id : SocketId) (z : Numbered) → IsFrom steps out id None z → ⊥
unbound steps out id z from = let bad : None ≡ Some from.local = from.is in cc

-- a step at which nothing goes out
later : (step : Step) (steps : List Step) (out : List (Option Sent)) (id : SocketId) (bound : Option Endpoint) (z : Numbered) → IsFrom steps out id bound z → IsFrom (step ∷ steps) (None ∷ out) id bound z
later step steps out id bound z from = record { local = from.local; is = from.is; taken = inr from.taken; identification = from.identification; short = from.short; behind = (tt, from.behind) }

pub role-more : (V W : SocketId → Option Endpoint → Numbered → Type 0) (id : SocketId) (role : Role) → ((bound : Option Endpoint) (z : Numbered) → V id bound z → W id bound z) → Holds V id role → Holds W id role
role-more V W id (Datagrams bound s) more holds = (holds.0, each-more (V id bound) (W id bound) s (more bound) holds.1)
role-more V W id (Connected c l) more holds = tt
role-more V W id (Listener at b) more holds = tt
role-more V W id (Idle buffers bound) more holds = tt

all-later : (step : Step) (steps : List Step) (out : List (Option Sent)) (xs : List Entry) → AllHold (IsFrom steps out) xs → AllHold (IsFrom (step ∷ steps) (None ∷ out)) xs
all-later step steps out [] all = tt
all-later step steps out (x ∷ xs) all = (role-more (IsFrom steps out) (IsFrom (step ∷ steps) (None ∷ out)) x.id x.role (λ bound z from. later step steps out x.id bound z from) all.0, all-later step steps out xs all.1)

-- what went out was taken before so many were
abbrev pub IsBelow : ℕ → Option Sent → Type 0
IsBelow n None = Unit {0}
IsBelow n (Some e) = e.t.number < n

pub below-more : (n m : ℕ) → n ≤ m → (o : Option Sent) → IsBelow n o → IsBelow m o
below-more n m most None below = tt
below-more n m most (Some e) below = omega (arith, most, below)

-- What a table keeps: so was all that waits, and the next identification is drawn in turn.
pub record Stands (steps : List Step) (out : List (Option Sent)) (h : SocketsView) : Type 0 where
  pub outboxes : AllHold (IsFrom steps out) h.entries
  pub drawn : h.identification ≡ count_taken steps % 2 ^ 16
  pub below : AllByRecursion (IsBelow (count_taken steps)) out

same-count : (n k : ℕ) → k ≡ 0 → n ≡ n + k
same-count n k none = omega (arith, none)

-- A step that takes none, and at which nothing goes out.
pub quiet-on : (step : Step) (steps : List Step) (out : List (Option Sent)) (h : SocketsView) → taken_at step.before step.event ≡ 0 → Stands steps out h → Stands (step ∷ steps) (None ∷ out) h
quiet-on step steps out h none stands =
    let same : count_taken steps ≡ count_taken (step ∷ steps) = same-count (count_taken steps) (taken_at step.before step.event) none in
    record {
      outboxes = all-later step steps out h.entries stands.outboxes;
      drawn = stands.drawn ∙ ap (λ (n : ℕ). n % 2 ^ 16) same;
      below = (tt, subst (λ (n : ℕ). AllByRecursion (IsBelow n) out) same stands.below);
    }

-- An event of the table that is no `sendto` and by which nothing goes out.

none-taken : (h : SocketsView) (e : table.Event) → IsOther e → datagrams_taken h e ≡ 0
none-taken h (table.SendsTo id peer octets routed) other = absurd other
none-taken h (table.Emits goes now) other = absurd other
none-taken h e other = refl

as-drawn : (before after count taken : ℕ) → before ≡ count % 2 ^ 16 → taken ≡ 0 → after ≡ (before + (taken + 0)) % 2 ^ 16 → after ≡ count % 2 ^ 16
as-drawn before after count taken drawn none turn = omega (arith, drawn, none, turn)

low : (before count : ℕ) → before ≡ count % 2 ^ 16 → before < 2 ^ 16
low before count drawn = omega (arith, drawn)

pub table-on : (steps : List Step) (out : List (Option Sent)) (h : SocketsView) (e : table.Event) → IsOther e → Stands steps out h → Stands steps out (after_event h e)
table-on steps out h e other stands = record {
  outboxes = other-holds (IsFrom steps out) (unbound steps out) h e other stands.outboxes;
  drawn = as-drawn h.identification (let w = after_event h e in w.identification) (count_taken steps) (datagrams_taken h e) stands.drawn (none-taken h e other) (counted h (e ∷ []) (low h.identification (count_taken steps) stands.drawn));
  below = stands.below;
}

-- A `sendto`.

parts-pushed : (outbox : List Outgoing) (o : Outgoing) (parts : ℕ) → HasPartsLeft outbox parts → HasPartsLeft (outbox ++ o ∷ []) parts
parts-pushed [] o parts none = omega (arith, none)
parts-pushed (x ∷ outbox) o parts left = left

-- how many were taken by a step
counts-one : (id : SocketId) (t : TakenDatagram) (step : Step) (earlier : List Step) → IsSendto id t step earlier → taken_at step.before step.event ≡ 1
counts-one id t step earlier sent =
    let one : taken_at step.before (Calls (table.SendsTo id t.peer t.octets sent.routed)) ≡ 1 = rw sent.answered refl in
    ap (taken_at step.before) sent.called ∙ one

-- what was taken was taken before so many were
pub number-below : (id : SocketId) (t : TakenDatagram) (steps : List Step) → Once (IsSendto id t) steps → t.number < count_taken steps
number-below id t [] taken = absurd taken
number-below id t (step ∷ earlier) (inl sent) = let is = sent.number in omega (arith, is, counts-one id t step earlier sent)
number-below id t (step ∷ earlier) (inr taken) = omega (arith, number-below id t earlier taken)

module _ (steps : List Step) (out : List (Option Sent)) (old new : HostView) (id : SocketId) (peer : Endpoint) (octets : List ℕ) (routed : Bool) where
  abbrev sending : Step
  sending = record { before = old; event = Calls (table.SendsTo id peer octets routed); after = new }

  module _ (is : new.sockets ≡ after_sendto old.sockets id peer octets routed) (stands : Stands steps out old.sockets) (local : Endpoint) (given : end_sent_from old.sockets id peer octets routed ≡ Ok local) where
    abbrev sent_from : IsSentFrom old.sockets id local
    sent_from = sent-from old.sockets id peer octets routed local given

    answered : sendto_answer old.sockets id peer octets routed ≡ Ok (length octets)
    answered = rw given refl

    accepted : is_ok (sendto_answer old.sockets id peer octets routed) ≡ true
    accepted = ap is_ok answered

    abbrev sends_so : Role → Role
    sends_so = role_after_sendto local old.sockets.kept peer old.sockets.identification octets

    abbrev pushed : Numbered
    pushed = record { number = count_taken steps; o = record { peer = peer; identification = old.sockets.identification; since = old.sockets.kept; octets = octets } }

    -- it is no longer than one may be
    is-short : length octets ≤ 65507
    is-short =
        by_test (nat_lt MOST_OCTETS (length octets))
        (λ long. let refused : end_sent_from old.sockets id peer octets routed ≡ Err EMSGSIZE = rw (sent_from.role, long) in cc)
        (λ fits. grind (arith, nat_tests, fits))

    -- the step is its `sendto`
    takes : IsSendto id (taken_of local pushed) sending steps
    takes = record {
      routed = routed;
      called = refl;
      answered = answered;
      local = local;
      socket = with_sent sent_from.queues old.sockets.kept peer old.sockets.identification octets;
      bound = ap (λ (w : SocketsView). role_of w id) is ∙ sent_behind old.sockets id peer octets routed sent_from.bound sent_from.queues sent_from.role accepted
          ∙ ap (λ (b : Option Endpoint). Some (Datagrams b (with_sent sent_from.queues old.sockets.kept peer old.sockets.identification octets))) sent_from.sends;
      port = refl;
      number = refl;
    }

    within : (bound : Option Endpoint) → sending_end old.sockets bound ≡ Some local → IsBoundWithin bound → local.port < 2 ^ 16
    within (Some at) sends small = let same : at ≡ local = cc in subst (λ (e : Endpoint). e.port < 2 ^ 16) same small
    within None sends small = by_port (first_port (is_free_datagram_port old.sockets.entries) old.sockets.last_port 0 16384) refl sends
      where
        by_port : (o : Option ℕ) → first_port (is_free_datagram_port old.sockets.entries) old.sockets.last_port 0 16384 ≡ o → option_map (λ (port : ℕ). let x : Endpoint = record { addr = old.sockets.addr; port = port } in x) o ≡ Some local → local.port < 2 ^ 16
        by_port None first is = cc
        by_port (Some port) first is =
            let x : Endpoint = record { addr = old.sockets.addr; port = port } in
            let whole : x ≡ local = cc in
            let dynamic = given_dynamic (is_free_datagram_port old.sockets.entries) old.sockets.last_port 0 16384 port first in
            subst (λ (e : Endpoint). e.port < 2 ^ 16) whole (omega (arith, dynamic.to_last))

    -- what waited is from where the socket sends
    same-end : (i : SocketId) (bound : Option Endpoint) → sending_end old.sockets bound ≡ Some local → (z : Numbered) → IsFrom (sending ∷ steps) (None ∷ out) i bound z → IsFrom (sending ∷ steps) (None ∷ out) i (Some local) z
    same-end i bound sends z w =
        let ends : Some w.local ≡ Some local = ap (λ (b : Option Endpoint). sending_end old.sockets b) (sym w.is) ∙ sends in
        record { local = w.local; is = sym ends; taken = w.taken; identification = w.identification; short = w.short; behind = w.behind }

    -- the last goes behind whatever went out
    goes-behind : (i : SocketId) (o : Option Sent) → IsBelow (count_taken steps) o → GoesBehind i (taken_of local pushed) o
    goes-behind i None below = tt
    goes-behind i (Some e) below = λ same for. inl below

    role-sends : (i : SocketId) → i ≡ id → (bound : Option Endpoint) (s : Queues) → sending_end old.sockets bound ≡ Some local → Holds (IsFrom steps out) i (Datagrams bound s) → Holds (IsFrom (sending ∷ steps) (None ∷ out)) i (sends_so (Datagrams bound s))
    role-sends i own bound s sends holds =
        let waits : EachWaits (IsFrom steps out i bound) s = holds.1 in
        let moved : AllByRecursion (IsFrom (sending ∷ steps) (None ∷ out) i (Some local)) waits.zs =
        all-weaker (IsFrom steps out i bound) (IsFrom (sending ∷ steps) (None ∷ out) i (Some local)) (λ z from. same-end i bound sends z (later sending steps out i bound z from)) waits.zs waits.each in
        let last : IsFrom (sending ∷ steps) (None ∷ out) i (Some local) pushed = record {
          local = local;
          is = refl;
          taken = inl (subst (λ (j : SocketId). IsSendto j (taken_of local pushed) sending steps) (sym own) takes);
          identification = stands.drawn;
          short = is-short;
          behind = (tt, all-weaker (IsBelow (count_taken steps)) (GoesBehind i (taken_of local pushed)) (goes-behind i) out stands.below);
        } in (
          within bound sends holds.0,
          record {
            zs = waits.zs ++ pushed ∷ [];
            is = ap (λ (os : List Outgoing). os ++ pushed.o ∷ []) waits.is ∙ outs-pushed waits.zs pushed;
            each = all-pushed (IsFrom (sending ∷ steps) (None ∷ out) i (Some local)) waits.zs pushed moved last;
            turn = turn-pushed waits.zs pushed waits.turn (all-weaker (IsFrom steps out i bound) (λ (x : Numbered). x.number < count_taken steps) (λ x from. number-below i (taken_of from.local x) steps from.taken) waits.zs waits.each);
            parts = parts-pushed s.outbox pushed.o s.parts waits.parts;
          },
        )

    entry-sends : (x : Entry) → find (is_socket id) old.sockets.entries ≡ Some x → Holds (IsFrom steps out) x.id x.role → Holds (IsFrom (sending ∷ steps) (None ∷ out)) x.id (sends_so x.role)
    entry-sends x found holds =
        let passes = and_parts (x.id.0 == id.0) (has_socket x.role) (found_passes (is_socket id) old.sockets.entries x found) in
        let own : x.id ≡ id = ap (λ (n : ℕ). let i : SocketId = record { 0 = n } in i) (eqb-true x.id.0 id.0 passes.0) in
        let seen : Some x.role ≡ Some (Datagrams sent_from.bound sent_from.queues) = sym (ap (λ (o : Option Entry). option_map (λ (e : Entry). e.role) o) found) ∙ sent_from.role in
        let role : x.role ≡ Datagrams sent_from.bound sent_from.queues = cc in
        subst (λ (r : Role). Holds (IsFrom (sending ∷ steps) (None ∷ out)) x.id (sends_so r)) (sym role)
        (role-sends x.id own sent_from.bound sent_from.queues sent_from.sends (subst (λ (r : Role). Holds (IsFrom steps out) x.id r) role holds))

    next-drawn : (before count : ℕ) → before ≡ count % 2 ^ 16 → (before + 1) % 2 ^ 16 ≡ (count + 1) % 2 ^ 16
    next-drawn before count drawn = omega (arith, drawn)

    entry-later : (e : Entry) → Holds (IsFrom steps out) e.id e.role → Holds (IsFrom (sending ∷ steps) (None ∷ out)) e.id e.role
    entry-later e holds = role-more (IsFrom steps out) (IsFrom (sending ∷ steps) (None ∷ out)) e.id e.role (λ bound z from. later sending steps out e.id bound z from) holds

    taken-on : Stands (sending ∷ steps) (None ∷ out) new.sockets
    taken-on =
        let counts : taken_at old (Calls (table.SendsTo id peer octets routed)) ≡ 1 = rw accepted refl in
        let most : count_taken steps ≤ count_taken steps + taken_at old (Calls (table.SendsTo id peer octets routed)) = omega arith in
        subst (Stands (sending ∷ steps) (None ∷ out)) (sym (is ∙ sendto-given old.sockets id peer octets routed local given))
        (record {
          outboxes = first-holds (λ (e : Entry). Holds (IsFrom steps out) e.id e.role) (λ (e : Entry). Holds (IsFrom (sending ∷ steps) (None ∷ out)) e.id e.role) (is_socket id) (with_role sends_so) old.sockets.entries entry-later entry-sends stands.outboxes;
          drawn = next-drawn old.sockets.identification (count_taken steps) stands.drawn ∙ ap (λ (n : ℕ). (count_taken steps + n) % 2 ^ 16) (sym counts);
          below = (tt, all-weaker (IsBelow (count_taken steps)) (IsBelow (count_taken (sending ∷ steps))) (below-more (count_taken steps) (count_taken (sending ∷ steps)) most) out stands.below);
        })

  sendto-on : is_ok (sendto_answer old.sockets id peer octets routed) ≡ true → new.sockets ≡ after_sendto old.sockets id peer octets routed → Stands steps out old.sockets → Stands (sending ∷ steps) (None ∷ out) new.sockets
  sendto-on allowed is stands = by_end (end_sent_from old.sockets id peer octets routed) refl
    where
      by_end : (r : Result Endpoint Refusal) → end_sent_from old.sockets id peer octets routed ≡ r → Stands (sending ∷ steps) (None ∷ out) new.sockets
      by_end (Ok local) given = taken-on is stands local given
      by_end (Err refusal) given = let refused : is_ok (sendto_answer old.sockets id peer octets routed) ≡ false = rw given refl in let bad : true ≡ false = sym allowed ∙ refused in cc

-- Any call.

pub called : (c : ConfigView) (steps : List Step) (out : List (Option Sent)) (call : table.Event) (old new : HostView) → NamesEndpoint (record { before = old; event = Calls call; after = new }) steps → IsAsked c (Calls call) → Makes (Calls call) old new → Stands steps out old.sockets
    → Stands (record { before = old; event = Calls call; after = new } ∷ steps) (None ∷ out) new.sockets
called c steps out (table.SendsTo id peer octets routed) old new names asked makes stands = sendto-on steps out old new id peer octets routed makes.0 (ap (λ (w : HostView). w.sockets) makes.1) stands
called c steps out (table.Binds id local) old new names asked makes stands =
    let step : Step = record { before = old; event = Calls (table.Binds id local); after = new } in
    let end : IsEndpoint local = names in
    subst (λ (w : HostView). Stands (step ∷ steps) (None ∷ out) w.sockets) (sym makes.1) (table-on (step ∷ steps) (None ∷ out) old.sockets (table.Binds id local) end.port (quiet-on step steps out old.sockets refl stands))
called c steps out (table.Emits goes now) old new names asked makes stands = absurd asked
called c steps out call old new names asked makes stands =
    let step : Step = record { before = old; event = Calls call; after = new } in
    subst (λ (w : HostView). Stands (step ∷ steps) (None ∷ out) w.sockets) (sym makes.1) (table-on (step ∷ steps) (None ∷ out) old.sockets call tt (quiet-on step steps out old.sockets refl stands))

-- A frame that comes is one such event of the table, or none.

module _ (steps : List Step) (out : List (Option Sent)) where
  abbrev pub Stand : HostView → Type 0
  Stand h = Stands steps out h.sockets

  pub to-new : (left new : HostView) → new ≡ left → Stand left → Stand new
  to-new left new is stands = subst Stand (sym is) stands

  segment-on : (h : HostView) (moment : Moment) (isn : ℕ) (source : Addr) (s : Segment) (answer : Result (Unit {0}) DropCause) (new : HostView) → Stand h → MeetsSegment (segment_arrival h moment isn source s) h moment source answer new → Stand new
  segment-on h moment isn source s answer new stands met = by_arrival (arrival h.sockets moment isn source s) refl met
    where
      becomes : (next : SocketsView) → after_arrival h.sockets (arrival h.sockets moment isn source s) ≡ next → Stands steps out next
      becomes next is = subst (Stands steps out) is (table-on steps out h.sockets (table.Hears moment isn source s) tt stands)

      opened : (next : SocketsView) → arrival h.sockets moment isn source s ≡ Opens next → (r : Result (Unit {0}) DropCause) → MeetsSegment (Opens next) h moment source r new → Stand new
      opened next is (Ok done) met = to-new (with_sockets h next) new met (becomes next (ap (after_arrival h.sockets) is))
      opened next is (Err cause) met = to-new h new met.1 stands

      by_route : (next : SocketsView) → arrival h.sockets moment isn source s ≡ Opens next → (routed : Bool) → MeetsSegment (arrival_by_route routed (Opens next)) h moment source answer new → Stand new
      by_route next is true met = opened next is answer met
      by_route next is false met = to-new h new met.1 stands

      by_arrival : (a : Arrival) → arrival h.sockets moment isn source s ≡ a → MeetsSegment (arrival_by_route (is_routed h.interface source) a) h moment source answer new → Stand new
      by_arrival (Becomes next) is met = to-new (with_sockets h next) new met.1 (becomes next (ap (after_arrival h.sockets) is))
      by_arrival (Opens next) is met = by_route next is (is_routed h.interface source) met
      by_arrival NoRoomInTable is met = to-new h new met.1 stands
      by_arrival (Answers head) is met = to-new _ new met.1 stands

  user-on : (h : HostView) (to : Reception) (moment : Moment) (source : Addr) (u : UserDatagram) (quote : List ℕ) → Stand h → Stand (after_user_datagram to h moment source u quote)
  user-on h socket.Queued moment source u quote stands = table-on steps out h.sockets (table.HearsDatagram source u) tt stands
  user-on h socket.NoRoom moment source u quote stands = stands
  user-on h socket.NoSocket moment source u quote stands = stands

  payload-on : (h : HostView) (read : Result UserDatagram UdpFault) (moment : Moment) (source : Addr) (quote : List ℕ) → Stand h → Stand (after_payload read h moment source quote)
  payload-on h (Ok u) moment source quote stands = user-on h (reception h.sockets u) moment source u _ stands
  payload-on h (Err fault) moment source quote stands = stands

  outcome-on : (h : HostView) (outcome : Outcome) (moment : Moment) (d : Datagram) → Stand h → Stand (after_outcome outcome h moment d)
  outcome-on h (Waits r) moment d stands = stands
  outcome-on h GivesUp moment d stands = stands
  outcome-on h (Completes payload quote) moment d stands = payload-on (with_noted h moment d) (datagram_or_fault d.source d.destination payload) moment d.source quote stands

  fragment-on : (h : HostView) (outcome : Option Outcome) (late : Bool) (moment : Moment) (d : Datagram) (answer : Result (Unit {0}) DropCause) (new : HostView) → Stand h → MeetsFragment outcome late h moment d answer new → Stand new
  fragment-on h None late moment d answer new stands met = to-new h new met.1 stands
  fragment-on h (Some outcome) true moment d answer new stands met = to-new h new met.1 stands
  fragment-on h (Some outcome) false moment d answer new stands met = to-new _ new met.1 (outcome-on (with_pool h (after_take moment d (pool_for h.sockets.manner.guards d h.pool))) outcome moment d stands)

  message-on : (h : HostView) (told : Told) (moment : Moment) (m : Control) (answer : Result (Unit {0}) DropCause) (new : HostView) → Stand h → MeetsMessage told h moment m answer new → Stand new
  message-on h AsksForEcho moment m answer new stands met = to-new _ new met.1 stands
  message-on h (Refuses quote) moment m answer new stands met = to-new _ new met.1 (table-on steps out h.sockets (table.Unreachable quote.source quote.destination quote.number) tt stands)
  message-on h TellsNothing moment m answer new stands met = to-new h new met.1 stands

  pub heard-on : (h : HostView) (moment : Moment) (isn : ℕ) (answer : Result (Unit {0}) DropCause) (new : HostView) → Stand h → (m : Result Meaning DropCause) → MeetsHeard m h moment isn answer new → Stand new
  heard-on h moment isn answer new stands (Ok (Arp packet)) met = to-new _ new met.1 stands
  heard-on h moment isn answer new stands (Ok (Tcp r)) met = segment-on h moment isn r.source r.segment answer new stands met
  heard-on h moment isn answer new stands (Ok (Icmp m)) met = message-on h (told_by m.message) moment m answer new stands met
  heard-on h moment isn answer new stands (Ok (Udp r)) met = to-new _ new met.1 (user-on h (reception h.sockets r.datagram) moment r.carrier.source r.datagram _ stands)
  heard-on h moment isn answer new stands (Ok (UdpFragment d)) met = fragment-on h (fragment_outcome moment d (pool_for h.sockets.manner.guards d h.pool)) (is_late_copy h moment d) moment d answer new stands met
  heard-on h moment isn answer new stands (Ok (Other d)) met = to-new _ new met.1 stands
  heard-on h moment isn answer new stands (Err cause) met = to-new h new met.1 stands

-- A tick is two.
pub ticked-on : (steps : List Step) (out : List (Option Sent)) (now : Moment) (old new : HostView) → Makes (Ticks now) old new → Stands steps out old.sockets → Stands (record { before = old; event = Ticks now; after = new } ∷ steps) (None ∷ out) new.sockets
ticked-on steps out now old new makes stands =
    let step : Step = record { before = old; event = Ticks now; after = new } in
    let moment : Moment = later_moment old.sockets now in
    let timed = table-on (step ∷ steps) (None ∷ out) old.sockets (table.Ticks moment) tt (quiet-on step steps out old.sockets refl stands) in
    to-new (step ∷ steps) (None ∷ out) _ new makes (table-on (step ∷ steps) (None ∷ out) (after_event old.sockets (table.Ticks moment)) (table.GivesUp (lacks_hop old moment) moment) tt timed)

pub delivered-on : (steps : List Step) (out : List (Option Sent)) (now : Moment) (isn : ℕ) (octets : List ℕ) (old new : HostView) → Makes (Delivers now isn octets) old new → Stands steps out old.sockets
    → Stands (record { before = old; event = Delivers now isn octets; after = new } ∷ steps) (None ∷ out) new.sockets
delivered-on steps out now isn octets old new makes stands =
    let step : Step = record { before = old; event = Delivers now isn octets; after = new } in
    heard-on (step ∷ steps) (None ∷ out) old (later_moment old.sockets now) isn makes.0 new (quiet-on step steps out old.sockets refl stands) (heard_by old octets) makes.1
