-- Whatever UDP goes out of a host over a run, a `sendto` took it, and it goes out in order.
use Rattle.std.proofs.Common.{◌≡◌, inl, inr, ℕ, ◌<◌, ◌≤◌, ◌^◌, Bool, true, List, [], ◌∷◌, length, Option, Some, None, option_map, Ok, refl, sym, ◌∙◌, ap, subst, arith}
use Rattle.std.specs.List.{AllByRecursion}
use Rattle.clock.specs.declared.moment.Moment.{Moment}
use Rattle.ether.specs.declared.mac.Mac.{Mac}
use Rattle.ipv4.specs.declared.addr.Addr.{Addr}
use Rattle.ipv4.specs.declared.addr.Endpoint.{Endpoint}
use Rattle.tcp_state.specs.declared.emission.Due.{Due as Segment}
use Rattle.tcp_state.specs.Due.{first_due}
use Rattle.tcp_state.specs.View.{View}
use Rattle.udp.specs.Datagram.{UserDatagram}
use Rattle.udp.specs.declared.cutting.Part.{Part}
use Rattle.udp_socket.specs.Emission.{after_part, brought, due_octets as socket_octets, due_part, due_peer, fragment_of, octets_of}
use Rattle.udp_socket.specs.SocketView.{SocketView as Queues}
use Rattle.udp_socket.proofs.Places.{due_brought}
use Rattle.frames.specs.declared.meaning.Meaning.TheVariants.{Udp, UdpFragment}
use Rattle.frames.specs.Meaning.{heard}
use Rattle.interface.specs.Emission.{part_frame_to}
use Rattle.interface.specs.Ways.{way}
use Rattle.interface.specs.declared.way.Way.TheVariants.{To}
use Rattle.sockets.specs.declared.emission.Emitted.TheVariants as what
use Rattle.sockets.specs.declared.emission.Outgoing.{Outgoing as Due}
use Rattle.sockets.specs.declared.entry.Entry.{Entry}
use Rattle.sockets.specs.declared.entry.SocketId.{SocketId}
use Rattle.sockets.specs.declared.role.Role.{Role}
use Rattle.sockets.specs.declared.role.Role.TheVariants.{Connected, Datagrams}
use Rattle.sockets.specs.Emission.{after_segment_sent, in_turn}
use Rattle.sockets.specs.Entries.{due_emitted, due_octets, due_to, emission_fate_of, entries_after_step, place_of, role_after_emission, sends, source_of, with_first, with_role}
use Rattle.sockets.specs.Ids.{AreAscending}
use Rattle.sockets.specs.Lists.{change_first}
use Rattle.sockets.specs.SocketsView.{SocketsView, later_moment}
use Rattle.sockets.proofs.Emitting.{IsFirstDatagram, first_datagram, segment_sent-found}
use Rattle.host.specs.ConfigView.{ConfigView}
use Rattle.host.specs.Emission as host_emission
use Rattle.host.specs.Emission.{Emission, Replies, Sends, Asks, Nothing, emission, emission_octets, emitted_frame, goes_out_from, left_by}
use Rattle.host.specs.HostView.{HostView}
use Rattle.host.specs.Runs.{Event, Calls, Ticks, Delivers, Emits, IsAsked, Makes, Runs, Begins, GoesOn}
use Rattle.host.specs.Sound.{IsSoundHost}
use Rattle.host.proofs.Carriage.{found-all}
use Rattle.host.proofs.Hearing.{way-mac}
use Rattle.host.proofs.Ran.{set_up-stays}
use Rattle.host.proofs.Tables.{run-ordered}
use Rattle.host_law.specs.DatagramsOut.{GoesBehind, GoesOutAs, NamesEndpoint, SendsInOrder, SendsNone, SendsWhatSendtoTook, Sent, count_taken}
use Rattle.host_law.specs.History.{Always, Step, history}
use Rattle.host_law.proofs.DatagramsFrames.{IsNext, OfConnection, OfSocket, TellsNone, connection-tells, framed, sends-for, tells-nothing, tells-reply, tells-request}
use Rattle.host_law.proofs.DatagramsOutboxes.{AllHold, Holds, IsBefore, IsBoundWithin, IsForemost, Numbered, first-brought, first-parted, found-holds, outs, segment-hold}
use Rattle.host_law.proofs.DatagramsParts.{TellsOne, part-tells, sent, u, was}
use Rattle.host_law.proofs.DatagramsTaken.{IsFrom, Stands, called, delivered-on, number-below, quiet-on, role-more, taken_of, ticked-on}
use Rattle.host_law.proofs.Led.{parted}

-- What a step sends, and what it leaves.
data Goes (c : ConfigView) (steps : List Step) (out : List (Option Sent)) (step : Step) : Type 0 where
  goes_none : SendsNone step → Stands (step ∷ steps) (None ∷ out) (let h = step.after in h.sockets) → Goes c steps out step
  goes_one : (s : Sent) → GoesOutAs c s step steps → AllByRecursion (GoesBehind s.id s.t) out → Stands (step ∷ steps) (Some s ∷ out) (let h = step.after in h.sockets) → Goes c steps out step

-- Nothing goes out but at an emission.

by-none : (step : Step) → ((now : Moment) → step.event ≡ Emits now → ⊥) → SendsNone step
by-none step other = record { whole = λ to r m. other m.now m.goes; fragment = λ to d m. other m.now m.goes }

module _ (old new : HostView) (now : Moment) where
  abbrev emits : Step
  emits = record { before = old; event = Emits now; after = new }

  -- it is what goes out then
  moment-is : (at : Moment) → Emits now ≡ Emits at → now ≡ at
  moment-is at same = cc

  means-none : TellsNone (emission_octets old now) → SendsNone emits
  means-none tells = record {
    whole = λ to r m. tells.whole m.mac to r (subst (λ (n : Moment). heard m.mac to (emission_octets old n) ≡ Ok (Udp r)) (sym (moment-is m.now m.goes)) m.means);
    fragment = λ to d m. tells.fragment m.mac to d (subst (λ (n : Moment). heard m.mac to (emission_octets old n) ≡ Ok (UdpFragment d)) (sym (moment-is m.now m.goes)) m.means);
  }

module _ (c : ConfigView) (steps : List Step) (out : List (Option Sent)) (old new : HostView) (now : Moment) (sound : IsSoundHost old) (ids : AreAscending 0 old.sockets.last_id old.sockets.entries) (face : old.interface.addr ≡ c.addr) (own : old.sockets.addr ≡ c.addr) (names : Always NamesEndpoint steps) (stands : Stands steps out old.sockets) where
  abbrev step : Step
  step = emits old new now

  abbrev moment : Moment
  moment = later_moment old.sockets now

  abbrev passes : Addr → Bool
  passes = goes_out_from old moment

  -- the table stays
  rests : new.sockets ≡ old.sockets → TellsNone (emission_octets old now) → Goes c steps out step
  rests same tells = goes_none (means-none old new now tells) (subst (Stands (step ∷ steps) (None ∷ out)) (sym same) (quiet-on step steps out old.sockets refl stands))

  -- a segment goes out
  segment-goes : (mac : Mac) (to : Addr) (e : Entry) (due : Endpoint × Due) (v : View) (l : Option SocketId) (first : Segment) → IsNext old.sockets passes e due → e.role ≡ Connected v l → first_due v ≡ Some first → way old.interface moment to ≡ To mac
      → emission old moment ≡ Sends mac to → new.sockets ≡ after_segment_sent old.sockets passes moment → Goes c steps out step
  segment-goes mac to e due v l first next role its leads is left =
      let quiet = quiet-on step steps out old.sockets refl stands in
      let mine = sound.interface in
      let frame : emission_octets old now ≡ emitted_frame old.interface mac to (due_emitted due.1 (Connected v l)) (due_octets old.sockets.addr due.1 (Connected v l)) =
      ap (host_emission.octets_of old moment) is ∙ framed old.interface mac to old.sockets passes e due (Connected v l) next role in
      let tells = connection-tells old.interface mac to old.sockets.addr due v l first its (way-mac old.interface moment to mac sound.interface leads) mine.mac in
      goes_none (means-none old new now (subst TellsNone (sym frame) tells))
      (subst (Stands (step ∷ steps) (None ∷ out)) (sym left)
      (record {
        outboxes = segment-hold (IsFrom (step ∷ steps) (None ∷ out)) old.sockets passes moment e due v l next.found next.is role quiet.outboxes;
        drawn = ap (λ (w : SocketsView). w.identification) (segment_sent-found old.sockets passes moment e due next.found next.is) ∙ quiet.drawn;
        below = quiet.below;
      }))

  -- a part of a datagram
  module _ (mac : Mac) (to : Addr) (e : Entry) (due : Endpoint × Due) (bound : Option Endpoint) (s : Queues) (next : IsNext old.sockets passes e due) (role : e.role ≡ Datagrams bound s) (for : to ≡ due.0.addr) (leads : way old.interface moment to ≡ To mac)
      (is : emission old moment ≡ Sends mac to) (left : new.sockets ≡ after_segment_sent old.sockets passes moment) (place : ℕ) (at : place_of due.1 ≡ place) (b : IsForemost (IsFrom steps out e.id bound) s place) (peer : b.z.o.peer ≡ due.0)
      (local : Endpoint) (bound_is : bound ≡ Some local) (from : IsFrom steps out e.id (Some local) b.z) (within : IsBoundWithin bound) where
    abbrev end : Endpoint
    end = record { addr = c.addr; port = local.port }

    abbrev part : Part
    part = record { identification = b.z.o.identification; fragment = fragment_of b.z.o b.parts }

    abbrev octets : List ℕ
    octets = octets_of end b.z.o b.parts

    small : local.port < 2 ^ 16
    small = subst IsBoundWithin bound_is within

    whole_mac : length mac.0 ≡ 6
    whole_mac = way-mac old.interface moment to mac sound.interface leads

    own_addr : length old.interface.addr.0 ≡ 4
    own_addr = let i = sound.interface in i.addr

    own_mac : length old.interface.mac.0 ≡ 6
    own_mac = let i = sound.interface in i.mac

    -- what it is of
    abbrev one : Sent
    one = sent c steps out old.interface mac e.id local b.z b.parts from face own_addr whole_mac own_mac small names b.below

    abbrev user : UserDatagram
    user = u c steps out old.interface mac e.id local b.z b.parts

    moved : with_first due.1 s ≡ record s { outbox = b.z.o ∷ outs b.rest; parts = b.parts }
    moved = ap (λ (n : ℕ). brought n s) at ∙ b.is

    for_peer : to ≡ b.z.o.peer.addr
    for_peer = for ∙ ap (λ (p : Endpoint). p.addr) (sym peer)

    frame : emission_octets old now ≡ part_frame_to old.interface mac b.z.o.peer.addr part octets
    frame =
        ap (host_emission.octets_of old moment) is
        ∙ framed old.interface mac to old.sockets passes e due (Datagrams bound s) next role
        ∙ ap (λ (x : Queues). emitted_frame old.interface mac to (option_map (λ (p : Part). what.Datagram p) (due_part x)) (socket_octets (source_of old.sockets.addr bound) x)) moved
        ∙ ap (λ (a : Addr). part_frame_to old.interface mac to part (octets_of (source_of a bound) b.z.o b.parts)) own
        ∙ ap (λ (x : Option Endpoint). part_frame_to old.interface mac to part (octets_of (source_of c.addr x) b.z.o b.parts)) bound_is
        ∙ ap (λ (a : Addr). part_frame_to old.interface mac a part octets) for_peer

    tells : TellsOne one user (emission_octets old now)
    tells = subst (TellsOne one user) (sym frame) (part-tells c steps out old.interface mac e.id local b.z b.parts from face own_addr whole_mac own_mac small names b.below)

    goes-as : GoesOutAs c one step steps
    goes-as = record {
      u = user;
      was = was c steps out old.interface mac e.id local b.z b.parts from face own_addr whole_mac own_mac small names b.below;
      whole = λ to r m. let t = tells in t.whole m.mac to r (subst (λ (n : Moment). heard m.mac to (emission_octets old n) ≡ Ok (Udp r)) (sym (moment-is old new now m.now m.goes)) m.means);
      fragment = λ to d m. let t = tells in t.fragment m.mac to d (subst (λ (n : Moment). heard m.mac to (emission_octets old n) ≡ Ok (UdpFragment d)) (sym (moment-is old new now m.now m.goes)) m.means);
    }

    -- what waits goes behind it
    behind-it : (x : Numbered) → IsBefore b.z x → IsFrom steps out e.id bound x → IsFrom (step ∷ steps) (Some one ∷ out) e.id bound x
    behind-it x before w = record { local = w.local; is = w.is; taken = inr w.taken; identification = w.identification; short = w.short; behind = (λ same there. inl (before there), w.behind) }

    more-of-it : (let f = fragment_of b.z.o b.parts in f.more_fragments) ≡ true → IsFrom steps out e.id bound b.z → IsFrom (step ∷ steps) (Some one ∷ out) e.id bound b.z
    more-of-it more w = record { local = w.local; is = w.is; taken = inr w.taken; identification = w.identification; short = w.short; behind = (λ same there. inr (refl, more), w.behind) }

    of-others : (x : Entry) → (x.id.0 ≡ e.id.0 → ⊥) → Holds (IsFrom steps out) x.id x.role → Holds (IsFrom (step ∷ steps) (Some one ∷ out)) x.id x.role
    of-others x apart holds =
        role-more (IsFrom steps out) (IsFrom (step ∷ steps) (Some one ∷ out)) x.id x.role
        (λ there z w. record { local = w.local; is = w.is; taken = inr w.taken; identification = w.identification; short = w.short; behind = (λ same for. absurd (apart (ap (λ (i : SocketId). i.0) (sym same))), w.behind) }) holds

    abbrev change : Role → Role
    change = role_after_emission (later_moment old.sockets moment) due.1

    of-own : Holds (IsFrom steps out) e.id e.role → Holds (IsFrom (step ∷ steps) (Some one ∷ out)) e.id (change e.role)
    of-own holds =
        let parted_so = first-parted (IsFrom steps out e.id bound) (IsFrom (step ∷ steps) (Some one ∷ out) e.id bound) s place b behind-it more-of-it in
        let moved_so = subst (λ (n : ℕ). Holds (IsFrom (step ∷ steps) (Some one ∷ out)) e.id (Datagrams bound (after_part (brought n s)))) (sym at) (within, parted_so) in
        subst (λ (r : Role). Holds (IsFrom (step ∷ steps) (Some one ∷ out)) e.id (change r)) (sym role) moved_so

    kept_so : entries_after_step (emission_fate_of (change e.role)) (in_turn old.sockets (sends passes)) change old.sockets.entries ≡ change_first (in_turn old.sockets (sends passes)) (with_role change) old.sockets.entries
    kept_so = ap (λ (r : Role). entries_after_step (emission_fate_of (change r)) (in_turn old.sockets (sends passes)) change old.sockets.entries) role

    holds-then : AllHold (IsFrom (step ∷ steps) (Some one ∷ out)) (change_first (in_turn old.sockets (sends passes)) (with_role change) old.sockets.entries)
    holds-then =
        found-holds (λ (x : Entry). Holds (IsFrom steps out) x.id x.role) (λ (x : Entry). Holds (IsFrom (step ∷ steps) (Some one ∷ out)) x.id x.role) (in_turn old.sockets (sends passes)) (with_role change)
        0 old.sockets.last_id old.sockets.entries e ids next.found of-others of-own stands.outboxes

    stands-then : Stands (step ∷ steps) (Some one ∷ out) new.sockets
    stands-then =
        let quiet = quiet-on step steps out old.sockets refl stands in
        let most : count_taken steps ≤ count_taken (step ∷ steps) = omega arith in
        let low = number-below e.id (taken_of from.local b.z) steps from.taken in
        subst (Stands (step ∷ steps) (Some one ∷ out)) (sym (left ∙ segment_sent-found old.sockets passes moment e due next.found next.is))
        (record {
          outboxes = subst (AllHold (IsFrom (step ∷ steps) (Some one ∷ out))) (sym kept_so) holds-then;
          drawn = quiet.drawn;
          below = (omega (arith, low), let all = quiet.below in all.1);
        })

    part-goes : Goes c steps out step
    part-goes = goes_one one goes-as from.behind stands-then

  socket-goes : (mac : Mac) (to : Addr) (e : Entry) (due : Endpoint × Due) (bound : Option Endpoint) (s : Queues) → IsNext old.sockets passes e due → e.role ≡ Datagrams bound s → to ≡ due.0.addr → way old.interface moment to ≡ To mac → emission old moment ≡ Sends mac to
      → new.sockets ≡ after_segment_sent old.sockets passes moment → Goes c steps out step
  socket-goes mac to e due bound s next role for leads is left =
      let first : IsFirstDatagram passes s.outbox 0 due = first_datagram passes bound s due (ap (due_to passes) (sym role) ∙ next.is) in
      let here : Holds (IsFrom steps out) e.id (Datagrams bound s) =
      subst (Holds (IsFrom steps out) e.id) role (found-all (λ (x : Entry). Holds (IsFrom steps out) x.id x.role) (in_turn old.sockets (sends passes)) old.sockets.entries e stands.outboxes next.found) in
      let b = first-brought (IsFrom steps out e.id bound) s passes first.place first.first here.1 in
      let at : place_of due.1 ≡ first.place = ap place_of first.what ∙ omega arith in
      let peers : Some b.z.o.peer ≡ Some due.0 = sym (ap (λ (x : Queues). due_peer x.outbox) b.is) ∙ due_brought s first.place due.0 first.peer in
      let peer : b.z.o.peer ≡ due.0 = cc in
      let w = b.first in
      part-goes mac to e due bound s next role for leads is left first.place at b peer w.local w.is (subst (λ (x : Option Endpoint). IsFrom steps out e.id x b.z) w.is b.first) here.0

  sends-goes : (mac : Mac) (to : Addr) → emission old moment ≡ Sends mac to → new.sockets ≡ after_segment_sent old.sockets passes moment → Goes c steps out step
  sends-goes mac to is left =
      elim (sends-for old moment mac to is) [
        | OfConnection e due v l first next role its leads ↦ segment-goes mac to e due v l first next role its leads is left
        | OfSocket e due bound s next role for leads ↦ socket-goes mac to e due bound s next role for leads is left
      ]

  emission-goes : (x : Emission) → emission old moment ≡ x → new ≡ left_by old moment x → Goes c steps out step
  emission-goes (Replies place) is left = rests (ap (λ (w : HostView). w.sockets) left) (subst TellsNone (sym (ap (host_emission.octets_of old moment) is)) (tells-reply old.interface moment place sound.interface))
  emission-goes (Sends mac to) is left = sends-goes mac to is (ap (λ (w : HostView). w.sockets) left)
  emission-goes (Asks hop) is left = rests (ap (λ (w : HostView). w.sockets) left) (subst TellsNone (sym (ap (host_emission.octets_of old moment) is)) (tells-request old.interface hop (let i = sound.interface in i.mac)))
  emission-goes Nothing is left = rests (ap (λ (w : HostView). w.sockets) left) (subst TellsNone (sym (ap (host_emission.octets_of old moment) is)) tells-nothing)

-- Any event.

goes-on : (c : ConfigView) (before : List Event) (event : Event) (old new : HostView) (ran : Runs c before old) (out : List (Option Sent)) → IsSoundHost old → IsAsked c event → Makes event old new
    → NamesEndpoint (record { before = old; event = event; after = new }) (history ran) → Always NamesEndpoint (history ran) → Stands (history ran) out old.sockets → Goes c (history ran) out (record { before = old; event = event; after = new })
goes-on c before (Calls call) old new ran out sound asked makes named names stands = goes_none (by-none _ (λ now is. cc)) (called c (history ran) out call old new named asked makes stands)
goes-on c before (Ticks now) old new ran out sound asked makes named names stands = goes_none (by-none _ (λ at is. cc)) (ticked-on (history ran) out now old new makes stands)
goes-on c before (Delivers now isn octets) old new ran out sound asked makes named names stands = goes_none (by-none _ (λ at is. cc)) (delivered-on (history ran) out now isn octets old new makes stands)
goes-on c before (Emits now) old new ran out sound asked makes named names stands =
    let stays = set_up-stays c before old ran in
    let ordered = run-ordered c before old ran in
    emission-goes c (history ran) out old new now sound ordered.ids stays.1 stays.2 names stands (emission old (later_moment old.sockets now)) refl makes

-- Over a run.

-- what went out by then, in order, and what the table keeps
record Sending (c : ConfigView) (steps : List Step) (h : HostView) : Type 0 where
  pub law : SendsInOrder c steps
  pub stands : Stands steps (let l = law in l.out) h.sockets

sends_so : (c : ConfigView) (events : List Event) (h : HostView) (run : Runs c events h) → AllByRecursion (IsAsked c) events → Always NamesEndpoint (history run) → Sending c (history run) h
sends_so c _ _ Begins asked names = record { law = record { out = []; sent = tt; in_order = tt }; stands = record { outboxes = tt; drawn = refl; below = tt } }
sends_so c _ h (GoesOn before event old _ ran sound numbered makes) asked names =
    let both = parted (IsAsked c) before event asked in
    let before_so = sends_so c before old ran both.0 names.1 in
    let law = before_so.law in
    elim (goes-on c before event old h ran law.out sound both.1 makes names.0 names.1 before_so.stands) [
      | goes_none none stands ↦ record { law = record { out = None ∷ law.out; sent = (none, law.sent); in_order = law.in_order }; stands = stands }
      | goes_one s goes behind stands ↦ record { law = record { out = Some s ∷ law.out; sent = (goes, law.sent); in_order = (behind, law.in_order) }; stands = stands }
    ]

pub datagrams_sent : (c : ConfigView) (events : List Event) (h : HostView) (run : Runs c events h) → AllByRecursion (IsAsked c) events → SendsWhatSendtoTook c (history run)
datagrams_sent c events h run asked names = let so = sends_so c events h run asked names in so.law
