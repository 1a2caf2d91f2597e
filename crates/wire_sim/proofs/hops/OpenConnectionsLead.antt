-- The next hop of a connection of a world that is past its opening is the other host: something of it went out, to a MAC that was known.
use Rattle.std.proofs.Common.{◌≡◌, ◌⊎◌, inl, inr, ◌||◌, Bool, true, false, ℕ, List, Option, Some, None, if◌then◌else◌, refl, sym, ◌∙◌, ap, subst}
use Rattle.std.specs.List.{find, slice_get}
use Rattle.ether.specs.declared.mac.Mac.{Mac}
use Rattle.arp.specs.Cache.{look, may_ask}
use Rattle.ipv4.specs.declared.addr.Addr.{Addr}
use Rattle.clock.specs.declared.moment.Moment.{Moment}
use Rattle.tcp_state.specs.View.{View, is_closed, is_opening}
use Rattle.interface.specs.declared.way.Way.TheVariants.{To, Ask, Waits}
use Rattle.interface.specs.InterfaceView.{InterfaceView}
use Rattle.interface.specs.Routing.{next_hop}
use Rattle.interface.specs.Ways.{hop_mac, mac_of, way, way_by_mac, way_over}
use Rattle.sockets.specs.declared.entry.Entry.{Entry}
use Rattle.sockets.specs.declared.entry.SocketId.{SocketId}
use Rattle.sockets.specs.declared.role.Role.{Role}
use Rattle.sockets.specs.declared.role.Role.TheVariants.{Idle, Listener, Connected, Datagrams}
use Rattle.sockets.specs.Causes as table
use Rattle.sockets.specs.Causes.{after_arrival, after_event}
use Rattle.sockets.specs.Emission.{in_turn}
use Rattle.sockets.specs.Entries.{sends}
use Rattle.sockets.specs.Sound.{IsSoundTable}
use Rattle.sockets.specs.SocketsView.{SocketsView, later_moment}
use Rattle.sockets.proofs.Followed.{some_same}
use Rattle.sockets.proofs.SoundTicks.{tick_sound}
use Rattle.sockets.proofs.Steps.{entry}
use Rattle.host.specs.ConfigView.{ConfigView}
use Rattle.host.specs.Emission.{Emission, Replies, Sends, Asks, Nothing, after_emission, emission, goes_out_from, left_by}
use Rattle.host.specs.HostView.{HostView, with_sockets}
use Rattle.host.specs.Runs.{Event as HostEvent, Calls, Ticks, Delivers, Emits, IsCall, Makes}
use Rattle.host.specs.Sound.{IsSoundHost}
use Rattle.host.specs.Ticks.{after_tick, lacks_hop}
use Rattle.datagram_law.specs.Accepted.{Accepted, AreInTurn}
use Rattle.datagram_law.specs.Pools.{IsPoolOf}
use Rattle.sides.specs.declared.side.Side.{Side}
use Rattle.sides.specs.declared.side.Side.TheVariants.{A, B}
use Rattle.sides.specs.Sides.{other_side}
use Rattle.wire_sim.specs.declared.event.Answer.{Answer}
use Rattle.wire_sim.specs.declared.event.Event.{Event}
use Rattle.wire_sim.specs.declared.world.bag.Frame.{Frame}
use Rattle.wire_sim.specs.Neighbours.{LeadsToTheOther, EveryOpenConnectionLeadsToTheOther}
use Rattle.wire_sim.specs.Runs.{IsReached, begins, goes_on, IsStep}
use Rattle.wire_sim.specs.WorldView.{WorldView, host_of, table_of, clock_of}
use Rattle.wire_sim.proofs.HostsRun.{AreBrought, Brings, IsMoved, IsOwnCall, moved, sound-at}
use Rattle.wire_sim.proofs.carried.TableSends.{OfConnection, OfSocket, sends-for}
use Rattle.wire_sim.proofs.datagrams.EventsKeep.{AreHostsOf, IsFrameOf, hosts-swapped}
use Rattle.wire_sim.proofs.datagrams.PartsGoOut.{KeepsTo}
use Rattle.wire_sim.proofs.datagrams.RunsKeepDatagrams.{hosts-keep}
use Rattle.wire_sim.proofs.datagrams.UserArrives.{TableTakes, Stays, Queues, Hears, Learns, HostTakes, frame-takes}
use Rattle.wire_sim.proofs.hops.SpeakersHaveHops.{EachHasHop, GoesWhere, HasHopIn, each-hop}
use Rattle.wire_sim.proofs.lists.FoundAfterChange.{All-at, All-weaker}
use Rattle.wire_sim.proofs.passage.FramesAreSent.{from-other}
use Rattle.wire_sim.proofs.passage.FramesPass.{config_of, hosts-stay, side_at}
use Rattle.wire_sim.proofs.passage.HostsStay.{Anyone, IsSideOf}
use Rattle.wire_sim.proofs.passage.NeighboursAreOthers.{hops-others}

-- the next hop to an address, by the routes of one set-up, has the address of another one
abbrev LeadsBy : ConfigView → ConfigView → Addr → Type 0
LeadsBy c other to = next_hop c.routes to ≡ Some other.addr

-- What goes out.

-- a way to a MAC is one to that of the next hop
pub way-known : (i : InterfaceView) (now : Moment) (to : Addr) (mac : Mac) → way i now to ≡ To mac → hop_mac i now to ≡ Some mac
way-known i now to mac = by_hop (next_hop i.routes to)
  where
    by_ask : (hop : Addr) (b : Bool) → (if b then Ask hop else Waits) ≡ To mac → ⊥
    by_ask hop true is = cc
    by_ask hop false is = cc

    by_mac : (hop : Addr) (o : Option Mac) → way_by_mac now i.cache.asked hop o ≡ To mac → o ≡ Some mac
    by_mac hop (Some m) is = cc
    by_mac hop None is = absurd (by_ask hop (may_ask now hop i.cache.asked) is)

    by_hop : (o : Option Addr) → way_over now i.cache o ≡ To mac → mac_of now i.cache o ≡ Some mac
    by_hop None is = cc
    by_hop (Some hop) is = by_mac hop (look now hop i.cache) is

-- a segment that goes out leads to the other host
segment-leads : (limit : ℕ) (w : WorldView) (run : IsReached limit w) (side : Side) (moment : Moment) (mac : Mac) (to : Addr) → emission (host_of w.network side) moment ≡ Sends mac to
    → (id : SocketId) (c : View) (l : Option SocketId) → find (in_turn (table_of w.network side) (sends (goes_out_from (host_of w.network side) moment))) (let t = table_of w.network side in t.entries) ≡ Some (entry id (Connected c l))
    → LeadsBy (config_of limit w run side) (config_of limit w run (other_side side)) c.peer.addr
segment-leads limit w run side moment mac to is id c l found = elim (sends-for h moment mac to is) [
  | OfConnection e what d k due next role first at leads ↦
      let same : e ≡ entry id (Connected c l) = some_same _ e (entry id (Connected c l)) next.found found in
      let roles : Connected d k ≡ Connected c l = sym role ∙ ap (λ (x : Entry). x.role) same in
      let views : d ≡ c = cc in
      let known = hops-others limit w side moment to mac run (way-known h.interface moment to mac leads) in
      ap (λ (a : Addr). next_hop (config_of limit w run side).routes a) (ap (λ (v : View). v.peer.addr) (sym views) ∙ sym at)
      ∙ (ap (λ rs. next_hop rs to) (sym own.routes) ∙ (known.0 ∙ ap Some other.addr))
  | OfSocket e what bound socket next role due for leads ↦
      let same : e ≡ entry id (Connected c l) = some_same _ e (entry id (Connected c l)) next.found found in
      let roles : Datagrams bound socket ≡ Connected c l = sym role ∙ ap (λ (x : Entry). x.role) same in
      cc
]
  where
    h : HostView
    h = host_of w.network side

    own : IsSideOf (config_of limit w run side) Anyone (side_at w.network side)
    own = hosts-stay limit w run side

    other : IsSideOf (config_of limit w run (other_side side)) Anyone (side_at w.network (other_side side))
    other = hosts-stay limit w run (other_side side)

going-out : (limit : ℕ) (w : WorldView) (run : IsReached limit w) (side : Side) (moment : Moment) → IsSoundTable (table_of w.network side) → (leads : Addr → Type 0)
    → ((to : Addr) → LeadsBy (config_of limit w run side) (config_of limit w run (other_side side)) to → leads to) → EachHasHop leads (table_of w.network side)
    → EachHasHop leads (let left = left_by (host_of w.network side) moment (emission (host_of w.network side) moment) in left.sockets)
going-out limit w run side moment sound leads from before = by_emission (emission h moment) refl
  where
    h : HostView
    h = host_of w.network side

    where_to : (mac : Mac) (to : Addr) → emission h moment ≡ Sends mac to → GoesWhere leads h.sockets (table.Emits (goes_out_from h moment) moment)
    where_to mac to is goes now id c l same found =
        let goes_same : goes_out_from h moment ≡ goes = cc in
        from c.peer.addr (segment-leads limit w run side moment mac to is id c l (subst (λ (g : Addr → Bool). find (in_turn h.sockets (sends g)) h.sockets.entries ≡ Some (entry id (Connected c l))) (sym goes_same) found))

    by_emission : (x : Emission) → emission h moment ≡ x → EachHasHop leads (let left = left_by h moment x in left.sockets)
    by_emission (Replies place) is = before
    by_emission (Sends mac to) is = each-hop leads h.sockets (table.Emits (goes_out_from h moment) moment) sound (where_to mac to is) before
    by_emission (Asks hop) is = before
    by_emission Nothing is = before

-- What comes.

-- what a table took of a frame sends nothing
taken-hop : (leads : Addr → Type 0) (other : List Accepted) (h next : SocketsView) → IsSoundTable h → TableTakes other h next → EachHasHop leads h → EachHasHop leads next
taken-hop leads other h next sound takes before = by_takes takes
  where
    by_event : (e : table.Event) → next ≡ after_event h e → GoesWhere leads h e → EachHasHop leads next
    by_event e is quiet = subst (EachHasHop leads) (sym is) (each-hop leads h e sound quiet before)

    by_takes : TableTakes other h next → EachHasHop leads next
    by_takes (Stays same) = subst (EachHasHop leads) (sym same) before
    by_takes (Queues source d was becomes) = by_event (table.HearsDatagram source d) becomes (λ goes now id c l is found. cc)
    by_takes (Hears moment isn source s after (inl is) becomes) = by_event (table.Hears moment isn source s) (becomes ∙ sym (ap (after_arrival h) is)) (λ goes now id c l no found. cc)
    by_takes (Hears moment isn source s after (inr is) becomes) = by_event (table.Hears moment isn source s) (becomes ∙ sym (ap (after_arrival h) is)) (λ goes now id c l no found. cc)
    by_takes (Learns local peer number becomes) = by_event (table.Unreachable local peer number) becomes (λ goes now id c l is found. cc)

-- what the other side emitted keeps to what that accepted
record Came (w : WorldView) (side : Side) (octets : List ℕ) : Type 0 where
  other : List Accepted
  turn : AreInTurn other
  pool : IsPoolOf other (let h = host_of w.network side in h.pool)
  keeps : KeepsTo other octets

came-between : (hs ts : Side) (own other : List Accepted) (w : WorldView) (index : ℕ) (f : Frame) → AreHostsOf hs ts own other w.network → (hs ≡ ts → ⊥) → slice_get w.network.frames index ≡ Some f → f.sender ≡ ts → Came w hs f.octets.items
came-between hs ts own other w index f k apart there sender = elim (All-at (IsFrameOf hs ts own other) w.network.frames index f k.frames there) [
  | inl mine ↦ absurd (apart (sym mine.0 ∙ sender))
  | inr theirs ↦ record { other = other; turn = k.there.table.in_turn; pool = k.here.pool; keeps = theirs.1 }
]

came-from : (limit : ℕ) (w : WorldView) (run : IsReached limit w) (side : Side) (index : ℕ) (f : Frame) → slice_get w.network.frames index ≡ Some f → f.sender ≡ other_side side → Came w side f.octets.items
came-from limit w run A index f there sender = came-between A B _ _ w index f (hosts-keep limit w run) (λ same. cc) there sender
came-from limit w run B index f there sender = came-between B A _ _ w index f (hosts-swapped A B _ _ w.network (hosts-keep limit w run)) (λ same. cc) there sender

-- what the table of a side's host took of a frame that an event delivers to it
pub delivery-takes : (limit : ℕ) (w v : WorldView) → IsReached limit w → (happens : Event) (answer : Answer) → IsStep happens answer w v → (side : Side) (now : Moment) (isn : ℕ) (octets : List ℕ)
    → AreBrought w.network side happens (Delivers now isn octets) → Makes (Delivers now isn octets) (host_of w.network side) (host_of v.network side)
    → (other : List Accepted) × TableTakes other (table_of w.network side) (table_of v.network side)
delivery-takes limit w v run happens answer step side now isn octets brings makes =
    let b : Brings w.network side happens octets = brings now isn octets refl in
    let from : b.frame.sender ≡ other_side side = from-other w v side b.index b.isn b.frame answer b.there (subst (λ (x : Event). IsStep x answer w v) b.is step) in
    let came : Came w side b.frame.octets.items = came-from limit w run side b.index b.frame b.there from in
    let sound : IsSoundHost (host_of w.network side) = sound-at w v step side in
    let takes : HostTakes came.other (host_of w.network side) (host_of v.network side) =
    frame-takes came.other (host_of w.network side) (host_of v.network side) now isn octets makes.0 sound.own came.turn came.pool (subst (KeepsTo came.other) b.carries came.keeps) makes.1
    in
    (came.other, takes.table)

-- Any event.

-- that of a host whose table is this
hop-to : (leads : Addr → Type 0) (made new : HostView) → new ≡ made → EachHasHop leads made.sockets → EachHasHop leads new.sockets
hop-to leads made new is each = subst (λ (h : HostView). EachHasHop leads h.sockets) (sym is) each

hosts-lead : (limit : ℕ) (w : WorldView) (run : IsReached limit w) (side : Side) → EachHasHop (LeadsBy (config_of limit w run side) (config_of limit w run (other_side side))) (table_of w.network side)
hosts-lead limit w (begins a b a_is b_is apart few) A = tt
hosts-lead limit w (begins a b a_is b_is apart few) B = tt
hosts-lead limit _ (goes_on w v happens answer run step) side = by_move (hosts-lead limit w run side) (moved w v happens answer step side)
  where
    leads : Addr → Type 0
    leads = LeadsBy (config_of limit w run side) (config_of limit w run (other_side side))

    old : HostView
    old = host_of w.network side

    new : HostView
    new = host_of v.network side

    sound : IsSoundHost old
    sound = sound-at w v step side

    by_event : (e : HostEvent) → Makes e old new → AreBrought w.network side happens e → IsOwnCall old.interface.routes e → EachHasHop leads old.sockets → EachHasHop leads new.sockets
    by_event (Calls e) makes brings own before =
        hop-to leads (with_sockets old (after_event old.sockets e)) new makes.1
        (each-hop leads old.sockets e sound.table (λ goes now id c l is found. absurd (subst (IsCall old.interface.routes) is own)) before)
    by_event (Ticks now) makes brings own before =
        let moment : Moment = later_moment old.sockets now in
        let ticked : SocketsView = after_event old.sockets (table.Ticks moment) in
        hop-to leads (after_tick old now) new makes
        (each-hop leads ticked (table.GivesUp (lacks_hop old moment) moment) (tick_sound old.sockets moment sound.table) (λ goes at id c l is found. cc)
        (each-hop leads old.sockets (table.Ticks moment) sound.table (λ goes at id c l is found. cc) before))
    by_event (Delivers now isn octets) makes brings own before =
        let taken = delivery-takes limit w v run happens answer step side now isn octets brings makes in
        taken-hop leads taken.0 old.sockets new.sockets sound.table taken.1 before
    by_event (Emits now) makes brings own before =
        let moment : Moment = later_moment old.sockets now in
        hop-to leads (after_emission old now) new makes (going-out limit w run side moment sound.table leads (λ to known. known) before)

    by_move : EachHasHop leads old.sockets → IsMoved w.network (clock_of v.network side) side happens old new → EachHasHop leads new.sockets
    by_move before (inl same) = hop-to leads old new same before
    by_move before (inr (e, numbered, makes, brings, up, own)) = by_event e makes brings own before

-- Whatever is open.

pub connections-lead : EveryOpenConnectionLeadsToTheOther
connections-lead limit w run side =
    All-weaker (λ (x : Entry). HasHopIn leads x.role) (λ (x : Entry). LeadsToTheOther w.network side x.role) (λ x known. by_role x.role known) _ (hosts-lead limit w run side)
  where
    leads : Addr → Type 0
    leads = LeadsBy (config_of limit w run side) (config_of limit w run (other_side side))

    shut : (opening closed : Bool) → (opening || closed) ≡ false → (opening ≡ true) ⊎ (closed ≡ true) → ⊥
    shut true closed none (inl is) = cc
    shut false true none is = cc
    shut false false none (inl is) = cc
    shut false false none (inr is) = cc
    shut true closed none (inr is) = cc

    by_role : (r : Role) → HasHopIn leads r → LeadsToTheOther w.network side r
    by_role (Connected c l) (inl (inl unsent)) = λ past. absurd (shut (is_opening c.state) (is_closed c.state) past (inl unsent.0))
    by_role (Connected c l) (inl (inr closed)) = λ past. absurd (shut (is_opening c.state) (is_closed c.state) past (inr closed))
    by_role (Connected c l) (inr known) = λ past.
        let own = hosts-stay limit w run side in
        let other = hosts-stay limit w run (other_side side) in
        ap (λ rs. next_hop rs c.peer.addr) own.routes ∙ (known ∙ ap Some (sym other.addr))
    by_role (Listener local backlog) known = tt
    by_role (Idle buffers bound) known = tt
    by_role (Datagrams bound socket) known = tt
