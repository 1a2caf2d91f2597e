-- What goes out of a side's host: a segment of one of two ends, or nothing of either.
use Rattle.std.proofs.Common.{◌≡◌, ◌≢◌, inl, inr, ℕ, ◌==◌, ◌&&◌, not, Bool, true, false, if◌then◌else◌, List, [], ◌∷◌, ◌++◌, Option, Some, None, option_map, refl, sym, ◌∙◌, ap, subst}
use Rattle.std.specs.List.{find, slice_get}
use Rattle.std.proofs.lemmas.Bool.{and_from}
use Rattle.ether.specs.declared.mac.Mac.{Mac}
use Rattle.ipv4.specs.declared.addr.Addr.{Addr}
use Rattle.ipv4.specs.declared.addr.Endpoint.{Endpoint}
use Rattle.ipv4.specs.declared.addr.Pair.{Pair}
use Rattle.ipv4.specs.Addresses.{pair_of, same_end}
use Rattle.ipv4.proofs.Pairs.{same_ends}
use Rattle.clock.specs.declared.moment.Moment.{Moment}
use Rattle.tcp_segment.specs.Segment.{Segment}
use Rattle.tcp_segment.specs.Sent.{sent_segment}
use Rattle.tcp_state.specs.declared.emission.Due.{Due}
use Rattle.tcp_state.specs.Due.{first_due, flags_of, after_emitted}
use Rattle.tcp_state.specs.Edges as edge
use Rattle.tcp_state.specs.Said.{segment_of}
use Rattle.tcp_state.specs.View.{View, is_closed}
use Rattle.tcp_state.proofs.GoesOut.{due-may}
use Rattle.stream_law.proofs.PairingEmission.{unclosed_goes}
use Rattle.udp_socket.specs.SocketView.{SocketView}
use Rattle.frames.specs.Meaning.{heard}
use Rattle.frames.specs.Pairs.{pair_in, pair_between}
use Rattle.interface.specs.declared.reply.Reply.{Reply}
use Rattle.interface.specs.declared.reply.Reply.TheVariants.{Arp, Reset, Echo, Error}
use Rattle.interface.specs.declared.reply.Waiting.{Waiting}
use Rattle.interface.specs.declared.way.Way.{Way}
use Rattle.interface.specs.declared.way.Way.TheVariants.{To, Ask, Waits}
use Rattle.interface.specs.Replies.{way_of}
use Rattle.interface.specs.Sound.{IsSoundReply}
use Rattle.sockets.specs.declared.entry.Entry.{Entry}
use Rattle.sockets.specs.declared.entry.SocketId.{SocketId}
use Rattle.sockets.specs.declared.role.Role.{Role}
use Rattle.sockets.specs.declared.role.Role.TheVariants.{Connected, Datagrams}
use Rattle.sockets.specs.Causes.{Emits, after_event, is_next_out}
use Rattle.sockets.specs.Closing.{entry_of}
use Rattle.sockets.specs.Emission.{in_turn}
use Rattle.sockets.specs.Entries.{is_between, is_live_between, is_kept, sends}
use Rattle.sockets.specs.Ids.{has_id}
use Rattle.sockets.specs.Order.{IsOrdered, LiesAt}
use Rattle.sockets.specs.Sound.{IsSoundConnection, IsSoundRole}
use Rattle.sockets.specs.SocketsView.{SocketsView, later_moment}
use Rattle.sockets.specs.Steps.{connected, view_left}
use Rattle.sockets.proofs.Ends.{same_addr-same, same_end-same}
use Rattle.sockets.proofs.Followed.{by_test}
use Rattle.host.specs.Carried.{Carried, carried, carried_by, carried_for, carried_reply}
use Rattle.host.specs.Emission as host_emission
use Rattle.host.specs.Emission.{Emission, Replies, Sends, Asks, Nothing, emission, emission_octets, after_emission, goes_out_from}
use Rattle.host.specs.HostView.{HostView}
use Rattle.host.specs.Sound.{IsSoundHost}
use Rattle.host.proofs.Carriage.{carried-pair}
use Rattle.sides.specs.declared.side.Side.{Side}
use Rattle.sides.specs.declared.side.Side.TheVariants.{A, B}
use Rattle.wire_sim.specs.declared.event.Answer.TheVariants as reply
use Rattle.wire_sim.specs.declared.event.Event.TheVariants as event
use Rattle.wire_sim.specs.declared.world.bag.Frame.{Frame}
use Rattle.wire_sim.specs.Duties.{Has}
use Rattle.wire_sim.specs.HostRuns.{IsKept}
use Rattle.wire_sim.specs.Passage.{addr_at}
use Rattle.wire_sim.specs.Runs.{IsReached, IsStep}
use Rattle.wire_sim.specs.Sent.{heard_as, segment_from}
use Rattle.wire_sim.specs.Steps.{EmitsFrame, with_host}
use Rattle.wire_sim.specs.Tallies.{same_pair}
use Rattle.wire_sim.specs.WorldView.{WorldView, NetworkView, host_of, table_of, clock_of}
use Rattle.wire_sim.proofs.HostsRun.{sound-at, tables-kept}
use Rattle.wire_sim.proofs.carried.TableSends.{OfConnection, OfSocket, sends-for}
use Rattle.wire_sim.proofs.fairness.NotesAreTraced.{got-last}
use Rattle.wire_sim.proofs.lists.FoundAfterChange.{All-find, All-at, found-sole}
use Rattle.wire_sim.proofs.passage.SegmentsCarried.{IsCarried, carried-sent}
use Rattle.wire_sim.proofs.tables.PairOfPorts.{same_pair-same, same_pair-true}
use Rattle.wire_sim.proofs.tables.TableById.{eqb-same}
use Rattle.wire_sim.proofs.two_ends.Meets.{lies_under}
use Rattle.wire_sim.proofs.two_ends.Travels.{found_once}
use Rattle.wire_sim.proofs.two_ends.UnderIds.{sole_id, connection_then}
use Rattle.settling_law.specs.Settling.{is_theirs, speaks, is_reset, resets}
use Rattle.settling_law.proofs.Frames.{Says, IsForeign, same_entry}
use Rattle.settling_law.proofs.Speaking.{between, carries as entry_carries, carries_segment, from, lies}

-- A segment of the connection goes out, or none of it does.
pub data GoesOut (w u : WorldView) (side : Side) (index : ℕ) (v next : View) : Type 0 where
  says : (due : Due) (now : Moment) → first_due v ≡ Some due → next ≡ after_emitted v due now → Says u index v.local v.peer (segment_of v due) → GoesOut w u side index v next
  silent : speaks (pair_of v.local v.peer) w side ≡ false → next ≡ v → IsForeign u index (pair_of v.local v.peer) → GoesOut w u side index v next

-- the host that is put into a network stands there
pub put : (n : NetworkView) (side : Side) (h : HostView) (frames : List Frame) → host_of (let m = with_host n side h in record m { frames = frames }) side ≡ h
put n A h frames = refl
put n B h frames = refl

-- a reset that waits carries one
reply_resets : (h : HostView) (moment : Moment) (r : Reply) (c : Carried) → IsSoundReply h.interface.addr r → (x : Way) → carried_reply r x ≡ Some c → c.segment.flags.rst ≡ true
reply_resets h moment (Arp packet) c solid x is = cc
reply_resets h moment (Reset to head) c solid (To mac) is =
    let own : Carried = record { mac = mac; to = to; segment = sent_segment head [] } in
    let same : own ≡ c = cc in
    ap (λ (k : Carried). k.segment.flags.rst) (sym same) ∙ solid.reset
reply_resets h moment (Reset to head) c solid (Ask hop) is = cc
reply_resets h moment (Reset to head) c solid Waits is = cc
reply_resets h moment (Echo to identifier number octets) c solid x is = cc
reply_resets h moment (Error to reason quoted) c solid x is = cc

replies_reset : (h : HostView) (moment : Moment) (place : ℕ) (c : Carried) → IsSoundHost h → (o : Option Waiting) → slice_get h.interface.replies place ≡ o → carried_for h moment o ≡ Some c → c.segment.flags.rst ≡ true
replies_reset h moment place c sound None at is = cc
replies_reset h moment place c sound (Some waiting) at is =
    let own = sound.interface in
    reply_resets h moment waiting.reply c (All-at (λ (x : Waiting). IsSoundReply h.interface.addr x.reply) h.interface.replies place waiting own.replies at) (way_of h.interface moment waiting.reply) is

-- what is said in the frames is not between the two ends
unsaid : (pair : Pair) (w : WorldView) (side : Side) (o : Option Carried) → is_theirs pair w side o ≡ false → (p : Pair) → option_map (λ (c : Carried). pair_between (addr_at w.network side) c.to c.segment) o ≡ Some p → p ≢ pair
unsaid pair w side None apart p is same = cc
unsaid pair w side (Some c) apart p is same =
    let at : pair_between (addr_at w.network side) c.to c.segment ≡ pair = (let one : pair_between (addr_at w.network side) c.to c.segment ≡ p = cc in one ∙ same) in
    let bad : true ≡ false = sym (ap (λ q. same_pair q pair) at ∙ same_pair-same pair) ∙ apart in
    cc

module _ (limit : ℕ) (w u : WorldView) (side : Side) (index len : ℕ) (id : SocketId) (l m : Option SocketId) (v next : View) (reached : IsReached limit w) (step : IsStep (event.Emit side) (reply.Frame index len) w u)
    (has : Has w side id l v) (has_then : Has u side id m next) (lives : is_closed v.state ≡ false) where
  abbrev pub pair : Pair
  pair = pair_of v.local v.peer

  abbrev h : HostView
  h = host_of w.network side

  abbrev now : Moment
  now = clock_of w.network side

  abbrev moment : Moment
  moment = later_moment h.sockets now

  sound : IsSoundHost h
  sound = sound-at w u step side

  kept : IsKept now h.sockets
  kept = tables-kept limit w reached side

  ordered : IsOrdered h.sockets
  ordered = kept.ordered

  abbrev emits : EmitsFrame side index len w.network u.network
  emits = step.network

  first : slice_get u.network.frames index ≡ Some emits.frame
  first = ap (λ (k : NetworkView). slice_get k.frames index) emits.after ∙ (ap (λ (i : ℕ). slice_get (w.network.frames ++ emits.frame ∷ []) i) emits.place ∙ got-last w.network.frames emits.frame)

  -- the table behind it
  left : table_of u.network side ≡ (let k = after_emission h now in k.sockets)
  left = ap (λ (k : NetworkView). table_of k side) emits.after ∙ ap (λ (k : HostView). k.sockets) (put w.network side (after_emission h now) (w.network.frames ++ emits.frame ∷ []))

  stays : (let k = after_emission h now in k.sockets) ≡ h.sockets → next ≡ v
  stays same = same_entry id m l next v (sym has_then ∙ (ap (λ (t : SocketsView). entry_of t id) (left ∙ same) ∙ has))

  other_frame : speaks pair w side ≡ false → IsForeign u index pair
  other_frame off = record {
    f = emits.frame;
    there = first;
    other = λ p is. unsaid pair w side (carried h now) off p (sym (carried-pair h now sound ordered) ∙ (ap pair_in (sym emits.octets) ∙ is));
  }

  quiet : speaks pair w side ≡ false → next ≡ v → GoesOut w u side index v next
  quiet off same = silent off same (other_frame off)

  own_addr : v.local.addr ≡ h.interface.addr
  own_addr = lies_under h.sockets id v l ordered has ∙ sym sound.own

  -- what an entry has due
  module _ (mac : Mac) (to : Addr) (is : emission h moment ≡ Sends mac to) (e : Entry) (found : find (in_turn h.sockets (sends (goes_out_from h moment))) h.sockets.entries ≡ Some e) where
    abbrev goes : Addr → Bool
    goes = goes_out_from h moment

    is_next : is_next_out h.sockets goes (connected id v l) ≡ (e.id.0 == id.0)
    is_next = rw found refl

    -- what is left of the connection
    table : (let k = after_emission h now in k.sockets) ≡ after_event h.sockets (Emits goes moment)
    table = ap (λ (x : Emission). let k = host_emission.left_by h moment x in k.sockets) is

    after : Some (connected id next m) ≡ option_map (λ d. connected id d l) (view_left v (if e.id.0 == id.0 then Some (edge.Emits (later_moment h.sockets moment)) else None))
    after =
        sym has_then ∙ (ap (λ (t : SocketsView). entry_of t id) (left ∙ table)
        ∙ (connection_then h.sockets (Emits goes moment) id v l ordered has (λ zs none. ap (find (has_id id)) none)
        ∙ ap (λ b. option_map (λ d. connected id d l) (view_left v (if b then Some (edge.Emits (later_moment h.sockets moment)) else None))) is_next))

    another : (e.id.0 == id.0) ≡ false → next ≡ v
    another off =
        let same : Some (connected id next m) ≡ Some (connected id v l) = after ∙ ap (λ b. option_map (λ d. connected id d l) (view_left v (if b then Some (edge.Emits (later_moment h.sockets moment)) else None))) off in same_entry id m l next v same

    itself : (e.id.0 == id.0) ≡ true → e ≡ connected id v l
    itself own =
        let same : Some e ≡ Some (connected id v l) = sym (found-sole (in_turn h.sockets (sends goes)) (has_id id) h.sockets.entries e found own (sole_id id 0 h.sockets.last_id h.sockets.entries ordered.ids)) ∙ has in
        cc

    it_goes : (e.id.0 == id.0) ≡ true → next ≡ edge.after_event v (edge.Emits (later_moment h.sockets moment))
    it_goes own = by_kept (is_kept (edge.fate_by v ev)) (after ∙ ap (λ b. option_map (λ d. connected id d l) (view_left v (if b then Some ev else None))) own)
      where
        ev : edge.Event
        ev = edge.Emits (later_moment h.sockets moment)

        by_kept : (b : Bool) → Some (connected id next m) ≡ option_map (λ d. connected id d l) (if b then Some (edge.after_event v ev) else None) → next ≡ edge.after_event v ev
        by_kept true same = same_entry id m l next (edge.after_event v ev) same
        by_kept false same = cc

    -- it is the connection's own segment that goes out
    module _ (c : View) (listener : Option SocketId) (due : Due) (role : e.role ≡ Connected c listener) (due_first : first_due c ≡ Some due) (is_to : to ≡ c.peer.addr) where
      abbrev segment : Segment
      segment = segment_of c due

      abbrev sent : Carried
      sent = record { mac = mac; to = to; segment = segment }

      carries : carried h now ≡ Some sent
      carries = carries_segment w side mac to is e found c listener due role due_first

      solid : IsSoundConnection c
      solid = let t = sound.table in subst IsSoundRole role (All-find (λ (x : Entry). IsSoundRole x.role) (in_turn h.sockets (sends goes)) h.sockets.entries e t.entries found)

      own_end : h.interface.addr ≡ c.local.addr
      own_end = from w side mac to is e found c listener due role due_first sound ordered is_to

      its_ends : pair_between h.interface.addr to segment ≡ pair_of c.local c.peer
      its_ends = between w side mac to is e found c listener due role due_first sound ordered is_to

      says_own : Says u index c.local c.peer segment
      says_own =
          let s : IsCarried h.interface.addr (emission_octets h now) _ sent = carried-sent h now sent sound ordered carries in
          record {
            f = emits.frame;
            there = first;
            c = sent;
            is = refl;
            said = λ mac ours. ap (heard mac ours) emits.octets ∙ (s.said mac ours ∙ ap (λ (a : Addr). heard_as (segment_from a sent) mac ours) own_end);
            source = refl;
            destination = refl;
          }

      own_view : (e.id.0 == id.0) ≡ true → c ≡ v
      own_view own = let same : Connected c listener ≡ Connected v l = sym role ∙ ap (λ (x : Entry). x.role) (itself own) in cc

      goes_itself : (e.id.0 == id.0) ≡ true → GoesOut w u side index v next
      goes_itself own =
          let same = own_view own in
          let due_now : first_due v ≡ Some due = ap first_due (sym same) ∙ due_first in
          says due (later_moment h.sockets moment) due_now (it_goes own ∙ ap (λ (o : Option Due). edge.after_first v o (later_moment h.sockets moment)) due_now)
          (subst (λ (x : View). Says u index x.local x.peer (segment_of x due)) same says_own)

      -- of another connection it lies between other ends, unless it is a reset
      apart : (e.id.0 == id.0) ≡ false → (speaks pair w side ≡ true → resets w side ≡ false) → speaks pair w side ≡ false
      apart off unreset = by_test (speaks pair w side) (λ yes. absurd (clashes yes)) (λ fails. fails)
        where
          clashes : speaks pair w side ≡ true → ⊥
          clashes spoken =
              let its : same_pair (pair_between h.interface.addr to segment) pair ≡ true = sym (ap (is_theirs pair w side) carries) ∙ spoken in
              elim (same_ends c.local c.peer v.local v.peer (sym its_ends ∙ same_pair-true (pair_between h.interface.addr to segment) pair its)) [
                | inl same ↦
                    let plain : (let f = flags_of c due in f.rst) ≡ false = sym (ap is_reset carries) ∙ unreset spoken in
                    let alive = unclosed_goes c due solid.sound (due-may c due solid.sound due_first) plain in
                    let both : is_between v.local v.peer e ≡ true =
                    ap (λ (r : Role). is_live_between v.local v.peer r) role
                    ∙ (ap (λ b. not b && (same_end c.local v.local && same_end c.peer v.peer)) alive
                    ∙ and_from (same_end c.local v.local) (same_end c.peer v.peer) (ap (λ x. same_end c.local x) (sym same.0) ∙ same_end-same c.local) (ap (λ x. same_end c.peer x) (sym same.1) ∙ same_end-same c.peer)) in
                    let own : is_between v.local v.peer (connected id v l) ≡ true =
                    ap (λ b. not b && (same_end v.local v.local && same_end v.peer v.peer)) lives
                    ∙ and_from (same_end v.local v.local) (same_end v.peer v.peer) (same_end-same v.local) (same_end-same v.peer) in
                    let one : Some e ≡ Some (connected id v l) =
                    sym (found_once (is_between v.local v.peer) (in_turn h.sockets (sends goes)) h.sockets.entries e found both (ordered.ends v.local v.peer))
                    ∙ found_once (is_between v.local v.peer) (has_id id) h.sockets.entries (connected id v l) has own (ordered.ends v.local v.peer) in
                    let at : e ≡ connected id v l = cc in
                    let bad : true ≡ false = sym (eqb-same id.0) ∙ (ap (λ (x : Entry). x.id.0 == id.0) (sym at) ∙ off) in
                    cc
                | inr crossed ↦
                    let far = (All-find (λ (x : Entry). LiesAt h.sockets.addr x.role) (has_id id) h.sockets.entries (connected id v l) ordered.own has).1 in
                    let same : v.peer.addr ≡ h.sockets.addr = ap (λ (x : Endpoint). x.addr) (sym crossed.0) ∙ (lies w side mac to is e found c listener due role due_first sound ordered is_to).0 in
                    let bad : true ≡ false = sym (same_addr-same v.peer.addr h.sockets.addr same) ∙ far in
                    cc
              ]

      of_connection : (speaks pair w side ≡ true → resets w side ≡ false) → GoesOut w u side index v next
      of_connection unreset = by_test (e.id.0 == id.0) goes_itself (λ no. quiet (apart no unreset) (another no))

    -- a part of a datagram is none of the connection's
    of_socket : (bound : Option Endpoint) (socket : SocketView) → e.role ≡ Datagrams bound socket → GoesOut w u side index v next
    of_socket bound socket role =
        by_test (e.id.0 == id.0)
        (λ yes. let bad : Datagrams bound socket ≡ Connected v l = sym role ∙ ap (λ (x : Entry). x.role) (itself yes) in cc)
        (λ no. quiet (ap (is_theirs pair w side) (entry_carries w side mac to is e found (Datagrams bound socket) role)) (another no))

  of_emission : (x : Emission) → emission h moment ≡ x → (speaks pair w side ≡ true → resets w side ≡ false) → GoesOut w u side index v next
  of_emission (Replies place) is unreset =
      let still = stays (ap (λ (x : Emission). let k = host_emission.left_by h moment x in k.sockets) is) in
      by_carried (carried h now) refl still
    where
      by_carried : (o : Option Carried) → carried h now ≡ o → next ≡ v → GoesOut w u side index v next
      by_carried None none still = quiet (ap (is_theirs pair w side) none) still
      by_carried (Some c) some still =
          let rst : c.segment.flags.rst ≡ true = replies_reset h moment place c sound (slice_get h.interface.replies place) refl (sym (ap (carried_by h moment) is) ∙ some) in
          quiet (by_test (speaks pair w side) (λ yes. let bad : true ≡ false = sym (ap is_reset some ∙ rst) ∙ unreset yes in cc) (λ no. no)) still
  of_emission (Sends mac to) is unreset = elim (sends-for h moment mac to is) [
    | OfConnection e what c listener due next role due_first is_to leads ↦ of_connection mac to is e next.found c listener due role due_first is_to unreset
    | OfSocket e what bound socket next role due is_to leads ↦ of_socket mac to is e next.found bound socket role
  ]
  of_emission (Asks hop) is unreset = quiet (ap (λ (x : Emission). is_theirs pair w side (carried_by h moment x)) is) (stays (ap (λ (x : Emission). let k = host_emission.left_by h moment x in k.sockets) is))
  of_emission Nothing is unreset = quiet (ap (λ (x : Emission). is_theirs pair w side (carried_by h moment x)) is) (stays (ap (λ (x : Emission). let k = host_emission.left_by h moment x in k.sockets) is))

  pub goes_out : (speaks pair w side ≡ true → resets w side ≡ false) → GoesOut w u side index v next
  goes_out unreset = of_emission (emission h moment) refl unreset
