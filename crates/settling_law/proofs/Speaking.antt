-- What goes out of a side's host for an entry: the segment that a connection has due first, between its two ends.
use Rattle.std.proofs.Common.{◌≡◌, true, Option, Some, option_map, option_and_then, sym, ◌∙◌, ap, subst}
use Rattle.std.specs.List.{find}
use Rattle.ether.specs.declared.mac.Mac.{Mac}
use Rattle.ipv4.specs.declared.addr.Addr.{Addr}
use Rattle.ipv4.specs.Addresses.{pair_of}
use Rattle.clock.specs.declared.moment.Moment.{Moment}
use Rattle.tcp_segment.specs.Segment.{Segment}
use Rattle.tcp_segment.specs.Sent.{sent_segment}
use Rattle.tcp_state.specs.declared.emission.Due.{Due}
use Rattle.tcp_state.specs.Due.{first_due, head_of, octets_of}
use Rattle.tcp_state.specs.Said.{segment_of}
use Rattle.tcp_state.specs.View.{View}
use Rattle.frames.specs.Pairs.{pair_between}
use Rattle.sockets.specs.declared.entry.Entry.{Entry}
use Rattle.sockets.specs.declared.entry.SocketId.{SocketId}
use Rattle.sockets.specs.declared.role.Role.{Role}
use Rattle.sockets.specs.declared.role.Role.TheVariants.{Connected}
use Rattle.sockets.specs.Closing.{entry_of}
use Rattle.sockets.specs.Emission.{in_turn}
use Rattle.sockets.specs.Entries.{sends}
use Rattle.sockets.specs.Ids.{has_id}
use Rattle.sockets.specs.Order.{IsOrdered, LiesAt}
use Rattle.sockets.specs.SocketsView.{later_moment}
use Rattle.host.specs.Carried.{Carried, carried, carried_by, due_segment}
use Rattle.host.specs.Emission.{Sends, emission, goes_out_from}
use Rattle.host.specs.HostView.{HostView}
use Rattle.host.specs.Sound.{IsSoundHost}
use Rattle.sides.specs.declared.side.Side.{Side}
use Rattle.wire_sim.specs.Duties.{Has}
use Rattle.wire_sim.specs.Tallies.{same_pair}
use Rattle.wire_sim.specs.WorldView.{WorldView, host_of, clock_of}
use Rattle.wire_sim.proofs.lists.FoundAfterChange.{All-find, found-sole}
use Rattle.wire_sim.proofs.tables.PairOfPorts.{same_pair-same}
use Rattle.wire_sim.proofs.tables.TableById.{eqb-same}
use Rattle.wire_sim.proofs.two_ends.UnderIds.{sole_id}
use Rattle.settling_law.specs.Settling.{is_theirs, speaks}

module _ (w : WorldView) (side : Side) where
  abbrev h : HostView
  h = host_of w.network side

  abbrev moment : Moment
  moment = later_moment h.sockets (clock_of w.network side)

  module _ (mac : Mac) (to : Addr) (is : emission h moment ≡ Sends mac to) (e : Entry) (found : find (in_turn h.sockets (sends (goes_out_from h moment))) h.sockets.entries ≡ Some e) where
    abbrev made : Segment → Carried
    made s = record { mac = mac; to = to; segment = s }

    pub carries : (role : Role) → e.role ≡ role → carried h (clock_of w.network side) ≡ option_map made (due_segment role)
    carries role at =
        ap (carried_by h moment) is ∙ (ap (λ (o : Option Entry). option_map made (option_and_then (λ (x : Entry). due_segment x.role) o)) found ∙ ap (λ (r : Role). option_map made (due_segment r)) at)

    -- a connection's
    module _ (c : View) (listener : Option SocketId) (due : Due) (role : e.role ≡ Connected c listener) (due_first : first_due c ≡ Some due) where
      pub carries_segment : carried h (clock_of w.network side) ≡ Some (made (segment_of c due))
      carries_segment = carries (Connected c listener) role ∙ ap (λ (d : Option Due). option_map made (option_map (λ (x : Due). sent_segment (head_of c x) (octets_of c x)) d)) due_first

      module _ (sound : IsSoundHost h) (ordered : IsOrdered h.sockets) (is_to : to ≡ c.peer.addr) where
        pub lies : LiesAt h.sockets.addr (Connected c listener)
        lies = subst (LiesAt h.sockets.addr) role (All-find (λ (x : Entry). LiesAt h.sockets.addr x.role) (in_turn h.sockets (sends (goes_out_from h moment))) h.sockets.entries e ordered.own found)

        pub from : h.interface.addr ≡ c.local.addr
        from = sound.own ∙ sym lies.0

        pub between : pair_between h.interface.addr to (segment_of c due) ≡ pair_of c.local c.peer
        between = ap (λ y. pair_between h.interface.addr y (segment_of c due)) is_to ∙ ap (λ x. pair_between x c.peer.addr (segment_of c due)) from

        pub speaks_so : speaks (pair_of c.local c.peer) w side ≡ true
        speaks_so = ap (is_theirs (pair_of c.local c.peer) w side) carries_segment ∙ (ap (λ p. same_pair p (pair_of c.local c.peer)) between ∙ same_pair-same (pair_of c.local c.peer))

        -- and it stands under its id
        pub stands : Has w side e.id listener c
        stands =
            let there : entry_of h.sockets e.id ≡ Some e = found-sole (in_turn h.sockets (sends (goes_out_from h moment))) (has_id e.id) h.sockets.entries e found (eqb-same e.id.0) (sole_id e.id 0 h.sockets.last_id h.sockets.entries ordered.ids) in
            there ∙ ap (λ (r : Role). let x : Entry = record { id = e.id; role = r } in Some x) role
