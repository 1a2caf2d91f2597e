-- What a connection has due goes out in a frame, where the emission is for it.
use Rattle.std.proofs.Common.{◌≡◌, ◌≢◌, ℕ, Bool, true, false, List, ◌==◌, Option, Some, None, option_map, option_and_then, Ok, refl, sym, ◌∙◌, ap, subst}
use Rattle.std.proofs.lemmas.Bool.{eqb-true}
use Rattle.std.specs.List.{find, position}
use Rattle.clock.specs.declared.moment.Moment.{Moment}
use Rattle.ether.specs.declared.mac.Mac.{Mac}
use Rattle.ipv4.specs.declared.addr.Addr.{Addr}
use Rattle.ipv4.specs.declared.addr.Endpoint.{Endpoint}
use Rattle.tcp_segment.specs.Segment.{Segment}
use Rattle.tcp_segment.specs.Sent.{sent_segment}
use Rattle.frames.specs.declared.meaning.Meaning.TheVariants.{Tcp}
use Rattle.frames.specs.Meaning.{heard}
use Rattle.interface.specs.declared.way.Way.{Way}
use Rattle.interface.specs.declared.way.Way.TheVariants.{To, Ask, Waits}
use Rattle.interface.specs.Replies.{is_due}
use Rattle.interface.specs.Ways.{way}
use Rattle.tcp_halves.proofs.Choices.{clash}
use Rattle.tcp_state.specs.declared.emission.Due.{Due}
use Rattle.tcp_state.specs.Due.{first_due, head_of, octets_of}
use Rattle.tcp_state.specs.View.{View}
use Rattle.sockets.specs.declared.entry.Entry.{Entry}
use Rattle.sockets.specs.declared.entry.SocketId.{SocketId}
use Rattle.sockets.specs.declared.emission.Outgoing.{Outgoing}
use Rattle.sockets.specs.declared.role.Role.TheVariants.{Connected}
use Rattle.sockets.specs.Causes.{is_next_out}
use Rattle.sockets.specs.Closing.{entry_of}
use Rattle.sockets.specs.Emission.{in_turn}
use Rattle.sockets.specs.Entries.{sends}
use Rattle.sockets.specs.Order.{IsOrdered, LiesAt}
use Rattle.sockets.specs.SocketsView.{later_moment}
use Rattle.sockets.specs.Steps.{connected}
use Rattle.sockets.proofs.Emitting.{first_segment, found_due}
use Rattle.sockets.proofs.Ends.{same_addr-same}
use Rattle.host.specs.Carried.{Carried, carried, carried_by, due_segment}
use Rattle.host.specs.ConfigView.{ConfigView}
use Rattle.host.specs.Emission.{Sends, emission, emission_at, emission_by, emission_octets, goes_out_from, table_emission}
use Rattle.host.specs.HostView.{HostView}
use Rattle.host.specs.Runs.{Emits}
use Rattle.host.specs.Sound.{IsSoundHost}
use Rattle.host.proofs.Carriage.{carried-heard, found-all}
use Rattle.host.proofs.Emitting.{table_from}
use Rattle.host_law.specs.History.{Step}
use Rattle.host_law.proofs.Befalls.{IsOut}
use Rattle.host_law.proofs.LedOut.{found_by_id}

module _ (c : ConfigView) (id : SocketId) (old new : HostView) (now : Moment) (sound : IsSoundHost old) (o : IsOrdered old.sockets) (face : (let i = old.interface in i.addr) ≡ c.addr) (own : (let t = old.sockets in t.addr) ≡ c.addr) where
  abbrev moment : Moment
  moment = later_moment old.sockets now

  abbrev goes : Addr → Bool
  goes = goes_out_from old moment

  abbrev entries : List Entry
  entries = (let t = old.sockets in t.entries)

  abbrev step : Step
  step = record { before = old; event = Emits now; after = new }

  -- the entry that is next is this one
  is_found : (x : Entry) → entry_of old.sockets id ≡ Some x → x.id ≡ id → is_next_out old.sockets goes x ≡ true → find (in_turn old.sockets (sends goes)) entries ≡ Some x
  is_found x there named next = by_entry (find (in_turn old.sockets (sends goes)) entries) refl
    where
      by_entry : (e : Option Entry) → find (in_turn old.sockets (sends goes)) entries ≡ e → find (in_turn old.sockets (sends goes)) entries ≡ Some x
      by_entry None found = let none : is_next_out old.sockets goes x ≡ false = rw found refl in clash (is_next_out old.sockets goes x) next none
      by_entry (Some e) found =
          let at : (e.id.0 == x.id.0) ≡ true = rw found at next in
          let one : e.id ≡ id = ap (λ (n : ℕ). let i : SocketId = record { 0 = n } in i) (eqb-true e.id.0 x.id.0 at) ∙ named in
          let under : entry_of old.sockets e.id ≡ Some e = found_by_id (in_turn old.sockets (sends goes)) 0 (let t = old.sockets in t.last_id) entries e o.ids found in
          let both : Some e ≡ Some x = sym (subst (λ (i : SocketId). entry_of old.sockets i ≡ Some e) one under) ∙ there in
          found ∙ both

  from_table : (mac : Mac) (to : Addr) (p : Option ℕ) → emission_at old moment p ≡ Sends mac to → table_emission old moment ≡ Sends mac to
  from_table mac to (Some place) is = cc
  from_table mac to None is = is

  by_way : (mac : Mac) (to a : Addr) (w : Way) → emission_by a w ≡ Sends mac to → a ≡ to
  by_way mac to a (To theirs) is = cc
  by_way mac to a (Ask hop) is = cc
  by_way mac to a Waits is = cc

  pub goes_out : (mac : Mac) (to : Addr) → emission old moment ≡ Sends mac to → (v : View) (l : Option SocketId) → entry_of old.sockets id ≡ Some (connected id v l) → is_next_out old.sockets goes (connected id v l) ≡ true → (due : Due) → first_due v ≡ Some due
      → IsOut c v due step
  goes_out mac to is v l there next due first = record {
    own = lies.0 ∙ own;
    goes = record { now = now; mac = mac; goes = refl; means = subst (λ (a : Addr). heard mac a (emission_octets old now) ≡ Ok (Tcp (record { source = c.addr; segment = segment }))) (sym for_peer) (subst (λ (a : Addr). heard mac to (emission_octets old now) ≡ Ok (Tcp (record { source = a; segment = segment }))) face heard_there) };
  }
    where
      e : Entry
      e = connected id v l

      segment : Segment
      segment = sent_segment (head_of v due) (octets_of v due)

      made : Segment → Carried
      made s = record { mac = mac; to = to; segment = s }

      found : find (in_turn old.sockets (sends goes)) entries ≡ Some e
      found = is_found e there refl next

      lies : LiesAt (let t = old.sockets in t.addr) (Connected v l)
      lies = found-all (λ (x : Entry). LiesAt (let t = old.sockets in t.addr) x.role) (in_turn old.sockets (sends goes)) entries e o.own found

      for_peer : v.peer.addr ≡ to
      for_peer =
          let its = found_due old.sockets goes e found in
          let one = first_segment goes v l its.0 its.1 in
          let peer : Addr = (let d = its.0 in let p = d.0 in p.addr) in
          ap (λ (d : Endpoint × Outgoing). let p = d.0 in p.addr) one.is ∙ by_way mac to peer (way old.interface moment peer) (sym (table_from old moment e its.0 found its.1) ∙ from_table mac to (position (is_due old.interface moment) (let i = old.interface in i.replies)) is)

      carries : carried old now ≡ Some (made segment)
      carries =
          ap (carried_by old moment) is ∙ ap (λ (x : Option Entry). option_map made (option_and_then (λ (y : Entry). due_segment y.role) x)) found
          ∙ ap (λ (d : Option Due). option_map made (option_map (λ (x : Due). sent_segment (head_of v x) (octets_of v x)) d)) first

      other : (let i = old.interface in i.addr) ≢ to
      other same = clash _ (same_addr-same v.peer.addr (let t = old.sockets in t.addr) (for_peer ∙ sym same ∙ face ∙ sym own)) lies.1

      heard_there : heard mac to (emission_octets old now) ≡ Ok (Tcp (record { source = (let i = old.interface in i.addr); segment = segment }))
      heard_there = carried-heard old now (made segment) sound o carries other
