-- A part of a datagram that is due at a UDP socket which keeps to what its host accepted: it fits into a frame, and whoever hears it hears
-- a datagram of IPv4 that is of one of these.
use Rattle.std.proofs.Common.{◌≡◌, ℕ, ◌+◌, ◌-◌, ◌*◌, ◌<◌, ◌≤◌, min, List, [], ◌∷◌, length, drop, Some, Ok, refl, sym, ◌∙◌, ap, subst, arith, Contains}
use Rattle.std.proofs.lemmas.List.{length-take, length-drop}
use Rattle.std.proofs.lemmas.Option.{slice_get_read}
use Rattle.ether.specs.declared.mac.Mac.{Mac}
use Rattle.ipv4.specs.declared.addr.Addr.{Addr}
use Rattle.ipv4.specs.declared.addr.Endpoint.{Endpoint}
use Rattle.ipv4.specs.Datagram.{Datagram, HasPlace}
use Rattle.udp.specs.Datagram.{spelling}
use Rattle.udp.specs.Fragments.{fragment, count_of, part_of}
use Rattle.udp.specs.declared.cutting.Part.{Part}
use Rattle.udp.proofs.Answering.{sent_len}
use Rattle.udp_socket.specs.Emission.{brought, peer_at, due_octets, due_part, due_peer, fragment_of, octets_of, head_of, datagram_of}
use Rattle.udp_socket.specs.SocketView.{Outgoing, SocketView}
use Rattle.udp_socket.proofs.Due.{placed}
use Rattle.udp_socket.proofs.Places.{due_brought}
use Rattle.frames.specs.declared.meaning.ReceivedDatagram.{ReceivedDatagram}
use Rattle.frames.specs.declared.meaning.Meaning.TheVariants.{Udp, UdpFragment}
use Rattle.frames.specs.Meaning.{heard}
use Rattle.frames.specs.Sent.{IsPart, part_datagram}
use Rattle.frames.proofs.UserHearers.{parts_as_sent, fragments_as_sent}
use Rattle.interface.specs.InterfaceView.{InterfaceView}
use Rattle.interface.specs.Emission.{head_to, part_frame_to}
use Rattle.datagram_law.specs.Accepted.{Accepted, AreInTurn, IsInWidths}
use Rattle.datagram_law.specs.Carried.{Carries, IsOfOne, accepted_of}
use Rattle.datagram_law.specs.Sockets.{IsSocketOf}
use Rattle.datagram_law.proofs.Keeping.{due_is_of_one, is_brought}
use Rattle.datagram_law.proofs.Reading.{widths_of}
use Rattle.std.proofs.lemmas.List.Elements.{All-head}

-- whoever hears a UDP datagram or a fragment in these octets hears what is of one of those that were accepted
pub record KeepsTo (accepted : List Accepted) (octets : List ℕ) : Type 0 where
  pub whole : (mac : Mac) (ours : Addr) (r : ReceivedDatagram) → heard mac ours octets ≡ Ok (Udp r) → IsOfOne accepted r.carrier
  pub fragment : (mac : Mac) (ours : Addr) (d : Datagram) → heard mac ours octets ≡ Ok (UdpFragment d) → IsOfOne accepted d

-- a fragment has as many octets as it says
cut_len : (payload : List ℕ) (len number : ℕ) → length payload ≡ len → number < count_of len → length (part_of payload (fragment len number)) ≡ min 1480 (len - 1480 * number)
cut_len payload len number all below =
    let at : ℕ = 8 * (185 * number) in
    let n : ℕ = min 1480 (len - 1480 * number) in
    omega (arith, all, below, length-take (at + n - at) (drop at payload), length-drop at payload)

-- it is a part that a frame can carry
pub is-part : (own : List Accepted) (local : Endpoint) (o : Outgoing) (number : ℕ) → AreInTurn own → Contains own (accepted_of local o) → number < count_of (8 + length o.octets)
    → IsPart (record { identification = o.identification; fragment = fragment_of o number }) (octets_of local o number) × (length o.peer.addr.0 ≡ 4)
is-part own local o number turn (k, within, there) below =
    let a : Accepted = accepted_of local o in
    let f = fragment_of o number in
    let fits : IsInWidths a = widths_of own k a turn within there in
    let drawn = turn.numbered k a (slice_get_read own (length own) k a refl within (sym there)) in
    let count : length (octets_of local o number) ≡ f.len = cut_len (spelling (datagram_of local o)) (8 + length o.octets) number (sent_len local.addr o.peer.addr (head_of local o) o.octets) below in
    let most : length o.octets ≤ 65507 = fits.len in (
      record {
        identification = omega (arith, drawn);
        place = subst (λ (n : ℕ). HasPlace f.more_fragments f.offset n) (sym count) (placed (8 + length o.octets) number (omega (arith, most)) below);
        most = omega (arith, count);
      },
      fits.peer_addr,
    )

-- so is what is due
pub due-part : (own other : List Accepted) (local peer : Endpoint) (s : SocketView) (part : Part) → AreInTurn own → IsSocketOf own other local s → due_peer s.outbox ≡ Some peer → due_part s ≡ Some part
    → IsPart part (due_octets local s) × (length peer.addr.0 ≡ 4)
due-part own other local peer s part turn h for is = of_outbox s.outbox s refl h for is
  where
    of_outbox : (outbox : List Outgoing) (s : SocketView) → s.outbox ≡ outbox → IsSocketOf own other local s → due_peer s.outbox ≡ Some peer → due_part s ≡ Some part
        → IsPart part (due_octets local s) × (length peer.addr.0 ≡ 4)
    of_outbox [] s e h for is =
        let none : due_peer [] ≡ Some peer = ap due_peer (sym e) ∙ for in cc
    of_outbox (o ∷ rest) s e h for is =
        let shown : SocketView = record s { outbox = o ∷ rest } in
        let same : s ≡ shown = ap (λ (os : List Outgoing). record s { outbox = os }) e in
        let p : Part = record { identification = o.identification; fragment = fragment_of o s.parts } in
        let told : Some part ≡ Some p = sym is ∙ ap due_part same in
        let part_is : p ≡ part = cc in
        let to : Some o.peer ≡ Some peer = ap due_peer (sym e) ∙ for in
        let peer_is : o.peer ≡ peer = cc in
        let octets : due_octets local s ≡ octets_of local o s.parts = ap (λ (x : SocketView). due_octets local x) same in
        let here : IsSocketOf own other local shown = subst (IsSocketOf own other local) same h in
        let both = is-part own local o s.parts turn (All-head (λ (o : Outgoing). Contains own (accepted_of local o)) o rest here.outgoing) here.parts in (
          subst (λ (xs : List ℕ). IsPart part xs) (sym octets) (subst (λ (q : Part). IsPart q (octets_of local o s.parts)) part_is both.0),
          subst (λ (x : Endpoint). length x.addr.0 ≡ 4) peer_is both.1,
        )

-- and its frame carries it
pub part-kept : (own other : List Accepted) (i : InterfaceView) (theirs : Mac) (local peer : Endpoint) (s : SocketView) (place : ℕ) (part : Part) → AreInTurn own → IsSocketOf own other local s → peer_at place s.outbox ≡ Some peer
    → due_part (brought place s) ≡ Some part → local.addr ≡ i.addr → length i.addr.0 ≡ 4 → length theirs.0 ≡ 6 → length i.mac.0 ≡ 6 → KeepsTo own (part_frame_to i theirs peer.addr part (due_octets local (brought place s)))
unfolding part_frame_to
part-kept own other i theirs local peer s place part turn h for is ours from whole mine =
    let octets = due_octets local (brought place s) in
    let head = head_to i theirs peer.addr in
    let both = due-part own other local peer (brought place s) part turn (is_brought own other local s place h) (due_brought s place peer for) is in
    let carries : Carries local.addr peer.addr part octets (part_datagram head part octets) = record {
      source = sym ours;
      destination = refl;
      protocol = refl;
      identification = refl;
      more_fragments = refl;
      offset = refl;
      payload = refl;
    } in
    let of : IsOfOne own (part_datagram head part octets) = due_is_of_one own other local peer s place part (part_datagram head part octets) h for is carries in
    record {
      whole = λ mac addr r e.
          let told = parts_as_sent head part octets mac addr r both.0 from both.1 whole mine e in
          subst (IsOfOne own) (sym told.1) of;
      fragment = λ mac addr d e.
          let told = fragments_as_sent head part octets mac addr d both.0 from both.1 whole mine e in
          subst (IsOfOne own) (sym told.1) of;
    }
