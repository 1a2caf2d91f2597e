-- A part of a datagram that is due at a UDP socket: whoever receives its frame hears it as the whole that waits, or as a fragment of it.
use Rattle.std.proofs.Common.{◌≡◌, ℕ, ◌+◌, ◌-◌, ◌*◌, ◌<◌, ◌≤◌, ◌^◌, Bool, true, false, nat_lt, nat_eq, cond, min, List, [], ◌∷◌, length, Some, Contains, refl, sym, ◌∙◌, ap, subst, append-nil, arith}
use Rattle.std.proofs.lemmas.Bool.Decides.{nat_tests}
use Rattle.std.proofs.lemmas.List.{take_all}
use Rattle.std.proofs.lemmas.List.Elements.{All-head}
use Rattle.ether.specs.declared.mac.Mac.{Mac}
use Rattle.ipv4.specs.declared.addr.Addr.{Addr}
use Rattle.ipv4.specs.declared.addr.Endpoint.{Endpoint}
use Rattle.ipv4.specs.Datagram.{Datagram}
use Rattle.udp.specs.declared.cutting.Part.{Part}
use Rattle.udp.specs.Datagram.{Spells, spelling}
use Rattle.udp.specs.Fragments.{count_of}
use Rattle.udp.specs.Sent.{CanBeSent, checksum_field}
use Rattle.udp.proofs.Answering.{sent_len, sent_spelled}
use Rattle.udp_socket.specs.Emission.{brought, peer_at, datagram_of, due_octets, due_part, due_peer, fragment_of, head_of, octets_of}
use Rattle.udp_socket.specs.SocketView.{Outgoing, SocketView}
use Rattle.udp_socket.proofs.Places.{due_brought}
use Rattle.frames.specs.Heard.{IsWhole}
use Rattle.frames.specs.Meaning.{heard, is_fragment}
use Rattle.frames.specs.declared.meaning.Meaning.{Meaning}
use Rattle.frames.specs.Sent.{part_datagram}
use Rattle.frames.proofs.Deciding.{whole}
use Rattle.interface.specs.InterfaceView.{InterfaceView}
use Rattle.interface.specs.Emission.{head_to, part_frame_to}
use Rattle.datagram_law.specs.Accepted.{Accepted, AreInTurn, IsInWidths}
use Rattle.datagram_law.specs.Carried.{accepted_of}
use Rattle.datagram_law.specs.Sockets.{IsSocketOf}
use Rattle.datagram_law.proofs.Keeping.{is_brought}
use Rattle.datagram_law.proofs.Reading.{widths_of}
use Rattle.wire_sim.specs.Sent.{Sent, datagram_sent, heard_as, outgoing_said, part_said}
use Rattle.wire_sim.proofs.datagrams.PartsGoOut.{is-part}
use Rattle.wire_sim.proofs.passage.HeardAnywhere.{part-told}

-- whoever receives these octets hears what was sent so
abbrev pub IsHeardAs : List ℕ → Sent → Type 0
IsHeardAs octets what = (mac : Mac) (ours : Addr) → heard mac ours octets ≡ heard_as what mac ours

-- A datagram that waits spells itself.

told_fits : (sum : ℕ) → checksum_field (65535 - sum) < 2 ^ 16
told_fits sum = by_test (nat_eq (65535 - sum) 0)
  where
    by_test : (b : Bool) → cond b 65535 (65535 - sum) < 2 ^ 16
    by_test true = omega arith
    by_test false = omega arith

can_be_sent : (local : Endpoint) (o : Outgoing) → IsInWidths (accepted_of local o) → CanBeSent local.addr o.peer.addr (head_of local o) o.octets
can_be_sent local o fits = record {
  src_octets = fits.source_addr;
  dst_octets = fits.peer_addr;
  fields = record { source = fits.source_port; destination = fits.peer_port; len = omega (arith, fits.len); checksum = told_fits _ };
}

spells-itself : (local : Endpoint) (o : Outgoing) → IsInWidths (accepted_of local o) → Spells local.addr o.peer.addr (datagram_of local o) (spelling (datagram_of local o))
spells-itself local o fits =
    subst (λ (octets : List ℕ). Spells local.addr o.peer.addr (datagram_of local o) octets) (append-nil (spelling (datagram_of local o)))
    (sent_spelled local.addr o.peer.addr (head_of local o) o.octets [] (can_be_sent local o fits))

-- A part that is no fragment has all of it.

first-is-whole : (local : Endpoint) (o : Outgoing) → 8 + length o.octets ≤ 1480 → octets_of local o 0 ≡ spelling (datagram_of local o)
first-is-whole local o short =
    let len : length (spelling (datagram_of local o)) ≡ 8 + length o.octets = sent_len local.addr o.peer.addr (head_of local o) o.octets in
    take_all (8 * (185 * 0) + min 1480 (8 + length o.octets - 1480 * 0) - 8 * (185 * 0)) (spelling (datagram_of local o)) (omega (arith, len, short))

unfragmented-is-whole : (local : Endpoint) (o : Outgoing) (number : ℕ) → nat_lt (1480 * (number + 1)) (8 + length o.octets) ≡ false → 185 * number ≡ 0 → octets_of local o number ≡ spelling (datagram_of local o)
unfragmented-is-whole local o number last first =
    let zero_is : number ≡ 0 = omega (arith, first) in
    let short : 8 + length o.octets ≤ 1480 = grind (arith, nat_tests, last, zero_is) in
    ap (octets_of local o) zero_is ∙ first-is-whole local o short

-- the part that is due, as its frame says it
abbrev first_part : Outgoing → ℕ → Part
first_part o parts = record { identification = o.identification; fragment = fragment_of o parts }

first-said : (own : List Accepted) (i : InterfaceView) (theirs : Mac) (local : Endpoint) (o : Outgoing) (parts : ℕ) → AreInTurn own → Contains own (accepted_of local o) → parts < count_of (8 + length o.octets) → local.addr ≡ i.addr
    → length i.addr.0 ≡ 4 → length theirs.0 ≡ 6 → length i.mac.0 ≡ 6
    → IsHeardAs (part_frame_to i theirs o.peer.addr (first_part o parts) (octets_of local o parts))
    (datagram_sent i theirs o.peer.addr (part_said (part_datagram (head_to i theirs o.peer.addr) (first_part o parts) (octets_of local o parts)) (datagram_of local o)))
unfolding part_frame_to
first-said own i theirs local o parts turn (k, within, there) below ours from six mine mac addr =
    let both = is-part own local o parts turn (k, within, there) below in
    part-told (head_to i theirs o.peer.addr) (first_part o parts) (octets_of local o parts) (datagram_of local o) mac addr both.0 from both.1 six mine spelled
  where
    carrier : Datagram
    carrier = part_datagram (head_to i theirs o.peer.addr) (first_part o parts) (octets_of local o parts)

    spelled : is_fragment carrier ≡ false → Spells i.addr o.peer.addr (datagram_of local o) (octets_of local o parts)
    spelled uncut =
        let is : IsWhole carrier = whole carrier uncut in
        subst (λ (octets : List ℕ). Spells i.addr o.peer.addr (datagram_of local o) octets) (sym (unfragmented-is-whole local o parts is.0 is.1))
        (subst (λ (a : Addr). Spells a o.peer.addr (datagram_of local o) (spelling (datagram_of local o))) ours
        (spells-itself local o (widths_of own k (accepted_of local o) turn within there)))

-- What is due first at a socket that keeps to what its host accepted.
pub record IsPartSaid (i : InterfaceView) (theirs : Mac) (to : Addr) (local : Endpoint) (s : SocketView) (part : Part) : Type 0 where
  pub says : Meaning
  pub is : outgoing_said i theirs to local s ≡ Some says
  pub heard : IsHeardAs (part_frame_to i theirs to part (due_octets local s)) (datagram_sent i theirs to says)

first-socket-said : (own other : List Accepted) (i : InterfaceView) (theirs : Mac) (to : Addr) (local peer : Endpoint) (s : SocketView) (part : Part) → AreInTurn own → IsSocketOf own other local s → due_peer s.outbox ≡ Some peer
    → due_part s ≡ Some part → to ≡ peer.addr → local.addr ≡ i.addr → length i.addr.0 ≡ 4 → length theirs.0 ≡ 6 → length i.mac.0 ≡ 6 → IsPartSaid i theirs to local s part
first-socket-said own other i theirs to local peer s part turn h for told leads ours from six mine = by_outbox s.outbox refl
  where
    by_outbox : (outbox : List Outgoing) → s.outbox ≡ outbox → IsPartSaid i theirs to local s part
    by_outbox [] is = let none : due_peer [] ≡ Some peer = ap due_peer (sym is) ∙ for in cc
    by_outbox (o ∷ rest) is =
        let shown : SocketView = record s { outbox = o ∷ rest } in
        let same : s ≡ shown = ap (λ (os : List Outgoing). let x : SocketView = record s { outbox = os } in x) is in
        let parts : Some (first_part o s.parts) ≡ Some part = ap due_part (sym same) ∙ told in
        let one : first_part o s.parts ≡ part = cc in
        let peers : Some o.peer ≡ Some peer = ap due_peer (sym is) ∙ for in
        let ends : o.peer ≡ peer = cc in
        let at : o.peer.addr ≡ to = ap (λ (e : Endpoint). e.addr) ends ∙ sym leads in
        let here : IsSocketOf own other local shown = subst (IsSocketOf own other local) same h in
        let said = first-said own i theirs local o s.parts turn (All-head (λ (x : Outgoing). Contains own (accepted_of local x)) o rest here.outgoing) here.parts ours from six mine in
        let first : IsPartSaid i theirs o.peer.addr local shown (first_part o s.parts) = record {
          says = part_said (part_datagram (head_to i theirs o.peer.addr) (first_part o s.parts) (octets_of local o s.parts)) (datagram_of local o);
          is = refl;
          heard = said;
        } in
        subst (λ (x : SocketView). IsPartSaid i theirs to local x part) (sym same)
        (subst (λ (p : Part). IsPartSaid i theirs to local shown p) one (subst (λ (a : Addr). IsPartSaid i theirs a local shown (first_part o s.parts)) at first))

-- of the datagram in any place
pub socket-said : (own other : List Accepted) (i : InterfaceView) (theirs : Mac) (to : Addr) (local peer : Endpoint) (s : SocketView) (place : ℕ) (part : Part) → AreInTurn own → IsSocketOf own other local s → peer_at place s.outbox ≡ Some peer
    → due_part (brought place s) ≡ Some part → to ≡ peer.addr → local.addr ≡ i.addr → length i.addr.0 ≡ 4 → length theirs.0 ≡ 6 → length i.mac.0 ≡ 6 → IsPartSaid i theirs to local (brought place s) part
socket-said own other i theirs to local peer s place part turn h for told leads ours from six mine =
    first-socket-said own other i theirs to local peer (brought place s) part turn (is_brought own other local s place h) (due_brought s place peer for) told leads ours from six mine

-- and its peer's address has four octets
first-peer-whole : (own other : List Accepted) (local peer : Endpoint) (s : SocketView) → AreInTurn own → IsSocketOf own other local s → due_peer s.outbox ≡ Some peer → length peer.addr.0 ≡ 4
first-peer-whole own other local peer s turn h for = by_outbox s.outbox refl
  where
    by_outbox : (outbox : List Outgoing) → s.outbox ≡ outbox → length peer.addr.0 ≡ 4
    by_outbox [] is = let none : due_peer [] ≡ Some peer = ap due_peer (sym is) ∙ for in cc
    by_outbox (o ∷ rest) is =
        let peers : Some o.peer ≡ Some peer = ap due_peer (sym is) ∙ for in
        let ends : o.peer ≡ peer = cc in
        let shown : SocketView = record s { outbox = o ∷ rest } in
        let same : s ≡ shown = ap (λ (os : List Outgoing). let x : SocketView = record s { outbox = os } in x) is in
        let here : IsSocketOf own other local shown = subst (IsSocketOf own other local) same h in
        let fits = of_accepted (All-head (λ (x : Outgoing). Contains own (accepted_of local x)) o rest here.outgoing) in
        subst (λ (e : Endpoint). length e.addr.0 ≡ 4) ends fits
      where
        of_accepted : Contains own (accepted_of local o) → length o.peer.addr.0 ≡ 4
        of_accepted (k, within, there) = (widths_of own k (accepted_of local o) turn within there).peer_addr

pub peer-whole : (own other : List Accepted) (local peer : Endpoint) (s : SocketView) (place : ℕ) → AreInTurn own → IsSocketOf own other local s → peer_at place s.outbox ≡ Some peer → length peer.addr.0 ≡ 4
peer-whole own other local peer s place turn h for = first-peer-whole own other local peer (brought place s) turn (is_brought own other local s place h) (due_brought s place peer for)
