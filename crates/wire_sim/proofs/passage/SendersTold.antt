-- Whoever hears an ARP packet in its frame hears who sent it, however long the address is that it is for.
use Rattle.std.proofs.Common.{◌≡◌, ℕ, ◌/◌, ◌%◌, Bool, true, false, nat_lt, cond, List, [], ◌∷◌, ◌++◌, length, take, drop, append_assoc, length-append, Option, Some, None, Ok, Err, arith, refl, sym, ◌∙◌, ap}
use Rattle.std.specs.Option.{option_map}
use Rattle.std.proofs.lemmas.List.{take_at, drop_at}
use Rattle.ether.specs.declared.head.Head.{Head as EtherHead}
use Rattle.ether.specs.declared.head.TheConstants.{FRAME_MAX}
use Rattle.ether.specs.declared.mac.Mac.{Mac}
use Rattle.ether.specs.Frame.{Frame, padding, sent as frame_sent}
use Rattle.ether.specs.Reading.{frame_in}
use Rattle.ether.proofs.Answering.{sent_spelled as frame_spelled}
use Rattle.ether.proofs.Reading.{read_ok as frame_found}
use Rattle.arp.specs.declared.packet.ArpPacket.{ArpPacket}
use Rattle.arp.specs.declared.packet.Operation.{Operation}
use Rattle.arp.specs.Packet.{operation_number, spelling as packet_octets}
use Rattle.arp.specs.Reading.{packet_in, packet_of}
use Rattle.ipv4.specs.declared.addr.Addr.{Addr}
use Rattle.frames.specs.declared.drop.DropCause.TheVariants.{Short, OtherMac, OtherAddress}
use Rattle.frames.specs.declared.meaning.Meaning.TheVariants.{Arp}
use Rattle.frames.specs.Meaning.{arp_type, frame_heard, heard, is_for, may_send, packet_heard}
use Rattle.frames.specs.Sent.{packet_destination, packet_frame}
use Rattle.frames.proofs.Carried.{destination_len}

-- the packet that is heard is the one that is read of the frame's payload
packet-read : (mac : Mac) (ours : Addr) (octets : List ℕ) (f : Frame) (q : ArpPacket) → frame_in octets ≡ Some f → f.kind ≡ arp_type → heard mac ours octets ≡ Ok (Arp q) → packet_in f.payload ≡ Some q
unfolding heard
packet-read mac ours octets f q read kind = by_length (nat_lt FRAME_MAX (length octets))
  where
    by_may : (p : ArpPacket) (b : Bool) → cond b (Ok (Arp p)) (Err OtherAddress) ≡ Ok (Arp q) → p ≡ q
    by_may p true is = cc
    by_may p false is = cc

    by_packet : (o : Option ArpPacket) → packet_heard ours o ≡ Ok (Arp q) → o ≡ Some q
    by_packet None is = cc
    by_packet (Some p) is = ap Some (by_may p (may_send ours p.sender_addr) is)

    by_destination : (b : Bool) → cond b (packet_heard ours (packet_in f.payload)) (Err OtherMac) ≡ Ok (Arp q) → packet_in f.payload ≡ Some q
    by_destination true is = by_packet (packet_in f.payload) is
    by_destination false is = cc

    framed : frame_heard mac ours (frame_in octets) ≡ cond (is_for mac f) (packet_heard ours (packet_in f.payload)) (Err OtherMac)
    framed = ap (frame_heard mac ours) read ∙ rw kind

    by_length : (b : Bool) → cond b (Err Short) (frame_heard mac ours (frame_in octets)) ≡ Ok (Arp q) → packet_in f.payload ≡ Some q
    by_length true is = cc
    by_length false is = by_destination (is_for mac f) (sym framed ∙ is)

-- what is read of octets are parts of them
sender-read : (octets : List ℕ) (q : ArpPacket) → packet_in octets ≡ Some q → (q.sender_mac.0 ≡ take 6 (drop 8 octets)) × (q.sender_addr.0 ≡ take 4 (drop 14 octets))
sender-read octets q = by_tests _ _
  where
    by_tests : (b : Bool) (o : Option Operation) → cond b None (option_map (packet_of octets) o) ≡ Some q → (q.sender_mac.0 ≡ take 6 (drop 8 octets)) × (q.sender_addr.0 ≡ take 4 (drop 14 octets))
    by_tests true o is = cc
    by_tests false None is = cc
    by_tests false (Some o) is =
        let same : packet_of octets o ≡ q = cc in
        (ap (λ (p : ArpPacket). p.sender_mac.0) (sym same), ap (λ (p : ArpPacket). p.sender_addr.0) (sym same))

-- the part of a list behind a front and before a rest
part : (front own rest : List ℕ) (at count : ℕ) → length front ≡ at → length own ≡ count → take count (drop at (front ++ (own ++ rest))) ≡ own
part front own rest at count len_front len_own = ap (take count) (drop_at front (own ++ rest) at len_front) ∙ take_at own rest count len_own

pub sender-told : (p q : ArpPacket) (mac : Mac) (ours : Addr) → length p.sender_mac.0 ≡ 6 → length p.sender_addr.0 ≡ 4 → length p.target_mac.0 ≡ 6 → heard mac ours (packet_frame p) ≡ Ok (Arp q)
    → (q.sender_mac ≡ p.sender_mac) × (q.sender_addr ≡ p.sender_addr)
sender-told p q mac ours sender_mac sender_addr target_mac is = (ap made_mac (sender.0 ∙ mac_there), ap made_addr (sender.1 ∙ addr_there))
  where
    made_mac : List ℕ → Mac
    made_mac octets = record { 0 = octets }

    made_addr : List ℕ → Addr
    made_addr octets = record { 0 = octets }

    head : EtherHead
    head = record { destination = packet_destination p.operation p.target_mac; source = p.sender_mac; kind = arp_type }

    frame : Frame
    frame = frame_sent head (packet_octets p)

    sender : (q.sender_mac.0 ≡ take 6 (drop 8 frame.payload)) × (q.sender_addr.0 ≡ take 4 (drop 14 frame.payload))
    sender =
        sender-read frame.payload q
        (packet-read mac ours (packet_frame p) frame q (frame_found (packet_frame p) frame (frame_spelled head (packet_octets p) (destination_len p.operation p.target_mac target_mac) sender_mac (omega arith))) refl is)

    kinds : List ℕ
    kinds = 0 ∷ 1 ∷ 8 ∷ 0 ∷ 6 ∷ 4 ∷ operation_number p.operation / 256 % 256 ∷ operation_number p.operation % 256 ∷ []

    -- the target, and the padding
    rest : List ℕ
    rest = p.target_mac.0 ++ (p.target_addr.0 ++ padding (packet_octets p))

    mac_at : frame.payload ≡ kinds ++ (p.sender_mac.0 ++ (p.sender_addr.0 ++ rest))
    mac_at = simp append_assoc

    addr_at : frame.payload ≡ (kinds ++ p.sender_mac.0) ++ (p.sender_addr.0 ++ rest)
    addr_at = simp append_assoc

    mac_there : take 6 (drop 8 frame.payload) ≡ p.sender_mac.0
    mac_there = ap (λ (l : List ℕ). take 6 (drop 8 l)) mac_at ∙ part kinds p.sender_mac.0 (p.sender_addr.0 ++ rest) 8 6 refl sender_mac

    addr_there : take 4 (drop 14 frame.payload) ≡ p.sender_addr.0
    addr_there =
        ap (λ (l : List ℕ). take 4 (drop 14 l)) addr_at
        ∙ part (kinds ++ p.sender_mac.0) p.sender_addr.0 rest 14 4 (omega (arith, length-append kinds p.sender_mac.0, sender_mac)) sender_addr
