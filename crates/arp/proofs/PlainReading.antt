-- The plain reading of octets finds the packet that they spell.
use Rattle.std.proofs.Common.{◌≡◌, ℕ, ◌/◌, ◌%◌, ◌<◌, ◌≤◌, ◌==◌, ◌||◌, not, Bool, true, false, nat_eq, nat_lt, cond, List, [], ◌∷◌, ◌++◌, length, drop, All, Option, Some, None, Ok, Err, arith, refl, sym, ◌∙◌, ap, subst}
use Rattle.std.specs.List.{starts_with}
use Rattle.std.specs.Option.{option_map}
use Rattle.std.proofs.lemmas.Bool.{eqb-true}
use Rattle.std.proofs.lemmas.Bool.Decides.{nat_tests}
use Rattle.byteorder.specs.Endian.{big_number}
use Rattle.ipv4.proofs.Octets.{each_octet}
use Rattle.arp.specs.declared.packet.ArpFault.{ArpFault}
use Rattle.arp.specs.declared.packet.ArpFault.TheVariants.{UpperHeader}
use Rattle.arp.specs.declared.packet.ArpPacket.{ArpPacket}
use Rattle.arp.specs.declared.packet.Operation.{Operation}
use Rattle.arp.specs.declared.packet.Operation.TheVariants.{Request, Reply}
use Rattle.arp.specs.Packet.{ethernet_and_ipv4, operation_number, spelling, HasWidths, IsParsed, Spells}
use Rattle.arp.specs.Reading.{operation_with, packet_in, packet_of}
use Rattle.arp.proofs.Reading.{is_read}

-- a packet by its parts
abbrev made : Operation → List ℕ → List ℕ → List ℕ → List ℕ → ArpPacket
made o m s t u = record {
  operation = o;
  sender_mac = record { 0 = m };
  sender_addr = record { 0 = s };
  target_mac = record { 0 = t };
  target_addr = record { 0 = u };
}

operation_found : (o : Operation) → operation_with (big_number 2 (operation_number o / 256 % 256 ∷ operation_number o % 256 ∷ [])) ≡ Some o
operation_found Request = refl
operation_found Reply = refl

-- what is read of a spelling
spelling_read : (o : Operation) (m s t u padding : List ℕ) → HasWidths (made o m s t u) → packet_in (spelling (made o m s t u) ++ padding) ≡ Some (made o m s t u)
spelling_read o (m0 ∷ m1 ∷ m2 ∷ m3 ∷ m4 ∷ m5 ∷ []) (s0 ∷ s1 ∷ s2 ∷ s3 ∷ []) (t0 ∷ t1 ∷ t2 ∷ t3 ∷ t4 ∷ t5 ∷ []) (u0 ∷ u1 ∷ u2 ∷ u3 ∷ []) padding w =
    let p : ArpPacket = made o (m0 ∷ m1 ∷ m2 ∷ m3 ∷ m4 ∷ m5 ∷ []) (s0 ∷ s1 ∷ s2 ∷ s3 ∷ []) (t0 ∷ t1 ∷ t2 ∷ t3 ∷ t4 ∷ t5 ∷ []) (u0 ∷ u1 ∷ u2 ∷ u3 ∷ []) in
    let octets : List ℕ = spelling p ++ padding in
    let room : nat_lt (length octets) 28 ≡ false = grind (arith, nat_tests) in
    ap (λ b. cond (b || false) None (option_map (packet_of octets) (operation_with (big_number 2 (drop 6 octets))))) room
    ∙ ap (option_map (packet_of octets)) (operation_found o)
spelling_read o m s t u padding w = absurd (omega (arith, w.sender_mac, w.sender_addr, w.target_mac, w.target_addr))

-- the plain reading finds what is parsed ..
pub read_ok : (octets : List ℕ) (packet : ArpPacket) → IsParsed octets (Ok packet) → packet_in octets ≡ Some packet
read_ok octets p spells =
    ap packet_in spells.spelled ∙ spelling_read p.operation p.sender_mac.0 p.sender_addr.0 p.target_mac.0 p.target_addr.0 spells.padding spells.widths

-- an operation by its number
numbered : (number : ℕ) (o : Operation) → operation_with number ≡ Some o → operation_number o ≡ number
numbered number o e = by_one (number == 1) (number == 2) refl refl e
  where
    by_one : (a b : Bool) → (number == 1) ≡ a → (number == 2) ≡ b → cond a (Some Request) (cond b (Some Reply) None) ≡ Some o → operation_number o ≡ number
    by_one true b is also f = let same : Request ≡ o = cc in ap operation_number (sym same) ∙ sym (eqb-true number 1 is)
    by_one false true is also f = let same : Reply ≡ o = cc in ap operation_number (sym same) ∙ sym (eqb-true number 2 also)
    by_one false false is also f = cc

-- where octets are read, they spell a packet
spelled : (octets : List ℕ) → All (λ octet. octet < 256) octets → (o : Operation) → 28 ≤ length octets → starts_with nat_eq octets ethernet_and_ipv4 ≡ true
    → operation_with (big_number 2 (drop 6 octets)) ≡ Some o → Spells (packet_of octets o) octets
spelled octets each o room front is =
    is_read (packet_of octets o) octets (each_octet octets each) room front (numbered (big_number 2 (drop 6 octets)) o is) refl refl refl refl

-- octets that are read spell what is read
pub is_spelled : (octets : List ℕ) (packet : ArpPacket) → All (λ octet. octet < 256) octets → packet_in octets ≡ Some packet → Spells packet octets
is_spelled octets packet each found = by_tests (nat_lt (length octets) 28) (starts_with nat_eq octets ethernet_and_ipv4) (operation_with (big_number 2 (drop 6 octets))) refl refl refl found
  where
    by_tests : (few front : Bool) (o : Option Operation) → nat_lt (length octets) 28 ≡ few → starts_with nat_eq octets ethernet_and_ipv4 ≡ front
        → operation_with (big_number 2 (drop 6 octets)) ≡ o → cond (few || not front) None (option_map (packet_of octets) o) ≡ Some packet → Spells packet octets
    by_tests true front o is_few is_front is e = cc
    by_tests false false o is_few is_front is e = cc
    by_tests false true None is_few is_front is e = cc
    by_tests false true (Some o) is_few is_front is e =
        let room : 28 ≤ length octets = grind (arith, nat_tests, is_few) in
        let same : packet_of octets o ≡ packet = cc in
        subst (λ p. Spells p octets) same (spelled octets each o room is_front is)

-- .. and nothing where a fault is
pub read_err : (octets : List ℕ) → All (λ octet. octet < 256) octets → IsParsed octets (Err UpperHeader) → packet_in octets ≡ None
read_err octets each none = by_tests (nat_lt (length octets) 28) (starts_with nat_eq octets ethernet_and_ipv4) (operation_with (big_number 2 (drop 6 octets))) refl refl refl
  where
    by_tests : (few front : Bool) (o : Option Operation) → nat_lt (length octets) 28 ≡ few → starts_with nat_eq octets ethernet_and_ipv4 ≡ front
        → operation_with (big_number 2 (drop 6 octets)) ≡ o → cond (few || not front) None (option_map (packet_of octets) o) ≡ None
    by_tests true front o is_few is_front is = refl
    by_tests false false o is_few is_front is = refl
    by_tests false true None is_few is_front is = refl
    by_tests false true (Some o) is_few is_front is =
        let room : 28 ≤ length octets = grind (arith, nat_tests, is_few) in
        absurd (none (packet_of octets o) (spelled octets each o room is_front is))

-- there is one fault
pub is_fault : (fault : ArpFault) → fault ≡ UpperHeader
is_fault UpperHeader = refl

-- octets of which nothing is read spell no packet
pub unread : (octets : List ℕ) → packet_in octets ≡ None → IsParsed octets (Err UpperHeader)
unread octets none p spells = let no : None ≡ Some p = sym none ∙ read_ok octets p spells in cc
