-- Octets spell one packet.
use Rattle.std.proofs.Common.{◌≡◌, ℕ, ◌/◌, ◌%◌, List, [], ◌∷◌, ◌++◌, length, take, drop, get_or, Result, Ok, Err, arith, refl, sym, ◌∙◌, ap, append_assoc, length-append}
use Rattle.std.proofs.lemmas.List.{take_at, drop_at}
use Rattle.arp.specs.declared.packet.ArpFault.{ArpFault}
use Rattle.arp.specs.declared.packet.ArpFault.TheVariants.{UpperHeader}
use Rattle.arp.specs.declared.packet.ArpPacket.{ArpPacket}
use Rattle.arp.specs.declared.packet.Operation.{Operation}
use Rattle.arp.specs.declared.packet.Operation.TheVariants.{Request, Reply}
use Rattle.arp.specs.Packet.{operation_number, spelling, HasWidths, Spells, IsParsed}

-- what stands in the octets of a packet's fields
pub record Fields (p : ArpPacket) (octets : List ℕ) : Type 0 where
  pub operation : get_or octets 7 0 ≡ operation_number p.operation % 256
  pub sender_mac : take 6 (drop 8 octets) ≡ p.sender_mac.0
  pub sender_addr : take 4 (drop 14 octets) ≡ p.sender_addr.0
  pub target_mac : take 6 (drop 18 octets) ≡ p.target_mac.0
  pub target_addr : take 4 (drop 24 octets) ≡ p.target_addr.0

-- the part of a list that stands behind a front and before a rest
part : (xs front own rest : List ℕ) (at count : ℕ) → xs ≡ front ++ (own ++ rest) → length front ≡ at → length own ≡ count → take count (drop at xs) ≡ own
part xs front own rest at count is len_front len_own =
    ap (λ l. take count (drop at l)) is ∙ (ap (take count) (drop_at front (own ++ rest) at len_front) ∙ take_at own rest count len_own)

pub fields : (p : ArpPacket) (octets : List ℕ) → Spells p octets → Fields p octets
fields p octets s =
    let kinds : List ℕ = 0 ∷ 1 ∷ 8 ∷ 0 ∷ 6 ∷ 4 ∷ operation_number p.operation / 256 % 256 ∷ operation_number p.operation % 256 ∷ [] in
    let m = p.sender_mac.0 in
    let a = p.sender_addr.0 in
    let t = p.target_mac.0 in
    let b = p.target_addr.0 in
    let is : octets ≡ ((((kinds ++ m) ++ a) ++ t) ++ b) ++ s.padding = s.spelled in
    let len_2 : length (kinds ++ m) ≡ 14 = omega (arith, length-append kinds m, s.widths.sender_mac) in
    let len_3 : length ((kinds ++ m) ++ a) ≡ 18 = omega (arith, length-append (kinds ++ m) a, s.widths.sender_addr) in
    let len_4 : length (((kinds ++ m) ++ a) ++ t) ≡ 24 = omega (arith, length-append ((kinds ++ m) ++ a) t, s.widths.target_mac) in
    record {
      operation = ap (λ l. get_or l 7 0) is;
      sender_mac = part octets kinds m (a ++ (t ++ (b ++ s.padding))) 8 6 (is ∙ simp append_assoc) refl s.widths.sender_mac;
      sender_addr = part octets (kinds ++ m) a (t ++ (b ++ s.padding)) 14 4 (is ∙ simp append_assoc) len_2 s.widths.sender_addr;
      target_mac = part octets ((kinds ++ m) ++ a) t (b ++ s.padding) 18 6 (is ∙ simp append_assoc) len_3 s.widths.target_mac;
      target_addr = part octets (((kinds ++ m) ++ a) ++ t) b s.padding 24 4 (is ∙ simp append_assoc) len_4 s.widths.target_addr;
    }

same_operation : (a b : Operation) → operation_number a % 256 ≡ operation_number b % 256 → a ≡ b
same_operation Request Request e = refl
same_operation Request Reply e = absurd (omega arith)
same_operation Reply Request e = absurd (omega arith)
same_operation Reply Reply e = refl

pub one_packet : (first second : ArpPacket) (octets : List ℕ) → Spells first octets → Spells second octets → first ≡ second
one_packet f g octets a b =
    let of_f = fields f octets a in
    let of_g = fields g octets b in
    ap (λ o. made o f.sender_mac.0 f.sender_addr.0 f.target_mac.0 f.target_addr.0) (same_operation f.operation g.operation (sym of_f.operation ∙ of_g.operation))
    ∙ (ap (λ m. made g.operation m f.sender_addr.0 f.target_mac.0 f.target_addr.0) (sym of_f.sender_mac ∙ of_g.sender_mac)
    ∙ (ap (λ s. made g.operation g.sender_mac.0 s f.target_mac.0 f.target_addr.0) (sym of_f.sender_addr ∙ of_g.sender_addr)
    ∙ (ap (λ t. made g.operation g.sender_mac.0 g.sender_addr.0 t f.target_addr.0) (sym of_f.target_mac ∙ of_g.target_mac)
    ∙ ap (made g.operation g.sender_mac.0 g.sender_addr.0 g.target_mac.0) (sym of_f.target_addr ∙ of_g.target_addr))))
  where
    made : Operation → List ℕ → List ℕ → List ℕ → List ℕ → ArpPacket
    made o m s t u = record {
      operation = o;
      sender_mac = record { 0 = m };
      sender_addr = record { 0 = s };
      target_mac = record { 0 = t };
      target_addr = record { 0 = u };
    }

pub one_answer : (octets : List ℕ) (first second : Result ArpPacket ArpFault) → IsParsed octets first → IsParsed octets second → first ≡ second
one_answer octets (Ok f) (Ok g) a b = ap Ok (one_packet f g octets a b)
one_answer octets (Ok f) (Err UpperHeader) a b = absurd (b f a)
one_answer octets (Err UpperHeader) (Ok g) a b = absurd (a g b)
one_answer octets (Err UpperHeader) (Err UpperHeader) a b = refl

pub emitted_parses : (packet : ArpPacket) (padding : List ℕ) (answer : Result ArpPacket ArpFault) → HasWidths packet → IsParsed (spelling packet ++ padding) answer → answer ≡ Ok packet
emitted_parses p padding answer widths is =
    let own : IsParsed (spelling p ++ padding) (Ok p) = record { padding = padding; widths = widths; spelled = refl } in
    one_answer (spelling p ++ padding) answer (Ok p) is own

pub length-spelling : (packet : ArpPacket) → HasWidths packet → length (spelling packet) ≡ 28
length-spelling p w = simp length-append (omega (arith, w.sender_mac, w.sender_addr, w.target_mac, w.target_addr))

pub one_spelling : (packet : ArpPacket) (octets : List ℕ) → Spells packet octets → take 28 octets ≡ spelling packet
one_spelling p octets s = ap (take 28) s.spelled ∙ take_at (spelling p) s.padding 28 (length-spelling p s.widths)
