-- The packet that is read is the one that the octets spell.
use Rattle.std.proofs.Common.{◌≡◌, ℕ, ◌/◌, ◌%◌, ◌<◌, ◌≤◌, true, List, [], ◌∷◌, ◌++◌, length, take, drop, nat_eq, get_or, arith, sym, ◌∙◌, ap, append_assoc}
use Rattle.std.specs.List.{starts_with}
use Rattle.std.proofs.lemmas.List.{take-append-drop, length-take-le, length-drop, drop-drop}
use Rattle.std.proofs.lemmas.Slice.Eq.{bytes_eq-Decides}
use Rattle.byteorder.specs.Endian.{big_bytes, big_number}
use Rattle.arp.specs.declared.packet.ArpPacket.{ArpPacket}
use Rattle.arp.specs.Packet.{ethernet_and_ipv4, operation_number, spelling, Spells}

-- octets are their parts, one behind the other
pub parts : (octets : List ℕ)
    → octets ≡ ((((take 8 octets ++ take 6 (drop 8 octets)) ++ take 4 (drop 14 octets)) ++ take 6 (drop 18 octets)) ++ take 4 (drop 24 octets)) ++ drop 28 octets
parts octets =
    let a : take 8 octets ++ drop 8 octets ≡ octets = take-append-drop 8 octets in
    let b : take 6 (drop 8 octets) ++ drop 14 octets ≡ drop 8 octets = ap (λ l. take 6 (drop 8 octets) ++ l) (sym (drop-drop 6 8 octets)) ∙ take-append-drop 6 (drop 8 octets) in
    let m : take 4 (drop 14 octets) ++ drop 18 octets ≡ drop 14 octets = ap (λ l. take 4 (drop 14 octets) ++ l) (sym (drop-drop 4 14 octets)) ∙ take-append-drop 4 (drop 14 octets) in
    let s : take 6 (drop 18 octets) ++ drop 24 octets ≡ drop 18 octets = ap (λ l. take 6 (drop 18 octets) ++ l) (sym (drop-drop 6 18 octets)) ∙ take-append-drop 6 (drop 18 octets) in
    let t : take 4 (drop 24 octets) ++ drop 28 octets ≡ drop 24 octets = ap (λ l. take 4 (drop 24 octets) ++ l) (sym (drop-drop 4 24 octets)) ∙ take-append-drop 4 (drop 24 octets) in
    simp append_assoc (sym (ap (λ l. take 8 octets ++ (take 6 (drop 8 octets) ++ (take 4 (drop 14 octets) ++ (take 6 (drop 18 octets) ++ l)))) t
    ∙ (ap (λ l. take 8 octets ++ (take 6 (drop 8 octets) ++ (take 4 (drop 14 octets) ++ l))) s
    ∙ (ap (λ l. take 8 octets ++ (take 6 (drop 8 octets) ++ l)) m ∙ (ap (λ l. take 8 octets ++ l) b ∙ a)))))

-- the first eight octets, where the first six are those of IPv4 over Ethernet
pub kinds : (octets : List ℕ) (number : ℕ) → ((k : ℕ) → get_or octets k 0 < 256) → 8 ≤ length octets → starts_with nat_eq octets ethernet_and_ipv4 ≡ true
    → number ≡ big_number 2 (drop 6 octets) → take 8 octets ≡ ethernet_and_ipv4 ++ big_bytes 2 number
kinds [] n b room e is = absurd (omega arith)
kinds (x0 ∷ []) n b room e is = absurd (omega arith)
kinds (x0 ∷ x1 ∷ []) n b room e is = absurd (omega arith)
kinds (x0 ∷ x1 ∷ x2 ∷ []) n b room e is = absurd (omega arith)
kinds (x0 ∷ x1 ∷ x2 ∷ x3 ∷ []) n b room e is = absurd (omega arith)
kinds (x0 ∷ x1 ∷ x2 ∷ x3 ∷ x4 ∷ []) n b room e is = absurd (omega arith)
kinds (x0 ∷ x1 ∷ x2 ∷ x3 ∷ x4 ∷ x5 ∷ []) n b room e is = absurd (omega arith)
kinds (x0 ∷ x1 ∷ x2 ∷ x3 ∷ x4 ∷ x5 ∷ x6 ∷ []) n b room e is = absurd (omega arith)
kinds (x0 ∷ x1 ∷ x2 ∷ x3 ∷ x4 ∷ x5 ∷ x6 ∷ x7 ∷ rest) n b room e is =
    let form : ethernet_and_ipv4 ≡ x0 ∷ x1 ∷ x2 ∷ x3 ∷ x4 ∷ x5 ∷ [] = (bytes_eq-Decides ethernet_and_ipv4 (x0 ∷ x1 ∷ x2 ∷ x3 ∷ x4 ∷ x5 ∷ [])).0 e in
    let high : x6 < 256 = b 6 in
    let low : x7 < 256 = b 7 in
    let upper : x6 ≡ n / 256 % 256 = omega arith in
    let lower : x7 ≡ n % 256 = omega arith in
    ap (λ l. l ++ (x6 ∷ x7 ∷ [])) (sym form) ∙ ap (λ l. ethernet_and_ipv4 ++ l) (let same : x6 ∷ x7 ∷ [] ≡ big_bytes 2 n = cc in same)

-- octets spell the packet whose fields are read from them
pub is_read : (p : ArpPacket) (octets : List ℕ) → ((k : ℕ) → get_or octets k 0 < 256) → 28 ≤ length octets → starts_with nat_eq octets ethernet_and_ipv4 ≡ true
    → operation_number p.operation ≡ big_number 2 (drop 6 octets)
    → p.sender_mac.0 ≡ take 6 (drop 8 octets) → p.sender_addr.0 ≡ take 4 (drop 14 octets)
    → p.target_mac.0 ≡ take 6 (drop 18 octets) → p.target_addr.0 ≡ take 4 (drop 24 octets)
    → Spells p octets
is_read p octets b room e operation m s t u =
    let front = kinds octets (operation_number p.operation) b (omega arith) e operation in
    let whole = parts octets in
    let spelled : octets ≡ spelling p ++ drop 28 octets = cc in
    record {
      padding = drop 28 octets;
      widths = record {
        sender_mac = ap length m ∙ length-take-le 6 (drop 8 octets) (omega (arith, length-drop 8 octets));
        sender_addr = ap length s ∙ length-take-le 4 (drop 14 octets) (omega (arith, length-drop 14 octets));
        target_mac = ap length t ∙ length-take-le 6 (drop 18 octets) (omega (arith, length-drop 18 octets));
        target_addr = ap length u ∙ length-take-le 4 (drop 24 octets) (omega (arith, length-drop 24 octets));
      };
      spelled = spelled;
    }
