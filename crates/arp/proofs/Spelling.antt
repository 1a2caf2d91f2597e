-- The octets of a packet, as they are written and as they are read.
use Rattle.std.proofs.Common.{◌≡◌, ℕ, List, ◌++◌, length, drop, arith, sym, ◌∙◌, ap, append_assoc, length-append}
use Rattle.std.proofs.lemmas.List.{take_at, drop_at, drop-drop}
use Rattle.byteorder.specs.Endian.{big_bytes}
use Rattle.arp.specs.declared.packet.ArpPacket.{ArpPacket}
use Rattle.arp.specs.Packet.{ethernet_and_ipv4, operation_number, spelling, HasWidths, Spells}
use borrow.Rule.Slice.PartMut.{put_mid}

-- octets written behind those that stand there already
behind : (at count : ℕ) (front rest new : List ℕ) → length front ≡ at → put_mid at count (front ++ rest) new ≡ (front ++ new) ++ drop count rest
behind at count front rest new len =
    ap (λ l. l ++ (new ++ drop count (drop at (front ++ rest)))) (take_at front rest at len)
    ∙ (ap (λ l. front ++ (new ++ drop count l)) (drop_at front rest at len) ∙ sym (append_assoc front new (drop count rest)))

-- the fields written one behind the other
pub written : (out kinds operation sender_mac sender_addr target_mac target_addr : List ℕ)
    → length kinds ≡ 6 → length operation ≡ 2 → length sender_mac ≡ 6 → length sender_addr ≡ 4 → length target_mac ≡ 6
    → put_mid 24 4 (put_mid 18 6 (put_mid 14 4 (put_mid 8 6 (put_mid 6 2 (kinds ++ drop 6 out) operation) sender_mac) sender_addr) target_mac) target_addr
    ≡ (((((kinds ++ operation) ++ sender_mac) ++ sender_addr) ++ target_mac) ++ target_addr) ++ drop 28 out
written out k o m s t u len_k len_o len_m len_s len_t =
    let len_2 : length (k ++ o) ≡ 8 = omega (arith, length-append k o) in
    let len_3 : length ((k ++ o) ++ m) ≡ 14 = omega (arith, length-append (k ++ o) m) in
    let len_4 : length (((k ++ o) ++ m) ++ s) ≡ 18 = omega (arith, length-append ((k ++ o) ++ m) s) in
    let len_5 : length ((((k ++ o) ++ m) ++ s) ++ t) ≡ 24 = omega (arith, length-append (((k ++ o) ++ m) ++ s) t) in
    ap (λ l. put_mid 24 4 (put_mid 18 6 (put_mid 14 4 (put_mid 8 6 l m) s) t) u) (behind 6 2 k (drop 6 out) o len_k ∙ ap (λ l. (k ++ o) ++ l) (drop-drop 2 6 out))
    ∙ (ap (λ l. put_mid 24 4 (put_mid 18 6 (put_mid 14 4 l s) t) u) (behind 8 6 (k ++ o) (drop 8 out) m len_2 ∙ ap (λ l. ((k ++ o) ++ m) ++ l) (drop-drop 6 8 out))
    ∙ (ap (λ l. put_mid 24 4 (put_mid 18 6 l t) u) (behind 14 4 ((k ++ o) ++ m) (drop 14 out) s len_3 ∙ ap (λ l. (((k ++ o) ++ m) ++ s) ++ l) (drop-drop 4 14 out))
    ∙ (ap (λ l. put_mid 24 4 l u) (behind 18 6 (((k ++ o) ++ m) ++ s) (drop 18 out) t len_4 ∙ ap (λ l. ((((k ++ o) ++ m) ++ s) ++ t) ++ l) (drop-drop 6 18 out))
    ∙ (behind 24 4 ((((k ++ o) ++ m) ++ s) ++ t) (drop 24 out) u len_5 ∙ ap (λ l. (((((k ++ o) ++ m) ++ s) ++ t) ++ u) ++ l) (drop-drop 4 24 out)))))

-- what is written field by field is the packet's spelling
pub emitted : (p : ArpPacket) (out kinds operation sender_mac sender_addr target_mac target_addr : List ℕ) → HasWidths p
    → kinds ≡ ethernet_and_ipv4 → operation ≡ big_bytes 2 (operation_number p.operation) → sender_mac ≡ p.sender_mac.0
    → sender_addr ≡ p.sender_addr.0 → target_mac ≡ p.target_mac.0 → target_addr ≡ p.target_addr.0
    → put_mid 24 4 (put_mid 18 6 (put_mid 14 4 (put_mid 8 6 (put_mid 6 2 (kinds ++ drop 6 out) operation) sender_mac) sender_addr) target_mac) target_addr
    ≡ spelling p ++ drop 28 out
emitted p out k o m s t u widths is_k is_o is_m is_s is_t is_u =
    let whole : (((((k ++ o) ++ m) ++ s) ++ t) ++ u) ≡ spelling p = cc in
    written out k o m s t u (ap length is_k) (ap length is_o) (ap length is_m ∙ widths.sender_mac) (ap length is_s ∙ widths.sender_addr) (ap length is_t ∙ widths.target_mac)
    ∙ ap (λ l. l ++ drop 28 out) whole

-- octets before which nothing else stands spell the packet
pub spells : (p : ArpPacket) (octets padding : List ℕ) → HasWidths p → octets ≡ spelling p ++ padding → Spells p octets
spells p octets padding widths is = record { padding = padding; widths = widths; spelled = is }
