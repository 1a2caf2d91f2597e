use Rattle.std.proofs.Common.{◌≡◌, ℕ, true, Ok, refl, sym, ap, ◌∙◌, arith}
use Rattle.std.proofs.lemmas.Nat.{from_be_bytes-to_be_bytes_4}
use Rattle.std.proofs.lemmas.Bool.Decides.{nat_tests}
use Rattle.arp.specs.declared.packet.ArpPacket.{ArpPacket}
use Rattle.arp.specs.Packet.{operation_number}
use Rattle.codecc.specs.declared.types.CodecArp.{CodecArp}
use Rattle.codecc.specs.Calls.{addr_of, number_of}
use Rattle.codecc.specs.Resolution.{is_operation, operation_of}
use Rattle.codecc.proofs.laws.packets_read_back.Goals as goal

same_operation : (n : ℕ) → is_operation n ≡ true → operation_number (operation_of n) ≡ n
same_operation n e = grind (arith, nat_tests, e)

-- what is told, by what is not told as it stands
abbrev telling : CodecArp → ℕ → ℕ → ℕ → CodecArp
telling c sender target operation = record c { sender_addr = sender; target_addr = target; operation = operation }

pub returns : goal.returns
returns c = λ h old padding s t sender target is_one.
    let p : ArpPacket = record {
      operation = operation_of h.operation;
      sender_mac = record { 0 = h.sender_mac };
      sender_addr = addr_of h.sender_addr;
      target_mac = record { 0 = h.target_mac };
      target_addr = addr_of h.target_addr;
    } in
    let told = ap (λ (n : ℕ). telling h n h.target_addr h.operation) (sym (from_be_bytes-to_be_bytes_4 h.sender_addr sender))
    ∙ (ap (λ (n : ℕ). telling h (number_of (addr_of h.sender_addr)) n h.operation) (sym (from_be_bytes-to_be_bytes_4 h.target_addr target))
    ∙ ap (λ (n : ℕ). telling h (number_of (addr_of h.sender_addr)) (number_of (addr_of h.target_addr)) n) (sym (same_operation h.operation is_one))) in
    (Ok p, record { padding = padding; widths = record { sender_mac = s; sender_addr = refl; target_mac = t; target_addr = refl }; spelled = refl }, refl, told)
