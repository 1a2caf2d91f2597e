use Rattle.std.proofs.Common.{◌≡◌, ◌%◌, arith, ap, ◌∙◌, refl, nat_eq, bit_and}
use mathlib.Core.Bool.{not}
use Rattle.tcp_segment.proofs.Bits.{masked}
use Rattle.tcp_segment.proofs.flags.flags_of.Goals as goal

pub returns : goal.returns
returns c =
    let n = c.args.octet in
    let fin : not (nat_eq (bit_and n 1) 0) ≡ nat_eq (n % 2) 1 = masked n 0 1 refl (omega arith) ∙ ap (λ m. nat_eq (m % 2) 1) (omega arith) in
    let syn = masked n 1 2 refl (omega arith) in
    let rst = masked n 2 4 refl (omega arith) in
    let psh = masked n 3 8 refl (omega arith) in
    let ack = masked n 4 16 refl (omega arith) in
    let urg = masked n 5 32 refl (omega arith) in
    cc
