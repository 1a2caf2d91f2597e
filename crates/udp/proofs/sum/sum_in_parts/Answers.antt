use Rattle.std.proofs.Common.{◌≡◌, ◌%◌, ◌==◌, ap, sym, ◌∙◌, ◌+◌, ◌++◌, List, ℕ, length, length-append, arith, rules}
use Rattle.inet_sum.specs.declared.Pseudo.{Pseudo}
use Rattle.inet_sum.specs.Sum.{pseudo_octets, sum_of}
use Rattle.udp.proofs.Sending.{summed_in_parts, before_payload}
use Rattle.udp.proofs.sum.sum_in_parts.Goals as goal

pub returns-clause-sum : goal.returns-clause-sum
returns-clause-sum c = λ payload size is_sum.
    let header : List ℕ = c.args.header.now in
    let len : ℕ = 8 + c.args.payload_len in
    let eight : length header ≡ 8 = search rules in
    let pseudo : List ℕ = pseudo_octets (record { src = c.args.src.0; dst = c.args.dst.0; protocol = 17; length = len }) in
    let twenty = before_payload c.args.src c.args.dst header len (search rules) (search rules) eight in
    summed_in_parts c.args.src c.args.dst header payload len c.join.result (omega (arith, length-append header payload, eight, size))
    (c.join.ensures (pseudo ++ header) payload (c.sum_with.ensures ∙ ap (λ (p : Pseudo). sum_of (pseudo_octets p ++ header)) c.pseudo_between-pseudo.ensures.value) is_sum (ap (λ (n : ℕ). n % 2 == 1) (sym twenty)))
