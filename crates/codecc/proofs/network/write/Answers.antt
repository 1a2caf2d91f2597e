use Rattle.std.proofs.Common.{ℕ, take, rules, refl, ◌∙◌, ap}
use Rattle.inet_sum.specs.Sum.{checksum_of}
use Rattle.codecc.specs.Network.{fixed_header}
use Rattle.codecc.proofs.Lists.{written}
use Rattle.codecc.proofs.network.write.Goals as goal

pub returns : goal.returns
returns c =
    written (fixed_header c.args.ipv4.now) checksum_of _ _ c.args.out.now c.put.new.out _ c.checksum-checksum.result c.args.ipv4.now.header_len (λ n. refl) (search rules)
    c.fixed.ensures c.put.ensures (c.checksum-checksum.ensures ∙ ap (λ (n : ℕ). checksum_of (take n c.put.new.out)) c.from.ensures) c.fixed-2.ensures c.put-2.ensures
