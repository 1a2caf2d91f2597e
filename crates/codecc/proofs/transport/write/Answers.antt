use Rattle.std.proofs.Common.{◌≡◌, ℕ, ◌+◌, ◌-◌, take, rules, refl, ◌∙◌, ap}
use Rattle.inet_sum.specs.Sum.{checksum_of}
use Rattle.tcp_segment.specs.Segment.{summed_octets}
use Rattle.codecc.specs.Transport.{segment_header, segment_len}
use Rattle.codecc.proofs.Lists.{written}
use Rattle.codecc.proofs.transport.write.Goals as goal

pub returns : goal.returns
returns c =
    let len : c.from.result + c.from-2.result ≡ segment_len c.args.tcp.now = search rules in
    written (segment_header c.args.tcp.now) (λ octets. checksum_of (summed_octets c.args.src c.args.dst octets)) _ _ c.args.out.now c.put.new.out _ (65535 - c.sum_between-sum.result)
    (segment_len c.args.tcp.now) (λ n. refl) (search rules)
    c.fixed.ensures c.put.ensures (ap (λ (n : ℕ). 65535 - n) c.sum_between-sum.ensures.sum ∙ ap (λ (n : ℕ). checksum_of (summed_octets c.args.src c.args.dst (take n c.put.new.out))) len) c.fixed-2.ensures c.put-2.ensures
