use Rattle.std.proofs.Common.{◌≡◌, ◌+◌, ◌*◌, ℕ, List, length, slice_range, sym, ◌∙◌, ap, arith}
use Rattle.inet_sum.specs.Sum.{ones_complement, sum_of}
use Rattle.tcp_segment.specs.Sent.{sent_offset, sent_with}
use Rattle.tcp_segment.proofs.Sending.{emitted, payload_len, whole_len, words_with_payload}
use Rattle.tcp_segment.proofs.head.Head.put.Goals as goal

pub returns-clause-octets : goal.returns-clause-octets
returns-clause-octets c =
    let head = c.args.self.now in
    let header : ℕ = 4 * sent_offset head in
    let len : ℕ = c.len.result + c.args.payload_len in
    let len_is : len ≡ header + c.args.payload_len = omega (arith, c.len.ensures.value) in
    let payload : List ℕ = slice_range c.args.out.now header len in
    let payload_is : payload ≡ slice_range c.args.out.now header (header + c.args.payload_len) = ap (λ (n : ℕ). slice_range c.args.out.now header n) len_is in
    let size : length payload ≡ c.args.payload_len = ap length payload_is ∙ payload_len head c.args.payload_len c.args.out.now c.requires.room in
    let whole : length (sent_with head payload 0) ≡ len = whole_len head payload 0 ∙ omega (arith, size, len_is) in
    let sum : c.args.payload_sum ≡ sum_of payload = c.requires.sum ∙ ap sum_of (sym payload_is) in
    let words : ones_complement (c.words.result + c.from.result) ≡ sum_of (sent_with head payload 0) =
    words_with_payload head payload c.words.result c.from.result c.words.ensures.value (c.from.ensures ∙ sum) in
    emitted c.args.src c.args.dst head c.sum_of_words.result len c.args.out.now c.write.new.out (c.sum_of_words.ensures.sum (sent_with head payload 0) whole words) c.write.ensures.octets (omega (arith, len_is))

pub returns-clause-sendable : goal.returns-clause-sendable
returns-clause-sendable c =
    let fit = c.write.ensures.fit in
    let sum = c.sum_of_words.ensures in
    let header : ℕ = 4 * sent_offset c.args.self.now in
    let len_is : c.len.result + c.args.payload_len ≡ header + c.args.payload_len = omega (arith, c.len.ensures.value) in
    let size : length (slice_range c.args.out.now header (c.len.result + c.args.payload_len)) ≡ c.args.payload_len =
    ap (λ (n : ℕ). length (slice_range c.args.out.now header n)) len_is ∙ payload_len c.args.self.now c.args.payload_len c.args.out.now c.requires.room in
    record {
      src_octets = sum.src_octets;
      dst_octets = sum.dst_octets;
      fields = record { source = fit.source; destination = fit.destination; number = fit.number; acknowledgement = fit.acknowledgement; window = fit.window; urgent = fit.urgent };
      blocks = c.numbers_fit.ensures;
      len = omega (arith, size, c.requires.len);
    }
