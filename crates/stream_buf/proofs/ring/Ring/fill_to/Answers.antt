use Rattle.std.proofs.Common.{◌≡◌, ℕ, ◌+◌, ◌-◌, ◌≤◌, ◌++◌, min, List, length, replicate, take, ◌∙◌, ap, length-append, arith}
use Rattle.std.proofs.lemmas.List.{length-replicate, length-take}
use Rattle.stream_buf.specs.Ring.{Buffer, buffer}
use Rattle.stream_buf.proofs.Filling.{first_filler, filled_more}
use Rattle.stream_buf.proofs.ring.Ring.fill_to.Goals as goal

pub loop-self-preserved : goal.loop-self-preserved
loop-self-preserved c =
    let octets : List ℕ = c.args.self.now.items in
    let now : List ℕ = c.loop-self.self.items in
    let count : ℕ = c.min-count.result in
    let more : ℕ = c.fill_from_slice.result in
    let was = c.loop-self.invariant in
    let fewer : count ≤ 512 = omega (arith, c.min-count.ensures) in
    let size = length-take count (replicate {A = ℕ} 512 0) in
    let counted : more ≡ min (length (take count (replicate {A = ℕ} 512 0))) (c.loop-self.self.capacity - length now) = c.fill_from_slice.ensures.count in
    let less : more ≤ count = omega (arith, counted, size) in
    let filled : c.fill_from_slice.new.self ≡ buffer (now ++ replicate more 0) c.loop-self.self.capacity =
    c.fill_from_slice.ensures.items ∙ ap (λ (xs : List ℕ). buffer (now ++ xs) c.loop-self.self.capacity) (first_filler 512 count more less fewer) in
    let items : c.fill_from_slice.new.self.items ≡ now ++ replicate more 0 = ap (λ (b : Buffer). b.items) filled in
    let capacity : c.fill_from_slice.new.self.capacity ≡ c.args.self.now.capacity =
    ap (λ (b : Buffer). b.capacity) filled ∙ ap (λ (b : Buffer). b.capacity) was.filled in
    let longer : length c.fill_from_slice.new.self.items ≡ length now + more =
    ap length items ∙ omega (arith, length-append now (replicate more 0), length-replicate {A = ℕ} more 0) in
    record {
      filled = ap (λ (xs : List ℕ). buffer xs c.fill_from_slice.new.self.capacity)
          (filled_more octets now c.fill_from_slice.new.self.items more (ap (λ (b : Buffer). b.items) was.filled) items was.more)
          ∙ ap (λ (n : ℕ). buffer (octets ++ replicate (length c.fill_from_slice.new.self.items - length octets) 0) n) capacity;
      more = omega (arith, longer, was.more);
      most = omega (arith, longer, less, was.most, c.min-count.ensures, c.len-in-loop-self.ensures.len, c.loop-self-test.true, c.len.ensures.len);
    }
