-- What goes out as a report is what is read of it.
use Rattle.std.proofs.Common.{◌≡◌, ℕ, zero, suc, ◌<◌, false, cond, List, [], ◌∷◌, length, get_or, take, map, All, refl, ◌∙◌, ap, arith}
use Rattle.stream_buf.specs.declared.ranges.Range.{Range}
use Rattle.stream_buf.specs.Receiving.{runs}
use Rattle.tcp_segment.specs.declared.blocks.Block.{Block}
use Rattle.tcp_segment.specs.Blocks.{BlockFits}
use Rattle.tcp_segment.specs.Segment.{blocks_of as blocks_in}
use Rattle.tcp_segment.specs.Wire.{past}
use Rattle.tcp_segment.proofs.Sending.{blocks_back}
use Rattle.tcp_halves.specs.Blocks.{block_of, in_turn, reported}
use Rattle.tcp_state.specs.declared.emission.Due.{Due}
use Rattle.tcp_state.specs.declared.emission.Due.TheVariants.{Rst, Syn, Text, Probe, Ack, KeepAlive}
use Rattle.tcp_state.specs.View.{View}
use Rattle.tcp_state.specs.Reporting.{blocks_of}
use Rattle.tcp_state.specs.Due.{flags_of, head_of, octets_of}
use Rattle.tcp_state.specs.Said.{segment_of}
use Rattle.tcp_halves.proofs.Choices.{either}

-- the numbers of a block are of their width
mapped_fit : (rnext : ℕ) (rs : List Range) (n k : ℕ) (d : Block) → k < length (take n (map (block_of rnext) rs)) → BlockFits (get_or (take n (map (block_of rnext) rs)) k d)
mapped_fit rnext rs zero k d below = absurd (omega (arith, below))
mapped_fit rnext [] (suc n) k d below = absurd (omega (arith, below))
mapped_fit rnext (r ∷ rs) (suc n) zero d below = record { left = omega arith; right = omega arith }
mapped_fit rnext (r ∷ rs) (suc n) (suc k) d below = mapped_fit rnext rs n k d (omega (arith, below))

no_fit : All BlockFits []
no_fit k d below = absurd (omega (arith, below))

pub blocks_fit : (v : View) (due : Due) → All BlockFits (blocks_of v due)
blocks_fit v Ack =
    let r = v.receiving in
    let latest = v.reporting.latest.0 in
    either (List Block) (λ l. All BlockFits l) v.reporting.sacks (reported r latest) []
    (λ reports. mapped_fit r.rnext (in_turn (past latest r.rnext) (runs r.kept)) 4) (λ none. no_fit)
blocks_fit v Rst = no_fit
blocks_fit v Syn = no_fit
blocks_fit v (Text stretch) = no_fit
blocks_fit v Probe = no_fit
blocks_fit v KeepAlive = no_fit

-- four at most
pub at_most_four : (v : View) (due : Due) → take 4 (blocks_of v due) ≡ blocks_of v due
at_most_four v Ack =
    let r = v.receiving in
    let latest = v.reporting.latest.0 in
    either (List Block) (λ l. take 4 l ≡ l) v.reporting.sacks (reported r latest) []
    (λ reports. take_twice 4 (map (block_of r.rnext) (in_turn (past latest r.rnext) (runs r.kept)))) (λ none. refl)
  where
    take_twice : (n : ℕ) (bs : List Block) → take n (take n bs) ≡ take n bs
    take_twice zero bs = refl
    take_twice (suc n) [] = refl
    take_twice (suc n) (b ∷ bs) = ap (λ l. b ∷ l) (take_twice n bs)
at_most_four v Rst = refl
at_most_four v Syn = refl
at_most_four v (Text stretch) = refl
at_most_four v Probe = refl
at_most_four v KeepAlive = refl

-- of a segment without SYN its blocks are read
pub reported_in : (v : View) (due : Due) → (let f = flags_of v due in f.syn) ≡ false → blocks_in (segment_of v due) ≡ take 4 (blocks_of v due)
reported_in v due no_syn = blocks_back (head_of v due) (octets_of v due) (blocks_fit v due) ∙ ap (λ b. cond b [] (take 4 (blocks_of v due))) no_syn

-- of each segment all its blocks are read
pub blocks_seen : (v : View) (due : Due) → blocks_in (segment_of v due) ≡ blocks_of v due
blocks_seen v Ack = reported_in v Ack refl ∙ at_most_four v Ack
blocks_seen v Rst = reported_in v Rst refl
blocks_seen v Syn = blocks_back (head_of v Syn) (octets_of v Syn) (blocks_fit v Syn)
blocks_seen v (Text stretch) = reported_in v (Text stretch) refl
blocks_seen v Probe = reported_in v Probe refl
blocks_seen v KeepAlive = reported_in v KeepAlive refl
