use Rattle.std.proofs.Common.{ℕ, ◌∙◌, ◌/◌, ◌%◌, ◌*◌, [], ◌∷◌, replicate}
use Rattle.std.proofs.lemmas.List.{length-replicate}
use Rattle.capture.proofs.Lengths.{told_twice}
use Rattle.capture.proofs.record.record_head.Goals as goal

pub returns : goal.returns
returns c octets len =
    let s : ℕ = c.args.moment.0 / 1000 % 4294967296 in
    let m : ℕ = c.args.moment.0 % 1000 * 1000 in
    c.head_of.ensures (replicate (c.args.len % 4294967296) 0) (length-replicate (c.args.len % 4294967296) 0)
    ∙ told_twice
    (s % 256 ∷ s / 256 % 256 ∷ s / 65536 % 256 ∷ s / 16777216 % 256 ∷ m % 256 ∷ m / 256 % 256 ∷ m / 65536 % 256 ∷ m / 16777216 % 256 ∷ [])
    _ c.args.len _ len (length-replicate (c.args.len % 4294967296) 0)
