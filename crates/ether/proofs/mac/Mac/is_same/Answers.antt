use Rattle.std.proofs.Common.{rules, sym, ◌∙◌}
use Rattle.ether.proofs.Words.{same_words}
use Rattle.ether.proofs.mac.Mac.is_same.Goals as goal

pub returns-then-from_le_bytes : goal.returns-then-from_le_bytes
returns-then-from_le_bytes c =
    rw (c.from_le_bytes-then-from_le_bytes.ensures, c.from_le_bytes-then-from_le_bytes-2.ensures)
    (same_words c.args.self.0 c.args.other.0 (search rules) (search rules) (search rules) (search rules)
    (sym c.from_le_bytes.ensures ∙ c.if-from_le_bytes.true ∙ c.from_le_bytes-2.ensures))
