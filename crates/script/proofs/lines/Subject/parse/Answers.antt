-- The long word is known by its length and its octets.
use Rattle.std.proofs.Common.{rules, ◌≡◌, codes, arith, ap, sym}
use Rattle.std.proofs.lemmas.Slice.Eq.{text_from_reads}
use Rattle.script.specs.Script.{subject_of}
use Rattle.script.proofs.lines.Subject.parse.Goals as goal

pub returns-in-noscale : goal.returns-in-noscale
returns-in-noscale c =
    let same : c.args.word.now ≡ codes "noscale" = text_from_reads _ _ (omega arith) (search rules) in
    ap subject_of (sym same)
