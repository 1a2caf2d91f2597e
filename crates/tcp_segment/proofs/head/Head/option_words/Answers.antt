use Rattle.std.proofs.Common.{rules, sym, ◌∙◌, arith}
use Rattle.tcp_segment.proofs.Sending.{report_words}
use Rattle.tcp_segment.proofs.head.Head.option_words.Goals as goal

pub returns-else-is_empty-clause-value : goal.returns-else-is_empty-clause-value
returns-else-is_empty-clause-value c =
    report_words c.args.self.now c.from-else-is_empty.result c.words.result (sym c.has_mss_option.ensures ∙ c.if-has_mss_option.false) (search rules) c.words.ensures.few (omega (arith, c.from-else-is_empty.ensures, c.report_words.ensures.value))
    c.words.ensures.value
