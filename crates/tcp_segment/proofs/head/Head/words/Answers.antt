use Rattle.std.proofs.Common.{[], rules, arith}
use Rattle.tcp_segment.specs.Segment.{FieldsFit}
use Rattle.tcp_segment.specs.Sent.{sent_segment}
use Rattle.tcp_segment.proofs.Sending.{words_are}
use Rattle.tcp_segment.proofs.head.Head.words.Goals as goal

pub returns-clause-value : goal.returns-clause-value
returns-clause-value c =
    let head = c.args.self.now in
    let fit : FieldsFit (sent_segment head []) = record { source = search rules; destination = search rules; number = search rules; acknowledgement = search rules; window = search rules; urgent = search rules } in
    words_are head _ _ fit c.option_words.ensures.value
    (omega (arith, c.from.ensures, c.from-2.ensures, c.from-3.ensures, c.from-4.ensures, c.from-5.ensures, c.from-6.ensures, c.control.ensures))
