use Rattle.recorder.specs.Going.{goes_by_frame}
use Rattle.recorder.proofs.link.RecordedLinkLink.send.Goals as goal

pub returns-clause-leads : goal.returns-clause-leads
returns-clause-leads g c = rw c.record.ensures.kept.0 (
  goes_by_frame _ _ _ _ _ _ c.args.from c.args.self.now.clock c.args.frame.now c.record.ensures.captures c.in_ok-send.ensures.told,
  c.in_ok-send.ensures.leads,
)
