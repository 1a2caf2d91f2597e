use Rattle.std.proofs.Common.{◌∙◌}
use Rattle.tcp_segment.proofs.Form.{checksum_read}
use Rattle.tcp_segment.proofs.view.TcpView.checksum_in.Goals as goal

pub returns-clause-spelled : goal.returns-clause-spelled
returns-clause-spelled c view form = c.u16_at.ensures ∙ checksum_read view c.args.segment.now form
