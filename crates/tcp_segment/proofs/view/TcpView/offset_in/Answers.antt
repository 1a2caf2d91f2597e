use Rattle.tcp_segment.proofs.Form.{offset_read}
use Rattle.tcp_segment.proofs.view.TcpView.offset_in.Goals as goal

pub returns-clause-spelled : goal.returns-clause-spelled
returns-clause-spelled c view form = offset_read view c.args.segment.now form
