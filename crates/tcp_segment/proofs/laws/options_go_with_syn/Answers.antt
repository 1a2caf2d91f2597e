use Rattle.std.proofs.Common.{◌∙◌, ap, List, take}
use Rattle.tcp_segment.specs.declared.blocks.Block.{Block}
use Rattle.tcp_segment.specs.Sent.{report}
use Rattle.tcp_segment.proofs.Sending.{report_without_syn, size_with_syn, scale_with_syn, permission_back, blocks_back}
use Rattle.tcp_segment.proofs.laws.options_go_with_syn.Goals as goal

pub returns-clause-without : goal.returns-clause-without
returns-clause-without c = λ head octets syn none. report_without_syn head octets syn ∙ ap (λ (blocks : List Block). report (take 4 blocks)) none

pub returns-clause-reports : goal.returns-clause-reports
returns-clause-reports c = report_without_syn

pub returns-clause-size : goal.returns-clause-size
returns-clause-size c = size_with_syn

pub returns-clause-scale : goal.returns-clause-scale
returns-clause-scale c = scale_with_syn

pub returns-clause-permission : goal.returns-clause-permission
returns-clause-permission c = permission_back

pub returns-clause-blocks : goal.returns-clause-blocks
returns-clause-blocks c = blocks_back
