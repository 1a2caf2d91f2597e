use Rattle.tcp_state.proofs.Marks.{mark_stays, mark_goes}
use Rattle.tcp_state.proofs.laws.the_mark_keeps_its_number.Goals as goal

pub returns : goal.returns
returns c = record { stays = mark_stays; goes = mark_goes }
