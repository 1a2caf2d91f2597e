use Rattle.tcp_state.proofs.Measuring.{new_are_measured, measuring_goes_on}
use Rattle.tcp_state.proofs.counting.new_numbers_are_measured.Goals as goal

pub returns : goal.returns
returns c = record { begins = new_are_measured; goes_on = measuring_goes_on }
