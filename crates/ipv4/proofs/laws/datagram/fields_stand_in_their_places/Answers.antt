use Rattle.std.proofs.Common.{refl}
use Rattle.ipv4.proofs.Fields.{source_fourth, destination_fifth, options_last}
use Rattle.ipv4.proofs.laws.datagram.fields_stand_in_their_places.Goals as goal

pub returns-clause-lengths : goal.returns-clause-lengths
returns-clause-lengths c = λ d. refl

pub returns-clause-identification : goal.returns-clause-identification
returns-clause-identification c = λ d. refl

pub returns-clause-flags : goal.returns-clause-flags
returns-clause-flags c = λ d. refl

pub returns-clause-carried : goal.returns-clause-carried
returns-clause-carried c = λ d. refl

pub returns-clause-checksum : goal.returns-clause-checksum
returns-clause-checksum c = λ d. refl

pub returns-clause-source : goal.returns-clause-source
returns-clause-source c = source_fourth

pub returns-clause-destination : goal.returns-clause-destination
returns-clause-destination c = destination_fifth

pub returns-clause-options : goal.returns-clause-options
returns-clause-options c = options_last

pub returns-clause-payload : goal.returns-clause-payload
returns-clause-payload c = λ d. refl
