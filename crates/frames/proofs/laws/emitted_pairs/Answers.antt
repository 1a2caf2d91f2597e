use Rattle.frames.proofs.EmittedPairs.{message_pairs, packet_pairs, part_pairs, segment_pairs}
use Rattle.frames.proofs.laws.emitted_pairs.Goals as goal

pub returns-clause-segment : goal.returns-clause-segment
returns-clause-segment c = segment_pairs

pub returns-clause-packet : goal.returns-clause-packet
returns-clause-packet c = packet_pairs

pub returns-clause-message : goal.returns-clause-message
returns-clause-message c = message_pairs

pub returns-clause-part : goal.returns-clause-part
returns-clause-part c = part_pairs
