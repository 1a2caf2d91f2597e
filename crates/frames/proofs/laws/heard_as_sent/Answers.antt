use Rattle.frames.proofs.Hearers.{as_sent, messages_as_sent, no_message_in_packet, no_message_in_segment, no_packet, no_segment_in_message, no_segment_in_part}
use Rattle.frames.proofs.UserHearers.{fragments_as_sent, no_message_in_part, no_user_in_message, no_user_in_packet, no_user_in_segment, parts_as_sent}
use Rattle.frames.proofs.laws.heard_as_sent.Goals as goal

pub returns-clause-segment : goal.returns-clause-segment
returns-clause-segment c = as_sent

pub returns-clause-packet : goal.returns-clause-packet
returns-clause-packet c = no_packet

pub returns-clause-message : goal.returns-clause-message
returns-clause-message c = messages_as_sent

pub returns-clause-user : goal.returns-clause-user
returns-clause-user c = parts_as_sent

pub returns-clause-fragment : goal.returns-clause-fragment
returns-clause-fragment c = fragments_as_sent

pub returns-clause-segment_in_message : goal.returns-clause-segment_in_message
returns-clause-segment_in_message c = no_segment_in_message

pub returns-clause-segment_in_part : goal.returns-clause-segment_in_part
returns-clause-segment_in_part c = no_segment_in_part

pub returns-clause-message_in_segment : goal.returns-clause-message_in_segment
returns-clause-message_in_segment c = no_message_in_segment

pub returns-clause-message_in_part : goal.returns-clause-message_in_part
returns-clause-message_in_part c = no_message_in_part

pub returns-clause-message_in_packet : goal.returns-clause-message_in_packet
returns-clause-message_in_packet c = no_message_in_packet

pub returns-clause-user_in_segment : goal.returns-clause-user_in_segment
returns-clause-user_in_segment c = no_user_in_segment

pub returns-clause-user_in_message : goal.returns-clause-user_in_message
returns-clause-user_in_message c = no_user_in_message

pub returns-clause-user_in_packet : goal.returns-clause-user_in_packet
returns-clause-user_in_packet c = no_user_in_packet
