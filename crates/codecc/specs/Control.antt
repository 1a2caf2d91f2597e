-- Messages of ICMP as they are told and written (RFC 792).
use Rattle.std.specs.Prelude.{ℕ, ◌+◌, List, [], ◌++◌, length, slice_range, Option, Some, None}
use Rattle.inet_sum.specs.Sum.{checksum_of}
use Rattle.icmp.specs.Message.{Message, spelling}
use Rattle.icmp.specs.declared.quote.Quote.{Quote}
use Rattle.icmp.specs.Reading.{quote_in}
use Rattle.codecc.specs.Calls.{number_of}
use Rattle.codecc.specs.declared.types.CodecQuote.{CodecQuote}
use Rattle.codecc.specs.declared.types.CodecIcmp.{CodecIcmp}

-- a quote as it is told, and zeros where there is none
abbrev pub told_quote : Option Quote → CodecQuote
told_quote None = record { source = 0; destination = 0; number = 0; source_port = 0; destination_port = 0; protocol = 0; is_there = 0 }
told_quote (Some q) = record {
  source = number_of q.source.addr;
  destination = number_of q.destination.addr;
  number = q.number;
  source_port = q.source.port;
  destination_port = q.destination.port;
  protocol = q.protocol.0;
  is_there = 1;
}

-- a message as it is told: its data begin behind 8 octets
abbrev pub told_message : Message → CodecIcmp
told_message m = record { payload_len = length m.payload; quote = told_quote (quote_in m.payload); checksum = m.checksum; identifier = m.identifier; number = m.number; kind = m.kind; code = m.code }

abbrev pub message_len : CodecIcmp → ℕ
message_len c = 8 + c.payload_len

-- the octets of its header, with this checksum: those of the message without data
abbrev pub message_header : CodecIcmp → ℕ → List ℕ
message_header c checksum = spelling (record { kind = c.kind; code = c.code; checksum = checksum; identifier = c.identifier; number = c.number; payload = [] })

-- the checksum of the message with these data: that of its octets with a checksum of zero
abbrev pub message_checksum : CodecIcmp → List ℕ → ℕ
message_checksum c payload = checksum_of (message_header c 0 ++ payload)

-- its header before the data that stand in a buffer
abbrev pub written_message : CodecIcmp → List ℕ → List ℕ
written_message c old = message_header c (message_checksum c (slice_range old 8 (message_len c)))
