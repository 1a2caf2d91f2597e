-- What an ICMP message tells a host (RFC 792, RFC 1122 sections 3.2.2.6 and 4.2.3.9).
use Rattle.std.specs.Prelude.{◌==◌, ◌&&◌, ◌||◌, Bool, true, false, if◌then◌else◌, List, filter, Option, Some, None}
use Rattle.icmp.specs.declared.quote.Quote.{Quote}
use Rattle.icmp.specs.Message.{Message}
use Rattle.icmp.specs.Reading.{quote_in}
use Rattle.interface.specs.declared.reply.Reply.TheVariants.{Arp, Reset, Echo, Error}
use Rattle.interface.specs.declared.reply.Reply.{Reply}
use Rattle.interface.specs.declared.reply.Waiting.{Waiting}
use Rattle.host.specs.HostView.{HostView}

-- an echo request: type 8, code 0
abbrev pub is_echo_request : Message → Bool
is_echo_request m = m.kind == 8 && m.code == 0

-- An error that won't pass by itself (RFC 1122 section 4.2.3.9): a destination that can't be reached (type 3), for want of the protocol (2) or
-- of the port (3), or since a datagram that isn't to be cut into fragments had to be (4).
abbrev pub is_hard : Message → Bool
is_hard m = m.kind == 3 && (m.code == 2 || m.code == 3 || m.code == 4)

-- what an error quotes, where it is of a segment of TCP (6)
abbrev pub of_segment : Option Quote → Option Quote
of_segment None = None
of_segment (Some quote) = if quote.protocol.0 == 6 then Some quote else None

-- what a hard error quotes of a segment
abbrev pub refused_quote : Message → Option Quote
refused_quote m = if is_hard m then of_segment (quote_in m.payload) else None

-- a message asks for its echo, or says for good that the segment which it quotes can't be delivered, or nothing that changes a host
pub data Told : Type 0 where
  Asks : Told
  Refuses : Quote → Told
  Nothing : Told

abbrev pub error_of_quote : Option Quote → Told
error_of_quote None = Nothing
error_of_quote (Some quote) = Refuses quote

abbrev pub told_by : Message → Told
told_by m = if is_echo_request m then Asks else error_of_quote (refused_quote m)

-- The control replies that are errors about datagrams.

abbrev pub is_error : Reply → Bool
is_error (Error to reason quoted) = true
is_error (Echo to identifier number octets) = false
is_error (Reset to head) = false
is_error (Arp packet) = false

abbrev pub errors_of : HostView → List Waiting
errors_of h = filter (λ waiting. is_error waiting.reply) h.interface.replies
