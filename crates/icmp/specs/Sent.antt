-- A message as this stack sends it (RFC 792).
use Rattle.std.specs.Prelude.{◌≡◌, ℕ, List, ◌++◌, take}
use Rattle.inet_sum.specs.Sum.{checksum_of}
use Rattle.icmp.specs.declared.error.Reason.{Reason}
use Rattle.icmp.specs.declared.error.TheConstants.{QUOTED_LEN}
use Rattle.icmp.specs.declared.head.Head.{Head}
use Rattle.icmp.specs.Message.{Message, spelling}
use Rattle.icmp.specs.Errors.{kind_of, code_of}

-- a message with these fields
abbrev pub with_fields : Head → ℕ → List ℕ → Message
with_fields head checksum payload = record {
  kind = head.kind;
  code = head.code;
  checksum = checksum;
  identifier = head.identifier;
  number = head.number;
  payload = payload;
}

-- as it is sent: the checksum is that of the message with a checksum of zero
abbrev pub sent : Head → List ℕ → Message
sent head payload = with_fields head (checksum_of (spelling (with_fields head 0 payload))) payload

-- an echo reply with this identifier, this number and these data: type 0 and code 0
abbrev pub echo_reply : ℕ → ℕ → List ℕ → Message
echo_reply identifier number payload = sent (record { kind = 0; code = 0; identifier = identifier; number = number }) payload

-- the reply to an echo request: that with the request's identifier, number and data
abbrev pub reply_to : Message → Message
reply_to request = echo_reply request.identifier request.number request.payload

-- a reply to this request, which has exactly its identifier, number and data
pub record RepliesTo (reply request : Message) : Type 0 where
  pub kind : reply.kind ≡ 0
  pub code : reply.code ≡ 0
  pub identifier : reply.identifier ≡ request.identifier
  pub number : reply.number ≡ request.number
  pub payload : reply.payload ≡ request.payload

-- An error that a datagram with this header and payload caused: its type and code, four zeros, and of the datagram the header
-- and the first 8 octets of the payload, fewer where there are fewer.
abbrev pub error_for : Reason → List ℕ → List ℕ → Message
error_for reason header payload =
    sent (record { kind = kind_of reason; code = code_of reason; identifier = 0; number = 0 }) (header ++ take QUOTED_LEN payload)
