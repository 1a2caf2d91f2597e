use Rattle.std.proofs.Common.{[], ◌∷◌, ◌++◌, Ok, refl, arith}
use Rattle.byteorder.specs.Endian.{big_bytes}
use Rattle.inet_sum.proofs.Complements.{sum_right}
use Rattle.icmp.specs.Message.{Message}
use Rattle.codecc.specs.Control.{message_checksum}
use Rattle.codecc.proofs.laws.messages_read_back.Goals as goal

pub returns : goal.returns
returns c = λ h old payload kind code identifier number.
    let m : Message = record { kind = h.kind; code = h.code; checksum = message_checksum h payload; identifier = h.identifier; number = h.number; payload = payload } in (
      Ok m,
      record {
        form = record { fields = record { kind = kind; code = code; checksum = omega arith; identifier = identifier; number = number }; spelled = refl };
        sum = sum_right (h.kind ∷ h.code ∷ []) (big_bytes 2 h.identifier ++ big_bytes 2 h.number ++ payload) 1 refl;
      },
      refl,
      refl,
    )
