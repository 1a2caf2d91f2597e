use Rattle.std.proofs.lemmas.Bool.Decides.{nat_tests}
use Rattle.std.proofs.Common.{Bool, true, false, nat_eq, cond, ◌≡◌, ◌≢◌, ℕ, ◌==◌, if◌then◌else◌, [], length, Ok, refl, sym, ap, arith, inl, inr, append-nil}
use Rattle.udp.specs.Datagram.{UserDatagram, spelling}
use Rattle.udp.specs.Sent.{sent}
use Rattle.udp.specs.declared.head.Head.{Head}
use Rattle.udp.proofs.Answering.{sum_told, sum_right}
use Rattle.codecc.specs.declared.types.CodecUdp.{CodecUdp}
use Rattle.codecc.proofs.laws.user_datagrams_read_back.Goals as goal

by_test : (b : Bool) (n : ℕ) → nat_eq n 0 ≡ b → n ≢ 0 → ◌≡◌ {A = ℕ} 0 (cond b 1 0)
by_test true n test some = absurd (grind (arith, nat_tests, test, some))
by_test false n test some = refl

is_summed : (n : ℕ) → n ≢ 0 → ◌≡◌ {A = ℕ} 0 (if n == 0 then 1 else 0)
is_summed n some = by_test (nat_eq n 0) n refl some

-- what is told, by whether there is a checksum
abbrev telling : CodecUdp → ℕ → CodecUdp
telling c unsummed = record c { unsummed = unsummed }

pub returns-clause-summed : goal.returns-clause-summed
returns-clause-summed c = λ src dst h old payload can.
    let head : Head = record { source = h.source; destination = h.destination } in
    let d : UserDatagram = sent src dst head payload in (
      Ok d,
      record { form = record { padding = []; fields = can.fields; spelled = sym (append-nil (spelling d)) }; sum = inr (sum_right src dst head payload can) },
      refl,
      ap (λ (u : ℕ). telling (record h { payload_len = length payload; checksum = d.checksum }) u) (is_summed d.checksum (sum_told src dst head payload)),
    )

pub returns-clause-unsummed : goal.returns-clause-unsummed
returns-clause-unsummed c = λ src dst h old payload source destination len.
    let d : UserDatagram = record { source = h.source; destination = h.destination; checksum = 0; payload = payload } in (
      Ok d,
      record {
        form = record { padding = []; fields = record { source = source; destination = destination; len = len; checksum = omega arith }; spelled = sym (append-nil (spelling d)) };
        sum = inl refl;
      },
      refl,
      refl,
    )
