-- What is read plainly is what the octets spell.
use Rattle.std.proofs.Common.{◌≡◌, ◌+◌, ◌++◌, [], ◌∷◌, inl, inr, length, sym, ◌∙◌, ap, subst, arith}
use Rattle.byteorder.specs.Endian.{big_bytes}
use Rattle.inet_sum.specs.Sum.{sum_of}
use Rattle.ipv4.proofs.Octets.{each_octet}
use Rattle.udp.specs.Datagram.{IsParsed, spelling}
use Rattle.udp.proofs.Plain.{fault_parsed}
use Rattle.udp.proofs.laws.sums_are_tested.Goals as goal

pub returns-clause-read : goal.returns-clause-read
returns-clause-read c = λ src dst octets d each reads told.
    let spells = subst (IsParsed src dst octets) reads (fault_parsed src dst octets (each_octet octets each)) in
    elim spells.sum [
      | inl none ↦ absurd (told none)
      | inr right ↦ let long : length (spelling d) ≡ 8 + length d.payload = omega arith in ap (λ n. sum_of ((src.0 ++ dst.0 ++ 0 ∷ 17 ∷ [] ++ big_bytes 2 n) ++ spelling d)) (sym long) ∙ right
    ]
