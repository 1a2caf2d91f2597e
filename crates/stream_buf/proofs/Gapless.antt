-- Where no place keeps an octet.
use Rattle.std.proofs.Common.{◌≡◌, ℕ, zero, suc, false, [], length, replicate, Option, None, refl, arith}
use Rattle.std.proofs.lemmas.List.{length-replicate}
use Rattle.stream_buf.specs.Receiving.{ReceiveView, front, after_forgetting, IsReceiving}
use Rattle.stream_buf.proofs.Inserting.{none_begins}

-- nothing stands in front
front_free : (count : ℕ) → front (replicate count None) ≡ []
front_free zero = refl
front_free (suc count) = refl

-- a buffer is one without what it kept
pub receives_forgotten : (b : ReceiveView) → IsReceiving b → IsReceiving (after_forgetting b)
receives_forgotten b was = let none = none_begins false (length b.kept) in record {
  places = omega (arith, length-replicate {A = Option ℕ} (length b.kept) None, was.places);
  gap = front_free (length b.kept);
  few = omega (arith, none);
}
