-- What is said of a copy's progress.
use Rattle.std.proofs.Common.{ℕ, List, [], Option, Result, Ok, Err, OnOk, IfErr, sym, append-nil}
use Rattle.std.specs.Io.KnownBytes.{Appends}
use Rattle.devices.specs.Streams.{TakesFront}

-- what a sink took of a text is a front of it, however its writing ended
pub front_taken : {E : Type 0} (r : Result (Unit {0}) E) (old new : Option (List ℕ)) (text : List ℕ) → OnOk r (Appends old new text) → IfErr r (λ fault. TakesFront old new text) → TakesFront old new text
front_taken (Ok x) old new text all front = (text, [], sym (append-nil text), all)
front_taken (Err fault) old new text all front = front
