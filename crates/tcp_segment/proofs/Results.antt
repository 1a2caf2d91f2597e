-- What `ok_or` says of an option.
use Rattle.std.proofs.Common.{◌≡◌, Option, Some, None, Result, Ok, Err, refl}
use Rattle.std.specs.Option.{ok_or}

pub ok_or_ok : {A E : Type 0} (o : Option A) (e : E) (r : Result A E) (x : A) → r ≡ ok_or o e → r ≡ Ok x → o ≡ Some x
ok_or_ok None e r x h k = cc
ok_or_ok (Some y) e r x h k = cc

pub ok_or_err : {A E : Type 0} (o : Option A) (e f : E) (r : Result A E) → r ≡ ok_or o e → r ≡ Err f → (o ≡ None) × (f ≡ e)
ok_or_err None e f r h k = (refl, cc)
ok_or_err (Some y) e f r h k = cc
