-- The octets of a frame that goes out.
use Rattle.std.proofs.Common.{◌≡◌, ℕ, ◌≤◌, List, ◌++◌, length, take, drop, Some, ap, arith}
use Rattle.std.proofs.lemmas.Grind.{common_steps}
use Rattle.clock.specs.declared.moment.Moment.{Moment}
use Rattle.host.specs.HostView.{HostView}
use Rattle.host.specs.Emission.{front_of, emission_len, emission_octets, emission_front}

-- the front of a buffer into which so many octets were written
pub take_written : (xs zs : List ℕ) (n : ℕ) → n ≤ length zs → length (xs ++ drop n zs) ≡ length zs → take n (xs ++ drop n zs) ≡ xs
take_written xs zs n fits same = grind (arith, common_steps)

pub emission_front-due : (h : HostView) (now : Moment) (out : List ℕ) (len : ℕ) → emission_len h now ≡ Some len → emission_front h now out ≡ emission_octets h now ++ drop len out
emission_front-due h now out len due = ap (front_of (emission_octets h now) out) due
