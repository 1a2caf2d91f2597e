use Rattle.std.proofs.Common.{◌≡◌, ℕ, ◌+◌, ◌%◌, ◌<◌, ◌≤◌, ◌==◌, ◌&&◌, ◌||◌, Bool, true, false, not, nat_lt, IsTrue, refl, arith}
use Rattle.std.proofs.lemmas.Bool.Decides.{nat_tests}
use Rattle.ipv4.specs.Datagram.{HasPlace}
use Rattle.ipv4.specs.Reading.{has_place}
use Rattle.codecc.specs.Network.{is_header_len, is_set}
use Rattle.codecc.proofs.laws.fields_fit.Goals as goal

both_true : (a b : Bool) → (a && b) ≡ true → (a ≡ true) × (b ≡ true)
both_true true b e = (refl, e)
both_true false b e = cc

units_read : (more : Bool) (len : ℕ) → (not more || (nat_lt 0 len && len % 8 == 0)) ≡ true → IsTrue more → (0 < len) × (len % 8 ≡ 0)
units_read false len e more = cc
units_read true len e more = (grind (arith, nat_tests), grind (arith, nat_tests))

place_read : (more : Bool) (offset len : ℕ) → has_place more offset len ≡ true → HasPlace more offset len
place_read more offset len e =
    let both = both_true _ _ e in
    record { units = units_read more len both.0; reach = grind (arith, nat_tests, both.1) }

header_read : (len : ℕ) → is_header_len len ≡ true → (20 ≤ len) × (len ≤ 60) × (len % 4 ≡ 0)
header_read len e = (grind (arith, nat_tests, e), grind (arith, nat_tests, e), grind (arith, nat_tests, e))

total_read : (len : ℕ) → nat_lt len 65536 ≡ true → len < 65536
total_read len e = grind (arith, nat_tests, e)

pub returns : goal.returns
returns c = λ h options payload is_header is_payload service identification ttl protocol checksum fits.
    let parts = both_true _ _ fits in
    let sizes = both_true _ _ parts.0 in
    let header = header_read h.header_len (both_true _ _ sizes.0).0 in
    let total = total_read (h.header_len + h.payload_len) sizes.1 in
    let place = place_read (is_set h.flags 1) h.offset h.payload_len parts.1 in
    record {
      service = service;
      identification = identification;
      offset = omega (arith, place.reach);
      ttl = ttl;
      protocol = protocol;
      checksum = checksum;
      source = refl;
      destination = refl;
      words = omega (arith, is_header, header.2);
      header = omega (arith, is_header, header.1);
      total = omega (arith, is_header, is_payload, total);
      place = rw (← is_payload) place;
    }
