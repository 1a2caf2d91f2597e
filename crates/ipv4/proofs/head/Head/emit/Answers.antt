use Rattle.std.proofs.Common.{◌≡◌, ◌+◌, ◌%◌, ℕ, List, length, rules, ap, ◌∙◌, arith, slice_range}
use Rattle.std.proofs.lemmas.List.{length-take}
use Rattle.ipv4.proofs.Sending.{payload-length, emitted}
use Rattle.ipv4.proofs.head.Head.emit.Goals as goal

pub copy_from_slice-requires : goal.copy_from_slice-requires
copy_from_slice-requires c =
    let len : length c.header.result ≡ 20 = search rules in
    omega (arith, len, length-take 20 c.args.out.now, c.requires.room)

pub returns-clause-octets : goal.returns-clause-octets
returns-clause-octets c =
    let payload : List ℕ = slice_range c.args.out.now 20 (20 + c.args.payload_len) in
    let len = payload-length c.args.out.now c.args.payload_len c.requires.room in
    let whole : 20 + length payload ≡ 20 + c.args.payload_len = omega (arith, len) in
    emitted c.args.self.now c.copy_from_slice.new.self c.args.out.now c.fold-checksum.result c.args.payload_len
    (c.fold-checksum.ensures ∙ c.words.ensures payload whole) (c.copy_from_slice.ensures.after ∙ c.header.ensures payload whole)

pub returns-clause-fields : goal.returns-clause-fields
returns-clause-fields c =
    let len = payload-length c.args.out.now c.args.payload_len c.requires.room in
    let place = c.requires.place in
    record {
      service = omega arith;
      identification = search rules;
      offset = omega (arith, place.reach);
      ttl = omega arith;
      protocol = search rules;
      checksum = omega arith;
      source = search rules;
      destination = search rules;
      words = omega arith;
      header = omega arith;
      total = omega (arith, len, place.reach);
      place = record { units = λ more. let units = place.units more in (omega (arith, len, units), ap (λ (n : ℕ). n % 8) len ∙ units.1); reach = omega (arith, len, place.reach) };
    }

pub slice_bounds-copy_from_slice-end-2 : goal.slice_bounds-copy_from_slice-end-2
slice_bounds-copy_from_slice-end-2 c = omega (arith, length-take 20 c.args.out.now, c.requires.room)
