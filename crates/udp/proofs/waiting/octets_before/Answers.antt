use Rattle.std.proofs.Common.{◌≡◌, Some, sym, ◌∙◌, ap, arith}
use Rattle.std.specs.List.{slice_get}
use Rattle.std.specs.Option.{option_copied}
use Rattle.udp.proofs.Forward.{next_lens, some_there}
use Rattle.udp.proofs.waiting.octets_before.Goals as goal
use Rattle.udp.proofs.waiting.octets_before.Goals.{in-Some, in_default}

pub overflow_add-octets : goal.overflow_add-octets
overflow_add-octets c =
    let there : slice_get c.args.entries.now.items c.loop-index.index ≡ Some c.in-Some.entry.now = sym c.get.ensures ∙ ap option_copied c.in-Some.is in
    let next = next_lens c.args.entries.now.items c.loop-index.index c.in-Some.entry.now there in
    omega (arith, next.1, c.loop-index.invariant, c.requires.fits)

pub loop-index-preserved : goal.loop-index-preserved
loop-index-preserved c = elim c.match-get.branch [
  | in-Some w ↦
      let there : slice_get c.args.entries.now.items c.loop-index.index ≡ Some w.in-Some.entry.now = sym c.get.ensures ∙ ap option_copied w.in-Some.is in
      let next = next_lens c.args.entries.now.items c.loop-index.index w.in-Some.entry.now there in
      omega (arith, w.octets-is, next.0, c.loop-index.invariant)
  | in_default w ↦
      absurd (some_there c.args.entries.now.items c.loop-index.index (omega (arith, c.loop-index-test.true, c.requires.place))
      (sym c.get.ensures ∙ ap option_copied w.in_default.is))
]
