-- One pair more, and at the end all.
use Rattle.std.proofs.Common.{◌≡◌, ◌<◌, ℕ, length, arith, subst}
use Rattle.std.proofs.lemmas.List.{get_or_default}
use Rattle.std.proofs.lemmas.List.Elements.{AllWithin-more, AllWithin-none, All-from_all_within, recursion_from_All}
use Rattle.std.specs.List.{AllWithin}
use Rattle.arp.specs.declared.entry.Neighbour.{Neighbour}
use Rattle.arp.proofs.cache.whole_macs.Goals as goal

abbrev HasWholeMac : Neighbour → Type 0
HasWholeMac pair = length pair.mac.0 ≡ 6

pub loop-pair-init : goal.loop-pair-init
loop-pair-init c = AllWithin-none HasWholeMac c.args.pairs.now 0

pub loop-pair-preserved : goal.loop-pair-preserved
loop-pair-preserved c =
    let within : c.loop-pair.pair-index < length c.args.pairs.now = omega arith in
    AllWithin-more HasWholeMac c.args.pairs.now 0 c.loop-pair.pair-index c.loop-pair.invariant
    (λ d. subst HasWholeMac (get_or_default c.args.pairs.now c.loop-pair.pair-index _ d within) c.is_whole_mac.ensures)

pub returns : goal.returns
returns c =
    let all : c.loop-pair.pair-index ≡ length c.args.pairs.now = omega arith in
    recursion_from_All HasWholeMac c.args.pairs.now
    (All-from_all_within HasWholeMac c.args.pairs.now (subst (λ (n : ℕ). AllWithin HasWholeMac c.args.pairs.now 0 n) all c.loop-pair.invariant))
