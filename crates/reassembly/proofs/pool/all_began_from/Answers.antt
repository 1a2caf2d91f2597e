use Rattle.std.proofs.Common.{sym, ◌∙◌}
use Rattle.std.proofs.lemmas.List.Folds.{list_all-map}
use Rattle.reassembly.specs.Inside.{PlaceView}
use Rattle.reassembly.specs.Places.{began_from}
use Rattle.reassembly.proofs.pool.all_began_from.Goals as goal

pub returns : goal.returns
returns c = c.each_began_from.ensures ∙ sym (list_all-map (began_from c.args.since) (λ (p : PlaceView). p.datagram) c.args.places.now)
