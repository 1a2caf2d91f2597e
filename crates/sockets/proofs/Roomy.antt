-- The lists of a table have their places still.
use Rattle.std.proofs.Common.{◌≡◌, ℕ, ◌∙◌}
use Rattle.sockets.specs.declared.sizes.Sizes.{Sizes}
use Rattle.sockets.specs.SocketsView.{HasPlaces}

pub places_stay : {sizes : Sizes} {entries ends offered entries' ends' offered' : ℕ} → entries' ≡ entries → ends' ≡ ends → offered' ≡ offered → HasPlaces sizes entries ends offered → HasPlaces sizes entries' ends' offered'
places_stay of_entries of_ends of_offered places = record { sized = places.sized; entries = of_entries ∙ places.entries; ends = of_ends ∙ places.ends; offered = of_offered ∙ places.offered }
