-- A move of one end, whatever the other end and the network are.
use Rattle.std.proofs.Common.{◌≡◌, ℕ, List, sym, subst}
use Rattle.stream_law.specs.Pairing.{End, Emission, Pairing}
use Rattle.window_law.specs.Windows.{Talk, Talks, here_talks}

abbrev pub pairing : End → End → List Emission → List Emission → Pairing
pairing own other out arrived = record { own = own; other = other; sent = out; received = arrived }

-- any number of moves
abbrev pub Goes : ℕ → Pairing → Pairing → Type 0
Goes limit p q = Talks limit p → Talks limit q

abbrev pub EndGoes : ℕ → End → End → Type 0
EndGoes limit e e' = (other : End) (out arrived : List Emission) → Goes limit (pairing e other out arrived) (pairing e' other out arrived)

-- one move
pub moved : (limit : ℕ) (p q : Pairing) → Talk limit p q → Goes limit p q
moved limit p q move met = here_talks p q met move

-- none
pub end-stays : (limit : ℕ) (e e' : End) → e' ≡ e → EndGoes limit e e'
end-stays limit e e' same other out arrived met = subst (λ x. Talks limit (pairing x other out arrived)) (sym same) met
