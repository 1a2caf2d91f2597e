-- What a socket says of itself: the datagrams that it sent and gave, in order.
use Rattle.std.specs.Prelude.{◌≡◌, ◌<◌, ℕ, List, [], ◌∷◌, ◌++◌, length, take, Option, Some, None, Result, Ok, Err, ⊤}
use Rattle.sides.specs.declared.side.Side.{Side}
use Rattle.sides.specs.declared.side.Side.TheVariants.{A, B}
use Rattle.udp_link.specs.declared.losses.Fate.{Fate}
use Rattle.udp_link.specs.Fates.{copies}

-- the known datagrams grew by these
abbrev pub Grows : Option (List (List ℕ)) → Option (List (List ℕ)) → List (List ℕ) → Type 0
Grows None new more = ⊤
Grows (Some told) None more = ⊥
Grows (Some told) (Some longer) more = longer ≡ told ++ more

-- a `send` of a datagram sent it, or nothing where it failed
abbrev pub Sends : {E : Type 0} → Option (List (List ℕ)) → Option (List (List ℕ)) → Result (Unit {0}) E → List ℕ → Type 0
Sends old new (Ok done) datagram = Grows old new (datagram ∷ [])
Sends old new (Err fault) datagram = Grows old new []

-- a `recv` gave the front of its buffer, or nothing
abbrev pub Receives : {E : Type 0} → Option (List (List ℕ)) → Option (List (List ℕ)) → Result (Option ℕ) E → List ℕ → Type 0
Receives old new (Ok (Some len)) buffer = Grows old new (take len buffer ∷ [])
Receives old new (Ok None) buffer = Grows old new []
Receives old new (Err fault) buffer = Grows old new []

-- a frame was sent as often as is meant, or less often where the socket failed
abbrev pub HandsOver : {E : Type 0} → Option (List (List ℕ)) → Option (List (List ℕ)) → Result (Unit {0}) E → Fate → List ℕ → Type 0
HandsOver old new (Ok done) fate frame = Grows old new (copies fate frame)
HandsOver old new (Err fault) fate frame = (sent left : List (List ℕ)) × (copies fate frame ≡ sent ++ left) × (0 < length left) × Grows old new sent

-- of the two sides' things, the one of this side
abbrev pub at_side : {T : Type 0} → Side → T → T → T
at_side A a b = a
at_side B a b = b
