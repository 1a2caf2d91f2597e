-- Octets spell one frame.
use Rattle.std.proofs.Common.{◌≡◌, ℕ, ◌/◌, ◌%◌, List, [], ◌∷◌, ◌++◌, length, arith, refl, sym, ◌∙◌, ap, append_assoc}
use Rattle.byteorder.specs.Endian.{big_bytes}
use Rattle.ether.specs.Frame.{Frame, Spells, spelling}

-- two lists of one length that begin one list are the same, and so is what follows
same_front : (xs ys us vs : List ℕ) → length xs ≡ length ys → xs ++ us ≡ ys ++ vs → (xs ≡ ys) × (us ≡ vs)
same_front [] [] us vs n e = (refl, e)
same_front [] (y ∷ ys) us vs n e = absurd (omega arith)
same_front (x ∷ xs) [] us vs n e = absurd (omega arith)
same_front (x ∷ xs) (y ∷ ys) us vs n e =
    let first : x ≡ y = cc in
    let rest : xs ++ us ≡ ys ++ vs = cc in
    let both = same_front xs ys us vs (omega arith) rest in
    let front : xs ≡ ys = both.0 in
    (cc, both.1)

pub one_frame : (first second : Frame) (octets : List ℕ) → Spells first octets → Spells second octets → first ≡ second
one_frame f g octets a b =
    let whole : f.destination.0 ++ (f.source.0 ++ (big_bytes 2 f.kind ++ f.payload)) ≡ g.destination.0 ++ (g.source.0 ++ (big_bytes 2 g.kind ++ g.payload)) =
    sym (regroup f) ∙ (sym a.spelled ∙ (b.spelled ∙ regroup g)) in
    let one = same_front f.destination.0 g.destination.0 (f.source.0 ++ (big_bytes 2 f.kind ++ f.payload)) (g.source.0 ++ (big_bytes 2 g.kind ++ g.payload)) (a.destination ∙ sym b.destination) whole in
    let two = same_front f.source.0 g.source.0 (big_bytes 2 f.kind ++ f.payload) (big_bytes 2 g.kind ++ g.payload) (a.source ∙ sym b.source) one.1 in
    let rest : f.kind / 256 % 256 ∷ f.kind % 256 ∷ f.payload ≡ g.kind / 256 % 256 ∷ g.kind % 256 ∷ g.payload = two.1 in
    let high : f.kind / 256 % 256 ≡ g.kind / 256 % 256 = cc in
    let low : f.kind % 256 ≡ g.kind % 256 = cc in
    let payload : f.payload ≡ g.payload = cc in
    let kind : f.kind ≡ g.kind = omega (arith, high, low, a.kind, b.kind) in
    ap (λ d. made d f.source.0 f.kind f.payload) one.0
    ∙ (ap (λ s. made g.destination.0 s f.kind f.payload) two.0 ∙ (ap (λ k. made g.destination.0 g.source.0 k f.payload) kind ∙ ap (made g.destination.0 g.source.0 g.kind) payload))
  where
    made : List ℕ → List ℕ → ℕ → List ℕ → Frame
    made d s k p = record { destination = record { 0 = d }; source = record { 0 = s }; kind = k; payload = p }

    regroup : (f : Frame) → spelling f ≡ f.destination.0 ++ (f.source.0 ++ (big_bytes 2 f.kind ++ f.payload))
    regroup f = simp append_assoc
