-- The plain reading of octets finds the frame that they spell.
use Rattle.std.proofs.Common.{◌≡◌, ℕ, ◌^◌, ◌<◌, ◌≤◌, Bool, true, false, nat_lt, cond, List, [], ◌∷◌, length, All, Some, None, Ok, Err, arith, refl, sym, ◌∙◌, ap, subst, ⊎_elim}
use Rattle.std.proofs.lemmas.Bool.Decides.{nat_tests}
use Rattle.std.proofs.lemmas.Bool.{cases_lt}
use Rattle.ether.specs.declared.view.FrameFault.{FrameFault}
use Rattle.ether.specs.declared.view.FrameFault.TheVariants.{Short}
use Rattle.ether.specs.Frame.{Frame, IsParsed, Spells, spelling}
use Rattle.ether.specs.Reading.{frame_in, frame_of}
use Rattle.ether.proofs.Answering.{read, short}

-- a frame by its parts
abbrev made : List ℕ → List ℕ → ℕ → List ℕ → Frame
made destination source kind payload =
    record { destination = record { 0 = destination }; source = record { 0 = source }; kind = kind; payload = payload }

-- what is read of a spelling
spelling_read : (destination source : List ℕ) (kind : ℕ) (payload : List ℕ) → length destination ≡ 6 → length source ≡ 6 → kind < 2 ^ 16
    → frame_in (spelling (made destination source kind payload)) ≡ Some (made destination source kind payload)
spelling_read (d0 ∷ d1 ∷ d2 ∷ d3 ∷ d4 ∷ d5 ∷ []) (s0 ∷ s1 ∷ s2 ∷ s3 ∷ s4 ∷ s5 ∷ []) kind payload six_d six_s fits =
    let destination : List ℕ = d0 ∷ d1 ∷ d2 ∷ d3 ∷ d4 ∷ d5 ∷ [] in
    let source : List ℕ = s0 ∷ s1 ∷ s2 ∷ s3 ∷ s4 ∷ s5 ∷ [] in
    let octets : List ℕ = spelling (made destination source kind payload) in
    let room : nat_lt (length octets) 14 ≡ false = grind (arith, nat_tests) in
    let is_kind : (frame_of octets).kind ≡ kind = omega (arith, fits) in
    ap (λ b. cond b None (Some (frame_of octets))) room ∙ ap (λ n. Some (made destination source n payload)) is_kind
spelling_read destination source kind payload six_d six_s fits = absurd (omega (arith, six_d, six_s))

-- the plain reading finds what is parsed ..
pub read_ok : (octets : List ℕ) (frame : Frame) → IsParsed octets (Ok frame) → frame_in octets ≡ Some frame
read_ok octets frame spells =
    ap frame_in spells.spelled ∙ spelling_read frame.destination.0 frame.source.0 frame.kind frame.payload spells.destination spells.source spells.kind

-- too few octets for a head are read as nothing
pub unread : (octets : List ℕ) → length octets < 14 → frame_in octets ≡ None
unread octets few =
    let is : nat_lt (length octets) 14 ≡ true = grind (arith, nat_tests, few) in
    ap (λ b. cond b None (Some (frame_of octets))) is

-- .. and nothing where a fault is
pub read_err : (octets : List ℕ) → All (λ octet. octet < 256) octets → IsParsed octets (Err Short) → frame_in octets ≡ None
read_err octets each none = unread octets ((short octets each).0 none)

-- octets that are read spell what is read
pub is_spelled : (octets : List ℕ) (frame : Frame) → All (λ octet. octet < 256) octets → frame_in octets ≡ Some frame → Spells frame octets
is_spelled octets frame each found = ⊎_elim few enough (cases_lt (length octets) 14)
  where
    few : length octets < 14 → Spells frame octets
    few less =
        let none : None ≡ Some frame = sym (unread octets less) ∙ found in
        cc

    enough : 14 ≤ length octets → Spells frame octets
    enough least =
        let own = read octets each least in
        let same : Some own.0 ≡ Some frame = sym (read_ok octets own.0 own.1) ∙ found in
        let is : own.0 ≡ frame = cc in
        subst (λ f. Spells f octets) is own.1

-- there is one fault
pub is_fault : (fault : FrameFault) → fault ≡ Short
is_fault Short = refl

-- octets of which nothing is read are too few for a head
pub too_few : (octets : List ℕ) → frame_in octets ≡ None → length octets < 14
too_few octets none = by_test (nat_lt (length octets) 14) refl none
  where
    by_test : (b : Bool) → nat_lt (length octets) 14 ≡ b → cond b None (Some (frame_of octets)) ≡ None → length octets < 14
    by_test true is e = grind (arith, nat_tests, is)
    by_test false is e = cc
