-- What is made of octets, and of what is sent.
use Rattle.std.proofs.Common.{◌≡◌, ◌↔◌, ℕ, ◌+◌, ◌-◌, ◌*◌, ◌/◌, ◌%◌, ◌^◌, ◌<◌, ◌≤◌, List, [], ◌∷◌, length, max, All, Result, Ok, Err, arith, refl, ◌∙◌, ap, ⊎_elim, length-append}
use Rattle.std.proofs.lemmas.Bool.{cases_lt}
use Rattle.std.proofs.lemmas.List.{length-replicate}
use Rattle.ether.specs.declared.head.Head.{Head}
use Rattle.ether.specs.declared.view.FrameFault.{FrameFault}
use Rattle.ether.specs.declared.view.FrameFault.TheVariants.{Short}
use Rattle.ether.specs.Frame.{Frame, Spells, IsParsed, head_octets, padding, sent, spelling}
use Rattle.ether.proofs.OneFrame.{one_frame}

length-head_octets : (f : Frame) → length f.destination.0 ≡ 6 → length f.source.0 ≡ 6 → length (head_octets f.destination f.source f.kind) ≡ 14
length-head_octets f destination source = simp length-append (omega (arith, destination, source))

-- octets that spell a frame are fourteen at least
pub spelled_least : (f : Frame) (octets : List ℕ) → Spells f octets → 14 ≤ length octets
spelled_least f octets s =
    omega (arith, ap length s.spelled, length-append (head_octets f.destination f.source f.kind) f.payload, length-head_octets f s.destination s.source)

-- fourteen octets or more spell a frame
pub read : (octets : List ℕ) → All (λ octet. octet < 256) octets → 14 ≤ length octets → (f : Frame) × Spells f octets
read (d0 ∷ d1 ∷ d2 ∷ d3 ∷ d4 ∷ d5 ∷ s0 ∷ s1 ∷ s2 ∷ s3 ∷ s4 ∷ s5 ∷ high ∷ low ∷ payload) each least =
    let of_high : high < 256 = each 12 0 (omega arith) in
    let of_low : low < 256 = each 13 0 (omega arith) in
    let kind : ℕ = high * 256 + low in
    let top : high ≡ kind / 256 % 256 = omega (arith, of_high, of_low) in
    let bottom : low ≡ kind % 256 = omega (arith, of_high, of_low) in
    let front : List ℕ → List ℕ = λ rest. d0 ∷ d1 ∷ d2 ∷ d3 ∷ d4 ∷ d5 ∷ s0 ∷ s1 ∷ s2 ∷ s3 ∷ s4 ∷ s5 ∷ rest in
    let f : Frame = record {
      destination = record { 0 = d0 ∷ d1 ∷ d2 ∷ d3 ∷ d4 ∷ d5 ∷ [] };
      source = record { 0 = s0 ∷ s1 ∷ s2 ∷ s3 ∷ s4 ∷ s5 ∷ [] };
      kind = kind;
      payload = payload;
    } in (
      f,
      record {
        destination = refl;
        source = refl;
        kind = omega (arith, of_high, of_low);
        spelled = ap (λ octet. front (octet ∷ low ∷ payload)) top ∙ ap (λ octet. front (kind / 256 % 256 ∷ octet ∷ payload)) bottom;
      },
    )
read octets each least = absurd (omega (arith, least))

pub short : (octets : List ℕ) → All (λ octet. octet < 256) octets → (IsParsed octets (Err Short) ↔ (length octets < 14))
short octets each = (forth, λ few f s. absurd (omega (arith, spelled_least f octets s, few)))
  where
    forth : ((f : Frame) → Spells f octets → ⊥) → length octets < 14
    forth none = ⊎_elim (λ few. few) (λ enough. let own = read octets each enough in absurd (none own.0 own.1)) (cases_lt (length octets) 14)

pub one_answer : (octets : List ℕ) (first second : Result Frame FrameFault) → IsParsed octets first → IsParsed octets second → first ≡ second
one_answer octets (Ok f) (Ok g) a b = ap Ok (one_frame f g octets a b)
one_answer octets (Ok f) (Err Short) a b = absurd (b f a)
one_answer octets (Err Short) (Ok g) a b = absurd (a g b)
one_answer octets (Err Short) (Err Short) a b = refl

pub sent_spelled : (head : Head) (payload : List ℕ) → length head.destination.0 ≡ 6 → length head.source.0 ≡ 6 → head.kind < 2 ^ 16
    → Spells (sent head payload) (spelling (sent head payload))
sent_spelled head payload destination source kind = record {
  destination = destination;
  source = source;
  kind = kind;
  spelled = refl;
}

pub emitted_parses : (head : Head) (payload : List ℕ) (answer : Result Frame FrameFault) → length head.destination.0 ≡ 6 → length head.source.0 ≡ 6 → head.kind < 2 ^ 16
    → IsParsed (spelling (sent head payload)) answer → answer ≡ Ok (sent head payload)
emitted_parses head payload answer destination source kind is =
    one_answer (spelling (sent head payload)) answer (Ok (sent head payload)) is (sent_spelled head payload destination source kind)

pub length-sent : (head : Head) (payload : List ℕ) → length head.destination.0 ≡ 6 → length head.source.0 ≡ 6
    → length (spelling (sent head payload)) ≡ 14 + max (length payload) 46
length-sent head payload destination source =
    let f : Frame = sent head payload in
    omega (arith, length-append (head_octets f.destination f.source f.kind) f.payload, length-head_octets f destination source, length-append payload (padding payload), length-replicate {A = ℕ} (46 - length payload) 0)
