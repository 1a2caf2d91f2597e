-- Why PSH stands on the segments with the last octet that is held, and on no other.
use Rattle.std.proofs.Common.{◌≡◌, ◌+◌, ◌-◌, ◌<◌, ◌==◌, ◌&&◌, ◌↔◌, nat_lt, Bool, true, false, [], length, drop, min, arith, refl, sym, ◌∙◌, ap, subst}
use Rattle.std.proofs.lemmas.Bool.{lt-ltb, le-ltb, eq-eqb, eqb-true}
use Rattle.std.proofs.lemmas.List.{length-drop, length-take}
use Rattle.std.proofs.Math.Seq.{drop-length}
use Rattle.tcp_state.specs.declared.emission.Due.{Due}
use Rattle.tcp_state.specs.declared.emission.Due.TheVariants.{Rst, Syn, Text, Probe, Ack, KeepAlive}
use Rattle.tcp_state.specs.declared.emission.Stretch.{Stretch}
use Rattle.tcp_state.specs.View.{View}
use Rattle.tcp_state.specs.Due.{IsHeld, MayGoOut, flags_of, flags_of_stretch, octets_of, octets_of_stretch, probe_stretch}
use Rattle.tcp_halves.proofs.Choices.{and_right, both}

abbrev pushes : View → Stretch → Bool
pushes v stretch = let f = flags_of_stretch v stretch in f.psh

pub last_pushed : (v : View) (stretch : Stretch) → MayGoOut v (Text stretch) → 0 < stretch.count
    → ((let f = flags_of v (Text stretch) in f.psh) ≡ true) ↔ (drop (stretch.offset + stretch.count) v.sending.held ≡ [])
last_pushed v stretch held some =
    let end = stretch.offset + stretch.count in
    let l = v.sending.held in (
      (λ psh. subst (λ n. drop n l ≡ []) (sym (eqb-true end (length l) (and_right (nat_lt 0 stretch.count) (end == length l) psh))) (drop-length l)),
      (λ none. both (nat_lt 0 stretch.count) (end == length l) (lt-ltb 0 stretch.count some) (eq-eqb end (length l) (omega (arith, held.held, sym (length-drop end l) ∙ ap length none)))),
    )

nothing : (v : View) (stretch : Stretch) → IsHeld v stretch → octets_of_stretch v stretch ≡ [] → pushes v stretch ≡ false
nothing v stretch held none =
    let l = v.sending.held in
    let count : min stretch.count (length l - stretch.offset) ≡ 0 = ap (min stretch.count) (sym (length-drop stretch.offset l)) ∙ (sym (length-take stretch.count (drop stretch.offset l)) ∙ ap length none) in
    let zero : stretch.count ≡ 0 = omega (arith, held.held, count) in
    ap (λ b. b && (stretch.offset + stretch.count == length l)) (le-ltb 0 stretch.count (omega (arith, zero)))

pub none_pushed : (v : View) (due : Due) → MayGoOut v due → octets_of v due ≡ [] → (let f = flags_of v due in f.psh) ≡ false
none_pushed v Rst may none = refl
none_pushed v Syn may none = refl
none_pushed v (Text stretch) may none = nothing v stretch may none
none_pushed v Probe may none = nothing v (probe_stretch v) may none
none_pushed v Ack may none = refl
none_pushed v KeepAlive may none = refl
