-- Where an acknowledgement alone goes out, and that a peer hears it there.
use Rattle.std.proofs.Common.{◌≡◌, ℕ, ◌+◌, ◌-◌, ◌<◌, ◌≤◌, ◌==◌, ◌||◌, ◌&&◌, ◌^◌, not, nat_le, if◌then◌else◌, Bool, true, false, [], arith, refl, sym, ◌∙◌, ap, subst}
use Rattle.std.proofs.lemmas.Bool.{eq-eqb, eqb-true}
use Rattle.tcp_segment.specs.Wire.{wire, past}
use Rattle.tcp_halves.specs.Halves.{Sending, Receiving}
use Rattle.tcp_halves.specs.Stream.{outstanding, number_before, bare_number, receive_window, stands_before, is_acceptable}
use Rattle.tcp_halves.proofs.Choices.{either, by, or_right}
use Rattle.tcp_state.specs.declared.emission.Due.TheVariants.{Ack, KeepAlive}
use Rattle.tcp_state.specs.View.{View, IsSound, is_opening, is_closed}
use Rattle.tcp_state.specs.Due.{number_of}
use Rattle.tcp_halves.specs.Heard.{settled}
use Rattle.tcp_state.specs.Positions.{ReceivesAt}
use Rattle.tcp_state.specs.Said.{segment_of}
use Rattle.tcp_state.proofs.Positions.{empty}

-- what only a probe took is all that is outstanding
only_one : (probed closed opening one : Bool) → (probed && not closed && (opening || not one)) ≡ false → closed ≡ false → probed ≡ true → (one ≡ true) × (opening ≡ false)
only_one true false false true e c p = (refl, refl)
only_one true false false false e c p = cc
only_one true false true one e c p = cc
only_one true true opening one e c p = cc
only_one false closed opening one e c p = cc

pub probed_is_one : (v : View) → IsSound v → is_closed v.state ≡ false → v.sending.probed ≡ true → outstanding v.sending ≡ 1
probed_is_one v sound lives probed =
    eqb-true (outstanding v.sending) 1 (only_one v.sending.probed (is_closed v.state) (is_opening v.state) (outstanding v.sending == 1) sound.probed lives probed).0

-- .. past the opening
pub probed_is_open : (v : View) → IsSound v → is_closed v.state ≡ false → v.sending.probed ≡ true → is_opening v.state ≡ false
probed_is_open v sound lives probed = (only_one v.sending.probed (is_closed v.state) (is_opening v.state) (outstanding v.sending == 1) sound.probed lives probed).1

-- the two numbers that it may have
pub bare_at_next : (s : Sending) → s.probed ≡ false → bare_number s ≡ s.nxt
bare_at_next s none = ap (λ b. if b then number_before s.nxt else s.nxt) none

pub bare_before : (s : Sending) → s.probed ≡ true → bare_number s ≡ number_before s.nxt
bare_before s probed = ap (λ b. if b then number_before s.nxt else s.nxt) probed

-- it is a number of 32 bits
pub bare_fits : (v : View) → IsSound v → bare_number v.sending < 2 ^ 32
bare_fits v sound = either ℕ (λ n. n < 2 ^ 32) v.sending.probed (number_before v.sending.nxt) v.sending.nxt (λ probed. omega arith) (λ none. sound.nxt)

-- with nothing outstanding no probe is
pub bare_at_rest : (v : View) → IsSound v → is_closed v.state ≡ false → outstanding v.sending ≡ 0 → bare_number v.sending ≡ v.sending.nxt
bare_at_rest v sound lives none =
    by (bare_number v.sending ≡ v.sending.nxt) v.sending.probed (λ probed. absurd (let one = probed_is_one v sound lives probed in omega (arith, one, none))) (bare_at_next v.sending)

-- what is said of it
pub alone_says : (v : View) → IsSound v → (let s = segment_of v Ack in (s.octets ≡ []) × (v.sending.probed ≡ false → s.number ≡ v.sending.nxt) × (v.sending.probed ≡ true → wire s.number 1 ≡ v.sending.nxt))
alone_says v sound = (refl, bare_at_next v.sending, λ probed. ap (λ n. wire n 1) (bare_before v.sending probed) ∙ omega (arith, sound.nxt))

pub number_next : (v : View) → v.sending.probed ≡ false → number_of v Ack ≡ v.sending.nxt
number_next v none = bare_at_next v.sending none

pub number_probed : (v : View) → IsSound v → is_closed v.state ≡ false → v.sending.probed ≡ true → (number_of v Ack ≡ v.sending.una) × (wire v.sending.una 1 ≡ v.sending.nxt)
number_probed v sound lives probed =
    let one = probed_is_one v sound lives probed in
    (bare_before v.sending probed ∙ omega (arith, one, sound.una, sound.nxt), omega (arith, one, sound.una, sound.nxt))

-- how far past SND.UNA it stands
all_settled : (v : View) → v.sending.probed ≡ false → settled v.sending ≡ outstanding v.sending
all_settled v none = ap (λ b. outstanding v.sending - (if b then 1 else 0)) none ∙ omega arith

one_unsettled : (v : View) → v.sending.probed ≡ true → settled v.sending ≡ outstanding v.sending - 1
one_unsettled v probed = ap (λ b. outstanding v.sending - (if b then 1 else 0)) probed

pub stands_at : (v : View) → IsSound v → is_closed v.state ≡ false → number_of v Ack ≡ wire v.sending.una (settled v.sending)
stands_at v sound lives =
    by (number_of v Ack ≡ wire v.sending.una (settled v.sending)) v.sending.probed
    (λ probed. let one = probed_is_one v sound lives probed in (number_probed v sound lives probed).0 ∙ omega (arith, one_unsettled v probed, one, sound.una))
    (λ none. number_next v none ∙ omega (arith, all_settled v none, sound.una, sound.nxt))

pub ack_within : (v : View) → IsSound v → is_closed v.state ≡ false → settled v.sending ≤ v.sending.window → past (number_of v Ack) v.sending.una ≤ v.sending.window
ack_within v sound lives within =
    let few : settled v.sending < 2 ^ 32 = omega arith in
    omega (arith, ap (λ n. past n v.sending.una) (stands_at v sound lives), few, sound.una, within)

-- all but what was probed with, or one less
most_settled : (v : View) → IsSound v → is_closed v.state ≡ false → outstanding v.sending ≤ settled v.sending + 1
most_settled v sound lives =
    by (outstanding v.sending ≤ settled v.sending + 1) v.sending.probed (λ probed. omega (arith, one_unsettled v probed)) (λ none. omega (arith, all_settled v none))

pub ack_heard : (initial una next edge : ℕ) (v : View) (peer : Receiving) → IsSound v → is_closed v.state ≡ false → v.sending.una ≡ wire initial una → ReceivesAt initial next edge peer
    → una ≤ next → next ≤ una + outstanding v.sending → una + settled v.sending ≤ edge → is_acceptable peer (number_of v Ack) 0 ≡ true
ack_heard initial una next edge v peer sound lives stands at from to within =
    let most = most_settled v sound lives in
    let number : number_of v Ack ≡ wire initial (una + settled v.sending) = stands_at v sound lives ∙ omega (arith, stands) in
    subst (λ n. is_acceptable peer n 0 ≡ true) (sym number)
    ((empty initial next edge (una + settled v.sending) peer at (record { behind = omega (arith, most, to); ahead = omega (arith, at.near, within) })).1 (omega (arith, most, to), within))

pub asking_heard : (v : View) (peer : Receiving) → IsSound v → peer.rnext ≡ v.sending.nxt → is_acceptable peer (number_of v KeepAlive) 0 ≡ true
asking_heard v peer sound same =
    or_right (nat_le (past (number_of v KeepAlive) peer.rnext) (receive_window peer)) (stands_before peer (number_of v KeepAlive))
    (eq-eqb (past peer.rnext (number_of v KeepAlive)) 1 (omega (arith, same, sound.nxt)))
