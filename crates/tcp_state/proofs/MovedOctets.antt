-- Why a send takes the octets that fit, and a recv reads those that came.
use Rattle.std.proofs.Common.{◌≡◌, ◌≢◌, ℕ, ◌-◌, ◌<◌, ◌==◌, ◌||◌, ◌&&◌, not, min, if◌then◌else◌, Bool, true, false, List, [], ◌∷◌, ◌++◌, length, take, Option, Some, None, is_some, Result, Ok, Err, inl, inr, arith, refl, sym, ◌∙◌, ap, subst}
use Rattle.std.proofs.lemmas.List.{length-take, append-nil}
use Rattle.std.proofs.lemmas.Bool.{eqb-true, eq-eqb}
use Rattle.std.proofs.lemmas.Bool.Decides.{eqb_tells}
use Rattle.clock.specs.declared.moment.Moment.{Moment}
use Rattle.stream_buf.proofs.Standing.{at_more}
use Rattle.tcp_state.specs.declared.calls.Refusal.{Refusal}
use Rattle.tcp_state.specs.declared.calls.Refusal.TheVariants.{EAGAIN, EPIPE}
use Rattle.tcp_state.specs.declared.calls.Received.{Received}
use Rattle.tcp_state.specs.declared.calls.Received.TheVariants.{Octets, EndOfStream}
use Rattle.tcp_state.specs.declared.state.State.{State}
use Rattle.tcp_state.specs.declared.state.State.TheVariants.{Closed}
use Rattle.tcp_halves.specs.Stream.{send_room, after_read}
use Rattle.tcp_state.specs.View.{View, IsSound, is_opening, is_write_closed, is_read_closed, is_closed}
use Rattle.tcp_state.specs.Calls.{unless_pending, send_count, send_answer, with_octets, recv_count, recv_answer}
use Rattle.tcp_state.specs.Edges.{Sends, Receives, after_event}
use Rattle.tcp_state.specs.Duties.{TakesBehind, ReadsFirst}
use Rattle.tcp_halves.proofs.Choices.{either, clash, neither}
use Rattle.tcp_state.proofs.Shut.{no_error}

-- Sending.

writes : (t : State) → is_write_closed t ≡ false → is_closed t ≡ false
writes Closed e = cc
writes _ e = refl

answered : (error : Option Refusal) (opening shut full : Bool) (taken : Result ℕ Refusal) → error ≡ None → (opening || shut) ≡ false
    → unless_pending error (if opening then Err EAGAIN else if shut then Err EPIPE else if full then Err EAGAIN else taken) ≡ (if full then Err EAGAIN else taken)
answered None false false full taken e o = refl
answered (Some error) opening shut full taken e o = cc
answered None true shut full taken e o = cc
answered None false true full taken e o = cc

answer : (v : View) (octets : List ℕ) → IsSound v → (is_opening v.state || is_write_closed v.state) ≡ false
    → send_answer v octets ≡ (if (send_room v.sending == 0) && not (length octets == 0) then Err EAGAIN else Ok (send_count v octets))
answer v octets sound open_yet =
    let lives = writes v.state (neither (is_opening v.state) (is_write_closed v.state) open_yet).1 in
    answered v.pending_error (is_opening v.state) (is_write_closed v.state) ((send_room v.sending == 0) && not (length octets == 0)) (Ok (send_count v octets))
    (no_error v.pending_error (is_closed v.state) lives sound.error) open_yet

goes : (error : Option Refusal) (opening shut : Bool) (v w : View) → error ≡ None → (opening || shut) ≡ false → (if is_some error || opening || shut then v else w) ≡ w
goes None false false v w e o = refl
goes (Some error) opening shut v w e o = cc
goes None true shut v w e o = cc
goes None false true v w e o = cc

sent : (v : View) (octets : List ℕ) (now : Moment) → IsSound v → (is_opening v.state || is_write_closed v.state) ≡ false → after_event v (Sends octets now) ≡ with_octets v (take (send_count v octets) octets) now
sent v octets now sound open_yet =
    let lives = writes v.state (neither (is_opening v.state) (is_write_closed v.state) open_yet).1 in
    goes v.pending_error (is_opening v.state) (is_write_closed v.state) v (with_octets v (take (send_count v octets) octets) now) (no_error v.pending_error (is_closed v.state) lives sound.error) open_yet

pub none_are : (octets : List ℕ) → (length octets == 0) ≡ true → octets ≡ []
none_are [] e = refl
none_are (x ∷ octets) e = let none = eqb-true (length (x ∷ octets)) 0 e in absurd (omega (arith, none))

taken_behind : (v : View) (octets : List ℕ) (now : Moment) → TakesBehind octets v (with_octets v octets now)
taken_behind v octets now =
    either View (TakesBehind octets v) (length octets == 0) v _
    (λ none. record { held = sym (ap (λ (more : List ℕ). v.sending.held ++ more) (none_are octets none) ∙ append-nil v.sending.held); una = refl; nxt = refl; receiving = refl; state = refl })
    (λ some. record { held = refl; una = refl; nxt = refl; receiving = refl; state = refl })

has_room : (size held len : ℕ) → (0 < len → held < size) → ((size - held == 0) && not (len == 0)) ≡ false
has_room size held len room = elim (eqb_tells len 0) [
  | inl none ↦ ap (λ b. (size - held == 0) && not b) none.0 ∙ last (size - held == 0)
  | inr some ↦ elim (eqb_tells (size - held) 0) [
    | inl full ↦ let more = room (positive len some.1) in absurd (omega (arith, full.1, more))
    | inr left ↦ ap (λ b. b && not (len == 0)) left.0
  ]
]
  where
    last : (b : Bool) → (b && false) ≡ false
    last true = refl
    last false = refl

    positive : (len : ℕ) → len ≢ 0 → 0 < len
    positive len some = omega (arith, some)

pub send_takes : (v : View) (octets : List ℕ) (now : Moment) → IsSound v → (is_opening v.state || is_write_closed v.state) ≡ false → (0 < length octets → length v.sending.held < v.sending.size)
    → (let count = min (length octets) (v.sending.size - length v.sending.held) in (send_answer v octets ≡ Ok count) × TakesBehind (take count octets) v (after_event v (Sends octets now)))
send_takes v octets now sound open_yet room = (
  answer v octets sound open_yet ∙ ap (λ b. if b then Err EAGAIN else Ok (send_count v octets)) (has_room v.sending.size (length v.sending.held) (length octets) room),
  subst (TakesBehind (take (send_count v octets) octets) v) (sym (sent v octets now sound open_yet)) (taken_behind v (take (send_count v octets) octets) now),
)

pub send_waits : (v : View) (octets : List ℕ) (now : Moment) → IsSound v → (is_opening v.state || is_write_closed v.state) ≡ false → 0 < length octets → length v.sending.held ≡ v.sending.size
    → (send_answer v octets ≡ Err EAGAIN) × (after_event v (Sends octets now) ≡ v)
send_waits v octets now sound open_yet some full =
    let none_left : ((send_room v.sending == 0) && not (length octets == 0)) ≡ true = shut v.sending.size (length v.sending.held) (length octets) full some in
    let few : (length (take (send_count v octets) octets) == 0) ≡ true = eq-eqb (length (take (send_count v octets) octets)) 0 (none v.sending.size (length v.sending.held) (length octets) (length (take (send_count v octets) octets)) full (length-take (send_count v octets) octets)) in (
      answer v octets sound open_yet ∙ ap (λ b. if b then Err EAGAIN else Ok (send_count v octets)) none_left,
      sent v octets now sound open_yet ∙ either View (λ w. w ≡ v) (length (take (send_count v octets) octets) == 0) v _ (λ is. refl) (λ more. clash (length (take (send_count v octets) octets) == 0) few more),
    )
  where
    shut : (size held len : ℕ) → held ≡ size → 0 < len → ((size - held == 0) && not (len == 0)) ≡ true
    shut size held len full some = ap (λ b. b && not (len == 0)) (eq-eqb (size - held) 0 (omega (arith, full))) ∙ elim (eqb_tells len 0) [ inl zero ↦ absurd (omega (arith, zero.1, some)) | inr more ↦ ap not more.0 ]

    none : (size held len taken : ℕ) → held ≡ size → taken ≡ min (min len (size - held)) len → taken ≡ 0
    none size held len taken full is = omega (arith, full, is)

-- Reading.

abbrev reading : View → ℕ → View
reading v count = record v { receiving = after_read v.receiving count }

told : (error : Option Refusal) (opening empty ended : Bool) (octets : Result Received Refusal) → error ≡ None → opening ≡ false
    → unless_pending error (if opening then Err EAGAIN else if not empty then octets else if ended then Ok EndOfStream else Err EAGAIN) ≡ (if not empty then octets else if ended then Ok EndOfStream else Err EAGAIN)
told None false empty ended octets e o = refl
told (Some error) opening empty ended octets e o = cc
told None true empty ended octets e o = cc

moves : (error : Option Refusal) (opening empty : Bool) (v w : View) → error ≡ None → opening ≡ false → (if is_some error || opening || empty then v else w) ≡ (if empty then v else w)
moves None false empty v w e o = refl
moves (Some error) opening empty v w e o = cc
moves None true empty v w e o = cc

some_are : (octets : List ℕ) → octets ≢ [] → (length octets == 0) ≡ false
some_are [] some = absurd (some refl)
some_are (x ∷ octets) some = elim (eqb_tells (length (x ∷ octets)) 0) [ inl none ↦ absurd (omega (arith, none.1)) | inr more ↦ more.0 ]

pub recv_reads : (v : View) (len : ℕ) → v.pending_error ≡ None → is_opening v.state ≡ false → v.receiving.readable ≢ []
    → (let count = min len (length v.receiving.readable) in (recv_answer v len ≡ Ok (Octets count)) × ReadsFirst count v (after_event v (Receives len)))
recv_reads v len none opened some =
    let count = recv_count v len in
    let empty = length v.receiving.readable == 0 in
    let is : empty ≡ false = some_are v.receiving.readable some in
    let read : after_event v (Receives len) ≡ reading v count = moves v.pending_error (is_opening v.state) empty v (reading v count) none opened ∙ ap (λ b. if b then v else reading v count) is in (
      told v.pending_error (is_opening v.state) empty (is_read_closed v.state) (Ok (Octets count)) none opened ∙ ap (λ b. if not b then Ok (Octets count) else if is_read_closed v.state then Ok EndOfStream else Err EAGAIN) is,
      subst (ReadsFirst count v) (sym read) (record { readable = refl; rnext = refl; edge = refl; kept = λ distance. at_more v.receiving.kept count distance; sending = refl; state = refl }),
    )

still : (v : View) (len : ℕ) → v.pending_error ≡ None → is_opening v.state ≡ false → v.receiving.readable ≡ [] → after_event v (Receives len) ≡ v
still v len none opened empty =
    moves v.pending_error (is_opening v.state) (length v.receiving.readable == 0) v (reading v (recv_count v len)) none opened ∙ ap (λ (octets : List ℕ). if length octets == 0 then v else reading v (recv_count v len)) empty

without : (v : View) (len : ℕ) → v.pending_error ≡ None → is_opening v.state ≡ false → v.receiving.readable ≡ [] → recv_answer v len ≡ (if is_read_closed v.state then Ok EndOfStream else Err EAGAIN)
without v len none opened empty =
    told v.pending_error (is_opening v.state) (length v.receiving.readable == 0) (is_read_closed v.state) (Ok (Octets (recv_count v len))) none opened
    ∙ ap (λ (octets : List ℕ). if not (length octets == 0) then Ok (Octets (recv_count v len)) else if is_read_closed v.state then Ok EndOfStream else Err EAGAIN) empty

pub recv_ends : (v : View) (len : ℕ) → v.pending_error ≡ None → is_opening v.state ≡ false → v.receiving.readable ≡ [] → is_read_closed v.state ≡ true → (recv_answer v len ≡ Ok EndOfStream) × (after_event v (Receives len) ≡ v)
recv_ends v len none opened empty ended = (without v len none opened empty ∙ ap (λ b. if b then Ok EndOfStream else Err EAGAIN) ended, still v len none opened empty)

pub recv_waits : (v : View) (len : ℕ) → v.pending_error ≡ None → is_opening v.state ≡ false → v.receiving.readable ≡ [] → is_read_closed v.state ≡ false → (recv_answer v len ≡ Err EAGAIN) × (after_event v (Receives len) ≡ v)
recv_waits v len none opened empty waits = (without v len none opened empty ∙ ap (λ b. if b then Ok EndOfStream else Err EAGAIN) waits, still v len none opened empty)
