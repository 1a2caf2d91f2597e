-- Why closing our side closes it and keeps what is on its way, when a close aborts a connection or takes it out, and what an abort leaves.
use Rattle.std.proofs.Common.{◌≡◌, ◌≢◌, ℕ, ◌==◌, ◌||◌, ◌&&◌, ◌⊎◌, not, if◌then◌else◌, Bool, true, false, List, [], ◌∷◌, length, Option, Some, None, is_some, Result, Err, inl, inr, arith, refl, sym, ◌∙◌, ap, subst}
use Rattle.std.specs.Option.{option_or}
use Rattle.std.proofs.lemmas.Bool.Decides.{eqb_tells}
use Rattle.clock.specs.declared.moment.Moment.{Moment}
use Rattle.tcp_state.specs.declared.calls.Refusal.{Refusal}
use Rattle.tcp_state.specs.declared.calls.Refusal.TheVariants.{EPIPE, ENOTCONN}
use Rattle.tcp_state.specs.declared.connection.Fate.TheVariants.{Stays, Removed}
use Rattle.tcp_state.specs.declared.state.State.{State}
use Rattle.tcp_state.specs.declared.state.State.TheVariants.{Listen, SynSent, SynReceived, Established, CloseWait, Closed}
use Rattle.tcp_state.specs.View.{View, IsSound, is_opening, is_syn_sent, is_syn_received, is_write_closed, is_closed, is_listening, is_over, reset_since}
use Rattle.tcp_state.specs.Calls.{unless_pending, shutdown_refusal, beyond_shutdown, after_shutdown, aborted_at, after_release, is_removed_by_close, is_aborted_by_close}
use Rattle.tcp_state.specs.Edges.{Emits, Shuts, Closes, Aborts, after_first, after_event, fate_by}
use Rattle.tcp_state.specs.declared.emission.Due.{Due}
use Rattle.tcp_state.specs.declared.emission.Due.TheVariants.{Rst}
use Rattle.tcp_state.specs.Due.{first_due}
use Rattle.tcp_state.specs.Duties.{IsShut}
use Rattle.tcp_halves.proofs.Choices.{either, clash, neither, unowed}
use Rattle.tcp_state.proofs.Freed.{opened}

-- no error is pending of what is not CLOSED
pub no_error : (error : Option Refusal) (closed : Bool) → closed ≡ false → (is_some error && not closed) ≡ false → error ≡ None
no_error None closed lives e = refl
no_error (Some error) true lives e = cc
no_error (Some error) false lives e = cc

-- States.

shut_again : (t : State) → is_write_closed t ≡ true → beyond_shutdown t ≡ t
shut_again Established e = cc
shut_again CloseWait e = cc
shut_again _ e = refl

shut_opens_not : (t : State) → is_opening t ≡ false → is_opening (beyond_shutdown t) ≡ false
shut_opens_not SynSent e = cc
shut_opens_not SynReceived e = cc
shut_opens_not Established e = refl
shut_opens_not CloseWait e = refl
shut_opens_not _ e = refl

shut_is_closed : (t : State) → is_opening t ≡ false → is_listening t ≡ false → is_write_closed (beyond_shutdown t) ≡ true
shut_is_closed SynSent e f = cc
shut_is_closed SynReceived e f = cc
shut_is_closed Listen e f = cc
shut_is_closed _ e f = refl

refused : (error : Option Refusal) (opening closed : Bool) (early full : Result ℕ Refusal) → error ≡ None → opening ≡ false → closed ≡ true
    → unless_pending error (if opening then early else if closed then Err EPIPE else full) ≡ Err EPIPE
refused None false true early full e o c = refl
refused (Some error) opening closed early full e o c = cc
refused None true closed early full e o c = cc
refused None false false early full e o c = cc

-- the state moves on, and the halves and what is pending stay
shut : (v w : View) → IsSound v → (is_opening v.state || is_closed v.state) ≡ false → w.state ≡ beyond_shutdown v.state → w.sending ≡ v.sending → w.receiving ≡ v.receiving → w.pending_error ≡ v.pending_error → IsShut v w
shut v w sound open_yet state sending receiving error =
    let lives = neither (is_opening v.state) (is_closed v.state) open_yet in
    record {
      first = λ is. state ∙ ap beyond_shutdown is;
      last = λ is. state ∙ ap beyond_shutdown is;
      again = λ closed. state ∙ shut_again v.state closed;
      sending = sending;
      receiving = receiving;
      refuses = λ octets. refused w.pending_error (is_opening w.state) (is_write_closed w.state) _ _ (error ∙ no_error v.pending_error (is_closed v.state) lives.1 sound.error)
          (ap is_opening state ∙ shut_opens_not v.state lives.0) (ap is_write_closed state ∙ shut_is_closed v.state lives.0 sound.connection);
    }

-- Shutting down.

abbrev asked : Bool → Option Refusal
asked opening = if opening then Some ENOTCONN else None

pub shutdown_shuts : (v : View) (now : Moment) → IsSound v → (is_opening v.state || is_closed v.state) ≡ false
    → (shutdown_refusal v ≡ None) × IsShut v (after_event v (Shuts now)) × ((after_event v (Shuts now)).released ≡ v.released) × (fate_by v (Shuts now) ≡ Stays)
shutdown_shuts v now sound open_yet =
    let lives = neither (is_opening v.state) (is_closed v.state) open_yet in
    let none : shutdown_refusal v ≡ None =
    ap (λ o. option_or o (if is_opening v.state then Some ENOTCONN else None)) (no_error v.pending_error (is_closed v.state) lives.1 sound.error)
    ∙ ap asked lives.0 in
    let goes : after_event v (Shuts now) ≡ after_shutdown v now = ap (λ o. if is_some o then v else after_shutdown v now) none in
    (none, subst (IsShut v) (sym goes) (shut v (after_shutdown v now) sound open_yet refl refl refl refl), ap (λ (w : View). w.released) goes, refl)

pub opening_stays : (v : View) (now : Moment) → IsSound v → is_opening v.state ≡ true → (shutdown_refusal v ≡ Some ENOTCONN) × (after_event v (Shuts now) ≡ v)
opening_stays v now sound opening =
    let waits : shutdown_refusal v ≡ Some ENOTCONN =
    ap (λ o. option_or o (if is_opening v.state then Some ENOTCONN else None)) (no_error v.pending_error (is_closed v.state) (lives v.state opening) sound.error)
    ∙ ap asked opening in
    (waits, ap (λ o. if is_some o then v else after_shutdown v now) waits)
  where
    lives : (t : State) → is_opening t ≡ true → is_closed t ≡ false
    lives SynSent e = refl
    lives SynReceived e = refl
    lives _ e = cc

-- Closing.

keeps_place : (v : View) → (is_opening v.state || is_closed v.state) ≡ false → is_removed_by_close v ≡ false
keeps_place v open_yet =
    let lives = neither (is_opening v.state) (is_closed v.state) open_yet in ap (λ b. b || is_syn_sent v.state) lives.1 ∙ (opened v.state lives.0).0

pub close_shuts : (v : View) (now : Moment) → IsSound v → (is_opening v.state || is_closed v.state) ≡ false → v.receiving.readable ≡ []
    → IsShut v (after_event v (Closes now)) × ((after_event v (Closes now)).released ≡ true) × ((after_event v (Closes now)).owes_reset ≡ false) × (fate_by v (Closes now) ≡ Stays)
close_shuts v now sound open_yet read =
    let lives = neither (is_opening v.state) (is_closed v.state) open_yet in
    let kept = keeps_place v open_yet in
    let goes_on : is_aborted_by_close v ≡ false = ap (λ b. b || not (length v.receiving.readable == 0)) (opened v.state lives.0).1 ∙ ap (λ (octets : List ℕ). not (length octets == 0)) read in
    let left : after_event v (Closes now) ≡ after_release v now =
    ap (λ b. if b then v else if is_aborted_by_close v then aborted_at v now else after_release v now) kept ∙ ap (λ b. if b then aborted_at v now else after_release v now) goes_on in (
      subst (IsShut v) (sym left) (shut v (after_release v now) sound open_yet refl refl refl refl),
      ap (λ (w : View). w.released) left,
      ap (λ (w : View). w.owes_reset) left ∙ unowed v.owes_reset (is_closed v.state) v.released lives.1 sound.reset,
      ap (λ b. if b then Removed else Stays) kept,
    )

aborted : (v : View) (now : Moment) → is_removed_by_close v ≡ false → is_aborted_by_close v ≡ true
    → ((after_event v (Closes now)).state ≡ Closed) × (reset_since (after_event v (Closes now)) ≡ Some now) × (fate_by v (Closes now) ≡ Stays)
aborted v now kept aborts =
    let ended : after_event v (Closes now) ≡ aborted_at v now =
    ap (λ b. if b then v else if is_aborted_by_close v then aborted_at v now else after_release v now) kept ∙ ap (λ b. if b then aborted_at v now else after_release v now) aborts in
    (ap (λ (w : View). w.state) ended, ap reset_since ended, ap (λ b. if b then Removed else Stays) kept)

pub close_aborts : (v : View) (now : Moment) → (v.state ≡ SynReceived) ⊎ (((is_opening v.state || is_closed v.state) ≡ false) × (v.receiving.readable ≢ []))
    → ((after_event v (Closes now)).state ≡ Closed) × (reset_since (after_event v (Closes now)) ≡ Some now) × (fate_by v (Closes now) ≡ Stays)
close_aborts v now (inl opens) = aborted v now (ap (λ t. is_closed t || is_syn_sent t) opens) (ap (λ t. is_syn_received t || not (length v.receiving.readable == 0)) opens)
close_aborts v now (inr unread) =
    let lives = neither (is_opening v.state) (is_closed v.state) unread.0 in
    aborted v now (keeps_place v unread.0) (ap (λ b. b || not (length v.receiving.readable == 0)) (opened v.state lives.0).1 ∙ some v.receiving.readable unread.1)
  where
    some : (octets : List ℕ) → octets ≢ [] → not (length octets == 0) ≡ true
    some [] unread = absurd (unread refl)
    some (x ∷ octets) unread = elim (eqb_tells (length (x ∷ octets)) 0) [ inl none ↦ absurd (omega (arith, none.1)) | inr more ↦ ap not more.0 ]

pub close_removes : (v : View) (now : Moment) → (v.state ≡ SynSent) ⊎ (v.state ≡ Closed) → fate_by v (Closes now) ≡ Removed
close_removes v now (inl waits) = ap (λ t. if is_closed t || is_syn_sent t then Removed else Stays) waits
close_removes v now (inr closed) = ap (λ t. if is_closed t || is_syn_sent t then Removed else Stays) closed

-- Aborting.

pub abort_owes : (v : View) (now : Moment) → is_closed v.state ≡ false
    → (let w = after_event v (Aborts now) in (w.state ≡ Closed) × (w.sending.held ≡ []) × (w.released ≡ true) × (reset_since w ≡ Some now)) × (fate_by v (Aborts now) ≡ Stays)
abort_owes v now lives =
    let ended : after_event v (Aborts now) ≡ aborted_at v now = ap (λ b. if b then v else aborted_at v now) lives in (
      (ap (λ (w : View). w.state) ended, ap (λ (w : View). w.sending.held) ended, ap (λ (w : View). w.released) ended, ap reset_since ended),
      ap (λ b. if b then Removed else Stays) lives,
    )

pub abort_removes : (v : View) (now : Moment) → v.state ≡ Closed → fate_by v (Aborts now) ≡ Removed
abort_removes v now closed = ap (λ t. if is_closed t then Removed else Stays) closed

-- the reset goes out, and nothing is left
owed_by : (owes closed released : Bool) → (owes && not (closed && released)) ≡ false → owes ≡ true → (closed && released) ≡ true
owed_by true true true e f = refl
owed_by true true false e f = cc
owed_by true false released e f = cc
owed_by false closed released e f = cc

pub reset_goes : (v : View) (now : Moment) → IsSound v → v.owes_reset ≡ true → (first_due v ≡ Some Rst) × ((after_event v (Emits now)).owes_reset ≡ false) × (fate_by v (Emits now) ≡ Removed)
reset_goes v now sound owes =
    let due : first_due v ≡ Some Rst = either (Option Due) (λ o. o ≡ Some Rst) v.owes_reset (Some Rst) _ (λ is. refl) (λ none. clash v.owes_reset owes none) in
    let ended : (is_closed v.state && v.released) ≡ true = owed_by v.owes_reset (is_closed v.state) v.released sound.reset owes in
    let over : is_over (after_first v (first_due v) now) ≡ true = ap (λ o. is_over (after_first v o now)) due ∙ ap (λ b. b && not false) ended in
    (due, ap (λ o. (after_first v o now).owes_reset) due, ap (λ b. if b then Removed else Stays) over)
