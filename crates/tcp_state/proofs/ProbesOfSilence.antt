-- Where a peer may be asked, and why the probe by which it is goes out, and pays no acknowledgement.
use Rattle.std.proofs.Common.{◌≡◌, ◌==◌, ◌⊎◌, ◌↔◌, if◌then◌else◌, true, false, [], length, Some, None, inl, inr, refl, ◌∙◌, ap}
use Rattle.clock.specs.declared.moment.Moment.{Moment}
use Rattle.tcp_state.specs.declared.emission.Due.TheVariants.{Ack, KeepAlive}
use Rattle.tcp_state.specs.declared.state.State.{State}
use Rattle.tcp_state.specs.declared.state.State.TheVariants.{Established, FinWait2, CloseWait}
use Rattle.tcp_state.specs.View.{View, IsSound, is_opening, is_closed, awaits_fin_ack}
use Rattle.tcp_state.specs.Alive.{may_rest, rests, is_alive_due}
use Rattle.tcp_state.specs.Due.{is_ack_due, first_due}
use Rattle.tcp_state.specs.Edges.{Emits, after_first, after_event}
use Rattle.tcp_halves.proofs.Choices.{by, and_left, and_right, both}
use Rattle.tcp_state.proofs.Emissions.{by_due}
use Rattle.tcp_state.proofs.OwedAlone.{ack_or_probe}
use Rattle.tcp_state.proofs.MovedOctets.{none_are}

-- Where nothing of ours waits.

resting_in : (t : State) → may_rest t ≡ true → (t ≡ Established) ⊎ ((t ≡ CloseWait) ⊎ (t ≡ FinWait2))
resting_in Established e = inl refl
resting_in CloseWait e = inr (inl refl)
resting_in FinWait2 e = inr (inr refl)
resting_in _ e = cc

pub rest : (v : View) → (rests v ≡ true) ↔ ((v.sending.held ≡ []) × ((v.state ≡ Established) ⊎ ((v.state ≡ CloseWait) ⊎ (v.state ≡ FinWait2))))
rest v = (
  λ quiet. (none_are v.sending.held (and_right (may_rest v.state) (length v.sending.held == 0) quiet), resting_in v.state (and_left (may_rest v.state) (length v.sending.held == 0) quiet)),
  λ is. both (may_rest v.state) (length v.sending.held == 0)
      (elim is.1 [ inl t ↦ ap may_rest t | inr (inl t) ↦ ap may_rest t | inr (inr t) ↦ ap may_rest t ])
      (ap (λ xs. length xs == 0) is.0),
)

-- A probe that is due.

calm : (t : State) → may_rest t ≡ true → (is_opening t ≡ false) × (awaits_fin_ack t ≡ false) × (is_closed t ≡ false)
calm Established e = (refl, refl, refl)
calm CloseWait e = (refl, refl, refl)
calm FinWait2 e = (refl, refl, refl)
calm _ e = cc

pub goes : (v : View) → IsSound v → rests v ≡ true → v.alive.owed ≡ true → (first_due v ≡ Some Ack) ⊎ (first_due v ≡ Some KeepAlive)
goes v sound quiet owes =
    let resting = calm v.state (and_left (may_rest v.state) (length v.sending.held == 0) quiet) in
    let empty = none_are v.sending.held (and_right (may_rest v.state) (length v.sending.held == 0) quiet) in
    let first = ack_or_probe v sound resting.0 resting.1 empty resting.2 in
    let asks = both v.alive.owed (rests v) owes quiet in
    by ((first_due v ≡ Some Ack) ⊎ (first_due v ≡ Some KeepAlive)) (is_ack_due v)
    (λ due. inl (first ∙ ap (λ b. if b then Some Ack else if is_alive_due v then Some KeepAlive else None) due))
    (λ none. inr (first ∙ ap (λ b. if b then Some Ack else if is_alive_due v then Some KeepAlive else None) none ∙ ap (λ b. if b then Some KeepAlive else None) asks))

pub alone : (v : View) → first_due v ≡ Some KeepAlive → rests v ≡ true
alone v =
    by_due (λ o. o ≡ Some KeepAlive → rests v ≡ true) v (record {
      nothing = λ quiet asks e. cc;
      rst = λ owes e. cc;
      syn = λ opening owes e. cc;
      once_more = λ opened place is goes e. cc;
      octets = λ opened sends e. cc;
      fin = λ opened sends e. cc;
      probe = λ opened owes probes e. cc;
      ack = λ due e. cc;
      asks = λ quiet owes e. and_right v.alive.owed (rests v) owes;
    })

pub pays_none : (v : View) (now : Moment) → first_due v ≡ Some KeepAlive
    → ((after_event v (Emits now)).owes_ack ≡ v.owes_ack) × ((after_event v (Emits now)).delays_ack ≡ v.delays_ack) × ((after_event v (Emits now)).alive.owed ≡ false)
pays_none v now is = (ap (λ o. (after_first v o now).owes_ack) is, ap (λ o. (after_first v o now).delays_ack) is, ap (λ o. (after_first v o now).alive.owed) is)
