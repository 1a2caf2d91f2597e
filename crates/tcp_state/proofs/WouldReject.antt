-- Whether a segment is rejected shows before it is heard.
use Rattle.std.proofs.Common.{◌≡◌, ◌||◌, ◌&&◌, not, Bool, true, false, if◌then◌else◌, inl, inr, refl, sym, ◌∙◌, ap}
use Rattle.tcp_segment.specs.Segment.{Segment}
use Rattle.tcp_state.specs.declared.connection.Fate.TheVariants.{Stays, Removed, Rejected}
use Rattle.tcp_state.specs.declared.state.State.{State}
use Rattle.tcp_state.specs.declared.state.State.TheVariants.{SynSent, SynReceived}
use Rattle.tcp_state.specs.View.{View, is_syn_sent, is_syn_received, is_closed, is_over}
use Rattle.tcp_state.specs.Arrival.{is_acceptable_to, is_lost, after_segment, acknowledges_unsent, is_rejected, ends_opening, fate}
use Rattle.tcp_state.specs.Asking.{is_rejection}
use Rattle.tcp_halves.proofs.Choices.{and_left, and_right, or_else}
use Rattle.tcp_state.proofs.Rejecting.{rejected_is_answered}

opening_lives : (t : State) → is_syn_sent t ≡ true → is_closed t ≡ false
opening_lives SynSent e = refl
opening_lives _ e = cc

answering_lives : (t : State) → is_syn_received t ≡ true → is_closed t ≡ false
answering_lives SynReceived e = refl
answering_lives _ e = cc

rejected_lives : (v : View) (s : Segment) → is_rejected v s ≡ true → is_closed v.state ≡ false
rejected_lives v s rejected =
    let received = is_syn_received v.state in
    let late = received && is_acceptable_to v s && not s.flags.syn in
    elim (or_else (is_syn_sent v.state) late (and_right (acknowledges_unsent v s) (is_syn_sent v.state || late) rejected)) [
      | inl sent ↦ opening_lives v.state sent
      | inr l ↦ answering_lives v.state (and_left received (is_acceptable_to v s) (and_left (received && is_acceptable_to v s) (not s.flags.syn) l))
    ]

-- a fate that isn't by the test of rejection is none
none_rejected : (stays over opening : Bool) → is_rejection (if stays then Stays else if over then Removed else if false then Rejected else if opening then Removed else Stays) ≡ false
none_rejected true over opening = refl
none_rejected false true opening = refl
none_rejected false false true = refl
none_rejected false false false = refl

pub foreseen : (v : View) (s : Segment) → is_rejected v s ≡ is_rejection (fate v s)
foreseen v s = by_test (is_rejected v s) refl
  where
    by_test : (b : Bool) → is_rejected v s ≡ b → is_rejected v s ≡ is_rejection (fate v s)
    by_test true is = is ∙ sym (ap is_rejection (rejected_is_answered v s (rejected_lives v s is) is))
    by_test false is =
        is ∙ sym (ap (λ b. is_rejection (if is_closed v.state || is_lost v s then Stays else if is_over (after_segment v s) then Removed else if b then Rejected else if ends_opening v s then Removed else Stays)) is
        ∙ none_rejected (is_closed v.state || is_lost v s) (is_over (after_segment v s)) (ends_opening v s))
