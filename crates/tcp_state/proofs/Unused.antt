-- What a segment that isn't used leaves: an acknowledgement is owed.
use Rattle.std.proofs.Common.{◌≡◌, ℕ, ◌&&◌, ◌||◌, not, if◌then◌else◌, Bool, true, false, refl, sym, ◌∙◌, ap, ap₂, ◌⊎◌}
use Rattle.tcp_segment.specs.Segment.{Segment}
use Rattle.tcp_halves.specs.Stream.{is_new_ack, is_in_window}
use Rattle.tcp_halves.proofs.Choices.{either, by, clash, and_left, and_right, and_false, not_true, or_else}
use Rattle.tcp_state.specs.declared.state.State.{State}
use Rattle.tcp_state.specs.declared.state.State.TheVariants.{SynReceived}
use Rattle.tcp_state.specs.View.{View, is_opening, is_syn_sent, is_syn_received, is_closed}
use Rattle.tcp_state.specs.Arrival.{owing_ack, is_acting_reset, is_acceptable_to, ends_by_syn, is_off, after_ack, is_read_on, after_acceptable_segment, after_segment, is_lost, after_lost, after_heard, is_rejected, is_unused, draws_one, is_opening_syn, asks}
use Rattle.tcp_state.proofs.Segments.{read_tells}
use Rattle.tcp_state.proofs.Guarded.{opening_syn_received, read_is_used, sent_draws_none, opening_asks_none}
use Rattle.tcp_state.proofs.Unchanged.{IsUnsent, unsent}
use Rattle.tcp_state.proofs.AckAnswers.{not_on}
use Rattle.tcp_state.proofs.Resets.{lost_is_read}

-- what isn't read on, past the opening
pub off_owes : (v : View) (ack : ℕ) → is_syn_received v.state ≡ false → is_read_on v ack ≡ false → after_ack v ack ≡ owing_ack v
off_owes v ack past off =
    let P : View → Type 0 = λ w. w ≡ owing_ack v in
    let told = not_on (is_syn_received v.state) (is_new_ack v.sending ack) (is_off v ack) off in
    either View P (is_syn_received v.state) _ _
    (λ received. clash (is_syn_received v.state) received past)
    (λ established. either View P (is_new_ack v.sending ack) _ _
    (λ new. clash (is_new_ack v.sending ack) new told.0)
    (λ old. either View P (is_off v ack) (owing_ack v) v (λ astray. refl) (λ within. clash (is_off v ack) (told.1 past) within)))

-- .. and while it opens: it is rejected
pub unread_receives : (v : View) (ack : ℕ) → is_read_on v ack ≡ false → is_syn_received (after_ack v ack).state ≡ (is_syn_received v.state && not (is_new_ack v.sending ack))
unread_receives v ack off =
    let P : View → Type 0 = λ w. is_syn_received w.state ≡ (is_syn_received v.state && not (is_new_ack v.sending ack)) in
    let told = not_on (is_syn_received v.state) (is_new_ack v.sending ack) (is_off v ack) off in
    let none : (b : Bool) → is_syn_received v.state ≡ b → b ≡ false → is_syn_received v.state ≡ (is_syn_received v.state && not (is_new_ack v.sending ack)) = λ b e f. e ∙ f ∙ sym (ap (λ r. r && not (is_new_ack v.sending ack)) (e ∙ f)) in
    either View P (is_syn_received v.state) _ _
    (λ received. either View P (is_new_ack v.sending ack) _ v
    (λ new. clash (is_new_ack v.sending ack) new told.0)
    (λ old. received ∙ sym (ap₂ (λ r n. r && not n) received old)))
    (λ past. either View P (is_new_ack v.sending ack) _ _
    (λ new. clash (is_new_ack v.sending ack) new told.0)
    (λ old. either View P (is_off v ack) (owing_ack v) v (λ astray. none (is_syn_received v.state) refl past) (λ within. none (is_syn_received v.state) refl past)))

unused_segment : (v : View) (s : Segment) → is_closed v.state ≡ false → is_syn_sent v.state ≡ false → is_unused v s ≡ true → after_segment v s ≡ owing_ack v
unused_segment v s lives past is =
    let P : View → Type 0 = λ w. w ≡ owing_ack v in
    let last = s.flags.ack && not (is_syn_received v.state) in
    let off = not (is_read_on v s.acknowledgement) in
    let plain = if not (is_acceptable_to v s) then true else if s.flags.syn then not (ends_by_syn v s) else last && off in
    let reset = not (is_acting_reset v s) && is_in_window v.receiving s.number in
    either View P (is_closed v.state) v _
    (λ closed. clash (is_closed v.state) closed lives)
    (λ open_yet. either View P s.flags.rst _ _
    (λ rst.
    let tells : reset ≡ true = sym (ap (λ b. if b then reset else plain) rst) ∙ is in
    either View P (is_syn_sent v.state) _ _
    (λ waits. clash (is_syn_sent v.state) waits past)
    (λ past_it. either View P (is_acting_reset v s) _ _
    (λ acts. clash (is_acting_reset v s) acts (not_true (is_acting_reset v s) (and_left (not (is_acting_reset v s)) (is_in_window v.receiving s.number) tells)))
    (λ elsewhere. either View P (is_in_window v.receiving s.number) (owing_ack v) v (λ inside. refl)
    (λ outside. clash (is_in_window v.receiving s.number) (and_right (not (is_acting_reset v s)) (is_in_window v.receiving s.number) tells) outside))))
    (λ no_rst.
    let tells : plain ≡ true = sym (ap (λ b. if b then reset else plain) no_rst) ∙ is in
    either View P (is_syn_sent v.state) _ _
    (λ waits. clash (is_syn_sent v.state) waits past)
    (λ past_it. either View P (is_acceptable_to v s) (after_acceptable_segment v s) (owing_ack v)
    (λ accepted.
    let more : (if s.flags.syn then not (ends_by_syn v s) else last && off) ≡ true = sym (ap (λ b. if not b then true else if s.flags.syn then not (ends_by_syn v s) else last && off) accepted) ∙ tells in
    either View P s.flags.syn _ _
    (λ syn. either View P (ends_by_syn v s) v (owing_ack v)
    (λ ends. clash (ends_by_syn v s) ends (not_true (ends_by_syn v s) (sym (ap (λ b. if b then not (ends_by_syn v s) else last && off) syn) ∙ more)))
    (λ stays. refl))
    (λ no_syn.
    let rest : (last && off) ≡ true = sym (ap (λ b. if b then not (ends_by_syn v s) else last && off) no_syn) ∙ more in
    let not_on_it : is_read_on v s.acknowledgement ≡ false = not_true (is_read_on v s.acknowledgement) (and_right last off rest) in
    let answered : is_syn_received v.state ≡ false = not_true (is_syn_received v.state) (and_right s.flags.ack (not (is_syn_received v.state)) (and_left last off rest)) in
    either View P s.flags.ack _ v
    (λ ack. either View P (is_read_on v s.acknowledgement) _ (after_ack v s.acknowledgement)
    (λ on. clash (is_read_on v s.acknowledgement) on not_on_it)
    (λ unread. off_owes v s.acknowledgement answered not_on_it))
    (λ no_ack. clash s.flags.ack (and_left s.flags.ack (not (is_syn_received v.state)) (and_left last off rest)) no_ack)))
    (λ refused. refl))))

pub unused_owes : (v : View) (s : Segment) → is_closed v.state ≡ false → is_syn_sent v.state ≡ false → is_unused v s ≡ true → after_heard v s ≡ owing_ack v
unused_owes v s lives past is =
    either View (λ w. w ≡ owing_ack v) (is_lost v s) (after_lost v s) (after_segment v s)
    (λ lost. clash (is_unused v s) is (read_is_used v s (read_tells v s (lost_is_read v s lost))))
    (λ kept. unused_segment v s lives past is)

-- one that draws an acknowledgement on guard, past SYN-SENT, where none was owed
pub record Draws (v : View) (s : Segment) : Type 0 where
  pub free : v.owes_ack ≡ false
  pub past : is_syn_sent v.state ≡ false
  pub unused : (is_unused v s ≡ true) ⊎ (asks v s ≡ true)

pub drawing_tells : (v : View) (s : Segment) → draws_one v s ≡ true → Draws v s
drawing_tells v s is =
    let one = v.guard.on && not v.owes_ack in
    let two = one && not (is_syn_sent v.state) in
    let first = and_left two (is_unused v s || asks v s) is in
    record {
      free = not_true v.owes_ack (and_right v.guard.on (not v.owes_ack) (and_left one (not (is_syn_sent v.state)) first));
      past = not_true (is_syn_sent v.state) (and_right one (not (is_syn_sent v.state)) first);
      unused = or_else (is_unused v s) (asks v s) (and_right two (is_unused v s || asks v s) is);
    }

-- and so is the SYN that opened it
received_past : (t : State) → is_syn_received t ≡ true → (is_syn_sent t ≡ false) × (is_closed t ≡ false) × (is_opening t ≡ true)
received_past SynReceived e = (refl, refl, refl)
received_past _ e = cc

pub record Asks (v : View) (s : Segment) : Type 0 where
  pub heard : after_heard v s ≡ owing_ack v
  pub opens : is_opening v.state ≡ true
  pub lives : is_closed v.state ≡ false
  pub taken : is_rejected v s ≡ false

pub asking_owes : (v : View) (s : Segment) → is_opening_syn v s ≡ true → Asks v s
asking_owes v s is =
    let zero = v.passive && is_syn_received v.state && s.flags.syn in
    let one = zero && not s.flags.ack in
    let two = one && not s.flags.rst in
    let three = two && not (is_acceptable_to v s) in
    let outside = and_left three _ is in
    let no_rst : s.flags.rst ≡ false = not_true s.flags.rst (and_right one (not s.flags.rst) (and_left two (not (is_acceptable_to v s)) outside)) in
    let refused : is_acceptable_to v s ≡ false = not_true (is_acceptable_to v s) (and_right two (not (is_acceptable_to v s)) outside) in
    let p = received_past v.state (opening_syn_received v s is) in
    let last = if s.flags.syn then not (ends_by_syn v s) else s.flags.ack && not (is_syn_received v.state) && not (is_read_on v s.acknowledgement) in
    let unused : is_unused v s ≡ true = ap (λ b. if b then not (is_acting_reset v s) && is_in_window v.receiving s.number else if not (is_acceptable_to v s) then true else last) no_rst ∙ ap (λ b. if not b then true else last) refused in
    let no_ack : s.flags.ack ≡ false = not_true s.flags.ack (and_right zero (not s.flags.ack) (and_left one (not s.flags.rst) (and_left two (not (is_acceptable_to v s)) outside))) in
    record {
      heard = unused_owes v s p.1 p.0 unused;
      opens = p.2;
      lives = p.1;
      taken = ap (λ a. not s.flags.rst && a && not (is_new_ack v.sending s.acknowledgement) && (is_syn_sent v.state || (is_syn_received v.state && is_acceptable_to v s && not s.flags.syn))) no_ack
          ∙ ap (λ b. b && not (is_new_ack v.sending s.acknowledgement) && (is_syn_sent v.state || (is_syn_received v.state && is_acceptable_to v s && not s.flags.syn))) (and_false (not s.flags.rst));
    }

-- What is rejected draws none.
pub unsent_used : (v : View) (s : Segment) → is_syn_sent v.state ≡ false → IsUnsent v s → is_unused v s ≡ false
unsent_used v s past u =
    let r = u.received past in
    let last = s.flags.ack && not (is_syn_received v.state) && not (is_read_on v s.acknowledgement) in
    ap (λ b. if b then not (is_acting_reset v s) && is_in_window v.receiving s.number else if not (is_acceptable_to v s) then true else if s.flags.syn then not (ends_by_syn v s) else last) u.no_rst
    ∙ (ap (λ b. if not b then true else if s.flags.syn then not (ends_by_syn v s) else last) r.1
    ∙ (ap (λ b. if b then not (ends_by_syn v s) else last) r.2
    ∙ (ap (λ b. s.flags.ack && not b && not (is_read_on v s.acknowledgement)) r.0 ∙ ap (λ b. b && not (is_read_on v s.acknowledgement)) (and_false s.flags.ack))))

pub rejected_draws_none : (v : View) (s : Segment) → is_rejected v s ≡ true → draws_one v s ≡ false
rejected_draws_none v s rejected = by (draws_one v s ≡ false) (is_syn_sent v.state) (sent_draws_none v s)
    (λ past. let one = v.guard.on && not v.owes_ack && not (is_syn_sent v.state) in
    let opening = received_opens v.state ((unsent v s rejected).received past).0 in
    ap₂ (λ b c. one && (b || c)) (unsent_used v s past (unsent v s rejected)) (opening_asks_none v s opening) ∙ and_false one)
  where
    received_opens : (t : State) → is_syn_received t ≡ true → is_opening t ≡ true
    received_opens SynReceived e = refl
    received_opens _ e = cc
