-- Which segments move the streams of the connection that hears them.
use Rattle.std.proofs.Common.{◌≡◌, ◌⊎◌, inl, inr, ℕ, ◌==◌, ◌&&◌, ◌||◌, not, Bool, true, false, if◌then◌else◌, refl, sym, ◌∙◌, ap, subst, arith}
use Rattle.clock.specs.declared.moment.Moment.{Moment}
use Rattle.tcp_segment.specs.Segment.{Segment}
use Rattle.tcp_halves.specs.Stream.{is_new_ack, is_in_window}
use Rattle.tcp_halves.proofs.Choices.{either, by, clash, and_left, and_right}
use Rattle.tcp_state.specs.declared.connection.Fate.TheVariants.{Stays, Removed, Rejected}
use Rattle.tcp_state.specs.Arrival.{owing_ack, is_acceptable_to, is_acting_reset, ends_opening, is_receiving, is_read_on, is_off, brings_more, after_ack, after_segment, after_lost, after_heard, is_lost, is_rejected, before, timed_by, after_segment_at, fate}
use Rattle.tcp_state.specs.declared.state.State.{State}
use Rattle.tcp_state.specs.View.{View, is_closed, is_syn_sent, is_syn_received, is_over}
use Rattle.sockets.specs.Entries.{is_kept}
use Rattle.host_law.specs.Apart.{KeepsStreams}

-- What moves them: past SYN-SENT an acceptable segment, which is a reset at RCV.NXT, or a SYN that ends what a listener opened, or acknowledges nothing that was not sent; in SYN-SENT a SYN
-- that acknowledges ours, where it has an acknowledgement, or a reset that does.
pub data Reaches (v : View) (s : Segment) : Type 0 where
  resets : is_syn_sent v.state ≡ false → is_acceptable_to v s ≡ true → s.flags.rst ≡ true → (s.number == v.receiving.rnext) ≡ true → Reaches v s
  going : is_syn_sent v.state ≡ false → is_acceptable_to v s ≡ true → s.flags.rst ≡ false → s.flags.syn ≡ true → v.passive ≡ true → is_syn_received v.state ≡ true → Reaches v s
  acknowledges : is_syn_sent v.state ≡ false → is_acceptable_to v s ≡ true → s.flags.rst ≡ false → s.flags.syn ≡ false → s.flags.ack ≡ true → is_read_on v s.acknowledgement ≡ true → Reaches v s
  opens : is_syn_sent v.state ≡ true → s.flags.rst ≡ false → s.flags.syn ≡ true → (s.flags.ack ≡ true → is_new_ack v.sending s.acknowledgement ≡ true) → Reaches v s
  refuses : is_syn_sent v.state ≡ true → s.flags.rst ≡ true → s.flags.ack ≡ true → is_new_ack v.sending s.acknowledgement ≡ true → Reaches v s

-- any other leaves them, and the connection its place
pub record Leaves (v : View) (s : Segment) (now : Moment) : Type 0 where
  pub streams : KeepsStreams v (after_segment_at v s now)
  pub place : is_kept (fate v s) ≡ true

-- at most an acknowledgement is owed
data Owes (v : View) : View → Type 0 where
  nothing : Owes v v
  an_ack : Owes v (owing_ack v)

-- the clock moves nothing of them
timed : (v w : View) (s : Segment) (now : Moment) → Owes v w → KeepsStreams v (timed_by (before v s) w now)
timed v _ s now nothing = record { state = refl; sending = refl; receiving = refl; error = refl; reset = refl; released = refl }
timed v _ s now an_ack = record { state = refl; sending = refl; receiving = refl; error = refl; reset = refl; released = refl }

goes_on : (v w : View) → Owes v w → is_closed v.state ≡ false → is_over w ≡ false
goes_on v _ nothing live = rw live refl
goes_on v _ an_ack live = rw live refl

has_place : (stays over rejected goes : Bool) → over ≡ false → goes ≡ false → is_kept (if stays then Stays else if over then Removed else if rejected then Rejected else if goes then Removed else Stays) ≡ true
has_place true over rejected goes o e = refl
has_place false true rejected goes o e = cc
has_place false false true goes o e = refl
has_place false false false true o e = cc
has_place false false false false o e = refl

leaves : (v : View) (s : Segment) (now : Moment) → is_closed v.state ≡ false → is_lost v s ≡ false → ends_opening v s ≡ false → Owes v (after_segment v s) → Leaves v s now
leaves v s now live unused goes owes =
    let heard : Owes v (after_heard v s) = subst (λ b. Owes v (if b then after_lost v s else after_segment v s)) (sym unused) owes in
    record {
      streams = either View (KeepsStreams v) (is_closed v.state || is_rejected v s) v (timed_by (before v s) (after_heard v s) now)
          (λ same. record { state = refl; sending = refl; receiving = refl; error = refl; reset = refl; released = refl })
          (λ heeds. timed v (after_heard v s) s now heard);
      place = has_place (is_closed v.state || is_lost v s) (is_over (after_segment v s)) (is_rejected v s) (ends_opening v s) (goes_on v (after_segment v s) owes live) goes;
    }

-- Nothing is lost by a segment that isn't read, nor in SYN-SENT.
unlost : (left receives rst acceptable syn ack on more : Bool) → (receives ≡ false) ⊎ ((rst ≡ true) ⊎ ((acceptable ≡ false) ⊎ ((syn ≡ true) ⊎ ((ack ≡ false) ⊎ (on ≡ false)))))
    → (left && receives && (not rst && acceptable && not syn && ack && on) && more) ≡ false
unlost false receives rst acceptable syn ack on more e = refl
unlost true false rst acceptable syn ack on more e = refl
unlost true true true acceptable syn ack on more e = refl
unlost true true false false syn ack on more e = refl
unlost true true false true true ack on more e = refl
unlost true true false true false false on more e = refl
unlost true true false true false true false more e = refl
unlost true true false true false true true more (inl e) = cc
unlost true true false true false true true more (inr (inl e)) = cc
unlost true true false true false true true more (inr (inr (inl e))) = cc
unlost true true false true false true true more (inr (inr (inr (inl e)))) = cc
unlost true true false true false true true more (inr (inr (inr (inr (inl e))))) = cc
unlost true true false true false true true more (inr (inr (inr (inr (inr e))))) = cc

opening_receives : (t : State) → is_syn_sent t ≡ true → is_receiving t ≡ false
opening_receives t sent = grind (arith)

-- what the acknowledgement of an unread one makes of it
acked : (v : View) (ack : ℕ) → is_read_on v ack ≡ false → Owes v (after_ack v ack)
acked v ack off =
    by (Owes v (after_ack v ack)) (is_syn_received v.state)
    (λ received. let old : is_new_ack v.sending ack ≡ false = sym (ap (λ b. if b then is_new_ack v.sending ack else is_new_ack v.sending ack || not (is_off v ack)) received) ∙ off in rw (received, old) nothing)
    (λ past. let old : (is_new_ack v.sending ack || not (is_off v ack)) ≡ false = sym (ap (λ b. if b then is_new_ack v.sending ack else is_new_ack v.sending ack || not (is_off v ack)) past) ∙ off in
    by (Owes v (after_ack v ack)) (is_new_ack v.sending ack)
    (λ new. clash (is_new_ack v.sending ack || not (is_off v ack)) (rw new refl) old)
    (λ not_new. by (Owes v (after_ack v ack)) (is_off v ack) (λ is. rw (past, not_new, is) an_ack) (λ none. rw (past, not_new, none) nothing)))

pub hears : (v : View) (s : Segment) (now : Moment) → is_closed v.state ≡ false → Reaches v s ⊎ Leaves v s now
hears v s now live =
    let R : Type 0 = Reaches v s ⊎ Leaves v s now in
    let unused = unlost v.released (is_receiving v.state) s.flags.rst (is_acceptable_to v s) s.flags.syn s.flags.ack (is_read_on v s.acknowledgement) (brings_more v s) in
    by R s.flags.rst
    (λ rst. by R (is_syn_sent v.state)
    (λ sent. by R (s.flags.ack && is_new_ack v.sending s.acknowledgement)
    (λ acts. inl (refuses sent rst (and_left s.flags.ack _ acts) (and_right s.flags.ack _ acts)))
    (λ other. inr (leaves v s now live (unused (inr (inl rst))) (rw sent refl) (rw (live, rst, sent, other) nothing))))
    (λ past. by R (is_acting_reset v s)
    (λ acts. inl (resets past (and_left (is_acceptable_to v s) _ acts) rst (and_right (is_acceptable_to v s) _ acts)))
    (λ other. inr (leaves v s now live (unused (inr (inl rst))) (rw (past, rst, other) refl)
    (by (Owes v (after_segment v s)) (is_in_window v.receiving s.number) (λ within. rw (live, rst, past, other, within) an_ack) (λ outside. rw (live, rst, past, other, outside) nothing))))))
    (λ no_rst. by R (is_syn_sent v.state)
    (λ sent.
    let kept = unused (inl (opening_receives v.state sent)) in
    let stays : ends_opening v s ≡ false = rw sent refl in
    by R s.flags.syn
    (λ syn. by R s.flags.ack
    (λ ack. by R (is_new_ack v.sending s.acknowledgement)
    (λ new. inl (opens sent no_rst syn (λ acks. new)))
    (λ old. inr (leaves v s now live kept stays (rw (live, no_rst, sent, syn, ack, old) nothing))))
    (λ no_ack. inl (opens sent no_rst syn (λ acks. clash s.flags.ack acks no_ack))))
    (λ no_syn. inr (leaves v s now live kept stays (rw (live, no_rst, sent, no_syn) nothing))))
    (λ past. by R (is_acceptable_to v s)
    (λ acceptable. by R s.flags.syn
    (λ syn. by R (v.passive && is_syn_received v.state)
    (λ goes. inl (going past acceptable no_rst syn (and_left v.passive (is_syn_received v.state) goes) (and_right v.passive (is_syn_received v.state) goes)))
    (λ stays. inr (leaves v s now live (unused (inr (inr (inr (inl syn))))) (rw (past, no_rst, acceptable, syn, stays) refl) (rw (live, no_rst, past, acceptable, syn, stays) an_ack))))
    (λ no_syn.
    let stays : ends_opening v s ≡ false = rw (past, no_rst, acceptable, no_syn) refl in
    by R s.flags.ack
    (λ ack. by R (is_read_on v s.acknowledgement)
    (λ on. inl (acknowledges past acceptable no_rst no_syn ack on))
    (λ off. inr (leaves v s now live (unused (inr (inr (inr (inr (inr off)))))) stays (rw (live, no_rst, past, acceptable, no_syn, ack, off) (acked v s.acknowledgement off)))))
    (λ no_ack. inr (leaves v s now live (unused (inr (inr (inr (inr (inl no_ack)))))) stays (rw (live, no_rst, past, acceptable, no_syn, no_ack) nothing)))))
    (λ refused. inr (leaves v s now live (unused (inr (inr (inl refused)))) (rw (past, no_rst, refused) refl) (rw (live, no_rst, past, refused) an_ack)))))
