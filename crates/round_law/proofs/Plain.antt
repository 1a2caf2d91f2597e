-- What goes out of an open connection that has not closed its side, and what that leaves of it.
use Rattle.std.proofs.Common.{◌≡◌, ℕ, ◌+◌, ◌%◌, ◌^◌, ◌≤◌, nat_le, Bool, true, false, Some, arith, refl, ap}
use Rattle.std.proofs.lemmas.Bool.{leb-true}
use Rattle.clock.specs.declared.moment.Moment.{Moment}
use Rattle.tcp_segment.specs.Segment.{Segment}
use Rattle.tcp_segment.specs.Wire.{past}
use Rattle.tcp_halves.specs.Halves.{Sending}
use Rattle.tcp_halves.specs.Stream.{outstanding, after_sent}
use Rattle.tcp_halves.proofs.Choices.{either, clash}
use Rattle.tcp_state.specs.declared.emission.Due.{Due}
use Rattle.tcp_state.specs.declared.emission.Due.TheVariants.{Rst, Syn, Text, Probe, Ack, KeepAlive}
use Rattle.tcp_state.specs.View.{View, IsSound, is_opening, is_syn_received, is_closed, awaits_fin_ack}
use Rattle.tcp_state.specs.Due.{MayGoOut, probe_stretch, end_of, first_due, after_syn_ack_paid, after_syn_out, after_emitted}
use Rattle.tcp_state.specs.Edges.{Event, after_first, after_event}
use Rattle.tcp_state.specs.Progress.{IsOrdinary}
use Rattle.tcp_state.specs.Said.{segment_of}
use Rattle.tcp_state.proofs.Emissions.{syn_sends, stretch_sends, probe_sends}
use Rattle.tcp_state.proofs.GoesOut.{due-may}
use Rattle.tcp_state.proofs.ResetAges.{live}

-- a segment without RST, SYN and FIN, from its ends, which acknowledges all that came in order
pub record IsPlain (v : View) (s : Segment) : Type 0 where
  pub ordinary : IsOrdinary s
  pub no_fin : s.flags.fin ≡ false
  pub acknowledgement : s.acknowledgement ≡ v.receiving.rnext
  pub source : s.source ≡ v.local.port
  pub destination : s.destination ≡ v.peer.port

no_fin_of : (fin awaits : Bool) → (fin ≡ true → awaits ≡ true) → awaits ≡ false → fin ≡ false
no_fin_of true awaits says none = clash awaits (says refl) none
no_fin_of false awaits says none = refl

may_say : (v : View) (due : Due) → IsSound v → is_closed v.state ≡ false → is_opening v.state ≡ false → awaits_fin_ack v.state ≡ false → MayGoOut v due → IsPlain v (segment_of v due)
may_say v Rst sound lives past open_ may = clash v.owes_reset may (live v sound lives)
may_say v Syn sound lives past open_ may = clash (is_opening v.state) may past
may_say v (Text stretch) sound lives past open_ may = record { ordinary = record { ack = refl; no_rst = refl; no_syn = refl }; no_fin = no_fin_of stretch.fin (awaits_fin_ack v.state) (λ fin. (may.fin fin).0) open_; acknowledgement = refl; source = refl; destination = refl }
may_say v Probe sound lives past open_ may =
    record { ordinary = record { ack = refl; no_rst = refl; no_syn = refl }; no_fin = no_fin_of (let t = probe_stretch v in t.fin) (awaits_fin_ack v.state) (λ fin. (may.fin fin).0) open_; acknowledgement = refl; source = refl; destination = refl }
may_say v Ack sound lives past open_ may = record { ordinary = record { ack = refl; no_rst = refl; no_syn = refl }; no_fin = refl; acknowledgement = refl; source = refl; destination = refl }
may_say v KeepAlive sound lives past open_ may = record { ordinary = record { ack = refl; no_rst = refl; no_syn = refl }; no_fin = refl; acknowledgement = refl; source = refl; destination = refl }

pub says_plainly : (v : View) (due : Due) → IsSound v → is_closed v.state ≡ false → is_opening v.state ≡ false → awaits_fin_ack v.state ≡ false → first_due v ≡ Some due → IsPlain v (segment_of v due)
says_plainly v due sound lives past open_ first = may_say v due sound lives past open_ (due-may v due sound first)

-- As many numbers are outstanding, or more.

sent_grows : (t : Sending) (count : ℕ) → outstanding t ≤ outstanding (after_sent t count)
sent_grows t count =
    let end = (t.una + count) % 2 ^ 32 in
    either ℕ (λ n. past t.nxt t.una ≤ past n t.una) (nat_le (past t.nxt t.una) (past end t.una)) end t.nxt (λ later. leb-true (past t.nxt t.una) (past end t.una) later) (λ earlier. omega arith)

grows_by : (t u : Sending) (count : ℕ) → u ≡ after_sent t count → outstanding t ≤ outstanding u
grows_by t u count is = let out : outstanding u ≡ outstanding (after_sent t count) = ap outstanding is in omega (arith, out, sent_grows t count)

emitted_grows : (v : View) (due : Due) (now : Moment) → outstanding v.sending ≤ outstanding (after_emitted v due now).sending
emitted_grows v Rst now = omega arith
emitted_grows v Syn now = either View (λ w. outstanding v.sending ≤ outstanding w.sending) (is_syn_received v.state) (after_syn_ack_paid (after_syn_out v now)) (after_syn_out v now)
    (λ received. grows_by v.sending (after_syn_out v now).sending 1 (syn_sends v now)) (λ first. grows_by v.sending (after_syn_out v now).sending 1 (syn_sends v now))
emitted_grows v (Text stretch) now = grows_by v.sending (after_emitted v (Text stretch) now).sending (end_of stretch) (stretch_sends v stretch now)
emitted_grows v Probe now = let count = end_of (probe_stretch v) in
    let out : outstanding (after_emitted v Probe now).sending ≡ outstanding (after_sent v.sending count) = ap outstanding (probe_sends v) in omega (arith, out, sent_grows v.sending count)
emitted_grows v Ack now = omega arith
emitted_grows v KeepAlive now = omega arith

pub out_grows : (v : View) (due : Due) (now : Moment) → first_due v ≡ Some due → outstanding v.sending ≤ outstanding (after_event v (Event.Emits now)).sending
out_grows v due now first = let same : outstanding (after_event v (Event.Emits now)).sending ≡ outstanding (after_emitted v due now).sending = ap (λ o. outstanding (after_first v o now).sending) first in omega (arith, same, emitted_grows v due now)
