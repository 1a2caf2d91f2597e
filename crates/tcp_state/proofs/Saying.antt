-- Why each segment that goes out says what is so.
use Rattle.std.proofs.Common.{◌≡◌, ℕ, ◌+◌, ◌-◌, ◌*◌, ◌/◌, ◌%◌, ◌^◌, ◌<◌, ◌≤◌, ◌==◌, ◌&&◌, not, nat_lt, nat_le, min, if◌then◌else◌, Bool, true, false, List, [], ◌∷◌, ◌++◌, length, take, drop, Some, inl, inr, arith, refl, sym, ◌∙◌, ap}
use Rattle.std.specs.Prelude.{slice_get}
use Rattle.std.proofs.lemmas.List.{length-drop, length-take, get_or-take, get_or-drop}
use Rattle.std.proofs.lemmas.Option.{slice_get-get_or}
use Rattle.std.proofs.Math.Nat.{div-le_of_le-mul}
use Rattle.std.proofs.lemmas.Bool.Decides.{eqb_tells}
use Rattle.std.proofs.lemmas.Bool.{lt-ltb, ltb-true, eq-eqb, eqb-true, le-leb}
use Rattle.tcp_segment.specs.Segment.{Spells}
use Rattle.tcp_segment.specs.Options.{NoOperation, MaximumSegmentSize, WindowScale}
use Rattle.tcp_segment.specs.Sent.{CanBeSent, permission, report, sent_segment}
use Rattle.tcp_segment.specs.Wire.{wire, past}
use Rattle.tcp_segment.proofs.Checksum.{sent_spelled}
use Rattle.clock.specs.declared.moment.Moment.{Moment}
use Rattle.tcp_state.specs.declared.emission.Due.{Due}
use Rattle.tcp_state.specs.declared.emission.Due.TheVariants.{Rst, Syn, Text, Probe, Ack, KeepAlive}
use Rattle.tcp_state.specs.declared.emission.Stretch.{Stretch}
use Rattle.tcp_state.specs.declared.state.State.{State}
use Rattle.tcp_state.specs.declared.state.State.TheVariants.{SynSent, SynReceived}
use Rattle.tcp_halves.specs.Halves.{Receiving}
use Rattle.tcp_halves.specs.Stream.{receive_window}
use Rattle.tcp_halves.specs.Windows.{has_grown, after_advertisement, window_field, syn_window, after_syn_advertisement}
use Rattle.tcp_halves.proofs.Choices.{either, clash, and_left, and_right, both}
use Rattle.tcp_halves.proofs.Keeping.{IsKeeping, advertisement_keeps}
use Rattle.tcp_state.specs.View.{View, IsSound, is_opening, is_syn_sent, is_syn_received}
use Rattle.tcp_state.specs.Due.{IsHeld, MayGoOut, probe_stretch, flags_of, flags_of_stretch, number_of, window_of, head_of, octets_of, octets_of_stretch, segment_octets, after_syn_out, after_stretch, after_probe, after_ack_paid, after_syn_ack_paid, after_emitted}
use Rattle.tcp_state.specs.Said.{segment_of, IsSo, scale_offer, sack_offer}
use Rattle.tcp_state.proofs.BlocksTold.{blocks_fit, reported_in}
use Rattle.tcp_state.proofs.Sizes.{emitted_short}
use Rattle.tcp_state.proofs.Sound.{sound_keeping}
use Rattle.tcp_state.proofs.AckNumbers.{bare_fits}
use Rattle.tcp_state.proofs.Clocked.{syn_out}
use Rattle.tcp_state.proofs.Emissions.{numbers_receive, stretch_receives, probe_receives}

-- The octets of a stretch.

stretch_len : (v : View) (stretch : Stretch) → IsHeld v stretch → length (octets_of_stretch v stretch) ≡ stretch.count
stretch_len v stretch held =
    let l = v.sending.held in
    length-take stretch.count (drop stretch.offset l) ∙ (ap (min stretch.count) (length-drop stretch.offset l) ∙ omega (arith, held.held))

octet_at : (l : List ℕ) (offset count i : ℕ) → offset + count ≤ length l → i < count → slice_get (take count (drop offset l)) i ≡ slice_get l (offset + i)
octet_at l offset count i within below =
    let rest = drop offset l in
    let left : length rest ≡ length l - offset = length-drop offset l in
    let len : length (take count rest) ≡ min count (length rest) = length-take count rest in
    slice_get-get_or (take count rest) i 0 (omega (arith, len, left, within, below))
    ∙ ap Some (get_or-take count rest i 0 below ∙ get_or-drop offset l i 0)
    ∙ sym (slice_get-get_or l (offset + i) 0 (omega (arith, within, below)))

-- The window that is told.

edge_kept : (r : Receiving) → window_field (after_advertisement r) ≡ past (after_advertisement r).edge r.rnext / r.unit
edge_kept r = either Receiving (λ x. window_field x ≡ past x.edge r.rnext / r.unit) (has_grown r) _ r (λ grown. refl) (λ small. refl)

field_small : (r : Receiving) → IsKeeping r → window_field r < 2 ^ 16
field_small r is =
    let few : receive_window r ≤ r.unit * 65535 = omega (arith, is.fits, is.told) in
    let least = div-le_of_le-mul r.unit few in
    omega (arith, least)

window_small : (v : View) → IsSound v → window_field (after_advertisement v.receiving) < 2 ^ 16
window_small v sound = field_small (after_advertisement v.receiving) (advertisement_keeps v.receiving (sound_keeping v sound))

told : (v w : View) (edge : ℕ) → w.receiving ≡ v.receiving → edge ≡ (after_ack_paid w).receiving.edge → window_field (after_advertisement v.receiving) ≡ past edge v.receiving.rnext / v.receiving.unit
told v w edge same is = edge_kept v.receiving ∙ ap (λ n. past n v.receiving.rnext / v.receiving.unit) (sym (is ∙ ap (λ (r : Receiving). (after_advertisement r).edge) same))

-- .. and with a SYN, in octets
syn_edge_kept : (r : Receiving) → receive_window (after_syn_advertisement r) ≡ past (after_syn_advertisement r).edge r.rnext
syn_edge_kept r = either Receiving (λ x. receive_window x ≡ past x.edge r.rnext) (nat_le (receive_window r + 1460) (syn_window r)) _ r (λ grown. refl) (λ small. refl)

syn_told : (v w : View) (edge : ℕ) → w.receiving ≡ v.receiving → edge ≡ (after_syn_ack_paid w).receiving.edge
    → min (receive_window (after_syn_advertisement v.receiving)) 65535 ≡ min (past edge v.receiving.rnext) 65535
syn_told v w edge same is =
    ap (λ n. min n 65535) (syn_edge_kept v.receiving ∙ ap (λ n. past n v.receiving.rnext) (sym (is ∙ ap (λ (r : Receiving). (after_syn_advertisement r).edge) same)))

-- the window of a SYN alone: nothing was advertised or read yet
pub first_told : (r : Receiving) → r.rnext < 2 ^ 32 → receive_window r ≡ 0 → length r.readable ≡ 0 → 1460 ≤ r.size → min (receive_window (after_syn_advertisement r)) 65535 ≡ min r.size 65535
first_told r small shut empty wide =
    let has : nat_le (receive_window r + 1460) (syn_window r) ≡ true = le-leb (receive_window r + 1460) (syn_window r) (omega (arith, shut, empty, wide)) in
    ap (λ b. let t = if b then record r { edge = (r.rnext + syn_window r) % 2 ^ 32 } else r in min (receive_window t) 65535) has ∙ omega (arith, small, empty)

sent_alone : (t : State) → is_opening t ≡ true → is_syn_received t ≡ false → t ≡ SynSent
sent_alone SynSent opening waits = refl
sent_alone SynReceived opening waits = cc
sent_alone _ opening waits = cc

not_false : (b : Bool) → not b ≡ false → b ≡ true
not_false true e = refl
not_false false e = cc

pub shut_at_first : (size : ℕ) (t : State) (window readable : ℕ) → t ≡ SynSent → (is_syn_sent t && not (window == 0)) ≡ false → readable ≤ (if is_opening t then 0 else size) → (window ≡ 0) × (readable ≡ 0)
shut_at_first size SynSent window readable e unheard few = (elim (eqb_tells window 0) [ inl t ↦ t.1 | inr t ↦ clash (window == 0) (not_false (window == 0) unheard) t.0 ], omega (arith, few))
shut_at_first size _ window readable e unheard few = cc

-- a probe begins at SND.UNA
from_una : (v : View) → (probe_stretch v).offset ≡ 0
from_una v = either Stretch (λ t. t.offset ≡ 0) (length v.sending.held == 0) (record { offset = 0; count = 0; fin = true }) (record { offset = 0; count = 1; fin = false }) (λ empty. refl) (λ some. refl)

at_una : (v : View) → IsSound v → v.sending.una ≡ wire v.sending.una (probe_stretch v).offset
at_una v sound = let first = from_una v in omega (arith, sound.una, first)

-- What each says.

so_stretch : (v : View) (stretch : Stretch) (number edge : ℕ) → IsSound v → IsHeld v stretch → number ≡ wire v.sending.una stretch.offset
    → window_field (after_advertisement v.receiving) ≡ past edge v.receiving.rnext / v.receiving.unit
    → IsSo v edge (sent_segment (record {
      source = v.local.port;
      destination = v.peer.port;
      number = record { 0 = number };
      acknowledgement = record { 0 = v.receiving.rnext };
      flags = flags_of_stretch v stretch;
      window = window_field (after_advertisement v.receiving);
      scales = false;
      sacks = false;
      blocks = [];
    }) (octets_of_stretch v stretch))
so_stretch v stretch number edge sound held is window =
    let l = v.sending.held in
    let len = stretch_len v stretch held in
    let place : past number v.sending.una ≡ stretch.offset = omega (arith, is, sound.una, held.joined) in
    let last = stretch.offset + stretch.count == length l in
    record {
      source = refl;
      destination = refl;
      octets = λ i below. octet_at l stretch.offset stretch.count i held.held (omega (arith, below, len)) ∙ ap (λ n. slice_get l (n + i)) (sym place);
      fin = λ ends. let all = (held.fin ends).1 in omega (arith, is, len, all);
      psh = (
        (λ psh. let some = ltb-true 0 stretch.count (and_left (nat_lt 0 stretch.count) last psh) in
            let end = eqb-true (stretch.offset + stretch.count) (length l) (and_right (nat_lt 0 stretch.count) last psh) in
            (omega (arith, len, some), omega (arith, len, place, end))),
        (λ p. let some = p.0 in let end = p.1 in
            both (nat_lt 0 stretch.count) last (lt-ltb 0 stretch.count (omega (arith, len, some))) (eq-eqb (stretch.offset + stretch.count) (length l) (omega (arith, len, place, end)))),
      );
      acknowledgement = λ acks. refl;
      window = λ plain acks. window;
      syn_window = λ syn acks. cc;
      unacknowledging = λ none. cc;
      first = λ syn none. cc;
      syn = λ syn. cc;
      plain = λ none. refl;
      rst = λ rst. cc;
      small = window_small v sound;
      urgent = refl;
    }

-- both offers, one behind the other
offers : (scales sacks : Bool) → MaximumSegmentSize 1460 ∷ (if scales then NoOperation ∷ WindowScale 5 ∷ permission sacks else permission sacks) ≡ MaximumSegmentSize 1460 ∷ (scale_offer scales ++ sack_offer sacks)
offers true sacks = refl
offers false sacks = refl

so_syn : (v : View) (now : Moment) → IsSound v → is_opening v.state ≡ true → IsSo v (after_emitted v Syn now).receiving.edge (segment_of v Syn)
so_syn v now sound opening =
    let r = v.receiving in
    let sent = after_syn_out v now in
    let same : sent.receiving ≡ r = syn_out v now (λ w. w.receiving ≡ r) (numbers_receive v 0 1 now) (numbers_receive v 0 1 now) in
    record {
      source = refl;
      destination = refl;
      octets = λ i below. absurd (omega (arith, below));
      fin = λ ends. cc;
      psh = ((λ psh. cc), (λ p. let some = p.0 in absurd (omega (arith, some))));
      acknowledgement = λ acks. ap (λ b. if b then r.rnext else 0) acks;
      window = λ plain acks. cc;
      syn_window = λ syn acks. syn_told v sent (after_emitted v Syn now).receiving.edge same (ap (λ b. let w = if b then after_syn_ack_paid sent else sent in w.receiving.edge) acks);
      unacknowledging = λ none. ap (λ b. if b then r.rnext else 0) none;
      first = λ syn none. let shut = shut_at_first v.receiving.size v.state (receive_window r) (length r.readable) (sent_alone v.state opening none) sound.untold sound.readable in
          first_told r sound.rnext shut.0 shut.1 sound.terms.receive_least;
      syn = λ syn. (refl, refl, offers v.scales v.reporting.sacks);
      plain = λ none. cc;
      rst = λ rst. cc;
      small = omega arith;
      urgent = refl;
    }

pub says_what_is_so : (v : View) (due : Due) (now : Moment) → IsSound v → MayGoOut v due → IsSo v (after_emitted v due now).receiving.edge (segment_of v due)
says_what_is_so v Rst now sound may = record {
  source = refl;
  destination = refl;
  octets = λ i below. absurd (omega (arith, below));
  fin = λ ends. cc;
  psh = ((λ psh. cc), (λ p. let some = p.0 in absurd (omega (arith, some))));
  acknowledgement = λ acks. cc;
  window = λ plain acks. cc;
  syn_window = λ syn acks. cc;
  unacknowledging = λ none. refl;
  first = λ syn none. cc;
  syn = λ syn. cc;
  plain = λ none. refl;
  rst = λ rst. (refl, refl, refl);
  small = omega arith;
  urgent = refl;
}
says_what_is_so v Syn now sound may = so_syn v now sound may
says_what_is_so v (Text stretch) now sound may =
    so_stretch v stretch (wire v.sending.una stretch.offset) (after_emitted v (Text stretch) now).receiving.edge sound may refl (told v (after_stretch v stretch now) (after_emitted v (Text stretch) now).receiving.edge (stretch_receives v stretch now) refl)
says_what_is_so v Probe now sound may =
    so_stretch v (probe_stretch v) v.sending.una (after_emitted v Probe now).receiving.edge sound may (at_una v sound) (told v (after_probe v) (after_emitted v Probe now).receiving.edge (probe_receives v) refl)
says_what_is_so v Ack now sound may = record {
  source = refl;
  destination = refl;
  octets = λ i below. absurd (omega (arith, below));
  fin = λ ends. cc;
  psh = ((λ psh. cc), (λ p. let some = p.0 in absurd (omega (arith, some))));
  acknowledgement = λ acks. refl;
  window = λ plain acks. told v v (after_emitted v Ack now).receiving.edge refl refl;
  syn_window = λ syn acks. cc;
  unacknowledging = λ none. cc;
  first = λ syn none. cc;
  syn = λ syn. cc;
  plain = λ none. ap report (sym (reported_in v Ack refl));
  rst = λ rst. cc;
  small = window_small v sound;
  urgent = refl;
}
says_what_is_so v KeepAlive now sound may = record {
  source = refl;
  destination = refl;
  octets = λ i below. absurd (omega (arith, below));
  fin = λ ends. cc;
  psh = ((λ psh. cc), (λ p. let some = p.0 in absurd (omega (arith, some))));
  acknowledgement = λ acks. refl;
  window = λ plain acks. told v v (after_emitted v KeepAlive now).receiving.edge refl refl;
  syn_window = λ syn acks. cc;
  unacknowledging = λ none. cc;
  first = λ syn none. cc;
  syn = λ syn. cc;
  plain = λ none. refl;
  rst = λ rst. cc;
  small = window_small v sound;
  urgent = refl;
}

-- The octets that go out spell it.

number_fits : (v : View) (due : Due) → IsSound v → number_of v due < 2 ^ 32
number_fits v Rst sound = bare_fits v sound
number_fits v Syn sound = sound.una
number_fits v (Text stretch) sound = omega arith
number_fits v Probe sound = sound.una
number_fits v Ack sound = bare_fits v sound
number_fits v KeepAlive sound = omega arith

pub window_fits : (v : View) (due : Due) → IsSound v → window_of v due < 2 ^ 16
window_fits v Rst sound = omega arith
window_fits v Syn sound = omega arith
window_fits v (Text stretch) sound = window_small v sound
window_fits v Probe sound = window_small v sound
window_fits v Ack sound = window_small v sound
window_fits v KeepAlive sound = window_small v sound

acknowledgement_fits : (acks : Bool) (rnext : ℕ) → rnext < 2 ^ 32 → (if acks then rnext else 0) < 2 ^ 32
acknowledgement_fits true rnext small = small
acknowledgement_fits false rnext small = omega arith

pub octets_spell : (v : View) (due : Due) → IsSound v → MayGoOut v due → length v.local.addr.0 ≡ 4 → length v.peer.addr.0 ≡ 4 → v.local.port < 2 ^ 16 → v.peer.port < 2 ^ 16
    → Spells v.local.addr v.peer.addr (segment_of v due) (segment_octets v due)
octets_spell v due sound may here there from_port to_port =
    let f = flags_of v due in
    let short = emitted_short v due may in
    let can : CanBeSent v.local.addr v.peer.addr (head_of v due) (octets_of v due) = record {
      src_octets = here;
      dst_octets = there;
      fields = record {
        source = from_port;
        destination = to_port;
        number = number_fits v due sound;
        acknowledgement = acknowledgement_fits f.ack v.receiving.rnext sound.rnext;
        window = window_fits v due sound;
        urgent = omega arith;
      };
      blocks = blocks_fit v due;
      len = omega (arith, short);
    } in
    sent_spelled v.local.addr v.peer.addr (head_of v due) (octets_of v due) can
