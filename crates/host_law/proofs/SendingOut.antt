-- What goes out with octets or a FIN is of the stream of a connection: each octet is the one that was taken at its position, within the window where it goes out for the first time, and the FIN stands behind all.
use Rattle.std.proofs.Common.{◌≡◌, ◌⊎◌, ℕ, ◌+◌, ◌-◌, ◌<◌, ◌≤◌, ◌^◌, ◌%◌, ◌==◌, ◌||◌, ◌&&◌, not, if◌then◌else◌, Bool, true, false, List, [], length, drop, take, get_or, Some, inl, inr, refl, sym, ◌∙◌, ap, subst, arith, length-drop}
use Rattle.std.specs.List.{slice_get}
use Rattle.std.proofs.lemmas.Bool.{eqb-true}
use Rattle.std.proofs.lemmas.Bool.Decides.{leb_tells}
use Rattle.std.proofs.lemmas.List.{length-take, get_or-take, get_or-drop}
use Rattle.std.proofs.lemmas.Option.{slice_get_within, get_or_from_slice_get, slice_get_read}
use Rattle.ipv4.specs.declared.addr.Addr.{Addr}
use Rattle.ipv4.specs.declared.addr.Endpoint.{Endpoint}
use Rattle.tcp_segment.specs.Segment.{Segment}
use Rattle.tcp_segment.specs.Sent.{sent_segment}
use Rattle.tcp_segment.specs.Wire.{past}
use Rattle.tcp_halves.specs.Stream.{outstanding}
use Rattle.tcp_halves.proofs.Choices.{either, clash, and_left, and_right, or_left}
use Rattle.tcp_state.specs.declared.emission.Due.{Due}
use Rattle.tcp_state.specs.declared.emission.Due.TheVariants.{Rst, Syn, Text, Probe, Ack, KeepAlive}
use Rattle.tcp_state.specs.declared.emission.Stretch.{Stretch}
use Rattle.tcp_state.specs.declared.state.State.{State}
use Rattle.tcp_state.specs.declared.state.State.TheVariants.{SynSent}
use Rattle.tcp_state.specs.View.{View, IsSound, is_opening, is_syn_sent, is_write_finished, awaits_fin_ack}
use Rattle.tcp_state.specs.Timing.{probes, has_unacknowledged}
use Rattle.tcp_state.specs.Due.{IsHeld, first_due, head_of, octets_of, octets_of_stretch, probe_stretch, again, new_octets, fin_alone}
use Rattle.tcp_state.proofs.Emissions.{by_due}
use Rattle.tcp_state.proofs.GoesOut.{due-may}
use Rattle.tcp_state.proofs.NewNumbers.{keeps_window}
use Rattle.tcp_state.proofs.Places.{goes_within, again_few}
use Rattle.sockets.specs.declared.entry.SocketId.{SocketId}
use Rattle.host.specs.ConfigView.{ConfigView}
use Rattle.host.specs.HostView.{HostView}
use Rattle.host_law.specs.Callers.{sent_on}
use Rattle.host_law.specs.HostLaw.{WentOut}
use Rattle.host_law.specs.Going.{Takes, TakesNumbers, WasSent, IsWithinWindow, IsOfStream}
use Rattle.host_law.specs.History.{Step, Once, connection_of}
use Rattle.host_law.specs.Positions.{snd_una}
use Rattle.host_law.proofs.Befalls.{IsDueOf}
use Rattle.host_law.proofs.SendingHalf.{Holds, Stands, finished_holds, fin_states}
use Rattle.host_law.proofs.Windows.{KeepsWindow}
use Rattle.host_law.proofs.Sending.{SendsFrom, KeepsSent}

-- What goes out again ends where what is outstanding does.

abbrev GoesAgain : View → Stretch → Type 0
GoesAgain v stretch = stretch.offset < outstanding v.sending → stretch.offset + stretch.count ≤ outstanding v.sending

goes_again : (v : View) (stretch : Stretch) → first_due v ≡ Some (Text stretch) → GoesAgain v stretch
goes_again v stretch first = by_due (λ o. (t : Stretch) → o ≡ Some (Text t) → GoesAgain v t) v (record {
  nothing = λ quiet heard t e. cc;
  rst = λ owes t e. cc;
  syn = λ opening goes t e. cc;
  once_more = λ opened place is goes t e.
      let same : again v place ≡ t = cc in
      let few = again_few v place in
      let within = goes_within v place goes in
      subst (GoesAgain v) same (λ old. omega (arith, few, within));
  octets = λ opened sends t e. let same : new_octets v ≡ t = cc in subst (GoesAgain v) same (λ old. absurd (omega (arith, old)));
  fin = λ opened sends t e. let same : fin_alone v ≡ t = cc in subst (GoesAgain v) same (λ old. absurd (omega (arith, old)));
  probe = λ opened owes goes t e. cc;
  ack = λ owes t e. cc;
  asks = λ quiet owes t e. cc;
}) stretch first

-- a probe is of a closed window
probe_closed : (v : View) → first_due v ≡ Some Probe → probes v ≡ true
probe_closed v first = by_due (λ o. o ≡ Some Probe → probes v ≡ true) v (record {
  nothing = λ quiet heard e. cc;
  rst = λ owes e. cc;
  syn = λ opening goes e. cc;
  once_more = λ opened place is goes e. cc;
  octets = λ opened sends e. cc;
  fin = λ opened sends e. cc;
  probe = λ opened owes goes e. goes;
  ack = λ owes e. cc;
  asks = λ quiet owes e. cc;
}) first

-- The octets of a stretch are those that were taken at their positions.

-- the octet of a part of a list stands further on in it
of_part : (offset count i octet : ℕ) (l : List ℕ) → slice_get (take count (drop offset l)) i ≡ Some octet → (i < count) × (offset + i < length l) × (slice_get l (offset + i) ≡ Some octet)
of_part offset count i octet l there =
    let within : i < length (take count (drop offset l)) = slice_get_within (take count (drop offset l)) i octet there in
    let first : i < count = omega (arith, within, length-take count (drop offset l)) in
    let second : offset + i < length l = omega (arith, within, length-take count (drop offset l), length-drop offset l) in
    let is : octet ≡ get_or l (offset + i) octet = sym (get_or_from_slice_get (take count (drop offset l)) i octet octet there) ∙ get_or-take count (drop offset l) i octet first ∙ get_or-drop offset l i octet in
    (first, second, slice_get_read l (length l) (offset + i) octet refl second is)

of_rest : (offset i octet : ℕ) (l m : List ℕ) → m ≡ drop offset l → slice_get m i ≡ Some octet → slice_get l (offset + i) ≡ Some octet
of_rest offset i octet l m is there =
    let within : i < length m = slice_get_within m i octet there in
    let len : length m ≡ length l - offset = ap length is ∙ length-drop offset l in
    slice_get_read l (length l) (offset + i) octet refl (omega (arith, within, len))
    (sym (get_or_from_slice_get m i octet octet there) ∙ ap (λ k. get_or k i octet) is ∙ get_or-drop offset l i octet)

was_sent : (held : List ℕ) (una distance octet : ℕ) (sent : List ℕ) → Holds held una sent → slice_get held distance ≡ Some octet → WasSent sent una distance octet
was_sent held una distance octet sent holds there =
    let some = holds.some in
    record { place = una - 1 + distance; at = omega (arith, some); there = of_rest (una - 1) distance octet sent held holds.is there }

few_if : (none : Bool) (n size : ℕ) → size ≤ 1048576 → n ≤ (if none then 0 else size) → n ≤ 1048576
few_if true n size fits few = omega (arith, few)
few_if false n size fits few = omega (arith, fits, few)

pub held_few : (v : View) → IsSound v → length v.sending.held ≤ 1048576
held_few v sound = few_if (is_opening v.state || is_write_finished v.state) (length v.sending.held) v.sending.size sound.terms.send_size sound.held

-- where a number stands that is so far past SND.UNA
distance : (una offset number i : ℕ) → una < 2 ^ 32 → number ≡ (una + offset) % 2 ^ 32 → offset + i < 2 ^ 32 → past (number + i) una ≡ offset + i
distance una offset number i bound is few = omega (arith, bound, is, few)

-- once our FIN is acknowledged nothing is held
octet_sent : (v : View) (una place octet : ℕ) (sent : List ℕ) → IsSound v → Stands v una sent → is_opening v.state ≡ false → place < length v.sending.held → slice_get v.sending.held place ≡ Some octet → WasSent sent una place octet
octet_sent v una place octet sent sound stands opened within there = by_end (is_write_finished v.state) refl
  where
    by_end : (finished : Bool) → is_write_finished v.state ≡ finished → WasSent sent una place octet
    by_end true finished = let none = finished_holds v sound finished in absurd (omega (arith, none, within))
    by_end false unfinished = was_sent v.sending.held una place octet sent (stands.going opened unfinished) there

past_opening : (t : State) → is_opening t ≡ false → is_syn_sent t ≡ false
past_opening SynSent opened = cc
past_opening _ opened = refl

-- its ends are those of the segment
own_end : {c : ConfigView} {h : HostView} {to : Addr} {s : Segment} (d : IsDueOf c h to s) → d.v.local ≡ record { addr = c.addr; port = s.source }
own_end {c} {h} {to} {s} d =
    ap (λ a. let e : Endpoint = record { addr = a; port = d.v.local.port } in e) d.own ∙ ap (λ p. let e : Endpoint = record { addr = c.addr; port = p } in e) (sym (ap (λ (x : Segment). x.source) d.is))

peer_end : {c : ConfigView} {h : HostView} {to : Addr} {s : Segment} (d : IsDueOf c h to s) → d.v.peer ≡ record { addr = to; port = s.destination }
peer_end {c} {h} {to} {s} d =
    ap (λ a. let e : Endpoint = record { addr = a; port = d.v.peer.port } in e) d.peer ∙ ap (λ p. let e : Endpoint = record { addr = to; port = p } in e) (sym (ap (λ (x : Segment). x.destination) d.is))

-- so for a segment that brings a stretch
carries : (c : ConfigView) (step : Step) (earlier : List Step) (to : Addr) (s : Segment) (d : IsDueOf c step.before to s) (stretch : Stretch) → IsSound d.v → KeepsSent c d.id step.before earlier → KeepsWindow c d.id step.before earlier → WentOut c d.id step.before earlier → IsHeld d.v stretch
    → s.number ≡ (d.v.sending.una + stretch.offset) % 2 ^ 32 → s.octets ≡ octets_of_stretch d.v stretch → s.flags.fin ≡ stretch.fin → s.flags.syn ≡ false
    → ((i : ℕ) → i < stretch.count → outstanding d.v.sending ≤ stretch.offset + i → IsWithinWindow d.v (stretch.offset + i)) → IsOfStream c c.addr to s step earlier
carries c step earlier to s d stretch sound keeps windows out held number octets fin plain window = record {
  id = d.id;
  v = v;
  connection = d.connection;
  lives = d.lives;
  from = refl;
  local = own_end d;
  peer = peer_end d;
  syn = λ flag. clash s.flags.syn flag plain;
  octets = λ i octet there. let part = part_of i octet there in
      subst (λ n. WasSent sent una n octet) (sym (placed i octet there)) (octet_sent v una (stretch.offset + i) octet sent sound from.stands held.opened part.1 part.2);
  told = λ some. windows.told v d.connection d.lives (past_opening v.state held.opened);
  window = λ i octet there. let part = part_of i octet there in
      subst (λ n. Once (Takes c d.id (una + n)) earlier ⊎ IsWithinWindow v n) (sym (placed i octet there)) (elim (leb_tells (outstanding v.sending) (stretch.offset + i)) [
        | inl t ↦ inr (window i part.0 t.1)
        | inr t ↦ inl (out.nxt v d.connection d.lives (una + (stretch.offset + i)) (let old = t.1 in omega (arith, old)))
      ]);
  end = λ ends.
      let last = held.fin (sym fin ∙ ends) in
      let all = (from.stands.going held.opened (fin_states v.state last.0).0).all in
      let few = held_few v sound in
      let len : length s.octets ≡ stretch.count = ap length octets ∙ length-take stretch.count (drop stretch.offset v.sending.held) ∙ omega (arith, length-drop stretch.offset v.sending.held, last.1) in
      let bound = sound.una in
      let place : past (s.number + length s.octets) v.sending.una ≡ stretch.offset + length s.octets = distance v.sending.una stretch.offset s.number (length s.octets) bound number (omega (arith, few, last.1, len)) in
      (omega (arith, place, len, all, last.1), from.closed (or_left (awaits_fin_ack v.state) (is_write_finished v.state) last.0));
}
  where
    v : View
    v = d.v

    una : ℕ
    una = snd_una d.id earlier

    sent : List ℕ
    sent = sent_on d.id earlier

    from : SendsFrom d.id d.v earlier
    from = keeps.live d.v d.connection d.lives

    part_of : (i octet : ℕ) → slice_get s.octets i ≡ Some octet → (i < stretch.count) × (stretch.offset + i < length d.v.sending.held) × (slice_get d.v.sending.held (stretch.offset + i) ≡ Some octet)
    part_of i octet there = of_part stretch.offset stretch.count i octet d.v.sending.held (sym (ap (λ l. slice_get l i) octets) ∙ there)

    placed : (i octet : ℕ) → slice_get s.octets i ≡ Some octet → past (s.number + i) d.v.sending.una ≡ stretch.offset + i
    placed i octet there =
        let part = part_of i octet there in
        let few = held_few d.v sound in
        distance d.v.sending.una stretch.offset s.number i sound.una number (let within = part.1 in omega (arith, few, within))

-- a stretch that is due goes out within the window where it is new
within_window : (v : View) (stretch : Stretch) → IsSound v → first_due v ≡ Some (Text stretch) → (i : ℕ) → i < stretch.count → outstanding v.sending ≤ stretch.offset + i → IsWithinWindow v (stretch.offset + i)
within_window v stretch sound first i below new = elim (leb_tells (outstanding v.sending) stretch.offset) [
  | inl t ↦ let keeps = keeps_window v stretch sound first t.1 in let end = keeps.1 in inl (omega (arith, end, below))
  | inr t ↦ let old = goes_again v stretch first (omega (arith, t.1)) in absurd (omega (arith, old, below, new))
]

-- .. and a probe brings one octet, at SND.UNA
probe_at_una : (v : View) → (probe_stretch v).offset ≡ 0
probe_at_una v = either Stretch (λ t. t.offset ≡ 0) (length v.sending.held == 0) (record { offset = 0; count = 0; fin = true }) (record { offset = 0; count = 1; fin = false }) (λ none. refl) (λ some. refl)

probe_one : (v : View) (i : ℕ) → i < (probe_stretch v).count → i ≡ 0
probe_one v i =
    either Stretch (λ t. i < t.count → i ≡ 0) (length v.sending.held == 0) (record { offset = 0; count = 0; fin = true }) (record { offset = 0; count = 1; fin = false }) (λ none below. absurd (omega (arith, below)))
    (λ some below. omega (arith, below))

probe_window : (v : View) → probes v ≡ true → v.sending.window ≡ 0
probe_window v goes = eqb-true v.sending.window 0 (and_right (not (is_opening v.state)) (v.sending.window == 0) (and_left (not (is_opening v.state) && (v.sending.window == 0)) (has_unacknowledged v) goes))

module _ (c : ConfigView) (step : Step) (earlier : List Step) (to : Addr) (s : Segment) (d : IsDueOf c step.before to s) (sound : IsSound d.v) (keeps : KeepsSent c d.id step.before earlier) (windows : KeepsWindow c d.id step.before earlier) (out : WentOut c d.id step.before earlier) where
  empty : (due : Due) → d.due ≡ due → octets_of d.v due ≡ [] → ((head_of d.v due).flags.fin ≡ false) × ((head_of d.v due).flags.syn ≡ false) → TakesNumbers s → IsOfStream c c.addr to s step earlier
  empty due is none plain brings =
      let octets : s.octets ≡ octets_of d.v due = ap (λ (x : Segment). x.octets) d.is ∙ ap (octets_of d.v) is in
      let fin : s.flags.fin ≡ (head_of d.v due).flags.fin = ap (λ (x : Segment). x.flags.fin) d.is ∙ ap (λ x. (head_of d.v x).flags.fin) is in
      elim brings [
        | inl some ↦ let len : length s.octets ≡ 0 = ap length octets ∙ ap length none in absurd (omega (arith, some, len))
        | inr flag ↦ elim flag [ inl ends ↦ clash s.flags.fin ends (fin ∙ plain.0) | inr syn ↦ clash s.flags.syn syn (ap (λ (x : Segment). x.flags.syn) d.is ∙ ap (λ x. (head_of d.v x).flags.syn) is ∙ plain.1) ]
      ]

  by_due_of : (due : Due) → d.due ≡ due → TakesNumbers s → IsOfStream c c.addr to s step earlier
  by_due_of Rst is brings = empty Rst is refl (refl, refl) brings
  by_due_of Syn is brings =
      let v = d.v in
      let whole : s ≡ sent_segment (head_of v Syn) (octets_of v Syn) = d.is ∙ ap (λ x. sent_segment (head_of v x) (octets_of v x)) is in
      let none : s.octets ≡ [] = ap (λ (x : Segment). x.octets) whole in
      let opens : is_opening v.state ≡ true = due-may v Syn sound (d.first ∙ ap (λ x. Some x) is) in
      let from : SendsFrom d.id v earlier = keeps.live v d.connection d.lives in
      let at = from.stands.opening opens in
      record {
        id = d.id;
        v = v;
        connection = d.connection;
        lives = d.lives;
        from = refl;
        local = own_end d;
        peer = peer_end d;
        syn = λ flag. (at.0, ap (λ (x : Segment). x.number) whole);
        octets = λ i octet there. let bad : slice_get [] i ≡ Some octet = ap (λ l. slice_get l i) (sym none) ∙ there in cc;
        told = λ some. let len : length s.octets ≡ 0 = ap length none in absurd (omega (arith, some, len));
        window = λ i octet there. let bad : slice_get [] i ≡ Some octet = ap (λ l. slice_get l i) (sym none) ∙ there in cc;
        end = λ ends. clash s.flags.fin ends (ap (λ (x : Segment). x.flags.fin) whole);
      }
  by_due_of Ack is brings = empty Ack is refl (refl, refl) brings
  by_due_of KeepAlive is brings = empty KeepAlive is refl (refl, refl) brings
  by_due_of (Text stretch) is brings =
      let v = d.v in
      let whole : s ≡ sent_segment (head_of v (Text stretch)) (octets_of v (Text stretch)) = d.is ∙ ap (λ x. sent_segment (head_of v x) (octets_of v x)) is in
      let first : first_due v ≡ Some (Text stretch) = d.first ∙ ap (λ x. Some x) is in
      carries c step earlier to s d stretch sound keeps windows out (due-may v (Text stretch) sound first) (ap (λ (x : Segment). x.number) whole) (ap (λ (x : Segment). x.octets) whole) (ap (λ (x : Segment). x.flags.fin) whole) (ap (λ (x : Segment). x.flags.syn) whole)
      (within_window v stretch sound first)
  by_due_of Probe is brings =
      let v = d.v in
      let whole : s ≡ sent_segment (head_of v Probe) (octets_of v Probe) = d.is ∙ ap (λ x. sent_segment (head_of v x) (octets_of v x)) is in
      let first : first_due v ≡ Some Probe = d.first ∙ ap (λ x. Some x) is in
      let bound = sound.una in
      let at = probe_at_una v in
      let number : v.sending.una ≡ (v.sending.una + (probe_stretch v).offset) % 2 ^ 32 = omega (arith, bound, at) in
      carries c step earlier to s d (probe_stretch v) sound keeps windows out (due-may v Probe sound first) (ap (λ (x : Segment). x.number) whole ∙ number) (ap (λ (x : Segment). x.octets) whole) (ap (λ (x : Segment). x.flags.fin) whole) (ap (λ (x : Segment). x.flags.syn) whole)
      (λ i below new. let one = probe_one v i below in inr (probe_window v (probe_closed v first), omega (arith, at, one)))

pub of_stream : (c : ConfigView) (step : Step) (earlier : List Step) (source to : Addr) (s : Segment) → source ≡ c.addr → IsDueOf c step.before to s → ((id : SocketId) (v : View) → connection_of id step.before ≡ Some v → IsSound v)
    → ((id : SocketId) → KeepsSent c id step.before earlier) → ((id : SocketId) → KeepsWindow c id step.before earlier) → ((id : SocketId) → WentOut c id step.before earlier) → TakesNumbers s → IsOfStream c source to s step earlier
of_stream c step earlier source to s from d sound keeps windows out brings = subst (λ a. IsOfStream c a to s step earlier) (sym from) (by_due_of c step earlier to s d (sound d.id d.v d.connection) (keeps d.id) (windows d.id) (out d.id) d.due refl brings)
