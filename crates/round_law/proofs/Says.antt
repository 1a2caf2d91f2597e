-- Frames that go out of a host whose one connection is open: reports, and then each with a plain segment of it.
use Rattle.std.proofs.Common.{◌≡◌, ◌≢◌, ℕ, ◌≤◌, false, true, List, [], ◌∷◌, Option, Some, None, is_some, Ok, arith, refl, sym, ◌∙◌, ap, subst, inl, inr, ◌⊎◌}
use Rattle.std.specs.List.{AllByRecursion}
use Rattle.clock.specs.declared.moment.Moment.{Moment}
use Rattle.ether.specs.declared.mac.Mac.{Mac}
use Rattle.ipv4.specs.declared.addr.Addr.{Addr}
use Rattle.ipv4.specs.declared.addr.Endpoint.{Endpoint}
use Rattle.tcp_segment.specs.Segment.{Segment}
use Rattle.frames.specs.declared.meaning.Meaning.TheVariants.{Tcp, Icmp}
use Rattle.frames.specs.Meaning.{heard}
use Rattle.interface.specs.declared.reply.Waiting.{Waiting}
use Rattle.interface.specs.InterfaceView.{InterfaceView}
use Rattle.interface.specs.declared.way.Way.TheVariants.{To}
use Rattle.interface.specs.Ways.{way}
use Rattle.tcp_halves.specs.Halves.{Sending, Receiving}
use Rattle.tcp_halves.specs.Stream.{outstanding}
use Rattle.tcp_state.specs.declared.emission.Due.{Due}
use Rattle.tcp_state.specs.View.{View, IsSound, is_opening, awaits_fin_ack}
use Rattle.tcp_state.specs.Due.{first_due}
use Rattle.tcp_state.specs.Edges.{Event, after_event}
use Rattle.tcp_state.specs.Said.{segment_of}
use Rattle.tcp_state.proofs.StillStreams.{emissions_leave}
use Rattle.sockets.specs.declared.entry.Entry.{Entry}
use Rattle.sockets.specs.declared.entry.SocketId.{SocketId}
use Rattle.sockets.specs.Sound.{IsSoundRole}
use Rattle.sockets.specs.Steps.{connected}
use Rattle.sockets.specs.SocketsView.{later_moment}
use Rattle.sockets.proofs.KeptEnds.{keeps-event}
use Rattle.sockets.proofs.Led.{reached_ordered}
use Rattle.host.specs.HostView.{HostView, with_interface}
use Rattle.host.specs.Emission.{emission_len, emission_octets}
use Rattle.host.specs.Carried.{Carried}
use Rattle.host.proofs.Carriage.{carried-heard}
use Rattle.host.proofs.Hearing.{way-mac}
use Rattle.round_law.specs.Alone.{IsKept, IsAlone}
use Rattle.round_law.specs.Exchange.{IsOut, AreOut}
use Rattle.round_law.proofs.Retained.{all_back}
use Rattle.round_law.proofs.Staying.{HostStays, stays_first, stays_on, kept_later}
use Rattle.round_law.proofs.Emitted.{nothing_due, carries_due, emitted_alone, emitted_interface, emitted_stays}
use Rattle.round_law.proofs.Reports.{IsReport, Reports, report_left, report_out}
use Rattle.round_law.proofs.Plain.{IsPlain, says_plainly, out_grows}

-- a frame is heard, at this MAC and address, as a segment from another address of which this holds
abbrev pub Says : Mac → Addr → Addr → (Segment → Type 0) → List ℕ → Type 0
Says mac to source P octets = (s : Segment) × (heard mac to octets ≡ Ok (Tcp (record { source = source; segment = s }))) × P s

-- or it reports what changes nothing
abbrev pub Brings : Mac → Addr → Addr → (Segment → Type 0) → List ℕ → Type 0
Brings mac to source P octets = Says mac to source P octets ⊎ Reports mac to source octets

-- what every host keeps holds of its connection
pub own_sound : (h : HostView) (id : SocketId) (c : View) → IsKept h → IsAlone h id c → IsSound c
own_sound h id c kept alone =
    let entries = subst (λ (l : List Entry). AllByRecursion (λ (e : Entry). IsSoundRole e.role) l) alone.entries (let t = kept.sound.table in t.entries) in
    (all_back (λ (e : Entry). IsSoundRole e.role) alone.before (connected id c None ∷ alone.behind) entries).0.sound

-- A connection as frames go out of its host, one after the other, from this view and this host on.
pub record IsSender (start : HostView) (v : View) (id : SocketId) (h : HostView) (c : View) : Type 0 where
  pub alone : IsAlone h id c
  pub host : HostStays start h
  pub local : c.local ≡ v.local
  pub peer : c.peer ≡ v.peer
  pub state : c.state ≡ v.state
  pub una : c.sending.una ≡ v.sending.una
  pub held : c.sending.held ≡ v.sending.held
  pub grown : outstanding v.sending ≤ outstanding c.sending
  pub next : c.receiving.rnext ≡ v.receiving.rnext
  pub readable : c.receiving.readable ≡ v.receiving.readable
  pub reports : AllByRecursion (IsReport v.peer.addr) h.interface.replies

pub sends_first : (h : HostView) (v : View) (id : SocketId) → IsAlone h id v → AllByRecursion (IsReport v.peer.addr) h.interface.replies → IsSender h v id h v
sends_first h v id alone reports = record { alone = alone; host = stays_first h; local = refl; peer = refl; state = refl; una = refl; held = refl; grown = omega arith; next = refl; readable = refl; reports = reports }

module _ (start : HostView) (v : View) (id : SocketId) (mac : Mac) (leads : way start.interface start.sockets.kept v.peer.addr ≡ To mac) (other : start.interface.addr ≢ v.peer.addr)
    (past : is_opening v.state ≡ false) (open_ : awaits_fin_ack v.state ≡ false) where
  pub leads_on : (h : HostView) (c : View) → IsSender start v id h c → way h.interface (later_moment h.sockets h.sockets.kept) c.peer.addr ≡ To mac
  leads_on h c sender =
      ap (λ (m : Moment). way h.interface m c.peer.addr) (kept_later h.sockets)
      ∙ (ap (λ (i : InterfaceView). way i h.sockets.kept c.peer.addr) sender.host.interface
      ∙ (ap (λ (m : Moment). way start.interface m c.peer.addr) sender.host.moment
      ∙ (ap (λ (p : Endpoint). way start.interface start.sockets.kept p.addr) sender.peer ∙ leads)))

  pub some_due : (h : HostView) (c : View) → IsSender start v id h c → h.interface.replies ≡ [] → is_some (emission_len h h.sockets.kept) ≡ true → (due : Due) × (first_due c ≡ Some due)
  some_due h c sender idle some = by_due (first_due c) refl
    where
      by_due : (o : Option Due) → first_due c ≡ o → (due : Due) × (first_due c ≡ Some due)
      by_due None none = let no : is_some (emission_len h h.sockets.kept) ≡ false = ap (λ (o : Option ℕ). is_some o) (nothing_due h id c h.sockets.kept sender.alone idle none) in cc
      by_due (Some due) is = (due, is)

  -- the frame is heard as the segment that is due
  pub out_says : (h : HostView) (c : View) (octets : List ℕ) (g : HostView) → IsSender start v id h c → h.interface.replies ≡ [] → IsOut octets h g → (due : Due) → first_due c ≡ Some due
      → heard mac v.peer.addr octets ≡ Ok (Tcp (record { source = start.interface.addr; segment = segment_of c due }))
  out_says h c octets g sender idle out due first =
      let m = h.sockets.kept in
      let carried : Carried = record { mac = mac; to = c.peer.addr; segment = segment_of c due } in
      let apart : h.interface.addr ≢ c.peer.addr = λ same. other (ap (λ (i : InterfaceView). i.addr) (sym sender.host.interface) ∙ (same ∙ ap (λ (p : Endpoint). p.addr) sender.peer)) in
      let says = carried-heard h m carried out.kept.sound (reached_ordered _ out.kept.reached) (carries_due h id c m sender.alone idle due first mac (leads_on h c sender)) apart in
      ap (heard mac v.peer.addr) out.octets_of
      ∙ (ap (λ (p : Endpoint). heard mac p.addr (emission_octets h m)) (sym sender.peer)
      ∙ (says ∙ ap (λ (i : InterfaceView). Ok (Tcp (record { source = i.addr; segment = segment_of c due }))) sender.host.interface))

  -- and it is a plain one
  pub plain_due : (h : HostView) (c : View) (octets : List ℕ) (g : HostView) → IsSender start v id h c → h.interface.replies ≡ [] → IsOut octets h g → (due : Due) → first_due c ≡ Some due → IsPlain v (segment_of c due)
  plain_due h c octets g sender idle out due first =
      let plain = says_plainly c due (own_sound h id c out.kept sender.alone) sender.alone.lives (ap is_opening sender.state ∙ past) (ap awaits_fin_ack sender.state ∙ open_) first in
      record {
        ordinary = plain.ordinary;
        no_fin = plain.no_fin;
        acknowledgement = plain.acknowledgement ∙ sender.next;
        source = plain.source ∙ ap (λ (p : Endpoint). p.port) sender.local;
        destination = plain.destination ∙ ap (λ (p : Endpoint). p.port) sender.peer;
      }

  pub sends_on : (h : HostView) (c : View) (octets : List ℕ) (g : HostView) → IsSender start v id h c → h.interface.replies ≡ [] → IsOut octets h g → (due : Due) → first_due c ≡ Some due
      → IsSender start v id g (after_event c (Event.Emits (later_moment h.sockets h.sockets.kept)))
  sends_on h c octets g sender idle out due first =
      let now = later_moment h.sockets h.sockets.kept in
      let w = after_event c (Event.Emits now) in
      let left = emissions_leave c now in
      let ends = keeps-event c (Event.Emits now) in
      let leads_it = leads_on h c sender in
      record {
        alone = subst (λ (x : HostView). IsAlone x id w) (sym out.left) (emitted_alone h id c h.sockets.kept sender.alone idle due first mac leads_it);
        host = stays_on start h g sender.host (subst (λ (x : HostView). HostStays h x) (sym out.left) (emitted_stays h id c h.sockets.kept sender.alone idle due first mac leads_it));
        local = ends.local ∙ sender.local;
        peer = ends.peer ∙ sender.peer;
        state = left.2 ∙ sender.state;
        una = ap (λ (t : Sending). t.una) left.0 ∙ sender.una;
        held = ap (λ (t : Sending). t.held) left.0 ∙ sender.held;
        grown = omega (arith, sender.grown, out_grows c due now first);
        next = ap (λ (r : Receiving). r.rnext) left.1 ∙ sender.next;
        readable = ap (λ (r : Receiving). r.readable) left.1 ∙ sender.readable;
        reports = subst (λ (i : InterfaceView). AllByRecursion (IsReport v.peer.addr) i.replies) (sym (ap (λ (x : HostView). x.interface) out.left ∙ emitted_interface h id c h.sockets.kept sender.alone idle due first mac leads_it)) sender.reports;
      }

  -- a report goes out before all segments, and leaves the connection
  pub report_on : (h : HostView) (c : View) (octets : List ℕ) (g : HostView) → IsSender start v id h c → IsOut octets h g → (r : Waiting) (rest : List Waiting) → h.interface.replies ≡ r ∷ rest
      → IsSender start v id g c × Reports mac v.peer.addr start.interface.addr octets × ((let i = g.interface in i.replies) ≡ rest)
  report_on h c octets g sender out r rest waits =
      let m = h.sockets.kept in
      let all = subst (λ (l : List Waiting). AllByRecursion (IsReport v.peer.addr) l) waits sender.reports in
      let leads_it : way h.interface (later_moment h.sockets m) v.peer.addr ≡ To mac = ap (λ (p : Endpoint). way h.interface (later_moment h.sockets m) p.addr) (sym sender.peer) ∙ leads_on h c sender in
      let addr : h.interface.addr ≡ start.interface.addr = ap (λ (i : InterfaceView). i.addr) sender.host.interface in
      let left : g ≡ with_interface h (record h.interface { replies = rest }) = out.left ∙ report_left h m v.peer.addr mac r rest waits all.0 leads_it in
      let whole = way-mac h.interface (later_moment h.sockets m) v.peer.addr mac out.kept.sound.interface leads_it in
      let said = report_out h m v.peer.addr mac r rest waits all.0 leads_it out.kept.sound.interface whole (record { single = out.kept.sound.single; other = λ same. other (sym addr ∙ same) }) in (
        record {
          alone = subst (λ (x : HostView). IsAlone x id c) (sym left) (record { before = sender.alone.before; behind = sender.alone.behind; entries = sender.alone.entries; named = sender.alone.named; silent_before = sender.alone.silent_before; silent_behind = sender.alone.silent_behind; lives = sender.alone.lives; called = sender.alone.called });
          host = stays_on start h g sender.host (subst (λ (x : HostView). HostStays h x) (sym left) (record { interface = refl; moment = refl; addr = refl; manner = refl }));
          local = sender.local;
          peer = sender.peer;
          state = sender.state;
          una = sender.una;
          held = sender.held;
          grown = sender.grown;
          next = sender.next;
          readable = sender.readable;
          reports = subst (λ (x : HostView). AllByRecursion (IsReport v.peer.addr) x.interface.replies) (sym left) all.1;
        },
        (said.0, ap (heard mac v.peer.addr) out.octets_of ∙ (said.1 ∙ ap (λ (a : Addr). Ok (Icmp (record { source = a; message = said.0 }))) addr), said.2),
        ap (λ (x : HostView). let i = x.interface in i.replies) left,
      )

  -- each frame is one of these
  goes_on : (h : HostView) (c : View) (octets : List ℕ) (g : HostView) → IsSender start v id h c → IsOut octets h g → (waits : List Waiting) → h.interface.replies ≡ waits
      → (w : View) × IsSender start v id g w × Brings mac v.peer.addr start.interface.addr (IsPlain v) octets
  goes_on h c octets g sender out [] idle =
      let due = some_due h c sender idle out.some in
      (after_event c (Event.Emits (later_moment h.sockets h.sockets.kept)), sends_on h c octets g sender idle out due.0 due.1, inl (segment_of c due.0, out_says h c octets g sender idle out due.0 due.1, plain_due h c octets g sender idle out due.0 due.1))
  goes_on h c octets g sender out (r ∷ rest) waits = let it = report_on h c octets g sender out r rest waits in (c, it.0, inr it.1)

  -- all of them are
  pub all_out : (frames : List (List ℕ)) (h : HostView) (c : View) (g : HostView) → IsSender start v id h c → AreOut frames h g
      → AllByRecursion (Brings mac v.peer.addr start.interface.addr (IsPlain v)) frames × ((w : View) × IsSender start v id g w)
  all_out [] h c g sender out = (tt, (c, subst (λ (x : HostView). IsSender start v id x c) (sym out) sender))
  all_out (octets ∷ rest) h c g sender out =
      let it = goes_on h c octets out.0 sender out.1 h.interface.replies refl in
      let more = all_out rest out.0 it.0 g it.1 out.2 in
      ((it.2, more.0), more.1)
