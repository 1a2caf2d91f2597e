-- A host whose one connection is open hears frames, each with a plain segment for it, one after the other.
use Rattle.std.proofs.Common.{◌≡◌, ℕ, ◌&&◌, false, List, [], ◌∷◌, Option, Some, None, Result, Ok, inl, inr, refl, sym, ◌∙◌, ap, subst}
use Rattle.std.specs.List.{AllByRecursion}
use Rattle.clock.specs.declared.moment.Moment.{Moment}
use Rattle.ipv4.specs.declared.addr.Addr.{Addr}
use Rattle.ipv4.specs.declared.addr.Endpoint.{Endpoint}
use Rattle.ipv4.specs.declared.addr.Pair.{Pair}
use Rattle.tcp_segment.specs.Segment.{Segment}
use Rattle.frames.specs.declared.drop.DropCause.{DropCause}
use Rattle.frames.specs.declared.meaning.Meaning.{Meaning}
use Rattle.frames.specs.declared.meaning.Meaning.TheVariants.{Tcp, Icmp}
use Rattle.frames.specs.Meaning.{heard}
use Rattle.interface.specs.InterfaceView.{InterfaceView}
use Rattle.interface.specs.Ways.{is_routed}
use Rattle.interface.specs.Strangers.{is_no_host}
use Rattle.tcp_halves.specs.declared.buffers.Manner.{Manner}
use Rattle.tcp_halves.proofs.Choices.{by, clash}
use Rattle.tcp_state.specs.View.{View, IsSound, is_opening, is_closed, awaits_fin_ack}
use Rattle.tcp_state.specs.Edges.{Event, after_event}
use Rattle.tcp_state.proofs.Ordinary.{ends_nothing}
use Rattle.sockets.specs.declared.entry.SocketId.{SocketId}
use Rattle.sockets.specs.SocketsView.{later_moment}
use Rattle.sockets.proofs.KeptEnds.{keeps-event}
use Rattle.host.specs.HostView.{HostView}
use Rattle.host.specs.Messages.{Told}
use Rattle.host.specs.Arrival.{MeetsHeard, MeetsMessage, foreseen_of}
use Rattle.host.specs.Heard.{heard_by, shuts_out}
use Rattle.host.proofs.Guarded.{takes_in, tells_in}
use Rattle.round_law.specs.Alone.{IsAlone, IsFor}
use Rattle.round_law.specs.Exchange.{IsBrought, AreBrought, isn_of_exchange}
use Rattle.round_law.proofs.Staying.{HostStays, stays_first, stays_on}
use Rattle.round_law.proofs.Heard.{met_alone, opens_none}
use Rattle.round_law.proofs.Plain.{IsPlain}
use Rattle.round_law.proofs.Reports.{Reports}
use Rattle.round_law.proofs.Says.{Says, Brings, own_sound}

-- A connection as frames come to its host, one after the other, from this view and this host on.
pub record IsTaker (start : HostView) (v : View) (id : SocketId) (h : HostView) (c : View) : Type 0 where
  pub alone : IsAlone h id c
  pub host : HostStays start h
  pub local : c.local ≡ v.local
  pub peer : c.peer ≡ v.peer
  pub state : c.state ≡ v.state
  pub waits : h.interface.replies ≡ start.interface.replies

pub takes_first : (h : HostView) (v : View) (id : SocketId) → IsAlone h id v → IsTaker h v id h v
takes_first h v id alone = record { alone = alone; host = stays_first h; local = refl; peer = refl; state = refl; waits = refl }

-- from the view of the other end
module _ (start : HostView) (v : View) (id : SocketId) (far : View) (source : Addr) (own : v.local.addr ≡ start.sockets.addr) (theirs : far.local.addr ≡ source) (local : v.local ≡ far.peer) (peer : v.peer ≡ far.local)
    (past : is_opening v.state ≡ false) (open_ : awaits_fin_ack v.state ≡ false) (lets : shuts_out start source ≡ false) where
  lets_on : (h : HostView) → HostStays start h → shuts_out h source ≡ false
  lets_on h stays =
      ap (λ (m : Manner). m.guards && is_no_host h.interface source) stays.manner ∙ ap (λ (i : InterfaceView). start.sockets.manner.guards && is_no_host i source) stays.interface ∙ lets

  for_it : (h : HostView) (c : View) (s : Segment) → IsTaker start v id h c → IsPlain far s → IsFor h c source s
  for_it h c s taker plain = record {
    local = taker.local ∙ ends v.local h.sockets.addr s.destination (own ∙ sym taker.host.addr) (ap (λ (e : Endpoint). e.port) local ∙ sym plain.destination);
    peer = taker.peer ∙ ends v.peer source s.source (ap (λ (e : Endpoint). e.addr) peer ∙ theirs) (ap (λ (e : Endpoint). e.port) peer ∙ sym plain.source);
  }
    where
      ends : (e : Endpoint) (addr : Addr) (port : ℕ) → e.addr ≡ addr → e.port ≡ port → e ≡ record { addr = addr; port = port }
      ends e addr port a p = ap (λ (x : Addr). let y : Endpoint = record { addr = x; port = e.port } in y) a ∙ ap (λ (x : ℕ). let y : Endpoint = record { addr = addr; port = x } in y) p

  still : (c : View) (s : Segment) (now : Moment) → c.state ≡ v.state → c.released ≡ false → IsPlain far s → (after_event c (Event.Hears s now)).state ≡ v.state
  still c s now state called plain = elim (ends_nothing c s now (ap is_opening state ∙ past) called plain.ordinary.no_rst plain.no_fin) [
    | inl same ↦ same ∙ state
    | inr beyond ↦ clash (awaits_fin_ack c.state) beyond.0 (ap awaits_fin_ack state ∙ open_)
  ]

  -- a frame is heard as the segment that it is
  pub takes_on : (h : HostView) (c : View) (octets : List ℕ) (g : HostView) → IsTaker start v id h c → IsBrought octets h g → (said : Says start.interface.mac start.interface.addr source (IsPlain far) octets)
      → IsTaker start v id g (after_event c (Event.Hears said.0 (later_moment h.sockets h.sockets.kept)))
  takes_on h c octets g taker brought said =
      let s = said.0 in
      let now = h.sockets.kept in
      let w = after_event c (Event.Hears s (later_moment h.sockets now)) in
      let for = for_it h c s taker said.2 in
      let opened = ap is_opening taker.state ∙ past in
      let state = still c s (later_moment h.sockets now) taker.state taker.alone.called said.2 in
      let lives : is_closed w.state ≡ false = ap is_closed (state ∙ sym taker.state) ∙ taker.alone.lives in
      let heard_is : heard_by h octets ≡ Ok (Tcp (record { source = source; segment = s })) = takes_in h octets (record { source = source; segment = s }) (lets_on h taker.host) (ap (λ (i : InterfaceView). heard i.mac i.addr octets) taker.host.interface ∙ said.1) in
      elim brought.1 [
        | inl delivered ↦
            let meets = subst (λ (m : Result Meaning DropCause). MeetsHeard m h (later_moment h.sockets now) isn_of_exchange delivered.0 g) heard_is delivered.1 in
            let met = met_alone h id c now isn_of_exchange source s taker.alone for opened delivered.0 g meets lives in
            let ends = keeps-event c (Event.Hears s (later_moment h.sockets now)) in
            record { alone = met.1; host = stays_on start h g taker.host met.2; local = ends.local ∙ taker.local; peer = ends.peer ∙ taker.peer; state = state; waits = ap (λ (i : InterfaceView). i.replies) met.3 ∙ taker.waits }
        | inr kept_away ↦
            let none : foreseen_of h (heard_by h octets) ≡ None = ap (foreseen_of h) heard_is
            ∙ by (foreseen_of h (Ok (Tcp (record { source = source; segment = s }))) ≡ None) (is_routed h.interface source) (λ routed. rw routed (opens_none h id c now isn_of_exchange source s taker.alone for opened)) (λ unrouted. rw unrouted refl) in
            absurd (no_pair (foreseen_of h (heard_by h octets)) kept_away.0 none kept_away.1)
      ]
    where
      no_pair : (o : Option Pair) (pair : Pair) → o ≡ None → o ≡ Some pair → ⊥
      no_pair None pair none some = cc
      no_pair (Some other) pair none some = cc

  -- a report changes nothing
  pub passes_on : (h : HostView) (c : View) (octets : List ℕ) (g : HostView) → IsTaker start v id h c → IsBrought octets h g → Reports start.interface.mac start.interface.addr source octets → IsTaker start v id g c
  passes_on h c octets g taker brought said =
      let m = said.0 in
      let heard_is : heard_by h octets ≡ Ok (Icmp (record { source = source; message = m })) = tells_in h octets (record { source = source; message = m }) (lets_on h taker.host) (ap (λ (i : InterfaceView). heard i.mac i.addr octets) taker.host.interface ∙ said.1) in
      elim brought.1 [
        | inl delivered ↦
            let meets = subst (λ (x : Result Meaning DropCause). MeetsHeard x h (later_moment h.sockets h.sockets.kept) isn_of_exchange delivered.0 g) heard_is delivered.1 in
            let met : (delivered.0 ≡ Ok tt) × (g ≡ h) = subst (λ (t : Told). MeetsMessage t h (later_moment h.sockets h.sockets.kept) (record { source = source; message = m }) delivered.0 g) said.2 meets in
            subst (λ (x : HostView). IsTaker start v id x c) (sym met.1) taker
        | inr kept_away ↦ subst (λ (x : HostView). IsTaker start v id x c) (sym kept_away.2) taker
      ]

  -- all of them are, and what each keeps of the connection holds afterwards
  pub all_taken : (Q : View → Type 0) → ((c : View) (s : Segment) (now : Moment) → IsSound c → c.released ≡ false → c.state ≡ v.state → (after_event c (Event.Hears s now)).state ≡ v.state → IsPlain far s → Q c → Q (after_event c (Event.Hears s now)))
      → (frames : List (List ℕ)) (h : HostView) (c : View) (g : HostView) → AllByRecursion (Brings start.interface.mac start.interface.addr source (IsPlain far)) frames → IsTaker start v id h c → Q c → AreBrought frames h g
      → (w : View) × IsTaker start v id g w × Q w
  all_taken Q keeps [] h c g all taker q brought = (c, subst (λ (x : HostView). IsTaker start v id x c) (sym brought) taker, q)
  all_taken Q keeps (octets ∷ rest) h c g all taker q brought = elim all.0 [
    | inl said ↦
        let s = said.0 in
        let now = later_moment h.sockets h.sockets.kept in
        all_taken Q keeps rest brought.0 (after_event c (Event.Hears s now)) g all.1 (takes_on h c octets brought.0 taker brought.1 said)
        (keeps c s now (own_sound h id c brought.1.0 taker.alone) taker.alone.called taker.state (still c s now taker.state taker.alone.called said.2) said.2 q) brought.2
    | inr report ↦ all_taken Q keeps rest brought.0 c g all.1 (passes_on h c octets brought.0 taker brought.1 report) q brought.2
  ]
