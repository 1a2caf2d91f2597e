-- Why a segment that comes to a connection that lives alone is heard by it.
use Rattle.std.proofs.Common.{◌≡◌, ℕ, ◌==◌, ◌||◌, ◌&&◌, not, Bool, true, false, if◌then◌else◌, List, ◌∷◌, ◌++◌, length, Some, None, Result, Ok, refl, ◌∙◌, ap, subst}
use Rattle.std.specs.List.{find, AllByRecursion}
use Rattle.std.proofs.lemmas.Bool.{eq-eqb}
use Rattle.clock.specs.declared.moment.Moment.{Moment}
use Rattle.ipv4.specs.declared.addr.Addr.{Addr}
use Rattle.ipv4.specs.declared.addr.Endpoint.{Endpoint}
use Rattle.ipv4.specs.Addresses.{same_end}
use Rattle.tcp_segment.specs.Segment.{Segment}
use Rattle.frames.specs.declared.drop.DropCause.{DropCause}
use Rattle.frames.specs.declared.meaning.Meaning.{Meaning}
use Rattle.frames.specs.declared.meaning.Meaning.TheVariants.{Tcp}
use Rattle.interface.specs.Ways.{is_routed}
use Rattle.tcp_halves.proofs.Choices.{either, clash, and_left, and_false, both, of_false}
use Rattle.tcp_state.specs.declared.connection.Fate.TheVariants.{Stays, Removed, Rejected}
use Rattle.tcp_state.specs.View.{View, is_opening, is_syn_sent, is_syn_received, is_closed, is_over}
use Rattle.tcp_state.specs.Arrival.{is_acceptable_to, is_acting_reset, is_receiving, is_read, is_lost, is_rejected, ends_opening, after_lost, after_ack, after_window, after_text, after_segment, after_segment_at, fate}
use Rattle.tcp_state.specs.Edges.{Event, after_event}
use Rattle.tcp_state.proofs.Segments.{by_ack, by_fin, by_segment, by_clock, not_rejected}
use Rattle.tcp_state.proofs.Freed.{opened}
use Rattle.sockets.specs.declared.entry.Entry.{Entry}
use Rattle.sockets.specs.declared.entry.SocketId.{SocketId}
use Rattle.sockets.specs.declared.role.Role.{Role}
use Rattle.sockets.specs.declared.role.Role.TheVariants.{Idle, Listener, Connected, Datagrams}
use Rattle.sockets.specs.Arrival.{Arrival, Becomes, local_end, peer_end, offered_with, arrival, pair_opened}
use Rattle.sockets.specs.Entries.{in_connection, is_between, is_live_between, is_offered_by, with_role, role_after_segment}
use Rattle.sockets.specs.Lists.{change_first}
use Rattle.sockets.specs.SocketsView.{SocketsView, later_moment}
use Rattle.sockets.specs.Steps.{connected}
use Rattle.sockets.proofs.Arrived.{taken}
use Rattle.sockets.proofs.Ends.{same_addr-same}
use Rattle.host.specs.HostView.{HostView, with_sockets}
use Rattle.host.specs.Arrival.{MeetsSegment, MeetsHeard, IsDelivered, arrival_by_route, segment_arrival}
use Rattle.host.specs.Heard.{heard_by}
use Rattle.host.proofs.Waiting.{later-twice}
use Rattle.round_law.specs.Alone.{IsSilent, IsAlone, IsFor}
use Rattle.round_law.proofs.Staying.{HostStays, same_but}
use Rattle.round_law.proofs.Retained.{Fails, found_behind, changed_behind, all_of}

-- The connection stays its caller's.

abbrev Keeps : View → View → Type 0
Keeps v w = w.released ≡ v.released

acked : (v : View) (ack : ℕ) → Keeps v (after_ack v ack)
acked v ack = by_ack (Keeps v) v ack (record { old = refl; beyond = refl; opens = λ received new. refl; octets = λ new. refl; fin = λ new fin. refl })

segment_keeps : (v : View) (s : Segment) → Keeps v (after_segment v s)
segment_keeps v s =
    let told = after_window (after_ack v s.acknowledgement) s in
    let first : Keeps v told = acked v s.acknowledgement in
    let text : Keeps v (after_text told s) = either View (Keeps v) ((length s.octets == 0) || not (is_receiving told.state)) told _ (λ none. first) (λ some. first) in
    by_segment (Keeps v) v s (record { dropped = refl; drawn = refl; reset = λ acts. refl; crossed = λ waits. refl; opened = λ waits right. refl; acknowledged = λ read. acked v s.acknowledgement; read = λ on. by_fin (Keeps v) (after_text told s) s (λ counts. text) text text })

pub hears_kept : (v : View) (s : Segment) (now : Moment) → v.released ≡ false → (after_segment_at v s now).released ≡ false
hears_kept v s now kept =
    by_clock (λ w. w.released ≡ false) v s now kept
    (λ lives. either View (λ w. w.released ≡ false) (is_lost v s) (after_lost v s) (after_segment v s) (λ lost. clash v.released (and_left v.released (is_receiving v.state) (and_left (v.released && is_receiving v.state) (is_read v s) (and_left (v.released && is_receiving v.state && is_read v s) _ lost))) kept)
    (λ stays. segment_keeps v s ∙ kept))

-- It keeps its place.

stays_place : (closed over rejected ends : Bool) → over ≡ false → rejected ≡ false → ends ≡ false → (if closed then Stays else if over then Removed else if rejected then Rejected else if ends then Removed else Stays) ≡ Stays
stays_place true over rejected ends o r e = refl
stays_place false true rejected ends o r e = cc
stays_place false false true ends o r e = cc
stays_place false false false true o r e = cc
stays_place false false false false o r e = refl

over_not : (closed left owes : Bool) → left ≡ false → (closed && left && not owes) ≡ false
over_not true true owes e = cc
over_not true false owes e = refl
over_not false left owes e = refl

ends_none : (sent rst acts accepted syn passive received : Bool) → received ≡ false → (not sent && (if rst then acts && passive && received else accepted && syn && passive && received)) ≡ false
ends_none sent true acts accepted syn passive received e = ap (λ b. not sent && (acts && passive && b)) e ∙ (ap (λ b. not sent && b) (and_false (acts && passive)) ∙ and_false (not sent))
ends_none sent false acts accepted syn passive received e = ap (λ b. not sent && (accepted && syn && passive && b)) e ∙ (ap (λ b. not sent && b) (and_false (accepted && syn && passive)) ∙ and_false (not sent))

pub fate_stays : (v : View) (s : Segment) → is_opening v.state ≡ false → v.released ≡ false → fate v s ≡ Stays
fate_stays v s past kept =
    let states = opened v.state past in
    stays_place (is_closed v.state || is_lost v s) (is_over (after_segment v s)) (is_rejected v s) (ends_opening v s)
    (over_not (is_closed (after_segment v s).state) (after_segment v s).released (after_segment v s).owes_reset (segment_keeps v s ∙ kept)) (not_rejected v s states.0 states.1)
    (ends_none (is_syn_sent v.state) s.flags.rst (is_acting_reset v s) (is_acceptable_to v s) s.flags.syn v.passive (is_syn_received v.state) states.1)

-- The table.

-- no connection of what is silent lives
silent_elsewhere : (local peer : Endpoint) (e : Entry) → IsSilent e → Fails (is_between local peer) e
silent_elsewhere local peer e silent = by_role e.role silent.closed
  where
    by_role : (r : Role) → in_connection true (λ c. is_closed c.state) r ≡ true → is_live_between local peer r ≡ false
    by_role (Connected c listener) closed = ap (λ b. not b && (same_end c.local local && same_end c.peer peer)) closed
    by_role (Listener l b) closed = refl
    by_role (Idle buffers bound) closed = refl
    by_role (Datagrams bound socket) closed = refl

same_end-same : (a b : Endpoint) → a ≡ b → same_end a b ≡ true
same_end-same a b same = both _ (a.port == b.port) (same_addr-same a.addr b.addr (ap (λ (e : Endpoint). e.addr) same)) (eq-eqb a.port b.port (ap (λ (e : Endpoint). e.port) same))

module _ (h : HostView) (id : SocketId) (c : View) (now : Moment) (isn : ℕ) (source : Addr) (s : Segment) (alone : IsAlone h id c) (for : IsFor h c source s) (past : is_opening c.state ≡ false) where
  abbrev pub moment : Moment
  moment = later_moment h.sockets now

  abbrev here : Entry → Bool
  here = is_between (local_end h.sockets s) (peer_end source s)

  abbrev x : Entry
  x = connected id c None

  silent_before : AllByRecursion (Fails here) alone.before
  silent_before = all_of IsSilent (Fails here) (silent_elsewhere (local_end h.sockets s) (peer_end source s)) alone.before alone.silent_before

  is_here : here x ≡ true
  is_here =
      both (not (is_closed c.state)) (same_end c.local (local_end h.sockets s) && same_end c.peer (peer_end source s)) (of_false (is_closed c.state) alone.lives)
      (both (same_end c.local (local_end h.sockets s)) (same_end c.peer (peer_end source s)) (same_end-same c.local (local_end h.sockets s) for.local) (same_end-same c.peer (peer_end source s) for.peer))

  found : find here h.sockets.entries ≡ Some x
  found = ap (λ (l : List Entry). find here l) alone.entries ∙ found_behind here alone.before x alone.behind silent_before is_here

  abbrev pub heard_view : View
  heard_view = after_event c (Event.Hears s moment)

  abbrev offered : List SocketId
  offered = offered_with h.sockets.sizes.entries (is_offered_by (later_moment h.sockets moment) s x.role) id h.sockets.offered

  abbrev next : SocketsView
  next = record h.sockets { entries = alone.before ++ connected id heard_view None ∷ alone.behind; offered = offered }

  becomes : arrival h.sockets moment isn source s ≡ Becomes next
  becomes =
      taken h.sockets moment isn source s x Stays found (fate_stays c s past alone.called) (λ e. cc)
      ∙ (ap (λ (m : Moment). Becomes (record h.sockets { entries = change_first here (with_role (role_after_segment m s)) h.sockets.entries; offered = offered })) (later-twice h.sockets now)
      ∙ (ap (λ (l : List Entry). Becomes (record h.sockets { entries = change_first here (with_role (role_after_segment moment s)) l; offered = offered })) alone.entries
      ∙ ap (λ (l : List Entry). Becomes (record h.sockets { entries = l; offered = offered })) (changed_behind here (with_role (role_after_segment moment s)) alone.before x alone.behind silent_before is_here)))

  pub met_alone : (answer : Result (Unit {0}) DropCause) (new : HostView) → MeetsSegment (segment_arrival h moment isn source s) h moment source answer new → is_closed heard_view.state ≡ false → (answer ≡ Ok tt) × IsAlone new id heard_view × HostStays h new × (new.interface ≡ h.interface)
  met_alone answer new meets lives =
      let met : (answer ≡ Ok tt) × (new ≡ with_sockets h next) = subst (λ (a : Arrival). MeetsSegment (arrival_by_route (is_routed h.interface source) a) h moment source answer new) becomes meets in (
        met.0,
        record {
          before = alone.before;
          behind = alone.behind;
          entries = ap (λ (g : HostView). let t = g.sockets in t.entries) met.1;
          named = alone.named;
          silent_before = alone.silent_before;
          silent_behind = alone.silent_behind;
          lives = lives;
          called = hears_kept c s moment alone.called;
        },
        record { interface = same_but _ _ (ap (λ (g : HostView). g.interface) met.1); moment = ap (λ (g : HostView). let t = g.sockets in t.kept) met.1; addr = ap (λ (g : HostView). let t = g.sockets in t.addr) met.1; manner = ap (λ (g : HostView). let t = g.sockets in t.manner) met.1 },
        ap (λ (g : HostView). g.interface) met.1,
      )

  -- a segment for it opens nothing
  pub opens_none : pair_opened h.sockets source s ≡ None
  opens_none = rw found refl

pub frame_heard : (h : HostView) (id : SocketId) (c : View) (now : Moment) (isn : ℕ) (octets : List ℕ) (source : Addr) (s : Segment) (answer : Result (Unit {0}) DropCause) (new : HostView) → IsAlone h id c → IsFor h c source s
    → is_opening c.state ≡ false → heard_by h octets ≡ Ok (Tcp (record { source = source; segment = s })) → IsDelivered h now isn octets answer new
    → is_closed (after_event c (Event.Hears s (later_moment h.sockets now))).state ≡ false → (answer ≡ Ok tt) × IsAlone new id (after_event c (Event.Hears s (later_moment h.sockets now)))
frame_heard h id c now isn octets source s answer new alone for past is delivered lives =
    let meets = subst (λ (m : Result Meaning DropCause). MeetsHeard m h (later_moment h.sockets now) isn answer new) is delivered in
    let met = met_alone h id c now isn source s alone for past answer new meets lives in
    (met.0, met.1)
