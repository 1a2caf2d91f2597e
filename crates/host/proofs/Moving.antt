-- What is heard moves no entry of the table but one.
use Rattle.std.proofs.Common.{◌≡◌, ◌≢◌, inl, inr, ℕ, ◌<◌, ◌==◌, ◌&&◌, ◌||◌, not, Bool, true, false, cond, List, [], ◌∷◌, ◌++◌, Option, Some, None, Result, Ok, Err, refl, sym, ◌∙◌, ap, subst, ⊎_elim, arith}
use Rattle.std.specs.List.{find}
use Rattle.std.proofs.lemmas.Bool.{and_parts, eqb-true, or_cases}
use Rattle.std.proofs.lemmas.Bool.Decides.{nat_tests}
use Rattle.ipv4.specs.declared.addr.Addr.{Addr}
use Rattle.ipv4.specs.Datagram.{Datagram}
use Rattle.clock.specs.declared.moment.Moment.{Moment}
use Rattle.icmp.specs.declared.quote.Quote.{Quote}
use Rattle.icmp.specs.Message.{Message}
use Rattle.icmp.specs.Reading.{quote_in}
use Rattle.udp.specs.declared.fault.UdpFault.{UdpFault}
use Rattle.udp.specs.Datagram.{UserDatagram}
use Rattle.udp.specs.Reading.{datagram_or_fault}
use Rattle.tcp_segment.specs.declared.head.Head.{Head}
use Rattle.tcp_halves.specs.Stream.{outstanding}
use Rattle.tcp_state.specs.declared.state.State.{State}
use Rattle.tcp_state.specs.declared.state.State.TheVariants.{SynSent}
use Rattle.tcp_state.specs.Unreachable.{is_unreachable, unreachable_fate}
use Rattle.tcp_state.specs.View.{View, is_closed, is_syn_sent}
use Rattle.frames.specs.declared.drop.DropCause.{DropCause}
use Rattle.frames.specs.declared.meaning.Control.{Control}
use Rattle.frames.specs.declared.meaning.Meaning.{Meaning}
use Rattle.frames.specs.declared.meaning.Meaning.TheVariants.{Arp, Tcp, Icmp, Udp, Other, UdpFragment}
use Rattle.frames.specs.declared.meaning.ReceivedSegment.{ReceivedSegment}
use Rattle.interface.specs.Ways.{is_routed}
use Rattle.reassembly.specs.Places.{after_take}
use Rattle.reassembly.specs.Reassembly.{Outcome}
use Rattle.reassembly.specs.Reassembly.Outcome.{Waits, Completes, GivesUp}
use Rattle.sockets.specs.declared.datagrams.Reception.{Reception}
use Rattle.sockets.specs.declared.datagrams.Reception.TheVariants as socket
use Rattle.sockets.specs.declared.entry.Entry.{Entry}
use Rattle.sockets.specs.declared.entry.SocketId.{SocketId}
use Rattle.sockets.specs.declared.role.Role.{Role}
use Rattle.sockets.specs.declared.role.Role.TheVariants.{Idle, Listener, Connected, Datagrams}
use Rattle.sockets.specs.Arrival.{Opens, arrival_with_reply, local_end, peer_end}
use Rattle.sockets.specs.Causes.{Hears, HearsDatagram, Follows}
use Rattle.sockets.specs.Datagrams.{reception}
use Rattle.sockets.specs.Entries.{is_between, is_kept, role_after_segment, role_after_unreachable, unreachable_fate_of, with_role}
use Rattle.sockets.specs.SocketsView.{SocketsView, later_moment}
use Rattle.sockets.specs.Traffic.{streams}
use Rattle.sockets.specs.Unreachable.{after_unreachable as table_after_unreachable}
use Rattle.sockets.proofs.Arrivals.{after_taking, by_arrival}
use Rattle.sockets.proofs.Caused.{joining_added}
use Rattle.sockets.proofs.Followed.{as_it_was, by_test, joined_by, settled_followed}
use Rattle.sockets.proofs.Steps.{called}
use Rattle.sockets.proofs.Told.{told-found, told-none}
use Rattle.sockets.proofs.Traffic.{no_stream_moves}
use Rattle.host.specs.Arrival.{IsDelivered, MeetsFragment, MeetsHeard, MeetsMessage, MeetsSegment, after_outcome, after_payload, after_user_datagram, arrival_by_route, fragment_outcome, is_late_copy, pool_for, segment_arrival, with_noted}
use Rattle.host.specs.Heard.{heard_by}
use Rattle.host.specs.Duties.{IsHardError}
use Rattle.host.specs.HostView.{HostView, with_pool, with_sockets}
use Rattle.host.specs.Messages.{Told, Asks, Refuses, Nothing, error_of_quote, is_echo_request, is_hard, of_segment, refused_quote, told_by}
use Rattle.host.specs.Met.{IsMetBy, IsNoEntry, IsOpenedAtMost, IsQuotedBy, StaysUnless}

-- Tables as they were.

-- none moves where the entries are the same
none-moves : (May : Entry → Type 0) (Added : List Entry → Type 0) (xs ys : List Entry) → Added [] → ys ≡ xs → Follows (StaysUnless May) Added xs ys
none-moves May Added xs ys none same = subst (Follows (StaysUnless May) Added xs) (sym same) (as_it_was (StaysUnless May) Added none (λ x. inl refl) xs)

-- the entries of a host that is another
entries-of : (left new : HostView) → new ≡ left → new.sockets.entries ≡ left.sockets.entries
entries-of left new is = ap (λ (w : HostView). w.sockets.entries) is

-- A segment.

module _ (h : HostView) (moment : Moment) (isn : ℕ) (r : ReceivedSegment) (answer : Result (Unit {0}) DropCause) (new : HostView) where
  abbrev IsMoved : List Entry → Type 0
  IsMoved entries = Follows (StaysUnless (IsMetBy h r)) (IsOpenedAtMost h r) h.sockets.entries entries

  by_entries : (entries : List Entry) → new.sockets.entries ≡ entries → IsMoved entries → IsMoved new.sockets.entries
  by_entries entries is moved = subst IsMoved (sym is) moved

  unmoved : (left : HostView) → new ≡ left → left.sockets.entries ≡ h.sockets.entries → IsMoved new.sockets.entries
  unmoved left is same = none-moves (IsMetBy h r) (IsOpenedAtMost h r) h.sockets.entries new.sockets.entries (inl refl) (entries-of left new is ∙ same)

  pub segment-moves : MeetsSegment (segment_arrival h moment isn r.source r.segment) h moment r.source answer new → IsMoved new.sockets.entries
  segment-moves =
      by_arrival h.sockets moment isn r.source r.segment (λ a. (routed : Bool) → MeetsSegment (arrival_by_route routed a) h moment r.source answer new → IsMoved new.sockets.entries)
      (λ reply is. replied reply)
      (λ first taker routed met.
      by_entries _ (entries-of (with_sockets h (after_taking h.sockets moment r.source r.segment first)) new met.1)
      (settled_followed (StaysUnless (IsMetBy h r)) (IsOpenedAtMost h r) (inl refl) _ (is_between (local_end h.sockets r.segment) (peer_end r.source r.segment)) (role_after_segment (later_moment h.sockets moment) r.segment) h.sockets.entries (λ x. inl refl)
      (λ kept x passes found. inr (found, refl)) (λ gone x passes found. found)))
      (λ listener call full routed met. unmoved h met.1 refl)
      (λ listener call room routed met. by_route _ _ (joining_added h.sockets (Hears moment isn r.source r.segment) _ (called moment isn r.source r.segment listener call)) routed met)
      (is_routed h.interface r.source)
    where
      replied : (reply : Option Head) (routed : Bool) → MeetsSegment (arrival_by_route routed (arrival_with_reply h.sockets reply)) h moment r.source answer new → IsMoved new.sockets.entries
      replied None routed met = unmoved (with_sockets h h.sockets) met.1 refl
      replied (Some head) routed met = unmoved _ met.1 refl

      opened : (next : SocketsView) → IsMoved next.entries → (told : Result (Unit {0}) DropCause) → MeetsSegment (Opens next) h moment r.source told new → IsMoved new.sockets.entries
      opened next moved (Ok done) met = by_entries next.entries (entries-of (with_sockets h next) new met) moved
      opened next moved (Err cause) met = unmoved h met.1 refl

      by_route : (last_id : ℕ) (x : Entry) → IsOpenedAtMost h r (x ∷ []) → (routed : Bool)
          → MeetsSegment (arrival_by_route routed (Opens (record h.sockets { last_id = last_id; entries = h.sockets.entries ++ x ∷ [] }))) h moment r.source answer new → IsMoved new.sockets.entries
      by_route last_id x added true met =
          opened (record h.sockets { last_id = last_id; entries = h.sockets.entries ++ x ∷ [] }) (joined_by (StaysUnless (IsMetBy h r)) (IsOpenedAtMost h r) (λ y. inl refl) h.sockets.entries (x ∷ []) added) answer met
      by_route last_id x added false met = unmoved h met.1 refl

pub segment-met : (h : HostView) (now : Moment) (isn : ℕ) (octets : List ℕ) (r : ReceivedSegment) (answer : Result (Unit {0}) DropCause) (new : HostView) → heard_by h octets ≡ Ok (Tcp r) → IsDelivered h now isn octets answer new
    → Follows (StaysUnless (IsMetBy h r)) (IsOpenedAtMost h r) h.sockets.entries new.sockets.entries
segment-met h now isn octets r answer new is delivered =
    segment-moves h (later_moment h.sockets now) isn r answer new (subst (λ (m : Result Meaning DropCause). MeetsHeard m h (later_moment h.sockets now) isn answer new) is delivered)

-- A message.

-- what a hard error quotes of a segment
record IsHardQuote (m : Message) (quote : Quote) : Type 0 where
  hard : IsHardError m
  quotes : quote_in m.payload ≡ Some quote
  of_tcp : quote.protocol.0 ≡ 6

hard-is : (m : Message) → is_hard m ≡ true → IsHardError m
hard-is m is =
    let parts = and_parts (m.kind == 3) (m.code == 2 || m.code == 3 || m.code == 4) is in record {
      kind = eqb-true m.kind 3 parts.0;
      code = ⊎_elim (λ rest. ⊎_elim (λ two. inl (eqb-true m.code 2 two)) (λ three. inr (inl (eqb-true m.code 3 three))) (or_cases (m.code == 2) (m.code == 3) rest)) (λ four. inr (inr (eqb-true m.code 4 four))) (or_cases (m.code == 2 || m.code == 3) (m.code == 4) parts.1);
    }

refuses-is : (m : Message) (quote : Quote) → refused_quote m ≡ Some quote → IsHardQuote m quote
refuses-is m quote is = by_hard (is_hard m) refl is
  where
    by_protocol : is_hard m ≡ true → (q : Quote) → quote_in m.payload ≡ Some q → (b : Bool) → (q.protocol.0 == 6) ≡ b → cond b (Some q) None ≡ Some quote → IsHardQuote m quote
    by_protocol hard q read true tcp e = let same : q ≡ quote = cc in subst (IsHardQuote m) same (record { hard = hard-is m hard; quotes = read; of_tcp = eqb-true q.protocol.0 6 tcp })
    by_protocol hard q read false tcp e = cc

    by_quote : is_hard m ≡ true → (o : Option Quote) → quote_in m.payload ≡ o → of_segment o ≡ Some quote → IsHardQuote m quote
    by_quote hard None read e = cc
    by_quote hard (Some q) read e = by_protocol hard q read (q.protocol.0 == 6) refl e

    by_hard : (b : Bool) → is_hard m ≡ b → cond b (of_segment (quote_in m.payload)) None ≡ Some quote → IsHardQuote m quote
    by_hard true hard e = by_quote hard (quote_in m.payload) refl e
    by_hard false hard e = cc

refused-by : (m : Message) (quote : Quote) → told_by m ≡ Refuses quote → IsHardQuote m quote
refused-by m quote told = by_echo (is_echo_request m) told
  where
    by_quote : (o : Option Quote) → refused_quote m ≡ o → error_of_quote o ≡ Refuses quote → IsHardQuote m quote
    by_quote None is e = cc
    by_quote (Some q) is e = let same : q ≡ quote = cc in refuses-is m quote (is ∙ ap Some same)

    by_echo : (b : Bool) → cond b Asks (error_of_quote (refused_quote m)) ≡ Refuses quote → IsHardQuote m quote
    by_echo true e = cc
    by_echo false e = by_quote (refused_quote m) refl e

syn_sent-is : (state : State) → is_syn_sent state ≡ true → state ≡ SynSent
syn_sent-is state is = grind arith

-- a SYN has gone out where something is outstanding
gone-out : (n : ℕ) → not (n == 0) ≡ true → 0 < n
gone-out n some = grind (arith, nat_tests, some)

not-closed : (a b : Bool) → (not a && b) ≡ true → a ≡ false
not-closed false b is = refl
not-closed true b is = cc

module _ (h : HostView) (m : Message) (quote : Quote) (told : IsHardQuote m quote) where
  abbrev Moved : Entry → Option Entry → Type 0
  Moved = StaysUnless (IsQuotedBy h m)

  quoted : (id : SocketId) (v : View) (l : Option SocketId) → find (is_between quote.source quote.destination) h.sockets.entries ≡ Some (record { id = id; role = Connected v l }) → is_unreachable v quote.number ≡ true
      → IsQuotedBy h m (record { id = id; role = Connected v l })
  quoted id v l found ends =
      let one = and_parts (is_syn_sent v.state && not (outstanding v.sending == 0)) (v.sending.una == quote.number) ends in
      let two = and_parts (is_syn_sent v.state) (not (outstanding v.sending == 0)) one.0 in record {
        hard = told.hard;
        quote = quote;
        quotes = told.quotes;
        of_segment = told.of_tcp;
        between = found;
        connection = v;
        listener = l;
        connected = refl;
        state = syn_sent-is v.state two.0;
        sent = gone-out (outstanding v.sending) two.1;
        number = sym (eqb-true v.sending.una quote.number one.1);
      }

  changed : (x : Entry) → find (is_between quote.source quote.destination) h.sockets.entries ≡ Some x → Moved x (Some (with_role (role_after_unreachable quote.number) x))
  changed x found = by_role x.role found
    where
      by_role : (role : Role) → find (is_between quote.source quote.destination) h.sockets.entries ≡ Some (record { id = x.id; role = role }) → Moved (record { id = x.id; role = role }) (Some (record { id = x.id; role = role_after_unreachable quote.number role }))
      by_role (Connected v l) at = by_test (is_unreachable v quote.number) (λ ends. inr (quoted x.id v l at ends, refl)) (λ other. rw other (inl refl))
      by_role (Listener local b) at = inl refl
      by_role (Idle buffers bound) at = inl refl
      by_role (Datagrams bound s) at = inl refl

  removed : (x : Entry) → is_between quote.source quote.destination x ≡ true → find (is_between quote.source quote.destination) h.sockets.entries ≡ Some x → is_kept (unreachable_fate_of quote.number x.role) ≡ false → Moved x None
  removed x passes found gone = by_role x.role passes found gone
    where
      by_role : (role : Role) → is_between quote.source quote.destination (record { id = x.id; role = role }) ≡ true → find (is_between quote.source quote.destination) h.sockets.entries ≡ Some (record { id = x.id; role = role })
          → is_kept (unreachable_fate_of quote.number role) ≡ false → Moved (record { id = x.id; role = role }) None
      by_role (Connected v l) passes at gone =
          by_test (is_unreachable v quote.number) (λ ends. quoted x.id v l at ends)
          (λ other.
          let live : is_closed v.state ≡ false = not-closed (is_closed v.state) _ passes in
          let stays : is_kept (unreachable_fate v quote.number) ≡ true = rw (other, live) refl in cc)
      by_role _ passes at gone = cc

  told-moves : Follows Moved IsNoEntry h.sockets.entries (let w : SocketsView = table_after_unreachable h.sockets quote.source quote.destination quote.number in w.entries)
  told-moves = by_entry (find (is_between quote.source quote.destination) h.sockets.entries) refl
    where
      P : SocketsView → Type 0
      P w = Follows Moved IsNoEntry h.sockets.entries w.entries

      by_entry : (o : Option Entry) → find (is_between quote.source quote.destination) h.sockets.entries ≡ o → P (table_after_unreachable h.sockets quote.source quote.destination quote.number)
      by_entry None found = subst P (sym (told-none h.sockets quote.source quote.destination quote.number found)) (none-moves (IsQuotedBy h m) IsNoEntry h.sockets.entries h.sockets.entries refl refl)
      by_entry (Some first) found =
          subst P (sym (told-found h.sockets quote.source quote.destination quote.number first found))
          (settled_followed Moved IsNoEntry refl (unreachable_fate_of quote.number first.role) (is_between quote.source quote.destination) (role_after_unreachable quote.number) h.sockets.entries (λ x. inl refl)
          (λ kept x passes at. changed x at)
          (λ gone x passes at. removed x passes at (let same : x ≡ first = cc in ap (λ (e : Entry). is_kept (unreachable_fate_of quote.number e.role)) same ∙ gone)))

message-moves : (h : HostView) (moment : Moment) (c : Control) (answer : Result (Unit {0}) DropCause) (new : HostView) → MeetsMessage (told_by c.message) h moment c answer new
    → Follows (StaysUnless (IsQuotedBy h c.message)) IsNoEntry h.sockets.entries new.sockets.entries
message-moves h moment c answer new met = by_echo (told_by c.message) refl met
  where
    unmoved-by : (left : HostView) → new ≡ left → left.sockets.entries ≡ h.sockets.entries → Follows (StaysUnless (IsQuotedBy h c.message)) IsNoEntry h.sockets.entries new.sockets.entries
    unmoved-by left is same = none-moves (IsQuotedBy h c.message) IsNoEntry h.sockets.entries new.sockets.entries refl (entries-of left new is ∙ same)

    by_echo : (told : Told) → told_by c.message ≡ told → MeetsMessage told h moment c answer new → Follows (StaysUnless (IsQuotedBy h c.message)) IsNoEntry h.sockets.entries new.sockets.entries
    by_echo Asks is met = unmoved-by _ met.1 refl
    by_echo Nothing is met = unmoved-by h met.1 refl
    by_echo (Refuses quote) is met =
        subst (Follows (StaysUnless (IsQuotedBy h c.message)) IsNoEntry h.sockets.entries) (sym (entries-of (with_sockets h (table_after_unreachable h.sockets quote.source quote.destination quote.number)) new met.1))
        (told-moves h c.message quote (refused-by c.message quote is))

pub message-met : (h : HostView) (now : Moment) (isn : ℕ) (octets : List ℕ) (c : Control) (answer : Result (Unit {0}) DropCause) (new : HostView) → heard_by h octets ≡ Ok (Icmp c) → IsDelivered h now isn octets answer new
    → Follows (StaysUnless (IsQuotedBy h c.message)) IsNoEntry h.sockets.entries new.sockets.entries
message-met h now isn octets c answer new is delivered =
    message-moves h (later_moment h.sockets now) c answer new (subst (λ (m : Result Meaning DropCause). MeetsHeard m h (later_moment h.sockets now) isn answer new) is delivered)

-- All else.

abbrev SameStreams : HostView → HostView → Type 0
SameStreams h new = streams new.sockets ≡ streams h.sockets

streams-of : (h left new : HostView) → new ≡ left → SameStreams h left → SameStreams h new
streams-of h left new is same = ap (λ (w : HostView). streams w.sockets) is ∙ same

user-still : (h : HostView) (to : Reception) (moment : Moment) (source : Addr) (d : UserDatagram) (quote : List ℕ) → SameStreams h (after_user_datagram to h moment source d quote)
user-still h socket.Queued moment source d quote = no_stream_moves h.sockets (HearsDatagram source d) refl
user-still h socket.NoRoom moment source d quote = refl
user-still h socket.NoSocket moment source d quote = refl

payload-still : (h : HostView) (read : Result UserDatagram UdpFault) (moment : Moment) (source : Addr) (quote : List ℕ) → SameStreams h (after_payload read h moment source quote)
payload-still h (Ok d) moment source quote = user-still h (reception h.sockets d) moment source d _
payload-still h (Err fault) moment source quote = refl

outcome-still : (h : HostView) (outcome : Outcome) (moment : Moment) (d : Datagram) → SameStreams h (after_outcome outcome h moment d)
outcome-still h (Waits r) moment d = refl
outcome-still h GivesUp moment d = refl
outcome-still h (Completes payload quote) moment d = payload-still (with_noted h moment d) (datagram_or_fault d.source d.destination payload) moment d.source quote

fragment-still : (h : HostView) (outcome : Option Outcome) (late : Bool) (moment : Moment) (d : Datagram) (answer : Result (Unit {0}) DropCause) (new : HostView) → MeetsFragment outcome late h moment d answer new → SameStreams h new
fragment-still h None late moment d answer new met = streams-of h h new met.1 refl
fragment-still h (Some outcome) true moment d answer new met = streams-of h h new met.1 refl
fragment-still h (Some outcome) false moment d answer new met = streams-of h _ new met.1 (outcome-still (with_pool h (after_take moment d (pool_for h.sockets.manner.guards d h.pool))) outcome moment d)

heard-still : (h : HostView) (moment : Moment) (isn : ℕ) (answer : Result (Unit {0}) DropCause) (new : HostView) (m : Result Meaning DropCause) → ((r : ReceivedSegment) → m ≢ Ok (Tcp r)) → ((c : Control) → m ≢ Ok (Icmp c))
    → MeetsHeard m h moment isn answer new → SameStreams h new
heard-still h moment isn answer new (Ok (Arp packet)) no_segment no_message met = streams-of h _ new met.1 refl
heard-still h moment isn answer new (Ok (Tcp r)) no_segment no_message met = absurd (no_segment r refl)
heard-still h moment isn answer new (Ok (Icmp c)) no_segment no_message met = absurd (no_message c refl)
heard-still h moment isn answer new (Ok (Udp r)) no_segment no_message met = streams-of h _ new met.1 (user-still h (reception h.sockets r.datagram) moment r.carrier.source r.datagram _)
heard-still h moment isn answer new (Ok (UdpFragment d)) no_segment no_message met = fragment-still h (fragment_outcome moment d (pool_for h.sockets.manner.guards d h.pool)) (is_late_copy h moment d) moment d answer new met
heard-still h moment isn answer new (Ok (Other d)) no_segment no_message met = streams-of h _ new met.1 refl
heard-still h moment isn answer new (Err cause) no_segment no_message met = streams-of h h new met.1 refl

pub others-met : (h : HostView) (now : Moment) (isn : ℕ) (octets : List ℕ) (answer : Result (Unit {0}) DropCause) (new : HostView) → ((r : ReceivedSegment) → heard_by h octets ≢ Ok (Tcp r)) → ((c : Control) → heard_by h octets ≢ Ok (Icmp c))
    → IsDelivered h now isn octets answer new → streams new.sockets ≡ streams h.sockets
others-met h now isn octets answer new no_segment no_message delivered = heard-still h (later_moment h.sockets now) isn answer new (heard_by h octets) no_segment no_message delivered
