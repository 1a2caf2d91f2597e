-- Why the identifications of datagrams are drawn in turn.
use Rattle.std.proofs.Common.{◌≡◌, ℕ, ◌+◌, ◌%◌, ◌^◌, ◌<◌, Bool, true, false, List, [], ◌∷◌, option_and_then, is_ok, Option, Some, Result, Ok, Err, refl, sym, ◌∙◌, ap, arith}
use Rattle.ipv4.specs.declared.addr.Endpoint.{Endpoint}
use Rattle.udp_socket.specs.SocketView.{SocketView as Queues, with_sent}
use Rattle.sockets.specs.declared.refusal.Refusal.{Refusal}
use Rattle.sockets.specs.declared.entry.SocketId.{SocketId}
use Rattle.sockets.specs.declared.role.Role.TheVariants.{Datagrams}
use Rattle.sockets.specs.Entries.{role_after_sendto}
use Rattle.sockets.specs.SocketsView.{SocketsView, role_of}
use Rattle.sockets.specs.Datagrams.{sending_end, end_sent_from, sendto_answer, next_identification, after_sendto}
use Rattle.sockets.specs.Calls.{bound_of, last_port_after}
use Rattle.sockets.specs.Causes.{Event, SendsTo, after_event}
use Rattle.sockets.specs.Traffic.{datagrams_taken, after_events, datagrams_taken_in}
use Rattle.sockets.proofs.Opened.{socket_changed}
use Rattle.sockets.proofs.Queues.{sendto-given, sent-from}
use Rattle.sockets.proofs.Steps.{IsStepped, followed, joined, stepped}

-- an event that gives no datagram to be sent draws none
undrawn : (h : SocketsView) (e : Event) (w : SocketsView) → datagrams_taken h e ≡ 0 → IsStepped h e w → w.identification ≡ h.identification
undrawn h e w none (followed f) = f.identification none
undrawn h e _ none (joined j) = refl

kept : (n m : ℕ) → n < 2 ^ 16 → m ≡ n → m ≡ (n + 0) % 2 ^ 16
kept n m low same = omega (arith, low, same)

-- what an event draws
drawn : (h : SocketsView) (e : Event) → h.identification < 2 ^ 16 → (let after = after_event h e in after.identification) ≡ (h.identification + datagrams_taken h e) % 2 ^ 16
drawn h (SendsTo id peer octets routed) low = by_end (end_sent_from h id peer octets routed) refl
  where
    by_end : (r : Result Endpoint Refusal) → end_sent_from h id peer octets routed ≡ r → (let after = after_sendto h id peer octets routed in after.identification) ≡ (h.identification + datagrams_taken h (SendsTo id peer octets routed)) % 2 ^ 16
    by_end (Err refusal) given = rw given (kept h.identification h.identification low refl)
    by_end (Ok local) given = rw given
drawn h e low = kept h.identification _ low (undrawn h e (after_event h e) refl (stepped h e))

-- what was drawn before and after
in_turn : (n a b m k : ℕ) → m ≡ (n + a) % 2 ^ 16 → k ≡ (m + b) % 2 ^ 16 → k ≡ (n + (a + b)) % 2 ^ 16
in_turn n a b m k first then = omega (arith, first, then)

below : (n m : ℕ) → m ≡ n % 2 ^ 16 → m < 2 ^ 16
below n m is = omega (arith, is)

pub counted : (h : SocketsView) (events : List Event) → h.identification < 2 ^ 16 → (let after = after_events h events in after.identification) ≡ (h.identification + datagrams_taken_in h events) % 2 ^ 16
counted h [] low = kept h.identification h.identification low refl
counted h (e ∷ rest) low =
    let first = drawn h e low in
    let next : SocketsView = after_event h e in
    in_turn h.identification (datagrams_taken h e) (datagrams_taken_in next rest) next.identification _ first (counted next rest (below (h.identification + datagrams_taken h e) next.identification first))

-- A datagram that is taken stands behind the others.

pub sent_behind : (h : SocketsView) (id : SocketId) (peer : Endpoint) (octets : List ℕ) (routed : Bool) (bound : Option Endpoint) (queues : Queues) → role_of h id ≡ Some (Datagrams bound queues)
    → is_ok (sendto_answer h id peer octets routed) ≡ true → role_of (after_sendto h id peer octets routed) id ≡ Some (Datagrams (sending_end h bound) (with_sent queues h.kept peer h.identification octets))
sent_behind h id peer octets routed bound queues is taken = by_end (end_sent_from h id peer octets routed) refl
  where
    by_end : (r : Result Endpoint Refusal) → end_sent_from h id peer octets routed ≡ r → role_of (after_sendto h id peer octets routed) id ≡ Some (Datagrams (sending_end h bound) (with_sent queues h.kept peer h.identification octets))
    by_end (Err refusal) given = let refused : is_ok (sendto_answer h id peer octets routed) ≡ false = rw given in let bad : true ≡ false = sym taken ∙ refused in cc
    by_end (Ok local) given =
        let from = sent-from h id peer octets routed local given in
        let alike : Datagrams from.bound from.queues ≡ Datagrams bound queues = (let both : Some (Datagrams from.bound from.queues) ≡ Some (Datagrams bound queues) = sym from.role ∙ is in cc) in
        let same_bound : from.bound ≡ bound = cc in
        let sends : sending_end h bound ≡ Some local = ap (λ (b : Option Endpoint). sending_end h b) (sym same_bound) ∙ from.sends in
        ap (λ (w : SocketsView). role_of w id) (sendto-given h id peer octets routed local given)
        ∙ socket_changed (record h { last_port = last_port_after h (option_and_then bound_of (role_of h id)) local.port; identification = next_identification h.identification }) id (role_after_sendto local h.kept peer h.identification octets) (Datagrams bound queues) is refl
        ∙ ap (λ (b : Option Endpoint). Some (Datagrams b (with_sent queues h.kept peer h.identification octets))) (sym sends)
