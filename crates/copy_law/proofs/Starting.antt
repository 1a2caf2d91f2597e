-- A copy before anything was moved.
use Rattle.std.proofs.Common.{◌≡◌, ℕ, ◌^◌, false, List, [], ◌∷◌, ◌++◌, length, Option, Some, None, IfSome, arith, refl, sym, ◌∙◌, ap, subst}
use Rattle.std.specs.List.{find}
use Rattle.ipv4.specs.declared.addr.Pair.{Pair}
use Rattle.interface.specs.Ways.{is_routed}
use Rattle.sockets.specs.declared.entry.Kind.TheVariants.{Tcp}
use Rattle.sockets.specs.declared.entry.SocketId.{SocketId}
use Rattle.sockets.specs.declared.refusal.Refusal.{Refusal}
use Rattle.sockets.specs.SocketsView.{SocketsView}
use Rattle.sockets.specs.Pairs.{socket_pair}
use Rattle.sockets.specs.Calls.{unless_refused, bind_refusal, after_bind, listen_refusal, after_listen, connect_refusal, after_connect}
use Rattle.host.specs.ConfigView.{ConfigView, IsConfig}
use Rattle.host.specs.HostView.{HostView, new_host, with_sockets}
use Rattle.host.specs.Sound.{IsSoundHost}
use Rattle.sides.specs.declared.side.Side.TheVariants.{A, B}
use Rattle.wire_sim.specs.declared.event.Call.{Call}
use Rattle.wire_sim.specs.declared.event.Call.TheVariants as call
use Rattle.wire_sim.specs.declared.event.Event.TheVariants as event
use Rattle.wire_sim.specs.declared.event.Answer.{Answer}
use Rattle.wire_sim.specs.declared.event.Answer.TheVariants as reply
use Rattle.wire_sim.specs.declared.event.Opening.{Opening}
use Rattle.wire_sim.specs.declared.event.Happening.{Happening}
use Rattle.wire_sim.specs.Fairness.{IsUnopened, pair_to_connect}
use Rattle.wire_sim.specs.Openings.{epoch_connected, opened_as}
use Rattle.wire_sim.specs.Runs.{IsReached}
use Rattle.wire_sim.specs.Runs as runs
use Rattle.wire_sim.specs.Steps.{Answers, HostMeetsCall, with_opening, after_call}
use Rattle.wire_sim.specs.Tallies.{is_opening_of}
use Rattle.wire_sim.specs.WorldView.{WorldView, are_alike}
use Rattle.wire_sim.proofs.fairness.FairIsUnrefused.{unrefused}
use Rattle.wire_sim.proofs.told.TraceAndOneMore.{answered, quiet-everywhere, quiet-socket, quiet-bind, quiet-listen, quiet-connect}
use Rattle.copy_law.specs.CopyView.{CopyView}
use Rattle.copy_law.specs.Course.{most_held, MakesSocket, Listens, Connects, Starts}
use Rattle.copy_law.proofs.Standing.{Stands, AreCarried, IsTold, world_of, network_of, reached-more, told-still}

-- a host became one with another table
others : (old new : HostView) (sockets : SocketsView) → new ≡ with_sockets old sockets → new ≡ with_sockets old new.sockets
others old new sockets is = is ∙ ap (with_sockets old) (sym (ap (λ (h : HostView). h.sockets) is))

made-call : (old new : HostView) (id : SocketId) → MakesSocket old id new → HostMeetsCall (record { 0 = 0 }) (call.Socket Tcp) old (reply.Socket id) new
made-call old new id m = record { table = (m.room, m.next, m.made); others = m.others }

-- a call that has no value is done
done-call : (c : Call) (o : Option Refusal) (old new : HostView) (said : Answer) (sockets : SocketsView) → o ≡ None → new ≡ with_sockets old sockets → Answers (unless_refused o (tt {0})) (λ _. said) sockets old.sockets said new.sockets
done-call c o old new said sockets none is = subst (λ (x : Option Refusal). Answers (unless_refused x (tt {0})) (λ _. said) sockets old.sockets said new.sockets) (sym none) (refl, ap (λ (h : HostView). h.sockets) is)

-- Two hosts that opened nothing, and the trace so far, which tells nothing.
record Prepared (a b : HostView) (sender : SocketId) : Type 0 where
  trace : List Happening
  reached : IsReached (2 ^ 30) (world_of a b (record { 0 = 0 }) [] [] [] trace)
  tells : IsTold trace sender None [] [] false false

prepared-first : (a b : ConfigView) (sender : SocketId) → IsConfig a → IsConfig b → are_alike a b ≡ false → Prepared (new_host a) (new_host b) sender
prepared-first a b sender a_is b_is apart = record {
  trace = [];
  reached = runs.begins a b a_is b_is apart (omega arith);
  tells = record { gave = refl; shut = refl; others = λ id e. (refl, refl); none_back = λ id. refl; got = (refl, refl, λ id. (refl, refl)) };
}

socket-at_b : (a b new : HostView) (sender id : SocketId) → IsSoundHost a → MakesSocket b id new → Prepared a b sender → Prepared a new sender
socket-at_b a b new sender id sound m p =
    let h : Happening = answered B (call.Socket Tcp) (reply.Socket id) in
    record {
      trace = p.trace ++ h ∷ [];
      reached = reached-more (world_of a b (record { 0 = 0 }) [] [] [] p.trace) (network_of a new (record { 0 = 0 }) [] [] []) (event.Call B (call.Socket Tcp)) (reply.Socket id) p.reached refl tt sound m.sound (made-call b new id m, refl);
      tells = told-still p.trace h sender None [] [] false false (quiet-everywhere B (call.Socket Tcp) (reply.Socket id) (λ i. quiet-socket B Tcp (reply.Socket id) i)) p.tells;
    }

socket-at_a : (a b new : HostView) (sender id : SocketId) → IsSoundHost b → MakesSocket a id new → Prepared a b sender → Prepared new b sender
socket-at_a a b new sender id sound m p =
    let h : Happening = answered A (call.Socket Tcp) (reply.Socket id) in
    record {
      trace = p.trace ++ h ∷ [];
      reached = reached-more (world_of a b (record { 0 = 0 }) [] [] [] p.trace) (network_of new b (record { 0 = 0 }) [] [] []) (event.Call A (call.Socket Tcp)) (reply.Socket id) p.reached refl tt m.sound sound (made-call a new id m, refl);
      tells = told-still p.trace h sender None [] [] false false (quiet-everywhere A (call.Socket Tcp) (reply.Socket id) (λ i. quiet-socket A Tcp (reply.Socket id) i)) p.tells;
    }

listens-at_b : (a b new : HostView) (sender id : SocketId) → IsSoundHost a → Listens b id new → Prepared a b sender → Prepared a new sender
listens-at_b a b new sender id sound l p =
    let first : Happening = answered B (call.Bind id l.local) reply.Done in
    let second : Happening = answered B (call.Listen id l.backlog) reply.Done in
    let half : WorldView = world_of a l.bound (record { 0 = 0 }) [] [] [] (p.trace ++ first ∷ []) in
    let bound : IsReached (2 ^ 30) half =
    reached-more (world_of a b (record { 0 = 0 }) [] [] [] p.trace) (network_of a l.bound (record { 0 = 0 }) [] [] []) (event.Call B (call.Bind id l.local)) reply.Done p.reached refl l.sized sound l.sound
    (record { table = done-call (call.Bind id l.local) (bind_refusal b.sockets id l.local) b l.bound reply.Done (after_bind b.sockets id l.local) l.may_bind l.is_bound; others = others b l.bound (after_bind b.sockets id l.local) l.is_bound }, refl)
    in
    record {
      trace = (p.trace ++ first ∷ []) ++ second ∷ [];
      reached = reached-more half (network_of a new (record { 0 = 0 }) [] [] []) (event.Call B (call.Listen id l.backlog)) reply.Done bound refl tt sound l.bound_sound
          (record { table = done-call (call.Listen id l.backlog) (listen_refusal l.bound.sockets id l.backlog) l.bound new reply.Done (after_listen l.bound.sockets id l.backlog) l.may_listen l.listening; others = others l.bound new (after_listen l.bound.sockets id l.backlog) l.listening }, refl);
      tells = told-still (p.trace ++ first ∷ []) second sender None [] [] false false (quiet-everywhere B (call.Listen id l.backlog) reply.Done (λ i. quiet-listen B id l.backlog reply.Done i))
          (told-still p.trace first sender None [] [] false false (quiet-everywhere B (call.Bind id l.local) reply.Done (λ i. quiet-bind B id l.local reply.Done i)) p.tells);
    }

-- no opening so far, so none is a second one
fresh_pair : (o : Option Pair) (epoch : Pair → ℕ) → IfSome o (λ pair. IsUnopened [] A pair (epoch pair))
fresh_pair None epoch = tt
fresh_pair (Some pair) epoch = refl

no-frames : (openings : List Opening) (written : List ℕ) → length written ≡ length openings → ((pair : Pair) (epoch : ℕ) → find (is_opening_of B pair epoch) openings ≡ None) → AreCarried [] most_held false [] openings written
no-frames openings written counts none = record {
  frames_are = refl;
  counts = counts;
  within = omega arith;
  unopened = λ e. none;
  noted = λ k f note at is. cc;
}

-- what a copy is at first
abbrev first_of : HostView → HostView → SocketId → CopyView
first_of a b sender = record { a = a; b = b; clock = record { 0 = 0 }; sender = sender; receiver = None; opened = false; allowance = most_held; told = []; sent = []; read = []; closed = false; ended = false }

connects-at_a : (a b new : HostView) (sender : SocketId) → IsSoundHost b → Connects a sender new → Prepared a b sender → Stands (first_of new b sender)
connects-at_a a b new sender sound c p = by_pair (socket_pair new.sockets sender) refl
  where
    w : WorldView
    w = world_of a b (record { 0 = 0 }) [] [] [] p.trace

    h : Happening
    h = answered A (call.Connect c.isn sender c.peer) reply.Started

    finish : (openings : List Opening) (written : List ℕ) → network_of new b (record { 0 = 0 }) [] openings written ≡ after_call A (call.Connect c.isn sender c.peer) reply.Started (length p.trace) w.network new → AreCarried [] most_held false [] openings written
        → Stands (first_of new b sender)
    finish openings written is carried = record {
      frames = [];
      openings = openings;
      written = written;
      trace = p.trace ++ h ∷ [];
      reached = reached-more w (network_of new b (record { 0 = 0 }) [] openings written) (event.Call A (call.Connect c.isn sender c.peer)) reply.Started p.reached
          ((unrefused w (event.Call A (call.Connect c.isn sender c.peer))).1 (fresh_pair (pair_to_connect a sender c.peer) (λ pair. epoch_connected [] b.sockets pair))) c.sized c.sound sound
          (record { table = done-call (call.Connect c.isn sender c.peer) (connect_refusal a.sockets sender c.peer (is_routed a.interface c.peer.addr)) a new reply.Started (after_connect a.sockets (record { 0 = 0 }) c.isn.0 sender c.peer (is_routed a.interface c.peer.addr)) c.may c.connecting; others = others a new (after_connect a.sockets (record { 0 = 0 }) c.isn.0 sender c.peer (is_routed a.interface c.peer.addr)) c.connecting }, is);
      carried = carried;
      tells = told-still p.trace h sender None [] [] false false (quiet-everywhere A (call.Connect c.isn sender c.peer) reply.Started (λ i. quiet-connect A c.isn sender c.peer reply.Started i)) p.tells;
    }

    by_pair : (o : Option Pair) → socket_pair new.sockets sender ≡ o → Stands (first_of new b sender)
    by_pair None is = finish [] [] (sym (ap (λ x. with_opening (network_of new b (record { 0 = 0 }) [] [] []) (opened_as [] A sender (length p.trace) b.sockets x)) is)) (no-frames [] [] refl (λ pair epoch. refl))
    by_pair (Some pair) is =
        let o : Opening = record { side = A; pair = pair; epoch = epoch_connected [] b.sockets pair; id = sender; place = length p.trace } in
        finish (o ∷ []) (0 ∷ []) (sym (ap (λ x. with_opening (network_of new b (record { 0 = 0 }) [] [] []) (opened_as [] A sender (length p.trace) b.sockets x)) is)) (no-frames (o ∷ []) (0 ∷ []) refl (λ pair epoch. refl))

pub stands-first : (v : CopyView) → Starts v → Stands v
stands-first v s =
    let fresh = prepared-first s.config_a s.config_b v.sender s.set_up_a s.set_up_b s.apart in
    let made = socket-at_b (new_host s.config_a) (new_host s.config_b) s.b_made v.sender s.listener s.a_socket.sound s.b_socket fresh in
    let ready = listens-at_b (new_host s.config_a) s.b_made v.b v.sender s.listener s.a_socket.sound s.b_listens made in
    let socket = socket-at_a (new_host s.config_a) v.b s.a_made v.sender v.sender s.sound_b s.a_socket ready in
    subst Stands (sym s.others) (connects-at_a s.a_made v.b v.a v.sender s.sound_b s.a_connects socket)
