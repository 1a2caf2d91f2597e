-- A reader that has octets to be read reads some.
use Rattle.std.proofs.Common.{◌≡◌, ℕ, ◌==◌, ◌<◌, ◌&&◌, min, not, Bool, true, false, List, length, Option, Some, None, option_map, is_some, Result, Ok, refl, subst, arith}
use Rattle.std.specs.List.{find}
use Rattle.std.proofs.lemmas.Bool.{eqb-true}
use Rattle.tcp_state.specs.declared.calls.Received.{Received}
use Rattle.tcp_state.specs.declared.calls.Received.TheVariants as received
use Rattle.tcp_state.specs.declared.calls.Refusal.{Refusal as Error}
use Rattle.tcp_state.specs.View.{View, IsSound, is_closed, is_opening}
use Rattle.sockets.specs.declared.entry.Entry.{Entry}
use Rattle.sockets.specs.declared.entry.SocketId.{SocketId}
use Rattle.sockets.specs.declared.refusal.Refusal.{Refusal}
use Rattle.sockets.specs.declared.role.Role.TheVariants.{Connected}
use Rattle.sockets.specs.Calls.{recv_answer}
use Rattle.sockets.specs.Entries.{is_socket}
use Rattle.sockets.specs.Sound.{IsSoundRole, IsSoundTable}
use Rattle.sockets.specs.SocketsView.{SocketsView, role_of}
use Rattle.sockets.proofs.Calling.{recv_answered}
use Rattle.host.specs.Sound.{IsSoundHost}
use Rattle.sides.specs.declared.side.Side.{Side}
use Rattle.wire_sim.specs.declared.event.Call.TheVariants as call
use Rattle.wire_sim.specs.declared.event.Event.TheVariants as event
use Rattle.wire_sim.specs.declared.event.Answer.{Answer}
use Rattle.wire_sim.specs.declared.event.Answer.TheVariants as reply
use Rattle.wire_sim.specs.Exchanges.{EveryReaderReads}
use Rattle.wire_sim.specs.Rounds.{read_at_once, Receives, none, one_more, EndsReading}
use Rattle.wire_sim.specs.Runs.{IsStep}
use Rattle.wire_sim.specs.Steps.{recv_len, MeetsReceived}
use Rattle.wire_sim.specs.WorldView.{WorldView, host_of, table_of}
use Rattle.wire_sim.proofs.HostsRun.{sound-at}
use Rattle.wire_sim.proofs.lists.FoundAfterChange.{All-find}
use Rattle.wire_sim.proofs.rounds.ReadsInTurn.{fewer_unread}

-- the connection of a socket of a sound table is sound
socket-sound : (h : SocketsView) (id : SocketId) (c : View) (l : Option SocketId) → IsSoundTable h → role_of h id ≡ Some (Connected c l) → IsSound c
socket-sound h id c l table named = by_entry (find (is_socket id) h.entries) refl named
  where
    by_entry : (o : Option Entry) → find (is_socket id) h.entries ≡ o → option_map (λ (e : Entry). e.role) o ≡ Some (Connected c l) → IsSound c
    by_entry None at is = cc
    by_entry (Some e) at is =
        let role : e.role ≡ Connected c l = cc in
        let solid : IsSoundRole (Connected c l) = subst IsSoundRole role (All-find (λ (x : Entry). IsSoundRole x.role) (is_socket id) h.entries e table.entries at) in
        solid.sound

-- no error is pending where it is not CLOSED
untold : (c : View) → IsSound c → is_closed c.state ≡ false → c.pending_error ≡ None
untold c sound lives = by_error c.pending_error (is_closed c.state) lives sound.error
  where
    by_error : (o : Option Error) (closed : Bool) → closed ≡ false → (is_some o && not closed) ≡ false → o ≡ None
    by_error None closed open_ none_told = refl
    by_error (Some e) true open_ none_told = cc
    by_error (Some e) false open_ none_told = cc

some-left : (xs : List ℕ) → 0 < length xs → (length xs == 0) ≡ false
some-left xs some = by_test (length xs == 0) refl
  where
    by_test : (b : Bool) → (length xs == 0) ≡ b → b ≡ false
    by_test true is = let none_left = eqb-true (length xs) 0 is in absurd (omega (arith, some, none_left))
    by_test false is = refl

-- so the first receive doesn't end the reading
goes-on-reading : (side : Side) (id : SocketId) (c : View) (w v : WorldView) (told : Answer) → role_of (table_of w.network side) id ≡ Some (Connected c None) → is_opening c.state ≡ false → is_closed c.state ≡ false
    → 0 < length c.receiving.readable → IsStep (event.Call side (call.Recv id read_at_once)) told w v → EndsReading told → ⊥
goes-on-reading side id c w v told named past lives some step ends = by_told told ends (subst (λ (r : Result Received Refusal). MeetsReceived h id (recv_len read_at_once) r told (table_of v.network side)) answers step.network.0.table)
  where
    h : SocketsView
    h = table_of w.network side

    count : ℕ
    count = min (recv_len read_at_once) (length c.receiving.readable)

    sound : IsSoundHost (host_of w.network side)
    sound = sound-at w v step side

    answers : recv_answer h id (recv_len read_at_once) ≡ Ok (received.Octets count)
    answers = recv_answered h id c named (recv_len read_at_once) (untold c (socket-sound h id c None sound.table named) lives) past (some-left c.receiving.readable some) refl

    by_told : (told : Answer) → EndsReading told → MeetsReceived h id (recv_len read_at_once) (Ok (received.Octets count)) told (table_of v.network side) → ⊥
    by_told (reply.Octets octets) ends meets = ends
    by_told _ ends meets = meets

pub readers-read : EveryReaderReads
readers-read side id count c old new named past lives some reads = by_octets count reads.read reads.octets reads.ends
  where
    by_octets : (count : ℕ) (read : WorldView) → Receives side id count old read → IsStep (event.Call side (call.Recv id read_at_once)) reads.told read new → 0 < count
    by_octets _ _ (none x) ends = absurd (goes-on-reading side id c x new reads.told named past lives some ends reads.last)
    by_octets _ _ (one_more n octets w m v so_far step) ends = let more = fewer_unread side id octets m v step in omega (arith, more.some)
