-- A call of one of the two hosts, and a tick of both.
use Rattle.std.proofs.Common.{◌≡◌, ℕ, ◌-◌, ◌≤◌, ◌^◌, Bool, true, List, [], ◌∷◌, ◌++◌, length, take, Option, Some, None, Result, Ok, arith, refl, sym, ◌∙◌, ap, subst, append-nil}
use Rattle.std.specs.Global.{Vec}
use Rattle.clock.specs.declared.moment.Moment.{Moment}
use Rattle.ipv4.specs.declared.addr.Endpoint.{Endpoint}
use Rattle.tcp_state.specs.declared.calls.Received.{Received}
use Rattle.tcp_state.specs.declared.calls.Received.TheVariants as received
use Rattle.sockets.specs.declared.entry.SocketId.{SocketId}
use Rattle.sockets.specs.declared.refusal.Refusal.{Refusal}
use Rattle.sockets.specs.SocketsView.{SocketsView}
use Rattle.sockets.specs.Calls.{unless_refused, accept_answer, after_accept, send_answer, after_send, recv_answer, after_recv, shutdown_refusal, after_shutdown}
use Rattle.host.specs.HostView.{with_sockets}
use Rattle.host.specs.Sound.{IsSoundHost}
use Rattle.host.specs.Ticks.{after_tick}
use Rattle.sides.specs.declared.side.Side.TheVariants.{A, B}
use Rattle.wire_sim.specs.declared.event.Call.TheVariants as call
use Rattle.wire_sim.specs.declared.event.Event.TheVariants as event
use Rattle.wire_sim.specs.declared.event.Answer.{Answer}
use Rattle.wire_sim.specs.declared.event.Answer.TheVariants as reply
use Rattle.wire_sim.specs.declared.event.Opening.{Opening}
use Rattle.wire_sim.specs.declared.event.Happening.{Happening}
use Rattle.wire_sim.specs.declared.world.bag.Frame.{Frame}
use Rattle.wire_sim.specs.Runs.{IsReached}
use Rattle.wire_sim.specs.Steps.{Answers, MeetsReceived, readable_on, recv_len}
use Rattle.wire_sim.specs.Tallies.{counts_after}
use Rattle.wire_sim.specs.Trace.{sent_on}
use Rattle.wire_sim.specs.WorldView.{NetworkView, WorldView}
use Rattle.wire_sim.proofs.pairing.WorldAsPairings.{told}
use Rattle.wire_sim.proofs.tables.TableById.{Account}
use Rattle.wire_sim.proofs.told.TraceAndOneMore.{answered, IsQuiet, eqb-swap, sent_on-added, other-quiet, quiet-accept, quiet-tick, quiet-everywhere}
use Rattle.wire_sim.proofs.told.AccountAndOneMore.{sends-told, closes-told, receives-told, ends-told}
use Rattle.devices.specs.Passages.{Passage}
use Rattle.copy_law.specs.CopyView.{CopyView}
use Rattle.copy_law.specs.Course.{most_held, clock_after}
use Rattle.copy_law.proofs.Vectors.{held}
use Rattle.copy_law.proofs.Counts.{written_by-counted, length-counted}
use Rattle.copy_law.proofs.Standing.{Stands, AreCarried, IsTold, IsGot, IsSilent, world_of, network_of, reached-more, told-still, sent-quiet, closed-quiet, got-quiet}

-- What a call of a tells.

-- a took octets
told-sent : (v : CopyView) (trace : List Happening) (octets : Vec ℕ) (count : ℕ) → IsTold trace v.sender v.receiver v.sent v.read v.closed v.ended
    → IsTold (trace ++ answered A (call.Send v.sender octets) (reply.Sent count) ∷ []) v.sender v.receiver (v.sent ++ take count octets.items) v.read v.closed v.ended
told-sent v trace octets count t =
    let h : Happening = answered A (call.Send v.sender octets) (reply.Sent count) in
    let k = sends-told A trace v.sender octets count in
    let quiet : (id : SocketId) → IsQuiet B id h = λ id. other-quiet A (call.Send v.sender octets) (reply.Sent count) id in
    record {
      gave = ap (λ (a : Account). a.gave) k.0 ∙ ap (λ l. l ++ take count octets.items) t.gave;
      shut = ap (λ (a : Account). a.closed) k.0 ∙ t.shut;
      others = λ id apart. (ap (λ (a : Account). a.gave) (k.1 id (eqb-swap v.sender.0 id.0 ∙ apart)) ∙ (t.others id apart).0, ap (λ (a : Account). a.closed) (k.1 id (eqb-swap v.sender.0 id.0 ∙ apart)) ∙ (t.others id apart).1);
      none_back = λ id. sent-quiet B trace h id (quiet id) ∙ t.none_back id;
      got = got-quiet trace h v.receiver v.read v.ended quiet t.got;
    }

-- a closed its side
told-closed : (v : CopyView) (trace : List Happening) → IsTold trace v.sender v.receiver v.sent v.read v.closed v.ended
    → IsTold (trace ++ answered A (call.Shutdown v.sender) reply.Done ∷ []) v.sender v.receiver v.sent v.read true v.ended
told-closed v trace t =
    let h : Happening = answered A (call.Shutdown v.sender) reply.Done in
    let k = closes-told A trace v.sender in
    let quiet : (id : SocketId) → IsQuiet B id h = λ id. other-quiet A (call.Shutdown v.sender) reply.Done id in
    record {
      gave = ap (λ (a : Account). a.gave) k.0 ∙ t.gave;
      shut = ap (λ (a : Account). a.closed) k.0;
      others = λ id apart. (ap (λ (a : Account). a.gave) (k.1 id (eqb-swap v.sender.0 id.0 ∙ apart)) ∙ (t.others id apart).0, ap (λ (a : Account). a.closed) (k.1 id (eqb-swap v.sender.0 id.0 ∙ apart)) ∙ (t.others id apart).1);
      none_back = λ id. sent-quiet B trace h id (quiet id) ∙ t.none_back id;
      got = got-quiet trace h v.receiver v.read v.ended quiet t.got;
    }

-- What a call of b tells.

told-accepted : (v : CopyView) (trace : List Happening) (listener id : SocketId) (peer : Endpoint) → v.receiver ≡ None → IsTold trace v.sender v.receiver v.sent v.read v.closed v.ended
    → IsTold (trace ++ answered B (call.Accept listener) (reply.Accepted id peer) ∷ []) v.sender (Some id) v.sent v.read v.closed v.ended
told-accepted v trace listener id peer none t =
    let h : Happening = answered B (call.Accept listener) (reply.Accepted id peer) in
    let silent : IsSilent h = quiet-everywhere B (call.Accept listener) (reply.Accepted id peer) (λ i. quiet-accept B listener (reply.Accepted id peer) i) in
    let s = told-still trace h v.sender v.receiver v.sent v.read v.closed v.ended silent t in
    let g : IsGot (trace ++ h ∷ []) None v.read v.ended = subst (λ r. IsGot (trace ++ h ∷ []) r v.read v.ended) none s.got in
    record {
      gave = s.gave;
      shut = s.shut;
      others = s.others;
      none_back = s.none_back;
      got = ((g.2 id).0 ∙ sym g.0, (g.2 id).1 ∙ sym g.1);
    }

-- b gave octets
told-read : (v : CopyView) (trace : List Happening) (id : SocketId) (len : ℕ) (octets : Vec ℕ) → v.receiver ≡ Some id → IsTold trace v.sender v.receiver v.sent v.read v.closed v.ended
    → IsTold (trace ++ answered B (call.Recv id len) (reply.Octets octets) ∷ []) v.sender v.receiver v.sent (v.read ++ octets.items) v.closed v.ended
told-read v trace id len octets is t =
    let c = call.Recv id len in
    let h : Happening = answered B c (reply.Octets octets) in
    let k = receives-told B trace id len octets in
    let g : IsGot trace (Some id) v.read v.ended = subst (λ r. IsGot trace r v.read v.ended) is t.got in
    let quiet : (i : SocketId) → IsQuiet A i h = λ i. other-quiet B c (reply.Octets octets) i in
    record {
      gave = sent-quiet A trace h v.sender (quiet v.sender) ∙ t.gave;
      shut = closed-quiet A trace h v.sender (quiet v.sender) ∙ t.shut;
      others = λ i apart. (sent-quiet A trace h i (quiet i) ∙ (t.others i apart).0, closed-quiet A trace h i (quiet i) ∙ (t.others i apart).1);
      none_back = λ i. sent_on-added B i trace h ∙ (append-nil (sent_on B i trace) ∙ t.none_back i);
      got = subst (λ r. IsGot (trace ++ h ∷ []) r (v.read ++ octets.items) v.ended) (sym is)
          (ap (λ (a : Account). a.got) k.0 ∙ ap (λ l. l ++ octets.items) g.0, ap (λ (a : Account). a.ended) k.0 ∙ g.1);
    }

-- b told the end
told-ended : (v : CopyView) (trace : List Happening) (id : SocketId) (len : ℕ) → v.receiver ≡ Some id → IsTold trace v.sender v.receiver v.sent v.read v.closed v.ended
    → IsTold (trace ++ answered B (call.Recv id len) reply.EndOfStream ∷ []) v.sender v.receiver v.sent v.read v.closed true
told-ended v trace id len is t =
    let c = call.Recv id len in
    let h : Happening = answered B c reply.EndOfStream in
    let k = ends-told B trace id len in
    let g : IsGot trace (Some id) v.read v.ended = subst (λ r. IsGot trace r v.read v.ended) is t.got in
    let quiet : (i : SocketId) → IsQuiet A i h = λ i. other-quiet B c reply.EndOfStream i in
    record {
      gave = sent-quiet A trace h v.sender (quiet v.sender) ∙ t.gave;
      shut = closed-quiet A trace h v.sender (quiet v.sender) ∙ t.shut;
      others = λ i apart. (sent-quiet A trace h i (quiet i) ∙ (t.others i apart).0, closed-quiet A trace h i (quiet i) ∙ (t.others i apart).1);
      none_back = λ i. sent_on-added B i trace h ∙ (append-nil (sent_on B i trace) ∙ t.none_back i);
      got = subst (λ r. IsGot (trace ++ h ∷ []) r v.read true) (sym is) (ap (λ (a : Account). a.got) k.0 ∙ g.0, ap (λ (a : Account). a.ended) k.0);
    }

-- What a call makes of the network.

-- a call that is not refused is answered so
answers : {T : Type 0} (r : Result T Refusal) (value : T) (said : T → Answer) (next old : SocketsView) → r ≡ Ok value → Answers r said next old (said value) next
answers r value said next old is = subst (λ (x : Result _ Refusal). Answers x said next old (said value) next) (sym is) (refl, refl)

done : (o : Option Refusal) (next old : SocketsView) → o ≡ None → Answers (unless_refused o (tt {0})) (λ _. reply.Done) next old reply.Done next
done o next old is = subst (λ (x : Option Refusal). Answers (unless_refused x (tt {0})) (λ _. reply.Done) next old reply.Done next) (sym is) (refl, refl)

-- octets that a took are within what it was allowed
recent-sent : (told : List Passage) (allowance count : ℕ) (opened : Bool) (frames : List Frame) (openings : List Opening) (written : List ℕ) (sender : SocketId) → count ≤ allowance
    → AreCarried told allowance opened frames openings written → AreCarried told (allowance - count) opened frames openings (counts_after openings written A sender count)
recent-sent told allowance count opened frames openings written sender few c = record {
  frames_are = c.frames_are;
  counts = length-counted openings written A sender count c.counts;
  within = (let w = c.within in omega (arith, w));
  unopened = c.unopened;
  noted = λ k f note at is. (
      let n = c.noted k f note at is in
      let before = n.recent in
      let grown = written_by-counted openings written A sender count A note.pair note.epoch in
      record { epoch = n.epoch; recent = omega (arith, before, grown, few) });
}

pub stands-written : (v : CopyView) → Stands v → IsSoundHost v.a → IsSoundHost v.b → (octets : List ℕ) (count : ℕ) → length octets ≤ v.allowance → count ≤ length octets → send_answer v.a.sockets v.sender octets ≡ Ok count
    → Stands (record v { a = with_sockets v.a (after_send v.a.sockets v.sender octets); allowance = v.allowance - count; sent = v.sent ++ take count octets })
stands-written v s sound_a sound_b octets count allowed few told =
    let w = world_of v.a v.b v.clock s.frames s.openings s.written s.trace in
    let within = s.carried.within in
    let x : Vec ℕ = held octets (omega (arith, allowed, within)) in
    let next = after_send v.a.sockets v.sender octets in
    record {
      frames = s.frames;
      openings = s.openings;
      written = counts_after s.openings s.written A v.sender count;
      trace = s.trace ++ answered A (call.Send v.sender x) (reply.Sent count) ∷ [];
      reached = reached-more w (network_of (with_sockets v.a next) v.b v.clock s.frames s.openings (counts_after s.openings s.written A v.sender count)) (event.Call A (call.Send v.sender x)) (reply.Sent count) s.reached refl tt sound_a sound_b
          (record { table = answers (send_answer v.a.sockets v.sender octets) count (λ n. reply.Sent n) next v.a.sockets told; others = refl }, refl);
      carried = recent-sent v.told v.allowance count v.opened s.frames s.openings s.written v.sender (omega (arith, few, allowed)) s.carried;
      tells = told-sent v s.trace x count s.tells;
    }

pub stands-closed : (v : CopyView) → Stands v → IsSoundHost v.a → IsSoundHost v.b → shutdown_refusal v.a.sockets v.sender ≡ None
    → Stands (record v { a = with_sockets v.a (after_shutdown v.a.sockets v.sender); closed = true })
stands-closed v s sound_a sound_b may =
    let w = world_of v.a v.b v.clock s.frames s.openings s.written s.trace in
    let next = after_shutdown v.a.sockets v.sender in
    record {
      frames = s.frames;
      openings = s.openings;
      written = s.written;
      trace = s.trace ++ answered A (call.Shutdown v.sender) reply.Done ∷ [];
      reached = reached-more w (network_of (with_sockets v.a next) v.b v.clock s.frames s.openings s.written) (event.Call A (call.Shutdown v.sender)) reply.Done s.reached refl tt sound_a sound_b
          (record { table = done (shutdown_refusal v.a.sockets v.sender) next v.a.sockets may; others = refl }, refl);
      carried = s.carried;
      tells = told-closed v s.trace s.tells;
    }

pub stands-accepted : (v : CopyView) → Stands v → IsSoundHost v.a → IsSoundHost v.b → (listener id : SocketId) (peer : Endpoint) → v.receiver ≡ None → accept_answer v.b.sockets listener ≡ Ok (id, peer)
    → Stands (record v { b = with_sockets v.b (after_accept v.b.sockets listener); receiver = Some id })
stands-accepted v s sound_a sound_b listener id peer none told =
    let w = world_of v.a v.b v.clock s.frames s.openings s.written s.trace in
    let next = after_accept v.b.sockets listener in
    record {
      frames = s.frames;
      openings = s.openings;
      written = s.written;
      trace = s.trace ++ answered B (call.Accept listener) (reply.Accepted id peer) ∷ [];
      reached = reached-more w (network_of v.a (with_sockets v.b next) v.clock s.frames s.openings s.written) (event.Call B (call.Accept listener)) (reply.Accepted id peer) s.reached refl tt sound_a sound_b
          (record { table = answers (accept_answer v.b.sockets listener) (id, peer) (λ (p : SocketId × Endpoint). reply.Accepted p.0 p.1) next v.b.sockets told; others = refl }, refl);
      carried = s.carried;
      tells = told-accepted v s.trace listener id peer none s.tells;
    }

-- a receive asks for as many octets as it says
same_len : (len : ℕ) → len ≤ most_held → recv_len len ≡ len
same_len len few = omega arith

pub stands-read : (v : CopyView) → Stands v → IsSoundHost v.a → IsSoundHost v.b → (id : SocketId) (len count : ℕ) (octets : List ℕ) → v.receiver ≡ Some id → len ≤ most_held → length octets ≤ len → octets ≡ readable_on v.b.sockets id count
    → recv_answer v.b.sockets id len ≡ Ok (received.Octets count) → Stands (record v { b = with_sockets v.b (after_recv v.b.sockets id len); read = v.read ++ octets })
stands-read v s sound_a sound_b id len count octets is few short are told =
    let w = world_of v.a v.b v.clock s.frames s.openings s.written s.trace in
    let next = after_recv v.b.sockets id len in
    let x : Vec ℕ = held octets (omega (arith, short, few)) in
    let meets : MeetsReceived v.b.sockets id len (recv_answer v.b.sockets id len) (reply.Octets x) next =
    subst (λ (r : Result Received Refusal). MeetsReceived v.b.sockets id len r (reply.Octets x) next) (sym told) (are, refl) in
    record {
      frames = s.frames;
      openings = s.openings;
      written = s.written;
      trace = s.trace ++ answered B (call.Recv id len) (reply.Octets x) ∷ [];
      reached = reached-more w (network_of v.a (with_sockets v.b next) v.clock s.frames s.openings s.written) (event.Call B (call.Recv id len)) (reply.Octets x) s.reached refl tt sound_a sound_b
          (record { table = subst (λ n. MeetsReceived v.b.sockets id n (recv_answer v.b.sockets id n) (reply.Octets x) next) (sym (same_len len few)) meets; others = refl }, refl);
      carried = s.carried;
      tells = told-read v s.trace id len x is s.tells;
    }

pub stands-ended : (v : CopyView) → Stands v → IsSoundHost v.a → IsSoundHost v.b → (id : SocketId) (len : ℕ) → v.receiver ≡ Some id → len ≤ most_held → recv_answer v.b.sockets id len ≡ Ok received.EndOfStream
    → Stands (record v { b = with_sockets v.b (after_recv v.b.sockets id len); ended = true })
stands-ended v s sound_a sound_b id len is few told =
    let w = world_of v.a v.b v.clock s.frames s.openings s.written s.trace in
    let next = after_recv v.b.sockets id len in
    let meets : MeetsReceived v.b.sockets id len (recv_answer v.b.sockets id len) reply.EndOfStream next =
    subst (λ (r : Result Received Refusal). MeetsReceived v.b.sockets id len r reply.EndOfStream next) (sym told) refl in
    record {
      frames = s.frames;
      openings = s.openings;
      written = s.written;
      trace = s.trace ++ answered B (call.Recv id len) reply.EndOfStream ∷ [];
      reached = reached-more w (network_of v.a (with_sockets v.b next) v.clock s.frames s.openings s.written) (event.Call B (call.Recv id len)) reply.EndOfStream s.reached refl tt sound_a sound_b
          (record { table = subst (λ n. MeetsReceived v.b.sockets id n (recv_answer v.b.sockets id n) reply.EndOfStream next) (sym (same_len len few)) meets; others = refl }, refl);
      carried = s.carried;
      tells = told-ended v s.trace id len is s.tells;
    }

-- Ticks.

pub stands-ticked : (v : CopyView) → Stands v → IsSoundHost v.a → IsSoundHost v.b → (moment : Moment) → IsSoundHost (after_tick v.a moment)
    → Stands (record v { a = after_tick v.a moment; b = after_tick v.b moment; clock = clock_after v.clock moment })
stands-ticked v s sound_a sound_b moment sound_next =
    let w = world_of v.a v.b v.clock s.frames s.openings s.written s.trace in
    let clock = clock_after v.clock moment in
    let n : NetworkView = record { limit = 2 ^ 30; a = record { host = after_tick v.a moment; clock = clock }; b = record { host = v.b; clock = v.clock }; frames = s.frames; openings = s.openings; written = s.written } in
    let first : Happening = record { event = event.Tick A moment; answer = reply.Done } in
    let second : Happening = record { event = event.Tick B moment; answer = reply.Done } in
    let half : WorldView = record { network = n; trace = s.trace ++ first ∷ [] } in
    let reached_half : IsReached (2 ^ 30) half = reached-more w n (event.Tick A moment) reply.Done s.reached refl tt sound_a sound_b (refl, refl) in
    record {
      frames = s.frames;
      openings = s.openings;
      written = s.written;
      trace = (s.trace ++ first ∷ []) ++ second ∷ [];
      reached = reached-more half (network_of (after_tick v.a moment) (after_tick v.b moment) clock s.frames s.openings s.written) (event.Tick B moment) reply.Done reached_half refl tt sound_next sound_b (refl, refl);
      carried = s.carried;
      tells = told-still (s.trace ++ first ∷ []) second v.sender v.receiver v.sent v.read v.closed v.ended (λ side id. quiet-tick B moment reply.Done side id)
          (told-still s.trace first v.sender v.receiver v.sent v.read v.closed v.ended (λ side id. quiet-tick A moment reply.Done side id) s.tells);
    }
