-- Every run of a world keeps the law of datagrams.
use Rattle.std.proofs.Common.{◌≡◌, ℕ, Bool, List, [], ◌++◌, append-nil, length, Result, Ok, Err, refl, sym, ◌∙◌, subst, All}
use Rattle.std.proofs.lemmas.List.Elements.{All-nil, All-cons, All-append, All-weaker}
use Rattle.ipv4.specs.declared.addr.Addr.{Addr}
use Rattle.ipv4.specs.declared.addr.Endpoint.{Endpoint}
use Rattle.clock.specs.declared.moment.Moment.{Moment}
use Rattle.sockets.specs.declared.refusal.Refusal.{Refusal}
use Rattle.sockets.specs.Datagrams.{recvfrom_answer}
use Rattle.sockets.specs.SocketsView.{SocketsView}
use Rattle.host.specs.ConfigView.{ConfigView}
use Rattle.host.specs.HostView.{new_host}
use Rattle.datagram_law.specs.Accepted.{Accepted, AreFew, CameFrom}
use Rattle.datagram_law.proofs.Gathering.{new}
use Rattle.datagram_law.proofs.InTurn.{still}
use Rattle.sides.specs.declared.side.Side.{Side}
use Rattle.sides.specs.declared.side.Side.TheVariants.{A, B}
use Rattle.wire_sim.specs.declared.event.Call.{Call}
use Rattle.wire_sim.specs.declared.event.Call.TheVariants as call
use Rattle.wire_sim.specs.declared.event.Event.{Event}
use Rattle.wire_sim.specs.declared.event.Event.TheVariants as event
use Rattle.wire_sim.specs.declared.event.Answer.{Answer}
use Rattle.wire_sim.specs.declared.event.Answer.TheVariants as reply
use Rattle.wire_sim.specs.Datagrams.{ReadDatagram, socket_end, accepted_by, read_by, read_by_call, accepted_in, read_in, WasAccepted, EveryRunKeepsDatagrams}
use Rattle.wire_sim.specs.Runs.{IsStep, IsReached, begins, goes_on}
use Rattle.sides.specs.Sides.{other_side}
use Rattle.wire_sim.specs.Steps.{MeetsCall, MeetsReceivedFrom, recv_len}
use Rattle.wire_sim.specs.WorldView.{WorldView, NetworkView, table_of}
use Rattle.wire_sim.proofs.carried.FramesCarry.{IsTallied}
use Rattle.wire_sim.proofs.fairness.CountedAsTraced.{same_unfair}
use Rattle.wire_sim.proofs.runs.RunsAreLawful.{run_tallied}
use Rattle.wire_sim.proofs.datagrams.EventsKeep.{IsHostOf, AreHostsOf, few-before, hosts-swapped, hosts-called, hosts-ticked, hosts-emitted, hosts-delivered}
use Rattle.wire_sim.proofs.datagrams.TablesKeepToAccepted.{IsTableOf}
use Rattle.wire_sim.proofs.datagrams.TablesOfCalls.{kept-fresh}
use Rattle.wire_sim.proofs.datagrams.TablesOfDatagrams.{read-of_one}

-- Both hosts keep to what both accepted.

host-fresh : (config : ConfigView) → IsHostOf [] [] (new_host config)
host-fresh config = record { heard = []; table = kept-fresh config.addr config.manner (let h = new_host config in h.sockets.sizes); few = λ few. kept-fresh config.addr config.manner (let h = new_host config in h.sockets.sizes); pool = new [] config.sizes.reassemblies config.sizes.reassembly_octets }

-- nothing was accepted
unadded-here : (own other : List Accepted) (n : NetworkView) → AreHostsOf A B own other n → AreHostsOf A B (own ++ []) other n
unadded-here own other n w = subst (λ xs. AreHostsOf A B xs other n) (sym (append-nil own)) w

unadded-there : (own other : List Accepted) (n : NetworkView) → AreHostsOf A B own other n → AreHostsOf A B own (other ++ []) n
unadded-there own other n w = subst (λ xs. AreHostsOf A B own xs n) (sym (append-nil other)) w

unadded : (own other : List Accepted) (n : NetworkView) → AreHostsOf A B own other n → AreHostsOf A B (own ++ []) (other ++ []) n
unadded own other n w = unadded-here own (other ++ []) n (unadded-there own other n w)

-- every event
hosts-step : (old new : WorldView) (happens : Event) (answer : Answer) (own other : List Accepted) → IsTallied old.network old.trace → IsStep happens answer old new → AreHostsOf A B own other old.network
    → AreHostsOf A B (own ++ accepted_by A happens answer old new) (other ++ accepted_by B happens answer old new) new.network
hosts-step old new (event.Call A c) answer own other tallied step w =
    unadded-there _ other new.network (hosts-called A B own other old.network new.network (length old.trace) c answer refl step.numbered step.sound_a step.network w)
hosts-step old new (event.Call B c) answer own other tallied step w =
    unadded-here own _ new.network
    (hosts-swapped B A _ own new.network (hosts-called B A other own old.network new.network (length old.trace) c answer refl step.numbered step.sound_b step.network (hosts-swapped A B own other old.network w)))
hosts-step old new (event.Tick A moment) answer own other tallied step w = unadded own other new.network (hosts-ticked A B own other old.network new.network (length old.trace) moment answer refl step.network w)
hosts-step old new (event.Tick B moment) answer own other tallied step w =
    unadded own other new.network (hosts-swapped B A other own new.network (hosts-ticked B A other own old.network new.network (length old.trace) moment answer refl step.network (hosts-swapped A B own other old.network w)))
hosts-step old new (event.Emit A) answer own other tallied step w = unadded own other new.network (hosts-emitted A B own other old.network new.network answer refl step.sound_a step.network w)
hosts-step old new (event.Emit B) answer own other tallied step w =
    unadded own other new.network (hosts-swapped B A other own new.network (hosts-emitted B A other own old.network new.network answer refl step.sound_b step.network (hosts-swapped A B own other old.network w)))
hosts-step old new (event.Deliver A index isn) answer own other tallied step w =
    unadded own other new.network
    (hosts-delivered A B own other old.network new.network (length old.trace) index isn answer refl step.sound_a (same_unfair old (event.Deliver A index isn) tallied ∙ step.fair) step.network w)
hosts-step old new (event.Deliver B index isn) answer own other tallied step w =
    unadded own other new.network
    (hosts-swapped B A other own new.network
    (hosts-delivered B A other own old.network new.network (length old.trace) index isn answer refl step.sound_b (same_unfair old (event.Deliver B index isn) tallied ∙ step.fair) step.network (hosts-swapped A B own other old.network w)))

-- after every run
pub hosts-keep : (limit : ℕ) (w : WorldView) (run : IsReached limit w) → AreHostsOf A B (accepted_in limit w run A) (accepted_in limit w run B) w.network
hosts-keep limit _ (begins a b a_is b_is apart small) = record { here = host-fresh a; there = host-fresh b; frames = tt }
hosts-keep limit _ (goes_on w v happens answer run step) =
    hosts-step w v happens answer (accepted_in limit w run A) (accepted_in limit w run B) (run_tallied limit w run) step (hosts-keep limit w run)

-- What is read was accepted.

was-accepted_more : (accepted more : List Accepted) (r : ReadDatagram) → WasAccepted accepted r → WasAccepted (accepted ++ more) r
was-accepted_more accepted more r (octets, came, is) = (octets, still _ accepted more came, is)

-- by a call of a table that keeps to what was accepted
read-call : (own other : List Accepted) (routed : Addr → Bool) (now : Moment) (c : Call) (answer : Answer) (old new : SocketsView) → MeetsCall routed now c old answer new → IsTableOf own other old → All (WasAccepted other) (read_by_call c answer old)
read-call own other routed now (call.RecvFrom id len) (reply.Datagram octets told) old new m t = All-cons (WasAccepted other) _ [] (by_answer (recvfrom_answer old id (recv_len len)) refl m) (All-nil (WasAccepted other))
  where
    by_answer : (r : Result (ℕ × Endpoint) Refusal) → recvfrom_answer old id (recv_len len) ≡ r → MeetsReceivedFrom old id r (reply.Datagram octets told) new
        → WasAccepted other (record { local = socket_end old id; from = told; room = recv_len len; octets = octets.items })
    by_answer (Ok (count, from)) is m =
        let one = read-of_one own other old id (recv_len len) count from is t in
        (one.0, subst (λ (x : Endpoint). CameFrom other x (socket_end old id) one.0) (sym m.1) one.1, m.0 ∙ one.2)
    by_answer (Err refusal) is m = absurd m
read-call own other routed now c answer old new m t = All-nil (WasAccepted other)

-- by an event
read-event : (accepted : Side → List Accepted) (old new : WorldView) (reader : Side) (happens : Event) (answer : Answer) → IsStep happens answer old new → AreFew (accepted (other_side reader)) → AreHostsOf A B (accepted A) (accepted B) old.network
    → All (WasAccepted (accepted (other_side reader))) (read_by reader happens answer old)
read-event accepted old new A (event.Call A c) answer step few w = read-call (accepted A) (accepted B) _ _ c answer (table_of old.network A) (table_of new.network A) step.network.0.table (w.here.few few)
read-event accepted old new B (event.Call B c) answer step few w = read-call (accepted B) (accepted A) _ _ c answer (table_of old.network B) (table_of new.network B) step.network.0.table (w.there.few few)
read-event accepted old new A (event.Call B c) answer step few w = All-nil (WasAccepted (accepted B))
read-event accepted old new B (event.Call A c) answer step few w = All-nil (WasAccepted (accepted A))
read-event accepted old new reader (event.Tick side moment) answer step few w = All-nil (WasAccepted (accepted (other_side reader)))
read-event accepted old new reader (event.Emit side) answer step few w = All-nil (WasAccepted (accepted (other_side reader)))
read-event accepted old new reader (event.Deliver side index isn) answer step few w = All-nil (WasAccepted (accepted (other_side reader)))

-- in every run
pub runs-keep : EveryRunKeepsDatagrams
runs-keep limit _ (begins a b a_is b_is apart small) reader few = All-nil (WasAccepted [])
runs-keep limit _ (goes_on w v happens answer run step) reader few =
    let other = other_side reader in
    let before = accepted_in limit w run other in
    let more = accepted_by other happens answer w v in
    let few_before = few-before before more few in
    let read_before = All-weaker (WasAccepted before) (WasAccepted (before ++ more)) (was-accepted_more before more) (read_in limit w run reader) (runs-keep limit w run reader few_before) in
    let read_now = All-weaker (WasAccepted before) (WasAccepted (before ++ more)) (was-accepted_more before more) (read_by reader happens answer w)
    (read-event (accepted_in limit w run) w v reader happens answer step few_before (hosts-keep limit w run)) in
    All-append (WasAccepted (before ++ more)) (read_in limit w run reader) (read_by reader happens answer w) read_before read_now
