-- What each call of a host is in a course.
use Rattle.std.proofs.Common.{◌≡◌, ℕ, ◌+◌, ◌-◌, ◌<◌, ◌≤◌, ◌^◌, ◌||◌, ◌⊎◌, min, Bool, true, false, List, [], ◌∷◌, ◌++◌, length, take, drop, Some, None, Result, Ok, arith, refl, sym, ◌∙◌, ap, subst, append-nil}
use Rattle.std.proofs.lemmas.List.{length-append}
use Rattle.clock.specs.declared.moment.Moment.{Moment}
use Rattle.ipv4.specs.declared.addr.Endpoint.{Endpoint}
use Rattle.frames.specs.declared.drop.DropCause.{DropCause}
use Rattle.tcp_segment.specs.declared.seq.Seq.{Seq}
use Rattle.tcp_state.specs.declared.calls.Received.TheVariants as received
use Rattle.sockets.specs.declared.entry.SocketId.{SocketId}
use Rattle.sockets.specs.Calls.{accept_answer, after_accept, send_answer, after_send, recv_answer, after_recv, shutdown_refusal, after_shutdown}
use Rattle.host.specs.HostView.{HostView, with_sockets}
use Rattle.host.specs.Sound.{IsSoundHost}
use Rattle.host.specs.Ticks.{after_tick}
use Rattle.host.specs.Emission.{emission_len, emission_octets, emission_front, after_emission}
use Rattle.host.specs.Arrival.{IsDelivered, foreseen}
use Rattle.sides.specs.declared.side.Side.{Side}
use Rattle.sides.specs.declared.side.Side.TheVariants.{A, B}
use Rattle.wire_sim.specs.Steps.{readable_on}
use Rattle.wire_sim.proofs.emission.NothingGoesOut.{nothing-left}
use Rattle.wire_sim.proofs.emission.EmittedOctets.{take_written, emission_front-due}
use Rattle.devices.specs.Passages.{Passage, taken, given}
use Rattle.copy_law.specs.CopyView.{host_at, with_host_at}
use Rattle.copy_law.specs.Course.{most_held, IsCourse, goes_on, holds_pair_of, clock_after}
use Rattle.copy_law.specs.Course as course
use Rattle.copier.specs.declared.ends.Ends.{Ends}
use Rattle.copier.specs.Moves.{copy_of, host_of, with_host, GoesOn, Emits, Hears, Writes, Closes}

-- Frames.

copy-host : (from : Side) (e : Ends) (told : List Passage) (sent read : List ℕ) (closed ended : Bool) → host_at (copy_of e told sent read closed ended) from ≡ host_of e from
copy-host A e told sent read closed ended = refl
copy-host B e told sent read closed ended = refl

copy-with_host : (from : Side) (e : Ends) (h : HostView) (n : ℕ) (told more : List Passage) (sent read : List ℕ) (closed ended : Bool)
    → copy_of (let w = with_host e from h in record w { allowance = n }) more sent read closed ended
    ≡ (let w = with_host_at (copy_of e told sent read closed ended) from h in record w { allowance = n; told = more })
copy-with_host A e h n told more sent read closed ended = refl
copy-with_host B e h n told more sent read closed ended = refl

pub emits-at : (from : Side) (old new : Ends) (before after : List ℕ) (len : ℕ) → IsSoundHost old.a → IsSoundHost old.b → emission_len (host_of old from) old.clock ≡ Some len
    → after ≡ emission_front (host_of old from) old.clock before → length before ≡ 1514 → length after ≡ 1514 → len ≤ 1514
    → new ≡ (let w = with_host old from (after_emission (host_of old from) old.clock) in record w { allowance = min (old.allowance + 1460) most_held }) → Emits from (take len after) old new
emits-at from old new before after len sound_a sound_b due front long whole short is told sent read closed ended before_course =
    let own = host_of old from in
    let octets = emission_octets own old.clock in
    let written : after ≡ octets ++ drop len before = front ∙ emission_front-due own old.clock before len due in
    let same : take len after ≡ octets = ap (λ (ws : List ℕ). take len ws) written ∙ take_written octets before len (omega (arith, short, long)) (ap (λ (ws : List ℕ). length ws) (sym written) ∙ whole ∙ sym long) in
    let parts = length-append octets (drop len before) in
    let all : length after ≡ length (octets ++ drop len before) = ap (λ (ws : List ℕ). length ws) written in
    let few : length octets ≤ 1514 = omega (arith, parts, all, whole) in
    let v = copy_of old told sent read closed ended in
    let at : own ≡ host_at v from = sym (copy-host from old told sent read closed ended) in
    let left = after_emission own old.clock in
    let next = told ++ taken from octets ∷ [] in
    let becomes : copy_of new (told ++ taken from (take len after) ∷ []) sent read closed ended ≡ (let w = with_host_at v from left in record w { allowance = min (old.allowance + 1460) most_held; told = next }) =
    ap (λ (f : List ℕ). copy_of new (told ++ taken from f ∷ []) sent read closed ended) same
    ∙ (ap (λ (e : Ends). copy_of e next sent read closed ended) is ∙ copy-with_host from old left (min (old.allowance + 1460) most_held) told next sent read closed ended)
    in
    goes_on v (copy_of new (told ++ taken from (take len after) ∷ []) sent read closed ended) before_course sound_a sound_b
    (course.emits from len (subst (λ (h : HostView). length (emission_octets h old.clock) ≤ 1514) at few) (subst (λ (h : HostView). emission_len h old.clock ≡ Some len) at due)
    (subst (λ (h : HostView). copy_of new (told ++ taken from (take len after) ∷ []) sent read closed ended
    ≡ (let w = with_host_at v from (after_emission h old.clock) in record w { allowance = min (old.allowance + 1460) most_held; told = told ++ taken from (emission_octets h old.clock) ∷ [] })) at becomes))

pub emits-nothing : (from : Side) (e : Ends) → emission_len (host_of e from) e.clock ≡ None → with_host e from (after_emission (host_of e from) e.clock) ≡ e
emits-nothing A e none = ap (λ (h : HostView). let x : Ends = record e { a = h } in x) (nothing-left e.a e.clock none)
emits-nothing B e none = ap (λ (h : HostView). let x : Ends = record e { b = h } in x) (nothing-left e.b e.clock none)

pub hears-at_a : (old new : Ends) (isn : Seq) (frame : List ℕ) (outcome : Result (Unit {0}) DropCause) (h : HostView) → IsSoundHost old.a → IsSoundHost old.b → isn.0 < 2 ^ 32 → foreseen old.a frame ≡ None
    → IsDelivered old.a old.clock isn.0 frame outcome h → new ≡ record old { a = h } → Hears A frame old new
hears-at_a old new isn frame outcome h sound_a sound_b numbered none delivered is told sent read closed ended may before_course =
    goes_on (copy_of old told sent read closed ended) (copy_of new (told ++ given A frame ∷ []) sent read closed ended) before_course sound_a sound_b
    (course.hears A isn frame outcome h numbered may none delivered (ap (λ (e : Ends). copy_of e (told ++ given A frame ∷ []) sent read closed ended) is))

pub hears-at_b : (old new : Ends) (isn : Seq) (frame : List ℕ) (outcome : Result (Unit {0}) DropCause) (h : HostView) → IsSoundHost old.a → IsSoundHost old.b → isn.0 < 2 ^ 32 → (old.opened ≡ false) ⊎ (foreseen old.b frame ≡ None)
    → IsDelivered old.b old.clock isn.0 frame outcome h → new ≡ record old { b = h; opened = old.opened || holds_pair_of h frame } → Hears B frame old new
hears-at_b old new isn frame outcome h sound_a sound_b numbered once delivered is told sent read closed ended may before_course =
    goes_on (copy_of old told sent read closed ended) (copy_of new (told ++ given B frame ∷ []) sent read closed ended) before_course sound_a sound_b
    (course.hears B isn frame outcome h numbered may once delivered (ap (λ (e : Ends). copy_of e (told ++ given B frame ∷ []) sent read closed ended) is))

pub passes : (old new : Ends) (to : Side) (frame : List ℕ) → IsSoundHost old.a → IsSoundHost old.b → new ≡ old → Hears to frame old new
passes old new to frame sound_a sound_b same told sent read closed ended may before_course =
    goes_on (copy_of old told sent read closed ended) (copy_of new (told ++ given to frame ∷ []) sent read closed ended) before_course sound_a sound_b
    (course.passes_over to frame (ap (λ (e : Ends). copy_of e (told ++ given to frame ∷ []) sent read closed ended) same))

-- Calls of a.

pub writes-octets : (old new : Ends) (octets whole : List ℕ) (count : ℕ) → IsSoundHost old.a → IsSoundHost old.b → length octets ≤ old.allowance → count ≤ length octets → send_answer old.a.sockets old.sender octets ≡ Ok count
    → new ≡ record old { a = with_sockets old.a (after_send old.a.sockets old.sender octets); allowance = old.allowance - count } → take count octets ≡ take count whole → Writes (take count whole) old new
writes-octets old new octets whole count sound_a sound_b allowed few answered is same told sent read closed ended before_course =
    goes_on (copy_of old told sent read closed ended) (copy_of new told (sent ++ take count whole) read closed ended) before_course sound_a sound_b
    (course.writes octets count allowed few answered
    (ap (λ (e : Ends). copy_of e told (sent ++ take count whole) read closed ended) is
    ∙ ap (λ (l : List ℕ). copy_of (record old { a = with_sockets old.a (after_send old.a.sockets old.sender octets); allowance = old.allowance - count }) told (sent ++ l) read closed ended) (sym same)))

pub writes-nothing : (old new : Ends) (octets : List ℕ) → octets ≡ [] → new ≡ old → Writes octets old new
writes-nothing old new octets none same told sent read closed ended before_course =
    let kept : sent ++ octets ≡ sent = ap (λ l. sent ++ l) none ∙ append-nil sent in
    subst (λ (e : Ends). IsCourse (copy_of e told (sent ++ octets) read closed ended)) (sym same) (subst (λ (l : List ℕ). IsCourse (copy_of old told l read closed ended)) (sym kept) before_course)

pub closes-side : (old new : Ends) → IsSoundHost old.a → IsSoundHost old.b → shutdown_refusal old.a.sockets old.sender ≡ None → new ≡ record old { a = with_sockets old.a (after_shutdown old.a.sockets old.sender) } → Closes true old new
closes-side old new sound_a sound_b may is told sent read ended before_course =
    goes_on (copy_of old told sent read false ended) (copy_of new told sent read true ended) before_course sound_a sound_b
    (course.closes may (ap (λ (e : Ends). copy_of e told sent read true ended) is))

pub closes-nothing : (old new : Ends) → new ≡ old → Closes false old new
closes-nothing old new same told sent read ended before_course = subst (λ (e : Ends). IsCourse (copy_of e told sent read false ended)) (sym same) before_course

-- Calls of b.

pub accepts-one : (old new : Ends) (id : SocketId) (peer : Endpoint) → IsSoundHost old.a → IsSoundHost old.b → old.receiver ≡ None → accept_answer old.b.sockets old.listener ≡ Ok (id, peer)
    → new ≡ record old { b = with_sockets old.b (after_accept old.b.sockets old.listener); receiver = Some id } → GoesOn old new
accepts-one old new id peer sound_a sound_b none answered is told sent read closed ended before_course =
    goes_on (copy_of old told sent read closed ended) (copy_of new told sent read closed ended) before_course sound_a sound_b
    (course.accepts old.listener id peer none answered (ap (λ (e : Ends). copy_of e told sent read closed ended) is))

pub stays : (old new : Ends) → new ≡ old → GoesOn old new
stays old new same told sent read closed ended before_course = subst (λ (e : Ends). IsCourse (copy_of e told sent read closed ended)) (sym same) before_course

pub reads-octets : (old new : Ends) (id : SocketId) (len count : ℕ) (octets : List ℕ) → IsSoundHost old.a → IsSoundHost old.b → old.receiver ≡ Some id → len ≤ most_held → length octets ≤ len → octets ≡ readable_on old.b.sockets id count
    → recv_answer old.b.sockets id len ≡ Ok (received.Octets count) → new ≡ record old { b = with_sockets old.b (after_recv old.b.sockets id len) }
    → (told : List Passage) (sent read : List ℕ) (closed ended : Bool) → IsCourse (copy_of old told sent read closed ended) → IsCourse (copy_of new told sent (read ++ octets) closed ended)
reads-octets old new id len count octets sound_a sound_b reader few short are answered is told sent read closed ended before_course =
    goes_on (copy_of old told sent read closed ended) (copy_of new told sent (read ++ octets) closed ended) before_course sound_a sound_b
    (course.reads id len count octets reader few short are answered (ap (λ (e : Ends). copy_of e told sent (read ++ octets) closed ended) is))

pub reads-end : (old new : Ends) (id : SocketId) (len : ℕ) → IsSoundHost old.a → IsSoundHost old.b → old.receiver ≡ Some id → len ≤ most_held → recv_answer old.b.sockets id len ≡ Ok received.EndOfStream
    → new ≡ record old { b = with_sockets old.b (after_recv old.b.sockets id len) }
    → (told : List Passage) (sent read : List ℕ) (closed ended : Bool) → IsCourse (copy_of old told sent read closed ended) → IsCourse (copy_of new told sent read closed true)
reads-end old new id len sound_a sound_b reader few answered is told sent read closed ended before_course =
    goes_on (copy_of old told sent read closed ended) (copy_of new told sent read closed true) before_course sound_a sound_b
    (course.ends id len reader few answered (ap (λ (e : Ends). copy_of e told sent read closed true) is))

-- Both clocks.

pub ticks-both : (old new : Ends) (moment : Moment) → IsSoundHost old.a → IsSoundHost old.b → IsSoundHost (after_tick old.a moment)
    → new ≡ record old { a = after_tick old.a moment; b = after_tick old.b moment; clock = clock_after old.clock moment } → GoesOn old new
ticks-both old new moment sound_a sound_b sound_next is told sent read closed ended before_course =
    goes_on (copy_of old told sent read closed ended) (copy_of new told sent read closed ended) before_course sound_a sound_b
    (course.ticks moment sound_next (ap (λ (e : Ends). copy_of e told sent read closed ended) is))
