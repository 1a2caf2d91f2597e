-- That a tick leaves no connection that has waited for its hop for so long.
use Rattle.std.proofs.Common.{◌≡◌, ◌<◌, ◌&&◌, Bool, true, false, if◌then◌else◌, List, [], ◌∷◌, Option, Some, None, refl, sym, ◌∙◌, ap, subst, arith}
use Rattle.std.proofs.lemmas.Bool.Decides.{nat_tests}
use Rattle.std.specs.List.{AllByRecursion}
use Rattle.ipv4.specs.declared.addr.Addr.{Addr}
use Rattle.clock.specs.declared.moment.Moment.{Moment}
use Rattle.clock.specs.Moments.{after, has_come}
use Rattle.tcp_state.specs.declared.calls.Refusal.TheVariants.{ETIMEDOUT}
use Rattle.tcp_state.specs.Hop.{end_of_hop_wait, hop_wait, unheard_until, after_hopless}
use Rattle.tcp_state.specs.View.{View, is_syn_received, after_reset}
use Rattle.sockets.specs.declared.entry.Entry.{Entry}
use Rattle.sockets.specs.declared.entry.SocketId.{SocketId}
use Rattle.sockets.specs.declared.role.Role.{Role}
use Rattle.sockets.specs.declared.role.Role.TheVariants.{Idle, Listener, Connected, Datagrams}
use Rattle.sockets.specs.Causes.{Ticks}
use Rattle.sockets.specs.Entries.{is_kept, entries_after_steps}
use Rattle.sockets.specs.Lost.{is_hopless, give_up_fate_of, role_after_giving_up, after_giving_up}
use Rattle.sockets.specs.Sound.{IsSoundRole, IsSoundTable}
use Rattle.sockets.specs.SocketsView.{SocketsView, later_moment}
use Rattle.sockets.specs.Ticks.{after_tick as table_after_tick}
use Rattle.sockets.specs.Timing.{KeepsTimeIn, EachKeepsTime}
use Rattle.sockets.proofs.Followed.{by_test}
use Rattle.sockets.proofs.HopEnds.{later_again, unowing}
use Rattle.sockets.proofs.SoundTicks.{tick_sound}
use Rattle.sockets.proofs.Timed.{each_timed}

-- a connection whose address is lost waits still
WaitsStill : (Addr → Bool) → Moment → Role → Type 0
WaitsStill lost now role = (d : View) (listener : Option SocketId) (since : Moment) → role ≡ Connected d listener → d.unheard ≡ Some since → lost d.peer.addr ≡ true → has_come (unheard_until d) now ≡ false

role_waits : (lost : Addr → Bool) (now : Moment) (role : Role) → IsSoundRole role → KeepsTimeIn role → WaitsStill lost now (role_after_giving_up lost now role)
unfolding WaitsStill
role_waits lost now (Connected c l) sound keeps d listener since is waits unreached =
    let moved : (if is_hopless lost c then after_hopless c now else c) ≡ d = cc in
    by_test (is_hopless lost c)
    (λ hopless.
    let given : after_hopless c now ≡ d = sym (ap (λ (b : Bool). if b then after_hopless c now else c) hopless) ∙ moved in
    by_test (has_come (unheard_until c) now)
    (λ over.
    let ended : after_reset c (Some ETIMEDOUT) ≡ d = sym (ap (λ (b : Bool). if b then after_reset c (Some ETIMEDOUT) else c) over) ∙ given in
    let none : ◌≡◌ {A = Option Moment} None (Some since) = ap (λ (v : View). v.unheard) ended ∙ waits in
    cc)
    (λ early.
    let same : c ≡ d = sym (ap (λ (b : Bool). if b then after_reset c (Some ETIMEDOUT) else c) early) ∙ given in
    ap (λ (v : View). has_come (unheard_until v) now) (sym same) ∙ early))
    (λ reached.
    let same : c ≡ d = sym (ap (λ (b : Bool). if b then after_hopless c now else c) reached) ∙ moved in
    let own : c.unheard ≡ Some since = ap (λ (v : View). v.unheard) same ∙ waits in
    let unowed : c.owes_reset ≡ false = unowing c since sound.sound keeps.0 own in
    let far : lost c.peer.addr ≡ true = ap (λ (v : View). lost v.peer.addr) same ∙ unreached in
    let hopless : is_hopless lost c ≡ true = rw (unowed, far) refl in
    cc)
role_waits lost now (Listener local backlog) sound keeps d listener since is waits unreached = cc
role_waits lost now (Idle buffers bound) sound keeps d listener since is waits unreached = cc
role_waits lost now (Datagrams bound socket) sound keeps d listener since is waits unreached = cc

entries_wait : (lost : Addr → Bool) (now : Moment) (xs : List Entry) → AllByRecursion (λ (e : Entry). IsSoundRole e.role) xs → AllByRecursion (λ (e : Entry). KeepsTimeIn e.role) xs
    → AllByRecursion (λ (e : Entry). WaitsStill lost now e.role) (entries_after_steps (give_up_fate_of lost now) (role_after_giving_up lost now) xs)
entries_wait lost now [] sound keeps = tt
entries_wait lost now (x ∷ xs) sound keeps =
    let rest = entries_wait lost now xs sound.1 keeps.1 in
    by_test (is_kept (give_up_fate_of lost now x.role)) (λ kept. rw kept (role_waits lost now x.role sound.0 keeps.0, rest)) (λ gone. rw gone rest)

before : (end m : Moment) → has_come (Some end) m ≡ false → m.0 < end.0
before end m early = grind (arith, nat_tests, early)

-- so after a tick none has waited for 483,000 ms, or for 3,000 where a listener opened it and it is not established
module _ (h : SocketsView) (lost : Addr → Bool) (now : Moment) where
  abbrev moment : Moment
  moment = later_moment (table_after_tick h now) now

  role_early : (role : Role) → WaitsStill lost moment role → (d : View) (listener : Option SocketId) (since : Moment) → role ≡ Connected d listener → d.unheard ≡ Some since → lost d.peer.addr ≡ true
      → (let m = later_moment h now in m.0) < (let end = after since (if d.passive && is_syn_received d.state then 3000 else 483000) in end.0)
  unfolding WaitsStill
  role_early role still d listener since is waits unreached =
      let end : Moment = after since (hop_wait d) in
      let early : has_come (Some end) moment ≡ false = ap (λ (o : Option Moment). has_come (end_of_hop_wait o (hop_wait d)) moment) (sym waits) ∙ still d listener since is waits unreached in
      subst (λ (m : Moment). m.0 < end.0) (later_again h.kept now) (before end moment early)

  entries_early : (xs : List Entry) → AllByRecursion (λ (e : Entry). WaitsStill lost moment e.role) xs
      → AllByRecursion (λ (e : Entry). (d : View) (listener : Option SocketId) (since : Moment) → e.role ≡ Connected d listener → d.unheard ≡ Some since → lost d.peer.addr ≡ true
      → (let m = later_moment h now in m.0) < (let end = after since (if d.passive && is_syn_received d.state then 3000 else 483000) in end.0)) xs
  entries_early [] all = tt
  entries_early (x ∷ xs) all = (role_early x.role all.0, entries_early xs all.1)

  pub none_waits_at_tick : IsSoundTable h → EachKeepsTime h
      → AllByRecursion (λ (e : Entry). (d : View) (listener : Option SocketId) (since : Moment) → e.role ≡ Connected d listener → d.unheard ≡ Some since → lost d.peer.addr ≡ true
      → (let m = later_moment h now in m.0) < (let end = after since (if d.passive && is_syn_received d.state then 3000 else 483000) in end.0)) (let left = after_giving_up (table_after_tick h now) lost now in left.entries)
  none_waits_at_tick sound keeps =
      let timers : SocketsView = table_after_tick h now in
      entries_early (let left = after_giving_up timers lost now in left.entries) (entries_wait lost moment timers.entries (tick_sound h now sound).entries (each_timed h (Ticks now) sound tt keeps))
