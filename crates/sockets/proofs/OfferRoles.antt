-- What events make of a connection that waits at a listener.
use Rattle.std.proofs.Common.{◌≡◌, inl, inr, ℕ, ◌≤◌, ◌&&◌, ◌||◌, ◌==◌, not, Bool, true, false, if◌then◌else◌, Option, Some, None, refl, sym, ◌∙◌, ap, subst, arith}
use Rattle.std.proofs.lemmas.Grind.{common_steps}
use Rattle.ipv4.specs.declared.addr.Addr.{Addr}
use Rattle.ipv4.specs.declared.addr.Endpoint.{Endpoint}
use Rattle.udp_socket.specs.SocketView.{SocketView as Queues}
use Rattle.clock.specs.declared.moment.Moment.{Moment}
use Rattle.clock.specs.Moments.{has_come}
use Rattle.tcp_state.specs.declared.state.State.{State}
use Rattle.tcp_state.specs.declared.state.State.TheVariants.{Closed, SynReceived}
use Rattle.tcp_state.specs.declared.connection.Fate.TheVariants.{Stays, Removed}
use Rattle.tcp_state.specs.declared.emission.Due.{Due}
use Rattle.tcp_state.specs.declared.calls.Refusal.TheVariants.{ETIMEDOUT}
use Rattle.tcp_state.specs.View.{View, is_syn_sent, is_syn_received, is_closed, is_over, is_at_end, end_of_wait, after_stop, after_reset}
use Rattle.tcp_state.specs.Timing.{gives_up, after_tick, tick_fate}
use Rattle.tcp_state.specs.Due.{first_due, after_emitted}
use Rattle.tcp_state.specs.Edges.{after_first}
use Rattle.tcp_state.specs.Unreachable.{after_unreachable}
use Rattle.tcp_halves.proofs.Choices.{and_left, and_right}
use Rattle.tcp_state.proofs.Clocked.{expiries_keep, emission}
use Rattle.tcp_halves.proofs.Choices.{and_false}
use Rattle.sockets.specs.declared.entry.SocketId.{SocketId}
use Rattle.sockets.specs.GiveWay.{may_give_way}
use Rattle.sockets.specs.declared.emission.Outgoing.{Outgoing}
use Rattle.sockets.specs.declared.role.Role.{Role}
use Rattle.sockets.specs.declared.role.Role.TheVariants.{Idle, Listener, Connected, Datagrams}
use Rattle.sockets.specs.Entries.{on_connection, on_datagrams, is_pending, has_socket, waits_at, is_in_syn_received, backlog_of, is_kept, role_after_bind, role_after_listen, role_after_connect, role_after_accept, role_after_tick, tick_fate_of, role_after_unreachable, unreachable_fate_of, role_after_listener_close, listener_close_fate_of, role_after_emission, emission_fate_of}
use Rattle.tcp_state.specs.Hop.{unheard_until, after_hopless, hopless_fate}
use Rattle.sockets.specs.Lost.{is_given_up, is_hopless, role_after_giving_up, give_up_fate_of}
use Rattle.sockets.specs.Offered.{is_ready}
use Rattle.sockets.proofs.Ticked.{tick-passed, tick-gone as fate_tells}
use Rattle.sockets.proofs.Followed.{by_test}

-- a connection that waits was opened by its listener, sends no SYN of its own, owes no reset while nobody left it, and is CLOSED once it is left
pub record IsPlainView (c : View) : Type 0 where
  pub passive : c.passive ≡ true
  pub sent : is_syn_sent c.state ≡ false
  pub owes : c.released ≡ false → c.owes_reset ≡ false
  pub left : c.released ≡ true → is_closed c.state ≡ true

-- every connection that waits is so
abbrev pub IsPlain : Role → Type 0
IsPlain (Connected c (Some l)) = IsPlainView c
IsPlain _ = Unit {0}

-- a connection that waits in SYN-RECEIVED
abbrev pub is_waking : Role → Bool
is_waking role = is_pending role && is_in_syn_received role

-- it waits nowhere else, a listener keeps its backlog, and what waits doesn't go back to SYN-RECEIVED
pub record Carries (before after : Role) : Type 0 where
  pub waits : (id : SocketId) → waits_at id after ≡ true → waits_at id before ≡ true
  pub backlog : backlog_of before ≤ backlog_of after
  pub waking : is_waking after ≡ true → is_waking before ≡ true
  pub plain : IsPlain after

-- .. and is ready only where it was, and where it stays so
pub record Turned (stays : Bool) (before after : Role) : Type 0 where
  pub carries : Carries before after
  pub ready : is_ready after ≡ (stays && is_ready before)

-- .. as it always does
abbrev pub StaysReady : Role → Role → Type 0
StaysReady before after = Turned true before after

-- a role that nothing happens to
pub as-it-was : (r : Role) → IsPlain r → StaysReady r r
as-it-was r p = record { carries = record { waits = λ id w. w; backlog = omega arith; waking = λ w. w; plain = p }; ready = refl }

-- where nothing waits before and after
quiet : (before after : Role) → is_pending before ≡ false → is_pending after ≡ false → backlog_of before ≤ backlog_of after → StaysReady before after
quiet before after none none_after backlog = record {
  carries = record {
    waits = λ id w. let bad = (unpending after none_after).1 id in cc;
    backlog = backlog;
    waking = λ w. let bad = (rw none_after at w) in cc;
    plain = (unpending after none_after).0;
  };
  ready = rw (none, none_after);
}
  where
    unpending : (r : Role) → is_pending r ≡ false → IsPlain r × ((id : SocketId) → waits_at id r ≡ false)
    unpending (Connected c (Some l)) e = cc
    unpending r e = (tt, λ id. refl)

-- Connections that wait.

-- a connection keeps by whom it was opened and whether it was left, owes no more than it did, and joins neither SYN-SENT nor SYN-RECEIVED
pub record Later (v : View) (opener left owing : Bool) (state : State) : Type 0 where
  pub passive : opener ≡ v.passive
  pub released : left ≡ v.released
  pub owes : v.owes_reset ≡ false → owing ≡ false
  pub sent : is_syn_sent v.state ≡ false → is_syn_sent state ≡ false
  pub received : is_syn_received state ≡ true → is_syn_received v.state ≡ true

abbrev pub IsLater : View → View → Type 0
IsLater v w = Later v w.passive w.released w.owes_reset w.state

pub same : (v : View) → IsLater v v
same v = record { passive = refl; released = refl; owes = λ e. e; sent = λ e. e; received = λ e. e }

-- .. and goes on to wait
pub record GoesOn (c d : View) : Type 0 where
  pub later : IsLater c d
  pub plain : IsPlainView d

pub goes-on : (c d : View) → IsLater c d → (c.released ≡ true → is_closed d.state ≡ true) → IsPlainView c → GoesOn c d
goes-on c d a closed p = record {
  later = a;
  plain = record { passive = a.passive ∙ p.passive; sent = a.sent p.sent; owes = λ held. a.owes (p.owes (sym a.released ∙ held)); left = λ left. closed (sym a.released ∙ left) };
}

-- .. in SYN-RECEIVED or past it as before
abbrev pub StaysOn : View → View → Type 0
StaysOn c d = GoesOn c d × (is_syn_received d.state ≡ is_syn_received c.state)

-- a connection stays in its state
abbrev IsUnmoved : View → View → Type 0
IsUnmoved v w = IsLater v w × (w.state ≡ v.state)

-- .. and goes on so
unmoved : (c d : View) → IsUnmoved c d → IsPlainView c → StaysOn c d
unmoved c d a p = (goes-on c d a.0 (λ left. ap is_closed a.1 ∙ p.left left) p, ap is_syn_received a.1)

-- what holds of the connection of a role, where it waits
abbrev pub Waiting : (View → Type 0) → Role → Type 0
Waiting P r = (c : View) (l : SocketId) → r ≡ Connected c (Some l) → IsPlainView c → P c

-- a role whose connection goes on, where it waits, waits nowhere else ..
pub carried-by : (change : View → View) (r : Role) → Waiting (λ c. GoesOn c (change c)) r → IsPlain r → Carries r (on_connection change r)
carried-by change (Connected c (Some l)) each p =
    let it = each c l refl p in record { waits = λ id w. w; backlog = omega arith; waking = it.later.received; plain = it.plain }
carried-by change (Connected c None) each p = (quiet (Connected c None) (Connected (change c) None) refl refl (omega arith)).carries
carried-by change r each p = (as-it-was r p).carries

-- .. and is ready as it was where the connection stays on
pub stays-by : (change : View → View) (r : Role) → Waiting (λ c. StaysOn c (change c)) r → IsPlain r → StaysReady r (on_connection change r)
stays-by change r each p = record { carries = carried-by change r (λ c l is q. (each c l is q).0) p; ready = ready r each p }
  where
    ready : (r : Role) → Waiting (λ c. StaysOn c (change c)) r → IsPlain r → is_ready (on_connection change r) ≡ is_ready r
    ready (Connected c (Some l)) each p = let it = each c l refl p in rw (it.0.later.released, it.1)
    ready r each p = refl

-- a role is not ready whose connection is left or in SYN-RECEIVED, where it waits
pub gone-by : (r : Role) → Waiting (λ c. (not c.released && not (is_syn_received c.state)) ≡ false) r → IsPlain r → is_ready r ≡ false
gone-by (Connected c (Some l)) unready p = unready c l refl p
gone-by r unready p = refl

-- what is over was left
over-left : (c d : View) → IsLater c d → is_kept (if is_over d then Removed else Stays) ≡ false → (not c.released && not (is_syn_received c.state)) ≡ false
over-left c d a gone =
    by_test (is_over d)
    (λ over. let left : c.released ≡ true = sym a.released ∙ and_right _ _ (and_left _ _ over) in rw left)
    (λ other. let kept = (rw other at gone) in cc)

-- Calls.

-- what is done to a socket's connection
pub socket-stays : (change : View → View) (r : Role) → has_socket r ≡ true → IsPlain r → StaysReady r (on_connection change r)
socket-stays change r socket p = stays-by change r (λ c l is q. let bad = (rw is at socket) in cc) p

pub socket-unready : (r : Role) → has_socket r ≡ true → IsPlain r → is_ready r ≡ false
socket-unready r socket p = gone-by r (λ c l is q. let bad = (rw is at socket) in cc) p

-- a socket is bound, listens, opens a connection or changes its queues
pub bound-stays : (local : Endpoint) (r : Role) → IsPlain r → StaysReady r (role_after_bind local r)
bound-stays local (Connected c l) p = as-it-was (Connected c l) p
bound-stays local r p = quiet r (role_after_bind local r) refl refl (omega arith)

pub listening-stays : (backlog : ℕ) (r : Role) → IsPlain r → StaysReady r (role_after_listen backlog r)
listening-stays backlog (Connected c l) p = as-it-was (Connected c l) p
listening-stays backlog (Idle buffers (Some local)) p = quiet (Idle buffers (Some local)) (Listener local backlog) refl refl (omega arith)
listening-stays backlog (Idle buffers None) p = as-it-was (Idle buffers None) p
listening-stays backlog r p = as-it-was r p

pub connecting-stays : (local peer : Endpoint) (isn : ℕ) (now : Moment) (r : Role) → IsPlain r → StaysReady r (role_after_connect local peer isn now r)
connecting-stays local peer isn now (Connected c l) p = as-it-was (Connected c l) p
connecting-stays local peer isn now r p = quiet r (role_after_connect local peer isn now r) refl refl (omega arith)

pub queued-stays : (bind : Option Endpoint → Option Endpoint) (change : Queues → Queues) (r : Role) → IsPlain r → StaysReady r (on_datagrams bind change r)
queued-stays bind change (Connected c l) p = as-it-was (Connected c l) p
queued-stays bind change r p = quiet r (on_datagrams bind change r) refl refl (omega arith)

-- accepted, it waits nowhere
pub accepted-carries : (r : Role) → IsPlain r → Carries r (role_after_accept r)
accepted-carries (Connected c l) p = record { waits = λ id w. cc; backlog = omega arith; waking = λ w. cc; plain = tt }
accepted-carries r p = (as-it-was r p).carries

-- A tick.

-- a wait ends past SYN-RECEIVED
end-passed : (state : State) (released : Bool) (since now : Moment) → has_come (end_of_wait state released since) now ≡ true → is_syn_received state ≡ false
end-passed SynReceived released since now e = cc
end-passed _ released since now e = refl

-- one that ends
pub ended : (v : View) → Later v v.passive v.released v.owes_reset Closed
ended v = record { passive = refl; released = refl; owes = λ e. e; sent = λ e. refl; received = λ e. cc }

-- a connection that waits and keeps its place
tick-kept : (now : Moment) (c : View) → is_kept (tick_fate c now) ≡ true → IsPlainView c → StaysOn c (after_tick c now)
tick-kept now c kept p =
    by_test (is_at_end c now)
    (λ ends. rw ends (goes-on c (after_stop c) (ended c) (λ left. refl) p, sym (end-passed c.state c.released c.since now ends)))
    (λ waits. by_test (gives_up c now)
    (λ given. rw (waits, given) (goes-on c (after_reset c (Some ETIMEDOUT)) (ended c) (λ left. refl) p, sym (tick-passed c now kept waits given p.passive)))
    (λ lives. rw (waits, lives)
    (unmoved c _ (subst (IsUnmoved c) (sym (expiries_keep c now)) (same c, refl)) p)))

pub tick-stays : (now : Moment) (r : Role) → is_kept (tick_fate_of now r) ≡ true → IsPlain r → StaysReady r (role_after_tick now r)
tick-stays now r kept p = stays-by (λ c. after_tick c now) r (λ c l is q. tick-kept now c (rw is at kept) q) p

-- taken out is one that is left, or in SYN-RECEIVED
pub tick-gone : (now : Moment) (r : Role) → is_kept (tick_fate_of now r) ≡ false → IsPlain r → is_ready r ≡ false
tick-gone now r gone p = gone-by r (λ c l is q. fate_tells c now (rw is at gone)) p

-- What goes out.

-- it moves no connection
emitted : (v : View) (due : Option Due) (now : Moment) → IsUnmoved v (after_first v due now)
emitted v None now = (same v, refl)
emitted v (Some due) now = elim (emission v due now) [
  | inl reset ↦ subst (λ (d : Due). IsUnmoved v (after_emitted v d now)) (sym reset) (record { passive = refl; released = refl; owes = λ e. refl; sent = λ e. e; received = λ e. e }, refl)
  | inr kept ↦ subst (IsUnmoved v) (sym kept) (same v, refl)
]

pub emission-stays : (now : Moment) (what : Outgoing) (r : Role) → IsPlain r → StaysReady r (role_after_emission now what r)
emission-stays now what (Datagrams bound queues) p = quiet (Datagrams bound queues) (role_after_emission now what (Datagrams bound queues)) refl refl (omega arith)
emission-stays now what r p = stays-by (λ c. after_first c (first_due c) now) r (λ c l is q. unmoved c _ (emitted c (first_due c) now) q) p

-- taken out is one that is over, and was left
pub emission-gone : (now : Moment) (what : Outgoing) (r : Role) → is_kept (emission_fate_of (role_after_emission now what r)) ≡ false → IsPlain r → is_ready r ≡ false
emission-gone now what r gone p = gone-by r (λ c l is q. over-left c (after_first c (first_due c) now) (emitted c (first_due c) now).0 (rw is at gone)) p

-- Resets and datagrams that are given up.

-- what a listener opened passes SYN-RECEIVED, or is taken out
hop-passed : (over released passive waits : Bool) → is_kept (if over && (released || (passive && waits)) then Removed else Stays) ≡ true → over ≡ true → passive ≡ true → waits ≡ false
hop-passed over released passive waits kept e f = grind (arith, common_steps)

hop-kept : (lost : Addr → Bool) (now : Moment) (c : View) → (is_hopless lost c ≡ true → is_kept (hopless_fate c now) ≡ true) → IsPlainView c → StaysOn c (if is_hopless lost c then after_hopless c now else c)
hop-kept lost now c kept p =
    by_test (is_hopless lost c)
    (λ hopless. rw hopless (by_test (has_come (unheard_until c) now)
    (λ over. rw over (goes-on c (after_reset c (Some ETIMEDOUT)) (ended c) (λ left. refl) p, sym (hop-passed (has_come (unheard_until c) now) c.released c.passive (is_syn_received c.state) (kept hopless) over p.passive)))
    (λ waits. rw waits (unmoved c c (same c, refl) p))))
    (λ reached. rw reached (unmoved c c (same c, refl) p))

pub give_up-stays : (lost : Addr → Bool) (now : Moment) (r : Role) → is_kept (give_up_fate_of lost now r) ≡ true → IsPlain r → StaysReady r (role_after_giving_up lost now r)
give_up-stays lost now (Connected c l) kept p =
    stays-by (λ d. if is_hopless lost d then after_hopless d now else d) (Connected c l)
    (λ d k is q. let same_view : c ≡ d = cc in subst (λ (x : View). StaysOn x (if is_hopless lost x then after_hopless x now else x)) same_view (hop-kept lost now c kept_by (subst IsPlainView (sym same_view) q))) p
  where
    kept_by : is_hopless lost c ≡ true → is_kept (hopless_fate c now) ≡ true
    kept_by hopless =
        by_test (is_given_up lost now (Connected c l))
        (λ reset. let gone : is_kept (give_up_fate_of lost now (Connected c l)) ≡ false = rw reset in cc)
        (λ other. rw (other, hopless) at kept)
give_up-stays lost now r kept p = quiet r (role_after_giving_up lost now r) refl refl (omega arith)

-- taken out is one that owes a reset, and was left, or one that is left, or in SYN-RECEIVED
-- what may give way was never ready
pub give_way-gone : (id : SocketId) (r : Role) → may_give_way (record { id = id; role = r }) ≡ true → IsPlain r → is_ready r ≡ false
give_way-gone id (Connected c (Some l)) may p =
    by_test (is_syn_received c.state)
    (λ opens. rw opens (and_false (not c.released)))
    (λ past. let none : (c.passive && is_syn_received c.state) ≡ false = rw past (and_false c.passive) in let bad : false ≡ true = sym (ap (λ b. b || false) none) ∙ may in cc)
give_way-gone id _ may p = refl

pub give_up-gone : (lost : Addr → Bool) (now : Moment) (r : Role) → is_kept (give_up_fate_of lost now r) ≡ false → IsPlain r → is_ready r ≡ false
give_up-gone lost now r gone p = gone-by r unready p
  where
    kept_by : (c : View) (b : Bool) → c.released ≡ false → is_syn_received c.state ≡ false → is_kept (if b then hopless_fate c now else Stays) ≡ true
    kept_by c false held passed = refl
    kept_by c true held passed =
        by_test (has_come (unheard_until c) now)
        (λ over. by_test c.passive (λ passive. rw (over, held, passive, passed) refl) (λ active. rw (over, held, active) refl))
        (λ waits. rw waits refl)

    unready : Waiting (λ c. (not c.released && not (is_syn_received c.state)) ≡ false) r
    unready c l is q = by_test c.released (λ left. rw left) (λ held. by_test (is_syn_received c.state) (λ waits. rw (held, waits) refl)
        (λ passed. let kept : is_kept (give_up_fate_of lost now r) ≡ true = rw (is, q.owes held) (kept_by c (lost c.peer.addr) held passed) in cc))

-- A hard error.

untold : (c : View) (number : ℕ) → is_syn_sent c.state ≡ false → after_unreachable c number ≡ c
untold c number sent = rw sent

-- it moves no connection that waits, which sent no SYN of its own
told : (number : ℕ) (c : View) → IsPlainView c → IsUnmoved c (after_unreachable c number)
told number c p = subst (IsUnmoved c) (sym (untold c number p.sent)) (same c, refl)

pub told-stays : (number : ℕ) (r : Role) → IsPlain r → StaysReady r (role_after_unreachable number r)
told-stays number r p = stays-by (λ c. after_unreachable c number) r (λ c l is q. unmoved c _ (told number c q) q) p

pub told-gone : (number : ℕ) (r : Role) → is_kept (unreachable_fate_of number r) ≡ false → IsPlain r → is_ready r ≡ false
told-gone number r gone p = gone-by r (λ c l is q. over-left c (after_unreachable c number) (told number c q).0 (rw is at gone)) p

-- A listener is closed.

-- what waits at it is ready no longer
pub forsaken-withdrawn : (now : Moment) (id : SocketId) (r : Role) → is_kept (listener_close_fate_of id r) ≡ true → IsPlain r → Turned (not (waits_at id r)) r (role_after_listener_close now id r)
forsaken-withdrawn now id (Connected c (Some l)) kept p =
    by_test (l.0 == id.0)
    (λ waits. by_test (is_closed c.state)
    (λ ended. let out = (rw (waits, ended) at kept) in cc)
    (λ live. rw (waits, live) (record {
      carries = record { waits = λ i w. w; backlog = omega arith; waking = λ w. cc; plain = record { passive = p.passive; sent = refl; owes = λ e. cc; left = λ e. refl } };
      ready = refl;
    })))
    (λ other. rw other (record { carries = (as-it-was (Connected c (Some l)) p).carries; ready = refl }))
forsaken-withdrawn now id r kept p = record { carries = (as-it-was r p).carries; ready = refl }

-- taken out is one that waits at it
pub forsaken-gone : (id : SocketId) (r : Role) → is_kept (listener_close_fate_of id r) ≡ false → waits_at id r ≡ true
forsaken-gone id r gone = by_test (waits_at id r) (λ w. w) (λ other. let kept = (rw other at gone) in cc)
