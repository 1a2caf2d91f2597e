-- What a table keeps over every list of events.
use Rattle.std.proofs.Common.{◌≡◌, List, [], ◌∷◌, ◌++◌, refl, sym, ◌∙◌, ap, subst}
use Rattle.ipv4.specs.declared.addr.Addr.{Addr}
use Rattle.tcp_halves.specs.declared.buffers.Manner.{Manner}
use Rattle.sockets.specs.declared.sizes.Sizes.{Sizes}
use Rattle.sockets.specs.Causes.{Event, after_event}
use Rattle.sockets.specs.Offered.{AreAllowed, IsReached}
use Rattle.sockets.specs.Order.{IsOrdered, IsAllowed}
use Rattle.sockets.specs.Sound.{NoneIsOver}
use Rattle.sockets.specs.SocketsView.{SocketsView, new_sockets}
use Rattle.sockets.specs.Traffic.{after_events}
use Rattle.sockets.proofs.Ordered.{fresh_ordered, stays_ordered}
use Rattle.sockets.proofs.Over.{none_over}

-- events that may be make this of a table
abbrev pub LeadsTo : SocketsView → SocketsView → Type 0
LeadsTo h new = (events : List Event) × AreAllowed h events × (after_events h events ≡ new)

-- what each event keeps is kept by a list of them
kept_by : (P : SocketsView → Type 0) → ((h : SocketsView) (e : Event) → IsAllowed h e → P h → P (after_event h e)) → (h : SocketsView) (events : List Event) → AreAllowed h events → P h → P (after_events h events)
kept_by P each h [] allowed p = p
kept_by P each h (e ∷ rest) allowed p = kept_by P each (after_event h e) rest allowed.1 (each h e allowed.0 p)

pub kept_to : (P : SocketsView → Type 0) → ((h : SocketsView) (e : Event) → IsAllowed h e → P h → P (after_event h e)) → (h new : SocketsView) → LeadsTo h new → P h → P new
kept_to P each h new leads p = subst P leads.2 (kept_by P each h leads.0 leads.1 p)

-- nothing happened ..
pub led_nowhere : (h : SocketsView) → LeadsTo h h
led_nowhere h = ([], tt, refl)

-- .. or one event ..
pub led_by : (h : SocketsView) (e : Event) → IsAllowed h e → LeadsTo h (after_event h e)
led_by h e allowed = (e ∷ [], (allowed, tt), refl)

-- .. or more after others
joined : (h : SocketsView) (events more : List Event) → AreAllowed h events → AreAllowed (after_events h events) more → AreAllowed h (events ++ more) × (after_events h (events ++ more) ≡ after_events (after_events h events) more)
joined h [] more allowed further = (further, refl)
joined h (e ∷ rest) more allowed further =
    let behind = joined (after_event h e) rest more allowed.1 further in
    ((allowed.0, behind.0), behind.1)

pub led_on : (h between new : SocketsView) → LeadsTo h between → LeadsTo between new → LeadsTo h new
led_on h between new first then =
    let allowed : AreAllowed (after_events h first.0) then.0 = subst (λ (w : SocketsView). AreAllowed w then.0) (sym first.2) then.1 in
    let all = joined h first.0 then.0 first.1 allowed in
    (first.0 ++ then.0, all.0, all.1 ∙ ap (λ (w : SocketsView). after_events w then.0) first.2 ∙ then.2)

-- a table that is reached
pub reached_by : (addr : Addr) (manner : Manner) (sizes : Sizes) (h : SocketsView) → LeadsTo (new_sockets addr manner sizes) h → IsReached h
reached_by addr manner sizes h leads = record { addr = addr; manner = manner; sizes = sizes; events = leads.0; allowed = leads.1; is = leads.2 }

pub further : (h new : SocketsView) → LeadsTo h new → IsReached h → IsReached new
further h new leads r = reached_by r.addr r.manner r.sizes new (led_on (new_sockets r.addr r.manner r.sizes) h new (r.events, r.allowed, r.is) leads)

pub reached_ordered : (h : SocketsView) → IsReached h → IsOrdered h
reached_ordered h r = kept_to IsOrdered stays_ordered (new_sockets r.addr r.manner r.sizes) h (r.events, r.allowed, r.is) (fresh_ordered r.addr r.manner r.sizes)

pub fresh_over : (addr : Addr) (manner : Manner) (sizes : Sizes) → NoneIsOver (new_sockets addr manner sizes)
fresh_over addr manner sizes = tt

pub reached_over : (h : SocketsView) → IsReached h → NoneIsOver h
reached_over h r = kept_to NoneIsOver (λ w e allowed none. none_over w e none) (new_sockets r.addr r.manner r.sizes) h (r.events, r.allowed, r.is) (fresh_over r.addr r.manner r.sizes)
