-- Why the id given last never goes back, nor the kept moment, and the address stays, how connections behave, and how large the table is.
use Rattle.std.proofs.Common.{◌≡◌, ◌≤◌, refl, arith}
use Rattle.clock.specs.declared.moment.Moment.{Moment}
use Rattle.sockets.specs.SocketsView.{SocketsView}
use Rattle.sockets.specs.Ticks.{after_tick}
use Rattle.sockets.specs.Causes.{Event, after_event}
use Rattle.sockets.proofs.Steps.{IsStepped, followed, joined, stepped, later_kept}

not_before : (h : SocketsView) (e : Event) (w : SocketsView) → IsStepped h e w → (h.last_id ≤ w.last_id) × (h.kept.0 ≤ w.kept.0) × (w.addr ≡ h.addr) × (w.manner ≡ h.manner) × (w.sizes ≡ h.sizes)
not_before h e w (followed f) = let same : w.last_id ≡ h.last_id = f.last_id in (omega arith, f.kept, f.addr, f.manner, f.sizes)
not_before h e _ (joined j) = (omega arith, omega arith, refl, refl, refl)

pub never_back : (h : SocketsView) (e : Event) → (let after = after_event h e in h.last_id ≤ after.last_id)
never_back h e = (not_before h e (after_event h e) (stepped h e)).0

pub moment_kept : (h : SocketsView) (e : Event) → (let after = after_event h e in h.kept.0 ≤ after.kept.0)
moment_kept h e = (not_before h e (after_event h e) (stepped h e)).1

pub address_stays : (h : SocketsView) (e : Event) → (let after = after_event h e in after.addr) ≡ h.addr
address_stays h e = (not_before h e (after_event h e) (stepped h e)).2

pub manner_stays : (h : SocketsView) (e : Event) → (let after = after_event h e in after.manner) ≡ h.manner
manner_stays h e = (not_before h e (after_event h e) (stepped h e)).3

pub sizes_stay : (h : SocketsView) (e : Event) → (let after = after_event h e in after.sizes) ≡ h.sizes
sizes_stay h e = (not_before h e (after_event h e) (stepped h e)).4

pub tick_told : (h : SocketsView) (now : Moment) → (let after = after_tick h now in now.0 ≤ after.kept.0)
tick_told h now = (later_kept h now).1
