-- What goes out and what comes leave the address, the manner and the kept moment of a host as they are, and of its frame side all but the replies that wait.
use Rattle.std.proofs.Common.{◌≡◌, nat_lt, List, ◌∙◌, ap, sym, refl}
use Rattle.clock.specs.declared.moment.Moment.{Moment}
use Rattle.interface.specs.declared.reply.Waiting.{Waiting}
use Rattle.interface.specs.InterfaceView.{InterfaceView}
use Rattle.tcp_halves.proofs.Choices.{either}
use Rattle.sockets.specs.SocketsView.{SocketsView, later_moment}
use Rattle.host.specs.HostView.{HostView}

pub record HostStays (old new : HostView) : Type 0 where
  pub interface : new.interface ≡ record old.interface { replies = let i = new.interface in i.replies }
  pub moment : new.sockets.kept ≡ old.sockets.kept
  pub addr : new.sockets.addr ≡ old.sockets.addr
  pub manner : new.sockets.manner ≡ old.sockets.manner

pub same_but : (i j : InterfaceView) → i ≡ j → i ≡ record j { replies = i.replies }
same_but i j same = same ∙ ap (λ (l : List Waiting). record j { replies = l }) (sym (ap (λ (k : InterfaceView). k.replies) same))

pub stays_first : (h : HostView) → HostStays h h
stays_first h = record { interface = refl; moment = refl; addr = refl; manner = refl }

pub stays_on : (f g h : HostView) → HostStays f g → HostStays g h → HostStays f h
stays_on f g h first more = record { interface = more.interface ∙ ap (λ (i : InterfaceView). record i { replies = let j = h.interface in j.replies }) first.interface; moment = more.moment ∙ first.moment; addr = more.addr ∙ first.addr; manner = more.manner ∙ first.manner }

-- the kept moment is the later of itself
pub kept_later : (t : SocketsView) → later_moment t t.kept ≡ t.kept
kept_later t = either Moment (λ m. m ≡ t.kept) (nat_lt t.kept.0 t.kept.0) t.kept t.kept (λ before. refl) (λ not_before. refl)
