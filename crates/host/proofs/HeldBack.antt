-- What goes out changes the table only where it is a segment.
use Rattle.std.proofs.Common.{◌≡◌, ◌≢◌, refl}
use Rattle.ether.specs.declared.mac.Mac.{Mac}
use Rattle.ipv4.specs.declared.addr.Addr.{Addr}
use Rattle.clock.specs.declared.moment.Moment.{Moment}
use Rattle.sockets.specs.SocketsView.{later_moment}
use Rattle.host.specs.HostView.{HostView}
use Rattle.host.specs.Emission.{Emission, Replies, Sends, Asks, Nothing, after_emission, emission, left_by}

pub table-held : (h : HostView) (now : Moment) → let moment = later_moment h.sockets now in ((mac : Mac) (to : Addr) → emission h moment ≢ Sends mac to) → (let after = after_emission h now in after.sockets) ≡ h.sockets
table-held h now none = by_emission (emission h moment) refl
  where
    moment : Moment
    moment = later_moment h.sockets now

    by_emission : (x : Emission) → emission h moment ≡ x → (let after = left_by h moment x in after.sockets) ≡ h.sockets
    by_emission (Replies place) is = refl
    by_emission (Sends mac to) is = absurd (none mac to is)
    by_emission (Asks hop) is = refl
    by_emission Nothing is = refl
