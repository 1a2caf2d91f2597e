-- A frame that was dropped finds no room at the same as before it was delivered, so that may be asked for then.
use Rattle.std.proofs.Common.{◌≡◌, ℕ, List, Err, refl, ap}
use Rattle.clock.specs.declared.moment.Moment.{Moment}
use Rattle.frames.specs.declared.drop.DropCause.{DropCause}
use Rattle.frames.specs.declared.drop.DropCause.TheVariants.{NoRoom}
use Rattle.host.specs.Arrival.{IsDelivered}
use Rattle.host.specs.HostView.{HostView}
use Rattle.host.specs.Lack.{lack}
use Rattle.host.proofs.Lacking.{still_lacks}
use Rattle.counters.specs.declared.counters.Counters.{Counters}
use Rattle.counters.specs.Counting.{after_drop, after_lack, after_refusal, lack_for}

told_alike : (cause : DropCause) (h : HostView) (now : Moment) (isn : ℕ) (octets : List ℕ) (new : HostView) → IsDelivered h now isn octets (Err cause) new → lack_for cause (lack new octets) ≡ lack_for cause (lack h octets)
told_alike NoRoom h now isn octets new delivered = still_lacks h now isn octets new delivered
told_alike _ h now isn octets new delivered = refl

pub refused_alike : (cause : DropCause) (h : HostView) (now : Moment) (isn : ℕ) (octets : List ℕ) (new : HostView) (c : Counters) → IsDelivered h now isn octets (Err cause) new
    → after_refusal cause (lack new octets) c ≡ after_refusal cause (lack h octets) c
refused_alike cause h now isn octets new c delivered =
    ap (λ found. let other : Counters = record c { drops = after_drop cause c.drops; lacks = after_lack found c.lacks } in other) (told_alike cause h now isn octets new delivered)
