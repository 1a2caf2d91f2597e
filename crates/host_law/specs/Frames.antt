-- Frames that come to a host.
use Rattle.std.specs.Prelude.{◌≡◌, ℕ, List, Ok}
use Rattle.clock.specs.declared.moment.Moment.{Moment}
use Rattle.frames.specs.declared.meaning.Meaning.{Meaning}
use Rattle.frames.specs.Meaning.{heard}
use Rattle.host.specs.ConfigView.{ConfigView}
use Rattle.host.specs.Runs.{Delivers}
use Rattle.host_law.specs.History.{Step}

-- A frame comes that is for this host, by its MAC and its address, and unaltered, as its sums say, and has this meaning.
pub record Comes (c : ConfigView) (meaning : Meaning) (step : Step) : Type 0 where
  pub now : Moment
  pub isn : ℕ
  pub octets : List ℕ
  pub delivered : step.event ≡ Delivers now isn octets
  pub means : heard c.mac c.addr octets ≡ Ok meaning
