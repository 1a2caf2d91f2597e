use Rattle.host.proofs.IsLacking.{is_lacking}
use Rattle.host.proofs.Lacking.{reason, always_dropped, still_lacks}
use Rattle.host.proofs.laws.want_of_room_has_its_reason.Goals as goal

pub returns : goal.returns
returns c = record { only = reason; always = always_dropped; still = still_lacks; named = is_lacking }
