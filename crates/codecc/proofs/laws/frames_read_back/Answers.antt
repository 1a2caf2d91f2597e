use Rattle.std.proofs.Common.{Ok, refl}
use Rattle.ether.specs.Frame.{Frame}
use Rattle.codecc.proofs.laws.frames_read_back.Goals as goal

pub returns : goal.returns
returns c = λ h old payload d s k.
    let f : Frame = record { destination = record { 0 = h.destination }; source = record { 0 = h.source }; kind = h.kind; payload = payload } in
    (Ok f, record { destination = d; source = s; kind = k; spelled = refl }, refl, refl)
