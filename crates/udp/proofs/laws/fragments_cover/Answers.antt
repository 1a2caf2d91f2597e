use Rattle.std.proofs.Common.{◌<◌, ◌≤◌, ◌+◌, ◌*◌, ◌≡◌, ◌↔◌, IsTrue, arith}
use Rattle.ipv4.specs.Datagram.{HasPlace}
use Rattle.udp.proofs.Covering.{all_of, more_is, full_is, place_is, flags_are, filled_of, cover}
use Rattle.udp.proofs.laws.fragments_cover.Goals as goal

pub returns-clause-whole : goal.returns-clause-whole
returns-clause-whole c = cover

pub returns-clause-more : goal.returns-clause-more
returns-clause-more c = λ len. all_of (λ f. IsTrue f.more_fragments ↔ (8 * f.offset + f.len < len)) len (more_is len)

pub returns-clause-full : goal.returns-clause-full
returns-clause-full c = λ len. all_of (λ f. IsTrue f.more_fragments → f.len ≡ 1480) len (full_is len)

pub returns-clause-rest : goal.returns-clause-rest
returns-clause-rest c = λ len. all_of (λ f. f.len ≤ 1480) len (λ k h. omega arith)

pub returns-clause-places : goal.returns-clause-places
returns-clause-places c = λ len fits. all_of (λ f. HasPlace f.more_fragments f.offset f.len) len (place_is len fits)

pub returns-clause-last : goal.returns-clause-last
returns-clause-last c = flags_are

pub returns-clause-filled : goal.returns-clause-filled
returns-clause-filled c = filled_of
