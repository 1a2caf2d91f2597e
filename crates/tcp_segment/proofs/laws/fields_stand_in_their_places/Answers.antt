use Rattle.std.proofs.Common.{take, drop, refl, ap}
use Rattle.tcp_segment.proofs.laws.fields_stand_in_their_places.Goals as goal

pub returns-clause-ports : goal.returns-clause-ports
returns-clause-ports c segment octets form = ap (λ xs. take 4 xs) form.spelled

pub returns-clause-numbers : goal.returns-clause-numbers
returns-clause-numbers c segment octets form = ap (λ xs. take 8 (drop 4 xs)) form.spelled

pub returns-clause-control : goal.returns-clause-control
returns-clause-control c segment octets form = ap (λ xs. take 2 (drop 12 xs)) form.spelled

pub returns-clause-window : goal.returns-clause-window
returns-clause-window c segment octets form = ap (λ xs. take 2 (drop 14 xs)) form.spelled

pub returns-clause-checksum : goal.returns-clause-checksum
returns-clause-checksum c segment octets form = ap (λ xs. take 2 (drop 16 xs)) form.spelled

pub returns-clause-urgent : goal.returns-clause-urgent
returns-clause-urgent c segment octets form = ap (λ xs. take 2 (drop 18 xs)) form.spelled

pub returns-clause-sent : goal.returns-clause-sent
returns-clause-sent c head octets = (refl, refl, refl, refl, refl, refl, refl)
