-- Which datagrams are given up, by their moments.
use Rattle.std.proofs.Common.{◌≡◌, ℕ, ◌+◌, ◌-◌, ◌^◌, ◌<◌, ◌&&◌, min, nat_le, Bool, not, List, [], ◌∷◌, filter, cond, refl, ◌∙◌, ap, arith}
use Rattle.std.proofs.lemmas.Bool.Decides.{nat_tests}
use Rattle.clock.specs.declared.moment.Moment.{Moment}
use Rattle.ipv4.specs.declared.addr.Addr.{Addr}
use Rattle.udp_socket.specs.SocketView.{Outgoing, SocketView}
use Rattle.udp_socket.specs.Waits.{is_given_up, parts_left, after_giving_up}

-- the end of a wait doesn't lie past the clock
in_time : (since now : ℕ) → now < 18446744073709551615 → nat_le (min (since + 3000) (2 ^ 64 - 1)) now ≡ nat_le (since + 3000) now
in_time since now before_last = grind (arith, nat_tests, before_last)

pub given_in_time : (lost : Addr → Bool) (now : Moment) (o : Outgoing) → now.0 < 18446744073709551615
    → is_given_up lost now o ≡ (nat_le (o.since.0 + 3000) now.0 && lost o.peer.addr)
given_in_time lost now o before_last = ap (λ (b : Bool). b && lost o.peer.addr) (in_time o.since.0 now.0 before_last)

pub those_stay : (lost : Addr → Bool) (now : Moment) → now.0 < 18446744073709551615 → (os : List Outgoing)
    → filter (λ o. not (is_given_up lost now o)) os ≡ filter (λ o. not (nat_le (o.since.0 + 3000) now.0 && lost o.peer.addr)) os
those_stay lost now before_last [] = refl
those_stay lost now before_last (o ∷ os) =
    ap (λ (b : Bool). cond (not b) (o ∷ filter (λ x. not (is_given_up lost now x)) os) (filter (λ x. not (is_given_up lost now x)) os)) (given_in_time lost now o before_last)
    ∙ ap (λ (xs : List Outgoing). cond (not (nat_le (o.since.0 + 3000) now.0 && lost o.peer.addr)) (o ∷ xs) xs) (those_stay lost now before_last os)

pub parts_stay : (s : SocketView) (lost : Addr → Bool) (now : Moment) (o : Outgoing) (rest : List Outgoing) → now.0 < 18446744073709551615 → s.outbox ≡ o ∷ rest
    → (after_giving_up s lost now).parts ≡ cond (nat_le (o.since.0 + 3000) now.0 && lost o.peer.addr) 0 s.parts
parts_stay s lost now o rest before_last is =
    ap (λ (os : List Outgoing). parts_left lost now os s.parts) is ∙ ap (λ (b : Bool). cond b 0 s.parts) (given_in_time lost now o before_last)
