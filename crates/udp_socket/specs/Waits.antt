-- Datagrams that are given up, since they can't go out. How long they wait is this stack's own.
use Rattle.std.specs.Prelude.{ℕ, Bool, not, ◌&&◌, filter, fold, List, [], ◌∷◌, if◌then◌else◌, Option, Some, None}
use Rattle.clock.specs.declared.moment.Moment.{Moment}
use Rattle.clock.specs.Moments.{after, has_come, sooner}
use Rattle.ipv4.specs.declared.addr.Addr.{Addr}
use Rattle.clock.specs.declared.moment.TheConstants.{HOP_WAIT}
use Rattle.udp_socket.specs.SocketView.{Outgoing, SocketView}

-- a datagram for a lost address is given up once it has waited for 3,000 milliseconds
abbrev pub is_given_up : (Addr → Bool) → Moment → Outgoing → Bool
is_given_up lost now o = has_come (Some (after o.since HOP_WAIT)) now && lost o.peer.addr

-- how many fragments of the first datagram that is left have gone out: none where the one before it was given up, and else as many as before
abbrev pub parts_left : (Addr → Bool) → Moment → List Outgoing → ℕ → ℕ
parts_left lost now [] parts = parts
parts_left lost now (o ∷ rest) parts = if is_given_up lost now o then 0 else parts

-- they are taken out, the others stay in order
abbrev pub after_giving_up : SocketView → (Addr → Bool) → Moment → SocketView
after_giving_up s lost now = record s {
  outbox = filter (λ o. not (is_given_up lost now o)) s.outbox;
  parts = parts_left lost now s.outbox s.parts;
}

-- from when on a datagram is given up: never where its address isn't lost
abbrev pub deadline_of : (Addr → Bool) → Outgoing → Option Moment
deadline_of lost o = if lost o.peer.addr then Some (after o.since HOP_WAIT) else None

-- from when on one of them is: the least of their moments
abbrev pub deadline : (Addr → Bool) → SocketView → Option Moment
deadline lost s = fold (λ least o. sooner least (deadline_of lost o)) None s.outbox
