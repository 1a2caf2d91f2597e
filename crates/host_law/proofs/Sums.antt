-- Whatever comes to a host has right sums.
use Rattle.std.proofs.Common.{◌≡◌, ◌⊎◌, inl, inr, ℕ, ◌+◌, ◌++◌, List, length, Ok, sym, ◌∙◌, ap, subst, arith}
use Rattle.std.specs.List.{AllByRecursion}
use Rattle.inet_sum.specs.Sum.{sum_of}
use Rattle.ipv4.specs.declared.addr.Addr.{Addr}
use Rattle.ipv4.specs.Datagram.{Datagram}
use Rattle.icmp.specs.Message.{HasForm as HasFormOfMessage, Spells as SpellsMessage}
use Rattle.udp.specs.Datagram.{UserDatagram, SumIsRight, spelling}
use Rattle.frames.specs.declared.meaning.Meaning.{Meaning}
use Rattle.frames.specs.declared.meaning.Meaning.TheVariants.{Arp, Tcp, Icmp, Udp, Other, UdpFragment}
use Rattle.frames.specs.Heard.{BringsDatagram, IsHeard}
use Rattle.frames.proofs.Spelled.{one_meaning}
use Rattle.host.specs.ConfigView.{ConfigView}
use Rattle.host.specs.HostView.{HostView}
use Rattle.host.specs.Runs.{Event, IsOfOctets, Runs, Begins, GoesOn}
use Rattle.host_law.specs.History.{Always, Step, history}
use Rattle.host_law.specs.Sums.{AreRight, CarriesRightSum, ComesWithRightSums, HasRightSums, pseudo_header}
use Rattle.host_law.proofs.Led.{parted}

right : (c : ConfigView) (octets : List ℕ) (d : Datagram) (meaning : Meaning) → BringsDatagram c.mac c.addr octets d → CarriesRightSum d meaning → HasRightSums c octets meaning
right c octets d meaning brings carried = record { d = d; brings = brings; header = let s = brings.spelled in s.sum; carried = carried }

-- a UDP datagram is summed as long as it is
user-sum : (source destination : Addr) (u : UserDatagram) → SumIsRight source destination u → (u.checksum ≡ 0) ⊎ (sum_of (pseudo_header source destination 17 (8 + length u.payload) ++ spelling u) ≡ 65535)
user-sum source destination u (inl none) = inl none
user-sum source destination u (inr whole) = let long : length (spelling u) ≡ 8 + length u.payload = omega arith in inr (ap (λ (n : ℕ). sum_of (pseudo_header source destination 17 n ++ spelling u)) (sym long) ∙ whole)

heard-right : (c : ConfigView) (octets : List ℕ) (meaning : Meaning) → IsHeard c.mac c.addr octets (Ok meaning) → AreRight c octets meaning
heard-right c octets (Arp packet) is = tt
heard-right c octets (Tcp r) is = let spells = is.2 in right c octets is.0 (Tcp r) (let b = is.1 in b.0) (spells.form, spells.sum)
heard-right c octets (Icmp m) is =
    let spells : SpellsMessage m.message (let d = is.0 in d.payload) = is.2 in
    let form : HasFormOfMessage m.message (let d = is.0 in d.payload) = spells.form in
    right c octets is.0 (Icmp m) (let b = is.1 in b.0) (form.spelled, ap sum_of form.spelled ∙ spells.sum)
heard-right c octets (Udp r) is =
    let spells = is.1 in right c octets r.carrier (Udp r) (let b = is.0 in b.0) (spells.form, user-sum r.carrier.source r.carrier.destination r.datagram spells.sum)
heard-right c octets (Other d) is = right c octets d (Other d) is.0 tt
heard-right c octets (UdpFragment d) is = right c octets d (UdpFragment d) is.0 tt

-- what comes is of octets
comes-right : (c : ConfigView) (step : Step) (earlier : List Step) → IsOfOctets step.event → ComesWithRightSums c step earlier
comes-right c step earlier each meaning comes = heard-right c comes.octets meaning ((one_meaning c.mac c.addr comes.octets (Ok meaning) (subst IsOfOctets comes.delivered each)).1 comes.means)

pub all-right : (c : ConfigView) (events : List Event) (h : HostView) (run : Runs c events h) → AllByRecursion IsOfOctets events → Always (ComesWithRightSums c) (history run)
all-right c _ _ Begins octets = tt
all-right c _ h (GoesOn before event old _ ran sound small makes) octets =
    let both = parted IsOfOctets before event octets in
    (comes-right c (record { before = old; event = event; after = h }) (history ran) both.1, all-right c before old ran both.0)
