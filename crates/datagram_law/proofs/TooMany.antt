-- One more than 65,536: two with one identification, and fragments of both that make, and are read as, what neither is.
use Rattle.std.proofs.Common.{◌≡◌, ℕ, ◌<◌, ◌%◌, Bool, true, false, cond, nat_eq, List, [], ◌∷◌, ◌++◌, length, map, get_or, slice_index, Some, Ok, refl, sym, ◌∙◌, ap, subst, arith}
use Rattle.std.specs.List.{range_with_len}
use Rattle.std.proofs.lemmas.List.FromFn.{length-map-range_with_len, get_or-map-range_with_len}
use Rattle.std.proofs.lemmas.Option.{slice_get_within, get_or_from_slice_get}
use Rattle.clock.specs.declared.moment.Moment.{Moment}
use Rattle.ipv4.specs.declared.addr.Endpoint.{Endpoint}
use Rattle.ipv4.specs.declared.limits.TheConstants.{MAX_PAYLOAD}
use Rattle.ipv4.specs.Datagram.{Datagram}
use Rattle.udp.specs.Datagram.{UserDatagram, spelling}
use Rattle.udp.specs.Reading.{datagram_or_fault}
use Rattle.reassembly.specs.Events.Event.{Takes}
use Rattle.reassembly.specs.Fragments.{end_of, quote_of}
use Rattle.reassembly.specs.Octets.{reaching, put, laid, whole_of}
use Rattle.reassembly.specs.Parts.{IsPartOf}
use Rattle.reassembly.specs.Places.{after_take, outcome_at, place_for}
use Rattle.reassembly.specs.Reassembly.{PoolView, new_pool, outcome}
use Rattle.reassembly.specs.Reassembly.Outcome.{Completes}
use Rattle.datagram_law.specs.Accepted.{Accepted, AreInTurn, CameFrom, IsInWidths, datagram_of}
use Rattle.datagram_law.specs.Carried.{IsOfOne}
use Rattle.datagram_law.specs.Pools.{IsPoolOf}
use Rattle.datagram_law.proofs.Gathering.{new, one_event}

abbrev source : Endpoint
source = record { addr = record { 0 = 10 ∷ 0 ∷ 0 ∷ 1 ∷ [] }; port = 1 }

abbrev peer : Endpoint
peer = record { addr = record { 0 = 10 ∷ 0 ∷ 0 ∷ 2 ∷ [] }; port = 2 }

-- Each has twelve octets, in two pieces of eight and four. In the last both pieces are others, and each has the sum of what it stands for.
abbrev front : Bool → List ℕ
front is_last = 0 ∷ cond is_last 0 1 ∷ 0 ∷ cond is_last 1 0 ∷ 0 ∷ 0 ∷ 0 ∷ 0 ∷ []

abbrev end : Bool → List ℕ
end is_last = 0 ∷ cond is_last 0 1 ∷ 0 ∷ cond is_last 1 0 ∷ []

abbrev with_octets : ℕ → Bool → Accepted
with_octets n is_last = record { source = source; peer = peer; identification = n % 65536; octets = front is_last ++ end is_last }

abbrev entry : ℕ → Accepted
entry n = with_octets n (nat_eq n 65536)

so_many : ℕ → List Accepted
so_many n = map entry (range_with_len 0 n)

count : (n : ℕ) → length (so_many n) ≡ n
unfolding so_many
count n = length-map-range_with_len entry 0 n

entry_at : (n k : ℕ) (a : Accepted) → k < length (so_many n) → get_or (so_many n) k a ≡ entry k
unfolding so_many
entry_at n k a within = get_or-map-range_with_len entry 0 n k k a (omega (arith, within, count n)) (omega arith)

in_turn : (n : ℕ) → AreInTurn (so_many n)
in_turn n = record {
  numbered = λ k a e.
      let is : entry k ≡ a = sym (entry_at n k a (slice_get_within (so_many n) k a e)) ∙ get_or_from_slice_get (so_many n) k a a e in
      sym (ap (λ (x : Accepted). x.identification) is);
  widths = λ k d within. subst IsInWidths (sym (entry_at n k d within)) (fits k);
}
  where
    fits : (k : ℕ) → IsInWidths (entry k)
    fits k = record { source_addr = refl; source_port = omega arith; peer_addr = refl; peer_port = omega arith; len = omega arith }

-- the header and the first piece of the first one, and the second piece of the last one
abbrev carrying : Bool → ℕ → List ℕ → Datagram
carrying more offset payload = record {
  service = 0;
  identification = 0;
  reserved = false;
  dont_fragment = false;
  more_fragments = more;
  offset = offset;
  ttl = 64;
  protocol = 17;
  checksum = 0;
  source = source.addr;
  destination = peer.addr;
  options = [];
  payload = payload;
}

abbrev header : List ℕ
header = 0 ∷ 1 ∷ 0 ∷ 2 ∷ 0 ∷ 20 ∷ 235 ∷ 190 ∷ []

abbrev first : Datagram
first = carrying true 0 (header ++ front false)

abbrev second : Datagram
second = carrying false 2 (end true)

abbrev mix : List ℕ
mix = header ++ front false ++ end true

first_part : IsPartOf (spelling (datagram_of (entry 0))) first
first_part =
    let reach : end_of first ≡ 16 = refl in
    let all : length (spelling (datagram_of (entry 0))) ≡ 20 = refl in
    record { within = omega (arith, reach, all); octets = refl; ends = λ e. absurd (never e) }
  where
    never : false ≡ true → ⊥
    never e = cc

second_part : IsPartOf (spelling (datagram_of (entry 65536))) second
second_part =
    let reach : end_of second ≡ 20 = refl in
    let all : length (spelling (datagram_of (entry 65536))) ≡ 20 = refl in
    record { within = omega (arith, reach, all); octets = refl; ends = λ e. refl }

of_first : (n : ℕ) → n ≡ 65537 → IsOfOne (so_many n) first
of_first n is =
    let within : 0 < length (so_many n) = omega (arith, is, count n) in
    (0, entry 0, within, entry_at n 0 (entry 0) within, record { source = refl; destination = refl; protocol = refl; identification = refl; part = first_part })

of_second : (n : ℕ) → n ≡ 65537 → IsOfOne (so_many n) second
of_second n is =
    let within : 65536 < length (so_many n) = omega (arith, is, count n) in
    (65536, entry 65536, within, entry_at n 65536 (entry 65536) within, record { source = refl; destination = refl; protocol = refl; identification = refl; part = second_part })

abbrev now : Moment
now = record { 0 = 0 }

-- four places, each with room for the longest payload
abbrev empty : PoolView
empty = new_pool 4 MAX_PAYLOAD

abbrev pool : PoolView
pool = after_take now first empty

is_pool : (n : ℕ) → n ≡ 65537 → IsPoolOf (so_many n) pool
is_pool n is = one_event (so_many n) empty (Takes now first) (new (so_many n) 4 MAX_PAYLOAD) (of_first n is)

found : place_for second pool ≡ Some 0
unfolding outcome laid put reaching whole_of
found = refl

completes : outcome_at now second pool 0 ≡ Completes mix (quote_of first)
unfolding outcome laid put reaching whole_of
completes = refl

-- it has the checksum of what it is, so it is read ..
abbrev read : UserDatagram
read = record { source = 1; destination = 2; checksum = 0xebbe; payload = front false ++ end true }

is_read : datagram_or_fault second.source second.destination mix ≡ Ok read
is_read = refl

-- .. and nobody sent it
of_neither : (n : ℕ) → CameFrom (so_many n) source peer read.payload → ⊥
of_neither n (k, a, within, there, (sent_from, sent_to, octets)) =
    by_test (nat_eq k 65536) (ap (λ (x : Accepted). x.octets) (sym (entry_at n k a within) ∙ there) ∙ octets)
  where
    other : ◌≡◌ {A = ℕ} 0 1 → ⊥
    other e = omega (arith, e)

    by_test : (b : Bool) → front b ++ end b ≡ read.payload → ⊥
    by_test true e = other (ap (λ (xs : List ℕ). slice_index xs 1) e)
    by_test false e = other (ap (λ (xs : List ℕ). slice_index xs 11) e)

abbrev pub Mixed : ℕ → Type 0
Mixed n =
    (accepted : List Accepted) × (pool : PoolView) × (now : Moment) × (d : Datagram) × (place : ℕ) × (payload : List ℕ) × (quote : List ℕ) × (u : UserDatagram)
    × AreInTurn accepted × (length accepted ≡ n) × IsPoolOf accepted pool × IsOfOne accepted d
    × (place_for d pool ≡ Some place) × (outcome_at now d pool place ≡ Completes payload quote)
    × (datagram_or_fault d.source d.destination payload ≡ Ok u)
    × (CameFrom accepted (record { addr = d.source; port = u.source }) (record { addr = d.destination; port = u.destination }) u.payload → ⊥)

mixed_of : (n : ℕ) → n ≡ 65537 → Mixed n
mixed_of n is = (
  so_many n,
  pool,
  now,
  second,
  0,
  mix,
  quote_of first,
  read,
  in_turn n,
  count n,
  is_pool n is,
  of_second n is,
  found,
  completes,
  is_read,
  of_neither n,
)

pub mixed : Mixed 65537
mixed = mixed_of 65537 refl
