-- The fragment that is due.
use Rattle.std.proofs.Common.{◌≡◌, ℕ, ◌+◌, ◌-◌, ◌*◌, ◌<◌, ◌≤◌, ◌%◌, min, zero, suc, List, [], ◌∷◌, ◌++◌, length, take, drop, slice_range, Some, refl, sym, ◌∙◌, ap, subst, arith}
use Rattle.std.specs.List.{slice_get}
use Rattle.std.proofs.lemmas.Bool.Decides.{nat_tests}
use Rattle.ipv4.specs.declared.addr.Endpoint.{Endpoint}
use Rattle.ipv4.specs.Datagram.{HasPlace}
use Rattle.udp.specs.declared.waiting.Entry.{Entry}
use Rattle.udp.specs.declared.cutting.Fragment.{Fragment}
use Rattle.udp.specs.Datagram.{UserDatagram, header_octets, spelling}
use Rattle.udp.specs.Fragments.{fragment, count_of, part_of}
use Rattle.udp.specs.Waiting.{Waiting, first_entry, first_octets}
use Rattle.std.proofs.lemmas.List.{length-take}
use Rattle.udp.proofs.Storing.{first_len}
use Rattle.udp.proofs.Carrying.{first_range, later_range}
use Rattle.udp_socket.specs.declared.tag.Tag.{Tag}
use Rattle.udp.specs.declared.cutting.Part.{Part}
use Rattle.udp_socket.specs.SocketView.{Outgoing, SocketView}
use Rattle.udp_socket.specs.Stored.{outgoing, outgoing_of, AreBeside, ArePartsOf}
use Rattle.udp_socket.specs.Emission.{datagram_of, due_part, due_octets, has_more}
use Rattle.udp_socket.proofs.Beside.{first_out}

-- the first datagram of a socket
abbrev pub first_of : Tag → List Waiting → Outgoing
first_of tag items = outgoing tag (record { endpoint = tag.peer; octets = first_octets items })

-- the socket by its fields
abbrev pub shown : List Waiting → List Outgoing → ℕ → SocketView
shown inbox outbox parts = record { inbox = inbox; outbox = outbox; parts = parts }

pub shows : (inbox : List Waiting) (tags : List Tag) (items : List Waiting) (parts : ℕ) (s : SocketView) (tag : Tag) → AreBeside tags items
    → slice_get tags 0 ≡ Some tag → shown inbox (outgoing_of tags items) parts ≡ s
    → shown inbox (first_of tag items ∷ outgoing_of (drop 1 tags) (drop 1 items)) parts ≡ s
shows inbox tags items parts s tag beside is seen = sym (ap (λ (os : List Outgoing). shown inbox os parts) (first_out tags items tag beside is)) ∙ seen

pub as_fragment : (items : List Waiting) (entry : Entry) (parts : ℕ) (f : Fragment) → first_entry items ≡ Some entry → f ≡ fragment (8 + entry.len) parts
    → f ≡ fragment (8 + length (first_octets items)) parts
as_fragment items entry parts f is told = told ∙ ap (λ (n : ℕ). fragment (8 + n) parts) (first_len items entry is)

pub more_told : (inbox : List Waiting) (rest : List Outgoing) (items : List Waiting) (parts : ℕ) (s : SocketView) (tag : Tag) (f : Fragment)
    → shown inbox (first_of tag items ∷ rest) parts ≡ s → f ≡ fragment (8 + length (first_octets items)) parts → has_more s ≡ f.more_fragments
more_told inbox rest items parts s tag f seen is = sym (ap has_more seen) ∙ ap (λ (g : Fragment). g.more_fragments) (sym is)

pub part_told : (inbox : List Waiting) (rest : List Outgoing) (items : List Waiting) (parts : ℕ) (s : SocketView) (tag : Tag) (f : Fragment)
    → shown inbox (first_of tag items ∷ rest) parts ≡ s → f ≡ fragment (8 + length (first_octets items)) parts
    → Some (record { identification = tag.identification; fragment = f }) ≡ due_part s
part_told inbox rest items parts s tag f seen is =
    ap (λ (g : Fragment). let p : Part = record { identification = tag.identification; fragment = g } in Some p) is ∙ ap due_part seen

pub octets_told : (inbox : List Waiting) (rest : List Outgoing) (items : List Waiting) (parts : ℕ) (s : SocketView) (tag : Tag) (source : Endpoint)
    → shown inbox (first_of tag items ∷ rest) parts ≡ s
    → part_of (spelling (datagram_of source (first_of tag items))) (fragment (8 + length (first_octets items)) parts) ≡ due_octets source s
octets_told inbox rest items parts s tag source seen = ap (λ (x : SocketView). due_octets source x) seen

-- a fragment of what IPv4 can carry has its place
pub placed : (len number : ℕ) → len ≤ 65515 → number < count_of len
    → HasPlace (fragment len number).more_fragments (fragment len number).offset (fragment len number).len
placed len number most below = record {
  units = λ more.
      let further : 1480 * (number + 1) < len = grind (arith, nat_tests, more) in
      let full : min 1480 (len - 1480 * number) ≡ 1480 = omega (arith, further) in
      (omega (arith, full), ap (λ (n : ℕ). n % 8) full);
  reach = omega (arith, most, below);
}

pub first_placed : (tags : List Tag) (items : List Waiting) (tag : Tag) (parts : ℕ) (f : Fragment) → AreBeside tags items → slice_get tags 0 ≡ Some tag
    → ArePartsOf items parts → f ≡ fragment (8 + length (first_octets items)) parts → HasPlace f.more_fragments f.offset f.len
first_placed [] items tag parts f beside is are told = cc
first_placed (t ∷ ts) [] tag parts f beside is are told = absurd beside
first_placed (t ∷ ts) (w ∷ ws) tag parts f beside is are told =
    subst (λ (g : Fragment). HasPlace g.more_fragments g.offset g.len) (sym told) (placed (8 + length w.octets) parts (omega (arith, beside.1)) are)

positive : (n : ℕ) → (n ≡ 0 → ⊥) → 0 < n
positive zero some = absurd (some refl)
positive (suc n) some = omega arith

-- as much was written as the fragment tells
written_len : (len parts n : ℕ) (f : Fragment) (old : List ℕ) → 1480 ≤ length old → f ≡ fragment len parts → n ≡ f.len → length (take n old) ≡ (fragment len parts).len
written_len len parts n f old room told is =
    let same : f.len ≡ min 1480 (len - 1480 * parts) = ap (λ (g : Fragment). g.len) told in
    omega (arith, length-take n old, room, same, is)

-- what stands in the frame then
behind : (source : Endpoint) (o : Outgoing) (parts n : ℕ) (f : Fragment) (out written old : List ℕ) → n ≡ f.len
    → written ≡ part_of (spelling (datagram_of source o)) (fragment (8 + length o.octets) parts) → out ≡ written ++ drop n old
    → out ≡ part_of (spelling (datagram_of source o)) (fragment (8 + length o.octets) parts) ++ drop f.len old
behind source o parts n f out written old is part is_out =
    is_out ∙ ap (λ (xs : List ℕ). xs ++ drop n old) part
    ∙ ap (λ (k : ℕ). part_of (spelling (datagram_of source o)) (fragment (8 + length o.octets) parts) ++ drop k old) is

pub written_first : (source : Endpoint) (o : Outgoing) (parts n : ℕ) (f : Fragment) (out written old : List ℕ) → parts ≡ 0 → 1480 ≤ length old
    → f ≡ fragment (8 + length o.octets) parts → n ≡ f.len
    → written ≡ header_octets (datagram_of source o) ++ slice_range o.octets 0 (length (take n old) - 8) → out ≡ written ++ drop n old
    → out ≡ part_of (spelling (datagram_of source o)) (fragment (8 + length o.octets) parts) ++ drop f.len old
written_first source o parts n f out written old none room told is is_written is_out =
    let d : UserDatagram = datagram_of source o in
    let len : length (take n old) ≡ (fragment (8 + length o.octets) 0).len =
    written_len (8 + length o.octets) parts n f old room told is ∙ ap (λ (p : ℕ). (fragment (8 + length o.octets) p).len) none in
    behind source o parts n f out written old is
    (is_written ∙ ap (λ (k : ℕ). header_octets d ++ slice_range o.octets 0 (k - 8)) len ∙ sym (first_range d)
    ∙ ap (λ (p : ℕ). part_of (spelling d) (fragment (8 + length o.octets) p)) (sym none)) is_out

pub written_later : (source : Endpoint) (o : Outgoing) (parts n at : ℕ) (f : Fragment) (out written old : List ℕ) → (parts ≡ 0 → ⊥) → 1480 ≤ length old
    → f ≡ fragment (8 + length o.octets) parts → n ≡ f.len → at ≡ 1480 * parts
    → written ≡ slice_range o.octets (at - 8) (at - 8 + length (take n old)) → out ≡ written ++ drop n old
    → out ≡ part_of (spelling (datagram_of source o)) (fragment (8 + length o.octets) parts) ++ drop f.len old
written_later source o parts n at f out written old some room told is is_at is_written is_out =
    let d : UserDatagram = datagram_of source o in
    let len = written_len (8 + length o.octets) parts n f old room told is in
    behind source o parts n f out written old is
    (is_written ∙ ap (λ (k : ℕ). slice_range o.octets (at - 8) (at - 8 + k)) len
    ∙ ap (λ (a : ℕ). slice_range o.octets (a - 8) (a - 8 + (fragment (8 + length o.octets) parts).len)) is_at
    ∙ sym (later_range d parts (positive parts some))) is_out
