-- The frame of a part of a datagram that a `sendto` took: whoever hears a UDP datagram or a fragment in it hears what was taken.
use Rattle.std.proofs.Common.{◌≡◌, inl, inr, ℕ, ◌+◌, ◌-◌, ◌*◌, ◌<◌, ◌≤◌, ◌^◌, min, not, nat_eq, nat_lt, Bool, true, false, cond, append-nil, List, [], ◌∷◌, length, drop, slice_range, Option, Some, Ok, refl, sym, ◌∙◌, ap, subst, arith}
use Rattle.std.proofs.lemmas.Bool.Decides.{nat_tests}
use Rattle.std.proofs.lemmas.List.{length-drop, length-take, take_all}
use Rattle.ether.specs.declared.mac.Mac.{Mac}
use Rattle.ipv4.specs.declared.addr.Addr.{Addr}
use Rattle.ipv4.specs.declared.addr.Endpoint.{Endpoint}
use Rattle.ipv4.specs.Datagram.{Datagram, HasPlace}
use Rattle.udp.specs.declared.cutting.Fragment.{Fragment}
use Rattle.udp.specs.declared.cutting.Part.{Part}
use Rattle.udp.specs.Datagram.{Spells, UserDatagram, spelling}
use Rattle.udp.specs.Fragments.{count_of, fragment, part_of}
use Rattle.udp.specs.Reading.{datagram_or_fault}
use Rattle.udp.specs.Sent.{CanBeSent, checksum_field}
use Rattle.udp.proofs.Answering.{sent_len, sent_spelled, sum_right, sum_told}
use Rattle.udp.proofs.Plain.{fault_ok}
use Rattle.udp_socket.specs.Emission.{datagram_of, fragment_of, head_of, octets_of}
use Rattle.udp_socket.specs.SocketView.{Outgoing}
use Rattle.udp_socket.proofs.Due.{placed}
use Rattle.frames.specs.declared.emission.FrameHead.{FrameHead}
use Rattle.frames.specs.declared.meaning.ReceivedDatagram.{ReceivedDatagram}
use Rattle.frames.specs.declared.meaning.Meaning.TheVariants.{Udp, UdpFragment}
use Rattle.frames.specs.Heard.{IsWhole}
use Rattle.frames.specs.Meaning.{heard}
use Rattle.frames.specs.Sent.{IsPart, part_datagram}
use Rattle.frames.proofs.Hearers.{users_are_carried}
use Rattle.frames.proofs.UserHearers.{fragments_as_sent, parts_as_sent}
use Rattle.interface.specs.InterfaceView.{InterfaceView}
use Rattle.interface.specs.Emission.{head_to, part_frame_to}
use Rattle.reassembly.specs.Fragments.{begin_of, end_of}
use Rattle.reassembly.specs.Parts.{IsPartOf}
use Rattle.sockets.specs.declared.entry.SocketId.{SocketId}
use Rattle.sockets.specs.Sound.{IsEndpoint}
use Rattle.host.specs.ConfigView.{ConfigView}
use Rattle.host.specs.Runs.{Event}
use Rattle.host_law.specs.DatagramsOut.{IsDatagramOf, IsSendto, NamesEndpoint, Sent, TakenDatagram, WasTaken}
use Rattle.host_law.specs.History.{Always, Once, Step}
use Rattle.host_law.proofs.DatagramsOutboxes.{Numbered}
use Rattle.host_law.proofs.DatagramsTaken.{IsFrom, taken_of}

-- whoever hears a UDP datagram or a fragment in these octets hears this one
pub record TellsOne (s : Sent) (u : UserDatagram) (octets : List ℕ) : Type 0 where
  pub whole : (mac : Mac) (ours : Addr) (r : ReceivedDatagram) → heard mac ours octets ≡ Ok (Udp r) → (r.carrier ≡ s.d) × (r.datagram ≡ u)
  pub fragment : (mac : Mac) (ours : Addr) (d : Datagram) → heard mac ours octets ≡ Ok (UdpFragment d) → d ≡ s.d

-- the peer of one that was taken is an endpoint, where callers name endpoints
peer-named : (id : SocketId) (t : TakenDatagram) (steps : List Step) → Once (IsSendto id t) steps → Always NamesEndpoint steps → IsEndpoint t.peer
peer-named id t [] taken names = absurd taken
peer-named id t (step ∷ earlier) (inl sent) names =
    let called = sent.called in
    let P : Event → Type 0 = λ event. NamesEndpoint (record { before = step.before; event = event; after = step.after }) earlier in
    subst P called names.0
peer-named id t (step ∷ earlier) (inr taken) names = peer-named id t earlier taken names.1

-- A fragment of a payload.

-- has as many octets as it says
cut-len : (payload : List ℕ) (number : ℕ) → number < count_of (length payload) → length (part_of payload (fragment (length payload) number)) ≡ min 1480 (length payload - 1480 * number)
cut-len payload number below =
    let at : ℕ = 8 * (185 * number) in
    let n : ℕ = min 1480 (length payload - 1480 * number) in
    omega (arith, below, length-take (at + n - at) (drop at payload), length-drop at payload)

-- is a part of it, and tells whether more follow
record IsCut (payload : List ℕ) (d : Datagram) : Type 0 where
  pub part : IsPartOf payload d
  pub more : d.more_fragments ≡ true → end_of d < length payload

is-cut : (payload : List ℕ) (number : ℕ) (d : Datagram) → number < count_of (length payload) → d.offset ≡ (fragment (length payload) number).offset
    → d.more_fragments ≡ (fragment (length payload) number).more_fragments → d.payload ≡ part_of payload (fragment (length payload) number) → IsCut payload d
is-cut payload number d below offset more octets =
    let f : Fragment = fragment (length payload) number in
    let start : 1480 * number ≤ length payload = omega (arith, below) in
    let begin : begin_of d ≡ 8 * f.offset = ap (λ (n : ℕ). 8 * n) offset in
    let len : length d.payload ≡ f.len = ap (λ (xs : List ℕ). length xs) octets ∙ cut-len payload number below in
    let end : end_of d ≡ 8 * f.offset + f.len = omega (arith, begin, len) in
    record {
      part = record {
        within = omega (arith, end, start);
        octets = octets ∙ ap (λ (n : ℕ). slice_range payload n (8 * f.offset + f.len)) (sym begin) ∙ ap (λ (n : ℕ). slice_range payload (begin_of d) n) (sym end);
        ends = λ last. (let none : nat_lt (1480 * (number + 1)) (length payload) ≡ false = sym more ∙ untold d.more_fragments last in
            let far : length payload ≤ 1480 * (number + 1) = grind (arith, nat_tests, none) in
            omega (arith, end, start, far));
      };
      more = λ told. (let some : nat_lt (1480 * (number + 1)) (length payload) ≡ true = sym more ∙ told in
          let near : 1480 * (number + 1) < length payload = grind (arith, nat_tests, some) in
          omega (arith, end, start, near));
    }
  where
    untold : (b : Bool) → not b ≡ true → b ≡ false
    untold true e = cc
    untold false e = refl

-- where it is no fragment, it has the whole
whole-cut : (payload : List ℕ) (d : Datagram) → IsPartOf payload d → IsWhole d → d.payload ≡ payload
whole-cut payload d part whole =
    let begin : begin_of d ≡ 0 = omega (arith, whole.1) in
    let end : end_of d ≡ length payload = part.ends (ap not whole.0) in
    part.octets ∙ ap (λ (n : ℕ). slice_range payload n (end_of d)) begin ∙ ap (λ (n : ℕ). slice_range payload 0 n) end ∙ take_all (length payload - 0) payload (omega arith)

told-fits : (sum : ℕ) → checksum_field (65535 - sum) < 2 ^ 16
told-fits sum = by_test (nat_eq (65535 - sum) 0)
  where
    by_test : (b : Bool) → cond b 65535 (65535 - sum) < 2 ^ 16
    by_test true = omega arith
    by_test false = omega arith

-- A part of a datagram that was taken.

module _ (c : ConfigView) (steps : List Step) (out : List (Option Sent)) (i : InterfaceView) (theirs : Mac) (id : SocketId) (local : Endpoint) (z : Numbered) (number : ℕ) where
  abbrev o : Outgoing
  o = z.o

  -- where it is from
  abbrev pub end : Endpoint
  end = record { addr = c.addr; port = local.port }

  abbrev pub part : Part
  part = record { identification = o.identification; fragment = fragment_of o number }

  abbrev pub octets : List ℕ
  octets = octets_of end o number

  abbrev pub u : UserDatagram
  u = datagram_of end o

  abbrev pub t : TakenDatagram
  t = taken_of local z

  module _ (from : IsFrom steps out id (Some local) z) (own : i.addr ≡ c.addr) (own_len : length i.addr.0 ≡ 4) (whole : length theirs.0 ≡ 6) (mine : length i.mac.0 ≡ 6) (small : local.port < 2 ^ 16) (names : Always NamesEndpoint steps) (below : number < count_of (8 + length o.octets)) where
    taken : Once (IsSendto id t) steps
    taken =
        let ends : Some local ≡ Some from.local = from.is in
        let same : from.local ≡ local = cc in
        subst (λ (e : Endpoint). Once (IsSendto id (taken_of e z)) steps) same from.taken

    peer : IsEndpoint o.peer
    peer = peer-named id t steps taken names

    addr_len : length c.addr.0 ≡ 4
    addr_len = subst (λ (a : Addr). length a.0 ≡ 4) own own_len

    can : CanBeSent c.addr o.peer.addr (head_of end o) o.octets
    can = record {
      src_octets = addr_len;
      dst_octets = peer.addr;
      fields = record { source = small; destination = peer.port; len = omega (arith, from.short); checksum = told-fits _ };
    }

    len : 8 + length o.octets ≡ length (spelling u)
    len = sym (sent_len c.addr o.peer.addr (head_of end o) o.octets)

    abbrev cut : Fragment
    cut = fragment (length (spelling u)) number

    cut_is : fragment_of o number ≡ cut
    cut_is = ap (λ (n : ℕ). fragment n number) len

    cut_below : number < count_of (length (spelling u))
    cut_below = subst (λ (n : ℕ). number < count_of n) len below

    spelled : octets ≡ part_of (spelling u) cut
    spelled = ap (part_of (spelling u)) cut_is

    is_datagram : IsDatagramOf c t u
    is_datagram = record { source = refl; destination = refl; payload = refl; told = sum_told c.addr o.peer.addr (head_of end o) o.octets; sum = sum_right c.addr o.peer.addr (head_of end o) o.octets can }

    count : length octets ≡ (let f = fragment_of o number in f.len)
    count = ap (λ (xs : List ℕ). length xs) spelled ∙ cut-len (spelling u) number cut_below ∙ ap (λ (f : Fragment). f.len) (sym cut_is)

    is_part : IsPart part octets
    is_part =
        let short = from.short in
        let place = placed (8 + length o.octets) number (omega (arith, short)) below in
        record {
          identification = let drawn = from.identification in omega (arith, drawn);
          place = subst (λ (n : ℕ). let f = fragment_of o number in HasPlace f.more_fragments f.offset n) (sym count) place;
          most = omega (arith, count);
        }

    abbrev head : FrameHead
    head = head_to i theirs o.peer.addr

    abbrev pub d : Datagram
    d = part_datagram head part octets

    cuts : IsCut (spelling u) d
    cuts = is-cut (spelling u) number d cut_below (ap (λ (f : Fragment). f.offset) cut_is) (ap (λ (f : Fragment). f.more_fragments) cut_is) spelled

    abbrev pub sent : Sent
    sent = record { id = id; t = t; d = d }

    pub was : WasTaken c sent u steps
    was = record {
      taken = taken;
      datagram = is_datagram;
      source = own;
      destination = refl;
      identification = from.identification;
      part = let k = cuts in k.part;
      more = let k = cuts in k.more;
    }

    spells : Spells c.addr o.peer.addr u (spelling u)
    spells = subst (λ (xs : List ℕ). Spells c.addr o.peer.addr u xs) (append-nil (spelling u)) (sent_spelled c.addr o.peer.addr (head_of end o) o.octets [] can)

    -- the whole of it is read as it
    read-whole : (r : ReceivedDatagram) → r.carrier ≡ d → IsWhole r.carrier → datagram_or_fault i.addr o.peer.addr octets ≡ Ok r.datagram → r.datagram ≡ u
    read-whole r carrier complete reads =
        let all : octets ≡ spelling u = whole-cut (spelling u) d (let k = cuts in k.part) (subst IsWhole carrier complete) in
        let is : datagram_or_fault c.addr o.peer.addr (spelling u) ≡ Ok u = fault_ok c.addr o.peer.addr (spelling u) u spells in
        let both : datagram_or_fault i.addr o.peer.addr octets ≡ Ok u = ap (λ (a : Addr). datagram_or_fault a o.peer.addr octets) own ∙ ap (datagram_or_fault c.addr o.peer.addr) all ∙ is in
        let oks : Ok r.datagram ≡ Ok u = sym reads ∙ both in cc

    pub part-tells : TellsOne sent u (part_frame_to i theirs o.peer.addr part octets)
    unfolding part_frame_to
    part-tells = record {
      whole = λ mac ours r means.
          let told = parts_as_sent head part octets mac ours r is_part own_len peer.addr whole mine means in
          let carried = users_are_carried mac ours (part_frame_to i theirs o.peer.addr part octets) r means in
          (told.1, read-whole r told.1 carried.1 told.2);
      fragment = λ mac ours x means.
          let told = fragments_as_sent head part octets mac ours x is_part own_len peer.addr whole mine means in told.1;
    }
