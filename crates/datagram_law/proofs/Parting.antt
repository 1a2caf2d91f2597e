-- What goes out of a socket is of one that was accepted.
use Rattle.std.proofs.Common.{◌≡◌, ℕ, ◌+◌, ◌-◌, ◌*◌, ◌<◌, ◌≤◌, Bool, true, false, not, nat_lt, List, length, drop, slice_range, refl, sym, ◌∙◌, ap, subst, arith, Contains}
use Rattle.std.proofs.lemmas.Bool.Decides.{nat_tests}
use Rattle.std.proofs.lemmas.List.{length-take, length-drop, take_all}
use Rattle.ipv4.specs.declared.addr.Endpoint.{Endpoint}
use Rattle.ipv4.specs.Datagram.{Datagram}
use Rattle.udp.specs.declared.cutting.Fragment.{Fragment}
use Rattle.udp.specs.Datagram.{spelling}
use Rattle.udp.specs.Fragments.{fragment, count_of, part_of}
use Rattle.udp.proofs.Answering.{sent_len}
use Rattle.udp.specs.declared.cutting.Part.{Part}
use Rattle.udp_socket.specs.Emission.{fragment_of, head_of, octets_of}
use Rattle.udp_socket.specs.SocketView.{Outgoing}
use Rattle.reassembly.specs.Fragments.{begin_of, end_of}
use Rattle.reassembly.specs.Parts.{IsPartOf}
use Rattle.datagram_law.specs.Accepted.{Accepted, datagram_of}
use Rattle.datagram_law.specs.Carried.{Carries, IsOf, IsOfOne, IsWholeOfOne, accepted_of}

-- a fragment of a payload is a part of it
cut_is_part : (payload : List ℕ) (number : ℕ) (d : Datagram) → number < count_of (length payload) → d.offset ≡ (fragment (length payload) number).offset
    → d.more_fragments ≡ (fragment (length payload) number).more_fragments → d.payload ≡ part_of payload (fragment (length payload) number) → IsPartOf payload d
cut_is_part payload number d below offset more octets =
    let f : Fragment = fragment (length payload) number in
    let start : 1480 * number ≤ length payload = omega (arith, below) in
    let begin : begin_of d ≡ 8 * f.offset = ap (λ (n : ℕ). 8 * n) offset in
    let len : length d.payload ≡ f.len =
    ap (λ (xs : List ℕ). length xs) octets ∙ of_len (8 * f.offset) f.len payload (omega (arith, start)) in
    let end : end_of d ≡ 8 * f.offset + f.len = omega (arith, begin, len) in
    record {
      within = omega (arith, end, start);
      octets = octets ∙ ap (λ (n : ℕ). slice_range payload n (8 * f.offset + f.len)) (sym begin) ∙ ap (λ (n : ℕ). slice_range payload (begin_of d) n) (sym end);
      ends = λ last. (let none : nat_lt (1480 * (number + 1)) (length payload) ≡ false = sym more ∙ untold d.more_fragments last in
          let far : length payload ≤ 1480 * (number + 1) = grind (arith, nat_tests, none) in
          omega (arith, end, start, far));
    }
  where
    untold : (b : Bool) → not b ≡ true → b ≡ false
    untold true e = cc
    untold false e = refl

    of_len : (at n : ℕ) (xs : List ℕ) → at + n ≤ length xs → length (slice_range xs at (at + n)) ≡ n
    of_len at n xs room = omega (arith, room, length-take (at + n - at) (drop at xs), length-drop at xs)

spelled_len : (source : Endpoint) (o : Outgoing) → length (spelling (datagram_of (accepted_of source o))) ≡ 8 + length o.octets
spelled_len source o = sent_len source.addr o.peer.addr (head_of source o) o.octets

pub numbered : (accepted : List Accepted) (source : Endpoint) (o : Outgoing) (number : ℕ) (part : Part) (d : Datagram)
    → Contains accepted (accepted_of source o) → number < count_of (8 + length o.octets)
    → part ≡ record { identification = o.identification; fragment = fragment_of o number }
    → Carries source.addr o.peer.addr part (octets_of source o number) d → IsOfOne accepted d
numbered accepted source o number part d (k, within, there) below is carries =
    let payload : List ℕ = spelling (datagram_of (accepted_of source o)) in
    let len : 8 + length o.octets ≡ length payload = sym (spelled_len source o) in
    let told : part.fragment ≡ fragment (length payload) number =
    ap (λ (p : Part). p.fragment) is ∙ ap (λ (n : ℕ). fragment n number) len in
    let of : IsOf (accepted_of source o) d = record {
      source = carries.source;
      destination = carries.destination;
      protocol = carries.protocol;
      identification = carries.identification ∙ ap (λ (p : Part). p.identification) is;
      part =
          cut_is_part payload number d (subst (λ (n : ℕ). number < count_of n) len below)
          (carries.offset ∙ ap (λ (f : Fragment). f.offset) told) (carries.more_fragments ∙ ap (λ (f : Fragment). f.more_fragments) told)
          (carries.payload ∙ ap (λ (n : ℕ). part_of payload (fragment n number)) len);
    } in
    (k, accepted_of source o, within, there, of)

-- where it is no fragment, it has the whole
whole_of_one : (payload : List ℕ) (d : Datagram) → IsPartOf payload d → d.more_fragments ≡ false → d.offset ≡ 0 → d.payload ≡ payload
whole_of_one payload d part last zero_offset =
    let begin : begin_of d ≡ 0 = omega (arith, zero_offset) in
    let end : end_of d ≡ length payload = part.ends (ap not last) in
    part.octets ∙ ap (λ (n : ℕ). slice_range payload n (end_of d)) begin ∙ ap (λ (n : ℕ). slice_range payload 0 n) end ∙ take_all (length payload - 0) payload (omega arith)

pub no_fragment : (accepted : List Accepted) (d : Datagram) → IsOfOne accepted d → d.more_fragments ≡ false → d.offset ≡ 0 → IsWholeOfOne accepted d d.payload
no_fragment accepted d (k, a, within, there, of) last zero_offset =
    (k, a, within, there, (of, whole_of_one (spelling (datagram_of a)) d of.part last zero_offset))

pub carries_udp : (accepted : List Accepted) (d : Datagram) → IsOfOne accepted d → d.protocol ≡ 17
carries_udp accepted d (k, a, within, there, of) = of.protocol
