-- What all fragments of a datagram come to.
use Rattle.std.proofs.Common.{◌≡◌, ℕ, List, slice_index_or, Option, Some, None, refl, sym, ◌∙◌, ap}
use Rattle.std.specs.Option.{option_or}
use Rattle.ipv4.specs.Datagram.{Datagram}
use Rattle.clock.specs.declared.moment.Moment.{Moment}
use Rattle.reassembly.specs.Fragments.{latest, end_shown_by, IsPayload}
use Rattle.reassembly.specs.Octets.{whole_of}
use Rattle.reassembly.specs.Reassembly.{begun, after_fragments}
use Rattle.reassembly.proofs.Latest.{octet_folded, end_folded}
use Rattle.reassembly.proofs.Wholes.{whole_where, known_where}

or_none : {X : Type 0} (o : Option X) → option_or o None ≡ o
or_none None = refl
or_none (Some x) = refl

pub latest_octets : (now : Moment) (first : Datagram) (fragments : List Datagram) (i : ℕ)
    → slice_index_or (after_fragments (begun now first) fragments).octets i None ≡ latest fragments i
latest_octets now first fragments i = octet_folded (begun now first) fragments i ∙ or_none (latest fragments i)

pub known_end : (now : Moment) (first : Datagram) (fragments : List Datagram) → (after_fragments (begun now first) fragments).end ≡ end_shown_by fragments
known_end now first fragments = end_folded (begun now first) fragments

no_end : (octets : List (Option ℕ)) (payload : List ℕ) → whole_of None octets ≡ Some payload → ⊥
unfolding whole_of
no_end octets payload h = cc

-- the fields are those of a payload where they are whole
payload_of : (fragments : List Datagram) (octets : List (Option ℕ)) (payload : List ℕ) (end : Option ℕ) → end ≡ end_shown_by fragments
    → ((i : ℕ) → slice_index_or octets i None ≡ latest fragments i) → whole_of end octets ≡ Some payload → IsPayload fragments payload
payload_of fragments octets payload None e each h = absurd (no_end octets payload h)
payload_of fragments octets payload (Some end) e each h =
    let known = known_where end octets payload h in
    record {
      ends = sym e ∙ ap (λ n. Some n) known.so_long;
      latest_octets = λ i k. sym (each i) ∙ known.each i k;
    }

pub whole_is_payload : (now : Moment) (first : Datagram) (fragments : List Datagram) (payload : List ℕ)
    → whole_of (after_fragments (begun now first) fragments).end (after_fragments (begun now first) fragments).octets ≡ Some payload
    → IsPayload fragments payload
whole_is_payload now first fragments payload h =
    payload_of fragments (after_fragments (begun now first) fragments).octets payload (after_fragments (begun now first) fragments).end
    (known_end now first fragments) (latest_octets now first fragments) h

pub payload_is_whole : (now : Moment) (first : Datagram) (fragments : List Datagram) (payload : List ℕ) → IsPayload fragments payload
    → whole_of (after_fragments (begun now first) fragments).end (after_fragments (begun now first) fragments).octets ≡ Some payload
payload_is_whole now first fragments payload p =
    ap (λ end. whole_of end (after_fragments (begun now first) fragments).octets) (known_end now first fragments ∙ p.ends)
    ∙ whole_where (after_fragments (begun now first) fragments).octets payload (λ i k. latest_octets now first fragments i ∙ p.latest_octets i k)
