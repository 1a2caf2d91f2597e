-- The tests of the definition decide what they are for.
use Rattle.std.proofs.Common.{◌≡◌, ℕ, ◌≤◌, ◌⊎◌, inl, inr, ◌==◌, ◌&&◌, ◌||◌, not, Bool, true, false, nat_le, Decides, List, length, slice_index, arith, refl, sym, ◌∙◌, ap, ⊎_elim}
use Rattle.std.proofs.lemmas.Bool.{eqb-true, eq-eqb}
use Rattle.std.proofs.lemmas.Bool.Decides.{nat_tests}
use Rattle.std.proofs.lemmas.Slice.Eq.{bytes_eq-Decides}
use Rattle.ether.specs.declared.mac.Mac.{Mac}
use Rattle.ether.specs.Frame.{Frame}
use Rattle.ipv4.specs.declared.addr.Addr.{Addr}
use Rattle.ipv4.specs.Addresses.{IsUnicast, is_unicast, same_addr}
use Rattle.ipv4.specs.Datagram.{Datagram}
use Rattle.frames.specs.Heard.{IsFor, IsWhole, MaySend}
use Rattle.frames.specs.Meaning.{arp_type, broadcast, is_for, is_fragment, may_send, same_mac}

-- a test that is decided
pub refuted : {P : Type 0} (b : Bool) → Decides b P → (P → ⊥) → b ≡ false
refuted true decides none = absurd (none (decides.0 refl))
refuted false decides none = refl

pub never : {P : Type 0} (b : Bool) → Decides b P → b ≡ false → P → ⊥
never b decides is p = let no : true ≡ false = sym (decides.1 p) ∙ is in cc

-- two tests, and one of two
both : {P Q : Type 0} (a b : Bool) → Decides a P → Decides b Q → Decides (a && b) (P × Q)
both true true p q = (λ e. (p.0 refl, q.0 refl), λ e. refl)
both true false p q = (λ e. cc, λ e. q.1 e.1)
both false b p q = (λ e. cc, λ e. p.1 e.0)

either : {P Q : Type 0} (a b : Bool) → Decides a P → Decides b Q → Decides (a || b) (P ⊎ Q)
either true b p q = (λ e. inl (p.0 refl), λ e. refl)
either false b p q = (λ e. inr (q.0 e), ⊎_elim (λ x. let no : false ≡ true = p.1 x in cc) q.1)

contrary : {P : Type 0} (b : Bool) → Decides b P → Decides (not b) (P → ⊥)
contrary true p = (λ e. cc, λ none. absurd (none (p.0 refl)))
contrary false p = (λ e x. let no : false ≡ true = p.1 x in cc, λ none. refl)

pub number-Decides : (a b : ℕ) → Decides (a == b) (a ≡ b)
number-Decides a b = (eqb-true a b, eq-eqb a b)

pub mac-Decides : (a b : Mac) → Decides (same_mac a b) (a ≡ b)
mac-Decides a b =
    let octets = bytes_eq-Decides a.0 b.0 in
    let made : List ℕ → Mac = λ xs. record { 0 = xs } in
    (λ e. ap made (octets.0 e), λ e. octets.1 (ap (λ (m : Mac). m.0) e))

pub addr-Decides : (a b : Addr) → Decides (same_addr a b) (a ≡ b)
addr-Decides a b =
    let octets = bytes_eq-Decides a.0 b.0 in
    let made : List ℕ → Addr = λ xs. record { 0 = xs } in
    (λ e. ap made (octets.0 e), λ e. octets.1 (ap (λ (m : Addr). m.0) e))

pub for-Decides : (mac : Mac) (f : Frame) → Decides (is_for mac f) (IsFor mac f)
for-Decides mac f =
    either (same_mac f.destination mac) (same_mac f.destination broadcast && f.kind == arp_type) (mac-Decides f.destination mac)
    (both (same_mac f.destination broadcast) (f.kind == arp_type) (mac-Decides f.destination broadcast) (number-Decides f.kind arp_type))

unicast-Decides : (a : Addr) → length a.0 ≡ 4 → Decides (is_unicast a) (IsUnicast a)
unicast-Decides a len =
    let first : ℕ = slice_index a.0 0 in
    let tests = both (nat_le 1 first && nat_le first 223) (not (first == 127)) (both (nat_le 1 first) (nat_le first 223) (lower first) (upper first)) (contrary (first == 127) (number-Decides first 127)) in (
      λ e. let facts = tests.0 e in record { octets = len; not_this_network = facts.0.0; class_a_to_c = facts.0.1; not_loopback = facts.1 },
      λ s. tests.1 ((s.not_this_network, s.class_a_to_c), s.not_loopback),
    )
  where
    lower : (n : ℕ) → Decides (nat_le 1 n) (1 ≤ n)
    lower n = (λ e. grind (arith, nat_tests, e), λ le. grind (arith, nat_tests, le))

    upper : (n : ℕ) → Decides (nat_le n 223) (n ≤ 223)
    upper n = (λ e. grind (arith, nat_tests, e), λ le. grind (arith, nat_tests, le))

pub send-Decides : (ours source : Addr) → length source.0 ≡ 4 → Decides (may_send ours source) (MaySend ours source)
send-Decides ours source len =
    let tests = both (is_unicast source) (not (same_addr source ours)) (unicast-Decides source len) (contrary (same_addr source ours) (addr-Decides source ours)) in
    (λ e. let facts = tests.0 e in record { single = facts.0; other = facts.1 }, λ s. tests.1 (s.single, s.other))

-- the addresses of a datagram for us
pub ends-Decides : (ours : Addr) (d : Datagram) → length d.source.0 ≡ 4 → Decides (same_addr d.destination ours && may_send ours d.source) ((d.destination ≡ ours) × MaySend ours d.source)
ends-Decides ours d len = both (same_addr d.destination ours) (may_send ours d.source) (addr-Decides d.destination ours) (send-Decides ours d.source len)

-- a fragment is no whole datagram
pub whole : (d : Datagram) → is_fragment d ≡ false → IsWhole d
whole d e = by_tests d.more_fragments (d.offset == 0) refl refl e
  where
    by_tests : (a b : Bool) → d.more_fragments ≡ a → (d.offset == 0) ≡ b → (a || not b) ≡ false → IsWhole d
    by_tests true b more zero e = cc
    by_tests false false more zero e = cc
    by_tests false true more zero e = (more, eqb-true d.offset 0 zero)

pub unfragmented : (d : Datagram) → IsWhole d → is_fragment d ≡ false
unfragmented d is = let zero = eq-eqb d.offset 0 is.1 in ap (λ (b : Bool). b || not (d.offset == 0)) is.0 ∙ ap not zero

pub fragmented : (d : Datagram) → (IsWhole d → ⊥) → is_fragment d ≡ true
fragmented d none = by_test (is_fragment d) refl
  where
    by_test : (b : Bool) → is_fragment d ≡ b → b ≡ true
    by_test true is = refl
    by_test false is = absurd (none (whole d is))
