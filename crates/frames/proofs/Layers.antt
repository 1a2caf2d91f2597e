-- What octets are to a host, one layer at a time.
use Rattle.std.proofs.Common.{◌≡◌, ℕ, ◌<◌, ◌≤◌, true, false, nat_lt, cond, List, length, get_or, All, Option, Some, Ok, Err, arith, ◌∙◌, ap}
use Rattle.std.proofs.lemmas.Bool.Decides.{nat_tests}
use Rattle.std.proofs.lemmas.List.Elements.{All-from_get_or}
use Rattle.ether.specs.declared.mac.Mac.{Mac}
use Rattle.ether.specs.Frame.{Frame}
use Rattle.ether.specs.Reading.{frame_in}
use Rattle.arp.specs.declared.packet.ArpPacket.{ArpPacket}
use Rattle.ipv4.specs.declared.addr.Addr.{Addr}
use Rattle.frames.specs.declared.drop.DropCause.TheVariants.{Short, OtherMac, OtherAddress}
use Rattle.frames.specs.declared.meaning.Meaning.TheVariants.{Arp}
use Rattle.frames.specs.Meaning.{heard, frame_heard, payload_heard, packet_heard, is_for, may_send}

-- octets, of which each is known to be below 256
pub all_octets : (octets : List ℕ) → ((i : ℕ) → get_or octets i 0 < 256) → All (λ octet. octet < 256) octets
all_octets octets each = All-from_get_or (λ octet. octet < 256) octets 0 (λ i within. each i)

-- more octets than a frame has
pub too_many : (mac : Mac) (ours : Addr) (octets : List ℕ) → 1514 < length octets → heard mac ours octets ≡ Err Short
unfolding heard
too_many mac ours octets more =
    let is : nat_lt 1514 (length octets) ≡ true = grind (arith, nat_tests, more) in
    ap (λ b. cond b (Err Short) (frame_heard mac ours (frame_in octets))) is

-- no more than that
pub as_frame : (mac : Mac) (ours : Addr) (octets : List ℕ) (read : Option Frame) → length octets ≤ 1514 → frame_in octets ≡ read → heard mac ours octets ≡ frame_heard mac ours read
unfolding heard
as_frame mac ours octets read most found =
    let is : nat_lt 1514 (length octets) ≡ false = grind (arith, nat_tests, most) in
    ap (λ b. cond b (Err Short) (frame_heard mac ours (frame_in octets))) is ∙ ap (frame_heard mac ours) found

-- a frame for us
pub for_us : (mac : Mac) (ours : Addr) (f : Frame) → is_for mac f ≡ true → frame_heard mac ours (Some f) ≡ payload_heard ours f.kind f.payload
for_us mac ours f is = ap (λ b. cond b (payload_heard ours f.kind f.payload) (Err OtherMac)) is

pub for_another : (mac : Mac) (ours : Addr) (f : Frame) → is_for mac f ≡ false → frame_heard mac ours (Some f) ≡ Err OtherMac
for_another mac ours f is = ap (λ b. cond b (payload_heard ours f.kind f.payload) (Err OtherMac)) is

-- a packet from another host
pub from_other : (ours : Addr) (p : ArpPacket) → may_send ours p.sender_addr ≡ true → packet_heard ours (Some p) ≡ Ok (Arp p)
from_other ours p is = ap (λ b. cond b (Ok (Arp p)) (Err OtherAddress)) is

pub from_none : (ours : Addr) (p : ArpPacket) → may_send ours p.sender_addr ≡ false → packet_heard ours (Some p) ≡ Err OtherAddress
from_none ours p is = ap (λ b. cond b (Ok (Arp p)) (Err OtherAddress)) is
