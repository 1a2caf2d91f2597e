-- A segment or a message stands behind the place of the two heads before they are written.
use Rattle.std.proofs.Common.{◌≡◌, ◌+◌, ◌-◌, ◌*◌, ◌++◌, ◌≤◌, ℕ, List, [], length, take, drop, slice_range, max, arith, sym, ◌∙◌, ap, length-append}
use Rattle.ether.specs.declared.mac.Mac.{Mac}
use Rattle.ipv4.specs.declared.addr.Addr.{Addr}
use Rattle.icmp.specs.Message.{Message, spelling}
use Rattle.icmp.specs.Sent.{echo_reply, error_for}
use Rattle.tcp_segment.specs.declared.head.Head.{Head}
use Rattle.tcp_segment.specs.Sent.{sent_offset, sent_octets}
use Rattle.tcp_segment.proofs.Checksum.{sent_octets_len}
use Rattle.tcp_segment.proofs.Sending.{most_offset}
use Rattle.interface.specs.declared.reply.Reply.{Reply}
use Rattle.interface.specs.InterfaceView.{InterfaceView}
use Rattle.interface.specs.Emission.{segment_frame_to, message_frame_to, reply_frame, reply_len}
use Rattle.interface.proofs.Framed.{framed}
use borrow.Rule.Slice.PartMut.{mid_of}
use Rattle.interface.proofs.interface.Interface.emit_to.Goals as goal

pub returns-in-Reset-clause-len : goal.returns-in-Reset-clause-len
returns-in-Reset-clause-len c =
    let head : Head = c.head.result in
    let len : c.emit_segment.result ≡ max (34 + 4 * sent_offset head) 60 = omega (arith, c.emit_segment.ensures.len, c.emit-segment_len.ensures.len) in
    len ∙ ap (λ (x : Head). max (34 + 4 * sent_offset x) 60) c.head.ensures.value ∙ ap (λ (r : Reply). reply_len r) (sym c.in-Reset.is)

pub returns-in-Reset-clause-octets : goal.returns-in-Reset-clause-octets
unfolding reply_frame
returns-in-Reset-clause-octets c =
    let n : ℕ = c.emit-segment_len.result in
    let m : ℕ = c.emit_segment.result in
    let out : List ℕ = c.args.out.now in
    let own : Addr = c.self.inside.addr in
    let h : InterfaceView = c.args.self.now in
    let mac : Mac = c.args.mac in
    let to : Addr = c.in-Reset.to in
    let head : Head = c.head.result in
    let is_n : n ≡ 4 * sent_offset head + 0 = c.emit-segment_len.ensures.len in
    let most : 4 * sent_offset head ≤ 56 = omega (arith, most_offset head) in
    let none : n - 4 * sent_offset head ≡ 0 = omega (arith, is_n) in
    let empty : slice_range (mid_of 34 1480 out) (4 * sent_offset head) n ≡ [] =
    ap (λ (k : ℕ). take k (drop (4 * sent_offset head) (mid_of 34 1480 out))) none in
    let whole : List ℕ = sent_octets own to head [] in
    let new : c.emit-segment_len.new.out ≡ whole ++ drop n (mid_of 34 1480 out) =
    c.emit-segment_len.ensures.octets ∙ ap (λ (l : List ℕ). sent_octets own to head l ++ drop n (mid_of 34 1480 out)) empty in
    let len : length whole ≡ n = sent_octets_len own to head [] ∙ sym is_n in
    framed (segment_frame_to h mac to) out c.emit-segment_len.new.out whole c.emit_segment.new.out n m c.told-out new len (omega (arith, is_n, most))
    (omega (arith, c.emit_segment.ensures.len)) c.emit_segment.ensures.octets
    ∙ ap (λ (g : InterfaceView). segment_frame_to h mac to (sent_octets g.addr to head []) ++ drop m out) c.self.view_is
    ∙ ap (λ (x : Head). segment_frame_to h mac to (sent_octets h.addr to x []) ++ drop m out) c.head.ensures.value
    ∙ ap (λ (r : Reply). reply_frame h mac r ++ drop m out) (sym c.in-Reset.is)

-- a message stands behind eight octets of its head
message_len : (m : Message) → length (spelling m) ≡ 8 + length m.payload
message_len m = omega arith

pub returns-in-Echo-clause-octets : goal.returns-in-Echo-clause-octets
unfolding reply_frame
returns-in-Echo-clause-octets c =
    let n : ℕ = c.write_echo-message_len.result in
    let m : ℕ = c.emit_message.result in
    let out : List ℕ = c.args.out.now in
    let h : InterfaceView = c.args.self.now in
    let to : Addr = c.in-Echo.to in
    let reply : Message = echo_reply c.in-Echo.identifier c.in-Echo.number c.in-Echo.«data» in
    let is_n : n ≡ 8 + length reply.payload = c.write_echo-message_len.ensures.len in
    let most : n ≤ 1480 = omega (arith, is_n, c.write_echo-message_len.ensures.most) in
    let len : length (spelling reply) ≡ n = message_len reply ∙ sym is_n in
    framed (message_frame_to h c.args.mac to) out c.write_echo-message_len.new.out (spelling reply) c.emit_message.new.out n m c.told-out c.write_echo-message_len.ensures.octets len most
    (omega (arith, c.emit_message.ensures.len)) c.emit_message.ensures.octets
    ∙ ap (λ (r : Reply). reply_frame h c.args.mac r ++ drop m out) (sym c.in-Echo.is)

pub returns-in-Error-clause-octets : goal.returns-in-Error-clause-octets
unfolding reply_frame
returns-in-Error-clause-octets c =
    let n : ℕ = c.write_error-message_len.result in
    let m : ℕ = c.emit_message-in-Error.result in
    let out : List ℕ = c.args.out.now in
    let h : InterfaceView = c.args.self.now in
    let to : Addr = c.in-Error.to in
    let quoted : List ℕ = c.in-Error.quoted in
    let error : Message = error_for c.in-Error.reason quoted [] in
    let is_n : n ≡ 8 + length quoted = c.write_error-message_len.ensures.len in
    let most : n ≤ 1480 = omega (arith, is_n, c.write_error-message_len.ensures.most) in
    let len : length (spelling error) ≡ n = omega (arith, message_len error, length-append quoted [], is_n) in
    framed (message_frame_to h c.args.mac to) out c.write_error-message_len.new.out (spelling error) c.emit_message-in-Error.new.out n m c.told-out c.write_error-message_len.ensures.octets len most
    (omega (arith, c.emit_message-in-Error.ensures.len)) c.emit_message-in-Error.ensures.octets
    ∙ ap (λ (r : Reply). reply_frame h c.args.mac r ++ drop m out) (sym c.in-Error.is)
