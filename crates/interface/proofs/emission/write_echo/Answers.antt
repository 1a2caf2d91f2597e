-- The data stand behind the place of the head before that is written.
use Rattle.std.proofs.Common.{◌≡◌, ℕ, ◌+◌, ◌-◌, ◌++◌, List, length, drop, arith, ap, ◌∙◌}
use Rattle.icmp.specs.Message.{spelling}
use Rattle.icmp.specs.Sent.{echo_reply}
use Rattle.icmp.proofs.Sending.{one_put}
use borrow.Rule.Slice.PartMut.{put_mid}
use Rattle.interface.proofs.emission.write_echo.Goals as goal

pub returns-clause-octets : goal.returns-clause-octets
returns-clause-octets c =
    let same : c.as_slice-octets.result.now ≡ c.args.room.now = c.as_slice-octets.ensures.octets in
    let out : List ℕ = c.args.out.now in
    let len : ℕ = c.emit_echo_reply.result in
    let n : ℕ = 8 + length c.as_slice-octets.result.now - 8 in
    let put = one_put out c.args.room.now c.copy_from_slice.new.self n len (omega (arith, ap length same, c.as_slice-octets.ensures.most, c.requires)) (c.copy_from_slice.ensures.after ∙ same)
    (omega (arith, ap length same)) (omega (arith, ap length same, c.emit_echo_reply.ensures.len)) in
    c.emit_echo_reply.ensures.octets
    ∙ ap (λ (l : List ℕ). spelling (echo_reply c.args.identifier c.args.number l) ++ drop len (put_mid 8 n out c.copy_from_slice.new.self)) put.0
    ∙ ap (λ (l : List ℕ). spelling (echo_reply c.args.identifier c.args.number c.args.room.now) ++ l) put.1
