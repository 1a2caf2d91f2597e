use Rattle.std.proofs.Common.{◌≡◌, ◌-◌, ◌*◌, List, ℕ, [], ◌∷◌, ◌++◌, get_or, drop, ◌∙◌, ap, arith}
use Rattle.tcp_segment.specs.Sent.{one_more}
use Rattle.tcp_segment.proofs.Sending.{scaled, with_scale, without_scale, with_permission}
use Rattle.tcp_segment.proofs.head.Head.write_offers.Goals as goal
use Rattle.tcp_segment.proofs.head.Head.write_offers.Goals.{then-self, else-self}

pub returns-then-self-2 : goal.returns-then-self-2
returns-then-self-2 c =
    let head = c.args.self.now in
    let out = c.args.out.now in
    let size : c.copy_from_slice.new.self ≡ 2 ∷ 4 ∷ 5 ∷ 180 ∷ [] =
    c.copy_from_slice.ensures.after ∙ ap (λ (octets : List ℕ). 2 ∷ 4 ∷ get_or octets 0 0 ∷ get_or octets 1 0 ∷ []) c.to_be_bytes.ensures in
    let before : c.if-self.out ≡ scaled head.scales ++ drop (4 * one_more head.scales 6 - 20) out = elim c.if-self.branch [
      | then-self w ↦ w.out-is ∙ with_scale head.scales c.copy_from_slice.new.self w.copy_from_slice-then-self.new.self out w.if-self.true size w.copy_from_slice-then-self.ensures.after
      | else-self w ↦ w.out-is ∙ without_scale head.scales c.copy_from_slice.new.self out w.if-self.false size
    ] in
    with_permission head _ _ c.if-self.out c.copy_from_slice-then-self-2.new.self out c.requires.syn c.if-self-2.true
    (omega (arith, c.scaled_len-at.ensures)) (omega arith) before c.copy_from_slice-then-self-2.ensures.after
