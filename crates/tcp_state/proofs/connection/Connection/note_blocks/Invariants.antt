use Rattle.std.proofs.Common.{◌≡◌, drop}
use Rattle.tcp_state.specs.View.{View}
use Rattle.tcp_state.specs.Selective.{with_blocks}
use Rattle.tcp_state.proofs.connection.Connection.note_blocks.Given as goal

-- nothing but what is reported has changed, and with the blocks that are left it is what it is with all of them
abbrev pub invariant-loop-block : goal.invariant-loop-block
invariant-loop-block l =
    (l.self ≡ (let w : View = record l.fn.self { resend = record l.fn.self.resend { reported = l.self.resend.reported } } in w))
    × (with_blocks l.self.resend.reported l.fn.self.sending (drop l.block-index l.block-items) ≡ with_blocks l.fn.self.resend.reported l.fn.self.sending l.block-items)
