use Rattle.std.proofs.Common.{[], List, ◌∙◌, ap}
use Rattle.stream_buf.specs.Ring.{Buffer, buffer}
use Rattle.stream_buf.specs.declared.ranges.Range.{Range}
use Rattle.stream_buf.specs.Stored.{receive_view}
use Rattle.stream_buf.proofs.Viewing.{viewed_new}
use Rattle.stream_buf.proofs.receive.RecvBuf.with_capacity.Goals as goal

pub returns : goal.returns
returns c =
    ap (λ (b : Buffer). receive_view b 0 c.new.result) (c.in_ok-octets.ensures)
    ∙ ap (λ (rs : List Range). receive_view (buffer [] c.args.capacity) 0 rs) c.new.ensures
    ∙ viewed_new c.args.capacity
