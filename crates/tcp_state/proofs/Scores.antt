-- What a segment leaves of what is reported.
use Rattle.std.proofs.Common.{◌^◌, ◌<◌, ◌==◌, ◌||◌, not, List, [], ◌∷◌, length, arith}
use Rattle.stream_buf.specs.declared.ranges.Range.{Range}
use Rattle.stream_buf.specs.Scoreboard.{IsScoreboard, with_report, passed}
use Rattle.stream_buf.proofs.Scoreboards.{none_is_scoreboard, passed_is_scoreboard, report_is_scoreboard}
use Rattle.tcp_segment.specs.declared.blocks.Block.{Block}
use Rattle.tcp_segment.specs.Segment.{Segment}
use Rattle.tcp_segment.specs.Wire.{past}
use Rattle.tcp_halves.specs.Halves.{Sending}
use Rattle.tcp_halves.specs.Stream.{outstanding}
use Rattle.tcp_halves.proofs.Choices.{either}
use Rattle.tcp_state.specs.Resend.{Resend, stopped}
use Rattle.tcp_state.specs.View.{View, IsSound, is_closed}
use Rattle.tcp_state.specs.Selective.{place_of, with_blocks}
use Rattle.tcp_state.specs.Arrival.{is_receiving, beyond_fin, after_new_ack, after_ack, after_window, after_text, after_heard}
use Rattle.tcp_state.proofs.Segments.{by_ack, by_fin, by_hearing}

few : (s : Sending) → outstanding s < 2 ^ 32
few s = omega arith

-- nothing is reported
pub none_scores : IsScoreboard []
none_scores = none_is_scoreboard

-- blocks join it
pub blocks_score : (reported : List Range) (s : Sending) (blocks : List Block) → IsScoreboard reported → IsScoreboard (with_blocks reported s blocks)
blocks_score reported s [] scores = scores
blocks_score reported s (block ∷ rest) scores =
    blocks_score (with_report reported (outstanding s) (place_of s block)) s rest (report_is_scoreboard reported (outstanding s) (place_of s block) scores (few s))

-- What a segment leaves: nothing, or what was reported, or that as an acknowledgement brings it nearer.
pub heard_leaves : (Q : List Range → Type 0) (v : View) (s : Segment) → Q [] → Q v.resend.reported → Q (passed (past s.acknowledgement v.sending.una) v.resend.reported) → Q (let w = after_heard v s in w.resend.reported)
heard_leaves Q v s none same nearer =
    let P : View → Type 0 = λ w. Q w.resend.reported in
    let told = after_window (after_ack v s.acknowledgement) s in
    let gone = after_new_ack v s.acknowledgement in
    let acked : P (after_ack v s.acknowledgement) = by_ack P v s.acknowledgement (record {
      old = same;
      beyond = same;
      opens = λ received new. none;
      octets = λ new. nearer;
      fin = λ new fin. either Resend (λ p. Q p.reported) (is_closed (beyond_fin v.state)) (stopped gone.resend) gone.resend (λ closed. none) (λ lives. nearer);
    }) in
    let text : P (after_text told s) = either View P ((length s.octets == 0) || not (is_receiving told.state)) told _ (λ quiet. acked) (λ some. acked) in
    by_hearing P v s none (record {
      dropped = same;
      drawn = same;
      reset = λ acts. none;
      crossed = λ waits. same;
      opened = λ waits right. none;
      acknowledged = λ taken. acked;
      read = λ on. by_fin P (after_text told s) s (λ counts. text) text text;
    })

pub heard_scores : (v : View) (s : Segment) → IsSound v → IsScoreboard (let w = after_heard v s in w.resend.reported)
heard_scores v s sound =
    let scores = sound.resend.reported in
    heard_leaves IsScoreboard v s none_is_scoreboard scores (passed_is_scoreboard (past s.acknowledgement v.sending.una) v.resend.reported scores)
