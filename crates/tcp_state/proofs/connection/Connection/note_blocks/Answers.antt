use Rattle.std.proofs.Common.{◌≡◌, ◌≤◌, ◌<◌, ◌+◌, ◌&&◌, nat_lt, ℕ, List, drop, length, slice_index_or, refl, sym, ◌∙◌, ap, ap₂}
use Rattle.std.proofs.lemmas.List.{at_drop_more, drop_all}
use Rattle.stream_buf.specs.Ranges.{covered}
use Rattle.stream_buf.specs.Scoreboard.{with_report}
use Rattle.tcp_segment.specs.declared.blocks.Block.{Block}
use Rattle.tcp_halves.specs.Stream.{outstanding}
use Rattle.tcp_state.specs.View.{View}
use Rattle.tcp_state.specs.Selective.{place_of, with_blocks}
use Rattle.tcp_state.proofs.connection.Connection.note_blocks.Goals as goal
use Rattle.tcp_state.proofs.connection.Connection.note_blocks.Goals.{then-counts, else-counts}

-- so many blocks have joined what was reported
abbrev Joined : View → List Block → ℕ → View → Type 0
Joined v items i w =
    (w ≡ (let x : View = record v { resend = record v.resend { reported = w.resend.reported } } in x))
    × (with_blocks w.resend.reported v.sending (drop i items) ≡ with_blocks v.resend.reported v.sending items)

joins : (v w x : View) (items : List Block) (i : ℕ) (d : Block) → i < length items → Joined v items i w
    → x ≡ (let block = slice_index_or items i d in record w { resend = record w.resend { reported = with_report w.resend.reported (outstanding w.sending) (place_of w.sending block) } })
    → Joined v items (i + 1) x
joins v w x items i d within so_far is =
    let block = slice_index_or items i d in
    let sending = ap (λ (y : View). y.sending) so_far.0 in
    let reported : x.resend.reported ≡ with_report w.resend.reported (outstanding v.sending) (place_of v.sending block) =
    ap (λ (y : View). y.resend.reported) is ∙ ap (λ s. with_report w.resend.reported (outstanding s) (place_of s block)) sending in (
      is ∙ ap (λ (y : View). let z : View = record y { resend = record y.resend { reported = with_report w.resend.reported (outstanding y.sending) (place_of y.sending block) } } in z) so_far.0
          ∙ ap (λ r. let z : View = record v { resend = record v.resend { reported = r } } in z) (sym reported),
      ap (λ r. with_blocks r v.sending (drop (i + 1) items)) reported
          ∙ sym (at_drop_more (with_blocks w.resend.reported v.sending) items i d within) ∙ so_far.1,
    )

pub loop-block-init : goal.loop-block-init
loop-block-init c = (refl, refl)

pub loop-block-preserved : goal.loop-block-preserved
loop-block-preserved c = joins c.args.self.now c.loop-block.self c.note_block.new.self c.as_slice-block-items.result.now c.loop-block.block-index _ c.loop-block-test.true c.loop-block.invariant c.note_block.ensures

-- once all have
abbrev with_all : View → List Block → View
with_all v blocks = record v { resend = record v.resend { reported = with_blocks v.resend.reported v.sending blocks } }

all_join : (v w : View) (blocks items : List Block) (i : ℕ) → items ≡ blocks → length items ≤ i → Joined v items i w → w ≡ with_all v blocks
all_join v w blocks items i is all joined =
    let done : with_blocks w.resend.reported v.sending (drop i items) ≡ w.resend.reported = ap (with_blocks w.resend.reported v.sending) (drop_all i items all) in
    joined.0 ∙ ap (λ r. let x : View = record v { resend = record v.resend { reported = r } } in x) (sym done ∙ joined.1 ∙ ap (with_blocks v.resend.reported v.sending) is)

pub returns-clause-after : goal.returns-clause-after
returns-clause-after c = all_join c.args.self.now c.loop-block.self c.args.blocks.now c.as_slice-block-items.result.now c.loop-block.block-index c.as_slice-block-items.ensures.value c.loop-block-test.false c.loop-block.invariant

pub returns-clause-more : goal.returns-clause-more
returns-clause-more c =
    let after : c.loop-block.self ≡ with_all c.args.self.now c.args.blocks.now =
    all_join c.args.self.now c.loop-block.self c.args.blocks.now c.as_slice-block-items.result.now c.loop-block.block-index c.as_slice-block-items.ensures.value c.loop-block-test.false c.loop-block.invariant in
    let grows = nat_lt (covered c.args.self.now.resend.reported) (covered (with_blocks c.args.self.now.resend.reported c.args.self.now.sending c.args.blocks.now)) in
    elim c.if-counts.branch [
      | then-counts w ↦ w.result-is
          ∙ ap₂ nat_lt (c.covered-known.ensures.value ∙ ap covered (c.reported.ensures ∙ ap (λ (v : View). v.resend.reported) c.self.view_is))
          (w.covered.ensures.value ∙ ap covered (w.reported-then-counts.ensures ∙ ap (λ (v : View). v.resend.reported) (c.self-2.view_is ∙ after)))
          ∙ ap (λ t. t && grows) (sym w.if-counts.true)
      | else-counts w ↦ w.result-is ∙ w.if-counts.false ∙ ap (λ t. t && grows) (sym w.if-counts.false)
    ]
