use Rattle.std.proofs.Common.{ℕ, List, length, sym, ◌∙◌, ap}
use Rattle.std.proofs.lemmas.Bool.{eqb-true}
use Rattle.std.proofs.lemmas.List.{nil_from_length}
use Rattle.stream_buf.specs.Receiving.{ReceiveView, joined, after_insert}
use Rattle.stream_buf.specs.Stored.{receive_view}
use Rattle.stream_buf.proofs.Viewing.{none_joined, none_inserted, refused_joined, refused_inserted}
use Rattle.stream_buf.proofs.receive.RecvBuf.insert_at.Goals as goal
use Rattle.stream_buf.proofs.receive.RecvBuf.insert_at.Goals.{then-is_empty-via-then-is_empty, then-is_empty-via-else-is_empty+then-not-takes}

pub returns-then-is_empty-clause-count : goal.returns-then-is_empty-clause-count
returns-then-is_empty-clause-count c =
    let at : ℕ = c.args.distance in
    let new : List ℕ = c.args.octets.now in
    sym (ap (λ (xs : List ℕ). length xs) (elim c.then-is_empty.branch [
      | then-is_empty-via-then-is_empty w ↦
          ap (λ (b : ReceiveView). joined b at new) (sym c.self.view_is)
          ∙ ap (λ (xs : List ℕ). joined (receive_view c.self.inside.octets c.self.inside.readable c.self.inside.ranges) at xs)
          (nil_from_length new (eqb-true (length new) 0 (sym c.is_empty.ensures ∙ w.if-is_empty.true)))
          ∙ none_joined c.self.inside.octets c.self.inside.readable c.self.inside.ranges c.self.invariant at
      | then-is_empty-via-else-is_empty+then-not-takes w ↦ refused_joined c.args.self.now at new (sym w.takes.ensures ∙ w.if-not-takes.true)
    ]))

pub returns-then-is_empty-clause-after : goal.returns-then-is_empty-clause-after
returns-then-is_empty-clause-after c =
    let at : ℕ = c.args.distance in
    let new : List ℕ = c.args.octets.now in
    sym (elim c.then-is_empty.branch [
      | then-is_empty-via-then-is_empty w ↦
          ap (λ (b : ReceiveView). after_insert b at new) (sym c.self.view_is)
          ∙ ap (λ (xs : List ℕ). after_insert (receive_view c.self.inside.octets c.self.inside.readable c.self.inside.ranges) at xs)
          (nil_from_length new (eqb-true (length new) 0 (sym c.is_empty.ensures ∙ w.if-is_empty.true)))
          ∙ none_inserted c.self.inside.octets c.self.inside.readable c.self.inside.ranges c.self.invariant at
          ∙ c.self.view_is
      | then-is_empty-via-else-is_empty+then-not-takes w ↦ refused_inserted c.args.self.now at new (sym w.takes.ensures ∙ w.if-not-takes.true)
    ])
