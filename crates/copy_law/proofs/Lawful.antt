-- The law of a copy.
use Rattle.std.proofs.Common.{◌≡◌, ℕ, ◌^◌, ◌==◌, Bool, true, false, List, [], ◌∷◌, Option, Some, None, refl, sym, ◌∙◌, ap, subst}
use Rattle.std.specs.List.{find}
use Rattle.sockets.specs.declared.entry.SocketId.{SocketId}
use Rattle.stream_law.specs.Begins.{Begins}
use Rattle.sides.specs.declared.side.Side.TheVariants.{A, B}
use Rattle.wire_sim.specs.declared.event.Opening.{Opening}
use Rattle.wire_sim.specs.declared.event.Happening.{Happening}
use Rattle.wire_sim.specs.Coverage.{IsCovered}
use Rattle.wire_sim.specs.Tallies.{is_opening_of, is_opening_at}
use Rattle.wire_sim.specs.Trace.{sent_on, read_on, closed_on, ended_on, of_opening, read, closed, ended}
use Rattle.wire_sim.specs.WorldView.{WorldView}
use Rattle.wire_sim.proofs.openings.OctetsAreCovered.{octets-covered}
use Rattle.wire_sim.proofs.runs.RunsAreLawful.{run_lawful}
use Rattle.wire_sim.proofs.tables.TableById.{same_id}
use Rattle.copy_law.specs.CopyView.{CopyView}
use Rattle.copy_law.specs.Course.{IsLawful, IsCourse, EveryCourseIsLawful}
use Rattle.copy_law.specs.Course as course
use Rattle.copy_law.proofs.Standing.{Stands, IsTold, IsGot, world_of}
use Rattle.copy_law.proofs.Starting.{stands-first}
use Rattle.copy_law.proofs.Carrying.{stands-next}

-- every course stands
pub stands : (v : CopyView) → IsCourse v → Stands v
stands v (course.starts _ s) = stands-first v s
stands v (course.goes_on old _ before sound_a sound_b goes) = stands-next old v (stands old before) sound_a sound_b goes

-- nothing begins everything
nothing_begins : (xs : List ℕ) → Begins [] xs
nothing_begins xs = record { rest = xs; begins = refl }

-- octets of the opening of some socket of a begin, and are, those of its one writer
record FromSender (sent : List ℕ) (closed : Bool) (gave : List ℕ) (shut : Bool) : Type 0 where
  begins : (r : List ℕ) → Begins r gave → Begins r sent
  end : shut ≡ true → (closed ≡ true) × (gave ≡ sent)

begins-along : (r xs ys : List ℕ) → xs ≡ ys → Begins r xs → Begins r ys
begins-along r xs ys e b = subst (Begins r) e b

begins_nothing : (r sent : List ℕ) → Begins r [] → Begins r sent
begins_nothing [] sent b = nothing_begins sent
begins_nothing (x ∷ r) sent b = let e = b.begins in cc

from_socket : (trace : List Happening) (sender : SocketId) (receiver : Option SocketId) (sent read : List ℕ) (closed ended : Bool) → IsTold trace sender receiver sent read closed ended → (id : SocketId)
    → FromSender sent closed (sent_on A id trace) (closed_on A id trace)
from_socket trace sender receiver sent read closed ended t id = by_id (id.0 == sender.0) refl
  where
    by_id : (b : Bool) → (id.0 == sender.0) ≡ b → FromSender sent closed (sent_on A id trace) (closed_on A id trace)
    by_id true is =
        let same : id ≡ sender = same_id id sender is in
        let gave : sent_on A id trace ≡ sent = ap (λ i. sent_on A i trace) same ∙ t.gave in
        let shut : closed_on A id trace ≡ closed = ap (λ i. closed_on A i trace) same ∙ t.shut in
        record { begins = λ r b. begins-along r (sent_on A id trace) sent gave b; end = λ e. (sym shut ∙ e, gave) }
    by_id false is =
        let none = t.others id is in
        record { begins = λ r b. begins_nothing r sent (begins-along r (sent_on A id trace) [] none.0 b); end = λ e. (let bad : true ≡ false = sym e ∙ none.1 in cc) }

from_opening : (trace : List Happening) (sender : SocketId) (receiver : Option SocketId) (sent read : List ℕ) (closed ended : Bool) → IsTold trace sender receiver sent read closed ended → (o : Option Opening)
    → FromSender sent closed (of_opening [] (λ o. sent_on A o.id trace) o) (of_opening false (λ o. closed_on A o.id trace) o)
from_opening trace sender receiver sent read closed ended t None = record { begins = λ r b. begins_nothing r sent b; end = λ e. cc }
from_opening trace sender receiver sent read closed ended t (Some o) = from_socket trace sender receiver sent read closed ended t o.id

-- what b's socket gave and told
lawful-read : (v : CopyView) (s : Stands v) (id : SocketId) → (Begins (read_on B id s.trace) v.sent) × (ended_on B id s.trace ≡ true → (v.closed ≡ true) × (read_on B id s.trace ≡ v.sent))
lawful-read v s id = by_opening (find (is_opening_at B id) s.openings) (octets-covered (2 ^ 30) w s.reached B id)
  where
    w : WorldView
    w = world_of v.a v.b v.clock s.frames s.openings s.written s.trace

    by_opening : (o : Option Opening) → IsCovered w B id o → (Begins (read_on B id s.trace) v.sent) × (ended_on B id s.trace ≡ true → (v.closed ≡ true) × (read_on B id s.trace ≡ v.sent))
    by_opening None c = (subst (λ r. Begins r v.sent) (sym c.1) (nothing_begins v.sent), λ e. (let bad : true ≡ false = sym e ∙ c.2 in cc))
    by_opening (Some o) c =
        let k = run_lawful (2 ^ 30) w s.reached A o.pair o.epoch in
        let f = from_opening s.trace v.sender v.receiver v.sent v.read v.closed v.ended s.tells (find (is_opening_of A o.pair o.epoch) s.openings) in (
          subst (λ r. Begins r v.sent) c.1 (f.begins _ k.begins),
          λ e. (let both = k.end (c.3 ∙ e) in let out = f.end both.0 in (out.0, sym c.1 ∙ (both.1 ∙ out.1))),
        )

lawful-got : (v : CopyView) (s : Stands v) (receiver : Option SocketId) → IsGot s.trace receiver v.read v.ended → IsLawful v
lawful-got v s None g = record { begins = subst (λ r. Begins r v.sent) (sym g.0) (nothing_begins v.sent); end = λ e. (let bad : true ≡ false = sym e ∙ g.1 in cc) }
lawful-got v s (Some id) g =
    let k = lawful-read v s id in
    record { begins = subst (λ r. Begins r v.sent) g.0 k.0; end = λ e. (let both = k.1 (g.1 ∙ e) in (both.0, sym g.0 ∙ both.1)) }

pub course_lawful : EveryCourseIsLawful
course_lawful v course = let s = stands v course in lawful-got v s v.receiver s.tells.got
