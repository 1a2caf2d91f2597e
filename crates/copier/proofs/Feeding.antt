-- The octets between a source and a connection, step by step.
use Rattle.std.proofs.Common.{◌≡◌, ℕ, ◌+◌, ◌-◌, ◌≤◌, ◌==◌, Bool, true, false, List, [], ◌++◌, length, take, drop, Option, Some, None, arith, sym, ◌∙◌, ap, subst, append_assoc, append-nil}
use Rattle.std.proofs.lemmas.List.{take-append-drop, drop-take, drop-drop}
use Rattle.std.specs.List.{slice_range}
use Rattle.std.specs.Io.KnownBytes.{IsAtEnd, Keeps, Appends}
use Rattle.stream_law.specs.Begins.{Begins}
use Rattle.devices.specs.Passages.{Passage}
use Rattle.copy_law.specs.Course.{IsCourse}
use Rattle.copy_law.proofs.Lawful.{course_lawful}
use Rattle.copier.specs.declared.ends.Ends.{Ends}
use Rattle.copier.specs.declared.feed.Feed.{Feed}
use Rattle.copier.specs.Moves.{copy_of, Writes, Closes}
use Rattle.copier.specs.Feeding.{pending, IsFed, IsBegun, KeepsFed, LeavesBegun}

-- what is between a place and itself is nothing
between_same : (xs : List ℕ) (i j : ℕ) → i ≡ j → slice_range xs i j ≡ []
between_same xs i j same = let none : j - i ≡ 0 = omega (arith, same) in ap (λ n. take n (drop i xs)) none

pub kept-some : (old new : Option (List ℕ)) (xs : List ℕ) → old ≡ Some xs → Keeps old new → new ≡ Some xs
kept-some old new xs is kept = go new (subst (λ o. Keeps o new) is kept)
  where
    go : (new : Option (List ℕ)) → Keeps (Some xs) new → new ≡ Some xs
    go None k = absurd k
    go (Some ys) k = ap Some k

pub appended-some : (old new : Option (List ℕ)) (xs more : List ℕ) → old ≡ Some xs → Appends old new more → new ≡ Some (xs ++ more)
appended-some old new xs more is grown = go new (subst (λ o. Appends o new more) is grown)
  where
    go : (new : Option (List ℕ)) → Appends (Some xs) new more → new ≡ Some (xs ++ more)
    go None k = absurd k
    go (Some ys) k = ap Some k

-- nothing changed
pub fed-same : (given remaining : Option (List ℕ)) (f g : Feed) (e : Ends) → g ≡ f → KeepsFed given remaining given remaining f g e e
fed-same given remaining f g e same before told read fed = subst (λ (x : Feed). IsFed before given remaining x e told read) (sym same) fed

-- all was sent, and so many octets were read
pub fed-read : (given_old remaining_old given_new remaining_new : Option (List ℕ)) (f g : Feed) (e : Ends) (count : ℕ) → f.from ≡ f.to → f.at_end ≡ false → g.from ≡ 0 → g.to ≡ count → g.at_end ≡ (count == 0) → g.closed ≡ f.closed
    → Appends given_old given_new (take count g.octets) → (count ≡ 0 → IsAtEnd remaining_new) → KeepsFed given_old remaining_old given_new remaining_new f g e e
fed-read given_old remaining_old given_new remaining_new f g e count empty unended from to at_end closed appended ends before told read fed =
    let none : pending f ≡ [] = between_same f.octets f.from f.to empty in
    let all : pending g ≡ take count g.octets = ap (λ n. slice_range g.octets n g.to) from ∙ ap (λ n. slice_range g.octets 0 n) to ∙ ap (λ n. take n g.octets) (minus_none count) in
    let was : given_old ≡ Some (before ++ fed.sent) = fed.given_is ∙ ap (λ l. Some (before ++ (fed.sent ++ l))) none ∙ ap (λ l. Some (before ++ l)) (append-nil fed.sent) in
    record {
      sent = fed.sent;
      given_is = appended-some given_old given_new (before ++ fed.sent) (take count g.octets) was appended
          ∙ ap Some (append_assoc before fed.sent (take count g.octets) ∙ ap (λ l. before ++ (fed.sent ++ l)) (sym all));
      at_end = λ is. (let none_read : count ≡ 0 = zero_count count (sym at_end ∙ is) in (ends none_read, all ∙ ap (λ n. take n g.octets) none_read));
      closed = λ is. (let was_open : true ≡ false = sym (fed.closed (sym closed ∙ is)) ∙ unended in cc);
      course = subst (λ b. IsCourse (copy_of e told fed.sent read b false)) (sym closed) fed.course;
    }
  where
    minus_none : (n : ℕ) → n - 0 ≡ n
    minus_none n = omega arith

    zero_count : (n : ℕ) → (n == 0) ≡ true → n ≡ 0
    zero_count n is = grind arith

-- a front of what waits was sent
pub fed-sent : (given remaining : Option (List ℕ)) (f g : Feed) (old new : Ends) (count : ℕ) → count ≤ length (pending f) → g.octets ≡ f.octets → g.from ≡ f.from + count → g.to ≡ f.to → g.at_end ≡ f.at_end → g.closed ≡ f.closed
    → count ≤ f.to - f.from → Writes (take count (pending f)) old new → KeepsFed given remaining given remaining f g old new
fed-sent given remaining f g old new count few octets from to at_end closed within writes before told read fed =
    let m = f.to - (f.from + count) in
    let long : f.to - f.from ≡ count + m = omega (arith, within) in
    let rest : pending g ≡ drop count (pending f) =
    ap (λ xs. slice_range xs g.from g.to) octets ∙ ap (λ n. slice_range f.octets n g.to) from ∙ ap (λ n. slice_range f.octets (f.from + count) n) to
    ∙ sym (ap (λ n. drop count (take n (drop f.from f.octets))) long ∙ drop-take count m (drop f.from f.octets) ∙ ap (take m) (drop-drop count f.from f.octets)) in
    let parts : fed.sent ++ pending f ≡ (fed.sent ++ take count (pending f)) ++ pending g =
    ap (λ l. fed.sent ++ l) (sym (take-append-drop count (pending f))) ∙ sym (append_assoc fed.sent (take count (pending f)) (drop count (pending f)))
    ∙ ap (λ l. (fed.sent ++ take count (pending f)) ++ l) (sym rest) in
    record {
      sent = fed.sent ++ take count (pending f);
      given_is = fed.given_is ∙ ap (λ l. Some (before ++ l)) parts;
      at_end = λ is. (let was = fed.at_end (sym at_end ∙ is) in (was.0, rest ∙ ap (drop count) was.1 ∙ nothing_left count));
      closed = λ is. at_end ∙ fed.closed (sym closed ∙ is);
      course = subst (λ b. IsCourse (copy_of new told (fed.sent ++ take count (pending f)) read b false)) (sym closed) (writes told fed.sent read f.closed false fed.course);
    }
  where
    nothing_left : (n : ℕ) → ◌≡◌ {A = List ℕ} (drop n []) []
    nothing_left n = grind arith

-- a's side was closed, or not yet
pub fed-closed : (given remaining : Option (List ℕ)) (f g : Feed) (old new : Ends) (does : Bool) → g.octets ≡ f.octets → g.from ≡ f.from → g.to ≡ f.to → g.at_end ≡ f.at_end → g.closed ≡ does → f.closed ≡ false → f.at_end ≡ true → Closes does old new
    → KeepsFed given remaining given remaining f g old new
fed-closed given remaining f g old new does octets from to at_end closed unended ended closes before told read fed =
    let same : pending g ≡ pending f = ap (λ xs. slice_range xs g.from g.to) octets ∙ ap (λ n. slice_range f.octets n g.to) from ∙ ap (λ n. slice_range f.octets f.from n) to in
    record {
      sent = fed.sent;
      given_is = fed.given_is ∙ ap (λ l. Some (before ++ (fed.sent ++ l))) (sym same);
      at_end = λ is. (let was = fed.at_end ended in (was.0, same ∙ was.1));
      closed = λ is. at_end ∙ ended;
      course = subst (λ b. IsCourse (copy_of new told fed.sent read b false)) (sym closed) (closes told fed.sent read false (subst (λ b. IsCourse (copy_of old told fed.sent read b false)) unended fed.course));
    }

-- steps in turn
pub fed-then : (given_0 remaining_0 given_1 remaining_1 given_2 remaining_2 : Option (List ℕ)) (f g h : Feed) (a b c : Ends) → KeepsFed given_0 remaining_0 given_1 remaining_1 f g a b → KeepsFed given_1 remaining_1 given_2 remaining_2 g h b c
    → KeepsFed given_0 remaining_0 given_2 remaining_2 f h a c
fed-then given_0 remaining_0 given_1 remaining_1 given_2 remaining_2 f g h a b c first second before told read fed = second before told read (first before told read fed)

begins_more : (read sent more : List ℕ) → Begins read sent → Begins read (sent ++ more)
begins_more read sent more b = record { rest = b.rest ++ more; begins = ap (λ l. l ++ more) b.begins ∙ append_assoc read b.rest more }

-- whatever is fed has begun
pub begun : (before : List ℕ) (given remaining : Option (List ℕ)) (f : Feed) (e : Ends) (told : List Passage) (read : List ℕ) → IsFed before given remaining f e told read → IsBegun before given read
begun before given remaining f e told read fed =
    let lawful = course_lawful (copy_of e told fed.sent read f.closed false) fed.course in
    record { all = fed.sent ++ pending f; given_is = fed.given_is; begins = begins_more read fed.sent (pending f) lawful.begins }

-- what is given stays where a read fails
pub leaves-kept : (given_old remaining_old given_new : Option (List ℕ)) (f : Feed) (e : Ends) → Keeps given_old given_new → LeavesBegun given_old remaining_old given_new f e
leaves-kept given_old remaining_old given_new f e kept before told read fed =
    let b = begun before given_old remaining_old f e told read fed in
    record { all = b.all; given_is = kept-some given_old given_new (before ++ b.all) b.given_is kept; begins = b.begins }

-- and where a later step fails
pub leaves-after : (given_old remaining_old given_new remaining_new : Option (List ℕ)) (f g : Feed) (old new : Ends) → KeepsFed given_old remaining_old given_new remaining_new f g old new → LeavesBegun given_old remaining_old given_new f old
leaves-after given_old remaining_old given_new remaining_new f g old new keeps before told read fed = begun before given_new remaining_new g new told read (keeps before told read fed)
