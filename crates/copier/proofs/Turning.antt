-- A turn of a copy, and all turns.
use Rattle.std.proofs.Common.{◌≡◌, ℕ, ◌+◌, ◌-◌, ◌^◌, min, Bool, true, false, List, [], ◌++◌, length, Option, Some, None, Result, Ok, Err, IfOk, arith, refl, sym, ◌∙◌, ap, subst, append_assoc, append-nil}
use Rattle.std.proofs.lemmas.List.{length-append}
use Rattle.std.specs.Io.KnownBytes.{Keeps, Appends}
use Rattle.std.specs.Result.{IsErr}
use Rattle.stream_law.specs.Begins.{Begins}
use Rattle.devices.specs.Streams.{TakesFront}
use Rattle.devices.specs.Passages.{Passage, IsFairLink}
use Rattle.copy_law.specs.Course.{IsCourse}
use Rattle.copy_law.proofs.Lawful.{course_lawful}
use Rattle.copier.specs.declared.ends.Ends.{Ends}
use Rattle.copier.specs.declared.feed.Feed.{Feed}
use Rattle.copier.specs.declared.fault.CopyFault.{CopyFault}
use Rattle.copier.specs.declared.turns.Copier.{Copier}
use Rattle.copier.specs.declared.turns.Drained.{Drained}
use Rattle.copier.specs.declared.turns.Drained.TheVariants.{Still, Moved, End}
use Rattle.copier.specs.Moves.{copy_of, GoesOn, KeepsTold}
use Rattle.copier.specs.Feeding.{pending, IsFed, KeepsFed, LeavesBegun}
use Rattle.copier.specs.Copying.{count_of, is_end, IsDrained, DrainsTo, LeavesDrained, IsLeft, CameOver, IsUnderWay, TurnsTo, Turns}
use Rattle.copier.proofs.Passing.{some_same}
use Rattle.copier.proofs.Feeding.{kept-some, appended-some, begun}

-- b's reading.

pub drains-octets : (drained : Drained) (taken_old taken_new : Option (List ℕ)) (old new : Copier) (mid : Ends) (octets : List ℕ) → is_end drained ≡ false → GoesOn old.ends mid
    → ((told : List Passage) (sent read : List ℕ) (closed ended : Bool) → IsCourse (copy_of mid told sent read closed ended) → IsCourse (copy_of new.ends told sent (read ++ octets) closed ended))
    → Appends taken_old taken_new octets → new.written ≡ min (old.written + length octets) (2 ^ 64 - 1) → DrainsTo drained taken_old taken_new old new
drains-octets drained taken_old taken_new old new mid octets goes accepts gives appended counts before told sent closed d =
    let long = length-append d.read octets in
    let was = d.count in
    record {
      read = d.read ++ octets;
      taken_is = appended-some taken_old taken_new (before ++ d.read) octets d.taken_is appended ∙ ap Some (append_assoc before d.read octets);
      count = omega (arith, long, was, counts);
      course = subst (λ b. IsCourse (copy_of new.ends told sent (d.read ++ octets) closed b)) (sym goes) (gives told sent d.read closed false (accepts told sent d.read closed false d.course));
    }

pub drains-nothing : (drained : Drained) (taken : Option (List ℕ)) (old new : Copier) (mid : Ends) → is_end drained ≡ false → GoesOn old.ends mid → new.ends ≡ mid → new.written ≡ old.written → DrainsTo drained taken taken old new
drains-nothing drained taken old new mid goes accepts same counts before told sent closed d = record {
  read = d.read;
  taken_is = d.taken_is;
  count = counts ∙ d.count;
  course = subst (λ b. IsCourse (copy_of new.ends told sent d.read closed b)) (sym goes) (subst (λ (e : Ends). IsCourse (copy_of e told sent d.read closed false)) (sym same) (accepts told sent d.read closed false d.course));
}

pub drains-end : (taken_old taken_new : Option (List ℕ)) (old new : Copier) (mid : Ends) → GoesOn old.ends mid
    → ((told : List Passage) (sent read : List ℕ) (closed ended : Bool) → IsCourse (copy_of mid told sent read closed ended) → IsCourse (copy_of new.ends told sent read closed true))
    → Keeps taken_old taken_new → new.written ≡ old.written → DrainsTo End taken_old taken_new old new
drains-end taken_old taken_new old new mid accepts tells kept counts before told sent closed d = record {
  read = d.read;
  taken_is = kept-some taken_old taken_new (before ++ d.read) d.taken_is kept;
  count = counts ∙ d.count;
  course = tells told sent d.read closed false (accepts told sent d.read closed false d.course);
}

-- faults
pub drained-kept : (taken_old taken_new : Option (List ℕ)) (old : Copier) → Keeps taken_old taken_new → LeavesDrained taken_old taken_new old
drained-kept taken_old taken_new old kept before told sent closed d = record {
  written = d.read;
  taken_is = kept-some taken_old taken_new (before ++ d.read) d.taken_is kept;
  begins = (let l = course_lawful (copy_of old.ends told sent d.read closed false) d.course in l.begins);
}

pub drained-same : (taken : Option (List ℕ)) (old : Copier) → LeavesDrained taken taken old
drained-same taken old before told sent closed d = record {
  written = d.read;
  taken_is = d.taken_is;
  begins = (let l = course_lawful (copy_of old.ends told sent d.read closed false) d.course in l.begins);
}

pub drained-front : (taken_old taken_new : Option (List ℕ)) (old : Copier) (mid last : Ends) (octets : List ℕ) → GoesOn old.ends mid
    → ((told : List Passage) (sent read : List ℕ) (closed ended : Bool) → IsCourse (copy_of mid told sent read closed ended) → IsCourse (copy_of last told sent (read ++ octets) closed ended))
    → TakesFront taken_old taken_new octets → LeavesDrained taken_old taken_new old
drained-front taken_old taken_new old mid last octets accepts gives front before told sent closed d =
    let l = course_lawful (copy_of last told sent (d.read ++ octets) closed false) (gives told sent d.read closed false (accepts told sent d.read closed false d.course)) in
    let b = l.begins in
    record {
      written = d.read ++ front.0;
      taken_is = appended-some taken_old taken_new (before ++ d.read) front.0 d.taken_is front.3 ∙ ap Some (append_assoc before d.read front.0);
      begins = record {
        rest = front.1 ++ b.rest;
        begins = b.begins ∙ ap (λ x. (d.read ++ x) ++ b.rest) front.2 ∙ ap (λ x. x ++ b.rest) (sym (append_assoc d.read front.0 front.1)) ∙ append_assoc (d.read ++ front.0) front.1 b.rest;
      };
    }

-- A turn.

-- what a copy under way is after a turn's reading, sending and carrying
pub carried-fed : (gave : List ℕ) (given remaining : Option (List ℕ)) (f : Feed) (a b : Ends) (told longer : List Passage) (read : List ℕ) → ((sent read : List ℕ) (closed ended : Bool) → IsCourse (copy_of a told sent read closed ended) → IsCourse (copy_of b longer sent read closed ended))
    → IsFed gave given remaining f a told read → IsFed gave given remaining f b longer read
carried-fed gave given remaining f a b told longer read brings fed = record { sent = fed.sent; given_is = fed.given_is; at_end = fed.at_end; closed = fed.closed; course = brings fed.sent read f.closed false fed.course }

pub under-left : (fault : CopyFault) (gave had : List ℕ) (given remaining taken : Option (List ℕ)) (c : Copier) (told : List Passage) → IsUnderWay gave had given remaining taken c told → IsLeft (Err fault) had gave given remaining taken
under-left fault gave had given remaining taken c told u =
    let b = begun gave given remaining c.feed c.ends told u.read u.fed in
    record { read = b.all; written = u.read; given_is = b.given_is; taken_is = u.taken_is; begins = b.begins; whole = tt }

pub left-feeding : (fault : CopyFault) (gave had : List ℕ) (given_0 remaining_0 given_1 remaining_1 taken : Option (List ℕ)) (c : Copier) (told : List Passage) → LeavesBegun given_0 remaining_0 given_1 c.feed c.ends
    → IsUnderWay gave had given_0 remaining_0 taken c told → IsLeft (Err fault) had gave given_1 remaining_1 taken
left-feeding fault gave had given_0 remaining_0 given_1 remaining_1 taken c told leaves u =
    let b = leaves gave told u.read u.fed in
    record { read = b.all; written = u.read; given_is = b.given_is; taken_is = u.taken_is; begins = b.begins; whole = tt }

pub left-carrying : (fault : CopyFault) (gave had : List ℕ) (given_0 remaining_0 given_1 remaining_1 taken : Option (List ℕ)) (c : Copier) (f : Feed) (e : Ends) (told : List Passage) → KeepsFed given_0 remaining_0 given_1 remaining_1 c.feed f c.ends e
    → IsUnderWay gave had given_0 remaining_0 taken c told → IsLeft (Err fault) had gave given_1 remaining_1 taken
left-carrying fault gave had given_0 remaining_0 given_1 remaining_1 taken c f e told keeps u =
    let b = begun gave given_1 remaining_1 f e told u.read (keeps gave told u.read u.fed) in
    record { read = b.all; written = u.read; given_is = b.given_is; taken_is = u.taken_is; begins = b.begins; whole = tt }

-- what is drained
drained-of : (gave had : List ℕ) (given remaining taken : Option (List ℕ)) (written : ℕ) (f : Feed) (e : Ends) (told : List Passage) (read : List ℕ) → (fed : IsFed gave given remaining f e told read) → taken ≡ Some (had ++ read) → written ≡ count_of read
    → IsDrained had taken written e told fed.sent f.closed false
drained-of gave had given remaining taken written f e told read fed taken_is count = record { read = read; taken_is = taken_is; count = count; course = fed.course }

begins_more : (read sent more : List ℕ) → Begins read sent → Begins read (sent ++ more)
begins_more read sent more b = record { rest = b.rest ++ more; begins = ap (λ l. l ++ more) b.begins ∙ append_assoc read b.rest more }

pub left-draining : (fault : CopyFault) (gave had : List ℕ) (given_0 remaining_0 given_1 remaining_1 taken_0 taken_1 : Option (List ℕ)) (c : Copier) (f : Feed) (a b : Ends) (told longer : List Passage) → KeepsFed given_0 remaining_0 given_1 remaining_1 c.feed f c.ends a
    → ((sent read : List ℕ) (closed ended : Bool) → IsCourse (copy_of a told sent read closed ended) → IsCourse (copy_of b longer sent read closed ended)) → LeavesDrained taken_0 taken_1 (record { ends = b; feed = f; written = c.written })
    → IsUnderWay gave had given_0 remaining_0 taken_0 c told → IsLeft (Err fault) had gave given_1 remaining_1 taken_1
left-draining fault gave had given_0 remaining_0 given_1 remaining_1 taken_0 taken_1 c f a b told longer keeps brings leaves u =
    let fed = carried-fed gave given_1 remaining_1 f a b told longer u.read brings (keeps gave told u.read u.fed) in
    let l = leaves had longer fed.sent f.closed (drained-of gave had given_1 remaining_1 taken_0 c.written f b longer u.read fed u.taken_is u.count) in
    record { read = fed.sent ++ pending f; written = l.written; given_is = fed.given_is; taken_is = l.taken_is; begins = begins_more l.written fed.sent (pending f) l.begins; whole = tt }

pub turn-moved : (gave had : List ℕ) (given_0 remaining_0 given_1 remaining_1 taken_0 taken_1 : Option (List ℕ)) (c d : Copier) (f : Feed) (a b : Ends) (told longer : List Passage) (drained : Drained) → KeepsFed given_0 remaining_0 given_1 remaining_1 c.feed f c.ends a
    → ((sent read : List ℕ) (closed ended : Bool) → IsCourse (copy_of a told sent read closed ended) → IsCourse (copy_of b longer sent read closed ended)) → DrainsTo drained taken_0 taken_1 (record { ends = b; feed = f; written = c.written }) d
    → is_end drained ≡ false → d.feed ≡ f → IsUnderWay gave had given_0 remaining_0 taken_0 c told → IsUnderWay gave had given_1 remaining_1 taken_1 d longer
turn-moved gave had given_0 remaining_0 given_1 remaining_1 taken_0 taken_1 c d f a b told longer drained keeps brings drains goes same u =
    let fed = carried-fed gave given_1 remaining_1 f a b told longer u.read brings (keeps gave told u.read u.fed) in
    let x = drains had longer fed.sent f.closed (drained-of gave had given_1 remaining_1 taken_0 c.written f b longer u.read fed u.taken_is u.count) in
    record {
      read = x.read;
      fed = subst (λ (g : Feed). IsFed gave given_1 remaining_1 g d.ends longer x.read) (sym same) (record {
        sent = fed.sent;
        given_is = fed.given_is;
        at_end = fed.at_end;
        closed = fed.closed;
        course = subst (λ b. IsCourse (copy_of d.ends longer fed.sent x.read f.closed b)) goes x.course;
      });
      taken_is = x.taken_is;
      count = x.count;
    }

pub turn-ended : (gave had : List ℕ) (given_0 remaining_0 given_1 remaining_1 taken_0 taken_1 : Option (List ℕ)) (c d : Copier) (f : Feed) (a b : Ends) (told longer : List Passage) → KeepsFed given_0 remaining_0 given_1 remaining_1 c.feed f c.ends a
    → ((sent read : List ℕ) (closed ended : Bool) → IsCourse (copy_of a told sent read closed ended) → IsCourse (copy_of b longer sent read closed ended)) → DrainsTo End taken_0 taken_1 (record { ends = b; feed = f; written = c.written }) d
    → IsUnderWay gave had given_0 remaining_0 taken_0 c told → IsLeft (Ok d.written) had gave given_1 remaining_1 taken_1 × CameOver longer had taken_1
turn-ended gave had given_0 remaining_0 given_1 remaining_1 taken_0 taken_1 c d f a b told longer keeps brings drains u =
    let fed = carried-fed gave given_1 remaining_1 f a b told longer u.read brings (keeps gave told u.read u.fed) in
    let x = drains had longer fed.sent f.closed (drained-of gave had given_1 remaining_1 taken_0 c.written f b longer u.read fed u.taken_is u.count) in
    let l = course_lawful (copy_of d.ends longer fed.sent x.read f.closed true) x.course in
    let whole = l.end refl in
    let at_end = fed.at_end (fed.closed whole.0) in
    let all : fed.sent ++ pending f ≡ x.read = ap (λ p. fed.sent ++ p) at_end.1 ∙ (append-nil fed.sent ∙ sym whole.1) in (
      record {
        read = fed.sent ++ pending f;
        written = x.read;
        given_is = fed.given_is;
        taken_is = x.taken_is;
        begins = begins_more x.read fed.sent (pending f) l.begins;
        whole = (sym all, at_end.0, x.count);
      },
      record {
        copy = copy_of d.ends longer fed.sent x.read f.closed true;
        course = x.course;
        told_is = refl;
        taken_is = x.taken_is;
        ended = refl;
      },
    )

-- the clock went on
pub under-later : (gave had : List ℕ) (given remaining taken : Option (List ℕ)) (c d : Copier) (told : List Passage) → GoesOn c.ends d.ends → d.feed ≡ c.feed → d.written ≡ c.written → IsUnderWay gave had given remaining taken c told → IsUnderWay gave had given remaining taken d told
under-later gave had given remaining taken c d told goes same counts u =
    let fed = u.fed in
    record {
      read = u.read;
      fed = subst (λ (g : Feed). IsFed gave given remaining g d.ends told u.read) (sym same) (record {
        sent = fed.sent;
        given_is = fed.given_is;
        at_end = fed.at_end;
        closed = fed.closed;
        course = goes told fed.sent u.read c.feed.closed false fed.course;
      });
      taken_is = u.taken_is;
      count = counts ∙ u.count;
    }

-- before the first turn
pub under-first : (gave had : List ℕ) (given remaining taken : Option (List ℕ)) (c : Copier) → given ≡ Some gave → taken ≡ Some had → pending c.feed ≡ [] → c.feed.at_end ≡ false → c.feed.closed ≡ false → c.written ≡ 0
    → IsCourse (copy_of c.ends [] [] [] false false) → IsUnderWay gave had given remaining taken c []
under-first gave had given remaining taken c given_is taken_is empty unended unclosed none course = record {
  read = [];
  fed = record {
    sent = [];
    given_is = given_is ∙ ap Some (sym (ap (λ p. gave ++ ([] ++ p)) empty ∙ append-nil gave));
    at_end = λ is. (let bad : true ≡ false = sym is ∙ unended in cc);
    closed = λ is. (let bad : true ≡ false = sym is ∙ unclosed in cc);
    course = subst (λ b. IsCourse (copy_of c.ends [] [] [] b false)) (sym unclosed) course;
  };
  taken_is = taken_is ∙ ap Some (sym (append-nil had));
  count = none;
}

-- a drained turn that is not at the end
pub not_end : (d : Drained) → (d ≡ End → ⊥) → is_end d ≡ false
not_end Still apart = refl
not_end Moved apart = refl
not_end End apart = absurd (apart refl)

-- a fault, whichever it is
pub turns_err : (r : Result (Option ℕ) CopyFault) (gave had : List ℕ) (given remaining taken : Option (List ℕ)) (c : Copier) (told : List Passage) → IsErr r → ((fault : CopyFault) → IsLeft (Err fault) had gave given remaining taken)
    → TurnsTo r gave had given remaining taken c told
turns_err (Ok x) gave had given remaining taken c told e all = cc
turns_err (Err fault) gave had given remaining taken c told e all = all fault

pub left_err : (r : Result ℕ CopyFault) (gave had : List ℕ) (given remaining taken : Option (List ℕ)) (passed : List Passage) → IsErr r → ((fault : CopyFault) → IsLeft (Err fault) had gave given remaining taken)
    → IsLeft r had gave given remaining taken × IfOk r (λ count. CameOver passed had taken)
left_err (Ok x) gave had given remaining taken passed e all = cc
left_err (Err fault) gave had given remaining taken passed e all = (all fault, tt)

-- nothing was moved
pub left-unmoved : (fault : CopyFault) (gave had : List ℕ) (given remaining taken : Option (List ℕ)) → given ≡ Some gave → taken ≡ Some had → IsLeft (Err fault) had gave given remaining taken
left-unmoved fault gave had given remaining taken given_is taken_is = record {
  read = [];
  written = [];
  given_is = given_is ∙ ap Some (sym (append-nil gave));
  taken_is = taken_is ∙ ap Some (sym (append-nil had));
  begins = record { rest = []; begins = refl };
  whole = tt;
}

-- A copy between two turns.
abbrev pub IsGoing : (given_first taken_first given remaining taken : Option (List ℕ)) (told_first told : Option (List Passage)) → Copier → Type 0
IsGoing given_first taken_first given remaining taken told_first told c = (gave had : List ℕ) → given_first ≡ Some gave → taken_first ≡ Some had → told_first ≡ Some []
    → (passed : List Passage) × (told ≡ Some passed) × (IsFairLink passed → IsUnderWay gave had given remaining taken c passed)

pub under-at : (given_first taken_first given remaining taken : Option (List ℕ)) (told_first told : Option (List Passage)) (c : Copier) → IsGoing given_first taken_first given remaining taken told_first told c
    → (gave had : List ℕ) (passed : List Passage) → given_first ≡ Some gave → taken_first ≡ Some had → told_first ≡ Some [] → told ≡ Some passed → IsFairLink passed → IsUnderWay gave had given remaining taken c passed
under-at given_first taken_first given remaining taken told_first told c going gave had passed is_given is_taken is_first is fair =
    let x = going gave had is_given is_taken is_first in
    let same : x.0 ≡ passed = some_same x.0 passed (sym x.1 ∙ is) in
    subst (λ t. IsFairLink t → IsUnderWay gave had given remaining taken c t) same x.2 fair

pub turned : (r : Result (Option ℕ) CopyFault) (given_first taken_first given_0 remaining_0 given_1 remaining_1 taken_0 taken_1 : Option (List ℕ)) (told_first told_0 told_1 : Option (List Passage)) (c d : Copier)
    → IsGoing given_first taken_first given_0 remaining_0 taken_0 told_first told_0 c → KeepsTold told_0 told_1 → Turns r given_0 remaining_0 given_1 remaining_1 taken_0 taken_1 told_0 told_1 c d
    → (gave had : List ℕ) (passed : List Passage) → given_first ≡ Some gave → taken_first ≡ Some had → told_first ≡ Some [] → told_1 ≡ Some passed → IsFairLink passed → TurnsTo r gave had given_1 remaining_1 taken_1 d passed
turned r given_first taken_first given_0 remaining_0 given_1 remaining_1 taken_0 taken_1 told_first told_0 told_1 c d going keeps turns gave had passed is_given is_taken is_first is fair =
    let x = going gave had is_given is_taken is_first in
    let k = keeps x.0 x.1 in
    let same : k.0 ≡ passed = some_same k.0 passed (sym k.1 ∙ is) in
    turns gave had x.0 passed x.1 is fair (x.2 (k.2 (subst IsFairLink (sym same) fair)))

pub going_next : (given_first taken_first given_0 remaining_0 given_1 remaining_1 taken_0 taken_1 : Option (List ℕ)) (told_first told_0 told_1 : Option (List Passage)) (c d : Copier)
    → IsGoing given_first taken_first given_0 remaining_0 taken_0 told_first told_0 c → KeepsTold told_0 told_1 → Turns (Ok None) given_0 remaining_0 given_1 remaining_1 taken_0 taken_1 told_0 told_1 c d
    → IsGoing given_first taken_first given_1 remaining_1 taken_1 told_first told_1 d
going_next given_first taken_first given_0 remaining_0 given_1 remaining_1 taken_0 taken_1 told_first told_0 told_1 c d going keeps turns gave had is_given is_taken is_first =
    let x = going gave had is_given is_taken is_first in
    let k = keeps x.0 x.1 in
    (k.0, k.1, λ fair. turns gave had x.0 k.0 x.1 k.1 fair (x.2 (k.2 fair)))

pub any_fault : (f fault : CopyFault) (gave had : List ℕ) (given remaining taken : Option (List ℕ)) → IsLeft (Err f) had gave given remaining taken → IsLeft (Err fault) had gave given remaining taken
any_fault f fault gave had given remaining taken l = record { read = l.read; written = l.written; given_is = l.given_is; taken_is = l.taken_is; begins = l.begins; whole = tt }
