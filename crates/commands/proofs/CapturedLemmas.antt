-- What is printed of a capture, record by record.
use Rattle.std.proofs.Common.{◌≡◌, ℕ, ◌+◌, ◌≤◌, ◌⊎◌, inl, inr, List, [], ◌∷◌, ◌++◌, length, drop, Option, Some, None, Result, Ok, Err, arith, refl, sym, ◌∙◌, ap, subst, append_assoc, append-nil, length-append, length-drop}
use Rattle.std.specs.Result.{IsErrAnd}
use Rattle.std.specs.Io.KnownBytes.{Appends}
use Rattle.capture.specs.declared.fault.RecordFault.{RecordFault}
use Rattle.capture.specs.declared.header.Header.{Header}
use Rattle.capture.specs.Reading.{AreRead, Record, Unread, answer_in, included_in, rest_behind, rest_in}
use Rattle.capture.proofs.Runs.{some_reading}
use Rattle.capture.proofs.Steps.{ended}
use Rattle.commands.specs.declared.fault.TextFault.{TextFault}
use Rattle.commands.specs.declared.fault.TextFault.TheVariants.{Line, TooLong, NotHex, Header as OfHeader, Record as OfRecord, Read, Write, NoMemory}
use Rattle.commands.specs.Captured.{AreShown, starts, goes_on, IsOnItsWay, IsPrinted, IsPrintedFirst, IsTextOf, TakesShown}
use Rattle.devices.specs.Streams.{TakesFront}
use Rattle.commands.specs.Moved.{TakesAllBut}
use Rattle.commands.proofs.PlayLemmas.{added_front, added_more}
use Rattle.commands.proofs.RunLemmas.{all_taken, front_taken, kept}
use Rattle.commands.proofs.SimLemmas.{passed_on}
use Rattle.devices.proofs.Moving.{Keeps-appends}

-- a record takes octets
pub shorter : (h : Header) (octets : List ℕ) (r : Record) → answer_in h octets ≡ Some (Ok r) → length (rest_in h octets) + 1 ≤ length octets
shorter h [] r is = let none : None ≡ Some (Ok r) = sym (ended h [] refl) ∙ is in cc
shorter h (x ∷ xs) r is =
    let left : rest_in h (x ∷ xs) ≡ drop (16 + included_in h (x ∷ xs)) (x ∷ xs) = ap (λ a. rest_behind (included_in h (x ∷ xs)) a (x ∷ xs)) is in
    let len : length (rest_in h (x ∷ xs)) ≡ length (drop (16 + included_in h (x ∷ xs)) (x ∷ xs)) = ap length left in
    omega (arith, len, length-drop (16 + included_in h (x ∷ xs)) (x ∷ xs))

-- so many records were read, and what is printed of them is on its way
pub record IsShownSoFar (u v : Unread) (number : ℕ) (old new : Option (List ℕ)) (before waiting : List ℕ) : Type 0 where
  pub rs : List Record
  pub printed : List ℕ
  pub count : number ≡ length rs
  pub fits : number + length v.octets ≤ length u.octets
  pub read : (ss : List Record) (end : Option RecordFault) → AreRead v.header v.octets ss end → AreRead u.header u.octets (rs ++ ss) end
  pub shown : AreShown rs printed
  pub on_way : TakesAllBut old new (before ++ printed) waiting

-- none so far
pub none_shown : (u : Unread) (old : Option (List ℕ)) (before : List ℕ) → IsShownSoFar u u 0 old old before before
none_shown u old before = record {
  rs = [];
  printed = [];
  count = refl;
  fits = omega arith;
  read = λ ss end all. all;
  shown = starts;
  on_way = ([], append-nil before, Keeps-appends old old (kept old));
}

-- what is left behind one record more
one_more_read : (u v w : Unread) (rs : List Record) (r : Record) → answer_in v.header v.octets ≡ Some (Ok r) →
    w ≡ record v { octets = rest_in v.header v.octets } →
    ((ss : List Record) (end : Option RecordFault) → AreRead v.header v.octets ss end → AreRead u.header u.octets (rs ++ ss) end) →
    (ss : List Record) (end : Option RecordFault) → AreRead w.header w.octets ss end → AreRead u.header u.octets ((rs ++ r ∷ []) ++ ss) end
one_more_read u v w rs r is left read ss end more =
    let P : Unread → Type 0 = λ x. AreRead x.header x.octets ss end in
    subst (λ l. AreRead u.header u.octets l end) (sym (append_assoc rs (r ∷ []) ss)) (read (r ∷ ss) end (is, subst P left more))

-- one record more
pub shown_more : (u v w : Unread) (number : ℕ) (r : Record) (text before waiting waiting' : List ℕ) (old mid new : Option (List ℕ)) →
    answer_in v.header v.octets ≡ Some (Ok r) → w ≡ record v { octets = rest_in v.header v.octets } →
    IsShownSoFar u v number old mid before waiting → IsTextOf number r text → TakesAllBut mid new (waiting ++ text) waiting' →
    IsShownSoFar u w (number + 1) old new before waiting'
shown_more u v w number r text before waiting waiting' old mid new is left so_far one added = record {
  rs = so_far.rs ++ r ∷ [];
  printed = so_far.printed ++ text;
  count = omega (arith, so_far.count, length-append so_far.rs (r ∷ []));
  fits = omega (arith, so_far.fits, ap (λ (x : Unread). length x.octets) left, shorter v.header v.octets r is);
  read = one_more_read u v w so_far.rs r is left so_far.read;
  shown = goes_on so_far.rs r so_far.printed text so_far.shown (subst (λ k. IsTextOf k r text) so_far.count one);
  on_way = added_more old mid new before so_far.printed text waiting waiting' so_far.on_way added;
}

-- the records so far are the first of all
first_printed : (u v : Unread) (rs : List Record) (printed : List ℕ) →
    ((ss : List Record) (end : Option RecordFault) → AreRead v.header v.octets ss end → AreRead u.header u.octets (rs ++ ss) end) →
    AreShown rs printed → IsPrintedFirst u printed
first_printed u v rs printed read shown =
    let rest = some_reading v.header v.octets in (rs, rest.0, rest.1, read rest.0 rest.1 rest.2, shown)

-- nothing stands behind them
all_read : (u v : Unread) (rs : List Record) (end : Option RecordFault) →
    ((ss : List Record) (e : Option RecordFault) → AreRead v.header v.octets ss e → AreRead u.header u.octets (rs ++ ss) e) →
    AreRead v.header v.octets [] end → AreRead u.header u.octets rs end
all_read u v rs end read none = subst (λ l. AreRead u.header u.octets l end) (append-nil rs) (read [] end none)

-- the capture's end
pub ends_way : (u v : Unread) (number : ℕ) (old new : Option (List ℕ)) (before waiting : List ℕ) (done : Unit {0}) →
    answer_in v.header v.octets ≡ None → IsShownSoFar u v number old new before waiting → IsOnItsWay u (Ok done) old new before waiting
ends_way u v number old new before waiting done is so_far =
    (so_far.printed, (so_far.rs, all_read u v so_far.rs None so_far.read is, so_far.shown), so_far.on_way)

-- a fault in it
pub faulty_way : (u v : Unread) (number : ℕ) (old new : Option (List ℕ)) (before waiting : List ℕ) (r : Result (Unit {0}) TextFault) (fault : RecordFault) →
    IsErrAnd r (λ e. e ≡ OfRecord fault) → answer_in v.header v.octets ≡ Some (Err fault) → IsShownSoFar u v number old new before waiting →
    IsOnItsWay u r old new before waiting
faulty_way u v number old new before waiting r fault passes is so_far =
    rw (passed_on r (OfRecord fault) passes)
    (so_far.printed, (so_far.rs, all_read u v so_far.rs (Some fault) so_far.read is, so_far.shown), so_far.on_way)

-- memory ran out for the next record's lines
pub memory_way : (u v : Unread) (number : ℕ) (old mid new : Option (List ℕ)) (before waiting waiting' : List ℕ) (r : Result (Unit {0}) TextFault)
    (fault : TextFault) → IsErrAnd r (λ e. e ≡ fault) → fault ≡ NoMemory → waiting' ≡ waiting → new ≡ mid →
    IsShownSoFar u v number old mid before waiting → IsOnItsWay u r old new before waiting'
memory_way u v number old mid new before waiting waiting' r fault passes memory same none so_far =
    rw (passed_on r fault passes, memory, same, none)
    (so_far.printed, first_printed u v so_far.rs so_far.printed so_far.read so_far.shown, so_far.on_way)

-- or they could not be added
pub line_way : (u v w : Unread) (number : ℕ) (item : Record) (text before waiting waiting' : List ℕ) (old mid new : Option (List ℕ))
    (r : Result (Unit {0}) TextFault) (fault : TextFault) → IsErrAnd r (λ e. e ≡ fault) →
    (fault ≡ Write) ⊎ ((fault ≡ NoMemory) × (waiting' ≡ waiting) × (new ≡ mid)) → (fault ≡ Write → TakesFront mid new (waiting ++ text)) →
    answer_in v.header v.octets ≡ Some (Ok item) → w ≡ record v { octets = rest_in v.header v.octets } →
    IsShownSoFar u v number old mid before waiting → IsTextOf number item text → IsOnItsWay u r old new before waiting'
line_way u v w number item text before waiting waiting' old mid new r fault passes (inl sink) front is left so_far one =
    let shown = goes_on so_far.rs item so_far.printed text so_far.shown (subst (λ k. IsTextOf k item text) so_far.count one) in
    rw (passed_on r fault passes, sink) (
      so_far.printed ++ text,
      first_printed u w (so_far.rs ++ item ∷ []) (so_far.printed ++ text) (one_more_read u v w so_far.rs item is left so_far.read) shown,
      added_front old mid new before so_far.printed text waiting so_far.on_way (front sink),
    )
line_way u v w number item text before waiting waiting' old mid new r fault passes (inr memory) front is left so_far one =
    memory_way u v number old mid new before waiting waiting' r fault passes memory.0 memory.1 memory.2 so_far

-- the sink failed on the way
pub cut_way : (u : Unread) (r : Result (Unit {0}) TextFault) (old new : Option (List ℕ)) (before waiting : List ℕ) → before ≡ [] → r ≡ Err Write →
    IsOnItsWay u r old new before waiting → TakesShown u r old new
cut_way u r old new before waiting none is way = rw is (tell (rw (none, is) at way))
  where
    tell : IsOnItsWay u (Err Write) old new [] waiting → TakesShown u (Err Write) old new
    tell w = w

-- the sink took what was on its way
pub whole_way : (u : Unread) (r : Result (Unit {0}) TextFault) (old mid new : Option (List ℕ)) (before waiting : List ℕ) → before ≡ [] →
    (r ≡ Err Write → ⊥) → IsOnItsWay u r old mid before waiting → Appends mid new waiting → TakesShown u r old new
whole_way u r old mid new before waiting none other way more = tell r other (rw none at way)
  where
    tell : (o : Result (Unit {0}) TextFault) → (o ≡ Err Write → ⊥) → IsOnItsWay u o old mid [] waiting → TakesShown u o old new
    tell (Ok done) not w = (w.0, w.1, all_taken old mid new w.0 waiting w.2 more)
    tell (Err (OfRecord fault)) not w = (w.0, w.1, all_taken old mid new w.0 waiting w.2 more)
    tell (Err NoMemory) not w = (w.0, w.1, all_taken old mid new w.0 waiting w.2 more)
    tell (Err Write) not w = absurd (not refl)
    tell (Err (Line n)) not w = absurd w
    tell (Err TooLong) not w = absurd w
    tell (Err NotHex) not w = absurd w
    tell (Err (OfHeader fault)) not w = absurd w
    tell (Err Read) not w = absurd w

-- all records are the first of all
all_printed : (u : Unread) (end : Option RecordFault) (printed : List ℕ) → IsPrinted u end printed → IsPrintedFirst u printed
all_printed u end printed is =
    (is.0, [], end, subst (λ l. AreRead u.header u.octets l end) (sym (append-nil is.0)) is.1, is.2)

-- it failed at what was on its way
pub front_way : (u : Unread) (r told : Result (Unit {0}) TextFault) (fault : TextFault) (old mid new : Option (List ℕ)) (before waiting : List ℕ) →
    before ≡ [] → (r ≡ Err Write → ⊥) → IsOnItsWay u r old mid before waiting → IsErrAnd told (λ e. e ≡ fault) →
    (fault ≡ Write) × TakesFront mid new waiting → TakesShown u told old new
front_way u r told fault old mid new before waiting none other way passes front =
    rw (passed_on told fault passes, front.0) (tell r other (rw none at way))
  where
    tell : (o : Result (Unit {0}) TextFault) → (o ≡ Err Write → ⊥) → IsOnItsWay u o old mid [] waiting → TakesShown u (Err Write) old new
    tell (Ok done) not w = (w.0, all_printed u None w.0 w.1, front_taken old mid new w.0 waiting w.2 front.1)
    tell (Err (OfRecord f)) not w = (w.0, all_printed u (Some f) w.0 w.1, front_taken old mid new w.0 waiting w.2 front.1)
    tell (Err NoMemory) not w = (w.0, w.1, front_taken old mid new w.0 waiting w.2 front.1)
    tell (Err Write) not w = absurd (not refl)
    tell (Err (Line n)) not w = absurd w
    tell (Err TooLong) not w = absurd w
    tell (Err NotHex) not w = absurd w
    tell (Err (OfHeader f)) not w = absurd w
    tell (Err Read) not w = absurd w
