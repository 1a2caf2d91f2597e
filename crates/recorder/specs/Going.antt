-- A link and its capture go on, call after call.
use Rattle.std.specs.Prelude.{◌≡◌, ℕ, Bool, true, false, List, [], ◌∷◌, ◌++◌, map, take, Option, Some, None, Result, Ok, Err}
use Rattle.std.proofs.Common.{refl, sym, ap, subst, ◌∙◌, append_assoc, append-nil}
use Rattle.std.proofs.lemmas.List.{map-append}
use Rattle.std.specs.Io.KnownBytes.{Appends, Keeps}
use Rattle.clock.specs.declared.moment.Moment.{Moment}
use Rattle.sides.specs.declared.side.Side.{Side}
use Rattle.devices.specs.Passages.{Passage, taken, given, Grows, Gives, frames_taken}
use Rattle.capture.specs.Capture.{Frame, capture_of}
use Rattle.recorder.specs.Captured.{Captures, HasTaken, GoesOn, with_frame}

frames_taken_more : (passed more : List Passage) → frames_taken (passed ++ more) ≡ frames_taken passed ++ frames_taken more
frames_taken_more [] more = refl
frames_taken_more (taken from frame ∷ passed) more = ap (λ l. (from, frame) ∷ l) (frames_taken_more passed more)
frames_taken_more (given to frame ∷ passed) more = frames_taken_more passed more

-- these passages brought these frames in
pub has_taken : (old new : Option (List Passage)) (passed : List Passage) (frames : List Frame) → Grows old new passed →
    map (λ f. f.octets) frames ≡ map (λ p. p.1) (frames_taken passed) → HasTaken old new frames
has_taken None new passed frames grows all = tt
has_taken (Some told) None passed frames grows all = absurd grows
has_taken (Some told) (Some longer) passed frames grows all = (passed, grows, all)

has_taken_more : (a b c : Option (List Passage)) (first second : List Frame) → HasTaken a b first → HasTaken b c second → HasTaken a c (first ++ second)
has_taken_more None b c first second has more = tt
has_taken_more (Some x) None c first second has more = absurd has
has_taken_more (Some x) (Some y) None first second has more = absurd more
has_taken_more (Some x) (Some y) (Some z) first second has more = (
  has.0 ++ more.0,
  more.1 ∙ ap (λ l. l ++ more.0) has.1 ∙ append_assoc x has.0 more.0,
  map-append (λ f. f.octets) first second
      ∙ ap (λ l. l ++ map (λ f. f.octets) second) has.2
      ∙ ap (λ l. map (λ p. p.1) (frames_taken has.0) ++ l) more.2
      ∙ sym (map-append (λ p. p.1) (frames_taken has.0) (frames_taken more.0))
      ∙ ap (λ l. map (λ p. p.1) l) (sym (frames_taken_more has.0 more.0)),
)

has_taken_none : (told : Option (List Passage)) → HasTaken told told []
has_taken_none None = tt
has_taken_none (Some told) = ([], sym (append-nil told), refl)

captures_no_more : (whole : Bool) (before now : Option (List ℕ)) (earlier : List Frame) → Captures whole before now earlier → Captures whole before now (earlier ++ [])
captures_no_more whole before now earlier is = subst (Captures whole before now) (sym (append-nil earlier)) is

-- nothing was done
pub goes_nowhere : (whole : Bool) (now : Option (List ℕ)) (told : Option (List Passage)) → GoesOn whole whole now now told told
goes_nowhere whole now told = record {
  frames = [];
  captures = λ before earlier is. captures_no_more whole before now earlier is;
  all = has_taken_none told;
}

-- first one thing was done, and then another
pub goes_further : (v w x : Bool) (a b c : Option (List ℕ)) (o p q : Option (List Passage)) → GoesOn v w a b o p → GoesOn w x b c p q → GoesOn v x a c o q
goes_further v w x a b c o p q first second = record {
  frames = first.frames ++ second.frames;
  captures = λ before earlier is. subst (Captures x before c) (append_assoc earlier first.frames second.frames)
      (second.captures before (earlier ++ first.frames) (first.captures before earlier is));
  all = has_taken_more o p q first.frames second.frames first.all second.all;
}

-- no frame was taken
pub goes_without : (whole : Bool) (now : Option (List ℕ)) (o n : Option (List Passage)) (passed : List Passage) → frames_taken passed ≡ [] → Grows o n passed →
    GoesOn whole whole now now o n
goes_without whole now o n passed none grows = record {
  frames = [];
  captures = λ before earlier is. captures_no_more whole before now earlier is;
  all = has_taken o n passed [] grows (ap (λ l. map (λ p. p.1) l) (sym none));
}

-- nor by what was given
pub goes_giving : {E : Type 0} (whole : Bool) (now : Option (List ℕ)) (o n : Option (List Passage)) (result : Result (Option ℕ) E) (to : Side) (buffer : List ℕ) →
    Gives o n result to buffer → GoesOn whole whole now now o n
goes_giving whole now o n (Ok (Some len)) to buffer gives = goes_without whole now o n (given to (take len buffer) ∷ []) refl gives
goes_giving whole now o n (Ok None) to buffer gives = goes_without whole now o n [] refl gives
goes_giving whole now o n (Err fault) to buffer gives = goes_without whole now o n [] refl gives

appends_kept : (before mid now : Option (List ℕ)) (octets : List ℕ) → Keeps mid now → Appends before mid octets → Appends before now octets
appends_kept None mid now octets kept is = tt
appends_kept (Some xs) None now octets kept is = absurd is
appends_kept (Some xs) (Some ys) None octets kept is = absurd kept
appends_kept (Some xs) (Some ys) (Some zs) octets kept is = kept ∙ is

captures_kept : (whole : Bool) (before mid now : Option (List ℕ)) (frames : List Frame) → Keeps mid now → Captures whole before mid frames → Captures whole before now frames
captures_kept true before mid now frames kept is = appends_kept before mid now (capture_of frames) kept is
captures_kept false before mid now frames kept is = (is.0, is.1, is.2, appends_kept before mid now is.0 kept is.3)

-- the sink took nothing, and the link neither
pub goes_keeping : (whole : Bool) (old new : Option (List ℕ)) (told : Option (List Passage)) → Keeps old new → GoesOn whole whole old new told told
goes_keeping whole old new told kept = record {
  frames = [];
  captures = λ before earlier is. captures_no_more whole before new earlier (captures_kept whole before old new earlier kept is);
  all = has_taken_none told;
}

-- one frame was taken, and captured
pub goes_by_frame : (v w : Bool) (a b : Option (List ℕ)) (o n : Option (List Passage)) (from : Side) (moment : Moment) (octets : List ℕ) →
    ((before : Option (List ℕ)) (earlier : List Frame) → Captures v before a earlier → Captures w before b (with_frame earlier moment octets)) →
    Grows o n (taken from octets ∷ []) → GoesOn v w a b o n
goes_by_frame v w a b o n from moment octets captures grows = record {
  frames = with_frame [] moment octets;
  captures = captures;
  all = has_taken o n (taken from octets ∷ []) (with_frame [] moment octets) grows refl;
}
