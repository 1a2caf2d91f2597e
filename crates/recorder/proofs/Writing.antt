-- What a sink took of a capture, one record after another.
use Rattle.std.proofs.Common.{◌≡◌, ℕ, Bool, true, false, List, [], ◌++◌, Option, Result, Ok, Err, is_ok, sym, ap, subst, ◌∙◌, append_assoc}
use Rattle.std.specs.Result.{OnOk, OnErr}
use Rattle.std.specs.Io.KnownBytes.{Appends}
use Rattle.clock.specs.declared.moment.Moment.{Moment}
use Rattle.devices.specs.Streams.{TakesFront}
use Rattle.devices.proofs.Moving.{Appends-more}
use Rattle.capture.specs.Capture.{Frame, capture_of, our_header_octets}
use Rattle.capture.proofs.Ours.{more_written}
use Rattle.recorder.specs.Captured.{record_octets, Captures, with_frame}

-- a front of octets is one of more octets
front_first : (old new : Option (List ℕ)) (octets more : List ℕ) → TakesFront old new octets → TakesFront old new (octets ++ more)
front_first old new octets more cut = (cut.0, cut.1 ++ more, ap (λ l. l ++ more) cut.2 ∙ append_assoc cut.0 cut.1 more, cut.3)

-- octets, and a front of more
front_behind : (old mid new : Option (List ℕ)) (octets more : List ℕ) → Appends old mid octets → TakesFront mid new more → TakesFront old new (octets ++ more)
front_behind old mid new octets more first cut =
    (octets ++ cut.0, cut.1, ap (λ l. octets ++ l) cut.2 ∙ sym (append_assoc octets cut.0 cut.1), Appends-more old mid new octets cut.0 first cut.3)

-- a record whose two parts were taken, or a front of it
pub whole_record : {T E : Type 0} (r : Result T E) (old mid new : Option (List ℕ)) (told head octets : List ℕ) → told ≡ head → Appends old mid told →
    OnOk r (Appends mid new octets) → OnOk r (Appends old new (head ++ octets))
whole_record (Err e) old mid new told head octets is first second = tt
whole_record (Ok x) old mid new told head octets is first second =
    subst (λ l. Appends old new (l ++ octets)) is (Appends-more old mid new told octets first second)

pub cut_head : {T E : Type 0} (r : Result T E) (old new : Option (List ℕ)) (told head octets : List ℕ) → told ≡ head → TakesFront old new told →
    OnErr r (TakesFront old new (head ++ octets))
cut_head (Ok x) old new told head octets is cut = tt
cut_head (Err e) old new told head octets is cut = front_first old new head octets (subst (TakesFront old new) is cut)

pub cut_octets : {T E : Type 0} (r : Result T E) (old mid new : Option (List ℕ)) (told head octets : List ℕ) → told ≡ head → Appends old mid told →
    OnErr r (TakesFront mid new octets) → OnErr r (TakesFront old new (head ++ octets))
cut_octets (Ok x) old mid new told head octets is first cut = tt
cut_octets (Err e) old mid new told head octets is first cut = subst (λ l. TakesFront old new (l ++ octets)) is (front_behind old mid new told octets first cut)

-- the header is the capture of no frame
pub captures_none : {T E : Type 0} (r : Result T E) (whole : Bool) (old new : Option (List ℕ)) → whole ≡ is_ok r → OnOk r (Appends old new our_header_octets) →
    OnErr r (TakesFront old new our_header_octets) → Captures whole old new []
captures_none (Ok x) whole old new is taken cut = subst (λ w. Captures w old new []) (sym is) taken
captures_none (Err e) whole old new is taken cut = subst (λ w. Captures w old new []) (sym is) cut

-- a whole capture, and a record more
pub captures_more : {T E : Type 0} (r : Result T E) (whole : Bool) (before old new : Option (List ℕ)) (frames : List Frame) (moment : Moment) (octets : List ℕ) →
    whole ≡ is_ok r → OnOk r (Appends old new (record_octets moment octets)) → OnErr r (TakesFront old new (record_octets moment octets)) →
    Captures true before old frames → Captures whole before new (with_frame frames moment octets)
captures_more (Ok x) whole before old new frames moment octets is taken cut so_far =
    let f : Frame = record { moment = moment; octets = octets } in
    subst (λ w. Captures w before new (with_frame frames moment octets)) (sym is)
    (subst (Appends before new) (sym (more_written frames f)) (Appends-more before old new (capture_of frames) (record_octets moment octets) so_far taken))
captures_more (Err e) whole before old new frames moment octets is taken cut so_far =
    let f : Frame = record { moment = moment; octets = octets } in
    subst (λ w. Captures w before new (with_frame frames moment octets)) (sym is)
    (subst (TakesFront before new) (sym (more_written frames f)) (front_behind before old new (capture_of frames) (record_octets moment octets) so_far cut))

-- what is no longer whole stays a front
pub captures_front : (before now : Option (List ℕ)) (frames : List Frame) (moment : Moment) (octets : List ℕ) → Captures false before now frames →
    Captures false before now (with_frame frames moment octets)
captures_front before now frames moment octets so_far =
    let f : Frame = record { moment = moment; octets = octets } in
    subst (TakesFront before now) (sym (more_written frames f)) (front_first before now (capture_of frames) (record_octets moment octets) so_far)
