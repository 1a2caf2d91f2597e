-- The frames that went out, one thing that happened after another, and their capture.
use Rattle.std.proofs.Common.{◌≡◌, ℕ, ◌+◌, ◌<◌, ◌≤◌, List, [], ◌∷◌, ◌++◌, length, map, take, drop, get_or, Option, Some, None, option_map, Result, Ok, Err, refl, ap, sym, subst, ◌∙◌, append_assoc, append-nil, add-one}
use Rattle.std.proofs.Math.Seq.{take-suc}
use Rattle.std.specs.List.{flat_map}
use Rattle.std.specs.List.{slice_get}
use Rattle.std.specs.Result.{IfErr, IsErrAnd}
use Rattle.clock.specs.declared.moment.Moment.{Moment}
use Rattle.std.specs.Io.KnownBytes.{Appends, Keeps}
use Rattle.std.proofs.lemmas.List.{map-append, take-append-drop, take_all, drop_more}
use Rattle.std.proofs.lemmas.Grind.{flat_map-append}
use Rattle.capture.specs.declared.format.Order.TheVariants.{Little}
use Rattle.capture.specs.Capture.{Frame as Captured, capture_of, entry_octets, entry_of, our_header_octets}
use Rattle.sides.specs.declared.side.Side.{Side}
use Rattle.wire_sim.specs.declared.event.Event.{Event}
use Rattle.wire_sim.specs.declared.event.Event.TheVariants as event
use Rattle.wire_sim.specs.declared.event.Answer.{Answer}
use Rattle.wire_sim.specs.declared.event.Answer.TheVariants as answer
use Rattle.wire_sim.specs.declared.event.Happening.{Happening}
use Rattle.wire_sim.specs.declared.world.bag.Frame.{Frame}
use Rattle.wire_sim.specs.WorldView.{WorldView}
use Rattle.commands.specs.declared.fault.TextFault.{TextFault}
use Rattle.commands.specs.declared.fault.TextFault.TheVariants.{Write}
use Rattle.commands.specs.declared.recording.Clocks.{Clocks}
use Rattle.devices.specs.Streams.{TakesFront}
use Rattle.recorder.specs.Captured.{record_octets}
use Rattle.commands.specs.Recording.{no_time, captured_at, clock_in, clocks_after, clocks_behind, frame_out, frames_out, frames_of, records_of, TakesCapture}
use Rattle.commands.proofs.RunLemmas.{kept}
use Rattle.commands.proofs.SimLemmas.{passed_on}
use Rattle.devices.proofs.Moving.{Appends-more, Keeps-appends}

-- the clocks after one thing more
clocks_more : (c : Clocks) (hs : List Happening) (h : Happening) → clocks_behind c (hs ++ h ∷ []) ≡ clocks_after (clocks_behind c hs) h.event
clocks_more c [] h = refl
clocks_more c (x ∷ hs) h = clocks_more (clocks_after c x.event) hs h

-- the frames that went out after one thing more
frames_more : (fs : List Frame) (c : Clocks) (hs : List Happening) (h : Happening) →
    frames_out fs c (hs ++ h ∷ []) ≡ frames_out fs c hs ++ frame_out fs (clocks_behind c hs) h.event h.answer
frames_more fs c [] h = append-nil (frame_out fs c h.event h.answer)
frames_more fs c (x ∷ hs) h =
    ap (λ l. frame_out fs c x.event x.answer ++ l) (frames_more fs (clocks_after c x.event) hs h)
    ∙ sym (append_assoc (frame_out fs c x.event x.answer) (frames_out fs (clocks_after c x.event) hs)
    (frame_out fs (clocks_behind (clocks_after c x.event) hs) h.event h.answer))

-- and after many
frames_and : (fs : List Frame) (c : Clocks) (hs more : List Happening) →
    frames_out fs c (hs ++ more) ≡ frames_out fs c hs ++ frames_out fs (clocks_behind c hs) more
frames_and fs c [] more = refl
frames_and fs c (x ∷ hs) more =
    ap (λ l. frame_out fs c x.event x.answer ++ l) (frames_and fs (clocks_after c x.event) hs more)
    ∙ sym (append_assoc (frame_out fs c x.event x.answer) (frames_out fs (clocks_after c x.event) hs)
    (frames_out fs (clocks_behind (clocks_after c x.event) hs) more))

-- records in turn
records_and : (xs ys : List Captured) → records_of (xs ++ ys) ≡ records_of xs ++ records_of ys
records_and xs ys =
    ap (flat_map (entry_octets Little)) (map-append entry_of xs ys) ∙ flat_map-append (entry_octets Little) (map entry_of xs) (map entry_of ys)

-- the first things that happened, and one more
happened_more : (hs : List Happening) (i : ℕ) (h : Happening) → i < length hs → h ≡ get_or hs i h → take (i + 1) hs ≡ take i hs ++ h ∷ []
happened_more hs i h within is = ap (λ k. take k hs) (add-one i) ∙ take-suc hs i h within ∙ ap (λ x. take i hs ++ x ∷ []) (sym is)

-- the trace, as far as its records were taken
pub record IsRecordedUpTo (w : WorldView) (i : ℕ) (clocks : Clocks) (old new : Option (List ℕ)) : Type 0 where
  pub moments : clocks ≡ clocks_behind no_time (take i w.trace)
  pub taken : Appends old new (records_of (frames_out w.network.frames no_time (take i w.trace)))

-- nothing so far
pub none_recorded : (w : WorldView) (clocks : Clocks) (old : Option (List ℕ)) → clocks ≡ no_time → IsRecordedUpTo w 0 clocks old old
none_recorded w clocks old first = record { moments = first; taken = Keeps-appends old old (kept old) }

-- one more thing that happened, whose record was taken
pub recorded_more : (w : WorldView) (hs : List Happening) (i : ℕ) (h : Happening) (clocks next : Clocks) (old mid new : Option (List ℕ)) → hs ≡ w.trace →
    i < length hs → h ≡ get_or hs i h → next ≡ clocks_after clocks h.event → IsRecordedUpTo w i clocks old mid →
    Appends mid new (records_of (frame_out w.network.frames clocks h.event h.answer)) → IsRecordedUpTo w (i + 1) next old new
recorded_more w hs i h clocks next old mid new is_trace within is moved so_far one =
    let fs : List Frame = w.network.frames in
    let inside : i < length w.trace = subst (λ (l : List Happening). i < length l) is_trace within in
    let at : h ≡ get_or w.trace i h = subst (λ (l : List Happening). h ≡ get_or l i h) is_trace is in
    let more : take (i + 1) w.trace ≡ take i w.trace ++ h ∷ [] = happened_more w.trace i h inside at in
    let frames : frames_out fs no_time (take (i + 1) w.trace) ≡ frames_out fs no_time (take i w.trace) ++ frame_out fs clocks h.event h.answer =
    ap (frames_out fs no_time) more ∙ frames_more fs no_time (take i w.trace) h
    ∙ ap (λ c. frames_out fs no_time (take i w.trace) ++ frame_out fs c h.event h.answer) (sym so_far.moments) in
    record {
      moments = moved ∙ ap (λ c. clocks_after c h.event) so_far.moments ∙ sym (clocks_more no_time (take i w.trace) h) ∙ ap (clocks_behind no_time) (sym more);
      taken = subst (λ l. Appends old new l)
          (sym (ap records_of frames ∙ records_and (frames_out fs no_time (take i w.trace)) (frame_out fs clocks h.event h.answer)))
          (Appends-more old mid new (records_of (frames_out fs no_time (take i w.trace))) (records_of (frame_out fs clocks h.event h.answer)) so_far.taken one);
    }

-- the frames before, the one that went out, and those behind
frames_around : (fs : List Frame) (hs : List Happening) (i : ℕ) (h : Happening) (clocks : Clocks) → i < length hs → h ≡ get_or hs i h →
    clocks ≡ clocks_behind no_time (take i hs) →
    frames_out fs no_time hs ≡ frames_out fs no_time (take i hs)
    ++ (frame_out fs clocks h.event h.answer ++ frames_out fs (clocks_after clocks h.event) (drop (i + 1) hs))
frames_around fs hs i h clocks within is at =
    ap (frames_out fs no_time) (sym (take-append-drop i hs)) ∙ frames_and fs no_time (take i hs) (drop i hs)
    ∙ ap (λ l. frames_out fs no_time (take i hs) ++ frames_out fs (clocks_behind no_time (take i hs)) l)
    (drop_more hs i h within ∙ ap (λ x. x ∷ drop (i + 1) hs) (sym is))
    ∙ ap (λ c. frames_out fs no_time (take i hs) ++ frames_out fs c (h ∷ drop (i + 1) hs)) (sym at)

-- the sink took the header, and failed at a record
pub record_cut : (r : Result (Unit {0}) TextFault) (fault : TextFault) (w : WorldView) (hs : List Happening) (i : ℕ) (h : Happening) (clocks : Clocks)
    (old begun mid new : Option (List ℕ)) (head : List ℕ) → IsErrAnd r (λ e. e ≡ fault) → hs ≡ w.trace → i < length hs → h ≡ get_or hs i h →
    head ≡ our_header_octets → Appends old begun head → IsRecordedUpTo w i clocks begun mid →
    (fault ≡ Write) × TakesFront mid new (records_of (frame_out w.network.frames clocks h.event h.answer)) → TakesCapture r w old new
record_cut r fault w hs i h clocks old begun mid new head passes is_trace within is ours begun_so so_far cut =
    let header : Appends old begun our_header_octets = subst (λ l. Appends old begun l) ours begun_so in
    let fs : List Frame = w.network.frames in
    let inside : i < length w.trace = subst (λ (l : List Happening). i < length l) is_trace within in
    let at : h ≡ get_or w.trace i h = subst (λ (l : List Happening). h ≡ get_or l i h) is_trace is in
    let before : List Captured = frames_out fs no_time (take i w.trace) in
    let one : List Captured = frame_out fs clocks h.event h.answer in
    let behind : List Captured = frames_out fs (clocks_after clocks h.event) (drop (i + 1) w.trace) in
    let front = cut.1 in
    let records : records_of (frames_of w) ≡ (records_of before ++ front.0) ++ (front.1 ++ records_of behind) =
    ap records_of (frames_around fs w.trace i h clocks inside at so_far.moments) ∙ records_and before (one ++ behind)
    ∙ ap (λ l. records_of before ++ l) (records_and one behind ∙ ap (λ l. l ++ records_of behind) front.2 ∙ append_assoc front.0 front.1 (records_of behind))
    ∙ sym (append_assoc (records_of before) front.0 (front.1 ++ records_of behind)) in
    rw (passed_on r fault passes, cut.0) (
      our_header_octets ++ (records_of before ++ front.0),
      front.1 ++ records_of behind,
      ap (λ l. our_header_octets ++ l) records ∙ sym (append_assoc our_header_octets (records_of before ++ front.0) (front.1 ++ records_of behind)),
      Appends-more old begun new our_header_octets (records_of before ++ front.0) header
          (Appends-more begun mid new (records_of before) front.0 so_far.taken front.3),
    )

-- the sink failed at the header
pub header_cut : (r : Result (Unit {0}) TextFault) (fault : TextFault) (w : WorldView) (old new : Option (List ℕ)) (head : List ℕ) →
    IsErrAnd r (λ e. e ≡ fault) → head ≡ our_header_octets → (fault ≡ Write) × TakesFront old new head → TakesCapture r w old new
header_cut r fault w old new head passes ours cut =
    let front : TakesFront old new our_header_octets = subst (λ l. TakesFront old new l) ours cut.1 in
    rw (passed_on r fault passes, cut.0) (
      front.0,
      front.1 ++ records_of (frames_of w),
      ap (λ l. l ++ records_of (frames_of w)) front.2 ∙ append_assoc front.0 front.1 (records_of (frames_of w)),
      front.3,
    )

-- the whole trace
pub all_recorded : (w : WorldView) (hs : List Happening) (i : ℕ) (clocks : Clocks) (old begun new : Option (List ℕ)) (head : List ℕ) → hs ≡ w.trace →
    length hs ≤ i → head ≡ our_header_octets → Appends old begun head → IsRecordedUpTo w i clocks begun new →
    Appends old new (capture_of (frames_of w))
all_recorded w hs i clocks old begun new head is_trace past ours begun_so so_far =
    let all : take i w.trace ≡ w.trace = take_all i w.trace (subst (λ (l : List Happening). length l ≤ i) is_trace past) in
    Appends-more old begun new our_header_octets (records_of (frames_of w)) (subst (λ l. Appends old begun l) ours begun_so)
    (subst (λ l. Appends begun new (records_of (frames_out w.network.frames no_time l))) all so_far.taken)

appended : (old mid new : Option (List ℕ)) (octets : List ℕ) → Appends old mid octets → Keeps mid new → Appends old new octets
appended old mid new octets taken kept = subst (Appends old new) (append-nil octets) (Appends-more old mid new octets [] taken (Keeps-appends mid new kept))

-- the capture that the sink took whole, whether it was handed on or not
pub whole_taken : (r : Result (Unit {0}) TextFault) (w : WorldView) (old mid new : Option (List ℕ)) → Appends old mid (capture_of (frames_of w)) → Keeps mid new →
    IfErr r (λ fault. fault ≡ Write) → TakesCapture r w old new
whole_taken (Ok done) w old mid new taken kept fault = appended old mid new (capture_of (frames_of w)) taken kept
whole_taken (Err e) w old mid new taken kept fault =
    rw fault (capture_of (frames_of w), [], sym (append-nil (capture_of (frames_of w))), appended old mid new (capture_of (frames_of w)) taken kept)

-- the records of the frame that went out are its one
record_of_frame : (o : Option Frame) (moment clock : Moment) (octets : List ℕ) → Some octets ≡ option_map (λ (f : Frame). f.octets.items) o → moment ≡ clock →
    records_of (captured_at clock o) ≡ record_octets moment octets
record_of_frame None moment clock octets is at = cc
record_of_frame (Some f) moment clock octets is at =
    let same : octets ≡ f.octets.items = cc in
    rw (at, same) (append-nil (record_octets clock f.octets.items))

pub record_of_event : (frames : List Frame) (clocks : Clocks) (e : Event) (a : Answer) (side : Side) (index len : ℕ) (moment : Moment) (octets : List ℕ) →
    e ≡ event.Emit side → a ≡ answer.Frame index len → Some octets ≡ option_map (λ (f : Frame). f.octets.items) (slice_get frames index) →
    moment ≡ clock_in clocks side → records_of (frame_out frames clocks e a) ≡ record_octets moment octets
record_of_event frames clocks e a side index len moment octets is_event is_answer there at =
    rw (is_event, is_answer) (record_of_frame (slice_get frames index) moment (clock_in clocks side) octets there at)

pub cut_as : (r : Result (Unit {0}) TextFault) (old new : Option (List ℕ)) (records one : List ℕ) → records ≡ one →
    IfErr r (λ f. (f ≡ Write) × TakesFront old new one) → IfErr r (λ f. (f ≡ Write) × TakesFront old new records)
cut_as r old new records one is cut = subst (λ l. IfErr r (λ f. (f ≡ Write) × TakesFront old new l)) (sym is) cut
