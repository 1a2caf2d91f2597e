-- The captures that are written.
use Rattle.std.proofs.Common.{◌≡◌, ◌<◌, ◌-◌, Err, ℕ, ◌+◌, ◌*◌, ◌/◌, ◌%◌, ◌^◌, List, [], ◌∷◌, ◌++◌, length, take, map, All, Option, None, Ok, arith, refl, sym, ◌∙◌, ap, subst}
use Rattle.std.specs.List.{flat_map}
use Rattle.std.proofs.lemmas.List.{map-append, flat_map_more, take-map, take_all}
use Rattle.std.proofs.lemmas.List.Elements.{All-cons, All-head, All-nil, All-tail, All-take}
use Rattle.std.proofs.Math.Seq.{take-append-add}
use Rattle.clock.specs.declared.moment.Moment.{Moment}
use Rattle.capture.specs.declared.format.Fraction.{Fraction}
use Rattle.capture.specs.declared.format.Order.TheVariants.{Little}
use Rattle.capture.specs.declared.header.Header.{Header}
use Rattle.capture.specs.declared.fault.HeaderFault.TheVariants.{Short}
use Rattle.capture.specs.declared.fault.RecordFault.{RecordFault}
use Rattle.capture.specs.Capture.{Entry, Frame, IsEntry, IsToldWhole, capture_of, entry_head, entry_octets, entry_of, our_header, our_header_octets}
use Rattle.capture.specs.Cutting.{lack_in, whole_count}
use Rattle.capture.specs.Reading.{AreRead, Record, moment_of, opened, read_as, record_of}
use Rattle.capture.proofs.Beginnings.{opened_cut, opened_whole}
use Rattle.capture.proofs.Runs.{all_read, cut_read, one_reading}

-- a capture of no frame is a header
pub none_written : capture_of [] ≡ our_header_octets
none_written = refl

-- one frame more
pub more_written : (frames : List Frame) (frame : Frame)
    → capture_of (frames ++ frame ∷ []) ≡ capture_of frames ++ (entry_head Little (entry_of frame) ++ frame.octets)
more_written frames frame =
    let told : map entry_of (frames ++ frame ∷ []) ≡ map entry_of frames ++ entry_of frame ∷ [] = map-append entry_of frames (frame ∷ []) in
    ap (λ es. our_header_octets ++ flat_map (entry_octets Little) es) told
    ∙ sym (flat_map_more (entry_octets Little) our_header_octets (map entry_of frames) (entry_of frame))

-- the record of a frame says all of it
told_whole : (f : Frame) → IsToldWhole f → IsEntry (entry_of f)
told_whole f is = record {
  seconds = omega (arith, is.moment);
  fraction = omega arith;
  original = omega (arith, is.octets);
  included = is.octets;
}

all_told : (frames : List Frame) → All IsToldWhole frames → All IsEntry (map entry_of frames)
all_told [] each = All-nil IsEntry
all_told (f ∷ fs) each =
    All-cons IsEntry (entry_of f) (map entry_of fs) (told_whole f (All-head IsToldWhole f fs each)) (all_told fs (All-tail IsToldWhole f fs each))

-- a record by its parts
abbrev made : ℕ → ℕ → ℕ → List ℕ → Record
made seconds nanoseconds original octets = record { seconds = seconds; nanoseconds = nanoseconds; original = original; octets = octets }

read_back : (f : Frame) → IsToldWhole f → read_as our_header (entry_of f) ≡ record_of f
read_back f is =
    let seconds : f.moment.0 / 1000 % 2 ^ 32 ≡ f.moment.0 / 1000 = omega (arith, is.moment) in
    let nanoseconds : f.moment.0 % 1000 * 1000 * 1000 ≡ f.moment.0 % 1000 * 1000000 = omega arith in
    let octets : take 262144 f.octets ≡ f.octets = take_all 262144 f.octets is.octets in
    ap (λ n. made n (f.moment.0 % 1000 * 1000 * 1000) (length f.octets) (take 262144 f.octets)) seconds
    ∙ (ap (λ n. made (f.moment.0 / 1000) n (length f.octets) (take 262144 f.octets)) nanoseconds ∙ ap (made (f.moment.0 / 1000) (f.moment.0 % 1000 * 1000000) (length f.octets)) octets)

all_back : (frames : List Frame) → All IsToldWhole frames → map (read_as our_header) (map entry_of frames) ≡ map record_of frames
all_back [] each = refl
all_back (f ∷ fs) each =
    let one : read_as our_header (entry_of f) ≡ record_of f = read_back f (All-head IsToldWhole f fs each) in
    let more : map (read_as our_header) (map entry_of fs) ≡ map record_of fs = all_back fs (All-tail IsToldWhole f fs each) in
    cc

-- the octets behind the header of a capture
pub opened_ours : (frames : List Frame)
    → opened (capture_of frames) ≡ Ok (record { header = our_header; octets = flat_map (entry_octets Little) (map entry_of frames) })
opened_ours frames = opened_whole our_header 0 0 (flat_map (entry_octets Little) (map entry_of frames)) (omega arith)

-- .. are read as the frames
pub ours_read : (frames : List Frame) → All IsToldWhole frames
    → AreRead our_header (flat_map (entry_octets Little) (map entry_of frames)) (map record_of frames) None
ours_read frames each =
    subst (λ rs. AreRead our_header (flat_map (entry_octets Little) (map entry_of frames)) rs None) (all_back frames each) (all_read our_header (map entry_of frames) (all_told frames each))

pub moment_back : (frame : Frame) → moment_of (record_of frame) ≡ frame.moment
moment_back frame =
    let same : frame.moment.0 / 1000 * 1000 + frame.moment.0 % 1000 * 1000000 / 1000000 ≡ frame.moment.0 = omega arith in
    ap at same
  where
    at : ℕ → Moment
    at n = record { 0 = n }

-- what is read of a record, by what a header tells but for the order
abbrev told_as : Fraction → ℕ → Entry → Record
told_as fraction snaplen = read_as (record { format = record { order = Little; fraction = fraction }; snaplen = snaplen })

-- the same records in another order of octets, whole or cut
pub orders_alike : (first second : Header) (entries : List Entry) (n : ℕ) (rs : List Record) (end : Option RecordFault)
    → first.format.fraction ≡ second.format.fraction → first.snaplen ≡ second.snaplen → All IsEntry entries
    → AreRead first (take n (flat_map (entry_octets first.format.order) entries)) rs end
    → AreRead second (take n (flat_map (entry_octets second.format.order) entries)) rs end
orders_alike first second entries n rs end same_fraction same_snaplen each are =
    let octets : List ℕ = take n (flat_map (entry_octets second.format.order) entries) in
    let same = one_reading first (take n (flat_map (entry_octets first.format.order) entries)) (map (read_as first) (take (whole_count n entries) entries)) rs (lack_in n entries) end (cut_read first entries n each) are in
    let read : read_as second ≡ read_as first = ap (λ f. told_as f second.snaplen) (sym same_fraction) ∙ ap (told_as first.format.fraction) (sym same_snaplen) in
    let records : map (read_as second) (take (whole_count n entries) entries) ≡ rs = ap (λ f. map f (take (whole_count n entries) entries)) read ∙ same.0 in
    subst (λ e. AreRead second octets rs e) same.1 (subst (λ ss. AreRead second octets ss (lack_in n entries)) records (cut_read second entries n each))

-- the octets behind the header of a capture
abbrev behind_ours : List Frame → List ℕ
behind_ours frames = flat_map (entry_octets Little) (map entry_of frames)

-- a capture that was cut within its header, or behind it
pub ours_cut : (frames : List Frame) (n : ℕ) → n < 24 → opened (take n (capture_of frames)) ≡ Err (Short (24 - n))
ours_cut frames n fewer = opened_cut our_header 0 0 (behind_ours frames) n (omega arith) fewer

pub ours_opened : (frames : List Frame) (n : ℕ)
    → opened (take (24 + n) (capture_of frames)) ≡ Ok (record { header = our_header; octets = take n (flat_map (entry_octets Little) (map entry_of frames)) })
ours_opened frames n =
    ap opened (take-append-add our_header_octets (behind_ours frames) n) ∙ opened_whole our_header 0 0 (take n (behind_ours frames)) (omega arith)

-- .. is read as the frames whose records it has whole
pub ours_cut_read : (frames : List Frame) (n : ℕ) → All IsToldWhole frames
    → AreRead our_header (take n (flat_map (entry_octets Little) (map entry_of frames))) (map record_of (take (whole_count n (map entry_of frames)) frames)) (lack_in n (map entry_of frames))
ours_cut_read frames n each =
    let k : ℕ = whole_count n (map entry_of frames) in
    let same : map (read_as our_header) (take k (map entry_of frames)) ≡ map record_of (take k frames) =
    ap (map (read_as our_header)) (take-map entry_of k frames) ∙ all_back (take k frames) (All-take IsToldWhole k frames each) in
    subst (λ rs. AreRead our_header (take n (behind_ours frames)) rs (lack_in n (map entry_of frames))) same (cut_read our_header (map entry_of frames) n (all_told frames each))
