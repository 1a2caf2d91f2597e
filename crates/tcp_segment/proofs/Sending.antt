-- How a segment is written.
use Rattle.std.proofs.Common.{◌≡◌, ℕ, ◌+◌, ◌-◌, ◌*◌, ◌<◌, ◌≤◌, ◌/◌, ◌%◌, Bool, true, false, List, [], ◌∷◌, ◌++◌, length, take, drop, slice_range, All, Some, None, ◌&&◌, cond, if◌then◌else◌, refl, sym, ◌∙◌, ap, append_assoc, length-append, arith}
use Rattle.std.proofs.lemmas.List.{append-nil, take_all, take_at, drop_at, drop-drop, take-append-drop, length-take, length-drop, drop_all}
use Rattle.std.proofs.lemmas.List.Elements.{All-take}
use Rattle.std.specs.List.{list_any}
use borrow.Rule.Slice.PartMut.{put_mid, mid_of}
use Rattle.inet_sum.specs.Sum.{word_sum, ones_complement, sum_of}
use Rattle.inet_sum.proofs.Words.{word_sum-append, ones_complement-add, ones_complement-ones_complement}
use Rattle.inet_sum.proofs.Exchanging.{few_turns}
use Rattle.ipv4.specs.declared.addr.Addr.{Addr}
use Rattle.tcp_segment.specs.Blocks.{BlockFits}
use Rattle.tcp_segment.specs.declared.blocks.Block.{Block}
use Rattle.tcp_segment.specs.declared.flags.Flags.{Flags}
use Rattle.tcp_segment.specs.declared.head.Head.{Head}
use Rattle.tcp_segment.specs.Options.{HeaderOption, NoOperation, MaximumSegmentSize, WindowScale, joined, last_mss, last_scale, permits, last_blocks, block_octets}
use Rattle.tcp_segment.specs.Segment.{FieldsFit, bit, control_bits, fixed_fields, summed_octets, mss_option_of, scale_option_of, sack_permitted_of, blocks_of}
use Rattle.tcp_segment.specs.Sent.{sent_blocks, permission, report, sent_options, sent_segment, one_more, reporting_offset, sent_offset, sent_with, sent_octets}
use Rattle.tcp_segment.proofs.BlockWords.{blocks_len}
use Rattle.tcp_segment.proofs.Told.{last_report_stands}

-- the options of a segment with these bits and blocks, and its data offset
abbrev pub options_of : Bool → Bool → Bool → List Block → List HeaderOption
options_of syn scales sacks blocks =
    if syn then MaximumSegmentSize 1460 ∷ (if scales then NoOperation ∷ WindowScale 5 ∷ permission sacks else permission sacks) else report blocks

abbrev pub offset_of : Bool → Bool → Bool → List Block → ℕ
offset_of syn scales sacks blocks = if syn then one_more sacks (one_more scales 6) else reporting_offset blocks

least : (syn scales sacks : Bool) (blocks : List Block) → 5 ≤ offset_of syn scales sacks blocks
least true true true blocks = omega arith
least true true false blocks = omega arith
least true false true blocks = omega arith
least true false false blocks = omega arith
least false scales sacks [] = omega arith
least false scales sacks (block ∷ blocks) = omega arith

most : (syn scales sacks : Bool) (blocks : List Block) → length blocks ≤ 4 → offset_of syn scales sacks blocks ≤ 14
most true true true blocks few = omega arith
most true true false blocks few = omega arith
most true false true blocks few = omega arith
most true false false blocks few = omega arith
most false scales sacks [] few = omega arith
most false scales sacks (block ∷ blocks) few = omega (arith, few)

pub few_blocks : (head : Head) → length (sent_blocks head) ≤ 4
few_blocks head = omega (arith, length-take 4 head.blocks)

-- a header is five words long at least, and fourteen at most
pub least_offset : (head : Head) → 5 ≤ sent_offset head
least_offset head = least head.flags.syn head.scales head.sacks (sent_blocks head)

pub most_offset : (head : Head) → sent_offset head ≤ 14
most_offset head = most head.flags.syn head.scales head.sacks (sent_blocks head) (few_blocks head)

-- octets are put behind the first n
pub put_behind : (n k : ℕ) (front last out : List ℕ) → length front ≡ n → length last ≡ k → put_mid n k (front ++ drop n out) last ≡ (front ++ last) ++ drop (n + k) out
put_behind n k front last out f l =
    rw (take_at front (drop n out) n f, drop_at front (drop n out) n f, drop-drop k n out) (sym (append_assoc front last (drop (n + k) out)))

-- what stands behind the first n octets is exchanged
put_rest : (n : ℕ) (front last out : List ℕ) → length front ≡ n → put_mid n (length (front ++ drop n out) - n) (front ++ drop n out) last ≡ front ++ last
put_rest n front last out f =
    let all : length (drop n out) ≤ length (front ++ drop n out) - n = omega (arith, length-append front (drop n out), f) in
    rw (take_at front (drop n out) n f, drop_at front (drop n out) n f, drop_all (length (front ++ drop n out) - n) (drop n out) all)
    (ap (λ (xs : List ℕ). front ++ xs) (append-nil last))

mid_rest : (n : ℕ) (front out : List ℕ) → length front ≡ n → mid_of n (length (front ++ drop n out) - n) (front ++ drop n out) ≡ drop n out
mid_rest n front out f =
    let all : length (drop n out) ≤ length (front ++ drop n out) - n = omega (arith, length-append front (drop n out), f) in
    rw (drop_at front (drop n out) n f) (take_all (length (front ++ drop n out) - n) (drop n out) all)

-- the options are written behind the fixed fields
pub with_options : (head : Head) (checksum : ℕ) (first last out : List ℕ) → first ≡ fixed_fields (sent_segment head []) (sent_offset head) 0 checksum
    → last ≡ joined (sent_options head) ++ drop (4 * sent_offset head - 20) (mid_of 20 (length (first ++ drop 20 out) - 20) (first ++ drop 20 out))
    → put_mid 20 (length (first ++ drop 20 out) - 20) (first ++ drop 20 out) last ≡ sent_with head [] checksum ++ drop (4 * sent_offset head) out
with_options head checksum first last out f l =
    let options : List ℕ = joined (sent_options head) in
    let header : ℕ = 4 * sent_offset head in
    let size : length first ≡ 20 = ap length f in
    let end : 20 + (header - 20) ≡ header = omega (arith, least_offset head) in
    let rest : drop (header - 20) (mid_of 20 (length (first ++ drop 20 out) - 20) (first ++ drop 20 out)) ≡ drop header out =
    ap (drop (header - 20)) (mid_rest 20 first out size) ∙ drop-drop (header - 20) 20 out ∙ ap (λ (n : ℕ). drop n out) end in
    let whole : first ++ options ≡ sent_with head [] checksum =
    ap (λ (xs : List ℕ). xs ++ options) f ∙ ap (λ (xs : List ℕ). fixed_fields (sent_segment head []) (sent_offset head) 0 checksum ++ xs) (sym (append-nil (options ++ []) ∙ append-nil options)) in
    put_rest 20 first last out size ∙ ap (λ (xs : List ℕ). first ++ xs) (l ∙ ap (λ (xs : List ℕ). options ++ xs) rest)
    ∙ sym (append_assoc first options (drop header out)) ∙ ap (λ (xs : List ℕ). xs ++ drop header out) whole

-- the options with SYN up to the permission ..
abbrev pub scaled : Bool → List ℕ
scaled scales = 2 ∷ 4 ∷ 5 ∷ 180 ∷ (if scales then 1 ∷ 3 ∷ 3 ∷ 5 ∷ [] else [])

scaled_len : (scales : Bool) → length (scaled scales) ≡ 4 * one_more scales 6 - 20
scaled_len true = refl
scaled_len false = refl

pub with_scale : (scales : Bool) (first last out : List ℕ) → scales ≡ true → first ≡ 2 ∷ 4 ∷ 5 ∷ 180 ∷ [] → last ≡ 1 ∷ 3 ∷ 3 ∷ 5 ∷ []
    → put_mid 4 4 (first ++ drop 4 out) last ≡ scaled scales ++ drop (4 * one_more scales 6 - 20) out
with_scale scales first last out so f l =
    let both : first ++ last ≡ 2 ∷ 4 ∷ 5 ∷ 180 ∷ 1 ∷ 3 ∷ 3 ∷ 5 ∷ [] = rw (f, l) refl in
    rw so (put_behind 4 4 first last out (ap length f) (ap length l) ∙ ap (λ (xs : List ℕ). xs ++ drop 8 out) both)

pub without_scale : (scales : Bool) (first out : List ℕ) → scales ≡ false → first ≡ 2 ∷ 4 ∷ 5 ∷ 180 ∷ [] → first ++ drop 4 out ≡ scaled scales ++ drop (4 * one_more scales 6 - 20) out
without_scale scales first out so f = rw so (ap (λ (xs : List ℕ). xs ++ drop 4 out) f)

-- .. and the permission
pub with_permission : (head : Head) (n k : ℕ) (was last out : List ℕ) → head.flags.syn ≡ true → head.sacks ≡ true → n ≡ 4 * one_more head.scales 6 - 20 → k ≡ 4
    → was ≡ scaled head.scales ++ drop (4 * one_more head.scales 6 - 20) out → last ≡ 1 ∷ 1 ∷ 4 ∷ 2 ∷ []
    → put_mid n k was last ≡ joined (sent_options head) ++ drop (4 * sent_offset head - 20) out
with_permission head n k was last out syn sacks at size is l =
    let place : ℕ = 4 * one_more head.scales 6 - 20 in
    let both : put_mid n k was last ≡ put_mid place 4 (scaled head.scales ++ drop place out) last =
    ap (λ (a : ℕ). put_mid a k was last) at ∙ ap (λ (b : ℕ). put_mid place b was last) size ∙ ap (λ (xs : List ℕ). put_mid place 4 xs last) is in
    both ∙ put_behind place 4 (scaled head.scales) last out (scaled_len head.scales) (ap length l)
    ∙ rw (syn, sacks, l) (ended head.scales)
  where
    ended : (scales : Bool) → (scaled scales ++ (1 ∷ 1 ∷ 4 ∷ 2 ∷ [])) ++ drop (4 * one_more scales 6 - 20 + 4) out
        ≡ joined (options_of true scales true []) ++ drop (4 * one_more true (one_more scales 6) - 20) out
    ended true = refl
    ended false = refl

-- the octets of options that report blocks
report_octets : (block : Block) (blocks : List Block) → let all : List Block = block ∷ blocks in joined (report all) ≡ 1 ∷ 1 ∷ 5 ∷ (2 + 8 * length all) ∷ block_octets all
report_octets block blocks =
    let all : List Block = block ∷ blocks in
    ap (λ (xs : List ℕ). 1 ∷ 1 ∷ 5 ∷ (2 + length (block_octets all)) ∷ xs) (append-nil (block_octets all))
    ∙ ap (λ (n : ℕ). 1 ∷ 1 ∷ 5 ∷ (2 + n) ∷ block_octets all) (blocks_len all)

-- the length of a header that reports blocks
pub reporting : (head : Head) → head.flags.syn ≡ false → 0 < length head.blocks → length head.blocks ≤ 4 → sent_offset head ≡ 6 + 2 * length head.blocks
reporting head syn some few = rw (syn, take_all 4 head.blocks few) (by_blocks head.blocks some)
  where
    by_blocks : (blocks : List Block) → 0 < length blocks → reporting_offset blocks ≡ 6 + 2 * length blocks
    by_blocks [] some = absurd (omega (arith, some))
    by_blocks (block ∷ blocks) some = refl

-- there is room for them
pub room_for_blocks : (head : Head) (first out : List ℕ) → head.flags.syn ≡ false → 0 < length head.blocks → length head.blocks ≤ 4 → length first ≡ 4
    → 4 * sent_offset head ≤ 20 + length out → 8 * length head.blocks ≤ length (mid_of 4 (length (first ++ drop 4 out) - 4) (first ++ drop 4 out))
room_for_blocks head first out syn some few f room =
    omega (arith, reporting head syn some few, ap length (mid_rest 4 first out f), length-drop 4 out)

-- the blocks are written behind the word before them
pub with_blocks : (head : Head) (first last out : List ℕ) → head.flags.syn ≡ false → 0 < length head.blocks → length head.blocks ≤ 4
    → first ≡ 1 ∷ 1 ∷ 5 ∷ (2 + 8 * length head.blocks) ∷ []
    → last ≡ block_octets head.blocks ++ drop (8 * length head.blocks) (mid_of 4 (length (first ++ drop 4 out) - 4) (first ++ drop 4 out))
    → put_mid 4 (length (first ++ drop 4 out) - 4) (first ++ drop 4 out) last ≡ joined (sent_options head) ++ drop (4 * sent_offset head - 20) out
with_blocks head first last out syn some few f l =
    let size : length first ≡ 4 = ap length f in
    let count : ℕ = 8 * length head.blocks in
    let end : 4 + count ≡ 4 * sent_offset head - 20 = omega (arith, reporting head syn some few) in
    let rest : drop count (mid_of 4 (length (first ++ drop 4 out) - 4) (first ++ drop 4 out)) ≡ drop (4 * sent_offset head - 20) out =
    ap (drop count) (mid_rest 4 first out size) ∙ drop-drop count 4 out ∙ ap (λ (n : ℕ). drop n out) end in
    let options : first ++ block_octets head.blocks ≡ joined (sent_options head) = ap (λ (xs : List ℕ). xs ++ block_octets head.blocks) f ∙ rw (syn, take_all 4 head.blocks few) (by_blocks head.blocks some) in
    put_rest 4 first last out size ∙ ap (λ (xs : List ℕ). first ++ xs) (l ∙ ap (λ (xs : List ℕ). block_octets head.blocks ++ xs) rest)
    ∙ sym (append_assoc first (block_octets head.blocks) (drop (4 * sent_offset head - 20) out)) ∙ ap (λ (xs : List ℕ). xs ++ drop (4 * sent_offset head - 20) out) options
  where
    by_blocks : (blocks : List Block) → 0 < length blocks → 1 ∷ 1 ∷ 5 ∷ (2 + 8 * length blocks) ∷ block_octets blocks ≡ joined (report blocks)
    by_blocks [] some = absurd (omega (arith, some))
    by_blocks (block ∷ blocks) some = sym (report_octets block blocks)

-- the length of the options
options_len : (syn scales sacks : Bool) (blocks : List Block) → 20 + length (joined (options_of syn scales sacks blocks)) ≡ 4 * offset_of syn scales sacks blocks
options_len true true true blocks = refl
options_len true true false blocks = refl
options_len true false true blocks = refl
options_len true false false blocks = refl
options_len false scales sacks [] = refl
options_len false scales sacks (block ∷ blocks) = omega (arith, ap length (report_octets block blocks), blocks_len (block ∷ blocks))

pub option_len : (head : Head) → 20 + length (joined (sent_options head) ++ []) ≡ 4 * sent_offset head
option_len head =
    omega (arith, options_len head.flags.syn head.scales head.sacks (sent_blocks head), ap length (append-nil (joined (sent_options head))))

-- without SYN blocks alone go out
pub report_without_syn : (head : Head) (octets : List ℕ) → head.flags.syn ≡ false → (sent_segment head octets).options ≡ report (sent_blocks head)
report_without_syn head octets syn = rw syn refl

told_size : (scales sacks : Bool) → last_mss None (options_of true scales sacks []) ≡ Some 1460
told_size true true = refl
told_size true false = refl
told_size false true = refl
told_size false false = refl

told_scale : (scales sacks : Bool) → last_scale None (options_of true scales sacks []) ≡ cond scales (Some 5) None
told_scale true true = refl
told_scale true false = refl
told_scale false true = refl
told_scale false false = refl

pub size_with_syn : (head : Head) (octets : List ℕ) → head.flags.syn ≡ true → mss_option_of (sent_segment head octets) ≡ Some 1460
size_with_syn head octets syn = rw syn (told_size head.scales head.sacks)

pub scale_with_syn : (head : Head) (octets : List ℕ) → head.flags.syn ≡ true → scale_option_of (sent_segment head octets) ≡ cond head.scales (Some 5) None
scale_with_syn head octets syn = rw syn (told_scale head.scales head.sacks)

-- what is offered and reported is read back
pub permission_back : (head : Head) (octets : List ℕ) → sack_permitted_of (sent_segment head octets) ≡ (head.flags.syn && head.sacks)
permission_back head octets = by_bits head.flags.syn head.scales head.sacks
  where
    by_bits : (syn scales sacks : Bool) → (syn && list_any permits (options_of syn scales sacks (sent_blocks head))) ≡ (syn && sacks)
    by_bits true true true = refl
    by_bits true true false = refl
    by_bits true false true = refl
    by_bits true false false = refl
    by_bits false scales sacks = refl

pub blocks_back : (head : Head) (octets : List ℕ) → All BlockFits head.blocks → blocks_of (sent_segment head octets) ≡ cond head.flags.syn [] (sent_blocks head)
blocks_back head octets fit = by_bits head.flags.syn head.scales head.sacks (sent_blocks head) (few_blocks head) (All-take BlockFits 4 head.blocks fit)
  where
    by_bits : (syn scales sacks : Bool) (blocks : List Block) → length blocks ≤ 4 → All BlockFits blocks → last_blocks [] (options_of syn scales sacks blocks) ≡ cond syn [] blocks
    by_bits true true true blocks few fit = refl
    by_bits true true false blocks few fit = refl
    by_bits true false true blocks few fit = refl
    by_bits true false false blocks few fit = refl
    by_bits false scales sacks [] few fit = refl
    by_bits false scales sacks (block ∷ blocks) few fit = last_report_stands [] (NoOperation ∷ NoOperation ∷ []) [] (block ∷ blocks) (omega arith) few fit (λ k option below. absurd (omega (arith, below)))

-- the length of a header
pub sent_len : (head : Head) (checksum : ℕ) → length (sent_with head [] checksum) ≡ 4 * sent_offset head
sent_len head checksum =
    omega (arith, option_len head, ap length (append-nil (joined (sent_segment head []).options ++ [])))

-- a header and what it stands before
sent_before : (head : Head) (octets : List ℕ) (checksum : ℕ) → sent_with head octets checksum ≡ sent_with head [] checksum ++ octets
sent_before head octets checksum =
    ap (λ (xs : List ℕ). fixed_fields (sent_segment head octets) (sent_offset head) 0 checksum ++ (xs ++ octets))
    (sym (append-nil (joined (sent_segment head []).options ++ [])))

-- the length of a whole segment
pub whole_len : (head : Head) (octets : List ℕ) (checksum : ℕ) → length (sent_with head octets checksum) ≡ 4 * sent_offset head + length octets
whole_len head octets checksum =
    ap length (sent_before head octets checksum) ∙ omega (arith, length-append (sent_with head [] checksum) octets, sent_len head checksum)

bit_fits : (set : Bool) (worth : ℕ) → bit set worth ≤ worth
bit_fits true worth = omega arith
bit_fits false worth = omega arith

bits_fit : (flags : Flags) → control_bits flags < 64
bits_fit flags =
    omega (arith, bit_fits flags.fin 1, bit_fits flags.syn 2, bit_fits flags.rst 4, bit_fits flags.psh 8, bit_fits flags.ack 16, bit_fits flags.urg 32)

-- the words of a header: a number of 32 bits is its two words
header_words : (head : Head) → FieldsFit (sent_segment head [])
    → word_sum (sent_with head [] 0) ≡ head.source + head.destination + (head.number.0 / 65536 + head.number.0 % 65536) + (head.acknowledgement.0 / 65536 + head.acknowledgement.0 % 65536)
    + (4096 * sent_offset head + control_bits head.flags) + head.window + word_sum (joined (sent_options head))
header_words head fit =
    let options : List ℕ = joined (sent_options head) in
    let rest : (options ++ []) ++ [] ≡ options = append-nil (options ++ []) ∙ append-nil options in
    ap (λ (xs : List ℕ). word_sum (fixed_fields (sent_segment head []) (sent_offset head) 0 0 ++ xs)) rest
    ∙ omega (arith, fit.source, fit.destination, fit.number, fit.acknowledgement, fit.window, bits_fit head.flags, most_offset head)

pub words_are : (head : Head) (result options : ℕ) → FieldsFit (sent_segment head [])
    → ((more : ℕ) → ones_complement (options + more) ≡ ones_complement (word_sum (joined (sent_options head)) + more))
    → result ≡ head.source + head.destination + (head.number.0 + head.acknowledgement.0) + (4096 * sent_offset head + control_bits head.flags + head.window) + options
    → (more : ℕ) → ones_complement (result + more) ≡ ones_complement (word_sum (sent_with head [] 0) + more)
words_are head result options fit are_options is more =
    let turns : ℕ = head.number.0 / 65536 + head.acknowledgement.0 / 65536 in
    let words : ℕ = word_sum (sent_with head [] 0) in
    let fixed : ℕ = head.source + head.destination + (head.number.0 + head.acknowledgement.0) + (4096 * sent_offset head + control_bits head.flags + head.window) in
    let are = header_words head fit in
    let turned : result + more ≡ options + (fixed + more) = omega (arith, is) in
    let split : word_sum (joined (sent_options head)) + (fixed + more) ≡ words + more + 65535 * turns = omega (arith, are) in
    ap ones_complement turned ∙ are_options (fixed + more) ∙ ap ones_complement split ∙ few_turns (words + more) turns (omega (arith, are))

-- the words of the options
pub syn_words : (head : Head) (result : ℕ) → head.flags.syn ≡ true → result ≡ 1976 + cond head.scales 1032 0 + cond head.sacks 1283 0
    → (more : ℕ) → ones_complement (result + more) ≡ ones_complement (word_sum (joined (sent_options head)) + more)
syn_words head result syn is more = rw syn (ap (λ (n : ℕ). ones_complement (n + more)) (is ∙ by_bits head.scales head.sacks))
  where
    by_bits : (scales sacks : Bool) → 1976 + cond scales 1032 0 + cond sacks 1283 0 ≡ word_sum (joined (options_of true scales sacks []))
    by_bits true true = refl
    by_bits true false = refl
    by_bits false true = refl
    by_bits false false = refl

pub no_words : (head : Head) → head.flags.syn ≡ false → length head.blocks ≡ 0
    → (more : ℕ) → ones_complement (0 + more) ≡ ones_complement (word_sum (joined (sent_options head)) + more)
no_words head syn none more = rw syn (by_blocks head.blocks none)
  where
    by_blocks : (blocks : List Block) → length blocks ≡ 0 → ones_complement (0 + more) ≡ ones_complement (word_sum (joined (report (take 4 blocks))) + more)
    by_blocks [] none = refl
    by_blocks (block ∷ blocks) none = absurd (omega (arith, none))

pub report_words : (head : Head) (first words : ℕ) → head.flags.syn ≡ false → 0 < length head.blocks → length head.blocks ≤ 4 → first ≡ 1539 + 8 * length head.blocks
    → ((more : ℕ) → ones_complement (words + more) ≡ ones_complement (word_sum (block_octets head.blocks) + more))
    → (more : ℕ) → ones_complement (first + words + more) ≡ ones_complement (word_sum (joined (sent_options head)) + more)
report_words head first words syn some few is are more =
    rw (syn, take_all 4 head.blocks few) (by_blocks head.blocks some is are)
  where
    by_blocks : (blocks : List Block) → 0 < length blocks → first ≡ 1539 + 8 * length blocks
        → ((more : ℕ) → ones_complement (words + more) ≡ ones_complement (word_sum (block_octets blocks) + more))
        → ones_complement (first + words + more) ≡ ones_complement (word_sum (joined (report blocks)) + more)
    by_blocks [] some is are = absurd (omega (arith, some))
    by_blocks (block ∷ blocks) some is are =
        let all : List Block = block ∷ blocks in
        let sum : word_sum (joined (report all)) ≡ first + word_sum (block_octets all) = ap word_sum (report_octets block blocks) ∙ omega (arith, is) in
        let turned : first + words + more ≡ words + (first + more) = omega arith in
        let back : word_sum (block_octets all) + (first + more) ≡ word_sum (joined (report all)) + more = omega (arith, sum) in
        ap ones_complement turned ∙ are (first + more) ∙ ap ones_complement back

-- the header and the payload, whose sum is known
pub words_with_payload : (head : Head) (payload : List ℕ) (words sum : ℕ)
    → ((more : ℕ) → ones_complement (words + more) ≡ ones_complement (word_sum (sent_with head [] 0) + more))
    → sum ≡ sum_of payload → ones_complement (words + sum) ≡ sum_of (sent_with head payload 0)
words_with_payload head payload words sum are is_sum =
    let header : ℕ = word_sum (sent_with head [] 0) in
    let even : length (sent_with head [] 0) ≡ 2 * (2 * sent_offset head) = sent_len head 0 ∙ omega arith in
    let both : word_sum (sent_with head payload 0) ≡ header + word_sum payload = ap word_sum (sent_before head payload 0) ∙ word_sum-append (sent_with head [] 0) (2 * sent_offset head) payload even in
    let turned : (a b : ℕ) → a + b ≡ b + a = λ a b. omega arith in
    are sum ∙ ap (λ (n : ℕ). ones_complement (header + n)) is_sum ∙ ap ones_complement (turned header (sum_of payload))
    ∙ ones_complement-add (sum_of payload) (word_sum payload) header (ones_complement-ones_complement (word_sum payload))
    ∙ ap ones_complement (turned (word_sum payload) header ∙ sym both)

-- The header is written with the checksum of the header with a checksum of zero and of the payload.
pub emitted : (src dst : Addr) (head : Head) (sum len : ℕ) (out new : List ℕ)
    → sum ≡ sum_of (summed_octets src dst (sent_with head (slice_range out (4 * sent_offset head) len) 0))
    → new ≡ sent_with head [] (65535 - sum) ++ drop (4 * sent_offset head) out
    → 4 * sent_offset head ≤ len
    → new ≡ sent_octets src dst head (slice_range out (4 * sent_offset head) len) ++ drop len out
unfolding sent_octets
emitted src dst head sum len out new is_sum is_new long =
    let header : ℕ = 4 * sent_offset head in
    let payload : List ℕ = slice_range out header len in
    let end : header + (len - header) ≡ len = omega arith in
    let parts : drop header out ≡ payload ++ drop len out =
    sym (take-append-drop (len - header) (drop header out))
    ∙ ap (λ (xs : List ℕ). payload ++ xs) (drop-drop (len - header) header out ∙ ap (λ (n : ℕ). drop n out) end) in
    is_new ∙ ap (λ (xs : List ℕ). sent_with head [] (65535 - sum) ++ xs) parts
    ∙ sym (append_assoc (sent_with head [] (65535 - sum)) payload (drop len out))
    ∙ ap (λ (xs : List ℕ). xs ++ drop len out) (sym (sent_before head payload (65535 - sum)))
    ∙ ap (λ (n : ℕ). sent_with head payload (65535 - n) ++ drop len out) is_sum

-- how many octets a payload has that stands behind a header
pub payload_len : (head : Head) (len : ℕ) (out : List ℕ) → 4 * sent_offset head + len ≤ length out
    → length (slice_range out (4 * sent_offset head) (4 * sent_offset head + len)) ≡ len
payload_len head len out room =
    omega (arith, length-take (4 * sent_offset head + len - 4 * sent_offset head) (drop (4 * sent_offset head) out), length-drop (4 * sent_offset head) out)
