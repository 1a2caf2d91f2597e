-- The checksum of a segment that is sent is right.
use Rattle.std.proofs.Common.{◌≡◌, ℕ, ◌+◌, ◌-◌, ◌*◌, ◌^◌, ◌<◌, ◌≤◌, Bool, true, false, List, [], ◌∷◌, ◌++◌, length, refl, sym, ◌∙◌, ap, arith}
use Rattle.byteorder.specs.Endian.{big_bytes}
use Rattle.inet_sum.specs.Sum.{word_sum, ones_complement, sum_of, checksum_of}
use Rattle.inet_sum.proofs.Complements.{with_complement, one_complement}
use Rattle.ipv4.specs.declared.addr.Addr.{Addr}
use Rattle.tcp_segment.specs.declared.blocks.Block.{Block}
use Rattle.tcp_segment.specs.declared.head.Head.{Head}
use Rattle.tcp_segment.specs.Options.{joined, AreOptions}
use Rattle.tcp_segment.specs.Segment.{HasForm, SumIsRight, Spells, spelling, summed_octets}
use Rattle.tcp_segment.specs.Sent.{CanBeSent, sent_blocks, sent_segment, sent_offset, sent_with, sent_octets}
use Rattle.tcp_segment.proofs.Sending.{most_offset, few_blocks, option_len, options_of, whole_len}
use Rattle.tcp_segment.proofs.BlockWords.{blocks_len}

-- what the checksum adds to the sum of the words
abbrev pseudo_before : List ℕ → List ℕ → ℕ → List ℕ → List ℕ
pseudo_before src dst len octets = (src ++ dst ++ 0 ∷ 6 ∷ [] ++ big_bytes 2 len) ++ octets

words : (src dst : List ℕ) (len : ℕ) (head : Head) (octets : List ℕ) (checksum : ℕ) → length src ≡ 4 → length dst ≡ 4 → checksum < 2 ^ 16
    → word_sum (pseudo_before src dst len (sent_with head octets checksum)) ≡ word_sum (pseudo_before src dst len (sent_with head octets 0)) + checksum
words (a ∷ b ∷ c ∷ d ∷ []) (e ∷ f ∷ g ∷ h ∷ []) len head octets checksum s t fits = omega arith
words _ _ len head octets checksum s t fits = absurd (omega arith)

-- what is summed, by its length
summed_is : (src dst : Addr) (head : Head) (octets : List ℕ) (checksum : ℕ)
    → summed_octets src dst (sent_with head octets checksum) ≡ pseudo_before src.0 dst.0 (4 * sent_offset head + length octets) (sent_with head octets checksum)
summed_is src dst head octets checksum =
    ap (λ (n : ℕ). pseudo_before src.0 dst.0 n (sent_with head octets checksum)) (whole_len head octets checksum)

sum_right : (src dst : Addr) (head : Head) (octets : List ℕ) → CanBeSent src dst head octets
    → sum_of (summed_octets src dst (sent_octets src dst head octets)) ≡ 65535
unfolding sent_octets
sum_right src dst head octets can =
    let len : ℕ = 4 * sent_offset head + length octets in
    let before : ℕ = word_sum (pseudo_before src.0 dst.0 len (sent_with head octets 0)) in
    let checksum : ℕ = checksum_of (summed_octets src dst (sent_with head octets 0)) in
    let fits : checksum < 2 ^ 16 = omega arith in
    let are = words src.0 dst.0 len head octets checksum can.src_octets can.dst_octets fits in
    let checksum_is : checksum ≡ 65535 - ones_complement before = ap checksum_of (summed_is src dst head octets 0) in
    let total : word_sum (pseudo_before src.0 dst.0 len (sent_with head octets checksum)) ≡ before + (65535 - ones_complement before) = omega (arith, are, checksum_is) in
    ap sum_of (summed_is src dst head octets checksum) ∙ ap ones_complement total ∙ with_complement before

-- the options that are sent
options_end : (syn scales sacks : Bool) (blocks : List Block) → length blocks ≤ 4 → AreOptions (options_of syn scales sacks blocks) []
options_end true true true blocks few = (omega arith, (tt, (omega arith, (tt, (tt, ((omega arith, omega arith, omega arith), refl))))))
options_end true true false blocks few = (omega arith, (tt, (omega arith, refl)))
options_end true false true blocks few = (omega arith, (tt, (tt, ((omega arith, omega arith, omega arith), refl))))
options_end true false false blocks few = (omega arith, refl)
options_end false scales sacks [] few = refl
options_end false scales sacks (block ∷ blocks) few = (tt, (tt, ((omega arith, omega arith, omega (arith, blocks_len (block ∷ blocks), few)), refl)))

-- what is sent spells the segment that is meant
pub sent_spelled : (src dst : Addr) (head : Head) (octets : List ℕ) → CanBeSent src dst head octets
    → Spells src dst (sent_segment head octets) (sent_octets src dst head octets)
unfolding sent_octets
sent_spelled src dst head octets can =
    let checksum : ℕ = checksum_of (summed_octets src dst (sent_with head octets 0)) in
    record {
      form = record {
        offset = sent_offset head;
        reserved = 0;
        checksum = checksum;
        padding = [];
        fields = can.fields;
        options = options_end head.flags.syn head.scales head.sacks (sent_blocks head) (few_blocks head);
        offset_fits = omega (arith, most_offset head);
        reserved_fits = omega arith;
        checksum_fits = omega arith;
        header = sym (option_len head);
        len = omega (arith, whole_len head octets checksum, can.len);
        spelled = refl;
      };
      sum = sum_right src dst head octets can;
    }

-- its length
pub sent_octets_len : (src dst : Addr) (head : Head) (octets : List ℕ) → length (sent_octets src dst head octets) ≡ 4 * sent_offset head + length octets
unfolding sent_octets
sent_octets_len src dst head octets = whole_len head octets (checksum_of (summed_octets src dst (sent_with head octets 0)))

-- nothing stands behind the options that are sent
no_padding : (syn scales sacks : Bool) (blocks : List Block) (padding : List ℕ) → AreOptions (options_of syn scales sacks blocks) padding → padding ≡ []
no_padding true true true blocks padding are = are.1.1.1.1.1.1
no_padding true true false blocks padding are = are.1.1.1
no_padding true false true blocks padding are = are.1.1.1.1
no_padding true false false blocks padding are = are.1
no_padding false scales sacks [] padding are = are
no_padding false scales sacks (block ∷ blocks) padding are = are.1.1.1

-- a spelling of what is sent, by its checksum
by_checksum : (head : Head) (octets xs : List ℕ) (form : HasForm (sent_segment head octets) xs) → form.reserved ≡ 0 → xs ≡ sent_with head octets form.checksum
by_checksum head octets xs form zeros =
    let segment = sent_segment head octets in
    let nothing : form.padding ≡ [] = no_padding head.flags.syn head.scales head.sacks (sent_blocks head) form.padding form.options in
    let area : length (joined segment.options ++ form.padding) ≡ length (joined segment.options ++ []) = ap (λ (ys : List ℕ). length (joined segment.options ++ ys)) nothing in
    let offset : form.offset ≡ sent_offset head = omega (arith, form.header, area, option_len head) in
    form.spelled
    ∙ ap (λ (n : ℕ). spelling segment n form.reserved form.checksum form.padding) offset
    ∙ ap (λ (n : ℕ). spelling segment (sent_offset head) n form.checksum form.padding) zeros
    ∙ ap (λ (ys : List ℕ). spelling segment (sent_offset head) 0 form.checksum ys) nothing

-- what is sent has one spelling
pub one_spelling : (src dst : Addr) (head : Head) (octets xs : List ℕ) (form : HasForm (sent_segment head octets) xs) → CanBeSent src dst head octets
    → SumIsRight src dst xs → form.reserved ≡ 0 → form.checksum < 65535 → xs ≡ sent_octets src dst head octets
unfolding sent_octets
one_spelling src dst head octets xs form can right zeros below =
    let len : ℕ = 4 * sent_offset head + length octets in
    let before : ℕ = word_sum (pseudo_before src.0 dst.0 len (sent_with head octets 0)) in
    let spelled = by_checksum head octets xs form zeros in
    let total : word_sum (summed_octets src dst xs) ≡ before + form.checksum =
    ap (λ (ys : List ℕ). word_sum (summed_octets src dst ys)) spelled ∙ ap word_sum (summed_is src dst head octets form.checksum)
    ∙ words src.0 dst.0 len head octets form.checksum can.src_octets can.dst_octets form.checksum_fits in
    let checksum_is : form.checksum ≡ 65535 - ones_complement before = one_complement before form.checksum below (sym (ap ones_complement total) ∙ right) in
    spelled ∙ ap (λ (n : ℕ). sent_with head octets n) (checksum_is ∙ sym (ap checksum_of (summed_is src dst head octets 0)))
