-- One record: what is read of its octets, whole or cut.
use Rattle.std.proofs.Common.{◌≡◌, ℕ, ◌+◌, ◌-◌, ◌<◌, ◌≤◌, ◌^◌, ◌==◌, Bool, true, false, nat_lt, cond, List, ◌++◌, length, take, drop, Some, None, Ok, Err, arith, refl, ◌∙◌, ap, append_assoc, length-append}
use Rattle.std.proofs.lemmas.Bool.Decides.{nat_tests}
use Rattle.std.proofs.lemmas.List.{take_at, drop_at}
use Rattle.capture.specs.declared.fault.RecordFault.TheVariants.{CutHead, CutOctets}
use Rattle.capture.specs.declared.format.Order.{Order}
use Rattle.capture.specs.declared.header.Header.{Header}
use Rattle.capture.specs.Capture.{Entry, IsEntry, entry_head, entry_octets, number_in, number_octets}
use Rattle.capture.specs.Reading.{answer_in, entry_in, included_in, number_at, read_as, rest_behind, rest_in}
use Rattle.capture.proofs.Numbers.{behind, length-number, number_back}

-- a test that failed, and one that didn't
pub passed : {A : Type 0} (b : Bool) (x y : A) → b ≡ false → cond b x y ≡ y
passed b x y e = rw e refl

pub stopped : {A : Type 0} (b : Bool) (x y : A) → b ≡ true → cond b x y ≡ x
stopped b x y e = rw e refl

-- what is read where the head of a record stands at the front
pub record Begins (o : Order) (e : Entry) (octets body : List ℕ) : Type 0 where
  pub seconds : number_in o 4 octets ≡ e.seconds
  pub fraction : number_at o 4 4 octets ≡ e.fraction
  pub included : number_at o 4 8 octets ≡ length e.octets
  pub original : number_at o 4 12 octets ≡ e.original
  pub behind_head : drop 16 octets ≡ body
  pub len : length octets ≡ 16 + length body

-- four numbers of four octets each
four : (o : Order) (w x y z : ℕ) (e : Entry) (octets body : List ℕ) → octets ≡ number_octets o 4 w ++ (number_octets o 4 x ++ (number_octets o 4 y ++ (number_octets o 4 z ++ body)))
    → w < 2 ^ 32 → x < 2 ^ 32 → y < 2 ^ 32 → z < 2 ^ 32 → w ≡ e.seconds → x ≡ e.fraction → y ≡ length e.octets → z ≡ e.original → Begins o e octets body
four o w x y z e octets body is fits_w fits_x fits_y fits_z at_w at_x at_y at_z =
    let a : List ℕ = number_octets o 4 w in
    let b : List ℕ = number_octets o 4 x in
    let c : List ℕ = number_octets o 4 y in
    let d : List ℕ = number_octets o 4 z in
    let at4 : drop 4 octets ≡ b ++ (c ++ (d ++ body)) = ap (drop 4) is ∙ drop_at a (b ++ (c ++ (d ++ body))) 4 (length-number o 4 w) in
    let at8 : drop 8 octets ≡ c ++ (d ++ body) = behind 4 4 octets b (c ++ (d ++ body)) at4 (length-number o 4 x) in
    let at12 : drop 12 octets ≡ d ++ body = behind 8 4 octets c (d ++ body) at8 (length-number o 4 y) in
    let at16 : drop 16 octets ≡ body = behind 12 4 octets d body at12 (length-number o 4 z) in
    let len : length octets ≡ 16 + length body = ap length is
    ∙ omega (arith, length-append a (b ++ (c ++ (d ++ body))), length-append b (c ++ (d ++ body)), length-append c (d ++ body), length-append d body, length-number o 4 w, length-number o 4 x, length-number o 4 y, length-number o 4 z) in
    record {
      seconds = ap (number_in o 4) is ∙ (number_back o 4 w (b ++ (c ++ (d ++ body))) (omega (arith, fits_w)) ∙ at_w);
      fraction = ap (number_in o 4) at4 ∙ (number_back o 4 x (c ++ (d ++ body)) (omega (arith, fits_x)) ∙ at_x);
      included = ap (number_in o 4) at8 ∙ (number_back o 4 y (d ++ body) (omega (arith, fits_y)) ∙ at_y);
      original = ap (number_in o 4) at12 ∙ (number_back o 4 z body (omega (arith, fits_z)) ∙ at_z);
      behind_head = at16;
      len = len;
    }

-- the head of a record, and anything behind it
pub begins : (o : Order) (e : Entry) (body : List ℕ) → IsEntry e → Begins o e (entry_head o e ++ body) body
begins o e body is =
    let regrouped : entry_head o e ++ body ≡ number_octets o 4 e.seconds ++ (number_octets o 4 e.fraction ++ (number_octets o 4 (length e.octets) ++ (number_octets o 4 e.original ++ body))) = simp append_assoc in
    four o e.seconds e.fraction (length e.octets) e.original e (entry_head o e ++ body) body regrouped is.seconds is.fraction (omega (arith, is.included)) is.original refl refl refl refl

-- a whole record at the front is read, and what stands behind it is left
pub record IsStep (h : Header) (e : Entry) (octets rest : List ℕ) : Type 0 where
  pub answer : answer_in h octets ≡ Some (Ok (read_as h e))
  pub left : rest_in h octets ≡ rest

-- an entry by its parts
abbrev made : ℕ → ℕ → ℕ → List ℕ → Entry
made seconds fraction original octets = record { seconds = seconds; fraction = fraction; original = original; octets = octets }

-- tests that do not stop a whole record
whole_answer : (h : Header) (octets : List ℕ) (n : ℕ) → included_in h octets ≡ n → n ≤ 262144 → 16 + n ≤ length octets
    → answer_in h octets ≡ Some (Ok (read_as h (entry_in h octets)))
whole_answer h octets n is most room =
    let t0 : (length octets == 0) ≡ false = grind (arith, nat_tests, room) in
    let t1 : nat_lt (length octets) 16 ≡ false = grind (arith, nat_tests, room) in
    let t2 : nat_lt 262144 (included_in h octets) ≡ false = grind (arith, nat_tests, is, most) in
    let t3 : nat_lt (length octets) (16 + included_in h octets) ≡ false = grind (arith, nat_tests, is, room) in
    passed _ _ _ t0 ∙ (passed _ _ _ t1 ∙ (passed _ _ _ t2 ∙ passed _ _ _ t3))

pub step : (h : Header) (e : Entry) (rest : List ℕ) → IsEntry e → IsStep h e (entry_octets h.format.order e ++ rest) rest
step h e rest is =
    let o : Order = h.format.order in
    let octets : List ℕ = entry_head o e ++ (e.octets ++ rest) in
    let facts : Begins o e octets (e.octets ++ rest) = begins o e (e.octets ++ rest) is in
    let regrouped : entry_octets o e ++ rest ≡ octets = append_assoc (entry_head o e) e.octets rest in
    let included : included_in h octets ≡ length e.octets = facts.included in
    let body : take (included_in h octets) (drop 16 octets) ≡ e.octets =
    ap (λ n. take n (drop 16 octets)) included ∙ (ap (take (length e.octets)) facts.behind_head ∙ take_at e.octets rest (length e.octets) refl) in
    let entry : entry_in h octets ≡ e =
    ap (λ s. made s (number_at o 4 4 octets) (number_at o 4 12 octets) (take (included_in h octets) (drop 16 octets))) facts.seconds
    ∙ (ap (λ f. made e.seconds f (number_at o 4 12 octets) (take (included_in h octets) (drop 16 octets))) facts.fraction
    ∙ (ap (λ n. made e.seconds e.fraction n (take (included_in h octets) (drop 16 octets))) facts.original
    ∙ ap (made e.seconds e.fraction e.original) body)) in
    let room : 16 + length e.octets ≤ length octets = omega (arith, facts.len, length-append e.octets rest) in
    let answer : answer_in h octets ≡ Some (Ok (read_as h e)) =
    whole_answer h octets (length e.octets) included is.included room ∙ ap (λ x. Some (Ok (read_as h x))) entry in
    let left : rest_in h octets ≡ rest =
    ap (λ a. rest_behind (included_in h octets) a octets) answer
    ∙ (ap (λ n. drop (16 + n) octets) included ∙ behind 16 (length e.octets) octets e.octets rest facts.behind_head refl) in
    record {
      answer = ap (answer_in h) regrouped ∙ answer;
      left = ap (rest_in h) regrouped ∙ left;
    }

-- nothing is left
pub ended : (h : Header) (octets : List ℕ) → length octets ≡ 0 → answer_in h octets ≡ None
ended h octets none =
    let t0 : (length octets == 0) ≡ true = grind (arith, nat_tests, none) in
    stopped _ _ _ t0

-- fewer octets than a head
pub cut_in_head : (h : Header) (octets : List ℕ) (n : ℕ) → length octets ≡ n → 0 < n → n < 16 → answer_in h octets ≡ Some (Err (CutHead (16 - n)))
cut_in_head h octets n is some few =
    let t0 : (length octets == 0) ≡ false = grind (arith, nat_tests, is, some) in
    let t1 : nat_lt (length octets) 16 ≡ true = grind (arith, nat_tests, is, few) in
    passed _ _ _ t0 ∙ (stopped _ _ _ t1 ∙ ap (λ m. Some (Err (CutHead (16 - m)))) is)

-- a head, and fewer octets than it tells
pub cut_behind_head : (h : Header) (e : Entry) (body : List ℕ) (n : ℕ) → IsEntry e → n ≡ 16 + length body → length body < length e.octets
    → answer_in h (entry_head h.format.order e ++ body) ≡ Some (Err (CutOctets (16 + length e.octets - n)))
cut_behind_head h e body n is same few =
    let o : Order = h.format.order in
    let octets : List ℕ = entry_head o e ++ body in
    let facts : Begins o e octets body = begins o e body is in
    let included : included_in h octets ≡ length e.octets = facts.included in
    let len : length octets ≡ n = omega (arith, facts.len, same) in
    let t0 : (length octets == 0) ≡ false = grind (arith, nat_tests, facts.len) in
    let t1 : nat_lt (length octets) 16 ≡ false = grind (arith, nat_tests, facts.len) in
    let t2 : nat_lt 262144 (included_in h octets) ≡ false = grind (arith, nat_tests, included, is.included) in
    let t3 : nat_lt (length octets) (16 + included_in h octets) ≡ true = grind (arith, nat_tests, included, facts.len, few) in
    passed _ _ _ t0 ∙ (passed _ _ _ t1 ∙ (passed _ _ _ t2 ∙ (stopped _ _ _ t3
    ∙ (ap (λ m. Some (Err (CutOctets (16 + m - length octets)))) included ∙ ap (λ m. Some (Err (CutOctets (16 + length e.octets - m)))) len))))
