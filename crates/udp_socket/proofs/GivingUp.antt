-- Each outgoing datagram in turn goes behind the others or is given up, so those that are left stand in order again.
use Rattle.std.proofs.Common.{◌≡◌, ℕ, zero, suc, ◌+◌, ◌<◌, ◌≤◌, ◌||◌, Bool, true, false, not, List, [], ◌∷◌, ◌++◌, length, take, drop, filter, cond, refl, sym, ◌∙◌, ap, subst, arith}
use Rattle.std.specs.List.{list_any}
use Rattle.std.proofs.lemmas.List.{append_assoc, length-drop, take_all, drop_all}
use Rattle.std.proofs.lemmas.List.Elements.{filter-append}
use Rattle.std.proofs.Math.Seq.{take-add}
use Rattle.clock.specs.declared.moment.Moment.{Moment}
use Rattle.ipv4.specs.declared.addr.Addr.{Addr}
use Rattle.udp.specs.Waiting.{Waiting}
use Rattle.udp.specs.Fragments.{count_of}
use Rattle.udp_socket.specs.declared.tag.Tag.{Tag}
use Rattle.udp_socket.specs.SocketView.{Outgoing, SocketView}
use Rattle.udp_socket.specs.Stored.{outgoing, outgoing_of, AreBeside, ArePartsOf, first_if}
use Rattle.udp_socket.specs.Waits.{is_given_up, parts_left, after_giving_up}
use Rattle.udp_socket.proofs.Lost.{no_parts}

-- a datagram that stays
abbrev pub stays : (Addr → Bool) → Moment → Outgoing → Bool
stays test now o = not (is_given_up test now o)

pub length-out : (tags : List Tag) (items : List Waiting) → AreBeside tags items → length (outgoing_of tags items) ≡ length tags
length-out [] items beside = refl
length-out (tag ∷ tags) [] beside = absurd beside
length-out (tag ∷ tags) (item ∷ items) beside = omega (arith, length-out tags items beside.2)

-- one that isn't given up stays before the rest
kept_before : (test : Addr → Bool) (now : Moment) (o : Outgoing) (os rest : List Outgoing) → is_given_up test now o ≡ false → filter (stays test now) os ≡ rest
    → filter (stays test now) (o ∷ os) ≡ o ∷ rest
kept_before test now o os rest is same = rw is (ap (λ (xs : List Outgoing). o ∷ xs) same)

none_of : (a b : Bool) → (a || b) ≡ false → (a ≡ false) × (b ≡ false)
none_of true b none = cc
none_of false b none = (refl, none)

-- none is given up, so all stay
all_stay : (test : Addr → Bool) (now : Moment) (os : List Outgoing) → list_any (is_given_up test now) os ≡ false → filter (stays test now) os ≡ os
all_stay test now [] none = refl
all_stay test now (o ∷ os) none =
    let parts = none_of (is_given_up test now o) (list_any (is_given_up test now) os) none in
    kept_before test now o os os parts.0 (all_stay test now os parts.1)

first_parts : (test : Addr → Bool) (now : Moment) (os : List Outgoing) (parts : ℕ) → (length os ≡ 0 → parts ≡ 0) → list_any (is_given_up test now) os ≡ false
    → parts_left test now os parts ≡ parts
first_parts test now [] parts none_left none = refl
first_parts test now (o ∷ os) parts none_left none =
    let first = (none_of (is_given_up test now o) (list_any (is_given_up test now) os) none).0 in rw first refl

pub none_given_up : (test : Addr → Bool) (now : Moment) (s : SocketView) → (length s.outbox ≡ 0 → s.parts ≡ 0) → list_any (is_given_up test now) s.outbox ≡ false
    → s ≡ after_giving_up s test now
none_given_up test now s none_left none =
    ap (λ (os : List Outgoing). let x : SocketView = record s { outbox = os } in x) (sym (all_stay test now s.outbox none))
    ∙ ap (λ (n : ℕ). let x : SocketView = record s { outbox = filter (stays test now) s.outbox; parts = n } in x) (sym (first_parts test now s.outbox s.parts none_left none))

-- one more goes behind the others
drop_none : (n : ℕ) → drop {A = Outgoing} n [] ≡ []
drop_none zero = refl
drop_none (suc n) = refl

drop_step : (xs : List Outgoing) (i : ℕ) → drop 1 (drop i xs) ≡ drop (i + 1) xs
drop_step [] i = ap (λ (os : List Outgoing). drop 1 os) (drop_none i) ∙ sym (drop_none (i + 1))
drop_step (x ∷ xs) zero = refl
drop_step (x ∷ xs) (suc i) = let next : suc (i + 1) ≡ suc i + 1 = omega arith in drop_step xs i ∙ ap (λ (n : ℕ). drop n (x ∷ xs)) next

front_left : (xs zs : List Outgoing) → 0 < length xs → (drop 1 (xs ++ zs) ≡ drop 1 xs ++ zs) × (take 1 (xs ++ zs) ≡ take 1 xs)
front_left [] zs some = absurd (omega (arith, some))
front_left (x ∷ xs) zs some = (refl, refl)

pub passed : (xs zs ys : List Outgoing) (i : ℕ) → i < length xs → drop 1 (drop i xs ++ zs) ++ ys ≡ drop (i + 1) xs ++ (zs ++ ys)
passed xs zs ys i below =
    let some : 0 < length (drop i xs) = omega (arith, length-drop i xs, below) in
    ap (λ (os : List Outgoing). os ++ ys) ((front_left (drop i xs) zs some).0 ∙ ap (λ (os : List Outgoing). os ++ zs) (drop_step xs i))
    ∙ append_assoc (drop (i + 1) xs) zs ys

pub front_is : (xs zs : List Outgoing) (i : ℕ) → i < length xs → take 1 (drop i xs ++ zs) ≡ take 1 (drop i xs)
front_is xs zs i below = (front_left (drop i xs) zs (omega (arith, length-drop i xs, below))).1

-- those that stay of one more
pub further : (keep : Outgoing → Bool) (xs : List Outgoing) (i : ℕ) → filter keep (take i xs) ++ filter keep (take 1 (drop i xs)) ≡ filter keep (take (i + 1) xs)
further keep xs i = sym (ap (filter keep) (take-add i 1 xs) ∙ filter-append keep (take i xs) (take 1 (drop i xs)))

pub at_end : (keep : Outgoing → Bool) (n : ℕ) (xs : List Outgoing) → length xs ≤ n → drop n xs ++ filter keep (take n xs) ≡ filter keep xs
at_end keep n xs past = ap (λ (os : List Outgoing). os ++ filter keep (take n xs)) (drop_all n xs past) ∙ ap (filter keep) (take_all n xs past)

pub none_before : (n : ℕ) (xs zs : List Outgoing) → length xs ≤ n → drop n xs ++ zs ≡ zs
none_before n xs zs past = ap (λ (os : List Outgoing). os ++ zs) (drop_all n xs past)

-- the first is that of the queue
first_octets_out : (tags : List Tag) (items : List Waiting) (o : Outgoing) (os : List Outgoing) (parts : ℕ) → AreBeside tags items → outgoing_of tags items ≡ o ∷ os
    → ArePartsOf items parts ≡ (parts < count_of (8 + length o.octets))
first_octets_out [] items o os parts beside is = cc
first_octets_out (tag ∷ tags) [] o os parts beside is = cc
first_octets_out (tag ∷ tags) (item ∷ items) o os parts beside is =
    let same : outgoing tag item ≡ o = cc in
    ap (λ (x : Outgoing). parts < count_of (8 + length x.octets)) same

-- as many fragments of it have gone out, where it stays
pub parts_stay : (tags after_tags : List Tag) (items after_items : List Waiting) (parts : ℕ) (kept : List Outgoing) → AreBeside tags items → AreBeside after_tags after_items
    → ArePartsOf items parts → outgoing_of after_tags after_items ≡ first_if true (outgoing_of tags items) ++ kept → ArePartsOf after_items parts
parts_stay [] after_tags [] after_items parts kept beside after are is = subst (ArePartsOf after_items) (sym are) (no_parts after_items)
parts_stay [] after_tags (w ∷ ws) after_items parts kept beside after are is = absurd beside
parts_stay (t ∷ ts) after_tags [] after_items parts kept beside after are is = absurd beside
parts_stay (t ∷ ts) after_tags (w ∷ ws) after_items parts kept beside after are is =
    subst (λ (T : Type 0). T) (sym (first_octets_out after_tags after_items (outgoing t w) kept parts after is)) are

-- what is told of the first
pub first_told : (test : Addr → Bool) (now : Moment) (os : List Outgoing) (parts : ℕ) (b : Bool) → (length os ≡ 0 → parts ≡ 0)
    → first_if b os ≡ filter (stays test now) (take 1 os) → cond b parts 0 ≡ parts_left test now os parts
first_told test now [] parts true none_left is = refl
first_told test now [] parts false none_left is = sym (none_left refl)
first_told test now (o ∷ os) parts b none_left is = by_test (is_given_up test now o) b refl is
  where
    by_test : (g b : Bool) → is_given_up test now o ≡ g → first_if b (o ∷ os) ≡ filter (stays test now) (o ∷ []) → cond b parts 0 ≡ parts_left test now (o ∷ os) parts
    by_test true true given is = absurd (let gone : filter (stays test now) (o ∷ []) ≡ [] = rw given refl in let no : o ∷ [] ≡ [] = is ∙ gone in cc)
    by_test true false given is = rw given refl
    by_test false true given is = rw given refl
    by_test false false given is = absurd (let kept : filter (stays test now) (o ∷ []) ≡ o ∷ [] = rw given refl in let no : [] ≡ o ∷ [] = is ∙ kept in cc)

pub no_parts_of_none : (tags : List Tag) (items : List Waiting) (inbox : List Waiting) (parts : ℕ) (s : SocketView) → AreBeside tags items → ArePartsOf items parts
    → record { inbox = inbox; outbox = outgoing_of tags items; parts = parts } ≡ s → length s.outbox ≡ 0 → s.parts ≡ 0
no_parts_of_none [] [] inbox parts s beside are seen none = ap (λ (x : SocketView). x.parts) (sym seen) ∙ are
no_parts_of_none [] (w ∷ ws) inbox parts s beside are seen none = absurd beside
no_parts_of_none (t ∷ ts) [] inbox parts s beside are seen none = absurd beside
no_parts_of_none (t ∷ ts) (w ∷ ws) inbox parts s beside are seen none = absurd (let some = ap (λ (x : SocketView). length x.outbox) seen in omega (arith, some, none))
