-- What only a probe took stays so while nothing behind it goes out.
use Rattle.std.proofs.Common.{◌≡◌, ℕ, ◌+◌, ◌%◌, ◌^◌, ◌<◌, ◌==◌, ◌||◌, ◌&&◌, not, nat_le, Bool, true, false, arith, refl, sym, ◌∙◌, ap}
use Rattle.std.proofs.lemmas.Bool.{leb-true}
use Rattle.tcp_segment.specs.Wire.{past}
use Rattle.tcp_halves.specs.Halves.{Sending}
use Rattle.tcp_halves.specs.Stream.{outstanding, after_sent}
use Rattle.tcp_halves.proofs.Choices.{either, by, and_left, and_right}

pub next_stays : (s : Sending) (count : ℕ) → s.una < 2 ^ 32 → s.nxt < 2 ^ 32 → nat_le (past ((s.una + count) % 2 ^ 32) s.una) (outstanding s) ≡ true → (after_sent s count).nxt ≡ s.nxt
next_stays s count una nxt within =
    let end = (s.una + count) % 2 ^ 32 in
    let less = leb-true (past end s.una) (outstanding s) within in
    either ℕ (λ n. n ≡ s.nxt) (nat_le (past s.nxt s.una) (past end s.una)) end s.nxt
    (λ le. let order = leb-true (past s.nxt s.una) (past end s.una) le in omega (arith, order, less, una, nxt)) (λ lt. refl)

pub still_probed : (s : Sending) (count : ℕ) (closed opening : Bool) → s.una < 2 ^ 32 → s.nxt < 2 ^ 32 → (s.probed && not closed && (opening || not (outstanding s == 1))) ≡ false
    → (let t = after_sent s count in t.probed && not closed && (opening || not (outstanding t == 1))) ≡ false
still_probed s count closed opening una nxt was =
    let t = after_sent s count in
    let within = nat_le (past ((s.una + count) % 2 ^ 32) s.una) (outstanding s) in
    by ((t.probed && not closed && (opening || not (outstanding t == 1))) ≡ false) (s.probed && within)
    (λ keeps.
    let same : outstanding t ≡ outstanding s = ap (λ n. past n s.una) (next_stays s count una nxt (and_right s.probed within keeps)) in
    ap (λ b. b && not closed && (opening || not (outstanding t == 1))) (keeps ∙ sym (and_left s.probed within keeps))
    ∙ (ap (λ n. s.probed && not closed && (opening || not (n == 1))) same ∙ was))
    (λ ends. ap (λ b. b && not closed && (opening || not (outstanding t == 1))) ends)
