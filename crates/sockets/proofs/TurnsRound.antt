-- Why the turn goes round: what waits stays in front of the entry that sent, until it sends.
use Rattle.std.proofs.Common.{◌≡◌, ◌≢◌, ◌⊎◌, inl, inr, ℕ, zero, suc, ◌<◌, ◌≤◌, nat_lt, Bool, true, false, cond, List, [], ◌∷◌, length, get_or, Option, Some, None, IfSome, option_map, refl, sym, ◌∙◌, ap, subst, arith}
use Rattle.std.specs.List.{find, list_any}
use Rattle.std.proofs.lemmas.Bool.Decides.{nat_tests}
use Rattle.clock.specs.declared.moment.Moment.{Moment}
use Rattle.ipv4.specs.declared.addr.Addr.{Addr}
use Rattle.sockets.specs.declared.entry.Entry.{Entry}
use Rattle.sockets.specs.declared.entry.SocketId.{SocketId}
use Rattle.sockets.specs.Causes.{Event, Emits, after_event}
use Rattle.sockets.specs.Emission.{Next, is_behind, in_turn, after_segment_sent}
use Rattle.sockets.specs.Entries.{sends}
use Rattle.sockets.specs.Ids.{AreAscending}
use Rattle.sockets.specs.Offered.{AreAllowed}
use Rattle.sockets.specs.Order.{IsOrdered}
use Rattle.sockets.specs.SocketsView.{SocketsView}
use Rattle.sockets.specs.Turns.{sender, HasSegment, emission_of, IsPassedOver, KeepsStill}
use Rattle.sockets.proofs.Ascending.{ascends_above}
use Rattle.sockets.proofs.Emitting.{found_due, next-found, next-none, segment_sent-found, segment_sent-none}
use Rattle.sockets.proofs.Followed.{by_test}
use Rattle.sockets.proofs.InTurn.{later, turn_behind, turn_misses, turn_round, one_behind}
use Rattle.sockets.proofs.Opened.{found_passes}
use Rattle.sockets.proofs.Ordered.{stays_ordered}
use Rattle.sockets.proofs.Steps.{IsStepped, followed, joined, stepped}

-- In the order of turns, behind this id, the one comes before the other.
abbrev pub IsBefore : ℕ → ℕ → ℕ → Type 0
IsBefore turn a b = ((turn < a) × (a < b)) ⊎ (((turn < a) × (b ≤ turn)) ⊎ ((a < b) × (b ≤ turn)))

below : (a b : ℕ) → a ≤ b → (a ≡ b → ⊥) → a < b
below a b most other = by_test (nat_lt a b) (λ less. grind (arith, nat_tests)) (λ not_less. let same : a ≡ b = grind (arith, nat_tests) in absurd (other same))

-- the turn goes on to one that comes no later than what waits
goes_on : (turn waiting first next : ℕ) → IsBefore turn waiting first → (next ≡ waiting → ⊥) → (turn < waiting → (turn < next) × (next ≤ waiting)) → (waiting ≤ turn → (turn < next) ⊎ (next ≤ waiting))
    → (next ≡ first → ⊥) × IsBefore next waiting first
goes_on turn waiting first next (inl ahead) other behind round =
    let at = behind ahead.0 in
    let less : next < waiting = below next waiting at.1 other in
    (λ same. absurd (omega (arith, same, less, ahead.1)), inl (less, ahead.1))
goes_on turn waiting first next (inr (inl ahead)) other behind round =
    let at = behind ahead.0 in
    let less : next < waiting = below next waiting at.1 other in
    (λ same. absurd (omega (arith, same, at.0, ahead.1)), inr (inl (less, omega (arith, at.0, ahead.1))))
goes_on turn waiting first next (inr (inr ahead)) other behind round = elim (round (omega (arith, ahead.0, ahead.1))) [
  | inl past ↦ (λ same. absurd (omega (arith, same, past, ahead.1)), inr (inr (ahead.0, omega (arith, past, ahead.1))))
  | inr most ↦ let less : next < waiting = below next waiting most other in (λ same. absurd (omega (arith, same, less, ahead.0)), inl (less, ahead.0))
]

-- the first that passes has the least id
least_found : (p : Entry → Bool) (a last : ℕ) (xs : List Entry) (z : Entry) → AreAscending a last xs → find p xs ≡ Some z → (k : ℕ) (d : Entry) → k < length xs → p (get_or xs k d) ≡ true → z.id.0 ≤ (get_or xs k d).id.0
least_found p a last [] z ids found k d within passes = absurd (omega (arith, within))
least_found p a last (x ∷ xs) z ids found k d within passes = by_first (p x) refl found k within passes (λ at n high goes. least_found p x.id.0 last xs z ids.1 at n d high goes)
  where
    by_first : (b : Bool) → p x ≡ b → cond b (Some x) (find p xs) ≡ Some z → (k : ℕ) → k < length (x ∷ xs) → p (get_or (x ∷ xs) k d) ≡ true → (find p xs ≡ Some z → (n : ℕ) → n < length xs → p (get_or xs n d) ≡ true → z.id.0 ≤ (get_or xs n d).id.0)
        → z.id.0 ≤ (get_or (x ∷ xs) k d).id.0
    by_first true is at zero within passes later = let same : x ≡ z = cc in let ids : x.id.0 ≡ z.id.0 = ap (λ (e : Entry). e.id.0) same in omega (arith, ids)
    by_first true is at (suc n) within passes later =
        let same : x ≡ z = cc in
        let first : x.id.0 ≡ z.id.0 = ap (λ (e : Entry). e.id.0) same in
        let above : x.id.0 < (get_or xs n d).id.0 = ascends_above x.id.0 last xs n d ids.1 (omega (arith, within)) in
        omega (arith, first, above)
    by_first false is at zero within passes later = let bad : true ≡ false = sym passes ∙ is in cc
    by_first false is at (suc n) within passes later = later at n (omega (arith, within)) passes

module _ (h : SocketsView) (goes : Addr → Bool) (o : IsOrdered h) (z : Entry) (found : find (in_turn h (sends goes)) h.entries ≡ Some z) (k : ℕ) (y : Entry) (within : k < length h.entries) (at : get_or h.entries k y ≡ y) (sends_it : sends goes y ≡ true) where
  has_turn : in_turn h (sends goes) z ≡ true
  has_turn = found_passes (in_turn h (sends goes)) h.entries z found

  no_later : in_turn h (sends goes) y ≡ true → z.id.0 ≤ y.id.0
  no_later turn =
      let least = least_found (in_turn h (sends goes)) 0 h.last_id h.entries z o.ids found k y within (ap (in_turn h (sends goes)) at ∙ turn) in
      let same : (get_or h.entries k y).id.0 ≡ y.id.0 = ap (λ (e : Entry). e.id.0) at in
      omega (arith, least, same)

  -- what goes next stands behind where what waits does, and no further; and no further than it, or behind, where that stands in front
  next_behind : is_behind h y ≡ true → (is_behind h z ≡ true) × (z.id.0 ≤ y.id.0)
  next_behind behind = (
    by_test (is_behind h z) (λ past. past)
        (λ front. let misses : in_turn h (sends goes) z ≡ false = turn_misses h (sends goes) z front (one_behind h (sends goes) k y within (sym at) sends_it behind) in let bad : true ≡ false = sym has_turn ∙ misses in cc),
    no_later (turn_behind h (sends goes) y sends_it behind),
  )

  next_round : is_behind h y ≡ false → (is_behind h z ≡ true) ⊎ (z.id.0 ≤ y.id.0)
  next_round front =
      by_test (is_behind h z) (λ past. inl past)
      (λ ahead. by_test (list_any (later h (sends goes)) h.entries)
      (λ some. let misses : in_turn h (sends goes) z ≡ false = turn_misses h (sends goes) z ahead some in let bad : true ≡ false = sym has_turn ∙ misses in cc)
      (λ none. inr (no_later (turn_round h (sends goes) y sends_it none))))

-- whose turn it is sends, and is the one that sent last then
pub sender_is : (h : SocketsView) (goes : Addr → Bool) (z : Entry) → find (in_turn h (sends goes)) h.entries ≡ Some z → sender h goes ≡ Some z.id
sender_is h goes z found = let due = found_due h goes z found in ap (λ (o : Option Next). option_map (λ (n : Next). n.entry.id) o) (next-found h goes z due.0 found due.1)

pub sender_none : (h : SocketsView) (goes : Addr → Bool) → find (in_turn h (sends goes)) h.entries ≡ None → sender h goes ≡ None
sender_none h goes none = ap (λ (o : Option Next). option_map (λ (n : Next). n.entry.id) o) (next-none h goes none)

pub turn_after : (h : SocketsView) (goes : Addr → Bool) (now : Moment) (z : Entry) → find (in_turn h (sends goes)) h.entries ≡ Some z → (let after = after_segment_sent h goes now in after.turn) ≡ z.id
turn_after h goes now z found = let due = found_due h goes z found in ap (λ (w : SocketsView). w.turn) (segment_sent-found h goes now z due.0 found due.1)

-- nothing but an emission moves it
pub turn_kept : (h : SocketsView) (e : Event) (w : SocketsView) → emission_of e ≡ None → IsStepped h e w → w.turn ≡ h.turn
turn_kept h e w none (followed f) = f.turn none
turn_kept h e _ none (joined j) = refl

module _ (first waiting : SocketId) where
  -- what waits comes before the one that sent first, or is the same
  abbrev pub IsAhead : ℕ → Type 0
  IsAhead turn = (waiting ≡ first) ⊎ IsBefore turn waiting.0 first.0

  pub passes : (h : SocketsView) (goes : Addr → Bool) (now : Moment) → IsOrdered h → IsAhead h.turn.0 → HasSegment waiting h goes → sender h goes ≢ Some waiting → (sender h goes ≢ Some first) × IsAhead (let after = after_segment_sent h goes now in after.turn.0)
  passes h goes now o ahead has other = by_entry (find (in_turn h (sends goes)) h.entries) refl
    where
      by_entry : (x : Option Entry) → find (in_turn h (sends goes)) h.entries ≡ x → (sender h goes ≢ Some first) × IsAhead (let after = after_segment_sent h goes now in after.turn.0)
      by_entry None found =
          let nobody = sender_none h goes found in
          (λ is. let bad : ◌≡◌ {A = Option SocketId} None (Some first) = sym nobody ∙ is in cc, subst (λ (w : SocketsView). IsAhead w.turn.0) (sym (segment_sent-none h goes now found)) ahead)
      by_entry (Some z) found =
          let is : sender h goes ≡ Some z.id = sender_is h goes z found in
          let not_it : z.id.0 ≡ waiting.0 → ⊥ = λ same. other (is ∙ ap (λ (n : ℕ). let i : SocketId = record { 0 = n } in Some i) same) in
          let moved : ℕ → Type 0 = λ n. IsAhead n in
          let at : (let after = after_segment_sent h goes now in after.turn.0) ≡ z.id.0 = ap (λ (i : SocketId). i.0) (turn_after h goes now z found) in
          elim ahead [
            | inl same ↦ (λ first_is. other (first_is ∙ ap (λ (i : SocketId). Some i) (sym same)), inl same)
            | inr before ↦
                let y : Entry = has.0 in
                let id : y.id.0 ≡ waiting.0 = ap (λ (i : SocketId). i.0) has.2 in
                let on = goes_on h.turn.0 waiting.0 first.0 z.id.0 before not_it
                (λ behind. let x = next_behind h goes o z found has.1.0 y has.1.1 has.1.2 has.3 (let less : h.turn.0 < y.id.0 = omega (arith, behind, id) in grind (arith, nat_tests)) in
                let more : nat_lt h.turn.0 z.id.0 ≡ true = x.0 in (grind (arith, nat_tests), omega (arith, x.1, id)))
                (λ front. elim (next_round h goes o z found has.1.0 y has.1.1 has.1.2 has.3 (let less : y.id.0 ≤ h.turn.0 = omega (arith, front, id) in grind (arith, nat_tests))) [
                  | inl past ↦ let more : nat_lt h.turn.0 z.id.0 ≡ true = past in inl (grind (arith, nat_tests))
                  | inr most ↦ inr (omega (arith, most, id))
                ])
                in
                (λ first_is. on.0 (let same : Some z.id ≡ Some first = sym is ∙ first_is in let ids : z.id ≡ first = cc in ap (λ (i : SocketId). i.0) ids), subst moved (sym at) (inr on.1))
          ]

  -- over one event
  one : (h : SocketsView) (e : Event) → IsOrdered h → IsAhead h.turn.0 → IfSome (emission_of e) (λ goes. HasSegment waiting h goes × (sender h goes ≢ Some waiting))
      → IfSome (emission_of e) (λ goes. sender h goes ≢ Some first) × IsAhead (let after = after_event h e in after.turn.0)
  one h (Emits goes now) o ahead passed = passes h goes now o ahead passed.0 passed.1
  one h e o ahead passed = (tt, subst (λ (i : SocketId). IsAhead i.0) (sym (turn_kept h e (after_event h e) refl (stepped h e))) ahead)

  -- and over all
  keeps : (h : SocketsView) (events : List Event) → IsOrdered h → IsAhead h.turn.0 → AreAllowed h events → IsPassedOver waiting h events → KeepsStill first h events
  keeps h [] o ahead allowed passed = tt
  keeps h (e ∷ rest) o ahead allowed passed =
      let step = one h e o ahead passed.0 in
      (step.0, keeps (after_event h e) rest (stays_ordered h e allowed.0 o) step.1 allowed.1 passed.1)

  -- the one that sent is the last in the order of turns
  pub begins : IsAhead first.0
  begins =
      by_test (nat_lt waiting.0 first.0) (λ less. inr (inr (inr (grind (arith, nat_tests), omega arith))))
      (λ most. by_test (nat_lt first.0 waiting.0) (λ more. inr (inr (inl (grind (arith, nat_tests), omega arith))))
      (λ least. let same : waiting.0 ≡ first.0 = grind (arith, nat_tests) in inl (ap (λ (n : ℕ). let i : SocketId = record { 0 = n } in i) same)))

pub goes_round : (h : SocketsView) (goes : Addr → Bool) (now : Moment) (first waiting : SocketId) (events : List Event) → IsOrdered h → sender h goes ≡ Some first
    → (let sent = after_event h (Emits goes now) in AreAllowed sent events → IsPassedOver waiting sent events → KeepsStill first sent events)
goes_round h goes now first waiting events o is allowed passed = by_entry (find (in_turn h (sends goes)) h.entries) refl
  where
    by_entry : (x : Option Entry) → find (in_turn h (sends goes)) h.entries ≡ x → KeepsStill first (after_event h (Emits goes now)) events
    by_entry None found = let bad : ◌≡◌ {A = Option SocketId} None (Some first) = sym (sender_none h goes found) ∙ is in cc
    by_entry (Some z) found =
        let same : Some z.id ≡ Some first = sym (sender_is h goes z found) ∙ is in
        let ids : z.id ≡ first = cc in
        keeps first waiting (after_event h (Emits goes now)) events (stays_ordered h (Emits goes now) tt o)
        (subst (λ (i : SocketId). IsAhead first waiting i.0) (sym (turn_after h goes now z found ∙ ids)) (begins first waiting)) allowed passed
