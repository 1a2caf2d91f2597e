-- All pairs of open ends at once: how much each has left.
use Rattle.std.proofs.Common.{◌≡◌, inl, inr, ℕ, ◌+◌, ◌<◌, ◌≤◌, ◌^◌, true, false, if◌then◌else◌, List, [], ◌∷◌, ◌++◌, Option, arith, refl, sym, ◌∙◌, ap, subst}
use Rattle.std.specs.List.{AllByRecursion}
use Rattle.ipv4.specs.declared.addr.Endpoint.{Endpoint}
use Rattle.ipv4.specs.Addresses.{pair_of}
use Rattle.ipv4.proofs.Pairs.{pair_of-swapped}
use Rattle.tcp_state.specs.View.{View}
use Rattle.sockets.specs.declared.entry.SocketId.{SocketId}
use Rattle.host.specs.Sound.{IsSoundHost}
use Rattle.sides.specs.declared.side.Side.{Side}
use Rattle.sides.specs.declared.side.Side.TheVariants.{A, B}
use Rattle.sides.specs.Sides.{other_side}
use Rattle.wire_sim.specs.declared.event.Answer.TheVariants as reply
use Rattle.wire_sim.specs.declared.event.Event.TheVariants as event
use Rattle.wire_sim.specs.Duties.{AreEnds, Has}
use Rattle.wire_sim.specs.Runs.{IsStep}
use Rattle.wire_sim.specs.TwoEnds.{AreJoined}
use Rattle.wire_sim.specs.WorldView.{WorldView, host_of}
use Rattle.settling_law.specs.Hosts.{AreTogether, Ends, IsOneOf, IsUnreset, id_at}
use Rattle.settling_law.specs.Settling.{Course, Does, sends, speaks, resets, turned}
use Rattle.settling_law.proofs.Along.{Stands, Two, happens_there}
use Rattle.settling_law.proofs.Frames.{same_entry}
use Rattle.settling_law.proofs.Silent.{joined_two, stands_turned, two_turned}

-- the two ends under these ids, as the one side sees them, and how many acts they have left
pub record Stood (limit : ℕ) (hs ts : Side) (c : Course) (e : Ends) : Type 0 where
  pub local : Endpoint
  pub peer : Endpoint
  pub v : View
  pub d : View
  pub left : ℕ
  pub stands : Stands limit hs ts (id_at hs e) (id_at ts e) (pair_of local peer) local peer c v d left

abbrev pub AllStand : ℕ → Side → Side → Course → List Ends → Type 0
AllStand limit hs ts c all = AllByRecursion (Stood limit hs ts c) all

abbrev pub left_of : (limit : ℕ) (hs ts : Side) (c : Course) (all : List Ends) → AllStand limit hs ts c all → ℕ
left_of limit hs ts c [] stand = 0
left_of limit hs ts c (e ∷ rest) stand = stand.0.left + left_of limit hs ts c rest stand.1

-- a segment of the two goes out
abbrev spoken : (limit : ℕ) (hs ts : Side) (c : Course) (e : Ends) → Stood limit hs ts c e → ℕ
spoken limit hs ts c e s = if speaks (pair_of s.local s.peer) c.world hs then 1 else 0

abbrev pub spoken_of : (limit : ℕ) (hs ts : Side) (c : Course) (all : List Ends) → AllStand limit hs ts c all → ℕ
spoken_of limit hs ts c [] stand = 0
spoken_of limit hs ts c (e ∷ rest) stand = spoken limit hs ts c e stand.0 + spoken_of limit hs ts c rest stand.1

-- both stand in their tables
abbrev pub Twos : Side → Side → WorldView → Ends → Type 0
Twos hs ts w e = (v : View) × (d : View) × Two w hs ts (id_at hs e) (id_at ts e) v d

pub twos_at_a : (w : WorldView) (all : List Ends) → AllByRecursion (AreTogether w) all → AllByRecursion (Twos A B w) all
twos_at_a w [] together = tt
twos_at_a w (e ∷ rest) together = (let t = together.0 in (t.v, t.d, joined_two w A e.at_a e.at_b t.v t.d t.joined), twos_at_a w rest together.1)

pub twos_at_b : (w : WorldView) (all : List Ends) → AllByRecursion (AreTogether w) all → AllByRecursion (Twos B A w) all
twos_at_b w [] together = tt
twos_at_b w (e ∷ rest) together = (let t = together.0 in (t.d, t.v, two_turned w A B e.at_a e.at_b t.v t.d (joined_two w A e.at_a e.at_b t.v t.d t.joined)), twos_at_b w rest together.1)

-- as the other side sees them
abbrev pub stood_turned : (limit : ℕ) (hs ts : Side) (c : Course) (e : Ends) → Stood limit hs ts c e → Stood limit ts hs (turned c) e
stood_turned limit hs ts c e s = record { local = s.peer; peer = s.local; v = s.d; d = s.v; left = s.left; stands = subst (λ p. Stands limit ts hs (id_at ts e) (id_at hs e) p s.peer s.local (turned c) s.d s.v s.left) (sym (pair_of-swapped s.peer s.local)) (stands_turned limit hs ts (id_at hs e) (id_at ts e) (pair_of s.local s.peer) s.local s.peer c s.v s.d s.left s.stands) }

pub record AllTurned (limit : ℕ) (hs ts : Side) (c : Course) (all : List Ends) (left : ℕ) : Type 0 where
  pub stand : AllStand limit ts hs (turned c) all
  pub same : left_of limit ts hs (turned c) all stand ≡ left

pub all_turned : (limit : ℕ) (hs ts : Side) (c : Course) (all : List Ends) (stand : AllStand limit hs ts c all) → AllTurned limit hs ts c all (left_of limit hs ts c all stand)
all_turned limit hs ts c [] stand = record { stand = tt; same = refl }
all_turned limit hs ts c (e ∷ rest) stand =
    let t = all_turned limit hs ts c rest stand.1 in
    record { stand = (stood_turned limit hs ts c e stand.0, t.stand); same = (let s = t.same in ap (λ n. stand.0.left + n) s) }

-- no reset between the two goes out of the one
abbrev pub Unreset : Side → Side → WorldView → Ends → Type 0
Unreset hs ts w e = (v d : View) → Two w hs ts (id_at hs e) (id_at ts e) v d → AreEnds v d → speaks (pair_of v.local v.peer) w hs ≡ true → resets w hs ≡ false

two_joined : (w : WorldView) (e : Ends) (v d : View) → Two w A B e.at_a e.at_b v d → AreEnds v d → AreJoined w A e.at_a e.at_b v d
two_joined w e v d two ends = record { listener = two.listener; other_listener = two.other_listener; here = two.here; there = two.there; ends = ends; opened = two.opened; other_opened = two.other_opened }

pub unreset_at_a : (w : WorldView) (all : List Ends) → IsUnreset all w A → AllByRecursion (Unreset A B w) all
unreset_at_a w [] unreset = tt
unreset_at_a w (e ∷ rest) unreset = (λ v d two ends. unreset.0 v d (two_joined w e v d two ends), unreset_at_a w rest unreset.1)

pub unreset_at_b : (w : WorldView) (all : List Ends) → IsUnreset all w B → AllByRecursion (Unreset B A w) all
unreset_at_b w [] unreset = tt
unreset_at_b w (e ∷ rest) unreset = (first, unreset_at_b w rest unreset.1)
  where
    first : (v d : View) → Two w B A e.at_b e.at_a v d → AreEnds v d → speaks (pair_of v.local v.peer) w B ≡ true → resets w B ≡ false
    first v d two ends =
        let pair : pair_of d.local d.peer ≡ pair_of v.local v.peer = ap (λ x. pair_of x d.peer) ends.local ∙ (ap (λ x. pair_of v.peer x) ends.peer ∙ pair_of-swapped v.peer v.local) in
        subst (λ p. speaks p w B ≡ true → resets w B ≡ false) pair (unreset.0 d v (two_joined w e d v (two_turned w B A e.at_b e.at_a v d two) (record { local = sym ends.peer; peer = sym ends.local })))

module _ (limit : ℕ) (some : 0 < limit) (small : limit ≤ 2 ^ 30) (hs ts : Side) (opposite : ts ≡ other_side hs) where
  -- what becomes of the two ends
  record Next (c k : Course) (e : Ends) (s : Stood limit hs ts c e) (count : ℕ) : Type 0 where
    stood : Stood limit hs ts k e
    fewer : count + stood.left ≤ s.left

  next : (count : ℕ) (c k : Course) (e : Ends) (s : Stood limit hs ts c e) → Does hs (pair_of s.local s.peer) count c k → Twos hs ts k.world e → IsSoundHost (host_of k.world.network hs) → IsSoundHost (host_of k.world.network ts) → Next c k e s count
  next count c k e s does two near far =
      let l = happens_there limit some small hs ts opposite (id_at hs e) (id_at ts e) (pair_of s.local s.peer) s.local s.peer refl count c k does s.v s.d two.0 two.1 s.left s.stands two.2 near far in
      record { stood = record { local = s.local; peer = s.peer; v = two.0; d = two.1; left = l.after; stands = l.stands }; fewer = l.fewer }

  pub record AllNext (c k : Course) (all : List Ends) (left count : ℕ) : Type 0 where
    pub stand : AllStand limit hs ts k all
    pub fewer : count + left_of limit hs ts k all stand ≤ left

  -- nothing of them goes out
  pub quiet : (c k : Course) (all : List Ends) (stand : AllStand limit hs ts c all) → ((local peer : Endpoint) → Does hs (pair_of local peer) 0 c k) → AllByRecursion (Twos hs ts k.world) all → IsSoundHost (host_of k.world.network hs) → IsSoundHost (host_of k.world.network ts)
      → AllNext c k all (left_of limit hs ts c all stand) 0
  quiet c k [] stand does twos near far = record { stand = tt; fewer = omega arith }
  quiet c k (e ∷ rest) stand does twos near far =
      let n = next 0 c k e stand.0 (does stand.0.local stand.0.peer) twos.0 near far in
      let all = quiet c k rest stand.1 does twos.1 near far in
      record { stand = (n.stood, all.stand); fewer = (let f = n.fewer in let g = all.fewer in omega (arith, f, g)) }

  -- A frame goes out.
  module _ (c : Course) (index len : ℕ) (w : WorldView) (step : IsStep (event.Emit hs) (reply.Frame index len) c.world w) where
    abbrev k : Course
    k = record { world = w; out = c.out ++ index ∷ []; back = c.back }

    pub out : (all : List Ends) (stand : AllStand limit hs ts c all) → AllByRecursion (Unreset hs ts c.world) all
        → AllByRecursion (Twos hs ts w) all → IsSoundHost (host_of w.network hs) → IsSoundHost (host_of w.network ts) → AllNext c k all (left_of limit hs ts c all stand) (spoken_of limit hs ts c all stand)
    out [] stand unreset twos near far = record { stand = tt; fewer = omega arith }
    out (e ∷ rest) stand unreset twos near far =
        let s = stand.0 in
        let st = s.stands in
        let pair = ap (λ x. pair_of x s.v.peer) st.local_here ∙ ap (λ x. pair_of s.local x) st.peer_here in
        let plain : speaks (pair_of s.local s.peer) c.world hs ≡ true → resets c.world hs ≡ false = subst (λ p. speaks p c.world hs ≡ true → resets c.world hs ≡ false) pair (unreset.0 s.v s.d st.two (record { local = st.local_there ∙ sym st.peer_here; peer = st.peer_there ∙ sym st.local_here })) in
        let n = next (if speaks (pair_of s.local s.peer) c.world hs then 1 else 0) c k e s (sends c index len w step plain) twos.0 near far in
        let all = out rest stand.1 unreset.1 twos.1 near far in
        record { stand = (n.stood, all.stand); fewer = (let f = n.fewer in let g = all.fewer in omega (arith, f, g)) }

  -- a segment of a connection of theirs is one
  pub hit : (c : Course) (all : List Ends) (stand : AllStand limit hs ts c all) (id : SocketId) (listener : Option SocketId) (v : View) → IsOneOf all hs id → Has c.world hs id listener v → speaks (pair_of v.local v.peer) c.world hs ≡ true
      → 1 ≤ spoken_of limit hs ts c all stand
  hit c [] stand id listener v one has speaking = absurd one
  hit c (e ∷ rest) stand id listener v (inl same) has speaking =
      let s = stand.0 in
      let st = s.stands in
      let two = st.two in
      let has_own : Has c.world hs (id_at hs e) listener v = subst (λ n. Has c.world hs n listener v) same has in
      let own : v ≡ s.v = same_entry (id_at hs e) listener two.listener v s.v (sym has_own ∙ two.here) in
      let pair : pair_of v.local v.peer ≡ pair_of s.local s.peer = ap (λ (x : View). pair_of x.local x.peer) own ∙ (ap (λ x. pair_of x s.v.peer) st.local_here ∙ ap (λ x. pair_of s.local x) st.peer_here) in
      let one : spoken limit hs ts c e s ≡ 1 = ap (λ b. if b then 1 else 0) (sym (ap (λ p. speaks p c.world hs) pair) ∙ speaking) in
      omega (arith, one)
  hit c (e ∷ rest) stand id listener v (inr later) has speaking = omega (arith, hit c rest stand.1 id listener v later has speaking)
