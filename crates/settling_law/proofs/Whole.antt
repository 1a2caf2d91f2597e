-- Two hosts that are left to themselves fall silent: what their open ends have left, what else the hosts have left, and what is on its way, falls with each frame that goes out.
use Rattle.std.proofs.Common.{◌≡◌, ℕ, ◌+◌, ◌*◌, ◌<◌, ◌≤◌, ◌^◌, List, [], ◌∷◌, ◌++◌, length, Some, None, arith, refl, sym, ◌∙◌, ap, subst}
use Rattle.std.specs.List.{AllByRecursion}
use Rattle.tcp_segment.specs.declared.seq.Seq.{Seq}
use Rattle.host.specs.Sound.{IsSoundHost}
use Rattle.silence_law.proofs.Silent.{most_of}
use Rattle.sides.specs.declared.side.Side.{Side}
use Rattle.sides.specs.declared.side.Side.TheVariants.{A, B}
use Rattle.sides.specs.Sides.{other_side}
use Rattle.wire_sim.specs.declared.event.Answer.{Answer}
use Rattle.wire_sim.specs.declared.event.Answer.TheVariants as reply
use Rattle.wire_sim.specs.declared.event.Event.TheVariants as event
use Rattle.wire_sim.specs.Runs.{IsReached, IsStep, goes_on as reached_on}
use Rattle.wire_sim.specs.WorldView.{WorldView, NetworkView, host_of}
use Rattle.wire_sim.proofs.HostsRun.{frames-stay, sound-at, tables-kept}
use Rattle.settling_law.specs.Hosts.{AreAll, AreTogether, ArePartOf, Acts, Ends, EveryTwoHostsFallSilent, IsUnreset, Happens, NoOtherSpeaks, Runs, closes, ends, goes_on, here, leaves, nothing as nothing_left, stays, there, sends, pauses, hears, loses}
use Rattle.settling_law.specs.Settling as two
use Rattle.settling_law.specs.Settling.{AreSound, Course, still, speaks, turned}
use Rattle.settling_law.proofs.Every.{AllNext, AllStand, Twos, Unreset, all_turned, hit, left_of, out, quiet, spoken_of, twos_at_a, twos_at_b, unreset_at_a, unreset_at_b}
use Rattle.settling_law.proofs.Frames.{KeepsFrames}
use Rattle.settling_law.proofs.Silent.{limit_small, stands_first}
use Rattle.settling_law.proofs.Speaking.{speaks_so, stands}
use Rattle.settling_law.proofs.Loads.{IsMute, SpeaksFor, load, other_load, sends_so, answering, spending, speaking}
use Rattle.settling_law.proofs.Arriving.{comes_so}

-- What is on its way weighs two for each frame that may draw a reply.
data OnWay (w : WorldView) : List ℕ → ℕ → Type 0 where
  nothing : OnWay w [] 0
  mute : (index : ℕ) (frames : List ℕ) (n : ℕ) → IsMute w index → OnWay w frames n → OnWay w (index ∷ frames) n
  other : (index : ℕ) (frames : List ℕ) (n : ℕ) → OnWay w frames n → OnWay w (index ∷ frames) (n + 2)

still_on_way : (w u : WorldView) → KeepsFrames w u → (frames : List ℕ) (n : ℕ) → OnWay w frames n → OnWay u frames n
still_on_way w u keeps _ _ nothing = nothing
still_on_way w u keeps _ _ (mute index frames n quiet rest) = mute index frames n (record { f = quiet.f; there = keeps index quiet.f quiet.there; mute = quiet.mute }) (still_on_way w u keeps frames n rest)
still_on_way w u keeps _ _ (other index frames n rest) = other index frames n (still_on_way w u keeps frames n rest)

joins_mute : (w : WorldView) (index : ℕ) → IsMute w index → (frames : List ℕ) (n : ℕ) → OnWay w frames n → OnWay w (frames ++ index ∷ []) n
joins_mute w index quiet _ _ nothing = mute index [] 0 quiet nothing
joins_mute w index quiet _ _ (mute i frames n first rest) = mute i (frames ++ index ∷ []) n first (joins_mute w index quiet frames n rest)
joins_mute w index quiet _ _ (other i frames n rest) = other i (frames ++ index ∷ []) n (joins_mute w index quiet frames n rest)

record Joined (w : WorldView) (index : ℕ) (frames : List ℕ) (n : ℕ) : Type 0 where
  weight : ℕ
  is : weight ≡ n + 2
  on_way : OnWay w (frames ++ index ∷ []) weight

joins_other : (w : WorldView) (index : ℕ) (frames : List ℕ) (n : ℕ) → OnWay w frames n → Joined w index frames n
joins_other w index _ _ nothing = record { weight = 0 + 2; is = refl; on_way = other index [] 0 nothing }
joins_other w index _ _ (mute i frames n first rest) = let j = joins_other w index frames n rest in record { weight = j.weight; is = j.is; on_way = mute i (frames ++ index ∷ []) j.weight first j.on_way }
joins_other w index _ _ (other i frames n rest) = let j = joins_other w index frames n rest in record { weight = j.weight + 2; is = (let e = j.is in omega (arith, e)); on_way = other i (frames ++ index ∷ []) j.weight j.on_way }

-- the first that is on its way, and the others
data First (w : WorldView) (index : ℕ) (rest : List ℕ) (n : ℕ) : Type 0 where
  quietly : IsMute w index → OnWay w rest n → First w index rest n
  loudly : (behind : ℕ) → n ≡ behind + 2 → OnWay w rest behind → First w index rest n

first_of : (w : WorldView) (index : ℕ) (rest frames : List ℕ) (n : ℕ) → frames ≡ index ∷ rest → OnWay w frames n → First w index rest n
first_of w index rest _ _ same nothing = cc
first_of w index rest _ _ same (mute i frames n quiet more) =
    let at : i ≡ index = cc in
    let behind : frames ≡ rest = cc in
    quietly (subst (IsMute w) at quiet) (subst (λ l. OnWay w l n) behind more)
first_of w index rest _ _ same (other i frames n more) = (let behind : frames ≡ rest = cc in loudly n refl (subst (λ l. OnWay w l n) behind more))

-- what happens at a side where no frame goes out of it
data Quietly (side : Side) : Course → Course → Type 0 where
  pauses_so : (c : Course) (w : WorldView) → IsStep (event.Emit side) reply.NoFrame c.world w → Quietly side c (record c { world = w })
  hears_so : (c : Course) (index : ℕ) (rest : List ℕ) (isn : Seq) (answer : Answer) (w : WorldView) → c.back ≡ index ∷ rest → IsStep (event.Deliver side index isn) answer c.world w → Quietly side c (record { world = w; out = c.out; back = rest })
  loses_so : (c : Course) (index : ℕ) (rest : List ℕ) → c.back ≡ index ∷ rest → Quietly side c (record c { back = rest })

quietly_so : (all : List Ends) (side : Side) (count : ℕ) (c k : Course) → Acts all side count c k → count ≡ 0 → Quietly side c k
quietly_so all side _ _ _ (sends c index len w step unreset) none = cc
quietly_so all side _ _ _ (pauses c w step) none = pauses_so c w step
quietly_so all side _ _ _ (hears c index rest isn answer w first step) none = hears_so c index rest isn answer w first step
quietly_so all side _ _ _ (loses c index rest first) none = loses_so c index rest first

-- some of these stand where all do, and have no more left
record SomeStand (limit : ℕ) (hs ts : Side) (c : Course) (some : List Ends) (left : ℕ) : Type 0 where
  stand : AllStand limit hs ts c some
  fewer : left_of limit hs ts c some stand ≤ left

some_stand : (limit : ℕ) (hs ts : Side) (c : Course) (some all : List Ends) → ArePartOf some all → (stand : AllStand limit hs ts c all) → SomeStand limit hs ts c some (left_of limit hs ts c all stand)
some_stand limit hs ts c _ _ nothing_left stand = record { stand = tt; fewer = omega arith }
some_stand limit hs ts c _ _ (stays e some all part) stand = (let s = some_stand limit hs ts c some all part stand.1 in let fewer = s.fewer in record { stand = (stand.0, s.stand); fewer = omega (arith, fewer) })
some_stand limit hs ts c _ _ (leaves e some all part) stand = (let s = some_stand limit hs ts c some all part stand.1 in let fewer = s.fewer in record { stand = s.stand; fewer = omega (arith, fewer) })

-- A course, as the one side sees it, and what is left.
record State (limit : ℕ) (all : List Ends) (hs ts : Side) (c : Course) (left : ℕ) : Type 0 where
  reached : IsReached limit c.world
  stand : AllStand limit hs ts c all
  weight_out : ℕ
  weight_back : ℕ
  out : OnWay c.world c.out weight_out
  back : OnWay c.world c.back weight_back
  fits : 3 * left_of limit hs ts c all stand + load c.world hs + load c.world ts + weight_out + weight_back ≤ left

-- what is left after so many frames
record Less (limit : ℕ) (all : List Ends) (hs ts : Side) (k : Course) (count left : ℕ) : Type 0 where
  after : ℕ
  fewer : count + after ≤ left
  state : State limit all hs ts k after

module _ (limit : ℕ) (some : 0 < limit) (small : limit ≤ 2 ^ 30) (all : List Ends) (hs ts : Side) (opposite : ts ≡ other_side hs) where
  -- A segment of a connection is of one of these pairs.
  spoke : (c : Course) (w : WorldView) (index len : ℕ) → IsReached limit c.world → IsStep (event.Emit hs) (reply.Frame index len) c.world w → (stand : AllStand limit hs ts c all) → NoOtherSpeaks all c.world hs → SpeaksFor c.world hs
      → 1 ≤ spoken_of limit hs ts c all stand
  spoke c w index len reached step stand none s =
      let sound = sound-at c.world w step hs in
      let kept = tables-kept limit c.world reached hs in
      let own = s.e in
      let has = stands c.world hs s.mac s.to s.sends s.e s.found s.c s.listener s.due s.role s.first sound kept.ordered s.is_to in
      hit limit some small hs ts opposite c all stand own.id s.listener s.c (none own.id s.listener s.c has (λ off. let bad : Some s.due ≡ None = sym s.first ∙ off in cc)) has
      (speaks_so c.world hs s.mac s.to s.sends s.e s.found s.c s.listener s.due s.role s.first sound kept.ordered s.is_to)

  module _ (to_unreset : (w : WorldView) → IsUnreset all w hs → AllByRecursion (Unreset hs ts w) all) where
    -- what is left once this happened
    less : (k : Course) (count left : ℕ) → IsReached limit k.world → (stand : AllStand limit hs ts k all) (out back : ℕ) → OnWay k.world k.out out → OnWay k.world k.back back
        → count + (3 * left_of limit hs ts k all stand + load k.world hs + load k.world ts + out + back) ≤ left → Less limit all hs ts k count left
    less k count left reached stand out back way_out way_back fewer = record {
      after = 3 * left_of limit hs ts k all stand + load k.world hs + load k.world ts + out + back;
      fewer = fewer;
      state = record { reached = reached; stand = stand; weight_out = out; weight_back = back; out = way_out; back = way_back; fits = omega arith };
    }

    -- A frame goes out.
    acts_out : (c : Course) (index len : ℕ) (w : WorldView) → IsStep (event.Emit hs) (reply.Frame index len) c.world w → IsUnreset all c.world hs → (left : ℕ) → State limit all hs ts c left → NoOtherSpeaks all c.world hs → AllByRecursion (Twos hs ts w) all
        → IsSoundHost (host_of w.network hs) → IsSoundHost (host_of w.network ts) → Less limit all hs ts (record { world = w; out = c.out ++ index ∷ []; back = c.back }) 1 left
    acts_out c index len w step unreset left st none twos near far = elim (sends_so limit c.world w hs index len st.reached step) [
      | answering lighter quiet ↦ less k 1 left reached n.stand st.weight_out st.weight_back (joins_mute w index quiet c.out st.weight_out out_still) back_still (omega (arith, total, fewer, lighter, others))
      | spending lighter ↦ (let j = joins_other w index c.out st.weight_out out_still in let is = j.is in less k 1 left reached n.stand j.weight st.weight_back j.on_way back_still (omega (arith, total, fewer, lighter, others, is)))
      | speaking lighter speaks_for ↦
          let j = joins_other w index c.out st.weight_out out_still in
          let weight = j.is in
          let one = spoke c w index len st.reached step st.stand none speaks_for in
          less k 1 left reached n.stand j.weight st.weight_back j.on_way back_still (omega (arith, total, fewer, lighter, others, weight, one))
    ]
      where
        k : Course
        k = record { world = w; out = c.out ++ index ∷ []; back = c.back }

        reached : IsReached limit w
        reached = reached_on c.world w (event.Emit hs) (reply.Frame index len) st.reached step

        keeps : KeepsFrames c.world w
        keeps = frames-stay (event.Emit hs) (length c.world.trace) (reply.Frame index len) c.world.network w.network step.network

        out_still : OnWay w c.out st.weight_out
        out_still = still_on_way c.world w keeps c.out st.weight_out st.out

        back_still : OnWay w c.back st.weight_back
        back_still = still_on_way c.world w keeps c.back st.weight_back st.back

        n : AllNext limit some small hs ts opposite c k all (left_of limit hs ts c all st.stand) (spoken_of limit hs ts c all st.stand)
        n = out limit some small hs ts opposite c index len w step all st.stand (to_unreset c.world unreset) twos near far

        fewer : spoken_of limit hs ts c all st.stand + left_of limit hs ts k all n.stand ≤ left_of limit hs ts c all st.stand
        fewer = n.fewer

        total : 3 * left_of limit hs ts c all st.stand + load c.world hs + load c.world ts + st.weight_out + st.weight_back ≤ left
        total = st.fits

        others : load w ts ≡ load c.world ts
        others = other_load limit c.world w (event.Emit hs) (reply.Frame index len) st.reached step (λ s m same. cc) ts opposite

    -- None does.
    acts_quietly : (c k : Course) → Quietly hs c k → (left : ℕ) → State limit all hs ts c left → AllByRecursion (Twos hs ts k.world) all → IsSoundHost (host_of k.world.network hs) → IsSoundHost (host_of k.world.network ts) → Less limit all hs ts k 0 left
    acts_quietly _ _ (pauses_so c w step) left st twos near far =
        let nothing_more = step.network in
        let same : (s : Side) → load w s ≡ load c.world s = λ s. ap (λ (n : NetworkView). let x : WorldView = record { network = n; trace = w.trace } in load x s) nothing_more.after in
        let n = quiet limit some small hs ts opposite c (record c { world = w }) all st.stand (λ local peer. two.pauses c w step) twos near far in
        let keeps = frames-stay (event.Emit hs) (length c.world.trace) reply.NoFrame c.world.network w.network step.network in
        let total = st.fits in
        let fewer = n.fewer in
        less (record c { world = w }) 0 left (reached_on c.world w (event.Emit hs) reply.NoFrame st.reached step) n.stand st.weight_out st.weight_back (still_on_way c.world w keeps c.out st.weight_out st.out)
        (still_on_way c.world w keeps c.back st.weight_back st.back) (omega (arith, total, fewer, same hs, same ts))
    acts_quietly _ _ (hears_so c index rest isn answer w first step) left st twos near far = elim (first_of c.world index rest c.back st.weight_back first st.back) [
      | quietly mute_one behind ↦ (let lighter = comes.1 mute_one in less k 0 left reached n.stand st.weight_out st.weight_back out_still (still_on_way c.world w keeps rest st.weight_back behind) (omega (arith, total, fewer, lighter, others)))
      | loudly weight is behind ↦ (let lighter = comes.0 in less k 0 left reached n.stand st.weight_out weight out_still (still_on_way c.world w keeps rest weight behind) (omega (arith, total, fewer, lighter, others, is)))
    ]
      where
        k : Course
        k = record { world = w; out = c.out; back = rest }

        reached : IsReached limit w
        reached = reached_on c.world w (event.Deliver hs index isn) answer st.reached step

        keeps : KeepsFrames c.world w
        keeps = frames-stay (event.Deliver hs index isn) (length c.world.trace) answer c.world.network w.network step.network

        out_still : OnWay w c.out st.weight_out
        out_still = still_on_way c.world w keeps c.out st.weight_out st.out

        n : AllNext limit some small hs ts opposite c k all (left_of limit hs ts c all st.stand) 0
        n = quiet limit some small hs ts opposite c k all st.stand (λ local peer. two.hears c index rest isn answer w first step) twos near far

        fewer : 0 + left_of limit hs ts k all n.stand ≤ left_of limit hs ts c all st.stand
        fewer = n.fewer

        total : 3 * left_of limit hs ts c all st.stand + load c.world hs + load c.world ts + st.weight_out + st.weight_back ≤ left
        total = st.fits

        comes : (load w hs ≤ load c.world hs + 1) × (IsMute c.world index → load w hs ≤ load c.world hs)
        comes = comes_so limit c.world w hs index isn answer st.reached step

        others : load w ts ≡ load c.world ts
        others = other_load limit c.world w (event.Deliver hs index isn) answer st.reached step (λ s m same. cc) ts opposite
    acts_quietly _ _ (loses_so c index rest first) left st twos near far = elim (first_of c.world index rest c.back st.weight_back first st.back) [
      | quietly mute_one behind ↦ less k 0 left st.reached n.stand st.weight_out st.weight_back st.out behind (omega (arith, total, fewer))
      | loudly weight is behind ↦ less k 0 left st.reached n.stand st.weight_out weight st.out behind (omega (arith, total, fewer, is))
    ]
      where
        k : Course
        k = record c { back = rest }

        n : AllNext limit some small hs ts opposite c k all (left_of limit hs ts c all st.stand) 0
        n = quiet limit some small hs ts opposite c k all st.stand (λ local peer. two.loses c index rest first) twos near far

        fewer : 0 + left_of limit hs ts k all n.stand ≤ left_of limit hs ts c all st.stand
        fewer = n.fewer

        total : 3 * left_of limit hs ts c all st.stand + load c.world hs + load c.world ts + st.weight_out + st.weight_back ≤ left
        total = st.fits

    acts : (count : ℕ) (c k : Course) → Acts all hs count c k → (left : ℕ) → State limit all hs ts c left → NoOtherSpeaks all c.world hs → AllByRecursion (Twos hs ts k.world) all → IsSoundHost (host_of k.world.network hs) → IsSoundHost (host_of k.world.network ts)
        → Less limit all hs ts k count left
    acts _ _ _ (sends c index len w step unreset) left st none twos near far = acts_out c index len w step unreset left st none twos near far
    acts _ _ _ (pauses c w step) left st none twos near far = acts_quietly c (record c { world = w }) (pauses_so c w step) left st twos near far
    acts _ _ _ (hears c index rest isn answer w first step) left st none twos near far = acts_quietly c (record { world = w; out = c.out; back = rest }) (hears_so c index rest isn answer w first step) left st twos near far
    acts _ _ _ (loses c index rest first) left st none twos near far = acts_quietly c (record c { back = rest }) (loses_so c index rest first) left st twos near far

-- as the other side sees it
state_turned : (limit : ℕ) (all : List Ends) (hs ts : Side) (c : Course) (left : ℕ) → State limit all hs ts c left → State limit all ts hs (turned c) left
state_turned limit all hs ts c left st =
    let t = all_turned limit hs ts c all st.stand in
    record { reached = st.reached; stand = t.stand; weight_out = st.weight_back; weight_back = st.weight_out; out = st.back; back = st.out; fits = (let total = st.fits in let same = t.same in omega (arith, total, same)) }

state_of : (limit : ℕ) (some all : List Ends) → ArePartOf some all → (hs ts : Side) (c : Course) (left : ℕ) → State limit all hs ts c left → State limit some hs ts c left
state_of limit some all part hs ts c left st =
    let s = some_stand limit hs ts c some all part st.stand in
    record { reached = st.reached; stand = s.stand; weight_out = st.weight_out; weight_back = st.weight_back; out = st.out; back = st.back; fits = (let total = st.fits in let fewer = s.fewer in omega (arith, total, fewer)) }

module _ (limit : ℕ) (some : 0 < limit) (small : limit ≤ 2 ^ 30) where
  happens_on : (all : List Ends) (count : ℕ) (c k : Course) → Happens all count c k → (left : ℕ) → State limit all A B c left → AreAll all c.world → AreAll all k.world → Less limit all A B k count left
  happens_on all _ _ _ (here count c k does) left st was is =
      let sound = is.sound in acts limit some small all A B refl (λ w. unreset_at_a w all) count c k does left st was.no_other_at_a (twos_at_a k.world all is.together) sound.near sound.far
  happens_on all _ _ _ (there count c k does) left st was is =
      let sound = is.sound in
      let l = acts limit some small all B A refl (λ w. unreset_at_b w all) count (turned c) k does left (state_turned limit all A B c left st) was.no_other_at_b (twos_at_b k.world all is.together) sound.far sound.near in
      record { after = l.after; fewer = l.fewer; state = state_turned limit all B A k l.after l.state }

  closes_on : (all part : List Ends) (count : ℕ) (c k : Course) → Happens all count c k → count ≡ 0 → ArePartOf part all → (left : ℕ) → State limit all A B c left → AreAll part k.world → Less limit part A B k 0 left
  closes_on all part _ _ _ (here count c k does) none of left st is =
      let sound = is.sound in
      acts_quietly limit some small part A B refl (λ w. unreset_at_a w part) c k (quietly_so all A count c k does none) left (state_of limit part all of A B c left st) (twos_at_a k.world part is.together) sound.near sound.far
  closes_on all part _ _ _ (there count c k does) none of left st is =
      let sound = is.sound in
      let l = acts_quietly limit some small part B A refl (λ w. unreset_at_b w part) (turned c) k (quietly_so all B count (turned c) k does none) left (state_turned limit part A B c left (state_of limit part all of A B c left st)) (twos_at_b k.world part is.together) sound.far sound.near in
      record { after = l.after; fewer = l.fewer; state = state_turned limit part B A k l.after l.state }

  no_more : (all : List Ends) (count : ℕ) (c e : Course) → Runs all count c e → AreAll all c.world → (left : ℕ) → State limit all A B c left → count ≤ left
  no_more _ _ _ _ (ends all c) was left st = omega arith
  no_more _ _ _ _ (goes_on all count more c k e happens is rest) was left st =
      let l = happens_on all count c k happens left st was is in
      let later = no_more all more k e rest is l.after l.state in
      let fewer = l.fewer in
      omega (arith, later, fewer)
  no_more _ _ _ _ (closes all part more c k e happens of is rest) was left st =
      let l = closes_on all part 0 c k happens refl of left st is in
      let later = no_more part more k e rest is l.after l.state in
      let fewer = l.fewer in
      omega (arith, later, fewer)

  at_first : (w : WorldView) → IsReached limit w → AreSound w A → (all : List Ends) → AllByRecursion (AreTogether w) all → AllStand limit A B (still w) all
  at_first w reached sound [] together = tt
  at_first w reached sound (e ∷ rest) together =
      let t = together.0 in
      (record { local = t.v.local; peer = t.v.peer; v = t.v; d = t.d; left = most_of t.v t.d; stands = stands_first limit some w reached A sound e.at_a e.at_b t.v t.d t.joined }, at_first w reached sound rest together.1)

pub all_fall_silent : EveryTwoHostsFallSilent
all_fall_silent limit some w reached all are =
    let stand = at_first limit some (limit_small limit w reached) w reached are.sound all are.together in
    let most : ℕ = 3 * left_of limit A B (still w) all stand + load w A + load w B + 0 + 0 in (
      most,
      λ count e run. no_more limit some (limit_small limit w reached) all count (still w) e run are most (record { reached = reached; stand = stand; weight_out = 0; weight_back = 0; out = nothing; back = nothing; fits = omega arith }),
    )
