-- Two open ends of a world that is left to itself fall silent.
use Rattle.std.proofs.Common.{◌≡◌, ℕ, ◌<◌, ◌≤◌, ◌^◌, [], length, arith, refl, sym, ◌∙◌}
use Rattle.ipv4.specs.declared.addr.Endpoint.{Endpoint}
use Rattle.ipv4.specs.declared.addr.Pair.{Pair}
use Rattle.ipv4.specs.Addresses.{pair_of}
use Rattle.ipv4.proofs.Pairs.{pair_of-swapped}
use Rattle.tcp_state.specs.View.{View}
use Rattle.sockets.specs.declared.entry.SocketId.{SocketId}
use Rattle.silence_law.proofs.Silent.{within_turned, most_of, at_first}
use Rattle.sides.specs.declared.side.Side.{Side}
use Rattle.sides.specs.declared.side.Side.TheVariants.{A, B}
use Rattle.sides.specs.Sides.{other_side}
use Rattle.wire_sim.specs.Runs.{IsReached, begins, goes_on as reached_on}
use Rattle.wire_sim.specs.TwoEnds.{AreJoined}
use Rattle.wire_sim.specs.WorldView.{WorldView, host_of}
use Rattle.wire_sim.proofs.HostsRun.{frames-stay}
use Rattle.wire_sim.proofs.two_ends.Joined.{talked}
use Rattle.wire_sim.proofs.two_ends.Meets.{sound_under}
use Rattle.settling_law.specs.Settling.{Course, turned, still, Happens, here, there, elsewhere, AreSound, Runs, ends, goes_on, FallsSilent}
use Rattle.settling_law.proofs.Along.{Two, Stands, Leaves, nothing_happens, happens_there}
use Rattle.settling_law.proofs.Frames.{nothing, same_entry, on_way_still}

pub joined_two : (w : WorldView) (side : Side) (id other : SocketId) (v d : View) → AreJoined w side id other v d → Two w side (other_side side) id other v d
joined_two w side id other v d j = record { listener = j.listener; other_listener = j.other_listener; here = j.here; there = j.there; opened = j.opened; other_opened = j.other_opened }

pub two_turned : (w : WorldView) (hs ts : Side) (id other : SocketId) (v d : View) → Two w hs ts id other v d → Two w ts hs other id d v
two_turned w hs ts id other v d t = record { listener = t.other_listener; other_listener = t.listener; here = t.there; there = t.here; opened = t.other_opened; other_opened = t.opened }

pub stands_turned : (limit : ℕ) (hs ts : Side) (id other : SocketId) (pair : Pair) (local peer : Endpoint) (c : Course) (v d : View) (left : ℕ) → Stands limit hs ts id other pair local peer c v d left → Stands limit ts hs other id pair peer local (turned c) d v left
stands_turned limit hs ts id other pair local peer c v d left st = record {
  reached = st.reached;
  two = two_turned c.world hs ts id other v d st.two;
  local_here = st.local_there;
  peer_here = st.peer_there;
  local_there = st.local_here;
  peer_there = st.peer_here;
  to_far = st.to_near;
  to_near = st.to_far;
  out = st.back;
  back = st.out;
  within = within_turned limit (record { near = v; far = d; to_far = st.to_far; to_near = st.to_near }) left st.within;
}

-- of the two sides each is the other's other one
pub back : (side : Side) → side ≡ other_side (other_side side)
back A = refl
back B = refl

module _ (limit : ℕ) (some : 0 < limit) (small : limit ≤ 2 ^ 30) (side : Side) (id other : SocketId) (pair : Pair) (local peer : Endpoint) (is_pair : pair_of local peer ≡ pair) where
  abbrev ts : Side
  ts = other_side side

  happens_on : (count : ℕ) (c k : Course) → Happens side id other pair count c k → (v d x y : View) (left : ℕ) → Stands limit side ts id other pair local peer c v d left → Two k.world side ts id other x y → AreSound k.world side
      → Leaves limit side ts id other pair local peer k x y count left
  happens_on _ _ _ (here count c k does) v d x y left st two sound = happens_there limit some small side ts refl id other pair local peer is_pair count c k does v d x y left st two sound.near sound.far
  happens_on _ _ _ (there count c k does) v d x y left st two sound =
      let l = happens_there limit some small ts side (back side) other id pair peer local (pair_of-swapped peer local ∙ is_pair) count (turned c) k does d v y x left
      (stands_turned limit side ts id other pair local peer c v d left st) (two_turned k.world side ts id other x y two) sound.far sound.near in
      record { after = l.after; fewer = l.fewer; stands = stands_turned limit ts side other id pair peer local k y x l.after l.stands }
  happens_on _ _ _ (elsewhere c happens w leaves) v d x y left st two sound =
      let step = leaves.step in
      let keeps = frames-stay happens (length c.world.trace) leaves.answer c.world.network w.network step.network in
      let was = leaves.before in
      let then_so = leaves.after in
      let near : x ≡ v = same_entry id two.listener then_so.listener x leaves.v (sym two.here ∙ then_so.here) ∙ same_entry id was.listener st.two.listener leaves.v v (sym was.here ∙ st.two.here) in
      let far : y ≡ d = same_entry other two.other_listener then_so.other_listener y leaves.d (sym two.there ∙ then_so.there) ∙ same_entry other was.other_listener st.two.other_listener leaves.d d (sym was.there ∙ st.two.there) in
      nothing_happens limit some small side ts refl id other pair local peer is_pair c (record c { world = w }) v d x y left st (reached_on c.world w happens leaves.answer st.reached step) two near far st.to_near
      (on_way_still c.world w pair local peer keeps c.out st.to_far st.out) (on_way_still c.world w pair peer local keeps c.back st.to_near st.back) st.within

  no_more : (count : ℕ) (c e : Course) → Runs side id other pair count c e → (v d : View) (left : ℕ) → Stands limit side ts id other pair local peer c v d left → count ≤ left
  no_more _ _ _ (ends c) v d left st = omega arith
  no_more _ _ _ (goes_on count more c k e x y happens joined sound rest) v d left st =
      let l = happens_on count c k happens v d x y left st (joined_two k.world side id other x y joined) sound in
      let then = no_more more k e rest x y l.after l.stands in
      let fewer = l.fewer in
      omega (arith, then, fewer)

-- At first nothing is on its way.
pub stands_first : (limit : ℕ) → 0 < limit → (w : WorldView) → IsReached limit w → (side : Side) → AreSound w side → (id other : SocketId) (v d : View) → AreJoined w side id other v d
    → Stands limit side (other_side side) id other (pair_of v.local v.peer) v.local v.peer (still w) v d (most_of v d)
stands_first limit some w reached side sound id other v d j =
    let t = talked limit w reached side id other v d j in
    let near = sound_under (host_of w.network side) id v j.listener sound.near j.here in
    let far = sound_under (host_of w.network (other_side side)) other d j.other_listener sound.far j.there in record {
      reached = reached;
      two = joined_two w side id other v d j;
      local_here = refl;
      peer_here = refl;
      local_there = j.ends.local;
      peer_there = j.ends.peer;
      to_far = [];
      to_near = [];
      out = nothing;
      back = nothing;
      within = at_first limit t.p t.talks v d t.own t.other j.opened j.other_opened near far;
    }

-- no run writes as much as numbers go round in
pub limit_small : (limit : ℕ) (w : WorldView) → IsReached limit w → limit ≤ 2 ^ 30
limit_small limit _ (begins a b sound_a sound_b apart small) = small
limit_small limit _ (reached_on w v happens answer reached step) = limit_small limit w reached

pub fall_silent : (limit : ℕ) → 0 < limit → (w : WorldView) → IsReached limit w → (side : Side) → AreSound w side → (id other : SocketId) (v d : View) → AreJoined w side id other v d → FallsSilent w side id other (pair_of v.local v.peer)
fall_silent limit some w reached side sound id other v d j = (
  most_of v d,
  λ count e run. no_more limit some (limit_small limit w reached) side id other (pair_of v.local v.peer) v.local v.peer refl count (still w) e run v d (most_of v d) (stands_first limit some w reached side sound id other v d j),
)
