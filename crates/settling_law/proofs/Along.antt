-- Two open ends of a world that is left to itself, as a link of the two: what happens to it is an act of one of them, or nothing to either.
use Rattle.std.proofs.Common.{◌≡◌, inl, inr, ℕ, ◌+◌, ◌<◌, ◌≤◌, ◌^◌, Bool, true, false, if◌then◌else◌, List, [], ◌∷◌, ◌++◌, length, Option, Some, arith, refl, sym, ◌∙◌, ap, subst}
use Rattle.ipv4.specs.declared.addr.Endpoint.{Endpoint}
use Rattle.ipv4.specs.declared.addr.Pair.{Pair}
use Rattle.ipv4.specs.Addresses.{pair_of}
use Rattle.tcp_segment.specs.declared.seq.Seq.{Seq}
use Rattle.tcp_segment.specs.Segment.{Segment}
use Rattle.tcp_halves.proofs.Choices.{neither}
use Rattle.tcp_state.specs.Arrival.{after_segment_at}
use Rattle.tcp_state.specs.Due.{after_emitted}
use Rattle.tcp_state.specs.Edges as edge
use Rattle.tcp_state.specs.Said.{segment_of}
use Rattle.tcp_state.specs.View.{View, IsSound, is_opening, is_closed}
use Rattle.sockets.specs.declared.entry.SocketId.{SocketId}
use Rattle.sockets.specs.Closing.{entry_of}
use Rattle.sockets.proofs.KeptEnds.{keeps-first, keeps-event}
use Rattle.window_law.specs.Windows.{IsOpen}
use Rattle.silence_law.specs.Silence.{Link, here_stirs, loses, sends as act_sends, hears as act_hears}
use Rattle.silence_law.specs.Silence as silence
use Rattle.silence_law.proofs.Silent.{Within, Fewer, stirs_once, loses_some}
use Rattle.host.specs.HostView.{HostView}
use Rattle.host.specs.Sound.{IsSoundHost}
use Rattle.sides.specs.declared.side.Side.{Side}
use Rattle.sides.specs.Sides.{other_side}
use Rattle.wire_sim.specs.declared.event.Answer.{Answer}
use Rattle.wire_sim.specs.declared.event.Answer.TheVariants as reply
use Rattle.wire_sim.specs.declared.event.Event.TheVariants as event
use Rattle.wire_sim.specs.Duties.{Has}
use Rattle.wire_sim.specs.Runs.{IsReached, IsStep, goes_on}
use Rattle.wire_sim.specs.WorldView.{WorldView, NetworkView, host_of}
use Rattle.wire_sim.proofs.HostsRun.{frames-stay}
use Rattle.wire_sim.proofs.openings.HoldingsAreNoted.{other-stays}
use Rattle.wire_sim.proofs.two_ends.Meets.{sound_under}
use Rattle.settling_law.specs.Settling.{Course, Does, sends, pauses, hears, loses as loses_frame, speaks, resets}
use Rattle.settling_law.proofs.Coming.{comes, passes}
use Rattle.settling_law.proofs.Frames.{Says, IsForeign, same_entry, KeepsFrames, OnWay, nothing, theirs, foreign, on_way_still, joins_theirs, joins_foreign}
use Rattle.settling_law.proofs.GoingOut.{says, silent, goes_out}

-- the two connections stand in their tables, and are open
pub record Two (w : WorldView) (hs ts : Side) (id other : SocketId) (v d : View) : Type 0 where
  pub listener : Option SocketId
  pub other_listener : Option SocketId
  pub here : Has w hs id listener v
  pub there : Has w ts other other_listener d
  pub opened : IsOpen v
  pub other_opened : IsOpen d

-- They are the two ends of a link, with what is on its way between them, and only so many acts are left.
pub record Stands (limit : ℕ) (hs ts : Side) (id other : SocketId) (pair : Pair) (local peer : Endpoint) (c : Course) (v d : View) (left : ℕ) : Type 0 where
  pub reached : IsReached limit c.world
  pub two : Two c.world hs ts id other v d
  pub local_here : v.local ≡ local
  pub peer_here : v.peer ≡ peer
  pub local_there : d.local ≡ peer
  pub peer_there : d.peer ≡ local
  pub to_far : List Segment
  pub to_near : List Segment
  pub out : OnWay c.world pair local peer c.out to_far
  pub back : OnWay c.world pair peer local c.back to_near
  pub within : Within limit (record { near = v; far = d; to_far = to_far; to_near = to_near }) left

-- after so many frames of theirs fewer acts are left
pub record Leaves (limit : ℕ) (hs ts : Side) (id other : SocketId) (pair : Pair) (local peer : Endpoint) (k : Course) (v d : View) (count left : ℕ) : Type 0 where
  pub after : ℕ
  pub fewer : count + after ≤ left
  pub stands : Stands limit hs ts id other pair local peer k v d after

-- a connection of a host that nothing happened to is as it was
still_there : (w u : WorldView) (side : Side) (id : SocketId) (l m : Option SocketId) (v next : View) → host_of u.network side ≡ host_of w.network side → Has w side id l v → Has u side id m next → next ≡ v
still_there w u side id l m v next same has has_next = same_entry id m l next v (sym has_next ∙ (ap (λ (h : HostView). entry_of h.sockets id) same ∙ has))

-- the first frame that is on its way carries a segment, or none of theirs
data First (w : WorldView) (pair : Pair) (local peer : Endpoint) (index : ℕ) (rest : List ℕ) (segments : List Segment) : Type 0 where
  its : (s : Segment) (more : List Segment) → segments ≡ s ∷ more → Says w index local peer s → OnWay w pair local peer rest more → First w pair local peer index rest segments
  not_its : IsForeign w index pair → OnWay w pair local peer rest segments → First w pair local peer index rest segments

first_of : (w : WorldView) (pair : Pair) (local peer : Endpoint) (index : ℕ) (rest frames : List ℕ) (segments : List Segment) → frames ≡ index ∷ rest → OnWay w pair local peer frames segments → First w pair local peer index rest segments
first_of w pair local peer index rest _ _ same nothing = cc
first_of w pair local peer index rest _ _ same (theirs i s frames segments saying more) =
    let at : i ≡ index = cc in
    let behind : frames ≡ rest = cc in
    its s segments refl (subst (λ n. Says w n local peer s) at saying) (subst (λ l. OnWay w pair local peer l segments) behind more)
first_of w pair local peer index rest _ _ same (foreign i frames segments other more) =
    let at : i ≡ index = cc in
    let behind : frames ≡ rest = cc in
    not_its (subst (λ n. IsForeign w n pair) at other) (subst (λ l. OnWay w pair local peer l segments) behind more)

few : (b : Bool) → (if b then 1 else 0) ≤ 1
few true = omega arith
few false = omega arith

module _ (limit : ℕ) (some : 0 < limit) (small : limit ≤ 2 ^ 30) (hs ts : Side) (opposite : ts ≡ other_side hs) (id other : SocketId) (pair : Pair) (local peer : Endpoint) (is_pair : pair_of local peer ≡ pair) where
  abbrev Stood : Course → View → View → ℕ → Type 0
  Stood c v d left = Stands limit hs ts id other pair local peer c v d left

  abbrev Left : Course → View → View → ℕ → ℕ → Type 0
  Left k v d count left = Leaves limit hs ts id other pair local peer k v d count left

  its_pair : (c : Course) (v d : View) (left : ℕ) → Stood c v d left → pair_of v.local v.peer ≡ pair
  its_pair c v d left st = ap (λ e. pair_of e v.peer) st.local_here ∙ (ap (λ e. pair_of local e) st.peer_here ∙ is_pair)

  -- the hosts are sound, so the ends of the link are
  sound_link : (w : WorldView) (v d x y : View) (out back : List Segment) → Two w hs ts id other v d → IsSoundHost (host_of w.network hs) → IsSoundHost (host_of w.network ts) → v ≡ x → d ≡ y
      → silence.AreSound (record { near = x; far = y; to_far = out; to_near = back })
  sound_link w v d x y out back two near far same there = record {
    near = subst IsSound same (sound_under (host_of w.network hs) id v two.listener near two.here);
    far = subst IsSound there (sound_under (host_of w.network ts) other d two.other_listener far two.there);
  }

  -- Nothing happens to either.
  pub nothing_happens : (c k : Course) (v d x y : View) (left : ℕ) (st : Stood c v d left) → IsReached limit k.world → Two k.world hs ts id other x y → x ≡ v → y ≡ d
      → (back : List Segment) → OnWay k.world pair local peer k.out st.to_far → OnWay k.world pair peer local k.back back → Within limit (record { near = v; far = d; to_far = st.to_far; to_near = back }) left → Left k x y 0 left
  nothing_happens c k v d x y left st reached two same there back out behind within = record {
    after = left;
    fewer = omega arith;
    stands = record {
      reached = reached;
      two = two;
      local_here = ap (λ (z : View). z.local) same ∙ st.local_here;
      peer_here = ap (λ (z : View). z.peer) same ∙ st.peer_here;
      local_there = ap (λ (z : View). z.local) there ∙ st.local_there;
      peer_there = ap (λ (z : View). z.peer) there ∙ st.peer_there;
      to_far = st.to_far;
      to_near = back;
      out = out;
      back = behind;
      within = subst (λ z. Within limit (record { near = z; far = y; to_far = st.to_far; to_near = back }) left) (sym same)
          (subst (λ z. Within limit (record { near = v; far = z; to_far = st.to_far; to_near = back }) left) (sym there) within);
    };
  }

  -- The one acts.
  act_happens : (c k : Course) (v d x y z : View) (count left : ℕ) (st : Stood c v d left) → IsReached limit k.world → Two k.world hs ts id other x y → x ≡ z → z.local ≡ v.local → z.peer ≡ v.peer → y ≡ d → count ≤ 1
      → (out back : List Segment) → OnWay k.world pair local peer k.out out → OnWay k.world pair peer local k.back back → Fewer limit (record { near = z; far = d; to_far = out; to_near = back }) left → Left k x y count left
  act_happens c k v d x y z count left st reached two same at_local at_peer there one out back way behind f = record {
    after = f.left;
    fewer = (let less = f.less in omega (arith, less, one));
    stands = record {
      reached = reached;
      two = two;
      local_here = ap (λ (a : View). a.local) same ∙ (at_local ∙ st.local_here);
      peer_here = ap (λ (a : View). a.peer) same ∙ (at_peer ∙ st.peer_here);
      local_there = ap (λ (a : View). a.local) there ∙ st.local_there;
      peer_there = ap (λ (a : View). a.peer) there ∙ st.peer_there;
      to_far = out;
      to_near = back;
      out = way;
      back = behind;
      within = subst (λ a. Within limit (record { near = a; far = y; to_far = out; to_near = back }) f.left) (sym same)
          (subst (λ a. Within limit (record { near = z; far = a; to_far = out; to_near = back }) f.left) (sym there) f.within);
    };
  }

  -- A frame goes out.
  sends_on : (c : Course) (index len : ℕ) (w : WorldView) (step : IsStep (event.Emit hs) (reply.Frame index len) c.world w) → (speaks pair c.world hs ≡ true → resets c.world hs ≡ false)
      → (v d x y : View) (left : ℕ) → Stood c v d left → Two w hs ts id other x y → IsSoundHost (host_of w.network hs) → IsSoundHost (host_of w.network ts)
      → Left (record { world = w; out = c.out ++ index ∷ []; back = c.back }) x y (if speaks pair c.world hs then 1 else 0) left
  sends_on c index len w step unreset v d x y left st two near far = elim (goes_out limit c.world w hs index len id st.two.listener two.listener v x st.reached step st.two.here two.here lives plain) [
    | says due now first same saying ↦
        let s = segment_of v due in
        let z = after_emitted v due now in
        let ends = keeps-first v (Some due) now in
        let l : Link = record { near = v; far = d; to_far = st.to_far; to_near = st.to_near } in
        let m : Link = record { near = z; far = d; to_far = st.to_far ++ (s ∷ []); to_near = st.to_near } in
        let f : Fewer limit m left = stirs_once limit some small now l m (here_stirs l m (act_sends l due first)) left (sound_link w x y z d (st.to_far ++ (s ∷ [])) st.to_near two near far same there) st.within in
        act_happens c k v d x y z (if speaks pair c.world hs then 1 else 0) left st reached two same ends.local ends.peer there (few (speaks pair c.world hs)) (st.to_far ++ (s ∷ [])) st.to_near
        (joins_theirs w pair local peer index s (subst (λ e. Says w index e peer s) st.local_here (subst (λ e. Says w index v.local e s) st.peer_here saying)) c.out st.to_far (on_way_still c.world w pair local peer keeps c.out st.to_far st.out))
        (on_way_still c.world w pair peer local keeps c.back st.to_near st.back) f
    | silent off same other ↦
        let none : speaks pair c.world hs ≡ false = subst (λ p. speaks p c.world hs ≡ false) at off in
        subst (λ n. Left k x y n left) (sym (ap (λ b. if b then 1 else 0) none))
        (nothing_happens c k v d x y left st reached two same there st.to_near
        (joins_foreign w pair local peer index (subst (λ p. IsForeign w index p) at other) c.out st.to_far (on_way_still c.world w pair local peer keeps c.out st.to_far st.out))
        (on_way_still c.world w pair peer local keeps c.back st.to_near st.back) st.within)
  ]
    where
      k : Course
      k = record { world = w; out = c.out ++ index ∷ []; back = c.back }

      at : pair_of v.local v.peer ≡ pair
      at = its_pair c v d left st

      lives : is_closed v.state ≡ false
      lives = (neither (is_opening v.state) (is_closed v.state) st.two.opened).1

      plain : speaks (pair_of v.local v.peer) c.world hs ≡ true → resets c.world hs ≡ false
      plain = subst (λ p. speaks p c.world hs ≡ true → resets c.world hs ≡ false) (sym at) unreset

      reached : IsReached limit w
      reached = goes_on c.world w (event.Emit hs) (reply.Frame index len) st.reached step

      keeps : KeepsFrames c.world w
      keeps = frames-stay (event.Emit hs) (length c.world.trace) (reply.Frame index len) c.world.network w.network step.network

      there : y ≡ d
      there = still_there c.world w ts other st.two.other_listener two.other_listener d y (other-stays (event.Emit hs) (length c.world.trace) (reply.Frame index len) c.world.network w.network ts opposite step.network) st.two.there two.there

  -- None does.
  pauses_on : (c : Course) (w : WorldView) → IsStep (event.Emit hs) reply.NoFrame c.world w → (v d x y : View) (left : ℕ) → Stood c v d left → Two w hs ts id other x y → Left (record c { world = w }) x y 0 left
  pauses_on c w step v d x y left st two =
      let none = step.network in
      nothing_happens c (record c { world = w }) v d x y left st (goes_on c.world w (event.Emit hs) reply.NoFrame st.reached step) two
      (still_there c.world w hs id st.two.listener two.listener v x (ap (λ (n : NetworkView). host_of n hs) none.after) st.two.here two.here)
      (still_there c.world w ts other st.two.other_listener two.other_listener d y (ap (λ (n : NetworkView). host_of n ts) none.after) st.two.there two.there)
      st.to_near
      (on_way_still c.world w pair local peer keeps c.out st.to_far st.out)
      (on_way_still c.world w pair peer local keeps c.back st.to_near st.back) st.within
    where
      keeps : KeepsFrames c.world w
      keeps = frames-stay (event.Emit hs) (length c.world.trace) reply.NoFrame c.world.network w.network step.network

  -- The first frame that is on its way comes.
  hears_on : (c : Course) (index : ℕ) (rest : List ℕ) (isn : Seq) (answer : Answer) (w : WorldView) → c.back ≡ index ∷ rest → IsStep (event.Deliver hs index isn) answer c.world w
      → (v d x y : View) (left : ℕ) → Stood c v d left → Two w hs ts id other x y → IsSoundHost (host_of w.network hs) → IsSoundHost (host_of w.network ts) → Left (record { world = w; out = c.out; back = rest }) x y 0 left
  hears_on c index rest isn answer w first step v d x y left st two near far = elim (first_of c.world pair peer local index rest c.back st.to_near first st.back) [
    | its s more is saying behind ↦
        let l : Link = record { near = v; far = d; to_far = st.to_far; to_near = st.to_near } in
        elim (comes limit c.world w hs index isn answer id st.two.listener two.listener v x st.reached step st.two.here two.here unended.1 saying.f saying.there peer local s saying st.local_here st.peer_here) [
          | inl same ↦
              nothing_happens c k v d x y left st reached two same there more
              (on_way_still c.world w pair local peer keeps c.out st.to_far st.out) (on_way_still c.world w pair peer local keeps rest more behind)
              (loses_some limit l (record { near = v; far = d; to_far = st.to_far; to_near = more }) left (loses l s more is) st.within)
          | inr heard ↦
              let z = after_segment_at v s heard.0 in
              let ends = keeps-event v (edge.Hears s heard.0) in
              let m : Link = record { near = z; far = d; to_far = st.to_far; to_near = more } in
              let f : Fewer limit m left = stirs_once limit some small heard.0 l m (here_stirs l m (act_hears l s more is)) left (sound_link w x y z d st.to_far more two near far heard.1 there) st.within in
              act_happens c k v d x y z 0 left st reached two heard.1 ends.local ends.peer there (omega arith) st.to_far more
              (on_way_still c.world w pair local peer keeps c.out st.to_far st.out) (on_way_still c.world w pair peer local keeps rest more behind) f
        ]
    | not_its other behind ↦
        let same = passes limit c.world w hs index isn answer id st.two.listener two.listener v x st.reached step st.two.here two.here unended.1 other.f other.there pair other (its_pair c v d left st) unended.0 in
        nothing_happens c k v d x y left st reached two same there st.to_near
        (on_way_still c.world w pair local peer keeps c.out st.to_far st.out) (on_way_still c.world w pair peer local keeps rest st.to_near behind) st.within
  ]
    where
      k : Course
      k = record { world = w; out = c.out; back = rest }

      unended : (is_opening v.state ≡ false) × (is_closed v.state ≡ false)
      unended = neither (is_opening v.state) (is_closed v.state) st.two.opened

      reached : IsReached limit w
      reached = goes_on c.world w (event.Deliver hs index isn) answer st.reached step

      keeps : KeepsFrames c.world w
      keeps = frames-stay (event.Deliver hs index isn) (length c.world.trace) answer c.world.network w.network step.network

      there : y ≡ d
      there = still_there c.world w ts other st.two.other_listener two.other_listener d y (other-stays (event.Deliver hs index isn) (length c.world.trace) answer c.world.network w.network ts opposite step.network) st.two.there two.there

  -- It is lost.
  loses_on : (c : Course) (index : ℕ) (rest : List ℕ) → c.back ≡ index ∷ rest → (v d x y : View) (left : ℕ) → Stood c v d left → Two c.world hs ts id other x y → Left (record c { back = rest }) x y 0 left
  loses_on c index rest first v d x y left st two = elim (first_of c.world pair peer local index rest c.back st.to_near first st.back) [
    | its s more is saying behind ↦
        let l : Link = record { near = v; far = d; to_far = st.to_far; to_near = st.to_near } in
        nothing_happens c k v d x y left st st.reached two same there more st.out behind (loses_some limit l (record { near = v; far = d; to_far = st.to_far; to_near = more }) left (loses l s more is) st.within)
    | not_its other behind ↦ nothing_happens c k v d x y left st st.reached two same there st.to_near st.out behind st.within
  ]
    where
      k : Course
      k = record c { back = rest }

      same : x ≡ v
      same = still_there c.world c.world hs id st.two.listener two.listener v x refl st.two.here two.here

      there : y ≡ d
      there = still_there c.world c.world ts other st.two.other_listener two.other_listener d y refl st.two.there two.there

  -- Whatever happens at the side.
  pub happens_there : (count : ℕ) (c k : Course) → Does hs pair count c k → (v d x y : View) (left : ℕ) → Stood c v d left → Two k.world hs ts id other x y → IsSoundHost (host_of k.world.network hs) → IsSoundHost (host_of k.world.network ts) → Left k x y count left
  happens_there _ _ _ (sends c index len w step unreset) v d x y left st two near far = sends_on c index len w step unreset v d x y left st two near far
  happens_there _ _ _ (pauses c w step) v d x y left st two near far = pauses_on c w step v d x y left st two
  happens_there _ _ _ (hears c index rest isn answer w first step) v d x y left st two near far = hears_on c index rest isn answer w first step v d x y left st two near far
  happens_there _ _ _ (loses_frame c index rest first) v d x y left st two near far = loses_on c index rest first v d x y left st two
