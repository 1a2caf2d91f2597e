-- The frames that are on their way from one of two ends to the other, and which segments of theirs they carry.
use Rattle.std.proofs.Common.{◌≡◌, ◌≢◌, ℕ, List, [], ◌∷◌, ◌++◌, Option, Some, option_map, ap}
use Rattle.std.specs.List.{slice_get}
use Rattle.ipv4.specs.declared.addr.Endpoint.{Endpoint}
use Rattle.ipv4.specs.declared.addr.Pair.{Pair}
use Rattle.tcp_segment.specs.Segment.{Segment}
use Rattle.tcp_state.specs.View.{View}
use Rattle.frames.specs.Pairs.{pair_in}
use Rattle.sockets.specs.declared.entry.Entry.{Entry}
use Rattle.sockets.specs.declared.entry.SocketId.{SocketId}
use Rattle.sockets.specs.declared.role.Role.TheVariants.{Connected}
use Rattle.sockets.specs.Steps.{connected}
use Rattle.host.specs.Carried.{Carried}
use Rattle.wire_sim.specs.declared.world.bag.Frame.{Frame}
use Rattle.wire_sim.specs.Sent.{segment_from}
use Rattle.wire_sim.specs.WorldView.{WorldView}
use Rattle.wire_sim.proofs.passage.PartsSaid.{IsHeardAs}

-- of two entries that are one each has the other's connection
pub same_entry : (id : SocketId) (l m : Option SocketId) (v w : View) → Some (connected id v l) ≡ Some (connected id w m) → v ≡ w
same_entry id l m v w same = let roles : Some (Connected v l) ≡ Some (Connected w m) = ap (option_map (λ (e : Entry). e.role)) same in cc

-- whoever hears the frame of this index hears this segment of one end to the other
pub record Says (w : WorldView) (index : ℕ) (local peer : Endpoint) (s : Segment) : Type 0 where
  pub f : Frame
  pub there : slice_get w.network.frames index ≡ Some f
  pub c : Carried
  pub is : c.segment ≡ s
  pub said : IsHeardAs f.octets.items (segment_from local.addr c)
  pub source : s.source ≡ local.port
  pub destination : s.destination ≡ peer.port

-- the frame carries no segment between two ends
pub record IsForeign (w : WorldView) (index : ℕ) (pair : Pair) : Type 0 where
  pub f : Frame
  pub there : slice_get w.network.frames index ≡ Some f
  pub other : (p : Pair) → pair_in f.octets.items ≡ Some p → p ≢ pair

-- the frames that are on their way, and the segments of the one end among them
pub data OnWay (w : WorldView) (pair : Pair) (local peer : Endpoint) : List ℕ → List Segment → Type 0 where
  nothing : OnWay w pair local peer [] []
  theirs : (index : ℕ) (s : Segment) (frames : List ℕ) (segments : List Segment) → Says w index local peer s → OnWay w pair local peer frames segments → OnWay w pair local peer (index ∷ frames) (s ∷ segments)
  foreign : (index : ℕ) (frames : List ℕ) (segments : List Segment) → IsForeign w index pair → OnWay w pair local peer frames segments → OnWay w pair local peer (index ∷ frames) segments

-- what is on its way stays so in a world that has the frames of the one before
abbrev pub KeepsFrames : WorldView → WorldView → Type 0
KeepsFrames w u = (index : ℕ) (f : Frame) → slice_get w.network.frames index ≡ Some f → slice_get u.network.frames index ≡ Some f

pub on_way_still : (w u : WorldView) (pair : Pair) (local peer : Endpoint) → KeepsFrames w u → (frames : List ℕ) (segments : List Segment) → OnWay w pair local peer frames segments → OnWay u pair local peer frames segments
on_way_still w u pair local peer keeps _ _ nothing = nothing
on_way_still w u pair local peer keeps _ _ (theirs index s frames segments says rest) =
    theirs index s frames segments (record { f = says.f; there = keeps index says.f says.there; c = says.c; is = says.is; said = says.said; source = says.source; destination = says.destination })
    (on_way_still w u pair local peer keeps frames segments rest)
on_way_still w u pair local peer keeps _ _ (foreign index frames segments other rest) =
    foreign index frames segments (record { f = other.f; there = keeps index other.f other.there; other = other.other }) (on_way_still w u pair local peer keeps frames segments rest)

-- one more behind the others
pub joins_theirs : (w : WorldView) (pair : Pair) (local peer : Endpoint) (index : ℕ) (s : Segment) → Says w index local peer s → (frames : List ℕ) (segments : List Segment) → OnWay w pair local peer frames segments
    → OnWay w pair local peer (frames ++ index ∷ []) (segments ++ s ∷ [])
joins_theirs w pair local peer index s says _ _ nothing = theirs index s [] [] says nothing
joins_theirs w pair local peer index s says _ _ (theirs i t frames segments first rest) = theirs i t (frames ++ index ∷ []) (segments ++ s ∷ []) first (joins_theirs w pair local peer index s says frames segments rest)
joins_theirs w pair local peer index s says _ _ (foreign i frames segments first rest) = foreign i (frames ++ index ∷ []) (segments ++ s ∷ []) first (joins_theirs w pair local peer index s says frames segments rest)

pub joins_foreign : (w : WorldView) (pair : Pair) (local peer : Endpoint) (index : ℕ) → IsForeign w index pair → (frames : List ℕ) (segments : List Segment) → OnWay w pair local peer frames segments
    → OnWay w pair local peer (frames ++ index ∷ []) segments
joins_foreign w pair local peer index other _ _ nothing = foreign index [] [] other nothing
joins_foreign w pair local peer index other _ _ (theirs i t frames segments first rest) = theirs i t (frames ++ index ∷ []) segments first (joins_foreign w pair local peer index other frames segments rest)
joins_foreign w pair local peer index other _ _ (foreign i frames segments first rest) = foreign i (frames ++ index ∷ []) segments first (joins_foreign w pair local peer index other frames segments rest)
