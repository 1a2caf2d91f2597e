-- Two connections of a reached world that are each other's ends are the two ends of a talk, so that what holds of each talk holds of them.
use Rattle.std.proofs.Common.{◌≡◌, ℕ, ◌≤◌, ◌^◌, Some, arith, refl, ◌∙◌, ap, subst}
use Rattle.clock.specs.declared.moment.Moment.{Moment}
use Rattle.ipv4.specs.declared.addr.Pair.{Pair}
use Rattle.ipv4.specs.Addresses.{pair_of}
use Rattle.ipv4.proofs.Pairs.{pair_of-swapped}
use Rattle.tcp_halves.proofs.Choices.{neither}
use Rattle.tcp_state.specs.View.{View, is_opening, is_closed}
use Rattle.tcp_state.proofs.Losses.{past_opening}
use Rattle.sockets.specs.declared.entry.SocketId.{SocketId}
use Rattle.sockets.specs.declared.role.Role.TheVariants.{Connected}
use Rattle.sockets.specs.Ids.{has_id}
use Rattle.stream_law.specs.Pairing.{Pairing, Present}
use Rattle.stream_law.proofs.PairingLaw.{shown}
use Rattle.window_law.specs.Windows.{Talks, HearsAcknowledgement, DrawsNone}
use Rattle.window_law.proofs.Meeting.{stands, met, between, flight}
use Rattle.window_law.proofs.Run.{meets, agrees}
use Rattle.window_law.proofs.Acknowledged.{each_heard}
use Rattle.window_law.proofs.Drawing.{draw_none}
use Rattle.host.specs.Sound.{IsSoundHost}
use Rattle.sides.specs.declared.side.Side.{Side}
use Rattle.sides.specs.declared.side.Side.TheVariants.{A, B}
use Rattle.sides.specs.Sides.{other_side}
use Rattle.wire_sim.specs.Openings.{epoch_of}
use Rattle.wire_sim.specs.Runs.{IsReached}
use Rattle.wire_sim.specs.TwoEnds.{AreJoined, KnowsTheOther}
use Rattle.wire_sim.specs.WorldView.{WorldView, host_of, table_of}
use Rattle.wire_sim.proofs.pairing.EndMoves.{pairing}
use Rattle.wire_sim.proofs.pairing.WorldAsPairings.{told}
use Rattle.wire_sim.proofs.progress.EndsMeet.{stands_at}
use Rattle.wire_sim.proofs.runs.RunsAreLawful.{IsOrderly, orderly, orderly-swapped}
use Rattle.wire_sim.proofs.tables.TableById.{Account, role_at, end_with, end_at, found-role}
use Rattle.wire_sim.proofs.two_ends.Meets.{sound_under}

-- the two ends, and a talk that led to them
pub record Talked (limit : ℕ) (v d : View) : Type 0 where
  pub p : Pairing
  pub small : limit ≤ 2 ^ 30
  pub talks : Talks limit p
  pub own : p.own.connection ≡ Present v
  pub other : p.other.connection ≡ Present d

talked_at : (limit : ℕ) (side : Side) (w : WorldView) (id other : SocketId) (v d : View) → IsOrderly limit side (other_side side) w.network w.trace → IsOrderly limit (other_side side) side w.network w.trace → AreJoined w side id other v d → Talked limit v d
talked_at limit side w id other v d o back j = record { p = pairing (end_with (Present v) mine) (end_with (Present d) theirs) (o.bag.out pair epoch) (o.bag.arrived pair epoch); small = o.projects.small; talks = talks; own = refl; other = refl }
  where
    ts : Side
    ts = other_side side

    pair : Pair
    pair = pair_of v.local v.peer

    epoch : ℕ
    epoch = epoch_of w.network.openings pair

    mine : Account
    mine = told side w.trace id

    theirs : Account
    theirs = told ts w.trace other

    entry : (let t = table_of w.network side in role_at t.entries id.0) ≡ Some (Connected v j.listener)
    entry = let t = table_of w.network side in found-role (has_id id) t.entries (record { id = id; role = Connected v j.listener }) o.projects.own_table.sole j.here

    other_entry : (let t = table_of w.network ts in role_at t.entries other.0) ≡ Some (Connected d j.other_listener)
    other_entry = let t = table_of w.network ts in found-role (has_id other) t.entries (record { id = other; role = Connected d j.other_listener }) back.projects.own_table.sole j.there

    ends : pair_of d.local d.peer ≡ pair
    ends = pair_of-swapped d.local d.peer ∙ (ap (λ x. pair_of x d.local) j.ends.peer ∙ ap (λ x. pair_of v.local x) j.ends.local)

    talks : Talks limit (pairing (end_with (Present v) mine) (end_with (Present d) theirs) (o.bag.out pair epoch) (o.bag.arrived pair epoch))
    talks =
        subst (λ e. Talks limit (pairing e (end_with (Present d) theirs) (o.bag.out pair epoch) (o.bag.arrived pair epoch))) (stands_at limit side ts w.network w.trace o id v j.listener entry (neither (is_opening v.state) (is_closed v.state) j.opened).1 pair refl)
        (subst (λ e. Talks limit (pairing (let t = table_of w.network side in end_at side w.network.openings t.entries (told side w.trace) pair epoch) e (o.bag.out pair epoch) (o.bag.arrived pair epoch)))
        (stands_at limit ts side w.network w.trace back other d j.other_listener other_entry (neither (is_opening d.state) (is_closed d.state) j.other_opened).1 pair ends)
        (o.projects.talks pair epoch))

pub talked : (limit : ℕ) (w : WorldView) → IsReached limit w → (side : Side) (id other : SocketId) (v d : View) → AreJoined w side id other v d → Talked limit v d
talked limit w reached A id other v d j = let o = orderly limit w reached in talked_at limit A w id other v d o (orderly-swapped limit A B w.network w.trace o) j
talked limit w reached B id other v d j = let o = orderly limit w reached in talked_at limit B w id other v d (orderly-swapped limit A B w.network w.trace o) o j

-- What each knows of the other.
pub knows : (limit : ℕ) (w : WorldView) → IsReached limit w → (side : Side) (id other : SocketId) (v d : View) → AreJoined w side id other v d → KnowsTheOther v d
knows limit w reached side id other v d j =
    let t = talked limit w reached side id other v d j in
    let p = t.p in
    let o = neither (is_opening v.state) (is_closed v.state) j.opened in
    let b = neither (is_opening d.state) (is_closed d.state) j.other_opened in
    let a = (agrees limit t.small p t.talks).0 v d t.own t.other j.opened j.other_opened in
    let at = met limit p (stands limit t.small p (shown limit p (meets limit p t.talks))) v d t.own t.other o.1 b.1 (past_opening d.state b.0).0 in
    record {
      received = let one = between limit p v d at in let all = flight limit p v d at in omega (arith, one, all, at.sent);
      window = a.window;
      sent = a.sent;
      unit = a.unit;
    }

pub heard : (limit : ℕ) (w : WorldView) → IsReached limit w → (side : Side) → IsSoundHost (host_of w.network side) → IsSoundHost (host_of w.network (other_side side)) → (id other : SocketId) (v d : View) → AreJoined w side id other v d → HearsAcknowledgement v d
heard limit w reached side sound sound_there id other v d j =
    let t = talked limit w reached side id other v d j in
    (each_heard limit t.small t.p t.talks v d t.own t.other j.opened j.other_opened (sound_under (host_of w.network side) id v j.listener sound j.here) (sound_under (host_of w.network (other_side side)) other d j.other_listener sound_there j.there)).0

pub draws : (limit : ℕ) (w : WorldView) → IsReached limit w → (side : Side) → IsSoundHost (host_of w.network side) → IsSoundHost (host_of w.network (other_side side)) → (id other : SocketId) (v d : View) → AreJoined w side id other v d → (now : Moment) → DrawsNone v d now
draws limit w reached side sound sound_there id other v d j now =
    let t = talked limit w reached side id other v d j in
    (draw_none limit t.small t.p t.talks v d t.own t.other j.opened j.other_opened (sound_under (host_of w.network side) id v j.listener sound j.here) (sound_under (host_of w.network (other_side side)) other d j.other_listener sound_there j.there) now).0
