-- A host of a world that is quiet is one as the law of a round asks: it knows the way to the other host a minute later, and what it tells of fragments is for that host.
use Rattle.std.proofs.Common.{◌≡◌, ◌||◌, ℕ, ◌<◌, ◌^◌, ◌+◌, false, List, Option, Some, None, option_map, arith, refl, sym, ◌∙◌, ap, subst}
use Rattle.std.specs.List.{find, AllByRecursion}
use Rattle.clock.specs.declared.moment.Moment.{Moment}
use Rattle.ipv4.specs.declared.addr.Addr.{Addr}
use Rattle.arp.specs.Cache.{is_pair_of}
use Rattle.reassembly.specs.declared.expired.Expired.{Expired}
use Rattle.reassembly.specs.Places.{expired}
use Rattle.tcp_state.specs.Progress.{AllCome}
use Rattle.tcp_state.specs.View.{View, is_closed, is_opening}
use Rattle.sockets.specs.declared.entry.Entry.{Entry}
use Rattle.sockets.specs.declared.entry.SocketId.{SocketId}
use Rattle.sockets.specs.declared.role.Role.{Role}
use Rattle.sockets.specs.declared.role.Role.TheVariants.{Connected}
use Rattle.sockets.specs.Entries.{is_socket}
use Rattle.sockets.specs.Timing.{IsNear, IsNearIn, AreNear}
use Rattle.host.specs.Heard.{shuts_out}
use Rattle.host.specs.HostView.{HostView}
use Rattle.host.specs.Sound.{IsSoundHost}
use Rattle.round_law.specs.Exchange.{minute_past}
use Rattle.round_law.specs.Progress as law
use Rattle.round_law.proofs.Lately.{known_later}
use Rattle.sides.specs.declared.side.Side.{Side}
use Rattle.sides.specs.Sides.{other_side}
use Rattle.wire_sim.specs.Neighbours.{IsPairOf, LeadsToTheOther}
use Rattle.wire_sim.specs.Passage.{addr_at, mac_at}
use Rattle.wire_sim.specs.Progress.{IsQuiet}
use Rattle.wire_sim.specs.Runs.{IsReached}
use Rattle.wire_sim.specs.WorldView.{WorldView, host_of, clock_of}
use Rattle.wire_sim.proofs.HostsRun.{tables-near}
use Rattle.wire_sim.proofs.hops.OpenConnectionsLead.{connections-lead}
use Rattle.wire_sim.proofs.lists.FoundAfterChange.{All-find}
use Rattle.wire_sim.proofs.passage.LetIn.{neighbours-let-in}
use Rattle.wire_sim.proofs.passage.NeighboursAreOthers.{neighbours-others}
use Rattle.wire_sim.proofs.progress.PoolsAreOthers.{reports-from}
use Rattle.wire_sim.proofs.runs.ClocksAreKept.{clocks-kept, hosts-kept}

-- what holds of the role of each entry holds of a socket's
of-socket : (P : Role → Type 0) (id : SocketId) (role : Role) (xs : List Entry) (o : Option Entry) → AllByRecursion (λ (e : Entry). P e.role) xs → find (is_socket id) xs ≡ o → option_map (λ (e : Entry). e.role) o ≡ Some role → P role
of-socket P id role xs None all at is = cc
of-socket P id role xs (Some e) all at is = let same : e.role ≡ role = cc in subst P same (All-find (λ (x : Entry). P x.role) (is_socket id) xs e all at)

pub quiet-host : (limit : ℕ) (w : WorldView) → IsReached limit w → (side : Side) (id : SocketId) (c : View) → IsSoundHost (host_of w.network side) → IsQuiet w.network side id c → is_opening c.state ≡ false → is_closed c.state ≡ false
    → c.peer.addr ≡ addr_at w.network (other_side side) → law.IsQuiet (host_of w.network side) id c (mac_at w.network (other_side side))
quiet-host limit w run side id c sound quiet past lives peer = record {
  kept = hosts-kept limit w run side sound;
  socket = quiet.socket;
  lives = lives;
  others = quiet.others;
  nothing = quiet.nothing;
  come = all_come;
  way = known_later h.interface h.sockets.kept c.peer.addr (mac_at w.network other) heard early;
  reports = subst (λ (a : Addr). AllByRecursion (λ (x : Expired). x.key.source ≡ a) (expired (minute_past h.sockets.kept) h.pool)) (sym peer) (reports-from limit w run side (minute_past h.sockets.kept));
  lets = ap (shuts_out h) (peer ∙ sym known.0) ∙ neighbours-let-in limit w run side (is_pair_of (addr_at w.network other)) quiet.other quiet.heard;
  drawn = near_by_now.drawn;
  early = early;
}
  where
    h : HostView
    h = host_of w.network side

    other : Side
    other = other_side side

    known : IsPairOf w.network other quiet.other
    known = All-find (IsPairOf w.network other) (is_pair_of (addr_at w.network other)) h.interface.cache.pairs quiet.other (neighbours-others limit w run side) quiet.heard

    shown : clock_of w.network side ≡ h.sockets.kept
    shown = clocks-kept limit w run side

    near : AreNear (clock_of w.network side) h.sockets
    near = tables-near limit w run side

    near_by_now : IsNear h.sockets.kept c
    near_by_now =
        subst (λ (m : Moment). IsNear m c) shown
        (of-socket (IsNearIn (clock_of w.network side)) id (Connected c None) h.sockets.entries (find (is_socket id) h.sockets.entries) near.each refl quiet.socket)

    early : h.sockets.kept.0 < 2 ^ 63
    early = subst (λ (m : Moment). m.0 < 2 ^ 63) shown quiet.early

    all_come : AllCome c.timers (minute_past h.sockets.kept)
    all_come kind deadline runs = let by_then = near_by_now.timers kind deadline runs in omega (arith, by_then, early)

    leads : LeadsToTheOther w.network side (Connected c None)
    leads = of-socket (LeadsToTheOther w.network side) id (Connected c None) h.sockets.entries (find (is_socket id) h.sockets.entries) (connections-lead limit w run side) refl quiet.socket

    heard : law.IsHeardLately h.interface h.sockets.kept c.peer.addr (mac_at w.network other)
    heard = record {
      hop = addr_at w.network other;
      leads = leads (ap (λ b. b || is_closed c.state) past ∙ lives);
      pair = quiet.other;
      known = quiet.heard;
      its_mac = known.1;
      lately = subst (λ (m : Moment). m.0 < quiet.other.heard.0 + 1100000) shown quiet.lately;
    }
