-- Why a tick of a host with one connection that lives is one of that connection.
use Rattle.std.proofs.Common.{◌≡◌, not, nat_lt, Bool, true, false, List, ◌∷◌, ◌++◌, Some, None, refl, ◌∙◌, ap, subst}
use Rattle.std.specs.List.{AllByRecursion, retain_mut}
use Rattle.clock.specs.declared.moment.Moment.{Moment}
use Rattle.ipv4.specs.declared.addr.Addr.{Addr}
use Rattle.ipv4.specs.declared.addr.Endpoint.{Endpoint}
use Rattle.interface.specs.Ways.{knows_hop}
use Rattle.tcp_halves.proofs.Choices.{either, by}
use Rattle.tcp_state.specs.declared.calls.Refusal.TheVariants.{ETIMEDOUT}
use Rattle.tcp_state.specs.View.{View, is_closed, is_at_end, after_stop, after_reset}
use Rattle.tcp_state.specs.Timing.{gives_up, after_tick as after_tick_of, tick_fate}
use Rattle.tcp_state.proofs.Clocked.{expiries_keep}
use Rattle.tcp_state.proofs.ResetAges.{live}
use Rattle.sockets.specs.declared.entry.Entry.{Entry}
use Rattle.sockets.specs.declared.entry.SocketId.{SocketId}
use Rattle.sockets.specs.declared.role.Role.{Role}
use Rattle.sockets.specs.declared.role.Role.TheVariants.{Connected}
use Rattle.sockets.specs.Entries.{is_kept, with_role, role_after_tick, tick_fate_of, entries_after_steps}
use Rattle.sockets.specs.Lost.{give_up_fate_of, role_after_giving_up}
use Rattle.sockets.specs.Sound.{IsSoundRole}
use Rattle.sockets.specs.SocketsView.{SocketsView, later_moment}
use Rattle.sockets.specs.Steps.{connected}
use Rattle.sockets.specs.Ticks.{after_tick as table_ticked}
use Rattle.sockets.specs.Timing.{KeepsTimeIn}
use Rattle.host.specs.HostView.{HostView}
use Rattle.host.specs.Ticks.{lacks_hop, after_tick}
use Rattle.host.proofs.Waiting.{later-twice}
use Rattle.round_law.specs.Alone.{IsKept, IsSilent, IsAlone}
use Rattle.round_law.proofs.Retained.{StaysSame, one_retained, all_front, all_back, all_by}
use Rattle.round_law.proofs.Silent.{silent_stays}

-- a connection that goes on is kept
pub live_stays : (c : View) (now : Moment) → is_closed (after_tick_of c now).state ≡ false → is_kept (tick_fate c now) ≡ true
live_stays c now lives =
    by (is_kept (tick_fate c now) ≡ true) (is_at_end c now) (λ ends. let no : is_closed (after_tick_of c now).state ≡ true = rw ends refl in cc)
    (λ waits. by (is_kept (tick_fate c now) ≡ true) (gives_up c now) (λ over. let no : is_closed (after_tick_of c now).state ≡ true = rw (waits, over) refl in cc) (λ goes_on. rw (waits, goes_on) refl))

-- a connection to an address that isn't lost is as it was
near_kept : (lost : Addr → Bool) (now : Moment) (c : View) → lost c.peer.addr ≡ false → c.owes_reset ≡ false → (is_kept (give_up_fate_of lost now (Connected c None)) ≡ true) × (role_after_giving_up lost now (Connected c None) ≡ Connected c None)
near_kept lost now c near none = (rw (none, near) refl, rw (none, near) refl)

-- so many times told, a moment is that moment
later_same : (t : SocketsView) (now : Moment) → t.kept ≡ now → later_moment t now ≡ now
later_same t now same = either Moment (λ m. m ≡ now) (nat_lt t.kept.0 now.0) now t.kept (λ before. refl) (λ not_before. same)

module _ (lost : Addr → Bool) (m n : Moment) where
  silent_ticked : (e : Entry) → IsSilent e → IsSoundRole e.role → KeepsTimeIn e.role → StaysSame (λ x. is_kept (tick_fate_of m x.role)) (with_role (role_after_tick m)) e
  silent_ticked e silent sound keeps = let s = silent_stays lost m e.role silent.nothing silent.closed sound keeps in (s.kept, ap (λ (r : Role). record e { role = r }) s.same)

  silent_kept : (e : Entry) → IsSilent e → IsSoundRole e.role → KeepsTimeIn e.role → StaysSame (λ x. is_kept (give_up_fate_of lost n x.role)) (with_role (role_after_giving_up lost n)) e
  silent_kept e silent sound keeps = let s = silent_stays lost n e.role silent.nothing silent.closed sound keeps in (s.not_lost, ap (λ (r : Role). record e { role = r }) s.not_given_up)

  -- of a table with one connection that lives a tick leaves all as it was but that
  entries_ticked : (before behind : List Entry) (id : SocketId) (c : View) → AllByRecursion IsSilent before → AllByRecursion IsSilent behind → AllByRecursion (λ (e : Entry). IsSoundRole e.role) (before ++ connected id c None ∷ behind)
      → AllByRecursion (λ (e : Entry). KeepsTimeIn e.role) (before ++ connected id c None ∷ behind) → is_kept (tick_fate c m) ≡ true → lost (after_tick_of c m).peer.addr ≡ false → (after_tick_of c m).owes_reset ≡ false
      → entries_after_steps (give_up_fate_of lost n) (role_after_giving_up lost n) (entries_after_steps (tick_fate_of m) (role_after_tick m) (before ++ connected id c None ∷ behind)) ≡ before ++ connected id (after_tick_of c m) None ∷ behind
  entries_ticked before behind id c front back sound keeps kept near none =
      let x = connected id c None in
      let w = after_tick_of c m in
      let sound_back = all_back (λ (e : Entry). IsSoundRole e.role) before (x ∷ behind) sound in
      let keeps_back = all_back (λ (e : Entry). KeepsTimeIn e.role) before (x ∷ behind) keeps in
      let sound_front = all_front (λ (e : Entry). IsSoundRole e.role) before (x ∷ behind) sound in
      let keeps_front = all_front (λ (e : Entry). KeepsTimeIn e.role) before (x ∷ behind) keeps in
      let ticks = all_by IsSilent (λ (e : Entry). IsSoundRole e.role) (λ (e : Entry). KeepsTimeIn e.role) (StaysSame (λ e. is_kept (tick_fate_of m e.role)) (with_role (role_after_tick m))) silent_ticked in
      let gives = all_by IsSilent (λ (e : Entry). IsSoundRole e.role) (λ (e : Entry). KeepsTimeIn e.role) (StaysSame (λ e. is_kept (give_up_fate_of lost n e.role)) (with_role (role_after_giving_up lost n))) silent_kept in
      let stays_near = near_kept lost n w near none in
      ap (λ (l : List Entry). retain_mut (λ e. is_kept (give_up_fate_of lost n e.role)) (with_role (role_after_giving_up lost n)) l)
      (one_retained (λ e. is_kept (tick_fate_of m e.role)) (with_role (role_after_tick m)) before x behind (ticks before front sound_front keeps_front) (ticks behind back sound_back.1 keeps_back.1) kept)
      ∙ (one_retained (λ e. is_kept (give_up_fate_of lost n e.role)) (with_role (role_after_giving_up lost n)) before (connected id w None) behind (gives before front sound_front keeps_front) (gives behind back sound_back.1 keeps_back.1) stays_near.0
      ∙ ap (λ (r : Role). before ++ record { id = id; role = r } ∷ behind) stays_near.1)

-- what a tick by which it goes on leaves of a connection
live_keeps : (c : View) (now : Moment) → is_closed (after_tick_of c now).state ≡ false → ((after_tick_of c now).peer ≡ c.peer) × ((after_tick_of c now).owes_reset ≡ c.owes_reset) × ((after_tick_of c now).released ≡ c.released)
live_keeps c now lives =
    let P : View → Type 0 = λ w. is_closed w.state ≡ false → (w.peer ≡ c.peer) × (w.owes_reset ≡ c.owes_reset) × (w.released ≡ c.released) in
    let same = expiries_keep c now in
    either View P (is_at_end c now) (after_stop c) _ (λ ends alive. cc)
    (λ waits. either View P (gives_up c now) (after_reset c (Some ETIMEDOUT)) _ (λ over alive. cc)
    (λ goes_on alive. (ap (λ (w : View). w.peer) same, ap (λ (w : View). w.owes_reset) same, ap (λ (w : View). w.released) same))) lives

pub ticked_alone : (h : HostView) (id : SocketId) (c : View) (now : Moment) → IsKept h → IsAlone h id c → knows_hop h.interface (later_moment h.sockets now) c.peer.addr ≡ true
    → is_closed (after_tick_of c (later_moment h.sockets now)).state ≡ false → IsAlone (after_tick h now) id (after_tick_of c (later_moment h.sockets now))
ticked_alone h id c now kept alone known lives =
    let moment = later_moment h.sockets now in
    let twice = later-twice h.sockets now in
    let w = after_tick_of c moment in
    let keeps = live_keeps c moment lives in
    let sound = subst (λ (l : List Entry). AllByRecursion (λ (e : Entry). IsSoundRole e.role) l) alone.entries (let t = kept.sound.table in t.entries) in
    let time = subst (λ (l : List Entry). AllByRecursion (λ (e : Entry). KeepsTimeIn e.role) l) alone.entries kept.time in
    let own = (all_back (λ (e : Entry). IsSoundRole e.role) alone.before (connected id c None ∷ alone.behind) sound).0 in
    let near : lacks_hop h moment w.peer.addr ≡ false = ap (λ (p : Endpoint). lacks_hop h moment p.addr) keeps.0 ∙ ap not known in
    let t : SocketsView = table_ticked h.sockets moment in
    let second : later_moment t moment ≡ moment = later_same t moment twice in
    record {
      before = alone.before;
      behind = alone.behind;
      entries =
          ap (λ (m : Moment). entries_after_steps (give_up_fate_of (lacks_hop h moment) m) (role_after_giving_up (lacks_hop h moment) m) t.entries) second
          ∙ (ap (λ (m : Moment). entries_after_steps (give_up_fate_of (lacks_hop h moment) moment) (role_after_giving_up (lacks_hop h moment) moment) (entries_after_steps (tick_fate_of m) (role_after_tick m) h.sockets.entries)) twice
          ∙ (ap (λ (l : List Entry). entries_after_steps (give_up_fate_of (lacks_hop h moment) moment) (role_after_giving_up (lacks_hop h moment) moment) (entries_after_steps (tick_fate_of moment) (role_after_tick moment) l)) alone.entries
          ∙ entries_ticked (lacks_hop h moment) moment moment alone.before alone.behind id c alone.silent_before alone.silent_behind sound time (live_stays c moment lives) near (keeps.1 ∙ live c own.sound alone.lives)));
      named = alone.named;
      silent_before = alone.silent_before;
      silent_behind = alone.silent_behind;
      lives = lives;
      called = keeps.2 ∙ alone.called;
    }
