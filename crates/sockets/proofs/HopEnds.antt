-- How the wait of a connection for its hop ends where the timers act first, and then what waits for a lost address is given up.
use Rattle.std.proofs.Common.{◌≡◌, ◌≤◌, ◌<◌, ◌&&◌, ◌||◌, nat_lt, Bool, true, false, if◌then◌else◌, List, [], ◌∷◌, length, Option, Some, None, is_some, refl, sym, ◌∙◌, ap, subst, ℕ, arith}
use Rattle.std.proofs.lemmas.Grind.{common_steps}
use Rattle.std.specs.List.{find}
use Rattle.ipv4.specs.declared.addr.Addr.{Addr}
use Rattle.ipv4.specs.declared.addr.Endpoint.{Endpoint}
use Rattle.clock.specs.declared.moment.Moment.{Moment}
use Rattle.clock.specs.Moments.{after, has_come}
use Rattle.tcp_state.specs.declared.calls.Refusal.TheVariants.{ETIMEDOUT}
use Rattle.tcp_state.specs.declared.connection.Fate.TheVariants.{Stays, Removed}
use Rattle.tcp_state.specs.declared.state.State.{State}
use Rattle.tcp_state.specs.declared.state.State.TheVariants.{Closed, FinWait2, TimeWait}
use Rattle.tcp_state.specs.Edges as edge
use Rattle.tcp_state.specs.Said.{IsClosedBy}
use Rattle.tcp_state.specs.Timing.{KeepsTime, awaits_first, gives_up, after_tick, tick_fate}
use Rattle.tcp_state.specs.View.{View, IsSound, is_opening, is_syn_received, is_closed, is_write_finished, awaits_fin_ack, is_at_end, end_of_wait, after_reset}
use Rattle.tcp_state.proofs.Awaited.{awaits_nothing}
use Rattle.tcp_state.proofs.Clocked.{KeepsTo, expiries_keep}
use Rattle.sockets.specs.declared.entry.Entry.{Entry}
use Rattle.sockets.specs.declared.entry.SocketId.{SocketId}
use Rattle.sockets.specs.declared.role.Role.TheVariants.{Connected}
use Rattle.sockets.specs.Causes.{Event, Ticks}
use Rattle.sockets.specs.Closing.{entry_of}
use Rattle.sockets.specs.Entries.{is_kept, entries_after_steps}
use Rattle.sockets.specs.Ids.{has_id}
use Rattle.sockets.specs.Lost.{is_hopless, give_up_fate_of, role_after_giving_up, after_giving_up}
use Rattle.sockets.specs.Order.{IsOrdered}
use Rattle.sockets.specs.Sound.{IsSoundRole, IsSoundTable}
use Rattle.sockets.specs.SocketsView.{SocketsView, later_moment}
use Rattle.sockets.specs.Steps.{connected, connection_left, IsOneEvent}
use Rattle.sockets.specs.Ticks.{after_tick as table_after_tick}
use Rattle.sockets.specs.Timing.{KeepsTimeIn, EachKeepsTime}
use Rattle.sockets.proofs.ByIds.{left_under, one_id}
use Rattle.sockets.proofs.EventsOnce.{ticks_once}
use Rattle.sockets.proofs.Followed.{by_test}
use Rattle.sockets.proofs.Hopless.{hop_known, hop_idle, hop_early, half_open_early, hop_told, hop_left, half_open_ends}
use Rattle.sockets.proofs.HopTicks.{wait_goes_on}
use Rattle.sockets.proofs.KeptEnds.{keeps-event}
use Rattle.sockets.proofs.OfferCounts.{all-found}
use Rattle.sockets.proofs.Ordered.{stays_ordered}
use Rattle.sockets.proofs.SoundTicks.{tick_sound}
use Rattle.sockets.proofs.Timed.{each_timed}

-- One connection of which something waits.

-- whose own wait, of a state in which nothing of ours is left, is none
nothing_left : (t : State) (released : Bool) (since now : Moment) → has_come (end_of_wait t released since) now ≡ true → (is_opening t ≡ false) × (awaits_fin_ack t ≡ false) × (is_write_finished t ≡ true)
nothing_left TimeWait released since now e = (refl, refl, refl)
nothing_left FinWait2 true since now e = (refl, refl, refl)
nothing_left FinWait2 false since now e = cc
nothing_left _ released since now e = cc

closed_left : (t : State) → is_closed t ≡ true → (is_opening t ≡ false) × (awaits_fin_ack t ≡ false) × (is_write_finished t ≡ true)
closed_left Closed e = (refl, refl, refl)
closed_left _ e = cc

module _ (c : View) (since : Moment) (sound : IsSound c) (keeps : KeepsTime c) (waits : c.unheard ≡ Some since) where
  awaited : awaits_first c ≡ true
  awaited = sym keeps.unheard ∙ ap (λ (o : Option Moment). is_some o) waits

  -- where nothing of ours is left, nothing waits
  finished : (is_opening c.state ≡ false) × (awaits_fin_ack c.state ≡ false) × (is_write_finished c.state ≡ true) → true ≡ false
  finished t =
      let held : length c.sending.held ≡ 0 = none_held c.sending.size (is_opening c.state) (is_write_finished c.state) (length c.sending.held) t.2 sound.held in
      sym awaited ∙ awaits_nothing c t.0 held t.1
    where
      none_held : (size : ℕ) (opens closed : Bool) (n : ℕ) → closed ≡ true → n ≤ (if opens || closed then 0 else size) → n ≡ 0
      none_held size opens closed n e few = grind (arith, common_steps)

  lives_on : (now : Moment) → is_at_end c now ≡ false
  lives_on now = by_test (is_at_end c now) (λ ends. let bad = finished (nothing_left c.state c.released c.since now ends) in cc) (λ on. on)

  pub unowing : c.owes_reset ≡ false
  unowing =
      by_test c.owes_reset
      (λ owes. let closed : is_closed c.state ≡ true = grind (arith, common_steps, sound.reset) in let bad = finished (closed_left c.state closed) in cc)
      (λ other. other)

  ticked : (now : Moment) → gives_up c now ≡ false → KeepsTo c (after_tick c now) × (tick_fate c now ≡ Stays)
  ticked now lives =
      let on = lives_on now in (
        rw (on, lives) (expiries_keep c now),
        rw (on, lives) refl,
      )

-- The table.

-- what isn't there stays away
none_found : (lost : Addr → Bool) (now : Moment) (id : SocketId) (xs : List Entry) → find (has_id id) xs ≡ None → find (has_id id) (entries_after_steps (give_up_fate_of lost now) (role_after_giving_up lost now) xs) ≡ None
none_found lost now id [] none = refl
none_found lost now id (x ∷ xs) none =
    by_test (has_id id x)
    (λ here. let bad : find (has_id id) (x ∷ xs) ≡ Some x = rw here refl in cc)
    (λ there.
    let rest = none_found lost now id xs (rw there at none) in
    by_test (is_kept (give_up_fate_of lost now x.role)) (λ kept. rw (kept, there) rest) (λ gone. rw gone rest))

pub later_again : (k n : Moment) → let m : Moment = if nat_lt k.0 n.0 then n else k in ◌≡◌ {A = Moment} (if nat_lt m.0 n.0 then n else m) m
later_again k n = by_order (nat_lt k.0 n.0) refl
  where
    same : (b : Bool) → ◌≡◌ {A = Moment} (if b then n else n) n
    same true = refl
    same false = refl

    by_order : (b : Bool) → nat_lt k.0 n.0 ≡ b → let m : Moment = if b then n else k in ◌≡◌ {A = Moment} (if nat_lt m.0 n.0 then n else m) m
    by_order true later = same (nat_lt n.0 n.0)
    by_order false before = ap (λ (b : Bool). if b then n else k) before

module _ (h : SocketsView) (lost : Addr → Bool) (now : Moment) (id : SocketId) (c : View) (listener : Option SocketId) (o : IsOrdered h) (is : entry_of h id ≡ Some (connected id c listener)) (sound : IsSoundTable h) (keeps : EachKeepsTime h) where
  abbrev by_then : Moment
  by_then = later_moment h now

  abbrev timers : SocketsView
  timers = table_after_tick h now

  solid : IsSoundRole (Connected c listener)
  solid = all-found (λ (x : Entry). IsSoundRole x.role) (has_id id) h.entries (connected id c listener) sound.entries is

  timed : KeepsTimeIn (Connected c listener)
  timed = all-found (λ (x : Entry). KeepsTimeIn x.role) (has_id id) h.entries (connected id c listener) keeps is

  still_ordered : IsOrdered timers
  still_ordered = stays_ordered h (Ticks now) tt o

  still_sound : IsSoundTable timers
  still_sound = tick_sound h now sound

  still_timed : EachKeepsTime timers
  still_timed = each_timed h (Ticks now) sound tt keeps

  left : entry_of timers id ≡ connection_left h (Ticks now) id c listener
  left =
      let e : Event = Ticks now in
      let under = left_under (IsOneEvent h e) (one_id h e) id 0 h.last_id h.entries timers.entries (ticks_once h now) o.ids (connected id c listener) is in
      under.2 ∙ under.1

  same_moment : later_moment timers now ≡ by_then
  same_moment = later_again h.kept now

  -- what the timers took out is gone
  gone_by_timers : tick_fate c by_then ≡ Removed → entry_of (after_giving_up timers lost now) id ≡ None
  gone_by_timers removed =
      let out : is_kept (tick_fate c by_then) ≡ false = ap is_kept removed in
      let none : entry_of timers id ≡ None = left ∙ rw out refl in
      none_found lost (later_moment timers now) id timers.entries none

  kept_by_timers : (d : View) → after_tick c by_then ≡ d → tick_fate c by_then ≡ Stays → entry_of timers id ≡ Some (connected id d listener)
  kept_by_timers d same stays =
      let kept : is_kept (tick_fate c by_then) ≡ true = ap is_kept stays in
      let there : entry_of timers id ≡ Some (connected id (after_tick c by_then) listener) = left ∙ rw kept refl in
      there ∙ ap (λ (v : View). Some (connected id v listener)) same

  -- its hop is known: it is as its timers leave it
  pub known_at_tick : lost c.peer.addr ≡ false → entry_of (after_giving_up timers lost now) id ≡ connection_left h (Ticks now) id c listener
  known_at_tick reached =
      by_test (is_kept (tick_fate c by_then))
      (λ kept.
      let d : View = after_tick c by_then in
      let there : entry_of timers id ≡ Some (connected id d listener) = left ∙ rw kept refl in
      let near : lost d.peer.addr ≡ false = ap (λ (p : Endpoint). lost p.addr) (let ends = keeps-event c (edge.Ticks by_then) in ends.peer) ∙ reached in
      hop_known timers lost now id d listener still_ordered there near ∙ sym there ∙ left)
      (λ out.
      let none : entry_of timers id ≡ None = left ∙ rw out refl in
      none_found lost (later_moment timers now) id timers.entries none ∙ sym none ∙ left)

  module _ (since : Moment) (waits : c.unheard ≡ Some since) where
    -- it goes on past its timers, or was given up by them
    given_by_timers : gives_up c by_then ≡ true → (after_tick c by_then ≡ after_reset c (Some ETIMEDOUT)) × (tick_fate c by_then ≡ (if c.released || (c.passive && is_syn_received c.state) then Removed else Stays))
    given_by_timers over = let on = lives_on c since solid.sound timed.0 waits by_then in (rw (on, over) refl, rw (on, over) refl)

    module _ (lives : gives_up c by_then ≡ false) where
      abbrev d : View
      d = after_tick c by_then

      like : KeepsTo c d
      like = (ticked c since solid.sound timed.0 waits by_then lives).0

      there : entry_of timers id ≡ Some (connected id d listener)
      there = kept_by_timers d refl (ticked c since solid.sound timed.0 waits by_then lives).1

      waits_on : d.unheard ≡ Some since
      waits_on = wait_goes_on c by_then since timed.0 waits (lives_on c since solid.sound timed.0 waits by_then) lives

      unowing_on : d.owes_reset ≡ false
      unowing_on = ap (λ (v : View). v.owes_reset) like ∙ unowing c since solid.sound timed.0 waits

      half_on : (d.passive && is_syn_received d.state) ≡ (c.passive && is_syn_received c.state)
      half_on = ap (λ (v : View). v.passive && is_syn_received v.state) like

      hopless_on : lost c.peer.addr ≡ true → is_hopless lost d ≡ true
      hopless_on unreached = let far : lost d.peer.addr ≡ true = ap (λ (v : View). lost v.peer.addr) like ∙ unreached in rw (unowing_on, far) refl

      over_on : (m : Moment) → m.0 ≤ by_then.0 → m.0 ≤ (let later = later_moment timers now in later.0)
      over_on m over = subst (λ (at : Moment). m.0 ≤ at.0) (sym same_moment) over

      early_on : (m : Moment) → by_then.0 < m.0 → (let later = later_moment timers now in later.0 < m.0)
      early_on m early = subst (λ (at : Moment). at.0 < m.0) (sym same_moment) early

    pub told_at_tick : lost c.peer.addr ≡ true → (c.passive && is_syn_received c.state) ≡ false → c.released ≡ false → (let end = after since 483000 in end.0) ≤ by_then.0
        → (d : View) × (entry_of (after_giving_up timers lost now) id ≡ Some (connected id d listener)) × IsClosedBy ETIMEDOUT d
    told_at_tick unreached past held over =
        by_test (gives_up c by_then)
        (λ gives.
        let ended : View = after_reset c (Some ETIMEDOUT) in
        let given = given_by_timers gives in
        let stays : tick_fate c by_then ≡ Stays = given.1 ∙ ap (λ (b : Bool). if b || (c.passive && is_syn_received c.state) then Removed else Stays) held ∙ ap (λ (b : Bool). if b then Removed else Stays) past in
        let at = kept_by_timers ended given.0 stays in
        (ended, hop_idle timers lost now id ended listener still_ordered at (unowing c since solid.sound timed.0 waits) refl, record { closed = refl; send = λ octets. refl; recv = λ len. refl; shutdown = refl }))
        (λ lives.
        let v : View = d lives in
        let released : v.released ≡ false = ap (λ (w : View). w.released) (like lives) ∙ held in
        let told = hop_told timers lost now id v listener still_ordered (there lives) still_sound still_timed (hopless_on lives unreached) since (waits_on lives) (half_on lives ∙ past) released (over_on lives (after since 483000) over) in
        (told.0, told.1, told.2.told))

    pub left_at_tick : lost c.peer.addr ≡ true → (c.passive && is_syn_received c.state) ≡ false → c.released ≡ true → (let end = after since 483000 in end.0) ≤ by_then.0 → entry_of (after_giving_up timers lost now) id ≡ None
    left_at_tick unreached past gone over =
        by_test (gives_up c by_then)
        (λ gives. gone_by_timers ((given_by_timers gives).1 ∙ ap (λ (b : Bool). if b || (c.passive && is_syn_received c.state) then Removed else Stays) gone))
        (λ lives.
        let v : View = d lives in
        let released : v.released ≡ true = ap (λ (w : View). w.released) (like lives) ∙ gone in
        hop_left timers lost now id v listener still_ordered (there lives) still_sound still_timed (hopless_on lives unreached) since (waits_on lives) (half_on lives ∙ past) released (over_on lives (after since 483000) over))

    pub half_open_at_tick : lost c.peer.addr ≡ true → (c.passive && is_syn_received c.state) ≡ true → (let end = after since 3000 in end.0) ≤ by_then.0 → entry_of (after_giving_up timers lost now) id ≡ None
    half_open_at_tick unreached opens over =
        by_test (gives_up c by_then)
        (λ gives. gone_by_timers ((given_by_timers gives).1 ∙ taken_out c.released (c.passive && is_syn_received c.state) opens))
        (λ lives.
        half_open_ends timers lost now id (d lives) listener still_ordered (there lives) still_sound still_timed (hopless_on lives unreached) since (waits_on lives) (half_on lives ∙ opens) (over_on lives (after since 3000) over))
      where
        taken_out : (released opening : Bool) → opening ≡ true → (if released || opening then Removed else Stays) ≡ Removed
        taken_out released opening e = grind (arith, common_steps)

    -- before that it is as its timers leave it
    pub early_at_tick : (c.passive && is_syn_received c.state) ≡ false → gives_up c by_then ≡ false → by_then.0 < (let end = after since 483000 in end.0) → entry_of (after_giving_up timers lost now) id ≡ connection_left h (Ticks now) id c listener
    early_at_tick past lives early =
        hop_early timers lost now id (d lives) listener still_ordered (there lives) since (unowing_on lives) (waits_on lives) (half_on lives ∙ past) (early_on lives (after since 483000) early) ∙ sym (there lives) ∙ left

    pub half_open_early_at_tick : (c.passive && is_syn_received c.state) ≡ true → gives_up c by_then ≡ false → by_then.0 < (let end = after since 3000 in end.0) → entry_of (after_giving_up timers lost now) id ≡ connection_left h (Ticks now) id c listener
    half_open_early_at_tick opens lives early =
        half_open_early timers lost now id (d lives) listener still_ordered (there lives) since (unowing_on lives) (waits_on lives) (half_on lives ∙ opens) (early_on lives (after since 3000) early) ∙ sym (there lives) ∙ left
