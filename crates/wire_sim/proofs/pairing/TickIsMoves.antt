-- A step of every entry of a table, as a tick is one, is a move of every pairing whose end it changes.
use Rattle.std.proofs.Common.{◌≡◌, ℕ, ◌&&◌, ◌||◌, inl, inr, Bool, true, false, cond, if◌then◌else◌, List, Option, Some, None, refl, sym, ◌∙◌, ap, subst}
use Rattle.std.specs.List.{find}
use Rattle.ipv4.specs.declared.addr.Addr.{Addr}
use Rattle.ipv4.specs.declared.addr.Pair.{Pair}
use Rattle.tcp_state.specs.Edges as edge
use Rattle.tcp_state.specs.declared.connection.Fate.{Fate}
use Rattle.tcp_state.specs.declared.connection.Fate.TheVariants.{Stays, Removed}
use Rattle.clock.specs.declared.moment.Moment.{Moment}
use Rattle.clock.specs.Moments.{has_come}
use Rattle.tcp_state.specs.declared.calls.Refusal.TheVariants.{ETIMEDOUT}
use Rattle.tcp_state.specs.View.{View, is_syn_received, is_at_end, after_stop, after_reset}
use Rattle.tcp_state.specs.Alive.{after_silence}
use Rattle.tcp_state.specs.Hop.{unheard_until, after_hopless, hopless_fate}
use Rattle.tcp_state.specs.Timing.{clocked, gives_up, after_timers, after_tick}
use Rattle.sides.specs.declared.side.Side.{Side}
use Rattle.wire_sim.specs.declared.event.Opening.{Opening}
use Rattle.wire_sim.specs.declared.event.Happening.{Happening}
use Rattle.sockets.specs.declared.entry.SocketId.{SocketId}
use Rattle.sockets.specs.declared.role.Role.{Role}
use Rattle.sockets.specs.declared.role.Role.TheVariants.{Idle, Listener, Connected, Datagrams}
use Rattle.sockets.specs.Entries.{in_connection, is_kept, entries_after_steps, role_after_tick, tick_fate_of}
use Rattle.sockets.specs.Ticks as table_ticks
use Rattle.sockets.specs.Lost.{is_given_up, is_hopless, loses_hop, give_up_fate_of, role_after_giving_up, after_giving_up}
use Rattle.sockets.specs.SocketsView.{SocketsView, later_moment}
use Rattle.stream_law.specs.ChannelViews.{Stops}
use Rattle.stream_law.specs.Pairing.{Pairing, Present, Departed}
use Rattle.window_law.specs.Windows.{Talks}
use Rattle.window_law.proofs.Quiet.{tick_keeps, rests, stops, leaves}
use Rattle.stream_law.proofs.Clock.{same-acted}
use Rattle.stream_law.proofs.PairingEndings.{stops-at_end, stops-told}
use Rattle.wire_sim.specs.Tallies.{is_opening_of}
use Rattle.wire_sim.proofs.tables.EntryChanges.{opened-kept}
use Rattle.wire_sim.proofs.pairing.EndMoves.{pairing, EndGoes, moved, end-stays}
use Rattle.sockets.proofs.KeptEnds.{keeps-event}
use Rattle.wire_sim.proofs.pairing.WorldAsPairings.{told, Bag, Projects, projects-turned}
use Rattle.wire_sim.proofs.tables.TableById.{Account, role_at, settle, settle_each, role_at-settled, sole-settled, presence_in, end_with, end_of, end_at, IsNoted, MayOpen, IsTable}

-- what is left of an entry
pub left-behind : (fate : Role → Fate) (g : Role → Role) (o : Option Role) (r : Role) → settle_each fate g o ≡ Some r → (q : Role) × (o ≡ Some q) × (is_kept (fate q) ≡ true) × (g q ≡ r)
left-behind fate g None r e = cc
left-behind fate g (Some q) r e = by_fate (is_kept (fate q)) refl e
  where
    by_fate : (b : Bool) → is_kept (fate q) ≡ b → cond b (Some (g q)) None ≡ Some r → (p : Role) × (Some q ≡ Some p) × (is_kept (fate p) ≡ true) × (g p ≡ r)
    by_fate true is e = (q, refl, is, cc)
    by_fate false is e = cc

-- Each entry takes a step that is moves of its end, if it has one.
pub projects-settled : (limit : ℕ) (hs ts : Side) (a b : Addr) (own own' other : SocketsView) (bag : Bag) (openings : List Opening) (trace : List Happening) (fate : Role → Fate) (g : Role → Role) → own'.addr ≡ own.addr → own'.last_id ≡ own.last_id
    → own'.entries ≡ entries_after_steps fate g own.entries → ((id : SocketId) (q : Role) → IsNoted hs a openings id q → IsNoted hs a openings id (g q))
    → ((t : Account) (q : Role) → EndGoes limit (end_with (presence_in (Some q)) t) (end_with (presence_in (settle (fate q) g q)) t))
    → Projects limit hs ts a b own other bag openings trace → Projects limit hs ts a b own' other bag openings trace
projects-settled limit hs ts a b own own' other bag openings trace fate g addr last becomes noted goes h =
    projects-turned limit hs ts a b own own' other bag openings trace trace h (record {
      addr = addr;
      table = subst (λ xs. IsTable hs a own'.last_id xs openings (told hs trace)) (sym becomes) (subst (λ n. IsTable hs a n (entries_after_steps fate g own.entries) openings (told hs trace)) (sym last) (record {
        sole = sole-settled fate g own.entries h.own_table.sole;
        bound = λ id r at. let was = before id r at in h.own_table.bound id was.0 was.1;
        noted = λ id r at. let was = before id r at in subst (λ q. IsNoted hs a openings id q) was.3 (noted id was.0 (h.own_table.noted id was.0 was.1));
        later = h.own_table.later;
        silent = λ id none may. h.own_table.silent id none (earlier id may);
      }));
      other_told = λ i. refl;
      talks = λ pair epoch. by_found pair epoch (find (is_opening_of hs pair epoch) openings) refl;
    })
  where
    before : (id : SocketId) (r : Role) → role_at (entries_after_steps fate g own.entries) id.0 ≡ Some r → (q : Role) × (role_at own.entries id.0 ≡ Some q) × (is_kept (fate q) ≡ true) × (g q ≡ r)
    before id r at = left-behind fate g (role_at own.entries id.0) r (sym (role_at-settled fate g own.entries id.0 (h.own_table.sole id.0)) ∙ at)

    earlier : (id : SocketId) → MayOpen own.last_id (entries_after_steps fate g own.entries) id → MayOpen own.last_id own.entries id
    earlier id (inl above) = inl above
    earlier id (inr at) = let was = before id at.0 at.1 in inr (was.0, was.1)

    each : (t : Account) (o : Option Role) → EndGoes limit (end_with (presence_in o) t) (end_with (presence_in (settle_each fate g o)) t)
    each t None = end-stays limit (end_with Departed t) (end_with Departed t) refl
    each t (Some q) = goes t q

    by_found : (pair : Pair) (epoch : ℕ) (o : Option Opening) → find (is_opening_of hs pair epoch) openings ≡ o
        → Talks limit (pairing (end_at hs openings own'.entries (told hs trace) pair epoch) (end_at ts openings other.entries (told ts trace) pair epoch) (bag.out pair epoch) (bag.arrived pair epoch))
    by_found pair epoch None at =
        subst (λ e. Talks limit (pairing e (end_at ts openings other.entries (told ts trace) pair epoch) (bag.out pair epoch) (bag.arrived pair epoch)))
        (ap (end_of own.entries (told hs trace)) at ∙ sym (ap (end_of own'.entries (told hs trace)) at)) (h.talks pair epoch)
    by_found pair epoch (Some o) at =
        let there = end_at ts openings other.entries (told ts trace) pair epoch in
        let now : role_at own'.entries o.id.0 ≡ settle_each fate g (role_at own.entries o.id.0) = ap (λ xs. role_at xs o.id.0) becomes ∙ role_at-settled fate g own.entries o.id.0 (h.own_table.sole o.id.0) in
        subst (λ e. Talks limit (pairing e there (bag.out pair epoch) (bag.arrived pair epoch))) (sym (ap (end_of own'.entries (told hs trace)) at ∙ ap (λ r. end_with (presence_in r) (told hs trace o.id)) now))
        (each (told hs trace o.id) (role_at own.entries o.id.0) there (bag.out pair epoch) (bag.arrived pair epoch)
        (subst (λ e. Talks limit (pairing e there (bag.out pair epoch) (bag.arrived pair epoch))) (ap (end_of own.entries (told hs trace)) at) (h.talks pair epoch)))

-- what is over is taken out or stays
over_goes : (limit : ℕ) (t : Account) (c w : View) (l : Option SocketId) → Stops c w → (out_of_table : Bool)
    → EndGoes limit (end_with (Present c) t) (end_with (presence_in (cond (is_kept (if out_of_table then Removed else Stays)) (Some (Connected w l)) None)) t)
over_goes limit t c w l over true there out arrived = let was = pairing (end_with (Present c) t) there out arrived in moved limit was (pairing (end_with Departed t) there out arrived) (leaves limit was c t.closed refl (λ e. e))
over_goes limit t c w l over false there out arrived = let was = pairing (end_with (Present c) t) there out arrived in moved limit was (pairing (end_with (Present w) t) there out arrived) (stops limit was c w t.closed refl over (λ e. e))

-- what a tick makes of one end
role_goes : (limit : ℕ) (now : Moment) (t : Account) (r : Role) → EndGoes limit (end_with (presence_in (Some r)) t) (end_with (presence_in (settle (tick_fate_of now r) (role_after_tick now) r)) t)
role_goes limit now t (Connected c l) there out arrived = by_end (is_at_end c now) _ refl
  where
    was : Pairing
    was = pairing (end_with (Present c) t) there out arrived

    ending : (w : View) → Stops c w → (out_of_table : Bool) → Talks limit was
        → Talks limit (pairing (end_with (presence_in (cond (is_kept (if out_of_table then Removed else Stays)) (Some (Connected w l)) None)) t) there out arrived)
    ending w over gone = over_goes limit t c w l over gone there out arrived

    given_up : View
    given_up = after_reset c (Some ETIMEDOUT)

    -- its timers act, where the moment of one has come
    waiting : (come : Bool) → View
    waiting come = if come then clocked false (after_timers (after_silence c now) now) now else after_silence c now

    by_expiry : (gone come : Bool) → Talks limit was
        → Talks limit (pairing (end_with (presence_in (cond (is_kept (if gone then (if c.released || (c.passive && is_syn_received c.state) then Removed else Stays) else Stays)) (Some (Connected (if gone then given_up else waiting come) l)) None)) t) there out arrived)
    by_expiry true come = ending given_up (stops-told c given_up refl refl) (c.released || (c.passive && is_syn_received c.state))
    by_expiry false come = moved limit was (pairing (end_with (Present (waiting come)) t) there out arrived) (rests limit was c (waiting come) refl (same-acted c come now) (tick_keeps c come now))

    by_end : (over come : Bool) → is_at_end c now ≡ over → Talks limit was
        → Talks limit (pairing (end_with (presence_in (cond
        (is_kept (if over then (if c.released then Removed else Stays) else if gives_up c now then (if c.released || (c.passive && is_syn_received c.state) then Removed else Stays) else Stays))
        (Some (Connected (if over then after_stop c else if gives_up c now then given_up else waiting come) l)) None)) t) there out arrived)
    by_end true come is = ending (after_stop c) (stops-at_end c now is) c.released
    by_end false come is = by_expiry (gives_up c now) come
role_goes limit now t (Listener b n) there out arrived = end-stays limit (end_with Departed t) (end_with Departed t) refl there out arrived
role_goes limit now t (Idle b n) there out arrived = end-stays limit (end_with Departed t) (end_with Departed t) refl there out arrived
role_goes limit now t (Datagrams b n) there out arrived = end-stays limit (end_with Departed t) (end_with Departed t) refl there out arrived

pub projects-ticked : (limit : ℕ) (hs ts : Side) (a b : Addr) (own other : SocketsView) (bag : Bag) (openings : List Opening) (trace : List Happening) (moment : Moment)
    → Projects limit hs ts a b own other bag openings trace → Projects limit hs ts a b (table_ticks.after_tick own moment) other bag openings trace
projects-ticked limit hs ts a b own other bag openings trace moment h =
    let now = later_moment own moment in
    projects-settled limit hs ts a b own (table_ticks.after_tick own moment) other bag openings trace (tick_fate_of now) (role_after_tick now) refl refl refl (noted now) (role_goes limit now) h
  where
    noted : (now : Moment) (id : SocketId) (r : Role) → IsNoted hs a openings id r → IsNoted hs a openings id (role_after_tick now r)
    noted now id (Connected c l) k = opened-kept hs a openings id c (after_tick c now) (keeps-event c (edge.Ticks now)) k
    noted now id (Listener b n) k = k
    noted now id (Idle b n) k = k
    noted now id (Datagrams b n) k = k

-- What is given up: connections whose resets can't go out are gone, those that waited for a hop as long as they may are over, and datagrams no connection sees.

-- a connection that is gone, or none
leaves_end : (limit : ℕ) (t : Account) (r : Role) → EndGoes limit (end_with (presence_in (Some r)) t) (end_with Departed t)
leaves_end limit t (Connected c l) there out arrived =
    moved limit (pairing (end_with (Present c) t) there out arrived) (pairing (end_with Departed t) there out arrived) (leaves limit (pairing (end_with (Present c) t) there out arrived) c t.closed refl (λ e. e))
leaves_end limit t (Listener b n) there out arrived = end-stays limit (end_with Departed t) (end_with Departed t) refl there out arrived
leaves_end limit t (Idle b n) there out arrived = end-stays limit (end_with Departed t) (end_with Departed t) refl there out arrived
leaves_end limit t (Datagrams b n) there out arrived = end-stays limit (end_with Departed t) (end_with Departed t) refl there out arrived

-- what the loss of its hop makes of one end
hopless_goes : (limit : ℕ) (lost : Addr → Bool) (now : Moment) (t : Account) (r : Role)
    → EndGoes limit (end_with (presence_in (Some r)) t) (end_with (presence_in (settle (if loses_hop lost r then in_connection Stays (λ c. hopless_fate c now) r else Stays) (role_after_giving_up lost now) r)) t)
hopless_goes limit lost now t (Connected c l) = by_hop (is_hopless lost c) (has_come (unheard_until c) now)
  where
    over : View
    over = after_reset c (Some ETIMEDOUT)

    taken_out : Bool
    taken_out = c.released || (c.passive && is_syn_received c.state)

    by_hop : (lost ended : Bool) → EndGoes limit (end_with (Present c) t)
        (end_with (presence_in (cond (is_kept (if lost then (if ended && taken_out then Removed else Stays) else Stays)) (Some (Connected (if lost then (if ended then over else c) else c) l)) None)) t)
    by_hop true true = over_goes limit t c over l (stops-told c over refl refl) taken_out
    by_hop true false = end-stays limit (end_with (Present c) t) (end_with (Present c) t) refl
    by_hop false ended = end-stays limit (end_with (Present c) t) (end_with (Present c) t) refl
hopless_goes limit lost now t (Listener b n) = end-stays limit (end_with Departed t) (end_with Departed t) refl
hopless_goes limit lost now t (Idle b n) = end-stays limit (end_with Departed t) (end_with Departed t) refl
hopless_goes limit lost now t (Datagrams b n) = end-stays limit (end_with Departed t) (end_with Departed t) refl

pub projects-given_up : (limit : ℕ) (hs ts : Side) (a b : Addr) (own other : SocketsView) (bag : Bag) (openings : List Opening) (trace : List Happening) (lost : Addr → Bool) (moment : Moment)
    → Projects limit hs ts a b own other bag openings trace → Projects limit hs ts a b (after_giving_up own lost moment) other bag openings trace
projects-given_up limit hs ts a b own other bag openings trace lost moment h =
    projects-settled limit hs ts a b own (after_giving_up own lost moment) other bag openings trace (give_up_fate_of lost now) (role_after_giving_up lost now) refl refl refl noted goes h
  where
    now : Moment
    now = later_moment own moment

    noted : (id : SocketId) (r : Role) → IsNoted hs a openings id r → IsNoted hs a openings id (role_after_giving_up lost now r)
    noted id (Connected c l) k = by_hop (is_hopless lost c)
      where
        by_hop : (b : Bool) → IsNoted hs a openings id (Connected (if b then after_hopless c now else c) l)
        by_hop true = opened-kept hs a openings id c (after_hopless c now) (keeps-event c (edge.LosesHop now)) k
        by_hop false = k
    noted id (Listener b n) k = k
    noted id (Idle b n) k = k
    noted id (Datagrams b n) k = k

    goes : (t : Account) (q : Role) → EndGoes limit (end_with (presence_in (Some q)) t) (end_with (presence_in (settle (give_up_fate_of lost now q) (role_after_giving_up lost now) q)) t)
    goes t q = by_test (is_given_up lost now q)
      where
        by_test : (b : Bool) → EndGoes limit (end_with (presence_in (Some q)) t)
            (end_with (presence_in (settle (if b then Removed else if loses_hop lost q then in_connection Stays (λ c. hopless_fate c now) q else Stays) (role_after_giving_up lost now) q)) t)
        by_test true = leaves_end limit t q
        by_test false = hopless_goes limit lost now t q
