-- What befalls a connection where its host's table does not move, or by one event of it.
use Rattle.std.proofs.Common.{◌≡◌, ◌≤◌, ◌&&◌, not, ℕ, Bool, true, false, if◌then◌else◌, Option, Some, None, refl, sym, ◌∙◌, ap, subst, arith}
use Rattle.clock.specs.declared.moment.Moment.{Moment}
use Rattle.ipv4.specs.declared.addr.Addr.{Addr}
use Rattle.ipv4.specs.declared.addr.Endpoint.{Endpoint}
use Rattle.tcp_segment.specs.Segment.{Segment}
use Rattle.frames.specs.declared.meaning.Meaning.TheVariants.{Tcp}
use Rattle.tcp_state.specs.Arrival.{opened_passively}
use Rattle.tcp_state.specs.View.{View}
use Rattle.tcp_state.specs.Edges as edge
use Rattle.sockets.specs.declared.entry.SocketId.{SocketId}
use Rattle.sockets.specs.Arrival.{local_end, peer_end}
use Rattle.sockets.specs.Causes.{Connects, Hears, after_event}
use Rattle.sockets.specs.Causes as table
use Rattle.sockets.specs.Closing.{entry_of}
use Rattle.sockets.specs.Entries.{is_kept}
use Rattle.sockets.specs.Order.{IsOrdered}
use Rattle.sockets.specs.SocketsView.{SocketsView, later_moment}
use Rattle.sockets.specs.Steps.{connected, view_left}
use Rattle.sockets.specs.Timing as timing
use Rattle.sockets.proofs.Followed.{by_test}
use Rattle.sockets.proofs.Numbered.{never_back}
use Rattle.sockets.proofs.OfferCounts.{by_option}
use Rattle.host.specs.ConfigView.{ConfigView}
use Rattle.host.specs.HostView.{HostView}
use Rattle.host.specs.Runs as host
use Rattle.host_law.specs.Frames.{Comes as FrameComes}
use Rattle.host_law.specs.Coming.{IsOpenedBy}
use Rattle.host_law.specs.History.{Step, connection_of}
use Rattle.host_law.proofs.Befalls.{IsGone, IsUntold, IsQuiet, Quietly, stays, moves, Befalls, absent, connects, accepts, quietly, leaves}
use Rattle.host_law.proofs.TableUnder.{found_given}
use Rattle.host_law.proofs.TableViews.{IsUsed, view_of, view_out, used_on, view_left_of, seen_entry, Comes, nothing, comes}
use Rattle.host_law.proofs.TableViews as here

pub gone : (id : SocketId) (h : HostView) → IsUsed id h.sockets → IsGone id h
gone id h used = record { given = used.0; none = used.1 }

pub used : (id : SocketId) (h : HostView) → IsGone id h → IsUsed id h.sockets
used id h is = (is.given, is.none)

alone_of : (syn rst ack : Bool) → (syn && not rst && not ack) ≡ true → (syn ≡ true) × (rst ≡ false) × (ack ≡ false)
alone_of true false false is = (refl, refl, refl)
alone_of true false true is = cc
alone_of true true ack is = cc
alone_of false rst ack is = cc

-- the one event of a connection is quiet, where it has one
abbrev pub IsQuietIf : Option edge.Event → Type 0
IsQuietIf None = Unit {0}
IsQuietIf (Some e) = IsQuiet e

pub quiet_if : (b : Bool) (e : edge.Event) → IsQuiet e → IsQuietIf (if b then Some e else None)
quiet_if true e quiet = quiet
quiet_if false e quiet = tt

module _ (c : ConfigView) (id : SocketId) (old new : HostView) (event : host.Event) where
  abbrev pub at : Step
  at = record { before = old; event = event; after = new }

  pub cast : (a b : Option View) → connection_of id old ≡ a → connection_of id new ≡ b → Befalls c id at a b → Befalls c id at (connection_of id old) (connection_of id new)
  cast a b before after befalls = subst (λ (o : Option View). Befalls c id at o (connection_of id new)) (sym before) (subst (λ (o : Option View). Befalls c id at a o) (sym after) befalls)

  -- the table stays
  pub by_same : new.sockets ≡ old.sockets → IsUntold id at → Befalls c id at (connection_of id old) (connection_of id new)
  by_same same untold = subst (λ (o : Option View). Befalls c id at (connection_of id old) o) (ap (λ (t : SocketsView). view_of id t) (sym same)) (same_view (connection_of id old))
    where
      same_view : (o : Option View) → Befalls c id at o o
      same_view None = absent untold (λ is. gone id new (subst (IsUsed id) (sym same) (used id old is)))
      same_view (Some v) = quietly v v untold (stays v)

  -- of a connection one event of its own
  pub quiet_from : (v w : View) → IsUntold id at → ((x : View) → Quietly w x → Quietly v x) → (o : Option edge.Event) → IsQuietIf o → (view_left w o ≡ None → IsGone id new) → Befalls c id at (Some v) (view_left w o)
  quiet_from v w untold first None quiet goes = quietly v w untold (first w (stays w))
  quiet_from v w untold first (Some e) quiet goes =
      by_test (is_kept (edge.fate_by w e))
      (λ kept. let left : Option View = Some (edge.after_event w e) in rw kept (quietly v (edge.after_event w e) untold (first (edge.after_event w e) (moves w (edge.after_event w e) e quiet (stays (edge.after_event w e))))))
      (λ removed. let out : view_left w (Some e) ≡ None = rw removed refl in subst (λ (o : Option View). Befalls c id at (Some v) o) (sym out) (leaves v untold (goes out)))

  pub quiet_left : (v : View) → IsUntold id at → (o : Option edge.Event) → IsQuietIf o → (view_left v o ≡ None → IsGone id new) → Befalls c id at (Some v) (view_left v o)
  quiet_left v untold o quiet goes = quiet_from v v untold (λ x rest. rest) o quiet goes

  -- an event by which it stays as it is told, or is taken out
  pub one_left : (v : View) (e : edge.Event) → IsUntold id at → (view_left v (Some e) ≡ None → IsGone id new) → Befalls c id at (Some v) (Some (edge.after_event v e)) → Befalls c id at (Some v) (view_left v (Some e))
  one_left v e untold goes befalls =
      by_test (is_kept (edge.fate_by v e))
      (λ kept. rw kept befalls)
      (λ removed. let out : view_left v (Some e) ≡ None = rw removed refl in subst (λ (o : Option View). Befalls c id at (Some v) o) (sym out) (leaves v untold (goes out)))

  -- it is let go, or not
  pub let_or : (b : Bool) (v : View) (left : Option View) → IsUntold id at → ((if b then None else left) ≡ None → IsGone id new) → ((left ≡ None → IsGone id new) → Befalls c id at (Some v) left) → Befalls c id at (Some v) (if b then None else left)
  let_or true v left untold goes rest = leaves v untold (goes refl)
  let_or false v left untold goes rest = rest goes

  -- the event is that a frame comes with this segment, from this address, for this host
  pub record IsFrameOf (source : Addr) (s : Segment) : Type 0 where
    pub frame : FrameComes c (Tcp (record { source = source; segment = s })) at
    pub own : (let t = old.sockets in t.addr) ≡ c.addr

  -- an event of the table
  module _ (e : table.Event) (o : IsOrdered old.sockets) (is : new.sockets ≡ after_event old.sockets e) where
    -- a connection that is taken out is gone
    pub out_gone : (v : View) (l : Option SocketId) → entry_of old.sockets id ≡ Some (connected id v l) → view_out old.sockets e id v l ≡ None → IsGone id new
    out_gone v l there out =
        let given : id.0 ≤ (let t = old.sockets in t.last_id) = found_given id 0 (let t = old.sockets in t.last_id) (let t = old.sockets in t.entries) (connected id v l) o.ids there in
        let back : (let t = old.sockets in t.last_id) ≤ (let w = after_event old.sockets e in w.last_id) = never_back old.sockets e in
        gone id new (subst (IsUsed id) (sym is) (omega (arith, given, back), (view_left_of old.sockets e o id v l there).1 out))

    pub by_event : ((now : Moment) (isn : ℕ) (source : Addr) (s : Segment) → e ≡ Hears now isn source s → IsFrameOf source s) → timing.IsNumbered e → (connection_of id old ≡ None → IsUntold id at)
        → ((v : View) (l : Option SocketId) → entry_of old.sockets id ≡ Some (connected id v l) → (view_out old.sockets e id v l ≡ None → IsGone id new) → Befalls c id at (Some v) (view_out old.sockets e id v l))
        → Befalls c id at (connection_of id old) (connection_of id new)
    by_event came small untold some =
        by_option (connection_of id old)
        (λ none. by_coming none (comes old.sockets e o id none))
        (λ v sees. let there = seen_entry old.sockets id v sees in
        let left = view_left_of old.sockets e o id v there.0 there.1 in
        cast (Some v) (view_out old.sockets e id v there.0) sees (after_is ∙ left.0) (some v there.0 there.1 (out_gone v there.0 there.1)))
      where
        after_is : connection_of id new ≡ view_of id (after_event old.sockets e)
        after_is = ap (λ (t : SocketsView). view_of id t) is

        by_coming : connection_of id old ≡ None → Comes old.sockets e id → Befalls c id at (connection_of id old) (connection_of id new)
        by_coming none (nothing now) = cast None None none (after_is ∙ now) (absent (untold none) (λ was. gone id new (subst (IsUsed id) (sym is) (used_on old.sockets e o id (used id old was)))))
        by_coming none (here.connects now isn named peer routed same room local opened fresh) =
            cast None (Some _) none (after_is ∙ opened) (connects room local peer isn _ (subst timing.IsNumbered same small) (untold none) (λ was. fresh was.none))
        by_coming none (here.accepts now isn source s same opens room opened fresh) =
            let frame = came now isn source s same in
            let alone = alone_of s.flags.syn s.flags.rst s.flags.ack opens in
            let by : IsOpenedBy c id (opened_passively room (local_end old.sockets s) (peer_end source s) isn s (later_moment old.sockets now)) s at = record {
              source = source;
              frame = frame.frame;
              none = none;
              connection = after_is ∙ opened;
              local = ap (λ (a : Addr). let e : Endpoint = record { addr = a; port = s.destination } in e) frame.own;
              peer = refl;
              syn = alone.0;
              no_rst = alone.1;
              no_ack = alone.2;
            } in
            cast None (Some _) none (after_is ∙ opened) (accepts room _ _ isn s _ (subst timing.IsNumbered same small) (untold none) (λ was. fresh was.given) by)
