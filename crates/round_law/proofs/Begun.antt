-- What two hosts are once a minute has passed.
use Rattle.std.proofs.Common.{◌≡◌, ◌≢◌, ℕ, ◌<◌, List, [], ◌∷◌, length, arith, refl, sym, ◌∙◌, ap, subst, ◌-◌, ◌≤◌, ◌&&◌, nat_le, if◌then◌else◌, inl, inr, false}
use Rattle.std.proofs.lemmas.Bool.{le-ltb}
use Rattle.clock.specs.declared.moment.Moment.{Moment}
use Rattle.ether.specs.declared.mac.Mac.{Mac}
use Rattle.ipv4.specs.declared.addr.Endpoint.{Endpoint}
use Rattle.interface.specs.Strangers.{is_no_host}
use Rattle.interface.specs.InterfaceView.{InterfaceView}
use Rattle.interface.specs.declared.way.Way.TheVariants.{To}
use Rattle.interface.specs.Ways.{way}
use Rattle.tcp_halves.specs.Halves.{Sending, Receiving}
use Rattle.tcp_halves.specs.Stream.{outstanding}
use Rattle.tcp_state.specs.declared.guard.Guard.{Guard}
use Rattle.tcp_state.specs.Guard.{is_spent}
use Rattle.tcp_state.specs.View.{View, is_closed}
use Rattle.tcp_state.specs.Timing.{after_tick as after_tick_of}
use Rattle.tcp_state.specs.Edges.{Event}
use Rattle.tcp_state.specs.Alive.{IsPatient}
use Rattle.tcp_state.proofs.Minute.{leaves_streams}
use Rattle.tcp_state.proofs.Resting.{rests_on}
use Rattle.tcp_state.proofs.TenDrawn.{guard_stays}
use Rattle.sockets.specs.declared.entry.SocketId.{SocketId}
use Rattle.sockets.proofs.KeptEnds.{keeps-event}
use Rattle.host.specs.Heard.{shuts_out}
use Rattle.host.specs.HostView.{HostView}
use Rattle.round_law.specs.Alone.{IsAlone}
use Rattle.round_law.specs.Exchange.{after_minute, minute_past}
use Rattle.round_law.specs.Progress.{IsQuiet, Meet}
use Rattle.round_law.proofs.Found.{alone_there}
use Rattle.std.specs.List.{AllByRecursion}
use Rattle.round_law.proofs.Reports.{IsReport}
use Rattle.round_law.proofs.Quiet.{own_time, own_end, other_end, minute_kept, minute_reports, minute_way, minute_alone}
use Rattle.round_law.proofs.Reader.{Sends}
use Rattle.round_law.proofs.Says.{own_sound}

-- a tick leaves the streams and the state of a connection
abbrev pub SameStreams : View → View → Type 0
SameStreams v w = (w.sending ≡ v.sending) × (w.receiving ≡ v.receiving) × (w.state ≡ v.state)

pub minute_rests : (h : HostView) (id : SocketId) (v : View) (mac : Mac) → IsQuiet h id v mac → Sends v.state → IsPatient v → v.sending.held ≡ [] → SameStreams v (after_tick_of v (minute_past h.sockets.kept))
minute_rests h id v mac quiet state patient empty =
    rests_on v (minute_past h.sockets.kept) (own_sound h id v quiet.kept (alone_there h id v mac quiet)) (own_time h id v quiet.kept (alone_there h id v mac quiet)).0 state.past state.goes_on state.unshut empty (alone_there h id v mac quiet).called patient

pub minute_leaves : (h : HostView) (id : SocketId) (v : View) (mac : Mac) → IsQuiet h id v mac → Sends v.state → IsPatient v → v.resend.expiries < 12 → SameStreams v (after_tick_of v (minute_past h.sockets.kept))
minute_leaves h id v mac quiet state patient few = by_held v.sending.held refl
  where
    by_held : (xs : List ℕ) → v.sending.held ≡ xs → SameStreams v (after_tick_of v (minute_past h.sockets.kept))
    by_held [] empty = minute_rests h id v mac quiet state patient empty
    by_held (x ∷ xs) some = let long : length v.sending.held ≡ length (x ∷ xs) = ap length some in leaves_streams v (minute_past h.sockets.kept) (own_sound h id v quiet.kept (alone_there h id v mac quiet)) (omega (arith, long)) few

pub meet_later : (v d w e : View) → Meet v d → w.sending ≡ v.sending → w.receiving ≡ v.receiving → e.sending ≡ d.sending → e.receiving ≡ d.receiving → Meet w e
meet_later v d w e meet sends hears its_own receives =
    let out : outstanding w.sending ≡ outstanding v.sending = ap outstanding sends in
    record {
      initial = meet.initial;
      una = meet.una;
      next = meet.next;
      una_number = ap (λ (t : Sending). t.una) sends ∙ meet.una_number;
      next_number = ap (λ (r : Receiving). r.rnext) receives ∙ meet.next_number;
      behind = meet.behind;
      sent = omega (arith, out, meet.sent);
      held = ap (λ (t : Sending). t.held) its_own ∙ meet.held;
      answered = ap (λ (r : Receiving). r.rnext) hears ∙ (meet.answered ∙ sym (ap (λ (t : Sending). t.nxt) its_own));
    }

-- A tick leaves what was drawn, and a minute later none of it counts.

guard_ticks : (v : View) (now : Moment) → (after_tick_of v now).guard ≡ v.guard
guard_ticks v now = elim (guard_stays v (Event.Ticks now)) [ inl same ↦ same | inr hears ↦ let bad : Event.Ticks now ≡ Event.Hears hears.0 hears.1 = hears.2 in cc ]

minute_rested : (h : HostView) (id : SocketId) (v : View) (mac : Mac) → IsQuiet h id v mac → is_spent v.guard (minute_past h.sockets.kept) ≡ false
minute_rested h id v mac quiet =
    let later = minute_past h.sockets.kept in
    ap (λ c. nat_le 10 (if c then v.guard.drawn else 0)) (le-ltb (later.0 - v.guard.latest.0) 1000 (omega (arith, quiet.drawn, quiet.early)))

-- One host once a minute has passed.

abbrev pub view_later : HostView → View → View
view_later h v = after_tick_of v (minute_past h.sockets.kept)

pub record Begins (h : HostView) (id : SocketId) (v : View) (mac : Mac) : Type 0 where
  pub streams : SameStreams v (view_later h v)
  pub alone : IsAlone (after_minute h) id (view_later h v)
  pub local : (view_later h v).local ≡ v.local
  pub peer : (view_later h v).peer ≡ v.peer
  pub leads : (let g = after_minute h in way g.interface g.sockets.kept (view_later h v).peer.addr) ≡ To mac
  pub reports : AllByRecursion (IsReport (view_later h v).peer.addr) (let g = after_minute h in g.interface.replies)
  pub few : length (let g = after_minute h in g.interface.replies) ≤ 16
  pub own_mac : (let g = after_minute h in g.interface.mac) ≡ h.interface.mac
  pub lets : shuts_out (after_minute h) (view_later h v).peer.addr ≡ false
  pub rested : is_spent (view_later h v).guard (let g = after_minute h in g.sockets.kept) ≡ false
  pub own_addr : (let g = after_minute h in g.interface.addr) ≡ h.interface.addr
  pub own : (view_later h v).local.addr ≡ (let g = after_minute h in g.sockets.addr)
  pub same : (let g = after_minute h in g.interface.addr) ≡ (let g = after_minute h in g.sockets.addr)
  pub other : (let g = after_minute h in g.interface.addr) ≢ (view_later h v).peer.addr

pub begins : (h : HostView) (id : SocketId) (v : View) (mac : Mac) → IsQuiet h id v mac → SameStreams v (view_later h v) → Begins h id v mac
begins h id v mac quiet streams =
    let g = after_minute h in
    let ends = keeps-event v (Event.Ticks (minute_past h.sockets.kept)) in
    let addr : g.interface.addr ≡ h.interface.addr = ap (λ (i : InterfaceView). i.addr) (minute_reports h id v mac quiet).same in
    record {
      streams = streams;
      alone = minute_alone h id v mac quiet (ap is_closed streams.2 ∙ quiet.lives);
      local = ends.local;
      peer = ends.peer;
      leads = ap (λ (p : Endpoint). way g.interface g.sockets.kept p.addr) ends.peer ∙ minute_way h id v mac quiet;
      reports = subst (λ (p : Endpoint). AllByRecursion (IsReport p.addr) g.interface.replies) (sym ends.peer) (minute_reports h id v mac quiet).all;
      few = (minute_reports h id v mac quiet).few;
      own_mac = ap (λ (i : InterfaceView). i.mac) (minute_reports h id v mac quiet).same;
      lets = ap (λ (p : Endpoint). shuts_out g p.addr) ends.peer ∙ ap (λ (i : InterfaceView). h.sockets.manner.guards && is_no_host i v.peer.addr) (minute_reports h id v mac quiet).same ∙ quiet.lets;
      rested = ap (is_spent (view_later h v).guard) (minute_kept h id v mac quiet) ∙ (ap (λ (x : Guard). is_spent x (minute_past h.sockets.kept)) (guard_ticks v (minute_past h.sockets.kept)) ∙ minute_rested h id v mac quiet);
      own_addr = addr;
      own = ap (λ (p : Endpoint). p.addr) ends.local ∙ own_end h id v quiet.kept (alone_there h id v mac quiet);
      same = addr ∙ quiet.kept.sound.own;
      other = λ is. other_end h id v quiet.kept (alone_there h id v mac quiet) (sym addr ∙ (is ∙ ap (λ (p : Endpoint). p.addr) ends.peer));
    }
