-- What is due first comes to the other host behind the reports that wait.
use Rattle.std.proofs.Common.{◌≡◌, ◌≢◌, ◌⊎◌, ℕ, ◌+◌, ◌<◌, ◌≤◌, true, false, List, [], ◌∷◌, length, Option, Some, None, is_some, inl, inr, arith, refl, sym, ◌∙◌, ap, subst}
use Rattle.std.specs.List.{AllByRecursion}
use Rattle.ether.specs.declared.mac.Mac.{Mac}
use Rattle.ipv4.specs.declared.addr.Addr.{Addr}
use Rattle.interface.specs.declared.reply.Waiting.{Waiting}
use Rattle.interface.specs.declared.way.Way.TheVariants.{To}
use Rattle.interface.specs.Ways.{way}
use Rattle.tcp_state.specs.declared.emission.Due.{Due}
use Rattle.tcp_state.specs.View.{View, is_opening, awaits_fin_ack}
use Rattle.tcp_state.specs.Due.{first_due}
use Rattle.sockets.specs.declared.entry.SocketId.{SocketId}
use Rattle.host.specs.Heard.{shuts_out}
use Rattle.host.specs.HostView.{HostView}
use Rattle.host.specs.Emission.{emission_len}
use Rattle.round_law.specs.Exchange.{IsOut, AreOut, IsBrought, AreBrought, most_frames}
use Rattle.round_law.proofs.Emitted.{goes_out_now}
use Rattle.round_law.proofs.Plain.{IsPlain}
use Rattle.round_law.proofs.Reports.{IsReport, Reports, report_there}
use Rattle.round_law.proofs.Says.{Brings, IsSender, leads_on, report_on}
use Rattle.round_law.proofs.Taking.{IsTaker, passes_on}

-- so many frames went out, and then there was none, or as many as may
abbrev pub Ends : ℕ → HostView → Type 0
Ends count from = ((count < most_frames) × (emission_len from from.sockets.kept ≡ None)) ⊎ (count ≡ most_frames)

-- a host with something to send gives it out, before as many frames are out as may
none_left : (count : ℕ) (h g : HostView) → is_some (emission_len h h.sockets.kept) ≡ true → count ≤ 16 → g ≡ h → Ends count g → ⊥
none_left count h g some few same (inl ends) = let none : is_some (emission_len h h.sockets.kept) ≡ false = ap (λ (x : HostView). is_some (emission_len x x.sockets.kept)) (sym same) ∙ ap (λ (o : Option ℕ). is_some o) ends.1 in cc
none_left count h g some few same (inr full) = omega (arith, full, few)

module _ (start : HostView) (v : View) (id : SocketId) (mac : Mac) (leads : way start.interface start.sockets.kept v.peer.addr ≡ To mac) (other : start.interface.addr ≢ v.peer.addr) (past : is_opening v.state ≡ false) (open_ : awaits_fin_ack v.state ≡ false)
    (there : HostView) (u : View) (to_id : SocketId) (own : u.local.addr ≡ there.sockets.addr) (theirs : v.local.addr ≡ start.interface.addr) (local : u.local ≡ v.peer) (peer : u.peer ≡ v.local) (past_there : is_opening u.state ≡ false)
    (open_there : awaits_fin_ack u.state ≡ false) (lets : shuts_out there start.interface.addr ≡ false) (mac_there : mac ≡ there.interface.mac) (addr_there : v.peer.addr ≡ there.interface.addr) (due : Due) (first : first_due v ≡ Some due) where
  abbrev pub BringsThere : List ℕ → Type 0
  BringsThere octets = Brings there.interface.mac there.interface.addr start.interface.addr (IsPlain v) octets

  -- so far neither connection changed, and no report waits; the next frame is the segment
  pub record Comes (to_last : HostView) : Type 0 where
    pub from : HostView
    pub sent : HostView
    pub to : HostView
    pub taken : HostView
    pub octets : List ℕ
    pub rest : List (List ℕ)
    pub sender : IsSender start v id from v
    pub idle : from.interface.replies ≡ []
    pub out : IsOut octets from sent
    pub taker : IsTaker there u to_id to u
    pub brought : IsBrought octets to taken
    pub more : AreBrought rest taken to_last
    pub all : AllByRecursion BringsThere rest

  some_there : (h : HostView) → IsSender start v id h v → (waits : List Waiting) → h.interface.replies ≡ waits → is_some (emission_len h h.sockets.kept) ≡ true
  some_there h sender [] idle = goes_out_now h id v h.sockets.kept sender.alone idle due first mac (leads_on start v id mac leads other past open_ h v sender)
  some_there h sender (r ∷ rest) waits =
      report_there h h.sockets.kept v.peer.addr mac r rest waits (subst (λ (l : List Waiting). AllByRecursion (IsReport v.peer.addr) l) waits sender.reports).0 (leads_on start v id mac leads other past open_ h v sender)

  pub first_comes : (frames : List (List ℕ)) (h g h_last g_last : HostView) (count : ℕ) → IsSender start v id h v → IsTaker there u to_id g u → count + length h.interface.replies ≤ 16 → AllByRecursion BringsThere frames → AreOut frames h h_last
      → AreBrought frames g g_last → Ends (count + length frames) h_last → Comes g_last
  first_comes [] h g h_last g_last count sender taker few all out brought ends =
      absurd (none_left (count + 0) h h_last (some_there h sender h.interface.replies refl) (omega (arith, few)) out ends)
  first_comes (octets ∷ rest) h g h_last g_last count sender taker few all out brought ends =
      by_waits (λ x y n sends takes least goes comes left. first_comes rest x y h_last g_last n sends takes least all.1 goes comes left) h.interface.replies refl
    where
      by_waits : ((x y : HostView) (n : ℕ) → IsSender start v id x v → IsTaker there u to_id y u → n + length x.interface.replies ≤ 16 → AreOut rest x h_last → AreBrought rest y g_last → Ends (n + length rest) h_last → Comes g_last)
          → (waits : List Waiting) → h.interface.replies ≡ waits → Comes g_last
      by_waits further [] idle = record { from = h; sent = out.0; to = g; taken = brought.0; octets = octets; rest = rest; sender = sender; idle = idle; out = out.1; taker = taker; brought = brought.1; more = brought.2; all = all.1 }
      by_waits further (r ∷ waits) is =
          let report = report_on start v id mac leads other past open_ h v octets out.0 sender out.1 r waits is in
          let said : Reports there.interface.mac there.interface.addr start.interface.addr octets =
          subst (λ (a : Addr). Reports there.interface.mac a start.interface.addr octets) addr_there (subst (λ (m : Mac). Reports m v.peer.addr start.interface.addr octets) mac_there report.1) in
          let passed = passes_on there u to_id v start.interface.addr own theirs local peer past_there open_there lets g u octets brought.0 taker brought.1 said in
          let before : length h.interface.replies ≡ length (r ∷ waits) = ap length is in
          let left : length out.0.interface.replies ≡ length waits = ap length report.2 in
          further out.0 brought.0 (count + 1) report.0 passed (omega (arith, few, before, left)) out.2 brought.2 (subst (λ n. Ends n h_last) (omega arith) ends)
