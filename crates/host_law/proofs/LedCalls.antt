-- What befalls a connection by a call of its host.
use Rattle.std.proofs.Common.{◌≡◌, ℕ, ◌==◌, ◌≤◌, ◌||◌, ◌++◌, not, min, Bool, true, false, if◌then◌else◌, List, [], ◌∷◌, zero, suc, length, take, drop, replicate, Option, Some, None, is_some, Result, Ok, refl, sym, ◌∙◌, ap, subst, arith}
use Rattle.std.proofs.lemmas.Bool.{eqb-true, eq-eqb, or_parts}
use Rattle.std.proofs.lemmas.List.{length-replicate}
use Rattle.clock.specs.declared.moment.Moment.{Moment}
use Rattle.ipv4.specs.declared.addr.Addr.{Addr}
use Rattle.tcp_segment.specs.Segment.{Segment}
use Rattle.tcp_state.specs.declared.calls.Received.{Received}
use Rattle.tcp_state.specs.declared.calls.Received.TheVariants.{Octets, EndOfStream}
use Rattle.tcp_state.specs.Calls.{send_count, recv_count}
use Rattle.tcp_state.specs.Calls as calls
use Rattle.tcp_state.specs.Edges as edge
use Rattle.tcp_state.specs.View.{View, is_closed, is_opening, is_syn_sent, is_write_closed}
use Rattle.tcp_state.proofs.Edges.{and_left, and_right}
use Rattle.sockets.specs.declared.entry.Entry.{Entry}
use Rattle.sockets.specs.declared.entry.SocketId.{SocketId}
use Rattle.sockets.specs.declared.refusal.Refusal.{Refusal}
use Rattle.sockets.specs.declared.role.Leave.{Leave}
use Rattle.sockets.specs.declared.role.Leave.TheVariants.{Close, Abort}
use Rattle.sockets.specs.declared.role.Role.{Role}
use Rattle.sockets.specs.declared.role.Role.TheVariants.{Connected}
use Rattle.sockets.specs.Calls.{send_answer, recv_answer, recv_front, read_front}
use Rattle.sockets.specs.Causes as table
use Rattle.sockets.specs.Closing.{entry_of}
use Rattle.sockets.specs.Entries.{is_socket, is_waiting_at, has_socket, leaving_event}
use Rattle.sockets.specs.Order.{IsOrdered, IsAllowed}
use Rattle.sockets.specs.Steps.{connected, view_left, is_let_go}
use Rattle.sockets.specs.SocketsView.{SocketsView, role_of}
use Rattle.sockets.specs.Timing as timing
use Rattle.sockets.proofs.Followed.{by_test}
use Rattle.host.specs.ConfigView.{ConfigView}
use Rattle.host.specs.HostView.{HostView}
use Rattle.host.specs.Runs.{Calls, IsCall}
use Rattle.host_law.specs.Callers.{sent_at, read_at, ended_at}
use Rattle.host_law.specs.History.{connection_of}
use Rattle.host_law.proofs.Befalls.{IsGone, IsUntold, Befalls, stays, quietly, sends, reads, shuts, closes, leaves}
use Rattle.host_law.proofs.LedBy.{IsFrameOf, by_event, quiet_if, quiet_left, one_left, let_or}
use Rattle.host_law.proofs.TableAnswers.{IsNamed, Gives, takes_at, gives_at, shuts_at}
use Rattle.host_law.proofs.TableViews.{seen, view_out}

-- Names.

same_id : (a b : SocketId) → (a.0 == b.0) ≡ true → a ≡ b
same_id a b is = ap (λ (n : ℕ). let i : SocketId = record { 0 = n } in i) (eqb-true a.0 b.0 is)

turned : (a b : ℕ) → (a == b) ≡ false → (b == a) ≡ false
turned a b no_one = by_test (b == a) (λ yes. let bad : (a == b) ≡ true = eq-eqb a b (sym (eqb-true b a yes)) in cc) (λ n. n)

-- another socket is named
another : (id named : SocketId) (v : View) (l : Option SocketId) → (named.0 == id.0) ≡ false → is_socket named (connected id v l) ≡ false
another id named v l other = rw (turned named.0 id.0 other) refl

-- this one is
record IsThis (h : SocketsView) (id named : SocketId) (v w : View) (l : Option SocketId) : Type 0 where
  pub same : v ≡ w
  pub socket : is_socket named (connected id w l) ≡ true

this : (h : SocketsView) (id named : SocketId) (v w : View) (k l : Option SocketId) → IsNamed h named (Connected v k) → (named.0 == id.0) ≡ true → entry_of h id ≡ Some (connected id w l) → IsThis h id named v w l
this h id named v w k l n at there =
    let found : entry_of h id ≡ Some n.entry = subst (λ (i : SocketId). entry_of h i ≡ Some n.entry) (same_id named id at) n.found in
    let one : n.entry ≡ connected id w l = (let both : ◌≡◌ {A = Option Entry} (Some n.entry) (Some (connected id w l)) = sym found ∙ there in cc) in
    let role : ◌≡◌ {A = Role} (Connected v k) (Connected w l) = sym n.is ∙ ap (λ (e : Entry). e.role) one in
    record { same = cc; socket = subst (λ (e : Entry). is_socket named e ≡ true) one n.socket }

-- so it has a connection
seen_this : (h : SocketsView) (id named : SocketId) (v : View) (k : Option SocketId) → IsNamed h named (Connected v k) → (named.0 == id.0) ≡ true → seen (entry_of h id) ≡ Some v
seen_this h id named v k n at =
    let found : entry_of h id ≡ Some n.entry = subst (λ (i : SocketId). entry_of h i ≡ Some n.entry) (same_id named id at) n.found in
    by_role n.entry.id n.entry.role n.is found
  where
    by_role : (i : SocketId) (r : Role) → r ≡ Connected v k → entry_of h id ≡ Some (record { id = i; role = r }) → seen (entry_of h id) ≡ Some v
    by_role i r is found = ap seen (found ∙ ap (λ (s : Role). let e : Entry = record { id = i; role = s } in Some e) is)

unreleased : (v : View) (l : Option SocketId) → has_socket (Connected v l) ≡ true → v.released ≡ false
unreleased v (Some k) held = cc
unreleased v None held = by_test v.released (λ yes. let bad : has_socket (Connected v None) ≡ false = rw yes refl in cc) (λ n. n)

-- What a read gives.

none_taken : (n : ℕ) (xs : List ℕ) → length xs ≡ 0 → take n xs ≡ []
none_taken zero [] none = refl
none_taken (suc n) [] none = refl
none_taken n (x ∷ xs) none = absurd (omega (arith, none))

taken_again : (n : ℕ) (xs ys : List ℕ) → take (min n (length xs)) (take (min n (length xs)) xs ++ ys) ≡ take (min n (length xs)) xs
taken_again n xs ys = front (min n (length xs)) xs ys (omega arith)
  where
    front : (m : ℕ) (zs ys : List ℕ) → m ≤ length zs → take m (take m zs ++ ys) ≡ take m zs
    front zero zs ys fits = refl
    front (suc m) [] ys fits = absurd (omega (arith, fits))
    front (suc m) (z ∷ zs) ys fits = ap (λ (ws : List ℕ). z ∷ ws) (front m zs ys (omega (arith, fits)))

module _ (c : ConfigView) (id : SocketId) (old new : HostView) (o : IsOrdered old.sockets) where
  abbrev h : SocketsView
  h = old.sockets

  plain : (call : table.Event) → sent_at id old (Calls call) ≡ [] → read_at id old (Calls call) ≡ [] → ended_at id old (Calls call) ≡ false → IsUntold id (record { before = old; event = Calls call; after = new })
  plain call sent read ended = record { sent = sent; read = read; ended = ended }

  -- a call that is none of its own
  other_call : (call : table.Event) → ((moment : Moment) (number : ℕ) (source : Addr) (s : Segment) → call ≡ table.Hears moment number source s → IsFrameOf c id old new (Calls call) source s) → timing.IsNumbered call → new.sockets ≡ table.after_event h call → IsUntold id (record { before = old; event = Calls call; after = new })
      → ((v : View) (l : Option SocketId) → view_out h call id v l ≡ Some v) → Befalls c id (record { before = old; event = Calls call; after = new }) (connection_of id old) (connection_of id new)
  other_call call came small is untold out =
      by_event c id old new (Calls call) call o is came small (λ none. untold)
      (λ v l there goes. subst (λ (w : Option View). Befalls c id (record { before = old; event = Calls call; after = new }) (Some v) w) (sym (out v l)) (quietly v v untold (stays v)))

  sends_led : (named : SocketId) (octets : List ℕ) → IsAllowed h (table.Sends named octets) → new.sockets ≡ table.after_event h (table.Sends named octets)
      → Befalls c id (record { before = old; event = Calls (table.Sends named octets); after = new }) (connection_of id old) (connection_of id new)
  sends_led named octets allowed is =
      by_test (named.0 == id.0)
      (λ same.
      let t = takes_at h named octets o allowed in
      by_event c id old new (Calls (table.Sends named octets)) (table.Sends named octets) o is (λ moment number source s same. cc) tt
      (λ none. let some : connection_of id old ≡ Some t.v = seen_this h id named t.v t.listener t.named same in let bad : ◌≡◌ {A = Option View} None (Some t.v) = sym none ∙ some in cc)
      (λ v l there goes.
      let own = this h id named t.v v t.listener l t.named same there in
      let may : (is_some v.pending_error || is_opening v.state || is_write_closed v.state) ≡ false = subst (λ (w : View). (is_some w.pending_error || is_opening w.state || is_write_closed w.state) ≡ false) own.same t.may in
      let answer : send_answer h named octets ≡ Ok (send_count v octets) = t.answer ∙ ap (λ (w : View). let r : Result ℕ Refusal = Ok (send_count w octets) in r) own.same in
      let sent : sent_at id old (Calls (table.Sends named octets)) ≡ take (send_count v octets) octets = rw (same, answer) refl in
      let out : view_out h (table.Sends named octets) id v l ≡ Some (calls.after_send v octets h.kept) = ap (λ (b : Bool). view_left v (if b then Some (edge.Sends octets h.kept) else None)) own.socket in
      subst (λ (w : Option View). Befalls c id (record { before = old; event = Calls (table.Sends named octets); after = new }) (Some v) w) (sym out) (sends v octets h.kept may sent refl refl)))
      (λ other.
      let none : sent_at id old (Calls (table.Sends named octets)) ≡ [] = rw other refl in
      other_call (table.Sends named octets) (λ moment number source s same. cc) tt is (plain (table.Sends named octets) none refl refl)
      (λ v l. ap (λ (b : Bool). view_left v (if b then Some (edge.Sends octets h.kept) else None)) (another id named v l other)))

  reads_led : (named : SocketId) (len : ℕ) → IsAllowed h (table.Receives named len) → new.sockets ≡ table.after_event h (table.Receives named len)
      → Befalls c id (record { before = old; event = Calls (table.Receives named len); after = new }) (connection_of id old) (connection_of id new)
  reads_led named len allowed is =
      by_test (named.0 == id.0)
      (λ same.
      let g = gives_at h named len o allowed in
      by_event c id old new (Calls (table.Receives named len)) (table.Receives named len) o is (λ moment number source s same. cc) tt
      (λ none. let some : connection_of id old ≡ Some g.v = seen_this h id named g.v g.listener g.named same in let bad : ◌≡◌ {A = Option View} None (Some g.v) = sym none ∙ some in cc)
      (λ v l there goes.
      let own = this h id named g.v v g.listener l g.named same there in
      let out : view_out h (table.Receives named len) id v l ≡ Some (calls.after_recv v len) =
      ap (λ (b : Bool). view_left v (if b then None else if is_socket named (connected id v l) then Some (edge.Receives len) else None)) g.some
      ∙ ap (λ (b : Bool). view_left v (if b then Some (edge.Receives len) else None)) own.socket in
      let held : has_socket (Connected v l) ≡ true = and_right (id.0 == named.0) _ own.socket in
      subst (λ (w : Option View). Befalls c id (record { before = old; event = Calls (table.Receives named len); after = new }) (Some v) w) (sym out)
      (told same v l (unreleased v l held) g.some (subst (λ (w : View). Gives w len) own.same g.gives)
      (g.answer ∙ ap (λ (w : View). let r : Result Received Refusal = if not (length w.receiving.readable == 0) then Ok (Octets (recv_count w len)) else Ok EndOfStream in r) own.same)
      g.listener (g.named.by_role ∙ ap (λ (w : View). Some (Connected w g.listener)) own.same))))
      (λ other.
      let none : read_at id old (Calls (table.Receives named len)) ≡ [] = rw other refl in
      let untold : ended_at id old (Calls (table.Receives named len)) ≡ false = rw other refl in
      other_call (table.Receives named len) (λ moment number source s same. cc) tt is (plain (table.Receives named len) refl none untold) (apart other))
    where
      front_is : (v : View) (k : Option SocketId) (buffer : List ℕ) → (length buffer == 0) ≡ false → (is_some v.pending_error || is_opening v.state) ≡ false → (length v.receiving.readable == 0) ≡ false
          → read_front (Connected v k) buffer ≡ take (recv_count v (length buffer)) v.receiving.readable ++ drop (recv_count v (length buffer)) buffer
      front_is v k buffer some may readable = let parts = or_parts (is_some v.pending_error) (is_opening v.state) may in rw (some, parts.0, parts.1, readable) refl

      blank : List ℕ
      blank = replicate len 0

      told : (named.0 == id.0) ≡ true → (v : View) (l : Option SocketId) → v.released ≡ false → (len == 0) ≡ false → Gives v len
          → recv_answer h named len ≡ (if not (length v.receiving.readable == 0) then Ok (Octets (recv_count v len)) else Ok EndOfStream) → (k : Option SocketId) → role_of h named ≡ Some (Connected v k)
          → Befalls c id (record { before = old; event = Calls (table.Receives named len); after = new }) (Some v) (Some (calls.after_recv v len))
      told same v l unleft some g answer k role =
          by_test (length v.receiving.readable == 0)
          (λ empty.
          let says : recv_answer h named len ≡ Ok EndOfStream = rw empty at answer in
          let read : read_at id old (Calls (table.Receives named len)) ≡ [] = rw (same, says) refl in
          reads v len g.may unleft refl (read ∙ sym (none_taken (recv_count v len) v.receiving.readable (eqb-true _ _ empty))) (λ ends. (eqb-true _ _ empty, g.ends (eqb-true _ _ empty))))
          (λ more.
          let says : recv_answer h named len ≡ Ok (Octets (recv_count v len)) = rw more at answer in
          let wide : length blank ≡ len = length-replicate len 0 in
          let wide_enough : (length blank == 0) ≡ false = ap (λ (n : ℕ). n == 0) wide ∙ some in
          let front : recv_front h named blank ≡ take (recv_count v (length blank)) v.receiving.readable ++ drop (recv_count v (length blank)) blank =
          (let of_role : recv_front h named blank ≡ read_front (Connected v k) blank = rw role refl in of_role ∙ front_is v k blank wide_enough g.may more) in
          let read : read_at id old (Calls (table.Receives named len)) ≡ take (recv_count v len) (recv_front h named blank) = rw (same, says) refl in
          let again : take (recv_count v len) (take (recv_count v (length blank)) v.receiving.readable ++ drop (recv_count v (length blank)) blank) ≡ take (recv_count v len) v.receiving.readable =
          subst (λ (n : ℕ). take (recv_count v n) (take (recv_count v (length blank)) v.receiving.readable ++ drop (recv_count v (length blank)) blank) ≡ take (recv_count v n) v.receiving.readable) wide
          (taken_again (length blank) v.receiving.readable (drop (recv_count v (length blank)) blank)) in
          let silent : ended_at id old (Calls (table.Receives named len)) ≡ false = rw (same, says) refl in
          reads v len g.may unleft refl (read ∙ ap (λ (xs : List ℕ). take (recv_count v len) xs) front ∙ again) (λ ends. let bad : true ≡ false = sym ends ∙ silent in cc))

      apart : (named.0 == id.0) ≡ false → (v : View) (l : Option SocketId) → view_out h (table.Receives named len) id v l ≡ Some v
      apart other v l = by_test (len == 0) (λ none. rw none refl) (λ some. rw (some, turned named.0 id.0 other) refl)

  shuts_led : (named : SocketId) → IsAllowed h (table.Shuts named) → new.sockets ≡ table.after_event h (table.Shuts named) → Befalls c id (record { before = old; event = Calls (table.Shuts named); after = new }) (connection_of id old) (connection_of id new)
  shuts_led named allowed is =
      by_test (named.0 == id.0)
      (λ same.
      let t = shuts_at h named o allowed in
      by_event c id old new (Calls (table.Shuts named)) (table.Shuts named) o is (λ moment number source s same. cc) tt (λ none. plain (table.Shuts named) refl refl refl)
      (λ v l there goes.
      let own = this h id named t.v v t.listener l t.named same there in
      let fine : calls.shutdown_refusal v ≡ None = subst (λ (w : View). calls.shutdown_refusal w ≡ None) own.same t.unrefused in
      let out : view_out h (table.Shuts named) id v l ≡ Some (calls.after_shutdown v h.kept) =
      ap (λ (b : Bool). view_left v (if b then Some (edge.Shuts h.kept) else None)) own.socket ∙ ap (λ (b : Bool). Some (if b then v else calls.after_shutdown v h.kept)) (ap (λ r. is_some r) fine) in
      subst (λ (w : Option View). Befalls c id (record { before = old; event = Calls (table.Shuts named); after = new }) (Some v) w) (sym out) (shuts v h.kept (plain (table.Shuts named) refl refl refl) same fine)))
      (λ other. other_call (table.Shuts named) (λ moment number source s same. cc) tt is (plain (table.Shuts named) refl refl refl)
      (λ v l. ap (λ (b : Bool). view_left v (if b then Some (edge.Shuts h.kept) else None)) (another id named v l other)))

  leaves_led : (how : Leave) (named : SocketId) → new.sockets ≡ table.after_event h (table.Leaves how named) → Befalls c id (record { before = old; event = Calls (table.Leaves how named); after = new }) (connection_of id old) (connection_of id new)
  leaves_led how named is =
      by_event c id old new (Calls (table.Leaves how named)) (table.Leaves how named) o is (λ moment number source s same. cc) tt (λ none. untold)
      (λ v l there goes. by_test (is_socket named (connected id v l))
      (λ own. let left : view_out h (table.Leaves how named) id v l ≡ view_left v (Some (leaving_event how h.kept v)) = ap (λ (b : Bool). view_left v (if b then Some (leaving_event how h.kept v) else if is_waiting_at named (connected id v l) then Some (edge.Aborts h.kept) else None)) own in
      subst (λ (w : Option View). Befalls c id (record { before = old; event = Calls (table.Leaves how named); after = new }) (Some v) w) (sym left)
      (by_how how v (let at : id.0 ≡ named.0 = eqb-true id.0 named.0 (and_left _ _ own) in eq-eqb named.0 id.0 (sym at)) (λ none. goes (left ∙ none))))
      (λ other. let left : view_out h (table.Leaves how named) id v l ≡ view_left v (if is_waiting_at named (connected id v l) then Some (edge.Aborts h.kept) else None) = ap (λ (b : Bool). view_left v (if b then Some (leaving_event how h.kept v) else if is_waiting_at named (connected id v l) then Some (edge.Aborts h.kept) else None)) other in
      subst (λ (w : Option View). Befalls c id (record { before = old; event = Calls (table.Leaves how named); after = new }) (Some v) w) (sym left)
      (quiet_left c id old new (Calls (table.Leaves how named)) v untold _ (quiet_if (is_waiting_at named (connected id v l)) (edge.Aborts h.kept) tt) (λ none. goes (left ∙ none)))))
    where
      untold : IsUntold id (record { before = old; event = Calls (table.Leaves how named); after = new })
      untold = plain (table.Leaves how named) refl refl refl

      by_how : (leave : Leave) (v : View) → (named.0 == id.0) ≡ true → (view_left v (Some (leaving_event leave h.kept v)) ≡ None → IsGone id new) → Befalls c id (record { before = old; event = Calls (table.Leaves leave named); after = new }) (Some v) (view_left v (Some (leaving_event leave h.kept v)))
      by_how Close v same goes =
          one_left c id old new (Calls (table.Leaves Close named)) v (edge.Closes h.kept) (plain (table.Leaves Close named) refl refl refl) goes (closes v h.kept (plain (table.Leaves Close named) refl refl refl) same)
      by_how Abort v same goes =
          by_test (is_syn_sent v.state)
          (λ opens.
          let removed : (is_closed v.state || is_syn_sent v.state) ≡ true = either (is_closed v.state) (is_syn_sent v.state) opens in
          let out : view_left v (Some (leaving_event Abort h.kept v)) ≡ None = rw (opens, removed) refl in
          subst (λ (w : Option View). Befalls c id (record { before = old; event = Calls (table.Leaves Abort named); after = new }) (Some v) w) (sym out) (leaves v (plain (table.Leaves Abort named) refl refl refl) (goes out)))
          (λ past.
          let by : leaving_event Abort h.kept v ≡ edge.Aborts h.kept = rw past refl in
          subst (λ (e : edge.Event). Befalls c id (record { before = old; event = Calls (table.Leaves Abort named); after = new }) (Some v) (view_left v (Some e))) (sym by)
          (quiet_left c id old new (Calls (table.Leaves Abort named)) v (plain (table.Leaves Abort named) refl refl refl) (Some (edge.Aborts h.kept)) tt (λ none. goes (ap (λ (e : edge.Event). view_left v (Some e)) by ∙ none))))
        where
          either : (a b : Bool) → b ≡ true → (a || b) ≡ true
          either true b is = refl
          either false b is = is

  -- Any call.
  pub call_led : (call : table.Event) → IsAllowed h call → timing.IsNumbered call → IsCall c.routes call → new.sockets ≡ table.after_event h call → Befalls c id (record { before = old; event = Calls call; after = new }) (connection_of id old) (connection_of id new)
  call_led (table.Makes buffers) allowed small may is = other_call (table.Makes buffers) (λ moment number source s same. cc) tt is (plain (table.Makes buffers) refl refl refl) (λ v l. refl)
  call_led table.MakesDatagrams allowed small may is = other_call table.MakesDatagrams (λ moment number source s same. cc) tt is (plain table.MakesDatagrams refl refl refl) (λ v l. refl)
  call_led (table.Binds named local) allowed small may is = other_call (table.Binds named local) (λ moment number source s same. cc) tt is (plain (table.Binds named local) refl refl refl) (λ v l. refl)
  call_led (table.Listens named backlog) allowed small may is = other_call (table.Listens named backlog) (λ moment number source s same. cc) tt is (plain (table.Listens named backlog) refl refl refl) (λ v l. refl)
  call_led (table.Accepts named) allowed small may is = other_call (table.Accepts named) (λ moment number source s same. cc) tt is (plain (table.Accepts named) refl refl refl) (λ v l. refl)
  call_led (table.Connects now isn named peer routed) allowed small may is = other_call (table.Connects now isn named peer routed) (λ moment number source s same. cc) small is (plain (table.Connects now isn named peer routed) refl refl refl) (λ v l. refl)
  call_led (table.Sends named octets) allowed small may is = sends_led named octets allowed is
  call_led (table.Receives named len) allowed small may is = reads_led named len allowed is
  call_led (table.Shuts named) allowed small may is = shuts_led named allowed is
  call_led (table.SetsNoDelay named on) allowed small may is =
      let untold = plain (table.SetsNoDelay named on) refl refl refl in
      by_event c id old new (Calls (table.SetsNoDelay named on)) (table.SetsNoDelay named on) o is (λ moment number source s same. cc) tt (λ none. untold)
      (λ v l there goes. quiet_left c id old new (Calls (table.SetsNoDelay named on)) v untold _ (quiet_if (is_socket named (connected id v l)) (edge.SetsNoDelay on h.kept) tt) goes)
  call_led (table.SetsKeepAlive named every) allowed small may is =
      let untold = plain (table.SetsKeepAlive named every) refl refl refl in
      by_event c id old new (Calls (table.SetsKeepAlive named every)) (table.SetsKeepAlive named every) o is (λ moment number source s same. cc) tt (λ none. untold)
      (λ v l there goes. quiet_left c id old new (Calls (table.SetsKeepAlive named every)) v untold _ (quiet_if (is_socket named (connected id v l)) (edge.SetsKeepAlive every h.kept) tt) goes)
  call_led (table.Leaves how named) allowed small may is = leaves_led how named is
  call_led (table.SendsTo named peer octets routed) allowed small may is = other_call (table.SendsTo named peer octets routed) (λ moment number source s same. cc) tt is (plain (table.SendsTo named peer octets routed) refl refl refl) (λ v l. refl)
  call_led (table.ReceivesFrom named len) allowed small may is = other_call (table.ReceivesFrom named len) (λ moment number source s same. cc) tt is (plain (table.ReceivesFrom named len) refl refl refl) (λ v l. refl)
  call_led (table.GivesWay meant) allowed small may is =
      let untold = plain (table.GivesWay meant) refl refl refl in
      by_event c id old new (Calls (table.GivesWay meant)) (table.GivesWay meant) o is (λ moment number source s same. cc) tt (λ none. untold)
      (λ v l there goes. let_or c id old new (Calls (table.GivesWay meant)) (is_let_go h (table.GivesWay meant) (connected id v l)) v (Some v) untold goes (λ rest. quietly v v untold (stays v)))
  call_led (table.Ticks now) allowed small may is = absurd may
  call_led (table.Hears now isn source s) allowed small may is = absurd may
  call_led (table.Emits goes now) allowed small may is = absurd may
  call_led (table.GivesUp lost now) allowed small may is = absurd may
  call_led (table.Unreachable local peer number) allowed small may is = absurd may
  call_led (table.HearsDatagram source d) allowed small may is = absurd may
