-- How the order of a table is kept, entry by entry.
use Rattle.std.proofs.Common.{◌≡◌, inl, inr, ℕ, ◌+◌, ◌≤◌, ◌&&◌, not, Bool, true, false, cond, List, [], ◌∷◌, ◌++◌, count_by, Option, Some, None, refl, sym, ◌∙◌, ap, subst, arith}
use Rattle.std.specs.List.{find, list_any, AllByRecursion}
use Rattle.std.proofs.lemmas.List.Sums.{sum_by-cons, sum_by_push}
use Rattle.std.proofs.lemmas.Bool.{and_parts, and_from, or_parts}
use Rattle.ipv4.specs.declared.addr.Addr.{Addr}
use Rattle.ipv4.specs.declared.addr.Endpoint.{Endpoint}
use Rattle.udp_socket.specs.SocketView.{SocketView as Queues}
use Rattle.tcp_state.specs.View.{View, is_closed}
use Rattle.tcp_state.proofs.Causes.{not_true, of_false}
use Rattle.sockets.specs.declared.entry.SocketId.{SocketId}
use Rattle.sockets.specs.declared.entry.Entry.{Entry}
use Rattle.ipv4.specs.Addresses.{same_addr, same_end}
use Rattle.sockets.specs.declared.role.Role.{Role}
use Rattle.sockets.specs.declared.role.Role.TheVariants.{Connected, Datagrams}
use Rattle.sockets.specs.Entries.{is_live_between, is_between, uses_datagram_port, is_datagrams_at}
use Rattle.sockets.specs.SocketsView.{SocketsView}
use Rattle.sockets.specs.Lists.{change_first}
use Rattle.sockets.specs.Causes.{Follows}
use Rattle.sockets.specs.Ports.{IsDynamic}
use Rattle.sockets.specs.Ids.{AreAscending}
use Rattle.sockets.specs.Order.{has_for_itself, is_alone_at, LiesAt, IsOrdered}
use Rattle.sockets.proofs.Ascending.{ascends_followed}
use Rattle.sockets.proofs.KeptEnds.{KeepsEnds}
use Rattle.sockets.proofs.Followed.{IsNothing, by_test, all_followed}

-- Where the exceptions fail, a role lies between no further ends and has no further port for itself, over TCP or over UDP.
pub record IsBound (at_ends : Endpoint → Endpoint → Bool) (at_port at_datagrams : ℕ → Bool) (here : Addr) (before after : Role) : Type 0 where
  pub ends : (local peer : Endpoint) → at_ends local peer ≡ false → is_live_between local peer after ≡ true → is_live_between local peer before ≡ true
  pub port : (port : ℕ) → at_port port ≡ false → has_for_itself port after ≡ true → has_for_itself port before ≡ true
  pub datagrams : (port : ℕ) → at_datagrams port ≡ false → uses_datagram_port port after ≡ true → uses_datagram_port port before ≡ true
  pub own : LiesAt here before → LiesAt here after

-- an entry that stays keeps its id
abbrev pub Keeps : (Endpoint → Endpoint → Bool) → (ℕ → Bool) → (ℕ → Bool) → Addr → Entry → Option Entry → Type 0
Keeps at_ends at_port at_datagrams own x None = Unit {0}
Keeps at_ends at_port at_datagrams own x (Some y) = (y.id ≡ x.id) × IsBound at_ends at_port at_datagrams own x.role y.role

-- Counts.

count_cons : (test : Entry → Bool) (x : Entry) (xs : List Entry) → count_by test (x ∷ xs) ≡ cond (test x) 1 0 + count_by test xs
count_cons test x xs = sum_by-cons (λ (e : Entry). cond (test e) 1 0) x xs

one_le : (b c : Bool) → (b ≡ true → c ≡ true) → cond b 1 0 ≤ cond c 1 0
one_le b c keeps = grind arith

module _ (Step : Entry → Option Entry → Type 0) where
  count_followed : (test : Entry → Bool) → ((x y : Entry) → Step x (Some y) → test y ≡ true → test x ≡ true) → (xs ys : List Entry) → Follows Step IsNothing xs ys → count_by test ys ≤ count_by test xs
  count_followed test keeps [] ys f = subst (λ (ws : List Entry). count_by test ws ≤ 0) (sym f) (omega arith)
  count_followed test keeps (x ∷ xs) [] f = omega arith
  count_followed test keeps (x ∷ xs) (y ∷ ys) (inl f) =
      let rest : count_by test ys ≤ count_by test xs = count_followed test keeps xs ys f.1 in
      let first : cond (test y) 1 0 ≤ cond (test x) 1 0 = one_le (test y) (test x) (keeps x y f.0) in
      rw (count_cons test y ys, count_cons test x xs) (omega arith)
  count_followed test keeps (x ∷ xs) (y ∷ ys) (inr f) =
      let rest : count_by test (y ∷ ys) ≤ count_by test xs = count_followed test keeps xs (y ∷ ys) f.1 in
      let all : count_by test (x ∷ xs) ≡ cond (test x) 1 0 + count_by test xs = count_cons test x xs in
      omega arith

-- a change of one entry adds one at most
pub count_changed : (s test : Entry → Bool) (f : Entry → Entry) (xs : List Entry) → count_by test (change_first s f xs) ≤ count_by test xs + 1
count_changed s test f [] = omega arith
count_changed s test f (x ∷ xs) = by_first (s x) (count_changed s test f xs)
  where
    most : (b : Bool) → cond b 1 0 ≤ 1
    most true = omega arith
    most false = omega arith

    by_first : (b : Bool) → count_by test (change_first s f xs) ≤ count_by test xs + 1 → count_by test (cond b (f x ∷ xs) (x ∷ change_first s f xs)) ≤ count_by test (x ∷ xs) + 1
    by_first true rest =
        let one : cond (test (f x)) 1 0 ≤ 1 = most (test (f x)) in
        let old : count_by test (x ∷ xs) ≡ cond (test x) 1 0 + count_by test xs = count_cons test x xs in
        let new : count_by test (f x ∷ xs) ≡ cond (test (f x)) 1 0 + count_by test xs = count_cons test (f x) xs in
        omega arith
    by_first false rest =
        let old : count_by test (x ∷ xs) ≡ cond (test x) 1 0 + count_by test xs = count_cons test x xs in
        let new : count_by test (x ∷ change_first s f xs) ≡ cond (test x) 1 0 + count_by test (change_first s f xs) = count_cons test x (change_first s f xs) in
        omega arith

pub count_joined : (test : Entry → Bool) (xs : List Entry) (x : Entry) → count_by test (xs ++ x ∷ []) ≡ count_by test xs + cond (test x) 1 0
count_joined test xs x = sum_by_push (λ (e : Entry). cond (test e) 1 0) xs x

-- none passes where none is found
none_more : (test : Entry → Bool) (x : Entry) (xs : List Entry) → test x ≡ false → count_by test xs ≡ 0 → count_by test (x ∷ xs) ≡ 0
none_more test x xs fails rest =
    let all : count_by test (x ∷ xs) ≡ cond (test x) 1 0 + count_by test xs = count_cons test x xs in
    let zero : cond {A = ℕ} (test x) 1 0 ≡ 0 = ap (λ (b : Bool). cond {A = ℕ} b 1 0) fails in
    omega arith

pub count_unfound : (test : Entry → Bool) (xs : List Entry) → find test xs ≡ None → count_by test xs ≡ 0
count_unfound test [] none = refl
count_unfound test (x ∷ xs) none =
    by_test (test x)
    (λ here. let some : Some x ≡ None = ap (λ b. cond b (Some x) (find test xs)) (sym here) ∙ none in cc)
    (λ not_here. none_more test x xs not_here (count_unfound test xs (ap (λ b. cond b (Some x) (find test xs)) (sym not_here) ∙ none)))

pub count_none : (test : Entry → Bool) (xs : List Entry) → list_any test xs ≡ false → count_by test xs ≡ 0
count_none test [] none = refl
count_none test (x ∷ xs) none = let parts = or_parts (test x) (list_any test xs) none in none_more test x xs parts.0 (count_none test xs parts.1)

-- The order of the table.

pub ordered_by : (at_ends : Endpoint → Endpoint → Bool) (at_port at_datagrams : ℕ → Bool) (h w : SocketsView) → w.addr ≡ h.addr → w.last_id ≡ h.last_id → (IsDynamic h.last_port → IsDynamic w.last_port)
    → Follows (Keeps at_ends at_port at_datagrams h.addr) IsNothing h.entries w.entries
    → ((local peer : Endpoint) → at_ends local peer ≡ true → count_by (is_between local peer) w.entries ≤ 1)
    → ((port : ℕ) → at_port port ≡ true → count_by (is_alone_at port) w.entries ≤ 1)
    → ((port : ℕ) → at_datagrams port ≡ true → count_by (is_datagrams_at port) w.entries ≤ 1)
    → IsOrdered h → IsOrdered w
ordered_by at_ends at_port at_datagrams h w addr last last_port f ends ports datagrams o = record {
  last_port = last_port o.last_port;
  ids = subst (λ (n : ℕ). AreAscending 0 n w.entries) (sym last) (ascends_followed (Keeps at_ends at_port at_datagrams h.addr) (λ x y s. s.0) 0 h.last_id h.entries w.entries f o.ids);
  ends = λ local peer. by_test (at_ends local peer) (ends local peer)
      (λ other. let before : count_by (is_between local peer) h.entries ≤ 1 = o.ends local peer in
      let less : count_by (is_between local peer) w.entries ≤ count_by (is_between local peer) h.entries = count_followed (Keeps at_ends at_port at_datagrams h.addr) (is_between local peer) (λ x y s passes. s.1.ends local peer other passes) h.entries w.entries f in omega arith);
  ports = λ port. by_test (at_port port) (ports port)
      (λ other. let before : count_by (is_alone_at port) h.entries ≤ 1 = o.ports port in
      let less : count_by (is_alone_at port) w.entries ≤ count_by (is_alone_at port) h.entries = count_followed (Keeps at_ends at_port at_datagrams h.addr) (is_alone_at port) (λ x y s passes. s.1.port port other passes) h.entries w.entries f in omega arith);
  datagram_ports = λ port. by_test (at_datagrams port) (datagrams port)
      (λ other. let before : count_by (is_datagrams_at port) h.entries ≤ 1 = o.datagram_ports port in
      let less : count_by (is_datagrams_at port) w.entries ≤ count_by (is_datagrams_at port) h.entries = count_followed (Keeps at_ends at_port at_datagrams h.addr) (is_datagrams_at port) (λ x y s passes. s.1.datagrams port other passes) h.entries w.entries f in omega arith);
  own = subst (λ (a : Addr). AllByRecursion (λ (e : Entry). LiesAt a e.role) w.entries) (sym addr)
      (all_followed (Keeps at_ends at_port at_datagrams h.addr) (λ (e : Entry). LiesAt h.addr e.role) (λ x y s lies. s.1.own lies) h.entries w.entries f o.own);
}

-- Roles without exception.

abbrev pub nowhere : Endpoint → Endpoint → Bool
nowhere local peer = false

abbrev pub no_port : ℕ → Bool
no_port port = false

abbrev pub KeepsRole : Role → Role → Type 0
KeepsRole before after = (own : Addr) → IsBound nowhere no_port no_port own before after

pub keeps_role : (r : Role) → KeepsRole r r
keeps_role r own = record { ends = λ local peer e live. live; port = λ port e has. has; datagrams = λ port e has. has; own = λ lies. lies }

pub ordered_still : (h w : SocketsView) → w.addr ≡ h.addr → w.last_id ≡ h.last_id → w.last_port ≡ h.last_port → Follows (Keeps nowhere no_port no_port h.addr) IsNothing h.entries w.entries → IsOrdered h → IsOrdered w
ordered_still h w addr last last_port f o = ordered_by nowhere no_port no_port h w addr last (λ (d : IsDynamic h.last_port). subst IsDynamic (sym last_port) d) f (λ local peer e. cc) (λ port e. cc) (λ port e. cc) o

-- a connection whose ends stay
pub keeps_connection : (c d : View) (l k : Option SocketId) → KeepsEnds c d → KeepsRole (Connected c l) (Connected d k)
keeps_connection c d l k keeps own = record {
  ends = λ local peer e live.
      let parts = and_parts (not (is_closed d.state)) (same_end d.local local && same_end d.peer peer) live in
      and_from (not (is_closed c.state)) (same_end c.local local && same_end c.peer peer)
      (of_false (is_closed c.state) (keeps.live (not_true (is_closed d.state) parts.0)))
      (ap (λ (x : Endpoint). same_end x local && same_end c.peer peer) (sym keeps.local) ∙ ap (λ (x : Endpoint). same_end d.local local && same_end x peer) (sym keeps.peer) ∙ parts.1);
  port = λ port e has. cc;
  datagrams = λ port e has. cc;
  own = λ lies. (ap (λ (x : Endpoint). x.addr) keeps.local ∙ lies.0, ap (λ (x : Endpoint). same_addr x.addr own) keeps.peer ∙ lies.1);
}

-- a UDP socket that stays bound where it is
pub keeps_queues : (bound : Option Endpoint) (q r : Queues) → KeepsRole (Datagrams bound q) (Datagrams bound r)
keeps_queues None q r own = record { ends = λ local peer e live. cc; port = λ port e has. cc; datagrams = λ port e has. cc; own = λ lies. tt }
keeps_queues (Some local) q r own = record { ends = λ local peer e live. cc; port = λ port e has. cc; datagrams = λ port e has. has; own = λ lies. tt }
