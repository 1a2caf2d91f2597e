-- What a search finds by the keys under which it may be filed.
use Rattle.std.proofs.Common.{◌≡◌, ℕ, ◌+◌, ◌*◌, ◌%◌, ◌<◌, ◌≤◌, ◌&&◌, not, Bool, true, false, true≢false, List, [], ◌∷◌, length, get_or, Some, None, refl, sym, ◌∙◌, ap, arith}
use Rattle.std.specs.Prelude.{nat_lt}
use Rattle.std.specs.List.{list_any, position, AllByRecursion, AllWithin}
use Rattle.std.proofs.lemmas.Bool.{eqb-true, eq-eqb, and_parts}
use Rattle.std.proofs.lemmas.Bool.Decides.{nat_tests}
use Rattle.std.proofs.lemmas.Nat.{mod_below}
use Rattle.std.proofs.lemmas.List.{get_or_default}
use Rattle.std.proofs.lemmas.List.Elements.{recursion_from_All}
use Rattle.std.proofs.lemmas.List.Folds.{list_any_at}
use Rattle.std.proofs.lemmas.List.Quantifiers.{position-Some}
use Rattle.ipv4.specs.declared.addr.Endpoint.{Endpoint}
use Rattle.ipv4.specs.Addresses.{same_end}
use Rattle.ipv4.specs.Prefixes.{number}
use Rattle.tcp_state.specs.View.{is_closed}
use Rattle.sockets.specs.declared.entry.SocketId.{SocketId}
use Rattle.sockets.specs.declared.entry.Entry.{Entry}
use Rattle.sockets.specs.declared.found.Sought.{Sought}
use Rattle.sockets.specs.declared.found.Sought.TheVariants as sought
use Rattle.sockets.specs.declared.index.Filed.{Filed}
use Rattle.sockets.specs.declared.role.Role.{Role}
use Rattle.sockets.specs.declared.role.Role.TheVariants.{Idle, Listener, Connected, Datagrams}
use Rattle.sockets.specs.Entries.{has_socket, is_live_between, listens_at, uses_datagram_port, uses_port}
use Rattle.sockets.specs.Ids.{has_id, AreInOrder}
use Rattle.sockets.specs.Index.{no_peer, key_of, filed_at, filed_as, filed, is_before, AreSorted, index_of, is_sought, is_sought_in, is_sought_as, low_key, high_key}
use Rattle.sockets.proofs.Ascending.{is_some-position}
use Rattle.sockets.proofs.Ends.{same_end-true}
use Rattle.sockets.proofs.Filed.{all_filed, sorted_from}
use Rattle.sockets.proofs.Firsts.{position-from_fails, position-none_passes}
use Rattle.sockets.proofs.Followed.{by_test}

-- The keys of what is looked for.

-- each key of a port is one of its range
key_in_port : (port : ℕ) (peer : Endpoint) → (port * 281474976710656 ≤ key_of port peer) × (key_of port peer ≤ port * 281474976710656 + 281474976710655)
unfolding key_of
key_in_port port peer =
    let within : (number peer.addr * 65536 + peer.port) % 281474976710656 < 281474976710656 = mod_below (number peer.addr * 65536 + peer.port) 281474976710656 (omega arith) in
    (omega arith, omega arith)

abbrev keyed : ℕ → SocketId → Filed
keyed key id = record { key = key; id = id }

-- a role is filed by a key of the range
abbrev IsFiledIn : ℕ → ℕ → SocketId → Role → Type 0
IsFiledIn low high id role = (key : ℕ) × (filed_as id role ≡ Some (keyed key id)) × (low ≤ key) × (key ≤ high)

-- what has a port over TCP
filed_stream : (id : SocketId) (port : ℕ) (role : Role) → uses_port port role ≡ true → IsFiledIn (port * 281474976710656) (port * 281474976710656 + 281474976710655) id role
filed_stream id port (Connected c listener) passes =
    let keys = key_in_port port c.peer in
    (key_of port c.peer, ap (λ n. Some (filed_at id n c.peer)) (eqb-true c.local.port port passes), keys.0, keys.1)
filed_stream id port (Listener local backlog) passes =
    let keys = key_in_port port no_peer in
    (key_of port no_peer, ap (λ n. Some (filed_at id n no_peer)) (eqb-true local.port port passes), keys.0, keys.1)
filed_stream id port (Idle buffers (Some local)) passes =
    let keys = key_in_port port no_peer in
    (key_of port no_peer, ap (λ n. Some (filed_at id n no_peer)) (eqb-true local.port port passes), keys.0, keys.1)
filed_stream id port (Idle buffers None) passes = cc
filed_stream id port (Datagrams bound socket) passes = cc

-- a connection between these ends is filed by them
filed_between : (id : SocketId) (local peer : Endpoint) (role : Role) → is_live_between local peer role ≡ true → IsFiledIn (key_of local.port peer) (key_of local.port peer) id role
filed_between id local peer (Connected c listener) passes =
    let parts = and_parts (same_end c.local local) (same_end c.peer peer) (and_parts (not (is_closed c.state)) (same_end c.local local && same_end c.peer peer) passes).1 in (
      key_of local.port peer,
      ap (λ (l : Endpoint). Some (filed_at id l.port c.peer)) (same_end-true c.local local parts.0) ∙ ap (λ (p : Endpoint). Some (filed_at id local.port p)) (same_end-true c.peer peer parts.1),
      omega arith,
      omega arith,
    )
filed_between id local peer (Listener l b) passes = cc
filed_between id local peer (Idle buffers bound) passes = cc
filed_between id local peer (Datagrams bound socket) passes = cc

filed_listener : (id : SocketId) (port : ℕ) (role : Role) → listens_at port role ≡ true → IsFiledIn (key_of port no_peer) (key_of port no_peer) id role
filed_listener id port (Listener local backlog) passes = (key_of port no_peer, ap (λ n. Some (filed_at id n no_peer)) (eqb-true local.port port passes), omega arith, omega arith)
filed_listener id port (Connected c listener) passes = cc
filed_listener id port (Idle buffers bound) passes = cc
filed_listener id port (Datagrams bound socket) passes = cc

filed_datagrams : (id : SocketId) (port : ℕ) (role : Role) → uses_datagram_port port role ≡ true → IsFiledIn (key_of port no_peer) (key_of port no_peer) id role
filed_datagrams id port (Datagrams (Some local) socket) passes = (key_of port no_peer, ap (λ n. Some (filed_at id n no_peer)) (eqb-true local.port port passes), omega arith, omega arith)
filed_datagrams id port (Datagrams None socket) passes = cc
filed_datagrams id port (Connected c listener) passes = cc
filed_datagrams id port (Listener local backlog) passes = cc
filed_datagrams id port (Idle buffers bound) passes = cc

-- what is looked for is filed by a key of its range
filed_sought : (what : Sought) (id : SocketId) (role : Role) → is_sought what role ≡ true → IsFiledIn (low_key what) (high_key what) id role
filed_sought (sought.Connection local peer) id role passes = filed_between id local peer role passes
filed_sought (sought.Listener port) id role passes = filed_listener id port role passes
filed_sought (sought.Datagrams port) id role passes = filed_datagrams id port role passes
filed_sought (sought.Stream port) id role passes = filed_stream id port role passes
filed_sought (sought.Socket port) id role passes = filed_stream id port role (and_parts (has_socket role) (uses_port port role) passes).1

-- The search.

-- no element passes where there is no place
nowhere_passes : (test : Entry → Bool) (xs : List Entry) → position test xs ≡ None → (i : ℕ) (d : Entry) → i < length xs → test (get_or xs i d) ≡ true → ⊥
nowhere_passes test xs none i d within passes =
    let any : list_any test xs ≡ true = list_any_at test xs i d within passes in
    let no : false ≡ list_any test xs = is_some-position test xs None (sym none) in
    true≢false (sym any ∙ sym no)

-- where it is filed by a key of the range, its entry is not what is looked for
abbrev pub IsPassed : List Entry → Sought → Filed → Type 0
IsPassed xs what x = low_key what ≤ x.key → x.key ≤ high_key what → position (is_sought_as x.id what) xs ≡ None

module _ (xs : List Entry) (sorted : AreInOrder xs) (what : Sought) where
  -- the entry in this place is none, as it would be found
  passed : (i : ℕ) (d : Entry) → i < length xs → (is_sought_in what (get_or xs i d) ≡ true → (key : ℕ) → filed (get_or xs i d) ≡ Some (keyed key (get_or xs i d).id) → IsPassed xs what (keyed key (get_or xs i d).id)) → is_sought_in what (get_or xs i d) ≡ false
  passed i d within filed_so =
      let e : Entry = get_or xs i d in
      by_test (is_sought_in what e)
      (λ passes.
      let keys = filed_sought what e.id e.role passes in
      absurd (nowhere_passes (is_sought_as e.id what) xs (filed_so passes keys.0 keys.1 keys.2 keys.3) i d within (rw (eq-eqb e.id.0 e.id.0 refl) passes)))
      (λ fails. fails)

  pub found_none : AllByRecursion (IsPassed xs what) (index_of xs) → position (is_sought_in what) xs ≡ None
  found_none all = position-none_passes (is_sought_in what) xs
      (λ i d low within. let e : Entry = get_or xs i d in passed i d within (λ passes key is. all_filed (IsPassed xs what) xs all i d within (keyed key e.id) is))

  pub found_nothing : AllByRecursion (IsPassed xs what) (index_of xs) → false ≡ list_any (is_sought_in what) xs
  found_nothing all = is_some-position (is_sought_in what) xs None (sym (found_none all))

  -- what is found is one
  pub found_any : (place : ℕ) (id : SocketId) → position (is_sought_as id what) xs ≡ Some place → true ≡ list_any (is_sought_in what) xs
  found_any place id at = by_list xs refl
    where
      by_list : (ys : List Entry) → ys ≡ xs → true ≡ list_any (is_sought_in what) xs
      by_list [] same = let bad : None ≡ Some place = ap (λ (ws : List Entry). position (is_sought_as id what) ws) same ∙ at in cc
      by_list (y ∷ ys) same =
          let there = position-Some (is_sought_as id what) xs place y at in
          let e : Entry = get_or xs place y in
          sym (list_any_at (is_sought_in what) xs place y there.0 (and_parts (has_id id e) (is_sought_in what e) there.1).1)

  -- and the first, where none of a lower id is
  pub found_first : (place : ℕ) (id : SocketId) → position (is_sought_as id what) xs ≡ Some place → AllByRecursion (λ (x : Filed). x.id.0 < id.0 → IsPassed xs what x) (index_of xs) → position (is_sought_in what) xs ≡ Some place
  found_first place id at all = by_list xs refl
    where
      by_list : (ys : List Entry) → ys ≡ xs → position (is_sought_in what) xs ≡ Some place
      by_list [] same = let bad : None ≡ Some place = ap (λ (ws : List Entry). position (is_sought_as id what) ws) same ∙ at in cc
      by_list (y ∷ ys) same =
          let there = position-Some (is_sought_as id what) xs place y at in
          let e : Entry = get_or xs place y in
          let parts = and_parts (has_id id e) (is_sought_in what e) there.1 in
          let its_id : e.id.0 ≡ id.0 = eqb-true e.id.0 id.0 parts.0 in
          position-from_fails (is_sought_in what) xs place e there.0
          (λ i d low below.
          let w : Entry = get_or xs i d in
          let within : i < length xs = omega (arith, there.0) in
          passed i d within
          (λ passes key is.
          let lower : w.id.0 < (get_or xs place d).id.0 = sorted i place d below there.0 in
          let there_too : (get_or xs place d).id.0 ≡ e.id.0 = ap (λ (z : Entry). z.id.0) (get_or_default xs place d y there.0) in
          all_filed (λ (x : Filed). x.id.0 < id.0 → IsPassed xs what x) xs all i d within (keyed key w.id) is (omega arith)))
          (get_or_default xs place y e there.0) parts.1

-- what stands in front of the first of a key is passed
pub passed_below : (xs : List Entry) (what : Sought) (low : ℕ) (l : List Filed) (i : ℕ) → low ≡ low_key what → AllWithin (λ y. nat_lt y.key low ≡ true) l 0 i → AllWithin (IsPassed xs what) l 0 i
passed_below xs what low l i is below k d first within from to = let lower : nat_lt (get_or l k d).key low ≡ true = below k d first within in absurd (grind (arith, nat_tests))

-- where all in front of one are passed
module _ (xs : List Entry) (what : Sought) (l : List Filed) (sorted : AreSorted l) (at : ℕ) (here : Filed) (is_here : here ≡ get_or l at here) (within : at < length l) (before : AllWithin (IsPassed xs what) l 0 at) where
  later : (k : ℕ) (d : Filed) → at ≤ k → k < length l → is_before (get_or l k d) here ≡ false
  later k d high inside = ap (λ (z : Filed). is_before (get_or l k d) z) (is_here ∙ get_or_default l at here d within) ∙ sorted_from l sorted at k d high inside

  -- all are, where its key is higher than the greatest
  pub all_passed : high_key what < here.key → AllByRecursion (IsPassed xs what) l
  all_passed higher = recursion_from_All (IsPassed xs what) l (λ k d inside. by_test (nat_lt k at)
      (λ low. before k d (omega arith) (grind (arith, nat_tests)))
      (λ high from to. absurd (apart (get_or l k d) (later k d (grind (arith, nat_tests)) inside) to)))
    where
      apart : (z : Filed) → is_before z here ≡ false → z.key ≤ high_key what → ⊥
      apart z behind to = grind (arith, nat_tests)

  -- all of a lower id are, where there is one key
  pub all_lower : low_key what ≡ high_key what → low_key what ≤ here.key → AllByRecursion (λ (z : Filed). z.id.0 < here.id.0 → IsPassed xs what z) l
  all_lower one key = recursion_from_All (λ (z : Filed). z.id.0 < here.id.0 → IsPassed xs what z) l (λ k d inside. by_test (nat_lt k at)
      (λ low less. before k d (omega arith) (grind (arith, nat_tests)))
      (λ high less from to. absurd (apart (get_or l k d) (later k d (grind (arith, nat_tests)) inside) less to)))
    where
      apart : (z : Filed) → is_before z here ≡ false → z.id.0 < here.id.0 → z.key ≤ high_key what → ⊥
      apart z behind less to = grind (arith, nat_tests)
