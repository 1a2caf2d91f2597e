-- Two tables of connections, seen as one pairing for each pair in each of its epochs. What went out is in the bag; what octets it
-- had is not asked here.
use Rattle.std.proofs.Common.{◌≡◌, ℕ, ◌≤◌, ◌^◌, false, List, [], ◌∷◌, ◌++◌, sym, ◌∙◌, subst}
use Rattle.ipv4.specs.declared.addr.Addr.{Addr}
use Rattle.ipv4.specs.declared.addr.Pair.{Pair}
use Rattle.sides.specs.declared.side.Side.{Side}
use Rattle.wire_sim.specs.declared.event.Opening.{Opening}
use Rattle.wire_sim.specs.declared.event.Happening.{Happening}
use Rattle.ipv4.specs.Addresses.{same_addr}
use Rattle.sockets.specs.SocketsView.{SocketsView}
use Rattle.stream_law.specs.Pairing.{Emission, Pairing, from_other}
use Rattle.window_law.specs.Windows.{Talks, begins, here_talks, there_talks}
use Rattle.sides.specs.Sides.{other_side}
use Rattle.wire_sim.specs.Trace.{sent_on, closed_on, read_on, ended_on}
use Rattle.wire_sim.proofs.tables.EntryChanges.{SameTold, table-told, end-told}
use Rattle.wire_sim.proofs.pairing.EndMoves.{pairing}
use Rattle.wire_sim.proofs.tables.TableById.{Told, IsLedger, IsTable, end_at}

-- what the callers of a side's sockets did, and were told
abbrev pub told : Side → List Happening → Told
told side trace id = record { gave = sent_on side id trace; closed = closed_on side id trace; got = read_on side id trace; ended = ended_on side id trace }

-- what went out between the ends of a pair in an epoch
abbrev pub Sent : Type 0
Sent = Pair → ℕ → List Emission

-- every segment that went out, but the resets that belong to no pairing: of our side, and of the other
pub record Bag : Type 0 where
  pub out : Sent
  pub arrived : Sent

abbrev pub turned : Bag → Bag
turned bag = record { out = bag.arrived; arrived = bag.out }

-- The tables of the two hosts at `a` and `b`, as the side `here` sees them. Of any pair in any epoch there are two ends that a run of moves leads
-- to. A connection's peer may be at any address: of a pair with a third host only one end is ever more than nothing.
pub record Projects (limit : ℕ) (here there : Side) (a b : Addr) (own other : SocketsView) (bag : Bag) (openings : List Opening) (trace : List Happening) : Type 0 where
  pub opposite : there ≡ other_side here
  pub back : here ≡ other_side there
  pub small : limit ≤ 2 ^ 30
  pub distinct : same_addr a b ≡ false
  pub distinct_back : same_addr b a ≡ false
  pub own_addr : own.addr ≡ a
  pub other_addr : other.addr ≡ b
  pub ledger : IsLedger openings
  pub own_table : IsTable here a own.last_id own.entries openings (told here trace)
  pub other_table : IsTable there b other.last_id other.entries openings (told there trace)
  pub talks : (pair : Pair) (epoch : ℕ)
      → Talks limit (pairing (end_at here openings own.entries (told here trace) pair epoch) (end_at there openings other.entries (told there trace) pair epoch) (bag.out pair epoch) (bag.arrived pair epoch))

-- a run as the other end sees it
pub talks-swapped : (limit : ℕ) (p : Pairing) → Talks limit p → Talks limit (from_other p)
talks-swapped limit _ begins = begins
talks-swapped limit _ (here_talks p q met move) = there_talks (from_other p) q (talks-swapped limit p met) move
talks-swapped limit _ (there_talks p q met move) = here_talks (from_other p) q (talks-swapped limit p met) move

pub projects-swapped : (limit : ℕ) (here there : Side) (a b : Addr) (own other : SocketsView) (bag : Bag) (openings : List Opening) (trace : List Happening)
    → Projects limit here there a b own other bag openings trace → Projects limit there here b a other own (turned bag) openings trace
projects-swapped limit here there a b own other bag openings trace h = record {
  opposite = h.back;
  back = h.opposite;
  small = h.small;
  distinct = h.distinct_back;
  distinct_back = h.distinct;
  own_addr = h.other_addr;
  other_addr = h.own_addr;
  ledger = h.ledger;
  own_table = h.other_table;
  other_table = h.own_table;
  talks = λ pair epoch.
      talks-swapped limit (pairing (end_at here openings own.entries (told here trace) pair epoch) (end_at there openings other.entries (told there trace) pair epoch) (bag.out pair epoch) (bag.arrived pair epoch)) (h.talks pair epoch);
}

-- What a step of our table must show, where it opens no pair and nothing goes out.
pub record Turns (limit : ℕ) (here there : Side) (a b : Addr) (own own' other : SocketsView) (bag : Bag) (openings : List Opening) (trace trace' : List Happening) : Type 0 where
  pub addr : own'.addr ≡ own.addr
  pub table : IsTable here a own'.last_id own'.entries openings (told here trace')
  pub other_told : SameTold (told there trace) (told there trace')
  pub talks : (pair : Pair) (epoch : ℕ)
      → Talks limit (pairing (end_at here openings own'.entries (told here trace') pair epoch) (end_at there openings other.entries (told there trace) pair epoch) (bag.out pair epoch) (bag.arrived pair epoch))

pub projects-turned : (limit : ℕ) (here there : Side) (a b : Addr) (own own' other : SocketsView) (bag : Bag) (openings : List Opening) (trace trace' : List Happening)
    → Projects limit here there a b own other bag openings trace → Turns limit here there a b own own' other bag openings trace trace'
    → Projects limit here there a b own' other bag openings trace'
projects-turned limit here there a b own own' other bag openings trace trace' h t = record {
  opposite = h.opposite;
  back = h.back;
  small = h.small;
  distinct = h.distinct;
  distinct_back = h.distinct_back;
  own_addr = t.addr ∙ h.own_addr;
  other_addr = h.other_addr;
  ledger = h.ledger;
  own_table = t.table;
  other_table = table-told there b other.last_id other.entries openings (told there trace) (told there trace') t.other_told h.other_table;
  talks = λ pair epoch.
      subst (λ e. Talks limit (pairing (end_at here openings own'.entries (told here trace') pair epoch) e (bag.out pair epoch) (bag.arrived pair epoch)))
      (sym (end-told there openings other.entries (told there trace) (told there trace') pair epoch t.other_told)) (t.talks pair epoch);
}

-- What a step of our table must show that opens one pair.
pub record OpensPair (limit : ℕ) (here there : Side) (a b : Addr) (own own' other : SocketsView) (bag : Bag) (openings : List Opening) (o : Opening) (trace : List Happening) : Type 0 where
  pub addr : own'.addr ≡ own.addr
  pub ledger : IsLedger (openings ++ o ∷ [])
  pub table : IsTable here a own'.last_id own'.entries (openings ++ o ∷ []) (told here trace)
  pub other_table : IsTable there b other.last_id other.entries (openings ++ o ∷ []) (told there trace)
  pub talks : (pair : Pair) (epoch : ℕ)
      → Talks limit (pairing (end_at here (openings ++ o ∷ []) own'.entries (told here trace) pair epoch) (end_at there (openings ++ o ∷ []) other.entries (told there trace) pair epoch) (bag.out pair epoch) (bag.arrived pair epoch))

pub projects-opened : (limit : ℕ) (here there : Side) (a b : Addr) (own own' other : SocketsView) (bag : Bag) (openings : List Opening) (o : Opening) (trace : List Happening)
    → Projects limit here there a b own other bag openings trace → OpensPair limit here there a b own own' other bag openings o trace
    → Projects limit here there a b own' other bag (openings ++ o ∷ []) trace
projects-opened limit here there a b own own' other bag openings o trace h t = record {
  opposite = h.opposite;
  back = h.back;
  small = h.small;
  distinct = h.distinct;
  distinct_back = h.distinct_back;
  own_addr = t.addr ∙ h.own_addr;
  other_addr = h.other_addr;
  ledger = t.ledger;
  own_table = t.table;
  other_table = t.other_table;
  talks = t.talks;
}
