-- A connection that comes to stand at one end, by a connect or by a SYN at a listener, is a move of the one pairing of its opening.
use Rattle.std.proofs.Common.{◌≡◌, ℕ, ◌≤◌, Bool, true, false, cond, List, [], ◌∷◌, ◌++◌, Option, Some, None, refl, sym, ◌∙◌, ap, subst}
use Rattle.std.specs.List.{find, list_any}
use Rattle.ipv4.specs.declared.addr.Addr.{Addr}
use Rattle.ipv4.specs.declared.addr.Pair.{Pair}
use Rattle.tcp_state.specs.View.{View}
use Rattle.sockets.specs.declared.entry.SocketId.{SocketId}
use Rattle.sockets.specs.SocketsView.{SocketsView}
use Rattle.stream_law.specs.Pairing.{Present, nothing_yet}
use Rattle.window_law.specs.Windows.{Talk, Talks, here_talks}
use Rattle.sides.specs.declared.side.Side.{Side}
use Rattle.wire_sim.specs.declared.event.Opening.{Opening}
use Rattle.wire_sim.specs.declared.event.Happening.{Happening}
use Rattle.wire_sim.specs.declared.event.Unfair.TheVariants.{SecondOpening}
use Rattle.wire_sim.specs.Fairness.{second_in}
use Rattle.sides.specs.Sides.{same_side}
use Rattle.wire_sim.specs.Tallies.{is_opening_of}
use Rattle.wire_sim.proofs.tables.CallsOnTable.{find-not_any}
use Rattle.wire_sim.proofs.tables.EntryChanges.{by_test}
use Rattle.wire_sim.proofs.pairing.EndMoves.{pairing}
use Rattle.wire_sim.proofs.tables.EntryIsMade.{Makes, table-made, end-unmade, end-made, end-elsewhere, end-other}
use Rattle.wire_sim.proofs.openings.OpeningIsFound.{MayRise, ledger-added, table-other, opening-of_parts, same_side-other}
use Rattle.wire_sim.proofs.pairing.WorldAsPairings.{told, Bag, Projects, projects-opened}
use Rattle.wire_sim.proofs.tables.TableById.{untold, MayOpen, end_with, end_at}

-- where no second opening is found, there is none of the pair in the epoch
pub not-second : (openings : List Opening) (side : Side) (pair : Pair) (epoch : ℕ) → second_in openings side pair epoch ≡ None → find (is_opening_of side pair epoch) openings ≡ None
not-second openings side pair epoch fair = step (list_any (is_opening_of side pair epoch) openings) refl fair
  where
    step : (b : Bool) → list_any (is_opening_of side pair epoch) openings ≡ b → cond b (Some SecondOpening) None ≡ None → find (is_opening_of side pair epoch) openings ≡ None
    step true is e = cc
    step false is e = find-not_any (is_opening_of side pair epoch) openings is

pub projects-made : (limit : ℕ) (hs ts : Side) (a b : Addr) (own own' other : SocketsView) (bag : Bag) (openings : List Opening) (trace : List Happening) (o : Opening) (c : View) (l : Option SocketId) → own'.addr ≡ own.addr
    → own.last_id ≤ own'.last_id → o.id.0 ≤ own'.last_id → Makes hs a openings o own.entries own'.entries c l → MayOpen own.last_id own.entries o.id → MayRise openings o other.entries → (h : Projects limit hs ts a b own other bag openings trace)
    → Talk limit (pairing nothing_yet (end_at ts openings other.entries (told ts trace) o.pair o.epoch) (bag.out o.pair o.epoch) (bag.arrived o.pair o.epoch))
    (pairing (end_with (Present c) untold) (end_at ts openings other.entries (told ts trace) o.pair o.epoch) (bag.out o.pair o.epoch) (bag.arrived o.pair o.epoch))
    → Projects limit hs ts a b own' other bag (openings ++ o ∷ []) trace
projects-made limit hs ts a b own own' other bag openings trace o c l addr grows within m may rises h move =
    projects-opened limit hs ts a b own own' other bag openings o trace h (record {
      addr = addr;
      ledger = ledger-added openings o m.next h.ledger;
      table = table-made hs a own.last_id own'.last_id openings o own.entries own'.entries (told hs trace) c l m grows within h.own_table;
      other_table = table-other ts b other.last_id other.entries openings o (told ts trace) apart rises h.other_table;
      talks = λ pair epoch. by_test (is_opening_of hs pair epoch o)
          (λ is.
          let parts = opening-of_parts hs pair epoch o is in
          subst (λ p. at p epoch) parts.1 (subst (λ e. at o.pair e) parts.2 first))
          (λ is.
          subst (λ x. Talks limit (pairing x (end_at ts (openings ++ o ∷ []) other.entries (told ts trace) pair epoch) (bag.out pair epoch) (bag.arrived pair epoch)))
          (sym (end-elsewhere hs openings o own.entries own'.entries (told hs trace) pair epoch m.at_side m.next m.becomes.others is))
          (subst (λ x. Talks limit (pairing (end_at hs openings own.entries (told hs trace) pair epoch) x (bag.out pair epoch) (bag.arrived pair epoch))) (sym (end-other ts openings o other.entries (told ts trace) pair epoch apart)) (h.talks pair epoch)));
    })
  where
    at : Pair → ℕ → Type 0
    at p e = Talks limit (pairing (end_at hs (openings ++ o ∷ []) own'.entries (told hs trace) p e) (end_at ts (openings ++ o ∷ []) other.entries (told ts trace) p e) (bag.out p e) (bag.arrived p e))

    apart : same_side o.side ts ≡ false
    apart = ap (λ s. same_side s ts) m.at_side ∙ (ap (same_side hs) h.opposite ∙ same_side-other hs)

    first : Talks limit (pairing (end_at hs (openings ++ o ∷ []) own'.entries (told hs trace) o.pair o.epoch) (end_at ts (openings ++ o ∷ []) other.entries (told ts trace) o.pair o.epoch) (bag.out o.pair o.epoch) (bag.arrived o.pair o.epoch))
    first =
        let there = end_at ts openings other.entries (told ts trace) o.pair o.epoch in
        subst (λ x. Talks limit (pairing x (end_at ts (openings ++ o ∷ []) other.entries (told ts trace) o.pair o.epoch) (bag.out o.pair o.epoch) (bag.arrived o.pair o.epoch))) (sym (end-made hs a own.last_id openings o own.entries own'.entries (told hs trace) c l m may h.own_table))
        (subst (λ x. Talks limit (pairing (end_with (Present c) untold) x (bag.out o.pair o.epoch) (bag.arrived o.pair o.epoch))) (sym (end-other ts openings o other.entries (told ts trace) o.pair o.epoch apart))
        (here_talks (pairing nothing_yet there (bag.out o.pair o.epoch) (bag.arrived o.pair o.epoch)) (pairing (end_with (Present c) untold) there (bag.out o.pair o.epoch) (bag.arrived o.pair o.epoch))
        (subst (λ x. Talks limit (pairing x there (bag.out o.pair o.epoch) (bag.arrived o.pair o.epoch))) (end-unmade hs openings o own.entries (told hs trace) m.at_side m.next) (h.talks o.pair o.epoch)) move))
