-- Two connections and a network between them are lawful.
use Rattle.std.proofs.Common.{ℕ, ◌≤◌, ◌^◌, ◌++◌, arith, sym, ◌∙◌, ap}
use Rattle.stream_law.specs.Pairing.{Pairing, Move, connects, accepts, takes, closes, gives, ends, rests, emits, hears, resets, stops, leaves, Meets, begins, here_moves, there_moves, from_other, IsStream}
use Rattle.stream_law.proofs.Sizes.{most_held}
use Rattle.stream_law.proofs.ChannelLaw.{lawful}
use Rattle.stream_law.proofs.PairingInvariant.{Shown, shown-apart, shown-from_other}
use Rattle.stream_law.proofs.PairingMoves.{moves-connects, moves-accepts, moves-takes, moves-closes, moves-gives, moves-ends, moves-rests}
use Rattle.stream_law.proofs.PairingEndings.{moves-resets, moves-stops, moves-leaves}
use Rattle.stream_law.proofs.PairingEmission.{moves-emits}
use Rattle.stream_law.proofs.PairingArrival.{moves-hears}

moves : (limit : ℕ) (p q : Pairing) → Move limit p q → Shown most_held limit p → Shown most_held limit q
moves limit _ _ (connects p room local peer isn now none fits) h = moves-connects most_held limit p room local peer isn now none fits h
moves limit _ _ (accepts p room local peer isn e now none fits among timely syn) h = moves-accepts most_held limit p room local peer isn e now none fits among syn h
moves limit _ _ (takes p v octets now is sound untold opened unclosed) h = moves-takes most_held limit p v octets now (omega arith) is sound untold opened unclosed h
moves limit _ _ (closes p v now is sound opened) h = moves-closes most_held limit p v now is sound opened h
moves limit _ _ (ends p v len is kept told) h = moves-ends most_held limit p v len is kept told h
moves limit _ _ (gives p v len is sound untold kept opened) h = moves-gives most_held limit p v len is untold kept opened h
moves limit _ _ (rests p v w is same) h = moves-rests most_held limit p v w is same h
moves limit _ _ (emits p v due now is sound may unreset width) h = moves-emits most_held limit p v due now is sound may unreset width h
moves limit _ _ (hears p v e is sound among timely) h = moves-hears most_held limit p v e is sound among timely h
moves limit _ _ (resets p v s is rst) h = moves-resets most_held limit p v s is rst h
moves limit _ _ (stops p v w closed is over keeps) h = moves-stops most_held limit p v w closed is over keeps h
moves limit _ _ (leaves p v closed is keeps) h = moves-leaves most_held limit p closed keeps h

pub shown : (limit : ℕ) (p : Pairing) → Meets limit p → Shown most_held limit p
shown limit _ begins = shown-apart most_held limit
shown limit _ (here_moves p q met move) = moves limit p q move (shown limit p met)
shown limit _ (there_moves p q met move) = shown-from_other most_held limit q (moves limit (from_other p) q move (shown-from_other most_held limit p (shown limit p met)))

pub pairing_lawful : (limit : ℕ) → limit ≤ 2 ^ 30 → (p : Pairing) → Meets limit p → IsStream p.own p.other × IsStream p.other p.own
pairing_lawful limit small p met =
    let h = shown limit p met in
    let from = lawful most_held limit (omega arith) small h.from h.runs_from in
    let into = lawful most_held limit (omega arith) small h.into h.runs_into in (
      record {
        begins = record { rest = from.unread; begins = sym h.other.written ∙ (from.begins ∙ ap (λ l. l ++ from.unread) h.own.read) };
        end = λ e. let t = from.end (h.own.ended ∙ e) in (sym h.other.closed ∙ t.0, sym h.own.read ∙ (t.1 ∙ h.other.written));
      },
      record {
        begins = record { rest = into.unread; begins = sym h.own.written ∙ (into.begins ∙ ap (λ l. l ++ into.unread) h.other.read) };
        end = λ e. let t = into.end (h.other.ended ∙ e) in (sym h.own.closed ∙ t.0, sym h.other.read ∙ (t.1 ∙ h.own.written));
      },
    )
