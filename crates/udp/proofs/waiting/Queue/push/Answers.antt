use Rattle.std.proofs.Common.{ℕ, List, [], ◌∷◌, ◌++◌, length, refl, sym, ◌∙◌, ap, subst, arith}
use Rattle.circular_buffer.specs.Buffer.{Buffer, buffer}
use Rattle.udp.specs.declared.waiting.Entry.{Entry}
use Rattle.udp.specs.Waiting.{Waiting, Line, HasRoom}
use Rattle.udp.specs.Stored.{items_of, IsStored}
use Rattle.udp.proofs.Storing.{grown, entries_after, octets_after, items_of-push}
use Rattle.udp.proofs.waiting.Queue.push.Goals as goal

pub invariant_of-self : goal.invariant_of-self
invariant_of-self c =
    let new = c.args.octets.now in
    let entries = c.self.inside.entries in
    let octets = c.self.inside.octets in
    let e : Entry = record { endpoint = c.args.endpoint; len = length new } in
    let room = subst (λ (line : Line). HasRoom line (length new)) (sym c.self.view_is) ((c.in-Some.ensures.some (length new)).1 (omega (arith, c.if-octets-room.true))) in
    let first = entries_after entries c.push_back.new.self octets e (length new) c.self.invariant room c.push_back.ensures.items in
    let second = octets_after entries octets c.fill_from_slice.new.self new c.fill_from_slice.result c.self.invariant room c.fill_from_slice.ensures.count c.fill_from_slice.ensures.items in
    subst (λ (es : Buffer Entry). IsStored es c.fill_from_slice.new.self) (sym first)
    (subst (λ (os : Buffer ℕ). IsStored (buffer (entries.items ++ e ∷ []) entries.capacity) os) (sym second)
    (grown entries octets c.args.endpoint new c.self.invariant room))

pub returns-in-Some-clause-room : goal.returns-in-Some-clause-room
returns-in-Some-clause-room c = (λ _. (c.in-Some.ensures.some (length c.args.octets.now)).1 (omega (arith, c.if-octets-room.true)), λ _. refl)

pub returns-in-Some-clause-ok : goal.returns-in-Some-clause-ok
returns-in-Some-clause-ok c =
    let new = c.args.octets.now in
    let entries = c.self.inside.entries in
    let octets = c.self.inside.octets in
    let e : Entry = record { endpoint = c.args.endpoint; len = length new } in
    let room = subst (λ (line : Line). HasRoom line (length new)) (sym c.self.view_is) ((c.in-Some.ensures.some (length new)).1 (omega (arith, c.if-octets-room.true))) in
    let first = entries_after entries c.push_back.new.self octets e (length new) c.self.invariant room c.push_back.ensures.items in
    let second = octets_after entries octets c.fill_from_slice.new.self new c.fill_from_slice.result c.self.invariant room c.fill_from_slice.ensures.count c.fill_from_slice.ensures.items in
    ap (λ (es : Buffer Entry). line es.items c.fill_from_slice.new.self) first ∙ ap (λ (os : Buffer ℕ). line (entries.items ++ e ∷ []) os) second
    ∙ ap (λ (items : List Waiting). record { items = items; capacity = octets.capacity }) (items_of-push entries.items octets.items new c.args.endpoint c.self.invariant.lens)
    ∙ ap (λ (old : Line). record { items = old.items ++ record { endpoint = c.args.endpoint; octets = new } ∷ []; capacity = old.capacity }) c.self.view_is
  where
    line : List Entry → Buffer ℕ → Line
    line es os = record { items = items_of es os.items; capacity = os.capacity }

pub returns-in_default-clause-room : goal.returns-in_default-clause-room
returns-in_default-clause-room c = (
  λ no. absurd (cc),
  λ room. let below = (c.in-Some.ensures.some (length c.args.octets.now)).0 room in absurd (omega (arith, below, c.if-octets-room.false)),
)
