-- The octets of the first datagram stand behind the others, and so does what is known of it.
use Rattle.std.proofs.Common.{◌≡◌, ℕ, List, [], ◌∷◌, ◌++◌, take, drop, Some, sym, ◌∙◌, ap, subst}
use Rattle.circular_buffer.specs.Buffer.{Buffer, buffer}
use Rattle.std.specs.List.{slice_get}
use Rattle.udp.specs.declared.waiting.Entry.{Entry}
use Rattle.udp.specs.Waiting.{Waiting, Line}
use Rattle.udp.specs.Stored.{items_of, IsStored}
use Rattle.udp.proofs.Requeued.{entries_turned, stored_turned, items_turned}
use Rattle.udp.proofs.waiting.Queue.requeue.Goals as goal

pub invariant_of-self-2 : goal.invariant_of-self-2
invariant_of-self-2 c =
    let entries = c.self.inside.entries in
    let octets = c.self.inside.octets in
    let e : Entry = c.in-Some.entry in
    let is : slice_get entries.items 0 ≡ Some e = sym c.pop_front.ensures.value ∙ c.in-Some.is in
    subst (λ (es : Buffer Entry). IsStored es c.move_behind.new.octets) (sym (entries_turned entries c.pop_front.new.self c.push_back.new.self e octets c.self.invariant is c.pop_front.ensures.items c.push_back.ensures.items))
    (subst (λ (os : Buffer ℕ). IsStored (buffer (drop 1 entries.items ++ e ∷ []) entries.capacity) os) (sym c.move_behind.ensures)
    (stored_turned entries octets e c.self.invariant is))

pub returns : goal.returns
returns c =
    let entries = c.self.inside.entries in
    let octets = c.self.inside.octets in
    let e : Entry = c.in-Some.entry in
    let is : slice_get entries.items 0 ≡ Some e = sym c.pop_front.ensures.value ∙ c.in-Some.is in
    ap (λ (es : Buffer Entry). line es.items c.move_behind.new.octets) (entries_turned entries c.pop_front.new.self c.push_back.new.self e octets c.self.invariant is c.pop_front.ensures.items c.push_back.ensures.items)
    ∙ ap (λ (os : Buffer ℕ). line (drop 1 entries.items ++ e ∷ []) os) c.move_behind.ensures
    ∙ ap (λ (items : List Waiting). record { items = items; capacity = octets.capacity }) (items_turned entries.items octets.items e c.self.invariant.lens is)
    ∙ ap (λ (old : Line). record { items = drop 1 old.items ++ take 1 old.items; capacity = old.capacity }) c.self.view_is
  where
    line : List Entry → Buffer ℕ → Line
    line es os = record { items = items_of es os.items; capacity = os.capacity }
