-- What is known of the datagram stands before the others, and so do its octets.
use Rattle.std.proofs.Common.{ℕ, List, length, sym, ◌∙◌, ap, subst, arith}
use Rattle.circular_buffer.specs.Buffer.{Buffer, buffer}
use Rattle.udp.specs.declared.waiting.Entry.{Entry}
use Rattle.udp.specs.Waiting.{Waiting, Line, brought_forward}
use Rattle.udp.specs.Stored.{items_of, IsStored}
use Rattle.udp.proofs.Storing.{length-items_of}
use Rattle.udp.proofs.Forward.{ranged, range_within, place_within, stored_brought, items_ranged, some_there, first_forward}
use Rattle.udp.proofs.waiting.Queue.bring_forward.Goals as goal

pub returns-then-place-eq0 : goal.returns-then-place-eq0
returns-then-place-eq0 c = ap (λ (items : List Waiting). let l : Line = record { items = items; capacity = c.args.self.now.capacity } in l) (sym (first_forward c.args.self.now.items c.args.place c.if-place-eq0.true))

pub octets_before-before-requires-clause-place : goal.octets_before-before-requires-clause-place
octets_before-before-requires-clause-place c =
    omega (arith, c.requires, ap (λ (line : Line). length line.items) c.self.view_is, length-items_of c.self.inside.entries.items c.self.inside.octets.items)

pub octets_before-before-requires-clause-fits : goal.octets_before-before-requires-clause-fits
octets_before-before-requires-clause-fits c = omega (arith, c.self.invariant.lens, c.len-held.ensures.len, c.len-held.ensures.within.0, c.len-held.ensures.within.1)

pub bring_range_forward-requires : goal.bring_range_forward-requires
bring_range_forward-requires c =
    range_within c.self.inside.entries.items c.args.place c.octets_before-before.result (length c.self.inside.octets.items) c.in-Some.entry
    (sym c.get.ensures ∙ sym c.copied.ensures ∙ c.in-Some.is) c.octets_before-before.ensures c.self.invariant.lens

pub bring_range_forward-requires-in-Some : goal.bring_range_forward-requires-in-Some
bring_range_forward-requires-in-Some c = place_within c.self.inside.entries.items c.args.place c.in-Some.entry (sym c.get.ensures ∙ sym c.copied.ensures ∙ c.in-Some.is)

pub invariant_of-self : goal.invariant_of-self
invariant_of-self c =
    let entries = c.self.inside.entries in
    let octets = c.self.inside.octets in
    let e : Entry = c.in-Some.entry in
    let before : ℕ = c.octets_before-before.result in
    subst (λ (es : Buffer Entry). IsStored es c.bring_range_forward.new.ring) (sym c.bring_range_forward-in-Some.ensures)
    (subst (λ (os : Buffer ℕ). IsStored (buffer (ranged c.args.place 1 entries.items) entries.capacity) os) (sym c.bring_range_forward.ensures)
    (stored_brought entries octets c.args.place before e c.self.invariant (sym c.get.ensures ∙ sym c.copied.ensures ∙ c.in-Some.is) c.octets_before-before.ensures))

pub returns-in-Some : goal.returns-in-Some
returns-in-Some c =
    let entries = c.self.inside.entries in
    let octets = c.self.inside.octets in
    let e : Entry = c.in-Some.entry in
    let before : ℕ = c.octets_before-before.result in
    ap (λ (es : Buffer Entry). line es.items c.bring_range_forward.new.ring) c.bring_range_forward-in-Some.ensures
    ∙ ap (λ (os : Buffer ℕ). line (ranged c.args.place 1 entries.items) os) c.bring_range_forward.ensures
    ∙ ap (λ (items : List Waiting). record { items = items; capacity = octets.capacity })
    (items_ranged entries.items octets.items c.args.place before e (sym c.get.ensures ∙ sym c.copied.ensures ∙ c.in-Some.is) c.octets_before-before.ensures c.self.invariant.lens)
    ∙ ap (λ (old : Line). record { items = brought_forward c.args.place old.items; capacity = old.capacity }) c.self.view_is
  where
    line : List Entry → Buffer ℕ → Line
    line es os = record { items = items_of es os.items; capacity = os.capacity }

pub returns-in_default : goal.returns-in_default
returns-in_default c =
    absurd (some_there c.self.inside.entries.items c.args.place
    (omega (arith, c.requires, ap (λ (line : Line). length line.items) c.self.view_is, length-items_of c.self.inside.entries.items c.self.inside.octets.items))
    (sym c.get.ensures ∙ sym c.copied.ensures ∙ c.in_default.is))
