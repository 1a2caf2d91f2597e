use Rattle.std.proofs.Common.{◌≡◌, ℕ, ◌+◌, ◌-◌, ◌≤◌, true, not, length, take, replicate, sym, ◌∙◌, ap, arith}
use Rattle.std.specs.List.{slice_range, count_by}
use Rattle.std.specs.Vec.{with_items}
use Rattle.std.proofs.lemmas.List.{with_items_is, length-replicate}
use Rattle.reassembly.specs.Buffers.{BufferView, known, over, count_set}
use Rattle.reassembly.specs.Octets.{put}
use Rattle.reassembly.proofs.Writes.{length-over}
use Rattle.reassembly.proofs.BufferSteps.{shown, view_length, put_there, counted}
use Rattle.reassembly.proofs.buffer.DataBuffer.put.Goals as goal

sums : (a b n m : ℕ) → a ≡ b → n ≡ m → a + n ≡ b + m
sums a b n m e f = omega arith

pub invariant_of-self : goal.invariant_of-self
invariant_of-self c =
    let in_use = view_length c.self.inside.octets.items c.self.inside.present.items c.self.inside.reach (omega arith) (omega arith) in
    let within : c.args.at + length c.args.new.now ≤ c.self.inside.reach = omega (arith, in_use, ap (λ (b : BufferView). length b.octets) c.self.view_is) in
    let more : ℕ = c.args.at + length c.args.new.now - c.args.at in
    let so_many : length (replicate more true) ≡ more = length-replicate more true in
    let written_flags : (with_items c.self.inside.present c.mark.new.present).items ≡ over c.args.at (replicate more true) c.self.inside.present.items =
    with_items_is c.self.inside.present c.mark.new.present (omega arith)
    ∙ c.mark.ensures ∙ ap (over c.args.at (replicate more true)) c.deref_mut.ensures.value in
    let written : (with_items c.self.inside.octets c.copy_to.new.octets).items ≡ over c.args.at c.args.new.now c.self.inside.octets.items =
    with_items_is c.self.inside.octets c.copy_to.new.octets (omega arith)
    ∙ c.copy_to.ensures ∙ ap (over c.args.at c.args.new.now) c.deref_mut-2.ensures.value in
    let missed : c.missing.result ≡ count_by not (slice_range c.self.inside.present.items c.args.at (c.args.at + length c.args.new.now)) =
    c.missing.ensures ∙ ap (λ flags. count_by not (slice_range flags c.args.at (c.args.at + length c.args.new.now))) c.deref.ensures.value in
    let octets_kept : length (with_items c.self.inside.octets c.copy_to.new.octets).items ≡ length c.self.inside.octets.items =
    ap (λ l. length l) written ∙ length-over c.args.at c.args.new.now c.self.inside.octets.items (omega (arith, within)) in
    let flags_kept : length (with_items c.self.inside.present c.mark.new.present).items ≡ length c.self.inside.present.items =
    ap (λ l. length l) written_flags ∙ length-over c.args.at (replicate more true) c.self.inside.present.items (omega (arith, within, so_many)) in
    record {
      octets_room = omega (arith, octets_kept, c.self.invariant.octets_room);
      flags_room = flags_kept ∙ c.self.invariant.flags_room ∙ sym octets_kept;
      within = omega (arith, octets_kept, c.self.invariant.within);
      counted =
          sums c.self.inside.covered (count_set (take c.self.inside.reach c.self.inside.present.items)) c.missing.result
          (count_by not (slice_range c.self.inside.present.items c.args.at (c.args.at + length c.args.new.now))) c.self.invariant.counted missed
          ∙ sym (counted c.self.inside.present.items c.self.inside.reach c.args.at (length c.args.new.now) within (omega arith))
          ∙ ap (λ k. count_set (take c.self.inside.reach (over c.args.at (replicate k true) c.self.inside.present.items))) (let e : length c.args.new.now ≡ more = omega arith in e)
          ∙ ap (λ flags. count_set (take c.self.inside.reach flags)) (sym written_flags);
    }

pub returns : goal.returns
returns c =
    let in_use = view_length c.self.inside.octets.items c.self.inside.present.items c.self.inside.reach (omega arith) (omega arith) in
    let within : c.args.at + length c.args.new.now ≤ c.self.inside.reach = omega (arith, in_use, ap (λ (b : BufferView). length b.octets) c.self.view_is) in
    let room : length c.self.inside.octets.items ≡ c.args.self.now.room = ap (λ (b : BufferView). b.room) c.self.view_is in
    let more : ℕ = c.args.at + length c.args.new.now - c.args.at in
    let written_flags : (with_items c.self.inside.present c.mark.new.present).items ≡ over c.args.at (replicate more true) c.self.inside.present.items =
    with_items_is c.self.inside.present c.mark.new.present (omega arith)
    ∙ c.mark.ensures ∙ ap (over c.args.at (replicate more true)) c.deref_mut.ensures.value in
    let written : (with_items c.self.inside.octets c.copy_to.new.octets).items ≡ over c.args.at c.args.new.now c.self.inside.octets.items =
    with_items_is c.self.inside.octets c.copy_to.new.octets (omega arith)
    ∙ c.copy_to.ensures ∙ ap (over c.args.at c.args.new.now) c.deref_mut-2.ensures.value in
    shown (length (with_items c.self.inside.octets c.copy_to.new.octets).items)
    (known (take c.self.inside.reach (with_items c.self.inside.octets c.copy_to.new.octets).items)
    (take c.self.inside.reach (with_items c.self.inside.present c.mark.new.present).items))
    (put c.args.at c.args.new.now c.args.self.now.octets) c.args.self.now
    (ap (λ l. length l) written ∙ length-over c.args.at c.args.new.now c.self.inside.octets.items (omega (arith, within)) ∙ room)
    (ap (λ octets. known (take c.self.inside.reach octets) (take c.self.inside.reach (with_items c.self.inside.present c.mark.new.present).items)) written
    ∙ ap (λ flags. known (take c.self.inside.reach (over c.args.at c.args.new.now c.self.inside.octets.items)) (take c.self.inside.reach flags)) written_flags
    ∙ put_there c.self.inside.octets.items c.self.inside.present.items c.self.inside.reach c.args.at c.args.new.now
    more (omega arith) within (omega arith) (omega arith)
    ∙ ap (λ (b : BufferView). put c.args.at c.args.new.now b.octets) c.self.view_is)
