use Rattle.std.proofs.Common.{◌≡◌, ◌++◌, [], ◌∷◌, map, take, set, subst, sym, ◌∙◌, ap, arith, append-nil}
use Rattle.std.specs.List.{filter_map, cons_option}
use Rattle.std.proofs.lemmas.List.Edits.{map_over_more}
use Rattle.arrayvec.specs.ArrayVec.{array_vec_len}
use Rattle.reassembly.proofs.Ageing.{aged_place, told_of, next_is, one_more, all_done, all_aged, all_told, alike_aged}
use Rattle.reassembly.proofs.Views.{pool_shown}
use Rattle.std.specs.Vec.{with_items}
use Rattle.std.proofs.lemmas.List.{length-map, take_all, with_items_is}
use Rattle.reassembly.specs.Inside.{IsPool, datagrams}
use Rattle.reassembly.specs.Places.{after_time, expired_of}
use Rattle.reassembly.specs.Reassembly.{PoolView}
use Rattle.reassembly.proofs.pool.Pool.age.Goals as goal
use Rattle.reassembly.proofs.pool.Pool.age.Goals.{in-Some, in_default}

pub loop-place-preserved : goal.loop-place-preserved
loop-place-preserved c =
    let here = next_is (aged_place c.args.now) c.deref_mut-place-items.result.now c.loop-place.place-items c.loop-place.place-index c.place-item.result
    c.loop-place-test.true c.loop-place.invariant.places c.place-item.is in
    let more = one_more (told_of c.args.now) c.deref_mut-place-items.result.now c.loop-place.place-index c.place-item.result c.loop-place-test.true here in
    let told : c.age.result ≡ told_of c.args.now c.place-item.result = c.age.ensures.expired ∙ ap (told_of c.args.now) (sym c.place-item.is) in
    record {
      places =
          ap (set c.loop-place.place-items c.loop-place.place-index) (c.age.ensures.place ∙ ap (aged_place c.args.now) (sym c.place-item.is))
          ∙ map_over_more (aged_place c.args.now) c.deref_mut-place-items.result.now c.loop-place.place-items c.loop-place.place-index c.place-item.result
          c.loop-place-test.true c.loop-place.invariant.places c.place-item.is;
      expired = elim c.match-age.branch [
        | in-Some w ↦ ap (λ v. v.items) w.expired-is ∙ w.push.ensures.items ∙ ap (λ l. l ++ w.in-Some.datagram ∷ []) c.loop-place.invariant.expired
            ∙ sym (more ∙ ap (λ o. filter_map (told_of c.args.now) (take c.loop-place.place-index c.deref_mut-place-items.result.now) ++ cons_option o []) (sym told ∙ w.in-Some.is))
        | in_default w ↦ ap (λ v. v.items) w.expired-is ∙ c.loop-place.invariant.expired
            ∙ sym (more ∙ ap (λ o. filter_map (told_of c.args.now) (take c.loop-place.place-index c.deref_mut-place-items.result.now) ++ cons_option o [])
            (sym told ∙ w.in_default.is)
            ∙ append-nil (filter_map (told_of c.args.now) (take c.loop-place.place-index c.deref_mut-place-items.result.now)))
      ];
      few = elim c.match-age.branch [
        | in-Some w ↦ omega (arith, w.push.ensures.len, ap array_vec_len w.expired-is, c.loop-place.invariant.few)
        | in_default w ↦ omega (arith, ap array_vec_len w.expired-is, c.loop-place.invariant.few)
      ];
    }

pub invariant_of-self : goal.invariant_of-self
invariant_of-self c =
    let done : (with_items c.self.inside.places c.loop-place.place-items).items ≡ map (aged_place c.args.now) c.self.inside.places.items =
    with_items_is c.self.inside.places c.loop-place.place-items (omega arith)
    ∙ all_done (aged_place c.args.now) c.deref_mut-place-items.result.now c.loop-place.place-items c.loop-place.place-index c.loop-place-test.false c.loop-place.invariant.places
    ∙ ap (map (aged_place c.args.now)) c.deref_mut-place-items.ensures.value in
    subst (IsPool c.self.inside.octets) (sym done)
    (record {
      few = omega (arith, c.self.invariant.few, length-map c.self.inside.places.items (aged_place c.args.now));
      octets_room = c.self.invariant.octets_room;
      alike = alike_aged c.args.now c.self.inside.octets c.self.inside.places.items c.self.invariant.alike;
    })

pub returns-clause-pool : goal.returns-clause-pool
returns-clause-pool c =
    let done : (with_items c.self.inside.places c.loop-place.place-items).items ≡ map (aged_place c.args.now) c.self.inside.places.items =
    with_items_is c.self.inside.places c.loop-place.place-items (omega arith)
    ∙ all_done (aged_place c.args.now) c.deref_mut-place-items.result.now c.loop-place.place-items c.loop-place.place-index c.loop-place-test.false c.loop-place.invariant.places
    ∙ ap (map (aged_place c.args.now)) c.deref_mut-place-items.ensures.value in
    pool_shown c.self.inside.octets (datagrams (with_items c.self.inside.places c.loop-place.place-items).items)
    (map (after_time c.args.now) c.args.self.now.places) c.args.self.now (ap (λ (p : PoolView). p.octets) c.self.view_is)
    (ap datagrams done ∙ all_aged c.args.now c.self.inside.places.items ∙ ap (λ (p : PoolView). map (after_time c.args.now) p.places) c.self.view_is)

pub returns-clause-expired : goal.returns-clause-expired
returns-clause-expired c =
    c.loop-place.invariant.expired
    ∙ ap (filter_map (told_of c.args.now)) (take_all c.loop-place.place-index c.deref_mut-place-items.result.now c.loop-place-test.false ∙ c.deref_mut-place-items.ensures.value)
    ∙ all_told c.args.now c.self.inside.places.items
    ∙ ap (λ (p : PoolView). filter_map (expired_of c.args.now) p.places) c.self.view_is
