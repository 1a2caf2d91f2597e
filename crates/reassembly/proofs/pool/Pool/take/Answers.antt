use Rattle.std.proofs.Common.{◌≡◌, ◌<◌, length, Some, None, slice_index_or, slice_set, refl, sym, ◌∙◌, ap, subst, arith}
use Rattle.std.proofs.lemmas.List.{map-set}
use Rattle.std.proofs.lemmas.List.{length-map}
use Rattle.reassembly.specs.Inside.{PlaceView, datagrams}
use Rattle.reassembly.specs.Places.{place_for, after_take_at, AnswersAt, outcome_at}
use Rattle.reassembly.specs.Reassembly.{PoolView, Answers, outcome_within, continued, left}
use Rattle.reassembly.proofs.Views.{datagram_at, pool_shown, room_at}
use Rattle.reassembly.proofs.pool.Pool.take.Goals as goal

pub returns-in-Some : goal.returns-in-Some
returns-in-Some c =
    let found : place_for c.args.fragment.now c.args.self.now ≡ Some c.in-Some.i =
    ap (place_for c.args.fragment.now) (sym c.self.view_is) ∙ sym c.in-Some.ensures.value in
    let within : c.in-Some.i < length c.self.inside.places.items =
    omega (arith, c.in-Some.ensures.within, length-map c.self.inside.places.items (λ (p : PlaceView). p.datagram)) in
    let there : c.index_mut-place.result.now.datagram ≡ slice_index_or c.args.self.now.places c.in-Some.i None =
    datagram_at c.self.inside.places.items c.in-Some.i c.index_mut-place.result.now within c.index_mut-place.ensures.value
    ∙ ap (λ (p : PoolView). slice_index_or p.places c.in-Some.i None) c.self.view_is in
    let room : c.index_mut-place.result.now.room ≡ c.args.self.now.octets =
    room_at c.self.inside.octets c.self.inside.places.items c.in-Some.i c.index_mut-place.result.now c.self.invariant within c.index_mut-place.ensures.value
    ∙ ap (λ (p : PoolView). p.octets) c.self.view_is in
    let same : outcome_within c.index_mut-place.result.now.room c.args.fragment.now (continued c.args.now c.args.fragment.now c.index_mut-place.result.now.datagram)
    ≡ outcome_at c.args.now c.args.fragment.now c.args.self.now c.in-Some.i =
    ap (λ n. outcome_within n c.args.fragment.now (continued c.args.now c.args.fragment.now c.index_mut-place.result.now.datagram)) room
    ∙ ap (λ place. outcome_within c.args.self.now.octets c.args.fragment.now (continued c.args.now c.args.fragment.now place)) there in (
      (
        refl,
        (λ _. tt),
        pool_shown c.self.inside.octets (datagrams (slice_set c.self.inside.places.items c.in-Some.i c.take.follows.lender-at-none))
            (after_take_at c.args.now c.args.fragment.now c.args.self.now (place_for c.args.fragment.now c.args.self.now)) c.args.self.now
            (ap (λ (p : PoolView). p.octets) c.self.view_is)
            (map-set (λ (p : PlaceView). p.datagram) c.self.inside.places.items c.in-Some.i c.take.follows.lender-at-none
            ∙ ap (λ (p : PoolView). slice_set p.places c.in-Some.i c.take.follows.lender-at-none.datagram) c.self.view_is
            ∙ ap (slice_set c.args.self.now.places c.in-Some.i) (ap (λ (p : PlaceView). p.datagram) c.take.follows.holds-at-none ∙ ap left same)
            ∙ sym (ap (after_take_at c.args.now c.args.fragment.now c.args.self.now) found)),
      ),
      record {
        answer = subst (λ p. AnswersAt c.args.now c.args.fragment.now c.args.self.now p c.take.result) (sym found)
            (subst (λ o. Answers o c.take.result) same c.take.ensures.answer);
        pool = tt;
      },
    )
