-- Those offered keep their order.
use Rattle.std.proofs.Common.{◌≡◌, ◌≤◌, List, count_by, sym, ◌∙◌, arith}
use Rattle.std.specs.List.{filter}
use Rattle.sockets.specs.declared.entry.SocketId.{SocketId}
use Rattle.sockets.specs.SocketsView.{SocketsView}
use Rattle.sockets.specs.Causes.{Event, after_event}
use Rattle.sockets.specs.Order.{IsAllowed}
use Rattle.sockets.specs.Offered.{IsReached, is_ready_as, is_ready_id, is_id}
use Rattle.sockets.proofs.OfferCounts.{count-any, any-counted, IsPart, part-whole, part-joined, count-part, filter-part}
use Rattle.sockets.proofs.OfferSteps.{outcome}
use Rattle.sockets.proofs.OfferHeld.{Holds, Turns, Fewer, Last, turns, once-offered, event-holds, reached-holds}

-- of a list the table offers this part
kept-by : (v : SocketsView) → Holds v → {ys xs : List SocketId} → IsPart ys xs → ((z : SocketId) → count_by (is_id z) ys ≤ count_by (is_id z) v.offered) → ((z : SocketId) → 1 ≤ count_by (is_id z) v.offered → count_by (is_id z) xs ≤ count_by (is_id z) ys)
    → filter (is_ready_id v.entries) xs ≡ ys
kept-by v held part offers others =
    filter-part (is_ready_id v.entries) part (λ z there. any-counted (is_ready_as z) v.entries (omega (arith, held.each z, offers z)))
    (λ z ready. others z (omega (arith, held.each z, count-any (is_ready_as z) v.entries ready)))

-- those offered before and after stand in both lists in one order
order-stays : (h w : SocketsView) → Holds h → Holds w → Turns h w → filter (is_ready_id h.entries) w.offered ≡ filter (is_ready_id w.entries) h.offered
order-stays h w held after (Fewer part) =
    kept-by h held (part-whole w.offered) (λ z. count-part (is_id z) part) (λ z there. omega arith)
    ∙ sym (kept-by w after part (λ z. omega arith) (λ z there. omega (arith, once-offered h held z)))
order-stays h w held after (Last id waking joined) =
    let part : IsPart h.offered w.offered = rw joined (part-joined h.offered id) in
    kept-by h held part (λ z. omega arith) (λ z there. omega (arith, once-offered w after z))
    ∙ sym (kept-by w after (part-whole h.offered) (λ z. count-part (is_id z) part) (λ z there. omega arith))

pub in-order : (h : SocketsView) (e : Event) → IsReached h → IsAllowed h e → (let after = after_event h e in filter (is_ready_id h.entries) after.offered ≡ filter (is_ready_id after.entries) h.offered)
in-order h e reached allowed =
    let holds = reached-holds h reached in
    let w : SocketsView = after_event h e in
    order-stays h w holds (event-holds h e allowed holds) (turns h w holds (outcome h e allowed))
