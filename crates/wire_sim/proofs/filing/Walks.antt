-- A walk from the last opening of a chain to the first reads what a look at all openings does.
use Rattle.std.proofs.Common.{◌≡◌, ℕ, ◌%◌, ◌≤◌, List, [], ◌∷◌, ◌++◌, length, map, take, sym, ◌∙◌, ap, arith}
use Rattle.std.specs.List.{list_any}
use Rattle.std.proofs.Math.Seq.{take-length}
use Rattle.std.proofs.lemmas.List.{length-map, map-append}
use Rattle.ipv4.specs.declared.addr.Pair.{Pair}
use Rattle.sockets.specs.declared.entry.SocketId.{SocketId}
use Rattle.sides.specs.declared.side.Side.{Side}
use Rattle.wire_sim.specs.declared.event.Opening.{Opening}
use Rattle.wire_sim.specs.Openings.{epoch_of}
use Rattle.wire_sim.specs.Tallies.{same_pair, is_opening_of, is_opening_at, written_by, counts_after}
use Rattle.wire_sim.specs.Filing.{EndsAt, IsFiled, chain_at, pair_number, epoch_number, by_pair, by_epoch, by_socket}
use Rattle.wire_sim.proofs.counts.CountFound.{written_or, written-all, written-next}
use Rattle.wire_sim.proofs.counts.CountsInTurn.{counted-next}
use Rattle.wire_sim.proofs.filing.LastLooked.{epoch-next, any-next}
use Rattle.wire_sim.proofs.filing.Numbers.{pair-filed, epoch-filed, socket-filed}
use Rattle.wire_sim.proofs.filing.Skipped.{skipped}

pub filed-len : (number_of : Opening → ℕ) (os : List Opening) (numbers : List ℕ) → IsFiled number_of os numbers → length numbers ≡ length os
filed-len number_of os numbers filed = ap length filed ∙ length-map os number_of

pub filed-more : (number_of : Opening → ℕ) (os : List Opening) (numbers : List ℕ) (o : Opening) (n : ℕ) → IsFiled number_of os numbers → n ≡ number_of o → IsFiled number_of (os ++ o ∷ []) (numbers ++ n ∷ [])
filed-more number_of os numbers o n filed is =
    ap (λ (ns : List ℕ). ns ++ n ∷ []) filed ∙ ap (λ (m : ℕ). map number_of os ++ m ∷ []) is ∙ sym (map-append number_of os (o ∷ []))

-- The epoch of a pair.

pub epoch-skipped : (os : List Opening) (numbers : List ℕ) (pair : Pair) (size n r : ℕ) → IsFiled by_pair os numbers → n ≤ length os → EndsAt (chain_at size numbers) (pair_number pair % size) n r
    → epoch_of (take n os) pair ≡ epoch_of (take r os) pair
epoch-skipped os numbers pair size n r filed le at =
    skipped (λ k. epoch_of (take k os) pair) (λ o. same_pair o.pair pair) by_pair os numbers (pair_number pair) size n r filed (pair-filed pair) (epoch-next os pair) le at

pub epoch-start : (os : List Opening) (numbers : List ℕ) (pair : Pair) (size r : ℕ) → IsFiled by_pair os numbers → EndsAt (chain_at size numbers) (pair_number pair % size) (length numbers) r
    → epoch_of os pair ≡ epoch_of (take r os) pair
epoch-start os numbers pair size r filed at =
    let len = filed-len by_pair os numbers filed in
    sym (ap (λ (l : List Opening). epoch_of l pair) (ap (λ (k : ℕ). take k os) len ∙ take-length os)) ∙ epoch-skipped os numbers pair size (length numbers) r filed (omega (arith, len)) at

-- Whether a side opened a pair in an epoch.

pub any-skipped : (os : List Opening) (numbers : List ℕ) (side : Side) (pair : Pair) (epoch size n r : ℕ) → IsFiled by_epoch os numbers → n ≤ length os → EndsAt (chain_at size numbers) (epoch_number pair epoch % size) n r
    → list_any (is_opening_of side pair epoch) (take n os) ≡ list_any (is_opening_of side pair epoch) (take r os)
any-skipped os numbers side pair epoch size n r filed le at =
    skipped (λ k. list_any (is_opening_of side pair epoch) (take k os)) (is_opening_of side pair epoch) by_epoch os numbers (epoch_number pair epoch) size n r filed (epoch-filed side pair epoch) (any-next (is_opening_of side pair epoch) os) le at

pub any-start : (os : List Opening) (numbers : List ℕ) (side : Side) (pair : Pair) (epoch size r : ℕ) → IsFiled by_epoch os numbers → EndsAt (chain_at size numbers) (epoch_number pair epoch % size) (length numbers) r
    → list_any (is_opening_of side pair epoch) os ≡ list_any (is_opening_of side pair epoch) (take r os)
any-start os numbers side pair epoch size r filed at =
    let len = filed-len by_epoch os numbers filed in
    sym (ap (λ (l : List Opening). list_any (is_opening_of side pair epoch) l) (ap (λ (k : ℕ). take k os) len ∙ take-length os))
    ∙ any-skipped os numbers side pair epoch size (length numbers) r filed (omega (arith, len)) at

-- The count beside the opening of a pair in an epoch.

pub written-skipped : (os : List Opening) (ws numbers : List ℕ) (side : Side) (pair : Pair) (epoch count size n r : ℕ) → IsFiled by_epoch os numbers → n ≤ length os → EndsAt (chain_at size numbers) (epoch_number pair epoch % size) n r
    → written_or (take n os) ws side pair epoch count ≡ written_or (take r os) ws side pair epoch count
written-skipped os ws numbers side pair epoch count size n r filed le at =
    skipped (λ k. written_or (take k os) ws side pair epoch count) (is_opening_of side pair epoch) by_epoch os numbers (epoch_number pair epoch) size n r filed (epoch-filed side pair epoch) (written-next os ws side pair epoch count) le at

pub written-start : (os : List Opening) (ws numbers : List ℕ) (side : Side) (pair : Pair) (epoch size r : ℕ) → IsFiled by_epoch os numbers → EndsAt (chain_at size numbers) (epoch_number pair epoch % size) (length numbers) r
    → written_by os ws side pair epoch ≡ written_or (take r os) ws side pair epoch 0
written-start os ws numbers side pair epoch size r filed at =
    let len = filed-len by_epoch os numbers filed in
    written-all os ws side pair epoch
    ∙ ap (λ (k : ℕ). written_or (take k os) ws side pair epoch 0) (sym len)
    ∙ written-skipped os ws numbers side pair epoch 0 size (length numbers) r filed (omega (arith, len)) at

-- The counts beside the openings of a socket.

pub counted-skipped : (os : List Opening) (ws numbers : List ℕ) (side : Side) (id : SocketId) (more size n r : ℕ) → IsFiled by_socket os numbers → n ≤ length os → EndsAt (chain_at size numbers) (id.0 % size) n r
    → counts_after (take n os) ws side id more ≡ counts_after (take r os) ws side id more
counted-skipped os ws numbers side id more size n r filed le at =
    skipped (λ k. counts_after (take k os) ws side id more) (is_opening_at side id) by_socket os numbers id.0 size n r filed (socket-filed side id) (counted-next os ws side id more) le at

pub counted-start : (os : List Opening) (ws numbers : List ℕ) (side : Side) (id : SocketId) (more size r : ℕ) → IsFiled by_socket os numbers → EndsAt (chain_at size numbers) (id.0 % size) (length numbers) r
    → counts_after os ws side id more ≡ counts_after (take r os) ws side id more
counted-start os ws numbers side id more size r filed at =
    let len = filed-len by_socket os numbers filed in
    sym (ap (λ (l : List Opening). counts_after l ws side id more) (ap (λ (k : ℕ). take k os) len ∙ take-length os))
    ∙ counted-skipped os ws numbers side id more size (length numbers) r filed (omega (arith, len)) at
