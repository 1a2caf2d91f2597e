-- What is told of a segment to be needed is needed by what comes of it.
use Rattle.std.proofs.Common.{◌≡◌, ◌⊎◌, ◌||◌, if◌then◌else◌, inl, inr, ℕ, Bool, true, false, Option, Some, None, find, refl}
use Rattle.ipv4.specs.declared.addr.Addr.{Addr}
use Rattle.tcp_segment.specs.declared.head.Head.{Head}
use Rattle.tcp_segment.specs.Segment.{Segment}
use Rattle.tcp_state.specs.declared.connection.Fate.{Fate}
use Rattle.tcp_state.specs.declared.connection.Fate.TheVariants.{Stays, Removed, Rejected}
use Rattle.tcp_state.specs.Asking.{is_rejection}
use Rattle.clock.specs.declared.moment.Moment.{Moment}
use Rattle.sockets.specs.declared.entry.Entry.{Entry}
use Rattle.sockets.specs.declared.needs.Need.{Need}
use Rattle.sockets.specs.declared.needs.Need.TheVariants.{Backlog, Table, Memory}
use Rattle.sockets.specs.Arrival.{is_opening, arrival_with_reply, arrival}
use Rattle.sockets.specs.Calls.{is_table_full}
use Rattle.sockets.specs.Entries.{fate_of, is_listening_at}
use Rattle.sockets.specs.Needs.{is_backlog_full, need_alone, need_of_answer, need, IsNeededBy}
use Rattle.sockets.specs.Replies.{answer_at_listener}
use Rattle.sockets.specs.SocketsView.{SocketsView}
use Rattle.sockets.proofs.Arrivals.{IsReply, refusing, to_stray, at_listener, by_arrival}

-- an answer, or none
answer_needed : (h : SocketsView) (o : Option Head) → IsNeededBy (arrival_with_reply h o) (need_of_answer o)
answer_needed h None = refl
answer_needed h (Some head) = refl

reply_needed : (h : SocketsView) (source : Addr) (s : Segment) (o : Option Head) → IsReply h source s o → need h source s ≡ need_of_answer o
reply_needed h source s _ (refusing e found refused) = rw (found, refused) refl
reply_needed h source s _ (to_stray none stray) = rw (none, stray) refl
reply_needed h source s _ (at_listener listener none found other) = rw (none, found, other) refl

pub needed_at_listener : (h : SocketsView) (s : Segment) (listener : Entry) → find (is_listening_at s.destination) h.entries ≡ Some listener → is_opening s.flags ≡ false → need_alone h s ≡ need_of_answer (answer_at_listener s)
needed_at_listener h s listener found other = rw (found, other) refl

-- a fate that isn't a rejection
unrejected : (f : Fate) → (f ≡ Rejected → ⊥) → is_rejection f ≡ false
unrejected Rejected takes = absurd (takes refl)
unrejected Stays takes = refl
unrejected Removed takes = refl

-- the first of the places that there is none of
full : (backlog table : Bool) → (backlog || table) ≡ true → let what : Option Need = Some (if backlog then Backlog else if table then Table else Memory) in (what ≡ Some Backlog) ⊎ (what ≡ Some Table)
full true table is = inl refl
full false true is = inr refl
full false false is = cc

roomy : (backlog table : Bool) → (backlog || table) ≡ false → let what : Option Need = Some (if backlog then Backlog else if table then Table else Memory) in what ≡ Some Memory
roomy false false is = refl
roomy true table is = cc
roomy false true is = cc

pub need_foreseen : (h : SocketsView) (now : Moment) (isn : ℕ) (source : Addr) (s : Segment) → IsNeededBy (arrival h now isn source s) (need h source s)
need_foreseen h now isn source s =
    by_arrival h now isn source s (λ a. IsNeededBy a (need h source s))
    (λ reply is. rw (reply_needed h source s reply is) (answer_needed h reply))
    (λ e taker. rw (taker.found, unrejected (fate_of s e.role) taker.takes) refl)
    (λ listener called none. rw (called.none, called.found, called.opens) (full (is_backlog_full h listener) (is_table_full h) none))
    (λ listener called room. rw (called.none, called.found, called.opens) (roomy (is_backlog_full h listener) (is_table_full h) room))
