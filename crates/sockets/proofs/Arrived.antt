-- What a segment that arrives makes of the table.
use Rattle.std.proofs.Common.{◌≡◌, ℕ, Bool, true, false, if◌then◌else◌, List, length, get_or, set, Option, Some, None, refl, ap, sym, subst, ◌∙◌}
use Rattle.std.specs.List.{find, position, refill, remove}
use Rattle.ipv4.specs.declared.addr.Addr.{Addr}
use Rattle.tcp_segment.specs.declared.head.Head.{Head}
use Rattle.tcp_segment.specs.Segment.{Segment}
use Rattle.tcp_state.specs.declared.connection.Fate.{Fate}
use Rattle.tcp_state.specs.declared.connection.Fate.TheVariants.{Stays, Removed, Rejected}
use Rattle.clock.specs.declared.moment.Moment.{Moment}
use Rattle.sockets.specs.declared.role.Role.{Role}
use Rattle.sockets.specs.declared.entry.Entry.{Entry}
use Rattle.sockets.specs.declared.taken.Taken.{Taken}
use Rattle.sockets.specs.declared.taken.Taken.TheVariants.{Done, Answer}
use Rattle.sockets.specs.Arrival.{Arrival, Becomes, Answers, local_end, peer_end, is_opening, arrival_with_reply, offered_with, arrival_at_connection, arrival_alone, arrival, Meets}
use Rattle.sockets.specs.Replies.{reset_at_ack, answer_at_listener}
use Rattle.sockets.specs.Entries.{is_between, is_listening_at, role_after_segment, fate_of, is_offered_by, is_kept, entries_after_step, with_role}
use Rattle.sockets.specs.SocketsView.{SocketsView, later_moment}
use Rattle.sockets.specs.Lists.{change_first, remove_first}
use Rattle.sockets.proofs.Firsts.{refill_set, remove_first-position, remove-set}
use Rattle.sockets.proofs.Written.{entry_written}

-- the entry at the place of the first that passes was written, and taken out where its connection is gone
pub entry_settled : (v h : SocketsView) (p : Entry → Bool) (f : Role → Role) (zs ws : List Entry) (i : ℕ) (x y : Entry) (r : Fate) → v ≡ h → position p h.entries ≡ Some i → zs ≡ v.entries → x ≡ get_or zs i x → y ≡ with_role f (get_or zs i x)
    → ws ≡ (if is_kept r then refill (length v.entries) v.entries (set zs i y) else remove (refill (length v.entries) v.entries (set zs i y)) i) → record v { entries = ws } ≡ record h { entries = entries_after_step r p f h.entries }
entry_settled v h p f zs ws i x y r same place lent at written is = by_kept (is_kept r) refl
  where
    old : List Entry
    old = refill (length v.entries) v.entries (set zs i y)

    by_kept : (b : Bool) → is_kept r ≡ b → record v { entries = ws } ≡ record h { entries = entries_after_step r p f h.entries }
    by_kept true kept =
        let left : ws ≡ old = is ∙ ap (λ b. if b then old else remove old i) kept in
        ap (λ l. let w : SocketsView = record v { entries = l } in w) left
        ∙ entry_written v h p (with_role f) zs i x y same place lent at written
        ∙ ap (λ b. let w : SocketsView = record h { entries = if b then change_first p (with_role f) h.entries else remove_first p h.entries } in w) (sym kept)
    by_kept false gone =
        let left : ws ≡ remove_first p h.entries =
        is
        ∙ ap (λ b. if b then old else remove old i) gone
        ∙ ap (λ ws. remove ws i) (refill_set v.entries zs i y lent)
        ∙ remove-set v.entries i y
        ∙ ap (λ (w : SocketsView). remove w.entries i) same
        ∙ sym (remove_first-position p h.entries i x place)
        in
        ap (λ ws. let w : SocketsView = record v { entries = ws } in w) left
        ∙ ap (λ (w : SocketsView). let u : SocketsView = record w { entries = remove_first p h.entries } in u) same
        ∙ ap (λ b. let w : SocketsView = record h { entries = if b then change_first p (with_role f) h.entries else remove_first p h.entries } in w) (sym gone)

-- a segment for a connection of the table goes to it
at-connection : (h : SocketsView) (now : Moment) (isn : ℕ) (source : Addr) (s : Segment) (e : Entry) → find (is_between (local_end h s) (peer_end source s)) h.entries ≡ Some e
    → arrival h now isn source s ≡ arrival_at_connection h now source s e (fate_of s e.role)
at-connection h now isn source s e found = rw found

-- .. which refuses it ..
pub refusal-answered : (h : SocketsView) (now : Moment) (isn : ℕ) (source : Addr) (s : Segment) (e : Entry) → find (is_between (local_end h s) (peer_end source s)) h.entries ≡ Some e → fate_of s e.role ≡ Rejected
    → arrival h now isn source s ≡ Answers (reset_at_ack s)
refusal-answered h now isn source s e found refused = rw (found, refused)

-- .. or takes it
pub taken : (h : SocketsView) (now : Moment) (isn : ℕ) (source : Addr) (s : Segment) (e : Entry) (r : Fate) → find (is_between (local_end h s) (peer_end source s)) h.entries ≡ Some e → fate_of s e.role ≡ r → (r ≡ Rejected → ⊥)
    → arrival h now isn source s ≡ Becomes (record h { entries = entries_after_step r (is_between (local_end h s) (peer_end source s)) (role_after_segment (later_moment h now) s) h.entries; offered = offered_with h.sizes.entries (is_offered_by (later_moment h now) s e.role) e.id h.offered })
taken h now isn source s e Stays found is other = at-connection h now isn source s e found ∙ ap (λ (r : Fate). arrival_at_connection h now source s e r) is
taken h now isn source s e Removed found is other = at-connection h now isn source s e found ∙ ap (λ (r : Fate). arrival_at_connection h now source s e r) is
taken h now isn source s e Rejected found is other = absurd (other refl)

-- a segment for a listener that opens nothing
pub listener-answers : (h : SocketsView) (now : Moment) (isn : ℕ) (source : Addr) (s : Segment) (listener : Entry) → find (is_listening_at s.destination) h.entries ≡ Some listener → is_opening s.flags ≡ false
    → arrival_alone h now isn source s ≡ arrival_with_reply h (answer_at_listener s)
listener-answers h now isn source s listener found opens = rw (found, opens)

-- the answer and the table meet what the segment leads to
pub meets_same : (a b : Arrival) (h new : SocketsView) (answer : Taken) → a ≡ b → Meets b h answer new → Meets a h answer new
meets_same a b h new answer same meets =
    let P : Arrival → Type 0 = λ x. Meets x h answer new in
    subst P (sym same) meets

pub meets_becomes : (a : Arrival) (h new next : SocketsView) → a ≡ Becomes next → new ≡ next → Meets a h Done new
meets_becomes a h new next same becomes = meets_same a (Becomes next) h new Done same (refl, becomes)

pub meets_answered : (a : Arrival) (h new : SocketsView) (head given : Head) → a ≡ Answers head → given ≡ head → new ≡ h → Meets a h (Answer given) new
meets_answered a h new head given same is kept = meets_same a (Answers head) h new (Answer given) same (ap (λ (x : Head). Answer x) is, kept)

-- the answer where the table stays as it was
pub meets_reply : (a : Arrival) (h v new : SocketsView) (reply given : Option Head) (answer : Taken) → a ≡ arrival_with_reply h reply → given ≡ reply → new ≡ h → Meets (arrival_with_reply v given) v answer v → Meets a h answer new
meets_reply a h v new None None answer same is kept meets = meets_same a (Becomes h) h new answer same (meets.0, kept)
meets_reply a h v new None (Some x) answer same is kept meets = cc
meets_reply a h v new (Some head) None answer same is kept meets = cc
meets_reply a h v new (Some head) (Some x) answer same is kept meets =
    let alike : x ≡ head = cc in
    meets_same a (Answers head) h new answer same (meets.0 ∙ ap (λ (y : Head). Answer y) alike, kept)
