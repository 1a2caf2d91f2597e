-- What is told to be lacking is so.
use Rattle.std.proofs.Common.{◌≡◌, ◌⊎◌, inl, inr, ℕ, ◌+◌, ◌^◌, ◌≤◌, ◌==◌, ◌&&◌, ◌||◌, nat_le, is_none, Bool, true, false, if◌then◌else◌, List, length, count_by, Option, Some, None, option_map, Result, Ok, Err, refl, sym, ◌∙◌, ap, subst}
use Rattle.std.specs.List.{find}
use Rattle.std.proofs.lemmas.Bool.{eqb-true}
use Rattle.std.proofs.lemmas.Bool.Decides.{leb_tells}
use Rattle.ipv4.specs.declared.addr.Addr.{Addr}
use Rattle.ipv4.specs.Datagram.{Datagram}
use Rattle.tcp_halves.proofs.Choices.{and_right}
use Rattle.tcp_segment.specs.declared.head.Head.{Head}
use Rattle.tcp_segment.specs.Segment.{Segment}
use Rattle.udp.specs.Datagram.{UserDatagram}
use Rattle.frames.specs.declared.drop.DropCause.{DropCause}
use Rattle.frames.specs.declared.meaning.Meaning.{Meaning}
use Rattle.frames.specs.declared.meaning.Meaning.TheVariants.{Arp, Tcp, Icmp, Udp, Other, UdpFragment}
use Rattle.arp.specs.Cache.{is_request_for}
use Rattle.interface.specs.Replies.{is_full}
use Rattle.interface.specs.Ways.{is_routed}
use Rattle.reassembly.specs.Places.{place_for}
use Rattle.reassembly.specs.Reassembly.{PoolView}
use Rattle.sockets.specs.declared.datagrams.Reception.{Reception}
use Rattle.sockets.specs.declared.datagrams.Reception.TheVariants as socket
use Rattle.sockets.specs.declared.entry.Entry.{Entry}
use Rattle.sockets.specs.declared.needs.Need.{Need}
use Rattle.sockets.specs.declared.needs.Need.TheVariants as need
use Rattle.sockets.specs.Arrival.{is_opening, local_end, peer_end}
use Rattle.sockets.specs.Calls.{is_table_full}
use Rattle.sockets.specs.Datagrams.{reception}
use Rattle.sockets.specs.Entries.{is_between, is_listening_at, is_waiting_at, backlog_of, fate_of}
use Rattle.sockets.specs.Needs.{is_backlog_full, need_at, need_alone, need_of_answer}
use Rattle.sockets.specs.Needs as needs
use Rattle.sockets.specs.Replies.{answer_to, answer_at_listener}
use Rattle.sockets.specs.SocketsView.{SocketsView}
use Rattle.sockets.proofs.Followed.{by_test}
use Rattle.tcp_state.specs.Asking.{is_rejection}
use Rattle.host.specs.declared.lack.Lack.{Lack}
use Rattle.host.specs.declared.lack.Lack.TheVariants.{Backlog, Table, Memory, Replies, Queue, Reassembly, Route}
use Rattle.host.specs.Arrival.{pool_for}
use Rattle.host.specs.Heard.{heard_by}
use Rattle.host.specs.HostView.{HostView}
use Rattle.host.specs.Lack.{IsLacking, lack, lack_of, lack_of_reply, lack_by_need, lack_by_message, lack_by_reception}
use Rattle.host.specs.Messages.{Told, Asks, Refuses, Nothing, told_by}

-- what a segment needs, in a table that has none of it
abbrev NeedsSo : SocketsView → Option Need → Type 0
NeedsSo h (Some need.Backlog) = (port : ℕ) × (x : Entry) × (find (is_listening_at port) h.entries ≡ Some x) × (backlog_of x.role ≤ count_by (is_waiting_at x.id) h.entries)
NeedsSo h (Some need.Table) = (length h.entries ≡ h.sizes.entries) ⊎ (h.last_id + 1 ≡ 2 ^ 64)
NeedsSo h _ = Unit {0}

answered : (h : SocketsView) (o : Option Head) → NeedsSo h (need_of_answer o)
answered h None = tt
answered h (Some head) = tt

full_table : (h : SocketsView) → is_table_full h ≡ true → (length h.entries ≡ h.sizes.entries) ⊎ (h.last_id + 1 ≡ 2 ^ 64)
full_table h full = by_test (length h.entries == h.sizes.entries)
    (λ all. inl (eqb-true (length h.entries) h.sizes.entries all))
    (λ fewer. inr (eqb-true (h.last_id + 1) (2 ^ 64) (sym (ap (λ b. b || (h.last_id + 1 == 2 ^ 64)) fewer) ∙ full)))

needed_at : (h : SocketsView) (port : ℕ) (listener : Entry) → find (is_listening_at port) h.entries ≡ Some listener → NeedsSo h (Some (need_at h listener))
needed_at h port listener found = elim (leb_tells (backlog_of listener.role) (count_by (is_waiting_at listener.id) h.entries)) [
  | inl full ↦ let is : need_at h listener ≡ need.Backlog = rw full.0 refl in subst (λ n. NeedsSo h (Some n)) (sym is) (port, listener, found, full.1)
  | inr place ↦
      by_test (is_table_full h)
      (λ full. let is : need_at h listener ≡ need.Table = rw (place.0, full) refl in subst (λ n. NeedsSo h (Some n)) (sym is) (full_table h full))
      (λ room. let is : need_at h listener ≡ need.Memory = rw (place.0, room) refl in subst (λ n. NeedsSo h (Some n)) (sym is) tt)
]

needed_alone : (h : SocketsView) (s : Segment) → NeedsSo h (need_alone h s)
needed_alone h s = by_listener (find (is_listening_at s.destination) h.entries) refl
  where
    by_listener : (o : Option Entry) → find (is_listening_at s.destination) h.entries ≡ o → NeedsSo h (need_alone h s)
    by_listener None found = let is : need_alone h s ≡ need_of_answer (answer_to s) = rw found refl in subst (NeedsSo h) (sym is) (answered h (answer_to s))
    by_listener (Some listener) found =
        by_test (is_opening s.flags)
        (λ opens. let is : need_alone h s ≡ Some (need_at h listener) = rw (found, opens) refl in subst (NeedsSo h) (sym is) (needed_at h s.destination listener found))
        (λ no. let is : need_alone h s ≡ need_of_answer (answer_at_listener s) = rw (found, no) refl in subst (NeedsSo h) (sym is) (answered h (answer_at_listener s)))

needed : (h : SocketsView) (source : Addr) (s : Segment) → NeedsSo h (needs.need h source s)
needed h source s = by_entry (find (is_between (local_end h s) (peer_end source s)) h.entries) refl
  where
    by_entry : (o : Option Entry) → find (is_between (local_end h s) (peer_end source s)) h.entries ≡ o → NeedsSo h (needs.need h source s)
    by_entry None found = let is : needs.need h source s ≡ need_alone h s = rw found refl in subst (NeedsSo h) (sym is) (needed_alone h s)
    by_entry (Some e) found =
        by_test (is_rejection (fate_of s e.role))
        (λ rejects. let is : needs.need h source s ≡ Some need.Reply = rw (found, rejects) refl in subst (NeedsSo h) (sym is) tt)
        (λ takes. let is : needs.need h source s ≡ None = rw (found, takes) refl in subst (NeedsSo h) (sym is) tt)

-- A control reply.
no_reply : (h : HostView) (is_owed : Bool) (what : Lack) → lack_of_reply is_owed h.interface ≡ Some what → IsLacking h what
no_reply h is_owed what told =
    by_test (is_owed && is_full h.interface)
    (λ full.
    let is : Replies ≡ what = (let one : Some Replies ≡ Some what = sym (ap (λ b. if b then Some Replies else None) full) ∙ told in cc) in
    subst (IsLacking h) is (eqb-true (length h.interface.replies) h.interface.most_replies (and_right is_owed (is_full h.interface) full)))
    (λ room. let bad : None ≡ Some what = sym (ap (λ b. if b then Some Replies else None) room) ∙ told in cc)

by_need : (h : HostView) (source : Addr) (what : Lack) (o : Option Need) → NeedsSo h.sockets o → lack_by_need h source o ≡ Some what → IsLacking h what
by_need h source what None so told = cc
by_need h source what (Some need.Backlog) so told = let is : Backlog ≡ what = cc in subst (IsLacking h) is so
by_need h source what (Some need.Table) so told = let is : Table ≡ what = cc in subst (IsLacking h) is so
by_need h source what (Some need.Memory) so told =
    by_test (is_routed h.interface source)
    (λ routed. let is : Memory ≡ what = (let one : Some Memory ≡ Some what = sym (ap (λ b. Some (if b then Memory else Route)) routed) ∙ told in cc) in subst (IsLacking h) is tt)
    (λ none. let is : Route ≡ what = (let one : Some Route ≡ Some what = sym (ap (λ b. Some (if b then Memory else Route)) none) ∙ told in cc) in subst (IsLacking h) is (source, none))
by_need h source what (Some need.Reply) so told = no_reply h (is_routed h.interface source) what told

by_reception : (h : HostView) (source : Addr) (what : Lack) (d : UserDatagram) (r : Reception) → reception h.sockets d ≡ r → lack_by_reception h source r ≡ Some what → IsLacking h what
by_reception h source what d socket.Queued is told = cc
by_reception h source what d socket.NoRoom is told = let same : Queue ≡ what = cc in subst (IsLacking h) same (d, is)
by_reception h source what d socket.NoSocket is told = no_reply h (is_routed h.interface source) what told

by_message : (h : HostView) (source : Addr) (what : Lack) (t : Told) → lack_by_message h source t ≡ Some what → IsLacking h what
by_message h source what Asks told = no_reply h (is_routed h.interface source) what told
by_message h source what (Refuses quote) told = cc
by_message h source what Nothing told = cc

no_place : {A : Type 0} (o : Option A) → is_none o ≡ true → o ≡ None
no_place None is = refl
no_place (Some x) is = cc

by_meaning : (h : HostView) (what : Lack) (m : Result Meaning DropCause) → lack_of h m ≡ Some what → IsLacking h what
by_meaning h what (Ok (Arp packet)) told = no_reply h (is_request_for h.interface.addr packet) what told
by_meaning h what (Ok (Tcp r)) told = by_need h r.source what (needs.need h.sockets r.source r.segment) (needed h.sockets r.source r.segment) told
by_meaning h what (Ok (Icmp c)) told = by_message h c.source what (told_by c.message) told
by_meaning h what (Ok (Udp r)) told = by_reception h r.carrier.source what r.datagram (reception h.sockets r.datagram) refl told
by_meaning h what (Ok (UdpFragment d)) told =
    let pool : PoolView = pool_for h.sockets.manner.guards d h.pool in
    by_test (is_none (place_for d pool))
    (λ none. let is : Reassembly ≡ what = (let one : Some Reassembly ≡ Some what = sym (ap (λ b. if b then Some Reassembly else None) none) ∙ told in cc) in subst (IsLacking h) is (d, no_place (place_for d pool) none))
    (λ some. let bad : None ≡ Some what = sym (ap (λ b. if b then Some Reassembly else None) some) ∙ told in cc)
by_meaning h what (Ok (Other d)) told = no_reply h (is_routed h.interface d.source) what told
by_meaning h what (Err cause) told = cc

pub is_lacking : (h : HostView) (octets : List ℕ) (what : Lack) → lack h octets ≡ Some what → IsLacking h what
is_lacking h octets what told = by_meaning h what (heard_by h octets) told
