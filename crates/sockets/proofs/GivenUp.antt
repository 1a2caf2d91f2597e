-- No socket is given up, only datagrams of it.
use Rattle.std.proofs.Common.{◌≡◌, ◌==◌, not, Bool, true, false, List, [], ◌∷◌, Option, Some, None, option_map, refl, ◌∙◌, ap, arith}
use Rattle.std.proofs.lemmas.Grind.{common_steps}
use Rattle.std.specs.List.{find, AllByRecursion}
use Rattle.tcp_state.proofs.Edges.{and_right as right_of}
use Rattle.ipv4.specs.declared.addr.Addr.{Addr}
use Rattle.clock.specs.declared.moment.Moment.{Moment}
use Rattle.clock.specs.Moments.{has_come}
use Rattle.tcp_state.specs.Hop.{unheard_until}
use Rattle.tcp_state.specs.View.{View, IsSound}
use Rattle.sockets.specs.declared.entry.SocketId.{SocketId}
use Rattle.sockets.specs.declared.entry.Entry.{Entry}
use Rattle.sockets.specs.declared.role.Role.{Role}
use Rattle.sockets.specs.declared.role.Role.TheVariants.{Connected, Datagrams}
use Rattle.sockets.specs.Entries.{has_socket, is_half_open, is_kept, is_socket, with_role, entries_after_steps}
use Rattle.sockets.specs.SocketsView.{SocketsView, later_moment, role_of}
use Rattle.sockets.specs.Lost.{is_given_up, is_hopless, role_after_giving_up, give_up_fate_of, after_giving_up}
use Rattle.sockets.specs.Sound.{IsSoundRole, IsSoundTable}
use Rattle.sockets.proofs.Followed.{by_test}

-- only what its caller closed owes a reset
owes_released : (c : View) → IsSound c → c.owes_reset ≡ true → c.released ≡ true
owes_released c sound owes = grind (arith, common_steps, sound.reset)

-- what is taken out is no socket, but for one that has not passed SYN-RECEIVED
no_socket : (lost : Addr → Bool) (now : Moment) (role : Role) → IsSoundRole role → is_half_open role ≡ false → is_kept (give_up_fate_of lost now role) ≡ false → has_socket role ≡ false
no_socket lost now (Connected c (Some l)) sound open_ gone = refl
no_socket lost now (Connected c None) sound open_ gone =
    by_test c.owes_reset
    (λ owes. ap not (owes_released c sound.sound owes))
    (λ other. by_test c.released (λ left. ap not left)
    (λ held. by_test (lost c.peer.addr)
    (λ unreached.
    let kept : is_kept (give_up_fate_of lost now (Connected c None)) ≡ true =
    by_test (has_come (unheard_until c) now) (λ over. rw (other, unreached, over, held, open_) refl) (λ waits. rw (other, unreached, waits) refl) in cc)
    (λ reached. let kept : is_kept (give_up_fate_of lost now (Connected c None)) ≡ true = rw (other, reached) refl in cc)))
no_socket lost now _ sound open_ gone = cc

-- a socket stays one
still_socket : (lost : Addr → Bool) (now : Moment) (role : Role) → has_socket (role_after_giving_up lost now role) ≡ has_socket role
still_socket lost now (Connected c (Some l)) = refl
still_socket lost now (Connected c None) = by_test (is_hopless lost c) (λ hopless. rw hopless (by_test (has_come (unheard_until c) now) (λ over. rw over refl) (λ waits. rw waits refl))) (λ reached. rw reached refl)
still_socket lost now _ = refl

still_found : (lost : Addr → Bool) (now : Moment) (id : SocketId) (xs : List Entry) → AllByRecursion (λ (e : Entry). IsSoundRole e.role) xs → ((x : Entry) → find (is_socket id) xs ≡ Some x → is_half_open x.role ≡ false)
    → find (is_socket id) (entries_after_steps (give_up_fate_of lost now) (role_after_giving_up lost now) xs) ≡ option_map (with_role (role_after_giving_up lost now)) (find (is_socket id) xs)
still_found lost now id [] all open_ = refl
still_found lost now id (x ∷ xs) all open_ =
    by_test (is_socket id x)
    (λ named.
    let held : has_socket x.role ≡ true = right_of (x.id.0 == id.0) (has_socket x.role) named in
    let first : find (is_socket id) (x ∷ xs) ≡ Some x = rw named refl in
    by_test (is_kept (give_up_fate_of lost now x.role))
    (λ kept. rw (kept, still_socket lost now x.role, named) refl)
    (λ gone. let none : has_socket x.role ≡ false = no_socket lost now x.role all.0 (open_ x first) gone in cc))
    (λ other.
    let rest = still_found lost now id xs all.1 (λ y found. open_ y (rw other found)) in
    by_test (is_kept (give_up_fate_of lost now x.role))
    (λ kept. rw (kept, still_socket lost now x.role, other) rest)
    (λ gone. rw (gone, other) rest))

role_given_up : (lost : Addr → Bool) (now : Moment) (o : Option Entry) → option_map (λ (e : Entry). e.role) (option_map (with_role (role_after_giving_up lost now)) o) ≡ option_map (role_after_giving_up lost now) (option_map (λ (e : Entry). e.role) o)
role_given_up lost now None = refl
role_given_up lost now (Some e) = refl

pub sockets_kept : (h : SocketsView) (lost : Addr → Bool) (now : Moment) (id : SocketId) → IsSoundTable h → ((role : Role) → role_of h id ≡ Some role → is_half_open role ≡ false)
    → role_of (after_giving_up h lost now) id ≡ option_map (role_after_giving_up lost (later_moment h now)) (role_of h id)
sockets_kept h lost now id sound open_ =
    ap (λ (o : Option Entry). option_map (λ (e : Entry). e.role) o) (still_found lost (later_moment h now) id h.entries sound.entries (λ x found. open_ x.role (ap (λ (o : Option Entry). option_map (λ (e : Entry). e.role) o) found)))
    ∙ role_given_up lost (later_moment h now) (find (is_socket id) h.entries)

-- what owes a reset that is given up is not changed, but taken out
pub given_up_same : (lost : Addr → Bool) (now : Moment) (role : Role) → is_given_up lost now role ≡ true → role_after_giving_up lost now role ≡ role
given_up_same lost now (Connected c l) gone =
    by_test c.owes_reset
    (λ owes. let none : is_hopless lost c ≡ false = rw owes refl in rw none refl)
    (λ other. let waits : is_given_up lost now (Connected c l) ≡ false = rw other refl in cc)
given_up_same lost now (Datagrams ours queues) gone = cc
given_up_same lost now _ gone = refl
