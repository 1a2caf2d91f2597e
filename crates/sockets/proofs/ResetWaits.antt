-- Why a reset is given up exactly where it has waited for 3,000 milliseconds for an address that is lost.
use Rattle.std.proofs.Common.{◌≡◌, ◌+◌, ◌-◌, ◌^◌, ◌<◌, ◌&&◌, nat_le, Bool, true, false, List, [], ◌∷◌, Option, Some, None, arith, refl, ◌∙◌, ap}
use Rattle.std.proofs.lemmas.Bool.Decides.{nat_tests}
use Rattle.std.specs.List.{filter, filter_map}
use Rattle.ipv4.specs.declared.addr.Addr.{Addr}
use Rattle.ipv4.specs.declared.addr.Endpoint.{Endpoint}
use Rattle.clock.specs.declared.moment.Moment.{Moment}
use Rattle.clock.specs.Moments.{after, has_come}
use Rattle.tcp_state.specs.Hop.{unheard_until}
use Rattle.sockets.specs.declared.entry.Entry.{Entry}
use Rattle.sockets.specs.declared.role.Role.{Role}
use Rattle.sockets.specs.declared.role.Role.TheVariants.{Connected, Datagrams}
use Rattle.sockets.specs.Entries.{reset_wait, is_kept, entries_after_steps}
use Rattle.sockets.specs.SocketsView.{SocketsView, later_moment}
use Rattle.sockets.specs.Lost.{is_given_up, is_hopless, loses_hop, give_up_fate_of, role_after_giving_up, after_giving_up, waiting_resets, waits_still}
use Rattle.sockets.proofs.Followed.{by_test}

-- the wait's end comes so many milliseconds after its beginning, before the last moment
comes_after : (since now : Moment) → now.0 < 2 ^ 64 - 1 → has_come (Some (after since 3000)) now ≡ nat_le (since.0 + 3000) now.0
comes_after since now before_last = grind (arith, nat_tests)

-- what stays waits as before
pub still_waits : (lost : Addr → Bool) (now : Moment) (role : Role) → reset_wait (role_after_giving_up lost now role) ≡ reset_wait role
still_waits lost now (Connected c l) =
    by_test (is_hopless lost c)
    (λ hopless. rw hopless (by_test (has_come (unheard_until c) now) (λ over. rw over refl) (λ waits. rw waits refl)))
    (λ reached. rw reached refl)
still_waits lost now (Datagrams bound socket) = refl
still_waits lost now _ = refl

-- what owes a reset is taken out with it alone
pub kept_with : (lost : Addr → Bool) (now : Moment) (role : Role) (wait : Endpoint × Moment) → reset_wait role ≡ Some wait → is_given_up lost now role ≡ false → is_kept (give_up_fate_of lost now role) ≡ true
kept_with lost now (Connected c l) wait is waits =
    by_test c.owes_reset
    (λ owes. let none : loses_hop lost (Connected c l) ≡ false = rw owes refl in rw (waits, none) refl)
    (λ other. let bad : reset_wait (Connected c l) ≡ None = rw other refl in cc)
kept_with lost now _ wait is waits = cc

-- the resets that wait in some entries, and those that wait once others were given up
abbrev waiting : List Entry → List (Endpoint × Moment)
waiting xs = filter_map (λ (e : Entry). reset_wait e.role) xs

abbrev Leaves : (Addr → Bool) → Moment → List Entry → Type 0
Leaves lost now xs = waiting (entries_after_steps (give_up_fate_of lost now) (role_after_giving_up lost now) xs) ≡ filter (waits_still lost now) (waiting xs)

left_waiting : (lost : Addr → Bool) (now : Moment) → now.0 < 2 ^ 64 - 1 → (xs : List Entry) → Leaves lost now xs
left_waiting lost now few [] = refl
left_waiting lost now few (x ∷ xs) = by_wait (reset_wait x.role) refl (left_waiting lost now few xs)
  where
    by_wait : (o : Option (Endpoint × Moment)) → reset_wait x.role ≡ o → Leaves lost now xs → Leaves lost now (x ∷ xs)
    by_wait None is rest =
        by_test (is_kept (give_up_fate_of lost now x.role))
        (λ kept. rw (kept, still_waits lost now x.role, is) rest)
        (λ gone. rw (gone, is) rest)
    by_wait (Some (peer, since)) is rest =
        let told : is_given_up lost now x.role ≡ (nat_le (since.0 + 3000) now.0 && lost peer.addr) = rw is (ap (λ b. b && lost peer.addr) (comes_after since now few)) in
        by_test (nat_le (since.0 + 3000) now.0 && lost peer.addr)
        (λ over. let gone : is_given_up lost now x.role ≡ true = told ∙ over in rw (gone, is, over) rest)
        (λ waits. let kept : is_kept (give_up_fate_of lost now x.role) ≡ true = kept_with lost now x.role (peer, since) is (told ∙ waits) in rw (kept, still_waits lost now x.role, is, waits) (ap (λ (r : List (Endpoint × Moment)). (peer, since) ∷ r) rest))

pub given_up_in_time : (h : SocketsView) (lost : Addr → Bool) (now : Moment) → (let later = later_moment h now in later.0 < 2 ^ 64 - 1)
    → waiting_resets (after_giving_up h lost now) ≡ filter (waits_still lost (later_moment h now)) (waiting_resets h)
given_up_in_time h lost now few = left_waiting lost (later_moment h now) few h.entries
