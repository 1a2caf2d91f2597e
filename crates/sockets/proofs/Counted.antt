-- Which resets and datagrams are left by a tick: the timers, which act before any is given up, make and take none of them.
use Rattle.std.proofs.Common.{◌≡◌, ℕ, ◌+◌, ◌==◌, ◌&&◌, ◌||◌, not, nat_lt, nat_le, if◌then◌else◌, Bool, true, false, cond, List, length, [], ◌∷◌, ◌++◌, Option, Some, None, is_some, refl, sym, ◌∙◌, ap, arith}
use Rattle.std.proofs.lemmas.Grind.{common_steps}
use Rattle.std.proofs.lemmas.List.Elements.{filter-append}
use Rattle.std.proofs.lemmas.List.Sums.{sum_by-cons}
use Rattle.std.specs.List.{AllByRecursion, count_by, filter, filter_map, flat_map}
use Rattle.ipv4.specs.declared.addr.Addr.{Addr}
use Rattle.ipv4.specs.declared.addr.Endpoint.{Endpoint}
use Rattle.clock.specs.declared.moment.Moment.{Moment}
use Rattle.clock.specs.declared.moment.TheConstants.{HOP_WAIT}
use Rattle.clock.specs.Moments.{after, has_come}
use Rattle.tcp_halves.proofs.Choices.{and_false}
use Rattle.tcp_state.specs.declared.state.State.{State}
use Rattle.tcp_state.specs.declared.state.State.TheVariants.{Closed}
use Rattle.tcp_state.specs.View.{View, IsSound, is_opening, is_closed, awaits_fin_ack, end_of_wait, is_at_end}
use Rattle.tcp_state.specs.Alive.{may_rest, end_of_silence, is_silent}
use Rattle.tcp_state.specs.Timing.{KeepsTime, probes, retransmits, is_silent_for_good, gives_up}
use Rattle.tcp_state.proofs.Clocked.{expiries_keep}
use Rattle.tcp_state.proofs.Unchanged.{closed_plain, closed_holds}
use Rattle.udp_socket.specs.SocketView.{Outgoing}
use Rattle.udp_socket.specs.Waits as datagrams
use Rattle.sockets.specs.declared.entry.Entry.{Entry}
use Rattle.sockets.specs.declared.role.Role.{Role}
use Rattle.sockets.specs.declared.role.Role.TheVariants.{Connected, Datagrams}
use Rattle.sockets.specs.Entries.{reset_wait, is_kept, role_after_tick, tick_fate_of, entries_after_steps}
use Rattle.sockets.specs.SocketsView.{SocketsView, later_moment}
use Rattle.sockets.specs.Lost.{is_given_up, give_up_fate_of, role_after_giving_up, after_giving_up, waiting_resets}
use Rattle.sockets.specs.GivenUp.{outbox_of, waiting_datagrams, resets_given_up}
use Rattle.sockets.specs.Sound.{IsSoundRole, IsSoundTable}
use Rattle.sockets.specs.Ticks.{after_tick}
use Rattle.sockets.specs.Timing.{KeepsTimeIn, EachKeepsTime}
use Rattle.sockets.proofs.Followed.{by_test}
use Rattle.sockets.proofs.ResetWaits.{still_waits, kept_with}

-- The timers of a connection that owes a reset, which is CLOSED.

no_end : (t : State) (released : Bool) (since now : Moment) → is_closed t ≡ true → has_come (end_of_wait t released since) now ≡ false
no_end Closed released since now closed = refl
no_end _ released since now closed = cc

none_come : (deadline : Option Moment) (now : Moment) → is_some deadline ≡ false → has_come deadline now ≡ false
none_come None now e = refl
none_come (Some moment) now e = cc

at_end_rests : (t : State) → is_closed t ≡ true → may_rest t ≡ false
at_end_rests Closed closed = refl
at_end_rests _ closed = cc

lives_on : (v : View) (now : Moment) → IsSound v → KeepsTime v → is_closed v.state ≡ true → gives_up v now ≡ false
lives_on v now sound keeps closed =
    let fin = closed_plain v.state closed in
    let none = closed_holds v sound closed in
    let tested = not (is_opening v.state) && (v.sending.window == 0) in
    let silent : probes v ≡ false = ap (λ n. tested && (not (n == 0) || awaits_fin_ack v.state)) none.0 ∙ (ap (λ b. tested && b) fin.1 ∙ and_false tested) in
    let at_rest : retransmits v ≡ false = ap (λ n. nat_lt 0 n && not (probes v)) none.1 in
    let unasked : is_silent v now ≡ false = ap (λ b. has_come (if b && (length v.sending.held == 0) then end_of_silence v.alive.every v.alive else None) now) (at_end_rests v.state closed) in
    ap (λ b. ((b || has_come v.timers.probe now) && nat_le 12 v.resend.expiries) || is_silent_for_good v now) (none_come v.timers.retransmission now (keeps.retransmission ∙ at_rest))
    ∙ ap (λ b. (b && nat_le 12 v.resend.expiries) || is_silent_for_good v now) (none_come v.timers.probe now (keeps.probe ∙ silent))
    ∙ ap (λ b. b && nat_le 12 v.alive.unanswered) unasked

closed_where_owed : (v : View) → IsSound v → v.owes_reset ≡ true → is_closed v.state ≡ true
closed_where_owed v sound owes = grind (arith, common_steps, sound.reset)

-- What a tick makes of the resets that wait.

still_owed : (now : Moment) (role : Role) → reset_wait (role_after_tick now role) ≡ reset_wait role
still_owed now (Connected c l) =
    let owed : View → Option (Endpoint × Moment) = λ v. reset_wait (Connected v l) in
    by_test (is_at_end c now)
    (λ ends. rw ends refl)
    (λ waits. by_test (gives_up c now)
    (λ over. rw (waits, over) refl)
    (λ lives. rw (waits, lives) (ap owed (expiries_keep c now))))
still_owed now (Datagrams bound socket) = refl
still_owed now _ = refl

kept_owed : (now : Moment) (role : Role) (wait : Endpoint × Moment) → IsSoundRole role → KeepsTimeIn role → reset_wait role ≡ Some wait → is_kept (tick_fate_of now role) ≡ true
kept_owed now (Connected c l) wait sound keeps is =
    by_test c.owes_reset
    (λ owes.
    let closed = closed_where_owed c sound.sound owes in
    let waits : is_at_end c now ≡ false = no_end c.state c.released c.since now closed in
    let lives = lives_on c now sound.sound keeps.0 closed in
    rw (waits, lives) refl)
    (λ other. let bad : reset_wait (Connected c l) ≡ None = rw other refl in cc)
kept_owed now _ wait sound keeps is = cc

abbrev waiting : List Entry → List (Endpoint × Moment)
waiting xs = filter_map (λ (e : Entry). reset_wait e.role) xs

abbrev ticked : Moment → List Entry → List Entry
ticked now xs = entries_after_steps (tick_fate_of now) (role_after_tick now) xs

ticked_waiting : (now : Moment) (xs : List Entry) → AllByRecursion (λ (e : Entry). IsSoundRole e.role) xs → AllByRecursion (λ (e : Entry). KeepsTimeIn e.role) xs → waiting (ticked now xs) ≡ waiting xs
ticked_waiting now [] sound keeps = refl
ticked_waiting now (x ∷ xs) sound keeps = by_wait (reset_wait x.role) refl (ticked_waiting now xs sound.1 keeps.1)
  where
    by_wait : (o : Option (Endpoint × Moment)) → reset_wait x.role ≡ o → waiting (ticked now xs) ≡ waiting xs → waiting (ticked now (x ∷ xs)) ≡ waiting (x ∷ xs)
    by_wait None is rest =
        by_test (is_kept (tick_fate_of now x.role))
        (λ kept. rw (kept, still_owed now x.role, is) rest)
        (λ gone. rw (gone, is) rest)
    by_wait (Some wait) is rest =
        let kept = kept_owed now x.role wait sound.0 keeps.0 is in
        rw (kept, still_owed now x.role, is) (ap (λ (r : List (Endpoint × Moment)). wait ∷ r) rest)

-- What is given up of them.

abbrev pub ends : (Addr → Bool) → Moment → Endpoint × Moment → Bool
ends lost now wait = has_come (Some (after wait.1 HOP_WAIT)) now && lost wait.0.addr

abbrev left : (Addr → Bool) → Moment → List Entry → List Entry
left lost now xs = entries_after_steps (give_up_fate_of lost now) (role_after_giving_up lost now) xs

left_waiting : (lost : Addr → Bool) (now : Moment) (xs : List Entry) → waiting (left lost now xs) ≡ filter (λ wait. not (ends lost now wait)) (waiting xs)
left_waiting lost now [] = refl
left_waiting lost now (x ∷ xs) = by_wait (reset_wait x.role) refl (left_waiting lost now xs)
  where
    by_wait : (o : Option (Endpoint × Moment)) → reset_wait x.role ≡ o → waiting (left lost now xs) ≡ filter (λ wait. not (ends lost now wait)) (waiting xs)
        → waiting (left lost now (x ∷ xs)) ≡ filter (λ wait. not (ends lost now wait)) (waiting (x ∷ xs))
    by_wait None is rest =
        by_test (is_kept (give_up_fate_of lost now x.role))
        (λ kept. rw (kept, still_waits lost now x.role, is) rest)
        (λ gone. rw (gone, is) rest)
    by_wait (Some (peer, since)) is rest =
        let told : is_given_up lost now x.role ≡ ends lost now (peer, since) = rw is refl in
        by_test (ends lost now (peer, since))
        (λ over. let gone : is_given_up lost now x.role ≡ true = told ∙ over in rw (gone, is, over) rest)
        (λ waits. let kept : is_kept (give_up_fate_of lost now x.role) ≡ true = kept_with lost now x.role (peer, since) is (told ∙ waits) in rw (kept, still_waits lost now x.role, is, waits) (ap (λ (r : List (Endpoint × Moment)). (peer, since) ∷ r) rest))

abbrev one : Bool → ℕ
one b = cond b 1 0

-- the entries that give theirs up are as many as the resets that are given up
counted_waiting : (lost : Addr → Bool) (now : Moment) (xs : List Entry) → count_by (λ (e : Entry). is_given_up lost now e.role) xs ≡ count_by (ends lost now) (waiting xs)
counted_waiting lost now [] = refl
counted_waiting lost now (x ∷ xs) = more ∙ by_wait (reset_wait x.role) refl (counted_waiting lost now xs)
  where
    more : count_by (λ (e : Entry). is_given_up lost now e.role) (x ∷ xs) ≡ one (is_given_up lost now x.role) + count_by (λ (e : Entry). is_given_up lost now e.role) xs
    more = sum_by-cons (λ (e : Entry). one (is_given_up lost now e.role)) x xs

    by_wait : (o : Option (Endpoint × Moment)) → reset_wait x.role ≡ o → count_by (λ (e : Entry). is_given_up lost now e.role) xs ≡ count_by (ends lost now) (waiting xs)
        → one (is_given_up lost now x.role) + count_by (λ (e : Entry). is_given_up lost now e.role) xs ≡ count_by (ends lost now) (waiting (x ∷ xs))
    by_wait None is rest =
        let told : is_given_up lost now x.role ≡ false = rw is refl in
        rw (told, is) (omega (arith, rest))
    by_wait (Some wait) is rest =
        let told : is_given_up lost now x.role ≡ ends lost now wait = rw is refl in
        rw (told, is) (ap (λ n. one (ends lost now wait) + n) rest ∙ sym (sum_by-cons (λ w. one (ends lost now w)) wait (waiting xs)))

-- the moment is kept by the tick
later-kept : (h : SocketsView) (now : Moment) → later_moment (after_tick h now) now ≡ later_moment h now
later-kept h now = by_test (nat_lt h.kept.0 now.0) (λ later. rw later (by_test (nat_lt now.0 now.0) (λ b. rw b refl) (λ b. rw b refl))) (λ earlier. rw earlier (rw earlier refl))

-- .. so those that are left are those that don't end
pub resets_left : (h : SocketsView) (lost : Addr → Bool) (now : Moment) → IsSoundTable h → EachKeepsTime h
    → waiting_resets (after_giving_up (after_tick h now) lost now) ≡ filter (λ wait. not (ends lost (later_moment h now) wait)) (waiting_resets h)
resets_left h lost now sound keeps =
    let moment : Moment = later_moment h now in
    ap (λ (m : Moment). waiting (left lost m (ticked moment h.entries))) (later-kept h now)
    ∙ left_waiting lost moment (ticked moment h.entries)
    ∙ ap (filter (λ wait. not (ends lost moment wait))) (ticked_waiting moment h.entries sound.entries keeps)

pub resets_ended : (h : SocketsView) (lost : Addr → Bool) (now : Moment) → count_by (ends lost (later_moment h now)) (waiting_resets h) ≡ resets_given_up h lost now
resets_ended h lost now = sym (counted_waiting lost (later_moment h now) h.entries)

-- Datagrams.

abbrev out : List Entry → List Outgoing
out xs = flat_map (λ (e : Entry). outbox_of e.role) xs

ticked_outbox : (now : Moment) (role : Role) → outbox_of (role_after_tick now role) ≡ outbox_of role
ticked_outbox now (Connected c l) = refl
ticked_outbox now (Datagrams bound socket) = refl
ticked_outbox now _ = refl

gone_outbox : (now : Moment) (role : Role) → is_kept (tick_fate_of now role) ≡ false → outbox_of role ≡ []
gone_outbox now (Datagrams bound socket) gone = cc
gone_outbox now (Connected c l) gone = refl
gone_outbox now _ gone = refl

ticked_out : (now : Moment) (xs : List Entry) → out (ticked now xs) ≡ out xs
ticked_out now [] = refl
ticked_out now (x ∷ xs) =
    let rest = ticked_out now xs in
    by_test (is_kept (tick_fate_of now x.role))
    (λ kept. rw kept (rw (ticked_outbox now x.role) (ap (λ (os : List Outgoing). outbox_of x.role ++ os) rest)))
    (λ gone. rw gone (rw (gone_outbox now x.role gone) rest))

abbrev stays : (Addr → Bool) → Moment → Outgoing → Bool
stays lost now o = not (datagrams.is_given_up lost now o)

left_outbox : (lost : Addr → Bool) (now : Moment) (role : Role) → outbox_of (role_after_giving_up lost now role) ≡ filter (stays lost now) (outbox_of role)
left_outbox lost now (Connected c l) = refl
left_outbox lost now (Datagrams bound socket) = refl
left_outbox lost now _ = refl

taken_outbox : (lost : Addr → Bool) (now : Moment) (role : Role) → is_kept (give_up_fate_of lost now role) ≡ false → outbox_of role ≡ []
taken_outbox lost now (Datagrams bound socket) gone = cc
taken_outbox lost now (Connected c l) gone = refl
taken_outbox lost now _ gone = refl

left_out : (lost : Addr → Bool) (now : Moment) (xs : List Entry) → out (left lost now xs) ≡ filter (stays lost now) (out xs)
left_out lost now [] = refl
left_out lost now (x ∷ xs) =
    let rest = left_out lost now xs in
    let parts = filter-append (stays lost now) (outbox_of x.role) (out xs) in
    by_test (is_kept (give_up_fate_of lost now x.role))
    (λ kept. rw kept (rw (left_outbox lost now x.role) (ap (λ (os : List Outgoing). filter (stays lost now) (outbox_of x.role) ++ os) rest ∙ sym parts)))
    (λ gone. rw gone (rw (taken_outbox lost now x.role gone) rest))

pub datagrams_left : (h : SocketsView) (lost : Addr → Bool) (now : Moment)
    → waiting_datagrams (after_giving_up (after_tick h now) lost now) ≡ filter (λ o. not (datagrams.is_given_up lost (later_moment h now) o)) (waiting_datagrams h)
datagrams_left h lost now =
    let moment : Moment = later_moment h now in
    ap (λ (m : Moment). out (left lost m (ticked moment h.entries))) (later-kept h now)
    ∙ left_out lost moment (ticked moment h.entries)
    ∙ ap (filter (stays lost moment)) (ticked_out moment h.entries)
