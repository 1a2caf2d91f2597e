-- What is given up of a table is what is of its entries: the datagrams of all are those of each, added up.
use Rattle.std.proofs.Common.{◌≡◌, ℕ, ◌+◌, Bool, cond, List, [], ◌∷◌, refl, sym, ◌∙◌, ap}
use Rattle.std.proofs.lemmas.List.Sums.{sum_by-append, sum_by-cons}
use Rattle.std.specs.List.{count_by, flat_map, sum_by}
use Rattle.clock.specs.declared.moment.Moment.{Moment}
use Rattle.ipv4.specs.declared.addr.Addr.{Addr}
use Rattle.udp_socket.specs.SocketView.{Outgoing}
use Rattle.udp_socket.specs.Waits as datagrams
use Rattle.sockets.specs.declared.entry.Entry.{Entry}
use Rattle.sockets.specs.GivenUp.{outbox_of, resets_given_up, datagrams_given_up}
use Rattle.sockets.specs.Lost.{is_given_up}
use Rattle.sockets.specs.SocketsView.{SocketsView, later_moment}

count_in : (test : Outgoing → Bool) (xs : List Entry) → sum_by (λ (e : Entry). count_by test (outbox_of e.role)) xs ≡ count_by test (flat_map (λ (e : Entry). outbox_of e.role) xs)
count_in test [] = refl
count_in test (x ∷ xs) =
    let of : Entry → ℕ = λ e. count_by test (outbox_of e.role) in
    let rest : List Outgoing = flat_map (λ (e : Entry). outbox_of e.role) xs in
    sum_by-cons of x xs ∙ ap (λ n. of x + n) (count_in test xs) ∙ sym (sum_by-append (λ o. cond (test o) 1 0) (outbox_of x.role) rest)

pub given_in : (h : SocketsView) (test : Addr → Bool) (now moment : Moment) (xs : List Entry) (n : ℕ) → n ≡ sum_by (λ (e : Entry). count_by (datagrams.is_given_up test moment) (outbox_of e.role)) xs
    → moment ≡ later_moment h now → xs ≡ h.entries → n ≡ datagrams_given_up h test now
given_in h test now moment xs n told at table =
    told
    ∙ count_in (datagrams.is_given_up test moment) xs
    ∙ ap (λ (ys : List Entry). count_by (datagrams.is_given_up test moment) (flat_map (λ (e : Entry). outbox_of e.role) ys)) table
    ∙ ap (λ (m : Moment). count_by (datagrams.is_given_up test m) (flat_map (λ (e : Entry). outbox_of e.role) h.entries)) at

pub owed_in : (h : SocketsView) (test : Addr → Bool) (now moment : Moment) (xs : List Entry) (n : ℕ) → n ≡ count_by (λ (e : Entry). is_given_up test moment e.role) xs
    → moment ≡ later_moment h now → xs ≡ h.entries → n ≡ resets_given_up h test now
owed_in h test now moment xs n told at table =
    told
    ∙ ap (λ (ys : List Entry). count_by (λ (e : Entry). is_given_up test moment e.role) ys) table
    ∙ ap (λ (m : Moment). count_by (λ (e : Entry). is_given_up test m e.role) h.entries) at
