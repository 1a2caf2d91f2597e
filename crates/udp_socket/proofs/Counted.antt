-- How many outgoing datagrams are given up, by their tags alone.
use Rattle.std.proofs.Common.{◌≡◌, ℕ, ◌+◌, Bool, List, [], ◌∷◌, refl, sym, ◌∙◌, ap, cond}
use Rattle.std.specs.List.{count_by}
use Rattle.std.proofs.lemmas.List.Sums.{sum_by-cons}
use Rattle.clock.specs.declared.moment.Moment.{Moment}
use Rattle.ipv4.specs.declared.addr.Addr.{Addr}
use Rattle.udp.specs.Waiting.{Waiting}
use Rattle.udp_socket.specs.declared.tag.Tag.{Tag}
use Rattle.udp_socket.specs.SocketView.{Outgoing}
use Rattle.udp_socket.specs.Stored.{outgoing, outgoing_of, AreBeside, bare}
use Rattle.udp_socket.specs.Waits.{is_given_up}

pub count_beside : (test : Addr → Bool) (now : Moment) (tags : List Tag) (items : List Waiting) → AreBeside tags items
    → count_by (λ (tag : Tag). is_given_up test now (bare tag)) tags ≡ count_by (is_given_up test now) (outgoing_of tags items)
count_beside test now [] [] beside = refl
count_beside test now [] (item ∷ items) beside = absurd beside
count_beside test now (tag ∷ tags) [] beside = absurd beside
count_beside test now (tag ∷ tags) (item ∷ items) beside =
    let one : Outgoing → ℕ = λ o. cond (is_given_up test now o) 1 0 in
    sum_by-cons (λ (t : Tag). one (bare t)) tag tags
    ∙ ap (λ n. one (bare tag) + n) (count_beside test now tags items beside.2)
    ∙ sym (sum_by-cons one (outgoing tag item) (outgoing_of tags items))
