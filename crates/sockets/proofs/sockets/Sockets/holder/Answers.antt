-- The first of the places of its two directions.
use Rattle.std.proofs.Common.{◌≡◌, ◌∙◌, ap, List, Option, ℕ}
use Rattle.std.specs.List.{position}
use Rattle.ipv4.specs.declared.addr.Endpoint.{Endpoint}
use Rattle.sockets.specs.declared.entry.Entry.{Entry}
use Rattle.sockets.specs.Entries.{is_between}
use Rattle.sockets.specs.Outlook.{first_of}
use Rattle.sockets.proofs.Either.{position-either}
use Rattle.sockets.proofs.sockets.Sockets.holder.Goals as goal

pub returns : goal.returns
returns c =
    let xs : List Entry = c.args.self.now.entries in
    let one : Endpoint = c.args.pair.first in
    let other : Endpoint = c.args.pair.second in
    let there : c.connection_between-there.result ≡ position (is_between one other) xs =
    c.connection_between-there.ensures ∙ ap (λ (e : Endpoint). position (is_between e c.second.result) xs) c.first.ensures ∙ ap (λ (e : Endpoint). position (is_between one e) xs) c.second.ensures
    in
    let back : c.connection_between-back.result ≡ position (is_between other one) xs =
    c.connection_between-back.ensures ∙ ap (λ (e : Endpoint). position (is_between e c.first-2.result) xs) c.second-2.ensures ∙ ap (λ (e : Endpoint). position (is_between other e) xs) c.first-2.ensures
    in
    c.first_of.ensures
    ∙ ap (λ (o : Option ℕ). first_of o c.connection_between-back.result) there
    ∙ ap (λ (o : Option ℕ). first_of (position (is_between one other) xs) o) back
    ∙ position-either (is_between one other) (is_between other one) xs
