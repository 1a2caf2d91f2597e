-- The deadlines of the tags are those of the datagrams.
use Rattle.std.proofs.Common.{◌≡◌, rules, List, [], ◌∷◌, Option, None, fold, refl, sym, ap, ◌∙◌}
use Rattle.std.specs.Map.Iter.{TakesFirst, deref}
use Rattle.std.proofs.lemmas.Fn.{fold_over}
use Rattle.std.proofs.lemmas.List.Sums.{fold-append}
use Rattle.std.proofs.lemmas.Iterator.Consumers.{YieldsList-from_rest}
use Rattle.clock.specs.declared.moment.Moment.{Moment}
use Rattle.clock.specs.Moments.{sooner}
use Rattle.udp_socket.specs.declared.tag.Tag.{Tag}
use Rattle.udp_socket.specs.SocketView.{SocketView}
use Rattle.udp_socket.specs.Stored.{bare}
use Rattle.udp_socket.specs.Waits.{deadline_of, deadline}
use Rattle.udp_socket.proofs.Lost.{deadline_beside}
use Rattle.udp_socket.proofs.socket.UdpSocket.deadline.Goals as goal

pub returns : goal.returns
returns g c = λ test computes.
    let J : List Tag → Option Moment → Type 0 = λ ys a. a ≡ fold (λ l (tag : Tag). sooner l (deadline_of test (bare tag))) None ys in
    fold_over (TakesFirst deref) deref _ J _
    (λ ys a x b f' so called. let next : b ≡ sooner a (deadline_of test (bare x.now)) = search rules in
    (next ∙ ap (λ (l : Option Moment). sooner l (deadline_of test (bare x.now))) so ∙ sym (fold-append (λ l (tag : Tag). sooner l (deadline_of test (bare tag))) None ys (x.now ∷ [])), search rules))
    c.iter.result c.self.inside.tags.items _ _ (YieldsList-from_rest {shows = deref} c.self.inside.tags.items c.iter.ensures.rest).runs refl c.fold.ensures.ran
    ∙ deadline_beside test c.self.inside.tags.items c.self.inside.datagrams.items None c.self.invariant.beside
    ∙ ap (λ (s : SocketView). deadline test s) c.self.view_is
