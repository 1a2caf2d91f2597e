use Rattle.std.proofs.Common.{◌≡◌, None, rules, sym, ◌∙◌}
use Rattle.std.specs.Result.{result_err}
use Rattle.copy_law.specs.Course.{MakesSocket}
use Rattle.copier.proofs.ends.listen.Goals as goal

pub returns-clause-listens : goal.returns-clause-listens
returns-clause-listens c =
    let made : MakesSocket c.args.b.now c.in_ok-id.id c.socket.new.self = search rules in
    let binds : result_err c.bind.result ≡ None = search rules in
    let listens : result_err c.listen.result ≡ None = search rules in (
      c.socket.new.self,
      made,
      record {
        local = c.peer.result;
        backlog = 1;
        sized = c.peer.ensures;
        sound = c.sound-2.ensures.sound;
        may_bind = sym c.bind.ensures.refused ∙ binds;
        bound = c.bind.new.self;
        is_bound = search rules;
        bound_sound = c.sound-3.ensures.sound;
        may_listen = sym c.listen.ensures.refused ∙ listens;
        listening = search rules;
      },
    )
