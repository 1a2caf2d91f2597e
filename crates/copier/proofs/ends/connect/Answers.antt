use Rattle.std.proofs.Common.{◌≡◌, None, rules, arith, sym, ◌∙◌}
use Rattle.std.specs.Result.{result_err}
use Rattle.copy_law.specs.Course.{MakesSocket}
use Rattle.copier.proofs.ends.connect.Goals as goal

pub returns-clause-connects : goal.returns-clause-connects
returns-clause-connects c =
    let made : MakesSocket c.args.a.now c.in_ok-id.id c.socket.new.self = search rules in
    let fine : result_err c.connect.result ≡ None = search rules in
    (c.socket.new.self, made, record { isn = record { 0 = 1000 }; peer = c.peer.result; sized = omega arith; sound = c.sound-2.ensures.sound; may = sym c.connect.ensures.refused ∙ fine; connecting = search rules })
