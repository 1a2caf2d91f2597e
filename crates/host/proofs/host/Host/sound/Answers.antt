-- What follows of the events that led to it.
use Rattle.std.proofs.Common.{subst}
use Rattle.interface.specs.Sound.{IsSound}
use Rattle.sockets.specs.Sound.{IsSoundTable}
use Rattle.host.specs.HostView.{HostView}
use Rattle.host.specs.Runs.{HasRun, HasRunOnOctets}
use Rattle.host.proofs.Ran.{run-sound, keeps-reached, keeps-ordered, keeps-over, keeps-timed}
use Rattle.host.proofs.host.Host.sound.Goals as goal

pub returns : goal.returns
returns c =
    let octets : HasRunOnOctets c.args.self.now = subst HasRunOnOctets c.self.view_is c.self.invariant in
    let run : HasRun c.args.self.now = octets.run in
    let interface : IsSound c.args.self.now.interface = subst (λ (h : HostView). IsSound h.interface) c.self.view_is c.sound.ensures.interface in
    let table : IsSoundTable c.args.self.now.sockets = subst (λ (h : HostView). IsSoundTable h.sockets) c.self.view_is c.sound.ensures.table in
    record {
      sound = run-sound c.args.self.now interface table run;
      run = run;
      octets = octets;
      reached = keeps-reached c.args.self.now run;
      ordered = keeps-ordered c.args.self.now run;
      over = keeps-over c.args.self.now run;
      keeps_time = keeps-timed c.args.self.now run;
    }
