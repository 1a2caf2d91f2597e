use Rattle.std.proofs.Common.{refl, sym, subst}
use Rattle.host.specs.HostView.{HostView}
use Rattle.sides.specs.declared.side.Side.TheVariants.{A, B}
use Rattle.wire_sim.proofs.runs.FieldsAreReached.{unalike}
use Rattle.wire_sim.specs.Hosts.{address_of, mac_of}
use Rattle.copy_law.specs.Course.{starts, MakesSocket}
use Rattle.copier.proofs.ends.Ends.new.Goals as goal

pub returns-clause-course : goal.returns-clause-course
returns-clause-course c =
    let a = c.in_ok-a.ensures.host in
    let b = c.in_ok-b.ensures.host in
    let l = c.in_ok-listener.ensures.listens in
    let k = c.in_ok-sender.ensures.connects in
    starts _ (record {
      config_a = a.0;
      config_b = b.0;
      set_up_a = a.2;
      set_up_b = b.2;
      apart = unalike a.0 b.0 (address_of A) (address_of B) (mac_of A) (mac_of B) (sym a.1.addr) (sym b.1.addr) (sym a.1.mac) (sym b.1.mac) refl refl;
      a_made = k.0;
      b_made = l.0;
      listener = c.in_ok-listener.listener;
      b_socket = subst (λ (h : HostView). MakesSocket h c.in_ok-listener.listener l.0) b.3 l.1;
      b_listens = l.2;
      a_socket = subst (λ (h : HostView). MakesSocket h c.in_ok-sender.sender k.0) a.3 k.1;
      a_connects = k.2;
      sound_b = c.sound.ensures.sound;
      others = refl;
    })
