use Rattle.std.proofs.Common.{◌≡◌, true, false, rules, sym, subst}
use Rattle.tcp_state.specs.declared.emission.Stretch.{Stretch}
use Rattle.tcp_state.specs.View.{View, IsSound, is_opening}
use Rattle.tcp_state.specs.Inside.{view_of}
use Rattle.tcp_state.specs.New.{sends_new}
use Rattle.tcp_state.specs.Due.{IsHeld, new_octets}
use Rattle.tcp_state.proofs.GoesOut.{held_new}
use Rattle.tcp_state.proofs.connection.Connection.new_octets.Goals as goal

-- what is new and worth its way is held, by what holds of every connection
held : (inside v : View) (stretch : Stretch) → inside ≡ v → IsSound inside → is_opening v.state ≡ false → sends_new v ≡ true → stretch ≡ new_octets v → IsHeld v stretch
held inside v stretch is sound opened sends same = subst (IsHeld v) (sym same) (held_new v (subst IsSound is sound) opened sends)

pub returns-clause-held : goal.returns-clause-held
returns-clause-held c =
    let stretch : Stretch = record { offset = c.outstanding-offset.result; count = c.next_count-count.result; fin = c.takes_fin.result } in
    let same : stretch ≡ new_octets c.args.self.now = search rules in
    held (view_of c.self.inside) c.args.self.now stretch c.self.view_is c.self.invariant c.requires.opened c.requires.some same
