use Rattle.std.proofs.Common.{◌≡◌, ℕ, ◌+◌, ◌<◌, nat_eq, false, rules, sym, subst}
use Rattle.tcp_halves.specs.Stream.{outstanding}
use Rattle.tcp_state.specs.declared.emission.Stretch.{Stretch}
use Rattle.tcp_state.specs.View.{View, IsSound, is_opening}
use Rattle.tcp_state.specs.Inside.{view_of}
use Rattle.tcp_state.specs.Due.{IsHeld, again}
use Rattle.tcp_state.proofs.GoesOut.{held_again}
use Rattle.tcp_state.proofs.connection.Connection.again.Goals as goal

-- what goes out again is held, by what holds of every connection
held : (inside v : View) (mark : ℕ) (stretch : Stretch) → inside ≡ v → IsSound inside → is_opening v.state ≡ false → mark < outstanding v.sending → stretch ≡ again v mark → IsHeld v stretch
held inside v mark stretch is sound opened within same = subst (IsHeld v) (sym same) (held_again v mark (subst IsSound is sound) opened within)

pub returns-else-offset-count-clause-held : goal.returns-else-offset-count-clause-held
returns-else-offset-count-clause-held c =
    let stretch : Stretch = record { offset = c.args.mark; count = c.gap_len-count.result; fin = nat_eq (c.args.mark + c.gap_len-count.result) c.held_len-held.result } in
    let same : stretch ≡ again c.args.self.now c.args.mark = search rules in
    held (view_of c.self.inside) c.args.self.now c.args.mark stretch c.self.view_is c.self.invariant c.requires.opened c.requires.within same
