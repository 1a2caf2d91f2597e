use Rattle.std.proofs.Common.{◌≡◌, ◌+◌, ◌-◌, ◌*◌, ◌≤◌, ◌++◌, length, drop, Some, arith, rules, sym, ◌∙◌, ap, subst}
use Rattle.tcp_state.specs.declared.emission.Due.{Due}
use Rattle.tcp_state.specs.View.{View, IsSound}
use Rattle.tcp_state.specs.Due.{MayGoOut, first_due, head_of, octets_of, segment_octets, emitted_len}
use Rattle.tcp_state.specs.Inside.{view_of}
use Rattle.tcp_state.proofs.Framing.{framed}
use Rattle.tcp_state.proofs.GoesOut.{due-may}
use Rattle.tcp_state.proofs.Sizes.{emitted_short}
use Rattle.tcp_state.proofs.connection.Connection.write.Goals as goal

-- what is due first may go out, by what holds of every connection
may : (inside v : View) (due : Due) → inside ≡ v → IsSound inside → first_due v ≡ Some due → MayGoOut v due
may inside v due is sound first = due-may v due (subst IsSound is sound) first

pub head-head-requires : goal.head-head-requires
head-head-requires c = may (view_of c.self.inside) c.args.self.now c.args.due c.self.view_is c.self.invariant c.requires.due

pub octet_count-count-requires : goal.octet_count-count-requires
octet_count-count-requires c = may (view_of c.self.inside) c.args.self.now c.args.due c.self.view_is c.self.invariant c.requires.due

pub copy_octets-sum-requires-clause-may : goal.copy_octets-sum-requires-clause-may
copy_octets-sum-requires-clause-may c = may (view_of c.self.inside) c.args.self.now c.args.due c.self.view_is c.self.invariant c.requires.due

pub returns-clause-may : goal.returns-clause-may
returns-clause-may c = may (view_of c.self.inside) c.args.self.now c.args.due c.self.view_is c.self.invariant c.requires.due

pub returns-clause-bound : goal.returns-clause-bound
returns-clause-bound c =
    let short : emitted_len c.args.self.now c.args.due ≤ 1480 = emitted_short c.args.self.now c.args.due (returns-clause-may c) in
    let len : c.emit.result ≡ emitted_len c.args.self.now c.args.due = search rules in
    omega (arith, short, len)

pub returns-clause-frame : goal.returns-clause-frame
returns-clause-frame c =
    let octets = c.copy_octets-sum.new.out in
    let start = c.len-start.result in
    let count = c.octet_count-count.result in
    let v = view_of c.self.inside in
    let same : octets ≡ octets_of v c.args.due = c.copy_octets-sum.ensures.octets ∙ search rules in
    let len : length octets ≡ count = ap length c.copy_octets-sum.ensures.octets ∙ sym c.octet_count-count.ensures.count in
    let bound = returns-clause-bound c in
    let room : c.emit.result ≤ length c.args.out.now = omega (arith, bound, c.requires.room) in
    c.emit.ensures.octets
    ∙ (framed v.local.addr v.peer.addr c.head-head.result (head_of v c.args.due) start c.emit.result (start + count - start)
    (4 * Rattle.tcp_segment.specs.Sent.sent_offset c.head-head.result) c.args.out.now octets (octets_of v c.args.due) (sym c.len-start.ensures.value)
    (omega (arith, c.emit.ensures.len, c.len-start.ensures, len)) (omega (arith, c.emit.ensures.len, c.len-start.ensures)) room (search rules) same
    ∙ ap (λ w. segment_octets w c.args.due ++ drop c.emit.result c.args.out.now) c.self.view_is)
