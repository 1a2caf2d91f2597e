-- What is due first of all goes out where the MAC of its hop is known, and nothing where nothing is due.
use Rattle.std.proofs.Common.{◌++◌, drop, sym, ◌∙◌, ap}
use Rattle.host.specs.Emission.{Emission, len_of, left_by, octets_of}
use Rattle.host.proofs.FirstDue.{first_due_sent, none_due}
use Rattle.host.proofs.layers.Layers.emit_from_table.Goals as goal

pub returns-in_err-due-clause-answer : goal.returns-in_err-due-clause-answer
returns-in_err-due-clause-answer c =
    c.from_residual.ensures ∙ ap (len_of c.args.self.now c.args.now) (sym (none_due _ c.args.self.now c.args.now _ c.self.view_is c.next_in_turn.ensures.place c.in_err-due.was))

pub returns-in_err-due-clause-after : goal.returns-in_err-due-clause-after
returns-in_err-due-clause-after c =
    ap (left_by c.args.self.now c.args.now) (sym (none_due _ c.args.self.now c.args.now _ c.self.view_is c.next_in_turn.ensures.place c.in_err-due.was))

pub emit_entry-requires-clause-first : goal.emit_entry-requires-clause-first
emit_entry-requires-clause-first c =
    (first_due_sent _ c.args.self.now c.args.now c.in_ok-due.due _ _ c.in-To.mac c.self.view_is c.next_in_turn.ensures.place c.next_in_turn.ensures.due c.in_ok-due.was c.way.ensures c.in-To.is).first

pub emit_entry-requires-clause-due : goal.emit_entry-requires-clause-due
emit_entry-requires-clause-due c =
    (first_due_sent _ c.args.self.now c.args.now c.in_ok-due.due _ _ c.in-To.mac c.self.view_is c.next_in_turn.ensures.place c.next_in_turn.ensures.due c.in_ok-due.was c.way.ensures c.in-To.is).there

pub returns-in-To-clause-answer : goal.returns-in-To-clause-answer
returns-in-To-clause-answer c =
    c.emit_entry.ensures.len
    ∙ ap (len_of c.args.self.now c.args.now)
    (sym (first_due_sent _ c.args.self.now c.args.now c.in_ok-due.due _ _ c.in-To.mac c.self.view_is c.next_in_turn.ensures.place c.next_in_turn.ensures.due c.in_ok-due.was c.way.ensures c.in-To.is).what)

pub returns-in-To-clause-after : goal.returns-in-To-clause-after
returns-in-To-clause-after c =
    c.emit_entry.ensures.after
    ∙ ap (left_by c.args.self.now c.args.now)
    (sym (first_due_sent _ c.args.self.now c.args.now c.in_ok-due.due _ _ c.in-To.mac c.self.view_is c.next_in_turn.ensures.place c.next_in_turn.ensures.due c.in_ok-due.was c.way.ensures c.in-To.is).what)

pub returns-in-To-clause-frame : goal.returns-in-To-clause-frame
returns-in-To-clause-frame c =
    c.emit_entry.ensures.frame
    ∙ ap (λ (e : Emission). octets_of c.args.self.now c.args.now e ++ drop c.emit_entry.result c.args.out.now)
    (sym (first_due_sent _ c.args.self.now c.args.now c.in_ok-due.due _ _ c.in-To.mac c.self.view_is c.next_in_turn.ensures.place c.next_in_turn.ensures.due c.in_ok-due.was c.way.ensures c.in-To.is).what)
