-- A round by its stages, and where memory ran out those that were done.
use Rattle.std.proofs.Common.{Result, Ok, Err, refl, sym, subst}
use Rattle.std.specs.Result.{IfOk, OnOk, OnErr}
use Rattle.std.proofs.lemmas.Result.{IfOk-weaker}
use Rattle.sides.specs.Sides.{other_side}
use Rattle.wire_sim.specs.declared.event.Call.TheVariants as call
use Rattle.wire_sim.specs.declared.event.Event.TheVariants as event
use Rattle.wire_sim.specs.Rounds.{read_at_once, minute_of, IsBegun, at_minute_of_writer, at_minute_of_reader, at_bringing, at_answering, at_reading}
use Rattle.wire_sim.proofs.datagrams.RunsKeepDatagrams.{runs-keep}
use Rattle.wire_sim.proofs.progress.RoundsMove.{rounds-move}
use Rattle.wire_sim.proofs.rounds.RoundsAreRuns.{on_err}
use Rattle.wire_sim.proofs.rounds.RoundsHaveRoom.{receive-wants}
use Rattle.wire_sim.proofs.runs.RoomLasts.{keeps-all, keeps-on, full-at-first}
use Rattle.wire_sim.proofs.runs.FieldsAreReached.{lawful}
use Rattle.wire_sim.proofs.world.World.round.Goals as goal

-- what follows of what holds where a call failed
on_err-weaker : {T E : Type 0} (r : Result T E) (P Q : Type 0) → (P → Q) → OnErr r P → OnErr r Q
on_err-weaker (Ok x) P Q more holds = tt
on_err-weaker (Err e) P Q more holds = more holds

-- .. and of the value where it succeeded
on_ok-of : {T E : Type 0} (r : Result T E) (P : T → Type 0) (Q : Type 0) → ((x : T) → P x → Q) → IfOk r P → OnOk r Q
on_ok-of (Ok x) P Q more holds = more x holds
on_ok-of (Err e) P Q more holds = tt

pub returns-in_err-pass_minute-clause-stopped : goal.returns-in_err-pass_minute-clause-stopped
returns-in_err-pass_minute-clause-stopped c =
    let w = c.args.self.now in
    on_err c.from_residual.result _ (record {
      next = minute_of c.args.writer w.seen;
      begun = subst (IsBegun c.args.writer c.args.reader_id w.seen (minute_of c.args.writer w.seen)) (sym c.in_err-pass_minute.ensures.kept) at_minute_of_writer;
      memory = λ plain. full-at-first w.room w.room w.seen c.pass_minute.new.self.seen (keeps-all w.room) c.in_err-pass_minute.ensures.kept c.in_err-pass_minute.ensures.full;
    })

pub returns-in_err-pass_minute-2-clause-stopped : goal.returns-in_err-pass_minute-2-clause-stopped
returns-in_err-pass_minute-2-clause-stopped c =
    let w = c.args.self.now in
    let later = c.pass_minute.new.self in
    let next = minute_of (other_side c.args.writer) later.seen in
    on_err c.from_residual-in_err-pass_minute-2.result _ (record {
      next = next;
      begun = subst (IsBegun c.args.writer c.args.reader_id w.seen next) (sym c.in_err-pass_minute-2.ensures.kept) (at_minute_of_reader later.seen c.in_ok-pass_minute.ensures.passed);
      memory = λ plain. full-at-first w.room later.room later.seen c.pass_minute-2.new.self.seen c.pass_minute.ensures.room c.in_err-pass_minute-2.ensures.kept c.in_err-pass_minute-2.ensures.full;
    })

pub returns-in_err-carry-clause-stopped : goal.returns-in_err-carry-clause-stopped
returns-in_err-carry-clause-stopped c =
    let part = c.in_err-carry.ensures.begun in
    on_err c.from_residual-in_err-carry.result _ (record {
      next = part.0;
      begun = at_bringing _ _ _ part.0 c.in_ok-pass_minute.ensures.passed (rw c.other-reader.ensures at c.in_ok-pass_minute-2.ensures.passed) part.1;
      memory = λ plain. full-at-first c.args.self.now.room c.pass_minute-2.new.self.room c.carry.new.self.seen c.carry.new.self.seen
          (keeps-on c.pass_minute.ensures.room c.pass_minute-2.ensures.room) refl (part.2 plain);
    })

pub returns-in_err-carry-2-clause-stopped : goal.returns-in_err-carry-2-clause-stopped
returns-in_err-carry-2-clause-stopped c =
    let part = rw c.other-reader.ensures at c.in_err-carry-2.ensures.begun in
    on_err c.from_residual-in_err-carry-2.result _ (record {
      next = part.0;
      begun = at_answering _ _ _ _ part.0 c.in_ok-pass_minute.ensures.passed (rw c.other-reader.ensures at c.in_ok-pass_minute-2.ensures.passed) c.in_ok-carry.ensures.carried part.1;
      memory = λ plain. full-at-first c.args.self.now.room c.carry.new.self.room c.carry-2.new.self.seen c.carry-2.new.self.seen
          (keeps-on (keeps-on c.pass_minute.ensures.room c.pass_minute-2.ensures.room) c.carry.ensures.room) refl (part.2 plain);
    })

pub returns-clause-rounds : goal.returns-clause-rounds
returns-clause-rounds c =
    IfOk-weaker c.read_all.result _ _ (λ count reading. record {
      later = c.pass_minute.new.self.seen;
      ticked = c.pass_minute-2.new.self.seen;
      brought = c.carry.new.self.seen;
      answered = c.carry-2.new.self.seen;
      minute_of_writer = c.in_ok-pass_minute.ensures.passed;
      minute_of_reader = rw c.other-reader.ensures at c.in_ok-pass_minute-2.ensures.passed;
      bringing = c.in_ok-carry.ensures.carried;
      answering = rw c.other-reader.ensures at c.in_ok-carry-2.ensures.carried;
      reading = rw c.other-reader.ensures at reading;
    }) c.read_all.ensures.read

pub returns-clause-moves : goal.returns-clause-moves
returns-clause-moves c =
    on_ok-of c.read_all.result _ _ (λ count round writer_id v d may. rounds-move _ c.args.writer writer_id c.args.reader_id count v d c.args.self.now.seen _ c.pass_minute.ensures.before may round) (returns-clause-rounds c)

pub returns-clause-stopped : goal.returns-clause-stopped
returns-clause-stopped c =
    let id = c.args.reader_id in
    on_err-weaker c.read_all.result _ _ (λ received. record {
      next = event.Call (other_side c.args.writer) (call.Recv id read_at_once);
      begun = at_reading _ _ _ _ _ received.0 c.in_ok-pass_minute.ensures.passed (rw c.other-reader.ensures at c.in_ok-pass_minute-2.ensures.passed) c.in_ok-carry.ensures.carried
          (rw c.other-reader.ensures at c.in_ok-carry-2.ensures.carried) (rw c.other-reader.ensures at received.1);
      memory = receive-wants (other_side c.args.writer) id c.args.self.now c.read_all.new.self;
    }) c.read_all.ensures.begun

-- no stage leaves less room
pub returns-in_err-pass_minute-2-clause-room : goal.returns-in_err-pass_minute-2-clause-room
returns-in_err-pass_minute-2-clause-room c = keeps-on c.pass_minute.ensures.room c.pass_minute-2.ensures.room

pub returns-in_err-carry-clause-room : goal.returns-in_err-carry-clause-room
returns-in_err-carry-clause-room c = keeps-on (keeps-on c.pass_minute.ensures.room c.pass_minute-2.ensures.room) c.carry.ensures.room

pub returns-in_err-carry-2-clause-room : goal.returns-in_err-carry-2-clause-room
returns-in_err-carry-2-clause-room c = keeps-on (keeps-on (keeps-on c.pass_minute.ensures.room c.pass_minute-2.ensures.room) c.carry.ensures.room) c.carry-2.ensures.room

pub returns-clause-room : goal.returns-clause-room
returns-clause-room c =
    keeps-on (keeps-on (keeps-on (keeps-on c.pass_minute.ensures.room c.pass_minute-2.ensures.room) c.carry.ensures.room) c.carry-2.ensures.room) c.read_all.ensures.room

-- whatever was reached keeps both laws
pub returns-in_err-pass_minute-clause-lawful : goal.returns-in_err-pass_minute-clause-lawful
returns-in_err-pass_minute-clause-lawful c = lawful _ _ _ refl c.pass_minute.ensures.reached

pub returns-in_err-pass_minute-clause-datagrams : goal.returns-in_err-pass_minute-clause-datagrams
returns-in_err-pass_minute-clause-datagrams c = λ run. runs-keep _ _ run

pub returns-in_err-pass_minute-2-clause-lawful : goal.returns-in_err-pass_minute-2-clause-lawful
returns-in_err-pass_minute-2-clause-lawful c = lawful _ _ _ refl c.pass_minute-2.ensures.reached

pub returns-in_err-pass_minute-2-clause-datagrams : goal.returns-in_err-pass_minute-2-clause-datagrams
returns-in_err-pass_minute-2-clause-datagrams c = λ run. runs-keep _ _ run

pub returns-in_err-carry-clause-lawful : goal.returns-in_err-carry-clause-lawful
returns-in_err-carry-clause-lawful c = lawful _ _ _ refl c.in_err-carry.ensures.reached

pub returns-in_err-carry-clause-datagrams : goal.returns-in_err-carry-clause-datagrams
returns-in_err-carry-clause-datagrams c = λ run. runs-keep _ _ run

pub returns-in_err-carry-2-clause-lawful : goal.returns-in_err-carry-2-clause-lawful
returns-in_err-carry-2-clause-lawful c = lawful _ _ _ refl c.in_err-carry-2.ensures.reached

pub returns-in_err-carry-2-clause-datagrams : goal.returns-in_err-carry-2-clause-datagrams
returns-in_err-carry-2-clause-datagrams c = λ run. runs-keep _ _ run

pub returns-clause-lawful : goal.returns-clause-lawful
returns-clause-lawful c = lawful _ _ _ refl c.read_all.ensures.reached

pub returns-clause-datagrams : goal.returns-clause-datagrams
returns-clause-datagrams c = λ run. runs-keep _ _ run
