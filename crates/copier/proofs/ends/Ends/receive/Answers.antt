use Rattle.std.proofs.Common.{Ok, length, take, arith, sym, ◌∙◌, ap}
use Rattle.std.proofs.lemmas.List.{length-take}
use Rattle.host.specs.HostView.{HostView}
use Rattle.copier.specs.declared.ends.Ends.{Ends}
use Rattle.copier.proofs.Moving.{reads-octets, reads-end}
use Rattle.copier.proofs.ends.Ends.receive.Goals as goal

pub returns-in-Ok-Octets-clause-reads : goal.returns-in-Ok-Octets-clause-reads
returns-in-Ok-Octets-clause-reads c =
    let e : Ends = c.args.self.now in
    let front = rw c.in-Ok-Octets.field-0-is at c.in-Ok-Octets.ensures.front in
    let short = length-take c.in-Ok-Octets.count c.read.new.buffer in
    let kept = c.read.auto.buffer in
    let few = front.0 in (
      few,
      reads-octets e _ c.in-Some.id (length c.args.buffer.now) c.in-Ok-Octets.count (take c.in-Ok-Octets.count c.read.new.buffer) c.sound.ensures.a c.sound.ensures.b c.in-Some.is c.requires
          (omega (arith, short, kept)) front.1 (sym c.read.ensures.answer ∙ (c.in-Ok-Octets.is ∙ ap Ok c.in-Ok-Octets.field-0-is))
          (ap (λ (h : HostView). let x : Ends = record e { b = h } in x) c.in-Ok-Octets.ensures.ok),
    )

pub returns-in-Ok-EndOfStream-clause-reads : goal.returns-in-Ok-EndOfStream-clause-reads
returns-in-Ok-EndOfStream-clause-reads c =
    let e : Ends = c.args.self.now in
    reads-end e _ c.in-Some.id (length c.args.buffer.now) c.sound.ensures.a c.sound.ensures.b c.in-Some.is c.requires (sym c.read.ensures.answer ∙ (c.in-Ok-EndOfStream.is ∙ ap Ok c.in-Ok-EndOfStream.field-0-is))
    (ap (λ (h : HostView). let x : Ends = record e { b = h } in x) c.in-Ok-EndOfStream.ensures.ok)
