-- What an entry has due is behind the place of the two heads before they are written.
use Rattle.std.proofs.Common.{◌≡◌, ◌++◌, ℕ, Bool, List, Some, drop, arith, sym, subst, ◌∙◌, ap}
use Rattle.ipv4.specs.declared.addr.Addr.{Addr}
use Rattle.sockets.specs.declared.emission.Emitted.{Emitted}
use Rattle.sockets.specs.declared.emission.Emitted.TheVariants.{Segment, Datagram}
use Rattle.sockets.specs.Emission.{IsWithin, IsNextAt}
use Rattle.sockets.specs.Entries.{IsDueAt}
use Rattle.host.specs.HostView.{HostView}
use Rattle.host.specs.Emission.{Sends, goes_out_from, octets_of}
use Rattle.host.proofs.Emitting.{framed_out}
use Rattle.host.proofs.layers.Layers.emit_entry.Goals.{in-Segment, in-Datagram}
use Rattle.host.proofs.layers.Layers.emit_entry.Goals as goal

pub emit_at-requires-clause-due : goal.emit_at-requires-clause-due
emit_at-requires-clause-due c =
    subst (λ (g : HostView). IsDueAt g.sockets.entries c.args.place c.args.outgoing) (sym c.self.view_is) c.requires.due

pub returns-clause-frame : goal.returns-clause-frame
returns-clause-frame c =
    let h : HostView = record { interface = c.self.inside.interface; sockets = c.self.inside.sockets; pool = c.self.inside.pool; lately = c.self.inside.lately } in
    let goes : Addr → Bool = goes_out_from h c.args.now in
    let first : IsNextAt h.sockets goes c.args.place c.args.outgoing =
    subst (λ (g : HostView). IsNextAt g.sockets (goes_out_from g c.args.now) c.args.place c.args.outgoing) (sym c.self.view_is) c.requires.first in
    let out : List ℕ = c.args.out.now in
    let here : c.match-emit_at.out ≡ octets_of h c.args.now (Sends c.args.mac c.args.to) ++ drop c.match-emit_at.result out = elim c.match-emit_at.branch [
      | in-Segment w ↦
          let what : Emitted = Segment w.in-Segment.len in
          let fits : IsWithin what = subst IsWithin w.in-Segment.is c.emit_at.ensures.bound in
          w.out-is
          ∙ framed_out h goes c.args.mac c.args.to out c.emit_at.new.out w.emit_segment.new.out what w.emit_segment.result c.told-out (ap Some (sym w.in-Segment.is) ∙ c.emit_at.ensures.what goes first)
          (c.emit_at.ensures.frame goes first) fits (omega (arith, w.emit_segment.ensures.len)) w.emit_segment.ensures.octets
          ∙ ap (λ (n : ℕ). octets_of h c.args.now (Sends c.args.mac c.args.to) ++ drop n out) (sym w.result-is)
      | in-Datagram w ↦
          let what : Emitted = Datagram w.in-Datagram.part in
          let fits : IsWithin what = subst IsWithin w.in-Datagram.is c.emit_at.ensures.bound in
          w.out-is
          ∙ framed_out h goes c.args.mac c.args.to out c.emit_at.new.out w.emit_part.new.out what w.emit_part.result c.told-out (ap Some (sym w.in-Datagram.is) ∙ c.emit_at.ensures.what goes first)
          (c.emit_at.ensures.frame goes first) fits.0 (omega (arith, w.emit_part.ensures.len)) w.emit_part.ensures.octets
          ∙ ap (λ (n : ℕ). octets_of h c.args.now (Sends c.args.mac c.args.to) ++ drop n out) (sym w.result-is)
    ] in
    here ∙ ap (λ (g : HostView). octets_of g c.args.now (Sends c.args.mac c.args.to) ++ drop c.match-emit_at.result out) c.self.view_is
