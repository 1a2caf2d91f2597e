-- The host at hand wrote the frame, and it was put behind the others.
use Rattle.std.proofs.Common.{◌≡◌, ◌∙◌, length, option_map, refl, ap, rules}
use Rattle.frames.specs.Pairs.{pair_in}
use Rattle.wire_sim.specs.Steps.{note_of}
use Rattle.sides.specs.declared.side.Side.TheVariants.{A, B}
use Rattle.wire_sim.specs.declared.world.bag.Frame.{Frame}
use Rattle.wire_sim.specs.WorldView.{network_view}
use Rattle.wire_sim.proofs.emission.EmittedFrame.{WroteFrame, wrote_frame, emits_frame}
use Rattle.wire_sim.proofs.world.network.Network.emit.Goals as goal
use Rattle.wire_sim.proofs.world.network.Network.emit.Goals.{in-A, in-B}

pub returns-clause-step : goal.returns-clause-step
returns-clause-step c =
    let frame : Frame = record { sender = c.args.side; octets = c.front-octets.result; note = c.note_of-note.result } in
    let wrote : WroteFrame c.args.side c.in-Some.len c.match-side.out (network_view c.args.self.now) (network_view c.match-side.self) =
    elim c.match-side.branch [
      | in-A w ↦
          let f = w.next_frame-emitted in
          wrote_frame A _ _ _ _ _ _ f.new.self _ _ w.in-A.is w.out-is w.emitted-is c.in-Some.is (ap network_view w.self-is) (record { answered = f.ensures.answer; bound = f.ensures.bound; front = f.ensures.front; whole = f.array_long; after = f.ensures.after })
      | in-B w ↦
          let f = w.next_frame-emitted-in-B in
          wrote_frame B _ _ _ _ _ _ f.new.self _ _ w.in-B.is w.out-is w.emitted-is c.in-Some.is (ap network_view w.self-is) (record { answered = f.ensures.answer; bound = f.ensures.bound; front = f.ensures.front; whole = f.array_long; after = f.ensures.after })
    ]
    in
    let place : c.len-index.result ≡ length c.match-side.self.bag.items = search rules in
    emits_frame c.args.side _ c.in-Some.len c.match-side.out (network_view c.args.self.now) (network_view c.match-side.self) frame _ wrote place refl c.front-octets.ensures (c.note_of-note.ensures ∙ ap (λ x. option_map (note_of (network_view c.match-side.self)) (pair_in x)) c.as_slice.ensures.value) c.push_reserved.ensures.items
