-- A frame goes into the link, or comes out of it.
use Rattle.std.proofs.Common.{◌≡◌, ℕ, suc, ◌+◌, ◌<◌, ◌≤◌, ◌^◌, ◌==◌, ◌&&◌, ◌||◌, inl, inr, min, Bool, true, false, List, [], ◌∷◌, ◌++◌, length, map, Option, Some, None, is_some, option_map, IfSome, Result, Ok, Err, arith, refl, sym, ◌∙◌, ap, subst}
use Rattle.std.specs.List.{find, slice_get}
use Rattle.std.specs.Global.{Vec}
use Rattle.std.proofs.lemmas.List.{length-append}
use Rattle.clock.specs.declared.moment.Moment.{Moment}
use Rattle.frames.specs.declared.drop.DropCause.{DropCause}
use Rattle.frames.specs.Pairs.{pair_in}
use Rattle.ipv4.specs.declared.addr.Pair.{Pair}
use Rattle.tcp_segment.specs.declared.seq.Seq.{Seq}
use Rattle.sockets.specs.declared.entry.SocketId.{SocketId}
use Rattle.sockets.specs.SocketsView.{SocketsView, holder_id}
use Rattle.host.specs.HostView.{HostView}
use Rattle.host.specs.Sound.{IsSoundHost}
use Rattle.host.specs.Arrival.{IsDelivered, foreseen}
use Rattle.host.specs.Emission.{emission_len, emission_octets, after_emission}
use Rattle.sides.specs.declared.side.Side.{Side}
use Rattle.sides.specs.declared.side.Side.TheVariants.{A, B}
use Rattle.wire_sim.specs.declared.event.Event.TheVariants as event
use Rattle.wire_sim.specs.declared.event.Answer.{Answer}
use Rattle.wire_sim.specs.declared.event.Answer.TheVariants as reply
use Rattle.wire_sim.specs.declared.event.Opening.{Opening}
use Rattle.wire_sim.specs.declared.event.Happening.{Happening}
use Rattle.wire_sim.specs.declared.world.bag.Frame.{Frame}
use Rattle.wire_sim.specs.declared.world.bag.Note.{Note}
use Rattle.wire_sim.specs.Fairness.{IsRecent, IsUnopened}
use Rattle.wire_sim.specs.Openings.{epoch_of, held_anew, opened_by_frame}
use Rattle.wire_sim.specs.Runs.{written_len, unfair}
use Rattle.sides.specs.Sides.{same_side, other_side}
use Rattle.wire_sim.specs.Steps.{note_of, with_opening, after_delivery, MeetsFrame, DeliversFrame}
use Rattle.wire_sim.specs.Tallies.{same_pair, is_opening_of, written_by}
use Rattle.wire_sim.specs.Trace.{sent_on, of_opening}
use Rattle.wire_sim.specs.WorldView.{NetworkView}
use Rattle.wire_sim.proofs.fairness.FairIsUnrefused.{unrefused}
use Rattle.wire_sim.proofs.fairness.NotesAreTraced.{notes-traced}
use Rattle.wire_sim.proofs.lists.FoundAfterChange.{find-added_none}
use Rattle.wire_sim.proofs.runs.RunsAreLawful.{run_tallied}
use Rattle.wire_sim.proofs.told.TraceAndOneMore.{quiet-emit, quiet-deliver}
use Rattle.devices.specs.Passages.{Passage, taken, given, frames_taken, MayGive}
use Rattle.copy_law.specs.CopyView.{CopyView, host_at, with_host_at}
use Rattle.copy_law.specs.Course.{most_held, Goes, OpensOnce, after_hearing, holds_some, holds_pair_of}
use Rattle.copy_law.specs.Course as course
use Rattle.copy_law.proofs.Vectors.{held}
use Rattle.copy_law.proofs.Counts.{written_by-opened, epoch_of-opened, slice_get-mapped, slice_get-more, map-more}
use Rattle.copy_law.proofs.Standing.{Stands, AreCarried, IsRecentNote, frame_of, network_of, world_of, reached-more, told-still}
use Rattle.copy_law.proofs.Calling.{stands-written, stands-closed, stands-accepted, stands-read, stands-ended, stands-ticked}

-- The passages.

pub frames_taken-taken : (told : List Passage) (from : Side) (frame : List ℕ) → frames_taken (told ++ taken from frame ∷ []) ≡ frames_taken told ++ (from, frame) ∷ []
frames_taken-taken [] from frame = refl
frames_taken-taken (taken s f ∷ told) from frame = ap (λ l. (s, f) ∷ l) (frames_taken-taken told from frame)
frames_taken-taken (given s f ∷ told) from frame = frames_taken-taken told from frame

pub frames_taken-given : (told : List Passage) (to : Side) (frame : List ℕ) → frames_taken (told ++ given to frame ∷ []) ≡ frames_taken told
frames_taken-given [] to frame = refl
frames_taken-given (taken s f ∷ told) to frame = ap (λ l. (s, f) ∷ l) (frames_taken-given told to frame)
frames_taken-given (given s f ∷ told) to frame = frames_taken-given told to frame

-- A frame goes out.

length-one_more : {X : Type 0} (xs : List X) (x : X) → length (xs ++ x ∷ []) ≡ length xs + 1
length-one_more xs x = length-append xs (x ∷ [])

-- the note of a frame that goes out is recent, and those before stay so
carried-more : (told : List Passage) (allowance : ℕ) (opened : Bool) (n : NetworkView) (f : Frame) → f.note ≡ option_map (note_of n) (pair_in f.octets.items)
    → AreCarried told allowance opened n.frames n.openings n.written
    → AreCarried (told ++ taken f.sender f.octets.items ∷ []) (min (allowance + 1460) most_held) opened (n.frames ++ f ∷ []) n.openings n.written
carried-more told allowance opened n f noted c = record {
  frames_are = map-more frame_of n.frames f ∙ (ap (λ l. l ++ frame_of f ∷ []) c.frames_are ∙ sym (frames_taken-taken told f.sender f.octets.items));
  counts = c.counts;
  within = omega arith;
  unopened = c.unopened;
  noted = λ k g note at is. elim (slice_get-more n.frames f g k at) [
    | inl before ↦ older k note (c.noted k g note before is)
    | inr last ↦ newest k note last.1 (pair_in f.octets.items) (sym (ap (λ (x : Frame). x.note) last.0 ∙ noted) ∙ is)
  ];
}
  where
    older : (k : ℕ) (note : Note) → IsRecentNote n.openings n.written allowance (length n.frames) k note
        → IsRecentNote n.openings n.written (min (allowance + 1460) most_held) (length (n.frames ++ f ∷ [])) k note
    older k note r =
        let long = length-one_more n.frames f in
        let before = r.recent in
        record { epoch = r.epoch; recent = omega (arith, before, long) }

    newest : (k : ℕ) (note : Note) → k ≡ length n.frames → (o : Option Pair) → option_map (note_of n) o ≡ Some note → IsRecentNote n.openings n.written (min (allowance + 1460) most_held) (length (n.frames ++ f ∷ [])) k note
    newest k note at None is = cc
    newest k note at (Some pair) is =
        let same : note_of n pair ≡ note = (let e : Some (note_of n pair) ≡ Some note = is in cc) in
        let long = length-one_more n.frames f in
        subst (λ (x : Note). IsRecentNote n.openings n.written (min (allowance + 1460) most_held) (length (n.frames ++ f ∷ [])) k x) same
        (record { epoch = refl; recent = omega (arith, long, at) })

pub stands-emitted : (v : CopyView) → Stands v → IsSoundHost v.a → IsSoundHost v.b → (from : Side) (len : ℕ) → length (emission_octets (host_at v from) v.clock) ≤ 1514 → emission_len (host_at v from) v.clock ≡ Some len
    → Stands (let w = with_host_at v from (after_emission (host_at v from) v.clock) in record w { allowance = min (v.allowance + 1460) most_held; told = v.told ++ taken from (emission_octets (host_at v from) v.clock) ∷ [] })
stands-emitted v s sound_a sound_b A len short due =
    let w = world_of v.a v.b v.clock s.frames s.openings s.written s.trace in
    let x : Vec ℕ = held (emission_octets v.a v.clock) (omega (arith, short)) in
    let f : Frame = record { sender = A; octets = x; note = option_map (note_of w.network) (pair_in x.items) } in
    let h : Happening = record { event = event.Emit A; answer = reply.Frame (length s.frames) len } in
    record {
      frames = s.frames ++ f ∷ [];
      openings = s.openings;
      written = s.written;
      trace = s.trace ++ h ∷ [];
      reached = reached-more w (network_of (after_emission v.a v.clock) v.b v.clock (s.frames ++ f ∷ []) s.openings s.written) (event.Emit A) (reply.Frame (length s.frames) len) s.reached refl tt sound_a sound_b
          (record { due = due; place = refl; frame = f; sender = refl; octets = refl; note = refl; after = refl });
      carried = carried-more v.told v.allowance v.opened w.network f refl s.carried;
      tells = told-still s.trace h v.sender v.receiver v.sent v.read v.closed v.ended (λ side id. quiet-emit A (reply.Frame (length s.frames) len) side id) s.tells;
    }
stands-emitted v s sound_a sound_b B len short due =
    let w = world_of v.a v.b v.clock s.frames s.openings s.written s.trace in
    let x : Vec ℕ = held (emission_octets v.b v.clock) (omega (arith, short)) in
    let f : Frame = record { sender = B; octets = x; note = option_map (note_of w.network) (pair_in x.items) } in
    let h : Happening = record { event = event.Emit B; answer = reply.Frame (length s.frames) len } in
    record {
      frames = s.frames ++ f ∷ [];
      openings = s.openings;
      written = s.written;
      trace = s.trace ++ h ∷ [];
      reached = reached-more w (network_of v.a (after_emission v.b v.clock) v.clock (s.frames ++ f ∷ []) s.openings s.written) (event.Emit B) (reply.Frame (length s.frames) len) s.reached refl tt sound_a sound_b
          (record { due = due; place = refl; frame = f; sender = refl; octets = refl; note = refl; after = refl });
      carried = carried-more v.told v.allowance v.opened w.network f refl s.carried;
      tells = told-still s.trace h v.sender v.receiver v.sent v.read v.closed v.ended (λ side id. quiet-emit B (reply.Frame (length s.frames) len) side id) s.tells;
    }

-- A frame comes out.

-- the frame that the link gave is one of the network, and so is fair
pub record Delivers (v : CopyView) (s : Stands v) (to : Side) (frame : List ℕ) : Type 0 where
  pub place : ℕ
  pub f : Frame
  pub at : slice_get s.frames place ≡ Some f
  pub sender : f.sender ≡ other_side to
  pub octets : f.octets.items ≡ frame
  pub recent : length s.frames ≤ place + 1 + 700000

length-mapped : {X Y : Type 0} (f : X → Y) (xs : List X) → length (map f xs) ≡ length xs
length-mapped f [] = refl
length-mapped f (x ∷ xs) = ap suc (length-mapped f xs)

delivers : (v : CopyView) (s : Stands v) (to : Side) (frame : List ℕ) → MayGive v.told to frame → Delivers v s to frame
delivers v s to frame may =
    let k = slice_get-mapped frame_of s.frames may.place (other_side to, frame) (ap (λ l. slice_get l may.place) s.carried.frames_are ∙ may.frame_there) in
    let long : length s.frames ≡ length (frames_taken v.told) = sym (length-mapped frame_of s.frames) ∙ ap (length {A = Side × List ℕ}) s.carried.frames_are in
    let few = may.recent in
    record {
      place = may.place;
      f = k.0;
      at = k.1;
      sender = ap (λ (p : Side × List ℕ). p.0) k.2;
      octets = ap (λ (p : Side × List ℕ). p.1) k.2;
      recent = omega (arith, long, few);
    }

-- b wrote nothing
nothing-back : (v : CopyView) (s : Stands v) (pair : Pair) (epoch : ℕ) → written_len (world_of v.a v.b v.clock s.frames s.openings s.written s.trace) B pair epoch ≡ 0
nothing-back v s pair epoch = of_found (find (is_opening_of B pair epoch) s.openings)
  where
    of_found : (o : Option Opening) → length (of_opening [] (λ o. sent_on B o.id s.trace) o) ≡ 0
    of_found None = refl
    of_found (Some o) = ap (length {A = ℕ}) (s.tells.none_back o.id)

-- its note is of this epoch, and recent
timely : (v : CopyView) (s : Stands v) (to : Side) (frame : List ℕ) (d : Delivers v s to frame) (note : Note) → d.f.note ≡ Some note
    → (epoch_of s.openings note.pair ≡ note.epoch) × IsRecent (2 ^ 30) (written_len (world_of v.a v.b v.clock s.frames s.openings s.written s.trace)) note
timely v s to frame d note is =
    let w = world_of v.a v.b v.clock s.frames s.openings s.written s.trace in
    let r = s.carried.noted d.place d.f note d.at is in
    let told : written_by s.openings s.written A note.pair note.epoch ≡ written_len w A note.pair note.epoch = run_tallied (2 ^ 30) w s.reached A note.pair note.epoch in
    let recent = r.recent in
    let few = d.recent in
    let none = nothing-back v s note.pair note.epoch in
    (r.epoch, record { at_a = omega (arith, recent, few, told); at_b = omega (arith, none) })

-- it opens no pair a second time
once : (v : CopyView) (s : Stands v) (to : Side) (frame octets : List ℕ) → octets ≡ frame → OpensOnce v to frame
    → IfSome (foreseen (host_at v to) octets) (λ pair. IsUnopened s.openings to pair (epoch_of s.openings pair))
once v s A frame octets same none = subst (λ (o : Option Pair). IfSome o (λ pair. IsUnopened s.openings A pair (epoch_of s.openings pair))) (sym (ap (foreseen v.a) same ∙ none)) tt
once v s B frame octets same (inr none) = subst (λ (o : Option Pair). IfSome o (λ pair. IsUnopened s.openings B pair (epoch_of s.openings pair))) (sym (ap (foreseen v.b) same ∙ none)) tt
once v s B frame octets same (inl fresh) = of_seen (foreseen v.b octets)
  where
    of_seen : (o : Option Pair) → IfSome o (λ pair. IsUnopened s.openings B pair (epoch_of s.openings pair))
    of_seen None = tt
    of_seen (Some pair) = s.carried.unopened fresh pair (epoch_of s.openings pair)

of_note : {P Q : Note → Type 0} (o : Option Note) → ((note : Note) → o ≡ Some note → P note × Q note) → IfSome o P × IfSome o Q
of_note None all = (tt, tt)
of_note (Some note) all = all note refl

fair : (v : CopyView) (s : Stands v) (to : Side) (frame : List ℕ) (isn : Seq) (d : Delivers v s to frame) → OpensOnce v to frame
    → unfair (world_of v.a v.b v.clock s.frames s.openings s.written s.trace) (event.Deliver to d.place isn) ≡ None
fair v s A frame isn d once_only =
    let w = world_of v.a v.b v.clock s.frames s.openings s.written s.trace in
    let t = of_note {P = λ note. epoch_of s.openings note.pair ≡ note.epoch} {Q = IsRecent (2 ^ 30) (written_len w)} d.f.note (timely v s A frame d) in
    (unrefused w (event.Deliver A d.place isn)).1 (d.f, d.at, record { sender = d.sender; epoch = t.0; recent = t.1; once = once v s A frame d.f.octets.items d.octets once_only })
fair v s B frame isn d once_only =
    let w = world_of v.a v.b v.clock s.frames s.openings s.written s.trace in
    let t = of_note {P = λ note. epoch_of s.openings note.pair ≡ note.epoch} {Q = IsRecent (2 ^ 30) (written_len w)} d.f.note (timely v s B frame d) in
    (unrefused w (event.Deliver B d.place isn)).1 (d.f, d.at, record { sender = d.sender; epoch = t.0; recent = t.1; once = once v s B frame d.f.octets.items d.octets once_only })

-- What a frame opens.

pub data OpensBy (openings : List Opening) (side : Side) (place : ℕ) (pair : Pair) (old new : SocketsView) : Type 0 where
  opens_none : opened_by_frame openings side place pair old new ≡ None → OpensBy openings side place pair old new
  opens_one : (id : SocketId) → opened_by_frame openings side place pair old new ≡ Some (record { side = side; pair = pair; epoch = epoch_of openings pair; id = id; place = place })
      → holder_id new pair ≡ Some id → OpensBy openings side place pair old new

opens-by : (openings : List Opening) (side : Side) (place : ℕ) (pair : Pair) (old new : SocketsView) → OpensBy openings side place pair old new
opens-by openings side place pair old new = by_holders (holder_id old pair) (holder_id new pair) refl refl
  where
    by_holders : (before after : Option SocketId) → holder_id old pair ≡ before → holder_id new pair ≡ after → OpensBy openings side place pair old new
    by_holders (Some x) after had has = opens_none (ap (λ b. held_anew openings side place pair b (holder_id new pair)) had)
    by_holders None None had has = opens_none (ap (λ b. held_anew openings side place pair b (holder_id new pair)) had ∙ ap (held_anew openings side place pair None) has)
    by_holders None (Some id) had has = opens_one id (ap (λ b. held_anew openings side place pair b (holder_id new pair)) had ∙ ap (held_anew openings side place pair None) has) has

-- nothing was opened
carried-same : (told : List Passage) (allowance : ℕ) (opened opened' : Bool) (frames : List Frame) (openings : List Opening) (written : List ℕ) (to : Side) (frame : List ℕ) → (opened' ≡ false → opened ≡ false)
    → AreCarried told allowance opened frames openings written → AreCarried (told ++ given to frame ∷ []) allowance opened' frames openings written
carried-same told allowance opened opened' frames openings written to frame still c = record {
  frames_are = c.frames_are ∙ sym (frames_taken-given told to frame);
  counts = c.counts;
  within = c.within;
  unopened = λ e. c.unopened (still e);
  noted = c.noted;
}

-- a pair was opened, in its epoch
carried-opened : (told : List Passage) (allowance : ℕ) (opened opened' : Bool) (frames : List Frame) (openings : List Opening) (written : List ℕ) (o : Opening) (to : Side) (frame : List ℕ) → o.epoch ≡ epoch_of openings o.pair
    → (opened' ≡ false → (pair : Pair) (epoch : ℕ) → find (is_opening_of B pair epoch) (openings ++ o ∷ []) ≡ None)
    → AreCarried told allowance opened frames openings written → AreCarried (told ++ given to frame ∷ []) allowance opened' frames (openings ++ o ∷ []) (written ++ 0 ∷ [])
carried-opened told allowance opened opened' frames openings written o to frame epoch free c = record {
  frames_are = c.frames_are ∙ sym (frames_taken-given told to frame);
  counts = length-one_more written 0 ∙ (ap (λ n. n + 1) c.counts ∙ sym (length-one_more openings o));
  within = c.within;
  unopened = free;
  noted = λ k f note at is. (
      let r = c.noted k f note at is in
      let before = r.recent in
      let same = written_by-opened openings written o A note.pair note.epoch c.counts in
      record { epoch = epoch_of-opened openings o note.pair epoch ∙ r.epoch; recent = omega (arith, before, same) });
}

-- the host took the frame or dropped it
meets : (h : HostView) (now : Moment) (isn : ℕ) (octets frame : List ℕ) (outcome : Result (Unit {0}) DropCause) (new : HostView) → octets ≡ frame → IsDelivered h now isn frame outcome new → (answer : Answer) × MeetsFrame h now isn octets answer new
meets h now isn octets frame (Ok done) new same delivered = (reply.Taken, subst (λ f. IsDelivered h now isn f (Ok tt) new) (sym same) delivered)
meets h now isn octets frame (Err cause) new same delivered = (reply.Dropped cause, subst (λ f. IsDelivered h now isn f (Err cause) new) (sym same) delivered)

heard : (v : CopyView) (s : Stands v) → IsSoundHost v.a → IsSoundHost v.b → (to : Side) (isn : Seq) (frame : List ℕ) → isn.0 < 2 ^ 32 → (d : Delivers v s to frame) → OpensOnce v to frame
    → (answer : Answer) (a b : HostView) (opened : Bool) (openings : List Opening) (written : List ℕ)
    → DeliversFrame to isn.0 (length s.trace) answer (network_of v.a v.b v.clock s.frames s.openings s.written) (network_of a b v.clock s.frames openings written) (Some d.f)
    → AreCarried (v.told ++ given to frame ∷ []) v.allowance opened s.frames openings written → Stands (record v { a = a; b = b; opened = opened; told = v.told ++ given to frame ∷ [] })
heard v s sound_a sound_b to isn frame numbered d once_only answer a b opened openings written step carried =
    let w = world_of v.a v.b v.clock s.frames s.openings s.written s.trace in
    let h : Happening = record { event = event.Deliver to d.place isn; answer = answer } in
    record {
      frames = s.frames;
      openings = openings;
      written = written;
      trace = s.trace ++ h ∷ [];
      reached = reached-more w (network_of a b v.clock s.frames openings written) (event.Deliver to d.place isn) answer s.reached (fair v s to frame isn d once_only) numbered sound_a sound_b
          (subst (λ (o : Option Frame). DeliversFrame to isn.0 (length s.trace) answer w.network (network_of a b v.clock s.frames openings written) o) (sym d.at) step);
      carried = carried;
      tells = told-still s.trace h v.sender v.receiver v.sent v.read v.closed v.ended (λ side id. quiet-deliver to d.place isn answer side id) s.tells;
    }

-- an opening of a is none of b
elsewhere : (o : Opening) (pair : Pair) (epoch : ℕ) → o.side ≡ A → is_opening_of B pair epoch o ≡ false
elsewhere o pair epoch is = ap (λ s. same_side s B && same_pair o.pair pair && (o.epoch == epoch)) is

-- b had held nothing if it has not after this frame
not_before : (x y : Bool) → (x || y) ≡ false → x ≡ false
not_before true y e = e
not_before false y e = refl

not_now : (x y : Bool) → (x || y) ≡ false → y ≡ true → ⊥
not_now true y e is = (let bad : true ≡ false = e in cc)
not_now false y e is = (let bad : true ≡ false = sym is ∙ e in cc)

-- the pair of a frame's note is the one of its segment
pair_noted : (v : CopyView) (s : Stands v) (to : Side) (frame : List ℕ) (d : Delivers v s to frame) (note : Note) → d.f.note ≡ Some note → pair_in frame ≡ Some note.pair
pair_noted v s to frame d note is =
    let t = notes-traced (2 ^ 30) (world_of v.a v.b v.clock s.frames s.openings s.written s.trace) s.reached d.place d.f d.at in
    ap pair_in (sym d.octets) ∙ (sym t.pair ∙ ap (option_map (λ (n : Note). n.pair)) is)

pub stands-heard : (v : CopyView) → Stands v → IsSoundHost v.a → IsSoundHost v.b → (to : Side) (isn : Seq) (frame : List ℕ) (outcome : Result (Unit {0}) DropCause) (h : HostView) → isn.0 < 2 ^ 32 → MayGive v.told to frame → OpensOnce v to frame
    → IsDelivered (host_at v to) v.clock isn.0 frame outcome h → Stands (after_hearing v to frame h)
stands-heard v s sound_a sound_b A isn frame outcome h numbered may once_only delivered = by_note d.f.note refl
  where
    n : NetworkView
    n = network_of v.a v.b v.clock s.frames s.openings s.written

    d : Delivers v s A frame
    d = delivers v s A frame may

    m : (answer : Answer) × MeetsFrame v.a v.clock isn.0 d.f.octets.items answer h
    m = meets v.a v.clock isn.0 d.f.octets.items frame outcome h d.octets delivered

    same : (o : Option Note) → d.f.note ≡ o → after_delivery A (length s.trace) o n h ≡ network_of h v.b v.clock s.frames s.openings s.written → Stands (after_hearing v A frame h)
    same o is none = heard v s sound_a sound_b A isn frame numbered d once_only m.0 h v.b v.opened s.openings s.written
        (m.1, sym none ∙ ap (λ x. after_delivery A (length s.trace) x n h) (sym is))
        (carried-same v.told v.allowance v.opened v.opened s.frames s.openings s.written A frame (λ e. e) s.carried)

    opened : (note : Note) → d.f.note ≡ Some note → (o : Opening) → o.epoch ≡ epoch_of s.openings o.pair → o.side ≡ A
        → opened_by_frame s.openings A (length s.trace) note.pair v.a.sockets h.sockets ≡ Some o → Stands (after_hearing v A frame h)
    opened note is o epoch side one = heard v s sound_a sound_b A isn frame numbered d once_only m.0 h v.b v.opened (s.openings ++ o ∷ []) (s.written ++ 0 ∷ [])
        (m.1, sym (ap (with_opening (network_of h v.b v.clock s.frames s.openings s.written)) one) ∙ ap (λ x. after_delivery A (length s.trace) x n h) (sym is))
        (carried-opened v.told v.allowance v.opened v.opened s.frames s.openings s.written o A frame epoch
        (λ e pair epoch. find-added_none (is_opening_of B pair epoch) s.openings o (elsewhere o pair epoch side) ∙ s.carried.unopened e pair epoch) s.carried)

    by_note : (o : Option Note) → d.f.note ≡ o → Stands (after_hearing v A frame h)
    by_note None is = same None is refl
    by_note (Some note) is = elim (opens-by s.openings A (length s.trace) note.pair v.a.sockets h.sockets) [
      | opens_none none ↦ same (Some note) is (ap (with_opening (network_of h v.b v.clock s.frames s.openings s.written)) none)
      | opens_one id one has ↦ opened note is (record { side = A; pair = note.pair; epoch = epoch_of s.openings note.pair; id = id; place = length s.trace }) refl refl one
    ]
stands-heard v s sound_a sound_b B isn frame outcome h numbered may once_only delivered = by_note d.f.note refl
  where
    n : NetworkView
    n = network_of v.a v.b v.clock s.frames s.openings s.written

    d : Delivers v s B frame
    d = delivers v s B frame may

    m : (answer : Answer) × MeetsFrame v.b v.clock isn.0 d.f.octets.items answer h
    m = meets v.b v.clock isn.0 d.f.octets.items frame outcome h d.octets delivered

    same : (o : Option Note) → d.f.note ≡ o → after_delivery B (length s.trace) o n h ≡ network_of v.a h v.clock s.frames s.openings s.written → Stands (after_hearing v B frame h)
    same o is none = heard v s sound_a sound_b B isn frame numbered d once_only m.0 v.a h (v.opened || holds_pair_of h frame) s.openings s.written
        (m.1, sym none ∙ ap (λ x. after_delivery B (length s.trace) x n h) (sym is))
        (carried-same v.told v.allowance v.opened (v.opened || holds_pair_of h frame) s.frames s.openings s.written B frame (not_before v.opened (holds_pair_of h frame)) s.carried)

    opened : (note : Note) → d.f.note ≡ Some note → (o : Opening) → o.epoch ≡ epoch_of s.openings o.pair → holds_pair_of h frame ≡ true
        → opened_by_frame s.openings B (length s.trace) note.pair v.b.sockets h.sockets ≡ Some o → Stands (after_hearing v B frame h)
    opened note is o epoch holds one = heard v s sound_a sound_b B isn frame numbered d once_only m.0 v.a h (v.opened || holds_pair_of h frame) (s.openings ++ o ∷ []) (s.written ++ 0 ∷ [])
        (m.1, sym (ap (with_opening (network_of v.a h v.clock s.frames s.openings s.written)) one) ∙ ap (λ x. after_delivery B (length s.trace) x n h) (sym is))
        (carried-opened v.told v.allowance v.opened (v.opened || holds_pair_of h frame) s.frames s.openings s.written o B frame epoch (λ e pair epoch. absurd (not_now v.opened (holds_pair_of h frame) e holds)) s.carried)

    by_note : (o : Option Note) → d.f.note ≡ o → Stands (after_hearing v B frame h)
    by_note None is = same None is refl
    by_note (Some note) is = elim (opens-by s.openings B (length s.trace) note.pair v.b.sockets h.sockets) [
      | opens_none none ↦ same (Some note) is (ap (with_opening (network_of v.a h v.clock s.frames s.openings s.written)) none)
      | opens_one id one has ↦
          opened note is (record { side = B; pair = note.pair; epoch = epoch_of s.openings note.pair; id = id; place = length s.trace }) refl
          (ap (holds_some h) (pair_noted v s B frame d note is) ∙ ap is_some has) one
    ]

-- a frame is passed over
pub stands-passed : (v : CopyView) → Stands v → (to : Side) (frame : List ℕ) → Stands (record v { told = v.told ++ given to frame ∷ [] })
stands-passed v s to frame = record {
  frames = s.frames;
  openings = s.openings;
  written = s.written;
  trace = s.trace;
  reached = s.reached;
  carried = carried-same v.told v.allowance v.opened v.opened s.frames s.openings s.written to frame (λ e. e) s.carried;
  tells = s.tells;
}

-- Every event.
pub stands-next : (old new : CopyView) → Stands old → IsSoundHost old.a → IsSoundHost old.b → Goes old new → Stands new
stands-next old new s sound_a sound_b (course.writes octets count allowed few told is) = subst Stands (sym is) (stands-written old s sound_a sound_b octets count allowed few told)
stands-next old new s sound_a sound_b (course.closes may is) = subst Stands (sym is) (stands-closed old s sound_a sound_b may)
stands-next old new s sound_a sound_b (course.emits from len short due is) = subst Stands (sym is) (stands-emitted old s sound_a sound_b from len short due)
stands-next old new s sound_a sound_b (course.hears to isn frame outcome h numbered may once_only delivered is) = subst Stands (sym is) (stands-heard old s sound_a sound_b to isn frame outcome h numbered may once_only delivered)
stands-next old new s sound_a sound_b (course.passes_over to frame is) = subst Stands (sym is) (stands-passed old s to frame)
stands-next old new s sound_a sound_b (course.accepts listener id peer none told is) = subst Stands (sym is) (stands-accepted old s sound_a sound_b listener id peer none told)
stands-next old new s sound_a sound_b (course.reads id len count octets reader few short are told is) = subst Stands (sym is) (stands-read old s sound_a sound_b id len count octets reader few short are told)
stands-next old new s sound_a sound_b (course.ends id len reader few told is) = subst Stands (sym is) (stands-ended old s sound_a sound_b id len reader few told)
stands-next old new s sound_a sound_b (course.ticks moment sound_next is) = subst Stands (sym is) (stands-ticked old s sound_a sound_b moment sound_next)
