-- What the commands of a script print, command by command.
use Rattle.std.proofs.Common.{◌≡◌, ℕ, ◌+◌, ◌<◌, ◌⊎◌, inl, inr, List, [], ◌∷◌, ◌++◌, length, take, drop, get_or, Option, Some, None, append_assoc, append-nil, Result, Ok, Err, refl, ap, sym, subst, ◌∙◌, add-one, arith}
use Rattle.std.specs.Result.{OnErr}
use Rattle.std.proofs.Math.Seq.{take-suc}
use Rattle.std.proofs.lemmas.List.{take_more, take_more_set}
use Rattle.std.proofs.Math.ListN.{set, length-set}
use Rattle.tcp_segment.specs.declared.seq.Seq.{Seq}
use Rattle.sides.specs.declared.side.Side.{Side}
use Rattle.wire_sim.specs.declared.event.Event.TheVariants as event
use Rattle.wire_sim.specs.declared.event.Answer.{Answer}
use Rattle.wire_sim.specs.declared.event.Unfair.{Unfair}
use Rattle.wire_sim.specs.Runs.{IsOutcome}
use Rattle.wire_sim.specs.WorldView.{WorldView}
use Rattle.wire_sim.specs.declared.event.Answer.TheVariants.{Frame}
use Rattle.std.specs.Io.KnownBytes.{Keeps}
use Rattle.std.proofs.lemmas.List.{take-append-drop, drop_more}
use Rattle.script.specs.declared.lines.Command.{Command}
use Rattle.script.specs.declared.lines.Command.TheVariants.{At, Round, Pass}
use Rattle.commands.specs.declared.fault.TextFault.{TextFault}
use Rattle.commands.specs.declared.fault.TextFault.TheVariants.{Write, NoMemory}
use Rattle.devices.specs.Streams.{TakesFront}
use Rattle.commands.specs.Moved.{TakesAllBut}
use Rattle.devices.proofs.Moving.{Appends-more, Keeps-appends}
use Rattle.commands.specs.Play.{ComesTo, HasEmitted, goes_out, passes, starts, goes_on, Delivers, HasPrinted, Does, Prints, IsPlayed, IsLeftBefore, IsCutShort}

-- one frame more is delivered, behind all others
pub delivered_last : (to : Side) (isn : Seq) (frames : List ℕ) (index : ℕ) (told : Result Answer Unfair) (w m v : WorldView) → Delivers to isn frames w m →
    ComesTo (event.Deliver to index isn) told m v → Delivers to isn (frames ++ index ∷ []) w v
delivered_last to isn [] index told w m v so_far one = (told, v, subst (λ x. ComesTo (event.Deliver to index isn) told x v) so_far one, refl)
delivered_last to isn (f ∷ fs) index told w m v so_far one =
    (so_far.0, so_far.1, so_far.2, delivered_last to isn fs index told so_far.1 m v so_far.3 one)

-- behind the first frames
pub delivered_more : (to : Side) (isn : Seq) (frames : List ℕ) (i : ℕ) (told : Result Answer Unfair) (w m v : WorldView) → i < length frames →
    Delivers to isn (take i frames) w m → ComesTo (event.Deliver to (get_or frames i 0) isn) told m v → Delivers to isn (take (i + 1) frames) w v
delivered_more to isn frames i told w m v within so_far one =
    subst (λ fs. Delivers to isn fs w v) (sym (take_more frames i 0 within)) (delivered_last to isn (take i frames) (get_or frames i 0) told w m v so_far one)

-- one frame more goes out, and its index is noted behind those of the others
pub emitted_more : (side : Side) (times count index len : ℕ) (frames noted : List ℕ) (outcome : Result Answer Unfair) (old w v : WorldView) →
    length noted ≡ 64 → noted ≡ set frames count index → count < 64 → HasEmitted side old times (take count frames) w →
    IsOutcome (event.Emit side) outcome w v → outcome ≡ Ok (Frame index len) → HasEmitted side old (times + 1) (take (count + 1) noted) v
emitted_more side times count index len frames noted outcome old w v long set_is within so_far one is =
    let inside : count < length frames = omega (arith, length-set frames count index, ap length set_is) in
    subst (λ l. HasEmitted side old (times + 1) l v) (sym (ap (take (count + 1)) set_is ∙ take_more_set frames count index inside))
    (goes_out times (take count frames) w v index len so_far (subst (λ o. IsOutcome (event.Emit side) o w v) is one))

-- a refusal is passed over
pub emitted_same : (side : Side) (times : ℕ) (frames : List ℕ) (refusal : Unfair) (outcome : Result Answer Unfair) (old w v : WorldView) →
    HasEmitted side old times frames w → IsOutcome (event.Emit side) outcome w v → outcome ≡ Err refusal → HasEmitted side old (times + 1) frames v
emitted_same side times frames refusal outcome old w v so_far one is =
    passes times frames w v refusal so_far (subst (λ o. IsOutcome (event.Emit side) o w v) is one)

-- the first commands, and one more
commands_more : (commands : List Command) (i : ℕ) (command : Command) → i < length commands → command ≡ get_or commands i command →
    take (i + 1) commands ≡ take i commands ++ command ∷ []
commands_more commands i command within is =
    ap (λ k. take k commands) (add-one i) ∙ take-suc commands i command within ∙ ap (λ x. take i commands ++ x ∷ []) (sym is)

-- a line behind those that wait
parts_more : (octets front waiting line more waiting' : List ℕ) → octets ≡ front ++ waiting → waiting ++ line ≡ more ++ waiting' →
    octets ++ line ≡ (front ++ more) ++ waiting'
parts_more octets front waiting line more waiting' first second =
    ap (λ l. l ++ line) first ∙ append_assoc front waiting line ∙ ap (λ l. front ++ l) second ∙ sym (append_assoc front more waiting')

-- the commands so far and one more printed what they printed and its line
printed_more : (world m v : WorldView) (commands : List Command) (i : ℕ) (command : Command) (text line : List ℕ) → i < length commands →
    command ≡ get_or commands i command → HasPrinted world (take i commands) text m → Prints command line m v →
    HasPrinted world (take (i + 1) commands) (text ++ line) v
printed_more world m v commands i command text line within is so_far one =
    subst (λ cs. HasPrinted world cs (text ++ line) v) (sym (commands_more commands i command within is))
    (goes_on (take i commands) command text line m v so_far one)

-- no command was run yet
pub played_none : (world : WorldView) (old : Option (List ℕ)) (before : List ℕ) → IsPlayed world world [] old old before before
played_none world old before = ([], starts, ([], append-nil before, Keeps-appends old old (kept old)))
  where
    kept : (o : Option (List ℕ)) → Keeps o o
    kept None = tt
    kept (Some xs) = refl

-- a line behind what is on its way
pub added_more : (old mid new : Option (List ℕ)) (before text line waiting waiting' : List ℕ) → TakesAllBut old mid (before ++ text) waiting →
    TakesAllBut mid new (waiting ++ line) waiting' → TakesAllBut old new (before ++ (text ++ line)) waiting'
added_more old mid new before text line waiting waiting' first second = (
  first.0 ++ second.0,
  sym (append_assoc before text line) ∙ parts_more (before ++ text) first.0 waiting line second.0 waiting' first.1 second.1,
  Appends-more old mid new first.0 second.0 first.2 second.2,
)

-- a front of it
pub added_front : (old mid new : Option (List ℕ)) (before text line waiting : List ℕ) → TakesAllBut old mid (before ++ text) waiting →
    TakesFront mid new (waiting ++ line) → TakesFront old new (before ++ (text ++ line))
added_front old mid new before text line waiting first second =
    let more = added_more old mid new before text line waiting second.1 first (second.0, second.2, second.3) in
    (more.0, second.1, more.1, more.2)

-- one command more was run
pub played_more : (world m v : WorldView) (commands : List Command) (i : ℕ) (command : Command) (line before waiting waiting' : List ℕ)
    (old mid new : Option (List ℕ)) → i < length commands → command ≡ get_or commands i command →
    IsPlayed world m (take i commands) old mid before waiting → Prints command line m v → TakesAllBut mid new (waiting ++ line) waiting' →
    IsPlayed world v (take (i + 1) commands) old new before waiting'
played_more world m v commands i command line before waiting waiting' old mid new within is so_far one added = (
  so_far.0 ++ line,
  printed_more world m v commands i command so_far.0 line within is so_far.1 one,
  added_more old mid new before so_far.0 line waiting waiting' so_far.2 added,
)

-- the world stays where no more is done
pub stayed : (rest : List Command) (w : WorldView) → IsLeftBefore rest w w
stayed [] w = refl
stayed (next ∷ rest) w = inl refl

-- the world where the next command's line was not printed
left_next : (commands : List Command) (i : ℕ) (command : Command) (w after : WorldView) → i < length commands → command ≡ get_or commands i command →
    (after ≡ w) ⊎ Does command w after → IsLeftBefore (drop i commands) w after
left_next commands i command w after within is left =
    let first : drop i commands ≡ command ∷ drop (i + 1) commands = drop_more commands i command within ∙ ap (λ c. c ∷ drop (i + 1) commands) (sym is) in
    subst (λ l. IsLeftBefore l w after) (sym first) left

-- what a command that printed a line did
does_of : (command : Command) (line : List ℕ) (w v : WorldView) → Prints command line w v → Does command w v
does_of (At side action) line w v p = (p.0, p.1, p.2, p.3)
does_of (Round writer reader_id) line w v p = (p.0, p.1)
does_of (Pass isn) line w v p = (p.0, p.1, p.2, p.3, p.4)

-- memory ran out before a line was added
pub cut_by_memory : (world w after : WorldView) (commands : List Command) (i : ℕ) (command : Command) (before waiting waiting' : List ℕ)
    (old mid new : Option (List ℕ)) (fault : TextFault) → fault ≡ NoMemory → waiting' ≡ waiting → new ≡ mid → i < length commands →
    command ≡ get_or commands i command → (after ≡ w) ⊎ Does command w after → IsPlayed world w (take i commands) old mid before waiting →
    IsCutShort fault world after commands old new before waiting'
cut_by_memory world w after commands i command before waiting waiting' old mid new fault is same kept within at left so_far =
    rw (is, same, kept)
    (take i commands, drop i commands, so_far.0, w, sym (take-append-drop i commands), so_far.1, so_far.2, left_next commands i command w after within at left)

-- the sink failed at a line
cut_by_sink : (world m v : WorldView) (commands : List Command) (i : ℕ) (command : Command) (line before waiting waiting' : List ℕ)
    (old mid new : Option (List ℕ)) (fault : TextFault) → fault ≡ Write → i < length commands → command ≡ get_or commands i command →
    IsPlayed world m (take i commands) old mid before waiting → Prints command line m v → TakesFront mid new (waiting ++ line) →
    IsCutShort fault world v commands old new before waiting'
cut_by_sink world m v commands i command line before waiting waiting' old mid new fault is_sink within is so_far one front =
    rw is_sink (
      take (i + 1) commands,
      drop (i + 1) commands,
      so_far.0 ++ line,
      v,
      sym (take-append-drop (i + 1) commands),
      printed_more world m v commands i command so_far.0 line within is so_far.1 one,
      added_front old mid new before so_far.0 line waiting so_far.2 front,
      stayed (drop (i + 1) commands) v,
    )

-- a line could not be added
pub cut_at_line : (world m v : WorldView) (commands : List Command) (i : ℕ) (command : Command) (line before waiting waiting' : List ℕ)
    (old mid new : Option (List ℕ)) (fault : TextFault) → i < length commands → command ≡ get_or commands i command →
    IsPlayed world m (take i commands) old mid before waiting → Prints command line m v →
    (fault ≡ Write) ⊎ ((fault ≡ NoMemory) × (waiting' ≡ waiting) × (new ≡ mid)) → (fault ≡ Write → TakesFront mid new (waiting ++ line)) →
    IsCutShort fault world v commands old new before waiting'
cut_at_line world m v commands i command line before waiting waiting' old mid new fault within is so_far one (inl sink) front =
    cut_by_sink world m v commands i command line before waiting waiting' old mid new fault sink within is so_far one (front sink)
cut_at_line world m v commands i command line before waiting waiting' old mid new fault within is so_far one (inr memory) front =
    cut_by_memory world m v commands i command before waiting waiting' old mid new fault memory.0 memory.1 memory.2 within is
    (inr (does_of command line m v one)) so_far

-- what holds anyhow holds where a call failed
pub on_err : {T E : Type 0} (r : Result T E) (P : Type 0) → P → OnErr r P
on_err (Ok x) P holds = tt
on_err (Err e) P holds = holds
