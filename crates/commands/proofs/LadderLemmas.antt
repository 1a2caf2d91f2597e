-- What a run of a script with a ladder records, step by step.
use Rattle.std.proofs.Common.{◌≡◌, ℕ, ◌+◌, ◌<◌, ◌⊎◌, inl, inr, List, [], ◌∷◌, ◌++◌, length, map, take, drop, get_or, option_to_list, Option, Some, None, Result, Ok, Err, false, append_assoc, append-nil, refl, ap, sym, subst, ◌∙◌}
use Rattle.std.specs.List.{flat_map}
use Rattle.std.proofs.Math.ListN.{set}
use Rattle.std.proofs.lemmas.List.{map-append, take_more, take_more_set, drop_more, take-append-drop}
use Rattle.std.proofs.lemmas.Grind.{flat_map-append}
use Rattle.tcp_segment.specs.declared.seq.Seq.{Seq}
use Rattle.sides.specs.declared.side.Side.{Side}
use Rattle.wire_sim.specs.declared.event.Event.{Event}
use Rattle.wire_sim.specs.declared.event.Event.TheVariants as event
use Rattle.wire_sim.specs.declared.event.Answer.{Answer}
use Rattle.wire_sim.specs.declared.event.Happening.{Happening}
use Rattle.wire_sim.specs.declared.event.Unfair.{Unfair}
use Rattle.wire_sim.specs.WorldView.{WorldView}
use Rattle.script.specs.declared.lines.Setting.{Setting}
use Rattle.script.specs.declared.lines.Command.{Command}
use Rattle.script.specs.declared.lines.Item.TheVariants.{Do, Limit, NoScale}
use Rattle.script.specs.Script.{item_of}
use Rattle.ladder.specs.declared.passage.Passage.{Passage}
use Rattle.ladder.specs.declared.passage.Passage.TheVariants.{Sent}
use Rattle.ladder.specs.declared.happened.Happened.{Happened}
use Rattle.ladder.specs.declared.happened.Happened.TheVariants.{Passed}
use Rattle.ladder.specs.Passages.{passage_of}
use Rattle.std.proofs.Common.{codes, IfOk, OnOk, IfErr, IfSome}
use Rattle.std.specs.Io.KnownBytes.{Appends}
use Rattle.std.proofs.lemmas.Result.{IfOk-weaker}
use Rattle.sides.specs.declared.side.Side.TheVariants.{A, B}
use Rattle.script.specs.declared.action.Action.{Action}
use Rattle.script.specs.declared.lines.Command.TheVariants.{At, Round, Pass}
use Rattle.script.specs.Words.{lines_of}
use Rattle.script.specs.Script.{command_in, is_noscale, limit_said, setting_of}
use Rattle.script.specs.declared.lines.Item.{Item}
use Rattle.std.specs.Result.{OnErr}
use Rattle.script.specs.Events.{IsEventOf}
use Rattle.script.specs.Text.{style_of}
use Rattle.ladder.specs.declared.numbers.Numbering.{Numbering}
use Rattle.devices.specs.Streams.{TakesFront}
use Rattle.commands.specs.declared.fault.TextFault.{TextFault}
use Rattle.commands.specs.declared.fault.TextFault.TheVariants.{Line, TooLong, NotHex, Header, Record, Read, Write, NoMemory}
use Rattle.commands.specs.declared.sim.Ends.{Ends}
use Rattle.commands.specs.Play.{ComesTo, Carries, Delivers, Does, IsFirst, pass_text, text_of_outcome}
use Rattle.commands.specs.Recording.{TakesCapture}
use Rattle.commands.specs.Laddered.{CarriesEach, HasBrought, none, one_more, HasRun, starts, goes_on, HasDone, nothing, unscales, limits, does, recorded, IsCut, IsLeftAt, TakesBothOf, TakesLadder, TakesLadderOf, Tells, carried_by, ladder_in, passages_in}
use Rattle.commands.proofs.PlayLemmas.{delivered_last}

-- one frame more is brought, and what it came to is noted behind what the others came to
pub brought_more : (to : Side) (isn : Seq) (frames : List ℕ) (i : ℕ) (outcome : Result Answer Unfair) (passages noted : List (Option Passage))
    (old w v : WorldView) → i < length frames → i < length passages →
    noted ≡ set passages i (passage_of (event.Deliver to (get_or frames i 0) isn) outcome) →
    HasBrought to isn old (take i frames) (take i passages) w → ComesTo (event.Deliver to (get_or frames i 0) isn) outcome w v →
    HasBrought to isn old (take (i + 1) frames) (take (i + 1) noted) v
brought_more to isn frames i outcome passages noted old w v within room set_is so_far one =
    let passage = passage_of (event.Deliver to (get_or frames i 0) isn) outcome in
    subst (λ ps. HasBrought to isn old (take (i + 1) frames) ps v) (sym (ap (take (i + 1)) set_is ∙ take_more_set passages i passage room))
    (subst (λ fs. HasBrought to isn old fs (take i passages ++ passage ∷ []) v) (sym (take_more frames i 0 within))
    (one_more (take i frames) (take i passages) w v (get_or frames i 0) outcome so_far one))

-- one frame more was sent
pub sent_more : (from : Side) (frames : List ℕ) (i : ℕ) (old : List Happened) → i < length frames →
    (old ++ map Passed (map (Sent from) (take i frames))) ++ Passed (Sent from (get_or frames i 0)) ∷ [] ≡ old ++ map Passed (map (Sent from) (take (i + 1) frames))
sent_more from frames i old within =
    append_assoc old (map Passed (map (Sent from) (take i frames))) (Passed (Sent from (get_or frames i 0)) ∷ [])
    ∙ ap (λ t. old ++ t) (sym (map-append Passed (map (Sent from) (take i frames)) (Sent from (get_or frames i 0) ∷ [])))
    ∙ ap (λ t. old ++ map Passed t) (sym (map-append (Sent from) (take i frames) (get_or frames i 0 ∷ [])))
    ∙ ap (λ t. old ++ map Passed (map (Sent from) t)) (sym (take_more frames i 0 within))

-- what one frame more came to
pub came_more : (passages : List (Option Passage)) (i : ℕ) (p : Option Passage) (old : List Happened) → i < length passages → p ≡ get_or passages i p →
    (old ++ map Passed (flat_map option_to_list (take i passages))) ++ map Passed (option_to_list p) ≡ old ++ map Passed (flat_map option_to_list (take (i + 1) passages))
came_more passages i p old within is =
    let front = take i passages in
    append_assoc old (map Passed (flat_map option_to_list front)) (map Passed (option_to_list p))
    ∙ ap (λ t. old ++ t) (sym (map-append Passed (flat_map option_to_list front) (option_to_list p)))
    ∙ ap (λ t. old ++ map Passed (flat_map option_to_list front ++ t)) (sym (append-nil (option_to_list p)))
    ∙ ap (λ t. old ++ map Passed t) (sym (flat_map-append option_to_list front (p ∷ [])))
    ∙ ap (λ t. old ++ map Passed (flat_map option_to_list (front ++ t ∷ []))) is
    ∙ ap (λ t. old ++ map Passed (flat_map option_to_list t)) (sym (take_more passages i p within))

-- what one thing more that happened tells
pub told_more : (things : List Happening) (i : ℕ) (thing : Happening) (p : Option Passage) (old : List Happened) → i < length things → thing ≡ get_or things i thing →
    p ≡ passage_of thing.event (Ok thing.answer) →
    (old ++ map Passed (passages_in (take i things))) ++ map Passed (option_to_list p) ≡ old ++ map Passed (passages_in (take (i + 1) things))
told_more things i thing p old within at is =
    let tells = λ (h : Happening). option_to_list (passage_of h.event (Ok h.answer)) in
    let front = take i things in
    append_assoc old (map Passed (flat_map tells front)) (map Passed (option_to_list p))
    ∙ ap (λ t. old ++ t) (sym (map-append Passed (flat_map tells front) (option_to_list p)))
    ∙ ap (λ t. old ++ map Passed (flat_map tells front ++ option_to_list t)) is
    ∙ ap (λ t. old ++ map Passed (flat_map tells front ++ t)) (sym (append-nil (tells thing)))
    ∙ ap (λ t. old ++ map Passed t) (sym (flat_map-append tells front (thing ∷ [])))
    ∙ ap (λ t. old ++ map Passed (flat_map tells (front ++ t ∷ []))) at
    ∙ ap (λ t. old ++ map Passed (flat_map tells t)) (sym (take_more things i thing within))

-- the first lines, and one more
lines_more : {X : Type 0} (now : X → List ℕ) (lines : List X) (i : ℕ) (d : X) → i < length lines →
    map now (take (i + 1) lines) ≡ map now (take i lines) ++ now (get_or lines i d) ∷ []
lines_more now lines i d within = ap (map now) (take_more lines i d within) ∙ map-append now (take i lines) (get_or lines i d ∷ [])

-- one line more is done
pub run_more : {X : Type 0} (now : X → List ℕ) (lines : List X) (i : ℕ) (d : X) (before after more : List Happened) (old w v : WorldView) → i < length lines →
    HasRun old (map now (take i lines)) before w → HasDone (now (get_or lines i d)) more w v → after ≡ before ++ more →
    HasRun old (map now (take (i + 1) lines)) after v
run_more now lines i d before after more old w v within so_far done grown =
    subst (λ hs. HasRun old (map now (take (i + 1) lines)) hs v) (sym grown)
    (subst (λ ls. HasRun old ls (before ++ more) v) (sym (lines_more now lines i d within))
    (goes_on (map now (take i lines)) (now (get_or lines i d)) before more w v so_far done))

-- a run was cut short at a line
pub cut_at : {X : Type 0} (now : X → List ℕ) (lines : List X) (i : ℕ) (d : X) (before : List Happened) (old w after : WorldView) → i < length lines →
    HasRun old (map now (take i lines)) before w →
    (after ≡ w) ⊎ ((command : Command) × (item_of (now (get_or lines i d)) ≡ Some (Do command)) × Does command w after) →
    IsCut (map now lines) old after
cut_at now lines i d before old w after within so_far left =
    let rest : map now (drop i lines) ≡ now (get_or lines i d) ∷ map now (drop (i + 1) lines) = ap (map now) (drop_more lines i d within) in (
      map now (take i lines),
      map now (drop i lines),
      before,
      w,
      ap (map now) (sym (take-append-drop i lines)) ∙ map-append now (take i lines) (drop i lines),
      so_far,
      subst (λ ls. IsLeftAt ls w after) (sym rest) left,
    )

-- a run was cut short before its first line, or behind its last
pub cut_first : (lines : List (List ℕ)) (w : WorldView) → IsCut lines w w
cut_first lines w = ([], lines, [], w, refl, starts, left_as_it_was lines w)
  where
    left_as_it_was : (ls : List (List ℕ)) (v : WorldView) → IsLeftAt ls v v
    left_as_it_was [] v = refl
    left_as_it_was (line ∷ rest) v = inl refl

pub cut_last : (lines : List (List ℕ)) (happened : List Happened) (w v : WorldView) → HasRun w lines happened v → IsCut lines w v
cut_last lines happened w v ran = (lines, [], happened, v, sym (append-nil lines), ran, refl)

-- frames that were brought were delivered
delivered_by : (to : Side) (isn : Seq) (w v : WorldView) (frames : List ℕ) (passages : List (Option Passage)) →
    HasBrought to isn w frames passages v → Delivers to isn frames w v
delivered_by to isn w v frames passages none = refl
delivered_by to isn w v frames passages (one_more before so m v2 index outcome first one) =
    delivered_last to isn before index outcome w m v (delivered_by to isn w m before so first) one

-- so many frames were carried
pub carries_by : (from : Side) (isn : Seq) (frames : List ℕ) (brought : List (Option Passage)) (w v : WorldView) →
    CarriesEach from isn frames brought w v → Carries from isn (length frames) w v
carries_by from isn frames brought w v c = (frames, c.0, refl, c.1, delivered_by _ isn c.0 v frames brought c.2)

-- what a command told is what it did
pub does_by : (command : Command) (passages : List Passage) (text : List ℕ) (w v : WorldView) → Tells command passages text w v → Does command w v
does_by (At side action) passages text w v t = (t.0, t.1, t.2, t.3)
does_by (Round writer reader_id) passages text w v t = (t.0, t.1)
does_by (Pass isn) passages text w v t =
    (length t.0, length t.1, t.4, carries_by A isn t.0 t.2 w t.4 t.5, carries_by B isn t.1 t.3 t.4 v t.6)

-- one host did something
pub told_act : {T E : Type 0} (r : Result T E) (octets : T → List ℕ) (side : Side) (action : Action) (e : Event) (outcome : Result Answer Unfair) (p : Option Passage) (w v : WorldView)
    (before after : List Happened) → IsEventOf side action e → ComesTo e outcome w v → p ≡ passage_of e outcome →
    after ≡ before ++ map Passed (option_to_list p) → IfOk r (λ t. octets t ≡ text_of_outcome (style_of action) outcome) →
    IfOk r (λ t. (passages : List Passage) × Tells (At side action) passages (octets t) w v × (after ≡ before ++ map Passed passages))
told_act r octets side action e outcome p w v before after of_it came is grown printed =
    IfOk-weaker r _ _ (λ t text. (option_to_list p, (e, outcome, of_it, came, ap option_to_list is, text), grown)) printed

-- frames went both ways
pub told_pass : {T E : Type 0} (r : Result T E) (octets : T → List ℕ) (isn : Seq) (of_a of_b : List ℕ) (to_b to_a : List (Option Passage)) (count_a count_b : ℕ) (w m v : WorldView)
    (before mid after : List Happened) → CarriesEach A isn of_a to_b w m → CarriesEach B isn of_b to_a m v → length of_a ≡ count_a → length of_b ≡ count_b →
    mid ≡ before ++ map Passed (carried_by A of_a to_b) → after ≡ mid ++ map Passed (carried_by B of_b to_a) →
    IfOk r (λ t. octets t ≡ pass_text count_a count_b) →
    IfOk r (λ t. (passages : List Passage) × Tells (Pass isn) passages (octets t) w v × (after ≡ before ++ map Passed passages))
told_pass r octets isn of_a of_b to_b to_a count_a count_b w m v before mid after first second counted_a counted_b grown more printed =
    let x = carried_by A of_a to_b in
    let y = carried_by B of_b to_a in
    let all : after ≡ before ++ map Passed (x ++ y) =
    more ∙ ap (λ h. h ++ map Passed y) grown ∙ append_assoc before (map Passed x) (map Passed y) ∙ ap (λ h. before ++ h) (sym (map-append Passed x y)) in
    IfOk-weaker r _ _ (λ t text. (
      x ++ y,
      (of_a, of_b, to_b, to_a, m, first, second, refl, text ∙ ap (λ n. pass_text n count_b) (sym counted_a) ∙ ap (λ n. pass_text (length of_a) n) (sym counted_b)),
      all,
    )) printed

-- what a sink took of a ladder
pub took : (r : Result (Unit {0}) TextFault) (numbering : Numbering) (lines : List (List ℕ)) (w v : WorldView) (old new : Option (List ℕ)) (ladder : List ℕ)
    (happened : List Happened) → HasRun w lines happened v → ladder ≡ ladder_in numbering happened v → OnOk r (Appends old new ladder) →
    IfErr r (λ fault. (fault ≡ Write) × TakesFront old new ladder) → TakesLadder r numbering lines w v old new
took (Ok done) numbering lines w v old new ladder happened ran is all front = (happened, ran, subst (λ l. Appends old new l) is all)
took (Err fault) numbering lines w v old new ladder happened ran is all front = rw front.0 (happened, ran, subst (λ l. TakesFront old new l) is front.1)

-- the same of a script's octets
taken_by : (octets : List ℕ) (r : Result (Unit {0}) TextFault) (numbering : Numbering) (first v : WorldView) (old new : Option (List ℕ)) →
    IsFirst (setting_of octets) first → TakesLadder r numbering (lines_of octets) first v old new → TakesLadderOf octets r numbering old new
taken_by octets (Ok done) numbering first v old new is_first took = (v, (first, is_first, took))
taken_by octets (Err (Line n)) numbering first v old new is_first took = absurd took
taken_by octets (Err TooLong) numbering first v old new is_first took = absurd took
taken_by octets (Err NotHex) numbering first v old new is_first took = absurd took
taken_by octets (Err (Header f)) numbering first v old new is_first took = absurd took
taken_by octets (Err (Record f)) numbering first v old new is_first took = absurd took
taken_by octets (Err Read) numbering first v old new is_first took = absurd took
taken_by octets (Err Write) numbering first v old new is_first took = (v, (first, is_first, took))
taken_by octets (Err NoMemory) numbering first v old new is_first took = took.1

-- the setting that the world has is the one that the script says
pub ladder_by : (told : Option (List ℕ)) (octets : List ℕ) (r : Result (Unit {0}) TextFault) (numbering : Numbering) (setting : Setting) (first v : WorldView)
    (old new : Option (List ℕ)) → IfSome told (λ t. octets ≡ t) → setting ≡ setting_of octets → IsFirst setting first →
    TakesLadder r numbering (lines_of octets) first v old new → IfSome told (λ t. TakesLadderOf t r numbering old new)
ladder_by None octets r numbering setting first v old new all said is_first took = tt
ladder_by (Some t) octets r numbering setting first v old new all said is_first took =
    subst (λ x. TakesLadderOf x r numbering old new) all
    (taken_by octets r numbering first v old new (subst (λ x. IsFirst x first) said is_first) took)

pub both_by : (told : Option (List ℕ)) (octets : List ℕ) (ends : Ends) (numbering : Numbering) (setting : Setting) (first v : WorldView)
    (old new old_capture new_capture : Option (List ℕ)) → IfSome told (λ t. octets ≡ t) → setting ≡ setting_of octets →
    IsFirst setting first → TakesLadder ends.run numbering (lines_of octets) first v old new → TakesCapture ends.capture v old_capture new_capture →
    IfSome told (λ t. TakesBothOf t ends numbering old new old_capture new_capture)
both_by None octets ends numbering setting first v old new old_capture new_capture all said is_first took captured = tt
both_by (Some t) octets ends numbering setting first v old new old_capture new_capture all said is_first took captured =
    subst (λ x. TakesBothOf x ends numbering old new old_capture new_capture) all
    (v, (first, subst (λ x. IsFirst x first) said is_first, took), captured)

-- a line that says a command was done
pub done_said : {T E : Type 0} (r : Result T E) (line : List ℕ) (command : Command) (w v : WorldView) (before after : List Happened) → item_of line ≡ Some (Do command) →
    OnOk r ((passages : List Passage) × (text : List ℕ) × Tells command passages text w v × (after ≡ before ++ recorded line passages text)) →
    OnOk r ((more : List Happened) × HasDone line more w v × (after ≡ before ++ more))
done_said (Ok x) line command w v before after says told = (recorded line told.0 told.1, does command told.0 told.1 w v says told.2, told.3)
done_said (Err e) line command w v before after says told = tt

pub left_said : {T E : Type 0} (r : Result T E) (line : List ℕ) (command : Command) (w v : WorldView) → item_of line ≡ Some (Do command) →
    OnErr r ((v ≡ w) ⊎ Does command w v) → OnErr r ((v ≡ w) ⊎ ((c : Command) × (item_of line ≡ Some (Do c)) × Does c w v))
left_said (Ok x) line command w v says left = tt
left_said (Err e) line command w v says (inl same) = inl same
left_said (Err e) line command w v says (inr did) = inr (command, says, did)

-- a line that says a limit
pub done_limit : {T E : Type 0} (r : Result T E) (line : List ℕ) (n : ℕ) (w : WorldView) (before after : List Happened) → item_of line ≡ Some (Limit n) →
    OnOk r (after ≡ before ++ recorded line [] (codes "ok")) → OnOk r ((more : List Happened) × HasDone line more w w × (after ≡ before ++ more))
done_limit (Ok x) line n w before after says noted = (recorded line [] (codes "ok"), limits n w says, noted)
done_limit (Err e) line n w before after says noted = tt

-- a line that says `noscale`
pub done_noscale : {T E : Type 0} (r : Result T E) (line : List ℕ) (w : WorldView) (before after : List Happened) → item_of line ≡ Some NoScale →
    OnOk r (after ≡ before ++ recorded line [] (codes "ok")) → OnOk r ((more : List Happened) × HasDone line more w w × (after ≡ before ++ more))
done_noscale (Ok x) line w before after says noted = (recorded line [] (codes "ok"), unscales w says, noted)
done_noscale (Err e) line w before after says noted = tt

-- a line that says nothing
pub done_nothing : (line : List ℕ) (item : Option Item) (w : WorldView) (happened : List Happened) → item_of line ≡ item → command_in item ≡ None →
    is_noscale item ≡ false → limit_said item ≡ None → (more : List Happened) × HasDone line more w w × (happened ≡ happened ++ more)
done_nothing line item w happened is silent scaled unlimited =
    ([], nothing w (ap command_in is ∙ silent) (ap is_noscale is ∙ scaled) (ap limit_said is ∙ unlimited), sym (append-nil happened))
