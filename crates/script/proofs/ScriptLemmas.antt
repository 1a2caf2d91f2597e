-- What is known of a script's first lines.
use Rattle.std.proofs.Common.{◌≡◌, ℕ, ◌+◌, ◌<◌, List, [], ◌∷◌, ◌++◌, Option, Some, None, Bool, true, false, ◌&&◌, ◌||◌, not, option_to_list, length, map, Bor, get_or, take, drop, refl, ap, sym, ◌∙◌, arith, add-one, drop-cons, suc, if◌then◌else◌}
use Rattle.std.proofs.Math.Seq.{take-suc}
use Rattle.std.proofs.lemmas.List.Elements.{filter_map-append}
use Rattle.std.specs.List.{filter_map, list_any, cons_option}
use Rattle.script.specs.Script.{item_of, Stage, Start, first_bad_from, scales_in, commands_of, limits_of, is_bad, stage_of, stage_after, is_noscale, command_in, limit_said}
use Rattle.script.specs.declared.lines.Setting.{Setting}
use Rattle.script.specs.declared.lines.Command.{Command}
use Rattle.script.specs.declared.lines.Item.{Item}
use Rattle.std.proofs.lemmas.List.{get_or-map, length-map}

-- after the first i lines, all of them good, the rest is as bad as the whole, and what was said is what the script holds
pub record IsReadUpTo (lines read : List (List ℕ)) (i : ℕ) (setting : Setting) (commands : List Command) : Type 0 where
  pub same : read ≡ lines
  pub bad : first_bad_from Start 1 lines ≡ first_bad_from (stage_of setting commands) (i + 1) (drop i lines)
  pub said : commands ≡ commands_of (take i lines)
  pub scaled : setting.scales ≡ scales_in (take i lines)
  pub limits : option_to_list setting.limit ≡ limits_of (take i lines)

-- the answer whether a line is good, turned round
pub bad_if : (good bad : Bool) → good ≡ not bad → good ≡ false → bad ≡ true
bad_if good true turned told = refl
bad_if good false turned told = cc

pub good_if : (good bad : Bool) → good ≡ not bad → good ≡ true → bad ≡ false
good_if good true turned told = cc
good_if good false turned told = refl

-- what is left from a line on
left_from : (lines : List (List ℕ)) (i : ℕ) (line : List ℕ) → i < length lines → get_or lines i [] ≡ line →
    drop i lines ≡ line ∷ drop (suc i) lines
left_from lines i line within here = drop-cons lines i [] within ∙ ap (λ x. x ∷ drop (suc i) lines) here

-- what is read with a line more
read_with : (lines : List (List ℕ)) (i : ℕ) (line : List ℕ) → i < length lines → get_or lines i [] ≡ line →
    take (i + 1) lines ≡ take i lines ++ line ∷ []
read_with lines i line within here =
    rw (add-one) (take-suc lines i [] within ∙ ap (λ x. take i lines ++ x ∷ []) here)

bad_step : (stage : Stage) (n : ℕ) (line : List ℕ) (rest : List (List ℕ)) → is_bad stage (item_of line) ≡ true →
    first_bad_from stage n (line ∷ rest) ≡ Some n
bad_step stage n line rest bad = ap (λ b. if b then Some n else first_bad_from (stage_after stage (item_of line)) (n + 1) rest) bad

good_step : (stage : Stage) (n : ℕ) (line : List ℕ) (rest : List (List ℕ)) → is_bad stage (item_of line) ≡ false →
    first_bad_from stage n (line ∷ rest) ≡ first_bad_from (stage_after stage (item_of line)) (n + 1) rest
good_step stage n line rest good = ap (λ b. if b then Some n else first_bad_from (stage_after stage (item_of line)) (n + 1) rest) good

-- one item more, or none
one_more_item : {X : Type 0} (h : List ℕ → Option X) (xs : List (List ℕ)) (x : List ℕ) →
    filter_map h (xs ++ x ∷ []) ≡ filter_map h xs ++ option_to_list (h x)
one_more_item {X = X} h xs x = filter_map-append h xs (x ∷ []) ∙ ap (λ ys. filter_map h xs ++ ys) (alone (h x))
  where
    alone : (o : Option X) → cons_option o [] ≡ option_to_list o
    alone None = refl
    alone (Some y) = refl

-- no line passes, with one more
scaled_with : (p : List ℕ → Bool) (xs : List (List ℕ)) (x : List ℕ) → not (list_any p (xs ++ x ∷ [])) ≡ (not (list_any p xs) && not (p x))
scaled_with p [] x = alone (p x)
  where
    alone : (b : Bool) → not (b || false) ≡ not b
    alone true = refl
    alone false = refl
scaled_with p (y ∷ xs) x = further (p y) (list_any p (xs ++ x ∷ [])) (scaled_with p xs x)
  where
    further : (b any : Bool) → not any ≡ (not (list_any p xs) && not (p x)) → not (b || any) ≡ (not (b || list_any p xs) && not (p x))
    further true any e = refl
    further false any e = e

-- the line at i, of those that were split off
line_at : (lines : List (List ℕ)) (items : List (Bor (List ℕ))) (i : ℕ) (d : Bor (List ℕ)) →
    map (λ line. line.now) items ≡ lines → i < length items → get_or lines i [] ≡ (get_or items i d).now
line_at lines items i d same within =
    ap (λ ls. get_or ls i []) (sym same) ∙ get_or-map (λ (line : Bor (List ℕ)). line.now) items i d [] within

as_many : (lines : List (List ℕ)) (items : List (Bor (List ℕ))) → map (λ line. line.now) items ≡ lines → length items ≡ length lines
as_many lines items same = sym (length-map items (λ line. line.now)) ∙ ap length same

-- where the line at i is bad, it is the first
pub bad_here : (lines : List (List ℕ)) (items : List (Bor (List ℕ))) (i : ℕ) (setting : Setting) (commands : List Command)
    (d : Bor (List ℕ)) (item : Option Item) → IsReadUpTo lines (map (λ line. line.now) items) i setting commands →
    i < length items → item ≡ item_of (get_or items i d).now →
    is_bad (stage_of setting commands) item ≡ true → first_bad_from Start 1 lines ≡ Some (i + 1)
bad_here lines items i setting commands d item so_far within is bad =
    let inside : i < length lines = omega (arith, as_many lines items so_far.same) in
    let line = (get_or items i d).now in
    so_far.bad ∙ ap (first_bad_from (stage_of setting commands) (i + 1)) (left_from lines i line inside (line_at lines items i d so_far.same within))
    ∙ bad_step (stage_of setting commands) (i + 1) line (drop (suc i) lines) (ap (is_bad (stage_of setting commands)) (sym is) ∙ bad)

-- a good line more
pub read_one_more : (lines : List (List ℕ)) (items : List (Bor (List ℕ))) (i : ℕ) (setting setting' : Setting)
    (commands commands' : List Command) (d : Bor (List ℕ)) (item : Option Item) →
    IsReadUpTo lines (map (λ line. line.now) items) i setting commands →
    i < length items → item ≡ item_of (get_or items i d).now →
    is_bad (stage_of setting commands) item ≡ false →
    stage_of setting' commands' ≡ stage_after (stage_of setting commands) item →
    setting'.scales ≡ (setting.scales && not (is_noscale item)) →
    commands' ≡ commands ++ option_to_list (command_in item) →
    option_to_list setting'.limit ≡ option_to_list setting.limit ++ option_to_list (limit_said item) →
    IsReadUpTo lines (map (λ line. line.now) items) (i + 1) setting' commands'
read_one_more lines items i setting setting' commands commands' d item so_far within is good stage scaled said limits =
    let inside : i < length lines = omega (arith, as_many lines items so_far.same) in
    let line = (get_or items i d).now in
    let at = line_at lines items i d so_far.same within in
    record {
      same = so_far.same;
      bad = so_far.bad ∙ ap (first_bad_from (stage_of setting commands) (i + 1)) (left_from lines i line inside at)
          ∙ good_step (stage_of setting commands) (i + 1) line (drop (suc i) lines) (ap (is_bad (stage_of setting commands)) (sym is) ∙ good)
          ∙ ap (λ b. first_bad_from b (i + 1 + 1) (drop (suc i) lines)) (ap (stage_after (stage_of setting commands)) (sym is) ∙ sym stage)
          ∙ ap (λ k. first_bad_from (stage_of setting' commands') (i + 1 + 1) (drop k lines)) (sym (add-one i));
      said = said ∙ ap (λ xs. xs ++ option_to_list (command_in item)) so_far.said
          ∙ ap (λ o. commands_of (take i lines) ++ option_to_list (command_in o)) is
          ∙ sym (ap commands_of (read_with lines i line inside at) ∙ one_more_item (λ l. command_in (item_of l)) (take i lines) line);
      scaled = scaled ∙ ap (λ b. b && not (is_noscale item)) so_far.scaled ∙ ap (λ o. scales_in (take i lines) && not (is_noscale o)) is
          ∙ sym (ap scales_in (read_with lines i line inside at) ∙ scaled_with (λ l. is_noscale (item_of l)) (take i lines) line);
      limits = limits ∙ ap (λ xs. xs ++ option_to_list (limit_said item)) so_far.limits
          ∙ ap (λ o. limits_of (take i lines) ++ option_to_list (limit_said o)) is
          ∙ sym (ap limits_of (read_with lines i line inside at) ∙ one_more_item (λ l. limit_said (item_of l)) (take i lines) line);
    }
