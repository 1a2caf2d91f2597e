-- The lines of all fields are that of the first one, and behind it those of each group; and what is added to a text bit by bit is added to it.
use Rattle.std.proofs.Common.{◌≡◌, ◌∙◌, ℕ, List, [], ◌∷◌, ◌++◌, map, codes, Result, Ok, Err, OnOk, append-nil, sym, ap, arith}
use Rattle.std.proofs.lemmas.Grind.{common_steps}
use Rattle.std.proofs.lemmas.List.Concat.{flat_map-append}
use Rattle.std.specs.List.{join_with_byte}
use Rattle.tcp_state.specs.declared.info.Info.{Info}
use Rattle.tcp_state.specs.Names.{state_text}
use Rattle.script.specs.Info.{below, estimate_fields, field_line, info_text, line_below, moment_fields, timeout_fields, waiting_fields, window_fields}

joined : (first : List ℕ × List ℕ) (rest : List (List ℕ × List ℕ)) → join_with_byte 10 (map field_line (first ∷ rest)) ≡ field_line first ++ below rest
joined first [] = sym (append-nil (field_line first))
joined first (next ∷ rest) = ap (λ l. field_line first ++ (10 ∷ l)) (joined next rest)

pub info_in_turn : (i : Info)
    → info_text i ≡ field_line (codes "state", state_text i.state)
    ++ (below (waiting_fields i) ++ (below (window_fields i) ++ (below (estimate_fields i) ++ (below (timeout_fields i) ++ below (moment_fields i)))))
info_in_turn i =
    let last = timeout_fields i ++ moment_fields i in
    let later = estimate_fields i ++ last in
    let behind = window_fields i ++ later in
    joined (codes "state", state_text i.state) (waiting_fields i ++ behind)
    ∙ ap (λ l. field_line (codes "state", state_text i.state) ++ l) (flat_map-append line_below (waiting_fields i) behind
    ∙ ap (λ l. below (waiting_fields i) ++ l) (flat_map-append line_below (window_fields i) later
    ∙ ap (λ l. below (window_fields i) ++ l) (flat_map-append line_below (estimate_fields i) last
    ∙ ap (λ l. below (estimate_fields i) ++ l) (flat_map-append line_below (timeout_fields i) (moment_fields i)))))

pub five_added : {T E : Type 0} (r : Result T E) (o t u v w n a b c d e : List ℕ) → t ≡ o ++ a → u ≡ t ++ b → v ≡ u ++ c → w ≡ v ++ d → OnOk r (n ≡ w ++ e) →
    OnOk r (n ≡ o ++ (a ++ (b ++ (c ++ (d ++ (e ++ []))))))
five_added (Ok x) o t u v w n a b c d e p q s y z = grind (arith, common_steps)
five_added (Err x) o t u v w n a b c d e p q s y z = tt

pub six_added : {T E : Type 0} (r : Result T E) (o s t u v w n a b c d e f : List ℕ) → s ≡ o ++ a → t ≡ s ++ b → u ≡ t ++ c → v ≡ u ++ d → w ≡ v ++ e → OnOk r (n ≡ w ++ f) →
    OnOk r (n ≡ o ++ (a ++ (b ++ (c ++ (d ++ (e ++ f))))))
six_added (Ok x) o s t u v w n a b c d e f p q y z g h = grind (arith, common_steps)
six_added (Err x) o s t u v w n a b c d e f p q y z g h = tt
