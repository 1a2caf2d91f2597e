use Rattle.std.proofs.Common.{◌≡◌, ◌≢◌, length, true, refl, sym, ◌∙◌}
use Rattle.std.proofs.lemmas.Bool.{eqb-true, eq-eqb}
use Rattle.routes.specs.Routes.{HasPrefix}
use Rattle.routes.proofs.Tables.{table-push}
use Rattle.routes.proofs.table.Routes.add.Goals as goal

pub returns-then-has_prefix-clause-same_prefix : goal.returns-then-has_prefix-clause-same_prefix
returns-then-has_prefix-clause-same_prefix c = rw (← c.self.view_is, ← c.as_slice.ensures.value) (λ _. c.has_prefix.ensures.0 c.if-has_prefix.true, λ _. refl)

pub returns-then-has_prefix-clause-full : goal.returns-then-has_prefix-clause-full
returns-then-has_prefix-clause-full c =
    rw (← c.self.view_is, ← c.as_slice.ensures.value) (λ e. absurd cc, λ both. absurd (both.0 (c.has_prefix.ensures.0 c.if-has_prefix.true)))

pub returns-then-is_full-clause-same_prefix : goal.returns-then-is_full-clause-same_prefix
returns-then-is_full-clause-same_prefix c =
    let no = c.if-has_prefix.false in
    rw (← c.self.view_is, ← c.as_slice.ensures.value) (λ e. absurd cc, λ has. let yes : c.has_prefix.result ≡ true = c.has_prefix.ensures.1 has in absurd cc)

pub returns-then-is_full-clause-full : goal.returns-then-is_full-clause-full
returns-then-is_full-clause-full c =
    let no = c.if-has_prefix.false in
    let new : HasPrefix c.as_slice.result.now c.args.prefix → ⊥ = λ has. let yes : c.has_prefix.result ≡ true = c.has_prefix.ensures.1 has in absurd cc in
    let full : length c.self.inside.entries.items ≡ 32 = eqb-true (length c.self.inside.entries.items) 32 (sym c.is_full.ensures.value ∙ c.if-is_full.true) in
    let same = c.as_slice.ensures.value in
    rw (← c.self.view_is, ← same) (λ _. (new, rw same full), λ _. refl)

pub invariant_of-self : goal.invariant_of-self
invariant_of-self c =
    let items = c.self.inside.entries.items in
    let no = c.if-has_prefix.false in
    let not_full = c.if-is_full.false in
    let new : HasPrefix items c.args.prefix → ⊥ =
    λ has. let yes : c.has_prefix.result ≡ true = c.has_prefix.ensures.1 (rw c.as_slice.ensures.value has) in absurd cc in
    let room : length items ≢ 32 = λ full. let yes : c.is_full.result ≡ true = c.is_full.ensures.value ∙ eq-eqb (length items) 32 full in absurd cc in
    rw c.push.ensures.items (table-push items (record { prefix = c.args.prefix; hop = c.args.hop }) c.self.invariant new room)

pub returns-clause-same_prefix : goal.returns-clause-same_prefix
returns-clause-same_prefix c =
    let no = c.if-has_prefix.false in
    rw (← c.self.view_is, ← c.as_slice.ensures.value) (λ e. absurd cc, λ has. let yes : c.has_prefix.result ≡ true = c.has_prefix.ensures.1 has in absurd cc)
