use Rattle.std.proofs.Common.{List, ◌≢◌, ◌≡◌, ◌<◌, ◌≤◌, length, refl, arith, sym, ap, subst, ◌∙◌, true, false, map, slice_index_or}
use Rattle.std.specs.Prelude.{Err}
use Rattle.std.proofs.lemmas.List.{take_all}
use Rattle.ipv4.specs.declared.addr.Addr.{Addr}
use Rattle.ipv4.specs.Prefixes.{IsPrefix}
use Rattle.hostc.specs.declared.types.HostRoute.{HostRoute}
use Rattle.routes.specs.declared.route.Route.{Route}
use Rattle.routes.specs.Routes.{IsTable, HasPrefix}
use Rattle.routes.proofs.Tables.{table-push}
use Rattle.hostc.specs.Setup.{said_by}
use Rattle.hostc.proofs.Tables.{too_many, no_prefix, not_taken, told_one_more}
use Rattle.hostc.proofs.setup.table.Goals as goal

-- src/setup.rt:74:13
pub returns-in_default-clause-valid : goal.returns-in_default-clause-valid
returns-in_default-clause-valid c = (
  λ e. absurd cc,
  λ v. let z : HostRoute = record { prefix = 0; gateway = 0; length = 0 } in let r : HostRoute = slice_index_or c.args.given.now c.loop-route.route-index z in
      let within : c.loop-route.route-index < length c.args.given.now = omega (arith, c.loop-route-test.true) in
      absurd (no_prefix c.args.given.now c.loop-route.route-index r z within refl
      (λ p. let wrong : false ≡ true = c.in_default.ensures.valid.1 (subst (λ (a : Addr). IsPrefix a r.length) (sym c.addr_of.ensures) p) in absurd cc) v),
)

-- src/setup.rt:77:13
pub returns-in_default-add-clause-valid : goal.returns-in_default-add-clause-valid
returns-in_default-add-clause-valid c = (
  λ e. absurd cc,
  λ v. let z : HostRoute = record { prefix = 0; gateway = 0; length = 0 } in
      let within : c.loop-route.route-index < length c.args.given.now = omega (arith, c.loop-route-test.true) in
      absurd (not_taken c.args.given.now c.loop-route.routes c.loop-route.route-index (slice_index_or c.args.given.now c.loop-route.route-index z) z c.in-Ok.prefix (Err c.in_default-add.field-0) within refl
      c.loop-route.invariant.0 (c.in-Ok.ensures.value.0 ∙ c.addr_of.ensures) c.in-Ok.ensures.value.1 c.in_default-add.ensures.same_prefix c.in_default-add.ensures.full refl v),
)

-- src/setup.rt:66:1
pub returns-clause-valid : goal.returns-clause-valid
returns-clause-valid c = (
  λ e. let past : length c.args.given.now ≤ c.loop-route.route-index = omega (arith, c.loop-route-test.false) in
      (c.loop-route.routes, c.loop-route.invariant.2, c.loop-route.invariant.0 ∙ ap (map said_by) (take_all c.loop-route.route-index c.args.given.now past)),
  λ v. refl,
)

-- src/setup.rt:72:5
pub loop-route-preserved : goal.loop-route-preserved
loop-route-preserved c =
    let route : Route = record { prefix = c.in-Ok.prefix; hop = c.hop_of.result } in let added = c.in-Ok-add.ensures in
    let none : ¬ HasPrefix c.loop-route.routes c.in-Ok.prefix = λ has. let wrong = added.same_prefix.1 has in absurd cc in
    let room : length c.loop-route.routes ≢ 32 = λ full. let wrong = added.full.1 (none, full) in absurd cc in
    let z : HostRoute = record { prefix = 0; gateway = 0; length = 0 } in let within : c.loop-route.route-index < length c.args.given.now = omega (arith, c.loop-route-test.true) in (
      told_one_more c.args.given.now c.loop-route.routes c.add.new.self c.loop-route.route-index (slice_index_or c.args.given.now c.loop-route.route-index z) z route within refl c.loop-route.invariant.0 added.ok
          (c.in-Ok.ensures.value.0 ∙ c.addr_of.ensures) c.in-Ok.ensures.value.1 c.hop_of.ensures,
      omega (arith, within),
      subst (λ (table : List Route). IsTable table) (sym added.ok) (table-push c.loop-route.routes route c.loop-route.invariant.2 none room),
    )
