use Rattle.std.proofs.Common.{◌≡◌, ◌-◌, ℕ, List, [], Option, refl, ap, drop, take, length, arith}
use Rattle.std.proofs.lemmas.List.{length-take, length-drop, take_all}
use Rattle.std.proofs.lemmas.Result.{err_from_is_err_and}
use Rattle.std.specs.Option.{unwrap_or}
use Rattle.tcp_segment.specs.Options.{HeaderOption}
use Rattle.tcp_segment.specs.Reading.{options_behind}
use Rattle.tcp_segment.proofs.Results.{ok_or_ok, ok_or_err}
use Rattle.tcp_segment.proofs.OptionLists.{told_options, told_nothing}
use Rattle.tcp_segment.proofs.Form.{header_facts, fields_form, no_options}
use Rattle.tcp_segment.proofs.view.TcpView.form.Goals as goal

pub returns-in_err-told_by-clause-err : goal.returns-in_err-told_by-clause-err
returns-in_err-told_by-clause-err c =
    let xs = c.args.segment.now in
    let area : List ℕ = take (c.in_ok-header.header - 20) (drop 20 xs) in
    let header = ok_or_ok _ _ _ _ c.header_len.ensures c.in_ok-header.was in
    let none = ok_or_err _ _ _ _ c.told_by.ensures c.in_err-told_by.was in
    let p = err_from_is_err_and c.from_residual-in_err-told_by.result c.from_residual-in_err-told_by.ensures.1 in
    rw (p.1, p.2) (none.1, λ other. no_options other xs _ header (told_nothing (options_behind area 0) none.0))

pub invariant_of-result : goal.invariant_of-result
invariant_of-result c =
    let xs = c.args.segment.now in
    let header = c.in_ok-header.header in
    let area : List ℕ = take (header - 20) (drop 20 xs) in
    let facts = header_facts xs header (ok_or_ok _ _ _ _ c.header_len.ensures c.in_ok-header.was) in
    let read = told_options (options_behind area 0) _ (ok_or_ok _ _ _ _ c.told_by.ensures c.in_ok-told_by.was) in
    (rw read.1 refl, omega (arith, facts, length-take (length xs - header) (drop header xs), length-drop header xs))

pub returns-clause-ok : goal.returns-clause-ok
returns-clause-ok c =
    let xs = c.args.segment.now in
    let header = c.in_ok-header.header in
    let area : List ℕ = take (header - 20) (drop 20 xs) in
    let is_header = ok_or_ok _ _ _ _ c.header_len.ensures c.in_ok-header.was in
    let read = told_options (options_behind area 0) _ (ok_or_ok _ _ _ _ c.told_by.ensures c.in_ok-told_by.was) in
    let rest : take (length xs - header) (drop header xs) ≡ drop header xs = take_all _ _ (omega (arith, length-drop header xs)) in
    fields_form xs header _ _ _ _ _ _ _ read.0 (unwrap_or (options_behind area 0) []) (take (length xs - header) (drop header xs))
    (λ i. omega (arith, c.type_inv.segment i)) is_header read.1
    c.u16_at.ensures c.u16_at-2.ensures c.u32_at.ensures c.u32_at-2.ensures refl c.u16_at-3.ensures c.u16_at-4.ensures
    (ap (λ (o : Option (List HeaderOption)). unwrap_or o []) read.1) rest
