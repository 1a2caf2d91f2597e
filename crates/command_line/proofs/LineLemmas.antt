-- clap's meaning of the program's command.
use Rattle.std.proofs.Common.{◌≡◌, List, [], Option, Some, None, Bool, true, false, ◌||◌, option_map, if◌then◌else◌, Result, Ok, Err, IfErr, subst, refl, ap, sym, ◌∙◌}
use Rattle.std.specs.Str.{bytes_eq}
use Rattle.std.specs.Result.{IsErrAnd}
use Rattle.std.proofs.lemmas.Slice.Eq.{bytes_eq-Decides}
use Rattle.std.specs.Box.{box_value}
use Rattle.clap.specs.Simple.{subcommand_rows}
use Rattle.clap.specs.declared.parser.matches.ArgMatches.TheViews.{out-SubCommand}
use Rattle.clap.specs.Words.{App, Row, Text, HasMatchesOf, first_of, subcommand_name_of, subcommand_rows_of, is_simple}
use Rattle.clap.specs.Faults.{fault_of, is_simple_and_free}
use Rattle.clap.specs.Kinds.{HasKind}
use Rattle.clap.specs.declared.error.Error.{Error}
use Rattle.clap.proofs.OnLiterals.{clap_on_literals}
use Rattle.clap.specs.declared.parser.matches.ArgMatches.{ArgMatches}
use Rattle.clap.specs.declared.parser.matches.ArgMatches.TheViews.{out-ArgMatches}
use Rattle.command_line.specs.declared.request.Line.{Line}
use Rattle.command_line.specs.Line.{hostd_command, value_of, asked_of, asked_in, asked_by}

pub simple : is_simple hostd_command ≡ true
unfolding clap_on_literals
simple = refl

pub simple_and_free : is_simple_and_free hostd_command ≡ true
unfolding clap_on_literals
simple_and_free = refl

-- the name of the command that was met
pub name_of_rows : (m : ArgMatches) → option_map (λ p. p.0) (subcommand_rows_of m) ≡ subcommand_name_of m
name_of_rows m =
    elim ((out-ArgMatches m).subcommand)
    as (λ o. option_map (λ p. p.0) (subcommand_rows o) ≡ option_map (λ b. (out-SubCommand (box_value b)).name.now) o)
    [ None ↦ refl | Some b ↦ refl ]

when : (b : Bool) (x : Option Text) → b ≡ true → (if b then x else None) ≡ x
when true x is = refl
when false x is = cc

-- where it is this command, the value is that in its rows
pub value_given : (command id : Text) (met : Option (Text × List Row)) (rows : List Row) → option_map (λ p. p.0) met ≡ Some command →
    option_map (λ p. p.1) met ≡ Some rows → value_of command id met ≡ first_of id rows
value_given command id None rows named has = cc
value_given command id (Some p) rows named has =
    let name : p.0 ≡ command = cc in
    let given : p.1 ≡ rows = cc in
    ap (λ n. value_of command id (Some (n, p.1))) name ∙ when (bytes_eq command command) (first_of id p.1) ((bytes_eq-Decides command command).1 refl)
    ∙ ap (first_of id) given

unless : (b : Bool) (x : Option Text) → (b ≡ true → ⊥) → (if b then x else None) ≡ None
unless true x never = absurd (never refl)
unless false x never = refl

-- where it isn't, there is none
pub no_value : (command id : Text) (met : Option (Text × List Row)) → (option_map (λ p. p.0) met ≡ Some command → ⊥) → value_of command id met ≡ None
no_value command id None other = refl
no_value command id (Some p) other =
    unless (bytes_eq p.0 command) (first_of id p.1)
    (λ same. other (ap Some ((bytes_eq-Decides p.0 command).0 same)))

-- what holds of the error that a `?` passes on
pub err_passed : {T E : Type 0} (P : E → Type 0) (r : Result T E) (f : E) → IsErrAnd r (λ e. e ≡ f) → P f → IfErr r P
err_passed P (Ok x) f is holds = tt
err_passed P (Err e) f is holds = subst P (sym is) holds

-- what a command that is the program's says of its faults
pub kind_along : (a b : App) (words : List Text) (e : Error) → a ≡ b → HasKind (fault_of a words) e → HasKind (fault_of b words) e
kind_along a b words e same has = let P : App → Type 0 = λ x. HasKind (fault_of x words) e in subst P same has

pub none_along : (a b : App) (words : List Text) → a ≡ b → fault_of a words ≡ [] → fault_of b words ≡ []
none_along a b words same none = let P : App → Type 0 = λ x. fault_of x words ≡ [] in subst P same none

pub or_false : (b : Bool) → (b || false) ≡ b
or_false true = refl
or_false false = refl

-- the words ask for what is asked by what clap met
pub asked_along : (a : App) (words : List Text) (m : ArgMatches) (line : Option Line) → a ≡ hostd_command → HasMatchesOf a words m
    → option_map asked_by line ≡ asked_of (subcommand_rows_of m) → asked_in words ≡ option_map asked_by line
asked_along a words m line is has asks =
    let P : App → Type 0 = λ x. HasMatchesOf x words m in
    let met = subst P is has simple in
    ap asked_of (sym met.1) ∙ sym asks
