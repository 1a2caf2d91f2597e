-- What a text of hexadecimal digits makes a sink take.
use Rattle.std.proofs.Common.{◌≡◌, List, ℕ, Option, Some, None, Result, Err, ap, ◌∙◌, subst, sym, IfSome}
use Rattle.std.specs.Result.{IsErrAnd}
use Rattle.decode.specs.declared.unreadable.Unreadable.{Unreadable}
use Rattle.commands.specs.declared.fault.TextFault.{TextFault}
use Rattle.commands.specs.declared.fault.TextFault.TheVariants.{Write}
use Rattle.devices.specs.Streams.{TakesFront}
use Rattle.commands.specs.Hex.{IsPrinted, TakesPrinted}
use Rattle.commands.proofs.SimLemmas.{passed_on}

-- a sink that fails took a front of what is printed
pub front_taken : (told : Option (List ℕ)) (text : List ℕ) (cause : Option Unreadable) (printed : List ℕ) (r : Result (Option Unreadable) TextFault) (fault : TextFault)
    (old new : Option (List ℕ)) → IsErrAnd r (λ e. e ≡ fault) → fault ≡ Write → IfSome told (λ t. text ≡ t) →
    IsPrinted text cause printed → TakesFront old new printed → IfSome told (λ t. TakesPrinted t r old new)
front_taken None text cause printed r fault old new passed is all shown front = all
front_taken (Some t) text cause printed r fault old new passed is all shown front =
    subst (λ outcome. TakesPrinted t outcome old new) (sym (passed_on r fault passed ∙ ap Err is))
    (subst (λ read. TakesPrinted read (Err Write) old new) all (cause, printed, shown, front))
