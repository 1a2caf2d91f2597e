-- Where all that frames carry at each position is one octet, that text is read.
use Rattle.std.proofs.Common.{◌≡◌, ℕ, ◌+◌, true, List, [], ◌∷◌, ◌++◌, length, drop, Some, arith, refl, ◌∙◌, ap, append-nil, length-append}
use Rattle.std.specs.List.{slice_get}
use Rattle.sockets.specs.declared.entry.SocketId.{SocketId}
use Rattle.stream_law.specs.Begins.{Begins}
use Rattle.stream_law.proofs.Lists.{is_beginning}
use Rattle.host.specs.ConfigView.{ConfigView}
use Rattle.host_law.specs.Callers.{ended_at, read_on}
use Rattle.host_law.specs.Coming.{Brings, BringsEnd}
use Rattle.host_law.specs.History.{Step, Once}
use Rattle.host_law.specs.HostLaw.{ReadsWhatCame}

module _ (c : ConfigView) (id : SocketId) (steps : List Step) (text : List ℕ) (law : ReadsWhatCame c id steps) (agrees : (k octet : ℕ) → Once (Brings c id (k + 1) octet) steps → slice_get text k ≡ Some octet) where
  pub begins : Begins (read_on id steps) text
  begins = record { rest = drop (length (read_on id steps)) text; begins = is_beginning (read_on id steps) text (λ k octet there. agrees k octet (law.octets k octet there)) }

  nothing_left : (rest : List ℕ) → length rest ≡ 0 → rest ≡ []
  nothing_left [] e = refl
  nothing_left (x ∷ rest) e = cc

  pub whole : ((position : ℕ) → Once (BringsEnd c id position) steps → position ≡ length text + 1) → Once (λ step earlier. ended_at id step.before step.event ≡ true) steps → text ≡ read_on id steps
  whole ends told =
      let rest = begins.rest in
      let at : length (read_on id steps) + 1 ≡ length text + 1 = ends (length (read_on id steps) + 1) (law.end told) in
      let size : length text ≡ length (read_on id steps) + length rest = ap length begins.begins ∙ length-append (read_on id steps) rest in
      begins.begins ∙ ap (λ l. read_on id steps ++ l) (nothing_left rest (omega (arith, at, size))) ∙ append-nil (read_on id steps)
