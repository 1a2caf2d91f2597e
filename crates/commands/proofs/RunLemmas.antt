-- What a run of a script makes its sink take.
use Rattle.std.proofs.Common.{◌≡◌, ℕ, List, [], ◌++◌, inl, inr, Option, Some, None, Result, Ok, Err, Bool, IfErr, OnOk, IfSome, ◌⊎◌, true, false, slice_get, option_to_list, refl, ap, sym, subst, ◌∙◌, append_assoc, append-nil}
use Rattle.std.specs.Result.{IsErrAnd}
use Rattle.std.specs.Io.KnownBytes.{Appends, Keeps}
use Rattle.sides.specs.declared.side.Side.{Side}
use Rattle.sides.specs.declared.side.Side.TheVariants.{A, B}
use Rattle.host.specs.ConfigView.{ConfigView}
use Rattle.wire_sim.specs.Hosts.{IsSetUp}
use Rattle.wire_sim.specs.WorldView.{WorldView, fresh_world}
use Rattle.wire_sim.proofs.HostsAreSetUp.{set_up, is_set_up, scaled_anew}
use Rattle.script.specs.declared.lines.Setting.{Setting}
use Rattle.script.specs.declared.lines.Command.{Command}
use Rattle.commands.specs.declared.fault.TextFault.{TextFault}
use Rattle.commands.specs.declared.fault.TextFault.TheVariants.{Line, TooLong, NotHex, Header, Record, Read, Write, NoMemory}
use Rattle.std.specs.Option.{IsSomeAnd}
use Rattle.script.specs.Words.{lines_of}
use Rattle.script.specs.Script.{limits_of, scales_in, setting_of, commands_of}
use Rattle.commands.specs.Sim.{write_fails_in, is_before_run, run_in_all}
use Rattle.devices.specs.Streams.{TakesFront}
use Rattle.commands.specs.Moved.{TakesAllBut}
use Rattle.commands.specs.Play.{HasPrinted, starts, IsPlayed, IsCutShort, IsLeft, IsFirst, limit_by, setting_lines, IsPrintedTo, IsTold, TakesRun, TakesPrinted, TakesPrintedBy, TakesBoth}
use Rattle.commands.specs.Recording.{TakesCapture}
use Rattle.commands.specs.declared.sim.Ends.{Ends}
use Rattle.commands.proofs.PlayLemmas.{stayed}
use Rattle.devices.proofs.Moving.{Appends-more, Keeps-appends}

pub kept : (o : Option (List ℕ)) → Keeps o o
kept None = tt
kept (Some xs) = refl

-- a host that is set up and uses the option, or doesn't, as is said
pub set_up_with : (was scales : Bool) (side : Side) (old new : ConfigView) → IsSetUp was side old → new ≡ record old { manner = record old.manner { scales = scales } } →
    IsSetUp scales side new
set_up_with was scales side old new is changed = rw changed (scaled_anew was scales side old is)

-- the world before the first command can be made
first_of : Setting → WorldView
first_of setting = fresh_world (set_up setting.scales A) (set_up setting.scales B) (limit_by setting.limit)

is_first : (setting : Setting) → IsFirst setting (first_of setting)
unfolding first_of
is_first setting =
    record {
      a = set_up setting.scales A;
      b = set_up setting.scales B;
      a_is = is_set_up setting.scales A;
      b_is = is_set_up setting.scales B;
      fresh = refl;
    }

-- memory ran out before anything was run in a world that was made
pub nothing_run : (r : Result (Unit {0}) TextFault) (fault : TextFault) (setting : Setting) (commands : List Command) (world : WorldView)
    (old : Option (List ℕ)) → IsErrAnd r (λ e. e ≡ fault) → fault ≡ NoMemory → IsFirst setting world → TakesRun r setting commands world old old
nothing_run (Ok done) fault setting commands world old is memory first = absurd is
nothing_run (Err e) fault setting commands world old is memory first =
    rw (is, memory)
    ([], commands, setting_lines setting ++ [], world, refl, ([], world, first, starts, refl), inr (Keeps-appends old old (kept old)), stayed commands world)

-- what a run prints, whatever world it leads to
pub as_printed : (r : Result (Unit {0}) TextFault) (setting : Setting) (commands : List Command) (after : WorldView) (old new : Option (List ℕ)) →
    TakesRun r setting commands after old new → TakesPrinted r setting commands old new
as_printed (Ok done) setting commands after old new run =
    let to : IsPrintedTo setting commands run.0 after = run.1 in
    (run.0, (to.0, to.1, after, to.2, to.3, to.4), run.2)
as_printed (Err fault) setting commands after old new run =
    let to : IsPrintedTo setting run.0 run.2 run.3 = run.5 in
    (run.0, run.1, run.2, run.4, (to.0, to.1, run.3, to.2, to.3, to.4), run.6)

-- what was printed from the first world on, behind what the setting prints
printed_from : (setting : Setting) (world w : WorldView) (commands : List Command) (before text : List ℕ) → IsFirst setting world →
    before ≡ setting_lines setting → HasPrinted world commands text w → IsPrintedTo setting commands (before ++ text) w
printed_from setting world w commands before text first as_set printed =
    (text, world, first, printed, ap (λ b. b ++ text) as_set)

-- what waited went too
pub all_taken : (old mid new : Option (List ℕ)) (octets waiting : List ℕ) → TakesAllBut old mid octets waiting → Appends mid new waiting → Appends old new octets
all_taken old mid new octets waiting first second =
    subst (λ l. Appends old new l) (sym first.1) (Appends-more old mid new first.0 waiting first.2 second)

-- or a front of it
pub front_taken : (old mid new : Option (List ℕ)) (octets waiting : List ℕ) → TakesAllBut old mid octets waiting → TakesFront mid new waiting →
    TakesFront old new octets
front_taken old mid new octets waiting first second = (
  first.0 ++ second.0,
  second.1,
  first.1 ∙ ap (λ l. first.0 ++ l) second.2 ∙ sym (append_assoc first.0 second.0 second.1),
  Appends-more old mid new first.0 second.0 first.2 second.3,
)

-- a fault that isn't the sink's leaves all but what waits
left_but : (fault : TextFault) (old new : Option (List ℕ)) (octets waiting : List ℕ) → (fault ≡ Write → ⊥) → IsLeft fault old new octets waiting →
    TakesAllBut old new octets waiting
left_but (Line n) old new octets waiting other left = left
left_but TooLong old new octets waiting other left = left
left_but NotHex old new octets waiting other left = left
left_but (Header f) old new octets waiting other left = left
left_but (Record f) old new octets waiting other left = left
left_but Read old new octets waiting other left = left
left_but Write old new octets waiting other left = absurd (other refl)
left_but NoMemory old new octets waiting other left = left

told_as : (fault : TextFault) (old new : Option (List ℕ)) (printed : List ℕ) → (fault ≡ Write → ⊥) → Appends old new printed → IsTold fault old new printed
told_as (Line n) old new printed other all = inl all
told_as TooLong old new printed other all = inl all
told_as NotHex old new printed other all = inl all
told_as (Header f) old new printed other all = inl all
told_as (Record f) old new printed other all = inl all
told_as Read old new printed other all = inl all
told_as Write old new printed other all = absurd (other refl)
told_as NoMemory old new printed other all = inl all

-- the sink failed within the run
pub told_cut : (r : Result (Unit {0}) TextFault) (setting : Setting) (commands : List Command) (world after : WorldView) (old new : Option (List ℕ))
    (before waiting : List ℕ) → IsFirst setting world → before ≡ setting_lines setting → r ≡ Err Write →
    IfErr r (λ fault. IsCutShort fault world after commands old new before waiting) → TakesRun r setting commands after old new
told_cut r setting commands world after old new before waiting first as_set is cut = rw is (tell (rw is at cut))
  where
    tell : IsCutShort Write world after commands old new before waiting → TakesRun (Err Write) setting commands after old new
    tell c = (c.0, c.1, before ++ c.2, c.3, c.4, printed_from setting world c.3 c.0 before c.2 first as_set c.5, c.6, c.7)

-- the run ended otherwise, and the sink took what waited
pub told_all : (r : Result (Unit {0}) TextFault) (setting : Setting) (commands : List Command) (world after : WorldView) (old mid new : Option (List ℕ))
    (before waiting : List ℕ) → IsFirst setting world → before ≡ setting_lines setting → (r ≡ Err Write → ⊥) →
    OnOk r (IsPlayed world after commands old mid before waiting) → IfErr r (λ fault. IsCutShort fault world after commands old mid before waiting) →
    Appends mid new waiting → TakesRun r setting commands after old new
told_all (Ok done) setting commands world after old mid new before waiting first as_set other played cut more = (
  before ++ played.0,
  printed_from setting world after commands before played.0 first as_set played.1,
  all_taken old mid new (before ++ played.0) waiting played.2 more,
)
told_all (Err fault) setting commands world after old mid new before waiting first as_set other played cut more =
    let no_sink : fault ≡ Write → ⊥ = λ sink. other (ap Err sink) in (
      cut.0,
      cut.1,
      before ++ cut.2,
      cut.3,
      cut.4,
      printed_from setting world cut.3 cut.0 before cut.2 first as_set cut.5,
      told_as fault old new (before ++ cut.2) no_sink
          (all_taken old mid new (before ++ cut.2) waiting (left_but fault old mid (before ++ cut.2) waiting no_sink cut.6) more),
      cut.7,
    )

-- the run ended otherwise, and then the sink failed
pub told_front : (r told : Result (Unit {0}) TextFault) (fault : TextFault) (setting : Setting) (commands : List Command) (world after : WorldView)
    (old mid new : Option (List ℕ)) (before waiting : List ℕ) → IsFirst setting world → before ≡ setting_lines setting → (r ≡ Err Write → ⊥) →
    OnOk r (IsPlayed world after commands old mid before waiting) → IfErr r (λ e. IsCutShort e world after commands old mid before waiting) →
    IsErrAnd told (λ e. e ≡ fault) → (fault ≡ Write) × TakesFront mid new waiting → TakesRun told setting commands after old new
told_front r (Ok done) fault setting commands world after old mid new before waiting first as_set other played cut is front = absurd is
told_front (Ok done) (Err e) fault setting commands world after old mid new before waiting first as_set other played cut is front =
    rw (is, front.0) (
      commands,
      [],
      before ++ played.0,
      after,
      sym (append-nil commands),
      printed_from setting world after commands before played.0 first as_set played.1,
      front_taken old mid new (before ++ played.0) waiting played.2 front.1,
      refl,
    )
told_front (Err earlier) (Err e) fault setting commands world after old mid new before waiting first as_set other played cut is front =
    let no_sink : earlier ≡ Write → ⊥ = λ sink. other (ap Err sink) in
    rw (is, front.0) (
      cut.0,
      cut.1,
      before ++ cut.2,
      cut.3,
      cut.4,
      printed_from setting world cut.3 cut.0 before cut.2 first as_set cut.5,
      front_taken old mid new (before ++ cut.2) waiting (left_but earlier old mid (before ++ cut.2) waiting no_sink cut.6) front.1,
      cut.7,
    )

-- the test of the sink's fault
pub is_write : (r : Result (Unit {0}) TextFault) → write_fails_in r ≡ true → r ≡ Err Write
is_write (Ok done) test = cc
is_write (Err (Line n)) test = cc
is_write (Err TooLong) test = cc
is_write (Err NotHex) test = cc
is_write (Err (Header f)) test = cc
is_write (Err (Record f)) test = cc
is_write (Err Read) test = cc
is_write (Err Write) test = refl
is_write (Err NoMemory) test = cc

pub is_no_write : (r : Result (Unit {0}) TextFault) → write_fails_in r ≡ false → r ≡ Err Write → ⊥
is_no_write r test is = let same : true ≡ false = sym (ap write_fails_in is) ∙ test in cc

-- nothing was run
none_told : (fault : TextFault) (setting : Setting) (commands : List Command) (old : Option (List ℕ)) → (fault ≡ Write → ⊥) →
    TakesPrinted (Err fault) setting commands old old
none_told fault setting commands old other =
    ([], commands, setting_lines setting ++ [], refl, ([], first_of setting, first_of setting, is_first setting, starts, refl), none fault other)
  where
    none : (f : TextFault) → (f ≡ Write → ⊥) → IsTold f old old (setting_lines setting ++ [])
    none (Line n) o = inr (Keeps-appends old old (kept old))
    none TooLong o = inr (Keeps-appends old old (kept old))
    none NotHex o = inr (Keeps-appends old old (kept old))
    none (Header f) o = inr (Keeps-appends old old (kept old))
    none (Record f) o = inr (Keeps-appends old old (kept old))
    none Read o = inr (Keeps-appends old old (kept old))
    none Write o = absurd (o refl)
    none NoMemory o = inr (Keeps-appends old old (kept old))

pub none_told_by : (told : Option (List ℕ)) (r : Result (Unit {0}) TextFault) (fault : TextFault) (old : Option (List ℕ)) →
    IsErrAnd r (λ e. e ≡ fault) → (fault ≡ Write → ⊥) → IfSome told (λ octets. TakesPrintedBy octets r old old)
none_told_by None r fault old is other = tt
none_told_by (Some octets) (Ok done) fault old is other = absurd is
none_told_by (Some octets) (Err e) fault old is other = rw is (none_told fault (setting_of octets) (commands_of (lines_of octets)) old other)

pub none_told_all : (told : Option (List ℕ)) (r : Result Ends TextFault) (fault : TextFault) (old : Option (List ℕ)) →
    IsErrAnd r (λ e. e ≡ fault) → (fault ≡ Write → ⊥) → IfSome told (λ octets. TakesPrintedBy octets (run_in_all r) old old)
none_told_all told (Ok ends) fault old is other = absurd is
none_told_all told (Err e) fault old is other = none_told_by told (Err e) fault old is other

-- a fault before the run isn't the sink's
pub no_write_before : (fault : TextFault) → (is_before_run fault ≡ true) ⊎ (fault ≡ NoMemory) → fault ≡ Write → ⊥
no_write_before fault (inl before) is = let same : true ≡ false = sym before ∙ ap is_before_run is in cc
no_write_before fault (inr memory) is = cc

pub no_write_in_line : (fault : TextFault) (o : Option ℕ) → (fault ≡ NoMemory) ⊎ IsSomeAnd o (λ n. fault ≡ Line n) → fault ≡ Write → ⊥
no_write_in_line fault o (inl memory) is = cc
no_write_in_line fault None (inr bad) is = absurd bad
no_write_in_line fault (Some n) (inr bad) is = cc

-- the limit of a script is the one that its lines say
limit_said_once : (limit : Option ℕ) → limit ≡ slice_get (option_to_list limit) 0
limit_said_once None = refl
limit_said_once (Some n) = refl

-- so the setting is the one that its octets say
pub setting_said : (setting : Setting) (octets : List ℕ) → setting.scales ≡ scales_in (lines_of octets) →
    option_to_list setting.limit ≡ limits_of (lines_of octets) → setting ≡ setting_of octets
setting_said setting octets scaled limits =
    let with_scale : Bool → Setting = λ b. record { scales = b; limit = setting.limit } in
    let with_limit : Option ℕ → Setting = λ l. record { scales = scales_in (lines_of octets); limit = l } in
    ap with_scale scaled ∙ ap with_limit (limit_said_once setting.limit ∙ ap (λ l. slice_get l 0) limits)

-- a run of a script's commands is what its octets ask for
pub told_by : (told : Option (List ℕ)) (octets : List ℕ) (r : Result (Unit {0}) TextFault) (setting : Setting) (commands : List Command)
    (old new : Option (List ℕ)) → IfSome told (λ t. octets ≡ t) → commands ≡ commands_of (lines_of octets) →
    setting ≡ setting_of octets → TakesPrinted r setting commands old new → IfSome told (λ t. TakesPrintedBy t r old new)
told_by None octets r setting commands old new all said as_set taken = tt
told_by (Some t) octets r setting commands old new all said as_set taken =
    subst (λ x. TakesPrintedBy x r old new) all
    (subst (λ x. TakesPrinted r x (commands_of (lines_of octets)) old new) as_set (subst (λ x. TakesPrinted r setting x old new) said taken))

-- and in which world it ended
pub run_by : (told : Option (List ℕ)) (octets : List ℕ) (ends : Ends) (setting : Setting) (commands : List Command) (w : WorldView)
    (old new old_capture new_capture : Option (List ℕ)) → IfSome told (λ t. octets ≡ t) → commands ≡ commands_of (lines_of octets) →
    setting ≡ setting_of octets → TakesRun ends.run setting commands w old new →
    TakesCapture ends.capture w old_capture new_capture → IfSome told (λ t. TakesBoth t ends old new old_capture new_capture)
run_by None octets ends setting commands w old new old_capture new_capture all said as_set taken captured = tt
run_by (Some t) octets ends setting commands w old new old_capture new_capture all said as_set taken captured =
    subst (λ x. TakesBoth x ends old new old_capture new_capture) all (
      w,
      subst (λ x. TakesRun ends.run x (commands_of (lines_of octets)) w old new) as_set (subst (λ x. TakesRun ends.run setting x w old new) said taken),
      captured,
    )
