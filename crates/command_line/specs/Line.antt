-- What the words of a command line ask for, by clap's meaning of the program's command.
use Rattle.std.specs.Prelude.{ℕ, List, Option, Some, None, Bool, true, false, codes, option_and_then, option_map, if◌then◌else◌}
use Rattle.std.specs.Option.{option_map_or}
use Rattle.std.specs.Str.{bytes_eq}
use Rattle.std.specs.Str.Parse.{digits_value, without_leading_plus}
use Rattle.clap.specs.Words.{App, Row, Text, first_of, new_app, new_rule, with_rule, with_subcommand, subcommand_of}
use Rattle.clap.specs.ValueTests.{is_unsigned_in}
use Rattle.clap.specs.declared.builder.action.ArgAction.TheVariants.{SetTrue}
use Rattle.ladder.specs.declared.numbers.Numbering.{Numbering}
use Rattle.ladder.specs.declared.numbers.Numbering.TheVariants.{Relative, Absolute}
use Rattle.clap.specs.declared.builder.value_parser.ValueParser.TheVariants.{Unsigned}
use Rattle.udp_link.specs.declared.every.Every.{Every}
use Rattle.command_line.specs.declared.request.Line.{Line}
use Rattle.command_line.specs.declared.request.Line.TheVariants.{Sim, Decode, DecodeAll, Copy}

-- a command with a file more, which must be given
abbrev pub with_file : Text → App → App
with_file file command = with_rule command (record (new_rule file) { required = true })

-- a command with one file, which must be given
abbrev pub file_command : Text → Text → App
file_command command file = with_file file (new_app command)

-- a command with a flag more, which may be there or not
abbrev pub with_flag : Text → App → App
with_flag name command = with_rule command (record (new_rule name) { long = Some name; action = Some SetTrue })

-- a command with an option more, which may be there with one value, or not
abbrev pub with_option : Text → App → App
with_option name command = with_rule command (record (new_rule name) { long = Some name; value_names = 1 })

-- a command with an option more, which may be there with a number from 2 to 1,000,000
abbrev pub with_step : Text → App → App
with_step name command = with_rule command (record (new_rule name) { long = Some name; value_names = 1; parser = Some (Unsigned 2 1000000) })

-- `sim SCRIPT`, and it may have `--pcap FILE`, `--ladder` and `--absolute`
abbrev pub sim_command : App
sim_command = with_flag (codes "absolute") (with_flag (codes "ladder") (with_option (codes "pcap") (file_command (codes "sim") (codes "SCRIPT"))))

-- `decode FILE`, or `decode --pcap FILE`
abbrev pub decode_command : App
decode_command = with_flag (codes "pcap") (file_command (codes "decode") (codes "FILE"))

-- `copy SRC DST`, and it may have `--lose N`, `--repeat N`, `--pcap FILE` and `--progress`
abbrev pub copy_command : App
copy_command = with_flag (codes "progress") (with_option (codes "pcap") (with_step (codes "repeat") (with_step (codes "lose") (with_file (codes "DST") (file_command (codes "copy") (codes "SRC"))))))

-- `hostd`, without its commands
abbrev pub bare_command : App
bare_command = let bare = new_app (codes "hostd") in record bare { top = record bare.top { subcommand_required = true } }

-- `hostd`, and one of its commands
abbrev pub hostd_command : App
hostd_command = with_subcommand (with_subcommand (with_subcommand bare_command sim_command.top) decode_command.top) copy_command.top

-- what an argument of a command has for its value, where that is the command
abbrev pub value_of : Text → Text → Option (Text × List Row) → Option Text
value_of command id met = option_and_then (λ met. if bytes_eq met.0 command then first_of id met.1 else None) met

-- whether this is the value of a flag that is there, which clap calls `true`
abbrev pub is_set : Option Text → Bool
is_set value = option_map_or (λ text. bytes_eq text (codes "true")) value false

-- of how many frames one is meant by a text, where clap takes it as a number from 2 to 1,000,000
abbrev pub step_of : Text → Option ℕ
step_of text = if is_unsigned_in 2 1000000 text then Some (digits_value 10 (without_leading_plus text)) else None

-- the same by the value of an option that may be there
abbrev pub step_in : Option Text → Option (Option ℕ)
step_in None = Some None
step_in (Some text) = option_map Some (step_of text)

-- what may be asked for: to run the script in a file, to write a capture of it to another, if one is told, and to print its ladder, if its numbers
-- are asked for; to print what the frame in a file says, or what the frames of the capture in one say; to copy a file to another, to write a capture
-- of its frames to a third, if one is told, where one of so many frames is lost and one of so many is sent twice, and to say meanwhile how far it is
pub data Asked : Type 0 where
  ToRun : Text → Option Text → Option Numbering → Asked
  ToDecode : Text → Asked
  ToDecodeAll : Text → Asked
  ToCopy : Text → Text → Option Text → Option ℕ → Option ℕ → Bool → Asked

-- what is asked of a file for `decode`, with `--pcap` or without it
abbrev pub decode_asked : Bool → Text → Asked
decode_asked true file = ToDecodeAll file
decode_asked false file = ToDecode file

-- how the numbers of a ladder are told, where one is asked for: by `--ladder` or by `--absolute`
abbrev pub numbering_asked : Bool → Bool → Option Numbering
numbering_asked ladder true = Some Absolute
numbering_asked true false = Some Relative
numbering_asked false false = None

-- what is asked by each command, where it is the one that was met
abbrev pub sim_in : Option (Text × List Row) → Option Asked
sim_in met =
    option_map (λ script. ToRun script (value_of (codes "sim") (codes "pcap") met)
    (numbering_asked (is_set (value_of (codes "sim") (codes "ladder") met)) (is_set (value_of (codes "sim") (codes "absolute") met))))
    (value_of (codes "sim") (codes "SCRIPT") met)

abbrev pub decode_in : Option (Text × List Row) → Option Asked
decode_in met = option_map (decode_asked (is_set (value_of (codes "decode") (codes "pcap") met))) (value_of (codes "decode") (codes "FILE") met)

abbrev pub copy_in : Option (Text × List Row) → Option Asked
copy_in met =
    option_and_then (λ source. option_and_then (λ destination. option_and_then (λ lose. option_map (λ repeat.
    ToCopy source destination (value_of (codes "copy") (codes "pcap") met) lose repeat (is_set (value_of (codes "copy") (codes "progress") met)))
    (step_in (value_of (codes "copy") (codes "repeat") met)))
    (step_in (value_of (codes "copy") (codes "lose") met)))
    (value_of (codes "copy") (codes "DST") met))
    (value_of (codes "copy") (codes "SRC") met)

abbrev pub asked_from : Option Asked → Option Asked → Option Asked
asked_from (Some asked) other = Some asked
asked_from None other = other

-- what the command that was met asks for
abbrev pub asked_of : Option (Text × List Row) → Option Asked
asked_of met = asked_from (sim_in met) (asked_from (decode_in met) (copy_in met))

-- what the words of a command line ask for
abbrev pub asked_in : List Text → Option Asked
asked_in words = asked_of (subcommand_of hostd_command words)

-- of how many frames one is lost or sent twice
abbrev pub step_by : Option Every → Option ℕ
step_by every = option_map (λ every. every.step) every

-- what a line asks for
abbrev pub asked_by : Line → Asked
asked_by (Sim script capture ladder) = ToRun script.now (option_map (λ file. file.now) capture) ladder
asked_by (Decode hex) = ToDecode hex.now
asked_by (DecodeAll capture) = ToDecodeAll capture.now
asked_by (Copy source destination capture losses progress) = ToCopy source.now destination.now (option_map (λ file. file.now) capture) (step_by losses.lose) (step_by losses.repeat) progress
