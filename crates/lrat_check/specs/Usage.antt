-- The command of the program, in clap's terms.
use Rattle.std.specs.Prelude.{◌≡◌, Some, true, false, codes, is_some}
use Rattle.clap.specs.Words.{App, IsParsedFrom, IsPlainArg, Rule, Text, first_value, found_of, new_app, new_rule, with_rule}
use Rattle.clap.specs.Simple.{on_top}
use Rattle.clap.specs.declared.builder.action.ArgAction.TheVariants.{Set}
use Rattle.clap.specs.declared.builder.arg.Arg.{Arg}
use Rattle.clap.specs.declared.builder.command.Command.{Command}
use Rattle.clap.specs.declared.parser.matches.ArgMatches.{ArgMatches}

-- a word that must stand, known by this name
abbrev pub positional : Text → Rule
positional id = record (new_rule id) { required = true; action = Some Set }

-- a command of this name, whose words do not begin with a program's name
abbrev pub command : Text → App
command name = on_top (λ s. record s { no_binary_name = true }) (new_app name)

-- `rsfq_lrat CNF PROOF`
unfoldable pub lrat_command : App
lrat_command =
    with_rule (with_rule (command (codes "rsfq_lrat")) (positional (codes "CNF")))
    (positional (codes "PROOF"))

-- each parse of the command gives the argument a value
abbrev pub GivesValue : Command → Text → Type 0
GivesValue c id = (m : ArgMatches) → IsParsedFrom c m → is_some (first_value (found_of m) id) ≡ true

-- the argument excludes nothing, and is the command's own
abbrev pub Joins : Arg → Type 0
Joins a = IsPlainArg a × (a.global ≡ false)
