-- What the parts of the command line are that `clap` builds.
use Rattle.std.specs.Prelude.{◌≡◌, false, Result, IfOk}
use Rattle.std.specs.declared.alloc.AllocError.{AllocError}
use Rattle.clap.specs.Words.{App, Rule, app_of, rule_of}
use Rattle.clap.specs.declared.builder.arg.Arg.{Arg}
use Rattle.clap.specs.declared.builder.command.Command.{Command}
use Rattle.clap.specs.declared.builder.command.Command.TheViews.{out-Command}

-- an argument with this rule, of its own command alone
abbrev pub IsArg : Rule → Arg → Type 0
IsArg rule arg = (rule_of arg ≡ rule) × (arg.global ≡ false)

-- no argument of the command reaches others
abbrev pub IsLocal : Command → Type 0
IsLocal command = (out-Command command).has_globals ≡ false

-- a command of this shape
abbrev pub IsCommand : App → Command → Type 0
IsCommand app command = (app_of command ≡ app) × IsLocal command

-- if there was memory, this command was built
abbrev pub Builds : App → Result Command AllocError → Type 0
Builds app result = IfOk result (IsCommand app)
