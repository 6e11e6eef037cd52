use Rattle.std.proofs.Common.{◌≡◌, map, string_bytes, None}
use Rattle.std.specs.Prelude.{option_and_then}
use Rattle.clap.specs.Words.{fault_of, subcommand_of, subcommand_rows_of}
use Rattle.sg_words.specs.CommandLine.{asked_at, program_app}
use Rattle.sg_words.proofs.Law.{never}
use Rattle.sg_words.proofs.Refusals.{refused}
use Rattle.sg_words.proofs.words.read_words.Goals as goal

pub returns-in-Err : goal.returns-in-Err
returns-in-Err c =
    refused c.in-Err.error (fault_of program_app (map string_bytes c.args.words.now)) (option_and_then asked_at (subcommand_of program_app (map string_bytes c.args.words.now))) c.in_ok-fault_from-in-Err.field-0 c.in-Err.ensures.kinds c.in_ok-fault_from-in-Err.ensures

pub unreachable-requires : goal.unreachable-requires
unreachable-requires c =
    let asked : None ≡ option_and_then asked_at (subcommand_rows_of c.in-Ok.matches) = rw c.in-None.is at c.asked_in.ensures in
    never (map string_bytes c.args.words.now) (subcommand_rows_of c.in-Ok.matches) c.in-Ok.ensures.kinds c.in-Ok.ensures.matches asked
