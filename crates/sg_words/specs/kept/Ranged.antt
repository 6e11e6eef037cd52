-- What is read off the rows of arguments, and numbers from least to most.
use Rattle.std.specs.Prelude.{ℕ, List, Option, Some, None, if◌then◌else◌, option_and_then}
use Rattle.std.specs.Str.Parse.{digits_value, without_leading_plus}
use Rattle.clap.specs.ValueTests.{is_unsigned_in}
use Rattle.clap.specs.Words.{Row, Text, first_of, found_of, rows_of}
use Rattle.clap.specs.declared.parser.matches.ArgMatches.{ArgMatches}

-- the rows of the arguments of a command
abbrev pub rows_in : ArgMatches → List Row
rows_in matches = rows_of (found_of matches)

-- the number that a text writes
abbrev pub number_in : ℕ → ℕ → Text → Option ℕ
number_in least most text = if is_unsigned_in least most text then Some (digits_value 10 (without_leading_plus text)) else None

-- the number of the argument of a name
abbrev pub number_between : ℕ → ℕ → Text → List Row → Option ℕ
number_between least most id rows = option_and_then (number_in least most) (first_of id rows)
