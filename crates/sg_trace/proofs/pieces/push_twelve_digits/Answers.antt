use Rattle.std.proofs.Common.{rules}
use Rattle.std.proofs.lemmas.Fmt.{length-decimal-le}
use Rattle.sg_trace.proofs.pieces.push_twelve_digits.Goals as goal

pub overflow_sub-digits : goal.overflow_sub-digits
overflow_sub-digits g c = search (rules, length-decimal-le 12)

pub push_str-requires : goal.push_str-requires
push_str-requires g c = search (rules, length-decimal-le 12)

pub returns-clause-len : goal.returns-clause-len
returns-clause-len g c = search (rules, length-decimal-le 12)
