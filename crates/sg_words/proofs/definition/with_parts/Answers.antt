use Rattle.std.proofs.Common.{subst, codes, None}
use Rattle.sg_words.specs.kept.Building.{Builds}
use Rattle.clap.specs.Words.{app_of, rule_of}
use Rattle.sg_words.specs.CommandLine.{argument_rule}
use Rattle.sg_words.proofs.TwoRules.{two_rules}
use Rattle.sg_words.proofs.definition.with_parts.Goals as goal

pub returns : goal.returns
returns c =
    subst (λ x. Builds x c.with_arg-2.result)
    (two_rules (app_of c.args.command) (app_of c.in_ok-command.command) (rule_of c.name_arg.result) (rule_of c.name_arg-2.result) (argument_rule (codes "platform") None) (argument_rule (codes "deployment") None)
    c.in_ok-command.ensures.0 c.name_arg.ensures.0 c.name_arg-2.ensures.0)
    c.with_arg-2.ensures
