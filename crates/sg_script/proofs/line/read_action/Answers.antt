use Rattle.std.proofs.Common.{◌∙◌, ap, sym, Option}
use Rattle.std.specs.Prelude.{ok_or}
use Rattle.sg_script.specs.Known.{known_in}
use Rattle.sg_script.specs.Line.{then_go}
use Rattle.sg_script.specs.Words.{words}
use Rattle.sg_script.specs.declared.fault.LineFault.TheVariants.{UnknownAction}
use Rattle.sg_script.specs.declared.verbs.Verb.{Verb}
use Rattle.sg_script.specs.kept.Verbs.{operation_of}
use Rattle.sg_script.proofs.Actions.{by_verb}
use Rattle.sg_script.proofs.line.read_action.Goals as goal

pub returns-in-Some : goal.returns-in-Some
returns-in-Some c =
    let known = known_in c.args.deployment.now in
    let args = words c.args.text.now in
    record {
      said = c.read_operation.ensures.said
          ∙ ap (λ (found : Option Verb). then_go (ok_or found UnknownAction) (λ verb. operation_of known verb args)) c.in-Some.ensures
          ∙ sym (by_verb known c.args.word.now args);
      limits = c.read_operation.ensures.limits;
    }

pub returns-in-None : goal.returns-in-None
returns-in-None c =
    let known = known_in c.args.deployment.now in
    let args = words c.args.text.now in
    record {
      said = ap (λ (found : Option Verb). then_go (ok_or found UnknownAction) (λ verb. operation_of known verb args)) c.in-None.ensures
          ∙ sym (by_verb known c.args.word.now args);
      limits = tt;
    }
