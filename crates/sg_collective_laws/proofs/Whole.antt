-- The laws of collectives for a deployment.
use Rattle.sg_engine.specs.Output.{first_of, scene_of}
use Rattle.sg_engine.specs.Run.{run_of}
use Rattle.sg_script.specs.Answer.{answer_of}
use Rattle.sg_script.specs.Known.{known_in}
use Rattle.sg_collective_laws.specs.Expanded.{expanded_in, name_of}
use Rattle.sg_collective_laws.specs.Laws.{CollectivesAnswer, CollectivesRun, CollectivesWrite}
use Rattle.sg_collective_laws.proofs.Deciding.{expanded_alike}
use Rattle.sg_collective_laws.proofs.Names.{are_named}
use Rattle.sg_collective_laws.proofs.Outputs.{written_alike}
use Rattle.sg_collective_laws.proofs.Runs.{runs_alike}

pub answers_expanded : CollectivesAnswer
answers_expanded deployed has source few few' =
    expanded_alike (known_in deployed) (name_of deployed) (are_named deployed has) source few few'

pub run_expanded : CollectivesRun
run_expanded deployed has at first source few few' =
    runs_alike at first (answer_of (known_in deployed) source) (answer_of (known_in deployed) (expanded_in deployed source))
    (answers_expanded deployed has source few few')

pub output_expanded : CollectivesWrite
output_expanded deployed has platform script budget crew show source few few' =
    let at = scene_of platform deployed script budget in
    let first = first_of platform deployed budget crew in
    written_alike show platform deployed budget crew source (expanded_in deployed source) (run_of at first (answer_of (known_in deployed) source))
    (run_of at first (answer_of (known_in deployed) (expanded_in deployed source))) (run_expanded deployed has at first source few few')
