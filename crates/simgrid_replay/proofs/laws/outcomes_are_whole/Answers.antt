use Rattle.sg_edge.specs.Files.{SomeBroke}
use Rattle.simgrid_replay.proofs.TopLemmas.{completed_of, whole_of}
use Rattle.simgrid_replay.proofs.laws.outcomes_are_whole.Goals as goal

pub returns : goal.returns
returns c = λ want how had faults old new before after prints cause. record {
  whole = λ sound some. whole_of want how had faults (SomeBroke before after) old new prints cause sound some;
  completed = λ sound done. completed_of want how had faults (SomeBroke before after) old new prints cause sound done;
}
