-- What writing a text to one of the streams has done.
use Rattle.std.proofs.Common.{ℕ, List, [], Option}
use Rattle.sg_base.specs.declared.status.Status.{Status}
use Rattle.sg_edge.specs.declared.sinks.Stream.{Stream}
use Rattle.sg_edge.specs.declared.sinks.Stream.TheVariants.{Out, Err}
use Rattle.sg_edge.specs.Sinks.{GainsFront, SameBut}
use Rattle.sg_engine.proofs.Fronts.{fronts_err, fronts_out}
use Rattle.sg_engine.specs.Gains.{GainsFronts}
use Rattle.simgrid_replay.specs.Outcome.{one_text}

-- a prefix of the text is there, and the other stream is as it was
pub told_front : (to : Stream) (text : List ℕ) (how : Status) (old new : Stream → Option (List ℕ)) → GainsFront text (old to) (new to) → SameBut to old new →
    GainsFronts (one_text to text how).out (one_text to text how).err old new
told_front Out text how old new front same = fronts_out text [] old new front (same Err (λ e. cc))
told_front Err text how old new front same = fronts_err text old new front (same Out (λ e. cc))
