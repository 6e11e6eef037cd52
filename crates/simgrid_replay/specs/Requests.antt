-- What a request has, and what is shown of its run.
use Rattle.std.specs.Prelude.{Bool, true, false, if◌then◌else◌}
use Rattle.sg_engine.specs.declared.show.Show.{Show}
use Rattle.sg_engine.specs.declared.show.Show.TheVariants as show
use Rattle.sg_words.specs.CommandLine.{Request, replay, churn}

-- a churn is made from its numbers, and any other run is read from a platform and a deployment
abbrev pub has_parts : Request → Bool
has_parts (churn seed actors steps) = false
has_parts other = true

-- a replay has a script
abbrev pub has_script : Request → Bool
has_script (replay platform deployment script) = true
has_script other = false

-- what is shown of a run; of a churn a summary
abbrev pub show_of : Request → Bool → Show
show_of request quiet = if has_parts request then (if quiet then show.Quiet else show.All) else show.Summary
