use Rattle.std.proofs.Common.{◌∙◌}
use Rattle.simgrid_replay.proofs.PartLemmas.{platform_whole, platform_too_long}
use Rattle.simgrid_replay.proofs.loading.load_platform.Goals as goal

pub returns-in-Whole-clause-given : goal.returns-in-Whole-clause-given
returns-in-Whole-clause-given g c = λ source gives known.
    c.platform_of.ensures.given known ∙ platform_whole source c.in-Whole.text.items (c.in-Whole.ensures.given source gives)

pub returns-in-TooLong-clause-given : goal.returns-in-TooLong-clause-given
returns-in-TooLong-clause-given g c = λ source gives known. platform_too_long source (c.in-TooLong.ensures.given source gives)
