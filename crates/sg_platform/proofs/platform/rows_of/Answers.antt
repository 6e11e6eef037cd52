use Rattle.std.proofs.Common.{◌∙◌, subst, sym}
use Rattle.sg_platform.specs.PlatformOf.{platform_rows}
use Rattle.sg_platform_rows.specs.Platform.{IsPlatform}
use Rattle.sg_platform.proofs.platform.rows_of.Goals as goal

pub read_all-requires : goal.read_all-requires
unfolding platform_rows
read_all-requires c = c.requires.few_links

pub with_rows-requires : goal.with_rows-requires
with_rows-requires c = subst IsPlatform (sym c.in_ok-rows.ensures) c.requires

pub returns : goal.returns
returns c = c.with_rows.ensures ∙ c.in_ok-rows.ensures
