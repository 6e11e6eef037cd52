use Rattle.sg_toml_rules.proofs.PlatformKinds.{platform_kinds}
use Rattle.sg_toml_rules.proofs.laws.platform_kinds.Goals as goal

pub returns : goal.returns
returns c = platform_kinds
