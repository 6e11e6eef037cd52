-- Two arguments more.
use Rattle.std.proofs.Common.{◌≡◌, refl}
use Rattle.clap.specs.Words.{App, Rule, with_rule}

pub two_rules : (start middle : App) (r q p s : Rule) → middle ≡ with_rule start r → r ≡ p → q ≡ s → with_rule middle q ≡ with_rule (with_rule start p) s
two_rules start middle r q p s m e f = rw (m, e, f) refl
