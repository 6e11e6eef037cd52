use Rattle.std.proofs.Common.{◌≡◌, map}
use Rattle.std.specs.HashMap.{get_by_text}
use Rattle.sg_toml_rules.proofs.Repeats.{repeats_after, rest_of}
use Rattle.sg_toml_rules.specs.Arguments.{has_repeat, text_of}
use Rattle.toml.specs.View.{view}
use Rattle.sg_toml_rules.proofs.arguments.has_repeat.Given as goal

abbrev pub invariant-loop-i : goal.invariant-loop-i
invariant-loop-i l = repeats_after (λ q. get_by_text l.seen q) (rest_of l.items l.i) ≡ has_repeat (map text_of (map view l.items))
