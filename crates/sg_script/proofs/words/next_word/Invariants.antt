use Rattle.std.proofs.Common.{◌≡◌, length}
use Rattle.sg_script.specs.Words.{words}
use Rattle.sg_script.proofs.words.next_word.Given as goal

abbrev pub invariant-loop-word : goal.invariant-loop-word
invariant-loop-word l = words l.text ≡ words l.rest

abbrev pub decreases-loop-word : goal.decreases-loop-word
decreases-loop-word l = length l.rest
