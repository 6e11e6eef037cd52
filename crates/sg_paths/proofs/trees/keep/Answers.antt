-- What was right stays, and what is added is right.
use Rattle.sg_paths.proofs.trees.keep.Goals as goal

pub returns-then-row-len : goal.returns-then-row-len
returns-then-row-len c = λ routes tree old. c.write_hops.ensures routes tree (c.row_for-row.ensures routes old)

pub returns-else-row-len : goal.returns-else-row-len
returns-else-row-len c = λ routes tree old. c.write_hops.ensures routes tree (c.row_for-row.ensures routes old)
