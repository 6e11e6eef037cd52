-- The types of what a text stands for, for those above who never read one.
use Rattle.toml.specs.Data.{Data, Members}

-- a row of a table
abbrev pub Row : Type 0
Row = Data

-- the tables of a text
abbrev pub Tree : Type 0
Tree = Members
