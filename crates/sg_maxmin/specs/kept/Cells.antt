-- How a row is kept in 48 bytes.
use Rattle.std.specs.Prelude.{if◌then◌else◌, Option, None, Some, List, map}
use Rattle.sg_maxmin.specs.declared.flow_row.Cell.{Cell}
use Rattle.sg_maxmin.specs.declared.flow_row.FlowRow.{FlowRow}

-- the row in a cell
abbrev pub row_in : Cell → Option FlowRow
row_in cell = if cell.is_held then Some (record {
  first = if cell.has_first then Some cell.first else None;
  count = cell.count;
  weight = cell.weight;
  bound = if cell.has_bound then Some cell.bound else None;
  level = if cell.has_level then Some cell.level else None;
  share = cell.share;
}) else None

abbrev pub rows_in : List Cell → List (Option FlowRow)
rows_in cells = map row_in cells
