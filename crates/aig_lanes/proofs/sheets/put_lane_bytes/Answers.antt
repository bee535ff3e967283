use Rattle.std.proofs.Common.{rules}
use Rattle.std.proofs.lemmas.Bool.{cases_lt}
use Rattle.std.proofs.lemmas.List.{get_or-set_other, get_or-set_same, get_or_default, length-set}
use Rattle.aig_lanes.proofs.Side.Sheets.{rows_with}
use Rattle.aig_lanes.proofs.sheets.put_lane_bytes.Goals as goal

pub loop-k-preserved : goal.loop-k-preserved
loop-k-preserved c = search (rules, get_or_default, cases_lt, get_or-set_other, get_or-set_same, rows_with, length-set)
