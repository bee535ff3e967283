use Rattle.std.proofs.Common.{rules}
use Rattle.std.proofs.lemmas.Bool.{cases_lt}
use Rattle.std.proofs.lemmas.List.{get_or-drop, get_or-take, get_or_default, length-drop, length-set, length-take-le}
use Rattle.aig_lanes.proofs.Side.InputBits.{before_part, eight_are_put, lane_stays, others_stay}
use Rattle.aig_lanes.proofs.input_planes.put_square.Goals as goal

pub loop-k-init : goal.loop-k-init
loop-k-init c = search (rules, get_or_default)

pub loop-k-preserved : goal.loop-k-preserved
loop-k-preserved c =
    search (
      rules,
      length-take-le,
      length-drop,
      cases_lt,
      others_stay,
      eight_are_put,
      get_or-take,
      get_or-drop,
      lane_stays,
      before_part,
      length-set,
    )
