use Rattle.std.proofs.Common.{◌+◌, refl, arith}
use Rattle.aig_tables.specs.declared.var_map.spread.TheConstants.{WINDOW}
use Rattle.aig_tables.proofs.Tables.Maps.{nothing}
use Rattle.aig_tables.proofs.Tables.Slots.{none_spread, bare_spread}
use Rattle.aig_tables.proofs.var_map.spread.Spread.new.Goals as goal

pub invariant_of-result : goal.invariant_of-result
invariant_of-result g c =
    let starts = c.clamp-starts.result in
    bare_spread c.default-any.result starts (starts + WINDOW) c.in_ok-empty_slots.field-0.items c.new.result
    c.in_ok-empty_slots.ensures c.new.ensures.empty (omega arith) (omega arith) refl

pub returns : goal.returns
returns g c =
    let starts = c.clamp-starts.result in
    nothing _ (none_spread c.default-any.result starts (starts + WINDOW) c.in_ok-empty_slots.field-0.items c.new.result
    c.in_ok-empty_slots.ensures c.new.ensures.empty)
