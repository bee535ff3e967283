use Rattle.std.proofs.Common.{◌≡◌, ◌*◌, ◌<◌, ◌^◌, IsTrue, arith, get_or, length, replicate, rules, subst, ℕ}
use Rattle.std.proofs.lemmas.Simd.{length-replicate}
use Rattle.aig_circuit.specs.declared.value.Val.TheVariants.{X}
use Rattle.aig_places.specs.Lanes.{IsLane}
use Rattle.aig_places.proofs.Side.Tables.{table_stands}
use Rattle.aig_lanes.proofs.bench.Bench.new.Goals as goal

pub returns-clause-is : goal.returns-clause-is
returns-clause-is c = record {
  tables = record { bits = search rules; table_size = search rules; state_size = search rules; shows = search rules };
  line = search rules;
}

pub returns-clause-room : goal.returns-clause-room
returns-clause-room c k d below = record {
  is = returns-clause-is c;
  lanes = c.requires.lanes k d below;
  counts = λ i r there.
      let yes : IsTrue c.can_count.result = search rules in
      subst (λ (line : ℕ). length (get_or (get_or c.args.groups.now k d) i r).steps * line < 2 ^ 64) c.requires.line
      (c.can_count.ensures yes k d below i r there);
  bits = c.in_ok-bits.ensures.room k d below;
  sheet = c.in_ok-sheet.ensures k d below;
}

pub invariant_of-result : goal.invariant_of-result
invariant_of-result c = record {
  whole = λ _ l variables low long.
      let is : c.in_ok-shown.shown.places.count ≡ variables = omega (arith, long, c.in_ok-table.ensures.size) in
      table_stands l c.in_ok-table.table.items (replicate variables X)
      (subst (λ (n : ℕ). IsLane l c.in_ok-table.table.items (replicate n X)) is (c.in_ok-table.ensures.lanes l low))
      variables (length-replicate variables X);
}

pub new_table-requires : goal.new_table-requires
new_table-requires c =
    omega (arith, c.in_ok-shown.ensures.shows.places.few, c.parts-parts.ensures.max_var)
