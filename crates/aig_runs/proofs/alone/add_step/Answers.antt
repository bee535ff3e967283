use Rattle.std.proofs.Common.{◌++◌, [], ◌∷◌, Option, Some, map, ap, subst, ◌∙◌}
use Rattle.std.proofs.lemmas.List.{map-append}
use Rattle.aig_meaning.specs.Meaning.{Row}
use Rattle.aig_lanes.specs.Runs.{row_of}
use Rattle.aig_step.specs.Showing.{IsRowShown, Shows}
use Rattle.aig_runs.proofs.alone.add_step.Goals as goal

pub returns : goal.returns
returns c =
    let step = c.step.ensures in
    let rows = c.args.rows.now in
    let is_shown : IsRowShown c.in-Some.shown step.row =
    subst (λ (o : Option Row). Shows (Some c.in-Some.shown) o) step.shown c.in-Some.ensures in
    record {
      stepped = record {
        row = step.row;
        shown = step.shown;
        is_row = step.is_row;
        from = step.from;
        inputs = step.inputs ∙ c.as_slice.ensures;
        state = step.state;
        circuit = step.circuit;
      };
      added =
          ap (map row_of) c.in_ok-push-in-Some.ensures.ok ∙ map-append row_of rows (c.in_ok-row-in-Some.row ∷ [])
          ∙ ap (λ (r : Row). map row_of rows ++ r ∷ [])
          (c.in_ok-row-in-Some.ensures step.row is_shown (step.inputs ∙ c.as_slice.ensures));
    }
