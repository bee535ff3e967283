use Rattle.std.proofs.Common.{◌≡◌, Err, List, Ok, inl, map, refl, subst}
use Rattle.std.proofs.lemmas.Result.{err_from_is_err_and}
use Rattle.aig_circuit.specs.declared.circuit.Latch.{Latch}
use Rattle.aig_fault.specs.declared.stopped.Stopped.{Stopped}
use Rattle.aig_io.specs.Runs.{AtEnd}
use Rattle.aig_lines.specs.Lines.{lines_of}
use Rattle.aig_invariant.specs.Invariant.{with_cubes}
use Rattle.aig_invariant.specs.InvariantText.{cubes_of}
use Rattle.aig_invariant.specs.Outcome.{HasCubes, IsOverfull, NotInvariant}
use Rattle.aig_invariant.specs.Parts.Growing.{IsRefused}
use Rattle.aig_invariant.specs.Parts.Rows.{cubes_at}
use Rattle.aig_invariant.proofs.Growing.Cubes.{err_on, of_growth}
use Rattle.aig_invariant.proofs.reader.take_invariant.Goals as goal

pub returns-in_err-check_lines-clause-err : goal.returns-in_err-check_lines-clause-err
returns-in_err-check_lines-clause-err c =
    let h = err_from_is_err_and c.from_residual.result c.from_residual.ensures.1 in
    let bytes = c.args.bytes.now in
    let fault = c.in_err-check_lines.field-0.0 in
    let wrong =
    subst (λ (ls : List Latch). cubes_of (map (λ (l : Latch). l.reset) ls) bytes ≡ Err fault) c.as_slice.ensures
    c.in_err-check_lines.ensures.err in
    rw (h.1, h.2) (refl, inl wrong)

pub returns-clause-err : goal.returns-clause-err
returns-clause-err c =
    let old = c.args.circuit.now in
    let bytes = c.args.bytes.now in
    let cubes = cubes_at (lines_of bytes) in
    let has : HasCubes old bytes cubes =
    subst (λ (ls : List Latch). cubes_of (map (λ (l : Latch). l.reset) ls) bytes ≡ Ok cubes) c.as_slice.ensures
    c.in_ok-check_lines.ensures.ok in
    err_on c.grow.result (IsRefused (IsOverfull (with_cubes cubes old)))
    (λ (stopped : Stopped). NotInvariant old stopped bytes AtEnd)
    (λ stopped. of_growth old bytes cubes stopped has)
    c.grow.ensures.err
