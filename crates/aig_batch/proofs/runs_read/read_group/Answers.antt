use Rattle.std.proofs.Common.{◌≡◌, ◌++◌, ◌∷◌, List, [], ap, arith, length, subst, sym, All, length-append}
use Rattle.std.proofs.lemmas.List.Elements.{All-push}
use Rattle.aig_circuit.specs.declared.value.Val.{Val}
use Rattle.aig_lanes.specs.declared.run.Run.{Run}
use Rattle.aig_batch.proofs.Side.RunsRead.{one_run}
use Rattle.aig_batch.proofs.runs_read.read_group.Goals as goal

pub loop-rest-preserved : goal.loop-rest-preserved
loop-rest-preserved c =
    let inputs = c.args.inputs in
    let runs = c.loop-rest.runs.items in
    let run = c.in-Some.run' in
    let now = c.push.new.self.items in
    let more : now ≡ runs ++ run ∷ [] = c.in_ok-push.ensures.items in
    record {
      says = one_run inputs c.args.bytes.now c.loop-rest.rest.now c.in-Some.more.now runs now run more
          c.loop-rest.invariant.says c.in-Some.ensures.says;
      fits = subst (λ (rs : List Run). All (λ (r : Run). All (λ (v : List Val). length v ≡ inputs) r.steps) rs)
          (sym more)
          (All-push (λ (r : Run). All (λ (v : List Val). length v ≡ inputs) r.steps) runs run
          c.loop-rest.invariant.fits c.in-Some.ensures.fits);
      good = c.in-Some.ensures.good;
      few = omega (arith, ap length more, length-append runs (run ∷ []), c.loop-rest.invariant.few);
      shorter = omega (
        arith,
        ap length more,
        length-append runs (run ∷ []),
        c.loop-rest.invariant.shorter,
        c.in-Some.ensures.shorter,
      );
    }
