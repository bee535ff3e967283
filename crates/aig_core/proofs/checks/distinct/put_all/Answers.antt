use Rattle.std.proofs.Common.{◌∷◌, ◌++◌, ◌∙◌, [], ℕ, List, ap, arith, subst, sym, take, flat_map, take_all}
use Rattle.std.proofs.lemmas.List.{flat_map_more, take_more}
use Rattle.aig_core.specs.Parts.Parted.{AreParts}
use Rattle.aig_core.proofs.checks.distinct.put_all.Goals as goal

pub loop-entry-preserved : goal.loop-entry-preserved
loop-entry-preserved g c =
    let xs = c.as_slice-entry-items.result.now in
    let i = c.loop-entry.entry-index in
    let x = c.entry-item.result in
    let front = flat_map g.T.Entry.defined (take i xs) in
    let more = take_more xs i x c.loop-entry-test.true ∙ ap (λ y. take i xs ++ y ∷ []) (sym c.entry-item.is) in
    record {
      many = c.in_ok-put_definition.ensures.many;
      put = λ all are.
          subst (λ (ys : List ℕ). AreParts c.put_definition.new.parts ys)
          (flat_map_more g.T.Entry.defined all (take i xs) x
          ∙ ap (λ zs. all ++ flat_map g.T.Entry.defined zs) (sym more))
          (c.in_ok-put_definition.ensures.put (all ++ front) (c.loop-entry.invariant.put all are));
    }

pub returns-clause-put : goal.returns-clause-put
returns-clause-put g c = λ all are.
    let xs = c.as_slice-entry-items.result.now in
    subst (λ ys. AreParts c.loop-entry.parts (all ++ flat_map g.T.Entry.defined ys))
    (take_all c.loop-entry.entry-index xs (omega (arith, c.loop-entry-test.false)) ∙ c.as_slice-entry-items.ensures)
    (c.loop-entry.invariant.put all are)
