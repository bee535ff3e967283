use Rattle.std.proofs.Common.{◌∙◌, ◌+◌, ℕ, List, ap, take, true, rules, arith}
use Rattle.std.proofs.lemmas.List.{with_items_is}
use Rattle.aig_io.proofs.Took.{fetched_behind, filled_then, gave_next}
use Rattle.aig_io.proofs.transfer.read_to_end.Goals as goal

pub loop-source-preserved : goal.loop-source-preserved
loop-source-preserved g c =
    let at = c.loop-source in
    let count = c.in_ok-count.count in
    let into = c.fetch.new.into in
    record {
      came =
          filled_then _ _ _ true _ _ _ at.invariant.came (record {
            given = take count into;
            held =
                ap (λ (bytes : List ℕ). take (at.len + count) bytes)
                (with_items_is c.make_room.new.bytes _ (search rules))
                ∙ fetched_behind c.deref_mut.result.now into _ (take at.len at.bytes.items) at.len count
                (rw c.deref_mut.ensures.value c.make_room.ensures.same)
                (rw c.deref_mut.ensures.value (omega (arith, at.invariant.within, c.make_room.ensures.grown)))
                c.in_ok-count.ensures.within;
            gave = c.in_ok-count.ensures.history ∙ gave_next into count _ (omega (arith, c.if-count-eq0.false));
          });
      within = search rules;
      bound = search rules;
    }
