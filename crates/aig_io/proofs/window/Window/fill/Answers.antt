use Rattle.std.proofs.Common.{◌+◌, ◌∙◌, ℕ, ap, take, rules, arith, List}
use Rattle.std.proofs.lemmas.List.{with_items_is}
use Rattle.aig_io.proofs.Took.{gave_none, memory_refused, fetched_behind, gave_fetched}
use Rattle.aig_io.proofs.window.Window.fill.Goals as goal

pub returns-in_err-make_room-clause-err : goal.returns-in_err-make_room-clause-err
returns-in_err-make_room-clause-err g c = search (rules, memory_refused, gave_none)

pub returns-clause-ok : goal.returns-clause-ok
returns-clause-ok g c = record {
  given = take c.in_ok-count.count c.fetch.new.into;
  held =
      ap (λ (bytes : List ℕ). take (c.self.inside.len + c.in_ok-count.count) bytes)
      (with_items_is c.make_room.new.bytes _ (search rules))
      ∙
      fetched_behind c.deref_mut.result.now c.fetch.new.into _ c.args.self.now c.self.inside.len c.in_ok-count.count
      (rw c.deref_mut.ensures.value (c.make_room.ensures.same ∙ c.self.view_is))
      (rw c.deref_mut.ensures.value (omega (arith, c.self.invariant, c.make_room.ensures.grown)))
      c.in_ok-count.ensures.within;
  gave = c.in_ok-count.ensures.history ∙ gave_fetched c.fetch.new.into c.in_ok-count.count _;
}
