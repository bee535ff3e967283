use Rattle.std.proofs.Common.{◌-◌, ◌∙◌, List, ℕ, ap, arith, take}
use Rattle.std.proofs.lemmas.List.{with_items_is}
use Rattle.aig_io.proofs.Took.{front_moved}
use Rattle.aig_io.proofs.window.Window.pass.Goals as goal

pub returns : goal.returns
returns c =
    ap (λ (bytes : List ℕ). take (c.self.inside.len - c.args.count) bytes)
    (with_items_is c.self.inside.bytes c.copy_within.new.self
    (c.copy_within.ensures.len ∙ c.as_mut_slice.ensures.len))
    ∙ front_moved c.as_mut_slice.result.now c.copy_within.new.self c.args.self.now c.args.count c.self.inside.len
    c.copy_within.ensures.after (rw (c.as_mut_slice.ensures.value) c.self.view_is) c.requires
    (rw c.as_mut_slice.ensures.value (omega (arith, c.self.invariant)))
