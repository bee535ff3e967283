use Rattle.std.proofs.Common.{◌∙◌, List, ℕ, ap₂, arith, sym}
use borrow.Rule.Slice.PartMut.{put_mid}
use Rattle.aig_arrays.proofs.Placing.{placed_is}
use Rattle.aig_arrays.proofs.put.put_text.Goals as goal

pub returns : goal.returns
returns c =
    ap₂ (λ (n : ℕ) (ys : List ℕ). put_mid c.args.at n c.args.bytes.now ys) (omega arith) c.copy_from_slice.ensures.after
    ∙ sym (placed_is c.args.at c.args.text.now c.args.bytes.now c.requires)
