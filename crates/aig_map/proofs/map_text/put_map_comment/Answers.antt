use Rattle.std.proofs.Common.{◌++◌, sym, subst, Option, ℕ, List, [], unwrap_or}
use Rattle.aig_io.specs.Output.{Appended}
use Rattle.aig_map.specs.MapBlock.{block_text}
use Rattle.aig_io.proofs.Puts.{put_twice}
use Rattle.aig_map.proofs.map_text.put_map_comment.Goals as goal

pub returns-in-Some : goal.returns-in-Some
returns-in-Some g c =
    let block : List ℕ = block_text c.args.block.now in
    subst (λ (comment : Option (List ℕ)). Appended c.args.output.now c.put.new.self (block ++ unwrap_or comment []))
    (sym c.in-Some.is)
    (put_twice _ _ _ _ _ c.put_block.ensures (rw c.as_slice.ensures at c.put.ensures.put))
