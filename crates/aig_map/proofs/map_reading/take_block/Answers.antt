use Rattle.std.proofs.Common.{◌≡◌, ◌∙◌, List, ℕ, Ok, ap, sym}
use Rattle.aig_map.proofs.BlockReading.Block.{read_is_last}
use Rattle.aig_map.proofs.map_reading.take_block.Goals as goal

pub last_bytes-requires : goal.last_bytes-requires
last_bytes-requires c =
    rw c.take_comment.ensures.comment (read_is_last c.args.image c.in-Ok.block c.in-Ok.comment.now c.in-Ok.ensures).0

pub returns-clause-read : goal.returns-clause-read
returns-clause-read c =
    let last = read_is_last c.args.image c.in-Ok.block c.in-Ok.comment.now c.in-Ok.ensures in
    let kept : c.in_ok-comment.comment.items ≡ c.in-Ok.comment.now =
    c.in_ok-comment.ensures ∙ rw c.take_comment.ensures.comment last.1 in
    c.in-Ok.ensures ∙ ap (λ (rest : List ℕ). Ok (c.in-Ok.block, rest)) (sym kept)
