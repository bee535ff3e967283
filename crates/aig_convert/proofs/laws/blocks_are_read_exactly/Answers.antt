use Rattle.aig_map.proofs.BlockReading.Block.{block_is_read, block_reads}
use Rattle.aig_convert.proofs.laws.blocks_are_read_exactly.Goals as goal

pub returns : goal.returns
returns c x b rest = (block_reads x b rest, λ h. block_is_read x b rest h.0 h.1 h.2)
