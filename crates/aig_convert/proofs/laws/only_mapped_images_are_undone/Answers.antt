use Rattle.aig_map.proofs.Sources.OneSource.{only_mapped_images_are_undone}
use Rattle.aig_convert.proofs.laws.only_mapped_images_are_undone.Goals as goal

pub returns : goal.returns
returns c = only_mapped_images_are_undone
