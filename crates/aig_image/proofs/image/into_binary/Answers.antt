use Rattle.std.proofs.Common.{◌≡◌, refl}
use Rattle.aig_image.proofs.Imaging.OwnImage.{own_image}
use Rattle.aig_image.proofs.image.into_binary.Goals as goal

pub returns-in-Ok-clause-image : goal.returns-in-Ok-clause-image
returns-in-Ok-clause-image c =
    let same : c.in-Ok.ordered ≡ c.args.checked = c.in-Ok.ensures.ok in
    rw same (own_image c.args.checked (rw same at c.in-Ok.ensures.well_formed) (c.in-Ok.ensures.ordered.0 refl))

pub returns-in-Err-clause-image : goal.returns-in-Err-clause-image
returns-in-Err-clause-image c = rw c.in-Err.ensures.handed_back at c.into_image.ensures.image
