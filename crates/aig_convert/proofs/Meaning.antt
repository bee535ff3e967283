-- The mapped image and the undone circuit mean what the circuit means: a comment means nothing.
use Rattle.std.proofs.Common.{ℕ, refl, sym, subst}
use Rattle.aig_circuit.specs.declared.circuit.Circuit.{Circuit}
use Rattle.aig_meaning.specs.Meaning.{MeansTheSame}
use Rattle.aig_meaning.proofs.Traces.{same_meaning_same_traces}
use Rattle.aig_image.specs.Image.{image_by}
use Rattle.aig_image.specs.Renamed.{IsRenamed}
use Rattle.aig_image.specs.Renumbering.{in_new_order, renumbered}
use Rattle.aig_image.proofs.Meaning.{renamed_means_the_same, image_is_renamed, renamed_with_comment}
use Rattle.aig_map.specs.MapBlock.{mapped_by}
use Rattle.aig_convert.specs.Laws.{MappedImageKeepsTraces, MappedImageMeansTheSame, UndoneKeepsTraces}
use Rattle.aig_convert.specs.Laws.{UndoneMeansTheSame}
use Rattle.aig_map.proofs.Mapping.{mapped_image_is_ordered}

pub mapped_image_means_the_same : MappedImageMeansTheSame
mapped_image_means_the_same c image good (order, least, is) =
    let f : ℕ → ℕ = renumbered (in_new_order c order) in
    let mapped : Circuit = mapped_by order c in
    let renamed : IsRenamed f c mapped =
    renamed_with_comment f c (image_by order c) mapped.comment (image_is_renamed c order good least) in
    let same : MeansTheSame c mapped =
    renamed_means_the_same f c mapped renamed good (mapped_image_is_ordered c mapped good (order, least, refl)).0 in
    subst (λ (d : Circuit). MeansTheSame c d) (sym is) same

pub mapped_image_keeps_traces : MappedImageKeepsTraces
mapped_image_keeps_traces c image good is =
    same_meaning_same_traces c image (mapped_image_means_the_same c image good is)

pub undone_means_the_same : UndoneMeansTheSame
undone_means_the_same x c is = mapped_image_means_the_same c x is.well_formed is.image

pub undone_keeps_traces : UndoneKeepsTraces
undone_keeps_traces x c is = same_meaning_same_traces c x (undone_means_the_same x c is)
