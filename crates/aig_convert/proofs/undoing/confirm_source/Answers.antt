use Rattle.std.proofs.Common.{◌∙◌, sym, refl, subst, inr, true≢false}
use Rattle.aig_circuit.specs.declared.circuit.Circuit.{Circuit}
use Rattle.aig_circuit.specs.Wellformed.{IsWellFormed}
use Rattle.aig_map.specs.MapBlock.{IsMappedImage}
use Rattle.aig_convert.proofs.undoing.confirm_source.Goals as goal

pub returns-in-Ok-true-clause-image : goal.returns-in-Ok-true-clause-image
returns-in-Ok-true-clause-image g c = λ formed.
    subst (λ (source : Circuit). IsMappedImage source g.mapped) (sym c.requires.1.1.0)
    ((c.in-Ok-true.ensures (subst IsWellFormed c.requires.1.1.0 formed)).0 c.in-Ok-true.field-0-test)

pub returns-in-Ok-false-clause-err : goal.returns-in-Ok-false-clause-err
returns-in-Ok-false-clause-err g c = inr (
  c.refused_whole.ensures,
  λ (both : IsWellFormed c.args.source × IsMappedImage c.args.source g.mapped).
      let image = subst (λ (source : Circuit). IsMappedImage source g.mapped) c.requires.1.1.0 both.1 in
      let formed = subst IsWellFormed c.requires.1.1.0 both.0 in
      true≢false (sym ((c.in-Ok-false.ensures formed).1 image) ∙ c.in-Ok-false.field-0-test),
)
