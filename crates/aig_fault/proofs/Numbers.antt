-- The numbers of kinds.
use Rattle.std.proofs.Common.{◌≡◌, ◌+◌, refl}
use Rattle.aig_fault.specs.declared.kind.Kind.{Kind}
use Rattle.aig_fault.specs.declared.kind.Kind.TheVariants as kinds
use Rattle.aig_fault.specs.contracts.kind.Kind.{the_type}
use Rattle.aig_fault.specs.Words.{kind_number}
use denote.Enum.Declared.{tag_of}

pub tag_is_number : (kind : Kind) → tag_of the_type kind + 1 ≡ kind_number kind
tag_is_number kinds.NotAiger = refl
tag_is_number kind = refl
