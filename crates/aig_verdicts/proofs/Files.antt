-- A lasso that is claimed is written in a file, and what is read of a file, line by line, is what it says as a whole.
use Rattle.std.proofs.Common.{◌≡◌, ◌<◌, ◌++◌, ◌∙◌, ◌∷◌, ℕ, suc, List, [], Bool, true, false, Decides, None, Ok, Option, Some}
use Rattle.std.proofs.Common.{ap, ap₂, append_assoc, append-nil, arith, bytes_eq, codes, if◌then◌else◌, length, map, option_map}
use Rattle.std.proofs.Common.{refl, subst, sym}
use Rattle.std.specs.List.{AllByRecursion}
use Rattle.std.proofs.lemmas.Slice.Eq.{bytes_eq-Decides}
use Rattle.aig_circuit.specs.declared.circuit.Circuit.{Circuit}
use Rattle.aig_circuit.specs.declared.value.Val.{Val}
use Rattle.aig_circuit.specs.Wellformed.{IsWellFormed}
use Rattle.aig_lasso.specs.Goals.{with_goals}
use Rattle.aig_lasso.specs.Lasso.{IsLasso}
use Rattle.aig_lines.specs.Lines.{lines_of}
use Rattle.aig_meaning.specs.Trace.{IsFirstState}
use Rattle.aig_step.proofs.LineValues.{values_back}
use Rattle.aig_step.proofs.StimulusTexts.{IsEntryText, entry_read}
use Rattle.aig_step.specs.Stimulus.{Entry, Step, Stop, entry_in, text_of, values_of}
use Rattle.aig_step.specs.TraceText.{values_text}
use Rattle.aig_verdicts.specs.JusticeText.{IsJusticeFile}
use Rattle.aig_verdicts.specs.Kinds.{SaysJustice, justice_shape}
use Rattle.aig_verdicts.specs.Laws.{JusticeFilesAreRead, LassosHaveFiles}
use Rattle.aig_witness.proofs.Verdicts.{each_long, file_by, file_by_says}
use Rattle.aig_witness.proofs.WitnessTexts.{said_all, said_texts, texts_say}
use Rattle.aig_witness.proofs.Witnessing.{NamesProperty, may_start, property_read}
use Rattle.aig_witness.specs.Witness.{Claim, Property, Nothing, Shape, Steps, Version, Whole, begun_at, first_state_in}
use Rattle.aig_witness.specs.Witness.{property_by, said_behind, with_entry}

-- the file that is written of a lasso claims it
pub lasso_file_says : (c : Circuit) (claim : Claim) (start : ℕ) → IsWellFormed c
    → claim.property < length c.justice.sizes → IsLasso c claim start → SaysJustice c (file_by 106 claim) claim
lasso_file_says c claim start formed below lasso =
    file_by_says (justice_shape (length c.justice.sizes) c) claim (record {
      letter = (λ e. omega (arith, e), λ e. omega (arith, e));
      few = omega (arith, formed.limits.justice);
      below = below;
      starts = lasso.trace.0;
      each = each_long (with_goals claim.property c) claim.first claim.steps lasso.rows lasso.trace.1;
    })

pub lassos_have_files : LassosHaveFiles
lassos_have_files c claim start formed below lasso =
    (file_by 106 claim, lasso_file_says c claim start formed below lasso)

-- ---- what lines say, from the last to the first

module _ (c : Circuit) where
  abbrev shape : Shape
  shape = justice_shape (length c.justice.sizes) c

  -- lines of steps and the line that ends them, after this was claimed
  record AreStepsBehind (claim whole : Claim) (ts : List (List ℕ)) : Type 0 where
    more : List (List Val)
    texts : ts ≡ map values_text more ++ codes "." ∷ []
    is : whole ≡ record claim { steps = claim.steps ++ more }
    each : AllByRecursion (λ (given : List Val). length given ≡ length c.inputs) more

  nothing_behind : (n : ℕ) (claim whole : Claim) (ts : List (List ℕ)) → said_texts shape n (Whole claim) ts
      ≡ Ok (Whole whole) → (ts ≡ []) × (whole ≡ claim)
  unfolding said_texts
  nothing_behind n claim whole [] is = (refl, cc)
  nothing_behind n claim whole (t ∷ ts) is = cc

  step_back : (n : ℕ) (claim whole : Claim) (t : List ℕ) (ts : List (List ℕ)) (o : Option Entry) → IsEntryText c t o
      → said_behind n (option_map (with_entry claim) o) (λ next. said_texts shape (suc n) next ts) ≡ Ok (Whole whole)
      → ((next : Claim) → said_texts shape (suc n) (Steps next) ts ≡ Ok (Whole whole) → AreStepsBehind next whole ts)
      → AreStepsBehind claim whole (t ∷ ts)
  step_back n claim whole t ts None read is later = cc
  step_back n claim whole t ts (Some (Step given)) read is later =
      let rest = later (record claim { steps = claim.steps ++ given ∷ [] }) is in
      record {
        more = given ∷ rest.more;
        texts = ap₂ (λ (u : List ℕ) (us : List (List ℕ)). u ∷ us) read.text_is rest.texts;
        is = rest.is
            ∙ ap (λ (ss : List (List Val)). record claim { steps = ss }) (append_assoc claim.steps (given ∷ []) rest.more);
        each = (read.long, rest.each);
      }
  step_back n claim whole t ts (Some Stop) read is later =
      let last = nothing_behind (suc n) claim whole ts is in
      record {
        more = [];
        texts = ap₂ (λ (u : List ℕ) (us : List (List ℕ)). u ∷ us) read last.0;
        is = last.1 ∙ ap (λ (ss : List (List Val)). record claim { steps = ss }) (sym (append-nil claim.steps));
        each = tt;
      }

  steps_back : (n : ℕ) (claim whole : Claim) (ts : List (List ℕ))
      → said_texts shape n (Steps claim) ts ≡ Ok (Whole whole) → AreStepsBehind claim whole ts
  unfolding said_texts
  steps_back n claim whole [] is = cc
  steps_back n claim whole (t ∷ ts) is =
      step_back n claim whole t ts (entry_in (length c.inputs) t) (entry_read c t (entry_in (length c.inputs) t) refl) is
      (λ next later. steps_back (suc n) next whole ts later)

  -- lines from the first state on
  record IsStateBehind (property : ℕ) (whole : Claim) (ts : List (List ℕ)) : Type 0 where
    property_is : whole.property ≡ property
    starts : IsFirstState c whole.first
    each : AllByRecursion (λ (given : List Val). length given ≡ length c.inputs) whole.steps
    texts : ts ≡ values_text whole.first ∷ (map values_text whole.steps ++ codes "." ∷ [])

  first_back : (property : ℕ) (whole : Claim) (t : List ℕ) (ts : List (List ℕ)) (o : Option (List Val))
      → first_state_in shape.resets t ≡ o
      → said_behind 3 (option_map (begun_at property) o) (λ next. said_texts shape 4 next ts) ≡ Ok (Whole whole)
      → IsStateBehind property whole (t ∷ ts)
  first_back property whole t ts None says is = cc
  first_back property whole t ts (Some first) says is =
      let begun : Claim = record { property = property; first = first; steps = [] } in
      let rest = steps_back 4 begun whole ts is in
      let may = may_start shape.resets (values_of t) first says in
      let steps_are : whole.steps ≡ rest.more = ap (λ (k : Claim). k.steps) rest.is in
      let first_is : whole.first ≡ first = ap (λ (k : Claim). k.first) rest.is in
      record {
        property_is = ap (λ (k : Claim). k.property) rest.is;
        starts = rw first_is may.1;
        each = rw steps_are rest.each;
        texts = rw (first_is, steps_are) (ap₂ (λ (u : List ℕ) (us : List (List ℕ)). u ∷ us) (sym (values_back t first may.0))
            rest.texts);
      }

  state_back : (property : ℕ) (whole : Claim) (ts : List (List ℕ))
      → said_texts shape 3 (Property property) ts ≡ Ok (Whole whole) → IsStateBehind property whole ts
  unfolding said_texts
  state_back property whole [] is = cc
  state_back property whole (t ∷ ts) is = first_back property whole t ts (first_state_in shape.resets t) refl is

  -- lines from the property on
  record IsPropertyBehind (whole : Claim) (ts : List (List ℕ)) : Type 0 where
    text : List ℕ
    behind : List (List ℕ)
    parted : ts ≡ text ∷ behind
    names : NamesProperty 106 (length c.justice.sizes) text whole.property
    state : IsStateBehind whole.property whole behind

  named_back : (whole : Claim) (t : List ℕ) (ts : List (List ℕ)) (o : Option ℕ)
      → property_by 106 (length c.justice.sizes) t ≡ o
      → said_behind 2 (option_map Property o) (λ next. said_texts shape 3 next ts) ≡ Ok (Whole whole)
      → IsPropertyBehind whole (t ∷ ts)
  named_back whole t ts None says is = cc
  named_back whole t ts (Some property) says is =
      let state = state_back property whole ts is in
      record {
        text = t;
        behind = ts;
        parted = refl;
        names = subst (λ (p : ℕ). NamesProperty 106 (length c.justice.sizes) t p) (sym state.property_is)
            (property_read 106 (length c.justice.sizes) t property says);
        state = subst (λ (p : ℕ). IsStateBehind p whole ts) (sym state.property_is) state;
      }

  property_back : (whole : Claim) (ts : List (List ℕ)) → said_texts shape 2 Version ts ≡ Ok (Whole whole)
      → IsPropertyBehind whole ts
  unfolding said_texts
  property_back whole [] is = cc
  property_back whole (t ∷ ts) is = named_back whole t ts (property_by 106 (length c.justice.sizes) t) refl is

  version_back : (whole : Claim) (t : List ℕ) (ts : List (List ℕ)) (same : Bool) → Decides same (t ≡ codes "1")
      → said_behind 1 (if same then Some Version else None) (λ next. said_texts shape 2 next ts) ≡ Ok (Whole whole)
      → (t ≡ codes "1") × IsPropertyBehind whole ts
  version_back whole t ts true decides is = (decides.0 refl, property_back whole ts is)
  version_back whole t ts false decides is = cc

  is_file : (bytes : List ℕ) (claim : Claim) (ts : List (List ℕ)) → map text_of (lines_of bytes) ≡ ts
      → said_texts shape 1 Nothing ts ≡ Ok (Whole claim) → IsJusticeFile c bytes claim
  unfolding said_texts
  is_file bytes claim [] same is = cc
  is_file bytes claim (t ∷ ts) same is =
      let lines = version_back claim t ts (bytes_eq t (codes "1")) (bytes_eq-Decides t (codes "1")) is in
      let property = lines.1 in
      let texts_are : t ∷ ts ≡ codes "1" ∷ property.text
      ∷ (values_text claim.first ∷ (map values_text claim.steps ++ codes "." ∷ [])) =
      ap₂ (λ (u : List ℕ) (us : List (List ℕ)). u ∷ us) lines.0
      (property.parted ∙ ap (λ (us : List (List ℕ)). property.text ∷ us) property.state.texts) in
      record {
        digits = property.names.digits;
        canonical = property.names.canonical;
        number = property.names.number;
        below = property.names.below;
        starts = property.state.starts;
        each = property.state.each;
        texts = same ∙ texts_are
            ∙ ap (λ (u : List ℕ). codes "1" ∷ u ∷ (values_text claim.first ∷ (map values_text claim.steps ++ codes "."
            ∷ []))) property.names.text_is;
      }

pub justice_files_are_read : JusticeFilesAreRead
justice_files_are_read c bytes claim = (
  λ says. is_file c bytes claim (map text_of (lines_of bytes)) refl (sym (said_all (shape c) bytes) ∙ says),
  λ file. texts_say (shape c) bytes claim (record {
    digits = file.digits;
    canonical = file.canonical;
    number = file.number;
    below = file.below;
    starts = file.starts;
    each = file.each;
    texts = file.texts;
  }),
)
