use Rattle.std.proofs.Common.{◌<◌, ◌∙◌, if◌then◌else◌, rules, ℕ, List, Bool, Some, None, length, ap₂, subst, sym}
use Rattle.std.specs.List.{AllByRecursion}
use Rattle.std.proofs.lemmas.Result.{err_from_is_err_and}
use Rattle.aig_circuit.specs.declared.circuit.Circuit.{Circuit}
use Rattle.aig_circuit.specs.declared.circuit.Gate.{Gate}
use Rattle.aig_image.specs.Relabelled.{relabelled}
use Rattle.aig_image.specs.Renumbering.{source_variable}
use Rattle.aig_image.specs.Reordered.{exchanged_by}
use Rattle.aig_map.specs.Parts.Had.{without_gates}
use Rattle.aig_map.specs.Undone.{comment_behind}
use Rattle.aig_map.proofs.Sources.Refused.{exchanges_of_same}
use Rattle.aig_map.proofs.Restoring.AtPositions.{exchanged_as_recorded, flags_fit, positions_fit, put_as_recorded}
use Rattle.aig_map.proofs.Restoring.Source.{undone_is}
use Rattle.aig_map.proofs.Sources.Placed.{they_fit}
use Rattle.aig_map.proofs.undone.make_undone.Goals as goal

pub source_gates-requires-clause-fit : goal.source_gates-requires-clause-fit
source_gates-requires-clause-fit g c = search (rules, they_fit)

pub source_gates-requires-clause-many : goal.source_gates-requires-clause-many
source_gates-requires-clause-many g c = search (rules, positions_fit)

pub source_gates-requires-clause-there : goal.source_gates-requires-clause-there
source_gates-requires-clause-there g c =
    let image = c.args.image.now in
    let fit = positions_fit g.block image c.requires.0.fit in
    subst (λ (gs : List Gate). AllByRecursion (λ p. p < length gs) c.args.places.now) (sym c.as_slice.ensures)
    (search rules)

pub source_gates-requires-clause-once : goal.source_gates-requires-clause-once
source_gates-requires-clause-once g c = search (rules, positions_fit)

pub source_gates-requires-clause-flags : goal.source_gates-requires-clause-flags
source_gates-requires-clause-flags g c = search (rules, flags_fit)

pub returns-in_err-gates-clause-err : goal.returns-in_err-gates-clause-err
returns-in_err-gates-clause-err g c = search (rules, err_from_is_err_and, put_as_recorded, exchanges_of_same)

pub relabel-requires : goal.relabel-requires
relabel-requires g c = search (rules, they_fit)

pub returns-clause-ok : goal.returns-clause-ok
returns-clause-ok g c =
    let image = c.args.image.now in
    let block = g.block in
    let comment = comment_behind block c.args.comment.now in
    let found = c.in_ok-gates.ensures.ok.0 in
    let block_is = c.requires.0 in
    let there = put_as_recorded block image block_is.fit _ _ _ found c.requires.1 block_is.placed
    c.as_slice.ensures
    c.in_ok-gates.ensures.ok.1 in
    let gates = c.in_ok-gates.ensures.ok.3
    ∙ ap₂ (λ (flags : List Bool) (gs : List Gate). exchanged_by flags gs)
    (c.as_slice-2.ensures.value ∙ block_is.recorded.exchanged) there
    ∙ exchanged_as_recorded block image block_is.fit in
    let front = c.in_ok-others.ensures
    ∙ ap₂ (λ (max_var : ℕ) (has : Bool).
    without_gates max_var (if has then Some c.args.comment.now else None) image) block_is.recorded.max_var
    block_is.recorded.has_comment in
    let others = c.relabel.ensures
    ∙ ap₂ (λ (vs : List ℕ) (d : Circuit). relabelled (source_variable vs) d) c.requires.1 front in
    ap₂ (λ (d : Circuit) (gs : List Gate). record d { gates = gs }) others gates
    ∙ undone_is block comment image

pub returns-clause-differ : goal.returns-clause-differ
returns-clause-differ g c = search (rules, put_as_recorded, exchanges_of_same)
