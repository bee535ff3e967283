-- Latches of a binary file: their lines tell their next states, and their places their variables.
use Rattle.std.proofs.Common.{◌≡◌, ◌+◌, ◌<◌, ◌∷◌, ◌++◌, ◌∙◌, rules, ℕ, suc, List, [], map, take, length, get_or, refl}
use Rattle.std.proofs.Common.{◌-◌, ap, ap₂, append_assoc, arith, sym}
use Rattle.std.proofs.lemmas.Grind.{common_steps}
use Rattle.std.proofs.lemmas.List.{take_more, length-map, length-take-le}
use Rattle.aig_circuit.specs.declared.circuit.Circuit.{Circuit}
use Rattle.aig_circuit.specs.declared.circuit.Latch.{Latch}
use Rattle.aig_circuit.proofs.Alike.{latch}
use Rattle.aig_lines.specs.Lines.{Ahead}
use Rattle.aig_rows.specs.Begun.{HaveRead}
use Rattle.aig_rows.specs.Rows.{literal_form, next_form, next_of}
use Rattle.aig_rows.proofs.Loops.FirstRows.{none_yet}
use Rattle.aig_rows.specs.declared.row.NextState.{NextState}
use Rattle.aig_rows.specs.declared.rows.Due.{Due}
use Rattle.aig_text.specs.Begun.{HaveReadOf}
use Rattle.aig_text.specs.Parts.NextStates.{latches_by}
use Rattle.aig_text.specs.Sections.{Header, in_binary, latches_from, no_lines, variable_after}
use Rattle.aig_text.specs.declared.section.Section.TheVariants.{Latches}
use Rattle.aig_text.proofs.Loops.Sections.{rows_count}

pub no_latches : (v : ℕ) → latches_by v [] ≡ []
unfolding latches_by
no_latches v = refl

-- the latch of this variable with a next state
abbrev pub with_next : ℕ → NextState → Latch
with_next v n = latch v n.next n.reset

latches_behind : (v : ℕ) (n : NextState) (ns : List NextState)
    → latches_by v (ns ++ n ∷ []) ≡ latches_by v ns ++ with_next (v + length ns) n ∷ []
unfolding latches_by
latches_behind v n [] = let e : v + 0 ≡ v = omega arith in rw e refl
latches_behind v n (m ∷ ns) = search (rules, latches_behind (suc v) n ns)

pub latches_more : (v i : ℕ) (d : NextState) (ns : List NextState) → i < length ns
    → latches_by v (take (i + 1) ns) ≡ latches_by v (take i ns) ++ with_next (v + i) (get_or ns i d) ∷ []
latches_more v i d ns h = grind (arith, common_steps, length-take-le, take_more, latches_behind)

-- what rows tell of next states tells the latches of the rows
latches_of_rows : (v : ℕ) (rows : List (List ℕ)) → latches_by v (map next_of rows) ≡ latches_from v rows
unfolding latches_by latches_from
latches_of_rows v [] = refl
latches_of_rows v (r ∷ rows) =
    ap (λ (ls : List Latch). with_next v (next_of r) ∷ ls) (latches_of_rows (suc v) rows)

variable_is : (v : ℕ) (ls : List Latch) → v + length ls ≡ variable_after v ls
variable_is v [] = omega arith
variable_is v (l ∷ ls) =
    let next : v + length (l ∷ ls) ≡ suc v + length ls = omega arith in next ∙ variable_is (suc v) ls

pub latches_read : (h : Header) (due left : Due) (c d : Circuit) (at now : Ahead) (nexts : List NextState)
    (variable : ℕ) → HaveRead next_of next_form h.max_var due left [] nexts at now
    → d ≡ record c { latches = c.latches ++ latches_by variable nexts }
    → variable ≡ 1 + h.inputs + length c.latches → HaveReadOf (in_binary Latches) h due left c d at now
latches_read h due left c d at now nexts variable r is v = record {
  rows = r.rows;
  first = r.first;
  circuit =
      is
      ∙ ap (λ (ls : List Latch). record c { latches = c.latches ++ ls })
      (ap₂ latches_by (v ∙ variable_is (1 + h.inputs) c.latches) r.meant
      ∙ latches_of_rows (variable_after (1 + h.inputs) c.latches) r.rows);
}

-- no more than are due
pub latches_count : (bound : ℕ) (due left : Due) (at now : Ahead) (nexts : List NextState)
    → HaveRead next_of next_form bound due left [] nexts at now → length nexts + left.count ≡ due.count
latches_count bound due left at now nexts r =
    let n = rows_count next_form bound due.carried (due.count - left.count) at now r.rows r.first.read in
    omega (arith, n, ap length r.meant, length-map r.rows next_of, r.first.fewer)

-- one more
pub latches_pushed : (before ls now : List Latch) (v i var : ℕ) (n d : NextState) (ns : List NextState)
    → i < length ns → ls ≡ before ++ latches_by v (take i ns) → var ≡ v + i → n ≡ get_or ns i d
    → now ≡ ls ++ with_next var n ∷ [] → now ≡ before ++ latches_by v (take (i + 1) ns)
latches_pushed before ls now v i var n d ns h l at item is =
    is ∙ ap (λ (xs : List Latch). xs ++ with_next var n ∷ []) l
    ∙ append_assoc before (latches_by v (take i ns)) (with_next var n ∷ [])
    ∙ ap (λ (xs : List Latch). before ++ xs)
    (ap₂ (λ (k : ℕ) (m : NextState). latches_by v (take i ns) ++ with_next k m ∷ []) at item
    ∙ sym (latches_more v i d ns h))

-- where a section has no lines
pub nothing_read : (h : Header) (due : Due) (c : Circuit) (at : Ahead) → HaveReadOf no_lines h due due c c at at
nothing_read h due c at = record { rows = []; first = none_yet literal_form 0 due at; circuit = refl }
