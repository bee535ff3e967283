-- Names, justice properties and fairness constraints stay where a circuit is folded, swept or numbered anew.
use Rattle.std.proofs.Common.{◌≡◌, ◌∙◌, ◌++◌, rules, ℕ, List, length, map, refl, sym, ap, subst}
use Rattle.std.specs.List.{AllByRecursion, Contains, concat, flat_map}
use Rattle.std.proofs.lemmas.List.{length-map}
use Rattle.aig_circuit.specs.declared.circuit.Latch.{Latch}
use Rattle.aig_circuit.specs.declared.circuit.Gate.{Gate}
use Rattle.aig_circuit.specs.declared.circuit.Circuit.{Circuit}
use Rattle.aig_circuit.specs.declared.circuit.Kind.{Kind}
use Rattle.aig_circuit.specs.declared.circuit.Kind.TheVariants as kinds
use Rattle.aig_circuit.specs.declared.value.Val.{Val}
use Rattle.aig_circuit.specs.Wellformed.{IsWellFormed, count_of, literal_lists, operands}
use Rattle.aig_circuit.proofs.Checking.{back, each_of, front}
use Rattle.aig_topo.specs.Order.{IsLeastReadyOrder}
use Rattle.aig_meaning.specs.Meaning.{IsStepAssignment, MeansTheSame, latch_variables, literal_value, next_literals}
use Rattle.aig_meaning.proofs.Existing.{one_step_assignment}
use Rattle.aig_meaning.proofs.Traces.{same_through}
use Rattle.aig_meaning.proofs.Related.{AreDefined, IsDefined, literals_agree}
use Rattle.aig_image.specs.Image.{IsBinaryImage, image_by}
use Rattle.aig_image.specs.Relabelled.{relabelled_latch, relabelled_literal}
use Rattle.aig_image.specs.Renumbering.{in_new_order, renumbered}
use Rattle.aig_image.proofs.Meaning.{image_assigns_the_same}
use Rattle.aig_image.proofs.Relabelling.Formed.{counts_kept}
use Rattle.aig_simplify.proofs.Whole.{counts_folded}
use Rattle.aig_image.proofs.Relabelling.Relabelled.{map_twice}
use Rattle.aig_simplify.specs.Folded.{IsFolded, IsFoldedBy, folded_gate}
use Rattle.aig_simplify.specs.Kept.{HaveSameValues, KeepsGoals, KeepsNames}
use Rattle.aig_simplify.specs.Swept.{IsSwept}
use Rattle.aig_simplify.proofs.SameMeaning.{folded_assignment, read_back, same_values}
use Rattle.aig_simplify.proofs.Sweeping.{left_contained, with_gates}

names_through : (c e d : Circuit) → KeepsNames c e → KeepsNames e d → KeepsNames c d
names_through c e d first second = record {
  counts = λ k. second.counts k ∙ first.counts k;
  sizes = second.sizes ∙ first.sizes;
  symbols = second.symbols ∙ first.symbols;
  comment = second.comment ∙ first.comment;
}

-- Literals of which each circuit has a list.
module _ (literals : Circuit → List ℕ) where
  abbrev Same : Circuit → Circuit → Type 0
  Same = HaveSameValues literals

  pub values_back : (c d : Circuit) → Same c d → Same d c
  values_back c d same state given a b is_a is_b = sym (same state given b a is_b is_a)

  -- what assignments of d say of c by some way back is all that c knows, since it has no other assignment
  values_carried : (c d : Circuit) → IsWellFormed c → AreDefined c (literals c) → (way : (ℕ → Val) → ℕ → Val)
      → ((state given : List Val) (b : ℕ → Val) → IsStepAssignment d state given b
      → IsStepAssignment c state given (way b))
      → ((b : ℕ → Val) → map (literal_value b) (literals d) ≡ map (literal_value (way b)) (literals c))
      → Same c d
  values_carried c d good known way carried shown state given a b is_a is_b =
      shown b ∙ literals_agree c state given (way b) a good (carried state given b is_b) is_a (literals c) known

  values_through : (c e d : Circuit) → IsWellFormed e → MeansTheSame c e → Same c e → Same e d → Same c d
  values_through c e d good alike first second state given a b is_a is_b =
      let latches : length c.latches ≡ length e.latches =
      sym (length-map c.latches (λ (l : Latch). l.reset)) ∙ ap length (sym alike.resets)
      ∙ length-map e.latches (λ (l : Latch). l.reset) in
      let m = one_step_assignment e state given good
      (ap length (sym is_a.latches) ∙ length-map (latch_variables c) a
      ∙ length-map c.latches (λ (l : Latch). l.var) ∙ latches)
      (ap length (sym is_a.inputs) ∙ length-map c.inputs a ∙ sym alike.inputs) in
      second state given m.0 b m.1 is_b ∙ first state given a m.0 is_a m.1

pub goals_through : (c e d : Circuit) → IsWellFormed e → MeansTheSame c e → KeepsGoals c e → KeepsGoals e d
    → KeepsGoals c d
goals_through c e d good alike first second = record {
  justice = values_through (λ (x : Circuit). x.justice.literals) c e d good alike first.justice second.justice;
  fairness = values_through (λ (x : Circuit). x.fairness) c e d good alike first.fairness second.fairness;
}

known_lists : (c : Circuit) → IsWellFormed c → AllByRecursion (AreDefined c) (literal_lists c)
known_lists c good =
    each_of (IsDefined c) (literal_lists c)
    (back (IsDefined c) (next_literals c) (concat (literal_lists c))
    (front (IsDefined c) (next_literals c ++ concat (literal_lists c)) (flat_map operands c.gates) good.known))

-- where each assignment of d says one of c, by which the literals have the same values
pub goals_carried : (c d : Circuit) → IsWellFormed c → (way : (ℕ → Val) → ℕ → Val)
    → ((state given : List Val) (b : ℕ → Val) → IsStepAssignment d state given b
    → IsStepAssignment c state given (way b))
    → ((b : ℕ → Val) → map (literal_value b) d.justice.literals ≡ map (literal_value (way b)) c.justice.literals)
    → ((b : ℕ → Val) → map (literal_value b) d.fairness ≡ map (literal_value (way b)) c.fairness) → KeepsGoals c d
goals_carried c d good way carried justice fairness =
    let known = known_lists c good in
    record {
      justice = values_carried (λ (x : Circuit). x.justice.literals) c d good known.1.1.1.0 way carried justice;
      fairness = values_carried (λ (x : Circuit). x.fairness) c d good known.1.1.1.1.0 way carried fairness;
    }

-- a circuit that is folded
module _ (f : ℕ → ℕ) (c d : Circuit) (is : IsFoldedBy f c d) where
  folded_names : KeepsNames c d
  folded_names =
      subst (KeepsNames c) (sym is.same)
      (record {
        counts = λ k. sym (counts_folded f (map (folded_gate f) c.gates) c k);
        sizes = refl;
        symbols = refl;
        comment = refl;
      })

  folded_goals : IsWellFormed c → KeepsGoals c d
  folded_goals good =
      goals_carried c d good (read_back f) (folded_assignment f c d is)
      (λ b. ap (λ (x : Circuit). map (literal_value b) x.justice.literals) is.same
      ∙ same_values f b c.justice.literals)
      (λ b. ap (λ (x : Circuit). map (literal_value b) x.fairness) is.same ∙ same_values f b c.fairness)

-- one with some of its gates
module _ (c : Circuit) (gates : List Gate) where
  some_names : KeepsNames c (with_gates gates c)
  some_names = record {
    counts = λ k. sym (counts_kept c.max_var gates c.comment c k);
    sizes = refl;
    symbols = refl;
    comment = refl;
  }

  some_goals : IsWellFormed (with_gates gates c) → ((g : Gate) → Contains gates g → Contains c.gates g)
      → KeepsGoals c (with_gates gates c)
  some_goals good among =
      let other : KeepsGoals (with_gates gates c) c =
      goals_carried (with_gates gates c) c good (λ a. a)
      (λ state given a is. record {
        constant = is.constant;
        inputs = is.inputs;
        latches = is.latches;
        gates = λ g g_in. is.gates g (among g g_in);
      })
      (λ a. refl) (λ a. refl) in
      record {
        justice = values_back (λ (x : Circuit). x.justice.literals) (with_gates gates c) c other.justice;
        fairness = values_back (λ (x : Circuit). x.fairness) (with_gates gates c) c other.fairness;
      }

swept_names : (c d : Circuit) → IsSwept c d → KeepsNames c d
swept_names c d is = subst (KeepsNames c) (sym is.same) (some_names c d.gates)

swept_goals : (c d : Circuit) → IsSwept c d → IsWellFormed d → KeepsGoals c d
swept_goals c d is good =
    subst (KeepsGoals c) (sym is.same)
    (some_goals c d.gates (subst IsWellFormed is.same good)
    (λ g g_in. left_contained is.keeps c.gates g (subst (λ (gs : List Gate). Contains gs g) is.gates g_in)))

-- and the binary image
module _ (c : Circuit) (order : List ℕ) where
  abbrev number : ℕ → ℕ
  number = renumbered (in_new_order c order)

  image_counts : (k : Kind) → count_of (image_by order c) k ≡ count_of c k
  image_counts kinds.Input = length-map c.inputs number
  image_counts kinds.Latch = length-map c.latches (relabelled_latch number)
  image_counts kinds.Output = length-map c.outputs (relabelled_literal number)
  image_counts kinds.Bad = length-map c.bad (relabelled_literal number)
  image_counts kinds.Constraint = length-map c.constraints (relabelled_literal number)
  image_counts kinds.Justice = refl
  image_counts kinds.Fairness = length-map c.fairness (relabelled_literal number)

  numbered_value : (a : ℕ → Val) (l : ℕ)
      → literal_value a (relabelled_literal number l) ≡ literal_value (λ v. a (number v)) l
  numbered_value a l = search rules

  numbered_values : (a : ℕ → Val) (ls : List ℕ)
      → map (literal_value a) (map (relabelled_literal number) ls) ≡ map (literal_value (λ v. a (number v))) ls
  numbered_values a =
      map_twice (relabelled_literal number) (literal_value a) (literal_value (λ v. a (number v))) (numbered_value a)

  numbered_goals : IsWellFormed c → IsLeastReadyOrder c order → KeepsGoals c (image_by order c)
  numbered_goals good least =
      goals_carried c (image_by order c) good (λ a v. a (number v))
      (λ state given a. image_assigns_the_same c order state given a good least)
      (λ a. numbered_values a c.justice.literals) (λ a. numbered_values a c.fairness)

image_names : (c image : Circuit) → IsBinaryImage c image → KeepsNames c image
image_names c image is =
    subst (KeepsNames c) (sym is.2)
    (record { counts = image_counts c is.0; sizes = refl; symbols = refl; comment = refl })

image_goals : (c image : Circuit) → IsWellFormed c → IsBinaryImage c image → KeepsGoals c image
image_goals c image good is = subst (KeepsGoals c) (sym is.2) (numbered_goals c is.0 good is.1)

-- all that stays
abbrev pub StaysAll : Circuit → Circuit → Type 0
StaysAll c d = MeansTheSame c d × KeepsNames c d × KeepsGoals c d

pub all_through : (c e d : Circuit) → IsWellFormed e → StaysAll c e → StaysAll e d → StaysAll c d
all_through c e d good first second = (
  same_through c e d first.0 second.0,
  names_through c e d first.1 second.1,
  goals_through c e d good first.0 first.2 second.2,
)

pub folded_stays : (c d : Circuit) → IsFolded c d → IsWellFormed c → MeansTheSame c d → StaysAll c d
folded_stays c d is good same = (same, folded_names is.0 c d is.1, folded_goals is.0 c d is.1 good)

pub swept_stays : (c d : Circuit) → IsSwept c d → IsWellFormed d → MeansTheSame c d → StaysAll c d
swept_stays c d is good same = (same, swept_names c d is, swept_goals c d is good)

pub image_stays : (c image : Circuit) → IsBinaryImage c image → IsWellFormed c → MeansTheSame c image
    → StaysAll c image
image_stays c image is good same = (same, image_names c image is, image_goals c image good is)
