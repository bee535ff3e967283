-- What is made of two circuits: that it is well formed, and its traces.
use Rattle.std.proofs.Common.{◌≡◌, ◌↔◌, ◌≤◌, ◌==◌, ◌++◌, ◌∙◌, ◌||◌, ℕ, List, [], ◌∷◌, Bool, ap}
use Rattle.std.proofs.Common.{append_assoc, arith, eqb, false, if◌then◌else◌, length, not, refl, subst, sym, true}
use Rattle.std.proofs.Common.{⊎_elim, None, Option, Some}
use Rattle.std.specs.Prelude.{Ok, nat_lt}
use Rattle.std.proofs.lemmas.Bool.{eqb-true, ltb-false}
use Rattle.std.proofs.lemmas.Bool.Decides.{eqb_tells}
use Rattle.std.proofs.lemmas.List.{map-append}
use Rattle.aig_circuit.specs.declared.circuit.Circuit.{Circuit}
use Rattle.aig_circuit.specs.declared.circuit.Gate.{Gate}
use Rattle.aig_circuit.specs.declared.circuit.Latch.{Latch}
use Rattle.aig_circuit.specs.declared.circuit.TheConstants.{LARGEST}
use Rattle.aig_circuit.specs.declared.value.Val.{Val}
use Rattle.aig_circuit.specs.declared.value.Val.TheVariants.{Zero}
use Rattle.aig_circuit.specs.Wellformed.{IsAmong, IsWellFormed, largest_index}
use Rattle.aig_fault.specs.declared.kind.Kind.{Kind}
use Rattle.aig_fault.specs.declared.kind.Kind.TheVariants.{NotComparable, OtherInputs, OtherOutputs, TooLargeToCompare}
use Rattle.aig_meaning.specs.Meaning.{Row, latch_variables}
use Rattle.aig_meaning.specs.Trace.{IsFirstState, IsTrace}
use Rattle.aig_topo.proofs.Ordering.Counted.{among_first}
use Rattle.aig_topo.proofs.Ordering.Cyclic.{among_last}
use Rattle.aig_miter.specs.Both.{joined_rows}
use Rattle.aig_miter.specs.Laws.{MiterIsWellFormed, MiterTracesAreOfBoth}
use Rattle.aig_miter.specs.Miter.{compared, differing, first_compared, moved, plain_miter, tied}
use Rattle.aig_miter.specs.Outcome.{is_comparable, is_overfull, made_unless, pair_fault}
use Rattle.aig_miter.specs.Parts.Comparable.{AreComparable}
use Rattle.aig_miter.specs.Parts.Moved.{bare, both_of, side_by_side}
use Rattle.aig_miter.specs.Starts.{first_of_both, free_literals, miter, pairs}
use Rattle.aig_miter.specs.Starts.{rows_of_both, started_miter, started_rows}
use Rattle.aig_miter.specs.Starts.{with_equal_starts}
use Rattle.aig_miter.proofs.Formed.Starting.{equal_starts_formed, free_defined}
use Rattle.aig_miter.proofs.Formed.Whole.{plain_formed}
use Rattle.aig_miter.proofs.Sizes.{as_plain, as_started, pairs_moved}
use Rattle.aig_miter.proofs.Started.{started_met, started_parted}
use Rattle.aig_miter.proofs.Traces.{met, parted}

-- ---- what a pair without fault is

-- what holds where nothing keeps the second circuit from being compared
pub record IsPair (a b : Circuit) : Type 0 where
  pub fit : AreComparable a b
  pub variables : (miter a b).max_var ≤ LARGEST
  pub bad : length (miter a b).bad ≤ LARGEST
  pub constraints : length (miter a b).constraints ≤ LARGEST

abbrev judged : (one two three four : Bool) → Option Kind
judged one two three four =
    if not one then Some NotComparable
    else if not two then Some OtherInputs
    else if not three then Some OtherOutputs
    else if four then Some TooLargeToCompare
    else None

record HavePassed (two three four : Bool) : Type 0 where
  pub inputs : two ≡ true
  pub seen : three ≡ true
  pub few : four ≡ false

all_passed : (one two three four : Bool) → judged one two three four ≡ None → HavePassed two three four
all_passed false two three four none = absurd (cc)
all_passed true false three four none = absurd (cc)
all_passed true true false four none = absurd (cc)
all_passed true true true true none = absurd (cc)
all_passed true true true false none = record { inputs = refl; seen = refl; few = refl }

record AreFalse (one two three : Bool) : Type 0 where
  pub first : one ≡ false
  pub second : two ≡ false
  pub third : three ≡ false

all_false : (one two three : Bool) → (one || two || three) ≡ false → AreFalse one two three
all_false true two three none = absurd (cc)
all_false false true three none = absurd (cc)
all_false false false true none = absurd (cc)
all_false false false false none = record { first = refl; second = refl; third = refl }

pub pair_without_fault : (a b : Circuit) → pair_fault a b ≡ None → IsPair a b
pair_without_fault a b none =
    let passed = all_passed (is_comparable b) (length b.inputs == length a.inputs)
    (length (compared b) == length (compared a)) (is_overfull (miter a b)) none in
    let few = all_false (nat_lt LARGEST (miter a b).max_var) (nat_lt LARGEST (length (miter a b).bad))
    (nat_lt LARGEST (length (miter a b).constraints)) passed.few in record {
      fit = record {
        inputs = eqb-true (length b.inputs) (length a.inputs) passed.inputs;
        seen = eqb-true (length (compared b)) (length (compared a)) passed.seen;
      };
      variables = ltb-false LARGEST (miter a b).max_var few.first;
      bad = ltb-false LARGEST (length (miter a b).bad) few.second;
      constraints = ltb-false LARGEST (length (miter a b).constraints) few.third;
    }

pub record IsMade (fault : Option Kind) (x m : Circuit) : Type 0 where
  pub faultless : fault ≡ None
  pub same : x ≡ m

pub made_means : (fault : Option Kind) (x m : Circuit) → made_unless fault x ≡ Ok m → IsMade fault x m
made_means None x m made = record { faultless = refl; same = cc }
made_means (Some kind) x m made = absurd (cc)

-- ---- it is well formed

first_there : (a b : Circuit) (v : ℕ) → IsAmong v (latch_variables a) → IsAmong v (latch_variables (plain_miter a b))
first_there a b v is =
    subst (IsAmong v) (sym (map-append (λ (l : Latch). l.var) a.latches (moved a b).latches))
    (among_first v (latch_variables a) (latch_variables (moved a b)) is)

second_there : (a b : Circuit) (v : ℕ) → IsAmong v (latch_variables (moved a b))
    → IsAmong v (latch_variables (plain_miter a b))
second_there a b v is =
    subst (IsAmong v) (sym (map-append (λ (l : Latch). l.var) a.latches (moved a b).latches))
    (among_last (latch_variables a) (latch_variables (moved a b)) v is)

started_formed : (a b : Circuit) → IsWellFormed (plain_miter a b) → (started_miter a b).max_var ≤ largest_index
    → length (started_miter a b).constraints ≤ largest_index → IsWellFormed (started_miter a b)
started_formed a b good room few =
    equal_starts_formed (free_literals a) (free_literals (moved a b)) (plain_miter a b) good refl
    (free_defined (plain_miter a b) a.latches (first_there a b))
    (free_defined (plain_miter a b) (moved a b).latches (second_there a b)) room few

pub pair_formed : (a b : Circuit) → IsWellFormed a → IsWellFormed b → IsPair a b → IsWellFormed (miter a b)
pair_formed a b good good_too pair =
    ⊎_elim
    (λ (t : (eqb (pairs a b) 0 ≡ true) × (pairs a b ≡ 0)).
    let is = as_plain a b t.1 in
    subst IsWellFormed (sym is)
    (plain_formed a b good good_too pair.fit
    (subst (λ (m : Circuit). m.max_var ≤ largest_index) is pair.variables)
    (subst (λ (m : Circuit). length m.bad ≤ largest_index) is pair.bad)))
    (λ (f : (eqb (pairs a b) 0 ≡ false) × ¬ (pairs a b ≡ 0)).
    let is = as_started a b f.1 in
    let room : (started_miter a b).max_var ≤ largest_index =
    subst (λ (m : Circuit). m.max_var ≤ largest_index) is pair.variables in
    let few : length (plain_miter a b).bad ≤ largest_index =
    subst (λ (m : Circuit). length m.bad ≤ largest_index) is pair.bad in
    subst IsWellFormed (sym is)
    (started_formed a b (plain_formed a b good good_too pair.fit (omega (arith, room)) few) room
    (subst (λ (m : Circuit). length m.constraints ≤ largest_index) is pair.constraints)))
    (eqb_tells (pairs a b) 0)

pub miter_is_well_formed : MiterIsWellFormed
miter_is_well_formed a b m is =
    let made = made_means (pair_fault a b) (miter a b) m is.made in
    subst IsWellFormed made.same
    (pair_formed a b is.first is.second (pair_without_fault a b made.faultless))

-- ---- its traces

-- The traces of one that is plain, or has equal starts.
abbrev TracesAre : Bool → Circuit → Circuit → List Val → List Val → List (List Val) → List Row → Type 0
TracesAre plain a b first second vectors rows =
    IsWellFormed (if plain then plain_miter a b else started_miter a b)
    → IsTrace (if plain then plain_miter a b else started_miter a b)
    (if plain then first ++ second else (first ++ second) ++ Zero ∷ []) vectors rows
    ↔ ((rs ss : List Row) × IsTrace a first vectors rs × IsTrace b second vectors ss
    × (rows ≡ (if plain then joined_rows rs ss else started_rows a b Zero rs ss)))

module _ (a b : Circuit) (f g : List Val) (vectors : List (List Val)) (rows : List Row) (fit : AreComparable a b)
    (good : IsWellFormed a) (good_too : IsWellFormed b) (start : IsFirstState a f) (start_too : IsFirstState b g) where
  traces_are : (plain : Bool) → TracesAre plain a b f g vectors rows
  traces_are true formed = (
    λ trace. parted a b f g vectors fit good good_too formed start start_too rows trace,
    λ both.
        subst (IsTrace (plain_miter a b) (f ++ g) vectors) (sym both.4)
        (met a b f g vectors fit good good_too formed start start_too both.0 both.1 both.2 both.3),
  )
  traces_are false formed = (
    λ trace. started_parted a b f g vectors fit good good_too formed start start_too rows trace,
    λ both.
        subst (IsTrace (started_miter a b) ((f ++ g) ++ Zero ∷ []) vectors) (sym both.4)
        (started_met a b f g vectors fit good good_too formed start start_too both.0 both.1 both.2 both.3),
  )

pub miter_traces_are_of_both : MiterTracesAreOfBoth
miter_traces_are_of_both a b m f g vectors rows is start start_too =
    let made = made_means (pair_fault a b) (miter a b) m is.made in
    let pair = pair_without_fault a b made.faultless in
    subst (λ (x : Circuit). IsTrace x (first_of_both a b f g) vectors rows
    ↔ ((rs ss : List Row) × IsTrace a f vectors rs × IsTrace b g vectors ss × (rows ≡ rows_of_both a b rs ss)))
    made.same
    (traces_are a b f g vectors rows pair.fit is.first is.second start start_too (pairs a b == 0)
    (pair_formed a b is.first is.second pair))

-- ---- how it is made

bare_is_plain : (a b : Circuit) → bare (side_by_side a (moved a b)) ≡ plain_miter a b
bare_is_plain a b =
    let d = moved a b in
    let ties = tied a.inputs d.inputs in
    let comparing = differing (first_compared a b) (compared a) (compared d) in
    ap (λ (gs : List Gate). record (plain_miter a b) { gates = gs })
    (append_assoc a.gates (ties ++ d.gates) comparing
    ∙ ap (λ (gs : List Gate). a.gates ++ gs) (append_assoc ties d.gates comparing))

bare_either : (a b : Circuit) (plain : Bool)
    → bare (if plain then side_by_side a (moved a b)
    else with_equal_starts (free_literals a) (free_literals (moved a b)) (side_by_side a (moved a b)))
    ≡ (if plain then plain_miter a b else started_miter a b)
bare_either a b true = bare_is_plain a b
bare_either a b false =
    ap (λ (m : Circuit). with_equal_starts (free_literals a) (free_literals (moved a b)) m) (bare_is_plain a b)

pub bare_is_miter : (a b : Circuit) → bare (both_of a (moved a b)) ≡ miter a b
bare_is_miter a b =
    let s = side_by_side a (moved a b) in
    ap (λ (n : ℕ). bare (if n == 0 then s
    else with_equal_starts (free_literals a) (free_literals (moved a b)) s)) (pairs_moved a b)
    ∙ bare_either a b (pairs a b == 0)
