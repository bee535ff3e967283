-- Lines of a witness file that are due, what they say, and what follows them.
use Rattle.std.proofs.Common.{◌≡◌, ◌≢◌, ◌<◌, ◌&&◌, ◌∷◌, if◌then◌else◌, ◌++◌, ◌∙◌, nat_lt, rules, subst, ℕ, List, []}
use Rattle.std.proofs.Common.{Bool, true, false, length, refl, arith, Option, Some, None, map, sym, ap, get_or, inl}
use Rattle.std.proofs.Common.{inr, option_map, replicate}
use Rattle.std.specs.List.{All, AllZip}
use Rattle.std.proofs.lemmas.Bool.{eqb-false, eqb-true, ltb-true}
use Rattle.std.proofs.lemmas.List.{length-map, get_or-map, length-replicate}
use Rattle.std.proofs.lemmas.List.Sums.{AllPass-from_list_all, list_all-from_AllPass}
use Rattle.aig_circuit.specs.declared.circuit.Circuit.{Circuit}
use Rattle.aig_circuit.specs.declared.circuit.Reset.{Reset}
use Rattle.aig_circuit.specs.declared.value.Val.{Val}
use Rattle.aig_circuit.specs.declared.circuit.Reset.TheVariants as resets
use Rattle.aig_circuit.specs.declared.value.Val.TheVariants.{Zero, One, X}
use Rattle.aig_circuit.specs.Wellformed.{IsWellFormed}
use Rattle.aig_meaning.specs.Meaning.{MeansTheSame, literal_value}
use Rattle.aig_meaning.specs.Trace.{MayStartAt, reset_state}
use Rattle.aig_meaning.proofs.Traces.{one_row, first_length, reset_state_is_first, trace_goes_on}
use Rattle.aig_step.specs.Parts.Lines.{vector_in, row_read}
use Rattle.aig_step.specs.Stimulus.{values_of}
use Rattle.aig_step.proofs.LineValues.{values_length, row_is_read, vector_says}
use Rattle.aig_step.proofs.Running.Machines.{state_after_last}
use Rattle.aig_rows.specs.Spelling.{value_of as number_of}
use Rattle.aig_witness.specs.Witness.{property_by, property_in, shape_of, first_state_in, if_may_start, may_start_at}
use Rattle.aig_witness.specs.Witness.{is_canonical, may_start_in}
use Rattle.aig_witness.specs.Witness.{Claim, Nothing, Property, Said, Steps, Version, Whole, begun_at, with_entry}
use Rattle.aig_witness.specs.WrongLine.{NamesBadState}
use Rattle.aig_witness.specs.declared.checker.Due.TheVariants as due
use Rattle.aig_witness.specs.Parts.Witnessing.{Follows, StandsWhen, StepTaken, TookDue, TookEntry, TookFirstState}
use Rattle.aig_witness.specs.Parts.Witnessing.{TookProperty, Witnessing, are_ones, is_one}
use Rattle.aig_witness.proofs.Confirmed.{tells_more, tells_nothing}

-- the line of the bad state
number_by : (canonical low : Bool) (n p bound : ℕ) → (low ≡ true → n < bound)
    → (if canonical && low then Some n else None) ≡ Some p → (canonical ≡ true) × (n ≡ p) × (p < bound)
number_by true true n p bound below is =
    let same : n ≡ p = cc in (refl, same, subst (λ (m : ℕ). m < bound) same (below refl))
number_by true false n p bound below is = cc
number_by false low n p bound below is = cc

byte_by : (begins : Bool) (o : Option ℕ) (p : ℕ) → (if begins then o else None) ≡ Some p
    → (begins ≡ true) × (o ≡ Some p)
byte_by true o p is = (refl, is)
byte_by false o p is = cc

-- the text names this property by this letter, where there are so many
pub record NamesProperty (letter count : ℕ) (text : List ℕ) (property : ℕ) : Type 0 where
  pub digits : List ℕ
  pub text_is : text ≡ letter ∷ digits
  pub canonical : is_canonical digits ≡ true
  pub number : number_of digits ≡ property
  pub below : property < count

pub property_read : (letter count : ℕ) (text : List ℕ) (p : ℕ) → property_by letter count text ≡ Some p
    → NamesProperty letter count text p
property_read letter count [] p is = cc
property_read letter count (b ∷ bs) p is = search (rules, byte_by, number_by, nat_lt, ltb-true, eqb-true)

pub number_read : (bound : ℕ) (text : List ℕ) (p : ℕ) → property_in bound text ≡ Some p → NamesBadState bound text p
number_read bound text p is =
    let named = property_read 98 bound text p is in
    record {
      digits = named.digits;
      text_is = named.text_is;
      canonical = named.canonical;
      number = named.number;
      below = named.below;
    }

second : (a b : Bool) → (a && b) ≡ true → b ≡ true
second true b is = is
second false b is = cc

starts_long : (rs : List Reset) (vs : List Val) → may_start_in rs vs ≡ true → length vs ≡ length rs
starts_long [] [] is = refl
starts_long [] (v ∷ vs) is = cc
starts_long (r ∷ rs) [] is = cc
starts_long (r ∷ rs) (v ∷ vs) is =
    omega (arith, starts_long rs vs (second (may_start_at r v) (may_start_in rs vs) is))

-- a text with another number of characters than there are latches says no first state
not_chosen : (start : Bool) (vs : List Val) → start ≢ true → (if start then Some vs else None) ≡ None
not_chosen true vs fails = absurd (fails refl)
not_chosen false vs fails = refl

wrong_values : (rs : List Reset) (o : Option (List Val)) (n : ℕ) → n ≢ length rs
    → ((vs : List Val) → o ≡ Some vs → length vs ≡ n) → if_may_start rs o ≡ None
wrong_values rs None n other long = refl
wrong_values rs (Some vs) n other long = search (rules, not_chosen, starts_long)

pub no_first_state : (rs : List Reset) (text : List ℕ) → length text ≢ length rs → first_state_in rs text ≡ None
no_first_state rs text other = wrong_values rs (values_of text) (length text) other (values_length text)

by_test : (rs : List Reset) (long : Bool) (o : Option (List Val)) → (long ≡ false → if_may_start rs o ≡ None)
    → if_may_start rs o ≡ if_may_start rs (if long then o else None)
by_test rs true o never = refl
by_test rs false o never = never refl

-- what a text says as a first state, by the values that it says for the latches
pub first_by_values : (c : Circuit) (text : List ℕ) (o : Option (List Val)) → vector_in (length c.latches) text ≡ o
    → first_state_in (shape_of c).resets text ≡ if_may_start (shape_of c).resets o
first_by_values c text o is = search (rules, length-map, by_test, no_first_state, eqb-false)

-- Lines of a witness file that are due, and what follows them.

-- values that agree with the resets are a first state
one_starts : (r : Reset) (v : Val) → may_start_at r v ≡ true → MayStartAt r v
one_starts resets.Zero Zero is = refl
one_starts resets.Zero One is = cc
one_starts resets.Zero X is = cc
one_starts resets.One Zero is = cc
one_starts resets.One One is = refl
one_starts resets.One X is = cc
one_starts resets.Uninit v is = tt

pub both : (a b : Bool) → (a && b) ≡ true → (a ≡ true) × (b ≡ true)
both true b is = (refl, is)
both false b is = cc

all_start : (rs : List Reset) (vs : List Val) → may_start_in rs vs ≡ true → AllZip MayStartAt rs vs
all_start [] [] is = tt
all_start [] (v ∷ vs) is = cc
all_start (r ∷ rs) [] is = cc
all_start (r ∷ rs) (v ∷ vs) is =
    let parts = both (may_start_at r v) (may_start_in rs vs) is in
    (one_starts r v parts.0, all_start rs vs parts.1)

chosen : (start : Bool) (vs first : List Val) → (if start then Some vs else None) ≡ Some first
    → (start ≡ true) × (vs ≡ first)
chosen true vs first is = (refl, cc)
chosen false vs first is = cc

-- values are chosen if they are a first state
pub may_start : (rs : List Reset) (o : Option (List Val)) (first : List Val) → if_may_start rs o ≡ Some first
    → (o ≡ Some first) × AllZip MayStartAt rs first
may_start rs None first is = cc
may_start rs (Some vs) first is = search (rules, chosen, all_start)

-- values that are all 1
pub one_of : (v : Val) → is_one v ≡ true → v ≡ One
one_of Zero is = cc
one_of One is = refl
one_of X is = cc

pub ones_are : (vs : List Val) → are_ones vs ≡ true → All (λ (v : Val). v ≡ One) vs
ones_are vs are k d low = one_of (get_or vs k d) (AllPass-from_list_all is_one vs are k d low)

pub ones_not : (vs : List Val) → are_ones vs ≡ false → ¬ All (λ (v : Val). v ≡ One) vs
ones_not vs are all =
    let ones : are_ones vs ≡ true = list_all-from_AllPass is_one vs (λ k d low. ap is_one (all k d low)) in cc

pub not_one : (v : Val) → is_one v ≡ false → v ≢ One
not_one v is same = let one : is_one v ≡ true = ap is_one same in cc

module _ (w v : Witnessing) (text : List ℕ) where
  -- the line that names a bad state
  pub took_property : (said : Said) → StandsWhen w said → w.due ≡ due.Property → TookProperty w v text
      → TookDue w v said text
  took_property Nothing stands is took = let other = stands.0 in cc
  took_property Version stands is took = record {
    next = Property took.property;
    is = ap (option_map Property) took.said;
    stands = rw took.leads (
      refl,
      record { steps = stands.1.steps; holds = stands.1.holds; found = stands.1.found },
      record { below = (number_read (length w.circuit.bad) text took.property took.said).below; literal = refl },
    );
    circuit = ap (λ (x : Witnessing). x.circuit) took.leads;
  }
  took_property (Property p) stands is took = let other = stands.0 in cc
  took_property (Steps claim) stands is took = let other = stands.0 in cc
  took_property (Whole claim) stands is took = let other = stands.0 in cc

  -- the line of the first state
  pub took_first : (said : Said) → StandsWhen w said → w.due ≡ due.FirstState → TookFirstState w v text
      → TookDue w v said text
  took_first Nothing stands is took = let other = stands.0 in cc
  took_first Version stands is took = let other = stands.0 in cc
  took_first (Property p) stands is took = record {
    next = begun_at p took.first;
    is = ap (option_map (begun_at p)) took.said;
    stands = rw took.leads (
      refl,
      record {
        seeks = record { below = stands.2.below; literal = stands.2.literal };
        rows = [];
        trace = ((may_start (shape_of w.circuit).resets (values_of text) took.first took.said).1, tt);
        state = refl;
        tells = tells_nothing p w.search stands.1;
      },
    );
    circuit = ap (λ (x : Witnessing). x.circuit) took.leads;
  }
  took_first (Steps claim) stands is took = let other = stands.0 in cc
  took_first (Whole claim) stands is took = let other = stands.0 in cc

  -- the line of a step
  step_follows : (claim : Claim) → Follows w claim → (step : StepTaken w v text)
      → Follows v (record claim { steps = claim.steps ++ step.given ∷ [] })
  step_follows claim follows step =
      let c = w.circuit in
      let a = step.values in
      let row = row_read c w.state step.given a in
      let value : get_or row.bad claim.property Zero ≡ literal_value a w.search.literal =
      get_or-map (literal_value a) c.bad claim.property 0 Zero follows.seeks.below
      ∙ ap (literal_value a) (sym follows.seeks.literal) in
      rw step.leads (record {
        seeks = record { below = follows.seeks.below; literal = follows.seeks.literal };
        rows = follows.rows ++ row ∷ [];
        trace = trace_goes_on c claim.first claim.steps follows.rows row follows.trace follows.state
            (row_is_read c w.state step.given a step.assigned);
        state = sym (state_after_last claim.first follows.rows row);
        tells = tells_more claim.property follows.rows row w.search
            (is_one (literal_value a w.search.literal)) (are_ones (map (literal_value a) c.constraints))
            follows.tells
            (λ one. value ∙ one_of (literal_value a w.search.literal) one)
            (λ other bad. not_one (literal_value a w.search.literal) other (sym value ∙ bad))
            (λ are. ones_are (map (literal_value a) c.constraints) are)
            (λ are. ones_not (map (literal_value a) c.constraints) are);
      })

  step_due : (claim : Claim) → w.due ≡ due.Steps → Follows w claim → StepTaken w v text → TookDue w v (Steps claim) text
  step_due claim is follows step = record {
    next = Steps (record claim { steps = claim.steps ++ step.given ∷ [] });
    is = ap (option_map (with_entry claim))
        (vector_says (length w.circuit.inputs) text step.given step.said);
    stands = (ap (λ (x : Witnessing). x.due) step.leads ∙ is, step_follows claim follows step);
    circuit = ap (λ (x : Witnessing). x.circuit) step.leads;
  }

  -- the line of a step, or the line `.`
  pub took_entry : (said : Said) → StandsWhen w said → w.due ≡ due.Steps → TookEntry w v text → TookDue w v said text
  took_entry Nothing stands is took = let other = stands.0 in cc
  took_entry Version stands is took = let other = stands.0 in cc
  took_entry (Property p) stands is took = let other = stands.0 in cc
  took_entry (Steps claim) stands is (inl step) = step_due claim is stands.1 step
  took_entry (Steps claim) stands is (inr (stop, leads)) = record {
    next = Whole claim;
    is = ap (option_map (with_entry claim)) stop;
    stands = rw leads (
      refl,
      record {
        seeks = record { below = stands.1.seeks.below; literal = stands.1.seeks.literal };
        rows = stands.1.rows;
        trace = stands.1.trace;
        state = stands.1.state;
        tells = stands.1.tells;
      },
    );
    circuit = ap (λ (x : Witnessing). x.circuit) leads;
  }
  took_entry (Whole claim) stands is took = let other = stands.0 in cc

-- circuits that mean the same have as many bad states
pub same_bad : (c d : Circuit) → IsWellFormed c → MeansTheSame c d → length d.bad ≡ length c.bad
same_bad c d formed means =
    let given = replicate (length c.inputs) Zero in
    let some = one_row c (reset_state c) given formed (first_length c (reset_state c) (reset_state_is_first c))
    (length-replicate (length c.inputs) Zero) in
    let here = some.3 in
    let there = (means.rows some.0).0 here in
    omega (
      arith,
      ap length here.1.bad_shown,
      length-map c.bad (literal_value here.0),
      ap length there.1.bad_shown,
      length-map d.bad (literal_value there.0),
    )
