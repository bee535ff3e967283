-- Circuits that start in a given state: they are as well formed, and their traces are those from this state.
use Rattle.std.proofs.Common.{◌≡◌, ◌≤◌, ◌<◌, ◌++◌, ◌∙◌, ◌∷◌, ℕ, zero, suc, List, [], ap, length, map, refl, subst, sym}
use Rattle.std.proofs.Common.{arith, min, slice_index_or, slice_set, take, flat_map}
use Rattle.std.specs.List.{AllByRecursion, AllZip, concat}
use Rattle.aig_circuit.specs.declared.circuit.Circuit.{Circuit}
use Rattle.aig_circuit.specs.declared.circuit.Gate.{Gate}
use Rattle.aig_circuit.specs.declared.circuit.Kind.{Kind}
use Rattle.aig_circuit.specs.declared.circuit.Kind.TheVariants as kinds
use Rattle.aig_circuit.specs.declared.circuit.Latch.{Latch}
use Rattle.aig_circuit.specs.declared.circuit.Reset.{Reset}
use Rattle.aig_circuit.specs.declared.circuit.Symbol.{Symbol}
use Rattle.aig_circuit.specs.declared.value.Val.{Val}
use Rattle.aig_circuit.specs.declared.value.Val.TheVariants.{Zero, One, X}
use Rattle.aig_circuit.specs.Wellformed.{AreDistinct, IsKnown, IsVariableUpTo, IsWellFormed, count_of}
use Rattle.aig_circuit.specs.Wellformed.{defined_variables, largest_index, literal_lists, operands, used_literals}
use Rattle.aig_meaning.specs.Meaning.{IsRow, Row, literal_value}
use Rattle.aig_meaning.specs.Trace.{Follow, IsTrace, MayStartAt, reset_state, reset_value}
use Rattle.aig_step.specs.TraceText.{character_of, values_text}
use Rattle.aig_claims.specs.RunDump.{reset_to, started_in, with_resets}
use Rattle.aig_claims.specs.Started.{value_or_x}

-- nothing but the resets of the latches is changed
same_vars : (rs : List Reset) (ls : List Latch)
    → map (λ (l : Latch). l.var) (with_resets rs ls) ≡ map (λ (l : Latch). l.var) ls
same_vars [] ls = refl
same_vars (r ∷ rs) [] = refl
same_vars (r ∷ rs) (l ∷ ls) = ap (λ vs. l.var ∷ vs) (same_vars rs ls)

same_next : (rs : List Reset) (ls : List Latch)
    → map (λ (l : Latch). l.next) (with_resets rs ls) ≡ map (λ (l : Latch). l.next) ls
same_next [] ls = refl
same_next (r ∷ rs) [] = refl
same_next (r ∷ rs) (l ∷ ls) = ap (λ ns. l.next ∷ ns) (same_next rs ls)

pub as_many : (rs : List Reset) (ls : List Latch) → length (with_resets rs ls) ≡ length ls
as_many [] ls = refl
as_many (r ∷ rs) [] = refl
as_many (r ∷ rs) (l ∷ ls) = ap suc (as_many rs ls)

module _ (c : Circuit) (rs : List Reset) where
  abbrev changed : Circuit
  changed = record c { latches = with_resets rs c.latches }

  defined : defined_variables changed ≡ defined_variables c
  defined = ap (λ vs. c.inputs ++ vs ++ map (λ (g : Gate). g.var) c.gates) (same_vars rs c.latches)

  used : used_literals changed ≡ used_literals c
  used = ap (λ ns. ns ++ concat (literal_lists c) ++ flat_map operands c.gates) (same_next rs c.latches)

  same_count : (kind : Kind) → count_of changed kind ≡ count_of c kind
  same_count kinds.Input = refl
  same_count kinds.Latch = as_many rs c.latches
  same_count kinds.Output = refl
  same_count kinds.Bad = refl
  same_count kinds.Constraint = refl
  same_count kinds.Justice = refl
  same_count kinds.Fairness = refl

  in_place : (ss : List Symbol) → AllByRecursion (λ (s : Symbol). s.position < count_of c s.kind) ss
      → AllByRecursion (λ (s : Symbol). s.position < count_of changed s.kind) ss
  in_place [] all = tt
  in_place (s ∷ ss) all = (subst (λ n. s.position < n) (sym (same_count s.kind)) all.0, in_place ss all.1)

  pub still_well_formed : IsWellFormed c → IsWellFormed changed
  still_well_formed good = record {
    limits = record {
      max_var = good.limits.max_var;
      inputs = good.limits.inputs;
      latches = subst (λ n. n ≤ largest_index) (sym (as_many rs c.latches)) good.limits.latches;
      literals = good.limits.literals;
      justice = good.limits.justice;
      sizes = good.limits.sizes;
      gates = good.limits.gates;
    };
    in_range = subst (AllByRecursion (IsVariableUpTo c.max_var)) (sym defined) good.in_range;
    once = subst AreDistinct (sym defined) good.once;
    known = subst (λ ls. AllByRecursion (IsKnown (defined_variables changed)) ls) (sym used)
        (subst (λ vs. AllByRecursion (IsKnown vs) (used_literals c)) (sym defined) good.known);
    symbols = record {
      positions = in_place c.symbols good.symbols.positions;
      apart = good.symbols.apart;
      lines = good.symbols.lines;
    };
    ranked = good.ranked;
  }

  same_row : (row : Row) → IsRow changed row → IsRow c row
  same_row row (a, r) = (
    a,
    record {
      assigned = record {
        constant = r.assigned.constant;
        inputs = r.assigned.inputs;
        latches = ap (map a) (sym (same_vars rs c.latches)) ∙ r.assigned.latches;
        gates = r.assigned.gates;
      };
      outputs_shown = r.outputs_shown;
      next_shown = r.next_shown ∙ ap (map (literal_value a)) (same_next rs c.latches);
      bad_shown = r.bad_shown;
      constraints_shown = r.constraints_shown;
    },
  )

-- the characters of values stand for them
same_value : (v : Val) → value_or_x (character_of v) ≡ v
same_value Zero = refl
same_value One = refl
same_value X = refl

pub values_back : (vs : List Val) → map value_or_x (values_text vs) ≡ vs
values_back [] = refl
values_back (v ∷ vs) = rw (same_value v) (ap (λ us. v ∷ us) (values_back vs))

value_again : (v : Val) → reset_value (reset_to v) ≡ v
value_again Zero = refl
value_again One = refl
value_again X = refl

-- the reset state is the first state
starts : (ls : List Latch) (vs : List Val) → AllZip MayStartAt (map (λ (l : Latch). l.reset) ls) vs
    → map (λ (l : Latch). reset_value l.reset) (with_resets (map reset_to vs) ls) ≡ vs
starts [] [] may = refl
starts [] (v ∷ vs) may = absurd may
starts (l ∷ ls) [] may = absurd may
starts (l ∷ ls) (v ∷ vs) may = rw (value_again v) (ap (λ us. v ∷ us) (starts ls vs may.1))

-- rows that follow there follow here
follow_here : (c : Circuit) (rs : List Reset) (state : List Val) (steps : List (List Val)) (rows : List Row)
    → Follow (changed c rs) state steps rows → Follow c state steps rows
follow_here c rs state [] [] follow = tt
follow_here c rs state [] (r ∷ rows) follow = absurd follow
follow_here c rs state (v ∷ vs) [] follow = absurd follow
follow_here c rs state (v ∷ vs) (r ∷ rows) follow =
    (follow.0, follow.1, same_row c rs r follow.2, follow_here c rs r.next vs rows follow.3)

-- a trace from the reset state there is one from the first state here
pub trace_from : (c : Circuit) (first : List Val) (steps : List (List Val)) (rows : List Row)
    → AllZip MayStartAt (map (λ (l : Latch). l.reset) c.latches) first
    → IsTrace (started_in first c) (reset_state (started_in first c)) steps rows → IsTrace c first steps rows
trace_from c first steps rows may trace = (
  may,
  follow_here c (map reset_to first) first steps rows
      (subst (λ state. Follow (started_in first c) state steps rows) (starts c.latches first may) trace.1),
)

-- the resets by which latches start at the values of characters
abbrev pub resets_by : List ℕ → List Reset
resets_by text = map reset_to (map value_or_x text)

-- the reset of one more latch
pub next_reset : (text : List ℕ) (i : ℕ) (ls : List Latch) (other : Latch) → i < length text → i < length ls
    → (let now = with_resets (resets_by (take i text)) ls in
    slice_set now i (record (slice_index_or now i other) { reset = reset_to (value_or_x (slice_index_or text i 0)) })
    ≡ with_resets (resets_by (take (suc i) text)) ls)
next_reset [] i ls other is_byte is_latch = absurd (omega (arith, is_byte))
next_reset (b ∷ bs) i [] other is_byte is_latch = absurd (omega (arith, is_latch))
next_reset (b ∷ bs) zero (l ∷ ls) other is_byte is_latch = refl
next_reset (b ∷ bs) (suc i) (l ∷ ls) other is_byte is_latch =
    ap (λ ks. record l { reset = reset_to (value_or_x b) } ∷ ks) (next_reset bs i ls other (omega (arith, is_byte))
    (omega (arith, is_latch)))

-- no more resets are needed than there are latches
pub all_reset : (text : List ℕ) (n : ℕ) (ls : List Latch) → min (length ls) (length text) ≤ n
    → with_resets (resets_by (take n text)) ls ≡ with_resets (resets_by text) ls
all_reset [] zero ls few = refl
all_reset [] (suc n) ls few = refl
all_reset (b ∷ bs) zero [] few = refl
all_reset (b ∷ bs) zero (l ∷ ls) few = absurd (omega (arith, few))
all_reset (b ∷ bs) (suc n) [] few = refl
all_reset (b ∷ bs) (suc n) (l ∷ ls) few =
    ap (λ ks. record l { reset = reset_to (value_or_x b) } ∷ ks) (all_reset bs n ls (omega (arith, few)))
