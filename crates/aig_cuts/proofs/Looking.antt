-- Gates of a circuit in binary order are looked up by their variables, with how they are written.
use Rattle.std.proofs.Common.{◌≡◌, ◌≢◌, ◌+◌, ◌<◌, ◌∷◌, ◌∙◌, ℕ, zero, suc, List, [], get_or, length, min}
use Rattle.std.proofs.Common.{sym, ap, subst, arith, below_more}
use Rattle.std.specs.List.{Contains, zip}
use Rattle.std.proofs.lemmas.List.{get_or_default}
use Rattle.std.proofs.lemmas.Slice.Zip.{get_or-zip, length-zip}
use Rattle.aig_circuit.specs.declared.circuit.Gate.{Gate}
use Rattle.aig_checked.specs.BinaryOrder.{AreOrderedGates}
use Rattle.aig_cuts.specs.declared.cut.Cut.{Cut}
use Rattle.aig_cuts.specs.declared.cut.Cut.TheVariants.{Inner}
use Rattle.aig_cuts.specs.Cuts.{IsKept, Planned}

-- both lists have theirs at one place
pub record AreAt (gates : List Gate) (plan : List Cut) (g : Gate) (cut : Cut) : Type 0 where
  pub at : ℕ
  pub gate_below : at < length gates
  pub cut_below : at < length plan
  pub gate_is : get_or gates at g ≡ g
  pub cut_is : get_or plan at cut ≡ cut

pub at_where : (gates : List Gate) (plan : List Cut) (g : Gate) (cut : Cut) → Contains (zip gates plan) (g, cut)
    → AreAt gates plan g cut
at_where gates plan g cut (k, below, is) =
    let short : k < min (length gates) (length plan) = omega (arith, below, length-zip gates plan) in
    let gate_below : k < length gates = omega (arith, short) in
    let cut_below : k < length plan = omega (arith, short) in
    let pair = sym (get_or-zip gates plan k (g, cut) gate_below cut_below) ∙ is in
    record {
      at = k;
      gate_below = gate_below;
      cut_below = cut_below;
      gate_is = ap (λ (p : Planned). p.0) pair;
      cut_is = ap (λ (p : Planned). p.1) pair;
    }

-- the pair at a place
pub pair_there : (gates : List Gate) (plan : List Cut) (k : ℕ) (g : Gate) (cut : Cut) → k < length gates
    → k < length plan → g ≡ get_or gates k g → cut ≡ get_or plan k cut → (g, cut) ≡ get_or (zip gates plan) k (g, cut)
pair_there gates plan k g cut gate_below cut_below gate_is cut_is =
    ap (λ (x : Gate). (x, cut)) gate_is ∙ ap (λ (x : Cut). (get_or gates k g, x)) cut_is
    ∙ sym (get_or-zip gates plan k (g, cut) gate_below cut_below)

pub planned_there : (gates : List Gate) (plan : List Cut) (k : ℕ) (g : Gate) (cut : Cut) → k < length gates
    → k < length plan → g ≡ get_or gates k g → cut ≡ get_or plan k cut → Contains (zip gates plan) (g, cut)
planned_there gates plan k g cut gate_below cut_below gate_is cut_is =
    let long : k < length (zip gates plan) = omega (arith, gate_below, cut_below, length-zip gates plan) in
    (k, long, sym (pair_there gates plan k g cut gate_below cut_below gate_is cut_is))

pub variable_there : (first : ℕ) (gates : List Gate) → AreOrderedGates first gates → (k : ℕ) (g : Gate)
    → k < length gates → get_or gates k g ≡ g → g.var ≡ first + k
variable_there first [] ordered k g below is = absurd (omega (arith, below))
variable_there first (h ∷ hs) ordered zero g below is = omega (arith, ap (λ (x : Gate). x.var) is, ordered.0)
variable_there first (h ∷ hs) ordered (suc k) g below is =
    omega (arith, variable_there (suc first) hs ordered.3 k g (omega (arith, below)) is)

-- no gate of the variable is left out
pub kept_where : (first : ℕ) (gates : List Gate) (plan : List Cut) (v : ℕ) → AreOrderedGates first gates
    → ((k : ℕ) → k < length gates → k < length plan → v ≡ first + k → get_or plan k Inner ≢ Inner)
    → IsKept (zip gates plan) v
kept_where first gates plan v ordered none h h_in named =
    let there = at_where gates plan h Inner h_in in
    none there.at there.gate_below there.cut_below
    (sym named ∙ variable_there first gates ordered there.at h there.gate_below there.gate_is) there.cut_is

-- what is so of those before is so of one more
pub each_more : {X : Type 0} (P : X → Type 0) (xs : List X) (i : ℕ) (x : X) → i < length xs → x ≡ get_or xs i x → P x
    → ((k : ℕ) → k < i → (d : X) → P (get_or xs k d)) → (k : ℕ) → k < i + 1 → (d : X) → P (get_or xs k d)
each_more {X = X} P xs i x below is here before =
    below_more (λ (k : ℕ). (d : X) → P (get_or xs k d)) i before
    (λ d. subst P (is ∙ get_or_default xs i x d below) here)
