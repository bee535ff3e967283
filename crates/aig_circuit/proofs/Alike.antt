-- Latches and gates made of what they hold, and what `==` of circuits and of their parts tells.
use Rattle.std.proofs.Common.{◌≡◌, ◌&&◌, ℕ, ap₂, Bool, List, ap, refl, subst, Option, None, Some, nat_eq, Decides}
use Rattle.std.specs.Option.{option_eq}
use Rattle.std.specs.Cmp.Lexicographic.{pointwise}
use Rattle.std.proofs.lemmas.Bool.Decides.{Decides-at, Decides-eqb, Decides-and, Decides-like}
use Rattle.std.proofs.lemmas.Slice.Eq.{slice_eq-Decides, bytes_eq-Decides}
use Rattle.aig_circuit.specs.declared.circuit.Latch.{Latch}
use Rattle.aig_circuit.specs.declared.circuit.Gate.{Gate}
use Rattle.aig_circuit.specs.declared.circuit.Reset.{Reset}
use Rattle.aig_circuit.specs.declared.circuit.Reset.TheVariants.{Zero, One, Uninit}
use Rattle.aig_circuit.specs.contracts.circuit.ResetPartialEq
use Rattle.aig_circuit.specs.declared.circuit.Justice.{Justice}
use Rattle.aig_circuit.specs.Parts.SameLists.{same_lists, same_numbers}
use Rattle.aig_circuit.specs.declared.circuit.Kind.{Kind}
use Rattle.aig_circuit.specs.declared.circuit.Kind.TheVariants.{Input, Latch as LatchKind, Output, Bad, Constraint}
use Rattle.aig_circuit.specs.declared.circuit.Kind.TheVariants.{Justice as JusticeKind, Fairness}
use Rattle.aig_circuit.specs.declared.circuit.Symbol.{Symbol}
use Rattle.aig_circuit.specs.contracts.circuit.KindPartialEq
use Rattle.aig_circuit.specs.declared.circuit.Circuit.{Circuit}
use Rattle.aig_circuit.specs.contracts.circuit.LatchPartialEq
use Rattle.aig_circuit.specs.contracts.circuit.GatePartialEq
use Rattle.aig_circuit.specs.contracts.circuit.SymbolPartialEq

abbrev pub latch : ℕ → ℕ → Reset → Latch
latch var next reset = record { var = var; next = next; reset = reset }

abbrev pub gate : ℕ → ℕ → ℕ → Gate
gate var left right = record { var = var; left = left; right = right }

pub gates_alike : {v w l m r s : ℕ} → v ≡ w → l ≡ m → r ≡ s → gate v l r ≡ gate w m s
gates_alike v l r = ap₂ (λ f x. f x) (ap₂ gate v l) r

-- what `==` of circuits and of their parts tells

-- what `==` tells of two latches, gates, kinds, resets and symbols
abbrev latch_eq : Latch → Latch → Bool
latch_eq = (LatchPartialEq.TheImpl.eq-value).it

abbrev gate_eq : Gate → Gate → Bool
gate_eq = (GatePartialEq.TheImpl.eq-value).it

abbrev kind_eq : Kind → Kind → Bool
kind_eq = (KindPartialEq.TheImpl.eq-value).it

abbrev reset_eq : Reset → Reset → Bool
reset_eq = (ResetPartialEq.TheImpl.eq-value).it

abbrev pub symbol_eq : Symbol → Symbol → Bool
symbol_eq = (SymbolPartialEq.TheImpl.eq-value).it

-- two lists of numbers are the same
abbrev numbers_eq : List ℕ → List ℕ → Bool
numbers_eq = pointwise nat_eq

-- each part of two circuits is the same
abbrev pub same_parts : Circuit → Circuit → Bool
same_parts a b =
    nat_eq a.max_var b.max_var
    && (numbers_eq a.inputs b.inputs && (pointwise latch_eq a.latches b.latches && (same_lists a b
    && (pointwise gate_eq a.gates b.gates
    && (pointwise symbol_eq a.symbols b.symbols && option_eq numbers_eq a.comment b.comment)))))

-- a value made of its fields
abbrev latch_of : ℕ → ℕ → Reset → Latch
latch_of v n r = record { var = v; next = n; reset = r }

abbrev justice_of : List ℕ → List ℕ → Justice
justice_of s l = record { sizes = s; literals = l }

abbrev gate_of : ℕ → ℕ → ℕ → Gate
gate_of v l r = record { var = v; left = l; right = r }

abbrev symbol_of : Kind → ℕ → List ℕ → Symbol
symbol_of k p n = record { kind = k; position = p; name = n }

same_reset : (a b : Reset) → Decides (reset_eq a b) (a ≡ b)
same_reset Zero Zero = (λ _. refl, λ _. refl)
same_reset One One = (λ _. refl, λ _. refl)
same_reset Uninit Uninit = (λ _. refl, λ _. refl)
same_reset Zero One = (λ e. cc, λ e. cc)
same_reset Zero Uninit = (λ e. cc, λ e. cc)
same_reset One Zero = (λ e. cc, λ e. cc)
same_reset One Uninit = (λ e. cc, λ e. cc)
same_reset Uninit Zero = (λ e. cc, λ e. cc)
same_reset Uninit One = (λ e. cc, λ e. cc)

same_latch : (a b : Latch) → Decides (latch_eq a b) (a ≡ b)
same_latch a b =
    Decides-like _
    (λ e. let t : latch_of a.var a.next a.reset ≡ latch_of b.var b.next b.reset = cc in t) (λ e. (cc, (cc, cc)))
    (Decides-and _ _ (Decides-eqb a.var b.var)
    (Decides-and _ _ (Decides-eqb a.next b.next) (same_reset a.reset b.reset)))

same_justice : (a b : Justice)
    → Decides (same_numbers a.sizes b.sizes && same_numbers a.literals b.literals) (a ≡ b)
same_justice a b =
    Decides-like _
    (λ e. let t : justice_of a.sizes a.literals ≡ justice_of b.sizes b.literals = cc in t) (λ e. (cc, cc))
    (Decides-and _ _ (slice_eq-Decides Decides-eqb a.sizes b.sizes _ refl)
    (slice_eq-Decides Decides-eqb a.literals b.literals _ refl))

same_gate : (a b : Gate) → Decides (gate_eq a b) (a ≡ b)
same_gate a b =
    Decides-like _ (λ e. let t : gate_of a.var a.left a.right ≡ gate_of b.var b.left b.right = cc in t)
    (λ e. (cc, (cc, cc)))
    (Decides-and _ _ (Decides-eqb a.var b.var)
    (Decides-and _ _ (Decides-eqb a.left b.left) (Decides-eqb a.right b.right)))

same_option : {A : Type 0} {E : A → A → Bool} → ((a b : A) → Decides (E a b) (a ≡ b)) → (x y : Option A)
    → Decides (option_eq E x y) (x ≡ y)
same_option h None None = (λ _. refl, λ _. refl)
same_option h None (Some y) = (λ e. cc, λ e. cc)
same_option h (Some x) None = (λ e. cc, λ e. cc)
same_option h (Some x) (Some y) = Decides-like _ (λ e. ap Some e) (λ e. cc) (h x y)

same_kind : (a b : Kind) → Decides (kind_eq a b) (a ≡ b)
same_kind Input Input = (λ _. refl, λ _. refl)
same_kind LatchKind LatchKind = (λ _. refl, λ _. refl)
same_kind Output Output = (λ _. refl, λ _. refl)
same_kind Bad Bad = (λ _. refl, λ _. refl)
same_kind Constraint Constraint = (λ _. refl, λ _. refl)
same_kind JusticeKind JusticeKind = (λ _. refl, λ _. refl)
same_kind Fairness Fairness = (λ _. refl, λ _. refl)
same_kind Input LatchKind = (λ e. cc, λ e. cc)
same_kind Input Output = (λ e. cc, λ e. cc)
same_kind Input Bad = (λ e. cc, λ e. cc)
same_kind Input Constraint = (λ e. cc, λ e. cc)
same_kind Input JusticeKind = (λ e. cc, λ e. cc)
same_kind Input Fairness = (λ e. cc, λ e. cc)
same_kind LatchKind Input = (λ e. cc, λ e. cc)
same_kind LatchKind Output = (λ e. cc, λ e. cc)
same_kind LatchKind Bad = (λ e. cc, λ e. cc)
same_kind LatchKind Constraint = (λ e. cc, λ e. cc)
same_kind LatchKind JusticeKind = (λ e. cc, λ e. cc)
same_kind LatchKind Fairness = (λ e. cc, λ e. cc)
same_kind Output Input = (λ e. cc, λ e. cc)
same_kind Output LatchKind = (λ e. cc, λ e. cc)
same_kind Output Bad = (λ e. cc, λ e. cc)
same_kind Output Constraint = (λ e. cc, λ e. cc)
same_kind Output JusticeKind = (λ e. cc, λ e. cc)
same_kind Output Fairness = (λ e. cc, λ e. cc)
same_kind Bad Input = (λ e. cc, λ e. cc)
same_kind Bad LatchKind = (λ e. cc, λ e. cc)
same_kind Bad Output = (λ e. cc, λ e. cc)
same_kind Bad Constraint = (λ e. cc, λ e. cc)
same_kind Bad JusticeKind = (λ e. cc, λ e. cc)
same_kind Bad Fairness = (λ e. cc, λ e. cc)
same_kind Constraint Input = (λ e. cc, λ e. cc)
same_kind Constraint LatchKind = (λ e. cc, λ e. cc)
same_kind Constraint Output = (λ e. cc, λ e. cc)
same_kind Constraint Bad = (λ e. cc, λ e. cc)
same_kind Constraint JusticeKind = (λ e. cc, λ e. cc)
same_kind Constraint Fairness = (λ e. cc, λ e. cc)
same_kind JusticeKind Input = (λ e. cc, λ e. cc)
same_kind JusticeKind LatchKind = (λ e. cc, λ e. cc)
same_kind JusticeKind Output = (λ e. cc, λ e. cc)
same_kind JusticeKind Bad = (λ e. cc, λ e. cc)
same_kind JusticeKind Constraint = (λ e. cc, λ e. cc)
same_kind JusticeKind Fairness = (λ e. cc, λ e. cc)
same_kind Fairness Input = (λ e. cc, λ e. cc)
same_kind Fairness LatchKind = (λ e. cc, λ e. cc)
same_kind Fairness Output = (λ e. cc, λ e. cc)
same_kind Fairness Bad = (λ e. cc, λ e. cc)
same_kind Fairness Constraint = (λ e. cc, λ e. cc)
same_kind Fairness JusticeKind = (λ e. cc, λ e. cc)

same_symbol : (a b : Symbol) → Decides (symbol_eq a b) (a ≡ b)
same_symbol a b =
    Decides-like _ (λ e. let t : symbol_of a.kind a.position a.name ≡ symbol_of b.kind b.position b.name = cc in t)
    (λ e. (cc, (cc, cc)))
    (Decides-and _ _ (same_kind a.kind b.kind)
    (Decides-and _ _ (Decides-eqb a.position b.position) (bytes_eq-Decides a.name b.name)))

abbrev circuit_of : ℕ → List ℕ → List Latch → List ℕ → List ℕ → List ℕ → Justice → List ℕ → List Gate → List Symbol
    → Option (List ℕ) → Circuit
circuit_of m i l o b n j f g s c = record {
  max_var = m;
  inputs = i;
  latches = l;
  outputs = o;
  bad = b;
  constraints = n;
  justice = j;
  fairness = f;
  gates = g;
  symbols = s;
  comment = c;
}

-- the lists beside latches and gates are the same
abbrev AreSameLists : Circuit → Circuit → Type 0
AreSameLists a b =
    (a.outputs ≡ b.outputs) × ((a.bad ≡ b.bad) × ((a.constraints ≡ b.constraints) × ((a.justice ≡ b.justice)
    × (a.fairness ≡ b.fairness))))

lists_alike : (a b : Circuit) → Decides (same_lists a b) (AreSameLists a b)
lists_alike a b =
    Decides-and _ _ (slice_eq-Decides Decides-eqb a.outputs b.outputs _ refl)
    (Decides-and _ _ (slice_eq-Decides Decides-eqb a.bad b.bad _ refl)
    (Decides-and _ _ (slice_eq-Decides Decides-eqb a.constraints b.constraints _ refl)
    (Decides-and _ _ (same_justice a.justice b.justice) (slice_eq-Decides Decides-eqb a.fairness b.fairness _ refl))))

same_circuit : (a b : Circuit) → Decides (same_parts a b) (a ≡ b)
same_circuit a b =
    Decides-like _
    (λ e. let t : circuit_of a.max_var a.inputs a.latches a.outputs a.bad a.constraints a.justice a.fairness a.gates
    a.symbols a.comment
    ≡ circuit_of b.max_var b.inputs b.latches b.outputs b.bad b.constraints b.justice b.fairness b.gates b.symbols
    b.comment = cc in t)
    (λ e. (
      ap (λ (x : Circuit). x.max_var) e,
      (
        ap (λ (x : Circuit). x.inputs) e,
        (
          ap (λ (x : Circuit). x.latches) e,
          (
            (
              ap (λ (x : Circuit). x.outputs) e,
              (
                ap (λ (x : Circuit). x.bad) e,
                (
                  ap (λ (x : Circuit). x.constraints) e,
                  (ap (λ (x : Circuit). x.justice) e, ap (λ (x : Circuit). x.fairness) e),
                ),
              ),
            ),
            (
              ap (λ (x : Circuit). x.gates) e,
              (ap (λ (x : Circuit). x.symbols) e, ap (λ (x : Circuit). x.comment) e),
            ),
          ),
        ),
      ),
    ))
    (Decides-and _ _ (Decides-eqb a.max_var b.max_var)
    (Decides-and _ _ (slice_eq-Decides Decides-eqb a.inputs b.inputs _ refl)
    (Decides-and _ _ (slice_eq-Decides same_latch a.latches b.latches _ refl)
    (Decides-and _ _ (lists_alike a b)
    (Decides-and _ _ (slice_eq-Decides same_gate a.gates b.gates _ refl)
    (Decides-and _ _ (slice_eq-Decides same_symbol a.symbols b.symbols _ refl)
    (same_option bytes_eq-Decides a.comment b.comment)))))))

-- so a test that tells it of each part tells it of the circuits
pub told : (r : Bool) (a b : Circuit) (v w : Circuit) → a ≡ v → b ≡ w → r ≡ same_parts a b → Decides r (v ≡ w)
told r a b v w is_a is_b e =
    subst (λ x. Decides r (x ≡ w)) is_a (subst (λ x. Decides r (a ≡ x)) is_b (Decides-at _ _ e (same_circuit a b)))
