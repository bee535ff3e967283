-- No cube of an invariant's file is met by a first state.
use Rattle.std.proofs.Common.{◌≡◌, ◌+◌, ◌==◌, ℕ, List, [], ◌∷◌, Bool, true, false, Option, None, Some, Result, Ok, Err}
use Rattle.std.proofs.Common.{if◌then◌else◌, length, refl, subst}
use Rattle.std.specs.List.{All}
use Rattle.std.proofs.lemmas.List.Elements.{All-cons, All-nil}
use Rattle.aig_circuit.specs.declared.circuit.Reset.{Reset}
use Rattle.aig_fault.specs.declared.fault.Fault.{Fault}
use Rattle.aig_fault.specs.declared.kind.Kind.TheVariants.{MetAtStart, NotEachLatch}
use Rattle.aig_lines.specs.Lines.{Line, lines_of}
use Rattle.aig_invariant.specs.Invariant.{Cube, is_off_start}
use Rattle.aig_invariant.specs.InvariantText.{cube_in, cubes_from, cubes_of, fault_in, is_passed, joined, judged}
use Rattle.aig_invariant.specs.InvariantText.{row_says}

module _ (starts : List Reset) where
  abbrev pub IsOff : Cube → Type 0
  IsOff cube = is_off_start starts cube ≡ true

  by_tests : (long off : Bool) (number : ℕ) (cube q : Cube) → is_off_start starts cube ≡ off
      → (if long then if off then Ok cube else Err (fault_in MetAtStart number) else Err (fault_in NotEachLatch number))
      ≡ Ok q → IsOff q
  by_tests false off number cube q e is = cc
  by_tests true false number cube q e is = cc
  by_tests true true number cube q e is = let same : cube ≡ q = cc in subst IsOff same e

  judged_off : (number : ℕ) (cube q : Cube) → judged starts number cube ≡ Ok q → IsOff q
  judged_off number cube q is =
      by_tests (length cube == length starts) (is_off_start starts cube) number cube q refl is

  joined_off : (row : Result Cube Fault) (rest : Result (List Cube) Fault) (cubes : List Cube)
      → joined row rest ≡ Ok cubes → ((q : Cube) → row ≡ Ok q → IsOff q)
      → ((qs : List Cube) → rest ≡ Ok qs → All IsOff qs) → All IsOff cubes
  joined_off (Err fault) rest cubes is here later = cc
  joined_off (Ok q) (Err fault) cubes is here later = cc
  joined_off (Ok q) (Ok qs) cubes is here later =
      let same : q ∷ qs ≡ cubes = cc in
      subst (All IsOff) same (All-cons IsOff q qs (here q refl) (later qs refl))

  by_line : (passed : Bool) (number : ℕ) (row : Option Cube) (rest : Result (List Cube) Fault)
      (cubes : List Cube) → (if passed then rest else joined (row_says starts number row) rest) ≡ Ok cubes
      → ((qs : List Cube) → rest ≡ Ok qs → All IsOff qs) → All IsOff cubes
  by_line true number row rest cubes is later = later cubes is
  by_line false number None rest cubes is later = cc
  by_line false number (Some cube) rest cubes is later =
      joined_off (judged starts number cube) rest cubes is (judged_off number cube) later

  from_line : (number : ℕ) (ls : List Line) (cubes : List Cube) → cubes_from starts number ls ≡ Ok cubes
      → All IsOff cubes
  from_line number [] cubes is = let same : [] ≡ cubes = cc in subst (All IsOff) same (All-nil IsOff)
  from_line number (l ∷ ls) cubes is =
      by_line (is_passed l.text) number (cube_in l.text) (cubes_from starts (number + 1) ls) cubes is
      (from_line (number + 1) ls)

  pub cubes_off : (bytes : List ℕ) (cubes : List Cube) → cubes_of starts bytes ≡ Ok cubes → All IsOff cubes
  cubes_off bytes cubes is = from_line 1 (lines_of bytes) cubes is
