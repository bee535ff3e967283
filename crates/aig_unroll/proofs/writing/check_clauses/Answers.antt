use Rattle.std.proofs.Common.{◌≡◌, ◌==◌, ◌∙◌, ◌≤◌, ◌<◌, ◌*◌, ℕ, ap, arith, length, false, mul-le-mul_right, rules}
use Rattle.std.proofs.Common.{inl, inr, refl, sym}
use Rattle.aig_circuit.specs.declared.circuit.Circuit.{Circuit}
use Rattle.aig_unroll.specs.Unrolled.{unrolled}
use Rattle.aig_unroll.proofs.Ordering.Frames.{bad_length}
use Rattle.aig_unroll.proofs.writing.check_clauses.Goals as goal

-- the unrolled circuit has bad states where the circuit has some
none : (c : Circuit) (frames : ℕ) → length c.bad ≡ 0 → length (unrolled c frames).bad ≡ 0
none c frames is =
    let nothing : frames * 0 ≡ 0 = omega arith in
    bad_length c frames 0 frames ∙ ap (λ n. frames * n) is ∙ nothing

some : (c : Circuit) (frames : ℕ) → 1 ≤ frames → 0 < length c.bad → 0 < length (unrolled c frames).bad
some c frames one low =
    let all : 1 * length c.bad ≤ frames * length c.bad = mul-le-mul_right (length c.bad) one in
    omega (arith, all, low, bad_length c frames 0 frames)

not_none : (n : ℕ) → false ≡ (n == 0) → 0 < n
not_none n is = grind (arith, is)

pub returns-then-is_empty-clause-err : goal.returns-then-is_empty-clause-err
returns-then-is_empty-clause-err c =
    let f = c.args.copies.now in
    let empty : length f.circuit.bad ≡ 0 = search rules in
    rw c.refused_whole.ensures (inl (refl, none f.circuit f.frames empty))

pub returns-then-variables-from-clause-err : goal.returns-then-variables-from-clause-err
returns-then-variables-from-clause-err c =
    let f = c.args.copies.now in
    let several : 0 < length f.circuit.bad =
    not_none (length f.circuit.bad) (sym c.if-is_empty.false ∙ c.is_empty.ensures
    ∙ ap (λ (k : Circuit). length k.bad == 0) c.circuit.ensures.value) in
    rw c.refused_whole-then-variables-from.ensures (inr (
      refl,
      some f.circuit f.frames (omega (arith, c.circuit.ensures.within)) several,
      omega (arith, c.if-variables-from.true, c.from.ensures, c.clause_numbers-variables.ensures.variables),
    ))

pub returns-clause-ok : goal.returns-clause-ok
returns-clause-ok c =
    let f = c.args.copies.now in
    let several : 0 < length f.circuit.bad =
    not_none (length f.circuit.bad) (sym c.if-is_empty.false ∙ c.is_empty.ensures
    ∙ ap (λ (k : Circuit). length k.bad == 0) c.circuit.ensures.value) in (
      some f.circuit f.frames (omega (arith, c.circuit.ensures.within)) several,
      omega (arith, c.if-variables-from.false, c.from.ensures, c.clause_numbers-variables.ensures.variables),
    )
