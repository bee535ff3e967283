use Rattle.std.proofs.Common.{◌≡◌, ◌++◌, rules, ℕ, List, [], ◌∷◌, append_assoc, append-nil, codes, subst, take}
use Rattle.std.proofs.lemmas.Bool.{cases_lt}
use Rattle.aig_circuit.specs.declared.circuit.Gate.{Gate}
use Rattle.aig_circuit.specs.Literal.{literal_of, negation_of, variable_of}
use Rattle.aig_cnf.specs.ClauseText.{clause_text, gate_clauses_text, literal_text}
use Rattle.aig_cnf.proofs.lines.GateLineLine.write.Goals as goal

same_variable : (l : ℕ) → variable_of (negation_of l) ≡ variable_of l
same_variable l = search (rules, cases_lt)

-- the lines up to the gate's, and up to each part of them
clauses_stand : (a b c d e f h : List ℕ) (g : Gate) (x y z w : ℕ) → x ≡ negation_of (literal_of g.var)
    → y ≡ negation_of (literal_of g.var) → z ≡ negation_of g.left → w ≡ negation_of g.right
    → b ≡ a ++ clause_text (x ∷ g.left ∷ []) → c ≡ b ++ clause_text (y ∷ g.right ∷ [])
    → d ≡ c ++ literal_text (literal_of g.var) → e ≡ d ++ literal_text z → f ≡ e ++ literal_text w
    → h ≡ f ++ codes "0\n" → h ≡ a ++ gate_clauses_text g
clauses_stand a b c d e f h g x y z w ex ey ez ew eb ec ed ee ef eh =
    rw (eh, ef, ee, ed, ec, eb, ex, ey, ez, ew) (search (rules, append_assoc, append-nil))

pub write_literal-end-requires-2-clause-own : goal.write_literal-end-requires-2-clause-own
write_literal-end-requires-2-clause-own c = rw (c.negated-3.ensures, same_variable) (search rules)

pub write_literal-end-requires-3-clause-own : goal.write_literal-end-requires-3-clause-own
write_literal-end-requires-3-clause-own c = rw (c.negated-4.ensures, same_variable) (search rules)

pub returns-clause-text : goal.returns-clause-text
returns-clause-text c =
    subst
    (λ (g : Gate). take c.write_end.result c.write_end.new.line ≡ take c.args.at c.args.line.now ++ gate_clauses_text g)
    c.gate.view_is
    (clauses_stand _ _ _ _ _ _ _ _ _ _ _ _ c.negated.ensures c.negated-2.ensures c.negated-3.ensures
    c.negated-4.ensures c.write_pair-end.ensures.text c.write_pair-end-2.ensures.text
    c.write_literal-end.ensures.text c.write_literal-end-2.ensures.text c.write_literal-end-3.ensures.text
    c.write_end.ensures.text)
