-- Three values: 0, 1, and x where it is not known which (the usual three-valued logic).
use Rattle.aig_circuit.specs.declared.value.Val.{Val}
use Rattle.aig_circuit.specs.declared.value.Val.TheVariants.{Zero, One, X}

-- 0 where one of the two is 0, 1 where both are 1, and else x
abbrev pub value_and : Val → Val → Val
value_and Zero y = Zero
value_and One y = y
value_and X Zero = Zero
value_and X One = X
value_and X X = X

-- 0 and 1 are exchanged, x stays
abbrev pub value_not : Val → Val
value_not Zero = One
value_not One = Zero
value_not X = X
