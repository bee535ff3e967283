use Rattle.std.proofs.Common.{◌≡◌, ◌∙◌, ℕ, Bool, true, false, not, ap, sym, subst, arith, nat_cmp}
use Rattle.std.specs.FinMap.{FinMap, contains_key}
use Rattle.std.specs.FinSet as set
use Rattle.std.proofs.lemmas.Grind.{common_steps}
use Rattle.aig_tables.specs.VarMap.{keys_of, with_new}
use Rattle.aig_tables.proofs.Tables.Maps.{has_key, one_more_key}
use Rattle.aig_tables.proofs.Tables.Slots.{none_of}
use Rattle.aig_topo.proofs.index.insert_unseen.Goals as goal

-- the set tells what the map has
told : (m : FinMap nat_cmp ℕ) (seen : set.FinSet nat_cmp) (v : ℕ) (is_new : Bool) → keys_of m ≡ seen
    → is_new ≡ not (set.contains seen v) → is_new ≡ not (contains_key m v)
told m seen v is_new same new =
    new ∙ ap not (subst (λ s. set.contains s v ≡ contains_key m v) same (has_key m v))

turned : (a b : Bool) → a ≡ not b → b ≡ not a
turned a b e = grind (arith, common_steps, e)

-- a map where a variable that has a value is given one
stays : (m : FinMap nat_cmp ℕ) (k v : ℕ) → contains_key m k ≡ true → m ≡ with_new m k v
stays m k v has = grind (arith, common_steps, has)

keys : (m : FinMap nat_cmp ℕ) (seen : set.FinSet nat_cmp) (k v : ℕ) → keys_of m ≡ seen
    → keys_of (with_new m k v) ≡ set.insert seen k
keys m seen k v same = one_more_key m k v ∙ ap (λ s. set.insert s k) same

pub returns-then-not-branch-clause-added : goal.returns-then-not-branch-clause-added
returns-then-not-branch-clause-added c =
    sym c.if-not-branch.true
    ∙ told c.args.positions.now c.args.seen.now c.args.var c.in_ok-insert.field-0 c.requires.same
    c.in_ok-insert.ensures.added

has : (c : goal.Then-not-branch) → contains_key c.args.positions.now c.args.var ≡ true
has c = turned false (contains_key c.args.positions.now c.args.var) (returns-then-not-branch-clause-added c)

pub returns-then-not-branch-clause-ok : goal.returns-then-not-branch-clause-ok
returns-then-not-branch-clause-ok c = stays c.args.positions.now c.args.var c.args.position (has c)

pub returns-then-not-branch-clause-same : goal.returns-then-not-branch-clause-same
returns-then-not-branch-clause-same c =
    ap keys_of (stays c.args.positions.now c.args.var c.args.position (has c))
    ∙ keys c.args.positions.now c.args.seen.now c.args.var c.args.position c.requires.same
    ∙ sym c.in_ok-insert.ensures.ok

pub put-requires-clause-none : goal.put-requires-clause-none
put-requires-clause-none c =
    none_of _ (turned true _ (sym c.if-not-branch.false
    ∙ told c.args.positions.now c.args.seen.now c.args.var c.in_ok-insert.field-0 c.requires.same
    c.in_ok-insert.ensures.added))

pub returns-clause-added : goal.returns-clause-added
returns-clause-added c =
    sym c.if-not-branch.false
    ∙ told c.args.positions.now c.args.seen.now c.args.var c.in_ok-insert.field-0 c.requires.same
    c.in_ok-insert.ensures.added

pub returns-clause-same : goal.returns-clause-same
returns-clause-same c =
    ap keys_of c.in_ok-put.ensures.ok
    ∙ keys c.args.positions.now c.args.seen.now c.args.var c.args.position c.requires.same
    ∙ sym c.in_ok-insert.ensures.ok
