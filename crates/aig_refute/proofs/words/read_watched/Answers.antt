use Rattle.std.proofs.Common.{◌≡◌, ◌≢◌, ◌<◌, ◌+◌, ◌-◌, ◌%◌, ⊎_elim, sym, ℕ, arith, inl, inr, rules}
use Rattle.std.specs.Prelude.{slice_index}
use Rattle.std.proofs.lemmas.Bool.{cases_eq}
use Rattle.std.proofs.lemmas.Grind.{common_steps}
use Rattle.aig_refute.specs.declared.words.TheConstants.{END}
use Rattle.aig_refute.proofs.Readings.{IsWatchedBy, read_true, read_watching}
use Rattle.aig_refute.proofs.words.read_watched.Goals as goal

is_second : (first second literal : ℕ) → second < 4294967296 → literal < 4294967296 → first ≡ literal
    → ((first + second) % 4294967296 + (4294967296 - literal)) % 4294967296 ≡ second
is_second first second literal low fits same = omega (arith, low, fits, same)

is_first : (first second literal : ℕ) → first < 4294967296 → literal < 4294967296 → second ≡ literal
    → ((first + second) % 4294967296 + (4294967296 - literal)) % 4294967296 ≡ first
is_first first second literal low fits same = omega (arith, low, fits, same)

pub returns-else-not-is_marked-clause-last : goal.returns-else-not-is_marked-clause-last
returns-else-not-is_marked-clause-last c = λ other is a holds trues.
    let at : ℕ = c.args.clause in
    let words = c.args.words.now in
    let first : ℕ = slice_index words at in
    let second : ℕ = slice_index words (at + 1) in
    let last : ℕ = ((first + second) % 4294967296 + (4294967296 - c.args.literal)) % 4294967296 in
    let by : IsWatchedBy words c.args.marks.now at c.args.literal last = record {
      live = c.requires.literal;
      other_live = search (rules, c.if-other);
      marked = search (rules);
      two = ⊎_elim
          (λ (same : first ≡ c.args.literal).
          inl (same, sym (is_second first second c.args.literal (c.type_inv.words (at + 1)).fits c.ranges.literal.fits same)))
          (λ (differs : first ≢ c.args.literal).
          let same : second ≡ c.args.literal = grind (arith, common_steps, c.from.ensures, c.if-words-place.false, differs) in
          inr (sym (is_first first second c.args.literal (c.type_inv.words at).fits c.ranges.literal.fits same), same))
          (cases_eq first c.args.literal);
    } in
    let end = c.find_free.ensures.end c.in-End.field-0 (search rules) in
    let start : (m : ℕ) → m + 1 ≡ at → slice_index words m ≡ END = search rules in
    let yes = (read_true a words c.args.marks.now at c.in-End.field-0 last holds trues end.1 end.2 start
    (read_watching words c.args.marks.now at c.args.literal last by c.in-End.field-0 end.3) (omega (arith, end.0))).0 in
    search (rules, yes)
