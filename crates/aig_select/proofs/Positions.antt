-- Marks that say of each position whether it is chosen.
use Rattle.std.proofs.Common.{◌≡◌, ◌==◌, ◌<◌, ◌≤◌, ◌∙◌, ℕ, List, length, take, get_or, Bool, false, sym, ap, arith}
use Rattle.std.specs.List.{list_any}
use Rattle.std.proofs.lemmas.List.{get_or_default, same_lists, take_all}
use Rattle.std.proofs.lemmas.List.FromFn.{get_or-map-range_with_len, length-map-range_with_len}
use Rattle.aig_select.specs.Choice.{positions_marked}

pub all_marked : (count : ℕ) (positions : List ℕ) (marks : List Bool) (at : ℕ) → length marks ≡ count
    → length positions ≤ at
    → ((k : ℕ) → k < count → get_or marks k false ≡ list_any (λ (q : ℕ). q == k) (take at positions))
    → marks ≡ positions_marked count positions
all_marked count positions marks at long behind each =
    let is : ℕ → Bool = λ (p : ℕ). list_any (λ (q : ℕ). q == p) positions in
    same_lists marks (positions_marked count positions) (long ∙ sym (length-map-range_with_len is 0 count))
    (λ k other below.
    let there : k < count = omega (arith, below, long) in
    get_or_default marks k other false below ∙ each k there
    ∙ ap (list_any (λ (q : ℕ). q == k)) (take_all at positions behind)
    ∙ sym (get_or-map-range_with_len is 0 count k k other there (omega arith)))
