-- What keeps that clauses stand in a store.
use Rattle.std.proofs.Common.{◌≡◌, ◌≢◌, ◌<◌, ◌≤◌, ◌+◌, ◌-◌, ◌++◌, [], ◌∷◌, ⊎_elim, inl, inr, ℕ, List, length}
use Rattle.std.proofs.Common.{arith, sym, ◌∙◌, ap, subst}
use Rattle.std.specs.Prelude.{slice_index, slice_set, slice_range, All}
use Rattle.std.proofs.lemmas.Bool.{cases_lt, cases_eq}
use Rattle.std.proofs.lemmas.Grind.{common_steps}
use Rattle.aig_circuit.specs.Literal.{negation_of}
use Rattle.aig_refute.specs.Kept.{HasLiteral, HaveSameLiterals, IsIn, IsStored, IsTautology, Stands}
use Rattle.aig_refute.specs.Store.{IsClause, IsWithin}
use Rattle.aig_refute.specs.declared.words.TheConstants.{END}

-- the clause that ends at one place of words has the literals of the one that ends at a place of others
pub record Carries (words : List ℕ) (e : ℕ) (new : List ℕ) (f : ℕ) : Type 0 where
  pub inside : f < length new
  pub ends : slice_index new f ≡ END
  pub forth : (k : ℕ) → IsIn words e k → (n : ℕ) × IsIn new f n × (slice_index new n ≡ slice_index words k)
  pub back : (n : ℕ) → IsIn new f n → (k : ℕ) × IsIn words e k × (slice_index words k ≡ slice_index new n)

pub stands_carried : {words : List ℕ} {e : ℕ} {new : List ℕ} {f : ℕ} (clause : List ℕ) → Carries words e new f
    → Stands words clause e → Stands new clause f
stands_carried clause carries stands = record {
  inside = carries.inside;
  ends = carries.ends;
  only = λ n is_in.
      let from = carries.back n is_in in subst (HasLiteral clause) from.2 (stands.only from.0 from.1);
  each = λ literal has.
      let old = stands.each literal has in
      let new = carries.forth old.0 old.1 in (new.0, new.1, new.2 ∙ old.2);
}

-- two literals of a clause change places
module _ (words new : List ℕ) (i j : ℕ) (order : i < j) (inside : j < length words) (within : IsWithin words i j)
    (at_i : slice_index new i ≡ slice_index words j) (at_j : slice_index new j ≡ slice_index words i)
    (others : (m : ℕ) → m ≢ i → m ≢ j → slice_index new m ≡ slice_index words m) where
  end_back : (m : ℕ) → slice_index new m ≡ END → slice_index words m ≡ END
  end_back m h =
      ⊎_elim (λ (e : m ≡ i). absurd (within j (omega arith) (omega arith) (sym at_i ∙ (sym (ap
      (slice_index new) e) ∙ h))))
      (λ (ni : m ≢ i).
      ⊎_elim (λ (e : m ≡ j). absurd (within i (omega arith) (omega arith) (sym at_j ∙ (sym (ap
      (slice_index new) e) ∙ h))))
      (λ (nj : m ≢ j). sym (others m ni nj) ∙ h) (cases_eq m j))
      (cases_eq m i)

  end_forth : (m : ℕ) → slice_index words m ≡ END → slice_index new m ≡ END
  end_forth m h =
      ⊎_elim (λ (e : m ≡ i). absurd (within i (omega arith) (omega arith) (sym (ap (slice_index words) e) ∙ h)))
      (λ (ni : m ≢ i).
      ⊎_elim (λ (e : m ≡ j). absurd (within j (omega arith) (omega arith) (sym (ap (slice_index words) e) ∙ h)))
      (λ (nj : m ≢ j). others m ni nj ∙ h) (cases_eq m j))
      (cases_eq m i)

  literal_moved : (e k : ℕ) → slice_index words e ≡ END → IsIn words e k
      → (n : ℕ) × IsIn new e n × (slice_index new n ≡ slice_index words k)
  literal_moved e k ends is_in =
      let past : i ≤ e → j < e = λ h.
      ⊎_elim (λ (l : j < e). l) (λ (g : e ≤ j). absurd (within e h g ends)) (cases_lt j e) in
      let k_lt : k < e = is_in.0 in
      ⊎_elim
      (λ (is_i : k ≡ i).
      let i_le : i ≤ e = omega arith in (
        j,
        (past i_le, λ m low high h. is_in.1 m (omega arith) high (end_back m h)),
        at_j ∙ sym (ap (slice_index words) is_i),
      ))
      (λ (not_i : k ≢ i).
      ⊎_elim
      (λ (is_j : k ≡ j).
      let i_lt : i < e = omega arith in (
        i,
        (
          i_lt,
          λ m low high h. ⊎_elim (λ (l : m < k). within m low (omega arith) (end_back m h))
              (λ (g : k ≤ m). is_in.1 m g high (end_back m h)) (cases_lt m k),
        ),
        at_i ∙ sym (ap (slice_index words) is_j),
      ))
      (λ (not_j : k ≢ j). (
        k,
        (k_lt, λ m low high h. is_in.1 m low high (end_back m h)),
        others k not_i not_j,
      ))
      (cases_eq k j))
      (cases_eq k i)

within_swapped : (words new : List ℕ) (i j : ℕ) → IsWithin words i j
    → ((m : ℕ) → slice_index new m ≡ END → slice_index words m ≡ END) → IsWithin new i j
within_swapped words new i j within back = λ m low high h. within m low high (back m h)

pub stands_swapped : (words new : List ℕ) (i j : ℕ) → i < j → j < length words → IsWithin words i j
    → length new ≡ length words → slice_index new i ≡ slice_index words j → slice_index new j ≡ slice_index words i
    → ((m : ℕ) → m ≢ i → m ≢ j → slice_index new m ≡ slice_index words m)
    → (clause : List ℕ) (e : ℕ) → Stands words clause e → Stands new clause e
stands_swapped words new i j order inside within len at_i at_j others clause e stands =
    let back = end_back words new i j order inside within at_i at_j others in
    let new_inside : j < length new = omega arith in
    let new_ends = end_forth words new i j order inside within at_i at_j others e stands.ends in
    let carries : Carries words e new e = record {
      inside = omega (arith, stands.inside);
      ends = new_ends;
      forth = λ k is_in. literal_moved words new i j order inside within at_i at_j others e k stands.ends is_in;
      back = λ n is_in.
          literal_moved new words i j order new_inside (within_swapped words new i j within back) (sym at_j) (sym at_i)
          (λ m ni nj. sym (others m ni nj)) e n new_ends is_in;
    } in
    stands_carried clause carries stands

abbrev swapped : List ℕ → ℕ → ℕ → List ℕ
swapped words i j = slice_set (slice_set words i (slice_index words j)) j (slice_index words i)

module _ (words : List ℕ) (i j : ℕ) (order : i < j) (inside : j < length words) (within : IsWithin words i j) where
  at_first : slice_index (swapped words i j) i ≡ slice_index words j
  at_first = let i_in : i < length words = omega arith in let apart : i ≢ j = omega arith in grind (arith, common_steps)

  at_second : slice_index (swapped words i j) j ≡ slice_index words i
  at_second = let i_in : i < length words = omega arith in grind (arith, common_steps)

  at_others : (m : ℕ) → m ≢ i → m ≢ j → slice_index (swapped words i j) m ≡ slice_index words m
  at_others m ni nj = grind (arith, common_steps)

  pub stands_swap : (clause : List ℕ) (e : ℕ) → Stands words clause e → Stands (swapped words i j) clause e
  stands_swap = stands_swapped words (swapped words i j) i j order inside within (grind (arith, common_steps)) at_first
      at_second at_others

-- a literal is written over, of a clause that is not this one
stands_written : (words : List ℕ) (at other : ℕ) → at < length words → slice_index words at ≢ END → other ≢ END
    → (clause : List ℕ) (e : ℕ) → Stands words clause e → (IsIn words e at → ⊥)
    → Stands (slice_set words at other) clause e
stands_written words at other inside literal live clause e stands not_in =
    let new : List ℕ = slice_set words at other in
    let set : slice_index new at ≡ other = grind (arith, common_steps) in
    let same : (m : ℕ) → m ≢ at → slice_index new m ≡ slice_index words m = λ m n. grind (arith, common_steps) in
    let len : length new ≡ length words = grind (arith, common_steps) in
    let forth : (m : ℕ) → slice_index words m ≢ END → slice_index new m ≢ END = λ m free h.
    ⊎_elim (λ (is : m ≡ at). live (sym set ∙ (sym (ap (slice_index new) is) ∙ h)))
    (λ (n : m ≢ at). free (sym (same m n) ∙ h)) (cases_eq m at) in
    let back : (m : ℕ) → slice_index new m ≢ END → slice_index words m ≢ END = λ m free h.
    ⊎_elim (λ (is : m ≡ at). literal (sym (ap (slice_index words) is) ∙ h))
    (λ (n : m ≢ at). free (same m n ∙ h)) (cases_eq m at) in
    let e_not : e ≢ at = λ is. literal (sym (ap (slice_index words) is) ∙ stands.ends) in
    let old_in : (k : ℕ) → IsIn new e k → IsIn words e k = λ k is_in.
    (is_in.0, λ m low high. back m (is_in.1 m low high)) in
    let k_not : (k : ℕ) → IsIn words e k → k ≢ at = λ k is_in is. not_in (subst (IsIn words e) is is_in) in
    let carries : Carries words e new e = record {
      inside = omega (arith, stands.inside);
      ends = same e e_not ∙ stands.ends;
      forth = λ k is_in.
          (k, (is_in.0, λ m low high. forth m (is_in.1 m low high)), same k (k_not k is_in));
      back = λ k is_in. (k, old_in k is_in, sym (same k (k_not k (old_in k is_in))));
    } in
    stands_carried clause carries stands

-- the first two literals of a clause are written over, which is not this one
pub stands_retired : (words : List ℕ) (at one two : ℕ) → at + 1 < length words → slice_index words at ≢ END
    → slice_index words (at + 1) ≢ END → one ≢ END → two ≢ END
    → ((m : ℕ) → m + 1 ≡ at → slice_index words m ≡ END) → (clause : List ℕ) (e : ℕ) → Stands words clause e
    → (IsClause words at e → ⊥) → Stands (slice_set (slice_set words at one) (at + 1) two) clause e
stands_retired words at one two inside first second live live_too start clause e stands apart =
    let new : List ℕ = slice_set words at one in
    let set : slice_index new at ≡ one = grind (arith, common_steps) in
    let same : (m : ℕ) → m ≢ at → slice_index new m ≡ slice_index words m = λ m n. grind (arith, common_steps) in
    let len : length new ≡ length words = grind (arith, common_steps) in
    let next : slice_index new (at + 1) ≢ END = λ h. second (sym (same (at + 1) (omega arith)) ∙ h) in
    let not_first : IsIn words e at → ⊥ = λ is_in.
    apart (record {
      order = omega (arith, is_in.0);
      inside = stands.inside;
      ends = stands.ends;
      begins = start;
      literals = is_in.1;
    }) in
    let not_second : IsIn new e (at + 1) → ⊥ = λ is_in.
    let below : at + 1 < e = is_in.0 in
    not_first (
      omega arith,
      λ m low high.
          ⊎_elim (λ (is : m ≡ at). λ (h : slice_index words m ≡ END). first (sym (ap (slice_index words) is) ∙ h))
          (λ (n : m ≢ at). λ (h : slice_index words m ≡ END). is_in.1 m (omega arith) high (same m n ∙ h))
          (cases_eq m at),
    ) in
    stands_written new (at + 1) two (omega arith) next live_too clause e
    (stands_written words at one (omega arith) first live clause e stands not_first) not_second

-- a clause is appended, after the end of another
module _ (words clause new : List ℕ) (literals : All (λ literal. literal ≢ END) clause)
    (is : new ≡ (words ++ clause) ++ END ∷ []) where
  from_words : (m : ℕ) → m < length words → slice_index new m ≡ slice_index words m
  from_words m h = ap (λ (l : List ℕ). slice_index l m) is ∙ grind (arith, common_steps)

  from_clause : (m : ℕ) → m < length clause → slice_index new (length words + m) ≡ slice_index clause m
  from_clause m h = ap (λ (l : List ℕ). slice_index l (length words + m)) is ∙ grind (arith, common_steps)

  last_ends : slice_index new (length words + length clause) ≡ END
  last_ends = ap (λ (l : List ℕ). slice_index l (length words + length clause)) is ∙ grind (arith, common_steps)

  new_length : length new ≡ length words + length clause + 1
  new_length = ap length is ∙ grind (arith, common_steps)

  pub stands_before : (other : List ℕ) (e : ℕ) → Stands words other e → Stands new other e
  stands_before other e stands =
      let e_in : e < length words = stands.inside in
      let carries : Carries words e new e = record {
        inside = omega (arith, new_length);
        ends = from_words e e_in ∙ stands.ends;
        forth = λ k is_in. (
          k,
          (is_in.0, λ m low high h. is_in.1 m low high (sym (from_words m (omega arith)) ∙ h)),
          from_words k (omega (arith, is_in.0)),
        );
        back = λ k is_in. (
          k,
          (is_in.0, λ m low high h. is_in.1 m low high (from_words m (omega arith) ∙ h)),
          sym (from_words k (omega (arith, is_in.0))),
        );
      } in
      stands_carried other carries stands

  pub stands_last : ((m : ℕ) → m + 1 ≡ length words → slice_index words m ≡ END)
      → Stands new clause (length words + length clause)
  stands_last start =
      let free : (m : ℕ) → length words ≤ m → m < length words + length clause
      → slice_index new m ≢ END = λ m low high h.
      let n_lt : m - length words < length clause = omega arith in
      let at : length words + (m - length words) ≡ m = omega arith in
      literals (m - length words) 0 n_lt (sym (from_clause (m - length words) n_lt) ∙ (ap (slice_index new) at ∙ h)) in
      record {
        inside = omega (arith, new_length);
        ends = last_ends;
        only = λ k is_in.
            ⊎_elim
            (λ (l : k < length words).
            let last : (length words - 1) + 1 ≡ length words = omega arith in
            let last_in : length words - 1 < length words = omega arith in
            absurd (is_in.1 (length words - 1) (omega arith) (omega arith)
            (from_words (length words - 1) last_in ∙ start (length words - 1) last)))
            (λ (g : length words ≤ k).
            let k_lt : k < length words + length clause = is_in.0 in
            let n_lt : k - length words < length clause = omega arith in
            let at : length words + (k - length words) ≡ k = omega arith in
            (k - length words, n_lt, sym (from_clause (k - length words) n_lt) ∙ ap (slice_index new) at))
            (cases_lt k (length words));
        each = λ literal has. (
          length words + has.0,
          (omega (arith, has.1), λ m low high. free m (omega arith) high),
          from_clause has.0 has.1 ∙ has.2,
        );
      }

-- a clause of the words, taken out
module _ (words : List ℕ) (at e : ℕ) (is : IsClause words at e) where
  range_length : length (slice_range words at e) ≡ e - at
  range_length = let le : at ≤ e = is.order in let lt : e < length words = is.inside in grind (arith, common_steps)

  range_at : (i : ℕ) → i < e - at → slice_index (slice_range words at e) i ≡ slice_index words (at + i)
  range_at i h = let le : at ≤ e = is.order in let lt : e < length words = is.inside in grind (arith, common_steps)

  range_in : (literal : ℕ) → HasLiteral (slice_range words at e) literal
      → (k : ℕ) × IsIn words e k × (slice_index words k ≡ literal)
  range_in literal has =
      let i_lt : has.0 < e - at = omega (arith, has.1, range_length) in (
        at + has.0,
        (omega arith, λ m low high. is.literals m (omega arith) high),
        sym (range_at has.0 i_lt) ∙ has.2,
      )

  in_range : (k : ℕ) → IsIn words e k → HasLiteral (slice_range words at e) (slice_index words k)
  in_range k is_in =
      ⊎_elim
      (λ (l : k < at).
      let last : (at - 1) + 1 ≡ at = omega arith in
      let le : at ≤ e = is.order in
      absurd (is_in.1 (at - 1) (omega arith) (omega arith) (is.begins (at - 1) last)))
      (λ (g : at ≤ k).
      let k_lt : k < e = is_in.0 in
      let i_lt : k - at < e - at = omega arith in
      let there : at + (k - at) ≡ k = omega arith in (
        k - at,
        omega (arith, range_length),
        range_at (k - at) i_lt ∙ ap (slice_index words) there,
      ))
      (cases_lt k at)

  pub same_literals : (clause : List ℕ) → Stands words clause e → HaveSameLiterals (slice_range words at e) clause
  same_literals clause stands = (
    λ literal has.
        let found = range_in literal has in subst (HasLiteral clause) found.2 (stands.only found.0 found.1),
    λ literal has.
        let found = stands.each literal has in
        subst (HasLiteral (slice_range words at e)) found.2 (in_range found.0 found.1),
  )

pub same_both : (one two three : List ℕ) → HaveSameLiterals one two → HaveSameLiterals one three
    → HaveSameLiterals two three
same_both one two three first second =
    (λ literal has. second.0 literal (first.1 literal has), λ literal has. first.0 literal (second.1 literal has))

pub stored_alike : (words one other : List ℕ) → HaveSameLiterals one other → IsStored words one
    → IsStored words other
stored_alike words one other same stored =
    ⊎_elim
    (λ (standing : (e : ℕ) × Stands words one e). inl (
      standing.0,
      record {
        inside = standing.1.inside;
        ends = standing.1.ends;
        only = λ k is_in. same.0 _ (standing.1.only k is_in);
        each = λ literal has. standing.1.each literal (same.1 literal has);
      },
    ))
    (λ (always : IsTautology one).
    inr (always.0, same.0 _ always.1, same.0 _ always.2))
    stored

-- where each clause that stands somewhere is stored in others, so is each that is stored
pub stored_from : (words new clause : List ℕ) → ((e : ℕ) → Stands words clause e → IsStored new clause)
    → IsStored words clause → IsStored new clause
stored_from words new clause stands stored =
    ⊎_elim (λ (standing : (e : ℕ) × Stands words clause e). stands standing.0 standing.1)
    (λ (always : IsTautology clause). inr always) stored

-- a clause that was let go is always true
pub gone_always : (words : List ℕ) (at e : ℕ) → IsClause words at e → at + 1 < e
    → slice_index words (at + 1) ≡ negation_of (slice_index words at) → (clause : List ℕ) → Stands words clause e
    → IsTautology clause
gone_always words at e is two negated clause stands = (
  slice_index words at,
  stands.only at (omega arith, λ m low high. is.literals m low high),
  subst (HasLiteral clause) negated (stands.only (at + 1) (
    omega arith,
    λ m low high. is.literals m
        (omega arith) high,
  )),
)
