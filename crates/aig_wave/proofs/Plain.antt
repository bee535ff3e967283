-- The head of a dump is plain text.
use Rattle.std.proofs.Common.{◌≡◌, ◌==◌, ◌<◌, ◌/◌, ◌%◌, ◌&&◌, ◌∙◌, ◌∷◌, ◌++◌, if◌then◌else◌, ℕ, zero, suc, List, []}
use Rattle.std.proofs.Common.{Bool, true, false, None, Option, Some, codes, decimal, length, refl, ap₂, arith}
use Rattle.std.proofs.Common.{slice_index_or, flat_map}
use Rattle.std.proofs.lemmas.Bool.Decides.{nat_tests}
use Rattle.std.proofs.lemmas.List.Folds.{list_all-append}
use Rattle.std.specs.Fmt.{digit_glyph, digits, digits_onto}
use Rattle.std.specs.List.{list_all}
use Rattle.aig_circuit.specs.declared.circuit.Circuit.{Circuit}
use Rattle.aig_circuit.specs.declared.circuit.Kind.{Kind}
use Rattle.aig_circuit.specs.declared.circuit.Kind.TheVariants.{Input, Latch, Output, Bad, Constraint, Justice}
use Rattle.aig_circuit.specs.declared.circuit.Kind.TheVariants.{Fairness}
use Rattle.aig_wave.specs.declared.signal.Signal.{Signal}
use Rattle.aig_wave.specs.Head.{closing, code, head, opening, range_text, scope, scope_text, sort, var_text, words_for}
use Rattle.aig_wave.specs.Laws.{is_plain}
use Rattle.aig_wave.specs.Names.{Indexed, indexed, shown, shown_byte}
use Rattle.aig_wave.specs.Places.{kinds, letter}
use Rattle.aig_wave.specs.Signals.{names_of, signals_of}

pub record IsPlain (text : List ℕ) : Type 0 where
  pub plain : list_all is_plain text ≡ true

plain_joined : (a b : List ℕ) → IsPlain a → IsPlain b → IsPlain (a ++ b)
plain_joined a b p q = record {
  plain = list_all-append is_plain a b ∙ ap₂ (λ (x y : Bool). x && y) p.plain q.plain;
}

plain_if : (test : Bool) (a b : List ℕ) → IsPlain a → IsPlain b → IsPlain (if test then a else b)
plain_if true a b p q = p
plain_if false a b p q = q

plain_each : {X : Type 0} (f : X → List ℕ) → ((x : X) → IsPlain (f x)) → (xs : List X) → IsPlain (flat_map f xs)
plain_each f each [] = record { plain = refl }
plain_each f each (x ∷ xs) = plain_joined (f x) (flat_map f xs) (each x) (plain_each f each xs)

plain_more : (b : ℕ) (text : List ℕ) → is_plain b ≡ true → IsPlain text → IsPlain (b ∷ text)
plain_more b text is p = record { plain = ap₂ (λ (x y : Bool). x && y) is p.plain }

plain_glyph : (d : ℕ) → d < 10 → is_plain (digit_glyph false d) ≡ true
plain_glyph d low = grind (arith, nat_tests)

plain_digits : (k n : ℕ) (text : List ℕ) → IsPlain text → IsPlain (digits_onto k 10 false n text)
plain_digits zero n text p = p
plain_digits (suc k) n text p =
    let more = plain_more (digit_glyph false (n % 10)) text (plain_glyph (n % 10) (omega arith)) p in
    plain_if (n / 10 == 0) _ _ more (plain_digits k (n / 10) _ more)

plain_number : (n : ℕ) → IsPlain (decimal n)
unfolding digits
plain_number n = plain_digits 64 n [] (record { plain = refl })

plain_byte : (b : ℕ) → is_plain (shown_byte b) ≡ true
plain_byte b = grind (arith, nat_tests)

plain_name : (name : List ℕ) → IsPlain (shown name)
plain_name [] = record { plain = refl }
plain_name (b ∷ bs) = plain_more (shown_byte b) (shown bs) (plain_byte b) (plain_name bs)

plain_letter : (kind : Kind) → is_plain (letter kind) ≡ true
plain_letter Input = refl
plain_letter Latch = refl
plain_letter Output = refl
plain_letter Bad = refl
plain_letter Constraint = refl
plain_letter Justice = refl
plain_letter Fairness = refl

plain_code : (s : Signal) → IsPlain (code s)
plain_code s = plain_more (letter s.kind) (decimal s.first) (plain_letter s.kind) (plain_number s.first)

plain_range : (index size : ℕ) → IsPlain (range_text index size)
plain_range index size =
    plain_if (size == 1) _ _ (plain_number index)
    (plain_joined _ _ (plain_number _) (plain_joined (codes ":") _ (record { plain = refl }) (plain_number index)))

plain_words_for : (s : Signal) (name : List ℕ) (is : Option Indexed) → IsPlain (words_for s name is)
plain_words_for s name (Some i) =
    plain_joined _ _ (plain_name i.front)
    (plain_joined (codes " [") _ (record { plain = refl })
    (plain_joined _ (codes "]") (plain_range i.index s.size) (record { plain = refl })))
plain_words_for s name None = plain_if (length name == 0) _ _ (plain_code s) (plain_name name)

plain_sort : (kind : Kind) → IsPlain (sort kind)
plain_sort Input = record { plain = refl }
plain_sort Latch = record { plain = refl }
plain_sort Output = record { plain = refl }
plain_sort Bad = record { plain = refl }
plain_sort Constraint = record { plain = refl }
plain_sort Justice = record { plain = refl }
plain_sort Fairness = record { plain = refl }

plain_scope : (kind : Kind) → IsPlain (scope kind)
plain_scope Input = record { plain = refl }
plain_scope Latch = record { plain = refl }
plain_scope Output = record { plain = refl }
plain_scope Bad = record { plain = refl }
plain_scope Constraint = record { plain = refl }
plain_scope Justice = record { plain = refl }
plain_scope Fairness = record { plain = refl }

plain_var : (names : List (List ℕ)) (s : Signal) → IsPlain (var_text names s)
plain_var names s =
    let name = slice_index_or names s.first [] in
    plain_joined _ _ (plain_sort s.kind)
    (plain_joined _ _ (plain_number s.size)
    (plain_joined (codes " ") _ (record { plain = refl })
    (plain_joined _ _ (plain_code s)
    (plain_joined (codes " ") _ (record { plain = refl })
    (plain_joined _ (codes " $end\n") (plain_words_for s name (indexed name)) (record { plain = refl }))))))

plain_scope_text : (c : Circuit) (kind : Kind) → IsPlain (scope_text c kind)
plain_scope_text c kind =
    let names = names_of c kind in
    plain_if (length names == 0) _ _ (record { plain = refl })
    (plain_joined _ _ (plain_scope kind)
    (plain_joined _ (codes "$upscope $end\n") (plain_each (var_text names) (plain_var names) (signals_of c kind))
    (record { plain = refl })))

pub plain_head : (c : Circuit) → list_all is_plain (head c) ≡ true
plain_head c =
    (plain_joined opening _ (record { plain = refl })
    (plain_joined _ closing (plain_each (scope_text c) (plain_scope_text c) kinds) (record { plain = refl }))).plain
