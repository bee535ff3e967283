use Rattle.std.proofs.Common.{◌≡◌, ◌∙◌, ◌++◌, [], List, ℕ, ap, ap₂, arith, drop, reverse, sym, take}
use Rattle.std.proofs.lemmas.List.{nil_from_length, reverse-append, take-append-drop}
use Rattle.aig_io.proofs.Puts.{put_nothing, put_twice}
use Rattle.aig_wave.proofs.reversed.put_reversed.Goals as goal

last_first : (n : ℕ) (bytes others last : List ℕ) → others ≡ take n bytes → last ≡ drop n bytes
    → reverse bytes ≡ reverse last ++ reverse others
last_first n bytes others last p q =
    ap reverse (sym (take-append-drop n bytes)) ∙ reverse-append (take n bytes) (drop n bytes)
    ∙ ap₂ (λ (x y : List ℕ). reverse x ++ reverse y) (sym q) (sym p)

pub loop-rest-preserved : goal.loop-rest-preserved
loop-rest-preserved g c = λ o left.
    c.loop-rest.invariant o
    (rw (last_first _ c.loop-rest.rest.now _ _ c.split_at.ensures.front c.split_at.ensures.back)
    (put_twice _ _ _ _ _ c.put_line.ensures.put left))

pub returns : goal.returns
returns g c =
    let none : c.loop-rest.rest.now ≡ [] = nil_from_length c.loop-rest.rest.now (omega arith) in
    c.loop-rest.invariant c.loop-rest.output (rw none (put_nothing _))
