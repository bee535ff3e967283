-- Words in which literals changed places, one time after the other.
use Rattle.std.proofs.Common.{◌∙◌, List, ℕ, refl}
use Rattle.aig_refute.specs.Rearranged.{IsRearranged}

pub rearranged_same : (words : List ℕ) → IsRearranged words words
rearranged_same words = record {
  len = refl;
  live = λ m live. live;
  holds = λ a holds. holds;
  spanned = λ base firsts lasts spanned. spanned;
  stands = λ clause e stands. stands;
}

pub rearranged_both : (first second third : List ℕ) → IsRearranged first second → IsRearranged second third
    → IsRearranged first third
rearranged_both first second third one two = record {
  len = two.len ∙ one.len;
  live = λ m live. two.live m (one.live m live);
  holds = λ a holds. two.holds a (one.holds a holds);
  spanned = λ base firsts lasts spanned. two.spanned base firsts lasts (one.spanned base firsts lasts spanned);
  stands = λ clause e stands. two.stands clause e (one.stands clause e stands);
}
