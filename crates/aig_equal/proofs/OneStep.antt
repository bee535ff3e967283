-- What circuits without latches show in one step they show in each.
use Rattle.std.proofs.Common.{◌≡◌, ◌∙◌, List, [], ◌∷◌, ap, arith, length, map, subst, sym}
use Rattle.std.specs.List.{AllByRecursion, AllZip}
use Rattle.aig_circuit.specs.declared.circuit.Circuit.{Circuit}
use Rattle.aig_circuit.specs.declared.circuit.Latch.{Latch}
use Rattle.aig_circuit.specs.declared.value.Val.{Val}
use Rattle.aig_circuit.specs.declared.value.Val.TheVariants.{Zero}
use Rattle.aig_meaning.specs.Meaning.{Row}
use Rattle.aig_meaning.specs.Trace.{Follow, IsFirstState, MayStartAt}
use Rattle.aig_meaning.proofs.Traces.{first_length, next_length}
use Rattle.aig_miter.specs.Both.{StayAlike, differ}
use Rattle.aig_miter.specs.Starts.{free_only}
use Rattle.aig_unroll.specs.Unrolled.{resets_of}
use Rattle.aig_equal.specs.Alike.{AreAlikeFor, StartAlike}
use Rattle.aig_equal.specs.Laws.{OneStepSaysAll}

no_state : (c : Circuit) (state : List Val) → c.latches ≡ [] → length state ≡ 0 → IsFirstState c state
no_state c [] none long =
    subst (λ (ls : List Latch). AllZip MayStartAt (map (λ (l : Latch). l.reset) ls) []) (sym none) tt
no_state c (v ∷ vs) none long = absurd (omega (arith, long))

module _ (a b : Circuit) (none : a.latches ≡ []) (none_too : b.latches ≡ []) (alike : AreAlikeFor 1 a b) where
  start_alike : (f g : List Val) → StartAlike a b f g
  start_alike f g =
      subst (λ (ls : List Latch). AllByRecursion (λ x. x ≡ Zero)
      (differ (free_only (map (λ (l : Latch). l.reset) ls) f) (free_only (resets_of b) g))) (sym none) tt

  at_each_step : (f g : List Val) (vectors : List (List Val)) (rs ss : List Row) → length f ≡ 0 → length g ≡ 0
      → Follow a f vectors rs → Follow b g vectors ss → StayAlike rs ss
  at_each_step f g [] [] [] long long_too follow follow_too = tt
  at_each_step f g [] [] (s ∷ ss) long long_too follow follow_too = absurd follow_too
  at_each_step f g [] (r ∷ rs) ss long long_too follow follow_too = absurd follow
  at_each_step f g (v ∷ vs) [] ss long long_too follow follow_too = absurd follow
  at_each_step f g (v ∷ vs) (r ∷ rs) [] long long_too follow follow_too = absurd follow_too
  at_each_step f g (v ∷ vs) (r ∷ rs) (s ∷ ss) long long_too follow follow_too =
      let now = alike f g (v ∷ []) (r ∷ []) (s ∷ []) (omega arith)
      (no_state a f none long, (follow.0, follow.1, follow.2, tt))
      (no_state b g none_too long_too, (follow_too.0, follow_too.1, follow_too.2, tt)) (start_alike f g) in
      λ holds. (
        (now holds).0,
        at_each_step r.next s.next vs rs ss (next_length a r follow.2 ∙ ap length none)
            (next_length b s follow_too.2 ∙ ap length none_too) follow.3 follow_too.3,
      )

pub one_step_says_all : OneStepSaysAll
one_step_says_all a b none none_too alike frames f g vectors rs ss few trace trace_too start =
    at_each_step a b none none_too alike f g vectors rs ss (first_length a f trace.0 ∙ ap length none)
    (first_length b g trace_too.0 ∙ ap length none_too) trace.1 trace_too.1
