-- What is answered to the subcommand that was met.
use Rattle.std.proofs.Common.{◌≡◌, ◌∙◌, Option, Some, None, Result, IfSome, List, ap, subst, sym, option_and_then}
use Rattle.std.proofs.Common.{option_map, unwrap_or, is_some, true≢false}
use Rattle.clap.specs.Words.{Row, Text}
use Rattle.aig_command.specs.Asked.{Asked, asked_by}
use Rattle.aig_command.specs.Answer.{IsAnswer}
use Rattle.aig_command.specs.declared.request.Command.{Command}
use Rattle.aig_command.specs.declared.request.Names.{Names}
use Rattle.aig_command.specs.declared.usage.Usage.{Usage}

-- It has this name, of which the arguments ask so.
module _ {A : Type 0} (f : A → Text × List Row) (asks : List Row → Asked) (name : Text)
    (by_name : (rows : List Row) → asked_by (name, rows) ≡ Some (asks rows)) (r : Result (Names × Command) Usage) where
  pub met_answered : (o : Option A) (word : Text) (rows : List Row) → word ≡ name
      → Some word ≡ option_map (λ b. (f b).0) o → Some rows ≡ option_map (λ (p : Text × List Row). p.1) (option_map f o)
      → IsAnswer (asks rows) r → IfSome (option_and_then asked_by (option_map f o)) (λ asked. IsAnswer asked r)
  met_answered None word rows is named given answer = absurd (true≢false (ap is_some named))
  met_answered (Some b) word rows is named given answer =
      let Answered : Option Asked → Type 0 = λ o. IfSome o (λ asked. IsAnswer asked r) in
      let first : name ≡ (f b).0 = sym is ∙ ap (λ (o : Option Text). unwrap_or o word) named in
      let second : rows ≡ (f b).1 = ap (λ (o : Option (List Row)). unwrap_or o rows) given in
      subst (λ (n : Text). Answered (asked_by (n, (f b).1))) first
      (subst (λ (rs : List Row). Answered (asked_by (name, rs))) second
      (subst Answered (sym (by_name rows)) answer))
