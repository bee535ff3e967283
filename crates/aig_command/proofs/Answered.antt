-- What is answered where `clap` takes the arguments, and where it does not.
use Rattle.std.proofs.Common.{◌≡◌, ◌≢◌, ◌∙◌, ◌⊎◌, ◌==◌, ◌∷◌, ◌-◌, Bool, Option, Some, None, Result, Ok, Err, IfOk}
use Rattle.std.proofs.Common.{IfErr, IfSome, List, [], ap, arith, cond, drop, false, inl, inr, is_some, length, refl}
use Rattle.std.proofs.Common.{subst, sym, true, true≢false, String, option_and_then, option_map, string_bytes, take, Global}
use Rattle.std.proofs.Common.{take_all}
use Rattle.std.specs.List.{list_any}
use Rattle.std.specs.Option.{option_map_or}
use Rattle.clap.specs.Words.{HasMatchesOf, IsAmong, Kinds, Text, is_simple, is_simple_and_free, subcommand_of}
use Rattle.clap.specs.Words.{subcommand_rows_of, takes}
use Rattle.clap.specs.declared.error.kind.ErrorKind.{ErrorKind}
use Rattle.clap.specs.declared.error.kind.ErrorKind.TheVariants as kinds
use Rattle.clap.specs.declared.parser.matches.ArgMatches.{ArgMatches}
use Rattle.clap.proofs.OnLiterals.{clap_on_literals}
use Rattle.clap.proofs.WalkLemmas.{list_any-map}
use Rattle.aig_command.specs.Aiger.{aiger}
use Rattle.aig_command.specs.Asked.{Asked, AsksWithinLimits, asked_by, asks, command_of, faults, refused}
use Rattle.aig_command.specs.Asked.{source_refusal, unless_packed}
use Rattle.aig_command.specs.Answer.{IsAnswer, IsCommand, IsErrorAnswer, IsUsage, IsWrong, asks_for, is_option}
use Rattle.aig_command.specs.Answer.{IsReason, files_of, no_names}
use Rattle.aig_command.specs.Answer.{texts}
use Rattle.aig_command.specs.declared.request.Command.{Command}
use Rattle.aig_command.specs.declared.request.Command.TheVariants as commands
use Rattle.aig_command.specs.declared.request.Names.{Names}
use Rattle.aig_command.specs.declared.usage.Usage.{Usage}
use Rattle.aig_command.specs.declared.usage.Usage.TheVariants as usage
use Rattle.aig_command.proofs.Entered.{known}
use Rattle.aig_command.proofs.Within.{within}

-- ---- arguments that are taken

simple : is_simple aiger ≡ true
unfolding clap_on_literals
simple = refl

pub free : is_simple_and_free aiger ≡ true
unfolding clap_on_literals
free = refl

abbrev Answers : Option Asked → Result (Names × Command) Usage → Type 0
Answers o r = IfSome o (λ asked. IsAnswer asked r)

is_command : (words : List Text) (o : Option Asked) (r : Result (Names × Command) Usage) → command_of words ≡ o
    → is_some o ≡ true → Answers o r → IfOk r (λ answer. IsCommand words answer.0 answer.1)
is_command words None r is some h = absurd (true≢false (sym some))
is_command words (Some asked) (Ok (names, commands.Help text)) is some h = absurd h
is_command words (Some asked) (Ok (names, commands.Version text)) is some h = absurd h
is_command words (Some asked) (Ok (names, command)) is some h = is ∙ ap Some h
is_command words (Some asked) (Err reason) is some h = tt

is_usage : (words : List Text) (o : Option Asked) (r : Result (Names × Command) Usage) → command_of words ≡ o
    → is_some o ≡ true → Answers o r → IfErr r (IsUsage words)
is_usage words None r is some h = absurd (true≢false (sym some))
is_usage words (Some asked) (Ok answer) is some h = tt
is_usage words (Some asked) (Err usage.OutOfMemory) is some h = tt
is_usage words (Some asked) (Err (usage.Words text)) is some h = absurd h
is_usage words (Some asked) (Err reason) is some h = is ∙ ap Some h

-- ---- files that were packed

-- what is asked for is refused, and so it is of files that were not packed
pub refused_before : (o : Option Asked) (reason : Usage) → Answers o (Err reason)
    → Answers (option_map unless_packed o) (Err reason)
refused_before None reason h = tt
refused_before (Some (refused first)) reason h = h
refused_before (Some (asks files command)) usage.OutOfMemory h = packed_memory (source_refusal files)
  where
    packed_memory : (why : Option Usage) → IsAnswer (option_map_or refused why (asks files command)) (Err usage.OutOfMemory)
    packed_memory why = tt
refused_before (Some (asks files command)) (usage.Words text) h = absurd h
refused_before (Some (asks files command)) reason h = absurd (cc h)

is_asked : (asked : Asked) (names : Names) (command : Command) → IsAnswer asked (Ok (names, command))
    → asked ≡ asks (files_of names) command
is_asked asked names (commands.Help text) h = absurd h
is_asked asked names (commands.Version text) h = absurd h
is_asked asked names command h = h

-- what is asked for, where this is the reason to refuse it
abbrev given : Names → Command → Option Usage → Asked
given names command why = option_map_or refused why (asks (files_of names) command)

unless_is : (asked : Asked) (names : Names) (command : Command) → IsAnswer asked (Ok (names, command))
    → unless_packed asked ≡ given names command (source_refusal (files_of names))
unless_is asked names command h = ap unless_packed (is_asked asked names command h)

is_refused : (reason : Usage) → IsReason reason → IsAnswer (refused reason) (Err reason)
is_refused usage.OutOfMemory h = tt
is_refused (usage.Words text) h = h
is_refused reason h = refl

-- a file that is read was packed
pub refused_packed : (o : Option Asked) (names : Names) (command : Command) (reason : Usage)
    → Answers o (Ok (names, command)) → IsReason reason → source_refusal (files_of names) ≡ Some reason
    → Answers (option_map unless_packed o) (Err reason)
refused_packed None names command reason h is why = tt
refused_packed (Some asked) names command reason h is why =
    subst (λ a. IsAnswer a (Err reason)) (sym (unless_is asked names command h ∙ ap (given names command) why))
    (is_refused reason is)

-- none was
pub not_packed : (o : Option Asked) (names : Names) (command : Command) → Answers o (Ok (names, command))
    → source_refusal (files_of names) ≡ None → Answers (option_map unless_packed o) (Ok (names, command))
not_packed None names command h none = tt
not_packed (Some asked) names command h none =
    let now = unless_is asked names command h ∙ ap (given names command) none in
    subst (λ a. IsAnswer a (Ok (names, command))) (is_asked asked names command h ∙ sym now) h

module _ (words : List Text) (m : ArgMatches) (h : HasMatchesOf aiger words m) (e : faults words ≡ []) where
  pub rows_known : is_some (option_and_then asked_by (subcommand_rows_of m)) ≡ true
  rows_known = ap (λ o. is_some (option_and_then asked_by o)) (h simple).1 ∙ known words e

  pub rows_within : IfSome (option_and_then asked_by (subcommand_rows_of m)) AsksWithinLimits
  rows_within = rw (h simple).1 (within words e)

  abbrev answer : Option Asked
  answer = option_map unless_packed (option_and_then asked_by (subcommand_rows_of m))

  command_is : command_of words ≡ answer
  command_is =
      ap
      (λ (ks : Kinds). cond (length ks == 0)
      (option_map unless_packed (option_and_then asked_by (subcommand_of aiger words))) None) e
      ∙ ap (λ o. option_map unless_packed (option_and_then asked_by o)) (sym (h simple).1)

  answer_known : is_some answer ≡ true
  answer_known = mapped (option_and_then asked_by (subcommand_rows_of m)) rows_known
    where
      mapped : (o : Option Asked) → is_some o ≡ true → is_some (option_map unless_packed o) ≡ true
      mapped None some = some
      mapped (Some asked) some = refl

  pub taken_command : (r : Result (Names × Command) Usage) → Answers answer r
      → IfOk r (λ answer. IsCommand words answer.0 answer.1)
  taken_command r = is_command words answer r command_is answer_known

  pub taken_usage : (r : Result (Names × Command) Usage) → Answers answer r → IfErr r (IsUsage words)
  taken_usage r = is_usage words answer r command_is answer_known

-- ---- arguments that are not taken

untaken : (b : Bool) (P : Type 0) → (P → ⊥) → (b ≡ true → P) → b ≡ false
untaken true P never h = absurd (never (h refl))
untaken false P never h = refl

is_among : (kind : ErrorKind) (ks : Kinds) → kind ≢ kinds.OutOfMemory
    → (kind ≡ kinds.OutOfMemory) ⊎ IsAmong kind ks → IsAmong kind ks
is_among kind ks other (inl e) = absurd (other e)
is_among kind ks other (inr h) = h

module _ (words : List Text) (kind : ErrorKind) (passes : takes aiger words ≡ true → kind ≡ kinds.OutOfMemory)
    (fails : (kind ≡ kinds.OutOfMemory) ⊎ IsAmong kind (faults words)) where
  is_wrong : kind ≢ kinds.OutOfMemory → IsWrong words kind
  is_wrong other =
      let untaken_words = untaken (takes aiger words) (kind ≡ kinds.OutOfMemory) other passes in
      (is_among kind (faults words) other fails, untaken_words)

  pub refused_command : (r : Result Command Usage) → IsErrorAnswer kind words r → IfOk r (IsCommand words no_names)
  refused_command (Ok (commands.Help text)) h =
      (subst (IsWrong words) h.0 (is_wrong (λ memory. cc (h.0))), h.1, h.2, refl)
  refused_command (Ok (commands.Version text)) h =
      (subst (IsWrong words) h.0 (is_wrong (λ memory. cc (h.0))), h.1, h.2, h.3, refl)
  refused_command (Ok command) h = absurd h
  refused_command (Err reason) h = tt

  pub refused_usage : (r : Result Command Usage) → IsErrorAnswer kind words r → IfErr r (IsUsage words)
  refused_usage (Ok command) h = tt
  refused_usage (Err usage.OutOfMemory) h = tt
  refused_usage (Err (usage.Words text)) h = (kind, is_wrong h.0, h.1, h.2, h.3)
  refused_usage (Err reason) h = absurd h

-- ---- an argument that asks for a text

module _ (long short : Text) where
  abbrev any_asks : List (String Global) → Bool
  any_asks = list_any (λ word. is_option long short (string_bytes word))

  pub after_name : (words : List (String Global))
      → any_asks (take (length words - 1) (drop 1 words)) ≡ asks_for long short (texts words)
  after_name [] = refl
  after_name (word ∷ words) =
      ap any_asks (take_all (length (word ∷ words) - 1) words (omega arith))
      ∙ list_any-map (is_option long short) string_bytes words
