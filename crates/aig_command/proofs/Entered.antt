-- What `clap` takes has a subcommand that is one of ours, and values that pass their arguments' parsers.
use Rattle.std.proofs.Common.{◌≡◌, ◌∷◌, ◌∙◌, ◌+◌, ◌||◌, ◌&&◌, ◌++◌, IfSome, rules, Bool, Option, Some, None, List, []}
use Rattle.std.proofs.Common.{ap, cond, drop, false, is_some, not, option_map, refl, sym, true, true≢false, ℕ, arith}
use Rattle.std.proofs.Common.{length, min, option_and_then, find, fold, bytes_eq, ne_eqb, codes, subst}
use Rattle.std.specs.Bool.{⊤}
use Rattle.std.specs.List.{AllByRecursion, list_any}
use Rattle.std.proofs.lemmas.Slice.Eq.{bytes_eq-Decides}
use Rattle.clap.specs.Lexer.{long_of, short_of}
use Rattle.clap.specs.Words.{Kinds, Row, Text, subcommand_of, Rule, count_of}
use Rattle.clap.specs.Facts.{explicit_source}
use Rattle.clap.specs.Faults.{check_fault, entered_fault, level_fault, action_fault, default_fault, repeat_fault}
use Rattle.clap.specs.Faults.{use_fault, values_fault, other_fault, step_fault, turn_fault, walk_fault, word_fault}
use Rattle.clap.specs.Kinds.{check_kinds, or_else, request_kinds, value_kinds, values_kinds}
use Rattle.clap.specs.Simple.{App, Shape, built, entered, label_of, names_of, rows_at}
use Rattle.clap.specs.Walk.{Held, Names, answers_to, finished, nothing_held, walk, action_of, arg_by_id, at_row}
use Rattle.clap.specs.Walk.{counted, default_rows, has_row, is_empty, more_values, new_count, reading_by, used, used_as}
use Rattle.clap.specs.Walk.{values_or_missing, with_count, with_default, with_values, without}
use Rattle.clap.specs.Walk.{Outcome, Step, Waiting, Walk, after_flag, after_step, arg_by_index, arg_by_long, bundle}
use Rattle.clap.specs.Walk.{done}
use Rattle.clap.specs.Walk.{idle, long_met, long_or_other, next, option, plain, plain_word, positional, refused}
use Rattle.clap.specs.Walk.{short_or_plain, subcommand, subcommand_met, subcommand_or_other, to_positional, trailing}
use Rattle.clap.specs.Walk.{value, waits, walk_from, walked, walked_from, word_met}
use Rattle.clap.specs.Matches.{count_text}
use Rattle.clap.specs.declared.builder.action.ArgAction.{ArgAction}
use Rattle.clap.specs.declared.builder.action.ArgAction.TheVariants as action
use Rattle.clap.specs.declared.builder.value_parser.Reading.{Reading}
use Rattle.clap.specs.declared.builder.value_parser.ValueParser.{ValueParser}
use Rattle.clap.specs.declared.error.kind.ErrorKind.TheVariants as kind
use Rattle.clap.specs.declared.parser.matches.ValueSource.{ValueSource}
use Rattle.clap.specs.declared.parser.matches.ValueSource.TheVariants.{CommandLine, DefaultValue}
use Rattle.aig_command.specs.Aiger.{aiger}
use Rattle.aig_command.specs.Asked.{asked_by, faults}

-- ---- a subcommand is met

abbrev pub is_none : Kinds → Bool
is_none [] = true
is_none (k ∷ ks) = false

pub second_empty : (a b : Kinds) → or_else a b ≡ [] → b ≡ []
second_empty [] b e = e
second_empty (k ∷ ks) b e = absurd (true≢false (sym (ap is_none e)))

pub first_empty : (a b : Kinds) → or_else a b ≡ [] → a ≡ []
first_empty [] b e = refl
first_empty (k ∷ ks) b e = e

-- the last check of a level passes where the level does
last_check : (s : Shape) (names : Names) (h : Held) (words : List Text) (has : Bool) (below : Kinds)
    → level_fault s names h words has below ≡ []
    → check_fault s (finished s.rules (walk s.rules names h words).held) has ≡ []
last_check s names h words has below e = search (rules, second_empty)

missing : (help none more : Bool) → none ≡ true → check_kinds help none more ≡ [] → ⊥
missing true none more q e = true≢false (sym (ap is_none e))
missing false false more q e = true≢false (sym q)
missing false true more q e = true≢false (sym (ap is_none e))

abbrev none_given : List Row → Bool
none_given rows = not (list_any (λ (r : Row). explicit_source r.source) rows)

-- a command that requires a subcommand has met one
needs_subcommand : (s : Shape) (rows : List Row) (has : Bool)
    → s.subcommand_required ≡ true → check_fault s rows has ≡ [] → has ≡ true
needs_subcommand s rows true required e = refl
needs_subcommand s rows false required e = search (rules, missing)

abbrev pub stop_at : List Text → Option (Text × List Text)
stop_at words = (walk (built aiger).top.rules (names_of (built aiger)) nothing_held (drop 1 words)).stopped

is_entered : (words : List Text) → faults words ≡ [] → is_some (subcommand_of aiger words) ≡ true
is_entered words e =
    let a : App = built aiger in
    let after : List Text = drop 1 words in
    let has : Bool = is_some (entered a (stop_at words)) in
    needs_subcommand a.top (finished a.top.rules (walk a.top.rules (names_of a) nothing_held after).held) has refl
    (last_check a.top (names_of a) nothing_held after has (entered_fault a (stop_at words)) e)

-- ---- and it is not `help`, to which `clap` itself answers

-- no subcommand was met
abbrev IsInside : Step → Type 0
IsInside (subcommand name) = ⊥
IsInside step = ⊤

plain_inside : (c : List Rule) (waiting : Waiting) (word : Text) (h : Held) → IsInside (plain_word c waiting word h).1
plain_inside c idle word h = tt
plain_inside c (option id) word h = tt
plain_inside c positional word h = tt

after_inside : (c : List Rule) (waiting : Waiting) (word : Text) (h : Held) (o : Outcome)
    → IsInside (after_flag c waiting word h o).1
after_inside c waiting word h done = tt
after_inside c waiting word h (waits id) = tt
after_inside c waiting word h plain = plain_inside c waiting word h
after_inside c waiting word h refused = plain_inside c waiting word h

short_inside : (c : List Rule) (waiting : Waiting) (word : Text) (flags : Option Text) (h : Held)
    → IsInside (short_or_plain c waiting word flags h).1
short_inside c waiting word None h = plain_inside c waiting word h
short_inside c waiting word (Some flags) h = after_inside c waiting word (bundle c flags h).0 (bundle c flags h).1

long_inside : (c : List Rule) (waiting : Waiting) (word : Text) (long : Option (Text × Option Text)) (h : Held)
    → IsInside (long_or_other c waiting word long h).1
long_inside c waiting word (Some p) h =
    let met = long_met c (arg_by_long c p.0) p.1 h in after_inside c waiting word met.0 met.1
long_inside c waiting word None h = short_inside c waiting word (short_of word) h

other_inside : (c : List Rule) (waiting : Waiting) (position : ℕ) (word : Text) (h : Held)
    → IsInside (subcommand_or_other c None waiting position word h).1
other_inside c waiting position word h = go (bytes_eq word (45 ∷ 45 ∷ []))
  where
    go : (b : Bool) → IsInside (cond b (h, trailing position) (long_or_other c waiting word (long_of word) h)).1
    go true = tt
    go false = long_inside c waiting word (long_of word) h

-- the walk has not stopped at `help`
abbrev IsNoHelp : Option (Text × List Text) → Type 0
IsNoHelp stop = IfSome stop (λ p. bytes_eq p.0 (codes "help") ≡ false)

inside_goes_on : (c : List Rule) (word : Text) (w : Walk) (h : Held) (step : Step) → w.stopped ≡ None → IsInside step
    → IsNoHelp (after_step c word w h step).stopped
inside_goes_on c word w h (next waiting) e is = rw e tt
inside_goes_on c word w h (trailing position) e is = rw e tt
inside_goes_on c word w h (subcommand name) e is = absurd is
inside_goes_on c word w h value e is = go (arg_by_index c w.position)
  where
    go : (o : Option Rule) → IsNoHelp (to_positional c o word w h).stopped
    go None = rw e tt
    go (Some a) = tt

module _ (s : Shape) (names : Names) (has_help : s.disable_help_subcommand ≡ false) where
  not_help : (b : Bool)
      → cond (b && not s.disable_help_subcommand) (kind.DisplayHelp ∷ kind.InvalidSubcommand ∷ []) [] ≡ []
      → b ≡ false
  not_help b e = go b (rw has_help at e)
    where
      go : (b : Bool) → cond (b && true) (kind.DisplayHelp ∷ kind.InvalidSubcommand ∷ []) [] ≡ [] → b ≡ false
      go true f = absurd (true≢false (sym (ap is_none f)))
      go false f = refl

  module _ (w : Walk) (word : Text) (e : w.stopped ≡ None) where
    no_help_met : (met : Option Text) → other_fault s met word w.held ≡ []
        → IsNoHelp
        (after_step s.rules word w (subcommand_or_other s.rules met w.waiting w.position word w.held).0
        (subcommand_or_other s.rules met w.waiting w.position word w.held).1).stopped
    no_help_met (Some name) f = not_help (bytes_eq name (codes "help")) f
    no_help_met None f =
        inside_goes_on s.rules word w _ (subcommand_or_other s.rules None w.waiting w.position word w.held).1 e
        (other_inside s.rules w.waiting w.position word w.held)

    no_help_by_word : (is_trailing : Bool) → word_fault s names is_trailing w.waiting word w.held ≡ []
        → IsNoHelp
        (after_step s.rules word w (word_met s.rules names is_trailing w.waiting w.position word w.held).0
        (word_met s.rules names is_trailing w.waiting w.position word w.held).1).stopped
    no_help_by_word true f = inside_goes_on s.rules word w w.held value e tt
    no_help_by_word false f = no_help_met (subcommand_met names w.waiting word) f

  no_help_by_turn : (w : Walk) (word : Text) → turn_fault s names w word ≡ [] → IsNoHelp w.stopped
      → IsNoHelp (walked s.rules names w word).stopped
  unfolding walked
  no_help_by_turn w word e other = go w.stopped refl e other
    where
      met : Held × Step
      met = word_met s.rules names w.is_trailing w.waiting w.position word w.held

      go : (o : Option (Text × List Text)) → w.stopped ≡ o
          → cond (is_some o) []
          (or_else (word_fault s names w.is_trailing w.waiting word w.held) (step_fault s w.position met.0 met.1)) ≡ []
          → IsNoHelp o → IsNoHelp (walked_from s.rules names o w word).stopped
      go (Some p) is f other = other
      go None is f other = no_help_by_word w word is w.is_trailing (first_empty _ _ f)

  no_help_by_walk : (words : List Text) (w : Walk) → walk_fault s names w words ≡ [] → IsNoHelp w.stopped
      → IsNoHelp (fold (walked s.rules names) w words).stopped
  unfolding walk_fault
  no_help_by_walk [] w e other = other
  no_help_by_walk (word ∷ words) w e other =
      no_help_by_walk words (walked s.rules names w word) (second_empty (turn_fault s names w word) _ e)
      (no_help_by_turn w word (first_empty (turn_fault s names w word) _ e) other)

is_no_help : (words : List Text) → faults words ≡ [] → IsNoHelp (stop_at words)
is_no_help words e =
    let a : App = built aiger in
    let after : List Text = drop 1 words in
    no_help_by_walk a.top (names_of a) refl after (walk_from nothing_held)
    (first_empty (walk_fault a.top (names_of a) (walk_from nothing_held) after) _ e) tt

-- ---- so it is one of ours

-- a subcommand that is met is known
abbrev IsKnownIfMet : Option (Text × List Row) → Type 0
IsKnownIfMet met = is_some met ≡ true → is_some (option_and_then asked_by met) ≡ true

-- what holds of each element holds of the one that is found
pub found_has : {X : Type 0} (P : X → Type 0) (p : X → Bool) (xs : List X) → AllByRecursion P xs → IfSome (find p xs) P
found_has P p [] h = tt
found_has P p (x ∷ xs) h = go (p x) (found_has P p xs h.1)
  where
    go : (b : Bool) → IfSome (find p xs) P → IfSome (cond b (Some x) (find p xs)) P
    go true later = h.0
    go false later = later

-- and it passes the test
found_passes : {X : Type 0} (p : X → Bool) (xs : List X) → IfSome (find p xs) (λ x. p x ≡ true)
found_passes p [] = tt
found_passes p (x ∷ xs) = go (p x) refl (found_passes p xs)
  where
    go : (b : Bool) → p x ≡ b → IfSome (find p xs) (λ y. p y ≡ true)
        → IfSome (cond b (Some x) (find p xs)) (λ y. p y ≡ true)
    go true e later = e
    go false e later = later

-- the subcommand is one of ours, where the word that it answers to is not `help`
abbrev IsOurs : Shape → Type 0
IsOurs s = (name : Text) (words : List Text) → answers_to name (label_of s) ≡ true
    → bytes_eq name (codes "help") ≡ false → is_some (asked_by (rows_at s words)) ≡ true

only_help : (name : Text) → (bytes_eq (codes "help") name || false) ≡ true → bytes_eq name (codes "help") ≡ false → ⊥
only_help name e other = true≢false (go (bytes_eq (codes "help") name) refl e)
  where
    go : (b : Bool) → bytes_eq (codes "help") name ≡ b → (b || false) ≡ true → true ≡ false
    go true same f =
        let is = (bytes_eq-Decides (codes "help") name).0 same in
        subst (λ n. bytes_eq n (codes "help") ≡ false) (sym is) other
    go false same f = sym f

each_is_ours : AllByRecursion IsOurs (built aiger).subs
each_is_ours = (
  λ name words e other. refl,
  (
    λ name words e other. refl,
    (
      λ name words e other. refl,
      (
        λ name words e other. refl,
        (
          λ name words e other. refl,
          (
            λ name words e other. refl,
            (λ name words e other. refl, (λ name words e other. absurd (only_help name e other), tt)),
          ),
        ),
      ),
    ),
  ),
)

is_known : (stop : Option (Text × List Text)) → IsNoHelp stop → IsKnownIfMet (entered (built aiger) stop)
is_known None other e = e
is_known (Some p) other e =
    go (find named (built aiger).subs) (found_has IsOurs named (built aiger).subs each_is_ours)
    (found_passes named (built aiger).subs) e
  where
    named : Shape → Bool
    named s = answers_to p.0 (label_of s)

    go : (o : Option Shape) → IfSome o IsOurs → IfSome o (λ s. named s ≡ true)
        → IsKnownIfMet (option_map (λ s. rows_at s p.1) o)
    go None is passes none = none
    go (Some s) is passes some = is p.0 p.1 passes other

-- what a command line that is taken asks for is known
pub known : (words : List Text) → faults words ≡ []
    → is_some (option_and_then asked_by (subcommand_of aiger words)) ≡ true
known words e = is_known (stop_at words) (is_no_help words e) (is_entered words e)

-- Where `clap` finds nothing wrong with the arguments, each value that it found passes its argument's parser.
-- ---- values

values_more : (i : Bool) (p : ValueParser) (vs ws : List Text) → values_kinds i p vs ≡ [] → values_kinds i p ws ≡ []
    → values_kinds i p (vs ++ ws) ≡ []
values_more i p [] ws e f = f
values_more i p (v ∷ vs) ws e f =
    ap (λ (k : Kinds). or_else k (values_kinds i p (vs ++ ws))) (first_empty (value_kinds i p v) _ e)
    ∙ values_more i p vs ws (second_empty (value_kinds i p v) _ e) f

-- ---- lists

all_more : {X : Type 0} (P : X → Type 0) (xs ys : List X) → AllByRecursion P xs → AllByRecursion P ys
    → AllByRecursion P (xs ++ ys)
all_more P [] ys h k = k
all_more P (x ∷ xs) ys h k = (h.0, all_more P xs ys h.1 k)

at_row_keeps : (P : Row → Type 0) (id : Text) (change : Row → List Row) (missing rows : List Row)
    → ((r : Row) → bytes_eq r.id id ≡ true → P r → AllByRecursion P (change r)) → AllByRecursion P missing
    → AllByRecursion P rows → AllByRecursion P (at_row id change missing rows)
at_row_keeps P id change missing [] each new h = new
at_row_keeps P id change missing (r ∷ rs) each new h =
    go (bytes_eq r.id id) refl (at_row_keeps P id change missing rs each new h.1)
  where
    go : (b : Bool) → bytes_eq r.id id ≡ b → AllByRecursion P (at_row id change missing rs)
        → AllByRecursion P (cond b (change r ++ rs) (r ∷ at_row id change missing rs))
    go true e later = all_more P (change r) rs (each r e h.0) h.1
    go false e later = (h.0, later)

-- ---- one use of an argument

module _ (c : List Rule) where
  -- these values pass the parser of the argument of this id, and are read as that says
  abbrev pub Pass : Text → List Text → Reading → Type 0
  Pass id values how = IfSome (arg_by_id c id) (λ a. (values_fault a values ≡ []) × (how ≡ reading_by a))

  abbrev pub AllPass : List Row → Type 0
  AllPass = AllByRecursion (λ (r : Row). Pass r.id r.values r.reading)

  -- a row of the argument's id is its own
  abbrev pub IsFirst : Rule → Type 0
  IsFirst a = arg_by_id c a.id ≡ Some a

  module _ (a : Rule) (first : IsFirst a) where
    pass : (id : Text) (values : List Text) (how : Reading) → arg_by_id c id ≡ Some a → values_fault a values ≡ []
        → how ≡ reading_by a → Pass id values how
    pass id values how is e same = rw is (e, same)

    more_pass : (r : Row) (values : List Text) → bytes_eq r.id a.id ≡ true → values_fault a values ≡ []
        → Pass r.id r.values r.reading → Pass r.id (r.values ++ values) r.reading
    more_pass r values same e h =
        let own = ap (arg_by_id c) ((bytes_eq-Decides r.id a.id).0 same) ∙ first in
        let fits : (values_fault a r.values ≡ []) × (r.reading ≡ reading_by a) = rw own at h in
        pass r.id (r.values ++ values) r.reading own (values_more _ _ r.values values fits.0 e) fits.1

    with_values_pass : (s : ValueSource) (values : List Text) (rows : List Row) → values_fault a values ≡ []
        → AllPass rows → AllPass (with_values a.id (reading_by a) s values rows)
    with_values_pass s values rows e h =
        at_row_keeps _ a.id (more_values s values) _ rows (λ r same p. (more_pass r values same e p, tt))
        (pass a.id values (reading_by a) first e refl, tt) h

    with_count_pass : (s : ValueSource) (n : ℕ) (rows : List Row) → values_fault a (count_text n ∷ []) ≡ []
        → AllPass rows → AllPass (with_count a.id (reading_by a) s n rows)
    with_count_pass s n rows e h =
        at_row_keeps _ a.id (new_count s n) _ rows (λ r same p. (more_pass r (count_text n ∷ []) same e p, tt))
        (pass a.id (count_text n ∷ []) (reading_by a) first e refl, tt) h

    without_pass : (rows : List Row) → AllPass rows → AllPass (without a.id rows)
    without_pass rows h = at_row_keeps _ a.id (λ _. []) [] rows (λ r same p. tt) tt h

    counted_pass : (again : Bool) (values : List Text) (rows : List Row)
        → action_fault action.Count again a values rows ≡ [] → AllPass rows
        → AllPass (counted a.id (reading_by a) values rows)
    counted_pass again [] rows e h =
        with_count_pass CommandLine (min (count_of a.id rows + 1) 255) (without a.id rows)
        (ap (λ (k : Kinds). or_else k []) e) (without_pass rows h)
    counted_pass again (v ∷ vs) rows e h = with_values_pass CommandLine (v ∷ vs) _ e (without_pass rows h)

    used_as_pass : (x : ArgAction) (again : Bool) (values : List Text) (rows : List Row)
        → action_fault x again a values rows ≡ [] → AllPass rows → AllPass (used_as x a.id (reading_by a) values rows)
    used_as_pass action.Set again values rows e h =
        with_values_pass CommandLine values _ (second_empty (repeat_fault again a.id rows) _ e) (without_pass rows h)
    used_as_pass action.SetTrue again values rows e h =
        with_values_pass CommandLine values _ (second_empty (repeat_fault again a.id rows) _ e) (without_pass rows h)
    used_as_pass action.SetFalse again values rows e h =
        with_values_pass CommandLine values _ (second_empty (repeat_fault again a.id rows) _ e) (without_pass rows h)
    used_as_pass action.Append again values rows e h = with_values_pass CommandLine values rows e h
    used_as_pass action.Count again values rows e h = counted_pass again values rows e h
    used_as_pass action.Help again values rows e h = h
    used_as_pass action.HelpShort again values rows e h = h
    used_as_pass action.HelpLong again values rows e h = h
    used_as_pass action.Version again values rows e h = h

    pub used_pass : (again : Bool) (values : List Text) (rows : List Row) → use_fault again a values rows ≡ []
        → AllPass rows → AllPass (used a values rows)
    used_pass again values rows e h =
        used_as_pass (action_of a) again (values_or_missing a values) rows (second_empty _ _ e) h

    pub with_default_pass : (rows : List Row) → default_fault rows a ≡ [] → AllPass rows → AllPass (with_default rows a)
    with_default_pass rows e h = go (has_row a.id rows) a.defaults e
      where
        go : (b : Bool) (vs : List Text)
            → cond (b || is_empty vs) [] (or_else (request_kinds (action_of a)) (values_fault a vs)) ≡ []
            → AllPass (cond b rows (default_rows a.id (reading_by a) vs rows))
        go true vs f = h
        go false [] f = h
        go false (v ∷ vs) f =
            let full : is_empty (v ∷ vs) ≡ false = ne_eqb (length (v ∷ vs)) 0 (λ none. omega arith) in
            with_values_pass DefaultValue (v ∷ vs) rows
            (second_empty (request_kinds (action_of a)) (values_fault a (v ∷ vs)) (rw full at f)) h
