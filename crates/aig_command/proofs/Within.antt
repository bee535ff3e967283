-- Where `clap` finds nothing wrong with the arguments, the numbers that are read of them are within their limits.
use Rattle.std.proofs.Common.{◌≡◌, ◌∙◌, ◌&&◌, ◌∷◌, ◌<◌, ◌≤◌, ◌==◌, ◌^◌, rules, ℕ, Bool, Option, Some, None, Result}
use Rattle.std.proofs.Common.{List, [], ap, cond, false, length, refl, sym, true, true≢false, option_map, IfSome, arith}
use Rattle.std.proofs.Common.{drop, codes, nat_lt, not, option_and_then, unwrap_or, pos, slice_get, Bor, find, bytes_eq}
use Rattle.std.proofs.Common.{is_some, lt-ltb, ltb-true, ne_eqb}
use Rattle.std.specs.Prelude.{⊤}
use Rattle.std.specs.List.{list_all, AllByRecursion}
use Rattle.std.specs.Option.{option_map_or}
use Rattle.std.specs.Char.{digit_value}
use Rattle.std.specs.Str.Parse.{AllDigits, ExplainsUnsignedError, HasUnsignedDigitsIfOk, ParsesBool, ParsesUnsigned}
use Rattle.std.specs.Str.Parse.{digits_value, without_leading_plus}
use Rattle.std.specs.declared.num.ParseIntError.{ParseIntError}
use Rattle.std.proofs.lemmas.Slice.Eq.{bytes_eq-Decides}
use Rattle.clap.specs.Words.{ReadsOne, Text, first_value, found_of, rows_of, Kinds, Row, Rule, one_of, subcommand_of}
use Rattle.clap.specs.Words.{without_minus}
use Rattle.clap.specs.declared.parser.matches.ArgMatches.{ArgMatches}
use Rattle.clap.proofs.WalkLemmas.{first_value-rows}
use Rattle.clap.specs.Facts.{parser_of_value}
use Rattle.clap.specs.Faults.{entered_fault, level_fault, values_fault, walk_fault}
use Rattle.clap.specs.Kinds.{value_kinds}
use Rattle.clap.specs.Simple.{App, Shape, built, entered, label_of, names_of, rows_at}
use Rattle.clap.specs.Values.{read_as, refused_kind}
use Rattle.clap.specs.ValueTests.{accepts}
use Rattle.clap.specs.Walk.{answers_to, arg_by_id, nothing_held, reading_by, row_text, rows_after, walk_from}
use Rattle.clap.specs.declared.builder.value_parser.Reading.{Reading}
use Rattle.clap.specs.declared.builder.value_parser.ValueParser.{ValueParser}
use Rattle.clap.specs.declared.builder.value_parser.ValueParser.TheVariants as parser
use Rattle.clap.proofs.CallerReads.{signed_reads}
use Rattle.clap.proofs.ValueTestLemmas.{accepts-Accepts}
use Rattle.aig_command.specs.Asked.{file, number_in, Asked, AsksWithinLimits, asked_by, command_of}
use Rattle.aig_command.specs.Asked.{faults, frames, limit, number, refused}
use Rattle.aig_command.specs.Asked.{aiginfo, aigmiter, aigselect, aigtodot, aigunroll, asked_reaching, asks}
use Rattle.aig_command.specs.Asked.{comparison, conversion, counting, drawing, is_given, selection}
use Rattle.aig_command.specs.Asked.{options_refusal, proving}
use Rattle.aig_command.specs.Asked.{reaching, simulation, source_refusal, sync_refusal, to_aig, unless_packed, unrolling}
use Rattle.aig_command.specs.Aiger.{aiger, largest_index, max_var, most_frames, frames as frames_rule}
use Rattle.aig_command.specs.declared.request.Command.TheVariants as commands
use Rattle.aig_command.specs.declared.request.SolverFile.{SolverFile}
use Rattle.aig_command.specs.declared.request.SolverFile.TheVariants as files
use Rattle.aig_command.specs.declared.usage.Usage.{Usage}
use Rattle.aig_command.proofs.Entered.{found_has, is_none, second_empty, stop_at, AllPass, IsFirst, first_empty}
use Rattle.aig_command.proofs.Walked.{level_pass}

-- ---- options

unequal : (xs ys : Text) → (xs ≡ ys → ⊥) → bytes_eq xs ys ≡ false
unequal xs ys differ = search (rules, bytes_eq-Decides)

read_flag : (E : Type 0) (text : Text) (r : Option Bool) → ReadsOne {E = E} ParsesBool text r
    → unwrap_or r false ≡ bytes_eq text (codes "true")
read_flag E text (Some true) h = sym ((bytes_eq-Decides text (codes "true")).1 h)
read_flag E text (Some false) h = rw h refl
read_flag E text None h = sym (unequal text (codes "true") h.1.0)

-- the option that is read as a `bool`, and is not given where there is none
pub flag_is : (E : Type 0) (o : Option Text) (r : Option Bool) → (o ≡ None → r ≡ None)
    → ((t : Text) → o ≡ Some t → ReadsOne {E = E} ParsesBool t r)
    → unwrap_or r false ≡ option_map_or (λ t. bytes_eq t (codes "true")) o false
flag_is E None r none value = ap (λ x. unwrap_or x false) (none refl)
flag_is E (Some t) r none value = read_flag E t r (value t refl)

-- ---- numbers

both : (a b : Bool) → (a && b) ≡ true → (a ≡ true) × (b ≡ true)
both true b e = (refl, e)
both false b e = absurd (true≢false (sym e))

digits_pass : (ds : List ℕ) → AllDigits 10 ds → list_all (λ d. nat_lt (digit_value d) 10) ds ≡ true
digits_pass [] h = refl
digits_pass (d ∷ ds) h = rw (lt-ltb (digit_value d) 10 h.0) (digits_pass ds h.1)

digits_from : (ds : List ℕ) → list_all (λ d. nat_lt (digit_value d) 10) ds ≡ true → AllDigits 10 ds
digits_from [] e = tt
digits_from (d ∷ ds) e =
    let parts = both _ _ e in
    (ltb-true _ _ parts.0, digits_from ds parts.1)

abbrev pub is_number : List ℕ → Bool
is_number ds =
    nat_lt 0 (length ds) && list_all (λ d. nat_lt (digit_value d) 10) ds && nat_lt (digits_value 10 ds) (2 ^ 32)

abbrev pub gives : List ℕ → Result ℕ ParseIntError → Type 0
gives bs r = ParsesUnsigned 32 10 bs r × ExplainsUnsignedError 10 bs r × HasUnsignedDigitsIfOk bs r

pub read_number : (text : Text) (r : Option ℕ) → ReadsOne gives text r → r ≡ number_in text
read_number text (Some n) h = search (rules, lt-ltb, digits_pass)
read_number text None h = search (rules, both, ltb-true, digits_from)

-- the option that is read as a number, where there is one
pub number_read : (o : Option Text) (r : Option ℕ) → (o ≡ None → r ≡ None)
    → ((t : Text) → o ≡ Some t → ReadsOne gives t r) → r ≡ option_and_then number_in o
number_read None r none value = none refl
number_read (Some t) r none value = read_number t r (value t refl)

-- and is this one where there is none
pub number_is : (otherwise : ℕ) (o : Option Text) (r : Option ℕ) → (o ≡ None → r ≡ None)
    → ((t : Text) → o ≡ Some t → ReadsOne gives t r)
    → unwrap_or r otherwise ≡ unwrap_or (option_and_then number_in o) otherwise
number_is otherwise o r none value = ap (λ x. unwrap_or x otherwise) (number_read o r none value)

-- ---- files

-- the file by the first value of its place
abbrev from_first : Option Text → Option Text
from_first first = option_and_then (λ name. cond (bytes_eq name (codes "-")) None (Some name)) first

same_given : (o : Option (Bor Text)) → is_some o ≡ is_some (option_map (λ s. s.now) o)
same_given None = refl
same_given (Some s) = refl

module _ (m : ArgMatches) (place : Text) (o : Option (Bor Text))
    (is : option_map (λ s. s.now) o ≡ first_value (found_of m) place) where
  pub given : is_some o ≡ is_given place (rows_of (found_of m))
  given = same_given o ∙ ap is_some (is ∙ first_value-rows (found_of m) place)

  file_is : from_first (option_map (λ s. s.now) o) ≡ file place (rows_of (found_of m))
  file_is = ap from_first (is ∙ first_value-rows (found_of m) place)

  pub no_file : o ≡ None → None ≡ file place (rows_of (found_of m))
  no_file none = ap (λ o. from_first (option_map (λ s. s.now) o)) (sym none) ∙ file_is

  pub stream : (name : Bor Text) → o ≡ Some name → bytes_eq name.now (codes "-") ≡ true
      → None ≡ file place (rows_of (found_of m))
  stream name some same =
      let first : None ≡ from_first (Some name.now) = rw same refl in
      first ∙ (ap (λ o. from_first (option_map (λ s. s.now) o)) (sym some) ∙ file_is)

  pub named_file : (name : Bor Text) → o ≡ Some name → bytes_eq name.now (codes "-") ≡ false
      → Some name.now ≡ file place (rows_of (found_of m))
  named_file name some other =
      let first : Some name.now ≡ from_first (Some name.now) = rw other refl in
      first ∙ (ap (λ o. from_first (option_map (λ s. s.now) o)) (sym some) ∙ file_is)

  pub is_named : (name : Bor Text) → o ≡ Some name
      → not (bytes_eq name.now (codes "-")) ≡ is_some (file place (rows_of (found_of m)))
  is_named name some =
      unlike (bytes_eq name.now (codes "-")) name.now
      ∙ ap is_some (ap (λ o. from_first (option_map (λ s. s.now) o)) (sym some) ∙ file_is)
    where
      unlike : (same : Bool) (text : Text) → not same ≡ is_some (cond same None (Some text))
      unlike true text = refl
      unlike false text = refl

-- Where `clap` finds nothing wrong with the arguments, the numbers that they ask for are within their limits.

-- ---- a number that passes

number_reads : (text : Text) → ReadsOne {E = ⊤} (ParsesUnsigned 32 10) text (number_in text)
number_reads text = go (is_number digits) refl
  where
    digits : List ℕ
    digits = without_leading_plus text

    go : (b : Bool) → is_number digits ≡ b
        → ReadsOne {E = ⊤} (ParsesUnsigned 32 10) text (cond b (Some (digits_value 10 digits)) None)
    go true e =
        let parts = both _ _ e in
        let numeral = both _ _ parts.0 in
        (((ltb-true _ _ numeral.0, digits_from digits numeral.1), ltb-true _ _ parts.1), refl)
    go false e =
        (tt, λ p. true≢false (sym (rw (lt-ltb _ _ p.0.0, digits_pass digits p.0.1, lt-ltb _ _ p.1) refl) ∙ e))

passes : (i : Bool) (p : ValueParser) (text : Text) → value_kinds i p text ≡ [] → accepts i p text ≡ true
passes i p text e = go (accepts i p text) e
  where
    go : (b : Bool) → cond b [] (refused_kind p ∷ []) ≡ [] → b ≡ true
    go true f = refl
    go false f = absurd (true≢false (sym (ap is_none f)))

module _ (low high otherwise : ℕ) (small : high < 2 ^ 32) (least : low ≤ otherwise) (most : otherwise ≤ high) where
  abbrev IsIn : ℕ → Type 0
  IsIn n = (low ≤ n) × (n ≤ high)

  text_is_in : (i : Bool) (text : Text) → value_kinds i (parser.Signed (pos low) (pos high)) text ≡ []
      → IfSome (number_in (without_minus text)) IsIn
  text_is_in i text e =
      let passed = passes i (parser.Signed (pos low) (pos high)) text e in
      let is = signed_reads ⊤ (ParsesUnsigned 32 10) 32 low high text (number_in (without_minus text))
      (number_reads (without_minus text)) (λ u x h. h) small
      (accepts-Accepts i (parser.Signed (pos low) (pos high)) text passed) in
      rw is.1 (is.2, is.3)

  module _ (c : List Rule) (name : Text) (a : Rule) (is : arg_by_id c name ≡ Some a)
      (p : parser_of_value a.parser ≡ parser.Signed (pos low) (pos high)) where
    row_is_in : (values : List Text) (how : Reading) → values_fault a values ≡ [] → how ≡ reading_by a
        → IfSome (option_and_then number_in (option_map (read_as how) (slice_get values 0))) IsIn
    row_is_in [] how e same = tt
    row_is_in (v ∷ vs) how e same =
        let kinds : value_kinds a.ignore_case (parser.Signed (pos low) (pos high)) v ≡ [] =
        rw p at (first_empty (value_kinds a.ignore_case (parser_of_value a.parser) v) _ e) in
        rw (same, p) (text_is_in a.ignore_case v kinds)

    rows_are_in : (rows : List Row) → AllPass c rows → IfSome (option_and_then number_in (one_of name rows)) IsIn
    rows_are_in [] h = tt
    rows_are_in (r ∷ rows) h = go (bytes_eq r.id name) refl (rows_are_in rows h.1)
      where
        go : (b : Bool) → bytes_eq r.id name ≡ b → IfSome (option_and_then number_in (one_of name rows)) IsIn
            → IfSome (option_and_then number_in
            (option_and_then row_text (cond b (Some r) (find (λ r. bytes_eq r.id name) rows)))) IsIn
        go true e later =
            let own = ap (arg_by_id c) ((bytes_eq-Decides r.id name).0 e) ∙ is in
            let fits : (values_fault a r.values ≡ []) × (r.reading ≡ reading_by a) = rw own at h.0 in
            row_is_in r.values r.reading fits.0 fits.1
        go false e later = later

    -- the number that the option sets, or else this one, is from low to high
    number_is_in : (rows : List Row) → AllPass c rows → IsIn (number name otherwise rows)
    number_is_in rows h = go (option_and_then number_in (one_of name rows)) (rows_are_in rows h)
      where
        go : (o : Option ℕ) → IfSome o IsIn → IsIn (unwrap_or o otherwise)
        go None e = (least, most)
        go (Some n) e = e

-- ---- each subcommand

unless_refused : (reason : Option Usage) (asked : Asked) → AsksWithinLimits asked
    → AsksWithinLimits (option_map_or refused reason asked)
unless_refused None asked h = h
unless_refused (Some reason) asked h = tt

unless_one_refused : (first second : Option Usage) (asked : Asked) → AsksWithinLimits asked
    → AsksWithinLimits (option_map_or refused first (option_map_or refused second asked))
unless_one_refused first second asked h =
    unless_refused first (option_map_or refused second asked) (unless_refused second asked h)

-- the values of the rows pass, as a record, from which the rules are known
record AreGood (c : List Rule) (rows : List Row) : Type 0 where
  all : AllPass c rows

-- where the values of its arguments pass, what it asks for is within limits
abbrev IsBounded : Shape → Type 0
IsBounded s = AllByRecursion (IsFirst s.rules) s.rules
    × ((rows : List Row) → AreGood s.rules rows → IfSome (asked_by (s.name, rows)) AsksWithinLimits)

limit_is_in : (c : List Rule) (a : Rule) → arg_by_id c max_var.id ≡ Some a
    → parser_of_value a.parser ≡ parser.Signed (pos 0) (pos largest_index)
    → (rows : List Row) → AreGood c rows → limit rows ≤ largest_index
limit_is_in c a is p rows h =
    let found = number_is_in 0 largest_index largest_index (omega arith) (omega arith) (omega arith) in
    (found c max_var.id a is p rows h.all).1

frames_are_in : (c : List Rule) (a : Rule) → arg_by_id c frames_rule.id ≡ Some a
    → parser_of_value a.parser ≡ parser.Signed (pos 1) (pos most_frames)
    → (rows : List Row) → AreGood c rows → (1 ≤ frames rows) × (frames rows ≤ most_frames)
frames_are_in c a is p rows h =
    number_is_in 1 most_frames 1 (omega arith) (omega arith) (omega arith) c frames_rule.id a is p rows h.all

aigunroll_is_in : (rows : List Row) → (1 ≤ frames rows) × (frames rows ≤ most_frames) → limit rows ≤ largest_index
    → AsksWithinLimits (aigunroll rows)
aigunroll_is_in rows few low =
    unless_one_refused (options_refusal rows) (sync_refusal rows) _
    (either (is_given (codes "invariant") rows) _ _
    (unless_refused _ (asks _ (commands.Invariant (proving rows))) low)
    (either (is_given (codes "answer") rows) _ _ (reach files.Answer)
    (either (is_given (codes "refutation") rows) _ _ (reach files.Refutation)
    (unless_refused _ (asks _ (commands.Unroll (unrolling rows (file (codes "destination") rows)))) counts))))
  where
    counts : (1 ≤ frames rows) × (frames rows ≤ most_frames) × (limit rows ≤ largest_index)
    counts = (few.0, few.1, low)

    reach : (wrote : SolverFile) → AsksWithinLimits (asked_reaching wrote rows)
    reach wrote = unless_refused _ (asks _ (commands.Reach (reaching wrote rows))) counts

    either : (b : Bool) (x y : Asked) → AsksWithinLimits x → AsksWithinLimits y → AsksWithinLimits (cond b x y)
    either true x y hx hy = hx
    either false x y hx hy = hy

to_aig_is_in : (rows : List Row) → limit rows ≤ largest_index → AsksWithinLimits (to_aig rows)
to_aig_is_in rows =
    unless_one_refused _ (sync_refusal rows)
    (asks _ (commands.ToAig (conversion rows (file (codes "destination") rows))))

aigmiter_is_in : (rows : List Row) → limit rows ≤ largest_index → AsksWithinLimits (aigmiter rows)
aigmiter_is_in rows =
    unless_one_refused _ (sync_refusal rows)
    (asks _ (commands.Miter (comparison rows (file (codes "destination") rows))))

aiginfo_is_in : (rows : List Row) → limit rows ≤ largest_index → AsksWithinLimits (aiginfo rows)
aiginfo_is_in rows = unless_one_refused _ (sync_refusal rows) (asks _ (commands.Info (counting rows)))

aigselect_is_in : (rows : List Row) → limit rows ≤ largest_index → AsksWithinLimits (aigselect rows)
aigselect_is_in rows =
    unless_one_refused _ (sync_refusal rows)
    (asks _ (commands.Select (selection rows (file (codes "destination") rows))))

aigtodot_is_in : (rows : List Row) → limit rows ≤ largest_index → AsksWithinLimits (aigtodot rows)
aigtodot_is_in rows = unless_one_refused _ (sync_refusal rows) (asks _ (commands.ToDot (drawing rows)))

subcommands_are_bounded : AllByRecursion IsBounded (built aiger).subs
subcommands_are_bounded = (
  (search rules, λ rows h. to_aig_is_in rows (limit_is_in _ _ refl refl rows h)),
  (
    (
      search rules,
      λ rows h. unless_refused _ (asks _ (commands.Sim (simulation rows))) (limit_is_in _ _ refl refl rows h),
    ),
    (
      (
        search rules,
        λ rows h. aigunroll_is_in rows (frames_are_in _ _ refl refl rows h) (limit_is_in _ _ refl refl rows h),
      ),
      (
        (search rules, λ rows h. aigmiter_is_in rows (limit_is_in _ _ refl refl rows h)),
        (
          (search rules, λ rows h. aiginfo_is_in rows (limit_is_in _ _ refl refl rows h)),
          (
            (search rules, λ rows h. aigselect_is_in rows (limit_is_in _ _ refl refl rows h)),
            (
              (search rules, λ rows h. aigtodot_is_in rows (limit_is_in _ _ refl refl rows h)),
              ((search rules, λ rows h. tt), tt),
            ),
          ),
        ),
      ),
    ),
  ),
)

-- ---- and all of them

entered_within : (stop : Option (Text × List Text)) → entered_fault (built aiger) stop ≡ []
    → IfSome (option_and_then asked_by (entered (built aiger) stop)) AsksWithinLimits
entered_within None e = tt
entered_within (Some p) e =
    go (find named (built aiger).subs) (found_has IsBounded named (built aiger).subs subcommands_are_bounded) e
  where
    named : Shape → Bool
    named s = answers_to p.0 (label_of s)

    go : (o : Option Shape) → IfSome o IsBounded
        → option_map_or (λ s. level_fault s [] nothing_held p.1 false []) o [] ≡ []
        → IfSome (option_and_then asked_by (option_map (λ s. rows_at s p.1) o)) AsksWithinLimits
    go None is f = tt
    go (Some s) is f = is.1 (rows_after s.rules [] p.1) (record { all = level_pass s is.0 [] p.1 false [] f })

-- what a command line that is taken asks for is within limits
pub within : (words : List Text) → faults words ≡ []
    → IfSome (option_and_then asked_by (subcommand_of aiger words)) AsksWithinLimits
within words e =
    let a : App = built aiger in
    let after : List Text = drop 1 words in
    let past = second_empty (walk_fault a.top (names_of a) (walk_from nothing_held) after) _ e in
    entered_within (stop_at words) (first_empty (entered_fault a (stop_at words)) _ past)

packed_within : (o : Option Asked) → IfSome o AsksWithinLimits → IfSome (option_map unless_packed o) AsksWithinLimits
packed_within None h = tt
packed_within (Some (asks files command)) h = unless_refused (source_refusal files) (asks files command) h
packed_within (Some (refused reason)) h = tt

pub command_within : (words : List Text) → IfSome (command_of words) AsksWithinLimits
command_within words = go (faults words) (within words)
  where
    go : (ks : Kinds) → (ks ≡ [] → IfSome (option_and_then asked_by (subcommand_of aiger words)) AsksWithinLimits)
        → IfSome (cond (length ks == 0)
        (option_map unless_packed (option_and_then asked_by (subcommand_of aiger words))) None) AsksWithinLimits
    go [] h = packed_within (option_and_then asked_by (subcommand_of aiger words)) (h refl)
    go (k ∷ ks) h =
        let some : (length (k ∷ ks) == 0) ≡ false = ne_eqb (length (k ∷ ks)) 0 (λ none. omega arith) in
        rw some tt
