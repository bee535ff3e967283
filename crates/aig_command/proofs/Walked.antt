-- Where `clap` finds nothing wrong on its walk over the words, each value that it holds passes its argument's parser.
use Rattle.std.proofs.Common.{◌≡◌, ◌&&◌, ◌∷◌, ℕ, Bool, Option, Some, None, List, [], IfSome, cond, drop, false, is_some}
use Rattle.std.proofs.Common.{length, refl, true, zero, suc, encode_utf8, slice_get, fold, find, bytes_eq, chars}
use Rattle.std.specs.List.{AllByRecursion}
use Rattle.std.specs.Option.{option_map_or}
use Rattle.clap.specs.Lexer.{long_of, short_of}
use Rattle.clap.specs.Words.{Kinds, Row, Rule, Shape, Text}
use Rattle.clap.specs.Kinds.{or_else}
use Rattle.clap.specs.Faults.{bundle_fault, bundle_step_fault, default_fault, defaults_fault, flag_word_fault}
use Rattle.clap.specs.Faults.{flags_fault, level_fault, long_fault, option_fault, other_fault, positional_fault}
use Rattle.clap.specs.Faults.{react_fault, settle_fault, short_fault, step_fault, stray_fault, turn_fault, use_fault}
use Rattle.clap.specs.Faults.{walk_fault, word_fault}
use Rattle.clap.specs.Walk.{Held, Names, Outcome, Step, Waiting, Walk, after_flag, after_step, arg_by_id, arg_by_index}
use Rattle.clap.specs.Walk.{arg_by_long, arg_by_short, attached_value, bundle_met, bundle_step, done, flag_met, idle}
use Rattle.clap.specs.Walk.{is_pending, long_met, long_or_other, next, nothing_held, option, option_met, option_word}
use Rattle.clap.specs.Walk.{plain, plain_word, positional, reacted, refused, rows_after, settled, settled_rows}
use Rattle.clap.specs.Walk.{short_met, short_or_plain, subcommand, subcommand_met, subcommand_or_other, takes_several}
use Rattle.clap.specs.Walk.{takes_values, to_positional, trailing, used_by_id, value, waits, walk, walk_from, walked}
use Rattle.clap.specs.Walk.{walked_from, with_default, word_met}
use Rattle.clap.specs.declared.error.kind.ErrorKind.TheVariants as kind
use Rattle.aig_command.proofs.Entered.{found_has, second_empty, AllPass, IsFirst, first_empty, used_pass}
use Rattle.aig_command.proofs.Entered.{with_default_pass}

-- ---- words that change no row

same_option : (o : Option Rule) (id word : Text) (h : Held) → (option_word o id word h).0.rows ≡ h.rows
same_option None id word h = refl
same_option (Some a) id word h = refl

same_plain : (c : List Rule) (waiting : Waiting) (word : Text) (h : Held)
    → (plain_word c waiting word h).0.rows ≡ h.rows
same_plain c idle word h = refl
same_plain c (option id) word h = same_option (arg_by_id c id) id word h
same_plain c positional word h = refl

same_after : (c : List Rule) (waiting : Waiting) (word : Text) (h : Held) (o : Outcome)
    → (after_flag c waiting word h o).0.rows ≡ h.rows
same_after c waiting word h done = refl
same_after c waiting word h (waits id) = refl
same_after c waiting word h plain = same_plain c waiting word h
same_after c waiting word h refused = same_plain c waiting word h

module _ (s : Shape) (first : AllByRecursion (IsFirst s.rules) s.rules) where
  abbrev c : List Rule
  c = s.rules

  abbrev again : Bool
  again = s.args_override_self

  abbrev Good : Held → Type 0
  Good h = AllPass s.rules h.rows

  abbrev IsOne : Option Rule → Type 0
  IsOne o = IfSome o (IsFirst s.rules)

  one : (p : Rule → Bool) → IsOne (find p s.rules)
  one p = found_has (IsFirst s.rules) p s.rules first

  -- ---- what is pending

  by_rule : (o : Option Rule) → IsOne o → (values : List Text) (rows : List Row)
      → option_map_or (λ a. use_fault again a values rows) o [] ≡ [] → AllPass c rows
      → AllPass c (used_by_id o values rows)
  by_rule None is values rows e h = h
  by_rule (Some a) is values rows e h = used_pass c a is again values rows e h

  by_pending : (o : Option (Text × List Text)) (rows : List Row)
      → option_map_or (λ p. option_map_or (λ a. use_fault again a p.1 rows) (arg_by_id c p.0) []) o [] ≡ []
      → AllPass c rows → AllPass c (settled_rows c o rows)
  by_pending None rows e h = h
  by_pending (Some p) rows e h = by_rule (arg_by_id c p.0) (one _) p.1 rows e h

  settle_pass : (h : Held) → settle_fault c again h ≡ [] → Good h → Good (settled c h)
  settle_pass h e g = by_pending h.pending h.rows e g

  react_pass : (a : Rule) → IsFirst c a → (values : List Text) (h : Held) → react_fault c again a values h ≡ [] → Good h
      → Good (reacted c a values h)
  react_pass a is values h e g =
      used_pass c a is again values (settled c h).rows (second_empty (settle_fault c again h) _ e)
      (settle_pass h (first_empty (settle_fault c again h) _ e) g)

  -- ---- flags and options

  option_pass : (a : Rule) → IsFirst c a → (v : Option Text) (h : Held) → option_fault c again a v h ≡ [] → Good h
      → Good (option_met c a v h).0
  option_pass a is (Some v) h e g = react_pass a is (v ∷ []) h e g
  option_pass a is None h e g = settle_pass h e g

  flag_pass : (a : Rule) → IsFirst c a → (v : Option Text) (h : Held)
      → cond (is_some v) (kind.TooManyValues ∷ []) (react_fault c again a [] h) ≡ [] → Good h
      → Good (flag_met c a v h).0
  flag_pass a is (Some v) h e g = g
  flag_pass a is None h e g = react_pass a is [] h e g

  long_pass : (o : Option Rule) → IsOne o → (v : Option Text) (h : Held) → long_fault c again o v h ≡ [] → Good h
      → Good (long_met c o v h).0
  long_pass None is v h e g = g
  long_pass (Some a) is v h e g = go (takes_values a) e
    where
      go : (b : Bool)
          → cond b (option_fault c again a v h)
          (cond (is_some v) (kind.TooManyValues ∷ []) (react_fault c again a [] h)) ≡ []
          → Good (cond b (option_met c a v h) (flag_met c a v h)).0
      go true f = option_pass a is v h f g
      go false f = flag_pass a is v h f g

  -- what follows in a bundle keeps the rows good
  abbrev Goes : (Held → Kinds) → (Held → Held × Outcome) → Type 0
  Goes fault met = (h : Held) → fault h ≡ [] → Good h → Good (met h).0

  short_pass : (o : Option Rule) → IsOne o → (rest : Text) (h : Held) (fault : Held → Kinds)
      (met : Held → Held × Outcome) → Goes fault met → short_fault c again o rest h fault ≡ []
      → Good h → Good (short_met c o rest h met).0
  short_pass None is rest h fault met goes e g = g
  short_pass (Some a) is rest h fault met goes e g = go (takes_values a) e
    where
      go : (b : Bool)
          → cond b (option_fault c again a (attached_value rest) h)
          (or_else (react_fault c again a [] h) (fault (reacted c a [] h))) ≡ []
          → Good (cond b (option_met c a (attached_value rest) h) (met (reacted c a [] h))).0
      go true f = option_pass a is (attached_value rest) h f g
      go false f =
          goes (reacted c a [] h) (second_empty (react_fault c again a [] h) _ f)
          (react_pass a is [] h (first_empty (react_fault c again a [] h) _ f) g)

  bundle_step_pass : (o : Option ℕ) (flags : Text) (skip : ℕ) (so_far : Outcome) (h : Held)
      (fault : Text → ℕ → Held → Kinds) (met : Text → ℕ → Outcome → Held → Held × Outcome)
      → ((rest : Text) (n : ℕ) (o : Outcome) → Goes (fault rest n) (met rest n o))
      → bundle_step_fault c again o flags skip h fault ≡ [] → Good h → Good (bundle_step c o flags skip so_far h met).0
  bundle_step_pass None flags skip so_far h fault met goes e g = g
  bundle_step_pass (Some x) flags zero so_far h fault met goes e g =
      let rest = drop (length (encode_utf8 x)) flags in
      short_pass (arg_by_short c x) (one _) rest h (fault rest 0) (met rest 0 done) (goes rest 0 done) e g
  bundle_step_pass (Some x) flags (suc skip) so_far h fault met goes e g =
      goes (drop (length (encode_utf8 x)) flags) skip so_far h e g

  bundle_pass : (k : ℕ) (flags : Text) (skip : ℕ) (so_far : Outcome)
      → Goes (flags_fault c again k flags skip) (bundle_met c k flags skip so_far)
  unfolding flags_fault bundle_met
  bundle_pass zero flags skip so_far h e g = g
  bundle_pass (suc k) flags skip so_far h e g =
      bundle_step_pass (slice_get (chars flags) 0) flags skip so_far h (flags_fault c again k) (bundle_met c k)
      (bundle_pass k) e g

  -- ---- words

  short_word_pass : (flags : Option Text) (waiting : Waiting) (word : Text) (h : Held)
      → option_map_or (λ flags. bundle_fault c again flags h) flags [] ≡ [] → Good h
      → Good (short_or_plain c waiting word flags h).0
  short_word_pass None waiting word h e g = rw (same_plain c waiting word h) g
  short_word_pass (Some flags) waiting word h e g =
      let met = bundle_met c (length flags) flags h.skip plain (record h { skip = 0 }) in
      rw (same_after c waiting word met.0 met.1)
      (bundle_pass (length flags) flags h.skip plain (record h { skip = 0 }) e g)

  flag_word_pass : (long : Option (Text × Option Text)) (waiting : Waiting) (word : Text) (h : Held)
      → flag_word_fault c again long word h ≡ [] → Good h → Good (long_or_other c waiting word long h).0
  flag_word_pass (Some p) waiting word h e g =
      let met = long_met c (arg_by_long c p.0) p.1 h in
      rw (same_after c waiting word met.0 met.1) (long_pass (arg_by_long c p.0) (one _) p.1 h e g)
  flag_word_pass None waiting word h e g = short_word_pass (short_of word) waiting word h e g

  other_pass : (met : Option Text) (waiting : Waiting) (position : ℕ) (word : Text) (h : Held)
      → other_fault s met word h ≡ [] → Good h → Good (subcommand_or_other c met waiting position word h).0
  other_pass (Some name) waiting position word h e g = g
  other_pass None waiting position word h e g = go (bytes_eq word (45 ∷ 45 ∷ [])) e
    where
      go : (b : Bool) → cond b [] (flag_word_fault c again (long_of word) word h) ≡ []
          → Good (cond b (h, trailing position) (long_or_other c waiting word (long_of word) h)).0
      go true f = g
      go false f = flag_word_pass (long_of word) waiting word h f g

  word_pass : (names : Names) (is_trailing : Bool) (waiting : Waiting) (position : ℕ) (word : Text) (h : Held)
      → word_fault s names is_trailing waiting word h ≡ [] → Good h
      → Good (word_met c names is_trailing waiting position word h).0
  word_pass names true waiting position word h e g = g
  word_pass names false waiting position word h e g =
      other_pass (subcommand_met names waiting word) waiting position word h e g

  positional_pass : (o : Option Rule) (word : Text) (w : Walk) (h : Held)
      → option_map_or (λ a. positional_fault c again a h) o (stray_fault s) ≡ [] → Good h
      → Good (to_positional c o word w h).held
  positional_pass None word w h e g = g
  positional_pass (Some a) word w h e g = go (is_pending a h.pending && takes_several a) e
    where
      go : (b : Bool) → cond b [] (settle_fault c again h) ≡ [] → Good (cond b h (settled c h))
      go true f = g
      go false f = settle_pass h f g

  step_pass : (step : Step) (word : Text) (w : Walk) (h : Held) → step_fault s w.position h step ≡ [] → Good h
      → Good (after_step c word w h step).held
  step_pass (next waiting) word w h e g = g
  step_pass (trailing position) word w h e g = g
  step_pass (subcommand name) word w h e g = g
  step_pass value word w h e g = positional_pass (arg_by_index c w.position) word w h e g

  turn_pass : (names : Names) (w : Walk) (word : Text) → turn_fault s names w word ≡ [] → Good w.held
      → Good (walked c names w word).held
  unfolding walked
  turn_pass names w word e g = go w.stopped e
    where
      met : Held × Step
      met = word_met c names w.is_trailing w.waiting w.position word w.held

      go : (o : Option (Text × List Text))
          → cond (is_some o) []
          (or_else (word_fault s names w.is_trailing w.waiting word w.held) (step_fault s w.position met.0 met.1)) ≡ []
          → Good (walked_from c names o w word).held
      go (Some p) f = g
      go None f =
          let fault = word_fault s names w.is_trailing w.waiting word w.held in
          step_pass met.1 word w met.0 (second_empty fault _ f)
          (word_pass names w.is_trailing w.waiting w.position word w.held (first_empty fault _ f) g)

  walk_pass : (names : Names) (words : List Text) (w : Walk) → walk_fault s names w words ≡ [] → Good w.held
      → Good (fold (walked c names) w words).held
  unfolding walk_fault
  walk_pass names [] w e g = g
  walk_pass names (word ∷ words) w e g =
      walk_pass names words (walked c names w word) (second_empty (turn_fault s names w word) _ e)
      (turn_pass names w word (first_empty (turn_fault s names w word) _ e) g)

  -- ---- and after them

  defaults_pass : (rules : List Rule) → AllByRecursion (IsFirst c) rules → (rows : List Row)
      → defaults_fault rows rules ≡ [] → AllPass c rows → AllPass c (fold with_default rows rules)
  unfolding defaults_fault
  defaults_pass [] is rows e h = h
  defaults_pass (a ∷ rules) is rows e h =
      defaults_pass rules is.1 (with_default rows a) (second_empty (default_fault rows a) _ e)
      (with_default_pass c a is.0 rows (first_empty (default_fault rows a) _ e) h)

  -- each value of a level in which nothing is wrong passes its argument's parser
  pub level_pass : (names : Names) (words : List Text) (has : Bool) (below : Kinds)
      → level_fault s names nothing_held words has below ≡ [] → AllPass c (rows_after c names words)
  level_pass names words has below e =
      let end = (walk c names nothing_held words).held in
      let walk_kinds = walk_fault s names (walk_from nothing_held) words in
      let past_walk = second_empty walk_kinds _ e in
      let past_below = second_empty below _ past_walk in
      let past_settled = second_empty (settle_fault c again end) _ past_below in
      let walked_rows = walk_pass names words (walk_from nothing_held) (first_empty walk_kinds _ e) tt in
      let rows = settle_pass end (first_empty (settle_fault c again end) _ past_below) walked_rows in
      defaults_pass c first (settled c end).rows
      (first_empty (defaults_fault (settled c end).rows c) _ past_settled) rows
