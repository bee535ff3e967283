-- Lines that are the pieces of a text: which texts have them, and how they are cut in two.
use Rattle.std.proofs.Common.{◌≡◌, ◌≢◌, ◌∷◌, ◌++◌, ◌∙◌, ◌⊎◌, rules, ℕ, List, [], Bool, true, false, refl, sym, ap}
use Rattle.std.proofs.Common.{append_assoc, append-nil, inl, inr, ne_eqb}
use Rattle.std.specs.List.{AllByRecursion}
use Rattle.std.proofs.lemmas.List.Concat.{flat_map-append}
use Rattle.aig_lines.specs.Lines.{Line, line, line_bytes, begun_by, lines_of, bytes_of, AreEnded, HasNoLineFeed}
use Rattle.aig_lines.specs.Laws.{IsOneLine, EndInLineFeeds}
use Rattle.aig_lines.proofs.Cutting.{pieces}

-- where something follows, each line before it has its line feed
abbrev EndBefore : List Line → List ℕ → Type 0
EndBefore ls following = (following ≡ []) ⊎ AreEnded ls

-- up to its first line feed a text is one line
pub ended_piece : (text rest : List ℕ) → HasNoLineFeed text
    → lines_of (text ++ 10 ∷ rest) ≡ line text true ∷ lines_of rest
unfolding lines_of
ended_piece [] rest h = refl
ended_piece (b ∷ bs) rest h = rw (ne_eqb b 10 h.0, ended_piece bs rest h.1) refl

-- and where it has none
pub last_piece : (b : ℕ) (bs : List ℕ) → HasNoLineFeed (b ∷ bs) → lines_of (b ∷ bs) ≡ line (b ∷ bs) false ∷ []
unfolding lines_of
last_piece b [] h = rw (ne_eqb b 10 h.0) refl
last_piece b (c ∷ bs) h = rw (ne_eqb b 10 h.0) (ap (begun_by b) (last_piece c bs h.1))

last_line : (text : List ℕ) (ended : Bool) → HasNoLineFeed text → (ended ≡ false → text ≢ [])
    → lines_of (bytes_of (line text ended ∷ [])) ≡ line text ended ∷ []
unfolding lines_of
last_line text true h some = ap lines_of (append-nil (text ++ 10 ∷ [])) ∙ ended_piece text [] h
last_line [] false h some = absurd (some refl refl)
last_line (b ∷ bs) false h some = ap lines_of (append-nil ((b ∷ bs) ++ []) ∙ append-nil (b ∷ bs)) ∙ last_piece b bs h

-- lines, joined, are cut into them again
pub lines_again : (ls : List Line) → AllByRecursion IsOneLine ls → EndInLineFeeds ls → lines_of (bytes_of ls) ≡ ls
unfolding lines_of
lines_again [] one ended = refl
lines_again (l ∷ []) one ended = last_line l.text l.ended one.0 ended
lines_again (l ∷ m ∷ ls) one ended = search (rules, lines_again (m ∷ ls) one.1 ended.1, append_assoc, ended_piece)

-- the pieces of a text, cut in two
pub first_ended : (front rest : List Line) → EndInLineFeeds (front ++ rest) → EndInLineFeeds front
first_ended [] rest e = tt
first_ended (l ∷ []) [] e = e
first_ended (l ∷ []) (m ∷ rest) e = λ f. let t : l.ended ≡ true = e.0 in cc
first_ended (l ∷ m ∷ front) rest e = (e.0, first_ended (m ∷ front) rest e.1)

all_ended : (front : List Line) (l : Line) (rest : List Line) → EndInLineFeeds (front ++ l ∷ rest) → AreEnded front
all_ended [] l rest e = tt
all_ended (k ∷ []) l rest e = (e.0, tt)
all_ended (k ∷ m ∷ front) l rest e = (e.0, all_ended (m ∷ front) l rest e.1)

pub ended_before : (front rest : List Line) → EndInLineFeeds (front ++ rest) → EndBefore front (bytes_of rest)
ended_before front [] e = inl refl
ended_before front (l ∷ rest) e = inr (all_ended front l rest e)

-- the text of the lines in front, and of those after
pub bytes_joined : (front rest : List Line) → bytes_of (front ++ rest) ≡ bytes_of front ++ bytes_of rest
bytes_joined front rest = flat_map-append line_bytes front rest

lines_and : (ls : List Line) (following : List ℕ) → AllByRecursion IsOneLine ls → AreEnded ls
    → lines_of (bytes_of ls ++ following) ≡ ls ++ lines_of following
lines_and [] following one ended = refl
lines_and (l ∷ ls) following one ended =
    search (rules, append_assoc, lines_and ls following one.1 ended.1, ended_piece)

nothing_behind : (front : List ℕ) → lines_of (front ++ []) ≡ lines_of front ++ lines_of []
unfolding lines_of
nothing_behind front = ap lines_of (append-nil front) ∙ sym (append-nil (lines_of front))

-- a text whose lines end before what follows
pub lines_joined : (front following : List ℕ) → EndBefore (lines_of front) following
    → lines_of (front ++ following) ≡ lines_of front ++ lines_of following
lines_joined front following (inl none) = search (rules, nothing_behind)
lines_joined front following (inr ended) =
    ap (λ (t : List ℕ). lines_of (t ++ following)) (sym (pieces front).joined)
    ∙ lines_and (lines_of front) following (pieces front).one_each ended
