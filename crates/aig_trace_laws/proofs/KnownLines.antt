-- A stimulus in which characters x became 0 or 1 says the same, with 0 or 1 in the place of x.
use Rattle.std.proofs.Common.{◌≡◌, ◌≢◌, ◌&&◌, ◌||◌, ◌==◌, ◌∷◌, if◌then◌else◌, ◌∙◌, ℕ, suc, List, [], Bool, true, false}
use Rattle.std.proofs.Common.{cond, length, filter, eqb, Option, Some, None, codes, nat_eq, option_map, option_and_then}
use Rattle.std.proofs.Common.{bytes_eq, refl, sym, ap, ap₂, subst, inl, inr, ne_eqb}
use Rattle.std.specs.List.{AllZip}
use Rattle.std.proofs.lemmas.Slice.Zip.{AllZip-long}
use Rattle.aig_circuit.specs.declared.value.Val.{Val}
use Rattle.aig_circuit.specs.declared.value.Val.TheVariants.{Zero, One, X}
use Rattle.aig_meaning.specs.Completion.{Stays}
use Rattle.aig_lines.specs.Lines.{Line, line, begun_by, lines_of}
use Rattle.aig_trace_laws.specs.Laws.{IsAsKnown}
use Rattle.aig_step.specs.Stimulus.{Entry, Step, Stop, Stimulus, before_rest, entry_in, entry_of, judged_lines}
use Rattle.aig_step.specs.Stimulus.{lines_say, runs_of, stimulus, text_of, value_of, values_of, with_step}
use Rattle.aig_step.specs.Stimulus.{without_return}

pub stays_itself : (v : Val) → Stays v v
stays_itself Zero = refl
stays_itself One = refl
stays_itself X = tt

-- a test for another character gives the same
same_test : (b d n : ℕ) → n ≢ 120 → n ≢ 48 → n ≢ 49 → IsAsKnown b d → eqb d n ≡ eqb b n
same_test b d n not_x not_zero not_one (inl e) = ap (λ (k : ℕ). eqb k n) e
same_test b d n not_x not_zero not_one (inr (x, inl z)) =
    ne_eqb d n (λ (e : d ≡ n). not_zero (sym e ∙ z)) ∙ sym (ne_eqb b n (λ (e : b ≡ n). not_x (sym e ∙ x)))
same_test b d n not_x not_zero not_one (inr (x, inr o)) =
    ne_eqb d n (λ (e : d ≡ n). not_one (sym e ∙ o)) ∙ sym (ne_eqb b n (λ (e : b ≡ n). not_x (sym e ∙ x)))

-- lines
record IsLineAsKnown (l m : Line) : Type 0 where
  ended : m.ended ≡ l.ended
  text : AllZip IsAsKnown l.text m.text

begun_known : (b d : ℕ) (ls ms : List Line) → IsAsKnown b d → AllZip IsLineAsKnown ls ms
    → AllZip IsLineAsKnown (begun_by b ls) (begun_by d ms)
begun_known b d [] [] k are = (record { ended = refl; text = (k, tt) }, tt)
begun_known b d [] (m ∷ ms) k are = absurd are
begun_known b d (l ∷ ls) [] k are = absurd are
begun_known b d (l ∷ ls) (m ∷ ms) k are = (record { ended = are.0.ended; text = (k, are.0.text) }, are.1)

cut_known : (test : Bool) (b d : ℕ) (ls ms : List Line) → IsAsKnown b d → AllZip IsLineAsKnown ls ms
    → AllZip IsLineAsKnown (if test then line [] true ∷ ls else begun_by b ls)
    (if test then line [] true ∷ ms else begun_by d ms)
cut_known true b d ls ms k are = (record { ended = refl; text = tt }, are)
cut_known false b d ls ms k are = begun_known b d ls ms k are

lines_known : (bs ds : List ℕ) → AllZip IsAsKnown bs ds → AllZip IsLineAsKnown (lines_of bs) (lines_of ds)
unfolding lines_of
lines_known [] [] are = tt
lines_known [] (d ∷ ds) are = absurd are
lines_known (b ∷ bs) [] are = absurd are
lines_known (b ∷ bs) (d ∷ ds) are =
    subst
    (λ (test : Bool). AllZip IsLineAsKnown (if b == 10 then line [] true ∷ lines_of bs else begun_by b (lines_of bs))
    (if test then line [] true ∷ lines_of ds else begun_by d (lines_of ds)))
    (sym (same_test b d 10 (λ e. cc) (λ e. cc) (λ e. cc) are.0))
    (cut_known (b == 10) b d (lines_of bs) (lines_of ds) are.0 (lines_known bs ds are.1))

kept_known : (test : Bool) (l m : Line) (ls ms : List Line) → IsLineAsKnown l m → AllZip IsLineAsKnown ls ms
    → AllZip IsLineAsKnown (cond test (l ∷ ls) ls) (cond test (m ∷ ms) ms)
kept_known true l m ls ms one others = (one, others)
kept_known false l m ls ms one others = others

judged_known : (ended : Bool) (ls ms : List Line) → AllZip IsLineAsKnown ls ms
    → AllZip IsLineAsKnown (filter (λ (l : Line). l.ended || ended) ls) (filter (λ (l : Line). l.ended || ended) ms)
judged_known ended [] [] are = tt
judged_known ended [] (m ∷ ms) are = absurd are
judged_known ended (l ∷ ls) [] are = absurd are
judged_known ended (l ∷ ls) (m ∷ ms) are =
    let front = filter (λ (k : Line). k.ended || ended) ls in
    let known = filter (λ (k : Line). k.ended || ended) ms in
    subst (λ (e : Bool). AllZip IsLineAsKnown (cond (l.ended || ended) (l ∷ front) front)
    (cond (e || ended) (m ∷ known) known)) (sym are.0.ended)
    (kept_known (l.ended || ended) l m front known are.0 (judged_known ended ls ms are.1))

-- their text
dropped_known : (test : Bool) (b d : ℕ) (ts us : List ℕ) → IsAsKnown b d → AllZip IsAsKnown ts us
    → AllZip IsAsKnown (if test then [] else b ∷ ts) (if test then [] else d ∷ us)
dropped_known true b d ts us one others = tt
dropped_known false b d ts us one others = (one, others)

returns_known : (ts us : List ℕ) → AllZip IsAsKnown ts us → AllZip IsAsKnown (without_return ts) (without_return us)
returns_known [] [] are = tt
returns_known [] (d ∷ ds) are = absurd are
returns_known (b ∷ bs) [] are = absurd are
returns_known (b ∷ bs) (d ∷ ds) are =
    let same : ((d == 13) && nat_eq (length ds) 0) ≡ ((b == 13) && nat_eq (length bs) 0) =
    ap₂ (λ (x y : Bool). x && y) (same_test b d 13 (λ e. cc) (λ e. cc) (λ e. cc) are.0)
    (ap (λ (n : ℕ). nat_eq n 0) (AllZip-long IsAsKnown bs ds are.1)) in
    subst
    (λ (test : Bool). AllZip IsAsKnown
    (if (b == 13) && nat_eq (length bs) 0 then [] else b ∷ without_return bs)
    (if test then [] else d ∷ without_return ds))
    (sym same)
    (dropped_known ((b == 13) && nat_eq (length bs) 0) b d (without_return bs) (without_return ds) are.0
    (returns_known bs ds are.1))

read_known : (test : Bool) (ts us : List ℕ) → AllZip IsAsKnown ts us
    → AllZip IsAsKnown (if test then without_return ts else ts) (if test then without_return us else us)
read_known true ts us are = returns_known ts us are
read_known false ts us are = are

text_known : (l m : Line) → IsLineAsKnown l m → AllZip IsAsKnown (text_of l) (text_of m)
text_known l m is =
    subst (λ (test : Bool). AllZip IsAsKnown (text_of l) (if test then without_return m.text else m.text))
    (sym is.ended)
    (read_known l.ended l.text m.text is.text)

-- what it says
abbrev AreBoth : {A : Type 0} → (A → A → Type 0) → Option A → Option A → Type 0
AreBoth R None None = Unit {0}
AreBoth R None (Some y) = ⊥
AreBoth R (Some x) None = ⊥
AreBoth R (Some x) (Some y) = R x y

same_value : (o : Option Val) → AreBoth Stays o o
same_value None = tt
same_value (Some v) = stays_itself v

value_known : (b d : ℕ) → IsAsKnown b d → AreBoth Stays (value_of b) (value_of d)
value_known b d (inl e) = subst (λ (k : ℕ). AreBoth Stays (value_of b) (value_of k)) (sym e) (same_value (value_of b))
value_known b d (inr (x, inl z)) =
    subst (λ (k : ℕ). AreBoth Stays (value_of k) (value_of d)) (sym x)
    (subst (λ (k : ℕ). AreBoth Stays (value_of 120) (value_of k)) (sym z) tt)
value_known b d (inr (x, inr o)) =
    subst (λ (k : ℕ). AreBoth Stays (value_of k) (value_of d)) (sym x)
    (subst (λ (k : ℕ). AreBoth Stays (value_of 120) (value_of k)) (sym o) tt)

first_known : (o p : Option Val) (os ps : Option (List Val)) → AreBoth Stays o p → AreBoth (AllZip Stays) os ps
    → AreBoth (AllZip Stays) (option_and_then (λ v. option_map (λ vs. v ∷ vs) os) o)
    (option_and_then (λ v. option_map (λ vs. v ∷ vs) ps) p)
first_known None None os ps one others = tt
first_known None (Some w) os ps one others = absurd one
first_known (Some v) None os ps one others = absurd one
first_known (Some v) (Some w) None None one others = tt
first_known (Some v) (Some w) None (Some ws) one others = absurd others
first_known (Some v) (Some w) (Some vs) None one others = absurd others
first_known (Some v) (Some w) (Some vs) (Some ws) one others = (one, others)

values_known : (ts us : List ℕ) → AllZip IsAsKnown ts us → AreBoth (AllZip Stays) (values_of ts) (values_of us)
values_known [] [] are = tt
values_known [] (d ∷ ds) are = absurd are
values_known (b ∷ bs) [] are = absurd are
values_known (b ∷ bs) (d ∷ ds) are =
    first_known (value_of b) (value_of d) (values_of bs) (values_of ds) (value_known b d are.0)
    (values_known bs ds are.1)

abbrev IsEntryAsKnown : Entry → Entry → Type 0
IsEntryAsKnown (Step given) (Step known) = AllZip Stays given known
IsEntryAsKnown (Step given) Stop = ⊥
IsEntryAsKnown Stop (Step known) = ⊥
IsEntryAsKnown Stop Stop = Unit {0}

dot_known : (b d : ℕ) → IsAsKnown b d → eqb d 46 ≡ eqb b 46
dot_known b d one = same_test b d 46 (λ e. cc) (λ e. cc) (λ e. cc) one

end_known : (ts us : List ℕ) → AllZip IsAsKnown ts us → bytes_eq us [] ≡ bytes_eq ts []
end_known [] [] are = refl
end_known [] (d ∷ ds) are = absurd are
end_known (b ∷ bs) [] are = absurd are
end_known (b ∷ bs) (d ∷ ds) are = refl

stop_known : (ts us : List ℕ) → AllZip IsAsKnown ts us → bytes_eq us (codes ".") ≡ bytes_eq ts (codes ".")
stop_known [] [] are = refl
stop_known [] (d ∷ ds) are = absurd are
stop_known (b ∷ bs) [] are = absurd are
stop_known (b ∷ bs) (d ∷ ds) are =
    ap₂ (λ (x y : Bool). x && y) (dot_known b d are.0) (end_known bs ds are.1)

said_known : (stop long : Bool) (os ps : Option (List Val)) → AreBoth (AllZip Stays) os ps
    → AreBoth IsEntryAsKnown (if stop then Some Stop else if long then option_map Step os else None)
    (if stop then Some Stop else if long then option_map Step ps else None)
said_known true long os ps are = tt
said_known false true None None are = tt
said_known false true None (Some ws) are = absurd are
said_known false true (Some vs) None are = absurd are
said_known false true (Some vs) (Some ws) are = are
said_known false false os ps are = tt

entry_known : (inputs : ℕ) (ts us : List ℕ) → AllZip IsAsKnown ts us
    → AreBoth IsEntryAsKnown (entry_in inputs ts) (entry_in inputs us)
entry_known inputs ts us are =
    subst (λ (stop : Bool). AreBoth IsEntryAsKnown (entry_in inputs ts)
    (if stop then Some Stop else if length us == inputs then option_map Step (values_of us) else None))
    (sym (stop_known ts us are))
    (subst (λ (n : ℕ). AreBoth IsEntryAsKnown (entry_in inputs ts)
    (if bytes_eq ts (codes ".") then Some Stop else if n == inputs then option_map Step (values_of us) else None))
    (sym (AllZip-long IsAsKnown ts us are))
    (said_known (bytes_eq ts (codes ".")) (length ts == inputs) (values_of ts) (values_of us) (values_known ts us are)))

pub record IsSaidAsKnown (s r : Stimulus) : Type 0 where
  pub bad : r.bad ≡ s.bad
  pub entries : AllZip IsEntryAsKnown s.entries r.entries

line_known : (number : ℕ) (o p : Option Entry) (s r : Stimulus) → AreBoth IsEntryAsKnown o p → IsSaidAsKnown s r
    → IsSaidAsKnown (before_rest number o s) (before_rest number p r)
line_known number None None s r one others = record { bad = refl; entries = tt }
line_known number None (Some f) s r one others = absurd one
line_known number (Some e) None s r one others = absurd one
line_known number (Some e) (Some f) s r one others = record { bad = others.bad; entries = (one, others.entries) }

say_known : (inputs number : ℕ) (ls ms : List Line) → AllZip IsLineAsKnown ls ms
    → IsSaidAsKnown (lines_say inputs number ls) (lines_say inputs number ms)
say_known inputs number [] [] are = record { bad = refl; entries = tt }
say_known inputs number [] (m ∷ ms) are = absurd are
say_known inputs number (l ∷ ls) [] are = absurd are
say_known inputs number (l ∷ ls) (m ∷ ms) are =
    line_known number (entry_of inputs l) (entry_of inputs m) (lines_say inputs (suc number) ls)
    (lines_say inputs (suc number) ms) (entry_known inputs (text_of l) (text_of m) (text_known l m are.0))
    (say_known inputs (suc number) ls ms are.1)

pub stimulus_known : (inputs : ℕ) (bytes known : List ℕ) (ended : Bool) → AllZip IsAsKnown bytes known
    → IsSaidAsKnown (stimulus inputs bytes ended) (stimulus inputs known ended)
stimulus_known inputs bytes known ended are =
    say_known inputs 1 (judged_lines bytes ended) (judged_lines known ended)
    (judged_known ended (lines_of bytes) (lines_of known) (lines_known bytes known are))

-- the runs
pub record AreRunsAsKnown (ended : List (List (List Val))) (unended : List (List Val))
    (known_ended : List (List (List Val))) (known_unended : List (List Val)) : Type 0 where
  pub each : AllZip (AllZip (AllZip Stays)) ended known_ended
  pub last : AllZip (AllZip Stays) unended known_unended

step_known : (given known : List Val) (runs known_runs : List (List (List Val)))
    (unended known_unended : List (List Val))
    → AllZip Stays given known → AreRunsAsKnown runs unended known_runs known_unended
    → let whole = with_step given runs unended in let known_whole = with_step known known_runs known_unended in
    AreRunsAsKnown whole.ended whole.unended known_whole.ended known_whole.unended
step_known given known [] [] unended known_unended one others = record { each = tt; last = (one, others.last) }
step_known given known [] (run ∷ runs) unended known_unended one others = absurd others.each
step_known given known (run ∷ runs) [] unended known_unended one others = absurd others.each
step_known given known (run ∷ runs) (known_run ∷ known_runs) unended known_unended one others =
    record { each = ((one, others.each.0), others.each.1); last = others.last }

pub runs_known : (es fs : List Entry) → AllZip IsEntryAsKnown es fs
    → AreRunsAsKnown (runs_of es).ended (runs_of es).unended (runs_of fs).ended (runs_of fs).unended
runs_known [] [] are = record { each = tt; last = tt }
runs_known [] (f ∷ fs) are = absurd are
runs_known (e ∷ es) [] are = absurd are
runs_known (Step given ∷ es) (Step known ∷ fs) are =
    step_known given known (runs_of es).ended (runs_of fs).ended (runs_of es).unended (runs_of fs).unended are.0
    (runs_known es fs are.1)
runs_known (Step given ∷ es) (Stop ∷ fs) are = absurd are.0
runs_known (Stop ∷ es) (Step known ∷ fs) are = absurd are.0
runs_known (Stop ∷ es) (Stop ∷ fs) are =
    let later = runs_known es fs are.1 in record { each = (tt, later.each); last = later.last }
