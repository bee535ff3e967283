-- Texts that a taker takes one after another, and what an output comes to.
use Rattle.std.proofs.Common.{◌≡◌, ◌++◌, ◌∙◌, ℕ, List, [], Bool, false, ap, append-nil, append_assoc, refl, subst, sym}
use Rattle.std.specs.Borrow.{MutBor}
use Rattle.aig_io.specs.Devices.{History}
use Rattle.aig_io.specs.Output.{Appended, Out}
use Rattle.aig_io.specs.Runs.{All, Beginning, Delivery, Ending, NotSent, Open, Sent, Transferred}
use Rattle.aig_io.proofs.Puts.{all_sent, beginning_sent, put_nothing, put_twice}
use Rattle.aig_io.proofs.Runs.{read_none, read_weaker}
use Rattle.aig_io.proofs.Took.{took_none}
use Rattle.aig_trace.specs.Taken.{Ran, Taken, Tells, Took, TookLent, meant}

module _ {T : Type 0} {H : T → T → List ℕ → Type 0} where
  pub took_twice : (a b c : T) (s t : List ℕ) → Took H a b s → Took H b c t → Took H a c (s ++ t)
  took_twice a b c s t p q = record {
    more = λ from front has.
        subst (H from c) (append_assoc front s t) (q.more from (front ++ s) (p.more from front has));
  }

  pub took_nothing : (a : T) → Took H a a []
  took_nothing a = record { more = λ from front has. subst (H from a) (sym (append-nil front)) has }

  pub took_on : (a b c : T) (s : List ℕ) → Took H a b s → Took H b c [] → Took H a c s
  took_on a b c s p q = subst (Took H a c) (append-nil s) (took_twice a b c s [] p q)

  -- what a lent taker takes is taken after what it had taken
  pub lent_more : (a b : MutBor T) (text : List ℕ) → b.ghost_name ≡ a.ghost_name → Took H a.now b.now text
      → Took (TookLent H) a b text
  lent_more a b text same took = record {
    more = λ from front has.
        record { same = same ∙ has.same; took = took_twice from.now a.now b.now front text has.took took };
  }

  pub lent_took : (a b : MutBor T) (text : List ℕ) → Took (TookLent H) a b text → TookLent H a b text
  lent_took a b text took = took.more a [] (record { same = refl; took = took_nothing a.now })

  -- a lent taker is the same, and took what the lender took
  pub same_lent : (Says : List ℕ → Ending → List ℕ → Delivery → Type 0) (source source_now : History) (a b : MutBor T)
      (failed : Bool) → Ran (TookLent H) Says source source_now a b failed → b.ghost_name ≡ a.ghost_name
  same_lent Says source source_now a b failed ran = (lent_took a b _ ran.says.took).same

  pub ran_lent : (failed : T → Bool) (Says : List ℕ → Ending → List ℕ → Delivery → Type 0)
      (source source_now : History) (a b r : MutBor T) (old new : T) → a.now ≡ old → r ≡ b → new ≡ r.now
      → Ran (TookLent H) Says source source_now a b (failed b.now)
      → Ran H Says source source_now old new (failed new)
  ran_lent failed Says source source_now a b r old new before given back ran =
      rw (← before, back, given)
      (read_weaker (λ bytes ending. Taken (TookLent H) (Says bytes ending) a b (failed b.now))
      (λ bytes ending. Taken H (Says bytes ending) a.now b.now (failed b.now)) source source_now
      (λ bytes ending t. record {
        text = t.text;
        delivery = t.delivery;
        says = t.says;
        took = (lent_took a b _ t.took).took;
        tells = t.tells;
      }) ran)

  -- nothing came
  pub ran_none : (Says : List ℕ → Ending → List ℕ → Delivery → Type 0) (source : History) (a : T) (failed : Bool)
      → Says [] Open [] NotSent → failed ≡ false → Ran H Says source source a a failed
  ran_none Says source a failed says fine =
      read_none (λ bytes ending. Taken H (Says bytes ending) a a failed) source
      (record { text = []; delivery = NotSent; says = says; took = took_nothing a; tells = fine })

-- what an output takes is put after what was put before
pub appended_more : {W : Type 0} (a b : Out W) (text : List ℕ) → Appended a b text → Took Appended a b text
appended_more a b text put = record { more = λ from front has. put_twice from a b front text has put }

-- An output took a text, and this holds of it however much its sink took at a failure.
module _ {W : Type 0} (Says : List ℕ → Ending → List ℕ → Delivery → Type 0)
    (cut : (bytes : List ℕ) (ending : Ending) (text : List ℕ) (n m : ℕ) → Says bytes ending text (Beginning n)
    → Says bytes ending text (Beginning m)) (o b : Out W) (unheld : o.held ≡ []) (fine : o.failed ≡ false)
    (empty : b.held ≡ []) where
  sent_by : (bytes : List ℕ) (ending : Ending) (text : List ℕ) (delivery : Delivery) → Says bytes ending text delivery
      → Appended o b (meant text delivery) → Tells b.failed delivery → Sent (Says bytes ending) o.history b.history
  sent_by bytes ending text NotSent says put well = record {
    text = text;
    delivery = NotSent;
    says = says;
    sent = all_sent o o b b [] refl unheld put (put_nothing b) empty well ∙ sym (took_none o.history);
  }
  sent_by bytes ending text All says put well = record {
    text = text;
    delivery = All;
    says = says;
    sent = all_sent o o b b text refl unheld put (put_nothing b) empty well;
  }
  sent_by bytes ending text (Beginning n) says put broke =
      let part = beginning_sent o o b b text refl unheld fine put (put_nothing b) broke in
      record {
        text = text;
        delivery = Beginning part.count;
        says = cut bytes ending text n part.count says;
        sent = part.history;
      }

  as_ran : (source source_now : History) → Ran Appended Says source source_now o b b.failed
      → Transferred Says source source_now o.history b.history
  as_ran source source_now =
      read_weaker (λ bytes ending. Taken Appended (Says bytes ending) o b b.failed)
      (λ bytes ending. Sent (Says bytes ending) o.history b.history) source source_now
      (λ bytes ending t.
      sent_by bytes ending t.text t.delivery t.says (t.took.more o [] (put_nothing o)) t.tells)

-- it goes to the same sink
pub same_sink : {W : Type 0} (Says : List ℕ → Ending → List ℕ → Delivery → Type 0) (o b : Out W) (failed : Bool)
    (source source_now : History) → Ran Appended Says source source_now o b failed → b.name ≡ o.name
same_sink Says o b failed source source_now ran = (ran.says.took.more o [] (put_nothing o)).same

-- an output was made, and took a text
pub transferred_as_ran : {W : Type 0} (Says : List ℕ → Ending → List ℕ → Delivery → Type 0)
    (cut : (bytes : List ℕ) (ending : Ending) (text : List ℕ) (n m : ℕ) → Says bytes ending text (Beginning n)
    → Says bytes ending text (Beginning m)) (new o b : Out W) (source source_now sink_now : History) → o ≡ new
    → new.held ≡ [] → new.failed ≡ false → b.held ≡ [] → sink_now ≡ b.history
    → Ran Appended Says source source_now o b b.failed → Transferred Says source source_now new.history sink_now
transferred_as_ran {W} Says cut new o b source source_now sink_now made unheld fine empty now ran =
    rw now
    (subst (λ (x : Out W). Transferred Says source source_now x.history b.history) made
    (as_ran Says cut o b (ap (λ (x : Out W). x.held) made ∙ unheld) (ap (λ (x : Out W). x.failed) made ∙ fine) empty
    source source_now ran))
