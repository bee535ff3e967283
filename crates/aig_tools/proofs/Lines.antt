-- A line that was put into an output and sent.
use Rattle.std.proofs.Common.{◌≡◌, ◌≢◌, List, [], ℕ, Bool, true, false, inl, inr}
use Rattle.std.proofs.Common.{refl}
use Rattle.aig_io.specs.Output.{Appended, Out}
use Rattle.aig_io.proofs.Puts.{all_sent, beginning_sent}
use Rattle.aig_command.specs.Words.{usage_words}
use Rattle.aig_command.specs.declared.usage.Usage.{Usage}
use Rattle.aig_command.specs.declared.usage.Usage.TheVariants as usages
use Rattle.aig_tools.specs.Lines.{IsReported, line_of, usage_text}

-- an output of a line was finished
pub reported_by : {W : Type 0} (o a b c : Out W) (line : List ℕ) (failed : Bool) → c.failed ≡ failed → a ≡ o
    → o.held ≡ [] → o.failed ≡ false → Appended a b line → Appended b c [] → c.held ≡ []
    → IsReported line o.history c.history
reported_by o a b c line true end same start whole put sent empty =
    inr (beginning_sent o a b c line same start whole put sent end)
reported_by o a b c line false end same start whole put sent empty =
    inl (all_sent o a b c line same start put sent empty end)

-- a refusal that is no text of `clap` is reported in a line of its words
pub line_of_usage : (usage : Usage) → ((text : _) → usage ≢ usages.Words text)
    → usage_text usage ≡ line_of [] (usage_words usage)
line_of_usage (usages.Words text) other = absurd (other text refl)
line_of_usage usage other = refl
