-- What is said of a run, and what follows from that.
use Rattle.std.proofs.Common.{ℕ, List, [], refl}
use Rattle.aig_io.specs.Devices.{History}
use Rattle.aig_io.specs.Runs.{Delivery, Ending, NotSent, Open, Read, Sent, Transferred}
use Rattle.aig_io.proofs.Took.{took_none}

-- nothing came
pub read_none : (P : List ℕ → Ending → Type 0) (source : History) → P [] Open → Read P source source
read_none P source says = record { bytes = []; ending = Open; says = says; came = took_none source }

-- no device was called
pub transferred_none : (P : List ℕ → Ending → List ℕ → Delivery → Type 0) (source sink : History) → P [] Open [] NotSent
    → Transferred P source source sink sink
transferred_none P source sink says =
    read_none (λ bytes ending. Sent (P bytes ending) sink sink) source
    (record { text = []; delivery = NotSent; says = says; sent = refl })

pub read_weaker : (P Q : List ℕ → Ending → Type 0) (source source_now : History)
    → ((bytes : List ℕ) (ending : Ending) → P bytes ending → Q bytes ending) → Read P source source_now
    → Read Q source source_now
read_weaker P Q source source_now weaker r = record {
  bytes = r.bytes;
  ending = r.ending;
  says = weaker r.bytes r.ending r.says;
  came = r.came;
}

pub transferred_weaker : (P Q : List ℕ → Ending → List ℕ → Delivery
    → Type 0) (source source_now sink sink_now : History)
    → ((bytes : List ℕ) (ending : Ending) (text : List ℕ) (delivery : Delivery)
    → P bytes ending text delivery → Q bytes ending text delivery)
    → Transferred P source source_now sink sink_now → Transferred Q source source_now sink sink_now
transferred_weaker P Q source source_now sink sink_now weaker =
    read_weaker (λ bytes ending. Sent (P bytes ending) sink sink_now)
    (λ bytes ending. Sent (Q bytes ending) sink sink_now) source source_now (λ bytes ending s. record {
      text = s.text;
      delivery = s.delivery;
      says = weaker bytes ending s.text s.delivery s.says;
      sent = s.sent;
    })
