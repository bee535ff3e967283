use Rattle.aig_io.proofs.Puts.{put_twice}
use Rattle.aig_info.specs.InfoText.{info_text}
use Rattle.aig_info.proofs.writer.put_info.Goals as goal

pub returns : goal.returns
unfolding info_text
returns g c =
    put_twice _ _ _ _ _ c.put_head.ensures
    (put_twice _ _ _ _ _ c.put_sizes.ensures
    (put_twice _ _ _ _ _ c.put_others.ensures
    (put_twice _ _ _ _ _ c.put_use.ensures c.put_end.ensures)))
