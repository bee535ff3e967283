use Rattle.std.proofs.Common.{sym}
use Rattle.aig_io.proofs.Puts.{put_twice}
use Rattle.aig_convert.proofs.MappedText.{text_is}
use Rattle.aig_convert.proofs.mapped.MappedImage.put.Goals as goal

pub returns : goal.returns
returns g c =
    let m = c.self.inside in
    rw (← text_is c.args.self.now m.plain m.block m.comment (sym c.self.view_is) c.self.invariant)
    (put_twice _ _ _ _ _ c.put_binary.ensures
    (rw (← c.self.view_is) (put_twice _ _ _ _ _ c.put.ensures.put c.put_map_comment.ensures)))
