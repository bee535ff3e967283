use Rattle.aig_lasso.proofs.Characters.{more_said, none_said}
use Rattle.aig_lasso.proofs.held.are_characters.Goals as goal

pub returns-then-not-is_character : goal.returns-then-not-is_character
returns-then-not-is_character c =
    none_said c.args.text.now c.loop-character.character-index c.is_character.result c.loop-character-test.true
    c.is_character.ensures c.if-not-is_character.true

pub loop-character-preserved : goal.loop-character-preserved
loop-character-preserved c =
    more_said c.args.text.now c.loop-character.character-index c.is_character.result c.loop-character-test.true
    c.is_character.ensures c.if-not-is_character.false c.loop-character.invariant
