-- `saved_write::put_words` meets its contract: the part is replaced whole. Assumes nothing.
use Rattle.saved_write.proofs.Forming.{words_put}
use Rattle.saved_write.proofs.put_words.Goals as goal

pub returns : goal.returns
returns c =
    words_put c.args.from.now _ _ _ c.requires c.write_words.ensures
