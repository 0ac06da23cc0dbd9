-- `merge` meets its contract. Assumes nothing.
use Rattle.exchange.proofs.Exchange.{merged_split}
use Rattle.exchange.proofs.merge.merge.Goals as goal

pub returns : goal.returns
returns c = merged_split _ _ _ _ _ _ c.requires.words_len.2 c.requires.words_len.3 c.requires.clean.0 _ c.requires.clean.1 c.exchange_all.ensures _ c.add_check.ensures
