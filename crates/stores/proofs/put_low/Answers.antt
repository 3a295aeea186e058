-- `stores::put_low` meets its contract: the low bytes of a word, lowest first, are loaded.
use Rattle.stores.proofs.Filling.{low_loaded}
use Rattle.stores.proofs.put_low.Goals as goal

pub returns : goal.returns
returns c = rw (c.copy.ensures, c.to_le_bytes.ensures) (low_loaded _ _ _ _ c.requires)
