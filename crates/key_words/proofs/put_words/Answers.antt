use Rattle.key_words.proofs.Laws as law
use Rattle.key_words.proofs.put_words.Goals as goal

pub returns : goal.returns
returns c =
    law.six_words _ _ _ _ _ _ _ _ c.put_word.ensures c.put_word-2.ensures c.put_word-3.ensures c.put_word-4.ensures c.put_word-5.ensures c.put_word-6.ensures
