use Rattle.session_words.proofs.FirstWords.{as_deep}
use Rattle.session_words.proofs.laws.phrases_stand_as_deep_as_their_words.Goals as goal

pub returns : goal.returns
returns c = as_deep
