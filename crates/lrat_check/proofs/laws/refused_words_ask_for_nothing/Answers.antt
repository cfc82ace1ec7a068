use Rattle.lrat_check.proofs.CommandLaw.{refused_exactly}
use Rattle.lrat_check.proofs.laws.refused_words_ask_for_nothing.Goals as goal

pub returns : goal.returns
returns c = record { refused = refused_exactly c.args.words.now }
