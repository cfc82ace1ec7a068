use Rattle.std.proofs.Common.{rules, inr}
use Rattle.lrat_check.proofs.CommandLaw.{same_where}
use Rattle.lrat_check.proofs.Settled.{the_reply, accepted_exact, fault_cause, refuted_by}
use Rattle.lrat_check.proofs.run.lrat_run.Goals as goal

pub returns-clause-answer : goal.returns-clause-answer
returns-clause-answer g c = inr (c.in-Ok.reply.status, c.in-Ok.reply.text.items, c.in-Ok.ensures.due, c.deliver.ensures.delivers)

pub returns-clause-reply : goal.returns-clause-reply
returns-clause-reply g c = the_reply _ _ _ _ (returns-clause-answer g c)

pub returns-clause-accepted : goal.returns-clause-accepted
returns-clause-accepted g c = accepted_exact _ _ _ _ (returns-clause-answer g c)

pub returns-clause-refutes : goal.returns-clause-refutes
returns-clause-refutes g c = refuted_by c.readings_are_sound.ensures c.denials_are_sound.ensures _ _ _ _ (returns-clause-answer g c)

pub returns-clause-words : goal.returns-clause-words
returns-clause-words g c = search rules

pub returns-clause-command : goal.returns-clause-command
returns-clause-command g c = same_where (returns-clause-words g c) c.refused_words_ask_for_nothing.ensures.refused

pub returns-clause-fault : goal.returns-clause-fault
returns-clause-fault g c = fault_cause _ _ _ _ (returns-clause-answer g c)
