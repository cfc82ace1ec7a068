use Rattle.std.proofs.Common.{inr}
use Rattle.signoff.proofs.Settled.{accepted_exact, rejected_exact, refused_exact, refusal_stands, long_stands, report_stands, headline_stands, sound_stands}
use Rattle.signoff.proofs.run.sign_off_run.Goals as goal

pub returns-clause-answer : goal.returns-clause-answer
returns-clause-answer g c = inr (c.in-Ok.reply.status, c.in-Ok.reply.text.items, c.in-Ok.ensures.due, c.deliver.ensures.delivers)

pub returns-clause-accepted : goal.returns-clause-accepted
returns-clause-accepted g c = accepted_exact _ _ _ _ (returns-clause-answer g c)

pub returns-clause-rejected : goal.returns-clause-rejected
returns-clause-rejected g c = rejected_exact _ _ _ _ (returns-clause-answer g c)

pub returns-clause-long : goal.returns-clause-long
returns-clause-long g c = long_stands _ _ _ _ (returns-clause-answer g c)

pub returns-clause-report : goal.returns-clause-report
returns-clause-report g c = report_stands _ _ _ _ (returns-clause-answer g c)

pub returns-clause-headline : goal.returns-clause-headline
returns-clause-headline g c = headline_stands _ _ _ _ (returns-clause-answer g c)

pub returns-clause-sound : goal.returns-clause-sound
returns-clause-sound g c = sound_stands _ _ _ _ (returns-clause-answer g c)

pub returns-clause-refused : goal.returns-clause-refused
returns-clause-refused g c = refused_exact _ _ _ _ (returns-clause-answer g c)

pub returns-clause-refusal : goal.returns-clause-refusal
returns-clause-refusal g c = refusal_stands _ _ _ _ (returns-clause-answer g c)
