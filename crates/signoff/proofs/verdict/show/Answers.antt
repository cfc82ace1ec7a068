use Rattle.signoff.proofs.Shown.{strobe_offset, shown}
use Rattle.signoff.proofs.verdict.show.Goals as goal

pub window_text-requires-clause-offset : goal.window_text-requires-clause-offset
window_text-requires-clause-offset c = strobe_offset c.args.flat.now c.args.bench.now _ _ c.requires.bench c.in-Some.ensures.2

pub returns : goal.returns
returns c = shown _ c.args.pin _ c.args.number _ c.in-Some.ensures.0 _ _ c.requires.first c.in-Some.ensures.1 c.in-Some.ensures.2 c.in_ok-window_text.ensures
