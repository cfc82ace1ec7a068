use Rattle.graph_rings.proofs.Firsts.{marked_below, marked_leads, first_is, none_is}
use Rattle.graph_rings.proofs.ring.first_ring.Goals as goal

pub ring_through-requires-clause-node : goal.ring_through-requires-clause-node
ring_through-requires-clause-node c = marked_below c.args.graph.now c.args.start c.args.survey.now.reached.items c.args.survey.now.on_ring.items c.deref.result.now c.args.survey.now.order.items c.requires.survey c.deref.ensures.value c.in-Some.node c.in-Some.ensures.marked

pub ring_through-requires-clause-on_ring : goal.ring_through-requires-clause-on_ring
ring_through-requires-clause-on_ring c = marked_leads c.args.graph.now c.args.start c.args.survey.now.reached.items c.args.survey.now.on_ring.items c.deref.result.now c.args.survey.now.order.items c.requires.survey c.deref.ensures.value c.in-Some.node c.in-Some.ensures.marked

pub returns-in_ok-ring-in-Some-clause-ring : goal.returns-in_ok-ring-in-Some-clause-ring
returns-in_ok-ring-in-Some-clause-ring c = first_is c.args.graph.now c.args.start c.args.survey.now.reached.items c.args.survey.now.on_ring.items c.deref.result.now c.args.survey.now.order.items c.requires.survey c.deref.ensures.value c.in-Some.node c.in_ok-ring-in-Some.ring.items c.in-Some.ensures.marked c.in-Some.ensures.first c.in_ok-ring-in-Some.ensures

pub returns-in-None-clause-none : goal.returns-in-None-clause-none
returns-in-None-clause-none c = none_is c.args.graph.now c.args.start c.args.survey.now.reached.items c.args.survey.now.on_ring.items c.deref.result.now c.args.survey.now.order.items c.requires.survey c.deref.ensures.value c.in-None.ensures.none
