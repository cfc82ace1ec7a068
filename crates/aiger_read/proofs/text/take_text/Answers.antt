use Rattle.aiger_read.proofs.Listings.{outputs_inside, lines_inside}
use Rattle.aiger_read.proofs.text.take_text.Goals as goal

pub refuse_unknown_outputs-requires-clause-inside : goal.refuse_unknown_outputs-requires-clause-inside
refuse_unknown_outputs-requires-clause-inside c =
    rw c.as_slice.ensures (outputs_inside c.in_ok-header.header.variables c.in_ok-header.header.outputs c.in_ok-rest.rest.now (c.in_ok-outputs.outputs, c.in_ok-outputs.rest.now) c.in_ok-outputs.ensures)

pub refuse_unknown_operands-requires-clause-inside : goal.refuse_unknown_operands-requires-clause-inside
refuse_unknown_operands-requires-clause-inside c =
    rw c.as_slice-2.ensures (lines_inside c.in_ok-header.header.variables c.in_ok-header.header.ands c.take_inputs.new.definitions.literals c.in_ok-outputs.rest.now (c.in_ok-lines.lines, c.in_ok-lines.rest.now) c.in_ok-lines.ensures.is)
