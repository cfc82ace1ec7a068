use Rattle.std.proofs.Common.{ap, length, arith}
use Rattle.bind_sites.specs.View.{view_operand}
use Rattle.verilog_bind.specs.Numbered.{sites_in}
use Rattle.verilog_bind.proofs.Parts.{used_known, number_is, not_known, number_within, wire_small, wire_inside, part_is}
use Rattle.verilog_bind.proofs.wires.Wires.part.Goals as goal

pub unreachable-requires : goal.unreachable-requires
unreachable-requires c =
    used_known (sites_in c.args.self.now) (view_operand c.args.operand) c.requires.sound c.requires.used (not_known c.args.self.now c.args.operand.name.now c.find.result c.requires.wires c.find.ensures c.in_default.is)

pub bounds-as_slice-number : goal.bounds-as_slice-number
bounds-as_slice-number c =
    let is = number_is c.args.self.now c.args.operand.name.now c.find.result c.in-Some.number c.requires.wires c.find.ensures c.in-Some.is in
    omega (arith, number_within (sites_in c.args.self.now) c.args.self.now.list c.args.operand.name.now c.in-Some.number is, ap length c.as_slice.ensures)

pub bounds-as_slice-number-in-Some : goal.bounds-as_slice-number-in-Some
bounds-as_slice-number-in-Some c =
    let is = number_is c.args.self.now c.args.operand.name.now c.find.result c.in-Some.number c.requires.wires c.find.ensures c.in-Some.is in
    omega (arith, number_within (sites_in c.args.self.now) c.args.self.now.list c.args.operand.name.now c.in-Some.number is, ap length c.as_slice.ensures)

pub offset_bounds-as_slice-number : goal.offset_bounds-as_slice-number
offset_bounds-as_slice-number c =
    let is = number_is c.args.self.now c.args.operand.name.now c.find.result c.in-Some.number c.requires.wires c.find.ensures c.in-Some.is in
    omega (arith, number_within (sites_in c.args.self.now) c.args.self.now.list c.args.operand.name.now c.in-Some.number is, c.requires.wires.count)

pub bits_of-bit-requires-clause-small : goal.bits_of-bit-requires-clause-small
bits_of-bit-requires-clause-small c =
    let is = number_is c.args.self.now c.args.operand.name.now c.find.result c.in-Some.number c.requires.wires c.find.ensures c.in-Some.is in
    wire_small (sites_in c.args.self.now) c.args.self.now.list c.as_slice.result.now c.args.operand.name.now c.in-Some.number c.index-as_slice-number.result c.requires.sound is c.as_slice.ensures

pub bits_of-bit-requires-clause-inside : goal.bits_of-bit-requires-clause-inside
bits_of-bit-requires-clause-inside c =
    let is = number_is c.args.self.now c.args.operand.name.now c.find.result c.in-Some.number c.requires.wires c.find.ensures c.in-Some.is in
    wire_inside (sites_in c.args.self.now) c.args.self.now.list c.as_slice.result.now (view_operand c.args.operand) c.in-Some.number c.index-as_slice-number.result c.requires.sound c.requires.used is c.as_slice.ensures

pub overflow_cast-result : goal.overflow_cast-result
overflow_cast-result c =
    let is = number_is c.args.self.now c.args.operand.name.now c.find.result c.in-Some.number c.requires.wires c.find.ensures c.in-Some.is in
    omega (arith, number_within (sites_in c.args.self.now) c.args.self.now.list c.args.operand.name.now c.in-Some.number is, c.requires.wires.count)

pub returns : goal.returns
returns c =
    let is = number_is c.args.self.now c.args.operand.name.now c.find.result c.in-Some.number c.requires.wires c.find.ensures c.in-Some.is in
    part_is (sites_in c.args.self.now) c.args.self.now.list c.as_slice.result.now (view_operand c.args.operand) c.in-Some.number c.bits_of-bit.result.0 c.bits_of-bit.result.1 c.index-as_slice-number.result is c.as_slice.ensures
    c.bits_of-bit.ensures
