use Rattle.std.proofs.Common.{arith, ◌<◌, length, refl}
use Rattle.verilog_tree.proofs.Numbers.{digit_step}
use Rattle.verilog_tree.proofs.lexeme.number.Goals as goal

pub overflow_mul-value : goal.overflow_mul-value
overflow_mul-value c =
    let lt : c.loop-byte.byte-index < length c.args.digits.now = omega arith in
    let step = digit_step c.args.digits.now c.loop-byte.byte-index c.loop-byte.value _ c.requires.digits c.requires.small lt c.loop-byte.invariant refl in
    omega arith

pub overflow_add-value : goal.overflow_add-value
overflow_add-value c =
    let lt : c.loop-byte.byte-index < length c.args.digits.now = omega arith in
    let step = digit_step c.args.digits.now c.loop-byte.byte-index c.loop-byte.value c.from.result c.requires.digits c.requires.small lt c.loop-byte.invariant (omega arith) in
    omega arith

pub loop-byte-preserved : goal.loop-byte-preserved
loop-byte-preserved c =
    let lt : c.loop-byte.byte-index < length c.args.digits.now = omega arith in
    let step = digit_step c.args.digits.now c.loop-byte.byte-index c.loop-byte.value c.from.result c.requires.digits c.requires.small lt c.loop-byte.invariant (omega arith) in
    step.0
