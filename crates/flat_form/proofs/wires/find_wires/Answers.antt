use Rattle.std.proofs.Common.{◌≡◌, ◌∙◌, refl, sym, true, false}
use Rattle.flat_form.proofs.PinByPin.{one_each}
use Rattle.flat_form.proofs.Loops.{no_ring_of}
use Rattle.flat_form.proofs.Timeable.{unread_clock}
use Rattle.flat_form.proofs.wires.find_wires.Goals as goal

pub returns-in_default-clause-none : goal.returns-in_default-clause-none
returns-in_default-clause-none c = λ form. c.in_default.ensures.none refl form.clock form.clock_is

pub returns-then-is_read-clause-none : goal.returns-then-is_read-clause-none
returns-then-is_read-clause-none c = λ form. unread_clock c.args.flat.now c.requires c.in-Some.clock c.in-Some.ensures.found form (c.is_read.ensures.0 c.if-is_read.true)

pub returns-clause-wires : goal.returns-clause-wires
returns-clause-wires c =
    let readers = rw c.in-Some-2.is at c.in_ok-readers.ensures.readers in
    let order = rw c.in-Some-3.is at c.in_ok-order.ensures.ordered in
    record {
      form = record {
        clock = c.in-Some.clock;
        clock_is = c.in-Some.ensures.found;
        clock_unread = λ read. let both : true ≡ false = sym (c.is_read.ensures.1 read) ∙ c.if-is_read.false in absurd cc;
        one_reader = one_each c.args.flat.now c.in-Some-2.readers.items readers;
        no_ring = no_ring_of c.args.flat.now c.requires c.in-Some-3.order order;
      };
      clock = c.in-Some.ensures.found;
      ordered = order;
    }
