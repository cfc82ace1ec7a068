use Rattle.std.proofs.Common.{◌≡◌, ◌++◌, map, drop, length}
use Rattle.std.specs.List.{All}
use Rattle.flat_places.specs.Whole.{ReadsNet}
use Rattle.flattener.proofs.shape.Shape.read_pins.Given as goal

abbrev pub invariant-loop-pin : goal.invariant-loop-pin
invariant-loop-pin l = record {
  count : length l.pins ≡ l.pin;
  listed : map (λ pin. pin.reader) l.pins ++ drop l.pin l.self.readers.now ≡ l.self.readers.now;
  read : All (λ pin. ReadsNet l.self.source.cells.now l.self.source.bound.now l.self.nets.now pin.reader pin.net) l.pins;
}
