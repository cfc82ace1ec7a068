-- The parts of bound expressions, and their widths.
use Rattle.std.proofs.Common.{◌≡◌, ◌∙◌, ◌<◌, ◌≤◌, ◌+◌, ◌⊎◌, inl, inr, ℕ, List, [], ◌∷◌, ◌++◌, map, reverse, sum, length, Option, Some, None, refl, sym, ap, subst, arith}
use Rattle.std.specs.Prelude.{slice_get}
use Rattle.std.specs.List.{All, AllZip}
use Rattle.std.proofs.lemmas.List.{reverse-append, reverse-reverse}
use Rattle.std.proofs.lemmas.List.Sums.{sum-map, sum_by-append, sum_by-cons}
use Rattle.verilog_tree.specs.Trees as tree
use Rattle.bind_sites.specs.Sites.{Operand, operands, Site, sites, port_names}
use Rattle.bind_sites.specs.Selects.{width_of}
use Rattle.bind_sites.specs.Scope.{HasRange, AsPort, AsWire, AsLinked, IsPort, SelectWidth, OperandWidth, ExprWidth}
use Rattle.bind_forms.specs.declared.bound.BoundPort.{BoundPort}
use Rattle.bind_forms.specs.declared.bound.BoundWire.{BoundWire}
use Rattle.bind_forms.specs.declared.bound.BoundPart.{BoundPart}
use Rattle.bind_forms.specs.declared.bound.BoundModule.{BoundModule}
use Rattle.bind_forms.specs.WellFormed.{port_wire, IsPartOf, IsPart, parts_width}
use Rattle.bind_forms.specs.Modules.{Setting}
use Rattle.bind_forms.specs.Binds.{BindsSelect, BindsOperand, BindsExpr, BindsPort, MakesWire, ByDeclaration, ByUse, BindsModule}
use Rattle.bind_laws.proofs.Single.{KnowsRanges}
use Rattle.bind_laws.proofs.Lists.{joined_got, map_got, all_got, zip_right, zip_joined}

-- ---- parts lie within their wires

width_some : (range : Option (ℕ × ℕ)) → 1 ≤ width_of range
width_some None = omega arith
width_some (Some range) = omega arith

select_lies : (wire : BoundWire) (select : Option (ℕ × ℕ)) (part : BoundPart) → BindsSelect wire select part → IsPartOf wire part
select_lies wire None part b =
    let low = b.0 in
    let count = b.1 in
    let some = width_some wire.range in
    record { some = omega arith; within = omega arith }
select_lies wire (Some select) part b = record { some = b.2.some; within = subst (λ (r : Option (ℕ × ℕ)). part.bit + part.count ≤ width_of r) (sym b.1) b.2.within }

pub part_lies : (wires : List BoundWire) (operand : Operand) (part : BoundPart) → BindsOperand wires operand part → IsPart wires part
part_lies wires operand part b = record { wire = b.wire; there = b.there; lies = select_lies b.wire operand.select part b.bits }

pub parts_lie : (wires : List BoundWire) (expr : tree.Expr) (parts : List BoundPart) → BindsExpr wires expr parts → All (IsPart wires) parts
parts_lie wires expr parts b = all_got (IsPart wires) parts (λ k part e.
    let r = zip_right (BindsOperand wires) (reverse (operands expr)) parts k part b e in
    part_lies wires r.0 part r.2)

-- ---- each wire has the range of its name

made_range : (all : List Site) (at : ℕ) (wire : BoundWire) → MakesWire all at wire → HasRange all wire.name wire.range
made_range all at wire (ByDeclaration there none) = AsWire none (at, there)
made_range all at wire (ByUse used first link none no_wire is) = AsLinked none no_wire link is

port_range : (all : List Site) (name : List ℕ) (port : BoundPort) → BindsPort all name port → HasRange all port.name port.range
port_range all name port b = AsPort port.output (subst (λ (n : List ℕ). IsPort all n port.output port.range) (sym b.name_is) b.declared)

pub knows_ranges : (setting : Setting) (places : List ℕ) (owner : tree.Module) (bound : BoundModule) → BindsModule setting places owner bound → KnowsRanges (sites owner) bound.wires
knows_ranges setting places owner bound b k wire e = by (joined_got (map port_wire bound.ports) b.others k wire (subst (λ (ws : List BoundWire). slice_get ws k ≡ Some wire) b.wires e)) where
  by : ((k < length (map port_wire bound.ports)) × (slice_get (map port_wire bound.ports) k ≡ Some wire)) ⊎ ((j : ℕ) × (k ≡ length (map port_wire bound.ports) + j) × (slice_get b.others j ≡ Some wire))
      → HasRange (sites owner) wire.name wire.range
  by (inl h) =
      let m = map_got port_wire bound.ports k wire h.1 in
      let r = zip_right (BindsPort (sites owner)) (port_names owner.head) bound.ports k m.0 b.ports m.1 in
      subst (λ (w : BoundWire). HasRange (sites owner) w.name w.range) m.2 (port_range (sites owner) r.0 m.0 r.2)
  by (inr h) =
      let r = zip_right (MakesWire (sites owner)) b.others_are.places b.others h.0 wire b.others_are.each h.2 in
      made_range (sites owner) r.0 wire r.2

-- ---- widths

select_width : (all : List Site) (wire : BoundWire) (name : List ℕ) (select : Option (ℕ × ℕ)) (part : BoundPart) → HasRange all name wire.range → BindsSelect wire select part → SelectWidth all name select part.count
select_width all wire name None part has b = (wire.range, has, b.1)
select_width all wire name (Some select) part has b = (b.0, part.bit, subst (HasRange all name) b.1 has, b.2)

operand_width : (all : List Site) (wires : List BoundWire) → KnowsRanges all wires → (operand : Operand) (part : BoundPart) → BindsOperand wires operand part → OperandWidth all operand part.count
operand_width all wires ranges operand part b =
    select_width all b.wire operand.name operand.select part (subst (λ (n : List ℕ). HasRange all n b.wire.range) b.name (ranges part.wire b.wire b.there)) b.bits

abbrev count_of : BoundPart → ℕ
count_of part = part.count

zip_counts : (all : List Site) (wires : List BoundWire) → KnowsRanges all wires → (ops : List Operand) (parts : List BoundPart) → AllZip (BindsOperand wires) ops parts → AllZip (OperandWidth all) ops (map count_of parts)
zip_counts all wires ranges [] [] h = tt
zip_counts all wires ranges [] (p ∷ parts) h = absurd h
zip_counts all wires ranges (o ∷ ops) [] h = absurd h
zip_counts all wires ranges (o ∷ ops) (p ∷ parts) h = (operand_width all wires ranges o p h.0, zip_counts all wires ranges ops parts h.1)

zip_reversed : {X Y : Type 0} (R : X → Y → Type 0) (xs : List X) (ys : List Y) → AllZip R xs ys → AllZip R (reverse xs) (reverse ys)
zip_reversed R [] [] h = tt
zip_reversed R [] (y ∷ ys) h = absurd h
zip_reversed R (x ∷ xs) [] h = absurd h
zip_reversed {X} {Y} R (x ∷ xs) (y ∷ ys) h =
    let both = zip_joined R (reverse xs) (reverse ys) (x ∷ []) (y ∷ []) (zip_reversed R xs ys h.1) (h.0, tt) in
    let left = subst (λ (l : List X). AllZip R l (reverse ys ++ y ∷ [])) (sym (reverse-append (x ∷ []) xs)) both in
    subst (λ (l : List Y). AllZip R (reverse (x ∷ xs)) l) (sym (reverse-append (y ∷ []) ys)) left

sum_reversed : (xs : List ℕ) → sum (reverse xs) ≡ sum xs
sum_reversed [] = refl
sum_reversed (x ∷ xs) =
    let parts : sum (reverse (x ∷ xs)) ≡ sum (reverse xs ++ x ∷ []) = ap sum (reverse-append (x ∷ []) xs) in
    let joined = sum_by-append (λ (n : ℕ). n) (reverse xs) (x ∷ []) in
    let deep = sum_reversed xs in
    let one = sum_by-cons (λ (n : ℕ). n) x xs in
    let last : sum (x ∷ []) ≡ x = omega arith in
    omega (arith, parts, joined, deep, one, last)

-- The width of an expression is that of its parts.
pub expr_width : (all : List Site) (wires : List BoundWire) → KnowsRanges all wires → (expr : tree.Expr) (parts : List BoundPart) → BindsExpr wires expr parts → ExprWidth all expr (parts_width parts)
expr_width all wires ranges expr parts b =
    let counts = zip_counts all wires ranges (reverse (operands expr)) parts b in
    let turned = zip_reversed (OperandWidth all) (reverse (operands expr)) (map count_of parts) counts in
    record {
      widths = reverse (map count_of parts);
      each = subst (λ (l : List Operand). AllZip (OperandWidth all) l (reverse (map count_of parts))) (reverse-reverse (operands expr)) turned;
      total = sym (sum_reversed (map count_of parts) ∙ sum-map count_of parts);
    }
