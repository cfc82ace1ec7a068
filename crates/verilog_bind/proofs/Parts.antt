-- Operands as parts of wires.
use Rattle.std.proofs.Common.{◌≡◌, inl, inr, ℕ, ◌+◌, ◌<◌, List, [], ◌∷◌, ◌++◌, map, length, take, reverse, get_or, Option, Some, None, MatchOption, refl, sym, ◌∙◌, ap, subst}
use mathlib.Core.Former.{Count}
use Rattle.std.specs.Prelude.{slice_get}
use Rattle.std.specs.List.{All, AllZip, flat_map}
use Rattle.std.proofs.lemmas.List.{map_more}
use Rattle.std.proofs.lemmas.Option.{slice_get_within, slice_get-get_or, get_or_from_slice_get}
use Rattle.std.specs.declared.alloc.Global.{Global}
use Rattle.std.specs.declared.vec.Vec.{Vec}
use Rattle.name_table.specs.Places.{place_of}
use Rattle.bind_forms.specs.declared.bound.BoundWire.{BoundWire}
use Rattle.bind_forms.specs.declared.bound.BoundPart.{BoundPart}
use Rattle.bind_forms.specs.Binds.{BindsSelect, BindsOperand}
use Rattle.verilog_tree.specs.declared.tree.Expr as code
use Rattle.verilog_tree.specs.Views.{view_expr, view_row}
use Rattle.bind_sites.specs.Sites.{Operand, operands, operands_in, Site, Port, Wire, Linked}
use Rattle.bind_sites.specs.Scope.{IsAt, IsKnown, HasRange, AsPort, AsWire, AsLinked}
use Rattle.bind_sites.specs.Refused.{InAssign, InLink, IsOutside, IsOperandAt, OfSelect}
use Rattle.bind_sites.specs.Small.{AreSmall, HasSmall}
use Rattle.verilog_bind.specs.declared.wires.Wires.{Wires}
use Rattle.verilog_bind.specs.Fitting.{IsSound, IsUsed, AreBits, AreParts}
use Rattle.verilog_bind.specs.Numbered.{sites_in, IsNumberOf, IsWires}
use Rattle.verilog_bind.proofs.Found.{found_mapped, all_at}
use Rattle.verilog_bind.proofs.Zips.{zip_push, zip_reverse}

-- ---- the operands of an expression in braces

abbrev row_of : code.Expr → (n : Count) × code.Row_of-Expr n
row_of (code.Join' _ row) = (_, row)
row_of _ = (_, code.end_of-Expr)

of_row : (n : _) (row : code.Row_of-Expr n) → operands_in (view_row row) ≡ flat_map (λ (part : code.Expr). operands (view_expr part)) (code.items-the_row-Expr n row)
of_row n code.end_of-Expr = refl
of_row n (code.more_of-Expr e rest) = ap (λ (l : List Operand). operands (view_expr e) ++ l) (of_row _ rest)

operands_join : (parts : Vec code.Expr Global) → operands (view_expr (code.Join parts)) ≡ flat_map (λ (part : code.Expr). operands (view_expr part)) parts.items
operands_join parts =
    let row = row_of (code.Join parts) in
    of_row row.0 row.1 ∙ ap (flat_map (λ (part : code.Expr). operands (view_expr part))) (code.items_hidden-the_row-Expr-0 parts)

pub operands_are : (e : code.Expr) (parts : Vec code.Expr Global) (xs : List code.Expr) → e ≡ code.Join parts → xs ≡ parts.items → operands (view_expr e) ≡ flat_map (λ (part : code.Expr). operands (view_expr part)) xs
operands_are e parts xs is items =
    ap (λ (v : code.Expr). operands (view_expr v)) is ∙ operands_join parts ∙ ap (flat_map (λ (part : code.Expr). operands (view_expr part))) (sym items)

-- ---- an operand

-- an operand that is used is known
pub used_known : (all : List Site) (o : Operand) → IsSound all → IsUsed all o → ¬ IsKnown all o.name → ⊥
used_known all o sound used lacks = elim used.1 [
  | inl there ↦ sound.known used.0 o.name (InAssign o.select there lacks)
  | inr there ↦ of_link o.name o.select there lacks
] where
  of_link : (n : List ℕ) (s : Option (ℕ × ℕ)) → IsAt all used.0 (Linked (record { name = n; select = s })) → ¬ IsKnown all n → ⊥
  of_link n None there lacks = lacks (inr (inr (used.0, there)))
  of_link n (Some s) there lacks = sound.known used.0 n (InLink s there lacks)

pub number_is : (wires : Wires) (name : List ℕ) (r : Option ℕ) (number : ℕ) → IsWires wires → r ≡ place_of wires.numbers name → r ≡ Some number → IsNumberOf (sites_in wires) wires.list name number
number_is wires name r number are e is =
    let place : place_of wires.numbers name ≡ Some number = sym e ∙ is in
    subst (λ (o : Option ℕ). MatchOption o (¬ IsKnown (sites_in wires) name) (IsNumberOf (sites_in wires) wires.list name)) place (are.numbers name)

pub not_known : (wires : Wires) (name : List ℕ) (r : Option ℕ) → IsWires wires → r ≡ place_of wires.numbers name → r ≡ None → ¬ IsKnown (sites_in wires) name
not_known wires name r are e is =
    let place : place_of wires.numbers name ≡ None = sym e ∙ is in
    subst (λ (o : Option ℕ). MatchOption o (¬ IsKnown (sites_in wires) name) (IsNumberOf (sites_in wires) wires.list name)) place (are.numbers name)

pub number_within : (all : List Site) (list : List BoundWire) (name : List ℕ) (number : ℕ) → IsNumberOf all list name number → number < length list
number_within all list name number is = slice_get_within list number is.wire is.there

-- the wire that the code reads
pub wire_read : (all : List Site) (list xs : List BoundWire) (name : List ℕ) (number : ℕ) (d : BoundWire) (is : IsNumberOf all list name number) → xs ≡ list → is.wire ≡ get_or xs number d
wire_read all list xs name number d is same = sym (get_or_from_slice_get xs number is.wire d (ap (λ (l : List BoundWire). slice_get l number) same ∙ is.there))

range_small : (all : List Site) (name : List ℕ) (range : Option (ℕ × ℕ)) → All HasSmall all → HasRange all name range → AreSmall range
range_small all name range small (AsPort output port) = all_at HasSmall all (Port name output range) small port
range_small all name range small (AsWire undirected wire) = all_at HasSmall all (Wire name range) small wire
range_small all name range small (AsLinked undirected undeclared link is) = subst AreSmall (sym is) tt

pub wire_small : (all : List Site) (list xs : List BoundWire) (name : List ℕ) (number : ℕ) (d : BoundWire) → IsSound all → IsNumberOf all list name number → xs ≡ list → AreSmall (get_or xs number d).range
wire_small all list xs name number d sound is same =
    subst (λ (w : BoundWire). AreSmall w.range) (wire_read all list xs name number d is same) (range_small all name is.wire.range sound.small is.range)

pub wire_inside : (all : List Site) (list xs : List BoundWire) (o : Operand) (number : ℕ) (d : BoundWire) → IsSound all → IsUsed all o → IsNumberOf all list o.name number → xs ≡ list
    → (ends : ℕ × ℕ) → o.select ≡ Some ends → ¬ IsOutside (get_or xs number d).range ends
wire_inside all list xs o number d sound used is same ends selects outside =
    let there : IsOperandAt all used.0 (record { name = o.name; select = Some ends }) = subst (λ (s : Option (ℕ × ℕ)). IsOperandAt all used.0 (record { name = o.name; select = s })) selects used.1 in
    sound.inside used.0 o.name (OfSelect ends is.wire.range there is.range (subst (λ (w : BoundWire). IsOutside w.range ends) (sym (wire_read all list xs o.name number d is same)) outside))

abbrev part_of : ℕ → ℕ → ℕ → BoundPart
part_of number bit count = record { wire = number; bit = bit; count = count }

binds_select : (wire : BoundWire) (select : Option (ℕ × ℕ)) (number bit count : ℕ) → AreBits wire.range select bit count → BindsSelect wire select (part_of number bit count)
binds_select wire None number bit count h = h
binds_select wire (Some select) number bit count h = h

pub part_is : (all : List Site) (list xs : List BoundWire) (o : Operand) (number bit count : ℕ) (d : BoundWire) → IsNumberOf all list o.name number → xs ≡ list → AreBits (get_or xs number d).range o.select bit count
    → BindsOperand list o (part_of number bit count)
part_is all list xs o number bit count d is same bits = record {
  wire = is.wire;
  there = is.there;
  name = is.name_is;
  bits = binds_select is.wire o.select number bit count (subst (λ (w : BoundWire). AreBits w.range o.select bit count) (sym (wire_read all list xs o.name number d is same)) bits);
}

-- ---- parts of many operands

pub parts_more : {X : Type 0} (wires : List BoundWire) (view : X → Operand) (xs : List X) (i : ℕ) (d : X) (old new : List BoundPart) (part : BoundPart) → i < length xs → AreParts wires (map view (take i xs)) old
    → BindsOperand wires (view (get_or xs i d)) part → new ≡ old ++ part ∷ [] → AreParts wires (map view (take (i + 1) xs)) new
parts_more wires view xs i d old new part lt before binds pushed =
    subst (λ (l : List Operand). AreParts wires l new) (sym (map_more view xs i d lt))
    (subst (λ (l : List BoundPart). AreParts wires (map view (take i xs) ++ view (get_or xs i d) ∷ []) l) (sym pushed) (zip_push (BindsOperand wires) (map view (take i xs)) old (view (get_or xs i d)) part before binds))

pub used_item : {X : Type 0} (P : Operand → Type 0) (view : X → Operand) (xs : List X) (i : ℕ) (d : X) → All P (map view xs) → i < length xs → P (view (get_or xs i d))
used_item P view xs i d h lt = all_at P (map view xs) (view (get_or xs i d)) h (found_mapped view xs (get_or xs i d) (i, slice_get-get_or xs i d lt))

pub parts_reversed : (wires : List BoundWire) (os found : List Operand) (parts reversed : List BoundPart) → found ≡ os → AreParts wires found parts → reversed ≡ reverse parts → AllZip (BindsOperand wires) (reverse os) reversed
parts_reversed wires os found parts reversed same are turned =
    subst (λ (l : List BoundPart). AllZip (BindsOperand wires) (reverse os) l) (sym turned) (zip_reverse (BindsOperand wires) os parts (subst (λ (l : List Operand). AreParts wires l parts) same are))
