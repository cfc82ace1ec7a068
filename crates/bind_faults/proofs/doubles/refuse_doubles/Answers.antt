use Rattle.std.proofs.Common.{◌≡◌, ◌∙◌, Option, List, ℕ, sym, subst, ap}
use Rattle.bind_forms.specs.Faults.{Place}
use Rattle.bind_kinds.specs.Netlist.{setting_of}
use Rattle.bind_faults.specs.declared.doubles.Double.{Double}
use Rattle.bind_faults.specs.Doubles.{IsFirstOf, IsKindTwice, IsWithin, IsTopBit, first_of}
use Rattle.bind_faults.proofs.AllDoubles.{Or, joined, no_duplicate, first_duplicate, refused}
use Rattle.bind_faults.proofs.doubles.refuse_doubles.Goals as goal

pub returns : goal.returns
returns c =
    let setting = setting_of c.args.netlist.now in
    let kinds : Place → List ℕ → Type 0 = IsKindTwice setting in
    let names : Place → List ℕ → Type 0 = IsWithin setting in
    let bits : Place → List ℕ → Type 0 = IsTopBit setting c.args.top in
    let is : first_of (first_of c.in_ok-kind.kind c.in_ok-name.name) c.in_ok-bit.bit ≡ c.first_of-2.result = ap (λ (o : Option Double). first_of o c.in_ok-bit.bit) (sym c.first_of.ensures) ∙ sym c.first_of-2.ensures in
    let first = joined (Or kinds names) bits (first_of c.in_ok-kind.kind c.in_ok-name.name) c.in_ok-bit.bit (joined kinds names c.in_ok-kind.kind c.in_ok-name.name c.in_ok-kind.ensures c.in_ok-name.ensures) c.in_ok-bit.ensures in
    refused setting (Or (Or kinds names) bits) c.first_of-2.result c.refuse.result (subst (λ (o : Option Double). IsFirstOf (Or (Or kinds names) bits) o) is first)
    (no_duplicate c.args.netlist.now c.requires.told c.args.top c.requires.top) (first_duplicate c.args.netlist.now c.requires.told c.args.top c.requires.top) c.refuse.ensures
