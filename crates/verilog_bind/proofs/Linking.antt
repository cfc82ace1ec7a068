-- Links with their ports and parts.
use Rattle.std.proofs.Common.{◌≡◌, ℕ, ◌+◌, ◌≤◌, List, [], ◌∷◌, ◌++◌, map, length, take, Option, Some, None, refl, sym, ◌∙◌, ap, subst, arith}
use Rattle.std.specs.Prelude.{slice_get}
use Rattle.std.specs.Option.{option_map}
use Rattle.std.specs.List.{AllZip, filter_map, enumerate_from}
use Rattle.std.proofs.lemmas.List.{take_all, length-map}
use Rattle.bind_forms.specs.declared.bound.BoundWire.{BoundWire}
use Rattle.bind_forms.specs.declared.bound.BoundLink.{BoundLink}
use Rattle.bind_forms.specs.Modules.{Setting, HasPorts}
use Rattle.bind_forms.specs.Binds.{BindsExpr, BindsNamed, BindsOrdered, named_exprs, ordered_exprs}
use Rattle.verilog_tree.specs.Trees as tree
use Rattle.bind_hierarchy.specs.Names.{IsFirstPlace}
use Rattle.bind_kinds.specs.Ports.{HasPortPlace, PortsAreOne}
use Rattle.verilog_bind.specs.Sound.{HasPort, AddsNamed, AddsOrdered, ordered_expr}
use Rattle.verilog_bind.proofs.Found.{found_contains}
use Rattle.verilog_bind.proofs.Zips.{zip_push, filter_more, enumerated, length_enumerated}

-- ---- ports

pub has_place : (setting : Setting) (kind name : List ℕ) → HasPort setting kind name → ((names : List (List ℕ)) → HasPorts setting kind names → IsFirstPlace names name None) → ⊥
has_place setting kind name port none = port.2 (λ within. (let there = found_contains port.0 name within in none port.0 port.1 there.0 there.1))

pub named_is : (setting : Setting) (kind name : List ℕ) (place : ℕ) (wires : List BoundWire) (expr : tree.Expr) (link : BoundLink) → PortsAreOne → HasPortPlace setting kind name place → link.port ≡ place → BindsExpr wires expr link.parts
    → (names : List (List ℕ)) → HasPorts setting kind names → BindsNamed names wires (name, expr) link
named_is setting kind name place wires expr link one found is parts names ports =
    let same : found.0 ≡ names = one setting kind found.0 names found.1 ports in
    record {
      port = ap (λ (n : ℕ). slice_get names n) is ∙ ap (λ (l : List (List ℕ)). slice_get l place) (sym same) ∙ found.2.0;
      parts = parts;
    }

-- ---- links by name

abbrev named_expr : tree.NamedLink → Option (List ℕ × tree.Expr)
named_expr link = option_map (λ expr. (link.name, expr)) link.expr

append_none : {X : Type 0} (xs : List X) → xs ++ [] ≡ xs
append_none [] = refl
append_none (x ∷ xs) = ap (λ (l : List _). x ∷ l) (append_none xs)

pub adds_named : (setting : Setting) (kind : List ℕ) (wires : List BoundWire) (link : tree.NamedLink) (expr : tree.Expr) (old new : List BoundLink) (bound : BoundLink) → link.expr ≡ Some expr
    → ((names : List (List ℕ)) → HasPorts setting kind names → BindsNamed names wires (link.name, expr) bound) → new ≡ old ++ bound ∷ [] → AddsNamed setting kind wires link old new
adds_named setting kind wires link expr old new bound is binds pushed names before ports done =
    let one : named_exprs (link ∷ []) ≡ (link.name, expr) ∷ [] = rw is refl in
    subst (λ (l : List (List ℕ × tree.Expr)). AllZip (BindsNamed names wires) (before ++ l) new) (sym one)
    (subst (λ (l : List BoundLink). AllZip (BindsNamed names wires) (before ++ (link.name, expr) ∷ []) l) (sym pushed) (zip_push (BindsNamed names wires) before old (link.name, expr) bound done (binds names ports)))

-- so many links by name are bound
abbrev pub NamedTo : Setting → List ℕ → List BoundWire → List tree.NamedLink → List BoundLink → Type 0
NamedTo setting kind wires links bound = (names : List (List ℕ)) → HasPorts setting kind names → AllZip (BindsNamed names wires) (named_exprs links) bound

pub named_start : (setting : Setting) (kind : List ℕ) (wires : List BoundWire) (links : List tree.NamedLink) (bound : List BoundLink) → bound ≡ [] → NamedTo setting kind wires (take 0 links) bound
named_start setting kind wires [] bound e names ports = rw e tt
named_start setting kind wires (l ∷ links) bound e names ports = rw e tt

pub named_more : (setting : Setting) (kind : List ℕ) (wires : List BoundWire) (links : List tree.NamedLink) (i : ℕ) (link : tree.NamedLink) (old new : List BoundLink) → slice_get links i ≡ Some link
    → NamedTo setting kind wires (take i links) old → AddsNamed setting kind wires link old new → NamedTo setting kind wires (take (i + 1) links) new
named_more setting kind wires links i link old new there before adds names ports =
    subst (λ (l : List (List ℕ × tree.Expr)). AllZip (BindsNamed names wires) l new) (sym (filter_more named_expr links i link there)) (adds names (named_exprs (take i links)) ports (before names ports))

pub named_all : {X : Type 0} (setting : Setting) (kind : List ℕ) (wires : List BoundWire) (view : X → tree.NamedLink) (links : List X) (i : ℕ) (bound : List BoundLink) → length links ≤ i
    → NamedTo setting kind wires (take i (map view links)) bound → NamedTo setting kind wires (map view links) bound
named_all setting kind wires view links i bound le h =
    subst (λ (l : List tree.NamedLink). NamedTo setting kind wires l bound) (take_all i (map view links) (omega (arith, le, length-map links view))) h

-- ---- links by order

pub adds_ordered : (wires : List BoundWire) (place : ℕ) (link : Option tree.Expr) (expr : tree.Expr) (old new : List BoundLink) (bound : BoundLink) → link ≡ Some expr → bound.port ≡ place → BindsExpr wires expr bound.parts
    → new ≡ old ++ bound ∷ [] → AddsOrdered wires (place, link) old new
adds_ordered wires place link expr old new bound is port parts pushed before done =
    let one : filter_map ordered_expr ((place, link) ∷ []) ≡ (place, expr) ∷ [] = rw is refl in
    subst (λ (l : List (ℕ × tree.Expr)). AllZip (BindsOrdered wires) (before ++ l) new) (sym one)
    (subst (λ (l : List BoundLink). AllZip (BindsOrdered wires) (before ++ (place, expr) ∷ []) l) (sym pushed)
    (zip_push (BindsOrdered wires) before old (place, expr) bound done (record { port = port; parts = parts })))

abbrev pub OrderedTo : List BoundWire → List (ℕ × Option tree.Expr) → List BoundLink → Type 0
OrderedTo wires links bound = AllZip (BindsOrdered wires) (filter_map ordered_expr links) bound

pub ordered_start : (wires : List BoundWire) (links : List (ℕ × Option tree.Expr)) (bound : List BoundLink) → bound ≡ [] → OrderedTo wires (take 0 links) bound
ordered_start wires [] bound e = rw e tt
ordered_start wires (l ∷ links) bound e = rw e tt

pub ordered_more : (wires : List BoundWire) (links : List (Option tree.Expr)) (i : ℕ) (link : Option tree.Expr) (old new : List BoundLink) → slice_get links i ≡ Some link → OrderedTo wires (take i (enumerate_from 0 links)) old
    → AddsOrdered wires (i, link) old new → OrderedTo wires (take (i + 1) (enumerate_from 0 links)) new
ordered_more wires links i link old new there before adds =
    let same : 0 + i ≡ i = omega arith in
    let at : slice_get (enumerate_from 0 links) i ≡ Some (i, link) = enumerated 0 links i link there ∙ ap (λ (m : ℕ). Some (m, link)) same in
    subst (λ (l : List (ℕ × tree.Expr)). AllZip (BindsOrdered wires) l new) (sym (filter_more ordered_expr (enumerate_from 0 links) i (i, link) at)) (adds (filter_map ordered_expr (take i (enumerate_from 0 links))) before)

pub ordered_all : {X : Type 0} (wires : List BoundWire) (view : X → Option tree.Expr) (links : List X) (i : ℕ) (bound : List BoundLink) → length links ≤ i → OrderedTo wires (take i (enumerate_from 0 (map view links))) bound
    → AllZip (BindsOrdered wires) (ordered_exprs (map view links)) bound
ordered_all wires view links i bound le h =
    subst (λ (l : List (ℕ × Option tree.Expr)). OrderedTo wires l bound)
    (take_all i (enumerate_from 0 (map view links)) (omega (arith, le, length-map links view, length_enumerated 0 (map view links)))) h
