-- One more assign.
use Rattle.std.proofs.Common.{◌≡◌, inl, ℕ, ◌+◌, ◌<◌, ◌≤◌, List, [], ◌∷◌, ◌++◌, map, length, take, get_or, None, refl, sym, ◌∙◌, ap, subst, arith}
use Rattle.std.specs.List.{All, AllZip, filter_map, flat_map}
use Rattle.std.proofs.lemmas.List.{take_all, length-map}
use Rattle.bind_forms.specs.declared.bound.BoundWire.{BoundWire}
use Rattle.bind_forms.specs.declared.bound.BoundAssign.{BoundAssign}
use Rattle.bind_forms.specs.Binds.{BindsExpr, BindsAssign, item_assigns}
use Rattle.verilog_tree.specs.Trees as tree
use Rattle.bind_sites.specs.declared.site.Site.{Site as CodeSite}
use Rattle.bind_sites.specs.declared.site.Site.TheVariants as code
use Rattle.bind_sites.specs.Sites.{Operand, operands, Site, Assign, Assigned, sites}
use Rattle.bind_sites.specs.Scope.{IsAt, Stands}
use Rattle.bind_sites.specs.View.{view_site}
use Rattle.verilog_bind.specs.Fitting.{IsUsed}
use Rattle.verilog_bind.specs.Listed.{assign_of, AreSites}
use Rattle.verilog_bind.proofs.Zips.{filter_none, filter_one, zip_push}
use Rattle.verilog_bind.proofs.Listing.{assign_sites_are}
use Rattle.verilog_bind.proofs.Made.{read}

abbrev Stand : List Site → List Operand → Type 0
Stand all os = All (λ (o : Operand). Stands all (Assigned o)) os

used : (all : List Site) (os : List Operand) → Stand all os → All (IsUsed all) os
used all os h = λ k d lt. (let s = h k d lt in (s.0, inl s.1))

pub to_used : (all : List Site) (at : ℕ) (to from : tree.Expr) → AreSites all → IsAt all at (Assign to from) → All (IsUsed all) (operands to)
to_used all at to from are there =
    used all (operands to) (subst (λ (l : List Site). Stand l (operands to)) (sym are.1) (assign_sites_are.to are.0 to from (at, subst (λ (l : List Site). IsAt l at (Assign to from)) are.1 there)))

pub from_used : (all : List Site) (at : ℕ) (to from : tree.Expr) → AreSites all → IsAt all at (Assign to from) → All (IsUsed all) (operands from)
from_used all at to from are there =
    used all (operands from) (subst (λ (l : List Site). Stand l (operands from)) (sym are.1) (assign_sites_are.from are.0 to from (at, subst (λ (l : List Site). IsAt l at (Assign to from)) are.1 there)))

pub assign_more : (all : List Site) (wires : List BoundWire) (at : ℕ) (to from : tree.Expr) (old new : List BoundAssign) (assign : BoundAssign) → IsAt all at (Assign to from) → AllZip (BindsAssign wires) (filter_map assign_of (take at all)) old
    → BindsExpr wires to assign.to → BindsExpr wires from assign.from → new ≡ old ++ assign ∷ [] → AllZip (BindsAssign wires) (filter_map assign_of (take (at + 1) all)) new
assign_more all wires at to from old new assign there before to_is from_is pushed =
    subst (λ (l : List (tree.Expr × tree.Expr)). AllZip (BindsAssign wires) l new) (sym (filter_one assign_of all at (Assign to from) (to, from) there refl))
    (subst (λ (l : List BoundAssign). AllZip (BindsAssign wires) (filter_map assign_of (take at all) ++ (to, from) ∷ []) l) (sym pushed)
    (zip_push (BindsAssign wires) (filter_map assign_of (take at all)) old (to, from) assign before (record { to = to_is; from = from_is })))

-- other sites are no assigns
not_assign : (s : CodeSite) → ((to from : _) → s ≡ code.Assign to from → ⊥) → assign_of (view_site s) ≡ None
not_assign (code.Assign to from) h = absurd (h to from refl)
not_assign (code.Module n) h = refl
not_assign (code.Listed n) h = refl
not_assign (code.Port n o r) h = refl
not_assign (code.Wire n r) h = refl
not_assign (code.Instance k n l) h = refl
not_assign (code.Named k n x) h = refl
not_assign (code.Ordered k n x) h = refl
not_assign (code.Assigned o) h = refl
not_assign (code.Linked o) h = refl

pub assign_none : (sites : List CodeSite) (wires : List BoundWire) (at : ℕ) (d : CodeSite) (assigns : List BoundAssign) → at < length (map view_site sites) → ((to from : _) → get_or sites at d ≡ code.Assign to from → ⊥)
    → AllZip (BindsAssign wires) (filter_map assign_of (take at (map view_site sites))) assigns → AllZip (BindsAssign wires) (filter_map assign_of (take (at + 1) (map view_site sites))) assigns
assign_none sites wires at d assigns lt none before =
    subst (λ (l : List (tree.Expr × tree.Expr)). AllZip (BindsAssign wires) l assigns)
    (sym (filter_none assign_of (map view_site sites) at (view_site (get_or sites at d)) (read sites at d (get_or sites at d) lt refl) (not_assign (get_or sites at d) none))) before

pub assigns_start : (all : List Site) (wires : List BoundWire) (assigns : List BoundAssign) → assigns ≡ [] → AllZip (BindsAssign wires) (filter_map assign_of (take 0 all)) assigns
assigns_start [] wires assigns e = rw e tt
assigns_start (s ∷ all) wires assigns e = rw e tt

pub assigns_all : (all : List Site) (wires : List BoundWire) (at : ℕ) (assigns : List BoundAssign) → length all ≤ at → AllZip (BindsAssign wires) (filter_map assign_of (take at all)) assigns
    → (owner : tree.Module) → all ≡ sites owner → AllZip (BindsAssign wires) (flat_map item_assigns owner.items) assigns
assigns_all all wires at assigns le h owner are =
    subst (λ (l : List (tree.Expr × tree.Expr)). AllZip (BindsAssign wires) l assigns) (ap (filter_map assign_of) (take_all at all le ∙ are) ∙ assign_sites_are.listed owner) h

pub end_reached : (sites : List CodeSite) (at : ℕ) → length sites ≤ at → length (map view_site sites) ≤ at
end_reached sites at le = omega (arith, le, length-map sites view_site)
