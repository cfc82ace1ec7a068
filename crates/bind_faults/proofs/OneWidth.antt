-- Where names have one range, what stands at a site has one width.
use Rattle.std.proofs.Common.{◌≡◌, inl, inr, ℕ, ◌+◌, ◌-◌, ◌<◌, nat_le, Bool, true, false, List, [], ◌∷◌, Option, Some, None, IfNone, length, sum, refl, sym, ◌∙◌, ap, subst, arith, rules}
use Rattle.std.specs.Bool.{if◌then◌else◌}
use Rattle.std.specs.Prelude.{slice_get}
use Rattle.std.specs.List.{AllZip}
use Rattle.verilog_tree.specs.Trees.{Expr}
use Rattle.bind_sites.specs.Sites.{Operand, operands, Site, Listed, Port, Wire, Assign, Instance, Named, Ordered, Assigned, Linked}
use Rattle.bind_sites.specs.Sites as s
use Rattle.bind_sites.specs.Selects.{width_of, index_at, Selects}
use Rattle.bind_sites.specs.Scope.{IsPort, IsKnown, HasRange, AsPort, AsWire, AsLinked, SelectWidth, OperandWidth, ExprWidth}
use Rattle.bind_names.specs.Scoped.{HasNoDouble, RangesAreOne}
use Rattle.bind_hierarchy.specs.declared.kinds.Meaning.TheVariants as meaning
use Rattle.bind_forms.specs.Modules.{Setting, MeansModule}
use Rattle.bind_forms.specs.Faults.{HasSites, PortWidth, OfModulePort, OfPin}
use Rattle.bind_kinds.specs.Ports.{KindsAreOne, PortsAreOne, HasWidthAt}
use Rattle.bind_faults.specs.Widths.{HasSelected, LinkWidth, IsWidths}
use Rattle.bind_faults.proofs.Lookups.{some_same, one_list}

-- ---- selects

index_one : (range : ℕ × ℕ) (p q : ℕ) → p < width_of (Some range) → q < width_of (Some range) → index_at range p ≡ index_at range q → p ≡ q
index_one range p q near near_too same = by (nat_le range.1 range.0) refl same where
  by : (down : Bool) → nat_le range.1 range.0 ≡ down → (if down then range.1 + p else range.1 - p) ≡ (if down then range.1 + q else range.1 - q) → p ≡ q
  by true e h = omega arith
  by false e h = let up : range.0 < range.1 = search rules in omega arith

one_count : (range select : ℕ × ℕ) (a b m n : ℕ) → Selects range select a m → Selects range select b n → m ≡ n
one_count range select a b m n g h =
    let first : a ≡ b = index_one range a b (omega (arith, g.some, g.within)) (omega (arith, h.some, h.within)) (g.right ∙ sym h.right) in
    let last : a + m - 1 ≡ b + n - 1 = index_one range (a + m - 1) (b + n - 1) (omega (arith, g.some, g.within)) (omega (arith, h.some, h.within)) (g.left ∙ sym h.left) in
    omega (arith, first, last, g.some, h.some)

-- ---- operands

module _ (one_range : RangesAreOne) (all : List Site) (single : HasNoDouble all (length all)) where
  one_select : (name : List ℕ) (select : Option (ℕ × ℕ)) (a b : ℕ) → SelectWidth all name select a → SelectWidth all name select b → a ≡ b
  one_select name None a b g h = g.2 ∙ ap width_of (one_range all name g.0 h.0 single g.1 h.1) ∙ sym h.2
  one_select name (Some select) a b g h =
      let same : g.0 ≡ h.0 = some_same (one_range all name (Some g.0) (Some h.0) single g.2 h.2) in
      one_count h.0 select g.1 h.1 a b (subst (λ (r : ℕ × ℕ). Selects r select g.1 a) same g.3) h.3

  one_list_of_widths : (parts : List Operand) (v w : List ℕ) → AllZip (OperandWidth all) parts v → AllZip (OperandWidth all) parts w → v ≡ w
  one_list_of_widths [] [] [] g h = refl
  one_list_of_widths [] [] (y ∷ w) g h = absurd h
  one_list_of_widths [] (x ∷ v) w g h = absurd g
  one_list_of_widths (o ∷ parts) [] w g h = absurd g
  one_list_of_widths (o ∷ parts) (x ∷ v) [] g h = absurd h
  one_list_of_widths (o ∷ parts) (x ∷ v) (y ∷ w) g h =
      let first : x ≡ y = one_select o.name o.select x y g.0 h.0 in
      let rest : v ≡ w = one_list_of_widths parts v w g.1 h.1 in
      cc

  pub one_expr : (expr : Expr) (a b : ℕ) → ExprWidth all expr a → ExprWidth all expr b → a ≡ b
  one_expr expr a b g h = g.total ∙ ap sum (one_list_of_widths (operands expr) g.widths h.widths g.each h.each) ∙ sym h.total

  one_link : (expr : Option Expr) (a b : ℕ) → LinkWidth all expr a → LinkWidth all expr b → a ≡ b
  one_link None a b g h = absurd g
  one_link (Some expr) a b g h = one_expr expr a b g h

  -- a select of what was found, and of a name that is not known
  pub selected : (name : List ℕ) (range : Option (ℕ × ℕ)) (wanted : ℕ × ℕ) (w : ℕ) → HasRange all name range → SelectWidth all name (Some wanted) w → HasSelected range wanted w
  selected name range wanted w has h =
      subst (λ (r : Option (ℕ × ℕ)). HasSelected r wanted w) (one_range all name (Some h.0) range single h.2 has) (h.1, h.3)

known : (all : List Site) (name : List ℕ) (range : Option (ℕ × ℕ)) → HasRange all name range → IsKnown all name
known all name range (AsPort output stands) = inl (output, range, stands)
known all name range (AsWire none stands) = inr (inl (range, stands))
known all name range (AsLinked none not_wire linked is) = inr (inr linked)

pub unknown_width : (all : List Site) (name : List ℕ) (wanted : Option (ℕ × ℕ)) → ¬ IsKnown all name → (w : ℕ) → ¬ SelectWidth all name wanted w
unknown_width all name None none = λ w h. none (known all name h.0 h.1)
unknown_width all name (Some wanted) none = λ w h. none (known all name (Some h.0) h.2)

-- ---- ports

-- the module that a kind means gives no name twice
abbrev pub IsSingleKind : Setting → List ℕ → Type 0
IsSingleKind setting kind = (at : ℕ) (all : List Site) → MeansModule setting kind at → HasSites setting at all → HasNoDouble all (length all)

module _ (one_kind : KindsAreOne) (one_range : RangesAreOne) (setting : Setting) (kind : List ℕ) (single : IsSingleKind setting kind) where
  one_meaning : (a b : ℕ) → MeansModule setting kind a → MeansModule setting kind b → a ≡ b
  one_meaning a b g h = same (one_kind setting.modules setting.table kind (Some (meaning.Module a)) (Some (meaning.Module b)) g h) where
    same : Some (meaning.Module a) ≡ Some (meaning.Module b) → a ≡ b
    same e = cc

  pub one_port : (name : List ℕ) (a b : ℕ) → PortWidth setting kind name a → PortWidth setting kind name b → a ≡ b
  one_port name a b (OfModulePort at all output range means has port is) (OfModulePort at_too all_too output_too range_too means_too has_too port_too is_too) =
      let same : at ≡ at_too = one_meaning at at_too means means_too in
      let sites : all ≡ all_too = one_list setting at_too all all_too (subst (λ (n : ℕ). HasSites setting n all) same has) has_too in
      let port_there : IsPort all_too name output range = subst (λ (l : List Site). IsPort l name output range) sites port in
      is ∙ ap width_of (one_range all_too name range range_too (single at_too all_too means_too has_too) (AsPort output port_there) (AsPort output_too port_too)) ∙ sym is_too
  one_port name a b (OfModulePort at all output range means has port is) (OfPin row means_too is_too) = absurd (means_too.0 at means.0)
  one_port name a b (OfPin row means is) (OfModulePort at all output range means_too has port is_too) = absurd (means.0 at means_too.0)
  one_port name a b (OfPin row means is) (OfPin row_too means_too is_too) = is ∙ sym is_too

  one_place : PortsAreOne → (place a b : ℕ) → HasWidthAt setting kind place a → HasWidthAt setting kind place b → a ≡ b
  one_place one_ports place a b g h =
      let ports : g.1.0 ≡ h.1.0 = one_ports setting kind g.1.0 h.1.0 g.1.1 h.1.1 in
      let name : g.0 ≡ h.0 = some_same (sym g.1.2 ∙ ap (λ (l : List (List ℕ)). slice_get l place) ports ∙ h.1.2) in
      one_port h.0 a b (subst (λ (n : List ℕ). PortWidth setting kind n a) name g.2) h.2

-- ---- a site

-- the kind of a link at a site gives no name twice
abbrev pub IsSingleSite : Setting → Site → Type 0
IsSingleSite setting (Named kind name expr) = IsSingleKind setting kind
IsSingleSite setting (Ordered kind place expr) = IsSingleKind setting kind
IsSingleSite setting _ = Unit {0}

pub one_widths : KindsAreOne → PortsAreOne → RangesAreOne → (setting : Setting) (all : List Site) (site : Site) → HasNoDouble all (length all) → IsSingleSite setting site → (a b c d : ℕ)
    → IsWidths setting all site a b → IsWidths setting all site c d → (a ≡ c) × (b ≡ d)
one_widths one_kind one_ports one_range setting all (Assign to from) single kind_single a b c d g h = (one_expr one_range all single from a c g.0 h.0, one_expr one_range all single to b d g.1 h.1)
one_widths one_kind one_ports one_range setting all (Named kind name expr) single kind_single a b c d g h =
    (one_link one_range all single expr a c g.0 h.0, one_port one_kind one_range setting kind kind_single name b d g.1 h.1)
one_widths one_kind one_ports one_range setting all (Ordered kind place expr) single kind_single a b c d g h =
    (one_link one_range all single expr a c g.0 h.0, one_place one_kind one_range setting kind kind_single one_ports place b d g.1 h.1)
one_widths one_kind one_ports one_range setting all (s.Module n) single kind_single a b c d g h = absurd g
one_widths one_kind one_ports one_range setting all (Listed n) single kind_single a b c d g h = absurd g
one_widths one_kind one_ports one_range setting all (Port n output range) single kind_single a b c d g h = absurd g
one_widths one_kind one_ports one_range setting all (Wire n range) single kind_single a b c d g h = absurd g
one_widths one_kind one_ports one_range setting all (Instance kind n links) single kind_single a b c d g h = absurd g
one_widths one_kind one_ports one_range setting all (Assigned o) single kind_single a b c d g h = absurd g
one_widths one_kind one_ports one_range setting all (Linked o) single kind_single a b c d g h = absurd g

-- ---- answers

pub select_none : RangesAreOne → (all : List Site) (name : List ℕ) (range : Option (ℕ × ℕ)) (wanted : ℕ × ℕ) (r : Option ℕ) → HasNoDouble all (length all) → HasRange all name range
    → IfNone r ((count : ℕ) → ¬ HasSelected range wanted count) → IfNone r ((w : ℕ) → ¬ SelectWidth all name (Some wanted) w)
select_none one_range all name range wanted (Some count) single has h = tt
select_none one_range all name range wanted None single has h = λ w wide. h w (selected one_range all single name range wanted w has wide)
