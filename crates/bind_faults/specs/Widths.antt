-- Widths of operands, of expressions, and of the two sides at one site.
use Rattle.std.specs.Prelude.{◌≡◌, ℕ, ◌+◌, ◌<◌, ◌^◌, List, length, sum, Option, Some, None}
use Rattle.std.specs.List.{AllZip, flat_map}
use Rattle.verilog_tree.specs.declared.tree.Expr as code
use Rattle.verilog_tree.specs.Trees.{Expr}
use Rattle.verilog_tree.specs.Views.{view_expr}
use Rattle.bind_sites.specs.Sites.{Operand, operands, Site, Assign, Named, Ordered}
use Rattle.bind_sites.specs.Selects.{Selects}
use Rattle.bind_sites.specs.Scope.{OperandWidth, ExprWidth}
use Rattle.bind_names.specs.Scoped.{HasNoDouble}
use Rattle.bind_forms.specs.Modules.{Setting}
use Rattle.bind_forms.specs.Faults.{HasSites, HasReachedSites, PortWidth}
use Rattle.bind_kinds.specs.Ports.{HasWidthAt}

-- the module at a place of the text has fewer than 2^32 sites
abbrev pub FitsSites : Setting → ℕ → Type 0
FitsSites setting at = (all : List Site) → HasSites setting at all → length all < 2 ^ 32

-- no reached module gives a name to two things of one sort
abbrev pub AreSingle : Setting → Type 0
AreSingle setting = (at : ℕ) (all : List Site) → HasReachedSites setting at all → HasNoDouble all (length all)

-- how many bits are selected of a range
abbrev pub HasSelected : Option (ℕ × ℕ) → ℕ × ℕ → ℕ → Type 0
HasSelected None select count = ⊥
HasSelected (Some range) select count = (bit : ℕ) × Selects range select bit count

-- the width of several operands together
abbrev pub HaveWidth : List Site → List Operand → ℕ → Type 0
HaveWidth all parts width = (widths : List ℕ) × AllZip (OperandWidth all) parts widths × (width ≡ sum widths)

-- the operands of several expressions
abbrev pub all_operands : List code.Expr → List Operand
all_operands parts = flat_map (λ part. operands (view_expr part)) parts

-- the width of a link's expression
abbrev pub LinkWidth : List Site → Option Expr → ℕ → Type 0
LinkWidth all None width = ⊥
LinkWidth all (Some expr) width = ExprWidth all expr width

-- the widths of the two sides at a site
abbrev pub IsWidths : Setting → List Site → Site → ℕ → ℕ → Type 0
IsWidths setting all (Assign to from) have want = ExprWidth all from have × ExprWidth all to want
IsWidths setting all (Named kind name expr) have want = LinkWidth all expr have × PortWidth setting kind name want
IsWidths setting all (Ordered kind place expr) have want = LinkWidth all expr have × HasWidthAt setting kind place want
IsWidths setting all _ have want = ⊥

-- how many operands a link's expression has
abbrev pub link_count : Option Expr → ℕ
link_count None = 0
link_count (Some expr) = length (operands expr)

-- how many operands follow a site that has two sides
abbrev pub operand_count : Site → ℕ
operand_count (Assign to from) = length (operands to) + length (operands from)
operand_count (Named kind name expr) = link_count expr
operand_count (Ordered kind place expr) = link_count expr
operand_count _ = 0

-- two answers, where there are both
abbrev pub both : Option ℕ → Option ℕ → Option (ℕ × ℕ)
both (Some one) (Some other) = Some (one, other)
both _ _ = None
