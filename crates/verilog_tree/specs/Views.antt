-- The tree that a value of the code is.
use Rattle.std.specs.Prelude.{List, map, Option, Some, None}
use Rattle.verilog_tree.specs.declared.tree.Expr as code
use Rattle.verilog_tree.specs.declared.tree.NamedLink.{NamedLink as CodeNamed}
use Rattle.verilog_tree.specs.declared.tree.Links.{Links as CodeLinks}
use Rattle.verilog_tree.specs.declared.tree.Links.TheVariants as links
use Rattle.verilog_tree.specs.declared.tree.Instance.{Instance as CodeInstance}
use Rattle.verilog_tree.specs.declared.tree.HeadPort.{HeadPort as CodePort}
use Rattle.verilog_tree.specs.declared.tree.HeadPort.TheVariants as ports
use Rattle.verilog_tree.specs.declared.tree.Head.{Head as CodeHead}
use Rattle.verilog_tree.specs.declared.tree.Head.TheVariants as heads
use Rattle.verilog_tree.specs.declared.tree.Item.{Item as CodeItem}
use Rattle.verilog_tree.specs.declared.tree.Item.TheVariants as items
use Rattle.verilog_tree.specs.declared.tree.Module.{Module as CodeModule}
use Rattle.verilog_tree.specs.declared.tree.Source.{Source}
use Rattle.verilog_tree.specs.Trees.{Expr, Exprs, end, more, Name, Bit, Part, Join, NamedLink, Links, Named, Ordered, Instance, HeadPort, Full, Bare, Head, Plain, Ports, Item, PortItem, Wires, Assigns, Instances, Module}

abbrev mutual
  pub view_expr : code.Expr → Expr
  view_expr (code.Name n) = Name n
  view_expr (code.Bit n i) = Bit n i
  view_expr (code.Part n i j) = Part n i j
  view_expr (code.Join' shape all) = Join (view_row all)

  pub view_row : {m : _} → code.Row_of-Expr m → Exprs
  view_row code.end_of-Expr = end
  view_row (code.more_of-Expr e rest) = more (view_expr e) (view_row rest)

abbrev pub view_optional : Option code.Expr → Option Expr
view_optional None = None
view_optional (Some e) = Some (view_expr e)

abbrev pub view_pair : code.Expr × code.Expr → Expr × Expr
view_pair p = (view_expr p.0, view_expr p.1)

abbrev pub view_named : CodeNamed → NamedLink
view_named l = record { name = l.name; expr = view_optional l.expr }

abbrev pub view_links : CodeLinks → Links
view_links (links.Named ls) = Named (map view_named ls)
view_links (links.Ordered ls) = Ordered (map view_optional ls)

abbrev pub view_instance : CodeInstance → Instance
view_instance i = record { name = i.name; links = view_links i.links }

abbrev pub view_port : CodePort → HeadPort
view_port (ports.Full d b r n) = Full d b r n
view_port (ports.Bare n) = Bare n

abbrev pub view_head : CodeHead → Head
view_head (heads.Plain ns) = Plain ns
view_head (heads.Full ps) = Ports (map view_port ps)

abbrev pub view_item : CodeItem → Item
view_item (items.Ports d b r ns) = PortItem d b r ns
view_item (items.Wires r ns) = Wires r ns
view_item (items.Assigns pairs) = Assigns (map view_pair pairs)
view_item (items.Instances kind is) = Instances kind (map view_instance is)

abbrev pub view_module : CodeModule → Module
view_module m = record { name = m.name; head = view_head m.head; items = map view_item m.items }

abbrev pub view_source : Source → List Module
view_source s = map view_module s.modules
