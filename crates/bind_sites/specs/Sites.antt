-- The sites of a module: its name, the ports, declarations, instances, links and operands in it, in text order. All that binding says of a module it says of this list.
use Rattle.std.specs.Prelude.{ℕ, Bool, true, false, List, [], ◌∷◌, ◌++◌, map, Option, Some, None}
use Rattle.std.specs.List.{flat_map, enumerate_from}
use Rattle.verilog_tree.specs.declared.tree.Dir.{Dir}
use Rattle.verilog_tree.specs.declared.tree.Dir.TheVariants as dir
use Rattle.verilog_tree.specs.Trees as tree

-- A name as it stands in an expression: whole, or with the bits that are selected, from the left one to the right one.
pub record Operand : Type 0 where
  pub name : List ℕ
  pub select : Option (ℕ × ℕ)

-- The operands of an expression, from the left. The bit a[3] is selected as the part a[3:3] is.
abbrev mutual
  pub operands : tree.Expr → List Operand
  operands (tree.Name n) = record { name = n; select = None } ∷ []
  operands (tree.Bit n at) = record { name = n; select = Some (at, at) } ∷ []
  operands (tree.Part n left right) = record { name = n; select = Some (left, right) } ∷ []
  operands (tree.Join all) = operands_in all

  pub operands_in : tree.Exprs → List Operand
  operands_in tree.end = []
  operands_in (tree.more one rest) = operands one ++ operands_in rest

pub data Site : Type 0 where
  -- the name of the module itself
  Module : List ℕ → Site
  -- a port in the head
  Listed : List ℕ → Site
  -- a direction for a name, in the head or in an item: the name, whether it is an output, its range
  Port : List ℕ → Bool → Option (ℕ × ℕ) → Site
  -- a name that is declared as a wire, and its range
  Wire : List ℕ → Option (ℕ × ℕ) → Site
  -- an assign: the side that is set, and the side that it is set from
  Assign : tree.Expr → tree.Expr → Site
  -- an instance: the name of its kind, its own name, and its links
  Instance : List ℕ → List ℕ → tree.Links → Site
  -- a link by name: the kind of its instance, the name of the port, and the expression if there is one
  Named : List ℕ → List ℕ → Option tree.Expr → Site
  -- a link by order: the kind of its instance, its place from 0, and the expression if there is one
  Ordered : List ℕ → ℕ → Option tree.Expr → Site
  -- an operand of an assign
  Assigned : Operand → Site
  -- an operand of a link
  Linked : Operand → Site

abbrev pub is_output : Dir → Bool
is_output dir.Input = false
is_output dir.Output = true

-- a port in the head, with direction and range where they are said
abbrev pub port_sites : Option (Bool × Option (ℕ × ℕ)) → List ℕ → List Site
port_sites None name = Listed name ∷ []
port_sites (Some said) name = Listed name ∷ Port name said.0 said.1 ∷ []

-- Ports that are declared in the head. A bare name has direction and range of the port before it.
abbrev pub full_sites : Option (Bool × Option (ℕ × ℕ)) → List tree.HeadPort → List Site
full_sites before [] = []
full_sites before (tree.Full d wire range n ∷ ports) = port_sites (Some (is_output d, range)) n ++ full_sites (Some (is_output d, range)) ports
full_sites before (tree.Bare n ∷ ports) = port_sites before n ++ full_sites before ports

abbrev pub head_sites : tree.Head → List Site
head_sites (tree.Plain names) = map Listed names
head_sites (tree.Ports ports) = full_sites None ports

-- an assign, and then its operands
abbrev pub assign_sites : tree.Expr × tree.Expr → List Site
assign_sites (to, from) = Assign to from ∷ (map Assigned (operands to) ++ map Assigned (operands from))

-- the operands of a link
abbrev pub linked_sites : Option tree.Expr → List Site
linked_sites None = []
linked_sites (Some expr) = map Linked (operands expr)

abbrev pub named_sites : List ℕ → tree.NamedLink → List Site
named_sites kind link = Named kind link.name link.expr ∷ linked_sites link.expr

abbrev pub ordered_sites : List ℕ → ℕ × Option tree.Expr → List Site
ordered_sites kind (place, expr) = Ordered kind place expr ∷ linked_sites expr

abbrev pub link_sites : List ℕ → tree.Links → List Site
link_sites kind (tree.Named links) = flat_map (named_sites kind) links
link_sites kind (tree.Ordered links) = flat_map (ordered_sites kind) (enumerate_from 0 links)

-- an instance, and then its links, each with its operands behind it
abbrev pub instance_sites : List ℕ → tree.Instance → List Site
instance_sites kind instance = Instance kind instance.name instance.links ∷ link_sites kind instance.links

abbrev pub item_sites : tree.Item → List Site
item_sites (tree.PortItem d wire range names) = map (λ n. Port n (is_output d) range) names
item_sites (tree.Wires range names) = map (λ n. Wire n range) names
item_sites (tree.Assigns pairs) = flat_map assign_sites pairs
item_sites (tree.Instances kind instances) = flat_map (instance_sites kind) instances

-- The sites of a module in text order.
abbrev pub sites : tree.Module → List Site
sites owner = Module owner.name ∷ (head_sites owner.head ++ flat_map item_sites owner.items)

-- the names of the ports in a head, in port order
abbrev pub listed_port : tree.HeadPort → List ℕ
listed_port (tree.Full d wire range n) = n
listed_port (tree.Bare n) = n

abbrev pub port_names : tree.Head → List (List ℕ)
port_names (tree.Plain names) = names
port_names (tree.Ports ports) = map listed_port ports
