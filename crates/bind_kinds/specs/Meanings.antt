-- What the kinds at the sites of a module mean.
use Rattle.std.specs.Prelude.{ℕ, List, [], ◌∷◌, map, Option}
use Rattle.verilog_tree.specs.Trees as tree
use Rattle.bind_sites.specs.Sites.{Site, Instance, Named, Ordered}
use Rattle.bind_hierarchy.specs.declared.kinds.Meaning.{Meaning}
use Rattle.bind_hierarchy.specs.Modules.{Means}
use Rattle.bind_forms.specs.Modules.{Setting}
use Rattle.bind_kinds.specs.declared.netlist.KindName.{KindName}

-- what the name of a kind means
abbrev pub KindMeans : Setting → List ℕ → Option Meaning → Type 0
KindMeans setting name meaning = Means setting.modules setting.table name meaning

abbrev pub IsMeant : Setting → KindName → Type 0
IsMeant setting kind = KindMeans setting kind.name.now kind.meaning

-- what the kind at a site means: that of an instance, or of a link's instance
abbrev pub IsMeantAt : Setting → Site → Option Meaning → Type 0
IsMeantAt setting (Instance kind name links) meaning = KindMeans setting kind meaning
IsMeantAt setting (Named kind name expr) meaning = KindMeans setting kind meaning
IsMeantAt setting (Ordered kind place expr) meaning = KindMeans setting kind meaning
IsMeantAt setting _ meaning = Unit {0}

-- the kinds of the instances in an item, once for each
abbrev pub instance_kinds : tree.Item → List (List ℕ)
instance_kinds (tree.Instances kind instances) = map (λ instance. kind) instances
instance_kinds _ = []

-- Sites behind an instance whose kind has the meaning `last`, where the kinds of their own instances have these meanings in turn: each link is of the instance that stands last before it.
abbrev pub AreLinked : Setting → Option Meaning → List Site → List (Option Meaning) → Type 0
AreLinked setting last [] meanings = Unit {0}
AreLinked setting last (Instance kind name links ∷ rest) [] = ⊥
AreLinked setting last (Instance kind name links ∷ rest) (first ∷ meanings) = KindMeans setting kind first × AreLinked setting first rest meanings
AreLinked setting last (Named kind name expr ∷ rest) meanings = KindMeans setting kind last × AreLinked setting last rest meanings
AreLinked setting last (Ordered kind place expr ∷ rest) meanings = KindMeans setting kind last × AreLinked setting last rest meanings
AreLinked setting last (_ ∷ rest) meanings = AreLinked setting last rest meanings
