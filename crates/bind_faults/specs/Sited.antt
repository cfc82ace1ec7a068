-- What is refused at one site, by what stands there.
use Rattle.std.specs.Prelude.{◌≡◌, ℕ, ◌<◌, List, length}
use Rattle.std.specs.List.{Contains}
use Rattle.verilog_tree.specs.Trees.{Links, Named as NamedLinks, Ordered as OrderedLinks}
use Rattle.bind_sites.specs.Sites.{Site, Listed, Port, Instance, Named}
use Rattle.bind_sites.specs.Scope.{Stands, HasDirection}
use Rattle.bind_forms.specs.Modules.{Setting, HasPorts}
use Rattle.bind_forms.specs.Faults.{HasSites}
use Rattle.bind_kinds.specs.Ports.{HasPortCount}

-- a fact about the sites of the module at a place of the text
abbrev pub InModule : Setting → ℕ → (List Site → Type 0) → Type 0
InModule setting at Fact = (all : List Site) × HasSites setting at all × Fact all

-- a kind has ports, and none of this name
abbrev pub IsNoPort : Setting → List ℕ → List ℕ → Type 0
IsNoPort setting kind name = (names : List (List ℕ)) × HasPorts setting kind names × (¬ Contains names name)

-- the site is of a port that there is not
abbrev pub LacksPort : Setting → List Site → Site → List ℕ → Type 0
LacksPort setting all (Listed n) name = (n ≡ name) × (¬ HasDirection all n)
LacksPort setting all (Port n output range) name = (n ≡ name) × (¬ Stands all (Listed n))
LacksPort setting all (Named kind n expr) name = (n ≡ name) × IsNoPort setting kind n
LacksPort setting all _ name = ⊥

-- more than a kind has ports
abbrev pub HasMore : Setting → List ℕ → ℕ → ℕ → Type 0
HasMore setting kind have want = HasPortCount setting kind want × (want < have)

-- more links by order than a kind has ports
abbrev pub HasMoreLinks : Setting → List ℕ → Links → ℕ → ℕ → Type 0
HasMoreLinks setting kind (NamedLinks links) have want = ⊥
HasMoreLinks setting kind (OrderedLinks links) have want = (have ≡ length links) × HasMore setting kind have want

-- the site is of an instance with more links by order than its kind has ports
abbrev pub HasMoreAt : Setting → Site → ℕ → ℕ → Type 0
HasMoreAt setting (Instance kind name links) have want = HasMoreLinks setting kind links have want
HasMoreAt setting _ have want = ⊥
