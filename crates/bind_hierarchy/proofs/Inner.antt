-- The modules of the instances in a module, and the graph that they make.
use Rattle.std.proofs.Common.{◌≡◌, ◌≢◌, ◌∙◌, ◌<◌, ◌≤◌, ◌↔◌, ◌++◌, ◌⊎◌, inl, inr, ℕ, Bool, List, [], ◌∷◌, Option, Some, None, map, length, refl, sym, ap, arith, subst, get_or, take, append-nil, ◌+◌}
use Rattle.std.specs.Prelude.{slice_get}
use Rattle.std.specs.List.{filter_map, cons_option, Contains}
use Rattle.std.specs.Option.{option_and_then, option_map}
use Rattle.std.proofs.lemmas.Bool.{cases_lt, cases_order}
use Rattle.std.proofs.lemmas.Option.{slice_get_within, slice_get-get_or, get_or_from_slice_get, slice_get-map}
use Rattle.std.proofs.Math.ListN.{get_or-eq_default}
use Rattle.std.proofs.lemmas.List.{length-map, get_or_default, take_more}
use Rattle.std.proofs.lemmas.List.Elements.{filter_map-append, Contains-get_or, Contains-append_left, Contains-append_right, Contains-append_cases, Contains-push, Contains-push_cases}
use Rattle.rsfq_ids.specs.declared.table.CellTable.{CellTable}
use Rattle.verilog_tree.specs.Trees.{Module, Item, PortItem, Wires, Assigns, Instances, Instance}
use Rattle.name_table.specs.declared.places.FirstNames.{FirstNames}
use Rattle.name_table.specs.Places.{place_of}
use Rattle.graph_rings.specs.Graph.{edges_of, HasEdge, IsGraph}
use Rattle.bind_hierarchy.specs.Names.{IsFirstPlace, module_names, cell_names}
use Rattle.bind_hierarchy.specs.Kinds.{type_of, inner_of, inner_modules}
use Rattle.bind_hierarchy.specs.Modules.{IsModuleNamed, MeansModule, Instantiates}
use Rattle.bind_hierarchy.specs.Graph.{IsModuleGraph}

pub filter_map-map : {X Y Z : Type 0} (f : Y → Option Z) (g : X → Y) (xs : List X) → filter_map f (map g xs) ≡ filter_map (λ x. f (g x)) xs
filter_map-map f g [] = refl
filter_map-map f g (x ∷ xs) = ap (cons_option (f (g x))) (filter_map-map f g xs)

head_in : {X : Type 0} (x : X) (xs : List X) → Contains (x ∷ xs) x
head_in x xs = Contains-append_left (x ∷ []) xs x (Contains-push [] x)

rest_in : {X : Type 0} (x y : X) (xs : List X) → Contains xs y → Contains (x ∷ xs) y
rest_in x y xs c = Contains-append_right (x ∷ []) xs y c

none_in : {X A : Type 0} (y : X) → Contains {X = X} [] y → A
none_in {X} y c = let l : c.0 < length {A = X} [] = c.1 in absurd (omega arith)

in_cases : {X : Type 0} (x y : X) (xs : List X) → Contains (x ∷ xs) y → (x ≡ y) ⊎ Contains xs y
in_cases x y xs c = elim (Contains-append_cases (x ∷ []) xs y c) [
  | inl one ↦ elim (Contains-push_cases [] x y one) [ inl none ↦ none_in y none | inr same ↦ inl same ]
  | inr rest ↦ inr rest
]

-- what a filter keeps comes from an item
kept_from : {X : Type 0} (f : X → Option ℕ) (xs : List X) (n : ℕ) → Contains (filter_map f xs) n → (x : X) × Contains xs x × (f x ≡ Some n)
kept_from f [] n c = none_in n c
kept_from f (x ∷ xs) n c = go (f x) refl c (λ k. kept_from f xs n k) where
  go : (o : Option ℕ) → f x ≡ o → Contains (cons_option o (filter_map f xs)) n → (Contains (filter_map f xs) n → (y : _) × Contains xs y × (f y ≡ Some n)) → (y : _) × Contains (x ∷ xs) y × (f y ≡ Some n)
  go None e c deep = let r = deep c in (r.0, rest_in x r.0 xs r.1, r.2)
  go (Some m) e c deep = elim (in_cases m n (filter_map f xs) c) [
    | inl same ↦ (x, head_in x xs, e ∙ ap Some same)
    | inr more ↦ let r = deep more in (r.0, rest_in x r.0 xs r.1, r.2)
  ]

-- and each item that it keeps is there
kept_to : {X : Type 0} (f : X → Option ℕ) (xs : List X) (n : ℕ) (x : X) → Contains xs x → f x ≡ Some n → Contains (filter_map f xs) n
kept_to f [] n x c e = none_in x c
kept_to f (y ∷ xs) n x c e = elim (in_cases y x xs c) [
  | inl same ↦ subst (λ (o : Option ℕ). Contains (cons_option o (filter_map f xs)) n) (sym (ap f same ∙ e)) (head_in n (filter_map f xs))
  | inr more ↦ go (f y) (kept_to f xs n x more e)
] where
  go : (o : Option ℕ) → Contains (filter_map f xs) n → Contains (cons_option o (filter_map f xs)) n
  go None c = c
  go (Some m) c = rest_in m n (filter_map f xs) c

-- ---- names and places

pub some_same : {X : Type 0} (a b : X) → Some a ≡ Some b → a ≡ b
some_same a b e = cc

pub named_at : (modules : List Module) (at : ℕ) (name : List ℕ) → slice_get (module_names modules) at ≡ Some name → IsModuleNamed modules at name
named_at modules at name e = go (slice_get modules at) refl where
  go : (o : Option Module) → slice_get modules at ≡ o → IsModuleNamed modules at name
  go None is = absurd (let no : None ≡ Some name = sym (slice_get-map (λ (m : Module). m.name) modules at ∙ ap (option_map (λ (m : Module). m.name)) is) ∙ e in cc)
  go (Some holder) is =
      let yes : Some holder.name ≡ Some name = sym (slice_get-map (λ (m : Module). m.name) modules at ∙ ap (option_map (λ (m : Module). m.name)) is) ∙ e in
      (holder, is, some_same holder.name name yes)

pub at_named : (modules : List Module) (at : ℕ) (name : List ℕ) → IsModuleNamed modules at name → slice_get (module_names modules) at ≡ Some name
at_named modules at name h = slice_get-map (λ (m : Module). m.name) modules at ∙ (ap (option_map (λ (m : Module). m.name)) h.1 ∙ ap Some h.2)

pub means_first : (modules : List Module) (name : List ℕ) (at : ℕ) → IsFirstPlace (module_names modules) name (Some at) → MeansModule modules name at
means_first modules name at f = (named_at modules at name f.0, λ earlier below h. f.1 earlier below (at_named modules earlier name h))

-- a first place is the only one
pub first_means : (modules : List Module) (name : List ℕ) (at : ℕ) (r : Option ℕ) → IsFirstPlace (module_names modules) name r → MeansModule modules name at → r ≡ Some at
first_means modules name at None f m = absurd (f at (at_named modules at name m.0))
first_means modules name at (Some place) f m = elim (cases_order place at) [
  | inl same ↦ ap Some same
  | inr apart ↦ elim apart [
    | inl low ↦ absurd (m.1 place low (named_at modules place name f.0))
    | inr high ↦ absurd (f.1 at high (at_named modules at name m.0))
  ]
]

-- ---- the graph

module _ (modules : List Module) (names : FirstNames) (firsts : (name : List ℕ) → IsFirstPlace (module_names modules) name (place_of names name)) where
  row_of : (outer : ℕ) (holder : Module) → slice_get modules outer ≡ Some holder → edges_of (map (inner_modules names) modules) outer ≡ inner_modules names holder
  row_of outer holder e = get_or_from_slice_get (map (inner_modules names) modules) outer (inner_modules names holder) [] (slice_get-map (inner_modules names) modules outer ∙ ap (option_map (inner_modules names)) e)

  holder_of : (outer inner : ℕ) → HasEdge (map (inner_modules names) modules) outer inner → (holder : Module) × (slice_get modules outer ≡ Some holder)
  holder_of outer inner edge = go (slice_get modules outer) refl where
    go : (o : Option Module) → slice_get modules outer ≡ o → (holder : Module) × (slice_get modules outer ≡ Some holder)
    go (Some holder) e = (holder, e)
    go None e = elim (cases_lt outer (length (map (inner_modules names) modules))) [
      | inl l ↦ absurd (let no : None ≡ Some (get_or (map (inner_modules names) modules) outer []) = sym (slice_get-map (inner_modules names) modules outer ∙ ap (option_map (inner_modules names)) e) ∙ slice_get-get_or (map (inner_modules names) modules) outer [] l in cc)
      | inr past ↦ none_in inner (subst (λ (l : List ℕ). Contains l inner) (get_or-eq_default (map (inner_modules names) modules) [] past) edge)
    ]

  of_item : (outer inner : ℕ) (holder : Module) (item : Item) → slice_get modules outer ≡ Some holder → Contains holder.items item → inner_of names item ≡ Some inner → Instantiates modules outer inner
  of_item outer inner holder (Instances kind (first ∷ rest)) there stands is = record {
    holder = holder;
    there = there;
    kind = kind;
    instances = first ∷ rest;
    stands = stands;
    some = omega arith;
    means = means_first modules kind inner (subst (λ (r : Option ℕ). IsFirstPlace (module_names modules) kind r) is (firsts kind));
  }
  of_item outer inner holder (Instances kind []) there stands is = absurd (let no : None ≡ Some inner = is in cc)
  of_item outer inner holder (PortItem d w r ns) there stands is = absurd (let no : None ≡ Some inner = is in cc)
  of_item outer inner holder (Wires r ns) there stands is = absurd (let no : None ≡ Some inner = is in cc)
  of_item outer inner holder (Assigns pairs) there stands is = absurd (let no : None ≡ Some inner = is in cc)

  instances_of : (kind : List ℕ) (inner : ℕ) (instances : List Instance) → 0 < length instances → place_of names kind ≡ Some inner → inner_of names (Instances kind instances) ≡ Some inner
  instances_of kind inner [] some e = absurd (omega (arith, some))
  instances_of kind inner (first ∷ rest) some e = e

  edge_of : (outer inner : ℕ) → Instantiates modules outer inner → HasEdge (map (inner_modules names) modules) outer inner
  edge_of outer inner i =
      let place : place_of names i.kind ≡ Some inner = first_means modules i.kind inner (place_of names i.kind) (firsts i.kind) i.means in
      subst (λ (l : List ℕ). Contains l inner) (sym (row_of outer i.holder i.there))
      (kept_to (inner_of names) i.holder.items inner (Instances i.kind i.instances) i.stands (instances_of i.kind inner i.instances i.some place))

  of_edge : (outer inner : ℕ) → HasEdge (map (inner_modules names) modules) outer inner → Instantiates modules outer inner
  of_edge outer inner edge =
      let h = holder_of outer inner edge in
      let k = kept_from (inner_of names) h.0.items inner (subst (λ (l : List ℕ). Contains l inner) (row_of outer h.0 h.1) edge) in
      of_item outer inner h.0 k.0 h.1 k.1 k.2

  pub graphed : IsModuleGraph modules (map (inner_modules names) modules)
  graphed = record {
    nodes = length-map modules (inner_modules names);
    is_graph = λ outer d ol k e kl.
        let same : get_or (map (inner_modules names) modules) outer d ≡ edges_of (map (inner_modules names) modules) outer = get_or_default (map (inner_modules names) modules) outer d [] ol in
        let edge : HasEdge (map (inner_modules names) modules) outer (get_or (get_or (map (inner_modules names) modules) outer d) k e) = subst (λ (l : List ℕ). Contains l (get_or (get_or (map (inner_modules names) modules) outer d) k e)) same (Contains-get_or (get_or (map (inner_modules names) modules) outer d) k e kl) in
        let i = of_edge outer (get_or (get_or (map (inner_modules names) modules) outer d) k e) edge in
        let near : get_or (get_or (map (inner_modules names) modules) outer d) k e < length modules = slice_get_within modules (get_or (get_or (map (inner_modules names) modules) outer d) k e) i.means.0.0 i.means.0.1 in
        omega (arith, near, length-map modules (inner_modules names));
    edges = λ outer inner. (of_edge outer inner, edge_of outer inner);
  }

-- ---- loops

take_next : {X : Type 0} (items : List X) (i : ℕ) (item : X) → i < length items → item ≡ get_or items i item → take (i + 1) items ≡ take i items ++ item ∷ []
take_next items i item l is = take_more items i item l ∙ ap (λ (x : _). take i items ++ x ∷ []) (sym is)

pub filter_some : {X : Type 0} (f : X → Option ℕ) (items : List X) (i : ℕ) (item : X) (m : ℕ) → i < length items → item ≡ get_or items i item → f item ≡ Some m → filter_map f (take (i + 1) items) ≡ filter_map f (take i items) ++ m ∷ []
filter_some f items i item m l is e =
    ap (λ (xs : List _). filter_map f xs) (take_next items i item l is) ∙ (filter_map-append f (take i items) (item ∷ []) ∙ ap (λ (o : Option ℕ). filter_map f (take i items) ++ cons_option o []) e)

pub filter_none : {X : Type 0} (f : X → Option ℕ) (items : List X) (i : ℕ) (item : X) → i < length items → item ≡ get_or items i item → f item ≡ None → filter_map f (take (i + 1) items) ≡ filter_map f (take i items)
filter_none f items i item l is e =
    ap (λ (xs : List _). filter_map f xs) (take_next items i item l is) ∙ (filter_map-append f (take i items) (item ∷ []) ∙ (ap (λ (o : Option ℕ). filter_map f (take i items) ++ cons_option o []) e ∙ append-nil (filter_map f (take i items))))

pub map_map : {X Y Z : Type 0} (f : Y → Z) (g : X → Y) (xs : List X) → map f (map g xs) ≡ map (λ x. f (g x)) xs
map_map f g [] = refl
map_map f g (x ∷ xs) = ap (λ (ys : List _). f (g x) ∷ ys) (map_map f g xs)
