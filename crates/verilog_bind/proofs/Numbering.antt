-- One wire more, and what the wires of a module are in the end.
use Rattle.std.proofs.Common.{◌≡◌, ◌≢◌, ◌⊎◌, inl, inr, ℕ, ◌+◌, ◌<◌, Bool, true, false, List, [], ◌∷◌, ◌++◌, map, length, take, Option, Some, None, MatchOption, refl, sym, ◌∙◌, ap, subst, arith, rules}
use Rattle.std.specs.Prelude.{slice_get}
use Rattle.std.specs.Str.{bytes_eq}
use Rattle.std.specs.List.{AllZip, Contains, filter_map}
use Rattle.std.proofs.lemmas.List.{map_push}
use Rattle.std.proofs.lemmas.List.Elements.{All-push, Contains-append_left, Contains-push}
use Rattle.std.proofs.lemmas.List.Quantifiers.{all_pairs_push}
use Rattle.std.proofs.lemmas.Option.{slice_get_within}
use Rattle.std.proofs.lemmas.Slice.Eq.{bytes_eq-Decides}
use Rattle.name_table.specs.declared.places.FirstNames.{FirstNames}
use Rattle.name_table.specs.Places.{place_of, first_place, Sees}
use Rattle.bind_forms.specs.declared.bound.BoundPort.{BoundPort}
use Rattle.bind_forms.specs.declared.bound.BoundWire.{BoundWire}
use Rattle.bind_forms.specs.WellFormed.{port_wire}
use Rattle.bind_forms.specs.Binds.{BindsPort, MakesWire, ByDeclaration, ByUse}
use Rattle.verilog_tree.specs.Trees as tree
use Rattle.verilog_bind.proofs.Listing.{listed_sites}
use Rattle.bind_sites.specs.Sites.{sites, port_names, Operand, Site, Module, Listed, Port, Wire, Assign, Instance, Named, Ordered, Assigned, Linked}
use Rattle.bind_sites.specs.Scope.{IsAt, Stands, IsPort, HasDirection, HasDeclaration, IsLinked, IsKnown, HasRange, AsPort, AsWire, AsLinked}
use Rattle.bind_sites.specs.Again.{listed_name}
use Rattle.verilog_bind.specs.declared.wires.Wires.{Wires}
use Rattle.verilog_bind.specs.Fitting.{IsSound}
use Rattle.verilog_bind.specs.Numbered.{sites_in, IsNumberOf, AreWires, AreNumbered, IsMadeBefore, AreMadeNames, Puts, HasPortsTo, AreOthersTo, HasOthersTo}
use Rattle.verilog_bind.proofs.Found.{Somewhere, same_some, one_item, found_contains, found_left, found_right, found_cases, mapped, found_mapped, taken, all_at}
use Rattle.verilog_bind.proofs.Made.{not_used, one_operand, unused_before}
use Rattle.verilog_bind.proofs.Zips.{zip_at, zip_from, zip_push, get_left, get_last, get_cases, filter_none, filter_one}

abbrev wire_of : List ℕ → Option (ℕ × ℕ) → BoundWire
wire_of n r = record { name = n; range = r }

abbrev NumberedAt : List BoundWire → List ℕ → Option ℕ → Type 0
NumberedAt list name place = MatchOption place ((number : ℕ) (wire : BoundWire) → slice_get list number ≡ Some wire → wire.name ≢ name)
    (λ number. (wire : BoundWire) × (slice_get list number ≡ Some wire) × (wire.name ≡ name))

-- a wire of another name changes nothing for a name
other_name : (list : List BoundWire) (wire : BoundWire) (name : List ℕ) (place : Option ℕ) → wire.name ≢ name → NumberedAt list name place → NumberedAt (list ++ wire ∷ []) name place
other_name list wire name None differs h = λ number other there. elim (get_cases list wire other number there) [
  | inl before ↦ h number other before
  | inr same ↦ λ named. differs (ap (λ (w : BoundWire). w.name) same ∙ named)
]
other_name list wire name (Some number) differs h = (h.0, get_left list (wire ∷ []) number h.0 h.1, h.2)

this_name : (list : List BoundWire) (wire : BoundWire) (place : Option ℕ) → NumberedAt list wire.name place → NumberedAt (list ++ wire ∷ []) wire.name (first_place place (length list))
this_name list wire None h = (wire, get_last list wire, refl)
this_name list wire (Some number) h = (h.0, get_left list (wire ∷ []) number h.0 h.1, h.2)

pub numbered_more : (list : List BoundWire) (wire : BoundWire) (old new : FirstNames) → AreNumbered list old → Sees old new wire.name (length list) → AreNumbered (list ++ wire ∷ []) new
numbered_more list wire old new before sees name = by_name (bytes_eq wire.name name) refl where
  by_name : (b : Bool) → bytes_eq wire.name name ≡ b → NumberedAt (list ++ wire ∷ []) name (place_of new name)
  by_name true e =
      let same : wire.name ≡ name = search (rules, bytes_eq-Decides) in
      let place : place_of new name ≡ first_place (place_of old wire.name) (length list) = rw e at (sees name) in
      rw (place, ← same) (this_name list wire (place_of old wire.name) (before wire.name))
  by_name false e =
      let place : place_of new name ≡ place_of old name = rw e at (sees name) in
      let differs : wire.name ≢ name = λ same. absurd (search (rules, bytes_eq-Decides)) in
      rw place (other_name list wire name (place_of old name) differs (before name))

pub put_numbered : (old new : Wires) (wire : BoundWire) → Puts old new wire → AreNumbered old.list old.numbers → AreNumbered new.list new.numbers
put_numbered old new wire puts before = subst (λ (l : List BoundWire). AreNumbered l new.numbers) (sym puts.list) (numbered_more old.list wire old.numbers new.numbers before puts.seen)

-- ---- ports

pub listed_here : (all : List Site) (at : ℕ) (site : Site) (name : List ℕ) → IsAt all at site → listed_name site ≡ Some name → Stands all (Listed name)
listed_here all at (Listed n) name there e = (at, subst (λ (m : List ℕ). IsAt all at (Listed m)) (same_some n name e) there)
listed_here all at (Module n) name there e = absurd cc
listed_here all at (Port n o r) name there e = absurd cc
listed_here all at (Wire n r) name there e = absurd cc
listed_here all at (Assign t f) name there e = absurd cc
listed_here all at (Instance k n l) name there e = absurd cc
listed_here all at (Named k n x) name there e = absurd cc
listed_here all at (Ordered k p x) name there e = absurd cc
listed_here all at (Assigned o) name there e = absurd cc
listed_here all at (Linked o) name there e = absurd cc

pub ports_none : (all : List Site) (at : ℕ) (site : Site) (wires : Wires) → IsAt all at site → listed_name site ≡ None → HasPortsTo all at wires → HasPortsTo all (at + 1) wires
ports_none all at site wires there is before = record {
  ports = subst (λ (names : List (List ℕ)). AllZip (BindsPort all) names wires.ports) (sym (filter_none listed_name all at site there is)) before.ports;
  list = before.list;
  numbers = before.numbers;
  count = before.count;
}

pub ports_more : (all : List Site) (at : ℕ) (site : Site) (name : List ℕ) (output : Bool) (range : Option (ℕ × ℕ)) (port : BoundPort) (old mid : Wires) (ports : List BoundPort) → IsAt all at site → listed_name site ≡ Some name
    → IsPort all name output range → port ≡ record { name = name; output = output; range = range } → HasPortsTo all at old → Puts old mid (wire_of name range) → mid.ports ≡ old.ports → ports ≡ mid.ports ++ port ∷ []
    → HasPortsTo all (at + 1) (record mid { ports = ports })
ports_more all at site name output range port old mid ports there is declared port_is before puts kept pushed =
    let pushed_to : ports ≡ old.ports ++ port ∷ [] = pushed ∙ ap (λ (l : List BoundPort). l ++ port ∷ []) kept in
    let port_name : port.name ≡ name = ap (λ (p : BoundPort). p.name) port_is in
    let port_declared : IsPort all name port.output port.range = subst (λ (p : BoundPort). IsPort all name p.output p.range) (sym port_is) declared in
    let wired : port_wire port ≡ wire_of name range = ap port_wire port_is in
    record {
      ports = subst (λ (names : List (List ℕ)). AllZip (BindsPort all) names ports) (sym (filter_one listed_name all at site name there is))
          (subst (λ (l : List BoundPort). AllZip (BindsPort all) (filter_map listed_name (take at all) ++ name ∷ []) l) (sym pushed_to)
          (zip_push (BindsPort all) (filter_map listed_name (take at all)) old.ports name port before.ports (record { name_is = port_name; declared = port_declared })));
      list = puts.list ∙ ap (λ (l : List BoundWire). l ++ wire_of name range ∷ []) before.list ∙ ap (λ (w : BoundWire). map port_wire old.ports ++ w ∷ []) (sym wired) ∙ sym (map_push port_wire old.ports port)
          ∙ ap (map port_wire) (sym pushed_to);
      numbers = put_numbered old mid (wire_of name range) puts before.numbers;
      count = puts.count;
    }

-- ---- other wires

others_none : (all : List Site) (at : ℕ) (others : List BoundWire) → ((wire : BoundWire) → ¬ MakesWire all at wire) → AreOthersTo all at others → AreOthersTo all (at + 1) others
others_none all at others none before = record {
  places = before.places;
  rising = before.rising;
  below = λ k d lt. omega (arith, before.below k d lt);
  each = before.each;
  each_is = λ place wire lt makes. elim (below place at lt) [
    | inl b ↦ before.each_is place wire b makes
    | inr e ↦ absurd (none wire (subst (λ (n : ℕ). MakesWire all n wire) e makes))
  ];
} where
  below : (place limit : ℕ) → place < limit + 1 → (place < limit) ⊎ (place ≡ limit)
  below place limit h = grind arith

others_more : (all : List Site) (at : ℕ) (others : List BoundWire) (made : BoundWire) → MakesWire all at made → AreOthersTo all at others → AreOthersTo all (at + 1) (others ++ made ∷ [])
others_more all at others made makes before = record {
  places = before.places ++ at ∷ [];
  rising = all_pairs_push (λ (one other : ℕ). one < other) before.places at before.rising before.below;
  below = All-push (λ (place : ℕ). place < at + 1) before.places at (λ k d lt. omega (arith, before.below k d lt)) (omega arith);
  each = zip_push (MakesWire all) before.places others at made before.each makes;
  each_is = λ place wire lt other. elim (below place at lt) [
    | inl b ↦ Contains-append_left before.places (at ∷ []) place (before.each_is place wire b other)
    | inr e ↦ subst (λ (n : ℕ). Contains (before.places ++ at ∷ []) n) (sym e) (Contains-push before.places at)
  ];
} where
  below : (place limit : ℕ) → place < limit + 1 → (place < limit) ⊎ (place ≡ limit)
  below place limit h = grind arith

pub makes_none : (all : List Site) (at : ℕ) (wires : Wires) → ((wire : BoundWire) → ¬ MakesWire all at wire) → HasOthersTo all at wires → HasOthersTo all (at + 1) wires
makes_none all at wires none before = record {
  ports = before.ports;
  others = before.others;
  list = before.list;
  others_are = others_none all at before.others none before.others_are;
  numbers = before.numbers;
  count = before.count;
}

pub makes_more : (all : List Site) (at : ℕ) (made : BoundWire) (old new : Wires) → MakesWire all at made → HasOthersTo all at old → Puts old new made → new.ports ≡ old.ports → HasOthersTo all (at + 1) new
makes_more all at made old new makes before puts kept = record {
  ports = subst (λ (l : List BoundPort). AllZip (BindsPort all) (filter_map listed_name all) l) (sym kept) before.ports;
  others = before.others ++ made ∷ [];
  list = puts.list ∙ ap (λ (l : List BoundWire). l ++ made ∷ []) before.list ∙ append_assoc (map port_wire old.ports) before.others (made ∷ []) ∙ ap (λ (l : List BoundPort). map port_wire l ++ (before.others ++ made ∷ [])) (sym kept);
  others_are = others_more all at before.others made makes before.others_are;
  numbers = put_numbered old new made puts before.numbers;
  count = puts.count;
} where
  append_assoc : (xs ys zs : List BoundWire) → (xs ++ ys) ++ zs ≡ xs ++ (ys ++ zs)
  append_assoc [] ys zs = refl
  append_assoc (x ∷ xs) ys zs = ap (λ (l : List BoundWire). x ∷ l) (append_assoc xs ys zs)

-- ---- in the end

abbrev whole : List ℕ → Operand
whole n = record { name = n; select = None }

-- a wire that a site makes has the range of its name
made_range : (all : List Site) (at : ℕ) (wire : BoundWire) → MakesWire all at wire → HasRange all wire.name wire.range
made_range all at wire (ByDeclaration stands undirected) = AsWire undirected (at, stands)
made_range all at wire (ByUse used first link undirected undeclared is) = AsLinked undirected undeclared link is

made_there : (all : List Site) (at : ℕ) (wire : BoundWire) → MakesWire all at wire → at < length all
made_there all at wire (ByDeclaration stands undirected) = slice_get_within all at (Wire wire.name wire.range) stands
made_there all at wire (ByUse used first link undirected undeclared is) = elim used [
  | inl stands ↦ slice_get_within all at (Assigned (whole wire.name)) stands
  | inr stands ↦ slice_get_within all at (Linked (whole wire.name)) stands
]

-- two wires that a site makes have one name
made_name : (all : List Site) (at : ℕ) (one other : BoundWire) → MakesWire all at one → MakesWire all at other → one.name ≡ other.name
made_name all at one other (ByDeclaration s u) (ByDeclaration t v) = same (one_item all at (Wire one.name one.range) (Wire other.name other.range) s t) where
  same : Wire one.name one.range ≡ Wire other.name other.range → one.name ≡ other.name
  same e = cc
made_name all at one other (ByDeclaration s u) (ByUse t first link v w is) = absurd (not_used all at other.name (Wire one.name one.range) s (λ o e. cc) (λ o e. cc) t)
made_name all at one other (ByUse s first link v w is) (ByDeclaration t u) = absurd (not_used all at one.name (Wire other.name other.range) t (λ o e. cc) (λ o e. cc) s)
made_name all at one other (ByUse s first link u w is) (ByUse t first_too link_too v x is_too) = ap (λ (o : Operand). o.name) (one_operand all at (whole one.name) (whole other.name) s t)

module _ (all : List Site) (limit : ℕ) (wires : Wires) (done : HasOthersTo all limit wires) where
  -- a wire that a site before the place makes is among the wires
  made_among : (at : ℕ) (wire : BoundWire) → at < limit → MakesWire all at wire → (other : BoundWire) × Somewhere wires.list other × (other.name ≡ wire.name)
  made_among at wire lt makes =
      let place = found_contains done.others_are.places at (done.others_are.each_is at wire lt makes) in
      let other = zip_at (MakesWire all) done.others_are.places done.others place.0 at done.others_are.each place.1 in
      (other.0, rw done.list (found_right (map port_wire wires.ports) done.others other.0 (place.0, other.1)), made_name all at other.0 wire other.2 makes)

  -- a wire among the ports has a direction
  port_directed : (wire : BoundWire) → Somewhere (map port_wire wires.ports) wire → (output : Bool) × IsPort all wire.name output wire.range
  port_directed wire s =
      let m = mapped port_wire wires.ports s.0 wire s.1 in
      let bound = zip_from (BindsPort all) (filter_map listed_name all) wires.ports s.0 m.0 done.ports m.1 in
      let declared : IsPort all m.0.name m.0.output m.0.range = subst (λ (n : List ℕ). IsPort all n m.0.output m.0.range) (sym bound.2.name_is) bound.2.declared in
      (m.0.output, subst (λ (w : BoundWire). IsPort all w.name m.0.output w.range) m.2 declared)

  -- the wires so far have the names of the ports and of the wires that are made before
  pub made_names : AreMadeNames all limit wires.numbers
  made_names name = by (place_of wires.numbers name) (done.numbers name) where
    of_wire : (wire : BoundWire) → Somewhere wires.list wire → HasDirection all wire.name ⊎ IsMadeBefore all limit wire.name
    of_wire wire there = elim (found_cases (map port_wire wires.ports) done.others wire (rw done.list at there)) [
      | inl port ↦ (let p = port_directed wire port in inl (p.0, wire.range, p.1))
      | inr other ↦ (let made = zip_from (MakesWire all) done.others_are.places done.others other.0 wire done.others_are.each other.1 in inr (record {
        at = made.0;
        below = all_at (λ (at : ℕ). at < limit) done.others_are.places made.0 done.others_are.below (other.0, made.1);
        wire = wire;
        makes = made.2;
        name_is = refl;
      }))
    ]

    by : (place : Option ℕ) → NumberedAt wires.list name place → MatchOption place (¬ IsMadeBefore all limit name) (λ number. HasDirection all name ⊎ IsMadeBefore all limit name)
    by None h = λ before. let other = made_among before.at before.wire before.below before.makes in h other.1.0 other.0 other.1.1 (other.2 ∙ before.name_is)
    by (Some number) h = subst (λ (n : List ℕ). HasDirection all n ⊎ IsMadeBefore all limit n) h.2 (of_wire h.0 (number, h.1))

module _ (all : List Site) (wires : Wires) (sound : IsSound all) (done : HasOthersTo all (length all) wires) where
  -- a wire that a site makes is among the wires
  made_listed : (at : ℕ) (wire : BoundWire) → MakesWire all at wire → (other : BoundWire) × Somewhere wires.list other × (other.name ≡ wire.name)
  made_listed at wire makes = made_among all (length all) wires done at wire (made_there all at wire makes) makes

  -- so is a port
  port_listed : (name : List ℕ) → Stands all (Listed name) → (other : BoundWire) × Somewhere wires.list other × (other.name ≡ name)
  port_listed name listed =
      let place = taken listed_name all (Listed name) name listed refl in
      let port = zip_at (BindsPort all) (filter_map listed_name all) wires.ports place.0 name done.ports place.1 in
      (port_wire port.0, rw done.list (found_left (map port_wire wires.ports) done.others (port_wire port.0) (found_mapped port_wire wires.ports port.0 (place.0, port.1))), port.2.name_is)

  -- a name that no wire has is not known
  lacks : (name : List ℕ) → ((number : ℕ) (wire : BoundWire) → slice_get wires.list number ≡ Some wire → wire.name ≢ name) → ¬ IsKnown all name
  lacks name none known = elim known [
    | inl has ↦ undirected has
    | inr rest ↦ elim rest [
      | inl has ↦ undeclared has
      | inr link ↦ unlinked link
    ]
  ] where
    no_wire : ((other : BoundWire) × Somewhere wires.list other × (other.name ≡ name)) → ⊥
    no_wire found = none found.1.0 found.0 found.1.1 found.2

    undirected : ¬ HasDirection all name
    undirected has = sound.listed name has (λ listed. no_wire (port_listed name listed))

    undeclared : ¬ HasDeclaration all name
    undeclared has = no_wire (made_listed has.1.0 (wire_of name has.0) (ByDeclaration has.1.1 undirected))

    not_made : ¬ IsMadeBefore all (length all) name
    not_made before = no_wire (let other = made_listed before.at before.wire before.makes in (other.0, other.1, other.2 ∙ before.name_is))

    unlinked : ¬ IsLinked all name
    unlinked link = unused_before all name (length all) undirected undeclared link not_made link.0 (slice_get_within all link.0 (Linked (whole name)) link.1) (inr link.1)

  -- a wire has the range of its name
  ranged : (number : ℕ) (wire : BoundWire) (name : List ℕ) → slice_get wires.list number ≡ Some wire → wire.name ≡ name → HasRange all name wire.range
  ranged number wire name there named =
      subst (λ (n : List ℕ). HasRange all n wire.range) named
      (elim (found_cases (map port_wire wires.ports) done.others wire (rw done.list at (let s : Somewhere wires.list wire = (number, there) in s))) [
        | inl port ↦ (let p = port_directed all (length all) wires done wire port in AsPort p.0 p.1)
        | inr other ↦ (let made = zip_from (MakesWire all) done.others_are.places done.others other.0 wire done.others_are.each other.1 in made_range all made.0 wire made.2)
      ])

  pub wires_done : AreWires all wires
  wires_done = record {
    ports = done.ports;
    others = done.others;
    list = done.list;
    others_are = record {
      places = done.others_are.places;
      rising = done.others_are.rising;
      each = done.others_are.each;
      all = λ at wire makes. done.others_are.each_is at wire (made_there all at wire makes) makes;
    };
    numbers = λ name. numbered name (place_of wires.numbers name) (done.numbers name);
    count = done.count;
  } where
    numbered : (name : List ℕ) (place : Option ℕ) → NumberedAt wires.list name place → MatchOption place (¬ IsKnown all name) (IsNumberOf all wires.list name)
    numbered name None h = lacks name h
    numbered name (Some number) h = record { wire = h.0; there = h.1; name_is = h.2; range = ranged number h.0 name h.1 h.2 }

pub finished : (all : List Site) (wires : Wires) (at : ℕ) → sites_in wires ≡ all → at ≡ length all → IsSound all → HasOthersTo all at wires → AreWires (sites_in wires) wires
finished all wires at sites_are end sound done =
    subst (λ (l : List Site). AreWires l wires) (sym sites_are) (wires_done all wires sound (subst (λ (n : ℕ). HasOthersTo all n wires) end done))

pub ports_in_order : (all : List Site) (wires : Wires) → sites_in wires ≡ all → AreWires (sites_in wires) wires → (owner : tree.Module) → all ≡ sites owner → AllZip (BindsPort (sites owner)) (port_names owner.head) wires.ports
ports_in_order all wires sites_are done owner are =
    subst (λ (names : List (List ℕ)). AllZip (BindsPort (sites owner)) names wires.ports) (listed_sites owner)
    (subst (λ (l : List Site). AllZip (BindsPort l) (filter_map listed_name l) wires.ports) (sites_are ∙ are) done.ports)
