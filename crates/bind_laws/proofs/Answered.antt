-- A source is refused with one fault.
use Rattle.std.proofs.Common.{◌≡◌, ◌≢◌, ◌∙◌, ◌<◌, ◌+◌, ◌⊎◌, inl, inr, ℕ, List, [], ◌∷◌, ◌++◌, length, Option, Some, None, refl, sym, ap, subst, arith}
use Rattle.std.specs.Prelude.{slice_get}
use Rattle.std.specs.List.{All}
use Rattle.std.proofs.lemmas.Bool.{cases_order}
use Rattle.std.proofs.lemmas.Option.{same_Some}
use Rattle.std.proofs.lemmas.List.Elements.{All-head}
use Rattle.verilog_tree.specs.Trees as tree
use Rattle.bind_sites.specs.declared.sort.Sort.{Sort}
use Rattle.bind_sites.specs.declared.sort.Sort.TheVariants as sort
use Rattle.bind_sites.specs.Selects.{width_of, bit_name}
use Rattle.bind_sites.specs.Sites.{Site, Listed, Port, Wire, Instance as InstanceSite, Named, Assigned, Linked}
use Rattle.bind_sites.specs.Scope.{IsAt, StandsBefore, IsPort}
use Rattle.bind_sites.specs.Again.{name_as, listed_name, direction_name, wire_name, instance_name, linked_name, whole_name, IsAgain, HasFirstRange, IsPrintedBefore, IsBitAgain}
use Rattle.bind_sites.specs.Refused.{IsPortTwice, IsUnknownName, InAssign, InLink, IsOutOfRange, OfSelect, OfWire, OfPort, IsTooWide}
use Rattle.bind_forms.specs.declared.fault.BindFault.{BindFault}
use Rattle.bind_forms.specs.declared.fault.BindFault.TheVariants as fault
use Rattle.bind_forms.specs.Modules.{Setting, IsModuleNamed, IsFree, HasPorts}
use Rattle.bind_forms.specs.Faults.{Place, IsBefore, HasSites, HasReachedSites, IsDuplicate, OfModules, OfCell, Within, OfBits, HasNoTop, HasTwoTops, IsRing, IsUnknownPort, NoDirection, NoListing, NoPort, HasTooMany, HasWidths}
use Rattle.bind_forms.specs.First.{Line, Duplicates, Tops, Kinds, Rings, UnknownPorts, PortsTwice, TooManyLinks, UnknownNames, Ranges, Widths, WidthLimits, lines, StandsAt, StandsNowhere, HasNoFault, IsFirstFault}
use Rattle.bind_laws.specs.Refusals.{BeginAlike, FaultIsOne}
use Rattle.bind_laws.proofs.Lists.{one_got, got_all, got_left, got_within, piece_right}
use Rattle.bind_laws.proofs.Ones.{single, sites_one, one_port, ports_are_one, widths_are_one}

-- ---- names of sites

-- the name that a site tells of
abbrev told : Site → List ℕ
told (Listed name) = name
told (Port name output range) = name
told (Wire name range) = name
told (InstanceSite kind name links) = name
told (Named kind name expr) = name
told (Assigned operand) = operand.name
told (Linked operand) = operand.name
told _ = []

listed_told : (site : Site) (name : List ℕ) → listed_name site ≡ Some name → told site ≡ name
listed_told (Listed n) name e = same_Some n name e
listed_told _ name e = absurd cc

direction_told : (site : Site) (name : List ℕ) → direction_name site ≡ Some name → told site ≡ name
direction_told (Port n output range) name e = same_Some n name e
direction_told _ name e = absurd cc

wire_told : (site : Site) (name : List ℕ) → wire_name site ≡ Some name → told site ≡ name
wire_told (Wire n range) name e = same_Some n name e
wire_told _ name e = absurd cc

instance_told : (site : Site) (name : List ℕ) → instance_name site ≡ Some name → told site ≡ name
instance_told (InstanceSite kind n links) name e = same_Some n name e
instance_told _ name e = absurd cc

whole_told : (n : List ℕ) (select : Option (ℕ × ℕ)) (name : List ℕ) → whole_name n select ≡ Some name → n ≡ name
whole_told n None name e = same_Some n name e
whole_told n (Some select) name e = absurd cc

linked_told : (site : Site) (name : List ℕ) → linked_name site ≡ Some name → told site ≡ name
linked_told (Linked operand) name e = whole_told operand.name operand.select name e
linked_told _ name e = absurd cc

given_told : (by : Sort) (site : Site) (name : List ℕ) → name_as by site ≡ Some name → told site ≡ name
given_told sort.Listed site name e = listed_told site name e
given_told sort.Direction site name e = direction_told site name e
given_told sort.Wire site name e = wire_told site name e
given_told sort.Instance site name e = instance_told site name e
given_told sort.Linked site name e = linked_told site name e

-- a site that tells of a name stands at a place
abbrev Tells : List Site → ℕ → List ℕ → Type 0
Tells all at name = (site : Site) × IsAt all at site × (told site ≡ name)

told_one : (all : List Site) (at : ℕ) (name other : List ℕ) → Tells all at name → Tells all at other → name ≡ other
told_one all at name other g h = sym g.2 ∙ (ap told (one_got all at g.0 h.0 g.1 h.1) ∙ h.2)

again_tells : (all : List Site) (at : ℕ) (name : List ℕ) → IsAgain all at name → Tells all at name
again_tells all at name h = (h.2.0.0, h.2.0.1, given_told h.0 h.2.0.0 name h.2.0.2)

port_tells : (setting : Setting) (all : List Site) (at : ℕ) (name : List ℕ) → IsUnknownPort setting all at name → Tells all at name
port_tells setting all at name (NoDirection there none) = (Listed name, there, refl)
port_tells setting all at name (NoListing output range there none) = (Port name output range, there, refl)
port_tells setting all at name (NoPort kind expr names there ports none) = (Named kind name expr, there, refl)

name_tells : (all : List Site) (at : ℕ) (name : List ℕ) → IsUnknownName all at name → Tells all at name
name_tells all at name (InAssign select there none) = (Assigned (record { name = name; select = select }), there, refl)
name_tells all at name (InLink select there none) = (Linked (record { name = name; select = Some select }), there, refl)

range_tells : (all : List Site) (at : ℕ) (name : List ℕ) → IsOutOfRange all at name → Tells all at name
range_tells all at name (OfSelect select range (inl there) has outside) = (Assigned (record { name = name; select = Some select }), there, refl)
range_tells all at name (OfSelect select range (inr there) has outside) = (Linked (record { name = name; select = Some select }), there, refl)
range_tells all at name (OfWire output range other there before apart) = (Wire name range, there, refl)
range_tells all at name (OfPort output range other there before apart) = (Port name output range, there, refl)

-- ---- the sites of one module

-- what holds of some sites of a module holds of them all
moved : (setting : Setting) (at : ℕ) (Fact : List Site → Type 0) (g : (all : List Site) × HasReachedSites setting at all × Fact all) (all : List Site) → HasSites setting at all → Fact all
moved setting at Fact g all has = subst Fact (sites_one setting at g.0 all g.1.has has) g.2

-- ---- names given twice

first_range_one : (all : List Site) (name : List ℕ) (r s : Option (ℕ × ℕ)) → HasFirstRange all name r → HasFirstRange all name s → r ≡ s
first_range_one all name r s g h = by (cases_order g.at h.at) where
  at_one : g.at ≡ h.at → r ≡ s
  at_one same = let e = one_got all h.at (Port name g.output r) (Port name h.output s) (subst (λ (n : ℕ). IsAt all n (Port name g.output r)) same g.there) h.there in cc

  by : (g.at ≡ h.at) ⊎ ((g.at < h.at) ⊎ (h.at < g.at)) → r ≡ s
  by (inl same) = at_one same
  by (inr (inl l)) = absurd (h.first g.output r (g.at, l, g.there))
  by (inr (inr l)) = absurd (g.first h.output s (h.at, l, h.there))

bits_one : (all : List Site) (at : ℕ) (name other : List ℕ) → IsBitAgain all at name → IsBitAgain all at other → name ≡ other
bits_one all at name other g h =
    let name_is : g.name ≡ h.name = told_one all at g.name h.name (Listed g.name, g.listed, refl) (Listed h.name, h.listed, refl) in
    let range_is = first_range_one all h.name g.range h.range (subst (λ (n : List ℕ). HasFirstRange all n g.range) name_is g.range_is) h.range_is in
    let left : name ≡ bit_name h.name h.range g.bit = g.printed_is ∙ (ap (λ (n : List ℕ). bit_name n g.range g.bit) name_is ∙ ap (λ (r : Option (ℕ × ℕ)). bit_name h.name r g.bit) range_is) in
    by left (cases_order g.bit h.bit) where
      by : name ≡ bit_name h.name h.range g.bit → (g.bit ≡ h.bit) ⊎ ((g.bit < h.bit) ⊎ (h.bit < g.bit)) → name ≡ other
      by left (inl same) = left ∙ (ap (bit_name h.name h.range) same ∙ sym h.printed_is)
      by left (inr (inl l)) = absurd (h.first g.bit l (subst (IsPrintedBefore all at) left g.before))
      by left (inr (inr l)) =
          let name_is : g.name ≡ h.name = told_one all at g.name h.name (Listed g.name, g.listed, refl) (Listed h.name, h.listed, refl) in
          let range_is = first_range_one all h.name g.range h.range (subst (λ (n : List ℕ). HasFirstRange all n g.range) name_is g.range_is) h.range_is in
          let right : other ≡ bit_name g.name g.range h.bit = h.printed_is ∙ (ap (λ (r : Option (ℕ × ℕ)). bit_name h.name r h.bit) (sym range_is) ∙ ap (λ (n : List ℕ). bit_name n g.range h.bit) (sym name_is)) in
          absurd (g.first h.bit l (subst (IsPrintedBefore all at) right h.before))

-- a listed port that is given again was listed before
listed_again : (by : Sort) (name given : List ℕ) → name_as by (Listed name) ≡ Some given → (all : List Site) (at : ℕ) → (earlier : ℕ) × (earlier < at) × ((site : Site) × IsAt all earlier site × (name_as by site ≡ Some given)) → StandsBefore all at (Listed name)
listed_again sort.Listed name given e all at h = (h.0, h.1, subst (λ (s : Site). IsAt all h.0 s) (listed_is h.2.0 h.2.2) h.2.1) where
  listed_is : (site : Site) → listed_name site ≡ Some given → site ≡ Listed name
  listed_is (Listed n) f = ap Listed (same_Some n given f ∙ sym (same_Some name given e))
  listed_is _ f = absurd cc
listed_again sort.Direction name given e all at h = absurd cc
listed_again sort.Wire name given e all at h = absurd cc
listed_again sort.Instance name given e all at h = absurd cc
listed_again sort.Linked name given e all at h = absurd cc

again_or_bit : (all : List Site) (at : ℕ) (name other : List ℕ) → IsAgain all at name → ¬ IsBitAgain all at other
again_or_bit all at name other g h =
    let same = one_got all at g.2.0.0 (Listed h.name) g.2.0.1 h.listed in
    let given = subst (λ (s : Site). name_as g.0 s ≡ Some name) same g.2.0.2 in
    h.alone (listed_again g.0 h.name name given all at g.2.1)

named_one : (setting : Setting) (at : ℕ) (name other : List ℕ) → IsModuleNamed setting at name → IsModuleNamed setting at other → name ≡ other
named_one setting at name other g h = sym g.2 ∙ (ap (λ (m : tree.Module). m.name) (one_got setting.modules at g.0 h.0 g.1 h.1) ∙ h.2)

-- two names of one place are of modules, given again in a module, or printed again
data Sorted (setting : Setting) (place : Place) (name : List ℕ) : Type 0 where
  AtHead : place.site ≡ 0 → IsModuleNamed setting place.at name → Sorted setting place name
  AtThing : (all : List Site) → HasSites setting place.at all → IsAgain all place.site name → Sorted setting place name
  AtBit : (all : List Site) → HasSites setting place.at all → IsBitAgain all place.site name → Sorted setting place name

sorted : (setting : Setting) (place : Place) (name : List ℕ) → IsDuplicate setting place name → Sorted setting place name
sorted setting place name (OfModules head named earlier before other) = AtHead head named
sorted setting place name (OfCell head named row other) = AtHead head named
sorted setting place name (Within all reached again) = AtThing all reached.has again
sorted setting place name (OfBits all top has again) = AtBit all has again

not_first_again : (all : List Site) (name : List ℕ) (at : ℕ) → at ≡ 0 → ¬ IsAgain all at name
not_first_again all name at zero_is h = let l = h.2.1.1 in omega (arith, l, zero_is)

not_first_bit : (all : List Site) (name : List ℕ) (at : ℕ) → at ≡ 0 → ¬ IsBitAgain all at name
not_first_bit all name at zero_is h = let l = h.before.listed.1 in omega (arith, l, zero_is)

sorted_one : (setting : Setting) (place : Place) (name other : List ℕ) → Sorted setting place name → Sorted setting place other → name ≡ other
sorted_one setting place name other (AtHead head named) (AtHead head_too named_too) = named_one setting place.at name other named named_too
sorted_one setting place name other (AtHead head named) (AtThing all has again) = absurd (not_first_again all other place.site head again)
sorted_one setting place name other (AtHead head named) (AtBit all has again) = absurd (not_first_bit all other place.site head again)
sorted_one setting place name other (AtThing all has again) (AtHead head named) = absurd (not_first_again all name place.site head again)
sorted_one setting place name other (AtThing all has again) (AtThing all_too has_too again_too) =
    told_one all_too place.site name other (again_tells all_too place.site name (subst (λ (l : List Site). IsAgain l place.site name) (sites_one setting place.at all all_too has has_too) again)) (again_tells all_too place.site other again_too)
sorted_one setting place name other (AtThing all has again) (AtBit all_too has_too again_too) =
    absurd (again_or_bit all_too place.site name other (subst (λ (l : List Site). IsAgain l place.site name) (sites_one setting place.at all all_too has has_too) again) again_too)
sorted_one setting place name other (AtBit all has again) (AtHead head named) = absurd (not_first_bit all name place.site head again)
sorted_one setting place name other (AtBit all has again) (AtThing all_too has_too again_too) =
    absurd (again_or_bit all_too place.site other name again_too (subst (λ (l : List Site). IsBitAgain l place.site name) (sites_one setting place.at all all_too has has_too) again))
sorted_one setting place name other (AtBit all has again) (AtBit all_too has_too again_too) =
    bits_one all_too place.site name other (subst (λ (l : List Site). IsBitAgain l place.site name) (sites_one setting place.at all all_too has has_too) again) again_too

-- ---- tops

tops_named : (setting : Setting) (place : Place) (first second third fourth : List ℕ) → HasTwoTops setting place first second → HasTwoTops setting place third fourth
    → ((before : Place) (other : BindFault) → IsBefore before place → ¬ StandsAt Tops setting before other) → (first ≡ third) × (second ≡ fourth)
tops_named setting place first second third fourth g h least = (by (cases_order g.earlier h.earlier), named_one setting place.at second fourth g.second_is h.second_is) where
  by : (g.earlier ≡ h.earlier) ⊎ ((g.earlier < h.earlier) ⊎ (h.earlier < g.earlier)) → first ≡ third
  by (inl same) = named_one setting h.earlier first third (subst (λ (n : ℕ). IsModuleNamed setting n first) same g.first_is) h.first_is
  by (inr (inl l)) = absurd (least (record { at = h.earlier; site = 0 }) (fault.TwoTops first third) (inl h.before)
      (inr (first, third, record { unnamed = g.unnamed; head = refl; second_is = h.first_is; free = h.free_too; earlier = g.earlier; before = l; first_is = g.first_is; free_too = g.free_too }, refl)))
  by (inr (inr l)) = absurd (least (record { at = g.earlier; site = 0 }) (fault.TwoTops third first) (inl g.before)
      (inr (third, first, record { unnamed = h.unnamed; head = refl; second_is = g.first_is; free = g.free_too; earlier = h.earlier; before = l; first_is = h.first_is; free_too = h.free_too }, refl)))

no_top_free : (setting : Setting) (at : ℕ) → setting.top ≡ None → IsFree setting at → ¬ HasNoTop setting setting.top
no_top_free setting at is free none = let lone = subst (HasNoTop setting) is none in lone at free

-- ---- one fault at a place

abbrev Answers : BindFault → BindFault → Type 0
Answers why other = (why ≡ other) ⊎ BeginAlike why other

by_name : (make : List ℕ → BindFault) (name given : List ℕ) (why other : BindFault) → why ≡ make name → other ≡ make given → name ≡ given → Answers why other
by_name make name given why other e f same = inl (e ∙ (ap make same ∙ sym f))

kind_named : (all : List Site) (at : ℕ) (kind given name own : List ℕ) (links inner : tree.Links) → IsAt all at (InstanceSite kind name links) → IsAt all at (InstanceSite given own inner) → (kind ≡ given) × (links ≡ inner)
kind_named all at kind given name own links inner g h = by (one_got all at (InstanceSite kind name links) (InstanceSite given own inner) g h) where
  by : InstanceSite kind name links ≡ InstanceSite given own inner → (kind ≡ given) × (links ≡ inner)
  by e = (cc, cc)

many_one : (setting : Setting) (all : List Site) (at have want other_have other_want : ℕ) → HasTooMany setting all at have want → HasTooMany setting all at other_have other_want → (have ≡ other_have) × (want ≡ other_want)
many_one setting all at have want other_have other_want g h =
    let both = kind_named all at g.kind h.kind g.name h.name (tree.Ordered g.links) (tree.Ordered h.links) g.there h.there in
    let names_are = ports_are_one setting h.kind g.names h.names (subst (λ (k : List ℕ). HasPorts setting k g.names) both.0 g.ports) h.ports in
    (g.have_is ∙ (ap length (links_same g.links h.links both.1) ∙ sym h.have_is), g.want_is ∙ (ap length names_are ∙ sym h.want_is)) where
      links_same : (a b : List (Option tree.Expr)) → tree.Ordered a ≡ tree.Ordered b → a ≡ b
      links_same a b e = cc

wide_one : (setting : Setting) → StandsNowhere setting Duplicates → (at : ℕ) (all : List Site) → HasReachedSites setting at all → (site width other : ℕ) → IsTooWide all site width → IsTooWide all site other → width ≡ other
wide_one setting none at all reached site width other g h =
    let name_is = told_one all site g.name h.name (Listed g.name, g.there, refl) (Listed h.name, h.there, refl) in
    let both = one_port all h.name g.output h.output g.range h.range (single setting none at all reached) (subst (λ (n : List ℕ). IsPort all n g.output g.range) name_is g.port) h.port in
    g.width_is ∙ (ap width_of both.1 ∙ sym h.width_is)

two_numbers : (make : ℕ → ℕ → BindFault) (a b c d : ℕ) (why other : BindFault) → why ≡ make a b → other ≡ make c d → (a ≡ c) × (b ≡ d) → Answers why other
two_numbers make a b c d why other e f same = inl (e ∙ (ap (λ (n : ℕ). make n b) same.0 ∙ (ap (make c) same.1 ∙ sym f)))

-- the rings of one place begin with its module
rings_alike : (setting : Setting) (place : Place) (names others : List (List ℕ)) (why other : BindFault) → IsRing setting place names → IsRing setting place others → why ≡ fault.Recursive names → other ≡ fault.Recursive others → BeginAlike why other
rings_alike setting place [] others why other g h e f = absurd g.names_are
rings_alike setting place (name ∷ names) [] why other g h e f = absurd h.names_are
rings_alike setting place (name ∷ names) (first ∷ others) why other g h e f =
    record { first = name; names = names; others = others; why_is = e; other_is = f ∙ ap (λ (n : List ℕ). fault.Recursive (n ∷ others)) (named_one setting place.at first name h.names_are.0 g.names_are.0) }

-- with the names of a cause known to be given once, but for that cause itself
abbrev Knows : Setting → Line → Type 0
Knows setting line = (line ≡ Duplicates) ⊎ StandsNowhere setting Duplicates

known : (setting : Setting) (line : Line) → line ≢ Duplicates → Knows setting line → StandsNowhere setting Duplicates
known setting line apart (inl same) = absurd (apart same)
known setting line apart (inr none) = none

answers_one : (setting : Setting) (line : Line) (place : Place) (why other : BindFault) → Knows setting line → ((before : Place) (fault_then : BindFault) → IsBefore before place → ¬ StandsAt line setting before fault_then)
    → StandsAt line setting place why → StandsAt line setting place other → Answers why other
answers_one setting Duplicates place why other knows least g h =
    by_name (λ n. fault.DuplicateName n n) g.0 h.0 why other g.2 h.2 (sorted_one setting place g.0 h.0 (sorted setting place g.0 g.1) (sorted setting place h.0 h.1))
answers_one setting Tops place why other knows least (inl g) (inl h) = inl (g.1 ∙ sym h.1)
answers_one setting Tops place why other knows least (inl g) (inr h) = absurd (no_top_free setting place.at h.2.unnamed h.2.free g.0)
answers_one setting Tops place why other knows least (inr g) (inl h) = absurd (no_top_free setting place.at g.2.unnamed g.2.free h.0)
answers_one setting Tops place why other knows least (inr g) (inr h) =
    let same = tops_named setting place g.0 g.1 h.0 h.1 g.2 h.2 least in
    inl (g.3 ∙ (ap (λ (n : List ℕ). fault.TwoTops n g.1) same.0 ∙ (ap (fault.TwoTops h.0) same.1 ∙ sym h.3)))
answers_one setting Kinds place why other knows least g h =
    let a = g.1 in
    let b = h.1 in
    let all_is = sites_one setting place.at a.all b.all a.sites_are.has b.sites_are.has in
    let there = subst (λ (l : List Site). IsAt l place.site (InstanceSite g.0 a.name a.links)) all_is a.there in
    by_name fault.NoSuchModule g.0 h.0 why other g.2 h.2 (kind_named b.all place.site g.0 h.0 a.name b.name a.links b.links there b.there).0
answers_one setting Rings place why other knows least g h = inr (rings_alike setting place g.0 h.0 why other g.1 h.1 g.2 h.2)
answers_one setting UnknownPorts place why other knows least g h =
    let all = h.1.0 in
    let a = moved setting place.at (λ all. IsUnknownPort setting all place.site g.0) g.1 all h.1.1.has in
    by_name fault.UnknownPort g.0 h.0 why other g.2 h.2 (told_one all place.site g.0 h.0 (port_tells setting all place.site g.0 a) (port_tells setting all place.site h.0 h.1.2))
answers_one setting PortsTwice place why other knows least g h =
    let all = h.1.0 in
    let a = moved setting place.at (λ all. IsPortTwice all place.site g.0) g.1 all h.1.1.has in
    by_name fault.PortTwice g.0 h.0 why other g.2 h.2 (told_one all place.site g.0 h.0 (Named a.kind g.0 a.expr, a.there, refl) (Named h.1.2.kind h.0 h.1.2.expr, h.1.2.there, refl))
answers_one setting TooManyLinks place why other knows least g h =
    let all = h.2.0 in
    let a = moved setting place.at (λ all. HasTooMany setting all place.site g.0 g.1) g.2 all h.2.1.has in
    two_numbers fault.TooMany g.0 g.1 h.0 h.1 why other g.3 h.3 (many_one setting all place.site g.0 g.1 h.0 h.1 a h.2.2)
answers_one setting UnknownNames place why other knows least g h =
    let all = h.1.0 in
    let a = moved setting place.at (λ all. IsUnknownName all place.site g.0) g.1 all h.1.1.has in
    by_name fault.NoSuchName g.0 h.0 why other g.2 h.2 (told_one all place.site g.0 h.0 (name_tells all place.site g.0 a) (name_tells all place.site h.0 h.1.2))
answers_one setting Ranges place why other knows least g h =
    let all = h.1.0 in
    let a = moved setting place.at (λ all. IsOutOfRange all place.site g.0) g.1 all h.1.1.has in
    by_name fault.Range g.0 h.0 why other g.2 h.2 (told_one all place.site g.0 h.0 (range_tells all place.site g.0 a) (range_tells all place.site h.0 h.1.2))
answers_one setting Widths place why other knows least g h =
    let all = h.2.0 in
    let a = moved setting place.at (λ all. HasWidths setting all place.site g.0 g.1) g.2 all h.2.1.has in
    let none = known setting Widths (λ e. cc) knows in
    two_numbers fault.Width g.0 g.1 h.0 h.1 why other g.4 h.4 (widths_are_one setting place.at all place.site g.0 g.1 h.0 h.1 none h.2.1 a h.2.2)
answers_one setting WidthLimits place why other knows least g h =
    let all = h.1.0 in
    let a = moved setting place.at (λ all. IsTooWide all place.site g.0) g.1 all h.1.1.has in
    let none = known setting WidthLimits (λ e. cc) knows in
    inl (g.2 ∙ (ap fault.WidthLimit (wide_one setting none place.at all h.1.1 place.site g.0 h.0 a h.1.2) ∙ sym h.2))

-- ---- the first line and the first place

line_at : (earlier : List Line) (line : Line) (later : List Line) → lines ≡ earlier ++ line ∷ later → slice_get lines (length earlier) ≡ Some line
line_at earlier line later e =
    let there = piece_right earlier (line ∷ later) 0 line refl in
    let z : length earlier + 0 ≡ length earlier = omega arith in
    subst (λ (l : List Line). slice_get l (length earlier) ≡ Some line) (sym e) (subst (λ (n : ℕ). slice_get (earlier ++ line ∷ later) n ≡ Some line) z there)

-- an earlier line stands among the lines before
line_before : (earlier : List Line) (line : Line) (later : List Line) → lines ≡ earlier ++ line ∷ later → (k : ℕ) (other : Line) → k < length earlier → slice_get lines k ≡ Some other → slice_get earlier k ≡ Some other
line_before earlier line later e k other l f =
    let here = got_within earlier k l in
    let there = got_left earlier (line ∷ later) k here.0 here.1 in
    let same = one_got (earlier ++ line ∷ later) k here.0 other there (subst (λ (x : List Line). slice_get x k ≡ Some other) e f) in
    here.1 ∙ ap Some same

knows_before : (setting : Setting) (earlier : List Line) (line : Line) (later : List Line) → lines ≡ earlier ++ line ∷ later → All (StandsNowhere setting) earlier → Knows setting line
knows_before setting [] line later e none = inl (let z : Some Duplicates ≡ Some line = ap (λ (l : List Line). slice_get l 0) e in same_Some line Duplicates (sym z))
knows_before setting (first ∷ earlier) line later e none =
    let z : Some Duplicates ≡ Some first = ap (λ (l : List Line). slice_get l 0) e in
    inr (subst (StandsNowhere setting) (sym (same_Some Duplicates first z)) (All-head (StandsNowhere setting) first earlier none))

one_line : (setting : Setting) (why other : BindFault) (g : IsFirstFault setting why) (h : IsFirstFault setting other) → g.line ≡ h.line
one_line setting why other g h = by (cases_order (length g.earlier) (length h.earlier)) where
  by : (length g.earlier ≡ length h.earlier) ⊎ ((length g.earlier < length h.earlier) ⊎ (length h.earlier < length g.earlier)) → g.line ≡ h.line
  by (inl same) = one_got lines (length h.earlier) g.line h.line (subst (λ (n : ℕ). slice_get lines n ≡ Some g.line) same (line_at g.earlier g.line g.later g.order)) (line_at h.earlier h.line h.later h.order)
  by (inr (inl l)) =
      absurd (got_all (StandsNowhere setting) h.earlier (length g.earlier) g.line h.none (line_before h.earlier h.line h.later h.order (length g.earlier) g.line l (line_at g.earlier g.line g.later g.order)) g.place why g.stands)
  by (inr (inr l)) =
      absurd (got_all (StandsNowhere setting) g.earlier (length h.earlier) h.line g.none (line_before g.earlier g.line g.later g.order (length h.earlier) h.line l (line_at h.earlier h.line h.later h.order)) h.place other h.stands)

places_ordered : (one other : Place) → (one ≡ other) ⊎ (IsBefore one other ⊎ IsBefore other one)
places_ordered one other = by (cases_order one.at other.at) (cases_order one.site other.site) where
  place_at : ℕ → ℕ → Place
  place_at at site = record { at = at; site = site }

  by : (one.at ≡ other.at) ⊎ ((one.at < other.at) ⊎ (other.at < one.at)) → (one.site ≡ other.site) ⊎ ((one.site < other.site) ⊎ (other.site < one.site)) → (one ≡ other) ⊎ (IsBefore one other ⊎ IsBefore other one)
  by (inl same) (inl site_same) = inl (ap (λ (n : ℕ). place_at n one.site) same ∙ ap (place_at other.at) site_same)
  by (inl same) (inr (inl l)) = inr (inl (inr (same, l)))
  by (inl same) (inr (inr l)) = inr (inr (inr (sym same, l)))
  by (inr (inl l)) s = inr (inl (inl l))
  by (inr (inr l)) s = inr (inr (inl l))

pub fault_is_one : FaultIsOne
fault_is_one = (one, never) where
  one : (setting : Setting) (why other : BindFault) → IsFirstFault setting why → IsFirstFault setting other → Answers why other
  one setting why other g h =
      let line_is = one_line setting why other g h in
      by (subst (λ (l : Line). StandsAt l setting g.place why) line_is g.stands) (places_ordered g.place h.place)
      (subst (λ (l : Line). (before : Place) (then : BindFault) → IsBefore before g.place → ¬ StandsAt l setting before then) line_is g.first) where
        by : StandsAt h.line setting g.place why → (g.place ≡ h.place) ⊎ (IsBefore g.place h.place ⊎ IsBefore h.place g.place) → ((before : Place) (then : BindFault) → IsBefore before g.place → ¬ StandsAt h.line setting before then) → Answers why other
        by stands (inl same) first =
            answers_one setting h.line h.place why other (knows_before setting h.earlier h.line h.later h.order h.none) h.first (subst (λ (p : Place). StandsAt h.line setting p why) same stands) h.stands
        by stands (inr (inl l)) first = absurd (h.first g.place why l stands)
        by stands (inr (inr l)) first = absurd (first h.place other l h.stands)

  never : (setting : Setting) (why : BindFault) → HasNoFault setting → ¬ IsFirstFault setting why
  never setting why none g = got_all (StandsNowhere setting) lines (length g.earlier) g.line none (line_at g.earlier g.line g.later g.order) g.place why g.stands
