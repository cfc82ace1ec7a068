-- Ports that are too wide.
use Rattle.std.proofs.Common.{◌≡◌, ℕ, ◌<◌, ◌≤◌, Bool, List, Option, Some, None, IfSome, IfNone, length, sym, ◌∙◌, ap, subst, arith}
use Rattle.rsfq_ids.specs.declared.limits.TheConstants.{WIDTH_LIMIT}
use Rattle.bind_sites.specs.Selects.{width_of}
use Rattle.bind_sites.specs.Sites.{Site, Module, Listed, Port, Wire, Assign, Instance, Named, Ordered, Assigned, Linked}
use Rattle.bind_sites.specs.Scope.{IsAt, IsPort, HasDirection}
use Rattle.bind_sites.specs.Again.{listed_name}
use Rattle.bind_sites.specs.Refused.{IsTooWide}
use Rattle.bind_names.specs.Checked.{IsWidePort}
use Rattle.bind_names.specs.Scoped.{HasNoDouble}
use Rattle.bind_names.proofs.Known.{one_site}
use Rattle.bind_names.proofs.NameRanges.{listed_is}
use Rattle.bind_names.proofs.OneRange.{one_port}

too_wide : (all : List Site) (at : ℕ) (site : Site) (name : List ℕ) (width : ℕ) → IsAt all at site → listed_name site ≡ Some name → IsWidePort all name width → IsTooWide all at width
too_wide all at site name width there is wide = record {
  name = name;
  output = wide.0;
  range = wide.1;
  there = subst (λ (s : Site). IsAt all at s) (listed_is site name is) there;
  port = wide.2;
  width_is = wide.3;
  wide = wide.4;
}

pub wide_found : (all : List Site) (at : ℕ) (site : Site) (name : List ℕ) (r : Option ℕ) → IsAt all at site → listed_name site ≡ Some name → IfSome r (IsWidePort all name) → IfSome r (λ width. IsTooWide all at width)
wide_found all at site name None there is h = tt
wide_found all at site name (Some width) there is h = too_wide all at site name width there is h

listed_there : (all : List Site) (at : ℕ) (site : Site) (width : ℕ) → IsAt all at site → (h : IsTooWide all at width) → listed_name site ≡ Some h.name
listed_there all at site width there h = ap listed_name (one_site all at site (Listed h.name) there h.there)

pub wide_none : (all : List Site) (at : ℕ) (site : Site) (name : List ℕ) (r : Option ℕ) → IsAt all at site → listed_name site ≡ Some name → IfNone r ((width : ℕ) → ¬ IsWidePort all name width)
    → IfNone r ((width : ℕ) → ¬ IsTooWide all at width)
wide_none all at site name (Some width) there is h = tt
wide_none all at site name None there is h = λ width wide.
    let same : wide.name ≡ name = some_same (sym (listed_there all at site width there wide) ∙ is) in
    h width (wide.output, wide.range, subst (λ (n : List ℕ). IsPort all n wide.output wide.range) same wide.port, wide.width_is, wide.wide) where
      some_same : {A : Type 0} {a b : A} → Some a ≡ Some b → a ≡ b
      some_same e = cc

pub wide_unlisted : (all : List Site) (at : ℕ) (site : Site) → IsAt all at site → listed_name site ≡ None → (width : ℕ) → ¬ IsTooWide all at width
wide_unlisted all at site there nothing = λ width wide. never wide.name (sym nothing ∙ listed_there all at site width there wide) where
  never : (n : List ℕ) → None ≡ Some n → ⊥
  never n e = cc

-- ---- a port by its name

pub port_is_wide : (all : List Site) (name : List ℕ) (output : Bool) (range : Option (ℕ × ℕ)) (width : ℕ) → IsPort all name output range → width ≡ width_of range → WIDTH_LIMIT < width → IsWidePort all name width
port_is_wide all name output range width port is wide = (output, range, port, is, wide)

pub port_fits : (all : List Site) (name : List ℕ) (output : Bool) (range : Option (ℕ × ℕ)) (width : ℕ) → HasNoDouble all (length all) → IsPort all name output range → width ≡ width_of range → width ≤ WIDTH_LIMIT
    → (other : ℕ) → ¬ IsWidePort all name other
port_fits all name output range width single port is fits = λ other wide.
    let same : wide.1 ≡ range = one_port all name wide.0 output wide.1 range single wide.2 port in
    let equal : other ≡ width = wide.3 ∙ ap width_of same ∙ sym is in
    omega (arith, wide.4, equal, fits)

pub no_port : (all : List Site) (name : List ℕ) → ¬ HasDirection all name → (width : ℕ) → ¬ IsWidePort all name width
no_port all name none = λ width wide. none (wide.0, wide.1, wide.2)
