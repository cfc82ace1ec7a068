-- A cause that is looked for module by module, and what is known of it on the way.
use Rattle.std.proofs.Common.{◌≡◌, ◌<◌, ◌≤◌, ◌+◌, inl, inr, ℕ, List, length, subst, arith}
use Rattle.std.proofs.lemmas.Bool.{cases_lt}
use Rattle.std.proofs.lemmas.Option.{slice_get_within}
use Rattle.bind_sites.specs.Sites.{Site}
use Rattle.bind_forms.specs.declared.fault.BindFault.{BindFault}
use Rattle.bind_forms.specs.Modules.{Setting, IsReached}
use Rattle.bind_forms.specs.Faults.{Place, HasSites, HasReachedSites}
use Rattle.bind_forms.specs.First.{StandsAt, StandsNowhere}
use Rattle.bind_faults.specs.declared.check.Check.{Check}
use Rattle.bind_faults.specs.declared.check.Check.TheVariants.{PortsTwice, EachSite}
use Rattle.bind_faults.specs.declared.check.SiteCheck.TheVariants as site
use Rattle.bind_faults.specs.Order.{IsFirstAt}
use Rattle.bind_faults.specs.Checks.{line_of, StandsIn, IsFirstIn}
use Rattle.bind_faults.proofs.Places.{one_list}

-- a cause of this sort stands in the sites of a reached module
abbrev Found : Check → Setting → Place → BindFault → Type 0
Found check setting place why = (all : List Site) × HasReachedSites setting place.at all × StandsIn check setting all place.site why

to_line : (check : Check) (setting : Setting) (place : Place) (why : BindFault) → Found check setting place why → StandsAt (line_of check) setting place why
to_line PortsTwice setting place why f = (f.2.0, (f.0, f.1, f.2.1), f.2.2)
to_line (EachSite site.Kinds) setting place why f = (f.2.0, record { all = f.0; sites_are = f.1; name = f.2.1.0; links = f.2.1.1; there = f.2.1.2; none = f.2.1.3 }, f.2.2)
to_line (EachSite site.UnknownPorts) setting place why f = (f.2.0, (f.0, f.1, f.2.1), f.2.2)
to_line (EachSite site.TooManyLinks) setting place why f = (f.2.0, f.2.1, (f.0, f.1, f.2.2), f.2.3)
to_line (EachSite site.UnknownNames) setting place why f = (f.2.0, (f.0, f.1, f.2.1), f.2.2)
to_line (EachSite site.Ranges) setting place why f = (f.2.0, (f.0, f.1, f.2.1), f.2.2)
to_line (EachSite site.Widths) setting place why f = (f.2.0, f.2.1, (f.0, f.1, f.2.2), f.2.3, f.2.4)
to_line (EachSite site.WidthLimits) setting place why f = (f.2.0, (f.0, f.1, f.2.1), f.2.2)

from_line : (check : Check) (setting : Setting) (place : Place) (why : BindFault) → StandsAt (line_of check) setting place why → Found check setting place why
from_line PortsTwice setting place why s = (s.1.0, s.1.1, (s.0, s.1.2, s.2))
from_line (EachSite site.Kinds) setting place why s = (s.1.all, s.1.sites_are, (s.0, (s.1.name, s.1.links, s.1.there, s.1.none), s.2))
from_line (EachSite site.UnknownPorts) setting place why s = (s.1.0, s.1.1, (s.0, s.1.2, s.2))
from_line (EachSite site.TooManyLinks) setting place why s = (s.2.0, s.2.1, (s.0, s.1, s.2.2, s.3))
from_line (EachSite site.UnknownNames) setting place why s = (s.1.0, s.1.1, (s.0, s.1.2, s.2))
from_line (EachSite site.Ranges) setting place why s = (s.1.0, s.1.1, (s.0, s.1.2, s.2))
from_line (EachSite site.Widths) setting place why s = (s.2.0, s.2.1, (s.0, s.1, s.2.2, s.3, s.4))
from_line (EachSite site.WidthLimits) setting place why s = (s.1.0, s.1.1, (s.0, s.1.2, s.2))

-- ---- site by site

-- ---- module by module

-- the cause stands in no module before this one
pub record IsClearBefore (check : Check) (setting : Setting) (limit : ℕ) : Type 0 where
  pub none : (place : Place) (why : BindFault) → place.at < limit → ¬ StandsAt (line_of check) setting place why

-- and not in this one
more : (check : Check) (setting : Setting) (limit : ℕ) → ((place : Place) (why : BindFault) → place.at ≡ limit → ¬ StandsAt (line_of check) setting place why) → IsClearBefore check setting limit → IsClearBefore check setting (limit + 1)
more check setting limit here before = record {
  none = λ place why l stands. elim (cases_lt place.at limit) [
    | inl low ↦ before.none place why low stands
    | inr high ↦ here place why (omega (arith, l, high)) stands
  ];
}

pub unreached_more : (check : Check) (setting : Setting) (limit : ℕ) → ¬ IsReached setting limit → IsClearBefore check setting limit → IsClearBefore check setting (limit + 1)
unreached_more check setting limit none before = more check setting limit (λ place why same stands.
    none (subst (λ (n : ℕ). IsReached setting n) same (from_line check setting place why stands).1.reached)) before

pub reached_more : (check : Check) (setting : Setting) (limit : ℕ) (all : List Site) → HasSites setting limit all → ((at : ℕ) (why : BindFault) → ¬ StandsIn check setting all at why) → IsClearBefore check setting limit → IsClearBefore check setting (limit + 1)
reached_more check setting limit all has none before = more check setting limit (λ place why same stands.
    let found = from_line check setting place why stands in
    let there : HasSites setting limit found.0 = subst (λ (n : ℕ). HasSites setting n found.0) same found.1.has in
    none place.site why (subst (λ (l : List Site). StandsIn check setting l place.site why) (one_list setting limit found.0 all there has) found.2)) before

pub first_found : (check : Check) (setting : Setting) (at : ℕ) (all : List Site) (why : BindFault) → IsReached setting at → HasSites setting at all → IsFirstIn check setting all why → IsClearBefore check setting at → IsFirstAt (line_of check) setting why
first_found check setting at all why reached has found clear = record {
  place = record { at = at; site = found.at };
  stands = to_line check setting (record { at = at; site = found.at }) why (all, record { reached = reached; has = has }, found.stands);
  first = λ before other earlier stands. elim earlier [
    | inl low ↦ clear.none before other low stands
    | inr same ↦
        let seen = from_line check setting before other stands in
        let there : HasSites setting at seen.0 = subst (λ (n : ℕ). HasSites setting n seen.0) same.0 seen.1.has in
        found.first before.site other same.1 (subst (λ (l : List Site). StandsIn check setting l before.site other) (one_list setting at seen.0 all there has) seen.2)
  ];
}

pub clear_all : (check : Check) (setting : Setting) (limit : ℕ) → length setting.modules ≤ limit → IsClearBefore check setting limit → StandsNowhere setting (line_of check)
clear_all check setting limit whole clear = λ place why stands.
    let has = (from_line check setting place why stands).1.has in
    let near : place.at < length setting.modules = slice_get_within setting.modules place.at has.owner has.there in
    clear.none place why (omega (arith, near, whole)) stands
