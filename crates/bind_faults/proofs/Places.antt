-- The modules of what is bound, and the lists of sites that belong to them.
use Rattle.std.proofs.Common.{◌≡◌, ◌∙◌, ◌<◌, ◌≤◌, ◌+◌, inl, inr, ℕ, zero, suc, List, [], ◌∷◌, ◌++◌, take, Some, None, length, get_or, refl, sym, ap, subst, arith}
use Rattle.std.specs.Prelude.{slice_get}
use Rattle.std.specs.List.{AllZip}
use Rattle.std.proofs.lemmas.List.{take_more}
use Rattle.std.proofs.lemmas.Option.{slice_get-get_or, slice_get_cases, same_Some}
use Rattle.bind_sites.specs.Sites.{Site, sites}
use Rattle.bind_names.specs.declared.scope.Scope.{Scope}
use Rattle.bind_names.specs.Scoped.{IsScope, HasNoDouble, sites_of}
use Rattle.bind_forms.specs.Modules.{Setting}
use Rattle.bind_forms.specs.Faults.{HasSites, HasReachedSites, Within}
use Rattle.bind_forms.specs.declared.fault.BindFault.TheVariants as fault
use Rattle.bind_forms.specs.First.{Duplicates}
use Rattle.bind_kinds.specs.declared.netlist.Netlist.{Netlist}
use Rattle.bind_kinds.specs.Netlist.{IsScopeOf, IsNetlist, setting_of}
use Rattle.bind_faults.specs.Order.{IsClear}

-- a module has one list of sites
pub one_list : (setting : Setting) (at : ℕ) (all other : List Site) → HasSites setting at all → HasSites setting at other → all ≡ other
one_list setting at all other h k = h.sites_are ∙ (ap sites (same_Some h.owner k.owner (sym h.there ∙ k.there)) ∙ sym k.sites_are)

zip_length : {A B : Type 0} (R : A → B → Type 0) (xs : List A) (ys : List B) → AllZip R xs ys → length xs ≡ length ys
zip_length R [] [] z = refl
zip_length R [] (y ∷ ys) z = absurd z
zip_length R (x ∷ xs) [] z = absurd z
zip_length R (x ∷ xs) (y ∷ ys) z = ap (λ n. suc n) (zip_length R xs ys z.1)

pub zip_at : {A B : Type 0} (R : A → B → Type 0) (xs : List A) (ys : List B) (k : ℕ) (y : B) → AllZip R xs ys → slice_get ys k ≡ Some y → (x : A) × (slice_get xs k ≡ Some x) × R x y
zip_at {B = B} R [] [] k y z e = absurd (let no : None ≡ Some y = e in cc)
zip_at {B = B} R [] (b ∷ ys) k y z e = absurd z
zip_at {B = B} R (a ∷ xs) [] k y z e = absurd z
zip_at {B = B} R (a ∷ xs) (b ∷ ys) zero y z e = (a, refl, subst (λ (v : B). R a v) (same_Some b y e) z.0)
zip_at {B = B} R (a ∷ xs) (b ∷ ys) (suc k) y z e = zip_at R xs ys k y z.1 e

-- what the scope at a place of a netlist is
pub record IsScopeAt (netlist : Netlist) (at : ℕ) (scope : Scope) : Type 0 where
  pub is_scope : IsScope scope
  pub has : HasSites (setting_of netlist) at (sites_of scope)

-- the one that the code reads
pub scope_at : (netlist : Netlist) (at : ℕ) (default : Scope) → IsNetlist netlist → at < length netlist.scopes.now → IsScopeAt netlist at (get_or netlist.scopes.now at default)
scope_at netlist at default is l =
    let found = zip_at IsScopeOf (setting_of netlist).modules netlist.scopes.now at (get_or netlist.scopes.now at default) is.scopes (slice_get-get_or netlist.scopes.now at default l) in
    record { is_scope = found.2.is_scope; has = record { owner = found.0; there = found.1; sites_are = found.2.sites_are } }

pub scopes_count : (netlist : Netlist) → IsNetlist netlist → length (setting_of netlist).modules ≡ length netlist.scopes.now
scopes_count netlist is = zip_length IsScopeOf (setting_of netlist).modules netlist.scopes.now is.scopes

-- a reached module of which nothing is given twice
pub no_double : (setting : Setting) (count at : ℕ) (all : List Site) → 1 ≤ count → IsClear setting count → HasReachedSites setting at all → HasNoDouble all (length all)
no_double setting count at all some clear has = λ site name l again.
    clear.none Duplicates (omega (arith, some)) (record { at = at; site = site }) (fault.DuplicateName name name) (name, Within all has again, refl)

-- each module has sites
pub has_sites : (setting : Setting) (at : ℕ) → at < length setting.modules → (all : List Site) × HasSites setting at all
has_sites setting at l = elim (slice_get_cases setting.modules at).1 [
  | inl there ↦ (sites there.0, record { owner = there.0; there = there.2; sites_are = refl })
  | inr past ↦ absurd (omega (arith, l, past.0))
]

zip_push : {A B : Type 0} (R : A → B → Type 0) (xs : List A) (ys : List B) (x : A) (y : B) → AllZip R xs ys → R x y → AllZip R (xs ++ x ∷ []) (ys ++ y ∷ [])
zip_push R [] [] x y z r = (r, tt)
zip_push R [] (b ∷ ys) x y z r = absurd z
zip_push R (a ∷ xs) [] x y z r = absurd z
zip_push R (a ∷ xs) (b ∷ ys) x y z r = (z.0, zip_push R xs ys x y z.1 r)

pub zip_more : {A B : Type 0} (R : A → B → Type 0) (xs : List A) (ys : List B) (i : ℕ) (d : A) (y : B) → i < length xs → AllZip R (take i xs) ys → R (get_or xs i d) y → AllZip R (take (i + 1) xs) (ys ++ y ∷ [])
zip_more {A = A} R xs ys i d y l z r = subst (λ (l : List A). AllZip R l (ys ++ y ∷ [])) (sym (take_more xs i d l)) (zip_push R (take i xs) ys (get_or xs i d) y z r)
