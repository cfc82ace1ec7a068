-- What stands behind an instance, in a module in which no cause for refusal stands.
use Rattle.std.proofs.Common.{◌≡◌, inr, ℕ, suc, ◌+◌, ◌<◌, ◌≤◌, List, [], ◌∷◌, ◌++◌, map, length, take, get_or, Option, Some, None, refl, sym, ◌∙◌, ap, subst, arith}
use Rattle.std.specs.Option.{option_map}
use Rattle.std.specs.List.{All, AllZip, filter_map, flat_map, enumerate_from}
use Rattle.std.proofs.lemmas.List.{take_all, length-map}
use Rattle.std.proofs.lemmas.Option.{slice_get-map, slice_get-get_or}
use Rattle.bind_forms.specs.declared.bound.BoundWire.{BoundWire}
use Rattle.bind_forms.specs.declared.bound.BoundInstance.{BoundInstance}
use Rattle.bind_forms.specs.Modules.{Setting, HasPorts}
use Rattle.bind_forms.specs.Faults.{NoDirection, NoListing, NoPort}
use Rattle.bind_forms.specs.Binds.{BindsInstance, item_instances}
use Rattle.verilog_tree.specs.Trees as tree
use Rattle.bind_sites.specs.declared.site.Site.{Site as CodeSite}
use Rattle.bind_sites.specs.declared.site.Site.TheVariants as code
use Rattle.bind_sites.specs.Sites.{Operand, operands, Site, Instance, Named, Linked, linked_sites, named_sites, ordered_sites, link_sites, sites}
use Rattle.bind_sites.specs.Scope.{IsAt, Stands}
use Rattle.bind_sites.specs.View.{view_site}
use Rattle.verilog_bind.specs.Fitting.{IsSound, IsUsed}
use Rattle.verilog_bind.specs.Listed.{instance_of, AreSites, InstancesAreSites}
use Rattle.verilog_bind.specs.Sound.{IsSoundNamed, IsSoundOrdered, AreSoundLinks, IsSoundModule}
use Rattle.verilog_bind.proofs.Found.{Somewhere, found_mapped, laid}
use Rattle.verilog_bind.proofs.Zips.{filter_none, filter_one, zip_push, enumerated}

pub sound_names : (setting : Setting) (places : List ℕ) (all : List Site) → IsSoundModule setting places all → IsSound all
sound_names setting places all sound = record {
  known = sound.names;
  inside = sound.ranges;
  directed = λ name listed lacks. sound.ports listed.0 name (NoDirection listed.1 lacks);
  listed = λ name has lacks. sound.ports has.2.0 name (NoListing has.0 has.1 has.2.1 lacks);
  small = sound.small;
}

module _ (law : InstancesAreSites) (all : List Site) (are : AreSites all) (kind name : List ℕ) where
  -- a site of the links stands in the module
  link_stands : (links : tree.Links) (site : Site) → Stands all (Instance kind name links) → Somewhere (link_sites kind links) site → Stands all site
  link_stands links site there within =
      subst (λ (l : List Site). Stands l site) (sym are.1) (law.links are.0 kind name links site (subst (λ (l : List Site). Stands l (Instance kind name links)) are.1 there) within)

  -- the operands of an expression are used, where each is behind a link
  operands_used : (expr : tree.Expr) → ((o : Operand) → Somewhere (operands expr) o → Stands all (Linked o)) → All (IsUsed all) (operands expr)
  operands_used expr h = λ k d lt. (let s = h (get_or (operands expr) k d) (k, slice_get-get_or (operands expr) k d lt) in (s.0, inr s.1))

  of_expr : (e : Option tree.Expr) (expr : tree.Expr) (o : Operand) → e ≡ Some expr → Somewhere (operands expr) o → Somewhere (linked_sites e) (Linked o)
  of_expr e expr o is s = rw is (found_mapped Linked (operands expr) o s)

  named_sound : (setting : Setting) (places : List ℕ) (names : List (List ℕ)) (ls : List tree.NamedLink) → IsSoundModule setting places all → HasPorts setting kind names → Stands all (Instance kind name (tree.Named ls))
      → (link : tree.NamedLink) → Somewhere ls link → IsSoundNamed setting all kind link
  named_sound setting places names ls sound ports there link at =
      let stands : Stands all (Named kind link.name link.expr) = link_stands (tree.Named ls) (Named kind link.name link.expr) there (laid (named_sites kind) ls link (Named kind link.name link.expr) at (0, refl)) in
      record {
        port = (names, ports, λ lacks. sound.ports stands.0 link.name (NoPort kind link.expr names stands.1 ports lacks));
        used = λ expr is. operands_used expr (λ o s. (
            let behind = of_expr link.expr expr o is s in
            link_stands (tree.Named ls) (Linked o) there (laid (named_sites kind) ls link (Linked o) at (suc behind.0, behind.1))));
      }

  ordered_sound : (ls : List (Option tree.Expr)) → Stands all (Instance kind name (tree.Ordered ls)) → (link : Option tree.Expr) → Somewhere ls link → IsSoundOrdered all link
  ordered_sound ls there link at = λ expr is. operands_used expr (λ o s. (
      let behind = of_expr link expr o is s in
      let placed : Somewhere (enumerate_from 0 ls) (0 + at.0, link) = (at.0, enumerated 0 ls at.0 link at.1) in
      link_stands (tree.Ordered ls) (Linked o) there (laid (ordered_sites kind) (enumerate_from 0 ls) (0 + at.0, link) (Linked o) placed (suc behind.0, behind.1))))

  pub sound_links : (setting : Setting) (places : List ℕ) (names : List (List ℕ)) (links : tree.Links) → IsSoundModule setting places all → HasPorts setting kind names → Stands all (Instance kind name links)
      → AreSoundLinks setting all kind links
  sound_links setting places names (tree.Named ls) sound ports there = λ k d lt. named_sound setting places names ls sound ports there (get_or ls k d) (k, slice_get-get_or ls k d lt)
  sound_links setting places names (tree.Ordered ls) sound ports there = λ k d lt. ordered_sound ls there (get_or ls k d) (k, slice_get-get_or ls k d lt)

-- ---- one more instance

pub read : (sites : List CodeSite) (at : ℕ) (default site : CodeSite) → at < length (map view_site sites) → get_or sites at default ≡ site → IsAt (map view_site sites) at (view_site site)
read sites at default site lt is =
    let within : at < length sites = omega (arith, lt, length-map sites view_site) in
    slice_get-map view_site sites at ∙ ap (option_map view_site) (slice_get-get_or sites at default within ∙ ap Some is)

pub instance_more : (setting : Setting) (places : List ℕ) (wires : List BoundWire) (all : List Site) (at : ℕ) (kind name : List ℕ) (links : tree.Links) (old new : List BoundInstance) (bound : BoundInstance) → IsAt all at (Instance kind name links)
    → AllZip (BindsInstance setting places wires) (filter_map instance_of (take at all)) old → BindsInstance setting places wires (kind, record { name = name; links = links }) bound → new ≡ old ++ bound ∷ []
    → AllZip (BindsInstance setting places wires) (filter_map instance_of (take (at + 1) all)) new
instance_more setting places wires all at kind name links old new bound there before binds pushed =
    subst (λ (l : List (List ℕ × tree.Instance)). AllZip (BindsInstance setting places wires) l new) (sym (filter_one instance_of all at (Instance kind name links) (kind, record { name = name; links = links }) there refl))
    (subst (λ (l : List BoundInstance). AllZip (BindsInstance setting places wires) (filter_map instance_of (take at all) ++ (kind, record { name = name; links = links }) ∷ []) l) (sym pushed)
    (zip_push (BindsInstance setting places wires) (filter_map instance_of (take at all)) old (kind, record { name = name; links = links }) bound before binds))

not_instance : (s : CodeSite) → ((kind name : _) (links : _) → s ≡ code.Instance kind name links → ⊥) → instance_of (view_site s) ≡ None
not_instance (code.Instance k n l) h = absurd (h k n l refl)
not_instance (code.Module n) h = refl
not_instance (code.Listed n) h = refl
not_instance (code.Port n o r) h = refl
not_instance (code.Wire n r) h = refl
not_instance (code.Assign t f) h = refl
not_instance (code.Named k n x) h = refl
not_instance (code.Ordered k n x) h = refl
not_instance (code.Assigned o) h = refl
not_instance (code.Linked o) h = refl

pub instance_none : (setting : Setting) (places : List ℕ) (wires : List BoundWire) (sites : List CodeSite) (at : ℕ) (d : CodeSite) (bound : List BoundInstance) → at < length (map view_site sites)
    → ((kind name : _) (links : _) → get_or sites at d ≡ code.Instance kind name links → ⊥) → AllZip (BindsInstance setting places wires) (filter_map instance_of (take at (map view_site sites))) bound
    → AllZip (BindsInstance setting places wires) (filter_map instance_of (take (at + 1) (map view_site sites))) bound
instance_none setting places wires sites at d bound lt none before =
    subst (λ (l : List (List ℕ × tree.Instance)). AllZip (BindsInstance setting places wires) l bound)
    (sym (filter_none instance_of (map view_site sites) at (view_site (get_or sites at d)) (read sites at d (get_or sites at d) lt refl) (not_instance (get_or sites at d) none))) before

pub instances_start : (setting : Setting) (places : List ℕ) (wires : List BoundWire) (all : List Site) (bound : List BoundInstance) → bound ≡ [] → AllZip (BindsInstance setting places wires) (filter_map instance_of (take 0 all)) bound
instances_start setting places wires [] bound e = rw e tt
instances_start setting places wires (s ∷ all) bound e = rw e tt

pub instances_all : (setting : Setting) (places : List ℕ) (wires : List BoundWire) (code_sites : List CodeSite) (at : ℕ) (bound : List BoundInstance) → InstancesAreSites → length code_sites ≤ at
    → AllZip (BindsInstance setting places wires) (filter_map instance_of (take at (map view_site code_sites))) bound
    → (owner : tree.Module) → map view_site code_sites ≡ sites owner → AllZip (BindsInstance setting places wires) (flat_map item_instances owner.items) bound
instances_all setting places wires code_sites at bound law le h owner are =
    subst (λ (l : List (List ℕ × tree.Instance)). AllZip (BindsInstance setting places wires) l bound)
    (ap (filter_map instance_of) (take_all at (map view_site code_sites) (omega (arith, le, length-map code_sites view_site)) ∙ are) ∙ law.listed owner) h
