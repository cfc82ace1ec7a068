-- A site that is looked at.
use Rattle.std.specs.Prelude.{ℕ}
use Rattle.bind_sites.specs.Scope.{IsAt}
use Rattle.bind_sites.specs.View.{view_site}
use Rattle.bind_names.specs.Scoped.{IsScope, sites_of}
use Rattle.bind_forms.specs.Modules.{Setting}
use Rattle.bind_forms.specs.Faults.{HasSites}
use Rattle.bind_kinds.specs.Meanings.{IsMeantAt}
use Rattle.bind_faults.specs.declared.lookup.Looked.{Looked}

-- it stands at a place of the module at a place of the text, with the names of the module and what its kind means
pub record IsLooked (setting : Setting) (at site : ℕ) (here : Looked) : Type 0 where
  pub is_scope : IsScope here.scope.now
  pub sites : HasSites setting at (sites_of here.scope.now)
  pub there : IsAt (sites_of here.scope.now) site (view_site here.site.now)
  pub meant : IsMeantAt setting (view_site here.site.now) here.meaning
