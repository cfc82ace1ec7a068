-- The list of a module's sites, as the code holds it.
use Rattle.std.specs.Prelude.{◌≡◌, List, ◌++◌, map}
use Rattle.bind_sites.specs.declared.listing.Sites.{Sites}
use Rattle.bind_sites.specs.Sites.{Site}
use Rattle.bind_sites.specs.View.{view_site}

abbrev pub all_sites : Sites → List Site
all_sites s = map view_site s.sites.items

-- these sites were added at the end
abbrev pub Adds : Sites → Sites → List Site → Type 0
Adds old new more = all_sites new ≡ all_sites old ++ more
