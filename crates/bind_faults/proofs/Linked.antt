-- What is found in a module, by its list of sites.
use Rattle.std.proofs.Common.{◌≤◌, ℕ, List, subst}
use Rattle.bind_sites.specs.Sites.{Site}
use Rattle.bind_forms.specs.Modules.{Setting}
use Rattle.bind_forms.specs.Faults.{HasSites}
use Rattle.bind_faults.specs.Sited.{InModule}
use Rattle.bind_faults.specs.Widths.{AreSingle}
use Rattle.bind_faults.specs.Order.{IsClear}
use Rattle.bind_faults.proofs.Places.{one_list, no_double}

pub in_list : (setting : Setting) (at : ℕ) (all : List Site) (Fact : List Site → Type 0) → HasSites setting at all → InModule setting at Fact → Fact all
in_list setting at all Fact has found = subst Fact (one_list setting at found.0 all found.1 has) found.2

pub are_single : (setting : Setting) (count : ℕ) → 1 ≤ count → IsClear setting count → AreSingle setting
are_single setting count some clear = λ at all has. no_double setting count at all some clear has
