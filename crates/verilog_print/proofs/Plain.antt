-- Names are their own trees.
use Rattle.std.proofs.Common.{◌≡◌, ℕ, List, map}
use Rattle.std.proofs.lemmas.List.{map-id}

pub same_names : (names : List (List ℕ)) → map (λ (name : List ℕ). name) names ≡ names
same_names = map-id
